use Rattle.hy_places.proofs.Cases.{edges_follow, gather_reaches, hash_reaches, merge_reaches, twice_is_not_different}
use Rattle.hy_places.proofs.laws.place_cases.Goals as goal

pub returns : goal.returns
returns c = record {
  hash = hash_reaches;
  gather = gather_reaches;
  merge = merge_reaches;
  follow = edges_follow;
  twice = twice_is_not_different;
}
