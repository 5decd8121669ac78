use Rattle.hy_sort.proofs.HandingOn.{hands_to_emit}
use Rattle.hy_sort.proofs.laws.sort_laws.Goals as goal

pub returns : goal.returns
returns c = hands_to_emit
