use Rattle.std.proofs.Common.{◌≡◌, List, map, take}
use Rattle.std.specs.List.{sum_by}
use Rattle.al_agg.specs.Part.{agg_of, width}
use Rattle.hy_job.specs.Columns.{Row}
use Rattle.hy_aggregate.specs.Joined.{HaveJoined}
use Rattle.hy_aggregate.proofs.Joining.{MixedJoined}
use Rattle.hy_aggregate.proofs.work.join_row.Given as goal

abbrev pub invariant-loop-j : goal.invariant-loop-j
invariant-loop-j l = record {
  kinds : map agg_of l.states.items ≡ l.made;
  at : l.at ≡ sum_by width (take l.j l.made);
  joined : (rows : List Row) → HaveJoined l.made rows l.initial.states.items → MixedJoined l.j l.made rows l.row l.states.items;
}
