use Rattle.std.proofs.Common.{◌≡◌, List, map}
use Rattle.hy_job.specs.Columns as spec
use Rattle.hy_job.specs.Columns.{Row}
use Rattle.hy_group.specs.Joining.{HaveJoined, kinds}
use Rattle.hy_group.proofs.JoinLaws.{AreMixed, left_after}
use Rattle.hy_group.proofs.joining.join_fields.Given as goal

abbrev pub invariant-loop-j : goal.invariant-loop-j
invariant-loop-j l =
    (kinds l.states.items ≡ map spec.agg_of l.made) × (l.left ≡ left_after l.j (map spec.agg_of l.made) l.fields)
    × ((rows : List Row) → HaveJoined (map spec.agg_of l.made) rows l.initial.states.items → AreMixed l.j (map spec.agg_of l.made) rows l.fields l.states.items)
