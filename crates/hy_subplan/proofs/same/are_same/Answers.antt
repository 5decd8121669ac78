use Rattle.std.proofs.Common.{true≢false, sym, ◌∙◌}
use Rattle.std.proofs.lemmas.Slice.Eq.{slice_eq-Decides}
use Rattle.hy_rows.proofs.Keys.{value_decides}
use Rattle.hy_subplan.proofs.same.are_same.Goals as goal

pub returns-clause-yes : goal.returns-clause-yes
returns-clause-yes c e = (slice_eq-Decides value_decides c.args.a.now c.args.b.now c.eq.result c.eq.ensures).0 e

pub returns-clause-no_ : goal.returns-clause-no_
returns-clause-no_ c e same = true≢false (sym ((slice_eq-Decides value_decides c.args.a.now c.args.b.now c.eq.result c.eq.ensures).1 same) ∙ e)
