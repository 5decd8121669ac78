use Rattle.std.proofs.Common.{sym, ◌∙◌}
use Rattle.std.proofs.lemmas.List.Folds.{list_all-map}
use Rattle.al_infer.specs.Asked.{asks}
use Rattle.al_infer.proofs.ListLaws.{stops, ends}
use Rattle.al_infer.proofs.exprs.assigned_keep.Goals as goal

pub returns-then-not-keeps : goal.returns-then-not-keeps
returns-then-not-keeps c =
    stops (λ m. asks c.args.asked m.1) _ c.args.made.now c.loop-e.e-index (list_all-map (asks c.args.asked) (λ m. m.1) c.args.made.now) c.loop-e-item.result c.loop-e-test.true c.loop-e-item.is
    (sym c.keeps.ensures ∙ c.if-not-keeps.true)

pub returns : goal.returns
returns c =
    ends (λ m. asks c.args.asked m.1) _ c.args.made.now c.loop-e.e-index (list_all-map (asks c.args.asked) (λ m. m.1) c.args.made.now) c.loop-e-test.false c.loop-e.invariant
