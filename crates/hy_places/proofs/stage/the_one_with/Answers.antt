use Rattle.std.proofs.Common.{ℕ, List, nat_eq, ap, sym, ◌∙◌}
use Rattle.std.specs.List.{list_any}
use Rattle.hy_job.proofs.Members.{any_from}
use Rattle.hy_places.proofs.Steps.{not_yet}
use Rattle.hy_places.proofs.stage.the_one_with.Goals as goal

pub returns-then-is_among-clause-inside : goal.returns-then-is_among-clause-inside
returns-then-is_among-clause-inside c =
    any_from c.stage-item.result.activities c.args.activity
    (ap (λ (xs : List ℕ). list_any (λ a. nat_eq a c.args.activity) xs) (sym c.as_slice.ensures) ∙ (sym c.is_among.ensures ∙ c.if-is_among.true))

pub loop-stage-preserved : goal.loop-stage-preserved
loop-stage-preserved c =
    not_yet c.args.stages.now c.loop-stage.stage-index c.stage-item.result c.args.activity c.loop-stage-test.true c.stage-item.is c.loop-stage.invariant
    (ap (λ (xs : List ℕ). list_any (λ a. nat_eq a c.args.activity) xs) (sym c.as_slice.ensures) ∙ (sym c.is_among.ensures ∙ c.if-is_among.false))
