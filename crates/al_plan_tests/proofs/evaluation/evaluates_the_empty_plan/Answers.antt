use Rattle.std.proofs.Common.{false, [], refl, sym, subst}
use Rattle.al_plan.specs.Refines.{NoTwice}
use Rattle.al_plan.proofs.PlanLaws.{each-Empty, narrow-Empty, makes-Empty}
use Rattle.al_plan_tests.proofs.evaluation.evaluates_the_empty_plan.Goals as goal

pub evaluate-requires-clause-fit : goal.evaluate-requires-clause-fit
evaluate-requires-clause-fit g c = record {
  each = subst (λ (t : Type 0). t) (sym (each-Empty false [])) refl;
  narrow = subst (λ (t : Type 0). t) (sym (narrow-Empty [])) tt;
  once = subst NoTwice (sym makes-Empty) tt;
}
