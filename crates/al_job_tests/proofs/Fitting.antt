-- The plan of a test fits.
use Rattle.std.proofs.Common.{false, [], refl, sym, subst}
use Rattle.al_plan.specs.declared.plan.Plan.TheVariants as P
use Rattle.al_plan.specs.Refines.{Fit, NoTwice}
use Rattle.al_plan.proofs.PlanLaws.{each-Empty, narrow-Empty, makes-Empty}

pub fit_empty : Fit P.Empty
fit_empty = record {
  each = subst (λ (t : Type 0). t) (sym (each-Empty false [])) refl;
  narrow = subst (λ (t : Type 0). t) (sym (narrow-Empty [])) tt;
  once = subst NoTwice (sym makes-Empty) tt;
}
