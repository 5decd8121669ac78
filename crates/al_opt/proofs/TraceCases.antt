-- Which small sets of rules leave no choice.
use Rattle.std.proofs.Common.{◌≡◌, inl, inr, refl, ap, sym, ◌∙◌, arith}
use Rattle.al_plan.specs.declared.plan.Plan.{out-Plan}
use Rattle.al_plan.specs.declared.plan.Plan.TheOpen as L
use Rattle.al_rule.specs.WalkCases.{bare, single, double}
use Rattle.al_rule.proofs.Operators.{out-Empty, out-Distinct}
use Rattle.al_opt.specs.TraceCases.{OneRuleIsDetermined, TwoRulesAreDetermined, EitherIsDetermined}

pub one_rule : OneRuleIsDetermined
one_rule k low p q r (at, to) (here, is) = to ∙ sym is

pub two_rules : TwoRulesAreDetermined
two_rules k low p q r (at, to) (here, is) = to ∙ sym is

bare_is_not : bare ≡ double → ⊥
bare_is_not e = let f : L.Empty ≡ L.Distinct single = sym out-Empty ∙ ap out-Plan e ∙ out-Distinct single in absurd cc

pub either : EitherIsDetermined → ⊥
either one = bare_is_not (one 0 (omega arith) single bare double (refl, inl refl) (refl, inr refl))
