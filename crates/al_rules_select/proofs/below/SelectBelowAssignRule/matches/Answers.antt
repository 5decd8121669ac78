use Rattle.std.proofs.Common.{subst, map}
use Rattle.al_plan.specs.declared.expr.Var.{Var}
use Rattle.al_plan.specs.declared.expr.Expr.{Expr}
use Rattle.std.proofs.Common.{List}
use Rattle.al_rule.specs.Rules.{Decides}
use Rattle.al_rule.specs.Reads.{ReadsNone}
use Rattle.al_rules_select.proofs.SelectLaws.{other_assign, yes_assign}
use Rattle.al_rules_select.proofs.below.SelectBelowAssignRule.matches.Goals as goal

pub returns-in_default-over : goal.returns-in_default-over
returns-in_default-over c = other_assign c.args.p.now _ c.in-Some.over.now c.in-Some.ensures (λ made input h. c.in_default-over.not-Assign made input h)

pub returns-in-Assign : goal.returns-in-Assign
returns-in-Assign c = yes_assign c.args.p.now c.in-Some.e.now c.in-Some.over.now c.in-Assign.made c.in-Assign.input c.avoids_made.result c.in-Some.ensures c.in-Assign.is (subst (λ (ms : List (Var × Expr)). Decides c.avoids_made.result (ReadsNone (map (λ m. m.0) ms) c.in-Some.e.now)) c.as_slice.ensures c.avoids_made.ensures)
