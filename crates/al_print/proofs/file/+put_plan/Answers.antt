use Rattle.std.proofs.Common.{ap, sym, ◌∙◌, ◌++◌, List, codes}
use Rattle.al_plan.specs.declared.expr.Var.{Var}
use Rattle.al_plan.specs.declared.plan.Plan.{Plan}
use Rattle.al_plan.specs.Grammar.{Marked, operator, plan_words, variables}
use Rattle.al_plan.proofs.GrammarLaws.{plan_words-Project, plan_words-Subplan, plan_words-Union}
use Rattle.al_print.proofs.LineLaws.{operator_of_two, operator_of_five}
use Rattle.al_print.proofs.file.+put_plan.Goals as goal

pub returns-in_ok-put_plan-in-Project : goal.returns-in_ok-put_plan-in-Project
returns-in_ok-put_plan-in-Project t c =
    operator_of_two c.close-in-Project.result c.args.line.now c.operator-in-Project.new.self c.put_vars-in-Project.new.line c.put_plan-in-Project.new.line c.close-in-Project.new.self
    (codes "project") (variables c.as_slice-in-Project.result.now) (plan_words c.get-in-Project.result.now) (plan_words c.args.p.now)
    (ap plan_words c.in-Project.is ∙ plan_words-Project c.in-Project.vars c.in-Project.input
    ∙ ap (λ vs. operator (codes "project") (variables vs ++ plan_words c.in-Project.input)) (sym c.as_slice-in-Project.ensures)
    ∙ ap (λ p. operator (codes "project") (variables c.as_slice-in-Project.result.now ++ plan_words p)) (sym c.get-in-Project.ensures))
    c.in_ok-operator-in-Project.ensures c.in_ok-put_vars-in-Project.ensures c.in_ok-put_plan-in-Project.ensures c.close-in-Project.ensures

pub returns-in_ok-put_plan-in-Subplan-2 : goal.returns-in_ok-put_plan-in-Subplan-2
returns-in_ok-put_plan-in-Subplan-2 t c =
    operator_of_two c.close-in-Subplan.result c.args.line.now c.operator-in-Subplan.new.self c.put_plan-in-Subplan.new.line c.put_plan-in-Subplan-2.new.line c.close-in-Subplan.new.self
    (codes "subplan") (plan_words c.get-in-Subplan.result.now) (plan_words c.get-in-Subplan-2.result.now) (plan_words c.args.p.now)
    (ap plan_words c.in-Subplan.is ∙ plan_words-Subplan c.in-Subplan.nested c.in-Subplan.input
    ∙ ap (λ n. operator (codes "subplan") (plan_words n ++ plan_words c.in-Subplan.input)) (sym c.get-in-Subplan.ensures)
    ∙ ap (λ p. operator (codes "subplan") (plan_words c.get-in-Subplan.result.now ++ plan_words p)) (sym c.get-in-Subplan-2.ensures))
    c.in_ok-operator-in-Subplan.ensures c.in_ok-put_plan-in-Subplan.ensures c.in_ok-put_plan-in-Subplan-2.ensures c.close-in-Subplan.ensures

abbrev union_words : List Var → List Var → List Var → Plan → Plan → List Marked
union_words made ls rs l r = operator (codes "union") (variables made ++ (variables ls ++ (variables rs ++ (plan_words l ++ plan_words r))))

pub returns-in_ok-put_plan-in-Union-2 : goal.returns-in_ok-put_plan-in-Union-2
returns-in_ok-put_plan-in-Union-2 t c =
    operator_of_five c.close-in-Union.result c.args.line.now c.operator-in-Union.new.self c.put_vars-in-Union.new.line c.put_vars-in-Union-2.new.line c.put_vars-in-Union-3.new.line
    c.put_plan-in-Union.new.line c.put_plan-in-Union-2.new.line c.close-in-Union.new.self
    (codes "union") (variables c.as_slice-in-Union.result.now) (variables c.as_slice-in-Union-2.result.now) (variables c.as_slice-in-Union-3.result.now) (plan_words c.get-in-Union.result.now) (plan_words c.get-in-Union-2.result.now) (plan_words c.args.p.now)
    (ap plan_words c.in-Union.is ∙ plan_words-Union c.in-Union.made c.in-Union.left_vars c.in-Union.right_vars c.in-Union.left c.in-Union.right
    ∙ ap (λ v. union_words v c.in-Union.left_vars c.in-Union.right_vars c.in-Union.left c.in-Union.right) (sym c.as_slice-in-Union.ensures)
    ∙ ap (λ v. union_words c.as_slice-in-Union.result.now v c.in-Union.right_vars c.in-Union.left c.in-Union.right) (sym c.as_slice-in-Union-2.ensures)
    ∙ ap (λ v. union_words c.as_slice-in-Union.result.now c.as_slice-in-Union-2.result.now v c.in-Union.left c.in-Union.right) (sym c.as_slice-in-Union-3.ensures)
    ∙ ap (λ l. union_words c.as_slice-in-Union.result.now c.as_slice-in-Union-2.result.now c.as_slice-in-Union-3.result.now l c.in-Union.right) (sym c.get-in-Union.ensures)
    ∙ ap (λ r. union_words c.as_slice-in-Union.result.now c.as_slice-in-Union-2.result.now c.as_slice-in-Union-3.result.now c.get-in-Union.result.now r) (sym c.get-in-Union-2.ensures))
    c.in_ok-operator-in-Union.ensures c.in_ok-put_vars-in-Union.ensures c.in_ok-put_vars-in-Union-2.ensures c.in_ok-put_vars-in-Union-3.ensures
    c.in_ok-put_plan-in-Union.ensures c.in_ok-put_plan-in-Union-2.ensures c.close-in-Union.ensures
