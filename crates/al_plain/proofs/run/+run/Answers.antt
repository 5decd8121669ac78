use Rattle.std.proofs.Common.{List, [], ◌++◌, map, refl, ap, sym, subst, ◌∙◌, arith}
use Rattle.std.specs.List.{All, AllZip}
use Rattle.std.proofs.lemmas.List.{take_all}
use Rattle.al_plan.specs.declared.expr.Var.{Var}
use Rattle.al_plan.specs.Allows.{live}
use Rattle.al_plain.specs.declared.group.Bunch.{Bunch}
use Rattle.al_plain.specs.Rows.{Cells, before_each}
use Rattle.al_plain.specs.Groups.{AreGroups, Extends, alone}
use Rattle.al_plan.specs.declared.plan.Plan.TheVariants as P
use Rattle.al_plain.specs.Gives.{AreWide, sets_of}
use Rattle.al_plain.proofs.Places.{under_Assign, under_Select, under_Project, under_Unnest, under_Subplan, under_Group, under_Distinct, under_Aggregate, under_Order, under_Limit, under_Check, under_Result, left_of_Join, right_of_Join, left_of_LeftJoin, right_of_LeftJoin, left_of_Union, right_of_Union}
use Rattle.al_plain.proofs.RunLaws.{fault_alone, over_alone, fault_groups, over_groups, nested_fault, nested_more, member_wide, handed_on, answer_Scan, answer_Empty, answer_Nested, answer_Assign, answer_Select, answer_Project, answer_Result, answer_Unnest, answer_Aggregate, answer_Limit, answer_Join, answer_LeftJoin, answer_Union, answer_Distinct, answer_Order, answer_Check, answer_Subplan, answer_Group}
use Rattle.al_plain.proofs.run.+run.Goals as goal

pub run-returns-in-Scan : goal.run-returns-in-Scan
run-returns-in-Scan t c =
    answer_Scan (sets_of c.args.at.now.sets.now) c.args.at.now.vars.now c.args.at.now.rows.now c.in-Scan.set c.as_slice.result.now c.args.p.now (c.in-Scan.is ∙ ap (P.Scan c.in-Scan.set) (sym c.as_slice.ensures)) c.scan.result c.scan.ensures.ok c.scan.ensures.err

pub run-returns-in-Empty : goal.run-returns-in-Empty
run-returns-in-Empty t c = answer_Empty (sets_of c.args.at.now.sets.now) c.args.at.now.vars.now c.args.at.now.rows.now c.args.p.now c.in-Empty.is c.empty.result c.empty.ensures.ok c.empty.ensures.err

pub run-returns-in-Nested : goal.run-returns-in-Nested
run-returns-in-Nested t c = answer_Nested (sets_of c.args.at.now.sets.now) c.args.at.now.vars.now c.args.at.now.rows.now c.args.p.now c.in-Nested.is c.copied.result c.copied.ensures.ok c.copied.ensures.err

pub run-returns-in_err-run-in-Assign : goal.run-returns-in_err-run-in-Assign
run-returns-in_err-run-in-Assign t c = handed_on (sets_of c.args.at.now.sets.now) c.args.at.now.vars.now c.args.at.now.rows.now c.get.result.now c.args.p.now (under_Assign c.as_slice-in-Assign.result.now c.get.result.now c.args.p.now (c.in-Assign.is ∙ (λ i. P.Assign (sym c.as_slice-in-Assign.ensures i) (sym c.get.ensures i)))) c.in_err-run-in-Assign.field-0.0 c.in_err-run-in-Assign.ensures c.from_residual.result c.from_residual.ensures.1

pub run-returns-in_ok-run-in-Assign : goal.run-returns-in_ok-run-in-Assign
run-returns-in_ok-run-in-Assign t c = answer_Assign (sets_of c.args.at.now.sets.now) c.args.at.now.vars.now c.args.at.now.rows.now c.as_slice-in-Assign.result.now c.get.result.now c.args.p.now (c.in-Assign.is ∙ (λ i. P.Assign (sym c.as_slice-in-Assign.ensures i) (sym c.get.ensures i))) c.in_ok-run-in-Assign.field-0 c.in_ok-run-in-Assign.ensures c.assign.result c.assign.ensures.ok c.assign.ensures.err

pub run-returns-in_err-run-in-Select : goal.run-returns-in_err-run-in-Select
run-returns-in_err-run-in-Select t c = handed_on (sets_of c.args.at.now.sets.now) c.args.at.now.vars.now c.args.at.now.rows.now c.get-in-Select.result.now c.args.p.now (under_Select c.in-Select.cond c.get-in-Select.result.now c.args.p.now (c.in-Select.is ∙ (λ i. P.Select c.in-Select.cond (sym c.get-in-Select.ensures i)))) c.in_err-run-in-Select.field-0.0 c.in_err-run-in-Select.ensures c.from_residual-in_err-run-in-Select.result c.from_residual-in_err-run-in-Select.ensures.1

pub run-returns-in_ok-run-in-Select : goal.run-returns-in_ok-run-in-Select
run-returns-in_ok-run-in-Select t c = answer_Select (sets_of c.args.at.now.sets.now) c.args.at.now.vars.now c.args.at.now.rows.now c.in-Select.cond c.get-in-Select.result.now c.args.p.now (c.in-Select.is ∙ (λ i. P.Select c.in-Select.cond (sym c.get-in-Select.ensures i))) c.in_ok-run-in-Select.field-0 c.in_ok-run-in-Select.ensures c.select.result c.select.ensures.ok c.select.ensures.err

pub run-returns-in_err-run-in-Project : goal.run-returns-in_err-run-in-Project
run-returns-in_err-run-in-Project t c = handed_on (sets_of c.args.at.now.sets.now) c.args.at.now.vars.now c.args.at.now.rows.now c.get-in-Project.result.now c.args.p.now (under_Project c.as_slice-in-Project.result.now c.get-in-Project.result.now c.args.p.now (c.in-Project.is ∙ (λ i. P.Project (sym c.as_slice-in-Project.ensures i) (sym c.get-in-Project.ensures i)))) c.in_err-run-in-Project.field-0.0 c.in_err-run-in-Project.ensures c.from_residual-in_err-run-in-Project.result c.from_residual-in_err-run-in-Project.ensures.1

pub run-returns-in_ok-run-in-Project : goal.run-returns-in_ok-run-in-Project
run-returns-in_ok-run-in-Project t c = answer_Project (sets_of c.args.at.now.sets.now) c.args.at.now.vars.now c.args.at.now.rows.now c.as_slice-in-Project.result.now c.get-in-Project.result.now c.args.p.now (c.in-Project.is ∙ (λ i. P.Project (sym c.as_slice-in-Project.ensures i) (sym c.get-in-Project.ensures i))) c.in_ok-run-in-Project.field-0 c.in_ok-run-in-Project.ensures c.cut.result c.cut.ensures.ok c.cut.ensures.err

pub run-returns-in_err-run-in-Unnest : goal.run-returns-in_err-run-in-Unnest
run-returns-in_err-run-in-Unnest t c = handed_on (sets_of c.args.at.now.sets.now) c.args.at.now.vars.now c.args.at.now.rows.now c.get-in-Unnest.result.now c.args.p.now (under_Unnest c.in-Unnest.var c.in-Unnest.items c.get-in-Unnest.result.now c.args.p.now (c.in-Unnest.is ∙ (λ i. P.Unnest c.in-Unnest.var c.in-Unnest.items (sym c.get-in-Unnest.ensures i)))) c.in_err-run-in-Unnest.field-0.0 c.in_err-run-in-Unnest.ensures c.from_residual-in_err-run-in-Unnest.result c.from_residual-in_err-run-in-Unnest.ensures.1

pub run-returns-in_ok-run-in-Unnest : goal.run-returns-in_ok-run-in-Unnest
run-returns-in_ok-run-in-Unnest t c = answer_Unnest (sets_of c.args.at.now.sets.now) c.args.at.now.vars.now c.args.at.now.rows.now c.in-Unnest.var c.in-Unnest.items c.get-in-Unnest.result.now c.args.p.now (c.in-Unnest.is ∙ (λ i. P.Unnest c.in-Unnest.var c.in-Unnest.items (sym c.get-in-Unnest.ensures i))) c.in_ok-run-in-Unnest.field-0 c.in_ok-run-in-Unnest.ensures c.unnest.result c.unnest.ensures.ok c.unnest.ensures.err

pub run-returns-in_err-run-in-Subplan : goal.run-returns-in_err-run-in-Subplan
run-returns-in_err-run-in-Subplan t c = handed_on (sets_of c.args.at.now.sets.now) c.args.at.now.vars.now c.args.at.now.rows.now c.get-in-Subplan-2.result.now c.args.p.now (under_Subplan c.get-in-Subplan.result.now c.get-in-Subplan-2.result.now c.args.p.now (c.in-Subplan.is ∙ (λ i. P.Subplan (sym c.get-in-Subplan.ensures i) (sym c.get-in-Subplan-2.ensures i)))) c.in_err-run-in-Subplan.field-0.0 c.in_err-run-in-Subplan.ensures c.from_residual-in_err-run-in-Subplan.result c.from_residual-in_err-run-in-Subplan.ensures.1

pub run-returns-in_ok-run-in-Subplan : goal.run-returns-in_ok-run-in-Subplan
run-returns-in_ok-run-in-Subplan t c = answer_Subplan (sets_of c.args.at.now.sets.now) c.args.at.now.vars.now c.args.at.now.rows.now c.get-in-Subplan.result.now c.get-in-Subplan-2.result.now c.args.p.now (c.in-Subplan.is ∙ (λ i. P.Subplan (sym c.get-in-Subplan.ensures i) (sym c.get-in-Subplan-2.ensures i))) c.in_ok-run-in-Subplan.field-0 c.in_ok-run-in-Subplan.ensures c.subplan.result c.subplan.ensures

pub run-returns-in_err-run-in-Group : goal.run-returns-in_err-run-in-Group
run-returns-in_err-run-in-Group t c = handed_on (sets_of c.args.at.now.sets.now) c.args.at.now.vars.now c.args.at.now.rows.now c.get-in-Group-2.result.now c.args.p.now (under_Group c.as_slice-in-Group.result.now c.get-in-Group.result.now c.get-in-Group-2.result.now c.args.p.now (c.in-Group.is ∙ (λ i. P.Group (sym c.as_slice-in-Group.ensures i) (sym c.get-in-Group.ensures i) (sym c.get-in-Group-2.ensures i)))) c.in_err-run-in-Group.field-0.0 c.in_err-run-in-Group.ensures c.from_residual-in_err-run-in-Group.result c.from_residual-in_err-run-in-Group.ensures.1

pub run-returns-in_ok-run-in-Group : goal.run-returns-in_ok-run-in-Group
run-returns-in_ok-run-in-Group t c = answer_Group (sets_of c.args.at.now.sets.now) c.args.at.now.vars.now c.args.at.now.rows.now c.as_slice-in-Group.result.now c.get-in-Group.result.now c.get-in-Group-2.result.now c.args.p.now (c.in-Group.is ∙ (λ i. P.Group (sym c.as_slice-in-Group.ensures i) (sym c.get-in-Group.ensures i) (sym c.get-in-Group-2.ensures i))) c.in_ok-run-in-Group.field-0 c.in_ok-run-in-Group.ensures c.group.result c.group.ensures

pub run-returns-in_err-run-in-Distinct : goal.run-returns-in_err-run-in-Distinct
run-returns-in_err-run-in-Distinct t c = handed_on (sets_of c.args.at.now.sets.now) c.args.at.now.vars.now c.args.at.now.rows.now c.get-in-Distinct.result.now c.args.p.now (under_Distinct c.get-in-Distinct.result.now c.args.p.now (c.in-Distinct.is ∙ (λ i. P.Distinct (sym c.get-in-Distinct.ensures i)))) c.in_err-run-in-Distinct.field-0.0 c.in_err-run-in-Distinct.ensures c.from_residual-in_err-run-in-Distinct.result c.from_residual-in_err-run-in-Distinct.ensures.1

pub run-returns-in_ok-run-in-Distinct : goal.run-returns-in_ok-run-in-Distinct
run-returns-in_ok-run-in-Distinct t c = answer_Distinct (sets_of c.args.at.now.sets.now) c.args.at.now.vars.now c.args.at.now.rows.now c.get-in-Distinct.result.now c.args.p.now (c.in-Distinct.is ∙ (λ i. P.Distinct (sym c.get-in-Distinct.ensures i))) c.in_ok-run-in-Distinct.field-0 c.in_ok-run-in-Distinct.ensures c.distinct.result c.distinct.ensures.ok c.distinct.ensures.err

pub run-returns-in_err-run-in-Aggregate : goal.run-returns-in_err-run-in-Aggregate
run-returns-in_err-run-in-Aggregate t c = handed_on (sets_of c.args.at.now.sets.now) c.args.at.now.vars.now c.args.at.now.rows.now c.get-in-Aggregate.result.now c.args.p.now (under_Aggregate c.as_slice-in-Aggregate.result.now c.get-in-Aggregate.result.now c.args.p.now (c.in-Aggregate.is ∙ (λ i. P.Aggregate (sym c.as_slice-in-Aggregate.ensures i) (sym c.get-in-Aggregate.ensures i)))) c.in_err-run-in-Aggregate.field-0.0 c.in_err-run-in-Aggregate.ensures c.from_residual-in_err-run-in-Aggregate.result c.from_residual-in_err-run-in-Aggregate.ensures.1

pub run-returns-in_ok-run-in-Aggregate : goal.run-returns-in_ok-run-in-Aggregate
run-returns-in_ok-run-in-Aggregate t c = answer_Aggregate (sets_of c.args.at.now.sets.now) c.args.at.now.vars.now c.args.at.now.rows.now c.as_slice-in-Aggregate.result.now c.get-in-Aggregate.result.now c.args.p.now (c.in-Aggregate.is ∙ (λ i. P.Aggregate (sym c.as_slice-in-Aggregate.ensures i) (sym c.get-in-Aggregate.ensures i))) c.in_ok-run-in-Aggregate.field-0 c.in_ok-run-in-Aggregate.ensures c.aggregate.result c.aggregate.ensures.ok c.aggregate.ensures.err

pub run-returns-in_err-run-in-Order : goal.run-returns-in_err-run-in-Order
run-returns-in_err-run-in-Order t c = handed_on (sets_of c.args.at.now.sets.now) c.args.at.now.vars.now c.args.at.now.rows.now c.get-in-Order.result.now c.args.p.now (under_Order c.as_slice-in-Order.result.now c.get-in-Order.result.now c.args.p.now (c.in-Order.is ∙ (λ i. P.Order (sym c.as_slice-in-Order.ensures i) (sym c.get-in-Order.ensures i)))) c.in_err-run-in-Order.field-0.0 c.in_err-run-in-Order.ensures c.from_residual-in_err-run-in-Order.result c.from_residual-in_err-run-in-Order.ensures.1

pub run-returns-in_ok-run-in-Order : goal.run-returns-in_ok-run-in-Order
run-returns-in_ok-run-in-Order t c = answer_Order (sets_of c.args.at.now.sets.now) c.args.at.now.vars.now c.args.at.now.rows.now c.as_slice-in-Order.result.now c.get-in-Order.result.now c.args.p.now (c.in-Order.is ∙ (λ i. P.Order (sym c.as_slice-in-Order.ensures i) (sym c.get-in-Order.ensures i))) c.in_ok-run-in-Order.field-0 c.in_ok-run-in-Order.ensures c.order.result c.order.ensures.ok c.order.ensures.err

pub run-returns-in_err-run-in-Limit : goal.run-returns-in_err-run-in-Limit
run-returns-in_err-run-in-Limit t c = handed_on (sets_of c.args.at.now.sets.now) c.args.at.now.vars.now c.args.at.now.rows.now c.get-in-Limit.result.now c.args.p.now (under_Limit c.in-Limit.n c.in-Limit.k c.get-in-Limit.result.now c.args.p.now (c.in-Limit.is ∙ (λ i. P.Limit c.in-Limit.n c.in-Limit.k (sym c.get-in-Limit.ensures i)))) c.in_err-run-in-Limit.field-0.0 c.in_err-run-in-Limit.ensures c.from_residual-in_err-run-in-Limit.result c.from_residual-in_err-run-in-Limit.ensures.1

pub run-returns-in_ok-run-in-Limit : goal.run-returns-in_ok-run-in-Limit
run-returns-in_ok-run-in-Limit t c = answer_Limit (sets_of c.args.at.now.sets.now) c.args.at.now.vars.now c.args.at.now.rows.now c.in-Limit.n c.in-Limit.k c.get-in-Limit.result.now c.args.p.now (c.in-Limit.is ∙ (λ i. P.Limit c.in-Limit.n c.in-Limit.k (sym c.get-in-Limit.ensures i))) c.in_ok-run-in-Limit.field-0 c.in_ok-run-in-Limit.ensures c.limit.result c.limit.ensures.ok c.limit.ensures.err

pub run-returns-in_err-run-in-Check : goal.run-returns-in_err-run-in-Check
run-returns-in_err-run-in-Check t c = handed_on (sets_of c.args.at.now.sets.now) c.args.at.now.vars.now c.args.at.now.rows.now c.get-in-Check.result.now c.args.p.now (under_Check c.in-Check.name c.in-Check.cond c.get-in-Check.result.now c.args.p.now (c.in-Check.is ∙ (λ i. P.Check c.in-Check.name c.in-Check.cond (sym c.get-in-Check.ensures i)))) c.in_err-run-in-Check.field-0.0 c.in_err-run-in-Check.ensures c.from_residual-in_err-run-in-Check.result c.from_residual-in_err-run-in-Check.ensures.1

pub run-returns-in_ok-run-in-Check : goal.run-returns-in_ok-run-in-Check
run-returns-in_ok-run-in-Check t c = answer_Check (sets_of c.args.at.now.sets.now) c.args.at.now.vars.now c.args.at.now.rows.now c.in-Check.name c.in-Check.cond c.get-in-Check.result.now c.args.p.now (c.in-Check.is ∙ (λ i. P.Check c.in-Check.name c.in-Check.cond (sym c.get-in-Check.ensures i))) c.in_ok-run-in-Check.field-0 c.in_ok-run-in-Check.ensures c.check.result c.check.ensures.ok c.check.ensures.err

pub run-returns-in_err-run-in-Result : goal.run-returns-in_err-run-in-Result
run-returns-in_err-run-in-Result t c = handed_on (sets_of c.args.at.now.sets.now) c.args.at.now.vars.now c.args.at.now.rows.now c.get-in-Result.result.now c.args.p.now (under_Result c.as_slice-in-Result.result.now c.get-in-Result.result.now c.args.p.now (c.in-Result.is ∙ (λ i. P.Result (sym c.as_slice-in-Result.ensures i) (sym c.get-in-Result.ensures i)))) c.in_err-run-in-Result.field-0.0 c.in_err-run-in-Result.ensures c.from_residual-in_err-run-in-Result.result c.from_residual-in_err-run-in-Result.ensures.1

pub run-returns-in_ok-run-in-Result : goal.run-returns-in_ok-run-in-Result
run-returns-in_ok-run-in-Result t c = answer_Result (sets_of c.args.at.now.sets.now) c.args.at.now.vars.now c.args.at.now.rows.now c.as_slice-in-Result.result.now c.get-in-Result.result.now c.args.p.now (c.in-Result.is ∙ (λ i. P.Result (sym c.as_slice-in-Result.ensures i) (sym c.get-in-Result.ensures i))) c.in_ok-run-in-Result.field-0 c.in_ok-run-in-Result.ensures c.cut-in-Result.result c.cut-in-Result.ensures.ok c.cut-in-Result.ensures.err

pub run-returns-in_err-left-in-Join : goal.run-returns-in_err-left-in-Join
run-returns-in_err-left-in-Join t c = handed_on (sets_of c.args.at.now.sets.now) c.args.at.now.vars.now c.args.at.now.rows.now c.get-in-Join.result.now c.args.p.now (left_of_Join c.in-Join.cond c.get-in-Join.result.now c.in-Join.right c.args.p.now (c.in-Join.is ∙ (λ i. P.Join c.in-Join.cond (sym c.get-in-Join.ensures i) c.in-Join.right))) c.in_err-left-in-Join.field-0.0 c.in_err-left-in-Join.ensures c.from_residual-in_err-left-in-Join.result c.from_residual-in_err-left-in-Join.ensures.1

pub run-returns-in_err-run-in-Join : goal.run-returns-in_err-run-in-Join
run-returns-in_err-run-in-Join t c = handed_on (sets_of c.args.at.now.sets.now) c.args.at.now.vars.now c.args.at.now.rows.now c.get-in-Join-2.result.now c.args.p.now (right_of_Join c.in-Join.cond c.in-Join.left c.get-in-Join-2.result.now c.args.p.now (c.in-Join.is ∙ (λ i. P.Join c.in-Join.cond c.in-Join.left (sym c.get-in-Join-2.ensures i)))) c.in_err-run-in-Join.field-0.0 c.in_err-run-in-Join.ensures c.from_residual-in_err-run-in-Join.result c.from_residual-in_err-run-in-Join.ensures.1

pub run-returns-in_ok-run-in-Join : goal.run-returns-in_ok-run-in-Join
run-returns-in_ok-run-in-Join t c = answer_Join (sets_of c.args.at.now.sets.now) c.args.at.now.vars.now c.args.at.now.rows.now c.in-Join.cond c.get-in-Join.result.now c.get-in-Join-2.result.now c.args.p.now (c.in-Join.is ∙ (λ i. P.Join c.in-Join.cond (sym c.get-in-Join.ensures i) (sym c.get-in-Join-2.ensures i))) c.in_ok-left-in-Join.left c.in_ok-run-in-Join.field-0 c.in_ok-left-in-Join.ensures c.in_ok-run-in-Join.ensures c.join.result c.join.ensures.ok c.join.ensures.err

pub run-returns-in_err-left-in-LeftJoin : goal.run-returns-in_err-left-in-LeftJoin
run-returns-in_err-left-in-LeftJoin t c = handed_on (sets_of c.args.at.now.sets.now) c.args.at.now.vars.now c.args.at.now.rows.now c.get-in-LeftJoin.result.now c.args.p.now (left_of_LeftJoin c.in-LeftJoin.cond c.get-in-LeftJoin.result.now c.in-LeftJoin.right c.args.p.now (c.in-LeftJoin.is ∙ (λ i. P.LeftJoin c.in-LeftJoin.cond (sym c.get-in-LeftJoin.ensures i) c.in-LeftJoin.right))) c.in_err-left-in-LeftJoin.field-0.0 c.in_err-left-in-LeftJoin.ensures c.from_residual-in_err-left-in-LeftJoin.result c.from_residual-in_err-left-in-LeftJoin.ensures.1

pub run-returns-in_err-run-in-LeftJoin : goal.run-returns-in_err-run-in-LeftJoin
run-returns-in_err-run-in-LeftJoin t c = handed_on (sets_of c.args.at.now.sets.now) c.args.at.now.vars.now c.args.at.now.rows.now c.get-in-LeftJoin-2.result.now c.args.p.now (right_of_LeftJoin c.in-LeftJoin.cond c.in-LeftJoin.left c.get-in-LeftJoin-2.result.now c.args.p.now (c.in-LeftJoin.is ∙ (λ i. P.LeftJoin c.in-LeftJoin.cond c.in-LeftJoin.left (sym c.get-in-LeftJoin-2.ensures i)))) c.in_err-run-in-LeftJoin.field-0.0 c.in_err-run-in-LeftJoin.ensures c.from_residual-in_err-run-in-LeftJoin.result c.from_residual-in_err-run-in-LeftJoin.ensures.1

pub run-returns-in_ok-run-in-LeftJoin : goal.run-returns-in_ok-run-in-LeftJoin
run-returns-in_ok-run-in-LeftJoin t c = answer_LeftJoin (sets_of c.args.at.now.sets.now) c.args.at.now.vars.now c.args.at.now.rows.now c.in-LeftJoin.cond c.get-in-LeftJoin.result.now c.get-in-LeftJoin-2.result.now c.args.p.now (c.in-LeftJoin.is ∙ (λ i. P.LeftJoin c.in-LeftJoin.cond (sym c.get-in-LeftJoin.ensures i) (sym c.get-in-LeftJoin-2.ensures i))) c.in_ok-left-in-LeftJoin.left c.in_ok-run-in-LeftJoin.field-0 c.in_ok-left-in-LeftJoin.ensures c.in_ok-run-in-LeftJoin.ensures c.left_join.result c.left_join.ensures.ok c.left_join.ensures.err

pub run-returns-in_err-left-in-Union : goal.run-returns-in_err-left-in-Union
run-returns-in_err-left-in-Union t c = handed_on (sets_of c.args.at.now.sets.now) c.args.at.now.vars.now c.args.at.now.rows.now c.get-in-Union.result.now c.args.p.now (left_of_Union c.in-Union.made c.in-Union.left_vars c.in-Union.right_vars c.get-in-Union.result.now c.in-Union.right c.args.p.now (c.in-Union.is ∙ (λ i. P.Union c.in-Union.made c.in-Union.left_vars c.in-Union.right_vars (sym c.get-in-Union.ensures i) c.in-Union.right))) c.in_err-left-in-Union.field-0.0 c.in_err-left-in-Union.ensures c.from_residual-in_err-left-in-Union.result c.from_residual-in_err-left-in-Union.ensures.1

pub run-returns-in_err-right-in-Union : goal.run-returns-in_err-right-in-Union
run-returns-in_err-right-in-Union t c = handed_on (sets_of c.args.at.now.sets.now) c.args.at.now.vars.now c.args.at.now.rows.now c.get-in-Union-2.result.now c.args.p.now (right_of_Union c.in-Union.made c.in-Union.left_vars c.in-Union.right_vars c.in-Union.left c.get-in-Union-2.result.now c.args.p.now (c.in-Union.is ∙ (λ i. P.Union c.in-Union.made c.in-Union.left_vars c.in-Union.right_vars c.in-Union.left (sym c.get-in-Union-2.ensures i)))) c.in_err-right-in-Union.field-0.0 c.in_err-right-in-Union.ensures c.from_residual-in_err-right-in-Union.result c.from_residual-in_err-right-in-Union.ensures.1

pub run-returns-in_ok-right-in-Union : goal.run-returns-in_ok-right-in-Union
run-returns-in_ok-right-in-Union t c = answer_Union (sets_of c.args.at.now.sets.now) c.args.at.now.vars.now c.args.at.now.rows.now c.as_slice-in-Union.result.now c.as_slice-in-Union-2.result.now c.as_slice-in-Union-3.result.now c.get-in-Union.result.now c.get-in-Union-2.result.now c.args.p.now (c.in-Union.is ∙ (λ i. P.Union (sym c.as_slice-in-Union.ensures i) (sym c.as_slice-in-Union-2.ensures i) (sym c.as_slice-in-Union-3.ensures i) (sym c.get-in-Union.ensures i) (sym c.get-in-Union-2.ensures i))) c.in_ok-left-in-Union.left c.in_ok-right-in-Union.right c.in_ok-left-in-Union.ensures c.in_ok-right-in-Union.ensures c.union.result c.union.ensures.ok c.union.ensures.err

pub subplan-returns-in_err-inner : goal.subplan-returns-in_err-inner
subplan-returns-in_err-inner t c =
    fault_alone c.args.nested.now (sets_of c.args.sets.now) c.args.input.vars c.as_slice-2.result.now c.args.input.rows c.as_slice-3.result.now c.as_slice-2.ensures (c.as_slice-3.ensures ∙ c.in_ok-bunches.ensures ∙ ap (map alone) c.as_slice.ensures) c.in_err-inner.field-0.0 c.in_err-inner.ensures c.from_residual-in_err-inner.result c.from_residual-in_err-inner.ensures.1

pub subplan-returns : goal.subplan-returns
subplan-returns t c =
    over_alone c.args.nested.now (sets_of c.args.sets.now) c.args.input.vars c.as_slice-2.result.now c.args.input.rows c.as_slice-3.result.now c.as_slice-2.ensures (c.as_slice-3.ensures ∙ c.in_ok-bunches.ensures ∙ ap (map alone) c.as_slice.ensures) c.in_ok-inner.inner c.in_ok-inner.ensures
    (record { vars = c.in_ok-vars.vars; rows = c.in_ok-inner.inner.rows }) (c.in_ok-vars.ensures ∙ (λ i. c.as_slice-4.ensures i ++ c.as_slice-5.ensures i)) refl

pub group-returns-in_err-inner : goal.group-returns-in_err-inner
group-returns-in_err-inner t c =
    fault_groups c.args.nested.now (sets_of c.args.sets.now) c.args.keys.now c.args.input.vars c.as_slice-3.result.now c.args.input.rows c.in_ok-groups.groups c.as_slice-4.result.now c.as_slice-3.ensures c.as_slice-4.ensures (subst (λ (vs : List Var). AreGroups c.args.keys.now vs c.args.input.rows c.in_ok-groups.groups) c.as_slice.ensures (subst (λ (rs : List Cells). AreGroups c.args.keys.now c.as_slice.result.now rs c.in_ok-groups.groups) c.as_slice-2.ensures c.in_ok-groups.ensures)) c.in_err-inner.field-0.0 c.in_err-inner.ensures c.from_residual-in_err-inner.result c.from_residual-in_err-inner.ensures.1

pub group-returns : goal.group-returns
group-returns t c =
    over_groups c.args.nested.now (sets_of c.args.sets.now) c.args.keys.now c.args.input.vars c.as_slice-3.result.now c.args.input.rows c.in_ok-groups.groups c.as_slice-4.result.now c.as_slice-3.ensures c.as_slice-4.ensures (subst (λ (vs : List Var). AreGroups c.args.keys.now vs c.args.input.rows c.in_ok-groups.groups) c.as_slice.ensures (subst (λ (rs : List Cells). AreGroups c.args.keys.now c.as_slice.result.now rs c.in_ok-groups.groups) c.as_slice-2.ensures c.in_ok-groups.ensures)) c.in_ok-inner.inner c.in_ok-inner.ensures
    (record { vars = c.in_ok-vars.vars; rows = c.in_ok-inner.inner.rows }) (c.in_ok-vars.ensures ∙ (λ i. (c.as_slice-5.ensures ∙ c.in_ok-new.ensures) i ++ c.as_slice-6.ensures i)) refl

pub nest-returns-in_err-none : goal.nest-returns-in_err-none
nest-returns-in_err-none t c =
    nested_fault c.args.nested.now (sets_of c.args.sets.now) c.args.vars.now (live c.args.nested.now c.args.vars.now) (All (λ (b : Bunch). AreWide c.args.vars.now b.members) c.args.bunches.now) (AllZip (Extends c.args.nested.now (sets_of c.args.sets.now) c.args.vars.now (live c.args.nested.now c.args.vars.now)) c.args.bunches.now)
    [] (λ w k d low. absurd (omega arith)) c.in_err-none.field-0.0 c.in_err-none.ensures c.from_residual.result c.from_residual.ensures.1

pub nest-returns-in_err-inner : goal.nest-returns-in_err-inner
nest-returns-in_err-inner t c =
    nested_fault c.args.nested.now (sets_of c.args.sets.now) c.args.vars.now (live c.args.nested.now c.args.vars.now) (All (λ (b : Bunch). AreWide c.args.vars.now b.members) c.args.bunches.now) (AllZip (Extends c.args.nested.now (sets_of c.args.sets.now) c.args.vars.now (live c.args.nested.now c.args.vars.now)) c.args.bunches.now)
    c.as_slice-members.result.now (member_wide c.args.nested.now (sets_of c.args.sets.now) c.args.vars.now c.args.bunches.now c.loop-bunch.bunch-index c.bunch-item.result c.as_slice-members.result.now c.loop-bunch-test.true c.bunch-item.is c.as_slice-members.ensures) c.in_err-inner.field-0.0 c.in_err-inner.ensures c.from_residual-in_err-inner.result c.from_residual-in_err-inner.ensures.1

pub nest-returns : goal.nest-returns
nest-returns t c =
    let all = take_all c.loop-bunch.bunch-index c.args.bunches.now c.loop-bunch-test.false in
    (c.in_ok-none.ensures.0, λ k w. subst (λ (bs : List Bunch). AllZip (Extends c.args.nested.now (sets_of c.args.sets.now) c.args.vars.now (live c.args.nested.now c.args.vars.now)) bs c.loop-bunch.rows) all (c.loop-bunch.invariant k w))

pub nest-loop-bunch-preserved : goal.nest-loop-bunch-preserved
nest-loop-bunch-preserved t c =
    let grown = c.in_ok-append.ensures ∙ ap (λ (rs : List Cells). c.loop-bunch.rows ++ rs) (c.in_ok-before_each.ensures ∙ ap (before_each c.bunch-item.result.head) c.as_slice.ensures) in
    nested_more c.args.nested.now (sets_of c.args.sets.now) c.args.vars.now c.args.bunches.now c.loop-bunch.rows c.append.new.rows c.loop-bunch.bunch-index c.bunch-item.result c.as_slice-members.result.now c.in_ok-inner.inner c.loop-bunch-test.true c.bunch-item.is c.as_slice-members.ensures c.in_ok-inner.ensures grown c.loop-bunch.invariant
