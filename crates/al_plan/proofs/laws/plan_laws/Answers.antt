use Rattle.al_plan.proofs.Orders.{free}
use Rattle.al_plan.proofs.Within.{within}
use Rattle.al_plan.proofs.NoFault.{checks_pass, passes_more}
use Rattle.al_plan.proofs.Lives.{live_once}
use Rattle.al_plan.proofs.Refine.{refines-refl, refines-trans, replaces-refl, replaces-trans, under_Assign, under_Select, under_Project, under_Unnest, under_Subplan, under_Join, under_LeftJoin, under_Group, under_Distinct, under_Union, under_Aggregate, under_Order, under_Limit, under_Check, under_Result}
use Rattle.al_plan.proofs.Idle.{outer_idle}
use Rattle.al_plan.proofs.laws.plan_laws.Goals as goal

pub returns-clause-free : goal.returns-clause-free
returns-clause-free c = free

pub returns-clause-within : goal.returns-clause-within
returns-clause-within c = within

pub returns-clause-live_once : goal.returns-clause-live_once
returns-clause-live_once c = live_once

pub returns-clause-checks_add_none : goal.returns-clause-checks_add_none
returns-clause-checks_add_none c = passes_more

pub returns-clause-checks_pass : goal.returns-clause-checks_pass
returns-clause-checks_pass c = checks_pass

pub returns-clause-outer_idle : goal.returns-clause-outer_idle
returns-clause-outer_idle c = outer_idle

pub returns-clause-refines_itself : goal.returns-clause-refines_itself
returns-clause-refines_itself c = refines-refl

pub returns-clause-refines_through : goal.returns-clause-refines_through
returns-clause-refines_through c = refines-trans

pub returns-clause-replaces_itself : goal.returns-clause-replaces_itself
returns-clause-replaces_itself c = replaces-refl

pub returns-clause-replaces_through : goal.returns-clause-replaces_through
returns-clause-replaces_through c = replaces-trans

pub returns-clause-replaces_under : goal.returns-clause-replaces_under
returns-clause-replaces_under c = record {
  under_assign = under_Assign;
  under_select = under_Select;
  under_project = under_Project;
  under_unnest = under_Unnest;
  under_subplan = under_Subplan;
  under_join = under_Join;
  under_left_join = under_LeftJoin;
  under_group = under_Group;
  under_distinct = under_Distinct;
  under_union = under_Union;
  under_aggregate = under_Aggregate;
  under_order = under_Order;
  under_limit = under_Limit;
  under_check = under_Check;
  under_result = under_Result;
}
