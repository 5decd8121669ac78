use Rattle.hy_subplan.proofs.NestedSome.{nested_plans_give}
use Rattle.hy_subplan.proofs.laws.subplan_laws.Goals as goal

pub returns : goal.returns
returns c = nested_plans_give
