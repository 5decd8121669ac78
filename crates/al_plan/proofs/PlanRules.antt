-- The laws of each operator, gathered for the search.
use Rattle.al_plan.proofs.PlanLaws.{live-Scan, live-Empty, live-Nested, live-Assign, live-Select, live-Project, live-Unnest, live-Subplan, live-Join, live-LeftJoin, live-Group, live-Distinct, live-Union, live-Aggregate, live-Order, live-Limit, live-Check, live-Result}
use Rattle.al_plan.proofs.PlanLaws.{ordered-Scan, ordered-Empty, ordered-Nested, ordered-Assign, ordered-Select, ordered-Project, ordered-Unnest, ordered-Subplan, ordered-Join, ordered-LeftJoin, ordered-Group, ordered-Distinct, ordered-Union, ordered-Aggregate, ordered-Order, ordered-Limit, ordered-Check, ordered-Result}

pub ruleset live_laws = (live-Scan, live-Empty, live-Nested, live-Assign, live-Select, live-Project, live-Unnest, live-Subplan, live-Join, live-LeftJoin, live-Group, live-Distinct, live-Union, live-Aggregate, live-Order, live-Limit, live-Check, live-Result)

pub ruleset ordered_laws = (ordered-Scan, ordered-Empty, ordered-Nested, ordered-Assign, ordered-Select, ordered-Project, ordered-Unnest, ordered-Subplan, ordered-Join, ordered-LeftJoin, ordered-Group, ordered-Distinct, ordered-Union, ordered-Aggregate, ordered-Order, ordered-Limit, ordered-Check, ordered-Result)
