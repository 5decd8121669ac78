-- What the functions of rules answer.
use Rattle.std.specs.Prelude.{Option, Some, None, Result, Ok, Err}
use Rattle.al_value.specs.declared.fault.NoMemory.{NoMemory}
use Rattle.al_plan.specs.declared.plan.Plan.{Plan}
use Rattle.al_rule.specs.declared.rule.ApplyFault.{ApplyFault}
use Rattle.al_rule.specs.declared.rule.ApplyFault.TheVariants as A
use Rattle.al_rule.specs.Places.{Rewriting}
use Rattle.al_rule.specs.Rules.{Matches}

-- the rule doesn't rewrite the plan
abbrev pub IsOther : Rewriting → Plan → Type 0
IsOther R p = Matches R p → ⊥

-- what a plan is rewritten to, or nothing where it is not one that may be rewritten
abbrev pub Rewritten : Rewriting → Plan → Option Plan → Type 0
Rewritten R p None = IsOther R p
Rewritten R p (Some q) = R p q

-- what was made of a plan, and the plan itself where nothing was made or memory ran out
abbrev pub outcome : Plan → Result (Option Plan) NoMemory → Result Plan ApplyFault
outcome p (Ok (Some q)) = Ok q
outcome p (Ok None) = Ok p
outcome p (Err e) = Err (A.NoMemory p)
