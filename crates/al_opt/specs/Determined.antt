-- Where a plan leaves no choice: what a rule makes of it, the steps of a walk, and the whole trace.
use Rattle.std.specs.Prelude.{◌≡◌, ◌<◌, ℕ, List}
use Rattle.al_plan.specs.declared.plan.Plan.{Plan}
use Rattle.al_rule.specs.declared.names.SetName.{SetName}
use Rattle.al_rule.specs.declared.trace.TraceStep.{TraceStep}
use Rattle.al_rule.specs.Places.{Rewriting}
use Rattle.al_rule.specs.Rules.{Rules}
use Rattle.al_rule.specs.Walks.{IsWalk}
use Rattle.al_opt.specs.Optimised.{LegalTrace, rules_of}

-- a plan is rewritten to one plan at most
abbrev pub GivesOne : Rewriting → Type 0
GivesOne R = (p q r : Plan) → R p q → R p r → q ≡ r

-- each rule of the set rewrites a plan to one at most
abbrev pub Determined : Rules → Type 0
Determined rules = (k : ℕ) → k < rules.count → GivesOne (rules.rewrites k)

abbrev pub SetsAreDetermined : Type 0
SetsAreDetermined = (s : SetName) → Determined (rules_of s)

-- so each set has one walk over a plan
abbrev pub WalksAreOne : Type 0
WalksAreOne = (s : SetName) (p q r : Plan) (steps others : List TraceStep) → IsWalk (rules_of s) p steps q → IsWalk (rules_of s) p others r → (steps ≡ others) × (q ≡ r)

-- these steps and this plan are all that legal steps from the first plan come to
abbrev pub IsOnlyTrace : Plan → List TraceStep → Plan → Type 0
IsOnlyTrace p steps q = (others : List TraceStep) (r : Plan) → LegalTrace p others r → (others ≡ steps) × (r ≡ q)

-- what is legal for a plan is all that is legal for it
abbrev pub TracesAreOne : Type 0
TracesAreOne = (p q : Plan) (steps : List TraceStep) → LegalTrace p steps q → IsOnlyTrace p steps q
