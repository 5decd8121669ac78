-- Small sets of rules over small plans: which steps are a walk, and which are none.
use Rattle.std.specs.Prelude.{◌≡◌, ℕ, nat_eq, if◌then◌else◌, List, [], ◌∷◌}
use Rattle.al_plan.specs.declared.plan.Plan.{Plan}
use Rattle.al_plan.specs.declared.plan.Plan.TheVariants as P
use Rattle.al_rule.specs.declared.names.RuleName.TheVariants as N
use Rattle.al_rule.specs.declared.names.SetName.TheVariants as S
use Rattle.al_rule.specs.declared.trace.TraceStep.{TraceStep}
use Rattle.al_rule.specs.Rules.{Rules}
use Rattle.al_rule.specs.Walks.{IsWalk, AreWalks}

abbrev pub bare : Plan
bare = P.Empty

abbrev pub single : Plan
single = P.Distinct bare

abbrev pub double : Plan
double = P.Distinct single

-- both inputs are the same plan
abbrev pub pair_of : Plan → Plan → Plan
pair_of left right = P.Union [] [] [] left right

-- one rule: a distinct over no distinct goes
abbrev pub falling : Rules
falling = record { set = S.Group; count = 1; name_of = λ k. N.DistinctOverDistinct; rewrites = λ k p q. (p ≡ single) × (q ≡ bare) }

-- two rules that match the same plan
abbrev pub choosing : Rules
choosing = record {
  set = S.Group;
  count = 2;
  name_of = λ k. if nat_eq k 0 then N.DropOrder else N.DistinctOverDistinct;
  rewrites = λ k p q. (p ≡ single) × (q ≡ (if nat_eq k 0 then bare else double));
}

abbrev pub step_at : List ℕ → TraceStep
step_at place = record { set = S.Group; rule = N.DistinctOverDistinct; place = record { children = place } }

-- the upper distinct has another below it, so the lower one goes, and the walk is at its end
abbrev pub WalkGoesDown : Type 0
WalkGoesDown = IsWalk falling double (step_at (0 ∷ []) ∷ []) single

-- a walk does not go back to the upper one
abbrev pub WalkGoesBack : Type 0
WalkGoesBack = IsWalk falling double (step_at (0 ∷ []) ∷ step_at [] ∷ []) bare

-- nor does it end where it could go on
abbrev pub WalkStops : Type 0
WalkStops = IsWalk falling double [] double

-- a second walk takes the upper one
abbrev pub WalksFollow : Type 0
WalksFollow = AreWalks falling double ((step_at (0 ∷ []) ∷ []) ∷ (step_at [] ∷ []) ∷ []) bare

-- a walk that applies nothing is none of them
abbrev pub IdleWalkCounts : Type 0
IdleWalkCounts = AreWalks falling bare ([] ∷ []) bare

-- the first input comes before the second
abbrev pub FirstInputFirst : Type 0
FirstInputFirst = IsWalk falling (pair_of single single) (step_at (0 ∷ []) ∷ step_at (1 ∷ []) ∷ []) (pair_of bare bare)

abbrev pub SecondInputFirst : Type 0
SecondInputFirst = IsWalk falling (pair_of single single) (step_at (1 ∷ []) ∷ step_at (0 ∷ []) ∷ []) (pair_of bare bare)

-- the second rule is applied where the first one matches
abbrev pub SecondRuleFirst : Type 0
SecondRuleFirst = IsWalk choosing single (step_at [] ∷ []) double
