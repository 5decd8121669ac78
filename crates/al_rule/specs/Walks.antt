-- Walks over a plan's places: what a search from a place finds, and in which order a set of rules is driven.
use Rattle.std.specs.Prelude.{◌≡◌, ◌≢◌, ◌⊎◌, ◌<◌, ℕ, List, [], ◌∷◌, ◌++◌, Option, Some, None, reverse}
use Rattle.std.specs.List.{flat_map}
use Rattle.al_plan.specs.declared.plan.Plan.{Plan}
use Rattle.al_rule.specs.declared.find.Found.{Found}
use Rattle.al_rule.specs.declared.trace.TraceStep.{TraceStep}
use Rattle.al_rule.specs.declared.trace.Trace.{Trace}
use Rattle.al_rule.specs.Places.{Rewriting, Applied, input, plan_at}
use Rattle.al_rule.specs.Rules.{Rules, Matches, Stuck}

-- no rule of the set matches at the root
abbrev pub NoneHere : Rules → Plan → Type 0
NoneHere rules p = (k : ℕ) → k < rules.count → Matches (rules.rewrites k) p → ⊥

-- no rule of the set matches at a place that a walk comes to before this one
unfoldable pub NoneBefore : Rules → List ℕ → Plan → Type 0
NoneBefore rules [] p = Unit {0}
NoneBefore rules (i ∷ place) p =
    NoneHere rules p × ((j : ℕ) → j < i → (x : Plan) → input p j ≡ Some x → Stuck rules x) × ((x : Plan) → input p i ≡ Some x → NoneBefore rules place x)

-- the plan may be rewritten at this place
abbrev pub MatchesAt : Rewriting → List ℕ → Plan → Type 0
MatchesAt R place p = (x : Plan) × (plan_at place p ≡ Some x) × Matches R x

-- the first rule of the set that matches at the root
abbrev pub FirstRule : Rules → Plan → Option ℕ → Type 0
FirstRule rules p None = NoneHere rules p
FirstRule rules p (Some k) = (k < rules.count) × Matches (rules.rewrites k) p × ((j : ℕ) → j < k → Matches (rules.rewrites j) p → ⊥)

-- a walk comes to the first place before the second: it is on the way there, or an earlier input is on its way where they part
unfoldable pub IsBefore : List ℕ → List ℕ → Type 0
IsBefore place [] = ⊥
IsBefore [] (j ∷ other) = Unit {0}
IsBefore (i ∷ place) (j ∷ other) = (i < j) ⊎ ((i ≡ j) × IsBefore place other)

-- no rule of the set matches at this place or at one that a walk comes to after it
abbrev pub NoneFrom : Rules → List ℕ → Plan → Type 0
NoneFrom rules from p = (k : ℕ) → k < rules.count → (place : List ℕ) → (IsBefore place from → ⊥) → MatchesAt (rules.rewrites k) place p → ⊥

-- where a walk that stands at a place goes on: the first place from there on at which a rule matches, and the first such rule
pub record IsNext (rules : Rules) (from : List ℕ) (p : Plan) (k : ℕ) (place : List ℕ) : Type 0 where
  pub known : k < rules.count
  pub matches : MatchesAt (rules.rewrites k) place p
  pub first : (j : ℕ) → j < k → MatchesAt (rules.rewrites j) place p → ⊥
  pub on : IsBefore place from → ⊥
  pub nearest : (j : ℕ) → j < rules.count → (other : List ℕ) → (IsBefore other from → ⊥) → IsBefore other place → MatchesAt (rules.rewrites j) other p → ⊥

-- what is found in a plan from a place on
abbrev pub Finds : Rules → List ℕ → Plan → Option Found → Type 0
Finds rules from p None = NoneFrom rules from p
Finds rules from p (Some f) = IsNext rules from p f.rule f.place.children

-- what is found in an input from a place of it on
abbrev pub FindsIn : Rules → ℕ → List ℕ → Plan → Option Found → Type 0
FindsIn rules i from p None = (x : Plan) → input p i ≡ Some x → NoneFrom rules from x
FindsIn rules i from p (Some f) = (rest : List ℕ) × (f.place.children ≡ i ∷ rest) × ((x : Plan) × (input p i ≡ Some x) × IsNext rules from x f.rule rest)

-- a match whose place's numbers stand the other way round
abbrev pub turned_round : Found → Found
turned_round f = record { rule = f.rule; place = record { children = reverse f.place.children } }

abbrev pub turned : Option Found → Option Found
turned None = None
turned (Some f) = Some (turned_round f)

-- the trace gained a step of the set: this rule at this place
abbrev pub Records : Rules → ℕ → List ℕ → Trace → Trace → Type 0
Records rules k place before now =
    (s : TraceStep) × (now.steps ≡ before.steps ++ s ∷ []) × (s.set ≡ rules.set) × (s.rule ≡ rules.name_of k) × (s.place.children ≡ place)

-- the plan was rewritten at this place by this rule, and the trace gained that step
pub record StepsTo (rules : Rules) (k : ℕ) (place : List ℕ) (p : Plan) (before : Trace) (q : Plan) (now : Trace) : Type 0 where
  pub step : TraceStep
  pub gained : now.steps ≡ before.steps ++ step ∷ []
  pub set : step.set ≡ rules.set
  pub name : step.rule ≡ rules.name_of k
  pub place_is : step.place.children ≡ place
  pub applied : Applied (rules.rewrites k) place p q

-- ---- the order of a walk

-- a step of a walk that stands at a place: at the next place, by the first rule that matches there
pub record IsWalkStep (rules : Rules) (from : List ℕ) (s : TraceStep) (p q : Plan) : Type 0 where
  pub rule : ℕ
  pub next : IsNext rules from p rule s.place.children
  pub set : s.set ≡ rules.set
  pub name : s.rule ≡ rules.name_of rule
  pub applied : Applied (rules.rewrites rule) s.place.children p q

-- the steps of a walk that stands at a place of the first plan lead it to a place of the second one: after a step it stands where
-- the rule was applied, in the plan that the rule left
unfoldable pub WalksTo : Rules → List ℕ → Plan → List TraceStep → List ℕ → Plan → Type 0
WalksTo rules from p [] to q = (to ≡ from) × (q ≡ p)
WalksTo rules from p (s ∷ steps) to q = (mid : Plan) × IsWalkStep rules from s p mid × WalksTo rules s.place.children mid steps to q

-- the steps are one walk from the root, to its end: from where it stands on no rule matches
pub record IsWalk (rules : Rules) (p : Plan) (steps : List TraceStep) (q : Plan) : Type 0 where
  pub at : List ℕ
  pub walks : WalksTo rules [] p steps at q
  pub ends : NoneFrom rules at q

-- walks one after the other, each of which applies something
unfoldable pub AreWalks : Rules → Plan → List (List TraceStep) → Plan → Type 0
AreWalks rules p [] q = q ≡ p
AreWalks rules p (w ∷ ws) q = (mid : Plan) × (w ≢ []) × IsWalk rules p w mid × AreWalks rules mid ws q

-- the trace gained the steps of one walk
abbrev pub WalkedOnce : Rules → Plan → Trace → Trace → Plan → Type 0
WalkedOnce rules p before now q = (steps : List TraceStep) × (now.steps ≡ before.steps ++ steps) × IsWalk rules p steps q

-- the trace gained the steps of walks, each of which applied something, and a further one applies nothing
abbrev pub WalkedOut : Rules → Plan → Trace → Trace → Plan → Type 0
WalkedOut rules p before now q = (walks : List (List TraceStep)) × (now.steps ≡ before.steps ++ flat_map (λ w. w) walks) × AreWalks rules p walks q × IsWalk rules q [] q
