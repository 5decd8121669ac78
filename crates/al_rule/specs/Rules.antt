-- Sets of rules: what their rules rewrite, and when none of them matches.
use Rattle.std.specs.Prelude.{◌≡◌, ◌<◌, ◌⊎◌, ℕ, Bool, true, false, List, ◌∷◌, Some, Result, Ok, Err}
use Rattle.al_plan.specs.declared.plan.Plan.{Plan}
use Rattle.al_plan.specs.Refines.{Fit, Replaces}
use Rattle.al_rule.specs.declared.names.SetName.{SetName}
use Rattle.al_rule.specs.declared.names.RuleName.{RuleName}
use Rattle.al_rule.specs.declared.rule.ApplyFault.{ApplyFault}
use Rattle.al_rule.specs.declared.rule.ApplyFault.TheVariants.{NoMemory}
use Rattle.al_rule.specs.Places.{Rewriting, Applied, input, with_input, plan_at}

-- a set of rules, in the order in which they are tried
pub record Rules : Type 1 where
  pub set : SetName
  pub count : ℕ
  pub name_of : ℕ → RuleName
  pub rewrites : ℕ → Rewriting

-- the plan is one that may be rewritten
abbrev pub Matches : Rewriting → Plan → Type 0
Matches R p = (q : Plan) × R p q

abbrev pub Decides : Bool → Type 0 → Type 0
Decides true X = X
Decides false X = X → ⊥

-- what memory was wanted for is handed back as it was
abbrev pub HandsBack : Plan → Result Plan ApplyFault → Type 0
HandsBack p (Ok q) = Unit {0}
HandsBack p (Err e) = e ≡ NoMemory p

-- what was made of a part, or the part that was handed back, within the whole
abbrev pub under : (Plan → Plan) → Result Plan ApplyFault → Result Plan ApplyFault
under whole (Ok q) = Ok (whole q)
under whole (Err (NoMemory q)) = Err (NoMemory (whole q))

-- at each place that a step may change every rule of the set fails to match
abbrev pub Stuck : Rules → Plan → Type 0
Stuck rules p = (k : ℕ) → k < rules.count → (place : List ℕ) (x : Plan) → plan_at place p ≡ Some x → Matches (rules.rewrites k) x → ⊥

-- whether a rule of the set matches at an operator doesn't hang on its inputs
abbrev pub IsLocal : Rules → Type 0
IsLocal rules = (k : ℕ) → k < rules.count → (p x y : Plan) (i : ℕ) → input p i ≡ Some x → Matches (rules.rewrites k) (with_input p i y) → Matches (rules.rewrites k) p

-- lists of numbers of one length, compared from the left
abbrev pub IsLower : List ℕ → List ℕ → Type 0
IsLower (m ∷ ms) (n ∷ ns) = (m < n) ⊎ ((m ≡ n) × IsLower ms ns)
IsLower _ _ = ⊥

-- each rule's right side may stand in its left side's place, and the set's measures fall wherever a rule is applied
pub record IsLawful (rules : Rules) (measure : Plan → List ℕ) (weight : Plan → ℕ) : Type 0 where
  pub sound : (k : ℕ) → k < rules.count → (p q : Plan) → Fit p → rules.rewrites k p q → Replaces q p
  pub falls : (k : ℕ) → k < rules.count → (place : List ℕ) (p q : Plan) → Fit p → Applied (rules.rewrites k) place p q → IsLower (measure q) (measure p)
  pub lightens : (k : ℕ) → k < rules.count → (place : List ℕ) (p q : Plan) → Fit p → Applied (rules.rewrites k) place p q → weight q < weight p
