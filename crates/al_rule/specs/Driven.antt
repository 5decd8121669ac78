-- What driving sets of rules comes to: the steps of a trace.
use Rattle.std.specs.Prelude.{◌≡◌, ◌<◌, ℕ, Bool, true, false, List, [], ◌∷◌, ◌++◌, Result, Ok, Err}
use Rattle.std.specs.List.{flat_map}
use Rattle.al_plan.specs.declared.plan.Plan.{Plan}
use Rattle.al_rule.specs.declared.names.SetName.{SetName}
use Rattle.al_rule.specs.declared.trace.TraceStep.{TraceStep}
use Rattle.al_rule.specs.declared.trace.Trace.{Trace}
use Rattle.al_rule.specs.declared.rule.ApplyFault.{ApplyFault}
use Rattle.al_rule.specs.declared.rule.ApplyFault.TheVariants.{NoMemory}
use Rattle.al_rule.specs.Places.{Applied}
use Rattle.al_rule.specs.Rules.{Rules, Stuck}
use Rattle.al_rule.specs.Walks.{IsWalk, AreWalks}

-- a step of the trace applies one of the set's rules at its place
abbrev pub IsStep : Rules → TraceStep → Plan → Plan → Type 0
IsStep rules s p q = (k : ℕ) × (k < rules.count) × (s.set ≡ rules.set) × (s.rule ≡ rules.name_of k) × Applied (rules.rewrites k) s.place.children p q

-- the steps, one after the other, lead from the first plan to the second
unfoldable pub Steps : Rules → List TraceStep → Plan → Plan → Type 0
Steps rules [] p q = q ≡ p
Steps rules (s ∷ ss) p q = (mid : Plan) × IsStep rules s p mid × Steps rules ss mid q

-- the trace gained the steps that lead from the first plan to the second
abbrev pub Drove : Rules → Plan → Trace → Trace → Plan → Type 0
Drove rules p before now q = (steps : List TraceStep) × (now.steps ≡ before.steps ++ steps) × Steps rules steps p q

-- the plan that driving reached
abbrev pub reached : Result Plan ApplyFault → Plan
reached (Ok q) = q
reached (Err (NoMemory q)) = q

-- a set was driven by these steps: by one walk, or by walks until one applies nothing
abbrev pub ByWalks : Bool → Rules → List TraceStep → Plan → Plan → Type 0
ByWalks true rules steps p q = IsWalk rules p steps q
ByWalks false rules steps p q = (walks : List (List TraceStep)) × (steps ≡ flat_map (λ w. w) walks) × AreWalks rules p walks q × IsWalk rules q [] q

-- these sets were driven in their order, some by one walk and the others by walks until one applied nothing, each until it was stuck
unfoldable pub Driven : (SetName → Rules) → (SetName → Bool) → List SetName → List TraceStep → Plan → Plan → Type 0
Driven rules_of is_once [] trace p q = (trace ≡ []) × (q ≡ p)
Driven rules_of is_once (s ∷ sets) trace p q =
    (here : List TraceStep) × (later : List TraceStep) × (mid : Plan) × (trace ≡ here ++ later) × Steps (rules_of s) here p mid × ByWalks (is_once s) (rules_of s) here p mid × Stuck (rules_of s) mid
    × Driven rules_of is_once sets later mid q
