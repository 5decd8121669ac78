-- Laws of sets of rules that are given as lists.
use Rattle.std.proofs.Common.{◌<◌, inl, ℕ, zero, suc, List, [], ◌∷◌, length, get_or, arith}
use Rattle.al_plan.specs.declared.plan.Plan.{Plan}
use Rattle.al_plan.specs.Refines.{Fit, Replaces}
use Rattle.al_rule.specs.declared.names.SetName.{SetName}
use Rattle.al_rule.specs.Places.{Rewriting, Applied}
use Rattle.al_rule.specs.Rules.{IsLawful}
use Rattle.al_rule.specs.Entries.{Entry, no_entry, listed}

-- what holds of each rule of a list
abbrev pub Each : (Rewriting → Type 0) → List Entry → Type 0
Each P [] = Unit {0}
Each P (e ∷ es) = P e.1 × Each P es

pub each_at : (P : Rewriting → Type 0) (es : List Entry) → Each P es → (k : ℕ) → k < length es → P (get_or es k no_entry).1
each_at P [] h k low = absurd (omega (arith, low))
each_at P (e ∷ es) h zero low = h.0
each_at P (e ∷ es) h (suc k) low = each_at P es h.1 k (omega (arith, low))

abbrev pub IsSound : Rewriting → Type 0
IsSound R = (p q : Plan) → Fit p → R p q → Replaces q p

-- a number that falls wherever the rule is applied
abbrev pub Falls : (Plan → ℕ) → Rewriting → Type 0
Falls number R = (place : List ℕ) (p q : Plan) → Fit p → Applied R place p q → number q < number p

-- sound rules by each of which one number falls are lawful
pub lawful_by_one : (set : SetName) (es : List Entry) (number : Plan → ℕ) → Each IsSound es → Each (Falls number) es → IsLawful (listed set es) (λ p. number p ∷ []) number
lawful_by_one set es number sound falls = record {
  sound = λ k low. each_at IsSound es sound k low;
  falls = λ k low place p q f h. inl (each_at (Falls number) es falls k low place p q f h);
  lightens = λ k low. each_at (Falls number) es falls k low;
}
