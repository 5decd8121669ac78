-- Fields of states, and fields of none.
use Rattle.std.proofs.Common.{◌≡◌, ◌⊎◌, ℕ, zero, suc, ℤ, pos, negsuc, true, false, List, [], ◌∷◌, refl, sym, ap, subst, inl, inr, arith}
use Rattle.al_value.specs.declared.value.Value.{Value}
use Rattle.al_value.specs.declared.value.Value.TheVariants as V
use Rattle.al_agg.specs.Agg.{ints_of, total, wrapped}
use Rattle.al_agg.specs.declared.agg.Agg.{Agg}
use Rattle.al_agg.specs.declared.agg.Agg.TheVariants as A
use Rattle.al_agg.specs.declared.part.Part.{Part}
use Rattle.al_agg.specs.Part.{AreHalves, IsOneValue, IsState, IsSumState, Stands, StandsByFields, some_sum, state_fields, sum_fields}
use Rattle.al_agg.proofs.HalfLaws.{high_half-fits, low_half-fits, high_half-zero, low_half-zero}
use Rattle.al_agg.proofs.ListLaws.{states_of_lists}
use Rattle.hy_job.specs.Columns.{AreValues}
use Rattle.hy_job.specs.Runs.{StandFor}

-- ---- whether fields are a state

Either : Type 0 → Type 0
Either P = P ⊎ (P → ⊥)

halves_or_not : (fields : List Value) → AreValues fields → Either (AreHalves fields)
unfolding Either
halves_or_not (V.Int high ∷ V.Int low ∷ []) are = inl (are.0, are.1.0)
halves_or_not _ are = inr (λ h. h)

one_or_not : (fields : List Value) → AreValues fields → Either (IsOneValue fields)
unfolding Either
one_or_not (v ∷ []) are = inl are.0
one_or_not _ are = inr (λ h. h)

number_of : Value → ℕ
number_of (V.Int (pos n)) = n
number_of _ = 1

zero_or_not : (v : Value) → Either (v ≡ V.Int (pos 0))
unfolding Either number_of
zero_or_not (V.Int (pos zero)) = inl refl
zero_or_not (V.Int (pos (suc n))) = inr (λ e. let more : suc n ≡ 0 = ap number_of e in omega (arith, more))
zero_or_not (V.Int (negsuc n)) = inr (λ e. let more : ◌≡◌ {A = ℕ} 1 0 = ap number_of e in omega (arith, more))
zero_or_not V.Null = inr (λ e. cc)
zero_or_not (V.Bool b) = inr (λ e. cc)
zero_or_not (V.Text t) = inr (λ e. cc)

zeros_or_not : (fields : List Value) → Either (fields ≡ V.Int (pos 0) ∷ V.Int (pos 0) ∷ [])
unfolding Either
zeros_or_not [] = inr (λ e. cc)
zeros_or_not (v ∷ []) = inr (λ e. cc)
zeros_or_not (v ∷ w ∷ x ∷ fields) = inr (λ e. cc)
zeros_or_not (v ∷ w ∷ []) =
    elim (zero_or_not v) [
      | inl p ↦ elim (zero_or_not w) [ inl q ↦ inl (λ i. p i ∷ q i ∷ []) | inr other ↦ inr (λ e. other (second e)) ]
      | inr other ↦ inr (λ e. other (first e))
    ]
  where
    first : v ∷ w ∷ [] ≡ V.Int (pos 0) ∷ V.Int (pos 0) ∷ [] → v ≡ V.Int (pos 0)
    first e = cc

    second : v ∷ w ∷ [] ≡ V.Int (pos 0) ∷ V.Int (pos 0) ∷ [] → w ≡ V.Int (pos 0)
    second e = cc

sum_or_not : (fields : List Value) → AreValues fields → Either (IsSumState fields)
unfolding Either
sum_or_not (V.Bool true ∷ fields) are = halves_or_not fields are.1
sum_or_not (V.Bool false ∷ fields) are = zeros_or_not fields
sum_or_not [] are = inr (λ h. h)
sum_or_not (V.Null ∷ fields) are = inr (λ h. h)
sum_or_not (V.Int z ∷ fields) are = inr (λ h. h)
sum_or_not (V.Text t ∷ fields) are = inr (λ h. h)

state_or_not : (a : Agg) (fields : List Value) → AreValues fields → Either (IsState a fields)
unfolding IsState
state_or_not A.CountAll fields are = halves_or_not fields are
state_or_not A.Count fields are = halves_or_not fields are
state_or_not A.Sum fields are = sum_or_not fields are
state_or_not A.Min fields are = one_or_not fields are
state_or_not A.Max fields are = one_or_not fields are

-- fields of a state are those of a list
pub of_state : (a : Agg) (fields : List Value) → IsState a fields → (vs : List Value) × StandFor a fields vs
of_state a fields is = let found = (states_of_lists a fields).0 is in (found.0, inl found.2)

pub of_none : (a : Agg) (fields : List Value) → (IsState a fields → ⊥) → (vs : List Value) × StandFor a fields vs
of_none a fields none = ([], inr (none, refl))

-- values stand for some list, whether they are a state or not
pub some_list : (a : Agg) (fields : List Value) → AreValues fields → (vs : List Value) × StandFor a fields vs
unfolding Either
some_list a fields are = elim (state_or_not a fields are) [ inl is ↦ of_state a fields is | inr none ↦ of_none a fields none ]

-- ---- what a state that was read stands for

sum_state : (ns : List ℤ) → IsSumState (sum_fields (some_sum ns))
sum_state [] = rw (high_half-zero, low_half-zero) refl
sum_state (n ∷ ns) = (high_half-fits (wrapped (total (n ∷ ns))), low_half-fits (wrapped (total (n ∷ ns))))

-- values that are a list's fields are a state
is_state : (a : Agg) (fields vs : List Value) → AreValues fields → state_fields a vs ≡ fields → IsState a fields
unfolding IsState state_fields
is_state A.CountAll fields vs are e = subst AreHalves e (high_half-fits _, low_half-fits _)
is_state A.Count fields vs are e = subst AreHalves e (high_half-fits _, low_half-fits _)
is_state A.Sum fields vs are e = subst IsSumState e (sum_state (ints_of vs))
is_state A.Min fields vs are e = subst IsOneValue e (subst AreValues (sym e) are).0
is_state A.Max fields vs are e = subst IsOneValue e (subst AreValues (sym e) are).0

pub stands_if_read : (a : Agg) (fields : List Value) (p : Part) → IsState a fields → StandsByFields a fields p → (vs : List Value) → StandFor a fields vs → Stands p vs
stands_if_read a fields p is by vs (inl e) = (by vs).1 e
stands_if_read a fields p is by vs (inr none) = absurd (none.0 is)

pub stands_if_none : (a : Agg) (fields : List Value) (p : Part) → AreValues fields → (IsState a fields → ⊥) → Stands p [] → (vs : List Value) → StandFor a fields vs → Stands p vs
stands_if_none a fields p are none empty vs (inl e) = absurd (none (is_state a fields vs are e))
stands_if_none a fields p are none empty vs (inr h) = subst (Stands p) (sym h.1) empty
