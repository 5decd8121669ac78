-- Fields of a state are those of some list of values.
use Rattle.std.specs.Prelude.{All, ◌≡◌, ℕ, zero, suc, ◌+◌, ◌*◌, ◌%◌, ◌^◌, ◌<◌, ℤ, pos, ◌+ℤ◌, true, false, List, [], ◌∷◌, length, FitsSigned}
use Rattle.std.specs.Int.{w64, w128, cast_signed, cast_unsigned, int_wrap}
use Rattle.std.specs.List.{AllByRecursion}
use Rattle.std.proofs.Common.{refl, sym, subst, ◌∙◌, ap, arith}
use Rattle.std.proofs.lemmas.List.Elements.{All-from_recursion}
use Rattle.al_value.specs.declared.value.Value.{Value}
use Rattle.al_value.specs.declared.value.Value.TheVariants as V
use Rattle.al_value.specs.Value.{IsValue}
use Rattle.al_agg.specs.declared.agg.Agg.{Agg}
use Rattle.al_agg.specs.declared.agg.Agg.TheVariants as A
use Rattle.al_agg.specs.Agg.{wrapped, present, ints_of, total, lesser, greater}
use Rattle.al_agg.specs.Lists.{AreOfList, StatesAreOfLists, SumOfTwo, SumBelowZero, SumOfNoneIsZero, CountHasHalves}
use Rattle.al_agg.specs.Part.{high_half, low_half, halves, state_fields, AreHalves, IsSumState, IsOneValue, IsState}
use Rattle.al_agg.proofs.FieldLaws.{fields_of_list}
use Rattle.al_agg.proofs.HalfLaws.{bits_64-lt, both, high_half-from, low_half-from, high_half-zero, low_half-zero}

-- the INT 1, this many times
abbrev ones : ℕ → List Value
ones zero = []
ones (suc n) = V.Int (pos 1) ∷ ones n

ones-valid : (n : ℕ) → AllByRecursion IsValue (ones n)
ones-valid zero = tt
ones-valid (suc n) = (omega arith, ones-valid n)

length-ones : (n : ℕ) → length (ones n) ≡ n
length-ones zero = refl
length-ones (suc n) = ap suc (length-ones n)

present-ones : (n : ℕ) → present (ones n) ≡ ones n
present-ones zero = refl
present-ones (suc n) = ap (λ (vs : List Value). V.Int (pos 1) ∷ vs) (present-ones n)

total-ones : (n : ℕ) → total (ints_of (ones n)) ≡ pos n
total-ones zero = refl
total-ones (suc n) = let more : 1 + n ≡ suc n = omega arith in ap (λ (z : ℤ). pos 1 +ℤ z) (total-ones n) ∙ ap pos more

total-more : (n : ℕ) → total (ints_of (V.Int (pos 0) ∷ ones n)) ≡ pos n
total-more n = let same : 0 + n ≡ n = omega arith in ap (λ (z : ℤ). pos 0 +ℤ z) (total-ones n) ∙ ap pos same

-- the bits of a number by its halves
abbrev bits_of : ℤ → ℤ → ℕ
bits_of high low = cast_unsigned w64 high * 2 ^ 64 + cast_unsigned w64 low

wrapped-bits : (n : ℕ) → n < 2 ^ 128 → wrapped (pos n) ≡ cast_signed w128 n
unfolding int_wrap
wrapped-bits n few = let same : n % 2 ^ 128 ≡ n = omega arith in ap (cast_signed w128) same

halves-bits : (high low : ℤ) → FitsSigned w64 high → FitsSigned w64 low → halves (wrapped (pos (bits_of high low))) ≡ V.Int high ∷ V.Int low ∷ []
halves-bits high low p q =
    let few : bits_of high low < 2 ^ 128 = both (cast_unsigned w64 high) (cast_unsigned w64 low) (bits_64-lt high p) (bits_64-lt low q) in
    let is = wrapped-bits (bits_of high low) few in
    ap halves is ∙ (λ i. V.Int (high_half-from high low p q i) ∷ V.Int (low_half-from high low p q i) ∷ [])

all : (vs : List Value) → AllByRecursion IsValue vs → All IsValue vs
all vs h = All-from_recursion IsValue vs h

-- two halves, each a number of 64 bits
abbrev Halved : List Value → Type 0
Halved fields = (high : ℤ) × (low : ℤ) × (fields ≡ V.Int high ∷ V.Int low ∷ []) × FitsSigned w64 high × FitsSigned w64 low

halved : (fields : List Value) → AreHalves fields → Halved fields
halved [] h = absurd h
halved (V.Null ∷ _) h = absurd h
halved (V.Bool _ ∷ _) h = absurd h
halved (V.Int high ∷ []) h = absurd h
halved (V.Int high ∷ (V.Null ∷ _)) h = absurd h
halved (V.Int high ∷ (V.Bool _ ∷ _)) h = absurd h
halved (V.Int high ∷ (V.Int low ∷ [])) h = (high, low, refl, h.0, h.1)
halved (V.Int high ∷ (V.Int low ∷ (_ ∷ _))) h = absurd h
halved (V.Int high ∷ (V.Text _ ∷ _)) h = absurd h
halved (V.Text _ ∷ _) h = absurd h

-- as many ones as the number that has these halves
number_of : (fields : List Value) → AreHalves fields → (n : ℕ) × (halves (wrapped (pos n)) ≡ fields)
number_of fields h = let m = halved fields h in (bits_of m.0 m.1, halves-bits m.0 m.1 m.3 m.4 ∙ sym m.2)

counted_all : (fields : List Value) → AreHalves fields → AreOfList A.CountAll fields
unfolding state_fields
counted_all fields h = let m = number_of fields h in (ones m.0, all (ones m.0) (ones-valid m.0), ap (λ k. halves (wrapped (pos k))) (length-ones m.0) ∙ m.1)

counted : (fields : List Value) → AreHalves fields → AreOfList A.Count fields
unfolding state_fields
counted fields h =
    let m = number_of fields h in
    (ones m.0, all (ones m.0) (ones-valid m.0), ap (λ (vs : List Value). halves (wrapped (pos (length vs)))) (present-ones m.0) ∙ ap (λ k. halves (wrapped (pos k))) (length-ones m.0) ∙ m.1)

-- a 0 before the ones, since the sum is of at least one int
summed : (fields : List Value) → IsSumState fields → AreOfList A.Sum fields
unfolding state_fields
summed [] h = absurd h
summed (V.Null ∷ fields) h = absurd h
summed (V.Bool true ∷ fields) h =
    let m = number_of fields h in
    let total_is : total (ints_of (V.Int (pos 0) ∷ ones m.0)) ≡ pos m.0 = total-more m.0 in
    (V.Int (pos 0) ∷ ones m.0, all (V.Int (pos 0) ∷ ones m.0) (omega arith, ones-valid m.0), ap (λ (z : ℤ). V.Bool true ∷ halves (wrapped z)) total_is ∙ ap (λ (vs : List Value). V.Bool true ∷ vs) m.1)
summed (V.Bool false ∷ fields) h = ([], all [] tt, rw (high_half-zero, low_half-zero) (ap (λ (vs : List Value). V.Bool false ∷ vs) (sym h)))
summed (V.Int _ ∷ fields) h = absurd h
summed (V.Text _ ∷ fields) h = absurd h

least_of : (fields : List Value) → IsOneValue fields → AreOfList A.Min fields
unfolding state_fields
least_of [] h = absurd h
least_of (v ∷ []) h = (v ∷ [], all (v ∷ []) (h, tt), ap (λ (w : Value). w ∷ []) (alone v))
  where
    alone : (v : Value) → lesser v V.Null ≡ v
    alone V.Null = refl
    alone (V.Bool b) = refl
    alone (V.Int n) = refl
    alone (V.Text t) = refl
least_of (_ ∷ (_ ∷ _)) h = absurd h

greatest_of : (fields : List Value) → IsOneValue fields → AreOfList A.Max fields
unfolding state_fields
greatest_of [] h = absurd h
greatest_of (v ∷ []) h = (v ∷ [], all (v ∷ []) (h, tt), ap (λ (w : Value). w ∷ []) (alone v))
  where
    alone : (v : Value) → greater v V.Null ≡ v
    alone V.Null = refl
    alone (V.Bool b) = refl
    alone (V.Int n) = refl
    alone (V.Text t) = refl
greatest_of (_ ∷ (_ ∷ _)) h = absurd h

of_list : (a : Agg) (fields : List Value) → IsState a fields → AreOfList a fields
unfolding IsState
of_list A.CountAll fields h = counted_all fields h
of_list A.Count fields h = counted fields h
of_list A.Sum fields h = summed fields h
of_list A.Min fields h = least_of fields h
of_list A.Max fields h = greatest_of fields h

pub states_of_lists : StatesAreOfLists
states_of_lists a fields = (of_list a fields, λ h. subst (IsState a) h.2 (fields_of_list a h.0 h.1))

-- ---- worked cases

pub sum_of_two : SumOfTwo
unfolding state_fields high_half low_half int_wrap
sum_of_two = refl

pub sum_below_zero : SumBelowZero
unfolding state_fields high_half low_half int_wrap
sum_below_zero = refl

pub sum_of_none : SumOfNoneIsZero
unfolding IsState
sum_of_none h = let zero : V.Int (pos 0) ∷ V.Int (pos 5) ∷ [] ≡ V.Int (pos 0) ∷ V.Int (pos 0) ∷ [] = (states_of_lists A.Sum _).1 h in cc

pub count_halves : CountHasHalves
unfolding IsState
count_halves h = (states_of_lists A.Count _).1 h
