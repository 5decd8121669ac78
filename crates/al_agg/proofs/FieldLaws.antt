-- The state fields of a partial state, and the lists that have the same.
use Rattle.std.specs.Prelude.{All, ◌≡◌, ◌↔◌, ◌⊎◌, ℕ, suc, ℤ, pos, Bool, false, Option, Some, None, IfSome, is_some, unwrap_or, Result, Ok, Err, OnErr, List, [], ◌∷◌, ◌++◌, ◌-◌, length, take, drop, FitsSigned}
use Rattle.std.specs.Int.{w128}
use Rattle.std.proofs.Common.{refl, sym, ◌∙◌, ap, subst, inl, inr, append_assoc, arith}
use Rattle.std.proofs.Math.Seq.{take-length}
use Rattle.std.proofs.lemmas.Int.{SFits-int_wrap}
use Rattle.al_value.specs.declared.value.Value.{Value}
use Rattle.al_value.specs.declared.value.Value.TheVariants as V
use Rattle.al_value.specs.Value.{IsValue}
use Rattle.al_agg.specs.declared.agg.Agg.{Agg}
use Rattle.al_agg.specs.declared.agg.Agg.TheVariants as A
use Rattle.al_agg.specs.declared.part.Part.{Part}
use Rattle.al_agg.specs.declared.state.State.{State}
use Rattle.al_agg.specs.declared.state.State.TheVariants as S
use Rattle.al_agg.specs.Agg.{wrapped, present, ints_of, total}
use Rattle.al_agg.specs.Part.{halves, sum_fields, some_sum, state_fields, state_agg, StateStands, fields_of, Stands, agg_of, part_fields, IsState, AreHalves, IsSumState, GainsSome, width}
use Rattle.al_agg.proofs.AggLaws.{least-valid, greatest-valid}
use Rattle.al_agg.proofs.HalfLaws.{halves-injective, high_half-fits, low_half-fits, high_half-zero, low_half-zero}

-- what the code keeps: numbers of 128 bits, and values of the program
abbrev pub IsStored : State → Type 0
IsStored (S.CountAll n) = FitsSigned w128 n
IsStored (S.Count n) = FitsSigned w128 n
IsStored (S.Sum sum) = IfSome sum (FitsSigned w128)
IsStored (S.Min v) = IsValue v
IsStored (S.Max v) = IsValue v

wrapped-fits : (z : ℤ) → FitsSigned w128 (wrapped z)
wrapped-fits z = SFits-int_wrap w128 z

from_halves : (n z : ℤ) → FitsSigned w128 n → halves (wrapped z) ≡ halves n → n ≡ wrapped z
from_halves n z fits e =
    halves-injective n (wrapped z) fits (wrapped-fits z) (cc) (cc)

some_sum-fits : (ns : List ℤ) → IfSome (some_sum ns) (FitsSigned w128)
some_sum-fits [] = tt
some_sum-fits (n ∷ ns) = wrapped-fits (total (n ∷ ns))

from_sum_fields : (a b : Option ℤ) → IfSome a (FitsSigned w128) → IfSome b (FitsSigned w128) → sum_fields b ≡ sum_fields a → a ≡ b
from_sum_fields None None p q e = refl
from_sum_fields None (Some n) p q e = cc
from_sum_fields (Some m) None p q e = cc
from_sum_fields (Some m) (Some n) p q e = ap Some (halves-injective m n p q (cc) (cc))

-- a state stands for the lists that have its fields
state_lists : (s : State) (vs : List Value) → IsStored s → StateStands s vs ↔ (state_fields (state_agg s) vs ≡ fields_of s)
unfolding state_fields
state_lists (S.CountAll n) vs fits = (λ e. ap halves (sym e), from_halves n (pos (length vs)) fits)
state_lists (S.Count n) vs fits = (λ e. ap halves (sym e), from_halves n (pos (length (present vs))) fits)
state_lists (S.Sum sum) vs fits = (λ e. ap sum_fields (sym e), from_sum_fields sum (some_sum (ints_of vs)) fits (some_sum-fits (ints_of vs)))
state_lists (S.Min v) vs fits = (λ e. ap (λ (w : Value). w ∷ []) (sym e), λ e. cc)
state_lists (S.Max v) vs fits = (λ e. ap (λ (w : Value). w ∷ []) (sym e), λ e. cc)

pub part_lists : (p : Part) (vs : List Value) → IsStored p.state → Stands p vs ↔ (state_fields (agg_of p) vs ≡ part_fields p)
unfolding Stands agg_of part_fields
part_lists p vs stored = state_lists p.state vs stored

halves-are : (n : ℤ) → AreHalves (halves n)
halves-are n = (high_half-fits n, low_half-fits n)

-- the fields of a state are a state
fields_state : (s : State) → IsStored s → IsState (state_agg s) (fields_of s)
unfolding IsState
fields_state (S.CountAll n) fits = halves-are n
fields_state (S.Count n) fits = halves-are n
fields_state (S.Sum None) fits = rw (high_half-zero, low_half-zero) refl
fields_state (S.Sum (Some n)) fits = halves-are n
fields_state (S.Min v) valid = valid
fields_state (S.Max v) valid = valid

pub part_state : (p : Part) → IsStored p.state → IsState (agg_of p) (part_fields p)
unfolding agg_of part_fields
part_state p stored = fields_state p.state stored

pub number_stored : (s : State) (n : ℤ) → (s ≡ S.CountAll n) ⊎ (s ≡ S.Count n) → FitsSigned w128 n → IsStored s
number_stored s n is fits = elim is [ inl e ↦ subst IsStored (sym e) fits | inr e ↦ subst IsStored (sym e) fits ]

pub sum_stored : (s : State) (sum : Option ℤ) → s ≡ S.Sum sum → IfSome sum (FitsSigned w128) → IsStored s
sum_stored s sum e fits = subst IsStored (sym e) fits

pub value_stored : (s : State) (v : Value) → (s ≡ S.Min v) ⊎ (s ≡ S.Max v) → IsValue v → IsStored s
value_stored s v is valid = elim is [ inl e ↦ subst IsStored (sym e) valid | inr e ↦ subst IsStored (sym e) valid ]

-- a state has as many fields as its aggregate says
sum_width : (sum : Option ℤ) → length (sum_fields sum) ≡ 3
sum_width None = refl
sum_width (Some n) = refl

state_width : (s : State) → length (fields_of s) ≡ width (state_agg s)
state_width (S.CountAll n) = refl
state_width (S.Count n) = refl
state_width (S.Sum sum) = sum_width sum
state_width (S.Min v) = refl
state_width (S.Max v) = refl

pub part_width : (p : Part) → length (part_fields p) ≡ width (agg_of p)
unfolding agg_of part_fields
part_width p = state_width p.state

-- the fields of a list of values are a state
sum_state : (ns : List ℤ) → IsSumState (sum_fields (some_sum ns))
sum_state [] = rw (high_half-zero, low_half-zero) refl
sum_state (n ∷ ns) = halves-are (wrapped (total (n ∷ ns)))

pub fields_of_list : (a : Agg) (vs : List Value) → All IsValue vs → IsState a (state_fields a vs)
unfolding IsState state_fields
fields_of_list A.CountAll vs valid = halves-are (wrapped (pos (length vs)))
fields_of_list A.Count vs valid = halves-are (wrapped (pos (length (present vs))))
fields_of_list A.Sum vs valid = sum_state (ints_of vs)
fields_of_list A.Min vs valid = least-valid vs valid
fields_of_list A.Max vs valid = greatest-valid vs valid

-- a state that has these fields stands for the lists that have them
pub lists_at : (s : State) (a : Agg) (fields vs : List Value) → IsStored s → state_agg s ≡ a → fields_of s ≡ fields → StateStands s vs ↔ (state_fields a vs ≡ fields)
lists_at s a fields vs stored is has =
    let law : StateStands s vs ↔ (state_fields (state_agg s) vs ≡ fields_of s) = state_lists s vs stored in
    (λ stands. ap (λ (b : Agg). state_fields b vs) (sym is) ∙ law.0 stands ∙ has, λ e. law.1 (ap (λ (b : Agg). state_fields b vs) is ∙ e ∙ sym has))

-- ---- fields behind a list

gains_more : (old new : List Value) (v : Value) (fields : List Value) → GainsSome (old ++ v ∷ []) new fields → GainsSome old new (v ∷ fields)
gains_more old new v fields gains = (suc gains.0, gains.1 ∙ append_assoc old (v ∷ []) (take gains.0 fields))

sum_fields_is : (sum : Option ℤ) → sum_fields sum ≡ V.Bool (is_some sum) ∷ halves (unwrap_or sum (pos 0))
sum_fields_is None = refl
sum_fields_is (Some n) = refl

pub gains_sum : (old mid new : List Value) (sum : Option ℤ) (seen : Bool) (n m : ℤ) → mid ≡ old ++ V.Bool seen ∷ [] → seen ≡ is_some sum → m ≡ unwrap_or sum (pos 0) → n ≡ m → GainsSome mid new (halves n) → GainsSome old new (sum_fields sum)
gains_sum old mid new sum seen n m is_mid is_seen is_number same gains =
    let fields : V.Bool seen ∷ halves n ≡ sum_fields sum = ap (λ (b : Bool). V.Bool b ∷ halves n) is_seen ∙ ap (λ (z : ℤ). V.Bool (is_some sum) ∷ halves z) (same ∙ is_number) ∙ sym (sum_fields_is sum) in
    subst (GainsSome old new) fields (gains_more old new (V.Bool seen) (halves n) (subst (λ (l : List Value). GainsSome l new (halves n)) is_mid gains))

pub on_err : {T E P Q : Type 0} (r : Result T E) → (P → Q) → OnErr r P → OnErr r Q
on_err (Ok t) f h = tt
on_err (Err e) f h = f h

-- all behind the first
all_behind : (l : List Value) → take (length l - 1) (drop 1 l) ≡ drop 1 l
all_behind [] = refl
all_behind (x ∷ xs) =
    let fewer : length (x ∷ xs) - 1 ≡ length xs = omega arith in
    ap (λ (n : ℕ). take n xs) fewer ∙ take-length xs

-- the fields of a sum of no ints
pub no_sum : (l : List Value) → l ≡ V.Bool false ∷ drop 1 l → take (length l - 1) (drop 1 l) ≡ V.Int (pos 0) ∷ V.Int (pos 0) ∷ [] → V.Bool false ∷ halves (pos 0) ≡ l
no_sum l e zero =
    rw (high_half-zero, low_half-zero) (sym (e ∙ ap (λ (r : List Value). V.Bool false ∷ r) (sym (all_behind l) ∙ zero)))
