-- Aggregates over lists whose partial states have the same fields.
use Rattle.std.proofs.Common.{◌≡◌, ℤ, pos, ◌+ℤ◌, List, [], ◌∷◌, ◌++◌, map, flat_map, take, drop, length, refl, ap, sym, subst, ◌∙◌, Option, Some, None, inl, inr}
use Rattle.std.specs.Prelude.{FitsSigned, IfSome}
use Rattle.std.specs.Int.{w128}
use Rattle.std.specs.List.{All, AllByRecursion, AllZip}
use Rattle.std.proofs.Math.Seq.{take-append_seam, drop-append_seam}
use Rattle.std.proofs.lemmas.Int.{SFits-int_wrap}
use Rattle.std.proofs.lemmas.List.{map-append}
use Rattle.al_value.specs.declared.value.Value.{Value}
use Rattle.al_value.specs.declared.value.Value.TheVariants as V
use Rattle.al_value.specs.Value.{IsValue}
use Rattle.al_agg.specs.declared.agg.Agg.{Agg}
use Rattle.al_agg.specs.declared.agg.Agg.TheVariants as A
use Rattle.al_agg.specs.Agg.{agg, wrapped, fitted, present, ints_of, total, least, greatest, lesser, greater, sum_of}
use Rattle.al_agg.specs.Part.{width, halves, sum_fields, some_sum, joined_sums, state_fields}
use Rattle.al_agg.proofs.HalfLaws.{halves-injective}
use Rattle.al_agg.proofs.FieldLaws.{fields_of_list}
use Rattle.al_agg.proofs.PartLaws.{length-join, present-join, sum-join, least-join, greatest-join}
use Rattle.hy_job.specs.declared.nested.AggRex.{AggRex}
use Rattle.hy_job.specs.declared.nested.AggRex.TheVariants as C
use Rattle.hy_job.specs.Columns.{Row, agg_of, agg_values, agg_value, agg_row, state_row}
use Rattle.hy_job.specs.Runs.{StandFor, IsJoined, AreJoined}
use Rattle.al_jobgen.specs.Agree.{AreTaken}

-- all lists, one after the other
abbrev pub joined : {X : Type 0} → List (List X) → List X
joined xss = flat_map (λ xs. xs) xss

-- ---- what a state keeps of a list

-- two lists that have one state
abbrev Same : Agg → List Value → List Value → Type 0
Same A.CountAll vs ws = wrapped (pos (length vs)) ≡ wrapped (pos (length ws))
Same A.Count vs ws = wrapped (pos (length (present vs))) ≡ wrapped (pos (length (present ws)))
Same A.Sum vs ws = some_sum (ints_of vs) ≡ some_sum (ints_of ws)
Same A.Min vs ws = least vs ≡ least ws
Same A.Max vs ws = greatest vs ≡ greatest ws

fits : (z : ℤ) → FitsSigned w128 (wrapped z)
fits z = SFits-int_wrap w128 z

sum_fits : (ns : List ℤ) → IfSome (some_sum ns) (FitsSigned w128)
sum_fits [] = tt
sum_fits (n ∷ ns) = fits (total (n ∷ ns))

same_numbers : (a b : ℤ) → FitsSigned w128 a → FitsSigned w128 b → halves a ≡ halves b → a ≡ b
same_numbers a b p q e = halves-injective a b p q (cc) (cc)

same_sums : (a b : Option ℤ) → IfSome a (FitsSigned w128) → IfSome b (FitsSigned w128) → sum_fields a ≡ sum_fields b → a ≡ b
same_sums None None p q e = refl
same_sums None (Some n) p q e = cc
same_sums (Some m) None p q e = cc
same_sums (Some m) (Some n) p q e = ap Some (halves-injective m n p q (cc) (cc))

from_fields : (a : Agg) (vs ws : List Value) → state_fields a vs ≡ state_fields a ws → Same a vs ws
unfolding state_fields
from_fields A.CountAll vs ws e = same_numbers _ _ (fits (pos (length vs))) (fits (pos (length ws))) e
from_fields A.Count vs ws e = same_numbers _ _ (fits (pos (length (present vs)))) (fits (pos (length (present ws)))) e
from_fields A.Sum vs ws e = same_sums _ _ (sum_fits (ints_of vs)) (sum_fits (ints_of ws)) e
from_fields A.Min vs ws e = cc
from_fields A.Max vs ws e = cc

same-itself : (a : Agg) (vs : List Value) → Same a vs vs
same-itself A.CountAll vs = refl
same-itself A.Count vs = refl
same-itself A.Sum vs = refl
same-itself A.Min vs = refl
same-itself A.Max vs = refl

same-append : (a : Agg) (vs ws us zs : List Value) → Same a vs ws → Same a us zs → Same a (vs ++ us) (ws ++ zs)
same-append A.CountAll vs ws us zs e f = sym (length-join vs us _ _ refl refl) ∙ (λ i. wrapped (e i +ℤ f i)) ∙ length-join ws zs _ _ refl refl
same-append A.Count vs ws us zs e f = sym (present-join vs us _ _ refl refl) ∙ (λ i. wrapped (e i +ℤ f i)) ∙ present-join ws zs _ _ refl refl
same-append A.Sum vs ws us zs e f = sym (sum-join vs us _ _ refl refl) ∙ (λ i. joined_sums (e i) (f i)) ∙ sum-join ws zs _ _ refl refl
same-append A.Min vs ws us zs e f = sym (least-join vs us _ _ refl refl) ∙ (λ i. lesser (e i) (f i)) ∙ least-join ws zs _ _ refl refl
same-append A.Max vs ws us zs e f = sym (greatest-join vs us _ _ refl refl) ∙ (λ i. greater (e i) (f i)) ∙ greatest-join ws zs _ _ refl refl

sum_from : Option ℤ → Value
sum_from None = V.Null
sum_from (Some z) = fitted z

sum_is : (ns : List ℤ) → sum_of ns ≡ sum_from (some_sum ns)
unfolding sum_from
sum_is [] = refl
sum_is (n ∷ ns) = refl

to_agg : (a : Agg) (vs ws : List Value) → Same a vs ws → agg a vs ≡ agg a ws
unfolding agg
to_agg A.CountAll vs ws e = ap fitted e
to_agg A.Count vs ws e = ap fitted e
to_agg A.Sum vs ws e = sum_is (ints_of vs) ∙ ap sum_from e ∙ sym (sum_is (ints_of ws))
to_agg A.Min vs ws e = e
to_agg A.Max vs ws e = e

-- ---- joined states

-- lists that the states of lists stand for are these lists, as far as the aggregate sees
stand_same : (a : Agg) (vals lists : List (List Value)) → AllByRecursion (All IsValue) vals → AllZip (StandFor a) (map (state_fields a) vals) lists → Same a (joined lists) (joined vals)
stand_same a [] [] valid h = same-itself a []
stand_same a [] (vs ∷ lists) valid h = absurd h
stand_same a (ws ∷ vals) [] valid h = absurd h
stand_same a (ws ∷ vals) (vs ∷ lists) valid h =
    same-append a vs ws (joined lists) (joined vals)
    (elim h.0 [ inl e ↦ from_fields a vs ws e | inr n ↦ absurd (n.0 (fields_of_list a ws valid.0)) ])
    (stand_same a vals lists valid.1 h.1)

joined_value : (a : Agg) (vals : List (List Value)) (v : Value) → AllByRecursion (All IsValue) vals → IsJoined a (map (state_fields a) vals) v → v ≡ agg a (joined vals)
joined_value a vals v valid h = h.2 ∙ to_agg a (joined h.0) (joined vals) (stand_same a vals h.0 valid h.1)

sum_width : (sum : Option ℤ) → length (sum_fields sum) ≡ 3
sum_width None = refl
sum_width (Some n) = refl

pub fields_width : (a : Agg) (vs : List Value) → length (state_fields a vs) ≡ width a
unfolding state_fields
fields_width A.CountAll vs = refl
fields_width A.Count vs = refl
fields_width A.Sum vs = sum_width (some_sum (ints_of vs))
fields_width A.Min vs = refl
fields_width A.Max vs = refl

values-append : (a : AggRex) (xs ys : List Row) → agg_values a (xs ++ ys) ≡ agg_values a xs ++ agg_values a ys
values-append C.CountAll xs ys = map-append (λ row. V.Null) xs ys
values-append (C.Count e) xs ys = map-append _ xs ys
values-append (C.Sum e) xs ys = map-append _ xs ys
values-append (C.Min e) xs ys = map-append _ xs ys
values-append (C.Max e) xs ys = map-append _ xs ys

values-none : (a : AggRex) → agg_values a [] ≡ []
values-none C.CountAll = refl
values-none (C.Count e) = refl
values-none (C.Sum e) = refl
values-none (C.Min e) = refl
values-none (C.Max e) = refl

values-joined : (a : AggRex) (ins : List (List Row)) → joined (map (agg_values a) ins) ≡ agg_values a (joined ins)
values-joined a [] = sym (values-none a)
values-joined a (rows ∷ ins) = ap (λ (vs : List Value). agg_values a rows ++ vs) (values-joined a ins) ∙ sym (values-append a rows (joined ins))

-- the first fields of each row are the first aggregate's, and the rest the others'
first_fields : (a : AggRex) (more : List AggRex) (ins : List (List Row)) → map (take (width (agg_of a))) (map (state_row (a ∷ more)) ins) ≡ map (state_fields (agg_of a)) (map (agg_values a) ins)
first_fields a more [] = refl
first_fields a more (rows ∷ ins) =
    let own = state_fields (agg_of a) (agg_values a rows) in
    let here : take (width (agg_of a)) (own ++ state_row more rows) ≡ own = ap (λ n. take n (own ++ state_row more rows)) (sym (fields_width (agg_of a) (agg_values a rows))) ∙ take-append_seam own (state_row more rows) in
    λ i. here i ∷ first_fields a more ins i

other_fields : (a : AggRex) (more : List AggRex) (ins : List (List Row)) → map (drop (width (agg_of a))) (map (state_row (a ∷ more)) ins) ≡ map (state_row more) ins
other_fields a more [] = refl
other_fields a more (rows ∷ ins) =
    let own = state_fields (agg_of a) (agg_values a rows) in
    let here : drop (width (agg_of a)) (own ++ state_row more rows) ≡ state_row more rows = ap (λ n. drop n (own ++ state_row more rows)) (sym (fields_width (agg_of a) (agg_values a rows))) ∙ drop-append_seam own (state_row more rows) in
    λ i. here i ∷ other_fields a more ins i

first_taken : (a : AggRex) (more : List AggRex) (ins : List (List Row)) → AllByRecursion (AreTaken (a ∷ more)) ins → AllByRecursion (All IsValue) (map (agg_values a) ins)
first_taken a more [] h = tt
first_taken a more (rows ∷ ins) h = (h.0.0, first_taken a more ins h.1)

others_taken : (a : AggRex) (more : List AggRex) (ins : List (List Row)) → AllByRecursion (AreTaken (a ∷ more)) ins → AllByRecursion (AreTaken more) ins
others_taken a more [] h = tt
others_taken a more (rows ∷ ins) h = (h.0.1, others_taken a more ins h.1)

-- joined rows of states give the aggregates over all rows
pub joined_row : (made : List AggRex) (ins : List (List Row)) (values : Row) → AllByRecursion (AreTaken made) ins → AreJoined (map agg_of made) (map (state_row made) ins) values → values ≡ agg_row made (joined ins)
joined_row [] ins values valid h = h
joined_row (a ∷ more) ins values valid h =
    let own : h.0 ≡ agg_value a (joined ins) =
    joined_value (agg_of a) (map (agg_values a) ins) h.0 (first_taken a more ins valid) (subst (λ (states : List (List Value)). IsJoined (agg_of a) states h.0) (first_fields a more ins) h.3)
    ∙ ap (agg (agg_of a)) (values-joined a ins) in
    let rest : h.1 ≡ agg_row more (joined ins) = joined_row more ins h.1 (others_taken a more ins valid) (subst (λ (rows : List Row). AreJoined (map agg_of more) rows h.1) (other_fields a more ins) h.4) in
    h.2 ∙ (λ i. own i ∷ rest i)
