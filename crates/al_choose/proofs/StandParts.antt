-- All rows of parts, one part after the other, and how they come of the rows of other parts.
use Rattle.std.proofs.Common.{◌≡◌, ◌<◌, ℕ, zero, suc, Bool, List, [], ◌∷◌, ◌++◌, map, filter, flat_map, drop, replicate, length, refl, ap, sym, subst, ◌∙◌, arith, ⊎_elim}
use Rattle.std.specs.List.{All, AllByRecursion, AllZip}
use Rattle.std.specs.List.Sorted.{IsPermutation}
use Rattle.std.proofs.lemmas.List.{append-nil, map-append}
use Rattle.std.proofs.lemmas.List.Elements.{All-nil, All-append, All-from_recursion, recursion_from_All, filter-append}
use Rattle.std.proofs.lemmas.List.Sorted.{IsPermutation-refl, IsPermutation-append}
use Rattle.std.proofs.lemmas.Grind.{flat_map-append}
use Rattle.al_plan.specs.Eval.{Env}
use Rattle.al_phys.specs.Parts.{Parts, Interleaves, Takes, in_first, first_part}

-- the rows of all parts, one part after the other
abbrev pub all_rows : {A : Type 0} → List (List A) → List A
all_rows {A} parts = flat_map (λ (xs : List A). xs) parts

-- ---- part by part

-- what is done to each part is done to all rows
pub rows_done : (f : List Env → List Env) → [] ≡ f [] → ((xs ys : List Env) → f (xs ++ ys) ≡ f xs ++ f ys) → (input parts : Parts) → AllZip (λ rows out. out ≡ f rows) input parts → all_rows parts ≡ f (all_rows input)
rows_done f none both [] [] z = none
rows_done f none both [] (out ∷ parts) z = absurd z
rows_done f none both (rows ∷ input) [] z = absurd z
rows_done f none both (rows ∷ input) (out ∷ parts) z =
    let rest = rows_done f none both input parts z.1 in
    (λ i. z.0 i ++ rest i) ∙ sym (both rows (all_rows input))

pub rows_mapped : (g : Env → Env) (input parts : Parts) → AllZip (λ rows out. out ≡ map g rows) input parts → all_rows parts ≡ map g (all_rows input)
rows_mapped g = rows_done (map g) refl (map-append g)

pub rows_filtered : (test : Env → Bool) (input parts : Parts) → AllZip (λ rows out. out ≡ filter test rows) input parts → all_rows parts ≡ filter test (all_rows input)
rows_filtered test = rows_done (filter test) refl (filter-append test)

pub rows_expanded : (g : Env → List Env) (input parts : Parts) → AllZip (λ rows out. out ≡ flat_map g rows) input parts → all_rows parts ≡ flat_map g (all_rows input)
rows_expanded g = rows_done (flat_map g) refl (flat_map-append g)

zip_both : {X Y : Type 0} (R : X → Y → Type 0) (xs us : List X) (ys vs : List Y) → AllZip R xs ys → AllZip R us vs → AllZip R (xs ++ us) (ys ++ vs)
zip_both R [] us [] vs h g = g
zip_both R [] us (y ∷ ys) vs h g = absurd h
zip_both R (x ∷ xs) us [] vs h g = absurd h
zip_both R (x ∷ xs) us (y ∷ ys) vs h g = (h.0, zip_both R xs us ys vs h.1 g)

-- rows that stand beside each other in the parts do so in all rows
pub rows_zipped : (R : Env → Env → Type 0) (input parts : Parts) → AllZip (AllZip R) input parts → AllZip R (all_rows input) (all_rows parts)
rows_zipped R [] [] z = tt
rows_zipped R [] (out ∷ parts) z = absurd z
rows_zipped R (rows ∷ input) [] z = absurd z
rows_zipped R (rows ∷ input) (out ∷ parts) z = zip_both R rows (all_rows input) out (all_rows parts) z.0 (rows_zipped R input parts z.1)

-- what holds of the rows of each part holds of all rows
pub rows_all : (P : Env → Type 0) (parts : Parts) → All (All P) parts → All P (all_rows parts)
rows_all P parts h = go parts (recursion_from_All (All P) parts h)
  where
    go : (parts : Parts) → AllByRecursion (All P) parts → All P (all_rows parts)
    go [] h = All-nil P
    go (rows ∷ parts) h = All-append P rows (all_rows parts) h.0 (go parts h.1)

-- parts that are moved each in itself
pub rows_moved : (R : List Env → List Env → Type 0) → ((rows out : List Env) → R rows out → IsPermutation rows out) → (input parts : Parts) → AllZip R input parts → IsPermutation (all_rows input) (all_rows parts)
rows_moved R f [] [] z = IsPermutation-refl []
rows_moved R f [] (out ∷ parts) z = absurd z
rows_moved R f (rows ∷ input) [] z = absurd z
rows_moved R f (rows ∷ input) (out ∷ parts) z = IsPermutation-append rows out (all_rows input) (all_rows parts) (f rows out z.0) (rows_moved R f input parts z.1)

-- ---- all rows in the first part

abbrev pub IsNone : Parts → Type 0
IsNone = AllByRecursion (λ rows. rows ≡ [])

none_rows : (parts : Parts) → IsNone parts → all_rows parts ≡ []
none_rows [] h = refl
none_rows (rows ∷ parts) h = ap (λ (xs : List Env). xs ++ all_rows parts) h.0 ∙ none_rows parts h.1

none_replicated : (parts : Parts) → IsNone parts → parts ≡ replicate (length parts) []
none_replicated [] h = refl
none_replicated (rows ∷ parts) h = let rest = none_replicated parts h.1 in λ i. h.0 i ∷ rest i

replicated_none : (n : ℕ) → IsNone (replicate n [])
replicated_none zero = tt
replicated_none (suc n) = (refl, replicated_none n)

pub rows_first : (n : ℕ) (rows : List Env) → 0 < n → all_rows (in_first n rows) ≡ rows
rows_first zero rows some = absurd (omega arith)
rows_first (suc n) rows some = ap (λ (xs : List Env). rows ++ xs) (none_rows (replicate n []) (replicated_none n)) ∙ append-nil rows

pub first_first : (n : ℕ) (rows : List Env) → 0 < n → first_part (in_first n rows) ≡ rows
first_first zero rows some = absurd (omega arith)
first_first (suc n) rows some = refl

abbrev pub IsOne : Parts → Type 0
IsOne parts = All (λ rows. rows ≡ []) (drop 1 parts)

one_none : (rows : List Env) (parts : Parts) → IsOne (rows ∷ parts) → IsNone parts
one_none rows parts h = recursion_from_All (λ xs. xs ≡ []) parts h

pub one_rows : (parts : Parts) → IsOne parts → all_rows parts ≡ first_part parts
one_rows [] h = refl
one_rows (rows ∷ parts) h = ap (λ (xs : List Env). rows ++ xs) (none_rows parts (one_none rows parts h)) ∙ append-nil rows

pub one_first : (parts : Parts) → IsOne parts → parts ≡ in_first (length parts) (all_rows parts)
one_first [] h = refl
one_first (rows ∷ parts) h =
    let none = one_none rows parts h in
    let others = none_replicated parts none in
    let all = one_rows (rows ∷ parts) h in
    λ i. sym all i ∷ others i

-- what is done to the rows of the one part that has any is done to all rows
pub one_done : (f : List Env → List Env) → f [] ≡ [] → (input parts : Parts) → IsOne input → AllZip (λ rows out. out ≡ f rows) input parts → all_rows parts ≡ f (all_rows input)
one_done f none [] [] one z = sym none
one_done f none [] (out ∷ parts) one z = absurd z
one_done f none (rows ∷ input) [] one z = absurd z
one_done f none (rows ∷ input) (out ∷ parts) one z =
    one_rows (out ∷ parts) (All-from_recursion (λ xs. xs ≡ []) parts (rest input parts (one_none rows input one) z.1)) ∙ z.0 ∙ ap f (sym (one_rows (rows ∷ input) one))
  where
    rest : (input parts : Parts) → IsNone input → AllZip (λ rows out. out ≡ f rows) input parts → IsNone parts
    rest [] [] h z = tt
    rest [] (out ∷ parts) h z = absurd z
    rest (rows ∷ input) [] h z = absurd z
    rest (rows ∷ input) (out ∷ parts) h z = (z.0 ∙ ap f h.0 ∙ none, rest input parts h.1 z.1)

none_taken : (parts : Parts) (z : Env) (rest : Parts) → Takes parts z rest → IsNone parts → ⊥
unfolding Takes
none_taken [] z rest t h = t
none_taken (rows ∷ parts) z rest t h =
    ⊎_elim
    (λ (here : (more : List Env) × (rows ≡ z ∷ more) × (rest ≡ more ∷ parts)). let e : [] ≡ z ∷ here.0 = sym h.0 ∙ here.1 in differ e)
    (λ (there : (others : Parts) × Takes parts z others × (rest ≡ rows ∷ others)). none_taken parts z there.0 there.1 h.1)
    t
  where
    differ : {x : Env} {xs : List Env} → [] ≡ x ∷ xs → ⊥
    differ e = cc

-- an interleaving of parts of which the first alone has rows is that part
pub one_interleaved : (parts : Parts) (zs : List Env) → IsOne parts → Interleaves parts zs → zs ≡ first_part parts
unfolding Interleaves Takes
one_interleaved [] [] one h = refl
one_interleaved [] (z ∷ zs) one h = absurd h.1
one_interleaved (rows ∷ parts) [] one h = sym (h zero rows (omega arith))
one_interleaved (rows ∷ parts) (z ∷ zs) one h =
    ⊎_elim
    (λ (here : (more : List Env) × (rows ≡ z ∷ more) × (h.0 ≡ more ∷ parts)).
    let rest = one_interleaved (here.0 ∷ parts) zs one (subst (λ (ps : Parts). Interleaves ps zs) here.2 h.2) in
    ap (λ (xs : List Env). z ∷ xs) rest ∙ sym here.1)
    (λ (there : (others : Parts) × Takes parts z others × (h.0 ≡ rows ∷ others)). absurd (none_taken parts z there.0 there.1 (one_none rows parts one)))
    h.1
