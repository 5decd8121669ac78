-- Results one after the other: all of them so far, one more, and the first error.
use Rattle.std.proofs.Common.{List, [], ◌∷◌, ◌++◌, ◌≡◌, Result, Ok, Err, refl, ap, length, arith}
use Rattle.al_csv.specs.Records.{all_ok, then_all}

pub all_ok_none : {A E : Type 0} → all_ok {A = A} {E = E} [] ≡ Ok []
unfolding all_ok
all_ok_none = refl

-- the values after the first, where all are there
rest_ok : {A E : Type 0} (x : A) (rest : Result (List A) E) (xs : List A) → then_all (Ok x) rest ≡ Ok xs → (ys : List A) × (rest ≡ Ok ys) × (xs ≡ x ∷ ys)
rest_ok x (Ok ys) xs h = (ys, refl, cc)
rest_ok x (Err e) xs h = cc

pub all_ok_push : {A E : Type 0} (rs : List (Result A E)) (xs : List A) (v : A) → all_ok rs ≡ Ok xs → all_ok (rs ++ (Ok v ∷ [])) ≡ Ok (xs ++ (v ∷ []))
unfolding all_ok
all_ok_push [] xs v h = let e : xs ≡ [] = cc in rw e refl
all_ok_push (Ok x ∷ rs) xs v h =
    let (ys, rest, same) = rest_ok x (all_ok rs) xs h in
    rw (same, all_ok_push rs ys v rest) refl
all_ok_push (Err e ∷ rs) xs v h = cc

pub all_ok_stop : {A E : Type 0} (rs : List (Result A E)) (xs : List A) (e : E) (more : List (Result A E)) → all_ok rs ≡ Ok xs → all_ok (rs ++ (Err e ∷ more)) ≡ Err e
unfolding all_ok
all_ok_stop [] xs e more h = refl
all_ok_stop (Ok x ∷ rs) xs e more h =
    let (ys, rest, same) = rest_ok x (all_ok rs) xs h in
    rw (all_ok_stop rs ys e more rest) refl
all_ok_stop (Err d ∷ rs) xs e more h = cc

-- the first value and the others
pub first_ok : {A E : Type 0} (r : Result A E) (rs : List (Result A E)) (xs : List A) → all_ok (r ∷ rs) ≡ Ok xs → (x : A) × (ys : List A) × (r ≡ Ok x) × (all_ok rs ≡ Ok ys) × (xs ≡ x ∷ ys)
unfolding all_ok
first_ok (Ok x) rs xs h = let (ys, rest, same) = rest_ok x (all_ok rs) xs h in (x, ys, refl, rest, same)
first_ok (Err e) rs xs h = cc

pub all_ok_nil : {A E : Type 0} (xs : List A) → all_ok {A = A} {E = E} [] ≡ Ok xs → xs ≡ []
unfolding all_ok
all_ok_nil xs h = cc

pub all_ok_length : {A E : Type 0} (rs : List (Result A E)) (xs : List A) → all_ok rs ≡ Ok xs → length xs ≡ length rs
all_ok_length {A} {E} [] xs h = ap (λ (ys : List A). length ys) (all_ok_nil {E = E} xs h)
all_ok_length (r ∷ rs) xs h =
    let (x, ys, here, rest, same) = first_ok r rs xs h in
    let shorter = all_ok_length rs ys rest in
    rw same (omega arith)
