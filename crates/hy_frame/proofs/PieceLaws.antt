-- Lists that are joined, and pieces that are written over others.
use Rattle.std.proofs.Common.{◌≡◌, ◌∙◌, ℕ, zero, suc, ◌+◌, ◌-◌, ◌<◌, ◌≤◌, List, [], ◌∷◌, ◌++◌, length, take, drop, get_or, replicate, refl, sym, ap, append_assoc, length-append, arith}
use Rattle.std.proofs.lemmas.List.{take_at, drop_at, drop-drop, length-replicate}
use Rattle.std.specs.List.{concat}
use Rattle.hy_frame.specs.Pieces.{put_at}

pub concat-append : (xs ys : List (List ℕ)) → concat (xs ++ ys) ≡ concat xs ++ concat ys
concat-append [] ys = refl
concat-append (x ∷ xs) ys = ap (λ (l : List ℕ). x ++ l) (concat-append xs ys) ∙ sym (append_assoc x (concat xs) (concat ys))

-- where the piece in place j begins
abbrev pub start_in : ℕ → List (List ℕ) → ℕ
start_in j pieces = length (concat (take j pieces))

pub start_more : (pieces : List (List ℕ)) (j : ℕ) → j < length pieces → start_in (suc j) pieces ≡ start_in j pieces + length (get_or pieces j [])
start_more [] j low = absurd (omega arith)
start_more (p ∷ pieces) zero low = length-append p [] ∙ (let e : length p + 0 ≡ 0 + length p = omega arith in e)
start_more (p ∷ pieces) (suc j) low =
    let more = start_more pieces j (omega arith) in
    let a = length-append p (concat (take (suc j) pieces)) in
    let b = length-append p (concat (take j pieces)) in
    omega (arith, more, a, b)

pub start_within : (pieces : List (List ℕ)) (j : ℕ) → start_in j pieces ≤ length (concat pieces)
start_within [] zero = omega arith
start_within [] (suc j) = omega arith
start_within (p ∷ pieces) zero = omega arith
start_within (p ∷ pieces) (suc j) =
    let more = start_within pieces j in
    omega (arith, more, length-append p (concat (take j pieces)), length-append p (concat pieces))

-- the piece in place j stands behind those before it
pub piece_at : (pieces : List (List ℕ)) (rest : List ℕ) (j : ℕ) → j < length pieces
    → take (length (get_or pieces j [])) (drop (start_in j pieces) (concat pieces ++ rest)) ≡ get_or pieces j []
piece_at [] rest j low = absurd (omega arith)
piece_at (p ∷ pieces) rest zero low = rw append_assoc (take_at p (concat pieces ++ rest) (length p) refl)
piece_at (p ∷ pieces) rest (suc j) low =
    let at : length (p ++ concat (take j pieces)) ≡ length p + start_in j pieces = length-append p (concat (take j pieces)) in
    let behind : drop (length p + start_in j pieces) ((p ++ concat pieces) ++ rest) ≡ drop (start_in j pieces) (concat pieces ++ rest) =
    sym (drop-drop (start_in j pieces) (length p) ((p ++ concat pieces) ++ rest))
    ∙ ap (λ (l : List ℕ). drop (start_in j pieces) (drop (length p) l)) (append_assoc p (concat pieces) rest)
    ∙ ap (drop (start_in j pieces)) (drop_at p (concat pieces ++ rest) (length p) refl) in
    rw (at, behind) (piece_at pieces rest j (omega arith))

pub replicate_split : (m n y : ℕ) → replicate (m + n) y ≡ replicate m y ++ replicate n y
replicate_split zero n y = let e : 0 + n ≡ n = omega arith in ap (λ k. replicate k y) e
replicate_split (suc m) n y =
    let e : suc m + n ≡ suc (m + n) = omega arith in
    ap (λ k. replicate k y) e ∙ ap (λ (l : List ℕ). y ∷ l) (replicate_split m n y)

-- a piece takes the place of one as long
pub put_over : (before piece there after : List ℕ) (at : ℕ) → length before ≡ at → length there ≡ length piece
    → put_at at piece (before ++ (there ++ after)) ≡ before ++ (piece ++ after)
put_over before piece there after at starts long =
    let front : take at (before ++ (there ++ after)) ≡ before = take_at before (there ++ after) at starts in
    let back : drop (at + length piece) (before ++ (there ++ after)) ≡ after =
    sym (drop-drop (length piece) at (before ++ (there ++ after)))
    ∙ ap (drop (length piece)) (drop_at before (there ++ after) at starts)
    ∙ drop_at there after (length piece) long in
    rw (front, back) refl

-- a piece at the front of zeros
pub put_front : (before piece after : List ℕ) (n at : ℕ) → length before ≡ at → length piece ≤ n
    → put_at at piece (before ++ (replicate n 0 ++ after)) ≡ before ++ (piece ++ (replicate (n - length piece) 0 ++ after))
put_front before piece after n at starts fits =
    let whole : replicate n 0 ≡ replicate (length piece) 0 ++ replicate (n - length piece) 0 =
    (let e : n ≡ length piece + (n - length piece) = omega arith in ap (λ k. replicate k 0) e ∙ replicate_split (length piece) (n - length piece) 0) in
    rw (whole, append_assoc) (put_over before piece (replicate (length piece) 0) (replicate (n - length piece) 0 ++ after) at starts (length-replicate (length piece) 0))

-- a piece at the back of zeros
pub put_back : (before piece after : List ℕ) (n at : ℕ) → length before + (n - length piece) ≡ at → length piece ≤ n
    → put_at at piece (before ++ (replicate n 0 ++ after)) ≡ before ++ (replicate (n - length piece) 0 ++ (piece ++ after))
put_back before piece after n at starts fits =
    let zeros : List ℕ = replicate (n - length piece) 0 in
    let whole : replicate n 0 ≡ zeros ++ replicate (length piece) 0 =
    (let e : n ≡ (n - length piece) + length piece = omega arith in ap (λ k. replicate k 0) e ∙ replicate_split (n - length piece) (length piece) 0) in
    let long : length (before ++ zeros) ≡ at = omega (arith, length-append before zeros, length-replicate {A = ℕ} (n - length piece) 0) in
    let there : before ++ (replicate n 0 ++ after) ≡ (before ++ zeros) ++ (replicate (length piece) 0 ++ after) =
    ap (λ (z : List ℕ). before ++ (z ++ after)) whole ∙ ap (λ (l : List ℕ). before ++ l) (append_assoc zeros (replicate (length piece) 0) after)
    ∙ sym (append_assoc before zeros (replicate (length piece) 0 ++ after)) in
    ap (put_at at piece) there ∙ put_over (before ++ zeros) piece (replicate (length piece) 0) after at long (length-replicate (length piece) 0)
    ∙ append_assoc before zeros (piece ++ after)
