-- Pieces that are written one behind the other.
use Rattle.std.proofs.Common.{◌≡◌, ℕ, ◌+◌, ◌<◌, ◌≤◌, List, [], ◌∷◌, ◌++◌, take, drop, length, get_or, Option, None, Some, ap, sym, refl, ◌∙◌, Bor, append_assoc, append-nil, arith, length-append}
use Rattle.std.proofs.lemmas.List.{take_more, take-append-drop, take-append-le}
use Rattle.std.proofs.Math.Seq.{take-append-add}
use Rattle.al_value.specs.Outside.{Told}
use Rattle.al_io.specs.Outside.{Bytes, GainsPrefix, joined}
use Rattle.al_io.proofs.Gains.{told_at}

joined-append : (xs ys : List (Bor Bytes)) → joined (xs ++ ys) ≡ joined xs ++ joined ys
joined-append [] ys = refl
joined-append (x ∷ xs) ys = ap (λ (zs : Bytes). x.now ++ zs) (joined-append xs ys) ∙ sym (append_assoc x.now (joined xs) (joined ys))

joined_more : (pieces : List (Bor Bytes)) (i : ℕ) (d : Bor Bytes) → i < length pieces → joined (take (i + 1) pieces) ≡ joined (take i pieces) ++ (get_or pieces i d).now
joined_more pieces i d h =
    ap joined (take_more pieces i d h) ∙ joined-append (take i pieces) (get_or pieces i d ∷ []) ∙ ap (λ (zs : Bytes). joined (take i pieces) ++ zs) (append-nil (get_or pieces i d).now)

joined_parts : (pieces : List (Bor Bytes)) (i : ℕ) (d : Bor Bytes) → i < length pieces → joined pieces ≡ joined (take i pieces) ++ ((get_or pieces i d).now ++ joined (drop (i + 1) pieces))
joined_parts pieces i d h =
    ap joined (sym (take-append-drop (i + 1) pieces)) ∙ joined-append (take (i + 1) pieces) (drop (i + 1) pieces)
    ∙ ap (λ (zs : Bytes). zs ++ joined (drop (i + 1) pieces)) (joined_more pieces i d h) ∙ append_assoc (joined (take i pieces)) (get_or pieces i d).now (joined (drop (i + 1) pieces))

-- one piece more was written whole
pub pieces_more : (w0 w1 w2 : Option Bytes) (pieces : List (Bor Bytes)) (i : ℕ) (d : Bor Bytes) → i < length pieces → Told w0 (λ old. w1 ≡ Some (old ++ joined (take i pieces))) → Told w1 (λ was. w2 ≡ Some (was ++ (get_or pieces i d).now))
    → Told w0 (λ old. w2 ≡ Some (old ++ joined (take (i + 1) pieces)))
pieces_more None w1 w2 pieces i d lt h k = tt
pieces_more (Some old) w1 w2 pieces i d lt h k =
    told_at w1 (old ++ joined (take i pieces)) (λ was. w2 ≡ Some (was ++ (get_or pieces i d).now)) h k
    ∙ ap Some (append_assoc old (joined (take i pieces)) (get_or pieces i d).now ∙ ap (λ (zs : Bytes). old ++ zs) (sym (joined_more pieces i d lt)))

part_at : (old : Bytes) (w2 : Option Bytes) (pieces : List (Bor Bytes)) (i : ℕ) (d : Bor Bytes) → i < length pieces → GainsPrefix (old ++ joined (take i pieces)) (get_or pieces i d).now w2 → GainsPrefix old (joined pieces) w2
part_at old w2 pieces i d lt (n, few, is) =
    let before = joined (take i pieces) in
    let piece = (get_or pieces i d).now in
    let after = joined (drop (i + 1) pieces) in
    let parts = joined_parts pieces i d lt in
    let short : length before + n ≤ length (joined pieces) = omega (arith, ap length parts, length-append before (piece ++ after), length-append piece after, few) in
    let front : take (length before + n) (joined pieces) ≡ before ++ take n piece =
    ap (take (length before + n)) parts ∙ take-append-add before (piece ++ after) n ∙ ap (λ (zs : Bytes). before ++ zs) (take-append-le n piece after few) in
    (length before + n, short, is ∙ ap Some (append_assoc old before (take n piece) ∙ ap (λ (zs : Bytes). old ++ zs) (sym front)))

-- a part of a piece was written
pub pieces_part : (w0 w1 w2 : Option Bytes) (pieces : List (Bor Bytes)) (i : ℕ) (d : Bor Bytes) → i < length pieces → Told w0 (λ old. w1 ≡ Some (old ++ joined (take i pieces))) → Told w1 (λ was. GainsPrefix was (get_or pieces i d).now w2)
    → Told w0 (λ old. GainsPrefix old (joined pieces) w2)
pieces_part None w1 w2 pieces i d lt h k = tt
pieces_part (Some old) w1 w2 pieces i d lt h k =
    part_at old w2 pieces i d lt (told_at w1 (old ++ joined (take i pieces)) (λ was. GainsPrefix was (get_or pieces i d).now w2) h k)
