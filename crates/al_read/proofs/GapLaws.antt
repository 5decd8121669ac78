-- The gap at the front, measured and cut off.
use Rattle.std.proofs.Common.{◌≡◌, ℕ, suc, ◌+◌, ◌≤◌, arith, Bool, true, false, ◌⊎◌, inl, inr, List, [], ◌∷◌, ◌++◌, length, take, drop, refl, ap, ◌∙◌}
use Rattle.std.proofs.lemmas.Bool.{cond-true, cond-false, cond_both, true≢false}
use Rattle.al_read.specs.Tokens.{is_between, is_inside, IsGap, BeginsPiece}
use Rattle.al_read.specs.TokenReading.{gap_len}

-- a gap that a piece follows is all that is measured
pub gap_len-gap : (before : Bool) (gap rest : List ℕ) → IsGap before gap false → gap_len false rest ≡ 0 → gap_len before (gap ++ rest) ≡ length gap
gap_len-gap before [] rest between stops = ap (λ (b : Bool). gap_len b rest) between ∙ stops
gap_len-gap before (b ∷ gap) rest between stops =
    cond-true (is_between before b) (suc (gap_len (is_inside before b) (gap ++ rest))) 0 between.0 ∙ ap suc (gap_len-gap (is_inside before b) gap rest between.1 stops)

-- a gap with nothing behind it is measured whole
pub gap_len-whole : (before after : Bool) (gap : List ℕ) → IsGap before gap after → gap_len before gap ≡ length gap
gap_len-whole before after [] between = refl
gap_len-whole before after (b ∷ gap) between =
    cond-true (is_between before b) (suc (gap_len (is_inside before b) gap)) 0 between.0 ∙ ap suc (gap_len-whole (is_inside before b) after gap between.1)

-- a piece has no gap at its front
pub gap_len-piece : (piece : List ℕ) → BeginsPiece piece → gap_len false piece ≡ 0
gap_len-piece [] stands = absurd stands
gap_len-piece (b ∷ others) stands = cond-false (is_between false b) (suc (gap_len (is_inside false b) others)) 0 stands

-- n bytes are a gap, and then comes a piece, or nothing
pub record CutsAt (before : Bool) (bytes : List ℕ) (n : ℕ) : Type 0 where
  pub after : Bool
  pub gap : IsGap before (take n bytes) after
  pub behind : (drop n bytes ≡ []) ⊎ ((after ≡ false) × BeginsPiece (drop n bytes))

not_between : (before : Bool) (b : ℕ) → is_between before b ≡ false → (before ≡ false) × (is_between false b ≡ false)
not_between true b e = absurd (true≢false e)
not_between false b e = (refl, e)

pub cuts : (before : Bool) (bytes : List ℕ) → CutsAt before bytes (gap_len before bytes)
cuts before [] = record { after = before; gap = refl; behind = inl refl }
cuts before (b ∷ bytes) =
    let r = cuts (is_inside before b) bytes in
    cond_both (is_between before b) (suc (gap_len (is_inside before b) bytes)) 0 (CutsAt before (b ∷ bytes))
    (λ yes. record { after = r.after; gap = (yes, r.gap); behind = r.behind })
    (λ no. record { after = before; gap = refl; behind = inr (not_between before b no) })

pub gap_len-within : (inside : Bool) (bytes : List ℕ) → gap_len inside bytes ≤ length bytes
gap_len-within inside [] = omega arith
gap_len-within inside (b ∷ bytes) =
    let rec = gap_len-within (is_inside inside b) bytes in
    cond_both (is_between inside b) (suc (gap_len (is_inside inside b) bytes)) 0 (λ n. n ≤ length (b ∷ bytes)) (λ _. omega arith) (λ _. omega arith)
