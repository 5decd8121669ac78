-- Tokens are read from the left until nothing is left or a piece is none.
use Rattle.std.proofs.Common.{◌≡◌, ◌<◌, ◌-◌, ℕ, zero, suc, inl, inr, false, List, [], ◌∷◌, ◌++◌, length, drop, Option, Some, None, refl, arith}
use Rattle.al_read.specs.declared.token.Token.{Token}
use Rattle.al_read.specs.declared.token.Placed.{Placed}
use Rattle.al_read.specs.TokenReading.{gap_len, token_at}
use Rattle.al_read.proofs.Readings.{Kept, keeps_on, shorter, is_bad, are_all}
use Rattle.al_read_laws.specs.EveryText.{HasTokensOrBad}

-- from fewer bytes on
abbrev Onward : ℕ → List ℕ → Type 0
Onward n bytes = (rest : List ℕ) (tokens : List Placed) → length rest < n → Kept bytes tokens rest → HasTokensOrBad bytes

-- at a piece
at_token : (n : ℕ) (bytes rest : List ℕ) (b : ℕ) (bs : List ℕ) (tokens : List Placed) → length rest < suc n → Kept bytes tokens rest → b ∷ bs ≡ drop (gap_len false rest) rest → Onward n bytes
    → (o : Option (Token × List ℕ)) → token_at (b ∷ bs) ≡ o → HasTokensOrBad bytes
at_token n bytes rest b bs tokens low kept e next None read =
    let place = length bytes - length (b ∷ bs) in
    inr (place, is_bad bytes rest (b ∷ bs) tokens place kept e (λ none. absurd cc) read refl)
at_token n bytes rest b bs tokens low kept e next (Some (token, after)) read =
    let place = length bytes - length (b ∷ bs) in
    let less = shorter rest (b ∷ bs) after token e read in
    next after (tokens ++ record { token = token; place = place } ∷ []) (omega (arith, less, low)) (keeps_on bytes rest (b ∷ bs) after tokens token place kept e (λ none. absurd cc) read refl)

at_piece : (n : ℕ) (bytes rest piece : List ℕ) (tokens : List Placed) → length rest < suc n → Kept bytes tokens rest → piece ≡ drop (gap_len false rest) rest → Onward n bytes → HasTokensOrBad bytes
at_piece n bytes rest [] tokens low kept e next = inl (tokens, are_all bytes rest [] tokens kept e refl)
at_piece n bytes rest (b ∷ bs) tokens low kept e next = at_token n bytes rest b bs tokens low kept e next (token_at (b ∷ bs)) refl

from : (n : ℕ) (bytes : List ℕ) → Onward n bytes
from zero bytes rest tokens low kept = absurd (omega (arith, low))
from (suc n) bytes rest tokens low kept = at_piece n bytes rest (drop (gap_len false rest) rest) tokens low kept refl (λ others more less still. from n bytes others more less still)

pub none_yet : (bytes : List ℕ) → Kept bytes [] bytes
none_yet bytes = record { first = (omega arith, refl); within = omega arith }

pub tokens_or_bad : (bytes : List ℕ) → HasTokensOrBad bytes
tokens_or_bad bytes = from (suc (length bytes)) bytes bytes [] (omega arith) (none_yet bytes)
