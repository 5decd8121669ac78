-- A text is too large, or not UTF-8, or has a piece that is no token, or its tokens are a file or are refused.
use Rattle.std.proofs.Common.{◌≡◌, ◌⊎◌, ◌<◌, ◌≤◌, ℕ, zero, suc, inl, inr, true, false, List, [], ◌∷◌, length, take, Option, Some, None, Result, Ok, Err, refl, sym, subst, arith}
use Rattle.std.specs.Prelude.{IsUtf8}
use Rattle.std.specs.Str.{is_utf8, IsValidUpTo}
use Rattle.std.proofs.lemmas.Bool.{cases_Bool, cases_order}
use Rattle.std.proofs.lemmas.List.{take_all}
use Rattle.std.proofs.lemmas.Str.{IsUtf8-from_is_utf8, is_utf8-from_IsUtf8, IsUtf8-nil}
use Rattle.al_plan.specs.declared.file.PlanFile.{PlanFile}
use Rattle.al_plan.specs.declared.file.RefusedKind.{RefusedKind}
use Rattle.al_plan.specs.declared.file.RefusedKind.TheVariants as kind
use Rattle.al_read.specs.declared.token.Placed.{Placed}
use Rattle.al_read.specs.declared.plan.operator.Parts.{Parts}
use Rattle.al_read.specs.declared.plan.ReadRefused.{ReadRefused}
use Rattle.al_read.specs.declared.plan.ReadRefused.TheVariants as refused
use Rattle.al_read.specs.Tokens.{IsPlanText, IsTokens}
use Rattle.al_read.specs.Reads.{refusal, too_large, utf8, token}
use Rattle.al_read.specs.PlanReading.{State, Outcome, Read, Stops, or_large, large_of, whole_of, stopped_with, kind_stopped, answer_of, file_of_tokens}
use Rattle.al_read.proofs.PlanReads.{file_given, refusal_given}
use Rattle.al_read_laws.specs.EveryText.{HasTokensOrBad, HasReadingOrRefusal}
use Rattle.al_read_laws.proofs.AllTokens.{tokens_or_bad}

-- ---- reading tokens never ends for want of memory

abbrev WantsMemory : Result PlanFile ReadRefused → Type 0
WantsMemory answer = answer ≡ Err refused.NoMemory

stopped_answers : (k : RefusedKind) (rest deep : List Placed) (end : ℕ) → WantsMemory (stopped_with k rest deep end) → ⊥
stopped_answers k [] [] end e = cc
stopped_answers k [] (t ∷ ts) end e = cc
stopped_answers k (t ∷ ts) deep end e = cc

whole_answers : (parts : Parts) (s : State) (rest deep : List Placed) (end : ℕ) → WantsMemory (whole_of parts s rest deep end) → ⊥
whole_answers parts s [] [] end e = cc
whole_answers parts s [] (t ∷ ts) end e = cc
whole_answers parts s (t ∷ ts) deep end e = cc

large_answers : (large : Option ℕ) (other : Result PlanFile ReadRefused) → (WantsMemory other → ⊥) → WantsMemory (or_large large other) → ⊥
large_answers None other h e = h e
large_answers (Some place) other h e = cc

outcome_answers : (o : Outcome Parts) (deep : List Placed) (end : ℕ) → WantsMemory (answer_of o deep end) → ⊥
unfolding answer_of
outcome_answers (Read parts s) deep end e = large_answers (large_of s.operators) (whole_of parts s s.tokens deep end) (whole_answers parts s s.tokens deep end) e
outcome_answers (Stops k s) deep end e = large_answers (large_of s.operators) (stopped_with (kind_stopped k) s.tokens deep end) (stopped_answers (kind_stopped k) s.tokens deep end) e

file_answers : (tokens : List Placed) (end : ℕ) → WantsMemory (file_of_tokens tokens end) → ⊥
unfolding file_of_tokens
file_answers tokens end e = outcome_answers _ _ end e

-- ---- a text with tokens

by_answer : (bytes : List ℕ) (tokens : List Placed) → IsPlanText bytes × IsTokens 0 bytes tokens → (answer : Result PlanFile ReadRefused) → file_of_tokens tokens (length bytes) ≡ answer → HasReadingOrRefusal bytes
by_answer bytes tokens h (Ok f) e = inl (f, file_given bytes tokens (length bytes) f h e)
by_answer bytes tokens h (Err (refused.Refused r)) e = inr (r, refusal_given bytes tokens (refused.Refused r) h e)
by_answer bytes tokens h (Err refused.NoMemory) e = absurd (file_answers tokens (length bytes) e)

by_tokens : (bytes : List ℕ) → IsPlanText bytes → HasTokensOrBad bytes → HasReadingOrRefusal bytes
by_tokens bytes text (inl (tokens, all)) = by_answer bytes tokens (text, all) (file_of_tokens tokens (length bytes)) refl
by_tokens bytes text (inr (at, bad)) = inr (refusal kind.Token at, token text at bad refl)

-- ---- a text that is not UTF-8

no_longer : (bytes : List ℕ) (n : ℕ) → is_utf8 (take n bytes) ≡ false → ((m : ℕ) → suc n ≤ m → ¬ (IsUtf8 (take m bytes))) → (m : ℕ) → n ≤ m → ¬ (IsUtf8 (take m bytes))
no_longer bytes n off longer m at_least is = by_order (cases_order n m) where
  by_order : (n ≡ m) ⊎ ((n < m) ⊎ (m < n)) → ⊥
  by_order (inl same) = let on = is_utf8-from_IsUtf8 (take n bytes) (subst (λ (k : ℕ). IsUtf8 (take k bytes)) (sym same) is) in absurd cc
  by_order (inr (inl less)) = longer m (omega (arith, less)) is
  by_order (inr (inr more)) = omega (arith, more, at_least)

-- the longest front that is UTF-8 is below this length
valid_below : (bytes : List ℕ) (n : ℕ) → n ≤ length bytes → ((m : ℕ) → n ≤ m → ¬ (IsUtf8 (take m bytes))) → (at : ℕ) × IsValidUpTo bytes at
valid_below bytes zero within none = absurd (none zero (omega arith) IsUtf8-nil)
valid_below bytes (suc n) within none = by_test (cases_Bool (is_utf8 (take n bytes))) (λ longer. valid_below bytes n (omega (arith, within)) longer) where
  by_test : (is_utf8 (take n bytes) ≡ true) ⊎ (is_utf8 (take n bytes) ≡ false) → (((m : ℕ) → n ≤ m → ¬ (IsUtf8 (take m bytes))) → (at : ℕ) × IsValidUpTo bytes at) → (at : ℕ) × IsValidUpTo bytes at
  by_test (inl on) below = (n, record { short = omega (arith, within); front = IsUtf8-from_is_utf8 (take n bytes) on; longest = λ m more. none m (omega (arith, more)) })
  by_test (inr off) below = below (no_longer bytes n off none)

whole_front : (bytes : List ℕ) → ¬ (IsUtf8 bytes) → (m : ℕ) → length bytes ≤ m → ¬ (IsUtf8 (take m bytes))
whole_front bytes not m long is = not (subst IsUtf8 (take_all m bytes long) is)

valid_front : (bytes : List ℕ) → ¬ (IsUtf8 bytes) → (at : ℕ) × IsValidUpTo bytes at
valid_front bytes not = valid_below bytes (length bytes) (omega arith) (whole_front bytes not)

-- ---- every text

off_utf8 : (bytes : List ℕ) → is_utf8 bytes ≡ false → ¬ (IsUtf8 bytes)
off_utf8 bytes off is = let on = is_utf8-from_IsUtf8 bytes is in absurd cc

by_text : (bytes : List ℕ) → length bytes ≤ 1048576 → (is_utf8 bytes ≡ true) ⊎ (is_utf8 bytes ≡ false) → HasReadingOrRefusal bytes
by_text bytes few (inl on) = by_tokens bytes (few, IsUtf8-from_is_utf8 bytes on) (tokens_or_bad bytes)
by_text bytes few (inr off) =
    let (at, valid) = valid_front bytes (off_utf8 bytes off) in
    inr (refusal kind.Utf8 at, utf8 few (off_utf8 bytes off) at valid refl)

pub reading_or_refusal : (bytes : List ℕ) → HasReadingOrRefusal bytes
reading_or_refusal bytes = by_length (cases_order 1048576 (length bytes)) where
  by_length : (1048576 ≡ length bytes) ⊎ ((1048576 < length bytes) ⊎ (length bytes < 1048576)) → HasReadingOrRefusal bytes
  by_length (inl same) = by_text bytes (omega (arith, same)) (cases_Bool (is_utf8 bytes))
  by_length (inr (inl more)) = inr (refusal kind.TooLarge 1048576, too_large more refl)
  by_length (inr (inr less)) = by_text bytes (omega (arith, less)) (cases_Bool (is_utf8 bytes))
