-- What small texts have.
use Rattle.std.proofs.Common.{◌≡◌, ◌≤◌, ℕ, List, [], ◌∷◌, Err, refl, arith}
use Rattle.std.specs.Prelude.{codes}
use Rattle.std.proofs.lemmas.Str.{IsUtf8-nil}
use Rattle.al_plan.specs.declared.file.RefusedKind.TheVariants as kind
use Rattle.al_read.specs.declared.token.Token.TheVariants as kinds
use Rattle.al_read.specs.declared.plan.ReadRefused.TheVariants as refused
use Rattle.al_read.specs.TokenReading.{token_at, word_at, word_of, plain_of}
use Rattle.al_read.specs.Reads.{refusal}
use Rattle.al_read.specs.PlanReading.{answer_of, file_of_tokens, file_at, open_at, shallow_len}
use Rattle.al_read.proofs.Readings.{Kept, keeps_on, is_bad, are_all, one}
use Rattle.al_read.proofs.PlanReads.{refusal_given}
use Rattle.al_read.proofs.PlanOne.{one_answer}
use Rattle.al_read_laws.specs.TextCases.{AreTwoTokens, IsBadBehindOne, BadTextHasTokens, NothingIsRefused, NothingIsRead}
use Rattle.al_read_laws.proofs.AllTokens.{none_yet}

-- behind the parenthesis that opens
opened : (after : List ℕ) → Kept (40 ∷ after) (record { token = kinds.Open; place = 0 } ∷ []) after
unfolding token_at
opened after = keeps_on (40 ∷ after) (40 ∷ after) (40 ∷ after) after [] kinds.Open 0 (none_yet (40 ∷ after)) refl (λ none. absurd cc) refl (omega arith)

pub two_tokens : AreTwoTokens
unfolding token_at
two_tokens =
    let text = codes "( )" in
    let both = keeps_on text (codes " )") (codes ")") [] (record { token = kinds.Open; place = 0 } ∷ []) kinds.Close 2 (opened (codes " )")) refl (λ none. absurd cc) refl refl in
    are_all text [] [] (record { token = kinds.Open; place = 0 } ∷ record { token = kinds.Close; place = 2 } ∷ []) both refl refl

pub bad_piece : IsBadBehindOne
unfolding token_at word_at word_of plain_of
bad_piece =
    let text = codes "( ?" in
    is_bad text (codes " ?") (codes "?") (record { token = kinds.Open; place = 0 } ∷ []) 2 (opened (codes " ?")) refl (λ none. absurd cc) refl refl

pub no_tokens : BadTextHasTokens → ⊥
no_tokens (tokens, all) = (one (codes "( ?")).apart tokens 2 all bad_piece

-- the empty text has no tokens, and its reader stops at once
nothing_stops : file_of_tokens [] 0 ≡ Err (refused.Refused (refusal kind.Form 0))
unfolding file_of_tokens answer_of file_at open_at shallow_len
nothing_stops = refl

pub refused_at_end : NothingIsRefused
refused_at_end =
    let few : 0 ≤ 1048576 = omega arith in
    let none : Kept [] [] [] = none_yet [] in
    refusal_given [] [] (refused.Refused (refusal kind.Form 0)) ((few, IsUtf8-nil), are_all [] [] [] [] none refl refl) nothing_stops

pub unread : NothingIsRead → ⊥
unread (f, reads) = (one_answer []).apart f (refusal kind.Form 0) reads refused_at_end
