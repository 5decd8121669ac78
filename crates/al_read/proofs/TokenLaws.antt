-- A token is read, and only that; it begins a piece.
use Rattle.std.proofs.Common.{◌≡◌, ℕ, true, false, cond, eqb, ◌⊎◌, inl, inr, List, [], ◌∷◌, ◌++◌, length, Option, Some, None, refl, sym, ap, ◌∙◌, subst, append_assoc, arith}
use Rattle.std.specs.Prelude.{nat_le}
use Rattle.std.specs.Str.{is_utf8}
use Rattle.std.specs.Char.{is_ascii_digit}
use Rattle.std.specs.List.{flat_map, list_all}
use Rattle.std.proofs.lemmas.Bool.{and_from, and_parts, cond-true, cond-false, eqb-true, leb-true, le-leb}
use Rattle.std.proofs.lemmas.Bool.Decides.{nat_tests}
use Rattle.std.proofs.lemmas.Option.{cond_some, none-some}
use Rattle.std.proofs.lemmas.Str.{is_utf8-from_IsUtf8, IsUtf8-from_is_utf8}
use Rattle.al_value.specs.Text.{IsText}
use Rattle.al_read.specs.declared.token.Token.{Token}
use Rattle.al_read.specs.declared.token.Token.TheVariants as kinds
use Rattle.al_read.specs.Tokens.{is_between, begins_name, is_name, is_number, BeginsPiece, EndsWord, written, is_content_byte, quoted, IsTokenText, IsNoToken}
use Rattle.al_read.specs.TokenReading.{◌>>=◌, is_word_byte, word_of, word_at, content_at, is_text, checked, string_at, token_at}
use Rattle.al_read.proofs.Cases.{chosen, bind_some, same_pair}
use Rattle.al_read.proofs.StringLaws.{IsWritten, content_again, content_takes}
use Rattle.al_read.proofs.WordLaws.{IsTaken, named, numbered, name_word, number_word, variable_word, name_bytes, number_bytes, word_again, word_takes}

-- ---- a token is read

is_text_from : (content : List ℕ) → IsText content → is_text content ≡ true
is_text_from content h = and_from (is_utf8 content) (nat_le (length content) 32000) (is_utf8-from_IsUtf8 content h.0) (le-leb _ _ h.1)

string_again : (content rest : List ℕ) → list_all is_content_byte content ≡ true → IsText content → string_at (flat_map written content ++ 34 ∷ rest) ≡ Some (content, rest)
unfolding string_at
string_again content rest each text =
    ap (λ (o : Option (List ℕ × List ℕ)). o >>= checked) (content_again content rest each)
    ∙ cond-true (is_text content) (Some (content, rest)) None (is_text_from content text)

abbrev IsRead : Token → List ℕ → List ℕ → Type 0
IsRead t rest text = token_at (text ++ rest) ≡ Some (t, rest)

word_first : (b : ℕ) (bytes : List ℕ) → is_word_byte b ≡ true → token_at (b ∷ bytes) ≡ word_at (b ∷ bytes)
unfolding token_at
word_first b bytes h =
    let p : eqb b 40 ≡ false = grind (arith, nat_tests) in
    let q : eqb b 41 ≡ false = grind (arith, nat_tests) in
    let r : eqb b 34 ≡ false = grind (arith, nat_tests) in
    cond-false (eqb b 40) _ _ p ∙ cond-false (eqb b 41) _ _ q ∙ cond-false (eqb b 34) _ _ r

as_word : (word rest : List ℕ) (t : Token) → list_all is_word_byte word ≡ true → EndsWord rest → word_of word ≡ Some t → IsRead t rest word
unfolding word_of
as_word [] rest t all ends e = absurd cc
as_word (b ∷ others) rest t all ends e =
    word_first b (others ++ rest) ((and_parts (is_word_byte b) (list_all is_word_byte others) all).0) ∙ word_again (b ∷ others) rest t all ends e

open_again : (rest : List ℕ) → IsRead kinds.Open rest (40 ∷ [])
unfolding token_at
open_again rest = refl

close_again : (rest : List ℕ) → IsRead kinds.Close rest (41 ∷ [])
unfolding token_at
close_again rest = refl

quoted_again : (content rest : List ℕ) → list_all is_content_byte content ≡ true → IsText content → IsRead (kinds.Str content) rest (quoted content)
unfolding token_at
quoted_again content rest each text =
    ap (λ (s : List ℕ). string_at s >>= λ x. Some (kinds.Str x.0, x.1)) (append_assoc (flat_map written content) (34 ∷ []) rest)
    ∙ ap (λ (o : Option (List ℕ × List ℕ)). o >>= λ x. Some (kinds.Str x.0, x.1)) (string_again content rest each text)

pub token_again : (t : Token) (text rest : List ℕ) → IsTokenText t text rest → token_at (text ++ rest) ≡ Some (t, rest)
token_again kinds.Open text rest h = subst (IsRead kinds.Open rest) (sym h) (open_again rest)
token_again kinds.Close text rest h = subst (IsRead kinds.Close rest) (sym h) (close_again rest)
token_again (kinds.Name name) text rest h = subst (IsRead (kinds.Name name) rest) (sym h.0) (as_word name rest (kinds.Name name) (name_bytes name h.1) h.2 (name_word name h.1))
token_again (kinds.Var name) text rest h = subst (IsRead (kinds.Var name) rest) (sym h.0) (as_word (36 ∷ name) rest (kinds.Var name) (name_bytes name h.1) h.2 (variable_word name h.1))
token_again (kinds.Number number) text rest h = subst (IsRead (kinds.Number number) rest) (sym h.0) (as_word number rest (kinds.Number number) (number_bytes number h.1) h.2 (number_word number h.1))
token_again (kinds.Str content) text rest h = subst (IsRead (kinds.Str content) rest) (sym h.0) (quoted_again content rest h.1 h.2)

-- where reading fails no token stands
pub no_token : (bytes : List ℕ) → token_at bytes ≡ None → IsNoToken bytes
no_token bytes e = λ t text rest split h.
    let again = token_again t text rest h in
    let here : token_at bytes ≡ Some (t, rest) = ap token_at split ∙ again in
    none-some (t, rest) (sym e ∙ here)

-- ---- what is read is a token

string_takes : (bytes content rest : List ℕ) → string_at bytes ≡ Some (content, rest) → IsWritten bytes content rest × IsText content
unfolding string_at
string_takes bytes content rest e =
    let b = bind_some (content_at false bytes) checked (content, rest) e in
    let g = cond_some (is_text b.0.0) b.0 (content, rest) b.2 in
    let c : b.0.0 ≡ content = ap (λ (x : List ℕ × List ℕ). x.0) g.1 in
    let r : b.0.1 ≡ rest = ap (λ (x : List ℕ × List ℕ). x.1) g.1 in
    let w = (content_takes bytes b.0.0 b.0.1).0 b.1 in
    let k = and_parts (is_utf8 b.0.0) (nat_le (length b.0.0) 32000) g.0 in
    let text : IsText b.0.0 = (IsUtf8-from_is_utf8 b.0.0 k.0, leb-true _ _ k.1) in
    (subst (λ (s : List ℕ). IsWritten bytes s rest) c (subst (λ (s : List ℕ). IsWritten bytes b.0.0 s) r w), subst IsText c text)

pub token_takes : (bytes rest : List ℕ) (t : Token) → token_at bytes ≡ Some (t, rest) → IsTaken bytes t rest
unfolding token_at
token_takes [] rest t e = absurd cc
token_takes (b ∷ bytes) rest t e = elim (chosen (eqb b 40) (Some (kinds.Open, bytes)) (cond (eqb b 41) (Some (kinds.Close, bytes)) (cond (eqb b 34) (string_at bytes >>= λ x. Some (kinds.Str x.0, x.1)) (word_at (b ∷ bytes)))) (Some (t, rest)) e) [
  | inl x ↦
      let p = same_pair (kinds.Open, bytes) (t, rest) x.1 in
      let k = p.0 in
      let r = p.1 in
      record { text = 40 ∷ []; split = ap (λ (n : ℕ). n ∷ bytes) (eqb-true b 40 x.0) ∙ ap (λ (s : List ℕ). 40 ∷ s) r; spells = subst (λ (u : Token). IsTokenText u (40 ∷ []) rest) k refl }
  | inr y ↦ elim (chosen (eqb b 41) (Some (kinds.Close, bytes)) (cond (eqb b 34) (string_at bytes >>= λ x. Some (kinds.Str x.0, x.1)) (word_at (b ∷ bytes))) (Some (t, rest)) y.1) [
    | inl x ↦
        let p = same_pair (kinds.Close, bytes) (t, rest) x.1 in
        let k = p.0 in
        let r = p.1 in
        record { text = 41 ∷ []; split = ap (λ (n : ℕ). n ∷ bytes) (eqb-true b 41 x.0) ∙ ap (λ (s : List ℕ). 41 ∷ s) r; spells = subst (λ (u : Token). IsTokenText u (41 ∷ []) rest) k refl }
    | inr z ↦ elim (chosen (eqb b 34) (string_at bytes >>= λ x. Some (kinds.Str x.0, x.1)) (word_at (b ∷ bytes)) (Some (t, rest)) z.1) [
      | inl x ↦
          let o = bind_some (string_at bytes) (λ x. Some (kinds.Str x.0, x.1)) (t, rest) x.1 in
          let p = same_pair (kinds.Str o.0.0, o.0.1) (t, rest) o.2 in
          let k = p.0 in
          let r = p.1 in
          let s = string_takes bytes o.0.0 o.0.1 o.1 in
          let left : bytes ≡ (flat_map written o.0.0 ++ 34 ∷ []) ++ rest = s.0.split ∙ ap (λ (s : List ℕ). flat_map written o.0.0 ++ 34 ∷ s) r ∙ sym (append_assoc (flat_map written o.0.0) (34 ∷ []) rest) in
          record { text = quoted o.0.0; split = ap (λ (n : ℕ). n ∷ bytes) (eqb-true b 34 x.0) ∙ ap (λ (s : List ℕ). 34 ∷ s) left; spells = subst (λ (u : Token). IsTokenText u (quoted o.0.0) rest) k (refl, s.0.each, s.1) }
      | inr x ↦ word_takes (b ∷ bytes) rest t x.1
    ]
  ]
]

-- ---- a token begins a piece

abbrev Begins : List ℕ → List ℕ → Type 0
Begins rest text = BeginsPiece (text ++ rest)

name_begins : (b : ℕ) → begins_name b ≡ true → is_between false b ≡ false
name_begins b h = grind (arith, nat_tests)

number_begins : (b : ℕ) → (b ≡ 45) ⊎ (is_ascii_digit b ≡ true) → is_between false b ≡ false
number_begins b (inl e) = rw e refl
number_begins b (inr h) = grind (arith, nat_tests)

begins_named : (name rest : List ℕ) → is_name name ≡ true → Begins rest name
begins_named [] rest h = absurd cc
begins_named (b ∷ others) rest h = name_begins b (named b others h).begins

begins_numbered : (number rest : List ℕ) → is_number number ≡ true → Begins rest number
begins_numbered [] rest h = absurd cc
begins_numbered (b ∷ others) rest h = number_begins b (numbered b others h).begins

pub begins_piece : (t : Token) (text rest : List ℕ) → IsTokenText t text rest → BeginsPiece (text ++ rest)
begins_piece kinds.Open text rest h = subst (Begins rest) (sym h) refl
begins_piece kinds.Close text rest h = subst (Begins rest) (sym h) refl
begins_piece (kinds.Name name) text rest h = subst (Begins rest) (sym h.0) (begins_named name rest h.1)
begins_piece (kinds.Var name) text rest h = subst (Begins rest) (sym h.0) refl
begins_piece (kinds.Number number) text rest h = subst (Begins rest) (sym h.0) (begins_numbered number rest h.1)
begins_piece (kinds.Str content) text rest h = subst (Begins rest) (sym h.0) refl
