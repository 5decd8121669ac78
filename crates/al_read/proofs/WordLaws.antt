-- A name, a variable or a number is read, and only that.
use Rattle.std.proofs.Common.{◌≡◌, ℕ, suc, ◌+◌, ◌≤◌, Result, Ok, Err, MatchOption, MatchResult, Bool, true, false, cond, eqb, ◌<◌, ◌⊎◌, inl, inr, List, [], ◌∷◌, ◌++◌, length, take, drop, Option, Some, None, refl, sym, ap, ◌∙◌, subst, arith}
use Rattle.std.specs.Prelude.{nat_lt, ◌&&◌, IsUtf8}
use Rattle.std.specs.Result.{result_ok}
use denote.Ref.{Bor}
use Rattle.std.specs.Str.{is_utf8, IsAscii}
use Rattle.std.specs.Char.{is_ascii_digit}
use Rattle.std.specs.List.{prefix_len, list_all}
use Rattle.std.proofs.lemmas.Bool.{and_from, and_parts, cond-true, cond-false, cond_both, and_left, eqb-true, not-false, not_from_true, false_from_ne_true}
use Rattle.std.proofs.lemmas.Bool.Decides.{nat_tests}
use Rattle.std.proofs.lemmas.List.{take-append-drop, take_at, drop_at}
use Rattle.std.proofs.lemmas.List.Sums.{prefix_len-le-length}
use Rattle.std.proofs.lemmas.Str.{is_utf8-from_IsUtf8, IsUtf8-from_is_utf8, IsUtf8-from_ascii}
use Rattle.std.proofs.lemmas.Str.Ascii.{IsAscii-nil, IsAscii-cons}
use Rattle.al_read.specs.declared.token.Token.{Token}
use Rattle.al_read.specs.declared.token.Token.TheVariants as kinds
use Rattle.al_read.specs.Tokens.{begins_name, is_name_byte, is_name, are_digits, is_number, ends_word, EndsWord, IsTokenText}
use Rattle.al_read.specs.TokenReading.{◌>>=◌, is_word_byte, text_at, variable_of, plain_of, word_of, word_at}
use Rattle.al_read.proofs.Cases.{chosen, bind_some, same_pair}

-- ---- bytes

all_weaker : (p q : ℕ → Bool) → ((b : ℕ) → p b ≡ true → q b ≡ true) → (bytes : List ℕ) → list_all p bytes ≡ true → list_all q bytes ≡ true
all_weaker p q weaker [] all = refl
all_weaker p q weaker (b ∷ bytes) all =
    let h = and_parts (p b) (list_all p bytes) all in
    and_from (q b) (list_all q bytes) (weaker b h.0) (all_weaker p q weaker bytes h.1)

name_byte_in_word : (b : ℕ) → is_name_byte b ≡ true → is_word_byte b ≡ true
name_byte_in_word b h = grind (arith, nat_tests)

digit_is_name_byte : (b : ℕ) → is_ascii_digit b ≡ true → is_name_byte b ≡ true
digit_is_name_byte b h = grind (arith, nat_tests)

first_is_name_byte : (b : ℕ) → begins_name b ≡ true → is_name_byte b ≡ true
first_is_name_byte b h = grind (arith, nat_tests)

name_byte_ascii : (b : ℕ) → is_name_byte b ≡ true → b < 128
name_byte_ascii b h = grind (arith, nat_tests)

ascii : (bytes : List ℕ) → list_all is_name_byte bytes ≡ true → IsAscii bytes
ascii [] all = IsAscii-nil
ascii (b ∷ bytes) all =
    let h = and_parts (is_name_byte b) (list_all is_name_byte bytes) all in
    IsAscii-cons b bytes (name_byte_ascii b h.0) (ascii bytes h.1)

text_is : (bytes : List ℕ) → IsAscii bytes → text_at bytes ≡ Some bytes
text_is bytes h = cond-true (is_utf8 bytes) (Some bytes) None (is_utf8-from_IsUtf8 bytes (IsUtf8-from_ascii bytes h))

-- ---- names and numbers

pub record IsNamed (b : ℕ) (others : List ℕ) : Type 0 where
  pub begins : begins_name b ≡ true
  pub each : list_all is_name_byte (b ∷ others) ≡ true

pub named : (b : ℕ) (others : List ℕ) → is_name (b ∷ others) ≡ true → IsNamed b others
named b others h =
    let p = and_parts (begins_name b && list_all is_name_byte others) (nat_lt (length others) 64) h in
    let q = and_parts (begins_name b) (list_all is_name_byte others) p.0 in
    record { begins = q.0; each = and_from (is_name_byte b) (list_all is_name_byte others) (first_is_name_byte b q.0) q.1 }

all_named : (name : List ℕ) → is_name name ≡ true → list_all is_name_byte name ≡ true
all_named [] h = refl
all_named (b ∷ others) h = (named b others h).each

digits_named : (bytes : List ℕ) → are_digits bytes ≡ true → list_all is_name_byte bytes ≡ true
digits_named [] h = refl
digits_named (b ∷ bytes) h = all_weaker is_ascii_digit is_name_byte digit_is_name_byte (b ∷ bytes) h

name_in_word : (bytes : List ℕ) → list_all is_name_byte bytes ≡ true → list_all is_word_byte bytes ≡ true
name_in_word bytes h = all_weaker is_name_byte is_word_byte name_byte_in_word bytes h

-- a number begins with `-` or a digit
pub record IsNumbered (b : ℕ) (others : List ℕ) : Type 0 where
  pub begins : (b ≡ 45) ⊎ (is_ascii_digit b ≡ true)
  pub each : list_all is_word_byte (b ∷ others) ≡ true
  pub low : IsAscii (b ∷ others)

pub numbered : (b : ℕ) (others : List ℕ) → is_number (b ∷ others) ≡ true → IsNumbered b others
numbered b others h = elim (chosen (eqb b 45) (are_digits others) (are_digits (b ∷ others)) true h) [
  | inl x ↦
      let e : b ≡ 45 = eqb-true b 45 x.0 in
      let d = digits_named others x.1 in
      subst (λ (k : ℕ). IsNumbered k others) (sym e) (record { begins = inl refl; each = name_in_word others d; low = IsAscii-cons 45 others (omega arith) (ascii others d) })
  | inr x ↦
      let d = digits_named (b ∷ others) x.1 in
      record { begins = inr ((and_parts (is_ascii_digit b) (list_all is_ascii_digit others) x.1).0); each = name_in_word (b ∷ others) d; low = ascii (b ∷ others) d }
]

begins_no_name : (b : ℕ) → (b ≡ 45) ⊎ (is_ascii_digit b ≡ true) → begins_name b ≡ false
begins_no_name b (inl e) = rw e refl
begins_no_name b (inr h) = grind (arith, nat_tests)

no_variable : (b : ℕ) → (begins_name b ≡ true) ⊎ ((b ≡ 45) ⊎ (is_ascii_digit b ≡ true)) → eqb b 36 ≡ false
no_variable b (inl h) = grind (arith, nat_tests)
no_variable b (inr (inl e)) = rw e refl
no_variable b (inr (inr h)) = grind (arith, nat_tests)

-- ---- the word of a token

pub name_word : (name : List ℕ) → is_name name ≡ true → word_of name ≡ Some (kinds.Name name)
unfolding word_of plain_of
name_word [] h = absurd cc
name_word (b ∷ others) h =
    let n = named b others h in
    cond-false (eqb b 36) _ _ (no_variable b (inl n.begins))
    ∙ cond-true (is_name (b ∷ others)) _ _ h
    ∙ ap (λ (o : Option (List ℕ)). o >>= λ n. Some (kinds.Name n)) (text_is (b ∷ others) (ascii (b ∷ others) n.each))

pub number_word : (number : List ℕ) → is_number number ≡ true → word_of number ≡ Some (kinds.Number number)
unfolding word_of plain_of
number_word [] h = absurd cc
number_word (b ∷ others) h =
    let n = numbered b others h in
    let no : is_name (b ∷ others) ≡ false = and_left (begins_name b && list_all is_name_byte others) (nat_lt (length others) 64) (and_left (begins_name b) (list_all is_name_byte others) (begins_no_name b n.begins)) in
    cond-false (eqb b 36) _ _ (no_variable b (inr n.begins))
    ∙ cond-false (is_name (b ∷ others)) _ _ no
    ∙ cond-true (is_number (b ∷ others)) _ _ h
    ∙ ap (λ (o : Option (List ℕ)). o >>= λ n. Some (kinds.Number n)) (text_is (b ∷ others) n.low)

pub variable_word : (name : List ℕ) → is_name name ≡ true → word_of (36 ∷ name) ≡ Some (kinds.Var name)
unfolding word_of variable_of
variable_word name h =
    cond-true (is_name name) _ _ h
    ∙ ap (λ (o : Option (List ℕ)). o >>= λ n. Some (kinds.Var n)) (text_is name (ascii name (all_named name h)))

-- all bytes of a token's word are a word's
pub name_bytes : (name : List ℕ) → is_name name ≡ true → list_all is_word_byte name ≡ true
name_bytes name h = name_in_word name (all_named name h)

pub number_bytes : (number : List ℕ) → is_number number ≡ true → list_all is_word_byte number ≡ true
number_bytes [] h = refl
number_bytes (b ∷ others) h = (numbered b others h).each

-- ---- reading

front_len : (passes : ℕ → Bool) (x rest : List ℕ) → list_all passes x ≡ true → prefix_len passes rest ≡ 0 → prefix_len passes (x ++ rest) ≡ length x
front_len passes [] rest h stops = stops
front_len passes (b ∷ x) rest h stops =
    let p = and_parts (passes b) (list_all passes x) h in
    let others : prefix_len passes (x ++ rest) ≡ length x = front_len passes x rest p.1 stops in
    rw (p.0, others) (omega arith)

ends_len : (rest : List ℕ) → EndsWord rest → prefix_len is_word_byte rest ≡ 0
ends_len [] ends = refl
ends_len (b ∷ rest) ends = cond-false (is_word_byte b) (1 + prefix_len is_word_byte rest) 0 (not_from_true (ends_word b) ends)

pub word_again : (word rest : List ℕ) (t : Token) → list_all is_word_byte word ≡ true → EndsWord rest → word_of word ≡ Some t → word_at (word ++ rest) ≡ Some (t, rest)
unfolding word_at
word_again word rest t all ends e =
    let n : prefix_len is_word_byte (word ++ rest) ≡ length word = front_len is_word_byte word rest all (ends_len rest ends) in
    rw (n, take_at word rest (length word) refl, drop_at word rest (length word) refl, e) refl

behind_word : (bytes : List ℕ) → EndsWord (drop (prefix_len is_word_byte bytes) bytes)
behind_word [] = tt
behind_word (b ∷ bytes) = cond_both (is_word_byte b) (1 + prefix_len is_word_byte bytes) 0 (λ n. EndsWord (drop n (b ∷ bytes))) (λ yes. rw one_more (behind_word bytes)) (λ no. not-false (ends_word b) no)
  where
    one_more : 1 + prefix_len is_word_byte bytes ≡ suc (prefix_len is_word_byte bytes)
    one_more = omega arith

text_same : (bytes name : List ℕ) → text_at bytes ≡ Some name → bytes ≡ name
text_same bytes name e = elim (chosen (is_utf8 bytes) (Some bytes) None (Some name) e) [ inl x ↦ let p = x.1 in cc | inr x ↦ absurd (let p = x.1 in cc) ]

variable_takes : (name rest : List ℕ) (t : Token) → variable_of name ≡ Some t → EndsWord rest → IsTokenText t (36 ∷ name) rest
unfolding variable_of
variable_takes name rest t e ends = elim (chosen (is_name name) (text_at name >>= λ n. Some (kinds.Var n)) None (Some t) e) [
  | inl x ↦
      let b = bind_some (text_at name) (λ n. Some (kinds.Var n)) t x.1 in
      let same = text_same name b.0 b.1 in
      let made = b.2 in
      let is : kinds.Var b.0 ≡ t = cc in
      subst (λ (k : Token). IsTokenText k (36 ∷ name) rest) is (ap (λ (s : List ℕ). 36 ∷ s) same, subst (λ (s : List ℕ). is_name s ≡ true) same x.0, ends)
  | inr x ↦ absurd (let p = x.1 in cc)
]

plain_takes : (bytes rest : List ℕ) (t : Token) → plain_of bytes ≡ Some t → EndsWord rest → IsTokenText t bytes rest
unfolding plain_of
plain_takes bytes rest t e ends = elim (chosen (is_name bytes) (text_at bytes >>= λ n. Some (kinds.Name n)) (cond (is_number bytes) (text_at bytes >>= λ n. Some (kinds.Number n)) None) (Some t) e) [
  | inl x ↦
      let b = bind_some (text_at bytes) (λ n. Some (kinds.Name n)) t x.1 in
      let same = text_same bytes b.0 b.1 in
      let made = b.2 in
      let is : kinds.Name b.0 ≡ t = cc in
      subst (λ (k : Token). IsTokenText k bytes rest) is (same, subst (λ (s : List ℕ). is_name s ≡ true) same x.0, ends)
  | inr y ↦ elim (chosen (is_number bytes) (text_at bytes >>= λ n. Some (kinds.Number n)) None (Some t) y.1) [
    | inl x ↦
        let b = bind_some (text_at bytes) (λ n. Some (kinds.Number n)) t x.1 in
        let same = text_same bytes b.0 b.1 in
        let made = b.2 in
        let is : kinds.Number b.0 ≡ t = cc in
        subst (λ (k : Token). IsTokenText k bytes rest) is (same, subst (λ (s : List ℕ). is_number s ≡ true) same x.0, ends)
    | inr x ↦ absurd (let p = x.1 in cc)
  ]
]

word_of_takes : (bytes rest : List ℕ) (t : Token) → word_of bytes ≡ Some t → EndsWord rest → IsTokenText t bytes rest
unfolding word_of
word_of_takes [] rest t e ends = absurd cc
word_of_takes (b ∷ bytes) rest t e ends = elim (chosen (eqb b 36) (variable_of bytes) (plain_of (b ∷ bytes)) (Some t) e) [
  | inl x ↦ subst (λ (k : ℕ). IsTokenText t (k ∷ bytes) rest) (sym (eqb-true b 36 x.0)) (variable_takes bytes rest t x.1 ends)
  | inr x ↦ plain_takes (b ∷ bytes) rest t x.1 ends
]

-- the text of a token at the front, and what is behind it
pub record IsTaken (bytes : List ℕ) (t : Token) (rest : List ℕ) : Type 0 where
  pub text : List ℕ
  pub split : bytes ≡ text ++ rest
  pub spells : IsTokenText t text rest

pub word_takes : (bytes rest : List ℕ) (t : Token) → word_at bytes ≡ Some (t, rest) → IsTaken bytes t rest
unfolding word_at
word_takes bytes rest t e =
    let n = prefix_len is_word_byte bytes in
    let b = bind_some (word_of (take n bytes)) (λ t. Some (t, drop n bytes)) (t, rest) e in
    let made = same_pair (b.0, drop n bytes) (t, rest) b.2 in
    let same : b.0 ≡ t = made.0 in
    let left : drop n bytes ≡ rest = made.1 in
    record {
      text = take n bytes;
      split = sym (take-append-drop n bytes) ∙ ap (λ (s : List ℕ). take n bytes ++ s) left;
      spells = subst (λ (s : List ℕ). IsTokenText t (take n bytes) s) left (subst (λ (k : Token). IsTokenText k (take n bytes) (drop n bytes)) same (word_of_takes (take n bytes) (drop n bytes) b.0 b.1 (behind_word bytes)));
    }

-- what a check of UTF-8 says
pub text_given : {E : Type 0} (r : Result (Bor (List ℕ)) E) (bytes : List ℕ) (fault : E → Type 0) → MatchResult r (λ s. (s.now ≡ bytes) × IsUtf8 bytes) (λ e. ¬ (IsUtf8 bytes) × fault e) → MatchOption (result_ok r) (is_utf8 bytes ≡ false) (λ s. (s.now ≡ bytes) × (is_utf8 bytes ≡ true))
text_given (Ok s) bytes fault h = (h.0, is_utf8-from_IsUtf8 bytes h.1)
text_given (Err e) bytes fault h = false_from_ne_true (is_utf8 bytes) (λ t. h.0 (IsUtf8-from_is_utf8 bytes t))

pub front_within : (p : ℕ → Bool) (xs : List ℕ) (n : ℕ) → n ≡ prefix_len p xs → n ≤ length xs
front_within p xs n e = omega (arith, prefix_len-le-length p xs)
