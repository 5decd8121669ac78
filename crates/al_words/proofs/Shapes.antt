-- What `clap` takes a word for, by how the word is made.
use Rattle.std.proofs.Common.{◌≡◌, ◌⊎◌, ◌∙◌, ◌+◌, ◌==◌, ◌&&◌, ◌||◌, ℕ, Bool, true, false, not, suc, refl, sym, subst, ap, ap₂, arith, List, [], ◌∷◌, ◌++◌, Option, Some, None, inl, inr, true≢false, codes}
use Rattle.std.specs.List.{list_any, list_all, prefix_len}
use Rattle.std.specs.Str.{bytes_eq}
use Rattle.std.proofs.lemmas.Slice.Eq.{bytes_eq-Decides}
use Rattle.clap.specs.Lexer.{has_byte, long_of, name_and_value, short_of}
use Rattle.clap.specs.Walk.{Text}
use Rattle.al_words.specs.Words.{HasNoDash, IsPositional, is_option, option_names}

pub same : (xs ys : Text) → bytes_eq xs ys ≡ true → xs ≡ ys
same xs ys e = (bytes_eq-Decides xs ys).0 e

pub same_test : (xs ys : Text) → xs ≡ ys → bytes_eq xs ys ≡ true
same_test xs ys e = (bytes_eq-Decides xs ys).1 e

-- ---- option names

module _ (P : Text → Bool) (name : Text) where
  among : (names : List Text) → list_all P names ≡ true → list_any (λ n. bytes_eq n name) names ≡ true → P name ≡ true
  among [] all e = absurd (true≢false (sym e))
  among (n ∷ names) all e = go (P n) (bytes_eq n name) refl refl all e (among names)
    where
      go : (p b : Bool) → P n ≡ p → bytes_eq n name ≡ b → (p && list_all P names) ≡ true
          → (b || list_any (λ m. bytes_eq m name) names) ≡ true
          → (list_all P names ≡ true → list_any (λ m. bytes_eq m name) names ≡ true → P name ≡ true) → P name ≡ true
      go false b is at both any others = absurd (true≢false (sym both))
      go true true is at both any others = ap P (sym (same n name at)) ∙ is
      go true false is at both any others = others both any

-- what holds of each name of an option holds of a name of an option
pub of_option : (P : Text → Bool) → list_all P option_names ≡ true → (name : Text) → is_option name ≡ true → P name ≡ true
of_option P all name e = among P name option_names all e

pub not_true : (b : Bool) → not b ≡ true → b ≡ false
not_true false e = refl
not_true true e = absurd (true≢false (sym e))

-- no name of an option has a `=`
pub no_equals : (name : Text) → is_option name ≡ true → has_byte 61 name ≡ false
no_equals name e = not_true (has_byte 61 name) (of_option (λ n. not (has_byte 61 n)) refl name e)

-- ---- what stands before `=` and after it

at_equals : (x : ℕ) (xs : Text) → (x == 61) ≡ true → name_and_value (x ∷ xs) ≡ ([], Some xs)
at_equals x xs e = rw e refl

past_other : (x : ℕ) (xs : Text) → (x == 61) ≡ false → name_and_value (x ∷ xs) ≡ (x ∷ (name_and_value xs).0, (name_and_value xs).1)
past_other x xs e =
    let n = prefix_len (λ y. not (y == 61)) xs in
    let one : 1 + n ≡ suc n = omega arith in
    let two : 1 + n + 1 ≡ suc (n + 1) = omega arith in
    rw (e, two, one) refl

-- the first `=` of a text, or none
abbrev pub IsCut : Text → Text × Option Text → Type 0
IsCut text p = ((p.1 ≡ None) × (p.0 ≡ text)) ⊎ ((value : Text) × (p.1 ≡ Some value) × (text ≡ p.0 ++ (codes "=" ++ value)))

pub cuts : (text : Text) → IsCut text (name_and_value text)
cuts [] = inl (refl, refl)
cuts (x ∷ xs) = go (x == 61) refl (cuts xs)
  where
    go : (b : Bool) → (x == 61) ≡ b → IsCut xs (name_and_value xs) → IsCut (x ∷ xs) (name_and_value (x ∷ xs))
    go true e h =
        let is : x ≡ 61 = grind arith in
        subst (IsCut (x ∷ xs)) (sym (at_equals x xs e)) (inr (xs, refl, ap (λ y. y ∷ xs) is))
    go false e (inl h) = subst (IsCut (x ∷ xs)) (sym (past_other x xs e)) (inl (h.0, ap (λ ys. x ∷ ys) h.1))
    go false e (inr h) = subst (IsCut (x ∷ xs)) (sym (past_other x xs e)) (inr (h.0, h.1, ap (λ ys. x ∷ ys) h.2))

or_false : (a b : Bool) → (a || b) ≡ false → (a ≡ false) × (b ≡ false)
or_false false b e = (refl, e)
or_false true b e = absurd (true≢false e)

pub cut_at : (name value : Text) → has_byte 61 name ≡ false → name_and_value (name ++ (codes "=" ++ value)) ≡ (name, Some value)
cut_at [] value e = at_equals 61 value refl
cut_at (x ∷ xs) value e =
    let parts = or_false (x == 61) (has_byte 61 xs) e in
    past_other x (xs ++ (codes "=" ++ value)) parts.0 ∙ ap (λ (p : Text × Option Text). (x ∷ p.0, p.1)) (cut_at xs value parts.1)

pub cut_none : (name : Text) → has_byte 61 name ≡ false → name_and_value name ≡ (name, None)
cut_none [] e = refl
cut_none (x ∷ xs) e =
    let parts = or_false (x == 61) (has_byte 61 xs) e in
    past_other x xs parts.0 ∙ ap (λ (p : Text × Option Text). (x ∷ p.0, p.1)) (cut_none xs parts.1)

-- ---- kinds of words

abbrev pub dashes : Text
dashes = codes "--"

-- the word is no flag, and ends no options
pub record IsPlainWord (word : Text) : Type 0 where
  pub no_end : bytes_eq word dashes ≡ false
  pub no_long : long_of word ≡ None
  pub no_short : short_of word ≡ None

no_dash : (text : Text) → HasNoDash text → IsPlainWord text
no_dash [] h = record { no_end = refl; no_long = refl; no_short = refl }
no_dash (x ∷ xs) h =
    let other : (x == 45) ≡ false = grind arith in
    record { no_end = rw other refl; no_long = rw other refl; no_short = rw other refl }

pub positional_plain : (text : Text) → IsPositional text → IsPlainWord text
positional_plain text (inl is) = subst IsPlainWord (sym is) (record { no_end = refl; no_long = refl; no_short = refl })
positional_plain text (inr h) = no_dash text h

-- what a word may be
pub data Kind (word : Text) : Type 0 where
  end : word ≡ dashes → Kind word
  plain : IsPositional word → Kind word
  long : (x : ℕ) (xs : Text) → word ≡ 45 ∷ 45 ∷ x ∷ xs → Kind word
  short : (x : ℕ) (xs : Text) → word ≡ 45 ∷ x ∷ xs → (x == 45) ≡ false → Kind word

pub kind_of_word : (word : Text) → Kind word
kind_of_word [] = plain (inr tt)
kind_of_word (a ∷ []) = go (a == 45) refl
  where
    go : (b : Bool) → (a == 45) ≡ b → Kind (a ∷ [])
    go true e = let is : a ≡ 45 = grind arith in plain (inl (ap (λ y. y ∷ []) is))
    go false e = plain (inr (grind arith))
kind_of_word (a ∷ b ∷ rest) = go (a == 45) (b == 45) refl refl rest
  where
    go : (p q : Bool) → (a == 45) ≡ p → (b == 45) ≡ q → (xs : Text) → Kind (a ∷ b ∷ xs)
    go false q e f xs = plain (inr (grind arith))
    go true false e f xs = let is : a ≡ 45 = grind arith in short b xs (ap (λ y. y ∷ b ∷ xs) is) f
    go true true e f [] = let is : a ≡ 45 = grind arith in let also : b ≡ 45 = grind arith in end (ap₂ (λ y z. y ∷ z ∷ []) is also)
    go true true e f (x ∷ xs) = let is : a ≡ 45 = grind arith in let also : b ≡ 45 = grind arith in long x xs (ap₂ (λ y z. y ∷ z ∷ x ∷ xs) is also)
