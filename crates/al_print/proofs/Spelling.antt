-- A word that can be spelled is read again as it is spelled.
use Rattle.std.proofs.Common.{◌≡◌, ℕ, suc, ◌^◌, ◌<◌, ◌≤◌, Bool, true, false, cond, eqb, inl, inr, ℤ, pos, negsuc, neg_ℤ, List, [], ◌∷◌, ◌++◌, length, get_or, refl, sym, ap, ◌∙◌, subst, append-nil, codes, arith}
use Rattle.std.specs.Prelude.{◌||◌, nat_le, if◌then◌else◌, IsUtf8}
use Rattle.std.specs.Char.{encode_utf8, IsScalar, is_ascii_digit}
use Rattle.std.specs.Fmt.{decimal, signed_decimal}
use Rattle.std.specs.Int.{IsInRange}
use Rattle.std.specs.List.{flat_map, list_all}
use Rattle.std.specs.Str.{all_scalars, encode_utf8_all, IsAscii}
use Rattle.std.specs.Str.Parse.{AllDigits, IsNumeral}
use Rattle.std.proofs.lemmas.Bool.{and_from, and_parts, cond_both, cases_lt, le-leb, ne_eqb}
use Rattle.std.proofs.lemmas.Bool.Decides.{nat_tests}
use Rattle.std.proofs.lemmas.Fmt.{decimal_is_IsNumeral, digits_value-decimal}
use Rattle.std.proofs.lemmas.Grind.{flat_map-append}
use Rattle.std.proofs.lemmas.Str.{IsUtf8-append, IsUtf8-nil, IsUtf8-encode, IsUtf8-from_ascii, encode_ascii, inside_one}
use Rattle.std.proofs.lemmas.Str.Ascii.{IsAscii-nil, IsAscii-cons}
use Rattle.std.proofs.lemmas.Str.Parse.{IsNumeralModel, WeighsDigits, numerals_by_weight, tells_digits, digit_from_value}
use Rattle.al_value.specs.Text.{IsText}
use Rattle.al_func.specs.Func.{is_i64}
use Rattle.al_csv.specs.Fields.{number_of, int_of}
use Rattle.al_plan.specs.Grammar.{Word, Open, Close, Name, Variable, Number, Text}
use Rattle.al_read.specs.declared.token.Token.{Token}
use Rattle.al_read.specs.declared.token.Token.TheVariants as kinds
use Rattle.al_read.specs.Tokens.{is_name_byte, is_name, are_digits, is_number, is_content_byte, written, quoted, EndsWord, IsTokenText}
use Rattle.al_read.specs.Reads.{said}
use Rattle.al_read.proofs.WordLaws.{named, numbered}
use Rattle.al_print.specs.Canonical.{spelled, is_open, is_close, line_of}
use Rattle.al_print.proofs.LineLaws.{space}

-- ---- words and their tokens

abbrev pub token_of : Word → Token
token_of Open = kinds.Open
token_of Close = kinds.Close
token_of (Name name) = kinds.Name name
token_of (Variable name) = kinds.Var name
token_of (Number z) = kinds.Number (signed_decimal z)
token_of (Text content) = kinds.Str content

-- what has to hold of a word beside its number
abbrev pub IsSound : Word → Type 0
IsSound Open = Unit {0}
IsSound Close = Unit {0}
IsSound (Name name) = is_name name ≡ true
IsSound (Variable name) = is_name name ≡ true
IsSound (Number z) = Unit {0}
IsSound (Text content) = (list_all is_content_byte content ≡ true) × IsText content

-- a number has 64 bits
abbrev pub HasFit : Word → Type 0
HasFit Open = Unit {0}
HasFit Close = Unit {0}
HasFit (Name name) = Unit {0}
HasFit (Variable name) = Unit {0}
HasFit (Number z) = is_i64 z ≡ true
HasFit (Text content) = Unit {0}

-- ---- numbers

digit_is : (c : ℕ) → IsInRange 48 57 c → is_ascii_digit c ≡ true
digit_is c h = and_from (nat_le 48 c) (nat_le c 57) (le-leb 48 c h.0) (le-leb c 57 h.1)

digits_all : (ds : List ℕ) → AllDigits 10 ds → list_all is_ascii_digit ds ≡ true
digits_all [] d = refl
digits_all (c ∷ cs) d = and_from (is_ascii_digit c) (list_all is_ascii_digit cs) (digit_is c (digit_from_value c d.0)) (digits_all cs d.1)

digits_from : (ds : List ℕ) → IsNumeral 10 ds → are_digits ds ≡ true
digits_from [] n = absurd (omega (arith, n.0))
digits_from (c ∷ cs) n = digits_all (c ∷ cs) n.1

no_sign : (c k : ℕ) → IsInRange 48 57 c → k < 48 → eqb c k ≡ false
no_sign c k r h = ne_eqb c k (λ e. omega (arith, r.0))

weighs : WeighsDigits number_of
unfolding number_of
weighs = record { empty = refl; more = λ c cs h. refl }

own : IsNumeralModel (AllDigits 10) number_of
own = numerals_by_weight (AllDigits 10) tells_digits number_of weighs

abbrev IsNumberOf : List ℕ → ℤ → Type 0
IsNumberOf ds z = (int_of ds ≡ z) × (is_number ds ≡ true)

unsigned : (ds : List ℕ) → IsNumeral 10 ds → IsNumberOf ds (pos (number_of ds))
unsigned [] n = absurd (omega (arith, n.0))
unsigned (c ∷ cs) n =
    let r = digit_from_value c n.1.0 in
    let m : eqb c 45 ≡ false = no_sign c 45 r (omega arith) in
    let p : eqb c 43 ≡ false = no_sign c 43 r (omega arith) in
    (rw (m, p) refl, rw m (digits_from (c ∷ cs) n))

fit_above : (n : ℕ) → is_i64 (pos n) ≡ true → n < 2 ^ 64
fit_above n h = grind (arith, nat_tests)

fit_below : (n : ℕ) → is_i64 (negsuc n) ≡ true → suc n < 2 ^ 64
fit_below n h = grind (arith, nat_tests)

number_again : (z : ℤ) → is_i64 z ≡ true → IsNumberOf (signed_decimal z) z
number_again (pos n) h =
    let small = fit_above n h in
    let u = unsigned (decimal n) (decimal_is_IsNumeral n small).0 in
    (u.0 ∙ ap (λ (m : ℕ). pos m) (digits_value-decimal own n small), u.1)
number_again (negsuc n) h =
    let small = fit_below n h in
    (ap (λ (m : ℕ). neg_ℤ (pos m)) (digits_value-decimal own (suc n) small), digits_from (decimal (suc n)) (decimal_is_IsNumeral (suc n) small).0)

pub said_again : (w : Word) → HasFit w → said (token_of w) ≡ w
said_again Open h = refl
said_again Close h = refl
said_again (Name name) h = refl
said_again (Variable name) h = refl
said_again (Number z) h = ap (λ (y : ℤ). Number y) (number_again z h).0
said_again (Text content) h = refl

-- ---- the text of a word

ends : (ws : List Word) (tail : List ℕ) → EndsWord tail → EndsWord (line_of false ws ++ tail)
unfolding line_of
ends [] tail e = e
ends (Open ∷ ws) tail e = refl
ends (Close ∷ ws) tail e = refl
ends (Name name ∷ ws) tail e = refl
ends (Variable name ∷ ws) tail e = refl
ends (Number z ∷ ws) tail e = refl
ends (Text content ∷ ws) tail e = refl

pub spells : (w : Word) (ws : List Word) (tail : List ℕ) → IsSound w → HasFit w → EndsWord tail → IsTokenText (token_of w) (spelled w) (line_of (is_open w) ws ++ tail)
spells Open ws tail s h e = refl
spells Close ws tail s h e = refl
spells (Name name) ws tail s h e = (refl, s, ends ws tail e)
spells (Variable name) ws tail s h e = (refl, s, ends ws tail e)
spells (Number z) ws tail s h e = (refl, (number_again z h).1, ends ws tail e)
spells (Text content) ws tail s h e = (refl, s.0, s.1)

-- ---- UTF-8

one_low : (a : ℕ) → a < 128 → IsUtf8 (a ∷ [])
one_low a h = IsUtf8-from_ascii (a ∷ []) (IsAscii-cons a [] h IsAscii-nil)

two_low : (a b : ℕ) → a < 128 → b < 128 → IsUtf8 (a ∷ b ∷ [])
two_low a b h k = IsUtf8-from_ascii (a ∷ b ∷ []) (IsAscii-cons a (b ∷ []) h (IsAscii-cons b [] k IsAscii-nil))

written_low : (b : ℕ) → b < 128 → IsUtf8 (written b)
written_low b h =
    cond_both (eqb b 34 || eqb b 92) (92 ∷ b ∷ []) (cond (eqb b 10) (92 ∷ 110 ∷ []) (cond (eqb b 9) (92 ∷ 116 ∷ []) (cond (eqb b 13) (92 ∷ 114 ∷ []) (b ∷ [])))) IsUtf8
    (λ e. two_low 92 b (omega arith) h)
    (λ e. cond_both (eqb b 10) (92 ∷ 110 ∷ []) (cond (eqb b 9) (92 ∷ 116 ∷ []) (cond (eqb b 13) (92 ∷ 114 ∷ []) (b ∷ []))) IsUtf8
    (λ f. two_low 92 110 (omega arith) (omega arith))
    (λ f. cond_both (eqb b 9) (92 ∷ 116 ∷ []) (cond (eqb b 13) (92 ∷ 114 ∷ []) (b ∷ [])) IsUtf8
    (λ g. two_low 92 116 (omega arith) (omega arith))
    (λ g. cond_both (eqb b 13) (92 ∷ 114 ∷ []) (b ∷ []) IsUtf8
    (λ i. two_low 92 114 (omega arith) (omega arith))
    (λ i. one_low b h))))

written_high : (b : ℕ) → 128 ≤ b → written b ≡ b ∷ []
written_high b h =
    let p : eqb b 34 ≡ false = ne_eqb b 34 (λ e. omega arith) in
    let q : eqb b 92 ≡ false = ne_eqb b 92 (λ e. omega arith) in
    let r : eqb b 10 ≡ false = ne_eqb b 10 (λ e. omega arith) in
    let s : eqb b 9 ≡ false = ne_eqb b 9 (λ e. omega arith) in
    let t : eqb b 13 ≡ false = ne_eqb b 13 (λ e. omega arith) in
    rw (p, q, r, s, t) refl

all_high : (xs : List ℕ) → ((k : ℕ) → k < length xs → 128 ≤ get_or xs k 0) → flat_map written xs ≡ xs
all_high [] h = refl
all_high (b ∷ xs) h =
    let first : 128 ≤ b = h 0 (omega arith) in
    ap (λ (ys : List ℕ). ys ++ flat_map written xs) (written_high b first)
    ∙ ap (λ (ys : List ℕ). b ∷ ys) (all_high xs (λ k l. h (suc k) (omega arith)))

abbrev Stays : List ℕ → Type 0
Stays xs = IsUtf8 (flat_map written xs)

byte_high : (c k : ℕ) → 128 ≤ c → k < length (encode_utf8 c) → 128 ≤ get_or (encode_utf8 c) k 0
byte_high c k h l =
    elim (cases_lt (get_or (encode_utf8 c) k 0) 128) [
      | inl m ↦ let e = inside_one c [] (encode_utf8 c) k (sym (append-nil (encode_utf8 c))) l m in absurd (omega (arith, e))
      | inr m ↦ m
    ]

char_stays : (c : ℕ) → IsScalar c → Stays (encode_utf8 c)
char_stays c s =
    elim (cases_lt c 128) [
      | inl m ↦ subst Stays (sym (encode_ascii c m)) (IsUtf8-append (written c) [] (written_low c m) IsUtf8-nil)
      | inr m ↦ subst IsUtf8 (sym (all_high (encode_utf8 c) (λ k l. byte_high c k m l))) (IsUtf8-encode c s)
    ]

chars_stay : (cs : List ℕ) → all_scalars cs ≡ true → Stays (encode_utf8_all cs)
chars_stay [] h = IsUtf8-nil
chars_stay (c ∷ cs) h =
    let p = and_parts _ (all_scalars cs) h in
    subst IsUtf8 (sym (flat_map-append written (encode_utf8 c) (encode_utf8_all cs)))
    (IsUtf8-append (flat_map written (encode_utf8 c)) (flat_map written (encode_utf8_all cs)) (char_stays c p.0) (chars_stay cs p.1))

quoted_stays : (content : List ℕ) → IsUtf8 content → IsUtf8 (quoted content)
quoted_stays content u =
    let quote = one_low 34 (omega arith) in
    let inside = subst Stays u.1.1 (chars_stay u.0 u.1.0) in
    IsUtf8-append (34 ∷ []) (flat_map written content ++ 34 ∷ []) quote (IsUtf8-append (flat_map written content) (34 ∷ []) inside quote)

byte_low : (b : ℕ) → is_name_byte b ≡ true → b < 128
byte_low b h = grind (arith, nat_tests)

letters : (bytes : List ℕ) → list_all is_name_byte bytes ≡ true → IsAscii bytes
letters [] all = IsAscii-nil
letters (b ∷ bytes) all =
    let h = and_parts (is_name_byte b) (list_all is_name_byte bytes) all in
    IsAscii-cons b bytes (byte_low b h.0) (letters bytes h.1)

name_utf8 : (name : List ℕ) → is_name name ≡ true → IsUtf8 name
name_utf8 [] h = IsUtf8-nil
name_utf8 (b ∷ others) h = IsUtf8-from_ascii (b ∷ others) (letters (b ∷ others) (named b others h).each)

number_utf8 : (number : List ℕ) → is_number number ≡ true → IsUtf8 number
number_utf8 [] h = IsUtf8-nil
number_utf8 (b ∷ others) h = IsUtf8-from_ascii (b ∷ others) (numbered b others h).low

spelled_utf8 : (w : Word) → IsSound w → HasFit w → IsUtf8 (spelled w)
spelled_utf8 Open s h = one_low 40 (omega arith)
spelled_utf8 Close s h = one_low 41 (omega arith)
spelled_utf8 (Name name) s h = name_utf8 name s
spelled_utf8 (Variable name) s h = IsUtf8-append (36 ∷ []) name (one_low 36 (omega arith)) (name_utf8 name s)
spelled_utf8 (Number z) s h = number_utf8 (signed_decimal z) (number_again z h).1
spelled_utf8 (Text content) s h = quoted_stays content s.1.0

space_utf8 : (b : Bool) → IsUtf8 (if b then [] else codes " ")
space_utf8 true = IsUtf8-nil
space_utf8 false = one_low 32 (omega arith)

pub word_utf8 : (tight : Bool) (w : Word) (rest : List ℕ) → IsSound w → HasFit w → IsUtf8 rest → IsUtf8 (space tight w ++ (spelled w ++ rest))
word_utf8 tight w rest s h u =
    IsUtf8-append (space tight w) (spelled w ++ rest) (space_utf8 (tight || is_close w)) (IsUtf8-append (spelled w) rest (spelled_utf8 w s h) u)
