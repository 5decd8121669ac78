-- Tokens read from left to right: each reader gives what it read and the bytes behind it.
use Rattle.std.specs.Prelude.{◌≡◌, ℕ, suc, Bool, true, false, ◌==◌, ◌||◌, ◌&&◌, not, nat_le, if◌then◌else◌, List, [], ◌∷◌, length, take, drop, Option, Some, None, Result, Ok, Err}
use Rattle.std.specs.Str.{is_utf8}
use Rattle.std.specs.List.{prefix_len}
use Rattle.al_read.specs.declared.token.Token.{Token}
use Rattle.al_read.specs.declared.token.Token.TheVariants as kinds
use Rattle.al_read.specs.declared.token.front.Stopped.{Stopped}
use Rattle.al_read.specs.declared.token.front.Stopped.TheVariants as stops
use Rattle.al_read.specs.declared.token.TokensRefused.{TokensRefused}
use Rattle.al_read.specs.declared.token.TokensRefused.TheVariants as refusals
use Rattle.al_read.specs.Tokens.{is_between, is_inside, is_name, is_number, ends_word, FirstBad}

infixl 10 ◌>>=◌
abbrev pub ◌>>=◌ : {A B : Type 0} → Option A → (A → Option B) → Option B
(Some x) >>= f = f x
None >>= f = None

-- what a function gave, seen by view, is what reading gives, unless memory ran out
abbrev pub Fails : {Y : Type 0} → Stopped → Option Y → Type 0
Fails stops.Bad read = read ≡ None
Fails stops.NoMemory read = Unit {0}

abbrev pub Gives : {X Y : Type 0} → (X → Y) → Result X Stopped → Option Y → Type 0
Gives view (Ok x) read = read ≡ Some (view x)
Gives view (Err e) read = Fails e read

-- how many bytes are between tokens
abbrev pub gap_len : Bool → List ℕ → ℕ
gap_len inside [] = 0
gap_len inside (byte ∷ bytes) = if is_between inside byte then suc (gap_len (is_inside inside byte) bytes) else 0

-- ---- words

abbrev pub is_word_byte : ℕ → Bool
is_word_byte byte = not (ends_word byte)

abbrev pub text_at : List ℕ → Option (List ℕ)
text_at bytes = if is_utf8 bytes then Some bytes else None

unfoldable pub variable_of : List ℕ → Option Token
variable_of name = if is_name name then (text_at name >>= λ n. Some (kinds.Var n)) else None

unfoldable pub plain_of : List ℕ → Option Token
plain_of bytes =
    if is_name bytes then (text_at bytes >>= λ n. Some (kinds.Name n))
    else if is_number bytes then (text_at bytes >>= λ n. Some (kinds.Number n))
    else None

unfoldable pub word_of : List ℕ → Option Token
word_of [] = None
word_of (first ∷ others) = if first == 36 then variable_of others else plain_of (first ∷ others)

unfoldable pub word_at : List ℕ → Option (Token × List ℕ)
word_at bytes =
    let n = prefix_len is_word_byte bytes in
    word_of (take n bytes) >>= λ t. Some (t, drop n bytes)

-- ---- strings

-- what an escape with this byte stands for
abbrev pub unescaped : ℕ → Option ℕ
unescaped byte =
    if byte == 34 || byte == 92 then Some byte
    else if byte == 110 then Some 10
    else if byte == 116 then Some 9
    else if byte == 114 then Some 13
    else None

abbrev pub with_rest : List ℕ → Option ℕ → Option (Option ℕ × List ℕ)
with_rest rest None = None
with_rest rest (Some byte) = Some (Some byte, rest)

abbrev pub escape_step : List ℕ → Option (Option ℕ × List ℕ)
escape_step [] = None
escape_step (byte ∷ rest) = with_rest rest (unescaped byte)

-- the next byte of the content, or no byte at the closing quote
unfoldable pub content_step : List ℕ → Option (Option ℕ × List ℕ)
content_step [] = None
content_step (byte ∷ rest) =
    if byte == 34 then Some (None, rest)
    else if byte == 92 then escape_step rest
    else if nat_le 32 byte then Some (Some byte, rest)
    else None

abbrev pub with_byte : Option ℕ → Option (List ℕ × List ℕ) → Option (List ℕ × List ℕ)
with_byte None more = None
with_byte (Some byte) None = None
with_byte (Some byte) (Some x) = Some (byte ∷ x.0, x.1)

-- the content up to the closing quote, where a backslash stands in front or doesn't
unfoldable pub content_at : Bool → List ℕ → Option (List ℕ × List ℕ)
content_at escaped [] = None
content_at false (byte ∷ bytes) =
    if byte == 34 then Some ([], bytes)
    else if byte == 92 then content_at true bytes
    else if nat_le 32 byte then with_byte (Some byte) (content_at false bytes)
    else None
content_at true (byte ∷ bytes) = with_byte (unescaped byte) (content_at false bytes)

abbrev pub is_text : List ℕ → Bool
is_text bytes = is_utf8 bytes && nat_le (length bytes) 32000

abbrev pub checked : List ℕ × List ℕ → Option (List ℕ × List ℕ)
checked x = if is_text x.0 then Some x else None

-- a string behind its opening quote
unfoldable pub string_at : List ℕ → Option (List ℕ × List ℕ)
string_at bytes = content_at false bytes >>= checked

-- ---- a token

unfoldable pub token_at : List ℕ → Option (Token × List ℕ)
token_at [] = None
token_at (first ∷ others) =
    if first == 40 then Some (kinds.Open, others)
    else if first == 41 then Some (kinds.Close, others)
    else if first == 34 then (string_at others >>= λ x. Some (kinds.Str x.0, x.1))
    else word_at (first ∷ others)

-- why reading the tokens of a text stops
abbrev pub IsStop : List ℕ → TokensRefused → Type 0
IsStop bytes refusals.TooLarge = ⊥
IsStop bytes (refusals.Utf8 at) = ⊥
IsStop bytes (refusals.Token at) = FirstBad 0 bytes at
IsStop bytes refusals.NoMemory = Unit {0}
