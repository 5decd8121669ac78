-- The tokens of plan text, and the first piece that is none.
use Rattle.std.specs.Prelude.{◌≡◌, ℕ, ◌+◌, ◌<◌, ◌≤◌, Bool, false, ◌==◌, ◌||◌, ◌&&◌, not, nat_le, nat_lt, if◌then◌else◌, IsTrue, List, [], ◌∷◌, ◌++◌, length, IsUtf8, codes}
use Rattle.std.specs.Char.{is_ascii_alphabetic, is_ascii_alphanumeric, is_ascii_digit}
use Rattle.std.specs.List.{flat_map, list_all}
use Rattle.std.specs.Str.{IsValidUpTo}
use Rattle.al_value.specs.Text.{IsText}
use Rattle.al_read.specs.declared.token.Token.{Token}
use Rattle.al_read.specs.declared.token.Token.TheVariants as kinds
use Rattle.al_read.specs.declared.token.Placed.{Placed}
use Rattle.al_read.specs.declared.token.TokensRefused.{TokensRefused}
use Rattle.al_read.specs.declared.token.TokensRefused.TheVariants as refusals

-- ---- what stands between tokens

-- space, tab, CR, LF
abbrev pub is_separator : ℕ → Bool
is_separator byte = byte == 32 || byte == 9 || byte == 13 || byte == 10

-- a byte that may stand between tokens, where a comment is open in front of it or isn't
abbrev pub is_between : Bool → ℕ → Bool
is_between inside byte = inside || is_separator byte || byte == 59

-- whether a comment is open behind the byte: `;` opens one, and LF alone closes it
abbrev pub is_inside : Bool → ℕ → Bool
is_inside inside byte = not (byte == 10) && (inside || byte == 59)

-- separators and comments; a comment may be open before them and after them
abbrev pub IsGap : Bool → List ℕ → Bool → Type 0
IsGap before [] after = before ≡ after
IsGap before (byte ∷ bytes) after = IsTrue (is_between before byte) × IsGap (is_inside before byte) bytes after

-- the end of the text: separators and comments, of which the last needn't be closed
abbrev pub IsLastGap : List ℕ → Type 0
IsLastGap bytes = (after : Bool) × IsGap false bytes after

-- a piece begins here
abbrev pub BeginsPiece : List ℕ → Type 0
BeginsPiece [] = ⊥
BeginsPiece (byte ∷ others) = is_between false byte ≡ false

-- ---- names and numbers

-- a letter or `_`
abbrev pub begins_name : ℕ → Bool
begins_name byte = is_ascii_alphabetic byte || byte == 95

-- a letter, a digit or `_`
abbrev pub is_name_byte : ℕ → Bool
is_name_byte byte = is_ascii_alphanumeric byte || byte == 95

-- at most 64 bytes
abbrev pub is_name : List ℕ → Bool
is_name [] = false
is_name (first ∷ others) = begins_name first && list_all is_name_byte others && nat_lt (length others) 64

-- one digit or more
abbrev pub are_digits : List ℕ → Bool
are_digits [] = false
are_digits (first ∷ others) = is_ascii_digit first && list_all is_ascii_digit others

-- digits, with `-` in front or without
abbrev pub is_number : List ℕ → Bool
is_number [] = false
is_number (first ∷ others) = if first == 45 then are_digits others else are_digits (first ∷ others)

-- a separator, a parenthesis, `"` or `;`
abbrev pub ends_word : ℕ → Bool
ends_word byte = is_separator byte || byte == 40 || byte == 41 || byte == 34 || byte == 59

-- a name, a variable or a number may end in front of this
abbrev pub EndsWord : List ℕ → Type 0
EndsWord [] = Unit {0}
EndsWord (byte ∷ others) = IsTrue (ends_word byte)

-- ---- strings

-- how a byte of the content is written: `\"`, `\\`, `\n`, `\t`, `\r`, or as it is
abbrev pub written : ℕ → List ℕ
written byte =
    if byte == 34 || byte == 92 then 92 ∷ byte ∷ []
    else if byte == 10 then 92 ∷ 110 ∷ []
    else if byte == 9 then 92 ∷ 116 ∷ []
    else if byte == 13 then 92 ∷ 114 ∷ []
    else byte ∷ []

-- a byte that can be written: of those below 32 LF, tab and CR alone
abbrev pub is_content_byte : ℕ → Bool
is_content_byte byte = nat_le 32 byte || byte == 10 || byte == 9 || byte == 13

-- the content between its quotes
abbrev pub quoted : List ℕ → List ℕ
quoted content = 34 ∷ (flat_map written content ++ 34 ∷ [])

-- ---- tokens

-- the text of a token, in front of these bytes
abbrev pub IsTokenText : Token → List ℕ → List ℕ → Type 0
IsTokenText kinds.Open text rest = text ≡ codes "("
IsTokenText kinds.Close text rest = text ≡ codes ")"
IsTokenText (kinds.Name name) text rest = (text ≡ name) × IsTrue (is_name name) × EndsWord rest
IsTokenText (kinds.Var name) text rest = (text ≡ codes "$" ++ name) × IsTrue (is_name name) × EndsWord rest
IsTokenText (kinds.Number number) text rest = (text ≡ number) × IsTrue (is_number number) × EndsWord rest
IsTokenText (kinds.Str content) text rest = (text ≡ quoted content) × IsTrue (list_all is_content_byte content) × IsText content

-- the first token of the bytes that begin at the place `here`, and what is behind it
pub record IsNext (here : ℕ) (bytes : List ℕ) (t : Placed) (behind : ℕ) (rest : List ℕ) : Type 0 where
  pub gap : List ℕ
  pub text : List ℕ
  pub split : bytes ≡ gap ++ (text ++ rest)
  pub between : IsGap false gap false
  pub begins : t.place ≡ here + length gap
  pub ends : behind ≡ t.place + length text
  pub spells : IsTokenText t.token text rest

-- the first tokens, and what is behind them
abbrev pub AreFirst : ℕ → List ℕ → List Placed → ℕ → List ℕ → Type 0
AreFirst here bytes [] behind rest = (behind ≡ here) × (rest ≡ bytes)
AreFirst here bytes (t ∷ ts) behind rest = (next : ℕ) × (others : List ℕ) × IsNext here bytes t next others × AreFirst next others ts behind rest

-- all tokens of the bytes that begin at the place `here`
pub record IsTokens (here : ℕ) (bytes : List ℕ) (tokens : List Placed) : Type 0 where
  pub behind : ℕ
  pub rest : List ℕ
  pub first : AreFirst here bytes tokens behind rest
  pub last : IsLastGap rest

-- no token stands at the front
abbrev pub IsNoToken : List ℕ → Type 0
IsNoToken bytes = (t : Token) (text rest : List ℕ) → bytes ≡ text ++ rest → IsTokenText t text rest → ⊥

-- the first piece of the bytes is no token, and begins at `at`
pub record IsBadPiece (here : ℕ) (bytes : List ℕ) (at : ℕ) : Type 0 where
  pub gap : List ℕ
  pub piece : List ℕ
  pub split : bytes ≡ gap ++ piece
  pub between : IsGap false gap false
  pub begins : at ≡ here + length gap
  pub stands : BeginsPiece piece
  pub bad : IsNoToken piece

-- behind some tokens comes a piece that is none
pub record FirstBad (here : ℕ) (bytes : List ℕ) (at : ℕ) : Type 0 where
  pub tokens : List Placed
  pub behind : ℕ
  pub rest : List ℕ
  pub first : AreFirst here bytes tokens behind rest
  pub piece : IsBadPiece behind rest at

-- ---- the text

-- UTF-8 of at most 1,048,576 bytes
abbrev pub IsPlanText : List ℕ → Type 0
IsPlanText bytes = (length bytes ≤ 1048576) × IsUtf8 bytes

-- why a text has no tokens; want of memory is always possible
abbrev pub IsRefusal : List ℕ → TokensRefused → Type 0
IsRefusal bytes refusals.TooLarge = 1048576 < length bytes
IsRefusal bytes (refusals.Utf8 at) = (length bytes ≤ 1048576) × (¬ (IsUtf8 bytes)) × IsValidUpTo bytes at
IsRefusal bytes (refusals.Token at) = IsPlanText bytes × FirstBad 0 bytes at
IsRefusal bytes refusals.NoMemory = Unit {0}

-- a text has one list of tokens, or one first bad piece, and never both
pub record HasOneReading (bytes : List ℕ) : Type 0 where
  pub tokens : (ts us : List Placed) → IsTokens 0 bytes ts → IsTokens 0 bytes us → ts ≡ us
  pub bad : (i k : ℕ) → FirstBad 0 bytes i → FirstBad 0 bytes k → i ≡ k
  pub apart : (ts : List Placed) (i : ℕ) → IsTokens 0 bytes ts → FirstBad 0 bytes i → ⊥
