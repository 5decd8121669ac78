-- Which plan file a text states, and where a text that states none goes wrong.
use Rattle.std.specs.Prelude.{◌≡◌, ℕ, suc, ◌-◌, ◌<◌, ◌≤◌, ℤ, Bool, true, false, ◌&&◌, nat_lt, if◌then◌else◌, List, [], ◌∷◌, ◌++◌, map, length, IsUtf8}
use Rattle.std.specs.Str.{IsValidUpTo}
use Rattle.al_csv.specs.Fields.{int_of}
use Rattle.al_plan.specs.declared.file.PlanFile.{PlanFile}
use Rattle.al_plan.specs.declared.file.Refused.{Refused}
use Rattle.al_plan.specs.declared.file.RefusedKind.{RefusedKind}
use Rattle.al_plan.specs.declared.file.RefusedKind.TheVariants as kind
use Rattle.al_plan.specs.Grammar.{Word, Open, Close, Name, Variable, Number, Text, Mark, Dataset, Operator, Other, Marked, file_words, CanBeWritten}
use Rattle.al_read.specs.declared.token.Token.{Token}
use Rattle.al_read.specs.declared.token.Token.TheVariants as kinds
use Rattle.al_read.specs.declared.token.Placed.{Placed}
use Rattle.al_read.specs.declared.plan.ReadRefused.{ReadRefused}
use Rattle.al_read.specs.declared.plan.ReadRefused.TheVariants as refused
use Rattle.al_read.specs.Tokens.{IsTokens, IsPlanText, FirstBad}

-- ---- the words of tokens

abbrev pub said : Token → Word
said kinds.Open = Open
said kinds.Close = Close
said (kinds.Name name) = Name name
said (kinds.Var name) = Variable name
said (kinds.Number digits) = Number (int_of digits)
said (kinds.Str content) = Text content

abbrev pub words_of : List Placed → List Word
words_of tokens = map (λ t. said t.token) tokens

abbrev pub unmarked : List Marked → List Word
unmarked ms = map (λ m. m.1) ms

abbrev pub is_dataset : Mark → Bool
is_dataset Dataset = true
is_dataset Operator = false
is_dataset Other = false

abbrev pub is_operator : Mark → Bool
is_operator Dataset = false
is_operator Operator = true
is_operator Other = false

-- the places of the tokens at which such a thing begins
abbrev pub places_of : (Mark → Bool) → List Marked → List Placed → List ℕ
places_of begins [] ts = []
places_of begins (m ∷ ms) [] = []
places_of begins (m ∷ ms) (t ∷ ts) = if begins m.0 then t.place ∷ places_of begins ms ts else places_of begins ms ts

-- how many operators begin
abbrev pub operators_in : List Marked → ℕ
operators_in [] = 0
operators_in (m ∷ ms) = if is_operator m.0 then suc (operators_in ms) else operators_in ms

-- how many parentheses are open behind the words, where some were open before
abbrev pub open_behind : ℕ → List Word → ℕ
open_behind depth [] = depth
open_behind depth (Open ∷ ws) = open_behind (suc depth) ws
open_behind depth (Close ∷ ws) = open_behind (depth - 1) ws
open_behind depth (Name name ∷ ws) = open_behind depth ws
open_behind depth (Variable name ∷ ws) = open_behind depth ws
open_behind depth (Number z ∷ ws) = open_behind depth ws
open_behind depth (Text content ∷ ws) = open_behind depth ws

-- a parenthesis opens where 100 are open
abbrev pub IsTooDeep : List Word → Word → Type 0
IsTooDeep before w = (w ≡ Open) × (open_behind 0 before ≡ 100)

-- nowhere in the words a parenthesis opens where 100 are open
abbrev pub IsShallow : List Word → Type 0
IsShallow ws = (before after : List Word) (w : Word) → ws ≡ before ++ w ∷ after → IsTooDeep before w → ⊥

-- ---- what a text states

pub record Reads (bytes : List ℕ) (f : PlanFile) : Type 0 where
  pub tokens : List Placed
  pub text : IsPlanText bytes
  pub are_all : IsTokens 0 bytes tokens
  pub words : words_of tokens ≡ unmarked (file_words f)
  pub fits : CanBeWritten f
  pub dataset_places : f.dataset_places ≡ places_of is_dataset (file_words f) tokens
  pub places : f.places ≡ places_of is_operator (file_words f) tokens
  pub shallow : IsShallow (words_of tokens)
  pub few : operators_in (file_words f) ≤ 256

-- ---- where a text goes wrong

-- the words of some file begin with these
abbrev pub Begins : List Marked → Type 0
Begins ms = (f : PlanFile) × (rest : List Marked) × CanBeWritten f × (file_words f ≡ ms ++ rest)

abbrev pub CanStand : List Word → Type 0
CanStand ws = (ms : List Marked) × (unmarked ms ≡ ws) × Begins ms

-- these words are a whole file
abbrev pub IsWhole : List Word → Type 0
IsWhole ws = (f : PlanFile) × CanBeWritten f × (unmarked (file_words f) ≡ ws)

-- the word can't stand behind the others, and it is a number where another number can
abbrev pub IsOutOfRange : List Word → Word → Type 0
IsOutOfRange before w = (¬ (CanStand (before ++ w ∷ []))) × (z other : ℤ) × (w ≡ Number z) × CanStand (before ++ Number other ∷ [])

-- the word can't stand behind the others, nor another number in a number's place
abbrev pub IsMisplaced : List Word → Word → Type 0
IsMisplaced before w = (¬ (CanStand (before ++ w ∷ []))) × (¬ (IsOutOfRange before w))

-- the 257th operator begins behind the words
abbrev pub IsOneTooMany : List Word → Word → Type 0
IsOneTooMany before w = (w ≡ Open) × (ms : List Marked) × (unmarked ms ≡ before) × Begins (ms ++ (Operator, Open) ∷ []) × (operators_in ms ≡ 256)

-- what is wrong behind words in which nothing is
abbrev pub IsCause : List Word → List Word → RefusedKind → Type 0
IsCause before [] kind.Form = ¬ (IsWhole before)
IsCause before (w ∷ ws) kind.TooDeep = IsTooDeep before w
IsCause before (w ∷ ws) kind.Form = (¬ (IsTooDeep before w)) × IsMisplaced before w
IsCause before (w ∷ ws) kind.TooLarge = (¬ (IsTooDeep before w)) × IsOneTooMany before w
IsCause before (w ∷ ws) kind.Number = IsOutOfRange before w
IsCause before after _ = ⊥

-- the first of these tokens, or the end of the text
abbrev pub place_of : List Placed → ℕ → ℕ
place_of [] end = end
place_of (t ∷ ts) end = t.place

-- the first token that is refused, or the end
pub record IsRefusedAt (tokens : List Placed) (end : ℕ) (r : Refused) : Type 0 where
  pub before : List Placed
  pub after : List Placed
  pub split : tokens ≡ before ++ after
  pub stands : CanStand (words_of before)
  pub shallow : IsShallow (words_of before)
  pub few : (ms : List Marked) → unmarked ms ≡ words_of before → Begins ms → operators_in ms ≤ 256
  pub place : r.place ≡ place_of after end
  pub cause : IsCause (words_of before) (words_of after) r.kind

abbrev pub refusal : RefusedKind → ℕ → Refused
refusal kind place = record { kind = kind; place = place }

-- a text that is too large, then one that is not UTF-8, then a piece that is no token, then a token that is refused
pub data IsReadRefusal (bytes : List ℕ) (r : Refused) : Type 0 where
  too_large : 1048576 < length bytes → r ≡ refusal kind.TooLarge 1048576 → IsReadRefusal bytes r
  utf8 : length bytes ≤ 1048576 → ¬ (IsUtf8 bytes) → (at : ℕ) → IsValidUpTo bytes at → r ≡ refusal kind.Utf8 at → IsReadRefusal bytes r
  token : IsPlanText bytes → (at : ℕ) → FirstBad 0 bytes at → r ≡ refusal kind.Token at → IsReadRefusal bytes r
  form : IsPlanText bytes → (tokens : List Placed) → IsTokens 0 bytes tokens → IsRefusedAt tokens (length bytes) r → IsReadRefusal bytes r

-- why reading gave no file; want of memory is always possible
abbrev pub Refuses : List ℕ → ReadRefused → Type 0
Refuses bytes (refused.Refused r) = IsReadRefusal bytes r
Refuses bytes refused.NoMemory = Unit {0}

-- a text has one reading, or one refusal, and never both
pub record HasOneAnswer (bytes : List ℕ) : Type 0 where
  pub file : (f g : PlanFile) → Reads bytes f → Reads bytes g → f ≡ g
  pub refused : (r s : Refused) → IsReadRefusal bytes r → IsReadRefusal bytes s → r ≡ s
  pub apart : (f : PlanFile) (r : Refused) → Reads bytes f → IsReadRefusal bytes r → ⊥
