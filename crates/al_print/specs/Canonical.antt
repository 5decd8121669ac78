-- The canonical text of a plan file: its words on one line, with one space between two of them, but none
-- behind `(` and none in front of `)`.
use Rattle.std.specs.Prelude.{ℕ, Bool, true, false, ◌||◌, if◌then◌else◌, List, [], ◌∷◌, ◌++◌, map, codes}
use Rattle.std.specs.Fmt.{signed_decimal}
use Rattle.al_plan.specs.declared.file.PlanFile.{PlanFile}
use Rattle.al_plan.specs.declared.plan.Plan.{Plan}
use Rattle.al_plan.specs.Grammar.{Word, Open, Close, Name, Variable, Number, Text, Marked, file_words}
use Rattle.al_read.specs.Tokens.{quoted}
use Rattle.al_print.specs.declared.line.Line.{Line}

-- how a word is spelled
abbrev pub spelled : Word → List ℕ
spelled Open = codes "("
spelled Close = codes ")"
spelled (Name name) = name
spelled (Variable name) = codes "$" ++ name
spelled (Number z) = signed_decimal z
spelled (Text content) = quoted content

abbrev pub is_open : Word → Bool
is_open Open = true
is_open Close = false
is_open (Name name) = false
is_open (Variable name) = false
is_open (Number z) = false
is_open (Text content) = false

abbrev pub is_close : Word → Bool
is_close Open = false
is_close Close = true
is_close (Name name) = false
is_close (Variable name) = false
is_close (Number z) = false
is_close (Text content) = false

-- words behind a word, where a space may come next or not
unfoldable pub line_of : Bool → List Word → List ℕ
line_of tight [] = []
line_of tight (w ∷ ws) = (if tight || is_close w then [] else codes " ") ++ (spelled w ++ line_of (is_open w) ws)

abbrev pub words_in : List Marked → List Word
words_in ms = map (λ m. m.1) ms

-- the text of a plan file
abbrev pub plan_text : PlanFile → List ℕ
plan_text f = line_of true (words_in (file_words f)) ++ codes "\n"

-- the file with another plan in the place of its own
abbrev pub file_with : PlanFile → Plan → PlanFile
file_with f root = record { version = f.version; datasets = f.datasets; dataset_places = f.dataset_places; root = root; places = f.places }

-- whether no space comes behind these words
abbrev pub tight_behind : Bool → List Word → Bool
tight_behind tight [] = tight
tight_behind tight (w ∷ ws) = tight_behind (is_open w) ws

-- a line with more words at its end
unfoldable pub after : Line → List Marked → Line
after line ms = record { text = line.text ++ line_of line.tight (words_in ms); tight = tight_behind line.tight (words_in ms) }
