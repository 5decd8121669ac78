-- The command line as `clap` is told of it: one required and three optional positional words, and five options of
-- one value each; and what is read of it.
use Rattle.std.specs.Prelude.{◌≡◌, List, [], ◌∷◌, ◌++◌, map, codes, true, false, Option, Some, None, Bool, option_map}
use Rattle.std.specs.Borrow.{Bor}
use Rattle.clap.specs.Walk.{Row, Rule, Text, first_of}
use Rattle.clap.specs.Faults.{fault_of}
use Rattle.clap.specs.Simple.{App, new_app, new_rule, matches_of, on_top, with_rule}
use Rattle.al_words.specs.Words.{Bytes, Options}
use Rattle.al_words.specs.declared.options.Given.{Given}

abbrev pub option_rule : Text → Rule
option_rule name = record (new_rule name) { long = Some name }

abbrev pub word_rule : Text → Bool → Rule
word_rule name is_required = record (new_rule name) { required = is_required }

abbrev pub bare_app : App
bare_app = on_top (λ s. record s { no_binary_name = true; disable_help_flag = true; disable_version_flag = true }) (new_app (codes "algebricks"))

abbrev pub words_app : App
words_app = with_rule (with_rule (with_rule (with_rule bare_app
    (word_rule (codes "command") true)) (word_rule (codes "first") false)) (word_rule (codes "second") false)) (word_rule (codes "third") false)

unfoldable pub usage_app : App
usage_app = with_rule (with_rule (with_rule (with_rule (with_rule words_app
    (option_rule (codes "partitions"))) (option_rule (codes "frame-size"))) (option_rule (codes "memory"))) (option_rule (codes "workers"))) (option_rule (codes "schedule"))

-- `clap` takes the words
unfoldable pub AreTaken : List Text → Type 0
AreTaken words = fault_of usage_app words ≡ []

-- what each argument was given
unfoldable pub rows_read : List Text → List Row
rows_read words = matches_of usage_app words

-- a positional word, where it is there
abbrev pub listed : Option Bytes → List Bytes
listed None = []
listed (Some text) = text ∷ []

-- the positional words of the rows
abbrev pub words_in : List Row → List Bytes
words_in rows =
    listed (first_of (codes "command") rows) ++ (listed (first_of (codes "first") rows)
    ++ (listed (first_of (codes "second") rows) ++ listed (first_of (codes "third") rows)))

-- the options of the rows
abbrev pub options_in : List Row → Options
options_in rows = record {
  partitions = first_of (codes "partitions") rows;
  frame_size = first_of (codes "frame-size") rows;
  memory = first_of (codes "memory") rows;
  workers = first_of (codes "workers") rows;
  schedule = first_of (codes "schedule") rows;
}

-- the texts behind references
abbrev pub texts : List (Bor Bytes) → List Bytes
texts = map (λ s. s.now)

abbrev pub text_of : Option (Bor Bytes) → Option Bytes
text_of = option_map (λ s. s.now)

-- the options that the struct of the code holds
abbrev pub options_given : Given → Options
options_given g = record {
  partitions = text_of g.partitions;
  frame_size = text_of g.frame_size;
  memory = text_of g.memory;
  workers = text_of g.workers;
  schedule = text_of g.schedule;
}
