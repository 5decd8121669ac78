-- The words of a command line, and the command that they ask for.
use Rattle.std.specs.Prelude.{◌≡◌, ◌≢◌, ◌⊎◌, ◌<◌, ◌≤◌, ◌+◌, ◌==◌, ℕ, Bool, true, List, [], ◌∷◌, ◌++◌, length, map, Option, Some, None, codes, if◌then◌else◌}
use Rattle.std.specs.List.{list_any, slice_split}
use Rattle.std.specs.Str.{bytes_eq}
use Rattle.std.specs.Str.Parse.{IsNumeral, digits_value}
use Rattle.al_value.specs.declared.settings.Settings.{Settings}
use Rattle.al_words.specs.declared.command.Command.{Command}
use Rattle.al_words.specs.declared.command.Command.TheVariants as C

abbrev pub Bytes : Type 0
Bytes = List ℕ

-- ---- what the words are

-- a positional word, or an option with its value
pub data Item : Type 0 where
  word : Bytes → Item
  given : Bytes → Bytes → Item

-- the names of the options
abbrev pub option_names : List Bytes
option_names = codes "partitions" ∷ codes "frame-size" ∷ codes "memory" ∷ codes "workers" ∷ codes "schedule" ∷ []

abbrev pub is_option : Bytes → Bool
is_option name = list_any (λ n. bytes_eq n name) option_names

-- no `-` stands in front
abbrev pub HasNoDash : Bytes → Type 0
HasNoDash [] = Unit {0}
HasNoDash (first ∷ others) = first ≢ 45

-- a word before `--` that is positional: `-` alone, or without `-` in front
abbrev pub IsPositional : Bytes → Type 0
IsPositional text = (text ≡ codes "-") ⊎ HasNoDash text

-- the words are these items: each positional word stands for itself, an option is `--name=value`, or
-- `--name` and the value as the next word; behind `--` all words are positional
pub data AreItems : List Bytes → List Item → Type 0 where
  none : AreItems [] []
  ended : {words : List Bytes} → AreItems (codes "--" ∷ words) (map word words)
  positional : {text : Bytes} {words : List Bytes} {items : List Item} → IsPositional text
      → AreItems words items → AreItems (text ∷ words) (word text ∷ items)
  attached : {name value : Bytes} {words : List Bytes} {items : List Item} → is_option name ≡ true
      → AreItems words items → AreItems ((codes "--" ++ (name ++ (codes "=" ++ value))) ∷ words) (given name value ∷ items)
  spaced : {name value : Bytes} {words : List Bytes} {items : List Item} → is_option name ≡ true → HasNoDash value
      → AreItems words items → AreItems ((codes "--" ++ name) ∷ value ∷ words) (given name value ∷ items)

-- the positional words
abbrev pub words_of : List Item → List Bytes
words_of [] = []
words_of (word text ∷ items) = text ∷ words_of items
words_of (given name value ∷ items) = words_of items

-- the value that an option has, if it is given
abbrev pub value_of : Bytes → List Item → Option Bytes
value_of name [] = None
value_of name (word text ∷ items) = value_of name items
value_of name (given other value ∷ items) = if bytes_eq other name then Some value else value_of name items

-- no option is given twice
abbrev pub AreOnce : List Item → Type 0
AreOnce [] = Unit {0}
AreOnce (word text ∷ items) = AreOnce items
AreOnce (given name value ∷ items) = (value_of name items ≡ None) × AreOnce items

-- ---- numbers and schedules

-- one to ten decimal digits, whose number is in the range
abbrev pub IsNumber : ℕ → ℕ → Bytes → ℕ → Type 0
IsNumber least most text n = IsNumeral 10 text × (length text ≤ 10) × (n ≡ digits_value 10 text) × (least ≤ n) × (n ≤ most)

-- the number that an option is given, or its default
abbrev pub IsSetting : ℕ → ℕ → ℕ → Option Bytes → ℕ → Type 0
IsSetting least most default None n = n ≡ default
IsSetting least most default (Some text) n = IsNumber least most text n

-- 1 to 16, by default 1
abbrev pub ArePartitions : Option Bytes → ℕ → Type 0
ArePartitions = IsSetting 1 16 1

-- 256 to 65,536 bytes, by default 32,768
abbrev pub IsFrameSize : Option Bytes → ℕ → Type 0
IsFrameSize = IsSetting 256 65536 32768

-- 3 to 1,024 frames, by default 32
abbrev pub IsMemory : Option Bytes → ℕ → Type 0
IsMemory = IsSetting 3 1024 32

-- 1 to 16, by default 2
abbrev pub AreWorkers : Option Bytes → ℕ → Type 0
AreWorkers = IsSetting 1 16 2

abbrev pub IsSeed : Bytes → ℕ → Type 0
IsSeed = IsNumber 0 4294967295

abbrev pub AreRows : Bytes → ℕ → Type 0
AreRows = IsNumber 0 1000000

-- the texts are those of the values, one by one
abbrev pub Each : {X : Type 0} → (Bytes → X → Type 0) → List Bytes → List X → Type 0
Each Is [] [] = Unit {0}
Each Is (text ∷ texts) (x ∷ xs) = Is text x × Each Is texts xs
Each Is _ _ = ⊥

-- a part of a schedule: nothing, or numbers joined by `,`
abbrev pub IsPart : Bytes → List ℕ → Type 0
IsPart [] numbers = numbers ≡ []
IsPart (first ∷ others) numbers = Each (IsNumber 0 4294967295) (slice_split (λ b. b == 44) (first ∷ others)) numbers

-- the number of the numbers
abbrev pub count : List (List ℕ) → ℕ
count [] = 0
count (part ∷ parts) = length part + count parts

-- parts joined by `/`, with one number or more and at most 100,000; no parts where the option isn't given
abbrev pub IsSchedule : Option Bytes → List (List ℕ) → Type 0
IsSchedule None parts = parts ≡ []
IsSchedule (Some text) parts = Each IsPart (slice_split (λ b. b == 47) text) parts × (0 < count parts) × (count parts ≤ 100000)

-- ---- commands

-- the options that are given, with their values
pub record Options : Type 0 where
  pub partitions : Option Bytes
  pub frame_size : Option Bytes
  pub memory : Option Bytes
  pub workers : Option Bytes
  pub schedule : Option Bytes

abbrev pub options_of : List Item → Options
options_of items = record {
  partitions = value_of (codes "partitions") items;
  frame_size = value_of (codes "frame-size") items;
  memory = value_of (codes "memory") items;
  workers = value_of (codes "workers") items;
  schedule = value_of (codes "schedule") items;
}

-- none is given
abbrev pub no_options : Options
no_options = record { partitions = None; frame_size = None; memory = None; workers = None; schedule = None }

-- the settings of a job, by their options
abbrev pub AreSettings : Options → Settings → Type 0
AreSettings o s = ArePartitions o.partitions s.partitions × IsFrameSize o.frame_size s.frame_size × IsMemory o.memory s.memory

-- the positional words and the options ask for the command, and no option is given that it doesn't take
abbrev pub Asks : List Bytes → Options → Command → Type 0
Asks words o (C.Check plan) = (words ≡ codes "check" ∷ plan ∷ []) × (o ≡ no_options)
Asks words o (C.Explain plan partitions) =
    (words ≡ codes "explain" ∷ plan ∷ []) × (o ≡ record no_options { partitions = o.partitions })
    × ArePartitions o.partitions partitions
Asks words o (C.Plain plan) = (words ≡ codes "plain" ∷ plan ∷ []) × (o ≡ no_options)
Asks words o (C.Step plan settings schedule) =
    (words ≡ codes "step" ∷ plan ∷ []) × (o ≡ record o { workers = None })
    × AreSettings o settings × IsSchedule o.schedule schedule
Asks words o (C.Run plan settings workers) =
    (words ≡ codes "run" ∷ plan ∷ []) × (o ≡ record o { schedule = None })
    × AreSettings o settings × AreWorkers o.workers workers
Asks words o (C.Gen seed rows) =
    (seed_text : Bytes) × (rows_text : Bytes) × (words ≡ codes "gen" ∷ seed_text ∷ rows_text ∷ []) × (o ≡ no_options)
    × IsSeed seed_text seed × AreRows rows_text rows
Asks words o (C.Drill seed rows plan settings) =
    (seed_text : Bytes) × (rows_text : Bytes) × (words ≡ codes "drill" ∷ seed_text ∷ rows_text ∷ plan ∷ [])
    × (o ≡ record o { workers = None; schedule = None })
    × IsSeed seed_text seed × AreRows rows_text rows × AreSettings o settings
Asks words o (C.Frames plan dataset frame_size) =
    (words ≡ codes "frames" ∷ plan ∷ dataset ∷ []) × (o ≡ record no_options { frame_size = o.frame_size })
    × IsFrameSize o.frame_size frame_size

-- the words are a command line for this command
pub record IsCommand (words : List Bytes) (command : Command) : Type 0 where
  pub items : List Item
  pub are_items : AreItems words items
  pub once : AreOnce items
  pub asks : Asks (words_of items) (options_of items) command
