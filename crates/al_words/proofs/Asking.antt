-- What the words ask for: items are as `clap` reads them, and the words ask for one command at most.
use Rattle.std.proofs.Common.{◌≡◌, ◌≢◌, ◌∙◌, ◌<◌, ◌≤◌, ◌==◌, ◌||◌, ℕ, zero, suc, cond, Bool, true, false, refl, sym, subst, ap, ap₂, arith, true≢false, List, [], ◌∷◌, map, length, Option, Some, None, inr}
use Rattle.std.specs.Prelude.{String, string_bytes}
use Rattle.std.specs.Char.{digit_value}
use Rattle.std.specs.List.{list_any, slice_split}
use Rattle.std.specs.Str.{bytes_eq}
use Rattle.std.specs.Str.Parse.{digits_value}
use Rattle.std.proofs.lemmas.Str.{IsUtf8-string_bytes}
use Rattle.clap.specs.Simple.{matches_of}
use Rattle.clap.specs.Walk.{Text}
use Rattle.al_value.specs.declared.settings.Settings.{Settings}
use Rattle.al_words.specs.Words.{AreItems, AreOnce, AreSettings, Asks, Each, HasNoDash, IsCommand, IsNumber, IsPart, IsSchedule, IsSetting, Item, Options, given, is_option, no_options, option_names, options_of, value_of, word, words_of}
use Rattle.al_words.specs.Words as spec
use Rattle.al_words.specs.Usage.{AreTaken, options_in, rows_read, usage_app, words_in}
use Rattle.al_words.specs.declared.command.Command.{Command}
use Rattle.al_words.specs.declared.command.Command.TheVariants as C
use Rattle.al_words.specs.Verbs.{spelled}
use Rattle.al_words.specs.declared.verb.Verb.{Verb}
use Rattle.al_words.specs.declared.verb.Verb.TheVariants as V
use Rattle.al_words.proofs.Shapes.{same, same_test}
use Rattle.al_words.proofs.Walks.{Place, at_command, at_first, at_second, at_third, past}
use Rattle.al_words.proofs.Taking.{AreRead, AreTexts, HasRoom, behind_end, by_equals, by_itself, by_space, no_words}
use Rattle.al_words.proofs.Finding.{named, once_of}
use Rattle.al_words.proofs.Whole.{items_taken, options_same, takes_items, words_same}

-- ---- no value of a command begins with `-`

no_dash_digit : (c : ℕ) → digit_value c < 10 → c ≢ 45
no_dash_digit c lt is = absurd (dash (subst (λ x. digit_value x < 10) is lt))
  where
    dash : digit_value 45 < 10 → ⊥
    dash h = omega arith

number_clean : (least most : ℕ) (text : Text) (n : ℕ) → IsNumber least most text n → HasNoDash text
number_clean least most [] n h = tt
number_clean least most (c ∷ cs) n h = no_dash_digit c h.0.1.0

abbrev NoDashIn : Option Text → Type 0
NoDashIn None = Unit {0}
NoDashIn (Some text) = HasNoDash text

setting_clean : (least most default : ℕ) (o : Option Text) (n : ℕ) → IsSetting least most default o n → NoDashIn o
setting_clean least most default None n h = tt
setting_clean least most default (Some text) n h = number_clean least most text n h

-- the first part of a text begins as the text does
first_part : (p : ℕ → Bool) (x : ℕ) (xs : Text) → p x ≡ false → (part : Text) × (parts : List Text) × (slice_split p (x ∷ xs) ≡ (x ∷ part) ∷ parts)
first_part p x xs e = go (slice_split p xs) refl
  where
    go : (ps : List Text) → slice_split p xs ≡ ps → (part : Text) × (parts : List Text) × (slice_split p (x ∷ xs) ≡ (x ∷ part) ∷ parts)
    go [] is = ([], [], rw (e, is) refl)
    go (q ∷ qs) is = (q, qs, rw (e, is) refl)

each_first : {X : Type 0} (Is : Text → X → Type 0) (texts : List Text) (text : Text) (others : List Text) (xs : List X) → texts ≡ text ∷ others
    → Each Is texts xs → (x : X) × Is text x
each_first Is texts text others [] e h = absurd (subst (λ ts. Each Is ts []) e h)
each_first Is texts text others (x ∷ xs) e h = (x, (subst (λ ts. Each Is ts (x ∷ xs)) e h).0)

part_clean : (x : ℕ) (xs : Text) (ns : List ℕ) → IsPart (x ∷ xs) ns → x ≢ 45
part_clean x xs ns h is =
    let comma : (x == 44) ≡ false = grind arith in
    let first = first_part (λ b. b == 44) x xs comma in
    let number = each_first (IsNumber 0 4294967295) _ (x ∷ first.0) first.1 ns first.2 h in
    number_clean 0 4294967295 (x ∷ first.0) number.0 number.1 is

schedule_clean : (o : Option Text) (parts : List (List ℕ)) → IsSchedule o parts → NoDashIn o
schedule_clean None parts h = tt
schedule_clean (Some []) parts h = tt
schedule_clean (Some (x ∷ xs)) parts h = λ is.
    let slash : (x == 47) ≡ false = grind arith in
    let first = first_part (λ b. b == 47) x xs slash in
    let part = each_first IsPart _ (x ∷ first.0) first.1 parts first.2 h.0 in
    part_clean x first.0 part.0 part.1 is

record AreClean (o : Options) : Type 0 where
  pub partitions : NoDashIn o.partitions
  pub frame_size : NoDashIn o.frame_size
  pub memory : NoDashIn o.memory
  pub workers : NoDashIn o.workers
  pub schedule : NoDashIn o.schedule

absent : (o : Option Text) → o ≡ None → NoDashIn o
absent o e = subst NoDashIn (sym e) tt

all_absent : (o : Options) → o ≡ no_options → AreClean o
all_absent o e = subst AreClean (sym e) (record { partitions = tt; frame_size = tt; memory = tt; workers = tt; schedule = tt })

asks_clean : (ws : List Text) (o : Options) (c : Command) → Asks ws o c → AreClean o
asks_clean ws o (C.Check plan) h = all_absent o h.1
asks_clean ws o (C.Explain plan n) h =
    subst AreClean (sym h.1) (record { partitions = setting_clean 1 16 1 o.partitions n h.2; frame_size = tt; memory = tt; workers = tt; schedule = tt })
asks_clean ws o (C.Plain plan) h = all_absent o h.1
asks_clean ws o (C.Step plan settings parts) h = record {
  partitions = setting_clean 1 16 1 o.partitions settings.partitions h.2.0;
  frame_size = setting_clean 256 65536 32768 o.frame_size settings.frame_size h.2.1;
  memory = setting_clean 3 1024 32 o.memory settings.memory h.2.2;
  workers = absent o.workers (ap (λ (x : Options). x.workers) h.1);
  schedule = schedule_clean o.schedule parts h.3;
}
asks_clean ws o (C.Run plan settings n) h = record {
  partitions = setting_clean 1 16 1 o.partitions settings.partitions h.2.0;
  frame_size = setting_clean 256 65536 32768 o.frame_size settings.frame_size h.2.1;
  memory = setting_clean 3 1024 32 o.memory settings.memory h.2.2;
  workers = setting_clean 1 16 2 o.workers n h.3;
  schedule = absent o.schedule (ap (λ (x : Options). x.schedule) h.1);
}
asks_clean ws o (C.Gen seed rows) h = all_absent o h.3
asks_clean ws o (C.Drill seed rows plan settings) h = record {
  partitions = setting_clean 1 16 1 o.partitions settings.partitions h.6.0;
  frame_size = setting_clean 256 65536 32768 o.frame_size settings.frame_size h.6.1;
  memory = setting_clean 3 1024 32 o.memory settings.memory h.6.2;
  workers = absent o.workers (ap (λ (x : Options). x.workers) h.3);
  schedule = absent o.schedule (ap (λ (x : Options). x.schedule) h.3);
}
asks_clean ws o (C.Frames plan dataset n) h =
    subst AreClean (sym h.1) (record { partitions = tt; frame_size = setting_clean 256 65536 32768 o.frame_size n h.2; memory = tt; workers = tt; schedule = tt })

-- ---- items, as they are defined and as `clap` reads them

-- what holds of each name of a list holds of a name among them
abbrev AllOf : (Text → Type 0) → List Text → Type 0
AllOf P [] = Unit {0}
AllOf P (n ∷ ns) = P n × AllOf P ns

chosen : (P : Text → Type 0) (name : Text) (names : List Text) → AllOf P names → list_any (λ n. bytes_eq n name) names ≡ true → P name
chosen P name [] all e = absurd (true≢false (sym e))
chosen P name (n ∷ names) all e = go (bytes_eq n name) refl e (chosen P name names all.1)
  where
    go : (b : Bool) → bytes_eq n name ≡ b → (b || list_any (λ m. bytes_eq m name) names) ≡ true
        → (list_any (λ m. bytes_eq m name) names ≡ true → P name) → P name
    go true is at others = subst P (same n name is) all.0
    go false is at others = others at

-- no value of an option begins with `-`
abbrev NoDashes : List Item → Type 0
NoDashes items = (name : Text) → is_option name ≡ true → NoDashIn (value_of name items)

no_dashes : (items : List Item) → AreClean (options_of items) → NoDashes items
no_dashes items clean name option =
    chosen (λ n. NoDashIn (value_of n items)) name option_names
    (clean.partitions, (clean.frame_size, (clean.memory, (clean.workers, (clean.schedule, tt))))) option

-- the values behind the first option are those of all, but for the first
tail_dashes : (name value : Text) (items : List Item) → AreOnce (given name value ∷ items) → NoDashes (given name value ∷ items) → NoDashes items
tail_dashes name value items once all other option = go (bytes_eq name other) refl
  where
    go : (b : Bool) → bytes_eq name other ≡ b → NoDashIn (value_of other items)
    go true is = absent (value_of other items) (ap (λ n. value_of n items) (sym (same name other is)) ∙ once.0)
    go false is = subst NoDashIn (not_first (bytes_eq name other) is) (all other option)
      where
        not_first : (b : Bool) → b ≡ false → cond b (Some value) (value_of other items) ≡ value_of other items
        not_first b e = rw e refl

first_dash : (name value : Text) (items : List Item) → is_option name ≡ true → NoDashes (given name value ∷ items) → HasNoDash value
first_dash name value items option all = subst NoDashIn (first (bytes_eq name name) (same_test name name refl)) (all name option)
  where
    first : (b : Bool) → b ≡ true → cond b (Some value) (value_of name items) ≡ Some value
    first b e = rw e refl

-- where no value begins with `-`, items that are read are items
strict : {words : List Text} {items : List Item} → AreRead words items → AreOnce items → NoDashes items → AreItems words items
strict no_words once all = spec.none
strict behind_end once all = spec.ended
strict (by_itself positional read) once all = spec.positional positional (strict read once all)
strict (by_equals {name = name} {value = v} {items = items} option read) once all =
    spec.attached option (strict read once.1 (tail_dashes name v items once all))
strict (by_space {name = name} {value = v} {items = items} option positional read) once all =
    spec.spaced option (first_dash name v items option all) (strict read once.1 (tail_dashes name v items once all))

-- items are read
loose : {words : List Text} {items : List Item} → AreItems words items → AreRead words items
loose spec.none = no_words
loose spec.ended = behind_end
loose (spec.positional positional items) = by_itself positional (loose items)
loose (spec.attached option items) = by_equals option (loose items)
loose (spec.spaced option free items) = by_space option (inr free) (loose items)

-- ---- four positional words at most

left : Place → ℕ
left at_command = 4
left at_first = 3
left at_second = 2
left at_third = 1
left past = 0

has_room : (items : List Item) (p : Place) → length (words_of items) ≤ left p → HasRoom p items
unfolding left
has_room [] p le = tt
has_room (given name value ∷ items) p le = has_room items p le
has_room (word text ∷ items) at_command le = (tt, has_room items at_first (omega arith))
has_room (word text ∷ items) at_first le = (tt, has_room items at_second (omega arith))
has_room (word text ∷ items) at_second le = (tt, has_room items at_third (omega arith))
has_room (word text ∷ items) at_third le = (tt, has_room items past (omega arith))
has_room (word text ∷ items) past le = absurd (omega arith)

-- what a command does, and the word for it
abbrev pub kind : Command → Verb
kind (C.Check plan) = V.Check
kind (C.Explain plan n) = V.Explain
kind (C.Plain plan) = V.Plain
kind (C.Step plan settings parts) = V.Step
kind (C.Run plan settings n) = V.Run
kind (C.Gen seed rows) = V.Gen
kind (C.Drill seed rows plan settings) = V.Drill
kind (C.Frames plan dataset n) = V.Frames

abbrev verb : Command → Text
verb c = spelled (kind c)

-- the positional words of a command
record AreWords (ws : List Text) (c : Command) : Type 0 where
  pub others : List Text
  pub split : ws ≡ verb c ∷ others
  pub few : length others ≤ 3

asked_words : (ws : List Text) (o : Options) (c : Command) → Asks ws o c → AreWords ws c
asked_words ws o (C.Check plan) h = record { others = plan ∷ []; split = h.0; few = omega arith }
asked_words ws o (C.Explain plan n) h = record { others = plan ∷ []; split = h.0; few = omega arith }
asked_words ws o (C.Plain plan) h = record { others = plan ∷ []; split = h.0; few = omega arith }
asked_words ws o (C.Step plan settings parts) h = record { others = plan ∷ []; split = h.0; few = omega arith }
asked_words ws o (C.Run plan settings n) h = record { others = plan ∷ []; split = h.0; few = omega arith }
asked_words ws o (C.Gen seed rows) h = record { others = h.0 ∷ h.1 ∷ []; split = h.2; few = omega arith }
asked_words ws o (C.Drill seed rows plan settings) h = record { others = h.0 ∷ h.1 ∷ plan ∷ []; split = h.2; few = omega arith }
asked_words ws o (C.Frames plan dataset n) h = record { others = plan ∷ dataset ∷ []; split = h.0; few = omega arith }

asked_room : (items : List Item) (c : Command) → AreWords (words_of items) c → HasRoom at_command items
unfolding left
asked_room items c h =
    let count = ap length h.split in
    let few = h.few in
    has_room items at_command (omega arith)

-- ---- the words of a command, and what `clap` reads of them

texts_are : {Z : Type 0} (words : List (String Z)) → AreTexts (map string_bytes words)
texts_are [] = tt
texts_are (w ∷ ws) = (IsUtf8-string_bytes w, texts_are ws)

-- what is read of the words asks for a command only where the words do
pub is_command : {Z : Type 0} (words : List (String Z)) (c : Command) → AreTaken (map string_bytes words)
    → Asks (words_in (rows_read (map string_bytes words))) (options_in (rows_read (map string_bytes words))) c → IsCommand (map string_bytes words) c
unfolding AreTaken rows_read
is_command words c taken asks =
    let found = takes_items (map string_bytes words) (texts_are words) taken in
    let once = once_of found.items [] at_command (named found.read) found.once in
    let asks_here = subst (λ ws. Asks ws (options_of found.items) c) (words_same found.read once found.room)
    (subst (λ o. Asks (words_in (matches_of usage_app (map string_bytes words))) o c) (options_same found.read once found.room) asks) in
    record {
      items = found.items;
      are_items = strict found.read once (no_dashes found.items (asks_clean (words_of found.items) (options_of found.items) c asks_here));
      once = once;
      asks = asks_here;
    }

-- and the words of a command are taken, and what is read of them asks for it
pub is_taken : (words : List Text) (c : Command) → IsCommand words c → AreTaken words
unfolding AreTaken
is_taken words c h =
    let ws = asked_words (words_of h.items) (options_of h.items) c h.asks in
    items_taken (loose h.are_items) h.once (asked_room h.items c ws) (verb c) ws.others ws.split

pub asks_again : (words : List Text) (c : Command) → IsCommand words c → Asks (words_in (rows_read words)) (options_in (rows_read words)) c
unfolding rows_read
asks_again words c h =
    let ws = asked_words (words_of h.items) (options_of h.items) c h.asks in
    let room = asked_room h.items c ws in
    let read = loose h.are_items in
    subst (λ ts. Asks ts (options_in (matches_of usage_app words)) c) (sym (words_same read h.once room))
    (subst (λ o. Asks (words_of h.items) o c) (sym (options_same read h.once room)) h.asks)

-- ---- one command

setting_same : (least most default : ℕ) (o : Option Text) (n k : ℕ) → IsSetting least most default o n → IsSetting least most default o k → n ≡ k
setting_same least most default None n k h g = h ∙ sym g
setting_same least most default (Some text) n k h g = h.2 ∙ sym g.2

settings_same : (o : Options) (s t : Settings) → AreSettings o s → AreSettings o t → s ≡ t
settings_same o s t h g =
    let p = setting_same 1 16 1 o.partitions s.partitions t.partitions h.0 g.0 in
    let f = setting_same 256 65536 32768 o.frame_size s.frame_size t.frame_size h.1 g.1 in
    let m = setting_same 3 1024 32 o.memory s.memory t.memory h.2 g.2 in
    λ i. record { partitions = p i; frame_size = f i; memory = m i }

pub each_same : {X : Type 0} (Is : Text → X → Type 0) → ((text : Text) (x y : X) → Is text x → Is text y → x ≡ y)
    → (texts : List Text) (xs ys : List X) → Each Is texts xs → Each Is texts ys → xs ≡ ys
each_same Is only [] [] [] h g = refl
each_same Is only [] [] (y ∷ ys) h g = absurd g
each_same Is only [] (x ∷ xs) ys h g = absurd h
each_same Is only (t ∷ ts) [] ys h g = absurd h
each_same Is only (t ∷ ts) (x ∷ xs) [] h g = absurd g
each_same Is only (t ∷ ts) (x ∷ xs) (y ∷ ys) h g = ap₂ (λ z zs. z ∷ zs) (only t x y h.0 g.0) (each_same Is only ts xs ys h.1 g.1)

pub part_same : (text : Text) (ns ks : List ℕ) → IsPart text ns → IsPart text ks → ns ≡ ks
part_same [] ns ks h g = h ∙ sym g
part_same (x ∷ xs) ns ks h g = each_same (IsNumber 0 4294967295) (λ t n k a b. a.2 ∙ sym b.2) _ ns ks h g

pub schedule_same : (o : Option Text) (ps qs : List (List ℕ)) → IsSchedule o ps → IsSchedule o qs → ps ≡ qs
schedule_same None ps qs h g = h ∙ sym g
schedule_same (Some text) ps qs h g = each_same IsPart part_same _ ps qs h.0 g.0

-- the word at a place
abbrev at_place : ℕ → List Text → Text
at_place n [] = []
at_place zero (w ∷ ws) = w
at_place (suc n) (w ∷ ws) = at_place n ws

one_verb : (ws : List Text) (o : Options) (c d : Command) → Asks ws o c → Asks ws o d → bytes_eq (verb c) (verb d) ≡ true
one_verb ws o c d h g =
    let a = asked_words ws o c h in
    let b = asked_words ws o d g in
    same_test (verb c) (verb d) (ap (at_place 0) (sym a.split ∙ b.split))

-- the first word says what the command does
pub first_word : (ws : List Text) (o : Options) (c : Command) → Asks ws o c → (first : Text) (others : List Text) → ws ≡ first ∷ others
    → first ≡ spelled (kind c)
first_word ws o c h first others e = ap (at_place 0) (sym e ∙ (asked_words ws o c h).split)

pub asks_one : (ws : List Text) (o : Options) (c d : Command) → Asks ws o c → Asks ws o d → c ≡ d
asks_one ws o (C.Check p) (C.Check q) h g = ap C.Check (ap (at_place 1) (sym h.0 ∙ g.0))
asks_one ws o (C.Explain p n) (C.Explain q k) h g =
    ap₂ C.Explain (ap (at_place 1) (sym h.0 ∙ g.0)) (setting_same 1 16 1 o.partitions n k h.2 g.2)
asks_one ws o (C.Plain p) (C.Plain q) h g = ap C.Plain (ap (at_place 1) (sym h.0 ∙ g.0))
asks_one ws o (C.Step p s ps) (C.Step q t qs) h g =
    let plan = ap (at_place 1) (sym h.0 ∙ g.0) in
    let settings = settings_same o s t h.2 g.2 in
    let parts = schedule_same o.schedule ps qs h.3 g.3 in
    λ i. C.Step (plan i) (settings i) (parts i)
asks_one ws o (C.Run p s n) (C.Run q t k) h g =
    let plan = ap (at_place 1) (sym h.0 ∙ g.0) in
    let settings = settings_same o s t h.2 g.2 in
    let workers = setting_same 1 16 2 o.workers n k h.3 g.3 in
    λ i. C.Run (plan i) (settings i) (workers i)
asks_one ws o (C.Gen s r) (C.Gen t q) h g =
    let seed = h.4.2 ∙ (ap (digits_value 10) (ap (at_place 1) (sym h.2 ∙ g.2)) ∙ sym g.4.2) in
    let rows = h.5.2 ∙ (ap (digits_value 10) (ap (at_place 2) (sym h.2 ∙ g.2)) ∙ sym g.5.2) in
    ap₂ C.Gen seed rows
asks_one ws o (C.Drill s r p x) (C.Drill t q v y) h g =
    let seed = h.4.2 ∙ (ap (digits_value 10) (ap (at_place 1) (sym h.2 ∙ g.2)) ∙ sym g.4.2) in
    let rows = h.5.2 ∙ (ap (digits_value 10) (ap (at_place 2) (sym h.2 ∙ g.2)) ∙ sym g.5.2) in
    let plan = ap (at_place 3) (sym h.2 ∙ g.2) in
    let settings = settings_same o x y h.6 g.6 in
    λ i. C.Drill (seed i) (rows i) (plan i) (settings i)
asks_one ws o (C.Frames p s n) (C.Frames q t k) h g =
    let plan = ap (at_place 1) (sym h.0 ∙ g.0) in
    let dataset = ap (at_place 2) (sym h.0 ∙ g.0) in
    let size = setting_same 256 65536 32768 o.frame_size n k h.2 g.2 in
    λ i. C.Frames (plan i) (dataset i) (size i)
asks_one ws o c d h g = absurd (true≢false (sym (one_verb ws o c d h g)))
