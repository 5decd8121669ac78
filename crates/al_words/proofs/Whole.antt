-- `clap` takes the words of this command line exactly where they are items, and finds the uses of these.
use Rattle.std.proofs.Common.{◌≡◌, ◌∙◌, ◌&&◌, ◌||◌, ◌==◌, Bool, cond, true, false, not, refl, sym, ap, ap₂, arith, true≢false, List, [], ◌∷◌, map, Option, Some, None, is_some, length, if◌then◌else◌, codes}
use Rattle.std.specs.Prelude.{find, fold}
use Rattle.std.specs.List.{list_all, list_any}
use Rattle.std.specs.Str.{bytes_eq}
use Rattle.clap.specs.Kinds.{Kinds, or_else}
use Rattle.clap.specs.Faults.{check_fault, default_fault, entered_fault, level_fault, defaults_fault, fault_of, settle_fault, walk_fault}
use Rattle.clap.specs.Simple.{App, entered, matches_of}
use Rattle.clap.specs.Walk.{Held, Row, Rule, Text, Walk, arg_by_id, arg_by_index, default_rows, finished, has_long, has_row, idle, nothing_held, reading_by, settled, with_default}
use Rattle.al_words.specs.Words.{AreOnce, Item, Options, option_names, options_of, words_of}
use Rattle.al_words.specs.Usage.{options_in, usage_app, words_in}
use Rattle.al_words.proofs.Shapes.{same}
use Rattle.al_words.proofs.Uses.{holding, pending, rows}
use Rattle.al_words.proofs.Walks.{IsUsage, Place, at_command, at_first, at_second, at_third, both_nil, id_at, number, option_at, past, rule_at, shape, state, word_at}
use Rattle.al_words.proofs.Taking.{AreRead, AreTexts, HasRoom, Taken, ended_at, pass, takes, uses}
use Rattle.al_words.proofs.Finding.{command_given, named, no_name, twice_of, value_found, words_found}

-- options are the same where each is
pub options_equal : {a b : Options} → a.partitions ≡ b.partitions → a.frame_size ≡ b.frame_size → a.memory ≡ b.memory → a.workers ≡ b.workers
    → a.schedule ≡ b.schedule → a ≡ b
options_equal e f g h k = λ i. record { partitions = e i; frame_size = f i; memory = g i; workers = h i; schedule = k i }

-- ---- the rules

abbrev the_rules : List Rule
the_rules = word_at at_command ∷ word_at at_first ∷ word_at at_second ∷ word_at at_third ∷ map option_at option_names

abbrev the_app : App
the_app = record { top = shape the_rules; subs = [] }

found_long : (name : Text) (names : List Text) → find (λ a. not (is_some a.index) && has_long a name) (map option_at names)
    ≡ (if list_any (λ n. bytes_eq n name) names then Some (option_at name) else None)
found_long name [] = refl
found_long name (n ∷ names) = go (bytes_eq n name) refl (found_long name names)
  where
    rest : Option Rule
    rest = find (λ a. not (is_some a.index) && has_long a name) (map option_at names)

    go : (b : Bool) → bytes_eq n name ≡ b → rest ≡ (if list_any (λ m. bytes_eq m name) names then Some (option_at name) else None)
        → cond (b || false) (Some (option_at n)) rest ≡ (if b || list_any (λ m. bytes_eq m name) names then Some (option_at name) else None)
    go true is e = ap (λ m. Some (option_at m)) (same n name is)
    go false is e = e

found_id : (name : Text) (names : List Text) → find (λ a. bytes_eq a.id name) (map option_at names)
    ≡ (if list_any (λ n. bytes_eq n name) names then Some (option_at name) else None)
found_id name [] = refl
found_id name (n ∷ names) = go (bytes_eq n name) refl (found_id name names)
  where
    rest : Option Rule
    rest = find (λ a. bytes_eq a.id name) (map option_at names)

    go : (b : Bool) → bytes_eq n name ≡ b → rest ≡ (if list_any (λ m. bytes_eq m name) names then Some (option_at name) else None)
        → cond b (Some (option_at n)) rest ≡ (if b || list_any (λ m. bytes_eq m name) names then Some (option_at name) else None)
    go true is e = ap (λ m. Some (option_at m)) (same n name is)
    go false is e = e

places : (p : Place) → arg_by_index the_rules (number p) ≡ rule_at p
places at_command = refl
places at_first = refl
places at_second = refl
places at_third = refl
places past = refl

place_ids : (p : Place) → arg_by_id the_rules (id_at p) ≡ rule_at p
place_ids at_command = refl
place_ids at_first = refl
place_ids at_second = refl
place_ids at_third = refl
place_ids past = refl

usage : IsUsage the_rules
usage = record {
  by_long = λ name e. found_long name option_names ∙ ap (λ b. if b then Some (option_at name) else None) e;
  no_long = λ name e. found_long name option_names ∙ ap (λ b. if b then Some (option_at name) else None) e;
  by_id = λ name e. rw (no_name at_command name e, no_name at_first name e, no_name at_second name e, no_name at_third name e)
      (found_id name option_names ∙ ap (λ b. if b then Some (option_at name) else None) e);
  by_place = places;
  place_id = place_ids;
  no_short = λ x. refl;
}

-- ---- after the walk

no_default : (a : Rule) (found : List Row) → (length a.defaults == 0) ≡ true → (default_fault found a ≡ []) × (with_default found a ≡ found)
no_default a found e = (rw e (none_wrong (has_row a.id found) _), kept a.defaults e (has_row a.id found))
  where
    none_wrong : (b : Bool) (ks : Kinds) → (if b || true then [] else ks) ≡ []
    none_wrong true ks = refl
    none_wrong false ks = refl

    nothing : (x : Text) (xs : List Text) → (length (x ∷ xs) == 0) ≡ true → ⊥
    nothing x xs f = grind arith

    kept : (ds : List Text) → (length ds == 0) ≡ true → (b : Bool) → (if b then found else default_rows a.id (reading_by a) ds found) ≡ found
    kept [] f true = refl
    kept [] f false = refl
    kept (x ∷ xs) f b = absurd (nothing x xs f)

both_true : (a b : Bool) → (a && b) ≡ true → (a ≡ true) × (b ≡ true)
both_true true b e = (refl, e)
both_true false b e = absurd (true≢false (sym e))

no_defaults : (rs : List Rule) → list_all (λ a. length a.defaults == 0) rs ≡ true → (found : List Row)
    → (defaults_fault found rs ≡ []) × (fold with_default found rs ≡ found)
unfolding defaults_fault
no_defaults [] e found = (refl, refl)
no_defaults (a ∷ rs) e found =
    let parts = both_true (length a.defaults == 0) (list_all (λ r. length r.defaults == 0) rs) e in
    let here = no_default a found parts.0 in
    let rest = no_defaults rs parts.1 found in (
      ap₂ (λ (ks : Kinds) (found' : List Row). or_else ks (defaults_fault found' rs)) here.0 here.1 ∙ rest.0,
      ap (λ (found' : List Row). fold with_default found' rs) here.1 ∙ rest.1,
    )

abbrev begin : Walk
begin = state (holding [] (pending None)) idle at_command false

abbrev end_of : List Text → Walk
end_of words = ended_at the_rules usage begin words

-- ---- what `clap` takes are items

pub takes_items : (words : List Text) → AreTexts words → fault_of usage_app words ≡ [] → Taken [] None at_command words
unfolding usage_app
takes_items words texts e =
    let stop = (end_of words).stopped in
    let wrong = walk_fault (shape the_rules) [] begin words in
    let pending_wrong = settle_fault the_rules false (end_of words).held in
    let more = or_else (defaults_fault (settled the_rules (end_of words).held).rows the_rules) (check_fault (shape the_rules) (finished the_rules (end_of words).held) (is_some (entered the_app stop))) in
    let level : or_else wrong (or_else (entered_fault the_app stop) (or_else pending_wrong more)) ≡ [] = e in
    let parts = both_nil wrong _ level in
    let others = both_nil (entered_fault the_app stop) (or_else pending_wrong more) parts.1 in
    let settle = both_nil pending_wrong more others.1 in
    takes the_rules usage words texts [] None at_command tt (ap₂ or_else parts.0 settle.0)

-- ---- and items are taken

all_nil : (a b c d : Kinds) → a ≡ [] → b ≡ [] → c ≡ [] → d ≡ [] → or_else a (or_else [] (or_else b (or_else c d))) ≡ []
all_nil a b c d ea eb ec ed = rw (ea, eb, ec, ed) refl

pub items_found : {words : List Text} {items : List Item} → AreRead words items → AreOnce items → HasRoom at_command items
    → matches_of usage_app words ≡ rows (uses at_command items)
unfolding usage_app
items_found {words} {items} read once room =
    let passes = pass the_rules usage read [] None at_command tt room (twice_of items at_command (named read) room once) in
    (no_defaults the_rules refl (settled the_rules (end_of words).held).rows).1 ∙ ap (λ (g : Held). g.rows) passes.found

pub items_taken : {words : List Text} {items : List Item} → AreRead words items → AreOnce items → HasRoom at_command items
    → (text : Text) (others : List Text) → words_of items ≡ text ∷ others → fault_of usage_app words ≡ []
unfolding usage_app
items_taken {words} {items} read once room text others e =
    let all = named read in
    let passes = pass the_rules usage read [] None at_command tt room (twice_of items at_command all room once) in
    let h = (end_of words).held in
    let quiet = both_nil (walk_fault (shape the_rules) [] begin words) (settle_fault the_rules false h) passes.quiet in
    let defaults = no_defaults the_rules refl (settled the_rules h).rows in
    let stopped = ap (λ (stop : Option (Text × List Text)).
    level_fault (shape the_rules) [] nothing_held words (is_some (entered the_app stop)) (entered_fault the_app stop)) passes.on in
    let has_command : check_fault (shape the_rules) (rows (uses at_command items)) false ≡ [] = rw (command_given items all text others e) refl in
    stopped ∙ all_nil _ _ _ _ quiet.0 quiet.1 defaults.0
    (ap (λ (found : List Row). check_fault (shape the_rules) found false) (items_found read once room) ∙ has_command)

-- ---- what the rows say of the items

pub words_same : {words : List Text} {items : List Item} → AreRead words items → AreOnce items → HasRoom at_command items
    → words_in (matches_of usage_app words) ≡ words_of items
words_same {words} {items} read once room = ap words_in (items_found read once room) ∙ words_found items at_command (named read) room

pub options_same : {words : List Text} {items : List Item} → AreRead words items → AreOnce items → HasRoom at_command items
    → options_in (matches_of usage_app words) ≡ options_of items
options_same {words} {items} read once room =
    ap options_in (items_found read once room)
    ∙ options_equal (value_found (codes "partitions") refl items at_command) (value_found (codes "frame-size") refl items at_command)
    (value_found (codes "memory") refl items at_command) (value_found (codes "workers") refl items at_command) (value_found (codes "schedule") refl items at_command)
