-- What stands in the rows that the uses of items give.
use Rattle.std.proofs.Common.{◌≡◌, ◌∙◌, ◌<◌, ◌+◌, ◌||◌, Bool, cond, true, false, not, refl, sym, ap, arith, true≢false, List, [], ◌∷◌, ◌++◌, map, Option, Some, None, is_some, nat_eq, codes}
use Rattle.std.specs.Prelude.{find, option_and_then, slice_get}
use Rattle.std.specs.Str.{bytes_eq}
use Rattle.clap.specs.Takes.{is_given}
use Rattle.clap.specs.Walk.{Row, Text, first_of}
use Rattle.al_words.specs.Words.{AreOnce, Item, given, is_option, value_of, word, words_of}
use Rattle.al_words.specs.Usage.{listed, words_in}
use Rattle.al_words.proofs.Shapes.{not_true, of_option, same, same_test}
use Rattle.al_words.proofs.Uses.{NoneTwice, Use, has, or_false, row, rows}
use Rattle.al_words.proofs.Walks.{IsOpen, Place, at_command, at_first, at_second, at_third, id_at, next, number, past}
use Rattle.al_words.proofs.Taking.{AreRead, HasRoom, by_itself, behind_end, by_equals, by_space, no_words, uses}

-- the options of the items are options of the command line
abbrev pub Named : List Item → Type 0
Named [] = Unit {0}
Named (word text ∷ items) = Named items
Named (given name value ∷ items) = (is_option name ≡ true) × Named items

named_words : (words : List Text) → Named (map word words)
named_words [] = tt
named_words (x ∷ xs) = named_words xs

pub named : {words : List Text} {items : List Item} → AreRead words items → Named items
named no_words = tt
named (behind_end {words = words}) = named_words words
named (by_itself positional read) = named read
named (by_equals option read) = (option, named read)
named (by_space option positional read) = (option, named read)

-- ---- options are no positional words

no_place : (p : Place) (name : Text) → is_option name ≡ true → bytes_eq name (id_at p) ≡ false
no_place at_command name e = not_true _ (of_option (λ n. not (bytes_eq n (id_at at_command))) refl name e)
no_place at_first name e = not_true _ (of_option (λ n. not (bytes_eq n (id_at at_first))) refl name e)
no_place at_second name e = not_true _ (of_option (λ n. not (bytes_eq n (id_at at_second))) refl name e)
no_place at_third name e = not_true _ (of_option (λ n. not (bytes_eq n (id_at at_third))) refl name e)
no_place past name e = not_true _ (of_option (λ n. not (bytes_eq n (id_at past))) refl name e)

pub no_name : (p : Place) (name : Text) → is_option name ≡ true → bytes_eq (id_at p) name ≡ false
no_name at_command name e = not_true _ (of_option (λ n. not (bytes_eq (id_at at_command) n)) refl name e)
no_name at_first name e = not_true _ (of_option (λ n. not (bytes_eq (id_at at_first) n)) refl name e)
no_name at_second name e = not_true _ (of_option (λ n. not (bytes_eq (id_at at_second) n)) refl name e)
no_name at_third name e = not_true _ (of_option (λ n. not (bytes_eq (id_at at_third) n)) refl name e)
no_name past name e = not_true _ (of_option (λ n. not (bytes_eq (id_at past) n)) refl name e)

same_place : (p q : Place) → bytes_eq (id_at p) (id_at q) ≡ nat_eq (number p) (number q)
same_place at_command at_command = refl
same_place at_command _ = refl
same_place at_first at_first = refl
same_place at_first _ = refl
same_place at_second at_second = refl
same_place at_second _ = refl
same_place at_third at_third = refl
same_place at_third _ = refl
same_place past past = refl
same_place past _ = refl

climbs : (p : Place) → IsOpen p → number p + 1 ≡ number (next p)
climbs at_command o = refl
climbs at_first o = refl
climbs at_second o = refl
climbs at_third o = refl
climbs past o = absurd o

-- ---- the value of an option

first_skips : (u : Use) (id : Text) (rs : List Row) → bytes_eq u.0 id ≡ false → first_of id (row u ∷ rs) ≡ first_of id rs
first_skips u id rs e = rw e refl

pub value_found : (name : Text) → is_option name ≡ true → (items : List Item) (p : Place) → first_of name (rows (uses p items)) ≡ value_of name items
value_found name option [] p = refl
value_found name option (word text ∷ items) p =
    first_skips (id_at p, text) name (rows (uses (next p) items)) (no_name p name option) ∙ value_found name option items (next p)
value_found name option (given other value ∷ items) p = go (bytes_eq other name) (value_found name option items p)
  where
    go : (b : Bool) → first_of name (rows (uses p items)) ≡ value_of name items
        → option_and_then (λ (r : Row). slice_get r.values 0) (cond b (Some (row (other, value))) (find (λ r. bytes_eq r.id name) (rows (uses p items))))
        ≡ cond b (Some value) (value_of name items)
    go true e = refl
    go false e = e

-- ---- the positional words

abbrev from_place : Place → List Row → List Text
from_place at_command rs = words_in rs
from_place at_first rs = listed (first_of (codes "first") rs) ++ (listed (first_of (codes "second") rs) ++ listed (first_of (codes "third") rs))
from_place at_second rs = listed (first_of (codes "second") rs) ++ listed (first_of (codes "third") rs)
from_place at_third rs = listed (first_of (codes "third") rs)
from_place past rs = []

place_skips : (p : Place) (u : Use) (rs : List Row) → is_option u.0 ≡ true → from_place p (row u ∷ rs) ≡ from_place p rs
place_skips at_command u rs e = rw (no_place at_command u.0 e, no_place at_first u.0 e, no_place at_second u.0 e, no_place at_third u.0 e) refl
place_skips at_first u rs e = rw (no_place at_first u.0 e, no_place at_second u.0 e, no_place at_third u.0 e) refl
place_skips at_second u rs e = rw (no_place at_second u.0 e, no_place at_third u.0 e) refl
place_skips at_third u rs e = rw (no_place at_third u.0 e) refl
place_skips past u rs e = refl

pub words_found : (items : List Item) (p : Place) → Named items → HasRoom p items → from_place p (rows (uses p items)) ≡ words_of items
words_found [] at_command all room = refl
words_found [] at_first all room = refl
words_found [] at_second all room = refl
words_found [] at_third all room = refl
words_found [] past all room = refl
words_found (word text ∷ items) at_command all room = ap (λ ws. text ∷ ws) (words_found items at_first all room.1)
words_found (word text ∷ items) at_first all room = ap (λ ws. text ∷ ws) (words_found items at_second all room.1)
words_found (word text ∷ items) at_second all room = ap (λ ws. text ∷ ws) (words_found items at_third all room.1)
words_found (word text ∷ items) at_third all room = ap (λ ws. text ∷ ws) (words_found items past all room.1)
words_found (word text ∷ items) past all room = absurd room.0
words_found (given name value ∷ items) p all room = place_skips p (name, value) (rows (uses p items)) all.0 ∙ words_found items p all.1 room

-- the command is given where a positional word is
pub command_given : (items : List Item) → Named items → (text : Text) (others : List Text) → words_of items ≡ text ∷ others
    → is_given (codes "command") (rows (uses at_command items)) ≡ true
command_given [] all text others e = absurd (nothing text others e)
  where
    nothing : (x : Text) (xs : List Text) → [] ≡ x ∷ xs → ⊥
    nothing x xs f = cc
command_given (word first ∷ items) all text others e = refl
command_given (given name value ∷ items) all text others e = rw (no_place at_command name all.0) (command_given items all.1 text others e)

-- ---- once

has_value : (name : Text) → is_option name ≡ true → (items : List Item) (p : Place) → has name (uses p items) ≡ is_some (value_of name items)
has_value name option [] p = refl
has_value name option (word text ∷ items) p = rw (no_name p name option) (has_value name option items (next p))
has_value name option (given other value ∷ items) p = go (bytes_eq other name) (has_value name option items p)
  where
    go : (b : Bool) → has name (uses p items) ≡ is_some (value_of name items) → (b || has name (uses p items)) ≡ is_some (cond b (Some value) (value_of name items))
    go true e = refl
    go false e = e

has_join : (id : Text) (us vs : List Use) → has id (us ++ vs) ≡ (has id us || has id vs)
has_join id [] vs = refl
has_join id (u ∷ us) vs = go (bytes_eq u.0 id) (has_join id us vs)
  where
    go : (b : Bool) → has id (us ++ vs) ≡ (has id us || has id vs) → (b || has id (us ++ vs)) ≡ ((b || has id us) || has id vs)
    go true e = refl
    go false e = e

or_left : (a b : Bool) → a ≡ true → (a || b) ≡ true
or_left true b e = refl
or_left false b e = absurd (true≢false (sym e))

or_right : (a b : Bool) → b ≡ true → (a || b) ≡ true
or_right true b e = refl
or_right false b e = e

both_false : (a b : Bool) → a ≡ false → b ≡ false → (a || b) ≡ false
both_false false b e f = f
both_false true b e f = absurd (true≢false e)

-- what was used before is not used again
absent : (id : Text) (us seen : List Use) → NoneTwice seen us → has id seen ≡ true → has id us ≡ false
absent id [] seen once e = refl
absent id (u ∷ us) seen once e = both_false (bytes_eq u.0 id) (has id us) (go (bytes_eq u.0 id) refl) (absent id us (seen ++ u ∷ []) once.1 more)
  where
    go : (b : Bool) → bytes_eq u.0 id ≡ b → bytes_eq u.0 id ≡ false
    go false is = is
    go true is = absurd (true≢false (sym e ∙ (ap (λ i. has i seen) (sym (same u.0 id is)) ∙ once.0)))

    more : has id (seen ++ u ∷ []) ≡ true
    more = has_join id seen (u ∷ []) ∙ or_left (has id seen) (has id (u ∷ [])) e

not_some : (o : Option Text) → is_some o ≡ false → o ≡ None
not_some None e = refl
not_some (Some x) e = absurd (true≢false e)

pub once_of : (items : List Item) (seen : List Use) (p : Place) → Named items → NoneTwice seen (uses p items) → AreOnce items
once_of [] seen p all once = tt
once_of (word text ∷ items) seen p all once = once_of items (seen ++ (id_at p, text) ∷ []) (next p) all once.1
once_of (given name value ∷ items) seen p all once =
    let u : Use = (name, value) in
    let here : has name (u ∷ []) ≡ true = or_left (bytes_eq name name) false (same_test name name refl) in
    let used : has name (seen ++ u ∷ []) ≡ true = has_join name seen (u ∷ []) ∙ or_right (has name seen) (has name (u ∷ [])) here in (
      not_some (value_of name items) (sym (has_value name all.0 items p) ∙ absent name (uses p items) (seen ++ u ∷ []) once.1 used),
      once_of items (seen ++ u ∷ []) p all.1 once.1,
    )

-- no use before is one of these, and none of these comes twice
abbrev AreNew : List Use → List Use → Type 0
AreNew seen [] = Unit {0}
AreNew seen (u ∷ us) = (has u.0 seen ≡ false) × AreNew seen us

abbrev AreDistinct : List Use → Type 0
AreDistinct [] = Unit {0}
AreDistinct (u ∷ us) = (has u.0 us ≡ false) × AreDistinct us

eq_turned : (xs ys : Text) → bytes_eq xs ys ≡ false → bytes_eq ys xs ≡ false
eq_turned xs ys e = go (bytes_eq ys xs) refl
  where
    go : (b : Bool) → bytes_eq ys xs ≡ b → bytes_eq ys xs ≡ false
    go false is = is
    go true is = absurd (true≢false (sym (same_test xs ys (sym (same ys xs is))) ∙ e))

new_more : (u : Use) (us seen : List Use) → AreNew seen us → has u.0 us ≡ false → AreNew (seen ++ u ∷ []) us
new_more u [] seen new e = tt
new_more u (v ∷ us) seen new e =
    let parts = or_false (bytes_eq v.0 u.0) (has u.0 us) e in
    let other : has v.0 (u ∷ []) ≡ false = both_false (bytes_eq u.0 v.0) false (eq_turned v.0 u.0 parts.0) refl in
    (has_join v.0 seen (u ∷ []) ∙ both_false (has v.0 seen) (has v.0 (u ∷ [])) new.0 other, new_more u us seen new.1 parts.1)

none_twice : (us seen : List Use) → AreDistinct us → AreNew seen us → NoneTwice seen us
none_twice [] seen apart new = tt
none_twice (u ∷ us) seen apart new = (new.0, none_twice us (seen ++ u ∷ []) apart.1 (new_more u us seen new.1 apart.0))

later : (q : Place) (items : List Item) (p : Place) → number q < number p → Named items → HasRoom p items → has (id_at q) (uses p items) ≡ false
later q [] p lt all room = refl
later q (word text ∷ items) p lt all room =
    let climb = climbs p room.0 in
    let apart : nat_eq (number p) (number q) ≡ false = grind arith in
    both_false (bytes_eq (id_at p) (id_at q)) _ (same_place p q ∙ apart) (later q items (next p) (omega arith) all room.1)
later q (given name value ∷ items) p lt all room =
    both_false (bytes_eq name (id_at q)) _ (no_place q name all.0) (later q items p lt all.1 room)

distinct : (items : List Item) (p : Place) → Named items → HasRoom p items → AreOnce items → AreDistinct (uses p items)
distinct [] p all room once = tt
distinct (word text ∷ items) p all room once =
    let climb = climbs p room.0 in
    (later p items (next p) (omega arith) all room.1, distinct items (next p) all room.1 once)
distinct (given name value ∷ items) p all room once =
    (has_value name all.0 items p ∙ ap is_some once.0, distinct items p all.1 room once.1)

all_new : (us : List Use) → AreNew [] us
all_new [] = tt
all_new (u ∷ us) = (refl, all_new us)

pub twice_of : (items : List Item) (p : Place) → Named items → HasRoom p items → AreOnce items → NoneTwice [] (uses p items)
twice_of items p all room once = none_twice (uses p items) [] (distinct items p all room once) (all_new (uses p items))
