-- `clap` takes the words exactly where they are items; what it finds are their uses.
use Rattle.std.proofs.Common.{◌≡◌, ◌⊎◌, ◌∙◌, ℕ, Bool, true, false, refl, sym, subst, ap, ap₂, true≢false, List, [], ◌∷◌, ◌++◌, map, Option, Some, None, arith, inl, inr, append-nil, append_assoc, codes}
use Rattle.std.specs.Prelude.{IsUtf8, fold}
use Rattle.std.proofs.lemmas.Str.{IsCharBoundary-after_ascii, IsUtf8-drop, encodes-chars}
use Rattle.std.proofs.Math.Utf8.{encodes}
use Rattle.std.specs.Str.{chars}
use Rattle.clap.specs.Kinds.{Kinds, or_else}
use Rattle.clap.specs.Lexer.{name_and_value}
use Rattle.clap.specs.Faults.{settle_fault, turn_fault, walk_fault}
use Rattle.clap.specs.Walk.{Rule, Text, Walk, idle, option, settled, walked}
use Rattle.al_words.specs.Words.{Item, IsPositional, given, is_option, word}
use Rattle.al_words.proofs.Shapes.{IsCut, Kind, cut_at, cut_none, cuts, dashes, end, kind_of_word, long, no_equals, plain, positional_plain, short}
use Rattle.al_words.proofs.Uses.{IsKnown, NoneTwice, Use, conflict, holding, no_conflict, pending, settled_once, settles, settles_well, uses_in}
use Rattle.al_words.proofs.Walks.{IsOpen, IsUsage, Place, Turns, at_command, at_first, at_second, at_third, both_nil, end_waiting, id_at, is_required, next, number, past, rule_open, shape, state, trailing_waiting, turn_attached, turn_end, turn_past, turn_short, turn_spaced, turn_trailing, turn_trailing_past, turn_unknown, turn_value, turn_waiting, turn_word}

-- the items as `clap` reads them: the value of an option may be `-`
pub data AreRead : List Text → List Item → Type 0 where
  no_words : AreRead [] []
  behind_end : {words : List Text} → AreRead (dashes ∷ words) (map word words)
  by_itself : {text : Text} {words : List Text} {items : List Item} → IsPositional text → AreRead words items → AreRead (text ∷ words) (word text ∷ items)
  by_equals : {name value : Text} {words : List Text} {items : List Item} → is_option name ≡ true → AreRead words items
      → AreRead ((codes "--" ++ (name ++ (codes "=" ++ value))) ∷ words) (given name value ∷ items)
  by_space : {name value : Text} {words : List Text} {items : List Item} → is_option name ≡ true → IsPositional value → AreRead words items
      → AreRead ((codes "--" ++ name) ∷ value ∷ words) (given name value ∷ items)

-- the uses of the items, from this place on
abbrev pub uses : Place → List Item → List Use
uses p [] = []
uses p (word text ∷ items) = (id_at p, text) ∷ uses (next p) items
uses p (given name value ∷ items) = (name, value) ∷ uses p items

-- no positional word too many
abbrev pub HasRoom : Place → List Item → Type 0
HasRoom p [] = Unit {0}
HasRoom p (word text ∷ items) = IsOpen p × HasRoom (next p) items
HasRoom p (given name value ∷ items) = HasRoom p items

-- ---- lists of uses

pub twice_join : (seen us vs : List Use) → NoneTwice seen us → NoneTwice (seen ++ us) vs → NoneTwice seen (us ++ vs)
twice_join seen [] vs once more = subst (λ s. NoneTwice s vs) (append-nil seen) more
twice_join seen (u ∷ us) vs once more =
    (once.0, twice_join (seen ++ u ∷ []) us vs once.1 (subst (λ s. NoneTwice s vs) (sym (append_assoc seen (u ∷ []) us)) more))

pub twice_split : (seen us vs : List Use) → NoneTwice seen (us ++ vs) → NoneTwice seen us × NoneTwice (seen ++ us) vs
twice_split seen [] vs once = (tt, subst (λ s. NoneTwice s vs) (sym (append-nil seen)) once)
twice_split seen (u ∷ us) vs once =
    let parts = twice_split (seen ++ u ∷ []) us vs once.1 in
    ((once.0, parts.0), subst (λ s. NoneTwice s vs) (append_assoc seen (u ∷ []) us) parts.1)

or_else_assoc : (a b c : Kinds) → or_else (or_else a b) c ≡ or_else a (or_else b c)
or_else_assoc [] b c = refl
or_else_assoc (k ∷ ks) b c = refl

open_or_past : (p : Place) → IsOpen p ⊎ (p ≡ past)
open_or_past at_command = inl tt
open_or_past at_first = inl tt
open_or_past at_second = inl tt
open_or_past at_third = inl tt
open_or_past past = inr refl

nothing : (x : ℕ) (xs : Text) → [] ≡ x ∷ xs → ⊥
nothing x xs e = cc

-- the items that words without faults are
pub record Taken (seen : List Use) (q : Option Use) (p : Place) (words : List Text) : Type 0 where
  pub items : List Item
  pub read : AreRead words items
  pub room : HasRoom p items
  pub once : NoneTwice seen (uses_in q ++ uses p items)

abbrev pub AreTexts : List Text → Type 0
AreTexts [] = Unit {0}
AreTexts (x ∷ xs) = IsUtf8 x × AreTexts xs

-- ---- from a state to the end of the words

module _ (rules : List Rule) (usage : IsUsage rules) where
  abbrev pub ended_at : Walk → List Text → Walk
  ended_at w words = fold (walked rules []) w words

  -- the faults of the words, and of what is pending at their end
  abbrev pub rest_fault : Walk → List Text → Kinds
  rest_fault w words = or_else (walk_fault (shape rules) [] w words) (settle_fault rules false (ended_at w words).held)

  rest_cons : (w : Walk) (x : Text) (xs : List Text) → rest_fault w (x ∷ xs) ≡ or_else (turn_fault (shape rules) [] w x) (rest_fault (walked rules [] w x) xs)
  unfolding walk_fault
  rest_cons w x xs = or_else_assoc (turn_fault (shape rules) [] w x) (walk_fault (shape rules) [] (walked rules [] w x) xs) _

  -- the first word of words without faults
  after_turn : (w : Walk) (x : Text) (xs : List Text) (faults : Kinds) (after : Walk) → Turns rules w x faults after → rest_fault w (x ∷ xs) ≡ []
      → (faults ≡ []) × (rest_fault after xs ≡ [])
  after_turn w x xs faults after turn e =
      let parts = both_nil _ _ (sym (rest_cons w x xs) ∙ e) in
      let quiet = sym turn.fault ∙ parts.0 in
      (quiet, subst (λ v. rest_fault v xs ≡ []) (turn.goes quiet) parts.1)

  first_turn : (w : Walk) (x : Text) (xs : List Text) → rest_fault w (x ∷ xs) ≡ [] → turn_fault (shape rules) [] w x ≡ []
  first_turn w x xs e = (both_nil _ _ (sym (rest_cons w x xs) ∙ e)).0

  -- ---- what is taken are items

  known_word : (p : Place) → IsOpen p → (text : Text) → IsKnown rules (Some (id_at p, text))
  known_word p o text = (None, Some (number p), is_required p, usage.place_id p ∙ rule_open p o)

  known_option : (name value : Text) → is_option name ≡ true → IsKnown rules (Some (name, value))
  known_option name value named = (Some name, None, false, usage.by_id name named)

  -- the uses of what is pending and of what is to come
  word_more : (seen : List Use) (q : Option Use) (u : Use) (us : List Use) → NoneTwice seen (uses_in q) → NoneTwice (seen ++ uses_in q) (u ∷ us)
      → NoneTwice seen (uses_in q ++ u ∷ us)
  word_more seen q u us once more = twice_join seen (uses_in q) (u ∷ us) once more

  trailing : (words : List Text) (seen : List Use) (q : Option Use) (p : Place) → IsKnown rules q
      → rest_fault (state (holding seen (pending q)) idle p true) words ≡ []
      → HasRoom p (map word words) × NoneTwice seen (uses_in q ++ uses p (map word words))
  unfolding walk_fault
  trailing [] seen q p known e = (tt, subst (NoneTwice seen) (sym (append-nil (uses_in q))) (settled_once rules seen q known e))
  trailing (x ∷ xs) seen q p known e = go (open_or_past p) (trailing xs)
    where
      Rest : Type 0
      Rest = (seen : List Use) (q : Option Use) (p : Place) → IsKnown rules q → rest_fault (state (holding seen (pending q)) idle p true) xs ≡ []
          → HasRoom p (map word xs) × NoneTwice seen (uses_in q ++ uses p (map word xs))

      go : IsOpen p ⊎ (p ≡ past) → Rest → HasRoom p (map word (x ∷ xs)) × NoneTwice seen (uses_in q ++ uses p (map word (x ∷ xs)))
      go (inr is) more =
          let turn = first_turn (state (holding seen (pending q)) idle p true) x xs e in
          absurd (turn_trailing_past rules usage x (holding seen (pending q)) idle (subst (λ r. turn_fault (shape rules) [] (state (holding seen (pending q)) idle r true) x ≡ []) is turn))
      go (inl o) more =
          let turned = after_turn (state (holding seen (pending q)) idle p true) x xs _ _ (turn_trailing rules usage p o x seen q known) e in
          let rest = more (seen ++ uses_in q) (Some (id_at p, x)) (next p) (known_word p o x) turned.1 in
          ((o, rest.0), word_more seen q (id_at p, x) (uses (next p) (map word xs)) (settled_once rules seen q known turned.0) rest.1)

  abbrev Takes : List Text → Type 0
  Takes words = (seen : List Use) (q : Option Use) (p : Place) → IsKnown rules q
      → rest_fault (state (holding seen (pending q)) idle p false) words ≡ [] → Taken seen q p words

  -- the words after the name of an option: its value, and words that are taken
  record TakenValue (seen : List Use) (name : Text) (p : Place) (words : List Text) : Type 0 where
    pub value : Text
    pub others : List Text
    pub split : words ≡ value ∷ others
    pub positional : IsPositional value
    pub taken : Taken seen (Some (name, value)) p others

  abbrev TakesValue : List Text → Type 0
  TakesValue words = (seen : List Use) (name : Text) (p : Place) → is_option name ≡ true
      → rest_fault (state (holding seen (Some (name, []))) (option name) p false) words ≡ [] → TakenValue seen name p words

  some_chars : (x : ℕ) (xs : Text) → IsUtf8 (45 ∷ x ∷ xs) → (y : ℕ) × (ys : List ℕ) × (chars (x ∷ xs) ≡ y ∷ ys)
  some_chars x xs u =
      let word = 45 ∷ x ∷ xs in
      let v : IsUtf8 (x ∷ xs) = IsUtf8-drop word 1 u (IsCharBoundary-after_ascii word 0 u (omega arith) (omega arith)) in
      go (chars (x ∷ xs)) refl (encodes-chars (x ∷ xs) v)
    where
      go : (cs : List ℕ) → chars (x ∷ xs) ≡ cs → encodes (chars (x ∷ xs)) ≡ x ∷ xs → (y : ℕ) × (ys : List ℕ) × (chars (x ∷ xs) ≡ y ∷ ys)
      go [] is back = absurd (nothing x xs (sym (ap encodes is) ∙ back))
      go (y ∷ ys) is back = (y, ys, is)

  no_value : TakesValue []
  unfolding walk_fault
  no_value seen name p named e = absurd (end_waiting rules usage name seen named e)

  takes_value : (v : Text) (words : List Text) → IsUtf8 v → Takes words → TakesValue (v ∷ words)
  unfolding walk_fault
  takes_value v words u more seen name p named e = go (kind_of_word v)
    where
      w : Walk
      w = state (holding seen (Some (name, []))) (option name) p false

      turn : turn_fault (shape rules) [] w v ≡ []
      turn = first_turn w v words e

      ended_here : (ws : List Text) → rest_fault (state (holding seen (Some (name, []))) (option name) p true) ws ≡ [] → ⊥
      ended_here [] f = end_waiting rules usage name seen named f
      ended_here (y ∷ ys) f = trailing_waiting rules usage p y name seen named (first_turn (state (holding seen (Some (name, []))) (option name) p true) y ys f)

      long_value : (x : ℕ) (xs : Text) → v ≡ 45 ∷ 45 ∷ x ∷ xs → (b : Bool) → is_option (name_and_value (x ∷ xs)).0 ≡ b → ⊥
      long_value x xs is true other =
          turn_waiting rules usage p x xs name (name_and_value (x ∷ xs)).0 (name_and_value (x ∷ xs)).1 seen named refl other
          (subst (λ y. turn_fault (shape rules) [] w y ≡ []) is turn)
      long_value x xs is false other = turn_unknown rules usage (holding seen (Some (name, []))) (option name) p x xs other
          (subst (λ y. turn_fault (shape rules) [] w y ≡ []) is turn)

      go : Kind v → TakenValue seen name p (v ∷ words)
      go (end is) =
          let after = after_turn w dashes words _ _ (turn_end rules usage p (holding seen (Some (name, []))) (option name)) (subst (λ y. rest_fault w (y ∷ words) ≡ []) is e) in
          absurd (ended_here words after.1)
      go (plain positional) =
          let after = after_turn w v words _ _ (turn_value rules usage p v name seen (positional_plain v positional) named) e in
          record { value = v; others = words; split = refl; positional = positional; taken = more seen (Some (name, v)) p (known_option name v named) after.1 }
      go (long x xs is) = absurd (long_value x xs is (is_option (name_and_value (x ∷ xs)).0) refl)
      go (short x xs is other) =
          let some = some_chars x xs (subst IsUtf8 is u) in
          absurd (turn_short rules usage seen (Some (name, [])) (option name) p x xs other some.0 some.1 some.2 (subst (λ y. turn_fault (shape rules) [] w y ≡ []) is turn))

  takes_word : (x : Text) (words : List Text) → IsUtf8 x → Takes words → TakesValue words → Takes (x ∷ words)
  takes_word x words u more value seen q p known e = go (kind_of_word x)
    where
      w : Walk
      w = state (holding seen (pending q)) idle p false

      turn : turn_fault (shape rules) [] w x ≡ []
      turn = first_turn w x words e

      placed : IsPositional x → IsOpen p ⊎ (p ≡ past) → Taken seen q p (x ∷ words)
      placed positional (inr is) =
          absurd (turn_past rules usage x (holding seen (pending q)) (positional_plain x positional) (subst (λ r. turn_fault (shape rules) [] (state (holding seen (pending q)) idle r false) x ≡ []) is turn))
      placed positional (inl o) =
          let after = after_turn w x words _ _ (turn_word rules usage p o x seen q known (positional_plain x positional)) e in
          let rest = more (seen ++ uses_in q) (Some (id_at p, x)) (next p) (known_word p o x) after.1 in
          record {
            items = word x ∷ rest.items;
            read = by_itself positional rest.read;
            room = (o, rest.room);
            once = word_more seen q (id_at p, x) (uses (next p) rest.items) (settled_once rules seen q known after.0) rest.once;
          }

      named_word : (y : ℕ) (ys : Text) → x ≡ 45 ∷ 45 ∷ y ∷ ys → (b : Bool) → is_option (name_and_value (y ∷ ys)).0 ≡ b → Taken seen q p (x ∷ words)
      named_word y ys is false strange =
          absurd (turn_unknown rules usage (holding seen (pending q)) idle p y ys strange (subst (λ z. turn_fault (shape rules) [] w z ≡ []) is turn))
      named_word y ys is true named = cut (cuts (y ∷ ys))
        where
          name : Text
          name = (name_and_value (y ∷ ys)).0

          found : Option Text
          found = (name_and_value (y ∷ ys)).1

          rest_here : rest_fault w ((45 ∷ 45 ∷ y ∷ ys) ∷ words) ≡ []
          rest_here = subst (λ z. rest_fault w (z ∷ words) ≡ []) is e

          cut : IsCut (y ∷ ys) (name_and_value (y ∷ ys)) → Taken seen q p (x ∷ words)
          cut (inl whole) =
              let after = after_turn w (45 ∷ 45 ∷ y ∷ ys) words _ _ (turn_spaced rules usage p y ys name seen q known (ap (λ (o : Option Text). (name, o)) whole.0) named) rest_here in
              let rest = value (seen ++ uses_in q) name p named after.1 in
              let spelled : x ≡ codes "--" ++ name = is ∙ ap (λ z. 45 ∷ 45 ∷ z) (sym whole.1) in
              record {
                items = given name rest.value ∷ rest.taken.items;
                read = subst (λ z. AreRead (z ∷ words) (given name rest.value ∷ rest.taken.items)) (sym spelled)
                    (subst (λ ws. AreRead ((codes "--" ++ name) ∷ ws) (given name rest.value ∷ rest.taken.items)) (sym rest.split) (by_space named rest.positional rest.taken.read));
                room = rest.taken.room;
                once = word_more seen q (name, rest.value) (uses p rest.taken.items) (settled_once rules seen q known after.0) rest.taken.once;
              }
          cut (inr (v, is_some, split)) =
              let after = after_turn w (45 ∷ 45 ∷ y ∷ ys) words _ _ (turn_attached rules usage p y ys name v seen q known (ap (λ (o : Option Text). (name, o)) is_some) named) rest_here in
              let quiet = both_nil _ _ after.0 in
              let rest = more ((seen ++ uses_in q) ++ (name, v) ∷ []) None p tt after.1 in
              let spelled : x ≡ codes "--" ++ (name ++ (codes "=" ++ v)) = is ∙ ap (λ z. 45 ∷ 45 ∷ z) split in
              record {
                items = given name v ∷ rest.items;
                read = subst (λ z. AreRead (z ∷ words) (given name v ∷ rest.items)) (sym spelled) (by_equals named rest.read);
                room = rest.room;
                once = word_more seen q (name, v) (uses p rest.items) (settled_once rules seen q known quiet.0) (no_conflict _ quiet.1, rest.once);
              }

      go : Kind x → Taken seen q p (x ∷ words)
      go (end is) =
          let after = after_turn w dashes words _ _ (turn_end rules usage p (holding seen (pending q)) idle) (subst (λ y. rest_fault w (y ∷ words) ≡ []) is e) in
          let rest = trailing words seen q p known after.1 in
          record { items = map word words; read = subst (λ y. AreRead (y ∷ words) (map word words)) (sym is) behind_end; room = rest.0; once = rest.1 }
      go (plain positional) = placed positional (open_or_past p)
      go (long y ys is) = named_word y ys is (is_option (name_and_value (y ∷ ys)).0) refl
      go (short y ys is other) =
          let some = some_chars y ys (subst IsUtf8 is u) in
          absurd (turn_short rules usage seen (pending q) idle p y ys other some.0 some.1 some.2 (subst (λ z. turn_fault (shape rules) [] w z ≡ []) is turn))

  takes_none : Takes []
  unfolding walk_fault
  takes_none seen q p known e = record {
    items = [];
    read = no_words;
    room = tt;
    once = subst (NoneTwice seen) (sym (append-nil (uses_in q))) (settled_once rules seen q known e);
  }

  pub takes : (words : List Text) → AreTexts words → Takes words
  takes [] u = takes_none
  takes (x ∷ []) u = takes_word x [] u.0 takes_none no_value
  takes (x ∷ v ∷ words) u = takes_word x (v ∷ words) u.0 (takes (v ∷ words) u.1) (takes_value v words u.1.0 (takes words u.1.1))

  -- ---- items are taken, with their uses

  -- the words pass, and at their end these are the uses
  pub record Passes (w : Walk) (words : List Text) (us : List Use) : Type 0 where
    pub quiet : rest_fault w words ≡ []
    pub found : settled rules (ended_at w words).held ≡ holding us None
    pub on : (ended_at w words).stopped ≡ None

  passes_cons : (w : Walk) (x : Text) (xs : List Text) (faults : Kinds) (after : Walk) (us : List Use) → Turns rules w x faults after → faults ≡ []
      → Passes after xs us → Passes w (x ∷ xs) us
  passes_cons w x xs faults after us turn free rest =
      let same = sym (turn.goes free) in
      let moved = subst (λ v. Passes v xs us) same rest in
      record {
        quiet = rest_cons w x xs ∙ (ap (λ (k : Kinds). or_else k (rest_fault (walked rules [] w x) xs)) (turn.fault ∙ free) ∙ moved.quiet);
        found = moved.found;
        on = moved.on;
      }

  passes_none : (seen : List Use) (q : Option Use) (p : Place) (t : Bool) → IsKnown rules q → NoneTwice seen (uses_in q ++ [])
      → Passes (state (holding seen (pending q)) idle p t) [] (seen ++ (uses_in q ++ []))
  unfolding walk_fault
  passes_none seen q p t known once =
      let here : NoneTwice seen (uses_in q) = subst (NoneTwice seen) (append-nil (uses_in q)) once in
      record {
        quiet = settles_well rules seen q known here;
        found = subst (λ us. settled rules (holding seen (pending q)) ≡ holding (seen ++ us) None) (sym (append-nil (uses_in q))) (settles rules seen q known here);
        on = refl;
      }

  -- the uses, when one more is pending
  moved_on : (w : Walk) (words : List Text) (seen : List Use) (q : Option Use) (u : Use) (us : List Use) → Passes w words ((seen ++ uses_in q) ++ (u ∷ us))
      → Passes w words (seen ++ (uses_in q ++ u ∷ us))
  moved_on w words seen q u us h = subst (Passes w words) (append_assoc seen (uses_in q) (u ∷ us)) h

  pass_trailing : (words : List Text) (seen : List Use) (q : Option Use) (p : Place) → IsKnown rules q → HasRoom p (map word words)
      → NoneTwice seen (uses_in q ++ uses p (map word words))
      → Passes (state (holding seen (pending q)) idle p true) words (seen ++ (uses_in q ++ uses p (map word words)))
  pass_trailing [] seen q p known room once = passes_none seen q p true known once
  pass_trailing (x ∷ xs) seen q p known room once =
      let us = uses (next p) (map word xs) in
      let parts = twice_split seen (uses_in q) ((id_at p, x) ∷ us) once in
      let rest = pass_trailing xs (seen ++ uses_in q) (Some (id_at p, x)) (next p) (known_word p room.0 x) room.1 parts.1 in
      moved_on _ _ seen q (id_at p, x) us
      (passes_cons _ x xs _ _ _ (turn_trailing rules usage p room.0 x seen q known) (settles_well rules seen q known parts.0) rest)

  abbrev pub Rest : List Text → List Item → Type 0
  Rest words items = (seen : List Use) (q : Option Use) (p : Place) → IsKnown rules q → HasRoom p items → NoneTwice seen (uses_in q ++ uses p items)
      → Passes (state (holding seen (pending q)) idle p false) words (seen ++ (uses_in q ++ uses p items))

  pass_alone : (x : Text) (xs : List Text) (items : List Item) → IsPositional x → Rest xs items → Rest (x ∷ xs) (word x ∷ items)
  pass_alone x xs items positional more seen q p known room once =
      let us = uses (next p) items in
      let parts = twice_split seen (uses_in q) ((id_at p, x) ∷ us) once in
      let rest = more (seen ++ uses_in q) (Some (id_at p, x)) (next p) (known_word p room.0 x) room.1 parts.1 in
      moved_on _ _ seen q (id_at p, x) us
      (passes_cons _ x xs _ _ _ (turn_word rules usage p room.0 x seen q known (positional_plain x positional)) (settles_well rules seen q known parts.0) rest)

  pass_equals : (name v : Text) (xs : List Text) (items : List Item) → is_option name ≡ true → Rest xs items
      → Rest ((codes "--" ++ (name ++ (codes "=" ++ v))) ∷ xs) (given name v ∷ items)
  pass_equals [] v xs items named more seen q p known room once = absurd (true≢false (sym named))
  pass_equals (y ∷ ys) v xs items named more seen q p known room once =
      let name = y ∷ ys in
      let us = uses p items in
      let all = seen ++ uses_in q in
      let parts = twice_split seen (uses_in q) ((name, v) ∷ us) once in
      let rest = more (all ++ (name, v) ∷ []) None p tt room parts.1.1 in
      let turn = turn_attached rules usage p y (ys ++ (codes "=" ++ v)) name v seen q known (cut_at name v (no_equals name named)) named in
      let quiet = ap₂ (λ (a : Kinds) (b : Bool). or_else a (conflict b)) (settles_well rules seen q known parts.0) parts.1.0 in
      moved_on _ _ seen q (name, v) us
      (subst (Passes _ _) (append_assoc all ((name, v) ∷ []) us) (passes_cons _ (45 ∷ 45 ∷ y ∷ (ys ++ (codes "=" ++ v))) xs _ _ _ turn quiet rest))

  pass_space : (name v : Text) (xs : List Text) (items : List Item) → is_option name ≡ true → IsPositional v → Rest xs items
      → Rest ((codes "--" ++ name) ∷ v ∷ xs) (given name v ∷ items)
  pass_space [] v xs items named positional more seen q p known room once = absurd (true≢false (sym named))
  pass_space (y ∷ ys) v xs items named positional more seen q p known room once =
      let name = y ∷ ys in
      let us = uses p items in
      let all = seen ++ uses_in q in
      let parts = twice_split seen (uses_in q) ((name, v) ∷ us) once in
      let rest = more all (Some (name, v)) p (known_option name v named) room parts.1 in
      let turn = turn_spaced rules usage p y ys name seen q known (cut_none name (no_equals name named)) named in
      let value = passes_cons _ v xs _ _ _ (turn_value rules usage p v name all (positional_plain v positional) named) refl rest in
      moved_on _ _ seen q (name, v) us (passes_cons _ (45 ∷ 45 ∷ y ∷ ys) (v ∷ xs) _ _ _ turn (settles_well rules seen q known parts.0) value)

  pub pass : {words : List Text} {items : List Item} → AreRead words items → Rest words items
  pass no_words = λ seen q p known room once. passes_none seen q p false known once
  pass (behind_end {words = words}) = λ seen q p known room once.
      passes_cons _ dashes words _ _ _ (turn_end rules usage p (holding seen (pending q)) idle) refl (pass_trailing words seen q p known room once)
  pass (by_itself {text = x} {words = xs} {items = items} positional read) = pass_alone x xs items positional (pass read)
  pass (by_equals {name = name} {value = v} {words = xs} {items = items} named read) = pass_equals name v xs items named (pass read)
  pass (by_space {name = name} {value = v} {words = xs} {items = items} named positional read) = pass_space name v xs items named positional (pass read)
