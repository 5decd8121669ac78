-- The walk of `clap` over the words of this command line, word by word.
use Rattle.std.proofs.Common.{◌≡◌, ◌∙◌, ◌+◌, ◌==◌, ◌&&◌, ◌||◌, ℕ, suc, Bool, true, false, refl, sym, ap, ap₂, List, [], ◌∷◌, ◌++◌, length, drop, min, Option, Some, None, if◌then◌else◌, codes}
use Rattle.std.specs.Prelude.{encode_utf8, slice_get}
use Rattle.std.specs.Option.{option_map_or}
use Rattle.std.specs.Str.{chars}
use Rattle.clap.specs.Kinds.{Kinds, or_else}
use Rattle.clap.specs.Lexer.{name_and_value, short_of, usize_max}
use Rattle.clap.specs.declared.error.kind.ErrorKind.{ErrorKind}
use Rattle.clap.specs.declared.error.kind.ErrorKind.TheVariants as kind
use Rattle.clap.specs.Faults.{bundle_fault, bundle_step_fault, flags_fault, short_fault, long_fault, settle_fault, step_fault, turn_fault, use_fault}
use Rattle.clap.specs.Simple.{Shape, new_shape}
use Rattle.clap.specs.Walk.{Held, Row, Rule, Text, Waiting, Walk, after_flag, after_step, arg_by_id, arg_by_index, arg_by_long, arg_by_short, idle, is_pending, long_met, option, positional, pushed, settled, short_or_plain, subcommand_met, to_positional, used, walked}
use Rattle.al_words.specs.Words.{is_option}
use Rattle.al_words.proofs.Shapes.{IsPlainWord, dashes, same_test}
use Rattle.al_words.proofs.Uses.{IsKnown, NoneTwice, Use, conflict, has, holding, no_conflict, one, pending, settled_once, settles, use_faults, used_once, uses_in}

-- ---- places of positional words

pub data Place : Type 0 where
  at_command : Place
  at_first : Place
  at_second : Place
  at_third : Place
  past : Place

abbrev pub number : Place → ℕ
number at_command = 1
number at_first = 2
number at_second = 3
number at_third = 4
number past = 5

abbrev pub next : Place → Place
next at_command = at_first
next at_first = at_second
next at_second = at_third
next at_third = past
next past = past

abbrev pub id_at : Place → Text
id_at at_command = codes "command"
id_at at_first = codes "first"
id_at at_second = codes "second"
id_at at_third = codes "third"
id_at past = []

abbrev pub is_required : Place → Bool
is_required at_command = true
is_required _ = false

abbrev pub word_at : Place → Rule
word_at p = one (id_at p) None (Some (number p)) (is_required p)

abbrev pub rule_at : Place → Option Rule
rule_at past = None
rule_at at_command = Some (word_at at_command)
rule_at at_first = Some (word_at at_first)
rule_at at_second = Some (word_at at_second)
rule_at at_third = Some (word_at at_third)

abbrev pub option_at : Text → Rule
option_at name = one name (Some name) None false

-- the rules of the command line
pub record IsUsage (rules : List Rule) : Type 0 where
  pub by_long : (name : Text) → is_option name ≡ true → arg_by_long rules name ≡ Some (option_at name)
  pub no_long : (name : Text) → is_option name ≡ false → arg_by_long rules name ≡ None
  pub by_id : (name : Text) → is_option name ≡ true → arg_by_id rules name ≡ Some (option_at name)
  pub by_place : (p : Place) → arg_by_index rules (number p) ≡ rule_at p
  pub place_id : (p : Place) → arg_by_id rules (id_at p) ≡ rule_at p
  pub no_short : (x : ℕ) → arg_by_short rules x ≡ None

-- the command line, with these rules
abbrev pub shape : List Rule → Shape
shape rules = record (new_shape (codes "algebricks")) {
  rules = rules;
  no_binary_name = true;
  disable_help_flag = true;
  disable_help_subcommand = true;
  disable_version_flag = true;
  is_built = true;
}

abbrev pub state : Held → Waiting → Place → Bool → Walk
state h waiting p is_trailing = record { held = h; waiting = waiting; position = number p; is_trailing = is_trailing; stopped = None }

abbrev pub IsOpen : Place → Type 0
IsOpen past = ⊥
IsOpen _ = Unit {0}

pub rule_open : (p : Place) → IsOpen p → rule_at p ≡ Some (word_at p)
rule_open at_command o = refl
rule_open at_first o = refl
rule_open at_second o = refl
rule_open at_third o = refl
rule_open past o = absurd o

moves_on : (p : Place) → IsOpen p → min (number p + 1) usize_max ≡ number (next p)
moves_on at_command o = refl
moves_on at_first o = refl
moves_on at_second o = refl
moves_on at_third o = refl
moves_on past o = absurd o

-- ---- small steps

not_chosen : {X : Type 0} (b : Bool) (x y : X) → (if b && false then x else y) ≡ y
not_chosen true x y = refl
not_chosen false x y = refl

or_no : (b : Bool) → (b || false) ≡ b
or_no true = refl
or_no false = refl

or_else_nil : (ks : Kinds) → or_else ks [] ≡ ks
or_else_nil [] = refl
or_else_nil (k ∷ ks) = refl

no_kind : (k : ErrorKind) (ks more : Kinds) → or_else (k ∷ ks) more ≡ [] → ⊥
no_kind k ks more e = cc

no_subcommand : (waiting : Waiting) (word : Text) → subcommand_met [] waiting word ≡ None
no_subcommand idle word = refl
no_subcommand (option id) word = refl
no_subcommand positional word = refl

abbrev walk_at : Held → ℕ → Bool → Walk
walk_at h position is_trailing = record { held = h; waiting = idle; position = position; is_trailing = is_trailing; stopped = None }

or_else_after : (a b c : Kinds) → (a ≡ [] → b ≡ c) → or_else a b ≡ or_else a c
or_else_after [] b c e = e refl
or_else_after (k ∷ ks) b c e = refl

pub both_nil : (a b : Kinds) → or_else a b ≡ [] → (a ≡ []) × (b ≡ [])
both_nil [] b e = (refl, e)
both_nil (k ∷ ks) b e = absurd (no_kind k ks b e)

-- the word passes, and the walk goes on
pub record Turns (rules : List Rule) (w : Walk) (word : Text) (faults : Kinds) (after : Walk) : Type 0 where
  pub fault : turn_fault (shape rules) [] w word ≡ faults
  pub goes : faults ≡ [] → walked rules [] w word ≡ after

module _ (rules : List Rule) (usage : IsUsage rules) where
  by_open : (p : Place) → IsOpen p → arg_by_index rules (number p) ≡ Some (word_at p)
  by_open p o = usage.by_place p ∙ rule_open p o

  -- what is pending, and the argument that comes
  to_place : (p : Place) → IsOpen p → (word : Text) (seen : List Use) (q : Option Use) (t : Bool) → IsKnown rules q → NoneTwice seen (uses_in q)
      → to_positional rules (arg_by_index rules (number p)) word (state (holding seen (pending q)) idle p t) (holding seen (pending q))
      ≡ state (holding (seen ++ uses_in q) (Some (id_at p, word ∷ []))) idle (next p) t
  to_place p o word seen q t known once =
      let h = holding seen (pending q) in
      ap (λ a. to_positional rules a word (state h idle p t) h) (by_open p o)
      ∙ (ap (λ (x : Held). walk_at (pushed (id_at p) word x) (min (number p + 1) usize_max) (t || false)) (not_chosen (is_pending (word_at p) h.pending) h (settled rules h))
      ∙ (ap (λ (x : Held). walk_at (pushed (id_at p) word x) (min (number p + 1) usize_max) (t || false)) (settles rules seen q known once)
      ∙ ap₂ (λ k b. walk_at (holding (seen ++ uses_in q) (Some (id_at p, word ∷ []))) k b) (moves_on p o) (or_no t)))

  -- a positional word before `--`
  pub turn_word : (p : Place) → IsOpen p → (word : Text) (seen : List Use) (q : Option Use) → IsKnown rules q → IsPlainWord word
      → Turns rules (state (holding seen (pending q)) idle p false) word (settle_fault rules false (holding seen (pending q)))
      (state (holding (seen ++ uses_in q) (Some (id_at p, word ∷ []))) idle (next p) false)
  unfolding walked
  turn_word p o word seen q known plain = record {
    fault = rw (plain.no_end, plain.no_long, plain.no_short, by_open p o) (not_chosen (is_pending (word_at p) (pending q)) [] (settle_fault rules false (holding seen (pending q))));
    goes = λ e. rw (plain.no_end, plain.no_long, plain.no_short) (to_place p o word seen q false known (settled_once rules seen q known e));
  }

  -- a word behind `--`
  pub turn_trailing : (p : Place) → IsOpen p → (word : Text) (seen : List Use) (q : Option Use) → IsKnown rules q
      → Turns rules (state (holding seen (pending q)) idle p true) word (settle_fault rules false (holding seen (pending q)))
      (state (holding (seen ++ uses_in q) (Some (id_at p, word ∷ []))) idle (next p) true)
  unfolding walked
  turn_trailing p o word seen q known = record {
    fault = rw (by_open p o) (not_chosen (is_pending (word_at p) (pending q)) [] (settle_fault rules false (holding seen (pending q))));
    goes = λ e. to_place p o word seen q true known (settled_once rules seen q known e);
  }

  -- a word too many
  pub turn_past : (word : Text) (h : Held) → IsPlainWord word → turn_fault (shape rules) [] (state h idle past false) word ≡ [] → ⊥
  turn_past word h plain e =
      let none = usage.by_place past in
      no_kind kind.UnknownArgument [] [] (rw (plain.no_end, plain.no_long, plain.no_short, none) at e)

  pub turn_trailing_past : (word : Text) (h : Held) (waiting : Waiting) → turn_fault (shape rules) [] (state h waiting past true) word ≡ [] → ⊥
  turn_trailing_past word h waiting e =
      let none = usage.by_place past in
      no_kind kind.UnknownArgument [] [] (rw none at e)

  -- `--`
  pub turn_end : (p : Place) (h : Held) (waiting : Waiting) → Turns rules (state h waiting p false) dashes [] (state h waiting p true)
  unfolding walked
  turn_end p h waiting = record { fault = rw (no_subcommand waiting dashes) refl; goes = λ _. rw (no_subcommand waiting dashes) refl }

  -- ---- words that begin with `--`

  -- what the rule of the name makes of the word
  abbrev by_rule : Held → Waiting → Place → Text → Option Text → Option Rule → Kinds
  by_rule h waiting p word v a =
      let met = after_flag rules waiting word (long_met rules a v h).0 (long_met rules a v h).1 in
      or_else (long_fault rules false a v h) (step_fault (shape rules) (number p) met.0 met.1)

  abbrev by_cut : Held → Waiting → Place → Text → Text × Option Text → Kinds
  by_cut h waiting p word c = by_rule h waiting p word c.1 (arg_by_long rules c.0)

  long_turn : (h : Held) (waiting : Waiting) (p : Place) (x : ℕ) (xs : Text)
      → turn_fault (shape rules) [] (state h waiting p false) (45 ∷ 45 ∷ x ∷ xs) ≡ by_cut h waiting p (45 ∷ 45 ∷ x ∷ xs) (name_and_value (x ∷ xs))
  long_turn h idle p x xs = refl
  long_turn h (option id) p x xs = refl
  long_turn h positional p x xs = refl

  long_turn_at : (h : Held) (waiting : Waiting) (p : Place) (x : ℕ) (xs name : Text) (v : Option Text) → name_and_value (x ∷ xs) ≡ (name, v)
      → is_option name ≡ true
      → turn_fault (shape rules) [] (state h waiting p false) (45 ∷ 45 ∷ x ∷ xs) ≡ by_rule h waiting p (45 ∷ 45 ∷ x ∷ xs) v (Some (option_at name))
  long_turn_at h waiting p x xs name v cut named =
      long_turn h waiting p x xs ∙ (ap (by_cut h waiting p (45 ∷ 45 ∷ x ∷ xs)) cut
      ∙ ap (by_rule h waiting p (45 ∷ 45 ∷ x ∷ xs) v) (usage.by_long name named))

  abbrev goes_by : Held → Place → Text → Option Text → Option Rule → Walk
  goes_by h p word v a =
      let met = after_flag rules idle word (long_met rules a v h).0 (long_met rules a v h).1 in
      after_step rules word (state h idle p false) met.0 met.1

  long_goes : (h : Held) (p : Place) (x : ℕ) (xs name : Text) (v : Option Text) → name_and_value (x ∷ xs) ≡ (name, v) → is_option name ≡ true
      → walked rules [] (state h idle p false) (45 ∷ 45 ∷ x ∷ xs) ≡ goes_by h p (45 ∷ 45 ∷ x ∷ xs) v (Some (option_at name))
  unfolding walked
  long_goes h p x xs name v cut named =
      ap (λ (c : Text × Option Text). goes_by h p (45 ∷ 45 ∷ x ∷ xs) c.1 (arg_by_long rules c.0)) cut
      ∙ ap (goes_by h p (45 ∷ 45 ∷ x ∷ xs) v) (usage.by_long name named)

  -- `--name=value`
  pub turn_attached : (p : Place) (x : ℕ) (xs name v : Text) (seen : List Use) (q : Option Use) → IsKnown rules q
      → name_and_value (x ∷ xs) ≡ (name, Some v) → is_option name ≡ true
      → Turns rules (state (holding seen (pending q)) idle p false) (45 ∷ 45 ∷ x ∷ xs)
      (or_else (settle_fault rules false (holding seen (pending q))) (conflict (has name (seen ++ uses_in q))))
      (state (holding ((seen ++ uses_in q) ++ (name, v) ∷ []) None) idle p false)
  turn_attached p x xs name v seen q known cut named =
      let h = holding seen (pending q) in
      let all = seen ++ uses_in q in
      record {
        fault = long_turn_at h idle p x xs name (Some v) cut named
            ∙ (or_else_nil (or_else (settle_fault rules false h) (use_fault false (option_at name) (v ∷ []) (settled rules h).rows))
            ∙ or_else_after _ _ _ (λ e.
            ap (λ (g : Held). use_fault false (option_at name) (v ∷ []) g.rows) (settles rules seen q known (settled_once rules seen q known e))
            ∙ use_faults name (Some name) None false v all));
        goes = λ e.
            let parts = both_nil _ _ e in
            let once = settled_once rules seen q known parts.0 in
            long_goes h p x xs name (Some v) cut named
            ∙ (ap (λ (g : Held). walk_at (record { rows = used (option_at name) (v ∷ []) g.rows; pending = None; skip = 0 }) (number p) false) (settles rules seen q known once)
            ∙ ap (λ (rs : List Row). walk_at (record { rows = rs; pending = None; skip = 0 }) (number p) false)
            (used_once name (Some name) None false v all (no_conflict _ parts.1)));
      }

  -- `--name`
  pub turn_spaced : (p : Place) (x : ℕ) (xs name : Text) (seen : List Use) (q : Option Use) → IsKnown rules q
      → name_and_value (x ∷ xs) ≡ (name, None) → is_option name ≡ true
      → Turns rules (state (holding seen (pending q)) idle p false) (45 ∷ 45 ∷ x ∷ xs)
      (settle_fault rules false (holding seen (pending q)))
      (state (holding (seen ++ uses_in q) (Some (name, []))) (option name) p false)
  turn_spaced p x xs name seen q known cut named =
      let h = holding seen (pending q) in
      record {
        fault = long_turn_at h idle p x xs name None cut named ∙ or_else_nil (settle_fault rules false h);
        goes = λ e.
            long_goes h p x xs name None cut named
            ∙ ap (λ (g : Held). state (record g { pending = Some (name, []) }) (option name) p false)
            (settles rules seen q known (settled_once rules seen q known e));
      }

  -- the value of an option, as a word of its own
  pub turn_value : (p : Place) (word name : Text) (seen : List Use) → IsPlainWord word → is_option name ≡ true
      → Turns rules (state (holding seen (Some (name, []))) (option name) p false) word []
      (state (holding seen (Some (name, word ∷ []))) idle p false)
  unfolding walked
  turn_value p word name seen plain named = record {
    fault = rw (plain.no_end, plain.no_long, plain.no_short) refl;
    goes = λ _. rw (plain.no_end, plain.no_long, plain.no_short, usage.by_id name named, same_test name name refl) refl;
  }

  -- ---- words that are refused

  pub turn_unknown : (h : Held) (waiting : Waiting) (p : Place) (x : ℕ) (xs : Text) → is_option (name_and_value (x ∷ xs)).0 ≡ false
      → turn_fault (shape rules) [] (state h waiting p false) (45 ∷ 45 ∷ x ∷ xs) ≡ [] → ⊥
  turn_unknown h waiting p x xs strange e =
      let word = 45 ∷ 45 ∷ x ∷ xs in
      let v = (name_and_value (x ∷ xs)).1 in
      let met = after_flag rules waiting word (long_met rules None v h).0 (long_met rules None v h).1 in
      no_kind kind.UnknownArgument [] (step_fault (shape rules) (number p) met.0 met.1) (ap (by_rule h waiting p word v) (sym (usage.no_long (name_and_value (x ∷ xs)).0 strange)) ∙ (sym (long_turn h waiting p x xs) ∙ e))

  no_values : (name : Text) (seen : List Use) → is_option name ≡ true → settle_fault rules false (holding seen (Some (name, []))) ≡ kind.InvalidValue ∷ []
  no_values name seen named = rw (usage.by_id name named) refl

  -- an option waits for its value, and another one comes
  pub turn_waiting : (p : Place) (x : ℕ) (xs name other : Text) (v : Option Text) (seen : List Use) → is_option name ≡ true
      → name_and_value (x ∷ xs) ≡ (other, v) → is_option other ≡ true
      → turn_fault (shape rules) [] (state (holding seen (Some (name, []))) (option name) p false) (45 ∷ 45 ∷ x ∷ xs) ≡ [] → ⊥
  turn_waiting p x xs name other None seen named cut is e =
      let h = holding seen (Some (name, [])) in
      let word = 45 ∷ 45 ∷ x ∷ xs in
      no_kind kind.InvalidValue [] [] (ap (λ (k : Kinds). or_else k []) (sym (no_values name seen named)) ∙ (sym (long_turn_at h (option name) p x xs other None cut is) ∙ e))
  turn_waiting p x xs name other (Some v) seen named cut is e =
      let h = holding seen (Some (name, [])) in
      let u = use_fault false (option_at other) (v ∷ []) (settled rules h).rows in
      no_kind kind.InvalidValue [] [] (ap (λ (k : Kinds). or_else (or_else k u) []) (sym (no_values name seen named)) ∙ (sym (long_turn_at h (option name) p x xs other (Some v) cut is) ∙ e))

  -- an option waits for its value, and the words are at an end, or behind `--`
  pub end_waiting : (name : Text) (seen : List Use) → is_option name ≡ true → settle_fault rules false (holding seen (Some (name, []))) ≡ [] → ⊥
  end_waiting name seen named e = no_kind kind.InvalidValue [] [] (sym (no_values name seen named) ∙ e)

  trailing_fault : (p : Place) → IsOpen p → (word : Text) (h : Held) (waiting : Waiting)
      → turn_fault (shape rules) [] (state h waiting p true) word ≡ settle_fault rules false h
  trailing_fault p o word h waiting = rw (by_open p o) (not_chosen (is_pending (word_at p) h.pending) [] (settle_fault rules false h))

  trailing_open : (p : Place) → IsOpen p → (word name : Text) (seen : List Use) → is_option name ≡ true
      → turn_fault (shape rules) [] (state (holding seen (Some (name, []))) (option name) p true) word ≡ [] → ⊥
  trailing_open p o word name seen named e =
      end_waiting name seen named (sym (trailing_fault p o word (holding seen (Some (name, []))) (option name)) ∙ e)

  pub trailing_waiting : (p : Place) (word name : Text) (seen : List Use) → is_option name ≡ true
      → turn_fault (shape rules) [] (state (holding seen (Some (name, []))) (option name) p true) word ≡ [] → ⊥
  trailing_waiting at_command word name seen named e = trailing_open at_command tt word name seen named e
  trailing_waiting at_first word name seen named e = trailing_open at_first tt word name seen named e
  trailing_waiting at_second word name seen named e = trailing_open at_second tt word name seen named e
  trailing_waiting at_third word name seen named e = trailing_open at_third tt word name seen named e
  trailing_waiting past word name seen named e = turn_trailing_past word (holding seen (Some (name, []))) (option name) e

  unknown_flag : (k : ℕ) (flags : Text) (h : Held) (y : ℕ) (ys : List ℕ) → chars flags ≡ y ∷ ys
      → flags_fault rules false (suc k) flags 0 h ≡ kind.UnknownArgument ∷ []
  unfolding flags_fault
  unknown_flag k flags h y ys are =
      let rest = drop (length (encode_utf8 y)) flags in
      ap (λ (cs : List ℕ). bundle_step_fault rules false (slice_get cs 0) flags 0 h (flags_fault rules false k)) are
      ∙ ap (λ (a : Option Rule). short_fault rules false a rest h (flags_fault rules false k rest 0)) (usage.no_short y)

  abbrev by_flags : Held → Waiting → Place → Text → Option Text → Kinds
  by_flags h waiting p word o =
      or_else (option_map_or (λ flags. bundle_fault rules false flags h) o [])
      (step_fault (shape rules) (number p) (short_or_plain rules waiting word o h).0 (short_or_plain rules waiting word o h).1)

  -- `-x`
  pub turn_short : (seen : List Use) (r : Option (Text × List Text)) (waiting : Waiting) (p : Place) (x : ℕ) (xs : Text) → (x == 45) ≡ false
      → (y : ℕ) (ys : List ℕ) → chars (x ∷ xs) ≡ y ∷ ys
      → turn_fault (shape rules) [] (state (holding seen r) waiting p false) (45 ∷ x ∷ xs) ≡ [] → ⊥
  turn_short seen r waiting p x xs other y ys are e =
      let h = holding seen r in
      let is_short : short_of (45 ∷ x ∷ xs) ≡ Some (x ∷ xs) = rw other refl in
      let flag : turn_fault (shape rules) [] (state h waiting p false) (45 ∷ x ∷ xs) ≡ by_flags h waiting p (45 ∷ x ∷ xs) (Some (x ∷ xs)) =
      rw (no_subcommand waiting (45 ∷ x ∷ xs), other) (ap (by_flags h waiting p (45 ∷ x ∷ xs)) is_short) in
      let more = step_fault (shape rules) (number p) (short_or_plain rules waiting (45 ∷ x ∷ xs) (Some (x ∷ xs)) h).0
      (short_or_plain rules waiting (45 ∷ x ∷ xs) (Some (x ∷ xs)) h).1 in
      no_kind kind.UnknownArgument [] more (ap (λ (k : Kinds). or_else k more) (sym (unknown_flag (length xs) (x ∷ xs) h y ys are)) ∙ (sym flag ∙ e))
