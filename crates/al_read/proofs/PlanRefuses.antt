-- Where a text goes wrong: what stands in front of it is the beginning of some file, and no file goes on so.
use Rattle.std.proofs.Common.{◌≡◌, ℕ, zero, suc, ◌<◌, ◌≤◌, Bool, true, false, ◌&&◌, List, [], ◌∷◌, ◌++◌, length, take, drop, Option, Some, None, Result, Err, ℤ, pos, refl, sym, ap, subst, ◌∙◌, inl, inr, append_assoc, codes, arith}
use Rattle.std.specs.Prelude.{nat_lt, slice_index}
use Rattle.std.proofs.lemmas.List.{append-nil, map-append, take-append-drop}
use Rattle.std.proofs.lemmas.Bool.{cases_Bool, false≢true, and_parts, ltb-true}
use Rattle.std.proofs.lemmas.Bool.Decides.{nat_tests}
use Rattle.al_csv.specs.Fields.{number_of}
use Rattle.al_plan.specs.declared.file.PlanFile.{PlanFile}
use Rattle.al_plan.specs.declared.file.Refused.{Refused}
use Rattle.al_plan.specs.declared.file.RefusedKind.{RefusedKind}
use Rattle.al_plan.specs.declared.file.RefusedKind.TheVariants as kind
use Rattle.al_plan.specs.Grammar.{Word, Open, Close, Name, Variable, Number, Text, Mark, Dataset, Operator, Other, Marked, plain, file_words, CanBeWritten}
use Rattle.al_read.specs.declared.token.Placed.{Placed}
use Rattle.al_read.specs.declared.plan.operator.Parts.{Parts}
use Rattle.al_read.specs.declared.plan.ReadRefused.{ReadRefused}
use Rattle.al_read.specs.declared.plan.ReadRefused.TheVariants as refused
use Rattle.al_read.specs.declared.plan.reader.Stopped.{Stopped}
use Rattle.al_read.specs.declared.plan.reader.Stopped.TheVariants as stops
use Rattle.al_read.specs.Reads.{said, words_of, unmarked, IsTooDeep, IsShallow, Begins, CanStand, IsWhole, IsOutOfRange, IsMisplaced, IsCause, IsRefusedAt, places_of, is_operator, operators_in, refusal}
use Rattle.al_read.specs.PlanReading.{State, Outcome, Read, Stops, start, shallow_len, unless_large, whole_of, stopped_with, kind_stopped, refused_with, answer_of, file_of_tokens, file_at}
use Rattle.al_read.proofs.PlanForms.{Ready, Taken, AreSound, noted}
use Rattle.al_read.proofs.PlanWhole.{parts_words, PartsFit}
use Rattle.al_read.proofs.PlanText.{told, sound_take, front_shallow, behind_deep}
use Rattle.al_read.proofs.PlanMachine.{Sym, ◌>>-◌, run, run_append, run_on, on_top, on, turn, is_none, refuses, takes_numbers, is_number_word, Stuck}
use Rattle.al_read.proofs.PlanHalts.{file_syms, whole_pace}
use Rattle.al_read.proofs.PlanMarks.{SameMarks, alike, forked, same_marks, none_begun, at_open, one_operator, same_fronts}
use Rattle.al_read.proofs.PlanCompletes.{word_step, word_run, word_run_on, Alike, AlikeSym, none, more, alike_refl, refuses_alike, follows, number_token, all_completed, all_sound, all_complete, no_numbers, one_stands}

-- ---- files and their words

nothing_left : (l : List Sym) → Alike [] l → l ≡ []
nothing_left [] none = refl
nothing_left (z ∷ l) a = elim a [ ]

abbrev somewhere : List Sym → Option (List Sym)
somewhere l = Some l

same_place : (a b : List Sym) → somewhere a ≡ somewhere b → a ≡ b
same_place a b e = cc

-- the words of a file go along with its symbols
file_runs : (f : PlanFile) → CanBeWritten f → word_run file_syms (unmarked (file_words f)) ≡ Some []
file_runs f can =
    let parts : Parts = record { version = f.version; datasets = f.datasets; root = f.root } in
    let fit : PartsFit parts = record { version = can.version; columns = can.columns; root = can.root } in
    let g = follows (file_words f) file_syms file_syms [] (alike_refl file_syms) ((whole_pace zero).runs parts fit) in
    g.runs ∙ ap somewhere (nothing_left g.at g.alike)

stuck_turn : (o : Option (List Sym)) (l : List Sym) → is_none o ≡ true → on_top l o ≡ None
stuck_turn None l h = refl
stuck_turn (Some ys) l h = absurd (false≢true h)

-- a word that is refused at the top
record Refusing (y : Sym) (left l : List Sym) : Type 0 where
  pub z : Sym
  pub below : List Sym
  pub is : l ≡ z ∷ below
  pub alike : AlikeSym y z

top_of : (y : Sym) (left l : List Sym) → Alike (y ∷ left) l → Refusing y left l
top_of y left [] a = elim a [ ]
top_of y left (z ∷ below) (more s a) = record { z = z; below = below; is = refl; alike = s }

refused_step : (y : Sym) (left l : List Sym) (w : Word) → Alike (y ∷ left) l → refuses y w ≡ true → word_step l w ≡ None
refused_step y left l w a h =
    let t = top_of y left l a in
    ap (λ (k : List Sym). word_step k w) t.is ∙ stuck_turn (turn t.z w) t.below (sym (refuses_alike w t.alike) ∙ h)

no_some : (l : List Sym) → None ≡ somewhere l → ⊥
no_some l e = cc

-- ---- what can't stand

cannot : (ws : List Word) (w : Word) (l : List Sym) → word_run file_syms ws ≡ Some l → word_step l w ≡ None → CanStand (ws ++ w ∷ []) → ⊥
cannot ws w l runs stuck c =
    let f = c.2.0 in
    let rest = c.2.1 in
    let words : unmarked (file_words f) ≡ (ws ++ w ∷ []) ++ unmarked rest = ap unmarked c.2.3 ∙ map-append (λ (m : Marked). m.1) c.0 rest ∙ ap (λ (x : List Word). x ++ unmarked rest) c.1 in
    let gone : word_run file_syms ((ws ++ w ∷ []) ++ unmarked rest) ≡ None =
    ap (word_run file_syms) (append_assoc ws (w ∷ []) (unmarked rest)) ∙ word_run_on ws (w ∷ unmarked rest) file_syms l runs ∙ ap (λ (o : Option (List Sym)). o >>- λ next. word_run next (unmarked rest)) stuck in
    no_some [] (sym gone ∙ ap (word_run file_syms) (sym words) ∙ file_runs f c.2.2)

not_whole : (ws : List Word) (l : List Sym) → word_run file_syms ws ≡ Some l → (l ≡ [] → ⊥) → IsWhole ws → ⊥
not_whole ws l runs some c = some (same_place l [] (sym runs ∙ ap (word_run file_syms) (sym c.2) ∙ file_runs c.0 c.1))

-- ---- what can stand

pub record Halves (ms : List Marked) (ws : List Word) : Type 0 where
  pub front : List Marked
  pub back : List Marked
  pub split : ms ≡ front ++ back
  pub words : unmarked front ≡ ws

pub split_marked : (ms : List Marked) (ws vs : List Word) → unmarked ms ≡ ws ++ vs → Halves ms ws
split_marked ms [] vs e = record { front = []; back = ms; split = refl; words = refl }
split_marked [] (w ∷ ws) vs e = absurd cc
split_marked (m ∷ ms) (w ∷ ws) vs e =
    let first : m.1 ≡ w = cc in
    let others : unmarked ms ≡ ws ++ vs = cc in
    let h = split_marked ms ws vs others in
    record { front = m ∷ h.front; back = h.back; split = ap (λ (l : List Marked). m ∷ l) h.split; words = ap (λ (l : List Word). m.1 ∷ l) h.words ∙ ap (λ (x : Word). x ∷ ws) first }

no_step : (w : Word) (ws : List Word) → word_run [] (w ∷ ws) ≡ Some [] → ⊥
no_step w ws e = cc

nothing_behind : (ts : List Placed) → word_run [] (words_of ts) ≡ Some [] → ts ≡ []
nothing_behind [] e = refl
nothing_behind (t ∷ ts) e = absurd (no_step (said t.token) (words_of ts) e)

-- a file with these words
abbrev Named : List Word → Type 0
Named ws = (f : PlanFile) × CanBeWritten f × (unmarked (file_words f) ≡ ws)

file_of_words : (tokens : List Placed) → AreSound tokens → word_run file_syms (words_of tokens) ≡ Some [] → Named (words_of tokens)
file_of_words tokens sound runs = go (file_at (length tokens) (start tokens)) refl where
  ready : Ready (length tokens) (start tokens)
  ready = record { fuel = omega arith; sound = sound }

  stuck_end : (h : List Sym) (y : Sym) (left : List Sym) (e : Stopped) (ts : List Placed) → Alike (y ∷ left) h → Stuck e y ts → word_run h (words_of ts) ≡ Some [] → ⊥
  stuck_end h y left e [] a stuck r = let t = top_of y left h a in let no : somewhere (t.z ∷ t.below) ≡ Some [] = ap somewhere (sym t.is) ∙ r in absurd cc
  stuck_end h y left stops.Form (t ∷ ts) a stuck r = no_some [] (sym (ap (λ (o : Option (List Sym)). o >>- λ next. word_run next (words_of ts)) (refused_step y left h (said t.token) a stuck.0)) ∙ r)
  stuck_end h y left stops.Number (t ∷ ts) a stuck r = no_some [] (sym (ap (λ (o : Option (List Sym)). o >>- λ next. word_run next (words_of ts)) (refused_step y left h (said t.token) a stuck.0)) ∙ r)
  stuck_end h y left stops.NoMemory (t ∷ ts) a stuck r = stuck

  go : (o : Outcome Parts) → file_at (length tokens) (start tokens) ≡ o → Named (words_of tokens)
  go (Read parts s) e =
      let t = (whole_pace (length tokens)).forms.takes (start tokens) s parts e in
      let w = told (parts_words t.x) (start tokens) s t.taken in
      let g = follows (parts_words t.x) file_syms file_syms [] (alike_refl file_syms) ((whole_pace (length tokens)).runs t.x t.fit) in
      let there : word_run file_syms (unmarked (parts_words t.x)) ≡ Some [] = g.runs ∙ ap somewhere (nothing_left g.at g.alike) in
      let rest = nothing_behind s.tokens (sym (word_run_on (unmarked (parts_words t.x)) (words_of s.tokens) file_syms [] there) ∙ ap (word_run file_syms) (sym w.words) ∙ runs) in
      let words : unmarked (parts_words t.x) ≡ words_of tokens = sym (append-nil (unmarked (parts_words t.x))) ∙ ap (λ (l : List Placed). unmarked (parts_words t.x) ++ words_of l) (sym rest) ∙ sym w.words in
      let f : PlanFile = record { version = t.x.version; datasets = t.x.datasets; dataset_places = []; root = t.x.root; places = [] } in
      let fit = t.fit in
      let can : CanBeWritten f = record { version = fit.version; columns = fit.columns; root = fit.root } in
      (f, can, words)
  go (Stops k s) e =
      let h = (whole_pace (length tokens)).halts (start tokens) s k ready e in
      let w = told h.ms (start tokens) s h.taken in
      let g = follows h.ms file_syms file_syms (h.y ∷ h.left) (alike_refl file_syms) h.runs in
      absurd (stuck_end g.at h.y h.left k s.tokens g.alike h.stuck (sym (word_run_on (unmarked h.ms) (words_of s.tokens) file_syms g.at g.runs) ∙ ap (word_run file_syms) (sym w.words) ∙ runs))

sound_both : (ts us : List Placed) → AreSound ts → AreSound us → AreSound (ts ++ us)
sound_both [] us a b = b
sound_both (t ∷ ts) us a b = (a.0, sound_both ts us a.1 b)

pub can_stand : (pre : List Placed) (ms : List Marked) (st : List Sym) → AreSound pre → words_of pre ≡ unmarked ms → run file_syms ms ≡ Some st → CanStand (words_of pre)
can_stand pre ms st sound words runs =
    let g = follows ms file_syms file_syms st (alike_refl file_syms) runs in
    let more = all_completed g.at in
    let both : words_of (pre ++ more) ≡ words_of pre ++ words_of more = map-append (λ (t : Placed). said t.token) pre more in
    let whole : word_run file_syms (words_of (pre ++ more)) ≡ Some [] = ap (word_run file_syms) both ∙ word_run_on (words_of pre) (words_of more) file_syms g.at (ap (word_run file_syms) words ∙ g.runs) ∙ all_complete g.at in
    let f = file_of_words (pre ++ more) (sound_both pre more sound (all_sound g.at)) whole in
    let h = split_marked (file_words f.0) (words_of pre) (words_of more) (f.2 ∙ both) in
    (h.front, h.words, (f.0, h.back, f.1, h.split))

-- ---- where reading stands

record Reached (front rest : List Placed) (st : List Sym) : Type 0 where
  pub pre : List Placed
  pub ms : List Marked
  pub split : front ≡ pre ++ rest
  pub words : words_of pre ≡ unmarked ms
  pub runs : run file_syms ms ≡ Some st
  pub few : operators_in ms ≤ 256

record Behind (s : State) (ms : List Marked) (r : State) : Type 0 where
  pub pre : List Placed
  pub split : s.tokens ≡ pre ++ r.tokens
  pub words : words_of pre ≡ unmarked ms

noted_is : (m : Mark) (place : ℕ) (s : State) (ts : List Placed) → (noted m place s ts).tokens ≡ ts
noted_is Dataset place s ts = refl
noted_is Operator place s ts = refl
noted_is Other place s ts = refl

taken_tokens : (ms : List Marked) (s r : State) → Taken s ms r → Behind s ms r
taken_tokens [] s r a = record { pre = []; split = ap (λ (z : State). z.tokens) a; words = refl }
taken_tokens (m ∷ ms) s r a =
    let b = taken_tokens ms (noted m.0 a.0.place s a.1) r a.4 in
    record {
      pre = a.0 ∷ b.pre;
      split = a.2 ∙ ap (λ (l : List Placed). a.0 ∷ l) (sym (noted_is m.0 a.0.place s a.1) ∙ b.split);
      words = ap (λ (w : Word). w ∷ words_of b.pre) a.3 ∙ ap (λ (l : List Word). m.1 ∷ l) b.words;
    }

sound_front : (ts us : List Placed) → AreSound (ts ++ us) → AreSound ts
sound_front [] us h = tt
sound_front (t ∷ ts) us h = (h.0, sound_front ts us h.1)

shallow_front : (pre rest : List Placed) → IsShallow (words_of (pre ++ rest)) → IsShallow (words_of pre)
shallow_front pre rest h = λ before after w e deep.
    h before (after ++ words_of rest) w (map-append (λ (t : Placed). said t.token) pre rest ∙ ap (λ (l : List Word). l ++ words_of rest) e ∙ append_assoc before (w ∷ after) (words_of rest)) deep

-- ---- how many operators begin

-- a beginning of a file goes along with its symbols
pub begin_runs : (ms : List Marked) → Begins ms → (b : List Sym) × (run file_syms ms ≡ Some b)
begin_runs ms h =
    let f = h.0 in
    let parts : Parts = record { version = f.version; datasets = f.datasets; root = f.root } in
    let can = h.2 in
    let fit : PartsFit parts = record { version = can.version; columns = can.columns; root = can.root } in
    let whole : run file_syms (ms ++ h.1) ≡ Some [] = ap (run file_syms) (sym h.3) ∙ (whole_pace zero).runs parts fit in
    go (run file_syms ms) refl (sym (run_append ms h.1 file_syms) ∙ whole)
  where
    go : (o : Option (List Sym)) → run file_syms ms ≡ o → (o >>- λ next. run next h.1) ≡ Some [] → (b : List Sym) × (run file_syms ms ≡ Some b)
    go None e r = absurd cc
    go (Some b) e r = (b, e)

few_others : (ms ns : List Marked) (st : List Sym) → run file_syms ms ≡ Some st → operators_in ms ≤ 256 → unmarked ns ≡ unmarked ms → Begins ns → operators_in ns ≤ 256
few_others ms ns st runs few words h = go (same_marks ms ns file_syms st (begin_runs ns h).0 runs (begin_runs ns h).1 (sym words)) where
  go : SameMarks file_syms ms ns → operators_in ns ≤ 256
  go (alike same) = subst (λ (l : List Marked). operators_in l ≤ 256) same few
  go (forked p k x z left right begun) =
      let none = none_begun p k begun in
      let most = one_operator p (z, Open) in
      let is : operators_in ns ≡ operators_in (p ++ (z, Open) ∷ []) = ap operators_in right in
      omega arith

-- the operator with this number
record Nth (i : ℕ) (ms : List Marked) (ts : List Placed) : Type 0 where
  pub p : List Marked
  pub q : List Marked
  pub w : Word
  pub pre : List Placed
  pub t : Placed
  pub us : List Placed
  pub split : ms ≡ p ++ (Operator, w) ∷ q
  pub tokens : ts ≡ pre ++ t ∷ us
  pub words : words_of pre ≡ unmarked p
  pub says : said t.token ≡ w
  pub before : operators_in p ≡ i
  pub place : slice_index (places_of is_operator ms ts) i ≡ t.place

further : (i : ℕ) (k : Mark) (v : Word) (ms : List Marked) (t : Placed) (ts : List Placed) → (k ≡ Operator → ⊥) → said t.token ≡ v → ((l : List Marked) → operators_in ((k, v) ∷ l) ≡ operators_in l) → places_of is_operator ((k, v) ∷ ms) (t ∷ ts) ≡ places_of is_operator ms ts → Nth i ms ts → Nth i ((k, v) ∷ ms) (t ∷ ts)
further i k v ms t ts other says count places n = record {
  p = (k, v) ∷ n.p;
  q = n.q;
  w = n.w;
  pre = t ∷ n.pre;
  t = n.t;
  us = n.us;
  split = ap (λ (l : List Marked). (k, v) ∷ l) n.split;
  tokens = ap (λ (l : List Placed). t ∷ l) n.tokens;
  words = ap (λ (x : Word). x ∷ words_of n.pre) says ∙ ap (λ (l : List Word). v ∷ l) n.words;
  says = n.says;
  before = count n.p ∙ n.before;
  place = ap (λ (l : List ℕ). slice_index l i) places ∙ n.place;
}

nth_operator : (ms : List Marked) (ts : List Placed) (vs : List Word) (i : ℕ) → words_of ts ≡ unmarked ms ++ vs → i < length (places_of is_operator ms ts) → Nth i ms ts
nth_operator [] ts vs i e h = absurd (omega arith)
nth_operator (m ∷ ms) [] vs i e h = absurd cc
nth_operator ((Dataset, v) ∷ ms) (t ∷ ts) vs i e h =
    let says : said t.token ≡ v = cc in
    let others : words_of ts ≡ unmarked ms ++ vs = cc in
    further i Dataset v ms t ts (λ x. absurd cc) says (λ l. refl) refl (nth_operator ms ts vs i others h)
nth_operator ((Other, v) ∷ ms) (t ∷ ts) vs i e h =
    let says : said t.token ≡ v = cc in
    let others : words_of ts ≡ unmarked ms ++ vs = cc in
    further i Other v ms t ts (λ x. absurd cc) says (λ l. refl) refl (nth_operator ms ts vs i others h)
nth_operator ((Operator, v) ∷ ms) (t ∷ ts) vs zero e h =
    let says : said t.token ≡ v = cc in
    record { p = []; q = ms; w = v; pre = []; t = t; us = ts; split = refl; tokens = refl; words = refl; says = says; before = refl; place = refl }
nth_operator ((Operator, v) ∷ ms) (t ∷ ts) vs (suc i) e h =
    let says : said t.token ≡ v = cc in
    let others : words_of ts ≡ unmarked ms ++ vs = cc in
    let fewer : i < length (places_of is_operator ms ts) = omega arith in
    let n = nth_operator ms ts vs i others fewer in
    record {
      p = (Operator, v) ∷ n.p;
      q = n.q;
      w = n.w;
      pre = t ∷ n.pre;
      t = n.t;
      us = n.us;
      split = ap (λ (l : List Marked). (Operator, v) ∷ l) n.split;
      tokens = ap (λ (l : List Placed). t ∷ l) n.tokens;
      words = ap (λ (x : Word). x ∷ words_of n.pre) says ∙ ap (λ (l : List Word). v ∷ l) n.words;
      says = n.says;
      before = ap suc n.before;
      place = n.place;
    }

count_places : (ms : List Marked) (ts : List Placed) (vs : List Word) → words_of ts ≡ unmarked ms ++ vs → length (places_of is_operator ms ts) ≡ operators_in ms
count_places [] ts vs e = refl
count_places (m ∷ ms) [] vs e = absurd cc
count_places ((Dataset, v) ∷ ms) (t ∷ ts) vs e = let others : words_of ts ≡ unmarked ms ++ vs = cc in count_places ms ts vs others
count_places ((Other, v) ∷ ms) (t ∷ ts) vs e = let others : words_of ts ≡ unmarked ms ++ vs = cc in count_places ms ts vs others
count_places ((Operator, v) ∷ ms) (t ∷ ts) vs e = let others : words_of ts ≡ unmarked ms ++ vs = cc in ap suc (count_places ms ts vs others)

-- ---- what is wrong there

and_false : (a b : Bool) → a && b ≡ false → b ≡ true → a ≡ false
and_false true true h k = h
and_false true false h k = absurd (false≢true k)
and_false false b h k = refl

number_word : (w : Word) → is_number_word w ≡ true → (z : ℤ) × (w ≡ Number z)
number_word Open h = absurd (false≢true h)
number_word Close h = absurd (false≢true h)
number_word (Name n) h = absurd (false≢true h)
number_word (Variable n) h = absurd (false≢true h)
number_word (Number z) h = (z, refl)
number_word (Text n) h = absurd (false≢true h)

module _ (front rest : List Placed) (sound : AreSound front) where
  reached_sound : (st : List Sym) → (h : Reached front rest st) → AreSound h.pre
  reached_sound st h = sound_front h.pre rest (subst AreSound h.split sound)

  reached_stands : (st : List Sym) → (h : Reached front rest st) → CanStand (words_of h.pre)
  reached_stands st h = can_stand h.pre h.ms st (reached_sound st h) h.words h.runs

  refused_there : (y : Sym) (left : List Sym) (h : Reached front rest (y ∷ left)) (w : Word) → refuses y w ≡ true → CanStand (words_of h.pre ++ w ∷ []) → ⊥
  refused_there y left h w closed =
      let g = follows h.ms file_syms file_syms (y ∷ left) (alike_refl file_syms) h.runs in
      cannot (words_of h.pre) w g.at (ap (word_run file_syms) h.words ∙ g.runs) (refused_step y left g.at w g.alike closed)

  misplaced : (y : Sym) (left : List Sym) (h : Reached front rest (y ∷ left)) (w : Word) → refuses y w ≡ true → takes_numbers y && is_number_word w ≡ false → IsMisplaced (words_of h.pre) w
  misplaced y left h w closed numeric = (
    refused_there y left h w closed,
    λ o. refused_there y left h (Number o.2) (no_numbers y o.2 (and_false (takes_numbers y) (is_number_word w) numeric (ap is_number_word o.3))) o.4,
  )

  one_more : (y : Sym) (left : List Sym) (h : Reached front rest (y ∷ left)) → takes_numbers y ≡ true → CanStand (words_of h.pre ++ Number (pos 1) ∷ [])
  unfolding number_of
  one_more y left h takes =
      let next = one_stands y left takes in
      let m = plain (Number (pos 1)) in
      let runs : run file_syms (h.ms ++ m ∷ []) ≡ Some next.0 = run_on h.ms (m ∷ []) file_syms (y ∷ left) h.runs ∙ ap (λ (o : Option (List Sym)). o >>- λ z. run z []) next.1 in
      let token = number_token (codes "1") in
      let says : words_of (h.pre ++ token ∷ []) ≡ words_of h.pre ++ Number (pos 1) ∷ [] = map-append (λ (t : Placed). said t.token) h.pre (token ∷ []) in
      let words : words_of (h.pre ++ token ∷ []) ≡ unmarked (h.ms ++ m ∷ []) = says ∙ ap (λ (l : List Word). l ++ Number (pos 1) ∷ []) h.words ∙ sym (map-append (λ (x : Marked). x.1) h.ms (m ∷ [])) in
      subst CanStand says (can_stand (h.pre ++ token ∷ []) (h.ms ++ m ∷ []) next.0 (sound_both h.pre (token ∷ []) (reached_sound (y ∷ left) h) (refl, tt)) words runs)

  out_of_range : (y : Sym) (left : List Sym) (h : Reached front rest (y ∷ left)) (w : Word) → refuses y w ≡ true → takes_numbers y && is_number_word w ≡ true → IsOutOfRange (words_of h.pre) w
  out_of_range y left h w closed numeric =
      let p = and_parts (takes_numbers y) (is_number_word w) numeric in
      let z = number_word w p.1 in
      (refused_there y left h w closed, z.0, pos 1, z.1, one_more y left h p.0)

  ended : (h : Reached front rest []) (w : Word) → IsMisplaced (words_of h.pre) w
  ended h w =
      let g = follows h.ms file_syms file_syms [] (alike_refl file_syms) h.runs in
      let all : word_run file_syms (words_of h.pre) ≡ Some [] = ap (word_run file_syms) h.words ∙ g.runs ∙ ap somewhere (nothing_left g.at g.alike) in
      (cannot (words_of h.pre) w [] all refl, λ o. cannot (words_of h.pre) (Number o.2) [] all refl o.4)

  unended : (y : Sym) (left : List Sym) (h : Reached front rest (y ∷ left)) → IsWhole (words_of h.pre) → ⊥
  unended y left h =
      let g = follows h.ms file_syms file_syms (y ∷ left) (alike_refl file_syms) h.runs in
      let t = top_of y left g.at g.alike in
      not_whole (words_of h.pre) g.at (ap (word_run file_syms) h.words ∙ g.runs) (λ none. no_top t.z t.below (sym t.is ∙ none))
    where
      no_top : (z : Sym) (below : List Sym) → z ∷ below ≡ [] → ⊥
      no_top z below e = cc

-- ---- the refusal of all tokens

same_refusal : (k : RefusedKind) (place : ℕ) (r : Refused) → refused_with k place ≡ Err (refused.Refused r) → refusal k place ≡ r
same_refusal k place r e = cc

not_many : (n : ℕ) → nat_lt 256 n ≡ false → n ≤ 256
not_many n h = grind (arith, nat_tests)

run_front : (p q : List Marked) (st end : List Sym) → run st (p ++ q) ≡ Some end → (a : List Sym) × (run st p ≡ Some a)
run_front p q st end e = go (run st p) refl (sym (run_append p q st) ∙ e) where
  go : (o : Option (List Sym)) → run st p ≡ o → (o >>- λ next. run next q) ≡ Some end → (a : List Sym) × (run st p ≡ Some a)
  go None s r = absurd cc
  go (Some a) s r = (a, s)

-- where operators have begun, the marks are told by the words
exact : (p ns : List Marked) (st : List Sym) → operators_in p ≡ 256 → run file_syms (p ++ (Operator, Open) ∷ []) ≡ Some st → unmarked (p ++ (Operator, Open) ∷ []) ≡ unmarked ns → Begins ns → Begins (p ++ (Operator, Open) ∷ [])
exact p ns st many runs words h = go (same_marks (p ++ (Operator, Open) ∷ []) ns file_syms st (begin_runs ns h).0 runs (begin_runs ns h).1 words) where
  go : SameMarks file_syms (p ++ (Operator, Open) ∷ []) ns → Begins (p ++ (Operator, Open) ∷ [])
  go (alike same) = subst Begins (sym same) h
  go (forked f k x z left right begun) =
      let none = none_begun f k begun in
      let is : operators_in p ≡ operators_in f = ap operators_in (same_fronts p f (Operator, Open) (x, Open) left) in
      absurd (omega arith)

module _ (tokens : List Placed) (end : ℕ) (sound : AreSound tokens) where
  abbrev front : List Placed
  front = take (shallow_len 0 tokens) tokens

  abbrev back : List Placed
  back = drop (shallow_len 0 tokens) tokens

  front_sound : AreSound front
  front_sound = sound_take (shallow_len 0 tokens) tokens sound

  both : tokens ≡ front ++ back
  both = sym (take-append-drop (shallow_len 0 tokens) tokens)

  -- at a token in front of the one that opens too deep
  at_token : (k : RefusedKind) (t : Placed) (us : List Placed) (st : List Sym) (h : Reached front (t ∷ us) st) → IsCause (words_of h.pre) (said t.token ∷ words_of (us ++ back)) k → IsRefusedAt tokens end (refusal k t.place)
  at_token k t us st h cause =
      let split : tokens ≡ h.pre ++ t ∷ (us ++ back) = both ∙ ap (λ (l : List Placed). l ++ back) h.split ∙ append_assoc h.pre (t ∷ us) back in
      let shallow = shallow_front h.pre (t ∷ us) (subst (λ (l : List Placed). IsShallow (words_of l)) h.split (front_shallow tokens)) in
      record { before = h.pre; after = t ∷ (us ++ back); split = split; stands = reached_stands front (t ∷ us) front_sound st h; shallow = shallow; few = λ ns words begins. few_others h.ms ns st h.runs h.few (words ∙ h.words) begins; place = refl; cause = cause }

  not_deep : (t : Placed) (us : List Placed) (st : List Sym) (h : Reached front (t ∷ us) st) → IsTooDeep (words_of h.pre) (said t.token) → ⊥
  not_deep t us st h deep = front_shallow tokens (words_of h.pre) (words_of us) (said t.token) (ap words_of h.split ∙ map-append (λ (x : Placed). said x.token) h.pre (t ∷ us)) deep

  -- all of the tokens in front are read
  all_front : (st : List Sym) (h : Reached front [] st) → h.pre ≡ front
  all_front st h = sym (h.split ∙ append-nil h.pre)

  at_deep : (t : Placed) (us : List Placed) (st : List Sym) (h : Reached front [] st) → back ≡ t ∷ us → IsRefusedAt tokens end (refusal kind.TooDeep t.place)
  at_deep t us st h same =
      let split : tokens ≡ front ++ t ∷ us = both ∙ ap (λ (l : List Placed). front ++ l) same in
      let can : CanStand (words_of front) = subst (λ (l : List Placed). CanStand (words_of l)) (all_front st h) (reached_stands front [] front_sound st h) in
      record { before = front; after = t ∷ us; split = split; stands = can; shallow = front_shallow tokens; few = λ ns words begins. few_others h.ms ns st h.runs h.few (words ∙ ap words_of (sym (all_front st h)) ∙ h.words) begins; place = refl; cause = behind_deep tokens t us same }

  at_end : (y : Sym) (left : List Sym) (h : Reached front [] (y ∷ left)) → back ≡ [] → IsRefusedAt tokens end (refusal kind.Form end)
  at_end y left h same =
      let split : tokens ≡ front ++ [] = both ∙ ap (λ (l : List Placed). front ++ l) same in
      let can : CanStand (words_of front) = subst (λ (l : List Placed). CanStand (words_of l)) (all_front (y ∷ left) h) (reached_stands front [] front_sound (y ∷ left) h) in
      record { before = front; after = []; split = split; stands = can; shallow = front_shallow tokens; few = λ ns words begins. few_others h.ms ns (y ∷ left) h.runs h.few (words ∙ ap words_of (sym (all_front (y ∷ left) h)) ∙ h.words) begins; place = refl; cause = subst (λ (l : List Placed). IsWhole (words_of l) → ⊥) (all_front (y ∷ left) h) (unended front [] front_sound y left h) }

  -- a stop of the reader
  stopped_is : (e : Stopped) (y : Sym) (left : List Sym) (rest deep : List Placed) → Reached front rest (y ∷ left) → Stuck e y rest → back ≡ deep → (r : Refused) → stopped_with (kind_stopped e) rest deep end ≡ Err (refused.Refused r) → IsRefusedAt tokens end r
  stopped_is e y left [] [] h stuck same r is =
      let form : stopped_with kind.Form [] [] end ≡ Err (refused.Refused r) = ap (λ (k : Stopped). stopped_with (kind_stopped k) [] [] end) (sym stuck) ∙ is in
      subst (IsRefusedAt tokens end) (same_refusal kind.Form end r form) (at_end y left h same)
  stopped_is e y left [] (t ∷ us) h stuck same r is = subst (IsRefusedAt tokens end) (same_refusal kind.TooDeep t.place r is) (at_deep t us (y ∷ left) h same)
  stopped_is stops.Form y left (t ∷ us) deep h stuck same r is =
      subst (IsRefusedAt tokens end) (same_refusal kind.Form t.place r is)
      (at_token kind.Form t us (y ∷ left) h (not_deep t us (y ∷ left) h, misplaced front (t ∷ us) front_sound y left h (said t.token) stuck.0 stuck.1))
  stopped_is stops.Number y left (t ∷ us) deep h stuck same r is =
      subst (IsRefusedAt tokens end) (same_refusal kind.Number t.place r is)
      (at_token kind.Number t us (y ∷ left) h (out_of_range front (t ∷ us) front_sound y left h (said t.token) stuck.0 stuck.1))
  stopped_is stops.NoMemory y left (t ∷ us) deep h stuck same r is = absurd stuck

  -- a file with more behind it
  followed_is : (parts : Parts) (s : State) (rest deep : List Placed) → Reached front rest [] → back ≡ deep → (r : Refused) → whole_of parts s rest deep end ≡ Err (refused.Refused r) → IsRefusedAt tokens end r
  followed_is parts s [] [] h same r is = absurd cc
  followed_is parts s [] (t ∷ us) h same r is = subst (IsRefusedAt tokens end) (same_refusal kind.TooDeep t.place r is) (at_deep t us [] h same)
  followed_is parts s (t ∷ us) deep h same r is =
      subst (IsRefusedAt tokens end) (same_refusal kind.Form t.place r is)
      (at_token kind.Form t us [] h (not_deep t us [] h, ended front (t ∷ us) front_sound h (said t.token)))

  -- the first operator that is too many
  large_is : (ms : List Marked) (s : State) (st : List Sym) → Taken (start front) ms s → run file_syms ms ≡ Some st → 256 < length s.operators → IsRefusedAt tokens end (refusal kind.TooLarge (slice_index s.operators 256))
  large_is ms s st taken runs many =
      let w = told ms (start front) s taken in
      let places : s.operators ≡ places_of is_operator ms front = w.operators in
      let n = nth_operator ms front (words_of s.tokens) 256 w.words (subst (λ (l : List ℕ). 256 < length l) places many) in
      let some = run_front n.p ((Operator, n.w) ∷ n.q) file_syms st (ap (run file_syms) (sym n.split) ∙ runs) in
      let opens = at_open n.w n.q some.0 st (sym (run_on n.p ((Operator, n.w) ∷ n.q) file_syms some.0 some.1) ∙ ap (run file_syms) (sym n.split) ∙ runs) in
      let says : said n.t.token ≡ Open = n.says ∙ opens in
      let whole : run file_syms ((n.p ++ (Operator, Open) ∷ []) ++ n.q) ≡ Some st = ap (run file_syms) (append_assoc n.p ((Operator, Open) ∷ []) n.q ∙ ap (λ (v : Word). n.p ++ (Operator, v) ∷ n.q) (sym opens) ∙ sym n.split) ∙ runs in
      let one = run_front (n.p ++ (Operator, Open) ∷ []) n.q file_syms st whole in
      let sound_pre : AreSound (n.pre ++ n.t ∷ []) = sound_front (n.pre ++ n.t ∷ []) n.us (subst AreSound (n.tokens ∙ sym (append_assoc n.pre (n.t ∷ []) n.us)) front_sound) in
      let both_words : words_of (n.pre ++ n.t ∷ []) ≡ unmarked (n.p ++ (Operator, Open) ∷ []) =
      map-append (λ (x : Placed). said x.token) n.pre (n.t ∷ []) ∙ ap (λ (l : List Word). l ++ said n.t.token ∷ []) n.words ∙ ap (λ (v : Word). unmarked n.p ++ v ∷ []) says ∙ sym (map-append (λ (x : Marked). x.1) n.p ((Operator, Open) ∷ [])) in
      let c = can_stand (n.pre ++ n.t ∷ []) (n.p ++ (Operator, Open) ∷ []) one.0 sound_pre both_words one.1 in
      let begins = exact n.p c.0 one.0 n.before one.1 (sym both_words ∙ sym c.1) c.2 in
      let shallow = shallow_front n.pre (n.t ∷ n.us) (subst (λ (l : List Placed). IsShallow (words_of l)) n.tokens (front_shallow tokens)) in
      let deep : IsTooDeep (words_of n.pre) (said n.t.token) → ⊥ = λ d. front_shallow tokens (words_of n.pre) (words_of n.us) (said n.t.token) (ap words_of n.tokens ∙ map-append (λ (x : Placed). said x.token) n.pre (n.t ∷ n.us)) d in
      let most : operators_in n.p ≤ 256 = let k = n.before in omega arith in
      record {
        before = n.pre;
        after = n.t ∷ (n.us ++ back);
        split = both ∙ ap (λ (l : List Placed). l ++ back) n.tokens ∙ append_assoc n.pre (n.t ∷ n.us) back;
        stands = can_stand n.pre n.p some.0 (sound_front n.pre (n.t ∷ []) sound_pre) n.words some.1;
        shallow = shallow;
        few = λ ns words h. few_others n.p ns some.0 some.1 most (words ∙ n.words) h;
        place = ap (λ (l : List ℕ). slice_index l 256) places ∙ n.place;
        cause = (deep, (says, n.p, sym n.words, begins, n.before));
      }

  unless_is : (operators : List ℕ) (other : Result PlanFile ReadRefused) (r : Refused) → (256 < length operators → IsRefusedAt tokens end (refusal kind.TooLarge (slice_index operators 256))) → (length operators ≤ 256 → other ≡ Err (refused.Refused r) → IsRefusedAt tokens end r) → unless_large operators other ≡ Err (refused.Refused r) → IsRefusedAt tokens end r
  unless_is operators other r many h e =
      elim (cases_Bool (nat_lt 256 (length operators))) [
        | inl on ↦ let k = rw on at e in subst (IsRefusedAt tokens end) (same_refusal kind.TooLarge (slice_index operators 256) r k) (many (ltb-true 256 (length operators) on))
        | inr off ↦ h (not_many (length operators) off) (rw off at e)
      ]

  few_taken : (ms : List Marked) (s : State) → Taken (start front) ms s → length s.operators ≤ 256 → operators_in ms ≤ 256
  few_taken ms s taken few =
      let w = told ms (start front) s taken in
      let count = count_places ms front (words_of s.tokens) w.words in
      omega (arith, ap length w.operators, count)

  answer_is : (o : Outcome Parts) → file_at (length front) (start front) ≡ o → (r : Refused) → answer_of o back end ≡ Err (refused.Refused r) → IsRefusedAt tokens end r
  unfolding answer_of
  answer_is (Read parts s) e r is =
      let t = (whole_pace (length front)).forms.takes (start front) s parts e in
      let b = taken_tokens (parts_words t.x) (start front) s t.taken in
      let runs = (whole_pace (length front)).runs t.x t.fit in
      unless_is s.operators (whole_of parts s s.tokens back end) r (large_is (parts_words t.x) s [] t.taken runs)
      (λ few. followed_is parts s s.tokens back (record { pre = b.pre; ms = parts_words t.x; split = b.split; words = b.words; runs = runs; few = few_taken (parts_words t.x) s t.taken few }) refl r) is
  answer_is (Stops k s) e r is =
      let ready : Ready (length front) (start front) = record { fuel = omega arith; sound = front_sound } in
      let h = (whole_pace (length front)).halts (start front) s k ready e in
      let b = taken_tokens h.ms (start front) s h.taken in
      unless_is s.operators (stopped_with (kind_stopped k) s.tokens back end) r (large_is h.ms s (h.y ∷ h.left) h.taken h.runs)
      (λ few. stopped_is k h.y h.left s.tokens back (record { pre = b.pre; ms = h.ms; split = b.split; words = b.words; runs = h.runs; few = few_taken h.ms s h.taken few }) h.stuck refl r) is

pub file_stops : (tokens : List Placed) (end : ℕ) (r : Refused) → AreSound tokens → file_of_tokens tokens end ≡ Err (refused.Refused r) → IsRefusedAt tokens end r
unfolding file_of_tokens
file_stops tokens end r sound e = answer_is tokens end sound (file_at (length (take (shallow_len 0 tokens) tokens)) (start (take (shallow_len 0 tokens) tokens))) refl r e
