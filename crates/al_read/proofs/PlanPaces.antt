-- Where readers stop: one lemma for each way to put readers together.
use Rattle.std.proofs.Common.{◌≡◌, ℕ, zero, suc, ◌+◌, ◌<◌, ◌≤◌, Bool, true, false, ◌&&◌, List, [], ◌∷◌, ◌++◌, length, Option, Some, None, Result, Ok, Err, refl, sym, ap, subst, ◌∙◌, ◌⊎◌, inl, inr, append_assoc, length-append, arith}
use Rattle.std.specs.Prelude.{if◌then◌else◌}
use Rattle.std.specs.List.{flat_map}
use Rattle.std.proofs.lemmas.List.{append-nil, nil_from_length}
use Rattle.std.proofs.lemmas.Bool.{cases_Bool, false≢true}
use Rattle.al_plan.specs.Grammar.{Word, Open, Close, Name, Variable, Number, Text, Mark, Dataset, Operator, Other, Marked, plain, is_filled}
use Rattle.al_read.specs.declared.token.Token.{Token}
use Rattle.al_read.specs.declared.token.Token.TheVariants as kinds
use Rattle.al_read.specs.declared.token.Placed.{Placed}
use Rattle.al_read.specs.declared.plan.reader.Stopped.{Stopped}
use Rattle.al_read.specs.declared.plan.reader.Stopped.TheVariants as stops
use Rattle.al_read.specs.Reads.{said}
use Rattle.al_read.specs.PlanReading.{State, Outcome, Read, Stops, ◌>>=◌, behind, kept, first_of, from_token, more, listed, items_at, list_at, filled_at, next_at, close_at, closes, is_close}
use Rattle.al_read.proofs.PlanForms.{Forms, Found, Ready, Taken, IsSound, AreSound, Steps, itself, AllFit, Filled, taken_length, taken_append, taken_split, ready_after, ready_within, bind_read, read_value, read_state, done, skip, nest, keep, mapped, shaped, token_forms, items_form, list_form, filled_form, filled_from, next_steps, not_close, not_closing, starts}
use Rattle.al_read.proofs.PlanMachine.{Sym, Parts, APart, AClose, AnOpen, ◌>>-◌, run, run_on, run_below, step, on_top, turn, marked_turn, refuses, takes_numbers, is_number_word, Fated, Stuck, Halted, halted_below, halted_behind}

-- a reader goes along with the symbols that are to come, and stops where they can't go on
pub record Paces (n : ℕ) {A X : Type 0} (read : State → Outcome A) (value : X → A) (print : X → List Marked) (fits : X → Type 0) (ys : List Sym) (after : X → List Sym) : Type 0 where
  pub forms : Forms n read value print fits
  pub runs : (x : X) → fits x → run ys (print x) ≡ Some (after x)
  pub halts : (s r : State) (e : Stopped) → Ready n s → read s ≡ Stops e r → Halted s r ys e

abbrev pub nothing : {X : Type 0} → X → List Sym
nothing x = []

pub data StopsAt {A B : Type 0} (o : Outcome A) (f : A → State → Outcome B) (e : Stopped) (r : State) : Type 0 where
  here : o ≡ Stops e r → StopsAt o f e r
  later : (x : A) (q : State) → o ≡ Read x q → f x q ≡ Stops e r → StopsAt o f e r

pub bind_stops : {A B : Type 0} (o : Outcome A) (f : A → State → Outcome B) (e : Stopped) (r : State) → (o >>= f) ≡ Stops e r → StopsAt o f e r
bind_stops (Read x q) f e r h = later x q refl h
bind_stops {A} {B} (Stops k q) f e r h = here (moved k e q r h) where
  moved : (k e : Stopped) (q r : State) → ◌≡◌ {A = Outcome B} (Stops k q) (Stops e r) → ◌≡◌ {A = Outcome A} (Stops k q) (Stops e r)
  moved k e q r h = let a : k ≡ e = cc in let b : q ≡ r = cc in ap (λ (z : Stopped). Stops z q) a ∙ ap (λ (z : State). Stops e z) b

pub pdone : (n : ℕ) {A : Type 0} (y : A) → Paces n (λ s. Read y s) (λ (u : Unit {0}). y) (λ u. []) (λ u. Unit {0}) [] nothing
pdone n y = record { forms = done n y; runs = λ u fit. refl; halts = λ s r e ready h. absurd cc }

-- the words that a reader has read
read_words : (n : ℕ) {A : Type 0} {read : State → Outcome A} {shown : A → List Marked} {suits : A → Type 0} → Forms n read itself shown suits → (s q : State) (x : A) → read s ≡ Read x q → Taken s (shown x) q × suits x
read_words n {A} {read} {shown} {suits} f s q x h =
    let t = f.takes s q x h in
    (subst (λ (z : A). Taken s (shown z) q) t.value_is t.taken, subst suits t.value_is t.fit)

pub pkeep : (n : ℕ) {A B : Type 0} {Y : A → Type 0} {read : State → Outcome A} {shown : A → List Marked} {suits : A → Type 0} {next : A → State → Outcome B}
    {value : (x : A) → Y x → B} {print : (x : A) → Y x → List Marked} {fits : (x : A) → Y x → Type 0} {ys : List Sym} {after : A → List Sym} (zs : List Sym)
    → Paces n read itself shown suits ys after → ((x : A) → Paces n (next x) (value x) (print x) (fits x) (after x ++ zs) nothing)
    → Paces n {X = (x : A) × Y x} (λ s. read s >>= next) (λ p. value p.0 p.1) (λ p. shown p.0 ++ print p.0 p.1) (λ p. suits p.0 × fits p.0 p.1) (ys ++ zs) nothing
pkeep n {A} {B} {Y} {read} {shown} {suits} {next} {value} {print} {fits} {ys} {after} zs f g = record {
  forms = keep n f.forms (λ x. (g x).forms);
  runs = λ p fit. run_on (shown p.0) (print p.0 p.1) (ys ++ zs) (after p.0 ++ zs) (run_below (shown p.0) ys zs (after p.0) (f.runs p.0 fit.0)) ∙ (g p.0).runs p.1 fit.1;
  halts = λ s r e ready h. by s r e ready (bind_stops (read s) next e r h);
} where
  by : (s r : State) (e : Stopped) → Ready n s → StopsAt (read s) next e r → Halted s r (ys ++ zs) e
  by s r e ready (here h) = halted_below s r ys zs e (f.halts s r e ready h)
  by s r e ready (later x q h k) =
      let t = read_words n f.forms s q x h in
      halted_behind s q r (ys ++ zs) (after x ++ zs) (shown x) e t.0 (run_below (shown x) ys zs (after x) (f.runs x t.1)) ((g x).halts q r e (ready_after n (shown x) s q t.0 ready) k)

pub pskip : (n : ℕ) {A X : Type 0} (m : Marked) {word : State → Outcome (Unit {0})} {next : State → Outcome A} {value : X → A} {print : X → List Marked} {fits : X → Type 0} {y : Sym} {zs : List Sym}
    → Paces n word itself (λ u. m ∷ []) (λ u. Unit {0}) (y ∷ []) nothing → Paces n next value print fits zs nothing
    → Paces n (λ s. word s >>= λ u r. next r) value (λ x. m ∷ print x) fits (y ∷ zs) nothing
pskip n {A} {X} m {word} {next} {value} {print} {fits} {y} {zs} w f = record {
  forms = skip n m w.forms f.forms;
  runs = λ x fit. run_on (m ∷ []) (print x) (y ∷ zs) zs (run_below (m ∷ []) (y ∷ []) zs [] (w.runs tt tt)) ∙ f.runs x fit;
  halts = λ s r e ready h. by s r e ready (bind_stops (word s) (λ u q. next q) e r h);
} where
  by : (s r : State) (e : Stopped) → Ready n s → StopsAt (word s) (λ u q. next q) e r → Halted s r (y ∷ zs) e
  by s r e ready (here h) = halted_below s r (y ∷ []) zs e (w.halts s r e ready h)
  by s r e ready (later u q h k) =
      let t = read_words n w.forms s q u h in
      halted_behind s q r (y ∷ zs) zs (m ∷ []) e t.0 (run_below (m ∷ []) (y ∷ []) zs [] (w.runs tt tt)) (f.halts q r e (ready_after n (m ∷ []) s q t.0 ready) k)

pub pnest : (n : ℕ) {A X : Type 0} (m : Marked) {word : State → Outcome (Unit {0})} {next : State → Outcome A} {value : X → A} {print : X → List Marked} {fits : X → Type 0} {y : Sym} {behind zs : List Sym}
    → ((k : ℕ) → Paces k word itself (λ u. m ∷ []) (λ u. Unit {0}) (y ∷ []) (λ u. behind)) → Paces n next value print fits (behind ++ zs) nothing
    → Paces (suc n) (λ s. word s >>= λ u r. next r) value (λ x. m ∷ print x) fits (y ∷ zs) nothing
pnest n {A} {X} m {word} {next} {value} {print} {fits} {y} {behind} {zs} w f = record {
  forms = nest n m (λ k. (w k).forms) f.forms;
  runs = λ x fit. run_on (m ∷ []) (print x) (y ∷ zs) (behind ++ zs) (run_below (m ∷ []) (y ∷ []) zs behind ((w n).runs tt tt)) ∙ f.runs x fit;
  halts = λ s r e ready h. by s r e ready (bind_stops (word s) (λ u q. next q) e r h);
} where
  by : (s r : State) (e : Stopped) → Ready (suc n) s → StopsAt (word s) (λ u q. next q) e r → Halted s r (y ∷ zs) e
  by s r e ready (here h) = halted_below s r (y ∷ []) zs e ((w (suc n)).halts s r e ready h)
  by s r e ready (later u q h k) =
      let t = read_words n (w n).forms s q u h in
      halted_behind s q r (y ∷ zs) (behind ++ zs) (m ∷ []) e t.0 (run_below (m ∷ []) (y ∷ []) zs behind ((w n).runs tt tt)) (f.halts q r e (ready_within n m s q t.0 ready) k)

pub pmapped : (n : ℕ) {A B : Type 0} {read : State → Outcome A} {shown : A → List Marked} {suits : A → Type 0} {ys : List Sym} (make : A → B) → Paces n read itself shown suits ys nothing → Paces n (λ s. read s >>= λ x r. Read (make x) r) make shown suits ys nothing
pmapped n {A} {B} {read} {shown} {suits} {ys} make f = record {
  forms = mapped n make f.forms;
  runs = λ x fit. f.runs x fit;
  halts = λ s r e ready h. by s r e ready (bind_stops (read s) (λ x q. Read (make x) q) e r h);
} where
  by : (s r : State) (e : Stopped) → Ready n s → StopsAt (read s) (λ x q. Read (make x) q) e r → Halted s r ys e
  by s r e ready (here h) = f.halts s r e ready h
  by s r e ready (later x q h k) = absurd cc

pub pshaped : (n : ℕ) {A X : Type 0} {read : State → Outcome A} {value : X → A} {print : X → List Marked} {fits : X → Type 0} {ys : List Sym} (shown : A → List Marked) (suits : A → Type 0)
    → Paces n read value print fits ys nothing
    → ((x : X) → fits x → (print x ≡ shown (value x)) × suits (value x))
    → ((y : A) → suits y → (x : X) × (value x ≡ y) × fits x)
    → Paces n read itself shown suits ys nothing
pshaped n {A} {X} {read} {value} {print} {fits} {ys} shown suits f to from = record {
  forms = shaped n shown suits f.forms to from;
  runs = λ y suit.
      let g = from y suit in
      let t = to g.0 g.2 in
      ap (λ (z : A). run ys (shown z)) (sym g.1) ∙ ap (run ys) (sym t.0) ∙ f.runs g.0 g.2;
  halts = f.halts;
}

pub data TokenStops {A : Type 0} (make : Token → Result A Stopped) (s : State) (e : Stopped) : Type 0 where
  no_token : s.tokens ≡ [] → e ≡ stops.Form → TokenStops make s e
  bad_token : (t : Placed) (ts : List Placed) → s.tokens ≡ t ∷ ts → make t.token ≡ Err e → TokenStops make s e

kept_stops : {A : Type 0} (o : Result A Stopped) (s : State) (ts : List Placed) (e : Stopped) (r : State) → kept s ts o ≡ Stops e r → (o ≡ Err e) × (s ≡ r)
kept_stops (Ok x) s ts e r h = absurd cc
kept_stops {A} (Err k) s ts e r h = (ap (λ (z : Stopped). let o : Result A Stopped = Err z in o) (same k e s r h), there k e s r h) where
  same : (k e : Stopped) (s r : State) → ◌≡◌ {A = Outcome A} (Stops k s) (Stops e r) → k ≡ e
  same k e s r h = cc

  there : (k e : Stopped) (s r : State) → ◌≡◌ {A = Outcome A} (Stops k s) (Stops e r) → s ≡ r
  there k e s r h = cc

pub token_stops : {A : Type 0} (make : Token → Result A Stopped) (s : State) (e : Stopped) (r : State) → from_token make s ≡ Stops e r → TokenStops make s e × (s ≡ r)
token_stops {A} make s e r h = go s.tokens refl h where
  go : (ts : List Placed) → s.tokens ≡ ts → first_of make s ts ≡ Stops e r → TokenStops make s e × (s ≡ r)
  go [] same h = let a : e ≡ stops.Form = cc in let b : s ≡ r = cc in (no_token same a, b)
  go (t ∷ ts) same h = let k = kept_stops (make t.token) s ts e r h in (bad_token t ts same k.0, k.1)

stuck_at : {A : Type 0} (make : Token → Result A Stopped) (y : Sym) (s : State) (e : Stopped) → AreSound s.tokens → ((t : Token) → IsSound t → Fated (make t) (refuses y (said t)) (takes_numbers y && is_number_word (said t))) → TokenStops make s e → Stuck e y s.tokens
stuck_at make y s e sound fate (no_token same form) = subst (λ (ts : List Placed). Stuck e y ts) (sym same) form
stuck_at {A} make y s e sound fate (bad_token t ts same bad) =
    let own = fate t.token (subst AreSound same sound).0 in
    subst (λ (us : List Placed). Stuck e y us) (sym same) (moved e (make t.token) bad own)
  where
    moved : (e : Stopped) (o : Result A Stopped) → o ≡ Err e → Fated o (refuses y (said t.token)) (takes_numbers y && is_number_word (said t.token)) → Fated {A = Unit {0}} (Err e) (refuses y (said t.token)) (takes_numbers y && is_number_word (said t.token))
    moved stops.Form o bad own = subst (λ (z : Result A Stopped). Fated z (refuses y (said t.token)) (takes_numbers y && is_number_word (said t.token))) bad own
    moved stops.Number o bad own = subst (λ (z : Result A Stopped). Fated z (refuses y (said t.token)) (takes_numbers y && is_number_word (said t.token))) bad own
    moved stops.NoMemory o bad own = subst (λ (z : Result A Stopped). Fated z (refuses y (said t.token)) (takes_numbers y && is_number_word (said t.token))) bad own

-- nothing is read where it stops
pub halted_here : (s r : State) (y : Sym) (e : Stopped) → s ≡ r → Stuck e y s.tokens → Halted s r (y ∷ []) e
halted_here s r y e same stuck = record { ms = []; y = y; left = []; taken = same; runs = refl; stuck = subst (λ (z : State). Stuck e y z.tokens) same stuck }

pub token_paces : (n : ℕ) {A : Type 0} (make : Token → Result A Stopped) (word : A → Word) (fits : A → Type 0) (y : Sym) (after : A → List Sym)
    → Forms n (λ s. from_token make s) itself (λ x. plain (word x) ∷ []) fits
    → ((x : A) → fits x → on_top [] (marked_turn y Other (word x)) ≡ Some (after x))
    → ((t : Token) → IsSound t → Fated (make t) (refuses y (said t)) (takes_numbers y && is_number_word (said t)))
    → Paces n (λ s. from_token make s) itself (λ x. plain (word x) ∷ []) fits (y ∷ []) after
token_paces n make word fits y after f goes fate = record {
  forms = f;
  runs = λ x fit. ap (λ (o : Option (List Sym)). o >>- λ next. run next []) (goes x fit);
  halts = λ s r e ready h. let k = token_stops make s e r h in halted_here s r y e k.1 (stuck_at make y s e ready.sound fate k.0);
}

-- ---- lists

pub record StepPaces (n : ℕ) {A : Type 0} (step : State → Outcome (Option A)) (print : A → List Marked) (fits : A → Type 0) (ending : List Marked) (y : Sym) (behind : List Sym) : Type 0 where
  pub steps : Steps n step print fits ending
  pub none_runs : run (y ∷ []) ending ≡ Some behind
  pub some_runs : (x : A) → fits x → run (y ∷ []) (print x) ≡ Some (y ∷ [])
  pub step_halts : (s r : State) (e : Stopped) → Ready n s → step s ≡ Stops e r → Halted s r (y ∷ []) e

stops_kind : {A : Type 0} (k e : Stopped) (s r : State) → ◌≡◌ {A = Outcome A} (Stops k s) (Stops e r) → k ≡ e
stops_kind k e s r h = cc

stops_state : {A : Type 0} (k e : Stopped) (s r : State) → ◌≡◌ {A = Outcome A} (Stops k s) (Stops e r) → s ≡ r
stops_state k e s r h = cc

module _ (n : ℕ) {A : Type 0} (step : State → Outcome (Option A)) (print : A → List Marked) (fits : A → Type 0) (ending : List Marked) (y : Sym) (behind : List Sym) (p : StepPaces n step print fits ending y behind) where
  all_runs : (xs : List A) → AllFit fits xs → run (y ∷ []) (flat_map print xs ++ ending) ≡ Some behind
  all_runs [] fit = p.none_runs
  all_runs (x ∷ xs) fit =
      ap (run (y ∷ [])) (append_assoc (print x) (flat_map print xs) ending) ∙ run_on (print x) (flat_map print xs ++ ending) (y ∷ []) (y ∷ []) (p.some_runs x fit.0) ∙ all_runs xs fit.1

  abbrev Halting : ℕ → Type 0
  Halting m = (s r : State) (e : Stopped) → Ready n s → length s.tokens ≤ m → listed m step s ≡ Stops e r → Halted s r (y ∷ []) e

  over : (m : ℕ) → Halting m → (s r : State) (e : Stopped) → Ready n s → length s.tokens ≤ suc m → (o : Option A) (q : State) → step s ≡ Read o q → more (listed m step) o q ≡ Stops e r → Halted s r (y ∷ []) e
  over m rec s r e ready few None q first second = absurd cc
  over m rec s r e ready few (Some x) q first second =
      let one = p.steps.some_takes s q x first in
      let some = p.steps.some_words x one.1 in
      let shorter : length q.tokens ≤ m = omega (arith, taken_length (print x) s q one.0) in
      let there : listed m step q ≡ Stops e r = inner (listed m step q) x second in
      halted_behind s q r (y ∷ []) (y ∷ []) (print x) e one.0 (p.some_runs x one.1) (rec q r e (ready_after n (print x) s q one.0 ready) shorter there)
    where
      inner : (o : Outcome (List A)) (x : A) → (o >>= λ xs z. Read (x ∷ xs) z) ≡ Stops e r → o ≡ Stops e r
      inner (Read xs z) x h = absurd cc
      inner (Stops k z) x h = ap (λ (j : Stopped). Stops j z) (stops_kind k e z r h) ∙ ap (λ (w : State). Stops e w) (stops_state k e z r h)

  listed_halts : (m : ℕ) → Halting m
  unfolding listed
  listed_halts zero = λ s r e ready few h.
      let none : s.tokens ≡ [] = nil_from_length s.tokens (omega arith) in
      halted_here s r y e (stops_state stops.Form e s r h) (subst (λ (ts : List Placed). Stuck e y ts) (sym none) (sym (stops_kind stops.Form e s r h)))
  listed_halts (suc m) = λ s r e ready few h. by m (listed_halts m) s r e ready few (bind_stops (step s) (more (listed m step)) e r h) where
    by : (m : ℕ) → Halting m → (s r : State) (e : Stopped) → Ready n s → length s.tokens ≤ suc m → StopsAt (step s) (more (listed m step)) e r → Halted s r (y ∷ []) e
    by m rec s r e ready few (here h) = p.step_halts s r e ready h
    by m rec s r e ready few (later o q h k) = over m rec s r e ready few o q h k

  pub items_paces : Paces n (λ s. items_at step s) itself (λ xs. flat_map print xs ++ ending) (AllFit fits) (y ∷ []) (λ xs. behind)
  items_paces = record {
    forms = items_form n step print fits ending p.steps;
    runs = λ xs fit. all_runs xs fit;
    halts = λ s r e ready h. listed_halts (length s.tokens) s r e ready (omega arith) h;
  }

-- ---- up to a parenthesis that closes

-- behind the symbol of a list an item may come, or the parenthesis that closes it
pub record Lists (y b : Sym) (bs : List Sym) : Type 0 where
  pub ends : run (y ∷ []) (plain Close ∷ []) ≡ Some []
  pub like : (m : Marked) → not_close m.1 ≡ true → step (y ∷ []) m ≡ step (b ∷ (bs ++ y ∷ [])) m
  pub refused : (w : Word) → not_close w ≡ true → refuses b w ≡ true → refuses y w ≡ true
  pub numbers : takes_numbers y ≡ takes_numbers b

said_not_close : (t : Token) (w : Word) → said t ≡ w → is_close t ≡ false → not_close w ≡ true
said_not_close kinds.Open w e h = ap not_close (sym e)
said_not_close kinds.Close w e h = absurd (false≢true (sym h))
said_not_close (kinds.Name x) w e h = ap not_close (sym e)
said_not_close (kinds.Var x) w e h = ap not_close (sym e)
said_not_close (kinds.Number x) w e h = ap not_close (sym e)
said_not_close (kinds.Str x) w e h = ap not_close (sym e)

closing_said : (t : Token) → is_close t ≡ true → said t ≡ Close
closing_said kinds.Open h = absurd (false≢true h)
closing_said kinds.Close h = refl
closing_said (kinds.Name x) h = absurd (false≢true h)
closing_said (kinds.Var x) h = absurd (false≢true h)
closing_said (kinds.Number x) h = absurd (false≢true h)
closing_said (kinds.Str x) h = absurd (false≢true h)

module _ (y b : Sym) (bs : List Sym) (l : Lists y b bs) where
  like_run : (ms : List Marked) → starts ms ≡ true → run (y ∷ []) ms ≡ run (b ∷ (bs ++ y ∷ [])) ms
  like_run [] h = absurd (false≢true h)
  like_run (m ∷ ms) h = ap (λ (o : Option (List Sym)). o >>- λ next. run next ms) (l.like m h)

  stuck_too : (e : Stopped) (ts : List Placed) → closes ts ≡ false → Stuck e b ts → Stuck e y ts
  stuck_too e [] off h = h
  stuck_too stops.Form (t ∷ ts) off h = (l.refused (said t.token) (said_not_close t.token (said t.token) refl off) h.0, ap (λ (z : Bool). z && is_number_word (said t.token)) l.numbers ∙ h.1)
  stuck_too stops.Number (t ∷ ts) off h = (l.refused (said t.token) (said_not_close t.token (said t.token) refl off) h.0, ap (λ (z : Bool). z && is_number_word (said t.token)) l.numbers ∙ h.1)
  stuck_too stops.NoMemory (t ∷ ts) off h = h

  first_sym : (a : Sym) (left : List Sym) → ◌≡◌ {A = Option (List Sym)} (Some (b ∷ bs)) (Some (a ∷ left)) → b ≡ a
  first_sym a left e = cc

  -- what stops an item stops the list
  halted_too : (s r : State) (e : Stopped) → closes s.tokens ≡ false → Halted s r (b ∷ bs) e → Halted s r (y ∷ []) e
  halted_too s r e off h = go h.ms h.taken h.runs where
    go : (ms : List Marked) → Taken s ms r → run (b ∷ bs) ms ≡ Some (h.y ∷ h.left) → Halted s r (y ∷ []) e
    go [] taken runs =
        let same = first_sym h.y h.left runs in
        let stuck : Stuck e b s.tokens = subst (λ (z : Sym). Stuck e z s.tokens) (sym same) (subst (λ (z : State). Stuck e h.y z.tokens) (sym taken) h.stuck) in
        halted_here s r y e taken (stuck_too e s.tokens off stuck)
    go (m ∷ ms) taken runs =
        let open_first = said_not_close taken.0.token m.1 taken.3 (ap closes (sym taken.2) ∙ off) in
        record { ms = m ∷ ms; y = h.y; left = h.left ++ y ∷ []; taken = taken; runs = like_run (m ∷ ms) open_first ∙ run_below (m ∷ ms) (b ∷ bs) (y ∷ []) (h.y ∷ h.left) runs; stuck = h.stuck }

closing_again : (n : ℕ) (s : State) (ts : List Placed) → Forms n close_at itself (λ u. plain Close ∷ []) (λ u. Unit {0}) → Ready n s → s.tokens ≡ ts → closes ts ≡ true → (q : State) × (close_at s ≡ Read tt q)
closing_again n s [] c ready same on = absurd (false≢true on)
closing_again n s (t ∷ ts) c ready same on = (behind s ts, c.again s (behind s ts) tt ready tt (t, ts, same, closing_said t.token on, refl))

next_paces : (n : ℕ) {A : Type 0} (read : State → Outcome A) (print : A → List Marked) (fits : A → Type 0) (y b : Sym) (bs : List Sym) → Lists y b bs → Paces n read itself print fits (b ∷ bs) nothing → Forms n close_at itself (λ u. plain Close ∷ []) (λ u. Unit {0}) → ((x : A) → fits x → starts (print x) ≡ true) → StepPaces n (next_at read) print fits (plain Close ∷ []) y []
unfolding next_at
next_paces n {A} read print fits y b bs l f c begins = record {
  steps = next_steps n read print fits f.forms c begins;
  none_runs = l.ends;
  some_runs = λ x fit. like_run y b bs l (print x) (begins x fit) ∙ run_below (print x) (b ∷ bs) (y ∷ []) [] (f.runs x fit);
  step_halts = λ s r e ready h. by s r e ready h;
} where
  inner : (s r : State) (e : Stopped) → Ready n s → closes s.tokens ≡ false → StopsAt (read s) (λ x q. Read (Some x) q) e r → Halted s r (y ∷ []) e
  inner s r e ready off (here h) = halted_too y b bs l s r e off (f.halts s r e ready h)
  inner s r e ready off (later x q h k) = absurd cc

  by : (s r : State) (e : Stopped) → Ready n s → next_at read s ≡ Stops e r → Halted s r (y ∷ []) e
  by s r e ready h =
      elim (cases_Bool (closes s.tokens)) [
        | inl on ↦
            let k = rw on at h in
            let again = closing_again n s s.tokens c ready refl on in
            let no = rw again.1 at k in
            absurd cc
        | inr off ↦ inner s r e ready off (bind_stops (read s) (λ x q. Read (Some x) q) e r (rw off at h))
      ]

pub list_paces : (n : ℕ) {A : Type 0} (read : State → Outcome A) (print : A → List Marked) (fits : A → Type 0) (y b : Sym) (bs : List Sym) → Lists y b bs → Paces n read itself print fits (b ∷ bs) nothing → Forms n close_at itself (λ u. plain Close ∷ []) (λ u. Unit {0}) → ((x : A) → fits x → starts (print x) ≡ true)
    → Paces n (list_at read) itself (λ xs. flat_map print xs ++ plain Close ∷ []) (AllFit fits) (y ∷ []) nothing
unfolding list_at
list_paces n read print fits y b bs l f c begins = items_paces n (next_at read) print fits (plain Close ∷ []) y [] (next_paces n read print fits y b bs l f c begins)

pub filled_paces : (n : ℕ) {A : Type 0} (read : State → Outcome A) (print : A → List Marked) (fits : A → Type 0) (y b : Sym) (bs : List Sym) → Lists y b bs → Paces n read itself print fits (b ∷ bs) nothing → Forms n close_at itself (λ u. plain Close ∷ []) (λ u. Unit {0}) → ((x : A) → fits x → starts (print x) ≡ true)
    → Paces n (filled_at read) itself (λ xs. flat_map print xs ++ plain Close ∷ []) (Filled fits) (b ∷ (bs ++ y ∷ [])) nothing
unfolding filled_at
filled_paces n {A} read print fits y b bs l f c begins =
    pshaped n (λ xs. flat_map print xs ++ plain Close ∷ []) (Filled fits)
    (pkeep n (y ∷ []) f (λ x. pmapped n (λ (xs : List A). x ∷ xs) (list_paces n read print fits y b bs l f c begins)))
    (λ p fit. (sym (append_assoc (print p.0) (flat_map print p.1) (plain Close ∷ [])), (refl, fit)))
    (λ xs suit. filled_from fits xs suit)
