-- What a reader reads is what is written, and what is written is read: one lemma for each way to put readers together.
use Rattle.std.proofs.Common.{◌≡◌, ℕ, zero, suc, ◌+◌, ◌<◌, ◌≤◌, Bool, true, false, ◌&&◌, List, [], ◌∷◌, ◌++◌, length, Option, Some, None, Result, Ok, Err, refl, sym, ap, subst, ◌∙◌, ◌⊎◌, inl, inr, append_assoc, length-append, arith}
use Rattle.std.specs.Prelude.{if◌then◌else◌}
use Rattle.std.specs.List.{flat_map, list_all}
use Rattle.std.proofs.lemmas.List.{append-nil}
use Rattle.std.proofs.lemmas.Bool.{cases_Bool, false≢true}
use Rattle.al_csv.specs.Fields.{is_digits, without_sign}
use Rattle.al_plan.specs.Grammar.{Word, Open, Close, Name, Variable, Number, Text, Mark, Dataset, Operator, Other, Marked, plain, is_filled}
use Rattle.al_read.specs.declared.token.Token.{Token}
use Rattle.al_read.specs.declared.token.Token.TheVariants as kinds
use Rattle.al_read.specs.declared.token.Placed.{Placed}
use Rattle.al_read.specs.declared.plan.reader.Stopped.{Stopped}
use Rattle.al_read.specs.declared.plan.reader.Stopped.TheVariants as stops
use Rattle.al_read.specs.Reads.{said}
use Rattle.al_read.specs.PlanReading.{State, Outcome, Read, Stops, ◌>>=◌, behind, kept, first_of, from_token, with_operator, with_dataset, more, listed, items_at, list_at, filled_at, next_at, close_at, closes, is_close}

-- ---- what stands between two states

-- behind a token with this mark
abbrev pub noted : Mark → ℕ → State → List Placed → State
noted Other place s ts = behind s ts
noted Operator place s ts = with_operator place (behind s ts)
noted Dataset place s ts = with_dataset place (behind s ts)

-- the words between two states
abbrev pub Taken : State → List Marked → State → Type 0
Taken s [] r = s ≡ r
Taken s (m ∷ ms) r = (t : Placed) × (ts : List Placed) × (s.tokens ≡ t ∷ ts) × (said t.token ≡ m.1) × Taken (noted m.0 t.place s ts) ms r

pub taken_append : (ms ns : List Marked) (s r q : State) → Taken s ms r → Taken r ns q → Taken s (ms ++ ns) q
taken_append [] ns s r q a b = subst (λ (z : State). Taken z ns q) (sym a) b
taken_append (m ∷ ms) ns s r q a b = (a.0, a.1, a.2, a.3, taken_append ms ns (noted m.0 a.0.place s a.1) r q a.4 b)

pub record Halves (s : State) (ms ns : List Marked) (q : State) : Type 0 where
  pub middle : State
  pub front : Taken s ms middle
  pub back : Taken middle ns q

pub taken_split : (ms ns : List Marked) (s q : State) → Taken s (ms ++ ns) q → Halves s ms ns q
taken_split [] ns s q a = record { middle = s; front = refl; back = a }
taken_split (m ∷ ms) ns s q a =
    let h = taken_split ms ns (noted m.0 a.0.place s a.1) q a.4 in
    record { middle = h.middle; front = (a.0, a.1, a.2, a.3, h.front); back = h.back }

noted_tokens : (m : Mark) (place : ℕ) (s : State) (ts : List Placed) → (noted m place s ts).tokens ≡ ts
noted_tokens Other place s ts = refl
noted_tokens Operator place s ts = refl
noted_tokens Dataset place s ts = refl

pub taken_length : (ms : List Marked) (s r : State) → Taken s ms r → length s.tokens ≡ length r.tokens + length ms
taken_length [] s r a = omega (arith, ap (λ (z : State). length z.tokens) a)
taken_length (m ∷ ms) s r a =
    let others = taken_length ms (noted m.0 a.0.place s a.1) r a.4 in
    omega (arith, ap length a.2, ap length (noted_tokens m.0 a.0.place s a.1), others)

-- ---- what reading again asks for

-- names are short, and numbers have digits
abbrev pub IsSound : Token → Type 0
IsSound kinds.Open = Unit {0}
IsSound kinds.Close = Unit {0}
IsSound (kinds.Name name) = length name ≤ 32000
IsSound (kinds.Var name) = Unit {0}
IsSound (kinds.Number digits) = is_digits (without_sign digits) ≡ true
IsSound (kinds.Str content) = Unit {0}

abbrev pub AreSound : List Placed → Type 0
AreSound [] = Unit {0}
AreSound (t ∷ ts) = IsSound t.token × AreSound ts

-- no more tokens than parentheses may open
pub record Ready (n : ℕ) (s : State) : Type 0 where
  pub fuel : length s.tokens ≤ n
  pub sound : AreSound s.tokens

sound_after : (ms : List Marked) (s r : State) → Taken s ms r → AreSound s.tokens → AreSound r.tokens
sound_after [] s r a h = subst (λ (z : State). AreSound z.tokens) a h
sound_after (m ∷ ms) s r a h =
    let both = subst AreSound a.2 h in
    sound_after ms (noted m.0 a.0.place s a.1) r a.4 (subst AreSound (sym (noted_tokens m.0 a.0.place s a.1)) both.1)

pub ready_after : (n : ℕ) (ms : List Marked) (s r : State) → Taken s ms r → Ready n s → Ready n r
ready_after n ms s r a h =
    let fuel = h.fuel in
    record { fuel = omega (arith, taken_length ms s r a); sound = sound_after ms s r a h.sound }

pub ready_within : (n : ℕ) (m : Marked) (s r : State) → Taken s (m ∷ []) r → Ready (suc n) s → Ready n r
ready_within n m s r a h =
    let fuel = h.fuel in
    record { fuel = omega (arith, taken_length (m ∷ []) s r a); sound = sound_after (m ∷ []) s r a h.sound }

-- ---- readers

pub record Found {A X : Type 0} (s r : State) (y : A) (value : X → A) (print : X → List Marked) (fits : X → Type 0) : Type 0 where
  pub x : X
  pub value_is : value x ≡ y
  pub taken : Taken s (print x) r
  pub fit : fits x

-- a reader reads what fits, as it is printed, and that alone
pub record Forms (n : ℕ) {A X : Type 0} (read : State → Outcome A) (value : X → A) (print : X → List Marked) (fits : X → Type 0) : Type 0 where
  pub takes : (s r : State) (y : A) → read s ≡ Read y r → Found s r y value print fits
  pub again : (s r : State) (x : X) → Ready n s → fits x → Taken s (print x) r → read s ≡ Read (value x) r

abbrev pub itself : {A : Type 0} → A → A
itself x = x

pub record Bound {A B : Type 0} (o : Outcome A) (f : A → State → Outcome B) (y : B) (q : State) : Type 0 where
  pub x : A
  pub at : State
  pub first : o ≡ Read x at
  pub second : f x at ≡ Read y q

-- the value of a step that did not stop
pub bind_read : {A B : Type 0} (o : Outcome A) (f : A → State → Outcome B) (y : B) (q : State) → (o >>= f) ≡ Read y q → Bound o f y q
bind_read (Read x s) f y q e = record { x = x; at = s; first = refl; second = e }
bind_read (Stops k s) f y q e = absurd cc

pub read_value : {A : Type 0} (x y : A) (s r : State) → Read x s ≡ Read y r → x ≡ y
read_value x y s r e = cc

pub read_state : {A : Type 0} (x y : A) (s r : State) → Read x s ≡ Read y r → s ≡ r
read_state x y s r e = cc

-- nothing is left to read
pub done : (n : ℕ) {A : Type 0} (y : A) → Forms n (λ s. Read y s) (λ (u : Unit {0}). y) (λ u. []) (λ u. Unit {0})
done n y = record {
  takes = λ s r z e. record { x = tt; value_is = read_value y z s r e; taken = read_state y z s r e; fit = tt };
  again = λ s r u ready fit taken. ap (λ (z : State). Read y z) taken;
}

-- a word, and what the next one reads
pub skip : (n : ℕ) {A X : Type 0} (m : Marked) {word : State → Outcome (Unit {0})} {next : State → Outcome A} {value : X → A} {print : X → List Marked} {fits : X → Type 0}
    → Forms n word itself (λ u. m ∷ []) (λ u. Unit {0}) → Forms n next value print fits
    → Forms n (λ s. word s >>= λ u r. next r) value (λ x. m ∷ print x) fits
skip n {A} {X} m {word} {next} {value} {print} {fits} w f = record {
  takes = λ s q y e.
      let b = bind_read (word s) (λ u r. next r) y q e in
      let t = w.takes s b.at b.x b.first in
      let g = f.takes b.at q y b.second in
      record { x = g.x; value_is = g.value_is; taken = taken_append (m ∷ []) (print g.x) s b.at q t.taken g.taken; fit = g.fit };
  again = λ s q x ready fit taken.
      let h = taken_split (m ∷ []) (print x) s q taken in
      let one = w.again s h.middle tt ready tt h.front in
      ap (λ (o : Outcome (Unit {0})). o >>= λ u r. next r) one ∙ f.again h.middle q x (ready_after n (m ∷ []) s h.middle h.front ready) fit h.back;
}

-- the same, where a parenthesis opens
pub nest : (n : ℕ) {A X : Type 0} (m : Marked) {word : State → Outcome (Unit {0})} {next : State → Outcome A} {value : X → A} {print : X → List Marked} {fits : X → Type 0}
    → ((k : ℕ) → Forms k word itself (λ u. m ∷ []) (λ u. Unit {0})) → Forms n next value print fits
    → Forms (suc n) (λ s. word s >>= λ u r. next r) value (λ x. m ∷ print x) fits
nest n {A} {X} m {word} {next} {value} {print} {fits} w f = record {
  takes = λ s q y e.
      let b = bind_read (word s) (λ u r. next r) y q e in
      let t = (w n).takes s b.at b.x b.first in
      let g = f.takes b.at q y b.second in
      record { x = g.x; value_is = g.value_is; taken = taken_append (m ∷ []) (print g.x) s b.at q t.taken g.taken; fit = g.fit };
  again = λ s q x ready fit taken.
      let h = taken_split (m ∷ []) (print x) s q taken in
      let one = (w (suc n)).again s h.middle tt ready tt h.front in
      ap (λ (o : Outcome (Unit {0})). o >>= λ u r. next r) one ∙ f.again h.middle q x (ready_within n m s h.middle h.front ready) fit h.back;
}

-- one after the other
pub keep : (n : ℕ) {A B : Type 0} {Y : A → Type 0} {read : State → Outcome A} {shown : A → List Marked} {suits : A → Type 0} {next : A → State → Outcome B}
    {value : (x : A) → Y x → B} {print : (x : A) → Y x → List Marked} {fits : (x : A) → Y x → Type 0}
    → Forms n read itself shown suits → ((x : A) → Forms n (next x) (value x) (print x) (fits x))
    → Forms n {X = (x : A) × Y x} (λ s. read s >>= next) (λ p. value p.0 p.1) (λ p. shown p.0 ++ print p.0 p.1) (λ p. suits p.0 × fits p.0 p.1)
keep n {A} {B} {Y} {read} {shown} {suits} {next} {value} {print} {fits} f g = record {
  takes = λ s q y e.
      let b = bind_read (read s) next y q e in
      let t = f.takes s b.at b.x b.first in
      let u = (g b.x).takes b.at q y b.second in
      record {
        x = (b.x, u.x);
        value_is = u.value_is;
        taken = taken_append (shown b.x) (print b.x u.x) s b.at q (subst (λ (z : A). Taken s (shown z) b.at) t.value_is t.taken) u.taken;
        fit = (subst suits t.value_is t.fit, u.fit);
      };
  again = λ s q p ready fit taken.
      let h = taken_split (shown p.0) (print p.0 p.1) s q taken in
      let one = f.again s h.middle p.0 ready fit.0 h.front in
      ap (λ (o : Outcome A). o >>= next) one ∙ (g p.0).again h.middle q p.1 (ready_after n (shown p.0) s h.middle h.front ready) fit.1 h.back;
}

-- what is read, told of its value
pub shaped : (n : ℕ) {A X : Type 0} {read : State → Outcome A} {value : X → A} {print : X → List Marked} {fits : X → Type 0} (shown : A → List Marked) (suits : A → Type 0)
    → Forms n read value print fits
    → ((x : X) → fits x → (print x ≡ shown (value x)) × suits (value x))
    → ((y : A) → suits y → (x : X) × (value x ≡ y) × fits x)
    → Forms n read itself shown suits
shaped n {A} {X} {read} {value} {print} {fits} shown suits f to from = record {
  takes = λ s r y e.
      let g = f.takes s r y e in
      let t = to g.x g.fit in
      record {
        x = y;
        value_is = refl;
        taken = subst (λ (z : A). Taken s (shown z) r) g.value_is (subst (λ (ms : List Marked). Taken s ms r) t.0 g.taken);
        fit = subst suits g.value_is t.1;
      };
  again = λ s r y ready suit taken.
      let g = from y suit in
      let t = to g.0 g.2 in
      let there = subst (λ (ms : List Marked). Taken s ms r) (ap shown (sym g.1) ∙ sym t.0) taken in
      f.again s r g.0 ready g.2 there ∙ ap (λ (z : A). Read z r) g.1;
}

-- ---- one token

made_ok : {A : Type 0} (o : Result A Stopped) (s : State) (ts : List Placed) (y : A) (r : State) → kept s ts o ≡ Read y r → (o ≡ Ok y) × (behind s ts ≡ r)
made_ok (Ok x) s ts y r e = (ap (λ (z : _). Ok z) (read_value x y (behind s ts) r e), read_state x y (behind s ts) r e)
made_ok (Err k) s ts y r e = absurd cc

pub token_forms : (n : ℕ) {A : Type 0} (make : Token → Result A Stopped) (word : A → Word) (fits : A → Type 0)
    → ((t : Token) (x : A) → make t ≡ Ok x → (said t ≡ word x) × fits x)
    → ((t : Token) (x : A) → IsSound t → said t ≡ word x → fits x → make t ≡ Ok x)
    → Forms n (λ s. from_token make s) itself (λ x. plain (word x) ∷ []) fits
token_forms n {A} make word fits to from = record {
  takes = λ s r y e. token_takes s s.tokens refl r y e;
  again = λ s r x ready fit taken.
      let sound = subst AreSound taken.2 ready.sound in
      let made = from taken.0.token x sound.0 taken.3 fit in
      ap (first_of make s) taken.2 ∙ ap (kept s taken.1) made ∙ ap (λ (z : State). Read x z) taken.4;
} where
  token_takes : (s : State) (ts : List Placed) → s.tokens ≡ ts → (r : State) (y : A) → first_of make s ts ≡ Read y r → Found s r y itself (λ x. plain (word x) ∷ []) fits
  token_takes s [] same r y e = absurd cc
  token_takes s (t ∷ ts) same r y e =
      let m = made_ok (make t.token) s ts y r e in
      let h = to t.token y m.0 in
      record { x = y; value_is = refl; taken = (t, ts, same, h.0, m.1); fit = h.1 }

-- ---- more ways to put readers together

-- what is made of what is read
pub mapped : (n : ℕ) {A B : Type 0} {read : State → Outcome A} {shown : A → List Marked} {suits : A → Type 0} (make : A → B) → Forms n read itself shown suits → Forms n (λ s. read s >>= λ x r. Read (make x) r) make shown suits
mapped n {A} {B} {read} {shown} {suits} make f = record {
  takes = λ s q y e.
      let b = bind_read (read s) (λ x r. Read (make x) r) y q e in
      let t = f.takes s b.at b.x b.first in
      let there = read_state (make b.x) y b.at q b.second in
      record {
        x = b.x;
        value_is = read_value (make b.x) y b.at q b.second;
        taken = subst (λ (z : State). Taken s (shown b.x) z) there (subst (λ (z : A). Taken s (shown z) b.at) t.value_is t.taken);
        fit = subst suits t.value_is t.fit;
      };
  again = λ s q x ready fit taken. ap (λ (o : Outcome A). o >>= λ x r. Read (make x) r) (f.again s q x ready fit taken);
}

-- a token with another shape
pub token_shapes : (n : ℕ) {A X : Type 0} (make : Token → Result A Stopped) (value : X → A) (word : X → Word) (fits : X → Type 0)
    → ((t : Token) (y : A) → make t ≡ Ok y → (x : X) × (value x ≡ y) × (said t ≡ word x) × fits x)
    → ((t : Token) (x : X) → IsSound t → said t ≡ word x → fits x → make t ≡ Ok (value x))
    → Forms n (λ s. from_token make s) value (λ x. plain (word x) ∷ []) fits
token_shapes n {A} {X} make value word fits to from = record {
  takes = λ s r y e. token_takes s s.tokens refl r y e;
  again = λ s r x ready fit taken.
      let sound = subst AreSound taken.2 ready.sound in
      let made = from taken.0.token x sound.0 taken.3 fit in
      ap (first_of make s) taken.2 ∙ ap (kept s taken.1) made ∙ ap (λ (z : State). Read (value x) z) taken.4;
} where
  token_takes : (s : State) (ts : List Placed) → s.tokens ≡ ts → (r : State) (y : A) → first_of make s ts ≡ Read y r → Found s r y value (λ x. plain (word x) ∷ []) fits
  token_takes s [] same r y e = absurd cc
  token_takes s (t ∷ ts) same r y e =
      let m = made_ok (make t.token) s ts y r e in
      let h = to t.token y m.0 in
      record { x = h.0; value_is = h.1; taken = (t, ts, same, h.2, m.1); fit = h.3 }

-- ---- two ways to go on

abbrev pub either_value : {A X Y : Type 0} → (X → A) → (Y → A) → X ⊎ Y → A
either_value f g (inl x) = f x
either_value f g (inr y) = g y

abbrev pub either_fits : {X Y : Type 0} → (X → Type 0) → (Y → Type 0) → X ⊎ Y → Type 0
either_fits f g (inl x) = f x
either_fits f g (inr y) = g y

-- which of two readers reads goes by the first token
pub forked : (n : ℕ) {A X Y : Type 0} (test : List Placed → Bool) {left right : State → Outcome A} {value : X → A} {print : X → List Marked} {fits : X → Type 0} {made : Y → A} {shown : Y → List Marked} {suits : Y → Type 0}
    → Forms n left value print fits → Forms n right made shown suits
    → ((s r : State) (x : X) → fits x → Taken s (print x) r → test s.tokens ≡ true) → ((s r : State) (y : Y) → suits y → Taken s (shown y) r → test s.tokens ≡ false)
    → Forms n (λ s. if test s.tokens then left s else right s) (either_value value made) (either_value print shown) (either_fits fits suits)
forked n {A} {X} {Y} test {left} {right} {value} {print} {fits} {made} {shown} {suits} f g is isnt = record {
  takes = λ s r y e.
      elim (cases_Bool (test s.tokens)) [
        | inl on ↦ let t = f.takes s r y (rw on at e) in record { x = inl t.x; value_is = t.value_is; taken = t.taken; fit = t.fit }
        | inr off ↦ let t = g.takes s r y (rw off at e) in record { x = inr t.x; value_is = t.value_is; taken = t.taken; fit = t.fit }
      ];
  again = λ s r p ready. choose s r p ready;
} where
  choose : (s r : State) (p : X ⊎ Y) → Ready n s → either_fits fits suits p → Taken s (either_value print shown p) r → (if test s.tokens then left s else right s) ≡ Read (either_value value made p) r
  choose s r (inl x) ready fit taken = rw (is s r x fit taken) (f.again s r x ready fit taken)
  choose s r (inr y) ready fit taken = rw (isnt s r y fit taken) (g.again s r y ready fit taken)

-- ---- lists

abbrev pub AllFit : {A : Type 0} → (A → Type 0) → List A → Type 0
AllFit fits [] = Unit {0}
AllFit fits (x ∷ xs) = fits x × AllFit fits xs

-- a step gives an item, or none where the list ends
pub record Steps (n : ℕ) {A : Type 0} (step : State → Outcome (Option A)) (print : A → List Marked) (fits : A → Type 0) (ending : List Marked) : Type 0 where
  pub none_takes : (s r : State) → step s ≡ Read None r → Taken s ending r
  pub some_takes : (s r : State) (x : A) → step s ≡ Read (Some x) r → Taken s (print x) r × fits x
  pub none_again : (s r : State) → Ready n s → Taken s ending r → step s ≡ Read None r
  pub some_again : (s r : State) (x : A) → Ready n s → fits x → Taken s (print x) r → step s ≡ Read (Some x) r
  pub some_words : (x : A) → fits x → 0 < length (print x)
  pub end_words : 0 < length ending

module _ (n : ℕ) {A : Type 0} (step : State → Outcome (Option A)) (print : A → List Marked) (fits : A → Type 0) (ending : List Marked) (steps : Steps n step print fits ending) where
  abbrev Listing : ℕ → Type 0
  Listing m = (s r : State) (xs : List A) → listed m step s ≡ Read xs r → Taken s (flat_map print xs ++ ending) r × AllFit fits xs

  taking : (m : ℕ) → Listing m → (s r : State) (xs : List A) (o : Option A) (at : State) → step s ≡ Read o at → more (listed m step) o at ≡ Read xs r → Taken s (flat_map print xs ++ ending) r × AllFit fits xs
  taking m rec s r xs None at first second =
      let none = read_value [] xs at r second in
      let there = read_state [] xs at r second in
      let taken = steps.none_takes s at first in
      (subst (λ (ys : List A). Taken s (flat_map print ys ++ ending) r) none (subst (λ (z : State). Taken s ending z) there taken), subst (AllFit fits) none tt)
  taking m rec s r xs (Some x) at first second =
      let b = bind_read (listed m step at) (λ ys z. Read (x ∷ ys) z) xs r second in
      let same = read_value (x ∷ b.x) xs b.at r b.second in
      let there = read_state (x ∷ b.x) xs b.at r b.second in
      let one = steps.some_takes s at x first in
      let others = rec at b.at b.x b.first in
      let all = taken_append (print x) (flat_map print b.x ++ ending) s at b.at one.0 others.0 in
      let joined = subst (λ (ms : List Marked). Taken s ms b.at) (sym (append_assoc (print x) (flat_map print b.x) ending)) all in
      (subst (λ (ys : List A). Taken s (flat_map print ys ++ ending) r) same (subst (λ (z : State). Taken s ((print x ++ flat_map print b.x) ++ ending) z) there joined), subst (AllFit fits) same (one.1, others.1))

  listed_takes : (m : ℕ) → Listing m
  unfolding listed
  listed_takes zero = λ s r xs e. absurd cc
  listed_takes (suc m) = λ s r xs e.
      let b = bind_read (step s) (more (listed m step)) xs r e in
      taking m (listed_takes m) s r xs b.x b.at b.first b.second

  listed_again : (m : ℕ) (s r : State) (xs : List A) → Ready n s → length s.tokens ≤ m → AllFit fits xs → Taken s (flat_map print xs ++ ending) r → listed m step s ≡ Read xs r
  unfolding listed
  listed_again zero s r xs ready few fit taken =
      let end_words = steps.end_words in
      absurd (omega (arith, taken_length (flat_map print xs ++ ending) s r taken, length-append (flat_map print xs) ending))
  listed_again (suc m) s r [] ready few fit taken = ap (λ (o : Outcome (Option A)). o >>= more (listed m step)) (steps.none_again s r ready taken)
  listed_again (suc m) s r (x ∷ xs) ready few fit taken =
      let apart = subst (λ (ms : List Marked). Taken s ms r) (append_assoc (print x) (flat_map print xs) ending) taken in
      let h = taken_split (print x) (flat_map print xs ++ ending) s r apart in
      let some = steps.some_words x fit.0 in
      let shorter : length h.middle.tokens ≤ m = omega (arith, taken_length (print x) s h.middle h.front) in
      let one = steps.some_again s h.middle x ready fit.0 h.front in
      let others = listed_again m h.middle r xs (ready_after n (print x) s h.middle h.front ready) shorter fit.1 h.back in
      ap (λ (o : Outcome (Option A)). o >>= more (listed m step)) one ∙ ap (λ (o : Outcome (List A)). o >>= λ ys z. Read (x ∷ ys) z) others

  pub items_form : Forms n (λ s. items_at step s) itself (λ xs. flat_map print xs ++ ending) (AllFit fits)
  items_form = record {
    takes = λ s r xs e. let t = listed_takes (length s.tokens) s r xs e in record { x = xs; value_is = refl; taken = t.0; fit = t.1 };
    again = λ s r xs ready fit taken. listed_again (length s.tokens) s r xs ready (omega arith) fit taken;
  }

-- ---- up to a parenthesis that closes

abbrev pub not_close : Word → Bool
not_close Open = true
not_close Close = false
not_close (Name w) = true
not_close (Variable w) = true
not_close (Number z) = true
not_close (Text w) = true

-- something begins that isn't a parenthesis that closes
abbrev pub starts : List Marked → Bool
starts [] = false
starts (m ∷ ms) = not_close m.1

closing_said : (t : Token) (w : Word) → said t ≡ w → not_close w ≡ true → is_close t ≡ false
closing_said kinds.Open w e h = refl
closing_said kinds.Close w e h = absurd (false≢true (ap not_close e ∙ h))
closing_said (kinds.Name x) w e h = refl
closing_said (kinds.Var x) w e h = refl
closing_said (kinds.Number x) w e h = refl
closing_said (kinds.Str x) w e h = refl

closing_is : (t : Token) → said t ≡ Close → is_close t ≡ true
closing_is kinds.Open e = absurd cc
closing_is kinds.Close e = refl
closing_is (kinds.Name x) e = absurd cc
closing_is (kinds.Var x) e = absurd cc
closing_is (kinds.Number x) e = absurd cc
closing_is (kinds.Str x) e = absurd cc

pub not_closing : (ms : List Marked) (s r : State) → starts ms ≡ true → Taken s ms r → closes s.tokens ≡ false
not_closing [] s r h taken = absurd (false≢true h)
not_closing (m ∷ ms) s r h taken = ap closes taken.2 ∙ closing_said taken.0.token m.1 taken.3 h

pub starts_words : (ms : List Marked) → starts ms ≡ true → 0 < length ms
starts_words [] h = absurd (false≢true h)
starts_words (m ∷ ms) h = omega arith

pub next_steps : (n : ℕ) {A : Type 0} (read : State → Outcome A) (print : A → List Marked) (fits : A → Type 0) → Forms n read itself print fits → Forms n close_at itself (λ u. plain Close ∷ []) (λ u. Unit {0}) → ((x : A) → fits x → starts (print x) ≡ true) → Steps n (next_at read) print fits (plain Close ∷ [])
unfolding next_at
next_steps n {A} read print fits f c begins = record {
  none_takes = λ s r e. none s r e;
  some_takes = λ s r x e. some s r x e;
  none_again = λ s r ready taken.
      let on : closes s.tokens ≡ true = ap closes taken.2 ∙ closing_is taken.0.token taken.3 in
      rw on (ap (λ (o : Outcome (Unit {0})). o >>= λ u z. Read None z) (c.again s r tt ready tt taken));
  some_again = λ s r x ready fit taken.
      let off = not_closing (print x) s r (begins x fit) taken in
      rw off (ap (λ (o : Outcome A). o >>= λ y z. Read (Some y) z) (f.again s r x ready fit taken));
  some_words = λ x fit. starts_words (print x) (begins x fit);
  end_words = omega arith;
} where
  none : (s r : State) → next_at read s ≡ Read None r → Taken s (plain Close ∷ []) r
  none s r e =
      elim (cases_Bool (closes s.tokens)) [
        | inl on ↦
            let b = bind_read (close_at s) (λ u z. Read None z) None r (rw on at e) in
            let t = c.takes s b.at b.x b.first in
            subst (λ (z : State). Taken s (plain Close ∷ []) z) (read_state None None b.at r b.second) t.taken
        | inr off ↦
            let b = bind_read (read s) (λ y z. Read (Some y) z) None r (rw off at e) in
            let h = read_value (Some b.x) None b.at r b.second in
            absurd cc
      ]

  some : (s r : State) (x : A) → next_at read s ≡ Read (Some x) r → Taken s (print x) r × fits x
  some s r x e =
      elim (cases_Bool (closes s.tokens)) [
        | inl on ↦
            let b = bind_read (close_at s) (λ u z. Read None z) (Some x) r (rw on at e) in
            let h = read_value None (Some x) b.at r b.second in
            absurd cc
        | inr off ↦
            let b = bind_read (read s) (λ y z. Read (Some y) z) (Some x) r (rw off at e) in
            let h = read_value (Some b.x) (Some x) b.at r b.second in
            let same : b.x ≡ x = cc in
            let t = f.takes s b.at b.x b.first in
            let taken = subst (λ (y : A). Taken s (print y) b.at) (t.value_is ∙ same) t.taken in
            (subst (λ (z : State). Taken s (print x) z) (read_state (Some b.x) (Some x) b.at r b.second) taken, subst fits (t.value_is ∙ same) t.fit)
      ]

pub list_form : (n : ℕ) {A : Type 0} (read : State → Outcome A) (print : A → List Marked) (fits : A → Type 0) → Forms n read itself print fits → Forms n close_at itself (λ u. plain Close ∷ []) (λ u. Unit {0}) → ((x : A) → fits x → starts (print x) ≡ true)
    → Forms n (list_at read) itself (λ xs. flat_map print xs ++ plain Close ∷ []) (AllFit fits)
unfolding list_at
list_form n read print fits f c begins = items_form n (next_at read) print fits (plain Close ∷ []) (next_steps n read print fits f c begins)

abbrev pub Filled : {A : Type 0} → (A → Type 0) → List A → Type 0
Filled fits xs = (is_filled xs ≡ true) × AllFit fits xs

pub filled_from : {A : Type 0} (fits : A → Type 0) (xs : List A) → Filled fits xs → (p : A × List A) × (p.0 ∷ p.1 ≡ xs) × (fits p.0 × AllFit fits p.1)
filled_from fits [] h = absurd (false≢true h.0)
filled_from fits (x ∷ xs) h = ((x, xs), refl, h.1)

pub filled_form : (n : ℕ) {A : Type 0} (read : State → Outcome A) (print : A → List Marked) (fits : A → Type 0) → Forms n read itself print fits → Forms n close_at itself (λ u. plain Close ∷ []) (λ u. Unit {0}) → ((x : A) → fits x → starts (print x) ≡ true)
    → Forms n (filled_at read) itself (λ xs. flat_map print xs ++ plain Close ∷ []) (Filled fits)
unfolding filled_at
filled_form n {A} read print fits f c begins =
    shaped n (λ xs. flat_map print xs ++ plain Close ∷ []) (Filled fits)
    (keep n f (λ x. mapped n (λ (xs : List A). x ∷ xs) (list_form n read print fits f c begins)))
    (λ p fit. (sym (append_assoc (print p.0) (flat_map print p.1) (plain Close ∷ [])), (refl, fit)))
    (λ xs suit. filled_from fits xs suit)
