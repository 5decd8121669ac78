-- Expressions, and what operators hold beside their inputs.
use Rattle.std.proofs.Common.{◌≡◌, ℕ, zero, suc, ◌+◌, ◌<◌, ◌≤◌, ◌^◌, Bool, true, false, ◌&&◌, ◌⊎◌, inl, inr, List, [], ◌∷◌, ◌++◌, length, map, Option, Some, None, Result, Ok, Err, ℤ, pos, negsuc, refl, sym, ap, subst, ◌∙◌, append_assoc, codes, arith}
use Rattle.std.specs.Prelude.{if◌then◌else◌}
use Rattle.std.specs.List.{flat_map, list_all}
use Rattle.std.specs.Str.{bytes_eq}
use Rattle.std.proofs.lemmas.List.{append-nil}
use Rattle.std.proofs.lemmas.Bool.{cases_Bool, false≢true, and_from, and_parts}
use Rattle.std.proofs.lemmas.Bool.Decides.{nat_tests}
use Rattle.std.proofs.lemmas.Slice.Eq.{bytes_eq-Decides}
use Rattle.al_value.specs.declared.value.Value.{Value}
use Rattle.al_value.specs.declared.value.Value.TheVariants as V
use Rattle.al_func.specs.declared.func.Func.{Func}
use Rattle.al_func.specs.Func.{is_i64}
use Rattle.al_agg.specs.declared.agg.Agg.{Agg}
use Rattle.al_agg.specs.declared.agg.Agg.TheVariants as A
use Rattle.al_csv.specs.Fields.{int_of, is_digits, fits_int, without_sign}
use Rattle.al_csv.specs.declared.decl.Column.{Column}
use Rattle.al_plan.specs.declared.expr.Var.{Var}
use Rattle.al_plan.specs.declared.expr.Expr.{Expr, roll-Expr, ind-Expr, fold-roll-Expr}
use Rattle.al_plan.specs.declared.expr.Expr.TheVariants as E
use Rattle.al_plan.specs.declared.expr.Expr.TheOpen as L
use Rattle.al_plan.specs.declared.plan.OrderKey.{OrderKey}
use Rattle.al_plan.specs.declared.plan.AggCall.{AggCall}
use Rattle.al_plan.specs.declared.plan.AggCall.TheVariants as C
use Rattle.al_plan.specs.declared.plan.Generator.{Generator}
use Rattle.al_plan.specs.declared.plan.Generator.TheVariants as G
use Rattle.al_plan.specs.Names.{item_exprs, agg_exprs}
use Rattle.al_plan.specs.Grammar.{Word, Open, Close, Name, Variable, Number, Text, Marked, plain, enclosed, func_name, kind_name, direction, literal, literal_fits, variable, expr_words, expr_words_step, expr_fits, expr_fits_step, variables, call_words, agg_words, generator_words, assigned_words, aggregated_words, key_words, order_words, column_words}
use Rattle.al_read.specs.declared.token.Token.{Token}
use Rattle.al_read.specs.declared.token.Token.TheVariants as kinds
use Rattle.al_read.specs.declared.token.Placed.{Placed}
use Rattle.al_read.specs.declared.plan.reader.Stopped.{Stopped}
use Rattle.al_read.specs.Reads.{said}
use Rattle.al_read.specs.PlanReading.{State, Outcome, Read, Stops, ◌>>=◌, leaf_of, literal_named, is_int, int_of_digits, int_literal, open_at, close_at, leaf_at, opens, is_open, list_at, call_at, expr_at, agg_args_at, agg_at, generated, generator_at, assigned_at, aggregated_at, key_at, order_at, variables_at, variable_at, column_at}
use Rattle.al_read.proofs.PlanForms.{Forms, Ready, Taken, IsSound, itself, taken_length, done, skip, nest, keep, shaped, mapped, forked, either_value, either_fits, token_shapes, AllFit, list_form, starts, starts_words, not_close}
use Rattle.al_read.proofs.PlanWords.{opens_form, closes_form, variable_form, func_form, agg_form, agg_name, split_form, direction_form, name_form, kind_form}

-- ---- expressions of one token

pub data Simple : Type 0 where
  OfVar : Var → Simple
  OfValue : Value → Simple

abbrev pub simple : Simple → Expr
simple (OfVar v) = E.Var v
simple (OfValue v) = E.Lit v

abbrev pub simple_word : Simple → Word
simple_word (OfVar v) = Variable v.name
simple_word (OfValue v) = literal v

abbrev pub SimpleFits : Simple → Type 0
SimpleFits (OfVar v) = Unit {0}
SimpleFits (OfValue v) = literal_fits v ≡ true

pub fits_same : (z : ℤ) → fits_int z ≡ is_i64 z
fits_same (pos n) = grind (arith, nat_tests)
fits_same (negsuc n) = grind (arith, nat_tests)

word_is : (x y : List ℕ) → bytes_eq x y ≡ true → x ≡ y
word_is x y e = (bytes_eq-Decides x y).0 e

abbrev oked : Expr → Result Expr Stopped
oked e = Ok e

ok_same : (x y : Expr) → oked x ≡ oked y → x ≡ y
ok_same x y e = cc

abbrev Leafy : Token → Expr → Type 0
Leafy t y = (x : Simple) × (simple x ≡ y) × (said t ≡ simple_word x) × SimpleFits x

number_leaf : (w : List ℕ) (y : Expr) → int_literal (int_of_digits w) ≡ Ok y → Leafy (kinds.Number w) y
number_leaf w y e =
    elim (cases_Bool (is_int w)) [
      | inl on ↦
          let h = rw on at e in
          let fits = (and_parts (is_digits (without_sign w)) (fits_int (int_of w)) on).1 in
          (OfValue (V.Int (int_of w)), ok_same (E.Lit (V.Int (int_of w))) y h, refl, sym (fits_same (int_of w)) ∙ fits)
      | inr off ↦ let h = rw off at e in absurd cc
    ]

name_leaf : (w : List ℕ) (y : Expr) → literal_named w ≡ Ok y → Leafy (kinds.Name w) y
name_leaf w y e =
    elim (cases_Bool (bytes_eq w (codes "null"))) [
      | inl on ↦ (OfValue V.Null, ok_same (E.Lit V.Null) y (rw on at e), ap (λ (x : List ℕ). Name x) (word_is w (codes "null") on), refl)
      | inr off ↦ elim (cases_Bool (bytes_eq w (codes "true"))) [
        | inl on ↦ (OfValue (V.Bool true), ok_same (E.Lit (V.Bool true)) y (rw (off, on) at e), ap (λ (x : List ℕ). Name x) (word_is w (codes "true") on), refl)
        | inr off2 ↦ elim (cases_Bool (bytes_eq w (codes "false"))) [
          | inl on ↦ (OfValue (V.Bool false), ok_same (E.Lit (V.Bool false)) y (rw (off, off2, on) at e), ap (λ (x : List ℕ). Name x) (word_is w (codes "false") on), refl)
          | inr off3 ↦ let h = rw (off, off2, off3) at e in absurd cc
        ]
      ]
    ]

abbrev var : List ℕ → Var
var name = record { name = name }

leaf_to : (t : Token) (y : Expr) → leaf_of t ≡ Ok y → Leafy t y
leaf_to kinds.Open y e = absurd cc
leaf_to kinds.Close y e = absurd cc
leaf_to (kinds.Name w) y e = name_leaf w y e
leaf_to (kinds.Var w) y e = (OfVar (var w), ok_same (E.Var (var w)) y e, refl, tt)
leaf_to (kinds.Number w) y e = number_leaf w y e
leaf_to (kinds.Str w) y e = (OfValue (V.Text w), ok_same (E.Lit (V.Text w)) y e, refl, refl)

name_same : (x y : List ℕ) → Name x ≡ Name y → x ≡ y
name_same x y e = cc

variable_same : (x y : List ℕ) → Variable x ≡ Variable y → x ≡ y
variable_same x y e = cc

text_same : (x y : List ℕ) → Text x ≡ Text y → x ≡ y
text_same x y e = cc

number_same : (x y : ℤ) → Number x ≡ Number y → x ≡ y
number_same x y e = cc

number_again : (w : List ℕ) (z : ℤ) → is_digits (without_sign w) ≡ true → int_of w ≡ z → is_i64 z ≡ true → int_literal (int_of_digits w) ≡ Ok (E.Lit (V.Int z))
number_again w z digits e fits =
    let all : is_int w ≡ true = and_from (is_digits (without_sign w)) (fits_int (int_of w)) digits (fits_same (int_of w) ∙ ap is_i64 e ∙ fits) in
    rw (all, e) refl

leaf_from : (t : Token) (x : Simple) → IsSound t → said t ≡ simple_word x → SimpleFits x → leaf_of t ≡ Ok (simple x)
leaf_from kinds.Open (OfVar v) sound e fit = absurd cc
leaf_from kinds.Close (OfVar v) sound e fit = absurd cc
leaf_from (kinds.Name w) (OfVar v) sound e fit = absurd cc
leaf_from (kinds.Var w) (OfVar v) sound e fit = ap (λ (x : List ℕ). oked (E.Var (var x))) (variable_same w v.name e)
leaf_from (kinds.Number w) (OfVar v) sound e fit = absurd cc
leaf_from (kinds.Str w) (OfVar v) sound e fit = absurd cc
leaf_from kinds.Open (OfValue V.Null) sound e fit = absurd cc
leaf_from kinds.Close (OfValue V.Null) sound e fit = absurd cc
leaf_from (kinds.Name w) (OfValue V.Null) sound e fit = ap literal_named (name_same w (codes "null") e)
leaf_from (kinds.Var w) (OfValue V.Null) sound e fit = absurd cc
leaf_from (kinds.Number w) (OfValue V.Null) sound e fit = absurd cc
leaf_from (kinds.Str w) (OfValue V.Null) sound e fit = absurd cc
leaf_from kinds.Open (OfValue (V.Bool true)) sound e fit = absurd cc
leaf_from kinds.Close (OfValue (V.Bool true)) sound e fit = absurd cc
leaf_from (kinds.Name w) (OfValue (V.Bool true)) sound e fit = ap literal_named (name_same w (codes "true") e)
leaf_from (kinds.Var w) (OfValue (V.Bool true)) sound e fit = absurd cc
leaf_from (kinds.Number w) (OfValue (V.Bool true)) sound e fit = absurd cc
leaf_from (kinds.Str w) (OfValue (V.Bool true)) sound e fit = absurd cc
leaf_from kinds.Open (OfValue (V.Bool false)) sound e fit = absurd cc
leaf_from kinds.Close (OfValue (V.Bool false)) sound e fit = absurd cc
leaf_from (kinds.Name w) (OfValue (V.Bool false)) sound e fit = ap literal_named (name_same w (codes "false") e)
leaf_from (kinds.Var w) (OfValue (V.Bool false)) sound e fit = absurd cc
leaf_from (kinds.Number w) (OfValue (V.Bool false)) sound e fit = absurd cc
leaf_from (kinds.Str w) (OfValue (V.Bool false)) sound e fit = absurd cc
leaf_from kinds.Open (OfValue (V.Int z)) sound e fit = absurd cc
leaf_from kinds.Close (OfValue (V.Int z)) sound e fit = absurd cc
leaf_from (kinds.Name w) (OfValue (V.Int z)) sound e fit = absurd cc
leaf_from (kinds.Var w) (OfValue (V.Int z)) sound e fit = absurd cc
leaf_from (kinds.Number w) (OfValue (V.Int z)) sound e fit = number_again w z sound (number_same (int_of w) z e) fit
leaf_from (kinds.Str w) (OfValue (V.Int z)) sound e fit = absurd cc
leaf_from kinds.Open (OfValue (V.Text x)) sound e fit = absurd cc
leaf_from kinds.Close (OfValue (V.Text x)) sound e fit = absurd cc
leaf_from (kinds.Name w) (OfValue (V.Text x)) sound e fit = absurd cc
leaf_from (kinds.Var w) (OfValue (V.Text x)) sound e fit = absurd cc
leaf_from (kinds.Number w) (OfValue (V.Text x)) sound e fit = absurd cc
leaf_from (kinds.Str w) (OfValue (V.Text x)) sound e fit = ap (λ (y : List ℕ). oked (E.Lit (V.Text y))) (text_same w x e)

leaf_form : (n : ℕ) → Forms n leaf_at simple (λ x. plain (simple_word x) ∷ []) SimpleFits
unfolding leaf_at
leaf_form n = token_shapes n leaf_of simple simple_word SimpleFits leaf_to leaf_from

-- ---- layers of expressions

flat_itself : {X : Type 0} (f : X → List Marked) (xs : List X) → flat_map (λ a. a) (map f xs) ≡ flat_map f xs
flat_itself f [] = refl
flat_itself f (x ∷ xs) = ap (λ (l : List Marked). f x ++ l) (flat_itself f xs)

all_itself : {X : Type 0} (f : X → Bool) (xs : List X) → list_all (λ a. a) (map f xs) ≡ list_all f xs
all_itself f [] = refl
all_itself f (x ∷ xs) = ap (λ (b : Bool). f x && b) (all_itself f xs)

pub words-simple : (x : Simple) → plain (simple_word x) ∷ [] ≡ expr_words (simple x)
unfolding expr_words
words-simple (OfVar v) = sym (ap expr_words (sym (E.rolls-Var v)) ∙ fold-roll-Expr (List Marked) expr_words_step (L.Var v))
words-simple (OfValue v) = sym (ap expr_words (sym (E.rolls-Lit v)) ∙ fold-roll-Expr (List Marked) expr_words_step (L.Lit v))

fits-simple : (x : Simple) → SimpleFits x → expr_fits (simple x) ≡ true
unfolding expr_fits
fits-simple (OfVar v) h = ap expr_fits (sym (E.rolls-Var v)) ∙ fold-roll-Expr Bool expr_fits_step (L.Var v)
fits-simple (OfValue v) h = ap expr_fits (sym (E.rolls-Lit v)) ∙ fold-roll-Expr Bool expr_fits_step (L.Lit v) ∙ h

pub fits-value : (v : Value) → expr_fits (E.Lit v) ≡ true → literal_fits v ≡ true
unfolding expr_fits
fits-value v h = sym (ap expr_fits (sym (E.rolls-Lit v)) ∙ fold-roll-Expr Bool expr_fits_step (L.Lit v)) ∙ h

pub words-call : (f : Func) (args : List Expr) → expr_words (E.Call f args) ≡ call_words (func_name f) args
unfolding expr_words
words-call f args =
    ap expr_words (sym (E.rolls-Call f args)) ∙ fold-roll-Expr (List Marked) expr_words_step (L.Call f args) ∙ ap (λ (l : List Marked). enclosed (plain (Name (func_name f)) ∷ l)) (flat_itself expr_words args)

pub fits-call : (f : Func) (args : List Expr) → expr_fits (E.Call f args) ≡ list_all expr_fits args
unfolding expr_fits
fits-call f args = ap expr_fits (sym (E.rolls-Call f args)) ∙ fold-roll-Expr Bool expr_fits_step (L.Call f args) ∙ all_itself expr_fits args

pub all_from : {X : Type 0} (test : X → Bool) (xs : List X) → AllFit (λ x. test x ≡ true) xs → list_all test xs ≡ true
all_from test [] h = refl
all_from test (x ∷ xs) h = and_from (test x) (list_all test xs) h.0 (all_from test xs h.1)

pub all_to : {X : Type 0} (test : X → Bool) (xs : List X) → list_all test xs ≡ true → AllFit (λ x. test x ≡ true) xs
all_to test [] h = tt
all_to test (x ∷ xs) h = let p = and_parts (test x) (list_all test xs) h in (p.0, all_to test xs p.1)

abbrev pub Fits : Expr → Type 0
Fits e = expr_fits e ≡ true

-- an expression is a call or a token
abbrev Shape : Type 0
Shape = (Func × (List Expr)) ⊎ Simple

abbrev shape_value : Shape → Expr
shape_value = either_value (λ c. E.Call c.0 c.1) simple

expr_layer : (e : Expr) → (x : L.Expr-F Expr) × (roll-Expr x ≡ e)
expr_layer = ind-Expr (λ e. (x : L.Expr-F Expr) × (roll-Expr x ≡ e)) (λ x y h. (x, refl))

layer_shape : (x : L.Expr-F Expr) → (c : Shape) × (shape_value c ≡ roll-Expr x)
layer_shape (L.Var v) = (inr (OfVar v), sym (E.rolls-Var v))
layer_shape (L.Lit v) = (inr (OfValue v), sym (E.rolls-Lit v))
layer_shape (L.Call f args) = (inl (f, args), sym (E.rolls-Call f args))

shape_of : (e : Expr) → (c : Shape) × (shape_value c ≡ e)
shape_of e = let x = expr_layer e in let c = layer_shape x.0 in (c.0, c.1 ∙ x.1)

simple_starts : (x : Simple) → starts (plain (simple_word x) ∷ []) ≡ true
simple_starts (OfVar v) = refl
simple_starts (OfValue V.Null) = refl
simple_starts (OfValue (V.Bool true)) = refl
simple_starts (OfValue (V.Bool false)) = refl
simple_starts (OfValue (V.Int z)) = refl
simple_starts (OfValue (V.Text t)) = refl

shape_starts : (c : Shape) → starts (expr_words (shape_value c)) ≡ true
shape_starts (inl c) = ap starts (words-call c.0 c.1)
shape_starts (inr x) = ap starts (sym (words-simple x)) ∙ simple_starts x

pub expr_starts : (e : Expr) → starts (expr_words e) ≡ true
expr_starts e = let c = shape_of e in ap (λ (z : Expr). starts (expr_words z)) (sym c.1) ∙ shape_starts c.0

-- ---- expressions

opened_is : (t : Token) → said t ≡ Open → is_open t ≡ true
opened_is kinds.Open e = refl
opened_is kinds.Close e = absurd cc
opened_is (kinds.Name w) e = absurd cc
opened_is (kinds.Var w) e = absurd cc
opened_is (kinds.Number w) e = absurd cc
opened_is (kinds.Str w) e = absurd cc

abbrev not_open : Word → Bool
not_open Open = false
not_open Close = true
not_open (Name w) = true
not_open (Variable w) = true
not_open (Number z) = true
not_open (Text w) = true

opened_not : (t : Token) (w : Word) → said t ≡ w → not_open w ≡ true → is_open t ≡ false
opened_not kinds.Open w e h = absurd (false≢true (ap not_open e ∙ h))
opened_not kinds.Close w e h = refl
opened_not (kinds.Name x) w e h = refl
opened_not (kinds.Var x) w e h = refl
opened_not (kinds.Number x) w e h = refl
opened_not (kinds.Str x) w e h = refl

simple_not_open : (x : Simple) → not_open (simple_word x) ≡ true
simple_not_open (OfVar v) = refl
simple_not_open (OfValue V.Null) = refl
simple_not_open (OfValue (V.Bool true)) = refl
simple_not_open (OfValue (V.Bool false)) = refl
simple_not_open (OfValue (V.Int z)) = refl
simple_not_open (OfValue (V.Text t)) = refl

abbrev pub call_shown : Func × (List Expr) → List Marked
call_shown c = plain (Name (func_name c.0)) ∷ (flat_map expr_words c.1 ++ plain Close ∷ [])

abbrev pub CallFits : Func × (List Expr) → Type 0
CallFits c = Unit {0} × AllFit Fits c.1

call_form : (n : ℕ) (read : State → Outcome Expr) → Forms n read itself expr_words Fits → Forms n (call_at read) (λ c. E.Call c.0 c.1) call_shown CallFits
unfolding call_at
call_form n read f = keep n {Y = λ g. List Expr} {print = λ g args. flat_map expr_words args ++ plain Close ∷ []} {fits = λ g args. AllFit Fits args} (func_form n) (λ g. mapped n (λ (args : List Expr). E.Call g args) (list_form n read expr_words Fits f (closes_form n) (λ e fit. expr_starts e)))

shape_shown : (c : Shape) → either_fits (λ (c : Func × (List Expr)). CallFits c) SimpleFits c → (either_value (λ (c : Func × (List Expr)). plain Open ∷ call_shown c) (λ x. plain (simple_word x) ∷ []) c ≡ expr_words (shape_value c)) × Fits (shape_value c)
shape_shown (inl c) fit = (sym (words-call c.0 c.1), fits-call c.0 c.1 ∙ all_from expr_fits c.1 fit.1)
shape_shown (inr x) fit = (words-simple x, fits-simple x fit)

shape_back : (c : Shape) → Fits (shape_value c) → either_fits (λ (c : Func × (List Expr)). CallFits c) SimpleFits c
shape_back (inl c) h = (tt, all_to expr_fits c.1 (sym (fits-call c.0 c.1) ∙ h))
shape_back (inr (OfVar v)) h = tt
shape_back (inr (OfValue v)) h = fits-value v h

shape_from : (e : Expr) → Fits e → (c : Shape) × (shape_value c ≡ e) × either_fits (λ (c : Func × (List Expr)). CallFits c) SimpleFits c
shape_from e h = let c = shape_of e in (c.0, c.1, shape_back c.0 (ap expr_fits c.1 ∙ h))

inner_form : (n : ℕ) → Forms n (expr_at n) itself expr_words Fits → Forms (suc n) (expr_at (suc n)) itself expr_words Fits
unfolding expr_at
inner_form n f =
    shaped (suc n) expr_words Fits
    (forked (suc n) opens (nest n (plain Open) (λ k. opens_form k) (call_form n (expr_at n) f)) (leaf_form (suc n))
    (λ s r c fit taken. ap opens taken.2 ∙ opened_is taken.0.token taken.3)
    (λ s r x fit taken. ap opens taken.2 ∙ opened_not taken.0.token (simple_word x) taken.3 (simple_not_open x)))
    shape_shown shape_from

no_fuel : (e : Expr) (s r : State) → Ready zero s → Taken s (expr_words e) r → ⊥
no_fuel e s r ready taken =
    let fuel = ready.fuel in
    let some = starts_words (expr_words e) (expr_starts e) in
    omega (arith, taken_length (expr_words e) s r taken)

outer_form : Forms zero (expr_at zero) itself expr_words Fits
unfolding expr_at
outer_form = record {
  takes = λ s r y e.
      let t = (leaf_form zero).takes s r y e in
      let shown = shape_shown (inr t.x) t.fit in
      record {
        x = y;
        value_is = refl;
        taken = subst (λ (z : Expr). Taken s (expr_words z) r) t.value_is (subst (λ (ms : List Marked). Taken s ms r) shown.0 t.taken);
        fit = subst Fits t.value_is shown.1;
      };
  again = λ s r e ready fit taken. absurd (no_fuel e s r ready taken);
}

pub expr_form : (n : ℕ) → Forms n (expr_at n) itself expr_words Fits
expr_form zero = outer_form
expr_form (suc n) = inner_form n (expr_form n)
