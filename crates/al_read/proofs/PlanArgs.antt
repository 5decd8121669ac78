-- What operators hold beside their inputs.
use Rattle.std.proofs.Common.{◌≡◌, ℕ, Bool, true, false, ◌&&◌, List, [], ◌∷◌, ◌++◌, map, refl, sym, ap, subst, ◌∙◌, append_assoc, codes}
use Rattle.std.specs.List.{flat_map, list_all}
use Rattle.std.proofs.lemmas.List.{append-nil}
use Rattle.std.proofs.lemmas.Bool.{and_from, and_parts}
use Rattle.al_agg.specs.declared.agg.Agg.{Agg}
use Rattle.al_agg.specs.declared.agg.Agg.TheVariants as A
use Rattle.al_plan.specs.declared.expr.Expr.{Expr}
use Rattle.al_plan.specs.declared.plan.AggCall.{AggCall}
use Rattle.al_plan.specs.declared.plan.AggCall.TheVariants as C
use Rattle.al_plan.specs.declared.plan.Generator.{Generator}
use Rattle.al_plan.specs.declared.plan.Generator.TheVariants as G
use Rattle.al_plan.specs.Names.{item_exprs, agg_exprs}
use Rattle.al_plan.specs.Grammar.{Open, Close, Name, Marked, plain, variable, expr_words, expr_fits, variables, call_words, agg_words, generator_words, assigned_words, aggregated_words, key_words, order_words, column_words}
use Rattle.al_read.specs.PlanReading.{State, Outcome, Read, ◌>>=◌, close_at, list_at, filled_at, agg_args_at, agg_at, generated, generator_at, assigned_at, aggregated_at, key_at, order_at, variables_at, variable_at, column_at}
use Rattle.al_read.proofs.PlanForms.{Forms, Taken, itself, done, skip, keep, shaped, mapped, AllFit, Filled, list_form, filled_form, bind_read, read_value, read_state, taken_append, taken_split, ready_after}
use Rattle.al_read.proofs.PlanWords.{opens_form, closes_form, variable_form, agg_form, agg_name, split_form, split_name, direction_form, name_form, kind_form}
use Rattle.al_read.proofs.PlanItems.{Fits, expr_form}

pub flat_single : {X : Type 0} (f : X → Marked) (xs : List X) → flat_map (λ x. f x ∷ []) xs ≡ map f xs
flat_single f [] = refl
flat_single f (x ∷ xs) = ap (λ (l : List Marked). f x ∷ l) (flat_single f xs)

pub all_always : {X : Type 0} (xs : List X) → AllFit (λ (x : X). Unit {0}) xs
all_always [] = tt
all_always (x ∷ xs) = (tt, all_always xs)

vars_form : (n : ℕ) → Forms n (list_at variable_at) itself (λ xs. map variable xs ++ plain Close ∷ []) (λ xs. Unit {0})
vars_form n =
    shaped n (λ xs. map variable xs ++ plain Close ∷ []) (λ xs. Unit {0})
    (list_form n variable_at (λ v. variable v ∷ []) (λ v. Unit {0}) (variable_form n) (closes_form n) (λ v fit. refl))
    (λ xs fit. (ap (λ (l : List Marked). l ++ plain Close ∷ []) (flat_single variable xs), tt))
    (λ xs suit. (xs, refl, all_always xs))

pub some_vars_form : (n : ℕ) → Forms n (filled_at variable_at) itself (λ xs. map variable xs ++ plain Close ∷ []) (Filled (λ v. Unit {0}))
some_vars_form n =
    shaped n (λ xs. map variable xs ++ plain Close ∷ []) (Filled (λ v. Unit {0}))
    (filled_form n variable_at (λ v. variable v ∷ []) (λ v. Unit {0}) (variable_form n) (closes_form n) (λ v fit. refl))
    (λ xs fit. (ap (λ (l : List Marked). l ++ plain Close ∷ []) (flat_single variable xs), fit))
    (λ xs suit. (xs, refl, suit))

pub variables_form : (n : ℕ) → Forms n variables_at itself variables (λ xs. Unit {0})
unfolding variables_at
variables_form n = skip n (plain Open) (opens_form n) (vars_form n)

-- ---- items

pub assigned_form : (n : ℕ) → Forms n (assigned_at n) itself assigned_words (λ m. expr_fits m.1 ≡ true)
unfolding assigned_at
assigned_form n =
    shaped n assigned_words (λ m. expr_fits m.1 ≡ true)
    (skip n (plain Open) (opens_form n) (keep n (variable_form n) (λ x. keep n (expr_form n) (λ e. skip n (plain Close) (closes_form n) (done n (x, e))))))
    (λ p fit. (refl, fit.1.0))
    (λ m suit. ((m.0, (m.1, tt)), refl, (tt, (suit, tt))))

pub key_form : (n : ℕ) → Forms n key_at itself key_words (λ k. Unit {0})
unfolding key_at
key_form n =
    shaped n key_words (λ k. Unit {0})
    (skip n (plain Open) (opens_form n) (keep n (variable_form n) (λ x. keep n (variable_form n) (λ y. skip n (plain Close) (closes_form n) (done n (x, y))))))
    (λ p fit. (refl, tt))
    (λ k suit. ((k.0, (k.1, tt)), refl, (tt, (tt, tt))))

pub order_form : (n : ℕ) → Forms n order_at itself order_words (λ k. Unit {0})
unfolding order_at
order_form n =
    shaped n order_words (λ k. Unit {0})
    (skip n (plain Open) (opens_form n) (keep n (variable_form n) (λ x. keep n (direction_form n) (λ d. skip n (plain Close) (closes_form n) (done n (record { var = x; descending = d }))))))
    (λ p fit. (refl, tt))
    (λ k suit. ((k.var, (k.descending, tt)), refl, (tt, (tt, tt))))

pub column_form : (n : ℕ) → Forms n column_at itself column_words (λ c. Unit {0})
unfolding column_at
column_form n =
    shaped n column_words (λ c. Unit {0})
    (skip n (plain Open) (opens_form n) (keep n (name_form n) (λ x. keep n (kind_form n) (λ k. skip n (plain Close) (closes_form n) (done n (record { name = x; kind = k }))))))
    (λ p fit. (refl, tt))
    (λ c suit. ((c.name, (c.kind, tt)), refl, (tt, (tt, tt))))

-- ---- aggregates

abbrev pub ArgsOf : Agg → Type 0
ArgsOf A.CountAll = Unit {0}
ArgsOf A.Count = Expr
ArgsOf A.Sum = Expr
ArgsOf A.Min = Expr
ArgsOf A.Max = Expr

abbrev pub called : (a : Agg) → ArgsOf a → AggCall
called A.CountAll u = C.CountAll
called A.Count e = C.Count e
called A.Sum e = C.Sum e
called A.Min e = C.Min e
called A.Max e = C.Max e

abbrev pub args_shown : (a : Agg) → ArgsOf a → List Marked
args_shown A.CountAll u = []
args_shown A.Count e = expr_words e
args_shown A.Sum e = expr_words e
args_shown A.Min e = expr_words e
args_shown A.Max e = expr_words e

abbrev pub ArgsFit : (a : Agg) → ArgsOf a → Type 0
ArgsFit A.CountAll u = Unit {0}
ArgsFit A.Count e = Fits e
ArgsFit A.Sum e = Fits e
ArgsFit A.Min e = Fits e
ArgsFit A.Max e = Fits e

args_form : (n : ℕ) (a : Agg) → Forms n (agg_args_at n a) (called a) (args_shown a) (ArgsFit a)
unfolding agg_args_at
args_form n A.CountAll = done n C.CountAll
args_form n A.Count = mapped n (λ (e : Expr). C.Count e) (expr_form n)
args_form n A.Sum = mapped n (λ (e : Expr). C.Sum e) (expr_form n)
args_form n A.Min = mapped n (λ (e : Expr). C.Min e) (expr_form n)
args_form n A.Max = mapped n (λ (e : Expr). C.Max e) (expr_form n)

abbrev pub AggFits : AggCall → Type 0
AggFits c = list_all expr_fits (agg_exprs c) ≡ true

-- a call with one argument
one_arg : (a : Agg) (e : Expr) → plain Open ∷ (plain (Name (agg_name a)) ∷ (expr_words e ++ plain Close ∷ [])) ≡ call_words (agg_name a) (e ∷ [])
one_arg a e = ap (λ (l : List Marked). plain Open ∷ (plain (Name (agg_name a)) ∷ (l ++ plain Close ∷ []))) (sym (append-nil (expr_words e)))

one_fits : (e : Expr) → Fits e → list_all expr_fits (e ∷ []) ≡ true
one_fits e h = and_from (expr_fits e) true h refl

one_fit : (e : Expr) → list_all expr_fits (e ∷ []) ≡ true → Fits e
one_fit e h = (and_parts (expr_fits e) true h).0

pub agg_to : (a : Agg) (y : ArgsOf a) → ArgsFit a y → (plain Open ∷ (plain (Name (agg_name a)) ∷ (args_shown a y ++ plain Close ∷ [])) ≡ agg_words (called a y)) × AggFits (called a y)
agg_to A.CountAll u h = (refl, refl)
agg_to A.Count e h = (one_arg A.Count e, one_fits e h)
agg_to A.Sum e h = (one_arg A.Sum e, one_fits e h)
agg_to A.Min e h = (one_arg A.Min e, one_fits e h)
agg_to A.Max e h = (one_arg A.Max e, one_fits e h)

abbrev pub AggShape : Type 0
AggShape = (a : Agg) × ArgsOf a

pub agg_from : (c : AggCall) → AggFits c → (p : AggShape) × (called p.0 p.1 ≡ c) × ArgsFit p.0 p.1
agg_from C.CountAll h = ((A.CountAll, tt), refl, tt)
agg_from (C.Count e) h = ((A.Count, e), refl, one_fit e h)
agg_from (C.Sum e) h = ((A.Sum, e), refl, one_fit e h)
agg_from (C.Min e) h = ((A.Min, e), refl, one_fit e h)
agg_from (C.Max e) h = ((A.Max, e), refl, one_fit e h)

-- what is read behind it is closed
pub closed : (n : ℕ) {A X : Type 0} {read : State → Outcome A} {value : X → A} {print : X → List Marked} {fits : X → Type 0} → Forms n read value print fits → Forms n (λ s. read s >>= λ x r. close_at r >>= λ u q. Read x q) value (λ x. print x ++ plain Close ∷ []) fits
closed n {A} {X} {read} {value} {print} {fits} f = record {
  takes = λ s q y e.
      let b = bind_read (read s) (λ x r. close_at r >>= λ u z. Read x z) y q e in
      let d = bind_read (close_at b.at) (λ u z. Read b.x z) y q b.second in
      let t = f.takes s b.at b.x b.first in
      let c = (closes_form n).takes b.at d.at d.x d.first in
      let there = read_state b.x y d.at q d.second in
      record {
        x = t.x;
        value_is = t.value_is ∙ read_value b.x y d.at q d.second;
        taken = subst (λ (z : State). Taken s (print t.x ++ plain Close ∷ []) z) there (taken_append (print t.x) (plain Close ∷ []) s b.at d.at t.taken c.taken);
        fit = t.fit;
      };
  again = λ s q x ready fit taken.
      let h = taken_split (print x) (plain Close ∷ []) s q taken in
      let one = f.again s h.middle x ready fit h.front in
      let two = (closes_form n).again h.middle q tt (ready_after n (print x) s h.middle h.front ready) tt h.back in
      ap (λ (o : Outcome A). o >>= λ x r. close_at r >>= λ u z. Read x z) one ∙ ap (λ (o : Outcome (Unit {0})). o >>= λ u z. Read (value x) z) two;
}

pub agg_call_form : (n : ℕ) → Forms n (agg_at n) itself agg_words AggFits
unfolding agg_at
agg_call_form n =
    shaped n agg_words AggFits
    (skip n (plain Open) (opens_form n) (keep n {Y = ArgsOf} {value = called} {print = λ a y. args_shown a y ++ plain Close ∷ []} {fits = ArgsFit} (agg_form n) (λ a. closed n (args_form n a))))
    (λ p fit. agg_to p.0 p.1 fit.1)
    (λ c suit. let g = agg_from c suit in (g.0, g.1, (tt, g.2)))

pub aggregated_form : (n : ℕ) → Forms n (aggregated_at n) itself aggregated_words (λ m. AggFits m.1)
unfolding aggregated_at
aggregated_form n =
    shaped n aggregated_words (λ m. AggFits m.1)
    (skip n (plain Open) (opens_form n) (keep n (variable_form n) (λ x. keep n (agg_call_form n) (λ c. skip n (plain Close) (closes_form n) (done n (x, c))))))
    (λ p fit. (refl, fit.1.0))
    (λ m suit. ((m.0, (m.1, tt)), refl, (tt, (suit, tt))))

-- ---- generators

abbrev pub GenFits : Generator → Type 0
GenFits g = list_all expr_fits (item_exprs g) ≡ true

two_args : (w : List ℕ) (a b : Expr) → plain Open ∷ (plain (Name w) ∷ (expr_words a ++ (expr_words b ++ plain Close ∷ []))) ≡ call_words w (a ∷ b ∷ [])
two_args w a b =
    let inner : expr_words a ++ (expr_words b ++ plain Close ∷ []) ≡ (expr_words a ++ (expr_words b ++ [])) ++ plain Close ∷ [] = simp (append_assoc, append-nil) in
    ap (λ (l : List Marked). plain Open ∷ (plain (Name w) ∷ l)) inner

pub gen_to : (b : Bool) (x y : Expr) → Fits x → Fits y → (plain Open ∷ (plain (Name (split_name b)) ∷ (expr_words x ++ (expr_words y ++ plain Close ∷ []))) ≡ generator_words (generated b x y)) × GenFits (generated b x y)
gen_to false x y f g = (two_args (codes "range") x y, and_from (expr_fits x) (expr_fits y && true) f (and_from (expr_fits y) true g refl))
gen_to true x y f g = (two_args (codes "split") x y, and_from (expr_fits x) (expr_fits y && true) f (and_from (expr_fits y) true g refl))

two_fit : (x y : Expr) → list_all expr_fits (x ∷ y ∷ []) ≡ true → Fits x × Fits y
two_fit x y h =
    let p = and_parts (expr_fits x) (expr_fits y && true) h in
    (p.0, (and_parts (expr_fits y) true p.1).0)

abbrev pub GenShape : Type 0
GenShape = Bool × (Expr × (Expr × Unit {0}))

pub gen_from : (g : Generator) → GenFits g → (p : GenShape) × (generated p.0 p.1.0 p.1.1.0 ≡ g) × (Unit {0} × (Fits p.1.0 × (Fits p.1.1.0 × Unit {0})))
gen_from (G.Range a b) h = let p = two_fit a b h in ((false, (a, (b, tt))), refl, (tt, (p.0, (p.1, tt))))
gen_from (G.Split a b) h = let p = two_fit a b h in ((true, (a, (b, tt))), refl, (tt, (p.0, (p.1, tt))))

pub generator_form : (n : ℕ) → Forms n (generator_at n) itself generator_words GenFits
unfolding generator_at
generator_form n =
    shaped n generator_words GenFits
    (skip n (plain Open) (opens_form n) (keep n (split_form n) (λ b. keep n (expr_form n) (λ x. keep n (expr_form n) (λ y. skip n (plain Close) (closes_form n) (done n (generated b x y)))))))
    (λ p fit. gen_to p.0 p.1.0 p.1.1.0 fit.1.0 fit.1.1.0)
    (λ g suit. gen_from g suit)
