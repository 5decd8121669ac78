-- Where expressions stop, and what operators hold beside their inputs.
use Rattle.std.proofs.Common.{◌≡◌, ℕ, zero, suc, ◌<◌, ◌≤◌, Bool, true, false, ◌&&◌, List, [], ◌∷◌, ◌++◌, length, map, Option, Some, None, Result, Ok, Err, pos, refl, sym, ap, subst, ◌∙◌, inl, inr, append_assoc, codes, arith}
use Rattle.std.specs.Prelude.{if◌then◌else◌}
use Rattle.std.specs.List.{flat_map, list_all}
use Rattle.std.proofs.lemmas.List.{append-nil, nil_from_length}
use Rattle.std.proofs.lemmas.Bool.{cases_Bool, false≢true, and_from, and_parts}
use Rattle.al_func.specs.Func.{is_i64}
use Rattle.al_agg.specs.declared.agg.Agg.{Agg}
use Rattle.al_agg.specs.declared.agg.Agg.TheVariants as A
use Rattle.al_func.specs.declared.func.Func.{Func}
use Rattle.al_csv.specs.declared.decl.Column.{Column}
use Rattle.al_plan.specs.declared.expr.Var.{Var}
use Rattle.al_plan.specs.declared.expr.Expr.{Expr, roll-Expr, map-Expr, ind-Expr}
use Rattle.al_plan.specs.declared.expr.Expr.TheVariants as E
use Rattle.al_plan.specs.declared.expr.Expr.TheOpen as L
use Rattle.al_plan.specs.declared.plan.OrderKey.{OrderKey}
use Rattle.al_plan.specs.declared.plan.AggCall.{AggCall}
use Rattle.al_plan.specs.declared.plan.AggCall.TheVariants as C
use Rattle.al_plan.specs.declared.plan.Generator.{Generator}
use Rattle.al_value.specs.declared.value.Value.{Value}
use Rattle.al_value.specs.declared.value.Value.TheVariants as V
use Rattle.al_plan.specs.Names.{item_exprs, agg_exprs}
use Rattle.al_plan.specs.Grammar.{Word, Open, Close, Name, Variable, Number, Text, Mark, Dataset, Operator, Other, Marked, plain, enclosed, variable, func_name, literal, literal_fits, expr_words, expr_fits, variables, call_words, agg_words, generator_words, assigned_words, aggregated_words, key_words, order_words, column_words}
use Rattle.al_read.specs.declared.token.Token.{Token}
use Rattle.al_read.specs.declared.token.Token.TheVariants as kinds
use Rattle.al_read.specs.declared.token.Placed.{Placed}
use Rattle.al_read.specs.declared.plan.reader.Stopped.{Stopped}
use Rattle.al_read.specs.declared.plan.reader.Stopped.TheVariants as stops
use Rattle.al_read.specs.Reads.{said}
use Rattle.al_read.specs.PlanReading.{State, Outcome, Read, Stops, ◌>>=◌, behind, leaf_of, open_at, close_at, leaf_at, opens, is_open, list_at, filled_at, call_at, expr_at, agg_args_at, agg_at, generated, generator_at, assigned_at, aggregated_at, key_at, order_at, variables_at, variable_at, column_at}
use Rattle.al_read.proofs.PlanForms.{Forms, Ready, Taken, AreSound, IsSound, itself, AllFit, Filled, not_close, starts, ready_after, ready_within, taken_length}
use Rattle.al_read.proofs.PlanWords.{opens_form, closes_form, agg_name, split_name}
use Rattle.al_read.proofs.PlanItems.{Fits, Simple, OfVar, OfValue, simple, simple_word, SimpleFits, call_shown, CallFits, expr_form, expr_starts, all_from, all_to, words-call, words-simple, fits-call, fits-value}
use Rattle.al_read.proofs.PlanArgs.{ArgsOf, called, args_shown, ArgsFit, AggFits, GenFits, agg_to, agg_from, gen_to, gen_from, flat_single, all_always, closed}
use Rattle.al_read.proofs.PlanMachine.{Sym, AnOpen, AClose, AName, AKind, AVar, AFunc, AnAgg, AGen, ADir, AnExpr, Args, Vars, Cols, Assigns, Aggs, Keys, Orders, ◌>>-◌, run, run_on, run_below, step, on_top, on, when, ok_lead, then_sym, expr_turn, is_none, turn, refuses, takes_numbers, is_number_word, agg_syms, Fated, Stuck, Halted, halted_below, halted_behind}
use Rattle.al_read.proofs.PlanPaces.{Paces, Lists, nothing, StopsAt, here, later, bind_stops, TokenStops, no_token, bad_token, token_stops, halted_here, pdone, pskip, pnest, pkeep, pmapped, pshaped, list_paces, filled_paces}
use Rattle.al_read.proofs.PlanTokenStops.{open_pace, close_pace, name_pace, variable_pace, func_pace, agg_pace, kind_pace, split_pace, direction_pace, leaf_fate, not_opening}

-- ---- lists

args_turn : (o : Option (List Sym)) → on_top [] (then_sym Args o) ≡ on_top (Args ∷ []) o
args_turn None = refl
args_turn (Some ys) = ap on (append-nil (ys ++ Args ∷ []))

args_none : (o : Option (List Sym)) → is_none (then_sym Args o) ≡ is_none o
args_none None = refl
args_none (Some ys) = refl

args_like : (m : Marked) → not_close m.1 ≡ true → step (Args ∷ []) m ≡ step (AnExpr ∷ (([]) ++ Args ∷ [])) m
args_like (Dataset, Open) h = refl
args_like (Dataset, Close) h = absurd (false≢true h)
args_like (Dataset, Name w) h = refl
args_like (Dataset, Variable w) h = refl
args_like (Dataset, Number z) h = refl
args_like (Dataset, Text w) h = refl
args_like (Operator, Open) h = refl
args_like (Operator, Close) h = absurd (false≢true h)
args_like (Operator, Name w) h = refl
args_like (Operator, Variable w) h = refl
args_like (Operator, Number z) h = refl
args_like (Operator, Text w) h = refl
args_like (Other, Open) h = args_turn (expr_turn Open)
args_like (Other, Close) h = absurd (false≢true h)
args_like (Other, Name w) h = args_turn (expr_turn (Name w))
args_like (Other, Variable w) h = args_turn (expr_turn (Variable w))
args_like (Other, Number z) h = args_turn (expr_turn (Number z))
args_like (Other, Text w) h = args_turn (expr_turn (Text w))

args_refused : (w : Word) → not_close w ≡ true → refuses AnExpr w ≡ true → refuses Args w ≡ true
args_refused Open h e = args_none (expr_turn Open) ∙ e
args_refused Close h e = absurd (false≢true h)
args_refused (Name w) h e = args_none (expr_turn (Name w)) ∙ e
args_refused (Variable w) h e = args_none (expr_turn (Variable w)) ∙ e
args_refused (Number z) h e = args_none (expr_turn (Number z)) ∙ e
args_refused (Text w) h e = args_none (expr_turn (Text w)) ∙ e

pub args_list : Lists Args AnExpr ([])
args_list = record { ends = refl; like = args_like; refused = args_refused; numbers = refl }

vars_like : (m : Marked) → not_close m.1 ≡ true → step (Vars ∷ []) m ≡ step (AVar ∷ (([]) ++ Vars ∷ [])) m
vars_like (Dataset, Open) h = refl
vars_like (Dataset, Close) h = absurd (false≢true h)
vars_like (Dataset, Name w) h = refl
vars_like (Dataset, Variable w) h = refl
vars_like (Dataset, Number z) h = refl
vars_like (Dataset, Text w) h = refl
vars_like (Operator, Open) h = refl
vars_like (Operator, Close) h = absurd (false≢true h)
vars_like (Operator, Name w) h = refl
vars_like (Operator, Variable w) h = refl
vars_like (Operator, Number z) h = refl
vars_like (Operator, Text w) h = refl
vars_like (Other, Open) h = refl
vars_like (Other, Close) h = absurd (false≢true h)
vars_like (Other, Name w) h = refl
vars_like (Other, Variable w) h = refl
vars_like (Other, Number z) h = refl
vars_like (Other, Text w) h = refl

vars_refused : (w : Word) → not_close w ≡ true → refuses AVar w ≡ true → refuses Vars w ≡ true
vars_refused Open h e = e
vars_refused Close h e = absurd (false≢true h)
vars_refused (Name w) h e = e
vars_refused (Variable w) h e = e
vars_refused (Number z) h e = e
vars_refused (Text w) h e = e

pub vars_list : Lists Vars AVar ([])
vars_list = record { ends = refl; like = vars_like; refused = vars_refused; numbers = refl }

cols_like : (m : Marked) → not_close m.1 ≡ true → step (Cols ∷ []) m ≡ step (AnOpen ∷ ((AName ∷ AKind ∷ AClose ∷ []) ++ Cols ∷ [])) m
cols_like (Dataset, Open) h = refl
cols_like (Dataset, Close) h = absurd (false≢true h)
cols_like (Dataset, Name w) h = refl
cols_like (Dataset, Variable w) h = refl
cols_like (Dataset, Number z) h = refl
cols_like (Dataset, Text w) h = refl
cols_like (Operator, Open) h = refl
cols_like (Operator, Close) h = absurd (false≢true h)
cols_like (Operator, Name w) h = refl
cols_like (Operator, Variable w) h = refl
cols_like (Operator, Number z) h = refl
cols_like (Operator, Text w) h = refl
cols_like (Other, Open) h = refl
cols_like (Other, Close) h = absurd (false≢true h)
cols_like (Other, Name w) h = refl
cols_like (Other, Variable w) h = refl
cols_like (Other, Number z) h = refl
cols_like (Other, Text w) h = refl

cols_refused : (w : Word) → not_close w ≡ true → refuses AnOpen w ≡ true → refuses Cols w ≡ true
cols_refused Open h e = e
cols_refused Close h e = absurd (false≢true h)
cols_refused (Name w) h e = e
cols_refused (Variable w) h e = e
cols_refused (Number z) h e = e
cols_refused (Text w) h e = e

pub cols_list : Lists Cols AnOpen (AName ∷ AKind ∷ AClose ∷ [])
cols_list = record { ends = refl; like = cols_like; refused = cols_refused; numbers = refl }

assigns_like : (m : Marked) → not_close m.1 ≡ true → step (Assigns ∷ []) m ≡ step (AnOpen ∷ ((AVar ∷ AnExpr ∷ AClose ∷ []) ++ Assigns ∷ [])) m
assigns_like (Dataset, Open) h = refl
assigns_like (Dataset, Close) h = absurd (false≢true h)
assigns_like (Dataset, Name w) h = refl
assigns_like (Dataset, Variable w) h = refl
assigns_like (Dataset, Number z) h = refl
assigns_like (Dataset, Text w) h = refl
assigns_like (Operator, Open) h = refl
assigns_like (Operator, Close) h = absurd (false≢true h)
assigns_like (Operator, Name w) h = refl
assigns_like (Operator, Variable w) h = refl
assigns_like (Operator, Number z) h = refl
assigns_like (Operator, Text w) h = refl
assigns_like (Other, Open) h = refl
assigns_like (Other, Close) h = absurd (false≢true h)
assigns_like (Other, Name w) h = refl
assigns_like (Other, Variable w) h = refl
assigns_like (Other, Number z) h = refl
assigns_like (Other, Text w) h = refl

assigns_refused : (w : Word) → not_close w ≡ true → refuses AnOpen w ≡ true → refuses Assigns w ≡ true
assigns_refused Open h e = e
assigns_refused Close h e = absurd (false≢true h)
assigns_refused (Name w) h e = e
assigns_refused (Variable w) h e = e
assigns_refused (Number z) h e = e
assigns_refused (Text w) h e = e

pub assigns_list : Lists Assigns AnOpen (AVar ∷ AnExpr ∷ AClose ∷ [])
assigns_list = record { ends = refl; like = assigns_like; refused = assigns_refused; numbers = refl }

aggs_like : (m : Marked) → not_close m.1 ≡ true → step (Aggs ∷ []) m ≡ step (AnOpen ∷ ((AVar ∷ AnOpen ∷ AnAgg ∷ AClose ∷ AClose ∷ []) ++ Aggs ∷ [])) m
aggs_like (Dataset, Open) h = refl
aggs_like (Dataset, Close) h = absurd (false≢true h)
aggs_like (Dataset, Name w) h = refl
aggs_like (Dataset, Variable w) h = refl
aggs_like (Dataset, Number z) h = refl
aggs_like (Dataset, Text w) h = refl
aggs_like (Operator, Open) h = refl
aggs_like (Operator, Close) h = absurd (false≢true h)
aggs_like (Operator, Name w) h = refl
aggs_like (Operator, Variable w) h = refl
aggs_like (Operator, Number z) h = refl
aggs_like (Operator, Text w) h = refl
aggs_like (Other, Open) h = refl
aggs_like (Other, Close) h = absurd (false≢true h)
aggs_like (Other, Name w) h = refl
aggs_like (Other, Variable w) h = refl
aggs_like (Other, Number z) h = refl
aggs_like (Other, Text w) h = refl

aggs_refused : (w : Word) → not_close w ≡ true → refuses AnOpen w ≡ true → refuses Aggs w ≡ true
aggs_refused Open h e = e
aggs_refused Close h e = absurd (false≢true h)
aggs_refused (Name w) h e = e
aggs_refused (Variable w) h e = e
aggs_refused (Number z) h e = e
aggs_refused (Text w) h e = e

pub aggs_list : Lists Aggs AnOpen (AVar ∷ AnOpen ∷ AnAgg ∷ AClose ∷ AClose ∷ [])
aggs_list = record { ends = refl; like = aggs_like; refused = aggs_refused; numbers = refl }

keys_like : (m : Marked) → not_close m.1 ≡ true → step (Keys ∷ []) m ≡ step (AnOpen ∷ ((AVar ∷ AVar ∷ AClose ∷ []) ++ Keys ∷ [])) m
keys_like (Dataset, Open) h = refl
keys_like (Dataset, Close) h = absurd (false≢true h)
keys_like (Dataset, Name w) h = refl
keys_like (Dataset, Variable w) h = refl
keys_like (Dataset, Number z) h = refl
keys_like (Dataset, Text w) h = refl
keys_like (Operator, Open) h = refl
keys_like (Operator, Close) h = absurd (false≢true h)
keys_like (Operator, Name w) h = refl
keys_like (Operator, Variable w) h = refl
keys_like (Operator, Number z) h = refl
keys_like (Operator, Text w) h = refl
keys_like (Other, Open) h = refl
keys_like (Other, Close) h = absurd (false≢true h)
keys_like (Other, Name w) h = refl
keys_like (Other, Variable w) h = refl
keys_like (Other, Number z) h = refl
keys_like (Other, Text w) h = refl

keys_refused : (w : Word) → not_close w ≡ true → refuses AnOpen w ≡ true → refuses Keys w ≡ true
keys_refused Open h e = e
keys_refused Close h e = absurd (false≢true h)
keys_refused (Name w) h e = e
keys_refused (Variable w) h e = e
keys_refused (Number z) h e = e
keys_refused (Text w) h e = e

pub keys_list : Lists Keys AnOpen (AVar ∷ AVar ∷ AClose ∷ [])
keys_list = record { ends = refl; like = keys_like; refused = keys_refused; numbers = refl }

orders_like : (m : Marked) → not_close m.1 ≡ true → step (Orders ∷ []) m ≡ step (AnOpen ∷ ((AVar ∷ ADir ∷ AClose ∷ []) ++ Orders ∷ [])) m
orders_like (Dataset, Open) h = refl
orders_like (Dataset, Close) h = absurd (false≢true h)
orders_like (Dataset, Name w) h = refl
orders_like (Dataset, Variable w) h = refl
orders_like (Dataset, Number z) h = refl
orders_like (Dataset, Text w) h = refl
orders_like (Operator, Open) h = refl
orders_like (Operator, Close) h = absurd (false≢true h)
orders_like (Operator, Name w) h = refl
orders_like (Operator, Variable w) h = refl
orders_like (Operator, Number z) h = refl
orders_like (Operator, Text w) h = refl
orders_like (Other, Open) h = refl
orders_like (Other, Close) h = absurd (false≢true h)
orders_like (Other, Name w) h = refl
orders_like (Other, Variable w) h = refl
orders_like (Other, Number z) h = refl
orders_like (Other, Text w) h = refl

orders_refused : (w : Word) → not_close w ≡ true → refuses AnOpen w ≡ true → refuses Orders w ≡ true
orders_refused Open h e = e
orders_refused Close h e = absurd (false≢true h)
orders_refused (Name w) h e = e
orders_refused (Variable w) h e = e
orders_refused (Number z) h e = e
orders_refused (Text w) h e = e

pub orders_list : Lists Orders AnOpen (AVar ∷ ADir ∷ AClose ∷ [])
orders_list = record { ends = refl; like = orders_like; refused = orders_refused; numbers = refl }

-- ---- expressions

abbrev Running : Expr → Type 0
Running e = Fits e → run (AnExpr ∷ []) (expr_words e) ≡ Some []

simple_runs : (x : Simple) → SimpleFits x → run (AnExpr ∷ []) (plain (simple_word x) ∷ []) ≡ Some []
simple_runs (OfVar v) h = refl
simple_runs (OfValue V.Null) h = refl
simple_runs (OfValue (V.Bool true)) h = refl
simple_runs (OfValue (V.Bool false)) h = refl
simple_runs (OfValue (V.Int z)) h = ap (λ (b : Bool). on_top [] (when b []) >>- λ next. run next []) h
simple_runs (OfValue (V.Text t)) h = refl

like_args_run : (ms : List Marked) → starts ms ≡ true → run (Args ∷ []) ms ≡ run (AnExpr ∷ Args ∷ []) ms
like_args_run [] h = absurd (false≢true h)
like_args_run (m ∷ ms) h = ap (λ (o : Option (List Sym)). o >>- λ next. run next ms) (args_like m h)

args_run : {S : Type 0} (up : S → Expr) → ((s : S) → Running (up s)) → (ss : List S) → list_all expr_fits (map up ss) ≡ true → run (Args ∷ []) (flat_map expr_words (map up ss) ++ plain Close ∷ []) ≡ Some []
args_run up h [] fit = refl
args_run up h (s ∷ ss) fit =
    let p = and_parts (expr_fits (up s)) (list_all expr_fits (map up ss)) fit in
    let first : run (Args ∷ []) (expr_words (up s)) ≡ Some (Args ∷ []) = like_args_run (expr_words (up s)) (expr_starts (up s)) ∙ run_below (expr_words (up s)) (AnExpr ∷ []) (Args ∷ []) [] (h s p.0) in
    ap (run (Args ∷ [])) (append_assoc (expr_words (up s)) (flat_map expr_words (map up ss)) (plain Close ∷ []))
    ∙ run_on (expr_words (up s)) (flat_map expr_words (map up ss) ++ plain Close ∷ []) (Args ∷ []) (Args ∷ []) first ∙ args_run up h ss p.1

call_runs : (n : ℕ) (f : Func) (ws : List Marked) → run (Args ∷ []) ws ≡ Some [] → run (AnExpr ∷ []) (plain Open ∷ (plain (Name (func_name f)) ∷ ws)) ≡ Some []
call_runs n f ws h = run_on (plain (Name (func_name f)) ∷ []) ws (AFunc ∷ Args ∷ []) (Args ∷ []) (run_below (plain (Name (func_name f)) ∷ []) (AFunc ∷ []) (Args ∷ []) [] ((func_pace n).runs f tt)) ∙ h

layer_runs : {S : Type 0} (up : S → Expr) → ((s : S) → Running (up s)) → (y : L.Expr-F S) → Running (roll-Expr (map-Expr S Expr up y))
layer_runs up h (L.Var v) fit = ap (λ (e : Expr). run (AnExpr ∷ []) (expr_words e)) (E.rolls-Var v) ∙ ap (run (AnExpr ∷ [])) (sym (words-simple (OfVar v))) ∙ simple_runs (OfVar v) tt
layer_runs up h (L.Lit v) fit = ap (λ (e : Expr). run (AnExpr ∷ []) (expr_words e)) (E.rolls-Lit v) ∙ ap (run (AnExpr ∷ [])) (sym (words-simple (OfValue v))) ∙ simple_runs (OfValue v) (fits-value v (ap expr_fits (sym (E.rolls-Lit v)) ∙ fit))
layer_runs up h (L.Call f args) fit =
    let all = sym (fits-call f (map up args)) ∙ ap expr_fits (sym (E.rolls-Call f (map up args))) ∙ fit in
    ap (λ (e : Expr). run (AnExpr ∷ []) (expr_words e)) (E.rolls-Call f (map up args)) ∙ ap (run (AnExpr ∷ [])) (words-call f (map up args))
    ∙ call_runs zero f (flat_map expr_words (map up args) ++ plain Close ∷ []) (args_run up h args all)

pub expr_runs : (e : Expr) → Running e
expr_runs = ind-Expr Running (λ x y e. subst (λ (z : L.Expr-F Expr). Running (roll-Expr z)) e (layer_runs (λ s. s.0) (λ s. s.1) y))

call_pace : (n : ℕ) (read : State → Outcome Expr) → Paces n read itself expr_words Fits (AnExpr ∷ []) nothing → Paces n (call_at read) (λ c. E.Call c.0 c.1) call_shown CallFits (AFunc ∷ Args ∷ []) nothing
unfolding call_at
call_pace n read f = pkeep n {Y = λ g. List Expr} {print = λ g args. flat_map expr_words args ++ plain Close ∷ []} {fits = λ g args. AllFit Fits args} (Args ∷ []) (func_pace n) (λ g. pmapped n (λ (args : List Expr). E.Call g args) (list_paces n read expr_words Fits Args AnExpr [] args_list f (closes_form n) (λ e fit. expr_starts e)))

opening_said : (t : Token) → is_open t ≡ true → said t ≡ Open
opening_said kinds.Open h = refl
opening_said kinds.Close h = absurd (false≢true h)
opening_said (kinds.Name x) h = absurd (false≢true h)
opening_said (kinds.Var x) h = absurd (false≢true h)
opening_said (kinds.Number x) h = absurd (false≢true h)
opening_said (kinds.Str x) h = absurd (false≢true h)

isnt_opening : (t : Token) → is_open t ≡ false → not_opening t
isnt_opening kinds.Open h = absurd (false≢true (sym h))
isnt_opening kinds.Close h = tt
isnt_opening (kinds.Name x) h = tt
isnt_opening (kinds.Var x) h = tt
isnt_opening (kinds.Number x) h = tt
isnt_opening (kinds.Str x) h = tt

pub fate_moved : {A : Type 0} (e : Stopped) (o : Result A Stopped) (a b : Bool) → o ≡ Err e → Fated o a b → Fated {A = Unit {0}} (Err e) a b
fate_moved {A} stops.Form o a b bad own = subst (λ (z : Result A Stopped). Fated z a b) bad own
fate_moved {A} stops.Number o a b bad own = subst (λ (z : Result A Stopped). Fated z a b) bad own
fate_moved {A} stops.NoMemory o a b bad own = subst (λ (z : Result A Stopped). Fated z a b) bad own

leaf_halts : (s r : State) (e : Stopped) → AreSound s.tokens → opens s.tokens ≡ false → leaf_at s ≡ Stops e r → Halted s r (AnExpr ∷ []) e
unfolding leaf_at
leaf_halts s r e sound off h = go (token_stops leaf_of s e r h) where
  go : TokenStops leaf_of s e × (s ≡ r) → Halted s r (AnExpr ∷ []) e
  go k = by k.0 k.1 where
    by : TokenStops leaf_of s e → s ≡ r → Halted s r (AnExpr ∷ []) e
    by (no_token same form) there = halted_here s r AnExpr e there (subst (λ (ts : List Placed). Stuck e AnExpr ts) (sym same) form)
    by (bad_token t ts same bad) there =
        let own = leaf_fate t.token (subst AreSound same sound).0 (isnt_opening t.token (ap opens (sym same) ∙ off)) in
        halted_here s r AnExpr e there (subst (λ (us : List Placed). Stuck e AnExpr us) (sym same) (fate_moved e (leaf_of t.token) (refuses AnExpr (said t.token)) (takes_numbers AnExpr && is_number_word (said t.token)) bad own))

opening_again : (n : ℕ) (s : State) (ts : List Placed) → Ready n s → s.tokens ≡ ts → opens ts ≡ true → (q : State) × (open_at s ≡ Read tt q) × Taken s (plain Open ∷ []) q
opening_again n s [] ready same on = absurd (false≢true on)
opening_again n s (t ∷ ts) ready same on =
    let taken : Taken s (plain Open ∷ []) (behind s ts) = (t, ts, same, opening_said t.token on, refl) in
    (behind s ts, (opens_form n).again s (behind s ts) tt ready tt taken, taken)

inner_halts : (n : ℕ) → Paces n (expr_at n) itself expr_words Fits (AnExpr ∷ []) nothing → (s r : State) (e : Stopped) → Ready (suc n) s → expr_at (suc n) s ≡ Stops e r → Halted s r (AnExpr ∷ []) e
unfolding expr_at
inner_halts n f s r e ready h =
    elim (cases_Bool (opens s.tokens)) [
      | inl on ↦
          let k = rw on at h in
          let o = opening_again (suc n) s s.tokens ready refl on in
          let call : call_at (expr_at n) o.0 ≡ Stops e r = ap (λ (z : Outcome (Unit {0})). z >>= λ u q. call_at (expr_at n) q) (sym o.1) ∙ k in
          halted_behind s o.0 r (AnExpr ∷ []) (AFunc ∷ Args ∷ []) (plain Open ∷ []) e o.2 refl ((call_pace n (expr_at n) f).halts o.0 r e (ready_within n (plain Open) s o.0 o.2 ready) call)
      | inr off ↦ leaf_halts s r e ready.sound off (rw off at h)
    ]

outer_halts : (s r : State) (e : Stopped) → Ready zero s → expr_at zero s ≡ Stops e r → Halted s r (AnExpr ∷ []) e
unfolding expr_at
outer_halts s r e ready h =
    let fuel = ready.fuel in
    let none : s.tokens ≡ [] = nil_from_length s.tokens (omega arith) in
    leaf_halts s r e ready.sound (ap opens none) h

pub expr_pace : (n : ℕ) → Paces n (expr_at n) itself expr_words Fits (AnExpr ∷ []) nothing
expr_pace zero = record { forms = expr_form zero; runs = expr_runs; halts = outer_halts }
expr_pace (suc n) = let f = expr_pace n in record { forms = expr_form (suc n); runs = expr_runs; halts = λ s r e ready h. inner_halts n f s r e ready h }

-- ---- what operators hold

vars_pace : (n : ℕ) → Paces n (list_at variable_at) itself (λ xs. map variable xs ++ plain Close ∷ []) (λ xs. Unit {0}) (Vars ∷ []) nothing
vars_pace n =
    pshaped n (λ xs. map variable xs ++ plain Close ∷ []) (λ xs. Unit {0})
    (list_paces n variable_at (λ v. variable v ∷ []) (λ v. Unit {0}) Vars AVar [] vars_list (variable_pace n) (closes_form n) (λ v fit. refl))
    (λ xs fit. (ap (λ (l : List Marked). l ++ plain Close ∷ []) (flat_single variable xs), tt))
    (λ xs suit. (xs, refl, all_always xs))

pub some_vars_pace : (n : ℕ) → Paces n (filled_at variable_at) itself (λ xs. map variable xs ++ plain Close ∷ []) (Filled (λ v. Unit {0})) (AVar ∷ Vars ∷ []) nothing
some_vars_pace n =
    pshaped n (λ xs. map variable xs ++ plain Close ∷ []) (Filled (λ v. Unit {0}))
    (filled_paces n variable_at (λ v. variable v ∷ []) (λ v. Unit {0}) Vars AVar [] vars_list (variable_pace n) (closes_form n) (λ v fit. refl))
    (λ xs fit. (ap (λ (l : List Marked). l ++ plain Close ∷ []) (flat_single variable xs), fit))
    (λ xs suit. (xs, refl, suit))

pub variables_pace : (n : ℕ) → Paces n variables_at itself variables (λ xs. Unit {0}) (AnOpen ∷ Vars ∷ []) nothing
unfolding variables_at
variables_pace n = pskip n (plain Open) (open_pace n) (vars_pace n)

-- closed behind it
pub pclosed_as : (n : ℕ) {A B X : Type 0} {read : State → Outcome A} {value : X → A} {print : X → List Marked} {fits : X → Type 0} {ys : List Sym} (make : A → B) → Forms n (λ s. read s >>= λ x r. close_at r >>= λ u q. Read (make x) q) (λ x. make (value x)) (λ x. print x ++ plain Close ∷ []) fits → Paces n read value print fits ys nothing → Paces n (λ s. read s >>= λ x r. close_at r >>= λ u q. Read (make x) q) (λ x. make (value x)) (λ x. print x ++ plain Close ∷ []) fits (ys ++ AClose ∷ []) nothing
pclosed_as n {A} {B} {X} {read} {value} {print} {fits} {ys} make both f = record {
  forms = both;
  runs = λ x fit. run_on (print x) (plain Close ∷ []) (ys ++ AClose ∷ []) (AClose ∷ []) (run_below (print x) ys (AClose ∷ []) [] (f.runs x fit));
  halts = λ s r e ready h. by s r e ready (bind_stops (read s) (λ x q. close_at q >>= λ u z. Read (make x) z) e r h);
} where
  closing : (q r : State) (e : Stopped) (x : A) → Ready n q → StopsAt (close_at q) (λ u z. Read (make x) z) e r → Halted q r (AClose ∷ []) e
  closing q r e x ready (here h) = (close_pace n).halts q r e ready h
  closing q r e x ready (later u z h k) = absurd cc

  by : (s r : State) (e : Stopped) → Ready n s → StopsAt (read s) (λ x q. close_at q >>= λ u z. Read (make x) z) e r → Halted s r (ys ++ AClose ∷ []) e
  by s r e ready (here h) = halted_below s r ys (AClose ∷ []) e (f.halts s r e ready h)
  by s r e ready (later x q h k) =
      let t = f.forms.takes s q x h in
      halted_behind s q r (ys ++ AClose ∷ []) (AClose ∷ []) (print t.x) e t.taken (run_below (print t.x) ys (AClose ∷ []) [] (f.runs t.x t.fit))
      (closing q r e x (ready_after n (print t.x) s q t.taken ready) (bind_stops (close_at q) (λ u z. Read (make x) z) e r k))

pub pclosed : (n : ℕ) {A X : Type 0} {read : State → Outcome A} {value : X → A} {print : X → List Marked} {fits : X → Type 0} {ys : List Sym} → Paces n read value print fits ys nothing → Paces n (λ s. read s >>= λ x r. close_at r >>= λ u q. Read x q) value (λ x. print x ++ plain Close ∷ []) fits (ys ++ AClose ∷ []) nothing
pclosed n f = pclosed_as n itself (closed n f.forms) f

pub assigned_pace : (n : ℕ) → Paces n (assigned_at n) itself assigned_words (λ m. expr_fits m.1 ≡ true) (AnOpen ∷ AVar ∷ AnExpr ∷ AClose ∷ []) nothing
unfolding assigned_at
assigned_pace n =
    pshaped n assigned_words (λ m. expr_fits m.1 ≡ true)
    (pskip n (plain Open) (open_pace n) (pkeep n (AnExpr ∷ AClose ∷ []) (variable_pace n) (λ x. pkeep n (AClose ∷ []) (expr_pace n) (λ e. pskip n (plain Close) (close_pace n) (pdone n (x, e))))))
    (λ p fit. (refl, fit.1.0))
    (λ m suit. ((m.0, (m.1, tt)), refl, (tt, (suit, tt))))

pub key_pace : (n : ℕ) → Paces n key_at itself key_words (λ k. Unit {0}) (AnOpen ∷ AVar ∷ AVar ∷ AClose ∷ []) nothing
unfolding key_at
key_pace n =
    pshaped n key_words (λ k. Unit {0})
    (pskip n (plain Open) (open_pace n) (pkeep n (AVar ∷ AClose ∷ []) (variable_pace n) (λ x. pkeep n (AClose ∷ []) (variable_pace n) (λ y. pskip n (plain Close) (close_pace n) (pdone n (x, y))))))
    (λ p fit. (refl, tt))
    (λ k suit. ((k.0, (k.1, tt)), refl, (tt, (tt, tt))))

pub order_pace : (n : ℕ) → Paces n order_at itself order_words (λ k. Unit {0}) (AnOpen ∷ AVar ∷ ADir ∷ AClose ∷ []) nothing
unfolding order_at
order_pace n =
    pshaped n order_words (λ k. Unit {0})
    (pskip n (plain Open) (open_pace n) (pkeep n (ADir ∷ AClose ∷ []) (variable_pace n) (λ x. pkeep n (AClose ∷ []) (direction_pace n) (λ d. pskip n (plain Close) (close_pace n) (pdone n (record { var = x; descending = d }))))))
    (λ p fit. (refl, tt))
    (λ k suit. ((k.var, (k.descending, tt)), refl, (tt, (tt, tt))))

pub column_pace : (n : ℕ) → Paces n column_at itself column_words (λ c. Unit {0}) (AnOpen ∷ AName ∷ AKind ∷ AClose ∷ []) nothing
unfolding column_at
column_pace n =
    pshaped n column_words (λ c. Unit {0})
    (pskip n (plain Open) (open_pace n) (pkeep n (AKind ∷ AClose ∷ []) (name_pace n) (λ x. pkeep n (AClose ∷ []) (kind_pace n) (λ k. pskip n (plain Close) (close_pace n) (pdone n (record { name = x; kind = k }))))))
    (λ p fit. (refl, tt))
    (λ c suit. ((c.name, (c.kind, tt)), refl, (tt, (tt, tt))))

args_pace : (n : ℕ) (a : Agg) → Paces n (agg_args_at n a) (called a) (args_shown a) (ArgsFit a) (agg_syms a) nothing
unfolding agg_args_at
args_pace n A.CountAll = pdone n C.CountAll
args_pace n A.Count = pmapped n (λ (e : Expr). C.Count e) (expr_pace n)
args_pace n A.Sum = pmapped n (λ (e : Expr). C.Sum e) (expr_pace n)
args_pace n A.Min = pmapped n (λ (e : Expr). C.Min e) (expr_pace n)
args_pace n A.Max = pmapped n (λ (e : Expr). C.Max e) (expr_pace n)

pub agg_call_pace : (n : ℕ) → Paces n (agg_at n) itself agg_words AggFits (AnOpen ∷ AnAgg ∷ AClose ∷ []) nothing
unfolding agg_at
agg_call_pace n =
    pshaped n agg_words AggFits
    (pskip n (plain Open) (open_pace n) (pkeep n {Y = ArgsOf} {value = called} {print = λ a y. args_shown a y ++ plain Close ∷ []} {fits = ArgsFit} (AClose ∷ []) (agg_pace n) (λ a. pclosed n (args_pace n a))))
    (λ p fit. agg_to p.0 p.1 fit.1)
    (λ c suit. let g = agg_from c suit in (g.0, g.1, (tt, g.2)))

pub aggregated_pace : (n : ℕ) → Paces n (aggregated_at n) itself aggregated_words (λ m. AggFits m.1) (AnOpen ∷ AVar ∷ AnOpen ∷ AnAgg ∷ AClose ∷ AClose ∷ []) nothing
unfolding aggregated_at
aggregated_pace n =
    pshaped n aggregated_words (λ m. AggFits m.1)
    (pskip n (plain Open) (open_pace n) (pkeep n (AnOpen ∷ AnAgg ∷ AClose ∷ AClose ∷ []) (variable_pace n) (λ x. pkeep n (AClose ∷ []) (agg_call_pace n) (λ c. pskip n (plain Close) (close_pace n) (pdone n (x, c))))))
    (λ p fit. (refl, fit.1.0))
    (λ m suit. ((m.0, (m.1, tt)), refl, (tt, (suit, tt))))

pub generator_pace : (n : ℕ) → Paces n (generator_at n) itself generator_words GenFits (AnOpen ∷ AGen ∷ AnExpr ∷ AnExpr ∷ AClose ∷ []) nothing
unfolding generator_at
generator_pace n =
    pshaped n generator_words GenFits
    (pskip n (plain Open) (open_pace n) (pkeep n (AnExpr ∷ AnExpr ∷ AClose ∷ []) (split_pace n) (λ b. pkeep n (AnExpr ∷ AClose ∷ []) (expr_pace n) (λ x. pkeep n (AClose ∷ []) (expr_pace n) (λ y. pskip n (plain Close) (close_pace n) (pdone n (generated b x y)))))))
    (λ p fit. gen_to p.0 p.1.0 p.1.1.0 fit.1.0 fit.1.1.0)
    (λ g suit. gen_from g suit)
