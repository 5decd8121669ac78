-- Aggregates see of their rows what their expressions read.
use Rattle.std.proofs.Common.{◌≡◌, List, [], ◌∷◌, map, refl, ap}
use Rattle.std.specs.Prelude.{if◌then◌else◌}
use Rattle.std.specs.List.{AllByRecursion}
use Rattle.al_value.specs.declared.value.Value.TheVariants as V
use Rattle.al_agg.specs.Agg.{agg}
use Rattle.al_agg.specs.declared.agg.Agg.TheVariants as A
use Rattle.al_plan.specs.declared.expr.Var.{Var}
use Rattle.al_plan.specs.declared.expr.Expr.{Expr}
use Rattle.al_plan.specs.declared.plan.AggCall.{AggCall}
use Rattle.al_plan.specs.declared.plan.AggCall.TheVariants as C
use Rattle.al_plan.specs.Eval.{Bytes, Env, bind, eval}
use Rattle.al_plan.specs.Names.{names, agg_exprs}
use Rattle.al_plan.specs.Calls.{agg_call}
use Rattle.al_plan.specs.Allows.{agg_row, cut}
use Rattle.al_plan.specs.Refines.{IsOver, AreOver, AreAmong}
use Rattle.al_rule.proofs.ReadLaws.{eval-names}

-- an expression gives the same over the row that `f` makes
abbrev pub Sees : (Env → Env) → Expr → Type 0
Sees f e = (r : Env) → eval e (f r) ≡ eval e r

pub sees_each : (f : Env → Env) (vars : List Var) → ((e : Expr) → IsOver vars e → Sees f e) → (es : List Expr) → AreOver vars es → AllByRecursion (Sees f) es
sees_each f vars see [] h = tt
sees_each f vars see (e ∷ es) h = (see e h.0, sees_each f vars see es h.1)

pub sees_calls : (f : Env → Env) (vars : List Var) → ((e : Expr) → IsOver vars e → Sees f e) → (made : List (Var × AggCall)) → AllByRecursion (λ m. AreOver vars (agg_exprs m.1)) made → AllByRecursion (λ m. AllByRecursion (Sees f) (agg_exprs m.1)) made
sees_calls f vars see [] h = tt
sees_calls f vars see (m ∷ made) h = (sees_each f vars see (agg_exprs m.1) h.0, sees_calls f vars see made h.1)

map-seen : (f : Env → Env) (e : Expr) → Sees f e → (rows : List Env) → map (eval e) (map f rows) ≡ map (eval e) rows
map-seen f e h [] = refl
map-seen f e h (r ∷ rows) = λ i. h r i ∷ map-seen f e h rows i

nulls-seen : (f : Env → Env) (rows : List Env) → map (λ r. V.Null) (map f rows) ≡ map (λ r. V.Null) rows
nulls-seen f [] = refl
nulls-seen f (r ∷ rows) = ap (λ vs. V.Null ∷ vs) (nulls-seen f rows)

call-seen : (f : Env → Env) (a : AggCall) (rows : List Env) → AllByRecursion (Sees f) (agg_exprs a) → agg_call a (map f rows) ≡ agg_call a rows
unfolding agg_call
call-seen f C.CountAll rows h = ap (agg A.CountAll) (nulls-seen f rows)
call-seen f (C.Count e) rows h = ap (agg A.Count) (map-seen f e h.0 rows)
call-seen f (C.Sum e) rows h = ap (agg A.Sum) (map-seen f e h.0 rows)
call-seen f (C.Min e) rows h = ap (agg A.Min) (map-seen f e h.0 rows)
call-seen f (C.Max e) rows h = ap (agg A.Max) (map-seen f e h.0 rows)

calls-seen : (f : Env → Env) (made : List (Var × AggCall)) (rows : List Env) → AllByRecursion (λ m. AllByRecursion (Sees f) (agg_exprs m.1)) made → map (λ m. agg_call m.1 (map f rows)) made ≡ map (λ m. agg_call m.1 rows) made
calls-seen f [] rows h = refl
calls-seen f (m ∷ made) rows h = λ i. call-seen f m.1 rows h.0 i ∷ calls-seen f made rows h.1 i

pub agg_row-seen : (f : Env → Env) (made : List (Var × AggCall)) (rows : List Env) → AllByRecursion (λ m. AllByRecursion (Sees f) (agg_exprs m.1)) made → agg_row made (map f rows) ≡ agg_row made rows
agg_row-seen f made rows h = ap (bind (map (λ m. m.0) made)) (calls-seen f made rows h)

cut_keeps : (vars : List Var) (r : Env) (qs : List Bytes) → AreAmong vars qs → AllByRecursion (λ q. cut vars r q ≡ r q) qs
cut_keeps vars r [] h = tt
cut_keeps vars r (q ∷ qs) h = (ap (λ b. if b then r q else V.Null) h.0, cut_keeps vars r qs h.1)

-- an expression sees a row that is cut to its variables
pub sees_cut : (vars : List Var) (e : Expr) → IsOver vars e → Sees (cut vars) e
sees_cut vars e h r = eval-names e (cut vars r) r (cut_keeps vars r (names e) h.reads)
