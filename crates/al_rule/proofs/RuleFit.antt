-- What a rule needs to show that its right side fits.
use Rattle.std.proofs.Common.{◌≡◌, Bool, false, List, [], ◌∷◌, ap, sym, subst}
use Rattle.std.specs.Prelude.{if◌then◌else◌}
use Rattle.std.specs.List.{AllByRecursion}
use Rattle.al_value.specs.declared.value.Value.TheVariants as V
use Rattle.al_plan.specs.declared.expr.Var.{Var}
use Rattle.al_plan.specs.declared.expr.Expr.{Expr}
use Rattle.al_plan.specs.declared.plan.Plan.{Plan, map-Plan, roll-Plan}
use Rattle.al_plan.specs.declared.plan.Plan.TheOpen as L
use Rattle.al_plan.specs.Eval.{Bytes, Env, holds}
use Rattle.al_plan.specs.Names.{names}
use Rattle.al_func.specs.Func.{is_true}
use Rattle.al_plan.specs.Allows.{cut, beside}
use Rattle.al_plan.specs.Refines.{makes, makes_step, Fit, NoTwice, AreAmong, AreLive}
use Rattle.al_rule.proofs.ReadLaws.{eval-names}
use Rattle.al_plan.proofs.Makes.{among_of}
use Rattle.al_plan.proofs.PlanLaws.{EachLayer, each-roll, NarrowLayer, narrow-roll, makes-roll}

-- what a plan that fits asks at its root
pub record FitLayer (x : L.Plan-F Plan) : Type 0 where
  pub each : EachLayer x false []
  pub narrow : NarrowLayer x []
  pub once : NoTwice (makes_step (map-Plan Plan (List Var) makes x))

pub fit_out : (x : L.Plan-F Plan) (p : Plan) → roll-Plan x ≡ p → Fit p → FitLayer x
fit_out x p e f =
    let g : Fit (roll-Plan x) = subst Fit (sym e) f in
    record {
      each = subst (λ (a : Bool → List Var → Type 0). a false []) (each-roll x) g.each;
      narrow = subst (λ (a : List Var → Type 0). a []) (narrow-roll x) g.narrow;
      once = subst NoTwice (makes-roll x) g.once;
    }

pub fit_in : (x : L.Plan-F Plan) (p : Plan) → roll-Plan x ≡ p → FitLayer x → Fit p
fit_in x p e f = subst Fit e (record {
  each = subst (λ (a : Bool → List Var → Type 0). a false []) (sym (each-roll x)) f.each;
  narrow = subst (λ (a : List Var → Type 0). a []) (sym (narrow-roll x)) f.narrow;
  once = subst NoTwice (sym (makes-roll x)) f.once;
})

cut_keeps : (vars : List Var) (r : Env) (qs : List Bytes) → AreAmong vars qs → AllByRecursion (λ q. cut vars r q ≡ r q) qs
cut_keeps vars r [] h = tt
cut_keeps vars r (q ∷ qs) h = (ap (λ b. if b then r q else V.Null) h.0, cut_keeps vars r qs h.1)

pub holds-cut : (e : Expr) (vars : List Var) (r : Env) → AreAmong vars (names e) → holds e (cut vars r) ≡ holds e r
holds-cut e vars r h = ap is_true (eval-names e (cut vars r) r (cut_keeps vars r (names e) h))

beside_left : (vars : List Var) (a b : Env) (qs : List Bytes) → AreAmong vars qs → AllByRecursion (λ q. beside vars a b q ≡ a q) qs
beside_left vars a b [] h = tt
beside_left vars a b (q ∷ qs) h = (ap (λ t. if t then a q else b q) h.0, beside_left vars a b qs h.1)

-- an expression over the first row's variables sees the first row
pub holds-beside : (e : Expr) (vars : List Var) (a b : Env) → AreAmong vars (names e) → holds e (beside vars a b) ≡ holds e a
holds-beside e vars a b h = ap is_true (eval-names e (beside vars a b) a (beside_left vars a b (names e) h))

-- variables among some that are live are live
pub among_among : (xs vars : List Var) → AreLive xs vars → (qs : List Bytes) → AreAmong vars qs → AreAmong xs qs
among_among xs vars h [] g = tt
among_among xs vars h (q ∷ qs) g = (among_of xs vars h q g.0, among_among xs vars h qs g.1)
