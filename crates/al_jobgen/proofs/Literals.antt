-- Literals of expressions that are made one after the other.
use Rattle.std.proofs.Common.{◌≡◌, List, [], ◌∷◌, ◌++◌, flat_map, map, ap, sym, subst, ◌∙◌, refl}
use Rattle.std.specs.Prelude.{ℕ, Result, Ok, Err, OnOk}
use Rattle.al_value.specs.declared.value.Value.{Value}
use Rattle.al_value.specs.Value.{IsValue}
use Rattle.al_func.specs.declared.func.Func.{Func}
use Rattle.al_func.specs.declared.rex.Rex.{Rex, fold-roll-Rex}
use Rattle.al_func.specs.declared.rex.Rex.TheVariants as R
use Rattle.al_func.specs.declared.rex.Rex.TheOpen as L
use Rattle.al_phys.proofs.FlowLaws.{all_both}
use Rattle.hy_job.specs.declared.job.Activity.{Activity}
use Rattle.hy_job.specs.Literals.{literals, literals_step, kind_literals}
use Rattle.hy_job.specs.Columns.{AreValues}
use Rattle.al_jobgen.specs.Literals.{HaveValueLiterals}

flat_same : (args : List Rex) → flat_map (λ a. a) (map literals args) ≡ flat_map literals args
flat_same [] = refl
flat_same (a ∷ args) = ap (λ (vs : List Value). literals a ++ vs) (flat_same args)

pub literals-Col : (j : ℕ) → literals (R.Col j) ≡ []
unfolding literals
literals-Col j = ap literals (sym (R.rolls-Col j)) ∙ fold-roll-Rex (List Value) literals_step (L.Col j)

pub literals-Lit : (v : Value) → literals (R.Lit v) ≡ v ∷ []
unfolding literals
literals-Lit v = ap literals (sym (R.rolls-Lit v)) ∙ fold-roll-Rex (List Value) literals_step (L.Lit v)

pub literals-Call : (f : Func) (args : List Rex) → literals (R.Call f args) ≡ flat_map literals args
unfolding literals
literals-Call f args = ap literals (sym (R.rolls-Call f args)) ∙ fold-roll-Rex (List Value) literals_step (L.Call f args) ∙ flat_same args

pub col_values : (j : ℕ) → AreValues (literals (R.Col j))
col_values j = subst AreValues (sym (literals-Col j)) tt

pub lit_values : (v : Value) → IsValue v → AreValues (literals (R.Lit v))
lit_values v h = subst AreValues (sym (literals-Lit v)) (h, tt)

pub call_values : (f : Func) (args : List Rex) → AreValues (flat_map literals args) → AreValues (literals (R.Call f args))
call_values f args h = subst AreValues (sym (literals-Call f args)) h

pub both_values : (xs ys : List Value) → AreValues xs → AreValues ys → AreValues (xs ++ ys)
both_values xs ys h k = all_both IsValue xs ys h k

pub ruleset rex_values = (col_values, lit_values, call_values)

-- one more behind the others
pub more_values : {X : Type 0} (f : X → List Value) (xs : List X) (x : X) → AreValues (flat_map f xs) → AreValues (f x) → AreValues (flat_map f (xs ++ x ∷ []))
more_values f [] x h k = both_values (f x) [] k tt
more_values f (y ∷ xs) x h k =
    let parts = halves (f y) (flat_map f xs) h in both_values (f y) (flat_map f (xs ++ x ∷ [])) parts.0 (more_values f xs x parts.1 k)
  where
    halves : (vs ws : List Value) → AreValues (vs ++ ws) → AreValues vs × AreValues ws
    halves [] ws h = (tt, h)
    halves (v ∷ vs) ws h = let more = halves vs ws h.1 in ((h.0, more.0), more.1)

-- one more activity
pub more_activities : (xs : List Activity) (a : Activity) → HaveValueLiterals xs → AreValues (kind_literals a.kind) → HaveValueLiterals (xs ++ a ∷ [])
more_activities xs a h k = all_both (λ b. AreValues (kind_literals b.kind)) xs (a ∷ []) h (k, tt)

pub on_ok : {T E P Q : Type 0} (r : Result T E) → (P → Q) → OnOk r P → OnOk r Q
on_ok (Ok t) f h = f h
on_ok (Err e) f h = tt

pub no_activities : (xs : List Activity) → xs ≡ [] → HaveValueLiterals xs
no_activities xs e = subst HaveValueLiterals (sym e) tt
