-- The equi key of each expression.
use Rattle.std.proofs.Common.{◌≡◌, ◌≢◌, ℕ, Bool, true, map, filter, filter_map, ◌++◌, [], ◌∷◌, ◌+◌, ◌<◌, length, take, get_or, Option, List, None, ap, sym, ◌∙◌, refl}
use Rattle.al_value.specs.declared.value.Value.{Value}
use Rattle.al_func.specs.declared.func.Func.{Func}
use Rattle.al_func.specs.declared.func.Func.TheVariants as F
use Rattle.al_plan.specs.declared.expr.Var.{Var}
use Rattle.al_plan.specs.declared.expr.Expr.{Expr, out-Expr, out-roll-Expr}
use Rattle.al_plan.specs.declared.expr.Expr.TheVariants as E
use Rattle.al_plan.specs.declared.expr.Expr.TheOpen as L
use Rattle.al_phys.specs.Properties.{equi_step, equi_key, equi_keys}
use Rattle.al_func.specs.declared.rex.Rex.{Rex}
use Rattle.hy_job.specs.declared.job.JoinArg.{JoinArg}
use Rattle.al_jobgen.specs.Columns.{column_of, rex_of, residual, join_arg, is_none}
use Rattle.al_jobgen.specs.Parts.{left_column, right_column, no_key}
use Rattle.std.proofs.lemmas.List.Elements.{filter-append, filter_map-append}
use Rattle.std.proofs.lemmas.List.{take_more}
use Rattle.std.proofs.lemmas.List.{map-append}

pub key-Var : (ls rs : List Var) (v : Var) → equi_key ls rs (E.Var v) ≡ None
key-Var ls rs v = ap (equi_step ls rs) (ap out-Expr (sym (E.rolls-Var v)) ∙ out-roll-Expr (L.Var v))

pub key-Lit : (ls rs : List Var) (v : Value) → equi_key ls rs (E.Lit v) ≡ None
key-Lit ls rs v = ap (equi_step ls rs) (ap out-Expr (sym (E.rolls-Lit v)) ∙ out-roll-Expr (L.Lit v))

pub key-Call : (ls rs : List Var) (f : Func) (args : List Expr) → equi_key ls rs (E.Call f args) ≡ equi_step ls rs (L.Call f args)
key-Call ls rs f args = ap (equi_step ls rs) (ap out-Expr (sym (E.rolls-Call f args)) ∙ out-roll-Expr (L.Call f args))

never_key : (ls rs : List Var) (f : Func) (args : List Expr) → f ≢ F.Eq → equi_step ls rs (L.Call f args) ≡ None
never_key ls rs F.Eq args other = absurd (other refl)
never_key ls rs F.Lt args other = refl
never_key ls rs F.Le args other = refl
never_key ls rs F.And args other = refl
never_key ls rs F.Or args other = refl
never_key ls rs F.Not args other = refl
never_key ls rs F.Add args other = refl
never_key ls rs F.Sub args other = refl
never_key ls rs F.Mul args other = refl
never_key ls rs F.Div args other = refl
never_key ls rs F.Mod args other = refl
never_key ls rs F.Neg args other = refl
never_key ls rs F.Concat args other = refl
never_key ls rs F.Length args other = refl
never_key ls rs F.Substr args other = refl
never_key ls rs F.LowerAscii args other = refl
never_key ls rs F.If args other = refl
never_key ls rs F.IsNull args other = refl
never_key ls rs F.Coalesce args other = refl

pub key-Eq : (ls rs : List Var) (args : List Expr) → equi_key ls rs (E.Call F.Eq args) ≡ equi_step ls rs (L.Call F.Eq args)
key-Eq ls rs args = key-Call ls rs F.Eq args

pub key-other : (ls rs : List Var) (f : Func) (args : List Expr) → f ≢ F.Eq → equi_key ls rs (E.Call f args) ≡ None
key-other ls rs f args other = key-Call ls rs f args ∙ never_key ls rs f args other

pub ruleset key_laws = (key-Var, key-Lit, key-Eq, key-other)

-- the argument of a hash join, by its parts
pub hash_arg_is : (outer : Bool) (ls rs : List Var) (c : Expr) (left right : List ℕ) (rest : Rex) → left ≡ map (λ k. column_of ls k.0.name) (equi_keys ls rs c)
    → right ≡ map (λ k. column_of rs k.1.name) (equi_keys ls rs c) → rest ≡ rex_of (ls ++ rs) (residual ls rs c)
    → ◌≡◌ {A = JoinArg} record { left = left; right = right; rest = rest; outer = outer } (join_arg true outer ls rs c)
hash_arg_is outer ls rs c left right rest l r x = λ i. record { left = l i; right = r i; rest = x i; outer = outer }

-- one conjunct more, where what is gathered of a list is gathered of its parts
more : {B : Type 0} (f : List Expr → List B) → ((xs ys : List Expr) → f (xs ++ ys) ≡ f xs ++ f ys) → (all : List Expr) (i : ℕ) (e : Expr) (old new added : List B) → i < length all → e ≡ get_or all i e
    → old ≡ f (take i all) → new ≡ old ++ added → added ≡ f (e ∷ []) → new ≡ f (take (i + 1) all)
more f append all i e old new added lt is before now adds =
    now ∙ ap (λ xs. xs ++ added) before ∙ ap (λ ys. f (take i all) ++ ys) adds
    ∙ sym (ap f (take_more all i e lt ∙ ap (λ x. take i all ++ x ∷ []) (sym is)) ∙ append (take i all) (e ∷ []))

module _ (ls rs : List Var) (all : List Expr) (i : ℕ) (e : Expr) (lt : i < length all) (is : e ≡ get_or all i e) (key : Option (Var × Var)) (k : key ≡ equi_key ls rs e) where
  pub more_left : (old new : List ℕ) → old ≡ map (λ k. column_of ls k.0.name) (filter_map (equi_key ls rs) (take i all)) → new ≡ old ++ left_column ls key
      → new ≡ map (λ k. column_of ls k.0.name) (filter_map (equi_key ls rs) (take (i + 1) all))
  more_left old new before now =
      more (λ es. map (λ k. column_of ls k.0.name) (filter_map (equi_key ls rs) es)) (λ xs ys. ap (map (λ k. column_of ls k.0.name)) (filter_map-append (equi_key ls rs) xs ys) ∙ map-append (λ k. column_of ls k.0.name) (filter_map (equi_key ls rs) xs) (filter_map (equi_key ls rs) ys))
      all i e old new (left_column ls key) lt is before now (ap (left_column ls) k)

  pub more_right : (old new : List ℕ) → old ≡ map (λ k. column_of rs k.1.name) (filter_map (equi_key ls rs) (take i all)) → new ≡ old ++ right_column rs key
      → new ≡ map (λ k. column_of rs k.1.name) (filter_map (equi_key ls rs) (take (i + 1) all))
  more_right old new before now =
      more (λ es. map (λ k. column_of rs k.1.name) (filter_map (equi_key ls rs) es)) (λ xs ys. ap (map (λ k. column_of rs k.1.name)) (filter_map-append (equi_key ls rs) xs ys) ∙ map-append (λ k. column_of rs k.1.name) (filter_map (equi_key ls rs) xs) (filter_map (equi_key ls rs) ys))
      all i e old new (right_column rs key) lt is before now (ap (right_column rs) k)

  pub more_rest : (old new : List Expr) → old ≡ filter (λ e. is_none (equi_key ls rs e)) (take i all) → new ≡ old ++ no_key e key
      → new ≡ filter (λ e. is_none (equi_key ls rs e)) (take (i + 1) all)
  more_rest old new before now =
      more (filter (λ e. is_none (equi_key ls rs e))) (filter-append (λ e. is_none (equi_key ls rs e)))
      all i e old new (no_key e key) lt is before now (ap (no_key e) k)
