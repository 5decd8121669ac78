-- The two activities of a join name columns of the rows that they see.
use Rattle.std.proofs.Common.{◌≡◌, ◌≤◌, Bool, true, false, List, [], ◌∷◌, ◌++◌, length, map, filter, refl, ap, sym, subst, ◌∙◌, arith, length-append, Option, Some, None, filter_map}
use Rattle.std.specs.Prelude.{◌&&◌, if◌then◌else◌}
use Rattle.std.specs.List.{AllByRecursion, cons_option}
use Rattle.al_func.specs.declared.func.Func.TheVariants as F
use Rattle.al_func.specs.Rex.{IsSound}
use Rattle.al_plan.specs.declared.expr.Var.{Var}
use Rattle.al_plan.specs.declared.expr.Expr.{Expr, out-Expr}
use Rattle.al_plan.specs.declared.expr.Expr.TheOpen as X
use Rattle.al_plan.specs.Allows.{is_among}
use Rattle.al_plan.specs.Refines.{IsOver, AreOver}
use Rattle.al_conj.specs.Conj.{conj}
use Rattle.al_conj.proofs.OverLaws.{over_conj, over_all_of}
use Rattle.al_phys.specs.Properties.{sided, both_sided, equi_step, equi_key, equi_keys, variable_of}
use Rattle.al_phys.proofs.ValueLaws.{and_left, and_right}
use Rattle.hy_job.specs.declared.job.Kind.TheVariants as K
use Rattle.hy_job.specs.Sound as sound
use Rattle.hy_job.specs.Sound.{Widths}
use Rattle.al_jobgen.specs.Columns.{column_of, is_none, residual, join_arg}
use Rattle.al_jobgen.proofs.SoundColumns.{length-mapped, rex_over, column_below}
use Rattle.al_jobgen.proofs.SoundPiece.{StepSound}

-- ---- equi keys are live, each on its side

module _ (ls rs : List Var) where
  abbrev IsKey : Var × Var → Type 0
  IsKey k = (is_among ls k.0.name ≡ true) × (is_among rs k.1.name ≡ true)

  abbrev MayBeKey : Option (Var × Var) → Type 0
  MayBeKey None = Unit {0}
  MayBeKey (Some k) = IsKey k

  sided_key : (x y : Var) → MayBeKey (sided ls rs x y)
  sided_key x y = first (is_among ls x.name && is_among rs y.name) refl
    where
      second : (b : Bool) → (is_among rs x.name && is_among ls y.name) ≡ b → MayBeKey (if b then Some (y, x) else None)
      second true e = (and_right (is_among rs x.name) (is_among ls y.name) e, and_left (is_among rs x.name) (is_among ls y.name) e)
      second false e = tt

      first : (b : Bool) → (is_among ls x.name && is_among rs y.name) ≡ b → MayBeKey (if b then Some (x, y) else if is_among rs x.name && is_among ls y.name then Some (y, x) else None)
      first true e = (and_left (is_among ls x.name) (is_among rs y.name) e, and_right (is_among ls x.name) (is_among rs y.name) e)
      first false e = second (is_among rs x.name && is_among ls y.name) refl

  both_key : (x y : Option Var) → MayBeKey (both_sided ls rs x y)
  both_key None y = tt
  both_key (Some x) None = tt
  both_key (Some x) (Some y) = sided_key x y

  step_key : (x : X.Expr-F Expr) → MayBeKey (equi_step ls rs x)
  step_key (X.Var v) = tt
  step_key (X.Lit v) = tt
  step_key (X.Call F.Eq []) = tt
  step_key (X.Call F.Eq (a ∷ [])) = tt
  step_key (X.Call F.Eq (a ∷ b ∷ [])) = both_key (variable_of a) (variable_of b)
  step_key (X.Call F.Eq (a ∷ b ∷ c ∷ es)) = tt
  step_key (X.Call F.Lt es) = tt
  step_key (X.Call F.Le es) = tt
  step_key (X.Call F.And es) = tt
  step_key (X.Call F.Or es) = tt
  step_key (X.Call F.Not es) = tt
  step_key (X.Call F.Add es) = tt
  step_key (X.Call F.Sub es) = tt
  step_key (X.Call F.Mul es) = tt
  step_key (X.Call F.Div es) = tt
  step_key (X.Call F.Mod es) = tt
  step_key (X.Call F.Neg es) = tt
  step_key (X.Call F.Concat es) = tt
  step_key (X.Call F.Length es) = tt
  step_key (X.Call F.Substr es) = tt
  step_key (X.Call F.LowerAscii es) = tt
  step_key (X.Call F.If es) = tt
  step_key (X.Call F.IsNull es) = tt
  step_key (X.Call F.Coalesce es) = tt

  one_key : (o : Option (Var × Var)) (keys : List (Var × Var)) → MayBeKey o → AllByRecursion IsKey keys → AllByRecursion IsKey (cons_option o keys)
  one_key None keys h rest = rest
  one_key (Some k) keys h rest = (h, rest)

  keys_of : (es : List Expr) → AllByRecursion IsKey (filter_map (equi_key ls rs) es)
  keys_of [] = tt
  keys_of (e ∷ es) = one_key (equi_key ls rs e) (filter_map (equi_key ls rs) es) (step_key (out-Expr e)) (keys_of es)

  left_below : (keys : List (Var × Var)) → AllByRecursion IsKey keys → sound.AreColumns (length ls) (map (λ k. column_of ls k.0.name) keys)
  left_below [] h = tt
  left_below (k ∷ keys) h = (column_below ls k.0.name h.0.0, left_below keys h.1)

  right_below : (keys : List (Var × Var)) → AllByRecursion IsKey keys → sound.AreColumns (length rs) (map (λ k. column_of rs k.1.name) keys)
  right_below [] h = tt
  right_below (k ∷ keys) h = (column_below rs k.1.name h.0.1, right_below keys h.1)

-- ---- the rest of the condition

kept_over : (vars : List Var) (p : Expr → Bool) (es : List Expr) → AreOver vars es → AreOver vars (filter p es)
kept_over vars p [] h = tt
kept_over vars p (e ∷ es) h = here (p e) (kept_over vars p es h.1)
  where
    here : (b : Bool) → AreOver vars (filter p es) → AreOver vars (if b then e ∷ filter p es else filter p es)
    here true rest = (h.0, rest)
    here false rest = rest

residual_over : (ls rs : List Var) (c : Expr) → IsOver (ls ++ rs) c → IsOver (ls ++ rs) (residual ls rs c)
residual_over ls rs c over =
    let others = λ (e : Expr). is_none (equi_key ls rs e) in
    over_all_of (ls ++ rs) (filter others (conj c)) (kept_over (ls ++ rs) others (conj c) (over_conj (ls ++ rs) c over))

-- ---- the argument of a join, by the hash or not

paired : (hash outer : Bool) (ls rs : List Var) (c : Expr) → length (join_arg hash outer ls rs c).left ≡ length (join_arg hash outer ls rs c).right
paired true outer ls rs c = length-mapped (λ (k : Var × Var). column_of ls k.0.name) (equi_keys ls rs c) ∙ sym (length-mapped (λ (k : Var × Var). column_of rs k.1.name) (equi_keys ls rs c))
paired false outer ls rs c = refl

left_columns : (hash outer : Bool) (ls rs : List Var) (c : Expr) → sound.AreColumns (length ls) (join_arg hash outer ls rs c).left
left_columns true outer ls rs c = left_below ls rs (equi_keys ls rs c) (keys_of ls rs (conj c))
left_columns false outer ls rs c = tt

right_columns : (hash outer : Bool) (ls rs : List Var) (c : Expr) → sound.AreColumns (length rs) (join_arg hash outer ls rs c).right
right_columns true outer ls rs c = right_below ls rs (equi_keys ls rs c) (keys_of ls rs (conj c))
right_columns false outer ls rs c = tt

rest_sound : (hash outer : Bool) (ls rs : List Var) (c : Expr) → IsOver (ls ++ rs) c → IsSound (length (ls ++ rs)) (join_arg hash outer ls rs c).rest
rest_sound true outer ls rs c over = rex_over (ls ++ rs) (residual ls rs c) (residual_over ls rs c over)
rest_sound false outer ls rs c over = rex_over (ls ++ rs) c over

-- ---- the two activities

pub join_build_step : (hash outer : Bool) (ls rs : List Var) (c : Expr) (w : Widths) → w.taken 0 ≡ length rs → length rs ≤ 64 → StepSound (K.JoinBuild (join_arg hash outer ls rs c)) (length rs) w
join_build_step hash outer ls rs c w taken few =
    record {
      in_range = subst (λ n. sound.AreColumns n (join_arg hash outer ls rs c).right) (sym taken) (right_columns hash outer ls rs c);
      nested = tt;
      key_pairs = paired hash outer ls rs c;
      all_keys = tt;
      states = tt;
      arities = sym taken;
      narrow = omega (arith, few);
    }

pub join_probe_step : (hash outer : Bool) (ls rs : List Var) (c : Expr) (w : Widths) → w.taken 0 ≡ length ls → w.handed ≡ length rs → IsOver (ls ++ rs) c → (new : List Var) → new ≡ ls ++ rs → length new ≤ 64
    → StepSound (K.JoinProbe (join_arg hash outer ls rs c)) (length new) w
join_probe_step hash outer ls rs c w taken handed over new e few =
    record {
      in_range = (
        subst (λ n. sound.AreColumns n (join_arg hash outer ls rs c).left) (sym taken) (left_columns hash outer ls rs c),
        subst (λ n. sound.AreColumns n (join_arg hash outer ls rs c).right) (sym handed) (right_columns hash outer ls rs c),
        subst (λ n. IsSound n (join_arg hash outer ls rs c).rest) (omega (arith, taken, handed, length-append ls rs)) (rest_sound hash outer ls rs c over),
      );
      nested = tt;
      key_pairs = paired hash outer ls rs c;
      all_keys = tt;
      states = tt;
      arities = omega (arith, taken, handed, ap (λ (vs : List Var). length vs) e, length-append ls rs);
      narrow = omega (arith, few);
    }
