-- The right keys of a join are live in its right input.
use Rattle.std.proofs.Common.{◌≡◌, Bool, true, false, List, [], ◌∷◌, map, refl, Option, Some, None, filter_map}
use Rattle.std.specs.Prelude.{◌&&◌, if◌then◌else◌}
use Rattle.std.specs.List.{cons_option}
use Rattle.al_func.specs.declared.func.Func.TheVariants as F
use Rattle.al_plan.specs.declared.expr.Var.{Var}
use Rattle.al_plan.specs.declared.expr.Expr.{Expr, out-Expr}
use Rattle.al_plan.specs.declared.expr.Expr.TheOpen as X
use Rattle.al_plan.specs.Allows.{is_among}
use Rattle.al_plan.specs.Refines.{AreLive}
use Rattle.al_conj.specs.Conj.{conj}
use Rattle.al_phys.specs.declared.phys.Phys.{Phys}
use Rattle.al_phys.specs.Operators.{phys_live}
use Rattle.al_phys.specs.Properties.{sided, both_sided, equi_step, equi_key, equi_keys, variable_of, right_keys}
use Rattle.al_phys.proofs.ValueLaws.{and_left, and_right}

abbrev OfRight : List Var → Option (Var × Var) → Type 0
OfRight rs None = Unit {0}
OfRight rs (Some k) = is_among rs k.1.name ≡ true

module _ (ls rs : List Var) where
  sided_right : (x y : Var) → OfRight rs (sided ls rs x y)
  sided_right x y = first (is_among ls x.name && is_among rs y.name) refl
    where
      second : (b : Bool) → (is_among rs x.name && is_among ls y.name) ≡ b → OfRight rs (if b then Some (y, x) else None)
      second true e = and_left (is_among rs x.name) (is_among ls y.name) e
      second false e = tt

      first : (b : Bool) → (is_among ls x.name && is_among rs y.name) ≡ b → OfRight rs (if b then Some (x, y) else if is_among rs x.name && is_among ls y.name then Some (y, x) else None)
      first true e = and_right (is_among ls x.name) (is_among rs y.name) e
      first false e = second (is_among rs x.name && is_among ls y.name) refl

  both_right : (x y : Option Var) → OfRight rs (both_sided ls rs x y)
  both_right None y = tt
  both_right (Some x) None = tt
  both_right (Some x) (Some y) = sided_right x y

  step_right : (x : X.Expr-F Expr) → OfRight rs (equi_step ls rs x)
  step_right (X.Var v) = tt
  step_right (X.Lit v) = tt
  step_right (X.Call F.Eq []) = tt
  step_right (X.Call F.Eq (a ∷ [])) = tt
  step_right (X.Call F.Eq (a ∷ b ∷ [])) = both_right (variable_of a) (variable_of b)
  step_right (X.Call F.Eq (a ∷ b ∷ c ∷ es)) = tt
  step_right (X.Call F.Lt es) = tt
  step_right (X.Call F.Le es) = tt
  step_right (X.Call F.And es) = tt
  step_right (X.Call F.Or es) = tt
  step_right (X.Call F.Not es) = tt
  step_right (X.Call F.Add es) = tt
  step_right (X.Call F.Sub es) = tt
  step_right (X.Call F.Mul es) = tt
  step_right (X.Call F.Div es) = tt
  step_right (X.Call F.Mod es) = tt
  step_right (X.Call F.Neg es) = tt
  step_right (X.Call F.Concat es) = tt
  step_right (X.Call F.Length es) = tt
  step_right (X.Call F.Substr es) = tt
  step_right (X.Call F.LowerAscii es) = tt
  step_right (X.Call F.If es) = tt
  step_right (X.Call F.IsNull es) = tt
  step_right (X.Call F.Coalesce es) = tt

  one_right : (o : Option (Var × Var)) (keys : List (Var × Var)) → OfRight rs o → AreLive rs (map (λ k. k.1) keys) → AreLive rs (map (λ k. k.1) (cons_option o keys))
  one_right None keys h rest = rest
  one_right (Some k) keys h rest = (h, rest)

  equi_right : (es : List Expr) → AreLive rs (map (λ k. k.1) (filter_map (equi_key ls rs) es))
  equi_right [] = tt
  equi_right (e ∷ es) = one_right (equi_key ls rs e) (filter_map (equi_key ls rs) es) (step_right (out-Expr e)) (equi_right es)

pub right_keys_live : (l r : Phys) (c : Expr) → AreLive (phys_live r) (right_keys l r c)
right_keys_live l r c = equi_right (phys_live l) (phys_live r) (conj c)
