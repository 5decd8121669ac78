-- The equi keys of each expression.
use Rattle.std.proofs.Common.{◌≡◌, ◌≢◌, List, [], ◌∷◌, ◌++◌, map, length, filter_map, flat_map, refl, ap, sym, subst, ◌∙◌, append-nil, arith, ◌+◌}
use Rattle.std.specs.List.{cons_option}
use Rattle.std.proofs.lemmas.List.Elements.{filter_map-append}
use Rattle.al_value.specs.declared.value.Value.{Value}
use Rattle.al_func.specs.declared.func.Func.{Func}
use Rattle.al_func.specs.declared.func.Func.TheVariants as F
use Rattle.al_plan.specs.declared.expr.Var.{Var}
use Rattle.al_plan.specs.declared.expr.Expr.{Expr, roll-Expr, map-Expr, ind-Expr, out-Expr, out-roll-Expr, fold-roll-Expr}
use Rattle.al_plan.specs.declared.expr.Expr.TheVariants as E
use Rattle.al_plan.specs.declared.expr.Expr.TheOpen as L
use Rattle.al_conj.specs.Conj.{leaves, conj_step, with_conj, conj}
use Rattle.al_phys.specs.Properties.{equi_step, equi_key, equi_keys, variable_of, variable_step}

-- ---- conjuncts

conj-roll : (x : L.Expr-F Expr) → with_conj (roll-Expr x) ≡ conj_step (map-Expr Expr (Expr × List Expr) with_conj x)
unfolding with_conj
conj-roll x = fold-roll-Expr (Expr × List Expr) conj_step x

abbrev IsItself : Expr → Type 0
IsItself e = (with_conj e).0 ≡ e

module _ {S : Type 0} (up : S → Expr) (ih : (s : S) → IsItself (up s)) where
  wholes : (xs : List S) → map (λ (a : Expr × List Expr). a.0) (map with_conj (map up xs)) ≡ map up xs
  wholes [] = refl
  wholes (x ∷ xs) = λ i. ih x i ∷ wholes xs i

  layer : (y : L.Expr-F S) → IsItself (roll-Expr (map-Expr S Expr up y))
  layer (L.Var v) = ap (λ (p : Expr × List Expr). p.0) (conj-roll (L.Var v)) ∙ sym (E.rolls-Var v)
  layer (L.Lit v) = ap (λ (p : Expr × List Expr). p.0) (conj-roll (L.Lit v)) ∙ sym (E.rolls-Lit v)
  layer (L.Call f xs) = ap (λ (p : Expr × List Expr). p.0) (conj-roll (L.Call f (map up xs))) ∙ ap (E.Call f) (wholes xs) ∙ sym (E.rolls-Call f (map up xs))

itself : (e : Expr) → IsItself e
itself = ind-Expr IsItself (λ x y e. subst (λ (z : L.Expr-F Expr). IsItself (roll-Expr z)) e (layer (λ s. s.0) (λ s. s.1) y))

all_itself : (args : List Expr) → map (λ (a : Expr × List Expr). a.0) (map with_conj args) ≡ args
all_itself [] = refl
all_itself (x ∷ xs) = λ i. itself x i ∷ all_itself xs i

conj-Var : (v : Var) → conj (E.Var v) ≡ E.Var v ∷ []
conj-Var v = ap conj (sym (E.rolls-Var v)) ∙ ap (λ (p : Expr × List Expr). p.1) (conj-roll (L.Var v))

conj-Lit : (v : Value) → conj (E.Lit v) ≡ E.Lit v ∷ []
conj-Lit v = ap conj (sym (E.rolls-Lit v)) ∙ ap (λ (p : Expr × List Expr). p.1) (conj-roll (L.Lit v))

conj-Call : (f : Func) (args : List Expr) → conj (E.Call f args) ≡ leaves f (E.Call f args) (map with_conj args)
conj-Call f args =
    ap conj (sym (E.rolls-Call f args)) ∙ ap (λ (p : Expr × List Expr). p.1) (conj-roll (L.Call f args))
    ∙ ap (λ (es : List Expr). leaves f (E.Call f es) (map with_conj args)) (all_itself args)

-- ---- equi keys

out-Call : (f : Func) (args : List Expr) → out-Expr (E.Call f args) ≡ L.Call f args
out-Call f args = ap out-Expr (sym (E.rolls-Call f args)) ∙ out-roll-Expr (L.Call f args)

pub variable-Var : (v : Var) → variable_of (E.Var v) ≡ variable_step (L.Var v)
variable-Var v = ap variable_step (ap out-Expr (sym (E.rolls-Var v)) ∙ out-roll-Expr (L.Var v))

pub variable-Lit : (v : Value) → variable_of (E.Lit v) ≡ variable_step (L.Lit v)
variable-Lit v = ap variable_step (ap out-Expr (sym (E.rolls-Lit v)) ∙ out-roll-Expr (L.Lit v))

pub variable-Call : (f : Func) (args : List Expr) → variable_of (E.Call f args) ≡ variable_step (L.Call f args)
variable-Call f args = ap variable_step (out-Call f args)

module _ (ls rs : List Var) where
  pub equi-Var : (v : Var) → equi_keys ls rs (E.Var v) ≡ []
  equi-Var v =
      ap (filter_map (equi_key ls rs)) (conj-Var v)
      ∙ ap (λ (x : L.Expr-F Expr). cons_option (equi_step ls rs x) []) (ap out-Expr (sym (E.rolls-Var v)) ∙ out-roll-Expr (L.Var v))

  pub equi-Lit : (v : Value) → equi_keys ls rs (E.Lit v) ≡ []
  equi-Lit v =
      ap (filter_map (equi_key ls rs)) (conj-Lit v)
      ∙ ap (λ (x : L.Expr-F Expr). cons_option (equi_step ls rs x) []) (ap out-Expr (sym (E.rolls-Lit v)) ∙ out-roll-Expr (L.Lit v))

  -- a call that is its own conjunct
  alone : (f : Func) (args : List Expr) → leaves f (E.Call f args) (map with_conj args) ≡ E.Call f args ∷ [] → equi_keys ls rs (E.Call f args) ≡ cons_option (equi_step ls rs (L.Call f args)) []
  alone f args leaf =
      ap (filter_map (equi_key ls rs)) (conj-Call f args ∙ leaf)
      ∙ ap (λ (x : L.Expr-F Expr). cons_option (equi_step ls rs x) []) (out-Call f args)

  pub equi-Eq : (args : List Expr) → equi_keys ls rs (E.Call F.Eq args) ≡ cons_option (equi_step ls rs (L.Call F.Eq args)) []
  equi-Eq args = alone F.Eq args refl

  pub equi-And : (args : List Expr) → length args ≡ 2 → equi_keys ls rs (E.Call F.And args) ≡ flat_map (equi_keys ls rs) args
  equi-And [] two = absurd (omega arith)
  equi-And (a ∷ []) two = absurd (omega arith)
  equi-And (a ∷ b ∷ []) two =
      ap (filter_map (equi_key ls rs)) (conj-Call F.And (a ∷ b ∷ [])) ∙ filter_map-append (equi_key ls rs) (conj a) (conj b)
      ∙ ap (λ ks. equi_keys ls rs a ++ ks) (sym (append-nil (equi_keys ls rs b)))
  equi-And (a ∷ b ∷ c ∷ args) two = absurd (omega arith)

  pub equi-And_other : (args : List Expr) → length args ≢ 2 → equi_keys ls rs (E.Call F.And args) ≡ []
  equi-And_other [] other = alone F.And [] refl
  equi-And_other (a ∷ []) other = alone F.And (a ∷ []) refl
  equi-And_other (a ∷ b ∷ []) other = absurd (other refl)
  equi-And_other (a ∷ b ∷ c ∷ args) other = alone F.And (a ∷ b ∷ c ∷ args) refl

  pub equi-other : (f : Func) (args : List Expr) → f ≢ F.And → f ≢ F.Eq → equi_keys ls rs (E.Call f args) ≡ []
  equi-other F.Eq args no_and no_eq = absurd (no_eq refl)
  equi-other F.Lt args no_and no_eq = alone F.Lt args refl
  equi-other F.Le args no_and no_eq = alone F.Le args refl
  equi-other F.And args no_and no_eq = absurd (no_and refl)
  equi-other F.Or args no_and no_eq = alone F.Or args refl
  equi-other F.Not args no_and no_eq = alone F.Not args refl
  equi-other F.Add args no_and no_eq = alone F.Add args refl
  equi-other F.Sub args no_and no_eq = alone F.Sub args refl
  equi-other F.Mul args no_and no_eq = alone F.Mul args refl
  equi-other F.Div args no_and no_eq = alone F.Div args refl
  equi-other F.Mod args no_and no_eq = alone F.Mod args refl
  equi-other F.Neg args no_and no_eq = alone F.Neg args refl
  equi-other F.Concat args no_and no_eq = alone F.Concat args refl
  equi-other F.Length args no_and no_eq = alone F.Length args refl
  equi-other F.Substr args no_and no_eq = alone F.Substr args refl
  equi-other F.LowerAscii args no_and no_eq = alone F.LowerAscii args refl
  equi-other F.If args no_and no_eq = alone F.If args refl
  equi-other F.IsNull args no_and no_eq = alone F.IsNull args refl
  equi-other F.Coalesce args no_and no_eq = alone F.Coalesce args refl

pub ruleset equi_laws = (equi-Var, equi-Lit, equi-Eq, equi-And, equi-And_other, equi-other, variable-Var, variable-Lit, variable-Call, append-nil)
