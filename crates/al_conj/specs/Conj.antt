-- A condition and its conjuncts.
use Rattle.std.specs.Prelude.{◌≡◌, Bool, true, false, List, [], ◌∷◌, ◌++◌, map}
use Rattle.std.specs.List.{list_any}
use Rattle.al_value.specs.declared.value.Value.TheVariants as V
use Rattle.al_func.specs.declared.func.Func.{Func}
use Rattle.al_func.specs.declared.func.Func.TheVariants as F
use Rattle.al_func.specs.Func.{is_true}
use Rattle.al_plan.specs.declared.expr.Expr.{Expr, fold-Expr, out-Expr}
use Rattle.al_plan.specs.declared.expr.Expr.TheVariants as E
use Rattle.al_plan.specs.declared.expr.Expr.TheOpen.{Expr-F}
use Rattle.al_plan.specs.declared.expr.Expr.TheOpen as L

-- the condition that both are TRUE
abbrev pub both : Expr → Expr → Expr
both c e = E.Call F.And (c ∷ e ∷ [])

-- an expression that is no `and` of two
abbrev pub IsLeaf : Expr → Type 0
IsLeaf e = (a b : Expr) → e ≡ both a b → ⊥

-- the leaves of a call, itself or those of its two sides
abbrev pub leaves : Func → Expr → List (Expr × List Expr) → List Expr
leaves F.And whole (a ∷ b ∷ []) = a.1 ++ b.1
leaves _ whole _ = whole ∷ []

-- an expression with its leaves, from those of its arguments
abbrev pub conj_step : Expr-F (Expr × List Expr) → Expr × List Expr
conj_step (L.Var v) = (E.Var v, E.Var v ∷ [])
conj_step (L.Lit v) = (E.Lit v, E.Lit v ∷ [])
conj_step (L.Call f args) = (E.Call f (map (λ a. a.0) args), leaves f (E.Call f (map (λ a. a.0) args)) args)

unfoldable pub with_conj : Expr → Expr × List Expr
with_conj = fold-Expr (Expr × List Expr) conj_step

-- the conjuncts of a condition: the leaves of its tree of `and`, from the left
abbrev pub conj : Expr → List Expr
conj e = (with_conj e).1

-- conjuncts as one condition, nested to the right
abbrev pub all_of : List Expr → Expr
all_of [] = E.Lit (V.Bool true)
all_of (e ∷ []) = e
all_of (e ∷ d ∷ es) = both e (all_of (d ∷ es))

-- whether an expression is the literal true
abbrev pub literal_step : Expr-F Expr → Bool
literal_step (L.Lit v) = is_true v
literal_step _ = false

unfoldable pub is_literal_true : Expr → Bool
is_literal_true e = literal_step (out-Expr e)

-- the first conjunct with the property, and the others
pub record IsFirst (has : Expr → Bool) (c first : Expr) (before after : List Expr) : Type 0 where
  pub parts : conj c ≡ before ++ first ∷ after
  pub none_before : list_any has before ≡ false
  pub has_it : has first ≡ true

-- a condition taken apart: its first conjunct with the property, and the others as one condition
abbrev pub Splits : (Expr → Bool) → Expr → Expr → Expr → Type 0
Splits has c first rest = (before : List Expr) × (after : List Expr) × IsFirst has c first before after × (rest ≡ all_of (before ++ after))
