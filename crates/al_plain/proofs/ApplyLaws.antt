-- A call of a function with another number of arguments than it takes is NULL.
use Rattle.std.proofs.Common.{◌≡◌, List, [], ◌∷◌, length, refl}
use Rattle.al_value.specs.declared.value.Value.{Value}
use Rattle.al_value.specs.declared.value.Value.TheVariants as V
use Rattle.al_func.specs.declared.func.Func.{Func}
use Rattle.al_func.specs.declared.func.Func.TheVariants as F
use Rattle.al_func.specs.Func.{apply, arity}

pub apply-other : (f : Func) (args : List Value) → (length args ≡ arity f → ⊥) → apply f args ≡ V.Null
unfolding apply
apply-other F.Eq [] h = refl
apply-other F.Eq (a ∷ []) h = refl
apply-other F.Eq (a ∷ b ∷ []) h = absurd (h refl)
apply-other F.Eq (a ∷ b ∷ c ∷ more) h = refl
apply-other F.Lt [] h = refl
apply-other F.Lt (a ∷ []) h = refl
apply-other F.Lt (a ∷ b ∷ []) h = absurd (h refl)
apply-other F.Lt (a ∷ b ∷ c ∷ more) h = refl
apply-other F.Le [] h = refl
apply-other F.Le (a ∷ []) h = refl
apply-other F.Le (a ∷ b ∷ []) h = absurd (h refl)
apply-other F.Le (a ∷ b ∷ c ∷ more) h = refl
apply-other F.And [] h = refl
apply-other F.And (a ∷ []) h = refl
apply-other F.And (a ∷ b ∷ []) h = absurd (h refl)
apply-other F.And (a ∷ b ∷ c ∷ more) h = refl
apply-other F.Or [] h = refl
apply-other F.Or (a ∷ []) h = refl
apply-other F.Or (a ∷ b ∷ []) h = absurd (h refl)
apply-other F.Or (a ∷ b ∷ c ∷ more) h = refl
apply-other F.Add [] h = refl
apply-other F.Add (a ∷ []) h = refl
apply-other F.Add (a ∷ b ∷ []) h = absurd (h refl)
apply-other F.Add (a ∷ b ∷ c ∷ more) h = refl
apply-other F.Sub [] h = refl
apply-other F.Sub (a ∷ []) h = refl
apply-other F.Sub (a ∷ b ∷ []) h = absurd (h refl)
apply-other F.Sub (a ∷ b ∷ c ∷ more) h = refl
apply-other F.Mul [] h = refl
apply-other F.Mul (a ∷ []) h = refl
apply-other F.Mul (a ∷ b ∷ []) h = absurd (h refl)
apply-other F.Mul (a ∷ b ∷ c ∷ more) h = refl
apply-other F.Div [] h = refl
apply-other F.Div (a ∷ []) h = refl
apply-other F.Div (a ∷ b ∷ []) h = absurd (h refl)
apply-other F.Div (a ∷ b ∷ c ∷ more) h = refl
apply-other F.Mod [] h = refl
apply-other F.Mod (a ∷ []) h = refl
apply-other F.Mod (a ∷ b ∷ []) h = absurd (h refl)
apply-other F.Mod (a ∷ b ∷ c ∷ more) h = refl
apply-other F.Concat [] h = refl
apply-other F.Concat (a ∷ []) h = refl
apply-other F.Concat (a ∷ b ∷ []) h = absurd (h refl)
apply-other F.Concat (a ∷ b ∷ c ∷ more) h = refl
apply-other F.Coalesce [] h = refl
apply-other F.Coalesce (a ∷ []) h = refl
apply-other F.Coalesce (a ∷ b ∷ []) h = absurd (h refl)
apply-other F.Coalesce (a ∷ b ∷ c ∷ more) h = refl
apply-other F.Not [] h = refl
apply-other F.Not (a ∷ []) h = absurd (h refl)
apply-other F.Not (a ∷ b ∷ more) h = refl
apply-other F.Neg [] h = refl
apply-other F.Neg (a ∷ []) h = absurd (h refl)
apply-other F.Neg (a ∷ b ∷ more) h = refl
apply-other F.Length [] h = refl
apply-other F.Length (a ∷ []) h = absurd (h refl)
apply-other F.Length (a ∷ b ∷ more) h = refl
apply-other F.LowerAscii [] h = refl
apply-other F.LowerAscii (a ∷ []) h = absurd (h refl)
apply-other F.LowerAscii (a ∷ b ∷ more) h = refl
apply-other F.IsNull [] h = refl
apply-other F.IsNull (a ∷ []) h = absurd (h refl)
apply-other F.IsNull (a ∷ b ∷ more) h = refl
apply-other F.Substr [] h = refl
apply-other F.Substr (a ∷ []) h = refl
apply-other F.Substr (a ∷ b ∷ []) h = refl
apply-other F.Substr (a ∷ b ∷ c ∷ []) h = absurd (h refl)
apply-other F.Substr (a ∷ b ∷ c ∷ d ∷ more) h = refl
apply-other F.If [] h = refl
apply-other F.If (a ∷ []) h = refl
apply-other F.If (a ∷ b ∷ []) h = refl
apply-other F.If (a ∷ b ∷ c ∷ []) h = absurd (h refl)
apply-other F.If (a ∷ b ∷ c ∷ d ∷ more) h = refl
