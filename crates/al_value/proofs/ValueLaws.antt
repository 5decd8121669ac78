-- The order of values is total.
use Rattle.std.proofs.Common.{◌≡◌, refl, subst}
use Rattle.std.specs.Cmp.{IsTotalOrder}
use Rattle.al_value.specs.contracts.value.ValueOrd.TheImpl.{cmp-value}
use Rattle.al_value.specs.contracts.value.ValueOrd.TheImpl.Laws.{total-law}
use Rattle.al_value.specs.declared.value.Value.{Value}
use Rattle.al_value.specs.declared.value.Value.TheVariants as V
use Rattle.al_value.specs.Value.{value_cmp}

-- a derived `cmp` is this order
derived : (x y : Value) → cmp-value.it x y ≡ value_cmp x y
derived V.Null V.Null = refl
derived V.Null (V.Bool b) = refl
derived V.Null (V.Int b) = refl
derived V.Null (V.Text b) = refl
derived (V.Bool a) V.Null = refl
derived (V.Bool a) (V.Bool b) = refl
derived (V.Bool a) (V.Int b) = refl
derived (V.Bool a) (V.Text b) = refl
derived (V.Int a) V.Null = refl
derived (V.Int a) (V.Bool b) = refl
derived (V.Int a) (V.Int b) = refl
derived (V.Int a) (V.Text b) = refl
derived (V.Text a) V.Null = refl
derived (V.Text a) (V.Bool b) = refl
derived (V.Text a) (V.Int b) = refl
derived (V.Text a) (V.Text b) = refl

pub value_cmp_total : IsTotalOrder value_cmp
value_cmp_total = subst IsTotalOrder (λ i x y. derived x y i) total-law
