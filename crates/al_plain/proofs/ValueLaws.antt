-- What `==` of two rows says.
use Rattle.std.proofs.Common.{◌≡◌, true, false, refl, ap, ◌∙◌, Bool, Decides}
use Rattle.std.specs.Cmp.Lexicographic.{pointwise, bytes_decides}
use Rattle.std.proofs.lemmas.Slice.Eq.{slice_eq-Decides}
use Rattle.std.proofs.lemmas.Bool.Decides.{Decides-int_eq}
use Rattle.al_value.specs.contracts.value.ValuePartialEq.TheImpl.{eq-value}
use Rattle.al_value.specs.declared.value.Value.{Value}
use Rattle.al_value.specs.declared.value.Value.TheVariants as V
use Rattle.al_plain.specs.Rows.{Cells}
use Rattle.al_plain.specs.Groups.{same_value, same_cells}

value_decides : (a b : Value) → Decides (same_value a b) (a ≡ b)
value_decides V.Null V.Null = (λ e. refl, λ e. refl)
value_decides V.Null (V.Bool b) = (λ e. cc, λ e. cc)
value_decides V.Null (V.Int b) = (λ e. cc, λ e. cc)
value_decides V.Null (V.Text b) = (λ e. cc, λ e. cc)
value_decides (V.Bool a) V.Null = (λ e. cc, λ e. cc)
value_decides (V.Bool true) (V.Bool true) = (λ e. refl, λ e. refl)
value_decides (V.Bool true) (V.Bool false) = (λ e. cc, λ e. cc)
value_decides (V.Bool false) (V.Bool true) = (λ e. cc, λ e. cc)
value_decides (V.Bool false) (V.Bool false) = (λ e. refl, λ e. refl)
value_decides (V.Bool a) (V.Int b) = (λ e. cc, λ e. cc)
value_decides (V.Bool a) (V.Text b) = (λ e. cc, λ e. cc)
value_decides (V.Int a) V.Null = (λ e. cc, λ e. cc)
value_decides (V.Int a) (V.Bool b) = (λ e. cc, λ e. cc)
value_decides (V.Int a) (V.Int b) = (λ e. ap V.Int ((Decides-int_eq a b).0 e), λ e. let same : a ≡ b = cc in (Decides-int_eq a b).1 same)
value_decides (V.Int a) (V.Text b) = (λ e. cc, λ e. cc)
value_decides (V.Text a) V.Null = (λ e. cc, λ e. cc)
value_decides (V.Text a) (V.Bool b) = (λ e. cc, λ e. cc)
value_decides (V.Text a) (V.Int b) = (λ e. cc, λ e. cc)
value_decides (V.Text a) (V.Text b) = (λ e. ap V.Text ((bytes_decides a b).0 e), λ e. let same : a ≡ b = cc in (bytes_decides a b).1 same)

-- a derived `==` is this test
derived : (a b : Value) → eq-value.it a b ≡ same_value a b
derived V.Null V.Null = refl
derived V.Null (V.Bool b) = refl
derived V.Null (V.Int b) = refl
derived V.Null (V.Text b) = refl
derived (V.Bool a) V.Null = refl
derived (V.Bool a) (V.Bool b) = refl
derived (V.Bool a) (V.Int b) = refl
derived (V.Bool a) (V.Text b) = refl
derived (V.Int a) V.Null = refl
derived (V.Int a) (V.Bool b) = refl
derived (V.Int a) (V.Int b) = refl
derived (V.Int a) (V.Text b) = refl
derived (V.Text a) V.Null = refl
derived (V.Text a) (V.Bool b) = refl
derived (V.Text a) (V.Int b) = refl
derived (V.Text a) (V.Text b) = refl

pub cells_decide : (a b : Cells) → Decides (same_cells a b) (a ≡ b)
unfolding same_cells
cells_decide a b = slice_eq-Decides value_decides a b (pointwise same_value a b) refl

pub cells_tested : (a b : Cells) (r : Bool) → r ≡ pointwise eq-value.it a b → r ≡ same_cells a b
unfolding same_cells
cells_tested a b r e = e ∙ (λ i. pointwise (λ x y. derived x y i) a b)
