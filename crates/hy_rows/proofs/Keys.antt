-- What `==` of two keys says.
use Rattle.std.proofs.Common.{◌≡◌, Bool, true, false, refl, ap, Decides}
use Rattle.std.specs.Cmp.Lexicographic.{pointwise, bytes_decides}
use Rattle.std.proofs.lemmas.Slice.Eq.{slice_eq-Decides}
use Rattle.std.proofs.lemmas.Bool.Decides.{Decides-int_eq}
use Rattle.al_value.specs.contracts.value.ValuePartialEq.TheImpl.{eq-value}
use Rattle.al_value.specs.declared.value.Value.{Value}
use Rattle.al_value.specs.declared.value.Value.TheVariants as V
use Rattle.hy_job.specs.Columns.{Row}

pub value_decides : (a b : Value) → Decides (eq-value.it a b) (a ≡ b)
value_decides V.Null V.Null = (λ e. refl, λ e. refl)
value_decides V.Null (V.Bool b) = (λ e. cc, λ e. cc)
value_decides V.Null (V.Int b) = (λ e. cc, λ e. cc)
value_decides V.Null (V.Text b) = (λ e. cc, λ e. cc)
value_decides (V.Bool a) V.Null = (λ e. cc, λ e. cc)
value_decides (V.Bool true) (V.Bool true) = (λ e. refl, λ e. refl)
value_decides (V.Bool true) (V.Bool false) = (λ e. cc, λ e. cc)
value_decides (V.Bool false) (V.Bool true) = (λ e. cc, λ e. cc)
value_decides (V.Bool false) (V.Bool false) = (λ e. refl, λ e. refl)
value_decides (V.Bool a) (V.Int b) = (λ e. cc, λ e. cc)
value_decides (V.Bool a) (V.Text b) = (λ e. cc, λ e. cc)
value_decides (V.Int a) V.Null = (λ e. cc, λ e. cc)
value_decides (V.Int a) (V.Bool b) = (λ e. cc, λ e. cc)
value_decides (V.Int a) (V.Int b) = (λ e. ap V.Int ((Decides-int_eq a b).0 e), λ e. let same : a ≡ b = cc in (Decides-int_eq a b).1 same)
value_decides (V.Int a) (V.Text b) = (λ e. cc, λ e. cc)
value_decides (V.Text a) V.Null = (λ e. cc, λ e. cc)
value_decides (V.Text a) (V.Bool b) = (λ e. cc, λ e. cc)
value_decides (V.Text a) (V.Int b) = (λ e. cc, λ e. cc)
value_decides (V.Text a) (V.Text b) = (λ e. ap V.Text ((bytes_decides a b).0 e), λ e. let same : a ≡ b = cc in (bytes_decides a b).1 same)

-- the test by which a map finds a key
abbrev pub is_key : Row → Row → Bool
is_key key k = pointwise eq-value.it key k

pub keys_decide : (a b : Row) → Decides (is_key a b) (a ≡ b)
keys_decide a b = slice_eq-Decides value_decides a b (pointwise eq-value.it a b) refl
