-- The number of a token.
use Rattle.std.proofs.Common.{◌≡◌, ℕ, List, Ok, Err, ℤ, refl, inl, inr}
use Rattle.std.proofs.lemmas.Bool.{cases_Bool}
use Rattle.al_value.specs.declared.value.Value.TheVariants as V
use Rattle.al_csv.specs.declared.refused.DataKind.TheVariants as bad
use Rattle.al_csv.specs.Fields.{int_of, int_field}
use Rattle.al_read.specs.declared.plan.reader.Stopped.TheVariants as stops
use Rattle.al_read.specs.PlanReading.{is_int, int_of_digits}

-- an INT field and a number are read alike
pub int_is : (digits : List ℕ) (z : ℤ) → int_field digits ≡ Ok (V.Int z) → int_of_digits digits ≡ Ok z
int_is digits z h =
    elim (cases_Bool (is_int digits)) [
      | inl y ↦ let k = rw y at h in let e : int_of digits ≡ z = cc in rw (y, e) refl
      | inr n ↦ let k = rw n at h in absurd cc
    ]

pub int_is_not : (digits : List ℕ) → int_field digits ≡ Err bad.BadInt → int_of_digits digits ≡ Err stops.Number
int_is_not digits h =
    elim (cases_Bool (is_int digits)) [
      | inl y ↦ let k = rw y at h in absurd cc
      | inr n ↦ rw n refl
    ]
