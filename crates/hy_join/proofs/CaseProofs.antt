-- The worked cases.
use Rattle.std.proofs.Common.{pos, ◌≡◌, ℕ, true, false, List, [], ◌∷◌, length, refl, sym, ap, ◌∙◌, arith}
use Rattle.std.specs.Prelude.{FitsSigned}
use Rattle.std.specs.Int.{w64}
use Rattle.std.proofs.lemmas.Int.{ints}
use Rattle.std.proofs.lemmas.List.Sorted.{length_permutation}
use Rattle.al_func.proofs.RexLaws.{eval_rex-Lit}
use Rattle.al_value.specs.declared.value.Value.TheVariants as V
use Rattle.hy_store.specs.Fields.{fields_of}
use Rattle.hy_driver.specs.Rows.{Row, values_of}
use Rattle.hy_driver.specs.Cases.{int_row}
use Rattle.hy_driver.proofs.Values.{values_again}
use Rattle.hy_job.proofs.FreeLaws.{IsPermutation-turn}
use Rattle.hy_join.specs.Cases.{FieldsOfNull, FreeUntilTheEnd, NullHasNoHash, NullOwesItself, OwesItselfAlone, OwesPairs, PairsBringTurns, PartnersHaveHashes, PlacesAreCounted, RestDecides, alone_one, fields_at, on_first, one_owes, pair_of_ones, three_rights}
use Rattle.hy_join.specs.Probe.{owed_of}

fits_one : FitsSigned w64 (pos 1)
fits_one = omega (arith, ints)

fits_two : FitsSigned w64 (pos 2)
fits_two = omega (arith, ints)

one : values_of (fields_at 1) ≡ int_row 1
one = values_again (int_row 1) (fits_one, tt)

two : values_of (fields_at 2) ≡ int_row 2
two = values_again (int_row 2) (fits_two, tt)

null : values_of (fields_of (V.Null ∷ [])) ≡ V.Null ∷ []
null = values_again (V.Null ∷ []) (tt, tt)

no_two : int_row 1 ≡ int_row 2 → ⊥
no_two e = let same : ◌≡◌ {A = ℕ} 1 2 = cc in omega (arith, same)

pub free_until_the_end : FreeUntilTheEnd
free_until_the_end = (
  (int_row 1 ∷ int_row 2 ∷ [], refl, IsPermutation-turn (int_row 1) (int_row 2) []),
  λ h. let many = length_permutation h.0 (int_row 2 ∷ []) h.2 in let kept : length h.0 ≡ 2 = ap (λ (rows : List Row). length rows) h.1 in omega (arith, many, kept),
  refl,
  λ h. no_two (sym (first_is (int_row 2) (int_row 1) (int_row 1 ∷ []) (int_row 2 ∷ []) h)),
)
  where
    first_is : (x y : Row) (xs ys : List Row) → x ∷ xs ≡ y ∷ ys → x ≡ y
    first_is x y xs ys e = cc

pub fields_of_null : FieldsOfNull
fields_of_null = (refl, refl, refl)

two_pairs : one_owes true 0 ≡ pair_of_ones ∷ pair_of_ones ∷ []
two_pairs = rw (one, two) (simp eval_rex-Lit)

pub owes_pairs : OwesPairs
owes_pairs = (two_pairs, λ e. no_third (sym two_pairs ∙ e), rw (one, two) (simp eval_rex-Lit), refl)
  where
    no_third : pair_of_ones ∷ pair_of_ones ∷ [] ≡ pair_of_ones ∷ pair_of_ones ∷ alone_one ∷ [] → ⊥
    no_third e = cc

pub owes_itself_alone : OwesItselfAlone
owes_itself_alone = (rw one refl, refl)

pub null_owes_itself : NullOwesItself
null_owes_itself = rw (one, null) refl

without_partner : owed_of (on_first false) 2 three_rights (fields_at 1) true true 0 ≡ alone_one ∷ []
without_partner = rw (one, two) (simp eval_rex-Lit)

pub rest_decides : RestDecides
rest_decides = (without_partner, λ e. no_pairs (sym without_partner ∙ e))
  where
    no_pairs : alone_one ∷ [] ≡ pair_of_ones ∷ pair_of_ones ∷ [] → ⊥
    no_pairs e = cc

pub pairs_bring_turns : PairsBringTurns
pairs_bring_turns = (refl, refl, refl)

pub null_has_no_hash : NullHasNoHash
null_has_no_hash = (refl, refl, λ e. cc)

pub places_are_counted : PlacesAreCounted
places_are_counted = (refl, refl)

pub partners_have_hashes : PartnersHaveHashes
partners_have_hashes = (refl, refl, λ hash. rw null refl)
