-- What a new driver gives.
use Rattle.std.proofs.Common.{◌≡◌, ◌↔◌, zero, suc, Bool, true, false, List, [], ◌∷◌, refl, ap, subst, ◌∙◌, arith}
use Rattle.std.specs.List.Sorted.{IsPermutation}
use Rattle.std.proofs.lemmas.List.Sorted.{length_permutation}
use Rattle.hy_job.specs.declared.job.Kind.TheVariants as K
use Rattle.hy_job.specs.Columns.{Row}
use Rattle.hy_job.specs.Drivers.{received_of, IfLast, NewDriversGive, DriversMove}
use Rattle.hy_job.proofs.FreeLaws.{IsPermutation-one, free_outputs}

same : {P : Type 0} → P ↔ P
same = (λ h. h, λ h. h)

pub new_drivers_give : NewDriversGive
new_drivers_give K.One arity n zero scanned handed received out = same
new_drivers_give K.One arity n (suc j) scanned handed received out = same
new_drivers_give (K.AggPart made) arity n j scanned handed received out = (λ h. h.2 ∙ ap (λ row. row ∷ []) h.1, λ h. (_, refl, h))
new_drivers_give (K.AggFinal made) arity n zero scanned handed received out = same
new_drivers_give (K.AggFinal made) arity n (suc j) scanned handed received out = same
new_drivers_give _ arity n j scanned handed received out = same

one_moved : (b : Bool) (P : Row → Type 0) (out moved : List Row) → IfLast b P out → IsPermutation out moved → IfLast b P moved
one_moved true P out moved h p = (h.0, h.1, IsPermutation-one h.0 moved (subst (λ xs. IsPermutation xs moved) h.2 p))
one_moved false P out moved h p = none moved (subst (λ xs. IsPermutation xs moved) h p)
  where
    none : (xs : List Row) → IsPermutation [] xs → xs ≡ []
    none [] q = refl
    none (x ∷ xs) q = absurd (omega (arith, length_permutation _ _ q))

pub drivers_move : DriversMove
drivers_move (K.SortBuild keys) arity left free took rest moved h p = free_outputs (K.SortBuild keys) arity 1 0 (received_of took) [] [] rest moved refl h p
drivers_move (K.GroupBuild arg) arity left free took rest moved h p = free_outputs (K.GroupBuild arg) arity 1 0 (received_of took) [] [] rest moved refl h p
drivers_move (K.JoinBuild arg) arity left free took rest moved h p = free_outputs (K.JoinBuild arg) arity 1 0 (received_of took) [] [] rest moved refl h p
drivers_move (K.GroupEmit arg) arity left free took rest moved h p = free_outputs (K.GroupEmit arg) arity 1 0 (received_of took) [] left.handed rest moved refl h p
drivers_move (K.JoinProbe arg) arity left free took rest moved h p = free_outputs (K.JoinProbe arg) arity 1 0 (received_of took) [] left.handed rest moved refl h p
drivers_move (K.AggPart made) arity left free took rest moved h p = one_moved left.last _ rest moved h p
drivers_move (K.AggFinal made) arity left free took rest moved h p = one_moved left.last _ rest moved h p
drivers_move _ arity left free took rest moved h p = absurd (no free)
  where
    no : false ≡ true → ⊥
    no e = cc
