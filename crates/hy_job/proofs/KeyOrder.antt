-- The order of rows by keys is total.
use Rattle.std.proofs.Common.{Bool, true, false, List, [], ◌∷◌, refl, subst}
use Rattle.std.specs.Cmp.{IsTotalOrder, then_total, on_total, back_total}
use Rattle.std.specs.declared.cmp.Ordering.{Ordering}
use Rattle.al_value.specs.declared.settings.SortKey.{SortKey}
use Rattle.al_value.proofs.ValueLaws.{value_cmp_total}
use Rattle.hy_job.specs.Columns.{Row, column, directed, keys_cmp}

directed_total : {K : Type 0} {R : K → K → Ordering} (descending : Bool) → IsTotalOrder R → IsTotalOrder (λ x y. directed descending (R x y))
directed_total false o = o
directed_total true o = subst IsTotalOrder (λ i x y. o.antisymm y x i) (back_total o)

pub keys_cmp_total : (keys : List SortKey) → IsTotalOrder (keys_cmp keys)
keys_cmp_total [] = record { antisymm = λ x y. refl; trans = λ x y z p q. p; congr = λ x y z p. refl }
keys_cmp_total (k ∷ ks) = then_total (directed_total k.descending (on_total (λ (row : Row). column row k.column) value_cmp_total)) (keys_cmp_total ks)
