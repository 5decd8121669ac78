-- Rows that are cut, kept and ordered.
use Rattle.std.proofs.Common.{◌≡◌, ◌+◌, ◌<◌, Bool, true, false, cond, List, [], ◌∷◌, map, filter, length, refl, ap, sym, subst, ◌∙◌, arith}
use Rattle.std.specs.Prelude.{◌||◌}
use Rattle.std.specs.Prelude.{nat_eq, if◌then◌else◌}
use Rattle.std.specs.Cmp.{IsTotalOrder, then_total, on_total, back_total}
use Rattle.std.specs.Cmp.Lexicographic.{pointwise, same_text}
use Rattle.std.specs.List.Sorted.{IsSorted}
use Rattle.std.specs.Ordering.{ordering_reverse}
use Rattle.std.specs.declared.cmp.Ordering.{Ordering}
use Rattle.std.proofs.lemmas.List.{get_or-map, length-map}
use Rattle.al_value.specs.declared.value.Value.{Value}
use Rattle.al_value.specs.declared.value.Value.TheVariants as V
use Rattle.al_value.proofs.ValueLaws.{value_cmp_total}
use Rattle.al_plan.specs.declared.expr.Var.{Var}
use Rattle.al_plan.specs.declared.plan.OrderKey.{OrderKey}
use Rattle.al_plan.specs.Eval.{Bytes, Env, bind}
use Rattle.al_plan.specs.Allows.{cut, is_among, keys_cmp, directed}
use Rattle.al_plan.proofs.EvalLaws.{bind-cons, bind-nil}

pub map-filter : {X Y : Type 0} (f : X → Y) (p : Y → Bool) (xs : List X) → map f (filter (λ x. p (f x)) xs) ≡ filter p (map f xs)
map-filter f p [] = refl
map-filter f p (x ∷ xs) =
    elim (p (f x)) as (λ b. map f (cond b (x ∷ filter (λ z. p (f z)) xs) (filter (λ z. p (f z)) xs)) ≡ cond b (f x ∷ filter p (map f xs)) (filter p (map f xs))) [
      | true ↦ ap (λ ys. f x ∷ ys) (map-filter f p xs)
      | false ↦ map-filter f p xs
    ]

cut_or : (r : Env) (x q : Bytes) (b : Bool) (rest : Value) (more : Bool) → pointwise nat_eq x q ≡ b → rest ≡ (if more then r q else V.Null) → (if b then r x else rest) ≡ (if b || more then r q else V.Null)
cut_or r x q true rest more same e = ap r (same_text x q (sym same))
cut_or r x q false rest more other e = e

-- the listed variables' values, bound again, are the row cut to them
pub bind-cut_at : (out : List Var) (r : Env) (q : Bytes) → bind out (map (λ v. r v.name) out) q ≡ cut out r q
bind-cut_at [] r q = bind-nil [] q
bind-cut_at (v ∷ out) r q =
    bind-cons v out (r v.name) (map (λ v. r v.name) out) q ∙ cut_or r v.name q (pointwise nat_eq v.name q) _ (is_among out q) refl (bind-cut_at out r q)

pub bind-cut : (out : List Var) (r : Env) → bind out (map (λ v. r v.name) out) ≡ cut out r
bind-cut out r i q = bind-cut_at out r q i

reversed_total : {K : Type 0} {R : K → K → Ordering} → IsTotalOrder R → IsTotalOrder (λ x y. ordering_reverse (R x y))
reversed_total o = subst IsTotalOrder (λ i x y. o.antisymm y x i) (back_total o)

directed_total : {K : Type 0} {R : K → K → Ordering} (descending : Bool) → IsTotalOrder R → IsTotalOrder (λ x y. directed descending (R x y))
directed_total false o = o
directed_total true o = reversed_total o

pub keys_cmp_total : (keys : List OrderKey) → IsTotalOrder (keys_cmp keys)
keys_cmp_total [] = record { antisymm = λ x y. refl; trans = λ x y z p q. p; congr = λ x y z p. refl }
keys_cmp_total (k ∷ ks) = then_total (directed_total k.descending (on_total (λ (r : Env). r k.var.name) value_cmp_total)) (keys_cmp_total ks)

pub IsSorted-map : {X Y : Type 0} (f : X → Y) (R : Y → Y → Ordering) (xs : List X) → IsSorted (λ a b. R (f a) (f b)) xs → IsSorted R (map f xs)
IsSorted-map f R [] sorted k d low high = absurd (omega arith)
IsSorted-map f R (x ∷ xs) sorted k d low high =
    let within : k + 1 < length (x ∷ xs) = omega (arith, length-map (x ∷ xs) f) in
    let before : k < length (x ∷ xs) = omega arith in
    rw (get_or-map f (x ∷ xs) (k + 1) x d within, get_or-map f (x ∷ xs) k x d before) (sorted k x low within)
