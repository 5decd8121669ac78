-- The longest prefix of an order whose variables are kept.
use Rattle.std.proofs.Common.{◌≡◌, ℕ, ◌+◌, ◌<◌, true, List, [], ◌∷◌, ◌++◌, length, get_or, drop, ap, sym, ◌∙◌, append_assoc}
use Rattle.std.specs.Prelude.{if◌then◌else◌}
use Rattle.std.proofs.lemmas.List.{drop_more}
use Rattle.al_plan.specs.declared.expr.Var.{Var}
use Rattle.al_plan.specs.declared.plan.OrderKey.{OrderKey}
use Rattle.al_plan.specs.Allows.{is_among}
use Rattle.al_phys.specs.Properties.{kept_keys}

-- a kept key goes behind the prefix that was taken so far
pub kept_more : (vars : List Var) (keys kept : List OrderKey) (i : ℕ) (k : OrderKey) → i < length keys → k ≡ get_or keys i k → is_among vars k.var.name ≡ true
    → kept ++ kept_keys vars (drop i keys) ≡ kept_keys vars keys → (kept ++ k ∷ []) ++ kept_keys vars (drop (i + 1) keys) ≡ kept_keys vars keys
kept_more vars keys kept i k lt is passes h =
    let rest = kept_keys vars (drop (i + 1) keys) in
    let e : drop i keys ≡ k ∷ drop (i + 1) keys = drop_more keys i k lt ∙ ap (λ y. y ∷ drop (i + 1) keys) (sym is) in
    let step : kept_keys vars (drop i keys) ≡ k ∷ rest = ap (kept_keys vars) e ∙ ap (λ b. if b then k ∷ rest else []) passes in
    append_assoc kept (k ∷ []) rest ∙ ap (λ t. kept ++ t) (sym step) ∙ h
