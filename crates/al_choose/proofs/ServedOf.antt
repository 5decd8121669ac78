-- Definitions that say the same of an input and of what serves a need over it.
use Rattle.std.proofs.Common.{◌≡◌, ℕ, Bool, true, false, List, refl, ◌∙◌}
use Rattle.std.specs.Prelude.{◌+◌, if◌then◌else◌}
use Rattle.al_plan.specs.declared.expr.Var.{Var}
use Rattle.al_plan.specs.declared.plan.OrderKey.{OrderKey}
use Rattle.al_phys.specs.declared.property.Need.{Need}
use Rattle.al_phys.specs.declared.property.Need.TheVariants as N
use Rattle.al_phys.specs.declared.phys.Phys.{Phys}
use Rattle.al_phys.specs.declared.phys.Phys.TheVariants as Q
use Rattle.al_phys.specs.Properties.{meets, parts_of}
use Rattle.al_choose.specs.Chosen.{exchange, served, merge_over, limit_over, is_rank}

-- what is so of both is so of the one that is taken
pub of_both : {X : Type 0} (P : X → Type 0) (b : Bool) (x y : X) → P x → P y → P (if b then x else y)
of_both P true x y h g = h
of_both P false x y h g = g

-- what only needs that no row stands twice gets its input as it is
pub served_any : (n : ℕ) (q : Phys) → served n N.Any q ≡ q
served_any n q = of_both (λ r. r ≡ q) (meets (parts_of q n) N.Any n) q q refl refl

-- a definition that says of an exchange, a merge or a limit what it says of the input
pub record Passes {A : Type 0} (f : Phys → A) : Type 0 where
  pub hash : (vars : List Var) (q : Phys) → f (Q.HashExchange vars q) ≡ f q
  pub gather : (q : Phys) → f (Q.Gather q) ≡ f q
  pub broadcast : (q : Phys) → f (Q.Broadcast q) ≡ f q
  pub merge : (keys : List OrderKey) (q : Phys) → f (Q.Merge keys q) ≡ f q
  pub local : (m : ℕ) (q : Phys) → f (Q.LocalLimit m q) ≡ f q
  pub limit : (m k : ℕ) (q : Phys) → f (Q.Limit m k q) ≡ f q

module _ {A : Type 0} (f : Phys → A) (passes : Passes f) where
  pub exchange_passes : (need : Need) (q : Phys) → f (exchange need q) ≡ f q
  exchange_passes N.Any q = refl
  exchange_passes N.One q = passes.gather q
  exchange_passes (N.Keyed vars) q = passes.hash vars q
  exchange_passes (N.Exactly vars) q = passes.hash vars q
  exchange_passes N.All q = passes.broadcast q

  pub served_passes : (n : ℕ) (need : Need) (q : Phys) → f (served n need q) ≡ f q
  served_passes n need q = of_both (λ r. f r ≡ f q) (meets (parts_of q n) need n) q (exchange need q) refl (exchange_passes need q)

  pub merge_passes : (n : ℕ) (keys : List OrderKey) (q : Phys) → f (merge_over n keys q) ≡ f q
  merge_passes n keys q = of_both (λ r. f r ≡ f q) (meets (parts_of q n) N.One n) q (Q.Merge keys q) refl (passes.merge keys q)

  pub limit_passes : (n m k : ℕ) (q : Phys) → f (limit_over n m k q) ≡ f q
  limit_passes n m k q =
      let all = Q.Limit m k (Q.Gather q) in
      let cut = Q.LocalLimit (m + k) q in
      of_both (λ r. f r ≡ f q) (meets (parts_of q n) N.One n) (Q.Limit m k q) (if is_rank (m + k) then Q.Limit m k (Q.Gather cut) else all) (passes.limit m k q)
      (of_both (λ r. f r ≡ f q) (is_rank (m + k)) (Q.Limit m k (Q.Gather cut)) all (passes.limit m k (Q.Gather cut) ∙ passes.gather cut ∙ passes.local (m + k) q) (passes.limit m k (Q.Gather q) ∙ passes.gather q))
