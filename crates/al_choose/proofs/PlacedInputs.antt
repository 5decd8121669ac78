-- What serves a need over a plan that stands by itself, and the operators of it.
use Rattle.std.proofs.Common.{◌≡◌, ℕ, Bool, true, false, not, nat_eq, List, [], ◌∷◌, ◌++◌, inl, inr, refl, ap, sym, subst, ◌∙◌, None}
use Rattle.std.specs.Prelude.{◌||◌, if◌then◌else◌}
use Rattle.std.specs.Cmp.Lexicographic.{pointwise}
use Rattle.std.specs.List.{AllByRecursion}
use Rattle.al_plan.specs.declared.expr.Var.{Var}
use Rattle.al_plan.specs.Allows.{is_among}
use Rattle.al_plan.specs.Refines.{AreLive, AtMost64}
use Rattle.al_plan.proofs.Makes.{at_head}
use Rattle.al_phys.specs.declared.property.Partitioning.TheVariants as D
use Rattle.al_phys.specs.declared.property.Need.{Need}
use Rattle.al_phys.specs.declared.property.Need.TheVariants as N
use Rattle.al_phys.specs.declared.phys.Phys.{Phys}
use Rattle.al_phys.specs.declared.phys.Phys.TheVariants as Q
use Rattle.al_phys.specs.Operators.{phys_live, phys_result, operators}
use Rattle.al_phys.specs.Properties.{meets, fits, parts_of, spread_of, is_broadcast}
use Rattle.al_phys.specs.Placed.{IsWhole, IsLaid, IsMet, IsExchange, IsServed}
use Rattle.al_phys.proofs.OperatorLaws.{poperators-Gather, poperators-HashExchange, poperators-Broadcast, plive-Gather, plive-HashExchange, plive-Broadcast}
use Rattle.al_phys.proofs.PropertyLaws.{laid-Gather, laid-HashExchange, laid-Broadcast}
use Rattle.al_phys.proofs.OverLaws.{live_more}
use Rattle.al_phys.proofs.FlowLaws.{all_both}
use Rattle.al_choose.specs.Chosen.{exchange, served}
use Rattle.al_choose.proofs.ServedOf.{of_both, served_any}
use Rattle.al_choose.proofs.PlacedRoots.{Once, into}

-- ---- needs

-- a plan that may be the input of any operator
pub record Ready (n : ℕ) (q : Phys) : Type 0 where
  pub whole : IsWhole n q
  pub root : phys_result q ≡ None
  pub once : Once q

pub any_met : (n : ℕ) (q : Phys) → Once q → meets (parts_of q n) N.Any n ≡ true
any_met n q once = go (nat_eq n 1)
  where
    go : (b : Bool) → (b || fits (if b then D.Unpartitioned else (spread_of q).by) N.Any) ≡ true
    go true = refl
    go false = ap not once

pub by_exchange : (n : ℕ) (need : Need) (q : Phys) → IsExchange need (exchange need q) q → IsMet n need (served n need q) q
by_exchange n need q moved = go (meets (parts_of q n) need n) refl
  where
    go : (b : Bool) → meets (parts_of q n) need n ≡ b → IsMet n need (if b then q else exchange need q) q
    go true e = inl (refl, e)
    go false e = inr (moved, e)

is_met : (n : ℕ) (need : Need) (q : Phys) → Once q → IsMet n need (served n need q) q
is_met n N.Any q once = inl (served_any n q, any_met n q once)
is_met n N.One q once = by_exchange n N.One q refl
is_met n (N.Keyed vars) q once = by_exchange n (N.Keyed vars) q refl
is_met n (N.Exactly vars) q once = by_exchange n (N.Exactly vars) q refl
is_met n N.All q once = by_exchange n N.All q refl

pub is_served : (n : ℕ) (need : Need) (q : Phys) → Ready n q → IsServed n need (served n need q)
is_served n need q ready = (q, is_met n need q ready.once, ready.whole, ready.root)

-- ---- operators

-- an operator that is laid over its inputs, and is not too wide
pub record Sound (n : ℕ) (q : Phys) : Type 0 where
  pub laid : IsLaid n q
  pub narrow : AtMost64 (phys_live q)

abbrev pub AllSound : ℕ → Phys → Type 0
AllSound n q = AllByRecursion (Sound n) (operators q)

module _ (n : ℕ) where
  pub all_over : (r q : Phys) → operators r ≡ r ∷ operators q → IsLaid n r → AtMost64 (phys_live r) → AllSound n q → AllSound n r
  all_over r q e laid narrow all = subst (AllByRecursion (Sound n)) (sym e) (record { laid = laid; narrow = narrow }, all)

  pub all_over_two : (r p q : Phys) → operators r ≡ r ∷ (operators p ++ operators q) → IsLaid n r → AtMost64 (phys_live r) → AllSound n p → AllSound n q → AllSound n r
  all_over_two r p q e laid narrow all more = subst (AllByRecursion (Sound n)) (sym e) (record { laid = laid; narrow = narrow }, all_both (Sound n) (operators p) (operators q) all more)

  pub all_alone : (r : Phys) → operators r ≡ r ∷ [] → IsLaid n r → AtMost64 (phys_live r) → AllSound n r
  all_alone r e laid narrow = subst (AllByRecursion (Sound n)) (sym e) (record { laid = laid; narrow = narrow }, tt)

-- the variables of a need are live
abbrev pub NeedsLive : Need → Phys → Type 0
NeedsLive N.Any q = Unit {0}
NeedsLive N.One q = Unit {0}
NeedsLive (N.Keyed vars) q = AreLive (phys_live q) vars
NeedsLive (N.Exactly vars) q = AreLive (phys_live q) vars
NeedsLive N.All q = Unit {0}

pub live_itself : (vars : List Var) → AreLive vars vars
live_itself [] = tt
live_itself (v ∷ vars) = (at_head v vars, live_more vars (v ∷ vars) vars (λ q e. or_right (pointwise nat_eq v.name q) (is_among vars q) e) (live_itself vars))
  where
    or_right : (a b : Bool) → b ≡ true → (a || b) ≡ true
    or_right true b e = refl
    or_right false b e = e

module _ (n : ℕ) (q : Phys) (narrow : AtMost64 (phys_live q)) (all : AllSound n q) where
  hashed : (vars : List Var) → AreLive (phys_live q) vars → AllSound n (Q.HashExchange vars q)
  hashed vars live = all_over n (Q.HashExchange vars q) q (poperators-HashExchange vars q) (into (laid-HashExchange n vars q) live) (subst AtMost64 (sym (plive-HashExchange vars q)) narrow) all

  pub gathered : AllSound n (Q.Gather q)
  gathered = all_over n (Q.Gather q) q (poperators-Gather q) (into (laid-Gather n q) tt) (subst AtMost64 (sym (plive-Gather q)) narrow) all

  exchanged : (need : Need) → NeedsLive need q → AllSound n (exchange need q)
  exchanged N.Any live = all
  exchanged N.One live = gathered
  exchanged (N.Keyed vars) live = hashed vars live
  exchanged (N.Exactly vars) live = hashed vars live
  exchanged N.All live = all_over n (Q.Broadcast q) q (poperators-Broadcast q) (into (laid-Broadcast n q) tt) (subst AtMost64 (sym (plive-Broadcast q)) narrow) all

  pub served_sound : (need : Need) → NeedsLive need q → AllSound n (served n need q)
  served_sound need live = of_both (AllSound n) (meets (parts_of q n) need n) q (exchange need q) all (exchanged need live)
