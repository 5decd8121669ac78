-- The chosen plan stands by itself: it is no exchange, and does not deliver its rows twice.
use Rattle.std.proofs.Common.{◌≡◌, ℕ, Bool, true, false, not, nat_eq, List, map, refl, ap, sym, subst, ◌∙◌}
use Rattle.std.specs.Prelude.{◌+◌, ◌||◌, if◌then◌else◌}
use Rattle.al_plan.specs.declared.expr.Var.{Var}
use Rattle.al_plan.specs.declared.expr.Expr.{Expr}
use Rattle.al_plan.specs.declared.plan.OrderKey.{OrderKey}
use Rattle.al_plan.specs.declared.plan.Plan.{Plan, map-Plan, roll-Plan, ind-Plan}
use Rattle.al_plan.specs.declared.plan.Plan.TheOpen as L
use Rattle.al_plan.specs.Accept.{are_among}
use Rattle.al_phys.specs.declared.property.Partitioning.{Partitioning}
use Rattle.al_phys.specs.declared.property.Partitioning.TheVariants as D
use Rattle.al_phys.specs.declared.property.Need.{Need}
use Rattle.al_phys.specs.declared.property.Need.TheVariants as N
use Rattle.al_phys.specs.declared.phys.Phys.{Phys}
use Rattle.al_phys.specs.declared.phys.Phys.TheVariants as Q
use Rattle.al_phys.specs.declared.phys.Phys.TheOpen as Open
use Rattle.al_phys.specs.Gives.{is_hash}
use Rattle.al_phys.specs.Operators.{phys_live, is_exchange}
use Rattle.al_phys.specs.Properties.{meets, fits, parts_of, spread_of, is_broadcast, old_of, new_for, kept_parts, group_parts, union_parts, join_parts, join_need, left_keys, equi_keys}
use Rattle.al_phys.specs.Placed.{IsWhole, whole_step, ascending}
use Rattle.al_phys.proofs.OperatorLaws.{pexchange-Scan, pexchange-One, pexchange-Assign, pexchange-Select, pexchange-Project, pexchange-Unnest, pexchange-Subplan, pexchange-Check, pexchange-Join, pexchange-HashGroup, pexchange-PreGroup, pexchange-HashDistinct, pexchange-AggFinal, pexchange-Union, pexchange-Sort, pexchange-Limit, pexchange-Result, pexchange-Merge}
use Rattle.al_phys.proofs.PropertyLaws.{whole-Scan, whole-One, whole-Assign, whole-Select, whole-Project, whole-Unnest, whole-Subplan, whole-Check, whole-Join, whole-HashGroup, whole-PreGroup, whole-HashDistinct, whole-AggFinal, whole-Union, whole-Sort, whole-Limit, whole-Result, whole-Merge}
use Rattle.al_phys.proofs.PropertyLaws.{spread-Scan, spread-One, spread-Assign, spread-Select, spread-Project, spread-Unnest, spread-Subplan, spread-Check, spread-Join, spread-HashGroup, spread-PreGroup, spread-HashDistinct, spread-AggFinal, spread-Union, spread-Sort, spread-Limit, spread-Result, spread-HashExchange, spread-Merge}
use Rattle.al_choose.specs.Chosen.{chosen, served, join_form, join_over, merge_over, limit_over, is_rank}
use Rattle.al_choose.proofs.ChosenLaws.{ChosenLayer, chosen-roll}
use Rattle.al_choose.proofs.ServedOf.{of_both, served_any}
use Rattle.al_choose.proofs.LiveOf.{group_cases}

pub into : {A B : Type 0} → A ≡ B → B → A
into e b = subst (λ (t : Type 0). t) (sym e) b

-- what is so of each form of a limit over this input
pub limit_forms : (P : Phys → Type 0) (n m k : ℕ) (q : Phys) → ((p : Phys) → P (Q.Limit m k p)) → P (limit_over n m k q)
limit_forms P n m k q h =
    let cut = Q.Limit m k (Q.Gather (Q.LocalLimit (m + k) q)) in
    let all = Q.Limit m k (Q.Gather q) in
    of_both P (meets (parts_of q n) N.One n) (Q.Limit m k q) (if is_rank (m + k) then cut else all) (h q)
    (of_both P (is_rank (m + k)) cut all (h (Q.Gather (Q.LocalLimit (m + k) q))) (h (Q.Gather q)))

-- ---- no exchange

abbrev NoExchange : Phys → Type 0
NoExchange q = is_exchange q ≡ false

step_exchange : {S : Type 0} (up : S → Plan) (n : ℕ) (y : L.Plan-F S) → NoExchange (ChosenLayer n (map-Plan S Plan up y))
step_exchange up n (L.Scan set vars) = pexchange-Scan set vars
step_exchange up n L.Empty = pexchange-One
step_exchange up n L.Nested = pexchange-One
step_exchange up n (L.Assign made s) = pexchange-Assign made _
step_exchange up n (L.Select c s) = pexchange-Select c _
step_exchange up n (L.Project vars s) = pexchange-Project vars _
step_exchange up n (L.Unnest v its s) = pexchange-Unnest v its _
step_exchange up n (L.Subplan m s) = pexchange-Subplan (up m) _
step_exchange up n (L.Join c l r) = pexchange-Join _ c _ _
step_exchange up n (L.LeftJoin c l r) = pexchange-Join _ c _ _
step_exchange up n (L.Group keys m s) =
    let q = served n (N.Keyed (old_of keys)) (chosen n (up s)) in
    group_cases keys (up m) q NoExchange (pexchange-PreGroup keys (up m) q) (pexchange-HashGroup keys (up m) q) (pexchange-PreGroup keys (up m) (Q.Sort (ascending keys) q))
step_exchange up n (L.Distinct s) = pexchange-HashDistinct _
step_exchange up n (L.Union made ls rs l r) = pexchange-Union made ls rs _ _
step_exchange up n (L.Aggregate made s) = pexchange-AggFinal made _
step_exchange up n (L.Order keys s) =
    let q = Q.Sort keys (served n N.Any (chosen n (up s))) in
    of_both NoExchange (meets (parts_of q n) N.One n) q (Q.Merge keys q) (pexchange-Sort keys _) (pexchange-Merge keys q)
step_exchange up n (L.Limit m k s) = limit_forms NoExchange n m k (chosen n (up s)) (λ p. pexchange-Limit m k p)
step_exchange up n (L.Check own c s) = pexchange-Check own c _
step_exchange up n (L.Result vars s) = pexchange-Result vars _

layer_exchange : {S : Type 0} (up : S → Plan) (n : ℕ) (y : L.Plan-F S) → NoExchange (chosen n (roll-Plan (map-Plan S Plan up y)))
layer_exchange {S} up n y = ap is_exchange (chosen-roll n (map-Plan S Plan up y)) ∙ step_exchange up n y

pub no_exchange : (n : ℕ) (p : Plan) → is_exchange (chosen n p) ≡ false
no_exchange n = ind-Plan (λ p. NoExchange (chosen n p)) (λ x y e. subst (λ (z : L.Plan-F Plan). NoExchange (chosen n (roll-Plan z))) e (layer_exchange (λ s. s.0) n y))

-- ---- rows that stand once

-- with more than one partition the rows of a plan do not stand in every part
abbrev pub Once : Phys → Type 0
Once q = is_broadcast (spread_of q).by ≡ false

kept_once : (vars : List Var) (d : Partitioning) → is_broadcast d ≡ false → is_broadcast (kept_parts vars d) ≡ false
kept_once vars D.Unpartitioned h = refl
kept_once vars (D.Hash ws) h = of_both (λ d. is_broadcast d ≡ false) (are_among vars ws) (D.Hash ws) D.Random refl refl
kept_once vars D.Broadcast h = h
kept_once vars D.Random h = refl

group_once : (keys : List (Var × Var)) (d : Partitioning) → is_broadcast (group_parts keys d) ≡ false
group_once keys D.Unpartitioned = refl
group_once keys (D.Hash ws) = of_both (λ d. is_broadcast d ≡ false) (are_among (old_of keys) ws) (D.Hash (map (new_for keys) ws)) D.Random refl refl
group_once keys D.Broadcast = refl
group_once keys D.Random = refl

union_once : (d e : Partitioning) → is_broadcast (union_parts d e) ≡ false
union_once D.Unpartitioned D.Unpartitioned = refl
union_once D.Unpartitioned (D.Hash ws) = refl
union_once D.Unpartitioned D.Broadcast = refl
union_once D.Unpartitioned D.Random = refl
union_once (D.Hash ws) e = refl
union_once D.Broadcast e = refl
union_once D.Random e = refl

any_once : (n : ℕ) (q : Phys) → Once q → Once (served n N.Any q)
any_once n q h = subst Once (sym (served_any n q)) h

join_once : (n : ℕ) (hash : Bool) (l r : Phys) (c : Expr) (keys : List Var) → Once l → is_broadcast (join_parts hash keys (spread_of (served n (join_need hash l r c 0) l)).by) ≡ false
join_once n true l r c keys h = refl
join_once n false l r c keys h = any_once n l h

over_once : (n : ℕ) (outer : Bool) (c : Expr) (l r : Phys) → Once l → Once (join_over n outer c l r)
over_once n outer c l r h =
    let form = join_form outer (equi_keys (phys_live l) (phys_live r) c) in
    let need = join_need (is_hash form) l r c in
    let one = served n (need 0) l in
    let other = served n (need 1) r in
    ap is_broadcast (spread-Join form c one other) ∙ join_once n (is_hash form) l r c (left_keys one other c) h

keyed_once : (n : ℕ) (vars : List Var) (q : Phys) → Once q → Once (served n (N.Keyed vars) q)
keyed_once n vars q h = of_both Once (meets (parts_of q n) (N.Keyed vars) n) q (Q.HashExchange vars q) h (ap is_broadcast (spread-HashExchange vars q))

module _ {S : Type 0} (up : S → Plan) (n : ℕ) (ih : (s : S) → Once (chosen n (up s))) where
  input : (s : S) → Once (served n N.Any (chosen n (up s)))
  input s = any_once n (chosen n (up s)) (ih s)

  step_once : (y : L.Plan-F S) → Once (ChosenLayer n (map-Plan S Plan up y))
  step_once (L.Scan set vars) = ap is_broadcast (spread-Scan set vars)
  step_once L.Empty = ap is_broadcast spread-One
  step_once L.Nested = ap is_broadcast spread-One
  step_once (L.Assign made s) = ap is_broadcast (spread-Assign made _) ∙ input s
  step_once (L.Select c s) = ap is_broadcast (spread-Select c _) ∙ input s
  step_once (L.Project vars s) = ap is_broadcast (spread-Project vars _) ∙ kept_once vars _ (input s)
  step_once (L.Unnest v its s) = ap is_broadcast (spread-Unnest v its _) ∙ input s
  step_once (L.Subplan m s) = ap is_broadcast (spread-Subplan (up m) _) ∙ input s
  step_once (L.Join c l r) = over_once n false c (chosen n (up l)) (chosen n (up r)) (ih l)
  step_once (L.LeftJoin c l r) = over_once n true c (chosen n (up l)) (chosen n (up r)) (ih l)
  step_once (L.Group keys m s) =
      let q = served n (N.Keyed (old_of keys)) (chosen n (up s)) in
      let sort = Q.Sort (ascending keys) q in
      group_cases keys (up m) q Once (ap is_broadcast (spread-PreGroup keys (up m) q) ∙ group_once keys _)
      (ap is_broadcast (spread-HashGroup keys (up m) q) ∙ group_once keys _)
      (ap is_broadcast (spread-PreGroup keys (up m) sort) ∙ group_once keys _)
  step_once (L.Distinct s) = let q = chosen n (up s) in ap is_broadcast (spread-HashDistinct _) ∙ keyed_once n (phys_live q) q (ih s)
  step_once (L.Union made ls rs l r) = ap is_broadcast (spread-Union made ls rs _ _) ∙ union_once _ _
  step_once (L.Aggregate made s) = ap is_broadcast (spread-AggFinal made _)
  step_once (L.Order keys s) =
      let q = Q.Sort keys (served n N.Any (chosen n (up s))) in
      of_both Once (meets (parts_of q n) N.One n) q (Q.Merge keys q) (ap is_broadcast (spread-Sort keys _) ∙ input s) (ap is_broadcast (spread-Merge keys q))
  step_once (L.Limit m k s) = limit_forms Once n m k (chosen n (up s)) (λ p. ap is_broadcast (spread-Limit m k p))
  step_once (L.Check own c s) = ap is_broadcast (spread-Check own c _) ∙ input s
  step_once (L.Result vars s) = ap is_broadcast (spread-Result vars _)

layer_once : {S : Type 0} (up : S → Plan) (n : ℕ) → ((s : S) → Once (chosen n (up s))) → (y : L.Plan-F S) → Once (chosen n (roll-Plan (map-Plan S Plan up y)))
layer_once {S} up n ih y = subst Once (sym (chosen-roll n (map-Plan S Plan up y))) (step_once up n ih y)

pub once : (n : ℕ) (p : Plan) → Once (chosen n p)
once n = ind-Plan (λ p. Once (chosen n p)) (λ x y e. subst (λ (z : L.Plan-F Plan). Once (chosen n (roll-Plan z))) e (layer_once (λ s. s.0) n (λ s. s.1) y))

-- ---- whole plans

-- the parts of an input, where what stands over it has its parts
pub met_same : (n : ℕ) (p q : Phys) (need : Need) (b : Bool) → (spread_of p).by ≡ (spread_of q).by → meets (parts_of p n) need n ≡ b → meets (parts_of q n) need n ≡ b
met_same n p q need b e met = ap (λ (d : Partitioning). meets (if nat_eq n 1 then D.Unpartitioned else d) need n) (sym e) ∙ met

-- a sort that needs no merge, or the merge above it
order_whole : (n : ℕ) (keys : List OrderKey) (q : Phys) → is_exchange q ≡ false → IsWhole n (merge_over n keys (Q.Sort keys q))
order_whole n keys q alone = go (meets (parts_of (Q.Sort keys q) n) N.One n) refl
  where
    go : (b : Bool) → meets (parts_of (Q.Sort keys q) n) N.One n ≡ b → IsWhole n (if b then Q.Sort keys q else Q.Merge keys (Q.Sort keys q))
    go true e = into (whole-Sort n keys q) (alone, met_same n (Q.Sort keys q) q N.One true (spread-Sort keys q) e)
    go false e = into (whole-Merge n keys (Q.Sort keys q)) tt

pub any_alone : (n : ℕ) (p : Plan) → is_exchange (served n N.Any (chosen n p)) ≡ false
any_alone n p = subst NoExchange (sym (served_any n (chosen n p))) (no_exchange n p)

step_whole : {S : Type 0} (up : S → Plan) (n : ℕ) (y : L.Plan-F S) → IsWhole n (ChosenLayer n (map-Plan S Plan up y))
step_whole up n (L.Scan set vars) = into (whole-Scan n set vars) tt
step_whole up n L.Empty = into (whole-One n) tt
step_whole up n L.Nested = into (whole-One n) tt
step_whole up n (L.Assign made s) = into (whole-Assign n made _) tt
step_whole up n (L.Select c s) = into (whole-Select n c _) tt
step_whole up n (L.Project vars s) = into (whole-Project n vars _) tt
step_whole up n (L.Unnest v its s) = into (whole-Unnest n v its _) tt
step_whole up n (L.Subplan m s) = into (whole-Subplan n (up m) _) tt
step_whole up n (L.Join c l r) = into (whole-Join n _ c _ _) tt
step_whole up n (L.LeftJoin c l r) = into (whole-Join n _ c _ _) tt
step_whole up n (L.Group keys m s) =
    let q = served n (N.Keyed (old_of keys)) (chosen n (up s)) in
    group_cases keys (up m) q (IsWhole n) (into (whole-PreGroup n keys (up m) q) tt) (into (whole-HashGroup n keys (up m) q) tt) (into (whole-PreGroup n keys (up m) (Q.Sort (ascending keys) q)) tt)
step_whole up n (L.Distinct s) = into (whole-HashDistinct n _) tt
step_whole up n (L.Union made ls rs l r) = into (whole-Union n made ls rs _ _) tt
step_whole up n (L.Aggregate made s) = into (whole-AggFinal n made _) tt
step_whole up n (L.Order keys s) = order_whole n keys (served n N.Any (chosen n (up s))) (any_alone n (up s))
step_whole up n (L.Limit m k s) = limit_forms (IsWhole n) n m k (chosen n (up s)) (λ p. into (whole-Limit n m k p) tt)
step_whole up n (L.Check own c s) = into (whole-Check n own c _) tt
step_whole up n (L.Result vars s) = into (whole-Result n vars _) tt

layer_whole : {S : Type 0} (up : S → Plan) (n : ℕ) (y : L.Plan-F S) → IsWhole n (chosen n (roll-Plan (map-Plan S Plan up y)))
layer_whole {S} up n y = subst (IsWhole n) (sym (chosen-roll n (map-Plan S Plan up y))) (step_whole up n y)

pub whole : (n : ℕ) (p : Plan) → IsWhole n (chosen n p)
whole n = ind-Plan (λ p. IsWhole n (chosen n p)) (λ x y e. subst (λ (z : L.Plan-F Plan). IsWhole n (chosen n (roll-Plan z))) e (layer_whole (λ s. s.0) n y))
