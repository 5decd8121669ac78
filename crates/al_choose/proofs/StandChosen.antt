-- The chosen plan: the operators below its root, and how its rows are spread.
use Rattle.std.proofs.Common.{◌≡◌, ◌+◌, ℕ, Bool, true, false, List, map, refl, ap, sym, subst, ◌∙◌}
use Rattle.std.specs.Prelude.{nat_eq, if◌then◌else◌, ◌||◌}
use Rattle.std.specs.List.{AllByRecursion}
use Rattle.al_plan.specs.declared.expr.Var.{Var}
use Rattle.al_plan.specs.declared.expr.Expr.{Expr}
use Rattle.al_plan.specs.declared.plan.OrderKey.{OrderKey}
use Rattle.al_plan.specs.declared.plan.Plan.{Plan, map-Plan, roll-Plan, ind-Plan}
use Rattle.al_plan.specs.declared.plan.Plan.TheOpen as L
use Rattle.al_plan.specs.Allows.{ordered, ordered_step}
use Rattle.al_plan.proofs.Bools.{no, by_cases}
use Rattle.al_plan.proofs.PlanLaws.{ordered-roll}
use Rattle.al_plan.proofs.Mono.{Inputs}
use Rattle.al_phys.specs.declared.phys.Phys.{Phys, map-Phys, roll-Phys, ind-Phys}
use Rattle.al_phys.specs.declared.phys.Phys.TheVariants as Q
use Rattle.al_phys.specs.declared.phys.Phys.TheOpen as O
use Rattle.al_phys.specs.declared.phys.JoinForm.{JoinForm}
use Rattle.al_phys.specs.declared.phys.JoinForm.TheVariants as J
use Rattle.al_phys.specs.declared.property.Partitioning.{Partitioning}
use Rattle.al_phys.specs.declared.property.Partitioning.TheVariants as D
use Rattle.al_phys.specs.declared.property.Need.{Need}
use Rattle.al_phys.specs.declared.property.Need.TheVariants as N
use Rattle.al_phys.specs.Gives.{is_hash}
use Rattle.al_phys.specs.Operators.{phys_live, operators}
use Rattle.al_phys.specs.Properties.{meets, fits, is_broadcast, is_unpartitioned, parts_of, order_of, spread_of, join_need, old_of, kept_parts, group_parts, union_parts, left_keys, right_keys, equi_keys, new_for}
use Rattle.al_plan.specs.Accept.{are_among}
use Rattle.al_phys.specs.Placed.{is_row_wise, is_grouped, ascending}
use Rattle.al_phys.proofs.OperatorLaws.{operators-roll, poperators-Assign, poperators-Select, poperators-Project, poperators-Unnest, poperators-Subplan, poperators-Check, poperators-Join, poperators-HashGroup, poperators-PreGroup, poperators-HashDistinct, poperators-AggPart, poperators-AggFinal, poperators-Union, poperators-Sort, poperators-Limit, poperators-LocalLimit, poperators-Result, poperators-HashExchange, poperators-Broadcast, poperators-Gather, poperators-Merge}
use Rattle.al_phys.proofs.PropertyLaws.{spread-Scan, spread-One, spread-Assign, spread-Select, spread-Project, spread-Unnest, spread-Subplan, spread-Check, spread-Join, spread-HashGroup, spread-PreGroup, spread-HashDistinct, spread-AggFinal, spread-Union, spread-Limit, spread-Result, spread-HashExchange, spread-Merge}
use Rattle.al_phys.proofs.LiveLaws.{map_itself, all_left, all_right}
use Rattle.al_phys.proofs.ServedLaws.{kept_once}
use Rattle.al_choose.specs.Chosen.{served, exchange, join_form, join_as, join_over, group_over, merge_over, limit_over, is_rank, chosen}
use Rattle.al_choose.proofs.ChosenLaws.{ChosenLayer, chosen-roll}
use Rattle.al_choose.proofs.ServedOf.{of_both, served_any}

-- ---- inputs

module _ (P : Phys → Type 0) where
  here_layer : {S : Type 0} (up : S → Phys) (y : O.Phys-F S) → AllByRecursion P (operators (roll-Phys (map-Phys S Phys up y))) → P (roll-Phys (map-Phys S Phys up y))
  here_layer {S} up y all =
      let x = map-Phys S Phys up y in
      let h = subst (AllByRecursion P) (operators-roll x) all in
      subst (λ (z : O.Phys-F Phys). P (roll-Phys z)) (map_itself x) h.0

  -- what holds of all operators of a plan holds of its root
  pub at_root : (q : Phys) → AllByRecursion P (operators q) → P q
  at_root = ind-Phys (λ q. AllByRecursion P (operators q) → P q)
      (λ x y e. subst (λ (z : O.Phys-F Phys). AllByRecursion P (operators (roll-Phys z)) → P (roll-Phys z)) e (here_layer (λ s. s.0) y))

  below_exchange : (need : Need) (q : Phys) → AllByRecursion P (operators (exchange need q)) → AllByRecursion P (operators q)
  below_exchange N.Any q h = h
  below_exchange N.One q h = let all = subst (AllByRecursion P) (poperators-Gather q) h in all.1
  below_exchange (N.Keyed vars) q h = let all = subst (AllByRecursion P) (poperators-HashExchange vars q) h in all.1
  below_exchange (N.Exactly vars) q h = let all = subst (AllByRecursion P) (poperators-HashExchange vars q) h in all.1
  below_exchange N.All q h = let all = subst (AllByRecursion P) (poperators-Broadcast q) h in all.1

  -- the claim goes down from the first plan to the second
  abbrev Falls : Phys → Phys → Type 0
  Falls r q = AllByRecursion P (operators r) → AllByRecursion P (operators q)

  below_served : (n : ℕ) (need : Need) (q : Phys) → Falls (served n need q) q
  below_served n need q = of_both (λ r. Falls r q) (meets (parts_of q n) need n) q (exchange need q) (λ h. h) (below_exchange need q)

  below_join : (n : ℕ) (outer : Bool) (c : Expr) (l r : Phys) → AllByRecursion P (operators (join_over n outer c l r)) → AllByRecursion P (operators l) × AllByRecursion P (operators r)
  below_join n outer c l r h =
      let form = join_form outer (equi_keys (phys_live l) (phys_live r) c) in
      let a = served n (join_need (is_hash form) l r c 0) l in
      let b = served n (join_need (is_hash form) l r c 1) r in
      let all = subst (AllByRecursion P) (poperators-Join form c a b) h in (
        below_served n (join_need (is_hash form) l r c 0) l (all_left P (operators a) (operators b) all.1),
        below_served n (join_need (is_hash form) l r c 1) r (all_right P (operators a) (operators b) all.1),
      )

  pub below_group : (keys : List (Var × Var)) (inner : Plan) (q : Phys) → Falls (group_over keys inner q) q
  below_group keys inner q =
      of_both (λ r. Falls r q) (is_grouped keys (order_of q)) (Q.PreGroup keys inner q) _ pre
      (of_both (λ r. Falls r q) (is_row_wise inner) (Q.HashGroup keys inner q) (Q.PreGroup keys inner (Q.Sort (ascending keys) q)) hash sorted)
    where
      pre : Falls (Q.PreGroup keys inner q) q
      pre h = let all = subst (AllByRecursion P) (poperators-PreGroup keys inner q) h in all.1

      hash : Falls (Q.HashGroup keys inner q) q
      hash h = let all = subst (AllByRecursion P) (poperators-HashGroup keys inner q) h in all.1

      sorted : Falls (Q.PreGroup keys inner (Q.Sort (ascending keys) q)) q
      sorted h =
          let all = subst (AllByRecursion P) (poperators-PreGroup keys inner (Q.Sort (ascending keys) q)) h in
          let more = subst (AllByRecursion P) (poperators-Sort (ascending keys) q) all.1 in
          more.1

  below_merge : (n : ℕ) (keys : List OrderKey) (q : Phys) → Falls (merge_over n keys q) q
  below_merge n keys q =
      of_both (λ r. Falls r q) (meets (parts_of q n) N.One n) q (Q.Merge keys q) (λ h. h)
      (λ h. let all = subst (AllByRecursion P) (poperators-Merge keys q) h in all.1)

  below_limit : (n m k : ℕ) (q : Phys) → Falls (limit_over n m k q) q
  below_limit n m k q =
      of_both (λ r. Falls r q) (meets (parts_of q n) N.One n) (Q.Limit m k q) _ (limit q)
      (of_both (λ r. Falls r q) (is_rank (m + k)) (Q.Limit m k (Q.Gather (Q.LocalLimit (m + k) q))) (Q.Limit m k (Q.Gather q))
      (λ h. local (gather (Q.LocalLimit (m + k) q) (limit (Q.Gather (Q.LocalLimit (m + k) q)) h))) (λ h. gather q (limit (Q.Gather q) h)))
    where
      limit : (r : Phys) → Falls (Q.Limit m k r) r
      limit r h = let all = subst (AllByRecursion P) (poperators-Limit m k r) h in all.1

      gather : (r : Phys) → Falls (Q.Gather r) r
      gather r h = let all = subst (AllByRecursion P) (poperators-Gather r) h in all.1

      local : Falls (Q.LocalLimit (m + k) q) q
      local h = let all = subst (AllByRecursion P) (poperators-LocalLimit (m + k) q) h in all.1

  -- what holds of all operators that are chosen holds of those that are chosen for the inputs
  pub below_chosen : {S : Type 0} (up : S → Plan) (n : ℕ) (y : L.Plan-F S) → AllByRecursion P (operators (ChosenLayer n (map-Plan S Plan up y))) → Inputs S (λ s. AllByRecursion P (operators (chosen n (up s)))) y
  below_chosen up n (L.Scan set vars) h = tt
  below_chosen up n L.Empty h = tt
  below_chosen up n L.Nested h = tt
  below_chosen up n (L.Assign made s) h = let q = chosen n (up s) in let all = subst (AllByRecursion P) (poperators-Assign made (served n N.Any q)) h in below_served n N.Any q all.1
  below_chosen up n (L.Select c s) h = let q = chosen n (up s) in let all = subst (AllByRecursion P) (poperators-Select c (served n N.Any q)) h in below_served n N.Any q all.1
  below_chosen up n (L.Project vars s) h = let q = chosen n (up s) in let all = subst (AllByRecursion P) (poperators-Project vars (served n N.Any q)) h in below_served n N.Any q all.1
  below_chosen up n (L.Unnest v its s) h = let q = chosen n (up s) in let all = subst (AllByRecursion P) (poperators-Unnest v its (served n N.Any q)) h in below_served n N.Any q all.1
  below_chosen up n (L.Subplan inner s) h = let q = chosen n (up s) in let all = subst (AllByRecursion P) (poperators-Subplan (up inner) (served n N.Any q)) h in below_served n N.Any q all.1
  below_chosen up n (L.Join c l r) h = below_join n false c (chosen n (up l)) (chosen n (up r)) h
  below_chosen up n (L.LeftJoin c l r) h = below_join n true c (chosen n (up l)) (chosen n (up r)) h
  below_chosen up n (L.Group keys inner s) h = below_served n (N.Keyed (old_of keys)) (chosen n (up s)) (below_group keys (up inner) (served n (N.Keyed (old_of keys)) (chosen n (up s))) h)
  below_chosen up n (L.Distinct s) h =
      let q = chosen n (up s) in
      let need = N.Keyed (phys_live q) in
      let all = subst (AllByRecursion P) (poperators-HashDistinct (served n need q)) h in
      below_served n need q all.1
  below_chosen up n (L.Union made ls rs l r) h =
      let a = served n N.Any (chosen n (up l)) in
      let b = served n N.Any (chosen n (up r)) in
      let all = subst (AllByRecursion P) (poperators-Union made ls rs a b) h in
      (below_served n N.Any (chosen n (up l)) (all_left P (operators a) (operators b) all.1), below_served n N.Any (chosen n (up r)) (all_right P (operators a) (operators b) all.1))
  below_chosen up n (L.Aggregate made s) h =
      let q = chosen n (up s) in
      let part = Q.AggPart made (served n N.Any q) in
      let all = subst (AllByRecursion P) (poperators-AggFinal made (served n N.One part)) h in
      let more = subst (AllByRecursion P) (poperators-AggPart made (served n N.Any q)) (below_served n N.One part all.1) in
      below_served n N.Any q more.1
  below_chosen up n (L.Order keys s) h =
      let q = chosen n (up s) in
      let all = subst (AllByRecursion P) (poperators-Sort keys (served n N.Any q)) (below_merge n keys (Q.Sort keys (served n N.Any q)) h) in
      below_served n N.Any q all.1
  below_chosen up n (L.Limit m k s) h = below_limit n m k (chosen n (up s)) h
  below_chosen up n (L.Check own c s) h = let q = chosen n (up s) in let all = subst (AllByRecursion P) (poperators-Check own c (served n N.Any q)) h in below_served n N.Any q all.1
  below_chosen up n (L.Result vars s) h = let q = chosen n (up s) in let all = subst (AllByRecursion P) (poperators-Result vars (served n N.One q)) h in below_served n N.One q all.1

-- ---- how rows are spread

-- with more than one partition: never as a broadcast, and in one part where the order is a part of the answer
pub record IsSpread (d : Partitioning) (order : Bool) : Type 0 where
  pub once : is_broadcast d ≡ false
  pub one : order ≡ true → d ≡ D.Unpartitioned

spread_same : (d e : Partitioning) (order : Bool) → d ≡ e → IsSpread e order → IsSpread d order
spread_same d e order same h = subst (λ (f : Partitioning). IsSpread f order) (sym same) h

never_ordered : (d : Partitioning) → is_broadcast d ≡ false → IsSpread d false
never_ordered d h = record { once = h; one = λ e. absurd (no (sym e)) }

in_one : (d : Partitioning) (order : Bool) → d ≡ D.Unpartitioned → IsSpread d order
in_one d order e = record { once = ap is_broadcast e; one = λ o. e }

spread_any : (n : ℕ) (q : Phys) → (spread_of (served n N.Any q)).by ≡ (spread_of q).by
spread_any n q = ap (λ (r : Phys). (spread_of r).by) (served_any n q)

group_once : (keys : List (Var × Var)) (d : Partitioning) → is_broadcast (group_parts keys d) ≡ false
group_once keys D.Unpartitioned = refl
group_once keys (D.Hash ws) = hash (are_among (old_of keys) ws)
  where
    hash : (b : Bool) → is_broadcast (if b then D.Hash (map (new_for keys) ws) else D.Random) ≡ false
    hash true = refl
    hash false = refl
group_once keys D.Broadcast = refl
group_once keys D.Random = refl

union_once : (d e : Partitioning) → is_broadcast (union_parts d e) ≡ false
union_once D.Unpartitioned D.Unpartitioned = refl
union_once D.Unpartitioned (D.Hash ws) = refl
union_once D.Unpartitioned D.Broadcast = refl
union_once D.Unpartitioned D.Random = refl
union_once (D.Hash ws) e = refl
union_once D.Broadcast e = refl
union_once D.Random e = refl

-- the rows of a plan do not stand in more than one part each
abbrev IsOnce : Phys → Type 0
IsOnce q = is_broadcast (spread_of q).by ≡ false

keyed_spread : (n : ℕ) (vars : List Var) (q : Phys) → IsOnce q → IsOnce (served n (N.Keyed vars) q)
keyed_spread n vars q h = of_both IsOnce (meets (parts_of q n) (N.Keyed vars) n) q (Q.HashExchange vars q) h (ap is_broadcast (spread-HashExchange vars q))

join_once : (n : ℕ) (form : JoinForm) (c : Expr) (l r : Phys) → IsOnce l → IsOnce (join_as n form c l r)
join_once n J.HashJoin c l r h = ap is_broadcast (spread-Join J.HashJoin c (served n (N.Exactly (left_keys l r c)) l) (served n (N.Exactly (right_keys l r c)) r))
join_once n J.HashLeftJoin c l r h = ap is_broadcast (spread-Join J.HashLeftJoin c (served n (N.Exactly (left_keys l r c)) l) (served n (N.Exactly (right_keys l r c)) r))
join_once n J.LoopJoin c l r h = ap is_broadcast (spread-Join J.LoopJoin c (served n N.Any l) (served n N.All r) ∙ spread_any n l) ∙ h
join_once n J.LoopLeftJoin c l r h = ap is_broadcast (spread-Join J.LoopLeftJoin c (served n N.Any l) (served n N.All r) ∙ spread_any n l) ∙ h

group_spread : (keys : List (Var × Var)) (inner : Plan) (q : Phys) → IsOnce (group_over keys inner q)
group_spread keys inner q =
    of_both IsOnce (is_grouped keys (order_of q)) (Q.PreGroup keys inner q) _ (pre q)
    (of_both IsOnce (is_row_wise inner) (Q.HashGroup keys inner q) (Q.PreGroup keys inner (Q.Sort (ascending keys) q)) (ap is_broadcast (spread-HashGroup keys inner q) ∙ group_once keys (spread_of q).by) (pre (Q.Sort (ascending keys) q)))
  where
    pre : (r : Phys) → IsOnce (Q.PreGroup keys inner r)
    pre r = ap is_broadcast (spread-PreGroup keys inner r) ∙ group_once keys (spread_of r).by

pub unpartitioned : (d : Partitioning) → is_unpartitioned d ≡ true → d ≡ D.Unpartitioned
unpartitioned D.Unpartitioned e = refl
unpartitioned (D.Hash vars) e = absurd (no (sym e))
unpartitioned D.Broadcast e = absurd (no (sym e))
unpartitioned D.Random e = absurd (no (sym e))

-- with more than one partition
pub more_meets : (n : ℕ) (need : Need) (q : Phys) → nat_eq n 1 ≡ false → meets (parts_of q n) need n ≡ fits (spread_of q).by need
more_meets n need q more = ap (λ b. b || fits (if b then D.Unpartitioned else (spread_of q).by) need) more

merge_spread : (n : ℕ) (keys : List OrderKey) (q : Phys) → nat_eq n 1 ≡ false → (spread_of (merge_over n keys q)).by ≡ D.Unpartitioned
merge_spread n keys q more = go (meets (parts_of q n) N.One n) refl
  where
    go : (b : Bool) → meets (parts_of q n) N.One n ≡ b → (spread_of (if b then q else Q.Merge keys q)).by ≡ D.Unpartitioned
    go true e = unpartitioned (spread_of q).by (sym (more_meets n N.One q more) ∙ e)
    go false e = spread-Merge keys q

-- all rows stand in one part
abbrev IsInOne : Phys → Type 0
IsInOne q = (spread_of q).by ≡ D.Unpartitioned

limit_spread : (n m k : ℕ) (q : Phys) → IsInOne (limit_over n m k q)
limit_spread n m k q =
    of_both IsInOne (meets (parts_of q n) N.One n) (Q.Limit m k q) _ (spread-Limit m k q)
    (of_both IsInOne (is_rank (m + k)) (Q.Limit m k (Q.Gather (Q.LocalLimit (m + k) q))) (Q.Limit m k (Q.Gather q)) (spread-Limit m k (Q.Gather (Q.LocalLimit (m + k) q))) (spread-Limit m k (Q.Gather q)))

abbrev Spreads : ℕ → Plan → Type 0
Spreads n p = IsSpread (spread_of (chosen n p)).by (ordered p)

module _ {S : Type 0} (up : S → Plan) (n : ℕ) (more : nat_eq n 1 ≡ false) (ih : (s : S) → Spreads n (up s)) where
  step_spreads : (y : L.Plan-F S) → IsSpread (spread_of (ChosenLayer n (map-Plan S Plan up y))).by (ordered_step (map-Plan Plan Bool ordered (map-Plan S Plan up y)))
  step_spreads (L.Scan set vars) = never_ordered _ (ap is_broadcast (spread-Scan set vars))
  step_spreads L.Empty = in_one _ false spread-One
  step_spreads L.Nested = in_one _ false spread-One
  step_spreads (L.Assign made s) = let q = chosen n (up s) in spread_same _ (spread_of q).by (ordered (up s)) (spread-Assign made (served n N.Any q) ∙ spread_any n q) (ih s)
  step_spreads (L.Select c s) = let q = chosen n (up s) in spread_same _ (spread_of q).by (ordered (up s)) (spread-Select c (served n N.Any q) ∙ spread_any n q) (ih s)
  step_spreads (L.Project vars s) =
      let q = chosen n (up s) in
      spread_same _ (kept_parts vars (spread_of q).by) (ordered (up s)) (spread-Project vars (served n N.Any q) ∙ ap (kept_parts vars) (spread_any n q))
      (record { once = kept_once vars (spread_of q).by (ih s).once; one = λ o. ap (kept_parts vars) ((ih s).one o) })
  step_spreads (L.Unnest v its s) = let q = chosen n (up s) in spread_same _ (spread_of q).by (ordered (up s)) (spread-Unnest v its (served n N.Any q) ∙ spread_any n q) (ih s)
  step_spreads (L.Subplan inner s) = let q = chosen n (up s) in spread_same _ (spread_of q).by (ordered (up s)) (spread-Subplan (up inner) (served n N.Any q) ∙ spread_any n q) (ih s)
  step_spreads (L.Join c l r) = let a = chosen n (up l) in let b = chosen n (up r) in never_ordered _ (join_once n (join_form false (equi_keys (phys_live a) (phys_live b) c)) c a b (ih l).once)
  step_spreads (L.LeftJoin c l r) = let a = chosen n (up l) in let b = chosen n (up r) in never_ordered _ (join_once n (join_form true (equi_keys (phys_live a) (phys_live b) c)) c a b (ih l).once)
  step_spreads (L.Group keys inner s) = never_ordered _ (group_spread keys (up inner) (served n (N.Keyed (old_of keys)) (chosen n (up s))))
  step_spreads (L.Distinct s) =
      let q = chosen n (up s) in
      never_ordered _ (ap is_broadcast (spread-HashDistinct (served n (N.Keyed (phys_live q)) q)) ∙ keyed_spread n (phys_live q) q (ih s).once)
  step_spreads (L.Union made ls rs l r) =
      let a = served n N.Any (chosen n (up l)) in
      let b = served n N.Any (chosen n (up r)) in
      never_ordered _ (ap is_broadcast (spread-Union made ls rs a b) ∙ union_once (spread_of a).by (spread_of b).by)
  step_spreads (L.Aggregate made s) = in_one _ false (spread-AggFinal made (served n N.One (Q.AggPart made (served n N.Any (chosen n (up s))))))
  step_spreads (L.Order keys s) = in_one _ true (merge_spread n keys (Q.Sort keys (served n N.Any (chosen n (up s)))) more)
  step_spreads (L.Limit m k s) = in_one _ (ordered (up s)) (limit_spread n m k (chosen n (up s)))
  step_spreads (L.Check own c s) = let q = chosen n (up s) in spread_same _ (spread_of q).by (ordered (up s)) (spread-Check own c (served n N.Any q) ∙ spread_any n q) (ih s)
  step_spreads (L.Result vars s) = in_one _ (ordered (up s)) (spread-Result vars (served n N.One (chosen n (up s))))

  layer_spreads : (y : L.Plan-F S) → Spreads n (roll-Plan (map-Plan S Plan up y))
  layer_spreads y =
      let x = map-Plan S Plan up y in
      subst (λ (b : Bool). IsSpread (spread_of (chosen n (roll-Plan x))).by b) (sym (ordered-roll x))
      (spread_same _ (spread_of (ChosenLayer n x)).by _ (ap (λ (q : Phys). (spread_of q).by) (chosen-roll n x)) (step_spreads y))

spreads : (n : ℕ) → nat_eq n 1 ≡ false → (p : Plan) → Spreads n p
spreads n more = ind-Plan (Spreads n) (λ x y e. subst (λ (z : L.Plan-F Plan). Spreads n (roll-Plan z)) e (layer_spreads (λ s. s.0) n more (λ s. s.1) y))

-- ---- what the chosen plan delivers

-- where the order is a part of the answer, all rows stand in one part
pub ordered_one : (n : ℕ) (p : Plan) → ordered p ≡ true → parts_of (chosen n p) n ≡ D.Unpartitioned
ordered_one n p o =
    by_cases (nat_eq n 1)
    (λ one. ap (λ b. if b then D.Unpartitioned else (spread_of (chosen n p)).by) one)
    (λ more. ap (λ b. if b then D.Unpartitioned else (spread_of (chosen n p)).by) more ∙ (spreads n more p).one o)

-- an input that has all rows in each part, with no exchange, has one part
pub all_alone : (n : ℕ) (p : Plan) → meets (parts_of (chosen n p) n) N.All n ≡ true → nat_eq n 1 ≡ true
all_alone n p met =
    by_cases (nat_eq n 1) (λ one. one)
    (λ more. absurd (no (sym met ∙ more_meets n N.All (chosen n p) more ∙ (spreads n more p).once)))
