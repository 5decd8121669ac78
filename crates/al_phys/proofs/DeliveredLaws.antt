-- What a physical plan delivers holds of all parts that it allows.
use Rattle.std.proofs.Common.{◌≡◌, ℕ, Bool, true, false, List, [], ◌∷◌, ◌++◌, map, take, drop, zip, length, refl, ap, sym, subst, ◌∙◌, nat_eq, arith}
use Rattle.std.specs.Prelude.{if◌then◌else◌}
use Rattle.std.specs.List.{All, AllByRecursion, AllZip, Contains}
use Rattle.std.specs.List.Sorted.{IsPermutation, IsSorted}
use Rattle.std.proofs.lemmas.List.Elements.{All-nil, All-from_recursion}
use Rattle.al_plan.specs.declared.expr.Var.{Var}
use Rattle.al_plan.specs.declared.expr.Expr.{Expr}
use Rattle.al_plan.specs.declared.plan.Plan.{Plan}
use Rattle.al_plan.specs.Eval.{Env, holds}
use Rattle.al_plan.specs.Allows.{Sets, live, cut, renamed, keys_cmp, IsDistinctOf}
use Rattle.al_plan.specs.Refines.{AreLive, NoTwice, makes, is_aggregate}
use Rattle.al_plan.proofs.Bools.{by_cases}
use Rattle.al_plan.proofs.Makes.{Disjoint, apart, twice_right}
use Rattle.al_phys.specs.declared.phys.Phys.{Phys, map-Phys, roll-Phys, ind-Phys}
use Rattle.al_phys.specs.declared.phys.Phys.TheOpen as L
use Rattle.al_phys.specs.declared.property.Partitioning.{Partitioning}
use Rattle.al_phys.specs.declared.property.Partitioning.TheVariants as D
use Rattle.al_phys.specs.declared.property.Local.{Local}
use Rattle.al_phys.specs.declared.property.Local.TheVariants as O
use Rattle.al_phys.specs.declared.property.Need.TheVariants as N
use Rattle.al_phys.specs.Gives.{is_hash, is_outer, joined, IsGrouped, IsPreGrouped}
use Rattle.al_phys.specs.Operators.{phys_live, phys_makes, operators}
use Rattle.al_phys.specs.Parts.{Parts, HasParts, HasLocal, Interleaves}
use Rattle.al_phys.specs.PAllows.{PAllows}
use Rattle.al_phys.specs.Properties.{fits, join_need, left_keys, old_of, join_parts, kept_parts, kept_order, spread_of, spread_by, parts_of, order_of, order_step}
use Rattle.al_phys.specs.Placed.{laid_step, IsServed, Placed}
use Rattle.al_phys.proofs.PhysLaws.{PLayer, punroll}
use Rattle.al_phys.proofs.OperatorLaws.{pmakes-roll}
use Rattle.al_phys.proofs.PropertyLaws.{spread-roll, order-roll, order-Sort}
use Rattle.al_phys.proofs.CountLaws.{many}
use Rattle.al_phys.proofs.MeetsLaws.{is_one}
use Rattle.al_phys.proofs.LiveLaws.{laid_here, laid_below, apart_from, inner_made}
use Rattle.al_phys.proofs.OverLaws.{PartsOver, OrderOver, always_over, kept_over, kept_order_over, left_keys_live}
use Rattle.al_phys.proofs.FlowLaws.{Follows, Comes, comes-within, comes-permutation, follows-filter, follows-cut}
use Rattle.al_phys.proofs.PartLaws.{kept_hash, kept_first, kept_parts_by, flow_parts, flow_order, first_parts, first_sorted, interleaves_none, hashed_parts, broadcast_parts}
use Rattle.al_phys.proofs.GiveLaws.{follows-assigned, follows-projected, follows-expanded, follows-nested, comes-joined, zip_left, comes-grouped, comes-pre_grouped}
use Rattle.al_phys.proofs.GoodLaws.{Good, Inputs, Once, inputs_good, placed_good}
use Rattle.al_phys.proofs.ServedLaws.{served, once_of, any_once, keyed_once, group_keyed, sort_once, first_of, exact_of, kept_has, kept_once, kept_local, group_has, union_has}

-- ---- what is new is not live below

new_apart : (p : Phys) (n : ℕ) (new : List Var) → Good n p → NoTwice (phys_makes p ++ new) → Disjoint (phys_live p) new
new_apart p n new good once = apart_from p n new good.laid (apart (phys_makes p) new once)

inner_apart : (p : Phys) (n : ℕ) (inner : Plan) → Good n p → is_aggregate inner ≡ true → NoTwice (phys_makes p ++ makes inner) → Disjoint (phys_live p) (live inner (phys_live p))
inner_apart p n inner good agg once q e = inner_made inner agg (phys_live p) q (new_apart p n (makes inner) good once q e)

-- the new keys of a group are different
own_once : (p : Phys) (inner : Plan) (keys : List (Var × Var)) → NoTwice (phys_makes p ++ (makes inner ++ map (λ k. k.0) keys)) → NoTwice (map (λ k. k.0) keys)
own_once p inner keys once = twice_right (makes inner) (map (λ k. k.0) keys) (twice_right (phys_makes p) (makes inner ++ map (λ k. k.0) keys) once)

-- ---- partitioning, with more than one partition

join_has : (hash : Bool) (n : ℕ) (l r : Phys) (c : Expr) (left parts : Parts) (R : List Env → List Env → Type 0) → AllZip R left parts
    → ((vs : List Var) → AreLive (phys_live l) vs → (rows out : List Env) → R rows out → Comes vs vs rows out) → fits (spread_of l).by (join_need hash l r c 0) ≡ true → PartsOver (phys_live l) (spread_of l).by → HasParts (spread_of l).by left
    → HasParts (join_parts hash (left_keys l r c) (spread_of l).by) parts
join_has true n l r c left parts R zip comes fit over h =
    let keys = left_keys l r c in
    kept_hash R left parts zip keys keys (comes keys (left_keys_live l r c)) (exact_of keys (spread_of l).by left fit h)
join_has false n l r c left parts R zip comes fit over h = kept_parts_by R left parts zip (phys_live l) comes (spread_of l).by (once_of (spread_of l).by fit) over h

abbrev PartsHold : Phys → Type 0
PartsHold p = (n : ℕ) → nat_eq n 1 ≡ false → Good n p → (b : Bool) (sets : Sets) (parts : Parts) → PAllows p b sets n parts → HasParts (spread_of p).by parts

module _ {S : Type 0} (up : S → Phys) (ih : (s : S) → PartsHold (up s)) (n : ℕ) (more : nat_eq n 1 ≡ false) (b : Bool) (sets : Sets) (parts : Parts) where
  over : (s : S) → Good n (up s) → PartsOver (phys_live (up s)) (spread_of (up s)).by
  over s good = (always_over (up s) n good.laid).parts

  first : (s : S) (input : Parts) → IsServed n N.One (up s) → Good n (up s) → PAllows (up s) b sets n input → HasParts D.Unpartitioned input
  first s input one good allowed = first_of (spread_of (up s)).by input (served n (up s) N.One more one) (ih s n more good b sets input allowed)

  step_parts : (y : L.Phys-F S) → laid_step n (map-Phys S Phys up y) → Once up n y → Inputs S (λ s. Good n (up s)) y → PLayer (map-Phys S Phys up y) b sets n parts → HasParts (spread_by Phys (λ q. q) spread_of (map-Phys S Phys up y)) parts
  unfolding HasParts
  step_parts (L.Scan set vars) here once i o = tt
  step_parts L.One here once i o = first_parts n _ parts o
  step_parts (L.Assign made s) here once i o =
      flow_parts _ o.0 parts o.2 (phys_live (up s)) (follows-assigned (phys_live (up s)) made (new_apart (up s) n (map (λ m. m.0) made) i once)) (spread_of (up s)).by (any_once n (up s) more here.0) (over s i) (ih s n more i b sets o.0 o.1)
  step_parts (L.Select c s) here once i o =
      flow_parts _ o.0 parts o.2 (phys_live (up s)) (λ vs live rows out e. subst (Follows vs rows) (sym e) (follows-filter vs (holds c) rows)) (spread_of (up s)).by (any_once n (up s) more here.0) (over s i) (ih s n more i b sets o.0 o.1)
  step_parts (L.Project vars s) here once i o =
      let d = (spread_of (up s)).by in
      flow_parts _ o.0 parts o.2 vars (follows-projected vars) (kept_parts vars d) (kept_once vars d (any_once n (up s) more here.0)) (kept_over vars d) (kept_has vars d o.0 (ih s n more i b sets o.0 o.1))
  step_parts (L.Unnest v its s) here once i o =
      flow_parts _ o.0 parts o.2 (phys_live (up s)) (follows-expanded (phys_live (up s)) v its (new_apart (up s) n (v ∷ []) i once)) (spread_of (up s)).by (any_once n (up s) more here.0) (over s i) (ih s n more i b sets o.0 o.1)
  step_parts (L.Subplan inner s) here once i o =
      flow_parts _ o.0 parts o.2 (phys_live (up s)) (follows-nested (phys_live (up s)) inner b sets (inner_apart (up s) n inner i here.1.1 once)) (spread_of (up s)).by (any_once n (up s) more here.0) (over s i) (ih s n more i b sets o.0 o.1)
  step_parts (L.Check name c s) here once i o = ih s n more i b sets parts o.0
  step_parts (L.Join form c l r) here once i o =
      let R = λ (rows others out : List Env). IsPermutation (joined (is_outer form) (phys_live (up l)) c rows others) out in
      let zipped = zip_left R o.0 o.2.0 parts (many (up l) b sets n o.0 o.1 ∙ sym (many (up r) b sets n o.2.0 o.2.1)) o.2.2 in
      join_has (is_hash form) n (up l) (up r) c o.0 parts (λ rows out. (others : List Env) × R rows others out) zipped
      (λ vs live rows out h. comes-joined (phys_live (up l)) vs live c (is_outer form) rows out h) (served n (up l) (join_need (is_hash form) (up l) (up r) c 0) more here.0) (over l i.0) (ih l n more i.0 b sets o.0 o.1)
  step_parts (L.HashGroup keys inner s) here once i o =
      group_has (IsGrouped keys inner b sets (phys_live (up s))) o.0 parts o.2 keys (comes-grouped keys (own_once (up s) inner keys once) inner b sets (phys_live (up s))) (spread_of (up s)).by (served n (up s) (N.Keyed (old_of keys)) more here.0) (ih s n more i b sets o.0 o.1)
  step_parts (L.PreGroup keys inner s) here once i o =
      group_has (IsPreGrouped keys inner b sets (phys_live (up s))) o.0 parts o.2 keys (comes-pre_grouped keys (own_once (up s) inner keys once) inner b sets (phys_live (up s))) (spread_of (up s)).by (group_keyed n keys (up s) more here.0) (ih s n more i b sets o.0 o.1)
  step_parts (L.HashDistinct s) here once i o =
      kept_parts_by IsDistinctOf o.0 parts o.2 (phys_live (up s)) (λ vs live rows out h. comes-within vs rows out h.within) (spread_of (up s)).by (keyed_once (phys_live (up s)) (spread_of (up s)).by (served n (up s) (N.Keyed (phys_live (up s))) more here)) (over s i) (ih s n more i b sets o.0 o.1)
  step_parts (L.AggPart made s) here once i o = tt
  step_parts (L.AggFinal made s) here once i o = first_parts n _ parts o.2
  step_parts (L.Union made ls rs l r) here once i o =
      union_has (λ (both : List Env × List Env) out. Interleaves (map (renamed made ls) both.0 ∷ map (renamed made rs) both.1 ∷ []) out) (λ out h. interleaves_none ([] ∷ [] ∷ []) out h (refl, (refl, tt)))
      (spread_of (up l)).by (spread_of (up r)).by o.0 o.2.0 parts (ih l n more i.0 b sets o.0 o.1) (ih r n more i.1 b sets o.2.0 o.2.1) o.2.2
  step_parts (L.Sort keys s) here once i o =
      kept_parts_by (λ rows out. IsPermutation rows out × IsSorted (keys_cmp keys) out) o.0 parts o.2 (phys_live (up s)) (λ vs live rows out h. comes-permutation vs rows out h.0) (spread_of (up s)).by (sort_once n (up s) more here.0) (over s i) (ih s n more i b sets o.0 o.1)
  step_parts (L.Limit m k s) here once i o = kept_first (λ rows out. out ≡ take m (drop k rows)) o.0 parts o.2 (λ out e. e ∙ follows-cut [] m k []) (first s o.0 here i o.1)
  step_parts (L.LocalLimit m s) here once i o =
      flow_parts (λ rows out. out ≡ take m rows) o.0 parts o.2 (phys_live (up s)) (λ vs live rows out e. subst (Follows vs rows) (sym e) (follows-cut vs m 0 rows)) (spread_of (up s)).by (any_once n (up s) more here) (over s i) (ih s n more i b sets o.0 o.1)
  step_parts (L.Result vars s) here once i o = kept_first (λ rows out. out ≡ map (cut vars) rows) o.0 parts o.2 (λ out e. e) (first s o.0 here.0 i o.1)
  step_parts (L.HashExchange vars s) here once i o = hashed_parts n vars o.0 parts o.2
  step_parts (L.Broadcast s) here once i o = broadcast_parts n o.0 parts o.2
  step_parts (L.Gather s) here once i o = first_parts n o.2.0 parts o.2.2
  step_parts (L.Merge keys s) here once i o = first_parts n o.2.0 parts o.2.3

layer_parts : {S : Type 0} (up : S → Phys) → ((s : S) → PartsHold (up s)) → (y : L.Phys-F S) → PartsHold (roll-Phys (map-Phys S Phys up y))
layer_parts {S} up ih y n more good b sets parts h =
    let x = map-Phys S Phys up y in
    let once = subst NoTwice (pmakes-roll x) good.once in
    subst (λ (d : Partitioning). HasParts d parts) (sym (spread-roll x)) (step_parts up ih n more b sets parts y (laid_here n x good.laid) once (inputs_good up n y (laid_below n x good.laid) once) (punroll x b sets n parts h))

parts_hold : (p : Phys) → PartsHold p
parts_hold = ind-Phys PartsHold (λ x y e. subst (λ (z : L.Phys-F Phys). PartsHold (roll-Phys z)) e (layer_parts (λ s. s.0) (λ s. s.1) y))

-- ---- order

abbrev LocalHolds : Phys → Type 0
LocalHolds p = (n : ℕ) → Good n p → (b : Bool) (sets : Sets) (parts : Parts) → PAllows p b sets n parts → HasLocal (order_of p) parts

each_second : {A B : Type 0} (R : A → B → Type 0) (Q : B → Type 0) → ((x : A) (y : B) → R x y → Q y) → (xs : List A) (ys : List B) → AllZip R xs ys → AllByRecursion Q ys
each_second R Q f [] [] z = tt
each_second R Q f [] (y ∷ ys) z = absurd z
each_second R Q f (x ∷ xs) [] z = absurd z
each_second R Q f (x ∷ xs) (y ∷ ys) z = (f x y z.0, each_second R Q f xs ys z.1)

module _ {S : Type 0} (up : S → Phys) (ih : (s : S) → LocalHolds (up s)) (n : ℕ) (b : Bool) (sets : Sets) (parts : Parts) where
  over_order : (s : S) → Good n (up s) → OrderOver (phys_live (up s)) (order_of (up s))
  over_order s good = (always_over (up s) n good.laid).order

  step_local : (y : L.Phys-F S) → laid_step n (map-Phys S Phys up y) → Once up n y → Inputs S (λ s. Good n (up s)) y → PLayer (map-Phys S Phys up y) b sets n parts → HasLocal (order_step (map-Phys Phys Local order_of (map-Phys S Phys up y))) parts
  unfolding HasLocal
  step_local (L.Scan set vars) here once i o = tt
  step_local L.One here once i o = tt
  step_local (L.Assign made s) here once i o =
      flow_order _ o.0 parts o.2 (phys_live (up s)) (follows-assigned (phys_live (up s)) made (new_apart (up s) n (map (λ m. m.0) made) i once)) (order_of (up s)) (over_order s i) (ih s n i b sets o.0 o.1)
  step_local (L.Select c s) here once i o =
      flow_order _ o.0 parts o.2 (phys_live (up s)) (λ vs live rows out e. subst (Follows vs rows) (sym e) (follows-filter vs (holds c) rows)) (order_of (up s)) (over_order s i) (ih s n i b sets o.0 o.1)
  step_local (L.Project vars s) here once i o =
      flow_order _ o.0 parts o.2 vars (follows-projected vars) (kept_order vars (order_of (up s))) (kept_order_over vars (order_of (up s))) (kept_local vars (order_of (up s)) o.0 (ih s n i b sets o.0 o.1))
  step_local (L.Unnest v its s) here once i o =
      flow_order _ o.0 parts o.2 (phys_live (up s)) (follows-expanded (phys_live (up s)) v its (new_apart (up s) n (v ∷ []) i once)) (order_of (up s)) (over_order s i) (ih s n i b sets o.0 o.1)
  step_local (L.Subplan inner s) here once i o =
      flow_order _ o.0 parts o.2 (phys_live (up s)) (follows-nested (phys_live (up s)) inner b sets (inner_apart (up s) n inner i here.1.1 once)) (order_of (up s)) (over_order s i) (ih s n i b sets o.0 o.1)
  step_local (L.Check name c s) here once i o = ih s n i b sets parts o.0
  step_local (L.Join form c l r) here once i o = tt
  step_local (L.HashGroup keys inner s) here once i o = tt
  step_local (L.PreGroup keys inner s) here once i o = tt
  step_local (L.HashDistinct s) here once i o = tt
  step_local (L.AggPart made s) here once i o = tt
  step_local (L.AggFinal made s) here once i o = tt
  step_local (L.Union made ls rs l r) here once i o = tt
  step_local (L.Sort keys s) here once i o =
      All-from_recursion (IsSorted (keys_cmp keys)) parts (each_second (λ rows out. IsPermutation rows out × IsSorted (keys_cmp keys) out) (IsSorted (keys_cmp keys)) (λ rows out h. h.1) o.0 parts o.2)
  step_local (L.Limit m k s) here once i o =
      flow_order (λ rows out. out ≡ take m (drop k rows)) o.0 parts o.2 (phys_live (up s)) (λ vs live rows out e. subst (Follows vs rows) (sym e) (follows-cut vs m k rows)) (order_of (up s)) (over_order s i) (ih s n i b sets o.0 o.1)
  step_local (L.LocalLimit m s) here once i o = tt
  step_local (L.Result vars s) here once i o =
      flow_order _ o.0 parts o.2 vars (follows-projected vars) (kept_order vars (order_of (up s))) (kept_order_over vars (order_of (up s))) (kept_local vars (order_of (up s)) o.0 (ih s n i b sets o.0 o.1))
  step_local (L.HashExchange vars s) here once i o = tt
  step_local (L.Broadcast s) here once i o = tt
  step_local (L.Gather s) here once i o = tt
  step_local (L.Merge keys s) here once i o =
      let is : order_of (up s) ≡ O.Order keys = ap order_of here.1 ∙ order-Sort keys here.0 in
      let each = subst (λ (l : Local). HasLocal l o.0) is (ih s n i b sets o.0 o.1) in
      subst (All (IsSorted (keys_cmp keys))) (sym o.2.3) (first_sorted keys n o.2.0 (o.2.2 each))

layer_local : {S : Type 0} (up : S → Phys) → ((s : S) → LocalHolds (up s)) → (y : L.Phys-F S) → LocalHolds (roll-Phys (map-Phys S Phys up y))
layer_local {S} up ih y n good b sets parts h =
    let x = map-Phys S Phys up y in
    let once = subst NoTwice (pmakes-roll x) good.once in
    subst (λ (l : Local). HasLocal l parts) (sym (order-roll x)) (step_local up ih n b sets parts y (laid_here n x good.laid) once (inputs_good up n y (laid_below n x good.laid) once) (punroll x b sets n parts h))

local_holds : (p : Phys) → LocalHolds p
local_holds = ind-Phys LocalHolds (λ x y e. subst (λ (z : L.Phys-F Phys). LocalHolds (roll-Phys z)) e (layer_local (λ s. s.0) (λ s. s.1) y))

-- ---- a placed plan and its parts

one_part : (parts : Parts) → length parts ≡ 1 → HasParts D.Unpartitioned parts
unfolding HasParts
one_part [] e = All-nil _
one_part (rows ∷ []) e = All-nil _
one_part (rows ∷ others ∷ parts) e = absurd (omega (arith, e))

pub delivered_holds : (whole p : Phys) (n : ℕ) → Placed whole n → Contains (operators whole) p → (b : Bool) (sets : Sets) (parts : Parts) → PAllows p b sets n parts
    → HasParts (parts_of p n) parts × HasLocal (order_of p) parts
delivered_holds whole p n placed part b sets parts h =
    let good = placed_good whole p n placed part in (
      by_cases (nat_eq n 1)
          (λ one. subst (λ (c : Bool). HasParts (if c then D.Unpartitioned else (spread_of p).by) parts) (sym one) (one_part parts (many p b sets n parts h ∙ is_one n one)))
          (λ more. subst (λ (c : Bool). HasParts (if c then D.Unpartitioned else (spread_of p).by) parts) (sym more) (parts_hold p n more good b sets parts h)),
      local_holds p n good b sets parts h,
    )
