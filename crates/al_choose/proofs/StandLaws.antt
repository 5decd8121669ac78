-- The chosen plan stands for its plan.
use Rattle.std.proofs.Common.{◌≡◌, ◌<◌, ℕ, Bool, true, false, List, [], refl, sym, subst}
use Rattle.std.specs.List.{All, AllByRecursion, Contains}
use Rattle.std.proofs.lemmas.List.Elements.{All-contains_itself, All-weaker, recursion_from_All}
use Rattle.al_plan.specs.declared.expr.Var.{Var}
use Rattle.al_plan.specs.declared.plan.Plan.{Plan, map-Plan, roll-Plan, ind-Plan}
use Rattle.al_plan.specs.declared.plan.Plan.TheOpen as L
use Rattle.al_plan.specs.Eval.{Bytes}
use Rattle.al_plan.specs.Allows.{Sets, Allows, Faults, Faulting, ordered}
use Rattle.al_plan.specs.Refines.{Fit, NoTwice, Scan, scans}
use Rattle.al_plan.proofs.Bools.{no}
use Rattle.al_plan.proofs.PlanLaws.{Layer, faults-roll, each-roll, makes-roll}
use Rattle.al_plan.proofs.Orders.{enroll}
use Rattle.al_plan.proofs.Mono.{Inputs}
use Rattle.al_plan.proofs.Lives.{live_apart}
use Rattle.al_plan.proofs.Refine.{fit_inputs}
use Rattle.al_phys.specs.declared.phys.Phys.{Phys}
use Rattle.al_phys.specs.Operators.{operators}
use Rattle.al_phys.specs.Parts.{Parts, in_first}
use Rattle.al_phys.specs.PAllows.{PAllows, PFaults}
use Rattle.al_phys.specs.Placed.{Placed}
use Rattle.al_phys.specs.Stands.{Stands, AreRowsOf}
use Rattle.al_phys.proofs.CountLaws.{many}
use Rattle.al_phys.proofs.DeliveredLaws.{delivered_holds}
use Rattle.al_choose.specs.Chosen.{chosen}
use Rattle.al_choose.proofs.ChosenLaws.{ChosenLayer, chosen-roll}
use Rattle.al_choose.proofs.LiveOf.{chosen_live, chosen_scans, chosen_result}
use Rattle.al_choose.proofs.StandParts.{all_rows, one_first}
use Rattle.al_choose.proofs.StandChosen.{below_chosen, at_root}
use Rattle.al_choose.proofs.StandServed.{Delivers, Side, ordered_parts, gathered}
use Rattle.al_choose.proofs.StandCases.{stands_scan, stands_empty, stands_assign, stands_select, stands_project, stands_unnest, stands_subplan, stands_check, stands_union, stands_result, stands_aggregate, stands_order, stands_limit}
use Rattle.al_choose.proofs.StandJoins.{stands_join, stands_left_join, stands_group, stands_distinct}
use Rattle.al_choose.proofs.StandFaults.{step_faults}

-- what holds of each input by two claims
both_inputs : {S : Type 0} (P R T : S → Type 0) → ((s : S) → P s → R s → T s) → (y : L.Plan-F S) → Inputs S P y → Inputs S R y → Inputs S T y
both_inputs P R T f (L.Scan set vars) i j = tt
both_inputs P R T f L.Empty i j = tt
both_inputs P R T f L.Nested i j = tt
both_inputs P R T f (L.Assign made s) i j = f s i j
both_inputs P R T f (L.Select c s) i j = f s i j
both_inputs P R T f (L.Project vars s) i j = f s i j
both_inputs P R T f (L.Unnest v its s) i j = f s i j
both_inputs P R T f (L.Subplan inner s) i j = f s i j
both_inputs P R T f (L.Join c l r) i j = (f l i.0 j.0, f r i.1 j.1)
both_inputs P R T f (L.LeftJoin c l r) i j = (f l i.0 j.0, f r i.1 j.1)
both_inputs P R T f (L.Group keys inner s) i j = f s i j
both_inputs P R T f (L.Distinct s) i j = f s i j
both_inputs P R T f (L.Union made ls rs l r) i j = (f l i.0 j.0, f r i.1 j.1)
both_inputs P R T f (L.Aggregate made s) i j = f s i j
both_inputs P R T f (L.Order keys s) i j = f s i j
both_inputs P R T f (L.Limit m k s) i j = f s i j
both_inputs P R T f (L.Check own c s) i j = f s i j
both_inputs P R T f (L.Result vars s) i j = f s i j

abbrev AllDeliver : ℕ → Phys → Type 0
AllDeliver n q = AllByRecursion (Delivers n) (operators q)

-- ---- allowed parts

module _ (n : ℕ) (some : 0 < n) where
  abbrev IsStood : Plan → Type 0
  IsStood p = Fit p → AllDeliver n (chosen n p) → (b : Bool) (sets : Sets) (parts : Parts) → PAllows (chosen n p) b sets n parts → Allows p b sets [] [] (all_rows parts)

  side_of : (p : Plan) → IsStood p → Fit p → AllDeliver n (chosen n p) → (b : Bool) (sets : Sets) → Side n b sets p
  side_of p ih fit all b sets = record { fit = fit; delivers = at_root (Delivers n) (chosen n p) all; live = chosen_live n p false [] fit.each; stood = λ parts h. ih fit all b sets parts h }

  module _ {S : Type 0} (up : S → Plan) (b : Bool) (sets : Sets) (parts : Parts) where
    step : (y : L.Plan-F S) → Inputs S (λ s. Side n b sets (up s)) y → Fit (roll-Plan (map-Plan S Plan up y)) → AllDeliver n (ChosenLayer n (map-Plan S Plan up y)) → PAllows (ChosenLayer n (map-Plan S Plan up y)) b sets n parts
        → Layer (map-Plan S Plan up y) b sets [] [] (all_rows parts)
    step (L.Scan set vars) i fit all h = stands_scan n some b sets parts set vars h
    step L.Empty i fit all h = stands_empty n some b sets parts h
    step L.Nested i fit all h = let inside : false ≡ true = subst (λ (a : Bool → List Var → Type 0). a false []) (each-roll L.Nested) fit.each in absurd (no (sym inside))
    step (L.Assign made s) i fit all h = stands_assign n some b sets parts made (up s) i h
    step (L.Select c s) i fit all h = stands_select n some b sets parts c (up s) i h
    step (L.Project vars s) i fit all h = stands_project n some b sets parts vars (up s) i h
    step (L.Unnest v its s) i fit all h = stands_unnest n some b sets parts v its (up s) i h
    step (L.Subplan inner s) i fit all h = stands_subplan n some b sets parts (up inner) (up s) i h
    step (L.Join c l r) i fit all h = stands_join n some b sets c (up l) (up r) i.0 i.1 (live_apart (up l) (up r) i.0.fit i.1.fit (subst NoTwice (makes-roll (L.Join c (up l) (up r))) fit.once)) parts h
    step (L.LeftJoin c l r) i fit all h = stands_left_join n some b sets c (up l) (up r) i.0 i.1 (live_apart (up l) (up r) i.0.fit i.1.fit (subst NoTwice (makes-roll (L.LeftJoin c (up l) (up r))) fit.once)) parts h
    step (L.Group keys inner s) i fit all h = stands_group n some b sets keys (up inner) (up s) i parts all h
    step (L.Distinct s) i fit all h = stands_distinct n some b sets (up s) i parts h
    step (L.Union made ls rs l r) i fit all h = stands_union n some b sets parts made ls rs (up l) (up r) i.0 i.1 h
    step (L.Aggregate made s) i fit all h = stands_aggregate n some b sets made (up s) i parts h
    step (L.Order keys s) i fit all h = stands_order n some b sets keys (up s) i parts (at_root (Delivers n) _ all) h
    step (L.Limit m k s) i fit all h = stands_limit n some b sets m k (up s) i parts h
    step (L.Check own c s) i fit all h = stands_check n some b sets parts own c (up s) i h
    step (L.Result vars s) i fit all h = stands_result n some b sets parts vars (up s) i h

  sides : {S : Type 0} (up : S → Plan) → ((s : S) → IsStood (up s)) → (y : L.Plan-F S) → Fit (roll-Plan (map-Plan S Plan up y)) → AllDeliver n (ChosenLayer n (map-Plan S Plan up y)) → (b : Bool) (sets : Sets) → Inputs S (λ s. Side n b sets (up s)) y
  sides {S} up ih y fit all b sets =
      both_inputs (λ s. Fit (up s)) (λ s. AllDeliver n (chosen n (up s))) (λ s. Side n b sets (up s)) (λ s f a. side_of (up s) (ih s) f a b sets) y (fit_inputs up y fit) (below_chosen (Delivers n) up n y all)

  layer_stood : {S : Type 0} (up : S → Plan) → ((s : S) → IsStood (up s)) → (y : L.Plan-F S) → IsStood (roll-Plan (map-Plan S Plan up y))
  layer_stood {S} up ih y fit all b sets parts h =
      let x = map-Plan S Plan up y in
      let each = subst (AllDeliver n) (chosen-roll n x) all in
      enroll x b sets [] [] (all_rows parts) (step up b sets parts y (sides up ih y fit each b sets) fit each (subst (λ (q : Phys). PAllows q b sets n parts) (chosen-roll n x) h))

  pub stood : (p : Plan) → IsStood p
  stood = ind-Plan IsStood (λ x y e. subst (λ (z : L.Plan-F Plan). IsStood (roll-Plan z)) e (layer_stood (λ s. s.0) (λ s. s.1) y))

  -- ---- faults

  abbrev IsFaulted : Plan → Type 0
  IsFaulted p = Fit p → AllDeliver n (chosen n p) → (sets : Sets) (name : Bytes) → PFaults (chosen n p) sets n name → Faults p sets [] [] name

  layer_faulted : {S : Type 0} (up : S → Plan) → ((s : S) → IsFaulted (up s)) → (y : L.Plan-F S) → IsFaulted (roll-Plan (map-Plan S Plan up y))
  layer_faulted {S} up ih y fit all sets name h =
      let x = map-Plan S Plan up y in
      let each = subst (AllDeliver n) (chosen-roll n x) all in
      let own = λ (s : S) (side : Side n true sets (up s)) (a : AllDeliver n (chosen n (up s))). ih s side.fit a sets name in
      let i = sides up (λ s. stood (up s)) y fit each true sets in
      let j = both_inputs (λ s. Side n true sets (up s)) (λ s. AllDeliver n (chosen n (up s))) (λ s. PFaults (chosen n (up s)) sets n name → Faults (up s) sets [] [] name) own y i (below_chosen (Delivers n) up n y each) in
      subst (λ (a : Faulting). a sets [] [] name) (sym (faults-roll x)) (step_faults up n sets name y i j (subst (λ (q : Phys). PFaults q sets n name) (chosen-roll n x) h))

  pub faulted : (p : Plan) → IsFaulted p
  faulted = ind-Plan IsFaulted (λ x y e. subst (λ (z : L.Plan-F Plan). IsFaulted (roll-Plan z)) e (layer_faulted (λ s. s.0) (λ s. s.1) y))

  -- ---- the whole plan

  rows_of : (p : Plan) (b : Bool) (sets : Sets) (parts : Parts) → Side n b sets p → PAllows (chosen n p) b sets n parts → AreRowsOf (ordered p) (Allows p b sets [] []) n parts
  rows_of p b sets parts side h = go (ordered p) refl
    where
      go : (t : Bool) → ordered p ≡ t → AreRowsOf t (Allows p b sets [] []) n parts
      go true o = (all_rows parts, subst (λ (m : ℕ). parts ≡ in_first m (all_rows parts)) (many (chosen n p) b sets n parts h) (one_first parts (ordered_parts n some b sets p side o parts h)), side.stood parts h)
      go false o = λ zs i. gathered n some b sets p side parts zs h i

  pub stands_for : (p : Plan) → Fit p → Placed (chosen n p) n → Stands p (chosen n p) n
  stands_for p fit placed = record {
    scanned = subst (λ (ss : List Scan). All (Contains (scans p)) ss) (sym (chosen_scans n p)) (All-contains_itself (scans p));
    root = chosen_result n p;
    allowed = λ b sets parts fills h. rows_of p b sets parts (side_of p (stood p) fit all b sets) h;
    faults = λ sets name fills h. faulted p fit all sets name h;
  }
    where
      all : AllDeliver n (chosen n p)
      all = recursion_from_All (Delivers n) (operators (chosen n p)) (All-weaker (Contains (operators (chosen n p))) (Delivers n) (λ q c. delivered_holds (chosen n p) q n placed c) (operators (chosen n p)) (All-contains_itself (operators (chosen n p))))

-- the chosen plan stands for its plan
pub stands : (n : ℕ) (p : Plan) → 0 < n → Fit p → Placed (chosen n p) n → Stands p (chosen n p) n
stands n p some = stands_for n some p
