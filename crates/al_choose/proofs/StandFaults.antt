-- A name that faults in what is chosen for an operator faults in the operator, where that is so of its inputs.
use Rattle.std.proofs.Common.{◌≡◌, ◌+◌, ◌⊎◌, ℕ, Bool, true, false, List, [], ◌∷◌, ◌++◌, subst}
use Rattle.std.specs.List.{All, Contains}
use Rattle.std.proofs.lemmas.List.Elements.{All-contains, All-nil, All-cons, All-weaker, Contains-append_left, Contains-append_right}
use Rattle.al_plan.specs.declared.expr.Var.{Var}
use Rattle.al_plan.specs.declared.expr.Expr.{Expr}
use Rattle.al_plan.specs.declared.plan.OrderKey.{OrderKey}
use Rattle.al_plan.specs.declared.plan.Plan.{Plan, map-Plan}
use Rattle.al_plan.specs.declared.plan.Plan.TheOpen as L
use Rattle.al_plan.specs.Eval.{Bytes, Env, holds}
use Rattle.al_plan.specs.Allows.{Sets, Faults}
use Rattle.al_plan.proofs.Bools.{either}
use Rattle.al_plan.proofs.PlanLaws.{FaultLayer}
use Rattle.al_plan.proofs.Mono.{Inputs}
use Rattle.al_phys.specs.declared.phys.Phys.{Phys}
use Rattle.al_phys.specs.declared.phys.Phys.TheVariants as Q
use Rattle.al_phys.specs.declared.property.Need.{Need}
use Rattle.al_phys.specs.declared.property.Need.TheVariants as N
use Rattle.al_phys.specs.Gives.{is_hash}
use Rattle.al_phys.specs.Operators.{phys_live}
use Rattle.al_phys.specs.Parts.{Parts}
use Rattle.al_phys.specs.PAllows.{PAllows, PFaults}
use Rattle.al_phys.specs.Placed.{is_row_wise, is_grouped, ascending}
use Rattle.al_phys.specs.Properties.{meets, parts_of, order_of, equi_keys, join_need, old_of}
use Rattle.al_phys.proofs.PhysLaws.{pfaults-Scan, pfaults-One, pfaults-Assign, pfaults-Select, pfaults-Project, pfaults-Unnest, pfaults-Subplan, pfaults-Check, pfaults-Join, pfaults-HashGroup, pfaults-PreGroup, pfaults-HashDistinct, pfaults-AggPart, pfaults-AggFinal, pfaults-Union, pfaults-Sort, pfaults-Limit, pfaults-LocalLimit, pfaults-Result, pfaults-HashExchange, pfaults-Broadcast, pfaults-Gather, pfaults-Merge}
use Rattle.al_choose.specs.Chosen.{served, exchange, join_form, join_over, group_over, merge_over, limit_over, is_rank, chosen}
use Rattle.al_choose.proofs.ChosenLaws.{ChosenLayer}
use Rattle.al_choose.proofs.StandParts.{all_rows}
use Rattle.al_choose.proofs.ServedOf.{of_both, served_any}
use Rattle.al_choose.proofs.StandServed.{Side}

-- the rows of a part are among these
abbrev AreWithin : List Env → List Env → Type 0
AreWithin all rows = (r : Env) → Contains rows r → Contains all r

parts_within : (parts : Parts) → All (AreWithin (all_rows parts)) parts
parts_within [] = All-nil _
parts_within (rows ∷ parts) =
    All-cons (AreWithin (rows ++ all_rows parts)) rows parts (λ r h. Contains-append_left rows (all_rows parts) r h)
    (All-weaker (AreWithin (all_rows parts)) (AreWithin (rows ++ all_rows parts)) (λ xs f r h. Contains-append_right rows (all_rows parts) r (f r h)) parts (parts_within parts))

-- a row of a part is one of all rows
rows_contain : (parts : Parts) (rows : List Env) (r : Env) → Contains parts rows → Contains rows r → Contains (all_rows parts) r
rows_contain parts rows r part row = All-contains (AreWithin (all_rows parts)) parts rows (parts_within parts) part r row

module _ (n : ℕ) (sets : Sets) (name : Bytes) where
  abbrev Below : Phys → Type 0
  Below q = PFaults q sets n name

  at : (A B : Type 0) → A ≡ B → A → B
  at A B e a = subst (λ (t : Type 0). t) e a

  under_exchange : (need : Need) (q : Phys) → Below (exchange need q) → Below q
  under_exchange N.Any q h = h
  under_exchange N.One q h = at _ _ (pfaults-Gather q sets n name) h
  under_exchange (N.Keyed vars) q h = at _ _ (pfaults-HashExchange vars q sets n name) h
  under_exchange (N.Exactly vars) q h = at _ _ (pfaults-HashExchange vars q sets n name) h
  under_exchange N.All q h = at _ _ (pfaults-Broadcast q sets n name) h

  under_served : (need : Need) (q : Phys) → Below (served n need q) → Below q
  under_served need q = of_both (λ r. Below r → Below q) (meets (parts_of q n) need n) q (exchange need q) (λ h. h) (under_exchange need q)

  under_join : (outer : Bool) (c : Expr) (l r : Phys) → Below (join_over n outer c l r) → Below l ⊎ Below r
  under_join outer c l r h =
      let form = join_form outer (equi_keys (phys_live l) (phys_live r) c) in
      let ln = join_need (is_hash form) l r c 0 in
      let rn = join_need (is_hash form) l r c 1 in
      either (under_served ln l) (under_served rn r) (at _ _ (pfaults-Join form c (served n ln l) (served n rn r) sets n name) h)

  under_group : (keys : List (Var × Var)) (inner : Plan) (q : Phys) → Below (group_over keys inner q) → Below q
  under_group keys inner q =
      of_both (λ r. Below r → Below q) (is_grouped keys (order_of q)) (Q.PreGroup keys inner q) _ (pre q)
      (of_both (λ r. Below r → Below q) (is_row_wise inner) (Q.HashGroup keys inner q) (Q.PreGroup keys inner (Q.Sort (ascending keys) q)) (at _ _ (pfaults-HashGroup keys inner q sets n name))
      (λ h. at _ _ (pfaults-Sort (ascending keys) q sets n name) (pre (Q.Sort (ascending keys) q) h)))
    where
      pre : (r : Phys) → Below (Q.PreGroup keys inner r) → Below r
      pre r = at _ _ (pfaults-PreGroup keys inner r sets n name)

  under_merge : (keys : List OrderKey) (q : Phys) → Below (merge_over n keys q) → Below q
  under_merge keys q = of_both (λ r. Below r → Below q) (meets (parts_of q n) N.One n) q (Q.Merge keys q) (λ h. h) (at _ _ (pfaults-Merge keys q sets n name))

  under_limit : (m k : ℕ) (q : Phys) → Below (limit_over n m k q) → Below q
  under_limit m k q =
      of_both (λ r. Below r → Below q) (meets (parts_of q n) N.One n) (Q.Limit m k q) _ (limit q)
      (of_both (λ r. Below r → Below q) (is_rank (m + k)) (Q.Limit m k (Q.Gather (Q.LocalLimit (m + k) q))) (Q.Limit m k (Q.Gather q))
      (λ h. at _ _ (pfaults-LocalLimit (m + k) q sets n name) (gather (Q.LocalLimit (m + k) q) (limit (Q.Gather (Q.LocalLimit (m + k) q)) h))) (λ h. gather q (limit (Q.Gather q) h)))
    where
      limit : (r : Phys) → Below (Q.Limit m k r) → Below r
      limit r = at _ _ (pfaults-Limit m k r sets n name)

      gather : (r : Phys) → Below (Q.Gather r) → Below r
      gather r = at _ _ (pfaults-Gather r sets n name)

  -- a row that fails a check in a part fails it in all rows
  check_fault : (own : Bytes) (c : Expr) (p : Plan) → Side n true sets p → (Below (chosen n p) → Faults p sets [] [] name) → Below (Q.Check own c (served n N.Any (chosen n p))) → FaultLayer (L.Check own c p) sets [] [] name
  check_fault own c p side f h =
      either
      (λ (o : (name ≡ own) × ((input : Parts) × (rows : List Env) × (r : Env) × PAllows (chosen n p) true sets n input × Contains input rows × Contains rows r × (holds c r ≡ false))).
      let w = o.1 in
      (o.0, (all_rows w.0, w.2, side.stood w.0 w.3, rows_contain w.0 w.1 w.2 w.4 w.5, w.6)))
      f (at _ _ (pfaults-Check own c (chosen n p) sets n name) (subst (λ (q : Phys). Below (Q.Check own c q)) (served_any n (chosen n p)) h))

pub step_faults : {S : Type 0} (up : S → Plan) (n : ℕ) (sets : Sets) (name : Bytes) (y : L.Plan-F S) → Inputs S (λ s. Side n true sets (up s)) y → Inputs S (λ s. PFaults (chosen n (up s)) sets n name → Faults (up s) sets [] [] name) y
    → PFaults (ChosenLayer n (map-Plan S Plan up y)) sets n name → FaultLayer (map-Plan S Plan up y) sets [] [] name
step_faults up n sets name (L.Scan set vars) i j h = at n sets name _ _ (pfaults-Scan set vars sets n name) h
step_faults up n sets name L.Empty i j h = at n sets name _ _ (pfaults-One sets n name) h
step_faults up n sets name L.Nested i j h = at n sets name _ _ (pfaults-One sets n name) h
step_faults up n sets name (L.Assign made s) i j h = j (under_served n sets name N.Any (chosen n (up s)) (at n sets name _ _ (pfaults-Assign made (served n N.Any (chosen n (up s))) sets n name) h))
step_faults up n sets name (L.Select c s) i j h = j (under_served n sets name N.Any (chosen n (up s)) (at n sets name _ _ (pfaults-Select c (served n N.Any (chosen n (up s))) sets n name) h))
step_faults up n sets name (L.Project vars s) i j h = j (under_served n sets name N.Any (chosen n (up s)) (at n sets name _ _ (pfaults-Project vars (served n N.Any (chosen n (up s))) sets n name) h))
step_faults up n sets name (L.Unnest v its s) i j h = j (under_served n sets name N.Any (chosen n (up s)) (at n sets name _ _ (pfaults-Unnest v its (served n N.Any (chosen n (up s))) sets n name) h))
step_faults up n sets name (L.Subplan inner s) i j h = j (under_served n sets name N.Any (chosen n (up s)) (at n sets name _ _ (pfaults-Subplan (up inner) (served n N.Any (chosen n (up s))) sets n name) h))
step_faults up n sets name (L.Join c l r) i j h = either j.0 j.1 (under_join n sets name false c (chosen n (up l)) (chosen n (up r)) h)
step_faults up n sets name (L.LeftJoin c l r) i j h = either j.0 j.1 (under_join n sets name true c (chosen n (up l)) (chosen n (up r)) h)
step_faults up n sets name (L.Group keys inner s) i j h = j (under_served n sets name (N.Keyed (old_of keys)) (chosen n (up s)) (under_group n sets name keys (up inner) (served n (N.Keyed (old_of keys)) (chosen n (up s))) h))
step_faults up n sets name (L.Distinct s) i j h =
    let q = chosen n (up s) in
    let need = N.Keyed (phys_live q) in
    j (under_served n sets name need q (at n sets name _ _ (pfaults-HashDistinct (served n need q) sets n name) h))
step_faults up n sets name (L.Union made ls rs l r) i j h =
    let a = chosen n (up l) in
    let b = chosen n (up r) in
    either (λ (f : PFaults (served n N.Any a) sets n name). j.0 (under_served n sets name N.Any a f)) (λ (f : PFaults (served n N.Any b) sets n name). j.1 (under_served n sets name N.Any b f))
    (at n sets name _ _ (pfaults-Union made ls rs (served n N.Any a) (served n N.Any b) sets n name) h)
step_faults up n sets name (L.Aggregate made s) i j h =
    let q = served n N.Any (chosen n (up s)) in
    let part = Q.AggPart made q in
    let below = under_served n sets name N.One part (at n sets name _ _ (pfaults-AggFinal made (served n N.One part) sets n name) h) in
    j (under_served n sets name N.Any (chosen n (up s)) (at n sets name _ _ (pfaults-AggPart made q sets n name) below))
step_faults up n sets name (L.Order keys s) i j h =
    let q = served n N.Any (chosen n (up s)) in
    j (under_served n sets name N.Any (chosen n (up s)) (at n sets name _ _ (pfaults-Sort keys q sets n name) (under_merge n sets name keys (Q.Sort keys q) h)))
step_faults up n sets name (L.Limit m k s) i j h = j (under_limit n sets name m k (chosen n (up s)) h)
step_faults up n sets name (L.Check own c s) i j h = check_fault n sets name own c (up s) i j h
step_faults up n sets name (L.Result vars s) i j h = j (under_served n sets name N.One (chosen n (up s)) (at n sets name _ _ (pfaults-Result vars (served n N.One (chosen n (up s))) sets n name) h))
