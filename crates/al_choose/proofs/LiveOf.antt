-- What is live, made and scanned in the plan that is chosen is what is so in the logical plan.
use Rattle.std.proofs.Common.{◌≡◌, ℕ, Bool, true, false, List, [], ◌∷◌, ◌++◌, map, refl, ap, sym, subst, ◌∙◌, Option, Some, None}
use Rattle.std.specs.Prelude.{◌+◌, if◌then◌else◌}
use Rattle.al_plan.specs.declared.expr.Var.{Var}
use Rattle.al_plan.specs.declared.expr.Expr.{Expr}
use Rattle.al_plan.specs.declared.plan.OrderKey.{OrderKey}
use Rattle.al_plan.specs.declared.plan.Plan.{Plan, map-Plan, roll-Plan, ind-Plan}
use Rattle.al_plan.specs.declared.plan.Plan.TheOpen as L
use Rattle.al_plan.specs.Allows.{live, live_step}
use Rattle.al_plan.specs.Refines.{Scan, scans, scans_step, makes, makes_step, result_of, result_step, FitsEach}
use Rattle.al_plan.proofs.PlanLaws.{EachLayer, each-roll, scans-roll, makes-roll, result-roll}
use Rattle.al_plan.proofs.Mono.{live_is}
use Rattle.al_phys.specs.declared.property.Need.{Need}
use Rattle.al_phys.specs.declared.property.Need.TheVariants as N
use Rattle.al_phys.specs.declared.phys.Phys.{Phys}
use Rattle.al_phys.specs.declared.phys.Phys.TheVariants as Q
use Rattle.al_phys.specs.Operators.{phys_live, phys_makes, phys_scans, phys_result}
use Rattle.al_phys.specs.Properties.{equi_keys, join_need, old_of, order_of, meets, parts_of}
use Rattle.al_phys.specs.Placed.{is_row_wise, is_grouped, ascending}
use Rattle.al_phys.specs.Gives.{is_hash}
use Rattle.al_phys.proofs.LiveLaws.{inner_live}
use Rattle.al_phys.proofs.OperatorLaws.{plive-Scan, plive-One, plive-Assign, plive-Select, plive-Project, plive-Unnest, plive-Subplan, plive-Check, plive-Join, plive-HashGroup, plive-PreGroup, plive-HashDistinct, plive-AggFinal, plive-Union, plive-Sort, plive-Limit, plive-LocalLimit, plive-Result, plive-HashExchange, plive-Broadcast, plive-Gather, plive-Merge}
use Rattle.al_phys.proofs.OperatorLaws.{pmakes-Scan, pmakes-One, pmakes-Assign, pmakes-Select, pmakes-Project, pmakes-Unnest, pmakes-Subplan, pmakes-Check, pmakes-Join, pmakes-HashGroup, pmakes-PreGroup, pmakes-HashDistinct, pmakes-AggPart, pmakes-AggFinal, pmakes-Union, pmakes-Sort, pmakes-Limit, pmakes-LocalLimit, pmakes-Result, pmakes-HashExchange, pmakes-Broadcast, pmakes-Gather, pmakes-Merge}
use Rattle.al_phys.proofs.OperatorLaws.{pscans-Scan, pscans-One, pscans-Assign, pscans-Select, pscans-Project, pscans-Unnest, pscans-Subplan, pscans-Check, pscans-Join, pscans-HashGroup, pscans-PreGroup, pscans-HashDistinct, pscans-AggPart, pscans-AggFinal, pscans-Union, pscans-Sort, pscans-Limit, pscans-LocalLimit, pscans-Result, pscans-HashExchange, pscans-Broadcast, pscans-Gather, pscans-Merge}
use Rattle.al_phys.proofs.OperatorLaws.{presult-Scan, presult-One, presult-Assign, presult-Select, presult-Project, presult-Unnest, presult-Subplan, presult-Check, presult-Join, presult-HashGroup, presult-PreGroup, presult-HashDistinct, presult-AggFinal, presult-Union, presult-Sort, presult-Limit, presult-Result, presult-Merge}
use Rattle.al_choose.specs.Chosen.{chosen, served, join_form, join_over, group_over, merge_over, limit_over, is_rank}
use Rattle.al_choose.proofs.ChosenLaws.{ChosenLayer, chosen-roll}
use Rattle.al_choose.proofs.ServedOf.{Passes, of_both, served_passes, merge_passes, limit_passes}

-- ---- one operator

live_passes : Passes phys_live
live_passes = record { hash = plive-HashExchange; gather = plive-Gather; broadcast = plive-Broadcast; merge = plive-Merge; local = plive-LocalLimit; limit = plive-Limit }

makes_passes : Passes phys_makes
makes_passes = record { hash = pmakes-HashExchange; gather = pmakes-Gather; broadcast = pmakes-Broadcast; merge = pmakes-Merge; local = pmakes-LocalLimit; limit = pmakes-Limit }

scans_passes : Passes phys_scans
scans_passes = record { hash = pscans-HashExchange; gather = pscans-Gather; broadcast = pscans-Broadcast; merge = pscans-Merge; local = pscans-LocalLimit; limit = pscans-Limit }

pub served_live : (n : ℕ) (need : Need) (q : Phys) → phys_live (served n need q) ≡ phys_live q
served_live = served_passes phys_live live_passes

pub served_makes : (n : ℕ) (need : Need) (q : Phys) → phys_makes (served n need q) ≡ phys_makes q
served_makes = served_passes phys_makes makes_passes

pub served_scans : (n : ℕ) (need : Need) (q : Phys) → phys_scans (served n need q) ≡ phys_scans q
served_scans = served_passes phys_scans scans_passes

both : {A : Type 0} (xs ys us vs : List A) → xs ≡ us → ys ≡ vs → xs ++ ys ≡ us ++ vs
both xs ys us vs e f i = e i ++ f i

pub join_live : (n : ℕ) (outer : Bool) (c : Expr) (l r : Phys) → phys_live (join_over n outer c l r) ≡ phys_live l ++ phys_live r
join_live n outer c l r =
    let form = join_form outer (equi_keys (phys_live l) (phys_live r) c) in
    let need = join_need (is_hash form) l r c in
    plive-Join form c (served n (need 0) l) (served n (need 1) r) ∙ both _ _ _ _ (served_live n (need 0) l) (served_live n (need 1) r)

join_makes : (n : ℕ) (outer : Bool) (c : Expr) (l r : Phys) → phys_makes (join_over n outer c l r) ≡ phys_makes l ++ phys_makes r
join_makes n outer c l r =
    let form = join_form outer (equi_keys (phys_live l) (phys_live r) c) in
    let need = join_need (is_hash form) l r c in
    pmakes-Join form c (served n (need 0) l) (served n (need 1) r) ∙ both _ _ _ _ (served_makes n (need 0) l) (served_makes n (need 1) r)

join_scans : (n : ℕ) (outer : Bool) (c : Expr) (l r : Phys) → phys_scans (join_over n outer c l r) ≡ phys_scans l ++ phys_scans r
join_scans n outer c l r =
    let form = join_form outer (equi_keys (phys_live l) (phys_live r) c) in
    let need = join_need (is_hash form) l r c in
    pscans-Join form c (served n (need 0) l) (served n (need 1) r) ∙ both _ _ _ _ (served_scans n (need 0) l) (served_scans n (need 1) r)

module _ (keys : List (Var × Var)) (inner : Plan) (q : Phys) where
  -- what is so of each form of a group over this input
  pub group_cases : (P : Phys → Type 0) → P (Q.PreGroup keys inner q) → P (Q.HashGroup keys inner q) → P (Q.PreGroup keys inner (Q.Sort (ascending keys) q)) → P (group_over keys inner q)
  group_cases P grouped hashed sorted =
      of_both P (is_grouped keys (order_of q)) (Q.PreGroup keys inner q) (if is_row_wise inner then Q.HashGroup keys inner q else Q.PreGroup keys inner (Q.Sort (ascending keys) q)) grouped
      (of_both P (is_row_wise inner) (Q.HashGroup keys inner q) (Q.PreGroup keys inner (Q.Sort (ascending keys) q)) hashed sorted)

  pub group_live : phys_live (group_over keys inner q) ≡ map (λ k. k.0) keys ++ live inner []
  group_live = group_cases (λ r. phys_live r ≡ map (λ k. k.0) keys ++ live inner []) (plive-PreGroup keys inner q) (plive-HashGroup keys inner q) (plive-PreGroup keys inner (Q.Sort (ascending keys) q))

  group_makes : phys_makes (group_over keys inner q) ≡ phys_makes q ++ (makes inner ++ map (λ k. k.0) keys)
  group_makes =
      let own = makes inner ++ map (λ k. k.0) keys in
      group_cases (λ r. phys_makes r ≡ phys_makes q ++ own) (pmakes-PreGroup keys inner q) (pmakes-HashGroup keys inner q)
      (pmakes-PreGroup keys inner (Q.Sort (ascending keys) q) ∙ ap (λ vs. vs ++ own) (pmakes-Sort (ascending keys) q))

  group_scans : phys_scans (group_over keys inner q) ≡ phys_scans q ++ scans inner
  group_scans =
      group_cases (λ r. phys_scans r ≡ phys_scans q ++ scans inner) (pscans-PreGroup keys inner q) (pscans-HashGroup keys inner q)
      (pscans-PreGroup keys inner (Q.Sort (ascending keys) q) ∙ ap (λ ss. ss ++ scans inner) (pscans-Sort (ascending keys) q))

-- ---- all operators

abbrev LiveIs : ℕ → Plan → Type 0
LiveIs n p = (inside : Bool) (given : List Var) → FitsEach p inside given → phys_live (chosen n p) ≡ live p []

module _ {S : Type 0} (up : S → Plan) (n : ℕ) (ih : (s : S) → LiveIs n (up s)) (inside : Bool) (given : List Var) where
  -- an input with what serves a need
  input : (need : Need) (s : S) → FitsEach (up s) inside given → phys_live (served n need (chosen n (up s))) ≡ live (up s) []
  input need s fit = served_live n need (chosen n (up s)) ∙ ih s inside given fit

  step_live : (y : L.Plan-F S) → EachLayer (map-Plan S Plan up y) inside given → phys_live (ChosenLayer n (map-Plan S Plan up y)) ≡ live_step (map-Plan Plan (List Var → List Var) live (map-Plan S Plan up y)) []
  step_live (L.Scan set vars) fit = plive-Scan set vars
  step_live L.Empty fit = plive-One
  step_live L.Nested fit = plive-One
  step_live (L.Assign made s) fit = plive-Assign made _ ∙ ap (λ vs. vs ++ map (λ m. m.0) made) (input N.Any s fit.0.0)
  step_live (L.Select c s) fit = plive-Select c _ ∙ input N.Any s fit.0.0
  step_live (L.Project vars s) fit = plive-Project vars _
  step_live (L.Unnest v its s) fit = plive-Unnest v its _ ∙ ap (λ vs. vs ++ v ∷ []) (input N.Any s fit.0.0)
  step_live (L.Subplan m s) fit = plive-Subplan (up m) _ ∙ both _ _ _ _ (input N.Any s fit.0.0) (sym (inner_live (up m) fit.3 (live (up s) [])))
  step_live (L.Join c l r) fit = join_live n false c (chosen n (up l)) (chosen n (up r)) ∙ both _ _ _ _ (ih l inside given fit.0.0) (ih r inside given fit.1.0)
  step_live (L.LeftJoin c l r) fit = join_live n true c (chosen n (up l)) (chosen n (up r)) ∙ both _ _ _ _ (ih l inside given fit.0.0) (ih r inside given fit.1.0)
  step_live (L.Group keys m s) fit = group_live keys (up m) (served n (N.Keyed (old_of keys)) (chosen n (up s))) ∙ ap (λ vs. map (λ k. k.0) keys ++ vs) (sym (inner_live (up m) fit.4 (live (up s) [])))
  step_live (L.Distinct s) fit = plive-HashDistinct _ ∙ input (N.Keyed (phys_live (chosen n (up s)))) s fit.0
  step_live (L.Union made ls rs l r) fit = plive-Union made ls rs _ _
  step_live (L.Aggregate made s) fit = plive-AggFinal made _
  step_live (L.Order keys s) fit = merge_passes phys_live live_passes n keys _ ∙ plive-Sort keys _ ∙ input N.Any s fit.0.0
  step_live (L.Limit m k s) fit = limit_passes phys_live live_passes n m k _ ∙ ih s inside given fit.0
  step_live (L.Check own c s) fit = plive-Check own c _ ∙ input N.Any s fit.0.0
  step_live (L.Result vars s) fit = plive-Result vars _

layer_live : {S : Type 0} (up : S → Plan) (n : ℕ) → ((s : S) → LiveIs n (up s)) → (y : L.Plan-F S) → LiveIs n (roll-Plan (map-Plan S Plan up y))
layer_live {S} up n ih y inside given fit =
    let x = map-Plan S Plan up y in
    ap phys_live (chosen-roll n x) ∙ step_live up n ih inside given y (subst (λ (a : Bool → List Var → Type 0). a inside given) (each-roll x) fit) ∙ sym (live_is x [])

-- the same variables are live, in the same order
pub chosen_live : (n : ℕ) (p : Plan) (inside : Bool) (given : List Var) → FitsEach p inside given → phys_live (chosen n p) ≡ live p []
chosen_live n = ind-Plan (LiveIs n) (λ x y e. subst (λ (z : L.Plan-F Plan). LiveIs n (roll-Plan z)) e (layer_live (λ s. s.0) n (λ s. s.1) y))

abbrev MakesIs : ℕ → Plan → Type 0
MakesIs n p = phys_makes (chosen n p) ≡ makes p

module _ {S : Type 0} (up : S → Plan) (n : ℕ) (ih : (s : S) → MakesIs n (up s)) where
  makes_input : (need : Need) (s : S) → phys_makes (served n need (chosen n (up s))) ≡ makes (up s)
  makes_input need s = served_makes n need (chosen n (up s)) ∙ ih s

  step_makes : (y : L.Plan-F S) → phys_makes (ChosenLayer n (map-Plan S Plan up y)) ≡ makes_step (map-Plan Plan (List Var) makes (map-Plan S Plan up y))
  step_makes (L.Scan set vars) = pmakes-Scan set vars
  step_makes L.Empty = pmakes-One
  step_makes L.Nested = pmakes-One
  step_makes (L.Assign made s) = pmakes-Assign made _ ∙ ap (λ vs. vs ++ map (λ m. m.0) made) (makes_input N.Any s)
  step_makes (L.Select c s) = pmakes-Select c _ ∙ makes_input N.Any s
  step_makes (L.Project vars s) = pmakes-Project vars _ ∙ makes_input N.Any s
  step_makes (L.Unnest v its s) = pmakes-Unnest v its _ ∙ ap (λ vs. vs ++ v ∷ []) (makes_input N.Any s)
  step_makes (L.Subplan m s) = pmakes-Subplan (up m) _ ∙ ap (λ vs. vs ++ makes (up m)) (makes_input N.Any s)
  step_makes (L.Join c l r) = join_makes n false c (chosen n (up l)) (chosen n (up r)) ∙ both _ _ _ _ (ih l) (ih r)
  step_makes (L.LeftJoin c l r) = join_makes n true c (chosen n (up l)) (chosen n (up r)) ∙ both _ _ _ _ (ih l) (ih r)
  step_makes (L.Group keys m s) = group_makes keys (up m) (served n (N.Keyed (old_of keys)) (chosen n (up s))) ∙ ap (λ vs. vs ++ (makes (up m) ++ map (λ k. k.0) keys)) (makes_input (N.Keyed (old_of keys)) s)
  step_makes (L.Distinct s) = pmakes-HashDistinct _ ∙ makes_input (N.Keyed (phys_live (chosen n (up s)))) s
  step_makes (L.Union made ls rs l r) = pmakes-Union made ls rs _ _ ∙ both _ _ _ _ (makes_input N.Any l) (ap (λ vs. vs ++ made) (makes_input N.Any r))
  step_makes (L.Aggregate made s) = pmakes-AggFinal made _ ∙ ap (λ vs. vs ++ map (λ m. m.0) made) (served_makes n N.One _ ∙ pmakes-AggPart made _ ∙ makes_input N.Any s)
  step_makes (L.Order keys s) = merge_passes phys_makes makes_passes n keys _ ∙ pmakes-Sort keys _ ∙ makes_input N.Any s
  step_makes (L.Limit m k s) = limit_passes phys_makes makes_passes n m k _ ∙ ih s
  step_makes (L.Check own c s) = pmakes-Check own c _ ∙ makes_input N.Any s
  step_makes (L.Result vars s) = pmakes-Result vars _ ∙ makes_input N.One s

layer_makes : {S : Type 0} (up : S → Plan) (n : ℕ) → ((s : S) → MakesIs n (up s)) → (y : L.Plan-F S) → MakesIs n (roll-Plan (map-Plan S Plan up y))
layer_makes {S} up n ih y = let x = map-Plan S Plan up y in ap phys_makes (chosen-roll n x) ∙ step_makes up n ih y ∙ sym (makes-roll x)

-- the same variables are made
pub chosen_makes : (n : ℕ) (p : Plan) → phys_makes (chosen n p) ≡ makes p
chosen_makes n = ind-Plan (MakesIs n) (λ x y e. subst (λ (z : L.Plan-F Plan). MakesIs n (roll-Plan z)) e (layer_makes (λ s. s.0) n (λ s. s.1) y))

abbrev ScansAre : ℕ → Plan → Type 0
ScansAre n p = phys_scans (chosen n p) ≡ scans p

module _ {S : Type 0} (up : S → Plan) (n : ℕ) (ih : (s : S) → ScansAre n (up s)) where
  scans_input : (need : Need) (s : S) → phys_scans (served n need (chosen n (up s))) ≡ scans (up s)
  scans_input need s = served_scans n need (chosen n (up s)) ∙ ih s

  step_scans : (y : L.Plan-F S) → phys_scans (ChosenLayer n (map-Plan S Plan up y)) ≡ scans_step (map-Plan Plan (List Scan) scans (map-Plan S Plan up y))
  step_scans (L.Scan set vars) = pscans-Scan set vars
  step_scans L.Empty = pscans-One
  step_scans L.Nested = pscans-One
  step_scans (L.Assign made s) = pscans-Assign made _ ∙ scans_input N.Any s
  step_scans (L.Select c s) = pscans-Select c _ ∙ scans_input N.Any s
  step_scans (L.Project vars s) = pscans-Project vars _ ∙ scans_input N.Any s
  step_scans (L.Unnest v its s) = pscans-Unnest v its _ ∙ scans_input N.Any s
  step_scans (L.Subplan m s) = pscans-Subplan (up m) _ ∙ ap (λ ss. ss ++ scans (up m)) (scans_input N.Any s)
  step_scans (L.Join c l r) = join_scans n false c (chosen n (up l)) (chosen n (up r)) ∙ both _ _ _ _ (ih l) (ih r)
  step_scans (L.LeftJoin c l r) = join_scans n true c (chosen n (up l)) (chosen n (up r)) ∙ both _ _ _ _ (ih l) (ih r)
  step_scans (L.Group keys m s) = group_scans keys (up m) (served n (N.Keyed (old_of keys)) (chosen n (up s))) ∙ ap (λ ss. ss ++ scans (up m)) (scans_input (N.Keyed (old_of keys)) s)
  step_scans (L.Distinct s) = pscans-HashDistinct _ ∙ scans_input (N.Keyed (phys_live (chosen n (up s)))) s
  step_scans (L.Union made ls rs l r) = pscans-Union made ls rs _ _ ∙ both _ _ _ _ (scans_input N.Any l) (scans_input N.Any r)
  step_scans (L.Aggregate made s) = pscans-AggFinal made _ ∙ served_scans n N.One _ ∙ pscans-AggPart made _ ∙ scans_input N.Any s
  step_scans (L.Order keys s) = merge_passes phys_scans scans_passes n keys _ ∙ pscans-Sort keys _ ∙ scans_input N.Any s
  step_scans (L.Limit m k s) = limit_passes phys_scans scans_passes n m k _ ∙ ih s
  step_scans (L.Check own c s) = pscans-Check own c _ ∙ scans_input N.Any s
  step_scans (L.Result vars s) = pscans-Result vars _ ∙ scans_input N.One s

layer_scans : {S : Type 0} (up : S → Plan) (n : ℕ) → ((s : S) → ScansAre n (up s)) → (y : L.Plan-F S) → ScansAre n (roll-Plan (map-Plan S Plan up y))
layer_scans {S} up n ih y = let x = map-Plan S Plan up y in ap phys_scans (chosen-roll n x) ∙ step_scans up n ih y ∙ sym (scans-roll x)

-- the same datasets are scanned
pub chosen_scans : (n : ℕ) (p : Plan) → phys_scans (chosen n p) ≡ scans p
chosen_scans n = ind-Plan (ScansAre n) (λ x y e. subst (λ (z : L.Plan-F Plan). ScansAre n (roll-Plan z)) e (layer_scans (λ s. s.0) n (λ s. s.1) y))

abbrev ResultIs : ℕ → Plan → Type 0
ResultIs n p = phys_result (chosen n p) ≡ result_of p

abbrev IsInput : Phys → Type 0
IsInput q = phys_result q ≡ None

step_result : {S : Type 0} (up : S → Plan) (n : ℕ) (y : L.Plan-F S) → phys_result (ChosenLayer n (map-Plan S Plan up y)) ≡ result_step (map-Plan Plan (Option (List Var)) result_of (map-Plan S Plan up y))
step_result up n (L.Scan set vars) = presult-Scan set vars
step_result up n L.Empty = presult-One
step_result up n L.Nested = presult-One
step_result up n (L.Assign made s) = presult-Assign made _
step_result up n (L.Select c s) = presult-Select c _
step_result up n (L.Project vars s) = presult-Project vars _
step_result up n (L.Unnest v its s) = presult-Unnest v its _
step_result up n (L.Subplan m s) = presult-Subplan (up m) _
step_result up n (L.Join c l r) = presult-Join _ c _ _
step_result up n (L.LeftJoin c l r) = presult-Join _ c _ _
step_result up n (L.Group keys m s) =
    let q = served n (N.Keyed (old_of keys)) (chosen n (up s)) in
    group_cases keys (up m) q IsInput (presult-PreGroup keys (up m) q) (presult-HashGroup keys (up m) q) (presult-PreGroup keys (up m) (Q.Sort (ascending keys) q))
step_result up n (L.Distinct s) = presult-HashDistinct _
step_result up n (L.Union made ls rs l r) = presult-Union made ls rs _ _
step_result up n (L.Aggregate made s) = presult-AggFinal made _
step_result up n (L.Order keys s) =
    let q = Q.Sort keys (served n N.Any (chosen n (up s))) in
    of_both IsInput (meets (parts_of q n) N.One n) q (Q.Merge keys q) (presult-Sort keys _) (presult-Merge keys q)
step_result up n (L.Limit m k s) =
    let q = chosen n (up s) in
    let cut = Q.Limit m k (Q.Gather (Q.LocalLimit (m + k) q)) in
    of_both IsInput (meets (parts_of q n) N.One n) (Q.Limit m k q) (if is_rank (m + k) then cut else Q.Limit m k (Q.Gather q)) (presult-Limit m k _)
    (of_both IsInput (is_rank (m + k)) cut (Q.Limit m k (Q.Gather q)) (presult-Limit m k _) (presult-Limit m k _))
step_result up n (L.Check own c s) = presult-Check own c _
step_result up n (L.Result vars s) = presult-Result vars _

layer_result : {S : Type 0} (up : S → Plan) (n : ℕ) (y : L.Plan-F S) → ResultIs n (roll-Plan (map-Plan S Plan up y))
layer_result {S} up n y = let x = map-Plan S Plan up y in ap phys_result (chosen-roll n x) ∙ step_result up n y ∙ sym (result-roll x)

-- the result has the same list, and another operator has none
pub chosen_result : (n : ℕ) (p : Plan) → phys_result (chosen n p) ≡ result_of p
chosen_result n = ind-Plan (ResultIs n) (λ x y e. subst (λ (z : L.Plan-F Plan). ResultIs n (roll-Plan z)) e (layer_result (λ s. s.0) n y))
