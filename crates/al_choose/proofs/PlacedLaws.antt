-- The chosen plan is placed.
use Rattle.std.proofs.Common.{◌≡◌, ◌≢◌, ◌<◌, ◌^◌, ◌-◌, ℕ, Bool, true, false, List, [], ◌∷◌, ◌++◌, map, length, inl, inr, refl, sym, subst, ◌∙◌, arith}
use Rattle.std.specs.Prelude.{◌+◌, if◌then◌else◌}
use Rattle.std.specs.List.{AllByRecursion}
use Rattle.al_plan.specs.declared.expr.Var.{Var}
use Rattle.al_plan.specs.declared.expr.Expr.{Expr}
use Rattle.al_plan.specs.declared.plan.OrderKey.{OrderKey}
use Rattle.al_plan.specs.declared.plan.AggCall.{AggCall}
use Rattle.al_plan.specs.declared.plan.Plan.{Plan, map-Plan, roll-Plan, ind-Plan}
use Rattle.al_plan.specs.declared.plan.Plan.TheOpen as L
use Rattle.al_plan.specs.Names.{agg_exprs, item_exprs}
use Rattle.al_plan.specs.Allows.{live, live_step}
use Rattle.al_plan.specs.Refines.{Fit, FitsEach, InputFits, Narrow, IsOver, AreOver, AreLive, NoTwice, AtMost64}
use Rattle.al_plan.proofs.PlanLaws.{EachLayer, each-roll, NarrowLayer, narrow-roll}
use Rattle.al_plan.proofs.Mono.{live_is}
use Rattle.al_phys.specs.declared.property.Need.{Need}
use Rattle.al_phys.specs.declared.property.Need.TheVariants as N
use Rattle.al_phys.specs.declared.phys.JoinForm.{JoinForm}
use Rattle.al_phys.specs.declared.phys.Phys.{Phys}
use Rattle.al_phys.specs.declared.phys.Phys.TheVariants as Q
use Rattle.al_phys.specs.Gives.{is_hash}
use Rattle.al_phys.specs.Operators.{phys_live, operators, is_exchange}
use Rattle.al_phys.specs.Properties.{meets, parts_of, order_of, join_need, equi_keys, old_of}
use Rattle.al_phys.specs.Placed.{IsLaid, IsServed, IsInner, Placed, is_grouped, is_row_wise, ascending, vars_of}
use Rattle.al_phys.proofs.OperatorLaws.{poperators-Scan, poperators-One, poperators-Assign, poperators-Select, poperators-Project, poperators-Unnest, poperators-Subplan, poperators-Check, poperators-Join, poperators-HashGroup, poperators-PreGroup, poperators-HashDistinct, poperators-AggPart, poperators-AggFinal, poperators-Union, poperators-Sort, poperators-Limit, poperators-LocalLimit, poperators-Result, poperators-Merge}
use Rattle.al_phys.proofs.OperatorLaws.{plive-AggPart, plive-Sort, plive-LocalLimit, plive-Merge, presult-LocalLimit}
use Rattle.al_phys.proofs.PropertyLaws.{laid-Scan, laid-One, laid-Assign, laid-Select, laid-Project, laid-Unnest, laid-Subplan, laid-Check, laid-Join, laid-HashGroup, laid-PreGroup, laid-HashDistinct, laid-AggPart, laid-AggFinal, laid-Union, laid-Sort, laid-Limit, laid-LocalLimit, laid-Result, laid-Merge, whole-LocalLimit, spread-LocalLimit}
use Rattle.al_phys.proofs.OverLaws.{left_keys_live}
use Rattle.al_choose.specs.Chosen.{chosen, served, join_form, join_as, join_over, group_over, merge_over, limit_over, is_rank}
use Rattle.al_choose.proofs.ChosenLaws.{ChosenLayer, chosen-roll}
use Rattle.al_choose.proofs.LiveOf.{served_live, chosen_live, chosen_makes, chosen_result}
use Rattle.al_choose.proofs.PlacedRoots.{into, once, whole, any_alone, met_same}
use Rattle.al_choose.proofs.PlacedKeys.{right_keys_live}
use Rattle.al_choose.proofs.PlacedInputs.{Ready, any_met, by_exchange, is_served, Sound, AllSound, all_over, all_over_two, all_alone, NeedsLive, live_itself, gathered, served_sound}

-- ---- widths

-- a plan that is narrow has few live variables itself
abbrev IsThin : Plan → Type 0
IsThin p = Narrow p [] → AtMost64 (live p [])

step_thin : {S : Type 0} (up : S → Plan) → ((s : S) → IsThin (up s)) → (y : L.Plan-F S) → NarrowLayer (map-Plan S Plan up y) [] → AtMost64 (live_step (map-Plan Plan (List Var → List Var) live (map-Plan S Plan up y)) [])
step_thin up ih (L.Scan set vars) h = h
step_thin up ih L.Empty h = omega arith
step_thin up ih L.Nested h = omega arith
step_thin up ih (L.Assign made s) h = h.1
step_thin up ih (L.Select c s) h = ih s h
step_thin up ih (L.Project vars s) h = h.1
step_thin up ih (L.Unnest v its s) h = h.1
step_thin up ih (L.Subplan m s) h = h.1
step_thin up ih (L.Join c l r) h = h.2
step_thin up ih (L.LeftJoin c l r) h = h.2
step_thin up ih (L.Group keys m s) h = h.1
step_thin up ih (L.Distinct s) h = ih s h
step_thin up ih (L.Union made ls rs l r) h = h.2
step_thin up ih (L.Aggregate made s) h = h.1
step_thin up ih (L.Order keys s) h = ih s h
step_thin up ih (L.Limit m k s) h = ih s h
step_thin up ih (L.Check own c s) h = ih s h
step_thin up ih (L.Result vars s) h = h.1

layer_thin : {S : Type 0} (up : S → Plan) → ((s : S) → IsThin (up s)) → (y : L.Plan-F S) → IsThin (roll-Plan (map-Plan S Plan up y))
layer_thin {S} up ih y h =
    let x = map-Plan S Plan up y in
    subst AtMost64 (sym (live_is x [])) (step_thin up ih y (subst (λ (a : List Var → Type 0). a []) (narrow-roll x) h))

thin : (p : Plan) → IsThin p
thin = ind-Plan IsThin (λ x y e. subst (λ (z : L.Plan-F Plan). IsThin (roll-Plan z)) e (layer_thin (λ s. s.0) (λ s. s.1) y))

-- ---- inputs

-- what is chosen for an input
record Input (n : ℕ) (p : Plan) : Type 0 where
  pub ready : Ready n (chosen n p)
  pub lives : phys_live (chosen n p) ≡ live p []
  pub narrow : AtMost64 (phys_live (chosen n p))
  pub sound : AllSound n (chosen n p)

module _ (n : ℕ) (p : Plan) (i : Input n p) where
  -- what is so of the live variables of an input is so of those of what serves a need over it
  at_input : (P : List Var → Type 0) (need : Need) → P (live p []) → P (phys_live (served n need (chosen n p)))
  at_input P need h = subst P (sym (served_live n need (chosen n p) ∙ i.lives)) h

  laid_input : (need : Need) → IsServed n need (served n need (chosen n p))
  laid_input need = is_served n need (chosen n p) i.ready

  sound_input : (need : Need) → NeedsLive need (chosen n p) → AllSound n (served n need (chosen n p))
  sound_input need live = served_sound n (chosen n p) i.narrow i.sound need live

  any_input : AllSound n (served n N.Any (chosen n p))
  any_input = sound_input N.Any tt

-- ---- joins

abbrev SameLive : Phys → Phys → Type 0
SameLive p q = phys_live p ≡ phys_live q

left_same : (hash : Bool) (one other l r : Phys) (c : Expr) → SameLive one l → SameLive other r → join_need hash l r c 0 ≡ join_need hash one other c 0
left_same true one other l r c e f = λ i. N.Exactly (map (λ k. k.0) (equi_keys (sym e i) (sym f i) c))
left_same false one other l r c e f = refl

right_same : (hash : Bool) (one other l r : Phys) (c : Expr) → SameLive one l → SameLive other r → join_need hash l r c 1 ≡ join_need hash one other c 1
right_same true one other l r c e f = λ i. N.Exactly (map (λ k. k.1) (equi_keys (sym e i) (sym f i) c))
right_same false one other l r c e f = refl

left_live : (hash : Bool) (l r : Phys) (c : Expr) → NeedsLive (join_need hash l r c 0) l
left_live true l r c = left_keys_live l r c
left_live false l r c = tt

right_live : (hash : Bool) (l r : Phys) (c : Expr) → NeedsLive (join_need hash l r c 1) r
right_live true l r c = right_keys_live l r c
right_live false l r c = tt

module _ (n : ℕ) (c : Expr) (l r : Plan) (i : Input n l) (j : Input n r) (over : IsOver (live l [] ++ live r []) c) where
  join_sound : (form : JoinForm) → AtMost64 (phys_live (join_as n form c (chosen n l) (chosen n r))) → AllSound n (join_as n form c (chosen n l) (chosen n r))
  join_sound form narrow =
      let p = chosen n l in
      let q = chosen n r in
      let hash = is_hash form in
      let one = served n (join_need hash p q c 0) p in
      let other = served n (join_need hash p q c 1) q in
      let e : SameLive one p = served_live n (join_need hash p q c 0) p in
      let f : SameLive other q = served_live n (join_need hash p q c 1) q in
      all_over_two n (Q.Join form c one other) one other (poperators-Join form c one other)
      (into (laid-Join n form c one other) (
        subst (λ (need : Need). IsServed n need one) (left_same hash one other p q c e f) (is_served n (join_need hash p q c 0) p i.ready),
        subst (λ (need : Need). IsServed n need other) (right_same hash one other p q c e f) (is_served n (join_need hash p q c 1) q j.ready),
        subst (λ (vs : List Var). IsOver vs c) (λ k. sym (e ∙ i.lives) k ++ sym (f ∙ j.lives) k) over,
      ))
      narrow (sound_input n l i (join_need hash p q c 0) (left_live hash p q c)) (sound_input n r j (join_need hash p q c 1) (right_live hash p q c))

  over_sound : (outer : Bool) → AtMost64 (phys_live (join_over n outer c (chosen n l) (chosen n r))) → AllSound n (join_over n outer c (chosen n l) (chosen n r))
  over_sound outer narrow = join_sound (join_form outer (equi_keys (phys_live (chosen n l)) (phys_live (chosen n r)) c)) narrow

-- ---- groups

ascending_live : (vars : List Var) (keys : List (Var × Var)) → AreLive vars (old_of keys) → AreLive vars (vars_of (ascending keys))
ascending_live vars [] h = tt
ascending_live vars (k ∷ keys) h = (h.0, ascending_live vars keys h.1)

module _ (n : ℕ) (keys : List (Var × Var)) (inner : Plan) (q : Phys)
    (input : IsServed n (N.Keyed (old_of keys)) q) (olds : AreLive (phys_live q) (old_of keys)) (fits : IsInner inner (phys_live q)) (width : AtMost64 (phys_live q)) (sound : AllSound n q) where
  sort_sound : AllSound n (Q.Sort (ascending keys) q)
  sort_sound =
      all_over n (Q.Sort (ascending keys) q) q (poperators-Sort (ascending keys) q)
      (into (laid-Sort n (ascending keys) q) (inr (old_of keys, input), ascending_live (phys_live q) keys olds))
      (subst AtMost64 (sym (plive-Sort (ascending keys) q)) width) sound

  grouped : is_grouped keys (order_of q) ≡ true → AtMost64 (phys_live (Q.PreGroup keys inner q)) → AllSound n (Q.PreGroup keys inner q)
  grouped e narrow = all_over n (Q.PreGroup keys inner q) q (poperators-PreGroup keys inner q) (into (laid-PreGroup n keys inner q) (inl (input, e), olds, fits)) narrow sound

  hashed : is_row_wise inner ≡ true → AtMost64 (phys_live (Q.HashGroup keys inner q)) → AllSound n (Q.HashGroup keys inner q)
  hashed e narrow = all_over n (Q.HashGroup keys inner q) q (poperators-HashGroup keys inner q) (into (laid-HashGroup n keys inner q) (input, olds, fits, e)) narrow sound

  sorted : is_grouped keys (order_of q) ≡ false → AtMost64 (phys_live (Q.PreGroup keys inner (Q.Sort (ascending keys) q))) → AllSound n (Q.PreGroup keys inner (Q.Sort (ascending keys) q))
  sorted e narrow =
      let up = sym (plive-Sort (ascending keys) q) in
      all_over n (Q.PreGroup keys inner (Q.Sort (ascending keys) q)) (Q.Sort (ascending keys) q) (poperators-PreGroup keys inner (Q.Sort (ascending keys) q))
      (into (laid-PreGroup n keys inner (Q.Sort (ascending keys) q)) (inr (q, refl, input, e), subst (λ (vs : List Var). AreLive vs (old_of keys)) up olds, subst (λ (vs : List Var). IsInner inner vs) up fits))
      narrow sort_sound

  group_sound : AtMost64 (phys_live (group_over keys inner q)) → AllSound n (group_over keys inner q)
  group_sound = go (is_grouped keys (order_of q)) refl
    where
      apart : (b : Bool) → is_grouped keys (order_of q) ≡ false → is_row_wise inner ≡ b → AtMost64 (phys_live (if b then Q.HashGroup keys inner q else Q.PreGroup keys inner (Q.Sort (ascending keys) q)))
          → AllSound n (if b then Q.HashGroup keys inner q else Q.PreGroup keys inner (Q.Sort (ascending keys) q))
      apart true e f narrow = hashed f narrow
      apart false e f narrow = sorted e narrow

      go : (b : Bool) → is_grouped keys (order_of q) ≡ b
          → AtMost64 (phys_live (if b then Q.PreGroup keys inner q else if is_row_wise inner then Q.HashGroup keys inner q else Q.PreGroup keys inner (Q.Sort (ascending keys) q)))
          → AllSound n (if b then Q.PreGroup keys inner q else if is_row_wise inner then Q.HashGroup keys inner q else Q.PreGroup keys inner (Q.Sort (ascending keys) q))
      go true e narrow = grouped e narrow
      go false e narrow = apart (is_row_wise inner) e refl narrow

-- ---- orders and limits

module _ (n : ℕ) (keys : List OrderKey) (q : Phys) (input : IsServed n N.Any q) (alone : is_exchange q ≡ false) (live : AreLive (phys_live q) (vars_of keys)) (width : AtMost64 (phys_live q)) (sound : AllSound n q) where
  order_sound : AllSound n (merge_over n keys (Q.Sort keys q))
  order_sound = go (meets (parts_of (Q.Sort keys q) n) N.One n) refl
    where
      narrow : AtMost64 (phys_live (Q.Sort keys q))
      narrow = subst AtMost64 (sym (plive-Sort keys q)) width

      sorted : AllSound n (Q.Sort keys q)
      sorted = all_over n (Q.Sort keys q) q (poperators-Sort keys q) (into (laid-Sort n keys q) (inl input, live)) narrow sound

      go : (b : Bool) → meets (parts_of (Q.Sort keys q) n) N.One n ≡ b → AllSound n (if b then Q.Sort keys q else Q.Merge keys (Q.Sort keys q))
      go true e = sorted
      go false e =
          all_over n (Q.Merge keys (Q.Sort keys q)) (Q.Sort keys q) (poperators-Merge keys (Q.Sort keys q)) (into (laid-Merge n keys (Q.Sort keys q)) (q, refl, alone, e))
          (subst AtMost64 (sym (plive-Merge keys (Q.Sort keys q))) narrow) sorted

module _ (n m k : ℕ) (q : Phys) (ready : Ready n q) (width : AtMost64 (phys_live q)) (sound : AllSound n q) where
  limit_at : (p : Phys) → IsServed n N.One p → AtMost64 (phys_live (Q.Limit m k p)) → AllSound n p → AllSound n (Q.Limit m k p)
  limit_at p input narrow all = all_over n (Q.Limit m k p) p (poperators-Limit m k p) (into (laid-Limit n m k p) input) narrow all

  limit_cut : (c : ℕ) → meets (parts_of q n) N.One n ≡ false → AtMost64 (phys_live (Q.Limit m k (Q.Gather (Q.LocalLimit c q)))) → AllSound n (Q.Limit m k (Q.Gather (Q.LocalLimit c q)))
  limit_cut c e narrow =
      let cut = Q.LocalLimit c q in
      let thin = subst AtMost64 (sym (plive-LocalLimit c q)) width in
      let all = all_over n cut q (poperators-LocalLimit c q) (into (laid-LocalLimit n c q) (q, inl (refl, any_met n q ready.once), ready.whole, ready.root)) thin sound in
      limit_at (Q.Gather cut) (cut, inr (refl, met_same n q cut N.One false (sym (spread-LocalLimit c q)) e), into (whole-LocalLimit n c q) tt, presult-LocalLimit c q) narrow (gathered n cut thin all)

  limit_sound : AtMost64 (phys_live (limit_over n m k q)) → AllSound n (limit_over n m k q)
  limit_sound = go (meets (parts_of q n) N.One n) refl
    where
      many : (b : Bool) → meets (parts_of q n) N.One n ≡ false → AtMost64 (phys_live (if b then Q.Limit m k (Q.Gather (Q.LocalLimit (m + k) q)) else Q.Limit m k (Q.Gather q)))
          → AllSound n (if b then Q.Limit m k (Q.Gather (Q.LocalLimit (m + k) q)) else Q.Limit m k (Q.Gather q))
      many true e narrow = limit_cut (m + k) e narrow
      many false e narrow = limit_at (Q.Gather q) (q, inr (refl, e), ready.whole, ready.root) narrow (gathered n q width sound)

      go : (b : Bool) → meets (parts_of q n) N.One n ≡ b
          → AtMost64 (phys_live (if b then Q.Limit m k q else if is_rank (m + k) then Q.Limit m k (Q.Gather (Q.LocalLimit (m + k) q)) else Q.Limit m k (Q.Gather q)))
          → AllSound n (if b then Q.Limit m k q else if is_rank (m + k) then Q.Limit m k (Q.Gather (Q.LocalLimit (m + k) q)) else Q.Limit m k (Q.Gather q))
      go true e narrow = limit_at q (q, inl (refl, e), ready.whole, ready.root) narrow sound
      go false e narrow = many (is_rank (m + k)) e narrow

-- ---- aggregates

module _ (n : ℕ) (made : List (Var × AggCall)) (q : Phys) (input : IsServed n N.Any q) (over : AllByRecursion (λ m. AreOver (phys_live q) (agg_exprs m.1)) made) (sound : AllSound n q) where
  final_sound : AtMost64 (phys_live (Q.AggFinal made (served n N.One (Q.AggPart made q)))) → AllSound n (Q.AggFinal made (served n N.One (Q.AggPart made q)))
  final_sound narrow =
      let part = Q.AggPart made q in
      let thin : AtMost64 (phys_live part) = subst AtMost64 (sym (plive-AggPart made q)) (omega arith) in
      let all = all_over n part q (poperators-AggPart made q) (into (laid-AggPart n made q) (input, over)) thin sound in
      all_over n (Q.AggFinal made (served n N.One part)) (served n N.One part) (poperators-AggFinal made (served n N.One part))
      (into (laid-AggFinal n made (served n N.One part)) (q, by_exchange n N.One part refl)) narrow (served_sound n part thin all N.One tt)

-- ---- all operators

abbrev IsSound : ℕ → Plan → Type 0
IsSound n p = FitsEach p false [] → Narrow p [] → AllSound n (chosen n p)

module _ {S : Type 0} (up : S → Plan) (n : ℕ) (ih : (s : S) → IsSound n (up s)) where
  input : (s : S) → InputFits (up s) (FitsEach (up s)) false [] → Narrow (up s) [] → Input n (up s)
  input s fit narrow =
      let lives = chosen_live n (up s) false [] fit.0 in
      record {
        ready = record { whole = whole n (up s); root = chosen_result n (up s) ∙ fit.1; once = once n (up s) };
        lives = lives;
        narrow = subst AtMost64 (sym lives) (thin (up s) narrow);
        sound = ih s fit.0 narrow;
      }

  step_sound : (y : L.Plan-F S) → EachLayer (map-Plan S Plan up y) false [] → NarrowLayer (map-Plan S Plan up y) [] → AtMost64 (phys_live (ChosenLayer n (map-Plan S Plan up y))) → AllSound n (ChosenLayer n (map-Plan S Plan up y))
  step_sound (L.Scan set vars) fit h w = all_alone n (Q.Scan set vars) (poperators-Scan set vars) (into (laid-Scan n set vars) tt) w
  step_sound L.Empty fit h w = all_alone n Q.One poperators-One (into (laid-One n) tt) w
  step_sound L.Nested fit h w = all_alone n Q.One poperators-One (into (laid-One n) tt) w
  step_sound (L.Assign made s) fit h w =
      let i = input s fit.0 h.0 in
      all_over n (Q.Assign made _) _ (poperators-Assign made _) (into (laid-Assign n made _) (laid_input n (up s) i N.Any, at_input n (up s) i (λ vs. AreOver vs (map (λ m. m.1) made)) N.Any fit.1)) w (any_input n (up s) i)
  step_sound (L.Select c s) fit h w =
      let i = input s fit.0 h in
      all_over n (Q.Select c _) _ (poperators-Select c _) (into (laid-Select n c _) (laid_input n (up s) i N.Any, at_input n (up s) i (λ vs. IsOver vs c) N.Any fit.1)) w (any_input n (up s) i)
  step_sound (L.Project vars s) fit h w =
      let i = input s fit.0 h.0 in
      all_over n (Q.Project vars _) _ (poperators-Project vars _) (into (laid-Project n vars _) (laid_input n (up s) i N.Any, at_input n (up s) i (λ vs. AreLive vs vars) N.Any fit.1, fit.2)) w (any_input n (up s) i)
  step_sound (L.Unnest v its s) fit h w =
      let i = input s fit.0 h.0 in
      all_over n (Q.Unnest v its _) _ (poperators-Unnest v its _) (into (laid-Unnest n v its _) (laid_input n (up s) i N.Any, at_input n (up s) i (λ vs. AreOver vs (item_exprs its)) N.Any fit.1)) w (any_input n (up s) i)
  step_sound (L.Subplan m s) fit h w =
      let i = input s fit.0 h.0 in
      all_over n (Q.Subplan (up m) _) _ (poperators-Subplan (up m) _) (into (laid-Subplan n (up m) _) (laid_input n (up s) i N.Any, at_input n (up s) i (λ vs. IsInner (up m) vs) N.Any (fit.2, fit.3))) w (any_input n (up s) i)
  step_sound (L.Join c l r) fit h w = over_sound n c (up l) (up r) (input l fit.0 h.0) (input r fit.1 h.1) fit.3 false w
  step_sound (L.LeftJoin c l r) fit h w = over_sound n c (up l) (up r) (input l fit.0 h.0) (input r fit.1 h.1) fit.3 true w
  step_sound (L.Group keys m s) fit h w =
      let i = input s fit.0 h.0 in
      let need = N.Keyed (old_of keys) in
      let here = subst (λ (vs : List Var). AreLive vs (old_of keys)) (sym i.lives) fit.2 in
      group_sound n keys (up m) (served n need (chosen n (up s))) (laid_input n (up s) i need) (at_input n (up s) i (λ vs. AreLive vs (old_of keys)) need fit.2) (at_input n (up s) i (λ vs. IsInner (up m) vs) need (fit.3, fit.4))
      (subst AtMost64 (sym (served_live n need (chosen n (up s)))) i.narrow) (sound_input n (up s) i need here) w
  step_sound (L.Distinct s) fit h w =
      let i = input s fit h in
      let vars = phys_live (chosen n (up s)) in
      let q = served n (N.Keyed vars) (chosen n (up s)) in
      all_over n (Q.HashDistinct q) q (poperators-HashDistinct q) (into (laid-HashDistinct n q) (subst (λ (vs : List Var). IsServed n (N.Keyed vs) q) (sym (served_live n (N.Keyed vars) (chosen n (up s)))) (laid_input n (up s) i (N.Keyed vars)))) w (sound_input n (up s) i (N.Keyed vars) (live_itself vars))
  step_sound (L.Union made ls rs l r) fit h w =
      let i = input l fit.0 h.0 in
      let j = input r fit.1 h.1 in
      all_over_two n (Q.Union made ls rs _ _) _ _ (poperators-Union made ls rs _ _)
      (into (laid-Union n made ls rs _ _) (laid_input n (up l) i N.Any, laid_input n (up r) j N.Any, at_input n (up l) i (λ vs. AreLive vs ls) N.Any fit.3, at_input n (up r) j (λ vs. AreLive vs rs) N.Any fit.4, fit.5, fit.6))
      w (any_input n (up l) i) (any_input n (up r) j)
  step_sound (L.Aggregate made s) fit h w =
      let i = input s fit.0 h.0 in
      final_sound n made (served n N.Any (chosen n (up s))) (laid_input n (up s) i N.Any) (at_input n (up s) i (λ vs. AllByRecursion (λ m. AreOver vs (agg_exprs m.1)) made) N.Any fit.1) (any_input n (up s) i) w
  step_sound (L.Order keys s) fit h w =
      let i = input s fit.0 h in
      order_sound n keys (served n N.Any (chosen n (up s))) (laid_input n (up s) i N.Any) (any_alone n (up s)) (at_input n (up s) i (λ vs. AreLive vs (vars_of keys)) N.Any fit.1)
      (subst AtMost64 (sym (served_live n N.Any (chosen n (up s)))) i.narrow) (any_input n (up s) i)
  step_sound (L.Limit m k s) fit h w = let i = input s fit h in limit_sound n m k (chosen n (up s)) i.ready i.narrow i.sound w
  step_sound (L.Check own c s) fit h w =
      let i = input s fit.0 h in
      all_over n (Q.Check own c _) _ (poperators-Check own c _) (into (laid-Check n own c _) (laid_input n (up s) i N.Any, at_input n (up s) i (λ vs. IsOver vs c) N.Any fit.2)) w (any_input n (up s) i)
  step_sound (L.Result vars s) fit h w =
      let i = input s fit.0 h.0 in
      all_over n (Q.Result vars _) _ (poperators-Result vars _) (into (laid-Result n vars _) (laid_input n (up s) i N.One, at_input n (up s) i (λ vs. AreLive vs vars) N.One fit.2, fit.3)) w (sound_input n (up s) i N.One tt)

layer_sound : {S : Type 0} (up : S → Plan) (n : ℕ) → ((s : S) → IsSound n (up s)) → (y : L.Plan-F S) → IsSound n (roll-Plan (map-Plan S Plan up y))
layer_sound {S} up n ih y fit narrow =
    let x = map-Plan S Plan up y in
    let width = subst AtMost64 (sym (chosen_live n (roll-Plan x) false [] fit)) (thin (roll-Plan x) narrow) in
    subst (AllSound n) (sym (chosen-roll n x))
    (step_sound up n ih y (subst (λ (a : Bool → List Var → Type 0). a false []) (each-roll x) fit) (subst (λ (a : List Var → Type 0). a []) (narrow-roll x) narrow) (subst (λ (q : Phys). AtMost64 (phys_live q)) (chosen-roll n x) width))

sound : (n : ℕ) (p : Plan) → IsSound n p
sound n = ind-Plan (IsSound n) (λ x y e. subst (λ (z : L.Plan-F Plan). IsSound n (roll-Plan z)) e (layer_sound (λ s. s.0) n (λ s. s.1) y))

-- ---- the whole plan

all_laid : (n : ℕ) (qs : List Phys) → AllByRecursion (Sound n) qs → AllByRecursion (IsLaid n) qs
all_laid n [] h = tt
all_laid n (q ∷ qs) h = (h.0.laid, all_laid n qs h.1)

all_narrow : (n : ℕ) (qs : List Phys) → AllByRecursion (Sound n) qs → AllByRecursion (λ q. AtMost64 (phys_live q)) qs
all_narrow n [] h = tt
all_narrow n (q ∷ qs) h = (h.0.narrow, all_narrow n qs h.1)

pub placed : (n : ℕ) (p : Plan) → Fit p → length (operators (chosen n p)) < 2 ^ 19 → Placed (chosen n p) n
placed n p fit few =
    let all = sound n p fit.each fit.narrow in
    record {
      whole = whole n p;
      each = all_laid n (operators (chosen n p)) all;
      narrow = all_narrow n (operators (chosen n p)) all;
      once = subst NoTwice (sym (chosen_makes n p)) fit.once;
      few = few;
    }

few_of : (count : ℕ) → 524288 - count ≢ 0 → count < 2 ^ 19
few_of count h = omega (arith, h)

-- where there is room for more operators
pub placed_in : (n : ℕ) (p : Plan) (ph : Phys) (room : ℕ) → Fit p → ph ≡ chosen n p → room ≡ 524288 - length (operators ph) → room ≢ 0 → Placed ph n
placed_in n p ph room fit e left some =
    let count = few_of (length (operators ph)) (λ z. some (left ∙ z)) in
    subst (λ (q : Phys). Placed q n) (sym e) (placed n p fit (subst (λ (q : Phys). length (operators q) < 2 ^ 19) e count))
