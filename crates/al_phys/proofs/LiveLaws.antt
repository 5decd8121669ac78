-- What is live in a physical plan was made in it, and what each operator of a laid plan is laid over.
use Rattle.std.proofs.Common.{◌≡◌, ℕ, true, false, List, [], ◌∷◌, ◌++◌, map, refl, ap, sym, subst, ◌∙◌}
use Rattle.std.specs.List.{AllByRecursion}
use Rattle.al_plan.specs.declared.expr.Var.{Var}
use Rattle.al_plan.specs.declared.plan.Plan.{Plan, map-Plan, roll-Plan, ind-Plan}
use Rattle.al_plan.specs.declared.plan.Plan.TheOpen as P
use Rattle.al_plan.specs.Eval.{Bytes}
use Rattle.al_plan.specs.Allows.{live, is_among}
use Rattle.al_plan.specs.Refines.{AreLive, makes, is_aggregate}
use Rattle.al_plan.proofs.Bools.{no, by_cases}
use Rattle.al_plan.proofs.PlanLaws.{aggregate-roll, makes-roll}
use Rattle.al_plan.proofs.Mono.{live_is}
use Rattle.al_plan.proofs.Within.{not_left, not_right}
use Rattle.al_plan.proofs.Makes.{not_append, among_of, Disjoint}
use Rattle.al_phys.specs.declared.phys.Phys.{Phys, map-Phys, roll-Phys, ind-Phys}
use Rattle.al_phys.specs.declared.phys.Phys.TheOpen as L
use Rattle.al_phys.specs.Operators.{phys_live, live_step, phys_makes, makes_step, operators, below}
use Rattle.al_phys.specs.Placed.{IsLaid, laid_step}
use Rattle.al_phys.proofs.OperatorLaws.{plive-roll, pmakes-roll, operators-roll}
use Rattle.al_phys.proofs.PropertyLaws.{laid-roll}

-- ---- nested plans

-- the live variables of an aggregate are its own, whatever the outer rows have
abbrev IsOwn : Plan → Type 0
IsOwn n = is_aggregate n ≡ true → (given : List Var) → (live n given ≡ live n []) × ((q : Bytes) → is_among (makes n) q ≡ false → is_among (live n given) q ≡ false)

layer_own : {S : Type 0} (up : S → Plan) (y : P.Plan-F S) → IsOwn (roll-Plan (map-Plan S Plan up y))
layer_own up (P.Scan set vars) e given = absurd (no (sym e ∙ aggregate-roll (P.Scan set vars)))
layer_own up P.Empty e given = absurd (no (sym e ∙ aggregate-roll P.Empty))
layer_own up P.Nested e given = absurd (no (sym e ∙ aggregate-roll P.Nested))
layer_own up (P.Assign made s) e given = absurd (no (sym e ∙ aggregate-roll (P.Assign made (up s))))
layer_own up (P.Select c s) e given = absurd (no (sym e ∙ aggregate-roll (P.Select c (up s))))
layer_own up (P.Project vars s) e given = absurd (no (sym e ∙ aggregate-roll (P.Project vars (up s))))
layer_own up (P.Unnest v its s) e given = absurd (no (sym e ∙ aggregate-roll (P.Unnest v its (up s))))
layer_own up (P.Subplan m s) e given = absurd (no (sym e ∙ aggregate-roll (P.Subplan (up m) (up s))))
layer_own up (P.Join c l r) e given = absurd (no (sym e ∙ aggregate-roll (P.Join c (up l) (up r))))
layer_own up (P.LeftJoin c l r) e given = absurd (no (sym e ∙ aggregate-roll (P.LeftJoin c (up l) (up r))))
layer_own up (P.Group keys m s) e given = absurd (no (sym e ∙ aggregate-roll (P.Group keys (up m) (up s))))
layer_own up (P.Distinct s) e given = absurd (no (sym e ∙ aggregate-roll (P.Distinct (up s))))
layer_own up (P.Union made ls rs l r) e given = absurd (no (sym e ∙ aggregate-roll (P.Union made ls rs (up l) (up r))))
layer_own up (P.Aggregate made s) e given = (
  live_is (P.Aggregate made (up s)) given ∙ sym (live_is (P.Aggregate made (up s)) []),
  λ q h. ap (λ vs. is_among vs q) (live_is (P.Aggregate made (up s)) given) ∙ not_right (makes (up s)) (map (λ m. m.0) made) q (ap (λ vs. is_among vs q) (sym (makes-roll (P.Aggregate made (up s)))) ∙ h),
)
layer_own up (P.Order keys s) e given = absurd (no (sym e ∙ aggregate-roll (P.Order keys (up s))))
layer_own up (P.Limit k m s) e given = absurd (no (sym e ∙ aggregate-roll (P.Limit k m (up s))))
layer_own up (P.Check own c s) e given = absurd (no (sym e ∙ aggregate-roll (P.Check own c (up s))))
layer_own up (P.Result vars s) e given = absurd (no (sym e ∙ aggregate-roll (P.Result vars (up s))))

own : (n : Plan) → IsOwn n
own = ind-Plan IsOwn (λ x y e. subst (λ (z : P.Plan-F Plan). IsOwn (roll-Plan z)) e (layer_own (λ s. s.0) y))

-- the live variables of a nested plan do not hang on the outer rows
pub inner_live : (n : Plan) → is_aggregate n ≡ true → (given : List Var) → live n given ≡ live n []
inner_live n e given = (own n e given).0

pub inner_made : (n : Plan) → is_aggregate n ≡ true → (given : List Var) (q : Bytes) → is_among (makes n) q ≡ false → is_among (live n given) q ≡ false
inner_made n e given = (own n e given).1

-- ---- the parts of a plan

pub map_itself : (x : L.Phys-F Phys) → map-Phys Phys Phys (λ q. q) x ≡ x
map_itself (L.Scan set vars) = refl
map_itself L.One = refl
map_itself (L.Assign made p) = refl
map_itself (L.Select c p) = refl
map_itself (L.Project vars p) = refl
map_itself (L.Unnest v its p) = refl
map_itself (L.Subplan inner p) = refl
map_itself (L.Check name c p) = refl
map_itself (L.Join form c l r) = refl
map_itself (L.HashGroup keys inner p) = refl
map_itself (L.PreGroup keys inner p) = refl
map_itself (L.HashDistinct p) = refl
map_itself (L.AggPart made p) = refl
map_itself (L.AggFinal made p) = refl
map_itself (L.Union made ls rs l r) = refl
map_itself (L.Sort keys p) = refl
map_itself (L.Limit m k p) = refl
map_itself (L.LocalLimit m p) = refl
map_itself (L.Result vars p) = refl
map_itself (L.HashExchange vars p) = refl
map_itself (L.Broadcast p) = refl
map_itself (L.Gather p) = refl
map_itself (L.Merge keys p) = refl

-- every operator of a plan is laid
abbrev pub AllLaid : ℕ → Phys → Type 0
AllLaid n p = AllByRecursion (IsLaid n) (operators p)

-- so is the operator itself, and those below it
pub laid_here : (n : ℕ) (x : L.Phys-F Phys) → AllLaid n (roll-Phys x) → laid_step n x
laid_here n x h =
    let all = subst (AllByRecursion (IsLaid n)) (operators-roll x) h in
    subst (λ (t : Type 0). t) (laid-roll n x) (subst (λ (y : L.Phys-F Phys). IsLaid n (roll-Phys y)) (map_itself x) all.0)

pub laid_below : (n : ℕ) (x : L.Phys-F Phys) → AllLaid n (roll-Phys x) → AllByRecursion (IsLaid n) (below (map-Phys Phys (List Phys) operators x))
laid_below n x h = let all = subst (AllByRecursion (IsLaid n)) (operators-roll x) h in all.1

pub all_left : {X : Type 0} (P : X → Type 0) (xs ys : List X) → AllByRecursion P (xs ++ ys) → AllByRecursion P xs
all_left P [] ys h = tt
all_left P (x ∷ xs) ys h = (h.0, all_left P xs ys h.1)

pub all_right : {X : Type 0} (P : X → Type 0) (xs ys : List X) → AllByRecursion P (xs ++ ys) → AllByRecursion P ys
all_right P [] ys h = h
all_right P (x ∷ xs) ys h = all_right P xs ys h.1

pub left_laid : (n : ℕ) (l r : Phys) → AllByRecursion (IsLaid n) (operators l ++ operators r) → AllLaid n l
left_laid n l r = all_left (IsLaid n) (operators l) (operators r)

pub right_laid : (n : ℕ) (l r : Phys) → AllByRecursion (IsLaid n) (operators l ++ operators r) → AllLaid n r
right_laid n l r = all_right (IsLaid n) (operators l) (operators r)

-- ---- what is live was made

not_of : (xs vars : List Var) → AreLive xs vars → (q : Bytes) → is_among xs q ≡ false → is_among vars q ≡ false
not_of xs vars h q e = by_cases (is_among vars q) (λ t. absurd (no (sym (among_of xs vars h q t) ∙ e))) (λ t. t)

abbrev IsMade : Phys → Type 0
IsMade p = (n : ℕ) → AllLaid n p → (q : Bytes) → is_among (phys_makes p) q ≡ false → is_among (phys_live p) q ≡ false

module _ {S : Type 0} (up : S → Phys) (ih : (s : S) → IsMade (up s)) (n : ℕ) (q : Bytes) where
  abbrev Below : L.Phys-F S → Type 0
  Below y = AllByRecursion (IsLaid n) (below (map-Phys Phys (List Phys) operators (map-Phys S Phys up y)))

  step_made : (y : L.Phys-F S) → laid_step n (map-Phys S Phys up y) → Below y → is_among (makes_step (map-Phys Phys (List Var) phys_makes (map-Phys S Phys up y))) q ≡ false
      → is_among (live_step (map-Phys Phys (List Var) phys_live (map-Phys S Phys up y))) q ≡ false
  step_made (L.Scan set vars) here rest m = m
  step_made L.One here rest m = refl
  step_made (L.Assign made s) here rest m = not_append (phys_live (up s)) (map (λ m. m.0) made) q (ih s n rest q (not_left (phys_makes (up s)) (map (λ m. m.0) made) q m)) (not_right (phys_makes (up s)) (map (λ m. m.0) made) q m)
  step_made (L.Select c s) here rest m = ih s n rest q m
  step_made (L.Project vars s) here rest m = not_of (phys_live (up s)) vars here.1 q (ih s n rest q m)
  step_made (L.Unnest v its s) here rest m = not_append (phys_live (up s)) (v ∷ []) q (ih s n rest q (not_left (phys_makes (up s)) (v ∷ []) q m)) (not_right (phys_makes (up s)) (v ∷ []) q m)
  step_made (L.Subplan inner s) here rest m =
      not_append (phys_live (up s)) (live inner []) q (ih s n rest q (not_left (phys_makes (up s)) (makes inner) q m)) (inner_made inner here.1.1 [] q (not_right (phys_makes (up s)) (makes inner) q m))
  step_made (L.Check name c s) here rest m = ih s n rest q m
  step_made (L.Join form c l r) here rest m =
      not_append (phys_live (up l)) (phys_live (up r)) q (ih l n (left_laid n (up l) (up r) rest) q (not_left (phys_makes (up l)) (phys_makes (up r)) q m)) (ih r n (right_laid n (up l) (up r) rest) q (not_right (phys_makes (up l)) (phys_makes (up r)) q m))
  step_made (L.HashGroup keys inner s) here rest m =
      let new = map (λ k. k.0) keys in
      let more = not_right (phys_makes (up s)) (makes inner ++ new) q m in
      not_append new (live inner []) q (not_right (makes inner) new q more) (inner_made inner here.2.1 [] q (not_left (makes inner) new q more))
  step_made (L.PreGroup keys inner s) here rest m =
      let new = map (λ k. k.0) keys in
      let more = not_right (phys_makes (up s)) (makes inner ++ new) q m in
      not_append new (live inner []) q (not_right (makes inner) new q more) (inner_made inner here.2.1 [] q (not_left (makes inner) new q more))
  step_made (L.HashDistinct s) here rest m = ih s n rest q m
  step_made (L.AggPart made s) here rest m = refl
  step_made (L.AggFinal made s) here rest m = not_right (phys_makes (up s)) (map (λ m. m.0) made) q m
  step_made (L.Union made ls rs l r) here rest m = not_right (phys_makes (up r)) made q (not_right (phys_makes (up l)) (phys_makes (up r) ++ made) q m)
  step_made (L.Sort keys s) here rest m = ih s n rest q m
  step_made (L.Limit a b s) here rest m = ih s n rest q m
  step_made (L.LocalLimit a s) here rest m = ih s n rest q m
  step_made (L.Result vars s) here rest m = not_of (phys_live (up s)) vars here.1 q (ih s n rest q m)
  step_made (L.HashExchange vars s) here rest m = ih s n rest q m
  step_made (L.Broadcast s) here rest m = ih s n rest q m
  step_made (L.Gather s) here rest m = ih s n rest q m
  step_made (L.Merge keys s) here rest m = ih s n rest q m

layer_made : {S : Type 0} (up : S → Phys) → ((s : S) → IsMade (up s)) → (y : L.Phys-F S) → IsMade (roll-Phys (map-Phys S Phys up y))
layer_made {S} up ih y n all q m =
    let x = map-Phys S Phys up y in
    ap (λ vs. is_among vs q) (plive-roll x) ∙ step_made up ih n q y (laid_here n x all) (laid_below n x all) (ap (λ vs. is_among vs q) (sym (pmakes-roll x)) ∙ m)

pub only_made : (p : Phys) → IsMade p
only_made = ind-Phys IsMade (λ x y e. subst (λ (z : L.Phys-F Phys). IsMade (roll-Phys z)) e (layer_made (λ s. s.0) (λ s. s.1) y))

-- what is made beside a plan is not live in it
pub apart_from : (p : Phys) (n : ℕ) (new : List Var) → AllLaid n p → Disjoint (phys_makes p) new → Disjoint (phys_live p) new
apart_from p n new all d q e = by_cases (is_among (phys_makes p) q) (λ t. d q t) (λ f. absurd (no (sym e ∙ only_made p n all q f)))
