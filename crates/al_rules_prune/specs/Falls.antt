-- What falls where a rule of pruning is applied.
use Rattle.std.proofs.Common.{not, cond, filter, ◌&&◌, ◌≡◌, ◌<◌, ◌≤◌, ◌+◌, ◌*◌, ◌⊎◌, inl, inr, ℕ, suc, Bool, true, false, List, [], ◌∷◌, ◌++◌, map, length, refl, ap, sym, subst, ◌∙◌, arith}
use Rattle.al_plan.specs.declared.expr.Var.{Var}
use Rattle.al_plan.specs.declared.plan.Plan.{Plan, map-Plan, roll-Plan, fold-roll-Plan, ind-Plan}
use Rattle.al_plan.specs.declared.plan.Plan.TheVariants as P
use Rattle.al_plan.specs.declared.plan.Plan.TheOpen as L
use Rattle.al_plan.specs.Allows.{live, live_step}
use Rattle.al_plan.specs.Refines.{Fit, Replaces}
use Rattle.al_plan.proofs.PlanLaws.{live-roll}
use Rattle.std.proofs.lemmas.List.Sorted.{length_permutation}
use Rattle.al_rule.specs.Counts.{total}
use Rattle.al_rule.specs.Places.{Rewriting, Applied}
use Rattle.al_rule.proofs.EntryLaws.{IsSound}
use Rattle.al_rule.proofs.PlaceLaws.{Around, around, layer, rolls_around, assign, select, project, unnest, subplan, join_left, join_right, left_join_left, left_join_right, group, distinct, union_left, union_right, aggregate, order, limit, check, result, applied_goes_up, replaces_under}
use Rattle.al_plan.specs.Allows.{is_among}
use Rattle.al_plan.proofs.Bools.{no}
use Rattle.al_plan.proofs.PlanLaws.{live-Project}
use Rattle.al_rules_prune.specs.Prunes.{all_among, kept, narrowed, IsWide}
use Rattle.al_rules_prune.specs.Kept.{length_filter}
use Rattle.al_rules_prune.specs.PruneSet.{Sized, sized, sized_step, widths, unless_project, projects_and_bindings, count_step}

sized-roll : (x : L.Plan-F Plan) → sized (roll-Plan x) ≡ sized_step (map-Plan Plan Sized sized x)
unfolding sized
sized-roll x = fold-roll-Plan Sized sized_step x

count-roll : (x : L.Plan-F Plan) → projects_and_bindings (roll-Plan x) ≡ count_step (map-Plan Plan ℕ projects_and_bindings x)
unfolding projects_and_bindings
count-roll x = fold-roll-Plan ℕ count_step x

-- ---- the first half of a plan's size are its live variables

abbrev IsLive : Plan → Type 0
IsLive p = (sized p).0 ≡ live p

module _ {S : Type 0} (up : S → Plan) (ih : (s : S) → IsLive (up s)) where
  live_layer : (y : L.Plan-F S) → live_step (map-Plan Sized (List Var → List Var) (λ s. s.0) (map-Plan Plan Sized sized (map-Plan S Plan up y))) ≡ live_step (map-Plan Plan (List Var → List Var) live (map-Plan S Plan up y))
  live_layer (L.Scan set vars) = refl
  live_layer L.Empty = refl
  live_layer L.Nested = refl
  live_layer (L.Assign made p) = λ i. (λ given. ih p i given ++ map (λ m. m.0) made)
  live_layer (L.Select c p) = λ i. ih p i
  live_layer (L.Project vars p) = refl
  live_layer (L.Unnest v g p) = λ i. (λ given. ih p i given ++ v ∷ [])
  live_layer (L.Subplan n p) = λ i. (λ given. ih p i given ++ ih n i (ih p i given))
  live_layer (L.Join c l r) = λ i. (λ given. ih l i given ++ ih r i given)
  live_layer (L.LeftJoin c l r) = λ i. (λ given. ih l i given ++ ih r i given)
  live_layer (L.Group keys n p) = λ i. (λ given. map (λ k. k.0) keys ++ ih n i (ih p i given))
  live_layer (L.Distinct p) = λ i. ih p i
  live_layer (L.Union made ls rs l r) = refl
  live_layer (L.Aggregate made p) = refl
  live_layer (L.Order keys p) = λ i. ih p i
  live_layer (L.Limit j k p) = λ i. ih p i
  live_layer (L.Check name c p) = λ i. ih p i
  live_layer (L.Result vars p) = refl

layer_live : {S : Type 0} (up : S → Plan) → ((s : S) → IsLive (up s)) → (y : L.Plan-F S) → IsLive (roll-Plan (map-Plan S Plan up y))
layer_live {S} up ih y = ap (λ (s : Sized). s.0) (sized-roll (map-Plan S Plan up y)) ∙ live_layer up ih y ∙ sym (live-roll (map-Plan S Plan up y))

sized_live : (p : Plan) → IsLive p
sized_live = ind-Plan IsLive (λ x y e. subst (λ (z : L.Plan-F Plan). IsLive (roll-Plan z)) e (layer_live (λ s. s.0) (λ s. s.1) y))

-- the number of live variables
abbrev pub width : Plan → ℕ
width p = length (live p [])

widths_layer : (x : L.Plan-F Plan) → (sized_step (map-Plan Plan Sized sized x)).1 ≡ (unless_project (map-Plan Plan ℕ width x) + total (map-Plan Plan ℕ widths x))
widths_layer (L.Scan set vars) = refl
widths_layer L.Empty = refl
widths_layer L.Nested = refl
widths_layer (L.Assign made p) = λ i. length (sized_live p i []) + widths p
widths_layer (L.Select c p) = λ i. length (sized_live p i []) + widths p
widths_layer (L.Project vars p) = refl
widths_layer (L.Unnest v g p) = λ i. length (sized_live p i []) + widths p
widths_layer (L.Subplan n p) = λ i. length (sized_live p i []) + widths p
widths_layer (L.Join c l r) = λ i. (length (sized_live l i []) + length (sized_live r i [])) + (widths l + widths r)
widths_layer (L.LeftJoin c l r) = λ i. (length (sized_live l i []) + length (sized_live r i [])) + (widths l + widths r)
widths_layer (L.Group keys n p) = λ i. length (sized_live p i []) + widths p
widths_layer (L.Distinct p) = λ i. length (sized_live p i []) + widths p
widths_layer (L.Union made ls rs l r) = λ i. (length (sized_live l i []) + length (sized_live r i [])) + (widths l + widths r)
widths_layer (L.Aggregate made p) = λ i. length (sized_live p i []) + widths p
widths_layer (L.Order keys p) = λ i. length (sized_live p i []) + widths p
widths_layer (L.Limit j k p) = λ i. length (sized_live p i []) + widths p
widths_layer (L.Check name c p) = λ i. length (sized_live p i []) + widths p
widths_layer (L.Result vars p) = λ i. length (sized_live p i []) + widths p

pub widths-roll : (x : L.Plan-F Plan) → widths (roll-Plan x) ≡ (unless_project (map-Plan Plan ℕ width x) + total (map-Plan Plan ℕ widths x))
widths-roll x = ap (λ (s : Sized). s.1) (sized-roll x) ∙ widths_layer x

-- ---- numbers that fall, and go on falling in the whole plan

-- fewer variables at the inputs and at most one project more, or no more variables and fewer projects and bindings
abbrev pub Slims : ℕ → ℕ → ℕ → ℕ → Type 0
Slims w c v d = ((suc w ≤ v) × (c ≤ suc d)) ⊎ ((w ≤ v) × (c < d))

slims_shifted : (k m w c v d : ℕ) → Slims w c v d → Slims (k + w) (m + c) (k + v) (m + d)
slims_shifted k m w c v d (inl h) = inl (omega (arith, h.0), omega (arith, h.1))
slims_shifted k m w c v d (inr h) = inr (omega (arith, h.0), omega (arith, h.1))

pub slims_weight : (w c v d : ℕ) → Slims w c v d → 2 * w + c < 2 * v + d
slims_weight w c v d (inl h) = omega (arith, h.0, h.1)
slims_weight w c v d (inr h) = omega (arith, h.0, h.1)

-- an operator's number is its input's and more, and the more hangs on the input's width alone
abbrev Shifts : ℕ → ℕ → ℕ → ℕ → Type 0
Shifts a b w v = (k : ℕ) × (a ≡ k + w) × (b ≡ k + v)

abbrev widths_of : L.Plan-F Plan → ℕ
widths_of x = unless_project (map-Plan Plan ℕ width x) + total (map-Plan Plan ℕ widths x)

abbrev count_of : L.Plan-F Plan → ℕ
count_of x = count_step (map-Plan Plan ℕ projects_and_bindings x)

widths_shift : (a : Around) (y x : Plan) → width y ≡ width x → Shifts (widths_of (layer a y)) (widths_of (layer a x)) (widths y) (widths x)
widths_shift (assign made) y x e = (width x, omega (arith, e), refl)
widths_shift (select c) y x e = (width x, omega (arith, e), refl)
widths_shift (project vars) y x e = (0, refl, refl)
widths_shift (unnest v its) y x e = (width x, omega (arith, e), refl)
widths_shift (subplan n) y x e = (width x, omega (arith, e), refl)
widths_shift (join_left c r) y x e = ((width x + width r) + widths r, omega (arith, e), omega arith)
widths_shift (join_right c l) y x e = ((width l + width x) + widths l, omega (arith, e), omega arith)
widths_shift (left_join_left c r) y x e = ((width x + width r) + widths r, omega (arith, e), omega arith)
widths_shift (left_join_right c l) y x e = ((width l + width x) + widths l, omega (arith, e), omega arith)
widths_shift (group keys n) y x e = (width x, omega (arith, e), refl)
widths_shift distinct y x e = (width x, omega (arith, e), refl)
widths_shift (union_left made ls rs r) y x e = ((width x + width r) + widths r, omega (arith, e), omega arith)
widths_shift (union_right made ls rs l) y x e = ((width l + width x) + widths l, omega (arith, e), omega arith)
widths_shift (aggregate made) y x e = (width x, omega (arith, e), refl)
widths_shift (order keys) y x e = (width x, omega (arith, e), refl)
widths_shift (limit n k) y x e = (width x, omega (arith, e), refl)
widths_shift (check name c) y x e = (width x, omega (arith, e), refl)
widths_shift (result vars) y x e = (width x, omega (arith, e), refl)

count_shift : (a : Around) (y x : Plan) → Shifts (count_of (layer a y)) (count_of (layer a x)) (projects_and_bindings y) (projects_and_bindings x)
count_shift (assign made) y x = (length made, refl, refl)
count_shift (select c) y x = (0, omega arith, omega arith)
count_shift (project vars) y x = (1, omega arith, omega arith)
count_shift (unnest v its) y x = (0, omega arith, omega arith)
count_shift (subplan n) y x = (0, omega arith, omega arith)
count_shift (join_left c r) y x = (projects_and_bindings r, omega arith, omega arith)
count_shift (join_right c l) y x = (projects_and_bindings l, refl, refl)
count_shift (left_join_left c r) y x = (projects_and_bindings r, omega arith, omega arith)
count_shift (left_join_right c l) y x = (projects_and_bindings l, refl, refl)
count_shift (group keys n) y x = (0, omega arith, omega arith)
count_shift distinct y x = (0, omega arith, omega arith)
count_shift (union_left made ls rs r) y x = (projects_and_bindings r, omega arith, omega arith)
count_shift (union_right made ls rs l) y x = (projects_and_bindings l, refl, refl)
count_shift (aggregate made) y x = (0, omega arith, omega arith)
count_shift (order keys) y x = (0, omega arith, omega arith)
count_shift (limit n k) y x = (0, omega arith, omega arith)
count_shift (check name c) y x = (0, omega arith, omega arith)
count_shift (result vars) y x = (0, omega arith, omega arith)

-- what a rule of pruning does to the numbers of a plan
abbrev pub Prunes : Plan → Plan → Type 0
Prunes y x = Slims (widths y) (projects_and_bindings y) (widths x) (projects_and_bindings x)

pub widths_around : (a : Around) (p : Plan) → widths (around a p) ≡ widths_of (layer a p)
widths_around a p = ap widths (sym (rolls_around a p)) ∙ widths-roll (layer a p)

pub count_around : (a : Around) (p : Plan) → projects_and_bindings (around a p) ≡ count_of (layer a p)
count_around a p = ap projects_and_bindings (sym (rolls_around a p)) ∙ count-roll (layer a p)

prunes_shifted : (a : Around) (y x : Plan) → Shifts (widths_of (layer a y)) (widths_of (layer a x)) (widths y) (widths x) → Prunes y x → Prunes (around a y) (around a x)
prunes_shifted a y x (k, wy, wx) h =
    let (m, cy, cx) = count_shift a y x in
    subst (λ (w : ℕ). Slims w (projects_and_bindings (around a y)) (widths (around a x)) (projects_and_bindings (around a x))) (sym (widths_around a y ∙ wy))
    (subst (λ (c : ℕ). Slims (k + widths y) c (widths (around a x)) (projects_and_bindings (around a x))) (sym (count_around a y ∙ cy))
    (subst (λ (v : ℕ). Slims (k + widths y) (m + projects_and_bindings y) v (projects_and_bindings (around a x))) (sym (widths_around a x ∙ wx))
    (subst (λ (d : ℕ). Slims (k + widths y) (m + projects_and_bindings y) (k + widths x) d) (sym (count_around a x ∙ cx))
    (slims_shifted k m (widths y) (projects_and_bindings y) (widths x) (projects_and_bindings x) h))))

pub prunes_around : (a : Around) (y x : Plan) → width y ≡ width x → Prunes y x → Prunes (around a y) (around a x)
prunes_around a y x e h = prunes_shifted a y x (widths_shift a y x e) h

-- a project does not count its input's width, which may change
pub under_project : (vars : List Var) (y x : Plan) → Prunes y x → Prunes (P.Project vars y) (P.Project vars x)
under_project vars y x h = prunes_shifted (project vars) y x (0, refl, refl) h

same_width : (y x : Plan) → Replaces y x → width y ≡ width x
same_width y x h = omega (arith, length_permutation (live x []) (live y []) (h.refines.vars []))

-- what a rule does to the numbers of a part it does to those of the whole plan
pub prunes_at : (R : Rewriting) → IsSound R → ((x y : Plan) → Fit x → R x y → Prunes y x) → (place : List ℕ) (p q : Plan) → Fit p → Applied R place p q → Prunes q p
prunes_at R sound here place p q fit h =
    (applied_goes_up R (λ y x. Replaces y x × Prunes y x) (λ x y f r. (sound x y f r, here x y f r)) (λ a x y f k. (replaces_under a y x f k.0, prunes_around a y x (same_width y x k.0) k.1)) place p q fit h).1

-- ---- an input that is cut

abbrev pub counts_width : Around → Bool
counts_width (project vars) = false
counts_width _ = true

narrower : (a : Around) (y x : Plan) → counts_width a ≡ true → suc (width y) ≤ width x → widths y ≡ widths x → suc (widths_of (layer a y)) ≤ widths_of (layer a x)
narrower (assign made) y x t h e = omega (arith, h, e)
narrower (select c) y x t h e = omega (arith, h, e)
narrower (project vars) y x t h e = absurd (no (sym t))
narrower (unnest v its) y x t h e = omega (arith, h, e)
narrower (subplan n) y x t h e = omega (arith, h, e)
narrower (join_left c r) y x t h e = omega (arith, h, e)
narrower (join_right c l) y x t h e = omega (arith, h, e)
narrower (left_join_left c r) y x t h e = omega (arith, h, e)
narrower (left_join_right c l) y x t h e = omega (arith, h, e)
narrower (group keys n) y x t h e = omega (arith, h, e)
narrower distinct y x t h e = omega (arith, h, e)
narrower (union_left made ls rs r) y x t h e = omega (arith, h, e)
narrower (union_right made ls rs l) y x t h e = omega (arith, h, e)
narrower (aggregate made) y x t h e = omega (arith, h, e)
narrower (order keys) y x t h e = omega (arith, h, e)
narrower (limit n k) y x t h e = omega (arith, h, e)
narrower (check name c) y x t h e = omega (arith, h, e)
narrower (result vars) y x t h e = omega (arith, h, e)

fewer : (vars xs : List Var) → not (all_among vars xs) ≡ true → suc (length (filter (λ v. is_among vars v.name) xs)) ≤ length xs
fewer vars [] h = absurd (no (sym h))
fewer vars (x ∷ xs) h = go (is_among vars x.name) h (length_filter (λ (v : Var). is_among vars v.name) xs) (fewer vars xs)
  where
    go : (b : Bool) → not (b && all_among vars xs) ≡ true → length (filter (λ v. is_among vars v.name) xs) ≤ length xs → (not (all_among vars xs) ≡ true → suc (length (filter (λ v. is_among vars v.name) xs)) ≤ length xs)
        → suc (length (cond b (x ∷ filter (λ v. is_among vars v.name) xs) (filter (λ v. is_among vars v.name) xs))) ≤ suc (length xs)
    go true h few more = omega (arith, more h)
    go false h few more = omega (arith, few)

-- an operator but a project over an input that is cut has fewer variables there, and one project more
pub cut_prunes : (a : Around) (vars : List Var) (x : Plan) → counts_width a ≡ true → IsWide vars x → Prunes (around a (narrowed vars x)) (around a x)
cut_prunes a vars x t h =
    let y = narrowed vars x in
    let same : widths y ≡ widths x = omega (arith, widths_around (project (kept vars x)) x) in
    let less : suc (width y) ≤ width x = omega (arith, ap length (live-Project (kept vars x) x []), fewer vars (live x []) h) in
    let one : projects_and_bindings y ≡ suc (projects_and_bindings x) = count_around (project (kept vars x)) x in
    let (m, cy, cx) = count_shift a y x in
    inl (omega (arith, narrower a y x t less same, widths_around a y, widths_around a x), omega (arith, one, cy, cx, count_around a y, count_around a x))
