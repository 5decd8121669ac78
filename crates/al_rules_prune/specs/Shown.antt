-- The numbers fall by each rule of pruning, and their set is lawful.
use Rattle.std.proofs.Common.{◌≡◌, ◌<◌, ◌≤◌, ◌⊎◌, inl, inr, ℕ, suc, Bool, true, false, cond, ◌&&◌, List, [], ◌∷◌, ◌++◌, map, length, refl, sym, subst, arith}
use Rattle.al_plan.specs.declared.expr.Var.{Var}
use Rattle.al_plan.specs.declared.expr.Expr.{Expr}
use Rattle.al_plan.specs.declared.plan.Plan.{Plan}
use Rattle.al_plan.specs.declared.plan.Plan.TheVariants as P
use Rattle.al_plan.specs.Allows.{is_among}
use Rattle.al_plan.specs.Refines.{Fit}
use Rattle.al_plan.proofs.Bools.{no}
use Rattle.al_rule.specs.Places.{Rewriting, Applied}
use Rattle.al_rule.specs.Rules.{IsLawful, IsLower}
use Rattle.al_rule.proofs.EntryLaws.{IsSound, each_at}
use Rattle.al_rule.proofs.PlaceLaws.{assign, select, project, join_left, join_right, left_join_left, left_join_right, group, aggregate, order, result}
use Rattle.al_rules_prune.specs.Prunes as rule
use Rattle.al_rules_prune.specs.Prunes.{CutsInput, all_among, assigned_over, bindings, joined, narrowed, read_by, read_by_aggregates, used_by}
use Rattle.al_rules_prune.specs.Kept.{length_filter}
use Rattle.al_rules_prune.specs.PruneSet.{prune_entries, prune_rules, prune_measure, prune_weight, widths, projects_and_bindings}
use Rattle.al_rules_prune.specs.Sound as sound
use Rattle.al_rules_prune.specs.Falls.{Prunes, Slims, slims_weight, prunes_at, cut_prunes, under_project, widths_around, count_around}

-- a rule that prunes the plan at which it stands
abbrev Thins : Rewriting → Type 0
Thins R = (x y : Plan) → Fit x → R x y → Prunes y x

same_sides : (p q x y : Plan) → p ≡ x → q ≡ y → Prunes y x → Prunes q p
same_sides p q x y at to h = subst (λ (z : Plan). Prunes z p) (sym to) (subst (Prunes y) (sym at) h)

-- ---- inputs that are cut

result_project : Thins rule.ResultProject
result_project p q fit (vars, x, at, is_wide, to) = same_sides p q (P.Result vars x) (P.Result vars (narrowed vars x)) at to (cut_prunes (result vars) vars x refl is_wide)

group_project_input : Thins rule.GroupProjectInput
group_project_input p q fit (keys, n, x, at, is_wide, to) =
    let used = map (λ k. k.1) keys ++ used_by n x in
    same_sides p q (P.Group keys n x) (P.Group keys n (narrowed used x)) at to (cut_prunes (group keys n) used x refl is_wide)

aggregate_project_input : Thins rule.AggregateProjectInput
aggregate_project_input p q fit (made, x, at, is_wide, to) = same_sides p q (P.Aggregate made x) (P.Aggregate made (narrowed (read_by_aggregates made) x)) at to (cut_prunes (aggregate made) (read_by_aggregates made) x refl is_wide)

project_below_select : Thins rule.ProjectBelowSelect
project_below_select p q fit (vars, e, x, at, is_wide, to) =
    let used = vars ++ read_by e in
    same_sides p q (P.Project vars (P.Select e x)) (P.Project vars (P.Select e (narrowed used x))) at to (under_project vars (P.Select e (narrowed used x)) (P.Select e x) (cut_prunes (select e) used x refl is_wide))

project_below_order : Thins rule.ProjectBelowOrder
project_below_order p q fit (vars, keys, x, at, is_wide, to) =
    let used = vars ++ map (λ k. k.var) keys in
    same_sides p q (P.Project vars (P.Order keys x)) (P.Project vars (P.Order keys (narrowed used x))) at to (under_project vars (P.Order keys (narrowed used x)) (P.Order keys x) (cut_prunes (order keys) used x refl is_wide))

both_inputs : (left : Bool) (c : Expr) (l r x y z w : Plan) → x ≡ z → y ≡ w → Prunes (joined left c z w) (joined left c l r) → Prunes (joined left c x y) (joined left c l r)
both_inputs left c l r x y z w e f h = subst (λ (u : Plan). Prunes (joined left c u y) (joined left c l r)) (sym e) (subst (λ (u : Plan). Prunes (joined left c z u) (joined left c l r)) (sym f) h)

cut_join : (left : Bool) (vars : List Var) (c : Expr) (l r x y : Plan) → CutsInput vars l r x y → Prunes (joined left c x y) (joined left c l r)
cut_join true vars c l r x y (inl (is_wide, e, f)) = both_inputs true c l r x y (narrowed vars l) r e f (cut_prunes (left_join_left c r) vars l refl is_wide)
cut_join true vars c l r x y (inr (narrow, is_wide, e, f)) = both_inputs true c l r x y l (narrowed vars r) e f (cut_prunes (left_join_right c l) vars r refl is_wide)
cut_join false vars c l r x y (inl (is_wide, e, f)) = both_inputs false c l r x y (narrowed vars l) r e f (cut_prunes (join_left c r) vars l refl is_wide)
cut_join false vars c l r x y (inr (narrow, is_wide, e, f)) = both_inputs false c l r x y l (narrowed vars r) e f (cut_prunes (join_right c l) vars r refl is_wide)

project_below_join : Thins rule.ProjectBelowJoin
project_below_join p q fit (vars, left, c, l, r, x, y, at, cut, to) = same_sides p q (P.Project vars (joined left c l r)) (P.Project vars (joined left c x y)) at to (under_project vars (joined left c x y) (joined left c l r) (cut_join left (vars ++ read_by c) c l r x y cut))

-- ---- projects and bindings that go

-- a project counts one, and nothing of its input's width
without_project : (vars : List Var) (p : Plan) → Prunes p (P.Project vars p)
without_project vars p = inr (omega (arith, widths_around (project vars) p), omega (arith, count_around (project vars) p))

project_over_project : Thins rule.ProjectOverProject
project_over_project p q fit (vars, inner, x, at, to) = same_sides p q (P.Project vars (P.Project inner x)) (P.Project vars x) at to (under_project vars x (P.Project inner x) (without_project inner x))

project_all : Thins rule.ProjectAll
project_all p q fit (vars, x, at, same, to) = same_sides p q (P.Project vars x) x at to (without_project vars x)

fewer_bindings : (vars : List Var) (made : List (Var × Expr)) → all_among vars (map (λ m. m.0) made) ≡ false → length (bindings vars made) < length made
fewer_bindings vars [] h = absurd (no h)
fewer_bindings vars (m ∷ made) h = go (is_among vars m.0.name) h (length_filter (λ (m : Var × Expr). is_among vars m.0.name) made) (fewer_bindings vars made)
  where
    go : (b : Bool) → (b && all_among vars (map (λ m. m.0) made)) ≡ false → length (bindings vars made) ≤ length made → (all_among vars (map (λ m. m.0) made) ≡ false → length (bindings vars made) < length made)
        → length (cond b (m ∷ bindings vars made) (bindings vars made)) < suc (length made)
    go true h few more = omega (arith, more h)
    go false h few more = omega (arith, few)

fewer_assigned : (made some : List (Var × Expr)) (p : Plan) → length some < length made → Prunes (assigned_over some p) (P.Assign made p)
fewer_assigned made [] p h = inr (omega (arith, widths_around (assign made) p), omega (arith, h, count_around (assign made) p))
fewer_assigned made (m ∷ some) p h = inr (omega (arith, widths_around (assign made) p, widths_around (assign (m ∷ some)) p), omega (arith, h, count_around (assign made) p, count_around (assign (m ∷ some)) p))

assign_under_project : Thins rule.AssignUnderProject
assign_under_project p q fit (vars, made, x, at, some, to) =
    let less = fewer_assigned made (bindings vars made) x (fewer_bindings vars made some) in
    same_sides p q (P.Project vars (P.Assign made x)) (P.Project vars (assigned_over (bindings vars made) x)) at to (under_project vars (assigned_over (bindings vars made) x) (P.Assign made x) less)

-- ---- the set

lower : (w c v d : ℕ) → Slims w c v d → IsLower (w ∷ c ∷ []) (v ∷ d ∷ [])
lower w c v d (inl h) = inl h.0
lower w c v d (inr h) = by (less w v h.0)
  where
    less : (a b : ℕ) → a ≤ b → (a < b) ⊎ (a ≡ b)
    less a b low = grind (arith, low)

    by : (w < v) ⊎ (w ≡ v) → IsLower (w ∷ c ∷ []) (v ∷ d ∷ [])
    by (inl low) = inl low
    by (inr e) = inr (e, inl h.1)

-- the measure and the weight fall wherever the rule is applied
abbrev Falls : Rewriting → Type 0
Falls R = (place : List ℕ) (p q : Plan) → Fit p → Applied R place p q → IsLower (prune_measure q) (prune_measure p) × (prune_weight q < prune_weight p)

falls_by : (R : Rewriting) → IsSound R → Thins R → Falls R
falls_by R is_sound here place p q fit applied =
    let h = prunes_at R is_sound here place p q fit applied in
    (lower (widths q) (projects_and_bindings q) (widths p) (projects_and_bindings p) h, slims_weight (widths q) (projects_and_bindings q) (widths p) (projects_and_bindings p) h)

each_falls : (k : ℕ) → k < prune_rules.count → Falls (prune_rules.rewrites k)
each_falls = each_at Falls prune_entries (
  falls_by rule.ResultProject sound.result_project result_project,
  (
    falls_by rule.ProjectOverProject sound.project_over_project project_over_project,
    (
      falls_by rule.ProjectAll sound.project_all project_all,
      (
        falls_by rule.AssignUnderProject sound.assign_under_project assign_under_project,
        (
          falls_by rule.ProjectBelowSelect sound.project_below_select project_below_select,
          (
            falls_by rule.ProjectBelowOrder sound.project_below_order project_below_order,
            (
              falls_by rule.ProjectBelowJoin sound.project_below_join project_below_join,
              (falls_by rule.GroupProjectInput sound.group_project_input group_project_input, (falls_by rule.AggregateProjectInput sound.aggregate_project_input aggregate_project_input, tt)),
            ),
          ),
        ),
      ),
    ),
  ),
)

each_sound : (k : ℕ) → k < prune_rules.count → IsSound (prune_rules.rewrites k)
each_sound = each_at IsSound prune_entries (
  sound.result_project,
  (
    sound.project_over_project,
    (
      sound.project_all,
      (
        sound.assign_under_project,
        (
          sound.project_below_select,
          (sound.project_below_order, (sound.project_below_join, (sound.group_project_input, (sound.aggregate_project_input, tt)))),
        ),
      ),
    ),
  ),
)

pub prune_lawful : IsLawful prune_rules prune_measure prune_weight
prune_lawful = record {
  sound = each_sound;
  falls = λ k low place p q fit applied. (each_falls k low place p q fit applied).0;
  lightens = λ k low place p q fit applied. (each_falls k low place p q fit applied).1;
}
