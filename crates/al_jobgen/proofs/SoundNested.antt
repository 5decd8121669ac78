-- Nested plans that fit are sound by column, and their rows are as wide as there are live variables.
use Rattle.std.proofs.Common.{◌≡◌, ℕ, true, List, [], ◌∷◌, length, map, refl, ap, sym, subst, ◌∙◌, arith, length-append}
use Rattle.al_plan.specs.declared.expr.Var.{Var}
use Rattle.al_plan.specs.declared.expr.Expr.{Expr}
use Rattle.al_plan.specs.declared.plan.AggCall.{AggCall}
use Rattle.al_plan.specs.declared.plan.Plan.{Plan, map-Plan, roll-Plan, more_of-Plan as Is, end_of-Plan as At}
use Rattle.al_plan.specs.declared.plan.Plan.TheOpen as L
use Rattle.al_plan.specs.declared.plan.Plan.TheVariants as P
use denote.Hole.Carrier.{roll}
use Rattle.al_plan.specs.Allows.{live, live_step}
use Rattle.al_plan.specs.Refines.{FitsEach}
use Rattle.al_plan.proofs.Bools.{no}
use Rattle.al_plan.proofs.Mono.{live_is}
use Rattle.al_jobgen.specs.Opens.{plan_shape, plan_hidden, nested_shape, nested_hidden, row_hidden}
use Rattle.al_func.specs.Rex.{IsSound}
use Rattle.hy_job.specs.Nested.{n_width}
use Rattle.hy_job.specs.Sound as sound
use Rattle.hy_job.specs.Sound.{NSound}
use Rattle.al_jobgen.specs.Columns.{nested_of, made_rexes, rex_of, columns_of, gen_rex, sort_keys, made_aggs}
use Rattle.al_jobgen.proofs.NestedOpen.{fits_at}
use Rattle.al_jobgen.proofs.SoundColumns.{length-mapped, rexes_over, rex_over, columns_below, gen_over, keys_below, aggs_over}

-- what a nested plan over rows of these variables is to keep
pub record IsWell (p : Plan) (vars : List Var) : Type 0 where
  pub each : NSound (nested_of vars p) (length vars)
  pub width : n_width (nested_of vars p) (length vars) ≡ length (live p vars)

-- an operator, by the variables that are live there
pack : (x : L.Plan-F Plan) (vars : List Var) → NSound (nested_of vars (roll-Plan x)) (length vars) → n_width (nested_of vars (roll-Plan x)) (length vars) ≡ length (live_step (map-Plan Plan (List Var → List Var) live x) vars) → IsWell (roll-Plan x) vars
pack x vars each width = record { each = each; width = width ∙ sym (ap (λ (vs : List Var). length vs) (live_is x vars)) }

-- a claim over the width of the input's rows
at : (p : Plan) (vars : List Var) → IsWell p vars → (P : ℕ → Type 0) → P (length (live p vars)) → P (n_width (nested_of vars p) (length vars))
at p vars below P h = subst P (sym below.width) h

-- a nested plan that fits
pub well : (p : Plan) (vars : List Var) → FitsEach p true vars → IsWell p vars
unfolding plan_shape plan_hidden nested_shape nested_hidden row_hidden roll-Plan roll nested_of
well (P.Scan set vs) vars fit = absurd (no (fits_at (L.Scan set vs) vars fit))
well P.Empty vars fit = absurd (no (fits_at L.Empty vars fit))
well P.Nested vars fit = pack L.Nested vars tt refl
well (P.Assign' made _ (Is p At)) vars fit =
    let fits = fits_at (L.Assign made p) vars fit in
    let below = well p vars fits.0.0 in
    let vs = live p vars in
    pack (L.Assign made p) vars (below.each, at p vars below (λ w. sound.AreSound w (made_rexes vs made)) (rexes_over vs made fits.1))
    (omega (arith, below.width, length-append vs (map (λ (m : Var × Expr). m.0) made), length-mapped (λ (m : Var × Expr). m.0) made, length-mapped (λ (m : Var × Expr). rex_of vs m.1) made))
well (P.Select' c _ (Is p At)) vars fit =
    let fits = fits_at (L.Select c p) vars fit in
    let below = well p vars fits.0.0 in
    let vs = live p vars in
    pack (L.Select c p) vars (below.each, at p vars below (λ w. IsSound w (rex_of vs c)) (rex_over vs c fits.1)) below.width
well (P.Project' kept _ (Is p At)) vars fit =
    let fits = fits_at (L.Project kept p) vars fit in
    let below = well p vars fits.0.0 in
    let vs = live p vars in
    pack (L.Project kept p) vars (below.each, at p vars below (λ w. sound.AreColumns w (columns_of vs kept)) (columns_below vs kept fits.1)) (length-mapped _ kept)
well (P.Unnest' v g _ (Is p At)) vars fit =
    let fits = fits_at (L.Unnest v g p) vars fit in
    let below = well p vars fits.0.0 in
    let vs = live p vars in
    pack (L.Unnest v g p) vars (below.each, at p vars below (λ w. sound.AreSound w (sound.item_exprs (gen_rex vs g))) (gen_over vs g fits.1))
    (omega (arith, below.width, length-append vs (v ∷ [])))
well (P.Subplan' _ (Is n At) _ (Is p At)) vars fit = absurd (no (fits_at (L.Subplan n p) vars fit).1)
well (P.Join' c _ (Is l At) _ (Is r At)) vars fit = absurd (no (fits_at (L.Join c l r) vars fit).2)
well (P.LeftJoin' c _ (Is l At) _ (Is r At)) vars fit = absurd (no (fits_at (L.LeftJoin c l r) vars fit).2)
well (P.Group' keys _ (Is n At) _ (Is p At)) vars fit = absurd (no (fits_at (L.Group keys n p) vars fit).1)
well (P.Distinct' _ (Is p At)) vars fit = let below = well p vars (fits_at (L.Distinct p) vars fit).0 in pack (L.Distinct p) vars below.each below.width
well (P.Union' made ls rs _ (Is l At) _ (Is r At)) vars fit = absurd (no (fits_at (L.Union made ls rs l r) vars fit).2)
well (P.Aggregate' made _ (Is p At)) vars fit =
    let fits = fits_at (L.Aggregate made p) vars fit in
    let below = well p vars fits.0.0 in
    let vs = live p vars in
    pack (L.Aggregate made p) vars (below.each, at p vars below (λ w. sound.AreSoundAggs w (made_aggs vs made)) (aggs_over vs made fits.1)) (length-mapped _ made ∙ sym (length-mapped (λ (m : Var × AggCall). m.0) made))
well (P.Order' keys _ (Is p At)) vars fit =
    let fits = fits_at (L.Order keys p) vars fit in
    let below = well p vars fits.0.0 in
    let vs = live p vars in
    pack (L.Order keys p) vars (below.each, at p vars below (λ w. sound.AreKeys w (sort_keys vs keys)) (keys_below vs keys fits.1)) below.width
well (P.Limit' n k _ (Is p At)) vars fit = let below = well p vars (fits_at (L.Limit n k p) vars fit).0 in pack (L.Limit n k p) vars below.each below.width
well (P.Check' own c _ (Is p At)) vars fit = absurd (no (fits_at (L.Check own c p) vars fit).1)
well (P.Result' vs _ (Is p At)) vars fit = absurd (no (fits_at (L.Result vs p) vars fit).1)
