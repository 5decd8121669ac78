-- Row-wise nested plans.
use Rattle.std.proofs.Common.{◌≡◌, Bool, true, List, ap, sym, ◌∙◌}
use Rattle.al_plan.specs.declared.expr.Var.{Var}
use Rattle.al_plan.specs.declared.plan.Plan.{Plan, map-Plan, roll-Plan, out-roll-Plan, fold-roll-Plan, more_of-Plan as Is, end_of-Plan as At}
use Rattle.al_plan.specs.declared.plan.Plan.TheOpen as L
use Rattle.al_plan.specs.declared.plan.Plan.TheVariants as P
use denote.Hole.Carrier.{roll}
use Rattle.al_plan.specs.Refines.{FitsEach}
use Rattle.al_plan.proofs.Bools.{no}
use Rattle.al_phys.specs.Placed.{is_chain, row_wise_step, is_row_wise, row_wise_root}
use Rattle.al_jobgen.specs.Opens.{plan_shape, plan_hidden, nested_shape, nested_hidden, row_hidden}
use Rattle.hy_job.specs.Nested as H
use Rattle.al_jobgen.specs.Columns.{nested_of}
use Rattle.al_jobgen.proofs.NestedOpen.{fits_at}

chain-roll : (x : L.Plan-F Plan) → is_chain (roll-Plan x) ≡ row_wise_step (map-Plan Plan Bool is_chain x)
unfolding is_chain
chain-roll x = fold-roll-Plan Bool row_wise_step x

pub chain_same : (p : Plan) (vars : List Var) → FitsEach p true vars → H.is_chain (nested_of vars p) ≡ is_chain p
unfolding plan_shape plan_hidden nested_shape nested_hidden row_hidden roll-Plan roll nested_of
chain_same (P.Scan set vs) vars fit = absurd (no (fits_at (L.Scan set vs) vars fit))
chain_same P.Empty vars fit = absurd (no (fits_at L.Empty vars fit))
chain_same P.Nested vars fit = sym (chain-roll L.Nested)
chain_same (P.Assign' made _ (Is p At)) vars fit = chain_same p vars (fits_at (L.Assign made p) vars fit).0.0 ∙ sym (chain-roll (L.Assign made p))
chain_same (P.Select' c _ (Is p At)) vars fit = chain_same p vars (fits_at (L.Select c p) vars fit).0.0 ∙ sym (chain-roll (L.Select c p))
chain_same (P.Project' vs _ (Is p At)) vars fit = chain_same p vars (fits_at (L.Project vs p) vars fit).0.0 ∙ sym (chain-roll (L.Project vs p))
chain_same (P.Unnest' v g _ (Is p At)) vars fit = chain_same p vars (fits_at (L.Unnest v g p) vars fit).0.0 ∙ sym (chain-roll (L.Unnest v g p))
chain_same (P.Subplan' _ (Is n At) _ (Is p At)) vars fit = absurd (no (fits_at (L.Subplan n p) vars fit).1)
chain_same (P.Join' c _ (Is l At) _ (Is r At)) vars fit = absurd (no (fits_at (L.Join c l r) vars fit).2)
chain_same (P.LeftJoin' c _ (Is l At) _ (Is r At)) vars fit = absurd (no (fits_at (L.LeftJoin c l r) vars fit).2)
chain_same (P.Group' keys _ (Is n At) _ (Is p At)) vars fit = absurd (no (fits_at (L.Group keys n p) vars fit).1)
chain_same (P.Distinct' _ (Is p At)) vars fit = sym (chain-roll (L.Distinct p))
chain_same (P.Union' made ls rs _ (Is l At) _ (Is r At)) vars fit = absurd (no (fits_at (L.Union made ls rs l r) vars fit).2)
chain_same (P.Aggregate' made _ (Is p At)) vars fit = sym (chain-roll (L.Aggregate made p))
chain_same (P.Order' keys _ (Is p At)) vars fit = sym (chain-roll (L.Order keys p))
chain_same (P.Limit' m k _ (Is p At)) vars fit = sym (chain-roll (L.Limit m k p))
chain_same (P.Check' name c _ (Is p At)) vars fit = absurd (no (fits_at (L.Check name c p) vars fit).1)
chain_same (P.Result' vs _ (Is p At)) vars fit = absurd (no (fits_at (L.Result vs p) vars fit).1)

-- ---- aggregates over chains

row_wise-roll : (x : L.Plan-F Plan) → is_row_wise (roll-Plan x) ≡ row_wise_root x
unfolding is_row_wise
row_wise-roll x = ap row_wise_root (out-roll-Plan x)

pub row_wise_same : (p : Plan) (vars : List Var) → FitsEach p true vars → H.is_row_wise (nested_of vars p) ≡ is_row_wise p
unfolding plan_shape plan_hidden nested_shape nested_hidden row_hidden roll-Plan roll nested_of
row_wise_same (P.Scan set vs) vars fit = sym (row_wise-roll (L.Scan set vs))
row_wise_same P.Empty vars fit = sym (row_wise-roll L.Empty)
row_wise_same P.Nested vars fit = sym (row_wise-roll L.Nested)
row_wise_same (P.Assign' made _ (Is p At)) vars fit = sym (row_wise-roll (L.Assign made p))
row_wise_same (P.Select' c _ (Is p At)) vars fit = sym (row_wise-roll (L.Select c p))
row_wise_same (P.Project' vs _ (Is p At)) vars fit = sym (row_wise-roll (L.Project vs p))
row_wise_same (P.Unnest' v g _ (Is p At)) vars fit = sym (row_wise-roll (L.Unnest v g p))
row_wise_same (P.Subplan' _ (Is n At) _ (Is p At)) vars fit = sym (row_wise-roll (L.Subplan n p))
row_wise_same (P.Join' c _ (Is l At) _ (Is r At)) vars fit = sym (row_wise-roll (L.Join c l r))
row_wise_same (P.LeftJoin' c _ (Is l At) _ (Is r At)) vars fit = sym (row_wise-roll (L.LeftJoin c l r))
row_wise_same (P.Group' keys _ (Is n At) _ (Is p At)) vars fit = sym (row_wise-roll (L.Group keys n p))
row_wise_same (P.Distinct' _ (Is p At)) vars fit = sym (row_wise-roll (L.Distinct p))
row_wise_same (P.Union' made ls rs _ (Is l At) _ (Is r At)) vars fit = sym (row_wise-roll (L.Union made ls rs l r))
row_wise_same (P.Aggregate' made _ (Is p At)) vars fit = chain_same p vars (fits_at (L.Aggregate made p) vars fit).0.0 ∙ sym (row_wise-roll (L.Aggregate made p))
row_wise_same (P.Order' keys _ (Is p At)) vars fit = sym (row_wise-roll (L.Order keys p))
row_wise_same (P.Limit' m k _ (Is p At)) vars fit = sym (row_wise-roll (L.Limit m k p))
row_wise_same (P.Check' name c _ (Is p At)) vars fit = sym (row_wise-roll (L.Check name c p))
row_wise_same (P.Result' vs _ (Is p At)) vars fit = sym (row_wise-roll (L.Result vs p))
