-- What chains make of rows, and what joined states of row-wise nested plans give.
use Rattle.std.proofs.Common.{◌≡◌, true, List, [], ◌∷◌, ◌++◌, map, flat_map, refl, ap, sym, subst, ◌∙◌}
use Rattle.std.specs.List.{AllByRecursion}
use Rattle.al_plan.proofs.Bools.{no}
use Rattle.hy_job.specs.declared.nested.AggRex.{AggRex}
use Rattle.hy_job.specs.declared.nested.NestedPlan.{NestedPlan, more_of-NestedPlan as Is, end_of-NestedPlan as At}
use Rattle.hy_job.specs.declared.nested.NestedPlan.TheVariants.{Nested, Assign', Select', Project', Unnest', Order', Distinct', Limit', Aggregate'}
use Rattle.hy_job.proofs.Chains.{chain-none, chain-append, chain_allowed}
use Rattle.al_jobgen.specs.Opens.{nested_shape, nested_hidden, row_hidden}
use Rattle.hy_job.specs.Columns.{Row, agg_of, agg_row, state_row}
use Rattle.hy_job.specs.Nested.{NAllows, is_row_wise, chain_rows, root_aggs, n_state}
use Rattle.hy_job.specs.Runs.{AreJoined}
use Rattle.al_jobgen.specs.Agree.{AreTaken, HaveValues}
use Rattle.al_jobgen.proofs.NestedStates.{joined, joined_row}

-- ---- chains

chain-joined : (n : NestedPlan) (pieces : List (List Row)) → joined (map (chain_rows n) pieces) ≡ chain_rows n (joined pieces)
chain-joined n [] = sym (chain-none n)
chain-joined n (rows ∷ pieces) = ap (λ (more : List Row). chain_rows n rows ++ more) (chain-joined n pieces) ∙ sym (chain-append n rows (joined pieces))

-- ---- aggregates over chains

module _ (made : List AggRex) (p : NestedPlan) where
  states_are : (pieces : List (List Row)) → map (λ rows. state_row made (chain_rows p rows)) pieces ≡ map (state_row made) (map (chain_rows p) pieces)
  states_are [] = refl
  states_are (rows ∷ pieces) = ap (λ (states : List Row). state_row made (chain_rows p rows) ∷ states) (states_are pieces)

  taken : (pieces : List (List Row)) → AllByRecursion (λ rows. AreTaken made (chain_rows p rows)) pieces → AllByRecursion (AreTaken made) (map (chain_rows p) pieces)
  taken [] h = tt
  taken (rows ∷ pieces) h = (h.0, taken pieces h.1)

pub states_join : (n : NestedPlan) → is_row_wise n ≡ true → (pieces : List (List Row)) → AllByRecursion (HaveValues n) pieces → (values : Row) → AreJoined (map agg_of (root_aggs n)) (map (n_state n) pieces) values → NAllows n (flat_map (λ rows. rows) pieces) (values ∷ [])
unfolding nested_shape nested_hidden row_hidden
states_join Nested e pieces valid values h = absurd (no (sym e))
states_join (Assign' made _ (Is p At)) e pieces valid values h = absurd (no (sym e))
states_join (Select' c _ (Is p At)) e pieces valid values h = absurd (no (sym e))
states_join (Project' columns _ (Is p At)) e pieces valid values h = absurd (no (sym e))
states_join (Unnest' g _ (Is p At)) e pieces valid values h = absurd (no (sym e))
states_join (Order' keys _ (Is p At)) e pieces valid values h = absurd (no (sym e))
states_join (Distinct' _ (Is p At)) e pieces valid values h = absurd (no (sym e))
states_join (Limit' n k _ (Is p At)) e pieces valid values h = absurd (no (sym e))
states_join (Aggregate' made _ (Is p At)) e pieces valid values h =
    let over = subst (λ (states : List Row). AreJoined (map agg_of made) states values) (states_are made p pieces) h in
    let row : values ≡ agg_row made (chain_rows p (joined pieces)) = joined_row made (map (chain_rows p) pieces) values (taken made p pieces valid) over ∙ ap (agg_row made) (chain-joined p pieces) in
    (chain_rows p (joined pieces), chain_allowed p (joined pieces) e, ap (λ (r : Row). r ∷ []) row)
