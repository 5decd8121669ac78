-- What the steps of a run read is there, and what they give.
use Rattle.std.proofs.Common.{◌≡◌, ◌<◌, ◌+◌, ℕ, true, List, [], ◌∷◌, ◌++◌, length, get_or, take, ap, sym, subst, ◌∙◌}
use Rattle.std.specs.List.{All}
use Rattle.al_func.specs.declared.rex.Rex.{Rex}
use Rattle.al_func.specs.Rex.{IsSound}
use Rattle.hy_job.specs.declared.nested.AggRex.{AggRex}
use Rattle.hy_job.specs.declared.nested.GenRex.{GenRex}
use Rattle.hy_job.specs.declared.nested.NestedPlan.{NestedPlan}
use Rattle.hy_job.specs.declared.nested.NestedPlan.TheVariants as P
use Rattle.hy_job.specs.Columns.{Row}
use Rattle.hy_job.specs.Nested.{NAllows, n_width, is_chain, chain_rows}
use Rattle.hy_job.specs.Sound.{NSound, AreSound, AreSoundAggs, item_exprs}
use Rattle.hy_job.proofs.Chains.{chain-append, each_allowed, each_made, wide_at}
use Rattle.hy_job.proofs.RowLaws.{upto}
use Rattle.hy_nested.specs.Fitting.{AggregatesFit, Fits}
use Rattle.hy_nested.specs.Opens.{nested_shape, nested_hidden, row_hidden}

-- ---- chains

-- what the chain makes of the rows up to the one at hand, and with it
pub chain_upto : (chain : NestedPlan) (outer : List Row) (i : ℕ) (row : Row) (made : List Row) → i < length outer → row ≡ get_or outer i row → made ≡ chain_rows chain (row ∷ []) → chain_rows chain (take i outer) ++ made ≡ chain_rows chain (take (i + 1) outer)
chain_upto chain outer i row made low at is =
    ap (λ (rows : List Row). chain_rows chain (take i outer) ++ rows) is ∙ sym (chain-append chain (take i outer) (row ∷ [])) ∙ ap (chain_rows chain) (upto outer i row low at)

-- the aggregates read what the chain makes of one row
pub made_fit : (made : List AggRex) (chain : NestedPlan) (outer : List Row) (i : ℕ) (row : Row) (rows : List Row) → AggregatesFit made chain outer → is_chain chain ≡ true → i < length outer → row ≡ get_or outer i row → rows ≡ chain_rows chain (row ∷ []) → All (λ r. AreSoundAggs (length r) made) rows
made_fit made chain outer i row rows fits shape low at is =
    each_made (λ w. AreSoundAggs w made) chain row rows shape is (subst (λ w. AreSoundAggs (n_width chain w) made) (sym (wide_at fits.0 outer i row low at fits.1)) fits.2.1)

-- ---- what an operator reads of the rows that its input allows

module _ (plan p : NestedPlan) (outer rows : List Row) (fits : Fits plan outer) (allowed : NAllows p outer rows) where
  pub assign_reads : (made : List Rex) → plan ≡ P.Assign made p → All (λ r. AreSound (length r) made) rows
  unfolding nested_shape nested_hidden row_hidden
  assign_reads made e = each_allowed (λ w. AreSound w made) p fits.0 outer rows fits.1 allowed (subst (λ n. NSound n fits.0) e fits.2).1

  pub select_reads : (c : Rex) → plan ≡ P.Select c p → All (λ r. IsSound (length r) c) rows
  unfolding nested_shape nested_hidden row_hidden
  select_reads c e = each_allowed (λ w. IsSound w c) p fits.0 outer rows fits.1 allowed (subst (λ n. NSound n fits.0) e fits.2).1

  pub unnest_reads : (g : GenRex) → plan ≡ P.Unnest g p → All (λ r. AreSound (length r) (item_exprs g)) rows
  unfolding nested_shape nested_hidden row_hidden
  unnest_reads g e = each_allowed (λ w. AreSound w (item_exprs g)) p fits.0 outer rows fits.1 allowed (subst (λ n. NSound n fits.0) e fits.2).1

  pub aggregate_reads : (made : List AggRex) → plan ≡ P.Aggregate made p → All (λ r. AreSoundAggs (length r) made) rows
  unfolding nested_shape nested_hidden row_hidden
  aggregate_reads made e = each_allowed (λ w. AreSoundAggs w made) p fits.0 outer rows fits.1 allowed (subst (λ n. NSound n fits.0) e fits.2).1

-- the same of aggregates at the root
pub root_reads : (made : List AggRex) (p : NestedPlan) (outer rows : List Row) → AggregatesFit made p outer → NAllows p outer rows → All (λ r. AreSoundAggs (length r) made) rows
root_reads made p outer rows fits allowed = each_allowed (λ w. AreSoundAggs w made) p fits.0 outer rows fits.1 allowed fits.2.1
