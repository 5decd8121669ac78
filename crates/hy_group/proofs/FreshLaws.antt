-- What states see of a row that is added to a group as it comes.
use Rattle.std.proofs.Common.{◌≡◌, true, List, [], ◌∷◌, ◌++◌, length, sym, subst, ◌∙◌}
use Rattle.std.specs.List.{All}
use Rattle.al_agg.specs.declared.part.Part.{Part}
use Rattle.hy_job.specs.declared.nested.AggRex.{AggRex}
use Rattle.hy_job.specs.declared.nested.NestedPlan.{NestedPlan}
use Rattle.hy_job.specs.Columns.{Row}
use Rattle.hy_job.specs.declared.nested.NestedPlan.TheVariants as P
use Rattle.hy_job.specs.Nested.{chain_rows, is_chain, n_width, root_aggs}
use Rattle.hy_job.specs.Sound.{AreSoundAggs}
use Rattle.hy_job.specs.States.{AreStates}
use Rattle.hy_job.proofs.Chains.{chain-append, chain-none, each_made}
use Rattle.hy_job.proofs.StateLaws.{states_length}
use Rattle.hy_group.specs.Fresh.{chain_of}
use Rattle.hy_group.specs.Groups.{SeenMore}
use Rattle.hy_group.specs.Opens.{nested_shape, nested_hidden, row_hidden}

pub none_seen : (made : List AggRex) (chain : NestedPlan) (states : List Part) → AreStates made [] states → AreStates made (chain_rows chain []) states
none_seen made chain states h = subst (λ (rows : List Row). AreStates made rows states) (sym (chain-none chain)) h

pub as_many_states : (made : List AggRex) (states : List Part) → AreStates made [] states → length states ≡ length made
as_many_states made states h = states_length made [] states h

pub chain_fits : (made : List AggRex) (chain : NestedPlan) (row : Row) (rows slice : List Row) → slice ≡ rows → is_chain chain ≡ true → rows ≡ chain_rows chain (row ∷ []) → AreSoundAggs (n_width chain (length row)) made
    → All (λ r. AreSoundAggs (length r) made) slice
chain_fits made chain row rows slice same shape is reads = each_made (λ w. AreSoundAggs w made) chain row slice shape (same ∙ is) reads

pub chain_seen : (made : List AggRex) (chain : NestedPlan) (row : Row) (rows slice : List Row) (old new : List Part) → slice ≡ rows → rows ≡ chain_rows chain (row ∷ []) → length new ≡ length made
    → ((seen : List Row) → AreStates made seen old → AreStates made (seen ++ slice) new) → SeenMore (λ rows. AreStates made (chain_rows chain rows)) (λ states. length states ≡ length made) row old new
chain_seen made chain row rows slice old new same is after adds = record {
  more = λ seen h. subst (λ (rows : List Row). AreStates made rows new)
      ((λ i. chain_rows chain seen ++ (same ∙ is) i) ∙ sym (chain-append chain seen (row ∷ []))) (adds (chain_rows chain seen) h);
  fit = after;
}

-- of a plan with these aggregates at its root
pub nested_seen : (plan chain : NestedPlan) (made : List AggRex) (row : Row) (old new : List Part) → plan ≡ P.Aggregate made chain → SeenMore (λ rows. AreStates made (chain_rows chain rows)) (λ states. length states ≡ length made) row old new
    → SeenMore (λ rows. AreStates (root_aggs plan) (chain_of plan rows)) (λ states. length states ≡ length (root_aggs plan)) row old new
unfolding nested_shape nested_hidden row_hidden
nested_seen plan chain made row old new is h = subst (λ n. SeenMore (λ rows. AreStates (root_aggs n) (chain_of n rows)) (λ states. length states ≡ length (root_aggs n)) row old new) (sym is) h

pub ruleset fresh_laws = (none_seen, as_many_states, chain_fits, chain_seen)
