-- The partial states of aggregates, and the rows that they have seen.
use Rattle.std.specs.Prelude.{◌≡◌, List}
use Rattle.std.specs.List.{AllZip}
use Rattle.al_value.specs.declared.value.Value.{Value}
use Rattle.al_value.specs.declared.value.Value.TheVariants as V
use Rattle.al_func.specs.Rex.{eval_rex}
use Rattle.al_agg.specs.declared.part.Part.{Part}
use Rattle.al_agg.specs.Part.{Stands}
use Rattle.al_agg.specs.Part as part
use Rattle.hy_job.specs.declared.nested.AggRex.{AggRex}
use Rattle.hy_job.specs.declared.nested.AggRex.TheVariants as C
use Rattle.hy_job.specs.Columns.{Row, agg_of, agg_values}

-- the value of a row over which an aggregate is taken
abbrev pub agg_input : AggRex → Row → Value
agg_input C.CountAll row = V.Null
agg_input (C.Count e) row = eval_rex e row
agg_input (C.Sum e) row = eval_rex e row
agg_input (C.Min e) row = eval_rex e row
agg_input (C.Max e) row = eval_rex e row

-- a state of the call's aggregate, which has seen these rows
abbrev pub HasSeen : List Row → AggRex → Part → Type 0
HasSeen rows a p = (part.agg_of p ≡ agg_of a) × Stands p (agg_values a rows)

-- a state for each call, in order
abbrev pub AreStates : List AggRex → List Row → List Part → Type 0
AreStates made rows states = AllZip (HasSeen rows) made states
