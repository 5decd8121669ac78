-- What joined states have seen of the rows that were handed on.
use Rattle.std.specs.Prelude.{◌≡◌, List, [], ◌∷◌, map, take, drop, length}
use Rattle.std.specs.List.{AllZip, flat_map}
use Rattle.al_value.specs.declared.value.Value.{Value}
use Rattle.al_agg.specs.declared.agg.Agg.{Agg}
use Rattle.al_agg.specs.declared.part.Part.{Part}
use Rattle.al_agg.specs.Part.{Stands, width}
use Rattle.al_agg.specs.Part as part
use Rattle.hy_job.specs.declared.job.GroupArg.{GroupArg}
use Rattle.hy_job.specs.Columns.{Row, agg_of}
use Rattle.hy_job.specs.Runs.{StandFor}
use Rattle.hy_group.specs.Fresh.{aggs_of}

-- a state of the aggregate, for the values of lists for which these fields stand
pub record HasJoined (a : Agg) (fields : List (List Value)) (p : Part) : Type 0 where
  pub kind : part.agg_of p ≡ a
  pub lists : List (List Value)
  pub each : AllZip (StandFor a) fields lists
  pub stands : Stands p (flat_map (λ vs. vs) lists)

-- a state for each aggregate; of each row the fields of one stand behind those of the other
abbrev pub HaveJoined : List Agg → List Row → List Part → Type 0
HaveJoined [] rows [] = Unit {0}
HaveJoined [] rows (p ∷ states) = ⊥
HaveJoined (a ∷ aggs) rows [] = ⊥
HaveJoined (a ∷ aggs) rows (p ∷ states) = HasJoined a (map (take (width a)) rows) p × HaveJoined aggs (map (drop (width a)) rows) states

-- the aggregates of a group
abbrev pub kinds_of : GroupArg → List Agg
kinds_of arg = map agg_of (aggs_of arg.nested)

-- the fields of a row that was handed on, which stand behind the key
abbrev pub fields_in : GroupArg → List Row → List Row
fields_in arg rows = map (drop (length arg.keys)) rows

abbrev pub handed_sees : GroupArg → List Row → List Part → Type 0
handed_sees arg rows states = HaveJoined (kinds_of arg) (fields_in arg rows) states

-- which aggregates states are of
abbrev pub kinds : List Part → List Agg
kinds states = map part.agg_of states
