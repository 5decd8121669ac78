-- The partial states that rows of fields of such states are joined to.
use Rattle.std.specs.Prelude.{◌≡◌, List, [], ◌∷◌, map, take, drop}
use Rattle.std.specs.List.{AllZip, flat_map}
use Rattle.al_value.specs.declared.value.Value.{Value}
use Rattle.al_agg.specs.declared.agg.Agg.{Agg}
use Rattle.al_agg.specs.declared.part.Part.{Part}
use Rattle.al_agg.specs.Part.{Stands, agg_of, width}
use Rattle.hy_job.specs.Columns.{Row}
use Rattle.hy_job.specs.Runs.{StandFor}

-- a state of the aggregate, which stands for the values of all lists for which these fields stand, and there are such lists
pub record HasJoined (a : Agg) (fields : List (List Value)) (p : Part) : Type 0 where
  pub kind : agg_of p ≡ a
  pub some : (lists : List (List Value)) × AllZip (StandFor a) fields lists
  pub each : (lists : List (List Value)) → AllZip (StandFor a) fields lists → Stands p (flat_map (λ vs. vs) lists)

-- a state for each aggregate, in order, of rows that each have the fields of one aggregate after those of the other
abbrev pub HaveJoined : List Agg → List Row → List Part → Type 0
HaveJoined [] rows [] = Unit {0}
HaveJoined (a ∷ made) rows (p ∷ states) = HasJoined a (map (take (width a)) rows) p × HaveJoined made (map (drop (width a)) rows) states
HaveJoined _ rows _ = ⊥
