-- What comes into a task, the operator that works on it and what goes out, seen together as the parts of the task.
use Rattle.std.specs.Prelude.{◌≡◌, ◌<◌, ℕ, zero, suc, nat_eq, if◌then◌else◌, List, [], ◌∷◌, ◌++◌, map}
use Rattle.hy_rest.specs.Words.{Signal, Open, Rows, Fail, Close}
use Rattle.hy_job.specs.Settled.{Take}
use Rattle.hy_mail.specs.declared.parcel.Parcel.{Parcel}
use Rattle.hy_mail.specs.declared.parcel.Parcel.TheVariants as P
use Rattle.hy_driver.specs.Rows.{Row, values_of}
use Rattle.hy_driver.specs.Seen.{Seen}
use Rattle.hy_output.specs.declared.way.Way.{Way}
use Rattle.hy_output.specs.declared.way.Way.TheVariants as W
use Rattle.hy_output.specs.Keeper.{kept_rows}
use Rattle.hy_output.specs.Ways.{offers, places, waiting}
use Rattle.hy_output.specs.Outputs.{OutputOf, packed}
use Rattle.hy_input.specs.Inputs.{InputOf, brings}
use Rattle.hy_course.specs.Parts.{PartsOf}

pub record PipelineOf : Type 1 where
  -- by the number of the input
  pub input : ℕ → InputOf
  pub operator : Seen
  pub output : OutputOf

-- ---- parcels

-- what a parcel says, with its rows of values
abbrev pub signal_of : Parcel → Signal Row
signal_of P.Open = Open
signal_of (P.Frame f) = Rows (map values_of f.rows)
signal_of P.Fail = Fail
signal_of P.Close = Close

-- it was taken at an input, of the task of a partition
abbrev pub take_of : ℕ → ℕ → Parcel → List Take
take_of k p parcel = record { input = k; sender = p; signal = signal_of parcel } ∷ []

-- it was put for the task of a partition, and nothing was for others
abbrev pub put_for : ℕ → Parcel → ℕ → List (Signal Row)
put_for receiver parcel r = if nat_eq r receiver then signal_of parcel ∷ [] else []

-- nothing was put
abbrev pub nothing : ℕ → List (Signal Row)
nothing r = []

-- ---- what goes out

-- no two of the first places are for one receiver
abbrev pub AreApart : (ℕ → ℕ) → ℕ → Type 0
AreApart at n = (k m : ℕ) → k < n → m < n → at k ≡ at m → k ≡ m

-- what may still be put for the task of partition `r`: what may be offered in the place that is for it, and nothing where no place is
pub record OffersTo (at : ℕ → ℕ) (way : Way) (r : ℕ) (given put : List Row) : Type 0 where
  pub there : (k : ℕ) → k < places way → at k ≡ r → offers way k given put
  pub none : ((k : ℕ) → k < places way → at k ≡ r → ⊥) → put ≡ []

-- what is handed on: over a wire nothing is, and else what is kept, and then what is still given or left by the operator
abbrev pub keeps_on : Way → List Row → List Row → Type 0
keeps_on (W.Wire w) given on = on ≡ []
keeps_on (W.Kept k) given on = on ≡ kept_rows k ++ given

-- what waits for the task of partition `r`, which is in one of the first places
abbrev pub waits_in : (ℕ → ℕ) → Way → ℕ → ℕ → List (Signal Row)
waits_in at way zero r = []
waits_in at way (suc k) r = if nat_eq (at k) r then map signal_of (waiting way k) else waits_in at way k r

abbrev pub waits_for : (ℕ → ℕ) → Way → ℕ → List (Signal Row)
waits_for at way r = waits_in at way (places way) r

-- ---- the parts of a task

-- where the place `k` is for the task of partition `at k`
abbrev pub parts_of : (ℕ → ℕ) → PipelineOf → PartsOf
parts_of at p = record {
  brings = λ k. brings k (p.input k);
  works = p.operator.rest;
  packed = packed p.output;
  offers = OffersTo at p.output.way;
  keeps = keeps_on p.output.way;
}
