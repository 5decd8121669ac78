-- The rows of a check that are still to be tested: those at hand, and those that its operator holds.
use Rattle.std.specs.Prelude.{◌≡◌, ℕ, Option, Some, None, List, [], ◌++◌, map, flat_map}
use Rattle.std.specs.List.{range_with_len}
use Rattle.std.specs.List.Sorted.{IsPermutation}
use Rattle.hy_job.specs.declared.job.Activity.{Activity}
use Rattle.hy_job.specs.declared.job.Kind.{Kind}
use Rattle.hy_job.specs.declared.job.Kind.TheVariants as K
use Rattle.hy_job.specs.Columns.{holds}
use Rattle.hy_job.specs.Runs.{Taken as TakenRow, rows_at}
use Rattle.hy_job.specs.Settled.{IsPassed, taken_rows}
use Rattle.hy_mail.specs.declared.parcel.Parcel.{Parcel}
use Rattle.hy_driver.specs.Rows.{Row, values_of}
use Rattle.hy_driver.specs.Seen.{Check}
use Rattle.hy_connect.specs.Sources.{hand as hand_of}
use Rattle.hy_connect.specs.Merges.{senders, source}
use Rattle.hy_input.specs.declared.taker.Taker.{Taker}
use Rattle.hy_input.specs.declared.taker.Taker.TheVariants as T
use Rattle.hy_input.specs.Inputs.{InputOf, brings, hand}
use Rattle.hy_course.specs.Task.{IsCheck}
use Rattle.hy_pipeline.specs.Pipeline.{PipelineOf, take_of}
use Rattle.hy_pipeline.specs.Laws.{Comes, EndsInput, FeedsRow, TurnsOnce}

-- ---- rows at hand

abbrev pub hands_by : Taker → List Row → List Row
hands_by (T.One t) hand = hand
hands_by (T.Many t) hand = hand
hands_by (T.Merge m) hand = flat_map (λ s. map values_of (hand_of (source m s))) (range_with_len 0 (senders m))

-- of a merge, those of each sender
abbrev pub at_hand : InputOf → List Row
at_hand x = hands_by x.taker (map values_of (hand x))

-- what an input brings are the rows at hand and those that come, in some order
abbrev pub BroughtAreRows : Type 0
BroughtAreRows = (k : ℕ) (x : InputOf) (took : List TakenRow) (rows : List Row) → brings k x took rows → IsPermutation (at_hand x ++ rows_at k took) rows

-- ---- rows to be tested

abbrev pub check_of : Kind → Option Check
check_of (K.Check name c) = Some (name, holds c)
check_of _ = None

abbrev pub untested_of : PipelineOf → List Row
untested_of p = p.operator.untested ++ at_hand (p.input 0)

-- of these rows those worked on passed, and the others are still to be tested
abbrev pub PassSome : Activity → List Row → List Row → Type 0
PassSome a before after = IsCheck a.kind → (worked : List Row) × IsPermutation before (worked ++ after) × IsPassed a.kind worked

-- it brings something, where nothing more comes
abbrev pub BringsNow : PipelineOf → Type 0
BringsNow p = (rows : List Row) × brings 0 (p.input 0) [] rows

abbrev pub FedAreTested : PipelineOf → PipelineOf → Type 0
FedAreTested old new = (a : Activity) (row : Row) → old.operator.fixed.check ≡ check_of a.kind → BringsNow new → FeedsRow 0 row old new
    → PassSome a (untested_of old ++ []) (untested_of new)

abbrev pub EndedAreTested : PipelineOf → PipelineOf → Type 0
EndedAreTested old new = (a : Activity) → old.operator.fixed.check ≡ check_of a.kind → BringsNow new → EndsInput 0 old new → PassSome a (untested_of old ++ []) (untested_of new)

abbrev pub TurnedAreTested : PipelineOf → PipelineOf → Type 0
TurnedAreTested old new = (a : Activity) (rows : List Row) → old.operator.fixed.check ≡ check_of a.kind → TurnsOnce rows old new → PassSome a (untested_of old ++ []) (untested_of new)

abbrev pub ComeAreUntested : PipelineOf → PipelineOf → Type 0
ComeAreUntested old new = (a : Activity) (p : ℕ) (parcel : Parcel) → new.operator.untested ≡ old.operator.untested → BringsNow new → Comes 0 p parcel old new
    → PassSome a (untested_of old ++ rows_at 0 (taken_rows (take_of 0 p parcel))) (untested_of new)
