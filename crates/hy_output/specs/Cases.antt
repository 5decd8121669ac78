-- Small outputs, and what their calls may do and may not.
use Rattle.std.specs.Prelude.{List, [], ◌∷◌, Some, None}
use Rattle.hy_frame.specs.Frame.{FrameOf}
use Rattle.hy_frame.specs.Row.{Fields}
use Rattle.hy_frame.specs.declared.writer.WriterState.{WriterState}
use Rattle.hy_frame.specs.declared.writer.WriterState.TheVariants.{Opened, Failed}
use Rattle.hy_mail.specs.declared.parcel.Parcel.{Parcel}
use Rattle.hy_mail.specs.declared.parcel.Parcel.TheVariants as P
use Rattle.hy_driver.specs.Rows.{values_of}
use Rattle.hy_connect.specs.declared.route.Route.TheVariants as R
use Rattle.hy_connect.specs.Outlets.{OutletOf}
use Rattle.hy_output.specs.declared.way.Way.{Way}
use Rattle.hy_output.specs.declared.way.Way.TheVariants as W
use Rattle.hy_output.specs.Ways.{Fails, Sends}
use Rattle.hy_output.specs.Outputs.{OutputOf, Packs, Spoils, output_of}

-- the rows NULL, FALSE and TRUE
abbrev pub null : Fields
null = (0 ∷ []) ∷ []

abbrev pub no : Fields
no = (1 ∷ []) ∷ []

abbrev pub yes : Fields
yes = (2 ∷ []) ∷ []

abbrev pub frame : List Fields → FrameOf
frame rows = record { arity = 1; unit = 256; size = 256; rows = rows }

-- a keeper of these frames
abbrev pub keeping : List FrameOf → Way
keeping frames = W.Kept (record { frames = frames; state = Opened })

-- one receiver, for whom these parcels wait
abbrev pub one_waits : List Parcel → List OutletOf
one_waits waits = record { mailbox = 3; filling = None; waits = waits; spare = 9 } ∷ []

abbrev pub writing : List Parcel → WriterState → Way
writing waits state = W.Wire (record { route = R.Whole; arity = 1; unit = 256; outlets = one_waits waits; state = state })

-- an output in which these rows are packed
abbrev pub packing : List Fields → Way → OutputOf
packing rows way = output_of 1 256 (Some (frame rows)) way

-- a frame joins the others at the end
abbrev pub FramesAreKeptInOrder : Type 0
FramesAreKeptInOrder = Sends (keeping (frame (null ∷ []) ∷ [])) (values_of no ∷ []) (keeping (frame (null ∷ []) ∷ frame (no ∷ []) ∷ []))
    × (Sends (keeping (frame (null ∷ []) ∷ [])) (values_of no ∷ []) (keeping (frame (no ∷ []) ∷ frame (null ∷ []) ∷ [])) → ⊥)

-- a row joins those that are packed at their end, and none of them is lost
abbrev pub RowsArePackedInOrder : Type 0
RowsArePackedInOrder = Packs (packing (null ∷ []) (keeping [])) (values_of no ∷ []) (packing (null ∷ no ∷ []) (keeping []))
    × (Packs (packing (null ∷ []) (keeping [])) (values_of no ∷ []) (packing (no ∷ null ∷ []) (keeping [])) → ⊥)
    × (Packs (packing (null ∷ []) (keeping [])) (values_of no ∷ []) (packing (no ∷ []) (keeping [])) → ⊥)

-- where the frame has no room it goes on first
abbrev pub FullFramesGoOn : Type 0
FullFramesGoOn = Packs (packing (null ∷ no ∷ []) (keeping [])) (values_of yes ∷ []) (packing (yes ∷ []) (keeping (frame (null ∷ no ∷ []) ∷ [])))

-- rows that could not go on are lost with all that come behind them: what waits then may be what waited, and not a later row
abbrev pub FrontsAreLeft : Type 0
FrontsAreLeft = Spoils (packing (no ∷ []) (writing (P.Frame (frame (null ∷ [])) ∷ []) Opened)) (values_of yes ∷ []) (output_of 1 256 None (writing (P.Frame (frame (null ∷ [])) ∷ []) Opened))
    × (Spoils (packing (no ∷ []) (writing [] Opened)) (values_of yes ∷ []) (output_of 1 256 None (writing (P.Frame (frame (yes ∷ [])) ∷ []) Opened)) → ⊥)

-- who fails tells so behind what waits
abbrev pub FailComesBehind : Type 0
FailComesBehind = Fails (writing (P.Open ∷ []) Opened) (writing (P.Open ∷ P.Fail ∷ []) Failed)
    × (Fails (writing (P.Open ∷ []) Opened) (writing (P.Fail ∷ P.Open ∷ []) Failed) → ⊥)
    × (Fails (writing (P.Open ∷ []) Opened) (writing (P.Open ∷ P.Close ∷ []) Failed) → ⊥)
