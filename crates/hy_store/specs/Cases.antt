-- Worked cases of what calls make of runs, and of rows as fields.
use Rattle.std.specs.Prelude.{◌≡◌, ◌≢◌, ◌-◌, ◌^◌, ℕ, ℤ, pos, true, List, [], ◌∷◌, length, Option, Some, None}
use Rattle.al_value.specs.declared.value.Value.TheVariants as V
use Rattle.hy_frame.specs.Frame.{FrameOf}
use Rattle.hy_store.specs.Fields.{fields_of}
use Rattle.hy_store.specs.Runs.{RunsOf, ShelfOf, IsLive, AreNew, HaveShape, IsFrameAt, Created, Grown, Removed, TakenBack, Added}
use Rattle.hy_store.specs.Slots.{live_from, runs_of}

-- frames of one NULL, and of two
abbrev pub one : FrameOf
one = record { arity = 1; unit = 256; size = 256; rows = ((0 ∷ []) ∷ []) ∷ [] }

abbrev pub two : FrameOf
two = record { arity = 1; unit = 256; size = 256; rows = ((0 ∷ []) ∷ []) ∷ ((0 ∷ []) ∷ []) ∷ [] }

-- runs whose frames are told
abbrev pub told : List (Option (List FrameOf)) → RunsOf
told slots = runs_of length (Some (λ frames. frames)) slots

-- the same where they are not
abbrev pub untold : List (Option (List FrameOf)) → RunsOf
untold slots = runs_of length None slots

-- run 0 has one frame, and run 1 two
abbrev pub first : List FrameOf
first = one ∷ []

abbrev pub second : List FrameOf
second = two ∷ one ∷ []

abbrev pub both : RunsOf
both = told (Some first ∷ Some second ∷ [])

-- of three runs that were made the second was removed
abbrev pub NumbersStay : Type 0
NumbersStay = live_from 0 (Some first ∷ None ∷ Some second ∷ []) ≡ 0 ∷ 2 ∷ []

-- a run is made behind the others, without frames
abbrev pub MadeLast : Type 0
MadeLast = Created 2 both (told (Some first ∷ Some second ∷ Some [] ∷ []))

abbrev pub NotMadeWithFrames : Type 0
NotMadeWithFrames = ¬ Created 2 both (told (Some first ∷ Some second ∷ Some first ∷ []))

-- no number is given again, whether its run is live or not
abbrev pub NotMadeAgain : Type 0
NotMadeAgain = ¬ Created 0 (told (None ∷ Some second ∷ [])) (told (Some [] ∷ Some second ∷ []))

-- a frame goes to a run's end
abbrev pub GrownAtItsEnd : Type 0
GrownAtItsEnd = Grown 1 two both (told (Some first ∷ Some (two ∷ one ∷ two ∷ []) ∷ []))

abbrev pub NotGrownInFront : Type 0
NotGrownInFront = ¬ Grown 1 two both (told (Some first ∷ Some (two ∷ two ∷ one ∷ []) ∷ []))

abbrev pub OthersDontGrow : Type 0
OthersDontGrow = ¬ Grown 1 two both (told (Some (one ∷ two ∷ []) ∷ Some (two ∷ one ∷ two ∷ []) ∷ []))

abbrev pub OthersKeepTheirs : Type 0
OthersKeepTheirs = ¬ Grown 1 two both (told (Some (two ∷ []) ∷ Some (two ∷ one ∷ two ∷ []) ∷ []))

-- where no frames are told, how many there are is
abbrev pub CountsAreKnown : Type 0
CountsAreKnown = ¬ Grown 1 two (untold (Some first ∷ Some second ∷ [])) (untold (Some first ∷ Some second ∷ []))

-- and what is told isn't kept back
abbrev pub TellsOn : Type 0
TellsOn = ¬ Grown 1 two both (untold (Some first ∷ Some (two ∷ one ∷ two ∷ []) ∷ []))

-- one run is removed, and no other
abbrev pub OneIsRemoved : Type 0
OneIsRemoved = Removed 0 both (told (None ∷ Some second ∷ []))

abbrev pub NotAllRemoved : Type 0
NotAllRemoved = ¬ Removed 0 both (told (None ∷ None ∷ []))

abbrev pub NoneIsRemoved : Type 0
NoneIsRemoved = ¬ Removed 0 both both

-- places count from 0
abbrev pub PlaceIsFound : Type 0
PlaceIsFound = IsFrameAt both 1 1 one

abbrev pub NotThePlaceBefore : Type 0
NotThePlaceBefore = ¬ IsFrameAt both 1 0 one

abbrev pub NotAnotherRun : Type 0
NotAnotherRun = ¬ IsFrameAt both 0 0 two

-- what frames a run has room for
abbrev pub OneShape : Type 0
OneShape = HaveShape both 1 1 256 × (¬ HaveShape both 1 2 256) × (¬ HaveShape both 1 1 512)

-- a shelf before and after a store with these two runs was taken back
abbrev pub before : ShelfOf
before = record { live = 3; held = Some (first ∷ first ∷ first ∷ []); made = 7; out = 2 }

abbrev pub TakenWithItsRuns : Type 0
TakenWithItsRuns =
    TakenBack both before (record { live = 5; held = Some (first ∷ first ∷ first ∷ first ∷ second ∷ []); made = 9; out = 1 })

abbrev pub RunsAreNotDropped : Type 0
RunsAreNotDropped = ¬ TakenBack both before (record { live = 3; held = Some (first ∷ first ∷ first ∷ []); made = 9; out = 1 })

abbrev pub FramesAreNotDropped : Type 0
FramesAreNotDropped =
    ¬ TakenBack both before (record { live = 5; held = Some (first ∷ first ∷ first ∷ [] ∷ [] ∷ []); made = 9; out = 1 })

abbrev pub MadeAddsUp : Type 0
MadeAddsUp =
    ¬ TakenBack both before (record { live = 5; held = Some (first ∷ first ∷ first ∷ first ∷ second ∷ []); made = 8; out = 1 })

-- a count stands still at its end
abbrev pub CountsStop : Type 0
CountsStop = Added 3 (2 ^ 64 - 2) (2 ^ 64 - 1) × Added 0 (2 ^ 64 - 1) (2 ^ 64 - 1) × (¬ Added 3 5 7) × (¬ Added 0 5 6)

-- a row of an int, NULL, a text and a BOOL
abbrev pub RowAsFields : Type 0
RowAsFields =
    fields_of (V.Int (pos 1) ∷ V.Null ∷ V.Text (65 ∷ 110 ∷ []) ∷ V.Bool true ∷ [])
    ≡ (3 ∷ 128 ∷ 0 ∷ 0 ∷ 0 ∷ 0 ∷ 0 ∷ 0 ∷ 1 ∷ []) ∷ (0 ∷ []) ∷ (4 ∷ 65 ∷ 110 ∷ []) ∷ (2 ∷ []) ∷ []

-- NULL and the empty text are two fields
abbrev pub NullIsNoText : Type 0
NullIsNoText = fields_of (V.Null ∷ V.Null ∷ []) ≢ fields_of (V.Null ∷ V.Text [] ∷ [])
