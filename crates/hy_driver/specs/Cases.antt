-- Worked cases of what contracts say of drivers.
use Rattle.std.specs.Prelude.{pos, negsuc, ◌≡◌, ◌≢◌, ◌↔◌, ◌^◌, ◌-◌, ℕ, nat_eq, Bool, true, false, List, [], ◌∷◌, ◌++◌, length, Some, None}
use Rattle.al_value.specs.declared.value.Value.TheVariants as V
use Rattle.hy_frame.specs.Bank.{BankOf}
use Rattle.hy_frame.specs.Frame.{FrameOf}
use Rattle.hy_frame.specs.Row.{Fields}
use Rattle.hy_store.specs.Fields.{fields_of}
use Rattle.hy_store.specs.declared.fault.Next.TheVariants as N
use Rattle.hy_store.specs.declared.fault.OpFault.TheVariants as F
use Rattle.hy_driver.specs.Rows.{Row, Fed, values_of}
use Rattle.hy_driver.specs.Seen.{Fixed, Seen, no_store}
use Rattle.hy_driver.specs.Forms.{may_come}
use Rattle.hy_driver.specs.Steps.{Fails, Gives, HasRoom, LeavesRuns, Lent, Steps, TellsFault, TellsTurn, Tested}
use Rattle.hy_driver.specs.Handing.{handed_rows, more}
use Rattle.hy_driver.specs.Pass.{pass_state}
use Rattle.hy_driver.specs.declared.phase.Phase.TheVariants.{Working, Hungry, Ended}

abbrev pub int_row : ℕ → Row
int_row n = V.Int (pos n) ∷ []

-- ---- rows

-- the fields of 1, -1, a text, NULL, FALSE and TRUE
abbrev pub FieldsHaveValues : Type 0
FieldsHaveValues =
    values_of ((3 ∷ 128 ∷ 0 ∷ 0 ∷ 0 ∷ 0 ∷ 0 ∷ 0 ∷ 1 ∷ []) ∷ (3 ∷ 127 ∷ 255 ∷ 255 ∷ 255 ∷ 255 ∷ 255 ∷ 255 ∷ 255 ∷ []) ∷ (4 ∷ 65 ∷ 110 ∷ []) ∷ (0 ∷ []) ∷ (1 ∷ []) ∷ (2 ∷ []) ∷ [])
    ≡ V.Int (pos 1) ∷ V.Int (negsuc 0) ∷ V.Text (65 ∷ 110 ∷ []) ∷ V.Null ∷ V.Bool false ∷ V.Bool true ∷ []

-- of two inputs the first has ended, and rows have one value
abbrev pub second_only : List Fed → Type 0
second_only = may_come (λ input. nat_eq input 0) (λ input. 1)

-- no row comes of an input that has ended, none of two values, and no int past those of 64 bits
abbrev pub RowsThatCome : Type 0
RowsThatCome = second_only ((1, int_row 1) ∷ (1, int_row 2) ∷ []) × (second_only ((1, int_row 1) ∷ (0, int_row 2) ∷ []) → ⊥)
    × (second_only ((1, int_row 1 ++ int_row 2) ∷ []) → ⊥) × (second_only ((1, int_row (2 ^ 63)) ∷ []) → ⊥)

-- ---- checks

-- whether the first column is TRUE
abbrev pub is_first_true : Row → Bool
is_first_true (V.Bool true ∷ row) = true
is_first_true _ = false

abbrev pub truth : Bool → Row
truth b = V.Bool b ∷ []

-- a row that passes may be tested, and one that doesn't may not
abbrev pub ChecksTest : Type 0
ChecksTest = (name : List ℕ) → Tested (Some (name, is_first_true)) (truth true ∷ truth false ∷ []) (truth false ∷ [])
    × (Tested (Some (name, is_first_true)) (truth true ∷ truth false ∷ []) [] → ⊥)

-- a check fails by its own name, and by a row that doesn't pass
abbrev pub ChecksFail : Type 0
ChecksFail = (name other : List ℕ) → Fails (Some (name, is_first_true)) name (truth true ∷ truth false ∷ [])
    × (Fails (Some (name, is_first_true)) name (truth true ∷ truth true ∷ []) → ⊥)
    × (name ≢ other → Fails (Some (name, is_first_true)) other (truth false ∷ []) → ⊥)
    × (Fails None name (truth false ∷ []) → ⊥)

-- ---- turns of the driver that passes rows on

-- for rows of one value
abbrev pub narrow : Fixed
narrow = record { unit = 256; memory = 3; cost = 2; width = λ input. 1; arity = 1; check = None }

-- the one that holds this row gives it, and no other
abbrev pub GivesWhatItHolds : Type 0
GivesWhatItHolds = (out : Fields) → Gives (pass_state narrow (fields_of (int_row 2)) true false Working) out (pass_state narrow [] false false Working) ↔ (out ≡ fields_of (int_row 2))

-- it doesn't end while it holds a row, and doesn't end where its input goes on; it doesn't ask for input that has ended
abbrev pub EndsAtTheEnd : Type 0
EndsAtTheEnd = (out : Fields) → TellsTurn (pass_state narrow [] false true Working) out (pass_state narrow [] false true Ended) N.End
    × (TellsTurn (pass_state narrow (fields_of (int_row 2)) true true Working) out (pass_state narrow (fields_of (int_row 2)) true true Ended) N.End → ⊥)
    × (TellsTurn (pass_state narrow [] false false Working) out (pass_state narrow [] false false Ended) N.End → ⊥)
    × (TellsTurn (pass_state narrow [] false true Working) out (pass_state narrow [] false true Hungry) N.NeedInput → ⊥)

-- to ask once more is no turn; to ask for the first time is one
abbrev pub AskingTurns : Type 0
AskingTurns = (out : Fields) → TellsTurn (pass_state narrow [] false false Hungry) out (pass_state narrow [] false false Hungry) N.NeedInput
    × (TellsTurn (pass_state narrow [] false false Working) out (record (pass_state narrow [] false false Hungry) { turns = 2 }) N.NeedInput → ⊥)

-- ---- banks, runs and faults

-- a driver that holds so many frames, of 4 that it may hold
abbrev pub holding : ℕ → Seen
holding n = record (pass_state narrow [] false false Working) { frames = n }

abbrev pub bank_of : ℕ → ℕ → BankOf
bank_of out exported = record { unit = 256; limit = 8; out = out; taken = 0; given = 0; exported = exported; imported = 0 }

-- who holds one of its 4 frames needs room for 3 more; who holds two more has taken two more, and exported none
abbrev pub FramesCount : Type 0
FramesCount = HasRoom (holding 1) (bank_of 5 0) × (HasRoom (holding 1) (bank_of 6 0) → ⊥)
    × Lent (holding 1) (holding 3) (bank_of 5 0) (bank_of 7 0) × (Lent (holding 1) (holding 3) (bank_of 5 0) (bank_of 6 0) → ⊥)
    × (Lent (holding 3) (holding 1) (bank_of 5 0) (bank_of 3 2) → ⊥)

-- a driver whose store has so many live runs, made as many and failed so often, and which still makes so many
abbrev pub storing : List ℕ → ℕ → ℕ → Seen
storing live faults makes = record (pass_state narrow [] false false Working) { store = record { runs = record no_store.runs { live = live; made = length live }; faults = faults }; makes = λ took. makes }

-- two removals that failed may leave two runs live, and one may not
abbrev pub RunsAreLeft : Type 0
RunsAreLeft = LeavesRuns (storing (4 ∷ 5 ∷ 6 ∷ []) 3 0) (storing (5 ∷ 6 ∷ []) 5 0) × (LeavesRuns (storing (4 ∷ 5 ∷ 6 ∷ []) 3 0) (storing (5 ∷ 6 ∷ []) 4 0) → ⊥)

-- who was to make three runs and made two is to make one more; a call without a fault leaves the count of faults, and a fault of the
-- store comes where it rose
abbrev pub RunsAreMade : Type 0
RunsAreMade = Steps (storing [] 0 3) [] [] (storing (1 ∷ 2 ∷ []) 0 1) × (Steps (storing [] 0 3) [] [] (storing (1 ∷ 2 ∷ []) 0 2) → ⊥)
    × (Steps (storing [] 0 3) [] [] (storing [] 1 3) → ⊥)
    × TellsFault (storing [] 0 3) [] (storing [] 1 3) F.Store × (TellsFault (storing [] 0 3) [] (storing [] 0 3) F.Store → ⊥)

-- ---- handing on

abbrev pub frame_with : List Fields → FrameOf
frame_with rows = record { arity = 1; unit = 256; size = 256; rows = rows }

abbrev pub fields_at : ℕ → Fields
fields_at n = fields_of (int_row n)

-- rows beside the bank, then those of frames, then those of runs as they are named
abbrev pub HandedInOrder : Type 0
HandedInOrder = handed_rows
    (record { rows = fields_at 1 ∷ []; frames = frame_with (fields_at 2 ∷ fields_at 3 ∷ []) ∷ []; runs = 7 ∷ 5 ∷ [] })
    (λ run. frame_with (fields_at run ∷ []) ∷ [])
    ≡ fields_at 1 ∷ fields_at 2 ∷ fields_at 3 ∷ fields_at 7 ∷ fields_at 5 ∷ []

-- exports are counted up to the end of 64 bits
abbrev pub ExportsCount : Type 0
ExportsCount = (more 2 5 ≡ 7) × (more 2 (2 ^ 64 - 2) ≡ 2 ^ 64 - 1)
