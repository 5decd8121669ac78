-- What a driver's calls do to it, and what their answers tell.
use Rattle.std.specs.Prelude.{◌≡◌, ◌≢◌, ◌↔◌, ◌+◌, ◌-◌, ◌^◌, ◌<◌, ◌≤◌, ◌==◌, ◌||◌, ℕ, Bool, true, false, List, [], ◌∷◌, ◌++◌, map, length, Option, Some, None, Result, Ok, Err}
use Rattle.std.specs.List.{AllByRecursion, Contains}
use Rattle.al_value.specs.Outside.{Rose}
use Rattle.hy_frame.specs.Bank.{BankOf}
use Rattle.hy_frame.specs.Row.{Fields}
use Rattle.hy_rest.specs.Rest.{Continues, Alive, FinishedWith}
use Rattle.hy_store.specs.Fields.{fields_of}
use Rattle.hy_store.specs.declared.fault.Next.{Next}
use Rattle.hy_store.specs.declared.fault.Next.TheVariants as N
use Rattle.hy_store.specs.declared.fault.OpFault.{OpFault}
use Rattle.hy_store.specs.declared.fault.OpFault.TheVariants as F
use Rattle.hy_driver.specs.Rows.{Row, AreValues, Fed}
use Rattle.hy_driver.specs.Forms.{may_come}
use Rattle.hy_driver.specs.Seen.{Check, Seen}
use Rattle.hy_driver.specs.declared.phase.Phase.TheVariants as P

-- ---- the bank

-- a bank that may be lent: its frames are of the driver's size, and those that the driver holds are out of it
pub record IsBankOf (s : Seen) (bank : BankOf) : Type 0 where
  pub unit : bank.unit ≡ s.fixed.unit
  pub out : s.frames ≤ bank.out

-- its limit leaves room for the frames that the driver lacks of those that it may hold
abbrev pub HasRoom : Seen → BankOf → Type 0
HasRoom s bank = bank.out + (s.fixed.memory + 1) ≤ bank.limit + s.frames

-- after a call that was lent it: as many frames more are out as the driver holds more, and none left for another bank or came of one
pub record Lent (old new : Seen) (bank bank' : BankOf) : Type 0 where
  pub out : bank'.out + old.frames ≡ bank.out + new.frames
  pub unit : bank'.unit ≡ bank.unit
  pub limit : bank'.limit ≡ bank.limit
  pub exported : bank'.exported ≡ bank.exported
  pub imported : bank'.imported ≡ bank.imported

-- ---- rows to come

abbrev pub MayCome : Seen → List Fed → Type 0
MayCome s = may_come s.ended s.fixed.width

-- which inputs have ended, once this one has
abbrev pub ended_with : (ℕ → Bool) → ℕ → ℕ → Bool
ended_with ended input k = (k == input) || ended k

-- ---- checks

-- rows on which a check's test is TRUE
abbrev pub Pass : Option Check → List Row → Type 0
Pass None rows = Unit {0}
Pass (Some check) rows = AllByRecursion (λ row. check.1 row ≡ true) rows

-- of the rows that were to be tested those in front were, and passed
abbrev pub Tested : Option Check → List Row → List Row → Type 0
Tested check before after = (done : List Row) × (before ≡ done ++ after) × Pass check done

-- the check of this name has a row that doesn't pass
abbrev pub Fails : Option Check → List ℕ → List Row → Type 0
Fails None name rows = ⊥
Fails (Some check) name rows = (check.0 ≡ name) × ((row : Row) × Contains rows row × (check.1 row ≡ false))

-- ---- steps

-- a call without a fault: these rows were taken, and these were given
pub record Steps (old : Seen) (fed : List Fed) (sent : List Row) (new : Seen) : Type 0 where
  pub sound : old.sound → new.sound
  -- what it may do now, it might do before with these rows in front
  pub rest : old.sound → Continues old.rest fed sent new.rest
  -- for all that may come there is something that it may put
  pub alive : old.sound → Alive (MayCome new) new.rest
  -- the runs that it made are those that it was to make and is not to make any more
  pub makes : old.sound → (took : List Fed) → MayCome new took → new.store.runs.made + new.makes took ≡ old.store.runs.made + old.makes (fed ++ took)
  pub tested : Tested old.fixed.check (old.untested ++ map (λ x. x.1) fed) new.untested
  -- its store served every call
  pub served : new.store.faults ≡ old.store.faults

-- a new driver, of which this is the output for the rows that come: nothing happened to it yet, and there is always something that
-- it may put
pub record IsNew (s : Seen) (out : List Fed → List Row → Type 0) : Type 0 where
  pub phase : s.phase ≡ P.Working
  pub frames : s.frames ≤ s.fixed.memory + 1
  pub untested : s.untested ≡ []
  pub rest : s.sound → (took : List Fed) (put : List Row) → s.rest took put ↔ (MayCome s took × out took put)
  pub alive : s.sound → Alive (MayCome s) s.rest

-- ---- faults

-- why a call gave up: a check has a row that doesn't pass, of those that were to be tested and of these; or its store failed in it
abbrev pub TellsFault : Seen → List Row → Seen → OpFault → Type 0
TellsFault old rows new (F.Check name) = Fails old.fixed.check name (old.untested ++ rows)
TellsFault old rows new F.Store = Rose old.store.faults new.store.faults
TellsFault old rows new F.NoMemory = Unit {0}

-- ---- what answers tell

abbrev pub TellsFed : Seen → Fed → Seen → Result Unit OpFault → Type 0
TellsFed old fed new (Ok x) = Steps old (fed ∷ []) [] new
TellsFed old fed new (Err fault) = TellsFault old (fed.1 ∷ []) new fault

abbrev pub TellsEnded : Seen → Seen → Result Unit OpFault → Type 0
TellsEnded old new (Ok x) = Steps old [] [] new
TellsEnded old new (Err fault) = TellsFault old [] new fault

-- one of the turns that were left was used
abbrev pub Turned : Seen → Seen → Type 0
Turned old new = new.turns < old.turns

-- the row that was asked for
abbrev pub Gives : Seen → Fields → Seen → Type 0
Gives old out new = (row : Row) × AreValues row × (length row ≡ old.fixed.arity) × (fields_of row ≡ out) × Steps old [] (row ∷ []) new

-- it has nothing to do any more but to hand these rows on, and makes no run
pub record IsOver (s : Seen) : Type 0 where
  pub finished : FinishedWith s.hands_on s.rest
  pub makes : s.makes [] ≡ 0

-- asking again for input, and ending again, is no turn
abbrev pub TellsTurn : Seen → Fields → Seen → Next → Type 0
TellsTurn old out new N.Row = (new.phase ≡ P.Working) × Turned old new × Gives old out new
TellsTurn old out new N.Work = (new.phase ≡ P.Working) × Turned old new × Steps old [] [] new
TellsTurn old out new N.NeedInput = (new.phase ≡ P.Hungry) × (new.turns ≤ old.turns) × (old.phase ≢ P.Hungry → Turned old new) × Steps old [] [] new
    × ((input : ℕ) × (new.ended input ≡ false))
TellsTurn old out new N.End = (new.phase ≡ P.Ended) × (new.turns ≤ old.turns) × (old.phase ≢ P.Ended → Turned old new) × Steps old [] [] new
    × ((input : ℕ) → new.ended input ≡ true) × (new.untested ≡ []) × (old.sound → IsOver new)

abbrev pub TellsNext : Seen → Fields → Seen → Result Next OpFault → Type 0
TellsNext old out new (Ok next) = TellsTurn old out new next
TellsNext old out new (Err fault) = Turned old new × TellsFault old [] new fault

-- ---- giving up

-- at most as many of its runs are live as its store failed to remove; of a count at its end nothing is said
abbrev pub LeavesRuns : Seen → Seen → Type 0
LeavesRuns old new = new.store.faults < 2 ^ 64 - 1 → old.store.faults + length new.store.runs.live ≤ new.store.faults

pub record GivesUp (old new : Seen) : Type 0 where
  pub phase : new.phase ≡ P.GivenUp
  pub frames : new.frames ≡ 0
  pub turns : new.turns ≤ old.turns
  pub runs : LeavesRuns old new
  pub made : new.store.runs.made ≡ old.store.runs.made
