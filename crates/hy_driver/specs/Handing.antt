-- What a driver leaves when it is ended.
use Rattle.std.specs.Prelude.{◌≡◌, ◌⊎◌, ◌+◌, ℕ, zero, suc, List, [], ◌++◌, map, length, Option, Some, None}
use Rattle.std.specs.List.{All, AllByRecursion, flat_map}
use Rattle.std.specs.List.Sorted.{IsPermutation}
use Rattle.al_value.specs.Outside.{Told}
use Rattle.hy_frame.specs.Bank.{BankOf, one_more}
use Rattle.hy_frame.specs.Row.{Fields}
use Rattle.hy_store.specs.Fields.{fields_of}
use Rattle.hy_store.specs.Runs.{Held, RunsOf, HaveShape}
use Rattle.hy_driver.specs.Seen.{Seen, StoreOf, no_store}
use Rattle.hy_driver.specs.declared.phase.Phase.TheVariants as P
use Rattle.hy_driver.specs.declared.handed.Handed.{Handed}

-- what is seen of a store that may be there
abbrev pub store_of : {S : Type 0} → (S → RunsOf) → (S → ℕ) → Option S → StoreOf
store_of runs faults (Some store) = record { runs = runs store; faults = faults store }
store_of runs faults None = no_store

-- it has ended, or was given up
abbrev pub IsDone : Seen → Type 0
IsDone s = (s.phase ≡ P.Ended) ⊎ (s.phase ≡ P.GivenUp)

-- the rows that are handed on: those beside the bank, those of the frames, and those of the runs, whose frames are told
abbrev pub handed_rows : Handed → Held → List Fields
handed_rows h held = h.rows ++ (flat_map (λ frame. frame.rows) h.frames ++ flat_map (λ run. flat_map (λ frame. frame.rows) (held run)) h.runs)

pub record HandedOn (s : Seen) (h : Handed) : Type 0 where
  -- all frames that it held, each of its bank's unit and of rows as they are handed on
  pub frames : length h.frames ≡ s.frames
  pub shape : AllByRecursion (λ frame. (frame.arity ≡ s.fixed.arity) × (frame.unit ≡ s.fixed.unit)) h.frames
  pub fit : All (λ row. length row ≡ s.fixed.arity) h.rows
  -- of one that has ended, the live runs of its store, and the rows that it was to hand on
  pub runs : s.phase ≡ P.Ended → IsPermutation s.store.runs.live h.runs
  pub shapes : s.phase ≡ P.Ended → AllByRecursion (λ run. HaveShape s.store.runs run s.fixed.arity s.fixed.unit) h.runs
  pub rows : s.phase ≡ P.Ended → s.sound → Told s.store.runs.held (λ held. map fields_of s.hands_on ≡ handed_rows h held)
  -- of one that was given up, nothing
  pub none : s.phase ≡ P.GivenUp → (h.rows ≡ []) × (h.runs ≡ [])

-- a count after this many more, which stands still at its type's end
abbrev pub more : ℕ → ℕ → ℕ
more zero count = count
more (suc n) count = one_more (more n count)

-- the frames that it held have left the bank
pub record Left (s : Seen) (bank bank' : BankOf) : Type 0 where
  pub out : bank'.out + s.frames ≡ bank.out
  pub unit : bank'.unit ≡ bank.unit
  pub limit : bank'.limit ≡ bank.limit
  pub exported : bank'.exported ≡ more s.frames bank.exported
  pub imported : bank'.imported ≡ bank.imported
