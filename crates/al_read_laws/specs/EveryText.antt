-- What each text has: tokens or a first bad piece, and a reading or a refusal.
use Rattle.std.specs.Prelude.{◌⊎◌, ℕ, List}
use Rattle.al_plan.specs.declared.file.PlanFile.{PlanFile}
use Rattle.al_plan.specs.declared.file.Refused.{Refused}
use Rattle.al_read.specs.declared.token.Placed.{Placed}
use Rattle.al_read.specs.Tokens.{IsTokens, FirstBad}
use Rattle.al_read.specs.Reads.{Reads, IsReadRefusal}

-- tokens up to its end, or a first piece that is none
abbrev pub HasTokensOrBad : List ℕ → Type 0
HasTokensOrBad bytes = ((tokens : List Placed) × IsTokens 0 bytes tokens) ⊎ ((at : ℕ) × FirstBad 0 bytes at)

-- the text states a file, or there is a place and a kind of refusal
abbrev pub HasReadingOrRefusal : List ℕ → Type 0
HasReadingOrRefusal bytes = ((f : PlanFile) × Reads bytes f) ⊎ ((r : Refused) × IsReadRefusal bytes r)
