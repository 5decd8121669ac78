-- How calls of a driver are put together.
use Rattle.std.specs.Prelude.{◌≡◌, ◌+◌, ℕ, true, List, [], ◌∷◌, ◌++◌}
use Rattle.hy_frame.specs.Bank.{BankOf}
use Rattle.hy_driver.specs.Rows.{Row, Fed}
use Rattle.hy_driver.specs.Seen.{Seen}
use Rattle.hy_driver.specs.Forms.{MayBeFed}
use Rattle.hy_driver.specs.Steps.{HasRoom, IsBankOf, IsNew, IsOver, Lent, MayCome, Steps, ended_with}

-- what may come to the new one may come to the old one behind these rows
abbrev pub Comes : Seen → List Fed → Seen → Type 0
Comes old fed new = (took : List Fed) → MayCome new took → MayCome old (fed ++ took)

-- so it is where a row was fed that might be
abbrev pub FedComes : Seen → Seen → Type 0
FedComes old new = (fed : Fed) → ((k : ℕ) → new.ended k ≡ old.ended k) → new.fixed ≡ old.fixed → MayBeFed old.ended old.fixed.width fed → Comes old (fed ∷ []) new

-- and where an input was ended
abbrev pub EndedComes : Seen → Seen → Type 0
EndedComes old new = (input : ℕ) → ((k : ℕ) → new.ended k ≡ ended_with old.ended input k) → new.fixed ≡ old.fixed → Comes old [] new

-- and after a turn
abbrev pub TurnedComes : Seen → Seen → Type 0
TurnedComes old new = ((k : ℕ) → new.ended k ≡ old.ended k) → new.fixed ≡ old.fixed → Comes old [] new

abbrev pub ComesThen : Seen → Seen → Seen → Type 0
ComesThen first second third = (fed fed' : List Fed) → Comes first fed second → Comes second fed' third → Comes first (fed ++ fed') third

-- one step after the other
abbrev pub StepsThen : Seen → Seen → Seen → Type 0
StepsThen first second third = (fed fed' : List Fed) (sent sent' : List Row) → second.fixed ≡ first.fixed → Comes second fed' third
    → Steps first fed sent second → Steps second fed' sent' third → Steps first (fed ++ fed') (sent ++ sent') third

-- a bank that was lent may be lent again
abbrev pub LentAgain : Seen → Seen → Type 0
LentAgain old new = (bank bank' : BankOf) → new.fixed ≡ old.fixed → Lent old new bank bank' → IsBankOf old bank → IsBankOf new bank' × (HasRoom old bank → HasRoom new bank')

-- nothing comes where every input has ended
abbrev pub NoneComes : Seen → Type 0
NoneComes s = ((input : ℕ) → s.ended input ≡ true) → (took : List Fed) → MayCome s took → took ≡ []

-- a driver that was new and is over gave and hands on, for the rows that it took, what its activity makes of them, and made as many
-- runs as it was to make for them
abbrev pub WholeRun : Seen → Seen → (List Fed → List Row → Type 0) → Type 0
WholeRun first last out = (fed : List Fed) (sent : List Row) → IsNew first out → first.sound → Steps first fed sent last → IsOver last
    → out fed (sent ++ last.hands_on) × (last.store.runs.made ≡ first.store.runs.made + first.makes fed)
