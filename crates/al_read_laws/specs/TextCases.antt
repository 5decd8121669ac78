-- Small texts, with what they have and what not.
use Rattle.std.specs.Prelude.{List, [], ◌∷◌, codes}
use Rattle.al_plan.specs.declared.file.PlanFile.{PlanFile}
use Rattle.al_plan.specs.declared.file.RefusedKind.TheVariants as kind
use Rattle.al_read.specs.declared.token.Token.TheVariants as kinds
use Rattle.al_read.specs.declared.token.Placed.{Placed}
use Rattle.al_read.specs.Tokens.{IsTokens, FirstBad}
use Rattle.al_read.specs.Reads.{Reads, IsReadRefusal, refusal}

-- `( )` has two tokens, at 0 and at 2
abbrev pub AreTwoTokens : Type 0
AreTwoTokens = IsTokens 0 (codes "( )") (record { token = kinds.Open; place = 0 } ∷ record { token = kinds.Close; place = 2 } ∷ [])

-- in `( ?` the piece at 2 is no token
abbrev pub IsBadBehindOne : Type 0
IsBadBehindOne = FirstBad 0 (codes "( ?") 2

-- so that text has no tokens
abbrev pub BadTextHasTokens : Type 0
BadTextHasTokens = (tokens : List Placed) × IsTokens 0 (codes "( ?") tokens

-- the empty text is refused at its end for its form
abbrev pub NothingIsRefused : Type 0
NothingIsRefused = IsReadRefusal [] (refusal kind.Form 0)

-- so it states no file
abbrev pub NothingIsRead : Type 0
NothingIsRead = (f : PlanFile) × Reads [] f
