-- Why a text does not compile, and what reading and accepting it gave.
use Rattle.std.specs.Prelude.{◌≡◌, Option, Some, None, Result, Ok, Err}
use Rattle.al_io.specs.Outside.{Bytes}
use Rattle.al_plan.specs.declared.file.PlanFile.{PlanFile}
use Rattle.al_plan.specs.declared.file.Refused.{Refused}
use Rattle.al_plan.specs.Accept.{accept_refusal}
use Rattle.al_read.specs.declared.plan.ReadRefused.{ReadRefused}
use Rattle.al_read.specs.declared.plan.ReadRefused.TheVariants as A
use Rattle.al_read.specs.Reads.{Reads, IsReadRefusal}
use Rattle.al_query.specs.declared.fault.CompileFault.{CompileFault}
use Rattle.al_query.specs.declared.fault.CompileFault.TheVariants as F
use Rattle.al_query.specs.Served.{IsPlan, IsPlanRefused}

-- the fault of a text that was not read
abbrev pub unread_fault : ReadRefused → CompileFault
unread_fault (A.Refused r) = F.Refused r
unread_fault A.NoMemory = F.NoMemory

-- what reading the text of a plan file gave
abbrev pub TellsRead : Bytes → Result PlanFile CompileFault → Type 0
TellsRead bytes (Ok f) = Reads bytes f
TellsRead bytes (Err (F.Refused r)) = IsReadRefusal bytes r
TellsRead bytes (Err F.NoMemory) = Unit {0}

-- what looking for the first fault of a file gave
abbrev pub TellsAccepted : PlanFile → Result (Unit {0}) CompileFault → Type 0
TellsAccepted f (Ok done) = accept_refusal f ≡ None
TellsAccepted f (Err (F.Refused r)) = accept_refusal f ≡ Some r
TellsAccepted f (Err F.NoMemory) = Unit {0}

-- what reading the text of a plan file and accepting what it states gave
abbrev pub TellsPlanText : Bytes → Result PlanFile CompileFault → Type 0
TellsPlanText bytes (Ok f) = IsPlan (Some bytes) f
TellsPlanText bytes (Err (F.Refused r)) = IsPlanRefused (Some bytes) r
TellsPlanText bytes (Err F.NoMemory) = Unit {0}
