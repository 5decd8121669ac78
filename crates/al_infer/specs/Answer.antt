-- Why a file is not accepted.
use Rattle.std.specs.Prelude.{◌≡◌, Some}
use Rattle.al_plan.specs.declared.file.PlanFile.{PlanFile}
use Rattle.al_plan.specs.Accept.{accept_refusal}
use Rattle.al_infer.specs.declared.answer.AcceptRefused.{AcceptRefused}
use Rattle.al_infer.specs.declared.answer.AcceptRefused.TheVariants as A

-- the file is handed back, with its first fault
abbrev pub TellsWhy : PlanFile → AcceptRefused → Type 0
TellsWhy f (A.Refused g r) = (g ≡ f) × (accept_refusal f ≡ Some r)
TellsWhy f (A.NoMemory g) = g ≡ f
