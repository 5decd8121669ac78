-- What an accepted file is good for.
use Rattle.std.specs.Prelude.{◌≡◌, ◌↔◌, List, length, Some, None}
use Rattle.std.specs.List.{All}
use Rattle.al_csv.specs.declared.decl.Decl.{Decl}
use Rattle.al_plan.specs.declared.file.PlanFile.{PlanFile}
use Rattle.al_plan.specs.Refines.{Fit, Scan, scans}
use Rattle.al_plan.specs.Grammar.{IsRoot}
use Rattle.al_plan.specs.Accept.{IsAccepted, accept_refusal, declared}

-- a file is accepted exactly where nothing refuses it
abbrev pub AcceptedIsUnrefused : Type 0
AcceptedIsUnrefused = (f : PlanFile) → IsAccepted f ↔ (accept_refusal f ≡ None)

-- the plan of an accepted file fits, where a result stands at its root alone
abbrev pub AcceptedFits : Type 0
AcceptedFits = (f : PlanFile) → IsRoot f.root → IsAccepted f → Fit f.root

-- a scan of a declared dataset, with a variable for each column
abbrev pub IsOfDataset : List Decl → Scan → Type 0
IsOfDataset decls s = (d : Decl) × (declared decls s.0 ≡ Some d) × (length s.1 ≡ length d.columns)

abbrev pub AcceptedScans : Type 0
AcceptedScans = (f : PlanFile) → IsAccepted f → All (IsOfDataset f.datasets) (scans f.root)
