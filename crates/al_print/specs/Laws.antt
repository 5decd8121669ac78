-- What holds of canonical text.
use Rattle.std.specs.Prelude.{◌≡◌, ℕ, ◌≤◌, List, length}
use Rattle.al_plan.specs.declared.file.PlanFile.{PlanFile}
use Rattle.al_read.specs.Reads.{Reads}
use Rattle.al_print.specs.Canonical.{plan_text}

-- the canonical text of a file that a text states, if it isn't too long, states that file again, at places of its own
abbrev pub ReadsBack : Type 0
ReadsBack = (bytes : List ℕ) (f : PlanFile) → Reads bytes f → length (plan_text f) ≤ 1048576
    → (g : PlanFile) × Reads (plan_text f) g × (g.datasets ≡ f.datasets) × (g.root ≡ f.root)
