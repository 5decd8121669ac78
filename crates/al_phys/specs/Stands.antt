-- A physical plan that stands for a logical one.
use Rattle.std.specs.Prelude.{◌≡◌, ℕ, Bool, true, false, List, []}
use Rattle.std.specs.List.{All, Contains}
use Rattle.al_plan.specs.declared.plan.Plan.{Plan}
use Rattle.al_plan.specs.Eval.{Bytes, Env}
use Rattle.al_plan.specs.Allows.{Sets, Allows, Faults, ordered}
use Rattle.al_plan.specs.Refines.{scans, result_of, Fills}
use Rattle.al_phys.specs.declared.phys.Phys.{Phys}
use Rattle.al_phys.specs.Operators.{phys_scans, phys_result}
use Rattle.al_phys.specs.Parts.{Parts, in_first, Interleaves}
use Rattle.al_phys.specs.PAllows.{PAllows, PFaults}

-- what the parts have to be for a list of rows that is allowed: where the order is a part of the answer, the first part is
-- such a list and the others are empty; else every interleaving of the parts is one
abbrev pub AreRowsOf : Bool → (List Env → Type 0) → ℕ → Parts → Type 0
AreRowsOf true P n parts = (rows : List Env) × (parts ≡ in_first n rows) × P rows
AreRowsOf false P n parts = (rows : List Env) → Interleaves parts rows → P rows

-- for all datasets that fit, what the physical plan allows in its parts is what the plan allows, and a name that faults in
-- the physical plan faults in the plan
pub record Stands (p : Plan) (ph : Phys) (n : ℕ) : Type 0 where
  pub scanned : All (Contains (scans p)) (phys_scans ph)
  pub root : phys_result ph ≡ result_of p
  pub allowed : (passing : Bool) (sets : Sets) (parts : Parts) → Fills (scans p) sets → PAllows ph passing sets n parts → AreRowsOf (ordered p) (Allows p passing sets [] []) n parts
  pub faults : (sets : Sets) (name : Bytes) → Fills (scans p) sets → PFaults ph sets n name → Faults p sets [] [] name
