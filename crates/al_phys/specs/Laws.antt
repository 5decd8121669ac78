-- Laws of physical plans, for the function that shows them.
use Rattle.std.specs.Prelude.{◌≡◌, ℕ, Bool, true, length, [], ◌∷◌}
use Rattle.std.specs.List.{Contains}
use Rattle.al_plan.specs.Allows.{Sets}
use Rattle.al_plan.specs.declared.expr.Var.{Var}
use Rattle.al_plan.specs.Eval.{Bytes}
use Rattle.al_phys.specs.declared.phys.Phys.{Phys}
use Rattle.al_phys.specs.declared.phys.Phys.TheVariants as Q
use Rattle.al_phys.specs.declared.property.Partitioning.{Partitioning}
use Rattle.al_phys.specs.declared.property.Need.{Need}
use Rattle.al_phys.specs.Operators.{operators}
use Rattle.al_phys.specs.Parts.{Parts, HasParts, HasLocal, Serves}
use Rattle.al_phys.specs.PAllows.{PAllows}
use Rattle.al_phys.specs.Properties.{meets, parts_of, order_of}
use Rattle.al_phys.specs.Placed.{Placed}

-- parts with a property serve each need that the property meets
abbrev pub MetIsServed : Type 0
MetIsServed = (d : Partitioning) (need : Need) (parts : Parts) → meets d need (length parts) ≡ true → HasParts d parts → Serves need parts

-- there is a part for each partition
abbrev pub PartsAreMany : Type 0
PartsAreMany = (p : Phys) (passing : Bool) (sets : Sets) (n : ℕ) (parts : Parts) → PAllows p passing sets n parts → length parts ≡ n

-- what a plan delivers, which is placed or is a part of one that is, holds of all its parts
abbrev pub DeliveredHolds : Type 0
DeliveredHolds = (whole p : Phys) (n : ℕ) → Placed whole n → Contains (operators whole) p → (passing : Bool) (sets : Sets) (parts : Parts) → PAllows p passing sets n parts
    → HasParts (parts_of p n) parts × HasLocal (order_of p) parts

-- ---- cases of placing

-- the result of a gather over a scan is placed for two partitions
abbrev pub GatherIsPlaced : Type 0
GatherIsPlaced = (set : Bytes) (v : Var) → Placed (Q.Result (v ∷ []) (Q.Gather (Q.Scan set (v ∷ [])))) 2

-- without the gather it is not
abbrev pub GatherIsNeeded : Type 0
GatherIsNeeded = (set : Bytes) (v : Var) → Placed (Q.Result (v ∷ []) (Q.Scan set (v ∷ []))) 2 → ⊥

-- and with the gather it is not for one partition
abbrev pub GatherIsNeedless : Type 0
GatherIsNeedless = (set : Bytes) (v : Var) → Placed (Q.Result (v ∷ []) (Q.Gather (Q.Scan set (v ∷ [])))) 1 → ⊥
