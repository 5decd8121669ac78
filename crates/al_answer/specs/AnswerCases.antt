-- Worked cases of answers: a dataset of three rows on two partitions, of which the first has the first and the third row.
use Rattle.std.specs.Prelude.{pos, ℕ, [], ◌∷◌}
use Rattle.al_value.specs.declared.value.Value.TheVariants as V
use Rattle.al_plan.specs.declared.expr.Var.{Var}
use Rattle.al_plan.specs.Eval.{Bytes}
use Rattle.al_plan.specs.Allows.{Sets}
use Rattle.al_phys.specs.declared.phys.Phys.{Phys}
use Rattle.al_phys.specs.declared.phys.Phys.TheVariants as Q
use Rattle.hy_job.specs.Columns.{Row}
use Rattle.al_answer.specs.Answer.{IsAnswer}

abbrev pub number : ℕ → Row
number n = V.Int (pos n) ∷ []

abbrev pub three : Sets
three set = number 1 ∷ number 2 ∷ number 3 ∷ []

abbrev pub listing : Bytes → Var → Phys
listing set v = Q.Gather (Q.Scan set (v ∷ []))

-- the rows of the partitions, in any order but each in its own
abbrev pub MixedIsAnswer : Type 0
MixedIsAnswer = (set : Bytes) (v : Var) → IsAnswer (listing set v) 2 (v ∷ []) three (number 1 ∷ number 3 ∷ number 2 ∷ [])

-- the third row does not come before the first
abbrev pub TurnedIsNone : Type 0
TurnedIsNone = (set : Bytes) (v : Var) → IsAnswer (listing set v) 2 (v ∷ []) three (number 3 ∷ number 1 ∷ number 2 ∷ []) → ⊥

-- no row is left out
abbrev pub ShortIsNone : Type 0
ShortIsNone = (set : Bytes) (v : Var) → IsAnswer (listing set v) 2 (v ∷ []) three (number 1 ∷ number 3 ∷ []) → ⊥

-- rows of two values are no rows of one variable
abbrev pub WideIsNone : Type 0
WideIsNone = (set : Bytes) (v : Var) (row : Row) → IsAnswer (listing set v) 2 (v ∷ []) three ((V.Null ∷ V.Null ∷ row) ∷ []) → ⊥
