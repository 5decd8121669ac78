-- Answers of a group, a join and a count on two partitions, and lists that are none.
use Rattle.std.specs.Prelude.{List, [], ◌∷◌}
use Rattle.al_plan.specs.declared.expr.Var.{Var}
use Rattle.al_plan.specs.Allows.{Sets}
use Rattle.al_phys.specs.declared.phys.Phys.{Phys}
use Rattle.al_phys.specs.declared.phys.Phys.TheVariants as Q
use Rattle.hy_job.specs.Columns.{Row}
use Rattle.al_cases.specs.Cases.{a, b, n, int, one_and_two, two_and_one}
use Rattle.al_phys_cases.specs.PartCases.{scan_of_a, twice, grouped, count, by_keys}
use Rattle.al_answer.specs.Answer.{IsAnswer}

abbrev pub answers : Phys → List Var → Sets → List Row → Type 0
answers p vars sets rows = IsAnswer p 2 vars sets rows

-- ---- a count of the rows of each value, of two rows of 1

abbrev pub grouping : Phys
grouping = Q.Gather (grouped (Q.HashExchange (a ∷ []) scan_of_a))

pub record GroupAnswers : Type 0 where
  pub one_group : answers grouping (b ∷ n ∷ []) twice ((int 1 ∷ int 2 ∷ []) ∷ [])
  -- as if each row had stayed in the partition where it was
  pub a_group_each : answers grouping (b ∷ n ∷ []) twice ((int 1 ∷ int 1 ∷ []) ∷ (int 1 ∷ int 1 ∷ []) ∷ []) → ⊥
  -- as if one row had come twice, or not at all
  pub three_rows : answers grouping (b ∷ n ∷ []) twice ((int 1 ∷ int 3 ∷ []) ∷ []) → ⊥
  pub no_group : answers grouping (b ∷ n ∷ []) twice [] → ⊥

-- without the exchange each partition has a group
pub record UnhashedAnswers : Type 0 where
  pub a_group_each : answers (Q.Gather (grouped scan_of_a)) (b ∷ n ∷ []) twice ((int 1 ∷ int 1 ∷ []) ∷ (int 1 ∷ int 1 ∷ []) ∷ [])
  pub one_group : answers (Q.Gather (grouped scan_of_a)) (b ∷ n ∷ []) twice ((int 1 ∷ int 2 ∷ []) ∷ []) → ⊥

-- ---- a join of 1 and 2 with 1

abbrev pub joining : Phys
joining = Q.Gather by_keys

pub record JoinAnswers : Type 0 where
  pub pair : answers joining (a ∷ b ∷ []) two_and_one ((int 1 ∷ int 1 ∷ []) ∷ [])
  -- 2 doesn't match 1
  pub no_match : answers joining (a ∷ b ∷ []) two_and_one ((int 2 ∷ int 1 ∷ []) ∷ []) → ⊥
  pub each_row : answers joining (a ∷ b ∷ []) two_and_one ((int 1 ∷ int 1 ∷ []) ∷ (int 2 ∷ int 1 ∷ []) ∷ []) → ⊥
  pub none : answers joining (a ∷ b ∷ []) two_and_one [] → ⊥

-- ---- a count of two rows

abbrev pub counting : Phys
counting = Q.AggFinal count (Q.Gather (Q.AggPart count scan_of_a))

pub record CountAnswers : Type 0 where
  pub both : answers counting (n ∷ []) one_and_two ((int 2 ∷ []) ∷ [])
  -- as if the states of a partition had come twice, or each partition had told its own count
  pub counted_twice : answers counting (n ∷ []) one_and_two ((int 4 ∷ []) ∷ []) → ⊥
  pub a_count_each : answers counting (n ∷ []) one_and_two ((int 1 ∷ []) ∷ (int 1 ∷ []) ∷ []) → ⊥
