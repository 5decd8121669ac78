-- The text of an answer.
use Rattle.std.specs.Prelude.{◌≡◌, List, [], All, map, length, false}
use Rattle.al_value.specs.declared.value.Value.{Value}
use Rattle.al_csv.specs.OutText.{out_text}
use Rattle.al_plan.specs.declared.plan.Plan.{Plan}
use Rattle.al_plan.specs.Eval.{Bytes, bind}
use Rattle.al_plan.specs.Allows.{Sets, Allows, live}

-- the result text of a list of rows that the plan allows over the datasets, each row with its values in the order of the plan's variables
pub record IsAnswer (p : Plan) (sets : Sets) (text : Bytes) : Type 0 where
  pub rows : List (List Value)
  pub wide : All (λ row. length row ≡ length (live p [])) rows
  pub allowed : Allows p false sets [] [] (map (bind (live p [])) rows)
  pub is : text ≡ out_text (map (λ v. v.name) (live p [])) rows
