-- Counting all rows looks at none.
use Rattle.std.proofs.Common.{◌≡◌, List, [], ◌∷◌, map, refl, sym, ap, ◌∙◌}
use Rattle.al_value.specs.declared.value.Value.TheVariants as V
use Rattle.al_agg.specs.Agg.{agg}
use Rattle.al_agg.specs.declared.agg.Agg.TheVariants as A
use Rattle.al_plan.specs.declared.expr.Var.{Var}
use Rattle.al_plan.specs.declared.plan.AggCall.{AggCall}
use Rattle.al_plan.specs.declared.plan.AggCall.TheVariants as C
use Rattle.al_plan.specs.Calls.{agg_call}
use Rattle.al_plan.specs.Eval.{bind}
use Rattle.al_plain.specs.Rows.{Cells}

nulls-map : {X Y : Type 0} (f : X → Y) (xs : List X) → map (λ x. V.Null) xs ≡ map (λ y. V.Null) (map f xs)
nulls-map f [] = refl
nulls-map f (x ∷ xs) = ap (λ vs. V.Null ∷ vs) (nulls-map f xs)

pub count_all : (call : AggCall) (vars : List Var) (rows : List Cells) → call ≡ C.CountAll → agg A.CountAll (map (λ r. V.Null) rows) ≡ agg_call call (map (bind vars) rows)
unfolding agg_call
count_all call vars rows is = ap (agg A.CountAll) (nulls-map (bind vars) rows) ∙ ap (λ c. agg_call c (map (bind vars) rows)) (sym is)
