-- What a call of an aggregate gives over rows, and what a generator gives over one.
use Rattle.std.specs.Prelude.{List, map}
use Rattle.al_value.specs.declared.value.Value.{Value}
use Rattle.al_value.specs.declared.value.Value.TheVariants as V
use Rattle.al_func.specs.Items.{range, split}
use Rattle.al_agg.specs.Agg.{agg}
use Rattle.al_agg.specs.declared.agg.Agg.TheVariants as A
use Rattle.al_plan.specs.declared.plan.AggCall.{AggCall}
use Rattle.al_plan.specs.declared.plan.AggCall.TheVariants as C
use Rattle.al_plan.specs.declared.plan.Generator.{Generator}
use Rattle.al_plan.specs.declared.plan.Generator.TheVariants as G
use Rattle.al_plan.specs.Eval.{Env, eval}

-- an aggregate over the values of its expression; counting all rows looks at none
unfoldable pub agg_call : AggCall → List Env → Value
agg_call C.CountAll rows = agg A.CountAll (map (λ r. V.Null) rows)
agg_call (C.Count e) rows = agg A.Count (map (eval e) rows)
agg_call (C.Sum e) rows = agg A.Sum (map (eval e) rows)
agg_call (C.Min e) rows = agg A.Min (map (eval e) rows)
agg_call (C.Max e) rows = agg A.Max (map (eval e) rows)

-- the items of a generator at a row
unfoldable pub items : Generator → Env → List Value
items (G.Range a b) r = range (eval a r) (eval b r)
items (G.Split t s) r = split (eval t r) (eval s r)
