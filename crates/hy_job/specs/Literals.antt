-- The literals of expressions, of nested plans and of activities.
use Rattle.std.specs.Prelude.{List, [], ◌∷◌, ◌++◌, Option, Some, None}
use Rattle.std.specs.List.{flat_map}
use Rattle.al_value.specs.declared.value.Value.{Value}
use Rattle.al_func.specs.declared.rex.Rex.{Rex, fold-Rex}
use Rattle.al_func.specs.declared.rex.Rex.TheOpen.{Rex-F}
use Rattle.al_func.specs.declared.rex.Rex.TheOpen as R
use Rattle.hy_job.specs.declared.nested.AggRex.{AggRex}
use Rattle.hy_job.specs.declared.nested.AggRex.TheVariants as AR
use Rattle.hy_job.specs.declared.nested.GenRex.{GenRex}
use Rattle.hy_job.specs.declared.nested.GenRex.TheVariants as G
use Rattle.hy_job.specs.declared.nested.NestedPlan.{NestedPlan, more_of-NestedPlan as Is, end_of-NestedPlan as At}
use Rattle.hy_job.specs.declared.nested.NestedPlan.TheVariants.{Nested, Assign', Select', Project', Unnest', Order', Distinct', Limit', Aggregate'}
use Rattle.hy_job.specs.declared.job.Kind.{Kind}
use Rattle.hy_job.specs.declared.job.Kind.TheVariants as K

-- the literals of an expression, in the order of the text
abbrev pub literals_step : Rex-F (List Value) → List Value
literals_step (R.Col j) = []
literals_step (R.Lit v) = v ∷ []
literals_step (R.Call f args) = flat_map (λ a. a) args

unfoldable pub literals : Rex → List Value
literals = fold-Rex (List Value) literals_step

abbrev pub gen_literals : GenRex → List Value
gen_literals (G.Range a b) = literals a ++ literals b
gen_literals (G.Split t s) = literals t ++ literals s

abbrev pub agg_literals : AggRex → List Value
agg_literals AR.CountAll = []
agg_literals (AR.Count e) = literals e
agg_literals (AR.Sum e) = literals e
agg_literals (AR.Min e) = literals e
agg_literals (AR.Max e) = literals e

-- the literals of a nested plan
abbrev pub n_literals : NestedPlan → List Value
n_literals Nested = []
n_literals (Assign' made _ (Is p At)) = flat_map literals made ++ n_literals p
n_literals (Select' c _ (Is p At)) = literals c ++ n_literals p
n_literals (Project' columns _ (Is p At)) = n_literals p
n_literals (Unnest' g _ (Is p At)) = gen_literals g ++ n_literals p
n_literals (Order' keys _ (Is p At)) = n_literals p
n_literals (Distinct' _ (Is p At)) = n_literals p
n_literals (Limit' n k _ (Is p At)) = n_literals p
n_literals (Aggregate' made _ (Is p At)) = flat_map agg_literals made ++ n_literals p

abbrev pub group_literals : Option NestedPlan → List Value
group_literals (Some n) = n_literals n
group_literals None = []

-- the literals of the expressions that an activity evaluates
abbrev pub kind_literals : Kind → List Value
kind_literals (K.Assign made) = flat_map literals made
kind_literals (K.Select c) = literals c
kind_literals (K.Unnest g) = gen_literals g
kind_literals (K.Subplan n) = n_literals n
kind_literals (K.Check name c) = literals c
kind_literals (K.PreGroup keys n) = n_literals n
kind_literals (K.GroupBuild arg) = group_literals arg.nested
kind_literals (K.GroupEmit arg) = group_literals arg.nested
kind_literals (K.JoinBuild arg) = literals arg.rest
kind_literals (K.JoinProbe arg) = literals arg.rest
kind_literals (K.AggPart made) = flat_map agg_literals made
kind_literals _ = []
