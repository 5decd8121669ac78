-- The worked cases of states.
use Rattle.std.proofs.Common.{◌≡◌, List, [], ◌∷◌, map, refl, ap, sym, ◌∙◌}
use Rattle.std.specs.Int.{int_wrap}
use Rattle.al_value.specs.declared.value.Value.{Value}
use Rattle.al_value.specs.declared.value.Value.TheVariants as V
use Rattle.al_func.specs.declared.rex.Rex.TheVariants as R
use Rattle.al_func.specs.Rex.{eval_rex}
use Rattle.al_func.proofs.RexLaws.{eval_rex-Col}
use Rattle.al_agg.specs.Agg.{ints_of, present, wrapped}
use Rattle.std.specs.Prelude.{pos, length}
use Rattle.al_agg.specs.Part.{some_sum, agg_of, Stands}
use Rattle.hy_job.specs.Cases.{int}
use Rattle.hy_job.specs.StateCases.{three_and_null, BothAreSeen, NullIsPassedOver, StatesStandInOrder, EachHasState}

-- the values of the one column
values : map (eval_rex (R.Col 0)) three_and_null ≡ int 3 ∷ V.Null ∷ []
values = λ i. eval_rex-Col 0 (int 3 ∷ []) i ∷ eval_rex-Col 0 (V.Null ∷ []) i ∷ []

pub both_seen : BothAreSeen
unfolding agg_of Stands int_wrap
both_seen = ((refl, refl), ((refl, ap (λ (vs : List Value). some_sum (ints_of vs)) (sym values)), tt))

pub null_passed : NullIsPassedOver
unfolding agg_of Stands int_wrap
null_passed h = let one : pos 2 ≡ wrapped (pos (length (present (int 3 ∷ V.Null ∷ [])))) = h.0.1 ∙ ap (λ (vs : List Value). wrapped (pos (length (present vs)))) values in absurd (cc)

pub in_order : StatesStandInOrder
unfolding agg_of Stands
in_order h = let kind = h.0.0 in absurd (cc)

pub each_has : EachHasState
each_has h = h.1
