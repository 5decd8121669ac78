-- The worked cases of groups, states and joins.
use Rattle.std.proofs.Common.{◌≡◌, Some, [], ◌∷◌, length, refl, ap, arith, inl, inr}
use Rattle.std.specs.Int.{int_wrap}
use Rattle.std.proofs.lemmas.List.Sorted.{IsPermutation-refl}
use Rattle.al_value.specs.declared.value.Value.TheVariants as V
use Rattle.al_func.specs.declared.rex.Rex.TheVariants as R
use Rattle.al_func.specs.Rex.{IsSound}
use Rattle.al_func.proofs.RexLaws.{is_sound_laws, eval_rex-Lit}
use Rattle.al_agg.specs.Agg.{agg}
use Rattle.al_agg.specs.Part.{state_fields, IsState, high_half, low_half}
use Rattle.hy_job.specs.declared.nested.AggRex.TheVariants as C
use Rattle.hy_job.specs.Nested.{root_aggs}
use Rattle.hy_job.specs.Sound.{IsGroupNested, states_width, built_fields, made_fields}
use Rattle.hy_job.specs.Cases.{counting, GroupingIsSound, StatesHaveFields, StatesAreJoined, NullHasNoPartner, int}
use Rattle.hy_job.specs.declared.nested.NestedPlan.TheBlock.{shape-the_row-NestedPlan-0, hidden-the_row-NestedPlan-0}
use denote.Hole.Carrier.{hidden}

counts : root_aggs counting ≡ C.CountAll ∷ C.Sum (R.Col 1) ∷ []
unfolding shape-the_row-NestedPlan-0 hidden-the_row-NestedPlan-0 hidden
counts = refl

five : built_fields (Some counting) ≡ 5
five = ap states_width counts

two : made_fields (Some counting) ≡ 2
two = ap length counts

group_nested : IsGroupNested (Some counting) 2
unfolding shape-the_row-NestedPlan-0 hidden-the_row-NestedPlan-0 hidden
group_nested = (record { root = refl; each = (tt, (tt, ((column_one, tt), tt))) }, refl)
  where
    column_one : IsSound 2 (R.Col 1)
    column_one = simp is_sound_laws

pub grouping_sound : GroupingIsSound
grouping_sound set = record {
  some_partition = omega arith;
  few_partitions = omega arith;
  few = omega arith;
  numbered = refl;
  edges_rise = (omega arith, (omega arith, tt));
  edges_end = (omega arith, (omega arith, tt));
  blocks_rise = (omega arith, tt);
  blocks_end = (omega arith, tt);
  fed = (IsPermutation-refl _, (IsPermutation-refl _, (IsPermutation-refl _, (IsPermutation-refl _, tt))));
  leaving = (omega arith, (omega arith, (omega arith, (omega arith, tt))));
  paired = (refl, tt);
  firsts = (refl, (refl, (refl, (refl, tt))));
  seconds = (refl, (refl, (refl, (refl, tt))));
  merged = (tt, (tt, tt));
  in_range = (tt, ((omega arith, tt), ((omega arith, tt), ((omega arith, (omega arith, (omega arith, tt))), tt))));
  wires = ((omega arith, tt), (tt, tt));
  nested = (tt, (group_nested, (group_nested, (tt, tt))));
  key_pairs = (tt, (tt, (tt, (tt, tt))));
  all_keys = (tt, (tt, (tt, (tt, tt))));
  states = (tt, (tt, (tt, (tt, tt))));
  arities = (tt, (omega (arith, five), (omega (arith, two), (refl, tt))));
  narrow = (omega arith, (omega arith, (omega arith, (omega arith, tt))));
}

pub states_have_fields : StatesHaveFields
states_have_fields set built emitted s = omega (arith, s.arities.1.0, five)

pub states_joined : StatesAreJoined
unfolding state_fields agg IsState high_half low_half int_wrap
states_joined = (int 3 ∷ [], (int 3, [], refl, ((V.Null ∷ V.Null ∷ []) ∷ (V.Null ∷ []) ∷ [] ∷ [], (inl refl, (inl refl, (inr ((λ h. h), refl), tt))), refl), refl), refl)

pub null_alone : NullHasNoPartner
null_alone = simp eval_rex-Lit
