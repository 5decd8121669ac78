-- The joins and groups of these tests are over rows of two values.
use Rattle.std.proofs.Common.{◌≡◌, ◌+◌, ◌≤◌, ℕ, Bool, true, false, if◌then◌else◌, List, [], ◌∷◌, Option, Some, None, length, refl, sym, ap, subst, ◌∙◌, arith}
use Rattle.al_func.specs.Rex.{IsSound}
use Rattle.al_func.specs.declared.rex.Rex.TheVariants as R
use Rattle.al_func.proofs.RexLaws.{is_sound-Col}
use Rattle.hy_job.specs.declared.job.GroupArg.{GroupArg}
use Rattle.hy_job.specs.declared.job.JoinArg.{JoinArg}
use Rattle.hy_job.specs.declared.nested.AggRex.{AggRex}
use Rattle.hy_job.specs.declared.nested.AggRex.TheVariants as C
use Rattle.hy_job.specs.declared.nested.NestedPlan.{NestedPlan}
use Rattle.hy_job.specs.declared.nested.NestedPlan.TheVariants as N
use Rattle.hy_job.specs.Sound.{AreColumns, IsGroupNested, built_fields, made_fields}
use Rattle.hy_test_runs.specs.Opens.{nested_shape, nested_hidden, row_hidden}
use Rattle.hy_test_runs.specs.Arguments.{GroupsPairs, JoinsPairs}

first_below : (keyed : Bool) → AreColumns 2 (if keyed then 0 ∷ [] else [])
first_below true = (omega arith, tt)
first_below false = tt

pub joins_pairs : (arg : JoinArg) (keyed : Bool) → arg.left ≡ (if keyed then 0 ∷ [] else []) → arg.right ≡ (if keyed then 0 ∷ [] else []) → IsSound 4 arg.rest → JoinsPairs arg
joins_pairs arg keyed left right rest = record {
  left = subst (AreColumns 2) (sym left) (first_below keyed);
  right = subst (AreColumns 2) (sym right) (first_below keyed);
  rest = rest;
  pairs = ap length (left ∙ sym right);
}

-- the number of rows, and the sum and the greatest of the second column
abbrev pub three_aggs : List AggRex
three_aggs = C.CountAll ∷ C.Sum (R.Col 1) ∷ C.Max (R.Col 1) ∷ []

counted_sound : IsGroupNested (Some (N.Aggregate three_aggs N.Nested)) 2
unfolding nested_shape nested_hidden row_hidden
counted_sound = (record { root = refl; each = (tt, (tt, ((is_sound-Col 2 1, tt), ((is_sound-Col 2 1, tt), tt)))) }, refl)

counted_built : built_fields (Some (N.Aggregate three_aggs N.Nested)) ≡ 6
unfolding nested_shape nested_hidden row_hidden
counted_built = refl

counted_made : made_fields (Some (N.Aggregate three_aggs N.Nested)) ≡ 3
unfolding nested_shape nested_hidden row_hidden
counted_made = refl

pub sums_fit : (arg : GroupArg) → arg.keys ≡ 0 ∷ [] → arg.nested ≡ Some (N.Aggregate three_aggs N.Nested) → GroupsPairs 7 4 arg
sums_fit arg keys nested = record {
  columns = subst (AreColumns 2) (sym keys) (omega arith, tt);
  nested = subst (λ (n : Option NestedPlan). IsGroupNested n 2) (sym nested) counted_sound;
  built_is = sym ((λ i. length (keys i) + built_fields (nested i)) ∙ ap (λ n. 1 + n) counted_built);
  given_is = sym ((λ i. length (keys i) + made_fields (nested i)) ∙ ap (λ n. 1 + n) counted_made);
  few_built = omega arith;
  few_given = omega arith;
}

pub sums_made : (keys : List ℕ) (made : List AggRex) (input : NestedPlan) → keys ≡ 0 ∷ [] → made ≡ three_aggs → input ≡ N.Nested → GroupsPairs 7 4 (record { keys = keys; nested = Some (N.Aggregate made input) })
sums_made keys made input is_keys is_made is_input = sums_fit (record { keys = keys; nested = Some (N.Aggregate made input) }) is_keys (λ i. Some (N.Aggregate (is_made i) (is_input i)))

pub different_fit : (arg : GroupArg) → arg.keys ≡ 0 ∷ 1 ∷ [] → arg.nested ≡ None → GroupsPairs 2 2 arg
different_fit arg keys nested = record {
  columns = subst (AreColumns 2) (sym keys) (omega arith, (omega arith, tt));
  nested = subst (λ (n : Option NestedPlan). IsGroupNested n 2) (sym nested) tt;
  built_is = sym (λ i. length (keys i) + built_fields (nested i));
  given_is = sym (λ i. length (keys i) + made_fields (nested i));
  few_built = omega arith;
  few_given = omega arith;
}
