-- What sources, and activities with a nested plan or with keys, name is there, and their rows are as wide as told.
use Rattle.std.proofs.Common.{◌≡◌, ℕ, zero, suc, ◌≤◌, ◌+◌, true, Some, None, List, [], ◌++◌, length, map, refl, ap, sym, subst, ◌∙◌, arith, length-append}
use Rattle.std.specs.List.{range_with_len}
use Rattle.std.proofs.lemmas.List.FromFn.{length-range_with_len}
use Rattle.al_plan.specs.declared.expr.Var.{Var}
use Rattle.al_plan.specs.declared.plan.Plan.{Plan, roll-Plan, more_of-Plan as Is, end_of-Plan as At}
use Rattle.al_plan.specs.declared.plan.Plan.TheOpen as L
use Rattle.al_plan.specs.declared.plan.Plan.TheVariants as P
use denote.Hole.Carrier.{roll}
use Rattle.al_plan.specs.Eval.{Bytes}
use Rattle.al_plan.specs.Allows.{live}
use Rattle.al_plan.specs.Refines.{AreLive, is_aggregate}
use Rattle.al_plan.proofs.Bools.{no}
use Rattle.al_plan.proofs.Mono.{live_is}
use Rattle.al_plan.proofs.PlanLaws.{aggregate-roll}
use Rattle.al_phys.specs.declared.phys.Phys.{Phys}
use Rattle.al_phys.specs.Operators.{phys_live}
use Rattle.al_phys.specs.Placed.{IsInner, is_row_wise}
use Rattle.al_phys.specs.Properties.{old_of}
use Rattle.al_phys.proofs.LiveLaws.{inner_live}
use Rattle.hy_job.specs.declared.job.Kind.TheVariants as K
use Rattle.al_jobgen.specs.Opens.{plan_shape, plan_hidden, nested_shape, nested_hidden, row_hidden}
use Rattle.hy_job.specs.Nested as H
use Rattle.hy_job.specs.Nested.{n_width}
use Rattle.hy_job.specs.Sound as sound
use Rattle.hy_job.specs.Sound.{Widths}
use Rattle.al_jobgen.specs.Columns.{columns_of, nested_of, aggs_of}
use Rattle.al_jobgen.specs.JobOf.{state_width, group_arg, all_columns}
use Rattle.al_jobgen.proofs.NestedChains.{row_wise_same}
use Rattle.al_jobgen.proofs.SoundColumns.{length-mapped, columns_below, states_same, narrow_states}
use Rattle.al_jobgen.proofs.SoundNested.{well}
use Rattle.al_jobgen.proofs.SoundPiece.{StepSound}

-- ---- sources

pub scan_step : (set : Bytes) (arity : ℕ) (w : Widths) → arity ≤ 64 → StepSound (K.Scan set) arity w
scan_step set arity w few = record { in_range = tt; nested = tt; key_pairs = tt; all_keys = tt; states = tt; arities = tt; narrow = omega (arith, few) }

pub one_step : (w : Widths) → StepSound K.One 0 w
one_step w = record { in_range = tt; nested = tt; key_pairs = tt; all_keys = tt; states = tt; arities = refl; narrow = omega arith }

-- ---- the aggregates at the root of a nested plan

-- the aggregates by column are those of the plan, and there are as many as live variables
record IsRooted (inner : Plan) (vars : List Var) : Type 0 where
  pub root : sound.is_aggregate (nested_of vars inner) ≡ true
  pub states : sound.states_width (H.root_aggs (nested_of vars inner)) ≡ state_width (aggs_of inner)
  pub count : length (H.root_aggs (nested_of vars inner)) ≡ length (live inner [])
  pub kinds : length (aggs_of inner) ≡ length (live inner [])

rooted : (inner : Plan) → is_aggregate inner ≡ true → (vars : List Var) → IsRooted inner vars
unfolding plan_shape plan_hidden nested_shape nested_hidden row_hidden roll-Plan roll nested_of
rooted (P.Scan set vs) e vars = absurd (no (sym e ∙ aggregate-roll (L.Scan set vs)))
rooted P.Empty e vars = absurd (no (sym e ∙ aggregate-roll L.Empty))
rooted P.Nested e vars = absurd (no (sym e ∙ aggregate-roll L.Nested))
rooted (P.Assign' made _ (Is p At)) e vars = absurd (no (sym e ∙ aggregate-roll (L.Assign made p)))
rooted (P.Select' c _ (Is p At)) e vars = absurd (no (sym e ∙ aggregate-roll (L.Select c p)))
rooted (P.Project' vs _ (Is p At)) e vars = absurd (no (sym e ∙ aggregate-roll (L.Project vs p)))
rooted (P.Unnest' v g _ (Is p At)) e vars = absurd (no (sym e ∙ aggregate-roll (L.Unnest v g p)))
rooted (P.Subplan' _ (Is m At) _ (Is p At)) e vars = absurd (no (sym e ∙ aggregate-roll (L.Subplan m p)))
rooted (P.Join' c _ (Is l At) _ (Is r At)) e vars = absurd (no (sym e ∙ aggregate-roll (L.Join c l r)))
rooted (P.LeftJoin' c _ (Is l At) _ (Is r At)) e vars = absurd (no (sym e ∙ aggregate-roll (L.LeftJoin c l r)))
rooted (P.Group' keys _ (Is m At) _ (Is p At)) e vars = absurd (no (sym e ∙ aggregate-roll (L.Group keys m p)))
rooted (P.Distinct' _ (Is p At)) e vars = absurd (no (sym e ∙ aggregate-roll (L.Distinct p)))
rooted (P.Union' made ls rs _ (Is l At) _ (Is r At)) e vars = absurd (no (sym e ∙ aggregate-roll (L.Union made ls rs l r)))
rooted (P.Aggregate' made _ (Is p At)) e vars =
    let lives : length (live (roll-Plan (L.Aggregate made p)) []) ≡ length made = ap (λ (vs : List Var). length vs) (live_is (L.Aggregate made p) []) ∙ length-mapped _ made in
    record { root = refl; states = states_same (live p vars) made; count = length-mapped _ made ∙ sym lives; kinds = length-mapped _ made ∙ sym lives }
rooted (P.Order' keys _ (Is p At)) e vars = absurd (no (sym e ∙ aggregate-roll (L.Order keys p)))
rooted (P.Limit' k m _ (Is p At)) e vars = absurd (no (sym e ∙ aggregate-roll (L.Limit k m p)))
rooted (P.Check' name c _ (Is p At)) e vars = absurd (no (sym e ∙ aggregate-roll (L.Check name c p)))
rooted (P.Result' vs _ (Is p At)) e vars = absurd (no (sym e ∙ aggregate-roll (L.Result vs p)))

-- ---- a nested plan that may stand over rows of these variables

module _ (vars : List Var) (inner : Plan) (fits : IsInner inner vars) where
  nested_sound : sound.SoundNested (nested_of vars inner) (length vars)
  nested_sound = record { root = (rooted inner fits.1 vars).root; each = (well inner vars fits.0).each }

  nested_width : n_width (nested_of vars inner) (length vars) ≡ length (live inner [])
  nested_width = (well inner vars fits.0).width ∙ ap (λ (vs : List Var). length vs) (inner_live inner fits.1 vars)

  group_sound : is_row_wise inner ≡ true → sound.IsGroupNested (Some (nested_of vars inner)) (length vars)
  group_sound wise = (nested_sound, row_wise_same inner vars fits.0 ∙ wise)

key_columns : (vars : List Var) (keys : List (Var × Var)) → length (columns_of vars (old_of keys)) ≡ length keys
key_columns vars keys = length-mapped _ (old_of keys) ∙ length-mapped _ keys

-- as many new variables as keys and aggregates
keyed_live : (keys : List (Var × Var)) (more : List Var) → length (map (λ k. k.0) keys ++ more) ≡ length keys + length more
keyed_live keys more = length-append (map (λ k. k.0) keys) more ∙ ap (λ n. n + length more) (length-mapped _ keys)

pub subplan_step : (vars : List Var) (w : Widths) → w.taken 0 ≡ length vars → (inner : Plan) → IsInner inner vars → (new : List Var) → new ≡ vars ++ live inner [] → length new ≤ 64 → StepSound (K.Subplan (nested_of vars inner)) (length new) w
subplan_step vars w taken inner fits new e few =
    let wide : length new ≡ length vars + n_width (nested_of vars inner) (length vars) = omega (arith, ap (λ (vs : List Var). length vs) e, length-append vars (live inner []), nested_width vars inner fits) in
    record {
      in_range = tt;
      nested = subst (λ n. sound.SoundNested (nested_of vars inner) n) (sym taken) (nested_sound vars inner fits);
      key_pairs = tt;
      all_keys = tt;
      states = tt;
      arities = subst (λ n. length new ≡ n + n_width (nested_of vars inner) n) (sym taken) wide;
      narrow = omega (arith, few);
    }

pub pre_group_step : (vars : List Var) (w : Widths) → w.taken 0 ≡ length vars → (keys : List (Var × Var)) (inner : Plan) → AreLive vars (old_of keys) → IsInner inner vars → (new : List Var) → new ≡ map (λ k. k.0) keys ++ live inner [] → length new ≤ 64
    → StepSound (K.PreGroup (columns_of vars (old_of keys)) (nested_of vars inner)) (length new) w
pre_group_step vars w taken keys inner over fits new e few =
    let wide : length new ≡ length (columns_of vars (old_of keys)) + n_width (nested_of vars inner) (length vars)
    = omega (arith, ap (λ (vs : List Var). length vs) e, keyed_live keys (live inner []), key_columns vars keys, nested_width vars inner fits) in
    record {
      in_range = subst (λ n. sound.AreColumns n (columns_of vars (old_of keys))) (sym taken) (columns_below vars (old_of keys) over);
      nested = subst (λ n. sound.SoundNested (nested_of vars inner) n) (sym taken) (nested_sound vars inner fits);
      key_pairs = tt;
      all_keys = tt;
      states = tt;
      arities = subst (λ n. length new ≡ length (columns_of vars (old_of keys)) + n_width (nested_of vars inner) n) (sym taken) wide;
      narrow = omega (arith, few);
    }

pub group_build_step : (p : Phys) (w : Widths) → w.taken 0 ≡ length (phys_live p) → (keys : List (Var × Var)) (inner : Plan) → AreLive (phys_live p) (old_of keys) → IsInner inner (phys_live p) → is_row_wise inner ≡ true
    → length (map (λ k. k.0) keys ++ live inner []) ≤ 64 → StepSound (K.GroupBuild (group_arg (columns_of (phys_live p) (old_of keys)) (Some inner) p)) (length keys + state_width (aggs_of inner)) w
group_build_step p w taken keys inner over fits wise few =
    let vars = phys_live p in
    let root = rooted inner fits.1 vars in
    record {
      in_range = subst (λ n. sound.AreColumns n (columns_of vars (old_of keys))) (sym taken) (columns_below vars (old_of keys) over);
      nested = subst (λ n. sound.IsGroupNested (Some (nested_of vars inner)) n) (sym taken) (group_sound vars inner fits wise);
      key_pairs = tt;
      all_keys = tt;
      states = tt;
      arities = omega (arith, key_columns vars keys, root.states);
      narrow = omega (arith, few, keyed_live keys (live inner []), root.kinds, narrow_states (aggs_of inner));
    }

pub group_emit_step : (p : Phys) (w : Widths) → w.built ≡ length (phys_live p) → (keys : List (Var × Var)) (inner : Plan) → AreLive (phys_live p) (old_of keys) → IsInner inner (phys_live p) → is_row_wise inner ≡ true
    → (new : List Var) → new ≡ map (λ k. k.0) keys ++ live inner [] → length new ≤ 64 → StepSound (K.GroupEmit (group_arg (columns_of (phys_live p) (old_of keys)) (Some inner) p)) (length new) w
group_emit_step p w built keys inner over fits wise new e few =
    let vars = phys_live p in
    let root = rooted inner fits.1 vars in
    record {
      in_range = subst (λ n. sound.AreColumns n (columns_of vars (old_of keys))) (sym built) (columns_below vars (old_of keys) over);
      nested = subst (λ n. sound.IsGroupNested (Some (nested_of vars inner)) n) (sym built) (group_sound vars inner fits wise);
      key_pairs = tt;
      all_keys = tt;
      states = tt;
      arities = omega (arith, ap (λ (vs : List Var). length vs) e, keyed_live keys (live inner []), key_columns vars keys, root.count);
      narrow = omega (arith, few);
    }

-- ---- distincts

range_below : (a n width : ℕ) → a + n ≤ width → sound.AreColumns width (range_with_len a n)
range_below a zero width h = tt
range_below a (suc n) width h = (omega (arith, h), range_below (a + 1) n width (omega (arith, h)))

all_below : (n : ℕ) → sound.AreColumns n (range_with_len 0 n)
all_below n = range_below 0 n n (omega arith)

pub distinct_build_step : (p : Phys) (w : Widths) → w.taken 0 ≡ length (phys_live p) → length (phys_live p) ≤ 64 → StepSound (K.GroupBuild (group_arg (all_columns p) None p)) (length (phys_live p)) w
distinct_build_step p w taken few =
    record {
      in_range = subst (λ n. sound.AreColumns n (all_columns p)) (sym taken) (all_below (length (phys_live p)));
      nested = tt;
      key_pairs = tt;
      all_keys = ap (range_with_len 0) (sym taken);
      states = tt;
      arities = omega (arith, length-range_with_len 0 (length (phys_live p)));
      narrow = omega (arith, few);
    }

pub distinct_emit_step : (p : Phys) (w : Widths) → w.built ≡ length (phys_live p) → length (phys_live p) ≤ 64 → StepSound (K.GroupEmit (group_arg (all_columns p) None p)) (length (phys_live p)) w
distinct_emit_step p w built few =
    record {
      in_range = subst (λ n. sound.AreColumns n (all_columns p)) (sym built) (all_below (length (phys_live p)));
      nested = tt;
      key_pairs = tt;
      all_keys = ap (range_with_len 0) (sym built);
      states = tt;
      arities = omega (arith, length-range_with_len 0 (length (phys_live p)));
      narrow = omega (arith, few);
    }
