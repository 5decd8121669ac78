-- What each activity over rows of live variables names is there, and its rows are as wide as told.
use Rattle.std.proofs.Common.{◌≡◌, ℕ, ◌≤◌, List, [], ◌∷◌, ◌++◌, length, map, ap, sym, subst, ◌∙◌, arith, length-append}
use Rattle.std.specs.List.{AllByRecursion}
use Rattle.al_func.specs.Rex.{IsSound}
use Rattle.al_plan.specs.declared.expr.Var.{Var}
use Rattle.al_plan.specs.declared.expr.Expr.{Expr}
use Rattle.al_plan.specs.declared.plan.OrderKey.{OrderKey}
use Rattle.al_plan.specs.declared.plan.AggCall.{AggCall}
use Rattle.al_plan.specs.declared.plan.Generator.{Generator}
use Rattle.al_plan.specs.Eval.{Bytes}
use Rattle.al_plan.specs.Names.{agg_exprs, item_exprs}
use Rattle.al_plan.specs.Refines.{IsOver, AreLive, AreOver}
use Rattle.hy_job.specs.declared.job.Kind.TheVariants as K
use Rattle.hy_job.specs.Sound as sound
use Rattle.hy_job.specs.Sound.{Widths}
use Rattle.al_jobgen.specs.Columns.{column_of, columns_of, rex_of, gen_rex, sort_keys, agg_kind, made_rexes, made_aggs}
use Rattle.al_jobgen.specs.JobOf.{state_width}
use Rattle.al_jobgen.proofs.SoundColumns.{length-mapped, rexes_over, rex_over, columns_below, gen_over, keys_below, aggs_over, states_same, sum_widths, narrow_states}
use Rattle.al_jobgen.proofs.SoundPiece.{StepSound}

module _ (vars : List Var) (w : Widths) (taken : w.taken 0 ≡ length vars) where
  -- a claim over the width that is taken
  here : (P : ℕ → Type 0) → P (length vars) → P (w.taken 0)
  here P h = subst P (sym taken) h

  pub assign_step : (made : List (Var × Expr)) (new : List Var) → new ≡ vars ++ map (λ m. m.0) made → AreOver vars (map (λ m. m.1) made) → length new ≤ 64 → StepSound (K.Assign (made_rexes vars made)) (length new) w
  assign_step made new e over few =
      record {
        in_range = here (λ n. sound.AreSound n (made_rexes vars made)) (rexes_over vars made over);
        nested = tt;
        key_pairs = tt;
        all_keys = tt;
        states = tt;
        arities = omega (arith, taken, ap (λ (vs : List Var). length vs) e, length-append vars (map (λ (m : Var × Expr). m.0) made), length-mapped (λ (m : Var × Expr). m.0) made, length-mapped (λ (m : Var × Expr). rex_of vars m.1) made);
        narrow = omega (arith, few);
      }

  pub select_step : (c : Expr) → IsOver vars c → length vars ≤ 64 → StepSound (K.Select (rex_of vars c)) (length vars) w
  select_step c over few =
      record { in_range = here (λ n. IsSound n (rex_of vars c)) (rex_over vars c over); nested = tt; key_pairs = tt; all_keys = tt; states = tt; arities = sym taken; narrow = omega (arith, few) }

  pub check_step : (name : Bytes) (c : Expr) → IsOver vars c → length vars ≤ 64 → StepSound (K.Check name (rex_of vars c)) (length vars) w
  check_step name c over few =
      record { in_range = here (λ n. IsSound n (rex_of vars c)) (rex_over vars c over); nested = tt; key_pairs = tt; all_keys = tt; states = tt; arities = sym taken; narrow = omega (arith, few) }

  pub project_step : (kept : List Var) → AreLive vars kept → length kept ≤ 64 → StepSound (K.Project (columns_of vars kept)) (length kept) w
  project_step kept live few =
      record {
        in_range = here (λ n. sound.AreColumns n (columns_of vars kept)) (columns_below vars kept live);
        nested = tt;
        key_pairs = tt;
        all_keys = tt;
        states = tt;
        arities = sym (length-mapped _ kept);
        narrow = omega (arith, few);
      }

  pub result_step : (kept : List Var) → AreLive vars kept → length kept ≤ 64 → StepSound (K.Result (columns_of vars kept)) (length kept) w
  result_step kept live few =
      record {
        in_range = here (λ n. sound.AreColumns n (columns_of vars kept)) (columns_below vars kept live);
        nested = tt;
        key_pairs = tt;
        all_keys = tt;
        states = tt;
        arities = sym (length-mapped _ kept);
        narrow = omega (arith, few);
      }

  pub unnest_step : (g : Generator) (v : Var) (new : List Var) → new ≡ vars ++ v ∷ [] → AreOver vars (item_exprs g) → length new ≤ 64 → StepSound (K.Unnest (gen_rex vars g)) (length new) w
  unnest_step g v new e over few =
      record {
        in_range = here (λ n. sound.AreSound n (sound.item_exprs (gen_rex vars g))) (gen_over vars g over);
        nested = tt;
        key_pairs = tt;
        all_keys = tt;
        states = tt;
        arities = omega (arith, taken, ap (λ (vs : List Var). length vs) e, length-append vars (v ∷ []));
        narrow = omega (arith, few);
      }

  pub sort_step : (keys : List OrderKey) → AreLive vars (map (λ k. k.var) keys) → length vars ≤ 64 → StepSound (K.SortBuild (sort_keys vars keys)) (length vars) w
  sort_step keys live few =
      record { in_range = here (λ n. sound.AreKeys n (sort_keys vars keys)) (keys_below vars keys live); nested = tt; key_pairs = tt; all_keys = tt; states = tt; arities = sym taken; narrow = omega (arith, few) }

  pub limit_step : (m k : ℕ) → length vars ≤ 64 → StepSound (K.Limit m k) (length vars) w
  limit_step m k few = record { in_range = tt; nested = tt; key_pairs = tt; all_keys = tt; states = tt; arities = sym taken; narrow = omega (arith, few) }

  pub local_limit_step : (m : ℕ) → length vars ≤ 64 → StepSound (K.LocalLimit m) (length vars) w
  local_limit_step m few = record { in_range = tt; nested = tt; key_pairs = tt; all_keys = tt; states = tt; arities = sym taken; narrow = omega (arith, few) }

  pub agg_part_step : (made : List (Var × AggCall)) → AllByRecursion (λ m. AreOver vars (agg_exprs m.1)) made → length made ≤ 64 → StepSound (K.AggPart (made_aggs vars made)) (state_width (map (λ m. agg_kind m.1) made)) w
  agg_part_step made over few =
      record {
        in_range = here (λ n. sound.AreSoundAggs n (made_aggs vars made)) (aggs_over vars made over);
        nested = tt;
        key_pairs = tt;
        all_keys = tt;
        states = tt;
        arities = sym (states_same vars made);
        narrow = omega (arith, narrow_states (map (λ m. agg_kind m.1) made), length-mapped (λ (m : Var × AggCall). agg_kind m.1) made, few);
      }

pub sort_emit_step : (vars : List Var) (keys : List OrderKey) (w : Widths) → w.handed ≡ length vars → AreLive vars (map (λ k. k.var) keys) → length vars ≤ 64 → StepSound (K.SortEmit (sort_keys vars keys)) (length vars) w
sort_emit_step vars keys w handed live few =
    record {
      in_range = subst (λ n. sound.AreKeys n (sort_keys vars keys)) (sym handed) (keys_below vars keys live);
      nested = tt;
      key_pairs = tt;
      all_keys = tt;
      states = tt;
      arities = sym handed;
      narrow = omega (arith, few);
    }

-- the rows of partial states
pub agg_final_step : (made : List (Var × AggCall)) (w : Widths) → w.taken 0 ≡ state_width (map (λ m. agg_kind m.1) made) → (arity : ℕ) → arity ≡ length made → arity ≤ 64 → StepSound (K.AggFinal (map (λ m. agg_kind m.1) made)) arity w
agg_final_step made w taken arity e few =
    record {
      in_range = tt;
      nested = tt;
      key_pairs = tt;
      all_keys = tt;
      states = taken ∙ sum_widths (map (λ m. agg_kind m.1) made);
      arities = e ∙ sym (length-mapped (λ (m : Var × AggCall). agg_kind m.1) made);
      narrow = omega (arith, few);
    }

pub union_step : (lvars rvars ls rs : List Var) (w : Widths) → w.taken 0 ≡ length lvars → w.taken 1 ≡ length rvars → AreLive lvars ls → AreLive rvars rs → (arity : ℕ) → length ls ≡ arity → length rs ≡ arity → arity ≤ 64
    → StepSound (K.Union (columns_of lvars ls) (columns_of rvars rs)) arity w
union_step lvars rvars ls rs w first second left right arity e f few =
    record {
      in_range = (subst (λ n. sound.AreColumns n (columns_of lvars ls)) (sym first) (columns_below lvars ls left), subst (λ n. sound.AreColumns n (columns_of rvars rs)) (sym second) (columns_below rvars rs right));
      nested = tt;
      key_pairs = tt;
      all_keys = tt;
      states = tt;
      arities = (omega (arith, e, length-mapped (λ (v : Var). column_of lvars v.name) ls), omega (arith, f, length-mapped (λ (v : Var). column_of rvars v.name) rs));
      narrow = omega (arith, few);
    }
