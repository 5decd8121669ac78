-- Columns, new values, orders and aggregates of rows.
use Rattle.std.proofs.Common.{◌≡◌, ◌↔◌, ℕ, List, [], ◌∷◌, ◌++◌, map, refl, ap, ◌∙◌}
use Rattle.std.specs.Prelude.{◌%◌}
use Rattle.std.specs.List.Sorted.{IsSorted}
use Rattle.std.specs.Ordering.{ordering_then}
use Rattle.std.proofs.lemmas.List.Elements.{recursion_from_All}
use Rattle.al_value.specs.declared.value.Value.{Value}
use Rattle.al_value.specs.declared.value.Value.TheVariants as V
use Rattle.al_value.specs.Value.{value_cmp}
use Rattle.al_func.specs.Rex.{eval_rex}
use Rattle.al_func.specs.Items.{range, split}
use Rattle.al_agg.specs.declared.agg.Agg.TheVariants as G
use Rattle.al_agg.specs.Agg.{agg}
use Rattle.al_plan.specs.declared.expr.Var.{Var}
use Rattle.al_plan.specs.declared.expr.Expr.{Expr}
use Rattle.al_plan.specs.declared.plan.OrderKey.{OrderKey}
use Rattle.al_plan.specs.declared.plan.AggCall.{AggCall}
use Rattle.al_plan.specs.declared.plan.AggCall.TheVariants as Q
use Rattle.al_plan.specs.declared.plan.Generator.{Generator}
use Rattle.al_plan.specs.declared.plan.Generator.TheVariants as N
use Rattle.al_plan.specs.Eval.{Env, bind, eval}
use Rattle.al_plan.specs.Calls.{agg_call, items}
use Rattle.al_plan.specs.Allows.{renamed, with_new, directed}
use Rattle.al_plan.specs.Allows as A
use Rattle.al_plan.specs.Refines.{NoTwice}
use Rattle.al_plan.proofs.RowLaws.{bind-cut}
use Rattle.al_plan.proofs.Makes.{apart}
use Rattle.al_phys.specs.Parts.{values_at, part_of}
use Rattle.al_phys.specs.Partition.{key_hash}
use Rattle.al_phys.specs.Properties.{old_of}
use Rattle.hy_job.specs.Columns.{Row, column, agg_of, agg_value}
use Rattle.hy_job.specs.Columns as C
use Rattle.al_jobgen.specs.Columns.{columns_of, rex_of, gen_rex, agg_rex, agg_kind, made_rexes, made_aggs, sort_keys}
use Rattle.al_jobgen.specs.Agree.{IsAsWide, AreAsWide, made_vars}
use Rattle.al_jobgen.proofs.ColumnBind.{bind-after}
use Rattle.al_jobgen.proofs.ColumnLists.{map-agree, sorted-map, sorted-unmap}
use Rattle.al_jobgen.proofs.ColumnLaws.{column_at, expression}

-- ---- columns

pub values : (vars : List Var) (row : Row) → IsAsWide vars row → (vs : List Var) → C.cut (columns_of vars vs) row ≡ values_at vs (bind vars row)
values vars row w [] = refl
values vars row w (v ∷ vs) = λ i. column_at vars row w v.name i ∷ values vars row w vs i

pub cuts : (vars : List Var) (row : Row) → IsAsWide vars row → (vs : List Var) → bind vs (C.cut (columns_of vars vs) row) ≡ A.cut vs (bind vars row)
cuts vars row w vs = ap (bind vs) (values vars row w vs) ∙ bind-cut vs (bind vars row)

pub renames : (vars : List Var) (row : Row) → IsAsWide vars row → (made vs : List Var) → bind made (C.cut (columns_of vars vs) row) ≡ renamed made vs (bind vars row)
renames vars row w made vs = ap (bind made) (values vars row w vs)

old_values : (keys : List (Var × Var)) (r : Env) → values_at (old_of keys) r ≡ A.key_of keys r
old_values [] r = refl
old_values (k ∷ keys) r = ap (λ (vs : List Value). r k.1.name ∷ vs) (old_values keys r)

pub keys_same : (vars : List Var) (row : Row) → IsAsWide vars row → (keys : List (Var × Var)) → C.key_of (columns_of vars (old_of keys)) row ≡ A.key_of keys (bind vars row)
keys_same vars row w keys = values vars row w (old_of keys) ∙ old_values keys (bind vars row)

hash_same : (level : ℕ) (vs : List Value) → C.key_hash level vs ≡ key_hash level vs
unfolding C.key_hash key_hash
hash_same level vs = refl

pub hashes : (vars : List Var) (row : Row) → IsAsWide vars row → (n : ℕ) (vs : List Var) → C.part_of n (columns_of vars vs) row ≡ part_of n vs (bind vars row)
hashes vars row w n vs = ap (λ (k : ℕ). k % n) (hash_same 0 (C.cut (columns_of vars vs) row) ∙ ap (key_hash 0) (values vars row w vs))

-- ---- new values

made_values : (vars : List Var) (row : Row) → IsAsWide vars row → (made : List (Var × Expr)) → map (λ e. eval_rex e row) (made_rexes vars made) ≡ map (λ m. eval m.1 (bind vars row)) made
made_values vars row w [] = refl
made_values vars row w (m ∷ made) = λ i. expression vars row w m.1 i ∷ made_values vars row w made i

pub assigns : (vars : List Var) (row : Row) → IsAsWide vars row → (made : List (Var × Expr)) → NoTwice (vars ++ made_vars made) → bind (vars ++ made_vars made) (C.assigned (made_rexes vars made) row) ≡ A.assigned made (bind vars row)
assigns vars row w made once =
    ap (λ (vs : List Value). bind (vars ++ made_vars made) (row ++ vs)) (made_values vars row w made)
    ∙ bind-after vars (made_vars made) row (map (λ m. eval m.1 (bind vars row)) made) w (apart vars (made_vars made) once)

pub items_same : (vars : List Var) (row : Row) → IsAsWide vars row → (g : Generator) → C.items (gen_rex vars g) row ≡ items g (bind vars row)
unfolding C.items items
items_same vars row w (N.Range a b) = λ i. range (expression vars row w a i) (expression vars row w b i)
items_same vars row w (N.Split t s) = λ i. split (expression vars row w t i) (expression vars row w s i)

each_item : (vars : List Var) (row : Row) → IsAsWide vars row → (v : Var) → NoTwice (vars ++ v ∷ []) → (xs : List Value) → map (bind (vars ++ v ∷ [])) (map (λ x. row ++ x ∷ []) xs) ≡ map (λ x. with_new (v ∷ []) (x ∷ []) (bind vars row)) xs
each_item vars row w v once [] = refl
each_item vars row w v once (x ∷ xs) = λ i. bind-after vars (v ∷ []) row (x ∷ []) w (apart vars (v ∷ []) once) i ∷ each_item vars row w v once xs i

pub unnests : (vars : List Var) (row : Row) → IsAsWide vars row → (v : Var) (g : Generator) → NoTwice (vars ++ v ∷ []) → map (bind (vars ++ v ∷ [])) (C.expanded (gen_rex vars g) row) ≡ A.expanded v g (bind vars row)
unnests vars row w v g once =
    each_item vars row w v once (C.items (gen_rex vars g) row)
    ∙ ap (map (λ x. with_new (v ∷ []) (x ∷ []) (bind vars row))) (items_same vars row w g)

-- ---- order

pub orders : (vars : List Var) (a b : Row) → IsAsWide vars a → IsAsWide vars b → (keys : List OrderKey) → C.keys_cmp (sort_keys vars keys) a b ≡ A.keys_cmp keys (bind vars a) (bind vars b)
orders vars a b v w [] = refl
orders vars a b v w (k ∷ keys) =
    λ i. ordering_then (directed k.descending (value_cmp (column_at vars a v k.var.name i) (column_at vars b w k.var.name i))) (orders vars a b v w keys i)

pub sorts : (vars : List Var) (rows : List Row) → AreAsWide vars rows → (keys : List OrderKey) → IsSorted (C.keys_cmp (sort_keys vars keys)) rows ↔ IsSorted (A.keys_cmp keys) (map (bind vars) rows)
sorts vars rows w keys =
    let same : (a b : Row) → IsAsWide vars a → IsAsWide vars b → C.keys_cmp (sort_keys vars keys) a b ≡ A.keys_cmp keys (bind vars a) (bind vars b) = λ a b v w. orders vars a b v w keys in (
      sorted-map (IsAsWide vars) (C.keys_cmp (sort_keys vars keys)) (A.keys_cmp keys) (bind vars) same rows w,
      sorted-unmap (IsAsWide vars) (C.keys_cmp (sort_keys vars keys)) (A.keys_cmp keys) (bind vars) same rows w,
    )

-- ---- aggregates

pub kinds : (vars : List Var) (call : AggCall) → agg_of (agg_rex vars call) ≡ agg_kind call
kinds vars Q.CountAll = refl
kinds vars (Q.Count e) = refl
kinds vars (Q.Sum e) = refl
kinds vars (Q.Min e) = refl
kinds vars (Q.Max e) = refl

module _ (vars : List Var) (rows : List Row) (w : AreAsWide vars rows) where
  each_value : (e : Expr) → map (eval_rex (rex_of vars e)) rows ≡ map (eval e) (map (bind vars) rows)
  each_value e = map-agree (IsAsWide vars) (eval_rex (rex_of vars e)) (eval e) (bind vars) (λ r v. expression vars r v e) rows (recursion_from_All (IsAsWide vars) rows w)

  each_null : map (λ row. V.Null) rows ≡ map (λ r. V.Null) (map (bind vars) rows)
  each_null = map-agree (IsAsWide vars) (λ row. V.Null) (λ r. V.Null) (bind vars) (λ r v. refl) rows (recursion_from_All (IsAsWide vars) rows w)

  pub aggregates : (call : AggCall) → agg_value (agg_rex vars call) rows ≡ agg_call call (map (bind vars) rows)
  unfolding agg_call
  aggregates Q.CountAll = ap (agg G.CountAll) each_null
  aggregates (Q.Count e) = ap (agg G.Count) (each_value e)
  aggregates (Q.Sum e) = ap (agg G.Sum) (each_value e)
  aggregates (Q.Min e) = ap (agg G.Min) (each_value e)
  aggregates (Q.Max e) = ap (agg G.Max) (each_value e)

  agg_values_same : (made : List (Var × AggCall)) → C.agg_row (made_aggs vars made) rows ≡ map (λ m. agg_call m.1 (map (bind vars) rows)) made
  agg_values_same [] = refl
  agg_values_same (m ∷ made) = λ i. aggregates m.1 i ∷ agg_values_same made i

  pub aggregate_rows : (made : List (Var × AggCall)) → bind (made_vars made) (C.agg_row (made_aggs vars made) rows) ≡ A.agg_row made (map (bind vars) rows)
  aggregate_rows made = ap (bind (made_vars made)) (agg_values_same made)
