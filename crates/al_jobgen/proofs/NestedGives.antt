-- Rows with the values of a nested plan: behind each row, for each group and for each stretch.
use Rattle.std.proofs.Common.{◌≡◌, ℕ, Bool, true, List, [], ◌∷◌, ◌++◌, map, length, ap, subst, ◌∙◌}
use Rattle.std.specs.List.{AllByRecursion}
use Rattle.std.proofs.lemmas.List.{length-map}
use Rattle.std.proofs.lemmas.List.Sorted.{IsPermutation-map, All-permutation}
use Rattle.std.proofs.lemmas.List.Elements.{All-from_recursion, recursion_from_All}
use Rattle.al_value.specs.declared.value.Value.{Value}
use Rattle.al_plan.specs.declared.expr.Var.{Var}
use Rattle.al_plan.specs.declared.plan.Plan.{Plan}
use Rattle.al_plan.specs.Eval.{Env, bind}
use Rattle.al_plan.specs.Allows.{Sets, Allows, live, beside, with_new, new_of}
use Rattle.al_plan.specs.Allows as A
use Rattle.al_plan.specs.Refines.{FitsEach, NoTwice, makes}
use Rattle.al_plan.proofs.Makes.{Disjoint, apart, twice_left, twice_right}
use Rattle.al_phys.specs.Gives as G
use Rattle.al_phys.specs.Placed.{IsInner}
use Rattle.al_phys.specs.Properties.{old_of}
use Rattle.al_phys.proofs.LiveLaws.{inner_live, inner_made}
use Rattle.hy_job.specs.Columns.{Row}
use Rattle.hy_job.specs.Columns as C
use Rattle.hy_job.specs.Nested.{NAllows}
use Rattle.hy_job.specs.Nested as H
use Rattle.al_jobgen.specs.Columns.{columns_of, nested_of}
use Rattle.al_jobgen.specs.Agree.{IsAsWide, AreAsWide, bind_group}
use Rattle.al_jobgen.proofs.ColumnBind.{bind-append, bind-after}
use Rattle.al_jobgen.proofs.ColumnLists.{zip-map, zip-all}
use Rattle.al_jobgen.proofs.ColumnGroups.{groupings, wide_groups, stretches, wide_stretches, IsWideGroup}
use Rattle.al_jobgen.proofs.ColumnRows.{keys_same}
use Rattle.al_jobgen.proofs.ColumnMaps.{wide-more}
use Rattle.al_jobgen.proofs.NestedLaws.{nested_allows}

pub nested_plans : (n : Plan) (vars : List Var) → FitsEach n true vars → NoTwice (vars ++ makes n) → (outer rows : List Row) → AreAsWide vars outer → NAllows (nested_of vars n) outer rows → (b : Bool) (sets : Sets)
    → Allows n b sets vars (map (bind vars) outer) (map (bind (live n vars)) rows) × AreAsWide (live n vars) rows
nested_plans n vars fit once outer rows w h b sets = nested_allows n vars fit (twice_left vars (makes n) once) (twice_right vars (makes n) once) (apart vars (makes n) once) outer rows w h b sets

module _ (n : Plan) (vars : List Var) (fit : IsInner n vars) (once : NoTwice (vars ++ makes n)) (b : Bool) (sets : Sets) where
  inner_apart : Disjoint vars (live n vars)
  inner_apart q e = inner_made n fit.1 vars q (apart vars (makes n) once q e)

  -- the one row of a nested plan
  one_row : (outer : List Row) (inner : Row) → AllByRecursion (IsAsWide vars) outer → NAllows (nested_of vars n) outer (inner ∷ [])
      → Allows n b sets vars (map (bind vars) outer) (bind (live n vars) inner ∷ []) × IsAsWide (live n vars) inner
  one_row outer inner w h =
      let both = nested_plans n vars fit.0 once outer (inner ∷ []) (All-from_recursion (IsAsWide vars) outer w) h b sets in
      (both.0, (recursion_from_All (IsAsWide (live n vars)) (inner ∷ []) both.1).0)

  -- bound to the nested plan's own variables
  rename_inner : (front : List Var) (rows : List Row) → map (bind (front ++ live n vars)) rows ≡ map (bind (front ++ live n [])) rows
  rename_inner front rows = ap (λ (vs : List Var). map (bind (front ++ vs)) rows) (inner_live n fit.1 vars)

  wide_inner : (front : List Var) (rows : List Row) → AreAsWide (front ++ live n vars) rows → AreAsWide (front ++ live n []) rows
  wide_inner front rows w = subst (λ (vs : List Var). AreAsWide (front ++ vs) rows) (inner_live n fit.1 vars) w

  -- ---- behind each row

  abbrev Behind : Row → Row → Type 0
  Behind r row = H.Gives (nested_of vars n) (r ∷ []) (λ inner. row ≡ r ++ inner)

  behind : (r row : Row) → IsAsWide vars r → Behind r row → A.Gives (Allows n) b sets vars (bind vars r ∷ []) (λ inner. bind (vars ++ live n vars) row ≡ beside (live n vars) inner (bind vars r))
  behind r row w h = let one = one_row (r ∷ []) h.0 (w, tt) h.1 in (bind (live n vars) h.0, one.0, ap (bind (vars ++ live n vars)) h.2 ∙ bind-after vars (live n vars) r h.0 w inner_apart)

  wide_behind : (r row : Row) → IsAsWide vars r → Behind r row → IsAsWide (vars ++ live n vars) row
  wide_behind r row w h = let one = one_row (r ∷ []) h.0 (w, tt) h.1 in ap length h.2 ∙ wide-more vars (live n vars) r h.0 w one.1

  all_behind : (rows out : List Row) → AreAsWide vars rows → H.IsNested (nested_of vars n) rows out → G.IsNested n b sets vars (map (bind vars) rows) (map (bind (vars ++ live n [])) out) × AreAsWide (vars ++ live n []) out
  all_behind rows out w h =
      let ws = recursion_from_All (IsAsWide vars) rows w in (
        subst (G.IsNested n b sets vars (map (bind vars) rows)) (rename_inner vars out)
            (zip-map Behind (λ r row. A.Gives (Allows n) b sets vars (r ∷ []) (λ inner. row ≡ beside (live n vars) inner r)) (bind vars) (bind (vars ++ live n vars)) (IsAsWide vars) behind rows out ws h),
        wide_inner vars out (All-from_recursion (IsAsWide (vars ++ live n vars)) out (zip-all (IsAsWide vars) (IsAsWide (vars ++ live n vars)) Behind wide_behind rows out ws h)),
      )

  -- ---- for each group

  module _ (keys : List (Var × Var)) where
    abbrev columns : List ℕ
    columns = columns_of vars (old_of keys)

    abbrev Made : C.Group → Row → Type 0
    Made g row = H.Gives (nested_of vars n) (C.rows_in g) (λ inner. row ≡ C.key_of columns g.0 ++ inner)

    abbrev MadeHere : A.Group → Env → Type 0
    MadeHere g row = A.Gives (Allows n) b sets vars (A.rows_in g) (λ inner. row ≡ with_new (new_of keys) (A.key_of keys g.0) inner)

    key_wide : (r : Row) → length (C.key_of columns r) ≡ length (new_of keys)
    key_wide r = simp length-map

    made : (g : C.Group) (row : Row) → IsWideGroup vars keys g → Made g row → MadeHere (bind_group vars g) (bind (new_of keys ++ live n vars) row)
    made g row w h =
        let one = one_row (C.rows_in g) h.0 w h.1 in (
          bind (live n vars) h.0,
          one.0,
          ap (bind (new_of keys ++ live n vars)) h.2 ∙ bind-append (new_of keys) (live n vars) (C.key_of columns g.0) h.0 (key_wide g.0)
              ∙ ap (λ (k : List Value). with_new (new_of keys) k (bind (live n vars) h.0)) (keys_same vars g.0 w.0 keys),
        )

    wide_made : (g : C.Group) (row : Row) → IsWideGroup vars keys g → Made g row → IsAsWide (new_of keys ++ live n vars) row
    wide_made g row w h = let one = one_row (C.rows_in g) h.0 w h.1 in ap length h.2 ∙ wide-more (new_of keys) (live n vars) (C.key_of columns g.0) h.0 (key_wide g.0) one.1

    all_made : (groups : List C.Group) (out : List Row) → AllByRecursion (IsWideGroup vars keys) groups → H.AreMade columns (nested_of vars n) groups out
        → G.AreMade keys n b sets vars (map (bind_group vars) groups) (map (bind (new_of keys ++ live n [])) out)
    all_made groups out ws h =
        subst (G.AreMade keys n b sets vars (map (bind_group vars) groups)) (rename_inner (new_of keys) out) (zip-map Made MadeHere (bind_group vars) (bind (new_of keys ++ live n vars)) (IsWideGroup vars keys) made groups out ws h)

    all_wide : (groups : List C.Group) (out : List Row) → AllByRecursion (IsWideGroup vars keys) groups → H.AreMade columns (nested_of vars n) groups out → AreAsWide (new_of keys ++ live n []) out
    all_wide groups out ws h = wide_inner (new_of keys) out (All-from_recursion (IsAsWide (new_of keys ++ live n vars)) out (zip-all (IsWideGroup vars keys) (IsAsWide (new_of keys ++ live n vars)) Made wide_made groups out ws h))

    all_grouped : (rows out : List Row) → AreAsWide vars rows → H.IsGrouped columns (nested_of vars n) rows out
        → G.IsGrouped keys n b sets vars (map (bind vars) rows) (map (bind (new_of keys ++ live n [])) out) × AreAsWide (new_of keys ++ live n []) out
    all_grouped rows out w h =
        let ws = wide_groups vars keys rows h.0 w h.2.moved in (
          (map (bind_group vars) h.0, map (bind (new_of keys ++ live n [])) h.1, groupings vars keys rows w h.0 h.2, all_made h.0 h.1 ws h.3, IsPermutation-map (bind (new_of keys ++ live n [])) h.1 out h.4),
          All-permutation (IsAsWide (new_of keys ++ live n [])) h.1 out h.4 (all_wide h.0 h.1 ws h.3),
        )

    all_stretched : (rows out : List Row) → AreAsWide vars rows → H.IsPreGrouped columns (nested_of vars n) rows out
        → G.IsPreGrouped keys n b sets vars (map (bind vars) rows) (map (bind (new_of keys ++ live n [])) out) × AreAsWide (new_of keys ++ live n []) out
    all_stretched rows out w h =
        let ws = wide_stretches vars keys rows h.0 w h.1.all in
        ((map (bind_group vars) h.0, stretches vars keys rows w h.0 h.1, all_made h.0 out ws h.2), all_wide h.0 out ws h.2)

pub subplans : (n : Plan) (vars : List Var) → IsInner n vars → NoTwice (vars ++ makes n) → (rows out : List Row) → AreAsWide vars rows → H.IsNested (nested_of vars n) rows out → (b : Bool) (sets : Sets)
    → G.IsNested n b sets vars (map (bind vars) rows) (map (bind (vars ++ live n [])) out) × AreAsWide (vars ++ live n []) out
subplans n vars fit once rows out w h b sets = all_behind n vars fit once b sets rows out w h

pub group_rows : (n : Plan) (vars : List Var) → IsInner n vars → NoTwice (vars ++ makes n) → (keys : List (Var × Var)) (rows out : List Row) → AreAsWide vars rows → H.IsGrouped (columns_of vars (old_of keys)) (nested_of vars n) rows out → (b : Bool) (sets : Sets)
    → G.IsGrouped keys n b sets vars (map (bind vars) rows) (map (bind (new_of keys ++ live n [])) out) × AreAsWide (new_of keys ++ live n []) out
group_rows n vars fit once keys rows out w h b sets = all_grouped n vars fit once b sets keys rows out w h

pub stretch_rows : (n : Plan) (vars : List Var) → IsInner n vars → NoTwice (vars ++ makes n) → (keys : List (Var × Var)) (rows out : List Row) → AreAsWide vars rows → H.IsPreGrouped (columns_of vars (old_of keys)) (nested_of vars n) rows out → (b : Bool) (sets : Sets)
    → G.IsPreGrouped keys n b sets vars (map (bind vars) rows) (map (bind (new_of keys ++ live n [])) out) × AreAsWide (new_of keys ++ live n []) out
stretch_rows n vars fit once keys rows out w h b sets = all_stretched n vars fit once b sets keys rows out w h
