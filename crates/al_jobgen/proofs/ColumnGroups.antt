-- Groups, stretches and different rows.
use Rattle.std.proofs.Common.{◌≡◌, ◌≢◌, ◌<◌, ◌+◌, ℕ, Bool, true, false, List, [], ◌∷◌, ◌++◌, map, flat_map, length, refl, ap, sym, subst, ◌∙◌, arith}
use Rattle.std.specs.Prelude.{nat_eq, ◌||◌}
use Rattle.std.specs.Cmp.Lexicographic.{pointwise, same_text}
use Rattle.std.specs.List.{All, AllByRecursion, AllAdjacentBelow, Contains}
use Rattle.std.specs.List.Sorted.{IsPermutation}
use Rattle.std.proofs.lemmas.List.{length-map, map-append, get_or-map}
use Rattle.std.proofs.lemmas.List.Sorted.{IsPermutation-map, All-permutation}
use Rattle.std.proofs.lemmas.List.Elements.{All-weaker, All-contains, All-from_recursion, recursion_from_All}
use Rattle.al_value.specs.declared.value.Value.{Value}
use Rattle.al_plan.specs.declared.expr.Var.{Var}
use Rattle.al_plan.specs.Eval.{Env, bind}
use Rattle.al_plan.specs.Allows.{is_among}
use Rattle.al_plan.specs.Allows as A
use Rattle.al_plan.specs.Refines.{NoTwice}
use Rattle.al_plan.proofs.Bools.{no, by_cases}
use Rattle.al_plan.proofs.Makes.{text_itself}
use Rattle.al_phys.specs.Parts.{values_at}
use Rattle.al_phys.specs.Properties.{old_of}
use Rattle.al_phys.specs.Gives as G
use Rattle.al_phys.proofs.ValueLaws.{values_agree}
use Rattle.hy_job.specs.Columns.{Row}
use Rattle.hy_job.specs.Columns as C
use Rattle.al_jobgen.specs.Columns.{columns_of}
use Rattle.al_jobgen.specs.Agree.{IsAsWide, AreAsWide, bind_group}
use Rattle.al_jobgen.proofs.ColumnBind.{bind-here, bind-else, bind-injective}
use Rattle.al_jobgen.proofs.ColumnLists.{each_map, Contains-map, pairs-map, All-unflat}
use Rattle.al_jobgen.proofs.ColumnRows.{keys_same}

-- ---- values that return

-- variables of other names keep their values
others_keep : (x : Var) (v : Value) (vars ws : List Var) (row : Row) → is_among ws x.name ≡ false → AllByRecursion (λ w. bind (x ∷ vars) (v ∷ row) w.name ≡ bind vars row w.name) ws
others_keep x v vars [] row h = tt
others_keep x v vars (w ∷ ws) row h = (
  bind-else x vars v row w.name (by_cases (pointwise nat_eq x.name w.name) (λ t. absurd (no (sym (ap (λ q. pointwise nat_eq q x.name) (sym (same_text x.name w.name (sym t))) ∙ text_itself x.name) ∙ or_left _ _ h))) (λ f. f)),
  others_keep x v vars ws row (or_right (pointwise nat_eq w.name x.name) _ h),
)
  where
    or_left : (a b : Bool) → (a || b) ≡ false → a ≡ false
    or_left true b h = h
    or_left false b h = refl

    or_right : (a b : Bool) → (a || b) ≡ false → b ≡ false
    or_right true b h = absurd (no h)
    or_right false b h = h

pub returned : (vars : List Var) → NoTwice vars → (row : Row) → IsAsWide vars row → values_at vars (bind vars row) ≡ row
returned [] once [] w = refl
returned [] once (v ∷ row) w = absurd (omega arith)
returned (x ∷ vars) once [] w = absurd (omega arith)
returned (x ∷ vars) once (v ∷ row) w =
    let rest = values_agree vars (bind (x ∷ vars) (v ∷ row)) (bind vars row) (others_keep x v vars vars row once.0) ∙ returned vars once.1 row (omega arith) in
    λ i. bind-here x vars v row i ∷ rest i

-- ---- groups

module _ (vars : List Var) (keys : List (Var × Var)) where
  abbrev pub IsWideGroup : C.Group → Type 0
  IsWideGroup g = AllByRecursion (IsAsWide vars) (C.rows_in g)

  abbrev columns : List ℕ
  columns = columns_of vars (old_of keys)

  bind-groups : (groups : List C.Group) → map (bind vars) (flat_map C.rows_in groups) ≡ flat_map A.rows_in (map (bind_group vars) groups)
  bind-groups [] = refl
  bind-groups (g ∷ groups) = map-append (bind vars) (C.rows_in g) (flat_map C.rows_in groups) ∙ ap (λ (rows : List Env). map (bind vars) (C.rows_in g) ++ rows) (bind-groups groups)

  keyed : (r : Row) → IsAsWide vars r → C.key_of columns r ≡ A.key_of keys (bind vars r)
  keyed r w = keys_same vars r w keys

  alike_rows : (head : Row) → IsAsWide vars head → (rows : List Row) → AllByRecursion (IsAsWide vars) rows → AllByRecursion (λ r. C.key_of columns r ≡ C.key_of columns head) rows
      → AllByRecursion (λ r. A.key_of keys r ≡ A.key_of keys (bind vars head)) (map (bind vars) rows)
  alike_rows head w [] ws h = tt
  alike_rows head w (r ∷ rows) ws h = (sym (keyed r ws.0) ∙ h.0 ∙ keyed head w, alike_rows head w rows ws.1 h.1)

  alike_groups : (groups : List C.Group) → AllByRecursion IsWideGroup groups → AllByRecursion (λ g. All (λ r. C.key_of columns r ≡ C.key_of columns g.0) g.1) groups
      → AllByRecursion (λ g. All (λ r. A.key_of keys r ≡ A.key_of keys g.0) g.1) (map (bind_group vars) groups)
  alike_groups [] ws h = tt
  alike_groups (g ∷ groups) ws h = (
    All-from_recursion (λ r. A.key_of keys r ≡ A.key_of keys (bind vars g.0)) (map (bind vars) g.1) (alike_rows g.0 ws.0.0 g.1 ws.0.1 (recursion_from_All (λ r. C.key_of columns r ≡ C.key_of columns g.0) g.1 h.0)),
    alike_groups groups ws.1 h.1,
  )

  alike_all : (groups : List C.Group) → AllByRecursion IsWideGroup groups → All (λ g. All (λ r. C.key_of columns r ≡ C.key_of columns g.0) g.1) groups → All (λ g. All (λ r. A.key_of keys r ≡ A.key_of keys g.0) g.1) (map (bind_group vars) groups)
  alike_all groups ws h =
      All-from_recursion (λ g. All (λ r. A.key_of keys r ≡ A.key_of keys g.0) g.1) (map (bind_group vars) groups) (alike_groups groups ws (recursion_from_All (λ g. All (λ r. C.key_of columns r ≡ C.key_of columns g.0) g.1) groups h))

  still_apart : (g h : C.Group) → IsWideGroup g → IsWideGroup h → C.key_of columns g.0 ≢ C.key_of columns h.0 → A.key_of keys (bind vars g.0) ≢ A.key_of keys (bind vars h.0)
  still_apart g h v w other same = other (keyed g.0 v.0 ∙ same ∙ sym (keyed h.0 w.0))

  pub wide_groups : (rows : List Row) (groups : List C.Group) → AreAsWide vars rows → IsPermutation rows (flat_map C.rows_in groups) → AllByRecursion IsWideGroup groups
  wide_groups rows groups w moved = All-unflat (IsAsWide vars) C.rows_in groups (All-permutation (IsAsWide vars) rows (flat_map C.rows_in groups) moved w)

  pub groupings : (rows : List Row) → AreAsWide vars rows → (groups : List C.Group) → C.IsGrouping columns rows groups → A.IsGrouping keys (map (bind vars) rows) (map (bind_group vars) groups)
  groupings rows w groups h =
      let ws = wide_groups rows groups w h.moved in
      record {
        moved = subst (IsPermutation (map (bind vars) rows)) (bind-groups groups) (IsPermutation-map (bind vars) rows (flat_map C.rows_in groups) h.moved);
        alike = alike_all groups ws h.alike;
        apart = pairs-map IsWideGroup (λ g h. C.key_of columns g.0 ≢ C.key_of columns h.0) (λ g h. A.key_of keys g.0 ≢ A.key_of keys h.0) (bind_group vars) (λ a b v w other. still_apart a b v w other) groups ws h.apart;
      }

  pub wide_stretches : (rows : List Row) (groups : List C.Group) → AreAsWide vars rows → rows ≡ flat_map C.rows_in groups → AllByRecursion IsWideGroup groups
  wide_stretches rows groups w all = All-unflat (IsAsWide vars) C.rows_in groups (subst (AreAsWide vars) all w)

  -- each group and the next
  adjacent : (groups : List C.Group) → AllByRecursion IsWideGroup groups → AllAdjacentBelow (λ g h. C.key_of columns g.0 ≢ C.key_of columns h.0) groups (length groups)
      → AllAdjacentBelow (λ g h. A.key_of keys g.0 ≢ A.key_of keys h.0) (map (bind_group vars) groups) (length (map (bind_group vars) groups))
  adjacent [] ws h k d high = absurd (omega arith)
  adjacent (g ∷ groups) ws h k d high =
      let within : k + 1 < length (g ∷ groups) = omega (arith, length-map (g ∷ groups) (bind_group vars)) in
      let before : k < length (g ∷ groups) = omega arith in
      let all = All-from_recursion IsWideGroup (g ∷ groups) ws in
      λ same. still_apart _ _ (all k g before) (all (k + 1) g within) (h k g within)
      (sym (ap (λ (x : A.Group). A.key_of keys x.0) (get_or-map (bind_group vars) (g ∷ groups) k g d before)) ∙ same ∙ ap (λ (x : A.Group). A.key_of keys x.0) (get_or-map (bind_group vars) (g ∷ groups) (k + 1) g d within))

  pub stretches : (rows : List Row) → AreAsWide vars rows → (groups : List C.Group) → C.AreStretches columns rows groups → G.AreStretches keys (map (bind vars) rows) (map (bind_group vars) groups)
  stretches rows w groups h =
      let ws = wide_stretches rows groups w h.all in
      record {
        all = ap (map (bind vars)) h.all ∙ bind-groups groups;
        alike = alike_all groups ws h.alike;
        apart = adjacent groups ws h.apart;
      }

-- ---- different rows

pub distincts : (vars : List Var) → NoTwice vars → (rows : List Row) → AreAsWide vars rows → (kept : List Row) → C.IsDistinctOf rows kept → A.IsDistinctOf (map (bind vars) rows) (map (bind vars) kept)
distincts vars once rows w kept h =
    let wide = All-weaker (Contains rows) (IsAsWide vars) (λ r i. All-contains (IsAsWide vars) rows r w i) kept h.within in
    record {
      within = each_map (Contains rows) (Contains (map (bind vars) rows)) (bind vars) (λ r i. Contains-map (bind vars) rows r i) kept h.within;
      all = each_map (Contains kept) (Contains (map (bind vars) kept)) (bind vars) (λ r i. Contains-map (bind vars) kept r i) rows h.all;
      once = pairs-map (IsAsWide vars) ◌≢◌ ◌≢◌ (bind vars) (λ a b v w other same. other (bind-injective vars a b once v w same)) kept (recursion_from_All (IsAsWide vars) kept wide) h.once;
    }
