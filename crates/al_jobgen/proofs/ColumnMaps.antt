-- Lists of rows that are changed row by row.
use Rattle.std.proofs.Common.{◌≡◌, ◌↔◌, ◌+◌, ◌-◌, Bool, true, false, List, [], ◌∷◌, ◌++◌, map, filter, flat_map, replicate, length, length-append, refl, ap, sym, ◌∙◌, arith}
use Rattle.std.specs.List.{All, AllByRecursion}
use Rattle.std.proofs.lemmas.List.{length-map, length-replicate}
use Rattle.std.proofs.lemmas.List.Elements.{All-filter, All-map, All-from_recursion, recursion_from_All}
use Rattle.al_value.specs.declared.value.Value.TheVariants as V
use Rattle.al_plan.specs.declared.expr.Var.{Var}
use Rattle.al_plan.specs.declared.expr.Expr.{Expr}
use Rattle.al_plan.specs.declared.plan.Generator.{Generator}
use Rattle.al_plan.specs.Eval.{bind, holds}
use Rattle.al_plan.specs.Allows.{renamed}
use Rattle.al_plan.specs.Allows as A
use Rattle.al_plan.specs.Refines.{NoTwice}
use Rattle.hy_job.specs.declared.job.JoinArg.{JoinArg}
use Rattle.hy_job.specs.Columns.{Row, is_pair, padded}
use Rattle.hy_job.specs.Columns as C
use Rattle.al_jobgen.specs.Columns.{columns_of, rex_of, gen_rex, made_rexes, join_arg}
use Rattle.al_jobgen.specs.Agree.{IsAsWide, AreAsWide, made_vars}
use Rattle.al_jobgen.proofs.ColumnLists.{map-through, flat-through, filter-through, each_map, each_flat, each_one}
use Rattle.al_jobgen.proofs.ColumnLaws.{condition}
use Rattle.al_jobgen.proofs.ColumnRows.{cuts, renames, assigns, unnests}

pub wide-more : (vars new : List Var) (r vs : Row) → IsAsWide vars r → length vs ≡ length new → IsAsWide (vars ++ new) (r ++ vs)
wide-more vars new r vs w e = simp length-append (λ i. w i + e i)

module _ (vars : List Var) (rows : List Row) (w : AreAsWide vars rows) where
  abbrev each : AllByRecursion (IsAsWide vars) rows
  each = recursion_from_All (IsAsWide vars) rows w

  pub assigned_rows : (made : List (Var × Expr)) → NoTwice (vars ++ made_vars made)
      → (map (bind (vars ++ made_vars made)) (map (C.assigned (made_rexes vars made)) rows) ≡ map (A.assigned made) (map (bind vars) rows)) × AreAsWide (vars ++ made_vars made) (map (C.assigned (made_rexes vars made)) rows)
  assigned_rows made once = (
    map-through (IsAsWide vars) (bind (vars ++ made_vars made)) (bind vars) (C.assigned (made_rexes vars made)) (A.assigned made) (λ r v. assigns vars r v made once) rows each,
    each_map (IsAsWide vars) (IsAsWide (vars ++ made_vars made)) (C.assigned (made_rexes vars made)) (λ r v. wide-more vars (made_vars made) r _ v (simp length-map)) rows w,
  )

  pub selected_rows : (c : Expr) → (map (bind vars) (filter (C.holds (rex_of vars c)) rows) ≡ filter (holds c) (map (bind vars) rows)) × AreAsWide vars (filter (C.holds (rex_of vars c)) rows)
  selected_rows c = (
    filter-through (IsAsWide vars) (bind vars) (C.holds (rex_of vars c)) (holds c) (λ r v. condition vars r v c) rows each,
    All-filter (C.holds (rex_of vars c)) (IsAsWide vars) rows w,
  )

  pub cut_rows : (vs : List Var) → (map (bind vs) (map (C.cut (columns_of vars vs)) rows) ≡ map (A.cut vs) (map (bind vars) rows)) × AreAsWide vs (map (C.cut (columns_of vars vs)) rows)
  cut_rows vs = (
    map-through (IsAsWide vars) (bind vs) (bind vars) (C.cut (columns_of vars vs)) (A.cut vs) (λ r v. cuts vars r v vs) rows each,
    each_map (IsAsWide vars) (IsAsWide vs) (C.cut (columns_of vars vs)) (λ r v. simp length-map) rows w,
  )

  pub expanded_rows : (v : Var) (g : Generator) → NoTwice (vars ++ v ∷ [])
      → (map (bind (vars ++ v ∷ [])) (flat_map (C.expanded (gen_rex vars g)) rows) ≡ flat_map (A.expanded v g) (map (bind vars) rows)) × AreAsWide (vars ++ v ∷ []) (flat_map (C.expanded (gen_rex vars g)) rows)
  expanded_rows v g once = (
    flat-through (IsAsWide vars) (bind (vars ++ v ∷ [])) (bind vars) (C.expanded (gen_rex vars g)) (A.expanded v g) (λ r u. unnests vars r u v g once) rows each,
    each_flat (IsAsWide vars) (IsAsWide (vars ++ v ∷ [])) (C.expanded (gen_rex vars g)) (λ r u. All-map (IsAsWide (vars ++ v ∷ [])) (λ y. r ++ y ∷ []) (C.items (gen_rex vars g) r) (λ k z low. wide-more vars (v ∷ []) r _ u refl)) rows w,
  )

  pub renamed_rows : (made vs : List Var) → length vs ≡ length made → (map (bind made) (map (C.cut (columns_of vars vs)) rows) ≡ map (renamed made vs) (map (bind vars) rows)) × AreAsWide made (map (C.cut (columns_of vars vs)) rows)
  renamed_rows made vs e = (
    map-through (IsAsWide vars) (bind made) (bind vars) (C.cut (columns_of vars vs)) (renamed made vs) (λ r v. renames vars r v made vs) rows each,
    each_map (IsAsWide vars) (IsAsWide made) (C.cut (columns_of vars vs)) (λ r v. simp length-map e) rows w,
  )

module _ (vars : List Var) (c : Expr) where
  checked : (rows : List Row) → AllByRecursion (IsAsWide vars) rows → AllByRecursion (λ row. C.holds (rex_of vars c) row ≡ true) rows → AllByRecursion (λ r. holds c r ≡ true) (map (bind vars) rows)
  checked [] w h = tt
  checked (r ∷ rows) w h = (sym (condition vars r w.0 c) ∙ h.0, checked rows w.1 h.1)

  unchecked : (rows : List Row) → AllByRecursion (IsAsWide vars) rows → AllByRecursion (λ r. holds c r ≡ true) (map (bind vars) rows) → AllByRecursion (λ row. C.holds (rex_of vars c) row ≡ true) rows
  unchecked [] w h = tt
  unchecked (r ∷ rows) w h = (condition vars r w.0 c ∙ h.0, unchecked rows w.1 h.1)

pub checks : (vars : List Var) (rows : List Row) → AreAsWide vars rows → (c : Expr) → All (λ row. C.holds (rex_of vars c) row ≡ true) rows ↔ All (λ r. holds c r ≡ true) (map (bind vars) rows)
checks vars rows w c =
    let each = recursion_from_All (IsAsWide vars) rows w in (
      λ h. All-from_recursion (λ r. holds c r ≡ true) (map (bind vars) rows) (checked vars c rows each (recursion_from_All (λ row. C.holds (rex_of vars c) row ≡ true) rows h)),
      λ h. All-from_recursion (λ row. C.holds (rex_of vars c) row ≡ true) rows (unchecked vars c rows each (recursion_from_All (λ r. holds c r ≡ true) (map (bind vars) rows) h)),
    )

-- ---- joined rows

module _ (ls rs : List Var) (right : List Row) (wr : AreAsWide rs right) (arg : JoinArg) where
  wide-matches : (l : Row) → IsAsWide ls l → AreAsWide (ls ++ rs) (C.matches arg right l)
  wide-matches l w = each_map (IsAsWide rs) (IsAsWide (ls ++ rs)) (λ r. l ++ r) (λ r v. wide-more ls rs l r w v) (filter (is_pair arg l) right) (All-filter (is_pair arg l) (IsAsWide rs) right wr)

  wide-padded : (l : Row) → IsAsWide ls l → IsAsWide (ls ++ rs) (padded (length (ls ++ rs)) l)
  wide-padded l w =
      let both : length (ls ++ rs) ≡ length ls + length rs = length-append ls rs in
      let rest : length l + (length (ls ++ rs) - length l) ≡ length (ls ++ rs) = omega (arith, both, w) in
      length-append l (replicate (length (ls ++ rs) - length l) V.Null) ∙ ap (λ n. length l + n) (length-replicate (length (ls ++ rs) - length l) V.Null) ∙ rest

  wide-or_alone : (alone : Row) (rows : List Row) → IsAsWide (ls ++ rs) alone → AreAsWide (ls ++ rs) rows → AreAsWide (ls ++ rs) (C.or_alone alone rows)
  wide-or_alone alone [] w h = each_one (IsAsWide (ls ++ rs)) alone w
  wide-or_alone alone (r ∷ rows) w h = h

  wide-pairs : (left : List Row) → AreAsWide ls left → AreAsWide (ls ++ rs) (C.pairs arg left right)
  wide-pairs left wl = each_flat (IsAsWide ls) (IsAsWide (ls ++ rs)) (C.matches arg right) wide-matches left wl

  wide-left_pairs : (left : List Row) → AreAsWide ls left → AreAsWide (ls ++ rs) (C.left_pairs (length (ls ++ rs)) arg left right)
  wide-left_pairs left wl =
      each_flat (IsAsWide ls) (IsAsWide (ls ++ rs)) (λ l. C.or_alone (padded (length (ls ++ rs)) l) (C.matches arg right l)) (λ l w. wide-or_alone (padded (length (ls ++ rs)) l) (C.matches arg right l) (wide-padded l w) (wide-matches l w)) left wl

pub joined_wide : (ls rs : List Var) (left right : List Row) → AreAsWide ls left → AreAsWide rs right → (hash outer : Bool) (c : Expr) → AreAsWide (ls ++ rs) (C.joined (length (ls ++ rs)) (join_arg hash outer ls rs c) left right)
joined_wide ls rs left right wl wr true true c = wide-left_pairs ls rs right wr (join_arg true true ls rs c) left wl
joined_wide ls rs left right wl wr true false c = wide-pairs ls rs right wr (join_arg true false ls rs c) left wl
joined_wide ls rs left right wl wr false true c = wide-left_pairs ls rs right wr (join_arg false true ls rs c) left wl
joined_wide ls rs left right wl wr false false c = wide-pairs ls rs right wr (join_arg false false ls rs c) left wl
