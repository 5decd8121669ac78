-- What activities make of rows by column, their plans allow by variable: operators that work on each part by itself.
use Rattle.std.proofs.Common.{◌≡◌, ◌<◌, ℕ, zero, suc, Bool, true, false, List, [], ◌∷◌, ◌++◌, map, filter, flat_map, take, drop, refl, ap, sym, subst, ◌∙◌, arith}
use Rattle.std.specs.Prelude.{nat_eq, ◌%◌, ◌+◌, if◌then◌else◌}
use Rattle.std.specs.List.{All, AllZip, enumerate_from}
use Rattle.std.specs.List.Sorted.{IsPermutation, IsSorted}
use Rattle.std.proofs.lemmas.List.{take-map, drop-map}
use Rattle.std.proofs.lemmas.List.Elements.{All-from_recursion, recursion_from_All}
use Rattle.std.proofs.lemmas.List.Sorted.{IsPermutation-map, All-permutation}
use Rattle.al_plan.specs.declared.expr.Var.{Var}
use Rattle.al_plan.specs.declared.expr.Expr.{Expr}
use Rattle.al_plan.specs.declared.plan.Plan.{Plan}
use Rattle.al_plan.specs.declared.plan.OrderKey.{OrderKey}
use Rattle.al_plan.specs.declared.plan.Generator.{Generator}
use Rattle.al_plan.specs.Eval.{Bytes, Env, bind, holds}
use Rattle.al_plan.specs.Allows.{Sets, IsChecked, live, new_of, nulls}
use Rattle.al_plan.specs.Allows as V
use Rattle.al_plan.specs.Refines.{NoTwice, makes}
use Rattle.al_phys.specs.declared.phys.Phys.{Phys, roll-Phys}
use Rattle.al_phys.specs.declared.phys.Phys.TheOpen as L
use Rattle.al_phys.specs.Operators.{phys_live}
use Rattle.al_phys.specs.Parts.{Parts, in_first}
use Rattle.al_phys.specs.Parts as P
use Rattle.al_phys.specs.PAllows.{PAllowing, PAllows}
use Rattle.al_phys.specs.PAllows as PA
use Rattle.al_phys.specs.Gives.{IsNested, IsPreGrouped}
use Rattle.al_phys.specs.Placed.{IsInner}
use Rattle.al_phys.specs.Properties.{old_of}
use Rattle.al_phys.proofs.OperatorLaws.{plive-roll}
use Rattle.al_phys.proofs.PhysLaws.{PLayer, pallows-roll}
use Rattle.hy_job.specs.Columns.{Row}
use Rattle.hy_job.specs.Columns as C
use Rattle.hy_job.specs.Nested as H
use Rattle.hy_job.specs.Runs.{InFirst}
use Rattle.hy_job.proofs.RunRows.{all_take, all_drop}
use Rattle.al_jobgen.specs.Columns.{columns_of, rex_of, gen_rex, made_rexes, sort_keys, nested_of}
use Rattle.al_jobgen.specs.Agree.{IsAsWide, AreAsWide, made_vars}
use Rattle.al_jobgen.proofs.ColumnMaps.{assigned_rows, selected_rows, cut_rows, expanded_rows, checks}
use Rattle.al_jobgen.proofs.ColumnRows.{sorts}
use Rattle.al_jobgen.proofs.NestedGives.{subplans, stretch_rows}
use Rattle.al_answer.specs.Flow.{bound, IsAllowed}
use Rattle.al_answer.proofs.Parts.{pairs, every_part, same, has_each, first_alone}

-- ---- one layer of a plan

module _ (passing : Bool) (sets : Sets) (n : ℕ) where
  pub at_roll : (y : L.Phys-F Phys) (vars : List Var) → phys_live (roll-Phys y) ≡ vars → (rows : ℕ → List Row) → PLayer y passing sets n (bound n vars rows) → ((j : ℕ) → j < n → AreAsWide vars (rows j)) → IsAllowed (roll-Phys y) passing sets n rows
  at_roll y vars e rows h w = record {
    parts = subst (λ (vs : List Var). PAllows (roll-Phys y) passing sets n (bound n vs rows)) (sym e) (subst (λ (a : PAllowing). a passing sets n (bound n vars rows)) (sym (pallows-roll y)) h);
    wide = λ j lt. subst (λ (vs : List Var). AreAsWide vs (rows j)) (sym e) (w j lt);
  }

  -- an operator that gives in each part something of that part of its input
  pub over : (y : L.Phys-F Phys) (p : Phys) (R : List Env → List Env → Type 0) → ((parts : Parts) → PA.Over (PAllows p) passing sets n (λ input. AllZip R input parts) → PLayer y passing sets n parts)
      → (vars : List Var) → phys_live (roll-Phys y) ≡ vars → (input rows : ℕ → List Row) → IsAllowed p passing sets n input
      → ((j : ℕ) → j < n → R (map (bind (phys_live p)) (input j)) (map (bind vars) (rows j)) × AreAsWide vars (rows j)) → IsAllowed (roll-Phys y) passing sets n rows
  over y p R layer vars e input rows i each =
      at_roll y vars e rows (layer (bound n vars rows) (bound n (phys_live p) input, i.parts, pairs R (λ j. map (bind (phys_live p)) (input j)) (λ j. map (bind vars) (rows j)) n (λ j lt. (each j lt).0))) (λ j lt. (each j lt).1)

-- rows that are the same by column
as_made : (vars : List Var) (rows out : List Row) (want : List Env) → rows ≡ out → (map (bind vars) out ≡ want) × AreAsWide vars out → (map (bind vars) rows ≡ want) × AreAsWide vars rows
as_made vars rows out want e h = subst (λ (xs : List Row). (map (bind vars) xs ≡ want) × AreAsWide vars xs) (sym e) h

-- ---- sources

dealt_mapped : (f : Row → Env) (n j k : ℕ) (rows : List Row) → map (λ (e : ℕ × Env). e.1) (filter (λ (e : ℕ × Env). nat_eq (e.0 % n) j) (enumerate_from k (map f rows))) ≡ map f (map (λ (e : ℕ × Row). e.1) (filter (λ (e : ℕ × Row). nat_eq (e.0 % n) j) (enumerate_from k rows)))
dealt_mapped f n j k [] = refl
dealt_mapped f n j k (row ∷ rows) = either (nat_eq (k % n) j) _ _ (dealt_mapped f n j (k + 1) rows)
  where
    either : (b : Bool) (xs : List (ℕ × Env)) (ys : List (ℕ × Row)) → map (λ (e : ℕ × Env). e.1) xs ≡ map f (map (λ (e : ℕ × Row). e.1) ys)
        → map (λ (e : ℕ × Env). e.1) (if b then (k, f row) ∷ xs else xs) ≡ map f (map (λ (e : ℕ × Row). e.1) (if b then (k, row) ∷ ys else ys))
    either true xs ys h = ap (λ (rs : List Env). f row ∷ rs) h
    either false xs ys h = h

empty : bind [] [] ≡ nulls
unfolding bind
empty = refl

module _ (passing : Bool) (sets : Sets) (n : ℕ) (rows : ℕ → List Row) where
  pub scanned_rows : (set : Bytes) (vars : List Var) → ((j : ℕ) → j < n → rows j ≡ C.dealt n j (sets set)) → ((j : ℕ) → j < n → AreAsWide vars (rows j)) → IsAllowed (roll-Phys (L.Scan set vars)) passing sets n rows
  scanned_rows set vars each w =
      at_roll passing sets n (L.Scan set vars) vars (plive-roll (L.Scan set vars)) rows
      (has_each n (λ j out. out ≡ P.dealt n j (map (bind vars) (sets set))) (λ j. map (bind vars) (rows j)) (λ j lt. ap (map (bind vars)) (each j lt) ∙ sym (dealt_mapped (bind vars) n j 0 (sets set)))) w

  pub one_row : ((j : ℕ) → j < n → InFirst (λ xs. xs ≡ [] ∷ []) j (rows j)) → IsAllowed (roll-Phys L.One) passing sets n rows
  one_row each = at_roll passing sets n L.One [] (plive-roll L.One) rows (first_alone (λ j. map (bind []) (rows j)) n none ∙ only n each) (λ j lt. wide j (rows j) (each j lt))
    where
      none : (j : ℕ) → 0 < j → j < n → map (bind []) (rows j) ≡ []
      none zero some lt = absurd (omega (arith, some))
      none (suc j) some lt = ap (map (bind [])) (each (suc j) lt)

      only : (m : ℕ) → ((j : ℕ) → j < m → InFirst (λ xs. xs ≡ [] ∷ []) j (rows j)) → in_first m (map (bind []) (rows 0)) ≡ in_first m (nulls ∷ [])
      only zero h = refl
      only (suc m) h = ap (in_first (suc m)) (ap (map (bind [])) (h 0 (omega arith)) ∙ ap (λ (r : Env). r ∷ []) empty)

      wide : (j : ℕ) (xs : List Row) → InFirst (λ ys. ys ≡ [] ∷ []) j xs → AreAsWide [] xs
      wide zero xs e = subst (AreAsWide []) (sym e) (All-from_recursion (IsAsWide []) ([] ∷ []) (refl, tt))
      wide (suc j) xs e = subst (AreAsWide []) (sym e) (All-from_recursion (IsAsWide []) [] tt)

-- ---- operators on each row

module _ (passing : Bool) (sets : Sets) (n : ℕ) (p : Phys) (input rows : ℕ → List Row) (i : IsAllowed p passing sets n input) where
  abbrev vars : List Var
  vars = phys_live p

  pub assigned : (made : List (Var × Expr)) → NoTwice (phys_live p ++ made_vars made) → ((j : ℕ) → j < n → rows j ≡ map (C.assigned (made_rexes (phys_live p) made)) (input j)) → IsAllowed (roll-Phys (L.Assign made p)) passing sets n rows
  assigned made once each =
      over passing sets n (L.Assign made p) p (λ xs ys. ys ≡ map (V.assigned made) xs) (λ parts h. h) (vars ++ made_vars made) (plive-roll (L.Assign made p)) input rows i
      (λ j lt. as_made (vars ++ made_vars made) (rows j) _ _ (each j lt) (assigned_rows vars (input j) (i.wide j lt) made once))

  pub selected : (c : Expr) → ((j : ℕ) → j < n → rows j ≡ filter (C.holds (rex_of (phys_live p) c)) (input j)) → IsAllowed (roll-Phys (L.Select c p)) passing sets n rows
  selected c each =
      over passing sets n (L.Select c p) p (λ xs ys. ys ≡ filter (holds c) xs) (λ parts h. h) vars (plive-roll (L.Select c p)) input rows i
      (λ j lt. as_made vars (rows j) _ _ (each j lt) (selected_rows vars (input j) (i.wide j lt) c))

  pub projected : (vs : List Var) → ((j : ℕ) → j < n → rows j ≡ map (C.cut (columns_of (phys_live p) vs)) (input j)) → IsAllowed (roll-Phys (L.Project vs p)) passing sets n rows
  projected vs each =
      over passing sets n (L.Project vs p) p (λ xs ys. ys ≡ map (V.cut vs) xs) (λ parts h. h) vs (plive-roll (L.Project vs p)) input rows i
      (λ j lt. as_made vs (rows j) _ _ (each j lt) (cut_rows vars (input j) (i.wide j lt) vs))

  pub resulting : (vs : List Var) → ((j : ℕ) → j < n → rows j ≡ map (C.cut (columns_of (phys_live p) vs)) (input j)) → IsAllowed (roll-Phys (L.Result vs p)) passing sets n rows
  resulting vs each =
      over passing sets n (L.Result vs p) p (λ xs ys. ys ≡ map (V.cut vs) xs) (λ parts h. h) vs (plive-roll (L.Result vs p)) input rows i
      (λ j lt. as_made vs (rows j) _ _ (each j lt) (cut_rows vars (input j) (i.wide j lt) vs))

  pub unnested : (v : Var) (g : Generator) → NoTwice (phys_live p ++ v ∷ []) → ((j : ℕ) → j < n → rows j ≡ flat_map (C.expanded (gen_rex (phys_live p) g)) (input j)) → IsAllowed (roll-Phys (L.Unnest v g p)) passing sets n rows
  unnested v g once each =
      over passing sets n (L.Unnest v g p) p (λ xs ys. ys ≡ flat_map (V.expanded v g) xs) (λ parts h. h) (vars ++ v ∷ []) (plive-roll (L.Unnest v g p)) input rows i
      (λ j lt. as_made (vars ++ v ∷ []) (rows j) _ _ (each j lt) (expanded_rows vars (input j) (i.wide j lt) v g once))

  pub nested : (inner : Plan) → IsInner inner (phys_live p) → NoTwice (phys_live p ++ makes inner) → ((j : ℕ) → j < n → H.IsNested (nested_of (phys_live p) inner) (input j) (rows j)) → IsAllowed (roll-Phys (L.Subplan inner p)) passing sets n rows
  nested inner fit once each =
      over passing sets n (L.Subplan inner p) p (IsNested inner passing sets vars) (λ parts h. h) (vars ++ live inner []) (plive-roll (L.Subplan inner p)) input rows i
      (λ j lt. subplans inner vars fit once (input j) (rows j) (i.wide j lt) (each j lt) passing sets)

  pub pre_grouped : (keys : List (Var × Var)) (inner : Plan) → IsInner inner (phys_live p) → NoTwice (phys_live p ++ makes inner)
      → ((j : ℕ) → j < n → H.IsPreGrouped (columns_of (phys_live p) (old_of keys)) (nested_of (phys_live p) inner) (input j) (rows j)) → IsAllowed (roll-Phys (L.PreGroup keys inner p)) passing sets n rows
  pre_grouped keys inner fit once each =
      over passing sets n (L.PreGroup keys inner p) p (IsPreGrouped keys inner passing sets vars) (λ parts h. h) (new_of keys ++ live inner []) (plive-roll (L.PreGroup keys inner p)) input rows i
      (λ j lt. stretch_rows inner vars fit once keys (input j) (rows j) (i.wide j lt) (each j lt) passing sets)

  pub limited : (m k : ℕ) → ((j : ℕ) → j < n → rows j ≡ take m (drop k (input j))) → IsAllowed (roll-Phys (L.Limit m k p)) passing sets n rows
  limited m k each =
      over passing sets n (L.Limit m k p) p (λ xs ys. ys ≡ take m (drop k xs)) (λ parts h. h) vars (plive-roll (L.Limit m k p)) input rows i
      (λ j lt. as_made vars (rows j) (take m (drop k (input j))) _ (each j lt) (
        sym (take-map (bind vars) m (drop k (input j))) ∙ ap (take m) (sym (drop-map (bind vars) k (input j))),
        All-from_recursion (IsAsWide vars) _ (all_take (IsAsWide vars) m _ (all_drop (IsAsWide vars) k _ (recursion_from_All (IsAsWide vars) (input j) (i.wide j lt)))),
      ))

  pub limited_locally : (m : ℕ) → ((j : ℕ) → j < n → rows j ≡ take m (input j)) → IsAllowed (roll-Phys (L.LocalLimit m p)) passing sets n rows
  limited_locally m each =
      over passing sets n (L.LocalLimit m p) p (λ xs ys. ys ≡ take m xs) (λ parts h. h) vars (plive-roll (L.LocalLimit m p)) input rows i
      (λ j lt. as_made vars (rows j) (take m (input j)) _ (each j lt) (
        sym (take-map (bind vars) m (input j)),
        All-from_recursion (IsAsWide vars) _ (all_take (IsAsWide vars) m _ (recursion_from_All (IsAsWide vars) (input j) (i.wide j lt))),
      ))

  pub checked : (name : Bytes) (c : Expr) → ((j : ℕ) → j < n → rows j ≡ input j) → ((j : ℕ) → j < n → IsChecked passing (All (λ row. C.holds (rex_of (phys_live p) c) row ≡ true) (input j))) → IsAllowed (roll-Phys (L.Check name c p)) passing sets n rows
  checked name c each ok =
      at_roll passing sets n (L.Check name c p) vars (plive-roll (L.Check name c p)) rows
      (subst (λ (ps : Parts). PAllows p passing sets n ps × IsChecked passing (All (All (λ r. holds c r ≡ true)) ps)) (same (λ j. map (bind vars) (input j)) (λ j. map (bind vars) (rows j)) n (λ j lt. ap (map (bind vars)) (sym (each j lt)))) (i.parts, all_pass passing ok))
      (λ j lt. subst (AreAsWide vars) (sym (each j lt)) (i.wide j lt))
    where
      all_pass : (b : Bool) → ((j : ℕ) → j < n → IsChecked b (All (λ row. C.holds (rex_of (phys_live p) c) row ≡ true) (input j))) → IsChecked b (All (All (λ r. holds c r ≡ true)) (bound n (phys_live p) input))
      all_pass true h = tt
      all_pass false h = every_part (All (λ r. holds c r ≡ true)) (λ j. map (bind vars) (input j)) n (λ j lt. (checks vars (input j) (i.wide j lt) c).0 (h j lt))

  -- what is sorted is a permutation of the input, in order
  pub sorted : (keys : List OrderKey) → ((j : ℕ) → j < n → IsPermutation (input j) (rows j) × IsSorted (C.keys_cmp (sort_keys (phys_live p) keys)) (rows j)) → IsAllowed (roll-Phys (L.Sort keys p)) passing sets n rows
  sorted keys each =
      over passing sets n (L.Sort keys p) p (λ xs ys. IsPermutation xs ys × IsSorted (V.keys_cmp keys) ys) (λ parts h. h) vars (plive-roll (L.Sort keys p)) input rows i
      (λ j lt.
      let w : AreAsWide (phys_live p) (rows j) = All-permutation (IsAsWide vars) (input j) (rows j) (each j lt).0 (i.wide j lt) in
      ((IsPermutation-map (bind vars) (input j) (rows j) (each j lt).0, (sorts vars (rows j) w keys).0 (each j lt).1), w))
