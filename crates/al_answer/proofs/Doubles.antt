-- What activities make of rows by column, their plans allow by variable: operators of two activities, and over two inputs.
use Rattle.std.proofs.Common.{◌≡◌, ◌<◌, ℕ, Bool, true, false, Some, None, List, [], ◌∷◌, ◌++◌, map, flat_map, length, subst, ◌∙◌}
use Rattle.std.specs.List.{AllByRecursion, Contains}
use Rattle.std.specs.List.Sorted.{IsPermutation}
use Rattle.std.proofs.lemmas.List.Elements.{All-from_recursion, recursion_from_All, All-weaker, All-contains}
use Rattle.std.proofs.lemmas.List.Sorted.{IsPermutation-map, IsPermutation-trans, IsPermutation-sym, All-permutation}
use Rattle.al_plan.specs.declared.expr.Var.{Var}
use Rattle.al_plan.specs.declared.expr.Expr.{Expr}
use Rattle.al_plan.specs.declared.plan.Plan.{Plan}
use Rattle.al_plan.specs.Eval.{Env, bind}
use Rattle.al_plan.specs.Allows.{Sets, live, new_of, renamed, IsDistinctOf}
use Rattle.al_plan.specs.Refines.{NoTwice, makes}
use Rattle.al_plan.proofs.Moves.{IsPermutation-flat_map}
use Rattle.al_phys.specs.declared.phys.JoinForm.{JoinForm}
use Rattle.al_phys.specs.declared.phys.Phys.{Phys, roll-Phys}
use Rattle.al_phys.specs.declared.phys.Phys.TheOpen as L
use Rattle.al_phys.specs.Operators.{phys_live}
use Rattle.al_phys.specs.Parts as P
use Rattle.al_phys.specs.Gives.{is_hash, is_outer, IsGrouped}
use Rattle.al_phys.specs.Gives as G
use Rattle.al_phys.specs.Placed.{IsInner, is_row_wise}
use Rattle.al_phys.specs.Properties.{old_of}
use Rattle.al_phys.proofs.OperatorLaws.{plive-roll}
use Rattle.hy_job.specs.declared.job.GroupArg.{GroupArg}
use Rattle.hy_job.specs.declared.job.JoinArg.{JoinArg}
use Rattle.hy_job.specs.Columns.{Row, AreValues}
use Rattle.hy_job.specs.Columns as C
use Rattle.hy_job.specs.Nested as H
use Rattle.hy_job.specs.Literals.{n_literals}
use Rattle.hy_job.specs.Runs.{IsGroupOf, piece_row}
use Rattle.hy_job.proofs.Probes.{probes_move}
use Rattle.hy_job.proofs.RunRows.{all_moved, all_unflat, interleaves_all}
use Rattle.al_jobgen.specs.Columns.{columns_of, nested_of, join_arg}
use Rattle.al_jobgen.specs.JobOf.{group_arg, all_columns}
use Rattle.al_jobgen.specs.Agree.{IsAsWide, AreAsWide, HaveValues}
use Rattle.al_jobgen.proofs.ColumnMaps.{renamed_rows, joined_wide}
use Rattle.al_jobgen.proofs.ColumnParts.{interleaves}
use Rattle.al_jobgen.proofs.ColumnJoins.{joins}
use Rattle.al_jobgen.proofs.ColumnGroups.{distincts}
use Rattle.al_jobgen.proofs.NestedGives.{group_rows}
use Rattle.al_jobgen.proofs.NestedChains.{row_wise_same}
use Rattle.al_jobgen.proofs.NestedPieces.{pieces_grouped}
use Rattle.al_jobgen.proofs.NestedDistinct.{pieces_distinct}
use Rattle.al_jobgen.proofs.NestedValid.{have_values}
use Rattle.al_jobgen.proofs.SoundGraph.{weaken}
use Rattle.al_answer.specs.Flow.{bound, IsAllowed}
use Rattle.al_answer.proofs.Parts.{both}
use Rattle.al_answer.proofs.Operators.{at_roll, over}
use Rattle.al_answer.proofs.Exchanges.{IsMoved}

-- ---- joins

left_moves : (outer : Bool) (arity : ℕ) (arg : JoinArg) (ls ms rs : List Row) → IsPermutation ls ms → IsPermutation (C.joined_as outer arity arg ls rs) (C.joined_as outer arity arg ms rs)
left_moves true arity arg ls ms rs p = IsPermutation-flat_map _ ls ms p
left_moves false arity arg ls ms rs p = IsPermutation-flat_map _ ls ms p

module _ (passing : Bool) (sets : Sets) (n : ℕ) (form : JoinForm) (c : Expr) (l r : Phys) (once : NoTwice (phys_live l ++ phys_live r)) (left right built rows : ℕ → List Row) (il : IsMoved l passing sets n left) (ir : IsMoved r passing sets n right) where
  abbrev pub arg : JoinArg
  arg = join_arg (is_hash form) (is_outer form) (phys_live l) (phys_live r) c

  abbrev pub width : ℕ
  width = length (phys_live l ++ phys_live r)

  -- the order of the inputs does not matter
  settled : (j : ℕ) → j < n → IsPermutation (right j) (built j) → IsPermutation (C.joined width arg (left j) (built j)) (rows j) → IsPermutation (C.joined width arg (il.0 j) (ir.0 j)) (rows j)
  settled j lt b h =
      probes_move arg width n j (λ input. il.0 j) [] (built j) (ir.0 j) (rows j) (IsPermutation-sym _ _ (IsPermutation-trans _ _ _ (ir.2 j lt) b))
      (IsPermutation-trans _ _ _ (left_moves arg.outer width arg (il.0 j) (left j) (built j) (il.2 j lt)) h)

  pub joined_rows : ((j : ℕ) → j < n → IsPermutation (right j) (built j)) → ((j : ℕ) → j < n → IsPermutation (C.joined width arg (left j) (built j)) (rows j)) → IsAllowed (roll-Phys (L.Join form c l r)) passing sets n rows
  joined_rows build probe =
      at_roll passing sets n (L.Join form c l r) (phys_live l ++ phys_live r) (plive-roll (L.Join form c l r)) rows (
        bound n (phys_live l) il.0,
        il.1.parts,
        (
          bound n (phys_live r) ir.0,
          ir.1.parts,
          both (λ (two : List Env × List Env) (out : List Env). IsPermutation (G.joined (is_outer form) (phys_live l) c two.0 two.1) out) (λ j. map (bind (phys_live l)) (il.0 j)) (λ j. map (bind (phys_live r)) (ir.0 j)) (λ j. map (bind (phys_live l ++ phys_live r)) (rows j)) n
              (λ j lt. subst (λ (xs : List Env). IsPermutation xs (map (bind (phys_live l ++ phys_live r)) (rows j))) (joins (phys_live l) (phys_live r) once (il.0 j) (ir.0 j) (il.1.wide j lt) (ir.1.wide j lt) (is_hash form) (is_outer form) c)
              (IsPermutation-map (bind (phys_live l ++ phys_live r)) _ _ (settled j lt (build j lt) (probe j lt)))),
        ),
      )
      (λ j lt. All-permutation (IsAsWide (phys_live l ++ phys_live r)) _ (rows j) (settled j lt (build j lt) (probe j lt)) (joined_wide (phys_live l) (phys_live r) (il.0 j) (ir.0 j) (il.1.wide j lt) (ir.1.wide j lt) (is_hash form) (is_outer form) c))

-- ---- unions

module _ (passing : Bool) (sets : Sets) (n : ℕ) (made ls rs : List Var) (l r : Phys) (some : length ls ≡ length made) (others : length rs ≡ length made) (left right rows : ℕ → List Row) (il : IsAllowed l passing sets n left) (ir : IsAllowed r passing sets n right) where
  pub mixed_rows : ((j : ℕ) → j < n → C.Interleaves (map (C.cut (columns_of (phys_live l) ls)) (left j) ∷ map (C.cut (columns_of (phys_live r) rs)) (right j) ∷ []) (rows j)) → IsAllowed (roll-Phys (L.Union made ls rs l r)) passing sets n rows
  mixed_rows each =
      at_roll passing sets n (L.Union made ls rs l r) made (plive-roll (L.Union made ls rs l r)) rows (
        bound n (phys_live l) left,
        il.parts,
        (
          bound n (phys_live r) right,
          ir.parts,
          both (λ (two : List Env × List Env) (out : List Env). P.Interleaves (map (renamed made ls) two.0 ∷ map (renamed made rs) two.1 ∷ []) out) (λ j. map (bind (phys_live l)) (left j)) (λ j. map (bind (phys_live r)) (right j)) (λ j. map (bind made) (rows j)) n
              (λ j lt. subst (λ (xs : List Env). P.Interleaves (xs ∷ map (renamed made rs) (map (bind (phys_live r)) (right j)) ∷ []) (map (bind made) (rows j))) (of_left j lt).0
              (subst (λ (ys : List Env). P.Interleaves (map (bind made) (map (C.cut (columns_of (phys_live l) ls)) (left j)) ∷ ys ∷ []) (map (bind made) (rows j))) (of_right j lt).0 (interleaves made _ (rows j) (each j lt)))),
        ),
      )
      (λ j lt. All-from_recursion (IsAsWide made) (rows j) (interleaves_all (IsAsWide made) _ (rows j) (recursion_from_All (IsAsWide made) _ (of_left j lt).1, (recursion_from_All (IsAsWide made) _ (of_right j lt).1, tt)) (each j lt)))
    where
      of_left : (j : ℕ) → j < n → (map (bind made) (map (C.cut (columns_of (phys_live l) ls)) (left j)) ≡ map (renamed made ls) (map (bind (phys_live l)) (left j))) × AreAsWide made (map (C.cut (columns_of (phys_live l) ls)) (left j))
      of_left j lt = renamed_rows (phys_live l) (left j) (il.wide j lt) made ls some

      of_right : (j : ℕ) → j < n → (map (bind made) (map (C.cut (columns_of (phys_live r) rs)) (right j)) ≡ map (renamed made rs) (map (bind (phys_live r)) (right j))) × AreAsWide made (map (C.cut (columns_of (phys_live r) rs)) (right j))
      of_right j lt = renamed_rows (phys_live r) (right j) (ir.wide j lt) made rs others

-- ---- groups

-- what the first activity of a group makes of these rows
abbrev pub IsBuilt : GroupArg → List Row → List Row → Type 0
IsBuilt arg rows out = (pieces : List C.Group) × C.ArePieces arg.keys rows pieces × (out ≡ map (piece_row arg) pieces)

module _ (passing : Bool) (sets : Sets) (n : ℕ) (p : Phys) (input built rows : ℕ → List Row) (i : IsAllowed p passing sets n input) where
  module _ (keys : List (Var × Var)) (inner : Plan) (fit : IsInner inner (phys_live p)) (once : NoTwice (phys_live p ++ makes inner)) (row_wise : is_row_wise inner ≡ true) (literals : AreValues (n_literals (nested_of (phys_live p) inner))) (values : (j : ℕ) → j < n → AllByRecursion AreValues (input j)) where
    abbrev by : GroupArg
    by = group_arg (columns_of (phys_live p) (old_of keys)) (Some inner) p

    taken : (j : ℕ) → j < n → (b : IsBuilt (group_arg (columns_of (phys_live p) (old_of keys)) (Some inner) p) (input j) (built j)) → AllByRecursion (λ (g : C.Group). HaveValues (nested_of (phys_live p) inner) (C.rows_in g)) b.0
    taken j lt b =
        weaken (λ (g : C.Group). AllByRecursion AreValues (C.rows_in g)) (λ (g : C.Group). HaveValues (nested_of (phys_live p) inner) (C.rows_in g)) (λ g h. have_values (nested_of (phys_live p) inner) literals (C.rows_in g) h) b.0
        (all_unflat AreValues C.rows_in b.0 (all_moved AreValues (input j) (flat_map C.rows_in b.0) b.1.moved (values j lt)))

    each_grouped : (j : ℕ) → j < n → IsBuilt (group_arg (columns_of (phys_live p) (old_of keys)) (Some inner) p) (input j) (built j) → IsGroupOf (group_arg (columns_of (phys_live p) (old_of keys)) (Some inner) p) (built j) (rows j)
        → H.IsGrouped (columns_of (phys_live p) (old_of keys)) (nested_of (phys_live p) inner) (input j) (rows j)
    each_grouped j lt b e =
        pieces_grouped (nested_of (phys_live p) inner) (row_wise_same inner (phys_live p) fit.0 ∙ row_wise) (columns_of (phys_live p) (old_of keys)) (input j) b.0 b.1 (taken j lt b) (rows j) (subst (λ (xs : List Row). IsGroupOf by xs (rows j)) b.2 e)

    pub grouped : ((j : ℕ) → j < n → IsBuilt (group_arg (columns_of (phys_live p) (old_of keys)) (Some inner) p) (input j) (built j)) → ((j : ℕ) → j < n → IsGroupOf (group_arg (columns_of (phys_live p) (old_of keys)) (Some inner) p) (built j) (rows j)) → IsAllowed (roll-Phys (L.HashGroup keys inner p)) passing sets n rows
    grouped build emit =
        over passing sets n (L.HashGroup keys inner p) p (IsGrouped keys inner passing sets (phys_live p)) (λ parts h. h) (new_of keys ++ live inner []) (plive-roll (L.HashGroup keys inner p)) input rows i
        (λ j lt. group_rows inner (phys_live p) fit once keys (input j) (rows j) (i.wide j lt) (each_grouped j lt (build j lt) (emit j lt)) passing sets)

  pub distinct : NoTwice (phys_live p) → ((j : ℕ) → j < n → IsBuilt (group_arg (all_columns p) None p) (input j) (built j)) → ((j : ℕ) → j < n → IsGroupOf (group_arg (all_columns p) None p) (built j) (rows j)) → IsAllowed (roll-Phys (L.HashDistinct p)) passing sets n rows
  distinct once build emit =
      over passing sets n (L.HashDistinct p) p (λ xs ys. IsDistinctOf xs ys) (λ parts h. h) (phys_live p) (plive-roll (L.HashDistinct p)) input rows i
      (λ j lt.
      let d : C.IsDistinctOf (input j) (rows j) = each j lt in
      let w : AreAsWide (phys_live p) (rows j) = All-weaker (Contains (input j)) (IsAsWide (phys_live p)) (λ r m. All-contains (IsAsWide (phys_live p)) (input j) r (i.wide j lt) m) (rows j) d.within in
      (distincts (phys_live p) once (input j) (i.wide j lt) (rows j) d, w))
    where
      each : (j : ℕ) → j < n → C.IsDistinctOf (input j) (rows j)
      each j lt =
          let b = build j lt in
          pieces_distinct (length (phys_live p)) (input j) (i.wide j lt) b.0 b.1 (rows j) (subst (λ (xs : List Row). IsGroupOf (group_arg (all_columns p) None p) xs (rows j)) b.2 (emit j lt))
