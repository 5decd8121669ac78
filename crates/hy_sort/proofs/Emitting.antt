-- The steps of the driver that orders the rows of a sort and gives them.
use Rattle.std.proofs.Common.{◌≡◌, ◌≢◌, ◌<◌, ◌≤◌, ◌+◌, ◌-◌, ℕ, zero, suc, Bool, true, false, true≢false, List, [], ◌∷◌, ◌++◌, map, drop, length, get_or, None, refl, sym, ap, subst, ◌∙◌, append-nil, arith, length-drop}
use Rattle.std.specs.List.{All}
use Rattle.std.specs.List.Sorted.{IsPermutation, IsSorted}
use Rattle.std.proofs.lemmas.List.{length-map}
use Rattle.std.proofs.lemmas.List.Sorted.{IsPermutation-refl, IsPermutation-map, length_permutation}
use Rattle.al_value.specs.declared.settings.SortKey.{SortKey}
use Rattle.hy_frame.specs.Row.{Fields, IsRow}
use Rattle.hy_rest.proofs.Rest.{in_order_alive}
use Rattle.hy_store.specs.Fields.{fields_of}
use Rattle.hy_store.specs.declared.fault.Next.TheVariants as N
use Rattle.hy_driver.specs.Rows.{Row, AreValues, Fed, values_of}
use Rattle.hy_driver.specs.Seen.{Fixed, turns_in}
use Rattle.hy_driver.specs.Forms.{may_come, one_ended}
use Rattle.hy_driver.specs.Steps.{GivesUp, IsNew, Steps, TellsTurn}
use Rattle.hy_driver.specs.declared.phase.Phase.{Phase}
use Rattle.hy_driver.specs.declared.phase.Phase.TheVariants.{Working, Hungry, Ended, GivenUp}
use Rattle.hy_driver.proofs.Values.{as_many, fields_again}
use Rattle.hy_driver.proofs.Forms.{EndsMore, all_ended, ends_none, ends_one, new_ordered, none_tested, ordered, storeless_steps}
use Rattle.hy_job.specs.Columns.{keys_cmp}
use Rattle.hy_job.proofs.KeyOrder.{keys_cmp_total}
use Rattle.hy_rows.specs.State.{row_state}
use Rattle.hy_rows.proofs.RowSteps.{Ends, Lives, row_asks, row_ends, row_gives}
use Rattle.hy_sort.specs.Emit.{emit_out, emit_state, owed, turns_for, unordered}
use Rattle.hy_rows.proofs.Sorting.{some_order}

-- ---- outputs

-- the rows have an order
emit_lives : (keys : List SortKey) (rows : List Row) → Lives (emit_out keys rows)
emit_lives keys rows took = let found = some_order (keys_cmp keys) (keys_cmp_total keys) rows in (found.0, (found.1, found.2))

none_moved : {X : Type 0} (xs : List X) → IsPermutation [] xs → xs ≡ []
none_moved [] moved = refl
none_moved (x ∷ xs) moved = absurd (omega (arith, length_permutation [] (x ∷ xs) moved))

none_sorted : (keys : List SortKey) → IsSorted (keys_cmp keys) []
none_sorted keys k d low high = absurd (omega arith)

emit_over : (keys : List SortKey) → Ends (emit_out keys [])
emit_over keys = ((IsPermutation-refl [], none_sorted keys), λ rest out. none_moved rest out.0)

-- ---- rows from a place on

one_dropped : {X : Type 0} (xs : List X) (at : ℕ) (x : X) → at < length xs → x ≡ get_or xs at x → drop at xs ≡ x ∷ drop (suc at) xs
one_dropped [] at x low is = absurd (omega (arith, low))
one_dropped (y ∷ xs) zero x low is = ap (λ z. z ∷ xs) (sym is)
one_dropped (y ∷ xs) (suc at) x low is = let lower : at < length xs = omega (arith, low) in one_dropped xs at x lower is

dropped : {X : Type 0} (xs : List X) (at : ℕ) (x : X) → at < length xs → x ≡ get_or xs at x → drop at xs ≡ x ∷ drop (at + 1) xs
dropped xs at x low is = let next : suc at ≡ at + 1 = omega arith in subst (λ n. drop at xs ≡ x ∷ drop n xs) next (one_dropped xs at x low is)

all_dropped : {X : Type 0} (xs : List X) (at : ℕ) → length xs ≤ at → drop at xs ≡ []
all_dropped [] zero low = refl
all_dropped [] (suc at) low = refl
all_dropped (x ∷ xs) zero low = absurd (omega (arith, low))
all_dropped (x ∷ xs) (suc at) low = let lower : length xs ≤ at = omega (arith, low) in all_dropped xs at lower

-- ---- steps

module _ (fixed : Fixed) (none : fixed.check ≡ None) (keys : List SortKey) where
  -- the rows are ordered
  sorts : (rows rows' : List Fields) (ended : Bool) (phase phase' : Phase) → IsPermutation rows rows' → IsSorted (keys_cmp keys) (map values_of rows')
      → Steps (emit_state fixed keys rows false 0 ended phase) [] [] (emit_state fixed keys rows' true 0 ended phase')
  sorts rows rows' ended phase phase' moved sorted =
      storeless_steps _ _ (one_ended ended) (one_ended ended) phase phase' _ _ [] [] [] [] fixed [] []
      (ordered (one_ended ended) (one_ended ended) fixed.width [] (ends_none (one_ended ended)) tt [] (map values_of rows') [] [] [] (emit_out keys (map values_of rows)) (emit_out keys [])
      (λ took rest come out. (
        map values_of rows',
        (IsPermutation-map values_of rows rows' moved, sorted),
        sym (append-nil (map values_of rows')) ∙ ap (λ r. map values_of rows' ++ r) (sym (none_moved rest out.0)),
      )))
      (in_order_alive (may_come (one_ended ended) fixed.width) (emit_out keys []) (map values_of rows') [] (λ took come. emit_lives keys [] took)) (none_tested fixed.check none [])

  pub emit_sorts : (rows rows' : List Fields) (out : Fields) (sorted : Bool) (at : ℕ) (ended : Bool) (phase : Phase) → sorted ≡ false → at ≡ 0 → phase ≡ Working → IsPermutation rows rows' → IsSorted (keys_cmp keys) (map values_of rows')
      → TellsTurn (emit_state fixed keys rows sorted at ended phase) out (emit_state fixed keys rows' true at ended phase) N.Work
  emit_sorts rows rows' out true at ended phase unsorted first works moved are = absurd (true≢false unsorted)
  emit_sorts rows rows' out false (suc at) ended phase unsorted first works moved are = absurd (omega (arith, first))
  emit_sorts rows rows' out false zero ended phase unsorted first works moved are =
      let long : length (map values_of rows') ≡ length rows = length-map rows' values_of ∙ length_permutation rows rows' moved in
      (works, omega (arith, long), sorts rows rows' ended phase phase moved are)

  -- nothing comes of a row that is taken, and inputs may end
  steps : (rows : List Fields) (sorted : Bool) (at : ℕ) (ended ended' : Bool) (phase phase' : Phase) (fed : List Fed) → EndsMore (one_ended ended) (one_ended ended') → may_come (one_ended ended) fixed.width fed
      → Steps (emit_state fixed keys rows sorted at ended phase) fed [] (emit_state fixed keys rows sorted at ended' phase')
  steps rows sorted at ended ended' phase phase' fed less may =
      storeless_steps _ _ (one_ended ended) (one_ended ended') phase phase' _ _ [] [] [] [] fixed fed []
      (ordered (one_ended ended) (one_ended ended') fixed.width fed less may (owed sorted at rows) (owed sorted at rows) [] [] [] (emit_out keys (unordered sorted rows)) (emit_out keys (unordered sorted rows)) (λ took rest come out. (rest, out, refl)))
      (in_order_alive (may_come (one_ended ended') fixed.width) (emit_out keys (unordered sorted rows)) (owed sorted at rows) [] (λ took come. emit_lives keys (unordered sorted rows) took)) (none_tested fixed.check none (map (λ x. x.1) fed))

  pub emit_fed : (rows : List Fields) (sorted : Bool) (at : ℕ) (ended : Bool) (phase : Phase) (input : ℕ) (values : Row) (row : Fields) → one_ended ended input ≡ false → length row ≡ fixed.width input → AreValues values → fields_of values ≡ row
      → Steps (emit_state fixed keys rows sorted at ended phase) ((input, values) ∷ []) [] (emit_state fixed keys rows sorted at ended Working)
  emit_fed rows sorted at ended phase input values row open_ wide are is =
      steps rows sorted at ended ended phase Working ((input, values) ∷ []) (ends_none (one_ended ended)) ((open_, as_many values row (fixed.width input) is wide, are), tt)

  pub emit_stays : (rows : List Fields) (sorted : Bool) (at : ℕ) (ended : Bool) (phase : Phase) → Steps (emit_state fixed keys rows sorted at ended phase) [] [] (emit_state fixed keys rows sorted at true phase)
  emit_stays rows sorted at ended phase = steps rows sorted at ended true phase phase [] (ends_one ended) tt

  -- it is given up by its order failing
  pub emit_fails : (rows rows' : List Fields) (sorted : Bool) (at : ℕ) (ended : Bool) (phase : Phase) → sorted ≡ false → at ≡ 0 → IsPermutation rows rows'
      → (emit_state fixed keys rows' true at ended phase).turns < (emit_state fixed keys rows sorted at ended phase).turns
  emit_fails rows rows' true at ended phase unsorted first moved = absurd (true≢false unsorted)
  emit_fails rows rows' false (suc at) ended phase unsorted first moved = absurd (omega (arith, first))
  emit_fails rows rows' false zero ended phase unsorted first moved =
      let long : length (map values_of rows') ≡ length rows = length-map rows' values_of ∙ length_permutation rows rows' moved in
      omega (arith, long)

  -- the next row is given
  pub emit_gives : (rows : List Fields) (row out : Fields) (sorted : Bool) (at : ℕ) (ended : Bool) (phase : Phase) → sorted ≡ true → at < length rows → row ≡ get_or rows at row → phase ≡ Working
      → IsRow (length row) row → All (λ r. length r ≡ fixed.arity) rows → row ≡ out
      → TellsTurn (emit_state fixed keys rows sorted at ended phase) out (emit_state fixed keys rows sorted (at + 1) ended phase) N.Row
  emit_gives rows row out false at ended phase is low here works fields fit same = absurd (true≢false (sym is))
  emit_gives rows row out true at ended phase is low here works fields fit same =
      let again = fields_again (length row) row fields in
      let wide : length row ≡ fixed.arity = subst (λ r. length r ≡ fixed.arity) (sym here) (fit at row low) in
      subst (λ more. TellsTurn (row_state fixed (emit_out keys []) (one_ended ended) (map values_of more) phase) out (emit_state fixed keys rows true (at + 1) ended phase) N.Row) (sym (dropped rows at row low here))
      (row_gives fixed (one_ended ended) (emit_out keys []) (emit_lives keys []) (values_of row) (map values_of (drop (at + 1) rows)) out phase works again.0 (again.2 ∙ wide) (again.1 ∙ same))

  pub emit_skips : (rows : List Fields) (sorted : Bool) (at : ℕ) (ended : Bool) (phase : Phase) → sorted ≡ true → at < length rows
      → (emit_state fixed keys rows sorted (at + 1) ended phase).turns < (emit_state fixed keys rows sorted at ended phase).turns
  emit_skips rows false at ended phase is low = absurd (true≢false (sym is))
  emit_skips rows true at ended phase is low =
      let here : length (map values_of (drop at rows)) ≡ length rows - at = length-map (drop at rows) values_of ∙ length-drop at rows in
      let next : length (map values_of (drop (at + 1) rows)) ≡ length rows - (at + 1) = length-map (drop (at + 1) rows) values_of ∙ length-drop (at + 1) rows in
      omega (arith, here, next)

  -- where all rows were given it ends, or asks for input
  pub emit_ends : (rows : List Fields) (out : Fields) (sorted : Bool) (at : ℕ) (ended : Bool) (phase : Phase) → sorted ≡ true → length rows ≤ at → ended ≡ true → phase ≢ GivenUp
      → TellsTurn (emit_state fixed keys rows sorted at ended phase) out (emit_state fixed keys rows sorted at ended Ended) N.End
  emit_ends rows out false at ended phase is low over live = absurd (true≢false (sym is))
  emit_ends rows out true at ended phase is low over live =
      subst (λ more. TellsTurn (row_state fixed (emit_out keys []) (one_ended ended) (map values_of more) phase) out (row_state fixed (emit_out keys []) (one_ended ended) (map values_of more) Ended) N.End) (sym (all_dropped rows at low))
      (row_ends fixed (one_ended ended) (emit_out keys []) (emit_lives keys []) out phase (emit_over keys) (subst (λ b. (input : ℕ) → one_ended b input ≡ true) (sym over) all_ended) live)

  pub emit_asks : (rows : List Fields) (out : Fields) (sorted : Bool) (at : ℕ) (ended : Bool) (phase : Phase) → sorted ≡ true → length rows ≤ at → ended ≡ false → phase ≢ GivenUp → (phase ≡ Ended → ended ≡ true)
      → TellsTurn (emit_state fixed keys rows sorted at ended phase) out (emit_state fixed keys rows sorted at ended Hungry) N.NeedInput
  emit_asks rows out false at ended phase is low going live over = absurd (true≢false (sym is))
  emit_asks rows out true at ended phase is low going live over =
      subst (λ more. TellsTurn (row_state fixed (emit_out keys []) (one_ended ended) (map values_of more) phase) out (row_state fixed (emit_out keys []) (one_ended ended) (map values_of more) Hungry) N.NeedInput) (sym (all_dropped rows at low))
      (row_asks fixed (one_ended ended) (emit_out keys []) (emit_lives keys []) out phase 0 going live over)

  -- one that is given up owes nothing
  pub emit_gives_up : (rows : List Fields) (sorted : Bool) (at end : ℕ) (ended : Bool) (phase : Phase) → length rows ≤ end → GivesUp (emit_state fixed keys rows sorted at ended phase) (emit_state fixed keys rows true end ended GivenUp)
  emit_gives_up rows sorted at end ended phase low = record {
    phase = refl;
    frames = refl;
    turns = subst (λ more. length (map values_of more) + 0 ≤ turns_for sorted at rows + turns_in phase) (sym (all_dropped rows end low)) (omega arith);
    runs = λ few. omega arith;
    made = refl;
  }

pub emit_new : (fixed : Fixed) (keys : List SortKey) (rows : List Fields) (handed : List Fields) → rows ≡ handed → IsNew (emit_state fixed keys rows false 0 true Working) (emit_out keys (map values_of handed))
emit_new fixed keys rows handed same = subst (λ h. IsNew (emit_state fixed keys rows false 0 true Working) (emit_out keys (map values_of h))) same (record {
  phase = refl;
  frames = omega arith;
  untested = refl;
  rest = λ h. new_ordered (one_ended true) fixed.width (emit_out keys (map values_of rows));
  alive = λ h. in_order_alive (may_come (one_ended true) fixed.width) (emit_out keys (map values_of rows)) [] [] (λ took come. emit_lives keys (map values_of rows) took);
})
