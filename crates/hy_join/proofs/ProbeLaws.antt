-- The steps of the driver that probes the right side of a join.
use Rattle.std.proofs.Common.{◌≡◌, ◌≢◌, ◌<◌, ◌≤◌, ◌+◌, ℕ, Bool, true, false, true≢false, List, [], ◌∷◌, ◌++◌, length, Ok, Option, refl, sym, ap, subst, ◌∙◌, arith}
use Rattle.std.specs.Prelude.{is_some}
use Rattle.std.specs.List.Sorted.{IsPermutation}
use Rattle.std.proofs.lemmas.List.Sorted.{IsPermutation-refl, IsPermutation-append_right, length_permutation}
use Rattle.hy_frame.specs.Row.{Fields}
use Rattle.hy_rest.proofs.Rest.{in_order_alive}
use Rattle.hy_store.specs.Fields.{fields_of}
use Rattle.hy_store.specs.declared.fault.Next.{Next}
use Rattle.hy_store.specs.declared.fault.Next.TheVariants as N
use Rattle.hy_driver.specs.Rows.{Row, AreValues, Fed, values_of}
use Rattle.hy_driver.specs.Seen.{Fixed, StoreOf, turns_in}
use Rattle.hy_driver.specs.Forms.{may_come, one_ended}
use Rattle.hy_driver.specs.Steps.{IsNew, Steps, TellsTurn}
use Rattle.hy_driver.specs.declared.phase.Phase.{Phase}
use Rattle.hy_driver.specs.declared.phase.Phase.TheVariants.{Working, Hungry, Ended, GivenUp}
use Rattle.hy_driver.proofs.Values.{values_again, fields_again, as_many}
use Rattle.hy_driver.proofs.Forms.{EndsMore, ends_none, all_ended, ordered, storeless_steps}
use Rattle.hy_job.specs.declared.job.JoinArg.{JoinArg}
use Rattle.hy_job.specs.Columns.{joined_as, matches, padded}
use Rattle.hy_job.specs.Drivers.{received_of}
use Rattle.hy_rows.specs.State.{row_state}
use Rattle.hy_rows.proofs.RowSteps.{Lives, Ends, row_asks, row_ends, row_fed, row_new, row_stays}
use Rattle.hy_join.specs.Keys.{hash_of}
use Rattle.hy_join.proofs.BuildLaws.{received_first}
use Rattle.hy_join.proofs.KeyLaws.{partners_all, partners_few}
use Rattle.hy_join.specs.declared.left.LeftRow.{LeftRow}
use Rattle.hy_join.specs.declared.right.RightSide.{RightSide}
use Rattle.hy_join.specs.declared.right.Sides.{Sides}
use Rattle.hy_join.specs.Probe.{Looks, arity_of, left_turns, or_alone_yet, owed, owed_of, probe_fixed, probe_out, probe_seen, probe_state, partners_of, right_rows, turns_of}

-- ---- the output

module _ (arg : JoinArg) (arity : ℕ) (rights : List Row) where
  pub probe_lives : Lives (probe_out arg arity rights)
  probe_lives took = (joined_as arg.outer arity arg (received_of took 0) rights, IsPermutation-refl _)

  none_joined : (outer : Bool) → joined_as outer arity arg [] rights ≡ []
  none_joined true = refl
  none_joined false = refl

  none_of : (rows : List Row) → IsPermutation [] rows → rows ≡ []
  none_of [] p = refl
  none_of (row ∷ rows) p = absurd (omega (arith, length_permutation [] (row ∷ rows) p))

  pub probe_nothing : Ends (probe_out arg arity rights)
  probe_nothing = (
    subst (λ (rows : List Row). IsPermutation rows []) (sym (none_joined arg.outer)) (IsPermutation-refl []),
    λ rest p. none_of rest (subst (λ (rows : List Row). IsPermutation rows rest) (none_joined arg.outer) p),
  )

  -- a left row more gives its pairs, or itself
  one_more : (outer : Bool) (l : Row) (ls rest : List Row) → IsPermutation (joined_as outer arity arg ls rights) rest
      → IsPermutation (joined_as outer arity arg (l ∷ ls) rights) (or_alone_yet outer (padded arity l) (matches arg rights l) ++ rest)
  one_more true l ls rest p = IsPermutation-append_right _ _ rest p
  one_more false l ls rest p = IsPermutation-append_right _ _ rest p

  pub probe_makes : (ended : Bool) (input : ℕ) (l : Row) → one_ended ended input ≡ false → (took : List Fed) (rest : List Row) → probe_out arg arity rights took rest
      → probe_out arg arity rights ((input, l) ∷ took) (or_alone_yet arg.outer (padded arity l) (matches arg rights l) ++ rest)
  probe_makes true input l open_ took rest p = absurd (true≢false (sym (all_ended input) ∙ open_))
  probe_makes false input l open_ took rest p =
      subst (λ (ls : List Row). IsPermutation (joined_as arg.outer arity arg ls rights) (or_alone_yet arg.outer (padded arity l) (matches arg rights l) ++ rest)) (sym (received_first input l took open_))
      (one_more arg.outer l (received_of took 0) rest p)

-- ---- states

module _ (fixed : Fixed) (out : List Fed → List Row → Type 0) (store : StoreOf) where
  -- what holds of the rows that are owed holds however many turns are left
  state_steps : (ended ended' : Bool) (phase phase' : Phase) (owed owed' : List Row) (turns turns' : ℕ) (fed : List Fed) (sent : List Row)
      → Steps (row_state fixed out (one_ended ended) owed phase) fed sent (row_state fixed out (one_ended ended') owed' phase')
      → Steps (probe_state fixed out ended phase store owed turns) fed sent (probe_state fixed out ended' phase' store owed' turns')
  state_steps ended ended' phase phase' owed owed' turns turns' fed sent s = record { sound = s.sound; rest = s.rest; alive = s.alive; makes = λ h took may. refl; tested = s.tested; served = refl }

  state_asks : (ended : Bool) (fields : Fields) (phase : Phase) → TellsTurn (row_state fixed out (one_ended ended) [] phase) fields (row_state fixed out (one_ended ended) [] Hungry) N.NeedInput
      → TellsTurn (probe_state fixed out ended phase store [] 0) fields (probe_state fixed out ended Hungry store [] 0) N.NeedInput
  state_asks ended fields phase h = (h.0, h.1, h.2, state_steps ended ended phase Hungry [] [] 0 0 [] [] h.3, h.4)

  state_ends : (ended : Bool) (fields : Fields) (phase : Phase) → TellsTurn (row_state fixed out (one_ended ended) [] phase) fields (row_state fixed out (one_ended ended) [] Ended) N.End
      → TellsTurn (probe_state fixed out ended phase store [] 0) fields (probe_state fixed out ended Ended store [] 0) N.End
  state_ends ended fields phase h = (h.0, h.1, h.2, state_steps ended ended phase Ended [] [] 0 0 [] [] h.3, h.4, h.5, λ s. record { finished = (h.6 s).finished; makes = refl })

  -- a new one owes nothing
  pub state_new : Lives out → IsNew (probe_state fixed out false Working store [] 0) out
  state_new alive =
      let new = row_new fixed (one_ended false) out alive in
      record { phase = refl; frames = omega arith; untested = refl; rest = new.rest; alive = new.alive }

ends_more : (ended : Bool) → EndsMore (one_ended ended) (one_ended true)
ends_more ended k h = absurd (true≢false (sym (all_ended k) ∙ h))

-- ---- the driver

module _ (side : RightSide) (store : StoreOf) where
  abbrev out : List Fed → List Row → Type 0
  out = probe_out side.arg (arity_of side) (right_rows side.rows)

  abbrev fixed : Fixed
  fixed = probe_fixed side

  alive : Lives out
  alive = probe_lives side.arg (arity_of side) (right_rows side.rows)

  -- a left row is taken
  pub probe_fed : (left : LeftRow) (row : Fields) (hash : Option ℕ) (ended : Bool) (phase : Phase) (input : ℕ) (values : Row) → phase ≡ Hungry → (left.holds ≡ true → phase ≡ Working)
      → one_ended ended input ≡ false → length row ≡ side.sides.left → hash ≡ hash_of side.arg.left (values_of row) → AreValues values → fields_of values ≡ row
      → Steps (probe_seen side left ended phase store) ((input, values) ∷ []) [] (probe_seen side (record { row = row; hash = hash; holds = true; alone = side.arg.outer; place = 0 }) ended Working store)
  probe_fed left row hash ended phase input values hungry works open_ wide hashed are is =
      free left.holds works
    where
      same : values ≡ values_of row
      same = sym (values_again values are) ∙ ap values_of is

      made : Row → List Row → List Row
      made l pairs = or_alone_yet side.arg.outer (padded (arity_of side) l) pairs

      -- the rows that it may meet are all with which it is joined
      whole : made (values_of row) (matches side.arg (right_rows side.rows) (values_of row)) ≡ owed_of side.arg (arity_of side) (partners_of side hash) row true side.arg.outer 0
      whole = sym (ap (λ (h : Option ℕ). made (values_of row) (matches side.arg (right_rows (partners_of side h)) (values_of row))) hashed
          ∙ ap (made (values_of row)) (partners_all side.arg (is_some side.index) (values_of row) side.rows side.pairs))

      step : Steps (row_state fixed out (one_ended ended) [] phase) ((input, values) ∷ []) [] (row_state fixed out (one_ended ended) (owed_of side.arg (arity_of side) (partners_of side hash) row true side.arg.outer 0) Working)
      step = row_fed fixed (one_ended ended) (one_ended ended) (ends_none (one_ended ended)) out out alive (owed_of side.arg (arity_of side) (partners_of side hash) row true side.arg.outer 0) phase Working input values open_
          (as_many values row side.sides.left is wide) are tt
          (subst (λ (l : Row). (took : List Fed) (rest : List Row) → out took rest → out ((input, l) ∷ took) (owed_of side.arg (arity_of side) (partners_of side hash) row true side.arg.outer 0 ++ rest)) (sym same)
          (subst (λ (owes : List Row). (took : List Fed) (rest : List Row) → out took rest → out ((input, values_of row) ∷ took) (owes ++ rest)) whole
          (probe_makes side.arg (arity_of side) (right_rows side.rows) ended input (values_of row) open_)))

      free : (holds : Bool) → (holds ≡ true → phase ≡ Working)
          → Steps (probe_state fixed out ended phase store (owed_of side.arg (arity_of side) (partners_of side left.hash) left.row holds left.alone left.place) (turns_of (partners_of side left.hash) holds left.place)) ((input, values) ∷ []) []
          (probe_state fixed out ended Working store (owed_of side.arg (arity_of side) (partners_of side hash) row true side.arg.outer 0) (turns_of (partners_of side hash) true 0))
      free true busy = absurd (no_work (sym hungry ∙ busy refl))
        where
          no_work : Hungry ≡ Working → ⊥
          no_work e = cc
      free false busy = state_steps fixed out store ended ended phase Working [] (owed_of side.arg (arity_of side) (partners_of side hash) row true side.arg.outer 0) 0 (turns_of (partners_of side hash) true 0) ((input, values) ∷ []) [] step

  pub probe_stays : (left : LeftRow) (ended ended' : Bool) (phase phase' : Phase) → EndsMore (one_ended ended) (one_ended ended') → Steps (probe_seen side left ended phase store) [] [] (probe_seen side left ended' phase' store)
  probe_stays left ended ended' phase phase' less =
      state_steps fixed out store ended ended' phase phase' (owed side left) (owed side left) (left_turns side left) (left_turns side left) [] [] (row_stays fixed (one_ended ended) (one_ended ended') less out alive (owed side left) phase phase')

  pub probe_ended : (left : LeftRow) (ended : Bool) (phase : Phase) → Steps (probe_seen side left ended phase store) [] [] (probe_seen side left true phase store)
  probe_ended left ended phase = probe_stays left ended true phase phase (ends_more ended)

  -- the first row that is owed is given
  gives : (ended : Bool) (phase : Phase) (row : Row) (rows : List Row) → Steps (row_state fixed out (one_ended ended) (row ∷ rows) phase) [] (row ∷ []) (row_state fixed out (one_ended ended) rows phase)
  gives ended phase row rows =
      storeless_steps _ _ (one_ended ended) (one_ended ended) phase phase _ _ [] [] [] [] fixed [] (row ∷ [])
      (ordered (one_ended ended) (one_ended ended) fixed.width [] (ends_none (one_ended ended)) tt (row ∷ rows) rows [] [] (row ∷ []) out out (λ took rest come output. (rest, output, refl)))
      (in_order_alive (may_come (one_ended ended) fixed.width) out rows [] (λ took come. alive took)) ([], refl, tt)

  -- a turn of the left row at hand is one of the driver
  pub probe_looked : (left left' : LeftRow) (fields : Fields) (next : Next) (ended : Bool) (phase : Phase) → Looks side left fields left' (Ok next) → left_turns side left' < left_turns side left → phase ≡ Working
      → TellsTurn (probe_seen side left ended phase store) fields (probe_seen side left' ended phase store) next
  probe_looked left left' fields N.Row ended phase looked turned works =
      let again = fields_again (arity_of side) fields looked.is_row in (
        works,
        omega (arith, turned),
        (
          values_of fields,
          again.0,
          again.2,
          again.1,
          subst (λ (rows : List Row). Steps (probe_state fixed out ended phase store rows (left_turns side left)) [] (values_of fields ∷ []) (probe_seen side left' ended phase store)) (sym looked.first)
              (state_steps fixed out store ended ended phase phase (values_of fields ∷ owed side left') (owed side left') (left_turns side left) (left_turns side left') [] (values_of fields ∷ []) (gives ended phase (values_of fields) (owed side left'))),
        ),
      )
  probe_looked left left' fields N.Work ended phase looked turned works = (
    works,
    omega (arith, turned),
    subst (λ (rows : List Row). Steps (probe_seen side left ended phase store) [] [] (probe_state fixed out ended phase store rows (left_turns side left'))) (sym looked)
        (state_steps fixed out store ended ended phase phase (owed side left) (owed side left) (left_turns side left) (left_turns side left') [] []
        (row_stays fixed (one_ended ended) (one_ended ended) (ends_none (one_ended ended)) out alive (owed side left) phase phase)),
  )
  probe_looked left left' fields N.NeedInput ended phase looked turned works = absurd looked
  probe_looked left left' fields N.End ended phase looked turned works = absurd looked

  -- it asks for a left row where it holds none
  pub probe_asks : (left : LeftRow) (fields : Fields) (ended : Bool) (phase : Phase) → left.holds ≡ false → ended ≡ false → phase ≢ GivenUp → (phase ≡ Ended → ended ≡ true)
      → TellsTurn (probe_seen side left ended phase store) fields (probe_seen side left ended Hungry store) N.NeedInput
  probe_asks left fields ended phase free going live over = asks left.holds free
    where
      asks : (holds : Bool) → holds ≡ false → TellsTurn (probe_state fixed out ended phase store (owed_of side.arg (arity_of side) (partners_of side left.hash) left.row holds left.alone left.place) (turns_of (partners_of side left.hash) holds left.place)) fields
          (probe_state fixed out ended Hungry store (owed_of side.arg (arity_of side) (partners_of side left.hash) left.row holds left.alone left.place) (turns_of (partners_of side left.hash) holds left.place)) N.NeedInput
      asks true none = absurd (true≢false none)
      asks false none = state_asks fixed out store ended fields phase (row_asks fixed (one_ended ended) out alive fields phase 0 going live over)

  -- it has ended where it holds none and none comes
  pub probe_ends : (left : LeftRow) (fields : Fields) (ended : Bool) (phase : Phase) → left.holds ≡ false → ended ≡ true → phase ≢ GivenUp
      → TellsTurn (probe_seen side left ended phase store) fields (probe_seen side left ended Ended store) N.End
  probe_ends left fields ended phase free all live = ends left.holds ended free all
    where
      ends : (holds ended : Bool) → holds ≡ false → ended ≡ true → TellsTurn (probe_state fixed out ended phase store (owed_of side.arg (arity_of side) (partners_of side left.hash) left.row holds left.alone left.place) (turns_of (partners_of side left.hash) holds left.place)) fields
          (probe_state fixed out ended Ended store (owed_of side.arg (arity_of side) (partners_of side left.hash) left.row holds left.alone left.place) (turns_of (partners_of side left.hash) holds left.place)) N.End
      ends true ended none all = absurd (true≢false none)
      ends false false none all = absurd (true≢false (sym all))
      ends false true none all = state_ends fixed out store true fields phase (row_ends fixed (one_ended true) out alive fields phase (probe_nothing side.arg (arity_of side) (right_rows side.rows)) all_ended live)

-- a left row that was taken puts off the end by what it costs at most
pub fed_turns : (side : RightSide) (left : LeftRow) (hash : Option ℕ) (phase : Phase) → phase ≡ Hungry → turns_of (partners_of side hash) true 0 + turns_in Working ≤ (left_turns side left + turns_in phase) + (length side.rows + 2)
fed_turns side left hash phase hungry =
    let few = partners_few (is_some side.index) side.arg.right hash side.rows in
    let asked : turns_in phase ≡ 1 = ap turns_in hungry in
    omega (arith, few, asked)

-- a new one with this right side may give what its activity makes
pub probe_new : (side : RightSide) (left : LeftRow) (store : StoreOf) (arg : JoinArg) (sides : Sides) (rows : List Fields) → left.holds ≡ false → side.arg ≡ arg → side.sides ≡ sides → side.rows ≡ rows
    → IsNew (probe_seen side left false Working store) (probe_out arg (sides.left + sides.right) (right_rows rows))
probe_new side left store arg sides rows free same_arg same_sides same_rows =
    subst (λ (a : JoinArg). IsNew (probe_seen side left false Working store) (probe_out a (sides.left + sides.right) (right_rows rows))) same_arg
    (subst (λ (s : Sides). IsNew (probe_seen side left false Working store) (probe_out side.arg (s.left + s.right) (right_rows rows))) same_sides
    (subst (λ (rs : List Fields). IsNew (probe_seen side left false Working store) (probe_out side.arg (arity_of side) (right_rows rs))) same_rows (holds_none left.holds free)))
  where
    holds_none : (holds : Bool) → holds ≡ false → IsNew (probe_state (probe_fixed side) (probe_out side.arg (arity_of side) (right_rows side.rows)) false Working store (owed_of side.arg (arity_of side) (partners_of side left.hash) left.row holds left.alone left.place) (turns_of (partners_of side left.hash) holds left.place)) (probe_out side.arg (arity_of side) (right_rows side.rows))
    holds_none true e = absurd (true≢false e)
    holds_none false e = state_new (probe_fixed side) (probe_out side.arg (arity_of side) (right_rows side.rows)) store (probe_lives side.arg (arity_of side) (right_rows side.rows))
