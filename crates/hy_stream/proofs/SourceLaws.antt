-- The steps of the operators without inputs.
use Rattle.std.proofs.Common.{◌≡◌, ◌≢◌, ◌<◌, ◌≤◌, ◌%◌, ◌+◌, ℕ, zero, suc, nat_eq, Bool, true, false, cond, List, [], ◌∷◌, ◌++◌, map, filter, drop, length, get_or, Option, None, refl, sym, ap, subst, ◌∙◌, arith, append-nil}
use Rattle.std.specs.List.{enumerate_from}
use Rattle.std.proofs.Math.Dec.{eqb-suc-zero}
use Rattle.std.proofs.lemmas.Bool.{eq-eqb, ne_eqb}
use Rattle.std.proofs.lemmas.List.{at_drop_more, drop_all}
use Rattle.hy_rest.proofs.Rest.{in_order_alive}
use Rattle.hy_frame.specs.Row.{Fields, IsRow}
use Rattle.hy_store.specs.Fields.{fields_of}
use Rattle.hy_store.specs.declared.fault.Next.TheVariants as N
use Rattle.hy_driver.specs.Rows.{Row, AreValues, Fed, values_of}
use Rattle.hy_driver.specs.Seen.{Check, Fixed, Seen, turns_in}
use Rattle.hy_driver.specs.Forms.{may_come, one_ended}
use Rattle.hy_driver.specs.Steps.{GivesUp, IsNew, Pass, Steps, TellsTurn}
use Rattle.hy_driver.specs.declared.phase.Phase.{Phase}
use Rattle.hy_driver.specs.declared.phase.Phase.TheVariants.{Working, Hungry, Ended, GivenUp}
use Rattle.hy_driver.proofs.Forms.{all_ended, ends_none, ends_one}
use Rattle.hy_driver.proofs.Values.{as_many, fields_again}
use Rattle.hy_job.specs.declared.job.Kind.TheVariants as K
use Rattle.hy_job.specs.Drivers.{own_rows}
use Rattle.hy_rows.specs.State.{row_state}
use Rattle.hy_rows.proofs.RowSteps.{row_asks, row_ends, row_gives, row_left, row_stays}
use Rattle.hy_stream.specs.Source.{nothing_out, one_row}
use Rattle.hy_stream.specs.Places.{own_of}

-- ---- places

module _ (n j : ℕ) where
  -- those of the rows behind this place, of which the rows are given
  abbrev falls : ℕ → List Row → List (ℕ × Row)
  falls at rows = filter (λ e. nat_eq (e.0 % n) j) (enumerate_from at rows)

  own_at : (at : ℕ) (row : Row) (rows : List Row) → at < length rows
      → own_of n j at rows ≡ map (λ e. e.1) (cond (nat_eq (at % n) j) ((at, get_or rows at row) ∷ falls (at + 1) (drop (at + 1) rows)) (falls (at + 1) (drop (at + 1) rows)))
  own_at at row rows low = at_drop_more (λ (more : List Row). map (λ e. e.1) (falls at more)) rows at row low

  pub own_here : (at : ℕ) (row : Row) (rows : List Row) → at < length rows → at % n ≡ j → own_of n j at rows ≡ get_or rows at row ∷ own_of n j (at + 1) rows
  own_here at row rows low is =
      own_at at row rows low ∙ ap (λ b. map (λ e. e.1) (cond b ((at, get_or rows at row) ∷ falls (at + 1) (drop (at + 1) rows)) (falls (at + 1) (drop (at + 1) rows)))) (eq-eqb (at % n) j is)

  pub own_later : (at : ℕ) (rows : List Row) → at < length rows → at % n ≢ j → own_of n j at rows ≡ own_of n j (at + 1) rows
  own_later at rows low other =
      own_at at [] rows low ∙ ap (λ b. map (λ e. e.1) (cond b ((at, get_or rows at []) ∷ falls (at + 1) (drop (at + 1) rows)) (falls (at + 1) (drop (at + 1) rows)))) (ne_eqb (at % n) j other)

  pub own_none : (at : ℕ) (rows : List Row) → length rows ≤ at → own_of n j at rows ≡ []
  own_none at rows low = ap (λ (more : List Row). map (λ e. e.1) (falls at more)) (drop_all at rows low)

  pub place_next : (from at : ℕ) (rows : List Row) → at < length rows → at % n ≢ j → own_of n j from rows ≡ own_of n j at rows → own_of n j from rows ≡ own_of n j (at + 1) rows
  place_next from at rows low other is = is ∙ own_later at rows low other

  pub place_end : (from at end : ℕ) (rows : List Row) → length rows ≤ at → length rows ≤ end → own_of n j from rows ≡ own_of n j at rows → own_of n j from rows ≡ own_of n j end rows
  place_end from at end rows low low' is = is ∙ own_none at rows low ∙ sym (own_none end rows low')

-- ---- steps

-- fields with the values of a row are its fields
pub row_put : (out : Fields) (row : Row) → values_of out ≡ row → IsRow (length out) out → AreValues row × (fields_of row ≡ out)
row_put out row same is =
    let again = fields_again (length out) out is in
    (subst AreValues same again.0, ap fields_of (sym same) ∙ again.1)

lives : (took : List Fed) → (rest : List Row) × nothing_out took rest
lives took = ([], refl)

module _ (fixed : Fixed) where
  abbrev state : Bool → List Row → Phase → Seen
  state ended owed phase = row_state fixed nothing_out (one_ended ended) owed phase

  pub source_fed : (ended : Bool) (owed : List Row) (phase : Phase) (input : ℕ) (values : Row) (row : Fields) → fixed.check ≡ None → one_ended ended input ≡ false → length row ≡ fixed.width input
      → AreValues values → fields_of values ≡ row → Steps (state ended owed phase) ((input, values) ∷ []) [] (state ended owed Working)
  source_fed ended owed phase input values row none open_ wide are is =
      row_left fixed (one_ended ended) (one_ended ended) (ends_none (one_ended ended)) nothing_out nothing_out lives owed phase Working input values open_ (as_many values row (fixed.width input) is wide) are
      (subst (λ (check : Option Check). Pass check (values ∷ [])) (sym none) tt) (λ took rest output. output)

  pub source_stays : (ended : Bool) (owed : List Row) (phase : Phase) → Steps (state ended owed phase) [] [] (state true owed phase)
  source_stays ended owed phase = row_stays fixed (one_ended ended) (one_ended true) (ends_one ended) nothing_out lives owed phase phase

  pub source_gives : (ended : Bool) (owed owed' : List Row) (row : Row) (out : Fields) (phase : Phase) → owed ≡ row ∷ owed' → phase ≡ Working → AreValues row → length row ≡ fixed.arity → fields_of row ≡ out
      → TellsTurn (state ended owed phase) out (state ended owed' phase) N.Row
  source_gives ended owed owed' row out phase is works are wide same =
      subst (λ (rows : List Row). TellsTurn (state ended rows phase) out (state ended owed' phase) N.Row) (sym is) (row_gives fixed (one_ended ended) nothing_out lives row owed' out phase works are wide same)

  pub source_asks : (ended : Bool) (owed owed' : List Row) (out : Fields) (phase : Phase) → owed ≡ [] → owed' ≡ [] → ended ≡ false → phase ≢ GivenUp → (phase ≡ Ended → ended ≡ true)
      → TellsTurn (state ended owed phase) out (state ended owed' Hungry) N.NeedInput
  source_asks ended owed owed' out phase none none' going live over =
      subst (λ (rows : List Row). TellsTurn (state ended rows phase) out (state ended owed' Hungry) N.NeedInput) (sym none)
      (subst (λ (rows : List Row). TellsTurn (state ended [] phase) out (state ended rows Hungry) N.NeedInput) (sym none')
      (row_asks fixed (one_ended ended) nothing_out lives out phase 0 going live over))

  pub source_ends : (ended : Bool) (owed owed' : List Row) (out : Fields) (phase : Phase) → owed ≡ [] → owed' ≡ [] → ended ≡ true → phase ≢ GivenUp
      → TellsTurn (state ended owed phase) out (state ended owed' Ended) N.End
  source_ends ended owed owed' out phase none none' over live =
      subst (λ (rows : List Row). TellsTurn (state ended rows phase) out (state ended owed' Ended) N.End) (sym none)
      (subst (λ (rows : List Row). TellsTurn (state ended [] phase) out (state ended rows Ended) N.End) (sym none')
      (row_ends fixed (one_ended ended) nothing_out lives out phase (refl, λ rest h. h) (subst (λ b. (input : ℕ) → one_ended b input ≡ true) (sym over) all_ended) live))

  pub source_gives_up : (ended : Bool) (owed owed' : List Row) (phase : Phase) → owed' ≡ [] → GivesUp (state ended owed phase) (state ended owed' GivenUp)
  source_gives_up ended owed owed' phase none = record {
    phase = refl;
    frames = refl;
    turns = subst (λ (rows : List Row). length rows + 0 ≤ length owed + turns_in phase) (sym none) (omega arith);
    runs = λ few. omega arith;
    made = refl;
  }

  -- a new one owes all its rows
  pub source_new : (ended : Bool) (owed own : List Row) → owed ≡ own → IsNew (state ended owed Working) (λ took put. put ≡ own)
  source_new ended owed own is = record {
    phase = refl;
    frames = omega arith;
    untested = refl;
    rest = λ h took put. (
      λ q. (q.0, q.1.is ∙ ap (λ r. owed ++ r) q.1.output ∙ append-nil owed ∙ is),
      λ q. (q.0, record { rest = []; output = refl; is = q.1 ∙ sym is ∙ sym (append-nil owed) }),
    );
    alive = λ h. in_order_alive (may_come (one_ended ended) fixed.width) nothing_out owed [] (λ took come. lives took);
  }

-- ---- scans

module _ (fixed : Fixed) (n j : ℕ) (rows : List Row) where
  abbrev scanning : Bool → ℕ → Phase → Seen
  scanning ended at phase = row_state fixed nothing_out (one_ended ended) (own_of n j at rows) phase

  pub scan_gives : (ended : Bool) (from at : ℕ) (row : Row) (out : Fields) (phase : Phase) → own_of n j from rows ≡ own_of n j at rows → at < length rows → at % n ≡ j → row ≡ get_or rows at row
      → values_of out ≡ row → IsRow (length out) out → length row ≡ fixed.arity → phase ≡ Working → TellsTurn (scanning ended from phase) out (scanning ended (at + 1) phase) N.Row
  scan_gives ended from at row out phase skipped low own is same fields wide works =
      let put = row_put out row same fields in
      source_gives fixed ended (own_of n j from rows) (own_of n j (at + 1) rows) row out phase
      (skipped ∙ own_here n j at row rows low own ∙ ap (λ (r : Row). r ∷ own_of n j (at + 1) rows) (sym is)) works put.0 wide put.1

  -- where no row is left, none was
  pub none_skipped : (from at : ℕ) → own_of n j from rows ≡ own_of n j at rows → length rows ≤ at → own_of n j from rows ≡ []
  none_skipped from at skipped low = skipped ∙ own_none n j at rows low

  -- to pass a row uses a turn
  pub scan_turned : (from at turns : ℕ) → own_of n j from rows ≡ own_of n j at rows → at < length rows → at % n ≡ j → length (own_of n j (at + 1) rows) + turns < length (own_of n j from rows) + turns
  scan_turned from at turns skipped low own =
      let more : length (own_of n j from rows) ≡ suc (length (own_of n j (at + 1) rows)) = ap (λ (r : List Row). length r) (skipped ∙ own_here n j at [] rows low own) in
      omega (arith, more)

-- ---- the one row

pub one_owed : (gives : Bool) (n j : ℕ) (scanned : List Row) → gives ≡ nat_eq j 0 → one_row gives ≡ own_rows K.One n j scanned
one_owed gives n zero scanned is = ap one_row is
one_owed gives n (suc j) scanned is = ap one_row (is ∙ eqb-suc-zero j)

pub one_gives : (fixed : Fixed) (ended gives : Bool) (out : Fields) (phase : Phase) → fixed.arity ≡ 0 → gives ≡ true → (gives ≡ true → phase ≡ Working) → out ≡ []
    → TellsTurn (row_state fixed nothing_out (one_ended ended) (one_row gives) phase) out (row_state fixed nothing_out (one_ended ended) (one_row false) phase) N.Row
one_gives fixed ended gives out phase none is works empty = source_gives fixed ended (one_row gives) [] [] out phase (ap one_row is) (works is) tt (sym none) (sym empty)

pub ruleset place_laws = (place_next, place_end)
