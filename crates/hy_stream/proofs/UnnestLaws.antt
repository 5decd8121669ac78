-- The steps of the operator that gives a row with each item of a generator behind it.
use Rattle.std.proofs.Common.{◌≡◌, ◌≢◌, ◌<◌, ◌≤◌, ◌+◌, ◌^◌, ℕ, zero, suc, Bool, true, false, true≢false, cond, List, [], ◌∷◌, ◌++◌, map, drop, length, get_or, Option, None, refl, sym, ap, subst, ◌∙◌, inl, inr, arith}
use Rattle.std.proofs.Math.Dec.{eqb-suc-zero}
use Rattle.std.proofs.lemmas.Bool.{cases_lt}
use Rattle.std.proofs.lemmas.List.{drop_all, drop_more, length-map}
use Rattle.al_value.specs.declared.value.Value.{Value}
use Rattle.al_value.specs.declared.value.Value.TheVariants as V
use Rattle.hy_frame.specs.Row.{Fields, IsRow}
use Rattle.hy_store.specs.Fields.{fields_of}
use Rattle.hy_store.specs.declared.fault.Next.TheVariants as N
use Rattle.hy_driver.specs.Rows.{Row, AreValues, Fed, values_of}
use Rattle.hy_driver.specs.Seen.{Check, Fixed, Seen, turns_in}
use Rattle.hy_driver.specs.Forms.{one_ended}
use Rattle.hy_driver.specs.Steps.{GivesUp, IsNew, Pass, Steps, TellsTurn}
use Rattle.hy_driver.specs.declared.phase.Phase.{Phase}
use Rattle.hy_driver.specs.declared.phase.Phase.TheVariants.{Working, Hungry, Ended, GivenUp}
use Rattle.hy_driver.proofs.Forms.{all_ended, ends_none, ends_one}
use Rattle.hy_driver.proofs.Values.{as_many, fields_again, values_again}
use Rattle.hy_job.specs.declared.nested.GenRex.{GenRex}
use Rattle.hy_job.specs.Columns.{expanded, items}
use Rattle.hy_rows.specs.State.{row_state}
use Rattle.hy_rows.proofs.RowSteps.{Ends, Lives, row_asks, row_ends, row_fed, row_gives, row_new, row_stays}
use Rattle.hy_stream.specs.Unnest.{longer_rows, unnest_out}
use Rattle.hy_stream.proofs.SourceLaws.{row_put}

-- ---- longer rows

longer_here : (row : Row) (xs : List Value) (at : ℕ) (x : Value) → at < length xs → x ≡ get_or xs at x → longer_rows row xs at ≡ (row ++ x ∷ []) ∷ longer_rows row xs (at + 1)
longer_here row xs at x low is =
    ap (map (λ y. row ++ y ∷ [])) (drop_more xs at x low) ∙ ap (λ y. (row ++ y ∷ []) ∷ longer_rows row xs (at + 1)) (sym is)

pub longer_none : (row : Row) (xs : List Value) (at : ℕ) → length xs ≤ at → longer_rows row xs at ≡ []
longer_none row xs at low = ap (map (λ y. row ++ y ∷ [])) (drop_all at xs low)

longer_count : (row : Row) (xs : List Value) → length (longer_rows row xs 0) ≡ length xs
longer_count row xs = length-map (drop 0 xs) (λ y. row ++ y ∷ [])

-- the items of a row that is taken are at most so many turns
pub longer_few : (row : Row) (xs : List Value) (n : ℕ) → length xs < 2 ^ 64 → length (longer_rows row xs 0) + turns_in Working ≤ n + turns_in Hungry + 2 ^ 64
longer_few row xs n few = let count : length (longer_rows row xs 0) ≡ length xs = longer_count row xs in omega (arith, count, few)

-- to pass an item uses a turn
pub longer_turned : (row : Row) (xs : List Value) (at turns : ℕ) → at < length xs → length (longer_rows row xs (at + 1)) + turns < length (longer_rows row xs at) + turns
longer_turned row xs at turns low =
    let more : length (longer_rows row xs at) ≡ suc (length (longer_rows row xs (at + 1))) = ap (λ (r : List Row). length r) (longer_here row xs at (get_or xs at V.Null) low (again xs at low)) in
    omega (arith, more)
  where
    again : (xs : List Value) (at : ℕ) → at < length xs → get_or xs at V.Null ≡ get_or xs at (get_or xs at V.Null)
    again [] at low = absurd (omega (arith, low))
    again (x ∷ xs) zero low = refl
    again (x ∷ xs) (suc at) low = let lower : at < length xs = omega (arith, low) in again xs at lower

-- one that asked for input holds no item
pub none_held : (xs : List Value) (at : ℕ) (phase : Phase) → phase ≡ Hungry → (at < length xs → phase ≡ Working) → length xs ≤ at
none_held xs at phase hungry works = elim (cases_lt at (length xs)) [ inl low ↦ absurd (no (sym hungry ∙ works low)) | inr high ↦ high ]
  where
    no : Hungry ≡ Working → ⊥
    no e = cc

-- ---- steps

module _ (g : GenRex) where
  unnest_lives : Lives (unnest_out g)
  unnest_lives took = (_, refl)

  unnest_none : Ends (unnest_out g)
  unnest_none = (refl, λ rest h. h)

  makes : (ended : Bool) (input : ℕ) (values : Row) (made : List Row) → one_ended ended input ≡ false → made ≡ expanded g values → (took : List Fed) (rest : List Row) → unnest_out g took rest → unnest_out g ((input, values) ∷ took) (made ++ rest)
  makes ended zero values made open_ is took rest h = λ i. is i ++ h i
  makes ended (suc input) values made open_ is took rest h = absurd (true≢false (sym (ap (λ b. cond b ended true) (eqb-suc-zero input)) ∙ open_))

module _ (fixed : Fixed) (g : GenRex) where
  abbrev state : Bool → Row → List Value → ℕ → Phase → Seen
  state ended row xs at phase = row_state fixed (unnest_out g) (one_ended ended) (longer_rows row xs at) phase

  pub unnest_fed : (ended : Bool) (row row' : Row) (fields : Fields) (xs xs' : List Value) (at : ℕ) (phase : Phase) (input : ℕ) (values : Row) → fixed.check ≡ None → length xs ≤ at → one_ended ended input ≡ false
      → length fields ≡ fixed.width input → AreValues values → fields_of values ≡ fields → row' ≡ values_of fields → xs' ≡ items g (values_of fields)
      → Steps (state ended row xs at phase) ((input, values) ∷ []) [] (state ended row' xs' 0 Working)
  unnest_fed ended row row' fields xs xs' at phase input values none low open_ wide are is copied made =
      let same : values_of fields ≡ values = ap values_of (sym is) ∙ values_again values are in
      let now : longer_rows row' xs' 0 ≡ expanded g values = (λ i. map (λ x. (copied ∙ same) i ++ x ∷ []) ((made ∙ ap (items g) same) i)) in
      subst (λ (rows : List Row). Steps (row_state fixed (unnest_out g) (one_ended ended) rows phase) ((input, values) ∷ []) [] (state ended row' xs' 0 Working)) (sym (longer_none row xs at low))
      (row_fed fixed (one_ended ended) (one_ended ended) (ends_none (one_ended ended)) (unnest_out g) (unnest_out g) (unnest_lives g) (longer_rows row' xs' 0) phase Working input values open_
      (as_many values fields (fixed.width input) is wide) are (subst (λ (check : Option Check). Pass check (values ∷ [])) (sym none) tt) (makes g ended input values (longer_rows row' xs' 0) open_ now))

  pub unnest_stays : (ended : Bool) (row : Row) (xs : List Value) (at : ℕ) (phase : Phase) → Steps (state ended row xs at phase) [] [] (state true row xs at phase)
  unnest_stays ended row xs at phase = row_stays fixed (one_ended ended) (one_ended true) (ends_one ended) (unnest_out g) (unnest_lives g) (longer_rows row xs at) phase phase

  pub unnest_gives : (ended : Bool) (row : Row) (xs : List Value) (at : ℕ) (phase : Phase) (x : Value) (out : Fields) → at < length xs → x ≡ get_or xs at x → (at < length xs → phase ≡ Working)
      → values_of out ≡ row ++ x ∷ [] → IsRow (length out) out → length out ≡ fixed.arity
      → TellsTurn (state ended row xs at phase) out (state ended row xs (at + 1) phase) N.Row
  unnest_gives ended row xs at phase x out low is works same fields wide =
      let put = row_put out (row ++ x ∷ []) same fields in
      subst (λ (rows : List Row). TellsTurn (row_state fixed (unnest_out g) (one_ended ended) rows phase) out (state ended row xs (at + 1) phase) N.Row) (sym (longer_here row xs at x low is))
      (row_gives fixed (one_ended ended) (unnest_out g) (unnest_lives g) (row ++ x ∷ []) (longer_rows row xs (at + 1)) out phase (works low) put.0 (ap (λ (r : Row). length r) (sym same) ∙ (fields_again (length out) out fields).2 ∙ wide) put.1)

  pub unnest_asks : (ended : Bool) (row : Row) (xs : List Value) (at : ℕ) (phase : Phase) (out : Fields) → length xs ≤ at → ended ≡ false → phase ≢ GivenUp → (phase ≡ Ended → ended ≡ true)
      → TellsTurn (state ended row xs at phase) out (state ended row xs at Hungry) N.NeedInput
  unnest_asks ended row xs at phase out low going live over =
      subst (λ (rows : List Row). TellsTurn (row_state fixed (unnest_out g) (one_ended ended) rows phase) out (row_state fixed (unnest_out g) (one_ended ended) rows Hungry) N.NeedInput) (sym (longer_none row xs at low))
      (row_asks fixed (one_ended ended) (unnest_out g) (unnest_lives g) out phase 0 going live over)

  pub unnest_ends : (ended : Bool) (row : Row) (xs : List Value) (at : ℕ) (phase : Phase) (out : Fields) → length xs ≤ at → ended ≡ true → phase ≢ GivenUp
      → TellsTurn (state ended row xs at phase) out (state ended row xs at Ended) N.End
  unnest_ends ended row xs at phase out low over live =
      subst (λ (rows : List Row). TellsTurn (row_state fixed (unnest_out g) (one_ended ended) rows phase) out (row_state fixed (unnest_out g) (one_ended ended) rows Ended) N.End) (sym (longer_none row xs at low))
      (row_ends fixed (one_ended ended) (unnest_out g) (unnest_lives g) out phase (unnest_none g) (subst (λ b. (input : ℕ) → one_ended b input ≡ true) (sym over) all_ended) live)

  pub unnest_gives_up : (ended : Bool) (row : Row) (xs : List Value) (at end : ℕ) (phase : Phase) → length xs ≤ end → GivesUp (state ended row xs at phase) (state ended row xs end GivenUp)
  unnest_gives_up ended row xs at end phase low = record {
    phase = refl;
    frames = refl;
    turns = subst (λ (rows : List Row). length rows + 0 ≤ length (longer_rows row xs at) + turns_in phase) (sym (longer_none row xs end low)) (omega arith);
    runs = λ few. omega arith;
    made = refl;
  }

  pub unnest_new : (ended : Bool) (row : Row) (xs : List Value) → xs ≡ [] → IsNew (state ended row xs 0 Working) (unnest_out g)
  unnest_new ended row xs none =
      subst (λ (rows : List Row). IsNew (row_state fixed (unnest_out g) (one_ended ended) rows Working) (unnest_out g)) (sym (ap (λ (ys : List Value). longer_rows row ys 0) none))
      (row_new fixed (one_ended ended) (unnest_out g) (unnest_lives g))
