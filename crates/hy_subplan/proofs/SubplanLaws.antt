-- The steps of the operator that gives each row with the row of a nested plan behind it.
use Rattle.std.proofs.Common.{◌≡◌, ◌≢◌, ◌<◌, ◌≤◌, ◌+◌, ℕ, zero, suc, Bool, true, false, true≢false, List, [], ◌∷◌, ◌++◌, length, take, get_or, Option, None, refl, sym, ap, subst, ◌∙◌, append-nil, append_assoc}
use Rattle.std.proofs.lemmas.List.{length-append, take_all}
use Rattle.al_value.specs.declared.value.Value.{Value}
use Rattle.hy_frame.specs.Row.{Fields, IsRow}
use Rattle.hy_store.specs.Fields.{fields_of}
use Rattle.hy_store.specs.declared.fault.Next.TheVariants as N
use Rattle.hy_driver.specs.Rows.{Row, AreValues, Fed, values_of}
use Rattle.hy_driver.specs.Seen.{Check, Fixed, Seen}
use Rattle.hy_driver.specs.Forms.{one_ended}
use Rattle.hy_driver.specs.Steps.{IsNew, Pass, Steps, TellsTurn}
use Rattle.hy_driver.specs.declared.phase.Phase.{Phase}
use Rattle.hy_driver.specs.declared.phase.Phase.TheVariants.{Working, Hungry, Ended, GivenUp}
use Rattle.hy_driver.proofs.Forms.{all_ended, ends_none, ends_one}
use Rattle.hy_driver.proofs.Values.{as_many, fields_again, values_again}
use Rattle.hy_job.specs.declared.nested.NestedPlan.{NestedPlan}
use Rattle.hy_job.specs.Nested.{Gives, IsNested, NAllows, n_width}
use Rattle.hy_job.specs.Sound.{SoundNested, is_aggregate}
use Rattle.hy_job.specs.Drivers.{received_of}
use Rattle.hy_job.specs.RunLaws.{AreWide}
use Rattle.hy_job.proofs.RowLaws.{upto}
use Rattle.hy_job.proofs.RunFits.{nested_wide}
use Rattle.hy_nested.specs.Fitting.{FitsNested}
use Rattle.hy_rows.specs.State.{row_state}
use Rattle.hy_rows.proofs.RowLaws.{as_wide}
use Rattle.hy_rows.proofs.Received.{is_first, received_one}
use Rattle.hy_rows.proofs.RowSteps.{Ends, Lives, row_asks, row_ends, row_fed, row_gives, row_new, row_stays}
use Rattle.hy_subplan.specs.Held.{held_row}
use Rattle.hy_subplan.specs.Subplan.{subplan_out}
use Rattle.hy_subplan.proofs.NestedSome.{nested_plans_give}

-- ---- one row

pub row_fits : (n : NestedPlan) (fields : Fields) (values : Row) (rows : List Row) → SoundNested n (length fields) → values ≡ values_of fields → rows ≡ values ∷ [] → FitsNested n rows
row_fits n fields values rows sound is one = (length fields, subst (λ (rs : List Row). AreWide (length fields) rs) (sym one) (ap (λ (r : Row). length r) is ∙ as_wide fields, tt), sound)

pub longer_given : (n : NestedPlan) (fields : Fields) (values inner all : Row) (rows : List Row) → values ≡ values_of fields → rows ≡ values ∷ [] → NAllows n rows (inner ∷ []) → all ≡ values ++ inner
    → Gives n (values_of fields ∷ []) (λ given. all ≡ values_of fields ++ given)
longer_given n fields values inner all rows is one allowed made = (
  inner,
  subst (λ (rs : List Row). NAllows n rs (inner ∷ [])) (one ∙ ap (λ (r : Row). r ∷ []) is) allowed,
  made ∙ ap (λ (r : Row). r ++ inner) is,
)

pub longer_wide : (n : NestedPlan) (fields : Fields) (values inner all : Row) (rows : List Row) → values ≡ values_of fields → rows ≡ values ∷ [] → NAllows n rows (inner ∷ []) → all ≡ values ++ inner
    → length all ≡ length fields + n_width n (length fields)
longer_wide n fields values inner all rows is one allowed made =
    let as_many : length values ≡ length fields = ap (λ (r : Row). length r) is ∙ as_wide fields in
    let outer : AreWide (length fields) rows = subst (λ (rs : List Row). AreWide (length fields) rs) (sym one) (as_many, tt) in
    let behind : length inner ≡ n_width n (length fields) = (nested_wide n (length fields) rows (inner ∷ []) allowed outer).0 in
    ap (λ (r : Row). length r) made ∙ length-append values inner ∙ (λ i. as_many i + behind i)

pub ruleset longer_laws = (row_fits, longer_given, longer_wide)

-- ---- values behind a row

pub behind_first : (row longer more : Row) → longer ≡ row → longer ≡ row ++ take 0 more
behind_first row longer more is = is ∙ sym (append-nil row)

pub behind_next : (row longer longer' more : Row) (i : ℕ) (v : Value) → i < length more → v ≡ get_or more i v → longer ≡ row ++ take i more → longer' ≡ longer ++ v ∷ [] → longer' ≡ row ++ take (i + 1) more
behind_next row longer longer' more i v low at is pushed =
    pushed ∙ ap (λ (r : Row). r ++ v ∷ []) is ∙ append_assoc row (take i more) (v ∷ []) ∙ ap (λ (r : Row). row ++ r) (upto more i v low at)

pub behind_all : (row longer more : Row) (i : ℕ) → length more ≤ i → longer ≡ row ++ take i more → longer ≡ row ++ more
behind_all row longer more i low is = is ∙ ap (λ (r : Row). row ++ r) (take_all i more low)

pub ruleset behind_laws = (behind_first, behind_next, behind_all)

-- what was put has the values that were given
pub given_put : (n : NestedPlan) (fields out : Fields) (made slice : Row) → Gives n (values_of fields ∷ []) (λ inner. made ≡ values_of fields ++ inner) → slice ≡ made → values_of out ≡ slice
    → Gives n (values_of fields ∷ []) (λ inner. values_of out ≡ values_of fields ++ inner)
given_put n fields out made slice given same put = (given.0, given.1, put ∙ same ∙ given.2)

pub ruleset feed_laws = (given_put)

-- ---- outputs

module _ (n : NestedPlan) (root : is_aggregate n ≡ true) where
  all_given : (rows : List Row) → (out : List Row) × IsNested n rows out
  all_given [] = ([], tt)
  all_given (r ∷ rows) =
      let given = nested_plans_give n (r ∷ []) root in
      let more = all_given rows in
      ((r ++ given.0) ∷ more.0, ((given.0, given.1, refl), more.1))

  subplan_lives : Lives (subplan_out n)
  subplan_lives took = all_given (received_of took 0)

none_given : (n : NestedPlan) (rest : List Row) → IsNested n [] rest → rest ≡ []
none_given n [] h = refl
none_given n (row ∷ rest) h = absurd h

subplan_over : (n : NestedPlan) → Ends (subplan_out n)
subplan_over n = (tt, λ rest h. none_given n rest h)

makes : (n : NestedPlan) (ended : Bool) (input : ℕ) (values made : Row) → one_ended ended input ≡ false → Gives n (values ∷ []) (λ inner. made ≡ values ++ inner)
    → (took : List Fed) (rest : List Row) → subplan_out n took rest → subplan_out n ((input, values) ∷ took) ((made ∷ []) ++ rest)
makes n ended input values made open_ given took rest h = subst (λ (rows : List Row). IsNested n rows (made ∷ rest)) (sym (received_one input values took (is_first ended input open_))) (given, h)

-- ---- steps

pub holds_none : (holds : Bool) (phase : Phase) → phase ≡ Hungry → (holds ≡ true → phase ≡ Working) → holds ≡ false
holds_none false phase hungry works = refl
holds_none true phase hungry works = absurd (no (sym hungry ∙ works refl))
  where
    no : Hungry ≡ Working → ⊥
    no e = cc

module _ (fixed : Fixed) (n : NestedPlan) (root : is_aggregate n ≡ true) where
  abbrev state : Bool → Bool → Fields → Phase → Seen
  state ended holds row phase = row_state fixed (subplan_out n) (one_ended ended) (held_row holds row) phase

  pub subplan_fed : (ended holds : Bool) (row out fields : Fields) (phase : Phase) (input : ℕ) (values : Row) → fixed.check ≡ None → holds ≡ false → one_ended ended input ≡ false
      → length fields ≡ fixed.width input → AreValues values → fields_of values ≡ fields → Gives n (values_of fields ∷ []) (λ inner. values_of out ≡ values_of fields ++ inner)
      → Steps (state ended holds row phase) ((input, values) ∷ []) [] (state ended true out Working)
  subplan_fed ended true row out fields phase input values none unheld open_ wide are is given = absurd (true≢false unheld)
  subplan_fed ended false row out fields phase input values none unheld open_ wide are is given =
      let same : values_of fields ≡ values = ap values_of (sym is) ∙ values_again values are in
      let of_values : Gives n (values ∷ []) (λ inner. values_of out ≡ values ++ inner) = subst (λ (v : Row). Gives n (v ∷ []) (λ inner. values_of out ≡ v ++ inner)) same given in
      row_fed fixed (one_ended ended) (one_ended ended) (ends_none (one_ended ended)) (subplan_out n) (subplan_out n) (subplan_lives n root) (values_of out ∷ []) phase Working input values open_
      (as_many values fields (fixed.width input) is wide) are (subst (λ (check : Option Check). Pass check (values ∷ [])) (sym none) tt) (makes n ended input values (values_of out) open_ of_values)

  pub subplan_stays : (ended holds : Bool) (row : Fields) (phase : Phase) → Steps (state ended holds row phase) [] [] (state true holds row phase)
  subplan_stays ended holds row phase = row_stays fixed (one_ended ended) (one_ended true) (ends_one ended) (subplan_out n) (subplan_lives n root) (held_row holds row) phase phase

  pub subplan_gives : (ended holds : Bool) (row out : Fields) (phase : Phase) → holds ≡ true → (holds ≡ true → phase ≡ Working) → IsRow (length row) row → (holds ≡ true → length row ≡ fixed.arity) → row ≡ out
      → TellsTurn (state ended holds row phase) out (state ended false row phase) N.Row
  subplan_gives ended false row out phase held works is wide same = absurd (true≢false (sym held))
  subplan_gives ended true row out phase held works is wide same =
      let again = fields_again (length row) row is in
      row_gives fixed (one_ended ended) (subplan_out n) (subplan_lives n root) (values_of row) [] out phase (works refl) again.0 (again.2 ∙ wide refl) (again.1 ∙ same)

  pub subplan_asks : (ended holds : Bool) (row out : Fields) (phase : Phase) → holds ≡ false → ended ≡ false → phase ≢ GivenUp → (phase ≡ Ended → ended ≡ true)
      → TellsTurn (state ended holds row phase) out (state ended holds row Hungry) N.NeedInput
  subplan_asks ended true row out phase none going live over = absurd (true≢false none)
  subplan_asks ended false row out phase none going live over = row_asks fixed (one_ended ended) (subplan_out n) (subplan_lives n root) out phase 0 going live over

  pub subplan_ends : (ended holds : Bool) (row out : Fields) (phase : Phase) → holds ≡ false → ended ≡ true → phase ≢ GivenUp → TellsTurn (state ended holds row phase) out (state ended holds row Ended) N.End
  subplan_ends ended true row out phase none over live = absurd (true≢false none)
  subplan_ends ended false row out phase none over live =
      row_ends fixed (one_ended ended) (subplan_out n) (subplan_lives n root) out phase (subplan_over n) (subst (λ b. (input : ℕ) → one_ended b input ≡ true) (sym over) all_ended) live

  pub subplan_new : (ended : Bool) (row : Fields) → IsNew (state ended false row Working) (subplan_out n)
  subplan_new ended row = row_new fixed (one_ended ended) (subplan_out n) (subplan_lives n root)
