-- What the calls of a merging taker do to what it may still give.
use Rattle.std.proofs.Common.{◌≡◌, ◌≢◌, ◌<◌, ℕ, zero, suc, Bool, true, false, nat_eq, List, [], ◌∷◌, ◌++◌, map, length, Option, Some, refl, sym, ap, subst, ◌∙◌, arith}
use Rattle.std.specs.List.{AllByRecursion, range_with_len}
use Rattle.std.specs.List.Sorted.{IsSorted}
use Rattle.std.proofs.lemmas.List.{get_or_past}
use Rattle.al_value.specs.declared.settings.SortKey.{SortKey}
use Rattle.hy_frame.specs.Frame.{FrameOf}
use Rattle.hy_frame.specs.Row.{Fields}
use Rattle.hy_rest.specs.Rest.{Continues, Finished}
use Rattle.hy_job.specs.Columns.{keys_cmp}
use Rattle.hy_job.specs.Runs.{Taken as TakenRow, rows_of}
use Rattle.hy_job.proofs.Members.{by_cases, nat_same, no_bool}
use Rattle.hy_driver.specs.Rows.{Row, values_of}
use Rattle.hy_connect.specs.Sources.{SourceOf, AllClosed, IsLeast, Lacks, NoneAtHand, NoneLacks, first_at, first_of, hand, is_before, no_source, source_at}
use Rattle.hy_connect.specs.Merges.{IsMerge, IsOfOpen, may_give, merger_of, rows_from, rows_taken}
use Rattle.hy_connect.proofs.Merging.{NotLess, after_first, below_all, keys_order, merge_first, merge_none, merge_same, merged_none, other_number, same_number}

-- ---- rows that are taken

rows_skip : (input s : ℕ) (t : TakenRow) (took : List TakenRow) → nat_eq t.sender s ≡ false → rows_of input s (t ∷ took) ≡ rows_of input s took
rows_skip input s t took m = by_cases (nat_eq t.input input) (λ y. rw (y, m) refl) (λ n. rw n refl)

rows_take : (input s : ℕ) (t : TakenRow) (took : List TakenRow) → nat_eq t.input input ≡ true → nat_eq t.sender s ≡ true → rows_of input s (t ∷ took) ≡ t.row ∷ rows_of input s took
rows_take input s t took y z = rw (y, z) refl

not_eq : (a b : ℕ) → a ≢ b → nat_eq a b ≡ false
not_eq a b ne = by_cases (nat_eq a b) (λ y. absurd (ne (same_number a b y))) (λ m. m)

-- those of a frame, of its sender
frame_here : (input s : ℕ) (rows : List Fields) (took : List TakenRow) → rows_of input s (map (λ row. record { input = input; sender = s; row = values_of row }) rows ++ took) ≡ map values_of rows ++ rows_of input s took
frame_here input s [] took = refl
frame_here input s (row ∷ rows) took =
    rows_take input s (record { input = input; sender = s; row = values_of row }) (map (λ row. record { input = input; sender = s; row = values_of row }) rows ++ took) (nat_same input) (nat_same s)
    ∙ ap (λ (xs : List Row). values_of row ∷ xs) (frame_here input s rows took)

-- and of another one
frame_there : (input s j : ℕ) (rows : List Fields) (took : List TakenRow) → j ≢ s → rows_of input j (map (λ row. record { input = input; sender = s; row = values_of row }) rows ++ took) ≡ rows_of input j took
frame_there input s j [] took ne = refl
frame_there input s j (row ∷ rows) took ne =
    rows_skip input j (record { input = input; sender = s; row = values_of row }) (map (λ row. record { input = input; sender = s; row = values_of row }) rows ++ took) (not_eq s j (λ e. ne (sym e)))
    ∙ frame_there input s j rows took ne

of_frame : (xs : List SourceOf) (input s : ℕ) (rows : List Fields) (took : List TakenRow) → (source_at xs s).closed ≡ false → IsOfOpen xs input took
    → IsOfOpen xs input (map (λ row. record { input = input; sender = s; row = values_of row }) rows ++ took)
of_frame xs input s [] took going of = of
of_frame xs input s (row ∷ rows) took going of = ((refl, going), of_frame xs input s rows took going of)

-- ---- senders that have closed

pub closed_any : (xs : List SourceOf) → AllClosed xs → (s : ℕ) → (source_at xs s).closed ≡ true
closed_any [] h s = ap (λ (x : SourceOf). x.closed) (get_or_past [] s no_source (omega arith))
closed_any (x ∷ xs) h zero = h 0 (omega arith)
closed_any (x ∷ xs) h (suc s) = closed_any xs (λ k low. h (suc k) (omega arith)) s

pub in_range : (xs : List SourceOf) (s : ℕ) → (source_at xs s).closed ≡ false → s < length xs
in_range [] s e = absurd (no_bool (sym (ap (λ (x : SourceOf). x.closed) (get_or_past [] s no_source (omega arith))) ∙ e))
in_range (x ∷ xs) zero e = omega arith
in_range (x ∷ xs) (suc s) e = let low = in_range xs s e in omega arith

closed_none : (xs : List SourceOf) (input s : ℕ) (took : List TakenRow) → IsOfOpen xs input took → (source_at xs s).closed ≡ true → rows_of input s took ≡ []
closed_none xs input s [] of e = refl
closed_none xs input s (t ∷ took) of e = by_cases (nat_eq t.sender s)
    (λ y. absurd (no_bool (sym e ∙ subst (λ (k : ℕ). (source_at xs k).closed ≡ false) (same_number t.sender s y) of.0.1)))
    (λ m. rows_skip input s t took m ∙ closed_none xs input s took of.1 e)

none_taken : (xs : List SourceOf) (input : ℕ) (took : List TakenRow) → AllClosed xs → IsOfOpen xs input took → took ≡ []
none_taken xs input [] all of = refl
none_taken xs input (t ∷ took) all of = absurd (no_bool (sym (closed_any xs all t.sender) ∙ of.0.1))

-- ---- from senders to senders

-- who hasn't closed had not closed
abbrev pub GoOn : List SourceOf → List SourceOf → Type 0
GoOn xs ys = (s : ℕ) → s < length xs → (source_at ys s).closed ≡ false → (source_at xs s).closed ≡ false

of_before : (xs ys : List SourceOf) → length ys ≡ length xs → GoOn xs ys → (input : ℕ) (took : List TakenRow) → IsOfOpen ys input took → IsOfOpen xs input took
of_before xs ys count on input [] of = tt
of_before xs ys count on input (t ∷ took) of =
    let low = in_range ys t.sender of.0.1 in
    ((of.0.0, on t.sender (omega arith) of.0.1), of_before xs ys count on input took of.1)

merges_before : (keys : List SortKey) (xs ys : List SourceOf) (input : ℕ) (took took' : List TakenRow) (put : List Row) → length ys ≡ length xs
    → ((s : ℕ) → s < length xs → rows_from xs input took' s ≡ rows_from ys input took s)
    → IsMerge keys (map (rows_from ys input took) (range_with_len 0 (length ys))) put → IsMerge keys (map (rows_from xs input took') (range_with_len 0 (length xs))) put
merges_before keys xs ys input took took' put count same h =
    merge_same keys (rows_from xs input took') (rows_from ys input took) (length xs) put same
    (subst (λ (n : ℕ). IsMerge keys (map (rows_from ys input took) (range_with_len 0 n)) put) count h)

pub rests_on : (keys : List SortKey) (xs ys : List SourceOf) (c d : Option ℕ) (u v : Bool) → length ys ≡ length xs → GoOn xs ys → ((s : ℕ) → s < length xs → hand (source_at ys s) ≡ hand (source_at xs s))
    → (input : ℕ) → Continues (may_give (merger_of keys xs c u) input) [] [] (may_give (merger_of keys ys d v) input)
rests_on keys xs ys c d u v count on hands input = record {
  back = λ took put h. (
    of_before xs ys count on input took h.0,
    record {
      rest = h.1.rest;
      output = merges_before keys xs ys input took took h.1.rest count (λ s low. ap (λ (rows : List Fields). map values_of rows ++ rows_of input s took) (sym (hands s low))) h.1.output;
      is = h.1.is;
    },
  );
}

-- a frame of this sender came, of which no row was at hand
pub gets_on : (keys : List SortKey) (xs ys : List SourceOf) (c d : Option ℕ) (u v : Bool) (s : ℕ) (f : FrameOf) → length ys ≡ length xs → GoOn xs ys → Lacks (source_at xs s) → hand (source_at ys s) ≡ f.rows
    → ((j : ℕ) → j ≢ s → hand (source_at ys j) ≡ hand (source_at xs j))
    → (input : ℕ) → Continues (may_give (merger_of keys xs c u) input) (rows_taken input s f) [] (may_give (merger_of keys ys d v) input)
gets_on keys xs ys c d u v s f count on lacks here others input = record {
  back = λ took put h. (
    of_frame xs input s f.rows took lacks.going (of_before xs ys count on input took h.0),
    record {
      rest = h.1.rest;
      output = merges_before keys xs ys input took (rows_taken input s f ++ took) h.1.rest count (λ j low. by_cases (nat_eq j s)
          (λ y. subst (λ (i : ℕ). rows_from xs input (rows_taken input s f ++ took) i ≡ rows_from ys input took i) (sym (same_number j s y)) (at_sender took))
          (λ m. elsewhere took j (other_number j s m))) h.1.output;
      is = h.1.is;
    },
  );
}
  where
    at_sender : (took : List TakenRow) → rows_from xs input (rows_taken input s f ++ took) s ≡ rows_from ys input took s
    at_sender took =
        ap (λ (rows : List Fields). map values_of rows ++ rows_of input s (rows_taken input s f ++ took)) lacks.none
        ∙ frame_here input s f.rows took
        ∙ ap (λ (rows : List Fields). map values_of rows ++ rows_of input s took) (sym here)

    elsewhere : (took : List TakenRow) (j : ℕ) → j ≢ s → rows_from xs input (rows_taken input s f ++ took) j ≡ rows_from ys input took j
    elsewhere took j ne =
        ap (λ (rows : List Row). map values_of (hand (source_at xs j)) ++ rows) (frame_there input s j f.rows took ne)
        ∙ ap (λ (rows : List Fields). map values_of rows ++ rows_of input j took) (sym (others j ne))

-- ---- the least row is given

module _ (keys : List SortKey) (xs ys : List SourceOf) (k : ℕ) (row : Fields) (count : length ys ≡ length xs) (on : GoOn xs ys) (ready : NoneLacks xs) (least : IsLeast keys xs k)
    (here : hand (source_at xs k) ≡ row ∷ hand (source_at ys k)) (others : (j : ℕ) → j < length xs → j ≢ k → hand (source_at ys j) ≡ hand (source_at xs j)) where
  first_is : first_at xs k ≡ Some row
  first_is = ap first_of here

  -- what stands in front of another list is not less
  front_low : (s : ℕ) (other : Fields) (more : List Fields) → s < length xs → hand (source_at xs s) ≡ other ∷ more → NotLess (keys_cmp keys) (values_of row) (values_of other)
  front_low s other more low e =
      subst (λ (a : Option Fields). is_before keys (Some other) a ≡ false) first_is
      (subst (λ (a : Option Fields). is_before keys a (first_at xs k) ≡ false) (ap first_of e) (least.least s low))

  was_closed : (s : ℕ) → s < length xs → hand (source_at xs s) ≡ [] → (source_at xs s).closed ≡ true
  was_closed s low e = by_cases (source_at xs s).closed (λ y. y) (λ n. absurd (ready s low (record { going = n; none = e })))

  low_by : (input s : ℕ) (took : List TakenRow) (rows : List Fields) → s < length xs → hand (source_at xs s) ≡ rows → IsOfOpen xs input took
      → IsSorted (keys_cmp keys) (map values_of rows ++ rows_of input s took) → AllByRecursion (NotLess (keys_cmp keys) (values_of row)) (map values_of rows ++ rows_of input s took)
  low_by input s took [] low e of sorted = subst (AllByRecursion (NotLess (keys_cmp keys) (values_of row))) (sym (closed_none xs input s took of (was_closed s low e))) tt
  low_by input s took (other ∷ more) low e of sorted =
      below_all (keys_cmp keys) (keys_order keys) (values_of row) (values_of other) (map values_of more ++ rows_of input s took) (front_low s other more low e) sorted

  rows_here : (input : ℕ) (took : List TakenRow) → rows_from xs input took k ≡ values_of row ∷ rows_from ys input took k
  rows_here input took = ap (λ (rows : List Fields). map values_of rows ++ rows_of input k took) here

  rows_other : (input : ℕ) (took : List TakenRow) (s : ℕ) → s < length xs → s ≢ k → rows_from xs input took s ≡ rows_from ys input took s
  rows_other input took s low ne = ap (λ (rows : List Fields). map values_of rows ++ rows_of input s took) (sym (others s low ne))

  low_at : (input : ℕ) (took : List TakenRow) → IsOfOpen xs input took → (s : ℕ) → s < length xs → IsSorted (keys_cmp keys) (rows_from xs input took s)
      → AllByRecursion (NotLess (keys_cmp keys) (values_of row)) (rows_from ys input took s)
  low_at input took of s low sorted = by_cases (nat_eq s k)
      (λ y. after_first (keys_cmp keys) (keys_order keys) (values_of row) (rows_from ys input took s)
      (subst (IsSorted (keys_cmp keys)) (subst (λ (i : ℕ). rows_from xs input took i ≡ values_of row ∷ rows_from ys input took i) (sym (same_number s k y)) (rows_here input took)) sorted))
      (λ m. subst (AllByRecursion (NotLess (keys_cmp keys) (values_of row))) (rows_other input took s low (other_number s k m)) (low_by input s took (hand (source_at xs s)) low refl of sorted))

  pub gives_on : (c d : Option ℕ) (u v : Bool) (input : ℕ) → Continues (may_give (merger_of keys xs c u) input) [] (values_of row ∷ []) (may_give (merger_of keys ys d v) input)
  gives_on c d u v input = record {
    back = λ took put h.
        let of = of_before xs ys count on input took h.0 in (
          of,
          record {
            rest = values_of row ∷ h.1.rest;
            output = merge_first keys (rows_from xs input took) (rows_from ys input took) (length xs) k (values_of row) least.there (rows_here input took) (λ s low ne. rows_other input took s low ne)
                (λ s low sorted. low_at input took of s low sorted) h.1.rest
                (subst (λ (n : ℕ). IsMerge keys (map (rows_from ys input took) (range_with_len 0 n)) h.1.rest) count h.1.output);
            is = ap (λ (rows : List Row). values_of row ∷ rows) h.1.is;
          },
        );
  }

-- ---- nothing is left

pub nothing_left : (keys : List SortKey) (xs : List SourceOf) (c : Option ℕ) (u : Bool) → AllClosed xs → NoneAtHand xs → (input : ℕ) → Finished (may_give (merger_of keys xs c u) input)
nothing_left keys xs c u all none input = record {
  some = (tt, record { rest = []; output = merge_none keys (rows_from xs input []) (length xs) (λ s low. rows_none s [] low refl); is = refl });
  only = λ took put h.
      let no_rows = none_taken xs input took all h.0 in
      (no_rows, h.1.is ∙ merged_none keys (rows_from xs input took) (length xs) h.1.rest (λ s low. rows_none s took low no_rows) h.1.output);
}
  where
    rows_none : (s : ℕ) (took : List TakenRow) → s < length xs → took ≡ [] → rows_from xs input took s ≡ []
    rows_none s took low e = ap (λ (rows : List Fields). map values_of rows ++ rows_of input s took) (none s low) ∙ ap (rows_of input s) e
