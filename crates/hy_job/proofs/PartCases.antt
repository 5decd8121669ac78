-- The worked cases of completed checks and of parts of runs.
use Rattle.std.proofs.Common.{◌≡◌, ℕ, true, false, nat_eq, List, [], ◌∷◌, ◌++◌, map, refl, ap, sym, subst, ◌∙◌, arith, append-nil, append_assoc}
use Rattle.std.specs.Int.{int_wrap}
use Rattle.std.specs.List.{AllByRecursion}
use Rattle.std.proofs.lemmas.List.{map-append}
use Rattle.std.proofs.lemmas.List.Elements.{All-from_recursion}
use Rattle.std.specs.Prelude.{pos, length}
use Rattle.al_value.specs.declared.value.Value.{Value}
use Rattle.al_value.specs.declared.value.Value.TheVariants as V
use Rattle.al_func.specs.declared.rex.Rex.TheVariants as R
use Rattle.al_func.specs.Rex.{eval_rex}
use Rattle.al_func.proofs.RexLaws.{eval_rex-Col}
use Rattle.al_agg.specs.Agg.{present, wrapped}
use Rattle.al_agg.specs.Part.{state_fields, halves, high_half, low_half}
use Rattle.hy_job.specs.declared.nested.AggRex.TheVariants as C
use Rattle.hy_job.specs.declared.job.Kind.TheVariants as K
use Rattle.hy_job.specs.Columns.{column, Row, cut, holds, state_row}
use Rattle.hy_job.specs.Sound.{width_in, edges_from, edges_at}
use Rattle.hy_job.specs.Runs.{Taken, TaskPart, MayCome, SendsBy, Receives, rows_at, sent_by}
use Rattle.hy_rest.specs.Words.{Open, Rows, Close, is_fail}
use Rattle.hy_job.specs.Settled.{IsCompleted, taken_rows}
use Rattle.hy_job.specs.Cases.{int, row_of, is_text, act}
use Rattle.hy_job.specs.SettledCases.{listing, checking}
use Rattle.hy_job.specs.RunCases.{passing_record, CheckPasses, took_first, none_ended, PartIsFront, totalling, counted_none, RowEndsPart, counting_none, RowsComeFitting}
use Rattle.hy_job.proofs.Members.{no_bool, by_cases}
use Rattle.hy_job.proofs.CheckCases.{rows_append}

module _ (set name text : List ℕ) (row : Row) where
  check_passes_told : IsCompleted (checking set name text) (act 1 (K.Check name (is_text text)) 2) 0 (passing_record row) → holds (is_text text) row ≡ true
  check_passes_told h = h.passed 0 row (omega arith)

  check_passes_made : holds (is_text text) row ≡ true → IsCompleted (checking set name text) (act 1 (K.Check name (is_text text)) 2) 0 (passing_record row)
  check_passes_made e = record {
    run = record {
      received = λ input. row ∷ [];
      made = row ∷ [];
      receives = λ input lt. of_zero input (omega (arith, lt));
      makes = refl;
      sends = λ r lt. first r (omega (arith, lt));
      hands_on = refl;
    };
    takes_no_fail = All-from_recursion (λ t. is_fail t.signal ≡ false) (passing_record row).took (refl, (refl, (refl, tt)));
    puts_no_fail = λ to is. All-from_recursion (λ s. is_fail s ≡ false) (Open ∷ Rows (row ∷ []) ∷ Close ∷ []) (refl, (refl, (refl, tt)));
    passed = All-from_recursion (λ r. holds (is_text text) r ≡ true) (row ∷ []) (e, tt);
  }
    where
      of_zero : (input : ℕ) → input ≡ 0 → Receives (checking set name text) 1 (taken_rows (passing_record row).took) input (row ∷ [])
      of_zero input z = subst (λ x. Receives (checking set name text) 1 (taken_rows (passing_record row).took) x (row ∷ [])) (sym z) refl

      first : (r : ℕ) → r ≡ 0 → row ∷ [] ≡ sent_by (edges_from (checking set name text) 1) 1 0 r (row ∷ [])
      first r e = subst (λ x. row ∷ [] ≡ sent_by (edges_from (checking set name text) 1) 1 0 x (row ∷ [])) (sym e) refl

pub check_passes : CheckPasses
check_passes set name text row = (check_passes_told set name text row, check_passes_made set name text row)

-- ---- a front of the rows

rows_of_first : (rows : List Row) → rows_at 0 (took_first rows).rows ≡ rows
rows_of_first [] = refl
rows_of_first (r ∷ rows) = ap (λ xs. r ∷ xs) (rows_of_first rows)

module _ (set : List ℕ) (rows on : List Row) where
  front_told : TaskPart (listing set) (act 1 (K.Result (0 ∷ [])) 1) 0 none_ended (took_first rows) (record { to = λ r. []; on = on }) → (rest : List Row) × (map (cut (0 ∷ [])) rows ≡ on ++ rest)
  front_told part =
      let q = part [] tt in
      let run = q.2 in
      let goes = q.1.on in
      let all : run.made ≡ map (cut (0 ∷ [])) rows = run.makes ∙ ap (map (cut (0 ∷ []))) (run.receives 0 (omega arith) ∙ (ap (rows_at 0) (append-nil (took_first rows).rows) ∙ rows_of_first rows)) in
      (goes.0, sym all ∙ (sym run.hands_on ∙ goes.1))

  goes : (more : List Taken) (rest : List Row) → map (cut (0 ∷ [])) rows ≡ on ++ rest → map (cut (0 ∷ [])) (rows_at 0 ((took_first rows).rows ++ more)) ≡ on ++ (rest ++ map (cut (0 ∷ [])) (rows_at 0 more))
  goes more rest front =
      ap (map (cut (0 ∷ []))) (rows_append (took_first rows).rows more ∙ ap (λ xs. xs ++ rows_at 0 more) (rows_of_first rows))
      ∙ (map-append (cut (0 ∷ [])) rows (rows_at 0 more) ∙ (ap (λ xs. xs ++ map (cut (0 ∷ [])) (rows_at 0 more)) front ∙ append_assoc on rest (map (cut (0 ∷ [])) (rows_at 0 more))))

  of_zero : (taken : List Taken) (input : ℕ) → input ≡ 0 → Receives (listing set) 1 taken input (rows_at 0 taken)
  of_zero taken input z = subst (λ x. Receives (listing set) 1 taken x (rows_at 0 taken)) (sym z) refl

  front_made : (rest : List Row) × (map (cut (0 ∷ [])) rows ≡ on ++ rest) → TaskPart (listing set) (act 1 (K.Result (0 ∷ [])) 1) 0 none_ended (took_first rows) (record { to = λ r. []; on = on })
  front_made front more may = (
    record { to = λ r. []; on = map (cut (0 ∷ [])) (rows_at 0 ((took_first rows).rows ++ more)) },
    record { to = λ r lt. ([], refl); on = (front.0 ++ map (cut (0 ∷ [])) (rows_at 0 more), goes more front.0 front.1) },
    record {
      received = λ input. rows_at 0 ((took_first rows).rows ++ more);
      made = map (cut (0 ∷ [])) (rows_at 0 ((took_first rows).rows ++ more));
      receives = λ input lt. of_zero ((took_first rows).rows ++ more) input (omega (arith, lt));
      makes = refl;
      sends = λ r lt. refl;
      hands_on = refl;
    },
  )

pub part_is_front : PartIsFront
part_is_front set rows on = (front_told set rows on, front_made set rows on)

-- ---- a row of partial states

module _ (set : List ℕ) where
  came : Taken
  came = record { input = 0; sender = 1; row = row_of 0 }

  open_is_none : TaskPart (totalling set) (act 1 (K.AggPart (C.CountAll ∷ [])) 2) 1 none_ended (took_first []) counted_none → ⊥
  unfolding came state_fields high_half low_half int_wrap
  open_is_none part =
      let q = part (came ∷ []) (record { of = record { known = omega arith; within = omega arith; sends = refl }; fits = refl; values = (record { sfits = omega arith }, tt); to_come = refl }, tt) in
      let run = q.2 in
      let goes = q.1.to 0 (omega arith) in
      let sent = run.sends 0 (omega arith) in
      let rows = run.receives 0 (omega arith) in
      let made = run.makes in
      no (q.1.to 0 (omega arith)).0 (sym (ap (λ xs. state_row (C.CountAll ∷ []) xs ∷ []) rows) ∙ (sym made ∙ (sym sent ∙ goes.1)))
    where
      no : (rest : List Row) → (int 0 ∷ int 1 ∷ []) ∷ [] ≡ (int 0 ∷ int 0 ∷ []) ∷ rest → ⊥
      no rest e = cc

  closed_is : TaskPart (totalling set) (act 1 (K.AggPart (C.CountAll ∷ [])) 2) 1 (λ input sender. nat_eq sender 1) (took_first []) counted_none
  closed_is [] may = (
    counted_none,
    record { to = λ r lt. ([], sym (append-nil (counted_none.to r))); on = ([], refl) },
    record {
      received = λ input. [];
      made = state_row (C.CountAll ∷ []) [] ∷ [];
      receives = λ input lt. of_zero input (omega (arith, lt));
      makes = refl;
      sends = λ r lt. refl;
      hands_on = refl;
    },
  )
    where
      of_zero : (input : ℕ) → input ≡ 0 → Receives (totalling set) 1 [] input []
      of_zero input z = subst (λ x. Receives (totalling set) 1 [] x []) (sym z) refl
  closed_is (t ∷ more) may = absurd (shut t may.0)
    where
      shut : (t : Taken) → MayCome (totalling set) (act 1 (K.AggPart (C.CountAll ∷ [])) 2) 1 (λ input sender. nat_eq sender 1) t → ⊥
      shut t m =
          let zero : 0 ≡ t.input = (let k = m.of.known in omega (arith, k)) in
          let one : 1 ≡ t.sender = subst (λ input. SendsBy (edges_at (totalling set) 1 input) 2 t.sender 1) (sym zero) m.of.sends in
          no_bool (sym (ap (λ s. nat_eq s 1) (sym one)) ∙ m.to_come)

pub row_ends_part : RowEndsPart
row_ends_part set = (open_is_none set, closed_is set)

-- ---- rows that fit

none_present : (rows : List Row) → AllByRecursion (λ row. row ≡ []) rows → present (map (eval_rex (R.Col 0)) rows) ≡ []
none_present [] h = refl
none_present (row ∷ rows) h = rw (null row h.0) (none_present rows h.1)
  where
    null : (row : Row) → row ≡ [] → eval_rex (R.Col 0) row ≡ V.Null
    null row e = eval_rex-Col 0 row ∙ ap (λ r. column r 0) e

counts_none : (rows : List Row) → AllByRecursion (λ row. row ≡ []) rows → state_row (C.Count (R.Col 0) ∷ []) rows ≡ state_row (C.Count (R.Col 0) ∷ []) []
unfolding state_fields
counts_none rows h = ap (λ (vs : List Value). halves (wrapped (pos (length vs))) ++ []) (none_present rows h)

empty_row : (row : Row) → length row ≡ 0 → row ≡ []
empty_row [] e = refl
empty_row (v ∷ row) e = absurd (omega (arith, e))

narrow : (more : List Taken) → AllByRecursion (MayCome counting_none (act 1 (K.AggPart (C.Count (R.Col 0) ∷ [])) 2) 0 none_ended) more → AllByRecursion (λ row. row ≡ []) (rows_at 0 more)
narrow [] may = tt
narrow (t ∷ more) may = by_cases (nat_eq t.input 0)
    (λ y. rw y (empty_row t.row (may.0.fits ∙ ap (width_in counting_none 1) zero), narrow more may.1))
    (λ n. rw n (narrow more may.1))
  where
    zero : t.input ≡ 0
    zero = let k = may.0.of.known in omega (arith, k)

pub rows_come_fitting : RowsComeFitting
rows_come_fitting more may = (
  record { to = λ r. state_row (C.Count (R.Col 0) ∷ []) [] ∷ []; on = [] },
  record { to = λ r lt. ([], refl); on = ([], refl) },
  record {
    received = λ input. rows_at 0 more;
    made = state_row (C.Count (R.Col 0) ∷ []) [] ∷ [];
    receives = λ input lt. of_zero input (omega (arith, lt));
    makes = ap (λ row. row ∷ []) (sym (counts_none (rows_at 0 more) (narrow more may)));
    sends = λ r lt. first r (omega (arith, lt));
    hands_on = refl;
  },
)
  where
    of_zero : (input : ℕ) → input ≡ 0 → Receives counting_none 1 more input (rows_at 0 more)
    of_zero input z = subst (λ x. Receives counting_none 1 more x (rows_at 0 more)) (sym z) refl

    first : (r : ℕ) → r ≡ 0 → state_row (C.Count (R.Col 0) ∷ []) [] ∷ [] ≡ sent_by (edges_from counting_none 1) 1 0 r (state_row (C.Count (R.Col 0) ∷ []) [] ∷ [])
    first r e = subst (λ x. state_row (C.Count (R.Col 0) ∷ []) [] ∷ [] ≡ sent_by (edges_from counting_none 1) 1 0 x (state_row (C.Count (R.Col 0) ∷ []) [] ∷ [])) (sym e) refl
