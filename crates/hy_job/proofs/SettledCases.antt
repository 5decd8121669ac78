-- The worked case of settled records.
use Rattle.std.proofs.Common.{◌≡◌, ◌≢◌, ◌+◌, ◌%◌, inl, inr, ℕ, false, nat_eq, List, [], ◌∷◌, map, filter, refl, ap, sym, subst, ◌∙◌, arith, append-nil}
use Rattle.std.specs.List.{All, enumerate_from}
use Rattle.std.proofs.Math.Nat.{mod-one}
use Rattle.std.proofs.lemmas.List.Elements.{All-from_recursion}
use Rattle.hy_job.specs.declared.job.Activity.{Activity}
use Rattle.hy_job.specs.declared.job.Kind.TheVariants as K
use Rattle.hy_job.specs.declared.job.Wire.TheVariants as W
use Rattle.hy_job.specs.Columns.{Row, cut, dealt}
use Rattle.hy_job.specs.Sound.{edges_from}
use Rattle.hy_job.specs.Runs.{Taken, Receives, IsSender, rows_at, sent_by}
use Rattle.hy_job.specs.Cases.{act, wire, stage}
use Rattle.hy_rest.specs.Words.{Open, Rows, Close, WriterWord, put_rows, is_fail}
use Rattle.hy_job.specs.Settled.{Completed, IsCompleted, IsFailed, HasWords, IsCaused, EachTask, TakesFrom, Settled, taken_rows, taken_of}
use Rattle.hy_job.specs.SettledCases.{listing, scan_record, result_record, listing_records, ListingSettles}
use Rattle.hy_job.proofs.Members.{no_bool, in_none, in_cases}

-- the rows of one parcel, as they were taken
one_parcel : (rows : List Row) → map (λ (t : Taken). t.row) (filter (λ (t : Taken). nat_eq t.input 0) (map (λ (row : Row). record { input = 0; sender = 0; row = row }) rows)) ≡ rows
one_parcel [] = refl
one_parcel (r ∷ rows) = ap (λ xs. r ∷ xs) (one_parcel rows)

-- with one partition it has all rows
dealt_from : (rows : List Row) (k : ℕ) → map (λ (e : ℕ × Row). e.1) (filter (λ (e : ℕ × Row). nat_eq (e.0 % 1) 0) (enumerate_from k rows)) ≡ rows
dealt_from [] k = refl
dealt_from (r ∷ rows) k =
    rw (mod-one k) (ap (λ xs. r ∷ xs) (dealt_from rows (k + 1)))

pub dealt_whole : (rows : List Row) → dealt 1 0 rows ≡ rows
dealt_whole rows = dealt_from rows 0

module _ (set : List ℕ) (rows : List Row) (on : List Row) where
  rows_back : rows_at 0 (taken_rows (result_record rows on).took) ≡ rows
  rows_back = ap (λ (ts : List Taken). map (λ (t : Taken). t.row) (filter (λ (t : Taken). nat_eq t.input 0) ts)) (append-nil (map (λ (row : Row). record { input = 0; sender = 0; row = row }) rows)) ∙ one_parcel rows

  told : Settled (listing set) (stage (0 ∷ 1 ∷ []) ∷ []) (listing_records rows on) → on ≡ map (cut (0 ∷ [])) rows
  told s =
      let done = s.completed (act 1 (K.Result (0 ∷ [])) 1) 0 (1, omega arith, refl) (1, omega arith, refl) (omega arith) refl in
      let came = done.run.receives 0 (omega arith) in
      done.run.hands_on ∙ (done.run.makes ∙ ap (map (cut (0 ∷ []))) (came ∙ rows_back))

  -- a claim of both tasks
  each_two : (P : Activity → ℕ → Type 0) → P (act 0 (K.Scan set) 2) 0 → P (act 1 (K.Result (0 ∷ [])) 1) 0 → EachTask (listing set) (stage (0 ∷ 1 ∷ []) ∷ []) P
  each_two P p q a j m n lt =
      let zeroth : 0 ≡ j = omega (arith, lt) in
      subst (P a) zeroth (elim (in_cases (act 0 (K.Scan set) 2) a (act 1 (K.Result (0 ∷ [])) 1 ∷ []) m) [
        | inl e ↦ subst (λ b. P b 0) e p
        | inr k ↦ elim (in_cases (act 1 (K.Result (0 ∷ [])) 1) a [] k) [ inl e ↦ subst (λ b. P b 0) e q | inr none ↦ absurd (in_none a none) ]
      ])

  scan_done : IsCompleted (listing set) (act 0 (K.Scan set) 2) 0 (scan_record rows)
  scan_done = record {
    run = record {
      received = λ input. [];
      made = rows;
      receives = λ input lt. absurd (omega (arith, lt));
      makes = sym (dealt_whole rows);
      sends = λ r lt. first r (omega (arith, lt));
      hands_on = refl;
    };
    takes_no_fail = λ k d lt. absurd (omega (arith, lt));
    puts_no_fail = λ to is. subst (λ x. All (λ s. is_fail s ≡ false) ((scan_record rows).put x)) (sym is) (All-from_recursion (λ s. is_fail s ≡ false) (Open ∷ Rows rows ∷ Close ∷ []) (refl, (refl, (refl, tt))));
    passed = tt;
  }
    where
      first : (r : ℕ) → r ≡ 0 → put_rows ((scan_record rows).put r) ≡ sent_by (edges_from (listing set) 0) 1 0 r rows
      first r e = subst (λ x. put_rows ((scan_record rows).put x) ≡ sent_by (edges_from (listing set) 0) 1 0 x rows) (sym e) (append-nil rows)

  result_done : on ≡ map (cut (0 ∷ [])) rows → IsCompleted (listing set) (act 1 (K.Result (0 ∷ [])) 1) 0 (result_record rows on)
  result_done e = record {
    run = record {
      received = λ input. rows;
      made = on;
      receives = λ input lt. of_zero input (omega (arith, lt));
      makes = e;
      sends = λ r lt. refl;
      hands_on = refl;
    };
    takes_no_fail = All-from_recursion (λ t. is_fail t.signal ≡ false) (result_record rows on).took (refl, (refl, (refl, tt)));
    puts_no_fail = λ to is. absurd is;
    passed = tt;
  }
    where
      of_zero : (input : ℕ) → input ≡ 0 → Receives (listing set) 1 (taken_rows (result_record rows on).took) input rows
      of_zero input z = subst (λ x. Receives (listing set) 1 (taken_rows (result_record rows on).took) x rows) (sym z) (sym rows_back)

  scan_words : HasWords (listing set) 0 0 (scan_record rows)
  unfolding WriterWord
  scan_words = record {
    words = λ to lt is. subst (λ x. WriterWord ((scan_record rows).put x)) (sym is) tt;
    none = λ to lt other. absurd (other (omega (arith, lt)));
  }

  result_words : HasWords (listing set) 1 0 (result_record rows on)
  result_words = record { words = λ to lt is. absurd is; none = λ to lt other. refl }

  of_scan : IsSender (listing set) (act 1 (K.Result (0 ∷ [])) 1) 0 0 0
  of_scan = record { known = omega arith; within = omega arith; sends = refl }

  settled : on ≡ map (cut (0 ∷ [])) rows → Settled (listing set) (stage (0 ∷ 1 ∷ []) ∷ []) (listing_records rows on)
  settled e = record {
    completed = each_two (λ a j. (listing_records rows on a.number j).outcome ≡ Completed → IsCompleted (listing set) a j (listing_records rows on a.number j)) (λ _. scan_done) (λ _. result_done e);
    failed = each_two (λ a j. (listing_records rows on a.number j).outcome ≢ Completed → IsFailed (listing set) a j (listing_records rows on a.number j)) (λ no. absurd (no refl)) (λ no. absurd (no refl));
    words = each_two (λ a j. HasWords (listing set) a.number j (listing_records rows on a.number j)) scan_words result_words;
    taken = each_two (λ a j. TakesFrom (listing set) a j (listing_records rows on a.number j).took) tt (of_scan, (of_scan, (of_scan, tt)));
    delivered = λ x s r m n ls lr. elim (in_cases (wire 0 1 W.OneToOne) x [] m) [
      | inl is ↦ subst (λ y. taken_of y.input s (listing_records rows on y.to r).took ≡ (listing_records rows on y.from s).put r) is (at_zero s r (omega (arith, ls)) (omega (arith, lr)))
      | inr none ↦ absurd (in_none x none)
    ];
    handed = λ b j m n lt. absurd (in_none b m);
    causes = each_two (λ a j. IsCaused (listing set) (stage (0 ∷ 1 ∷ []) ∷ []) (listing_records rows on) a.number j)
        (record { raised = refl; stopped = tt; saw = λ y. absurd (no_bool (sym y)) }) (record { raised = refl; stopped = tt; saw = λ y. absurd (no_bool (sym y)) });
  }
    where
      at_zero : (s r : ℕ) → s ≡ 0 → r ≡ 0 → taken_of 0 s (result_record rows on).took ≡ (scan_record rows).put r
      at_zero s r es er = subst (λ x. taken_of 0 x (result_record rows on).took ≡ (scan_record rows).put r) (sym es)
          (subst (λ x. taken_of 0 0 (result_record rows on).took ≡ (scan_record rows).put x) (sym er) refl)

pub listing_settles : ListingSettles
listing_settles set rows on = (told set rows on, settled set rows on)
