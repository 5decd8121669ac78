-- Records over a hash wire, and of a sort.
use Rattle.std.proofs.Common.{◌≡◌, ◌≢◌, ◌<◌, ℕ, false, nat_eq, List, [], ◌∷◌, ◌++◌, map, filter, refl, ap, sym, ◌∙◌, arith, append-nil}
use Rattle.std.specs.List.{All}
use Rattle.std.proofs.lemmas.List.Elements.{All-from_recursion}
use Rattle.hy_job.specs.declared.job.Edge.{Edge}
use Rattle.hy_job.specs.declared.job.Kind.TheVariants as K
use Rattle.hy_job.specs.declared.job.Wire.TheVariants as W
use Rattle.hy_job.specs.declared.job.Job.{Job}
use Rattle.hy_job.specs.declared.job.Stage.{Stage}
use Rattle.hy_job.specs.Columns.{Row, cut, dealt, part_of}
use Rattle.hy_job.specs.Runs.{Taken, IsSender, Receives, rows_at}
use Rattle.hy_rest.specs.Words.{WriterWord, is_fail}
use Rattle.hy_job.specs.Settled.{Completed, Records, IsCompleted, IsFailed, HasWords, IsCaused, Settled, TakesFrom, taken_rows, taken_of}
use Rattle.hy_job.specs.Cases.{act, wire, stage}
use Rattle.hy_job.specs.SettledCases.{hashing, word_of, hash_records, HashSettles}
use Rattle.hy_job.proofs.Members.{no_bool, in_none}
use Rattle.hy_job.proofs.CheckCases.{rows_append}
use Rattle.hy_job.proofs.Settling.{below_one, below_two, each_task, each_member}

-- the rows of one parcel, as they were taken
pub parcel : ℕ → List Row → List Taken
parcel s rows = map (λ (row : Row). record { input = 0; sender = s; row = row }) rows

pub of_parcel : (s : ℕ) (rows : List Row) → rows_at 0 (map (λ (row : Row). record { input = 0; sender = s; row = row }) rows) ≡ rows
of_parcel s [] = refl
of_parcel s (row ∷ rows) = ap (λ xs. row ∷ xs) (of_parcel s rows)

module _ (set : List ℕ) (scanned : List Row) (sent : ℕ → ℕ → List Row) (on : ℕ → List Row) where
  abbrev job : Job
  job = hashing set

  abbrev stages : List Stage
  stages = stage (0 ∷ 1 ∷ []) ∷ []

  abbrev records : Records
  records = hash_records scanned sent on

  -- what the result of a partition was sent
  came : (r : ℕ) → rows_at 0 (taken_rows (hash_records scanned sent on 1 r).took) ≡ sent 1 r ++ sent 0 r
  came r =
      rows_append (map (λ (row : Row). record { input = 0; sender = 1; row = row }) (sent 1 r)) (map (λ (row : Row). record { input = 0; sender = 0; row = row }) (sent 0 r) ++ [])
      ∙ (ap (λ xs. xs ++ rows_at 0 (map (λ (row : Row). record { input = 0; sender = 0; row = row }) (sent 0 r) ++ [])) (of_parcel 1 (sent 1 r))
      ∙ ap (λ xs. sent 1 r ++ xs) (ap (rows_at 0) (append-nil (map (λ (row : Row). record { input = 0; sender = 0; row = row }) (sent 0 r))) ∙ of_parcel 0 (sent 0 r)))

  hash_told : Settled (hashing set) (stage (0 ∷ 1 ∷ []) ∷ []) (hash_records scanned sent on)
      → ((j r : ℕ) → j < 2 → r < 2 → sent j r ≡ filter (λ row. nat_eq (part_of 2 (0 ∷ []) row) r) (dealt 2 j scanned)) × ((r : ℕ) → r < 2 → on r ≡ map (cut (0 ∷ [])) (sent 1 r ++ sent 0 r))
  hash_told s = (
    λ j r lj lr. of_scan j r lr (s.completed (act 0 (K.Scan set) 1) j (0, omega arith, refl) (0, omega arith, refl) lj refl),
    λ r lr. of_result r (s.completed (act 1 (K.Result (0 ∷ [])) 1) r (1, omega arith, refl) (1, omega arith, refl) lr refl),
  )
    where
      of_scan : (j r : ℕ) → r < 2 → IsCompleted (hashing set) (act 0 (K.Scan set) 1) j (hash_records scanned sent on 0 j) → sent j r ≡ filter (λ row. nat_eq (part_of 2 (0 ∷ []) row) r) (dealt 2 j scanned)
      of_scan j r lr c = sym (append-nil (sent j r)) ∙ (c.run.sends r lr ∙ ap (filter (λ row. nat_eq (part_of 2 (0 ∷ []) row) r)) c.run.makes)

      of_result : (r : ℕ) → IsCompleted (hashing set) (act 1 (K.Result (0 ∷ [])) 1) r (hash_records scanned sent on 1 r) → on r ≡ map (cut (0 ∷ [])) (sent 1 r ++ sent 0 r)
      of_result r c = c.run.hands_on ∙ (c.run.makes ∙ ap (map (cut (0 ∷ []))) (c.run.receives 0 (omega arith) ∙ came r))

  no_fail : (rows : List Row) → All (λ s. is_fail s ≡ false) (word_of rows)
  no_fail rows = All-from_recursion (λ s. is_fail s ≡ false) (word_of rows) (refl, (refl, (refl, tt)))

  of_sender : (s r : ℕ) → s < 2 → r < 2 → IsSender (hashing set) (act 1 (K.Result (0 ∷ [])) 1) r 0 s
  of_sender s r ls lr = record { known = omega arith; within = ls; sends = lr }

  scan_done : (j : ℕ) → ((r : ℕ) → r < 2 → sent j r ≡ filter (λ row. nat_eq (part_of 2 (0 ∷ []) row) r) (dealt 2 j scanned)) → IsCompleted (hashing set) (act 0 (K.Scan set) 1) j (hash_records scanned sent on 0 j)
  scan_done j e = record {
    run = record {
      received = λ input. [];
      made = dealt 2 j scanned;
      receives = λ input lt. absurd (omega (arith, lt));
      makes = refl;
      sends = λ r lt. append-nil (sent j r) ∙ e r lt;
      hands_on = refl;
    };
    takes_no_fail = λ k d lt. absurd (omega (arith, lt));
    puts_no_fail = λ to is. no_fail (sent j to);
    passed = tt;
  }

  result_done : (r : ℕ) → on r ≡ map (cut (0 ∷ [])) (sent 1 r ++ sent 0 r) → IsCompleted (hashing set) (act 1 (K.Result (0 ∷ [])) 1) r (hash_records scanned sent on 1 r)
  result_done r e = record {
    run = record {
      received = λ input. sent 1 r ++ sent 0 r;
      made = on r;
      receives = below_one (λ input. Receives (hashing set) 1 (taken_rows (hash_records scanned sent on 1 r).took) input (sent 1 r ++ sent 0 r)) (sym (came r));
      makes = e;
      sends = λ to lt. refl;
      hands_on = refl;
    };
    takes_no_fail = All-from_recursion (λ t. is_fail t.signal ≡ false) (hash_records scanned sent on 1 r).took (refl, (refl, (refl, (refl, (refl, (refl, tt))))));
    puts_no_fail = λ to is. absurd is;
    passed = tt;
  }

  hash_made : ((j r : ℕ) → j < 2 → r < 2 → sent j r ≡ filter (λ row. nat_eq (part_of 2 (0 ∷ []) row) r) (dealt 2 j scanned)) × ((r : ℕ) → r < 2 → on r ≡ map (cut (0 ∷ [])) (sent 1 r ++ sent 0 r))
      → Settled (hashing set) (stage (0 ∷ 1 ∷ []) ∷ []) (hash_records scanned sent on)
  unfolding WriterWord
  hash_made h = record {
    completed = each_task job stages (λ a j. (records a.number j).outcome ≡ Completed → IsCompleted job a j (records a.number j)) ((λ j lt _. scan_done j (λ r lr. h.0 j r lt lr)), ((λ j lt _. result_done j (h.1 j lt)), tt));
    failed = each_task job stages (λ a j. (records a.number j).outcome ≢ Completed → IsFailed job a j (records a.number j)) ((λ j lt o. absurd (o refl)), ((λ j lt o. absurd (o refl)), tt));
    words = each_task job stages (λ a j. HasWords job a.number j (records a.number j))
        ((λ j lt. record { words = λ to lo is. tt; none = λ to lo other. absurd (other lo) }), ((λ j lt. record { words = λ to lo is. absurd is; none = λ to lo other. refl }), tt));
    taken = each_task job stages (λ a j. TakesFrom job a j (records a.number j).took)
        ((λ j lt. tt), ((λ j lt. let first = of_sender 0 j (omega arith) lt in let second = of_sender 1 j (omega arith) lt in (second, (first, (second, (first, (first, (second, tt))))))), tt));
    delivered = λ x s r m n ls lr. each_member (λ (y : Edge). taken_of y.input s (records y.to r).took ≡ (records y.from s).put r) (wire 0 1 (W.Hash (0 ∷ [])) ∷ [])
        (below_two (λ s. taken_of 0 s (records 1 r).took ≡ (records 0 s).put r) refl refl s ls, tt) x m;
    handed = λ b j m n lt. absurd (in_none b m);
    causes = each_task job stages (λ a j. IsCaused job stages records a.number j)
        ((λ j lt. record { raised = refl; stopped = tt; saw = λ y. absurd (no_bool (sym y)) }), ((λ j lt. record { raised = refl; stopped = tt; saw = λ y. absurd (no_bool (sym y)) }), tt));
  }

pub hash_settles : HashSettles
hash_settles set scanned sent on = (hash_told set scanned sent on, hash_made set scanned sent on)
