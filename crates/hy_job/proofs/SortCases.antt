-- Records of a sort on two partitions.
use Rattle.std.proofs.Common.{◌≡◌, ◌≢◌, inr, ◌<◌, ℕ, zero, suc, false, List, [], ◌∷◌, refl, sym, subst, arith}
use Rattle.std.specs.List.{All}
use Rattle.std.specs.List.Sorted.{IsSorted}
use Rattle.std.proofs.lemmas.List.Elements.{All-from_recursion}
use Rattle.std.proofs.lemmas.List.Sorted.{IsPermutation-refl}
use Rattle.hy_job.specs.declared.job.Edge.{Edge}
use Rattle.hy_job.specs.declared.job.Block.{Block}
use Rattle.hy_job.specs.declared.job.Kind.TheVariants as K
use Rattle.hy_job.specs.declared.job.Wire.TheVariants as W
use Rattle.hy_job.specs.declared.job.Job.{Job}
use Rattle.hy_job.specs.Columns.{Row, keys_cmp, Interleaves}
use Rattle.hy_job.specs.Sound.{edges_from}
use Rattle.hy_job.specs.Runs.{IsSender, SendsBy}
use Rattle.hy_rest.specs.Words.{WriterWord, is_fail}
use Rattle.hy_job.specs.Settled.{Completed, Take, Records, IsCompleted, IsFailed, HasWords, IsCaused, Settled, TakesFrom, taken_of}
use Rattle.hy_job.specs.Cases.{act, wire, block, row_of, by_first, sorting}
use Rattle.hy_job.specs.SettledCases.{word_of, row_at, sort_records, sort_stages, SortSettles, SortIsHanded}
use Rattle.hy_job.proofs.Members.{no_bool}
use Rattle.hy_job.proofs.RunCases.{two_made}
use Rattle.hy_job.proofs.Settling.{below_one, below_two, each_task, each_member}

pub sort_is_handed : SortIsHanded
sort_is_handed set handed s j lt = s.handed (block 1 2) j (0, omega arith, refl) (2, omega arith, refl) lt

module _ (set : List ℕ) where
  abbrev job : Job
  job = sorting set (block 1 2 ∷ [])

  abbrev records : Records
  records = sort_records (λ j. row_at j ∷ [])

  no_fail : (rows : List Row) → All (λ s. is_fail s ≡ false) (word_of rows)
  no_fail rows = All-from_recursion (λ s. is_fail s ≡ false) (word_of rows) (refl, (refl, (refl, tt)))

  sorted : IsSorted (keys_cmp by_first) (row_of 1 ∷ row_of 2 ∷ [])
  sorted zero d low high = refl
  sorted (suc k) d low high = absurd (omega arith)

  alone : (row : Row) → IsSorted (keys_cmp by_first) (row ∷ [])
  alone row k d low high = absurd (omega arith)

  nothing_taken : (P : Take → Type 0) → All P []
  nothing_taken P k d lt = absurd (omega (arith, lt))

  scan_done : (j : ℕ) → j < 2 → IsCompleted (sorting set (block 1 2 ∷ [])) (act 0 (K.Scan set) 1) j (sort_records (λ j. row_at j ∷ []) 0 j)
  scan_done = below_two _ (record {
    run = record {
      received = λ input. [];
      made = row_of 2 ∷ [];
      receives = λ input lt. absurd (omega (arith, lt));
      makes = refl;
      sends = below_two _ refl refl;
      hands_on = refl;
    };
    takes_no_fail = nothing_taken _;
    puts_no_fail = λ to is. subst (λ x. All (λ s. is_fail s ≡ false) ((sort_records (λ j. row_at j ∷ []) 0 0).put x)) (sym is) (no_fail (row_of 2 ∷ []));
    passed = tt;
  }) (record {
    run = record {
      received = λ input. [];
      made = row_of 1 ∷ [];
      receives = λ input lt. absurd (omega (arith, lt));
      makes = refl;
      sends = below_two _ refl refl;
      hands_on = refl;
    };
    takes_no_fail = nothing_taken _;
    puts_no_fail = λ to is. subst (λ x. All (λ s. is_fail s ≡ false) ((sort_records (λ j. row_at j ∷ []) 0 1).put x)) (sym is) (no_fail (row_of 1 ∷ []));
    passed = tt;
  })

  build_done : (j : ℕ) → j < 2 → IsCompleted (sorting set (block 1 2 ∷ [])) (act 1 (K.SortBuild by_first) 1) j (sort_records (λ j. row_at j ∷ []) 1 j)
  build_done = below_two _ (record {
    run = record {
      received = λ input. row_of 2 ∷ [];
      made = row_of 2 ∷ [];
      receives = below_one _ refl;
      makes = IsPermutation-refl (row_of 2 ∷ []);
      sends = λ r lt. refl;
      hands_on = refl;
    };
    takes_no_fail = All-from_recursion (λ t. is_fail t.signal ≡ false) (sort_records (λ j. row_at j ∷ []) 1 0).took (refl, (refl, (refl, tt)));
    puts_no_fail = λ to is. absurd is;
    passed = tt;
  }) (record {
    run = record {
      received = λ input. row_of 1 ∷ [];
      made = row_of 1 ∷ [];
      receives = below_one _ refl;
      makes = IsPermutation-refl (row_of 1 ∷ []);
      sends = λ r lt. refl;
      hands_on = refl;
    };
    takes_no_fail = All-from_recursion (λ t. is_fail t.signal ≡ false) (sort_records (λ j. row_at j ∷ []) 1 1).took (refl, (refl, (refl, tt)));
    puts_no_fail = λ to is. absurd is;
    passed = tt;
  })

  emit_done : (j : ℕ) → j < 2 → IsCompleted (sorting set (block 1 2 ∷ [])) (act 2 (K.SortEmit by_first) 1) j (sort_records (λ j. row_at j ∷ []) 2 j)
  emit_done j lt = record {
    run = record {
      received = λ input. [];
      made = row_at j ∷ [];
      receives = λ input low. absurd (omega (arith, low));
      makes = (IsPermutation-refl (row_at j ∷ []), alone (row_at j));
      sends = below_two _ refl refl;
      hands_on = refl;
    };
    takes_no_fail = nothing_taken _;
    puts_no_fail = λ to is. subst (λ x. All (λ s. is_fail s ≡ false) ((sort_records (λ j. row_at j ∷ []) 2 j).put x)) (sym is) (no_fail (row_at j ∷ []));
    passed = tt;
  }

  result_done : (j : ℕ) → j < 2 → IsCompleted (sorting set (block 1 2 ∷ [])) (act 3 (K.Result (0 ∷ [])) 1) j (sort_records (λ j. row_at j ∷ []) 3 j)
  unfolding Interleaves
  result_done = below_two _ (record {
    run = record {
      received = λ input. row_of 1 ∷ row_of 2 ∷ [];
      made = row_of 1 ∷ row_of 2 ∷ [];
      receives = below_one _ (two_made (row_of 2) (row_of 1) (row_of 1 ∷ row_of 2 ∷ []) (inr refl), λ each. sorted);
      makes = refl;
      sends = λ r lt. refl;
      hands_on = refl;
    };
    takes_no_fail = All-from_recursion (λ t. is_fail t.signal ≡ false) (sort_records (λ j. row_at j ∷ []) 3 0).took (refl, (refl, (refl, (refl, (refl, (refl, tt))))));
    puts_no_fail = λ to is. absurd is;
    passed = tt;
  }) (record {
    run = record {
      received = λ input. [];
      made = [];
      receives = below_one _ (All-from_recursion (λ xs. xs ≡ []) ([] ∷ [] ∷ []) (refl, (refl, tt)), λ each k d low high. absurd (omega arith));
      makes = refl;
      sends = λ r lt. refl;
      hands_on = refl;
    };
    takes_no_fail = nothing_taken _;
    puts_no_fail = λ to is. absurd is;
    passed = tt;
  })

  no_words : (a : ℕ) (j : ℕ) → ((to : ℕ) → (sort_records (λ j. row_at j ∷ []) a j).put to ≡ []) → edges_from (sorting set (block 1 2 ∷ [])) a ≡ [] → HasWords (sorting set (block 1 2 ∷ [])) a j (sort_records (λ j. row_at j ∷ []) a j)
  no_words a j none e = record { words = λ to lt is. absurd (subst (λ es. SendsBy es 2 j to) e is); none = λ to lt other. none to }

  scan_words : (j : ℕ) → j < 2 → HasWords (sorting set (block 1 2 ∷ [])) 0 j (sort_records (λ j. row_at j ∷ []) 0 j)
  unfolding WriterWord
  scan_words = below_two _
      (record { words = λ to lt is. subst (λ x. WriterWord ((sort_records (λ j. row_at j ∷ []) 0 0).put x)) (sym is) tt; none = below_two _ (λ other. absurd (other refl)) (λ other. refl) })
      (record { words = λ to lt is. subst (λ x. WriterWord ((sort_records (λ j. row_at j ∷ []) 0 1).put x)) (sym is) tt; none = below_two _ (λ other. refl) (λ other. absurd (other refl)) })

  emit_words : (j : ℕ) → j < 2 → HasWords (sorting set (block 1 2 ∷ [])) 2 j (sort_records (λ j. row_at j ∷ []) 2 j)
  unfolding WriterWord
  emit_words j lt = record { words = λ to lo is. subst (λ x. WriterWord ((sort_records (λ j. row_at j ∷ []) 2 j).put x)) (sym is) tt; none = below_two _ (λ other. absurd (other refl)) (λ other. refl) }

  build_takes : (j : ℕ) → j < 2 → IsSender (sorting set (block 1 2 ∷ [])) (act 1 (K.SortBuild by_first) 1) j 0 j
  build_takes j lt = record { known = omega arith; within = lt; sends = refl }

  result_takes : (s : ℕ) → s < 2 → IsSender (sorting set (block 1 2 ∷ [])) (act 3 (K.Result (0 ∷ [])) 1) 0 0 s
  result_takes s lt = record { known = omega arith; within = lt; sends = refl }

  settled : Settled (sorting set (block 1 2 ∷ [])) sort_stages (sort_records (λ j. row_at j ∷ []))
  settled = record {
    completed = each_task job sort_stages (λ a j. (records a.number j).outcome ≡ Completed → IsCompleted job a j (records a.number j))
        ((λ j lt _. scan_done j lt), ((λ j lt _. build_done j lt), ((λ j lt _. emit_done j lt), ((λ j lt _. result_done j lt), tt))));
    failed = each_task job sort_stages (λ a j. (records a.number j).outcome ≢ Completed → IsFailed job a j (records a.number j))
        ((λ j lt o. absurd (o refl)), ((λ j lt o. absurd (o refl)), ((λ j lt o. absurd (o refl)), (below_two _ (λ o. absurd (o refl)) (λ o. absurd (o refl)), tt))));
    words = each_task job sort_stages (λ a j. HasWords job a.number j (records a.number j))
        (scan_words, ((λ j lt. no_words 1 j (λ to. refl) refl), (emit_words, (below_two _ (no_words 3 0 (λ to. refl) refl) (no_words 3 1 (λ to. refl) refl), tt))));
    taken = each_task job sort_stages (λ a j. TakesFrom job a j (records a.number j).took)
        ((λ j lt. tt), ((λ j lt. let own = build_takes j lt in (own, (own, (own, tt)))), ((λ j lt. tt), (below_two _ takes_both tt, tt))));
    delivered = λ x s r m n ls lr. each_member (λ (y : Edge). taken_of y.input s (records y.to r).took ≡ (records y.from s).put r) (wire 0 1 W.OneToOne ∷ wire 2 3 (W.Merge by_first) ∷ []) (
      below_two (λ s. taken_of 0 s (records 1 r).took ≡ (records 0 s).put r) (below_two (λ r. taken_of 0 0 (records 1 r).took ≡ (records 0 0).put r) refl refl r lr) (below_two (λ r. taken_of 0 1 (records 1 r).took ≡ (records 0 1).put r) refl refl r lr) s ls,
      (below_two (λ s. taken_of 0 s (records 3 r).took ≡ (records 2 s).put r) (below_two (λ r. taken_of 0 0 (records 3 r).took ≡ (records 2 0).put r) refl refl r lr) (below_two (λ r. taken_of 0 1 (records 3 r).took ≡ (records 2 1).put r) refl refl r lr) s ls, tt),
    ) x m;
    handed = λ b j m n lt. each_member (λ (b : Block). (records b.after j).handed ≡ (records b.before j).hands_on) (block 1 2 ∷ []) (refl, tt) b m;
    causes = each_task job sort_stages (λ a j. IsCaused job sort_stages records a.number j) (
      (λ j lt. record { raised = refl; stopped = tt; saw = λ y. absurd (no_bool (sym y)) }),
      (
        (λ j lt. record { raised = refl; stopped = tt; saw = λ y. absurd (no_bool (sym y)) }),
        (
          (λ j lt. record { raised = refl; stopped = tt; saw = λ y. absurd (no_bool (sym y)) }),
          (below_two _ (record { raised = refl; stopped = tt; saw = λ y. absurd (no_bool (sym y)) }) (record { raised = refl; stopped = tt; saw = λ y. absurd (no_bool (sym y)) }), tt),
        ),
      ),
    );
  }
    where
      takes_both : TakesFrom (sorting set (block 1 2 ∷ [])) (act 3 (K.Result (0 ∷ [])) 1) 0 (sort_records (λ j. row_at j ∷ []) 3 0).took
      takes_both = let first = result_takes 0 (omega arith) in let second = result_takes 1 (omega arith) in (first, (second, (first, (second, (first, (second, tt))))))

pub sort_settles : SortSettles
sort_settles set = settled set
