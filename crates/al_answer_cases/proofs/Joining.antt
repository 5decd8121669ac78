-- The records of a join in two parts.
use Rattle.std.proofs.Common.{◌≡◌, ◌≢◌, ◌<◌, ℕ, false, nat_eq, List, [], ◌∷◌, filter, length, refl, ap, sym, subst, ◌∙◌, arith}
use Rattle.std.specs.List.{All}
use Rattle.std.specs.List.Sorted.{IsPermutation}
use Rattle.std.proofs.lemmas.List.Elements.{All-from_recursion}
use Rattle.std.proofs.lemmas.List.Sorted.{IsPermutation-refl, length_permutation}
use Rattle.al_func.proofs.RexLaws.{eval_rex-Lit}
use Rattle.hy_rest.specs.Words.{WriterWord, is_fail}
use Rattle.hy_job.specs.declared.job.Edge.{Edge}
use Rattle.hy_job.specs.declared.job.Block.{Block}
use Rattle.hy_job.specs.declared.job.Kind.TheVariants as K
use Rattle.hy_job.specs.declared.job.Wire.TheVariants as W
use Rattle.hy_job.specs.declared.job.Job.{Job}
use Rattle.hy_job.specs.Columns.{Row, part_of, key_hash, joined}
use Rattle.hy_job.specs.Runs.{IsSender}
use Rattle.hy_job.specs.Settled.{Completed, Records, IsCompleted, IsFailed, HasWords, IsCaused, Settled, StopsBy, TakesFrom, is_fault, taken_of}
use Rattle.hy_job.specs.Cases.{act, wire, block, row_of, on_first}
use Rattle.hy_job.proofs.Members.{no_bool}
use Rattle.hy_job.proofs.Settling.{below_one, below_two, each_task, each_member}
use Rattle.al_answer_cases.specs.RecordCases.{joining, join_records, only_in, right_row, pair, join_stages, JoinSettles, NoMatchSettles, NoPairSettles}
use Rattle.al_answer_cases.proofs.Tasks.{no_fail, nothing_taken, fails_none, words_for, by_two}
use Rattle.al_answer_cases.proofs.Grouping.{one_first, one_second}

-- ---- partitions and pairs

two_first : filter (λ row. nat_eq (part_of 2 (0 ∷ []) row) 0) (row_of 2 ∷ []) ≡ row_of 2 ∷ []
unfolding key_hash
two_first = refl

two_second : filter (λ row. nat_eq (part_of 2 (0 ∷ []) row) 1) (row_of 2 ∷ []) ≡ []
unfolding key_hash
two_second = refl

right_first : filter (λ row. nat_eq (part_of 2 (0 ∷ []) row) 0) (right_row ∷ []) ≡ []
unfolding key_hash
right_first = refl

right_second : filter (λ row. nat_eq (part_of 2 (0 ∷ []) row) 1) (right_row ∷ []) ≡ right_row ∷ []
unfolding key_hash
right_second = refl

one_pairs : joined 3 on_first (row_of 1 ∷ []) (right_row ∷ []) ≡ pair ∷ []
one_pairs = simp eval_rex-Lit

-- ---- the records

abbrev records : Records
records = join_records (only_in 1 (pair ∷ [])) (pair ∷ [])

module _ (left right : List ℕ) where
  abbrev job : Job
  job = joining left right

  left_done : (j : ℕ) → j < 2 → IsCompleted (joining left right) (act 0 (K.Scan left) 1) j (records 0 j)
  left_done = below_two _ (record {
    run = record { received = λ input. []; made = row_of 1 ∷ []; receives = λ input lt. absurd (omega (arith, lt)); makes = refl; sends = below_two _ (sym one_first) (sym one_second); hands_on = refl };
    takes_no_fail = nothing_taken _;
    puts_no_fail = below_two (λ to. All (λ s. is_fail s ≡ false) ((records 0 0).put to)) (no_fail []) (no_fail (row_of 1 ∷ []));
    passed = tt;
  }) (record {
    run = record { received = λ input. []; made = row_of 2 ∷ []; receives = λ input lt. absurd (omega (arith, lt)); makes = refl; sends = below_two _ (sym two_first) (sym two_second); hands_on = refl };
    takes_no_fail = nothing_taken _;
    puts_no_fail = below_two (λ to. All (λ s. is_fail s ≡ false) ((records 0 1).put to)) (no_fail (row_of 2 ∷ [])) (no_fail []);
    passed = tt;
  })

  right_done : (j : ℕ) → j < 2 → IsCompleted (joining left right) (act 1 (K.Scan right) 2) j (records 1 j)
  right_done = below_two _ (record {
    run = record { received = λ input. []; made = right_row ∷ []; receives = λ input lt. absurd (omega (arith, lt)); makes = refl; sends = below_two _ (sym right_first) (sym right_second); hands_on = refl };
    takes_no_fail = nothing_taken _;
    puts_no_fail = λ to is. no_fail (only_in 1 (right_row ∷ []) to);
    passed = tt;
  }) (record {
    run = record { received = λ input. []; made = []; receives = λ input lt. absurd (omega (arith, lt)); makes = refl; sends = below_two _ refl refl; hands_on = refl };
    takes_no_fail = nothing_taken _;
    puts_no_fail = λ to is. no_fail [];
    passed = tt;
  })

  build_done : (j : ℕ) → j < 2 → IsCompleted (joining left right) (act 2 (K.JoinBuild on_first) 2) j (records 2 j)
  build_done = below_two _ (record {
    run = record { received = λ input. []; made = []; receives = below_one _ refl; makes = IsPermutation-refl []; sends = λ r lt. refl; hands_on = refl };
    takes_no_fail = All-from_recursion (λ t. is_fail t.signal ≡ false) (records 2 0).took (refl, (refl, (refl, (refl, (refl, (refl, tt))))));
    puts_no_fail = λ to is. absurd is;
    passed = tt;
  }) (record {
    run = record { received = λ input. right_row ∷ []; made = right_row ∷ []; receives = below_one _ refl; makes = IsPermutation-refl (right_row ∷ []); sends = λ r lt. refl; hands_on = refl };
    takes_no_fail = All-from_recursion (λ t. is_fail t.signal ≡ false) (records 2 1).took (refl, (refl, (refl, (refl, (refl, (refl, tt))))));
    puts_no_fail = λ to is. absurd is;
    passed = tt;
  })

  probe_done : (j : ℕ) → j < 2 → IsCompleted (joining left right) (act 3 (K.JoinProbe on_first) 3) j (records 3 j)
  probe_done = below_two _ (record {
    run = record { received = λ input. row_of 2 ∷ []; made = []; receives = below_one _ refl; makes = IsPermutation-refl []; sends = below_two _ refl refl; hands_on = refl };
    takes_no_fail = All-from_recursion (λ t. is_fail t.signal ≡ false) (records 3 0).took (refl, (refl, (refl, (refl, (refl, (refl, tt))))));
    puts_no_fail = λ to is. fails_none 0 (omega arith) [] to is;
    passed = tt;
  }) (record {
    run = record { received = λ input. row_of 1 ∷ []; made = pair ∷ []; receives = below_one _ refl; makes = subst (λ (rows : List Row). IsPermutation rows (pair ∷ [])) (sym one_pairs) (IsPermutation-refl (pair ∷ [])); sends = below_two _ refl refl; hands_on = refl };
    takes_no_fail = All-from_recursion (λ t. is_fail t.signal ≡ false) (records 3 1).took (refl, (refl, (refl, (refl, (refl, (refl, tt))))));
    puts_no_fail = λ to is. fails_none 0 (omega arith) (pair ∷ []) to is;
    passed = tt;
  })

  result_done : (j : ℕ) → j < 2 → IsCompleted (joining left right) (act 4 (K.Result (0 ∷ 1 ∷ 2 ∷ [])) 3) j (records 4 j)
  result_done = below_two _ (record {
    run = record { received = λ input. pair ∷ []; made = pair ∷ []; receives = below_one _ refl; makes = refl; sends = λ r lt. refl; hands_on = refl };
    takes_no_fail = All-from_recursion (λ t. is_fail t.signal ≡ false) (records 4 0).took (refl, (refl, (refl, (refl, (refl, (refl, tt))))));
    puts_no_fail = λ to is. absurd is;
    passed = tt;
  }) (record {
    run = record { received = λ input. []; made = []; receives = below_one _ refl; makes = refl; sends = λ r lt. refl; hands_on = refl };
    takes_no_fail = nothing_taken _;
    puts_no_fail = λ to is. absurd is;
    passed = tt;
  })

  left_words : (j : ℕ) → j < 2 → HasWords (joining left right) 0 j (records 0 j)
  unfolding WriterWord
  left_words j lt = record { words = λ to lo is. tt; none = λ to lo gone. absurd (gone lo) }

  right_words : (j : ℕ) → j < 2 → HasWords (joining left right) 1 j (records 1 j)
  unfolding WriterWord
  right_words j lt = record { words = λ to lo is. tt; none = λ to lo gone. absurd (gone lo) }

  probe_words : (j : ℕ) → j < 2 → HasWords (joining left right) 3 j (records 3 j)
  probe_words j lt = let w = words_for 0 (omega arith) (only_in 1 (pair ∷ []) j) in record { words = w.0; none = w.1 }

  result_words : (j : ℕ) → j < 2 → HasWords (joining left right) 4 j (records 4 j)
  result_words = below_two _ (record { words = λ to lo is. absurd is; none = λ to lo gone. refl }) (record { words = λ to lo is. absurd is; none = λ to lo gone. refl })

  build_sender : (s r : ℕ) → s < 2 → r < 2 → IsSender (joining left right) (act 2 (K.JoinBuild on_first) 2) r 0 s
  build_sender s r ls lr = record { known = omega arith; within = ls; sends = lr }

  build_takes : (j : ℕ) → j < 2 → TakesFrom (joining left right) (act 2 (K.JoinBuild on_first) 2) j (records 2 j).took
  build_takes j lt = let first = build_sender 0 j (omega arith) lt in let second = build_sender 1 j (omega arith) lt in (first, (second, (first, (second, (first, (second, tt))))))

  probe_sender : (s r : ℕ) → s < 2 → r < 2 → IsSender (joining left right) (act 3 (K.JoinProbe on_first) 3) r 0 s
  probe_sender s r ls lr = record { known = omega arith; within = ls; sends = lr }

  probe_takes : (j : ℕ) → j < 2 → TakesFrom (joining left right) (act 3 (K.JoinProbe on_first) 3) j (records 3 j).took
  probe_takes j lt = let first = probe_sender 0 j (omega arith) lt in let second = probe_sender 1 j (omega arith) lt in (first, (second, (first, (second, (first, (second, tt))))))

  result_sender : (s : ℕ) → s < 2 → IsSender (joining left right) (act 4 (K.Result (0 ∷ 1 ∷ 2 ∷ [])) 3) 0 0 s
  result_sender s ls = record { known = omega arith; within = ls; sends = refl }

  result_takes : TakesFrom (joining left right) (act 4 (K.Result (0 ∷ 1 ∷ 2 ∷ [])) 3) 0 (records 4 0).took
  result_takes = let first = result_sender 0 (omega arith) in let second = result_sender 1 (omega arith) in (first, (second, (first, (second, (first, (second, tt))))))

  calm : (a j : ℕ) → (records a j).raised ≡ false → (records a j).outcome ≡ Completed → (records a j).saw ≡ false → IsCaused (joining left right) join_stages records a j
  calm a j raised outcome saw = record {
    raised = raised ∙ ap is_fault (sym outcome);
    stopped = subst (λ o. StopsBy o (records a j)) (sym outcome) tt;
    saw = λ y. absurd (no_bool (sym y ∙ saw));
  }

  settled : Settled (joining left right) join_stages (join_records (only_in 1 (pair ∷ [])) (pair ∷ []))
  settled = record {
    completed = each_task job join_stages (λ a j. (records a.number j).outcome ≡ Completed → IsCompleted job a j (records a.number j))
        ((λ j lt _. left_done j lt), ((λ j lt _. right_done j lt), ((λ j lt _. build_done j lt), ((λ j lt _. probe_done j lt), ((λ j lt _. result_done j lt), tt)))));
    failed = each_task job join_stages (λ a j. (records a.number j).outcome ≢ Completed → IsFailed job a j (records a.number j))
        ((λ j lt o. absurd (o refl)), ((λ j lt o. absurd (o refl)), ((λ j lt o. absurd (o refl)), ((λ j lt o. absurd (o refl)), (below_two _ (λ o. absurd (o refl)) (λ o. absurd (o refl)), tt)))));
    words = each_task job join_stages (λ a j. HasWords job a.number j (records a.number j))
        (left_words, (right_words, ((λ j lt. record { words = λ to lo is. absurd is; none = λ to lo gone. refl }), (probe_words, (result_words, tt)))));
    taken = each_task job join_stages (λ a j. TakesFrom job a j (records a.number j).took)
        ((λ j lt. tt), ((λ j lt. tt), (build_takes, (probe_takes, (below_two _ result_takes tt, tt)))));
    delivered = λ x s r m n ls lr. each_member (λ (y : Edge). taken_of y.input s (records y.to r).took ≡ (records y.from s).put r) (wire 1 2 (W.Hash (0 ∷ [])) ∷ wire 0 3 (W.Hash (0 ∷ [])) ∷ wire 3 4 W.Gather ∷ []) (
      by_two (λ s r. taken_of 0 s (records 2 r).took ≡ (records 1 s).put r) refl refl refl refl s r ls lr,
      (
        by_two (λ s r. taken_of 0 s (records 3 r).took ≡ (records 0 s).put r) refl refl refl refl s r ls lr,
        (by_two (λ s r. taken_of 0 s (records 4 r).took ≡ (records 3 s).put r) refl refl refl refl s r ls lr, tt),
      ),
    ) x m;
    handed = λ b j m n lt. each_member (λ (b : Block). (records b.after j).handed ≡ (records b.before j).hands_on) (block 2 3 ∷ []) (refl, tt) b m;
    causes = each_task job join_stages (λ a j. IsCaused job join_stages records a.number j) (
      (λ j lt. calm 0 j refl refl refl),
      ((λ j lt. calm 1 j refl refl refl), ((λ j lt. calm 2 j refl refl refl), ((λ j lt. calm 3 j refl refl refl), (below_two _ (calm 4 0 refl refl refl) (calm 4 1 refl refl refl), tt)))),
    );
  }

pub join_settles : JoinSettles
join_settles left right = settled left right

-- the probe of the first partition was handed no row
pub no_match_settles : NoMatchSettles → ⊥
no_match_settles s =
    let c = (s [] [] [] []).completed (act 3 (K.JoinProbe on_first) 3) 0 (3, omega arith, refl) (3, omega arith, refl) (omega arith) refl in
    let made = subst (λ (rows : List Row). IsPermutation (joined 3 on_first rows []) c.run.made) (c.run.receives 0 (omega arith)) c.run.makes in
    absurd (omega (arith, length_permutation _ _ made, ap length (c.run.sends 0 (omega arith))))

-- that of the second one was handed the partner of its row
pub no_pair_settles : NoPairSettles → ⊥
no_pair_settles s =
    let c = (s [] [] []).completed (act 3 (K.JoinProbe on_first) 3) 1 (3, omega arith, refl) (3, omega arith, refl) (omega arith) refl in
    let made = subst (λ (rows : List Row). IsPermutation (joined 3 on_first rows (right_row ∷ [])) c.run.made) (c.run.receives 0 (omega arith)) c.run.makes in
    let paired = subst (λ (rows : List Row). IsPermutation rows c.run.made) one_pairs made in
    absurd (omega (arith, length_permutation _ _ paired, ap length (c.run.sends 0 (omega arith))))
