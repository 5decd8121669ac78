-- The records of groups behind a hash wire.
use Rattle.std.proofs.Common.{◌≡◌, ◌≢◌, ◌<◌, ℕ, false, nat_eq, List, [], ◌∷◌, filter, length, refl, ap, sym, subst, ◌∙◌, arith}
use Rattle.std.specs.List.{All}
use Rattle.std.proofs.lemmas.List.Elements.{All-from_recursion}
use Rattle.std.proofs.lemmas.List.Sorted.{IsPermutation-refl}
use Rattle.hy_rest.specs.Words.{WriterWord, is_fail}
use Rattle.hy_job.specs.declared.job.Edge.{Edge}
use Rattle.hy_job.specs.declared.job.Block.{Block}
use Rattle.hy_job.specs.declared.job.Kind.TheVariants as K
use Rattle.hy_job.specs.declared.job.Wire.TheVariants as W
use Rattle.hy_job.specs.declared.job.Job.{Job}
use Rattle.hy_job.specs.Columns.{Row, Group, part_of, key_hash, key_of}
use Rattle.hy_job.specs.Sound.{edges_from}
use Rattle.hy_job.specs.Runs.{IsSender, SendsBy}
use Rattle.hy_job.specs.Settled.{Completed, Records, IsCompleted, IsFailed, HasWords, IsCaused, Settled, TakesFrom, taken_of}
use Rattle.hy_job.specs.Cases.{act, wire, block, row_of, all_of_one}
use Rattle.hy_job.proofs.Members.{no_bool}
use Rattle.hy_job.proofs.Settling.{below_one, below_two, each_task, each_member}
use Rattle.al_answer_cases.proofs.Tasks.{no_fail, nothing_taken}
use Rattle.al_answer_cases.specs.RecordCases.{grouping, group_records, only_in, two_stages, GroupSettles, WrongHomeSettles}

-- ---- the partition of 1

pub one_first : filter (λ row. nat_eq (part_of 2 (0 ∷ []) row) 0) (row_of 1 ∷ []) ≡ []
unfolding key_hash
one_first = refl

pub one_second : filter (λ row. nat_eq (part_of 2 (0 ∷ []) row) 1) (row_of 1 ∷ []) ≡ row_of 1 ∷ []
unfolding key_hash
one_second = refl

module _ (set : List ℕ) where
  abbrev job : Job
  job = grouping set

  abbrev records : Records
  records = group_records 1

  scan_done : (j : ℕ) → j < 2 → IsCompleted (grouping set) (act 0 (K.Scan set) 1) j (group_records 1 0 j)
  scan_done = below_two _ (record {
    run = record {
      received = λ input. [];
      made = row_of 1 ∷ [];
      receives = λ input lt. absurd (omega (arith, lt));
      makes = refl;
      sends = below_two _ (sym one_first) (sym one_second);
      hands_on = refl;
    };
    takes_no_fail = nothing_taken _;
    puts_no_fail = λ to is. no_fail (only_in 1 (row_of 1 ∷ []) to);
    passed = tt;
  }) (record {
    run = record {
      received = λ input. [];
      made = row_of 1 ∷ [];
      receives = λ input lt. absurd (omega (arith, lt));
      makes = refl;
      sends = below_two _ (sym one_first) (sym one_second);
      hands_on = refl;
    };
    takes_no_fail = nothing_taken _;
    puts_no_fail = λ to is. no_fail (only_in 1 (row_of 1 ∷ []) to);
    passed = tt;
  })

  abbrev ones : List Row
  ones = row_of 1 ∷ row_of 1 ∷ []

  abbrev pieces : List Group
  pieces = (row_of 1, []) ∷ (row_of 1, []) ∷ []

  build_done : (j : ℕ) → j < 2 → IsCompleted (grouping set) (act 1 (K.GroupBuild all_of_one) 1) j (group_records 1 1 j)
  build_done = below_two _ (record {
    run = record {
      received = λ input. [];
      made = [];
      receives = below_one _ refl;
      makes = ([], record { moved = IsPermutation-refl []; alike = λ k d lt. absurd (omega (arith, lt)) }, refl);
      sends = λ r lt. refl;
      hands_on = refl;
    };
    takes_no_fail = All-from_recursion (λ t. is_fail t.signal ≡ false) (group_records 1 1 0).took (refl, (refl, (refl, (refl, (refl, (refl, tt))))));
    puts_no_fail = λ to is. absurd is;
    passed = tt;
  }) (record {
    run = record {
      received = λ input. row_of 1 ∷ row_of 1 ∷ [];
      made = row_of 1 ∷ row_of 1 ∷ [];
      receives = below_one _ refl;
      makes = (
        pieces,
        record {
          moved = IsPermutation-refl ones;
          alike = All-from_recursion (λ (g : Group). All (λ r. key_of (0 ∷ []) r ≡ key_of (0 ∷ []) g.0) g.1) pieces ((λ k d lt. absurd (omega (arith, lt))), ((λ k d lt. absurd (omega (arith, lt))), tt));
        },
        refl,
      );
      sends = λ r lt. refl;
      hands_on = refl;
    };
    takes_no_fail = All-from_recursion (λ t. is_fail t.signal ≡ false) (group_records 1 1 1).took (refl, (refl, (refl, (refl, (refl, (refl, tt))))));
    puts_no_fail = λ to is. absurd is;
    passed = tt;
  })

  abbrev one_group : List Group
  one_group = (row_of 1, row_of 1 ∷ []) ∷ []

  emit_done : (j : ℕ) → j < 2 → IsCompleted (grouping set) (act 2 (K.GroupEmit all_of_one) 1) j (group_records 1 2 j)
  emit_done = below_two _ (record {
    run = record {
      received = λ input. [];
      made = [];
      receives = λ input low. absurd (omega (arith, low));
      makes = ([], [], record { moved = IsPermutation-refl []; alike = λ k d lt. absurd (omega (arith, lt)); apart = λ i j d lt low. absurd (omega (arith, low)) }, tt, IsPermutation-refl []);
      sends = below_two _ refl refl;
      hands_on = refl;
    };
    takes_no_fail = nothing_taken _;
    puts_no_fail = λ to is. subst (λ x. All (λ s. is_fail s ≡ false) ((group_records 1 2 0).put x)) (sym is) (no_fail []);
    passed = tt;
  }) (record {
    run = record {
      received = λ input. [];
      made = row_of 1 ∷ [];
      receives = λ input low. absurd (omega (arith, low));
      makes = (
        one_group,
        row_of 1 ∷ [],
        record {
          moved = IsPermutation-refl ones;
          alike = All-from_recursion (λ (g : Group). All (λ r. key_of (0 ∷ []) r ≡ key_of (0 ∷ []) g.0) g.1) one_group (All-from_recursion (λ (r : Row). key_of (0 ∷ []) r ≡ key_of (0 ∷ []) (row_of 1)) (row_of 1 ∷ []) (refl, tt), tt);
          apart = λ i j d lt low. absurd (omega (arith, lt, low));
        },
        (([], refl, refl), tt),
        IsPermutation-refl (row_of 1 ∷ []),
      );
      sends = below_two _ refl refl;
      hands_on = refl;
    };
    takes_no_fail = nothing_taken _;
    puts_no_fail = λ to is. subst (λ x. All (λ s. is_fail s ≡ false) ((group_records 1 2 1).put x)) (sym is) (no_fail (row_of 1 ∷ []));
    passed = tt;
  })

  result_done : (j : ℕ) → j < 2 → IsCompleted (grouping set) (act 3 (K.Result (0 ∷ [])) 1) j (group_records 1 3 j)
  result_done = below_two _ (record {
    run = record { received = λ input. row_of 1 ∷ []; made = row_of 1 ∷ []; receives = below_one _ refl; makes = refl; sends = λ r lt. refl; hands_on = refl };
    takes_no_fail = All-from_recursion (λ t. is_fail t.signal ≡ false) (group_records 1 3 0).took (refl, (refl, (refl, (refl, (refl, (refl, tt))))));
    puts_no_fail = λ to is. absurd is;
    passed = tt;
  }) (record {
    run = record { received = λ input. []; made = []; receives = below_one _ refl; makes = refl; sends = λ r lt. refl; hands_on = refl };
    takes_no_fail = nothing_taken _;
    puts_no_fail = λ to is. absurd is;
    passed = tt;
  })

  no_words : (a j : ℕ) → ((to : ℕ) → (group_records 1 a j).put to ≡ []) → edges_from (grouping set) a ≡ [] → HasWords (grouping set) a j (group_records 1 a j)
  no_words a j none e = record { words = λ to lt is. absurd (subst (λ es. SendsBy es 2 j to) e is); none = λ to lt other. none to }

  scan_words : (j : ℕ) → j < 2 → HasWords (grouping set) 0 j (group_records 1 0 j)
  unfolding WriterWord
  scan_words j lt = record { words = λ to lo is. tt; none = λ to lo other. absurd (other lo) }

  emit_words : (j : ℕ) → j < 2 → HasWords (grouping set) 2 j (group_records 1 2 j)
  unfolding WriterWord
  emit_words j lt = record { words = λ to lo is. subst (λ x. WriterWord ((group_records 1 2 j).put x)) (sym is) tt; none = below_two _ (λ other. absurd (other refl)) (λ other. refl) }

  build_sender : (s r : ℕ) → s < 2 → r < 2 → IsSender (grouping set) (act 1 (K.GroupBuild all_of_one) 1) r 0 s
  build_sender s r ls lr = record { known = omega arith; within = ls; sends = lr }

  result_sender : (s : ℕ) → s < 2 → IsSender (grouping set) (act 3 (K.Result (0 ∷ [])) 1) 0 0 s
  result_sender s ls = record { known = omega arith; within = ls; sends = refl }

  build_takes : (j : ℕ) → j < 2 → TakesFrom (grouping set) (act 1 (K.GroupBuild all_of_one) 1) j (group_records 1 1 j).took
  build_takes j lt = let first = build_sender 0 j (omega arith) lt in let second = build_sender 1 j (omega arith) lt in (first, (second, (first, (second, (first, (second, tt))))))

  result_takes : TakesFrom (grouping set) (act 3 (K.Result (0 ∷ [])) 1) 0 (group_records 1 3 0).took
  result_takes = let first = result_sender 0 (omega arith) in let second = result_sender 1 (omega arith) in (first, (second, (first, (second, (first, (second, tt))))))

  settled : Settled (grouping set) two_stages (group_records 1)
  settled = record {
    completed = each_task job two_stages (λ a j. (records a.number j).outcome ≡ Completed → IsCompleted job a j (records a.number j))
        ((λ j lt _. scan_done j lt), ((λ j lt _. build_done j lt), ((λ j lt _. emit_done j lt), ((λ j lt _. result_done j lt), tt))));
    failed = each_task job two_stages (λ a j. (records a.number j).outcome ≢ Completed → IsFailed job a j (records a.number j))
        ((λ j lt o. absurd (o refl)), ((λ j lt o. absurd (o refl)), ((λ j lt o. absurd (o refl)), (below_two _ (λ o. absurd (o refl)) (λ o. absurd (o refl)), tt))));
    words = each_task job two_stages (λ a j. HasWords job a.number j (records a.number j))
        (scan_words, ((λ j lt. no_words 1 j (λ to. refl) refl), (emit_words, (below_two _ (no_words 3 0 (λ to. refl) refl) (no_words 3 1 (λ to. refl) refl), tt))));
    taken = each_task job two_stages (λ a j. TakesFrom job a j (records a.number j).took)
        ((λ j lt. tt), (build_takes, ((λ j lt. tt), (below_two _ result_takes tt, tt))));
    delivered = λ x s r m n ls lr. each_member (λ (y : Edge). taken_of y.input s (records y.to r).took ≡ (records y.from s).put r) (wire 0 1 (W.Hash (0 ∷ [])) ∷ wire 2 3 W.Gather ∷ []) (
      below_two (λ s. taken_of 0 s (records 1 r).took ≡ (records 0 s).put r) refl refl s ls,
      (below_two (λ s. taken_of 0 s (records 3 r).took ≡ (records 2 s).put r) (below_two (λ r. taken_of 0 0 (records 3 r).took ≡ (records 2 0).put r) refl refl r lr) (below_two (λ r. taken_of 0 1 (records 3 r).took ≡ (records 2 1).put r) refl refl r lr) s ls, tt),
    ) x m;
    handed = λ b j m n lt. each_member (λ (b : Block). (records b.after j).handed ≡ (records b.before j).hands_on) (block 1 2 ∷ []) (refl, tt) b m;
    causes = each_task job two_stages (λ a j. IsCaused job two_stages records a.number j) (
      (λ j lt. record { raised = refl; stopped = tt; saw = λ y. absurd (no_bool (sym y)) }),
      (
        (λ j lt. record { raised = refl; stopped = tt; saw = λ y. absurd (no_bool (sym y)) }),
        (
          (λ j lt. record { raised = refl; stopped = tt; saw = λ y. absurd (no_bool (sym y)) }),
          (below_two _ (record { raised = refl; stopped = tt; saw = λ y. absurd (no_bool (sym y)) }) (record { raised = refl; stopped = tt; saw = λ y. absurd (no_bool (sym y)) }), tt),
        ),
      ),
    );
  }

pub group_settles : GroupSettles
group_settles set = settled set

-- the scan of the first partition may send nothing to it
pub wrong_home_settles : WrongHomeSettles → ⊥
wrong_home_settles s =
    let set = [] in
    let c = (s set).completed (act 0 (K.Scan set) 1) 0 (0, omega arith, refl) (0, omega arith, refl) (omega arith) refl in
    absurd (omega (arith, ap length (c.run.sends 0 (omega arith) ∙ ap (filter (λ row. nat_eq (part_of 2 (0 ∷ []) row) 0)) c.run.makes ∙ one_first)))
