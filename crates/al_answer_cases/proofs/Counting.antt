-- The records of a count in two parts.
use Rattle.std.proofs.Common.{◌≡◌, ◌≢◌, inl, ◌<◌, ℕ, false, List, [], ◌∷◌, length, refl, ap, sym, arith}
use Rattle.std.specs.Int.{int_wrap}
use Rattle.std.proofs.lemmas.List.Elements.{All-from_recursion}
use Rattle.al_value.specs.declared.value.Value.TheVariants as V
use Rattle.al_agg.specs.declared.agg.Agg.TheVariants as A
use Rattle.al_agg.specs.Agg.{agg}
use Rattle.al_agg.specs.Part.{state_fields, high_half, low_half}
use Rattle.hy_rest.specs.Words.{Signal, is_fail, put_rows}
use Rattle.hy_job.specs.declared.nested.AggRex.TheVariants as C
use Rattle.hy_job.specs.declared.job.Edge.{Edge}
use Rattle.hy_job.specs.declared.job.Kind.TheVariants as K
use Rattle.hy_job.specs.declared.job.Wire.TheVariants as W
use Rattle.hy_job.specs.declared.job.Job.{Job}
use Rattle.hy_job.specs.Columns.{Row, state_row}
use Rattle.hy_job.specs.Runs.{IsSender, AreJoined}
use Rattle.hy_job.specs.Settled.{Completed, Take, Records, IsCompleted, IsFailed, HasWords, IsCaused, Settled, TakesFrom, taken_of}
use Rattle.hy_job.specs.Cases.{act, wire, row_of, int}
use Rattle.hy_job.proofs.Members.{no_bool, in_none}
use Rattle.hy_job.proofs.Settling.{below_one, below_two, each_task, each_member}
use Rattle.al_answer_cases.specs.RecordCases.{counting, count_records, from_both, only_in, one_counted, one_stage, CountSettles, TwiceTakenSettles, HalfTakenSettles}
use Rattle.al_answer_cases.proofs.Tasks.{nothing_taken, fails_none, words_for, by_two}

-- ---- states

one_state : state_row (C.CountAll ∷ []) (row_of 1 ∷ []) ≡ one_counted
unfolding state_fields high_half low_half int_wrap
one_state = refl

two_joined : AreJoined (A.CountAll ∷ []) (one_counted ∷ one_counted ∷ []) (row_of 2)
unfolding state_fields agg high_half low_half int_wrap
two_joined = (int 2, [], refl, ((V.Null ∷ []) ∷ (V.Null ∷ []) ∷ [], (inl refl, (inl refl, tt)), refl), refl)

-- ---- the records

abbrev both : List Take
both = from_both (one_counted ∷ []) (one_counted ∷ [])

abbrev records : Records
records = count_records both 2

module _ (set : List ℕ) where
  abbrev job : Job
  job = counting set

  scan_done : (j : ℕ) → j < 2 → IsCompleted (counting set) (act 0 (K.Scan set) 1) j (records 0 j)
  scan_done = below_two _ (record {
    run = record { received = λ input. []; made = row_of 1 ∷ []; receives = λ input lt. absurd (omega (arith, lt)); makes = refl; sends = below_two _ refl refl; hands_on = refl };
    takes_no_fail = nothing_taken _;
    puts_no_fail = λ to is. fails_none 0 (omega arith) (row_of 1 ∷ []) to is;
    passed = tt;
  }) (record {
    run = record { received = λ input. []; made = row_of 1 ∷ []; receives = λ input lt. absurd (omega (arith, lt)); makes = refl; sends = below_two _ refl refl; hands_on = refl };
    takes_no_fail = nothing_taken _;
    puts_no_fail = λ to is. fails_none 1 (omega arith) (row_of 1 ∷ []) to is;
    passed = tt;
  })

  part_done : (j : ℕ) → j < 2 → IsCompleted (counting set) (act 1 (K.AggPart (C.CountAll ∷ [])) 2) j (records 1 j)
  part_done = below_two _ (record {
    run = record { received = λ input. row_of 1 ∷ []; made = one_counted ∷ []; receives = below_one _ refl; makes = ap (λ (row : Row). row ∷ []) (sym one_state); sends = below_two _ refl refl; hands_on = refl };
    takes_no_fail = All-from_recursion (λ t. is_fail t.signal ≡ false) (records 1 0).took (refl, (refl, (refl, tt)));
    puts_no_fail = λ to is. fails_none 0 (omega arith) (one_counted ∷ []) to is;
    passed = tt;
  }) (record {
    run = record { received = λ input. row_of 1 ∷ []; made = one_counted ∷ []; receives = below_one _ refl; makes = ap (λ (row : Row). row ∷ []) (sym one_state); sends = below_two _ refl refl; hands_on = refl };
    takes_no_fail = All-from_recursion (λ t. is_fail t.signal ≡ false) (records 1 1).took (refl, (refl, (refl, tt)));
    puts_no_fail = λ to is. fails_none 0 (omega arith) (one_counted ∷ []) to is;
    passed = tt;
  })

  final_done : (j : ℕ) → j < 2 → IsCompleted (counting set) (act 2 (K.AggFinal (A.CountAll ∷ [])) 1) j (records 2 j)
  final_done = below_two _ (record {
    run = record { received = λ input. one_counted ∷ one_counted ∷ []; made = row_of 2 ∷ []; receives = below_one _ refl; makes = (row_of 2, two_joined, refl); sends = below_two _ refl refl; hands_on = refl };
    takes_no_fail = All-from_recursion (λ t. is_fail t.signal ≡ false) (records 2 0).took (refl, (refl, (refl, (refl, (refl, (refl, tt))))));
    puts_no_fail = λ to is. fails_none 0 (omega arith) (row_of 2 ∷ []) to is;
    passed = tt;
  }) (record {
    run = record { received = λ input. []; made = []; receives = below_one _ refl; makes = refl; sends = below_two _ refl refl; hands_on = refl };
    takes_no_fail = nothing_taken _;
    puts_no_fail = λ to is. fails_none 1 (omega arith) [] to is;
    passed = tt;
  })

  result_done : (j : ℕ) → j < 2 → IsCompleted (counting set) (act 3 (K.Result (0 ∷ [])) 1) j (records 3 j)
  result_done = below_two _ (record {
    run = record { received = λ input. row_of 2 ∷ []; made = row_of 2 ∷ []; receives = below_one _ refl; makes = refl; sends = λ r lt. refl; hands_on = refl };
    takes_no_fail = All-from_recursion (λ t. is_fail t.signal ≡ false) (records 3 0).took (refl, (refl, (refl, tt)));
    puts_no_fail = λ to is. absurd is;
    passed = tt;
  }) (record {
    run = record { received = λ input. []; made = []; receives = below_one _ refl; makes = refl; sends = λ r lt. refl; hands_on = refl };
    takes_no_fail = All-from_recursion (λ t. is_fail t.signal ≡ false) (records 3 1).took (refl, (refl, (refl, tt)));
    puts_no_fail = λ to is. absurd is;
    passed = tt;
  })

  scan_words : (j : ℕ) → j < 2 → HasWords (counting set) 0 j (records 0 j)
  scan_words j lt = let w = words_for j lt (row_of 1 ∷ []) in record { words = w.0; none = w.1 }

  part_words : (j : ℕ) → j < 2 → HasWords (counting set) 1 j (records 1 j)
  part_words j lt = let w = words_for 0 (omega arith) (one_counted ∷ []) in record { words = w.0; none = w.1 }

  final_words : (j : ℕ) → j < 2 → HasWords (counting set) 2 j (records 2 j)
  final_words j lt = let w = words_for j lt (only_in 0 (row_of 2 ∷ []) j) in record { words = w.0; none = w.1 }

  result_words : (j : ℕ) → j < 2 → HasWords (counting set) 3 j (records 3 j)
  result_words j lt = record { words = λ to lo is. absurd is; none = λ to lo other. refl }

  part_takes : (j : ℕ) → j < 2 → TakesFrom (counting set) (act 1 (K.AggPart (C.CountAll ∷ [])) 2) j (records 1 j).took
  part_takes j lt = let own : IsSender (counting set) (act 1 (K.AggPart (C.CountAll ∷ [])) 2) j 0 j = record { known = omega arith; within = lt; sends = refl } in (own, (own, (own, tt)))

  final_sender : (s : ℕ) → s < 2 → IsSender (counting set) (act 2 (K.AggFinal (A.CountAll ∷ [])) 1) 0 0 s
  final_sender s ls = record { known = omega arith; within = ls; sends = refl }

  final_takes : TakesFrom (counting set) (act 2 (K.AggFinal (A.CountAll ∷ [])) 1) 0 (records 2 0).took
  final_takes = let first = final_sender 0 (omega arith) in let second = final_sender 1 (omega arith) in (first, (second, (first, (second, (first, (second, tt))))))

  result_takes : (j : ℕ) → j < 2 → TakesFrom (counting set) (act 3 (K.Result (0 ∷ [])) 1) j (records 3 j).took
  result_takes j lt = let own : IsSender (counting set) (act 3 (K.Result (0 ∷ [])) 1) j 0 j = record { known = omega arith; within = lt; sends = refl } in (own, (own, (own, tt)))

  settled : Settled (counting set) one_stage (count_records both 2)
  settled = record {
    completed = each_task job one_stage (λ a j. (records a.number j).outcome ≡ Completed → IsCompleted job a j (records a.number j))
        ((λ j lt _. scan_done j lt), ((λ j lt _. part_done j lt), ((λ j lt _. final_done j lt), ((λ j lt _. result_done j lt), tt))));
    failed = each_task job one_stage (λ a j. (records a.number j).outcome ≢ Completed → IsFailed job a j (records a.number j))
        ((λ j lt o. absurd (o refl)), ((λ j lt o. absurd (o refl)), ((λ j lt o. absurd (o refl)), ((λ j lt o. absurd (o refl)), tt))));
    words = each_task job one_stage (λ a j. HasWords job a.number j (records a.number j)) (scan_words, (part_words, (final_words, (result_words, tt))));
    taken = each_task job one_stage (λ a j. TakesFrom job a j (records a.number j).took)
        ((λ j lt. tt), (part_takes, (below_two _ final_takes tt, (result_takes, tt))));
    delivered = λ x s r m n ls lr. each_member (λ (y : Edge). taken_of y.input s (records y.to r).took ≡ (records y.from s).put r) (wire 0 1 W.OneToOne ∷ wire 1 2 W.Gather ∷ wire 2 3 W.OneToOne ∷ []) (
      by_two (λ s r. taken_of 0 s (records 1 r).took ≡ (records 0 s).put r) refl refl refl refl s r ls lr,
      (
        by_two (λ s r. taken_of 0 s (records 2 r).took ≡ (records 1 s).put r) refl refl refl refl s r ls lr,
        (by_two (λ s r. taken_of 0 s (records 3 r).took ≡ (records 2 s).put r) refl refl refl refl s r ls lr, tt),
      ),
    ) x m;
    handed = λ b j m n lt. absurd (in_none b m);
    causes = each_task job one_stage (λ a j. IsCaused job one_stage records a.number j) (
      (λ j lt. record { raised = refl; stopped = tt; saw = λ y. absurd (no_bool (sym y)) }),
      (
        (λ j lt. record { raised = refl; stopped = tt; saw = λ y. absurd (no_bool (sym y)) }),
        (
          (λ j lt. record { raised = refl; stopped = tt; saw = λ y. absurd (no_bool (sym y)) }),
          ((λ j lt. record { raised = refl; stopped = tt; saw = λ y. absurd (no_bool (sym y)) }), tt),
        ),
      ),
    );
  }

pub count_settles : CountSettles
count_settles set = settled set

-- what was taken of the first partition is what it put, one state
pub twice_taken_settles : TwiceTakenSettles → ⊥
twice_taken_settles s = absurd (omega (arith, ap length ((s []).delivered (wire 1 2 W.Gather) 0 0 (1, omega arith, refl) (2, omega arith, refl) (omega arith) (omega arith))))

pub half_taken_settles : HalfTakenSettles → ⊥
half_taken_settles s = absurd (omega (arith, ap (λ (word : List (Signal Row)). length (put_rows word)) ((s []).delivered (wire 1 2 W.Gather) 1 0 (1, omega arith, refl) (2, omega arith, refl) (omega arith) (omega arith))))
