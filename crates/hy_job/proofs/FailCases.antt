-- Records that do not fit together, and those of a failed check.
use Rattle.std.proofs.Common.{◌≡◌, ◌≢◌, inl, inr, ℕ, true, false, List, [], ◌∷◌, map, refl, sym, subst, ◌∙◌, arith}
use Rattle.std.specs.List.{All, Contains}
use Rattle.std.proofs.lemmas.List.Elements.{All-from_recursion}
use Rattle.hy_job.specs.declared.job.Edge.{Edge}
use Rattle.hy_job.specs.declared.job.Kind.TheVariants as K
use Rattle.hy_job.specs.declared.job.Wire.TheVariants as W
use Rattle.hy_job.specs.declared.job.Job.{Job}
use Rattle.hy_job.specs.declared.job.Stage.{Stage}
use Rattle.hy_job.specs.Columns.{Row, cut, holds}
use Rattle.hy_job.specs.Sound.{edges_from}
use Rattle.hy_job.specs.Runs.{IsSender, Receives, rows_at, sent_by}
use Rattle.hy_rest.specs.Words.{Open, Rows, Fail, Close, WriterWord, put_rows, is_fail}
use Rattle.hy_job.specs.Settled.{Completed, Stopped, Check, Take, IsCompleted, IsFailed, HasWords, IsCaused, Settled, TakesFrom, taken_of}
use Rattle.hy_job.specs.Cases.{act, wire, stage, is_text}
use Rattle.hy_job.specs.SettledCases.{checking, take_first, scan_record, NobodySends, NoneStopsAlone, after_check, FailStops, FailCompletesNone}
use Rattle.hy_job.proofs.Members.{no_bool, in_none}
use Rattle.hy_job.proofs.SettledCases.{dealt_whole}
use Rattle.hy_job.proofs.CheckCases.{told, fails}
use Rattle.hy_job.proofs.Settling.{below_one, each_task, each_member}

pub nobody_sends : NobodySends
nobody_sends set rows on row s =
    let took = s.taken (act 1 (K.Result (0 ∷ [])) 1) 0 (1, omega arith, refl) (1, omega arith, refl) (omega arith) in
    let low = took.1.1.0.within in
    omega (arith, low)

pub none_stops_alone : NoneStopsAlone
none_stops_alone set rows on s =
    let c = s.causes (act 1 (K.Result (0 ∷ [])) 1) 0 (1, omega arith, refl) (1, omega arith, refl) (omega arith) in
    elim c.stopped [
      | inl f ↦ no_fail f.0 f.1 f.2
      | inr saw ↦ no_bool (sym saw)
    ]
  where
    no_fail : (t : Take) → Contains (take_first Open ∷ take_first (Rows rows) ∷ take_first Close ∷ []) t → is_fail t.signal ≡ true → ⊥
    no_fail t m fails = no_bool (sym fails ∙ each_member (λ (u : Take). is_fail u.signal ≡ false) (take_first Open ∷ take_first (Rows rows) ∷ take_first Close ∷ []) (refl, (refl, (refl, tt))) t m)

pub fail_completes_none : FailCompletesNone
fail_completes_none set name text row s =
    let c = s.completed (act 2 (K.Result (0 ∷ [])) 1) 0 (2, omega arith, refl) (2, omega arith, refl) (omega arith) refl in
    no_bool (c.takes_no_fail 1 (take_first Open) (omega arith))

-- ---- a check that failed

module _ (set name text : List ℕ) (row : Row) where
  abbrev job : Job
  job = checking set name text

  abbrev stages : List Stage
  stages = stage (0 ∷ 1 ∷ 2 ∷ []) ∷ []

  scan_done : IsCompleted (checking set name text) (act 0 (K.Scan set) 2) 0 (scan_record (row ∷ []))
  scan_done = record {
    run = record {
      received = λ input. [];
      made = row ∷ [];
      receives = λ input lt. absurd (omega (arith, lt));
      makes = sym (dealt_whole (row ∷ []));
      sends = below_one (λ r. put_rows ((scan_record (row ∷ [])).put r) ≡ sent_by (edges_from (checking set name text) 0) 1 0 r (row ∷ [])) refl;
      hands_on = refl;
    };
    takes_no_fail = λ k d lt. absurd (omega (arith, lt));
    puts_no_fail = λ to is. subst (λ x. All (λ s. is_fail s ≡ false) ((scan_record (row ∷ [])).put x)) (sym is) (All-from_recursion (λ s. is_fail s ≡ false) (Open ∷ Rows (row ∷ []) ∷ Close ∷ []) (refl, (refl, (refl, tt))));
    passed = tt;
  }

  result_failed : IsFailed (checking set name text) (act 2 (K.Result (0 ∷ [])) 1) 0 (after_check name row Stopped 2 0)
  result_failed = record {
    before = take_first Open ∷ [];
    behind = take_first Fail ∷ take_first Close ∷ [];
    took = refl;
    takes_no_fail = All-from_recursion (λ t. is_fail t.signal ≡ false) (take_first Open ∷ []) (refl, tt);
    put = λ r. [];
    ends = λ to is. absurd is;
    part = λ more may. (
      record { to = λ r. []; on = map (cut (0 ∷ [])) (rows_at 0 more) },
      record { to = λ r lt. ([], refl); on = (map (cut (0 ∷ [])) (rows_at 0 more), refl) },
      record {
        received = λ input. rows_at 0 more;
        made = map (cut (0 ∷ [])) (rows_at 0 more);
        receives = below_one (λ input. Receives (checking set name text) 2 more input (rows_at 0 more)) refl;
        makes = refl;
        sends = λ r lt. refl;
        hands_on = refl;
      },
    );
    cause = tt;
  }

  settled : holds (is_text text) row ≡ false → Settled (checking set name text) (stage (0 ∷ 1 ∷ 2 ∷ []) ∷ []) (after_check name row Stopped)
  unfolding WriterWord
  settled e = record {
    completed = each_task job stages (λ a j. (after_check name row Stopped a.number j).outcome ≡ Completed → IsCompleted job a j (after_check name row Stopped a.number j))
        (below_one _ (λ _. scan_done), (below_one _ (λ o. absurd (no_check o)), (below_one _ (λ o. absurd (no_stop o)), tt)));
    failed = each_task job stages (λ a j. (after_check name row Stopped a.number j).outcome ≢ Completed → IsFailed job a j (after_check name row Stopped a.number j))
        (below_one _ (λ o. absurd (o refl)), (below_one _ (λ _. fails set name text row e), (below_one _ (λ _. result_failed), tt)));
    words = each_task job stages (λ a j. HasWords job a.number j (after_check name row Stopped a.number j)) (
      below_one _ (record { words = λ to lt is. below_one (λ x. WriterWord ((scan_record (row ∷ [])).put x)) tt to lt; none = λ to lt other. absurd (other (omega (arith, lt))) }),
      (
        below_one _ (record { words = λ to lt is. tt; none = λ to lt other. absurd (other (omega (arith, lt))) }),
        (below_one _ (record { words = λ to lt is. absurd is; none = λ to lt other. refl }), tt),
      ),
    );
    taken = each_task job stages (λ a j. TakesFrom job a j (after_check name row Stopped a.number j).took)
        (below_one _ tt, (below_one _ (of_first, (of_first, (of_first, tt))), (below_one _ (of_second, (of_second, (of_second, tt))), tt)));
    delivered = λ x s r m n ls lr. each_member (λ (y : Edge). taken_of y.input s (after_check name row Stopped y.to r).took ≡ (after_check name row Stopped y.from s).put r) (wire 0 1 W.OneToOne ∷ wire 1 2 W.OneToOne ∷ []) (
      below_one (λ s. taken_of 0 s (after_check name row Stopped 1 r).took ≡ (after_check name row Stopped 0 s).put r) (below_one (λ r. taken_of 0 0 (after_check name row Stopped 1 r).took ≡ (after_check name row Stopped 0 0).put r) refl r lr) s ls,
      (below_one (λ s. taken_of 0 s (after_check name row Stopped 2 r).took ≡ (after_check name row Stopped 1 s).put r) refl s ls, tt),
    ) x m;
    handed = λ b j m n lt. absurd (in_none b m);
    causes = each_task job stages (λ a j. IsCaused job stages (after_check name row Stopped) a.number j) (
      below_one _ (record { raised = refl; stopped = tt; saw = λ y. absurd (no_bool (sym y)) }),
      (
        below_one _ (record { raised = refl; stopped = tt; saw = λ y. absurd (no_bool (sym y)) }),
        (below_one _ (record { raised = refl; stopped = inl (take_first Fail, (1, omega arith, refl), refl); saw = λ y. absurd (no_bool (sym y)) }), tt),
      ),
    );
  }
    where
      no_check : Check name ≡ Completed → ⊥
      no_check o = cc

      no_stop : Stopped ≡ Completed → ⊥
      no_stop o = cc

      of_first : IsSender (checking set name text) (act 1 (K.Check name (is_text text)) 2) 0 0 0
      of_first = record { known = omega arith; within = omega arith; sends = refl }

      of_second : IsSender (checking set name text) (act 2 (K.Result (0 ∷ [])) 1) 0 0 0
      of_second = record { known = omega arith; within = omega arith; sends = refl }

pub fail_stops : FailStops
fail_stops set name text row = (
  λ s. told set name text row (s.failed (act 1 (K.Check name (is_text text)) 2) 0 (1, omega arith, refl) (1, omega arith, refl) (omega arith) no),
  settled set name text row,
)
  where
    no : Check name ≢ Completed
    no o = cc
