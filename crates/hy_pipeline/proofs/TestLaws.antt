-- Which rows of a check are still to be tested after a step.
use Rattle.std.proofs.Common.{◌≡◌, true, Option, List, [], ◌∷◌, ◌++◌, ap, sym, subst, ◌∙◌, append_assoc, append-nil}
use Rattle.std.specs.List.Sorted.{IsPermutation}
use Rattle.std.proofs.lemmas.List.Elements.{All-from_recursion}
use Rattle.std.proofs.lemmas.List.Sorted.{IsPermutation-append_right, IsPermutation-cons, IsPermutation-sym, IsPermutation-trans}
use Rattle.hy_job.specs.declared.job.Activity.{Activity}
use Rattle.hy_job.specs.declared.job.Kind.{Kind}
use Rattle.hy_job.specs.declared.job.Kind.TheVariants as K
use Rattle.hy_job.specs.Columns.{holds}
use Rattle.hy_job.specs.Runs.{rows_at}
use Rattle.hy_job.specs.Settled.{IsPassed, taken_rows}
use Rattle.hy_driver.specs.Rows.{Row}
use Rattle.hy_driver.specs.Seen.{Check}
use Rattle.hy_driver.specs.Steps.{Pass, Tested}
use Rattle.hy_input.specs.Inputs.{InputOf, brings}
use Rattle.hy_course.specs.Task.{IsCheck}
use Rattle.hy_course.proofs.ListLaws.{passed_none}
use Rattle.hy_pipeline.specs.Pipeline.{PipelineOf, take_of}
use Rattle.hy_pipeline.specs.Tests.{ComeAreUntested, EndedAreTested, FedAreTested, PassSome, TurnedAreTested, at_hand, check_of}
use Rattle.hy_pipeline.proofs.StepLaws.{taken_here}
use Rattle.hy_pipeline.proofs.HandLaws.{brought_are_rows, moved_by}

pass_is : (kind : Kind) (rows : List Row) → IsCheck kind → Pass (check_of kind) rows → IsPassed kind rows
pass_is (K.Check name c) rows check p = All-from_recursion (λ row. holds c row ≡ true) rows p
pass_is _ rows check p = tt

-- the rows that were fed left the rows at hand, and of those that were to be tested some were and passed
tested_by : (a : Activity) (check : Option Check) (held held' hands hands' fed : List Row) → check ≡ check_of a.kind → IsPermutation hands (fed ++ hands') → Tested check (held ++ fed) held'
    → PassSome a ((held ++ hands) ++ []) (held' ++ hands')
tested_by a check held held' hands hands' fed of moved t is_check = (
  t.0,
  IsPermutation-trans _ _ _ (moved_by _ _ (append-nil (held ++ hands)))
      (IsPermutation-trans _ _ _ (IsPermutation-append_right held _ _ moved)
      (moved_by _ _ (sym (append_assoc held fed hands') ∙ (ap (λ xs. xs ++ hands') t.1 ∙ append_assoc t.0 held' hands')))),
  pass_is a.kind t.0 is_check (subst (λ c. Pass c t.0) of t.2),
)

-- what is brought now are the rows at hand
hands_now : (x : InputOf) (rows : List Row) → brings 0 x [] rows → IsPermutation (at_hand x) rows
hands_now x rows h = subst (λ xs. IsPermutation xs rows) (append-nil (at_hand x)) (brought_are_rows 0 x [] rows h)

module _ (old new : PipelineOf) where
  pub fed_are_tested : FedAreTested old new
  fed_are_tested a row of now h =
      let before : brings 0 (old.input 0) [] (row ∷ now.0) = subst (λ (r : Row). brings 0 (old.input 0) [] (r ∷ now.0)) h.row_is ((h.gives.brings 0).back [] now.0 now.1) in
      tested_by a old.operator.fixed.check old.operator.untested new.operator.untested (at_hand (old.input 0)) (at_hand (new.input 0)) (row ∷ []) of
      (IsPermutation-trans _ _ _ (hands_now (old.input 0) (row ∷ now.0) before) (IsPermutation-cons row _ _ (IsPermutation-sym _ _ (hands_now (new.input 0) now.0 now.1)))) h.works.tested

  pub ended_are_tested : EndedAreTested old new
  ended_are_tested a of now h =
      tested_by a old.operator.fixed.check old.operator.untested new.operator.untested (at_hand (old.input 0)) (at_hand (new.input 0)) [] of
      (IsPermutation-trans _ _ _ (hands_now (old.input 0) now.0 ((h.over.rests.brings 0).back [] now.0 now.1)) (IsPermutation-sym _ _ (hands_now (new.input 0) now.0 now.1))) h.works.tested

  pub turned_are_tested : TurnedAreTested old new
  turned_are_tested a rows of h =
      tested_by a old.operator.fixed.check old.operator.untested new.operator.untested (at_hand (old.input 0)) (at_hand (new.input 0)) [] of
      (moved_by _ _ (ap at_hand (sym (h.inputs 0)))) h.works.tested

  pub come_are_untested : ComeAreUntested old new
  come_are_untested a p parcel same now h is_check =
      let took = taken_rows (take_of 0 p parcel) in
      let before : brings 0 (old.input 0) (took ++ []) now.0 = (taken_here 0 p parcel old new h.takes).back [] now.0 now.1 in
      let moved : IsPermutation (at_hand (old.input 0) ++ rows_at 0 took) (at_hand (new.input 0)) =
      IsPermutation-trans _ _ _ (brought_are_rows 0 (old.input 0) took now.0 (subst (λ xs. brings 0 (old.input 0) xs now.0) (append-nil took) before)) (IsPermutation-sym _ _ (hands_now (new.input 0) now.0 now.1)) in (
        [],
        IsPermutation-trans _ _ _ (moved_by _ _ (append_assoc old.operator.untested (at_hand (old.input 0)) (rows_at 0 took)))
            (subst (λ held. IsPermutation (old.operator.untested ++ (at_hand (old.input 0) ++ rows_at 0 took)) (held ++ at_hand (new.input 0))) (sym same) (IsPermutation-append_right old.operator.untested _ _ moved)),
        passed_none a.kind,
      )
