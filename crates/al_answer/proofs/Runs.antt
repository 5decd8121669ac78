-- Each task's whole run: the run of a task that completed, and one that a failed task's part goes on to.
use Rattle.std.proofs.Common.{◌≡◌, ◌≢◌, ℕ, ◌<◌, false, List, [], ◌++◌, length, refl, sym, ◌∙◌, arith, inl, inr, append-nil}
use Rattle.std.specs.List.{AllByRecursion, Contains}
use Rattle.std.proofs.lemmas.List.Elements.{recursion_from_All}
use Rattle.al_plan.specs.Allows.{Sets}
use Rattle.hy_rest.specs.Words.{is_fail}
use Rattle.hy_job.specs.declared.job.Kind.{Kind}
use Rattle.hy_job.specs.declared.job.Kind.TheVariants as K
use Rattle.hy_job.specs.declared.job.Activity.{Activity}
use Rattle.hy_job.specs.declared.job.Job.{Job}
use Rattle.hy_job.specs.declared.job.Stage.{Stage}
use Rattle.hy_job.specs.Columns.{Row, AreValues}
use Rattle.hy_job.specs.Literals.{kind_literals}
use Rattle.hy_job.specs.Sound.{SoundJob, inputs, width_in}
use Rattle.hy_job.specs.Stages.{AreNext, activities_in}
use Rattle.hy_job.specs.Runs.{Taken, Took, rows_at}
use Rattle.hy_job.specs.RunLaws.{TakesFit, TakesValues}
use Rattle.hy_job.specs.Settled.{Outcome, Completed, Stopped, Check, Store, NoMemory, Records, Settled, EachTask, HasCause, IsFaulty, Take, given, taken_rows}
use Rattle.hy_job.proofs.RunFits.{runs_fit}
use Rattle.hy_job.proofs.RunValues.{runs_have_values}
use Rattle.hy_job.proofs.Settling.{each_member}
use Rattle.al_phys.proofs.LiveLaws.{all_left}
use Rattle.al_jobgen.specs.Literals.{LiteralsAreValues}
use Rattle.al_answer.specs.Flow.{IsGiven}
use Rattle.al_answer.proofs.ScanWidths.{ScanFits, scan_given}
use Rattle.al_answer.proofs.Whole.{Work, RanAt, RanBelow, Steps, ended}
use Rattle.al_answer.proofs.Step.{more, may_come, each_taken}
use Rattle.al_answer.proofs.Given.{FirstsDone, handed_fits, rows_fit, rows_valid, senders_below, each_whole, receives_taken}

-- ---- causes

-- a fault among some rows is one among all of them
faulty_among : (kind : Kind) (name : List ℕ) (rows all : List Row) → (0 < inputs kind → (row : Row) → Contains rows row → Contains all row) → IsFaulty kind name rows → IsFaulty kind name all
faulty_among (K.Check own c) name rows all h f = (f.0, (f.1.0, h (omega arith) f.1.0 f.1.1, f.1.2))
faulty_among (K.Scan set) name rows all h f = f
faulty_among K.One name rows all h f = f
faulty_among (K.Assign made) name rows all h f = f
faulty_among (K.Select c) name rows all h f = f
faulty_among (K.Project columns) name rows all h f = f
faulty_among (K.Unnest g) name rows all h f = f
faulty_among (K.Subplan n) name rows all h f = f
faulty_among (K.Union ls rs) name rows all h f = f
faulty_among (K.Limit n k) name rows all h f = f
faulty_among (K.LocalLimit n) name rows all h f = f
faulty_among (K.PreGroup keys n) name rows all h f = f
faulty_among (K.Result columns) name rows all h f = f
faulty_among (K.SortBuild keys) name rows all h f = f
faulty_among (K.SortEmit keys) name rows all h f = f
faulty_among (K.GroupBuild arg) name rows all h f = f
faulty_among (K.GroupEmit arg) name rows all h f = f
faulty_among (K.JoinBuild arg) name rows all h f = f
faulty_among (K.JoinProbe arg) name rows all h f = f
faulty_among (K.AggPart made) name rows all h f = f
faulty_among (K.AggFinal made) name rows all h f = f

cause_among : (kind : Kind) (outcome : Outcome) (rows all : List Row) → (0 < inputs kind → (row : Row) → Contains rows row → Contains all row) → HasCause kind outcome rows → HasCause kind outcome all
cause_among kind (Check name) rows all h c = faulty_among kind name rows all h c
cause_among kind Completed rows all h c = tt
cause_among kind Stopped rows all h c = tt
cause_among kind Store rows all h c = tt
cause_among kind NoMemory rows all h c = tt

-- ---- tasks

module _ (job : Job) (sound : SoundJob job) (stages : List Stage) (next : AreNext job [] stages) (records : Records) (settled : Settled job stages records) (firsts : FirstsDone job sound stages next records settled)
    (sets : Sets) (scans : AllByRecursion (λ (a : Activity). ScanFits sets a.kind a.arity) job.activities) (given_sets : EachTask job stages (λ a j. IsGiven sets a.kind (records a.number j).scanned)) (literals : LiteralsAreValues job) where
  module _ (a : Activity) (member : Contains job.activities a) (staged : Contains (activities_in stages) a.number) (f : ℕ → ℕ → Work) (less : RanBelow job sound stages next records a.number f) (j : ℕ) (lt : j < job.partitions) where
    -- what it is given beside these rows
    abbrev Given : List Taken → Took
    Given rows = record { rows = rows; scanned = (records a.number j).scanned; handed = (records a.number j).handed }

    takes_fit : (rows : List Taken) → AllByRecursion (λ (t : Taken). length t.row ≡ width_in job a.number t.input) rows → TakesFit job a (Given rows)
    takes_fit rows h = record {
      rows = h;
      scanned = λ e. (scan_given sets a.kind a.arity (records a.number j).scanned (each_member (λ (z : Activity). ScanFits sets z.kind z.arity) job.activities scans a member) (given_sets a j member staged lt) e).0;
      handed = λ e. (handed_fits job sound stages next records settled firsts a member staged f less j lt e).0;
    }

    takes_values : (rows : List Taken) → AllByRecursion (λ (t : Taken). AreValues t.row) rows → TakesValues a (Given rows)
    takes_values rows h = record {
      rows = h;
      scanned = λ e. (scan_given sets a.kind a.arity (records a.number j).scanned (each_member (λ (z : Activity). ScanFits sets z.kind z.arity) job.activities scans a member) (given_sets a j member staged lt) e).1;
      handed = λ e. (handed_fits job sound stages next records settled firsts a member staged f less j lt e).1;
    }

    valid_literals : AreValues (kind_literals a.kind)
    valid_literals = each_member (λ (z : Activity). AreValues (kind_literals z.kind)) job.activities literals a member

    completed : (records a.number j).outcome ≡ Completed → (w : Work) × RanAt job (records a.number j) f w a j
    completed e =
        let done = settled.completed a j member staged lt e in
        let no_fail = recursion_from_All (λ (t : Take). is_fail t.signal ≡ false) (records a.number j).took done.takes_no_fail in
        let all = sym (append-nil (records a.number j).took) in
        let rows = taken_rows (records a.number j).took in
        let fit = all_left (λ (t : Taken). length t.row ≡ width_in job a.number t.input) rows _ (rows_fit job sound stages next records settled a member staged f less j lt (records a.number j).took [] all no_fail) in
        let valid = all_left (λ (t : Taken). AreValues t.row) rows _ (rows_valid job sound stages next records settled a member staged f less j lt (records a.number j).took [] all no_fail) in (
          record { received = done.run.received; made = done.run.made; took = rows },
          record {
            receives = done.run.receives;
            makes = done.run.makes;
            each = each_whole job sound stages next records settled a member staged f less j lt (records a.number j).took [] all no_fail refl;
            senders = all_left (λ (t : Taken). t.sender < job.partitions) rows _ (senders_below job sound stages next records settled a member staged f less j lt (records a.number j).took [] all no_fail);
            done = λ c. done.run.sends;
            hands = λ c. done.run.hands_on;
            front = λ c. absurd (c e);
            cause = λ c. absurd (c e);
            wide = (runs_fit job sound a member j (given (records a.number j) (records a.number j).took) _ (takes_fit rows fit) done.run).made_rows;
            values = (runs_have_values job a valid_literals j (given (records a.number j) (records a.number j).took) _ (takes_values rows valid) done.run).made_rows;
          },
        )

    failed : (records a.number j).outcome ≢ Completed → (w : Work) × RanAt job (records a.number j) f w a j
    failed c =
        let fails = settled.failed a j member staged lt c in
        let no_fail = recursion_from_All (λ (t : Take). is_fail t.signal ≡ false) fails.before fails.takes_no_fail in
        let still = more job sound stages next records settled a member staged f less j lt fails.before fails.behind fails.took no_fail in
        let whole = fails.part still (may_come job sound stages next records settled a member staged f less j lt fails.before fails.behind fails.took no_fail) in
        let rows = taken_rows fails.before ++ still in (
          record { received = whole.2.received; made = whole.2.made; took = rows },
          record {
            receives = whole.2.receives;
            makes = whole.2.makes;
            each = each_taken job sound stages next records settled a member staged f less j lt fails.before fails.behind fails.took no_fail;
            senders = senders_below job sound stages next records settled a member staged f less j lt fails.before fails.behind fails.took no_fail;
            done = λ e. absurd (c e);
            hands = λ e. absurd (c e);
            front = λ n to low is. (fails.put to, (whole.1.to to low).0, fails.ends to is, sym (whole.2.sends to low) ∙ (whole.1.to to low).1);
            cause = λ n. cause_among a.kind (records a.number j).outcome (rows_at 0 (taken_rows fails.before)) (whole.2.received 0)
                (λ some. receives_taken job sound stages next records settled a member staged f less j lt fails.before fails.behind fails.took no_fail 0 some (whole.2.received 0) (whole.2.receives 0 some)) fails.cause;
            wide = (runs_fit job sound a member j (Given rows) whole.0 (takes_fit rows (rows_fit job sound stages next records settled a member staged f less j lt fails.before fails.behind fails.took no_fail)) whole.2).made_rows;
            values = (runs_have_values job a valid_literals j (Given rows) whole.0 (takes_values rows (rows_valid job sound stages next records settled a member staged f less j lt fails.before fails.behind fails.took no_fail)) whole.2).made_rows;
          },
        )

  pub steps : Steps job sound stages next records
  steps a member staged f less j lt = elim (ended (records a.number j).outcome) [
    | inl e ↦ completed a member staged f less j lt e
    | inr c ↦ failed a member staged f less j lt c
  ]
