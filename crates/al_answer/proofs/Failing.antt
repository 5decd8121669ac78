-- The records of a job whose last stage failed, completed to whole runs: a check that failed is a fault of the physical plan.
use Rattle.std.proofs.Common.{◌≡◌, ℕ, ◌<◌, true, List, [], ◌∷◌, ◌++◌, refl, sym, subst, ◌∙◌, arith, inl, inr, append_assoc}
use Rattle.std.specs.List.{AllByRecursion, Contains}
use Rattle.std.proofs.lemmas.List.Elements.{Contains-append_cases, Contains-append_left, Contains-append_right}
use Rattle.al_plan.specs.Eval.{Bytes}
use Rattle.al_plan.specs.Allows.{Sets}
use Rattle.al_phys.specs.declared.phys.Phys.{Phys}
use Rattle.al_phys.specs.PAllows.{PFaults}
use Rattle.hy_job.specs.declared.job.Activity.{Activity}
use Rattle.hy_job.specs.declared.job.Edge.{Edge}
use Rattle.hy_job.specs.declared.job.Block.{Block}
use Rattle.hy_job.specs.declared.job.Job.{Job}
use Rattle.hy_job.specs.declared.job.Stage.{Stage}
use Rattle.hy_job.specs.Columns.{AreValues}
use Rattle.hy_job.specs.Literals.{kind_literals}
use Rattle.hy_job.specs.Sound.{SoundJob, edges_at}
use Rattle.hy_job.specs.Stages.{AreNext, activities_in}
use Rattle.hy_job.specs.Runs.{Taken, ComesBy, ComesOver, rows_of, sent_over}
use Rattle.hy_job.specs.Settled.{Outcome, Completed, Check, Records, HasCause}
use Rattle.hy_job.proofs.Members.{in_none}
use Rattle.hy_job.proofs.Boxes.{activity_at, only_edge}
use Rattle.hy_job.proofs.Connections.{ends, block_rises, block_ends}
use Rattle.hy_job.proofs.Settling.{each_member}
use Rattle.hy_job.proofs.WireLaws.{wires_exchange}
use Rattle.al_jobgen.specs.JobOf.{job_of}
use Rattle.al_jobgen.proofs.SoundPlaced.{placed_job}
use Rattle.al_answer.specs.Flow.{Flow, Works, Carries, HandsOn}
use Rattle.al_answer.specs.Answer.{IsRun, AllCompleted}
use Rattle.al_answer.specs.Fault.{FlowsIn, JobFaults}
use Rattle.al_answer.proofs.Records.{input_known}
use Rattle.al_answer.proofs.Staged.{staged_block}
use Rattle.al_answer.proofs.Finds.{flows_fault}
use Rattle.al_answer.proofs.ScanWidths.{scans_fit}
use Rattle.al_answer.proofs.Whole.{Work, RanAt, all_ran, staged_within, undone}
use Rattle.al_answer.proofs.Given.{FirstsDone, handed_is}
use Rattle.al_answer.proofs.Runs.{steps}

-- ---- stages

-- the first of two activities is in a stage before the last
early : (job : Job) (seen : List ℕ) (before : List Stage) (last : Stage) → AreNext job seen (before ++ last ∷ []) → (b : Block) → Contains job.blocks b → Contains (activities_in (before ++ last ∷ [])) b.after → Contains (seen ++ activities_in before) b.before
unfolding AreNext
early job seen [] last next b m c = elim (Contains-append_cases last.activities [] b.after c) [
  | inl here ↦ Contains-append_left seen [] b.before (next.0.ready b m here)
  | inr none ↦ absurd (in_none b.after none)
]
early job seen (s ∷ before) last next b m c = elim (Contains-append_cases s.activities (activities_in (before ++ last ∷ [])) b.after c) [
  | inl here ↦ Contains-append_left seen (s.activities ++ activities_in before) b.before (next.0.ready b m here)
  | inr there ↦ subst (λ (ks : List ℕ). Contains ks b.before) (append_assoc seen s.activities (activities_in before)) (early job (seen ++ s.activities) before last next.1 b m there)
]

in_last : (before : List Stage) (last : Stage) (a : ℕ) → Contains last.activities a → Contains (activities_in (before ++ last ∷ [])) a
in_last [] last a m = Contains-append_left last.activities [] a m
in_last (s ∷ before) last a m = Contains-append_right s.activities (activities_in (before ++ last ∷ [])) a (in_last before last a m)

-- ---- a job whose stages before the last completed

module _ (ph : Phys) (n : ℕ) (sets : Sets) (before : List Stage) (last : Stage) (records : Records) (ran : IsRun ph n sets (before ++ last ∷ []) records) (next : AreNext (job_of ph n) [] (before ++ last ∷ [])) (all : AllCompleted (job_of ph n) before records) where
  sound : SoundJob (job_of ph n)
  sound = placed_job ph n ran.some ran.few ran.placed

  abbrev Staged : ℕ → Type 0
  Staged k = Contains (activities_in (before ++ last ∷ [])) k

  -- the first of two activities
  first_of : (b : Block) → Contains (job_of ph n).blocks b → (y : Activity) × Contains (job_of ph n).activities y × (y.number ≡ b.before)
  first_of b m = activity_at (job_of ph n) sound b.before (omega (arith, block_rises (job_of ph n) sound b m, block_ends (job_of ph n) sound b m))

  firsts : FirstsDone (job_of ph n) sound (before ++ last ∷ []) next records ran.settled
  firsts b m c j lt =
      let y = first_of b m in
      subst (λ (k : ℕ). (records k j).outcome ≡ Completed) y.2 (all y.0 j y.1 (subst (Contains (activities_in before)) (sym y.2) (early (job_of ph n) [] before last next b m c)) lt)

  works_of : (f : ℕ → ℕ → Work) × ((a : Activity) → Contains (job_of ph n).activities a → Staged a.number → (j : ℕ) → j < n → RanAt (job_of ph n) (records a.number j) f (f a.number j) a j)
  works_of = all_ran (job_of ph n) sound (before ++ last ∷ []) next records (steps (job_of ph n) sound (before ++ last ∷ []) next records ran.settled firsts sets (scans_fit sets ph ran.fills) ran.given ran.literals)

  abbrev flow : Flow
  flow = record {
    received = λ k j. (works_of.0 k j).received;
    scanned = λ k j. (records k j).scanned;
    handed = λ k j. (records k j).handed;
    made = λ k j. (works_of.0 k j).made;
  }

  works : (a : Activity) → Contains (job_of ph n).activities a → Staged a.number → (j : ℕ) → j < n → Works n true sets flow a j
  works a m c j lt = record {
    makes = (works_of.1 a m c j lt).makes;
    given = ran.given a j m c lt;
    passed = tt;
    literals = each_member (λ (b : Activity). AreValues (kind_literals b.kind)) (job_of ph n).activities ran.literals a m;
  }

  -- ---- over wires

  module _ (e : Edge) (m : Contains (job_of ph n).edges e) (c : Staged e.to) where
    target : (x : Activity) × Contains (job_of ph n).activities x × (x.number ≡ e.to)
    target = activity_at (job_of ph n) sound e.to (ends (job_of ph n) sound e m)

    ran_at : (r : ℕ) → r < n → RanAt (job_of ph n) (records target.0.number r) works_of.0 (works_of.0 target.0.number r) target.0 r
    ran_at r lt = works_of.1 target.0 target.1 (subst (Contains (activities_in (before ++ last ∷ []))) (sym target.2) c) r lt

    comes : (r : ℕ) → r < n → ComesBy e.wire n e.input (works_of.0 e.to r).took (flow.received e.to r e.input)
    comes r lt =
        let own = (ran_at r lt).receives e.input (input_known (job_of ph n) sound target.0 target.1 e m (sym target.2)) in
        let here = subst (λ (k : ℕ). ComesOver (edges_at (job_of ph n) k e.input) n e.input (works_of.0 k r).took (flow.received k r e.input)) target.2 own in
        only_edge (job_of ph n) sound e m (λ (es : List Edge). ComesOver es n e.input (works_of.0 e.to r).took (flow.received e.to r e.input) → ComesBy e.wire n e.input (works_of.0 e.to r).took (flow.received e.to r e.input)) (λ es h. h) here

    carried : Carries n flow e
    carried =
        wires_exchange e.wire n e.input (flow.made e.from) (λ r. (works_of.0 e.to r).took) (λ r. flow.received e.to r e.input)
        (record {
          each = λ s r ls lt. subst (λ (k : ℕ). rows_of e.input s (works_of.0 k r).took ≡ sent_over e.wire n s r (flow.made e.from s)) target.2 ((ran_at r lt).each e m (sym target.2) s ls);
          senders = λ r lt. subst (λ (k : ℕ). AllByRecursion (λ (t : Taken). t.sender < n) (works_of.0 k r).took) target.2 (ran_at r lt).senders;
        }) comes

  -- ---- what is handed on

  handed : (b : Block) → Contains (job_of ph n).blocks b → Staged b.after → HandsOn n flow b
  handed b m c j lt =
      let y = first_of b m in
      let here = subst (Contains (activities_in (before ++ last ∷ []))) (sym y.2) (staged_block (job_of ph n) [] (before ++ last ∷ []) next b m c) in
      handed_is (job_of ph n) sound (before ++ last ∷ []) next records ran.settled b m c y.0 y.2 works_of.0 j lt (works_of.1 y.0 y.1 here j lt)
      (subst (λ (k : ℕ). (records k j).outcome ≡ Completed) (sym y.2) (firsts b m c j lt))

  flows : FlowsIn (job_of ph n) (before ++ last ∷ []) true sets flow
  flows = record { works = works; carries = carried; hands = handed }

  -- ---- the check

  faults : (a j : ℕ) (name : Bytes) → Contains last.activities a → j < n → (records a j).outcome ≡ Check name → PFaults ph sets n name
  faults a j name m lt is =
      let c = in_last before last a m in
      let x = activity_at (job_of ph n) sound a (staged_within (job_of ph n) [] (before ++ last ∷ []) next a c) in
      let here = subst (Contains (activities_in (before ++ last ∷ []))) (sym x.2) c in
      let own = subst (λ (k : ℕ). (records k j).outcome ≡ Check name) (sym x.2) is in
      let cause = (works_of.1 x.0 x.1 here j lt).cause (λ d. undone (Check name) refl (sym own ∙ d)) in
      flows_fault ph n sets (before ++ last ∷ []) flow ran.some ran.placed ran.fills next flows x.0 j name x.1 here lt
      (subst (λ (o : Outcome). HasCause x.0.kind o (flow.received x.0.number j 0)) own cause)

pub job_faults : JobFaults
job_faults ph n sets before last records ran next all a j name m lt is = faults ph n sets before last records ran next all a j name m lt is
