-- A task that stands has something to put, however the taking goes on.
use Rattle.std.proofs.Common.{◌≡◌, ◌<◌, ◌+◌, ℕ, zero, suc, nat_eq, Bool, true, false, List, [], ◌∷◌, ◌++◌, map, flat_map, length, inl, inr, refl, ap, sym, subst, ◌∙◌, arith}
use Rattle.std.specs.List.{All, AllByRecursion, range_with_len}
use Rattle.std.proofs.lemmas.Bool.{cases_lt}
use Rattle.hy_frame.specs.declared.writer.WriterState.{WriterState}
use Rattle.hy_frame.specs.declared.writer.WriterState.TheVariants.{Initial, Opened, Failed, Closed}
use Rattle.hy_job.specs.declared.job.Activity.{Activity}
use Rattle.hy_job.specs.declared.job.Job.{Job}
use Rattle.hy_job.specs.Runs.{IsSender, Taken}
use Rattle.hy_job.specs.Sound.{inputs, width_in}
use Rattle.hy_job.proofs.Boxes.{is_nat}
use Rattle.hy_job.proofs.Members.{by_cases, no_bool}
use Rattle.hy_driver.specs.Forms.{MayBeFed}
use Rattle.hy_driver.specs.Rows.{AreValues, Fed, Row, values_of}
use Rattle.hy_connect.specs.Sources.{hand as hand_of}
use Rattle.hy_connect.specs.Merges.{MergerOf, senders, source}
use Rattle.hy_connect.specs.Writers.{MayGive}
use Rattle.hy_output.specs.declared.way.Way.{Way}
use Rattle.hy_output.specs.declared.way.Way.TheVariants as W
use Rattle.hy_output.specs.Ways.{state_of}
use Rattle.hy_input.specs.declared.taker.Taker.{Taker}
use Rattle.hy_input.specs.declared.taker.Taker.TheVariants as T
use Rattle.hy_input.specs.Inputs.{InputOf, IsDone, Stays, brings, closed_at, done_by, hand}
use Rattle.hy_input.specs.Laws.{HasRowsOf, IsRow, MayBring}
use Rattle.hy_input.proofs.Bringing.{are_brought, done_bring_none}
use Rattle.hy_input.proofs.Closing.{done_ended, ended_closed}
use Rattle.hy_course.specs.Task.{MayComeTo}
use Rattle.hy_pipeline.specs.Pipeline.{PipelineOf, parts_of}
use Rattle.hy_pipeline.specs.Laws.{IsEnded, IsLiving, Leaves, OthersStay, TakesMore}
use Rattle.hy_pipeline.specs.Tasks.{AllSendersClosed, MayPut, Tells}
use Rattle.hy_pipeline.specs.Tests.{at_hand, hands_by}
use Rattle.hy_pipeline.proofs.DoneLaws.{ended_may_put, living_may_put}
use Rattle.hy_pipeline.proofs.StepLaws.{differ}
use Rattle.hy_task.specs.Standing.{AreWide, HasFinished, IsFrom, IsPlaced, IsQuiet, IsSuited, Lives, StandsAt, left_by}

-- ---- inputs

abbrev pub closed_by : PipelineOf → ℕ → ℕ → Bool
closed_by p k q = closed_at (p.input k) q

pub from_stays : (job : Job) (a : Activity) (j k : ℕ) (x y : InputOf) → Stays x y → IsFrom job a j k x → IsFrom job a j k y
from_stays job a j k x y s h = record {
  sender = λ m n p is. h.sender m n p (s.sent m n p is);
  sent = λ p is. let q = h.sent p is in (q.0, q.1, s.sends q.0 q.1 p q.2);
}

-- what holds at one input as it now is, and at the others, which are as they were
pub at_each : (Q : ℕ → InputOf → Type 0) (k : ℕ) (old new : PipelineOf) → OthersStay k old new → Q k (new.input k) → (i : ℕ) → Q i (old.input i) → Q i (new.input i)
at_each Q k old new others here i h = by_cases (nat_eq k i)
    (λ t. subst (λ m. Q m (new.input m)) (is_nat k i t) here)
    (λ f. subst (Q i) (sym (others i (differ k i f))) h)

-- one that is done has no row at hand
hands_none : (m : MergerOf) (b n : ℕ) → ((s : ℕ) → s < b + n → hand_of (source m s) ≡ []) → flat_map (λ s. map values_of (hand_of (source m s))) (range_with_len b n) ≡ []
hands_none m b zero h = refl
hands_none m b (suc n) h = ap (λ xs. map values_of xs ++ flat_map (λ s. map values_of (hand_of (source m s))) (range_with_len (b + 1) n)) (h b (omega arith)) ∙ hands_none m (b + 1) n (λ s lt. h s (omega (arith, lt)))

none_of : (t : Taker) (x : InputOf) → done_by t (hand x) → hands_by t (map values_of (hand x)) ≡ []
none_of (T.One t) x h = ap (map values_of) h.1
none_of (T.Many t) x h = ap (map values_of) h.1
none_of (T.Merge m) x h = hands_none m 0 (senders m) (λ s lt. h.1 s (omega (arith, lt)))

pub done_none : (x : InputOf) → IsDone x → at_hand x ≡ []
done_none x h = none_of x.taker x h

-- ---- what may come

module _ (job : Job) (a : Activity) (j k : ℕ) (x : InputOf) (closed : ℕ → ℕ → Bool) (from : IsFrom job a j k x) (is : (q : ℕ) → closed k q ≡ closed_at x q) where
  may_bring : (more : List Taken) → MayComeTo job a j closed more → MayBring k x more
  may_bring [] may = tt
  may_bring (t ∷ more) may = (
    λ e. (
      from.sent t.sender (subst (λ (i : ℕ). IsSender job a j i t.sender) e may.0.of),
      sym (is t.sender) ∙ subst (λ (i : ℕ). closed i t.sender ≡ false) e may.0.to_come,
    ),
    may_bring more may.1,
  )

  rows_fit : (width : ℕ) → width ≡ width_in job a.number k → (more : List Taken) → MayComeTo job a j closed more → AllByRecursion (λ (t : Taken). t.input ≡ k → IsRow width t.row) more
  rows_fit width e [] may = tt
  rows_fit width e (t ∷ more) may = (
    λ here. (may.0.fits ∙ (ap (width_in job a.number) here ∙ sym e), may.0.values),
    rows_fit width e more may.1,
  )

-- ---- a task that lives

module _ (job : Job) (a : Activity) (j : ℕ) (at : ℕ → ℕ) (p : PipelineOf) (from : (k : ℕ) → k < inputs a.kind → IsFrom job a j k (p.input k)) (suited : IsSuited job a p.operator) (lives : Lives a p) where
  fits : (fed : Fed) → (p.operator.ended fed.0 ≡ false) × (length fed.1 ≡ width_in job a.number fed.0) × AreValues fed.1 → MayBeFed p.operator.ended p.operator.fixed.width fed
  fits fed h = elim (cases_lt fed.0 (inputs a.kind)) [
    | inl low ↦ (h.0, h.1 ∙ sym (suited.widths fed.0 low), h.2)
    | inr high ↦ absurd (no_bool (sym (lives.beyond fed.0 high).0 ∙ h.0))
  ]

  brought : (k : ℕ) → k < inputs a.kind → (more : List Taken) → MayComeTo job a j (closed_by p) more
      → (rows : List Row) × brings k (p.input k) more rows × All (λ row. (length row ≡ width_in job a.number k) × AreValues row) rows × (p.operator.ended k ≡ true → rows ≡ [])
  brought k lt more may =
      let wide = suited.widths k lt in
      let comes = may_bring job a j k (p.input k) (closed_by p) (from k lt) (λ q. refl) more may in
      let some = are_brought k (p.input k) more (width_in job a.number k) comes (subst (HasRowsOf (p.input k)) wide (lives.wide k lt))
      (rows_fit job a j k (p.input k) (closed_by p) (from k lt) (λ q. refl) (width_in job a.number k) refl more may) in
      (some.0, some.1, some.2, λ ended. (done_bring_none k (p.input k) (lives.told k lt ended)).1 more some.0 comes some.1)

  pub living : TakesMore p.output.way → Tells p.operator → IsLiving job a j (closed_by p) p.operator.ended p
  living more tells = record {
    brings = λ k lt took may. brought k lt took may;
    may = fits;
    works = tells.alive;
    more = more;
  }

  senders_closed : ((k : ℕ) → k < inputs a.kind → IsDone (p.input k)) → AllSendersClosed job a j (closed_by p)
  senders_closed done k q is =
      let s = (from k is.known).sent q is in
      ended_closed (p.input k) (done_ended (p.input k) (done k is.known)) s.0 s.1 q s.2

leaves_of : (way : Way) (left : List Row) → IsQuiet way left → Leaves way left (left_by way left)
leaves_of (W.Wire w) left quiet = (quiet, refl)
leaves_of (W.Kept k) left quiet = refl

-- where its word has ended
pub ended_of : (a : Activity) (p : PipelineOf) → Lives a p → HasFinished p → Tells p.operator → IsEnded a.kind p.operator.hands_on (left_by p.output.way p.operator.hands_on) p
ended_of a p lives finished tells =
    let through = lives.over finished.phase in record {
      brings = λ k lt. (done_bring_none k (p.input k) (lives.told k lt (through.ended k))).0;
      operator = (tells.over finished.phase).finished.some;
      packed_is = finished.packed_is;
      leaves = leaves_of p.output.way p.operator.hands_on finished.quiet;
    }

takes_more : (s : WriterState) (way : Way) → state_of way ≡ s → (s ≡ Initial) → TakesMore way
takes_more s way is e = subst (λ x. (given : List Row) → MayGive x given) (sym (is ∙ e)) (λ given. tt)

pub takes_rows : (way : Way) → state_of way ≡ Opened → TakesMore way
takes_rows way is = subst (λ x. (given : List Row) → MayGive x given) (sym is) (λ given. tt)

pub may_put : (job : Job) (a : Activity) (j : ℕ) (at : ℕ → ℕ) (p : PipelineOf) → IsPlaced job a j at p.output.way → ((k : ℕ) → k < inputs a.kind → IsFrom job a j k (p.input k)) → IsSuited job a p.operator → Lives a p
    → Tells p.operator → MayPut job a j (closed_by p) (parts_of at p)
may_put job a j at p placed from suited lives tells = by_state (state_of p.output.way) refl lives.stage
  where
    by_state : (s : WriterState) → state_of p.output.way ≡ s → StandsAt s p → MayPut job a j (closed_by p) (parts_of at p)
    by_state Initial is stage = living_may_put p job a j (closed_by p) p.operator.ended at placed.apart (living job a j at p from suited lives (takes_more Initial p.output.way is refl) tells)
    by_state Opened is stage = living_may_put p job a j (closed_by p) p.operator.ended at placed.apart (living job a j at p from suited lives (takes_rows p.output.way is) tells)
    by_state Failed is stage = absurd stage
    by_state Closed is stage = ended_may_put p job a j (closed_by p) at p.operator.hands_on (left_by p.output.way p.operator.hands_on) placed.apart
        (senders_closed job a j at p from suited lives (λ k lt. lives.told k lt ((lives.over stage.phase).ended k))) (ended_of a p lives stage tells)

-- it brings something, where nothing more comes
pub brings_now : (a : Activity) (p : PipelineOf) (k : ℕ) → k < inputs a.kind → AreWide a p → (rows : List Row) × brings k (p.input k) [] rows
brings_now a p k lt wide = let some = are_brought k (p.input k) [] (p.operator.fixed.width k) tt (wide k lt) tt in (some.0, some.1)
