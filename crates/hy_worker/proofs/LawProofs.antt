-- The laws of what calls come to.
use Rattle.std.proofs.Common.{None, false, ◌≡◌, ◌≢◌, ◌<◌, ◌≤◌, ◌⊎◌, inl, inr, ℕ, zero, suc, nat_eq, List, [], ◌∷◌, ◌++◌, length, refl, sym, ap, subst, ◌∙◌, arith, append-nil}
use Rattle.hy_frame.specs.FrameText.{AllRows}
use Rattle.hy_job.proofs.Members.{by_cases}
use Rattle.hy_mail.specs.declared.parcel.Parcel.TheVariants as P
use Rattle.hy_driver.specs.Rows.{Row}
use Rattle.hy_connect.proofs.Merging.{other_number, same_number}
use Rattle.hy_connect.specs.Sources.{SourceOf, hand as hand_of}
use Rattle.hy_connect.proofs.Hands.{frames_none}
use Rattle.hy_input.specs.declared.taker.Taker.TheVariants as T
use Rattle.hy_worker.proofs.Keeping.{not_spent}
use Rattle.hy_output.specs.declared.way.Way.{Way}
use Rattle.hy_output.specs.declared.way.Way.TheVariants as W
use Rattle.hy_output.specs.Ways.{Stays}
use Rattle.hy_input.specs.Inputs.{Stays as InputStays, InputOf, closed_at, held, input_of}
use Rattle.hy_input.proofs.Holding.{still_then}
use Rattle.hy_course.proofs.ListLaws.{passed_none}
use Rattle.hy_pipeline.specs.Laws.{Comes}
use Rattle.hy_pipeline.specs.Tests.{at_hand, untested_of}
use Rattle.hy_pipeline.proofs.HandLaws.{moved_by}
use Rattle.hy_pipeline.proofs.StepLaws.{come_is_step}
use Rattle.hy_pipeline.proofs.TestLaws.{come_are_untested}
use Rattle.hy_worker.specs.Worker.{WorkerOf, held_inputs, input_at, no_input, pipeline}
use Rattle.hy_worker.specs.Calls.{RestsAt}
use Rattle.hy_worker.specs.Laws.{EmptyClosesNone, EmptyIsNoStep, EmptyTestsNone, GivingUpClosesNone, LastsThen, NewInputsHoldNone, NewMergesHoldNone, NoneIsOut, TaskHasRoom}

-- ---- a take that found nothing

-- it is as one that took an Open
empty_comes : (old new : WorkerOf) (k p : ℕ) → RestsAt k old new → Comes k p P.Open (pipeline old) (pipeline new)
empty_comes old new k p h = record { others = h.others; takes = h.rests; works = h.operator.seen.rest; output = h.output }

pub empty_no_step : (old new : WorkerOf) → EmptyIsNoStep old new
empty_no_step old new at job a k h =
    let s = come_is_step (pipeline old) (pipeline new) at job a k 0 P.Open (empty_comes old new k 0 h) in
    record { brings = s.brings; works = s.works; packed = s.packed; offers = s.offers; keeps = s.keeps }

pub empty_closes_none : (old new : WorkerOf) → EmptyClosesNone old new
empty_closes_none old new k i p h = by_cases (nat_eq i k)
    (λ y. subst (λ (j : ℕ). closed_at (input_at new.inputs j) p ≡ closed_at (input_at old.inputs j) p) (sym (same_number i k y)) (h.rests.closed p))
    (λ n. ap (λ (x : InputOf). closed_at x p) (h.others i (other_number i k n)))

pub empty_tests_none : (old new : WorkerOf) → EmptyTestsNone old new
empty_tests_none old new a zero now h = come_are_untested (pipeline old) (pipeline new) a 0 P.Open h.operator.seen.untested now (empty_comes old new 0 0 h)
empty_tests_none old new a (suc k) now h = λ check. ([], moved_by _ _ (append-nil (untested_of (pipeline old)) ∙ sym same), passed_none a.kind)
  where
    apart : 0 ≢ suc k
    apart e = omega (arith, e)

    same : untested_of (pipeline new) ≡ untested_of (pipeline old)
    same = ap (λ (u : List Row). u ++ at_hand (input_at new.inputs 0)) h.operator.seen.untested ∙ ap (λ (x : InputOf). old.operator.untested ++ at_hand x) (h.others 0 apart)

-- ---- failures

past_all : (xs : List InputOf) (i : ℕ) → length xs ≤ i → input_at xs i ≡ no_input
past_all [] i above = refl
past_all (x ∷ xs) zero above = absurd (omega (arith, above))
past_all (x ∷ xs) (suc i) above = past_all xs i (omega (arith, above))

there_or_past : (n i : ℕ) → (i < n) ⊎ (n ≤ i)
there_or_past zero i = inr (omega arith)
there_or_past (suc n) zero = inl (omega arith)
there_or_past (suc n) (suc i) = elim (there_or_past n i) [ inl low ↦ inl (omega (arith, low)) | inr above ↦ inr (omega (arith, above)) ]

same_stays : (x : InputOf) → InputStays x x
same_stays x = record { from = refl; sends = λ m n p h. h; sent = λ m n p h. h }

pub giving_up_closes_none : (old new : WorkerOf) → GivingUpClosesNone old new
giving_up_closes_none old new i lasts h = elim (there_or_past (length old.inputs) i) [
  | inl low ↦ ((h.inputs i low).stays, (h.inputs i low).closed)
  | inr above ↦
      let e : input_at new.inputs i ≡ input_at old.inputs i = past_all new.inputs i (let c = lasts.count in omega (arith, c, above)) ∙ sym (past_all old.inputs i above) in
      (subst (InputStays (input_at old.inputs i)) (sym e) (same_stays (input_at old.inputs i)), λ p. ap (λ (x : InputOf). closed_at x p) e)
]

-- ---- what lasts

stays_then : (u v w : Way) → Stays u v → Stays v w → Stays u w
stays_then (W.Wire u) (W.Wire v) (W.Wire w) f g = record {
  route = g.route ∙ f.route;
  arity = g.arity ∙ f.arity;
  unit = g.unit ∙ f.unit;
  count = g.count ∙ f.count;
  mailbox = λ k low. g.mailbox k (subst (λ (n : ℕ). k < n) (sym f.count) low) ∙ f.mailbox k low;
}
stays_then (W.Wire u) (W.Wire v) (W.Kept w) f g = absurd g
stays_then (W.Wire u) (W.Kept v) w f g = absurd f
stays_then (W.Kept u) (W.Wire v) w f g = absurd f
stays_then (W.Kept u) (W.Kept v) (W.Wire w) f g = absurd g
stays_then (W.Kept u) (W.Kept v) (W.Kept w) f g = tt

pub lasts_then : (first second third : WorkerOf) → LastsThen first second third
lasts_then first second third f g = record {
  count = g.count ∙ f.count;
  inputs = λ k low. still_then (input_at first.inputs k) (input_at second.inputs k) (input_at third.inputs k) (f.inputs k low) (g.inputs k (subst (λ (n : ℕ). k < n) (sym f.count) low));
  way = stays_then first.output.way second.output.way third.output.way f.way g.way;
  arity = g.arity ∙ f.arity;
  size = g.size ∙ f.size;
  fixed = g.fixed ∙ f.fixed;
  stored = g.stored ∙ f.stored;
  hands = g.hands ∙ f.hands;
  faults = let a = f.faults in let b = g.faults in omega (arith, a, b);
}

-- ---- frames

pub task_has_room : TaskHasRoom
task_has_room memory inputs places partitions few within some = record { goes_on = omega (arith, few, within, some); comes = omega (arith, few, within, some) }

all_none : (xs : List InputOf) → ((k : ℕ) → k < length xs → held (input_at xs k) ≡ 0) → held_inputs xs ≡ 0
all_none [] h = refl
all_none (x ∷ xs) h = let a = h 0 (omega arith) in let b = all_none xs (λ k low. h (suc k) (omega (arith, low))) in omega (arith, a, b)

pub none_is_out : (w : WorkerOf) → NoneIsOut w
none_is_out w bank whole gone =
    let a = whole.out in
    let b = gone.operator in
    let c = gone.output in
    let d = all_none w.inputs (λ k low. let s = whole.spent k low in elim (gone.inputs k low) [ inl e ↦ s.ended_holds_none e | inr g ↦ s.given_up_holds_none g ]) in
    omega (arith, a, b, c, d)

-- ---- at the beginning

pub new_merges_hold_none : NewMergesHoldNone
new_merges_hold_none wire boxes m new = (
  λ s low. ap hand_of (new.sources.each s (there s low)),
  frames_none m.sources (λ s low. ap (λ (x : SourceOf). x.frame) (new.sources.each s (there s low))),
  new.given_up,
)
  where
    there : (s : ℕ) → s < length m.sources → s < length boxes
    there s low = subst (λ (n : ℕ). s < n) new.sources.count low

pub new_inputs_hold_none : NewInputsHoldNone
new_inputs_hold_none (T.One t) partition width none = (record { rows = tt; lone = tt }, not_spent (input_of (T.One t) partition None 0 false) refl, refl, refl)
new_inputs_hold_none (T.Many t) partition width none = (record { rows = tt; lone = tt }, not_spent (input_of (T.Many t) partition None 0 false) refl, refl, refl)
new_inputs_hold_none (T.Merge m) partition width none = (
  record { rows = λ s low. subst (AllRows width) (sym (none.0 s low)) tt; lone = refl },
  not_spent (input_of (T.Merge m) partition None 0 false) none.2,
  none.2,
  (let e = none.1 in omega (arith, e)),
)
