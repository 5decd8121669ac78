-- What is true between calls stays true where one part changes.
use Rattle.std.proofs.Common.{◌≡◌, ◌<◌, ◌≤◌, ◌+◌, ◌^◌, ℕ, nat_eq, Bool, true, false, List, [], ◌∷◌, length, set, None, refl, sym, ap, subst, ◌∙◌, arith, length-set, append-nil}
use Rattle.hy_frame.specs.Bank.{BankOf}
use Rattle.hy_frame.specs.declared.writer.WriterState.TheVariants.{Failed}
use Rattle.hy_rest.specs.Rest.{Continues}
use Rattle.hy_job.proofs.Members.{by_cases, no_bool}
use Rattle.hy_driver.specs.Seen.{Fixed, Seen}
use Rattle.hy_driver.specs.Steps.{HasRoom as OperatorHasRoom, IsBankOf}
use Rattle.hy_driver.specs.declared.phase.Phase.{Phase}
use Rattle.hy_mail.specs.Events.{Event}
use Rattle.hy_connect.specs.declared.writer.Offer.{Offer}
use Rattle.hy_connect.specs.declared.writer.Offer.TheVariants as O
use Rattle.hy_connect.specs.Outlets.{Lent, OutletOf, held_of}
use Rattle.hy_output.specs.declared.way.Way.{Way}
use Rattle.hy_output.specs.declared.way.Way.TheVariants as W
use Rattle.hy_output.specs.Ways.{Stays, TellsOffer, held_by, keeps, most_of, offers, state_of}
use Rattle.hy_output.specs.Outputs.{OutputOf, Packs, held as held_out, output_of, packed}
use Rattle.hy_input.specs.Inputs.{HoldsRows, InputOf, IsStill, has_given_up, held}
use Rattle.hy_input.proofs.Holding.{frame_most, held_most, same_input}
use Rattle.hy_worker.specs.Worker.{HasRoom, IsSpent, IsWhole, Lasts, WorkerOf, ended_at, held_inputs, input_at, most_inputs, worker_of}
use Rattle.hy_worker.specs.Calls.{IsSame, OperatorWent}
use Rattle.hy_worker.proofs.Inputs.{apart_still, by_place, held_least, held_set, held_within, keep_ended, most_same, set_ended, set_still}
use Rattle.hy_connect.proofs.Merging.{other_number, same_number}

-- ---- what goes out

outlets_most : (os : List OutletOf) → held_of os ≤ length os
outlets_most [] = omega arith
outlets_most (o ∷ os) = let h = frame_most o.filling in let g = outlets_most os in omega arith

pub way_most : (w : Way) → held_by w ≤ most_of w
way_most (W.Wire w) = outlets_most w.outlets
way_most (W.Kept k) = omega arith

pub out_most : (o : OutputOf) → held_out o ≤ most_of o.way + 1
out_most o = let h = frame_most o.filling in let g = way_most o.way in omega arith

pub way_same : (w : Way) → Stays w w
way_same (W.Wire w) = record { route = refl; arity = refl; unit = refl; count = refl; mailbox = λ k low. refl }
way_same (W.Kept k) = tt

stays_most : (v w : Way) → Stays v w → most_of w ≡ most_of v
stays_most (W.Wire v) (W.Wire w) s = s.count
stays_most (W.Wire v) (W.Kept w) s = absurd s
stays_most (W.Kept v) (W.Wire w) s = absurd s
stays_most (W.Kept v) (W.Kept w) s = refl

pub same_rest : {F A : Type 0} (rest : List F → List A → Type 0) → Continues rest [] [] rest
same_rest rest = record { back = λ took put g. g }

-- nothing was packed
pub packs_none : (o : OutputOf) → Packs o [] o
packs_none o = record {
  arity = refl;
  unit = refl;
  written = [];
  is = append-nil (packed o);
  way = record { still = way_same o.way; offers = λ k low. same_rest (offers o.way k); keeps = same_rest (keeps o.way); words = λ word far. far };
}

-- ---- the operator

pub same_seen : (s : Seen) → IsSame s s
same_seen s = record {
  rest = same_rest s.rest;
  back = same_rest s.rest;
  sound = λ h. h;
  was_sound = λ h. h;
  ended = λ k. refl;
  phase = refl;
  turns = refl;
  frames = refl;
  untested = refl;
  hands_on = refl;
  store = refl;
  makes = λ took. refl;
  fixed = refl;
}

-- ---- room

module _ (w : WorkerOf) (bank : BankOf) (whole : IsWhole w bank) where
  pub within : held_inputs w.inputs ≤ most_inputs w.inputs
  within = held_within w.inputs (λ k low. held_most (input_at w.inputs k) (w.operator.fixed.width k) (whole.holds k low))

  pub operator_bank : IsBankOf w.operator bank
  operator_bank = record { unit = whole.unit; out = let a = whole.out in omega arith }

  pub operator_room : OperatorHasRoom w.operator bank
  operator_room = let a = whole.out in let b = out_most w.output in let c = within in let d = whole.room.goes_on in omega arith

  pub output_held : held_out w.output ≤ bank.out
  output_held = let a = whole.out in omega arith

  pub inputs_held : held_inputs w.inputs ≤ bank.out
  inputs_held = let a = whole.out in omega arith

  pub input_held : (k : ℕ) → k < length w.inputs → held (input_at w.inputs k) ≤ bank.out
  input_held k low = let a = whole.out in let b = held_least w.inputs k low in omega arith

  pub room_to_finish : bank.out + most_of w.output.way ≤ bank.limit
  room_to_finish = let a = whole.out in let b = out_most w.output in let c = within in let d = whole.room.goes_on in let e = whole.operator in omega arith

  pub room_to_take : bank.out < bank.limit
  room_to_take = let a = whole.out in let b = out_most w.output in let c = within in let d = whole.room.comes in let e = whole.operator in omega arith

  -- ---- one part

  -- the operator was lent the bank
  pub whole_operator : (s' : Seen) (p' : Phase) (st ha : Bool) (bank' : BankOf) → OperatorWent w.operator s' bank bank' → IsWhole (worker_of w.inputs s' w.output w.ended p' st ha) bank'
  whole_operator s' p' st ha bank' o = record {
    unit = o.lent.unit ∙ whole.unit ∙ sym (ap (λ (f : Fixed). f.unit) o.fixed);
    size = whole.size ∙ sym (ap (λ (f : Fixed). f.unit) o.fixed);
    arity = whole.arity ∙ sym (ap (λ (f : Fixed). f.arity) o.fixed);
    out = let a = whole.out in let b = o.lent.out in omega arith;
    operator = subst (λ (f : Fixed). s'.frames ≤ f.memory + 1) (sym o.fixed) o.frames;
    room = subst (λ (f : Fixed). HasRoom f.memory (most_inputs w.inputs) (most_of w.output.way) bank'.limit) (sym o.fixed)
        (subst (HasRoom w.operator.fixed.memory (most_inputs w.inputs) (most_of w.output.way)) (sym o.lent.limit) whole.room);
    few = whole.few;
    counted = whole.counted;
    holds = λ k low. subst (λ (f : Fixed). HoldsRows (input_at w.inputs k) (f.width k)) (sym o.fixed) (whole.holds k low);
    spent = whole.spent;
    apart = whole.apart;
    packed = whole.packed;
  }

  -- so was the output
  pub whole_output : (o' : OutputOf) (p' : Phase) (bank' : BankOf) → o'.arity ≡ w.output.arity → o'.unit ≡ w.output.unit → Stays w.output.way o'.way → (state_of o'.way ≡ Failed → o'.filling ≡ None)
      → Lent (held_out w.output) (held_out o') bank bank' → IsWhole (worker_of w.inputs w.operator o' w.ended p' w.stored w.hands) bank'
  whole_output o' p' bank' arity unit stays packs lent = record {
    unit = lent.unit ∙ whole.unit;
    size = unit ∙ whole.size;
    arity = arity ∙ whole.arity;
    out = let a = whole.out in let b = lent.out in omega arith;
    operator = whole.operator;
    room = subst (HasRoom w.operator.fixed.memory (most_inputs w.inputs) (most_of o'.way)) (sym lent.limit)
        (subst (λ (m : ℕ). HasRoom w.operator.fixed.memory (most_inputs w.inputs) m bank.limit) (sym (stays_most w.output.way o'.way stays)) whole.room);
    few = whole.few;
    counted = whole.counted;
    holds = whole.holds;
    spent = whole.spent;
    apart = whole.apart;
    packed = packs;
  }

  -- so was an input
  pub whole_input : (k : ℕ) → k < length w.inputs → (x' : InputOf) (bank' : BankOf) → IsStill (input_at w.inputs k) x' → HoldsRows x' (w.operator.fixed.width k) → IsSpent (ended_at w.ended k) x'
      → Lent (held (input_at w.inputs k)) (held x') bank bank' → IsWhole (worker_of (set w.inputs k x') w.operator w.output w.ended w.phase w.stored w.hands) bank'
  whole_input k low x' bank' still holds spent lent = record {
    unit = lent.unit ∙ whole.unit;
    size = whole.size;
    arity = whole.arity;
    out = let a = whole.out in let b = lent.out in let c = held_set w.inputs k x' low in omega arith;
    operator = whole.operator;
    room = subst (HasRoom w.operator.fixed.memory (most_inputs (set w.inputs k x')) (most_of w.output.way)) (sym lent.limit)
        (subst (λ (m : ℕ). HasRoom w.operator.fixed.memory m (most_of w.output.way) bank.limit) (sym (most_same w.inputs (set w.inputs k x') count stays)) whole.room);
    few = subst (λ (c : ℕ). c < 2 ^ 32) (sym count) whole.few;
    counted = whole.counted ∙ sym count;
    holds = λ j there. by_place w.inputs k x' low (λ i y. i < length w.inputs → HoldsRows y (w.operator.fixed.width i)) (λ l. holds) (λ i ne l. whole.holds i l) j (subst (λ (c : ℕ). j < c) count there);
    spent = λ j there. by_place w.inputs k x' low (λ i y. i < length w.inputs → IsSpent (ended_at w.ended i) y) (λ l. spent) (λ i ne l. whole.spent i l) j (subst (λ (c : ℕ). j < c) count there);
    apart = apart_still w.inputs (set w.inputs k x') count stays whole.apart;
    packed = whole.packed;
  }
    where
      count : length (set w.inputs k x') ≡ length w.inputs
      count = length-set w.inputs k x'

      stays : (j : ℕ) → j < length w.inputs → IsStill (input_at w.inputs j) (input_at (set w.inputs k x') j)
      stays j there = set_still w.inputs k x' low still j

  -- an input that brings nothing any more was ended
  pub whole_ended : (k : ℕ) → k < length w.inputs → IsSpent true (input_at w.inputs k) → IsWhole (worker_of w.inputs w.operator w.output (set w.ended k true) w.phase w.stored w.hands) bank
  whole_ended k low spent = record {
    unit = whole.unit;
    size = whole.size;
    arity = whole.arity;
    out = whole.out;
    operator = whole.operator;
    room = whole.room;
    few = whole.few;
    counted = length-set w.ended k true ∙ whole.counted;
    holds = whole.holds;
    spent = λ j there. by_cases (nat_eq j k)
        (λ y. subst (λ (i : ℕ). IsSpent (ended_at (set w.ended k true) i) (input_at w.inputs i)) (sym (same_number j k y))
        (subst (λ (b : Bool). IsSpent b (input_at w.inputs k)) (sym (set_ended w.ended k (subst (λ (c : ℕ). k < c) (sym whole.counted) low))) spent))
        (λ n. subst (λ (b : Bool). IsSpent b (input_at w.inputs j)) (sym (keep_ended w.ended k j (other_number j k n))) (whole.spent j there));
    apart = whole.apart;
    packed = whole.packed;
  }

-- what takes rows, and is not ended, is spent where it was given up and holds nothing
pub not_spent : (x : InputOf) → has_given_up x ≡ false → IsSpent false x
not_spent x going = record {
  done = λ e. absurd (no_bool (sym e));
  ended_holds_none = λ e. absurd (no_bool (sym e));
  given_up_holds_none = λ e. absurd (no_bool (sym e ∙ going));
}

-- ---- what no call changes

pub lasts_output : (w : WorkerOf) (o' : OutputOf) (p' : Phase) → o'.arity ≡ w.output.arity → o'.unit ≡ w.output.unit → Stays w.output.way o'.way → Lasts w (worker_of w.inputs w.operator o' w.ended p' w.stored w.hands)
lasts_output w o' p' arity unit stays = record {
  count = refl;
  inputs = λ k low. same_input (input_at w.inputs k);
  way = stays;
  arity = arity;
  size = unit;
  fixed = refl;
  stored = refl;
  hands = refl;
  faults = omega arith;
}

pub lasts_operator : (w : WorkerOf) (s' : Seen) (o' : OutputOf) (p' : Phase) (st ha : Bool) → s'.fixed ≡ w.operator.fixed → w.operator.store.faults ≤ s'.store.faults → st ≡ w.stored → ha ≡ w.hands
    → o'.arity ≡ w.output.arity → o'.unit ≡ w.output.unit → Stays w.output.way o'.way → Lasts w (worker_of w.inputs s' o' w.ended p' st ha)
lasts_operator w s' o' p' st ha fixed faults stored hands arity unit stays = record {
  count = refl;
  inputs = λ k low. same_input (input_at w.inputs k);
  way = stays;
  arity = arity;
  size = unit;
  fixed = fixed;
  stored = stored;
  hands = hands;
  faults = faults;
}

pub lasts_input : (w : WorkerOf) (k : ℕ) (x' : InputOf) (s' : Seen) (ended' : List Bool) (p' : Phase) (st ha : Bool) → k < length w.inputs → IsStill (input_at w.inputs k) x' → s'.fixed ≡ w.operator.fixed
    → w.operator.store.faults ≤ s'.store.faults → st ≡ w.stored → ha ≡ w.hands → Lasts w (worker_of (set w.inputs k x') s' w.output ended' p' st ha)
lasts_input w k x' s' ended' p' st ha low still fixed faults stored hands = record {
  count = length-set w.inputs k x';
  inputs = λ j there. set_still w.inputs k x' low still j;
  way = way_same w.output.way;
  arity = refl;
  size = refl;
  fixed = fixed;
  stored = stored;
  hands = hands;
  faults = faults;
}

-- ---- offers

offer_stays : {P : Type 0} (happens : P → Event → P → Type 0) (port port' : P) (v w : Way) (result : Offer) → TellsOffer happens port port' v w result → Stays v w × (state_of w ≡ state_of v)
offer_stays happens port port' v w O.Nothing t = (subst (Stays v) (sym t.1) (way_same v), ap state_of t.1)
offer_stays happens port port' v w O.Put t = (t.2.still, t.2.state)
offer_stays happens port port' v w O.Full t = (subst (Stays v) (sym t.3) (way_same v), ap state_of t.3)

pub whole_offer : {P : Type 0} (happens : P → Event → P → Type 0) (port port' : P) (w : WorkerOf) (bank : BankOf) → IsWhole w bank → (o' : OutputOf) (result : Offer) → TellsOffer happens port port' w.output.way o'.way result
    → o' ≡ output_of w.output.arity w.output.unit w.output.filling o'.way → held_out o' ≡ held_out w.output → IsWhole (worker_of w.inputs w.operator o' w.ended w.phase w.stored w.hands) bank
whole_offer happens port port' w bank whole o' result told rest same =
    let s = offer_stays happens port port' w.output.way o'.way result told in
    whole_output w bank whole o' w.phase bank (ap (λ (o : OutputOf). o.arity) rest) (ap (λ (o : OutputOf). o.unit) rest) s.0
    (λ f. ap (λ (o : OutputOf). o.filling) rest ∙ whole.packed (sym s.1 ∙ f))
    (record { out = omega (arith, same); unit = refl; limit = refl })
