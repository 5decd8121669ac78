-- All inputs are given up.
use Rattle.std.proofs.Common.{◌≡◌, ◌⊎◌, ◌<◌, ◌≤◌, ◌+◌, ◌^◌, inl, inr, ℕ, Bool, List, length, set, get_or, refl, sym, ap, subst, ◌∙◌, arith, length-set}
use Rattle.hy_frame.specs.Bank.{BankOf}
use Rattle.hy_job.proofs.Members.{no_bool}
use Rattle.hy_connect.specs.Outlets.{Lent}
use Rattle.hy_connect.specs.Sources.{Returns}
use Rattle.hy_connect.proofs.Fronts.{last_or_before}
use Rattle.hy_driver.specs.Seen.{Seen}
use Rattle.hy_driver.specs.Steps.{GivesUp as OperatorGivesUp, Lent as LentOperator}
use Rattle.hy_driver.specs.declared.phase.Phase.{Phase}
use Rattle.hy_output.specs.Ways.{most_of}
use Rattle.hy_input.specs.Inputs.{InputOf, IsStill, held}
use Rattle.hy_worker.specs.Worker.{HasRoom, IsSpent, IsWhole, WorkerOf, ended_at, held_inputs, input_at, most_inputs, worker_of}
use Rattle.hy_worker.specs.Calls.{GaveUp, GaveUpBefore, GaveUpOne, OperatorWent}
use Rattle.hy_worker.proofs.Inputs.{apart_still, held_least, held_set, keep_input, most_same, read_input, set_input}
use Rattle.hy_worker.proofs.Keeping.{whole_operator}

pub gave_none : (xs : List InputOf) → GaveUpBefore 0 xs xs
gave_none xs = record { count = refl; done = λ k low there. absurd (omega arith); left = λ k low. refl }

gave_here : (n k : ℕ) (xs ys : List InputOf) (x : InputOf) → n < length ys → GaveUpBefore n xs ys → GaveUpOne (input_at ys n) x → k < length xs → (k ≡ n) ⊎ (k < n) → GaveUpOne (input_at xs k) (input_at (set ys n x) k)
gave_here n k xs ys x low h gave there (inl e) =
    subst (λ (j : ℕ). GaveUpOne (input_at xs j) (input_at (set ys n x) j)) (sym e)
    (subst (GaveUpOne (input_at xs n)) (sym (set_input ys n x low))
    (subst (λ (y : InputOf). GaveUpOne y x) (h.left n (omega arith)) gave))
gave_here n k xs ys x low h gave there (inr before) =
    subst (GaveUpOne (input_at xs k)) (sym (keep_input ys n k x (λ e. absurd (omega arith)))) (h.done k before there)

pub gave_more : (n : ℕ) (xs ys : List InputOf) (x : InputOf) → n < length ys → GaveUpBefore n xs ys → GaveUpOne (input_at ys n) x → GaveUpBefore (n + 1) xs (set ys n x)
gave_more n xs ys x low h gave = record {
  count = length-set ys n x ∙ h.count;
  done = λ k before there. gave_here n k xs ys x low h gave there (last_or_before k n before);
  left = λ k above. keep_input ys n k x (λ e. absurd (omega arith)) ∙ h.left k (omega arith);
}

pub gave_all : (n : ℕ) (xs ys : List InputOf) → length xs ≤ n → GaveUpBefore n xs ys → GaveUp xs ys
gave_all n xs ys above h = record { count = h.count; each = λ k low. h.done k (omega arith) low }

pub place_held : (xs : List InputOf) (k n : ℕ) (d : InputOf) → k < length xs → d ≡ get_or xs k d → held_inputs xs ≤ n → held d ≤ n
place_held xs k n d low is le =
    let h = held_least xs k low in
    subst (λ (x : InputOf). held x ≤ n) (sym (is ∙ read_input xs k d low)) (omega arith)

pub gave_next : (xs ys : List InputOf) (n : ℕ) (d x : InputOf) (a b c : BankOf) → n < length ys → d ≡ get_or ys n d → GaveUpBefore n xs ys × Lent (held_inputs xs) (held_inputs ys) a b → GaveUpOne d x → Returns (held d) 0 b c
    → GaveUpBefore (n + 1) xs (set ys n x) × Lent (held_inputs xs) (held_inputs (set ys n x)) a c
gave_next xs ys n d x a b c low is h gave back =
    let same : d ≡ input_at ys n = is ∙ read_input ys n d low in
    let here = subst (λ (y : InputOf). GaveUpOne y x) same gave in (
      gave_more n xs ys x low h.0 here,
      record {
        out = let o = back.out in let p = h.1.out in let q = held_set ys n x low in let r = gave.gives_up.held in let s : held d ≡ held (input_at ys n) = ap held same in omega arith;
        unit = back.unit ∙ h.1.unit;
        limit = back.limit ∙ h.1.limit;
      },
    )

-- ---- what is true between calls

gave_spent : (e : Bool) (x y : InputOf) → GaveUpOne x y → IsSpent e y
gave_spent e x y g = record {
  done = λ t f. absurd (no_bool (sym g.gives_up.given_up ∙ f));
  ended_holds_none = λ t. g.gives_up.held;
  given_up_holds_none = λ t. g.gives_up.held;
}

module _ (w : WorkerOf) (bank bank1 bank2 : BankOf) (s' : Seen) (ys : List InputOf) (p' : Phase) (st ha : Bool) (whole : IsWhole w bank) (gives : OperatorGivesUp w.operator s') (lent : LentOperator w.operator s' bank bank1)
    (fixed : s'.fixed ≡ w.operator.fixed) (faults : w.operator.store.faults ≤ s'.store.faults) where
  went : OperatorWent w.operator s' bank bank1
  went = record { lent = lent; frames = let z = gives.frames in omega arith; fixed = fixed; faults = faults }

  -- the operator was given up
  pub operator_gave : IsWhole (worker_of w.inputs s' w.output w.ended p' st ha) bank1
  operator_gave = whole_operator w bank whole s' p' st ha bank1 went

  -- so were the inputs
  module _ (gave : GaveUp w.inputs ys) (back : Lent (held_inputs w.inputs) (held_inputs ys) bank1 bank2) where
    stays : (k : ℕ) → k < length w.inputs → IsStill (input_at w.inputs k) (input_at ys k)
    stays k low = (gave.each k low).still

    pub inputs_gave : IsWhole (worker_of ys s' w.output w.ended p' st ha) bank2
    inputs_gave = record {
      unit = back.unit ∙ operator_gave.unit;
      size = operator_gave.size;
      arity = operator_gave.arity;
      out = let a = operator_gave.out in let b = back.out in omega arith;
      operator = operator_gave.operator;
      room = subst (λ (l : ℕ). HasRoom s'.fixed.memory (most_inputs ys) (most_of w.output.way) l) (sym back.limit)
          (subst (λ (m : ℕ). HasRoom s'.fixed.memory m (most_of w.output.way) bank1.limit) (sym (most_same w.inputs ys gave.count stays)) operator_gave.room);
      few = subst (λ (c : ℕ). c < 2 ^ 32) (sym gave.count) whole.few;
      counted = whole.counted ∙ sym gave.count;
      holds = λ k low. let there = subst (λ (n : ℕ). k < n) gave.count low in (gave.each k there).holds (s'.fixed.width k) (operator_gave.holds k there);
      spent = λ k low. let there = subst (λ (n : ℕ). k < n) gave.count low in gave_spent (ended_at w.ended k) (input_at w.inputs k) (input_at ys k) (gave.each k there);
      apart = apart_still w.inputs ys gave.count stays whole.apart;
      packed = whole.packed;
    }
