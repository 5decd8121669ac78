-- What comes at one of several inputs.
use Rattle.std.proofs.Common.{◌≡◌, ◌<◌, inl, inr, ℕ, Bool, true, false, length, set, get_or, refl, sym, subst, ◌∙◌, length-set}
use Rattle.hy_frame.specs.Bank.{BankOf}
use Rattle.hy_frame.specs.Frame.{FrameOf}
use Rattle.hy_job.proofs.Members.{by_cases, no_bool}
use Rattle.hy_mail.specs.declared.parcel.Parcel.{Parcel}
use Rattle.hy_mail.specs.declared.parcel.Parcel.TheVariants as V
use Rattle.hy_mail.specs.Events.{Event}
use Rattle.hy_connect.specs.Outlets.{Lent}
use Rattle.hy_input.specs.declared.input.Came.{Came}
use Rattle.hy_input.specs.declared.input.Came.TheVariants as C
use Rattle.hy_input.specs.Inputs.{Closes, ComesAs, Gets, HoldsRows, InputOf, IsStill, Rests, Stays, TellsBank, TellsCame, TellsRows, Wants, closed_at, has_given_up, held}
use Rattle.hy_input.proofs.Holding.{came_given_up, done_wants}
use Rattle.hy_pipeline.specs.Laws.{TakesParcel}
use Rattle.hy_pipeline.specs.Tasks.{ClosesBy}
use Rattle.hy_worker.specs.Worker.{IsInStep, IsSpent, IsWhole, WorkerOf, ended_at, input_at, pipeline, worker_of}
use Rattle.hy_worker.specs.Calls.{OperatorStays, TellsTook, TookOne}
use Rattle.hy_worker.proofs.Inputs.{keep_input, read_input, set_input}
use Rattle.hy_worker.proofs.Keeping.{same_rest, same_seen, whole_input}
use Rattle.hy_worker.proofs.Working.{going_on, lent_back}

rows_get : (f : FrameOf) (p : ℕ) (x y : InputOf) (b : Bool) → b ≡ false → TellsRows f p x y b → Gets f p x y
rows_get f p x y true e h = absurd (no_bool e)
rows_get f p x y false e h = h

rows_stay : (f : FrameOf) (p : ℕ) (x y : InputOf) (b : Bool) → TellsRows f p x y b → Stays x y
rows_stay f p x y true h = h.stays
rows_stay f p x y false h = h.stays

rows_close : (f : FrameOf) (p : ℕ) (x y : InputOf) (b : Bool) → TellsRows f p x y b → (q : ℕ) → closed_at y q ≡ closed_at x q
rows_close f p x y true h = h.closed
rows_close f p x y false h = h.closed

pub same_operator : (w : WorkerOf) → OperatorStays w w
same_operator w = record { seen = same_seen w.operator; phase = refl; ended = refl }

module _ {P : Type 0} (happens : P → Event → P → Type 0) (port port' : P) (bank0 : BankOf) (w : WorkerOf) (k : ℕ) (x' : InputOf) (low : k < length w.inputs) where
  abbrev behind : WorkerOf
  behind = worker_of (set w.inputs k x') w.operator w.output w.ended w.phase w.stored w.hands

  here : input_at (set w.inputs k x') k ≡ x'
  here = set_input w.inputs k x' low

  -- what is said of the new one is said of it in its place
  placed : (Q : InputOf → Type 0) → Q x' → Q (input_at (set w.inputs k x') k)
  placed Q h = subst Q (sym here) h

  took_one : (p : ℕ) (parcel : Parcel) → Stays (input_at w.inputs k) x' → (has_given_up (input_at w.inputs k) ≡ false → TakesParcel k p parcel (pipeline w) (pipeline behind)) → ClosesBy k p parcel (pipeline w) (pipeline behind)
      → has_given_up x' ≡ has_given_up (input_at w.inputs k) → TookOne k p parcel w behind
  took_one p parcel stays takes closes up = record {
    others = λ i ne. keep_input w.inputs k i x' ne;
    comes = λ going. record { others = λ i ne. keep_input w.inputs k i x' ne; takes = takes going; works = same_rest w.operator.rest; output = refl };
    stays = placed (Stays (input_at w.inputs k)) stays;
    closes = closes;
    given_up = placed (λ (y : InputOf). has_given_up y ≡ has_given_up (input_at w.inputs k)) up;
    operator = record { seen = same_seen w.operator; phase = refl; ended = refl };
    output = refl;
  }

  pub took_told : (came : Came) → TellsCame happens port port' (input_at w.inputs k) x' came → TellsTook happens port port' k w behind came
  took_told C.Empty t = (
    t.0,
    t.1,
    t.2,
    t.3,
    record {
      others = λ i ne. keep_input w.inputs k i x' ne;
      rests = placed (Rests (input_at w.inputs k)) t.4;
      operator = record { seen = same_seen w.operator; phase = refl; ended = refl };
      output = refl;
    },
    t.5,
  )
  took_told C.Rows t = (
    t.0,
    t.1,
    t.2,
    V.Frame t.3,
    t.4,
    tt,
    took_one t.2 (V.Frame t.3) (rows_stay t.3 t.2 (input_at w.inputs k) x' (has_given_up (input_at w.inputs k)) t.5) (λ going. placed (Gets t.3 t.2 (input_at w.inputs k)) (rows_get t.3 t.2 (input_at w.inputs k) x' (has_given_up (input_at w.inputs k)) going t.5))
        (λ q. placed (λ (y : InputOf). closed_at y q ≡ closed_at (input_at w.inputs k) q) (rows_close t.3 t.2 (input_at w.inputs k) x' (has_given_up (input_at w.inputs k)) t.5 q))
        (came_given_up happens port port' bank0 bank0 (input_at w.inputs k) x' C.Rows t),
    t.6,
  )
  took_told C.Word t = elim t.4 [
    | inl o ↦ (
      t.0,
      t.1,
      t.2,
      V.Open,
      t.3,
      tt,
      took_one t.2 V.Open o.0.stays (λ going. placed (Rests (input_at w.inputs k)) o.0) (λ q. placed (λ (y : InputOf). closed_at y q ≡ closed_at (input_at w.inputs k) q) (o.0.closed q)) o.0.given_up,
      o.1,
    )
    | inr o ↦ (t.0, t.1, t.2, V.Close, t.3, tt, took_one t.2 V.Close o.0.stays (λ going. placed (Closes t.2 (input_at w.inputs k)) o.0) (placed (Closes t.2 (input_at w.inputs k)) o.0) o.0.given_up, o.1)
  ]
  took_told C.Failed t = (
    t.0,
    t.1,
    t.2,
    V.Fail,
    t.3,
    tt,
    took_one t.2 V.Fail t.4.stays (λ going. placed (Rests (input_at w.inputs k)) t.4) (λ q. placed (λ (y : InputOf). closed_at y q ≡ closed_at (input_at w.inputs k) q) (t.4.closed q)) t.4.given_up,
    t.5,
  )

-- ---- the bank

lent_came : (a b : ℕ) (bank bank' : BankOf) (came : Came) → TellsBank a b bank bank' came → Lent a b bank bank'
lent_came a b bank bank' C.Empty r = lent_back a b bank bank' r
lent_came a b bank bank' C.Rows r = record { out = r.out; unit = r.unit; limit = r.limit }
lent_came a b bank bank' C.Word r = lent_back a b bank bank' r
lent_came a b bank bank' C.Failed r = lent_back a b bank bank' r

-- one that is spent wants nothing, or gives back what comes
spent_took : (e : Bool) (x x' : InputOf) → IsSpent e x → Wants x → has_given_up x' ≡ has_given_up x → (has_given_up x ≡ true → held x ≡ 0 → held x' ≡ 0) → IsSpent e x'
spent_took e x x' s wants up none = record {
  done = λ y n. absurd (done_wants x (s.done y (sym up ∙ n)) wants);
  ended_holds_none = λ y. by_cases (has_given_up x) (λ g. none g (s.given_up_holds_none g)) (λ n. absurd (done_wants x (s.done y n) wants));
  given_up_holds_none = λ g. let h = sym up ∙ g in none h (s.given_up_holds_none h);
}

module _ {P : Type 0} (happens : P → Event → P → Type 0) (arity : ℕ → ℕ) (port port' : P) (w : WorkerOf) (bank bank' : BankOf) (k : ℕ) (d x' : InputOf) (came : Came) (low : k < length w.inputs) (is : d ≡ get_or w.inputs k d)
    (told : TellsCame happens port port' d x' came) where
  same : d ≡ input_at w.inputs k
  same = is ∙ read_input w.inputs k d low

  pub call_took : TellsTook happens port port' k w (worker_of (set w.inputs k x') w.operator w.output w.ended w.phase w.stored w.hands) came
  call_took = took_told happens port port' bank w k x' low came (subst (λ (y : InputOf). TellsCame happens port port' y x' came) same told)

  up : has_given_up x' ≡ has_given_up (input_at w.inputs k)
  up = subst (λ (y : InputOf). has_given_up x' ≡ has_given_up y) same (came_given_up happens port port' bank bank' d x' came told)

  pub call_whole : IsWhole w bank → Wants (input_at w.inputs k) → ComesAs arity (input_at w.inputs k) (w.operator.fixed.width k) → IsStill d x' → ((width : ℕ) → ComesAs arity d width → HoldsRows d width → HoldsRows x' width)
      → (has_given_up d ≡ true → held d ≡ 0 → held x' ≡ 0) → TellsBank (held d) (held x') bank bank' came → IsWhole (worker_of (set w.inputs k x') w.operator w.output w.ended w.phase w.stored w.hands) bank'
  call_whole whole wants comes still rows none moved = whole_input w bank whole k low x' bank' (subst (λ (y : InputOf). IsStill y x') same still)
      (subst (λ (y : InputOf). ComesAs arity y (w.operator.fixed.width k) → HoldsRows y (w.operator.fixed.width k) → HoldsRows x' (w.operator.fixed.width k)) same (rows (w.operator.fixed.width k)) comes (whole.holds k low))
      (spent_took (ended_at w.ended k) (input_at w.inputs k) x' (whole.spent k low) wants up (subst (λ (y : InputOf). has_given_up y ≡ true → held y ≡ 0 → held x' ≡ 0) same none))
      (subst (λ (y : InputOf). Lent (held y) (held x') bank bank') same (lent_came (held d) (held x') bank bank' came moved))

  pub call_step : IsInStep w → IsInStep (worker_of (set w.inputs k x') w.operator w.output w.ended w.phase w.stored w.hands)
  call_step step = record {
    phase = step.phase;
    ended = λ j there. step.ended j (subst (λ (n : ℕ). j < n) (length-set w.inputs k x') there);
    going = λ j there. going_on w k x' low step.going up j (subst (λ (n : ℕ). j < n) (length-set w.inputs k x') there);
  }
