-- Whose Close was taken, where every sender's was.
use Rattle.std.proofs.Common.{◌≡◌, ◌<◌, ℕ, nat_eq, nat_lt, true, false, length, slice_index_or, subst, sym, arith}
use Rattle.std.proofs.lemmas.Bool.{lt-ltb}
use Rattle.hy_job.proofs.Members.{nat_same}
use Rattle.hy_connect.specs.Merges.{senders, source}
use Rattle.hy_input.specs.declared.taker.Taker.{Taker}
use Rattle.hy_input.specs.declared.taker.Taker.TheVariants as T
use Rattle.hy_input.specs.Inputs.{HasEnded, InputOf, IsDone, IsSent, closed_at, closed_by, done_by, ended_by, hand, sends_by}
use Rattle.hy_input.proofs.Bringing.{known, true_and}

closed_of : (t : Taker) (from : ℕ) → ended_by t → (m n p : ℕ) → sends_by t from m n p → closed_by t from p ≡ true
closed_of (T.One t) from h m n p s =
    let low : 0 < length t.closed = (let lt = s.1 in omega (arith, lt)) in
    true_and (nat_eq p from) (slice_index_or t.closed 0 false) (subst (λ (q : ℕ). nat_eq q from ≡ true) (sym s.2) (nat_same from)) (known t.closed 0 low (h 0 low))
closed_of (T.Many t) from h m n p s =
    let low : p < length t.closed = subst (λ (q : ℕ). q < length t.closed) (sym s.2) s.1 in
    known t.closed p low (h p low)
closed_of (T.Merge g) from h m n p s = true_and (nat_lt p (senders g)) (source g p).closed (lt-ltb p (senders g) s.0) (h p s.0)

pub ended_closed : (x : InputOf) → HasEnded x → (m n p : ℕ) → IsSent x m n p → closed_at x p ≡ true
ended_closed x h m n p s = closed_of x.taker x.from h m n p s

ended_of : (t : Taker) (x : InputOf) → done_by t (hand x) → ended_by t
ended_of (T.One t) x h = h.0
ended_of (T.Many t) x h = h.0
ended_of (T.Merge g) x h = h.0

pub done_ended : (x : InputOf) → IsDone x → HasEnded x
done_ended x h = ended_of x.taker x h
