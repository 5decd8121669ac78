-- What the passes of a port know after each step: what was put and what was taken, in order.
use Rattle.std.specs.Prelude.{◌≡◌, ◌==◌, ℕ, List, [], ◌∷◌, ◌++◌, if◌then◌else◌}
use Rattle.hy_mail.specs.declared.parcel.Parcel.{Parcel}
use Rattle.hy_mail.specs.declared.parcel.Posted.{Posted}
use Rattle.hy_mail.specs.Events.{Event, Put, Took, Raise, Look, Full, Empty}
use Rattle.hy_mail.specs.Passes.{SendState, TakeState}
use Rattle.hy_mail.specs.Seated.{PortState, PortStep, first_at}

-- what the port's pass for this mailbox put, and took
abbrev pub put_into : PortState → ℕ → List Parcel
put_into p m = first_at (λ (s : SendState). s.put) [] p.sends m

abbrev pub taken_from : PortState → ℕ → List Posted
taken_from p m = first_at (λ (t : TakeState). t.took) [] p.takes m

abbrev pub put_after : Event → ℕ → List Parcel → List Parcel
put_after (Put k x) m put = if k == m then put ++ x ∷ [] else put
put_after (Took k from x) m put = put
put_after Raise m put = put
put_after (Look seen) m put = put
put_after (Full k) m put = put
put_after (Empty k) m put = put

abbrev pub taken_after : Event → ℕ → List Posted → List Posted
taken_after (Put k x) m took = took
taken_after (Took k from x) m took = if k == m then took ++ record { from = from; parcel = x } ∷ [] else took
taken_after Raise m took = took
taken_after (Look seen) m took = took
taken_after (Full k) m took = took
taken_after (Empty k) m took = took

abbrev pub PassesKnowPuts : Type 0
PassesKnowPuts = (p q : PortState) (e : Event) (m : ℕ) → PortStep p e q → put_into q m ≡ put_after e m (put_into p m)

abbrev pub PassesKnowTakes : Type 0
PassesKnowTakes = (p q : PortState) (e : Event) (m : ℕ) → PortStep p e q → taken_from q m ≡ taken_after e m (taken_from p m)
