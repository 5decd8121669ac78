-- The rows that a driver of one input receives.
use Rattle.std.proofs.Common.{◌≡◌, ℕ, nat_eq, Bool, true, false, true≢false, cond, List, [], ◌∷◌, ◌++◌, map, filter, refl, sym, ap, ◌∙◌, inl, inr}
use Rattle.std.proofs.lemmas.Bool.{cases_Bool}
use Rattle.std.proofs.lemmas.List.{map-append}
use Rattle.std.proofs.lemmas.List.Elements.{filter-append}
use Rattle.hy_driver.specs.Rows.{Row, Fed}
use Rattle.hy_driver.specs.Forms.{may_come, one_ended}
use Rattle.hy_job.specs.Drivers.{received_of}

pub is_first : (ended : Bool) (input : ℕ) → one_ended ended input ≡ false → nat_eq input 0 ≡ true
is_first ended input going = elim (cases_Bool (nat_eq input 0)) [ inl y ↦ y | inr n ↦ absurd (true≢false (sym (other n) ∙ going)) ]
  where
    other : nat_eq input 0 ≡ false → one_ended ended input ≡ true
    other n = rw n refl

-- a row of the first input is received there
pub received_one : (input : ℕ) (row : Row) (took : List Fed) → nat_eq input 0 ≡ true → received_of ((input, row) ∷ took) 0 ≡ row ∷ received_of took 0
received_one input row took first = ap (λ b. map (λ (x : Fed). x.1) (cond b ((input, row) ∷ filter (λ x. nat_eq x.0 0) took) (filter (λ x. nat_eq x.0 0) took))) first

-- all rows that come are received there
pub all_received : (ended : Bool) (width : ℕ → ℕ) (took : List Fed) → may_come (one_ended ended) width took → received_of took 0 ≡ map (λ x. x.1) took
all_received ended width [] h = refl
all_received ended width (x ∷ took) h = received_one x.0 x.1 took (is_first ended x.0 h.0.0) ∙ ap (λ r. x.1 ∷ r) (all_received ended width took h.1)

pub received_append : (took more : List Fed) → received_of (took ++ more) 0 ≡ received_of took 0 ++ received_of more 0
received_append took more =
    ap (map (λ (x : Fed). x.1)) (filter-append (λ (x : Fed). nat_eq x.0 0) took more) ∙ map-append (λ (x : Fed). x.1) (filter (λ x. nat_eq x.0 0) took) (filter (λ x. nat_eq x.0 0) more)
