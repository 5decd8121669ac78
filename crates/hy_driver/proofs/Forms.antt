-- Steps of drivers whose rest has one of the forms.
use Rattle.std.proofs.Common.{◌↔◌, ◌≡◌, ◌==◌, ℕ, Bool, true, false, true≢false, List, [], ◌∷◌, ◌++◌, map, refl, sym, subst, ◌∙◌, inl, inr, append-nil, Option, None}
use Rattle.std.proofs.lemmas.Bool.{cases_Bool}
use Rattle.std.specs.List.Sorted.{IsPermutation}
use Rattle.std.proofs.lemmas.List.Sorted.{IsPermutation-refl}
use Rattle.hy_rest.specs.Rest.{Continues, Alive, AnyOrder}
use Rattle.hy_rest.proofs.Rest.{in_order_continues, free_continues, held_continues}
use Rattle.hy_driver.specs.Rows.{Row, Fed}
use Rattle.hy_driver.specs.Seen.{Check, Fixed}
use Rattle.hy_driver.specs.Forms.{may_come, in_order, free, free_for_each, one_ended, storeless}
use Rattle.hy_driver.specs.Steps.{Steps, Tested}
use Rattle.hy_driver.specs.declared.phase.Phase.{Phase}

-- ---- what may come

-- no input is open that was not
abbrev pub EndsMore : (ℕ → Bool) → (ℕ → Bool) → Type 0
EndsMore ended ended' = (k : ℕ) → ended' k ≡ false → ended k ≡ false

pub ends_none : (ended : ℕ → Bool) → EndsMore ended ended
ends_none ended k h = h

pub all_ended : (input : ℕ) → one_ended true input ≡ true
all_ended input = elim (cases_Bool (input == 0)) [ inl y ↦ rw y refl | inr n ↦ rw n refl ]

pub ends_one : (ended : Bool) → EndsMore (one_ended ended) (one_ended true)
ends_one ended k h = absurd (true≢false (sym (all_ended k) ∙ h))

pub come_from : (ended ended' : ℕ → Bool) (width : ℕ → ℕ) → EndsMore ended ended' → (took : List Fed) → may_come ended' width took → may_come ended width took
come_from ended ended' width less [] h = tt
come_from ended ended' width less (x ∷ took) h = ((less x.0 h.0.0, h.0.1, h.0.2), come_from ended ended' width less took h.1)

pub come_behind : (ended : ℕ → Bool) (width : ℕ → ℕ) (fed took : List Fed) → may_come ended width fed → may_come ended width took → may_come ended width (fed ++ took)
come_behind ended width [] took g h = h
come_behind ended width (x ∷ fed) took g h = (g.0, come_behind ended width fed took g.1 h)

pub none_comes : (ended : ℕ → Bool) (width : ℕ → ℕ) → ((input : ℕ) → ended input ≡ true) → (took : List Fed) → may_come ended width took → took ≡ []
none_comes ended width all [] h = refl
none_comes ended width all (x ∷ took) h = absurd (true≢false (sym (all x.0) ∙ h.0.0))

-- ---- steps

module _ (ended ended' : ℕ → Bool) (width : ℕ → ℕ) (fed : List Fed) (less : EndsMore ended ended') (may : may_come ended width fed) where
  comes : (took : List Fed) → may_come ended' width took → may_come ended width (fed ++ took)
  comes took h = come_behind ended width fed took may (come_from ended ended' width less took h)

  module _ (owed owed' : List Row) (held held' : List Fed) (sent : List Row) (out out' : List Fed → List Row → Type 0) where
    -- in order: whatever the output is after the step, before it it was that output behind what the step adds
    pub ordered : ((took : List Fed) (rest : List Row) → may_come ended' width took → out' (held' ++ took) rest → (old : List Row) × out (held ++ (fed ++ took)) old × (owed ++ old ≡ sent ++ (owed' ++ rest)))
        → Continues (in_order ended width owed held out) fed sent (in_order ended' width owed' held' out')
    ordered = in_order_continues (may_come ended width) (may_come ended' width) out out' owed owed' held held' fed sent comes

    -- free, where the outputs may come in any order
    pub freely : AnyOrder out
        → ((took : List Fed) (rest : List Row) → may_come ended' width took → out' (held' ++ took) rest → (old : List Row) × out (held ++ (fed ++ took)) old × IsPermutation (owed ++ old) (sent ++ (owed' ++ rest)))
        → Continues (free ended width owed held out) fed sent (free ended' width owed' held' out')
    freely any = free_continues (may_come ended width) (may_come ended' width) out out' owed owed' held held' fed sent any comes

  -- free, of a state that keeps no rows: each list for which it stood before goes on as one for which it stands now
  pub freely_for_each : (owed owed' : List Row) (stands stands' : List Fed → Type 0) (sent : List Row) (out out' : List Fed → List Row → Type 0) → AnyOrder out
      → ((held : List Fed) → stands held → (held' : List Fed) × stands' held' × ((took : List Fed) (rest : List Row) → may_come ended' width took → out' (held' ++ took) rest → (old : List Row) × out (held ++ (fed ++ took)) old × IsPermutation (owed ++ old) (sent ++ (owed' ++ rest))))
      → Continues (free_for_each ended width owed stands out) fed sent (free_for_each ended' width owed' stands' out')
  freely_for_each owed owed' stands stands' sent out out' any = held_continues (may_come ended width) (may_come ended' width) stands stands' out out' owed owed' fed sent any comes

-- a driver without a store
pub storeless_steps : (rest rest' : List Fed → List Row → Type 0) (ended ended' : ℕ → Bool) (phase phase' : Phase) (turns turns' : ℕ) (untested untested' on on' : List Row) (fixed : Fixed) (fed : List Fed) (sent : List Row)
    → Continues rest fed sent rest' → Alive (may_come ended' fixed.width) rest' → Tested fixed.check (untested ++ map (λ x. x.1) fed) untested'
    → Steps (storeless rest ended phase turns untested on fixed) fed sent (storeless rest' ended' phase' turns' untested' on' fixed)
storeless_steps rest rest' ended ended' phase phase' turns turns' untested untested' on on' fixed fed sent goes_on alive tested = record {
  sound = λ h. h;
  rest = λ h. goes_on;
  alive = λ h. alive;
  makes = λ h took may. refl;
  tested = tested;
  served = refl;
}

-- a driver that is no check has tested whatever it took
pub none_tested : (check : Option Check) → check ≡ None → (rows : List Row) → Tested check rows []
none_tested check none rows = subst (λ c. Tested c rows []) (sym none) (rows, sym (append-nil rows), tt)

-- ---- new drivers

-- one that neither owes nor holds anything may put the output
pub new_ordered : (ended : ℕ → Bool) (width : ℕ → ℕ) (out : List Fed → List Row → Type 0) (took : List Fed) (put : List Row)
    → in_order ended width [] [] out took put ↔ (may_come ended width took × out took put)
new_ordered ended width out took put = (
  λ h. (h.0, subst (out took) (sym h.1.is) h.1.output),
  λ h. (h.0, record { rest = put; output = h.1; is = refl }),
)

pub new_free : (ended : ℕ → Bool) (width : ℕ → ℕ) (out : List Fed → List Row → Type 0) (took : List Fed) (put : List Row)
    → free ended width [] [] out took put ↔ (may_come ended width took × out took put)
new_free ended width out took put = (
  λ h. (h.0, subst (out took) (sym (h.1.alone refl)) h.1.output),
  λ h. (h.0, record { rest = put; output = h.1; among = IsPermutation-refl put; alone = λ e. refl }),
)
