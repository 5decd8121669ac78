-- After a call a driver may be called again.
use Rattle.std.proofs.Common.{◌≡◌, ◌≢◌, ℕ, Bool, true, false, true≢false, List, [], ◌∷◌, Option, Some, length, ap, refl, sym, subst, ◌∙◌, arith}
use Rattle.std.specs.List.Sorted.{IsPermutation}
use Rattle.std.proofs.lemmas.List.Sorted.{length_permutation}
use Rattle.hy_frame.specs.Bank.{BankOf}
use Rattle.hy_store.specs.Runs.{RunsOf}
use Rattle.hy_driver.specs.Handing.{HandedOn, store_of}
use Rattle.hy_driver.specs.Seen.{Seen, StoreOf}
use Rattle.hy_driver.specs.Steps.{Lent, ended_with}
use Rattle.hy_driver.specs.declared.handed.Handed.{Handed}
use Rattle.hy_driver.specs.declared.phase.Phase.TheVariants.{Working, Ended, GivenUp}
use Rattle.hy_driver.proofs.StepLaws.{lent_again}
use Rattle.hy_test_runs.specs.Ready.{IsReady}

module _ (width : ℕ) (old new : Seen) (bank bank' : BankOf) (fixed : new.fixed ≡ old.fixed) (lent : Lent old new bank bank') (going : new.phase ≢ GivenUp) where
  step : (goes_on goes_on' : Bool) → (goes_on' ≡ true → new.ended 0 ≡ false) → IsReady width goes_on old bank → IsReady width goes_on' new bank'
  step goes_on goes_on' open_ ready =
      let again = lent_again old new bank bank' fixed lent ready.lent in
      record {
        width = ap (λ f. f.width 0) fixed ∙ ready.width;
        going = going;
        open_ = open_;
        lent = again.0;
        room = again.1 ready.room;
      }

  pub ready_again : (goes_on : Bool) → ((k : ℕ) → new.ended k ≡ old.ended k) → IsReady width goes_on old bank → IsReady width goes_on new bank'
  ready_again goes_on inputs ready = step goes_on goes_on (λ e. inputs 0 ∙ ready.open_ e) ready

  pub input_ended : (goes_on : Bool) → ((k : ℕ) → new.ended k ≡ ended_with old.ended 0 k) → IsReady width goes_on old bank → IsReady width false new bank'
  input_ended goes_on inputs ready = step goes_on false (λ e. absurd (true≢false (sym e))) ready

-- a new driver and a new bank
pub new_ready : (values : ℕ) (goes_on : Bool) (s : Seen) (bank : BankOf) → s.phase ≡ Working → s.frames ≡ 0 → s.fixed.unit ≡ 256 → s.fixed.memory ≡ 3 → s.fixed.width 0 ≡ values
    → (goes_on ≡ true → s.ended 0 ≡ false) → bank ≡ record { unit = 256; limit = 8; out = 0; taken = 0; given = 0; exported = 0; imported = 0 } → IsReady values goes_on s bank
new_ready values goes_on s bank works none unit memory width open_ is =
    let out : bank.out ≡ 0 = ap (λ b. b.out) is in
    let limit : bank.limit ≡ 8 = ap (λ b. b.limit) is in
    record {
      width = width;
      going = λ e. no (sym works ∙ e);
      open_ = open_;
      lent = record { unit = ap (λ b. b.unit) is ∙ sym unit; out = omega (arith, none) };
      room = omega (arith, none, memory, out, limit);
    }
  where
    no : Working ≡ GivenUp → ⊥
    no e = cc

pub ruleset ready_laws = (ready_again, input_ended)

-- where no run is handed on, none is live
pub none_live : (live runs : List ℕ) → IsPermutation live runs → runs ≡ [] → live ≡ []
none_live [] runs moved none = refl
none_live (run ∷ live) runs moved none = absurd (omega (arith, length_permutation (run ∷ live) runs moved, ap (λ (r : List ℕ). length r) none))

-- the store of a driver that has ended and hands no run on
pub left_none : {S : Type 0} (runs : S → RunsOf) (faults : S → ℕ) (left : Option S) (store : S) (s : Seen) (handed : Handed) → left ≡ Some store → store_of runs faults left ≡ s.store → HandedOn s handed → s.phase ≡ Ended → handed.runs ≡ []
    → (runs store).live ≡ []
left_none runs faults left store s handed is same on over none =
    ap (λ (o : StoreOf). o.runs.live) (sym (ap (store_of runs faults) is) ∙ same) ∙ none_live s.store.runs.live handed.runs (on.runs over) none

pub ready_where : (values : ℕ) (here goes_on : Bool) (s : Seen) (bank : BankOf) → here ≡ goes_on → IsReady values goes_on s bank → IsReady values here s bank
ready_where values here goes_on s bank is ready = subst (λ b. IsReady values b s bank) (sym is) ready
