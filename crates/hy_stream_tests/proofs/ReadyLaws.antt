-- After a call a driver may be called again.
use Rattle.std.proofs.Common.{◌≡◌, ◌≢◌, ℕ, zero, suc, Bool, true, false, true≢false, ap, refl, sym, ◌∙◌, arith}
use Rattle.hy_frame.specs.Bank.{BankOf}
use Rattle.hy_driver.specs.Seen.{Seen}
use Rattle.hy_driver.specs.Steps.{Lent, ended_with}
use Rattle.hy_driver.specs.declared.phase.Phase.TheVariants.{Working, GivenUp}
use Rattle.hy_driver.proofs.StepLaws.{lent_again}
use Rattle.hy_stream_tests.specs.Ready.{IsReady, pairs}

module _ (width : ℕ) (old new : Seen) (bank bank' : BankOf) (fixed : new.fixed ≡ old.fixed) (lent : Lent old new bank bank') (going : new.phase ≢ GivenUp) where
  step : (left right left' right' : Bool) → (left' ≡ true → new.ended 0 ≡ false) → (right' ≡ true → new.ended 1 ≡ false) → IsReady width left right old bank → IsReady width left' right' new bank'
  step left right left' right' goes_on goes_on' ready =
      let again = lent_again old new bank bank' fixed lent ready.lent in
      record {
        width = λ input. ap (λ f. f.width input) fixed ∙ ready.width input;
        going = going;
        left = goes_on;
        right = goes_on';
        lent = again.0;
        room = again.1 ready.room;
      }

  pub ready_again : (left right : Bool) → ((k : ℕ) → new.ended k ≡ old.ended k) → IsReady width left right old bank → IsReady width left right new bank'
  ready_again left right inputs ready = step left right left right (λ e. inputs 0 ∙ ready.left e) (λ e. inputs 1 ∙ ready.right e) ready

  pub left_ended : (left right : Bool) → ((k : ℕ) → new.ended k ≡ ended_with old.ended 0 k) → IsReady width left right old bank → IsReady width false right new bank'
  left_ended left right inputs ready = step left right false right (λ e. absurd (true≢false (sym e))) (λ e. inputs 1 ∙ ready.right e) ready

  pub right_ended : (left right : Bool) → ((k : ℕ) → new.ended k ≡ ended_with old.ended 1 k) → IsReady width left right old bank → IsReady width left false new bank'
  right_ended left right inputs ready = step left right left false (λ e. inputs 0 ∙ ready.left e) (λ e. absurd (true≢false (sym e))) ready

-- a new driver and a new bank
pub new_ready : (values : ℕ) (first second : Bool) (s : Seen) (bank : BankOf) → s.phase ≡ Working → s.frames ≡ 0 → s.fixed.unit ≡ 256 → s.fixed.memory ≡ 3 → ((input : ℕ) → s.fixed.width input ≡ values)
    → (first ≡ true → s.ended 0 ≡ false) → (second ≡ true → s.ended 1 ≡ false) → bank ≡ record { unit = 256; limit = 8; out = 0; taken = 0; given = 0; exported = 0; imported = 0 } → IsReady values first second s bank
new_ready values first second s bank works none unit memory width left right is =
    let out : bank.out ≡ 0 = ap (λ b. b.out) is in
    let limit : bank.limit ≡ 8 = ap (λ b. b.limit) is in
    record {
      width = width;
      going = λ e. no (sym works ∙ e);
      left = left;
      right = right;
      lent = record { unit = ap (λ b. b.unit) is ∙ sym unit; out = omega (arith, none) };
      room = omega (arith, none, memory, out, limit);
    }
  where
    no : Working ≡ GivenUp → ⊥
    no e = cc

-- rows of two values at each input of a stream
pub pairs_wide : (arity input : ℕ) → (pairs arity).taken input ≡ 2
pairs_wide arity zero = refl
pairs_wide arity (suc input) = refl

pub ruleset ready_laws = (ready_again, left_ended, right_ended)
