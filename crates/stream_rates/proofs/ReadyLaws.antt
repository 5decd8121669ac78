-- After a call a driver may be called again.
use Rattle.std.proofs.Common.{◌≡◌, ◌≢◌, ℕ, ap, sym, ◌∙◌, arith}
use Rattle.hy_frame.specs.Bank.{BankOf}
use Rattle.hy_driver.specs.Seen.{Seen}
use Rattle.hy_driver.specs.Steps.{Lent}
use Rattle.hy_driver.specs.declared.phase.Phase.TheVariants.{Working, GivenUp}
use Rattle.hy_driver.proofs.StepLaws.{lent_again}
use Rattle.stream_rates.specs.Ready.{IsOpen, IsReady}

pub ready_again : (old new : Seen) (bank bank' : BankOf) → new.fixed ≡ old.fixed → Lent old new bank bank' → new.phase ≢ GivenUp → IsReady old bank → IsReady new bank'
ready_again old new bank bank' fixed lent going ready =
    let again = lent_again old new bank bank' fixed lent ready.lent in
    record { going = going; lent = again.0; room = again.1 ready.room }

pub open_again : (old new : Seen) (bank bank' : BankOf) → new.fixed ≡ old.fixed → Lent old new bank bank' → new.phase ≢ GivenUp → ((k : ℕ) → new.ended k ≡ old.ended k) → IsOpen old bank → IsOpen new bank'
open_again old new bank bank' fixed lent going inputs is = record {
  ready = ready_again old new bank bank' fixed lent going is.ready;
  open_ = inputs 0 ∙ is.open_;
  width = ap (λ f. f.width 0) fixed ∙ is.width;
}

-- a new driver and a new bank
pub new_ready : (s : Seen) (bank : BankOf) → s.phase ≡ Working → s.frames ≡ 0 → s.fixed.unit ≡ 32768 → s.fixed.memory ≡ 3
    → bank ≡ record { unit = 32768; limit = 8; out = 0; taken = 0; given = 0; exported = 0; imported = 0 } → IsReady s bank
new_ready s bank works none unit memory is =
    let out : bank.out ≡ 0 = ap (λ b. b.out) is in
    let limit : bank.limit ≡ 8 = ap (λ b. b.limit) is in
    record {
      going = λ e. no (sym works ∙ e);
      lent = record { unit = ap (λ b. b.unit) is ∙ sym unit; out = omega (arith, none) };
      room = omega (arith, none, memory, out, limit);
    }
  where
    no : Working ≡ GivenUp → ⊥
    no e = cc

pub ruleset ready_laws = (ready_again, open_again)
