-- After a call a bank may be lent again.
use Rattle.std.proofs.Common.{◌≡◌, ◌+◌, ap, ◌∙◌, arith}
use Rattle.hy_frame.specs.Bank.{BankOf}
use Rattle.hy_driver.specs.Seen.{Seen}
use Rattle.hy_driver.specs.Steps.{Lent}
use Rattle.hy_driver.proofs.StepLaws.{lent_again}
use Rattle.hy_driver_tests.specs.Ready.{IsReady}

pub ready_again : (old new : Seen) (bank bank' : BankOf) → new.fixed ≡ old.fixed → Lent old new bank bank' → IsReady old bank → IsReady new bank'
ready_again old new bank bank' fixed lent ready =
    let again = lent_again old new bank bank' fixed lent ready.lent in
    let out : bank'.out + old.frames ≡ bank.out + new.frames = lent.out in
    let alone : bank.out ≡ old.frames = ready.alone in
    record {
      width = ap (λ f. f.width 0) fixed ∙ ready.width;
      lent = again.0;
      room = again.1 ready.room;
      alone = omega (arith, out, alone);
    }
