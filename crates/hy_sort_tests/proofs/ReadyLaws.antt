-- After a call a bank may be lent again.
use Rattle.std.proofs.Common.{◌≡◌, ◌+◌, List, [], ◌∷◌, ◌++◌, ap, sym, subst, ◌∙◌, arith}
use Rattle.al_func.specs.declared.rex.Rex.TheVariants as R
use Rattle.al_func.proofs.RexLaws.{is_sound-Col}
use Rattle.hy_frame.specs.Bank.{BankOf}
use Rattle.hy_driver.specs.Seen.{Seen}
use Rattle.hy_driver.specs.Steps.{Lent}
use Rattle.hy_driver.proofs.StepLaws.{lent_again}
use Rattle.hy_job.specs.declared.nested.AggRex.{AggRex}
use Rattle.hy_job.specs.declared.nested.AggRex.TheVariants as C
use Rattle.hy_job.specs.Sound.{AreSoundAggs}
use Rattle.hy_sort_tests.specs.Ready.{IsReady, TakesOne}

pub ready_again : (old new : Seen) (bank bank' : BankOf) → new.fixed ≡ old.fixed → Lent old new bank bank' → IsReady old bank → IsReady new bank'
ready_again old new bank bank' fixed lent ready =
    let again = lent_again old new bank bank' fixed lent ready.lent in
    let out : bank'.out + old.frames ≡ bank.out + new.frames = lent.out in
    let alone : bank.out ≡ old.frames = ready.alone in
    record {
      lent = again.0;
      room = again.1 ready.room;
      alone = omega (arith, out, alone);
    }

pub one_again : (old new : Seen) → new.fixed ≡ old.fixed → TakesOne old → TakesOne new
one_again old new fixed one = record { width = ap (λ f. f.width 0) fixed ∙ one.width }

pub ruleset ready_laws = (ready_again, one_again)

-- the first column of rows of one value is there
pub one_sound : (made none : List AggRex) → none ≡ [] → made ≡ none ++ C.Max (R.Col 0) ∷ [] → AreSoundAggs 1 made
one_sound made none empty is = subst (AreSoundAggs 1) (sym (is ∙ ap (λ l. l ++ C.Max (R.Col 0) ∷ []) empty)) ((is_sound-Col 1 0, tt), tt)
