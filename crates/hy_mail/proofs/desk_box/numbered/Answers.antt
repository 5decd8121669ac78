use Rattle.std.proofs.Common.{◌≤◌, ◌^◌, arith, length, subst, sym}
use Rattle.hy_mail.proofs.DeskMade.{few_senders}
use Rattle.hy_mail.proofs.desk_box.numbered.Goals as goal

pub returns-clause-few : goal.returns-clause-few
returns-clause-few c = subst (λ l. length l ≤ 2 ^ 32) (sym c.in_ok-from_slice.ensures.items) (few_senders c.args.tasks.now c.requires (λ i. omega (arith, c.type_inv.tasks i)))
