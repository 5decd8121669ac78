use Rattle.std.proofs.Common.{rules}
use Rattle.hy_mail.proofs.DeskMade.{no_posted}
use Rattle.hy_mail.proofs.desk_box.DeskBox.new.Goals as goal

pub invariant_of-result : goal.invariant_of-result
invariant_of-result c = (search rules, search rules, search rules, no_posted _ _ _ c.in_ok-queue.ensures.items)
