use Rattle.std.proofs.Common.{rules}
use Rattle.hy_mail.proofs.DeskMade.{rest_posted}
use Rattle.hy_mail.proofs.desk_box.DeskBox.take.Goals as goal

pub invariant_of-self-2 : goal.invariant_of-self-2
invariant_of-self-2 c = (search rules, c.self.invariant.1, c.self.invariant.2, rest_posted _ _ c.in_ok-from.field-0 _ _ (search rules) c.self.invariant.3)
