use Rattle.std.proofs.Common.{rules, subst}
use Rattle.hy_mail.specs.Passes.{WasEmpty}
use Rattle.hy_mail.proofs.Keeps.{learns_words, takes}
use Rattle.hy_mail.proofs.mailbox.Mailbox.take.Goals as goal

pub pop_as-requires-clause-rule : goal.pop_as-requires-clause-rule
pop_as-requires-clause-rule g c = let is = c.pass.invariant.1 in (takes _ _ is.takes is.sends, learns_words _ _ is.takes)

pub returns-in-None : goal.returns-in-None
returns-in-None g c = (subst WasEmpty c.pass.view_is c.in-None.ensures.rule.1, search rules)
