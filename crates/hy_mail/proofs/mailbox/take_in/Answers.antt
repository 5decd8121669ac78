use Rattle.std.proofs.Common.{◌∙◌, ap}
use Rattle.hy_mail.specs.Passes.{SendState}
use Rattle.hy_mail.proofs.Keeps.{absorbs}
use Rattle.hy_mail.proofs.mailbox.take_in.Goals as goal

pub absorb-requires-clause-rule : goal.absorb-requires-clause-rule
absorb-requires-clause-rule c =
    let is = c.pass.invariant.1 in
    absorbs _ _ _ _ c.requires.taker.0 c.requires.taker.1 is.sends (is.from ∙ ap (λ (s : SendState). s.number) c.pass.view_is ∙ c.requires.next)
