use Rattle.std.proofs.Common.{◌≡◌, ◌⊎◌, subst, sym}
use Rattle.crossbeam_queue.specs.Passes.{view}
use Rattle.hy_mail.proofs.Keeps.{deals}
use Rattle.hy_mail.proofs.mailbox.deal.Goals as goal

pub another-token-requires-clause-rule : goal.another-token-requires-clause-rule
another-token-requires-clause-rule g c =
    let is = c.requires.maker in
    let v = view c.args.maker.now in
    deals _ g.K.Made.arity v is.taker.takes is.taker.sends (subst (λ a. (v.made ≡ 0) ⊎ (v.arity ≡ a)) (sym c.requires.picked) is.arity)
