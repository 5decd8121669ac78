use Rattle.std.proofs.Common.{ℕ, subst, sym}
use Rattle.hy_mail.specs.Words.{HasArity}
use Rattle.hy_connect.proofs.writer.put_first.Goals as goal

pub put-requires-clause-arity : goal.put-requires-clause-arity
put-requires-clause-arity g c =
    subst (λ (m : ℕ). HasArity (g.P.Port.arity c.args.port.now m) c.pop.result) (sym c.mailbox-mailbox.ensures) (c.requires.fits c.pop.result c.pop.new.self.waits c.pop.ensures.first).1
