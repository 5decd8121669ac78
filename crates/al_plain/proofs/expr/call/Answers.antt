use Rattle.std.proofs.Common.{sym, arith}
use Rattle.al_plain.proofs.ApplyLaws.{apply-other}
use Rattle.al_plain.proofs.expr.call.Goals as goal

pub returns-else-args-arity : goal.returns-else-args-arity
returns-else-args-arity c = sym (apply-other c.args.f c.args.args.now (λ e. omega arith))
