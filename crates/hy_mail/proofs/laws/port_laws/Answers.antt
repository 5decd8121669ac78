use Rattle.hy_mail.proofs.PortLaws.{passes_know_puts, passes_know_takes}
use Rattle.hy_mail.proofs.laws.port_laws.Goals as goal

pub returns-clause-puts : goal.returns-clause-puts
returns-clause-puts c = passes_know_puts

pub returns-clause-takes : goal.returns-clause-takes
returns-clause-takes c = passes_know_takes
