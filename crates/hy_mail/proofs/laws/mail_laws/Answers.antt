use Rattle.hy_mail.proofs.Keeps.{absorbs, begins, deals, held_is, numbers_apart, one_takes, put_is, puts, takes}
use Rattle.hy_mail.proofs.laws.mail_laws.Goals as goal

pub returns-clause-begins : goal.returns-clause-begins
returns-clause-begins c = begins

pub returns-clause-push : goal.returns-clause-push
returns-clause-push c = puts

pub returns-clause-pop : goal.returns-clause-pop
returns-clause-pop c = takes

pub returns-clause-deal : goal.returns-clause-deal
returns-clause-deal c = deals

pub returns-clause-take_in : goal.returns-clause-take_in
returns-clause-take_in c = absorbs

pub returns-clause-one_takes : goal.returns-clause-one_takes
returns-clause-one_takes c = one_takes

pub returns-clause-apart : goal.returns-clause-apart
returns-clause-apart c = numbers_apart

pub returns-clause-put : goal.returns-clause-put
returns-clause-put c = put_is

pub returns-clause-held : goal.returns-clause-held
returns-clause-held c = held_is
