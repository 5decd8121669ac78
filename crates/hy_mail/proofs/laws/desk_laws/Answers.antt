use Rattle.hy_mail.proofs.DeskRuns.{closed_is_taken, mailboxes_stay, others_wait, runs_deliver, runs_lead}
use Rattle.hy_mail.proofs.laws.desk_laws.Goals as goal

pub returns-clause-others : goal.returns-clause-others
returns-clause-others c = others_wait

pub returns-clause-mailboxes : goal.returns-clause-mailboxes
returns-clause-mailboxes c = mailboxes_stay

pub returns-clause-deliver : goal.returns-clause-deliver
returns-clause-deliver c = runs_deliver

pub returns-clause-lead : goal.returns-clause-lead
returns-clause-lead c = runs_lead

pub returns-clause-closed : goal.returns-clause-closed
returns-clause-closed c = closed_is_taken
