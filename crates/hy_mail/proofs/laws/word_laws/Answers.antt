use Rattle.hy_mail.proofs.WordLaws.{may_next, so_far, told_state, writer_word}
use Rattle.hy_mail.proofs.laws.word_laws.Goals as goal

pub returns-clause-state : goal.returns-clause-state
returns-clause-state c = told_state

pub returns-clause-so_far : goal.returns-clause-so_far
returns-clause-so_far c = so_far

pub returns-clause-ended : goal.returns-clause-ended
returns-clause-ended c = writer_word

pub returns-clause-next : goal.returns-clause-next
returns-clause-next c = may_next
