use Rattle.hy_mail.proofs.Signals.{are_signals, one_signal, so_far_of_signals, words_of_signals}
use Rattle.hy_mail.proofs.laws.signal_laws.Goals as goal

pub returns-clause-parcels : goal.returns-clause-parcels
returns-clause-parcels c = are_signals

pub returns-clause-one : goal.returns-clause-one
returns-clause-one c = one_signal

pub returns-clause-words : goal.returns-clause-words
returns-clause-words c = words_of_signals

pub returns-clause-so_far : goal.returns-clause-so_far
returns-clause-so_far c = so_far_of_signals
