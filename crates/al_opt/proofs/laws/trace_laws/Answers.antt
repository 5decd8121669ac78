use Rattle.al_opt.proofs.OneTrace.{sets_are_determined, walks_are_one, traces_are_one}
use Rattle.al_opt.proofs.laws.trace_laws.Goals as goal

pub returns-clause-sets : goal.returns-clause-sets
returns-clause-sets c = sets_are_determined

pub returns-clause-walks : goal.returns-clause-walks
returns-clause-walks c = walks_are_one

pub returns-clause-traces : goal.returns-clause-traces
returns-clause-traces c = traces_are_one
