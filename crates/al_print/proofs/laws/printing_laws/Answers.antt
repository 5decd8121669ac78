use Rattle.al_print.proofs.ReadsBack.{reads_back}
use Rattle.al_print.proofs.laws.printing_laws.Goals as goal

pub returns : goal.returns
returns c = record { reads_back = reads_back }
