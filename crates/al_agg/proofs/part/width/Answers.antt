use Rattle.al_agg.proofs.FieldLaws.{fields_of_list}
use Rattle.al_agg.proofs.part.width.Goals as goal

pub returns-in-CountAll-clause-state : goal.returns-in-CountAll-clause-state
returns-in-CountAll-clause-state c = λ vs valid. fields_of_list c.args.a vs valid

pub returns-in-Sum-clause-state : goal.returns-in-Sum-clause-state
returns-in-Sum-clause-state c = λ vs valid. fields_of_list c.args.a vs valid

pub returns-in-Min-clause-state : goal.returns-in-Min-clause-state
returns-in-Min-clause-state c = λ vs valid. fields_of_list c.args.a vs valid
