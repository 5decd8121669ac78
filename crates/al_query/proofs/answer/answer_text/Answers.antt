use Rattle.al_query.proofs.Loads.{scans_fill}
use Rattle.al_query.proofs.answer.answer_text.Goals as goal

pub evaluate-requires-clause-fills : goal.evaluate-requires-clause-fills
evaluate-requires-clause-fills c = scans_fill c.args.file.now c.args.sets.now (c.acceptance_laws.ensures.scans c.args.file.now c.requires.accepted) c.requires.data
