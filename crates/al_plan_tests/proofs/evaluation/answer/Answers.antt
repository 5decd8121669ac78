use Rattle.std.proofs.lemmas.List.Elements.{All-nil}
use Rattle.al_plan_tests.proofs.evaluation.answer.Goals as goal

pub evaluate-requires-clause-fills : goal.evaluate-requires-clause-fills
evaluate-requires-clause-fills c k d low = All-nil _
