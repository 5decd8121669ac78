use Rattle.al_query.proofs.Steps.{explained_by}
use Rattle.al_query.proofs.explain.explanation_of.Goals as goal

pub returns : goal.returns
returns c =
    explained_by c.args.file.now c.args.partitions c.in_ok-parts.parts.trace.steps c.in_ok-parts.parts.plan c.in_ok-parts.parts.phys c.in_ok-parts.parts.job c.in_ok-stages.stages c.as_slice.result.now c.print_explanation.result c.in_ok-parts.ensures c.in_ok-stages.ensures c.as_slice.ensures c.print_explanation.ensures
