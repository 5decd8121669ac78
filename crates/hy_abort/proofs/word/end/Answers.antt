use Rattle.hy_abort.proofs.Steps.{ends, first_is}
use Rattle.hy_abort.proofs.word.end.Goals as goal

pub returns-clause-count : goal.returns-clause-count
returns-clause-count c = first_is (ends _ _ _ _ _ c.requires.all c.close_with-closed.ensures.values.2).0 c.word-sum.ensures

pub returns-clause-found : goal.returns-clause-found
returns-clause-found c =
    let e = ends _ _ _ _ _ c.requires.all c.close_with-closed.ensures.values.2 in
    rw (first_is e.0 c.word-sum.ensures) e.1
