use Rattle.std.proofs.Common.{Ok, ap, ◌∙◌}
use Rattle.std.specs.declared.alloc.AllocError.{AllocError}
use Rattle.std.proofs.lemmas.Iterator.{YieldsList-from_chars, YieldsList-from_take, text_from_collect}
use Rattle.std.proofs.lemmas.Iterator.Adapters.{YieldsList-from_skip}
use Rattle.al_func.proofs.texts.piece.Goals as goal

pub returns : goal.returns
returns c =
    text_from_collect {E = AllocError} (Ok c.in_ok-cut.cut) c.in_ok-cut.ensures.ran
    (YieldsList-from_take _ (YieldsList-from_skip _ (YieldsList-from_chars c.args.s.now c.utf8.s cc) (ap (λ s. s.n) c.take.ensures.source ∙ c.skip.ensures.count)) c.take.ensures.count)
