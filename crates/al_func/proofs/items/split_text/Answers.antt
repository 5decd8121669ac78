use Rattle.al_func.proofs.ItemLaws.{split_more, split_last, tail_is_text}
use Rattle.al_func.proofs.items.split_text.Goals as goal

pub loop-piece-preserved : goal.loop-piece-preserved
loop-piece-preserved c =
    let more = split_more _ _ _ _ _ _ _ _ c.requires.separator c.loop-piece.invariant.1 c.loop-piece.invariant.2 c.in-Some.ensures.cases c.in_ok-text_or_null.ensures c.in_ok-push.ensures.ok in
    (tail_is_text _ _ _ _ c.loop-piece.invariant.0 c.in-Some.ensures.cases, more.0, more.1)

pub returns : goal.returns
returns c = split_last _ _ _ _ _ _ c.loop-piece.invariant.1 c.loop-piece.invariant.2 c.in_default.ensures.cases c.in_ok-text_or_null-2.ensures c.in_ok-push-2.ensures.ok
