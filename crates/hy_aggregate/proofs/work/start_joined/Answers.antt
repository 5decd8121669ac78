use Rattle.std.proofs.Common.{List, subst, refl}
use Rattle.std.proofs.lemmas.List.{take_all}
use Rattle.al_agg.specs.declared.agg.Agg.{Agg}
use Rattle.hy_aggregate.proofs.Joining.{AreFresh, fresh_next, none_joined}
use Rattle.hy_aggregate.proofs.work.start_joined.Goals as goal

pub loop-a-preserved : goal.loop-a-preserved
loop-a-preserved c = fresh_next c.args.made.now c.loop-a.a-index _ _ c.loop-a.states.items c.push.new.self.items c.start.result c.loop-a-test.true refl c.in_ok-push.ensures.items c.loop-a.invariant c.start.ensures.aggregate c.start.ensures.none

pub returns : goal.returns
returns c = none_joined c.args.made.now c.loop-a.states.items (subst (λ (made : List Agg). AreFresh made c.loop-a.states.items) (take_all c.loop-a.a-index c.args.made.now c.loop-a-test.false) c.loop-a.invariant)
