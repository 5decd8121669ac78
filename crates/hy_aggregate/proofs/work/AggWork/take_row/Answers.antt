use Rattle.std.proofs.Common.{◌≡◌, true, List, map, sym, subst}
use Rattle.al_agg.specs.declared.agg.Agg.{Agg}
use Rattle.al_agg.specs.Part.{agg_of}
use Rattle.hy_aggregate.specs.declared.work.AggWork.{AggWork}
use Rattle.hy_aggregate.specs.Work.{IsReached}
use Rattle.hy_aggregate.proofs.Lasting.{kinds_reached}
use Rattle.hy_aggregate.proofs.work.AggWork.take_row.Goals as goal

pub join_row-requires-clause-kinds : goal.join_row-requires-clause-kinds
join_row-requires-clause-kinds c =
    subst (λ (made : List Agg). map agg_of c.args.states.now.items ≡ made) (sym c.as_slice-in-Final.ensures)
    (kinds_reached c.in-Final.made c.args.states.now.items (subst (λ (work : AggWork). IsReached work true c.args.states.now.items) c.in-Final.is c.requires.reached))
