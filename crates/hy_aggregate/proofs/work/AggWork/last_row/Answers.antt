use Rattle.std.proofs.Common.{true, sym, ap, subst, ◌∙◌}
use Rattle.hy_aggregate.specs.declared.work.AggWork.{AggWork}
use Rattle.hy_aggregate.specs.Work.{HaveTaken, IsLast, IsReached, arity_of}
use Rattle.hy_aggregate.proofs.Lasting.{final_wide, if_ok, values_are}
use Rattle.hy_aggregate.proofs.work.AggWork.last_row.Goals as goal

pub returns-in-Final-clause-last : goal.returns-in-Final-clause-last
returns-in-Final-clause-last c =
    if_ok c.agg_values.result
    (λ row are rows h. subst (λ (work : AggWork). IsLast work rows row) (sym c.in-Final.is) (values_are c.in-Final.made c.args.states.items row rows are (subst (λ (work : AggWork). HaveTaken work rows c.args.states.items) c.in-Final.is h)))
    c.agg_values.ensures

pub returns-in-Final-clause-wide : goal.returns-in-Final-clause-wide
returns-in-Final-clause-wide c =
    if_ok c.agg_values.result
    (λ row are. final_wide c.in-Final.made c.args.states.items row are (subst (λ (work : AggWork). IsReached work true c.args.states.items) c.in-Final.is c.requires.reached) ∙ ap arity_of (sym c.in-Final.is))
    c.agg_values.ensures
