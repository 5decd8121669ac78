use Rattle.std.proofs.Common.{sym, subst, ◌∙◌}
use Rattle.std.proofs.lemmas.Result.{IfOk-weaker}
use Rattle.hy_job.specs.Nested.{NAllows, chain_rows}
use Rattle.hy_job.proofs.Chains.{chain_allowed}
use Rattle.hy_nested.proofs.RunArms.{root_reads}
use Rattle.hy_nested.proofs.run.aggregate.Goals as goal

pub returns-then-is_chain : goal.returns-then-is_chain
returns-then-is_chain c =
    IfOk-weaker c.over_chain.result _ _ (λ row is. (chain_rows c.args.input.now c.args.outer.now, chain_allowed c.args.input.now c.args.outer.now (sym c.is_chain.ensures ∙ c.if-is_chain.true), is)) c.over_chain.ensures

pub agg_row-requires : goal.agg_row-requires
agg_row-requires c =
    root_reads c.args.made.now c.args.input.now c.args.outer.now c.as_slice.result.now c.requires (subst (NAllows c.args.input.now c.args.outer.now) (sym c.as_slice.ensures) c.in_ok-rows.ensures)
