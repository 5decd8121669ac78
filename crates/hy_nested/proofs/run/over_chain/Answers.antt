use Rattle.std.proofs.Common.{[], List, take, sym, subst, ◌∙◌}
use Rattle.hy_job.specs.Columns.{Row}
use Rattle.hy_job.specs.Nested.{chain_rows}
use Rattle.hy_job.specs.Sound.{NSound}
use Rattle.hy_job.specs.States.{AreStates}
use Rattle.hy_job.proofs.Chains.{chain-none, wide_at}
use Rattle.hy_job.proofs.StateLaws.{states_length}
use Rattle.hy_nested.proofs.RunArms.{chain_upto, made_fit}
use Rattle.hy_nested.proofs.run.over_chain.Goals as goal

pub loop-row-init : goal.loop-row-init
loop-row-init c = record {
  each = states_length c.args.made.now [] c.in_ok-states.states.items c.in_ok-states.ensures;
  seen = subst (λ (rows : List Row). AreStates c.args.made.now rows c.in_ok-states.states.items) (sym (chain-none c.args.chain.now)) c.in_ok-states.ensures;
}

pub run_chain-requires-clause-sound : goal.run_chain-requires-clause-sound
run_chain-requires-clause-sound c =
    subst (NSound c.args.chain.now) (sym (wide_at c.requires.fits.0 c.args.outer.now c.loop-row.row-index c.row-item.result c.loop-row-test.true c.row-item.is c.requires.fits.1)) c.requires.fits.2.0

pub add_rows-requires-clause-sound : goal.add_rows-requires-clause-sound
add_rows-requires-clause-sound c =
    made_fit c.args.made.now c.args.chain.now c.args.outer.now c.loop-row.row-index c.row-item.result c.as_slice.result.now c.requires.fits c.requires.chain c.loop-row-test.true c.row-item.is (c.as_slice.ensures ∙ c.in_ok-rows.ensures)

pub loop-row-preserved : goal.loop-row-preserved
loop-row-preserved c = record {
  each = c.add_rows.ensures.each;
  seen =
      subst (λ (rows : List Row). AreStates c.args.made.now rows c.add_rows.new.states.items)
      (chain_upto c.args.chain.now c.args.outer.now c.loop-row.row-index c.row-item.result c.as_slice.result.now c.loop-row-test.true c.row-item.is (c.as_slice.ensures ∙ c.in_ok-rows.ensures))
      (c.in_ok-add_rows.ensures.added (chain_rows c.args.chain.now (take c.loop-row.row-index c.args.outer.now)) c.loop-row.invariant.seen);
}
