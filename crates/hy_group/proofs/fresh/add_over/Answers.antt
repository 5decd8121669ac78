use Rattle.indexmap.proofs.MapLemmas.{OnOk-map}
use Rattle.hy_group.proofs.FreshLaws.{chain_seen}
use Rattle.hy_group.proofs.fresh.add_over.Goals as goal

pub returns : goal.returns
returns c =
    OnOk-map c.add_rows.result _ _
    (λ adds. chain_seen c.args.made.now c.args.chain.now c.args.row.now c.in_ok-rows.rows c.as_slice.result.now c.args.states.now.items c.add_rows.new.states.items c.as_slice.ensures c.in_ok-rows.ensures c.add_rows.ensures.each adds)
    c.add_rows.ensures.added
