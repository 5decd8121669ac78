use Rattle.std.proofs.Common.{sym}
use Rattle.indexmap.proofs.MapLemmas.{OnOk-map}
use Rattle.hy_group.proofs.Finding.{added_at, added_new, right_at}
use Rattle.hy_group.proofs.groups.add_to.Goals as goal

pub add-requires-clause-right : goal.add-requires-clause-right
add-requires-clause-right g c = right_at (g.F.Folding.right c.args.folding.now) c.args.groups.now.entries c.in-Some.at c.index_mut-states.result.now c.requires.right c.index_mut-states.ensures.value

pub returns-in-Some : goal.returns-in-Some
returns-in-Some g c = record {
  added = OnOk-map c.add.result _ _
      (λ more. added_at (g.F.Folding.sees c.args.folding.now) (g.F.Folding.right c.args.folding.now) c.args.row.now c.args.key.now c.args.groups.now.entries c.in-Some.at c.index_mut-states.result.now c.add.new.states
      (sym c.in-Some.ensures.index) c.index_mut-states.ensures.value more)
      c.add.ensures.seen;
}

pub returns-in-Ok : goal.returns-in-Ok
returns-in-Ok g c = record {
  added = rw c.in-Ok.ensures.entries
      (added_new (g.F.Folding.sees c.args.folding.now) (g.F.Folding.right c.args.folding.now) c.args.row.now c.args.key.now c.in_ok-copy.copy c.args.groups.now.entries c.in_ok-states.states c.in_ok-copy.ensures c.in_default.ensures.index
      c.in_ok-states.ensures.seen c.in_ok-states.ensures.right);
}
