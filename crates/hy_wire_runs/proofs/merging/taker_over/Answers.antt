use Rattle.std.proofs.Common.{subst, sym, ◌≤◌, ℕ}
use Rattle.hy_wire_runs.proofs.MergeRuns.{new_merger}
use Rattle.hy_wire_runs.proofs.merging.taker_over.Goals as goal

pub returns-clause-made : goal.returns-clause-made
returns-clause-made c = (new_merger c.args.wire.now c.args.boxes.now c.in_ok-new.field-0 c.requires.numbers (subst (λ (n : ℕ). n ≤ 4) (sym c.requires.count) c.requires.few) c.in_ok-new.ensures.made).0

pub returns-clause-none : goal.returns-clause-none
returns-clause-none c = (new_merger c.args.wire.now c.args.boxes.now c.in_ok-new.field-0 c.requires.numbers (subst (λ (n : ℕ). n ≤ 4) (sym c.requires.count) c.requires.few) c.in_ok-new.ensures.made).1
