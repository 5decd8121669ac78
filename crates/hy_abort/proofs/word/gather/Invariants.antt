use Rattle.std.proofs.Common.{◌≡◌}
use Rattle.hy_abort.specs.Tokens.{Gathered}
use Rattle.hy_abort.proofs.word.gather.Given as goal

abbrev pub invariant-loop-seat : goal.invariant-loop-seat
invariant-loop-seat l = (l.all.table_id ≡ l.initial.all.table_id) × Gathered l.initial.all.me.0 l.all.me.0 l.yielded
