use Rattle.std.proofs.Common.{◌≡◌, ◌++◌, take, Some}
use Rattle.al_value.specs.Outside.{Told}
use Rattle.al_io.specs.Outside.{joined}
use Rattle.al_io.proofs.sink.write_pieces.Given as goal

abbrev pub invariant-loop-piece : goal.invariant-loop-piece
invariant-loop-piece g l = record {
  faults : g.K.Sink.faults l.sink ≡ g.K.Sink.faults l.initial.sink;
  written : Told (g.K.Sink.written l.initial.sink) (λ old. g.K.Sink.written l.sink ≡ Some (old ++ joined (take l.piece-index l.pieces)));
}
