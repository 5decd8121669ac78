use Rattle.std.proofs.Common.{rules, arith}
use Rattle.al_io.proofs.Pieces.{pieces_more, pieces_part}
use Rattle.al_io.proofs.sink.write_pieces.Goals as goal

pub returns-in_err-write_whole-clause-err : goal.returns-in_err-write_whole-clause-err
returns-in_err-write_whole-clause-err g c =
    let part = pieces_part _ _ _ c.args.pieces.now c.loop-piece.piece-index _ (omega arith) c.loop-piece.invariant.written c.in_err-write_whole.ensures.err in
    search (rules, part)

pub loop-piece-preserved : goal.loop-piece-preserved
loop-piece-preserved g c = record {
  faults = search rules;
  written = pieces_more _ _ _ c.args.pieces.now c.loop-piece.piece-index _ (omega arith) c.loop-piece.invariant.written c.in_ok-write_whole.ensures.ok;
}
