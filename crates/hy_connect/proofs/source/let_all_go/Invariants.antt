use Rattle.hy_connect.specs.Sources.{LetGoBefore, Returns, frames_held}
use Rattle.hy_connect.proofs.source.let_all_go.Given as goal

abbrev pub invariant-loop-s : goal.invariant-loop-s
invariant-loop-s l = LetGoBefore l.s l.initial.sources.items l.sources.items × Returns (frames_held l.initial.sources.items) (frames_held l.sources.items) l.initial.bank l.bank
