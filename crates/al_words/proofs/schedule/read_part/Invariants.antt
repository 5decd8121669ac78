use Rattle.std.proofs.Common.{map}
use Rattle.al_words.specs.Words.{Each, IsNumber}
use Rattle.al_words.proofs.Schedules.{now}
use Rattle.al_words.proofs.schedule.read_part.Given as goal

abbrev pub invariant-loop-number : goal.invariant-loop-number
invariant-loop-number l = Each (IsNumber 0 4294967295) (map now l.yielded) l.numbers
