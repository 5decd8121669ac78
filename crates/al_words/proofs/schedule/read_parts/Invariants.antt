use Rattle.std.proofs.Common.{◌≡◌, ◌+◌, map}
use Rattle.al_words.specs.Words.{Each, IsPart, count}
use Rattle.al_words.proofs.Schedules.{now}
use Rattle.al_words.proofs.schedule.read_parts.Given as goal

abbrev pub invariant-loop-part : goal.invariant-loop-part
invariant-loop-part l = record { read : Each IsPart (map now l.yielded) l.parts; counted : count l.parts + l.left ≡ 100000 }
