use Rattle.std.proofs.Common.{◌≡◌, take}
use Rattle.al_agg.specs.Part.{agg_of, Stands}
use Rattle.al_plain.proofs.call.agg_of.Given as goal

abbrev pub invariant-loop-v : goal.invariant-loop-v
invariant-loop-v l = (agg_of l.part ≡ l.fn.a) × Stands l.part (take l.v-index l.values)
