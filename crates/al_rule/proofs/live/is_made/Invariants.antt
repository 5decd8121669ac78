use Rattle.std.proofs.Common.{◌≡◌, take, false, nat_eq}
use Rattle.std.specs.Cmp.Lexicographic.{pointwise}
use Rattle.std.specs.List.{list_any}
use Rattle.al_rule.proofs.live.is_made.Given as goal

abbrev pub invariant-loop-m : goal.invariant-loop-m
invariant-loop-m g l = list_any (λ m. pointwise nat_eq m.0.name l.fn.v.name) (take l.m-index l.fn.made) ≡ false
