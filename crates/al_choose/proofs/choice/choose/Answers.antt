use Rattle.std.proofs.Common.{rules, ◌≡◌, ◌-◌, length, arith, sym, subst}
use Rattle.al_phys.specs.declared.phys.Phys.{Phys}
use Rattle.al_phys.specs.Operators.{operators}
use Rattle.al_phys.specs.Placed.{Placed}
use Rattle.al_phys.specs.Stands.{Stands}
use Rattle.al_choose.specs.Chosen.{chosen}
use Rattle.al_choose.proofs.PlacedLaws.{placed_in}
use Rattle.al_choose.proofs.StandLaws.{stands}
use Rattle.al_choose.proofs.choice.choose.Goals as goal

pub returns-clause-placed : goal.returns-clause-placed
returns-clause-placed c =
    let ph = c.into_inner.result in
    let here : ph ≡ chosen c.args.partitions c.args.p.now = search rules in
    let left : c.room_left.result ≡ 524288 - length (operators ph) = search rules in
    placed_in c.args.partitions c.args.p.now ph c.room_left.result c.requires.fit here left c.if-room_left-eq0.false

pub returns-clause-stands : goal.returns-clause-stands
returns-clause-stands c =
    let ph = c.into_inner.result in
    let here : ph ≡ chosen c.args.partitions c.args.p.now = search rules in
    subst (λ (q : Phys). Stands c.args.p.now q c.args.partitions) (sym here)
    (stands c.args.partitions c.args.p.now c.requires.some c.requires.fit (subst (λ (q : Phys). Placed q c.args.partitions) here (returns-clause-placed c)))
