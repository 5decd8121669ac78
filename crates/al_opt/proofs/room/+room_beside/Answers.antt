use Rattle.std.proofs.Common.{arith}
use Rattle.al_rule.proofs.PlaceLaws.{input_smaller}
use Rattle.al_opt.proofs.RoomLaws.{whole_left, first_none, own_none}
use Rattle.al_opt.proofs.room.+room_beside.Goals as goal

pub beside_input-room_beside-requires : goal.beside_input-room_beside-requires
beside_input-room_beside-requires t c =
    let fewer = input_smaller c.args.p.now c.args.i c.in-Some.part.now c.in-Some.ensures in
    (omega (arith, c.decreases, fewer), tt)

pub room_beside-returns-in-Some-beside_input : goal.room_beside-returns-in-Some-beside_input
room_beside-returns-in-Some-beside_input t c =
    whole_left c.args.p.now c.args.room c.in-Some.room c.in-Some-beside_input.room c.beside_input-in-Some-beside_input.result c.in-Some.ensures c.in-Some-beside_input.ensures c.beside_input-in-Some-beside_input.ensures

pub room_beside-returns-in-None-beside_input : goal.room_beside-returns-in-None-beside_input
room_beside-returns-in-None-beside_input t c = first_none c.args.p.now c.args.room c.in-Some.room c.in-Some.ensures c.in-None-beside_input.ensures

pub room_beside-returns-in-None : goal.room_beside-returns-in-None
room_beside-returns-in-None t c = own_none c.args.p.now c.args.room c.in-None.ensures
