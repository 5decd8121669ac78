use Rattle.al_opt.proofs.RoomLaws.{sides_left, left_side_none, leaf_left}
use Rattle.al_opt.proofs.room.+beside_conjuncts.Goals as goal

pub returns-in-Some-beside_conjuncts : goal.returns-in-Some-beside_conjuncts
returns-in-Some-beside_conjuncts t c =
    sides_left c.args.cond.now c.in-Some.left.now c.in-Some.right.now c.args.room c.in-Some-beside_conjuncts.room c.beside_conjuncts-in-Some-beside_conjuncts.result c.in-Some.ensures c.in-Some-beside_conjuncts.ensures
    c.beside_conjuncts-in-Some-beside_conjuncts.ensures

pub returns-in-None-beside_conjuncts : goal.returns-in-None-beside_conjuncts
returns-in-None-beside_conjuncts t c = left_side_none c.args.cond.now c.in-Some.left.now c.in-Some.right.now c.args.room c.in-Some.ensures c.in-None-beside_conjuncts.ensures

pub returns-in-None : goal.returns-in-None
returns-in-None t c = leaf_left c.args.cond.now c.args.room c.beside_one.result c.in-None.ensures c.beside_one.ensures
