use Rattle.std.proofs.Common.{arith}
use Rattle.hy_places.proofs.Steps.{task_number, task_small}
use Rattle.hy_places.proofs.stage.number_of.Goals as goal

pub overflow_mul-result : goal.overflow_mul-result
overflow_mul-result c =
    let small = task_small c.args.job.now c.args.stage.now c.as_slice.result.now c.place_of-place.result c.args.partition c.requires.sound c.requires.part c.as_slice.ensures c.place_of-place.ensures.within c.requires.partition in
    omega (arith, small)

pub overflow_add-result : goal.overflow_add-result
overflow_add-result c =
    let small = task_small c.args.job.now c.args.stage.now c.as_slice.result.now c.place_of-place.result c.args.partition c.requires.sound c.requires.part c.as_slice.ensures c.place_of-place.ensures.within c.requires.partition in
    omega (arith, small)

pub overflow_cast-result-3 : goal.overflow_cast-result-3
overflow_cast-result-3 c =
    let small = task_small c.args.job.now c.args.stage.now c.as_slice.result.now c.place_of-place.result c.args.partition c.requires.sound c.requires.part c.as_slice.ensures c.place_of-place.ensures.within c.requires.partition in
    omega (arith, small)

pub returns : goal.returns
returns c =
    task_number c.args.job.now c.args.stage.now c.as_slice.result.now c.place_of-place.result c.args.activity c.args.partition c.requires.part c.requires.activity c.as_slice.ensures c.place_of-place.ensures.place c.requires.partition
