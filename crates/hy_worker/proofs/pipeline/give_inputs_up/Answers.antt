use Rattle.std.proofs.Common.{◌<◌, ◌≤◌, length, arith}
use Rattle.hy_worker.specs.Worker.{held_inputs}
use Rattle.hy_worker.proofs.GivingUp.{gave_next, place_held}
use Rattle.hy_worker.proofs.pipeline.give_inputs_up.Goals as goal

pub give_up-requires : goal.give_up-requires
give_up-requires c =
    let ys = c.loop-k.inputs.items in
    let count = c.loop-k.invariant.0.count in
    let len = c.args.inputs.now.ok.0 in
    let low : c.loop-k.k < length ys = omega arith in
    let out = c.loop-k.invariant.1.out in
    let le : held_inputs ys ≤ c.loop-k.bank.out = omega arith in
    place_held ys c.loop-k.k c.loop-k.bank.out c.index_mut.result.now low c.index_mut.ensures.value le

pub loop-k-preserved : goal.loop-k-preserved
loop-k-preserved c =
    let ys = c.loop-k.inputs.items in
    let count = c.loop-k.invariant.0.count in
    let len = c.args.inputs.now.ok.0 in
    let low : c.loop-k.k < length ys = omega arith in
    gave_next c.args.inputs.now.items ys c.loop-k.k c.index_mut.result.now c.give_up.new.self c.args.bank.now c.loop-k.bank c.give_up.new.bank low c.index_mut.ensures.value c.loop-k.invariant
    (record { gives_up = c.give_up.ensures.told; still = c.give_up.ensures.still; holds = c.give_up.ensures.rows }) c.give_up.ensures.bank
