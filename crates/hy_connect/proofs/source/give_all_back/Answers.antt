use Rattle.std.proofs.Common.{◌<◌, ◌≤◌, length, arith}
use Rattle.hy_connect.specs.Sources.{frames_held}
use Rattle.hy_connect.proofs.Hands.{bare_next, source_held}
use Rattle.hy_connect.proofs.source.give_all_back.Goals as goal

pub give_back-requires : goal.give_back-requires
give_back-requires c =
    let ys = c.loop-s.sources.items in
    let count = c.loop-s.invariant.0.count in
    let len = c.args.sources.now.ok.0 in
    let low : c.loop-s.s < length ys = omega arith in
    let out = c.loop-s.invariant.1.out in
    let le : frames_held ys ≤ c.loop-s.bank.out = omega arith in
    source_held ys c.loop-s.s c.loop-s.bank.out c.index_mut.result.now low c.index_mut.ensures.value le

pub loop-s-preserved : goal.loop-s-preserved
loop-s-preserved c =
    let ys = c.loop-s.sources.items in
    let count = c.loop-s.invariant.0.count in
    let len = c.args.sources.now.ok.0 in
    let low : c.loop-s.s < length ys = omega arith in
    bare_next c.args.sources.now.items ys c.loop-s.s c.index_mut.result.now c.give_back.new.self c.args.bank.now c.loop-s.bank c.give_back.new.bank low c.index_mut.ensures.value c.loop-s.invariant c.give_back.ensures.source c.give_back.ensures.bank
