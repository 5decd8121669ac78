use Rattle.std.proofs.Common.{◌<◌, ◌≤◌, length, ap, ◌∙◌, arith}
use Rattle.hy_connect.specs.Outlets.{OutletOf, failed, held_in, held_of}
use Rattle.hy_connect.proofs.Exporting.{exports_at, exports_then}
use Rattle.hy_connect.proofs.Fronts.{front_more, read_at}
use Rattle.hy_connect.proofs.Held.{held_here, lent_at, lent_then}
use Rattle.hy_connect.proofs.outlets.fail_all.Goals as goal

pub fail-requires-clause-held : goal.fail-requires-clause-held
fail-requires-clause-held c =
    let low : c.loop-k.k < length c.loop-k.outlets = omega arith in
    let out = c.loop-k.invariant.1.out in
    let le : held_of c.loop-k.outlets ≤ c.loop-k.bank.out = omega arith in
    held_here c.loop-k.outlets c.loop-k.k c.loop-k.bank.out c.index-outlets-k.result low le

pub loop-k-preserved : goal.loop-k-preserved
loop-k-preserved c =
    let low : c.loop-k.k < length c.loop-k.outlets = omega arith in
    let is = c.fail.ensures.outlet ∙ ap failed (read_at c.loop-k.outlets c.loop-k.k c.index-outlets-k.result low) in (
      front_more failed c.loop-k.k c.args.outlets.now c.loop-k.outlets c.fail.new.self low c.loop-k.invariant.0 is,
      lent_then _ _ _ _ _ _ c.loop-k.invariant.1 (lent_at c.loop-k.outlets c.loop-k.k 0 c.index-outlets-k.result c.fail.new.self c.loop-k.bank c.fail.new.bank low (ap (λ (o : OutletOf). held_in o.filling) is) c.fail.ensures.bank),
      exports_then _ _ _ c.args.bank.now c.loop-k.bank c.fail.new.bank c.loop-k.invariant.2 (exports_at c.loop-k.outlets c.loop-k.k c.index-outlets-k.result c.fail.new.self c.loop-k.bank c.fail.new.bank low c.fail.ensures.exports),
    )
