use Rattle.std.proofs.Common.{◌≡◌, ◌∙◌, ◌≤◌, ap, sym, length, replicate, arith}
use Rattle.std.proofs.lemmas.List.{length-replicate}
use Rattle.hy_frame.proofs.FrameLaws.{empty_holds}
use Rattle.hy_frame.proofs.frame.Frame.of_size.Goals as goal

pub invariant_of-result : goal.invariant_of-result
invariant_of-result c =
    let zeros : c.in_ok-bytes.bytes.items ≡ replicate c.args.size 0 = c.in_ok-bytes.ensures.items_if_clones_equal (λ y h. h) in
    let long : length c.in_ok-bytes.bytes.items ≡ c.args.size = ap length zeros ∙ length-replicate c.args.size 0 in
    let whole : c.args.unit ≤ length c.in_ok-bytes.bytes.items = omega (arith, c.requires.whole) in
    empty_holds _ _ _ c.requires.least c.requires.most whole (zeros ∙ ap (λ k. replicate k 0) (sym long))
