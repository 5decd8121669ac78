use Rattle.std.proofs.Common.{◌≡◌, ◌∙◌, ◌≤◌, ap, sym, length, replicate, arith}
use Rattle.std.proofs.lemmas.List.{length-replicate}
use Rattle.hy_frame.proofs.FrameLaws.{empty_holds, written}
use Rattle.hy_frame.proofs.frame.Frame.clear.Goals as goal

pub invariant_of-self : goal.invariant_of-self
invariant_of-self c =
    let h = c.self.invariant in
    let size : length c.deref_mut.result.now ≡ length c.self.inside.bytes.items = ap length c.deref_mut.ensures.value in
    let long : length c.clear.new.bytes ≡ length c.deref_mut.result.now = ap length c.clear.ensures ∙ length-replicate (length c.deref_mut.result.now) 0 in
    let whole : c.self.inside.unit ≤ length c.clear.new.bytes = omega (arith, h.whole) in
    let zeros : c.clear.new.bytes ≡ replicate (length c.clear.new.bytes) 0 = c.clear.ensures ∙ ap (λ k. replicate k 0) (sym long) in
    rw (written c.clear.new.bytes c.self.inside.bytes.items c.self.inside.bytes.len (omega arith))
    (empty_holds _ _ c.clear.new.bytes h.least_unit h.most_unit whole zeros)
