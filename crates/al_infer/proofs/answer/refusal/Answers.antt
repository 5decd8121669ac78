use Rattle.std.proofs.Common.{◌≡◌, length, arith, sym, ap, ◌∙◌}
use Rattle.al_plan.specs.Accept.{size}
use Rattle.al_infer.proofs.AcceptLaws.{both_none}
use Rattle.al_infer.proofs.answer.refusal.Goals as goal

pub returns-in-Ok : goal.returns-in-Ok
returns-in-Ok c =
    let datasets = rw (c.as_slice-decls.ensures, c.as_slice.ensures) at c.in_default.ensures in
    let many : length c.as_slice-2.result.now ≡ size c.args.f.now.root = ap length c.as_slice-2.ensures ∙ c.requires.operators in
    let operators = rw (c.as_slice-decls.ensures, c.as_slice-2.ensures, c.new-made.ensures) at (c.in-Ok.ensures (omega (arith, many))) in
    sym (both_none _ _ (sym datasets) operators.0)
