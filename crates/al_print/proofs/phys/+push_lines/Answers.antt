use Rattle.std.proofs.Common.{ap, ◌∙◌, ◌++◌}
use Rattle.al_phys.specs.declared.phys.Phys.{out-Phys}
use Rattle.al_phys.specs.declared.property.Partitioning.{Partitioning}
use Rattle.al_phys.specs.declared.property.Local.{Local}
use Rattle.al_print.specs.Physical.{own_words, operator_line}
use Rattle.al_print.proofs.PhysLines.{then_inputs}
use Rattle.al_print.proofs.phys.+push_lines.Goals as goal

pub push_lines-returns : goal.push_lines-returns
push_lines-returns t c =
    then_inputs c.push_inputs.result c.args.partitions c.args.p.now c.args.margin.now c.as_slice.result.now c.args.text.now c.push_line.new.text c.push_inputs.new.text
    (c.as_slice.ensures ∙ c.in_ok-inner.ensures)
    (c.in_ok-push_line.ensures ∙ ap (λ (d : Partitioning × Local). c.args.text.now ++ operator_line c.args.margin.now (own_words (out-Phys c.args.p.now)) d.0 d.1) c.in_ok-own.ensures)
    c.push_inputs.ensures
