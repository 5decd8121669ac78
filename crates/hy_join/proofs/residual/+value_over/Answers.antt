use Rattle.std.proofs.Common.{rules, ap, ◌∙◌, length}
use Rattle.std.proofs.lemmas.List.{length-map}
use Rattle.al_func.specs.declared.rex.Rex.{the_lemmas}
use Rattle.al_func.proofs.RexLaws.{column_below, call_parts}
use Rattle.hy_join.proofs.residual.+value_over.Goals as goal

pub value_over-column_value-requires : goal.value_over-column_value-requires
value_over-column_value-requires t c = column_below _ _ c.args.e.now c.in-Col.is c.requires

pub value_over-apply-requires : goal.value_over-apply-requires
value_over-apply-requires t c =
    ap length (c.as_slice-in-Call.ensures ∙ c.in_ok-values-in-Call.ensures) ∙ length-map _ _ ∙ ap length c.as_slice.ensures
    ∙ (call_parts _ _ _ _ c.in-Call.is c.requires).0

pub value_over-args_over-requires : goal.value_over-args_over-requires
value_over-args_over-requires t c = (search (rules, the_lemmas), rw c.as_slice.ensures (call_parts _ _ _ _ c.in-Call.is c.requires).1)
