use Rattle.std.proofs.Common.{rules, ap, ◌∙◌, length}
use Rattle.std.proofs.lemmas.List.{length-map}
use Rattle.al_func.specs.declared.rex.Rex.{the_lemmas}
use Rattle.al_func.proofs.RexLaws.{column_below, call_parts}
use Rattle.al_func.proofs.rex.+eval_rex.Goals as goal

pub eval_rex-column-requires : goal.eval_rex-column-requires
eval_rex-column-requires t c = column_below _ _ c.args.e.now c.in-Col.is c.requires

pub eval_rex-apply-requires : goal.eval_rex-apply-requires
eval_rex-apply-requires t c =
    ap length (c.as_slice-in-Call.ensures ∙ c.in_ok-values-in-Call.ensures) ∙ length-map _ _ ∙ ap length c.as_slice.ensures
    ∙ (call_parts _ _ _ _ c.in-Call.is c.requires).0

pub eval_rex-eval_args-requires : goal.eval_rex-eval_args-requires
eval_rex-eval_args-requires t c = (search (rules, the_lemmas), rw c.as_slice.ensures (call_parts _ _ _ _ c.in-Call.is c.requires).1)
