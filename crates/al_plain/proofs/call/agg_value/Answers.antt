use Rattle.std.proofs.Common.{◌≡◌, IfOk, ap, ◌∙◌, subst}
use Rattle.al_agg.specs.Agg.{agg}
use Rattle.al_agg.specs.declared.agg.Agg.TheVariants as A
use Rattle.al_value.specs.declared.value.Value.{Value}
use Rattle.al_plain.proofs.CallLaws.{count_all}
use Rattle.al_plain.proofs.call.agg_value.Goals as goal

pub returns-in_ok-nulls-in-CountAll : goal.returns-in_ok-nulls-in-CountAll
returns-in_ok-nulls-in-CountAll c =
    let counted = ap (agg A.CountAll) (c.as_slice-in-CountAll.ensures ∙ c.in_ok-nulls-in-CountAll.ensures) ∙ count_all c.args.call.now c.args.vars.now c.args.rows.now c.in-CountAll.is in
    subst (λ (v : Value). IfOk c.agg_of.result (λ r. r ≡ v)) counted c.agg_of.ensures
