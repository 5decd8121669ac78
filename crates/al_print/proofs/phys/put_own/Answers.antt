use Rattle.std.proofs.Common.{◌≡◌, ap, sym, subst, ◌∙◌, List, ◌∷◌, [], ◌++◌, codes, OnOk}
use Rattle.std.specs.List.{flat_map}
use Rattle.al_plan.specs.declared.expr.Var.{Var}
use Rattle.al_plan.specs.declared.plan.AggCall.{AggCall}
use Rattle.al_plan.specs.Grammar.{Marked, enclosed, key_words, aggregated_words, plan_words, count_word}
use Rattle.al_phys.specs.declared.phys.Phys.{Phys, out-Phys}
use Rattle.al_phys.specs.declared.phys.Phys.TheOpen as L
use Rattle.al_phys.proofs.OperatorLaws.{pout-HashGroup, pout-PreGroup, pout-AggPart, pout-LocalLimit}
use Rattle.al_print.specs.Canonical.{after}
use Rattle.al_print.specs.Physical.{own_words, word}
use Rattle.al_print.proofs.LineLaws.{then_more}
use Rattle.al_print.proofs.phys.put_own.Goals as goal

pub returns-in-HashGroup : goal.returns-in-HashGroup
returns-in-HashGroup c =
    subst (λ (ws : List Marked). OnOk c.put_group.result (c.put_group.new.line ≡ after c.args.line.now ws))
    (ap (λ (keys : List (Var × Var)). word (codes "hash-group") ∷ (enclosed (flat_map key_words keys) ++ plan_words c.in-HashGroup.nested)) c.as_slice-in-HashGroup.ensures
    ∙ sym (ap (λ (p : Phys). own_words (out-Phys p)) c.in-HashGroup.is ∙ ap own_words (pout-HashGroup c.in-HashGroup.keys c.in-HashGroup.nested c.in-HashGroup.input)))
    c.put_group.ensures

pub returns-in-PreGroup : goal.returns-in-PreGroup
returns-in-PreGroup c =
    subst (λ (ws : List Marked). OnOk c.put_group-in-PreGroup.result (c.put_group-in-PreGroup.new.line ≡ after c.args.line.now ws))
    (ap (λ (keys : List (Var × Var)). word (codes "pre-group") ∷ (enclosed (flat_map key_words keys) ++ plan_words c.in-PreGroup.nested)) c.as_slice-in-PreGroup.ensures
    ∙ sym (ap (λ (p : Phys). own_words (out-Phys p)) c.in-PreGroup.is ∙ ap own_words (pout-PreGroup c.in-PreGroup.keys c.in-PreGroup.nested c.in-PreGroup.input)))
    c.put_group-in-PreGroup.ensures

pub returns-in-AggPart : goal.returns-in-AggPart
returns-in-AggPart c =
    subst (λ (ws : List Marked). OnOk c.put_aggregated.result (c.put_aggregated.new.line ≡ after c.args.line.now ws))
    (ap (λ (made : List (Var × AggCall)). word (codes "agg-part") ∷ enclosed (flat_map aggregated_words made)) c.as_slice-in-AggPart.ensures
    ∙ sym (ap (λ (p : Phys). own_words (out-Phys p)) c.in-AggPart.is ∙ ap own_words (pout-AggPart c.in-AggPart.made c.in-AggPart.input)))
    c.put_aggregated.ensures

pub returns-in_ok-name-in-LocalLimit : goal.returns-in_ok-name-in-LocalLimit
returns-in_ok-name-in-LocalLimit c =
    then_more c.count-in-LocalLimit.result c.args.line.now c.name-in-LocalLimit.new.self c.count-in-LocalLimit.new.self
    (word (codes "local-limit") ∷ []) (count_word c.in-LocalLimit.n ∷ []) (own_words (out-Phys c.args.p.now))
    (sym (ap (λ (p : Phys). own_words (out-Phys p)) c.in-LocalLimit.is ∙ ap own_words (pout-LocalLimit c.in-LocalLimit.n c.in-LocalLimit.input)))
    c.in_ok-name-in-LocalLimit.ensures c.count-in-LocalLimit.ensures
