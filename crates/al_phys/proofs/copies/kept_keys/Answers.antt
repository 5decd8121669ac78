use Rattle.std.proofs.Common.{◌≡◌, ◌+◌, List, [], ◌∷◌, ◌++◌, drop, true, ap, sym, subst, ◌∙◌, arith}
use Rattle.al_plan.specs.declared.plan.OrderKey.{OrderKey}
use Rattle.al_plan.specs.Allows.{is_among}
use Rattle.al_phys.specs.Properties.{kept_keys}
use Rattle.al_phys.proofs.PrefixLaws.{kept_more}
use Rattle.al_phys.proofs.copies.kept_keys.Goals as goal

pub loop-key-preserved : goal.loop-key-preserved
loop-key-preserved c =
    let vars = c.args.vars.now in
    let kept : is_among vars c.key-item.result.var.name ≡ true = grind arith in
    let more = kept_more vars c.args.keys.now c.loop-key.kept c.loop-key.key-index c.key-item.result c.loop-key-test.true c.key-item.is kept c.loop-key.invariant in
    let now = c.in_ok-push.ensures.ok ∙ ap (λ (k : OrderKey). c.loop-key.kept ++ k ∷ []) c.in_ok-copy.ensures in
    subst (λ (ks : List OrderKey). ks ++ kept_keys vars (drop (c.loop-key.key-index + 1) c.args.keys.now) ≡ kept_keys vars c.args.keys.now) (sym now) more
