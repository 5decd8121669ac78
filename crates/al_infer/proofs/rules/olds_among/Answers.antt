use Rattle.std.proofs.Common.{sym, ◌∙◌}
use Rattle.std.proofs.lemmas.List.Folds.{list_all-map}
use Rattle.al_plan.specs.Allows.{is_among}
use Rattle.al_infer.proofs.ListLaws.{stops, ends}
use Rattle.al_infer.proofs.rules.olds_among.Goals as goal

pub returns-then-not-is_among : goal.returns-then-not-is_among
returns-then-not-is_among c =
    stops (λ k. is_among c.args.vars.now k.1.name) _ c.args.keys.now c.loop-old.old-index (list_all-map (λ v. is_among c.args.vars.now v.name) (λ k. k.1) c.args.keys.now) c.loop-old-item.result c.loop-old-test.true c.loop-old-item.is
    (sym c.is_among.ensures ∙ c.if-not-is_among.true)

pub returns : goal.returns
returns c =
    ends (λ k. is_among c.args.vars.now k.1.name) _ c.args.keys.now c.loop-old.old-index (list_all-map (λ v. is_among c.args.vars.now v.name) (λ k. k.1) c.args.keys.now) c.loop-old-test.false c.loop-old.invariant
