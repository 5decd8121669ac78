use Rattle.std.proofs.Common.{rules, ◌≡◌, ◌≤◌, sym, ap, ◌∙◌, length, get_or, take_all, true, flat_map, arith}
use Rattle.std.specs.List.{list_any}
use Rattle.std.proofs.lemmas.List.Folds.{list_any_at}
use Rattle.al_plan.specs.Names.{agg_exprs}
use Rattle.al_plan.specs.Allows.{is_among}
use Rattle.al_rules_prune.specs.Prunes.{read_by}
use Rattle.al_rules_prune.proofs.WantedLaws.{calls_read}
use Rattle.al_rules_prune.proofs.wanted.any_call_reads.Goals as goal

pub returns-then-call_reads : goal.returns-then-call_reads
returns-then-call_reads c =
    let hit : is_among (flat_map read_by (agg_exprs (get_or c.args.made.now c.loop-m.m-index c.m-item.result).1)) c.args.v.now.name ≡ true = search rules in
    sym (calls_read c.args.made.now c.args.v.now.name ∙ list_any_at (λ m. is_among (flat_map read_by (agg_exprs m.1)) c.args.v.now.name) c.args.made.now c.loop-m.m-index c.m-item.result c.loop-m-test.true hit)

pub returns : goal.returns
returns c =
    let done : length c.args.made.now ≤ c.loop-m.m-index = omega (arith, c.loop-m-test.false) in
    sym (calls_read c.args.made.now c.args.v.now.name ∙ ap (list_any (λ m. is_among (flat_map read_by (agg_exprs m.1)) c.args.v.now.name)) (sym (take_all c.loop-m.m-index c.args.made.now done)) ∙ c.loop-m.invariant)
