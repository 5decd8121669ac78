use Rattle.std.proofs.Common.{sym, subst}
use Rattle.al_plan.specs.declared.plan.Plan.{Plan}
use Rattle.al_plan.specs.Refines.{Refines}
use Rattle.al_opt.specs.Optimised.{LegalTrace}
use Rattle.al_rule.specs.declared.names.SetName.TheVariants as S
use Rattle.al_opt.specs.Optimised.{is_once, rules_of}
use Rattle.al_opt.proofs.OptimisedLaws.{Optimised, none_left, one_more, optimised}
use Rattle.al_opt.proofs.OneTrace.{traces_are_one}
use Rattle.al_opt.proofs.optimiser.drive.Goals as goal

pub returns : goal.returns
returns c =
    let q = c.in_ok-q-8.q in
    let t = c.exhaust-6.new.t in
    let fit = c.in_ok-q-8.ensures.replaces.refines.fit in
    let whole : Optimised c.args.p.now t q =
    optimised c.args.p.now c.in_ok-q.q q c.new-trace.result t c.in_ok-q.ensures c.new-trace.ensures
    (one_more rules_of is_once S.Split _ c.in_ok-q.q c.in_ok-q-2.q q c.new-trace.result c.split.new.t t c.in_ok-q-2.ensures
    (one_more rules_of is_once S.Select _ c.in_ok-q-2.q c.in_ok-q-3.q q c.split.new.t c.exhaust.new.t t c.in_ok-q-3.ensures
    (one_more rules_of is_once S.Join _ c.in_ok-q-3.q c.in_ok-q-4.q q c.exhaust.new.t c.exhaust-2.new.t t c.in_ok-q-4.ensures
    (one_more rules_of is_once S.Select _ c.in_ok-q-4.q c.in_ok-q-5.q q c.exhaust-2.new.t c.exhaust-3.new.t t c.in_ok-q-5.ensures
    (one_more rules_of is_once S.Order _ c.in_ok-q-5.q c.in_ok-q-6.q q c.exhaust-3.new.t c.exhaust-4.new.t t c.in_ok-q-6.ensures
    (one_more rules_of is_once S.Group _ c.in_ok-q-6.q c.in_ok-q-7.q q c.exhaust-4.new.t c.exhaust-5.new.t t c.in_ok-q-7.ensures
    (one_more rules_of is_once S.Prune _ c.in_ok-q-7.q q q c.exhaust-5.new.t t t c.in_ok-q-8.ensures
    (none_left rules_of is_once q t fit)))))))) in
    let same = sym c.into_inner-q.ensures in
    let legal = subst (λ (z : Plan). LegalTrace c.args.p.now t.steps z) same whole.legal in
    record {
      legal = legal;
      only = traces_are_one c.args.p.now _ t.steps legal;
      refines = subst (λ (z : Plan). Refines z c.args.p.now) same whole.refines;
    }
