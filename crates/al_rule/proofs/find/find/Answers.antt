use Rattle.std.proofs.Common.{Some, ap, subst, sym}
use Rattle.al_rule.specs.Walks.{Finds, turned}
use Rattle.al_rule.proofs.find.find.Goals as goal

pub returns-in-Some : goal.returns-in-Some
returns-in-Some g c =
    let rules = g.S.RuleSet.rules_of c.args.set.now in
    let here = subst (λ r. Finds rules c.args.from.now c.args.p.now (turned r)) c.in-Some.is c.in_ok-found.ensures in
    subst (Finds rules c.args.from.now c.args.p.now) (ap (λ f. Some f) (sym c.turn_round.ensures)) here

pub returns-in-None : goal.returns-in-None
returns-in-None g c =
    subst (λ r. Finds (g.S.RuleSet.rules_of c.args.set.now) c.args.from.now c.args.p.now (turned r)) c.in-None.is c.in_ok-found.ensures
