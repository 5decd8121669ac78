use Rattle.std.proofs.Common.{◌∷◌, [], ◌≡◌, reverse, ap, arith, subst}
use Rattle.al_rule.specs.Walks.{Finds, FindsIn, turned, turned_round}
use Rattle.al_rule.proofs.PlaceLaws.{input_smaller}
use Rattle.al_rule.proofs.WalkLaws.{none_of, ok_more, root_found, past_root_from, found_here, later_from, found_none, part_found, found_below, turned_below}
use Rattle.al_rule.proofs.find.+seek.Goals as goal

pub seek-returns-in-Some-first_rule : goal.seek-returns-in-Some-first_rule
seek-returns-in-Some-first_rule g t c =
    root_found (g.S.RuleSet.rules_of c.args.set.now) c.args.from.now (reverse c.new.result) c.args.p.now c.in-Some-first_rule.rule (none_of c.args.from.now c.in-None.ensures.cases) (ap reverse c.new.ensures) c.in-Some-first_rule.ensures.0 c.in-Some-first_rule.ensures.1 c.in-Some-first_rule.ensures.2

pub seek-returns-in-None-first_rule : goal.seek-returns-in-None-first_rule
seek-returns-in-None-first_rule g t c =
    let rules = g.S.RuleSet.rules_of c.args.set.now in
    let empty : c.args.from.now ≡ [] = none_of c.args.from.now c.in-None.ensures.cases in
    ok_more (λ r. Finds rules (0 ∷ c.args.from.now) c.args.p.now (turned r)) (λ r. Finds rules c.args.from.now c.args.p.now (turned r)) c.seek_below-in-None-first_rule.result
    (λ r h. past_root_from rules c.args.from.now c.args.p.now empty c.in-None-first_rule.ensures (turned r) h) c.seek_below-in-None-first_rule.ensures

pub seek_below-returns-in-Some : goal.seek_below-returns-in-Some
seek_below-returns-in-Some g t c =
    let rules = g.S.RuleSet.rules_of c.args.set.now in
    found_here rules c.args.i c.args.from.now c.args.p.now (turned_round c.in-Some.found) (subst (λ r. FindsIn rules c.args.i c.args.from.now c.args.p.now (turned r)) c.in-Some.is c.in_ok-found.ensures)

pub seek_below-returns-in-None : goal.seek_below-returns-in-None
seek_below-returns-in-None g t c =
    let rules = g.S.RuleSet.rules_of c.args.set.now in
    let first = subst (λ r. FindsIn rules c.args.i c.args.from.now c.args.p.now (turned r)) c.in-None.is c.in_ok-found.ensures in
    ok_more (λ r. FindsIn rules 1 [] c.args.p.now (turned r)) (λ r. Finds rules (c.args.i ∷ c.args.from.now) c.args.p.now (turned r)) c.seek_in-in-None.result
    (λ r h. later_from rules c.args.i c.args.from.now c.args.p.now c.if-i-eq0.true first (turned r) h) c.seek_in-in-None.ensures

pub seek_below-returns-in-None-2 : goal.seek_below-returns-in-None-2
seek_below-returns-in-None-2 g t c =
    let rules = g.S.RuleSet.rules_of c.args.set.now in
    found_none rules c.args.i c.args.from.now c.args.p.now c.if-i-eq0.false (subst (λ r. FindsIn rules c.args.i c.args.from.now c.args.p.now (turned r)) c.in-None-2.is c.in_ok-found.ensures)

pub seek_in-seek-requires : goal.seek_in-seek-requires
seek_in-seek-requires g t c κs within =
    let fewer = input_smaller c.args.p.now c.args.i c.in-Some.part.now c.in-Some.ensures in
    (omega (arith, c.decreases, fewer), within)

pub seek_in-returns-in-None-2 : goal.seek_in-returns-in-None-2
seek_in-returns-in-None-2 g t c =
    let rules = g.S.RuleSet.rules_of c.args.set.now in
    part_found rules c.args.i c.args.from.now c.args.p.now c.in-Some.part.now c.in-Some.ensures (subst (λ r. Finds rules c.args.from.now c.in-Some.part.now (turned r)) c.in-None-2.is c.in_ok-seek-in-Some.ensures)

pub seek_in-returns-in_ok-below-in-Some-2 : goal.seek_in-returns-in_ok-below-in-Some-2
seek_in-returns-in_ok-below-in-Some-2 g t c =
    let rules = g.S.RuleSet.rules_of c.args.set.now in
    let found = subst (λ r. Finds rules c.args.from.now c.in-Some.part.now (turned r)) c.in-Some-2.is c.in_ok-seek-in-Some.ensures in
    found_below rules c.args.i c.args.from.now c.args.p.now c.in-Some.part.now (turned_round c.in-Some-2.found) (turned_round c.in_ok-below-in-Some-2.field-0) c.in-Some.ensures found c.in_ok-below-in-Some-2.ensures.0
    (turned_below c.args.i c.in-Some-2.found.place.children c.in_ok-below-in-Some-2.field-0.place.children c.in_ok-below-in-Some-2.ensures.1)
