use Rattle.std.proofs.lemmas.Bool.{ltb-true}
use Rattle.hy_input.proofs.Hands.{some_left}
use Rattle.hy_input.proofs.input.Input.has_left.Goals as goal

pub returns-clause-yes : goal.returns-clause-yes
returns-clause-yes c = λ low. some_left c.args.self.now c.self.inside.taker c.self.inside.from c.self.inside.frame c.self.inside.next c.self.inside.given_up c.in-Some.frame c.rows.result c.self.view_is c.in-Some.is c.rows.ensures.rows (ltb-true c.self.inside.next c.rows.result low)
