use Rattle.hy_input.proofs.Hands.{some_left}
use Rattle.hy_input.proofs.input.Input.go_on.Goals as goal

pub returns-then-self-rows-clause-some : goal.returns-then-self-rows-clause-some
returns-then-self-rows-clause-some c = λ t.
    some_left c.args.self.now c.self.inside.taker c.self.inside.from c.self.inside.frame c.self.inside.next c.self.inside.given_up c.in-Some.frame c.rows.result c.self.view_is c.in-Some.is c.rows.ensures.rows c.if-self-rows.true
