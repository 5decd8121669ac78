use Rattle.std.proofs.Common.{ℕ, sym, subst}
use Rattle.hy_connect.specs.Outlets.{Lent}
use Rattle.hy_driver.specs.declared.phase.Phase.TheVariants.{GivenUp}
use Rattle.hy_output.specs.Outputs.{held as held_out}
use Rattle.hy_worker.specs.Worker.{IsWhole, WorkerOf, worker_of}
use Rattle.hy_worker.proofs.GivingUp.{inputs_gave}
use Rattle.hy_worker.proofs.Keeping.{output_held, room_to_take, whole_output}
use Rattle.hy_worker.proofs.pipeline.Pipeline.give_up.Goals as goal

pub fail-requires-clause-held : goal.fail-requires-clause-held
fail-requires-clause-held g c =
    let p = c.args.self.now in
    let d = c.give_up.new.self in
    let s = g.D.Driver.seen d in
    let ys = c.give_inputs_up.new.inputs.items in
    let w : WorkerOf = worker_of p.inputs.items (g.D.Driver.seen p.operator) p.output p.ended.items p.phase (g.D.Driver.stored p.operator) (g.D.Driver.hands p.operator) in
    let v : WorkerOf = worker_of ys s p.output p.ended.items GivenUp (g.D.Driver.stored d) (g.D.Driver.hands d) in
    let whole : IsWhole v c.give_inputs_up.new.bank =
    inputs_gave w c.args.bank.now c.give_up.new.bank c.give_inputs_up.new.bank s ys GivenUp (g.D.Driver.stored d) (g.D.Driver.hands d) c.requires.whole c.give_up.ensures.given_up c.give_up.ensures.bank c.give_up.ensures.fixed c.give_up.ensures.faults
    c.give_inputs_up.ensures.inputs c.give_inputs_up.ensures.bank in
    output_held v c.give_inputs_up.new.bank whole

pub fail-requires-clause-room : goal.fail-requires-clause-room
fail-requires-clause-room g c =
    let p = c.args.self.now in
    let d = c.give_up.new.self in
    let s = g.D.Driver.seen d in
    let ys = c.give_inputs_up.new.inputs.items in
    let w : WorkerOf = worker_of p.inputs.items (g.D.Driver.seen p.operator) p.output p.ended.items p.phase (g.D.Driver.stored p.operator) (g.D.Driver.hands p.operator) in
    let v : WorkerOf = worker_of ys s p.output p.ended.items GivenUp (g.D.Driver.stored d) (g.D.Driver.hands d) in
    let whole : IsWhole v c.give_inputs_up.new.bank =
    inputs_gave w c.args.bank.now c.give_up.new.bank c.give_inputs_up.new.bank s ys GivenUp (g.D.Driver.stored d) (g.D.Driver.hands d) c.requires.whole c.give_up.ensures.given_up c.give_up.ensures.bank c.give_up.ensures.fixed c.give_up.ensures.faults
    c.give_inputs_up.ensures.inputs c.give_inputs_up.ensures.bank in
    room_to_take v c.give_inputs_up.new.bank whole

pub returns-clause-whole : goal.returns-clause-whole
returns-clause-whole g c =
    let p = c.args.self.now in
    let d = c.give_up.new.self in
    let s = g.D.Driver.seen d in
    let ys = c.give_inputs_up.new.inputs.items in
    let w : WorkerOf = worker_of p.inputs.items (g.D.Driver.seen p.operator) p.output p.ended.items p.phase (g.D.Driver.stored p.operator) (g.D.Driver.hands p.operator) in
    let v : WorkerOf = worker_of ys s p.output p.ended.items GivenUp (g.D.Driver.stored d) (g.D.Driver.hands d) in
    let whole : IsWhole v c.give_inputs_up.new.bank =
    inputs_gave w c.args.bank.now c.give_up.new.bank c.give_inputs_up.new.bank s ys GivenUp (g.D.Driver.stored d) (g.D.Driver.hands d) c.requires.whole c.give_up.ensures.given_up c.give_up.ensures.bank c.give_up.ensures.fixed c.give_up.ensures.faults
    c.give_inputs_up.ensures.inputs c.give_inputs_up.ensures.bank in
    whole_output v c.give_inputs_up.new.bank whole c.fail.new.self GivenUp c.fail.new.bank c.fail.ensures.arity c.fail.ensures.unit c.fail.ensures.told.still (λ e. c.fail.ensures.filling)
    (subst (λ (n : ℕ). Lent (held_out p.output) n c.give_inputs_up.new.bank c.fail.new.bank) (sym c.fail.ensures.empty) c.fail.ensures.bank)
