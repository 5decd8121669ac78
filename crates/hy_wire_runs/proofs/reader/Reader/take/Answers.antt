use Rattle.std.proofs.Common.{◌≡◌, ◌∙◌, ℕ, length, rules, subst, sym}
use Rattle.hy_mail.specs.declared.desk.DeskPort.{DeskPort}
use Rattle.hy_mail.specs.Desks.{DeskState, Receives, box}
use Rattle.hy_wire_runs.specs.Desks.{IsDesk}
use Rattle.hy_wire_runs.proofs.DeskRuns.{AtDesk, one_sends, receives_box, steps_at}
use Rattle.hy_wire_runs.proofs.ReadRuns.{take_stays}
use Rattle.hy_wire_runs.proofs.reader.Reader.take.Goals as goal

pub take-requires-clause-receives : goal.take-requires-clause-receives
take-requires-clause-receives c =
    let m = c.args.self.now.taker.mailbox in
    let e = c.port.ensures in
    λ going. subst (λ (t : ℕ). Receives c.port.result.desk.now t m) (sym e.task)
    (subst (λ (d : DeskState). Receives d 1 m) (sym e.desk) (receives_box c.args.desk.now c.requires.desk m c.requires.reader.there))

pub take-requires-clause-senders : goal.take-requires-clause-senders
take-requires-clause-senders c =
    let m = c.args.self.now.taker.mailbox in
    λ going. subst (λ (d : DeskState). length (box d m).senders ≡ 1) (sym c.port.ensures.desk) (one_sends c.args.desk.now c.requires.desk m c.requires.reader.there) ∙ sym c.requires.reader.one

pub returns-clause-desk : goal.returns-clause-desk
returns-clause-desk c =
    let e = c.port.ensures in
    let p : DeskPort = c.port.result in
    let q : DeskPort = c.take.new.port in
    let d = c.args.desk.now in
    let here : IsDesk q.desk.now = take_stays AtDesk (λ (x : DeskPort). x.desk.now) p q d e.desk c.requires.desk (steps_at 1 d p q e.desk e.task) c.args.self.now.taker c.take.new.self c.args.self.now.bank c.take.new.bank c.take.result c.take.ensures.told in
    subst IsDesk (search rules) here
