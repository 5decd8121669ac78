use Rattle.std.proofs.Common.{◌≡◌, ◌∙◌, ℕ, subst, sym}
use Rattle.hy_mail.specs.Desks.{DeskState, Sends, box, word_of}
use Rattle.hy_connect.specs.Writers.{IsAsFar, outlet}
use Rattle.hy_mail.specs.declared.desk.DeskPort.{DeskPort}
use Rattle.hy_wire_runs.proofs.DeskRuns.{AtDesk, steps_at}
use Rattle.hy_wire_runs.proofs.LineRuns.{line_sends, line_wide, nothing_waits, offer_goes}
use Rattle.hy_wire_runs.proofs.line.Line.offer.Goals as goal

pub offer-requires-clause-sends : goal.offer-requires-clause-sends
offer-requires-clause-sends c =
    let l = c.args.self.now in
    let e = c.port.ensures in
    λ k low. subst (λ (t : ℕ). Sends c.port.result.desk.now t (outlet l.writer k).mailbox) (sym e.task)
    (subst (λ (d : DeskState). Sends d 0 (outlet l.writer k).mailbox) (sym e.desk) (line_sends l.first l.behind l.writer l.desk c.requires k low))

pub offer-requires-clause-arity : goal.offer-requires-clause-arity
offer-requires-clause-arity c =
    let l = c.args.self.now in
    λ k low. subst (λ (d : DeskState). (box d (outlet l.writer k).mailbox).arity ≡ l.writer.arity) (sym c.port.ensures.desk) (line_wide l.first l.behind l.writer l.desk c.requires k low)

pub returns-clause-all : goal.returns-clause-all
returns-clause-all c =
    let p : DeskPort = c.port.result in
    let q : DeskPort = c.offer.new.port in
    nothing_waits AtDesk p q c.args.self.now.writer c.offer.new.self c.offer.result c.offer.ensures.told

pub returns-clause-line : goal.returns-clause-line
returns-clause-line c =
    let l = c.args.self.now in
    let e = c.port.ensures in
    let p : DeskPort = c.port.result in
    let q : DeskPort = c.offer.new.port in
    offer_goes l.first l.behind l.writer l.desk c.requires AtDesk (λ (x : DeskPort). x.desk.now) p q c.offer.new.self c.offer.result c.offer.ensures.told e.desk (steps_at 0 l.desk p q e.desk e.task)
    (subst (λ (t : ℕ). IsAsFar (word_of q.desk.now t) c.offer.new.self) (c.offer.ensures.kept.1 ∙ e.task) c.offer.ensures.words)
