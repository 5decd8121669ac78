use Rattle.std.proofs.Common.{◌≡◌, ℕ, length, rules, subst, sym}
use Rattle.hy_mail.specs.declared.desk.DeskPort.{DeskPort}
use Rattle.hy_mail.specs.Desks.{DeskState, Receives, box}
use Rattle.hy_connect.specs.Merges.{source}
use Rattle.hy_wire_runs.specs.Desks.{IsDesk}
use Rattle.hy_wire_runs.proofs.DeskRuns.{AtDesk, steps_at}
use Rattle.hy_wire_runs.proofs.MergeRuns.{merge_alone, merge_receives, more_goes, more_stays, room}
use Rattle.hy_wire_runs.proofs.merging.take.Goals as goal

pub take-requires-clause-receives : goal.take-requires-clause-receives
take-requires-clause-receives c =
    let m = c.args.taker.now in
    let e = c.port.ensures in
    λ s low. subst (λ (t : ℕ). Receives c.port.result.desk.now t (source m s).mailbox) (sym e.task)
    (subst (λ (d : DeskState). Receives d 1 (source m s).mailbox) (sym e.desk) (merge_receives m c.args.desk.now c.requires.hand.to c.requires.desk s low))

pub take-requires-clause-one : goal.take-requires-clause-one
take-requires-clause-one c =
    let m = c.args.taker.now in
    λ s low. subst (λ (d : DeskState). length (box d (source m s).mailbox).senders ≡ 1) (sym c.port.ensures.desk) (merge_alone m c.args.desk.now c.requires.hand.to c.requires.desk s low)

pub take-requires-clause-room : goal.take-requires-clause-room
take-requires-clause-room c = room c.args.taker.now c.args.bank.now c.requires.hand

pub returns-clause-desk : goal.returns-clause-desk
returns-clause-desk c =
    let e = c.port.ensures in
    let p : DeskPort = c.port.result in
    let q : DeskPort = c.take.new.port in
    let d = c.args.desk.now in
    let here : IsDesk q.desk.now = more_stays AtDesk (λ (x : DeskPort). x.desk.now) p q d e.desk c.requires.desk (steps_at 1 d p q e.desk e.task) c.args.taker.now c.take.new.self c.args.bank.now c.take.new.bank c.take.result c.take.ensures.told in
    subst IsDesk (search rules) here

pub returns-clause-hand : goal.returns-clause-hand
returns-clause-hand c =
    let e = c.port.ensures in
    let p : DeskPort = c.port.result in
    let q : DeskPort = c.take.new.port in
    let d = c.args.desk.now in
    more_goes AtDesk (λ (x : DeskPort). x.desk.now) p q d e.desk c.requires.desk (steps_at 1 d p q e.desk e.task) c.args.taker.now c.take.new.self c.args.bank.now c.take.new.bank c.take.result c.take.ensures.told c.requires.hand
