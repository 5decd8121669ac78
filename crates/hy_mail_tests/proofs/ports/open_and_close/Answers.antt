use Rattle.std.proofs.Common.{◌≡◌, ◌∙◌, eq-eqb, refl, subst, sym, true}
use Rattle.hy_frame.specs.declared.writer.WriterState.TheVariants.{Opened}
use Rattle.hy_mail.specs.declared.parcel.Parcel.TheVariants.{Open, Close}
use Rattle.hy_mail.specs.Events.{Put, word_after}
use Rattle.hy_mail.specs.Words.{may}
use Rattle.hy_mail_tests.proofs.ports.open_and_close.Goals as goal

pub put-requires-2-clause-fits : goal.put-requires-2-clause-fits
put-requires-2-clause-fits g c =
    let m = c.args.mailbox in
    let same = eq-eqb m m refl in
    let word : g.P.Port.word c.put.new.self m ≡ Opened = g.met.P.Port.words c.args.port.now c.put.new.self (Put m Open) m c.in-Put.ensures.put ∙ rw same refl in
    subst (λ w. may w Close ≡ true) (sym word) refl
