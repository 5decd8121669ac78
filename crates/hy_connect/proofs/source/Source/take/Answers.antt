use Rattle.std.proofs.Common.{ap, ◌∙◌}
use Rattle.hy_connect.specs.Sources.{SourceOf}
use Rattle.hy_connect.proofs.Merger.{frame_told}
use Rattle.hy_connect.proofs.source.Source.take.Goals as goal

pub returns-in-Frame-clause-told : goal.returns-in-Frame-clause-told
returns-in-Frame-clause-told g c =
    let bared = c.give_back.ensures.source in
    frame_told g.P.Port.happens c.args.port.now c.take_one.new.port c.args.bank.now c.give_back.new.bank c.import.new.self c.args.hands_on c.args.self.now c.give_back.new.self c.keep.new.self c.in-Frame.sent c.import.result c.in-Some.parcel c.self.inside.mailbox c.keep.result
    bared c.give_back.ensures.bank c.import.ensures.bank c.import.ensures.frame c.in-Frame.is (ap (λ (x : SourceOf). x.mailbox) (c.self.view_is ∙ bared)) c.in-Some.ensures.took c.keep.ensures.handed c.keep.ensures.kept
