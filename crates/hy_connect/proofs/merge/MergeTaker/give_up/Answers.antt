use Rattle.hy_connect.proofs.Merger.{call_gave_back, call_gave_up}
use Rattle.hy_connect.proofs.merge.MergeTaker.give_up.Goals as goal

pub returns-clause-told : goal.returns-clause-told
returns-clause-told c =
    let i = c.self.inside in
    call_gave_up c.args.self.now i.keys i.sources.items i.current i.given_up c.self.view_is c.give_all_back.new.sources.items c.give_all_back.ensures.sources

pub returns-clause-bank : goal.returns-clause-bank
returns-clause-bank c =
    let i = c.self.inside in
    call_gave_back c.args.self.now i.keys i.sources.items i.current i.given_up c.self.view_is c.give_all_back.new.sources.items c.args.bank.now c.give_all_back.new.bank c.give_all_back.ensures.sources c.give_all_back.ensures.bank
