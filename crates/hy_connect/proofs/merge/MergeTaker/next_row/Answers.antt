use Rattle.hy_connect.proofs.Merger.{call_end, call_need, call_row}
use Rattle.hy_connect.proofs.merge.MergeTaker.next_row.Goals as goal

pub returns-in-Some : goal.returns-in-Some
returns-in-Some c =
    let i = c.self.inside in
    record { told = call_need c.args.self.now i.keys i.sources.items i.current i.given_up c.self.view_is c.let_all_go.new.sources.items c.deref.result.now c.args.bank.now c.let_all_go.new.bank c.let_all_go.ensures.sources c.deref.ensures.value c.let_all_go.ensures.bank c.in-Some.s c.in-Some.ensures.some }

pub returns-in_default-least_of : goal.returns-in_default-least_of
returns-in_default-least_of c =
    let i = c.self.inside in
    record {
      told = call_end c.args.self.now i.keys i.sources.items i.current i.given_up c.self.view_is c.let_all_go.new.sources.items c.deref.result.now c.args.bank.now c.let_all_go.new.bank c.let_all_go.ensures.sources c.deref.ensures.value c.let_all_go.ensures.bank
          c.deref-2.result.now c.deref-2.ensures.value c.in_default.ensures.none c.in_default-least_of.ensures;
    }

pub returns : goal.returns
returns c =
    let i = c.self.inside in
    record {
      told = call_row c.args.self.now i.keys i.sources.items i.current i.given_up c.self.view_is c.let_all_go.new.sources.items c.deref.result.now c.args.bank.now c.let_all_go.new.bank c.let_all_go.ensures.sources c.deref.ensures.value c.let_all_go.ensures.bank
          c.deref-2.result.now c.as_slice.result.now c.in-Some-least_of.k c.index_mut.result.now c.advance.new.self c.deref-2.ensures.value c.as_slice.ensures c.in_default.ensures.none c.in-Some-least_of.ensures c.index_mut.ensures.value c.advance.ensures;
    }
