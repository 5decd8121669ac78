use Rattle.std.proofs.Common.{◌<◌, ℕ, List, length, subst, ap, ◌∙◌, arith}
use Rattle.hy_mail.specs.Events.{Full, Put}
use Rattle.hy_connect.specs.Outlets.{OutletOf, outlet_at}
use Rattle.hy_connect.specs.Writers.{WriterOf}
use Rattle.hy_connect.proofs.Closing.{full_words, put_held, put_told, put_words}
use Rattle.hy_connect.proofs.Fronts.{read_at}
use Rattle.hy_connect.proofs.writer.WireWriter.offer.Goals as goal

pub returns-then-put_first-clause-told : goal.returns-then-put_first-clause-told
returns-then-put_first-clause-told g c =
    let i = c.self.inside in
    let xs = i.outlets.items in
    let k = c.in-Some.k in
    let value = c.deref.ensures.value in
    let there = c.in-Some.ensures.there in
    let low : k < length xs = omega (arith, ap (λ (l : List OutletOf). length l) value) in
    let here = c.index_mut.ensures.value ∙ read_at xs k c.index_mut.result.now low in
    let put = c.put_first.ensures.put c.if-put_first.true in (
      k,
      put.0,
      put_told c.args.self.now i.route i.arity i.unit xs i.state k put.0 c.index_mut.result.now c.put_first.new.outlet c.self.view_is c.self.invariant low here put.1,
      subst (λ (m : ℕ). g.P.Port.happens c.args.port.now (Put m put.0) c.put_first.new.port) (ap (λ (o : OutletOf). o.mailbox) here ∙ ap (λ (w : WriterOf). (outlet_at w.outlets k).mailbox) c.self.view_is) put.2,
    )

pub returns-then-put_first-clause-words : goal.returns-then-put_first-clause-words
returns-then-put_first-clause-words g c =
    let i = c.self.inside in
    let xs = i.outlets.items in
    let k = c.in-Some.k in
    let value = c.deref.ensures.value in
    let there = c.in-Some.ensures.there in
    let low : k < length xs = omega (arith, ap (λ (l : List OutletOf). length l) value) in
    let here = c.index_mut.ensures.value ∙ read_at xs k c.index_mut.result.now low in
    let put = c.put_first.ensures.put c.if-put_first.true in
    put_words c.args.self.now i.route i.arity i.unit xs i.state k put.0 c.index_mut.result.now c.put_first.new.outlet (g.P.Port.word c.args.port.now) (g.P.Port.word c.put_first.new.port) c.self.view_is c.self.invariant low here put.1
    (λ m. g.met.P.Port.words c.args.port.now c.put_first.new.port (Put c.index_mut.result.now.mailbox put.0) m put.2) c.requires.words

pub returns-clause-words : goal.returns-clause-words
returns-clause-words g c =
    let i = c.self.inside in
    let xs = i.outlets.items in
    let k = c.in-Some.k in
    let value = c.deref.ensures.value in
    let there = c.in-Some.ensures.there in
    let low : k < length xs = omega (arith, ap (λ (l : List OutletOf). length l) value) in
    let here = c.index_mut.ensures.value ∙ read_at xs k c.index_mut.result.now low in
    let full = c.put_first.ensures.full c.if-put_first.false in
    full_words c.args.self.now i.route i.arity i.unit xs i.state k c.index_mut.result.now c.put_first.new.outlet (g.P.Port.word c.args.port.now) (g.P.Port.word c.put_first.new.port) c.self.view_is low here full.0
    (λ m. g.met.P.Port.words c.args.port.now c.put_first.new.port (Full c.index_mut.result.now.mailbox) m full.1) c.requires.words

pub returns-then-put_first-clause-held : goal.returns-then-put_first-clause-held
returns-then-put_first-clause-held g c =
    let i = c.self.inside in
    let xs = i.outlets.items in
    let k = c.in-Some.k in
    let value = c.deref.ensures.value in
    let there = c.in-Some.ensures.there in
    let low : k < length xs = omega (arith, ap (λ (l : List OutletOf). length l) value) in
    let here = c.index_mut.ensures.value ∙ read_at xs k c.index_mut.result.now low in
    put_held c.args.self.now i.route i.arity i.unit xs i.state k c.index_mut.result.now c.put_first.new.outlet c.self.view_is low here (c.put_first.ensures.put c.if-put_first.true).1.filling

pub returns-clause-held : goal.returns-clause-held
returns-clause-held g c =
    let i = c.self.inside in
    let xs = i.outlets.items in
    let k = c.in-Some.k in
    let value = c.deref.ensures.value in
    let there = c.in-Some.ensures.there in
    let low : k < length xs = omega (arith, ap (λ (l : List OutletOf). length l) value) in
    let here = c.index_mut.ensures.value ∙ read_at xs k c.index_mut.result.now low in
    put_held c.args.self.now i.route i.arity i.unit xs i.state k c.index_mut.result.now c.put_first.new.outlet c.self.view_is low here (ap (λ (o : OutletOf). o.filling) (c.put_first.ensures.full c.if-put_first.false).0)
