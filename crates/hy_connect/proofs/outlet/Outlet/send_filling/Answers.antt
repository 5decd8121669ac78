use Rattle.std.proofs.Common.{length, ap, sym, subst, ◌∙◌, arith}
use Rattle.std.proofs.lemmas.Result.{on_err_weaker, on_ok_weaker}
use Rattle.hy_connect.specs.Outlets.{OutletOf, Grows, Sends}
use Rattle.hy_connect.proofs.Adding.{some_empties, some_loses}
use Rattle.hy_connect.proofs.Waiting.{sent_waits}
use Rattle.hy_connect.proofs.outlet.Outlet.send_filling.Goals as goal

pub returns-clause-ok : goal.returns-clause-ok
returns-clause-ok c = on_ok_weaker c.send.result
    (λ sent arity is. some_empties arity c.args.self.now c.send.new.self c.in-Some.frame (sym c.take_filling.ensures.frame ∙ c.in-Some.is) is
    (subst (λ (o : OutletOf). Sends o c.in-Some.frame c.send.new.self) c.take_filling.ensures.after sent))
    c.send.ensures.ok

pub returns-clause-err : goal.returns-clause-err
returns-clause-err c = on_err_weaker c.send.result
    (λ grows arity is. some_loses arity c.args.self.now c.send.new.self is (subst (λ (o : OutletOf). Grows o c.send.new.self) c.take_filling.ensures.after grows))
    c.send.ensures.err

pub returns-clause-parcels : goal.returns-clause-parcels
returns-clause-parcels c =
    let h = sent_waits c.send.result c.take_filling.new.self c.send.new.self c.in-Some.frame c.send.ensures.ok c.send.ensures.err in
    let e = ap (λ (o : OutletOf). length o.waits) c.take_filling.ensures.after in
    omega arith
