use Rattle.std.proofs.Common.{ap, refl}
use Rattle.hy_frame.specs.Bank.{BankOf}
use Rattle.hy_connect.specs.Outlets.{OutletOf}
use Rattle.hy_mail.specs.declared.parcel.Parcel.TheVariants as P
use Rattle.hy_connect.proofs.Exporting.{posted_exports}
use Rattle.hy_connect.proofs.outlet.Outlet.flush.Goals as goal

pub returns-clause-exports : goal.returns-clause-exports
returns-clause-exports c = posted_exports (P.Frame c.export.result) c.args.self.now c.take_filling.new.self c.post.new.self c.args.bank.now c.export.new.self refl
    (ap (λ (o : OutletOf). o.waits) c.take_filling.ensures.after) c.post.ensures (ap (λ (b : BankOf). b.exported) c.export.ensures.bank) (ap (λ (b : BankOf). b.imported) c.export.ensures.bank)
