use Rattle.std.proofs.Common.{ap, refl}
use Rattle.hy_frame.specs.Bank.{BankOf}
use Rattle.hy_mail.specs.declared.parcel.Parcel.TheVariants as P
use Rattle.hy_connect.proofs.Exporting.{posted_exports}
use Rattle.hy_connect.proofs.outlet.Outlet.send.Goals as goal

pub returns-clause-exports : goal.returns-clause-exports
returns-clause-exports c = posted_exports (P.Frame c.export.result) c.args.self.now c.reserve.new.self c.post.new.self c.args.bank.now c.export.new.self refl
    c.reserve.ensures.grows.waits c.post.ensures (ap (λ (b : BankOf). b.exported) c.export.ensures.bank) (ap (λ (b : BankOf). b.imported) c.export.ensures.bank)
