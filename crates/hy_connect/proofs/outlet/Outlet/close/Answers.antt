use Rattle.std.proofs.Common.{refl}
use Rattle.hy_mail.specs.declared.parcel.Parcel.TheVariants as P
use Rattle.hy_connect.proofs.Exporting.{mark_exports}
use Rattle.hy_connect.proofs.outlet.Outlet.close.Goals as goal

pub returns-clause-exports : goal.returns-clause-exports
returns-clause-exports c = mark_exports P.Close _ c.flush.new.self c.post.new.self c.args.bank.now c.flush.new.bank refl c.post.ensures c.flush.ensures.exports
