use Rattle.std.proofs.Common.{[], ◌∷◌, length, get_or, subst, refl, sym}
use Rattle.std.proofs.lemmas.Result.{on_err_weaker, on_ok_weaker}
use Rattle.hy_driver.specs.Rows.{values_of}
use Rattle.hy_frame.specs.Row.{Fields, row_size}
use Rattle.hy_connect.specs.Filling.{StaysWithin, StopsWithin}
use Rattle.hy_connect.proofs.Filling.{all_stay, all_stop, none_stop}
use Rattle.hy_connect.specs.declared.route.Route.TheVariants.{ByHash}
use Rattle.hy_connect.specs.Outlets.{OutletOf, Adds, Cuts, IsOutlet}
use Rattle.hy_connect.proofs.Adding.{err_given}
use Rattle.hy_connect.proofs.Exporting.{exports_at}
use Rattle.hy_connect.proofs.Fronts.{read_at}
use Rattle.hy_connect.proofs.Held.{held_here, lent_at, room_here}
use Rattle.hy_connect.proofs.Spreading.{rips_none, row_rips, row_spreads}
use Rattle.hy_connect.proofs.Waiting.{none_wait, waits_set}
use Rattle.hy_connect.proofs.spread.spread_row.Goals as goal

pub returns-in_err-copy_from-clause-err : goal.returns-in_err-copy_from-clause-err
returns-in_err-copy_from-clause-err c = err_given c.from_residual.result
    (λ columns part. rips_none (ByHash columns) (length c.args.row.now) c.args.outlets.now (values_of c.args.row.now ∷ []) c.requires.outlets)

pub append-requires-clause-held : goal.append-requires-clause-held
append-requires-clause-held c = held_here c.args.outlets.now c.args.k c.args.bank.now.out c.index-outlets-k.result c.requires.there c.requires.held

pub append-requires-clause-room : goal.append-requires-clause-room
append-requires-clause-room c = room_here c.args.outlets.now c.args.k c.args.bank.now.out c.args.bank.now.limit c.index-outlets-k.result c.requires.there c.requires.room

pub append-requires-clause-outlet : goal.append-requires-clause-outlet
append-requires-clause-outlet c =
    subst (λ (r : Fields). IsOutlet (length r) 2 (get_or c.args.outlets.now c.args.k c.index-outlets-k.result)) (sym c.in_ok-copy_from.ensures.ok)
    (subst (IsOutlet (length c.args.row.now) 2) (sym (read_at c.args.outlets.now c.args.k c.index-outlets-k.result c.requires.there)) (c.requires.outlets c.args.k c.requires.there))

pub returns-clause-ok : goal.returns-clause-ok
returns-clause-ok c = on_ok_weaker c.append.result
    (λ adds columns part. row_spreads columns (length c.args.row.now) c.args.k c.args.outlets.now c.append.new.self (values_of c.args.row.now) part c.requires.there c.requires.outlets
    (subst (λ (o : OutletOf). Adds (length c.args.row.now) o (values_of c.args.row.now ∷ []) c.append.new.self) (read_at c.args.outlets.now c.args.k c.index-outlets-k.result c.requires.there)
    (subst (λ (r : Fields). Adds (length r) (get_or c.args.outlets.now c.args.k c.index-outlets-k.result) (values_of r ∷ []) c.append.new.self) c.in_ok-copy_from.ensures.ok adds)))
    c.append.ensures.ok

pub returns-clause-err : goal.returns-clause-err
returns-clause-err c = on_err_weaker c.append.result
    (λ cuts columns part. row_rips columns (length c.args.row.now) c.args.k c.args.outlets.now c.append.new.self (values_of c.args.row.now) part c.requires.there c.requires.outlets
    (subst (λ (o : OutletOf). Cuts (length c.args.row.now) o (values_of c.args.row.now ∷ []) c.append.new.self) (read_at c.args.outlets.now c.args.k c.index-outlets-k.result c.requires.there)
    (subst (λ (r : Fields). Cuts (length r) (get_or c.args.outlets.now c.args.k c.index-outlets-k.result) (values_of r ∷ []) c.append.new.self) c.in_ok-copy_from.ensures.ok cuts)))
    c.append.ensures.err

pub returns-clause-bank : goal.returns-clause-bank
returns-clause-bank c = lent_at c.args.outlets.now c.args.k _ c.index-outlets-k.result c.append.new.self c.args.bank.now c.append.new.bank c.requires.there refl c.append.ensures.bank

pub returns-in_err-copy_from-clause-parcels : goal.returns-in_err-copy_from-clause-parcels
returns-in_err-copy_from-clause-parcels c = none_wait 1 c.args.outlets.now

pub returns-clause-parcels : goal.returns-clause-parcels
returns-clause-parcels c = waits_set 1 c.args.outlets.now c.args.k c.index-outlets-k.result c.append.new.self c.requires.there c.append.ensures.parcels

pub returns-clause-exports : goal.returns-clause-exports
returns-clause-exports c = exports_at c.args.outlets.now c.args.k c.index-outlets-k.result c.append.new.self c.args.bank.now c.append.new.bank c.requires.there c.append.ensures.exports

pub returns-clause-stays : goal.returns-clause-stays
returns-clause-stays c = on_ok_weaker c.append.result
    (λ s. all_stay c.args.bank.now.unit (row_size c.args.row.now) c.args.outlets.now c.args.k c.index-outlets-k.result c.append.new.self c.requires.there
    (subst (λ (r : Fields). StaysWithin c.args.bank.now.unit (row_size r) (get_or c.args.outlets.now c.args.k c.index-outlets-k.result) c.append.new.self) c.in_ok-copy_from.ensures.ok s))
    c.append.ensures.stays

pub returns-clause-stops : goal.returns-clause-stops
returns-clause-stops c = on_err_weaker c.append.result
    (λ s. all_stop c.args.bank.now.unit (row_size c.args.row.now) c.args.outlets.now c.args.k c.index-outlets-k.result c.append.new.self c.requires.there
    (subst (λ (r : Fields). StopsWithin c.args.bank.now.unit (row_size r) (get_or c.args.outlets.now c.args.k c.index-outlets-k.result) c.append.new.self) c.in_ok-copy_from.ensures.ok s))
    c.append.ensures.stops

pub returns-in_err-copy_from-clause-stops : goal.returns-in_err-copy_from-clause-stops
returns-in_err-copy_from-clause-stops c = err_given c.from_residual.result (none_stop c.args.bank.now.unit (row_size c.args.row.now) c.args.outlets.now)
