use Rattle.std.proofs.Common.{◌≡◌, ◌<◌, ◌+◌, ℕ, List, [], ◌∷◌, length, take, subst, sym, ap, ◌∙◌, inl, arith}
use Rattle.hy_frame.specs.FrameText.{FrameText, taken}
use Rattle.hy_frame.specs.Row.{Fields, row_size}
use Rattle.hy_connect.specs.Filling.{AllStay, AllStop, AllWithin}
use Rattle.hy_connect.proofs.Filling.{one_more_waits, room_for, taken_next, within_more_wait}
use Rattle.hy_job.specs.Columns.{part_of}
use Rattle.hy_driver.specs.Rows.{Row, values_of}
use Rattle.hy_connect.specs.declared.route.Route.TheVariants.{ByHash}
use Rattle.hy_connect.specs.Many.{Rips, Spreads}
use Rattle.hy_connect.proofs.Adding.{err_given}
use Rattle.hy_connect.proofs.Exporting.{exports_then}
use Rattle.hy_connect.proofs.Held.{lent_then}
use Rattle.hy_connect.proofs.Spreading.{rows_rip, rows_spread_more}
use Rattle.hy_connect.proofs.Waiting.{waits_more, waits_then}
use Rattle.hy_connect.proofs.spread.spread_by_hash.Goals as goal

part_here : (p n m : ℕ) (columns : List ℕ) (v : Row) → p ≡ part_of n columns v → n ≡ m → p ≡ part_of m columns v
part_here p n m columns v is e = is ∙ ap (λ (k : ℕ). part_of k columns v) e

pub returns-in_err-spread_row-clause-err : goal.returns-in_err-spread_row-clause-err
returns-in_err-spread_row-clause-err c =
    let columns = c.args.columns.now in
    let arity = c.args.frame.now.arity in
    let rows = c.args.frame.now.rows in
    let i = c.loop-i.i in
    let row : Fields = c.row-row.result in
    let end = c.rows-i-end.ensures.rows in
    let low : i < length rows = omega arith in
    let wide : length row ≡ arity = ap (λ (r : Fields). length r) c.row-row.ensures.row ∙ c.row-row.ensures.fields.0 in
    let part : c.part-k.result ≡ part_of (length c.loop-i.outlets) columns (values_of row) = part_here _ _ (length c.loop-i.outlets) _ _ c.part-k.ensures.part (omega arith) in
    let rips : Rips (ByHash columns) arity c.loop-i.outlets (values_of row ∷ []) c.spread_row.new.outlets =
    subst (λ (n : ℕ). Rips (ByHash columns) n c.loop-i.outlets (values_of row ∷ []) c.spread_row.new.outlets) wide (c.in_err-spread_row.ensures.err columns part) in
    err_given c.from_residual.result (rows_rip (ByHash columns) arity i rows row c.args.outlets.now c.loop-i.outlets c.spread_row.new.outlets low c.row-row.ensures.row c.loop-i.invariant.0 rips)

pub loop-i-preserved : goal.loop-i-preserved
loop-i-preserved c =
    let columns = c.args.columns.now in
    let arity = c.args.frame.now.arity in
    let rows = c.args.frame.now.rows in
    let i = c.loop-i.i in
    let row : Fields = c.row-row.result in
    let end = c.rows-i-end.ensures.rows in
    let low : i < length rows = omega arith in
    let wide : length row ≡ arity = ap (λ (r : Fields). length r) c.row-row.ensures.row ∙ c.row-row.ensures.fields.0 in
    let part : c.part-k.result ≡ part_of (length c.loop-i.outlets) columns (values_of row) = part_here _ _ (length c.loop-i.outlets) _ _ c.part-k.ensures.part (omega arith) in
    let spreads : Spreads (ByHash columns) arity c.loop-i.outlets (values_of row ∷ []) c.spread_row.new.outlets =
    subst (λ (n : ℕ). Spreads (ByHash columns) n c.loop-i.outlets (values_of row ∷ []) c.spread_row.new.outlets) wide (c.in_ok-spread_row.ensures.ok columns part) in (
      rows_spread_more (ByHash columns) arity i rows row c.args.outlets.now c.loop-i.outlets c.spread_row.new.outlets low c.row-row.ensures.row c.loop-i.invariant.0 spreads,
      lent_then _ _ _ _ _ _ c.loop-i.invariant.1 c.spread_row.ensures.bank,
      exports_then _ _ _ c.args.bank.now c.loop-i.bank c.spread_row.new.bank c.loop-i.invariant.2 c.spread_row.ensures.exports,
      waits_then i 1 c.args.outlets.now c.loop-i.outlets c.spread_row.new.outlets (let h = c.loop-i.invariant.0 in h.count) c.loop-i.invariant.3 c.spread_row.ensures.parcels,
      λ le.
          let unit = c.args.bank.now.unit in
          let same : c.loop-i.bank.unit ≡ unit = (let l = c.loop-i.invariant.1 in l.unit) in
          let count : length c.args.outlets.now ≡ length c.loop-i.outlets = (let h = c.loop-i.invariant.0 in sym h.count) in
          subst (λ (m : ℕ). AllWithin unit m c.args.outlets.now c.spread_row.new.outlets) (sym (taken_next rows i row low c.row-row.ensures.row))
          (subst (λ (u : ℕ). AllStay u (row_size row) c.loop-i.outlets c.spread_row.new.outlets) same c.in_ok-spread_row.ensures.stays
          c.args.outlets.now (taken (take i rows)) count (room_for rows i unit row low c.row-row.ensures.row le) (c.loop-i.invariant.4 le)),
    )

pub returns-in_err-spread_row-clause-parcels : goal.returns-in_err-spread_row-clause-parcels
returns-in_err-spread_row-clause-parcels c =
    let rows = c.args.frame.now.rows in
    let i = c.loop-i.i in
    let row : Fields = c.row-row.result in
    let end = c.rows-i-end.ensures.rows in
    let low : i < length rows = omega arith in
    let unit = c.args.bank.now.unit in
    let same : c.loop-i.bank.unit ≡ unit = (let l = c.loop-i.invariant.1 in l.unit) in
    let count : length c.args.outlets.now ≡ length c.loop-i.outlets = (let h = c.loop-i.invariant.0 in sym h.count) in
    one_more_waits unit c.args.frame.now.arity rows c.bytes-bytes.result.now c.args.outlets.now c.spread_row.new.outlets
    (λ some. subst (λ (u : ℕ). FrameText rows c.args.frame.now.arity u c.bytes-bytes.result.now) c.requires.unit (c.bytes-bytes.ensures.text (inl some)))
    (waits_more (i + 1) (length rows) c.args.outlets.now c.spread_row.new.outlets (omega arith)
    (waits_then i 1 c.args.outlets.now c.loop-i.outlets c.spread_row.new.outlets (let h = c.loop-i.invariant.0 in h.count) c.loop-i.invariant.3 c.spread_row.ensures.parcels))
    (λ le.
    subst (λ (u : ℕ). AllStop u (row_size row) c.loop-i.outlets c.spread_row.new.outlets) same c.in_err-spread_row.ensures.stops
    c.args.outlets.now (taken (take i rows)) count (room_for rows i unit row low c.row-row.ensures.row le) (c.loop-i.invariant.4 le))

pub returns-clause-parcels : goal.returns-clause-parcels
returns-clause-parcels c =
    let rows = c.args.frame.now.rows in
    let i = c.loop-i.i in
    let end = c.rows-i-end.ensures.rows in
    let unit = c.args.bank.now.unit in
    one_more_waits unit c.args.frame.now.arity rows c.bytes-bytes.result.now c.args.outlets.now c.loop-i.outlets
    (λ some. subst (λ (u : ℕ). FrameText rows c.args.frame.now.arity u c.bytes-bytes.result.now) c.requires.unit (c.bytes-bytes.ensures.text (inl some)))
    (waits_more i (length rows) c.args.outlets.now c.loop-i.outlets (omega arith) c.loop-i.invariant.3)
    (λ le. within_more_wait unit (taken (take i rows)) c.args.outlets.now c.loop-i.outlets (c.loop-i.invariant.4 le))

pub returns-in_err-spread_row-clause-exports : goal.returns-in_err-spread_row-clause-exports
returns-in_err-spread_row-clause-exports c = exports_then _ _ _ c.args.bank.now c.loop-i.bank c.spread_row.new.bank c.loop-i.invariant.2 c.spread_row.ensures.exports
