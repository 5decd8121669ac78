use Rattle.std.proofs.Common.{◌≡◌, ◌+◌, ◌≤◌, ◌∙◌, sym, arith, length}
use Rattle.std.proofs.lemmas.List.{take_all}
use Rattle.csv.specs.Records.{fields_of}
use Rattle.al_csv.specs.Fields.{field_value}
use Rattle.al_csv.proofs.AllOk.{all_ok_none}
use Rattle.al_csv.proofs.Cells.{cells, length-cells, cells_more, cells_stop, placed_err, placed_ok, row_is, tells_from}
use Rattle.al_csv.proofs.row.read_row.Goals as goal

pub loop-j-init : goal.loop-j-init
loop-j-init c = rw c.new-row.ensures all_ok_none

pub returns-in-Err-clause-bad : goal.returns-in-Err-clause-bad
returns-in-Err-clause-bad c =
    let columns = c.args.columns.now in
    let fields = fields_of c.args.fields.now in
    let number = c.args.number in
    let j = c.loop-j.j in
    let same : length fields ≡ length columns = sym c.len.ensures ∙ c.if-len-columns.false in
    let column = c.index-columns-j.result in
    let field = c.field_at.result.now in
    let here = placed_err number (j + 1) (field_value column.kind field) c.in-Err.kind (sym c.in_ok-value.ensures ∙ c.in-Err.is) in
    let stop = cells_stop number j columns fields column field c.loop-j.row _ same c.loop-j-test.true c.index-columns-j.is c.field_at.ensures c.loop-j.invariant here in
    tells_from _ c.in-Err.kind number (j + 1) c.bad_field.result (row_is number columns fields same ∙ stop) c.bad_field.ensures

pub loop-j-preserved : goal.loop-j-preserved
loop-j-preserved c =
    let columns = c.args.columns.now in
    let fields = fields_of c.args.fields.now in
    let number = c.args.number in
    let j = c.loop-j.j in
    let column = c.index-columns-j.result in
    let field = c.field_at.result.now in
    let same : length fields ≡ length columns = sym c.len.ensures ∙ c.if-len-columns.false in
    let here = placed_ok number (j + 1) (field_value column.kind field) c.in-Ok.value (sym c.in_ok-value.ensures ∙ c.in-Ok.is) in
    rw c.in_ok-push-in-Ok.ensures.ok (cells_more number j columns fields column field c.loop-j.row c.in-Ok.value same c.loop-j-test.true c.index-columns-j.is c.field_at.ensures c.loop-j.invariant here)

pub returns-clause-row : goal.returns-clause-row
returns-clause-row c =
    let columns = c.args.columns.now in
    let fields = fields_of c.args.fields.now in
    let number = c.args.number in
    let same : length fields ≡ length columns = sym c.len.ensures ∙ c.if-len-columns.false in
    let all : length (cells number columns fields) ≤ c.loop-j.j = omega (arith, length-cells number columns fields same) in
    row_is number columns fields same ∙ rw take_all at c.loop-j.invariant
