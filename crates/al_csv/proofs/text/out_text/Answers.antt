use Rattle.std.proofs.Common.{◌∷◌, [], ◌∙◌, ℕ, List, map, take, true, refl, sym, ap, subst}
use Rattle.csv.specs.Records.{fields_of}
use Rattle.csv.specs.Writing.{with_flexible}
use Rattle.csv.specs.declared.writer.WriterBuilder.{WriterBuilder}
use Rattle.al_csv.specs.Lines.{line, lines}
use Rattle.al_csv.specs.OutText.{value_text}
use Rattle.al_csv.specs.Written.{Wrote}
use Rattle.al_csv.proofs.Texts.{lines_more, lines_one}
use Rattle.al_csv.proofs.text.out_text.Goals as goal

pub loop-row-init : goal.loop-row-init
loop-row-init c =
    let made = c.from_writer-writer.ensures in
    let setup = ap (λ (b : WriterBuilder). with_flexible b true) c.new.ensures in
    let none : Wrote c.from_writer-writer.result [] =
    (rw (made.wtr, made.empty, c.new-2.ensures.items) refl, made.cfg ∙ c.flexible.ensures ∙ setup, made.fields, made.wrote) in
    let first = c.in_ok-write_line.ensures [] none in
    let text = ap line c.in_ok-fill_names.ensures ∙ sym (lines_one c.args.names.now) in
    subst (λ (t : List ℕ). Wrote c.write_line.new.writer t) text first

pub loop-row-preserved : goal.loop-row-preserved
loop-row-preserved c =
    let i = c.loop-row.row-index in
    let printed = c.in_ok-fill_values.ensures ∙ ap (map value_text) c.as_slice.ensures in
    let text = lines_more c.args.names.now c.args.rows.now i c.row-item.result (fields_of c.fill_values.new.fields) c.loop-row-test.true c.row-item.is printed in
    let next = c.in_ok-write_line-2.ensures (lines (c.args.names.now ∷ map (map value_text) (take i c.args.rows.now))) c.loop-row.invariant in
    subst (λ (t : List ℕ). Wrote c.write_line-in-loop-row.new.writer t) text next
