use Rattle.std.proofs.Common.{rules, ◌≡◌, ◌≢◌, false}
use Rattle.std.specs.Result.{is_err}
use Rattle.csv.proofs.ReadFacts.{on-ok}
use Rattle.csv.specs.Records.{fields_of}
use Rattle.csv.specs.declared.writer.QuoteStyle.TheVariants as style
use Rattle.al_csv.proofs.Texts.{wrote_more}
use Rattle.al_csv.proofs.text.write_line.Goals as goal

pub returns : goal.returns
returns c = λ text wrote.
    let written = c.write_byte_record.ensures in
    let good : is_err c.write_byte_record.result ≡ false = search rules in
    let plain : c.args.writer.now.cfg.style ≢ style.NonNumeric = rw wrote.1 (λ e. cc e) in
    let bytes = on-ok c.write_byte_record.result good written.bytes wrote.2 wrote.3 plain in
    let setup = on-ok c.write_byte_record.result good written.setup in
    let ended = on-ok c.write_byte_record.result good written.ended in
    let clean = on-ok c.write_byte_record.result good written.clean in
    wrote_more c.args.writer.now c.write_byte_record.new.self (fields_of c.args.fields.now) text wrote (rw c.as_byte_record.ensures at bytes) ended clean setup
