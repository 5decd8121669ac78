use Rattle.std.proofs.Common.{sym, ap, Err}
use Rattle.al_value.specs.declared.text.TextFault.{TextFault}
use Rattle.al_csv.proofs.FieldLaws.{text_bad, text_good, text_long}
use Rattle.al_csv.proofs.field.read_text.Goals as goal

pub returns-in_default : goal.returns-in_default
returns-in_default c = sym (text_bad c.args.field.now c.in_default.ensures.cases.0)

pub returns-in-Ok-new : goal.returns-in-Ok-new
returns-in-Ok-new c =
    let e = c.in-Ok.ensures.cases in
    let value = c.in-Ok-new.ensures.value in
    let short = c.in-Ok-new.ensures.too_long.1 in
    rw (value, e.0) (sym (text_good c.args.field.now e.1 (λ h. let told = short (rw e.0 h) in cc)))

pub returns-in-Err-TooLong : goal.returns-in-Err-TooLong
returns-in-Err-TooLong c =
    let e = c.in-Ok.ensures.cases in
    let long = c.in-Err-TooLong.ensures.too_long.0 (ap (λ (d : TextFault). Err d) c.in-Err-TooLong.field-0-is) in
    sym (text_long c.args.field.now e.1 (rw e.0 at long))
