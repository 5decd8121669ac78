use Rattle.std.proofs.Common.{sym, ◌∙◌, []}
use Rattle.std.proofs.lemmas.List.{get_or_default}
use Rattle.csv.specs.Records.{fields_of}
use Rattle.csv.proofs.RecordFacts.{field-get, field-there}
use Rattle.al_csv.proofs.row.field_at.Goals as goal

pub unreachable-requires : goal.unreachable-requires
unreachable-requires c = field-there (fields_of c.args.fields.now) c.args.j c.requires (sym c.in_default.ensures.value)

pub returns : goal.returns
returns c =
    let fields = fields_of c.args.fields.now in
    let read = field-get fields c.args.j c.in-Some.field.now (sym c.in-Some.ensures.value) in
    sym read ∙ get_or_default fields c.args.j [] c.in-Some.field.now c.requires
