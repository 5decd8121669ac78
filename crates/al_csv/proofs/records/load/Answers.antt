use Rattle.std.proofs.Common.{◌≡◌, ◌∙◌, ◌++◌, ◌<◌, Some, ℕ, length, drop, List, [], ◌∷◌, Bor, refl, sym, inl, inr, arith}
use Rattle.std.proofs.lemmas.Result.{err_from_is_err_and}
use Rattle.csv.specs.Records.{fields_of}
use Rattle.csv.specs.Reading.{Reached, default_config, strip_bom}
use Rattle.csv.specs.declared.parser.State.TheVariants as st
use Rattle.csv.proofs.ReadFacts.{rows-end, rows-more}
use Rattle.al_csv.proofs.Rows.{drop_first, longer, rows_end, rows_next, rows_none, rows_wide, tells_stop}
use Rattle.al_csv.proofs.ValueRows.{rows_valid}
use Rattle.al_csv.proofs.Walks.{records_all, records_begin}
use Rattle.al_csv.proofs.records.load.Goals as goal
use Rattle.al_csv.proofs.records.load.Goals.{then-number-gt0+in_ok-read_row+in_ok-push, else-number-gt0}

pub loop-number-init : goal.loop-number-init
unfolding Reached
loop-number-init c =
    let made = c.from_reader-reader.ensures in
    let headers = c.has_headers.ensures in
    let flexible = c.flexible.ensures in (
      rw (flexible, headers) at made.trim ∙ c.new.ensures.trim,
      inr (inr (rw (flexible, headers) at made.has_headers, made.headers)),
      rw (flexible, headers) at made.config ∙ c.new.ensures.config,
      [],
      strip_bom c.args.bytes.now,
      made.source,
      (sym made.state, refl),
      refl,
      rw c.new-rows.ensures (rows_none c.args.decl.now.columns),
    )

pub returns-in-Ok-false-clause-rows : goal.returns-in-Ok-false-clause-rows
returns-in-Ok-false-clause-rows c =
    let (trim, ready, config, seen, left, source, reached, count, rows) = c.loop-number.invariant in
    let read = rw c.in-Ok-false.field-0-test at (c.in-Ok-false.ensures.reads trim ready) in
    let done = rows-end (λ (s : Bor (List ℕ)). Some s.now) c.loop-number.reader c.read_byte_record.new.self _ default_config left config source read in
    let all = records_all default_config seen (strip_bom c.args.bytes.now) c.loop-number.reader.state left reached done in
    rows_end c.args.decl.now.columns c.args.bytes.now seen c.loop-number.rows all rows

pub returns-in-Ok-false-clause-wide : goal.returns-in-Ok-false-clause-wide
returns-in-Ok-false-clause-wide c =
    let (trim, ready, config, seen, left, source, reached, count, rows) = c.loop-number.invariant in
    rows_wide c.args.decl.now.columns 1 (drop 1 seen) c.loop-number.rows rows

pub returns-in-Ok-false-clause-values : goal.returns-in-Ok-false-clause-values
returns-in-Ok-false-clause-values c =
    let (trim, ready, config, seen, left, source, reached, count, rows) = c.loop-number.invariant in
    rows_valid c.args.decl.now.columns 1 (drop 1 seen) c.loop-number.rows rows

pub returns-in_err-read_row-clause-bad : goal.returns-in_err-read_row-clause-bad
returns-in_err-read_row-clause-bad c =
    let (trim, ready, config, seen, left, source, reached, count, rows) = c.loop-number.invariant in
    let f = fields_of c.read_byte_record.new.row in
    let read = rw c.in-Ok-true.field-0-test at (c.in-Ok-true.ensures.reads trim ready) in
    let (z, after, more_reached) = rows-more (λ (s : Bor (List ℕ)). Some s.now) c.loop-number.reader c.read_byte_record.new.self f default_config st.StartRecord (strip_bom c.args.bytes.now) left seen config source reached read in
    let (more, begins) = records_begin default_config (seen ++ (f ∷ [])) (strip_bom c.args.bytes.now) _ z more_reached in
    let some_seen : 0 < length seen = omega arith in
    let told = rw c.as_slice.ensures at c.in_err-read_row.ensures.bad in
    let p = err_from_is_err_and c.from_residual.result c.from_residual.ensures.1 in
    rw (p.1, p.2) (tells_stop c.args.decl.now.columns c.args.bytes.now seen f more c.loop-number.number c.loop-number.rows _ begins some_seen count rows told)

pub loop-number-preserved : goal.loop-number-preserved
loop-number-preserved c =
    let (trim, ready, config, seen, left, source, reached, count, rows) = c.loop-number.invariant in
    let f = fields_of c.read_byte_record.new.row in
    let read = rw c.in-Ok-true.field-0-test at (c.in-Ok-true.ensures.reads trim ready) in
    let (z, after, more_reached) = rows-more (λ (s : Bor (List ℕ)). Some s.now) c.loop-number.reader c.read_byte_record.new.self f default_config st.StartRecord (strip_bom c.args.bytes.now) left seen config source reached read in
    elim c.if-number-gt0.branch [
      | then-number-gt0+in_ok-read_row+in_ok-push w ↦
          let some_seen : 0 < length seen = omega arith in
          let here = rw w.as_slice.ensures at w.in_ok-read_row.ensures.row in (
            read.3 ∙ trim,
            inl (c.in-Ok-true.ensures.ready trim),
            read.2 ∙ config,
            seen ++ (f ∷ []),
            z,
            after,
            more_reached,
            longer seen f c.loop-number.number count,
            rw (w.rows-is, w.in_ok-push.ensures.ok) (rows_next c.args.decl.now.columns seen f c.loop-number.number c.loop-number.rows _ some_seen count rows here),
          )
      | else-number-gt0 w ↦
          let none_seen : length seen ≡ 0 = omega arith in
          let cut = drop_first seen f none_seen in (
            read.3 ∙ trim,
            inl (c.in-Ok-true.ensures.ready trim),
            read.2 ∙ config,
            seen ++ (f ∷ []),
            z,
            after,
            more_reached,
            longer seen f c.loop-number.number count,
            rw (cut, w.rows-is) rows,
          )
    ]
