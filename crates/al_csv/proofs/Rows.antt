-- The rows of a file, record by record.
use Rattle.std.proofs.Common.{ℕ, List, [], ◌∷◌, ◌++◌, ◌+◌, ◌<◌, ◌≡◌, ◌∙◌, Result, Ok, Err, map, drop, length, refl, ap, arith, append_assoc, length-append}
use Rattle.std.specs.List.{All, enumerate_from}
use Rattle.std.proofs.lemmas.List.Elements.{All-cons, All-nil}
use Rattle.csv.specs.Reading as reading
use Rattle.csv.specs.Reading.{default_config, strip_bom}
use Rattle.al_value.specs.declared.value.Value.{Value}
use Rattle.al_csv.specs.declared.decl.Column.{Column}
use Rattle.al_csv.specs.declared.refused.BadRecord.{BadRecord}
use Rattle.al_csv.specs.declared.refused.LoadRefused.{LoadRefused}
use Rattle.al_csv.specs.declared.refused.LoadRefused.TheVariants.{Bad, NoMemory}
use Rattle.al_csv.specs.Records.{Tells, all_ok, records, row_of}
use Rattle.al_csv.proofs.AllOk.{all_ok_none, all_ok_push, all_ok_nil, all_ok_stop, first_ok}
use Rattle.al_csv.proofs.Cells.{row_width}

abbrev Fields : Type 0
Fields = List (List ℕ)

-- what the records give whose numbers begin with `first`
unfoldable pub rows_from : List Column → ℕ → List Fields → List (Result (List Value) BadRecord)
rows_from columns first records = map (row_of columns) (enumerate_from first records)

rows_append : (columns : List Column) (first : ℕ) (before after : List Fields) → rows_from columns first (before ++ after) ≡ rows_from columns first before ++ rows_from columns (first + length before) after
unfolding rows_from
rows_append columns first [] after = ap (λ (k : ℕ). map (row_of columns) (enumerate_from k after)) (omega arith)
rows_append columns first (f ∷ before) after =
    let later : (first + 1) + length before ≡ first + length (f ∷ before) = omega arith in
    ap (λ (rs : List (Result (List Value) BadRecord)). row_of columns (first, f) ∷ rs)
    (rows_append columns (first + 1) before after ∙ ap (λ (k : ℕ). map (row_of columns) (enumerate_from (first + 1) before) ++ map (row_of columns) (enumerate_from k after)) later)

-- one more good record
pub rows_push : (columns : List Column) (before : List Fields) (f : Fields) (number : ℕ) (rows : List (List Value)) (row : List Value)
    → 1 + length before ≡ number → all_ok (rows_from columns 1 before) ≡ Ok rows → row_of columns (number, f) ≡ Ok row
    → all_ok (rows_from columns 1 (before ++ (f ∷ []))) ≡ Ok (rows ++ (row ∷ []))
unfolding rows_from
rows_push columns before f number rows row n so_far here =
    rw (rows_append columns 1 before (f ∷ []), n, here) (all_ok_push (map (row_of columns) (enumerate_from 1 before)) rows row so_far)

-- the first bad record, whatever comes after it
pub rows_stop : (columns : List Column) (before : List Fields) (f : Fields) (more : List Fields) (number : ℕ) (rows : List (List Value)) (bad : BadRecord)
    → 1 + length before ≡ number → all_ok (rows_from columns 1 before) ≡ Ok rows → row_of columns (number, f) ≡ Err bad
    → all_ok (rows_from columns 1 (before ++ (f ∷ more))) ≡ Err bad
unfolding rows_from
rows_stop columns before f more number rows bad n so_far here =
    rw (rows_append columns 1 before (f ∷ more), n, here) (all_ok_stop (map (row_of columns) (enumerate_from 1 before)) rows bad _ so_far)

-- each row of good records has a value for each column
pub rows_wide : (columns : List Column) (first : ℕ) (records : List Fields) (rows : List (List Value)) → all_ok (rows_from columns first records) ≡ Ok rows → All (λ row. length row ≡ length columns) rows
unfolding rows_from
rows_wide columns first [] rows h = rw (all_ok_nil {E = BadRecord} rows h) (All-nil (λ (row : List Value). length row ≡ length columns))
rows_wide columns first (f ∷ records) rows h =
    let (row, others, here, rest, same) = first_ok (row_of columns (first, f)) (map (row_of columns) (enumerate_from (first + 1) records)) rows h in
    rw same (All-cons (λ (row : List Value). length row ≡ length columns) row others (row_width columns first f row here) (rows_wide columns (first + 1) records others rest))

-- the records after the header, as they are read
pub drop_more : (seen : List Fields) (f : Fields) (more : List Fields) → 0 < length seen → drop 1 ((seen ++ (f ∷ [])) ++ more) ≡ drop 1 seen ++ (f ∷ more)
drop_more [] f more h = absurd (omega arith)
drop_more (s ∷ seen) f more h = append_assoc seen (f ∷ []) more

pub drop_push : (seen : List Fields) (f : Fields) → 0 < length seen → drop 1 (seen ++ (f ∷ [])) ≡ drop 1 seen ++ (f ∷ [])
drop_push [] f h = absurd (omega arith)
drop_push (s ∷ seen) f h = refl

pub drop_first : (seen : List Fields) (f : Fields) → length seen ≡ 0 → drop 1 (seen ++ (f ∷ [])) ≡ drop 1 seen
drop_first [] f h = refl
drop_first (s ∷ seen) f h = absurd (omega arith)

pub longer : (seen : List Fields) (f : Fields) (n : ℕ) → length seen ≡ n → length (seen ++ (f ∷ [])) ≡ n + 1
longer seen f n e = grind (arith, length-append)

pub one_more : (seen : List Fields) (n : ℕ) → 0 < length seen → length seen ≡ n → 1 + length (drop 1 seen) ≡ n
one_more [] n h e = absurd (omega arith)
one_more (s ∷ seen) n h e = omega arith

pub rows_none : (columns : List Column) → all_ok (rows_from columns 1 []) ≡ Ok []
unfolding rows_from
rows_none columns = all_ok_none

-- the rows after one more record, which is not the header
pub rows_next : (columns : List Column) (seen : List Fields) (f : Fields) (number : ℕ) (rows : List (List Value)) (row : List Value)
    → 0 < length seen → length seen ≡ number → all_ok (rows_from columns 1 (drop 1 seen)) ≡ Ok rows → row_of columns (number, f) ≡ Ok row
    → all_ok (rows_from columns 1 (drop 1 (seen ++ (f ∷ [])))) ≡ Ok (rows ++ (row ∷ []))
rows_next columns seen f number rows row some_seen count so_far here =
    rw (drop_push seen f some_seen) (rows_push columns (drop 1 seen) f number rows row (one_more seen number some_seen count) so_far here)

-- a file without a bad record
pub rows_end : (columns : List Column) (bytes : List ℕ) (seen : List Fields) (rows : List (List Value))
    → reading.records default_config (strip_bom bytes) ≡ seen → all_ok (rows_from columns 1 (drop 1 seen)) ≡ Ok rows → records columns bytes ≡ Ok rows
unfolding rows_from
rows_end columns bytes seen rows all so_far = ap (λ (rs : List Fields). all_ok (rows_from columns 1 (drop 1 rs))) all ∙ so_far

-- a refusal of the first bad record is one of the file
pub tells_stop : (columns : List Column) (bytes : List ℕ) (seen : List Fields) (f : Fields) (more : List Fields) (number : ℕ) (rows : List (List Value)) (refusal : LoadRefused)
    → reading.records default_config (strip_bom bytes) ≡ (seen ++ (f ∷ [])) ++ more → 0 < length seen → length seen ≡ number
    → all_ok (rows_from columns 1 (drop 1 seen)) ≡ Ok rows → Tells (row_of columns (number, f)) refusal → Tells (records columns bytes) refusal
unfolding rows_from
tells_stop columns bytes seen f more number rows (Bad bad) begins some_seen count so_far here =
    ap (λ (rs : List Fields). all_ok (rows_from columns 1 (drop 1 rs))) begins
    ∙ ap (λ (rs : List Fields). all_ok (rows_from columns 1 rs)) (drop_more seen f more some_seen)
    ∙ rows_stop columns (drop 1 seen) f more number rows bad (one_more seen number some_seen count) so_far here
tells_stop columns bytes seen f more number rows NoMemory begins some_seen count so_far here = tt
