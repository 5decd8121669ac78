-- The cells of a record, column by column.
use Rattle.std.proofs.Common.{ℕ, suc, List, [], ◌∷◌, ◌++◌, ◌+◌, ◌<◌, ◌≡◌, ◌∙◌, Result, Ok, Err, map, take, drop, length, get_or, refl, sym, ap, arith, min, eq-eqb, inl, inr, ◌==◌}
use Rattle.std.proofs.lemmas.Bool.{cases_Bool, eqb-true}
use Rattle.std.specs.List.{enumerate_from, zip}
use Rattle.std.proofs.lemmas.List.{take_more, get_or-map, take-append-drop, length-map}
use Rattle.std.proofs.lemmas.List.FromFn.{get_or-enumerate_from, length-enumerate_from}
use Rattle.std.proofs.lemmas.Slice.Zip.{get_or-zip, length-zip}
use Rattle.std.proofs.Math.Seq.{drop-cons}
use Rattle.al_value.specs.declared.value.Value.{Value}
use Rattle.al_csv.specs.declared.decl.Column.{Column}
use Rattle.al_csv.specs.declared.refused.BadRecord.{BadRecord}
use Rattle.al_csv.specs.declared.refused.DataKind.{DataKind}
use Rattle.al_csv.specs.declared.refused.LoadRefused.{LoadRefused}
use Rattle.al_csv.specs.declared.refused.LoadRefused.TheVariants.{Bad, NoMemory}
use Rattle.al_csv.specs.Records.{Tells, TellsPlace, all_ok, bad_at, cell_of, placed, row_of}
use Rattle.al_csv.proofs.AllOk.{all_ok_length, all_ok_push, all_ok_stop}

-- what the columns of a record give, in order
unfoldable pub cells : ℕ → List Column → List (List ℕ) → List (Result Value BadRecord)
cells number columns fields = map (cell_of number) (enumerate_from 1 (zip columns fields))

pub length-cells : (number : ℕ) (columns : List Column) (fields : List (List ℕ)) → length fields ≡ length columns → length (cells number columns fields) ≡ length columns
unfolding cells
length-cells number columns fields same =
    simp (length-map, length-enumerate_from, length-zip) (omega arith)

cell_at : (number i : ℕ) (columns : List Column) (fields : List (List ℕ)) (column : Column) (field : List ℕ) (d : Result Value BadRecord)
    → i < length columns → i < length fields → column ≡ get_or columns i column → field ≡ get_or fields i field
    → get_or (cells number columns fields) i d ≡ cell_of number (i + 1, (column, field))
unfolding cells
cell_at number i columns fields column field d c f same_column same_field =
    let pairs = zip columns fields in
    let size : length pairs ≡ min (length columns) (length fields) = length-zip columns fields in
    let within : i < length pairs = omega arith in
    let within_all : i < length (enumerate_from 1 pairs) = omega (arith, length-enumerate_from 1 pairs) in
    let here : ℕ × (Column × List ℕ) = (i + 1, (column, field)) in
    let mapped = get_or-map (cell_of number) (enumerate_from 1 pairs) i here d within_all in
    let numbered = get_or-enumerate_from 1 pairs i here within in
    let zipped = get_or-zip columns fields i (column, field) c f in
    let place : 1 + i ≡ i + 1 = omega arith in
    rw (mapped, numbered, zipped, place, ← same_column, ← same_field) refl

pub cells_more : (number i : ℕ) (columns : List Column) (fields : List (List ℕ)) (column : Column) (field : List ℕ) (row : List Value) (v : Value)
    → length fields ≡ length columns → i < length columns → column ≡ get_or columns i column → field ≡ get_or fields i field
    → all_ok (take i (cells number columns fields)) ≡ Ok row → cell_of number (i + 1, (column, field)) ≡ Ok v
    → all_ok (take (i + 1) (cells number columns fields)) ≡ Ok (row ++ (v ∷ []))
cells_more number i columns fields column field row v same lt same_column same_field so_far here =
    let all = cells number columns fields in
    let within : i < length all = omega (arith, length-cells number columns fields same) in
    let at = cell_at number i columns fields column field (Ok v) lt (omega arith) same_column same_field in
    rw (take_more all i (Ok v) within, at, here) (all_ok_push (take i all) row v so_far)

pub cells_stop : (number i : ℕ) (columns : List Column) (fields : List (List ℕ)) (column : Column) (field : List ℕ) (row : List Value) (bad : BadRecord)
    → length fields ≡ length columns → i < length columns → column ≡ get_or columns i column → field ≡ get_or fields i field
    → all_ok (take i (cells number columns fields)) ≡ Ok row → cell_of number (i + 1, (column, field)) ≡ Err bad
    → all_ok (cells number columns fields) ≡ Err bad
cells_stop number i columns fields column field row bad same lt same_column same_field so_far here =
    let all = cells number columns fields in
    let within : i < length all = omega (arith, length-cells number columns fields same) in
    let at = cell_at number i columns fields column field (Err bad) lt (omega arith) same_column same_field in
    let rest : drop i all ≡ Err bad ∷ drop (suc i) all = drop-cons all i (Err bad) within ∙ ap (λ (r : Result Value BadRecord). r ∷ drop (suc i) all) (at ∙ here) in
    let parts : all ≡ take i all ++ (Err bad ∷ drop (suc i) all) = sym (take-append-drop i all) ∙ ap (λ (rs : List (Result Value BadRecord)). take i all ++ rs) rest in
    ap (λ (rs : List (Result Value BadRecord)). all_ok rs) parts ∙ all_ok_stop (take i all) row bad (drop (suc i) all) so_far

-- a record of the right length is what its cells are
pub row_is : (number : ℕ) (columns : List Column) (fields : List (List ℕ)) → length fields ≡ length columns → row_of columns (number, fields) ≡ all_ok (cells number columns fields)
unfolding cells
row_is number columns fields same = let test = eq-eqb (length fields) (length columns) same in rw test refl

pub placed_ok : (number column : ℕ) (r : Result Value DataKind) (v : Value) → r ≡ Ok v → placed number column r ≡ Ok v
placed_ok number column r v e = rw e refl

pub placed_err : (number column : ℕ) (r : Result Value DataKind) (kind : DataKind) → r ≡ Err kind → placed number column r ≡ Err (bad_at number column kind)
placed_err number column r kind e = rw e refl

-- a refusal at the place of the first bad cell
pub tells_from : {A : Type 0} (r : Result A BadRecord) (kind : DataKind) (number column : ℕ) (refusal : LoadRefused) → r ≡ Err (bad_at number column kind) → TellsPlace kind number column refusal → Tells r refusal
tells_from r kind number column (Bad bad) e told = e ∙ ap (λ (b : BadRecord). Err b) (sym told)
tells_from r kind number column NoMemory e told = tt

-- a good record has a value for each column
pub row_width : (columns : List Column) (number : ℕ) (fields : List (List ℕ)) (row : List Value) → row_of columns (number, fields) ≡ Ok row → length row ≡ length columns
row_width columns number fields row h =
    elim (cases_Bool (length fields == length columns)) [
      | inl y ↦
          let same = eqb-true (length fields) (length columns) y in
          all_ok_length (cells number columns fields) row (sym (row_is number columns fields same) ∙ h) ∙ length-cells number columns fields same
      | inr n ↦ let other = rw n at h in cc
    ]
