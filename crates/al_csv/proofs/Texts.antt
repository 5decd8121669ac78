-- A line as `csv` writes it is the line of our own definition.
use Rattle.std.proofs.Common.{ℕ, List, [], ◌∷◌, ◌++◌, ◌==◌, ◌≡◌, ◌∙◌, true, false, length, map, refl, sym, ap, rules, inl, inr, append_assoc, append-nil, Vec, Some, ◌+◌, ◌<◌, take, get_or}
use Rattle.std.specs.List.{list_any}
use Rattle.std.proofs.lemmas.Bool.{cases_Bool}
use Rattle.csv.specs.declared.writer.WriterBuilder.{WriterBuilder}
use Rattle.csv.specs.Writing.{default_writer, escaped, field_text, fields_text, is_blank, fields_written, has_written, needs_byte, row_text, with_flexible, writer_setup}
use Rattle.csv.specs.declared.writer.Writer.{Writer}
use Rattle.std.proofs.lemmas.List.{map-append, take_more}
use Rattle.al_value.specs.declared.value.Value.{Value}
use Rattle.al_csv.specs.OutText.{value_text}
use Rattle.al_csv.specs.Written.{Wrote}
use Rattle.al_csv.specs.Lines.{doubled, field_line, joined, line, lines, must_quote}

-- how we write: as `csv` does, with lines of any lengths
abbrev setup : WriterBuilder
setup = with_flexible default_writer true

escaped_is : (f : List ℕ) → escaped setup f ≡ doubled f
unfolding escaped doubled
escaped_is [] = refl
escaped_is (b ∷ rest) =
    elim (cases_Bool (b == 34)) [
      | inl y ↦ rw (y, escaped_is rest) refl
      | inr n ↦ rw (n, escaped_is rest) refl
    ]

needs_is : (b : ℕ) → needs_byte setup b ≡ must_quote b
needs_is b = search rules

any_is : (f : List ℕ) → list_any (needs_byte setup) f ≡ list_any must_quote f
any_is [] = refl
any_is (b ∷ rest) = rw (needs_is b, any_is rest) refl

field_is : (f : List ℕ) → field_text setup f ≡ field_line f
field_is f = rw (any_is f, escaped_is f) refl

joined_is : (fs : List (List ℕ)) → fields_text setup fs ≡ joined fs
unfolding fields_text joined
joined_is [] = refl
joined_is (f ∷ rest) = rw (field_is f, joined_is rest) refl

pub line_is : (fs : List (List ℕ)) → row_text setup fs ≡ line fs
unfolding is_blank line joined fields_text
line_is [] = refl
line_is ([] ∷ []) = refl
line_is ((b ∷ f) ∷ []) =
    rw (field_is (b ∷ f)) (elim (cases_Bool (list_any must_quote (b ∷ f))) [
      | inl y ↦ let z : (length (34 ∷ (doubled (b ∷ f) ++ (34 ∷ []))) == 0) ≡ false = search rules in rw (y, z) refl
      | inr n ↦ let z : (length (b ∷ f) == 0) ≡ false = search rules in rw (n, z) refl
    ])
line_is ([] ∷ g ∷ rest) = rw (field_is g, joined_is rest) refl
line_is ((b ∷ f) ∷ g ∷ rest) = rw (field_is (b ∷ f), field_is g, joined_is rest) refl

pub lines_push : (rs : List (List (List ℕ))) (r : List (List ℕ)) → lines (rs ++ (r ∷ [])) ≡ lines rs ++ line r
unfolding lines
lines_push [] r = append-nil (line r)
lines_push (x ∷ rs) r = rw (lines_push rs r) (sym (append_assoc (line x) (lines rs) (line r)))

pub lines_one : (r : List (List ℕ)) → lines (r ∷ []) ≡ line r
unfolding lines
lines_one r = append-nil (line r)

-- one more line after what was written, where the writer is between two lines
pub wrote_more : {Z : Type 0} (old new : Writer (Vec ℕ Z)) (fields : List (List ℕ)) (text : List ℕ)
    → Wrote old text
    → new.wtr.inner.items ++ new.wtr.buf ≡ (old.wtr.inner.items ++ old.wtr.buf) ++ row_text (writer_setup old) fields
    → fields_written new ≡ 0 → has_written new ≡ false → writer_setup new ≡ writer_setup old
    → Wrote new (text ++ line fields)
wrote_more old new fields text wrote bytes ended clean same =
    let before : old.wtr.inner.items ++ old.wtr.buf ≡ text = cc in
    let now = rw (before, wrote.1, line_is fields) at bytes in
    (ap (λ (v : List ℕ). Some v) now, same ∙ wrote.1, ended, clean)

-- the lines of a result after one more row
pub lines_more : (names : List (List ℕ)) (rows : List (List Value)) (i : ℕ) (row : List Value) (fields : List (List ℕ))
    → i < length rows → row ≡ get_or rows i row → fields ≡ map value_text row
    → lines (names ∷ map (map value_text) (take i rows)) ++ line fields ≡ lines (names ∷ map (map value_text) (take (i + 1) rows))
lines_more names rows i row fields lt same printed =
    let next : take (i + 1) rows ≡ take i rows ++ (row ∷ []) = take_more rows i row lt ∙ ap (λ (r : List Value). take i rows ++ (r ∷ [])) (sym same) in
    rw (next, map-append (map value_text) (take i rows) (row ∷ []), printed) (sym (lines_push (names ∷ map (map value_text) (take i rows)) (map value_text row)))
