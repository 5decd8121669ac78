-- The fields that stand in a row's bytes are the row's.
use Rattle.std.proofs.Common.{◌≡◌, ◌∙◌, ℕ, zero, suc, ◌+◌, ◌*◌, ◌-◌, ◌^◌, ◌<◌, ◌≤◌, List, [], ◌∷◌, ◌++◌, length, take, drop, get_or, refl, sym, ap, ap₂, subst, append_assoc, append-nil, length-append, arith, inl, inr}
use Rattle.std.proofs.lemmas.List.{take_at, drop_at, drop-drop}
use Rattle.std.specs.List.{concat}
use Rattle.byteorder.specs.Numbers.{length-bytes_high_first}
use Rattle.hy_frame.specs.Cuts.{cut_row, HoldsRow}
use Rattle.hy_frame.specs.Field.{IsField}
use Rattle.hy_frame.specs.Row.{Fields, AllFields, field_ends, row_size, tuple_bytes}
use Rattle.hy_frame.specs.Word.{word_bytes, word_in}
use Rattle.hy_frame.proofs.PieceLaws.{concat-append, start_in, start_more, start_within, piece_at}
use Rattle.hy_frame.proofs.WordLaws.{length-word_bytes, word_again}

pub length-field_ends : (start : ℕ) (row : Fields) → length (field_ends start row) ≡ 4 * length row
length-field_ends start [] = refl
length-field_ends start (field ∷ row) =
    let rest = length-field_ends (start + length field) row in
    omega (arith, rest, length-append (word_bytes (start + length field)) (field_ends (start + length field) row), length-word_bytes (start + length field))

pub length-tuple : (row : Fields) → length (tuple_bytes row) ≡ row_size row
length-tuple row = omega (arith, length-append (field_ends 0 row) (concat row), length-field_ends 0 row)

pub cut_again : (start : ℕ) (row : Fields) (more rest : List ℕ) → start + length (concat row) < 2 ^ 32
    → cut_row (length row) start (field_ends start row ++ more) (concat row ++ rest) ≡ row
cut_again start [] more rest low = refl
cut_again start (field ∷ row) more rest low =
    let at_end : ℕ = start + length field in
    let ends : List ℕ = field_ends at_end row in
    let long = length-append field (concat row) in
    let is : (word_bytes at_end ++ ends) ++ more ≡ word_bytes at_end ++ (ends ++ more) = append_assoc (word_bytes at_end) ends more in
    let first : word_in ((word_bytes at_end ++ ends) ++ more) ≡ at_end = ap word_in is ∙ word_again at_end (ends ++ more) (omega (arith, long)) in
    let next : drop 4 ((word_bytes at_end ++ ends) ++ more) ≡ ends ++ more =
    ap (drop 4) is ∙ drop_at (word_bytes at_end) (ends ++ more) 4 (length-word_bytes at_end) in
    let wide : length field ≡ at_end - start = omega arith in
    let fields_is : (field ++ concat row) ++ rest ≡ field ++ (concat row ++ rest) = append_assoc field (concat row) rest in
    let piece : take (at_end - start) ((field ++ concat row) ++ rest) ≡ field =
    ap (take (at_end - start)) fields_is ∙ take_at field (concat row ++ rest) (at_end - start) wide in
    let left : drop (at_end - start) ((field ++ concat row) ++ rest) ≡ concat row ++ rest =
    ap (drop (at_end - start)) fields_is ∙ drop_at field (concat row ++ rest) (at_end - start) wide in
    let again = cut_again at_end row more rest (omega (arith, long)) in
    rw (first, next, piece, left) (ap (λ (r : Fields). field ∷ r) again)

-- the end of the field in place j
pub end_at : (start : ℕ) (row : Fields) (j : ℕ) → j < length row → start + length (concat row) < 2 ^ 32
    → word_in (drop (4 * j) (field_ends start row)) ≡ start + start_in (suc j) row
end_at start [] j low fits = absurd (omega arith)
end_at start (field ∷ row) zero low fits =
    let at_end : ℕ = start + length field in
    let one : length (field ++ []) ≡ length field = ap length (append-nil field) in
    word_again at_end (field_ends at_end row) (omega (arith, length-append field (concat row)))
    ∙ ap (λ n. start + n) (sym one)
end_at start (field ∷ row) (suc j) low fits =
    let at_end : ℕ = start + length field in
    let four : 4 * suc j ≡ 4 + 4 * j = omega arith in
    let behind : drop (4 * suc j) (word_bytes at_end ++ field_ends at_end row) ≡ drop (4 * j) (field_ends at_end row) =
    ap (λ n. drop n (word_bytes at_end ++ field_ends at_end row)) four
    ∙ sym (drop-drop (4 * j) 4 (word_bytes at_end ++ field_ends at_end row))
    ∙ ap (drop (4 * j)) (drop_at (word_bytes at_end) (field_ends at_end row) 4 (length-word_bytes at_end)) in
    let more : length (field ++ concat (take (suc j) row)) ≡ length field + start_in (suc j) row = length-append field (concat (take (suc j) row)) in
    let sum : at_end + start_in (suc j) row ≡ start + (length field + start_in (suc j) row) = omega arith in
    ap word_in behind ∙ end_at at_end row j (omega arith) (omega (arith, length-append field (concat row)))
    ∙ sum ∙ ap (λ n. start + n) (sym more)

pub field_at : (row : Fields) (j : ℕ) → AllFields row → j < length row → IsField (get_or row j [])
field_at [] j all low = absurd (omega arith)
field_at (field ∷ row) zero all low = all.0
field_at (field ∷ row) (suc j) all low = field_at row j all.1 (omega arith)

pub length-field : (field : List ℕ) → IsField field → length field ≤ 32001
length-field [] is = omega arith
length-field (tag ∷ rest) (inl p) = let e : length rest ≡ 0 = ap length p.1 in omega (arith, e)
length-field (tag ∷ rest) (inr (inl p)) =
    let e : length rest ≡ 8 = ap length p.1.2 ∙ length-bytes_high_first 8 p.1.0 in omega (arith, e)
length-field (tag ∷ rest) (inr (inr p)) = let e : length rest ≤ 32000 = p.1.1 in omega (arith, e)

pub length-row : (row : Fields) → AllFields row → length (concat row) ≤ 32001 * length row
length-row [] all = omega arith
length-row (field ∷ row) all =
    omega (arith, length-append field (concat row), length-field field all.0, length-row row all.1)

pub field_ends-append : (start : ℕ) (row : Fields) (field : List ℕ)
    → field_ends start (row ++ field ∷ []) ≡ field_ends start row ++ word_bytes (start + length (concat row) + length field)
field_ends-append start [] field =
    append-nil (word_bytes (start + length field)) ∙ ap word_bytes (omega arith)
field_ends-append start (first ∷ row) field =
    let at_end : ℕ = start + length first in
    let same : at_end + length (concat row) + length field ≡ start + length (first ++ concat row) + length field =
    omega (arith, length-append first (concat row)) in
    ap (λ (l : List ℕ). word_bytes at_end ++ l) (field_ends-append at_end row field ∙ ap (λ n. field_ends at_end row ++ word_bytes n) same)
    ∙ sym (append_assoc (word_bytes at_end) (field_ends at_end row) _)

pub AllFields-push : (row : Fields) (field : List ℕ) → AllFields row → IsField field → AllFields (row ++ field ∷ [])
AllFields-push [] field all is = (is, tt)
AllFields-push (first ∷ row) field all is = (all.0, AllFields-push row field all.1 is)

row_again : (row : Fields) → length (concat row) < 2 ^ 32 → cut_row (length row) 0 (field_ends 0 row) (concat row) ≡ row
row_again row low = simp append-nil at (cut_again 0 row [] [] (omega arith))

-- the row in bytes that are a row's
pub row_is : (row : Fields) (n : ℕ) (ends fields : List ℕ) → length (concat row) < 2 ^ 32 → length row ≡ n
    → ends ≡ field_ends 0 row → fields ≡ concat row → cut_row n 0 ends fields ≡ row
row_is row n ends fields low counted e f = rw (← counted, e, f) (row_again row low)

-- bytes that are a row's hold it
pub row_holds : (row : Fields) (n : ℕ) (ends fields : List ℕ) → AllFields row → length (concat row) < 2 ^ 32 → length row ≡ n
    → ends ≡ field_ends 0 row → fields ≡ concat row → HoldsRow n ends fields
row_holds row n ends fields all low counted e f =
    let is : row ≡ cut_row n 0 ends fields = sym (row_is row n ends fields low counted e f) in
    record {
      fields_are = subst AllFields is all;
      counted = ap length (sym is) ∙ counted;
      ends_is = e ∙ ap (field_ends 0) is;
      fields_is = f ∙ ap concat is;
      reached = rw f low;
    }

pub size_is : (n : ℕ) (ends fields : List ℕ) → HoldsRow n ends fields → length ends + length fields ≡ row_size (cut_row n 0 ends fields)
size_is n ends fields h =
    let row : Fields = cut_row n 0 ends fields in
    let a : length ends ≡ length (field_ends 0 row) = ap length h.ends_is in
    let b : length fields ≡ length (concat row) = ap length h.fields_is in
    omega (arith, a, b, length-field_ends 0 row)

pub ends_long : (n : ℕ) (ends fields : List ℕ) → HoldsRow n ends fields → length ends ≡ 4 * n
ends_long n ends fields h =
    ap length h.ends_is ∙ length-field_ends 0 (cut_row n 0 ends fields) ∙ ap (λ k. 4 * k) h.counted

pub fields_short : (n : ℕ) (ends fields : List ℕ) → HoldsRow n ends fields → length fields ≤ 32001 * n
fields_short n ends fields h =
    let all = length-row (cut_row n 0 ends fields) h.fields_are in
    let same : length fields ≡ length (concat (cut_row n 0 ends fields)) = ap length h.fields_is in
    omega (arith, all, same, h.counted)

-- where the field in place j ends, and where it begins
pub end_is : (n : ℕ) (ends fields : List ℕ) (j : ℕ) → HoldsRow n ends fields → j < n → word_in (drop (4 * j) ends) ≡ start_in (suc j) (cut_row n 0 ends fields)
end_is n ends fields j h low =
    let row : Fields = cut_row n 0 ends fields in
    let short : 0 + length (concat row) < 2 ^ 32 = (let e : length fields ≡ length (concat row) = ap length h.fields_is in omega (arith, e, h.reached)) in
    let there = end_at 0 row j (omega (arith, h.counted)) short in
    ap (λ (l : List ℕ). word_in (drop (4 * j) l)) h.ends_is ∙ there ∙ (let e : 0 + start_in (suc j) row ≡ start_in (suc j) row = omega arith in e)

pub start_is : (n : ℕ) (ends fields : List ℕ) (j s : ℕ) → HoldsRow n ends fields → j ≤ n → (j ≡ 0 → s ≡ 0)
    → (0 < j → s ≡ word_in (drop (4 * j - 4) ends)) → s ≡ start_in j (cut_row n 0 ends fields)
start_is n ends fields zero s h low first later = first refl
start_is n ends fields (suc j) s h low first later =
    let at : 4 * suc j - 4 ≡ 4 * j = omega arith in
    later (omega arith) ∙ ap (λ k. word_in (drop k ends)) at ∙ end_is n ends fields j h (omega arith)

-- the bytes from where a field begins to where it ends are the field
pub field_is : (n : ℕ) (ends fields : List ℕ) (j s e : ℕ) → HoldsRow n ends fields → j < n → s ≡ start_in j (cut_row n 0 ends fields)
    → e ≡ start_in (suc j) (cut_row n 0 ends fields) → take (e - s) (drop s fields) ≡ get_or (cut_row n 0 ends fields) j []
field_is n ends fields j s e h low starts stops =
    let row : Fields = cut_row n 0 ends fields in
    let more = start_more row j (omega (arith, h.counted)) in
    let wide : e - s ≡ length (get_or row j []) = omega arith in
    let piece : take (length (get_or row j [])) (drop (start_in j row) (concat row)) ≡ get_or row j [] =
    rw append-nil at (piece_at row [] j (omega (arith, h.counted))) in
    ap (λ k. take k (drop s fields)) wide ∙ ap₂ (λ (k : ℕ) (l : List ℕ). take (length (get_or row j [])) (drop k l)) starts h.fields_is ∙ piece

pub field_bounds : (n : ℕ) (ends fields : List ℕ) (j s e : ℕ) → HoldsRow n ends fields → j < n → s ≡ start_in j (cut_row n 0 ends fields)
    → e ≡ start_in (suc j) (cut_row n 0 ends fields) → (s ≤ e) × (e ≤ length fields)
field_bounds n ends fields j s e h low starts stops =
    let row : Fields = cut_row n 0 ends fields in
    let more = start_more row j (omega (arith, h.counted)) in
    let within = start_within row (suc j) in
    let same : length fields ≡ length (concat row) = ap length h.fields_is in
    (omega arith, omega arith)

-- a row with a field more
pub push_holds : (n : ℕ) (ends fields field : List ℕ) → HoldsRow n ends fields → n < 1024 → IsField field
    → HoldsRow (n + 1) (ends ++ word_bytes (length fields + length field)) (fields ++ field)
    × (cut_row (n + 1) 0 (ends ++ word_bytes (length fields + length field)) (fields ++ field) ≡ cut_row n 0 ends fields ++ field ∷ [])
push_holds n ends fields field h few is =
    let row : Fields = cut_row n 0 ends fields in
    let new : Fields = row ++ field ∷ [] in
    let same : length fields ≡ length (concat row) = ap length h.fields_is in
    let fields_is : fields ++ field ≡ concat new =
    ap (λ (l : List ℕ). l ++ field) h.fields_is ∙ ap (λ (l : List ℕ). concat row ++ l) (sym (append-nil field)) ∙ sym (concat-append row (field ∷ [])) in
    let sum : length fields + length field ≡ 0 + length (concat row) + length field = omega arith in
    let ends_is : ends ++ word_bytes (length fields + length field) ≡ field_ends 0 new =
    ap₂ (λ (l : List ℕ) (k : ℕ). l ++ word_bytes k) h.ends_is sum ∙ sym (field_ends-append 0 row field) in
    let long : length (concat new) ≡ length fields + length field = ap length (sym fields_is) ∙ length-append fields field in
    let short : length (concat new) < 2 ^ 32 = omega (arith, fields_short n ends fields h, length-field field is) in
    let counted : length new ≡ n + 1 = length-append row (field ∷ []) ∙ ap (λ k. k + 1) h.counted in
    (row_holds new (n + 1) _ _ (AllFields-push row field h.fields_are is) short counted ends_is fields_is, row_is new (n + 1) _ _ short counted ends_is fields_is)
