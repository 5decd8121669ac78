-- The rows that stand in a frame's bytes are the frame's.
use Rattle.std.proofs.Common.{◌≡◌, ◌≢◌, ◌∙◌, ℕ, zero, suc, ◌+◌, ◌*◌, ◌-◌, ◌^◌, ◌<◌, ◌≤◌, List, [], ◌∷◌, ◌++◌, length, map, take, drop, get_or, replicate, refl, sym, ap, ap₂, subst, inl, inr, append_assoc, append-nil, length-append, arith}
use Rattle.std.proofs.lemmas.List.{take_at, drop_at, drop-drop, length-replicate, length-map, map-append, nil_from_length, get_or-map}
use Rattle.std.proofs.lemmas.Bool.{cases_lt}
use Rattle.hy_frame.specs.Frame.{IsFull}
use Rattle.std.specs.List.{concat}
use Rattle.hy_frame.specs.Cuts.{cut_row, cut_rows, frame_rows, HoldsRow, HoldsRows}
use Rattle.hy_frame.specs.FrameText.{AllRows, tuples_of, slots_of, taken, frame_bytes, IsAlone, IsLeast}
use Rattle.hy_frame.specs.Pieces.{put_at, with_row}
use Rattle.hy_frame.specs.Row.{Fields, IsRow, field_ends, row_size, tuple_bytes}
use Rattle.hy_frame.specs.Word.{word_bytes, word_in}
use Rattle.hy_frame.proofs.PieceLaws.{concat-append, start_in, start_more, start_within, piece_at, replicate_split, put_over, put_front, put_back}
use Rattle.hy_frame.proofs.RowLaws.{length-field_ends, length-tuple, cut_again, row_holds, row_is}
use Rattle.hy_frame.proofs.WordLaws.{length-word_bytes, word_again}

pub length-slots : (start : ℕ) (rows : List Fields) → length (slots_of start rows) ≡ 4 * length rows
length-slots start [] = refl
length-slots start (row ∷ rows) =
    let at_end : ℕ = start + row_size row in
    omega (arith, length-slots at_end rows, length-append (slots_of at_end rows) (word_bytes at_end), length-word_bytes at_end)

pub taken_is : (rows : List Fields) → taken rows ≡ length (tuples_of rows) + 4 * length rows
taken_is [] = refl
taken_is (row ∷ rows) =
    omega (arith, taken_is rows, length-append (tuple_bytes row) (tuples_of rows), length-tuple row)

pub length-frame : (size : ℕ) (rows : List Fields) → taken rows + 4 ≤ size → length (frame_bytes size rows) ≡ size
length-frame size rows fits =
    let gap : ℕ = size - 4 - taken rows in
    let last : List ℕ = slots_of 0 rows ++ word_bytes (length rows) in
    omega (
      arith,
      taken_is rows,
      length-append (tuples_of rows) (replicate gap 0 ++ last),
      length-append (replicate gap 0) last,
      length-replicate {A = ℕ} gap 0,
      length-append (slots_of 0 rows) (word_bytes (length rows)),
      length-slots 0 rows,
      length-word_bytes (length rows),
    )

tuple_again : (arity : ℕ) (row : Fields) → length row ≡ arity → row_size row < 2 ^ 32
    → cut_row arity 0 (tuple_bytes row) (drop (4 * arity) (tuple_bytes row)) ≡ row
tuple_again arity row counted low =
    let long : length (field_ends 0 row) ≡ 4 * length row = length-field_ends 0 row in
    let fields : drop (4 * length row) (tuple_bytes row) ≡ concat row ++ [] = drop_at (field_ends 0 row) (concat row) (4 * length row) long ∙ sym (append-nil (concat row)) in
    rw (← counted, fields) (cut_again 0 row (concat row) [] (omega arith))

pub rows_again : (arity start : ℕ) (rows : List Fields) (more rest : List ℕ) → AllRows arity rows → start + length (tuples_of rows) < 2 ^ 32
    → cut_rows arity (length rows) start (slots_of start rows ++ more) (tuples_of rows ++ rest) ≡ rows
rows_again arity start [] more rest all low = refl
rows_again arity start (row ∷ rows) more rest all low =
    let at_end : ℕ = start + row_size row in
    let sum = length-append (tuple_bytes row) (tuples_of rows) in
    let wide = length-tuple row in
    let later : List ℕ = word_bytes at_end ++ more in
    let is : (slots_of at_end rows ++ word_bytes at_end) ++ more ≡ slots_of at_end rows ++ later = append_assoc (slots_of at_end rows) (word_bytes at_end) more in
    let first : word_in (drop (4 * length rows) (slots_of at_end rows ++ later)) ≡ at_end =
    ap word_in (drop_at (slots_of at_end rows) later (4 * length rows) (length-slots at_end rows)) ∙ word_again at_end more (omega (arith, sum, wide)) in
    let width : length (tuple_bytes row) ≡ at_end - start = omega (arith, wide) in
    let tuples_is : (tuple_bytes row ++ tuples_of rows) ++ rest ≡ tuple_bytes row ++ (tuples_of rows ++ rest) = append_assoc (tuple_bytes row) (tuples_of rows) rest in
    let piece : take (at_end - start) (tuple_bytes row ++ (tuples_of rows ++ rest)) ≡ tuple_bytes row = take_at (tuple_bytes row) (tuples_of rows ++ rest) (at_end - start) width in
    let left : drop (at_end - start) (tuple_bytes row ++ (tuples_of rows ++ rest)) ≡ tuples_of rows ++ rest = drop_at (tuple_bytes row) (tuples_of rows ++ rest) (at_end - start) width in
    rw (is, first, tuples_is, piece, left)
    (ap₂ (λ (r : Fields) (rs : List Fields). r ∷ rs) (tuple_again arity row all.0.0 (omega (arith, sum, wide)))
    (rows_again arity at_end rows later rest all.1 (omega (arith, sum, wide))))

-- what stands behind the zeros
pub slots_in : (size : ℕ) (rows : List Fields) → taken rows + 4 ≤ size
    → drop (size - 4 - 4 * length rows) (frame_bytes size rows) ≡ slots_of 0 rows ++ word_bytes (length rows)
slots_in size rows fits =
    let zeros : List ℕ = replicate (size - 4 - taken rows) 0 in
    let last : List ℕ = slots_of 0 rows ++ word_bytes (length rows) in
    let long : length (tuples_of rows ++ zeros) ≡ size - 4 - 4 * length rows =
    omega (arith, taken_is rows, length-append (tuples_of rows) zeros, length-replicate {A = ℕ} (size - 4 - taken rows) 0) in
    ap (drop (size - 4 - 4 * length rows)) (sym (append_assoc (tuples_of rows) zeros last))
    ∙ drop_at (tuples_of rows ++ zeros) last (size - 4 - 4 * length rows) long

pub frame_again : (arity : ℕ) (rows : List Fields) (n : ℕ) (bytes : List ℕ) → AllRows arity rows → length (tuples_of rows) < 2 ^ 32
    → taken rows + 4 ≤ length bytes → length rows ≡ n → bytes ≡ frame_bytes (length bytes) rows → frame_rows arity n bytes ≡ rows
frame_again arity rows n bytes all low fits counted is =
    let size : ℕ = length bytes in
    let slots : drop (size - 4 - 4 * n) bytes ≡ slots_of 0 rows ++ word_bytes (length rows) =
    ap (λ k. drop (size - 4 - 4 * k) bytes) (sym counted) ∙ ap (drop (size - 4 - 4 * length rows)) is ∙ slots_in size rows fits in
    let again = rows_again arity 0 rows (word_bytes (length rows)) (replicate (size - 4 - taken rows) 0 ++ (slots_of 0 rows ++ word_bytes (length rows))) all (omega arith) in
    ap (λ (s : List ℕ). cut_rows arity n 0 s bytes) slots
    ∙ ap₂ (λ (k : ℕ) (b : List ℕ). cut_rows arity k 0 (slots_of 0 rows ++ word_bytes (length rows)) b) (sym counted) is ∙ again

-- where the tuple in place i ends; k tuples stand behind it
pub slot_at : (start : ℕ) (rows : List Fields) (more : List ℕ) (i k : ℕ) → k + suc i ≡ length rows → start + length (tuples_of rows) < 2 ^ 32
    → word_in (drop (4 * k) (slots_of start rows ++ more)) ≡ start + start_in (suc i) (map tuple_bytes rows)
slot_at start [] more i k sum low = absurd (omega arith)
slot_at start (row ∷ rows) more zero k sum low =
    let at_end : ℕ = start + row_size row in
    let is : (slots_of at_end rows ++ word_bytes at_end) ++ more ≡ slots_of at_end rows ++ (word_bytes at_end ++ more) = append_assoc (slots_of at_end rows) (word_bytes at_end) more in
    let long : length (slots_of at_end rows) ≡ 4 * k = omega (arith, length-slots at_end rows) in
    let all = length-append (tuple_bytes row) (tuples_of rows) in
    let one : row_size row ≡ length (tuple_bytes row ++ []) = sym (length-tuple row) ∙ ap length (sym (append-nil (tuple_bytes row))) in
    ap (λ (l : List ℕ). word_in (drop (4 * k) l)) is ∙ ap word_in (drop_at (slots_of at_end rows) (word_bytes at_end ++ more) (4 * k) long)
    ∙ word_again at_end more (omega (arith, all, length-tuple row)) ∙ ap (λ n. start + n) one
slot_at start (row ∷ rows) more (suc i) k sum low =
    let at_end : ℕ = start + row_size row in
    let is : (slots_of at_end rows ++ word_bytes at_end) ++ more ≡ slots_of at_end rows ++ (word_bytes at_end ++ more) = append_assoc (slots_of at_end rows) (word_bytes at_end) more in
    let all = length-append (tuple_bytes row) (tuples_of rows) in
    let behind : length (tuple_bytes row ++ concat (take (suc i) (map tuple_bytes rows))) ≡ row_size row + start_in (suc i) (map tuple_bytes rows) =
    length-append (tuple_bytes row) (concat (take (suc i) (map tuple_bytes rows))) ∙ ap (λ n. n + start_in (suc i) (map tuple_bytes rows)) (length-tuple row) in
    let joined : at_end + start_in (suc i) (map tuple_bytes rows) ≡ start + (row_size row + start_in (suc i) (map tuple_bytes rows)) = omega arith in
    ap (λ (l : List ℕ). word_in (drop (4 * k) l)) is ∙ slot_at at_end rows (word_bytes at_end ++ more) i k (omega arith) (omega (arith, all, length-tuple row))
    ∙ joined ∙ ap (λ n. start + n) (sym behind)

pub tuples-push : (rows : List Fields) (row : Fields) → tuples_of (rows ++ row ∷ []) ≡ tuples_of rows ++ tuple_bytes row
tuples-push rows row =
    ap concat (map-append tuple_bytes rows (row ∷ [])) ∙ concat-append (map tuple_bytes rows) (tuple_bytes row ∷ [])
    ∙ ap (λ (l : List ℕ). tuples_of rows ++ l) (append-nil (tuple_bytes row))

pub taken-push : (rows : List Fields) (row : Fields) → taken (rows ++ row ∷ []) ≡ taken rows + (row_size row + 4)
taken-push [] row = omega arith
taken-push (first ∷ rows) row = omega (arith, taken-push rows row)

pub slots-push : (start : ℕ) (rows : List Fields) (row : Fields)
    → slots_of start (rows ++ row ∷ []) ≡ word_bytes (start + length (tuples_of rows) + row_size row) ++ slots_of start rows
slots-push start [] row =
    let e : start + row_size row ≡ start + 0 + row_size row = omega arith in
    ap word_bytes e ∙ sym (append-nil (word_bytes (start + 0 + row_size row)))
slots-push start (first ∷ rows) row =
    let at_end : ℕ = start + row_size first in
    let long = length-append (tuple_bytes first) (tuples_of rows) in
    let e : at_end + length (tuples_of rows) + row_size row ≡ start + length (tuple_bytes first ++ tuples_of rows) + row_size row = omega (arith, long, length-tuple first) in
    ap (λ (l : List ℕ). l ++ word_bytes at_end) (slots-push at_end rows row ∙ ap (λ n. word_bytes n ++ slots_of at_end rows) e)
    ∙ append_assoc (word_bytes (start + length (tuple_bytes first ++ tuples_of rows) + row_size row)) (slots_of at_end rows) (word_bytes at_end)

pub AllRows-push : (arity : ℕ) (rows : List Fields) (row : Fields) → AllRows arity rows → IsRow arity row → AllRows arity (rows ++ row ∷ [])
AllRows-push arity [] row all is = (is, tt)
AllRows-push arity (first ∷ rows) row all is = (all.0, AllRows-push arity rows row all.1 is)

-- a frame's bytes with a row more are those of the frame with that row
pub with_row_is : (size : ℕ) (rows : List Fields) (row : Fields) (bytes : List ℕ) → taken rows + (row_size row + 4) + 4 ≤ size → length bytes ≡ size
    → bytes ≡ frame_bytes size rows → with_row (length rows) (length (tuples_of rows)) row bytes ≡ frame_bytes size (rows ++ row ∷ [])
with_row_is size rows row bytes fits long is =
    let n : ℕ = length rows in
    let used : ℕ = length (tuples_of rows) in
    let gap : ℕ = size - 4 - taken rows in
    let ends : List ℕ = field_ends 0 row in
    let fields : List ℕ = concat row in
    let slot : List ℕ = word_bytes (used + row_size row) in
    let slots : List ℕ = slots_of 0 rows in
    let count : List ℕ = word_bytes n in
    let wide_ends : length ends ≡ 4 * length row = length-field_ends 0 row in
    let wide_slot : length slot ≡ 4 = length-word_bytes (used + row_size row) in
    let takes : taken rows ≡ used + 4 * n = taken_is rows in
    let left : ℕ = gap - length ends in
    let left2 : ℕ = left - length fields in
    let left3 : ℕ = left2 - length slot in
    let one : put_at used ends bytes ≡ tuples_of rows ++ (ends ++ (replicate left 0 ++ (slots ++ count))) =
    ap (put_at used ends) is ∙ put_front (tuples_of rows) ends (slots ++ count) gap used refl (omega arith) in
    let behind_ends : length (tuples_of rows ++ ends) ≡ used + length ends = length-append (tuples_of rows) ends in
    let two : put_at (used + length ends) fields (put_at used ends bytes) ≡ (tuples_of rows ++ ends) ++ (fields ++ (replicate left2 0 ++ (slots ++ count))) =
    ap (put_at (used + length ends) fields) (one ∙ sym (append_assoc (tuples_of rows) ends (replicate left 0 ++ (slots ++ count))))
    ∙ put_front (tuples_of rows ++ ends) fields (slots ++ count) left (used + length ends) behind_ends (omega arith) in
    let front : List ℕ = (tuples_of rows ++ ends) ++ fields in
    let wide_front : length front ≡ used + length ends + length fields = length-append (tuples_of rows ++ ends) fields ∙ ap (λ k. k + length fields) behind_ends in
    let slot_place : length front + left3 ≡ size - 8 - 4 * n = omega arith in
    let three : put_at (size - 8 - 4 * n) slot (put_at (used + length ends) fields (put_at used ends bytes)) ≡ front ++ (replicate left3 0 ++ (slot ++ (slots ++ count))) =
    ap (put_at (size - 8 - 4 * n) slot) (two ∙ sym (append_assoc (tuples_of rows ++ ends) fields (replicate left2 0 ++ (slots ++ count))))
    ∙ put_back front slot (slots ++ count) left2 (size - 8 - 4 * n) slot_place (omega arith) in
    let zeros : List ℕ = replicate left3 0 in
    let before : List ℕ = front ++ (zeros ++ (slot ++ slots)) in
    let moved : front ++ (zeros ++ (slot ++ (slots ++ count))) ≡ before ++ (count ++ []) =
    ap (λ (l : List ℕ). front ++ (zeros ++ l)) (sym (append_assoc slot slots count))
    ∙ ap (λ (l : List ℕ). front ++ l) (sym (append_assoc zeros (slot ++ slots) count))
    ∙ sym (append_assoc front (zeros ++ (slot ++ slots)) count) ∙ ap (λ (l : List ℕ). before ++ l) (sym (append-nil count)) in
    let wide_before : length before ≡ size - 4 =
    omega (arith, length-append front (zeros ++ (slot ++ slots)), length-append zeros (slot ++ slots), length-append slot slots, length-slots 0 rows, length-replicate {A = ℕ} left3 0) in
    let four : put_at (size - 4) (word_bytes (n + 1)) (put_at (size - 8 - 4 * n) slot (put_at (used + length ends) fields (put_at used ends bytes))) ≡ before ++ (word_bytes (n + 1) ++ []) =
    ap (put_at (size - 4) (word_bytes (n + 1))) (three ∙ moved)
    ∙ put_over before (word_bytes (n + 1)) count [] (size - 4) wide_before (length-word_bytes n ∙ sym (length-word_bytes (n + 1))) in
    let more : length (rows ++ row ∷ []) ≡ n + 1 = length-append rows (row ∷ []) in
    let gaps : size - 4 - taken (rows ++ row ∷ []) ≡ left3 = omega (arith, taken-push rows row) in
    let tuples : tuples_of (rows ++ row ∷ []) ≡ front = tuples-push rows row ∙ sym (append_assoc (tuples_of rows) ends fields) in
    let slots_are : slots_of 0 (rows ++ row ∷ []) ≡ slot ++ slots = slots-push 0 rows row ∙ (let e : 0 + used + row_size row ≡ used + row_size row = omega arith in ap (λ k. word_bytes k ++ slots) e) in
    let target : frame_bytes size (rows ++ row ∷ []) ≡ front ++ (zeros ++ ((slot ++ slots) ++ word_bytes (n + 1))) = rw (tuples, gaps, slots_are, more) refl in
    let arranged : before ++ (word_bytes (n + 1) ++ []) ≡ front ++ (zeros ++ ((slot ++ slots) ++ word_bytes (n + 1))) =
    ap (λ (l : List ℕ). before ++ l) (append-nil (word_bytes (n + 1))) ∙ append_assoc front (zeros ++ (slot ++ slots)) (word_bytes (n + 1))
    ∙ ap (λ (l : List ℕ). front ++ l) (append_assoc zeros (slot ++ slots) (word_bytes (n + 1))) in
    rw long (four ∙ arranged ∙ sym target)

-- bytes that are the frame of some rows hold them
pub frame_holds : (arity unit n used : ℕ) (bytes : List ℕ) (rows : List Fields) → 256 ≤ unit → unit ≤ 65536 → AllRows arity rows
    → length (tuples_of rows) < 2 ^ 32 → taken rows + 4 ≤ length bytes → length rows ≡ n → length (tuples_of rows) ≡ used → unit ≤ length bytes
    → (unit < length bytes → 0 < n → IsAlone unit rows (length bytes)) → (0 < n → length bytes < 2 ^ 32)
    → bytes ≡ frame_bytes (length bytes) rows → HoldsRows arity unit n used bytes
frame_holds arity unit n used bytes rows least most all low fits counted used_is whole alone reached is =
    let again : rows ≡ frame_rows arity n bytes = sym (frame_again arity rows n bytes all low fits counted is) in
    record {
      least_unit = least;
      most_unit = most;
      rows_are = subst (AllRows arity) again all;
      counted = ap length (sym again) ∙ counted;
      used_is = ap (λ (rs : List Fields). length (tuples_of rs)) (sym again) ∙ used_is;
      whole = whole;
      room = rw (← again) fits;
      alone = λ large some. subst (λ (rs : List Fields). IsAlone unit rs (length bytes)) again (alone large some);
      reached = reached;
      is = is ∙ ap (frame_bytes (length bytes)) again;
    }

zero_word : word_bytes 0 ≡ replicate 4 0
unfolding word_bytes
zero_word = refl

-- a frame without rows is zeros
pub empty_is : (size : ℕ) → 4 ≤ size → replicate size 0 ≡ frame_bytes size []
empty_is size fits =
    let split : size ≡ (size - 4 - 0) + 4 = omega arith in
    ap (λ k. replicate k 0) split ∙ replicate_split (size - 4 - 0) 4 0 ∙ ap (λ (l : List ℕ). replicate (size - 4 - 0) 0 ++ l) (sym zero_word)

pub empty_holds : (arity unit : ℕ) (bytes : List ℕ) → 256 ≤ unit → unit ≤ 65536 → unit ≤ length bytes → bytes ≡ replicate (length bytes) 0
    → HoldsRows arity unit 0 0 bytes
empty_holds arity unit bytes least most whole zeros =
    frame_holds arity unit 0 0 bytes [] least most tt (omega arith) (omega arith) refl refl whole (λ large some. absurd (omega arith)) (λ some. absurd (omega arith))
    (zeros ∙ empty_is (length bytes) (omega arith))

-- a frame with a row more
pub append_holds : (arity unit n used : ℕ) (bytes after : List ℕ) (row : Fields) → HoldsRows arity unit n used bytes → IsRow arity row
    → used + row_size row + 4 * n + 8 ≤ length bytes → length bytes < 2 ^ 32
    → (unit < length bytes → (n ≡ 0) × IsLeast unit (row_size row) (length bytes)) → after ≡ with_row n used row bytes
    → HoldsRows arity unit (n + 1) (used + row_size row) after
    × (frame_rows arity (n + 1) after ≡ frame_rows arity n bytes ++ row ∷ []) × (length after ≡ length bytes)
append_holds arity unit n used bytes after row h is_row fits low alone made =
    let rows : List Fields = frame_rows arity n bytes in
    let new : List Fields = rows ++ row ∷ [] in
    let size : ℕ = length bytes in
    let takes = taken_is rows in
    let more = taken-push rows row in
    let enough : taken rows + (row_size row + 4) + 4 ≤ size = omega (arith, h.used_is, h.counted) in
    let after_is : after ≡ frame_bytes size new =
    made ∙ ap₂ (λ (k u : ℕ). with_row k u row bytes) (sym h.counted) (sym h.used_is) ∙ with_row_is size rows row bytes enough refl h.is in
    let fits_new : taken new + 4 ≤ size = omega arith in
    let long : length after ≡ size = ap length after_is ∙ length-frame size new fits_new in
    let all : AllRows arity new = AllRows-push arity rows row h.rows_are is_row in
    let tuples : length (tuples_of new) ≡ used + row_size row =
    ap length (tuples-push rows row) ∙ length-append (tuples_of rows) (tuple_bytes row) ∙ ap₂ (λ (a b : ℕ). a + b) h.used_is (length-tuple row) in
    let short : length (tuples_of new) < 2 ^ 32 = omega arith in
    let counted : length new ≡ n + 1 = length-append rows (row ∷ []) ∙ ap (λ k. k + 1) h.counted in
    let is : after ≡ frame_bytes (length after) new = after_is ∙ ap (λ k. frame_bytes k new) (sym long) in
    let room : taken new + 4 ≤ length after = omega arith in
    let single : unit < length after → 0 < n + 1 → IsAlone unit new (length after) =
    λ large some.
    let a = alone (omega arith) in
    let none : length rows ≡ 0 = h.counted ∙ a.0 in
    let e : new ≡ row ∷ [] = ap (λ (rs : List Fields). rs ++ row ∷ []) (nil_from_length rows none) in
    (row, e, rw long a.1) in (
      frame_holds arity unit (n + 1) (used + row_size row) after new h.least_unit h.most_unit all short room counted tuples (omega (arith, h.whole)) single (λ some. omega arith) is,
      frame_again arity new (n + 1) after all short room counted is,
      long,
    )

pub used_within : (arity unit n used : ℕ) (bytes : List ℕ) → HoldsRows arity unit n used bytes → used + 4 * n + 4 ≤ length bytes
used_within arity unit n used bytes h = omega (arith, taken_is (frame_rows arity n bytes), h.used_is, h.counted, h.room)

pub free_is : (arity unit n used : ℕ) (bytes : List ℕ) → HoldsRows arity unit n used bytes
    → length bytes - 4 - taken (frame_rows arity n bytes) ≡ length bytes - 4 - 4 * n - used
free_is arity unit n used bytes h = omega (arith, taken_is (frame_rows arity n bytes), h.used_is, h.counted, h.room)

-- a frame holds a row exactly where it holds more than none
pub some_rows : (arity unit n used : ℕ) (bytes : List ℕ) → HoldsRows arity unit n used bytes → 0 < n → frame_rows arity n bytes ≢ []
some_rows arity unit n used bytes h some none = let e : length (frame_rows arity n bytes) ≡ 0 = ap length none in omega (arith, e, h.counted)

pub rows_some : (arity unit n used : ℕ) (bytes : List ℕ) → HoldsRows arity unit n used bytes → frame_rows arity n bytes ≢ [] → 0 < n
rows_some arity unit zero used bytes h some = absurd (some refl)
rows_some arity unit (suc n) used bytes h some = omega arith

-- where a row has room in a frame
pub append_room : (arity unit n used : ℕ) (bytes : List ℕ) (row : ℕ) → HoldsRows arity unit n used bytes
    → (IsFull (record { arity = arity; unit = unit; size = length bytes; rows = frame_rows arity n bytes }) row → ⊥)
    → used + row + 4 * n + 8 ≤ length bytes
append_room arity unit n used bytes row h free =
    elim (cases_lt (length bytes - 4 - taken (frame_rows arity n bytes)) (row + 4)) [
      | inl less ↦ absurd (free (inl less))
      | inr enough ↦ omega (arith, taken_is (frame_rows arity n bytes), h.used_is, h.counted, h.room)
    ]

pub append_alone : (arity unit n used : ℕ) (bytes : List ℕ) (row : ℕ) → HoldsRows arity unit n used bytes
    → (IsFull (record { arity = arity; unit = unit; size = length bytes; rows = frame_rows arity n bytes }) row → ⊥)
    → (unit < length bytes → frame_rows arity n bytes ≡ [] → IsLeast unit row (length bytes))
    → unit < length bytes → (n ≡ 0) × IsLeast unit row (length bytes)
append_alone arity unit zero used bytes row h free alone large = (refl, alone large refl)
append_alone arity unit (suc n) used bytes row h free alone large =
    absurd (free (inr (large, some_rows arity unit (suc n) used bytes h (omega arith))))

pub append_low : (arity unit n used : ℕ) (bytes : List ℕ) (row : ℕ) → HoldsRows arity unit n used bytes → row < 2 ^ 31
    → (unit < length bytes → (n ≡ 0) × IsLeast unit row (length bytes)) → length bytes < 2 ^ 32
append_low arity unit n used bytes row h short alone =
    elim (cases_lt unit (length bytes)) [
      | inl large ↦ let least = (alone large).1.least in omega (arith, least, h.most_unit)
      | inr small ↦ omega (arith, small, h.most_unit)
    ]

-- bytes that were written in place
pub written : (new old : List ℕ) (n : ℕ) → length new ≡ n → take n (new ++ drop (length new) old) ≡ new
written new old n long = take_at new (drop (length new) old) n long

-- where the tuple in place i ends, and where it begins
pub slot_is : (arity unit n used : ℕ) (bytes : List ℕ) (i : ℕ) → HoldsRows arity unit n used bytes → i < n
    → word_in (drop (length bytes - 8 - 4 * i) bytes) ≡ start_in (suc i) (map tuple_bytes (frame_rows arity n bytes))
slot_is arity unit n used bytes i h low =
    let rows : List Fields = frame_rows arity n bytes in
    let size : ℕ = length bytes in
    let k : ℕ = n - suc i in
    let within = used_within arity unit n used bytes h in
    let at : size - 8 - 4 * i ≡ (size - 4 - 4 * n) + 4 * k = omega arith in
    let behind : drop (size - 8 - 4 * i) bytes ≡ drop (4 * k) (drop (size - 4 - 4 * n) bytes) =
    ap (λ j. drop j bytes) at ∙ sym (drop-drop (4 * k) (size - 4 - 4 * n) bytes) in
    let slots : drop (size - 4 - 4 * n) bytes ≡ slots_of 0 rows ++ word_bytes (length rows) =
    ap (λ (j : ℕ). drop (size - 4 - 4 * j) bytes) (sym h.counted) ∙ ap (drop (size - 4 - 4 * length rows)) h.is ∙ slots_in size rows h.room in
    let reached = h.reached (omega arith) in
    let there = slot_at 0 rows (word_bytes (length rows)) i k (omega (arith, h.counted)) (omega (arith, h.used_is)) in
    ap word_in (behind ∙ ap (drop (4 * k)) slots) ∙ there ∙ (let e : 0 + start_in (suc i) (map tuple_bytes rows) ≡ start_in (suc i) (map tuple_bytes rows) = omega arith in e)

pub tuple_start_is : (arity unit n used : ℕ) (bytes : List ℕ) (i s : ℕ) → HoldsRows arity unit n used bytes → i ≤ n → (i ≡ 0 → s ≡ 0)
    → (0 < i → s ≡ word_in (drop (length bytes - 4 - 4 * i) bytes)) → s ≡ start_in i (map tuple_bytes (frame_rows arity n bytes))
tuple_start_is arity unit n used bytes zero s h low first later = first refl
tuple_start_is arity unit n used bytes (suc i) s h low first later =
    let at : length bytes - 4 - 4 * suc i ≡ length bytes - 8 - 4 * i = omega arith in
    later (omega arith) ∙ ap (λ k. word_in (drop k bytes)) at ∙ slot_is arity unit n used bytes i h (omega arith)

pub tuple_is : (arity unit n used : ℕ) (bytes : List ℕ) (i s e : ℕ) → HoldsRows arity unit n used bytes → i < n
    → s ≡ start_in i (map tuple_bytes (frame_rows arity n bytes)) → e ≡ start_in (suc i) (map tuple_bytes (frame_rows arity n bytes))
    → take (e - s) (drop s bytes) ≡ tuple_bytes (get_or (frame_rows arity n bytes) i [])
tuple_is arity unit n used bytes i s e h low starts stops =
    let rows : List Fields = frame_rows arity n bytes in
    let pieces : List (List ℕ) = map tuple_bytes rows in
    let rest : List ℕ = replicate (length bytes - 4 - taken rows) 0 ++ (slots_of 0 rows ++ word_bytes (length rows)) in
    let in_rows : i < length rows = omega (arith, h.counted) in
    let same : length pieces ≡ length rows = simp length-map in
    let in_pieces : i < length pieces = omega arith in
    let more = start_more pieces i in_pieces in
    let wide : e - s ≡ length (get_or pieces i []) = omega arith in
    ap (λ k. take k (drop s bytes)) wide ∙ ap₂ (λ (k : ℕ) (l : List ℕ). take (length (get_or pieces i [])) (drop k l)) starts h.is
    ∙ piece_at pieces rest i in_pieces ∙ get_or-map tuple_bytes rows i [] [] in_rows

pub tuple_bounds : (arity unit n used : ℕ) (bytes : List ℕ) (i s e : ℕ) → HoldsRows arity unit n used bytes → i < n
    → s ≡ start_in i (map tuple_bytes (frame_rows arity n bytes)) → e ≡ start_in (suc i) (map tuple_bytes (frame_rows arity n bytes))
    → (s ≤ e) × (e ≤ length bytes)
tuple_bounds arity unit n used bytes i s e h low starts stops =
    let rows : List Fields = frame_rows arity n bytes in
    let pieces : List (List ℕ) = map tuple_bytes rows in
    let same : length pieces ≡ length rows = simp length-map in
    let in_pieces : i < length pieces = omega (arith, h.counted) in
    let more = start_more pieces i in_pieces in
    let within = start_within pieces (suc i) in
    (omega arith, omega (arith, h.used_is, used_within arity unit n used bytes h))

pub row_at : (arity : ℕ) (rows : List Fields) (i : ℕ) → AllRows arity rows → i < length rows → IsRow arity (get_or rows i [])
row_at arity [] i all low = absurd (omega arith)
row_at arity (row ∷ rows) zero all low = all.0
row_at arity (row ∷ rows) (suc i) all low = row_at arity rows i all.1 (omega arith)

pub size_within : (rows : List Fields) (i : ℕ) → i < length rows → row_size (get_or rows i []) ≤ length (tuples_of rows)
size_within rows i low =
    let pieces : List (List ℕ) = map tuple_bytes rows in
    let same : length pieces ≡ length rows = simp length-map in
    let more = start_more pieces i (omega arith) in
    let within = start_within pieces (suc i) in
    let is : length (get_or pieces i []) ≡ row_size (get_or rows i []) = ap length (get_or-map tuple_bytes rows i [] [] low) ∙ length-tuple (get_or rows i []) in
    omega arith

-- a tuple cut behind its ends holds its row
pub tuple_holds : (arity : ℕ) (row : Fields) (tuple ends fields : List ℕ) → IsRow arity row → row_size row < 2 ^ 32 → tuple ≡ tuple_bytes row
    → ends ≡ take (4 * arity) tuple → fields ≡ drop (4 * arity) tuple → HoldsRow arity ends fields × (cut_row arity 0 ends fields ≡ row)
tuple_holds arity row tuple ends fields is short t e f =
    let long : length (field_ends 0 row) ≡ 4 * arity = length-field_ends 0 row ∙ ap (λ k. 4 * k) is.0 in
    let low : length (concat row) < 2 ^ 32 = omega arith in
    let ends_is : ends ≡ field_ends 0 row = e ∙ ap (take (4 * arity)) t ∙ take_at (field_ends 0 row) (concat row) (4 * arity) long in
    let fields_is : fields ≡ concat row = f ∙ ap (drop (4 * arity)) t ∙ drop_at (field_ends 0 row) (concat row) (4 * arity) long in
    (row_holds row arity ends fields is.1 low is.0 ends_is fields_is, row_is row arity ends fields low is.0 ends_is fields_is)
