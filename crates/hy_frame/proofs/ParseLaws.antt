-- Part by part, bytes are a frame exactly where the tests hold.
use Rattle.std.proofs.Common.{◌≡◌, ◌∙◌, ◌↔◌, ℕ, zero, suc, ◌+◌, ◌*◌, ◌-◌, ◌^◌, ◌<◌, ◌≤◌, List, [], ◌∷◌, ◌++◌, length, map, take, drop, get_or, replicate, refl, sym, ap, ap₂, subst, inl, inr, append_assoc, append-nil, length-append, length-drop, arith, ◌/◌, ◌%◌, IsTrue, nat_lt, mul-le-mul_right}
use Rattle.std.proofs.lemmas.Bool.{cases_lt}
use Rattle.std.proofs.lemmas.Bool.Decides.{nat_tests}
use borrow.Author.Tests.{ltb-true}
use Rattle.hy_frame.specs.Cuts.{frame_rows, HoldsRows}
use Rattle.std.proofs.lemmas.List.{take_at, drop_at, take-append-drop, length-replicate, length-take, nil_from_length, get_or_past, take_all, length-map}
use Rattle.hy_frame.proofs.PieceLaws.{start_in}
use Rattle.std.specs.List.{concat}
use Rattle.hy_frame.specs.Field.{IsField}
use Rattle.hy_frame.specs.FrameText.{AllRows, FrameText, IsFrameText, IsFrameSize, IsAlone, IsLeast, tuples_of, slots_of, taken, frame_bytes}
use Rattle.hy_frame.specs.Parse.{BeginsField, AreFields, IsTuple, BeginsTuple, AreTuples, HasSize}
use Rattle.hy_frame.specs.Row.{Fields, AllFields, field_ends, row_size, tuple_bytes}
use Rattle.hy_frame.specs.Word.{word_bytes, word_in}
use Rattle.hy_frame.proofs.ByteLists.{AreBytes}
use Rattle.hy_frame.proofs.FrameLaws.{length-slots, taken_is, frame_again, frame_holds, tuple_start_is}
use Rattle.hy_frame.proofs.RowLaws.{length-field_ends, length-tuple}
use Rattle.hy_frame.proofs.WordLaws.{length-word_bytes, word_again, word_back}

pub bytes_drop : (n : ℕ) (bytes : List ℕ) → AreBytes bytes → AreBytes (drop n bytes)
bytes_drop zero bytes are = are
bytes_drop (suc n) [] are = are
bytes_drop (suc n) (b ∷ bytes) are = bytes_drop n bytes (λ i. are (suc i))

pub bytes_take : (n : ℕ) (bytes : List ℕ) → AreBytes bytes → (i : ℕ) → get_or (take n bytes) i 0 < 256
bytes_take zero bytes are i = let e : get_or {A = ℕ} [] i 0 ≡ 0 = get_or_past [] i 0 (omega arith) in omega (arith, e)
bytes_take (suc n) [] are i = are i
bytes_take (suc n) (b ∷ bytes) are zero = are zero
bytes_take (suc n) (b ∷ bytes) are (suc i) = bytes_take n bytes (λ j. are (suc j)) i

-- the first field of a row
next_field : (row : Fields) (n start : ℕ) (ends fields : List ℕ) → length row ≡ suc n → AllFields row → ends ≡ field_ends start row → fields ≡ concat row
    → start + length fields < 2 ^ 32 → BeginsField start (word_in ends) fields × AreFields n (word_in ends) (drop 4 ends) (drop (word_in ends - start) fields)
next_field [] n start ends fields counted all e f low = absurd (omega arith)
next_field (field ∷ row) n start ends fields counted all e f low =
    let at_end : ℕ = start + length field in
    let long : length fields ≡ length field + length (concat row) = ap length f ∙ length-append field (concat row) in
    let first : word_in ends ≡ at_end = ap word_in e ∙ word_again at_end (field_ends at_end row) (omega arith) in
    let width : length field ≡ word_in ends - start = omega arith in
    let piece : take (word_in ends - start) fields ≡ field = ap (take (word_in ends - start)) f ∙ take_at field (concat row) (word_in ends - start) width in
    let left : drop (word_in ends - start) fields ≡ concat row = ap (drop (word_in ends - start)) f ∙ drop_at field (concat row) (word_in ends - start) width in
    let later : drop 4 ends ≡ field_ends at_end row = ap (drop 4) e ∙ drop_at (word_bytes at_end) (field_ends at_end row) 4 (length-word_bytes at_end) in
    ((omega arith, omega arith, subst IsField (sym piece) all.0), (row, omega arith, all.1, later ∙ ap (λ k. field_ends k row) (sym first), left))

pub fields_next : (n start : ℕ) (ends fields : List ℕ) → start + length fields < 2 ^ 32 → AreFields (suc n) start ends fields
    → BeginsField start (word_in ends) fields × AreFields n (word_in ends) (drop 4 ends) (drop (word_in ends - start) fields)
fields_next n start ends fields low are = next_field are.0 n start ends fields are.1 are.2 are.3 are.4 low

pub fields_back : (n start : ℕ) (ends fields : List ℕ) → 4 ≤ length ends → AreBytes ends → BeginsField start (word_in ends) fields
    → AreFields n (word_in ends) (drop 4 ends) (drop (word_in ends - start) fields) → AreFields (suc n) start ends fields
fields_back n start ends fields long small begins are =
    let end : ℕ = word_in ends in
    let field : List ℕ = take (end - start) fields in
    let row : Fields = are.0 in
    let wide : start + length field ≡ end = omega (arith, length-take (end - start) fields, begins.0, begins.1) in
    let ends_are : ends ≡ word_bytes (start + length field) ++ field_ends (start + length field) row =
    sym (take-append-drop 4 ends) ∙ ap₂ (λ (a b : List ℕ). a ++ b) (sym (word_back ends long small)) are.3
    ∙ ap (λ k. word_bytes k ++ field_ends k row) (sym wide) in
    let fields_are : fields ≡ field ++ concat row = sym (take-append-drop (end - start) fields) ∙ ap (λ (l : List ℕ). field ++ l) are.4 in
    (field ∷ row, ap suc are.1, (begins.2, are.2), ends_are, fields_are)

pub no_fields : (start : ℕ) (ends fields : List ℕ) → length ends ≡ 0 → (fields ≡ []) ↔ AreFields 0 start ends fields
no_fields start ends fields none = (λ empty. ([], refl, tt, nil_from_length ends none, empty), λ are. are.4 ∙ ap concat (nil_from_length are.0 are.1))

-- the first tuple of a frame
next_tuple : (rows : List Fields) (arity n start : ℕ) (slots bytes : List ℕ) → length rows ≡ suc n → AllRows arity rows → slots ≡ slots_of start rows
    → length (tuples_of rows) ≤ length bytes → bytes ≡ tuples_of rows ++ replicate (length bytes - length (tuples_of rows)) 0 → start + length bytes < 2 ^ 32
    → BeginsTuple arity start (word_in (drop (4 * n) slots)) bytes
    × AreTuples arity n (word_in (drop (4 * n) slots)) (take (4 * n) slots) (drop (word_in (drop (4 * n) slots) - start) bytes)
next_tuple [] arity n start slots bytes counted all s within b low = absurd (omega arith)
next_tuple (row ∷ rows) arity n start slots bytes counted all s within b low =
    let at_end : ℕ = start + row_size row in
    let end : ℕ = word_in (drop (4 * n) slots) in
    let gap : ℕ = length bytes - length (tuple_bytes row ++ tuples_of rows) in
    let zeros : List ℕ = replicate gap 0 in
    let sum = length-append (tuple_bytes row) (tuples_of rows) in
    let wide = length-tuple row in
    let before : length (slots_of at_end rows) ≡ 4 * n = length-slots at_end rows ∙ ap (λ k. 4 * k) (let e : length rows ≡ n = omega arith in e) in
    let last : drop (4 * n) slots ≡ word_bytes at_end = ap (drop (4 * n)) s ∙ drop_at (slots_of at_end rows) (word_bytes at_end) (4 * n) before in
    let first : end ≡ at_end = ap word_in (last ∙ sym (append-nil (word_bytes at_end))) ∙ word_again at_end [] (omega arith) in
    let later : take (4 * n) slots ≡ slots_of at_end rows = ap (take (4 * n)) s ∙ take_at (slots_of at_end rows) (word_bytes at_end) (4 * n) before in
    let width : length (tuple_bytes row) ≡ end - start = omega arith in
    let is : bytes ≡ tuple_bytes row ++ (tuples_of rows ++ zeros) = b ∙ append_assoc (tuple_bytes row) (tuples_of rows) zeros in
    let piece : take (end - start) bytes ≡ tuple_bytes row = ap (take (end - start)) is ∙ take_at (tuple_bytes row) (tuples_of rows ++ zeros) (end - start) width in
    let left : drop (end - start) bytes ≡ tuples_of rows ++ zeros = ap (drop (end - start)) is ∙ drop_at (tuple_bytes row) (tuples_of rows ++ zeros) (end - start) width in
    let rest : length (drop (end - start) bytes) ≡ length (tuples_of rows) + gap =
    ap length left ∙ length-append (tuples_of rows) zeros ∙ ap (λ k. length (tuples_of rows) + k) (length-replicate gap 0) in
    let gaps : gap ≡ length (drop (end - start) bytes) - length (tuples_of rows) = omega arith in (
      (omega arith, omega arith, (row, all.0, piece)),
      (rows, omega arith, all.1, later ∙ ap (λ k. slots_of k rows) (sym first), omega arith, left ∙ ap (λ k. tuples_of rows ++ replicate k 0) gaps),
    )

pub tuples_next : (arity n start : ℕ) (slots bytes : List ℕ) → start + length bytes < 2 ^ 32 → AreTuples arity (suc n) start slots bytes
    → BeginsTuple arity start (word_in (drop (4 * n) slots)) bytes
    × AreTuples arity n (word_in (drop (4 * n) slots)) (take (4 * n) slots) (drop (word_in (drop (4 * n) slots) - start) bytes)
tuples_next arity n start slots bytes low are = next_tuple are.0 arity n start slots bytes are.1 are.2 are.3 are.4 are.5 low

pub tuples_back : (arity n start : ℕ) (slots bytes : List ℕ) → length slots ≡ 4 * n + 4 → AreBytes (drop (4 * n) slots)
    → BeginsTuple arity start (word_in (drop (4 * n) slots)) bytes
    → AreTuples arity n (word_in (drop (4 * n) slots)) (take (4 * n) slots) (drop (word_in (drop (4 * n) slots) - start) bytes)
    → AreTuples arity (suc n) start slots bytes
tuples_back arity n start slots bytes long small begins are =
    let end : ℕ = word_in (drop (4 * n) slots) in
    let row : Fields = begins.2.0 in
    let rows : List Fields = are.0 in
    let piece : take (end - start) bytes ≡ tuple_bytes row = begins.2.2 in
    let short : length (drop (4 * n) slots) ≡ 4 = omega (arith, length-drop (4 * n) slots) in
    let wide : start + row_size row ≡ end =
    (let e : length (take (end - start) bytes) ≡ row_size row = ap length piece ∙ length-tuple row in omega (arith, e, length-take (end - start) bytes, begins.0, begins.1)) in
    let last : drop (4 * n) slots ≡ word_bytes end =
    (let all : take 4 (drop (4 * n) slots) ≡ drop (4 * n) slots = ap (take 4) (sym (append-nil (drop (4 * n) slots))) ∙ take_at (drop (4 * n) slots) [] 4 short in
    sym all ∙ sym (word_back (drop (4 * n) slots) (omega arith) small)) in
    let slots_are : slots ≡ slots_of (start + row_size row) rows ++ word_bytes (start + row_size row) =
    sym (take-append-drop (4 * n) slots) ∙ ap₂ (λ (a b : List ℕ). a ++ b) are.3 last ∙ ap (λ k. slots_of k rows ++ word_bytes k) (sym wide) in
    let rest : List ℕ = drop (end - start) bytes in
    let gap : ℕ = length rest - length (tuples_of rows) in
    let sum : length (tuple_bytes row ++ tuples_of rows) ≡ row_size row + length (tuples_of rows) = length-append (tuple_bytes row) (tuples_of rows) ∙ ap (λ k. k + length (tuples_of rows)) (length-tuple row) in
    let left : length rest ≡ length bytes - (end - start) = length-drop (end - start) bytes in
    let gaps : gap ≡ length bytes - length (tuple_bytes row ++ tuples_of rows) = omega (arith, begins.0, begins.1) in
    let bytes_are : bytes ≡ (tuple_bytes row ++ tuples_of rows) ++ replicate (length bytes - length (tuple_bytes row ++ tuples_of rows)) 0 =
    sym (take-append-drop (end - start) bytes) ∙ ap₂ (λ (a b : List ℕ). a ++ b) piece are.5 ∙ sym (append_assoc (tuple_bytes row) (tuples_of rows) (replicate gap 0))
    ∙ ap (λ k. (tuple_bytes row ++ tuples_of rows) ++ replicate k 0) gaps in
    (row ∷ rows, ap suc are.1, (begins.2.1, are.2), slots_are, omega (arith, are.4, begins.0, begins.1), bytes_are)

no_tuples_of : (rows : List Fields) (bytes : List ℕ) → length rows ≡ 0 → bytes ≡ tuples_of rows ++ replicate (length bytes - length (tuples_of rows)) 0 → bytes ≡ replicate (length bytes) 0
no_tuples_of [] bytes none b = b ∙ ap (λ k. replicate k 0) (let e : length bytes - 0 ≡ length bytes = omega arith in e)
no_tuples_of (row ∷ rows) bytes none b = absurd (omega arith)

pub no_tuples : (arity start : ℕ) (slots bytes : List ℕ) → length slots ≡ 0 → (bytes ≡ replicate (length bytes) 0) ↔ AreTuples arity 0 start slots bytes
no_tuples arity start slots bytes none = (
  λ zeros. ([], refl, tt, nil_from_length slots none, omega arith, zeros ∙ ap (λ k. replicate k 0) (let e : length bytes ≡ length bytes - 0 = omega arith in e)),
  λ are. no_tuples_of are.0 bytes are.1 are.5,
)

-- a frame has the size of its rows
size_sound : (unit size : ℕ) (rows : List Fields) → taken rows + 4 ≤ size → length (tuples_of rows) < 2 ^ 32 → HasSize unit size (slots_of 0 rows) → IsFrameSize unit rows size
size_sound unit size rows fits low (inl same) = inl (same, fits)
size_sound unit size [] fits low (inr larger) = absurd (omega (arith, larger.1))
size_sound unit size (row ∷ []) fits low (inr larger) =
    let sum : 0 + row_size row ≡ row_size row = omega arith in
    let one : word_in (word_bytes (0 + row_size row)) ≡ row_size row =
    ap (λ k. word_in (word_bytes k)) sum ∙ ap word_in (sym (append-nil (word_bytes (row_size row)))) ∙ word_again (row_size row) [] (omega (arith, length-append (tuple_bytes row) [], length-tuple row)) in
    inr (larger.0, (row, refl, subst (λ k. IsLeast unit k size) one larger.2))
size_sound unit size (row ∷ (next ∷ rows)) fits low (inr larger) =
    let long : length (slots_of 0 (row ∷ (next ∷ rows))) ≡ 4 * length (row ∷ (next ∷ rows)) = length-slots 0 (row ∷ (next ∷ rows)) in
    let four : length (slots_of 0 (row ∷ (next ∷ rows))) ≡ 4 = larger.1 in
    absurd (omega arith)

size_complete : (unit size : ℕ) (rows : List Fields) → length (tuples_of rows) < 2 ^ 32 → IsFrameSize unit rows size → HasSize unit size (slots_of 0 rows)
size_complete unit size rows low (inl same) = inl same.0
size_complete unit size rows low (inr larger) =
    let row : Fields = larger.1.0 in
    let is : rows ≡ row ∷ [] = larger.1.1 in
    let sum : 0 + row_size row ≡ row_size row = omega arith in
    let short : length (tuple_bytes row ++ []) < 2 ^ 32 = subst (λ (rs : List Fields). length (tuples_of rs) < 2 ^ 32) is low in
    let slots : slots_of 0 rows ≡ word_bytes (row_size row) = ap (slots_of 0) is ∙ ap word_bytes sum in
    let one : word_in (slots_of 0 rows) ≡ row_size row =
    ap word_in (slots ∙ sym (append-nil (word_bytes (row_size row)))) ∙ word_again (row_size row) [] (omega (arith, length-append (tuple_bytes row) [], length-tuple row)) in
    inr (larger.0, ap length slots ∙ length-word_bytes (row_size row), subst (λ k. IsLeast unit k size) (sym one) larger.1.2)

-- a frame's parts as they are tested
pub frame_sound : (arity unit n : ℕ) (bytes body slots last : List ℕ) → length bytes < 2 ^ 32 → length slots ≡ 4 * n → length last ≡ 4 → AreBytes last → word_in last ≡ n
    → bytes ≡ (body ++ slots) ++ last → AreTuples arity n 0 slots body → HasSize unit (length bytes) slots
    → (rows : List Fields) × (length rows ≡ n) × FrameText rows arity unit bytes
frame_sound arity unit n bytes body slots last low long four small counted is are sized =
    let rows : List Fields = are.0 in
    let size : length bytes ≡ length body + 4 * n + 4 = ap length is ∙ (let a = length-append (body ++ slots) last in let b = length-append body slots in omega arith) in
    let takes = taken_is rows in
    let fits : taken rows + 4 ≤ length bytes = omega (arith, are.4, are.1) in
    let tuples_low : length (tuples_of rows) < 2 ^ 32 = omega (arith, are.4) in
    let last_is : last ≡ word_bytes (length rows) =
    (let all : take 4 last ≡ last = ap (take 4) (sym (append-nil last)) ∙ take_at last [] 4 four in
    sym all ∙ sym (word_back last (omega arith) small) ∙ ap word_bytes (counted ∙ sym are.1)) in
    let gap : length body - length (tuples_of rows) ≡ length bytes - 4 - taken rows = omega (arith, are.4, are.1) in
    let zeros : List ℕ = replicate (length bytes - 4 - taken rows) 0 in
    let body_is : body ≡ tuples_of rows ++ zeros = are.5 ∙ ap (λ k. tuples_of rows ++ replicate k 0) gap in
    let whole : (body ++ slots) ++ last ≡ frame_bytes (length bytes) rows =
    ap₂ (λ (a b : List ℕ). (a ++ b) ++ last) body_is are.3 ∙ ap (λ (l : List ℕ). ((tuples_of rows ++ zeros) ++ slots_of 0 rows) ++ l) last_is
    ∙ append_assoc (tuples_of rows ++ zeros) (slots_of 0 rows) (word_bytes (length rows))
    ∙ append_assoc (tuples_of rows) zeros (slots_of 0 rows ++ word_bytes (length rows)) in (
      rows,
      are.1,
      record {
        rows_are = are.2;
        sized = size_sound unit (length bytes) rows fits tuples_low (subst (HasSize unit (length bytes)) are.3 sized);
        reached = low;
        is = is ∙ whole;
      },
    )

fits_in : (unit : ℕ) (rows : List Fields) (size : ℕ) → IsFrameSize unit rows size → taken rows + 4 ≤ size
fits_in unit rows size (inl same) = same.1
fits_in unit rows size (inr larger) =
    let is : taken rows ≡ row_size larger.1.0 + 4 + 0 = ap taken larger.1.1 in
    omega (arith, is, larger.1.2.fits)

pub record Parts (arity unit : ℕ) (bytes : List ℕ) : Type 0 where
  pub long : 4 ≤ length bytes
  pub rows : ℕ
  pub body : List ℕ
  pub slots : List ℕ
  pub last_is : drop (length bytes - 4) bytes ≡ word_bytes rows
  pub counted : word_in (drop (length bytes - 4) bytes) ≡ rows
  pub front_is : take (length bytes - 4) bytes ≡ body ++ slots
  pub slots_long : length slots ≡ 4 * rows
  pub are : AreTuples arity rows 0 slots body
  pub sized : HasSize unit (length bytes) slots

pub frame_complete : (arity unit : ℕ) (bytes : List ℕ) → IsFrameText arity unit bytes → Parts arity unit bytes
frame_complete arity unit bytes text =
    let rows : List Fields = text.0 in
    let t = text.1 in
    let size : ℕ = length bytes in
    let fits : taken rows + 4 ≤ size = fits_in unit rows size t.sized in
    let takes = taken_is rows in
    let gap : ℕ = size - 4 - taken rows in
    let zeros : List ℕ = replicate gap 0 in
    let body : List ℕ = tuples_of rows ++ zeros in
    let slots : List ℕ = slots_of 0 rows in
    let count : List ℕ = word_bytes (length rows) in
    let body_long : length body ≡ length (tuples_of rows) + gap = length-append (tuples_of rows) zeros ∙ ap (λ k. length (tuples_of rows) + k) (length-replicate gap 0) in
    let slots_long : length slots ≡ 4 * length rows = length-slots 0 rows in
    let is : bytes ≡ (body ++ slots) ++ count =
    t.is ∙ sym (append_assoc (tuples_of rows) zeros (slots ++ count)) ∙ sym (append_assoc body slots count) in
    let front_long : length (body ++ slots) ≡ size - 4 = omega (arith, length-append body slots) in
    let last : drop (size - 4) bytes ≡ count = ap (drop (size - 4)) is ∙ drop_at (body ++ slots) count (size - 4) front_long in
    let few : length rows < 2 ^ 32 = omega (arith, t.reached) in
    let tuples_low : length (tuples_of rows) < 2 ^ 32 = omega (arith, t.reached) in
    let gaps : gap ≡ length body - length (tuples_of rows) = omega arith in
    record {
      long = omega arith;
      rows = length rows;
      body = body;
      slots = slots;
      last_is = last;
      counted = ap word_in (last ∙ sym (append-nil count)) ∙ word_again (length rows) [] few;
      front_is = ap (take (size - 4)) is ∙ take_at (body ++ slots) count (size - 4) front_long;
      slots_long = slots_long;
      are = (rows, refl, t.rows_are, refl, omega arith, ap (λ k. tuples_of rows ++ replicate k 0) gaps);
      sized = size_complete unit size rows tuples_low t.sized;
    }

-- multiples of a unit that differ do so by a unit
multiple_more : (s t u : ℕ) → s * u < t * u → s * u + u ≤ t * u
multiple_more s t u less =
    elim (cases_lt s t) [
      | inl below ↦ let more : (s + 1) * u ≤ t * u = mul-le-mul_right u (omega arith) in omega arith
      | inr above ↦ let more : t * u ≤ s * u = mul-le-mul_right u above in absurd (omega arith)
    ]

-- one multiple of a unit is the least that is no less than a number
one_multiple : (s t u m a b : ℕ) → a ≡ s * u → b ≡ t * u → m ≤ a → a < m + u → m ≤ b → b < m + u → a ≡ b
one_multiple s t u m a b a_is b_is am au bm bu =
    elim (cases_lt a b) [
      | inl less ↦ let more = multiple_more s t u (omega arith) in absurd (omega arith)
      | inr no_less ↦
          elim (cases_lt b a) [
            | inl above ↦ let more = multiple_more t s u (omega arith) in absurd (omega arith)
            | inr no_above ↦ omega arith
          ]
    ]

-- a row that has room in the unit takes one
pub least_unit : (unit row size : ℕ) → IsLeast unit row size → row + 8 ≤ unit → size ≡ unit
least_unit unit row size least fits =
    one_multiple least.times 1 unit (row + 8) size unit least.multiple (omega arith) least.fits least.least fits (omega (arith, least.least))

not_both : (unit : ℕ) (rows : List Fields) (size : ℕ) → taken rows + 4 ≤ unit → unit < size → IsAlone unit rows size → ⊥
not_both unit rows size fits larger alone =
    let is : taken rows ≡ row_size alone.0 + 4 + 0 = ap taken alone.1 in
    let one : unit ≡ 1 * unit = omega arith in
    let more = multiple_more 1 alone.2.times unit (omega (arith, alone.2.multiple)) in
    omega (arith, is, alone.2.multiple, alone.2.least)

same_row : (unit : ℕ) (x y : Fields) (a b : ℕ) → x ∷ [] ≡ y ∷ [] → IsLeast unit (row_size x) a → IsLeast unit (row_size y) b → a ≡ b
same_row unit x y a b e p q =
    let same : row_size x ≡ row_size y = ap row_size (cc) in
    one_multiple p.times q.times unit (row_size x + 8) a b p.multiple q.multiple p.fits p.least (omega (arith, q.fits)) (omega (arith, q.least))

-- one size for rows and a unit
same_size : (unit : ℕ) (rows : List Fields) (a b : ℕ) → IsFrameSize unit rows a → IsFrameSize unit rows b → a ≡ b
same_size unit rows a b (inl p) (inl q) = p.0 ∙ sym q.0
same_size unit rows a b (inl p) (inr q) = absurd (not_both unit rows b (omega (arith, p.0, p.1)) q.0 q.1)
same_size unit rows a b (inr p) (inl q) = absurd (not_both unit rows a (omega (arith, q.0, q.1)) p.0 p.1)
same_size unit rows a b (inr p) (inr q) = same_row unit p.1.0 q.1.0 a b (sym p.1.1 ∙ q.1.1) p.1.2 q.1.2

pub one_frame : (rows : List Fields) (arity unit : ℕ) (a b : List ℕ) → FrameText rows arity unit a → FrameText rows arity unit b → a ≡ b
one_frame rows arity unit a b p q =
    p.is ∙ ap (λ k. frame_bytes k rows) (same_size unit rows (length a) (length b) p.sized q.sized) ∙ sym q.is

-- the rows of a frame are those that stand in it, as many as its last bytes say
rows_there : (rows : List Fields) (arity unit : ℕ) (bytes : List ℕ) → FrameText rows arity unit bytes → frame_rows arity (word_in (drop (length bytes - 4) bytes)) bytes ≡ rows
unfolding frame_complete
rows_there rows arity unit bytes t =
    let fits = fits_in unit rows (length bytes) t.sized in
    let parts = frame_complete arity unit bytes (rows, t) in
    frame_again arity rows (word_in (drop (length bytes - 4) bytes)) bytes t.rows_are (omega (arith, taken_is rows, t.reached)) fits (sym parts.counted) t.is

pub one_rows : (a b : List Fields) (arity unit : ℕ) (bytes : List ℕ) → FrameText a arity unit bytes → FrameText b arity unit bytes → a ≡ b
one_rows a b arity unit bytes p q = sym (rows_there a arity unit bytes p) ∙ rows_there b arity unit bytes q

-- the tests of the least size
pub least_is : (unit row size : ℕ) → 0 < unit → size % unit ≡ 0 → row + 8 ≤ size → IsTrue (nat_lt (size - (row + 8)) unit) ↔ IsLeast unit row size
least_is unit row size some divides fits = (
  λ less. record {
    times = size / unit;
    multiple = (let all : unit * (size / unit) + size % unit ≡ size = omega arith in sym all ∙ (let e : unit * (size / unit) + size % unit ≡ size / unit * unit = omega arith in e));
    fits = fits;
    least = omega (arith, ltb-true, less);
  },
  λ least. grind (arith, nat_tests, least.least),
)

pub tuple_fields : (arity : ℕ) (tuple : List ℕ) → 4 * arity ≤ length tuple → AreFields arity 0 (take (4 * arity) tuple) (drop (4 * arity) tuple) ↔ IsTuple arity tuple
tuple_fields arity tuple long = (
  λ are. (are.0, (are.1, are.2), sym (take-append-drop (4 * arity) tuple) ∙ ap₂ (λ (a b : List ℕ). a ++ b) are.3 are.4),
  λ is.
      let ends : length (field_ends 0 is.0) ≡ 4 * arity = length-field_ends 0 is.0 ∙ ap (λ k. 4 * k) is.1.0 in (
        is.0,
        is.1.0,
        is.1.1,
        ap (take (4 * arity)) is.2 ∙ take_at (field_ends 0 is.0) (concat is.0) (4 * arity) ends,
        ap (drop (4 * arity)) is.2 ∙ drop_at (field_ends 0 is.0) (concat is.0) (4 * arity) ends,
      ),
)

pub tuple_long : (arity : ℕ) (tuple : List ℕ) → IsTuple arity tuple → 4 * arity ≤ length tuple
tuple_long arity tuple is =
    let e : length tuple ≡ row_size is.0 = ap length is.2 ∙ length-tuple is.0 in omega (arith, e, is.1.0)

-- one field or tuple more was tested
pub fields_now : (k start : ℕ) (ends fields : List ℕ) → 0 < k → start + length fields < 2 ^ 32 → AreFields k start ends fields → BeginsField start (word_in ends) fields
fields_now zero start ends fields some low are = absurd (omega arith)
fields_now (suc n) start ends fields some low are = (fields_next n start ends fields low are).0

pub fields_step : (k n start end : ℕ) (ends fields later rest : List ℕ) → k ≡ n + 1 → end ≡ word_in ends → later ≡ drop 4 ends → rest ≡ drop (end - start) fields
    → 4 ≤ length ends → AreBytes ends → start + length fields < 2 ^ 32 → BeginsField start end fields → AreFields k start ends fields ↔ AreFields n end later rest
fields_step zero n start end ends fields later rest is stops l r long small low begins = absurd (omega arith)
fields_step (suc k) n start end ends fields later rest is stops l r long small low begins =
    let same : k ≡ n = omega arith in
    let begins_there : BeginsField start (word_in ends) fields = subst (λ (e : ℕ). BeginsField start e fields) stops begins in
    let left : rest ≡ drop (word_in ends - start) fields = r ∙ ap (λ e. drop (e - start) fields) stops in
    rw (left, l, stops, same) (λ are. (fields_next n start ends fields low are).1, λ are. fields_back n start ends fields long small begins_there are)

pub tuples_now : (arity k start at end : ℕ) (slots bytes last : List ℕ) → 0 < k → length slots ≡ 4 * k → at ≡ length slots - 4 → last ≡ drop at slots → end ≡ word_in last
    → start + length bytes < 2 ^ 32 → AreTuples arity k start slots bytes → BeginsTuple arity start end bytes
tuples_now arity zero start at end slots bytes last some long place l stops low are = absurd (omega arith)
tuples_now arity (suc n) start at end slots bytes last some long place l stops low are =
    let same : at ≡ 4 * n = omega arith in
    rw (stops, l, same) ((tuples_next arity n start slots bytes low are).0)

pub tuples_step : (arity k n start at end : ℕ) (slots bytes last later rest : List ℕ) → k ≡ n + 1 → length slots ≡ 4 * k → at ≡ length slots - 4
    → last ≡ drop at slots → end ≡ word_in last → later ≡ take at slots → rest ≡ drop (end - start) bytes → AreBytes slots → start + length bytes < 2 ^ 32
    → BeginsTuple arity start end bytes → AreTuples arity k start slots bytes ↔ AreTuples arity n end later rest
tuples_step arity zero n start at end slots bytes last later rest is long place l stops t r small low begins = absurd (omega arith)
tuples_step arity (suc k) n start at end slots bytes last later rest is long place l stops t r small low begins =
    let count : k ≡ n = omega arith in
    let same : at ≡ 4 * n = omega arith in
    let stops_there : end ≡ word_in (drop (4 * n) slots) = stops ∙ ap word_in (l ∙ ap (λ j. drop j slots) same) in
    let begins_there : BeginsTuple arity start (word_in (drop (4 * n) slots)) bytes = subst (λ (e : ℕ). BeginsTuple arity start e bytes) stops_there begins in
    let left : rest ≡ drop (word_in (drop (4 * n) slots) - start) bytes = r ∙ ap (λ e. drop (e - start) bytes) stops_there in
    let front : later ≡ take (4 * n) slots = t ∙ ap (λ j. take j slots) same in
    rw (left, front, stops_there, count) (λ are. (tuples_next arity n start slots bytes low are).1, λ are. tuples_back arity n start slots bytes (omega arith) (bytes_drop (4 * n) slots small) begins_there are)

-- a frame as it is tested
pub parse_complete : (arity unit n k : ℕ) (bytes front last body slots : List ℕ) → front ≡ take (length bytes - 4) bytes → last ≡ drop (length bytes - 4) bytes
    → n ≡ word_in last → k ≡ length front - 4 * n → body ≡ take k front → slots ≡ drop k front → IsFrameText arity unit bytes
    → (4 * n ≤ length front) × AreTuples arity n 0 slots body × HasSize unit (length bytes) slots
parse_complete arity unit n k bytes front last body slots front_is last_is n_is k_is body_is slots_is text =
    let parts = frame_complete arity unit bytes text in
    let count : n ≡ parts.rows = n_is ∙ ap word_in last_is ∙ parts.counted in
    let whole : front ≡ parts.body ++ parts.slots = front_is ∙ parts.front_is in
    let long : length front ≡ length parts.body + length parts.slots = ap length whole ∙ length-append parts.body parts.slots in
    let place : length parts.body ≡ k = omega (arith, parts.slots_long) in
    let body_there : parts.body ≡ body = sym (take_at parts.body parts.slots k place) ∙ ap (take k) (sym whole) ∙ sym body_is in
    let slots_there : parts.slots ≡ slots = sym (drop_at parts.body parts.slots k place) ∙ ap (drop k) (sym whole) ∙ sym slots_is in (
      omega (arith, parts.slots_long),
      subst (λ (j : ℕ). AreTuples arity j 0 slots body) (sym count)
          (subst (λ (s : List ℕ). AreTuples arity parts.rows 0 s body) slots_there (subst (λ (b : List ℕ). AreTuples arity parts.rows 0 parts.slots b) body_there parts.are)),
      subst (HasSize unit (length bytes)) slots_there parts.sized,
    )

pub parse_sound : (arity unit n k : ℕ) (bytes front last body slots : List ℕ) → front ≡ take (length bytes - 4) bytes → last ≡ drop (length bytes - 4) bytes
    → n ≡ word_in last → k ≡ length front - 4 * n → body ≡ take k front → slots ≡ drop k front → 4 ≤ length bytes → length bytes < 2 ^ 32 → AreBytes last
    → 4 * n ≤ length front → AreTuples arity n 0 slots body → HasSize unit (length bytes) slots → (rows : List Fields) × (length rows ≡ n) × FrameText rows arity unit bytes
parse_sound arity unit n k bytes front last body slots front_is last_is n_is k_is body_is slots_is long low small room are sized =
    let slots_long : length slots ≡ 4 * n = omega (arith, ap length slots_is, length-drop k front) in
    let last_long : length last ≡ 4 = omega (arith, ap length last_is, length-drop (length bytes - 4) bytes) in
    let joined : (body ++ slots) ++ last ≡ bytes =
    ap₂ (λ (a b : List ℕ). (a ++ b) ++ last) body_is slots_is ∙ ap (λ (l : List ℕ). l ++ last) (take-append-drop k front)
    ∙ ap₂ (λ (a b : List ℕ). a ++ b) front_is last_is ∙ take-append-drop (length bytes - 4) bytes in
    frame_sound arity unit n bytes body slots last low slots_long last_long small (sym n_is) (sym joined) are sized

start_all : (pieces : List (List ℕ)) (n : ℕ) → length pieces ≡ n → start_in n pieces ≡ length (concat pieces)
start_all pieces n all = ap (λ (ps : List (List ℕ)). length (concat ps)) (take_all n pieces (omega arith))

-- a frame's bytes hold its rows
text_holds : (arity unit n : ℕ) (bytes : List ℕ) (rows : List Fields) → 256 ≤ unit → unit ≤ 65536 → length rows ≡ n → FrameText rows arity unit bytes
    → HoldsRows arity unit n (length (tuples_of rows)) bytes × (frame_rows arity n bytes ≡ rows)
text_holds arity unit n bytes rows least most counted t =
    let fits = fits_in unit rows (length bytes) t.sized in
    let takes = taken_is rows in
    let low : length (tuples_of rows) < 2 ^ 32 = omega (arith, t.reached) in (
      frame_holds arity unit n (length (tuples_of rows)) bytes rows least most t.rows_are low fits counted refl (whole unit rows (length bytes) t.sized)
          (λ large some. alone unit rows (length bytes) t.sized large) (λ some. t.reached) t.is,
      frame_again arity rows n bytes t.rows_are low fits counted t.is,
    )
  where
    whole : (unit : ℕ) (rows : List Fields) (size : ℕ) → IsFrameSize unit rows size → unit ≤ size
    whole unit rows size (inl same) = omega (arith, same.0)
    whole unit rows size (inr larger) = omega (arith, larger.0)

    alone : (unit : ℕ) (rows : List Fields) (size : ℕ) → IsFrameSize unit rows size → unit < size → IsAlone unit rows size
    alone unit rows size (inl same) large = absurd (omega (arith, same.0))
    alone unit rows size (inr larger) large = larger.1

pub load_room : (arity unit n : ℕ) (bytes : List ℕ) → ((rows : List Fields) × (length rows ≡ n) × FrameText rows arity unit bytes) → 4 * n + 4 ≤ length bytes
load_room arity unit n bytes text =
    omega (arith, fits_in unit text.0 (length bytes) text.2.sized, taken_is text.0, text.1)

pub load_holds : (arity unit n used : ℕ) (bytes : List ℕ) → 256 ≤ unit → unit ≤ 65536 → ((rows : List Fields) × (length rows ≡ n) × FrameText rows arity unit bytes)
    → (n ≡ 0 → used ≡ 0) → (0 < n → used ≡ word_in (drop (length bytes - 4 - 4 * n) bytes))
    → HoldsRows arity unit n used bytes × FrameText (frame_rows arity n bytes) arity unit bytes
load_holds arity unit n used bytes least most text first later =
    let rows : List Fields = text.0 in
    let h : HoldsRows arity unit n (length (tuples_of rows)) bytes × (frame_rows arity n bytes ≡ rows) = text_holds arity unit n bytes rows least most text.1 text.2 in
    let starts = tuple_start_is arity unit n (length (tuples_of rows)) bytes n used h.0 (omega arith) first later in
    let pieces : List (List ℕ) = map tuple_bytes (frame_rows arity n bytes) in
    let counted : length pieces ≡ n = (let e : length pieces ≡ length (frame_rows arity n bytes) = simp length-map in e ∙ h.0.counted) in
    let is : used ≡ length (tuples_of rows) = starts ∙ start_all pieces n counted ∙ ap (λ (rs : List Fields). length (tuples_of rs)) h.1 in
    (rw is h.0, subst (λ (rs : List Fields). FrameText rs arity unit bytes) (sym h.1) text.2)
