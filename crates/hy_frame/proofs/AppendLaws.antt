-- What an append does to a frame, as its user sees it.
use Rattle.std.proofs.Common.{◌≡◌, ℕ, ◌+◌, ◌*◌, ◌^◌, ◌<◌, ◌≤◌, List, [], ◌∷◌, ◌++◌, length, get_or, refl, IsTrue, false, true≢false, sym, ap₂, subst, arith}
use Rattle.hy_frame.specs.Cuts.{frame_rows, HoldsRows}
use Rattle.hy_frame.specs.Frame.{FrameOf, IsFull, with_rows}
use Rattle.hy_frame.specs.FrameText.{IsLeast}
use Rattle.hy_frame.specs.Pieces.{with_row}
use Rattle.hy_frame.specs.Row.{Fields, AllFields, IsRow, row_size}
use Rattle.hy_frame.proofs.FrameLaws.{append_room, append_alone, append_low, append_holds, used_within, row_at, size_within}

-- what is seen of a frame's fields
abbrev pub seen : ℕ → ℕ → ℕ → List ℕ → FrameOf
seen arity unit n bytes = record { arity = arity; unit = unit; size = length bytes; rows = frame_rows arity n bytes }

pub record Appends (arity unit n used : ℕ) (bytes : List ℕ) (row : Fields) (f : FrameOf) (size : ℕ) : Type 0 where
  pub room : used + row_size row + 4 * n + 8 ≤ length bytes
  pub reached : length bytes < 2 ^ 32
  pub holds : (after : List ℕ) → after ≡ with_row n used row bytes → HoldsRows arity unit (n + 1) (used + size) after
  pub long : (after : List ℕ) → after ≡ with_row n used row bytes → length after ≡ length bytes
  pub is : (after : List ℕ) → after ≡ with_row n used row bytes → seen arity unit (n + 1) after ≡ with_rows f (f.rows ++ row ∷ [])

-- a row that has room in a frame is appended by writing it
abbrev pub MayAppend : ℕ → ℕ → ℕ → ℕ → List ℕ → Fields → ℕ → FrameOf → Type 0
MayAppend arity unit n used bytes row size f =
    length row ≡ f.arity → (IsFull f size → IsTrue false) → (f.unit < f.size → f.rows ≡ [] → IsLeast f.unit (row_size row) f.size) → Appends arity unit n used bytes row f size

appends_here : (arity unit n used : ℕ) (bytes : List ℕ) (row : Fields) (size : ℕ) → HoldsRows arity unit n used bytes → AllFields row → size ≡ row_size row
    → size < 2 ^ 31 → MayAppend arity unit n used bytes row size (seen arity unit n bytes)
appends_here arity unit n used bytes row size h fields is short wide tested alone =
    let free : IsFull (seen arity unit n bytes) size → ⊥ = λ full. true≢false (sym (tested full)) in
    let alone_at : unit < length bytes → frame_rows arity n bytes ≡ [] → IsLeast unit size (length bytes) = λ large none. rw is (alone large none) in
    let room = append_room arity unit n used bytes size h free in
    let single = append_alone arity unit n used bytes size h free alone_at in
    let low = append_low arity unit n used bytes size h short single in
    let single_row : unit < length bytes → (n ≡ 0) × IsLeast unit (row_size row) (length bytes) = λ large. subst (λ (k : ℕ). (n ≡ 0) × IsLeast unit k (length bytes)) is (single large) in
    let step : (after : List ℕ) → after ≡ with_row n used row bytes
    → HoldsRows arity unit (n + 1) (used + row_size row) after × (frame_rows arity (n + 1) after ≡ frame_rows arity n bytes ++ row ∷ []) × (length after ≡ length bytes) =
    λ after made. append_holds arity unit n used bytes after row h (wide, fields) (omega arith) low single_row made in
    record {
      room = omega arith;
      reached = low;
      holds = λ after made. rw is (step after made).0;
      long = λ after made. (step after made).2;
      is = λ after made. ap₂ (λ (k : ℕ) (rs : List Fields). with_rows (record { arity = arity; unit = unit; size = k; rows = rs }) rs) (step after made).2 (step after made).1;
    }

pub appends : (arity unit n used : ℕ) (bytes : List ℕ) (row : Fields) (size : ℕ) (f : FrameOf) → HoldsRows arity unit n used bytes → AllFields row
    → size ≡ row_size row → size < 2 ^ 31 → seen arity unit n bytes ≡ f → MayAppend arity unit n used bytes row size f
appends arity unit n used bytes row size f h fields is short view =
    subst (MayAppend arity unit n used bytes row size) view (appends_here arity unit n used bytes row size h fields is short)

-- a row of a frame
pub record RowIn (arity : ℕ) (f : FrameOf) (i : ℕ) : Type 0 where
  pub is : IsRow arity (get_or f.rows i [])
  pub same : arity ≡ f.arity
  pub short : row_size (get_or f.rows i []) < 2 ^ 32

pub row_in : (arity unit n used : ℕ) (bytes : List ℕ) (f : FrameOf) (i : ℕ) → HoldsRows arity unit n used bytes → seen arity unit n bytes ≡ f
    → i < length f.rows → RowIn arity f i
row_in arity unit n used bytes f i h view = subst (λ (g : FrameOf). i < length g.rows → RowIn arity g i) view here
  where
    here : i < length (frame_rows arity n bytes) → RowIn arity (seen arity unit n bytes) i
    here low =
        let rows : List Fields = frame_rows arity n bytes in
        let within = used_within arity unit n used bytes h in
        let reached = h.reached (omega (arith, h.counted)) in
        record { is = row_at arity rows i h.rows_are low; same = refl; short = omega (arith, size_within rows i low, h.used_is) }
