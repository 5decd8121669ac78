-- Which bytes are a frame, in worked cases.
use Rattle.std.proofs.Common.{◌≡◌, ◌<◌, ℕ, List, [], ◌∷◌, get_or, refl, sym, ap, inl, inr, arith}
use Rattle.hy_frame.specs.Cases.{null_row, TwoRows, GapIsZeros, EndsGoDown, AloneInTwoUnits, NotInThreeUnits, NoTwoInTwoUnits}
use Rattle.hy_frame.specs.Field.{IsField}
use Rattle.hy_frame.specs.FrameText.{IsFrameSize}
use Rattle.hy_frame.specs.Row.{Fields, IsRow, row_size}
use Rattle.hy_frame.specs.Word.{word_bytes}

null_field : IsField (0 ∷ [])
null_field = inl (omega arith, refl)

is_null_row : IsRow 1 null_row
is_null_row = (refl, (null_field, tt))

differ : (a b : ℕ) → a ≡ b → a < b → ⊥
differ a b same less = omega arith

pub two_rows : TwoRows
unfolding word_bytes
two_rows = record { rows_are = (is_null_row, (is_null_row, tt)); sized = inl (refl, omega arith); reached = omega arith; is = refl }

pub gap_is_zeros : GapIsZeros
unfolding word_bytes
gap_is_zeros t = let e = t.is in cc

pub ends_go_down : EndsGoDown
unfolding word_bytes
ends_go_down t = differ 5 10 (ap (λ (l : List ℕ). get_or l 15 0) t.is) (omega arith)

pub alone_in_two_units : AloneInTwoUnits
unfolding word_bytes
alone_in_two_units =
    record {
      rows_are = (is_null_row, tt);
      sized = inr (omega arith, (null_row, refl, record { times = 2; multiple = refl; fits = omega arith; least = omega arith }));
      reached = omega arith;
      is = refl;
    }

not_three : IsFrameSize 8 (null_row ∷ []) 24 → ⊥
not_three (inl same) = omega (arith, same.0)
not_three (inr larger) =
    let wide : row_size larger.1.0 ≡ 5 = ap one_size (sym larger.1.1) in omega (arith, larger.1.2.least, wide)
  where
    one_size : List Fields → ℕ
    one_size [] = 0
    one_size (row ∷ rows) = row_size row

pub not_in_three_units : NotInThreeUnits
not_in_three_units t = not_three t.sized

not_alone : IsFrameSize 12 (null_row ∷ null_row ∷ []) 24 → ⊥
not_alone (inl same) = omega (arith, same.0)
not_alone (inr larger) = let e = larger.1.1 in cc

pub no_two_in_two_units : NoTwoInTwoUnits
no_two_in_two_units t = not_alone t.sized
