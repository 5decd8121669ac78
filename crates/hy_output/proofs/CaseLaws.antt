-- The worked cases.
use Rattle.std.proofs.Common.{◌≡◌, ◌<◌, ℕ, zero, suc, true, false, List, [], ◌∷◌, ◌++◌, refl, arith}
use Rattle.hy_frame.specs.Frame.{FrameOf}
use Rattle.hy_frame.specs.declared.writer.WriterState.{WriterState}
use Rattle.hy_frame.specs.declared.writer.WriterState.TheVariants.{Opened, Failed}
use Rattle.hy_mail.specs.declared.parcel.Parcel.TheVariants as P
use Rattle.al_value.specs.declared.value.Value.TheVariants as V
use Rattle.hy_driver.specs.Rows.{Row}
use Rattle.hy_driver.specs.Rows as X
use Rattle.hy_connect.specs.Outlets.{outlet_at, owed_rows, waiting_rows}
use Rattle.hy_output.specs.Ways.{AreAsFar, Posts, Sends}
use Rattle.hy_output.specs.Cases.{FailComesBehind, FramesAreKeptInOrder, FrontsAreLeft, FullFramesGoOn, RowsArePackedInOrder, frame, keeping, no, null, one_waits, writing}
use Rattle.hy_output.proofs.WayLaws.{keeper_keeps}

pub frames_are_kept : FramesAreKeptInOrder
unfolding X.values_of
frames_are_kept = (
  keeper_keeps (frame (null ∷ []) ∷ []) (frame (no ∷ [])),
  λ h. let k = h.keeps.back [] ((V.Bool false ∷ []) ∷ (V.Null ∷ []) ∷ []) (tt, refl) in let e = k.1 in absurd (cc),
)

keeps_on : (frames : List FrameOf) → Sends (keeping frames) [] (keeping frames)
keeps_on frames = record {
  still = tt;
  offers = λ k low. absurd (omega (arith, low));
  keeps = record { back = λ given on h. h };
  words = λ word far. far;
}

abbrev null_row : Row
null_row = V.Null ∷ []

abbrev no_row : Row
no_row = V.Bool false ∷ []

turned : (written : List Row) → null_row ∷ no_row ∷ [] ≡ written ++ no_row ∷ null_row ∷ [] → ⊥
turned [] e = absurd (cc)
turned (x ∷ []) e = absurd (cc)
turned (x ∷ y ∷ []) e = absurd (cc)
turned (x ∷ y ∷ z ∷ w) e = absurd (cc)

lost : (written : List Row) → null_row ∷ no_row ∷ [] ≡ written ++ no_row ∷ [] → Sends (keeping []) written (keeping []) → ⊥
lost [] e h = absurd (cc)
lost (x ∷ w) e h = let k = h.keeps.back [] [] (tt, refl) in let d = k.1 in absurd (cc)

pub rows_are_packed : RowsArePackedInOrder
unfolding X.values_of
rows_are_packed = (
  record { arity = refl; unit = refl; written = []; is = refl; way = keeps_on [] },
  λ h. turned h.written h.is,
  λ h. lost h.written h.is h.way,
)

pub full_frames_go_on : FullFramesGoOn
unfolding X.values_of
full_frames_go_on = record { arity = refl; unit = refl; written = null_row ∷ no_row ∷ []; is = refl; way = keeper_keeps [] (frame (null ∷ no ∷ [])) }

-- for the one receiver
first : (k : ℕ) → k < 1 → (rest put : List Row) → put ≡ owed_rows (outlet_at (one_waits (P.Frame (frame (null ∷ [])) ∷ [])) k) ++ rest
    → (more : List Row) × (put ≡ waiting_rows (outlet_at (one_waits (P.Frame (frame (null ∷ [])) ∷ [])) k) ++ more)
first zero low rest put e = (rest, e)
first (suc k) low rest put e = absurd (omega (arith, low))

pub fronts_are_left : FrontsAreLeft
unfolding X.values_of
fronts_are_left = (
  record {
    arity = refl;
    unit = refl;
    still = record { route = refl; arity = refl; unit = refl; count = refl; mailbox = λ k low. refl };
    fronts = λ k low given put may. first k low may.1.rest put may.1.is;
    words = λ word far. far;
  },
  λ h.
      let f = h.fronts 0 (omega arith) [] (no_row ∷ (V.Bool true ∷ []) ∷ []) (tt, record { rest = no_row ∷ (V.Bool true ∷ []) ∷ []; output = refl; is = refl }) in
      let e = f.1 in
      absurd (cc),
)

mailboxes : (k : ℕ) → k < 1 → (outlet_at (one_waits (P.Open ∷ P.Fail ∷ [])) k).mailbox ≡ (outlet_at (one_waits (P.Open ∷ [])) k).mailbox
mailboxes zero low = refl
mailboxes (suc k) low = absurd (omega (arith, low))

posted : Posts P.Fail (writing (P.Open ∷ []) Opened) (writing (P.Open ∷ P.Fail ∷ []) Failed)
posted zero low = refl
posted (suc k) low = absurd (omega (arith, low))

leads : (word : ℕ → WriterState) → AreAsFar word (writing (P.Open ∷ []) Opened) → AreAsFar word (writing (P.Open ∷ P.Fail ∷ []) Failed)
leads word far zero low = let h = far 0 low in (h.0, (refl, refl))
leads word far (suc k) low = absurd (omega (arith, low))

pub fail_comes_behind : FailComesBehind
fail_comes_behind = (
  record {
    still = record { route = refl; arity = refl; unit = refl; count = refl; mailbox = mailboxes };
    posts = posted;
    words = leads;
  },
  λ h. let e = h.posts 0 (omega arith) in absurd (cc),
  λ h. let e = h.posts 0 (omega arith) in absurd (cc),
)
