-- Parcels as signals, with their rows of values in the place of frames.
use Rattle.std.specs.Prelude.{◌≡◌, ◌↔◌, ℕ, List, [], ◌∷◌, length, All}
use Rattle.al_value.specs.declared.value.Value.{Value}
use Rattle.hy_frame.specs.FrameText.{AllRows}
use Rattle.hy_rest.specs.Words.{Signal, WriterWord, signal_rows}
use Rattle.hy_rest.specs.Words as S
use Rattle.hy_mail.specs.declared.parcel.Parcel.{Parcel}
use Rattle.hy_mail.specs.declared.parcel.Parcel.TheVariants as P
use Rattle.hy_mail.specs.Rows.{AreRowsOf, rows_in}
use Rattle.hy_mail.specs.Words.{IsWordSoFar, IsWriterWord}

-- the parcel is this signal
abbrev pub IsSignal : Parcel → Signal (List Value) → Type 0
IsSignal P.Open S.Open = Unit {0}
IsSignal (P.Frame f) (S.Rows rows) = AreRowsOf f.rows rows
IsSignal P.Fail S.Fail = Unit {0}
IsSignal P.Close S.Close = Unit {0}
IsSignal _ _ = ⊥

-- one after the other the parcels are these signals
abbrev pub AreSignals : List Parcel → List (Signal (List Value)) → Type 0
AreSignals [] [] = Unit {0}
AreSignals (p ∷ ps) (s ∷ ss) = IsSignal p s × AreSignals ps ss
AreSignals _ _ = ⊥

-- ---- laws

-- a parcel whose rows are rows of fields is a signal with rows of as many values
abbrev pub ParcelsAreSignals : Type 0
ParcelsAreSignals = (arity : ℕ) (p : Parcel) → AllRows arity (rows_in p) → (s : Signal (List Value)) × IsSignal p s × All (λ row. length row ≡ arity) (signal_rows s)

-- and no other one
abbrev pub ParcelsAreOneSignal : Type 0
ParcelsAreOneSignal = (p : Parcel) (s t : Signal (List Value)) → IsSignal p s → IsSignal p t → s ≡ t

-- a writer's word of parcels is one of signals
abbrev pub WordsOfSignals : Type 0
WordsOfSignals = (ps : List Parcel) (ss : List (Signal (List Value))) → AreSignals ps ss → IsWriterWord ps ↔ WriterWord ss

-- and so is what has perhaps not ended
abbrev pub SoFarOfSignals : Type 0
SoFarOfSignals = (ps : List Parcel) (ss : List (Signal (List Value))) → AreSignals ps ss → IsWordSoFar ps → S.IsWordSoFar ss
