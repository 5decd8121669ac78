-- Words of parcels are words of signals.
use Rattle.std.proofs.Common.{◌≡◌, List, [], ◌∷◌, ◌++◌, length, refl, ap}
use Rattle.std.proofs.lemmas.List.Elements.{All-nil}
use Rattle.al_value.specs.declared.value.Value.{Value}
use Rattle.hy_frame.specs.declared.writer.WriterState.{WriterState}
use Rattle.hy_frame.specs.declared.writer.WriterState.TheVariants.{Initial, Opened, Failed, Closed}
use Rattle.hy_rest.specs.Words.{Signal, WriterWord}
use Rattle.hy_rest.specs.Words as S
use Rattle.hy_mail.specs.declared.parcel.Parcel.{Parcel}
use Rattle.hy_mail.specs.declared.parcel.Parcel.TheVariants as P
use Rattle.hy_mail.specs.Signals.{AreSignals, ParcelsAreOneSignal, ParcelsAreSignals, SoFarOfSignals, WordsOfSignals}
use Rattle.hy_mail.specs.Words.{IsWordOnceOpen, Leads}
use Rattle.hy_mail.proofs.RowLaws.{parcels_are_seen, seen_once}
use Rattle.hy_mail.proofs.WordLaws.{leads, leads_on, whole}

pub are_signals : ParcelsAreSignals
are_signals arity P.Open h = (S.Open, tt, All-nil (λ row. length row ≡ arity))
are_signals arity (P.Frame f) h = let r = parcels_are_seen arity (P.Frame f) h in (S.Rows r.0, r.1, r.2)
are_signals arity P.Fail h = (S.Fail, tt, All-nil (λ row. length row ≡ arity))
are_signals arity P.Close h = (S.Close, tt, All-nil (λ row. length row ≡ arity))

pub one_signal : ParcelsAreOneSignal
one_signal P.Open S.Open S.Open a b = refl
one_signal P.Open S.Open (S.Rows r) a b = absurd b
one_signal P.Open S.Open S.Fail a b = absurd b
one_signal P.Open S.Open S.Close a b = absurd b
one_signal P.Open (S.Rows r) t a b = absurd a
one_signal P.Open S.Fail t a b = absurd a
one_signal P.Open S.Close t a b = absurd a
one_signal (P.Frame f) (S.Rows r) (S.Rows q) a b = ap S.Rows (seen_once (P.Frame f) r q a b)
one_signal (P.Frame f) (S.Rows r) S.Open a b = absurd b
one_signal (P.Frame f) (S.Rows r) S.Fail a b = absurd b
one_signal (P.Frame f) (S.Rows r) S.Close a b = absurd b
one_signal (P.Frame f) S.Open t a b = absurd a
one_signal (P.Frame f) S.Fail t a b = absurd a
one_signal (P.Frame f) S.Close t a b = absurd a
one_signal P.Fail S.Fail S.Fail a b = refl
one_signal P.Fail S.Fail (S.Rows r) a b = absurd b
one_signal P.Fail S.Fail S.Open a b = absurd b
one_signal P.Fail S.Fail S.Close a b = absurd b
one_signal P.Fail (S.Rows r) t a b = absurd a
one_signal P.Fail S.Open t a b = absurd a
one_signal P.Fail S.Close t a b = absurd a
one_signal P.Close S.Close S.Close a b = refl
one_signal P.Close S.Close (S.Rows r) a b = absurd b
one_signal P.Close S.Close S.Open a b = absurd b
one_signal P.Close S.Close S.Fail a b = absurd b
one_signal P.Close (S.Rows r) t a b = absurd a
one_signal P.Close S.Open t a b = absurd a
one_signal P.Close S.Fail t a b = absurd a

-- ---- words

-- each parcel is of its signal's kind, so the words go on alike
once_open : (ps : List Parcel) (ss : List (Signal (List Value))) → AreSignals ps ss → (IsWordOnceOpen ps → S.IsWordOnceOpen ss) × (S.IsWordOnceOpen ss → IsWordOnceOpen ps)
once_open [] [] h = ((λ a. a), λ a. a)
once_open [] (s ∷ ss) h = absurd h
once_open (p ∷ ps) [] h = absurd h
once_open (P.Open ∷ ps) (S.Open ∷ ss) h = ((λ a. a), λ a. a)
once_open (P.Open ∷ ps) (S.Rows r ∷ ss) h = absurd h.0
once_open (P.Open ∷ ps) (S.Fail ∷ ss) h = absurd h.0
once_open (P.Open ∷ ps) (S.Close ∷ ss) h = absurd h.0
once_open (P.Frame f ∷ ps) (S.Rows r ∷ ss) h = once_open ps ss h.1
once_open (P.Frame f ∷ ps) (S.Open ∷ ss) h = absurd h.0
once_open (P.Frame f ∷ ps) (S.Fail ∷ ss) h = absurd h.0
once_open (P.Frame f ∷ ps) (S.Close ∷ ss) h = absurd h.0
once_open (P.Fail ∷ ps) (S.Fail ∷ ss) h = failed ps ss h.1
  where
    failed : (ps : List Parcel) (ss : List (Signal (List Value))) → AreSignals ps ss → (IsWordOnceOpen (P.Fail ∷ ps) → S.IsWordOnceOpen (S.Fail ∷ ss)) × (S.IsWordOnceOpen (S.Fail ∷ ss) → IsWordOnceOpen (P.Fail ∷ ps))
    failed [] [] h = ((λ a. a), λ a. a)
    failed [] (s ∷ ss) h = absurd h
    failed (p ∷ ps) [] h = absurd h
    failed (P.Open ∷ ps) (S.Open ∷ ss) h = ((λ a. a), λ a. a)
    failed (P.Open ∷ ps) (S.Rows r ∷ ss) h = absurd h.0
    failed (P.Open ∷ ps) (S.Fail ∷ ss) h = absurd h.0
    failed (P.Open ∷ ps) (S.Close ∷ ss) h = absurd h.0
    failed (P.Frame f ∷ ps) (S.Rows r ∷ ss) h = ((λ a. a), λ a. a)
    failed (P.Frame f ∷ ps) (S.Open ∷ ss) h = absurd h.0
    failed (P.Frame f ∷ ps) (S.Fail ∷ ss) h = absurd h.0
    failed (P.Frame f ∷ ps) (S.Close ∷ ss) h = absurd h.0
    failed (P.Fail ∷ ps) (S.Fail ∷ ss) h = ((λ a. a), λ a. a)
    failed (P.Fail ∷ ps) (S.Open ∷ ss) h = absurd h.0
    failed (P.Fail ∷ ps) (S.Rows r ∷ ss) h = absurd h.0
    failed (P.Fail ∷ ps) (S.Close ∷ ss) h = absurd h.0
    failed (P.Close ∷ []) (S.Close ∷ []) h = ((λ a. a), λ a. a)
    failed (P.Close ∷ []) (S.Close ∷ s ∷ ss) h = absurd h.1
    failed (P.Close ∷ p ∷ ps) (S.Close ∷ []) h = absurd h.1
    failed (P.Close ∷ p ∷ ps) (S.Close ∷ s ∷ ss) h = ((λ a. a), λ a. a)
    failed (P.Close ∷ ps) (S.Open ∷ ss) h = absurd h.0
    failed (P.Close ∷ ps) (S.Rows r ∷ ss) h = absurd h.0
    failed (P.Close ∷ ps) (S.Fail ∷ ss) h = absurd h.0
once_open (P.Fail ∷ ps) (S.Open ∷ ss) h = absurd h.0
once_open (P.Fail ∷ ps) (S.Rows r ∷ ss) h = absurd h.0
once_open (P.Fail ∷ ps) (S.Close ∷ ss) h = absurd h.0
once_open (P.Close ∷ []) (S.Close ∷ []) h = ((λ a. a), λ a. a)
once_open (P.Close ∷ []) (S.Close ∷ s ∷ ss) h = absurd h.1
once_open (P.Close ∷ p ∷ ps) (S.Close ∷ []) h = absurd h.1
once_open (P.Close ∷ p ∷ ps) (S.Close ∷ s ∷ ss) h = ((λ a. a), λ a. a)
once_open (P.Close ∷ ps) (S.Open ∷ ss) h = absurd h.0
once_open (P.Close ∷ ps) (S.Rows r ∷ ss) h = absurd h.0
once_open (P.Close ∷ ps) (S.Fail ∷ ss) h = absurd h.0

pub words_of_signals : WordsOfSignals
unfolding WriterWord
words_of_signals [] [] h = ((λ a. a), λ a. a)
words_of_signals [] (s ∷ ss) h = absurd h
words_of_signals (p ∷ ps) [] h = absurd h
words_of_signals (P.Open ∷ ps) (S.Open ∷ ss) h = let w = once_open ps ss h.1 in (w.0, w.1)
words_of_signals (P.Open ∷ ps) (S.Rows r ∷ ss) h = absurd h.0
words_of_signals (P.Open ∷ ps) (S.Fail ∷ ss) h = absurd h.0
words_of_signals (P.Open ∷ ps) (S.Close ∷ ss) h = absurd h.0
words_of_signals (P.Frame f ∷ ps) (S.Rows r ∷ ss) h = ((λ a. a), λ a. a)
words_of_signals (P.Frame f ∷ ps) (S.Open ∷ ss) h = absurd h.0
words_of_signals (P.Frame f ∷ ps) (S.Fail ∷ ss) h = absurd h.0
words_of_signals (P.Frame f ∷ ps) (S.Close ∷ ss) h = absurd h.0
words_of_signals (P.Fail ∷ ps) (S.Fail ∷ ss) h = ((λ a. a), λ a. a)
words_of_signals (P.Fail ∷ ps) (S.Open ∷ ss) h = absurd h.0
words_of_signals (P.Fail ∷ ps) (S.Rows r ∷ ss) h = absurd h.0
words_of_signals (P.Fail ∷ ps) (S.Close ∷ ss) h = absurd h.0
words_of_signals (P.Close ∷ ps) (S.Close ∷ ss) h = ((λ a. a), λ a. a)
words_of_signals (P.Close ∷ ps) (S.Open ∷ ss) h = absurd h.0
words_of_signals (P.Close ∷ ps) (S.Rows r ∷ ss) h = absurd h.0
words_of_signals (P.Close ∷ ps) (S.Fail ∷ ss) h = absurd h.0

-- ---- words so far

-- one list of signals behind another
signals_on : (ps qs : List Parcel) (ss ts : List (Signal (List Value))) → AreSignals ps ss → AreSignals qs ts → AreSignals (ps ++ qs) (ss ++ ts)
signals_on [] qs [] ts h k = k
signals_on [] qs (s ∷ ss) ts h k = absurd h
signals_on (p ∷ ps) qs [] ts h k = absurd h
signals_on (p ∷ ps) qs (s ∷ ss) ts h k = (h.0, signals_on ps qs ss ts h.1 k)

-- what a sender that has come so far may put to its end, without a frame
record Ends (v : WriterState) : Type 0 where
  parcels : List Parcel
  signals : List (Signal (List Value))
  lead : Leads v parcels Closed
  are : AreSignals parcels signals

ends : (v : WriterState) → Ends v
ends Initial = record { parcels = P.Open ∷ P.Close ∷ []; signals = S.Open ∷ S.Close ∷ []; lead = (refl, (refl, refl)); are = (tt, (tt, tt)) }
ends Opened = record { parcels = P.Close ∷ []; signals = S.Close ∷ []; lead = (refl, refl); are = (tt, tt) }
ends Failed = record { parcels = P.Close ∷ []; signals = S.Close ∷ []; lead = (refl, refl); are = (tt, tt) }
ends Closed = record { parcels = []; signals = []; lead = refl; are = tt }

pub so_far_of_signals : SoFarOfSignals
so_far_of_signals ps ss h far =
    let l = leads ps far in
    let e = ends l.0 in
    let word = whole (ps ++ e.parcels) (leads_on Initial l.0 Closed ps e.parcels l.1 e.lead) in
    (e.signals, (words_of_signals (ps ++ e.parcels) (ss ++ e.signals) (signals_on ps e.parcels ss e.signals h e.are)).0 word)
