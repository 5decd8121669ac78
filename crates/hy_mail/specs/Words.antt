-- What a sender puts into a mailbox, in order.
use Rattle.std.specs.Prelude.{◌≡◌, ℕ, Bool, true, false, List, [], ◌∷◌, ◌++◌}
use Rattle.hy_frame.specs.declared.writer.WriterState.{WriterState}
use Rattle.hy_frame.specs.declared.writer.WriterState.TheVariants.{Initial, Opened, Failed, Closed}
use Rattle.hy_mail.specs.declared.parcel.Parcel.{Parcel}
use Rattle.hy_mail.specs.declared.parcel.Parcel.TheVariants.{Open, Frame, Fail, Close}

-- any number of frames, and then Close, or Fail and Close
abbrev pub IsWordOnceOpen : List Parcel → Type 0
IsWordOnceOpen (Frame f ∷ more) = IsWordOnceOpen more
IsWordOnceOpen (Close ∷ []) = Unit {0}
IsWordOnceOpen (Fail ∷ Close ∷ []) = Unit {0}
IsWordOnceOpen _ = ⊥

-- what a sender puts from its beginning to its end
abbrev pub IsWriterWord : List Parcel → Type 0
IsWriterWord (Open ∷ more) = IsWordOnceOpen more
IsWriterWord _ = ⊥

-- what a sender has put that has perhaps not ended
abbrev pub IsWordSoFar : List Parcel → Type 0
IsWordSoFar word = (rest : List Parcel) × IsWriterWord (word ++ rest)

-- how far a word has come with this parcel behind it
abbrev pub next : WriterState → Parcel → WriterState
next w Open = Opened
next w (Frame f) = w
next w Fail = Failed
next w Close = Closed

-- whether the parcel may come next
abbrev pub may : WriterState → Parcel → Bool
may Initial Open = true
may Opened (Frame f) = true
may Opened Fail = true
may Opened Close = true
may Failed Close = true
may _ _ = false

-- one after the other these parcels lead a word from how far it has come to how far it then has come
abbrev pub Leads : WriterState → List Parcel → WriterState → Type 0
Leads w [] v = v ≡ w
Leads w (p ∷ ps) v = (may w p ≡ true) × Leads (next w p) ps v

-- its frame, where it has one, has rows of so many fields
abbrev pub HasArity : ℕ → Parcel → Type 0
HasArity n (Frame f) = f.arity ≡ n
HasArity n _ = Unit {0}
