-- What goes through a mailbox: signals, of which some carry rows, and the words that senders make of them.
use Rattle.std.specs.Prelude.{Bool, true, false, List, [], ◌∷◌, ◌++◌}
use Rattle.std.specs.List.{flat_map}

pub data Signal (A : Type 0) : Type 0 where
  Open : Signal A
  Rows : List A → Signal A
  Fail : Signal A
  Close : Signal A

abbrev pub signal_rows : {A : Type 0} → Signal A → List A
signal_rows Open = []
signal_rows (Rows rows) = rows
signal_rows Fail = []
signal_rows Close = []

abbrev pub put_rows : {A : Type 0} → List (Signal A) → List A
put_rows = flat_map signal_rows

abbrev pub is_fail : {A : Type 0} → Signal A → Bool
is_fail Open = false
is_fail (Rows rows) = false
is_fail Fail = true
is_fail Close = false

abbrev pub is_close : {A : Type 0} → Signal A → Bool
is_close Open = false
is_close (Rows rows) = false
is_close Fail = false
is_close Close = true

-- any number of rows, and then Close, or Fail and Close
abbrev pub IsWordOnceOpen : {A : Type 0} → List (Signal A) → Type 0
IsWordOnceOpen (Rows rows ∷ more) = IsWordOnceOpen more
IsWordOnceOpen (Close ∷ []) = Unit {0}
IsWordOnceOpen (Fail ∷ Close ∷ []) = Unit {0}
IsWordOnceOpen _ = ⊥

-- what a sender puts into a mailbox from its beginning to its end
unfoldable pub WriterWord : {A : Type 0} → List (Signal A) → Type 0
WriterWord (Open ∷ more) = IsWordOnceOpen more
WriterWord _ = ⊥

-- what a sender has put that has perhaps not ended
abbrev pub IsWordSoFar : {A : Type 0} → List (Signal A) → Type 0
IsWordSoFar {A} word = (rest : List (Signal A)) × WriterWord (word ++ rest)
