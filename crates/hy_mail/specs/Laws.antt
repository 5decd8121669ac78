-- What is true of every sender's word.
use Rattle.std.specs.Prelude.{◌≡◌, ◌↔◌, true, List, [], ◌∷◌, ◌++◌}
use Rattle.hy_frame.specs.declared.writer.WriterState.{WriterState}
use Rattle.hy_frame.specs.declared.writer.WriterState.TheVariants.{Initial, Closed}
use Rattle.hy_mail.specs.declared.parcel.Parcel.{Parcel}
use Rattle.hy_mail.specs.Words.{IsWordSoFar, IsWriterWord, Leads, may}

-- how far a word has come is told by its parcels
abbrev pub WordsTellState : Type 0
WordsTellState = (w u v : WriterState) (word : List Parcel) → Leads w word u → Leads w word v → u ≡ v

-- parcels, each of which might come next, are what a sender has put that has perhaps not ended
abbrev pub WordsAreSoFar : Type 0
WordsAreSoFar = (word : List Parcel) → ((v : WriterState) × Leads Initial word v) ↔ IsWordSoFar word

-- a word that has ended is a writer's word
abbrev pub EndedIsWriterWord : Type 0
EndedIsWriterWord = (word : List Parcel) → Leads Initial word Closed ↔ IsWriterWord word

-- what may come next is what leads to a beginning of a writer's word again
abbrev pub MayIsNext : Type 0
MayIsNext = (word : List Parcel) (v : WriterState) (p : Parcel) → Leads Initial word v → (may v p ≡ true) ↔ IsWordSoFar (word ++ p ∷ [])
