-- A desk that tests put into and take from.
use Rattle.std.specs.Prelude.{◌≡◌, ◌<◌, [], ◌∷◌, length}
use Rattle.hy_frame.specs.declared.writer.WriterState.{WriterState}
use Rattle.hy_mail.specs.declared.parcel.Parcel.{Parcel}
use Rattle.hy_mail.specs.declared.parcel.PutAnswer.{PutAnswer}
use Rattle.hy_mail.specs.declared.parcel.PutAnswer.TheVariants.{Put, Full}
use Rattle.hy_mail.specs.Desks.{DeskState, box}
use Rattle.hy_mail.specs.Words.{next}

-- its mailbox 0 is that of the tasks 4 and 7, for the task 2, and of frames with one field a row
abbrev pub IsForTwo : DeskState → Type 0
IsForTwo d = (0 < length d.boxes) × ((box d 0).senders ≡ 4 ∷ 7 ∷ []) × ((box d 0).receiver ≡ 2) × ((box d 0).arity ≡ 1)

-- how far a word has come, by the answer of a put
abbrev pub Tells : WriterState → Parcel → WriterState → PutAnswer → Type 0
Tells old parcel new Put = new ≡ next old parcel
Tells old parcel new (Full back) = (back ≡ parcel) × (new ≡ old)
