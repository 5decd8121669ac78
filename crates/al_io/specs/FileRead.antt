-- What reading a file up to a limit tells of the file.
use Rattle.std.specs.Prelude.{◌≡◌, ℕ, ◌<◌, ◌≤◌, length, Option, Some, None}
use Rattle.al_io.specs.Outside.{Bytes}
use Rattle.al_io.specs.declared.source.FileRead.{FileRead}
use Rattle.al_io.specs.declared.source.FileRead.TheVariants as found

abbrev pub TellsFile : Option Bytes → ℕ → FileRead → Type 0
TellsFile file limit found.Absent = file ≡ None
TellsFile file limit found.TooLarge = (bytes : Bytes) × (file ≡ Some bytes) × (limit < length bytes)
TellsFile file limit (found.Bytes bytes) = (file ≡ Some bytes) × (length bytes ≤ limit)

-- the bytes of a file are no more than the limit
abbrev pub IsLimited : ℕ → FileRead → Type 0
IsLimited limit (found.Bytes bytes) = length bytes ≤ limit
IsLimited limit _ = Unit {0}
