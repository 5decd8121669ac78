-- What files and streams tell of their content.
use Rattle.std.specs.Prelude.{◌≡◌, ℕ, ◌≤◌, Bool, true, false, List, [], ◌∷◌, ◌++◌, take, drop, length, Option, Some, None, Result, Ok, Err}
use Rattle.std.specs.Borrow.{Bor}
use Rattle.al_value.specs.Outside.{Told}
use Rattle.al_io.specs.declared.source.ReadFault.{ReadFault}
use Rattle.al_io.specs.declared.source.ReadFault.TheVariants as fault

abbrev pub Bytes : Type 0
Bytes = List ℕ

-- the content of each file, by its name
abbrev pub Files : Type 0
Files = Bytes → Option Bytes

abbrev pub is_failed : {T : Type 0} → Result T ReadFault → Bool
is_failed (Ok x) = false
is_failed (Err fault.Failed) = true
is_failed (Err fault.NoMemory) = false

-- `open`: false exactly where there is no such file, and else its content is what is left
abbrev pub Opens : Option Files → Bytes → Result Bool ReadFault → Option Bytes → Type 0
Opens files name (Ok true) rest = Told files (λ fs. (bytes : Bytes) × (fs name ≡ Some bytes) × (rest ≡ Some bytes))
Opens files name (Ok false) rest = Told files (λ fs. fs name ≡ None)
Opens files name (Err e) rest = Unit {0}

-- `read`: the first n bytes of the rest are moved into the buffer, and none are moved only at the end
abbrev pub Moves : Option Bytes → Option Bytes → Bytes → ℕ → Type 0
Moves old new buf n = Told old (λ rest. (n ≤ length rest) × (take n buf ≡ take n rest) × (new ≡ Some (drop n rest)) × (n ≡ 0 → rest ≡ []))

-- what was read of a rest: all of it, or a part from its front where reading stopped past the limit
abbrev pub IsWholeOf : Bool → Bytes → Bytes → Type 0
IsWholeOf true read rest = read ≡ take (length read) rest
IsWholeOf false read rest = read ≡ rest

-- some of the bytes, from the front, stand behind what was written before
abbrev pub GainsPrefix : Bytes → Bytes → Option Bytes → Type 0
GainsPrefix old bytes written = (n : ℕ) × (n ≤ length bytes) × (written ≡ Some (old ++ take n bytes))

-- the pieces, one behind the other
abbrev pub joined : List (Bor Bytes) → Bytes
joined [] = []
joined (piece ∷ pieces) = piece.now ++ joined pieces
