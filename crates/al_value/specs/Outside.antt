-- What objects outside the program tell, and how their faults are counted.
use Rattle.std.specs.Prelude.{◌≡◌, ℕ, ◌+◌, ◌-◌, ◌^◌, ◌≤◌, min, Bool, true, false, Option, Result, Ok, Err, IfSome}

-- a count rose, or stands at its end
abbrev pub Rose : ℕ → ℕ → Type 0
Rose before now = min (before + 1) (2 ^ 64 - 1) ≤ now

-- a call that failed raised the count, and another left it
abbrev pub Counted : Bool → ℕ → ℕ → Type 0
Counted true before now = Rose before now
Counted false before now = now ≡ before

abbrev pub failed : {T E : Type 0} → Result T E → Bool
failed (Ok x) = false
failed (Err e) = true

-- what is told has this property; nothing is said where nothing is told
abbrev pub Told : {X : Type 0} → Option X → (X → Type 0) → Type 0
Told told P = IfSome told P
