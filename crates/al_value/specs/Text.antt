-- The bytes of a text.
use Rattle.std.specs.Prelude.{ℕ, ◌≤◌, List, length, IsUtf8}

-- UTF-8 of at most 32,000 bytes
abbrev pub IsText : List ℕ → Type 0
IsText bytes = IsUtf8 bytes × (length bytes ≤ 32000)
