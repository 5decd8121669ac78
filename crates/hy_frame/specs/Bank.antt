-- The frames that a bank has given out, by counts that stop at their type's end.
use Rattle.std.specs.Prelude.{◌≡◌, ◌+◌, ◌-◌, ◌^◌, ◌<◌, ℕ, min}

pub record BankOf : Type 0 where
  pub unit : ℕ
  pub limit : ℕ
  pub out : ℕ
  pub taken : ℕ
  pub given : ℕ
  pub exported : ℕ
  pub imported : ℕ

-- one more, or the end of 64 bits
abbrev pub one_more : ℕ → ℕ
one_more n = min (n + 1) (2 ^ 64 - 1)

-- where no count stands at its end, taken and imported add up to given, exported and what is out
abbrev pub AddUp : ℕ → ℕ → ℕ → ℕ → ℕ → Type 0
AddUp taken given exported imported out =
    taken < 2 ^ 64 - 1 → given < 2 ^ 64 - 1 → exported < 2 ^ 64 - 1 → imported < 2 ^ 64 - 1
    → taken + imported ≡ given + exported + out
