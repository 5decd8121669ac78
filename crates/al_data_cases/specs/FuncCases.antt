-- What functions and generators give for a few values.
use Rattle.std.specs.Prelude.{◌≡◌, ◌^◌, ◌-◌, ℕ, pos, negsuc, true, false, codes, [], ◌∷◌}
use Rattle.al_value.specs.declared.value.Value.{Value}
use Rattle.al_value.specs.declared.value.Value.TheVariants as V
use Rattle.al_func.specs.declared.func.Func.TheVariants as F
use Rattle.al_func.specs.Func.{apply}
use Rattle.al_func.specs.Items.{range, split}

abbrev pub int : ℕ → Value
int n = V.Int (pos n)

-- the ints below zero: minus one, minus two and so on
abbrev pub below_zero : ℕ → Value
below_zero n = V.Int (negsuc n)

abbrev pub yes : Value
yes = V.Bool true

abbrev pub no_ : Value
no_ = V.Bool false

-- ---- ints

pub record IntFunctions : Type 0 where
  pub added : apply F.Add (int 1 ∷ int 2 ∷ []) ≡ int 3
  -- past 64 bits there is no int
  pub added_past : apply F.Add (int (2 ^ 63 - 1) ∷ int 1 ∷ []) ≡ V.Null
  pub taken_away : apply F.Sub (int 1 ∷ int 2 ∷ []) ≡ below_zero 0
  pub multiplied : apply F.Mul (int 3 ∷ int 2 ∷ []) ≡ int 6
  pub negated : apply F.Neg (int 1 ∷ []) ≡ below_zero 0
  -- minus 7 by 2 is minus 3, and minus 1 is left
  pub divided : apply F.Div (below_zero 6 ∷ int 2 ∷ []) ≡ below_zero 2
  pub left : apply F.Mod (below_zero 6 ∷ int 2 ∷ []) ≡ below_zero 0
  pub by_zero : apply F.Div (int 1 ∷ int 0 ∷ []) ≡ V.Null
  pub left_by_zero : apply F.Mod (int 1 ∷ int 0 ∷ []) ≡ V.Null
  -- the least int by minus one is past 64 bits
  pub least : apply F.Div (below_zero (2 ^ 63 - 1) ∷ below_zero 0 ∷ []) ≡ V.Null
  pub of_text : apply F.Add (int 1 ∷ V.Text [] ∷ []) ≡ V.Null
  -- too few arguments
  pub one_argument : apply F.Add (int 1 ∷ []) ≡ V.Null

-- ---- truth

pub record LogicOfThree : Type 0 where
  pub and_false : apply F.And (V.Null ∷ no_ ∷ []) ≡ no_
  pub and_null : apply F.And (yes ∷ V.Null ∷ []) ≡ V.Null
  pub and_true : apply F.And (yes ∷ yes ∷ []) ≡ yes
  pub or_true : apply F.Or (V.Null ∷ yes ∷ []) ≡ yes
  pub or_null : apply F.Or (no_ ∷ V.Null ∷ []) ≡ V.Null
  pub or_false : apply F.Or (no_ ∷ no_ ∷ []) ≡ no_
  pub not_true : apply F.Not (yes ∷ []) ≡ no_
  pub not_null : apply F.Not (V.Null ∷ []) ≡ V.Null
  -- NULL equals nothing, and is less than nothing
  pub nulls : apply F.Eq (V.Null ∷ V.Null ∷ []) ≡ V.Null
  pub less_null : apply F.Lt (V.Null ∷ int 1 ∷ []) ≡ V.Null
  pub less : apply F.Lt (below_zero 0 ∷ int 1 ∷ []) ≡ yes
  pub not_less : apply F.Lt (int 1 ∷ int 1 ∷ []) ≡ no_
  pub at_most : apply F.Le (int 1 ∷ int 1 ∷ []) ≡ yes
  pub equal : apply F.Eq (int 1 ∷ int 1 ∷ []) ≡ yes

-- ---- texts

pub record TextFunctions : Type 0 where
  pub joined : apply F.Concat (V.Text (codes "a") ∷ V.Text (codes "b") ∷ []) ≡ V.Text (codes "ab")
  pub from_below : apply F.Substr (V.Text (codes "ab") ∷ below_zero 0 ∷ int 1 ∷ []) ≡ V.Null
  pub small : apply F.LowerAscii (V.Text (codes "AbC") ∷ []) ≡ V.Text (codes "abc")
  pub of_int : apply F.Length (int 1 ∷ []) ≡ V.Null

-- ---- choices

pub record Choices : Type 0 where
  pub if_true : apply F.If (yes ∷ int 1 ∷ int 2 ∷ []) ≡ int 1
  pub if_null : apply F.If (V.Null ∷ int 1 ∷ int 2 ∷ []) ≡ int 2
  pub first : apply F.Coalesce (int 1 ∷ int 2 ∷ []) ≡ int 1
  pub second : apply F.Coalesce (V.Null ∷ int 2 ∷ []) ≡ int 2
  pub is_null : apply F.IsNull (V.Null ∷ []) ≡ yes
  pub no_null : apply F.IsNull (no_ ∷ []) ≡ no_

-- ---- generators

pub record Items : Type 0 where
  pub up : range (below_zero 0) (int 1) ≡ below_zero 0 ∷ int 0 ∷ int 1 ∷ []
  pub one : range (int 1) (int 1) ≡ int 1 ∷ []
  pub down : range (int 1) (int 0) ≡ []
  -- of more than 10,000 ints there is none
  pub many : range (int 1) (int 10001) ≡ []
  pub of_null : range V.Null (int 1) ≡ []
  -- occurrences are found from the left
  pub pieces : split (V.Text (codes "abab")) (V.Text (codes "b")) ≡ V.Text (codes "a") ∷ V.Text (codes "a") ∷ V.Text [] ∷ []
  pub from_the_left : split (V.Text (codes "aaa")) (V.Text (codes "aa")) ≡ V.Text [] ∷ V.Text (codes "a") ∷ []
  pub by_nothing : split (V.Text (codes "ab")) (V.Text []) ≡ V.Text (codes "ab") ∷ []
  pub of_no_text : split (V.Text []) (V.Text (codes "a")) ≡ V.Text [] ∷ []
