-- What an expression over columns gives over a row.
use Rattle.std.specs.Prelude.{ℕ, Bool, true, ◌&&◌, IsTrue, List, map, length, nat_eq, nat_lt, slice_index_or}
use Rattle.std.specs.List.{list_all}
use Rattle.al_value.specs.declared.value.Value.{Value}
use Rattle.al_value.specs.declared.value.Value.TheVariants as V
use Rattle.al_func.specs.declared.rex.Rex.{Rex, fold-Rex}
use Rattle.al_func.specs.declared.rex.Rex.TheOpen.{Rex-F}
use Rattle.al_func.specs.declared.rex.Rex.TheOpen as L
use Rattle.al_func.specs.Func.{apply, arity}

-- one layer of an expression, with what each argument gives in the argument's place
abbrev pub eval_step : Rex-F (List Value → Value) → List Value → Value
eval_step (L.Col j) row = slice_index_or row j V.Null
eval_step (L.Lit v) row = v
eval_step (L.Call f args) row = apply f (map (λ a. a row) args)

-- the value of an expression, where a column out of range is NULL
unfoldable pub eval_rex : Rex → List Value → Value
eval_rex = fold-Rex (List Value → Value) eval_step

abbrev pub sound_step : ℕ → Rex-F Bool → Bool
sound_step width (L.Col j) = nat_lt j width
sound_step width (L.Lit v) = true
sound_step width (L.Call f args) = nat_eq (length args) (arity f) && list_all (λ b. b) args

-- whether all columns are below the width and all calls have as many arguments as their function takes
unfoldable pub is_sound : ℕ → Rex → Bool
is_sound width = fold-Rex Bool (sound_step width)

abbrev pub IsSound : ℕ → Rex → Type 0
IsSound width e = IsTrue (is_sound width e)
