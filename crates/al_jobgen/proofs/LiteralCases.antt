-- The worked cases of literals.
use Rattle.std.proofs.Common.{◌^◌, [], false, pos, arith, subst}
use Rattle.std.specs.Prelude.{FitsSigned}
use Rattle.std.specs.Int.{w64}
use Rattle.al_value.specs.declared.value.Value.TheVariants as V
use Rattle.al_value.specs.Value.{IsValue}
use Rattle.al_func.specs.declared.rex.Rex.TheVariants as R
use Rattle.al_jobgen.specs.Opens.{nested_shape, nested_hidden, row_hidden}
use Rattle.hy_job.specs.Literals.{literals, n_literals}
use Rattle.hy_job.specs.Columns.{AreValues}
use Rattle.al_jobgen.specs.LiteralCases.{grouped, ValuesInBoth, TooLargeInSecond, TooLargeInNested}
use Rattle.al_jobgen.proofs.ColumnLists.{all_halves}
use Rattle.al_jobgen.proofs.Literals.{literals-Lit, lit_values, both_values}

too_large : AreValues (literals (R.Lit (V.Int (pos (2 ^ 63))))) → ⊥
too_large h = let fits : FitsSigned w64 (pos (2 ^ 63)) = (subst AreValues (literals-Lit (V.Int (pos (2 ^ 63)))) h).0 in omega (arith, fits)

grouped_values : AreValues (n_literals (grouped 5))
unfolding nested_shape nested_hidden row_hidden
grouped_values = both_values _ _ (both_values (literals (R.Lit (V.Int (pos 5)))) [] (lit_values (V.Int (pos 5)) (omega arith)) tt) (both_values (literals (R.Lit (V.Bool false))) [] (lit_values (V.Bool false) tt) tt)

pub values_in_both : ValuesInBoth
values_in_both = (
  both_values (literals (R.Lit V.Null)) _ (lit_values V.Null tt) (both_values (literals (R.Lit (V.Int (pos 7)))) [] (lit_values (V.Int (pos 7)) (omega arith)) tt),
  (grouped_values, tt),
)

pub too_large_in_second : TooLargeInSecond
too_large_in_second h = too_large h.1.0

pub too_large_in_nested : TooLargeInNested
unfolding nested_shape nested_hidden row_hidden
too_large_in_nested h =
    let made = (all_halves IsValue _ _ h.0).0 in too_large (all_halves IsValue (literals (R.Lit (V.Int (pos (2 ^ 63))))) [] made).0
