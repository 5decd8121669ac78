-- What is asked of the expressions of an operator.
use Rattle.std.specs.Prelude.{Bool, ◌++◌}
use Rattle.al_plan.specs.declared.expr.Expr.{Expr}
use Rattle.al_plan.specs.Names.{has_arities}
use Rattle.al_plan.specs.Accept.{reads_among}
use Rattle.al_infer.specs.declared.exprs.Asked.{Asked}
use Rattle.al_infer.specs.declared.exprs.Asked.TheVariants as A

abbrev pub asks : Asked → Expr → Bool
asks A.Arities = has_arities
asks (A.Reads left right) = reads_among (left.now ++ right.now)
