-- The variables of an expression, each once.
use Rattle.std.specs.Prelude.{not, nat_eq, if◌then◌else◌, List, [], ◌∷◌, ◌++◌, map, filter}
use Rattle.std.specs.Cmp.Lexicographic.{pointwise}
use Rattle.al_plan.specs.declared.expr.Var.{Var}
use Rattle.al_plan.specs.declared.expr.Expr.{Expr}
use Rattle.al_plan.specs.Eval.{Bytes}
use Rattle.al_plan.specs.Names.{names}
use Rattle.al_plan.specs.Allows.{is_among}

-- each name where it first stands
unfoldable pub firsts : List Bytes → List Bytes
firsts [] = []
firsts (q ∷ qs) = q ∷ filter (λ other. not (pointwise nat_eq q other)) (firsts qs)

abbrev pub named : Bytes → Var
named q = record { name = q }

abbrev pub uses : Expr → List Var
uses e = map named (firsts (names e))

-- a name behind the variables that were gathered so far, unless it is one of them
unfoldable pub with_name : List Var → Bytes → List Var
with_name vars q = if is_among vars q then vars else vars ++ named q ∷ []

unfoldable pub with_names : List Var → List Bytes → List Var
with_names vars [] = vars
with_names vars (q ∷ qs) = with_names (with_name vars q) qs
