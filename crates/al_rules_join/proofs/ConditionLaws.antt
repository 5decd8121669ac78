-- What the tests of conditions give, gathered for the search, and arguments that have a variable.
use Rattle.std.proofs.Common.{◌≡◌, ℕ, zero, suc, ◌<◌, Bool, true, false, List, [], ◌∷◌, length, get_or, refl, ap, ◌∙◌, arith}
use Rattle.std.specs.Prelude.{◌||◌}
use Rattle.std.specs.List.{list_any, flat_map}
use Rattle.std.proofs.lemmas.List.Folds.{list_any-append}
use Rattle.al_plan.specs.declared.expr.Expr.{Expr}
use Rattle.al_plan.specs.Names.{names}
use Rattle.al_plan.proofs.UsesLaws.{names-Var, names-Lit, names-Call}
use Rattle.al_rules_join.specs.ConditionLaws.{variable-Var, variable-Lit, variable-Call, compares-Var, compares-Lit, compares-Call}

pub ruleset variable_laws = (names-Var, names-Lit, names-Call)

pub ruleset compare_laws = (variable-Var, variable-Lit, variable-Call, compares-Var, compares-Lit, compares-Call)

or_true : (b : Bool) → (b || true) ≡ true
or_true true = refl
or_true false = refl

-- one argument with a name is one for all
pub some_arg : (args : List Expr) (i : ℕ) (d : Expr) → i < length args → list_any (λ q. true) (names (get_or args i d)) ≡ true → list_any (λ q. true) (flat_map names args) ≡ true
some_arg [] i d low h = absurd (omega arith)
some_arg (e ∷ es) zero d low h = list_any-append (λ q. true) (names e) (flat_map names es) ∙ ap (λ b. b || list_any (λ q. true) (flat_map names es)) h
some_arg (e ∷ es) (suc i) d low h = list_any-append (λ q. true) (names e) (flat_map names es) ∙ ap (λ b. list_any (λ q. true) (names e) || b) (some_arg es i d (omega arith) h) ∙ or_true (list_any (λ q. true) (names e))
