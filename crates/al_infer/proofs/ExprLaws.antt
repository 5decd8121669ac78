-- What an expression reads, and whether it has its arities, at each layer.
use Rattle.std.proofs.Common.{◌≡◌, Bool, true, false, ◌&&◌, ◌||◌, nat_eq, List, [], ◌∷◌, ◌++◌, map, length, refl, ap, sym, ◌∙◌}
use Rattle.std.specs.List.{flat_map, list_all}
use Rattle.std.proofs.lemmas.List.{length-map}
use Rattle.std.proofs.lemmas.List.Folds.{list_all-map, list_all-append}
use Rattle.al_value.specs.declared.value.Value.{Value}
use Rattle.al_func.specs.declared.func.Func.{Func}
use Rattle.al_func.specs.Func.{arity}
use Rattle.al_plan.specs.declared.expr.Var.{Var}
use Rattle.al_plan.specs.declared.expr.Expr.{Expr, fold-roll-Expr}
use Rattle.al_plan.specs.declared.expr.Expr.TheVariants as E
use Rattle.al_plan.specs.declared.expr.Expr.TheOpen as L
use Rattle.al_plan.specs.Eval.{Bytes}
use Rattle.al_plan.specs.Names.{names, names_step, has_arities, arities_step}
use Rattle.al_plan.specs.Allows.{is_among}
use Rattle.al_plan.specs.Accept.{reads_among}
use Rattle.al_plan.proofs.Within.{is_among-append}

pub arities-Var : (v : Var) → has_arities (E.Var v) ≡ true
unfolding has_arities
arities-Var v = ap has_arities (sym (E.rolls-Var v)) ∙ fold-roll-Expr Bool arities_step (L.Var v)

pub arities-Lit : (v : Value) → has_arities (E.Lit v) ≡ true
unfolding has_arities
arities-Lit v = ap has_arities (sym (E.rolls-Lit v)) ∙ fold-roll-Expr Bool arities_step (L.Lit v)

pub arities-Call : (f : Func) (args : List Expr) → has_arities (E.Call f args) ≡ (nat_eq (length args) (arity f) && list_all has_arities args)
unfolding has_arities
arities-Call f args =
    ap has_arities (sym (E.rolls-Call f args)) ∙ fold-roll-Expr Bool arities_step (L.Call f args)
    ∙ (λ i. nat_eq (length-map args has_arities i) (arity f) && list_all-map (λ a. a) has_arities args i)

names-Var : (v : Var) → names (E.Var v) ≡ v.name ∷ []
unfolding names
names-Var v = ap names (sym (E.rolls-Var v)) ∙ fold-roll-Expr (List Bytes) names_step (L.Var v)

names-Lit : (v : Value) → names (E.Lit v) ≡ []
unfolding names
names-Lit v = ap names (sym (E.rolls-Lit v)) ∙ fold-roll-Expr (List Bytes) names_step (L.Lit v)

names-Call : (f : Func) (args : List Expr) → names (E.Call f args) ≡ flat_map (λ a. a) (map names args)
unfolding names
names-Call f args = ap names (sym (E.rolls-Call f args)) ∙ fold-roll-Expr (List Bytes) names_step (L.Call f args)

and_true : (b : Bool) → (b && true) ≡ b
and_true true = refl
and_true false = refl

in_all : (vars : List Var) (args : List Expr) → list_all (is_among vars) (flat_map (λ a. a) (map names args)) ≡ list_all (reads_among vars) args
in_all vars [] = refl
in_all vars (e ∷ es) = list_all-append (is_among vars) (names e) (flat_map (λ a. a) (map names es)) ∙ ap (λ b. list_all (is_among vars) (names e) && b) (in_all vars es)

pub reads-Var : (left right : List Var) (v : Var) → reads_among (left ++ right) (E.Var v) ≡ (is_among left v.name || is_among right v.name)
reads-Var left right v = ap (list_all (is_among (left ++ right))) (names-Var v) ∙ and_true (is_among (left ++ right) v.name) ∙ is_among-append left right v.name

pub reads-Lit : (vars : List Var) (v : Value) → reads_among vars (E.Lit v) ≡ true
reads-Lit vars v = ap (list_all (is_among vars)) (names-Lit v)

pub reads-Call : (vars : List Var) (f : Func) (args : List Expr) → reads_among vars (E.Call f args) ≡ list_all (reads_among vars) args
reads-Call vars f args = ap (list_all (is_among vars)) (names-Call f args) ∙ in_all vars args

pub ruleset arity_laws = (arities-Var, arities-Lit, arities-Call)

pub ruleset read_laws = (reads-Var, reads-Lit, reads-Call)
