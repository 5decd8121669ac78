-- The words of each operator and of each expression.
use Rattle.std.proofs.Common.{◌≡◌, ℕ, Bool, List, [], ◌∷◌, ◌++◌, map, refl, ap, sym, ◌∙◌, codes}
use Rattle.std.specs.List.{flat_map}
use Rattle.al_value.specs.declared.value.Value.{Value}
use Rattle.al_func.specs.declared.func.Func.{Func}
use Rattle.al_plan.specs.declared.expr.Var.{Var}
use Rattle.al_plan.specs.declared.expr.Expr.{Expr, fold-roll-Expr}
use Rattle.al_plan.specs.declared.expr.Expr.TheVariants as E
use Rattle.al_plan.specs.declared.expr.Expr.TheOpen as M
use Rattle.al_plan.specs.declared.plan.OrderKey.{OrderKey}
use Rattle.al_plan.specs.declared.plan.AggCall.{AggCall}
use Rattle.al_plan.specs.declared.plan.Generator.{Generator}
use Rattle.al_plan.specs.declared.plan.Plan.{Plan, fold-roll-Plan}
use Rattle.al_plan.specs.declared.plan.Plan.TheVariants as P
use Rattle.al_plan.specs.declared.plan.Plan.TheOpen as L
use Rattle.al_plan.specs.Eval.{Bytes}
use Rattle.al_plan.specs.Grammar.{Name, Marked, plain, enclosed, operator, func_name, literal, variable, variables, expr_words, expr_words_step, generator_words, assigned_words, aggregated_words, key_words, order_words, count_word, plan_words, plan_words_step}

pub expr_words-Var : (v : Var) → expr_words (E.Var v) ≡ variable v ∷ []
unfolding expr_words
expr_words-Var v = ap expr_words (sym (E.rolls-Var v)) ∙ fold-roll-Expr (List Marked) expr_words_step (M.Var v)

pub expr_words-Lit : (v : Value) → expr_words (E.Lit v) ≡ plain (literal v) ∷ []
unfolding expr_words
expr_words-Lit v = ap expr_words (sym (E.rolls-Lit v)) ∙ fold-roll-Expr (List Marked) expr_words_step (M.Lit v)

flat_map_of_map : (xs : List Expr) → flat_map (λ a. a) (map expr_words xs) ≡ flat_map expr_words xs
flat_map_of_map [] = refl
flat_map_of_map (x ∷ xs) = ap (λ ys. expr_words x ++ ys) (flat_map_of_map xs)

pub expr_words-Call : (f : Func) (args : List Expr) → expr_words (E.Call f args) ≡ enclosed (plain (Name (func_name f)) ∷ flat_map expr_words args)
unfolding expr_words
expr_words-Call f args =
    ap expr_words (sym (E.rolls-Call f args)) ∙ fold-roll-Expr (List Marked) expr_words_step (M.Call f args)
    ∙ ap (λ ws. enclosed (plain (Name (func_name f)) ∷ ws)) (flat_map_of_map args)

pub ruleset expr_words_laws = (expr_words-Var, expr_words-Lit, expr_words-Call)

pub plan_words-Scan : (set : Bytes) (vars : List Var) → plan_words (P.Scan set vars) ≡ operator (codes "scan") (plain (Name set) ∷ variables vars)
unfolding plan_words
plan_words-Scan set vars = ap plan_words (sym (P.rolls-Scan set vars)) ∙ fold-roll-Plan (List Marked) plan_words_step (L.Scan set vars)

pub plan_words-Empty : plan_words P.Empty ≡ operator (codes "empty") []
unfolding plan_words
plan_words-Empty = ap plan_words (sym P.rolls-Empty) ∙ fold-roll-Plan (List Marked) plan_words_step L.Empty

pub plan_words-Nested : plan_words P.Nested ≡ operator (codes "nested") []
unfolding plan_words
plan_words-Nested = ap plan_words (sym P.rolls-Nested) ∙ fold-roll-Plan (List Marked) plan_words_step L.Nested

pub plan_words-Assign : (made : List (Var × Expr)) (p : Plan) → plan_words (P.Assign made p) ≡ operator (codes "assign") (enclosed (flat_map assigned_words made) ++ plan_words p)
unfolding plan_words
plan_words-Assign made p = ap plan_words (sym (P.rolls-Assign made p)) ∙ fold-roll-Plan (List Marked) plan_words_step (L.Assign made p)

pub plan_words-Select : (c : Expr) (p : Plan) → plan_words (P.Select c p) ≡ operator (codes "select") (expr_words c ++ plan_words p)
unfolding plan_words
plan_words-Select c p = ap plan_words (sym (P.rolls-Select c p)) ∙ fold-roll-Plan (List Marked) plan_words_step (L.Select c p)

pub plan_words-Project : (vars : List Var) (p : Plan) → plan_words (P.Project vars p) ≡ operator (codes "project") (variables vars ++ plan_words p)
unfolding plan_words
plan_words-Project vars p = ap plan_words (sym (P.rolls-Project vars p)) ∙ fold-roll-Plan (List Marked) plan_words_step (L.Project vars p)

pub plan_words-Unnest : (v : Var) (g : Generator) (p : Plan) → plan_words (P.Unnest v g p) ≡ operator (codes "unnest") (variable v ∷ (generator_words g ++ plan_words p))
unfolding plan_words
plan_words-Unnest v g p = ap plan_words (sym (P.rolls-Unnest v g p)) ∙ fold-roll-Plan (List Marked) plan_words_step (L.Unnest v g p)

pub plan_words-Subplan : (n p : Plan) → plan_words (P.Subplan n p) ≡ operator (codes "subplan") (plan_words n ++ plan_words p)
unfolding plan_words
plan_words-Subplan n p = ap plan_words (sym (P.rolls-Subplan n p)) ∙ fold-roll-Plan (List Marked) plan_words_step (L.Subplan n p)

pub plan_words-Join : (c : Expr) (l r : Plan) → plan_words (P.Join c l r) ≡ operator (codes "join") (expr_words c ++ (plan_words l ++ plan_words r))
unfolding plan_words
plan_words-Join c l r = ap plan_words (sym (P.rolls-Join c l r)) ∙ fold-roll-Plan (List Marked) plan_words_step (L.Join c l r)

pub plan_words-LeftJoin : (c : Expr) (l r : Plan) → plan_words (P.LeftJoin c l r) ≡ operator (codes "leftjoin") (expr_words c ++ (plan_words l ++ plan_words r))
unfolding plan_words
plan_words-LeftJoin c l r = ap plan_words (sym (P.rolls-LeftJoin c l r)) ∙ fold-roll-Plan (List Marked) plan_words_step (L.LeftJoin c l r)

pub plan_words-Group : (keys : List (Var × Var)) (n p : Plan) → plan_words (P.Group keys n p) ≡ operator (codes "group") (enclosed (flat_map key_words keys) ++ (plan_words n ++ plan_words p))
unfolding plan_words
plan_words-Group keys n p = ap plan_words (sym (P.rolls-Group keys n p)) ∙ fold-roll-Plan (List Marked) plan_words_step (L.Group keys n p)

pub plan_words-Distinct : (p : Plan) → plan_words (P.Distinct p) ≡ operator (codes "distinct") (plan_words p)
unfolding plan_words
plan_words-Distinct p = ap plan_words (sym (P.rolls-Distinct p)) ∙ fold-roll-Plan (List Marked) plan_words_step (L.Distinct p)

pub plan_words-Union : (made ls rs : List Var) (l r : Plan) → plan_words (P.Union made ls rs l r) ≡ operator (codes "union") (variables made ++ (variables ls ++ (variables rs ++ (plan_words l ++ plan_words r))))
unfolding plan_words
plan_words-Union made ls rs l r = ap plan_words (sym (P.rolls-Union made ls rs l r)) ∙ fold-roll-Plan (List Marked) plan_words_step (L.Union made ls rs l r)

pub plan_words-Aggregate : (made : List (Var × AggCall)) (p : Plan) → plan_words (P.Aggregate made p) ≡ operator (codes "aggregate") (enclosed (flat_map aggregated_words made) ++ plan_words p)
unfolding plan_words
plan_words-Aggregate made p = ap plan_words (sym (P.rolls-Aggregate made p)) ∙ fold-roll-Plan (List Marked) plan_words_step (L.Aggregate made p)

pub plan_words-Order : (keys : List OrderKey) (p : Plan) → plan_words (P.Order keys p) ≡ operator (codes "order") (enclosed (flat_map order_words keys) ++ plan_words p)
unfolding plan_words
plan_words-Order keys p = ap plan_words (sym (P.rolls-Order keys p)) ∙ fold-roll-Plan (List Marked) plan_words_step (L.Order keys p)

pub plan_words-Limit : (n k : ℕ) (p : Plan) → plan_words (P.Limit n k p) ≡ operator (codes "limit") (count_word n ∷ count_word k ∷ plan_words p)
unfolding plan_words
plan_words-Limit n k p = ap plan_words (sym (P.rolls-Limit n k p)) ∙ fold-roll-Plan (List Marked) plan_words_step (L.Limit n k p)

pub plan_words-Check : (name : Bytes) (c : Expr) (p : Plan) → plan_words (P.Check name c p) ≡ operator (codes "check") (plain (Name name) ∷ (expr_words c ++ plan_words p))
unfolding plan_words
plan_words-Check name c p = ap plan_words (sym (P.rolls-Check name c p)) ∙ fold-roll-Plan (List Marked) plan_words_step (L.Check name c p)

pub plan_words-Result : (vars : List Var) (p : Plan) → plan_words (P.Result vars p) ≡ operator (codes "result") (variables vars ++ plan_words p)
unfolding plan_words
plan_words-Result vars p = ap plan_words (sym (P.rolls-Result vars p)) ∙ fold-roll-Plan (List Marked) plan_words_step (L.Result vars p)

pub ruleset plan_words_laws = (plan_words-Scan, plan_words-Empty, plan_words-Nested, plan_words-Assign, plan_words-Select, plan_words-Project, plan_words-Unnest, plan_words-Subplan, plan_words-Join, plan_words-LeftJoin, plan_words-Group, plan_words-Distinct, plan_words-Union, plan_words-Aggregate, plan_words-Order, plan_words-Limit, plan_words-Check, plan_words-Result)
