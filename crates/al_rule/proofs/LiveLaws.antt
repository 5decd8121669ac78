-- Which variables are live, by names.
use Rattle.std.proofs.Common.{◌≡◌, ℕ, Bool, true, false, not, ◌&&◌, zero, suc, ◌<◌, length, get_or, arith, List, [], ◌∷◌, map, refl, ap, sym, subst, ◌∙◌}
use Rattle.std.specs.Prelude.{◌||◌, nat_eq}
use Rattle.std.specs.Cmp.Lexicographic.{pointwise}
use Rattle.std.specs.List.{AllByRecursion, flat_map, list_all, list_any}
use Rattle.al_plan.specs.declared.expr.Var.{Var}
use Rattle.al_plan.specs.declared.expr.Expr.{Expr}
use Rattle.al_plan.specs.declared.plan.AggCall.{AggCall}
use Rattle.al_plan.specs.declared.plan.Generator.{Generator}
use Rattle.al_plan.specs.declared.plan.OrderKey.{OrderKey}
use Rattle.al_plan.specs.declared.plan.Plan.{Plan}
use Rattle.al_plan.specs.declared.plan.Plan.TheVariants as P
use Rattle.al_plan.specs.Eval.{Bytes}
use Rattle.al_plan.specs.Allows.{live, is_among}
use Rattle.al_plan.specs.Names.{names}
use Rattle.al_plan.specs.Refines.{AreAmong}
use Rattle.al_rule.specs.Rules.{Decides}
use Rattle.al_rule.specs.Reads.{ReadsNone}
use Rattle.al_plan.proofs.PlanLaws.{live-Scan, live-Empty, live-Nested, live-Assign, live-Select, live-Project, live-Unnest, live-Subplan, live-Join, live-LeftJoin, live-Group, live-Distinct, live-Union, live-Aggregate, live-Order, live-Limit, live-Check, live-Result}
use Rattle.al_plan.proofs.Within.{is_among-append}
use Rattle.al_plan.proofs.UsesLaws.{names-Var, names-Lit, names-Call}
use Rattle.std.proofs.lemmas.List.Folds.{list_all-append}

pub among_made : {T : Type 0} (made : List (Var × T)) (q : Bytes) → is_among (map (λ m. m.0) made) q ≡ list_any (λ m. pointwise nat_eq m.0.name q) made
among_made [] q = refl
among_made (m ∷ made) q = ap (λ b. pointwise nat_eq m.0.name q || b) (among_made made q)

pub among-Scan : (set : Bytes) (vars : List Var) (given : List Var) (q : Bytes) → is_among (live (P.Scan set vars) given) q ≡ (is_among vars q)
among-Scan set vars given q = ap (λ vs. is_among vs q) (live-Scan set vars given)

pub among-Empty : (given : List Var) (q : Bytes) → is_among (live P.Empty given) q ≡ (false)
among-Empty given q = ap (λ vs. is_among vs q) (live-Empty given)

pub among-Nested : (given : List Var) (q : Bytes) → is_among (live P.Nested given) q ≡ (is_among given q)
among-Nested given q = ap (λ vs. is_among vs q) (live-Nested given)

pub among-Assign : (made : List (Var × Expr)) (p : Plan) (given : List Var) (q : Bytes) → is_among (live (P.Assign made p) given) q ≡ (is_among (live p given) q || is_among (map (λ m. m.0) made) q)
among-Assign made p given q = ap (λ vs. is_among vs q) (live-Assign made p given) ∙ is_among-append (live p given) (map (λ m. m.0) made) q

pub among-Select : (c : Expr) (p : Plan) (given : List Var) (q : Bytes) → is_among (live (P.Select c p) given) q ≡ (is_among (live p given) q)
among-Select c p given q = ap (λ vs. is_among vs q) (live-Select c p given)

pub among-Project : (vars : List Var) (p : Plan) (given : List Var) (q : Bytes) → is_among (live (P.Project vars p) given) q ≡ (is_among vars q)
among-Project vars p given q = ap (λ vs. is_among vs q) (live-Project vars p given)

pub among-Unnest : (v : Var) (g : Generator) (p : Plan) (given : List Var) (q : Bytes) → is_among (live (P.Unnest v g p) given) q ≡ (is_among (live p given) q || is_among (v ∷ []) q)
among-Unnest v g p given q = ap (λ vs. is_among vs q) (live-Unnest v g p given) ∙ is_among-append (live p given) (v ∷ []) q

pub among-Subplan : (n p : Plan) (given : List Var) (q : Bytes) → is_among (live (P.Subplan n p) given) q ≡ (is_among (live p given) q || is_among (live n (live p given)) q)
among-Subplan n p given q = ap (λ vs. is_among vs q) (live-Subplan n p given) ∙ is_among-append (live p given) (live n (live p given)) q

pub among-Join : (c : Expr) (l r : Plan) (given : List Var) (q : Bytes) → is_among (live (P.Join c l r) given) q ≡ (is_among (live l given) q || is_among (live r given) q)
among-Join c l r given q = ap (λ vs. is_among vs q) (live-Join c l r given) ∙ is_among-append (live l given) (live r given) q

pub among-LeftJoin : (c : Expr) (l r : Plan) (given : List Var) (q : Bytes) → is_among (live (P.LeftJoin c l r) given) q ≡ (is_among (live l given) q || is_among (live r given) q)
among-LeftJoin c l r given q = ap (λ vs. is_among vs q) (live-LeftJoin c l r given) ∙ is_among-append (live l given) (live r given) q

pub among-Group : (keys : List (Var × Var)) (n p : Plan) (given : List Var) (q : Bytes) → is_among (live (P.Group keys n p) given) q ≡ (is_among (map (λ k. k.0) keys) q || is_among (live n (live p given)) q)
among-Group keys n p given q = ap (λ vs. is_among vs q) (live-Group keys n p given) ∙ is_among-append (map (λ k. k.0) keys) (live n (live p given)) q

pub among-Distinct : (p : Plan) (given : List Var) (q : Bytes) → is_among (live (P.Distinct p) given) q ≡ (is_among (live p given) q)
among-Distinct p given q = ap (λ vs. is_among vs q) (live-Distinct p given)

pub among-Union : (made ls rs : List Var) (l r : Plan) (given : List Var) (q : Bytes) → is_among (live (P.Union made ls rs l r) given) q ≡ (is_among made q)
among-Union made ls rs l r given q = ap (λ vs. is_among vs q) (live-Union made ls rs l r given)

pub among-Aggregate : (made : List (Var × AggCall)) (p : Plan) (given : List Var) (q : Bytes) → is_among (live (P.Aggregate made p) given) q ≡ (is_among (map (λ m. m.0) made) q)
among-Aggregate made p given q = ap (λ vs. is_among vs q) (live-Aggregate made p given)

pub among-Order : (keys : List OrderKey) (p : Plan) (given : List Var) (q : Bytes) → is_among (live (P.Order keys p) given) q ≡ (is_among (live p given) q)
among-Order keys p given q = ap (λ vs. is_among vs q) (live-Order keys p given)

pub among-Limit : (n k : ℕ) (p : Plan) (given : List Var) (q : Bytes) → is_among (live (P.Limit n k p) given) q ≡ (is_among (live p given) q)
among-Limit n k p given q = ap (λ vs. is_among vs q) (live-Limit n k p given)

pub among-Check : (name : Bytes) (c : Expr) (p : Plan) (given : List Var) (q : Bytes) → is_among (live (P.Check name c p) given) q ≡ (is_among (live p given) q)
among-Check name c p given q = ap (λ vs. is_among vs q) (live-Check name c p given)

pub among-Result : (vars : List Var) (p : Plan) (given : List Var) (q : Bytes) → is_among (live (P.Result vars p) given) q ≡ (is_among vars q)
among-Result vars p given q = ap (λ vs. is_among vs q) (live-Result vars p given)

pub ruleset live_among = (among-Scan, among-Empty, among-Nested, among-Assign, among-Select, among-Project, among-Unnest, among-Subplan, among-Join, among-LeftJoin, among-Group, among-Distinct, among-Union, among-Aggregate, among-Order, among-Limit, among-Check, among-Result)

-- ---- what a test tells of all elements

decides_all : {X : Type 0} (f : X → Bool) (R : X → Type 0) → ((x : X) → Decides (f x) (R x)) → (xs : List X) → Decides (list_all f xs) (AllByRecursion R xs)
decides_all f R d [] = tt
decides_all f R d (x ∷ xs) = go (f x) (list_all f xs) (d x) (decides_all f R d xs)
  where
    go : (a b : Bool) → Decides a (R x) → Decides b (AllByRecursion R xs) → Decides (a && b) (R x × AllByRecursion R xs)
    go true true h g = (h, g)
    go true false h g = λ k. g k.1
    go false b h g = λ k. h k.0

decides_true : (b : Bool) → Decides b (b ≡ true)
decides_true true = refl
decides_true false = λ e. cc

decides_not : (b : Bool) → Decides (not b) (b ≡ false)
decides_not true = λ e. cc
decides_not false = refl

pub decides_among : (vars : List Var) (e : Expr) (b : Bool) → b ≡ list_all (is_among vars) (names e) → Decides b (AreAmong vars (names e))
decides_among vars e b h = subst (λ (t : Bool). Decides t (AreAmong vars (names e))) (sym h) (decides_all (is_among vars) (λ q. is_among vars q ≡ true) (λ q. decides_true (is_among vars q)) (names e))

pub decides_apart : (vars : List Var) (e : Expr) (b : Bool) → b ≡ list_all (λ q. not (is_among vars q)) (names e) → Decides b (ReadsNone vars e)
decides_apart vars e b h = subst (λ (t : Bool). Decides t (ReadsNone vars e)) (sym h) (decides_all (λ q. not (is_among vars q)) (λ q. is_among vars q ≡ false) (λ q. decides_not (is_among vars q)) (names e))

and_false : (b : Bool) → (b && false) ≡ false
and_false true = refl
and_false false = refl

-- one argument that fails the test fails it for all
pub args_fail : (f : Bytes → Bool) (args : List Expr) (i : ℕ) (d : Expr) → i < length args → list_all f (names (get_or args i d)) ≡ false → list_all f (flat_map names args) ≡ false
args_fail f [] i d low h = absurd (omega arith)
args_fail f (e ∷ es) zero d low h = list_all-append f (names e) (flat_map names es) ∙ ap (λ b. b && list_all f (flat_map names es)) h
args_fail f (e ∷ es) (suc i) d low h = list_all-append f (names e) (flat_map names es) ∙ ap (λ b. list_all f (names e) && b) (args_fail f es i d (omega arith) h) ∙ and_false (list_all f (names e))

pub ruleset names_laws = (names-Var, names-Lit, names-Call, list_all-append)
