-- Which variables are wanted of a plan, operator by operator.
use Rattle.std.proofs.Common.{◌≡◌, ◌<◌, ℕ, zero, suc, length, get_or, arith, Bool, true, false, not, ◌&&◌, List, [], ◌∷◌, ◌++◌, map, flat_map, refl, ap, sym, ◌∙◌}
use Rattle.std.specs.Prelude.{◌||◌, nat_eq}
use Rattle.std.specs.Cmp.Lexicographic.{pointwise, same_text}
use Rattle.std.specs.List.{AllByRecursion, list_all, list_any}
use Rattle.std.proofs.lemmas.List.Folds.{list_all-append}
use Rattle.al_plan.specs.declared.expr.Var.{Var}
use Rattle.al_plan.specs.declared.expr.Expr.{Expr}
use Rattle.al_plan.specs.declared.plan.AggCall.{AggCall}
use Rattle.al_plan.specs.declared.plan.Generator.{Generator}
use Rattle.al_plan.specs.declared.plan.OrderKey.{OrderKey}
use Rattle.al_plan.specs.declared.plan.Plan.{Plan}
use Rattle.al_plan.specs.declared.plan.Plan.TheVariants as P
use Rattle.al_plan.specs.Eval.{Bytes}
use Rattle.al_plan.specs.Names.{names, agg_exprs}
use Rattle.al_plan.specs.Uses.{named}
use Rattle.al_plan.specs.Allows.{live, is_among}
use Rattle.al_plan.proofs.Bools.{no, by_cases}
use Rattle.al_plan.proofs.Makes.{text_itself}
use Rattle.al_plan.proofs.Within.{is_among-append}
use Rattle.al_plan.proofs.PlanLaws.{live-Scan, live-Empty, live-Nested, live-Assign, live-Select, live-Project, live-Unnest, live-Subplan, live-Join, live-LeftJoin, live-Group, live-Distinct, live-Union, live-Aggregate, live-Order, live-Limit, live-Check, live-Result}
use Rattle.al_rule.specs.Rules.{Decides}
use Rattle.al_rule.specs.Reads.{ReadsNone}
use Rattle.al_rules_prune.specs.Prunes.{all_among, read_by, read_by_aggregates}

pub among-Scan : (vs : List Var) (set : Bytes) (vars : List Var) (given : List Var) → all_among vs (live (P.Scan set vars) given) ≡ (all_among vs vars)
among-Scan vs set vars given = ap (all_among vs) (live-Scan set vars given)

pub among-Empty : (vs : List Var) (given : List Var) → all_among vs (live P.Empty given) ≡ (true)
among-Empty vs given = ap (all_among vs) (live-Empty given)

pub among-Nested : (vs : List Var) (given : List Var) → all_among vs (live P.Nested given) ≡ (all_among vs given)
among-Nested vs given = ap (all_among vs) (live-Nested given)

pub among-Assign : (vs : List Var) (made : List (Var × Expr)) (p : Plan) (given : List Var) → all_among vs (live (P.Assign made p) given) ≡ (all_among vs (live p given) && all_among vs (map (λ m. m.0) made))
among-Assign vs made p given = ap (all_among vs) (live-Assign made p given) ∙ list_all-append (λ v. is_among vs v.name) (live p given) (map (λ m. m.0) made)

pub among-Select : (vs : List Var) (c : Expr) (p : Plan) (given : List Var) → all_among vs (live (P.Select c p) given) ≡ (all_among vs (live p given))
among-Select vs c p given = ap (all_among vs) (live-Select c p given)

pub among-Project : (vs : List Var) (vars : List Var) (p : Plan) (given : List Var) → all_among vs (live (P.Project vars p) given) ≡ (all_among vs vars)
among-Project vs vars p given = ap (all_among vs) (live-Project vars p given)

pub among-Unnest : (vs : List Var) (v : Var) (g : Generator) (p : Plan) (given : List Var) → all_among vs (live (P.Unnest v g p) given) ≡ (all_among vs (live p given) && all_among vs (v ∷ []))
among-Unnest vs v g p given = ap (all_among vs) (live-Unnest v g p given) ∙ list_all-append (λ v. is_among vs v.name) (live p given) (v ∷ [])

pub among-Subplan : (vs : List Var) (n p : Plan) (given : List Var) → all_among vs (live (P.Subplan n p) given) ≡ (all_among vs (live p given) && all_among vs (live n (live p given)))
among-Subplan vs n p given = ap (all_among vs) (live-Subplan n p given) ∙ list_all-append (λ v. is_among vs v.name) (live p given) (live n (live p given))

pub among-Join : (vs : List Var) (c : Expr) (l r : Plan) (given : List Var) → all_among vs (live (P.Join c l r) given) ≡ (all_among vs (live l given) && all_among vs (live r given))
among-Join vs c l r given = ap (all_among vs) (live-Join c l r given) ∙ list_all-append (λ v. is_among vs v.name) (live l given) (live r given)

pub among-LeftJoin : (vs : List Var) (c : Expr) (l r : Plan) (given : List Var) → all_among vs (live (P.LeftJoin c l r) given) ≡ (all_among vs (live l given) && all_among vs (live r given))
among-LeftJoin vs c l r given = ap (all_among vs) (live-LeftJoin c l r given) ∙ list_all-append (λ v. is_among vs v.name) (live l given) (live r given)

pub among-Group : (vs : List Var) (keys : List (Var × Var)) (n p : Plan) (given : List Var) → all_among vs (live (P.Group keys n p) given) ≡ (all_among vs (map (λ k. k.0) keys) && all_among vs (live n (live p given)))
among-Group vs keys n p given = ap (all_among vs) (live-Group keys n p given) ∙ list_all-append (λ v. is_among vs v.name) (map (λ k. k.0) keys) (live n (live p given))

pub among-Distinct : (vs : List Var) (p : Plan) (given : List Var) → all_among vs (live (P.Distinct p) given) ≡ (all_among vs (live p given))
among-Distinct vs p given = ap (all_among vs) (live-Distinct p given)

pub among-Union : (vs : List Var) (made ls rs : List Var) (l r : Plan) (given : List Var) → all_among vs (live (P.Union made ls rs l r) given) ≡ (all_among vs made)
among-Union vs made ls rs l r given = ap (all_among vs) (live-Union made ls rs l r given)

pub among-Aggregate : (vs : List Var) (made : List (Var × AggCall)) (p : Plan) (given : List Var) → all_among vs (live (P.Aggregate made p) given) ≡ (all_among vs (map (λ m. m.0) made))
among-Aggregate vs made p given = ap (all_among vs) (live-Aggregate made p given)

pub among-Order : (vs : List Var) (keys : List OrderKey) (p : Plan) (given : List Var) → all_among vs (live (P.Order keys p) given) ≡ (all_among vs (live p given))
among-Order vs keys p given = ap (all_among vs) (live-Order keys p given)

pub among-Limit : (vs : List Var) (n k : ℕ) (p : Plan) (given : List Var) → all_among vs (live (P.Limit n k p) given) ≡ (all_among vs (live p given))
among-Limit vs n k p given = ap (all_among vs) (live-Limit n k p given)

pub among-Check : (vs : List Var) (name : Bytes) (c : Expr) (p : Plan) (given : List Var) → all_among vs (live (P.Check name c p) given) ≡ (all_among vs (live p given))
among-Check vs name c p given = ap (all_among vs) (live-Check name c p given)

pub among-Result : (vs : List Var) (vars : List Var) (p : Plan) (given : List Var) → all_among vs (live (P.Result vars p) given) ≡ (all_among vs vars)
among-Result vs vars p given = ap (all_among vs) (live-Result vars p given)

pub ruleset wanted_laws = (among-Scan, among-Empty, among-Nested, among-Assign, among-Select, among-Project, among-Unnest, among-Subplan, among-Join, among-LeftJoin, among-Group, among-Distinct, among-Union, among-Aggregate, among-Order, among-Limit, among-Check, among-Result)

-- ---- an expression reads a variable

same_turned : (x y : Bytes) → pointwise nat_eq x y ≡ pointwise nat_eq y x
same_turned x y = by_cases (pointwise nat_eq x y)
    (λ e. e ∙ sym (ap (λ z. pointwise nat_eq y z) (same_text x y (sym e)) ∙ text_itself y))
    (λ e. by_cases (pointwise nat_eq y x)
    (λ d. absurd (no (sym (ap (λ z. pointwise nat_eq z y) (sym (same_text y x (sym d))) ∙ text_itself y) ∙ e)))
    (λ d. e ∙ sym d))

or_false : (b : Bool) → (b || false) ≡ b
or_false true = refl
or_false false = refl

not_read : (v : Var) (qs : List Bytes) → AllByRecursion (λ q. is_among (v ∷ []) q ≡ false) qs → is_among (map named qs) v.name ≡ false
not_read v [] h = refl
not_read v (q ∷ qs) h = (λ i. (same_turned q v.name ∙ sym (or_false (pointwise nat_eq v.name q)) ∙ h.0) i || not_read v qs h.1 i)

none_read : (v : Var) (qs : List Bytes) → is_among (map named qs) v.name ≡ false → AllByRecursion (λ q. is_among (v ∷ []) q ≡ false) qs
none_read v [] h = tt
none_read v (q ∷ qs) h = (or_false (pointwise nat_eq v.name q) ∙ same_turned v.name q ∙ left (pointwise nat_eq q v.name) (is_among (map named qs) v.name) h, none_read v qs (right (pointwise nat_eq q v.name) (is_among (map named qs) v.name) h))
  where
    left : (a b : Bool) → (a || b) ≡ false → a ≡ false
    left true b h = h
    left false b h = refl

    right : (a b : Bool) → (a || b) ≡ false → b ≡ false
    right true b h = absurd (no h)
    right false b h = h

pub decides_read : (e : Expr) (v : Var) (b : Bool) → Decides b (ReadsNone (v ∷ []) e) → not b ≡ is_among (read_by e) v.name
decides_read e v true h = sym (not_read v (names e) h)
decides_read e v false h = by_cases (is_among (read_by e) v.name) (λ t. sym t) (λ f. absurd (h (none_read v (names e) f)))

pub among_both : (xs ys : List Var) (q : Bytes) → is_among (xs ++ ys) q ≡ (is_among xs q || is_among ys q)
among_both xs ys q = is_among-append xs ys q

pub all_made_among : {T : Type 0} (vs : List Var) (made : List (Var × T)) → all_among vs (map (λ m. m.0) made) ≡ list_all (λ m. is_among vs m.0.name) made
all_made_among vs [] = refl
all_made_among vs (m ∷ made) = ap (λ b. is_among vs m.0.name && b) (all_made_among vs made)

and_false : (b : Bool) → (b && false) ≡ false
and_false true = refl
and_false false = refl

pub one_fails : {X : Type 0} (f : X → Bool) (xs : List X) (i : ℕ) (d : X) → i < length xs → f (get_or xs i d) ≡ false → list_all f xs ≡ false
one_fails f [] i d low h = absurd (omega arith)
one_fails f (x ∷ xs) zero d low h = ap (λ b. b && list_all f xs) h
one_fails f (x ∷ xs) (suc i) d low h = ap (λ b. f x && b) (one_fails f xs i d (omega arith) h) ∙ and_false (f x)

-- ---- keys and aggregates

pub among_order : (keys : List OrderKey) (q : Bytes) → is_among (map (λ k. k.var) keys) q ≡ list_any (λ k. pointwise nat_eq k.var.name q) keys
among_order [] q = refl
among_order (k ∷ keys) q = ap (λ b. pointwise nat_eq k.var.name q || b) (among_order keys q)

pub one_read : (e : Expr) (q : Bytes) → is_among (flat_map read_by (e ∷ [])) q ≡ is_among (read_by e) q
one_read e q = is_among-append (read_by e) [] q ∙ or_false (is_among (read_by e) q)

pub calls_read : (made : List (Var × AggCall)) (q : Bytes) → is_among (read_by_aggregates made) q ≡ list_any (λ m. is_among (flat_map read_by (agg_exprs m.1)) q) made
calls_read [] q = refl
calls_read (m ∷ made) q = is_among-append (flat_map read_by (agg_exprs m.1)) (read_by_aggregates made) q ∙ ap (λ b. is_among (flat_map read_by (agg_exprs m.1)) q || b) (calls_read made q)

pub among_olds : (keys : List (Var × Var)) (q : Bytes) → is_among (map (λ k. k.1) keys) q ≡ list_any (λ k. pointwise nat_eq k.1.name q) keys
among_olds [] q = refl
among_olds (k ∷ keys) q = ap (λ b. pointwise nat_eq k.1.name q || b) (among_olds keys q)
