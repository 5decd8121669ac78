-- Which plans the rules of pruning rewrite.
use Rattle.std.proofs.Common.{◌≡◌, inl, inr, Bool, true, false, not, ◌&&◌, List, [], ◌∷◌, ◌++◌, map, refl, ap, sym, subst, ◌∙◌, Option, Some, None, Result, Ok, Err, IfOk}
use Rattle.al_value.specs.declared.fault.NoMemory.{NoMemory}
use Rattle.al_plan.specs.declared.expr.Var.{Var}
use Rattle.al_plan.specs.declared.expr.Expr.{Expr}
use Rattle.al_plan.specs.declared.plan.AggCall.{AggCall}
use Rattle.al_plan.specs.declared.plan.OrderKey.{OrderKey}
use Rattle.al_plan.specs.declared.plan.Plan.{Plan, out-Plan}
use Rattle.al_plan.specs.declared.plan.Plan.TheVariants as P
use Rattle.al_plan.specs.declared.plan.Plan.TheOpen as L
use Rattle.std.specs.Prelude.{◌||◌, nat_eq}
use Rattle.std.specs.Cmp.Lexicographic.{pointwise, same_text}
use Rattle.al_plan.specs.Eval.{Bytes}
use Rattle.al_plan.specs.Allows.{live, is_among}
use Rattle.al_plan.proofs.Makes.{at_head}
use Rattle.al_plan.specs.Refines.{Fit, Replaces}
use Rattle.al_plan.proofs.Bools.{no, by_cases}
use Rattle.al_rule.specs.declared.rule.ApplyFault.{ApplyFault}
use Rattle.al_rule.specs.Places.{Rewriting}
use Rattle.al_rule.specs.Rules.{Decides, Matches}
use Rattle.al_rule.proofs.Operators.{out-Select, out-Assign, out-Project, out-Group, out-Order, out-Aggregate, out-Result, out-Join, out-LeftJoin}
use Rattle.al_rules_prune.specs.Prunes as rule
use Rattle.al_rules_prune.specs.Prunes.{wide, IsWide, CutsInput, narrowed, read_by, read_by_aggregates, used_by, joined, all_among, HaveSame, bindings, assigned_over}
use Rattle.std.specs.Prelude.{if◌then◌else◌}
use Rattle.al_plan.specs.Uses.{named}
use Rattle.al_rules_prune.specs.Reading.{reads, has_distinct}
use Rattle.al_rules_prune.specs.GroupCut.{uses_less}
use Rattle.al_rules_prune.specs.Kept.{in_right}
use Rattle.al_rules_prune.specs.Matching.{IsNoProject, IsNoJoined, IsNot, IsSelectCut, CutsSelect, CutsUnder, Merges, Uncovers, Rewritten, IsNarrow, IsWideOn, left_cut, right_cut, outcome}

-- ---- what is made of a plan

pub applies : (R : Rewriting) (p : Plan) (made : Result (Option Plan) NoMemory) → IfOk made (Rewritten R p) → Matches R p → IfOk (outcome p made) (λ q. R p q)
applies R p (Ok (Some q)) h m = h
applies R p (Ok None) h m = absurd (h m)
applies R p (Err e) h m = tt

pub refines : (R : Rewriting) → ((x y : Plan) → Fit x → R x y → Replaces y x) → (p : Plan) (made : Result (Option Plan) NoMemory) → IfOk made (Rewritten R p) → Matches R p → Fit p → IfOk (outcome p made) (λ q. Replaces q p)
refines R sound p (Ok (Some q)) h m fit = sound p q fit h
refines R sound p (Ok None) h m fit = absurd (h m)
refines R sound p (Err e) h m fit = tt

-- ---- operators are known by their parts

same_Result : (vars ws : List Var) (x y : Plan) → P.Result vars x ≡ P.Result ws y → (vars ≡ ws) × (x ≡ y)
same_Result vars ws x y e = let h : L.Result vars x ≡ L.Result ws y = sym (out-Result vars x) ∙ ap out-Plan e ∙ out-Result ws y in (cc, cc)

same_Project : (vars ws : List Var) (x y : Plan) → P.Project vars x ≡ P.Project ws y → (vars ≡ ws) × (x ≡ y)
same_Project vars ws x y e = let h : L.Project vars x ≡ L.Project ws y = sym (out-Project vars x) ∙ ap out-Plan e ∙ out-Project ws y in (cc, cc)

same_Select : (c d : Expr) (x y : Plan) → P.Select c x ≡ P.Select d y → (c ≡ d) × (x ≡ y)
same_Select c d x y e = let h : L.Select c x ≡ L.Select d y = sym (out-Select c x) ∙ ap out-Plan e ∙ out-Select d y in (cc, cc)

-- ---- results

pub other_result : (p : Plan) → ((vars : List Var) (x : Plan) → p ≡ P.Result vars x → ⊥) → IsNot rule.ResultProject p
other_result p never (q, (vars, x, at, is_wide, to)) = never vars x at

pub narrow_result : (p : Plan) (vars : List Var) (x : Plan) → p ≡ P.Result vars x → wide vars x ≡ false → IsNot rule.ResultProject p
narrow_result p vars x is thin (q, (ws, y, at, is_wide, to)) =
    let s = same_Result ws vars y x (sym at ∙ is) in
    no (sym is_wide ∙ (λ i. wide (s.0 i) (s.1 i)) ∙ thin)

pub yes_result : (p : Plan) (vars : List Var) (x : Plan) → p ≡ P.Result vars x → IsWide vars x → Matches rule.ResultProject p
yes_result p vars x is is_wide = (P.Result vars (narrowed vars x), (vars, x, is, is_wide, refl))

-- ---- projects over selects

pub none_select : (p : Plan) → IsNoProject p → IsNot rule.ProjectBelowSelect p
none_select p never (q, (vars, e, x, at, is_wide, to)) = never vars (P.Select e x) at

pub other_select : (p : Plan) (vars : List Var) (x : Plan) → p ≡ P.Project vars x → ((e : Expr) (y : Plan) → x ≡ P.Select e y → ⊥) → IsNot rule.ProjectBelowSelect p
other_select p vars x is never (q, (ws, e, y, at, is_wide, to)) = never e y (sym (same_Project ws vars (P.Select e y) x (sym at ∙ is)).1)

pub narrow_select : (p : Plan) (vars : List Var) (x : Plan) (e : Expr) (y : Plan) → p ≡ P.Project vars x → x ≡ P.Select e y → wide (vars ++ read_by e) y ≡ false → IsNot rule.ProjectBelowSelect p
narrow_select p vars x e y is has thin (q, (ws, d, z, at, is_wide, to)) =
    let s = same_Project ws vars (P.Select d z) x (sym at ∙ is) in
    let t = same_Select d e z y (s.1 ∙ has) in
    no (sym is_wide ∙ (λ i. wide (s.0 i ++ read_by (t.0 i)) (t.1 i)) ∙ thin)

pub yes_select : (p : Plan) (vars : List Var) (e : Expr) (x : Plan) → p ≡ P.Project vars (P.Select e x) → IsWide (vars ++ read_by e) x → Matches rule.ProjectBelowSelect p
yes_select p vars e x is is_wide = (P.Project vars (P.Select e (narrowed (vars ++ read_by e) x)), (vars, e, x, is, is_wide, refl))

-- ---- projects over projects

pub none_project : (p : Plan) → IsNoProject p → IsNot rule.ProjectOverProject p
none_project p never (q, (vars, inner, x, at, to)) = never vars (P.Project inner x) at

pub other_project : (p : Plan) (vars : List Var) (x : Plan) → p ≡ P.Project vars x → IsNoProject x → IsNot rule.ProjectOverProject p
other_project p vars x is never (q, (ws, inner, y, at, to)) = never inner y (sym (same_Project ws vars (P.Project inner y) x (sym at ∙ is)).1)

pub yes_project : (p : Plan) (vars inner : List Var) (x : Plan) → p ≡ P.Project vars (P.Project inner x) → Matches rule.ProjectOverProject p
yes_project p vars inner x is = (P.Project vars x, (vars, inner, x, is, refl))

-- ---- projects of all variables

all_of_in : (xs vars : List Var) → all_among vars xs ≡ true → (q : Bytes) → is_among xs q ≡ true → is_among vars q ≡ true
all_of_in [] vars h q e = absurd (no (sym e))
all_of_in (x ∷ xs) vars h q e = by_cases (pointwise nat_eq x.name q)
    (λ d. ap (is_among vars) (sym (same_text x.name q (sym d))) ∙ left (is_among vars x.name) (all_among vars xs) h)
    (λ d. all_of_in xs vars (right (is_among vars x.name) (all_among vars xs) h) q (sym (ap (λ b. b || is_among xs q) d) ∙ e))
  where
    left : (a b : Bool) → (a && b) ≡ true → a ≡ true
    left true b h = refl
    left false b h = h

    right : (a b : Bool) → (a && b) ≡ true → b ≡ true
    right true b h = h
    right false b h = absurd (no (sym h))

in_all_of : (xs vars : List Var) → ((q : Bytes) → is_among xs q ≡ true → is_among vars q ≡ true) → all_among vars xs ≡ true
in_all_of [] vars h = refl
in_all_of (x ∷ xs) vars h = (λ i. h x.name (at_head x xs) i && all_among vars xs) ∙ in_all_of xs vars (λ q e. h q (in_right (x ∷ []) xs q e))

two_ways : (xs ys : List Var) (q : Bytes) → (is_among xs q ≡ true → is_among ys q ≡ true) → (is_among ys q ≡ true → is_among xs q ≡ true) → is_among xs q ≡ is_among ys q
two_ways xs ys q f g = by_cases (is_among xs q) (λ e. e ∙ sym (f e)) (λ e. by_cases (is_among ys q) (λ d. absurd (no (sym (g d) ∙ e))) (λ d. e ∙ sym d))

not_true : (b : Bool) → not b ≡ false → b ≡ true
not_true true h = refl
not_true false h = sym h

pub decides_same : (vars : List Var) (p : Plan) (a b : Bool) → a ≡ all_among (live p []) vars → b ≡ wide vars p → Decides (a && not b) (HaveSame vars (live p []))
decides_same vars p true false e f = λ q. two_ways vars (live p []) q (all_of_in vars (live p []) (sym e) q) (all_of_in (live p []) vars (not_true (all_among vars (live p [])) (sym f)) q)
decides_same vars p true true e f = λ h. no (f ∙ ap not (in_all_of (live p []) vars (λ q d. h q ∙ d)))
decides_same vars p false b e f = λ h. no (sym (e ∙ in_all_of vars (live p []) (λ q d. sym (h q) ∙ d)))

pub none_all : (p : Plan) → IsNoProject p → IsNot rule.ProjectAll p
none_all p never (q, (vars, x, at, same, to)) = never vars x at

pub others_all : (p : Plan) (vars : List Var) (x : Plan) → p ≡ P.Project vars x → (HaveSame vars (live x []) → ⊥) → IsNot rule.ProjectAll p
others_all p vars x is never (q, (ws, y, at, same, to)) =
    let s = same_Project ws vars y x (sym at ∙ is) in
    never (subst (λ (us : List Var). HaveSame us (live x [])) s.0 (subst (λ (z : Plan). HaveSame ws (live z [])) s.1 same))

pub yes_all : (p : Plan) (vars : List Var) (x : Plan) → p ≡ P.Project vars x → HaveSame vars (live x []) → Matches rule.ProjectAll p
yes_all p vars x is same = (x, (vars, x, is, same, refl))

-- ---- projects over assigns

same_Assign : (m n : List (Var × Expr)) (x y : Plan) → P.Assign m x ≡ P.Assign n y → (m ≡ n) × (x ≡ y)
same_Assign m n x y e = let h : L.Assign m x ≡ L.Assign n y = sym (out-Assign m x) ∙ ap out-Plan e ∙ out-Assign n y in (cc, cc)

pub none_assign : (p : Plan) → IsNoProject p → IsNot rule.AssignUnderProject p
none_assign p never (q, (vars, made, x, at, some, to)) = never vars (P.Assign made x) at

pub other_assign : (p : Plan) (vars : List Var) (x : Plan) → p ≡ P.Project vars x → ((made : List (Var × Expr)) (y : Plan) → x ≡ P.Assign made y → ⊥) → IsNot rule.AssignUnderProject p
other_assign p vars x is never (q, (ws, made, y, at, some, to)) = never made y (sym (same_Project ws vars (P.Assign made y) x (sym at ∙ is)).1)

pub all_assign : (p : Plan) (vars : List Var) (x : Plan) (made : List (Var × Expr)) (y : Plan) → p ≡ P.Project vars x → x ≡ P.Assign made y → all_among vars (map (λ m. m.0) made) ≡ true → IsNot rule.AssignUnderProject p
all_assign p vars x made y is has all (q, (ws, more, z, at, some, to)) =
    let s = same_Project ws vars (P.Assign more z) x (sym at ∙ is) in
    let t = same_Assign more made z y (s.1 ∙ has) in
    no (sym all ∙ (λ i. all_among (sym s.0 i) (map (λ m. m.0) (sym t.0 i))) ∙ some)

pub yes_assign : (p : Plan) (vars : List Var) (made : List (Var × Expr)) (x : Plan) → p ≡ P.Project vars (P.Assign made x) → all_among vars (map (λ m. m.0) made) ≡ false → Matches rule.AssignUnderProject p
yes_assign p vars made x is some = (P.Project vars (assigned_over (bindings vars made) x), (vars, made, x, is, some, refl))

pub assigned_none : (made : List (Var × Expr)) (p : Plan) → made ≡ [] → p ≡ assigned_over made p
assigned_none made p e = ap (λ ms. assigned_over ms p) (sym e)

pub assigned_some : (made : List (Var × Expr)) (p : Plan) → (made ≡ [] → ⊥) → P.Assign made p ≡ assigned_over made p
assigned_some [] p h = absurd (h refl)
assigned_some (m ∷ made) p h = refl

-- ---- projects over orders

same_Order : (c d : List OrderKey) (x y : Plan) → P.Order c x ≡ P.Order d y → (c ≡ d) × (x ≡ y)
same_Order c d x y e = let h : L.Order c x ≡ L.Order d y = sym (out-Order c x) ∙ ap out-Plan e ∙ out-Order d y in (cc, cc)

pub none_order : (p : Plan) → IsNoProject p → IsNot rule.ProjectBelowOrder p
none_order p never (q, (vars, keys, x, at, is_wide, to)) = never vars (P.Order keys x) at

pub other_order : (p : Plan) (vars : List Var) (x : Plan) → p ≡ P.Project vars x → ((keys : List OrderKey) (y : Plan) → x ≡ P.Order keys y → ⊥) → IsNot rule.ProjectBelowOrder p
other_order p vars x is never (q, (ws, keys, y, at, is_wide, to)) = never keys y (sym (same_Project ws vars (P.Order keys y) x (sym at ∙ is)).1)

pub narrow_order : (p : Plan) (vars : List Var) (x : Plan) (keys : List OrderKey) (y : Plan) → p ≡ P.Project vars x → x ≡ P.Order keys y → wide (vars ++ map (λ k. k.var) keys) y ≡ false → IsNot rule.ProjectBelowOrder p
narrow_order p vars x keys y is has thin (q, (ws, d, z, at, is_wide, to)) =
    let s = same_Project ws vars (P.Order d z) x (sym at ∙ is) in
    let t = same_Order d keys z y (s.1 ∙ has) in
    no (sym is_wide ∙ (λ i. wide (s.0 i ++ map (λ k. k.var) (t.0 i)) (t.1 i)) ∙ thin)

pub yes_order : (p : Plan) (vars : List Var) (keys : List OrderKey) (x : Plan) → p ≡ P.Project vars (P.Order keys x) → IsWide (vars ++ map (λ k. k.var) keys) x → Matches rule.ProjectBelowOrder p
yes_order p vars keys x is is_wide = (P.Project vars (P.Order keys (narrowed (vars ++ map (λ k. k.var) keys) x)), (vars, keys, x, is, is_wide, refl))

-- ---- aggregates

same_Aggregate : (c d : List (Var × AggCall)) (x y : Plan) → P.Aggregate c x ≡ P.Aggregate d y → (c ≡ d) × (x ≡ y)
same_Aggregate c d x y e = let h : L.Aggregate c x ≡ L.Aggregate d y = sym (out-Aggregate c x) ∙ ap out-Plan e ∙ out-Aggregate d y in (cc, cc)

pub other_aggregate : (p : Plan) → ((made : List (Var × AggCall)) (x : Plan) → p ≡ P.Aggregate made x → ⊥) → IsNot rule.AggregateProjectInput p
other_aggregate p never (q, (made, x, at, is_wide, to)) = never made x at

pub narrow_aggregate : (p : Plan) (made : List (Var × AggCall)) (x : Plan) → p ≡ P.Aggregate made x → wide (read_by_aggregates made) x ≡ false → IsNot rule.AggregateProjectInput p
narrow_aggregate p made x is thin (q, (ws, y, at, is_wide, to)) =
    let s = same_Aggregate ws made y x (sym at ∙ is) in
    no (sym is_wide ∙ (λ i. wide (read_by_aggregates (s.0 i)) (s.1 i)) ∙ thin)

pub yes_aggregate : (p : Plan) (made : List (Var × AggCall)) (x : Plan) → p ≡ P.Aggregate made x → IsWide (read_by_aggregates made) x → Matches rule.AggregateProjectInput p
yes_aggregate p made x is is_wide = (P.Aggregate made (narrowed (read_by_aggregates made) x), (made, x, is, is_wide, refl))

-- ---- projects over joins

abbrev Parts : Bool → Expr → Plan → Plan → Bool → Expr → Plan → Plan → Type 0
Parts t c l r u d m s = (t ≡ u) × (c ≡ d) × (l ≡ m) × (r ≡ s)

same_joined : (t u : Bool) (c d : Expr) (l m r s : Plan) → joined t c l r ≡ joined u d m s → Parts t c l r u d m s
same_joined true true c d l m r s e = let h : L.LeftJoin c l r ≡ L.LeftJoin d m s = sym (out-LeftJoin c l r) ∙ ap out-Plan e ∙ out-LeftJoin d m s in (refl, cc, cc, cc)
same_joined true false c d l m r s e = let h : L.LeftJoin c l r ≡ L.Join d m s = sym (out-LeftJoin c l r) ∙ ap out-Plan e ∙ out-Join d m s in absurd cc
same_joined false true c d l m r s e = let h : L.Join c l r ≡ L.LeftJoin d m s = sym (out-Join c l r) ∙ ap out-Plan e ∙ out-LeftJoin d m s in absurd cc
same_joined false false c d l m r s e = let h : L.Join c l r ≡ L.Join d m s = sym (out-Join c l r) ∙ ap out-Plan e ∙ out-Join d m s in (refl, cc, cc, cc)

pub none_joined : (p : Plan) → ((c : Expr) (l r : Plan) → p ≡ P.Join c l r → ⊥) → ((c : Expr) (l r : Plan) → p ≡ P.LeftJoin c l r → ⊥) → IsNoJoined p
none_joined p f g true c l r e = g c l r e
none_joined p f g false c l r e = f c l r e

pub none_join : (p : Plan) → IsNoProject p → IsNot rule.ProjectBelowJoin p
none_join p never (q, (vars, left, c, l, r, x, y, at, cut, to)) = never vars (joined left c l r) at

pub other_join : (p : Plan) (vars : List Var) (x : Plan) → p ≡ P.Project vars x → IsNoJoined x → IsNot rule.ProjectBelowJoin p
other_join p vars x is never (q, (ws, left, c, l, r, y, z, at, cut, to)) = never left c l r (sym (same_Project ws vars (joined left c l r) x (sym at ∙ is)).1)

cuts_wide : (vars : List Var) (l r x y : Plan) → CutsInput vars l r x y → IsNarrow vars l r → ⊥
cuts_wide vars l r x y (inl h) n = no (sym h.0 ∙ n.0)
cuts_wide vars l r x y (inr h) n = no (sym h.1 ∙ n.1)

pub narrow_join : (p : Plan) (vars : List Var) (x : Plan) (t : Bool) (c : Expr) (l r : Plan) → p ≡ P.Project vars x → x ≡ joined t c l r → IsNarrow (vars ++ read_by c) l r → IsNot rule.ProjectBelowJoin p
narrow_join p vars x t c l r is has thin (q, (ws, u, d, m, s, y, z, at, cut, to)) =
    let a = same_Project ws vars (joined u d m s) x (sym at ∙ is) in
    let b = same_joined u t d c m l s r (a.1 ∙ has) in
    cuts_wide (ws ++ read_by d) m s y z cut ((λ i. wide (a.0 i ++ read_by (b.1 i)) (b.2 i)) ∙ thin.0, (λ i. wide (a.0 i ++ read_by (b.1 i)) (b.3 i)) ∙ thin.1)

cuts_side : (on_left : Bool) (vars : List Var) (l r : Plan) → IsWideOn on_left vars l r → CutsInput vars l r (left_cut on_left vars l) (right_cut on_left vars r)
cuts_side true vars l r h = inl (h, refl, refl)
cuts_side false vars l r h = inr (h.0, h.1, refl, refl)

pub rewritten_join : (p : Plan) (vars : List Var) (t : Bool) (c : Expr) (l r : Plan) (on_left : Bool) (over : Plan) → p ≡ P.Project vars (joined t c l r) → IsWideOn on_left (vars ++ read_by c) l r
    → over ≡ joined t c (left_cut on_left (vars ++ read_by c) l) (right_cut on_left (vars ++ read_by c) r) → rule.ProjectBelowJoin p (P.Project vars over)
rewritten_join p vars t c l r on_left over is h e = (vars, t, c, l, r, left_cut on_left (vars ++ read_by c) l, right_cut on_left (vars ++ read_by c) r, is, cuts_side on_left (vars ++ read_by c) l r h, ap (P.Project vars) e)

pub yes_join : (p : Plan) (vars : List Var) (t : Bool) (c : Expr) (l r : Plan) (on_left : Bool) → p ≡ P.Project vars (joined t c l r) → IsWideOn on_left (vars ++ read_by c) l r → Matches rule.ProjectBelowJoin p
yes_join p vars t c l r on_left is h =
    let over = joined t c (left_cut on_left (vars ++ read_by c) l) (right_cut on_left (vars ++ read_by c) r) in
    (P.Project vars over, rewritten_join p vars t c l r on_left over is h refl)

-- ---- groups

abbrev Grouping : List (Var × Var) → Plan → Plan → List (Var × Var) → Plan → Plan → Type 0
Grouping keys n x others m y = (keys ≡ others) × (n ≡ m) × (x ≡ y)

same_Group : (keys others : List (Var × Var)) (n m x y : Plan) → P.Group keys n x ≡ P.Group others m y → Grouping keys n x others m y
same_Group keys others n m x y e = let h : L.Group keys n x ≡ L.Group others m y = sym (out-Group keys n x) ∙ ap out-Plan e ∙ out-Group others m y in (cc, cc, cc)

pub other_group : (p : Plan) → ((keys : List (Var × Var)) (n x : Plan) → p ≡ P.Group keys n x → ⊥) → IsNot rule.GroupProjectInput p
other_group p never (q, (keys, n, x, at, is_wide, to)) = never keys n x at

uses_group : (keys : List (Var × Var)) (n x : Plan) (p : Plan) → p ≡ P.Group keys n x → Matches rule.GroupProjectInput p → IsWide (map (λ k. k.1) keys ++ used_by n x) x
uses_group keys n x p is (q, (others, m, y, at, is_wide, to)) =
    let s = same_Group others keys m n y x (sym at ∙ is) in
    (λ i. wide (map (λ k. k.1) (sym s.0 i) ++ used_by (sym s.1 i) (sym s.2 i)) (sym s.2 i)) ∙ is_wide

pub distinct_group : (p : Plan) (keys : List (Var × Var)) (n x : Plan) → p ≡ P.Group keys n x → has_distinct n ≡ true → IsNot rule.GroupProjectInput p
distinct_group p keys n x is d m = no (sym d ∙ (uses_less keys n x (uses_group keys n x p is m)).0)

pub narrow_group : (p : Plan) (keys : List (Var × Var)) (n x : Plan) → p ≡ P.Group keys n x → wide (map (λ k. k.1) keys ++ map named (reads n)) x ≡ false → IsNot rule.GroupProjectInput p
narrow_group p keys n x is thin m =
    let h = uses_group keys n x p is m in
    no (sym h ∙ ap (λ vs. wide (map (λ k. k.1) keys ++ vs) x) (uses_less keys n x h).1 ∙ thin)

plain_uses : (n x : Plan) → has_distinct n ≡ false → used_by n x ≡ map named (reads n)
plain_uses n x e = ap (λ b. if b then live x [] else map named (reads n)) e

pub rewritten_group : (p : Plan) (keys : List (Var × Var)) (n x : Plan) → p ≡ P.Group keys n x → has_distinct n ≡ false → IsWide (map (λ k. k.1) keys ++ map named (reads n)) x
    → rule.GroupProjectInput p (P.Group keys n (narrowed (map (λ k. k.1) keys ++ map named (reads n)) x))
rewritten_group p keys n x is d h =
    let same = plain_uses n x d in
    (keys, n, x, is, ap (λ vs. wide (map (λ k. k.1) keys ++ vs) x) same ∙ h, ap (λ vs. P.Group keys n (narrowed (map (λ k. k.1) keys ++ vs) x)) (sym same))

pub yes_group : (p : Plan) (keys : List (Var × Var)) (n x : Plan) → p ≡ P.Group keys n x → has_distinct n ≡ false → IsWide (map (λ k. k.1) keys ++ map named (reads n)) x → Matches rule.GroupProjectInput p
yes_group p keys n x is d h = (P.Group keys n (narrowed (map (λ k. k.1) keys ++ map named (reads n)) x), rewritten_group p keys n x is d h)

-- ---- what is moved, not copied

pub bare_input : (p : Plan) (vars : List Var) (x q : Plan) → p ≡ P.Project vars x → q ≡ x → Uncovers p q
bare_input p vars x q is same ws y at = same ∙ (same_Project vars ws x y (sym is ∙ at)).1

pub not_covered : (p q : Plan) → IsNoProject p → Uncovers p q
not_covered p q never vars x at = absurd (never vars x at)

pub merges_bare : (p : Plan) (vars : List Var) (over under : Plan) → p ≡ P.Project vars over → Uncovers over under → Merges p (P.Project vars under)
merges_bare p vars over under is bare ws inner x at =
    let s = same_Project vars ws over (P.Project inner x) (sym is ∙ at) in
    (λ i. P.Project (s.0 i) (bare inner x s.1 i))

pub not_merged : (p q : Plan) → IsNoProject p → Merges p q
not_merged p q never vars inner x at = absurd (never vars (P.Project inner x) at)

pub applied_project : (p q : Plan) → Merges p q → Matches rule.ProjectOverProject p → rule.ProjectOverProject p q
applied_project p q h (z, (vars, inner, x, at, to)) = (vars, inner, x, at, h vars inner x at)

pub applied_all : (p q : Plan) → Uncovers p q → Matches rule.ProjectAll p → rule.ProjectAll p q
applied_all p q h (z, (vars, x, at, same, to)) = (vars, x, at, same, h vars x at)

pub is_cut : (p : Plan) (vars some : List Var) (e : Expr) (x : Plan) → p ≡ P.Project vars (P.Select e x) → IsWide (vars ++ read_by e) x → some ≡ rule.kept (vars ++ read_by e) x → IsSelectCut p some
is_cut p vars some e x is is_wide kept = (vars, e, x, is, is_wide, kept)

pub cuts_select : (p : Plan) (some : List Var) (e : Expr) (x inner q : Plan) → p ≡ P.Select e x → inner ≡ P.Project some x → q ≡ P.Select e inner → CutsSelect some p q
cuts_select p some e x inner q is below above d y at =
    let s = same_Select e d x y (sym is ∙ at) in
    above ∙ (λ i. P.Select e (below i)) ∙ (λ i. P.Select (s.0 i) (P.Project some (s.1 i)))

pub cuts_under : (p : Plan) (vars some : List Var) (over under : Plan) → p ≡ P.Project vars over → CutsSelect some over under → CutsUnder some p (P.Project vars under)
cuts_under p vars some over under is cuts ws e x at =
    let s = same_Project vars ws over (P.Select e x) (sym is ∙ at) in
    (λ i. P.Project (s.0 i) (cuts e x s.1 i))

pub applied_cut : (p q : Plan) (some : List Var) → IsSelectCut p some → CutsUnder some p q → rule.ProjectBelowSelect p q
applied_cut p q some (vars, e, x, at, is_wide, to) cuts = (vars, e, x, at, is_wide, cuts vars e x at ∙ ap (λ (us : List Var). P.Project vars (P.Select e (P.Project us x))) to)

pub replaces_by : (R : Rewriting) → ((p q : Plan) → Fit p → R p q → Replaces q p) → (p : Plan) (result : Result Plan ApplyFault) → (Matches R p → IfOk result (λ q. R p q)) → Matches R p → Fit p → IfOk result (λ q. Replaces q p)
replaces_by R sound p (Ok q) h m fit = sound p q fit (h m)
replaces_by R sound p (Err e) h m fit = h m
