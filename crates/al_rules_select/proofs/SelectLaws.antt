-- Which plans the rules of selects rewrite, and that what they make is that.
use Rattle.std.proofs.Common.{◌≡◌, ℕ, Bool, true, false, List, [], ◌∷◌, map, refl, ap, sym, subst, ◌∙◌, Some, Result, Ok, Err, IfOk}
use Rattle.al_plan.specs.declared.expr.Var.{Var}
use Rattle.al_plan.specs.declared.expr.Expr.{Expr}
use Rattle.al_plan.specs.declared.plan.Generator.{Generator}
use Rattle.al_plan.specs.declared.plan.OrderKey.{OrderKey}
use Rattle.al_plan.specs.declared.plan.Plan.{Plan, out-Plan}
use Rattle.al_plan.specs.declared.plan.Plan.TheVariants as P
use Rattle.al_plan.specs.declared.plan.Plan.TheOpen as L
use Rattle.al_plan.specs.Names.{names}
use Rattle.al_plan.specs.Allows.{live}
use Rattle.al_plan.specs.Refines.{Fit, AreAmong, Replaces}
use Rattle.al_rule.specs.declared.rule.ApplyFault.{ApplyFault}
use Rattle.al_rule.specs.Places.{Rewriting, input, with_input}
use Rattle.al_rule.specs.Rules.{Decides, Matches}
use Rattle.al_rule.specs.Reads.{ReadsNone}
use Rattle.al_rule.proofs.Operators.{out-Select, out-Assign, out-Unnest, out-Subplan, out-Join, out-LeftJoin}
use Rattle.al_rule.proofs.PlaceLaws.{Around, around, number, input_around, with_around, input_with, with_twice, assign, project, unnest, subplan, order, distinct, join_left, join_right, left_join_left}
use Rattle.al_rules_select.specs.Lowers.{IsNoSelect, Lowers}
use Rattle.al_rules_select.specs.Selects as rule

pub same_select : (c d : Expr) (x y : Plan) → P.Select c x ≡ P.Select d y → (c ≡ d) × (x ≡ y)
same_select c d x y e = let h : L.Select c x ≡ L.Select d y = sym (out-Select c x) ∙ ap out-Plan e ∙ out-Select d y in (cc, cc)

pub lowers_select : (i : ℕ) (p over q : Plan) (cond : Expr) → p ≡ P.Select cond over → ((x : Plan) → input over i ≡ Some x → q ≡ with_input over i (P.Select cond x)) → Lowers i p q
lowers_select i p over q cond is put e x y other there =
    let s = same_select cond e over x (sym is ∙ other) in
    let h : input over i ≡ Some y = ap (λ z. input z i) s.1 ∙ there in
    put y h ∙ (λ j. with_input (s.1 j) i (P.Select (s.0 j) y))

pub lowers_none : (i : ℕ) (p q : Plan) → ((e : Expr) (x : Plan) → p ≡ P.Select e x → ⊥) → Lowers i p q
lowers_none i p q never e x y is there = absurd (never e x is)

-- what is taken out of an operator and put back under a select
pub placed_below : (i : ℕ) (over operator rest part held spare whole x : Plan) (selected : Plan → Plan) → operator ≡ over → held ≡ part → input over i ≡ Some x
    → ((z : Plan) → input operator i ≡ Some z → (rest ≡ with_input operator i spare) × (part ≡ z))
    → ((z : Plan) → input rest i ≡ Some z → whole ≡ with_input rest i (selected held))
    → whole ≡ with_input over i (selected x)
placed_below i over operator rest part held spare whole x selected is kept here taken put =
    let there : input operator i ≡ Some x = ap (λ z. input z i) is ∙ here in
    let t = taken x there in
    let held_is : held ≡ x = kept ∙ t.1 in
    put spare (ap (λ z. input z i) t.0 ∙ input_with operator i x spare there)
    ∙ ap (λ z. with_input z i (selected held)) t.0
    ∙ with_twice operator i x spare (selected held) there
    ∙ (λ j. with_input (is j) i (selected (held_is j)))

pub decides_from : (b : Bool) (A B : Type 0) → (A → B) → (B → A) → Decides b A → Decides b B
decides_from true A B f g h = f h
decides_from false A B f g h = λ k. h (g k)

pub if_ok : (result : Result Plan ApplyFault) (A B : Plan → Type 0) → ((q : Plan) → A q → B q) → IfOk result A → IfOk result B
if_ok (Ok q) A B f h = f q h
if_ok (Err e) A B f h = h

-- what is put below an operator
put_below : (a : Around) (p q : Plan) (e : Expr) (y : Plan) → p ≡ P.Select e (around a y) → Lowers (number a) p q → q ≡ around a (P.Select e y)
put_below a p q e y is low = low e (around a y) y is (input_around a y) ∙ with_around a y (P.Select e y)

-- where applying gives the right side, what it gives may stand in the left side's place
pub refines_by : (R : Rewriting) → ((p q : Plan) → Fit p → R p q → Replaces q p) → (p : Plan) (result : Result Plan ApplyFault) → (Matches R p → IfOk result (λ q. R p q)) → Matches R p → Fit p → IfOk result (λ q. Replaces q p)
refines_by R sound p (Ok q) h m fit = sound p q fit (h m)
refines_by R sound p (Err e) h m fit = h m

same_assign : (m n : List (Var × Expr)) (x y : Plan) → P.Assign m x ≡ P.Assign n y → (m ≡ n) × (x ≡ y)
same_assign m n x y e = let h : L.Assign m x ≡ L.Assign n y = sym (out-Assign m x) ∙ ap out-Plan e ∙ out-Assign n y in (cc, cc)

pub none_assign : (p : Plan) → IsNoSelect p → Matches rule.SelectBelowAssign p → ⊥
none_assign p never (q, (e, made, y, at, r0, to)) = never e (P.Assign made y) at

pub other_assign : (p : Plan) (e : Expr) (x : Plan) → p ≡ P.Select e x → ((made : List (Var × Expr)) (y : Plan) → x ≡ P.Assign made y → ⊥) → Matches rule.SelectBelowAssign p → ⊥
other_assign p e x is never (q, (d, made, y, at, r0, to)) = never made y (same_select e d x (P.Assign made y) (sym is ∙ at)).1

pub yes_assign : (p : Plan) (e : Expr) (x : Plan) (made : List (Var × Expr)) (y : Plan) (b : Bool) → p ≡ P.Select e x → x ≡ P.Assign made y → Decides b (ReadsNone (map (λ m. m.0) made) e) → Decides b (Matches rule.SelectBelowAssign p)
yes_assign p e x made y b is has d = decides_from b (ReadsNone (map (λ m. m.0) made) e) (Matches rule.SelectBelowAssign p) (λ k. (P.Assign made (P.Select e y), (e, made, y, is ∙ ap (P.Select e) has, k, refl))) back d
  where
    back : Matches rule.SelectBelowAssign p → ReadsNone (map (λ m. m.0) made) e
    back (q, (d, n, z, at, k, to)) =
        let t = same_select d e (P.Assign n z) (P.Assign made y) (sym at ∙ is ∙ ap (P.Select e) has) in
        let u = same_assign n made z y t.1 in
        subst (λ (ns : List (Var × Expr)). ReadsNone (map (λ m. m.0) ns) e) u.0 (subst (λ (z : Expr). ReadsNone (map (λ m. m.0) n) z) t.0 k)

pub applied_assign : (p : Plan) (result : Result Plan ApplyFault) → IfOk result (Lowers 0 p) → Matches rule.SelectBelowAssign p → IfOk result (λ q. rule.SelectBelowAssign p q)
applied_assign p result h (q, (e, made, y, at, k, to)) = if_ok result (Lowers 0 p) (λ q. rule.SelectBelowAssign p q) (λ q low. (e, made, y, at, k, put_below (assign made) p q e y at low)) h

pub none_project : (p : Plan) → IsNoSelect p → Matches rule.SelectBelowProject p → ⊥
none_project p never (q, (e, vars, y, at, to)) = never e (P.Project vars y) at

pub other_project : (p : Plan) (e : Expr) (x : Plan) → p ≡ P.Select e x → ((vars : List Var) (y : Plan) → x ≡ P.Project vars y → ⊥) → Matches rule.SelectBelowProject p → ⊥
other_project p e x is never (q, (d, vars, y, at, to)) = never vars y (same_select e d x (P.Project vars y) (sym is ∙ at)).1

pub yes_project : (p : Plan) (e : Expr) (x : Plan) (vars : List Var) (y : Plan) → p ≡ P.Select e x → x ≡ P.Project vars y → Matches rule.SelectBelowProject p
yes_project p e x vars y is has = (P.Project vars (P.Select e y), (e, vars, y, is ∙ ap (P.Select e) has, refl))

pub applied_project : (p : Plan) (result : Result Plan ApplyFault) → IfOk result (Lowers 0 p) → Matches rule.SelectBelowProject p → IfOk result (λ q. rule.SelectBelowProject p q)
applied_project p result h (q, (e, vars, y, at, to)) = if_ok result (Lowers 0 p) (λ q. rule.SelectBelowProject p q) (λ q low. (e, vars, y, at, put_below (project vars) p q e y at low)) h

same_unnest : (v w : Var) (f g : Generator) (x y : Plan) → P.Unnest v f x ≡ P.Unnest w g y → (v ≡ w) × (f ≡ g) × (x ≡ y)
same_unnest v w f g x y e = let h : L.Unnest v f x ≡ L.Unnest w g y = sym (out-Unnest v f x) ∙ ap out-Plan e ∙ out-Unnest w g y in (cc, cc, cc)

pub none_unnest : (p : Plan) → IsNoSelect p → Matches rule.SelectBelowUnnest p → ⊥
none_unnest p never (q, (e, v, g, y, at, r0, to)) = never e (P.Unnest v g y) at

pub other_unnest : (p : Plan) (e : Expr) (x : Plan) → p ≡ P.Select e x → ((v : Var) (g : Generator) (y : Plan) → x ≡ P.Unnest v g y → ⊥) → Matches rule.SelectBelowUnnest p → ⊥
other_unnest p e x is never (q, (d, v, g, y, at, r0, to)) = never v g y (same_select e d x (P.Unnest v g y) (sym is ∙ at)).1

pub yes_unnest : (p : Plan) (e : Expr) (x : Plan) (v : Var) (g : Generator) (y : Plan) (b : Bool) → p ≡ P.Select e x → x ≡ P.Unnest v g y → Decides b (ReadsNone (v ∷ []) e) → Decides b (Matches rule.SelectBelowUnnest p)
yes_unnest p e x v g y b is has d = decides_from b (ReadsNone (v ∷ []) e) (Matches rule.SelectBelowUnnest p) (λ k. (P.Unnest v g (P.Select e y), (e, v, g, y, is ∙ ap (P.Select e) has, k, refl))) back d
  where
    back : Matches rule.SelectBelowUnnest p → ReadsNone (v ∷ []) e
    back (q, (d, w, h, z, at, k, to)) =
        let t = same_select d e (P.Unnest w h z) (P.Unnest v g y) (sym at ∙ is ∙ ap (P.Select e) has) in
        let u = same_unnest w v h g z y t.1 in
        subst (λ (ns : Var). ReadsNone (ns ∷ []) e) u.0 (subst (λ (z : Expr). ReadsNone (w ∷ []) z) t.0 k)

pub applied_unnest : (p : Plan) (result : Result Plan ApplyFault) → IfOk result (Lowers 0 p) → Matches rule.SelectBelowUnnest p → IfOk result (λ q. rule.SelectBelowUnnest p q)
applied_unnest p result h (q, (e, v, g, y, at, k, to)) = if_ok result (Lowers 0 p) (λ q. rule.SelectBelowUnnest p q) (λ q low. (e, v, g, y, at, k, put_below (unnest v g) p q e y at low)) h

same_subplan : (m n : Plan) (x y : Plan) → P.Subplan m x ≡ P.Subplan n y → (m ≡ n) × (x ≡ y)
same_subplan m n x y e = let h : L.Subplan m x ≡ L.Subplan n y = sym (out-Subplan m x) ∙ ap out-Plan e ∙ out-Subplan n y in (cc, cc)

pub none_subplan : (p : Plan) → IsNoSelect p → Matches rule.SelectBelowSubplan p → ⊥
none_subplan p never (q, (e, n, y, at, r0, to)) = never e (P.Subplan n y) at

pub other_subplan : (p : Plan) (e : Expr) (x : Plan) → p ≡ P.Select e x → ((n : Plan) (y : Plan) → x ≡ P.Subplan n y → ⊥) → Matches rule.SelectBelowSubplan p → ⊥
other_subplan p e x is never (q, (d, n, y, at, r0, to)) = never n y (same_select e d x (P.Subplan n y) (sym is ∙ at)).1

pub yes_subplan : (p : Plan) (e : Expr) (x : Plan) (n : Plan) (y : Plan) (b : Bool) → p ≡ P.Select e x → x ≡ P.Subplan n y → Decides b (ReadsNone (live n []) e) → Decides b (Matches rule.SelectBelowSubplan p)
yes_subplan p e x n y b is has d = decides_from b (ReadsNone (live n []) e) (Matches rule.SelectBelowSubplan p) (λ k. (P.Subplan n (P.Select e y), (e, n, y, is ∙ ap (P.Select e) has, k, refl))) back d
  where
    back : Matches rule.SelectBelowSubplan p → ReadsNone (live n []) e
    back (q, (d, m, z, at, k, to)) =
        let t = same_select d e (P.Subplan m z) (P.Subplan n y) (sym at ∙ is ∙ ap (P.Select e) has) in
        let u = same_subplan m n z y t.1 in
        subst (λ (ns : Plan). ReadsNone (live ns []) e) u.0 (subst (λ (z : Expr). ReadsNone (live m []) z) t.0 k)

pub applied_subplan : (p : Plan) (result : Result Plan ApplyFault) → IfOk result (Lowers 1 p) → Matches rule.SelectBelowSubplan p → IfOk result (λ q. rule.SelectBelowSubplan p q)
applied_subplan p result h (q, (e, n, y, at, k, to)) = if_ok result (Lowers 1 p) (λ q. rule.SelectBelowSubplan p q) (λ q low. (e, n, y, at, k, put_below (subplan n) p q e y at low)) h

pub none_order : (p : Plan) → IsNoSelect p → Matches rule.SelectBelowOrder p → ⊥
none_order p never (q, (e, keys, y, at, to)) = never e (P.Order keys y) at

pub other_order : (p : Plan) (e : Expr) (x : Plan) → p ≡ P.Select e x → ((keys : List OrderKey) (y : Plan) → x ≡ P.Order keys y → ⊥) → Matches rule.SelectBelowOrder p → ⊥
other_order p e x is never (q, (d, keys, y, at, to)) = never keys y (same_select e d x (P.Order keys y) (sym is ∙ at)).1

pub yes_order : (p : Plan) (e : Expr) (x : Plan) (keys : List OrderKey) (y : Plan) → p ≡ P.Select e x → x ≡ P.Order keys y → Matches rule.SelectBelowOrder p
yes_order p e x keys y is has = (P.Order keys (P.Select e y), (e, keys, y, is ∙ ap (P.Select e) has, refl))

pub applied_order : (p : Plan) (result : Result Plan ApplyFault) → IfOk result (Lowers 0 p) → Matches rule.SelectBelowOrder p → IfOk result (λ q. rule.SelectBelowOrder p q)
applied_order p result h (q, (e, keys, y, at, to)) = if_ok result (Lowers 0 p) (λ q. rule.SelectBelowOrder p q) (λ q low. (e, keys, y, at, put_below (order keys) p q e y at low)) h

pub none_distinct : (p : Plan) → IsNoSelect p → Matches rule.SelectBelowDistinct p → ⊥
none_distinct p never (q, (e, y, at, to)) = never e (P.Distinct y) at

pub other_distinct : (p : Plan) (e : Expr) (x : Plan) → p ≡ P.Select e x → ((y : Plan) → x ≡ P.Distinct y → ⊥) → Matches rule.SelectBelowDistinct p → ⊥
other_distinct p e x is never (q, (d, y, at, to)) = never y (same_select e d x (P.Distinct y) (sym is ∙ at)).1

pub yes_distinct : (p : Plan) (e : Expr) (x : Plan) (y : Plan) → p ≡ P.Select e x → x ≡ P.Distinct y → Matches rule.SelectBelowDistinct p
yes_distinct p e x y is has = (P.Distinct (P.Select e y), (e, y, is ∙ ap (P.Select e) has, refl))

pub applied_distinct : (p : Plan) (result : Result Plan ApplyFault) → IfOk result (Lowers 0 p) → Matches rule.SelectBelowDistinct p → IfOk result (λ q. rule.SelectBelowDistinct p q)
applied_distinct p result h (q, (e, y, at, to)) = if_ok result (Lowers 0 p) (λ q. rule.SelectBelowDistinct p q) (λ q low. (e, y, at, put_below distinct p q e y at low)) h

pub same_join : (c d : Expr) (l m r s : Plan) → P.Join c l r ≡ P.Join d m s → (c ≡ d) × (l ≡ m) × (r ≡ s)
same_join c d l m r s e = let h : L.Join c l r ≡ L.Join d m s = sym (out-Join c l r) ∙ ap out-Plan e ∙ out-Join d m s in (cc, cc, cc)

pub none_join_left : (p : Plan) → IsNoSelect p → Matches rule.SelectBelowJoinLeft p → ⊥
none_join_left p never (q, (e, c, y, r, at, r0, to)) = never e (P.Join c y r) at

pub other_join_left : (p : Plan) (e : Expr) (x : Plan) → p ≡ P.Select e x → ((c : Expr) (l r : Plan) → x ≡ P.Join c l r → ⊥) → Matches rule.SelectBelowJoinLeft p → ⊥
other_join_left p e x is never (q, (d, c, y, r, at, r0, to)) = never c y r (same_select e d x (P.Join c y r) (sym is ∙ at)).1

pub yes_join_left : (p : Plan) (e : Expr) (x : Plan) (c : Expr) (l r : Plan) (b : Bool) → p ≡ P.Select e x → x ≡ P.Join c l r → Decides b (AreAmong (live l []) (names e)) → Decides b (Matches rule.SelectBelowJoinLeft p)
yes_join_left p e x c l r b is has d = decides_from b (AreAmong (live l []) (names e)) (Matches rule.SelectBelowJoinLeft p) (λ k. (P.Join c (P.Select e l) r, (e, c, l, r, is ∙ ap (P.Select e) has, k, refl))) back d
  where
    back : Matches rule.SelectBelowJoinLeft p → AreAmong (live l []) (names e)
    back (q, (d, o, m, s, at, k, to)) =
        let t = same_select d e (P.Join o m s) (P.Join c l r) (sym at ∙ is ∙ ap (P.Select e) has) in
        let u = same_join o c m l s r t.1 in
        subst (λ (z : Plan). AreAmong (live z []) (names e)) u.1 (subst (λ (z : Expr). AreAmong (live m []) (names z)) t.0 k)

pub applied_join_left : (p : Plan) (result : Result Plan ApplyFault) → IfOk result (Lowers 0 p) → Matches rule.SelectBelowJoinLeft p → IfOk result (λ q. rule.SelectBelowJoinLeft p q)
applied_join_left p result h (q, (e, c, y, r, at, k, to)) = if_ok result (Lowers 0 p) (λ q. rule.SelectBelowJoinLeft p q) (λ q low. (e, c, y, r, at, k, put_below (join_left c r) p q e y at low)) h

pub none_join_right : (p : Plan) → IsNoSelect p → Matches rule.SelectBelowJoinRight p → ⊥
none_join_right p never (q, (e, c, l, y, at, r0, to)) = never e (P.Join c l y) at

pub other_join_right : (p : Plan) (e : Expr) (x : Plan) → p ≡ P.Select e x → ((c : Expr) (l r : Plan) → x ≡ P.Join c l r → ⊥) → Matches rule.SelectBelowJoinRight p → ⊥
other_join_right p e x is never (q, (d, c, l, y, at, r0, to)) = never c l y (same_select e d x (P.Join c l y) (sym is ∙ at)).1

pub yes_join_right : (p : Plan) (e : Expr) (x : Plan) (c : Expr) (l r : Plan) (b : Bool) → p ≡ P.Select e x → x ≡ P.Join c l r → Decides b (AreAmong (live r []) (names e)) → Decides b (Matches rule.SelectBelowJoinRight p)
yes_join_right p e x c l r b is has d = decides_from b (AreAmong (live r []) (names e)) (Matches rule.SelectBelowJoinRight p) (λ k. (P.Join c l (P.Select e r), (e, c, l, r, is ∙ ap (P.Select e) has, k, refl))) back d
  where
    back : Matches rule.SelectBelowJoinRight p → AreAmong (live r []) (names e)
    back (q, (d, o, m, s, at, k, to)) =
        let t = same_select d e (P.Join o m s) (P.Join c l r) (sym at ∙ is ∙ ap (P.Select e) has) in
        let u = same_join o c m l s r t.1 in
        subst (λ (z : Plan). AreAmong (live z []) (names e)) u.2 (subst (λ (z : Expr). AreAmong (live s []) (names z)) t.0 k)

pub applied_join_right : (p : Plan) (result : Result Plan ApplyFault) → IfOk result (Lowers 1 p) → Matches rule.SelectBelowJoinRight p → IfOk result (λ q. rule.SelectBelowJoinRight p q)
applied_join_right p result h (q, (e, c, l, y, at, k, to)) = if_ok result (Lowers 1 p) (λ q. rule.SelectBelowJoinRight p q) (λ q low. (e, c, l, y, at, k, put_below (join_right c l) p q e y at low)) h

pub same_left_join : (c d : Expr) (l m r s : Plan) → P.LeftJoin c l r ≡ P.LeftJoin d m s → (c ≡ d) × (l ≡ m) × (r ≡ s)
same_left_join c d l m r s e = let h : L.LeftJoin c l r ≡ L.LeftJoin d m s = sym (out-LeftJoin c l r) ∙ ap out-Plan e ∙ out-LeftJoin d m s in (cc, cc, cc)

pub none_left_join : (p : Plan) → IsNoSelect p → Matches rule.SelectBelowLeftJoin p → ⊥
none_left_join p never (q, (e, c, y, r, at, r0, to)) = never e (P.LeftJoin c y r) at

pub other_left_join : (p : Plan) (e : Expr) (x : Plan) → p ≡ P.Select e x → ((c : Expr) (l r : Plan) → x ≡ P.LeftJoin c l r → ⊥) → Matches rule.SelectBelowLeftJoin p → ⊥
other_left_join p e x is never (q, (d, c, y, r, at, r0, to)) = never c y r (same_select e d x (P.LeftJoin c y r) (sym is ∙ at)).1

pub yes_left_join : (p : Plan) (e : Expr) (x : Plan) (c : Expr) (l r : Plan) (b : Bool) → p ≡ P.Select e x → x ≡ P.LeftJoin c l r → Decides b (AreAmong (live l []) (names e)) → Decides b (Matches rule.SelectBelowLeftJoin p)
yes_left_join p e x c l r b is has d = decides_from b (AreAmong (live l []) (names e)) (Matches rule.SelectBelowLeftJoin p) (λ k. (P.LeftJoin c (P.Select e l) r, (e, c, l, r, is ∙ ap (P.Select e) has, k, refl))) back d
  where
    back : Matches rule.SelectBelowLeftJoin p → AreAmong (live l []) (names e)
    back (q, (d, o, m, s, at, k, to)) =
        let t = same_select d e (P.LeftJoin o m s) (P.LeftJoin c l r) (sym at ∙ is ∙ ap (P.Select e) has) in
        let u = same_left_join o c m l s r t.1 in
        subst (λ (z : Plan). AreAmong (live z []) (names e)) u.1 (subst (λ (z : Expr). AreAmong (live m []) (names z)) t.0 k)

pub applied_left_join : (p : Plan) (result : Result Plan ApplyFault) → IfOk result (Lowers 0 p) → Matches rule.SelectBelowLeftJoin p → IfOk result (λ q. rule.SelectBelowLeftJoin p q)
applied_left_join p result h (q, (e, c, y, r, at, k, to)) = if_ok result (Lowers 0 p) (λ q. rule.SelectBelowLeftJoin p q) (λ q low. (e, c, y, r, at, k, put_below (left_join_left c r) p q e y at low)) h
