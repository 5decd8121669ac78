-- When a rule matches, and what it makes then.
use Rattle.std.proofs.Common.{◌≡◌, ◌≤◌, inl, inr, Bool, true, false, ◌&&◌, List, [], ◌∷◌, ◌++◌, length, refl, ap, sym, subst, ◌∙◌, Option, Some, None, Result, Ok, Err, IfOk, MatchOption}
use Rattle.std.specs.Prelude.{◌||◌}
use Rattle.std.specs.List.{list_any}
use Rattle.std.proofs.lemmas.List.Folds.{list_any-append}
use Rattle.al_value.specs.declared.fault.NoMemory.{NoMemory}
use Rattle.al_plan.specs.declared.expr.Expr.{Expr}
use Rattle.al_plan.specs.declared.plan.Plan.{Plan, out-Plan}
use Rattle.al_plan.specs.declared.plan.Plan.TheVariants as P
use Rattle.al_plan.specs.declared.plan.Plan.TheOpen as L
use Rattle.al_plan.specs.Refines.{Fit, Replaces}
use Rattle.al_conj.specs.Conj.{both, conj, all_of, is_literal_true, Splits}
use Rattle.al_rule.specs.Places.{Rewriting}
use Rattle.al_rule.specs.Rules.{Matches, Decides}
use Rattle.al_rule.proofs.Operators.{out-Join, out-LeftJoin, out-Select}
use Rattle.al_rules_join.specs.JoinRules.{is_of, reads_of, compares, IsNoJoin, IsNoLeftJoin, IsNoSelectOverLeftJoin, Rewritten, IsNot, outcome, SaysTrue, left_join_to_join, drop_true, join_cond_left, join_cond_right, left_join_cond_right}

no : false ≡ true → ⊥
no e = cc

-- ---- the parts of a join are known by the join

pub same_Join : (c d : Expr) (l m r s : Plan) → P.Join c l r ≡ P.Join d m s → (c ≡ d) × (l ≡ m) × (r ≡ s)
same_Join c d l m r s e = let k : L.Join c l r ≡ L.Join d m s = sym (out-Join c l r) ∙ ap out-Plan e ∙ out-Join d m s in (cc, cc, cc)

pub same_LeftJoin : (c d : Expr) (l m r s : Plan) → P.LeftJoin c l r ≡ P.LeftJoin d m s → (c ≡ d) × (l ≡ m) × (r ≡ s)
same_LeftJoin c d l m r s e = let k : L.LeftJoin c l r ≡ L.LeftJoin d m s = sym (out-LeftJoin c l r) ∙ ap out-Plan e ∙ out-LeftJoin d m s in (cc, cc, cc)

pub same_Select : (c d : Expr) (p q : Plan) → P.Select c p ≡ P.Select d q → (c ≡ d) × (p ≡ q)
same_Select c d p q e = let k : L.Select c p ≡ L.Select d q = sym (out-Select c p) ∙ ap out-Plan e ∙ out-Select d q in (cc, cc)

pub join_or_left : (c d : Expr) (l m r s : Plan) → P.Join c l r ≡ P.LeftJoin d m s → ⊥
join_or_left c d l m r s e = let k : L.Join c l r ≡ L.LeftJoin d m s = sym (out-Join c l r) ∙ ap out-Plan e ∙ out-LeftJoin d m s in cc

-- ---- the first conjunct with a property

first_of : (has : Expr → Bool) (es : List Expr) → list_any has es ≡ true → (before : List Expr) × (first : Expr) × (after : List Expr) × (es ≡ before ++ first ∷ after) × (list_any has before ≡ false) × (has first ≡ true)
first_of has [] h = absurd (no h)
first_of has (e ∷ es) h = go (has e) refl h (first_of has es)
  where
    go : (b : Bool) → has e ≡ b → (b || list_any has es) ≡ true → (list_any has es ≡ true → (before : List Expr) × (first : Expr) × (after : List Expr) × (es ≡ before ++ first ∷ after) × (list_any has before ≡ false) × (has first ≡ true))
        → (before : List Expr) × (first : Expr) × (after : List Expr) × (e ∷ es ≡ before ++ first ∷ after) × (list_any has before ≡ false) × (has first ≡ true)
    go true at k more = ([], e, es, refl, refl, at)
    go false at k more =
        let (before, first, after, parts, none, it) = more k in
        (e ∷ before, first, after, ap (λ zs. e ∷ zs) parts, ap (λ b. b || list_any has before) at ∙ none, it)

or_true : (b : Bool) → (b || true) ≡ true
or_true true = refl
or_true false = refl

some_first : (has : Expr → Bool) (c first rest : Expr) → Splits has c first rest → list_any has (conj c) ≡ true
some_first has c first rest (before, after, is_first, same) =
    ap (list_any has) is_first.parts ∙ list_any-append has before (first ∷ after) ∙ ap (λ b. list_any has before || (b || list_any has after)) is_first.has_it ∙ or_true (list_any has before)

-- a claim that comes to a conjunct with the property
decide_by : (has : Expr → Bool) (c : Expr) (X : Type 0) → ((first rest : Expr) → Splits has c first rest → X) → (X → (first : Expr) × (rest : Expr) × Splits has c first rest) → (b : Bool) → b ≡ list_any has (conj c) → Decides b X
decide_by has c X make out true e =
    let (before, first, after, parts, none, it) = first_of has (conj c) (sym e) in
    make first (all_of (before ++ after)) (before, after, record { parts = parts; none_before = none; has_it = it }, refl)
decide_by has c X make out false e = λ x.
    let (first, rest, splits) = out x in
    no (e ∙ some_first has c first rest splits)

moved : (has given : Expr → Bool) (c d first rest : Expr) → has ≡ given → c ≡ d → Splits has c first rest → Splits given d first rest
moved has given c d first rest e f h = subst (λ (x : Expr). Splits given x first rest) f (subst (λ (x : Expr → Bool). Splits x c first rest) e h)

-- ---- the rules match

pub decides_join_cond_left : (p : Plan) (c : Expr) (l r : Plan) → p ≡ P.Join c l r → (b : Bool) → b ≡ list_any (is_of l) (conj c) → Decides b (Matches join_cond_left p)
decides_join_cond_left p c l r from = decide_by (is_of l) c (Matches join_cond_left p)
    (λ first rest splits. (P.Join rest (P.Select first l) r, (c, first, rest, l, r, from, splits, refl)))
    (λ m. let (q, (d, first, rest, x, y, is, splits, to)) = m in let e = same_Join d c x l y r (sym is ∙ from) in (first, rest, moved (is_of x) (is_of l) d c first rest (ap is_of e.1) e.0 splits))

pub decides_join_cond_right : (p : Plan) (c : Expr) (l r : Plan) → p ≡ P.Join c l r → (b : Bool) → b ≡ list_any (is_of r) (conj c) → Decides b (Matches join_cond_right p)
decides_join_cond_right p c l r from = decide_by (is_of r) c (Matches join_cond_right p)
    (λ first rest splits. (P.Join rest l (P.Select first r), (c, first, rest, l, r, from, splits, refl)))
    (λ m. let (q, (d, first, rest, x, y, is, splits, to)) = m in let e = same_Join d c x l y r (sym is ∙ from) in (first, rest, moved (is_of y) (is_of r) d c first rest (ap is_of e.2) e.0 splits))

pub decides_left_join_cond_right : (p : Plan) (c : Expr) (l r : Plan) → p ≡ P.LeftJoin c l r → (b : Bool) → b ≡ list_any (reads_of r) (conj c) → Decides b (Matches left_join_cond_right p)
decides_left_join_cond_right p c l r from = decide_by (reads_of r) c (Matches left_join_cond_right p)
    (λ first rest splits. (P.LeftJoin rest l (P.Select first r), (c, first, rest, l, r, from, splits, refl)))
    (λ m. let (q, (d, first, rest, x, y, is, splits, to)) = m in let e = same_LeftJoin d c x l y r (sym is ∙ from) in (first, rest, moved (reads_of y) (reads_of r) d c first rest (ap reads_of e.2) e.0 splits))

pub decides_says_true : (c : Expr) (many : Bool) (b : Bool) → Decides many (2 ≤ length (conj c)) → b ≡ list_any is_literal_true (conj c) → Decides (many && b) (SaysTrue c)
decides_says_true c true b m e = decide_by is_literal_true c (SaysTrue c) (λ first rest splits. (first, rest, m, splits)) (λ x. (x.0, x.1, x.3)) b e
decides_says_true c false b m e = λ x. m x.2

join_says_true : (p : Plan) (c : Expr) (l r : Plan) → p ≡ P.Join c l r → Matches drop_true p → SaysTrue c
join_says_true p c l r from (q, (d, first, rest, x, y, many, splits, inl (is, to))) = let e = same_Join d c x l y r (sym is ∙ from) in (first, rest, subst (λ (z : Expr). 2 ≤ length (conj z)) e.0 many, subst (λ (z : Expr). Splits is_literal_true z first rest) e.0 splits)
join_says_true p c l r from (q, (d, first, rest, x, y, many, splits, inr (is, to))) = absurd (join_or_left c d l x r y (sym from ∙ is))

left_join_says_true : (p : Plan) (c : Expr) (l r : Plan) → p ≡ P.LeftJoin c l r → Matches drop_true p → SaysTrue c
left_join_says_true p c l r from (q, (d, first, rest, x, y, many, splits, inl (is, to))) = absurd (join_or_left d c x l y r (sym is ∙ from))
left_join_says_true p c l r from (q, (d, first, rest, x, y, many, splits, inr (is, to))) = let e = same_LeftJoin d c x l y r (sym is ∙ from) in (first, rest, subst (λ (z : Expr). 2 ≤ length (conj z)) e.0 many, subst (λ (z : Expr). Splits is_literal_true z first rest) e.0 splits)

pub drop_true_join : (p : Plan) (c first rest : Expr) (l r : Plan) → p ≡ P.Join c l r → 2 ≤ length (conj c) → Splits is_literal_true c first rest → drop_true p (P.Join rest l r)
drop_true_join p c first rest l r from many splits = (c, first, rest, l, r, many, splits, inl (from, refl))

pub drop_true_left_join : (p : Plan) (c first rest : Expr) (l r : Plan) → p ≡ P.LeftJoin c l r → 2 ≤ length (conj c) → Splits is_literal_true c first rest → drop_true p (P.LeftJoin rest l r)
drop_true_left_join p c first rest l r from many splits = (c, first, rest, l, r, many, splits, inr (from, refl))

follows : (X Y : Type 0) → (X → Y) → (Y → X) → (b : Bool) → Decides b X → Decides b Y
follows X Y f g true h = f h
follows X Y f g false h = λ y. h (g y)

pub decides_drop_true_join : (p : Plan) (c : Expr) (l r : Plan) → p ≡ P.Join c l r → (b : Bool) → Decides b (SaysTrue c) → Decides b (Matches drop_true p)
decides_drop_true_join p c l r from = follows (SaysTrue c) (Matches drop_true p) (λ x. (P.Join x.1 l r, drop_true_join p c x.0 x.1 l r from x.2 x.3)) (join_says_true p c l r from)

pub decides_drop_true_left_join : (p : Plan) (c : Expr) (l r : Plan) → p ≡ P.LeftJoin c l r → (b : Bool) → Decides b (SaysTrue c) → Decides b (Matches drop_true p)
decides_drop_true_left_join p c l r from = follows (SaysTrue c) (Matches drop_true p) (λ x. (P.LeftJoin x.1 l r, drop_true_left_join p c x.0 x.1 l r from x.2 x.3)) (left_join_says_true p c l r from)

pub no_drop_true : (p : Plan) → IsNoJoin p → IsNoLeftJoin p → Matches drop_true p → ⊥
no_drop_true p none out (q, (c, first, rest, l, r, many, splits, inl (is, to))) = none c l r is
no_drop_true p none out (q, (c, first, rest, l, r, many, splits, inr (is, to))) = out c l r is

pub no_join_cond_left : (p : Plan) → IsNoJoin p → Matches join_cond_left p → ⊥
no_join_cond_left p none (q, (c, first, rest, l, r, is, splits, to)) = none c l r is

pub no_join_cond_right : (p : Plan) → IsNoJoin p → Matches join_cond_right p → ⊥
no_join_cond_right p none (q, (c, first, rest, l, r, is, splits, to)) = none c l r is

pub no_left_join_cond_right : (p : Plan) → IsNoLeftJoin p → Matches left_join_cond_right p → ⊥
no_left_join_cond_right p none (q, (c, first, rest, l, r, is, splits, to)) = none c l r is

pub decides_left_join_to_join : (p : Plan) (e c : Expr) (l r : Plan) → p ≡ P.Select e (P.LeftJoin c l r) → (b : Bool) → b ≡ compares r e → Decides b (Matches left_join_to_join p)
decides_left_join_to_join p e c l r from true same = (P.Join (both c e) l r, (e, c, l, r, from, sym same, refl))
decides_left_join_to_join p e c l r from false same = λ m.
    let (q, (d, a, x, y, is, compared, to)) = m in
    let top = same_Select d e (P.LeftJoin a x y) (P.LeftJoin c l r) (sym is ∙ from) in
    let below = same_LeftJoin a c x l y r top.1 in
    no (same ∙ (λ i. compares (sym below.2 i) (sym top.0 i)) ∙ compared)

pub no_left_join_to_join : (p : Plan) → IsNoSelectOverLeftJoin p → Matches left_join_to_join p → ⊥
no_left_join_to_join p none (q, (e, c, l, r, is, compared, to)) = none e c l r is

pub other_left_join_to_join : (p : Plan) (e c : Expr) (l r : Plan) → p ≡ P.Select e (P.LeftJoin c l r) → compares r e ≡ false → IsNot left_join_to_join p
other_left_join_to_join p e c l r from h = decides_left_join_to_join p e c l r from false (sym h)

pub yes_left_join_to_join : (p : Plan) (e c : Expr) (l r : Plan) → p ≡ P.Select e (P.LeftJoin c l r) → compares r e ≡ true → Matches left_join_to_join p
yes_left_join_to_join p e c l r from h = decides_left_join_to_join p e c l r from true (sym h)

-- ---- where no conjunct has the property, and what is made where one has it

pub other_join_cond_left : (p : Plan) (c : Expr) (l r : Plan) → p ≡ P.Join c l r → list_any (is_of l) (conj c) ≡ false → IsNot join_cond_left p
other_join_cond_left p c l r from h = decides_join_cond_left p c l r from false (sym h)

pub makes_join_cond_left : (p q : Plan) (c first rest : Expr) (l r : Plan) → p ≡ P.Join c l r → Splits (is_of l) c first rest → q ≡ P.Join rest (P.Select first l) r → join_cond_left p q
makes_join_cond_left p q c first rest l r from splits to = (c, first, rest, l, r, from, splits, to)

pub ruleset join_cond_left_laws = (no_join_cond_left, decides_join_cond_left, other_join_cond_left, makes_join_cond_left)

pub other_join_cond_right : (p : Plan) (c : Expr) (l r : Plan) → p ≡ P.Join c l r → list_any (is_of r) (conj c) ≡ false → IsNot join_cond_right p
other_join_cond_right p c l r from h = decides_join_cond_right p c l r from false (sym h)

pub makes_join_cond_right : (p q : Plan) (c first rest : Expr) (l r : Plan) → p ≡ P.Join c l r → Splits (is_of r) c first rest → q ≡ P.Join rest l (P.Select first r) → join_cond_right p q
makes_join_cond_right p q c first rest l r from splits to = (c, first, rest, l, r, from, splits, to)

pub ruleset join_cond_right_laws = (no_join_cond_right, decides_join_cond_right, other_join_cond_right, makes_join_cond_right)

pub other_left_join_cond_right : (p : Plan) (c : Expr) (l r : Plan) → p ≡ P.LeftJoin c l r → list_any (reads_of r) (conj c) ≡ false → IsNot left_join_cond_right p
other_left_join_cond_right p c l r from h = decides_left_join_cond_right p c l r from false (sym h)

pub makes_left_join_cond_right : (p q : Plan) (c first rest : Expr) (l r : Plan) → p ≡ P.LeftJoin c l r → Splits (reads_of r) c first rest → q ≡ P.LeftJoin rest l (P.Select first r) → left_join_cond_right p q
makes_left_join_cond_right p q c first rest l r from splits to = (c, first, rest, l, r, from, splits, to)

pub ruleset left_join_cond_right_laws = (no_left_join_cond_right, decides_left_join_cond_right, other_left_join_cond_right, makes_left_join_cond_right)

pub other_drop_true_join : (p : Plan) (c : Expr) (l r : Plan) → p ≡ P.Join c l r → (SaysTrue c → ⊥) → IsNot drop_true p
other_drop_true_join p c l r from h = decides_drop_true_join p c l r from false h

pub other_drop_true_left_join : (p : Plan) (c : Expr) (l r : Plan) → p ≡ P.LeftJoin c l r → (SaysTrue c → ⊥) → IsNot drop_true p
other_drop_true_left_join p c l r from h = decides_drop_true_left_join p c l r from false h

pub ruleset drop_laws = (no_drop_true, decides_drop_true_join, decides_drop_true_left_join, other_drop_true_join, other_drop_true_left_join, drop_true_join, drop_true_left_join)

-- ---- what is made of a plan, or the plan itself

pub applies : (R : Rewriting) (p : Plan) (made : Result (Option Plan) NoMemory) → IfOk made (Rewritten R p) → Matches R p → IfOk (outcome p made) (λ q. R p q)
applies R p (Ok (Some q)) h m = h
applies R p (Ok None) h m = absurd (h m)
applies R p (Err e) h m = tt

pub refines : (R : Rewriting) → ((x y : Plan) → Fit x → R x y → Replaces y x) → (p : Plan) (made : Result (Option Plan) NoMemory) → IfOk made (Rewritten R p) → Matches R p → Fit p → IfOk (outcome p made) (λ q. Replaces q p)
refines R sound p (Ok (Some q)) h m fit = sound p q fit h
refines R sound p (Ok None) h m fit = absurd (h m)
refines R sound p (Err e) h m fit = tt

-- what is told of nothing
pub none_of : {T : Type 0} (o : Option T) (X : Type 0) (Y : T → Type 0) → o ≡ None → MatchOption o X Y → X
none_of o X Y e h = subst (λ (z : Option _). MatchOption z X Y) e h
