-- The rules of joins rewrite a plan to one at most: a condition has one first conjunct with a property.
use Rattle.std.proofs.Common.{◌≡◌, inl, inr, zero, suc, Bool, true, false, ◌||◌, List, [], ◌∷◌, ◌++◌, refl, ap, sym, subst, ◌∙◌}
use Rattle.std.specs.List.{list_any}
use Rattle.al_plan.specs.declared.expr.Expr.{Expr}
use Rattle.al_plan.specs.declared.plan.Plan.{Plan}
use Rattle.al_plan.specs.declared.plan.Plan.TheVariants as P
use Rattle.al_conj.specs.Conj.{both, all_of, is_literal_true, Splits}
use Rattle.al_rules_join.specs.JoinRules.{is_of, reads_of, left_join_to_join, drop_true, join_cond_left, join_cond_right, left_join_cond_right}
use Rattle.al_rules_join.specs.JoinSet.{join_rules}
use Rattle.al_opt.specs.Determined.{GivesOne, Determined}
use Rattle.al_opt.proofs.Operands.{same3, same4, select_parts, join_parts, left_join_parts, join_or_left}

-- ---- the first conjunct with a property

neither : (a b : Bool) → (a || b) ≡ false → (a ≡ false) × (b ≡ false)
neither true b e = absurd cc
neither false b e = (refl, e)

-- a list taken apart at an item
record IsSame (xs us : List Expr) (a b : Expr) (ys vs : List Expr) : Type 0 where
  pub front : xs ≡ us
  pub item : a ≡ b
  pub behind : ys ≡ vs

first_item : (has : Expr → Bool) (xs us : List Expr) (a b : Expr) (ys vs : List Expr) → xs ++ a ∷ ys ≡ us ++ b ∷ vs → list_any has xs ≡ false → list_any has us ≡ false → has a ≡ true → has b ≡ true → IsSame xs us a b ys vs
first_item has [] [] a b ys vs e none nor on is = record { front = refl; item = cc; behind = cc }
first_item has [] (u ∷ us) a b ys vs e none nor on is =
    let same : a ≡ u = cc in
    let off = (neither (has u) (list_any has us) nor).0 in
    let there : has u ≡ true = sym (ap has same) ∙ on in
    absurd cc
first_item has (x ∷ xs) [] a b ys vs e none nor on is =
    let same : x ≡ b = cc in
    let off = (neither (has x) (list_any has xs) none).0 in
    let there : has x ≡ true = ap has same ∙ is in
    absurd cc
first_item has (x ∷ xs) (u ∷ us) a b ys vs e none nor on is =
    let same : x ≡ u = cc in
    let others : xs ++ a ∷ ys ≡ us ++ b ∷ vs = cc in
    lift same (first_item has xs us a b ys vs others (neither (has x) (list_any has xs) none).1 (neither (has u) (list_any has us) nor).1 on is)
  where
    lift : x ≡ u → IsSame xs us a b ys vs → IsSame (x ∷ xs) (u ∷ us) a b ys vs
    lift same h = record { front = ap (λ (z : Expr). z ∷ xs) same ∙ ap (λ (zs : List Expr). u ∷ zs) h.front; item = h.item; behind = h.behind }

one_split : (has : Expr → Bool) (c first other rest more : Expr) → Splits has c first rest → Splits has c other more → (first ≡ other) × (rest ≡ more)
one_split has c first other rest more (before, after, f, is) (front, behind, g, to) =
    let same = first_item has before front first other after behind (sym f.parts ∙ g.parts) f.none_before g.none_before f.has_it g.has_it in
    (same.item, is ∙ ap (λ (xs : List Expr). all_of (xs ++ after)) same.front ∙ ap (λ (xs : List Expr). all_of (front ++ xs)) same.behind ∙ sym to)

-- the same where the condition and what the property speaks of are the same
one_split_of : (has : Plan → Expr → Bool) (x y : Plan) (c d first other rest more : Expr) → x ≡ y → c ≡ d → Splits (has x) c first rest → Splits (has y) d other more → (first ≡ other) × (rest ≡ more)
one_split_of has x y c d first other rest more e h f g =
    one_split (has y) d first other rest more (subst (λ (z : Expr). Splits (has y) z first rest) h (subst (λ (z : Plan). Splits (has z) c first rest) e f)) g

-- ---- the rules

to_join : GivesOne left_join_to_join
to_join p q t (e, c, l, r, at, k, to) (d, f, m, s, here, j, is) =
    let whole = select_parts e d (P.LeftJoin c l r) (P.LeftJoin f m s) (sym at ∙ here) in
    let part = left_join_parts c f l m r s whole.1 in
    to ∙ same4 (λ a b x y. P.Join (both b a) x y) e d c f l m r s whole.0 part.0 part.1 part.2 ∙ sym is

no_more_true : (c d first other rest more : Expr) → c ≡ d → Splits is_literal_true c first rest → Splits is_literal_true d other more → rest ≡ more
no_more_true c d first other rest more e f g = (one_split is_literal_true d first other rest more (subst (λ (z : Expr). Splits is_literal_true z first rest) e f) g).1

true_dropped : GivesOne drop_true
true_dropped p q t (c, first, rest, l, r, long, f, inl (at, to)) (d, other, more, m, s, many, g, inl (here, is)) =
    let part = join_parts c d l m r s (sym at ∙ here) in
    to ∙ same3 P.Join rest more l m r s (no_more_true c d first other rest more part.0 f g) part.1 part.2 ∙ sym is
true_dropped p q t (c, first, rest, l, r, long, f, inl (at, to)) (d, other, more, m, s, many, g, inr (here, is)) = absurd (join_or_left c d l m r s (sym at ∙ here))
true_dropped p q t (c, first, rest, l, r, long, f, inr (at, to)) (d, other, more, m, s, many, g, inl (here, is)) = absurd (join_or_left d c m l s r (sym here ∙ at))
true_dropped p q t (c, first, rest, l, r, long, f, inr (at, to)) (d, other, more, m, s, many, g, inr (here, is)) =
    let part = left_join_parts c d l m r s (sym at ∙ here) in
    to ∙ same3 P.LeftJoin rest more l m r s (no_more_true c d first other rest more part.0 f g) part.1 part.2 ∙ sym is

cond_left : GivesOne join_cond_left
cond_left p q t (c, first, rest, l, r, at, f, to) (d, other, more, m, s, here, g, is) =
    let part = join_parts c d l m r s (sym at ∙ here) in
    let split = one_split_of is_of l m c d first other rest more part.1 part.0 f g in
    to ∙ same4 (λ a b x y. P.Join b (P.Select a x) y) first other rest more l m r s split.0 split.1 part.1 part.2 ∙ sym is

cond_right : GivesOne join_cond_right
cond_right p q t (c, first, rest, l, r, at, f, to) (d, other, more, m, s, here, g, is) =
    let part = join_parts c d l m r s (sym at ∙ here) in
    let split = one_split_of is_of r s c d first other rest more part.2 part.0 f g in
    to ∙ same4 (λ a b x y. P.Join b x (P.Select a y)) first other rest more l m r s split.0 split.1 part.1 part.2 ∙ sym is

left_cond_right : GivesOne left_join_cond_right
left_cond_right p q t (c, first, rest, l, r, at, f, to) (d, other, more, m, s, here, g, is) =
    let part = left_join_parts c d l m r s (sym at ∙ here) in
    let split = one_split_of reads_of r s c d first other rest more part.2 part.0 f g in
    to ∙ same4 (λ a b x y. P.LeftJoin b x (P.Select a y)) first other rest more l m r s split.0 split.1 part.1 part.2 ∙ sym is

pub each_join : Determined join_rules
each_join zero low = to_join
each_join (suc zero) low = true_dropped
each_join (suc (suc zero)) low = cond_left
each_join (suc (suc (suc zero))) low = cond_right
each_join (suc (suc (suc (suc k)))) low = left_cond_right
