-- What falls where a rule is applied, at its place and in the whole plan.
use Rattle.std.specs.Prelude.{◌≡◌, ◌<◌, ◌≤◌, ◌+◌, ◌*◌, ℕ, zero, suc, Bool, true, false, not, List, [], ◌∷◌, filter, length}
use Rattle.std.specs.List.{list_any}
use Rattle.std.proofs.Common.{inl, inr, ap, sym, subst, refl, ◌∙◌}
use Rattle.al_func.specs.declared.func.Func.{Func}
use Rattle.al_func.specs.declared.func.Func.TheVariants as F
use Rattle.al_plan.specs.declared.expr.Expr.{Expr}
use Rattle.al_plan.specs.declared.expr.Expr.TheOpen.{Expr-F}
use Rattle.al_plan.specs.declared.expr.Expr.TheOpen as LE
use Rattle.al_plan.specs.declared.plan.Plan.{Plan, map-Plan, roll-Plan, fold-roll-Plan}
use Rattle.al_plan.specs.declared.plan.Plan.TheVariants as P
use Rattle.al_plan.specs.declared.plan.Plan.TheOpen as L
use Rattle.al_plan.specs.Refines.{Fit, Replaces}
use Rattle.al_plan.proofs.Bools.{no}
use Rattle.al_plan.proofs.UsesLaws.{names-Lit}
use Rattle.al_conj.specs.Conj.{IsLeaf, both, conj, is_literal_true}
use Rattle.al_conj.proofs.ConjLaws.{leaf_Call}
use Rattle.al_conj.proofs.Literals.{expr_cases, literal-Var, literal-Call}
use Rattle.al_conj.proofs.CountLaws.{is_other, others, counts_taken, counts_dropped, counts_both}
use Rattle.al_conj.proofs.Sums.{swap_one, swap_left, swap_right, swap_left_of, swap_right_of, less_up, same_up, weight_up, weight_traded, weight_fewer, weight_dropped, one_more, fewer_by}
use Rattle.al_rule.specs.Places.{Rewriting, Applied}
use Rattle.al_rule.specs.Rules.{IsLower, IsLawful}
use Rattle.al_rule.proofs.PlaceLaws.{Around, around, layer, rolls_around, assign, select, project, unnest, subplan, join_left, join_right, left_join_left, left_join_right, group, distinct, union_left, union_right, aggregate, order, limit, check, result, applied_goes_up}
use Rattle.al_rules_join.specs.JoinRules.{is_comparison, is_variable_of, compares, has_variable, reads_only, is_of, reads_of, left_join_to_join, drop_true, join_cond_left, join_cond_right, left_join_cond_right}
use Rattle.al_rules_join.specs.JoinSet.{join_rewrites, join_rules, joins_step, over_joins, one_if, left_joins, other_conjuncts, all_conjuncts, join_measure, join_weight}
use Rattle.al_rules_join.specs.PairLaws.{both_true}
use Rattle.al_rules_join.specs.Sound.{left_join_to_join_sound, drop_true_sound, join_cond_left_sound, join_cond_right_sound, left_join_cond_right_sound}
use Rattle.al_rules_join.specs.ConditionLaws.{compares-Var, compares-Lit, compares-Call}

-- ---- counts over joins

over-roll : (count : Bool → Expr → ℕ) (x : L.Plan-F Plan) → over_joins count (roll-Plan x) ≡ joins_step count (map-Plan Plan ℕ (over_joins count) x)
unfolding over_joins
over-roll count x = fold-roll-Plan ℕ (joins_step count) x

over-Join : (count : Bool → Expr → ℕ) (c : Expr) (l r : Plan) → over_joins count (P.Join c l r) ≡ count false c + (over_joins count l + over_joins count r)
over-Join count c l r = ap (over_joins count) (sym (P.rolls-Join c l r)) ∙ over-roll count (L.Join c l r)

over-LeftJoin : (count : Bool → Expr → ℕ) (c : Expr) (l r : Plan) → over_joins count (P.LeftJoin c l r) ≡ count true c + (over_joins count l + over_joins count r)
over-LeftJoin count c l r = ap (over_joins count) (sym (P.rolls-LeftJoin c l r)) ∙ over-roll count (L.LeftJoin c l r)

over-Select : (count : Bool → Expr → ℕ) (c : Expr) (p : Plan) → over_joins count (P.Select c p) ≡ over_joins count p
over-Select count c p = ap (over_joins count) (sym (P.rolls-Select c p)) ∙ over-roll count (L.Select c p)

over-around : (count : Bool → Expr → ℕ) (a : Around) (p : Plan) → over_joins count (around a p) ≡ joins_step count (map-Plan Plan ℕ (over_joins count) (layer a p))
over-around count a p = ap (over_joins count) (sym (rolls_around a p)) ∙ over-roll count (layer a p)

step_differs : (count : Bool → Expr → ℕ) (a : Around) (y x : Plan) → joins_step count (map-Plan Plan ℕ (over_joins count) (layer a y)) + over_joins count x ≡ joins_step count (map-Plan Plan ℕ (over_joins count) (layer a x)) + over_joins count y
step_differs count (assign made) y x = swap_one (over_joins count y) (over_joins count x)
step_differs count (select c) y x = swap_one (over_joins count y) (over_joins count x)
step_differs count (project vars) y x = swap_one (over_joins count y) (over_joins count x)
step_differs count (unnest v its) y x = swap_one (over_joins count y) (over_joins count x)
step_differs count (subplan n) y x = swap_one (over_joins count y) (over_joins count x)
step_differs count (join_left c r) y x = swap_left_of (count false c) (over_joins count y) (over_joins count x) (over_joins count r)
step_differs count (join_right c l) y x = swap_right_of (count false c) (over_joins count y) (over_joins count x) (over_joins count l)
step_differs count (left_join_left c r) y x = swap_left_of (count true c) (over_joins count y) (over_joins count x) (over_joins count r)
step_differs count (left_join_right c l) y x = swap_right_of (count true c) (over_joins count y) (over_joins count x) (over_joins count l)
step_differs count (group keys n) y x = swap_one (over_joins count y) (over_joins count x)
step_differs count distinct y x = swap_one (over_joins count y) (over_joins count x)
step_differs count (union_left made ls rs r) y x = swap_left (over_joins count y) (over_joins count x) (over_joins count r)
step_differs count (union_right made ls rs l) y x = swap_right (over_joins count y) (over_joins count x) (over_joins count l)
step_differs count (aggregate made) y x = swap_one (over_joins count y) (over_joins count x)
step_differs count (order keys) y x = swap_one (over_joins count y) (over_joins count x)
step_differs count (limit n k) y x = swap_one (over_joins count y) (over_joins count x)
step_differs count (check name c) y x = swap_one (over_joins count y) (over_joins count x)
step_differs count (result vars) y x = swap_one (over_joins count y) (over_joins count x)

-- a plan with another input differs as its inputs do
differs : (count : Bool → Expr → ℕ) (a : Around) (y x : Plan) → over_joins count (around a y) + over_joins count x ≡ over_joins count (around a x) + over_joins count y
differs count a y x = ap (λ n. n + over_joins count x) (over-around count a y) ∙ step_differs count a y x ∙ ap (λ n. n + over_joins count y) (sym (over-around count a x))

-- ---- what falls

abbrev pub Falls : Plan → Plan → Type 0
Falls q p = IsLower (join_measure q) (join_measure p) × (join_weight q < join_weight p)

falls_up : (a : Around) (y x : Plan) → Falls y x → Falls (around a y) (around a x)
falls_up a y x (lower, light) =
    let first = differs (λ left c. one_if left) a y x in
    let second = differs (λ left c. others (conj c)) a y x in
    let third = differs (λ left c. length (conj c)) a y x in (
      go first second third lower,
      weight_up (left_joins y) (left_joins x) (left_joins (around a y)) (left_joins (around a x)) (other_conjuncts y) (other_conjuncts x) (other_conjuncts (around a y)) (other_conjuncts (around a x))
          (all_conjuncts y) (all_conjuncts x) (all_conjuncts (around a y)) (all_conjuncts (around a x)) first second third light,
    )
  where
    go : left_joins (around a y) + left_joins x ≡ left_joins (around a x) + left_joins y → other_conjuncts (around a y) + other_conjuncts x ≡ other_conjuncts (around a x) + other_conjuncts y → all_conjuncts (around a y) + all_conjuncts x ≡ all_conjuncts (around a x) + all_conjuncts y
        → IsLower (join_measure y) (join_measure x) → IsLower (join_measure (around a y)) (join_measure (around a x))
    go f s t (inl low) = inl (less_up (left_joins y) (left_joins x) (left_joins (around a y)) (left_joins (around a x)) f low)
    go f s t (inr (same, inl low)) = inr (same_up (left_joins y) (left_joins x) (left_joins (around a y)) (left_joins (around a x)) f same, inl (less_up (other_conjuncts y) (other_conjuncts x) (other_conjuncts (around a y)) (other_conjuncts (around a x)) s low))
    go f s t (inr (same, inr (alike, inl low))) = inr (
      same_up (left_joins y) (left_joins x) (left_joins (around a y)) (left_joins (around a x)) f same,
      inr (same_up (other_conjuncts y) (other_conjuncts x) (other_conjuncts (around a y)) (other_conjuncts (around a x)) s alike, inl (less_up (all_conjuncts y) (all_conjuncts x) (all_conjuncts (around a y)) (all_conjuncts (around a x)) t low)),
    )
    go f s t (inr (same, inr (alike, inr (equal, nothing)))) = absurd nothing

-- a rule whose sides fall at their place falls at each
pub falls_at : (R : Rewriting) → ((p q : Plan) → R p q → Falls q p) → (place : List ℕ) (p q : Plan) → Fit p → Applied R place p q → Falls q p
falls_at R here place p q fit h = applied_goes_up R Falls (λ x y f r. here x y r) (λ a x y f k. falls_up a y x k) place p q fit h

-- ---- at its place

falls_by : (q p : Plan) (b a d c f e : ℕ) → left_joins q ≡ b → left_joins p ≡ a → other_conjuncts q ≡ d → other_conjuncts p ≡ c → all_conjuncts q ≡ f → all_conjuncts p ≡ e
    → IsLower (b ∷ d ∷ f ∷ []) (a ∷ c ∷ e ∷ []) → 3 * b + (d + f) < 3 * a + (c + e) → Falls q p
falls_by q p b a d c f e qa pa qb pb qc pc lower light = (
  subst (λ (T : Type 0). T) (λ i. IsLower (sym qa i ∷ sym qb i ∷ sym qc i ∷ []) (sym pa i ∷ sym pb i ∷ sym pc i ∷ [])) lower,
  subst (λ (T : Type 0). T) (λ i. 3 * sym qa i + (sym qb i + sym qc i) < 3 * sym pa i + (sym pb i + sym pc i)) light,
)

-- a count over a plan that is known
at_Join : (count : Bool → Expr → ℕ) (p : Plan) (c : Expr) (l r : Plan) → p ≡ P.Join c l r → over_joins count p ≡ count false c + (over_joins count l + over_joins count r)
at_Join count p c l r e = ap (over_joins count) e ∙ over-Join count c l r

at_LeftJoin : (count : Bool → Expr → ℕ) (p : Plan) (c : Expr) (l r : Plan) → p ≡ P.LeftJoin c l r → over_joins count p ≡ count true c + (over_joins count l + over_joins count r)
at_LeftJoin count p c l r e = ap (over_joins count) e ∙ over-LeftJoin count c l r

selected_left : (count : Bool → Expr → ℕ) (left : Bool) (c e : Expr) (l r : Plan) → count left c + (over_joins count (P.Select e l) + over_joins count r) ≡ count left c + (over_joins count l + over_joins count r)
selected_left count left c e l r = ap (λ n. count left c + (n + over_joins count r)) (over-Select count e l)

selected_right : (count : Bool → Expr → ℕ) (left : Bool) (c e : Expr) (l r : Plan) → count left c + (over_joins count l + over_joins count (P.Select e r)) ≡ count left c + (over_joins count l + over_joins count r)
selected_right count left c e l r = ap (λ n. count left c + (over_joins count l + n)) (over-Select count e r)

-- the three counts
abbrev lefts : Bool → Expr → ℕ
lefts left c = one_if left

abbrev other_ones : Bool → Expr → ℕ
other_ones left c = length (filter (λ e. not (is_literal_true e)) (conj c))

abbrev ones : Bool → Expr → ℕ
ones left c = length (conj c)

module _ (q p : Plan) (left : Bool) (c rest : Expr) (l r : Plan)
    (of_q : (count : Bool → Expr → ℕ) → over_joins count q ≡ count left rest + (over_joins count l + over_joins count r))
    (of_p : (count : Bool → Expr → ℕ) → over_joins count p ≡ count left c + (over_joins count l + over_joins count r)) where
  -- one conjunct other than the literal true less
  fewer_others : others (conj c) ≡ suc (others (conj rest)) → length (conj rest) ≤ length (conj c) → Falls q p
  fewer_others h g =
      let m = over_joins other_ones l + over_joins other_ones r in
      let n = over_joins ones l + over_joins ones r in
      falls_by q p (one_if left + (left_joins l + left_joins r)) (one_if left + (left_joins l + left_joins r)) (others (conj rest) + m) (others (conj c) + m) (length (conj rest) + n) (length (conj c) + n)
      (of_q lefts) (of_p lefts) (of_q other_ones) (of_p other_ones) (of_q ones) (of_p ones)
      (inr (refl, inl (fewer_by (others (conj rest)) (others (conj c)) m h)))
      (weight_fewer (one_if left + (left_joins l + left_joins r)) (others (conj rest)) (others (conj c)) (length (conj rest)) (length (conj c)) m n h g)

  -- one conjunct less, the literal true
  fewer_ones : others (conj rest) ≡ others (conj c) → length (conj c) ≡ suc (length (conj rest)) → Falls q p
  fewer_ones h g =
      let m = over_joins other_ones l + over_joins other_ones r in
      let n = over_joins ones l + over_joins ones r in
      falls_by q p (one_if left + (left_joins l + left_joins r)) (one_if left + (left_joins l + left_joins r)) (others (conj rest) + m) (others (conj c) + m) (length (conj rest) + n) (length (conj c) + n)
      (of_q lefts) (of_p lefts) (of_q other_ones) (of_p other_ones) (of_q ones) (of_p ones)
      (inr (refl, inr (ap (λ k. k + m) h, inl (fewer_by (length (conj rest)) (length (conj c)) n g))))
      (weight_dropped (one_if left + (left_joins l + left_joins r)) (others (conj rest)) (others (conj c)) (length (conj rest)) (length (conj c)) m n h g)

compares_of : Expr-F Expr → Bool
compares_of (LE.Call f args) = is_comparison f
compares_of _ = false

call_compares : (f g : Func) (xs ys : List Expr) → LE.Call f xs ≡ LE.Call g ys → is_comparison f ≡ is_comparison g
unfolding compares_of
call_compares f g xs ys e = ap compares_of e

-- what compares is no `and`
compares_leaf : (p : Plan) (e : Expr) → compares p e ≡ true → IsLeaf e
compares_leaf p = expr_cases (λ e. compares p e ≡ true → IsLeaf e)
    (λ v h. absurd (no (sym (sym (compares-Var p v) ∙ h))))
    (λ v h. absurd (no (sym (sym (compares-Lit p v) ∙ h))))
    (λ f args h. leaf_Call f args (λ a b k. no (sym (both_true (is_comparison f) (list_any (is_variable_of p) args) (sym (compares-Call p f args) ∙ h)).0 ∙ call_compares f F.And args (a ∷ b ∷ []) k)))

-- what has a variable is not the literal true
variable_other : (e : Expr) → has_variable e ≡ true → is_other e ≡ true
variable_other = expr_cases (λ e. has_variable e ≡ true → is_other e ≡ true)
    (λ v h. ap not (literal-Var v))
    (λ v h. absurd (no (sym h ∙ ap (list_any (λ q. true)) (names-Lit v))))
    (λ f args h. ap not (literal-Call f args))

left_join_to_join_falls : (p q : Plan) → left_join_to_join p q → Falls q p
left_join_to_join_falls p q (e, c, l, r, from, compared, to) =
    let m = over_joins other_ones l + over_joins other_ones r in
    let n = over_joins ones l + over_joins ones r in
    let counts = counts_both c e (compares_leaf r e compared) in
    let of_p : (count : Bool → Expr → ℕ) → over_joins count p ≡ count true c + (over_joins count l + over_joins count r) = λ count. ap (over_joins count) from ∙ over-Select count e (P.LeftJoin c l r) ∙ over-LeftJoin count c l r in
    let of_q : (count : Bool → Expr → ℕ) → over_joins count q ≡ count false (both c e) + (over_joins count l + over_joins count r) = λ count. at_Join count q (both c e) l r to in
    falls_by q p (0 + (left_joins l + left_joins r)) (1 + (left_joins l + left_joins r)) (others (conj (both c e)) + m) (others (conj c) + m) (length (conj (both c e)) + n) (length (conj c) + n)
    (of_q lefts) (of_p lefts) (of_q other_ones) (of_p other_ones) (of_q ones) (of_p ones)
    (inl (one_more (left_joins l + left_joins r)))
    (weight_traded (left_joins l + left_joins r) (others (conj (both c e))) (others (conj c)) (length (conj (both c e))) (length (conj c)) m n counts.0 counts.1)

drop_true_falls : (p q : Plan) → drop_true p q → Falls q p
drop_true_falls p q (c, first, rest, l, r, many, splits, inl (from, to)) =
    let counts = counts_dropped is_literal_true c first rest splits (ap not splits.2.has_it) many in
    fewer_ones q p false c rest l r (λ count. at_Join count q rest l r to) (λ count. at_Join count p c l r from) counts.0 counts.1
drop_true_falls p q (c, first, rest, l, r, many, splits, inr (from, to)) =
    let counts = counts_dropped is_literal_true c first rest splits (ap not splits.2.has_it) many in
    fewer_ones q p true c rest l r (λ count. at_LeftJoin count q rest l r to) (λ count. at_LeftJoin count p c l r from) counts.0 counts.1

join_cond_left_falls : (p q : Plan) → join_cond_left p q → Falls q p
join_cond_left_falls p q (c, first, rest, l, r, from, splits, to) =
    let counts = counts_taken (is_of l) c first rest splits (both_true (is_other first) (reads_only l first) splits.2.has_it).0 in
    fewer_others q p false c rest l r (λ count. at_Join count q rest (P.Select first l) r to ∙ selected_left count false rest first l r) (λ count. at_Join count p c l r from) counts.0 counts.1

join_cond_right_falls : (p q : Plan) → join_cond_right p q → Falls q p
join_cond_right_falls p q (c, first, rest, l, r, from, splits, to) =
    let counts = counts_taken (is_of r) c first rest splits (both_true (is_other first) (reads_only r first) splits.2.has_it).0 in
    fewer_others q p false c rest l r (λ count. at_Join count q rest l (P.Select first r) to ∙ selected_right count false rest first l r) (λ count. at_Join count p c l r from) counts.0 counts.1

left_join_cond_right_falls : (p q : Plan) → left_join_cond_right p q → Falls q p
left_join_cond_right_falls p q (c, first, rest, l, r, from, splits, to) =
    let counts = counts_taken (reads_of r) c first rest splits (variable_other first (both_true (has_variable first) (reads_only r first) splits.2.has_it).0) in
    fewer_others q p true c rest l r (λ count. at_LeftJoin count q rest l (P.Select first r) to ∙ selected_right count true rest first l r) (λ count. at_LeftJoin count p c l r from) counts.0 counts.1

-- ---- the set

set_falls : (k : ℕ) (p q : Plan) → join_rewrites k p q → Falls q p
set_falls zero = left_join_to_join_falls
set_falls (suc zero) = drop_true_falls
set_falls (suc (suc zero)) = join_cond_left_falls
set_falls (suc (suc (suc zero))) = join_cond_right_falls
set_falls (suc (suc (suc (suc k)))) = left_join_cond_right_falls

set_sound : (k : ℕ) (p q : Plan) → Fit p → join_rewrites k p q → Replaces q p
set_sound zero = left_join_to_join_sound
set_sound (suc zero) = drop_true_sound
set_sound (suc (suc zero)) = join_cond_left_sound
set_sound (suc (suc (suc zero))) = join_cond_right_sound
set_sound (suc (suc (suc (suc k)))) = left_join_cond_right_sound

pub join_lawful : IsLawful join_rules join_measure join_weight
join_lawful = record {
  sound = λ k low. set_sound k;
  falls = λ k low place p q fit h. (falls_at (join_rewrites k) (set_falls k) place p q fit h).0;
  lightens = λ k low place p q fit h. (falls_at (join_rewrites k) (set_falls k) place p q fit h).1;
}
