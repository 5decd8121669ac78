-- How many parts a plan has: its operator's and those of its inputs.
use Rattle.std.proofs.Common.{◌≡◌, ◌<◌, ◌+◌, ℕ, suc, List, [], ◌∷◌, length, true, Option, Some, None, refl, ap, sym, subst, ◌∙◌, arith}
use Rattle.std.proofs.lemmas.List.{length-append}
use Rattle.al_value.specs.declared.value.Value.TheVariants as V
use Rattle.al_plan.specs.declared.expr.Expr.{Expr}
use Rattle.al_plan.specs.declared.plan.Plan.{Plan, map-Plan, roll-Plan, out-Plan, fold-roll-Plan}
use Rattle.al_plan.specs.declared.plan.Plan.TheVariants as P
use Rattle.al_plan.specs.declared.plan.Plan.TheOpen as L
use Rattle.al_conj.specs.Conj.{both, conj, IsLeaf}
use Rattle.al_conj.proofs.ConjLaws.{conj_sides, conj-leaf, leaf_Lit}
use Rattle.al_rule.specs.Places.{input, input_step}
use Rattle.al_rule.proofs.Operators.{operators, rolls-out}
use Rattle.al_opt.specs.RoomCases.{yes, selecting, SelectHasFour, NestedHasNone, FourFillFour, FourInThree, NoneInFour}
use Rattle.al_opt.specs.Room.{conjuncts_in, parts, parts_step, parts_at, Leaves}

pub ruleset layers = (operators)

-- ---- the parts of a plan

parts-roll : (x : L.Plan-F Plan) → parts (roll-Plan x) ≡ parts_step (map-Plan Plan ℕ parts x)
unfolding parts
parts-roll x = fold-roll-Plan ℕ parts_step x

by_layer : (x : L.Plan-F Plan) → parts_step (map-Plan Plan ℕ parts x) ≡ suc (conjuncts_in x) + (parts_at (input_step x 0) + parts_at (input_step x 1))
by_layer (L.Scan set vars) = omega arith
by_layer L.Empty = omega arith
by_layer L.Nested = omega arith
by_layer (L.Assign made p) = omega arith
by_layer (L.Select c p) = omega arith
by_layer (L.Project vars p) = omega arith
by_layer (L.Unnest v g p) = omega arith
by_layer (L.Subplan n p) = omega arith
by_layer (L.Join c l r) = omega arith
by_layer (L.LeftJoin c l r) = omega arith
by_layer (L.Group keys n p) = omega arith
by_layer (L.Distinct p) = omega arith
by_layer (L.Union made ls rs l r) = omega arith
by_layer (L.Aggregate made p) = omega arith
by_layer (L.Order keys p) = omega arith
by_layer (L.Limit n k p) = omega arith
by_layer (L.Check name c p) = omega arith
by_layer (L.Result vars p) = omega arith

pub parts_whole : (p : Plan) → parts p ≡ suc (conjuncts_in (out-Plan p)) + (parts_at (input p 0) + parts_at (input p 1))
unfolding input
parts_whole p = ap parts (sym (rolls-out p)) ∙ parts-roll (out-Plan p) ∙ by_layer (out-Plan p)

parts-at : (x : L.Plan-F Plan) (p : Plan) → roll-Plan x ≡ p → parts p ≡ parts_step (map-Plan Plan ℕ parts x)
parts-at x p is = ap parts (sym is) ∙ parts-roll x

four : parts (selecting P.Empty) ≡ 4
four =
    let below : parts P.Empty ≡ 1 = parts-at L.Empty P.Empty P.rolls-Empty in
    let each : length (conj yes) ≡ 1 = ap length (conj-leaf yes (leaf_Lit (V.Bool true))) in
    let both_sides : length (conj (both yes yes)) ≡ length (conj yes) + length (conj yes) = ap length (conj_sides (both yes yes) yes yes refl) ∙ length-append (conj yes) (conj yes) in
    let whole : parts (selecting P.Empty) ≡ suc (length (conj (both yes yes))) + parts P.Empty = parts-at (L.Select (both yes yes) P.Empty) (selecting P.Empty) (P.rolls-Select (both yes yes) P.Empty) in
    omega (arith, below, each, both_sides, whole)

pub select_has_four : SelectHasFour
select_has_four = four

pub nested_has_none : NestedHasNone
nested_has_none =
    let below : parts P.Empty ≡ 1 = parts-at L.Empty P.Empty P.rolls-Empty in
    let whole : parts (P.Subplan (selecting P.Nested) P.Empty) ≡ 1 + parts P.Empty = parts-at (L.Subplan (selecting P.Nested) P.Empty) _ (P.rolls-Subplan (selecting P.Nested) P.Empty) in
    omega (arith, below, whole)

pub four_fill_four : FourFillFour
four_fill_four = omega (arith, four)

pub four_in_three : FourInThree → ⊥
four_in_three h = omega (arith, four, h)

pub none_in_four : NoneInFour → ⊥
none_in_four h = omega (arith, four, h)

-- ---- what is left

pub then_left : (room m n left : ℕ) (r : Option ℕ) → Leaves room m (Some left) → Leaves left n r → Leaves room (m + n) r
then_left room m n left (Some less) h k = omega (arith, h, k)
then_left room m n left None h k = omega (arith, h, k)

pub none_then : (room m n : ℕ) → Leaves room m None → Leaves room (m + n) None
none_then room m n h = omega (arith, h)

pub sides_left : (c a b : Expr) (room left : ℕ) (r : Option ℕ) → c ≡ both a b → Leaves room (length (conj a)) (Some left) → Leaves left (length (conj b)) r → Leaves room (length (conj c)) r
sides_left c a b room left r is h k = subst (λ n. Leaves room n r) (sym (ap length (conj_sides c a b is) ∙ length-append (conj a) (conj b))) (then_left room (length (conj a)) (length (conj b)) left r h k)

pub left_side_none : (c a b : Expr) (room : ℕ) → c ≡ both a b → Leaves room (length (conj a)) None → Leaves room (length (conj c)) None
left_side_none c a b room is h = subst (λ n. Leaves room n None) (sym (ap length (conj_sides c a b is) ∙ length-append (conj a) (conj b))) (none_then room (length (conj a)) (length (conj b)) h)

pub leaf_left : (c : Expr) (room : ℕ) (r : Option ℕ) → IsLeaf c → Leaves room 1 r → Leaves room (length (conj c)) r
leaf_left c room r leaf h = subst (λ n. Leaves room n r) (sym (ap length (conj-leaf c leaf))) h

pub whole_left : (p : Plan) (room own left : ℕ) (r : Option ℕ) → Leaves room (suc (conjuncts_in (out-Plan p))) (Some own) → Leaves own (parts_at (input p 0)) (Some left) → Leaves left (parts_at (input p 1)) r → Leaves room (parts p) r
whole_left p room own left r here first second =
    subst (λ n. Leaves room n r) (sym (parts_whole p))
    (then_left room (suc (conjuncts_in (out-Plan p))) (parts_at (input p 0) + parts_at (input p 1)) own r here (then_left own (parts_at (input p 0)) (parts_at (input p 1)) left r first second))

pub first_none : (p : Plan) (room own : ℕ) → Leaves room (suc (conjuncts_in (out-Plan p))) (Some own) → Leaves own (parts_at (input p 0)) None → Leaves room (parts p) None
first_none p room own here first =
    subst (λ n. Leaves room n None) (sym (parts_whole p))
    (then_left room (suc (conjuncts_in (out-Plan p))) (parts_at (input p 0) + parts_at (input p 1)) own None here (none_then own (parts_at (input p 0)) (parts_at (input p 1)) first))

pub own_none : (p : Plan) (room : ℕ) → Leaves room (suc (conjuncts_in (out-Plan p))) None → Leaves room (parts p) None
own_none p room here = subst (λ n. Leaves room n None) (sym (parts_whole p)) (none_then room (suc (conjuncts_in (out-Plan p))) (parts_at (input p 0) + parts_at (input p 1)) here)
