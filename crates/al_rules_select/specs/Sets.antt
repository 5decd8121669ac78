-- The sets of rules on selects, and that they are lawful.
use Rattle.std.specs.Prelude.{◌≡◌, ◌<◌, List, [], ◌∷◌}
use Rattle.std.proofs.Common.{subst, sym}
use Rattle.al_plan.specs.declared.plan.Plan.{Plan}
use Rattle.al_plan.specs.declared.plan.Plan.TheVariants as P
use Rattle.al_plan.specs.Refines.{Fit}
use Rattle.al_conj.specs.Conj.{both}
use Rattle.al_rule.specs.declared.names.RuleName.TheVariants as N
use Rattle.al_rule.specs.declared.names.SetName.TheVariants as S
use Rattle.al_rule.specs.Places.{Rewriting}
use Rattle.al_rule.specs.Rules.{Rules, IsLawful}
use Rattle.al_rule.specs.Entries.{Entry, listed}
use Rattle.al_rule.specs.Counts.{load, below_selects, select_ands}
use Rattle.al_rule.proofs.EntryLaws.{Each, IsSound, Falls, lawful_by_one}
use Rattle.al_rule.proofs.CountLaws as counts
use Rattle.al_rules_select.specs.Selects as rule
use Rattle.al_rules_select.specs.Sound as sound

abbrev pub split_entries : List Entry
split_entries = (N.SplitAnd, rule.SplitAnd) ∷ []

abbrev pub select_entries : List Entry
select_entries =
    (N.SelectTrue, rule.SelectTrue)
    ∷ (N.SelectBelowAssign, rule.SelectBelowAssign)
    ∷ (N.SelectBelowProject, rule.SelectBelowProject)
    ∷ (N.SelectBelowUnnest, rule.SelectBelowUnnest)
    ∷ (N.SelectBelowSubplan, rule.SelectBelowSubplan)
    ∷ (N.SelectBelowOrder, rule.SelectBelowOrder)
    ∷ (N.SelectBelowDistinct, rule.SelectBelowDistinct)
    ∷ (N.SelectBelowJoinLeft, rule.SelectBelowJoinLeft)
    ∷ (N.SelectBelowJoinRight, rule.SelectBelowJoinRight)
    ∷ (N.SelectIntoJoin, rule.SelectIntoJoin)
    ∷ (N.SelectBelowLeftJoin, rule.SelectBelowLeftJoin)
    ∷ []

abbrev pub split_rules : Rules
split_rules = listed S.Split split_entries

abbrev pub select_rules : Rules
select_rules = listed S.Select select_entries

-- ---- what each rule lowers

fewer_ands : (x y : Plan) → Fit x → rule.SplitAnd x y → select_ands y < select_ands x
fewer_ands x y fit (a, b, z, at, to) = subst (λ (p : Plan). select_ands p < select_ands x) (sym to) (subst (λ (p : Plan). select_ands (P.Select a (P.Select b z)) < select_ands p) (sym at) (counts.fewer_split a b z))

pub split_lawful : IsLawful split_rules (λ p. select_ands p ∷ []) select_ands
split_lawful = lawful_by_one S.Split split_entries select_ands (sound.split_and, tt) (counts.fewer_at rule.SplitAnd fewer_ands, tt)

in_place : (p q x y : Plan) → p ≡ x → q ≡ y → counts.Lighter (load y) (load x) → counts.Lighter (load q) (load p)
in_place p q x y at to h = subst (λ (z : Plan). counts.Lighter (load z) (load p)) (sym to) (subst (λ (z : Plan). counts.Lighter (load y) (load z)) (sym at) h)

abbrev Lightens : Rewriting → Type 0
Lightens R = (p q : Plan) → Fit p → R p q → counts.Lighter (load q) (load p)

falls_by : (R : Rewriting) → Lightens R → Falls below_selects R
falls_by R here place p q f h = (counts.lighter_at R here place p q f h).1

light_true : Lightens rule.SelectTrue
light_true p q f (x, at, to) = in_place p q _ x at to (counts.lighter_without _ x)

light_assign : Lightens rule.SelectBelowAssign
light_assign p q f (e, made, x, at, k, to) = in_place p q _ _ at to (counts.lighter_assign made e x)

light_project : Lightens rule.SelectBelowProject
light_project p q f (e, vars, x, at, to) = in_place p q _ _ at to (counts.lighter_project vars e x)

light_unnest : Lightens rule.SelectBelowUnnest
light_unnest p q f (e, v, g, x, at, k, to) = in_place p q _ _ at to (counts.lighter_unnest v g e x)

light_subplan : Lightens rule.SelectBelowSubplan
light_subplan p q f (e, n, x, at, k, to) = in_place p q _ _ at to (counts.lighter_subplan n e x)

light_order : Lightens rule.SelectBelowOrder
light_order p q f (e, keys, x, at, to) = in_place p q _ _ at to (counts.lighter_order keys e x)

light_distinct : Lightens rule.SelectBelowDistinct
light_distinct p q f (e, x, at, to) = in_place p q _ _ at to (counts.lighter_distinct e x)

light_join_left : Lightens rule.SelectBelowJoinLeft
light_join_left p q f (e, c, l, r, at, k, to) = in_place p q _ _ at to (counts.lighter_join_left c r e l)

light_join_right : Lightens rule.SelectBelowJoinRight
light_join_right p q f (e, c, l, r, at, k, to) = in_place p q _ _ at to (counts.lighter_join_right c l e r)

light_into : Lightens rule.SelectIntoJoin
light_into p q f (e, c, l, r, at, to) = in_place p q _ _ at to (counts.lighter_join (both c e) e c l r)

light_left_join : Lightens rule.SelectBelowLeftJoin
light_left_join p q f (e, c, l, r, at, k, to) = in_place p q _ _ at to (counts.lighter_left_join_left c r e l)

pub select_lawful : IsLawful select_rules (λ p. below_selects p ∷ []) below_selects
select_lawful = lawful_by_one S.Select select_entries below_selects all_sound all_fall
  where
    all_sound : Each IsSound select_entries
    all_sound = (sound.select_true, (sound.below_assign, (sound.below_project, (sound.below_unnest, (sound.below_subplan, (sound.below_order, (sound.below_distinct, (sound.below_join_left, (sound.below_join_right, (sound.into_join, (sound.below_left_join, tt)))))))))))

    all_fall : Each (Falls below_selects) select_entries
    all_fall = (falls_by rule.SelectTrue light_true, (falls_by rule.SelectBelowAssign light_assign, (falls_by rule.SelectBelowProject light_project, (falls_by rule.SelectBelowUnnest light_unnest, (falls_by rule.SelectBelowSubplan light_subplan, (falls_by rule.SelectBelowOrder light_order, (falls_by rule.SelectBelowDistinct light_distinct, (falls_by rule.SelectBelowJoinLeft light_join_left, (falls_by rule.SelectBelowJoinRight light_join_right, (falls_by rule.SelectIntoJoin light_into, (falls_by rule.SelectBelowLeftJoin light_left_join, tt)))))))))))
