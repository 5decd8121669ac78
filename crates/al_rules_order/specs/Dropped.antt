-- What an operator that forgets the order of its input's rows allows, it allows over an order too.
use Rattle.std.proofs.Common.{◌≡◌, Bool, false, List, [], ◌∷◌, map, flat_map, refl, ap, sym, subst, ◌∙◌, append-nil, arith}
use Rattle.std.specs.List.{AllByRecursion, AllZip, Contains}
use Rattle.std.specs.List.Sorted.{IsPermutation, IsSorted}
use Rattle.std.specs.Ordering.{is_lt}
use Rattle.std.proofs.lemmas.List.Elements.{All-weaker}
use Rattle.std.proofs.lemmas.List.Sorted.{IsPermutation-refl, IsPermutation-trans, IsPermutation-sym, IsPermutation-append, IsPermutation-map, length_permutation, All-permutation, Contains-permutation}
use Rattle.al_plan.specs.declared.expr.Var.{Var}
use Rattle.al_plan.specs.declared.expr.Expr.{Expr}
use Rattle.al_plan.specs.declared.plan.AggCall.{AggCall}
use Rattle.al_plan.specs.declared.plan.OrderKey.{OrderKey}
use Rattle.al_plan.specs.declared.plan.Plan.{Plan}
use Rattle.al_plan.specs.declared.plan.Plan.TheVariants as P
use Rattle.al_plan.specs.Eval.{Env, holds}
use Rattle.al_plan.specs.Allows.{Sets, Allows, live, keys_cmp, IsGrouping, Group, rows_in, key_of, new_of, with_new, Gives, pairs, left_pairs, matches, or_alone, beside, nulls, renamed}
use Rattle.al_plan.proofs.PlanLaws.{allows_Order, allows_Distinct, allows_Group, allows_Join, allows_LeftJoin, allows_Union, allows_Aggregate, from_Distinct, from_Group, from_Join, from_LeftJoin, from_Union, from_Aggregate, from_Order, live-Order}
use Rattle.al_plan.proofs.Moves.{IsPermutation-filter, IsPermutation-flat_map}
use Rattle.al_rule.proofs.SelectOrder.{taken_in, one_way, sorted_from_up}
use Rattle.al_rules_order.specs.AggOrder.{agg_row-moved}

none_kept : {X : Type 0} (xs : List X) → AllByRecursion (λ x. false ≡ false) xs
none_kept [] = tt
none_kept (x ∷ xs) = (refl, none_kept xs)

-- each list has a sorted order
pub sorted_list : (keys : List OrderKey) (rows : List Env) → (zs : List Env) × IsPermutation rows zs × IsSorted (keys_cmp keys) zs
sorted_list keys rows =
    let all = taken_in (λ x y. is_lt (keys_cmp keys x y)) (one_way keys) (λ r. false) rows [] tt (none_kept rows) in
    (all.0, subst (λ (xs : List Env). IsPermutation xs all.0) (append-nil rows) all.1, sorted_from_up (λ x y. is_lt (keys_cmp keys x y)) all.0 all.2)

-- the second plan allows what the first one allows
abbrev pub Less : Plan → Plan → Type 0
Less q p = (b : Bool) (sets : Sets) (rows : List Env) → Allows q b sets [] [] rows → Allows p b sets [] [] rows

-- an order allows an order of each list of its input
order_has : (keys : List OrderKey) (p : Plan) (b : Bool) (sets : Sets) (rows : List Env) → Allows p b sets [] [] rows → (zs : List Env) × Allows (P.Order keys p) b sets [] [] zs × IsPermutation rows zs
order_has keys p b sets rows h = let s = sorted_list keys rows in (s.0, allows_Order keys p b sets [] [] s.0 (rows, h, (s.1, s.2)), s.1)

pub under_distinct : (keys : List OrderKey) (p : Plan) → Less (P.Distinct p) (P.Distinct (P.Order keys p))
under_distinct keys p b sets rows h =
    let o = from_Distinct p b sets [] [] rows h in
    let s = order_has keys p b sets o.0 o.1 in
    allows_Distinct (P.Order keys p) b sets [] [] rows (
      s.0,
      s.1,
      record {
        within = All-weaker (Contains o.0) (Contains s.0) (λ r k. Contains-permutation o.0 s.0 r s.2 k) rows o.2.within;
        all = All-permutation (Contains rows) o.0 s.0 s.2 o.2.all;
        once = o.2.once;
      },
    )

pub under_group : (ks : List (Var × Var)) (n : Plan) (keys : List OrderKey) (p : Plan) → Less (P.Group ks n p) (P.Group ks n (P.Order keys p))
under_group ks n keys p b sets rows h =
    let o = from_Group ks n p b sets [] [] rows h in
    let s = order_has keys p b sets o.0 o.1 in
    let grouped : IsGrouping ks s.0 o.2.0 = record { moved = IsPermutation-trans _ _ _ (IsPermutation-sym _ _ s.2) o.2.2.moved; alike = o.2.2.alike; apart = o.2.2.apart } in
    allows_Group ks n (P.Order keys p) b sets [] [] rows
    (s.0, s.1, (o.2.0, o.2.1, grouped, subst (λ (vs : List Var). AllZip (λ (g : Group) row. Gives (Allows n) b sets vs (rows_in g) (λ inner. row ≡ with_new (new_of ks) (key_of ks g.0) inner)) o.2.0 o.2.1) (sym (live-Order keys p [])) o.2.3, o.2.4))

pub under_aggregate : (made : List (Var × AggCall)) (keys : List OrderKey) (p : Plan) → Less (P.Aggregate made p) (P.Aggregate made (P.Order keys p))
under_aggregate made keys p b sets rows h =
    let o = from_Aggregate made p b sets [] [] rows h in
    let s = order_has keys p b sets o.0 o.1 in
    allows_Aggregate made (P.Order keys p) b sets [] [] rows (s.0, s.1, o.2 ∙ ap (λ (r : Env). r ∷ []) (agg_row-moved made o.0 s.0 s.2))

each_moved : {X Y : Type 0} (f g : X → List Y) → ((x : X) → IsPermutation (f x) (g x)) → (xs : List X) → IsPermutation (flat_map f xs) (flat_map g xs)
each_moved f g each [] = IsPermutation-refl []
each_moved f g each (x ∷ xs) = IsPermutation-append _ _ _ _ (each x) (each_moved f g each xs)

-- the pairs of a left row, with the right rows in another order
matches-moved : (vars : List Var) (c : Expr) (rs zs : List Env) (a : Env) → IsPermutation rs zs → IsPermutation (matches vars c rs a) (matches vars c zs a)
matches-moved vars c rs zs a h = IsPermutation-filter (holds c) _ _ (IsPermutation-map (beside vars a) rs zs h)

pub under_join_left : (c : Expr) (r : Plan) (keys : List OrderKey) (l : Plan) → Less (P.Join c l r) (P.Join c (P.Order keys l) r)
under_join_left c r keys l b sets rows h =
    let o = from_Join c l r b sets [] [] rows h in
    let s = order_has keys l b sets o.0 o.1 in
    let moved = IsPermutation-trans _ _ _ (IsPermutation-sym _ _ (IsPermutation-flat_map (matches (live l []) c o.2.0) o.0 s.0 s.2)) o.2.2 in
    allows_Join c (P.Order keys l) r b sets [] [] rows (s.0, s.1, (o.2.0, o.2.1, subst (λ (vs : List Var). IsPermutation (pairs vs c s.0 o.2.0) rows) (sym (live-Order keys l [])) moved))

pub under_join_right : (c : Expr) (l : Plan) (keys : List OrderKey) (r : Plan) → Less (P.Join c l r) (P.Join c l (P.Order keys r))
under_join_right c l keys r b sets rows h =
    let o = from_Join c l r b sets [] [] rows h in
    let s = order_has keys r b sets o.2.0 o.2.1 in
    let each = λ (a : Env). matches-moved (live l []) c s.0 o.2.0 a (IsPermutation-sym _ _ s.2) in
    let moved = IsPermutation-trans _ _ _ (each_moved (matches (live l []) c s.0) (matches (live l []) c o.2.0) each o.0) o.2.2 in
    allows_Join c l (P.Order keys r) b sets [] [] rows (o.0, o.1, (s.0, s.1, moved))

pub under_left_join_left : (c : Expr) (r : Plan) (keys : List OrderKey) (l : Plan) → Less (P.LeftJoin c l r) (P.LeftJoin c (P.Order keys l) r)
under_left_join_left c r keys l b sets rows h =
    let o = from_LeftJoin c l r b sets [] [] rows h in
    let s = order_has keys l b sets o.0 o.1 in
    let moved = IsPermutation-trans _ _ _ (IsPermutation-sym _ _ (IsPermutation-flat_map (λ a. or_alone (beside (live l []) a nulls) (matches (live l []) c o.2.0 a)) o.0 s.0 s.2)) o.2.2 in
    allows_LeftJoin c (P.Order keys l) r b sets [] [] rows (s.0, s.1, (o.2.0, o.2.1, subst (λ (vs : List Var). IsPermutation (left_pairs vs c s.0 o.2.0) rows) (sym (live-Order keys l [])) moved))

-- a row is alone beside no rows, in whatever order they are
alone-moved : (a : Env) (xs ys : List Env) → IsPermutation xs ys → IsPermutation (or_alone a xs) (or_alone a ys)
alone-moved a [] [] h = IsPermutation-refl (a ∷ [])
alone-moved a [] (y ∷ ys) h = absurd (omega (arith, length_permutation _ _ h))
alone-moved a (x ∷ xs) [] h = absurd (omega (arith, length_permutation _ _ h))
alone-moved a (x ∷ xs) (y ∷ ys) h = h

pub under_left_join_right : (c : Expr) (l : Plan) (keys : List OrderKey) (r : Plan) → Less (P.LeftJoin c l r) (P.LeftJoin c l (P.Order keys r))
under_left_join_right c l keys r b sets rows h =
    let o = from_LeftJoin c l r b sets [] [] rows h in
    let s = order_has keys r b sets o.2.0 o.2.1 in
    let each = λ (a : Env). alone-moved (beside (live l []) a nulls) (matches (live l []) c s.0 a) (matches (live l []) c o.2.0 a) (matches-moved (live l []) c s.0 o.2.0 a (IsPermutation-sym _ _ s.2)) in
    let moved = IsPermutation-trans _ _ _ (each_moved (λ a. or_alone (beside (live l []) a nulls) (matches (live l []) c s.0 a)) (λ a. or_alone (beside (live l []) a nulls) (matches (live l []) c o.2.0 a)) each o.0) o.2.2 in
    allows_LeftJoin c l (P.Order keys r) b sets [] [] rows (o.0, o.1, (s.0, s.1, moved))

pub under_union_left : (made ls rs : List Var) (r : Plan) (keys : List OrderKey) (l : Plan) → Less (P.Union made ls rs l r) (P.Union made ls rs (P.Order keys l) r)
under_union_left made ls rs r keys l b sets rows h =
    let o = from_Union made ls rs l r b sets [] [] rows h in
    let s = order_has keys l b sets o.0 o.1 in
    let moved = IsPermutation-trans _ _ _ (IsPermutation-append _ _ _ _ (IsPermutation-map (renamed made ls) s.0 o.0 (IsPermutation-sym _ _ s.2)) (IsPermutation-refl (map (renamed made rs) o.2.0))) o.2.2 in
    allows_Union made ls rs (P.Order keys l) r b sets [] [] rows (s.0, s.1, (o.2.0, o.2.1, moved))

pub under_union_right : (made ls rs : List Var) (l : Plan) (keys : List OrderKey) (r : Plan) → Less (P.Union made ls rs l r) (P.Union made ls rs l (P.Order keys r))
under_union_right made ls rs l keys r b sets rows h =
    let o = from_Union made ls rs l r b sets [] [] rows h in
    let s = order_has keys r b sets o.2.0 o.2.1 in
    let moved = IsPermutation-trans _ _ _ (IsPermutation-append _ _ _ _ (IsPermutation-refl (map (renamed made ls) o.0)) (IsPermutation-map (renamed made rs) s.0 o.2.0 (IsPermutation-sym _ _ s.2))) o.2.2 in
    allows_Union made ls rs l (P.Order keys r) b sets [] [] rows (o.0, o.1, (s.0, s.1, moved))

-- the inner order of two is forgotten
pub over_order : (keys inner : List OrderKey) (p : Plan) → Less (P.Order keys p) (P.Order keys (P.Order inner p))
over_order keys inner p b sets rows h =
    let o = from_Order keys p b sets [] [] rows h in
    let s = order_has inner p b sets o.0 o.1 in
    allows_Order keys (P.Order inner p) b sets [] [] rows (s.0, s.1, (IsPermutation-trans _ _ _ (IsPermutation-sym _ _ s.2) o.2.0, o.2.1))
