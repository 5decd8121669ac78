-- What is chosen for a join, a group or a distinct allows what the operator allows, where its inputs stand for their plans.
use Rattle.std.proofs.Common.{◌≡◌, ◌<◌, ℕ, Bool, true, false, List, [], ◌∷◌, flat_map, zip, refl, sym, subst, ◌∙◌, arith}
use Rattle.std.specs.Prelude.{if◌then◌else◌}
use Rattle.std.specs.List.{AllByRecursion, AllZip, Contains}
use Rattle.std.specs.List.Sorted.{IsPermutation, IsSorted}
use Rattle.std.proofs.lemmas.List.Elements.{All-weaker, All-from_recursion}
use Rattle.std.proofs.lemmas.List.Sorted.{IsPermutation-refl, IsPermutation-sym, IsPermutation-trans, IsPermutation-append, IsPermutation-map, All-permutation, Contains-permutation, length_permutation}
use Rattle.al_plan.specs.declared.expr.Var.{Var}
use Rattle.al_plan.specs.declared.expr.Expr.{Expr}
use Rattle.al_plan.specs.declared.plan.Plan.{Plan}
use Rattle.al_plan.specs.declared.plan.Plan.TheOpen as L
use Rattle.al_plan.specs.Eval.{Env, holds}
use Rattle.al_plan.specs.Allows.{Sets, Allows, live, beside, matches, or_alone, nulls, keys_cmp, IsDistinctOf}
use Rattle.al_plan.proofs.PlanLaws.{Layer}
use Rattle.al_plan.proofs.Moves.{IsPermutation-filter, IsPermutation-flat_map}
use Rattle.al_plan.proofs.Makes.{Disjoint}
use Rattle.al_phys.specs.declared.phys.Phys.{Phys}
use Rattle.al_phys.specs.declared.phys.Phys.TheVariants as Q
use Rattle.al_phys.specs.declared.phys.JoinForm.{JoinForm}
use Rattle.al_phys.specs.declared.phys.JoinForm.TheVariants as J
use Rattle.al_phys.specs.declared.property.Need.TheVariants as N
use Rattle.al_phys.specs.Gives.{is_outer, joined, IsGrouped, IsPreGrouped}
use Rattle.al_phys.specs.Operators.{phys_live, operators}
use Rattle.al_phys.specs.Parts.{Parts, HasLocal, Serves, first_part}
use Rattle.al_phys.specs.declared.property.Local.TheVariants as O
use Rattle.al_phys.specs.PAllows.{PAllows}
use Rattle.al_phys.specs.Properties.{order_of, left_keys, right_keys, equi_keys, old_of}
use Rattle.al_phys.specs.Placed.{is_row_wise, is_grouped, ascending}
use Rattle.al_phys.proofs.PhysLaws.{pfrom_Join, pfrom_HashGroup, pfrom_PreGroup, pfrom_HashDistinct, pfrom_Sort}
use Rattle.al_phys.proofs.OperatorLaws.{plive-Sort}
use Rattle.al_phys.proofs.CountLaws.{many}
use Rattle.al_choose.specs.Chosen.{served, join_form, join_as, join_over, group_over, chosen}
use Rattle.al_choose.proofs.GroupParts.{grouped_parts, pre_grouped_parts, ascending_grouped_parts, distinct_parts}
use Rattle.al_choose.proofs.JoinParts.{hash_joined, loop_joined}
use Rattle.al_choose.proofs.StandParts.{all_rows, rows_moved}
use Rattle.al_choose.proofs.LiveOf.{served_live}
use Rattle.al_choose.proofs.StandChosen.{at_root, below_group}
use Rattle.al_choose.proofs.StandServed.{Delivers, Side, keyed_moved, exact_moved, all_copied, apart_moved}
use Rattle.al_choose.proofs.StandCases.{unserved, all_sorted}

-- ---- joined rows of moved sides

alone_moved : (l : Env) (xs ys : List Env) → IsPermutation xs ys → IsPermutation (or_alone l xs) (or_alone l ys)
alone_moved l [] [] h = IsPermutation-refl (l ∷ [])
alone_moved l [] (y ∷ ys) h = absurd (omega (arith, length_permutation _ _ h))
alone_moved l (x ∷ xs) [] h = absurd (omega (arith, length_permutation _ _ h))
alone_moved l (x ∷ xs) (y ∷ ys) h = h

each_moved : (f g : Env → List Env) → ((l : Env) → IsPermutation (f l) (g l)) → (ls : List Env) → IsPermutation (flat_map f ls) (flat_map g ls)
each_moved f g h [] = IsPermutation-refl []
each_moved f g h (l ∷ ls) = IsPermutation-append (f l) (g l) (flat_map f ls) (flat_map g ls) (h l) (each_moved f g h ls)

module _ (vars : List Var) (c : Expr) where
  matches_moved : (rs us : List Env) → IsPermutation rs us → (l : Env) → IsPermutation (matches vars c rs l) (matches vars c us l)
  matches_moved rs us h l = IsPermutation-filter (holds c) _ _ (IsPermutation-map (beside vars l) rs us h)

  joined_moved : (outer : Bool) (ls ks rs us : List Env) → IsPermutation ls ks → IsPermutation rs us → IsPermutation (joined outer vars c ls rs) (joined outer vars c ks us)
  joined_moved false ls ks rs us h g = IsPermutation-trans _ _ _ (IsPermutation-flat_map (matches vars c rs) ls ks h) (each_moved (matches vars c rs) (matches vars c us) (matches_moved rs us g) ks)
  joined_moved true ls ks rs us h g =
      let f = λ (xs : List Env) (l : Env). or_alone (beside vars l nulls) (matches vars c xs l) in
      IsPermutation-trans _ _ _ (IsPermutation-flat_map (f rs) ls ks h)
      (each_moved (f rs) (f us) (λ l. alone_moved (beside vars l nulls) (matches vars c rs l) (matches vars c us l) (matches_moved rs us g l)) ks)

form_outer : {A : Type 0} (outer : Bool) (keys : List A) → is_outer (join_form outer keys) ≡ outer
form_outer true [] = refl
form_outer true (k ∷ keys) = refl
form_outer false [] = refl
form_outer false (k ∷ keys) = refl

module _ (n : ℕ) (some : 0 < n) (b : Bool) (sets : Sets) (c : Expr) (l r : Plan) (left : Side n b sets l) (right : Side n b sets r) (apart : Disjoint (live l []) (live r [])) (parts : Parts) where
  -- what a join allows
  abbrev Joins : Bool → Type 0
  Joins outer =
      (ls : List Env) × Allows l b sets [] [] ls × ((rs : List Env) × Allows r b sets [] [] rs × IsPermutation (joined outer (live l []) c ls rs) (all_rows parts))

  abbrev ZipsBy : Bool → List Var → Parts → Parts → Type 0
  ZipsBy outer vars xs ys = AllZip (λ (both : List Env × List Env) out. IsPermutation (joined outer vars c both.0 both.1) out) (zip xs ys) parts

  apart_here : Disjoint (phys_live (chosen n l)) (phys_live (chosen n r))
  apart_here = subst (λ (vs : List Var). Disjoint vs (phys_live (chosen n r))) (sym left.live) (subst (Disjoint (live l [])) (sym right.live) apart)

  hash_case : (form : JoinForm) → PAllows (Q.Join form c (served n (N.Exactly (left_keys (chosen n l) (chosen n r) c)) (chosen n l)) (served n (N.Exactly (right_keys (chosen n l) (chosen n r) c)) (chosen n r))) b sets n parts → Joins (is_outer form)
  hash_case form h =
      let ql = chosen n l in
      let qr = chosen n r in
      let lk = left_keys ql qr c in
      let rk = right_keys ql qr c in
      let o = pfrom_Join form c (served n (N.Exactly lk) ql) (served n (N.Exactly rk) qr) b sets n parts h in
      let z = subst (λ (vs : List Var). ZipsBy (is_outer form) vs o.0 o.2.0) (served_live n (N.Exactly lk) ql) o.2.2 in
      let long = many (served n (N.Exactly lk) ql) b sets n o.0 o.1 ∙ sym (many (served n (N.Exactly rk) qr) b sets n o.2.0 o.2.1) in
      let ml = exact_moved n some b sets lk ql left.delivers o.0 o.1 in
      let mr = exact_moved n some b sets rk qr right.delivers o.2.0 o.2.1 in
      let all = hash_joined (is_outer form) (phys_live ql) (phys_live qr) c o.0 o.2.0 parts apart_here long ml.serves mr.serves z in
      let moved = joined_moved (phys_live ql) c (is_outer form) (all_rows ml.input) (all_rows o.0) (all_rows mr.input) (all_rows o.2.0) ml.same mr.same in (
        all_rows ml.input,
        left.stood ml.input ml.allowed,
        (all_rows mr.input, right.stood mr.input mr.allowed, subst (λ (vs : List Var). IsPermutation (joined (is_outer form) vs c (all_rows ml.input) (all_rows mr.input)) (all_rows parts)) left.live (IsPermutation-trans _ _ _ moved all)),
      )

  loop_case : (form : JoinForm) → PAllows (Q.Join form c (served n N.Any (chosen n l)) (served n N.All (chosen n r))) b sets n parts → Joins (is_outer form)
  loop_case form h =
      let ql = chosen n l in
      let qr = chosen n r in
      let o = pfrom_Join form c ql (served n N.All qr) b sets n parts (unserved n some b sets parts (λ x. Q.Join form c x (served n N.All qr)) ql h) in
      let long = many ql b sets n o.0 o.1 ∙ sym (many (served n N.All qr) b sets n o.2.0 o.2.1) in
      let mr = all_copied n some b sets r o.2.0 o.2.1 in
      let all = loop_joined (is_outer form) (phys_live ql) c o.0 o.2.0 parts long mr.serves o.2.2 in
      let moved = joined_moved (phys_live ql) c (is_outer form) (all_rows o.0) (all_rows o.0) (all_rows mr.input) (first_part o.2.0) (IsPermutation-refl _) mr.same in (
        all_rows o.0,
        left.stood o.0 o.1,
        (all_rows mr.input, right.stood mr.input mr.allowed, subst (λ (vs : List Var). IsPermutation (joined (is_outer form) vs c (all_rows o.0) (all_rows mr.input)) (all_rows parts)) left.live (IsPermutation-trans _ _ _ moved all)),
      )

  by_form : (form : JoinForm) → PAllows (join_as n form c (chosen n l) (chosen n r)) b sets n parts → Joins (is_outer form)
  by_form J.HashJoin h = hash_case J.HashJoin h
  by_form J.HashLeftJoin h = hash_case J.HashLeftJoin h
  by_form J.LoopJoin h = loop_case J.LoopJoin h
  by_form J.LoopLeftJoin h = loop_case J.LoopLeftJoin h

  either_join : (outer : Bool) → PAllows (join_over n outer c (chosen n l) (chosen n r)) b sets n parts → Joins outer
  either_join outer h =
      let keys = equi_keys (phys_live (chosen n l)) (phys_live (chosen n r)) c in
      subst (λ (t : Bool). Joins t) (form_outer outer keys) (by_form (join_form outer keys) h)

  pub stands_join : PAllows (join_over n false c (chosen n l) (chosen n r)) b sets n parts → Layer (L.Join c l r) b sets [] [] (all_rows parts)
  stands_join h = either_join false h

  pub stands_left_join : PAllows (join_over n true c (chosen n l) (chosen n r)) b sets n parts → Layer (L.LeftJoin c l r) b sets [] [] (all_rows parts)
  stands_left_join h = either_join true h

-- ---- groups

module _ (n : ℕ) (some : 0 < n) (b : Bool) (sets : Sets) (keys : List (Var × Var)) (inner p : Plan) (side : Side n b sets p) (parts : Parts) where
  abbrev Groups : List Var → List Env → Type 0
  Groups vars rows = IsGrouped keys inner b sets vars rows (all_rows parts)

  -- the same groups of rows in another order
  regrouped : (vars : List Var) (xs ys : List Env) → IsPermutation xs ys → Groups vars ys → Groups vars xs
  regrouped vars xs ys h g = (g.0, g.1, record { moved = IsPermutation-trans _ _ _ h g.2.moved; alike = g.2.alike; apart = g.2.apart }, g.3, g.4)

  abbrev Below : Phys
  Below = served n (N.Keyed (old_of keys)) (chosen n p)

  grouped : (input : Parts) → PAllows Below b sets n input → (rows : List Env) → IsPermutation (all_rows input) rows → Groups (phys_live Below) rows → Layer (L.Group keys inner p) b sets [] [] (all_rows parts)
  grouped input h rows same g =
      let m = keyed_moved n some b sets (old_of keys) (chosen n p) side.delivers input h in
      let all = IsPermutation-trans _ _ _ m.same same in
      (all_rows m.input, side.stood m.input m.allowed, subst (λ (vs : List Var). Groups vs (all_rows m.input)) (served_live n (N.Keyed (old_of keys)) (chosen n p) ∙ side.live) (regrouped (phys_live Below) (all_rows m.input) rows all g))

  keyed : (input : Parts) → PAllows Below b sets n input → Serves (N.Keyed (old_of keys)) input
  keyed input h = (keyed_moved n some b sets (old_of keys) (chosen n p) side.delivers input h).serves

  in_local : (input moved : Parts) → AllZip (λ rows out. IsPermutation rows out × IsSorted (keys_cmp (ascending keys)) out) input moved → HasLocal (O.Order (ascending keys)) moved
  unfolding HasLocal
  in_local input moved z = All-from_recursion (IsSorted (keys_cmp (ascending keys))) moved (all_sorted (ascending keys) input moved z)

  pub stands_group : AllByRecursion (Delivers n) (operators (group_over keys inner (served n (N.Keyed (old_of keys)) (chosen n p)))) → PAllows (group_over keys inner (served n (N.Keyed (old_of keys)) (chosen n p))) b sets n parts → Layer (L.Group keys inner p) b sets [] [] (all_rows parts)
  stands_group all h = go (is_grouped keys (order_of Below)) (is_row_wise inner) refl h
    where
      delivers : Delivers n Below
      delivers = at_root (Delivers n) Below (below_group (Delivers n) keys inner Below all)

      go : (t u : Bool) → is_grouped keys (order_of Below) ≡ t → PAllows (if t then Q.PreGroup keys inner Below else if u then Q.HashGroup keys inner Below else Q.PreGroup keys inner (Q.Sort (ascending keys) Below)) b sets n parts
          → Layer (L.Group keys inner p) b sets [] [] (all_rows parts)
      go true u e h =
          let o = pfrom_PreGroup keys inner Below b sets n parts h in
          grouped o.0 o.1 (all_rows o.0) (IsPermutation-refl _) (pre_grouped_parts keys inner b sets (phys_live Below) (order_of Below) o.0 parts e (delivers b sets o.0 o.1).1 (keyed o.0 o.1) o.2)
      go false true e h =
          let o = pfrom_HashGroup keys inner Below b sets n parts h in
          grouped o.0 o.1 (all_rows o.0) (IsPermutation-refl _) (grouped_parts keys inner b sets (phys_live Below) o.0 parts (keyed o.0 o.1) o.2)
      go false false e h =
          let up = ascending keys in
          let o = pfrom_PreGroup keys inner (Q.Sort up Below) b sets n parts h in
          let s = pfrom_Sort up Below b sets n o.0 o.1 in
          let serves = apart_moved (old_of keys) _ (λ rows out both. both.0) s.0 o.0 s.2 (keyed s.0 s.1) in
          let made = subst (λ (vs : List Var). AllZip (IsPreGrouped keys inner b sets vs) o.0 parts) (plive-Sort up Below) o.2 in
          grouped s.0 s.1 (all_rows o.0) (rows_moved _ (λ rows out both. both.0) s.0 o.0 s.2) (ascending_grouped_parts keys inner b sets (phys_live Below) o.0 parts (in_local s.0 o.0 s.2) serves made)

-- ---- different rows

distinct_moved : (xs ys kept : List Env) → IsPermutation xs ys → IsDistinctOf ys kept → IsDistinctOf xs kept
distinct_moved xs ys kept h d = record {
  within = All-weaker (Contains ys) (Contains xs) (λ x c. Contains-permutation ys xs x (IsPermutation-sym xs ys h) c) kept d.within;
  all = All-permutation (Contains kept) ys xs (IsPermutation-sym xs ys h) d.all;
  once = d.once;
}

pub stands_distinct : (n : ℕ) → 0 < n → (b : Bool) (sets : Sets) (p : Plan) → Side n b sets p → (parts : Parts) → PAllows (Q.HashDistinct (served n (N.Keyed (phys_live (chosen n p))) (chosen n p))) b sets n parts → Layer (L.Distinct p) b sets [] [] (all_rows parts)
stands_distinct n some b sets p side parts h =
    let q = chosen n p in
    let vars = phys_live q in
    let o = pfrom_HashDistinct (served n (N.Keyed vars) q) b sets n parts h in
    let m = keyed_moved n some b sets vars q side.delivers o.0 o.1 in
    (all_rows m.input, side.stood m.input m.allowed, distinct_moved (all_rows m.input) (all_rows o.0) (all_rows parts) m.same (distinct_parts vars o.0 parts m.serves o.2))
