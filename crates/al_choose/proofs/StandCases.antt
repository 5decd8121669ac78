-- What is chosen for an operator allows what the operator allows, where its inputs stand for their plans.
use Rattle.std.proofs.Common.{◌≡◌, ◌<◌, ◌+◌, ℕ, Bool, true, false, List, [], ◌∷◌, map, flat_map, drop, take, length, refl, ap, sym, subst, ◌∙◌, arith}
use Rattle.std.specs.Prelude.{nat_eq, if◌then◌else◌, ◌||◌}
use Rattle.std.specs.List.{AllByRecursion, AllZip}
use Rattle.std.specs.List.Sorted.{IsPermutation, IsSorted}
use Rattle.std.proofs.lemmas.List.Elements.{All-from_recursion}
use Rattle.std.proofs.lemmas.List.Sorted.{IsPermutation-trans}
use Rattle.al_plan.specs.declared.expr.Var.{Var}
use Rattle.al_plan.specs.declared.expr.Expr.{Expr}
use Rattle.al_plan.specs.declared.plan.OrderKey.{OrderKey}
use Rattle.al_plan.specs.declared.plan.AggCall.{AggCall}
use Rattle.al_plan.specs.declared.plan.Generator.{Generator}
use Rattle.al_plan.specs.declared.plan.Plan.{Plan}
use Rattle.al_plan.specs.declared.plan.Plan.TheOpen as L
use Rattle.al_plan.specs.Eval.{Bytes, Env, bind, holds}
use Rattle.al_plan.specs.Allows.{Sets, Allows, Gives, live, ordered, nulls, cut, beside, assigned, expanded, renamed, agg_row, keys_cmp, IsOrderOf, IsChecked}
use Rattle.al_plan.proofs.Bools.{no, by_cases}
use Rattle.al_plan.proofs.PlanLaws.{Layer}
use Rattle.al_plan.proofs.Orders.{free}
use Rattle.al_plan.proofs.Moves.{IsPermutation-same}
use Rattle.al_phys.specs.declared.phys.Phys.{Phys}
use Rattle.al_phys.specs.declared.phys.Phys.TheVariants as Q
use Rattle.al_phys.specs.declared.property.Need.TheVariants as N
use Rattle.al_phys.specs.Parts.{Parts, HasParts, Serves, in_first, first_part}
use Rattle.al_phys.specs.PAllows.{PAllows}
use Rattle.al_phys.specs.Properties.{meets, parts_of, is_unpartitioned}
use Rattle.al_phys.proofs.PhysLaws.{pfrom_Scan, pfrom_One, pfrom_Assign, pfrom_Select, pfrom_Project, pfrom_Unnest, pfrom_Subplan, pfrom_Check, pfrom_AggPart, pfrom_AggFinal, pfrom_Union, pfrom_Sort, pfrom_Limit, pfrom_LocalLimit, pfrom_Result, pfrom_Gather, pfrom_Merge}
use Rattle.al_phys.proofs.PropertyLaws.{spread-AggPart}
use Rattle.al_phys.proofs.CountLaws.{many}
use Rattle.al_phys.proofs.MeetsLaws.{one_serves, is_one}
use Rattle.al_phys.proofs.FlowLaws.{follows-cut}
use Rattle.al_phys.proofs.PartLaws.{interleaves_permutation, first_parts}
use Rattle.al_choose.specs.Chosen.{served, merge_over, limit_over, is_rank, chosen}
use Rattle.al_choose.proofs.StandParts.{all_rows, IsOne, rows_mapped, rows_filtered, rows_expanded, rows_zipped, rows_all, rows_moved, rows_first, first_first, one_rows, one_done}
use Rattle.al_choose.proofs.StandMoves.{dealt_rows, union_rows, limit_rows}
use Rattle.al_choose.proofs.StandChosen.{ordered_one, more_meets}
use Rattle.al_choose.proofs.ServedOf.{served_any}
use Rattle.al_choose.proofs.StandServed.{Delivers, Side, met_one, gathered, gathered_first, served_one}

in_order : (t : Bool) (xs ys : List Env) → ys ≡ xs → IsOrderOf t xs ys
in_order true xs ys e = e
in_order false xs ys e = IsPermutation-same xs ys (sym e)

checked : (b : Bool) (P R : Type 0) → (P → R) → IsChecked b P → IsChecked b R
checked true P R f h = tt
checked false P R f h = f h

-- each part is sorted, and so is the first
pub all_sorted : (keys : List OrderKey) (input parts : Parts) → AllZip (λ rows out. IsPermutation rows out × IsSorted (keys_cmp keys) out) input parts → AllByRecursion (IsSorted (keys_cmp keys)) parts
all_sorted keys [] [] z = tt
all_sorted keys [] (out ∷ parts) z = absurd z
all_sorted keys (rows ∷ input) [] z = absurd z
all_sorted keys (rows ∷ input) (out ∷ parts) z = (z.0.1, all_sorted keys input parts z.1)

first_sorted : (keys : List OrderKey) (parts : Parts) → AllByRecursion (IsSorted (keys_cmp keys)) parts → IsSorted (keys_cmp keys) (first_part parts)
first_sorted keys [] h = λ k d low high. absurd (omega arith)
first_sorted keys (rows ∷ parts) h = h.0

module _ (n : ℕ) (some : 0 < n) (b : Bool) (sets : Sets) (parts : Parts) where
  -- an operator over an input that is as it was
  pub unserved : (over : Phys → Phys) (q : Phys) → PAllows (over (served n N.Any q)) b sets n parts → PAllows (over q) b sets n parts
  unserved over q h = subst (λ (r : Phys). PAllows (over r) b sets n parts) (served_any n q) h

  pub stands_scan : (set : Bytes) (vars : List Var) → PAllows (Q.Scan set vars) b sets n parts → Layer (L.Scan set vars) b sets [] [] (all_rows parts)
  stands_scan set vars h = dealt_rows n (map (bind vars) (sets set)) parts some (pfrom_Scan set vars b sets n parts h)

  pub stands_empty : PAllows Q.One b sets n parts → Layer L.Empty b sets [] [] (all_rows parts)
  stands_empty h = ap all_rows (pfrom_One b sets n parts h) ∙ rows_first n (nulls ∷ []) some

  pub stands_assign : (made : List (Var × Expr)) (p : Plan) → Side n b sets p → PAllows (Q.Assign made (served n N.Any (chosen n p))) b sets n parts → Layer (L.Assign made p) b sets [] [] (all_rows parts)
  stands_assign made p side h =
      let o = pfrom_Assign made (chosen n p) b sets n parts (unserved (Q.Assign made) (chosen n p) h) in
      (all_rows o.0, side.stood o.0 o.1, rows_mapped (assigned made) o.0 parts o.2)

  pub stands_select : (c : Expr) (p : Plan) → Side n b sets p → PAllows (Q.Select c (served n N.Any (chosen n p))) b sets n parts → Layer (L.Select c p) b sets [] [] (all_rows parts)
  stands_select c p side h =
      let o = pfrom_Select c (chosen n p) b sets n parts (unserved (Q.Select c) (chosen n p) h) in
      (all_rows o.0, side.stood o.0 o.1, rows_filtered (holds c) o.0 parts o.2)

  pub stands_project : (vars : List Var) (p : Plan) → Side n b sets p → PAllows (Q.Project vars (served n N.Any (chosen n p))) b sets n parts → Layer (L.Project vars p) b sets [] [] (all_rows parts)
  stands_project vars p side h =
      let o = pfrom_Project vars (chosen n p) b sets n parts (unserved (Q.Project vars) (chosen n p) h) in
      (all_rows o.0, side.stood o.0 o.1, rows_mapped (cut vars) o.0 parts o.2)

  pub stands_unnest : (v : Var) (its : Generator) (p : Plan) → Side n b sets p → PAllows (Q.Unnest v its (served n N.Any (chosen n p))) b sets n parts → Layer (L.Unnest v its p) b sets [] [] (all_rows parts)
  stands_unnest v its p side h =
      let o = pfrom_Unnest v its (chosen n p) b sets n parts (unserved (Q.Unnest v its) (chosen n p) h) in
      (all_rows o.0, side.stood o.0 o.1, in_order (ordered p) (flat_map (expanded v its) (all_rows o.0)) (all_rows parts) (rows_expanded (expanded v its) o.0 parts o.2))

  pub stands_subplan : (inner p : Plan) → Side n b sets p → PAllows (Q.Subplan inner (served n N.Any (chosen n p))) b sets n parts → Layer (L.Subplan inner p) b sets [] [] (all_rows parts)
  stands_subplan inner p side h =
      let o = pfrom_Subplan inner (chosen n p) b sets n parts (unserved (Q.Subplan inner) (chosen n p) h) in (
        all_rows o.0,
        side.stood o.0 o.1,
        subst (λ (vs : List Var). AllZip (λ r row. Gives (Allows inner) b sets vs (r ∷ []) (λ one. row ≡ beside (live inner vs) one r)) (all_rows o.0) (all_rows parts)) side.live (rows_zipped _ o.0 parts o.2),
      )

  pub stands_check : (own : Bytes) (c : Expr) (p : Plan) → Side n b sets p → PAllows (Q.Check own c (served n N.Any (chosen n p))) b sets n parts → Layer (L.Check own c p) b sets [] [] (all_rows parts)
  stands_check own c p side h =
      let o = pfrom_Check own c (chosen n p) b sets n parts (unserved (Q.Check own c) (chosen n p) h) in
      (side.stood parts o.0, checked b _ _ (rows_all (λ r. holds c r ≡ true) parts) o.1)

  pub stands_union : (made ls rs : List Var) (l r : Plan) → Side n b sets l → Side n b sets r → PAllows (Q.Union made ls rs (served n N.Any (chosen n l)) (served n N.Any (chosen n r))) b sets n parts → Layer (L.Union made ls rs l r) b sets [] [] (all_rows parts)
  stands_union made ls rs l r left right h =
      let first = unserved (λ x. Q.Union made ls rs x (served n N.Any (chosen n r))) (chosen n l) h in
      let o = pfrom_Union made ls rs (chosen n l) (chosen n r) b sets n parts (unserved (Q.Union made ls rs (chosen n l)) (chosen n r) first) in
      let long = many (chosen n l) b sets n o.0 o.1 ∙ sym (many (chosen n r) b sets n o.2.0 o.2.1) in
      (all_rows o.0, left.stood o.0 o.1, (all_rows o.2.0, right.stood o.2.0 o.2.1, union_rows (renamed made ls) (renamed made rs) o.0 o.2.0 parts long o.2.2))

  pub stands_result : (vars : List Var) (p : Plan) → Side n b sets p → PAllows (Q.Result vars (served n N.One (chosen n p))) b sets n parts → Layer (L.Result vars p) b sets [] [] (all_rows parts)
  stands_result vars p side h =
      let o = pfrom_Result vars (served n N.One (chosen n p)) b sets n parts h in
      (all_rows o.0, (served_one n some b sets p side o.0 o.1).1, rows_mapped (cut vars) o.0 parts o.2)

-- ---- aggregates

module _ (n : ℕ) (some : 0 < n) (b : Bool) (sets : Sets) (made : List (Var × AggCall)) (p : Plan) (side : Side n b sets p) where
  -- the partial states stand in one part for one partition alone
  states_alone : (q : Phys) → meets (parts_of (Q.AggPart made q) n) N.One n ≡ true → n ≡ 1
  states_alone q e =
      is_one n
      (by_cases (nat_eq n 1) (λ one. one)
      (λ more. absurd (no (sym e ∙ more_meets n N.One (Q.AggPart made q) more ∙ ap is_unpartitioned (spread-AggPart made q)))))

  one_first_part : (input : Parts) → length input ≡ 1 → all_rows input ≡ first_part input
  unfolding Serves
  one_first_part input e = one_rows input (one_serves N.One input e)

  states : (input : Parts) → PAllows (served n N.One (Q.AggPart made (chosen n p))) b sets n input → Allows p b sets [] [] (first_part input)
  states input h = go (meets (parts_of (Q.AggPart made (chosen n p)) n) N.One n) refl h
    where
      go : (t : Bool) → meets (parts_of (Q.AggPart made (chosen n p)) n) N.One n ≡ t → PAllows (if t then Q.AggPart made (chosen n p) else Q.Gather (Q.AggPart made (chosen n p))) b sets n input → Allows p b sets [] [] (first_part input)
      go true e h =
          let o = pfrom_AggPart made (chosen n p) b sets n input h in
          subst (Allows p b sets [] []) (one_first_part input (many (chosen n p) b sets n input o ∙ states_alone (chosen n p) e)) (side.stood input o)
      go false e h =
          let o = pfrom_Gather (Q.AggPart made (chosen n p)) b sets n input h in
          subst (Allows p b sets [] []) (sym (ap first_part o.2.2 ∙ first_first n o.2.0 some)) (gathered n some b sets p side o.0 o.2.0 (pfrom_AggPart made (chosen n p) b sets n o.0 o.1) o.2.1)

  pub stands_aggregate : (parts : Parts) → PAllows (Q.AggFinal made (served n N.One (Q.AggPart made (served n N.Any (chosen n p))))) b sets n parts → Layer (L.Aggregate made p) b sets [] [] (all_rows parts)
  stands_aggregate parts h =
      let plain = unserved n some b sets parts (λ r. Q.AggFinal made (served n N.One (Q.AggPart made r))) (chosen n p) h in
      let o = pfrom_AggFinal made (served n N.One (Q.AggPart made (chosen n p))) b sets n parts plain in
      (first_part o.0, states o.0 o.1, ap all_rows o.2 ∙ rows_first n (agg_row made (first_part o.0) ∷ []) some)

-- ---- orders

module _ (n : ℕ) (some : 0 < n) (b : Bool) (sets : Sets) (keys : List OrderKey) (p : Plan) (side : Side n b sets p) (parts : Parts) where
  each_sorted : (q : Phys) → q ≡ chosen n p → (input : Parts) → PAllows q b sets n input → AllZip (λ rows out. IsPermutation rows out × IsSorted (keys_cmp keys) out) input parts → IsOne parts → Layer (L.Order keys p) b sets [] [] (all_rows parts)
  each_sorted q e input h z one = (
    all_rows input,
    side.stood input (subst (λ (r : Phys). PAllows r b sets n input) e h),
    (rows_moved _ (λ rows out both. both.0) input parts z, subst (IsSorted (keys_cmp keys)) (sym (one_rows parts one)) (first_sorted keys parts (all_sorted keys input parts z))),
  )

  -- the parts are sorted, and merged where there is more than one
  pub stands_order : Delivers n (merge_over n keys (Q.Sort keys (served n N.Any (chosen n p)))) → PAllows (merge_over n keys (Q.Sort keys (served n N.Any (chosen n p)))) b sets n parts → Layer (L.Order keys p) b sets [] [] (all_rows parts)
  stands_order delivers h = go (served n N.Any (chosen n p)) (served_any n (chosen n p)) (meets (parts_of (Q.Sort keys (served n N.Any (chosen n p))) n) N.One n) refl delivers h
    where
      go : (q : Phys) → q ≡ chosen n p → (t : Bool) → meets (parts_of (Q.Sort keys q) n) N.One n ≡ t → Delivers n (if t then Q.Sort keys q else Q.Merge keys (Q.Sort keys q)) → PAllows (if t then Q.Sort keys q else Q.Merge keys (Q.Sort keys q)) b sets n parts
          → Layer (L.Order keys p) b sets [] [] (all_rows parts)
      go q same true e delivers h =
          let o = pfrom_Sort keys q b sets n parts h in
          each_sorted q same o.0 o.1 o.2 (met_one n some b sets (Q.Sort keys q) delivers e parts h)
      go q same false e delivers h =
          let o = pfrom_Merge keys (Q.Sort keys q) b sets n parts h in
          let s = pfrom_Sort keys q b sets n o.0 o.1 in
          let all = ap all_rows o.2.3 ∙ rows_first n o.2.0 some in
          let moved = IsPermutation-trans _ _ _ (rows_moved (λ rows out. IsPermutation rows out × IsSorted (keys_cmp keys) out) (λ rows out both. both.0) s.0 o.0 s.2) (interleaves_permutation o.0 o.2.0 o.2.1) in (
            all_rows s.0,
            side.stood s.0 (subst (λ (r : Phys). PAllows r b sets n s.0) same s.1),
            (subst (IsPermutation (all_rows s.0)) (sym all) moved, subst (IsSorted (keys_cmp keys)) (sym all) (o.2.2 (All-from_recursion (IsSorted (keys_cmp keys)) o.0 (all_sorted keys s.0 o.0 s.2)))),
          )

-- ---- limits

or_true : (b : Bool) → (b || true) ≡ true
or_true true = refl
or_true false = refl

module _ (n : ℕ) (some : 0 < n) (b : Bool) (sets : Sets) (m k : ℕ) (p : Plan) (side : Side n b sets p) (parts : Parts) where
  abbrev Limited : Type 0
  Limited = Layer (L.Limit m k p) b sets [] [] (all_rows parts)

  -- a limit over an input whose rows stand in one part
  over_one : (input : Parts) (all : List Env) → AllZip (λ rows out. out ≡ take m (drop k rows)) input parts → IsOne input → Allows p b sets [] [] all → take m (drop k (all_rows input)) ≡ take m (drop k all) → Limited
  over_one input all z one allowed e = (all, allowed, one_done (λ rows. take m (drop k rows)) (follows-cut [] m k []) input parts one z ∙ e)

  cut_first : (input : Parts) (zs all : List Env) → input ≡ in_first n zs → take m (drop k zs) ≡ take m (drop k all) → take m (drop k (all_rows input)) ≡ take m (drop k all)
  cut_first input zs all e same = ap (λ (xs : List Env). take m (drop k xs)) (ap all_rows e ∙ rows_first n zs some) ∙ same

  -- an ordered plan has its rows in one part, with no gather above
  not_ordered : meets (parts_of (chosen n p) n) N.One n ≡ false → ordered p ≡ false
  not_ordered e =
      by_cases (ordered p)
      (λ o. absurd (no (sym (ap (λ d. nat_eq n 1 || is_unpartitioned d) (ordered_one n p o) ∙ or_true (nat_eq n 1)) ∙ e)))
      (λ f. f)

  pub stands_limit : PAllows (limit_over n m k (chosen n p)) b sets n parts → Layer (L.Limit m k p) b sets [] [] (all_rows parts)
  unfolding HasParts
  stands_limit h = go (meets (parts_of (chosen n p) n) N.One n) (is_rank (m + k)) refl h
    where
      go : (t u : Bool) → meets (parts_of (chosen n p) n) N.One n ≡ t → PAllows (if t then Q.Limit m k (chosen n p) else if u then Q.Limit m k (Q.Gather (Q.LocalLimit (m + k) (chosen n p))) else Q.Limit m k (Q.Gather (chosen n p))) b sets n parts → Limited
      go true u e h =
          let o = pfrom_Limit m k (chosen n p) b sets n parts h in
          over_one o.0 (all_rows o.0) o.2 (met_one n some b sets (chosen n p) side.delivers e o.0 o.1) (side.stood o.0 o.1) refl
      go false true e h =
          let o = pfrom_Limit m k (Q.Gather (Q.LocalLimit (m + k) (chosen n p))) b sets n parts h in
          let g = pfrom_Gather (Q.LocalLimit (m + k) (chosen n p)) b sets n o.0 o.1 in
          let l = pfrom_LocalLimit (m + k) (chosen n p) b sets n g.0 g.1 in
          let cut = limit_rows m k l.0 g.0 g.2.0 l.2 g.2.1 in
          over_one o.0 cut.0 o.2 (first_parts n g.2.0 o.0 g.2.2) (free p (not_ordered e) b sets [] [] (all_rows l.0) cut.0 (side.stood l.0 l.1) cut.1) (cut_first o.0 g.2.0 cut.0 g.2.2 cut.2)
      go false false e h =
          let o = pfrom_Limit m k (Q.Gather (chosen n p)) b sets n parts h in
          let g = pfrom_Gather (chosen n p) b sets n o.0 o.1 in
          let first = gathered_first n some b sets p side o.0 g.0 g.2.0 g.1 g.2.1 g.2.2 in
          over_one o.0 (all_rows o.0) o.2 first.0 first.1 refl
