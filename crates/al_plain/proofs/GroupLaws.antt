-- Rows cut by the different values of their keys are groups.
use Rattle.std.proofs.Common.{◌≡◌, ◌≢◌, Bool, true, false, not, List, [], ◌∷◌, ◌++◌, map, filter, flat_map, refl, ap, sym, subst, ◌∙◌, arith}
use Rattle.std.specs.List.{All, AllByRecursion, Contains}
use Rattle.std.specs.List.Sorted.{IsPermutation}
use Rattle.std.proofs.lemmas.List.Elements.{All-contains, All-filter, All-map, All-weaker, filter_passes, recursion_from_All, All-from_recursion}
use Rattle.std.proofs.lemmas.List.Sorted.{IsPermutation-refl, IsPermutation-trans, IsPermutation-append_right, IsPermutation-filter_both}
use Rattle.std.proofs.lemmas.Map.Made.{Contains-tail}
use Rattle.al_plan.specs.declared.expr.Var.{Var}
use Rattle.al_plan.specs.Eval.{bind}
use Rattle.al_plan.specs.Allows.{key_of}
use Rattle.al_plan.proofs.Moves.{Apart, apart_from_pairs}
use Rattle.al_plan.proofs.Bools.{by_cases}
use Rattle.al_plain.specs.declared.group.Bunch.{Bunch}
use Rattle.al_plain.specs.Rows.{Cells, AreDistinct}
use Rattle.al_plain.specs.Groups.{key_cells, has_key, group_at, AreGroups}
use Rattle.al_plain.proofs.Lists.{each_map, pairs-map, All-unmap}
use Rattle.al_plain.proofs.ValueLaws.{cells_decide}

no : true ≡ false → ⊥
no e = cc

not_true : (b : Bool) → not b ≡ true → b ≡ true → ⊥
not_true true h e = no (sym h)
not_true false h e = no (sym e)

of_other : (b : Bool) → (b ≡ true → ⊥) → not b ≡ true
of_other true h = absurd (h refl)
of_other false h = refl

filter-filter : {X : Type 0} (p q : X → Bool) → ((x : X) → p x ≡ true → q x ≡ true) → (xs : List X) → filter p (filter q xs) ≡ filter p xs
filter-filter p q f [] = refl
filter-filter p q f (x ∷ xs) =
    by_cases (q x)
    (λ t. rw (t) (by_cases (p x) (λ u. rw (u) (ap (λ ys. x ∷ ys) (filter-filter p q f xs))) (λ u. rw (u) (filter-filter p q f xs))))
    (λ t. by_cases (p x) (λ u. absurd (no (sym (f x u) ∙ t))) (λ u. rw (t, u) (filter-filter p q f xs)))

filter-none : {X : Type 0} (p : X → Bool) (xs : List X) → filter p xs ≡ [] → AllByRecursion (λ x. p x ≡ false) xs
filter-none p [] e = tt
filter-none p (x ∷ xs) e =
    by_cases (p x)
    (λ t. let kept : filter p (x ∷ xs) ≡ x ∷ filter p xs = rw (t) refl in absurd (nothing (sym kept ∙ e)))
    (λ t. let kept : filter p (x ∷ xs) ≡ filter p xs = rw (t) refl in (t, filter-none p xs (sym kept ∙ e)))
  where
    nothing : {Y : Type 0} {y : Y} {ys : List Y} → y ∷ ys ≡ [] → ⊥
    nothing e = cc

flat_map-same : {X Y : Type 0} (f g : X → List Y) (xs : List X) → AllByRecursion (λ x. f x ≡ g x) xs → flat_map f xs ≡ flat_map g xs
flat_map-same f g [] h = refl
flat_map-same f g (x ∷ xs) h = λ i. h.0 i ++ flat_map-same f g xs h.1 i

by_each : {X : Type 0} (P Q : X → Type 0) → ((x : X) → P x → Q x) → (xs : List X) → AllByRecursion P xs → AllByRecursion Q xs
by_each P Q f [] h = tt
by_each P Q f (x ∷ xs) h = (f x h.0, by_each P Q f xs h.1)

module _ {X K : Type 0} (key : X → K) (test : K → X → Bool) (told : (k : K) (x : X) → test k x ≡ true → key x ≡ k) (tested : (k : K) (x : X) → key x ≡ k → test k x ≡ true) where
  gathered : (ks : List K) → Apart ◌≢◌ ks → (xs : List X) → All (λ x. Contains ks (key x)) xs → IsPermutation xs (flat_map (λ k. filter (test k) xs) ks)
  gathered [] apart [] h = IsPermutation-refl []
  gathered [] apart (x ∷ xs) h = absurd (omega (arith, (recursion_from_All (λ x. Contains [] (key x)) (x ∷ xs) h).0.1))
  gathered (k ∷ ks) apart xs h =
      let others = filter (λ x. not (test k x)) xs in
      let none : All (λ x. not (test k x) ≡ true) others = filter_passes (λ x. not (test k x)) xs in
      let kept : All (λ x. Contains (k ∷ ks) (key x)) others = All-filter (λ x. not (test k x)) (λ x. Contains (k ∷ ks) (key x)) xs h in
      let left : All (λ x. Contains ks (key x)) others = λ i d low. Contains-tail k ks _ (λ e. not_true _ (none i d low) (tested k _ (sym e))) (kept i d low) in
      let rest = flat_map-same (λ j. filter (test j) others) (λ j. filter (test j) xs) ks (by_each (λ j. k ≢ j) (λ j. filter (test j) others ≡ filter (test j) xs) (λ j ne. filter-filter (test j) (λ x. not (test k x)) (λ x t. of_other (test k x) (λ u. ne (sym (told k x u) ∙ told j x t))) xs) ks apart.0) in
      IsPermutation-trans _ _ _ (IsPermutation-filter_both (test k) (λ x. not (test k x)) (λ x. refl) xs) (IsPermutation-append_right (filter (test k) xs) _ _ (subst (IsPermutation others) rest (gathered ks apart.1 others left)))

module _ (keys : List (Var × Var)) (vars : List Var) (rows : List Cells) where
  key : Cells → Cells
  key = key_cells keys vars

  told : (k r : Cells) → has_key keys vars k r ≡ true → key r ≡ k
  unfolding has_key key
  told k r h = (cells_decide (key_cells keys vars r) k).0 h

  tested : (k r : Cells) → key r ≡ k → has_key keys vars k r ≡ true
  unfolding has_key key
  tested k r e = (cells_decide (key_cells keys vars r) k).1 e

  members_at : (k : Cells) → (group_at keys vars rows k).members ≡ filter (has_key keys vars k) rows
  unfolding group_at
  members_at k = refl

  head_at : (k : Cells) → (group_at keys vars rows k).head ≡ k
  unfolding group_at
  head_at k = refl

  all_members : (ks : List Cells) → flat_map (λ k. filter (has_key keys vars k) rows) ks ≡ flat_map (λ (g : Bunch). g.members) (map (group_at keys vars rows) ks)
  all_members [] = refl
  all_members (k ∷ ks) = λ i. sym (members_at k) i ++ all_members ks i

  alike_at : (k : Cells) → All (λ r. key_of keys (bind vars r) ≡ (group_at keys vars rows k).head) (group_at keys vars rows k).members
  unfolding group_at key_cells key
  alike_at k = All-weaker (λ r. has_key keys vars k r ≡ true) (λ r. key_of keys (bind vars r) ≡ k) (λ r h. told k r h) (filter (has_key keys vars k) rows) (filter_passes (has_key keys vars k) rows)

  filled_at : (k : Cells) → Contains (map (key_cells keys vars) rows) k → (group_at keys vars rows k).members ≢ []
  unfolding key
  filled_at k there e =
      let none = All-from_recursion (λ r. has_key keys vars k r ≡ false) rows (filter-none (has_key keys vars k) rows (sym (members_at k) ∙ e)) in
      let others = each_map (λ r. has_key keys vars k r ≡ false) (λ y. y ≢ k) (key_cells keys vars) (λ r f same. no (sym (tested k r same) ∙ f)) rows none in
      All-contains (λ y. y ≢ k) (map (key_cells keys vars) rows) k others there refl

  pub groups_are : (ks : List Cells) → AreDistinct (map (key_cells keys vars) rows) ks → AreGroups keys vars rows (map (group_at keys vars rows) ks)
  unfolding key
  groups_are ks d =
      let reached = All-unmap (Contains ks) (key_cells keys vars) rows d.every in
      record {
        moved = subst (IsPermutation rows) (all_members ks) (gathered key (has_key keys vars) told tested ks (apart_from_pairs ◌≢◌ ks d.once) rows reached);
        alike = All-map (λ (g : Bunch). All (λ r. key_of keys (bind vars r) ≡ g.head) g.members) (group_at keys vars rows) ks (λ i k low. alike_at _);
        filled = each_map (Contains (map (key_cells keys vars) rows)) (λ (g : Bunch). g.members ≢ []) (group_at keys vars rows) (λ k there. filled_at k there) ks d.within;
        apart = pairs-map (λ k. Unit {0}) ◌≢◌ (λ (g h : Bunch). g.head ≢ h.head) (group_at keys vars rows) (λ a b p q ne e. ne (sym (head_at a) ∙ e ∙ head_at b)) ks (λ i k low. tt) d.once;
      }
