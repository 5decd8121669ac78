-- Each row that a plan allows is NULL but at the plan's live variables.
use Rattle.std.proofs.Common.{◌≡◌, Bool, true, false, List, [], ◌∷◌, ◌++◌, map, flat_map, drop, refl, ap, sym, subst, ◌∙◌}
use Rattle.std.specs.Prelude.{nat_eq, if◌then◌else◌, ◌||◌}
use Rattle.std.specs.Cmp.Lexicographic.{pointwise}
use Rattle.std.specs.List.{All, AllByRecursion, Contains, AllZip}
use Rattle.std.proofs.lemmas.List.Folds.{list_any-append}
use Rattle.std.proofs.lemmas.List.Elements.{All-from_recursion, recursion_from_All, All-weaker, All-append, All-map, All-filter, All-take, All-drop, All-contains}
use Rattle.std.proofs.lemmas.List.Sorted.{All-permutation}
use Rattle.al_value.specs.declared.value.Value.{Value}
use Rattle.al_value.specs.declared.value.Value.TheVariants as V
use Rattle.al_plan.specs.declared.expr.Var.{Var}
use Rattle.al_plan.specs.declared.expr.Expr.{Expr}
use Rattle.al_plan.specs.declared.plan.Plan.{Plan, map-Plan, roll-Plan, ind-Plan}
use Rattle.al_plan.specs.declared.plan.Plan.TheOpen as L
use Rattle.al_plan.specs.Eval.{Bytes, Env, bind, holds}
use Rattle.al_plan.specs.Calls.{items}
use Rattle.al_plan.specs.Allows.{Sets, Allows, ordered, live, live_step, is_among, IsOrderOf, Group, rows_in, key_of, new_of, with_new, assigned, expanded, cut, beside, nulls, agg_row, renamed, pairs, left_pairs, matches, or_alone, Gives}
use Rattle.al_plan.specs.Refines.{IsWithin}
use Rattle.al_plan.proofs.PlanLaws.{live-roll}
use Rattle.al_plan.proofs.EvalLaws.{bind-nil, bind-short, bind-cons}
use Rattle.al_plan.proofs.Orders.{unroll}

or_left : (a b : Bool) → (a || b) ≡ false → a ≡ false
or_left true b h = h
or_left false b h = refl

or_right : (a b : Bool) → (a || b) ≡ false → b ≡ false
or_right true b h = absurd (cc)
or_right false b h = h

pub is_among-append : (xs ys : List Var) (q : Bytes) → is_among (xs ++ ys) q ≡ (is_among xs q || is_among ys q)
is_among-append xs ys q = list_any-append (λ v. pointwise nat_eq v.name q) xs ys

pub not_left : (xs ys : List Var) (q : Bytes) → is_among (xs ++ ys) q ≡ false → is_among xs q ≡ false
not_left xs ys q h = or_left _ _ (sym (is_among-append xs ys q) ∙ h)

pub not_right : (xs ys : List Var) (q : Bytes) → is_among (xs ++ ys) q ≡ false → is_among ys q ≡ false
not_right xs ys q h = or_right _ _ (sym (is_among-append xs ys q) ∙ h)

pub within-bind : (vars : List Var) (vs : List Value) → IsWithin vars (bind vars vs)
within-bind [] vs q h = bind-nil vs q
within-bind (x ∷ vars) [] q h = bind-short (x ∷ vars) q
within-bind (x ∷ vars) (v ∷ vs) q h =
    bind-cons x vars v vs q
    ∙ ap (λ b. if b then v else bind vars vs q) (or_left (pointwise nat_eq x.name q) (is_among vars q) h)
    ∙ within-bind vars vs q (or_right (pointwise nat_eq x.name q) (is_among vars q) h)

pub within-cut : (vars : List Var) (r : Env) → IsWithin vars (cut vars r)
within-cut vars r q h = ap (λ b. if b then r q else V.Null) h

pub within-beside : (xs ys : List Var) (a b : Env) → IsWithin ys b → IsWithin (ys ++ xs) (beside xs a b)
within-beside xs ys a b w q h = ap (λ t. if t then a q else b q) (not_right ys xs q h) ∙ w q (not_left ys xs q h)

pub within-after : (xs ys : List Var) (a b : Env) → IsWithin ys b → IsWithin (xs ++ ys) (beside xs a b)
within-after xs ys a b w q h = ap (λ t. if t then a q else b q) (not_left xs ys q h) ∙ w q (not_right xs ys q h)

within-nulls : (vars : List Var) → IsWithin vars nulls
within-nulls vars q h = refl

All-flat_map : {X Y : Type 0} (P : Y → Type 0) (f : X → List Y) (xs : List X) → AllByRecursion (λ x. All P (f x)) xs → All P (flat_map f xs)
All-flat_map P f [] h = All-from_recursion P [] tt
All-flat_map P f (x ∷ xs) h = All-append P (f x) _ h.0 (All-flat_map P f xs h.1)

-- what holds of one of each zipped pair gives what holds of the other
pub zip_all : {X Y : Type 0} (P : X → Type 0) (Q : Y → Type 0) (R : X → Y → Type 0) → ((x : X) (y : Y) → P x → R x y → Q y) → (xs : List X) (ys : List Y) → AllByRecursion P xs → AllZip R xs ys → AllByRecursion Q ys
zip_all P Q R f [] [] p h = tt
zip_all P Q R f [] (y ∷ ys) p h = absurd h
zip_all P Q R f (x ∷ xs) [] p h = absurd h
zip_all P Q R f (x ∷ xs) (y ∷ ys) p h = (f x y p.0 h.0, zip_all P Q R f xs ys p.1 h.1)

halves : {Y : Type 0} (P : Y → Type 0) (xs ys : List Y) → AllByRecursion P (xs ++ ys) → AllByRecursion P xs × AllByRecursion P ys
halves P [] ys h = (tt, h)
halves P (x ∷ xs) ys h = let more = halves P xs ys h.1 in ((h.0, more.0), more.1)

-- what holds of each row holds of each row of each group
pub in_groups : (P : Env → Type 0) (groups : List Group) → AllByRecursion P (flat_map rows_in groups) → AllByRecursion (λ g. All P (rows_in g)) groups
in_groups P [] h = tt
in_groups P (g ∷ gs) h = let both = halves P (rows_in g) (flat_map rows_in gs) h in (All-from_recursion P (rows_in g) both.0, in_groups P gs both.1)

same_one : (P : Env → Type 0) (r : Env) (rows : List Env) → rows ≡ r ∷ [] → P r → All P rows
same_one P r rows e h = subst (All P) (sym e) (All-from_recursion P (r ∷ []) (h, tt))

the_one : (P : Env → Type 0) (r : Env) → All P (r ∷ []) → P r
the_one P r h = (recursion_from_All P (r ∷ []) h).0

each_map : {X Y : Type 0} (P : X → Type 0) (Q : Y → Type 0) (f : X → Y) → ((x : X) → P x → Q (f x)) → (xs : List X) → All P xs → All Q (map f xs)
each_map P Q f g xs h = All-map Q f xs (All-weaker P (λ x. Q (f x)) g xs h)

each_flat : {X Y : Type 0} (P : X → Type 0) (Q : Y → Type 0) (f : X → List Y) → ((x : X) → P x → All Q (f x)) → (xs : List X) → All P xs → All Q (flat_map f xs)
each_flat P Q f g xs h = All-flat_map Q f xs (recursion_from_All (λ x. All Q (f x)) xs (All-weaker P (λ x. All Q (f x)) g xs h))

in_order : (P : Env → Type 0) (t : Bool) (xs ys : List Env) → IsOrderOf t xs ys → All P xs → All P ys
in_order P true xs ys e h = subst (All P) (sym e) h
in_order P false xs ys e h = All-permutation P xs ys e h

within-matches : (xs ys : List Var) (c : Expr) (rs : List Env) (l : Env) → All (IsWithin ys) rs → All (IsWithin (xs ++ ys)) (matches xs c rs l)
within-matches xs ys c rs l h = All-filter (holds c) (IsWithin (xs ++ ys)) (map (beside xs l) rs) (each_map (IsWithin ys) (IsWithin (xs ++ ys)) (beside xs l) (λ r w. within-after xs ys l r w) rs h)

within-or_alone : (xs ys : List Var) (l : Env) (rows : List Env) → All (IsWithin (xs ++ ys)) rows → All (IsWithin (xs ++ ys)) (or_alone (beside xs l nulls) rows)
within-or_alone xs ys l [] h = All-from_recursion (IsWithin (xs ++ ys)) (beside xs l nulls ∷ []) (within-after xs ys l nulls (within-nulls ys), tt)
within-or_alone xs ys l (r ∷ rows) h = h

abbrev pub StaysWithin : Plan → Type 0
StaysWithin p = (b : Bool) (sets : Sets) (given : List Var) (outer rows : List Env) → All (IsWithin given) outer → Allows p b sets given outer rows → All (IsWithin (live p given)) rows

module _ {S : Type 0} (up : S → Plan) (ih : (s : S) → StaysWithin (up s)) where
  -- the live variables of the layer, and what its rows are in
  by_layer : (x : L.Plan-F Plan) (vars given : List Var) (rows : List Env) → live (roll-Plan x) given ≡ vars → All (IsWithin vars) rows → All (IsWithin (live (roll-Plan x) given)) rows
  by_layer x vars given rows e h = subst (λ (vs : List Var). All (IsWithin vs) rows) (sym e) h

  live_is : (x : L.Plan-F Plan) (given : List Var) → live (roll-Plan x) given ≡ live_step (map-Plan Plan (List Var → List Var) live x) given
  live_is x given = ap (λ (f : List Var → List Var). f given) (live-roll x)

  layer : (y : L.Plan-F S) → StaysWithin (roll-Plan (map-Plan S Plan up y))
  layer (L.Scan set vars) b sets given outer rows w h =
      by_layer (L.Scan set vars) vars given rows (live_is (L.Scan set vars) given) (All-permutation (IsWithin vars) (map (bind vars) (sets set)) rows (unroll (L.Scan set vars) b sets given outer rows h) (All-map (IsWithin vars) (bind vars) (sets set) (λ k d lt. within-bind vars _)))
  layer L.Empty b sets given outer rows w h =
      by_layer L.Empty [] given rows (live_is L.Empty given) (same_one (IsWithin []) nulls rows (unroll L.Empty b sets given outer rows h) (within-nulls []))
  layer L.Nested b sets given outer rows w h =
      by_layer L.Nested given given rows (live_is L.Nested given) (All-permutation (IsWithin given) outer rows (unroll L.Nested b sets given outer rows h) w)
  layer (L.Assign made s) b sets given outer rows w h =
      let o = unroll (L.Assign made (up s)) b sets given outer rows h in
      let vars = live (up s) given in
      by_layer (L.Assign made (up s)) (vars ++ map (λ m. m.0) made) given rows (live_is (L.Assign made (up s)) given)
      (subst (All (IsWithin (vars ++ map (λ m. m.0) made))) (sym o.2) (each_map (IsWithin vars) (IsWithin (vars ++ map (λ m. m.0) made)) (assigned made) (λ r i. within-beside (map (λ m. m.0) made) vars _ r i) o.0 (ih s b sets given outer o.0 w o.1)))
  layer (L.Select c s) b sets given outer rows w h =
      let o = unroll (L.Select c (up s)) b sets given outer rows h in
      let vars = live (up s) given in
      by_layer (L.Select c (up s)) vars given rows (live_is (L.Select c (up s)) given) (subst (All (IsWithin vars)) (sym o.2) (All-filter (holds c) (IsWithin vars) o.0 (ih s b sets given outer o.0 w o.1)))
  layer (L.Project vars s) b sets given outer rows w h =
      let o = unroll (L.Project vars (up s)) b sets given outer rows h in
      by_layer (L.Project vars (up s)) vars given rows (live_is (L.Project vars (up s)) given) (subst (All (IsWithin vars)) (sym o.2) (All-map (IsWithin vars) (cut vars) o.0 (λ k d lt. within-cut vars _)))
  layer (L.Unnest v g s) b sets given outer rows w h =
      let o = unroll (L.Unnest v g (up s)) b sets given outer rows h in
      let vars = live (up s) given in
      let whole = each_flat (IsWithin vars) (IsWithin (vars ++ v ∷ [])) (expanded v g) (λ r i. All-map (IsWithin (vars ++ v ∷ [])) (λ x. with_new (v ∷ []) (x ∷ []) r) (items g r) (λ k d lt. within-beside (v ∷ []) vars _ r i)) o.0 (ih s b sets given outer o.0 w o.1) in
      by_layer (L.Unnest v g (up s)) (vars ++ v ∷ []) given rows (live_is (L.Unnest v g (up s)) given) (in_order (IsWithin (vars ++ v ∷ [])) (ordered (up s)) _ rows o.2 whole)
  layer (L.Subplan n s) b sets given outer rows w h =
      let o = unroll (L.Subplan (up n) (up s)) b sets given outer rows h in
      let vars = live (up s) given in
      let news = live (up n) vars in
      by_layer (L.Subplan (up n) (up s)) (vars ++ news) given rows (live_is (L.Subplan (up n) (up s)) given)
      (All-from_recursion (IsWithin (vars ++ news)) rows (zip_all (IsWithin vars) (IsWithin (vars ++ news)) (λ r row. Gives (Allows (up n)) b sets vars (r ∷ []) (λ inner. row ≡ beside news inner r))
      (λ r row i g. subst (IsWithin (vars ++ news)) (sym g.2) (within-beside news vars g.0 r i)) o.0 rows (recursion_from_All (IsWithin vars) o.0 (ih s b sets given outer o.0 w o.1)) o.2))
  layer (L.Join c l r) b sets given outer rows w h =
      let o = unroll (L.Join c (up l) (up r)) b sets given outer rows h in
      let xs = live (up l) given in
      let ys = live (up r) given in
      let right = ih r b sets given outer o.2.0 w o.2.1 in
      by_layer (L.Join c (up l) (up r)) (xs ++ ys) given rows (live_is (L.Join c (up l) (up r)) given)
      (All-permutation (IsWithin (xs ++ ys)) (pairs xs c o.0 o.2.0) rows o.2.2 (each_flat (IsWithin xs) (IsWithin (xs ++ ys)) (matches xs c o.2.0) (λ l i. within-matches xs ys c o.2.0 l right) o.0 (ih l b sets given outer o.0 w o.1)))
  layer (L.LeftJoin c l r) b sets given outer rows w h =
      let o = unroll (L.LeftJoin c (up l) (up r)) b sets given outer rows h in
      let xs = live (up l) given in
      let ys = live (up r) given in
      let right = ih r b sets given outer o.2.0 w o.2.1 in
      by_layer (L.LeftJoin c (up l) (up r)) (xs ++ ys) given rows (live_is (L.LeftJoin c (up l) (up r)) given)
      (All-permutation (IsWithin (xs ++ ys)) (left_pairs xs c o.0 o.2.0) rows o.2.2 (each_flat (IsWithin xs) (IsWithin (xs ++ ys)) (λ l. or_alone (beside xs l nulls) (matches xs c o.2.0 l)) (λ l i. within-or_alone xs ys l _ (within-matches xs ys c o.2.0 l right)) o.0 (ih l b sets given outer o.0 w o.1)))
  layer (L.Group keys n s) b sets given outer rows w h =
      let o = unroll (L.Group keys (up n) (up s)) b sets given outer rows h in
      let vars = live (up s) given in
      let news = live (up n) vars in
      let parts = in_groups (IsWithin vars) o.2.0 (recursion_from_All (IsWithin vars) _ (All-permutation (IsWithin vars) o.0 (flat_map rows_in o.2.0) o.2.2.moved (ih s b sets given outer o.0 w o.1))) in
      by_layer (L.Group keys (up n) (up s)) (new_of keys ++ news) given rows (live_is (L.Group keys (up n) (up s)) given)
      (All-permutation (IsWithin (new_of keys ++ news)) o.2.1 rows o.2.4 (All-from_recursion (IsWithin (new_of keys ++ news)) o.2.1
      (zip_all (λ g. All (IsWithin vars) (rows_in g)) (IsWithin (new_of keys ++ news)) (λ g row. Gives (Allows (up n)) b sets vars (rows_in g) (λ inner. row ≡ with_new (new_of keys) (key_of keys g.0) inner))
      (λ g row i one. subst (IsWithin (new_of keys ++ news)) (sym one.2) (within-after (new_of keys) news _ one.0 (the_one (IsWithin news) one.0 (ih n b sets vars (rows_in g) (one.0 ∷ []) i one.1)))) o.2.0 o.2.1 parts o.2.3)))
  layer (L.Distinct s) b sets given outer rows w h =
      let o = unroll (L.Distinct (up s)) b sets given outer rows h in
      let vars = live (up s) given in
      let all = ih s b sets given outer o.0 w o.1 in
      by_layer (L.Distinct (up s)) vars given rows (live_is (L.Distinct (up s)) given) (All-weaker (Contains o.0) (IsWithin vars) (λ r i. All-contains (IsWithin vars) o.0 r all i) rows o.2.within)
  layer (L.Union made ls rs l r) b sets given outer rows w h =
      let o = unroll (L.Union made ls rs (up l) (up r)) b sets given outer rows h in
      by_layer (L.Union made ls rs (up l) (up r)) made given rows (live_is (L.Union made ls rs (up l) (up r)) given)
      (All-permutation (IsWithin made) _ rows o.2.2 (All-append (IsWithin made) (map (renamed made ls) o.0) (map (renamed made rs) o.2.0)
      (All-map (IsWithin made) (renamed made ls) o.0 (λ k d lt. within-bind made _)) (All-map (IsWithin made) (renamed made rs) o.2.0 (λ k d lt. within-bind made _))))
  layer (L.Aggregate made s) b sets given outer rows w h =
      let o = unroll (L.Aggregate made (up s)) b sets given outer rows h in
      by_layer (L.Aggregate made (up s)) (map (λ m. m.0) made) given rows (live_is (L.Aggregate made (up s)) given) (same_one (IsWithin (map (λ m. m.0) made)) (agg_row made o.0) rows o.2 (within-bind (map (λ m. m.0) made) _))
  layer (L.Order keys s) b sets given outer rows w h =
      let o = unroll (L.Order keys (up s)) b sets given outer rows h in
      let vars = live (up s) given in
      by_layer (L.Order keys (up s)) vars given rows (live_is (L.Order keys (up s)) given) (All-permutation (IsWithin vars) o.0 rows o.2.0 (ih s b sets given outer o.0 w o.1))
  layer (L.Limit n k s) b sets given outer rows w h =
      let o = unroll (L.Limit n k (up s)) b sets given outer rows h in
      let vars = live (up s) given in
      by_layer (L.Limit n k (up s)) vars given rows (live_is (L.Limit n k (up s)) given) (subst (All (IsWithin vars)) (sym o.2) (All-take (IsWithin vars) n (drop k o.0) (All-drop (IsWithin vars) k o.0 (ih s b sets given outer o.0 w o.1))))
  layer (L.Check name c s) b sets given outer rows w h =
      let o = unroll (L.Check name c (up s)) b sets given outer rows h in
      by_layer (L.Check name c (up s)) (live (up s) given) given rows (live_is (L.Check name c (up s)) given) (ih s b sets given outer rows w o.0)
  layer (L.Result vars s) b sets given outer rows w h =
      let o = unroll (L.Result vars (up s)) b sets given outer rows h in
      by_layer (L.Result vars (up s)) vars given rows (live_is (L.Result vars (up s)) given) (subst (All (IsWithin vars)) (sym o.2) (All-map (IsWithin vars) (cut vars) o.0 (λ k d lt. within-cut vars _)))

pub within : (p : Plan) → StaysWithin p
within = ind-Plan StaysWithin (λ x y e. subst (λ (z : L.Plan-F Plan). StaysWithin (roll-Plan z)) e (layer (λ s. s.0) (λ s. s.1) y))
