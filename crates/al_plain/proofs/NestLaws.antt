-- Rows beside what a nested plan gives over their bunches.
use Rattle.std.proofs.Common.{◌≡◌, ◌≢◌, ◌+◌, ◌<◌, ℕ, Bool, true, false, List, [], ◌∷◌, ◌++◌, map, take, get_or, length, length-append, refl, ap, sym, subst, ◌∙◌, arith}
use Rattle.std.specs.List.{All, AllByRecursion, AllZip}
use Rattle.std.specs.List.Sorted.{IsPermutation}
use Rattle.std.proofs.lemmas.List.{length-map, take_more}
use Rattle.std.proofs.lemmas.List.Sorted.{IsPermutation-refl, IsPermutation-map}
use Rattle.std.proofs.lemmas.List.Elements.{All-from_recursion, recursion_from_All}
use Rattle.al_plan.specs.declared.expr.Var.{Var}
use Rattle.al_plan.specs.declared.plan.Plan.{Plan, map-Plan, roll-Plan, ind-Plan}
use Rattle.al_plan.specs.declared.plan.Plan.TheOpen as L
use Rattle.al_plan.specs.declared.plan.Plan.TheVariants as P
use Rattle.al_plan.specs.Eval.{Env, bind}
use Rattle.al_plan.specs.Allows.{Sets, Allows, live, beside, nulls, with_new, key_of, new_of, Group, rows_in, IsGrouping, Gives}
use Rattle.al_plan.specs.Refines.{is_aggregate}
use Rattle.al_plan.proofs.PlanLaws.{aggregate-roll, allows_Subplan, allows_Group}
use Rattle.al_plan.proofs.Orders.{unroll}
use Rattle.al_plan.proofs.Makes.{Disjoint}
use Rattle.al_plan.proofs.Bools.{no}
use Rattle.al_plain.specs.declared.group.Bunch.{Bunch}
use Rattle.al_plain.specs.Rows.{Cells, before_each}
use Rattle.al_plain.specs.Groups.{AreGroups, Extends, alone}
use Rattle.al_plain.specs.Gives.{IsGiven}
use Rattle.al_plain.proofs.Lists.{flat-through, each_map, pairs-map, zip-map, zip-push}
use Rattle.al_plain.proofs.BindLaws.{bind-append, bind-after}

-- an aggregate gives one row
abbrev GivesOne : Plan → Type 0
GivesOne p = is_aggregate p ≡ true → (b : Bool) (sets : Sets) (given : List Var) (outer rows : List Env) → Allows p b sets given outer rows → (r : Env) × (rows ≡ r ∷ [])

layer_one : {S : Type 0} (up : S → Plan) (y : L.Plan-F S) → GivesOne (roll-Plan (map-Plan S Plan up y))
layer_one up (L.Scan set vars) e b sets given outer rows h = absurd (no (sym e ∙ aggregate-roll (L.Scan set vars)))
layer_one up L.Empty e b sets given outer rows h = absurd (no (sym e ∙ aggregate-roll L.Empty))
layer_one up L.Nested e b sets given outer rows h = absurd (no (sym e ∙ aggregate-roll L.Nested))
layer_one up (L.Assign made s) e b sets given outer rows h = absurd (no (sym e ∙ aggregate-roll (L.Assign made (up s))))
layer_one up (L.Select c s) e b sets given outer rows h = absurd (no (sym e ∙ aggregate-roll (L.Select c (up s))))
layer_one up (L.Project vars s) e b sets given outer rows h = absurd (no (sym e ∙ aggregate-roll (L.Project vars (up s))))
layer_one up (L.Unnest v its s) e b sets given outer rows h = absurd (no (sym e ∙ aggregate-roll (L.Unnest v its (up s))))
layer_one up (L.Subplan m s) e b sets given outer rows h = absurd (no (sym e ∙ aggregate-roll (L.Subplan (up m) (up s))))
layer_one up (L.Join c l r) e b sets given outer rows h = absurd (no (sym e ∙ aggregate-roll (L.Join c (up l) (up r))))
layer_one up (L.LeftJoin c l r) e b sets given outer rows h = absurd (no (sym e ∙ aggregate-roll (L.LeftJoin c (up l) (up r))))
layer_one up (L.Group keys m s) e b sets given outer rows h = absurd (no (sym e ∙ aggregate-roll (L.Group keys (up m) (up s))))
layer_one up (L.Distinct s) e b sets given outer rows h = absurd (no (sym e ∙ aggregate-roll (L.Distinct (up s))))
layer_one up (L.Union made ls rs l r) e b sets given outer rows h = absurd (no (sym e ∙ aggregate-roll (L.Union made ls rs (up l) (up r))))
layer_one up (L.Aggregate made s) e b sets given outer rows h = let o = unroll (L.Aggregate made (up s)) b sets given outer rows h in (_, o.2)
layer_one up (L.Order keys s) e b sets given outer rows h = absurd (no (sym e ∙ aggregate-roll (L.Order keys (up s))))
layer_one up (L.Limit k m s) e b sets given outer rows h = absurd (no (sym e ∙ aggregate-roll (L.Limit k m (up s))))
layer_one up (L.Check own c s) e b sets given outer rows h = absurd (no (sym e ∙ aggregate-roll (L.Check own c (up s))))
layer_one up (L.Result vars s) e b sets given outer rows h = absurd (no (sym e ∙ aggregate-roll (L.Result vars (up s))))

gives_one : (p : Plan) → GivesOne p
gives_one = ind-Plan GivesOne (λ x y e. subst (λ (z : L.Plan-F Plan). GivesOne (roll-Plan z)) e (layer_one (λ s. s.0) y))

one_mapped : {X Y : Type 0} (f : X → Y) (xs : List X) (y : Y) → map f xs ≡ y ∷ [] → (x : X) × (xs ≡ x ∷ [])
one_mapped f [] y e = absurd (nothing e)
  where
    nothing : [] ≡ y ∷ [] → ⊥
    nothing e = cc
one_mapped f (x ∷ []) y e = (x, refl)
one_mapped f (x ∷ z ∷ xs) y e = absurd (omega (arith, ap length e))

module _ (n : Plan) (sets : Sets) (vars : List Var) where
  one_given : (outer : List Cells) (inner_vars : List Var) (inner : List Cells) → is_aggregate n ≡ true → IsGiven n sets vars outer inner_vars inner → (x : Cells) × (inner ≡ x ∷ [])
  one_given outer inner_vars inner root h = let one = gives_one n root false sets vars _ _ h.allowed in one_mapped (bind inner_vars) inner one.0 one.1

  before_one : (head x : Cells) → before_each head (x ∷ []) ≡ (head ++ x) ∷ []
  unfolding before_each
  before_one head x = refl

  extended : (inner_vars : List Var) (b : Bunch) (x : Cells) → IsGiven n sets vars b.members inner_vars (x ∷ []) → Extends n sets vars inner_vars b (b.head ++ x)
  extended inner_vars b x h = (x, (recursion_from_All (λ r. length r ≡ length inner_vars) (x ∷ []) h.wide).0, h.allowed, refl)

  -- one more bunch
  pub nest_more : (inner_vars : List Var) (bunches : List Bunch) (rows : List Cells) (i : ℕ) (b : Bunch) (inner : List Cells) → i < length bunches → b ≡ get_or bunches i b → is_aggregate n ≡ true
      → AllZip (Extends n sets vars inner_vars) (take i bunches) rows → IsGiven n sets vars b.members inner_vars inner → AllZip (Extends n sets vars inner_vars) (take (i + 1) bunches) (rows ++ before_each b.head inner)
  nest_more inner_vars bunches rows i b inner low is root zip h =
      let one = one_given b.members inner_vars inner root h in
      let here : IsGiven n sets vars b.members inner_vars (one.0 ∷ []) = subst (IsGiven n sets vars b.members inner_vars) one.1 h in
      let front : take i bunches ++ b ∷ [] ≡ take (i + 1) bunches = subst (λ (y : Bunch). take i bunches ++ y ∷ [] ≡ take (i + 1) bunches) (sym is) (sym (take_more bunches i b low)) in
      let back : rows ++ (b.head ++ one.0) ∷ [] ≡ rows ++ before_each b.head inner = ap (λ (zs : List Cells). rows ++ zs) (sym (before_one b.head one.0)) ∙ ap (λ (xs : List Cells). rows ++ before_each b.head xs) (sym one.1) in
      subst (λ (ys : List Cells). AllZip (Extends n sets vars inner_vars) (take (i + 1) bunches) ys) back
      (subst (λ (bs : List Bunch). AllZip (Extends n sets vars inner_vars) bs (rows ++ (b.head ++ one.0) ∷ [])) front
      (zip-push (Extends n sets vars inner_vars) (take i bunches) rows b (b.head ++ one.0) zip (extended inner_vars b one.0 here)))

module _ (sets : Sets) (given : List Var) (outer : List Cells) where
  abbrev IsAsWide : List Var → Cells → Type 0
  IsAsWide vars r = length r ≡ length vars

  -- what an operator says of a row that a nested plan gives
  abbrev Nested : Plan → List Var → List Env → (Env → Env → Type 0) → Env → Type 0
  Nested n vars rows claim row = Gives (Allows n) false sets vars rows (λ inner. claim inner row)

  -- ---- each row alone

  zip-alone : (n : Plan) (vars inner_vars : List Var) → Disjoint vars inner_vars → (rows made : List Cells) → AllByRecursion (IsAsWide vars) rows → AllZip (Extends n sets vars inner_vars) (map alone rows) made
      → AllZip (λ r row. Nested n vars (r ∷ []) (λ inner row. row ≡ beside inner_vars inner r) row) (map (bind vars) rows) (map (bind (vars ++ inner_vars)) made)
  unfolding alone
  zip-alone n vars inner_vars d [] [] w h = tt
  zip-alone n vars inner_vars d [] (m ∷ made) w h = h
  zip-alone n vars inner_vars d (r ∷ rows) [] w h = h
  zip-alone n vars inner_vars d (r ∷ rows) (m ∷ made) w h =
      ((bind inner_vars h.0.0, h.0.2, ap (bind (vars ++ inner_vars)) h.0.3 ∙ bind-after vars inner_vars r h.0.0 w.0 d), zip-alone n vars inner_vars d rows made w.1 h.1)

  wide-alone : (n : Plan) (vars inner_vars : List Var) (rows made : List Cells) → AllByRecursion (IsAsWide vars) rows → AllZip (Extends n sets vars inner_vars) (map alone rows) made → AllByRecursion (IsAsWide (vars ++ inner_vars)) made
  unfolding alone
  wide-alone n vars inner_vars [] [] w h = tt
  wide-alone n vars inner_vars [] (m ∷ made) w h = absurd h
  wide-alone n vars inner_vars (r ∷ rows) [] w h = absurd h
  wide-alone n vars inner_vars (r ∷ rows) (m ∷ made) w h = (ap length h.0.3 ∙ simp length-append (λ i. w.0 i + h.0.1 i), wide-alone n vars inner_vars rows made w.1 h.1)

  pub gives_Subplan : (n p : Plan) (vars inner_vars : List Var) (rows made : List Cells) → vars ≡ live p given → inner_vars ≡ live n vars → Disjoint vars inner_vars → IsGiven p sets given outer vars rows → AllZip (Extends n sets vars inner_vars) (map alone rows) made
      → IsGiven (P.Subplan n p) sets given outer (vars ++ inner_vars) made
  gives_Subplan n p vars inner_vars rows made e f d h zip =
      let w = recursion_from_All (IsAsWide vars) rows h.wide in
      let rows_of : (vs ws : List Var) → Type 0 = λ vs ws. AllZip (λ r row. Nested n vs (r ∷ []) (λ inner row. row ≡ beside ws inner r) row) (map (bind vars) rows) (map (bind (vars ++ inner_vars)) made) in
      let first : rows_of vars (live n vars) = subst (λ (ws : List Var). rows_of vars ws) f (zip-alone n vars inner_vars d rows made w zip) in
      record {
        allowed = allows_Subplan n p false sets given _ _ (map (bind vars) rows, h.allowed, subst (λ (vs : List Var). rows_of vs (live n vs)) e first);
        wide = All-from_recursion (IsAsWide (vars ++ inner_vars)) made (wide-alone n vars inner_vars rows made w zip);
      }

  -- ---- groups

  -- a group of rows: the first and the others
  abbrev cut_group : List Var → List Cells → Group
  cut_group vars [] = (nulls, [])
  cut_group vars (r ∷ rs) = (bind vars r, map (bind vars) rs)

  record IsGood (keys : List (Var × Var)) (vars : List Var) (b : Bunch) : Type 0 where
    filled : b.members ≢ []
    alike : All (λ r. key_of keys (bind vars r) ≡ b.head) b.members

  good : (keys : List (Var × Var)) (vars : List Var) (rows : List Cells) (groups : List Bunch) → AreGroups keys vars rows groups → All (IsGood keys vars) groups
  good keys vars rows groups g k d low = record { filled = g.filled k d low; alike = g.alike k d low }

  rows_in_cut : (vars : List Var) (ms : List Cells) → ms ≢ [] → map (bind vars) ms ≡ rows_in (cut_group vars ms)
  rows_in_cut vars [] h = absurd (h refl)
  rows_in_cut vars (r ∷ rs) h = refl

  key_cut : (keys : List (Var × Var)) (vars : List Var) (head : Cells) (ms : List Cells) → ms ≢ [] → AllByRecursion (λ r. key_of keys (bind vars r) ≡ head) ms → key_of keys (cut_group vars ms).0 ≡ head
  key_cut keys vars head [] h a = absurd (h refl)
  key_cut keys vars head (r ∷ rs) h a = a.0

  alike_cut : (keys : List (Var × Var)) (vars : List Var) (head : Cells) (ms : List Cells) → AllByRecursion (λ r. key_of keys (bind vars r) ≡ head) ms → All (λ r. key_of keys r ≡ key_of keys (cut_group vars ms).0) (cut_group vars ms).1
  alike_cut keys vars head [] a = All-from_recursion _ [] tt
  alike_cut keys vars head (r ∷ rs) a = each_map (λ s. key_of keys (bind vars s) ≡ head) (λ s. key_of keys s ≡ key_of keys (bind vars r)) (bind vars) (λ s same. same ∙ sym a.0) rs (All-from_recursion (λ s. key_of keys (bind vars s) ≡ head) rs a.1)

  each_alike : (keys : List (Var × Var)) (vars : List Var) (b : Bunch) → IsGood keys vars b → AllByRecursion (λ r. key_of keys (bind vars r) ≡ b.head) b.members
  each_alike keys vars b g = recursion_from_All (λ r. key_of keys (bind vars r) ≡ b.head) b.members g.alike

  key_good : (keys : List (Var × Var)) (vars : List Var) (b : Bunch) → IsGood keys vars b → key_of keys (cut_group vars b.members).0 ≡ b.head
  key_good keys vars b g = key_cut keys vars b.head b.members g.filled (each_alike keys vars b g)

  grouped : (keys : List (Var × Var)) (vars : List Var) (rows : List Cells) (groups : List Bunch) → AreGroups keys vars rows groups → IsGrouping keys (map (bind vars) rows) (map (λ (b : Bunch). cut_group vars b.members) groups)
  grouped keys vars rows groups g =
      let all = good keys vars rows groups g in
      let cut : Bunch → Group = λ b. cut_group vars b.members in
      record {
        moved = subst (IsPermutation (map (bind vars) rows)) (flat-through (IsGood keys vars) (bind vars) cut (λ b. b.members) rows_in (λ b h. rows_in_cut vars b.members h.filled) groups (recursion_from_All (IsGood keys vars) groups all)) (IsPermutation-map (bind vars) rows _ g.moved);
        alike = each_map (IsGood keys vars) (λ h. All (λ r. key_of keys r ≡ key_of keys h.0) h.1) cut (λ b h. alike_cut keys vars b.head b.members (each_alike keys vars b h)) groups all;
        apart = pairs-map (IsGood keys vars) (λ a b. a.head ≢ b.head) (λ a b. key_of keys a.0 ≢ key_of keys b.0) cut (λ a b h i ne same. ne (sym (key_good keys vars a h) ∙ same ∙ key_good keys vars b i)) groups all g.apart;
      }

  abbrev GroupRow : List (Var × Var) → Plan → List Var → Group → Env → Type 0
  GroupRow keys n vars g row = Nested n vars (rows_in g) (λ inner row. row ≡ with_new (new_of keys) (key_of keys g.0) inner) row

  wide_key : (keys : List (Var × Var)) (vars : List Var) (b : Bunch) → IsGood keys vars b → length b.head ≡ length (new_of keys)
  wide_key keys vars b g = ap length (sym (key_good keys vars b g)) ∙ simp length-map

  group_row : (keys : List (Var × Var)) (n : Plan) (vars inner_vars : List Var) (b : Bunch) (row : Cells) → IsGood keys vars b → Extends n sets vars inner_vars b row → GroupRow keys n vars (cut_group vars b.members) (bind (new_of keys ++ inner_vars) row)
  group_row keys n vars inner_vars b row g x =
      let over = subst (λ (rs : List Env). Allows n false sets vars rs (bind inner_vars x.0 ∷ [])) (rows_in_cut vars b.members g.filled) x.2 in
      let joined = ap (bind (new_of keys ++ inner_vars)) x.3 ∙ bind-append (new_of keys) inner_vars b.head x.0 (wide_key keys vars b g) ∙ ap (λ (k : Cells). with_new (new_of keys) k (bind inner_vars x.0)) (sym (key_good keys vars b g)) in
      (bind inner_vars x.0, over, joined)

  wide_group : (keys : List (Var × Var)) (n : Plan) (vars inner_vars : List Var) (groups : List Bunch) (made : List Cells) → AllByRecursion (IsGood keys vars) groups → AllZip (Extends n sets vars inner_vars) groups made → AllByRecursion (IsAsWide (new_of keys ++ inner_vars)) made
  wide_group keys n vars inner_vars [] [] g h = tt
  wide_group keys n vars inner_vars [] (m ∷ made) g h = absurd h
  wide_group keys n vars inner_vars (b ∷ groups) [] g h = absurd h
  wide_group keys n vars inner_vars (b ∷ groups) (m ∷ made) g h = (ap length h.0.3 ∙ simp length-append (λ i. wide_key keys vars b g.0 i + h.0.1 i), wide_group keys n vars inner_vars groups made g.1 h.1)

  pub gives_Group : (keys : List (Var × Var)) (n p : Plan) (vars inner_vars : List Var) (rows : List Cells) (groups : List Bunch) (made : List Cells) → vars ≡ live p given → IsGiven p sets given outer vars rows → AreGroups keys vars rows groups → AllZip (Extends n sets vars inner_vars) groups made
      → IsGiven (P.Group keys n p) sets given outer (new_of keys ++ inner_vars) made
  gives_Group keys n p vars inner_vars rows groups made e h g zip =
      let all = recursion_from_All (IsGood keys vars) groups (good keys vars rows groups g) in
      let cut : Bunch → Group = λ b. cut_group vars b.members in
      let bound : List Env = map (bind (new_of keys ++ inner_vars)) made in
      let rows_of = zip-map (Extends n sets vars inner_vars) (GroupRow keys n vars) cut (bind (new_of keys ++ inner_vars)) (IsGood keys vars) (λ b row h x. group_row keys n vars inner_vars b row h x) groups made all zip in
      record {
        allowed = allows_Group keys n p false sets given _ _ (map (bind vars) rows, h.allowed, (map cut groups, bound, grouped keys vars rows groups g, subst (λ (vs : List Var). AllZip (GroupRow keys n vs) (map cut groups) bound) e rows_of, IsPermutation-refl bound));
        wide = All-from_recursion (IsAsWide (new_of keys ++ inner_vars)) made (wide_group keys n vars inner_vars groups made all zip);
      }
