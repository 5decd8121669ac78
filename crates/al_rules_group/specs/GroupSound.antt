-- A project goes from below a group whose nested plan has no distinct.
use Rattle.std.proofs.Common.{◌≡◌, ◌≢◌, ◌&&◌, Bool, true, false, not, List, [], ◌∷◌, ◌++◌, map, flat_map, refl, ap, sym, subst, ◌∙◌}
use Rattle.std.specs.Prelude.{if◌then◌else◌}
use Rattle.std.specs.List.{All, AllByRecursion, AllZip}
use Rattle.std.specs.List.Sorted.{IsPermutation}
use Rattle.std.proofs.lemmas.List.Elements.{All-from_recursion, recursion_from_All}
use Rattle.std.proofs.lemmas.List.Sorted.{IsPermutation-map, All-permutation}
use Rattle.al_value.specs.declared.value.Value.TheVariants as V
use Rattle.al_plan.specs.declared.expr.Var.{Var}
use Rattle.al_plan.specs.declared.plan.Plan.{Plan}
use Rattle.al_plan.specs.declared.plan.Plan.TheVariants as P
use Rattle.al_plan.specs.Eval.{Bytes, Env}
use Rattle.al_plan.specs.Allows.{Sets, Allows, live, Gives, Group, IsGrouping, is_among, cut, with_new, key_of, new_of, rows_in, agg_row}
use Rattle.al_plan.specs.Refines.{Scan, scans, Fit, FitsEach, Replaces, AreLive, NoTwice, AtMost64, IsWithin, makes}
use Rattle.al_plan.proofs.Lives.{only_made}
use Rattle.al_plan.proofs.Makes.{apart, among_of}
use Rattle.al_plan.proofs.Moves.{Apart, apart_from_pairs, pairs_from_apart}
use Rattle.al_plan.proofs.PlanLaws.{allows_Group, from_Group, allows_Project, from_Aggregate, live-Project, scans-Project, makes-Project, faults-Project, live-Group, ordered-Group, scans-Group, makes-Group, result-Group, faults-Group, live-Aggregate, makes-Aggregate}
use Rattle.al_plan.proofs.Within.{within, in_groups, not_left, not_right, within-bind}
use Rattle.al_rule.proofs.Alike.{Alike, alike_replaces}
use Rattle.al_rule.proofs.FitLaws.{out_Group, in_Group, out_Project}
use Rattle.al_rules_group.specs.GroupRules.{has_distinct, GroupOverProject}
use Rattle.al_rules_group.specs.Forget.{forget, forgets, forget-within, Misses, map-both}
use Rattle.al_rules_group.specs.Widening.{AreIn, in_live, fits_wider, IsAggregation, aggregation}

-- ---- what the project cuts off

no : true ≡ false → ⊥
no e = cc

-- the names that are live below and not listed
abbrev lost_names : List Var → List Var → Bytes → Bool
lost_names vars low q = not (is_among vars q) && is_among low q

lost_parts : (a b : Bool) → (not a && b) ≡ true → (a ≡ false) × (b ≡ true)
lost_parts true b h = cc
lost_parts false b h = (refl, h)

found : (b : Bool) → (b ≡ false → ⊥) → b ≡ true
found true h = refl
found false h = absurd (h refl)

-- a row that has values at live variables alone is cut where it forgets the others
forget_is_cut : (vars low : List Var) (r : Env) → IsWithin low r → forget (lost_names vars low) r ≡ cut vars r
forget_is_cut vars low r w i q = at (is_among vars q) (is_among low q) (w q) i
  where
    at : (a b : Bool) → (b ≡ false → r q ≡ V.Null) → (if not a && b then V.Null else r q) ≡ (if a then r q else V.Null)
    at true b h = refl
    at false true h = refl
    at false false h = h refl

forget_all_is_cut : (vars low : List Var) (rows : List Env) → AllByRecursion (IsWithin low) rows → map (forget (lost_names vars low)) rows ≡ map (cut vars) rows
forget_all_is_cut vars low [] h = refl
forget_all_is_cut vars low (r ∷ rows) h = λ i. forget_is_cut vars low r h.0 i ∷ forget_all_is_cut vars low rows h.1 i

-- ---- groups of rows that are cut

cut_group : List Var → Group → Group
cut_group vars g = (cut vars g.0, map (cut vars) g.1)

key-cut : (keys : List (Var × Var)) (vars : List Var) (r : Env) → AreLive vars (map (λ k. k.1) keys) → key_of keys (cut vars r) ≡ key_of keys r
key-cut [] vars r h = refl
key-cut (k ∷ keys) vars r h = let here : cut vars r k.1.name ≡ r k.1.name = ap (λ b. if b then r k.1.name else V.Null) h.0 in λ i. here i ∷ key-cut keys vars r h.1 i

module _ (keys : List (Var × Var)) (vars : List Var) (listed : AreLive vars (map (λ k. k.1) keys)) where
  rows-cut : (groups : List Group) → flat_map rows_in (map (cut_group vars) groups) ≡ map (cut vars) (flat_map rows_in groups)
  unfolding cut_group
  rows-cut [] = refl
  rows-cut (g ∷ groups) = ap (λ rs. map (cut vars) (rows_in g) ++ rs) (rows-cut groups) ∙ sym (map-both (cut vars) (rows_in g) (flat_map rows_in groups))

  alike_rows : (g : Group) (rows : List Env) → AllByRecursion (λ r. key_of keys r ≡ key_of keys g.0) rows → AllByRecursion (λ r. key_of keys r ≡ key_of keys (cut vars g.0)) (map (cut vars) rows)
  alike_rows g [] h = tt
  alike_rows g (r ∷ rows) h = (key-cut keys vars r listed ∙ h.0 ∙ sym (key-cut keys vars g.0 listed), alike_rows g rows h.1)

  alike_groups : (groups : List Group) → AllByRecursion (λ g. All (λ r. key_of keys r ≡ key_of keys g.0) g.1) groups → AllByRecursion (λ g. All (λ r. key_of keys r ≡ key_of keys g.0) g.1) (map (cut_group vars) groups)
  unfolding cut_group
  alike_groups [] h = tt
  alike_groups (g ∷ groups) h =
      (All-from_recursion (λ r. key_of keys r ≡ key_of keys (cut vars g.0)) (map (cut vars) g.1) (alike_rows g g.1 (recursion_from_All (λ r. key_of keys r ≡ key_of keys g.0) g.1 h.0)), alike_groups groups h.1)

  apart_from : (g : Group) (groups : List Group) → AllByRecursion (λ h. key_of keys g.0 ≢ key_of keys h.0) groups → AllByRecursion (λ h. key_of keys (cut vars g.0) ≢ key_of keys h.0) (map (cut_group vars) groups)
  unfolding cut_group
  apart_from g [] h = tt
  apart_from g (x ∷ groups) h = ((λ e. h.0 (sym (key-cut keys vars g.0 listed) ∙ e ∙ key-cut keys vars x.0 listed)), apart_from g groups h.1)

  apart_groups : (groups : List Group) → Apart (λ g h. key_of keys g.0 ≢ key_of keys h.0) groups → Apart (λ g h. key_of keys g.0 ≢ key_of keys h.0) (map (cut_group vars) groups)
  unfolding cut_group
  apart_groups [] h = tt
  apart_groups (g ∷ groups) h = (apart_from g groups h.0, apart_groups groups h.1)

  grouping-cut : (rows : List Env) (groups : List Group) → IsGrouping keys rows groups → IsGrouping keys (map (cut vars) rows) (map (cut_group vars) groups)
  grouping-cut rows groups h = record {
    moved = subst (IsPermutation (map (cut vars) rows)) (sym (rows-cut groups)) (IsPermutation-map (cut vars) rows (flat_map rows_in groups) h.moved);
    alike = All-from_recursion _ (map (cut_group vars) groups) (alike_groups groups (recursion_from_All _ groups h.alike));
    apart = pairs_from_apart (λ g h. key_of keys g.0 ≢ key_of keys h.0) (map (cut_group vars) groups) (apart_groups groups (apart_from_pairs (λ g h. key_of keys g.0 ≢ key_of keys h.0) groups h.apart));
  }

zip-cut : {X Y : Type 0} (f : X → X) (P : X → Type 0) (R T : X → Y → Type 0) → ((x : X) (y : Y) → P x → R x y → T (f x) y) → (xs : List X) (ys : List Y) → AllByRecursion P xs → AllZip R xs ys → AllZip T (map f xs) ys
zip-cut f P R T h [] [] p z = tt
zip-cut f P R T h [] (y ∷ ys) p z = absurd z
zip-cut f P R T h (x ∷ xs) [] p z = absurd z
zip-cut f P R T h (x ∷ xs) (y ∷ ys) p z = (h x y p.0 z.0, zip-cut f P R T h xs ys p.1 z.1)

-- ---- the nested plan

-- an aggregate has the same variables whatever is given to it
agg_live : (n : Plan) → IsAggregation n → (given known : List Var) → live n given ≡ live n known
agg_live n (made, x, is) given known = ap (λ z. live z given) is ∙ live-Aggregate made x given ∙ sym (live-Aggregate made x known) ∙ ap (λ z. live z known) (sym is)

right_part : (d : Bytes → Bool) (xs ys : List Var) → Misses d (xs ++ ys) → Misses d ys
right_part d xs ys m q e = not_right xs ys q (m q e)

-- what an aggregate gives has nothing to forget
agg_kept : (n : Plan) → IsAggregation n → (d : Bytes → Bool) → Misses d (makes n) → (b : Bool) (sets : Sets) (given : List Var) (outer : List Env) (row : Env) → Allows n b sets given outer (row ∷ []) → forget d row ≡ row
agg_kept n (made, x, is) d m b sets given outer row h =
    let o = from_Aggregate made x b sets given outer (row ∷ []) (subst (λ (z : Plan). Allows z b sets given outer (row ∷ [])) is h) in
    let own = map (λ m. m.0) made in
    let same : row ≡ agg_row made o.0 = first row (agg_row made o.0) o.2 in
    forget-within d own row (λ q e. ap (λ (f : Env). f q) same ∙ within-bind own _ q e) (right_part d (makes x) own (subst (Misses d) (ap makes is ∙ makes-Aggregate made x) m))
  where
    first : (r s : Env) → r ∷ [] ≡ s ∷ [] → r ≡ s
    first r s e = cc

-- a nested plan gives for a group's rows what it gives for them cut
nested : (vars low : List Var) (n : Plan) → FitsEach n true vars → has_distinct n ≡ false → IsAggregation n → (d : Bytes → Bool) → Misses d vars → Misses d (makes n) → (keys : List (Var × Var)) → AreLive vars (map (λ k. k.1) keys)
    → (b : Bool) (sets : Sets) (known : List Var) (g : Group) (row : Env) → map (forget d) (rows_in g) ≡ map (cut vars) (rows_in g)
    → Gives (Allows n) b sets low (rows_in g) (λ inner. row ≡ with_new (new_of keys) (key_of keys g.0) inner)
    → Gives (Allows n) b sets known (rows_in (cut_group vars g)) (λ inner. row ≡ with_new (new_of keys) (key_of keys (cut_group vars g).0) inner)
unfolding cut_group
nested vars low n fit plain agg d misses_vars misses_made keys listed b sets known g row is_cut (inner, h, is) =
    let forgotten = forgets n vars fit plain d misses_vars misses_made b sets low known (rows_in g) (inner ∷ []) h in
    let same : forget d inner ≡ inner = agg_kept n agg d misses_made b sets low (rows_in g) inner h in
    (inner, subst (λ (rs : List Env). Allows n b sets known rs (inner ∷ [])) is_cut (subst (λ (r : Env). Allows n b sets known (map (forget d) (rows_in g)) (r ∷ [])) same forgotten), is ∙ ap (λ ks. with_new (new_of keys) ks inner) (sym (key-cut keys vars g.0 listed)))

-- ---- the rule

none_outer : (P : Env → Type 0) → All P []
none_outer P = All-from_recursion P [] tt

without_project : (keys : List (Var × Var)) (n : Plan) (vars : List Var) (p : Plan) → has_distinct n ≡ false → Fit (P.Group keys n (P.Project vars p)) → Replaces (P.Group keys n p) (P.Group keys n (P.Project vars p))
without_project keys n vars p plain fit =
    let top = out_Group keys n (P.Project vars p) fit in
    let below = out_Project vars p top.input in
    let low = live p [] in
    let agg = aggregation n top.aggregates in
    let wide : AreIn vars low = among_of low vars below.listed in
    let listed : AreLive vars (map (λ k. k.1) keys) = subst (λ (vs : List Var). AreLive vs (map (λ k. k.1) keys)) (live-Project vars p []) top.listed in
    let inner : FitsEach n true vars = subst (λ (vs : List Var). FitsEach n true vs) (live-Project vars p []) top.inner in
    let same_live : live n (live (P.Project vars p) []) ≡ live n low = agg_live n agg (live (P.Project vars p) []) low in
    let once : NoTwice (makes p ++ (makes n ++ new_of keys)) = subst (λ (vs : List Var). NoTwice (vs ++ (makes n ++ new_of keys))) (makes-Project vars p) top.once in
    let whole = in_Group keys n p (record {
      input = below.input;
      root = below.root;
      listed = in_live vars low wide (map (λ k. k.1) keys) listed;
      inner = fits_wider n vars low wide inner;
      aggregates = top.aggregates;
      thin = subst (λ (vs : List Var). AtMost64 (new_of keys ++ vs)) same_live top.thin;
      once = once;
    }) in
    let like : Alike (P.Group keys n p) (P.Group keys n (P.Project vars p)) = record {
      vars = live-Group keys n p [] ∙ ap (λ (vs : List Var). new_of keys ++ vs) (sym same_live) ∙ sym (live-Group keys n (P.Project vars p) []);
      order = ordered-Group keys n p ∙ sym (ordered-Group keys n (P.Project vars p));
      scanned = scans-Group keys n p ∙ ap (λ (ss : List Scan). ss ++ scans n) (sym (scans-Project vars p)) ∙ sym (scans-Group keys n (P.Project vars p));
      made = makes-Group keys n p ∙ ap (λ (vs : List Var). vs ++ (makes n ++ new_of keys)) (sym (makes-Project vars p)) ∙ sym (makes-Group keys n (P.Project vars p));
      root = result-Group keys n p ∙ sym (result-Group keys n (P.Project vars p));
      faults = λ sets name. faults-Group keys n p sets [] [] name ∙ sym (faults-Project vars p sets [] [] name) ∙ sym (faults-Group keys n (P.Project vars p) sets [] [] name);
    } in
    let d = lost_names vars low in
    let misses_vars : Misses d vars = λ q e. (lost_parts (is_among vars q) (is_among low q) e).0 in
    let is_made : (q : Bytes) → d q ≡ true → is_among (makes p) q ≡ true = λ q e. found (is_among (makes p) q) (λ f. no (sym (lost_parts (is_among vars q) (is_among low q) e).1 ∙ only_made p false [] below.input.each q refl f)) in
    let misses_made : Misses d (makes n) = λ q e. not_left (makes n) (new_of keys) q (apart (makes p) (makes n ++ new_of keys) once q (is_made q e)) in
    alike_replaces (P.Group keys n p) (P.Group keys n (P.Project vars p)) fit whole like (λ b sets rows fills k.
    let o = from_Group keys n p b sets [] [] rows k in
    let R : Group → Env → Type 0 = λ g row. Gives (Allows n) b sets low (rows_in g) (λ inner. row ≡ with_new (new_of keys) (key_of keys g.0) inner) in
    let T : Group → Env → Type 0 = λ g row. Gives (Allows n) b sets (live (P.Project vars p) []) (rows_in g) (λ inner. row ≡ with_new (new_of keys) (key_of keys g.0) inner) in
    let inside = within p b sets [] [] o.0 (none_outer (IsWithin [])) o.1 in
    let known = in_groups (IsWithin low) o.2.0 (recursion_from_All (IsWithin low) (flat_map rows_in o.2.0) (All-permutation (IsWithin low) o.0 (flat_map rows_in o.2.0) o.2.2.moved inside)) in
    let each : (g : Group) (row : Env) → All (IsWithin low) (rows_in g) → R g row → T (cut_group vars g) row = λ g row w r. nested vars low n inner plain agg d misses_vars misses_made keys listed b sets (live (P.Project vars p) []) g row (forget_all_is_cut vars low (rows_in g) (recursion_from_All (IsWithin low) (rows_in g) w)) r in
    allows_Group keys n (P.Project vars p) b sets [] [] rows (
      map (cut vars) o.0,
      allows_Project vars p b sets [] [] _ (o.0, o.1, refl),
      (map (cut_group vars) o.2.0, o.2.1, grouping-cut keys vars listed o.0 o.2.0 o.2.2, zip-cut (cut_group vars) (λ g. All (IsWithin low) (rows_in g)) R T each o.2.0 o.2.1 known o.2.3, o.2.4),
    ))

pub group_over_project : (p q : Plan) → Fit p → GroupOverProject p q → Replaces q p
group_over_project p q fit (keys, n, vars, x, at, plain, to) =
    subst (λ (z : Plan). Replaces z p) (sym to) (subst (Replaces (P.Group keys n x)) (sym at) (without_project keys n vars x plain (subst Fit at fit)))
