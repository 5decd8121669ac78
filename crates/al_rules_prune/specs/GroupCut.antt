-- Groups over an input that is cut to their keys and to what their nested plan uses.
use Rattle.std.proofs.Common.{◌≡◌, ◌≢◌, Bool, true, false, not, ◌&&◌, List, [], ◌∷◌, ◌++◌, map, filter, flat_map, refl, ap, sym, subst, ◌∙◌}
use Rattle.std.specs.Prelude.{if◌then◌else◌}
use Rattle.std.specs.List.{All, AllByRecursion, AllZip}
use Rattle.std.specs.List.Sorted.{IsPermutation}
use Rattle.std.proofs.lemmas.List.Elements.{All-from_recursion, recursion_from_All}
use Rattle.al_value.specs.declared.value.Value.TheVariants as V
use Rattle.al_plan.specs.declared.expr.Var.{Var}
use Rattle.al_plan.specs.declared.plan.Plan.{Plan}
use Rattle.al_plan.specs.declared.plan.Plan.TheVariants as P
use Rattle.al_plan.specs.Eval.{Bytes, Env}
use Rattle.al_plan.specs.Uses.{named}
use Rattle.al_plan.specs.Allows.{Allows, Gives, Group, IsGrouping, live, is_among, cut, rows_in, key_of, new_of, with_new}
use Rattle.al_plan.specs.Refines.{Fit, NoTwice, AreLive, AtMost64, IsWithin, Replaces, FitsEach, makes}
use Rattle.al_plan.proofs.Bools.{no, by_cases}
use Rattle.al_plan.proofs.Lives.{cross}
use Rattle.al_plan.proofs.Makes.{Disjoint, among_of, at_head}
use Rattle.al_plan.proofs.Moves.{IsPermutation-lift, Apart, apart_from_pairs, pairs_from_apart}
use Rattle.al_plan.proofs.Within.{not_left}
use Rattle.al_plan.proofs.PlanLaws.{allows_Group, from_Group, from_Project, live-Group, live-Project, result-Project}
use Rattle.al_rule.proofs.FitLaws.{out_Group, in_Group}
use Rattle.al_rule.proofs.Joins.{rows_within}
use Rattle.al_rules_prune.specs.Reading.{reads, has_distinct}
use Rattle.al_rules_prune.specs.Prunes.{kept, narrowed, all_among, wide, IsWide, used_by}
use Rattle.al_rules_prune.specs.Kept.{IsIn, among_filter, among_kept, are_live, are_kept, fit_narrowed, in_left, in_right}
use Rattle.al_rules_prune.specs.RowMaps.{Keeps, key_of-kept}
use Rattle.al_rules_prune.specs.Kin.{kin_replaces, kin_narrowed, kin-Group}
use Rattle.al_rules_prune.specs.Forget.{forget, Avoids, keeps_forget, forget_within, remembers}
use Rattle.al_rules_prune.specs.Nested.{PassAll, suits, aggregates}

-- ---- variables that are dropped

abbrev dropped : List Var → Plan → List Var
dropped vars p = filter (λ v. not (is_among vars v.name)) (live p [])

among_dropped : (vars : List Var) (p : Plan) (q : Bytes) → is_among (dropped vars p) q ≡ (not (is_among vars q) && is_among (live p []) q)
among_dropped vars p q = among_filter (λ n. not (is_among vars n)) (live p []) q

not_dropped : (vars : List Var) (p : Plan) (q : Bytes) → is_among vars q ≡ true → is_among (dropped vars p) q ≡ false
not_dropped vars p q e = among_dropped vars p q ∙ ap (λ b. not b && is_among (live p []) q) e

dropped_live : (vars : List Var) (p : Plan) (q : Bytes) → is_among (dropped vars p) q ≡ true → is_among (live p []) q ≡ true
dropped_live vars p q e = right (not (is_among vars q)) (is_among (live p []) q) (sym (among_dropped vars p q) ∙ e)
  where
    right : (a b : Bool) → (a && b) ≡ true → b ≡ true
    right true b h = h
    right false b h = absurd (no (sym h))

-- to cut a row of the plan is to forget what is dropped
cut_is_forget : (vars : List Var) (p : Plan) (r : Env) → IsWithin (live p []) r → cut (kept vars p) r ≡ forget (dropped vars p) r
cut_is_forget vars p r w i q = (by_cases (is_among vars q)
    (λ e. by_cases (is_among (live p []) q)
    (λ d. ap (λ b. if b then r q else V.Null) (are_kept vars p q e d) ∙ sym (ap (λ b. if b then V.Null else r q) (not_dropped vars p q e)))
    (λ d. ap (λ b. if b then r q else V.Null) (among_kept vars p q ∙ (λ j. e j && d j)) ∙ sym (w q d) ∙ sym (ap (λ b. if b then V.Null else r q) (not_dropped vars p q e))))
    (λ e. ap (λ b. if b then r q else V.Null) (among_kept vars p q ∙ ap (λ b. b && is_among (live p []) q) e) ∙ sym (by_cases (is_among (live p []) q)
    (λ d. ap (λ b. if b then V.Null else r q) (among_dropped vars p q ∙ (λ j. not (e j) && d j)))
    (λ d. ap (λ b. if b then V.Null else r q) (among_dropped vars p q ∙ (λ j. not (e j) && d j)) ∙ w q d)))) i

cuts_are_forgets : (vars : List Var) (p : Plan) (rows : List Env) → AllByRecursion (IsWithin (live p [])) rows → map (cut (kept vars p)) rows ≡ map (forget (dropped vars p)) rows
cuts_are_forgets vars p [] h = refl
cuts_are_forgets vars p (r ∷ rows) h = λ i. cut_is_forget vars p r h.0 i ∷ cuts_are_forgets vars p rows h.1 i

-- ---- groups of mapped rows

module _ (f : Env → Env) where
  abbrev on_group : Group → Group
  on_group g = (f g.0, map f g.1)

  -- an append of mapped rows, taken apart
  abbrev Parts : List Env → List Env → List Env → Type 0
  Parts xs ys zs = (us : List Env) × (vs : List Env) × (zs ≡ us ++ vs) × (xs ≡ map f us) × (ys ≡ map f vs)

  split_map : (xs ys zs : List Env) → xs ++ ys ≡ map f zs → Parts xs ys zs
  split_map [] ys zs e = ([], zs, refl, refl, e)
  split_map (x ∷ xs) ys [] e = absurd cc
  split_map (x ∷ xs) ys (z ∷ zs) e =
      let head : x ≡ f z = cc in
      let rest : xs ++ ys ≡ map f zs = cc in
      let (us, vs, is, first, second) = split_map xs ys zs rest in
      (z ∷ us, vs, ap (λ ws. z ∷ ws) is, (λ i. head i ∷ first i), second)

  abbrev Ungrouped : List Group → List Env → Type 0
  Ungrouped groups zs = (gs : List Group) × (zs ≡ flat_map rows_in gs) × (groups ≡ map on_group gs)

  ungroup : (groups : List Group) (zs : List Env) → flat_map rows_in groups ≡ map f zs → Ungrouped groups zs
  ungroup [] [] e = ([], refl, refl)
  ungroup [] (z ∷ zs) e = absurd cc
  ungroup (g ∷ groups) [] e = absurd cc
  ungroup (g ∷ groups) (z ∷ zs) e =
      let head : g.0 ≡ f z = cc in
      let rest : g.1 ++ flat_map rows_in groups ≡ map f zs = cc in
      let (us, vs, is, first, second) = split_map g.1 (flat_map rows_in groups) zs rest in
      let (gs, more, are) = ungroup groups vs second in
      ((z, us) ∷ gs, ap (λ ws. z ∷ ws) (is ∙ ap (λ ws. us ++ ws) more), (λ i. (head i, first i) ∷ are i))

  module _ (keys : List (Var × Var)) (same : (r : Env) → key_of keys (f r) ≡ key_of keys r) where
    rows_alike : (k : Env) (rows : List Env) → AllByRecursion (λ r. key_of keys r ≡ key_of keys (f k)) (map f rows) → AllByRecursion (λ r. key_of keys r ≡ key_of keys k) rows
    rows_alike k [] h = tt
    rows_alike k (r ∷ rows) h = (sym (same r) ∙ h.0 ∙ same k, rows_alike k rows h.1)

    groups_alike : (gs : List Group) → AllByRecursion (λ g. All (λ r. key_of keys r ≡ key_of keys g.0) g.1) (map on_group gs) → AllByRecursion (λ g. All (λ r. key_of keys r ≡ key_of keys g.0) g.1) gs
    groups_alike [] h = tt
    groups_alike (g ∷ gs) h =
        (All-from_recursion (λ r. key_of keys r ≡ key_of keys g.0) g.1 (rows_alike g.0 g.1 (recursion_from_All (λ r. key_of keys r ≡ key_of keys (f g.0)) (map f g.1) h.0)), groups_alike gs h.1)

    abbrev Differ : Group → Group → Type 0
    Differ g h = key_of keys g.0 ≢ key_of keys h.0

    one_apart : (g : Group) (gs : List Group) → AllByRecursion (Differ (on_group g)) (map on_group gs) → AllByRecursion (Differ g) gs
    one_apart g [] h = tt
    one_apart g (k ∷ gs) h = ((λ e. h.0 (same g.0 ∙ e ∙ sym (same k.0))), one_apart g gs h.1)

    groups_apart : (gs : List Group) → Apart Differ (map on_group gs) → Apart Differ gs
    groups_apart [] h = tt
    groups_apart (g ∷ gs) h = (one_apart g gs h.0, groups_apart gs h.1)

    -- a grouping of mapped rows is the mapped one of the rows
    ungrouping : (rows : List Env) (groups : List Group) → IsGrouping keys (map f rows) groups → (gs : List Group) × IsGrouping keys rows gs × (groups ≡ map on_group gs)
    ungrouping rows groups h =
        let (zs, moved, is) = IsPermutation-lift f rows (flat_map rows_in groups) h.moved in
        let (gs, flat, are) = ungroup groups zs is in (
          gs,
          record {
            moved = subst (IsPermutation rows) flat moved;
            alike = All-from_recursion (λ g. All (λ r. key_of keys r ≡ key_of keys g.0) g.1) gs (groups_alike gs (subst (AllByRecursion (λ g. All (λ r. key_of keys r ≡ key_of keys g.0) g.1)) are (recursion_from_All (λ g. All (λ r. key_of keys r ≡ key_of keys g.0) g.1) groups h.alike)));
            apart = pairs_from_apart Differ gs (groups_apart gs (subst (Apart Differ) are (apart_from_pairs Differ groups h.apart)));
          },
          are,
        )

-- ---- the nested plan over whole groups

-- what is wide has a variable that is not among these
not_wide : (vars : List Var) (p : Plan) → IsIn (live p []) vars → wide vars p ≡ false
not_wide vars p h = ap not (go (live p []) h)
  where
    go : (xs : List Var) → IsIn xs vars → all_among vars xs ≡ true
    go [] h = refl
    go (x ∷ xs) h = (λ i. h x.name (at_head x xs) i && all_among vars xs) ∙ go xs (λ q e. h q (in_right (x ∷ []) xs q e))

pub uses_less : (keys : List (Var × Var)) (n p : Plan) → IsWide (map (λ k. k.1) keys ++ used_by n p) p → (has_distinct n ≡ false) × (used_by n p ≡ map named (reads n))
uses_less keys n p h = go (has_distinct n) refl
  where
    go : (b : Bool) → has_distinct n ≡ b → (has_distinct n ≡ false) × (used_by n p ≡ map named (reads n))
    go false e = (e, ap (λ b. if b then live p [] else map named (reads n)) e)
    go true e =
        let all : used_by n p ≡ live p [] = ap (λ b. if b then live p [] else map named (reads n)) e in
        let old = map (λ (k : Var × Var). k.1) keys in
        absurd (no (sym h ∙ not_wide (old ++ used_by n p) p (λ q d. in_right old (used_by n p) q (ap (λ vs. is_among vs q) all ∙ d))))

one_row : (f : Env → Env) (inner : Env) (P : Env → Type 0) (whole : List Env) → inner ∷ [] ≡ map f whole → AllByRecursion P whole → (w : Env) × (whole ≡ w ∷ []) × (inner ≡ f w) × P w
one_row f inner P [] e h = absurd cc
one_row f inner P (w ∷ []) e h = (w, refl, cc, h.0)
one_row f inner P (w ∷ v ∷ ws) e h = absurd cc

avoids_names : (ds xs : List Var) (qs : List Bytes) → IsIn (map named qs) xs → ((q : Bytes) → is_among xs q ≡ true → is_among ds q ≡ false) → Avoids ds qs
avoids_names ds xs [] h g = tt
avoids_names ds xs (q ∷ qs) h g = (g q (h q (at_head (named q) (map named qs))), avoids_names ds xs qs (λ s e. h s (in_right (named q ∷ []) (map named qs) s e)) g)

pass_names : (given known xs : List Var) (qs : List Bytes) → IsIn (map named qs) xs → ((q : Bytes) → is_among xs q ≡ true → is_among given q ≡ true → is_among known q ≡ true) → PassAll given known qs
pass_names given known xs [] h g = tt
pass_names given known xs (q ∷ qs) h g = (g q (h q (at_head (named q) (map named qs))), pass_names given known xs qs (λ s e. h s (in_right (named q ∷ []) (map named qs) s e)) g)

keeps_olds : (ds : List Var) (keys : List (Var × Var)) → ((q : Bytes) → is_among (map (λ k. k.1) keys) q ≡ true → is_among ds q ≡ false) → Keeps (forget ds) (map (λ k. k.1.name) keys)
keeps_olds ds keys h = keeps_forget ds (map (λ k. k.1.name) keys) (each keys h)
  where
    each : (keys : List (Var × Var)) → ((q : Bytes) → is_among (map (λ k. k.1) keys) q ≡ true → is_among ds q ≡ false) → Avoids ds (map (λ k. k.1.name) keys)
    each [] h = tt
    each (k ∷ keys) h = (h k.1.name (at_head k.1 (map (λ k. k.1) keys)), each keys (λ q e. h q (in_right (k.1 ∷ []) (map (λ k. k.1) keys) q e)))

zip_groups : (f : Env → Env) (R S : Group → Env → Type 0) → ((g : Group) (row : Env) → R (on_group f g) row → S g row) → (gs : List Group) (rows : List Env) → AllZip R (map (on_group f) gs) rows → AllZip S gs rows
zip_groups f R S h [] [] k = tt
zip_groups f R S h [] (r ∷ rows) k = absurd k
zip_groups f R S h (g ∷ gs) [] k = absurd k
zip_groups f R S h (g ∷ gs) (r ∷ rows) k = (h g r k.0, zip_groups f R S h gs rows k.1)

pub group_project : (keys : List (Var × Var)) (n p : Plan) → IsWide (map (λ k. k.1) keys ++ used_by n p) p → Fit (P.Group keys n p) → Replaces (P.Group keys n (narrowed (map (λ k. k.1) keys ++ used_by n p) p)) (P.Group keys n p)
group_project keys n p wide_enough fit =
    let (plain, uses_are) = uses_less keys n p wide_enough in
    let old = map (λ (k : Var × Var). k.1) keys in
    let new = map (λ (k : Var × Var). k.0) keys in
    let all = old ++ used_by n p in
    let rest = kept all p in
    let y = narrowed all p in
    let ds = dropped all p in
    let f = forget ds in
    let top = out_Group keys n p fit in
    let kin = kin_narrowed all p top.root in
    let live_is : live y [] ≡ rest = live-Project rest p [] in
    let olds : IsIn old all = in_left old (used_by n p) in
    let reads_in : IsIn (map named (reads n)) all = λ q e. in_right old (used_by n p) q (ap (λ vs. is_among vs q) uses_are ∙ e) in
    let inner : FitsEach n true rest = suits n (live p []) rest (pass_names (live p []) rest all (reads n) reads_in (λ q e d. are_kept all p q e d)) top.inner in
    let agg = aggregates n top.aggregates in
    let same_inner : live n (live y []) ≡ live n (live p []) = agg.live_is (live y []) ∙ sym (agg.live_is (live p [])) in
    let avoids : Avoids ds (reads n) = avoids_names ds all (reads n) reads_in (not_dropped all p) in
    let beside_made : Disjoint (live p []) (makes n ++ new) = cross p false [] (makes n ++ new) top.input.each top.once (λ q e. absurd (no (sym e))) in
    let apart : Disjoint ds (makes n) = λ q e. not_left (makes n) new q (beside_made q (dropped_live all p q e)) in
    let own_apart : Disjoint ds agg.own = λ q e. agg.made q (apart q e) in
    let keeps = keeps_olds ds keys (λ q e. not_dropped all p q (olds q e)) in
    let same_key : (r : Env) → key_of keys (f r) ≡ key_of keys r = λ r. key_of-kept f keys r keeps in
    let whole = in_Group keys n y (record {
      input = fit_narrowed all p top.input top.root;
      root = result-Project rest p;
      listed = subst (λ (vs : List Var). AreLive vs old) (sym live_is) (are_live rest old (λ q e. are_kept all p q (olds q e) (among_of (live p []) old top.listed q e)));
      inner = subst (FitsEach n true) (sym live_is) inner;
      aggregates = top.aggregates;
      thin = subst (λ (vs : List Var). AtMost64 (new ++ vs)) (sym same_inner) top.thin;
      once = subst (λ (vs : List Var). NoTwice (vs ++ (makes n ++ new))) (sym kin.made) top.once;
    }) in
    let vars_are : live (P.Group keys n y) [] ≡ live (P.Group keys n p) [] = live-Group keys n y [] ∙ ap (λ vs. new ++ vs) same_inner ∙ sym (live-Group keys n p []) in
    kin_replaces (P.Group keys n y) (P.Group keys n p) fit whole vars_are (kin-Group keys n y p kin) (λ b sets rows fills k.
    let o = from_Group keys n y b sets [] [] rows k in
    let u = from_Project rest p b sets [] [] o.0 o.1 in
    let mapped : o.0 ≡ map f u.0 = u.2 ∙ cuts_are_forgets all p u.0 (rows_within p b sets u.0 u.1) in
    let (gs, grouping, are) = ungrouping f keys same_key u.0 o.2.0 (subst (λ (zs : List Env). IsGrouping keys zs o.2.0) mapped o.2.2) in
    let zipped = zip_groups f
    (λ g row. Gives (Allows n) b sets (live y []) (rows_in g) (λ inner. row ≡ with_new (new_of keys) (key_of keys g.0) inner))
    (λ g row. Gives (Allows n) b sets (live p []) (rows_in g) (λ inner. row ≡ with_new (new_of keys) (key_of keys g.0) inner))
    (λ g row m.
    let (ws, allowed, is) = remembers n (live p []) top.inner plain ds avoids apart b sets (live p []) (live y []) (rows_in g) (m.0 ∷ []) m.1 in
    let (w, one, image, within) = one_row f m.0 (IsWithin agg.own) ws is (agg.rows b sets (live p []) (rows_in g) ws allowed) in
    (w, subst (Allows n b sets (live p []) (rows_in g)) one allowed, m.2 ∙ (λ i. with_new (new_of keys) (same_key g.0 i) ((image ∙ forget_within ds agg.own w within own_apart) i))))
    gs o.2.1 (subst (λ (hs : List Group). AllZip (λ g row. Gives (Allows n) b sets (live y []) (rows_in g) (λ inner. row ≡ with_new (new_of keys) (key_of keys g.0) inner)) hs o.2.1) are o.2.3) in
    allows_Group keys n p b sets [] [] rows (u.0, u.1, (gs, o.2.1, grouping, zipped, o.2.4)))
