-- Joins over an input that is cut to what the project above and the condition use.
use Rattle.std.proofs.Common.{◌≡◌, inl, inr, Bool, true, false, List, [], ◌∷◌, ◌++◌, map, filter, length-append, refl, ap, sym, subst, ◌∙◌, arith}
use Rattle.std.proofs.lemmas.List.{map-append, map-id}
use Rattle.std.specs.Prelude.{if◌then◌else◌, ◌||◌}
use Rattle.std.specs.List.{AllByRecursion}
use Rattle.std.specs.List.Sorted.{IsPermutation}
use Rattle.al_value.specs.declared.value.Value.TheVariants as V
use Rattle.al_plan.specs.declared.expr.Var.{Var}
use Rattle.al_plan.specs.declared.expr.Expr.{Expr}
use Rattle.al_plan.specs.declared.plan.Plan.{Plan}
use Rattle.al_plan.specs.declared.plan.Plan.TheVariants as P
use Rattle.al_plan.specs.Eval.{Bytes, Env, holds}
use Rattle.al_plan.specs.Names.{names}
use Rattle.al_plan.specs.Uses.{named}
use Rattle.al_plan.specs.Allows.{Sets, Allows, live, is_among, cut, beside, nulls, matches, or_alone, pairs, left_pairs}
use Rattle.al_plan.specs.Refines.{Fit, NoTwice, IsOver, AreAmong, AreLive, AtMost64, IsWithin, Replaces, makes}
use Rattle.al_plan.proofs.Bools.{no, by_cases}
use Rattle.al_plan.proofs.Lives.{live_apart}
use Rattle.al_plan.proofs.Makes.{among_of, at_head, Disjoint}
use Rattle.al_plan.proofs.Moves.{IsPermutation-lift}
use Rattle.al_plan.proofs.Within.{is_among-append}
use Rattle.al_plan.proofs.PlanLaws.{allows_Join, from_Join, allows_LeftJoin, from_LeftJoin, allows_Project, from_Project, live-Join, live-LeftJoin, live-Project, result-Project, result-Join, result-LeftJoin}
use Rattle.al_rule.proofs.FitLaws.{JoinFits, out_Join, in_Join, out_LeftJoin, in_LeftJoin, out_Project, in_Project}
use Rattle.al_rule.proofs.Joins.{all_pairs, rows_within}
use Rattle.al_rule.proofs.RuleFit.{holds-cut}
use Rattle.al_rules_prune.specs.Prunes.{kept, narrowed, read_by, joined, CutsInput}
use Rattle.al_rules_prune.specs.Kept.{IsIn, among_append, are_live, are_kept, kept_live, fit_narrowed, in_left, in_right, length_filter}
use Rattle.al_rules_prune.specs.RowMaps.{filter-kept}
use Rattle.al_rules_prune.specs.CutInputs.{cuts_cut}
use Rattle.al_rules_prune.specs.Kin.{Kin, kin_refl, kin_replaces, kin_narrowed, kin-Join, kin-LeftJoin, kin-Project}

-- ---- pairs of mapped rows are mapped pairs

module _ (xs ys : List Var) (f h g : Env → Env) where
  -- a pair of mapped rows is the mapped pair
  abbrev pub IsPair : Env → Env → Type 0
  IsPair a b = beside xs (f a) (h b) ≡ g (beside ys a b)

  abbrev pub IsAlone : Env → Type 0
  IsAlone a = beside xs (f a) nulls ≡ g (beside ys a nulls)

  besides : (a : Env) (rs : List Env) → AllByRecursion (IsPair a) rs → map (beside xs (f a)) (map h rs) ≡ map g (map (beside ys a) rs)
  besides a [] k = refl
  besides a (b ∷ rs) k = λ i. k.0 i ∷ besides a rs k.1 i

  module _ (c : Expr) (same : (r : Env) → holds c (g r) ≡ holds c r) where
    matched : (a : Env) (rs : List Env) → AllByRecursion (IsPair a) rs → matches xs c (map h rs) (f a) ≡ map g (matches ys c rs a)
    matched a rs k = ap (filter (holds c)) (besides a rs k) ∙ filter-kept g c (map (beside ys a) rs) same

    pairs_mapped : (ls rs : List Env) → AllByRecursion (λ a. AllByRecursion (IsPair a) rs) ls → pairs xs c (map f ls) (map h rs) ≡ map g (pairs ys c ls rs)
    pairs_mapped [] rs k = refl
    pairs_mapped (a ∷ ls) rs k = (λ i. matched a rs k.0 i ++ pairs_mapped ls rs k.1 i) ∙ sym (map-append g (matches ys c rs a) (pairs ys c ls rs))

    alone_mapped : (a : Env) (zs : List Env) → IsAlone a → or_alone (beside xs (f a) nulls) (map g zs) ≡ map g (or_alone (beside ys a nulls) zs)
    alone_mapped a [] e = ap (λ (r : Env). r ∷ []) e
    alone_mapped a (z ∷ zs) e = refl

    left_pairs_mapped : (ls rs : List Env) → AllByRecursion (λ a. AllByRecursion (IsPair a) rs) ls → AllByRecursion IsAlone ls → left_pairs xs c (map f ls) (map h rs) ≡ map g (left_pairs ys c ls rs)
    left_pairs_mapped [] rs k m = refl
    left_pairs_mapped (a ∷ ls) rs k m =
        (λ i. or_alone (beside xs (f a) nulls) (matched a rs k.0 i) ++ left_pairs_mapped ls rs k.1 m.1 i)
        ∙ (λ i. alone_mapped a (matches ys c rs a) m.0 i ++ map g (left_pairs ys c ls rs))
        ∙ sym (map-append g (or_alone (beside ys a nulls) (matches ys c rs a)) (left_pairs ys c ls rs))

-- ---- an input and what is kept of it

-- a plan that gives an input's rows, mapped
abbrev pub Maps : (Env → Env) → Plan → Plan → Type 0
Maps f q p = (b : Bool) (sets : Sets) (rows : List Env) → Allows q b sets [] [] rows → (whole : List Env) × Allows p b sets [] [] whole × (rows ≡ map f whole)

maps_itself : (p : Plan) → Maps (λ r. r) p p
maps_itself p b sets rows k = (rows, k, sym (map-id rows))

maps_narrowed : (vars : List Var) (p : Plan) → Maps (cut (kept vars p)) (narrowed vars p) p
maps_narrowed vars p b sets rows k = from_Project (kept vars p) p b sets [] [] rows k

-- what a pair of inputs that map others' rows has for its pairs
pub record PairsAgree (c : Expr) (vars : List Var) (f h : Env → Env) (all : List Var) (x y l r : Plan) : Type 0 where
  pub left : Maps f x l
  pub right : Maps h y r
  pub pair : (a b : Env) → IsWithin (live l []) a → IsWithin (live r []) b → beside (live x []) (f a) (h b) ≡ cut all (beside (live l []) a b)
  pub alone : (a : Env) → IsWithin (live l []) a → beside (live x []) (f a) nulls ≡ cut all (beside (live l []) a nulls)
  pub same : (s : Env) → holds c (cut all s) ≡ holds c s
  pub listed : IsIn vars all

each_within : (vars : List Var) (Q : Env → Type 0) → ((a : Env) → IsWithin vars a → Q a) → (rows : List Env) → AllByRecursion (IsWithin vars) rows → AllByRecursion Q rows
each_within vars Q f [] h = tt
each_within vars Q f (a ∷ rows) h = (f a h.0, each_within vars Q f rows h.1)

-- a project of the join over the cut inputs allows no more lists than that of the join
join_less : (c : Expr) (vars : List Var) (f h : Env → Env) (all : List Var) (x y l r : Plan) → PairsAgree c vars f h all x y l r
    → (b : Bool) (sets : Sets) (rows : List Env) → Allows (P.Project vars (P.Join c x y)) b sets [] [] rows → Allows (P.Project vars (P.Join c l r)) b sets [] [] rows
join_less c vars f h all x y l r k b sets rows m =
    let top = from_Project vars (P.Join c x y) b sets [] [] rows m in
    let o = from_Join c x y b sets [] [] top.0 top.1 in
    let (left, lefts, left_is) = k.left b sets o.0 o.1 in
    let (right, rights, right_is) = k.right b sets o.2.0 o.2.1 in
    let both = all_pairs (live l []) (live r []) (IsPair (live x []) (live l []) f h (cut all)) k.pair left right (rows_within l b sets left lefts) (rows_within r b sets right rights) in
    let mapped : pairs (live x []) c o.0 o.2.0 ≡ map (cut all) (pairs (live l []) c left right) =
    (λ i. pairs (live x []) c (left_is i) (right_is i)) ∙ pairs_mapped (live x []) (live l []) f h (cut all) c k.same left right both in
    let (zs, moved, is) = IsPermutation-lift (cut all) (pairs (live l []) c left right) top.0 (subst (λ (ws : List Env). IsPermutation ws top.0) mapped o.2.2) in
    allows_Project vars (P.Join c l r) b sets [] [] rows (zs, allows_Join c l r b sets [] [] zs (left, lefts, (right, rights, moved)), top.2 ∙ ap (map (cut vars)) is ∙ cuts_cut vars all zs k.listed)

left_join_less : (c : Expr) (vars : List Var) (f h : Env → Env) (all : List Var) (x y l r : Plan) → PairsAgree c vars f h all x y l r
    → (b : Bool) (sets : Sets) (rows : List Env) → Allows (P.Project vars (P.LeftJoin c x y)) b sets [] [] rows → Allows (P.Project vars (P.LeftJoin c l r)) b sets [] [] rows
left_join_less c vars f h all x y l r k b sets rows m =
    let top = from_Project vars (P.LeftJoin c x y) b sets [] [] rows m in
    let o = from_LeftJoin c x y b sets [] [] top.0 top.1 in
    let (left, lefts, left_is) = k.left b sets o.0 o.1 in
    let (right, rights, right_is) = k.right b sets o.2.0 o.2.1 in
    let inside = rows_within l b sets left lefts in
    let both = all_pairs (live l []) (live r []) (IsPair (live x []) (live l []) f h (cut all)) k.pair left right inside (rows_within r b sets right rights) in
    let single = each_within (live l []) (IsAlone (live x []) (live l []) f h (cut all)) k.alone left inside in
    let mapped : left_pairs (live x []) c o.0 o.2.0 ≡ map (cut all) (left_pairs (live l []) c left right) =
    (λ i. left_pairs (live x []) c (left_is i) (right_is i)) ∙ left_pairs_mapped (live x []) (live l []) f h (cut all) c k.same left right both single in
    let (zs, moved, is) = IsPermutation-lift (cut all) (left_pairs (live l []) c left right) top.0 (subst (λ (ws : List Env). IsPermutation ws top.0) mapped o.2.2) in
    allows_Project vars (P.LeftJoin c l r) b sets [] [] rows (zs, allows_LeftJoin c l r b sets [] [] zs (left, lefts, (right, rights, moved)), top.2 ∙ ap (map (cut vars)) is ∙ cuts_cut vars all zs k.listed)

-- ---- what fits and agrees where one input is cut

-- what is made of a join with other inputs: they fit, and give the rows of the join's inputs, cut
record Cuts (c : Expr) (vars : List Var) (x y l r : Plan) : Type 1 where
  left_map : Env → Env
  right_map : Env → Env
  all : List Var
  agree : PairsAgree c vars left_map right_map all x y l r
  fit : JoinFits c x y
  listed : IsIn vars (live x [] ++ live y [])
  kin_left : Kin x l
  kin_right : Kin y r

among_cut : (vars : List Var) (p : Plan) (q : Bytes) → is_among (live p []) q ≡ false → is_among (kept vars p) q ≡ false
among_cut vars p q e = by_cases (is_among (kept vars p) q) (λ t. absurd (no (sym (kept_live vars p q t) ∙ e))) (λ t. t)

-- the left input cut: a left value is kept, or is not looked for, and then the right row has none
left_pair : (vars : List Var) (l r : Plan) → Disjoint (live l []) (live r []) → (a b : Env) → IsWithin (live r []) b
    → beside (kept vars l) (cut (kept vars l) a) b ≡ cut (kept vars l ++ live r []) (beside (live l []) a b)
left_pair vars l r apart a b w i q = (by_cases (is_among (kept vars l) q)
    (λ e.
    let seen : is_among (kept vars l ++ live r []) q ≡ true = in_left (kept vars l) (live r []) q e in
    ap (λ t. if t then cut (kept vars l) a q else b q) e ∙ ap (λ t. if t then a q else V.Null) e
    ∙ sym (ap (λ t. if t then beside (live l []) a b q else V.Null) seen ∙ ap (λ t. if t then a q else b q) (kept_live vars l q e)))
    (λ e. ap (λ t. if t then cut (kept vars l) a q else b q) e ∙ by_cases (is_among (live r []) q)
    (λ s.
    let seen : is_among (kept vars l ++ live r []) q ≡ true = in_right (kept vars l) (live r []) q s in
    let not_left : is_among (live l []) q ≡ false = by_cases (is_among (live l []) q) (λ t. absurd (no (sym s ∙ apart q t))) (λ t. t) in
    sym (ap (λ t. if t then beside (live l []) a b q else V.Null) seen ∙ ap (λ t. if t then a q else b q) not_left))
    (λ s.
    let seen : is_among (kept vars l ++ live r []) q ≡ false = is_among-append (kept vars l) (live r []) q ∙ (λ j. e j || s j) in
    w q s ∙ sym (ap (λ t. if t then beside (live l []) a b q else V.Null) seen)))) i

-- the right input cut: of the right row only what is kept is looked for
right_pair : (vars : List Var) (l r : Plan) (a b : Env) → beside (live l []) a (cut (kept vars r) b) ≡ cut (live l [] ++ kept vars r) (beside (live l []) a b)
right_pair vars l r a b i q = (by_cases (is_among (live l []) q)
    (λ e. ap (λ t. if t then a q else cut (kept vars r) b q) e
    ∙ sym (ap (λ t. if t then beside (live l []) a b q else V.Null) (in_left (live l []) (kept vars r) q e) ∙ ap (λ t. if t then a q else b q) e))
    (λ e.
    let seen : is_among (live l [] ++ kept vars r) q ≡ is_among (kept vars r) q = is_among-append (live l []) (kept vars r) q ∙ ap (λ t. t || is_among (kept vars r) q) e in
    ap (λ t. if t then a q else cut (kept vars r) b q) e
    ∙ sym (ap (λ t. if t then beside (live l []) a b q else V.Null) seen ∙ ap (λ t. if is_among (kept vars r) q then (if t then a q else b q) else V.Null) e))) i

nulls_within : (vars : List Var) → IsWithin vars nulls
nulls_within vars q e = refl

cut_nulls : (vars : List Var) → cut vars nulls ≡ nulls
cut_nulls vars i q = (by_cases (is_among vars q) (λ e. ap (λ t. if t then V.Null else V.Null) e) (λ e. ap (λ t. if t then V.Null else V.Null) e)) i

both_among : (ys zs : List Var) (qs : List Bytes) → ((q : Bytes) → is_among (map named qs) q ≡ true → is_among ys q ≡ true → is_among zs q ≡ true) → AreAmong ys qs → AreAmong zs qs
both_among ys zs [] h g = tt
both_among ys zs (q ∷ qs) h g = (h q (at_head (named q) (map named qs)) g.0, both_among ys zs qs (λ p e. h p (in_right (named q ∷ []) (map named qs) p e)) g.1)

-- the left input cut
cut_left : (vars : List Var) (c : Expr) (l r : Plan) → JoinFits c l r → IsIn vars (live l [] ++ live r []) → Cuts c vars (narrowed (vars ++ read_by c) l) r l r
cut_left vars c l r h listed =
    let all = vars ++ read_by c in
    let rest = kept all l in
    let x = narrowed all l in
    let kin = kin_narrowed all l h.left_root in
    let live_is : live x [] ≡ rest = live-Project rest l [] in
    let still : (q : Bytes) → is_among all q ≡ true → is_among (live l [] ++ live r []) q ≡ true → is_among (rest ++ live r []) q ≡ true =
    λ q e d. among_append (live l []) (live r []) rest (live r []) q d (λ t. are_kept all l q e t) (λ t. t) in
    let reads : AreAmong (rest ++ live r []) (names c) = both_among (live l [] ++ live r []) (rest ++ live r []) (names c) (λ q e. still q (in_right vars (read_by c) q e)) h.over.reads in
    let apart = live_apart l r h.left h.right h.once in
    let few = length_filter (λ (v : Var). is_among all v.name) (live l []) in
    let inside : IsIn vars (rest ++ live r []) = λ q e. still q (in_left vars (read_by c) q e) (listed q e) in record {
      left_map = cut rest;
      right_map = λ b. b;
      all = rest ++ live r [];
      agree = record {
        left = maps_narrowed all l;
        right = maps_itself r;
        pair = λ a b v w. ap (λ vs. beside vs (cut rest a) b) live_is ∙ left_pair all l r apart a b w;
        alone = λ a v. ap (λ vs. beside vs (cut rest a) nulls) live_is ∙ left_pair all l r apart a nulls (nulls_within (live r []));
        same = λ s. holds-cut c (rest ++ live r []) s reads;
        listed = inside;
      };
      fit = record {
        left = fit_narrowed all l h.left h.left_root;
        left_root = result-Project rest l;
        right = h.right;
        right_root = h.right_root;
        over = subst (λ (vs : List Var). IsOver (vs ++ live r []) c) (sym live_is) (record { reads = reads; arities = h.over.arities });
        thin = subst (λ (vs : List Var). AtMost64 (vs ++ live r [])) (sym live_is) (omega (arith, h.thin, few, length-append (live l []) (live r []), length-append rest (live r [])));
        once = subst (λ (vs : List Var). NoTwice (vs ++ makes r)) (sym kin.made) h.once;
      };
      listed = subst (λ (vs : List Var). IsIn vars (vs ++ live r [])) (sym live_is) inside;
      kin_left = kin;
      kin_right = kin_refl r;
    }

-- the right input cut
cut_right : (vars : List Var) (c : Expr) (l r : Plan) → JoinFits c l r → IsIn vars (live l [] ++ live r []) → Cuts c vars l (narrowed (vars ++ read_by c) r) l r
cut_right vars c l r h listed =
    let all = vars ++ read_by c in
    let rest = kept all r in
    let y = narrowed all r in
    let kin = kin_narrowed all r h.right_root in
    let live_is : live y [] ≡ rest = live-Project rest r [] in
    let still : (q : Bytes) → is_among all q ≡ true → is_among (live l [] ++ live r []) q ≡ true → is_among (live l [] ++ rest) q ≡ true =
    λ q e d. among_append (live l []) (live r []) (live l []) rest q d (λ t. t) (λ t. are_kept all r q e t) in
    let reads : AreAmong (live l [] ++ rest) (names c) = both_among (live l [] ++ live r []) (live l [] ++ rest) (names c) (λ q e. still q (in_right vars (read_by c) q e)) h.over.reads in
    let few = length_filter (λ (v : Var). is_among all v.name) (live r []) in
    let inside : IsIn vars (live l [] ++ rest) = λ q e. still q (in_left vars (read_by c) q e) (listed q e) in record {
      left_map = λ a. a;
      right_map = cut rest;
      all = live l [] ++ rest;
      agree = record {
        left = maps_itself l;
        right = maps_narrowed all r;
        pair = λ a b v w. right_pair all l r a b;
        alone = λ a v. ap (beside (live l []) a) (sym (cut_nulls rest)) ∙ right_pair all l r a nulls;
        same = λ s. holds-cut c (live l [] ++ rest) s reads;
        listed = inside;
      };
      fit = record {
        left = h.left;
        left_root = h.left_root;
        right = fit_narrowed all r h.right h.right_root;
        right_root = result-Project rest r;
        over = subst (λ (vs : List Var). IsOver (live l [] ++ vs) c) (sym live_is) (record { reads = reads; arities = h.over.arities });
        thin = subst (λ (vs : List Var). AtMost64 (live l [] ++ vs)) (sym live_is) (omega (arith, h.thin, few, length-append (live l []) (live r []), length-append (live l []) rest));
        once = subst (λ (vs : List Var). NoTwice (makes l ++ vs)) (sym kin.made) h.once;
      };
      listed = subst (λ (vs : List Var). IsIn vars (live l [] ++ vs)) (sym live_is) inside;
      kin_left = kin_refl l;
      kin_right = kin;
    }

-- a join or a left join over inputs that are cut so, below a project
over_cuts : (left : Bool) (vars : List Var) (c : Expr) (x y l r : Plan) → Fit (P.Project vars (joined left c l r)) → Cuts c vars x y l r → Replaces (P.Project vars (joined left c x y)) (P.Project vars (joined left c l r))
over_cuts false vars c x y l r fit k =
    let top = out_Project vars (P.Join c l r) fit in
    let whole = in_Project vars (P.Join c x y) (record { input = in_Join c x y k.fit; root = result-Join c x y; listed = subst (λ (vs : List Var). AreLive vs vars) (sym (live-Join c x y [])) (are_live (live x [] ++ live y []) vars k.listed); no_twice = top.no_twice; thin = top.thin }) in
    kin_replaces (P.Project vars (P.Join c x y)) (P.Project vars (P.Join c l r)) fit whole (live-Project vars (P.Join c x y) [] ∙ sym (live-Project vars (P.Join c l r) [])) (kin-Project vars (P.Join c x y) (P.Join c l r) (kin-Join c x l y r k.kin_left k.kin_right))
    (λ b sets rows fills m. join_less c vars k.left_map k.right_map k.all x y l r k.agree b sets rows m)
over_cuts true vars c x y l r fit k =
    let top = out_Project vars (P.LeftJoin c l r) fit in
    let g = k.fit in
    let whole = in_Project vars (P.LeftJoin c x y) (record { input = in_LeftJoin c x y (record { left = g.left; left_root = g.left_root; right = g.right; right_root = g.right_root; over = g.over; thin = g.thin; once = g.once }); root = result-LeftJoin c x y; listed = subst (λ (vs : List Var). AreLive vs vars) (sym (live-LeftJoin c x y [])) (are_live (live x [] ++ live y []) vars k.listed); no_twice = top.no_twice; thin = top.thin }) in
    kin_replaces (P.Project vars (P.LeftJoin c x y)) (P.Project vars (P.LeftJoin c l r)) fit whole (live-Project vars (P.LeftJoin c x y) [] ∙ sym (live-Project vars (P.LeftJoin c l r) [])) (kin-Project vars (P.LeftJoin c x y) (P.LeftJoin c l r) (kin-LeftJoin c x l y r k.kin_left k.kin_right))
    (λ b sets rows fills m. left_join_less c vars k.left_map k.right_map k.all x y l r k.agree b sets rows m)

-- what a join or a left join asks of its inputs
joined_fits : (left : Bool) (vars : List Var) (c : Expr) (l r : Plan) → Fit (P.Project vars (joined left c l r)) → JoinFits c l r × IsIn vars (live l [] ++ live r [])
joined_fits false vars c l r fit =
    let top = out_Project vars (P.Join c l r) fit in
    (out_Join c l r top.input, among_of (live l [] ++ live r []) vars (subst (λ (vs : List Var). AreLive vs vars) (live-Join c l r []) top.listed))
joined_fits true vars c l r fit =
    let top = out_Project vars (P.LeftJoin c l r) fit in
    let g = out_LeftJoin c l r top.input in
    (record { left = g.left; left_root = g.left_root; right = g.right; right_root = g.right_root; over = g.over; thin = g.thin; once = g.once }, among_of (live l [] ++ live r []) vars (subst (λ (vs : List Var). AreLive vs vars) (live-LeftJoin c l r []) top.listed))

pub project_below_join : (left : Bool) (vars : List Var) (c : Expr) (l r x y : Plan) → CutsInput (vars ++ read_by c) l r x y → Fit (P.Project vars (joined left c l r)) → Replaces (P.Project vars (joined left c x y)) (P.Project vars (joined left c l r))
project_below_join left vars c l r x y (inl (is_wide, x_is, y_is)) fit =
    let (h, listed) = joined_fits left vars c l r fit in
    subst (λ (z : Plan). Replaces (P.Project vars (joined left c z y)) (P.Project vars (joined left c l r))) (sym x_is)
    (subst (λ (z : Plan). Replaces (P.Project vars (joined left c (narrowed (vars ++ read_by c) l) z)) (P.Project vars (joined left c l r))) (sym y_is)
    (over_cuts left vars c (narrowed (vars ++ read_by c) l) r l r fit (cut_left vars c l r h listed)))
project_below_join left vars c l r x y (inr (not_wide, is_wide, x_is, y_is)) fit =
    let (h, listed) = joined_fits left vars c l r fit in
    subst (λ (z : Plan). Replaces (P.Project vars (joined left c z y)) (P.Project vars (joined left c l r))) (sym x_is)
    (subst (λ (z : Plan). Replaces (P.Project vars (joined left c l z)) (P.Project vars (joined left c l r))) (sym y_is)
    (over_cuts left vars c l (narrowed (vars ++ read_by c) r) l r fit (cut_right vars c l r h listed)))
