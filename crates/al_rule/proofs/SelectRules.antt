-- Selects that go, go below an operator or into a join.
use Rattle.std.proofs.Common.{◌≡◌, ◌||◌, ◌&&◌, Bool, true, false, cond, List, [], ◌∷◌, ◌++◌, map, filter, flat_map, refl, ap, sym, subst, ◌∙◌}
use Rattle.std.specs.Prelude.{if◌then◌else◌}
use Rattle.std.specs.List.{AllByRecursion}
use Rattle.std.specs.List.Sorted.{IsPermutation}
use Rattle.al_value.specs.declared.value.Value.{Value}
use Rattle.al_func.specs.Func.{is_true}
use Rattle.al_plan.specs.declared.expr.Var.{Var}
use Rattle.al_plan.specs.declared.expr.Expr.{Expr}
use Rattle.al_plan.specs.declared.plan.Generator.{Generator}
use Rattle.al_plan.specs.declared.plan.OrderKey.{OrderKey}
use Rattle.al_plan.specs.declared.plan.Plan.{Plan}
use Rattle.al_plan.specs.declared.plan.Plan.TheVariants as P
use Rattle.al_plan.specs.Eval.{Bytes, Env, bind, eval, holds}
use Rattle.al_plan.specs.Names.{names, has_arities}
use Rattle.al_plan.specs.Calls.{items}
use Rattle.al_plan.specs.Allows.{live, is_among, cut, beside, with_new, assigned, expanded, nulls, matches, left_pairs, or_alone}
use Rattle.al_plan.specs.Refines.{Fit, IsOver, AreAmong, Replaces, IsWithin}
use Rattle.al_rule.specs.Chains.{assigning, selecting, projecting, unnesting, row_of}
use Rattle.al_rule.specs.Pairs.{IsBoth, SplitsLeft}
use Rattle.al_rule.specs.Reads.{ReadsNone}
use Rattle.al_plan.proofs.PlanLaws.{allows_Select, allows_LeftJoin, from_Select, from_LeftJoin, live-Select, live-Assign, live-Project, live-Unnest, live-Order, live-Distinct}
use Rattle.al_plan.proofs.Moves.{filter_all}
use Rattle.al_plan.proofs.Orders.{filter-lift}
use Rattle.al_plan.proofs.Within.{is_among-append}
use Rattle.al_plan.proofs.Lives.{live_apart, turned}
use Rattle.al_plan.proofs.Makes.{no_more-same}
use Rattle.std.proofs.lemmas.List.Elements.{filter-append}
use Rattle.al_rule.proofs.ReadLaws.{eval-names}
use Rattle.al_rule.proofs.RuleFit.{holds-cut, holds-beside, among_among}
use Rattle.al_rule.proofs.Chains.{chains_refine}
use Rattle.al_rule.proofs.Alike.{alike-sym, alike-trans, alike-refl, alike_select, alike_replaces, alike-Join, same_lists}
use Rattle.al_rule.proofs.FitLaws.{in_Select, out_Select, out_Assign, out_Project, out_Unnest, in_Join, out_Join}
use Rattle.al_rule.proofs.Passing.{operator_Assign, operator_Project, operator_Unnest, operator_Order, operator_Distinct, operator_Join_left, operator_Join_right, operator_LeftJoin_left, lowered_fits, lowered_alike, select_goes_below}
use Rattle.al_rule.proofs.SelectOrder.{select_order_out}
use Rattle.al_rule.proofs.SelectDistinct.{select_distinct_out}
use Rattle.al_rule.proofs.Joins.{join_left_out, join_right_out, select_join_out, flat_cond}

-- ---- what conditions read

front_one : (a b : Bool) → (a || b) ≡ true → b ≡ false → a ≡ true
front_one true b h g = refl
front_one false b h g = sym (sym h ∙ g)

-- what is among two lists, and in none of the second, is among the first
pub among_front : (xs ys : List Var) (qs : List Bytes) → AreAmong (xs ++ ys) qs → AllByRecursion (λ q. is_among ys q ≡ false) qs → AreAmong xs qs
among_front xs ys [] h g = tt
among_front xs ys (q ∷ qs) h g = (front_one (is_among xs q) (is_among ys q) (sym (is_among-append xs ys q) ∙ h.0) g.0, among_front xs ys qs h.1 g.1)

beside_right : (vars : List Var) (a b : Env) (qs : List Bytes) → AllByRecursion (λ q. is_among vars q ≡ false) qs → AllByRecursion (λ q. beside vars a b q ≡ b q) qs
beside_right vars a b [] h = tt
beside_right vars a b (q ∷ qs) h = (ap (λ t. if t then a q else b q) h.0, beside_right vars a b qs h.1)

-- a condition that reads none of the first row's variables sees the second row
pub holds-past : (e : Expr) (vars : List Var) (a b : Env) → ReadsNone vars e → holds e (beside vars a b) ≡ holds e b
holds-past e vars a b h = ap is_true (eval-names e (beside vars a b) b (beside_right vars a b (names e) h))

pub over_less : (xs ys : List Var) (e : Expr) → IsOver (xs ++ ys) e → ReadsNone ys e → IsOver xs e
over_less xs ys e h g = record { reads = among_front xs ys (names e) h.reads g; arities = h.arities }

-- ---- a select whose condition is always TRUE

all_hold : (e : Expr) → ((r : Env) → holds e r ≡ true) → (rows : List Env) → AllByRecursion (λ r. holds e r ≡ true) rows
all_hold e h [] = tt
all_hold e h (r ∷ rows) = (h r, all_hold e h rows)

pub select_true : (e : Expr) (p : Plan) → ((r : Env) → holds e r ≡ true) → Fit (P.Select e p) → Replaces p (P.Select e p)
select_true e p h fit =
    let top = out_Select e p fit in
    alike_replaces p (P.Select e p) fit top.input (alike-sym (P.Select e p) p (alike_select e p top.root)) (λ b sets rows fills k. allows_Select e p b sets [] [] rows (rows, k, sym (filter_all (holds e) rows (all_hold e h rows))))

-- ---- a select of two conjuncts

filter_twice : (d a b : Expr) → IsBoth d a b → (rows : List Env) → filter (holds a) (filter (holds b) rows) ≡ filter (holds d) rows
filter_twice d a b h [] = refl
filter_twice d a b h (r ∷ rows) = go (holds a r) (holds b r) refl (holds d r) (h r) ∙ ap (λ zs. cond (holds d r) (r ∷ zs) zs) (filter_twice d a b h rows)
  where
    go : (s t : Bool) → holds a r ≡ s → (u : Bool) → u ≡ (s && t) → filter (holds a) (cond t (r ∷ filter (holds b) rows) (filter (holds b) rows)) ≡ cond u (r ∷ filter (holds a) (filter (holds b) rows)) (filter (holds a) (filter (holds b) rows))
    go true true e u k = (λ i. cond (e i) (r ∷ filter (holds a) (filter (holds b) rows)) (filter (holds a) (filter (holds b) rows))) ∙ ap (λ z. cond z (r ∷ filter (holds a) (filter (holds b) rows)) (filter (holds a) (filter (holds b) rows))) (sym k)
    go true false e u k = ap (λ z. cond z (r ∷ filter (holds a) (filter (holds b) rows)) (filter (holds a) (filter (holds b) rows))) (sym k)
    go false true e u k = (λ i. cond (e i) (r ∷ filter (holds a) (filter (holds b) rows)) (filter (holds a) (filter (holds b) rows))) ∙ ap (λ z. cond z (r ∷ filter (holds a) (filter (holds b) rows)) (filter (holds a) (filter (holds b) rows))) (sym k)
    go false false e u k = ap (λ z. cond z (r ∷ filter (holds a) (filter (holds b) rows)) (filter (holds a) (filter (holds b) rows))) (sym k)

pub split_and : (d a b : Expr) (p : Plan) → IsBoth d a b → IsOver (live p []) a → IsOver (live p []) b → Fit (P.Select d p) → Replaces (P.Select a (P.Select b p)) (P.Select d p)
split_and d a b p both over_a over_b fit =
    let top = out_Select d p fit in
    let inner = in_Select b p (record { input = top.input; root = top.root; over = over_b }) in
    let outer = in_Select a (P.Select b p) (record { input = inner; root = (alike_select b p top.root).root ∙ top.root; over = subst (λ (vs : List Var). IsOver vs a) (sym (live-Select b p [])) over_a }) in
    let like = alike-trans (P.Select a (P.Select b p)) (P.Select b p) p (alike_select a (P.Select b p) ((alike_select b p top.root).root ∙ top.root)) (alike_select b p top.root) in
    alike_replaces (P.Select a (P.Select b p)) (P.Select d p) fit outer (alike-trans (P.Select a (P.Select b p)) p (P.Select d p) like (alike-sym (P.Select d p) p (alike_select d p top.root))) (λ s sets rows fills k.
    let one = from_Select a (P.Select b p) s sets [] [] rows k in
    let two = from_Select b p s sets [] [] one.0 one.1 in
    allows_Select d p s sets [] [] rows (two.0, two.1, one.2 ∙ ap (filter (holds a)) two.2 ∙ filter_twice d a b both two.0))

-- ---- below operators that work on each row alone

-- a link that makes one row of each row
one_row : (f : Env → Env) (e : Expr) (r : Env) → holds e (f r) ≡ holds e r → flat_map (λ z. f z ∷ []) (cond (holds e r) (r ∷ []) [] ++ []) ≡ flat_map (row_of (selecting e)) (flat_map (λ z. f z ∷ []) (r ∷ []))
one_row f e r h = go (holds e r) (holds e (f r)) h
  where
    go : (t u : Bool) → u ≡ t → flat_map (λ z. f z ∷ []) (cond t (r ∷ []) [] ++ []) ≡ cond u (f r ∷ []) [] ++ []
    go true u same = ap (λ t. cond t (f r ∷ []) [] ++ []) (sym same)
    go false u same = ap (λ t. cond t (f r ∷ []) [] ++ []) (sym same)

pub below_assign : (e : Expr) (made : List (Var × Expr)) (p : Plan) → ReadsNone (map (λ m. m.0) made) e → Fit (P.Select e (P.Assign made p)) → Replaces (P.Assign made (P.Select e p)) (P.Select e (P.Assign made p))
below_assign e made p none fit =
    let top = out_Select e (P.Assign made p) fit in
    let reads = over_less (live p []) (map (λ m. m.0) made) e (subst (λ (vs : List Var). IsOver vs e) (live-Assign made p []) top.over) none in
    let whole = lowered_fits (P.Assign made) (operator_Assign made) e p fit reads in
    let like = lowered_alike (P.Assign made) (operator_Assign made) e p fit in
    record {
      refines = chains_refine (assigning made ∷ selecting e ∷ []) (selecting e ∷ assigning made ∷ []) p (out_Assign made p top.input).root whole fit (same_lists _ _ (sym like.vars))
          (λ r w. one_row (assigned made) e r (holds-past e (map (λ m. m.0) made) (bind (map (λ m. m.0) made) (map (λ m. eval m.1 r) made)) r none));
      makes_no_more = no_more-same _ _ like.made;
    }

pub below_project : (e : Expr) (vars : List Var) (p : Plan) → Fit (P.Select e (P.Project vars p)) → Replaces (P.Project vars (P.Select e p)) (P.Select e (P.Project vars p))
below_project e vars p fit =
    let top = out_Select e (P.Project vars p) fit in
    let second = out_Project vars p top.input in
    let over : IsOver vars e = subst (λ (vs : List Var). IsOver vs e) (live-Project vars p []) top.over in
    let reads : IsOver (live p []) e = record { reads = among_among (live p []) vars second.listed (names e) over.reads; arities = over.arities } in
    let whole = lowered_fits (P.Project vars) (operator_Project vars) e p fit reads in
    let like = lowered_alike (P.Project vars) (operator_Project vars) e p fit in
    record {
      refines = chains_refine (projecting vars ∷ selecting e ∷ []) (selecting e ∷ projecting vars ∷ []) p second.root whole fit (same_lists _ _ (sym like.vars)) (λ r w. one_row (cut vars) e r (holds-cut e vars r over.reads));
      makes_no_more = no_more-same _ _ like.made;
    }

-- what an unnest makes of a row passes a condition where the row does
many_rows : (e : Expr) (v : Var) (r : Env) → ReadsNone (v ∷ []) e → (t : Bool) → holds e r ≡ t → (xs : List Value) → cond t (map (λ x. with_new (v ∷ []) (x ∷ []) r) xs) [] ≡ flat_map (row_of (selecting e)) (map (λ x. with_new (v ∷ []) (x ∷ []) r) xs)
many_rows e v r none true et [] = refl
many_rows e v r none false et [] = refl
many_rows e v r none true et (x ∷ xs) = (λ i. (with_new (v ∷ []) (x ∷ []) r ∷ []) ++ many_rows e v r none true et xs i) ∙ ap (λ b. cond b (with_new (v ∷ []) (x ∷ []) r ∷ []) [] ++ flat_map (row_of (selecting e)) (map (λ x. with_new (v ∷ []) (x ∷ []) r) xs)) (sym (holds-past e (v ∷ []) (bind (v ∷ []) (x ∷ [])) r none ∙ et))
many_rows e v r none false et (x ∷ xs) = many_rows e v r none false et xs ∙ ap (λ b. cond b (with_new (v ∷ []) (x ∷ []) r ∷ []) [] ++ flat_map (row_of (selecting e)) (map (λ x. with_new (v ∷ []) (x ∷ []) r) xs)) (sym (holds-past e (v ∷ []) (bind (v ∷ []) (x ∷ [])) r none ∙ et))

flat_kept : (f : Env → List Env) (t : Bool) (r : Env) → flat_map f (cond t (r ∷ []) [] ++ []) ≡ cond t (f r ++ []) []
flat_kept f true r = refl
flat_kept f false r = refl

nil_end : {X : Type 0} (xs : List X) → xs ++ [] ≡ xs
nil_end [] = refl
nil_end (x ∷ xs) = ap (λ ys. x ∷ ys) (nil_end xs)

pub below_unnest : (e : Expr) (v : Var) (g : Generator) (p : Plan) → ReadsNone (v ∷ []) e → Fit (P.Select e (P.Unnest v g p)) → Replaces (P.Unnest v g (P.Select e p)) (P.Select e (P.Unnest v g p))
below_unnest e v g p none fit =
    let top = out_Select e (P.Unnest v g p) fit in
    let reads = over_less (live p []) (v ∷ []) e (subst (λ (vs : List Var). IsOver vs e) (live-Unnest v g p []) top.over) none in
    let whole = lowered_fits (P.Unnest v g) (operator_Unnest v g) e p fit reads in
    let like = lowered_alike (P.Unnest v g) (operator_Unnest v g) e p fit in
    record {
      refines = chains_refine (unnesting v g ∷ selecting e ∷ []) (selecting e ∷ unnesting v g ∷ []) p (out_Unnest v g p top.input).root whole fit (same_lists _ _ (sym like.vars)) (λ r w. flat_kept (expanded v g) (holds e r) r
          ∙ ap (λ zs. cond (holds e r) zs []) (nil_end (expanded v g r)) ∙ many_rows e v r none (holds e r) refl (items g r) ∙ ap (flat_map (row_of (selecting e))) (sym (nil_end (expanded v g r))));
      makes_no_more = no_more-same _ _ like.made;
    }

-- ---- below orders and distincts

pub below_order : (e : Expr) (keys : List OrderKey) (p : Plan) → Fit (P.Select e (P.Order keys p)) → Replaces (P.Order keys (P.Select e p)) (P.Select e (P.Order keys p))
below_order e keys p fit = select_goes_below (P.Order keys) (operator_Order keys) e p fit (subst (λ (vs : List Var). IsOver vs e) (live-Order keys p []) (out_Select e (P.Order keys p) fit).over) (λ b sets rows h. select_order_out e keys p b sets [] [] rows h)

pub below_distinct : (e : Expr) (p : Plan) → Fit (P.Select e (P.Distinct p)) → Replaces (P.Distinct (P.Select e p)) (P.Select e (P.Distinct p))
below_distinct e p fit = select_goes_below P.Distinct operator_Distinct e p fit (subst (λ (vs : List Var). IsOver vs e) (live-Distinct p []) (out_Select e (P.Distinct p) fit).over) (select_distinct_out e p)

-- ---- joins; `d` is TRUE where the condition of the join and that of the select are

and_comm : (a b : Bool) → (a && b) ≡ (b && a)
and_comm true true = refl
and_comm true false = refl
and_comm false true = refl
and_comm false false = refl

pub below_join_left : (d e c : Expr) (l r : Plan) → IsBoth d c e → AreAmong (live l []) (names e) → Fit (P.Select e (P.Join c l r)) → Replaces (P.Join c (P.Select e l) r) (P.Select e (P.Join c l r))
below_join_left d e c l r both reads fit = select_goes_below (λ x. P.Join c x r) (operator_Join_left c r) e l fit (record { reads = reads; arities = (out_Select e (P.Join c l r) fit).over.arities })
    (λ b sets rows h. select_join_out d c e both l r b sets [] [] rows (join_left_out d e c l r splits b sets rows h))
  where
    splits : (a b : Env) → IsWithin (live l []) a → IsWithin (live r []) b → SplitsLeft (live l []) d e c a b
    splits a b w v = both (beside (live l []) a b) ∙ and_comm (holds c (beside (live l []) a b)) (holds e (beside (live l []) a b)) ∙ ap (λ t. t && holds c (beside (live l []) a b)) (holds-beside e (live l []) a b reads)

abbrev Apart : List Var → List Var → Type 0
Apart xs ys = (q : Bytes) → is_among xs q ≡ true → is_among ys q ≡ false

none_of : (xs ys : List Var) → Apart ys xs → (qs : List Bytes) → AreAmong ys qs → AllByRecursion (λ q. is_among xs q ≡ false) qs
none_of xs ys apart [] h = tt
none_of xs ys apart (q ∷ qs) h = (apart q h.0, none_of xs ys apart qs h.1)

pub below_join_right : (d e c : Expr) (l r : Plan) → IsBoth d c e → AreAmong (live r []) (names e) → Fit (P.Select e (P.Join c l r)) → Replaces (P.Join c l (P.Select e r)) (P.Select e (P.Join c l r))
below_join_right d e c l r both reads fit =
    let inputs = out_Join c l r (out_Select e (P.Join c l r) fit).input in
    let none = none_of (live l []) (live r []) (turned (live l []) (live r []) (live_apart l r inputs.left inputs.right inputs.once)) (names e) reads in
    select_goes_below (λ x. P.Join c l x) (operator_Join_right c l) e r fit (record { reads = reads; arities = (out_Select e (P.Join c l r) fit).over.arities })
    (λ b sets rows h. select_join_out d c e both l r b sets [] [] rows (join_right_out d e c l r (λ a b w v. both (beside (live l []) a b) ∙ and_comm (holds c (beside (live l []) a b)) (holds e (beside (live l []) a b)) ∙ ap (λ t. t && holds c (beside (live l []) a b)) (holds-past e (live l []) a b none)) b sets rows h))

pub into_join : (d e c : Expr) (l r : Plan) → IsBoth d c e → IsOver (live l [] ++ live r []) d → Fit (P.Select e (P.Join c l r)) → Replaces (P.Join d l r) (P.Select e (P.Join c l r))
into_join d e c l r both over fit =
    let top = out_Select e (P.Join c l r) fit in
    let f = out_Join c l r top.input in
    let whole = in_Join d l r (record { left = f.left; left_root = f.left_root; right = f.right; right_root = f.right_root; over = over; thin = f.thin; once = f.once }) in
    let like = alike-trans (P.Join d l r) (P.Join c l r) (P.Select e (P.Join c l r)) (alike-Join d c l l r r (alike-refl l) (alike-refl r)) (alike-sym (P.Select e (P.Join c l r)) (P.Join c l r) (alike_select e (P.Join c l r) ((operator_Join_left c r).root l))) in
    alike_replaces (P.Join d l r) (P.Select e (P.Join c l r)) fit whole like (λ b sets rows fills h. select_join_out d c e both l r b sets [] [] rows h)

-- ---- a left join

-- the rows that a left row gives pass a condition on it together
kept_matches : (e c : Expr) (xs : List Var) (a : Env) → AreAmong xs (names e) → (t : Bool) → holds e a ≡ t → (rs : List Env) → filter (holds e) (matches xs c rs a) ≡ cond t (matches xs c rs a) []
kept_matches e c xs a reads true et [] = refl
kept_matches e c xs a reads false et [] = refl
kept_matches e c xs a reads t et (b ∷ rs) = go t (holds c (beside xs a b)) (holds-beside e xs a b reads ∙ et) (kept_matches e c xs a reads t et rs)
  where
    go : (t u : Bool) → holds e (beside xs a b) ≡ t → filter (holds e) (matches xs c rs a) ≡ cond t (matches xs c rs a) [] → filter (holds e) (cond u (beside xs a b ∷ matches xs c rs a) (matches xs c rs a)) ≡ cond t (cond u (beside xs a b ∷ matches xs c rs a) (matches xs c rs a)) []
    go t false same more = more
    go true true same more = ap (λ z. cond z (beside xs a b ∷ filter (holds e) (matches xs c rs a)) (filter (holds e) (matches xs c rs a))) same ∙ ap (λ zs. beside xs a b ∷ zs) more
    go false true same more = ap (λ z. cond z (beside xs a b ∷ filter (holds e) (matches xs c rs a)) (filter (holds e) (matches xs c rs a))) same ∙ more

kept_alone : (e : Expr) (x : Env) (t : Bool) → holds e x ≡ t → (found : List Env) → filter (holds e) found ≡ cond t found [] → filter (holds e) (or_alone x found) ≡ cond t (or_alone x found) []
kept_alone e x true same [] h = ap (λ z. cond z (x ∷ []) []) same
kept_alone e x false same [] h = ap (λ z. cond z (x ∷ []) []) same
kept_alone e x t same (y ∷ ys) h = h

kept_left : (e c : Expr) (xs : List Var) (rs : List Env) → AreAmong xs (names e) → (ls : List Env) → filter (holds e) (left_pairs xs c ls rs) ≡ left_pairs xs c (filter (holds e) ls) rs
kept_left e c xs rs reads [] = refl
kept_left e c xs rs reads (a ∷ ls) = filter-append (holds e) (or_alone (beside xs a nulls) (matches xs c rs a)) (left_pairs xs c ls rs)
    ∙ (λ i. kept_alone e (beside xs a nulls) (holds e a) (holds-beside e xs a nulls reads) (matches xs c rs a) (kept_matches e c xs a reads (holds e a) refl rs) i ++ kept_left e c xs rs reads ls i)
    ∙ sym (flat_cond (λ l. or_alone (beside xs l nulls) (matches xs c rs l)) (holds e a) a (filter (holds e) ls))

pub below_left_join : (e c : Expr) (l r : Plan) → AreAmong (live l []) (names e) → Fit (P.Select e (P.LeftJoin c l r)) → Replaces (P.LeftJoin c (P.Select e l) r) (P.Select e (P.LeftJoin c l r))
below_left_join e c l r reads fit = select_goes_below (λ x. P.LeftJoin c x r) (operator_LeftJoin_left c r) e l fit (record { reads = reads; arities = (out_Select e (P.LeftJoin c l r) fit).over.arities }) (λ b sets rows h.
    let o = from_LeftJoin c (P.Select e l) r b sets [] [] rows h in
    let s = from_Select e l b sets [] [] o.0 o.1 in
    let here : IsPermutation (left_pairs (live l []) c o.0 o.2.0) rows = subst (λ (vs : List Var). IsPermutation (left_pairs vs c o.0 o.2.0) rows) (live-Select e l []) o.2.2 in
    let kept : IsPermutation (filter (holds e) (left_pairs (live l []) c s.0 o.2.0)) rows = subst (λ (zs : List Env). IsPermutation zs rows) (sym (kept_left e c (live l []) o.2.0 reads s.0)) (subst (λ (zs : List Env). IsPermutation (left_pairs (live l []) c zs o.2.0) rows) s.2 here) in
    let all = filter-lift (holds e) (left_pairs (live l []) c s.0 o.2.0) rows kept in
    allows_Select e (P.LeftJoin c l r) b sets [] [] rows (all.0, allows_LeftJoin c l r b sets [] [] all.0 (s.0, s.1, (o.2.0, o.2.1, all.1)), all.2))

-- ---- conditions of two conjuncts

pub among_parts : (vars : List Var) (xs ys : List Bytes) → AreAmong vars (xs ++ ys) → AreAmong vars xs × AreAmong vars ys
among_parts vars [] ys h = (tt, h)
among_parts vars (x ∷ xs) ys h = let more = among_parts vars xs ys h.1 in ((h.0, more.0), more.1)

pub both_parts : (a b : Bool) → (a && b) ≡ true → (a ≡ true) × (b ≡ true)
both_parts true b h = (refl, h)
both_parts false true h = (h, refl)
both_parts false false h = (h, h)

-- an expression that names what two do, and has its arities where they have theirs: where it is over some variables, so are they
pub both_over : (d : Expr) (vars : List Var) (a b : Expr) → names d ≡ names a ++ names b → has_arities d ≡ (has_arities a && has_arities b) → IsOver vars d → IsOver vars a × IsOver vars b
both_over d vars a b named calls over =
    let reads = among_parts vars (names a) (names b) (subst (AreAmong vars) named over.reads) in
    let arities = both_parts (has_arities a) (has_arities b) (sym calls ∙ over.arities) in
    (record { reads = reads.0; arities = arities.0 }, record { reads = reads.1; arities = arities.1 })
