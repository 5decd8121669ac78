-- The plan of an accepted file fits.
use Rattle.std.proofs.Common.{◌≡◌, ℕ, suc, ◌+◌, Bool, true, false, not, ◌&&◌, List, [], ◌∷◌, ◌++◌, map, length, None, refl, ap, sym, subst, ◌∙◌, append_assoc, arith}
use Rattle.std.specs.Prelude.{nat_eq, ◌||◌}
use Rattle.std.specs.List.{AllByRecursion, flat_map, list_all}
use Rattle.std.specs.Cmp.Lexicographic.{pointwise, same_text}
use Rattle.std.proofs.lemmas.List.{append-nil}
use Rattle.std.proofs.lemmas.Bool.Decides.{nat_tests}
use Rattle.std.proofs.lemmas.List.Folds.{list_all-append}
use Rattle.al_csv.specs.declared.decl.Decl.{Decl}
use Rattle.al_plan.specs.declared.expr.Var.{Var}
use Rattle.al_plan.specs.declared.expr.Expr.{Expr}
use Rattle.al_plan.specs.declared.plan.AggCall.{AggCall}
use Rattle.al_plan.specs.declared.file.PlanFile.{PlanFile}
use Rattle.al_plan.specs.declared.plan.Plan.{Plan, map-Plan, roll-Plan, out-Plan, ind-Plan, fold-roll-Plan, rec-roll-Plan}
use Rattle.al_plan.specs.declared.plan.Plan.TheOpen as L
use Rattle.al_plan.specs.Names.{names, has_arities, agg_exprs, item_exprs}
use Rattle.al_plan.specs.Allows.{live, live_step, is_among}
use Rattle.al_plan.specs.Refines.{Fit, FitsEach, InputFits, Narrow, AtMost64, NoTwice, AreOver, IsOver, makes, result_of}
use Rattle.al_plan.specs.Grammar.{plan_fits, plan_fits_step, IsRoot, root_step}
use Rattle.al_plan.specs.Accept.{KeepsRules, IsAccepted, sites, at_site, size, made_by, exprs_of, reads_among, are_among, are_different, lists_once, is_in_place, may_be_inside, may_be_outside, fills_columns}
use Rattle.al_plan.proofs.PlanLaws.{EachLayer, each-roll, NarrowLayer, narrow-roll, result-roll}
use Rattle.al_plan.proofs.Mono.{live_is}
use Rattle.al_plan.proofs.Makes.{Disjoint, twice_both}
use Rattle.al_plan.proofs.Bools.{no, by_cases}
use Rattle.al_infer.specs.Inputs.{Parts, Leaf, One, Two, Nesting, parts, inner_makes, inner_sites}
use Rattle.al_infer.proofs.Operators.{rolls-out}
use Rattle.al_infer.proofs.InputLaws.{layer_makes, rolled_sites}
use Rattle.al_infer.proofs.AcceptLaws.{at_most}

-- ---- truth values and tests over lists

pub both_left : (a b : Bool) → (a && b) ≡ true → a ≡ true
both_left true b e = refl
both_left false b e = e

pub both_right : (a b : Bool) → (a && b) ≡ true → b ≡ true
both_right true b e = e
both_right false b e = absurd (no (sym e))

not_true : (b : Bool) → not b ≡ true → b ≡ false
not_true true e = absurd (no (sym e))
not_true false e = refl

pub all_true : {X : Type 0} (test : X → Bool) (xs : List X) → list_all test xs ≡ true → AllByRecursion (λ x. test x ≡ true) xs
all_true test [] e = tt
all_true test (x ∷ xs) e = (both_left (test x) (list_all test xs) e, all_true test xs (both_right (test x) (list_all test xs) e))

pub all_left : {X : Type 0} (P : X → Type 0) (xs ys : List X) → AllByRecursion P (xs ++ ys) → AllByRecursion P xs
all_left P [] ys h = tt
all_left P (x ∷ xs) ys h = (h.0, all_left P xs ys h.1)

pub all_right : {X : Type 0} (P : X → Type 0) (xs ys : List X) → AllByRecursion P (xs ++ ys) → AllByRecursion P ys
all_right P [] ys h = h
all_right P (x ∷ xs) ys h = all_right P xs ys h.1

pub same_length : (m n : ℕ) → nat_eq m n ≡ true → m ≡ n
same_length m n e = grind (arith, nat_tests)

-- ---- expressions

over : (vars : List Var) (e : Expr) → reads_among vars e ≡ true → has_arities e ≡ true → IsOver vars e
over vars e r a = record { reads = all_true (is_among vars) (names e) r; arities = a }

over_all : (vars : List Var) (es : List Expr) → list_all (reads_among vars) es ≡ true → list_all has_arities es ≡ true → AreOver vars es
over_all vars [] r a = tt
over_all vars (e ∷ es) r a = (
  over vars e (both_left (reads_among vars e) (list_all (reads_among vars) es) r) (both_left (has_arities e) (list_all has_arities es) a),
  over_all vars es (both_right (reads_among vars e) (list_all (reads_among vars) es) r) (both_right (has_arities e) (list_all has_arities es) a),
)

over_each : (vars : List Var) (made : List (Var × AggCall)) → list_all (reads_among vars) (flat_map (λ m. agg_exprs m.1) made) ≡ true → list_all has_arities (flat_map (λ m. agg_exprs m.1) made) ≡ true
    → AllByRecursion (λ m. AreOver vars (agg_exprs m.1)) made
over_each vars [] r a = tt
over_each vars (m ∷ ms) r a =
    let others = flat_map (λ m. agg_exprs m.1) ms in
    let rs = sym (list_all-append (reads_among vars) (agg_exprs m.1) others) ∙ r in
    let as_ = sym (list_all-append has_arities (agg_exprs m.1) others) ∙ a in (
      over_all vars (agg_exprs m.1) (both_left (list_all (reads_among vars) (agg_exprs m.1)) (list_all (reads_among vars) others) rs) (both_left (list_all has_arities (agg_exprs m.1)) (list_all has_arities others) as_),
      over_each vars ms (both_right (list_all (reads_among vars) (agg_exprs m.1)) (list_all (reads_among vars) others) rs) (both_right (list_all has_arities (agg_exprs m.1)) (list_all has_arities others) as_),
    )

-- ---- variables that are made once

different : (vars : List Var) → are_different vars ≡ true → NoTwice vars
different [] e = tt
different (v ∷ vs) e = (not_true (is_among vs v.name) (both_left (not (is_among vs v.name)) (are_different vs) e), different vs (both_right (not (is_among vs v.name)) (are_different vs) e))

new_apart : (before own : List Var) → list_all (λ v. not (is_among before v.name)) own ≡ true → Disjoint before own
new_apart before [] e q h = refl
new_apart before (v ∷ vs) e q h =
    let first = not_true (is_among before v.name) (both_left (not (is_among before v.name)) (list_all (λ w. not (is_among before w.name)) vs) e) in
    by_cases (pointwise nat_eq v.name q)
    (λ same. absurd (no (sym h ∙ ap (is_among before) (sym (same_text v.name q (sym same))) ∙ first)))
    (λ other. ap (λ b. b || is_among vs q) other ∙ new_apart before vs (both_right (not (is_among before v.name)) (list_all (λ w. not (is_among before w.name)) vs) e) q h)

-- ---- where an operator stands

outside : (inside : Bool) (x : L.Plan-F Plan) → may_be_inside x ≡ false → is_in_place inside x ≡ true → inside ≡ false
outside true x e k = absurd (no (sym k ∙ e))
outside false x e k = refl

within : (inside : Bool) (x : L.Plan-F Plan) → may_be_outside x ≡ false → is_in_place inside x ≡ true → inside ≡ true
within true x e k = refl
within false x e k = absurd (no (sym k ∙ e))

stands : (inside : Bool) (x : L.Plan-F Plan) → may_be_inside x ≡ false → is_in_place inside x ≡ true → may_be_outside x ≡ true
stands true x e k = absurd (no (sym k ∙ e))
stands false x e k = k

-- ---- plans without a result

abbrev pub AllFit : Parts → Type 0
AllFit Leaf = Unit {0}
AllFit (One p) = plan_fits p ≡ true
AllFit (Two l r) = (plan_fits l ≡ true) × (plan_fits r ≡ true)
AllFit (Nesting n p) = (plan_fits n ≡ true) × (plan_fits p ≡ true)

fits-roll : (x : L.Plan-F Plan) → plan_fits (roll-Plan x) ≡ plan_fits_step (map-Plan Plan Bool plan_fits x)
unfolding plan_fits
fits-roll x = fold-roll-Plan Bool plan_fits_step x

children_fit : (x : L.Plan-F Plan) → plan_fits_step (map-Plan Plan Bool plan_fits x) ≡ true → AllFit (parts x)
children_fit (L.Scan set vars) h = tt
children_fit L.Empty h = tt
children_fit L.Nested h = tt
children_fit (L.Assign made p) h = both_right _ _ h
children_fit (L.Select c p) h = both_right _ _ h
children_fit (L.Project vars p) h = h
children_fit (L.Unnest v its p) h = both_right _ _ h
children_fit (L.Subplan n p) h = (both_left _ _ h, both_right _ _ h)
children_fit (L.Join c l r) h = (both_right _ _ (both_left _ _ h), both_right _ _ h)
children_fit (L.LeftJoin c l r) h = (both_right _ _ (both_left _ _ h), both_right _ _ h)
children_fit (L.Group keys n p) h = (both_right _ _ (both_left _ _ h), both_right _ _ h)
children_fit (L.Distinct p) h = h
children_fit (L.Union made ls rs l r) h = (both_left _ _ h, both_right _ _ h)
children_fit (L.Aggregate made p) h = both_right _ _ h
children_fit (L.Order keys p) h = both_right _ _ h
children_fit (L.Limit n k p) h = both_right _ _ h
children_fit (L.Check name c p) h = both_right _ _ h
children_fit (L.Result vars p) h = absurd (no (sym h))

layer_no_result : (x : L.Plan-F Plan) → plan_fits_step (map-Plan Plan Bool plan_fits x) ≡ true → result_of (roll-Plan x) ≡ None
layer_no_result (L.Scan set vars) h = result-roll (L.Scan set vars)
layer_no_result L.Empty h = result-roll L.Empty
layer_no_result L.Nested h = result-roll L.Nested
layer_no_result (L.Assign made p) h = result-roll (L.Assign made p)
layer_no_result (L.Select c p) h = result-roll (L.Select c p)
layer_no_result (L.Project vars p) h = result-roll (L.Project vars p)
layer_no_result (L.Unnest v its p) h = result-roll (L.Unnest v its p)
layer_no_result (L.Subplan n p) h = result-roll (L.Subplan n p)
layer_no_result (L.Join c l r) h = result-roll (L.Join c l r)
layer_no_result (L.LeftJoin c l r) h = result-roll (L.LeftJoin c l r)
layer_no_result (L.Group keys n p) h = result-roll (L.Group keys n p)
layer_no_result (L.Distinct p) h = result-roll (L.Distinct p)
layer_no_result (L.Union made ls rs l r) h = result-roll (L.Union made ls rs l r)
layer_no_result (L.Aggregate made p) h = result-roll (L.Aggregate made p)
layer_no_result (L.Order keys p) h = result-roll (L.Order keys p)
layer_no_result (L.Limit n k p) h = result-roll (L.Limit n k p)
layer_no_result (L.Check name c p) h = result-roll (L.Check name c p)
layer_no_result (L.Result vars p) h = absurd (no (sym h))

no_result : (p : Plan) → plan_fits p ≡ true → result_of p ≡ None
no_result p h =
    ap result_of (sym (rolls-out p)) ∙ layer_no_result (out-Plan p) (sym (fits-roll (out-Plan p)) ∙ ap plan_fits (rolls-out p) ∙ h)

natural_root : (X : Type 0) (up : X → Plan) (fn : Plan → Type 0) (x : L.Plan-F X) → root_step X up (λ p. fn (up p)) x ≡ root_step Plan (λ p. p) fn (map-Plan X Plan up x)
natural_root X up fn (L.Scan set vars) = refl
natural_root X up fn L.Empty = refl
natural_root X up fn L.Nested = refl
natural_root X up fn (L.Assign made p) = refl
natural_root X up fn (L.Select c p) = refl
natural_root X up fn (L.Project vars p) = refl
natural_root X up fn (L.Unnest v its p) = refl
natural_root X up fn (L.Subplan n p) = refl
natural_root X up fn (L.Join c l r) = refl
natural_root X up fn (L.LeftJoin c l r) = refl
natural_root X up fn (L.Group keys n p) = refl
natural_root X up fn (L.Distinct p) = refl
natural_root X up fn (L.Union made ls rs l r) = refl
natural_root X up fn (L.Aggregate made p) = refl
natural_root X up fn (L.Order keys p) = refl
natural_root X up fn (L.Limit n k p) = refl
natural_root X up fn (L.Check name c p) = refl
natural_root X up fn (L.Result vars p) = refl

root-roll : (x : L.Plan-F Plan) → IsRoot (roll-Plan x) ≡ root_step Plan (λ p. p) IsRoot x
unfolding IsRoot
root-roll x = rec-roll-Plan (Type 0) root_step natural_root x

root_children : (x : L.Plan-F Plan) → root_step Plan (λ p. p) IsRoot x → AllFit (parts x)
root_children (L.Scan set vars) h = absurd h
root_children L.Empty h = absurd h
root_children L.Nested h = absurd h
root_children (L.Assign made p) h = absurd h
root_children (L.Select c p) h = absurd h
root_children (L.Project vars p) h = absurd h
root_children (L.Unnest v its p) h = absurd h
root_children (L.Subplan n p) h = absurd h
root_children (L.Join c l r) h = absurd h
root_children (L.LeftJoin c l r) h = absurd h
root_children (L.Group keys n p) h = absurd h
root_children (L.Distinct p) h = absurd h
root_children (L.Union made ls rs l r) h = absurd h
root_children (L.Aggregate made p) h = absurd h
root_children (L.Order keys p) h = absurd h
root_children (L.Limit n k p) h = absurd h
root_children (L.Check name c p) h = absurd h
root_children (L.Result vars p) h = h.1

-- ---- what follows for a plan

-- a plan fits where it stands, and what it makes is not made before
pub record Fitted (inside : Bool) (given before : List Var) (p : Plan) : Type 0 where
  pub each : FitsEach p inside given
  pub narrow : Narrow p given
  pub once : NoTwice (before ++ makes p)

abbrev pub InnerFitted : Bool → List Var → List Var → Parts → Type 0
InnerFitted inside given before Leaf = Unit {0}
InnerFitted inside given before (One p) = Fitted inside given before p
InnerFitted inside given before (Two l r) = Fitted inside given before l × Fitted inside given (before ++ makes l) r
InnerFitted inside given before (Nesting n p) = Fitted inside given before p × Fitted true (live p given) (before ++ makes p) n

inner_once : (inside : Bool) (given before : List Var) (ps : Parts) → NoTwice before → InnerFitted inside given before ps → NoTwice (before ++ inner_makes ps)
inner_once inside given before Leaf n h = subst NoTwice (sym (append-nil before)) n
inner_once inside given before (One p) n h = h.once
inner_once inside given before (Two l r) n h = subst NoTwice (append_assoc before (makes l) (makes r)) h.1.once
inner_once inside given before (Nesting m p) n h = subst NoTwice (append_assoc before (makes p) (makes m)) h.1.once

input : (inside : Bool) (given before : List Var) (p : Plan) → Fitted inside given before p → plan_fits p ≡ true → InputFits p (FitsEach p) inside given
input inside given before p h a = (h.each, no_result p a)

module _ (decls : List Decl) (number : ℕ) (inside : Bool) (given before made : List Var) where
  abbrev Rules : L.Plan-F Plan → Type 0
  Rules x = KeepsRules decls (record { number = number; inside = inside; given = given; before = made; op = x })

  arities : (x : L.Plan-F Plan) → Rules x → list_all has_arities (exprs_of x) ≡ true
  arities x k = both_right (fills_columns decls x) (list_all has_arities (exprs_of x)) k.filled

  once_listed : (x : L.Plan-F Plan) → Rules x → lists_once x ≡ true
  once_listed x k = both_right (list_all (λ v. not (is_among made v.name)) (made_by x) && are_different (made_by x)) (lists_once x) k.new

  one_over : (x : L.Plan-F Plan) → Rules x → (vars : List Var) (c : Expr) → reads_among vars c ≡ true → exprs_of x ≡ c ∷ [] → IsOver vars c
  one_over x k vars c r e = over vars c r (both_left (has_arities c) true (ap (list_all has_arities) (sym e) ∙ arities x k))

  wide : (x : L.Plan-F Plan) → Rules x → AtMost64 (live_step (map-Plan Plan (List Var → List Var) live x) given)
  wide x k = subst AtMost64 (live_is x given) (at_most (length (live (roll-Plan x) given)) k.narrow)

  layer_each : (x : L.Plan-F Plan) → AllFit (parts x) → InnerFitted inside given before (parts x) → Rules x → EachLayer x inside given
  layer_each (L.Scan set vars) a i k = outside inside (L.Scan set vars) refl k.in_place
  layer_each L.Empty a i k = outside inside L.Empty refl k.in_place
  layer_each L.Nested a i k = within inside L.Nested refl k.in_place
  layer_each (L.Assign news p) a i k = (input inside given before p i a, over_all (live p given) (map (λ m. m.1) news) k.live_reads (arities (L.Assign news p) k))
  layer_each (L.Select c p) a i k = (input inside given before p i a, one_over (L.Select c p) k (live p given) c k.live_reads refl)
  layer_each (L.Project vars p) a i k = (input inside given before p i a, all_true (λ v. is_among (live p given) v.name) vars k.live_reads, different vars (once_listed (L.Project vars p) k))
  layer_each (L.Unnest v its p) a i k = (input inside given before p i a, over_all (live p given) (item_exprs its) k.live_reads (arities (L.Unnest v its p) k))
  layer_each (L.Subplan n p) a i k = (input inside given before p i.0 a.1, outside inside (L.Subplan n p) refl k.in_place, i.1.each, stands inside (L.Subplan n p) refl k.in_place)
  layer_each (L.Join c l r) a i k = (input inside given before l i.0 a.0, input inside given (before ++ makes l) r i.1 a.1, outside inside (L.Join c l r) refl k.in_place, one_over (L.Join c l r) k (live l given ++ live r given) c k.live_reads refl)
  layer_each (L.LeftJoin c l r) a i k = (input inside given before l i.0 a.0, input inside given (before ++ makes l) r i.1 a.1, outside inside (L.LeftJoin c l r) refl k.in_place, one_over (L.LeftJoin c l r) k (live l given ++ live r given) c k.live_reads refl)
  layer_each (L.Group keys n p) a i k = (input inside given before p i.0 a.1, outside inside (L.Group keys n p) refl k.in_place, all_true (λ v. is_among (live p given) v.name) (map (λ y. y.1) keys) k.live_reads, i.1.each, stands inside (L.Group keys n p) refl k.in_place)
  layer_each (L.Distinct p) a i k = input inside given before p i a
  layer_each (L.Union news ls rs l r) a i k = (input inside given before l i.0 a.0, input inside given (before ++ makes l) r i.1 a.1, outside inside (L.Union news ls rs l r) refl k.in_place, all_true (λ v. is_among (live l given) v.name) ls (both_left _ _ k.live_reads), all_true (λ v. is_among (live r given) v.name) rs (both_right (are_among (live l given) ls) _ k.live_reads), same_length _ _ (both_left _ _ k.even), same_length _ _ (both_right (nat_eq (length ls) (length news)) _ k.even))
  layer_each (L.Aggregate news p) a i k = (input inside given before p i a, over_each (live p given) news k.live_reads (arities (L.Aggregate news p) k))
  layer_each (L.Order keys p) a i k = (input inside given before p i a, all_true (λ v. is_among (live p given) v.name) (map (λ y. y.var) keys) k.live_reads)
  layer_each (L.Limit n m p) a i k = input inside given before p i a
  layer_each (L.Check name c p) a i k = (input inside given before p i a, outside inside (L.Check name c p) refl k.in_place, one_over (L.Check name c p) k (live p given) c k.live_reads refl)
  layer_each (L.Result vars p) a i k = (input inside given before p i a, outside inside (L.Result vars p) refl k.in_place, all_true (λ v. is_among (live p given) v.name) vars k.live_reads, different vars (once_listed (L.Result vars p) k))

  layer_narrow : (x : L.Plan-F Plan) → InnerFitted inside given before (parts x) → Rules x → NarrowLayer x given
  layer_narrow (L.Scan set vars) i k = wide (L.Scan set vars) k
  layer_narrow L.Empty i k = tt
  layer_narrow L.Nested i k = tt
  layer_narrow (L.Assign news p) i k = (i.narrow, wide (L.Assign news p) k)
  layer_narrow (L.Select c p) i k = i.narrow
  layer_narrow (L.Project vars p) i k = (i.narrow, wide (L.Project vars p) k)
  layer_narrow (L.Unnest v its p) i k = (i.narrow, wide (L.Unnest v its p) k)
  layer_narrow (L.Subplan n p) i k = (i.0.narrow, wide (L.Subplan n p) k)
  layer_narrow (L.Join c l r) i k = (i.0.narrow, i.1.narrow, wide (L.Join c l r) k)
  layer_narrow (L.LeftJoin c l r) i k = (i.0.narrow, i.1.narrow, wide (L.LeftJoin c l r) k)
  layer_narrow (L.Group keys n p) i k = (i.0.narrow, wide (L.Group keys n p) k)
  layer_narrow (L.Distinct p) i k = i.narrow
  layer_narrow (L.Union news ls rs l r) i k = (i.0.narrow, i.1.narrow, wide (L.Union news ls rs l r) k)
  layer_narrow (L.Aggregate news p) i k = (i.narrow, wide (L.Aggregate news p) k)
  layer_narrow (L.Order keys p) i k = i.narrow
  layer_narrow (L.Limit n m p) i k = i.narrow
  layer_narrow (L.Check name c p) i k = i.narrow
  layer_narrow (L.Result vars p) i k = (i.narrow, wide (L.Result vars p) k)

  layer_once : (x : L.Plan-F Plan) → made ≡ before ++ inner_makes (parts x) → NoTwice made → Rules x → NoTwice (before ++ makes (roll-Plan x))
  layer_once x e n k =
      let own = made_by x in
      let told = both_left (list_all (λ v. not (is_among made v.name)) own && are_different own) (lists_once x) k.new in
      let all = twice_both made own n (different own (both_right (list_all (λ v. not (is_among made v.name)) own) (are_different own) told)) (new_apart made own (both_left (list_all (λ v. not (is_among made v.name)) own) (are_different own) told)) in
      subst NoTwice (ap (λ b. b ++ own) e ∙ append_assoc before (inner_makes (parts x)) own ∙ ap (λ ms. before ++ ms) (sym (layer_makes x))) all

abbrev FitsIfKept : Plan → Type 0
FitsIfKept p = (decls : List Decl) (number : ℕ) (inside : Bool) (given before : List Var) → NoTwice before → plan_fits p ≡ true → AllByRecursion (KeepsRules decls) (sites p number inside given before) → Fitted inside given before p

abbrev AllClaims : Parts → Type 0
AllClaims Leaf = Unit {0}
AllClaims (One p) = FitsIfKept p
AllClaims (Two l r) = FitsIfKept l × FitsIfKept r
AllClaims (Nesting n p) = FitsIfKept n × FitsIfKept p

inner_fitted : (decls : List Decl) (number : ℕ) (inside : Bool) (given before : List Var) (ps : Parts) → AllClaims ps → AllFit ps → NoTwice before
    → AllByRecursion (KeepsRules decls) (inner_sites ps number inside given before) → InnerFitted inside given before ps
inner_fitted decls number inside given before Leaf c a n h = tt
inner_fitted decls number inside given before (One p) c a n h = c decls (suc number) inside given before n a h
inner_fitted decls number inside given before (Two l r) c a n h =
    let first = sites l (suc number) inside given before in
    let second = sites r (suc number + size l) inside given (before ++ makes l) in
    let left = c.0 decls (suc number) inside given before n a.0 (all_left (KeepsRules decls) first second h) in
    (left, c.1 decls (suc number + size l) inside given (before ++ makes l) left.once a.1 (all_right (KeepsRules decls) first second h))
inner_fitted decls number inside given before (Nesting m p) c a n h =
    let first = sites p (suc number + size m) inside given before in
    let second = sites m (suc number) true (live p given) (before ++ makes p) in
    let left = c.1 decls (suc number + size m) inside given before n a.1 (all_left (KeepsRules decls) first second h) in
    (left, c.0 decls (suc number) true (live p given) (before ++ makes p) left.once a.0 (all_right (KeepsRules decls) first second h))

layer_fitted : (x : L.Plan-F Plan) → AllClaims (parts x) → AllFit (parts x) → (decls : List Decl) (number : ℕ) (inside : Bool) (given before : List Var) → NoTwice before
    → AllByRecursion (KeepsRules decls) (sites (roll-Plan x) number inside given before) → Fitted inside given before (roll-Plan x)
layer_fitted x c a decls number inside given before n h =
    let first = inner_sites (parts x) number inside given before in
    let made = before ++ inner_makes (parts x) in
    let own = at_site number inside given made x in
    let all : AllByRecursion (KeepsRules decls) (first ++ own) = subst (AllByRecursion (KeepsRules decls)) (rolled_sites x number inside given before) h in
    let i = inner_fitted decls number inside given before (parts x) c a n (all_left (KeepsRules decls) first own all) in
    let k = (all_right (KeepsRules decls) first own all).0 in
    record {
      each = subst (λ (t : Bool → List Var → Type 0). t inside given) (sym (each-roll x)) (layer_each decls number inside given before made x a i k);
      narrow = subst (λ (t : List Var → Type 0). t given) (sym (narrow-roll x)) (layer_narrow decls number inside given before made x i k);
      once = layer_once decls number inside given before made x refl (inner_once inside given before (parts x) n i) k;
    }

claims : {S : Type 0} (up : S → Plan) → ((s : S) → FitsIfKept (up s)) → (y : L.Plan-F S) → AllClaims (parts (map-Plan S Plan up y))
claims up ih (L.Scan set vars) = tt
claims up ih L.Empty = tt
claims up ih L.Nested = tt
claims up ih (L.Assign made p) = ih p
claims up ih (L.Select c p) = ih p
claims up ih (L.Project vars p) = ih p
claims up ih (L.Unnest v its p) = ih p
claims up ih (L.Subplan n p) = (ih n, ih p)
claims up ih (L.Join c l r) = (ih l, ih r)
claims up ih (L.LeftJoin c l r) = (ih l, ih r)
claims up ih (L.Group keys n p) = (ih n, ih p)
claims up ih (L.Distinct p) = ih p
claims up ih (L.Union made ls rs l r) = (ih l, ih r)
claims up ih (L.Aggregate made p) = ih p
claims up ih (L.Order keys p) = ih p
claims up ih (L.Limit n k p) = ih p
claims up ih (L.Check name c p) = ih p
claims up ih (L.Result vars p) = ih p

layer_claim : {S : Type 0} (up : S → Plan) → ((s : S) → FitsIfKept (up s)) → (y : L.Plan-F S) → FitsIfKept (roll-Plan (map-Plan S Plan up y))
layer_claim {S} up ih y decls number inside given before n a h =
    let x = map-Plan S Plan up y in
    layer_fitted x (claims up ih y) (children_fit x (sym (fits-roll x) ∙ a)) decls number inside given before n h

fits_if_kept : (p : Plan) → FitsIfKept p
fits_if_kept = ind-Plan FitsIfKept (λ x y e. subst (λ (z : L.Plan-F Plan). FitsIfKept (roll-Plan z)) e (layer_claim (λ s. s.0) (λ s. s.1) y))

all_claims : (ps : Parts) → AllClaims ps
all_claims Leaf = tt
all_claims (One p) = fits_if_kept p
all_claims (Two l r) = (fits_if_kept l, fits_if_kept r)
all_claims (Nesting n p) = (fits_if_kept n, fits_if_kept p)

pub accepted_fits : (f : PlanFile) → IsRoot f.root → IsAccepted f → Fit f.root
accepted_fits f root h =
    let x = out-Plan f.root in
    let same : roll-Plan x ≡ f.root = rolls-out f.root in
    let children = root_children x (subst (λ (t : Type 0). t) (root-roll x) (subst IsRoot (sym same) root)) in
    let kept = subst (λ (p : Plan). AllByRecursion (KeepsRules f.datasets) (sites p 0 false [] [])) (sym same) h.operators in
    let fitted = layer_fitted x (all_claims (parts x)) children f.datasets 0 false [] [] tt kept in
    subst Fit same (record { each = fitted.each; narrow = fitted.narrow; once = fitted.once })
