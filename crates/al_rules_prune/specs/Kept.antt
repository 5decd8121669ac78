-- The variables that are kept of a plan, and the plan cut to them.
use Rattle.std.proofs.Common.{◌≡◌, ◌≤◌, suc, Bool, true, false, cond, ◌&&◌, List, [], ◌∷◌, ◌++◌, map, filter, length, refl, ap, sym, subst, ◌∙◌, None, arith}
use Rattle.std.specs.Prelude.{◌||◌, nat_eq}
use Rattle.std.specs.Cmp.Lexicographic.{pointwise, same_text}
use Rattle.al_plan.specs.declared.expr.Var.{Var}
use Rattle.al_plan.specs.declared.plan.Plan.{Plan, map-Plan, roll-Plan, ind-Plan}
use Rattle.al_plan.specs.declared.plan.Plan.TheOpen as L
use Rattle.al_plan.specs.Eval.{Bytes}
use Rattle.al_plan.specs.Uses.{named}
use Rattle.al_plan.specs.Allows.{live, live_step, is_among}
use Rattle.al_plan.specs.Refines.{Fit, FitsEach, Narrow, NoTwice, AreLive, AreAmong, AtMost64, result_of}
use Rattle.al_plan.proofs.Bools.{no, by_cases}
use Rattle.al_plan.proofs.Makes.{at_head}
use Rattle.al_plan.proofs.Within.{is_among-append}
use Rattle.al_plan.proofs.Lives.{live_once}
use Rattle.al_plan.proofs.PlanLaws.{EachLayer, each-roll, NarrowLayer, narrow-roll, live-roll}
use Rattle.al_rule.proofs.FitLaws.{in_Project}
use Rattle.al_rules_prune.specs.Prunes.{kept, narrowed}

and_true : (b : Bool) → (b && true) ≡ b
and_true true = refl
and_true false = refl

-- each variable of the first list is one of the second
abbrev pub IsIn : List Var → List Var → Type 0
IsIn xs ys = (q : Bytes) → is_among xs q ≡ true → is_among ys q ≡ true

or_left : (a b : Bool) → a ≡ true → (a || b) ≡ true
or_left true b h = refl
or_left false b h = absurd (no (sym h))

or_right : (a b : Bool) → b ≡ true → (a || b) ≡ true
or_right true b h = refl
or_right false b h = h

pub in_left : (xs ys : List Var) → IsIn xs (xs ++ ys)
in_left xs ys q h = is_among-append xs ys q ∙ or_left (is_among xs q) (is_among ys q) h

pub in_right : (xs ys : List Var) → IsIn ys (xs ++ ys)
in_right xs ys q h = is_among-append xs ys q ∙ or_right (is_among xs q) (is_among ys q) h

pub among_append : (xs ys us vs : List Var) (q : Bytes) → is_among (xs ++ ys) q ≡ true → (is_among xs q ≡ true → is_among us q ≡ true) → (is_among ys q ≡ true → is_among vs q ≡ true) → is_among (us ++ vs) q ≡ true
among_append xs ys us vs q h f g = by_cases (is_among xs q)
    (λ e. in_left us vs q (f e))
    (λ e. in_right us vs q (g (sym (ap (λ b. b || is_among ys q) e) ∙ sym (is_among-append xs ys q) ∙ h)))

pub weaken : (xs ys : List Var) → IsIn xs ys → (qs : List Bytes) → AreAmong xs qs → AreAmong ys qs
weaken xs ys h [] g = tt
weaken xs ys h (q ∷ qs) g = (h q g.0, weaken xs ys h qs g.1)

-- names are among the variables of these names
pub own_names : (qs : List Bytes) (xs : List Var) → IsIn (map named qs) xs → AreAmong xs qs
own_names [] xs h = tt
own_names (q ∷ qs) xs h = (h q (at_head (named q) (map named qs)), own_names qs xs (λ p e. h p (in_right (named q ∷ []) (map named qs) p e)))

-- ---- variables with a property

pub among_filter : (f : Bytes → Bool) (xs : List Var) (q : Bytes) → is_among (filter (λ v. f v.name) xs) q ≡ (f q && is_among xs q)
among_filter f [] q = none (f q)
  where
    none : (b : Bool) → false ≡ (b && false)
    none true = refl
    none false = refl
among_filter f (x ∷ xs) q = go (f x.name) refl (pointwise nat_eq x.name q) refl (among_filter f xs q)
  where
    go : (s : Bool) → f x.name ≡ s → (t : Bool) → pointwise nat_eq x.name q ≡ t → is_among (filter (λ v. f v.name) xs) q ≡ (f q && is_among xs q)
        → is_among (cond s (x ∷ filter (λ v. f v.name) xs) (filter (λ v. f v.name) xs)) q ≡ (f q && (pointwise nat_eq x.name q || is_among xs q))
    go true e true d more = ap (λ b. b || is_among (filter (λ v. f v.name) xs) q) d ∙ sym (ap (λ b. f q && (b || is_among xs q)) d ∙ and_true (f q) ∙ ap f (sym (same_text x.name q (sym d))) ∙ e)
    go true e false d more = ap (λ b. b || is_among (filter (λ v. f v.name) xs) q) d ∙ more ∙ sym (ap (λ b. f q && (b || is_among xs q)) d)
    go false e true d more = more ∙ ap (λ b. b && is_among xs q) none ∙ sym (ap (λ b. b && (pointwise nat_eq x.name q || is_among xs q)) none)
      where
        none : f q ≡ false
        none = ap f (sym (same_text x.name q (sym d))) ∙ e
    go false e false d more = more ∙ sym (ap (λ b. f q && (b || is_among xs q)) d)

pub no_twice_filter : (f : Bytes → Bool) (xs : List Var) → NoTwice xs → NoTwice (filter (λ v. f v.name) xs)
no_twice_filter f [] h = tt
no_twice_filter f (x ∷ xs) h = go (f x.name) refl (no_twice_filter f xs h.1)
  where
    go : (s : Bool) → f x.name ≡ s → NoTwice (filter (λ v. f v.name) xs) → NoTwice (cond s (x ∷ filter (λ v. f v.name) xs) (filter (λ v. f v.name) xs))
    go true e more = (among_filter f xs x.name ∙ ap (λ b. b && is_among xs x.name) e ∙ h.0, more)
    go false e more = more

pub length_filter : {X : Type 0} (f : X → Bool) (xs : List X) → length (filter f xs) ≤ length xs
length_filter f [] = omega arith
length_filter f (x ∷ xs) = go (f x) (length_filter f xs)
  where
    go : (s : Bool) → length (filter f xs) ≤ length xs → length (cond s (x ∷ filter f xs) (filter f xs)) ≤ suc (length xs)
    go true h = omega (arith, h)
    go false h = omega (arith, h)

-- variables that are each among others
pub are_live : (xs vars : List Var) → ((q : Bytes) → is_among vars q ≡ true → is_among xs q ≡ true) → AreLive xs vars
are_live xs [] h = tt
are_live xs (v ∷ vars) h = (h v.name (at_head v vars), are_live xs vars (λ q e. h q (in_right (v ∷ []) vars q e)))

-- ---- the live variables of a plan that fits are few

abbrev IsThin : Plan → Type 0
IsThin p = (given : List Var) → FitsEach p false given → Narrow p given → AtMost64 (live p given)

module _ {S : Type 0} (up : S → Plan) (ih : (s : S) → IsThin (up s)) (given : List Var) where
  thin_step : (y : L.Plan-F S) → EachLayer (map-Plan S Plan up y) false given → NarrowLayer (map-Plan S Plan up y) given → AtMost64 (live_step (map-Plan Plan (List Var → List Var) live (map-Plan S Plan up y)) given)
  thin_step (L.Scan set vars) h n = n
  thin_step L.Empty h n = omega arith
  thin_step L.Nested h n = absurd (no (sym h))
  thin_step (L.Assign made s) h n = n.1
  thin_step (L.Select c s) h n = ih s given h.0.0 n
  thin_step (L.Project vars s) h n = n.1
  thin_step (L.Unnest v its s) h n = n.1
  thin_step (L.Subplan m s) h n = n.1
  thin_step (L.Join c l r) h n = n.2
  thin_step (L.LeftJoin c l r) h n = n.2
  thin_step (L.Group keys m s) h n = n.1
  thin_step (L.Distinct s) h n = ih s given h.0 n
  thin_step (L.Union made ls rs l r) h n = n.2
  thin_step (L.Aggregate made s) h n = n.1
  thin_step (L.Order keys s) h n = ih s given h.0.0 n
  thin_step (L.Limit k m s) h n = ih s given h.0 n
  thin_step (L.Check own c s) h n = ih s given h.0.0 n
  thin_step (L.Result vars s) h n = n.1

layer_thin : {S : Type 0} (up : S → Plan) → ((s : S) → IsThin (up s)) → (y : L.Plan-F S) → IsThin (roll-Plan (map-Plan S Plan up y))
layer_thin {S} up ih y given h n =
    subst (λ (f : List Var → List Var). AtMost64 (f given)) (sym (live-roll (map-Plan S Plan up y)))
    (thin_step up ih given y (subst (λ (z : Bool → List Var → Type 0). z false given) (each-roll (map-Plan S Plan up y)) h) (subst (λ (z : List Var → Type 0). z given) (narrow-roll (map-Plan S Plan up y)) n))

thin_at : (p : Plan) → IsThin p
thin_at = ind-Plan IsThin (λ x y e. subst (λ (z : L.Plan-F Plan). IsThin (roll-Plan z)) e (layer_thin (λ s. s.0) (λ s. s.1) y))

pub thin_live : (p : Plan) → Fit p → AtMost64 (live p [])
thin_live p fit = thin_at p [] fit.each fit.narrow

-- ---- the kept variables

pub among_kept : (vars : List Var) (p : Plan) (q : Bytes) → is_among (kept vars p) q ≡ (is_among vars q && is_among (live p []) q)
among_kept vars p q = among_filter (is_among vars) (live p []) q

pub kept_live : (vars : List Var) (p : Plan) (q : Bytes) → is_among (kept vars p) q ≡ true → is_among (live p []) q ≡ true
kept_live vars p q e = right (is_among vars q) (is_among (live p []) q) (sym (among_kept vars p q) ∙ e)
  where
    right : (a b : Bool) → (a && b) ≡ true → b ≡ true
    right true b h = h
    right false b h = absurd (no (sym h))

-- what is live and among the variables is kept
pub are_kept : (vars : List Var) (p : Plan) (q : Bytes) → is_among vars q ≡ true → is_among (live p []) q ≡ true → is_among (kept vars p) q ≡ true
are_kept vars p q e d = among_kept vars p q ∙ (λ i. e i && d i)

pub reads_kept : (vars : List Var) (p : Plan) (qs : List Bytes) → IsIn (map named qs) vars → AreAmong (live p []) qs → AreAmong (kept vars p) qs
reads_kept vars p [] h g = tt
reads_kept vars p (q ∷ qs) h g = (are_kept vars p q (h q (at_head (named q) (map named qs))) g.0, reads_kept vars p qs (λ s e. h s (in_right (named q ∷ []) (map named qs) s e)) g.1)

-- the plan cut to them fits
pub fit_narrowed : (vars : List Var) (p : Plan) → Fit p → result_of p ≡ None → Fit (narrowed vars p)
fit_narrowed vars p fit root =
    in_Project (kept vars p) p (record {
      input = fit;
      root = root;
      listed = are_live (live p []) (kept vars p) (kept_live vars p);
      no_twice = no_twice_filter (is_among vars) (live p []) (live_once p fit);
      thin = let few = thin_live p fit in let less = length_filter (λ (v : Var). is_among vars v.name) (live p []) in omega (arith, few, less);
    })
