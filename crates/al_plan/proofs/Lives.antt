-- The live variables of a plan that fits are made in it, each once.
use Rattle.std.proofs.Common.{◌≡◌, Bool, true, false, List, [], ◌∷◌, ◌++◌, map, refl, ap, sym, subst, ◌∙◌}
use Rattle.al_plan.specs.declared.expr.Var.{Var}
use Rattle.al_plan.specs.declared.plan.Plan.{Plan, map-Plan, roll-Plan, ind-Plan}
use Rattle.al_plan.specs.declared.plan.Plan.TheOpen as L
use Rattle.al_plan.specs.Eval.{Bytes}
use Rattle.al_plan.specs.Allows.{live, live_step, is_among}
use Rattle.al_plan.specs.Refines.{Fit, FitsEach, NoTwice, AreLive, makes, makes_step, is_aggregate}
use Rattle.al_plan.proofs.PlanLaws.{EachLayer, each-roll, makes-roll, aggregate-roll}
use Rattle.al_plan.proofs.Within.{not_left, not_right}
use Rattle.al_plan.proofs.Mono.{live_is}
use Rattle.al_plan.proofs.Makes.{Disjoint, apart, twice_left, twice_right, twice_both, not_append, among_of}
use Rattle.al_plan.proofs.Bools.{no, by_cases}

not_of : (xs vars : List Var) → AreLive xs vars → (q : Bytes) → is_among xs q ≡ false → is_among vars q ≡ false
not_of xs vars h q e = by_cases (is_among vars q) (λ t. absurd (no (sym (among_of xs vars h q t) ∙ e))) (λ t. t)

-- an aggregate's live variables are its own
abbrev AggOnly : Plan → Type 0
AggOnly p = is_aggregate p ≡ true → (given : List Var) (q : Bytes) → is_among (makes p) q ≡ false → is_among (live p given) q ≡ false

layer_agg : {S : Type 0} (up : S → Plan) (y : L.Plan-F S) → AggOnly (roll-Plan (map-Plan S Plan up y))
layer_agg up (L.Scan set vars) e given q h = absurd (no (sym e ∙ aggregate-roll (L.Scan set vars)))
layer_agg up L.Empty e given q h = absurd (no (sym e ∙ aggregate-roll (L.Empty)))
layer_agg up L.Nested e given q h = absurd (no (sym e ∙ aggregate-roll (L.Nested)))
layer_agg up (L.Assign made s) e given q h = absurd (no (sym e ∙ aggregate-roll (L.Assign made (up s))))
layer_agg up (L.Select c s) e given q h = absurd (no (sym e ∙ aggregate-roll (L.Select c (up s))))
layer_agg up (L.Project vars s) e given q h = absurd (no (sym e ∙ aggregate-roll (L.Project vars (up s))))
layer_agg up (L.Unnest v its s) e given q h = absurd (no (sym e ∙ aggregate-roll (L.Unnest v its (up s))))
layer_agg up (L.Subplan m s) e given q h = absurd (no (sym e ∙ aggregate-roll (L.Subplan (up m) (up s))))
layer_agg up (L.Join c l r) e given q h = absurd (no (sym e ∙ aggregate-roll (L.Join c (up l) (up r))))
layer_agg up (L.LeftJoin c l r) e given q h = absurd (no (sym e ∙ aggregate-roll (L.LeftJoin c (up l) (up r))))
layer_agg up (L.Group keys m s) e given q h = absurd (no (sym e ∙ aggregate-roll (L.Group keys (up m) (up s))))
layer_agg up (L.Distinct s) e given q h = absurd (no (sym e ∙ aggregate-roll (L.Distinct (up s))))
layer_agg up (L.Union made ls rs l r) e given q h = absurd (no (sym e ∙ aggregate-roll (L.Union made ls rs (up l) (up r))))
layer_agg up (L.Aggregate made s) e given q h = ap (λ vs. is_among vs q) (live_is (L.Aggregate made (up s)) given) ∙ not_right (makes (up s)) (map (λ m. m.0) made) q (ap (λ vs. is_among vs q) (sym (makes-roll (L.Aggregate made (up s)))) ∙ h)
layer_agg up (L.Order keys s) e given q h = absurd (no (sym e ∙ aggregate-roll (L.Order keys (up s))))
layer_agg up (L.Limit k m s) e given q h = absurd (no (sym e ∙ aggregate-roll (L.Limit k m (up s))))
layer_agg up (L.Check own c s) e given q h = absurd (no (sym e ∙ aggregate-roll (L.Check own c (up s))))
layer_agg up (L.Result vars s) e given q h = absurd (no (sym e ∙ aggregate-roll (L.Result vars (up s))))

agg_only : (p : Plan) → AggOnly p
agg_only = ind-Plan AggOnly (λ x y e. subst (λ (z : L.Plan-F Plan). AggOnly (roll-Plan z)) e (layer_agg (λ s. s.0) y))

-- what is neither given nor made is not live
abbrev OnlyMade : Plan → Type 0
OnlyMade p = (inside : Bool) (given : List Var) → FitsEach p inside given → (q : Bytes) → is_among given q ≡ false → is_among (makes p) q ≡ false → is_among (live p given) q ≡ false

module _ {S : Type 0} (up : S → Plan) (ih : (s : S) → OnlyMade (up s)) (inside : Bool) (given : List Var) (q : Bytes) (g : is_among given q ≡ false) where
  step_only : (y : L.Plan-F S) → EachLayer (map-Plan S Plan up y) inside given → is_among (makes_step (map-Plan Plan (List Var) makes (map-Plan S Plan up y))) q ≡ false → is_among (live_step (map-Plan Plan (List Var → List Var) live (map-Plan S Plan up y)) given) q ≡ false
  step_only (L.Scan set vars) h m = m
  step_only L.Empty h m = refl
  step_only L.Nested h m = g
  step_only (L.Assign made s) h m = not_append _ _ q (ih s inside given h.0.0 q g (not_left (makes (up s)) (map (λ m. m.0) made) q m)) (not_right (makes (up s)) (map (λ m. m.0) made) q m)
  step_only (L.Select c s) h m = ih s inside given h.0.0 q g m
  step_only (L.Project vars s) h m = not_of (live (up s) given) vars h.1 q (ih s inside given h.0.0 q g m)
  step_only (L.Unnest v its s) h m = not_append _ (v ∷ []) q (ih s inside given h.0.0 q g (not_left (makes (up s)) (v ∷ []) q m)) (not_right (makes (up s)) (v ∷ []) q m)
  step_only (L.Subplan k s) h m = let here = ih s inside given h.0.0 q g (not_left (makes (up s)) (makes (up k)) q m) in not_append _ _ q here (ih k true (live (up s) given) h.2 q here (not_right (makes (up s)) (makes (up k)) q m))
  step_only (L.Join c l r) h m = not_append _ _ q (ih l inside given h.0.0 q g (not_left (makes (up l)) (makes (up r)) q m)) (ih r inside given h.1.0 q g (not_right (makes (up l)) (makes (up r)) q m))
  step_only (L.LeftJoin c l r) h m = not_append _ _ q (ih l inside given h.0.0 q g (not_left (makes (up l)) (makes (up r)) q m)) (ih r inside given h.1.0 q g (not_right (makes (up l)) (makes (up r)) q m))
  step_only (L.Group keys k s) h m = let own = map (λ k. k.0) keys in let more = not_right (makes (up s)) (makes (up k) ++ own) q m in let here = ih s inside given h.0.0 q g (not_left (makes (up s)) (makes (up k) ++ own) q m) in not_append own _ q (not_right (makes (up k)) own q more) (ih k true (live (up s) given) h.3 q here (not_left (makes (up k)) own q more))
  step_only (L.Distinct s) h m = ih s inside given h.0 q g m
  step_only (L.Union made ls rs l r) h m = not_right (makes (up r)) made q (not_right (makes (up l)) (makes (up r) ++ made) q m)
  step_only (L.Aggregate made s) h m = not_right (makes (up s)) (map (λ m. m.0) made) q m
  step_only (L.Order keys s) h m = ih s inside given h.0.0 q g m
  step_only (L.Limit a b s) h m = ih s inside given h.0 q g m
  step_only (L.Check own c s) h m = ih s inside given h.0.0 q g m
  step_only (L.Result vars s) h m = not_of (live (up s) given) vars h.2 q (ih s inside given h.0.0 q g m)

layer_only : {S : Type 0} (up : S → Plan) → ((s : S) → OnlyMade (up s)) → (y : L.Plan-F S) → OnlyMade (roll-Plan (map-Plan S Plan up y))
layer_only {S} up ih y inside given fit q g m =
    ap (λ vs. is_among vs q) (live_is (map-Plan S Plan up y) given)
    ∙ step_only up ih inside given q g y (subst (λ (a : Bool → List Var → Type 0). a inside given) (each-roll (map-Plan S Plan up y)) fit) (ap (λ vs. is_among vs q) (sym (makes-roll (map-Plan S Plan up y))) ∙ m)

pub only_made : (p : Plan) → OnlyMade p
only_made = ind-Plan OnlyMade (λ x y e. subst (λ (z : L.Plan-F Plan). OnlyMade (roll-Plan z)) e (layer_only (λ s. s.0) (λ s. s.1) y))

-- no variable is live twice; outside nested plans none is given
abbrev LiveOnce : Plan → Type 0
LiveOnce p = (inside : Bool) (given : List Var) → (inside ≡ false → given ≡ []) → FitsEach p inside given → NoTwice given → NoTwice (makes p) → Disjoint given (makes p) → NoTwice (live p given)

front : (zs xs ys : List Var) → Disjoint zs (xs ++ ys) → Disjoint zs xs
front zs xs ys d q e = not_left xs ys q (d q e)

-- what is live is not among what is made beside
pub cross : (p : Plan) (inside : Bool) (given own : List Var) → FitsEach p inside given → NoTwice (makes p ++ own) → Disjoint given (makes p ++ own) → Disjoint (live p given) own
cross p inside given own fit once d q e =
    by_cases (is_among given q) (λ t. not_right (makes p) own q (d q t))
    (λ f. by_cases (is_among (makes p) q) (λ t. apart (makes p) own once q t) (λ t. absurd (no (sym e ∙ only_made p inside given fit q f t))))

-- two lists that are disjoint are so the other way round
pub turned : (xs ys : List Var) → Disjoint xs ys → Disjoint ys xs
turned xs ys d q e = by_cases (is_among xs q) (λ t. absurd (no (sym e ∙ d q t))) (λ t. t)

module _ {S : Type 0} (up : S → Plan) (ih : (s : S) → LiveOnce (up s)) (inside : Bool) (given : List Var) (z : inside ≡ false → given ≡ []) (ng : NoTwice given) where
  sides : (l r : Plan) → inside ≡ false → FitsEach l inside given → FitsEach r inside given → NoTwice (makes l ++ makes r) → Disjoint (live l given) (live r given)
  sides l r out fl fr nm q e =
      let none : is_among given q ≡ false = ap (λ vs. is_among vs q) (z out) in
      let in_l = by_cases (is_among (makes l) q) (λ t. t) (λ t. absurd (no (sym e ∙ only_made l inside given fl q none t))) in
      only_made r inside given fr q none (apart (makes l) (makes r) nm q in_l)

  step_live : (y : L.Plan-F S) → EachLayer (map-Plan S Plan up y) inside given → NoTwice (makes_step (map-Plan Plan (List Var) makes (map-Plan S Plan up y))) → Disjoint given (makes_step (map-Plan Plan (List Var) makes (map-Plan S Plan up y))) → NoTwice (live_step (map-Plan Plan (List Var → List Var) live (map-Plan S Plan up y)) given)
  step_live (L.Scan set vars) h nm d = nm
  step_live L.Empty h nm d = tt
  step_live L.Nested h nm d = ng
  step_live (L.Assign made s) h nm d = let own = map (λ m. m.0) made in twice_both (live (up s) given) own (ih s inside given z h.0.0 ng (twice_left (makes (up s)) own nm) (front given (makes (up s)) own d)) (twice_right (makes (up s)) own nm) (cross (up s) inside given own h.0.0 nm d)
  step_live (L.Select c s) h nm d = ih s inside given z h.0.0 ng nm d
  step_live (L.Project vars s) h nm d = h.2
  step_live (L.Unnest v its s) h nm d = let own = v ∷ [] in twice_both (live (up s) given) own (ih s inside given z h.0.0 ng (twice_left (makes (up s)) own nm) (front given (makes (up s)) own d)) (twice_right (makes (up s)) own nm) (cross (up s) inside given own h.0.0 nm d)
  step_live (L.Subplan k s) h nm d = let here = ih s inside given z h.0.0 ng (twice_left (makes (up s)) (makes (up k)) nm) (front given (makes (up s)) (makes (up k)) d) in let over = cross (up s) inside given (makes (up k)) h.0.0 nm d in let deep = ih k true (live (up s) given) (λ e. absurd (no e)) h.2 here (twice_right (makes (up s)) (makes (up k)) nm) over in twice_both (live (up s) given) (live (up k) (live (up s) given)) here deep (λ q e. agg_only (up k) h.3 (live (up s) given) q (over q e))
  step_live (L.Join c l r) h nm d = twice_both (live (up l) given) (live (up r) given) (ih l inside given z h.0.0 ng (twice_left (makes (up l)) (makes (up r)) nm) (front given (makes (up l)) (makes (up r)) d)) (ih r inside given z h.1.0 ng (twice_right (makes (up l)) (makes (up r)) nm) (λ q e. not_right (makes (up l)) (makes (up r)) q (d q e))) (sides (up l) (up r) h.2 h.0.0 h.1.0 nm)
  step_live (L.LeftJoin c l r) h nm d = twice_both (live (up l) given) (live (up r) given) (ih l inside given z h.0.0 ng (twice_left (makes (up l)) (makes (up r)) nm) (front given (makes (up l)) (makes (up r)) d)) (ih r inside given z h.1.0 ng (twice_right (makes (up l)) (makes (up r)) nm) (λ q e. not_right (makes (up l)) (makes (up r)) q (d q e))) (sides (up l) (up r) h.2 h.0.0 h.1.0 nm)
  step_live (L.Group keys k s) h nm d = let own = map (λ k. k.0) keys in let rest = makes (up k) ++ own in let here = ih s inside given z h.0.0 ng (twice_left (makes (up s)) rest nm) (front given (makes (up s)) rest d) in let over = cross (up s) inside given rest h.0.0 nm d in let later = twice_right (makes (up s)) rest nm in let deep = ih k true (live (up s) given) (λ e. absurd (no e)) h.3 here (twice_left (makes (up k)) own later) (front (live (up s) given) (makes (up k)) own over) in twice_both own (live (up k) (live (up s) given)) (twice_right (makes (up k)) own later) deep (λ q e. agg_only (up k) h.4 (live (up s) given) q (turned (makes (up k)) own (apart (makes (up k)) own later) q e))
  step_live (L.Distinct s) h nm d = ih s inside given z h.0 ng nm d
  step_live (L.Union made ls rs l r) h nm d = twice_right (makes (up r)) made (twice_right (makes (up l)) (makes (up r) ++ made) nm)
  step_live (L.Aggregate made s) h nm d = twice_right (makes (up s)) (map (λ m. m.0) made) nm
  step_live (L.Order keys s) h nm d = ih s inside given z h.0.0 ng nm d
  step_live (L.Limit a b s) h nm d = ih s inside given z h.0 ng nm d
  step_live (L.Check own c s) h nm d = ih s inside given z h.0.0 ng nm d
  step_live (L.Result vars s) h nm d = h.3

layer_live : {S : Type 0} (up : S → Plan) → ((s : S) → LiveOnce (up s)) → (y : L.Plan-F S) → LiveOnce (roll-Plan (map-Plan S Plan up y))
layer_live {S} up ih y inside given z fit ng nm d =
    subst NoTwice (sym (live_is (map-Plan S Plan up y) given))
    (step_live up ih inside given z ng y (subst (λ (a : Bool → List Var → Type 0). a inside given) (each-roll (map-Plan S Plan up y)) fit) (subst NoTwice (makes-roll (map-Plan S Plan up y)) nm) (subst (Disjoint given) (makes-roll (map-Plan S Plan up y)) d))

pub live_once_at : (p : Plan) → LiveOnce p
live_once_at = ind-Plan LiveOnce (λ x y e. subst (λ (z : L.Plan-F Plan). LiveOnce (roll-Plan z)) e (layer_live (λ s. s.0) (λ s. s.1) y))

pub live_once : (p : Plan) → Fit p → NoTwice (live p [])
live_once p f = live_once_at p false [] (λ e. refl) f.each tt f.once (λ q e. absurd (no (sym e)))

-- the live variables of two inputs are apart
pub live_apart : (l r : Plan) → Fit l → Fit r → NoTwice (makes l ++ makes r) → Disjoint (live l []) (live r [])
live_apart l r f g once q e =
    let in_l = by_cases (is_among (makes l) q) (λ t. t) (λ t. absurd (no (sym e ∙ only_made l false [] f.each q refl t))) in
    only_made r false [] g.each q refl (apart (makes l) (makes r) once q in_l)
