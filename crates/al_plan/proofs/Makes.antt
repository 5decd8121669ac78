-- Lists of variables without repeats, and what a layer makes and scans.
use Rattle.std.proofs.Common.{◌≡◌, ℕ, Bool, true, false, List, [], ◌∷◌, ◌++◌, map, refl, ap, sym, subst, ◌∙◌, arith}
use Rattle.std.specs.Prelude.{◌||◌, nat_eq}
use Rattle.std.specs.Cmp.Lexicographic.{pointwise, same_text}
use Rattle.std.specs.List.{All, Contains}
use Rattle.std.proofs.lemmas.List.Elements.{All-contains_itself, All-append, All-weaker, Contains-append_left, Contains-append_right}
use Rattle.al_plan.specs.declared.expr.Var.{Var}
use Rattle.al_plan.specs.declared.plan.Plan.{Plan, map-Plan, roll-Plan}
use Rattle.al_plan.specs.declared.plan.Plan.TheOpen as L
use Rattle.al_plan.specs.Eval.{Bytes}
use Rattle.al_plan.specs.Allows.{is_among}
use Rattle.al_plan.specs.Refines.{NoTwice, AreLive, IsNoMore, makes, makes_step, Scan, scans, scans_step}
use Rattle.al_plan.proofs.PlanLaws.{makes-roll, scans-roll}
use Rattle.al_plan.proofs.Within.{is_among-append, not_left, not_right}
use Rattle.al_plan.proofs.Mono.{Inputs}
use Rattle.al_plan.proofs.Fits.{InnerSame}
use Rattle.al_plan.proofs.Bools.{by_cases}

nat_itself : (n : ℕ) → nat_eq n n ≡ true
nat_itself n = grind arith

pub text_itself : (xs : Bytes) → pointwise nat_eq xs xs ≡ true
text_itself [] = refl
text_itself (x ∷ xs) = grind (arith, nat_itself x, text_itself xs)

abbrev pub Disjoint : List Var → List Var → Type 0
Disjoint xs ys = (q : Bytes) → is_among xs q ≡ true → is_among ys q ≡ false

neither : (a b : Bool) → a ≡ false → b ≡ false → (a || b) ≡ false
neither a b e f = λ i. e i || f i

pub not_append : (xs ys : List Var) (q : Bytes) → is_among xs q ≡ false → is_among ys q ≡ false → is_among (xs ++ ys) q ≡ false
not_append xs ys q e f = is_among-append xs ys q ∙ neither _ _ e f

pub at_head : (x : Var) (xs : List Var) → is_among (x ∷ xs) x.name ≡ true
at_head x xs = ap (λ b. b || is_among xs x.name) (text_itself x.name)

pub apart : (xs ys : List Var) → NoTwice (xs ++ ys) → Disjoint xs ys
apart [] ys h q e = absurd (no e)
  where
    no : false ≡ true → ⊥
    no e = cc
apart (x ∷ xs) ys h q e =
    by_cases (pointwise nat_eq x.name q)
    (λ same. ap (λ n. is_among ys n) (sym (same_text x.name q (sym same))) ∙ not_right xs ys x.name h.0)
    (λ other. apart xs ys h.1 q (ap (λ b. b || is_among xs q) (sym other) ∙ e))

pub twice_left : (xs ys : List Var) → NoTwice (xs ++ ys) → NoTwice xs
twice_left [] ys h = tt
twice_left (x ∷ xs) ys h = (not_left xs ys x.name h.0, twice_left xs ys h.1)

pub twice_right : (xs ys : List Var) → NoTwice (xs ++ ys) → NoTwice ys
twice_right [] ys h = h
twice_right (x ∷ xs) ys h = twice_right xs ys h.1

pub twice_both : (xs ys : List Var) → NoTwice xs → NoTwice ys → Disjoint xs ys → NoTwice (xs ++ ys)
twice_both [] ys h g d = g
twice_both (x ∷ xs) ys h g d = (
  not_append xs ys x.name h.0 (d x.name (at_head x xs)),
  twice_both xs ys h.1 g (λ q e. d q (or_more (pointwise nat_eq x.name q) (is_among xs q) e)),
)
  where
    or_more : (a b : Bool) → b ≡ true → (a || b) ≡ true
    or_more true b e = refl
    or_more false b e = e

among_more : (xs us : List Var) → IsNoMore xs us → (q : Bytes) → is_among xs q ≡ true → is_among us q ≡ true
among_more xs us f q e = by_cases (is_among us q) (λ h. h) (λ h. absurd (no (sym (f q h) ∙ e)))
  where
    no : false ≡ true → ⊥
    no e = cc

-- what is among some that are live is live
pub among_of : (xs vars : List Var) → AreLive xs vars → (q : Bytes) → is_among vars q ≡ true → is_among xs q ≡ true
among_of xs [] h q e = absurd (no e)
  where
    no : false ≡ true → ⊥
    no e = cc
among_of xs (v ∷ vars) h q e = go (pointwise nat_eq v.name q) refl (among_of xs vars h.1 q)
  where
    go : (b : Bool) → pointwise nat_eq v.name q ≡ b → (is_among vars q ≡ true → is_among xs q ≡ true) → is_among xs q ≡ true
    go true same more = ap (is_among xs) (sym (same_text v.name q (sym same))) ∙ h.0
    go false other more = more (ap (λ b. b || is_among vars q) (sym other) ∙ e)

pub twice_fewer : (xs ys us vs : List Var) → NoTwice xs → NoTwice ys → IsNoMore xs us → IsNoMore ys vs → NoTwice (us ++ vs) → NoTwice (xs ++ ys)
twice_fewer xs ys us vs h g f k both = twice_both xs ys h g (λ q e. k q (apart us vs both q (among_more xs us f q e)))

pub no_more-refl : (xs : List Var) → IsNoMore xs xs
no_more-refl xs q h = h

pub no_more-append : (xs ys us vs : List Var) → IsNoMore xs us → IsNoMore ys vs → IsNoMore (xs ++ ys) (us ++ vs)
no_more-append xs ys us vs f g q h = not_append xs ys q (f q (not_left us vs q h)) (g q (not_right us vs q h))

pub no_more-same : (xs ys : List Var) → xs ≡ ys → IsNoMore xs ys
no_more-same xs ys e q h = ap (λ vs. is_among vs q) e ∙ h

-- an input makes nothing twice, and no more than the one that it stands for
pub record Fresh (q p : Plan) : Type 0 where
  pub once : NoTwice (makes q)
  pub fewer : IsNoMore (makes q) (makes p)

module _ {S : Type 0} (f g : S → Plan) where
  abbrev Made : (S → Plan) → L.Plan-F S → List Var
  Made k y = makes_step (map-Plan Plan (List Var) makes (map-Plan S Plan k y))

  abbrev Parts : L.Plan-F S → Type 0
  Parts y = Inputs S (λ s. Fresh (f s) (g s)) y

  step_fewer : (y : L.Plan-F S) → InnerSame S f g y → Parts y → IsNoMore (Made f y) (Made g y)
  step_fewer (L.Scan set vars) n i = no_more-refl vars
  step_fewer L.Empty n i = no_more-refl []
  step_fewer L.Nested n i = no_more-refl []
  step_fewer (L.Assign made s) n i = no_more-append _ (map (λ m. m.0) made) _ (map (λ m. m.0) made) i.fewer (no_more-refl _)
  step_fewer (L.Select c s) n i = i.fewer
  step_fewer (L.Project vars s) n i = i.fewer
  step_fewer (L.Unnest v its s) n i = no_more-append _ (v ∷ []) _ (v ∷ []) i.fewer (no_more-refl (v ∷ []))
  step_fewer (L.Subplan m s) n i = no_more-append _ _ _ _ i.fewer (no_more-same _ _ (ap makes n))
  step_fewer (L.Join c l r) n i = no_more-append _ _ _ _ i.0.fewer i.1.fewer
  step_fewer (L.LeftJoin c l r) n i = no_more-append _ _ _ _ i.0.fewer i.1.fewer
  step_fewer (L.Group keys m s) n i = no_more-append _ _ _ _ i.fewer (no_more-same _ _ (ap (λ p. makes p ++ map (λ k. k.0) keys) n))
  step_fewer (L.Distinct s) n i = i.fewer
  step_fewer (L.Union made ls rs l r) n i = no_more-append _ _ _ _ i.0.fewer (no_more-append _ made _ made i.1.fewer (no_more-refl made))
  step_fewer (L.Aggregate made s) n i = no_more-append _ (map (λ m. m.0) made) _ (map (λ m. m.0) made) i.fewer (no_more-refl _)
  step_fewer (L.Order keys s) n i = i.fewer
  step_fewer (L.Limit k m s) n i = i.fewer
  step_fewer (L.Check name c s) n i = i.fewer
  step_fewer (L.Result vars s) n i = i.fewer

  -- the input's variables before some that stay
  own : (xs us vs : List Var) → NoTwice xs → IsNoMore xs us → NoTwice (us ++ vs) → NoTwice (xs ++ vs)
  own xs us vs h k both = twice_fewer xs vs us vs h (twice_right us vs both) k (no_more-refl vs) both

  step_once : (y : L.Plan-F S) → InnerSame S f g y → Parts y → NoTwice (Made g y) → NoTwice (Made f y)
  step_once (L.Scan set vars) n i h = h
  step_once L.Empty n i h = h
  step_once L.Nested n i h = h
  step_once (L.Assign made s) n i h = own _ _ (map (λ m. m.0) made) i.once i.fewer h
  step_once (L.Select c s) n i h = i.once
  step_once (L.Project vars s) n i h = i.once
  step_once (L.Unnest v its s) n i h = own _ _ (v ∷ []) i.once i.fewer h
  step_once (L.Subplan m s) n i h = subst (λ (p : Plan). NoTwice (makes (f s) ++ makes p)) (sym n) (own _ _ (makes (g m)) i.once i.fewer h)
  step_once (L.Join c l r) n i h = twice_fewer _ _ _ _ i.0.once i.1.once i.0.fewer i.1.fewer h
  step_once (L.LeftJoin c l r) n i h = twice_fewer _ _ _ _ i.0.once i.1.once i.0.fewer i.1.fewer h
  step_once (L.Group keys m s) n i h = subst (λ (p : Plan). NoTwice (makes (f s) ++ (makes p ++ map (λ k. k.0) keys))) (sym n) (own _ _ (makes (g m) ++ map (λ k. k.0) keys) i.once i.fewer h)
  step_once (L.Distinct s) n i h = i.once
  step_once (L.Union made ls rs l r) n i h = twice_fewer _ _ _ _ i.0.once (own _ _ made i.1.once i.1.fewer (twice_right _ _ h)) i.0.fewer (no_more-append _ made _ made i.1.fewer (no_more-refl made)) h
  step_once (L.Aggregate made s) n i h = own _ _ (map (λ m. m.0) made) i.once i.fewer h
  step_once (L.Order keys s) n i h = i.once
  step_once (L.Limit k m s) n i h = i.once
  step_once (L.Check name c s) n i h = i.once
  step_once (L.Result vars s) n i h = i.once

  pub step_fresh : (y : L.Plan-F S) → InnerSame S f g y → Parts y → NoTwice (makes (roll-Plan (map-Plan S Plan g y))) → Fresh (roll-Plan (map-Plan S Plan f y)) (roll-Plan (map-Plan S Plan g y))
  step_fresh y n i h = record {
    once = subst NoTwice (sym (makes-roll (map-Plan S Plan f y))) (step_once y n i (subst NoTwice (makes-roll (map-Plan S Plan g y)) h));
    fewer = λ q e. ap (λ vs. is_among vs q) (makes-roll (map-Plan S Plan f y)) ∙ step_fewer y n i q (ap (λ vs. is_among vs q) (sym (makes-roll (map-Plan S Plan g y))) ∙ e);
  }

-- ---- scans

pub within-append : (xs ys us vs : List Scan) → All (Contains us) xs → All (Contains vs) ys → All (Contains (us ++ vs)) (xs ++ ys)
within-append xs ys us vs h g =
    All-append (Contains (us ++ vs)) xs ys (All-weaker (Contains us) (Contains (us ++ vs)) (λ s k. Contains-append_left us vs s k) xs h) (All-weaker (Contains vs) (Contains (us ++ vs)) (λ s k. Contains-append_right us vs s k) ys g)

same_scans : (n m : Plan) → n ≡ m → All (Contains (scans m)) (scans n)
same_scans n m e = subst (λ (k : Plan). All (Contains (scans m)) (scans k)) (sym e) (All-contains_itself (scans m))

module _ {S : Type 0} (f g : S → Plan) where
  abbrev Scanned : (S → Plan) → L.Plan-F S → List Scan
  Scanned k y = scans_step (map-Plan Plan (List Scan) scans (map-Plan S Plan k y))

  step_scans : (y : L.Plan-F S) → InnerSame S f g y → Inputs S (λ s. All (Contains (scans (g s))) (scans (f s))) y → All (Contains (Scanned g y)) (Scanned f y)
  step_scans (L.Scan set vars) n i = All-contains_itself ((set, vars) ∷ [])
  step_scans L.Empty n i = All-contains_itself []
  step_scans L.Nested n i = All-contains_itself []
  step_scans (L.Assign made s) n i = i
  step_scans (L.Select c s) n i = i
  step_scans (L.Project vars s) n i = i
  step_scans (L.Unnest v its s) n i = i
  step_scans (L.Subplan m s) n i = within-append _ _ _ _ i (same_scans _ _ n)
  step_scans (L.Join c l r) n i = within-append _ _ _ _ i.0 i.1
  step_scans (L.LeftJoin c l r) n i = within-append _ _ _ _ i.0 i.1
  step_scans (L.Group keys m s) n i = within-append _ _ _ _ i (same_scans _ _ n)
  step_scans (L.Distinct s) n i = i
  step_scans (L.Union made ls rs l r) n i = within-append _ _ _ _ i.0 i.1
  step_scans (L.Aggregate made s) n i = i
  step_scans (L.Order keys s) n i = i
  step_scans (L.Limit k m s) n i = i
  step_scans (L.Check name c s) n i = i
  step_scans (L.Result vars s) n i = i

  pub step_scanned : (y : L.Plan-F S) → InnerSame S f g y → Inputs S (λ s. All (Contains (scans (g s))) (scans (f s))) y → All (Contains (scans (roll-Plan (map-Plan S Plan g y)))) (scans (roll-Plan (map-Plan S Plan f y)))
  step_scanned y n i = subst (λ (xs : List Scan). All (Contains xs) (scans (roll-Plan (map-Plan S Plan f y)))) (sym (scans-roll (map-Plan S Plan g y))) (subst (All (Contains (Scanned g y))) (sym (scans-roll (map-Plan S Plan f y))) (step_scans y n i))
