-- A set of rules that leaves no choice has one walk over a plan.
use Rattle.std.proofs.Common.{◌≡◌, ◌≢◌, ◌⊎◌, ◌<◌, inl, inr, ℕ, List, [], ◌∷◌, refl, ap, sym, subst, ◌∙◌}
use Rattle.std.proofs.lemmas.Bool.{cases_order}
use Rattle.al_plan.specs.declared.plan.Plan.{Plan}
use Rattle.al_rule.specs.declared.names.SetName.{SetName}
use Rattle.al_rule.specs.declared.names.RuleName.{RuleName}
use Rattle.al_rule.specs.declared.trace.TraceStep.{TraceStep}
use Rattle.al_rule.specs.Places.{Rewriting, Applied, with_input}
use Rattle.al_rule.specs.Rules.{Rules}
use Rattle.al_rule.specs.Walks.{NoneFrom, MatchesAt, IsBefore, IsNext, IsWalkStep, WalksTo, IsWalk, AreWalks}
use Rattle.al_rule.proofs.WalkLaws.{one_input}
use Rattle.al_opt.specs.Determined.{GivesOne, Determined}

-- ---- the next place

abbrev AreOrdered : List ℕ → List ℕ → Type 0
AreOrdered a b = IsBefore a b ⊎ ((a ≡ b) ⊎ IsBefore b a)

ordered_on : (i j : ℕ) (a b : List ℕ) → (i ≡ j) ⊎ ((i < j) ⊎ (j < i)) → AreOrdered a b → AreOrdered (i ∷ a) (j ∷ b)
unfolding IsBefore
ordered_on i j a b (inl same) (inl before) = inl (inr (same, before))
ordered_on i j a b (inl same) (inr (inl equal)) = inr (inl (ap (λ (n : ℕ). n ∷ a) same ∙ ap (λ (l : List ℕ). j ∷ l) equal))
ordered_on i j a b (inl same) (inr (inr behind)) = inr (inr (inr (sym same, behind)))
ordered_on i j a b (inr (inl less)) h = inl (inl less)
ordered_on i j a b (inr (inr more)) h = inr (inr (inl more))

-- of two places one comes before the other
ordered : (a b : List ℕ) → AreOrdered a b
unfolding IsBefore
ordered [] [] = inr (inl refl)
ordered [] (j ∷ b) = inl tt
ordered (i ∷ a) [] = inr (inr tt)
ordered (i ∷ a) (j ∷ b) = ordered_on i j a b (cases_order i j) (ordered a b)

-- a walk goes on in one way
record IsSameNext (k j : ℕ) (place other : List ℕ) : Type 0 where
  pub rule : k ≡ j
  pub there : place ≡ other

one_next : (rules : Rules) (from : List ℕ) (p : Plan) (k j : ℕ) (place other : List ℕ) → IsNext rules from p k place → IsNext rules from p j other → IsSameNext k j place other
one_next rules from p k j place other n m = by_place (ordered place other) where
  by_rule : place ≡ other → (k ≡ j) ⊎ ((k < j) ⊎ (j < k)) → IsSameNext k j place other
  by_rule there (inl same) = record { rule = same; there = there }
  by_rule there (inr (inl less)) = absurd (m.first k less (subst (λ (l : List ℕ). MatchesAt (rules.rewrites k) l p) there n.matches))
  by_rule there (inr (inr more)) = absurd (n.first j more (subst (λ (l : List ℕ). MatchesAt (rules.rewrites j) l p) (sym there) m.matches))

  by_place : IsBefore place other ⊎ ((place ≡ other) ⊎ IsBefore other place) → IsSameNext k j place other
  by_place (inl before) = absurd (m.nearest k n.known place n.on before n.matches)
  by_place (inr (inl there)) = by_rule there (cases_order k j)
  by_place (inr (inr behind)) = absurd (n.nearest j m.known other m.on behind m.matches)

-- ---- a step

one_applied : (R : Rewriting) → GivesOne R → (place : List ℕ) (p q r : Plan) → Applied R place p q → Applied R place p r → q ≡ r
unfolding Applied
one_applied R one [] p q r h k = one p q r h k
one_applied R one (i ∷ place) p q r (x, y, here, inner, q_is) (z, w, there, other, r_is) =
    let same : x ≡ z = one_input p i x z here there in
    let parts : y ≡ w = one_applied R one place z y w (subst (λ (v : Plan). Applied R place v y) same inner) other in
    q_is ∙ ap (with_input p i) parts ∙ sym r_is

made_step : SetName → RuleName → List ℕ → TraceStep
made_step set rule children = record { set = set; rule = rule; place = record { children = children } }

same_step : (s t : TraceStep) → s.set ≡ t.set → s.rule ≡ t.rule → s.place.children ≡ t.place.children → s ≡ t
unfolding made_step
same_step s t a b c =
    ap (λ (x : SetName). made_step x s.rule s.place.children) a ∙ ap (λ (x : RuleName). made_step t.set x s.place.children) b ∙ ap (made_step t.set t.rule) c

record IsSameStep (s t : TraceStep) (q r : Plan) : Type 0 where
  pub step : s ≡ t
  pub plan : q ≡ r

one_step : (rules : Rules) → Determined rules → (from : List ℕ) (s t : TraceStep) (p q r : Plan) → IsWalkStep rules from s p q → IsWalkStep rules from t p r → IsSameStep s t q r
one_step rules one from s t p q r x y =
    let next = one_next rules from p x.rule y.rule s.place.children t.place.children x.next y.next in
    let moved : Applied (rules.rewrites y.rule) t.place.children p q =
    subst (λ (k : ℕ). Applied (rules.rewrites k) t.place.children p q) next.rule (subst (λ (l : List ℕ). Applied (rules.rewrites x.rule) l p q) next.there x.applied) in
    record {
      step = same_step s t (x.set ∙ sym y.set) (x.name ∙ ap rules.name_of next.rule ∙ sym y.name) next.there;
      plan = one_applied (rules.rewrites y.rule) (one y.rule y.next.known) t.place.children p q r moved y.applied;
    }

-- ---- walks

pub record IsSameWalk (ss ts : List TraceStep) (q r : Plan) : Type 0 where
  pub steps : ss ≡ ts
  pub plan : q ≡ r

-- where no rule matches a walk makes no step
no_step : (rules : Rules) (from at : List ℕ) (s : TraceStep) (p q r : Plan) → at ≡ from → q ≡ p → NoneFrom rules at q → IsWalkStep rules from s p r → ⊥
no_step rules from at s p q r e h none x =
    subst (λ (v : Plan). NoneFrom rules from v) h (subst (λ (l : List ℕ). NoneFrom rules l q) e none) x.rule x.next.known s.place.children x.next.on x.next.matches

walks_same : (rules : Rules) → Determined rules → (ss ts : List TraceStep) (from at to : List ℕ) (p q r : Plan) → WalksTo rules from p ss at q → NoneFrom rules at q → WalksTo rules from p ts to r → NoneFrom rules to r → IsSameWalk ss ts q r
unfolding WalksTo
walks_same rules one [] [] from at to p q r x ends y stops = record { steps = refl; plan = x.1 ∙ sym y.1 }
walks_same rules one [] (t ∷ ts) from at to p q r x ends (mid, first, rest) stops = absurd (no_step rules from at t p q mid x.0 x.1 ends first)
walks_same rules one (s ∷ ss) [] from at to p q r (mid, first, rest) ends y stops = absurd (no_step rules from to s p r mid y.0 y.1 stops first)
walks_same rules one (s ∷ ss) (t ∷ ts) from at to p q r (mid, first, rest) ends (other, begins, behind) stops =
    let here = one_step rules one from s t p mid other first begins in
    let moved : WalksTo rules t.place.children other ss at q =
    subst (λ (v : Plan). WalksTo rules t.place.children v ss at q) here.plan (subst (λ (z : TraceStep). WalksTo rules z.place.children mid ss at q) here.step rest) in
    let others = walks_same rules one ss ts t.place.children at to other q r moved ends behind stops in
    record { steps = ap (λ (z : TraceStep). z ∷ ss) here.step ∙ ap (λ (zs : List TraceStep). t ∷ zs) others.steps; plan = others.plan }

pub one_walk : (rules : Rules) → Determined rules → (ss ts : List TraceStep) (p q r : Plan) → IsWalk rules p ss q → IsWalk rules p ts r → IsSameWalk ss ts q r
one_walk rules one ss ts p q r x y = walks_same rules one ss ts [] x.at y.at p q r x.walks x.ends y.walks y.ends

-- ---- walks one after the other

pub record AreSameWalks (xs ys : List (List TraceStep)) (q r : Plan) : Type 0 where
  pub walks : xs ≡ ys
  pub plan : q ≡ r

-- behind a walk that applies nothing comes none that applies something
no_walk : (rules : Rules) → Determined rules → (w : List TraceStep) (p q r : Plan) → q ≡ p → IsWalk rules q [] q → w ≢ [] → IsWalk rules p w r → ⊥
no_walk rules one w p q r e last some walk = some (sym (one_walk rules one [] w q q r last (subst (λ (v : Plan). IsWalk rules v w r) (sym e) walk)).steps)

pub one_row_of_walks : (rules : Rules) → Determined rules → (xs ys : List (List TraceStep)) (p q r : Plan) → AreWalks rules p xs q → IsWalk rules q [] q → AreWalks rules p ys r → IsWalk rules r [] r → AreSameWalks xs ys q r
unfolding AreWalks
one_row_of_walks rules one [] [] p q r x last y end = record { walks = refl; plan = x ∙ sym y }
one_row_of_walks rules one [] (w ∷ ws) p q r x last (mid, some, first, rest) end = absurd (no_walk rules one w p q mid x last some first)
one_row_of_walks rules one (v ∷ vs) [] p q r (mid, some, first, rest) last y end = absurd (no_walk rules one v p r mid y end some first)
one_row_of_walks rules one (v ∷ vs) (w ∷ ws) p q r (mid, some, first, rest) last (other, more, begins, behind) end =
    let here = one_walk rules one v w p mid other first begins in
    let others = one_row_of_walks rules one vs ws other q r (subst (λ (z : Plan). AreWalks rules z vs q) here.plan rest) last behind end in
    record { walks = ap (λ (z : List TraceStep). z ∷ vs) here.steps ∙ ap (λ (zs : List (List TraceStep)). w ∷ zs) others.walks; plan = others.plan }
