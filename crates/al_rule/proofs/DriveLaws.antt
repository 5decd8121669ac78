-- What steps of a lawful set of rules make of a plan, and how a walk keeps on.
use Rattle.std.specs.List.{flat_map}
use Rattle.std.proofs.Common.{◌≡◌, ◌≢◌, ◌<◌, ◌≤◌, ℕ, Bool, true, false, List, [], ◌∷◌, ◌++◌, append-nil, append_assoc, refl, ap, sym, subst, ◌∙◌, arith}
use Rattle.al_plan.specs.declared.plan.Plan.{Plan}
use Rattle.al_plan.specs.Refines.{Fit, Replaces}
use Rattle.al_plan.proofs.Refine.{replaces-refl, replaces-trans}
use Rattle.al_rule.specs.declared.trace.TraceStep.{TraceStep}
use Rattle.al_rule.specs.declared.trace.Trace.{Trace}
use Rattle.al_rule.specs.Places.{Applied}
use Rattle.al_rule.specs.Rules.{Rules, IsLocal, IsLawful}
use Rattle.al_rule.specs.Driven.{IsStep, Steps, Drove}
use Rattle.al_rule.specs.Walks.{NoneBefore, NoneFrom, IsNext, StepsTo, IsWalkStep, WalksTo, IsWalk, AreWalks, WalkedOnce, WalkedOut}
use Rattle.al_rule.proofs.PlaceLaws.{applied_replaces}
use Rattle.al_rule.proofs.WalkLaws.{none_at_root, none_further, still_none}

-- ---- one step, and all of them

pub step_replaces : (rules : Rules) (measure : Plan → List ℕ) (weight : Plan → ℕ) → IsLawful rules measure weight → (s : TraceStep) (p q : Plan) → Fit p → IsStep rules s p q → Replaces q p
step_replaces rules measure weight lawful s p q f (k, low, set_is, rule_is, h) =
    applied_replaces (rules.rewrites k) (λ x y fx r. lawful.sound k low x y fx r) s.place.children p q f h

pub step_lightens : (rules : Rules) (measure : Plan → List ℕ) (weight : Plan → ℕ) → IsLawful rules measure weight → (s : TraceStep) (p q : Plan) → Fit p → IsStep rules s p q → weight q < weight p
step_lightens rules measure weight lawful s p q f (k, low, set_is, rule_is, h) = lawful.lightens k low s.place.children p q f h

pub steps_replace : (rules : Rules) (measure : Plan → List ℕ) (weight : Plan → ℕ) → IsLawful rules measure weight → (steps : List TraceStep) (p q : Plan) → Fit p → Steps rules steps p q → Replaces q p
unfolding Steps
steps_replace rules measure weight lawful [] p q f h = subst (λ (z : Plan). Replaces z p) (sym h) (replaces-refl p f)
steps_replace rules measure weight lawful (s ∷ steps) p q f (mid, first, rest) =
    let here = step_replaces rules measure weight lawful s p mid f first in
    replaces-trans q mid p (steps_replace rules measure weight lawful steps mid q here.refines.fit rest) here

pub steps_append : (rules : Rules) (xs ys : List TraceStep) (p q r : Plan) → Steps rules xs p q → Steps rules ys q r → Steps rules (xs ++ ys) p r
unfolding Steps
steps_append rules [] ys p q r h k = subst (λ (z : Plan). Steps rules ys z r) h k
steps_append rules (x ∷ xs) ys p q r (mid, first, rest) k = (mid, first, steps_append rules xs ys mid q r rest k)

one_step : (rules : Rules) (s : TraceStep) (p q : Plan) → IsStep rules s p q → Steps rules (s ∷ []) p q
unfolding Steps
one_step rules s p q h = (q, h, refl)

no_step : (rules : Rules) (p : Plan) → Steps rules [] p p
unfolding Steps
no_step rules p = refl

pub drove_replaces : (rules : Rules) (measure : Plan → List ℕ) (weight : Plan → ℕ) → IsLawful rules measure weight → (p q : Plan) (before now : Trace) → Fit p → Drove rules p before now q → Replaces q p
drove_replaces rules measure weight lawful p q before now f (steps, is, h) = steps_replace rules measure weight lawful steps p q f h

pub drove_nothing : (rules : Rules) (p : Plan) (before now : Trace) → now.steps ≡ before.steps → Drove rules p before now p
drove_nothing rules p before now is = ([], is ∙ sym (append-nil before.steps), no_step rules p)

pub drove_on : (rules : Rules) (p q r : Plan) (before mid now : Trace) → Drove rules p before mid q → Drove rules q mid now r → Drove rules p before now r
drove_on rules p q r before mid now (xs, x_is, hx) (ys, y_is, hy) =
    (xs ++ ys, y_is ∙ ap (λ zs. zs ++ ys) x_is ∙ append_assoc before.steps xs ys, steps_append rules xs ys p q r hx hy)

-- ---- the step that the code makes

applied_there : (rules : Rules) (k : ℕ) (place : List ℕ) (p q : Plan) (before now : Trace) (m : StepsTo rules k place p before q now) → Applied (rules.rewrites k) m.step.place.children p q
applied_there rules k place p q before now m = subst (λ (l : List ℕ). Applied (rules.rewrites k) l p q) (sym m.place_is) m.applied

is_step : (rules : Rules) (k : ℕ) (place : List ℕ) (p q : Plan) (before now : Trace) → k < rules.count → (m : StepsTo rules k place p before q now) → IsStep rules m.step p q
is_step rules k place p q before now low m = (k, low, m.set, m.name, applied_there rules k place p q before now m)

-- ---- the order of a walk

walks_nothing : (rules : Rules) (from to : List ℕ) (p : Plan) → to ≡ from → WalksTo rules from p [] to p
unfolding WalksTo
walks_nothing rules from to p is = (is, refl)

nothing_walked : (rules : Rules) (from to : List ℕ) (p q : Plan) → WalksTo rules from p [] to q → q ≡ p
unfolding WalksTo
nothing_walked rules from to p q h = h.1

-- one step more at the end
walks_on : (rules : Rules) (from at to : List ℕ) (p q r : Plan) (steps : List TraceStep) (s : TraceStep) → WalksTo rules from p steps at q → IsWalkStep rules at s q r → to ≡ s.place.children → WalksTo rules from p (steps ++ s ∷ []) to r
unfolding WalksTo
walks_on rules from at to p q r [] s (at_is, q_is) step is =
    (r, subst (λ (x : Plan). IsWalkStep rules from s x r) q_is (subst (λ (l : List ℕ). IsWalkStep rules l s q r) at_is step), (is, refl))
walks_on rules from at to p q r (x ∷ steps) s (mid, first, rest) step is = (mid, first, walks_on rules x.place.children at to mid q r steps s rest step is)

-- a walk as far as it has come
pub Walked : Rules → Plan → Trace → List ℕ → Plan → Trace → Type 0
Walked rules start before at plan now = (steps : List TraceStep) × (now.steps ≡ before.steps ++ steps) × WalksTo rules [] start steps at plan

walk_step : (rules : Rules) (start plan next : Plan) (before now later : Trace) (from place : List ℕ) (k : ℕ) → Walked rules start before from plan now → IsNext rules from plan k place → StepsTo rules k place plan now next later → Walked rules start before place next later
unfolding Walked
walk_step rules start plan next before now later from place k (steps, is, walks) n m =
    let step : IsWalkStep rules from m.step plan next = record {
      rule = k;
      next = subst (λ (l : List ℕ). IsNext rules from plan k l) (sym m.place_is) n;
      set = m.set;
      name = m.name;
      applied = applied_there rules k place plan next now later m;
    } in
    (steps ++ m.step ∷ [], m.gained ∙ ap (λ ss. ss ++ m.step ∷ []) is ∙ append_assoc before.steps steps (m.step ∷ []), walks_on rules [] from place start plan next steps m.step walks step (sym m.place_is))

pub walk_ends : (rules : Rules) (start plan : Plan) (before now : Trace) (from : List ℕ) → Walked rules start before from plan now → NoneFrom rules from plan → WalkedOnce rules start before now plan
unfolding Walked
walk_ends rules start plan before now from (steps, is, walks) none = (steps, is, record { at = from; walks = walks; ends = none })

begins_walk : (rules : Rules) (p : Plan) (t : Trace) (from : List ℕ) → from ≡ [] → Walked rules p t from p t
unfolding Walked
begins_walk rules p t from is = ([], sym (append-nil t.steps), walks_nothing rules [] from p is)

-- ---- walks one after the other

pub same_gain : (xs ys zs : List TraceStep) → xs ++ ys ≡ xs ++ zs → ys ≡ zs
same_gain [] ys zs e = e
same_gain (x ∷ xs) ys zs e = same_gain xs ys zs cc

no_walks : (rules : Rules) (p : Plan) → AreWalks rules p [] p
unfolding AreWalks
no_walks rules p = refl

more_walks : (rules : Rules) (p q r : Plan) (walks : List (List TraceStep)) (w : List TraceStep) → AreWalks rules p walks q → w ≢ [] → IsWalk rules q w r → AreWalks rules p (walks ++ w ∷ []) r
unfolding AreWalks
more_walks rules p q r [] w is some walk = (r, some, subst (λ (x : Plan). IsWalk rules x w r) is walk, refl)
more_walks rules p q r (x ∷ walks) w (mid, first, one, rest) some walk = (mid, first, one, more_walks rules mid q r walks w rest some walk)

flat-snoc : (walks : List (List TraceStep)) (w : List TraceStep) → flat_map (λ (x : List TraceStep). x) (walks ++ w ∷ []) ≡ flat_map (λ (x : List TraceStep). x) walks ++ w
flat-snoc [] w = append-nil w
flat-snoc (x ∷ walks) w = ap (λ ss. x ++ ss) (flat-snoc walks w) ∙ sym (append_assoc x (flat_map (λ (y : List TraceStep). y) walks) w)

-- whole walks so far
pub WalkedSoFar : Rules → Plan → Trace → Plan → Trace → Type 0
WalkedSoFar rules p before q now = (walks : List (List TraceStep)) × (now.steps ≡ before.steps ++ flat_map (λ w. w) walks) × AreWalks rules p walks q

pub no_walk_so_far : (rules : Rules) (p : Plan) (t : Trace) → WalkedSoFar rules p t p t
unfolding WalkedSoFar
no_walk_so_far rules p t = ([], sym (append-nil t.steps), no_walks rules p)

walk_of_none : (rules : Rules) (p q : Plan) (steps : List TraceStep) → steps ≡ [] → IsWalk rules p steps q → q ≡ p
walk_of_none rules p q steps is w = nothing_walked rules [] w.at p q (subst (λ (ss : List TraceStep). WalksTo rules [] p ss w.at q) is w.walks)

-- a walk that made the plan lighter applied something
pub one_walk_more : (rules : Rules) (weight : Plan → ℕ) (p q r : Plan) (before now later : Trace) → WalkedSoFar rules p before q now → WalkedOnce rules q now later r → weight r < weight q → WalkedSoFar rules p before r later
unfolding WalkedSoFar
one_walk_more rules weight p q r before now later (walks, is, are) (w, gained, walk) lighter =
    let some : w ≢ [] = λ none. let same = walk_of_none rules q r w none walk in let equal = ap weight same in omega arith in
    (walks ++ w ∷ [], gained ∙ ap (λ ss. ss ++ w) is ∙ append_assoc before.steps (flat_map (λ x. x) walks) w ∙ ap (λ ss. before.steps ++ ss) (sym (flat-snoc walks w)), more_walks rules p q r walks w are some walk)

-- a last walk that gains nothing
pub walked_out : (rules : Rules) (p q r : Plan) (before now later : Trace) → WalkedSoFar rules p before q now → WalkedOnce rules q now later r → later.steps ≡ now.steps → WalkedOut rules p before later r
unfolding WalkedSoFar
walked_out rules p q r before now later (walks, is, are) (w, gained, walk) same =
    let none : w ≡ [] = same_gain now.steps w [] (sym gained ∙ same ∙ sym (append-nil now.steps)) in
    let r_is : r ≡ q = walk_of_none rules q r w none walk in
    let last : IsWalk rules r [] r = subst (λ (x : Plan). IsWalk rules x [] r) (sym r_is) (subst (λ (ss : List TraceStep). IsWalk rules q ss r) none walk) in
    (walks, same ∙ is, subst (λ (x : Plan). AreWalks rules p walks x) (sym r_is) are, last)

-- ---- a walk under way: what was driven, and that nothing matches before its place

pub record Walking (rules : Rules) (weight : Plan → ℕ) (start : Plan) (before : Trace) (from : List ℕ) (plan : Plan) (now : Trace) (applied : Bool) : Type 0 where
  pub driven : Drove rules start before now plan
  pub walked : Walked rules start before from plan now
  pub fit : Fit plan
  pub by_local : IsLocal rules → NoneBefore rules from plan
  pub unapplied : applied ≡ false → NoneBefore rules from plan
  pub untraced : applied ≡ false → now.steps ≡ before.steps
  pub no_heavier : weight plan ≤ weight start
  pub lighter : applied ≡ true → weight plan < weight start

pub walk_begins : (rules : Rules) (weight : Plan → ℕ) (p : Plan) (t : Trace) (from : List ℕ) → from ≡ [] → Fit p → Walking rules weight p t from p t false
walk_begins rules weight p t from is f =
    let none : NoneBefore rules from p = subst (λ l. NoneBefore rules l p) (sym is) (none_at_root rules p) in
    record {
      driven = drove_nothing rules p t t refl;
      walked = begins_walk rules p t from is;
      fit = f;
      by_local = λ local. none;
      unapplied = λ e. none;
      untraced = λ e. refl;
      no_heavier = omega arith;
      lighter = λ e. absurd cc;
    }

pub walk_goes_on : (rules : Rules) (measure : Plan → List ℕ) (weight : Plan → ℕ) → IsLawful rules measure weight → (start plan next : Plan) (before now later : Trace) (from place : List ℕ) (applied : Bool) (k : ℕ)
    → Walking rules weight start before from plan now applied → IsNext rules from plan k place → StepsTo rules k place plan now next later → Walking rules weight start before place next later true
walk_goes_on rules measure weight lawful start plan next before now later from place applied k w n m =
    let step = is_step rules k place plan next now later n.known m in
    let falls : weight next < weight plan = step_lightens rules measure weight lawful m.step plan next w.fit step in
    let bound : weight plan ≤ weight start = w.no_heavier in
    record {
      driven = drove_on rules start plan next before now later w.driven (m.step ∷ [], m.gained, one_step rules m.step plan next step);
      walked = walk_step rules start plan next before now later from place k w.walked n m;
      fit = (step_replaces rules measure weight lawful m.step plan next w.fit step).refines.fit;
      by_local = λ local. still_none rules local (rules.rewrites k) place plan next m.applied (none_further rules from plan k place n (w.by_local local));
      unapplied = λ e. absurd cc;
      untraced = λ e. absurd cc;
      no_heavier = omega arith;
      lighter = λ e. omega arith;
    }
