-- Which steps are a walk of small sets of rules over small plans.
use Rattle.std.proofs.Common.{◌≡◌, ◌<◌, ℕ, zero, suc, List, [], ◌∷◌, Some, None, refl, ap, sym, subst, ◌∙◌, arith}
use Rattle.al_plan.specs.declared.plan.Plan.{Plan, out-Plan}
use Rattle.al_plan.specs.declared.plan.Plan.TheOpen as L
use Rattle.al_plan.specs.declared.plan.Plan.TheVariants as P
use Rattle.al_rule.specs.declared.names.RuleName.TheVariants as N
use Rattle.al_rule.specs.declared.trace.TraceStep.{TraceStep}
use Rattle.al_rule.specs.Places.{Rewriting, Applied, input, input_step, with_input, with_input_step, plan_at}
use Rattle.al_rule.specs.Rules.{Rules, Matches}
use Rattle.al_rule.specs.Walks.{NoneFrom, MatchesAt, IsBefore, IsNext, IsWalkStep, WalksTo, IsWalk, AreWalks}
use Rattle.al_rule.specs.WalkCases.{bare, single, double, pair_of, falling, choosing, step_at, WalkGoesDown, WalkGoesBack, WalkStops, WalksFollow, IdleWalkCounts, FirstInputFirst, SecondInputFirst, SecondRuleFirst}
use Rattle.al_rule.proofs.Operators.{out-Empty, out-Distinct, out-Union}
use Rattle.al_rule.proofs.WalkLaws.{at_root, part_above, part_below, matches_below, before_root, root_before_parts, left_is_before, before_below, not_behind, none_past_parts}

-- ---- the plans

bare_is_not : bare ≡ single → ⊥
bare_is_not e = let f : L.Empty ≡ L.Distinct bare = sym out-Empty ∙ ap out-Plan e ∙ out-Distinct bare in absurd cc

double_is_not : double ≡ single → ⊥
double_is_not e =
    let f : L.Distinct single ≡ L.Distinct bare = sym (out-Distinct single) ∙ ap out-Plan e ∙ out-Distinct bare in
    bare_is_not (sym (the_input f)) where
      the_input : L.Distinct single ≡ L.Distinct bare → single ≡ bare
      the_input f = cc

pair_is_not : (l r : Plan) → pair_of l r ≡ single → ⊥
pair_is_not l r e = let f : L.Union [] [] [] l r ≡ L.Distinct bare = sym (out-Union [] [] [] l r) ∙ ap out-Plan e ∙ out-Distinct bare in absurd cc

input_of_distinct : (p : Plan) → input (P.Distinct p) 0 ≡ Some p
unfolding input
input_of_distinct p = ap (λ l. input_step l 0) (out-Distinct p)

left_of_pair : (l r : Plan) → input (pair_of l r) 0 ≡ Some l
unfolding input
left_of_pair l r = ap (λ x. input_step x 0) (out-Union [] [] [] l r)

right_of_pair : (l r : Plan) → input (pair_of l r) 1 ≡ Some r
unfolding input
right_of_pair l r = ap (λ x. input_step x 1) (out-Union [] [] [] l r)

no_input : (i : ℕ) → input bare i ≡ None
unfolding input
no_input i = ap (λ l. input_step l i) out-Empty

with_distinct : (p q : Plan) → with_input (P.Distinct p) 0 q ≡ P.Distinct q
unfolding with_input
with_distinct p q = ap (λ l. with_input_step l 0 q) (out-Distinct p)

with_left : (l r q : Plan) → with_input (pair_of l r) 0 q ≡ pair_of q r
unfolding with_input
with_left l r q = ap (λ x. with_input_step x 0 q) (out-Union [] [] [] l r)

with_right : (l r q : Plan) → with_input (pair_of l r) 1 q ≡ pair_of l q
unfolding with_input
with_right l r q = ap (λ x. with_input_step x 1 q) (out-Union [] [] [] l r)

no_second : (p : Plan) (i : ℕ) → input (P.Distinct p) (suc i) ≡ None
unfolding input
no_second p i = ap (λ l. input_step l (suc i)) (out-Distinct p)

-- ---- where rules match

root_of : (R : Rewriting) (p : Plan) → MatchesAt R [] p → Matches R p
unfolding plan_at
root_of R p (x, e, m) = let same : p ≡ x = cc in subst (Matches R) (sym same) m

none_in_bare : (k : ℕ) (place : List ℕ) → MatchesAt (falling.rewrites k) place bare → ⊥
none_in_bare k [] m = bare_is_not (root_of (falling.rewrites k) bare m).1.0
none_in_bare k (i ∷ place) (x, e, m) = let (z, iz, ez) = part_below i place bare x e in let none = no_input i in absurd cc

none_beside : (R : Rewriting) (i : ℕ) (place : List ℕ) (p : Plan) → MatchesAt R (suc i ∷ place) (P.Distinct p) → ⊥
none_beside R i place p (x, e, m) = let (z, iz, ez) = part_below (suc i) place (P.Distinct p) x e in let none = no_second p i in absurd cc

in_single : MatchesAt (falling.rewrites 0) [] single
in_single = (single, at_root single, (bare, (refl, refl)))

in_part : (i : ℕ) (p : Plan) → input p i ≡ Some single → MatchesAt (falling.rewrites 0) (i ∷ []) p
in_part i p here = (single, part_above i [] p single single here (at_root single), (bare, (refl, refl)))

-- nothing comes before the first input but the root
not_before_first : (place : List ℕ) (i : ℕ) → IsBefore (i ∷ place) (0 ∷ []) → ⊥
not_before_first place zero h = before_root place (before_below 0 place [] h)
not_before_first place (suc i) h = not_behind (suc i) 0 place [] (omega arith) h

gone_here : (k : ℕ) → Applied (falling.rewrites k) [] single bare
unfolding Applied
gone_here k = (refl, refl)

gone_below : (k i : ℕ) (p q : Plan) → input p i ≡ Some single → with_input p i bare ≡ q → Applied (falling.rewrites k) (i ∷ []) p q
unfolding Applied
gone_below k i p q here is = (single, bare, here, gone_here k, sym is)

end_here : (rules : Rules) (at : List ℕ) (p : Plan) → WalksTo rules at p [] at p
unfolding WalksTo
end_here rules at p = (refl, refl)

then_on : (rules : Rules) (from to : List ℕ) (p mid q : Plan) (place : List ℕ) (more : List TraceStep) → IsWalkStep rules from (step_at place) p mid → WalksTo rules place mid more to q → WalksTo rules from p (step_at place ∷ more) to q
unfolding WalksTo
then_on rules from to p mid q place more first rest = (mid, first, rest)

walk_step : (from place : List ℕ) (p q : Plan) → IsNext falling from p 0 place → Applied (falling.rewrites 0) place p q → IsWalkStep falling from (step_at place) p q
walk_step from place p q n h = record { rule = 0; next = n; set = refl; name = refl; applied = h }

-- ---- walks

none_below_single : NoneFrom falling (0 ∷ []) single
none_below_single k low [] g m = g (root_before_parts 0 [])
none_below_single k low (zero ∷ place) g m = none_in_bare k place (matches_below (falling.rewrites k) 0 place single bare (input_of_distinct bare) m)
none_below_single k low (suc i ∷ place) g m = none_beside (falling.rewrites k) i place bare m

lower_next : IsNext falling [] double 0 (0 ∷ [])
lower_next = record {
  known = omega arith;
  matches = in_part 0 double (input_of_distinct single);
  first = λ j less m. absurd (omega arith);
  on = before_root (0 ∷ []);
  nearest = nearest;
} where
  nearest : (j : ℕ) → j < 1 → (other : List ℕ) → (IsBefore other [] → ⊥) → IsBefore other (0 ∷ []) → MatchesAt (falling.rewrites j) other double → ⊥
  nearest j low [] g h m = double_is_not (root_of (falling.rewrites j) double m).1.0
  nearest j low (i ∷ other) g h m = not_before_first other i h

pub goes_down : WalkGoesDown
goes_down = record {
  at = 0 ∷ [];
  walks = then_on falling [] (0 ∷ []) double single single (0 ∷ []) [] (walk_step [] (0 ∷ []) double single lower_next (gone_below 0 0 double single (input_of_distinct single) (with_distinct single bare))) (end_here falling (0 ∷ []) single);
  ends = none_below_single;
}

second_of : (rules : Rules) (from to : List ℕ) (p q : Plan) (a b : List ℕ) → WalksTo rules from p (step_at a ∷ step_at b ∷ []) to q → (mid next : Plan) × IsWalkStep rules from (step_at a) p mid × IsWalkStep rules a (step_at b) mid next
unfolding WalksTo
second_of rules from to p q a b (mid, first, (next, second, rest)) = (mid, next, first, second)

pub goes_back : WalkGoesBack → ⊥
goes_back w = (second_of falling [] w.at double bare (0 ∷ []) [] w.walks).3.next.on (root_before_parts 0 [])

none_walked : (rules : Rules) (from to : List ℕ) (p q : Plan) → WalksTo rules from p [] to q → to ≡ from
unfolding WalksTo
none_walked rules from to p q h = h.0

pub stops : WalkStops → ⊥
stops w =
    let none : NoneFrom falling [] double = subst (λ (l : List ℕ). NoneFrom falling l double) (none_walked falling [] w.at double double w.walks) w.ends in
    none 0 (omega arith) (0 ∷ []) (before_root (0 ∷ [])) (in_part 0 double (input_of_distinct single))

upper_next : IsNext falling [] single 0 []
upper_next = record {
  known = omega arith;
  matches = in_single;
  first = λ j less m. absurd (omega arith);
  on = before_root [];
  nearest = λ j low other g h m. before_root other h;
}

pub follow : WalksFollow
unfolding AreWalks
follow =
    let upper : IsWalk falling single (step_at [] ∷ []) bare = record {
      at = [];
      walks = then_on falling [] [] single bare bare [] [] (walk_step [] [] single bare upper_next (gone_here 0)) (end_here falling [] bare);
      ends = λ k low place g m. none_in_bare k place m;
    } in
    (single, (λ e. absurd cc), goes_down, (bare, (λ e. absurd cc), upper, refl))

pub idle : IdleWalkCounts → ⊥
unfolding AreWalks
idle (mid, some, one, rest) = some refl

left_next : IsNext falling [] (pair_of single single) 0 (0 ∷ [])
left_next = record {
  known = omega arith;
  matches = in_part 0 (pair_of single single) (left_of_pair single single);
  first = λ j less m. absurd (omega arith);
  on = before_root (0 ∷ []);
  nearest = nearest;
} where
  nearest : (j : ℕ) → j < 1 → (other : List ℕ) → (IsBefore other [] → ⊥) → IsBefore other (0 ∷ []) → MatchesAt (falling.rewrites j) other (pair_of single single) → ⊥
  nearest j low [] g h m = pair_is_not single single (root_of (falling.rewrites j) (pair_of single single) m).1.0
  nearest j low (i ∷ other) g h m = not_before_first other i h

right_next : IsNext falling (0 ∷ []) (pair_of bare single) 0 (1 ∷ [])
right_next = record {
  known = omega arith;
  matches = in_part 1 (pair_of bare single) (right_of_pair bare single);
  first = λ j less m. absurd (omega arith);
  on = not_before_first [] 1;
  nearest = nearest;
} where
  nearest : (j : ℕ) → j < 1 → (other : List ℕ) → (IsBefore other (0 ∷ []) → ⊥) → IsBefore other (1 ∷ []) → MatchesAt (falling.rewrites j) other (pair_of bare single) → ⊥
  nearest j low [] g h m = g (root_before_parts 0 [])
  nearest j low (zero ∷ other) g h m = none_in_bare j other (matches_below (falling.rewrites j) 0 other (pair_of bare single) bare (left_of_pair bare single) m)
  nearest j low (suc zero ∷ other) g h m = before_root other (before_below 1 other [] h)
  nearest j low (suc (suc i) ∷ other) g h m = not_behind (suc (suc i)) 1 other [] (omega arith) h

none_in_pair : NoneFrom falling (1 ∷ []) (pair_of bare bare)
none_in_pair k low [] g m = g (root_before_parts 1 [])
none_in_pair k low (zero ∷ place) g m = none_in_bare k place (matches_below (falling.rewrites k) 0 place (pair_of bare bare) bare (left_of_pair bare bare) m)
none_in_pair k low (suc zero ∷ place) g m = none_in_bare k place (matches_below (falling.rewrites k) 1 place (pair_of bare bare) bare (right_of_pair bare bare) m)
none_in_pair k low (suc (suc i) ∷ place) g m = none_past_parts (falling.rewrites k) i place (pair_of bare bare) m

pub first_input : FirstInputFirst
first_input = record {
  at = 1 ∷ [];
  walks =
      then_on falling [] (1 ∷ []) (pair_of single single) (pair_of bare single) (pair_of bare bare) (0 ∷ []) (step_at (1 ∷ []) ∷ [])
      (walk_step [] (0 ∷ []) (pair_of single single) (pair_of bare single) left_next (gone_below 0 0 (pair_of single single) (pair_of bare single) (left_of_pair single single) (with_left single single bare)))
      (then_on falling (0 ∷ []) (1 ∷ []) (pair_of bare single) (pair_of bare bare) (pair_of bare bare) (1 ∷ []) []
      (walk_step (0 ∷ []) (1 ∷ []) (pair_of bare single) (pair_of bare bare) right_next (gone_below 0 1 (pair_of bare single) (pair_of bare bare) (right_of_pair bare single) (with_right bare single bare)))
      (end_here falling (1 ∷ []) (pair_of bare bare)));
  ends = none_in_pair;
}

pub second_input : SecondInputFirst → ⊥
second_input w =
    let first = (second_of falling [] w.at (pair_of single single) (pair_of bare bare) (1 ∷ []) (0 ∷ []) w.walks).2 in
    first.next.nearest 0 (omega arith) (0 ∷ []) (before_root (0 ∷ [])) (left_is_before 0 1 [] [] (omega arith)) (in_part 0 (pair_of single single) (left_of_pair single single))

first_of : (rules : Rules) (from to : List ℕ) (p q : Plan) (a : List ℕ) → WalksTo rules from p (step_at a ∷ []) to q → (mid : Plan) × IsWalkStep rules from (step_at a) p mid
unfolding WalksTo
first_of rules from to p q a (mid, first, rest) = (mid, first)

not_the_first : (k : ℕ) → N.DistinctOverDistinct ≡ choosing.name_of k → IsNext choosing [] single k [] → ⊥
not_the_first zero name n = absurd cc
not_the_first (suc k) name n = n.first 0 (omega arith) (single, at_root single, (bare, (refl, refl)))

pub second_rule : SecondRuleFirst → ⊥
second_rule w = let step = (first_of choosing [] w.at single double [] w.walks).1 in not_the_first step.rule step.name step.next
