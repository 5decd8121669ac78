-- What a walk finds, and what a rewriting at its place leaves as it was.
use Rattle.std.proofs.Common.{◌≡◌, ◌⊎◌, inl, inr, ◌<◌, ℕ, zero, suc, List, [], ◌∷◌, ◌++◌, length, reverse, Option, Some, None, Result, Ok, Err, IfOk, refl, ap, sym, subst, ◌∙◌, arith}
use Rattle.std.proofs.lemmas.Bool.{cases_order}
use Rattle.std.proofs.lemmas.List.{reverse-append}
use Rattle.al_plan.specs.declared.plan.Plan.{Plan}
use Rattle.al_rule.specs.declared.find.Found.{Found}
use Rattle.al_rule.specs.Places.{Rewriting, input, with_input, plan_at, and_then, Applied}
use Rattle.al_rule.specs.declared.rule.ApplyFault.{ApplyFault}
use Rattle.al_rule.specs.declared.rule.ApplyFault.TheVariants.{NoMemory}
use Rattle.al_rule.specs.Rules.{Rules, Matches, HandsBack, Stuck, IsLocal, under}
use Rattle.al_rule.specs.Walks.{NoneHere, NoneBefore, NoneFrom, MatchesAt, IsBefore, IsNext, Finds, FindsIn}
use Rattle.al_rule.proofs.PlaceLaws.{no_third, input_with, input_beside, with_same, with_twice}

-- ---- the part at a place

pub ok_more : {X E : Type 0} (P Q : X → Type 0) (r : Result X E) → ((x : X) → P x → Q x) → IfOk r P → IfOk r Q
ok_more P Q (Ok x) f h = f x h
ok_more P Q (Err e) f h = h

bound : (o : Option Plan) (f : Plan → Option Plan) (x : Plan) → and_then o f ≡ Some x → (z : Plan) × (o ≡ Some z) × (f z ≡ Some x)
bound None f x e = absurd cc
bound (Some z) f x e = (z, refl, e)

pub part_below : (i : ℕ) (place : List ℕ) (p x : Plan) → plan_at (i ∷ place) p ≡ Some x → (z : Plan) × (input p i ≡ Some z) × (plan_at place z ≡ Some x)
unfolding plan_at
part_below i place p x e = bound (input p i) (plan_at place) x e

pub part_above : (i : ℕ) (place : List ℕ) (p z x : Plan) → input p i ≡ Some z → plan_at place z ≡ Some x → plan_at (i ∷ place) p ≡ Some x
unfolding plan_at
part_above i place p z x h e = ap (λ (o : Option Plan). and_then o (plan_at place)) h ∙ e

pub one_input : (p : Plan) (i : ℕ) (x y : Plan) → input p i ≡ Some x → input p i ≡ Some y → x ≡ y
one_input p i x y e h = cc

pub at_root : (p : Plan) → plan_at [] p ≡ Some p
unfolding plan_at
at_root p = refl

pub matches_below : (R : Rewriting) (i : ℕ) (place : List ℕ) (p x : Plan) → input p i ≡ Some x → MatchesAt R (i ∷ place) p → MatchesAt R place x
matches_below R i place p x here (y, at_place, m) =
    let (z, there, behind) = part_below i place p y at_place in
    (y, subst (λ (q : Plan). plan_at place q ≡ Some y) (one_input p i z x there here) behind, m)

pub none_of : (xs : List ℕ) → length xs ≡ 0 → xs ≡ []
none_of [] e = refl
none_of (x ∷ xs) e = absurd (omega arith)

pub no_more : (p : Plan) (i : ℕ) → (i ≡ zero → ⊥) → (i ≡ suc zero → ⊥) → input p i ≡ None
no_more p zero f s = absurd (f refl)
no_more p (suc zero) f s = absurd (s refl)
no_more p (suc (suc i)) f s = no_third p i

-- ---- a rule applied below the root

-- what holds of an outcome goes up to the whole
ok_under : (P Q : Plan → Type 0) (whole : Plan → Plan) → ((q : Plan) → P q → Q (whole q)) → (r : Result Plan ApplyFault) → IfOk r P → IfOk (under whole r) Q
ok_under P Q whole up (Ok q) h = up q h
ok_under P Q whole up (Err (NoMemory q)) h = h

back_under : (whole : Plan → Plan) (p part : Plan) → whole part ≡ p → (r : Result Plan ApplyFault) → HandsBack part r → HandsBack p (under whole r)
back_under whole p part is (Ok q) h = tt
back_under whole p part is (Err (NoMemory q)) h =
    let same : q ≡ part = cc in
    ap (λ (x : Plan). NoMemory x) (ap whole same ∙ is)

-- the parts of a plan whose input at a place was taken out, and what stands there
record Opened (i : ℕ) (p spare rest part : Plan) (R : Rewriting) (below : List ℕ) : Type 0 where
  here : input p i ≡ Some part
  there : input rest i ≡ Some spare
  whole : (q : Plan) → with_input rest i q ≡ with_input p i q
  back : with_input rest i part ≡ p
  matches : MatchesAt R below part

opened : (R : Rewriting) (i : ℕ) (below place : List ℕ) (p spare rest part : Plan)
    → place ≡ i ∷ below
    → ((x : Plan) → input p i ≡ Some x → (rest ≡ with_input p i spare) × (part ≡ x))
    → MatchesAt R place p → Opened i p spare rest part R below
opened R i below place p spare rest part is taken m =
    let (x, at_place, found) = subst (λ (l : List ℕ). MatchesAt R l p) is m in
    let (z, here, behind) = part_below i below p x at_place in
    let t = taken z here in
    let whole = λ (q : Plan). ap (λ (r : Plan). with_input r i q) t.0 ∙ with_twice p i z spare q here in
    record {
      here = here ∙ ap (λ (q : Plan). Some q) (sym t.1);
      there = ap (λ (q : Plan). input q i) t.0 ∙ input_with p i z spare here;
      whole = whole;
      back = whole part ∙ ap (λ (q : Plan). with_input p i q) t.1 ∙ with_same p i z here;
      matches = (x, subst (λ (q : Plan). plan_at below q ≡ Some x) (sym t.1) behind, found);
    }

applied_above : (R : Rewriting) (i : ℕ) (below : List ℕ) (p x y q : Plan) → input p i ≡ Some x → Applied R below x y → q ≡ with_input p i y → Applied R (i ∷ below) p q
unfolding Applied
applied_above R i below p x y q here h is = (x, y, here, h, is)

root_matches : (R : Rewriting) (p x : Plan) → plan_at [] p ≡ Some x → Matches R x → Matches R p
unfolding plan_at
root_matches R p x e m = let same : p ≡ x = cc in subst (Matches R) (sym same) m

applied_root : (R : Rewriting) (p q : Plan) → R p q → Applied R [] p q
unfolding Applied
applied_root R p q h = h

pub root_applied : {E : Type 0} (R : Rewriting) (place : List ℕ) (p : Plan) (r : Result Plan E) → place ≡ [] → (Matches R p → IfOk r (R p)) → MatchesAt R place p → IfOk r (Applied R place p)
root_applied R place p r is h (x, e, m) =
    let e_here : plan_at [] p ≡ Some x = subst (λ (l : List ℕ). plan_at l p ≡ Some x) is e in
    let m_here : Matches R p = root_matches R p x e_here m in
    ok_more (R p) (Applied R place p) r (λ q k. subst (λ (l : List ℕ). Applied R l p q) (sym is) (applied_root R p q k)) (h m_here)

pub part_applied : (R : Rewriting) (i : ℕ) (below place : List ℕ) (p spare rest part : Plan) (inner outer : Result Plan ApplyFault)
    → place ≡ i ∷ below
    → ((x : Plan) → input p i ≡ Some x → (rest ≡ with_input p i spare) × (part ≡ x))
    → (MatchesAt R below part → IfOk inner (λ q. Applied R below part q))
    → ((x : Plan) → input rest i ≡ Some x → outer ≡ under (with_input rest i) inner)
    → MatchesAt R place p → IfOk outer (λ q. Applied R place p q)
part_applied R i below place p spare rest part inner outer is taken applied put m =
    let o = opened R i below place p spare rest part is taken m in
    let up : (q : Plan) → Applied R below part q → Applied R place p (with_input rest i q) =
    λ q h. subst (λ (l : List ℕ). Applied R l p (with_input rest i q)) (sym is) (applied_above R i below p part q (with_input rest i q) o.here h (o.whole q)) in
    subst (λ (r : Result Plan ApplyFault). IfOk r (λ q. Applied R place p q)) (sym (put spare o.there))
    (ok_under (λ q. Applied R below part q) (λ q. Applied R place p q) (with_input rest i) up inner (applied o.matches))

pub part_handed_back : (R : Rewriting) (i : ℕ) (below place : List ℕ) (p spare rest part : Plan) (inner outer : Result Plan ApplyFault)
    → place ≡ i ∷ below
    → ((x : Plan) → input p i ≡ Some x → (rest ≡ with_input p i spare) × (part ≡ x))
    → (MatchesAt R below part → HandsBack part inner)
    → ((x : Plan) → input rest i ≡ Some x → outer ≡ under (with_input rest i) inner)
    → MatchesAt R place p → HandsBack p outer
part_handed_back R i below place p spare rest part inner outer is taken handed put m =
    let o = opened R i below place p spare rest part is taken m in
    subst (λ (r : Result Plan ApplyFault). HandsBack p r) (sym (put spare o.there)) (back_under (with_input rest i) p part o.back inner (handed o.matches))

-- ---- where nothing matches

pub none_at_root : (rules : Rules) (p : Plan) → NoneBefore rules [] p
unfolding NoneBefore
none_at_root rules p = tt

pub none_before : (rules : Rules) (i : ℕ) (place : List ℕ) (p : Plan) → NoneHere rules p → ((j : ℕ) → j < i → (x : Plan) → input p j ≡ Some x → Stuck rules x) → ((x : Plan) → input p i ≡ Some x → NoneBefore rules place x) → NoneBefore rules (i ∷ place) p
unfolding NoneBefore
none_before rules i place p here left below = (here, left, below)

pub root_before : (rules : Rules) (i : ℕ) (place : List ℕ) (p : Plan) → NoneBefore rules (i ∷ place) p → NoneHere rules p
unfolding NoneBefore
root_before rules i place p b = b.0

pub left_before : (rules : Rules) (i : ℕ) (place : List ℕ) (p : Plan) → NoneBefore rules (i ∷ place) p → (j : ℕ) → j < i → (x : Plan) → input p j ≡ Some x → Stuck rules x
unfolding NoneBefore
left_before rules i place p b = b.1

pub below_before : (rules : Rules) (i : ℕ) (place : List ℕ) (p : Plan) → NoneBefore rules (i ∷ place) p → (x : Plan) → input p i ≡ Some x → NoneBefore rules place x
unfolding NoneBefore
below_before rules i place p b = b.2

-- ---- the order of places

pub before_root : (place : List ℕ) → IsBefore place [] → ⊥
unfolding IsBefore
before_root place h = h

pub root_before_parts : (i : ℕ) (place : List ℕ) → IsBefore [] (i ∷ place)
unfolding IsBefore
root_before_parts i place = tt

pub left_is_before : (i j : ℕ) (place other : List ℕ) → i < j → IsBefore (i ∷ place) (j ∷ other)
unfolding IsBefore
left_is_before i j place other h = inl h

below_is_before : (i : ℕ) (place other : List ℕ) → IsBefore place other → IsBefore (i ∷ place) (i ∷ other)
unfolding IsBefore
below_is_before i place other h = inr (refl, h)

parted : (i j : ℕ) (place other : List ℕ) → IsBefore (i ∷ place) (j ∷ other) → (i < j) ⊎ ((i ≡ j) × IsBefore place other)
unfolding IsBefore
parted i j place other h = h

pub before_below : (i : ℕ) (place other : List ℕ) → IsBefore (i ∷ place) (i ∷ other) → IsBefore place other
before_below i place other h = below_at (parted i i place other h) where
  below_at : (i < i) ⊎ ((i ≡ i) × IsBefore place other) → IsBefore place other
  below_at (inl less) = absurd (omega arith)
  below_at (inr (same, b)) = b

before_or_below : (i : ℕ) (a b : List ℕ) → IsBefore a b ⊎ (IsBefore a b → ⊥) → IsBefore (i ∷ a) (i ∷ b) ⊎ (IsBefore (i ∷ a) (i ∷ b) → ⊥)
before_or_below i a b (inl h) = inl (below_is_before i a b h)
before_or_below i a b (inr f) = inr (λ h. f (before_below i a b h))

pub not_behind : (i j : ℕ) (a b : List ℕ) → j < i → IsBefore (i ∷ a) (j ∷ b) → ⊥
not_behind i j a b less h = behind_at (parted i j a b h) where
  behind_at : (i < j) ⊎ ((i ≡ j) × IsBefore a b) → ⊥
  behind_at (inl other) = omega arith
  behind_at (inr (same, h)) = omega arith

pub before_or_not : (a b : List ℕ) → IsBefore a b ⊎ (IsBefore a b → ⊥)
before_or_not a [] = inr (before_root a)
before_or_not [] (j ∷ b) = inl (root_before_parts j b)
before_or_not (i ∷ a) (j ∷ b) = by_order (cases_order i j) (before_or_not a b) where
  by_order : (i ≡ j) ⊎ ((i < j) ⊎ (j < i)) → IsBefore a b ⊎ (IsBefore a b → ⊥) → IsBefore (i ∷ a) (j ∷ b) ⊎ (IsBefore (i ∷ a) (j ∷ b) → ⊥)
  by_order (inl same) h = subst (λ (n : ℕ). IsBefore (i ∷ a) (n ∷ b) ⊎ (IsBefore (i ∷ a) (n ∷ b) → ⊥)) same (before_or_below i a b h)
  by_order (inr (inl less)) h = inl (left_is_before i j a b less)
  by_order (inr (inr more)) h = inr (not_behind i j a b more)

-- ---- where nothing matches before a place

pub none_at_before : (rules : Rules) (place : List ℕ) (p : Plan) → NoneBefore rules place p → (k : ℕ) → k < rules.count → (other : List ℕ) → IsBefore other place → MatchesAt (rules.rewrites k) other p → ⊥
none_at_before rules [] p b k low other h m = before_root other h
none_at_before rules (i ∷ place) p b k low [] h (x, e, m) = root_before rules i place p b k low (root_matches (rules.rewrites k) p x e m)
none_at_before rules (i ∷ place) p b k low (j ∷ other) h (x, e, m) =
    by_part (parted j i other place h) (part_below j other p x e) (λ z c g n. none_at_before rules place z c k low other g n) where
      by_part : (j < i) ⊎ ((j ≡ i) × IsBefore other place) → (z : Plan) × (input p j ≡ Some z) × (plan_at other z ≡ Some x)
          → ((z : Plan) → NoneBefore rules place z → IsBefore other place → MatchesAt (rules.rewrites k) other z → ⊥) → ⊥
      by_part (inl less) (z, jz, ez) below = left_before rules i place p b j less z jz k low other x ez m
      by_part (inr (same, g)) (z, jz, ez) below =
          let iz : input p i ≡ Some z = subst (λ (n : ℕ). input p n ≡ Some z) same jz in
          below z (below_before rules i place p b z iz) g (x, ez, m)

pub none_before_by : (rules : Rules) (place : List ℕ) (p : Plan) → ((k : ℕ) → k < rules.count → (other : List ℕ) → IsBefore other place → MatchesAt (rules.rewrites k) other p → ⊥) → NoneBefore rules place p
none_before_by rules [] p f = none_at_root rules p
none_before_by rules (i ∷ place) p f =
    none_before rules i place p
    (λ k low m. f k low [] (root_before_parts i place) (p, at_root p, m))
    (λ j less z e k low other x ez m. f k low (j ∷ other) (left_is_before j i other place less) (x, part_above j other p z x e ez, m))
    (λ z e. none_before_by rules place z (λ k low other h (x, ez, m). f k low (i ∷ other) (below_is_before i other place h) (x, part_above i other p z x e ez, m)))

-- where nothing matches before the place where a walk stands, nothing does before the next one
pub none_further : (rules : Rules) (from : List ℕ) (p : Plan) (k : ℕ) (place : List ℕ) → IsNext rules from p k place → NoneBefore rules from p → NoneBefore rules place p
none_further rules from p k place n b = none_before_by rules place p (λ j low other h m. by_order j low other h m (before_or_not other from)) where
  by_order : (j : ℕ) → j < rules.count → (other : List ℕ) → IsBefore other place → MatchesAt (rules.rewrites j) other p → IsBefore other from ⊎ (IsBefore other from → ⊥) → ⊥
  by_order j low other h m (inl g) = none_at_before rules from p b j low other g m
  by_order j low other h m (inr g) = n.nearest j low other g h m

-- where nothing matches before the place nor from it on, nothing matches
pub none_at_all : (rules : Rules) (from : List ℕ) (p : Plan) → NoneFrom rules from p → NoneBefore rules from p → Stuck rules p
none_at_all rules from p none b k low place x e m = by_order (before_or_not place from) where
  by_order : IsBefore place from ⊎ (IsBefore place from → ⊥) → ⊥
  by_order (inl g) = none_at_before rules from p b k low place g (x, e, m)
  by_order (inr g) = none k low place g (x, e, m)

-- ---- what is found

pub root_found : (rules : Rules) (from place : List ℕ) (p : Plan) (k : ℕ) → from ≡ [] → place ≡ [] → k < rules.count → Matches (rules.rewrites k) p → ((j : ℕ) → j < k → Matches (rules.rewrites j) p → ⊥) → IsNext rules from p k place
root_found rules from place p k from_is is low m first =
    let here : IsNext rules [] p k [] = record {
      known = low;
      matches = (p, at_root p, m);
      first = λ j less (x, e, n). first j less (root_matches (rules.rewrites j) p x e n);
      on = before_root [];
      nearest = λ j low other g h n. before_root other h;
    } in
    subst (λ (l : List ℕ). IsNext rules l p k place) (sym from_is) (subst (λ (l : List ℕ). IsNext rules [] p k l) (sym is) here)

-- what is no place before the first input is the root or none before it
none_past_root : (rules : Rules) (p : Plan) → NoneHere rules p → (j : ℕ) → j < rules.count → (other : List ℕ) → ((IsBefore other (zero ∷ []) → ⊥) → MatchesAt (rules.rewrites j) other p → ⊥) → MatchesAt (rules.rewrites j) other p → ⊥
none_past_root rules p here j low [] f (x, e, m) = here j low (root_matches (rules.rewrites j) p x e m)
none_past_root rules p here j low (i ∷ other) f m = f (λ h. past_at (parted i zero other [] h)) m where
  past_at : (i < zero) ⊎ ((i ≡ zero) × IsBefore other []) → ⊥
  past_at (inl less) = omega arith
  past_at (inr (same, h)) = before_root other h

-- past the root the walk goes on at the first input
past_root : (rules : Rules) (p : Plan) → NoneHere rules p → (r : Option Found) → Finds rules (zero ∷ []) p r → Finds rules [] p r
past_root rules p here None none = λ j low other g m. none_past_root rules p here j low other (λ past n. none j low other past n) m
past_root rules p here (Some f) n = record {
  known = n.known;
  matches = n.matches;
  first = n.first;
  on = before_root f.place.children;
  nearest = λ j low other g h m. none_past_root rules p here j low other (λ past k. n.nearest j low other past h k) m;
}

pub past_root_from : (rules : Rules) (from : List ℕ) (p : Plan) → from ≡ [] → NoneHere rules p → (r : Option Found) → Finds rules (zero ∷ from) p r → Finds rules from p r
past_root_from rules from p is here r h = subst (λ (l : List ℕ). Finds rules l p r) (sym is) (past_root rules p here r (subst (λ (l : List ℕ). Finds rules (zero ∷ l) p r) is h))

pub part_found : (rules : Rules) (i : ℕ) (from : List ℕ) (p part : Plan) → input p i ≡ Some part → Finds rules from part None → FindsIn rules i from p None
part_found rules i from p part here none x e =
    let same : part ≡ x = one_input p i part x here e in
    subst (NoneFrom rules from) same none

pub found_below : (rules : Rules) (i : ℕ) (from : List ℕ) (p part : Plan) (found f : Found) → input p i ≡ Some part → Finds rules from part (Some found) → f.rule ≡ found.rule → f.place.children ≡ i ∷ found.place.children → FindsIn rules i from p (Some f)
found_below rules i from p part found f here h rule_is place_is =
    (found.place.children, place_is, (part, here, subst (λ (k : ℕ). IsNext rules from part k found.place.children) (sym rule_is) h))

-- one number more at the end is one more at the front of the place turned round
pub turned_below : (i : ℕ) (below place : List ℕ) → place ≡ below ++ i ∷ [] → reverse place ≡ i ∷ reverse below
turned_below i below place is = ap (λ (l : List ℕ). reverse l) is ∙ reverse-append below (i ∷ [])

-- nothing matches in an input at a place that is not before this one there
none_in_part : (rules : Rules) (i : ℕ) (from other : List ℕ) (p : Plan) (k : ℕ) → k < rules.count → FindsIn rules i from p None → (IsBefore other from → ⊥) → MatchesAt (rules.rewrites k) (i ∷ other) p → ⊥
none_in_part rules i from other p k low none g (x, e, m) = let (z, iz, ez) = part_below i other p x e in none z iz k low other g (x, ez, m)

-- there is no input past the second
pub none_past_parts : (R : Rewriting) (i : ℕ) (other : List ℕ) (p : Plan) → MatchesAt R (suc (suc i) ∷ other) p → ⊥
none_past_parts R i other p (x, e, m) =
    let (z, iz, ez) = part_below (suc (suc i)) other p x e in
    let none : input p (suc (suc i)) ≡ None = no_third p i in
    absurd cc

-- what is found in the part is the next match of the whole, where nothing matches on the way to it
next_of_part : (rules : Rules) (i from_i : ℕ) (from rest part_from : List ℕ) (p x : Plan) (k : ℕ) → input p i ≡ Some x → IsNext rules part_from x k rest → (IsBefore (i ∷ rest) (from_i ∷ from) → ⊥)
    → ((j : ℕ) → j < rules.count → (other : List ℕ) → (IsBefore other (from_i ∷ from) → ⊥) → IsBefore other (i ∷ rest) → MatchesAt (rules.rewrites j) other p → ⊥)
    → IsNext rules (from_i ∷ from) p k (i ∷ rest)
next_of_part rules i from_i from rest part_from p x k here n on nearest =
    let (y, at_place, m) = n.matches in
    record {
      known = n.known;
      matches = (y, part_above i rest p x y here at_place, m);
      first = λ j less h. n.first j less (matches_below (rules.rewrites j) i rest p x here h);
      on = on;
      nearest = nearest;
    }

pub found_here : (rules : Rules) (i : ℕ) (from : List ℕ) (p : Plan) (f : Found) → FindsIn rules i from p (Some f) → Finds rules (i ∷ from) p (Some f)
found_here rules i from p f (rest, is, (x, here, n)) =
    subst (λ (place : List ℕ). IsNext rules (i ∷ from) p f.rule place) (sym is)
    (next_of_part rules i i from rest from p x f.rule here n (λ h. n.on (before_below i rest from h)) nearest) where
      nearest : (j : ℕ) → j < rules.count → (other : List ℕ) → (IsBefore other (i ∷ from) → ⊥) → IsBefore other (i ∷ rest) → MatchesAt (rules.rewrites j) other p → ⊥
      nearest j low [] g h m = g (root_before_parts i from)
      nearest j low (a ∷ other) g h m = by_part (parted a i other rest h) where
        by_part : (a < i) ⊎ ((a ≡ i) × IsBefore other rest) → ⊥
        by_part (inl less) = g (left_is_before a i other from less)
        by_part (inr (same, b)) =
            n.nearest j low other (λ c. g (subst (λ (l : ℕ). IsBefore (l ∷ other) (i ∷ from)) (sym same) (below_is_before i other from c))) b
            (matches_below (rules.rewrites j) i other p x here (subst (λ (l : ℕ). MatchesAt (rules.rewrites j) (l ∷ other) p) same m))

-- after the first input comes the second
none_in_first : (rules : Rules) (from other : List ℕ) (p : Plan) (j : ℕ) → j < rules.count → FindsIn rules zero from p None → (IsBefore (zero ∷ other) (zero ∷ from) → ⊥) → MatchesAt (rules.rewrites j) (zero ∷ other) p → ⊥
none_in_first rules from other p j low none g m = none_in_part rules zero from other p j low none (λ h. g (below_is_before zero other from h)) m

found_later : (rules : Rules) (from : List ℕ) (p : Plan) → FindsIn rules zero from p None → (r : Option Found) → FindsIn rules (suc zero) [] p r → Finds rules (zero ∷ from) p r
found_later rules from p first None second = none where
  none : NoneFrom rules (zero ∷ from) p
  none j low [] g m = g (root_before_parts zero from)
  none j low (zero ∷ other) g m = none_in_first rules from other p j low first g m
  none j low (suc zero ∷ other) g m = none_in_part rules (suc zero) [] other p j low second (before_root other) m
  none j low (suc (suc i) ∷ other) g m = none_past_parts (rules.rewrites j) i other p m
found_later rules from p first (Some f) (rest, is, (x, here, n)) =
    subst (λ (place : List ℕ). IsNext rules (zero ∷ from) p f.rule place) (sym is)
    (next_of_part rules (suc zero) zero from rest [] p x f.rule here n (not_behind (suc zero) zero rest from (omega arith)) nearest) where
      nearest : (j : ℕ) → j < rules.count → (other : List ℕ) → (IsBefore other (zero ∷ from) → ⊥) → IsBefore other (suc zero ∷ rest) → MatchesAt (rules.rewrites j) other p → ⊥
      nearest j low [] g h m = g (root_before_parts zero from)
      nearest j low (zero ∷ other) g h m = none_in_first rules from other p j low first g m
      nearest j low (suc zero ∷ other) g h m = n.nearest j low other (before_root other) (before_below (suc zero) other rest h) (matches_below (rules.rewrites j) (suc zero) other p x here m)
      nearest j low (suc (suc i) ∷ other) g h m = none_past_parts (rules.rewrites j) i other p m

pub later_from : (rules : Rules) (i : ℕ) (from : List ℕ) (p : Plan) → i ≡ zero → FindsIn rules i from p None → (r : Option Found) → FindsIn rules (suc zero) [] p r → Finds rules (i ∷ from) p r
later_from rules i from p is first r second =
    subst (λ (n : ℕ). Finds rules (n ∷ from) p r) (sym is) (found_later rules from p (subst (λ (n : ℕ). FindsIn rules n from p None) is first) r second)

-- behind a place in an input that is not the first there is nothing but the rest of that input
pub found_none : (rules : Rules) (i : ℕ) (from : List ℕ) (p : Plan) → (i ≡ zero → ⊥) → FindsIn rules i from p None → Finds rules (i ∷ from) p None
found_none rules i from p other h j low [] g m = g (root_before_parts i from)
found_none rules i from p other h j low (a ∷ place) g m = by_part (cases_order a i) where
  past : (a : ℕ) → i < a → MatchesAt (rules.rewrites j) (a ∷ place) p → ⊥
  past zero more n = absurd (omega arith)
  past (suc zero) more n = other (omega arith)
  past (suc (suc b)) more n = none_past_parts (rules.rewrites j) b place p n

  by_part : (a ≡ i) ⊎ ((a < i) ⊎ (i < a)) → ⊥
  by_part (inl same) = none_in_part rules i from place p j low h (λ b. g (subst (λ (l : ℕ). IsBefore (l ∷ place) (i ∷ from)) (sym same) (below_is_before i place from b))) (subst (λ (l : ℕ). MatchesAt (rules.rewrites j) (l ∷ place) p) same m)
  by_part (inr (inl less)) = g (left_is_before a i place from less)
  by_part (inr (inr more)) = past a more m

-- ---- a walk goes on at the place where a rule was applied

-- where matching doesn't hang on inputs, no rule matches anew before that place
pub still_none : (rules : Rules) → IsLocal rules → (R : Rewriting) (place : List ℕ) (p q : Plan) → Applied R place p q → NoneBefore rules place p → NoneBefore rules place q
unfolding Applied
still_none rules local R [] p q h b = none_at_root rules q
still_none rules local R (i ∷ place) p q (x, y, here, inner, q_is) b =
    let after : NoneBefore rules (i ∷ place) (with_input p i y) =
    none_before rules i place (with_input p i y)
    (λ k low m. root_before rules i place p b k low (local k low p x y i here m))
    (λ j below z e. left_before rules i place p b j below z (sym (input_beside p i x y j here (λ (s : j ≡ i). omega arith)) ∙ e))
    (λ z e. subst (NoneBefore rules place) (one_input (with_input p i y) i y z (input_with p i x y here) e) (still_none rules local R place x y inner (below_before rules i place p b x here))) in
    subst (NoneBefore rules (i ∷ place)) (sym q_is) after
