-- What a plan is, operator by operator, in terms of its inputs.
use Rattle.std.proofs.Common.{◌≡◌, ℕ, suc, ◌+◌, Bool, true, List, [], ◌++◌, map, refl, ap, sym, ◌∙◌, append_assoc}
use Rattle.std.proofs.lemmas.List.{append-nil}
use Rattle.al_plan.specs.declared.expr.Var.{Var}
use Rattle.al_plan.specs.declared.plan.Plan.{Plan, roll-Plan, out-Plan, map-Plan, fold-roll-Plan, rec-roll-Plan}
use Rattle.al_plan.specs.declared.plan.Plan.TheOpen as L
use Rattle.al_plan.specs.Allows.{live}
use Rattle.al_plan.specs.Refines.{makes}
use Rattle.al_plan.specs.Accept.{Site, Listed, listed, sites, sites_step, at_site, size, size_step, made_by}
use Rattle.al_plan.proofs.PlanLaws.{makes-roll}
use Rattle.al_plan.proofs.Mono.{live_is}
use Rattle.al_infer.specs.Inputs.{Leaf, One, Two, Nesting, parts, left_live, right_live, live_from, Sees, inner_makes, inner_size, inner_sites}
use Rattle.al_infer.proofs.Operators.{rolls-out}

natural : (X : Type 0) (up : X → Plan) (fn : Plan → Listed) (x : L.Plan-F X) → sites_step X up (λ p. fn (up p)) x ≡ sites_step Plan (λ p. p) fn (map-Plan X Plan up x)
natural X up fn (L.Scan set vars) = refl
natural X up fn L.Empty = refl
natural X up fn L.Nested = refl
natural X up fn (L.Assign made p) = refl
natural X up fn (L.Select c p) = refl
natural X up fn (L.Project vars p) = refl
natural X up fn (L.Unnest v its p) = refl
natural X up fn (L.Subplan n p) = refl
natural X up fn (L.Join c l r) = refl
natural X up fn (L.LeftJoin c l r) = refl
natural X up fn (L.Group keys n p) = refl
natural X up fn (L.Distinct p) = refl
natural X up fn (L.Union made ls rs l r) = refl
natural X up fn (L.Aggregate made p) = refl
natural X up fn (L.Order keys p) = refl
natural X up fn (L.Limit n k p) = refl
natural X up fn (L.Check name c p) = refl
natural X up fn (L.Result vars p) = refl

sites-roll : (x : L.Plan-F Plan) → listed (roll-Plan x) ≡ sites_step Plan (λ p. p) listed x
unfolding listed
sites-roll x = rec-roll-Plan Listed sites_step natural x

size-roll : (x : L.Plan-F Plan) → size (roll-Plan x) ≡ size_step (map-Plan Plan ℕ size x)
unfolding size
size-roll x = fold-roll-Plan ℕ size_step x

-- ---- the operators in the order of checking: those of the inputs, then the operator

alone : (number : ℕ) (inside : Bool) (given before : List Var) (x : L.Plan-F Plan) → at_site number inside given before x ≡ [] ++ at_site number inside given (before ++ []) x
alone number inside given before x = ap (λ b. at_site number inside given b x) (sym (append-nil before))

behind : (xs ys : List Site) (number : ℕ) (inside : Bool) (given before us vs : List Var) (x : L.Plan-F Plan)
    → xs ++ (ys ++ at_site number inside given ((before ++ us) ++ vs) x) ≡ (xs ++ ys) ++ at_site number inside given (before ++ (us ++ vs)) x
behind xs ys number inside given before us vs x =
    ap (λ b. xs ++ (ys ++ at_site number inside given b x)) (append_assoc before us vs) ∙ sym (append_assoc xs ys (at_site number inside given (before ++ (us ++ vs)) x))

layer_sites : (x : L.Plan-F Plan) (number : ℕ) (inside : Bool) (given before : List Var)
    → (sites_step Plan (λ p. p) listed x).list number inside given before ≡ inner_sites (parts x) number inside given before ++ at_site number inside given (before ++ inner_makes (parts x)) x
layer_sites (L.Scan set vars) number inside given before = alone number inside given before (L.Scan set vars)
layer_sites L.Empty number inside given before = alone number inside given before L.Empty
layer_sites L.Nested number inside given before = alone number inside given before L.Nested
layer_sites (L.Assign made p) number inside given before = refl
layer_sites (L.Select c p) number inside given before = refl
layer_sites (L.Project vars p) number inside given before = refl
layer_sites (L.Unnest v its p) number inside given before = refl
layer_sites (L.Subplan n p) number inside given before = behind (sites p (suc number + size n) inside given before) (sites n (suc number) true (live p given) (before ++ makes p)) number inside given before (makes p) (makes n) (L.Subplan n p)
layer_sites (L.Join c l r) number inside given before = behind (sites l (suc number) inside given before) (sites r (suc number + size l) inside given (before ++ makes l)) number inside given before (makes l) (makes r) (L.Join c l r)
layer_sites (L.LeftJoin c l r) number inside given before = behind (sites l (suc number) inside given before) (sites r (suc number + size l) inside given (before ++ makes l)) number inside given before (makes l) (makes r) (L.LeftJoin c l r)
layer_sites (L.Group keys n p) number inside given before = behind (sites p (suc number + size n) inside given before) (sites n (suc number) true (live p given) (before ++ makes p)) number inside given before (makes p) (makes n) (L.Group keys n p)
layer_sites (L.Distinct p) number inside given before = refl
layer_sites (L.Union made ls rs l r) number inside given before = behind (sites l (suc number) inside given before) (sites r (suc number + size l) inside given (before ++ makes l)) number inside given before (makes l) (makes r) (L.Union made ls rs l r)
layer_sites (L.Aggregate made p) number inside given before = refl
layer_sites (L.Order keys p) number inside given before = refl
layer_sites (L.Limit n k p) number inside given before = refl
layer_sites (L.Check name c p) number inside given before = refl
layer_sites (L.Result vars p) number inside given before = refl

pub rolled_sites : (x : L.Plan-F Plan) (number : ℕ) (inside : Bool) (given before : List Var)
    → sites (roll-Plan x) number inside given before ≡ inner_sites (parts x) number inside given before ++ at_site number inside given (before ++ inner_makes (parts x)) x
rolled_sites x number inside given before = ap (λ (s : Listed). s.list number inside given before) (sites-roll x) ∙ layer_sites x number inside given before

pub sites_by : (p : Plan) (number : ℕ) (inside : Bool) (given before : List Var)
    → sites p number inside given before ≡ inner_sites (parts (out-Plan p)) number inside given before ++ at_site number inside given (before ++ inner_makes (parts (out-Plan p))) (out-Plan p)
sites_by p number inside given before = ap (λ (q : Plan). sites q number inside given before) (sym (rolls-out p)) ∙ rolled_sites (out-Plan p) number inside given before

-- ---- how many operators there are

layer_size : (x : L.Plan-F Plan) → size_step (map-Plan Plan ℕ size x) ≡ suc (inner_size (parts x))
layer_size (L.Scan set vars) = refl
layer_size L.Empty = refl
layer_size L.Nested = refl
layer_size (L.Assign made p) = refl
layer_size (L.Select c p) = refl
layer_size (L.Project vars p) = refl
layer_size (L.Unnest v its p) = refl
layer_size (L.Subplan n p) = refl
layer_size (L.Join c l r) = refl
layer_size (L.LeftJoin c l r) = refl
layer_size (L.Group keys n p) = refl
layer_size (L.Distinct p) = refl
layer_size (L.Union made ls rs l r) = refl
layer_size (L.Aggregate made p) = refl
layer_size (L.Order keys p) = refl
layer_size (L.Limit n k p) = refl
layer_size (L.Check name c p) = refl
layer_size (L.Result vars p) = refl

pub size_by : (p : Plan) → size p ≡ suc (inner_size (parts (out-Plan p)))
size_by p = ap size (sym (rolls-out p)) ∙ size-roll (out-Plan p) ∙ layer_size (out-Plan p)

module _ (p : Plan) where
  pub size_one : (q : Plan) → One q ≡ parts (out-Plan p) → size p ≡ suc (size q)
  size_one q e = size_by p ∙ ap (λ x. suc (inner_size x)) (sym e)

  pub size_two : (l r : Plan) → Two l r ≡ parts (out-Plan p) → size p ≡ suc (size l + size r)
  size_two l r e = size_by p ∙ ap (λ x. suc (inner_size x)) (sym e)

  pub size_nesting : (n q : Plan) → Nesting n q ≡ parts (out-Plan p) → size p ≡ suc (size n + size q)
  size_nesting n q e = size_by p ∙ ap (λ x. suc (inner_size x)) (sym e)

  pub size_leaf : Leaf ≡ parts (out-Plan p) → size p ≡ 1
  size_leaf e = size_by p ∙ ap (λ x. suc (inner_size x)) (sym e)

-- ---- the variables that are made

pub layer_makes : (x : L.Plan-F Plan) → makes (roll-Plan x) ≡ inner_makes (parts x) ++ made_by x
layer_makes (L.Scan set vars) = makes-roll (L.Scan set vars)
layer_makes L.Empty = makes-roll L.Empty
layer_makes L.Nested = makes-roll L.Nested
layer_makes (L.Assign made p) = makes-roll (L.Assign made p)
layer_makes (L.Select c p) = makes-roll (L.Select c p) ∙ sym (append-nil (makes p))
layer_makes (L.Project vars p) = makes-roll (L.Project vars p) ∙ sym (append-nil (makes p))
layer_makes (L.Unnest v its p) = makes-roll (L.Unnest v its p)
layer_makes (L.Subplan n p) = makes-roll (L.Subplan n p) ∙ sym (append-nil (makes p ++ makes n))
layer_makes (L.Join c l r) = makes-roll (L.Join c l r) ∙ sym (append-nil (makes l ++ makes r))
layer_makes (L.LeftJoin c l r) = makes-roll (L.LeftJoin c l r) ∙ sym (append-nil (makes l ++ makes r))
layer_makes (L.Group keys n p) = makes-roll (L.Group keys n p) ∙ sym (append_assoc (makes p) (makes n) (map (λ k. k.0) keys))
layer_makes (L.Distinct p) = makes-roll (L.Distinct p) ∙ sym (append-nil (makes p))
layer_makes (L.Union made ls rs l r) = makes-roll (L.Union made ls rs l r) ∙ sym (append_assoc (makes l) (makes r) made)
layer_makes (L.Aggregate made p) = makes-roll (L.Aggregate made p)
layer_makes (L.Order keys p) = makes-roll (L.Order keys p) ∙ sym (append-nil (makes p))
layer_makes (L.Limit n k p) = makes-roll (L.Limit n k p) ∙ sym (append-nil (makes p))
layer_makes (L.Check name c p) = makes-roll (L.Check name c p) ∙ sym (append-nil (makes p))
layer_makes (L.Result vars p) = makes-roll (L.Result vars p) ∙ sym (append-nil (makes p))

pub makes_by : (p : Plan) → makes p ≡ inner_makes (parts (out-Plan p)) ++ made_by (out-Plan p)
makes_by p = ap makes (sym (rolls-out p)) ∙ layer_makes (out-Plan p)

-- ---- the live variables

layer_live : (x : L.Plan-F Plan) (given : List Var) → live (roll-Plan x) given ≡ live_from given (left_live given (parts x)) (right_live given (parts x)) x
layer_live (L.Scan set vars) given = live_is (L.Scan set vars) given
layer_live L.Empty given = live_is L.Empty given
layer_live L.Nested given = live_is L.Nested given
layer_live (L.Assign made p) given = live_is (L.Assign made p) given
layer_live (L.Select c p) given = live_is (L.Select c p) given
layer_live (L.Project vars p) given = live_is (L.Project vars p) given
layer_live (L.Unnest v its p) given = live_is (L.Unnest v its p) given
layer_live (L.Subplan n p) given = live_is (L.Subplan n p) given
layer_live (L.Join c l r) given = live_is (L.Join c l r) given
layer_live (L.LeftJoin c l r) given = live_is (L.LeftJoin c l r) given
layer_live (L.Group keys n p) given = live_is (L.Group keys n p) given
layer_live (L.Distinct p) given = live_is (L.Distinct p) given
layer_live (L.Union made ls rs l r) given = live_is (L.Union made ls rs l r) given
layer_live (L.Aggregate made p) given = live_is (L.Aggregate made p) given
layer_live (L.Order keys p) given = live_is (L.Order keys p) given
layer_live (L.Limit n k p) given = live_is (L.Limit n k p) given
layer_live (L.Check name c p) given = live_is (L.Check name c p) given
layer_live (L.Result vars p) given = live_is (L.Result vars p) given

pub live_by : (p : Plan) (given left right : List Var) → Sees given (out-Plan p) left right → live p given ≡ live_from given left right (out-Plan p)
live_by p given left right s =
    ap (λ (q : Plan). live q given) (sym (rolls-out p)) ∙ layer_live (out-Plan p) given
    ∙ (λ i. live_from given (sym s.on_left i) (sym s.on_right i) (out-Plan p))
