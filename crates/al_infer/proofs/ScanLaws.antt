-- The scans of an accepted file are of its datasets.
use Rattle.std.proofs.Common.{◌≡◌, ℕ, suc, ◌+◌, Bool, true, false, List, [], ◌∷◌, ◌++◌, length, Option, Some, None, refl, sym, subst}
use Rattle.std.specs.List.{AllByRecursion, All}
use Rattle.std.proofs.lemmas.List.Elements.{All-from_recursion}
use Rattle.al_csv.specs.declared.decl.Decl.{Decl}
use Rattle.al_plan.specs.declared.expr.Var.{Var}
use Rattle.al_plan.specs.declared.file.PlanFile.{PlanFile}
use Rattle.al_plan.specs.declared.plan.Plan.{Plan, map-Plan, roll-Plan, ind-Plan}
use Rattle.al_plan.specs.declared.plan.Plan.TheOpen as L
use Rattle.al_plan.specs.Allows.{live}
use Rattle.al_plan.specs.Refines.{Scan, scans, makes}
use Rattle.al_plan.specs.Accept.{KeepsRules, IsAccepted, sites, at_site, size, declared, is_some, has_columns}
use Rattle.al_plan.proofs.PlanLaws.{scans-roll}
use Rattle.al_plan.proofs.Bools.{no}
use Rattle.al_infer.specs.Inputs.{Parts, Leaf, One, Two, Nesting, parts, inner_makes, inner_sites}
use Rattle.al_infer.specs.Laws.{IsOfDataset}
use Rattle.al_infer.proofs.InputLaws.{rolled_sites}
use Rattle.al_infer.proofs.FitLaws.{both_left, all_left, all_right, same_length}

all_append : {X : Type 0} (P : X → Type 0) (xs ys : List X) → AllByRecursion P xs → AllByRecursion P ys → AllByRecursion P (xs ++ ys)
all_append P [] ys h g = g
all_append P (x ∷ xs) ys h g = (h.0, all_append P xs ys h.1 g)

of_dataset : (o : Option Decl) (n : ℕ) → is_some o ≡ true → has_columns o n ≡ true → (d : Decl) × (o ≡ Some d) × (n ≡ length d.columns)
of_dataset None n e h = absurd (no (sym e))
of_dataset (Some d) n e h = (d, refl, same_length n (length d.columns) h)

abbrev Of : List Decl → List Scan → Type 0
Of decls = AllByRecursion (IsOfDataset decls)

abbrev ScansIfKept : Plan → Type 0
ScansIfKept p = (decls : List Decl) (number : ℕ) (inside : Bool) (given before : List Var) → AllByRecursion (KeepsRules decls) (sites p number inside given before) → Of decls (scans p)

-- the scans of the inputs
abbrev inner_scans : Parts → List Scan
inner_scans Leaf = []
inner_scans (One p) = scans p
inner_scans (Two l r) = scans l ++ scans r
inner_scans (Nesting n p) = scans p ++ scans n

abbrev AllClaims : Parts → Type 0
AllClaims Leaf = Unit {0}
AllClaims (One p) = ScansIfKept p
AllClaims (Two l r) = ScansIfKept l × ScansIfKept r
AllClaims (Nesting n p) = ScansIfKept n × ScansIfKept p

inner_of : (decls : List Decl) (number : ℕ) (inside : Bool) (given before : List Var) (ps : Parts) → AllClaims ps → AllByRecursion (KeepsRules decls) (inner_sites ps number inside given before) → Of decls (inner_scans ps)
inner_of decls number inside given before Leaf c h = tt
inner_of decls number inside given before (One p) c h = c decls (suc number) inside given before h
inner_of decls number inside given before (Two l r) c h =
    let first = sites l (suc number) inside given before in
    let second = sites r (suc number + size l) inside given (before ++ makes l) in
    all_append (IsOfDataset decls) (scans l) (scans r)
    (c.0 decls (suc number) inside given before (all_left (KeepsRules decls) first second h))
    (c.1 decls (suc number + size l) inside given (before ++ makes l) (all_right (KeepsRules decls) first second h))
inner_of decls number inside given before (Nesting n p) c h =
    let first = sites p (suc number + size n) inside given before in
    let second = sites n (suc number) true (live p given) (before ++ makes p) in
    all_append (IsOfDataset decls) (scans p) (scans n)
    (c.1 decls (suc number + size n) inside given before (all_left (KeepsRules decls) first second h))
    (c.0 decls (suc number) true (live p given) (before ++ makes p) (all_right (KeepsRules decls) first second h))

module _ (decls : List Decl) (number : ℕ) (inside : Bool) (given before : List Var) where
  abbrev Rules : L.Plan-F Plan → Type 0
  Rules x = KeepsRules decls (record { number = number; inside = inside; given = given; before = before; op = x })

  layer_of : (x : L.Plan-F Plan) → Rules x → Of decls (inner_scans (parts x)) → Of decls (scans (roll-Plan x))
  layer_of (L.Scan set vars) k i = subst (Of decls) (sym (scans-roll (L.Scan set vars))) (of_dataset (declared decls set) (length vars) k.known (both_left (has_columns (declared decls set) (length vars)) true k.filled), tt)
  layer_of L.Empty k i = subst (Of decls) (sym (scans-roll L.Empty)) i
  layer_of L.Nested k i = subst (Of decls) (sym (scans-roll L.Nested)) i
  layer_of (L.Assign made p) k i = subst (Of decls) (sym (scans-roll (L.Assign made p))) i
  layer_of (L.Select c p) k i = subst (Of decls) (sym (scans-roll (L.Select c p))) i
  layer_of (L.Project vars p) k i = subst (Of decls) (sym (scans-roll (L.Project vars p))) i
  layer_of (L.Unnest v its p) k i = subst (Of decls) (sym (scans-roll (L.Unnest v its p))) i
  layer_of (L.Subplan n p) k i = subst (Of decls) (sym (scans-roll (L.Subplan n p))) i
  layer_of (L.Join c l r) k i = subst (Of decls) (sym (scans-roll (L.Join c l r))) i
  layer_of (L.LeftJoin c l r) k i = subst (Of decls) (sym (scans-roll (L.LeftJoin c l r))) i
  layer_of (L.Group keys n p) k i = subst (Of decls) (sym (scans-roll (L.Group keys n p))) i
  layer_of (L.Distinct p) k i = subst (Of decls) (sym (scans-roll (L.Distinct p))) i
  layer_of (L.Union made ls rs l r) k i = subst (Of decls) (sym (scans-roll (L.Union made ls rs l r))) i
  layer_of (L.Aggregate made p) k i = subst (Of decls) (sym (scans-roll (L.Aggregate made p))) i
  layer_of (L.Order keys p) k i = subst (Of decls) (sym (scans-roll (L.Order keys p))) i
  layer_of (L.Limit n m p) k i = subst (Of decls) (sym (scans-roll (L.Limit n m p))) i
  layer_of (L.Check name c p) k i = subst (Of decls) (sym (scans-roll (L.Check name c p))) i
  layer_of (L.Result vars p) k i = subst (Of decls) (sym (scans-roll (L.Result vars p))) i

claims : {S : Type 0} (up : S → Plan) → ((s : S) → ScansIfKept (up s)) → (y : L.Plan-F S) → AllClaims (parts (map-Plan S Plan up y))
claims up ih (L.Scan set vars) = tt
claims up ih L.Empty = tt
claims up ih L.Nested = tt
claims up ih (L.Assign made p) = ih p
claims up ih (L.Select c p) = ih p
claims up ih (L.Project vars p) = ih p
claims up ih (L.Unnest v its p) = ih p
claims up ih (L.Subplan n p) = (ih n, ih p)
claims up ih (L.Join c l r) = (ih l, ih r)
claims up ih (L.LeftJoin c l r) = (ih l, ih r)
claims up ih (L.Group keys n p) = (ih n, ih p)
claims up ih (L.Distinct p) = ih p
claims up ih (L.Union made ls rs l r) = (ih l, ih r)
claims up ih (L.Aggregate made p) = ih p
claims up ih (L.Order keys p) = ih p
claims up ih (L.Limit n k p) = ih p
claims up ih (L.Check name c p) = ih p
claims up ih (L.Result vars p) = ih p

layer_claim : {S : Type 0} (up : S → Plan) → ((s : S) → ScansIfKept (up s)) → (y : L.Plan-F S) → ScansIfKept (roll-Plan (map-Plan S Plan up y))
layer_claim {S} up ih y decls number inside given before h =
    let x = map-Plan S Plan up y in
    let first = inner_sites (parts x) number inside given before in
    let made = before ++ inner_makes (parts x) in
    let own = at_site number inside given made x in
    let all : AllByRecursion (KeepsRules decls) (first ++ own) = subst (AllByRecursion (KeepsRules decls)) (rolled_sites x number inside given before) h in
    layer_of decls number inside given made x (all_right (KeepsRules decls) first own all).0 (inner_of decls number inside given before (parts x) (claims up ih y) (all_left (KeepsRules decls) first own all))

scans_if_kept : (p : Plan) → ScansIfKept p
scans_if_kept = ind-Plan ScansIfKept (λ x y e. subst (λ (z : L.Plan-F Plan). ScansIfKept (roll-Plan z)) e (layer_claim (λ s. s.0) (λ s. s.1) y))

pub accepted_scans : (f : PlanFile) → IsAccepted f → All (IsOfDataset f.datasets) (scans f.root)
accepted_scans f h = All-from_recursion (IsOfDataset f.datasets) (scans f.root) (scans_if_kept f.root f.datasets 0 false [] [] h.operators)
