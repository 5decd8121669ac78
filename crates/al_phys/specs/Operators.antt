-- What a physical plan consists of: its operators, what it scans, what is live, and what is made.
use Rattle.std.specs.Prelude.{Bool, true, false, List, [], ◌∷◌, ◌++◌, map, Option, Some, None}
use Rattle.al_plan.specs.declared.expr.Var.{Var}
use Rattle.al_plan.specs.Allows.{live}
use Rattle.al_plan.specs.Refines.{Scan, scans, makes}
use Rattle.al_phys.specs.declared.phys.Phys.{Phys, fold-Phys, rec-Phys, map-Phys, roll-Phys}
use Rattle.al_phys.specs.declared.phys.Phys.TheOpen.{Phys-F}
use Rattle.al_phys.specs.declared.phys.Phys.TheOpen as P

-- the live variables, in order; those of a nested plan, whose root is an aggregate, do not hang on the outer row's. The row
-- of partial states of an agg-part has none
abbrev pub live_step : Phys-F (List Var) → List Var
live_step (P.Scan set vars) = vars
live_step P.One = []
live_step (P.Assign made p) = p ++ map (λ m. m.0) made
live_step (P.Select c p) = p
live_step (P.Project vars p) = vars
live_step (P.Unnest v g p) = p ++ v ∷ []
live_step (P.Subplan n p) = p ++ live n []
live_step (P.Check name c p) = p
live_step (P.Join form c l r) = l ++ r
live_step (P.HashGroup keys n p) = map (λ k. k.0) keys ++ live n []
live_step (P.PreGroup keys n p) = map (λ k. k.0) keys ++ live n []
live_step (P.HashDistinct p) = p
live_step (P.AggPart made p) = []
live_step (P.AggFinal made p) = map (λ m. m.0) made
live_step (P.Union made ls rs l r) = made
live_step (P.Sort keys p) = p
live_step (P.Limit n k p) = p
live_step (P.LocalLimit n p) = p
live_step (P.Result vars p) = vars
live_step (P.HashExchange vars p) = p
live_step (P.Broadcast p) = p
live_step (P.Gather p) = p
live_step (P.Merge keys p) = p

unfoldable pub phys_live : Phys → List Var
phys_live = fold-Phys (List Var) live_step

-- the datasets that are scanned, each with its variables; a nested plan may scan none
abbrev pub scans_step : Phys-F (List Scan) → List Scan
scans_step (P.Scan set vars) = (set, vars) ∷ []
scans_step P.One = []
scans_step (P.Assign made p) = p
scans_step (P.Select c p) = p
scans_step (P.Project vars p) = p
scans_step (P.Unnest v g p) = p
scans_step (P.Subplan n p) = p ++ scans n
scans_step (P.Check name c p) = p
scans_step (P.Join form c l r) = l ++ r
scans_step (P.HashGroup keys n p) = p ++ scans n
scans_step (P.PreGroup keys n p) = p ++ scans n
scans_step (P.HashDistinct p) = p
scans_step (P.AggPart made p) = p
scans_step (P.AggFinal made p) = p
scans_step (P.Union made ls rs l r) = l ++ r
scans_step (P.Sort keys p) = p
scans_step (P.Limit n k p) = p
scans_step (P.LocalLimit n p) = p
scans_step (P.Result vars p) = p
scans_step (P.HashExchange vars p) = p
scans_step (P.Broadcast p) = p
scans_step (P.Gather p) = p
scans_step (P.Merge keys p) = p

unfoldable pub phys_scans : Phys → List Scan
phys_scans = fold-Phys (List Scan) scans_step

-- the variables that are made; an agg-part makes none
abbrev pub makes_step : Phys-F (List Var) → List Var
makes_step (P.Scan set vars) = vars
makes_step P.One = []
makes_step (P.Assign made p) = p ++ map (λ m. m.0) made
makes_step (P.Select c p) = p
makes_step (P.Project vars p) = p
makes_step (P.Unnest v g p) = p ++ v ∷ []
makes_step (P.Subplan n p) = p ++ makes n
makes_step (P.Check name c p) = p
makes_step (P.Join form c l r) = l ++ r
makes_step (P.HashGroup keys n p) = p ++ (makes n ++ map (λ k. k.0) keys)
makes_step (P.PreGroup keys n p) = p ++ (makes n ++ map (λ k. k.0) keys)
makes_step (P.HashDistinct p) = p
makes_step (P.AggPart made p) = p
makes_step (P.AggFinal made p) = p ++ map (λ m. m.0) made
makes_step (P.Union made ls rs l r) = l ++ (r ++ made)
makes_step (P.Sort keys p) = p
makes_step (P.Limit n k p) = p
makes_step (P.LocalLimit n p) = p
makes_step (P.Result vars p) = p
makes_step (P.HashExchange vars p) = p
makes_step (P.Broadcast p) = p
makes_step (P.Gather p) = p
makes_step (P.Merge keys p) = p

unfoldable pub phys_makes : Phys → List Var
phys_makes = fold-Phys (List Var) makes_step

-- the list of a result, and none for another operator
abbrev pub result_step : Phys-F (Option (List Var)) → Option (List Var)
result_step (P.Result vars p) = Some vars
result_step _ = None

unfoldable pub phys_result : Phys → Option (List Var)
phys_result = fold-Phys (Option (List Var)) result_step

-- whether the root is an exchange; a merge is none, since it belongs to the sort below it
abbrev pub exchange_step : Phys-F Bool → Bool
exchange_step (P.HashExchange vars p) = true
exchange_step (P.Broadcast p) = true
exchange_step (P.Gather p) = true
exchange_step _ = false

unfoldable pub is_exchange : Phys → Bool
is_exchange = fold-Phys Bool exchange_step

-- what stands below an operator, given for each of its inputs
abbrev pub below : {A : Type 0} → Phys-F (List A) → List A
below (P.Scan set vars) = []
below P.One = []
below (P.Assign made p) = p
below (P.Select c p) = p
below (P.Project vars p) = p
below (P.Unnest v g p) = p
below (P.Subplan n p) = p
below (P.Check name c p) = p
below (P.Join form c l r) = l ++ r
below (P.HashGroup keys n p) = p
below (P.PreGroup keys n p) = p
below (P.HashDistinct p) = p
below (P.AggPart made p) = p
below (P.AggFinal made p) = p
below (P.Union made ls rs l r) = l ++ r
below (P.Sort keys p) = p
below (P.Limit n k p) = p
below (P.LocalLimit n p) = p
below (P.Result vars p) = p
below (P.HashExchange vars p) = p
below (P.Broadcast p) = p
below (P.Gather p) = p
below (P.Merge keys p) = p

-- a list of plans, where a recursion over plans asks for a type of types
pub record Listed : Type 1 where
  pub list : List Phys

-- an operator, and the operators below it
abbrev pub operators_step : (X : Type 0) → (X → Phys) → (X → Listed) → Phys-F X → Listed
operators_step X plan listed x = record { list = roll-Phys (map-Phys X Phys plan x) ∷ below (map-Phys X (List Phys) (λ s. (listed s).list) x) }

unfoldable pub listed : Phys → Listed
listed = rec-Phys Listed operators_step

-- the operators of a physical plan outside its nested plans, each with what stands below it: the parts of the plan
abbrev pub operators : Phys → List Phys
operators p = (listed p).list
