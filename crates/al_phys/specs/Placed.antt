-- Physical plans whose exchanges and sorts stand where they are needed, and nowhere else.
use Rattle.std.specs.Prelude.{◌≡◌, ◌⊎◌, ◌<◌, ◌^◌, ℕ, Bool, true, false, ◌&&◌, List, [], ◌++◌, map, take, length, None}
use Rattle.std.specs.List.{AllByRecursion}
use Rattle.al_plan.specs.declared.expr.Var.{Var}
use Rattle.al_plan.specs.declared.plan.OrderKey.{OrderKey}
use Rattle.al_plan.specs.declared.plan.Plan.{Plan, fold-Plan, out-Plan}
use Rattle.al_plan.specs.declared.plan.Plan.TheOpen.{Plan-F}
use Rattle.al_plan.specs.declared.plan.Plan.TheOpen as L
use Rattle.al_plan.specs.Names.{agg_exprs, item_exprs}
use Rattle.al_plan.specs.Accept.{are_among}
use Rattle.al_plan.specs.Uses.{firsts}
use Rattle.al_plan.specs.Refines.{IsOver, AreOver, AreLive, NoTwice, AtMost64, FitsEach, is_aggregate}
use Rattle.al_phys.specs.declared.property.Local.{Local}
use Rattle.al_phys.specs.declared.property.Local.TheVariants as O
use Rattle.al_phys.specs.declared.property.Need.{Need}
use Rattle.al_phys.specs.declared.property.Need.TheVariants as N
use Rattle.al_phys.specs.declared.phys.Phys.{Phys, out-Phys}
use Rattle.al_phys.specs.declared.phys.Phys.TheVariants as Q
use Rattle.al_phys.specs.declared.phys.Phys.TheOpen.{Phys-F}
use Rattle.al_phys.specs.declared.phys.Phys.TheOpen as P
use Rattle.al_phys.specs.Operators.{phys_live, phys_makes, phys_result, is_exchange, operators}
use Rattle.al_phys.specs.Properties.{meets, parts_of, order_of, required_step, old_of}

-- ---- nested plans, and groups

-- only assign, select, project and unnest over `nested`
abbrev pub row_wise_step : Plan-F Bool → Bool
row_wise_step L.Nested = true
row_wise_step (L.Assign made p) = p
row_wise_step (L.Select c p) = p
row_wise_step (L.Project vars p) = p
row_wise_step (L.Unnest v g p) = p
row_wise_step _ = false

unfoldable pub is_chain : Plan → Bool
is_chain = fold-Plan Bool row_wise_step

abbrev pub row_wise_root : Plan-F Plan → Bool
row_wise_root (L.Aggregate made p) = is_chain p
row_wise_root _ = false

-- an aggregate whose input works on each row alone
unfoldable pub is_row_wise : Plan → Bool
is_row_wise n = row_wise_root (out-Plan n)

abbrev pub keys_in : Local → List OrderKey
keys_in O.None = []
keys_in (O.Order keys) = keys

abbrev pub vars_of : List OrderKey → List Var
vars_of keys = map (λ k. k.var) keys

-- the variables of the first order keys, as many as there are different old keys
abbrev pub leading : List (Var × Var) → Local → List Var
leading keys order = vars_of (take (length (firsts (map (λ v. v.name) (old_of keys)))) (keys_in order))

-- whether the order begins with the old keys, in any order
abbrev pub is_grouped : List (Var × Var) → Local → Bool
is_grouped keys order = are_among (old_of keys) (leading keys order) && are_among (leading keys order) (old_of keys)

-- the old keys as an order, ascending
abbrev pub ascending : List (Var × Var) → List OrderKey
ascending keys = map (λ v. record { var = v; descending = false }) (old_of keys)

-- ---- exchanges

-- the exchange for a need, over this plan
abbrev pub IsExchange : Need → Phys → Phys → Type 0
IsExchange N.Any p q = ⊥
IsExchange N.One p q = p ≡ Q.Gather q
IsExchange (N.Keyed vars) p q = p ≡ Q.HashExchange vars q
IsExchange (N.Exactly vars) p q = p ≡ Q.HashExchange vars q
IsExchange N.All p q = p ≡ Q.Broadcast q

-- the input of an operator is this plan, where it meets the need, and else the need's exchange over it
abbrev pub IsMet : ℕ → Need → Phys → Phys → Type 0
IsMet n need p q =
    ((p ≡ q) × (meets (parts_of q n) need n ≡ true)) ⊎ (IsExchange need p q × (meets (parts_of q n) need n ≡ false))

-- a plan that stands for a logical one by itself: no exchange, not the first half of an aggregate, and a sort only where
-- its rows need no merge
abbrev pub whole_step : ℕ → Phys-F Phys → Type 0
whole_step n (P.HashExchange vars p) = ⊥
whole_step n (P.Broadcast p) = ⊥
whole_step n (P.Gather p) = ⊥
whole_step n (P.AggPart made p) = ⊥
whole_step n (P.Sort keys p) = (is_exchange p ≡ false) × (meets (parts_of p n) N.One n ≡ true)
whole_step n _ = Unit {0}

unfoldable pub IsWhole : ℕ → Phys → Type 0
IsWhole n p = whole_step n (out-Phys p)

-- an input that stands for a logical plan, with the need's exchange where it is needed
abbrev pub IsServed : ℕ → Need → Phys → Type 0
IsServed n need p = (q : Phys) × IsMet n need p q × IsWhole n q × (phys_result q ≡ None)

-- an input that is grouped by the keys, or sorted by them where what stands below is not grouped
abbrev pub IsGroupInput : ℕ → List (Var × Var) → Phys → Type 0
IsGroupInput n keys p =
    (IsServed n (N.Keyed (old_of keys)) p × (is_grouped keys (order_of p) ≡ true))
    ⊎ ((q : Phys) × (p ≡ Q.Sort (ascending keys) q) × IsServed n (N.Keyed (old_of keys)) q × (is_grouped keys (order_of q) ≡ false))

-- the input of a sort: as an operator that needs `Any` has it, or with the exchange of a group above the sort
abbrev pub IsSortInput : ℕ → Phys → Type 0
IsSortInput n p = IsServed n N.Any p ⊎ ((vars : List Var) × IsServed n (N.Keyed vars) p)

-- ---- each operator

-- a nested plan that may stand over these variables
abbrev pub IsInner : Plan → List Var → Type 0
IsInner inner vars = FitsEach inner true vars × (is_aggregate inner ≡ true)

-- an operator over its inputs: they serve its needs, and it names what is live there
abbrev pub laid_step : ℕ → Phys-F Phys → Type 0
laid_step n (P.Scan set vars) = Unit {0}
laid_step n P.One = Unit {0}
laid_step n (P.Assign made p) = IsServed n N.Any p × AreOver (phys_live p) (map (λ m. m.1) made)
laid_step n (P.Select c p) = IsServed n N.Any p × IsOver (phys_live p) c
laid_step n (P.Project vars p) = IsServed n N.Any p × AreLive (phys_live p) vars × NoTwice vars
laid_step n (P.Unnest v g p) = IsServed n N.Any p × AreOver (phys_live p) (item_exprs g)
laid_step n (P.Subplan inner p) = IsServed n N.Any p × IsInner inner (phys_live p)
laid_step n (P.Check name c p) = IsServed n N.Any p × IsOver (phys_live p) c
laid_step n (P.Join form c l r) =
    IsServed n (required_step (P.Join form c l r) 0) l × IsServed n (required_step (P.Join form c l r) 1) r × IsOver (phys_live l ++ phys_live r) c
laid_step n (P.HashGroup keys inner p) =
    IsServed n (N.Keyed (old_of keys)) p × AreLive (phys_live p) (old_of keys) × IsInner inner (phys_live p) × (is_row_wise inner ≡ true)
laid_step n (P.PreGroup keys inner p) = IsGroupInput n keys p × AreLive (phys_live p) (old_of keys) × IsInner inner (phys_live p)
laid_step n (P.HashDistinct p) = IsServed n (required_step (P.HashDistinct p) 0) p
laid_step n (P.AggPart made p) = IsServed n N.Any p × AllByRecursion (λ m. AreOver (phys_live p) (agg_exprs m.1)) made
laid_step n (P.AggFinal made p) = (q : Phys) × IsMet n N.One p (Q.AggPart made q)
laid_step n (P.Union made ls rs l r) =
    IsServed n N.Any l × IsServed n N.Any r × AreLive (phys_live l) ls × AreLive (phys_live r) rs × (length ls ≡ length made) × (length rs ≡ length made)
laid_step n (P.Sort keys p) = IsSortInput n p × AreLive (phys_live p) (vars_of keys)
laid_step n (P.Limit m k p) = IsServed n N.One p
laid_step n (P.LocalLimit m p) = IsServed n N.Any p
laid_step n (P.Result vars p) = IsServed n N.One p × AreLive (phys_live p) vars × NoTwice vars
laid_step n (P.HashExchange vars p) = AreLive (phys_live p) vars
laid_step n (P.Broadcast p) = Unit {0}
laid_step n (P.Gather p) = Unit {0}
laid_step n (P.Merge keys p) = (q : Phys) × (p ≡ Q.Sort keys q) × (is_exchange q ≡ false) × (meets (parts_of p n) N.One n ≡ false)

unfoldable pub IsLaid : ℕ → Phys → Type 0
IsLaid n p = laid_step n (out-Phys p)

-- a physical plan for this many partitions that stands by itself: each operator is laid over its inputs, none is too wide, no
-- variable is made twice, and there are fewer than 2^19 operators
pub record Placed (p : Phys) (n : ℕ) : Type 0 where
  pub whole : IsWhole n p
  pub each : AllByRecursion (IsLaid n) (operators p)
  pub narrow : AllByRecursion (λ q. AtMost64 (phys_live q)) (operators p)
  pub once : NoTwice (phys_makes p)
  pub few : length (operators p) < 2 ^ 19
