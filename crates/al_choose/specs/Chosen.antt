-- The physical plan that is chosen for a logical one: an operator for each, and exchanges and sorts where an input is not as it is needed.
use Rattle.std.specs.Prelude.{ℕ, ◌+◌, ◌^◌, ◌-◌, nat_le, Bool, true, false, not, ◌||◌, if◌then◌else◌, List, [], ◌∷◌}
use Rattle.al_plan.specs.declared.expr.Var.{Var}
use Rattle.al_plan.specs.declared.expr.Expr.{Expr}
use Rattle.al_plan.specs.declared.plan.OrderKey.{OrderKey}
use Rattle.al_plan.specs.declared.plan.Plan.{Plan, rec-Plan}
use Rattle.al_plan.specs.declared.plan.Plan.TheOpen.{Plan-F}
use Rattle.al_plan.specs.declared.plan.Plan.TheOpen as P
use Rattle.al_phys.specs.declared.property.Need.{Need}
use Rattle.al_phys.specs.declared.property.Need.TheVariants as N
use Rattle.al_phys.specs.declared.phys.JoinForm.{JoinForm}
use Rattle.al_phys.specs.declared.phys.JoinForm.TheVariants as J
use Rattle.al_phys.specs.declared.phys.Phys.{Phys, out-Phys}
use Rattle.al_phys.specs.declared.phys.Phys.TheVariants as Q
use Rattle.al_phys.specs.declared.phys.Phys.TheOpen.{Phys-F}
use Rattle.al_phys.specs.declared.phys.Phys.TheOpen as Open
use Rattle.al_phys.specs.Operators.{phys_live}
use Rattle.al_phys.specs.Gives.{is_hash}
use Rattle.al_phys.specs.Properties.{meets, parts_of, order_of, equi_keys, join_need, old_of}
use Rattle.al_phys.specs.Placed.{is_row_wise, is_grouped, ascending}

-- ---- exchanges

-- the exchange for a need
abbrev pub exchange : Need → Phys → Phys
exchange N.Any q = q
exchange N.One q = Q.Gather q
exchange (N.Keyed vars) q = Q.HashExchange vars q
exchange (N.Exactly vars) q = Q.HashExchange vars q
exchange N.All q = Q.Broadcast q

-- a plan as the input of an operator that needs this of it
abbrev pub served : ℕ → Need → Phys → Phys
served n need q = if meets (parts_of q n) need n then q else exchange need q

-- whether an operator moves rows from part to part
abbrev pub moves_step : Phys-F Phys → Bool
moves_step (Open.HashExchange vars p) = true
moves_step (Open.Broadcast p) = true
moves_step (Open.Gather p) = true
moves_step (Open.Merge keys p) = true
moves_step _ = false

unfoldable pub moves : Phys → Bool
moves p = moves_step (out-Phys p)

-- ---- joins

-- by the hash of the equi keys, or through all pairs where there are none
abbrev pub join_form : Bool → {A : Type 0} → List A → JoinForm
join_form true [] = J.LoopLeftJoin
join_form true (k ∷ keys) = J.HashLeftJoin
join_form false [] = J.LoopJoin
join_form false (k ∷ keys) = J.HashJoin

abbrev pub join_as : ℕ → JoinForm → Expr → Phys → Phys → Phys
join_as n form c l r = Q.Join form c (served n (join_need (is_hash form) l r c 0) l) (served n (join_need (is_hash form) l r c 1) r)

abbrev pub join_over : ℕ → Bool → Expr → Phys → Phys → Phys
join_over n outer c l r = join_as n (join_form outer (equi_keys (phys_live l) (phys_live r) c)) c l r

-- ---- groups

-- over an input whose parts have the keys apart
abbrev pub group_over : List (Var × Var) → Plan → Phys → Phys
group_over keys inner q =
    if is_grouped keys (order_of q) then Q.PreGroup keys inner q
    else if is_row_wise inner then Q.HashGroup keys inner q
    else Q.PreGroup keys inner (Q.Sort (ascending keys) q)

-- ---- orders and limits

-- each part sorted, and the parts merged where there is more than one
abbrev pub merge_over : ℕ → List OrderKey → Phys → Phys
merge_over n keys q = if meets (parts_of q n) N.One n then q else Q.Merge keys q

-- the number of rows that a limit needs, where it is a number for a limit of parts
abbrev pub is_rank : ℕ → Bool
is_rank count = nat_le count (2 ^ 63 - 1)

-- a limit needs the first m + k rows of each part, and no more; an ordered plan stands in one part
abbrev pub limit_over : ℕ → ℕ → ℕ → Phys → Phys
limit_over n m k q =
    if meets (parts_of q n) N.One n then Q.Limit m k q
    else if is_rank (m + k) then Q.Limit m k (Q.Gather (Q.LocalLimit (m + k) q))
    else Q.Limit m k (Q.Gather q)

-- ---- plans

-- a physical plan, where a recursion over plans asks for a type of types
pub record Choice : Type 1 where
  pub phys : Phys

-- `plan` is the plan of an input, and `choice` what is chosen for it; `nested` stands in nested plans alone, which stay as they are
abbrev pub choose_by : ℕ → (X : Type 0) → (X → Plan) → (X → Choice) → Plan-F X → Phys
choose_by n X plan choice (P.Scan set vars) = Q.Scan set vars
choose_by n X plan choice P.Empty = Q.One
choose_by n X plan choice P.Nested = Q.One
choose_by n X plan choice (P.Assign made p) = Q.Assign made (served n N.Any (choice p).phys)
choose_by n X plan choice (P.Select c p) = Q.Select c (served n N.Any (choice p).phys)
choose_by n X plan choice (P.Project vars p) = Q.Project vars (served n N.Any (choice p).phys)
choose_by n X plan choice (P.Unnest v g p) = Q.Unnest v g (served n N.Any (choice p).phys)
choose_by n X plan choice (P.Subplan inner p) = Q.Subplan (plan inner) (served n N.Any (choice p).phys)
choose_by n X plan choice (P.Join c l r) = join_over n false c (choice l).phys (choice r).phys
choose_by n X plan choice (P.LeftJoin c l r) = join_over n true c (choice l).phys (choice r).phys
choose_by n X plan choice (P.Group keys inner p) = group_over keys (plan inner) (served n (N.Keyed (old_of keys)) (choice p).phys)
choose_by n X plan choice (P.Distinct p) = Q.HashDistinct (served n (N.Keyed (phys_live (choice p).phys)) (choice p).phys)
choose_by n X plan choice (P.Union made ls rs l r) = Q.Union made ls rs (served n N.Any (choice l).phys) (served n N.Any (choice r).phys)
choose_by n X plan choice (P.Aggregate made p) = Q.AggFinal made (served n N.One (Q.AggPart made (served n N.Any (choice p).phys)))
choose_by n X plan choice (P.Order keys p) = merge_over n keys (Q.Sort keys (served n N.Any (choice p).phys))
choose_by n X plan choice (P.Limit m k p) = limit_over n m k (choice p).phys
choose_by n X plan choice (P.Check name c p) = Q.Check name c (served n N.Any (choice p).phys)
choose_by n X plan choice (P.Result vars p) = Q.Result vars (served n N.One (choice p).phys)

abbrev pub choose_step : ℕ → (X : Type 0) → (X → Plan) → (X → Choice) → Plan-F X → Choice
choose_step n X plan choice x = record { phys = choose_by n X plan choice x }

unfoldable pub choice_of : ℕ → Plan → Choice
choice_of n = rec-Plan Choice (choose_step n)

-- the physical plan for this many partitions
abbrev pub chosen : ℕ → Plan → Phys
chosen n p = (choice_of n p).phys
