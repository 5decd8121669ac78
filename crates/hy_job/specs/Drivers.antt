-- What the driver of an activity may still give, by what is left of its work.
use Rattle.std.specs.Prelude.{◌≡◌, ◌↔◌, ℕ, zero, suc, nat_eq, Bool, true, false, List, [], ◌∷◌, map, filter, take, drop}
use Rattle.std.specs.List.Sorted.{IsPermutation, IsSorted}
use Rattle.hy_job.specs.declared.job.Kind.{Kind}
use Rattle.hy_job.specs.declared.job.Kind.TheVariants as K
use Rattle.hy_job.specs.Columns.{Row, dealt, keys_cmp, state_row, joined}
use Rattle.hy_job.specs.Runs.{AreJoined, IsGroupOf, Output, is_free}
use Rattle.hy_rest.specs.Rest.{AnyOrder}

-- the rows of an input, of those that a driver takes
abbrev pub received_of : List (ℕ × Row) → ℕ → List Row
received_of took input = map (λ x. x.1) (filter (λ x. nat_eq x.0 input) took)

-- what is left of a driver's work beside the rows that it takes
pub record Left : Type 0 where
  -- how many rows a limit is still to skip, and to give
  pub skip : ℕ
  pub give : ℕ
  -- the rows that a scan or a `one` is still to give
  pub own : List Row
  -- what is left of the rows that were handed; a probe has them all until it ends
  pub handed : List Row
  -- whether the one row of partial states, or of their aggregates, is still to come
  pub last : Bool

-- the one row that is still to come, or nothing
abbrev pub IfLast : Bool → (Row → Type 0) → List Row → Type 0
IfLast true P out = (row : Row) × P row × (out ≡ row ∷ [])
IfLast false P out = out ≡ []

-- the output of what is left, for the rows that come at each input; the other kinds have nothing left but these
abbrev pub left_out : Kind → ℕ → Left → (ℕ → List Row) → List Row → Type 0
left_out (K.Scan set) arity left received out = out ≡ left.own
left_out K.One arity left received out = out ≡ left.own
left_out (K.Limit m k) arity left received out = out ≡ take left.give (drop left.skip (received 0))
left_out (K.LocalLimit m) arity left received out = out ≡ take left.give (received 0)
left_out (K.SortEmit keys) arity left received out = IsPermutation left.handed out × IsSorted (keys_cmp keys) out
left_out (K.GroupEmit arg) arity left received out = IsGroupOf arg left.handed out
left_out (K.JoinProbe arg) arity left received out = IsPermutation (joined arity arg (received 0) left.handed) out
left_out (K.AggPart made) arity left received out = IfLast left.last (λ row. row ≡ state_row made (received 0)) out
left_out (K.AggFinal made) arity left received out = IfLast left.last (AreJoined made (received 0)) out
left_out kind arity left received out = Output kind arity 1 0 received [] [] out

-- the output of a driver for the rows that it takes
abbrev pub driver_out : Kind → ℕ → Left → List (ℕ × Row) → List Row → Type 0
driver_out kind arity left took = left_out kind arity left (received_of took)

-- ---- at the beginning

abbrev pub skip_first : Kind → ℕ
skip_first (K.Limit m k) = k
skip_first _ = 0

abbrev pub give_most : Kind → ℕ
give_most (K.Limit m k) = m
give_most (K.LocalLimit m) = m
give_most _ = 0

abbrev pub own_rows : Kind → ℕ → ℕ → List Row → List Row
own_rows (K.Scan set) n j scanned = dealt n j scanned
own_rows K.One n zero scanned = [] ∷ []
own_rows K.One n (suc j) scanned = []
own_rows _ n j scanned = []

abbrev pub has_last : Kind → ℕ → Bool
has_last (K.AggPart made) j = true
has_last (K.AggFinal made) zero = true
has_last (K.AggFinal made) (suc j) = false
has_last _ j = false

-- what is left of all the work of an activity in partition `j` of `n`
abbrev pub all_left : Kind → ℕ → ℕ → List Row → List Row → Left
all_left kind n j scanned handed = record { skip = skip_first kind; give = give_most kind; own = own_rows kind n j scanned; handed = handed; last = has_last kind j }

-- a new driver gives what its activity makes
abbrev pub NewDriversGive : Type 0
NewDriversGive = (kind : Kind) (arity n j : ℕ) (scanned handed : List Row) (received : ℕ → List Row) (out : List Row)
    → left_out kind arity (all_left kind n j scanned handed) received out ↔ Output kind arity n j received scanned handed out

-- where rows may come in any order, a driver's may
abbrev pub DriversMove : Type 0
DriversMove = (kind : Kind) (arity : ℕ) (left : Left) → is_free kind ≡ true → AnyOrder (driver_out kind arity left)
