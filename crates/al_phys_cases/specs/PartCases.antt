-- What small physical plans allow on two partitions, and what not.
use Rattle.std.specs.Prelude.{◌≡◌, ℕ, false, List, [], ◌∷◌}
use Rattle.al_value.specs.declared.value.Value.TheVariants as V
use Rattle.al_plan.specs.declared.expr.Var.{Var}
use Rattle.al_plan.specs.declared.plan.AggCall.{AggCall}
use Rattle.al_plan.specs.declared.plan.AggCall.TheVariants as C
use Rattle.al_plan.specs.declared.plan.Plan.TheVariants as P
use Rattle.al_plan.specs.Eval.{Env, bind}
use Rattle.al_plan.specs.Allows.{Sets}
use Rattle.al_phys.specs.declared.phys.JoinForm.TheVariants as J
use Rattle.al_phys.specs.declared.phys.Phys.{Phys}
use Rattle.al_phys.specs.declared.phys.Phys.TheVariants as Q
use Rattle.al_phys.specs.Parts.{Parts}
use Rattle.al_phys.specs.PAllows.{PAllows}
use Rattle.al_cases.specs.Cases.{t, u, a, b, n, int, row, pair, one_column, two_and_one, one_and_two, below, by_a, same, counting}

-- ---- parts

-- the row of this number
abbrev pub at : ℕ → Env
at k = row a (int k)

abbrev pub two : List Env → List Env → Parts
two xs ys = xs ∷ ys ∷ []

-- whether a physical plan allows these parts on two partitions
abbrev pub InParts : Sets → Phys → Parts → Type 0
InParts sets p parts = PAllows p false sets 2 parts

-- these parts are allowed, and no others are
pub record OnlyParts (sets : Sets) (p : Phys) (parts : Parts) : Type 0 where
  pub allowed : InParts sets p parts
  pub no_other : (others : Parts) → InParts sets p others → others ≡ parts

abbrev pub scan_of_a : Phys
scan_of_a = Q.Scan t (a ∷ [])

abbrev pub scan_of_b : Phys
scan_of_b = Q.Scan u (b ∷ [])

abbrev pub three : Sets
three = one_column (int 1 ∷ int 2 ∷ int 3 ∷ [])

-- ---- scan, select

-- the first and the third row are in the first partition
abbrev pub ScanDeals : Type 0
ScanDeals = OnlyParts three scan_of_a (two (at 1 ∷ at 3 ∷ []) (at 2 ∷ []))

-- a select works on each part
abbrev pub SelectInParts : Type 0
SelectInParts = OnlyParts three (Q.Select (below 3) scan_of_a) (two (at 1 ∷ []) (at 2 ∷ []))

-- ---- exchanges

-- the hash of an int names the second of two partitions where it is odd, and then the rows change their places
abbrev pub HashMoves : Type 0
HashMoves = OnlyParts three (Q.HashExchange (a ∷ []) scan_of_a) (two (at 2 ∷ []) (at 1 ∷ at 3 ∷ []))

abbrev pub copied : Phys
copied = Q.Broadcast scan_of_a

-- each part has all rows, those of each part in their order
pub record BroadcastCopies : Type 0 where
  pub mixed : InParts three copied (two (at 1 ∷ at 3 ∷ at 2 ∷ []) (at 2 ∷ at 1 ∷ at 3 ∷ []))
  pub turned : InParts three copied (two (at 1 ∷ at 3 ∷ at 2 ∷ []) (at 3 ∷ at 1 ∷ at 2 ∷ [])) → ⊥
  pub one_alone : InParts three copied (two (at 1 ∷ at 3 ∷ at 2 ∷ []) []) → ⊥

abbrev pub gathered : Phys
gathered = Q.Gather scan_of_a

-- all rows are in the first part, those of each part in their order
pub record GatherMixes : Type 0 where
  pub mixed : InParts three gathered (two (at 1 ∷ at 2 ∷ at 3 ∷ []) [])
  pub parts : InParts three gathered (two (at 2 ∷ at 1 ∷ at 3 ∷ []) [])
  pub turned : InParts three gathered (two (at 3 ∷ at 1 ∷ at 2 ∷ []) []) → ⊥
  pub second : InParts three gathered (two [] (at 1 ∷ at 2 ∷ at 3 ∷ [])) → ⊥

abbrev pub falling : Sets
falling = one_column (int 2 ∷ int 1 ∷ [])

-- sorted parts are merged in order, and gathered in any
pub record MergeOrders : Type 0 where
  pub merged : OnlyParts falling (Q.Merge (by_a false) (Q.Sort (by_a false) scan_of_a)) (two (at 1 ∷ at 2 ∷ []) [])
  pub gathered : InParts falling (Q.Gather (Q.Sort (by_a false) scan_of_a)) (two (at 2 ∷ at 1 ∷ []) [])

-- ---- groups, aggregates

-- the count of the rows of each value of a, which is b from there on
abbrev pub grouped : Phys → Phys
grouped p = Q.HashGroup ((b, a) ∷ []) (counting P.Nested) p

-- the row of a group with this key and this count
abbrev pub counted : ℕ → ℕ → Env
counted v k = bind (b ∷ n ∷ []) (int v ∷ int k ∷ [])

abbrev pub twice : Sets
twice = one_column (int 1 ∷ int 1 ∷ [])

-- behind an exchange by the key there is one group of two rows, in the partition of the key
abbrev pub GroupOverHash : Type 0
GroupOverHash = OnlyParts twice (grouped (Q.HashExchange (a ∷ []) scan_of_a)) (two [] (counted 1 2 ∷ []))

-- and without it one of one row in each partition
abbrev pub GroupInParts : Type 0
GroupInParts = OnlyParts twice (grouped scan_of_a) (two (counted 1 1 ∷ []) (counted 1 1 ∷ []))

abbrev pub count : List (Var × AggCall)
count = (n, C.CountAll) ∷ []

-- the states of both parts are one count
abbrev pub CountsAreJoined : Type 0
CountsAreJoined = OnlyParts one_and_two (Q.AggFinal count (Q.Gather (Q.AggPart count scan_of_a))) (two (row n (int 2) ∷ []) [])

-- ---- joins of 1 and 2 with 1

abbrev pub by_keys : Phys
by_keys = Q.Join J.HashJoin same (Q.HashExchange (a ∷ []) scan_of_a) (Q.HashExchange (b ∷ []) scan_of_b)

-- the pair is in the partition of its key
abbrev pub HashJoinPairs : Type 0
HashJoinPairs = OnlyParts two_and_one by_keys (two [] (pair (int 1) (int 1) ∷ []))

-- the left row without a partner stays where its own key is
abbrev pub LeftJoinKeeps : Type 0
LeftJoinKeeps = OnlyParts two_and_one (Q.Join J.HashLeftJoin same (Q.HashExchange (a ∷ []) scan_of_a) (Q.HashExchange (b ∷ []) scan_of_b)) (two (pair (int 2) V.Null ∷ []) (pair (int 1) (int 1) ∷ []))

-- where the right rows are copied the left rows stay where they are
abbrev pub LoopJoinPairs : Type 0
LoopJoinPairs = OnlyParts two_and_one (Q.Join J.LoopLeftJoin same scan_of_a (Q.Broadcast scan_of_b)) (two (pair (int 1) (int 1) ∷ []) (pair (int 2) V.Null ∷ []))
