-- The text of a physical plan: its head, and one line for each operator, below the line of the operator that it feeds.
use Rattle.std.specs.Prelude.{ℕ, true, List, [], ◌∷◌, ◌++◌, codes}
use Rattle.std.specs.List.{flat_map}
use Rattle.al_plan.specs.declared.plan.OrderKey.{OrderKey}
use Rattle.al_plan.specs.Eval.{Bytes}
use Rattle.al_plan.specs.Grammar.{Marked, Name, plain, enclosed, variable, variables, expr_words, plan_words, generator_words, assigned_words, aggregated_words, key_words, order_words, count_word}
use Rattle.al_phys.specs.declared.phys.JoinForm.{JoinForm}
use Rattle.al_phys.specs.declared.phys.JoinForm.TheVariants as J
use Rattle.al_phys.specs.declared.phys.Phys.{Phys, rec-Phys, roll-Phys, map-Phys}
use Rattle.al_phys.specs.declared.phys.Phys.TheOpen.{Phys-F}
use Rattle.al_phys.specs.declared.phys.Phys.TheOpen as P
use Rattle.al_phys.specs.declared.property.Partitioning.{Partitioning}
use Rattle.al_phys.specs.declared.property.Partitioning.TheVariants as D
use Rattle.al_phys.specs.declared.property.Local.{Local}
use Rattle.al_phys.specs.declared.property.Local.TheVariants as O
use Rattle.al_phys.specs.Properties.{parts_of, order_of}
use Rattle.al_print.specs.Canonical.{line_of, words_in}

-- ---- words

abbrev pub word : Bytes → Marked
word name = plain (Name name)

abbrev pub form_name : JoinForm → Bytes
form_name J.HashJoin = codes "hash-join"
form_name J.HashLeftJoin = codes "hash-leftjoin"
form_name J.LoopJoin = codes "loop-join"
form_name J.LoopLeftJoin = codes "loop-leftjoin"

abbrev pub keys_words : List OrderKey → List Marked
keys_words keys = enclosed (flat_map order_words keys)

-- an operator's name and what it holds beside its inputs
abbrev pub own_words : {X : Type 0} → Phys-F X → List Marked
own_words (P.Scan set vars) = word (codes "scan") ∷ (word set ∷ variables vars)
own_words P.One = word (codes "one") ∷ []
own_words (P.Assign made p) = word (codes "assign") ∷ enclosed (flat_map assigned_words made)
own_words (P.Select c p) = word (codes "select") ∷ expr_words c
own_words (P.Project vars p) = word (codes "project") ∷ variables vars
own_words (P.Unnest v g p) = word (codes "unnest") ∷ (variable v ∷ generator_words g)
own_words (P.Subplan inner p) = word (codes "subplan") ∷ plan_words inner
own_words (P.Check name c p) = word (codes "check") ∷ (word name ∷ expr_words c)
own_words (P.Join form c l r) = word (form_name form) ∷ expr_words c
own_words (P.HashGroup keys inner p) = word (codes "hash-group") ∷ (enclosed (flat_map key_words keys) ++ plan_words inner)
own_words (P.PreGroup keys inner p) = word (codes "pre-group") ∷ (enclosed (flat_map key_words keys) ++ plan_words inner)
own_words (P.HashDistinct p) = word (codes "hash-distinct") ∷ []
own_words (P.AggPart made p) = word (codes "agg-part") ∷ enclosed (flat_map aggregated_words made)
own_words (P.AggFinal made p) = word (codes "agg-final") ∷ enclosed (flat_map aggregated_words made)
own_words (P.Union made ls rs l r) = word (codes "union") ∷ (variables made ++ (variables ls ++ variables rs))
own_words (P.Sort keys p) = word (codes "sort") ∷ keys_words keys
own_words (P.Limit m k p) = word (codes "limit") ∷ (count_word m ∷ count_word k ∷ [])
own_words (P.LocalLimit m p) = word (codes "local-limit") ∷ (count_word m ∷ [])
own_words (P.Result vars p) = word (codes "result") ∷ variables vars
own_words (P.HashExchange vars p) = word (codes "hash") ∷ variables vars
own_words (P.Broadcast p) = word (codes "broadcast") ∷ []
own_words (P.Gather p) = word (codes "gather") ∷ []
own_words (P.Merge keys p) = word (codes "merge") ∷ keys_words keys

abbrev pub partitioning_words : Partitioning → List Marked
partitioning_words D.Unpartitioned = word (codes "unpartitioned") ∷ []
partitioning_words (D.Hash vars) = word (codes "hash") ∷ variables vars
partitioning_words D.Broadcast = word (codes "broadcast") ∷ []
partitioning_words D.Random = word (codes "random") ∷ []

abbrev pub local_words : Local → List Marked
local_words O.None = word (codes "none") ∷ []
local_words (O.Order keys) = word (codes "order") ∷ keys_words keys

-- ---- lines

abbrev pub spaced : List Marked → List ℕ
spaced ws = line_of true (words_in ws)

-- an operator behind a margin: its own words, and what it delivers
abbrev pub operator_line : List ℕ → List Marked → Partitioning → Local → List ℕ
operator_line margin own parts order =
    margin ++ (spaced own ++ (codes " | " ++ (spaced (partitioning_words parts) ++ (codes " | " ++ (spaced (local_words order) ++ codes "\n")))))

-- the lines of what stands below an operator, given for each of its inputs
abbrev pub lines_below : {X : Type 0} → (X → List ℕ) → Phys-F X → List ℕ
lines_below lines (P.Scan set vars) = []
lines_below lines P.One = []
lines_below lines (P.Assign made p) = lines p
lines_below lines (P.Select c p) = lines p
lines_below lines (P.Project vars p) = lines p
lines_below lines (P.Unnest v g p) = lines p
lines_below lines (P.Subplan inner p) = lines p
lines_below lines (P.Check name c p) = lines p
lines_below lines (P.Join form c l r) = lines l ++ lines r
lines_below lines (P.HashGroup keys inner p) = lines p
lines_below lines (P.PreGroup keys inner p) = lines p
lines_below lines (P.HashDistinct p) = lines p
lines_below lines (P.AggPart made p) = lines p
lines_below lines (P.AggFinal made p) = lines p
lines_below lines (P.Union made ls rs l r) = lines l ++ lines r
lines_below lines (P.Sort keys p) = lines p
lines_below lines (P.Limit m k p) = lines p
lines_below lines (P.LocalLimit m p) = lines p
lines_below lines (P.Result vars p) = lines p
lines_below lines (P.HashExchange vars p) = lines p
lines_below lines (P.Broadcast p) = lines p
lines_below lines (P.Gather p) = lines p
lines_below lines (P.Merge keys p) = lines p

-- the lines of a plan behind a margin, where a recursion over plans asks for a type of types
pub record Printed : Type 1 where
  pub behind : List ℕ → List ℕ

-- the margin of what stands below has two spaces more
abbrev pub deeper : List ℕ → List ℕ
deeper margin = margin ++ codes "  "

abbrev pub printed_step : ℕ → (X : Type 0) → (X → Phys) → (X → Printed) → Phys-F X → Printed
printed_step n X plan printed x =
    record {
      behind = λ margin. (let p = roll-Phys (map-Phys X Phys plan x) in operator_line margin (own_words x) (parts_of p n) (order_of p)) ++ lines_below (λ s. (printed s).behind (deeper margin)) x;
    }

unfoldable pub printed : ℕ → Phys → Printed
printed n = rec-Phys Printed (printed_step n)

-- the lines of a plan for this many partitions, behind a margin
abbrev pub phys_lines : ℕ → Phys → List ℕ → List ℕ
phys_lines n p = (printed n p).behind

abbrev pub phys_text : Phys → ℕ → List ℕ
phys_text p n = codes "physical\n" ++ phys_lines n p []
