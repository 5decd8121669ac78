-- The lists of rows that a physical plan allows in its parts, and the names that fault in it.
use Rattle.std.specs.Prelude.{◌≡◌, ◌⊎◌, ℕ, Bool, true, false, List, [], ◌∷◌, map, filter, take, drop, zip}
use Rattle.std.specs.List.{flat_map, All, AllZip, Contains}
use Rattle.std.specs.List.Sorted.{IsPermutation, IsSorted}
use Rattle.al_plan.specs.Eval.{Bytes, Env, bind, holds}
use Rattle.al_plan.specs.Allows.{Sets, nulls, cut, assigned, expanded, renamed, agg_row, keys_cmp, IsDistinctOf, IsChecked}
use Rattle.al_phys.specs.declared.phys.Phys.{Phys, rec-Phys}
use Rattle.al_phys.specs.declared.phys.Phys.TheOpen.{Phys-F}
use Rattle.al_phys.specs.declared.phys.Phys.TheOpen as P
use Rattle.al_phys.specs.Operators.{phys_live}
use Rattle.al_phys.specs.Parts.{Parts, HasEach, in_first, first_part, dealt, Interleaves, IsHashed, IsBroadcast}
use Rattle.al_phys.specs.Gives.{is_outer, joined, IsNested, IsGrouped, IsPreGrouped}

-- whether parts are allowed: whether checks are read as passing all rows on, the datasets, the number of partitions, and the parts
abbrev pub PAllowing : Type 1
PAllowing = Bool → Sets → ℕ → Parts → Type 0

-- parts that the input allows
abbrev pub Over : PAllowing → Bool → Sets → ℕ → (Parts → Type 0) → Type 0
Over allows passing sets n P = (input : Parts) × allows passing sets n input × P input

-- one layer of a physical plan: `plan` is the plan of an input, and `allows` what it allows. In the place of each row of
-- partial states of an agg-part stand the rows that it is the state of
abbrev pub pallows_step : (X : Type 0) → (X → Phys) → (X → PAllowing) → Phys-F X → PAllowing
pallows_step X plan allows (P.Scan set vars) passing sets n parts = HasEach n (λ j rows. rows ≡ dealt n j (map (bind vars) (sets set))) parts
pallows_step X plan allows P.One passing sets n parts = parts ≡ in_first n (nulls ∷ [])
pallows_step X plan allows (P.Assign made p) passing sets n parts = Over (allows p) passing sets n (λ input. AllZip (λ rows out. out ≡ map (assigned made) rows) input parts)
pallows_step X plan allows (P.Select c p) passing sets n parts = Over (allows p) passing sets n (λ input. AllZip (λ rows out. out ≡ filter (holds c) rows) input parts)
pallows_step X plan allows (P.Project vars p) passing sets n parts = Over (allows p) passing sets n (λ input. AllZip (λ rows out. out ≡ map (cut vars) rows) input parts)
pallows_step X plan allows (P.Unnest v g p) passing sets n parts = Over (allows p) passing sets n (λ input. AllZip (λ rows out. out ≡ flat_map (expanded v g) rows) input parts)
pallows_step X plan allows (P.Subplan inner p) passing sets n parts = Over (allows p) passing sets n (λ input. AllZip (IsNested inner passing sets (phys_live (plan p))) input parts)
pallows_step X plan allows (P.Check name c p) passing sets n parts = allows p passing sets n parts × IsChecked passing (All (All (λ r. holds c r ≡ true)) parts)
pallows_step X plan allows (P.Join form c l r) passing sets n parts =
    Over (allows l) passing sets n (λ left. Over (allows r) passing sets n (λ right. AllZip (λ both out. IsPermutation (joined (is_outer form) (phys_live (plan l)) c both.0 both.1) out) (zip left right) parts))
pallows_step X plan allows (P.HashGroup keys inner p) passing sets n parts = Over (allows p) passing sets n (λ input. AllZip (IsGrouped keys inner passing sets (phys_live (plan p))) input parts)
pallows_step X plan allows (P.PreGroup keys inner p) passing sets n parts = Over (allows p) passing sets n (λ input. AllZip (IsPreGrouped keys inner passing sets (phys_live (plan p))) input parts)
pallows_step X plan allows (P.HashDistinct p) passing sets n parts = Over (allows p) passing sets n (λ input. AllZip IsDistinctOf input parts)
pallows_step X plan allows (P.AggPart made p) passing sets n parts = allows p passing sets n parts
pallows_step X plan allows (P.AggFinal made p) passing sets n parts = Over (allows p) passing sets n (λ input. parts ≡ in_first n (agg_row made (first_part input) ∷ []))
pallows_step X plan allows (P.Union made ls rs l r) passing sets n parts =
    Over (allows l) passing sets n (λ left. Over (allows r) passing sets n (λ right. AllZip (λ both out. Interleaves (map (renamed made ls) both.0 ∷ map (renamed made rs) both.1 ∷ []) out) (zip left right) parts))
pallows_step X plan allows (P.Sort keys p) passing sets n parts = Over (allows p) passing sets n (λ input. AllZip (λ rows out. IsPermutation rows out × IsSorted (keys_cmp keys) out) input parts)
pallows_step X plan allows (P.Limit m k p) passing sets n parts = Over (allows p) passing sets n (λ input. AllZip (λ rows out. out ≡ take m (drop k rows)) input parts)
pallows_step X plan allows (P.LocalLimit m p) passing sets n parts = Over (allows p) passing sets n (λ input. AllZip (λ rows out. out ≡ take m rows) input parts)
pallows_step X plan allows (P.Result vars p) passing sets n parts = Over (allows p) passing sets n (λ input. AllZip (λ rows out. out ≡ map (cut vars) rows) input parts)
pallows_step X plan allows (P.HashExchange vars p) passing sets n parts = Over (allows p) passing sets n (λ input. IsHashed n vars input parts)
pallows_step X plan allows (P.Broadcast p) passing sets n parts = Over (allows p) passing sets n (λ input. IsBroadcast n input parts)
pallows_step X plan allows (P.Gather p) passing sets n parts = Over (allows p) passing sets n (λ input. (rows : List Env) × Interleaves input rows × (parts ≡ in_first n rows))
pallows_step X plan allows (P.Merge keys p) passing sets n parts =
    Over (allows p) passing sets n (λ input. (rows : List Env) × Interleaves input rows × (All (IsSorted (keys_cmp keys)) input → IsSorted (keys_cmp keys) rows) × (parts ≡ in_first n rows))

unfoldable pub PAllows : Phys → PAllowing
PAllows = rec-Phys PAllowing pallows_step

-- a check of this name over an input that allows parts with a row that is not TRUE, lower checks passing all rows on
abbrev pub PFaulting : Type 1
PFaulting = Sets → ℕ → Bytes → Type 0

abbrev pub pfaults_step : (X : Type 0) → (X → Phys) → (X → PFaulting) → Phys-F X → PFaulting
pfaults_step X plan faults (P.Scan set vars) sets n name = ⊥
pfaults_step X plan faults P.One sets n name = ⊥
pfaults_step X plan faults (P.Assign made p) sets n name = faults p sets n name
pfaults_step X plan faults (P.Select c p) sets n name = faults p sets n name
pfaults_step X plan faults (P.Project vars p) sets n name = faults p sets n name
pfaults_step X plan faults (P.Unnest v g p) sets n name = faults p sets n name
pfaults_step X plan faults (P.Subplan inner p) sets n name = faults p sets n name
pfaults_step X plan faults (P.Check own c p) sets n name =
    ((name ≡ own) × ((input : Parts) × (rows : List Env) × (r : Env) × PAllows (plan p) true sets n input × Contains input rows × Contains rows r × (holds c r ≡ false))) ⊎ faults p sets n name
pfaults_step X plan faults (P.Join form c l r) sets n name = faults l sets n name ⊎ faults r sets n name
pfaults_step X plan faults (P.HashGroup keys inner p) sets n name = faults p sets n name
pfaults_step X plan faults (P.PreGroup keys inner p) sets n name = faults p sets n name
pfaults_step X plan faults (P.HashDistinct p) sets n name = faults p sets n name
pfaults_step X plan faults (P.AggPart made p) sets n name = faults p sets n name
pfaults_step X plan faults (P.AggFinal made p) sets n name = faults p sets n name
pfaults_step X plan faults (P.Union made ls rs l r) sets n name = faults l sets n name ⊎ faults r sets n name
pfaults_step X plan faults (P.Sort keys p) sets n name = faults p sets n name
pfaults_step X plan faults (P.Limit m k p) sets n name = faults p sets n name
pfaults_step X plan faults (P.LocalLimit m p) sets n name = faults p sets n name
pfaults_step X plan faults (P.Result vars p) sets n name = faults p sets n name
pfaults_step X plan faults (P.HashExchange vars p) sets n name = faults p sets n name
pfaults_step X plan faults (P.Broadcast p) sets n name = faults p sets n name
pfaults_step X plan faults (P.Gather p) sets n name = faults p sets n name
pfaults_step X plan faults (P.Merge keys p) sets n name = faults p sets n name

unfoldable pub PFaults : Phys → PFaulting
PFaults = rec-Phys PFaulting pfaults_step
