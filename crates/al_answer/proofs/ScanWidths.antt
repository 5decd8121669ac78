-- The datasets that a job scans are as wide as its scans say.
use Rattle.std.proofs.Common.{◌≡◌, ℕ, true, List, [], ◌∷◌, ◌++◌, length, sym, subst, ◌+◌}
use Rattle.std.specs.List.{All, AllByRecursion}
use Rattle.std.proofs.lemmas.List.Elements.{recursion_from_All}
use Rattle.al_plan.specs.Eval.{Bytes}
use Rattle.al_plan.specs.declared.expr.Var.{Var}
use Rattle.al_plan.specs.Allows.{Sets}
use Rattle.al_plan.specs.Refines.{Scan, Fills, scans}
use Rattle.al_phys.specs.declared.phys.Phys.{Phys, map-Phys, roll-Phys, out-Phys}
use Rattle.al_phys.specs.declared.phys.Phys.TheOpen as L
use Rattle.al_phys.specs.Operators.{phys_live, phys_scans, scans_step}
use Rattle.al_phys.proofs.OperatorLaws.{pscans-roll, plive-roll}
use Rattle.hy_job.specs.declared.job.Kind.{Kind}
use Rattle.hy_job.specs.declared.job.Kind.TheVariants as K
use Rattle.hy_job.specs.declared.job.Wire.{Wire}
use Rattle.hy_job.specs.declared.job.Activity.{Activity}
use Rattle.hy_job.specs.Columns.{Row, AreValues}
use Rattle.hy_job.specs.RunLaws.{is_scan, AreWide}
use Rattle.hy_job.proofs.Members.{no_bool}
use Rattle.hy_job.proofs.RunRows.{all_append}
use Rattle.al_jobgen.specs.JobOf.{Step, Piece, piece_of, source_piece, exchange_piece, one_piece, two_piece, union_piece, join_piece}
use Rattle.al_jobgen.specs.Shapes.{form}
use Rattle.al_jobgen.specs.Added.{activities_from}
use Rattle.al_jobgen.proofs.PieceForms.{piece-roll, rolled}
use Rattle.al_jobgen.proofs.SoundWhole.{Inputs, by_form}
use Rattle.al_answer.specs.Flow.{IsGiven}
use Rattle.al_answer.proofs.Induction.{fills_left, fills_right}

module _ (sets : Sets) where
  -- the dataset of a scan is as wide as the scan
  abbrev pub ScanFits : Kind → ℕ → Type 0
  ScanFits (K.Scan set) arity = AreWide arity (sets set)
  ScanFits _ arity = Unit {0}

  abbrev StepFits : Step → Type 0
  StepFits x = ScanFits x.kind x.arity

  record Fit (q : Piece) : Type 0 where
    each : AllByRecursion StepFits q.steps

  source : (x : Step) (w : Wire) → StepFits x → Fit (source_piece (x ∷ []) w)
  source x w h = record { each = (h, tt) }

  one : (q : Piece) (x : Step) (w : Wire) → Fit q → StepFits x → Fit (one_piece q (x ∷ []) w)
  one q x w i h = record { each = all_append StepFits q.steps (x ∷ []) i.each (h, tt) }

  two : (q : Piece) (x y : Step) (w : Wire) → Fit q → StepFits x → StepFits y → Fit (two_piece q (x ∷ y ∷ []) w)
  two q x y w i h g = record { each = all_append StepFits q.steps (x ∷ y ∷ []) i.each (h, (g, tt)) }

  united : (l r : Piece) (x : Step) (w : Wire) → Fit l → Fit r → StepFits x → Fit (union_piece l r (x ∷ []) w)
  united l r x w il ir h = record { each = all_append StepFits l.steps (r.steps ++ x ∷ []) il.each (all_append StepFits r.steps (x ∷ []) ir.each (h, tt)) }

  joins : (l r : Piece) (x y : Step) (w : Wire) → Fit l → Fit r → StepFits x → StepFits y → Fit (join_piece l r (x ∷ y ∷ []) w)
  joins l r x y w il ir h g = record { each = all_append StepFits l.steps (r.steps ++ x ∷ y ∷ []) il.each (all_append StepFits r.steps (x ∷ y ∷ []) ir.each (h, (g, tt))) }

  exchange : (q : Piece) (w : Wire) → Fit q → Fit (exchange_piece q w)
  exchange q w i = record { each = i.each }

  abbrev Claim : Phys → Type 0
  Claim p = Fills (phys_scans p) sets → Fit (piece_of p)

  fills_in : (y : L.Phys-F Phys) → Fills (phys_scans (roll-Phys y)) sets → Fills (scans_step (map-Phys Phys (List Scan) phys_scans y)) sets
  fills_in y h = subst (λ (ss : List Scan). Fills ss sets) (pscans-roll y) h

  at_roll : (y : L.Phys-F Phys) (q : Piece) → piece_of (roll-Phys y) ≡ q → Fit q → Fit (piece_of (roll-Phys y))
  at_roll y q e h = subst Fit (sym e) h

  wide : (set : Bytes) (vars : List Var) → Fills ((set, vars) ∷ []) sets → AreWide (length (phys_live (roll-Phys (L.Scan set vars)))) (sets set)
  wide set vars h =
      let rows = recursion_from_All (λ (s : Scan). All (λ r. length r ≡ length s.1) (sets s.0)) ((set, vars) ∷ []) h in
      subst (λ (vs : List Var). AreWide (length vs) (sets set)) (sym (plive-roll (L.Scan set vars))) (recursion_from_All (λ r. length r ≡ length vars) (sets set) rows.0)

  layer : (y : L.Phys-F Phys) → Inputs Claim (form y) → Claim (roll-Phys y)
  layer (L.Scan set vars) i fills = at_roll (L.Scan set vars) _ (piece-roll (L.Scan set vars)) (source _ _ (wide set vars (fills_in (L.Scan set vars) fills)))
  layer L.One i fills = at_roll L.One _ (piece-roll L.One) (source _ _ tt)
  layer (L.Assign ms p) i fills = at_roll (L.Assign ms p) _ (piece-roll (L.Assign ms p)) (one _ _ _ (i (fills_in (L.Assign ms p) fills)) tt)
  layer (L.Select c p) i fills = at_roll (L.Select c p) _ (piece-roll (L.Select c p)) (one _ _ _ (i (fills_in (L.Select c p) fills)) tt)
  layer (L.Project vars p) i fills = at_roll (L.Project vars p) _ (piece-roll (L.Project vars p)) (one _ _ _ (i (fills_in (L.Project vars p) fills)) tt)
  layer (L.Unnest v its p) i fills = at_roll (L.Unnest v its p) _ (piece-roll (L.Unnest v its p)) (one _ _ _ (i (fills_in (L.Unnest v its p) fills)) tt)
  layer (L.Subplan inner p) i fills = at_roll (L.Subplan inner p) _ (piece-roll (L.Subplan inner p)) (one _ _ _ (i (fills_left (phys_scans p) (scans inner) sets (fills_in (L.Subplan inner p) fills))) tt)
  layer (L.Check own c p) i fills = at_roll (L.Check own c p) _ (piece-roll (L.Check own c p)) (one _ _ _ (i (fills_in (L.Check own c p) fills)) tt)
  layer (L.Join how c l r) i fills =
      let f = fills_in (L.Join how c l r) fills in
      at_roll (L.Join how c l r) _ (piece-roll (L.Join how c l r)) (joins _ _ _ _ _ (i.0 (fills_left (phys_scans l) (phys_scans r) sets f)) (i.1 (fills_right (phys_scans l) (phys_scans r) sets f)) tt tt)
  layer (L.HashGroup keys inner p) i fills = at_roll (L.HashGroup keys inner p) _ (piece-roll (L.HashGroup keys inner p)) (two _ _ _ _ (i (fills_left (phys_scans p) (scans inner) sets (fills_in (L.HashGroup keys inner p) fills))) tt tt)
  layer (L.PreGroup keys inner p) i fills = at_roll (L.PreGroup keys inner p) _ (piece-roll (L.PreGroup keys inner p)) (one _ _ _ (i (fills_left (phys_scans p) (scans inner) sets (fills_in (L.PreGroup keys inner p) fills))) tt)
  layer (L.HashDistinct p) i fills = at_roll (L.HashDistinct p) _ (piece-roll (L.HashDistinct p)) (two _ _ _ _ (i (fills_in (L.HashDistinct p) fills)) tt tt)
  layer (L.AggPart ms p) i fills = at_roll (L.AggPart ms p) _ (piece-roll (L.AggPart ms p)) (one _ _ _ (i (fills_in (L.AggPart ms p) fills)) tt)
  layer (L.AggFinal ms p) i fills = at_roll (L.AggFinal ms p) _ (piece-roll (L.AggFinal ms p)) (one _ _ _ (i (fills_in (L.AggFinal ms p) fills)) tt)
  layer (L.Union ms ls rs l r) i fills =
      let f = fills_in (L.Union ms ls rs l r) fills in
      at_roll (L.Union ms ls rs l r) _ (piece-roll (L.Union ms ls rs l r)) (united _ _ _ _ (i.0 (fills_left (phys_scans l) (phys_scans r) sets f)) (i.1 (fills_right (phys_scans l) (phys_scans r) sets f)) tt)
  layer (L.Sort keys p) i fills = at_roll (L.Sort keys p) _ (piece-roll (L.Sort keys p)) (two _ _ _ _ (i (fills_in (L.Sort keys p) fills)) tt tt)
  layer (L.Limit m k p) i fills = at_roll (L.Limit m k p) _ (piece-roll (L.Limit m k p)) (one _ _ _ (i (fills_in (L.Limit m k p) fills)) tt)
  layer (L.LocalLimit m p) i fills = at_roll (L.LocalLimit m p) _ (piece-roll (L.LocalLimit m p)) (one _ _ _ (i (fills_in (L.LocalLimit m p) fills)) tt)
  layer (L.Result vars p) i fills = at_roll (L.Result vars p) _ (piece-roll (L.Result vars p)) (one _ _ _ (i (fills_in (L.Result vars p) fills)) tt)
  layer (L.HashExchange vars p) i fills = at_roll (L.HashExchange vars p) _ (piece-roll (L.HashExchange vars p)) (exchange _ _ (i (fills_in (L.HashExchange vars p) fills)))
  layer (L.Broadcast p) i fills = at_roll (L.Broadcast p) _ (piece-roll (L.Broadcast p)) (exchange _ _ (i (fills_in (L.Broadcast p) fills)))
  layer (L.Gather p) i fills = at_roll (L.Gather p) _ (piece-roll (L.Gather p)) (exchange _ _ (i (fills_in (L.Gather p) fills)))
  layer (L.Merge keys p) i fills = at_roll (L.Merge keys p) _ (piece-roll (L.Merge keys p)) (exchange _ _ (i (fills_in (L.Merge keys p) fills)))

  steps_fit : (p : Phys) → Claim p
  steps_fit = by_form Claim (λ p i. subst Claim (rolled p) (layer (out-Phys p) i))

  activities_fit : (start : ℕ) (xs : List Step) → AllByRecursion StepFits xs → AllByRecursion (λ (a : Activity). ScanFits a.kind a.arity) (activities_from start xs)
  activities_fit start [] h = tt
  activities_fit start (x ∷ xs) h = (h.0, activities_fit (start + 1) xs h.1)

  pub scans_fit : (p : Phys) → Fills (phys_scans p) sets → AllByRecursion (λ (a : Activity). ScanFits a.kind a.arity) (activities_from 0 (piece_of p).steps)
  scans_fit p fills = activities_fit 0 (piece_of p).steps (steps_fit p fills).each

  -- what a scan is given is as wide as the scan, and values
  pub scan_given : (kind : Kind) (arity : ℕ) (rows : List Row) → ScanFits kind arity → IsGiven sets kind rows → is_scan kind ≡ true → AreWide arity rows × AllByRecursion AreValues rows
  scan_given (K.Scan set) arity rows fits given e = (subst (AreWide arity) (sym given.0) fits, given.1)
  scan_given K.One arity rows fits given e = absurd (no_bool (sym e))
  scan_given (K.Assign made) arity rows fits given e = absurd (no_bool (sym e))
  scan_given (K.Select c) arity rows fits given e = absurd (no_bool (sym e))
  scan_given (K.Project columns) arity rows fits given e = absurd (no_bool (sym e))
  scan_given (K.Unnest g) arity rows fits given e = absurd (no_bool (sym e))
  scan_given (K.Subplan n) arity rows fits given e = absurd (no_bool (sym e))
  scan_given (K.Check name c) arity rows fits given e = absurd (no_bool (sym e))
  scan_given (K.Union ls rs) arity rows fits given e = absurd (no_bool (sym e))
  scan_given (K.Limit n k) arity rows fits given e = absurd (no_bool (sym e))
  scan_given (K.LocalLimit n) arity rows fits given e = absurd (no_bool (sym e))
  scan_given (K.PreGroup keys n) arity rows fits given e = absurd (no_bool (sym e))
  scan_given (K.Result columns) arity rows fits given e = absurd (no_bool (sym e))
  scan_given (K.SortBuild keys) arity rows fits given e = absurd (no_bool (sym e))
  scan_given (K.SortEmit keys) arity rows fits given e = absurd (no_bool (sym e))
  scan_given (K.GroupBuild arg) arity rows fits given e = absurd (no_bool (sym e))
  scan_given (K.GroupEmit arg) arity rows fits given e = absurd (no_bool (sym e))
  scan_given (K.JoinBuild arg) arity rows fits given e = absurd (no_bool (sym e))
  scan_given (K.JoinProbe arg) arity rows fits given e = absurd (no_bool (sym e))
  scan_given (K.AggPart made) arity rows fits given e = absurd (no_bool (sym e))
  scan_given (K.AggFinal made) arity rows fits given e = absurd (no_bool (sym e))
