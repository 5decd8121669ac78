-- A check that received a row which is not TRUE faults in the plan.
use Rattle.std.proofs.Common.{◌≡◌, ◌⊎◌, inl, inr, ◌<◌, ◌+◌, ℕ, true, false, List, map, length, refl, ap, sym, subst, ◌∙◌, ⊎_elim}
use Rattle.std.specs.List.{Contains, range_with_len}
use Rattle.std.proofs.lemmas.List.Elements.{All-contains, Contains-append_cases}
use Rattle.al_plan.specs.declared.expr.Expr.{Expr}
use Rattle.al_plan.specs.Eval.{Bytes, bind}
use Rattle.al_plan.specs.Allows.{Sets}
use Rattle.al_plan.specs.Refines.{NoTwice, Fills}
use Rattle.al_phys.specs.declared.phys.Phys.{Phys, roll-Phys, out-Phys}
use Rattle.al_phys.specs.declared.phys.Phys.TheVariants as Q
use Rattle.al_phys.specs.declared.phys.Phys.TheOpen as L
use Rattle.al_phys.specs.Operators.{phys_live, phys_scans, operators}
use Rattle.al_phys.specs.PAllows.{PFaulting, PFaults}
use Rattle.al_phys.specs.Placed.{Placed}
use Rattle.al_phys.proofs.GoodLaws.{Good, placed_good}
use Rattle.al_phys.proofs.LiveLaws.{laid_here, laid_below}
use Rattle.al_phys.proofs.OperatorLaws.{pmakes-roll}
use Rattle.al_phys.proofs.PhysLaws.{PFaultLayer, pfaults-roll}
use Rattle.hy_job.specs.Columns.{Row, holds}
use Rattle.hy_job.proofs.Members.{in_cases, in_none}
use Rattle.hy_job.proofs.Pairs.{in_map, in_range}
use Rattle.al_jobgen.specs.JobOf.{Piece, piece_of, last_of}
use Rattle.al_jobgen.specs.Added.{activities_from}
use Rattle.al_jobgen.specs.Shapes.{Form, Source, Over, Both, form}
use Rattle.al_jobgen.proofs.ColumnLaws.{condition}
use Rattle.al_jobgen.proofs.PieceForms.{form_below, operators_form, piece-roll, rolled}
use Rattle.al_jobgen.proofs.SoundWhole.{Inputs, by_form}
use Rattle.al_jobgen.specs.Columns.{rex_of}
use Rattle.al_jobgen.specs.JobOf as J
use Rattle.al_jobgen.specs.Agree.{IsAsWide}
use Rattle.hy_job.specs.declared.job.Kind.TheVariants as K
use Rattle.hy_job.specs.declared.job.Wire.TheVariants as W
use Rattle.al_answer.specs.Flow.{Flow, Flows, IsAllowed, bound}
use Rattle.al_answer.specs.Fault.{ChecksFault}
use Rattle.al_answer.proofs.Pieces.{RunsIn, last_one}
use Rattle.al_answer.proofs.Induction.{check_receives}

-- ---- a fault of a part is one of the whole

module _ (sets : Sets) (n : ℕ) (name : Bytes) where
  -- an input faults
  abbrev InputFaults : Form → Type 0
  InputFaults Source = ⊥
  InputFaults (Over p) = PFaults p sets n name
  InputFaults (Both l r) = PFaults l sets n name ⊎ PFaults r sets n name

  faults_over : (y : L.Phys-F Phys) → InputFaults (form y) → PFaultLayer y sets n name
  faults_over (L.Scan set vars) f = f
  faults_over L.One f = f
  faults_over (L.Assign ms p) f = f
  faults_over (L.Select c p) f = f
  faults_over (L.Project vars p) f = f
  faults_over (L.Unnest v its p) f = f
  faults_over (L.Subplan inner p) f = f
  faults_over (L.Check own c p) f = inr f
  faults_over (L.Join how c l r) f = f
  faults_over (L.HashGroup keys inner p) f = f
  faults_over (L.PreGroup keys inner p) f = f
  faults_over (L.HashDistinct p) f = f
  faults_over (L.AggPart ms p) f = f
  faults_over (L.AggFinal ms p) f = f
  faults_over (L.Union ms ls rs l r) f = f
  faults_over (L.Sort keys p) f = f
  faults_over (L.Limit m k p) f = f
  faults_over (L.LocalLimit m p) f = f
  faults_over (L.Result vars p) f = f
  faults_over (L.HashExchange vars p) f = f
  faults_over (L.Broadcast p) f = f
  faults_over (L.Gather p) f = f
  faults_over (L.Merge keys p) f = f

  abbrev pub PartFaults : Phys → Type 0
  PartFaults p = (q : Phys) → Contains (operators p) q → PFaults q sets n name → PFaults p sets n name

  below_faults : (f : Form) → Inputs PartFaults f → (q : Phys) → Contains (form_below f) q → PFaults q sets n name → InputFaults f
  below_faults Source i q m h = in_none q m
  below_faults (Over p) i q m h = i q m h
  below_faults (Both l r) i q m h = ⊎_elim (λ (a : Contains (operators l) q). inl (i.0 q a h)) (λ (b : Contains (operators r) q). inr (i.1 q b h)) (Contains-append_cases (operators l) (operators r) q m)

  up : (p : Phys) → PFaultLayer (out-Phys p) sets n name → PFaults p sets n name
  up p h = subst (λ (q : Phys). PFaults q sets n name) (rolled p) (subst (λ (f : PFaulting). f sets n name) (sym (pfaults-roll (out-Phys p))) h)

  pub part_faults : (p : Phys) → PartFaults p
  part_faults = by_form PartFaults (λ p i q m h.
      ⊎_elim
      (λ (here : p ≡ q). subst (λ (z : Phys). PFaults z sets n name) (sym here) h)
      (λ (there : Contains (form_below (form (out-Phys p))) q). up p (faults_over (out-Phys p) (below_faults (form (out-Phys p)) i q there h)))
      (in_cases p q (form_below (form (out-Phys p))) (subst (λ (ps : List Phys). Contains ps q) (operators_form p) m)))

-- ---- a check

module _ (name : Bytes) (c : Expr) (p : Phys) where
  pub last_check : (start : ℕ) → last_of (piece_of (roll-Phys (L.Check name c p))) start ≡ start + length (piece_of p).steps
  last_check start = ap (λ (q : Piece). last_of q start) (piece-roll (L.Check name c p)) ∙ last_one (piece_of p) (J.step (K.Check name (rex_of (phys_live p) c)) (length (phys_live (roll-Phys (L.Check name c p))))) W.OneToOne start

  module _ (whole : Phys) (n : ℕ) (sets : Sets) (flow : Flow) (start : ℕ) (some : 0 < n) (placed : Placed whole n) (part : Contains (operators whole) (Q.Check name c p)) (fills : Fills (phys_scans p) sets)
      (f : Flows n true sets flow (activities_from start (piece_of (Q.Check name c p)).steps) ((piece_of (Q.Check name c p)).edges start) ((piece_of (Q.Check name c p)).blocks start)) where
    good : Good n (roll-Phys (L.Check name c p))
    good = subst (Good n) (sym (Q.rolls-Check name c p)) (placed_good whole (Q.Check name c p) n placed part)

    -- where its rows come
    abbrev to : ℕ
    to = start + length (piece_of p).steps

    receives : IsAllowed p true sets n (λ j. flow.received (start + length (piece_of p).steps) j 0)
    receives =
        check_receives n some true sets flow name c p start (laid_here n (L.Check name c p) good.laid).0 (laid_below n (L.Check name c p) good.laid) (subst NoTwice (pmakes-roll (L.Check name c p)) good.once) fills
        (subst (λ (q : Phys). RunsIn n true sets flow (piece_of q) start) (sym (Q.rolls-Check name c p)) f)

    faulty : (j : ℕ) → j < n → (row : Row) → Contains (flow.received (start + length (piece_of p).steps) j 0) row → holds (rex_of (phys_live p) c) row ≡ false → PFaultLayer (L.Check name c p) sets n name
    faulty j lt row m bad = inl (
      refl,
      (
        bound n (phys_live p) (λ k. flow.received to k 0),
        map (bind (phys_live p)) (flow.received to j 0),
        bind (phys_live p) row,
        receives.parts,
        in_map (λ k. map (bind (phys_live p)) (flow.received to k 0)) (range_with_len 0 n) j (in_range n j lt),
        in_map (bind (phys_live p)) (flow.received to j 0) row m,
        sym (condition (phys_live p) row (All-contains (IsAsWide (phys_live p)) (flow.received to j 0) row (receives.wide j lt) m) c) ∙ bad,
      ),
    )

    at_last : last_of (piece_of (Q.Check name c p)) start ≡ start + length (piece_of p).steps
    at_last = ap (λ (q : Phys). last_of (piece_of q) start) (sym (Q.rolls-Check name c p)) ∙ last_check start

pub checks_fault : ChecksFault
checks_fault whole p name c n sets flow start some placed part fills f j lt row m bad =
    let h = faulty name c p whole n sets flow start some placed part fills f j lt row (subst (λ (k : ℕ). Contains (flow.received k j 0) row) (at_last name c p whole n sets flow start some placed part fills f) m) bad in
    part_faults sets n name whole (Q.Check name c p) part
    (subst (λ (q : Phys). PFaults q sets n name) (Q.rolls-Check name c p) (subst (λ (g : PFaulting). g sets n name) (sym (pfaults-roll (L.Check name c p))) h))
