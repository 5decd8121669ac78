-- Plans whose root is a result.
use Rattle.std.proofs.Common.{◌≡◌, ℕ, Bool, true, false, Option, Some, None, List, refl, ap, sym, ◌∙◌}
use Rattle.std.specs.Prelude.{nat_eq, if◌then◌else◌}
use Rattle.al_plan.specs.declared.expr.Var.{Var}
use Rattle.al_plan.proofs.Bools.{no}
use Rattle.al_phys.specs.declared.property.Partitioning.{Partitioning}
use Rattle.al_phys.specs.declared.property.Partitioning.TheVariants as D
use Rattle.al_phys.specs.declared.phys.Phys.{Phys, map-Phys, roll-Phys, out-Phys}
use Rattle.al_phys.specs.declared.phys.Phys.TheOpen as L
use Rattle.al_phys.specs.Operators.{phys_live, phys_result, result_step}
use Rattle.al_phys.specs.Properties.{parts_of, spread_of}
use Rattle.al_phys.proofs.OperatorLaws.{plive-roll, presult-roll}
use Rattle.al_phys.proofs.PropertyLaws.{spread-roll}
use Rattle.al_jobgen.specs.Columns.{is_none}
use Rattle.al_jobgen.proofs.PieceForms.{rolled}

-- what delivers all rows in one part does so on any number of partitions
pub one_part : (p : Phys) (n : ℕ) → (spread_of p).by ≡ D.Unpartitioned → parts_of p n ≡ D.Unpartitioned
one_part p n e = one (nat_eq n 1) (spread_of p).by e
  where
    one : (b : Bool) (d : Partitioning) → d ≡ D.Unpartitioned → (if b then D.Unpartitioned else d) ≡ D.Unpartitioned
    one true d h = refl
    one false d h = h

some_same : (xs ys : List Var) → Some xs ≡ Some ys → xs ≡ ys
some_same xs ys e = ap (get xs) e
  where
    get : List Var → Option (List Var) → List Var
    get d None = d
    get d (Some zs) = zs

result_of : (vars : List Var) (y : L.Phys-F Phys) → result_step (map-Phys Phys (Option (List Var)) phys_result y) ≡ Some vars → (q : Phys) × (y ≡ L.Result vars q)
result_of vars (L.Scan set vs) h = absurd (no (ap is_none h))
result_of vars L.One h = absurd (no (ap is_none h))
result_of vars (L.Assign ms q) h = absurd (no (ap is_none h))
result_of vars (L.Select c q) h = absurd (no (ap is_none h))
result_of vars (L.Project vs q) h = absurd (no (ap is_none h))
result_of vars (L.Unnest v its q) h = absurd (no (ap is_none h))
result_of vars (L.Subplan inner q) h = absurd (no (ap is_none h))
result_of vars (L.Check own c q) h = absurd (no (ap is_none h))
result_of vars (L.Join how c l r) h = absurd (no (ap is_none h))
result_of vars (L.HashGroup keys inner q) h = absurd (no (ap is_none h))
result_of vars (L.PreGroup keys inner q) h = absurd (no (ap is_none h))
result_of vars (L.HashDistinct q) h = absurd (no (ap is_none h))
result_of vars (L.AggPart ms q) h = absurd (no (ap is_none h))
result_of vars (L.AggFinal ms q) h = absurd (no (ap is_none h))
result_of vars (L.Union ms ls rs l r) h = absurd (no (ap is_none h))
result_of vars (L.Sort keys q) h = absurd (no (ap is_none h))
result_of vars (L.Limit m k q) h = absurd (no (ap is_none h))
result_of vars (L.LocalLimit m q) h = absurd (no (ap is_none h))
result_of vars (L.Result vs q) h = (q, ap (λ (ws : List Var). L.Result ws q) (some_same vs vars h))
result_of vars (L.HashExchange vs q) h = absurd (no (ap is_none h))
result_of vars (L.Broadcast q) h = absurd (no (ap is_none h))
result_of vars (L.Gather q) h = absurd (no (ap is_none h))
result_of vars (L.Merge keys q) h = absurd (no (ap is_none h))

pub is_result : (p : Phys) (vars : List Var) → phys_result p ≡ Some vars → (q : Phys) × (out-Phys p ≡ L.Result vars q)
is_result p vars e = result_of vars (out-Phys p) (sym (presult-roll (out-Phys p)) ∙ ap phys_result (rolled p) ∙ e)

-- its variables are those of its list
pub result_live : (p : Phys) (vars : List Var) → phys_result p ≡ Some vars → phys_live p ≡ vars
result_live p vars e = let r = is_result p vars e in ap phys_live (sym (rolled p)) ∙ ap (λ (y : L.Phys-F Phys). phys_live (roll-Phys y)) r.1 ∙ plive-roll (L.Result vars r.0)

-- a result delivers all rows in one part
pub result_parts : (p : Phys) (vars : List Var) (n : ℕ) → phys_result p ≡ Some vars → parts_of p n ≡ D.Unpartitioned
result_parts p vars n e =
    let r = is_result p vars e in
    one_part p n (ap (λ (z : Phys). (spread_of z).by) (sym (rolled p)) ∙ ap (λ (y : L.Phys-F Phys). (spread_of (roll-Phys y)).by) r.1 ∙ spread-roll (L.Result vars r.0))
