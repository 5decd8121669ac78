-- What a physical plan allows and what faults in it, at each operator.
use Rattle.std.proofs.Common.{◌≡◌, ℕ, Bool, List, refl, ap, sym, subst, ◌∙◌}
use Rattle.al_phys.specs.declared.phys.Phys.{Phys, map-Phys, roll-Phys, rec-roll-Phys}
use Rattle.al_plan.specs.declared.expr.Var.{Var}
use Rattle.al_plan.specs.declared.expr.Expr.{Expr}
use Rattle.al_plan.specs.declared.plan.OrderKey.{OrderKey}
use Rattle.al_plan.specs.declared.plan.AggCall.{AggCall}
use Rattle.al_plan.specs.declared.plan.Generator.{Generator}
use Rattle.al_plan.specs.declared.plan.Plan.{Plan}
use Rattle.al_plan.specs.Eval.{Bytes}
use Rattle.al_plan.specs.Allows.{Sets}
use Rattle.al_phys.specs.declared.phys.JoinForm.{JoinForm}
use Rattle.al_phys.specs.declared.phys.Phys.TheVariants as P
use Rattle.al_phys.specs.declared.phys.Phys.TheOpen as L
use Rattle.al_phys.specs.Parts.{Parts}
use Rattle.al_phys.specs.PAllows.{PAllowing, PAllows, pallows_step, PFaulting, PFaults, pfaults_step}

natural : (X : Type 0) (up : X → Phys) (fn : Phys → PAllowing) (x : L.Phys-F X) → pallows_step X up (λ p. fn (up p)) x ≡ pallows_step Phys (λ p. p) fn (map-Phys X Phys up x)
natural X up fn (L.Scan set vars) = refl
natural X up fn L.One = refl
natural X up fn (L.Assign made p) = refl
natural X up fn (L.Select c p) = refl
natural X up fn (L.Project vars p) = refl
natural X up fn (L.Unnest v its p) = refl
natural X up fn (L.Subplan inner p) = refl
natural X up fn (L.Check own c p) = refl
natural X up fn (L.Join form c l r) = refl
natural X up fn (L.HashGroup keys inner p) = refl
natural X up fn (L.PreGroup keys inner p) = refl
natural X up fn (L.HashDistinct p) = refl
natural X up fn (L.AggPart made p) = refl
natural X up fn (L.AggFinal made p) = refl
natural X up fn (L.Union made ls rs l r) = refl
natural X up fn (L.Sort keys p) = refl
natural X up fn (L.Limit m k p) = refl
natural X up fn (L.LocalLimit m p) = refl
natural X up fn (L.Result vars p) = refl
natural X up fn (L.HashExchange vars p) = refl
natural X up fn (L.Broadcast p) = refl
natural X up fn (L.Gather p) = refl
natural X up fn (L.Merge keys p) = refl

natural_faults : (X : Type 0) (up : X → Phys) (fn : Phys → PFaulting) (x : L.Phys-F X) → pfaults_step X up (λ p. fn (up p)) x ≡ pfaults_step Phys (λ p. p) fn (map-Phys X Phys up x)
natural_faults X up fn (L.Scan set vars) = refl
natural_faults X up fn L.One = refl
natural_faults X up fn (L.Assign made p) = refl
natural_faults X up fn (L.Select c p) = refl
natural_faults X up fn (L.Project vars p) = refl
natural_faults X up fn (L.Unnest v its p) = refl
natural_faults X up fn (L.Subplan inner p) = refl
natural_faults X up fn (L.Check own c p) = refl
natural_faults X up fn (L.Join form c l r) = refl
natural_faults X up fn (L.HashGroup keys inner p) = refl
natural_faults X up fn (L.PreGroup keys inner p) = refl
natural_faults X up fn (L.HashDistinct p) = refl
natural_faults X up fn (L.AggPart made p) = refl
natural_faults X up fn (L.AggFinal made p) = refl
natural_faults X up fn (L.Union made ls rs l r) = refl
natural_faults X up fn (L.Sort keys p) = refl
natural_faults X up fn (L.Limit m k p) = refl
natural_faults X up fn (L.LocalLimit m p) = refl
natural_faults X up fn (L.Result vars p) = refl
natural_faults X up fn (L.HashExchange vars p) = refl
natural_faults X up fn (L.Broadcast p) = refl
natural_faults X up fn (L.Gather p) = refl
natural_faults X up fn (L.Merge keys p) = refl

-- what a physical plan allows is what its layer says of its inputs
abbrev pub PLayer : L.Phys-F Phys → PAllowing
PLayer x = pallows_step Phys (λ q. q) PAllows x

pub pallows-roll : (x : L.Phys-F Phys) → PAllows (roll-Phys x) ≡ PLayer x
unfolding PAllows
pallows-roll x = rec-roll-Phys PAllowing pallows_step natural x

pub punroll : (x : L.Phys-F Phys) (b : Bool) (sets : Sets) (n : ℕ) (parts : Parts) → PAllows (roll-Phys x) b sets n parts → PLayer x b sets n parts
punroll x b sets n parts h = subst (λ (a : PAllowing). a b sets n parts) (pallows-roll x) h

out : (x : L.Phys-F Phys) (p : Phys) → roll-Phys x ≡ p → (b : Bool) (sets : Sets) (n : ℕ) (parts : Parts) → PAllows p b sets n parts → PLayer x b sets n parts
out x p e b sets n parts h = punroll x b sets n parts (subst (λ (q : Phys). PAllows q b sets n parts) (sym e) h)

abbrev pub PFaultLayer : L.Phys-F Phys → PFaulting
PFaultLayer x = pfaults_step Phys (λ q. q) PFaults x

pub pfaults-roll : (x : L.Phys-F Phys) → PFaults (roll-Phys x) ≡ PFaultLayer x
unfolding PFaults
pfaults-roll x = rec-roll-Phys PFaulting pfaults_step natural_faults x

pub pfrom_Scan : (set : Bytes) (vars : List Var) (b : Bool) (sets : Sets) (n : ℕ) (parts : Parts) → PAllows (P.Scan set vars) b sets n parts → PLayer (L.Scan set vars) b sets n parts
pfrom_Scan set vars b sets n parts h = out (L.Scan set vars) _ (P.rolls-Scan set vars) b sets n parts h

pub pfaults-Scan : (set : Bytes) (vars : List Var) (sets : Sets) (n : ℕ) (what : Bytes) → PFaults (P.Scan set vars) sets n what ≡ PFaultLayer (L.Scan set vars) sets n what
pfaults-Scan set vars sets n what = ap (λ (f : PFaulting). f sets n what) (ap PFaults (sym (P.rolls-Scan set vars)) ∙ pfaults-roll (L.Scan set vars))

pub pfrom_One : (b : Bool) (sets : Sets) (n : ℕ) (parts : Parts) → PAllows P.One b sets n parts → PLayer L.One b sets n parts
pfrom_One b sets n parts h = out L.One _ (P.rolls-One) b sets n parts h

pub pfaults-One : (sets : Sets) (n : ℕ) (what : Bytes) → PFaults P.One sets n what ≡ PFaultLayer L.One sets n what
pfaults-One sets n what = ap (λ (f : PFaulting). f sets n what) (ap PFaults (sym (P.rolls-One)) ∙ pfaults-roll L.One)

pub pfrom_Assign : (made : List (Var × Expr)) (p : Phys) (b : Bool) (sets : Sets) (n : ℕ) (parts : Parts) → PAllows (P.Assign made p) b sets n parts → PLayer (L.Assign made p) b sets n parts
pfrom_Assign made p b sets n parts h = out (L.Assign made p) _ (P.rolls-Assign made p) b sets n parts h

pub pfaults-Assign : (made : List (Var × Expr)) (p : Phys) (sets : Sets) (n : ℕ) (what : Bytes) → PFaults (P.Assign made p) sets n what ≡ PFaultLayer (L.Assign made p) sets n what
pfaults-Assign made p sets n what = ap (λ (f : PFaulting). f sets n what) (ap PFaults (sym (P.rolls-Assign made p)) ∙ pfaults-roll (L.Assign made p))

pub pfrom_Select : (c : Expr) (p : Phys) (b : Bool) (sets : Sets) (n : ℕ) (parts : Parts) → PAllows (P.Select c p) b sets n parts → PLayer (L.Select c p) b sets n parts
pfrom_Select c p b sets n parts h = out (L.Select c p) _ (P.rolls-Select c p) b sets n parts h

pub pfaults-Select : (c : Expr) (p : Phys) (sets : Sets) (n : ℕ) (what : Bytes) → PFaults (P.Select c p) sets n what ≡ PFaultLayer (L.Select c p) sets n what
pfaults-Select c p sets n what = ap (λ (f : PFaulting). f sets n what) (ap PFaults (sym (P.rolls-Select c p)) ∙ pfaults-roll (L.Select c p))

pub pfrom_Project : (vars : List Var) (p : Phys) (b : Bool) (sets : Sets) (n : ℕ) (parts : Parts) → PAllows (P.Project vars p) b sets n parts → PLayer (L.Project vars p) b sets n parts
pfrom_Project vars p b sets n parts h = out (L.Project vars p) _ (P.rolls-Project vars p) b sets n parts h

pub pfaults-Project : (vars : List Var) (p : Phys) (sets : Sets) (n : ℕ) (what : Bytes) → PFaults (P.Project vars p) sets n what ≡ PFaultLayer (L.Project vars p) sets n what
pfaults-Project vars p sets n what = ap (λ (f : PFaulting). f sets n what) (ap PFaults (sym (P.rolls-Project vars p)) ∙ pfaults-roll (L.Project vars p))

pub pfrom_Unnest : (v : Var) (its : Generator) (p : Phys) (b : Bool) (sets : Sets) (n : ℕ) (parts : Parts) → PAllows (P.Unnest v its p) b sets n parts → PLayer (L.Unnest v its p) b sets n parts
pfrom_Unnest v its p b sets n parts h = out (L.Unnest v its p) _ (P.rolls-Unnest v its p) b sets n parts h

pub pfaults-Unnest : (v : Var) (its : Generator) (p : Phys) (sets : Sets) (n : ℕ) (what : Bytes) → PFaults (P.Unnest v its p) sets n what ≡ PFaultLayer (L.Unnest v its p) sets n what
pfaults-Unnest v its p sets n what = ap (λ (f : PFaulting). f sets n what) (ap PFaults (sym (P.rolls-Unnest v its p)) ∙ pfaults-roll (L.Unnest v its p))

pub pfrom_Subplan : (inner : Plan) (p : Phys) (b : Bool) (sets : Sets) (n : ℕ) (parts : Parts) → PAllows (P.Subplan inner p) b sets n parts → PLayer (L.Subplan inner p) b sets n parts
pfrom_Subplan inner p b sets n parts h = out (L.Subplan inner p) _ (P.rolls-Subplan inner p) b sets n parts h

pub pfaults-Subplan : (inner : Plan) (p : Phys) (sets : Sets) (n : ℕ) (what : Bytes) → PFaults (P.Subplan inner p) sets n what ≡ PFaultLayer (L.Subplan inner p) sets n what
pfaults-Subplan inner p sets n what = ap (λ (f : PFaulting). f sets n what) (ap PFaults (sym (P.rolls-Subplan inner p)) ∙ pfaults-roll (L.Subplan inner p))

pub pfrom_Check : (own : Bytes) (c : Expr) (p : Phys) (b : Bool) (sets : Sets) (n : ℕ) (parts : Parts) → PAllows (P.Check own c p) b sets n parts → PLayer (L.Check own c p) b sets n parts
pfrom_Check own c p b sets n parts h = out (L.Check own c p) _ (P.rolls-Check own c p) b sets n parts h

pub pfaults-Check : (own : Bytes) (c : Expr) (p : Phys) (sets : Sets) (n : ℕ) (what : Bytes) → PFaults (P.Check own c p) sets n what ≡ PFaultLayer (L.Check own c p) sets n what
pfaults-Check own c p sets n what = ap (λ (f : PFaulting). f sets n what) (ap PFaults (sym (P.rolls-Check own c p)) ∙ pfaults-roll (L.Check own c p))

pub pfrom_Join : (form : JoinForm) (c : Expr) (l : Phys) (r : Phys) (b : Bool) (sets : Sets) (n : ℕ) (parts : Parts) → PAllows (P.Join form c l r) b sets n parts → PLayer (L.Join form c l r) b sets n parts
pfrom_Join form c l r b sets n parts h = out (L.Join form c l r) _ (P.rolls-Join form c l r) b sets n parts h

pub pfaults-Join : (form : JoinForm) (c : Expr) (l : Phys) (r : Phys) (sets : Sets) (n : ℕ) (what : Bytes) → PFaults (P.Join form c l r) sets n what ≡ PFaultLayer (L.Join form c l r) sets n what
pfaults-Join form c l r sets n what = ap (λ (f : PFaulting). f sets n what) (ap PFaults (sym (P.rolls-Join form c l r)) ∙ pfaults-roll (L.Join form c l r))

pub pfrom_HashGroup : (keys : List (Var × Var)) (inner : Plan) (p : Phys) (b : Bool) (sets : Sets) (n : ℕ) (parts : Parts) → PAllows (P.HashGroup keys inner p) b sets n parts → PLayer (L.HashGroup keys inner p) b sets n parts
pfrom_HashGroup keys inner p b sets n parts h = out (L.HashGroup keys inner p) _ (P.rolls-HashGroup keys inner p) b sets n parts h

pub pfaults-HashGroup : (keys : List (Var × Var)) (inner : Plan) (p : Phys) (sets : Sets) (n : ℕ) (what : Bytes) → PFaults (P.HashGroup keys inner p) sets n what ≡ PFaultLayer (L.HashGroup keys inner p) sets n what
pfaults-HashGroup keys inner p sets n what = ap (λ (f : PFaulting). f sets n what) (ap PFaults (sym (P.rolls-HashGroup keys inner p)) ∙ pfaults-roll (L.HashGroup keys inner p))

pub pfrom_PreGroup : (keys : List (Var × Var)) (inner : Plan) (p : Phys) (b : Bool) (sets : Sets) (n : ℕ) (parts : Parts) → PAllows (P.PreGroup keys inner p) b sets n parts → PLayer (L.PreGroup keys inner p) b sets n parts
pfrom_PreGroup keys inner p b sets n parts h = out (L.PreGroup keys inner p) _ (P.rolls-PreGroup keys inner p) b sets n parts h

pub pfaults-PreGroup : (keys : List (Var × Var)) (inner : Plan) (p : Phys) (sets : Sets) (n : ℕ) (what : Bytes) → PFaults (P.PreGroup keys inner p) sets n what ≡ PFaultLayer (L.PreGroup keys inner p) sets n what
pfaults-PreGroup keys inner p sets n what = ap (λ (f : PFaulting). f sets n what) (ap PFaults (sym (P.rolls-PreGroup keys inner p)) ∙ pfaults-roll (L.PreGroup keys inner p))

pub pfrom_HashDistinct : (p : Phys) (b : Bool) (sets : Sets) (n : ℕ) (parts : Parts) → PAllows (P.HashDistinct p) b sets n parts → PLayer (L.HashDistinct p) b sets n parts
pfrom_HashDistinct p b sets n parts h = out (L.HashDistinct p) _ (P.rolls-HashDistinct p) b sets n parts h

pub pfaults-HashDistinct : (p : Phys) (sets : Sets) (n : ℕ) (what : Bytes) → PFaults (P.HashDistinct p) sets n what ≡ PFaultLayer (L.HashDistinct p) sets n what
pfaults-HashDistinct p sets n what = ap (λ (f : PFaulting). f sets n what) (ap PFaults (sym (P.rolls-HashDistinct p)) ∙ pfaults-roll (L.HashDistinct p))

pub pfrom_AggPart : (made : List (Var × AggCall)) (p : Phys) (b : Bool) (sets : Sets) (n : ℕ) (parts : Parts) → PAllows (P.AggPart made p) b sets n parts → PLayer (L.AggPart made p) b sets n parts
pfrom_AggPart made p b sets n parts h = out (L.AggPart made p) _ (P.rolls-AggPart made p) b sets n parts h

pub pfaults-AggPart : (made : List (Var × AggCall)) (p : Phys) (sets : Sets) (n : ℕ) (what : Bytes) → PFaults (P.AggPart made p) sets n what ≡ PFaultLayer (L.AggPart made p) sets n what
pfaults-AggPart made p sets n what = ap (λ (f : PFaulting). f sets n what) (ap PFaults (sym (P.rolls-AggPart made p)) ∙ pfaults-roll (L.AggPart made p))

pub pfrom_AggFinal : (made : List (Var × AggCall)) (p : Phys) (b : Bool) (sets : Sets) (n : ℕ) (parts : Parts) → PAllows (P.AggFinal made p) b sets n parts → PLayer (L.AggFinal made p) b sets n parts
pfrom_AggFinal made p b sets n parts h = out (L.AggFinal made p) _ (P.rolls-AggFinal made p) b sets n parts h

pub pfaults-AggFinal : (made : List (Var × AggCall)) (p : Phys) (sets : Sets) (n : ℕ) (what : Bytes) → PFaults (P.AggFinal made p) sets n what ≡ PFaultLayer (L.AggFinal made p) sets n what
pfaults-AggFinal made p sets n what = ap (λ (f : PFaulting). f sets n what) (ap PFaults (sym (P.rolls-AggFinal made p)) ∙ pfaults-roll (L.AggFinal made p))

pub pfrom_Union : (made : List Var) (ls : List Var) (rs : List Var) (l : Phys) (r : Phys) (b : Bool) (sets : Sets) (n : ℕ) (parts : Parts) → PAllows (P.Union made ls rs l r) b sets n parts → PLayer (L.Union made ls rs l r) b sets n parts
pfrom_Union made ls rs l r b sets n parts h = out (L.Union made ls rs l r) _ (P.rolls-Union made ls rs l r) b sets n parts h

pub pfaults-Union : (made : List Var) (ls : List Var) (rs : List Var) (l : Phys) (r : Phys) (sets : Sets) (n : ℕ) (what : Bytes) → PFaults (P.Union made ls rs l r) sets n what ≡ PFaultLayer (L.Union made ls rs l r) sets n what
pfaults-Union made ls rs l r sets n what = ap (λ (f : PFaulting). f sets n what) (ap PFaults (sym (P.rolls-Union made ls rs l r)) ∙ pfaults-roll (L.Union made ls rs l r))

pub pfrom_Sort : (keys : List OrderKey) (p : Phys) (b : Bool) (sets : Sets) (n : ℕ) (parts : Parts) → PAllows (P.Sort keys p) b sets n parts → PLayer (L.Sort keys p) b sets n parts
pfrom_Sort keys p b sets n parts h = out (L.Sort keys p) _ (P.rolls-Sort keys p) b sets n parts h

pub pfaults-Sort : (keys : List OrderKey) (p : Phys) (sets : Sets) (n : ℕ) (what : Bytes) → PFaults (P.Sort keys p) sets n what ≡ PFaultLayer (L.Sort keys p) sets n what
pfaults-Sort keys p sets n what = ap (λ (f : PFaulting). f sets n what) (ap PFaults (sym (P.rolls-Sort keys p)) ∙ pfaults-roll (L.Sort keys p))

pub pfrom_Limit : (m : ℕ) (k : ℕ) (p : Phys) (b : Bool) (sets : Sets) (n : ℕ) (parts : Parts) → PAllows (P.Limit m k p) b sets n parts → PLayer (L.Limit m k p) b sets n parts
pfrom_Limit m k p b sets n parts h = out (L.Limit m k p) _ (P.rolls-Limit m k p) b sets n parts h

pub pfaults-Limit : (m : ℕ) (k : ℕ) (p : Phys) (sets : Sets) (n : ℕ) (what : Bytes) → PFaults (P.Limit m k p) sets n what ≡ PFaultLayer (L.Limit m k p) sets n what
pfaults-Limit m k p sets n what = ap (λ (f : PFaulting). f sets n what) (ap PFaults (sym (P.rolls-Limit m k p)) ∙ pfaults-roll (L.Limit m k p))

pub pfrom_LocalLimit : (m : ℕ) (p : Phys) (b : Bool) (sets : Sets) (n : ℕ) (parts : Parts) → PAllows (P.LocalLimit m p) b sets n parts → PLayer (L.LocalLimit m p) b sets n parts
pfrom_LocalLimit m p b sets n parts h = out (L.LocalLimit m p) _ (P.rolls-LocalLimit m p) b sets n parts h

pub pfaults-LocalLimit : (m : ℕ) (p : Phys) (sets : Sets) (n : ℕ) (what : Bytes) → PFaults (P.LocalLimit m p) sets n what ≡ PFaultLayer (L.LocalLimit m p) sets n what
pfaults-LocalLimit m p sets n what = ap (λ (f : PFaulting). f sets n what) (ap PFaults (sym (P.rolls-LocalLimit m p)) ∙ pfaults-roll (L.LocalLimit m p))

pub pfrom_Result : (vars : List Var) (p : Phys) (b : Bool) (sets : Sets) (n : ℕ) (parts : Parts) → PAllows (P.Result vars p) b sets n parts → PLayer (L.Result vars p) b sets n parts
pfrom_Result vars p b sets n parts h = out (L.Result vars p) _ (P.rolls-Result vars p) b sets n parts h

pub pfaults-Result : (vars : List Var) (p : Phys) (sets : Sets) (n : ℕ) (what : Bytes) → PFaults (P.Result vars p) sets n what ≡ PFaultLayer (L.Result vars p) sets n what
pfaults-Result vars p sets n what = ap (λ (f : PFaulting). f sets n what) (ap PFaults (sym (P.rolls-Result vars p)) ∙ pfaults-roll (L.Result vars p))

pub pfrom_HashExchange : (vars : List Var) (p : Phys) (b : Bool) (sets : Sets) (n : ℕ) (parts : Parts) → PAllows (P.HashExchange vars p) b sets n parts → PLayer (L.HashExchange vars p) b sets n parts
pfrom_HashExchange vars p b sets n parts h = out (L.HashExchange vars p) _ (P.rolls-HashExchange vars p) b sets n parts h

pub pfaults-HashExchange : (vars : List Var) (p : Phys) (sets : Sets) (n : ℕ) (what : Bytes) → PFaults (P.HashExchange vars p) sets n what ≡ PFaultLayer (L.HashExchange vars p) sets n what
pfaults-HashExchange vars p sets n what = ap (λ (f : PFaulting). f sets n what) (ap PFaults (sym (P.rolls-HashExchange vars p)) ∙ pfaults-roll (L.HashExchange vars p))

pub pfrom_Broadcast : (p : Phys) (b : Bool) (sets : Sets) (n : ℕ) (parts : Parts) → PAllows (P.Broadcast p) b sets n parts → PLayer (L.Broadcast p) b sets n parts
pfrom_Broadcast p b sets n parts h = out (L.Broadcast p) _ (P.rolls-Broadcast p) b sets n parts h

pub pfaults-Broadcast : (p : Phys) (sets : Sets) (n : ℕ) (what : Bytes) → PFaults (P.Broadcast p) sets n what ≡ PFaultLayer (L.Broadcast p) sets n what
pfaults-Broadcast p sets n what = ap (λ (f : PFaulting). f sets n what) (ap PFaults (sym (P.rolls-Broadcast p)) ∙ pfaults-roll (L.Broadcast p))

pub pfrom_Gather : (p : Phys) (b : Bool) (sets : Sets) (n : ℕ) (parts : Parts) → PAllows (P.Gather p) b sets n parts → PLayer (L.Gather p) b sets n parts
pfrom_Gather p b sets n parts h = out (L.Gather p) _ (P.rolls-Gather p) b sets n parts h

pub pfaults-Gather : (p : Phys) (sets : Sets) (n : ℕ) (what : Bytes) → PFaults (P.Gather p) sets n what ≡ PFaultLayer (L.Gather p) sets n what
pfaults-Gather p sets n what = ap (λ (f : PFaulting). f sets n what) (ap PFaults (sym (P.rolls-Gather p)) ∙ pfaults-roll (L.Gather p))

pub pfrom_Merge : (keys : List OrderKey) (p : Phys) (b : Bool) (sets : Sets) (n : ℕ) (parts : Parts) → PAllows (P.Merge keys p) b sets n parts → PLayer (L.Merge keys p) b sets n parts
pfrom_Merge keys p b sets n parts h = out (L.Merge keys p) _ (P.rolls-Merge keys p) b sets n parts h

pub pfaults-Merge : (keys : List OrderKey) (p : Phys) (sets : Sets) (n : ℕ) (what : Bytes) → PFaults (P.Merge keys p) sets n what ≡ PFaultLayer (L.Merge keys p) sets n what
pfaults-Merge keys p sets n what = ap (λ (f : PFaulting). f sets n what) (ap PFaults (sym (P.rolls-Merge keys p)) ∙ pfaults-roll (L.Merge keys p))
