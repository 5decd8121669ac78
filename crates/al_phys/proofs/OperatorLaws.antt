-- What a physical plan consists of, at each operator.
use Rattle.std.proofs.Common.{◌≡◌, ℕ, Bool, List, [], ◌∷◌, ◌++◌, refl, ap, sym, ◌∙◌, Option}
use Rattle.al_plan.specs.Refines.{Scan}
use Rattle.al_phys.specs.declared.phys.Phys.{Phys, map-Phys, roll-Phys, out-Phys, out-roll-Phys, fold-roll-Phys, rec-roll-Phys}
use Rattle.al_plan.specs.declared.expr.Var.{Var}
use Rattle.al_plan.specs.declared.expr.Expr.{Expr}
use Rattle.al_plan.specs.declared.plan.OrderKey.{OrderKey}
use Rattle.al_plan.specs.declared.plan.AggCall.{AggCall}
use Rattle.al_plan.specs.declared.plan.Generator.{Generator}
use Rattle.al_plan.specs.declared.plan.Plan.{Plan}
use Rattle.al_plan.specs.Eval.{Bytes}
use Rattle.al_phys.specs.declared.phys.JoinForm.{JoinForm}
use Rattle.al_phys.specs.declared.phys.Phys.TheVariants as P
use Rattle.al_phys.specs.declared.phys.Phys.TheOpen as L
use Rattle.al_phys.specs.Operators.{phys_live, live_step, phys_scans, scans_step, phys_makes, makes_step, phys_result, result_step, is_exchange, exchange_step, Listed, listed, operators, operators_step, below}

natural_listed : (X : Type 0) (up : X → Phys) (fn : Phys → Listed) (x : L.Phys-F X) → operators_step X up (λ p. fn (up p)) x ≡ operators_step Phys (λ p. p) fn (map-Phys X Phys up x)
natural_listed X up fn (L.Scan set vars) = refl
natural_listed X up fn L.One = refl
natural_listed X up fn (L.Assign made p) = refl
natural_listed X up fn (L.Select c p) = refl
natural_listed X up fn (L.Project vars p) = refl
natural_listed X up fn (L.Unnest v its p) = refl
natural_listed X up fn (L.Subplan inner p) = refl
natural_listed X up fn (L.Check own c p) = refl
natural_listed X up fn (L.Join form c l r) = refl
natural_listed X up fn (L.HashGroup keys inner p) = refl
natural_listed X up fn (L.PreGroup keys inner p) = refl
natural_listed X up fn (L.HashDistinct p) = refl
natural_listed X up fn (L.AggPart made p) = refl
natural_listed X up fn (L.AggFinal made p) = refl
natural_listed X up fn (L.Union made ls rs l r) = refl
natural_listed X up fn (L.Sort keys p) = refl
natural_listed X up fn (L.Limit m k p) = refl
natural_listed X up fn (L.LocalLimit m p) = refl
natural_listed X up fn (L.Result vars p) = refl
natural_listed X up fn (L.HashExchange vars p) = refl
natural_listed X up fn (L.Broadcast p) = refl
natural_listed X up fn (L.Gather p) = refl
natural_listed X up fn (L.Merge keys p) = refl

pub operators-roll : (x : L.Phys-F Phys) → operators (roll-Phys x) ≡ roll-Phys (map-Phys Phys Phys (λ q. q) x) ∷ below (map-Phys Phys (List Phys) operators x)
unfolding listed
operators-roll x = ap (λ (l : Listed). l.list) (rec-roll-Phys Listed operators_step natural_listed x)

pub plive-roll : (x : L.Phys-F Phys) → phys_live (roll-Phys x) ≡ live_step (map-Phys Phys (List Var) phys_live x)
unfolding phys_live
plive-roll x = fold-roll-Phys (List Var) live_step x

pub pscans-roll : (x : L.Phys-F Phys) → phys_scans (roll-Phys x) ≡ scans_step (map-Phys Phys (List Scan) phys_scans x)
unfolding phys_scans
pscans-roll x = fold-roll-Phys (List Scan) scans_step x

pub pmakes-roll : (x : L.Phys-F Phys) → phys_makes (roll-Phys x) ≡ makes_step (map-Phys Phys (List Var) phys_makes x)
unfolding phys_makes
pmakes-roll x = fold-roll-Phys (List Var) makes_step x

pub presult-roll : (x : L.Phys-F Phys) → phys_result (roll-Phys x) ≡ result_step (map-Phys Phys (Option (List Var)) phys_result x)
unfolding phys_result
presult-roll x = fold-roll-Phys (Option (List Var)) result_step x

pub exchange-roll : (x : L.Phys-F Phys) → is_exchange (roll-Phys x) ≡ exchange_step (map-Phys Phys Bool is_exchange x)
unfolding is_exchange
exchange-roll x = fold-roll-Phys Bool exchange_step x

pub plive-Scan : (set : Bytes) (vars : List Var) → phys_live (P.Scan set vars) ≡ live_step (map-Phys Phys (List Var) phys_live (L.Scan set vars))
plive-Scan set vars = ap phys_live (sym (P.rolls-Scan set vars)) ∙ plive-roll (L.Scan set vars)

pub pscans-Scan : (set : Bytes) (vars : List Var) → phys_scans (P.Scan set vars) ≡ scans_step (map-Phys Phys (List Scan) phys_scans (L.Scan set vars))
pscans-Scan set vars = ap phys_scans (sym (P.rolls-Scan set vars)) ∙ pscans-roll (L.Scan set vars)

pub pmakes-Scan : (set : Bytes) (vars : List Var) → phys_makes (P.Scan set vars) ≡ makes_step (map-Phys Phys (List Var) phys_makes (L.Scan set vars))
pmakes-Scan set vars = ap phys_makes (sym (P.rolls-Scan set vars)) ∙ pmakes-roll (L.Scan set vars)

pub presult-Scan : (set : Bytes) (vars : List Var) → phys_result (P.Scan set vars) ≡ result_step (map-Phys Phys (Option (List Var)) phys_result (L.Scan set vars))
presult-Scan set vars = ap phys_result (sym (P.rolls-Scan set vars)) ∙ presult-roll (L.Scan set vars)

pub pexchange-Scan : (set : Bytes) (vars : List Var) → is_exchange (P.Scan set vars) ≡ exchange_step (map-Phys Phys (Bool) is_exchange (L.Scan set vars))
pexchange-Scan set vars = ap is_exchange (sym (P.rolls-Scan set vars)) ∙ exchange-roll (L.Scan set vars)

pub poperators-Scan : (set : Bytes) (vars : List Var) → operators (P.Scan set vars) ≡ (P.Scan set vars) ∷ []
poperators-Scan set vars =
    ap operators (sym (P.rolls-Scan set vars)) ∙ operators-roll (L.Scan set vars) ∙ ap (λ (q : Phys). q ∷ []) (P.rolls-Scan set vars)

pub pout-Scan : (set : Bytes) (vars : List Var) → out-Phys (P.Scan set vars) ≡ (L.Scan set vars)
pout-Scan set vars = ap out-Phys (sym (P.rolls-Scan set vars)) ∙ out-roll-Phys (L.Scan set vars)

pub plive-One : phys_live P.One ≡ live_step (map-Phys Phys (List Var) phys_live L.One)
plive-One = ap phys_live (sym (P.rolls-One)) ∙ plive-roll L.One

pub pscans-One : phys_scans P.One ≡ scans_step (map-Phys Phys (List Scan) phys_scans L.One)
pscans-One = ap phys_scans (sym (P.rolls-One)) ∙ pscans-roll L.One

pub pmakes-One : phys_makes P.One ≡ makes_step (map-Phys Phys (List Var) phys_makes L.One)
pmakes-One = ap phys_makes (sym (P.rolls-One)) ∙ pmakes-roll L.One

pub presult-One : phys_result P.One ≡ result_step (map-Phys Phys (Option (List Var)) phys_result L.One)
presult-One = ap phys_result (sym (P.rolls-One)) ∙ presult-roll L.One

pub pexchange-One : is_exchange P.One ≡ exchange_step (map-Phys Phys (Bool) is_exchange L.One)
pexchange-One = ap is_exchange (sym (P.rolls-One)) ∙ exchange-roll L.One

pub poperators-One : operators P.One ≡ P.One ∷ []
poperators-One =
    ap operators (sym (P.rolls-One)) ∙ operators-roll L.One ∙ ap (λ (q : Phys). q ∷ []) (P.rolls-One)

pub pout-One : out-Phys P.One ≡ L.One
pout-One = ap out-Phys (sym (P.rolls-One)) ∙ out-roll-Phys L.One

pub plive-Assign : (made : List (Var × Expr)) (p : Phys) → phys_live (P.Assign made p) ≡ live_step (map-Phys Phys (List Var) phys_live (L.Assign made p))
plive-Assign made p = ap phys_live (sym (P.rolls-Assign made p)) ∙ plive-roll (L.Assign made p)

pub pscans-Assign : (made : List (Var × Expr)) (p : Phys) → phys_scans (P.Assign made p) ≡ scans_step (map-Phys Phys (List Scan) phys_scans (L.Assign made p))
pscans-Assign made p = ap phys_scans (sym (P.rolls-Assign made p)) ∙ pscans-roll (L.Assign made p)

pub pmakes-Assign : (made : List (Var × Expr)) (p : Phys) → phys_makes (P.Assign made p) ≡ makes_step (map-Phys Phys (List Var) phys_makes (L.Assign made p))
pmakes-Assign made p = ap phys_makes (sym (P.rolls-Assign made p)) ∙ pmakes-roll (L.Assign made p)

pub presult-Assign : (made : List (Var × Expr)) (p : Phys) → phys_result (P.Assign made p) ≡ result_step (map-Phys Phys (Option (List Var)) phys_result (L.Assign made p))
presult-Assign made p = ap phys_result (sym (P.rolls-Assign made p)) ∙ presult-roll (L.Assign made p)

pub pexchange-Assign : (made : List (Var × Expr)) (p : Phys) → is_exchange (P.Assign made p) ≡ exchange_step (map-Phys Phys (Bool) is_exchange (L.Assign made p))
pexchange-Assign made p = ap is_exchange (sym (P.rolls-Assign made p)) ∙ exchange-roll (L.Assign made p)

pub poperators-Assign : (made : List (Var × Expr)) (p : Phys) → operators (P.Assign made p) ≡ (P.Assign made p) ∷ operators p
poperators-Assign made p =
    ap operators (sym (P.rolls-Assign made p)) ∙ operators-roll (L.Assign made p) ∙ ap (λ (q : Phys). q ∷ operators p) (P.rolls-Assign made p)

pub pout-Assign : (made : List (Var × Expr)) (p : Phys) → out-Phys (P.Assign made p) ≡ (L.Assign made p)
pout-Assign made p = ap out-Phys (sym (P.rolls-Assign made p)) ∙ out-roll-Phys (L.Assign made p)

pub plive-Select : (c : Expr) (p : Phys) → phys_live (P.Select c p) ≡ live_step (map-Phys Phys (List Var) phys_live (L.Select c p))
plive-Select c p = ap phys_live (sym (P.rolls-Select c p)) ∙ plive-roll (L.Select c p)

pub pscans-Select : (c : Expr) (p : Phys) → phys_scans (P.Select c p) ≡ scans_step (map-Phys Phys (List Scan) phys_scans (L.Select c p))
pscans-Select c p = ap phys_scans (sym (P.rolls-Select c p)) ∙ pscans-roll (L.Select c p)

pub pmakes-Select : (c : Expr) (p : Phys) → phys_makes (P.Select c p) ≡ makes_step (map-Phys Phys (List Var) phys_makes (L.Select c p))
pmakes-Select c p = ap phys_makes (sym (P.rolls-Select c p)) ∙ pmakes-roll (L.Select c p)

pub presult-Select : (c : Expr) (p : Phys) → phys_result (P.Select c p) ≡ result_step (map-Phys Phys (Option (List Var)) phys_result (L.Select c p))
presult-Select c p = ap phys_result (sym (P.rolls-Select c p)) ∙ presult-roll (L.Select c p)

pub pexchange-Select : (c : Expr) (p : Phys) → is_exchange (P.Select c p) ≡ exchange_step (map-Phys Phys (Bool) is_exchange (L.Select c p))
pexchange-Select c p = ap is_exchange (sym (P.rolls-Select c p)) ∙ exchange-roll (L.Select c p)

pub poperators-Select : (c : Expr) (p : Phys) → operators (P.Select c p) ≡ (P.Select c p) ∷ operators p
poperators-Select c p =
    ap operators (sym (P.rolls-Select c p)) ∙ operators-roll (L.Select c p) ∙ ap (λ (q : Phys). q ∷ operators p) (P.rolls-Select c p)

pub pout-Select : (c : Expr) (p : Phys) → out-Phys (P.Select c p) ≡ (L.Select c p)
pout-Select c p = ap out-Phys (sym (P.rolls-Select c p)) ∙ out-roll-Phys (L.Select c p)

pub plive-Project : (vars : List Var) (p : Phys) → phys_live (P.Project vars p) ≡ live_step (map-Phys Phys (List Var) phys_live (L.Project vars p))
plive-Project vars p = ap phys_live (sym (P.rolls-Project vars p)) ∙ plive-roll (L.Project vars p)

pub pscans-Project : (vars : List Var) (p : Phys) → phys_scans (P.Project vars p) ≡ scans_step (map-Phys Phys (List Scan) phys_scans (L.Project vars p))
pscans-Project vars p = ap phys_scans (sym (P.rolls-Project vars p)) ∙ pscans-roll (L.Project vars p)

pub pmakes-Project : (vars : List Var) (p : Phys) → phys_makes (P.Project vars p) ≡ makes_step (map-Phys Phys (List Var) phys_makes (L.Project vars p))
pmakes-Project vars p = ap phys_makes (sym (P.rolls-Project vars p)) ∙ pmakes-roll (L.Project vars p)

pub presult-Project : (vars : List Var) (p : Phys) → phys_result (P.Project vars p) ≡ result_step (map-Phys Phys (Option (List Var)) phys_result (L.Project vars p))
presult-Project vars p = ap phys_result (sym (P.rolls-Project vars p)) ∙ presult-roll (L.Project vars p)

pub pexchange-Project : (vars : List Var) (p : Phys) → is_exchange (P.Project vars p) ≡ exchange_step (map-Phys Phys (Bool) is_exchange (L.Project vars p))
pexchange-Project vars p = ap is_exchange (sym (P.rolls-Project vars p)) ∙ exchange-roll (L.Project vars p)

pub poperators-Project : (vars : List Var) (p : Phys) → operators (P.Project vars p) ≡ (P.Project vars p) ∷ operators p
poperators-Project vars p =
    ap operators (sym (P.rolls-Project vars p)) ∙ operators-roll (L.Project vars p) ∙ ap (λ (q : Phys). q ∷ operators p) (P.rolls-Project vars p)

pub pout-Project : (vars : List Var) (p : Phys) → out-Phys (P.Project vars p) ≡ (L.Project vars p)
pout-Project vars p = ap out-Phys (sym (P.rolls-Project vars p)) ∙ out-roll-Phys (L.Project vars p)

pub plive-Unnest : (v : Var) (its : Generator) (p : Phys) → phys_live (P.Unnest v its p) ≡ live_step (map-Phys Phys (List Var) phys_live (L.Unnest v its p))
plive-Unnest v its p = ap phys_live (sym (P.rolls-Unnest v its p)) ∙ plive-roll (L.Unnest v its p)

pub pscans-Unnest : (v : Var) (its : Generator) (p : Phys) → phys_scans (P.Unnest v its p) ≡ scans_step (map-Phys Phys (List Scan) phys_scans (L.Unnest v its p))
pscans-Unnest v its p = ap phys_scans (sym (P.rolls-Unnest v its p)) ∙ pscans-roll (L.Unnest v its p)

pub pmakes-Unnest : (v : Var) (its : Generator) (p : Phys) → phys_makes (P.Unnest v its p) ≡ makes_step (map-Phys Phys (List Var) phys_makes (L.Unnest v its p))
pmakes-Unnest v its p = ap phys_makes (sym (P.rolls-Unnest v its p)) ∙ pmakes-roll (L.Unnest v its p)

pub presult-Unnest : (v : Var) (its : Generator) (p : Phys) → phys_result (P.Unnest v its p) ≡ result_step (map-Phys Phys (Option (List Var)) phys_result (L.Unnest v its p))
presult-Unnest v its p = ap phys_result (sym (P.rolls-Unnest v its p)) ∙ presult-roll (L.Unnest v its p)

pub pexchange-Unnest : (v : Var) (its : Generator) (p : Phys) → is_exchange (P.Unnest v its p) ≡ exchange_step (map-Phys Phys (Bool) is_exchange (L.Unnest v its p))
pexchange-Unnest v its p = ap is_exchange (sym (P.rolls-Unnest v its p)) ∙ exchange-roll (L.Unnest v its p)

pub poperators-Unnest : (v : Var) (its : Generator) (p : Phys) → operators (P.Unnest v its p) ≡ (P.Unnest v its p) ∷ operators p
poperators-Unnest v its p =
    ap operators (sym (P.rolls-Unnest v its p)) ∙ operators-roll (L.Unnest v its p) ∙ ap (λ (q : Phys). q ∷ operators p) (P.rolls-Unnest v its p)

pub pout-Unnest : (v : Var) (its : Generator) (p : Phys) → out-Phys (P.Unnest v its p) ≡ (L.Unnest v its p)
pout-Unnest v its p = ap out-Phys (sym (P.rolls-Unnest v its p)) ∙ out-roll-Phys (L.Unnest v its p)

pub plive-Subplan : (inner : Plan) (p : Phys) → phys_live (P.Subplan inner p) ≡ live_step (map-Phys Phys (List Var) phys_live (L.Subplan inner p))
plive-Subplan inner p = ap phys_live (sym (P.rolls-Subplan inner p)) ∙ plive-roll (L.Subplan inner p)

pub pscans-Subplan : (inner : Plan) (p : Phys) → phys_scans (P.Subplan inner p) ≡ scans_step (map-Phys Phys (List Scan) phys_scans (L.Subplan inner p))
pscans-Subplan inner p = ap phys_scans (sym (P.rolls-Subplan inner p)) ∙ pscans-roll (L.Subplan inner p)

pub pmakes-Subplan : (inner : Plan) (p : Phys) → phys_makes (P.Subplan inner p) ≡ makes_step (map-Phys Phys (List Var) phys_makes (L.Subplan inner p))
pmakes-Subplan inner p = ap phys_makes (sym (P.rolls-Subplan inner p)) ∙ pmakes-roll (L.Subplan inner p)

pub presult-Subplan : (inner : Plan) (p : Phys) → phys_result (P.Subplan inner p) ≡ result_step (map-Phys Phys (Option (List Var)) phys_result (L.Subplan inner p))
presult-Subplan inner p = ap phys_result (sym (P.rolls-Subplan inner p)) ∙ presult-roll (L.Subplan inner p)

pub pexchange-Subplan : (inner : Plan) (p : Phys) → is_exchange (P.Subplan inner p) ≡ exchange_step (map-Phys Phys (Bool) is_exchange (L.Subplan inner p))
pexchange-Subplan inner p = ap is_exchange (sym (P.rolls-Subplan inner p)) ∙ exchange-roll (L.Subplan inner p)

pub poperators-Subplan : (inner : Plan) (p : Phys) → operators (P.Subplan inner p) ≡ (P.Subplan inner p) ∷ operators p
poperators-Subplan inner p =
    ap operators (sym (P.rolls-Subplan inner p)) ∙ operators-roll (L.Subplan inner p) ∙ ap (λ (q : Phys). q ∷ operators p) (P.rolls-Subplan inner p)

pub pout-Subplan : (inner : Plan) (p : Phys) → out-Phys (P.Subplan inner p) ≡ (L.Subplan inner p)
pout-Subplan inner p = ap out-Phys (sym (P.rolls-Subplan inner p)) ∙ out-roll-Phys (L.Subplan inner p)

pub plive-Check : (own : Bytes) (c : Expr) (p : Phys) → phys_live (P.Check own c p) ≡ live_step (map-Phys Phys (List Var) phys_live (L.Check own c p))
plive-Check own c p = ap phys_live (sym (P.rolls-Check own c p)) ∙ plive-roll (L.Check own c p)

pub pscans-Check : (own : Bytes) (c : Expr) (p : Phys) → phys_scans (P.Check own c p) ≡ scans_step (map-Phys Phys (List Scan) phys_scans (L.Check own c p))
pscans-Check own c p = ap phys_scans (sym (P.rolls-Check own c p)) ∙ pscans-roll (L.Check own c p)

pub pmakes-Check : (own : Bytes) (c : Expr) (p : Phys) → phys_makes (P.Check own c p) ≡ makes_step (map-Phys Phys (List Var) phys_makes (L.Check own c p))
pmakes-Check own c p = ap phys_makes (sym (P.rolls-Check own c p)) ∙ pmakes-roll (L.Check own c p)

pub presult-Check : (own : Bytes) (c : Expr) (p : Phys) → phys_result (P.Check own c p) ≡ result_step (map-Phys Phys (Option (List Var)) phys_result (L.Check own c p))
presult-Check own c p = ap phys_result (sym (P.rolls-Check own c p)) ∙ presult-roll (L.Check own c p)

pub pexchange-Check : (own : Bytes) (c : Expr) (p : Phys) → is_exchange (P.Check own c p) ≡ exchange_step (map-Phys Phys (Bool) is_exchange (L.Check own c p))
pexchange-Check own c p = ap is_exchange (sym (P.rolls-Check own c p)) ∙ exchange-roll (L.Check own c p)

pub poperators-Check : (own : Bytes) (c : Expr) (p : Phys) → operators (P.Check own c p) ≡ (P.Check own c p) ∷ operators p
poperators-Check own c p =
    ap operators (sym (P.rolls-Check own c p)) ∙ operators-roll (L.Check own c p) ∙ ap (λ (q : Phys). q ∷ operators p) (P.rolls-Check own c p)

pub pout-Check : (own : Bytes) (c : Expr) (p : Phys) → out-Phys (P.Check own c p) ≡ (L.Check own c p)
pout-Check own c p = ap out-Phys (sym (P.rolls-Check own c p)) ∙ out-roll-Phys (L.Check own c p)

pub plive-Join : (form : JoinForm) (c : Expr) (l : Phys) (r : Phys) → phys_live (P.Join form c l r) ≡ live_step (map-Phys Phys (List Var) phys_live (L.Join form c l r))
plive-Join form c l r = ap phys_live (sym (P.rolls-Join form c l r)) ∙ plive-roll (L.Join form c l r)

pub pscans-Join : (form : JoinForm) (c : Expr) (l : Phys) (r : Phys) → phys_scans (P.Join form c l r) ≡ scans_step (map-Phys Phys (List Scan) phys_scans (L.Join form c l r))
pscans-Join form c l r = ap phys_scans (sym (P.rolls-Join form c l r)) ∙ pscans-roll (L.Join form c l r)

pub pmakes-Join : (form : JoinForm) (c : Expr) (l : Phys) (r : Phys) → phys_makes (P.Join form c l r) ≡ makes_step (map-Phys Phys (List Var) phys_makes (L.Join form c l r))
pmakes-Join form c l r = ap phys_makes (sym (P.rolls-Join form c l r)) ∙ pmakes-roll (L.Join form c l r)

pub presult-Join : (form : JoinForm) (c : Expr) (l : Phys) (r : Phys) → phys_result (P.Join form c l r) ≡ result_step (map-Phys Phys (Option (List Var)) phys_result (L.Join form c l r))
presult-Join form c l r = ap phys_result (sym (P.rolls-Join form c l r)) ∙ presult-roll (L.Join form c l r)

pub pexchange-Join : (form : JoinForm) (c : Expr) (l : Phys) (r : Phys) → is_exchange (P.Join form c l r) ≡ exchange_step (map-Phys Phys (Bool) is_exchange (L.Join form c l r))
pexchange-Join form c l r = ap is_exchange (sym (P.rolls-Join form c l r)) ∙ exchange-roll (L.Join form c l r)

pub poperators-Join : (form : JoinForm) (c : Expr) (l : Phys) (r : Phys) → operators (P.Join form c l r) ≡ (P.Join form c l r) ∷ (operators l ++ operators r)
poperators-Join form c l r =
    ap operators (sym (P.rolls-Join form c l r)) ∙ operators-roll (L.Join form c l r) ∙ ap (λ (q : Phys). q ∷ (operators l ++ operators r)) (P.rolls-Join form c l r)

pub pout-Join : (form : JoinForm) (c : Expr) (l : Phys) (r : Phys) → out-Phys (P.Join form c l r) ≡ (L.Join form c l r)
pout-Join form c l r = ap out-Phys (sym (P.rolls-Join form c l r)) ∙ out-roll-Phys (L.Join form c l r)

pub plive-HashGroup : (keys : List (Var × Var)) (inner : Plan) (p : Phys) → phys_live (P.HashGroup keys inner p) ≡ live_step (map-Phys Phys (List Var) phys_live (L.HashGroup keys inner p))
plive-HashGroup keys inner p = ap phys_live (sym (P.rolls-HashGroup keys inner p)) ∙ plive-roll (L.HashGroup keys inner p)

pub pscans-HashGroup : (keys : List (Var × Var)) (inner : Plan) (p : Phys) → phys_scans (P.HashGroup keys inner p) ≡ scans_step (map-Phys Phys (List Scan) phys_scans (L.HashGroup keys inner p))
pscans-HashGroup keys inner p = ap phys_scans (sym (P.rolls-HashGroup keys inner p)) ∙ pscans-roll (L.HashGroup keys inner p)

pub pmakes-HashGroup : (keys : List (Var × Var)) (inner : Plan) (p : Phys) → phys_makes (P.HashGroup keys inner p) ≡ makes_step (map-Phys Phys (List Var) phys_makes (L.HashGroup keys inner p))
pmakes-HashGroup keys inner p = ap phys_makes (sym (P.rolls-HashGroup keys inner p)) ∙ pmakes-roll (L.HashGroup keys inner p)

pub presult-HashGroup : (keys : List (Var × Var)) (inner : Plan) (p : Phys) → phys_result (P.HashGroup keys inner p) ≡ result_step (map-Phys Phys (Option (List Var)) phys_result (L.HashGroup keys inner p))
presult-HashGroup keys inner p = ap phys_result (sym (P.rolls-HashGroup keys inner p)) ∙ presult-roll (L.HashGroup keys inner p)

pub pexchange-HashGroup : (keys : List (Var × Var)) (inner : Plan) (p : Phys) → is_exchange (P.HashGroup keys inner p) ≡ exchange_step (map-Phys Phys (Bool) is_exchange (L.HashGroup keys inner p))
pexchange-HashGroup keys inner p = ap is_exchange (sym (P.rolls-HashGroup keys inner p)) ∙ exchange-roll (L.HashGroup keys inner p)

pub poperators-HashGroup : (keys : List (Var × Var)) (inner : Plan) (p : Phys) → operators (P.HashGroup keys inner p) ≡ (P.HashGroup keys inner p) ∷ operators p
poperators-HashGroup keys inner p =
    ap operators (sym (P.rolls-HashGroup keys inner p)) ∙ operators-roll (L.HashGroup keys inner p) ∙ ap (λ (q : Phys). q ∷ operators p) (P.rolls-HashGroup keys inner p)

pub pout-HashGroup : (keys : List (Var × Var)) (inner : Plan) (p : Phys) → out-Phys (P.HashGroup keys inner p) ≡ (L.HashGroup keys inner p)
pout-HashGroup keys inner p = ap out-Phys (sym (P.rolls-HashGroup keys inner p)) ∙ out-roll-Phys (L.HashGroup keys inner p)

pub plive-PreGroup : (keys : List (Var × Var)) (inner : Plan) (p : Phys) → phys_live (P.PreGroup keys inner p) ≡ live_step (map-Phys Phys (List Var) phys_live (L.PreGroup keys inner p))
plive-PreGroup keys inner p = ap phys_live (sym (P.rolls-PreGroup keys inner p)) ∙ plive-roll (L.PreGroup keys inner p)

pub pscans-PreGroup : (keys : List (Var × Var)) (inner : Plan) (p : Phys) → phys_scans (P.PreGroup keys inner p) ≡ scans_step (map-Phys Phys (List Scan) phys_scans (L.PreGroup keys inner p))
pscans-PreGroup keys inner p = ap phys_scans (sym (P.rolls-PreGroup keys inner p)) ∙ pscans-roll (L.PreGroup keys inner p)

pub pmakes-PreGroup : (keys : List (Var × Var)) (inner : Plan) (p : Phys) → phys_makes (P.PreGroup keys inner p) ≡ makes_step (map-Phys Phys (List Var) phys_makes (L.PreGroup keys inner p))
pmakes-PreGroup keys inner p = ap phys_makes (sym (P.rolls-PreGroup keys inner p)) ∙ pmakes-roll (L.PreGroup keys inner p)

pub presult-PreGroup : (keys : List (Var × Var)) (inner : Plan) (p : Phys) → phys_result (P.PreGroup keys inner p) ≡ result_step (map-Phys Phys (Option (List Var)) phys_result (L.PreGroup keys inner p))
presult-PreGroup keys inner p = ap phys_result (sym (P.rolls-PreGroup keys inner p)) ∙ presult-roll (L.PreGroup keys inner p)

pub pexchange-PreGroup : (keys : List (Var × Var)) (inner : Plan) (p : Phys) → is_exchange (P.PreGroup keys inner p) ≡ exchange_step (map-Phys Phys (Bool) is_exchange (L.PreGroup keys inner p))
pexchange-PreGroup keys inner p = ap is_exchange (sym (P.rolls-PreGroup keys inner p)) ∙ exchange-roll (L.PreGroup keys inner p)

pub poperators-PreGroup : (keys : List (Var × Var)) (inner : Plan) (p : Phys) → operators (P.PreGroup keys inner p) ≡ (P.PreGroup keys inner p) ∷ operators p
poperators-PreGroup keys inner p =
    ap operators (sym (P.rolls-PreGroup keys inner p)) ∙ operators-roll (L.PreGroup keys inner p) ∙ ap (λ (q : Phys). q ∷ operators p) (P.rolls-PreGroup keys inner p)

pub pout-PreGroup : (keys : List (Var × Var)) (inner : Plan) (p : Phys) → out-Phys (P.PreGroup keys inner p) ≡ (L.PreGroup keys inner p)
pout-PreGroup keys inner p = ap out-Phys (sym (P.rolls-PreGroup keys inner p)) ∙ out-roll-Phys (L.PreGroup keys inner p)

pub plive-HashDistinct : (p : Phys) → phys_live (P.HashDistinct p) ≡ live_step (map-Phys Phys (List Var) phys_live (L.HashDistinct p))
plive-HashDistinct p = ap phys_live (sym (P.rolls-HashDistinct p)) ∙ plive-roll (L.HashDistinct p)

pub pscans-HashDistinct : (p : Phys) → phys_scans (P.HashDistinct p) ≡ scans_step (map-Phys Phys (List Scan) phys_scans (L.HashDistinct p))
pscans-HashDistinct p = ap phys_scans (sym (P.rolls-HashDistinct p)) ∙ pscans-roll (L.HashDistinct p)

pub pmakes-HashDistinct : (p : Phys) → phys_makes (P.HashDistinct p) ≡ makes_step (map-Phys Phys (List Var) phys_makes (L.HashDistinct p))
pmakes-HashDistinct p = ap phys_makes (sym (P.rolls-HashDistinct p)) ∙ pmakes-roll (L.HashDistinct p)

pub presult-HashDistinct : (p : Phys) → phys_result (P.HashDistinct p) ≡ result_step (map-Phys Phys (Option (List Var)) phys_result (L.HashDistinct p))
presult-HashDistinct p = ap phys_result (sym (P.rolls-HashDistinct p)) ∙ presult-roll (L.HashDistinct p)

pub pexchange-HashDistinct : (p : Phys) → is_exchange (P.HashDistinct p) ≡ exchange_step (map-Phys Phys (Bool) is_exchange (L.HashDistinct p))
pexchange-HashDistinct p = ap is_exchange (sym (P.rolls-HashDistinct p)) ∙ exchange-roll (L.HashDistinct p)

pub poperators-HashDistinct : (p : Phys) → operators (P.HashDistinct p) ≡ (P.HashDistinct p) ∷ operators p
poperators-HashDistinct p =
    ap operators (sym (P.rolls-HashDistinct p)) ∙ operators-roll (L.HashDistinct p) ∙ ap (λ (q : Phys). q ∷ operators p) (P.rolls-HashDistinct p)

pub pout-HashDistinct : (p : Phys) → out-Phys (P.HashDistinct p) ≡ (L.HashDistinct p)
pout-HashDistinct p = ap out-Phys (sym (P.rolls-HashDistinct p)) ∙ out-roll-Phys (L.HashDistinct p)

pub plive-AggPart : (made : List (Var × AggCall)) (p : Phys) → phys_live (P.AggPart made p) ≡ live_step (map-Phys Phys (List Var) phys_live (L.AggPart made p))
plive-AggPart made p = ap phys_live (sym (P.rolls-AggPart made p)) ∙ plive-roll (L.AggPart made p)

pub pscans-AggPart : (made : List (Var × AggCall)) (p : Phys) → phys_scans (P.AggPart made p) ≡ scans_step (map-Phys Phys (List Scan) phys_scans (L.AggPart made p))
pscans-AggPart made p = ap phys_scans (sym (P.rolls-AggPart made p)) ∙ pscans-roll (L.AggPart made p)

pub pmakes-AggPart : (made : List (Var × AggCall)) (p : Phys) → phys_makes (P.AggPart made p) ≡ makes_step (map-Phys Phys (List Var) phys_makes (L.AggPart made p))
pmakes-AggPart made p = ap phys_makes (sym (P.rolls-AggPart made p)) ∙ pmakes-roll (L.AggPart made p)

pub poperators-AggPart : (made : List (Var × AggCall)) (p : Phys) → operators (P.AggPart made p) ≡ (P.AggPart made p) ∷ operators p
poperators-AggPart made p =
    ap operators (sym (P.rolls-AggPart made p)) ∙ operators-roll (L.AggPart made p) ∙ ap (λ (q : Phys). q ∷ operators p) (P.rolls-AggPart made p)

pub pout-AggPart : (made : List (Var × AggCall)) (p : Phys) → out-Phys (P.AggPart made p) ≡ (L.AggPart made p)
pout-AggPart made p = ap out-Phys (sym (P.rolls-AggPart made p)) ∙ out-roll-Phys (L.AggPart made p)

pub plive-AggFinal : (made : List (Var × AggCall)) (p : Phys) → phys_live (P.AggFinal made p) ≡ live_step (map-Phys Phys (List Var) phys_live (L.AggFinal made p))
plive-AggFinal made p = ap phys_live (sym (P.rolls-AggFinal made p)) ∙ plive-roll (L.AggFinal made p)

pub pscans-AggFinal : (made : List (Var × AggCall)) (p : Phys) → phys_scans (P.AggFinal made p) ≡ scans_step (map-Phys Phys (List Scan) phys_scans (L.AggFinal made p))
pscans-AggFinal made p = ap phys_scans (sym (P.rolls-AggFinal made p)) ∙ pscans-roll (L.AggFinal made p)

pub pmakes-AggFinal : (made : List (Var × AggCall)) (p : Phys) → phys_makes (P.AggFinal made p) ≡ makes_step (map-Phys Phys (List Var) phys_makes (L.AggFinal made p))
pmakes-AggFinal made p = ap phys_makes (sym (P.rolls-AggFinal made p)) ∙ pmakes-roll (L.AggFinal made p)

pub presult-AggFinal : (made : List (Var × AggCall)) (p : Phys) → phys_result (P.AggFinal made p) ≡ result_step (map-Phys Phys (Option (List Var)) phys_result (L.AggFinal made p))
presult-AggFinal made p = ap phys_result (sym (P.rolls-AggFinal made p)) ∙ presult-roll (L.AggFinal made p)

pub pexchange-AggFinal : (made : List (Var × AggCall)) (p : Phys) → is_exchange (P.AggFinal made p) ≡ exchange_step (map-Phys Phys (Bool) is_exchange (L.AggFinal made p))
pexchange-AggFinal made p = ap is_exchange (sym (P.rolls-AggFinal made p)) ∙ exchange-roll (L.AggFinal made p)

pub poperators-AggFinal : (made : List (Var × AggCall)) (p : Phys) → operators (P.AggFinal made p) ≡ (P.AggFinal made p) ∷ operators p
poperators-AggFinal made p =
    ap operators (sym (P.rolls-AggFinal made p)) ∙ operators-roll (L.AggFinal made p) ∙ ap (λ (q : Phys). q ∷ operators p) (P.rolls-AggFinal made p)

pub pout-AggFinal : (made : List (Var × AggCall)) (p : Phys) → out-Phys (P.AggFinal made p) ≡ (L.AggFinal made p)
pout-AggFinal made p = ap out-Phys (sym (P.rolls-AggFinal made p)) ∙ out-roll-Phys (L.AggFinal made p)

pub plive-Union : (made : List Var) (ls : List Var) (rs : List Var) (l : Phys) (r : Phys) → phys_live (P.Union made ls rs l r) ≡ live_step (map-Phys Phys (List Var) phys_live (L.Union made ls rs l r))
plive-Union made ls rs l r = ap phys_live (sym (P.rolls-Union made ls rs l r)) ∙ plive-roll (L.Union made ls rs l r)

pub pscans-Union : (made : List Var) (ls : List Var) (rs : List Var) (l : Phys) (r : Phys) → phys_scans (P.Union made ls rs l r) ≡ scans_step (map-Phys Phys (List Scan) phys_scans (L.Union made ls rs l r))
pscans-Union made ls rs l r = ap phys_scans (sym (P.rolls-Union made ls rs l r)) ∙ pscans-roll (L.Union made ls rs l r)

pub pmakes-Union : (made : List Var) (ls : List Var) (rs : List Var) (l : Phys) (r : Phys) → phys_makes (P.Union made ls rs l r) ≡ makes_step (map-Phys Phys (List Var) phys_makes (L.Union made ls rs l r))
pmakes-Union made ls rs l r = ap phys_makes (sym (P.rolls-Union made ls rs l r)) ∙ pmakes-roll (L.Union made ls rs l r)

pub presult-Union : (made : List Var) (ls : List Var) (rs : List Var) (l : Phys) (r : Phys) → phys_result (P.Union made ls rs l r) ≡ result_step (map-Phys Phys (Option (List Var)) phys_result (L.Union made ls rs l r))
presult-Union made ls rs l r = ap phys_result (sym (P.rolls-Union made ls rs l r)) ∙ presult-roll (L.Union made ls rs l r)

pub pexchange-Union : (made : List Var) (ls : List Var) (rs : List Var) (l : Phys) (r : Phys) → is_exchange (P.Union made ls rs l r) ≡ exchange_step (map-Phys Phys (Bool) is_exchange (L.Union made ls rs l r))
pexchange-Union made ls rs l r = ap is_exchange (sym (P.rolls-Union made ls rs l r)) ∙ exchange-roll (L.Union made ls rs l r)

pub poperators-Union : (made : List Var) (ls : List Var) (rs : List Var) (l : Phys) (r : Phys) → operators (P.Union made ls rs l r) ≡ (P.Union made ls rs l r) ∷ (operators l ++ operators r)
poperators-Union made ls rs l r =
    ap operators (sym (P.rolls-Union made ls rs l r)) ∙ operators-roll (L.Union made ls rs l r) ∙ ap (λ (q : Phys). q ∷ (operators l ++ operators r)) (P.rolls-Union made ls rs l r)

pub pout-Union : (made : List Var) (ls : List Var) (rs : List Var) (l : Phys) (r : Phys) → out-Phys (P.Union made ls rs l r) ≡ (L.Union made ls rs l r)
pout-Union made ls rs l r = ap out-Phys (sym (P.rolls-Union made ls rs l r)) ∙ out-roll-Phys (L.Union made ls rs l r)

pub plive-Sort : (keys : List OrderKey) (p : Phys) → phys_live (P.Sort keys p) ≡ live_step (map-Phys Phys (List Var) phys_live (L.Sort keys p))
plive-Sort keys p = ap phys_live (sym (P.rolls-Sort keys p)) ∙ plive-roll (L.Sort keys p)

pub pscans-Sort : (keys : List OrderKey) (p : Phys) → phys_scans (P.Sort keys p) ≡ scans_step (map-Phys Phys (List Scan) phys_scans (L.Sort keys p))
pscans-Sort keys p = ap phys_scans (sym (P.rolls-Sort keys p)) ∙ pscans-roll (L.Sort keys p)

pub pmakes-Sort : (keys : List OrderKey) (p : Phys) → phys_makes (P.Sort keys p) ≡ makes_step (map-Phys Phys (List Var) phys_makes (L.Sort keys p))
pmakes-Sort keys p = ap phys_makes (sym (P.rolls-Sort keys p)) ∙ pmakes-roll (L.Sort keys p)

pub presult-Sort : (keys : List OrderKey) (p : Phys) → phys_result (P.Sort keys p) ≡ result_step (map-Phys Phys (Option (List Var)) phys_result (L.Sort keys p))
presult-Sort keys p = ap phys_result (sym (P.rolls-Sort keys p)) ∙ presult-roll (L.Sort keys p)

pub pexchange-Sort : (keys : List OrderKey) (p : Phys) → is_exchange (P.Sort keys p) ≡ exchange_step (map-Phys Phys (Bool) is_exchange (L.Sort keys p))
pexchange-Sort keys p = ap is_exchange (sym (P.rolls-Sort keys p)) ∙ exchange-roll (L.Sort keys p)

pub poperators-Sort : (keys : List OrderKey) (p : Phys) → operators (P.Sort keys p) ≡ (P.Sort keys p) ∷ operators p
poperators-Sort keys p =
    ap operators (sym (P.rolls-Sort keys p)) ∙ operators-roll (L.Sort keys p) ∙ ap (λ (q : Phys). q ∷ operators p) (P.rolls-Sort keys p)

pub pout-Sort : (keys : List OrderKey) (p : Phys) → out-Phys (P.Sort keys p) ≡ (L.Sort keys p)
pout-Sort keys p = ap out-Phys (sym (P.rolls-Sort keys p)) ∙ out-roll-Phys (L.Sort keys p)

pub plive-Limit : (m : ℕ) (k : ℕ) (p : Phys) → phys_live (P.Limit m k p) ≡ live_step (map-Phys Phys (List Var) phys_live (L.Limit m k p))
plive-Limit m k p = ap phys_live (sym (P.rolls-Limit m k p)) ∙ plive-roll (L.Limit m k p)

pub pscans-Limit : (m : ℕ) (k : ℕ) (p : Phys) → phys_scans (P.Limit m k p) ≡ scans_step (map-Phys Phys (List Scan) phys_scans (L.Limit m k p))
pscans-Limit m k p = ap phys_scans (sym (P.rolls-Limit m k p)) ∙ pscans-roll (L.Limit m k p)

pub pmakes-Limit : (m : ℕ) (k : ℕ) (p : Phys) → phys_makes (P.Limit m k p) ≡ makes_step (map-Phys Phys (List Var) phys_makes (L.Limit m k p))
pmakes-Limit m k p = ap phys_makes (sym (P.rolls-Limit m k p)) ∙ pmakes-roll (L.Limit m k p)

pub presult-Limit : (m : ℕ) (k : ℕ) (p : Phys) → phys_result (P.Limit m k p) ≡ result_step (map-Phys Phys (Option (List Var)) phys_result (L.Limit m k p))
presult-Limit m k p = ap phys_result (sym (P.rolls-Limit m k p)) ∙ presult-roll (L.Limit m k p)

pub pexchange-Limit : (m : ℕ) (k : ℕ) (p : Phys) → is_exchange (P.Limit m k p) ≡ exchange_step (map-Phys Phys (Bool) is_exchange (L.Limit m k p))
pexchange-Limit m k p = ap is_exchange (sym (P.rolls-Limit m k p)) ∙ exchange-roll (L.Limit m k p)

pub poperators-Limit : (m : ℕ) (k : ℕ) (p : Phys) → operators (P.Limit m k p) ≡ (P.Limit m k p) ∷ operators p
poperators-Limit m k p =
    ap operators (sym (P.rolls-Limit m k p)) ∙ operators-roll (L.Limit m k p) ∙ ap (λ (q : Phys). q ∷ operators p) (P.rolls-Limit m k p)

pub pout-Limit : (m : ℕ) (k : ℕ) (p : Phys) → out-Phys (P.Limit m k p) ≡ (L.Limit m k p)
pout-Limit m k p = ap out-Phys (sym (P.rolls-Limit m k p)) ∙ out-roll-Phys (L.Limit m k p)

pub plive-LocalLimit : (m : ℕ) (p : Phys) → phys_live (P.LocalLimit m p) ≡ live_step (map-Phys Phys (List Var) phys_live (L.LocalLimit m p))
plive-LocalLimit m p = ap phys_live (sym (P.rolls-LocalLimit m p)) ∙ plive-roll (L.LocalLimit m p)

pub pscans-LocalLimit : (m : ℕ) (p : Phys) → phys_scans (P.LocalLimit m p) ≡ scans_step (map-Phys Phys (List Scan) phys_scans (L.LocalLimit m p))
pscans-LocalLimit m p = ap phys_scans (sym (P.rolls-LocalLimit m p)) ∙ pscans-roll (L.LocalLimit m p)

pub pmakes-LocalLimit : (m : ℕ) (p : Phys) → phys_makes (P.LocalLimit m p) ≡ makes_step (map-Phys Phys (List Var) phys_makes (L.LocalLimit m p))
pmakes-LocalLimit m p = ap phys_makes (sym (P.rolls-LocalLimit m p)) ∙ pmakes-roll (L.LocalLimit m p)

pub presult-LocalLimit : (m : ℕ) (p : Phys) → phys_result (P.LocalLimit m p) ≡ result_step (map-Phys Phys (Option (List Var)) phys_result (L.LocalLimit m p))
presult-LocalLimit m p = ap phys_result (sym (P.rolls-LocalLimit m p)) ∙ presult-roll (L.LocalLimit m p)

pub poperators-LocalLimit : (m : ℕ) (p : Phys) → operators (P.LocalLimit m p) ≡ (P.LocalLimit m p) ∷ operators p
poperators-LocalLimit m p =
    ap operators (sym (P.rolls-LocalLimit m p)) ∙ operators-roll (L.LocalLimit m p) ∙ ap (λ (q : Phys). q ∷ operators p) (P.rolls-LocalLimit m p)

pub pout-LocalLimit : (m : ℕ) (p : Phys) → out-Phys (P.LocalLimit m p) ≡ (L.LocalLimit m p)
pout-LocalLimit m p = ap out-Phys (sym (P.rolls-LocalLimit m p)) ∙ out-roll-Phys (L.LocalLimit m p)

pub plive-Result : (vars : List Var) (p : Phys) → phys_live (P.Result vars p) ≡ live_step (map-Phys Phys (List Var) phys_live (L.Result vars p))
plive-Result vars p = ap phys_live (sym (P.rolls-Result vars p)) ∙ plive-roll (L.Result vars p)

pub pscans-Result : (vars : List Var) (p : Phys) → phys_scans (P.Result vars p) ≡ scans_step (map-Phys Phys (List Scan) phys_scans (L.Result vars p))
pscans-Result vars p = ap phys_scans (sym (P.rolls-Result vars p)) ∙ pscans-roll (L.Result vars p)

pub pmakes-Result : (vars : List Var) (p : Phys) → phys_makes (P.Result vars p) ≡ makes_step (map-Phys Phys (List Var) phys_makes (L.Result vars p))
pmakes-Result vars p = ap phys_makes (sym (P.rolls-Result vars p)) ∙ pmakes-roll (L.Result vars p)

pub presult-Result : (vars : List Var) (p : Phys) → phys_result (P.Result vars p) ≡ result_step (map-Phys Phys (Option (List Var)) phys_result (L.Result vars p))
presult-Result vars p = ap phys_result (sym (P.rolls-Result vars p)) ∙ presult-roll (L.Result vars p)

pub pexchange-Result : (vars : List Var) (p : Phys) → is_exchange (P.Result vars p) ≡ exchange_step (map-Phys Phys (Bool) is_exchange (L.Result vars p))
pexchange-Result vars p = ap is_exchange (sym (P.rolls-Result vars p)) ∙ exchange-roll (L.Result vars p)

pub poperators-Result : (vars : List Var) (p : Phys) → operators (P.Result vars p) ≡ (P.Result vars p) ∷ operators p
poperators-Result vars p =
    ap operators (sym (P.rolls-Result vars p)) ∙ operators-roll (L.Result vars p) ∙ ap (λ (q : Phys). q ∷ operators p) (P.rolls-Result vars p)

pub pout-Result : (vars : List Var) (p : Phys) → out-Phys (P.Result vars p) ≡ (L.Result vars p)
pout-Result vars p = ap out-Phys (sym (P.rolls-Result vars p)) ∙ out-roll-Phys (L.Result vars p)

pub plive-HashExchange : (vars : List Var) (p : Phys) → phys_live (P.HashExchange vars p) ≡ live_step (map-Phys Phys (List Var) phys_live (L.HashExchange vars p))
plive-HashExchange vars p = ap phys_live (sym (P.rolls-HashExchange vars p)) ∙ plive-roll (L.HashExchange vars p)

pub pscans-HashExchange : (vars : List Var) (p : Phys) → phys_scans (P.HashExchange vars p) ≡ scans_step (map-Phys Phys (List Scan) phys_scans (L.HashExchange vars p))
pscans-HashExchange vars p = ap phys_scans (sym (P.rolls-HashExchange vars p)) ∙ pscans-roll (L.HashExchange vars p)

pub pmakes-HashExchange : (vars : List Var) (p : Phys) → phys_makes (P.HashExchange vars p) ≡ makes_step (map-Phys Phys (List Var) phys_makes (L.HashExchange vars p))
pmakes-HashExchange vars p = ap phys_makes (sym (P.rolls-HashExchange vars p)) ∙ pmakes-roll (L.HashExchange vars p)

pub poperators-HashExchange : (vars : List Var) (p : Phys) → operators (P.HashExchange vars p) ≡ (P.HashExchange vars p) ∷ operators p
poperators-HashExchange vars p =
    ap operators (sym (P.rolls-HashExchange vars p)) ∙ operators-roll (L.HashExchange vars p) ∙ ap (λ (q : Phys). q ∷ operators p) (P.rolls-HashExchange vars p)

pub pout-HashExchange : (vars : List Var) (p : Phys) → out-Phys (P.HashExchange vars p) ≡ (L.HashExchange vars p)
pout-HashExchange vars p = ap out-Phys (sym (P.rolls-HashExchange vars p)) ∙ out-roll-Phys (L.HashExchange vars p)

pub plive-Broadcast : (p : Phys) → phys_live (P.Broadcast p) ≡ live_step (map-Phys Phys (List Var) phys_live (L.Broadcast p))
plive-Broadcast p = ap phys_live (sym (P.rolls-Broadcast p)) ∙ plive-roll (L.Broadcast p)

pub pscans-Broadcast : (p : Phys) → phys_scans (P.Broadcast p) ≡ scans_step (map-Phys Phys (List Scan) phys_scans (L.Broadcast p))
pscans-Broadcast p = ap phys_scans (sym (P.rolls-Broadcast p)) ∙ pscans-roll (L.Broadcast p)

pub pmakes-Broadcast : (p : Phys) → phys_makes (P.Broadcast p) ≡ makes_step (map-Phys Phys (List Var) phys_makes (L.Broadcast p))
pmakes-Broadcast p = ap phys_makes (sym (P.rolls-Broadcast p)) ∙ pmakes-roll (L.Broadcast p)

pub poperators-Broadcast : (p : Phys) → operators (P.Broadcast p) ≡ (P.Broadcast p) ∷ operators p
poperators-Broadcast p =
    ap operators (sym (P.rolls-Broadcast p)) ∙ operators-roll (L.Broadcast p) ∙ ap (λ (q : Phys). q ∷ operators p) (P.rolls-Broadcast p)

pub pout-Broadcast : (p : Phys) → out-Phys (P.Broadcast p) ≡ (L.Broadcast p)
pout-Broadcast p = ap out-Phys (sym (P.rolls-Broadcast p)) ∙ out-roll-Phys (L.Broadcast p)

pub plive-Gather : (p : Phys) → phys_live (P.Gather p) ≡ live_step (map-Phys Phys (List Var) phys_live (L.Gather p))
plive-Gather p = ap phys_live (sym (P.rolls-Gather p)) ∙ plive-roll (L.Gather p)

pub pscans-Gather : (p : Phys) → phys_scans (P.Gather p) ≡ scans_step (map-Phys Phys (List Scan) phys_scans (L.Gather p))
pscans-Gather p = ap phys_scans (sym (P.rolls-Gather p)) ∙ pscans-roll (L.Gather p)

pub pmakes-Gather : (p : Phys) → phys_makes (P.Gather p) ≡ makes_step (map-Phys Phys (List Var) phys_makes (L.Gather p))
pmakes-Gather p = ap phys_makes (sym (P.rolls-Gather p)) ∙ pmakes-roll (L.Gather p)

pub pexchange-Gather : (p : Phys) → is_exchange (P.Gather p) ≡ exchange_step (map-Phys Phys (Bool) is_exchange (L.Gather p))
pexchange-Gather p = ap is_exchange (sym (P.rolls-Gather p)) ∙ exchange-roll (L.Gather p)

pub poperators-Gather : (p : Phys) → operators (P.Gather p) ≡ (P.Gather p) ∷ operators p
poperators-Gather p =
    ap operators (sym (P.rolls-Gather p)) ∙ operators-roll (L.Gather p) ∙ ap (λ (q : Phys). q ∷ operators p) (P.rolls-Gather p)

pub pout-Gather : (p : Phys) → out-Phys (P.Gather p) ≡ (L.Gather p)
pout-Gather p = ap out-Phys (sym (P.rolls-Gather p)) ∙ out-roll-Phys (L.Gather p)

pub plive-Merge : (keys : List OrderKey) (p : Phys) → phys_live (P.Merge keys p) ≡ live_step (map-Phys Phys (List Var) phys_live (L.Merge keys p))
plive-Merge keys p = ap phys_live (sym (P.rolls-Merge keys p)) ∙ plive-roll (L.Merge keys p)

pub pscans-Merge : (keys : List OrderKey) (p : Phys) → phys_scans (P.Merge keys p) ≡ scans_step (map-Phys Phys (List Scan) phys_scans (L.Merge keys p))
pscans-Merge keys p = ap phys_scans (sym (P.rolls-Merge keys p)) ∙ pscans-roll (L.Merge keys p)

pub pmakes-Merge : (keys : List OrderKey) (p : Phys) → phys_makes (P.Merge keys p) ≡ makes_step (map-Phys Phys (List Var) phys_makes (L.Merge keys p))
pmakes-Merge keys p = ap phys_makes (sym (P.rolls-Merge keys p)) ∙ pmakes-roll (L.Merge keys p)

pub presult-Merge : (keys : List OrderKey) (p : Phys) → phys_result (P.Merge keys p) ≡ result_step (map-Phys Phys (Option (List Var)) phys_result (L.Merge keys p))
presult-Merge keys p = ap phys_result (sym (P.rolls-Merge keys p)) ∙ presult-roll (L.Merge keys p)

pub pexchange-Merge : (keys : List OrderKey) (p : Phys) → is_exchange (P.Merge keys p) ≡ exchange_step (map-Phys Phys (Bool) is_exchange (L.Merge keys p))
pexchange-Merge keys p = ap is_exchange (sym (P.rolls-Merge keys p)) ∙ exchange-roll (L.Merge keys p)

pub poperators-Merge : (keys : List OrderKey) (p : Phys) → operators (P.Merge keys p) ≡ (P.Merge keys p) ∷ operators p
poperators-Merge keys p =
    ap operators (sym (P.rolls-Merge keys p)) ∙ operators-roll (L.Merge keys p) ∙ ap (λ (q : Phys). q ∷ operators p) (P.rolls-Merge keys p)

pub pout-Merge : (keys : List OrderKey) (p : Phys) → out-Phys (P.Merge keys p) ≡ (L.Merge keys p)
pout-Merge keys p = ap out-Phys (sym (P.rolls-Merge keys p)) ∙ out-roll-Phys (L.Merge keys p)
