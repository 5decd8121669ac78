-- What a physical plan needs, delivers and is laid over, at each operator.
use Rattle.std.proofs.Common.{◌≡◌, ℕ, List, refl, ap, sym, ◌∙◌}
use Rattle.al_phys.specs.declared.phys.Phys.{Phys, map-Phys, roll-Phys, out-Phys, out-roll-Phys, fold-roll-Phys, rec-roll-Phys}
use Rattle.al_plan.specs.declared.expr.Var.{Var}
use Rattle.al_plan.specs.declared.expr.Expr.{Expr}
use Rattle.al_plan.specs.declared.plan.OrderKey.{OrderKey}
use Rattle.al_plan.specs.declared.plan.AggCall.{AggCall}
use Rattle.al_plan.specs.declared.plan.Generator.{Generator}
use Rattle.al_plan.specs.declared.plan.Plan.{Plan}
use Rattle.al_plan.specs.Eval.{Bytes}
use Rattle.al_phys.specs.declared.phys.JoinForm.{JoinForm}
use Rattle.al_phys.specs.declared.phys.Phys.TheVariants as P
use Rattle.al_phys.specs.declared.phys.Phys.TheOpen as L
use Rattle.al_phys.specs.declared.property.Local.{Local}
use Rattle.al_phys.specs.Properties.{required, required_step, Spread, spread_of, spread_by, spread_step, order_of, order_step}
use Rattle.al_phys.specs.Placed.{IsLaid, laid_step, IsWhole, whole_step}
use Rattle.al_phys.proofs.OperatorLaws.{pout-Scan, pout-One, pout-Assign, pout-Select, pout-Project, pout-Unnest, pout-Subplan, pout-Check, pout-Join, pout-HashGroup, pout-PreGroup, pout-HashDistinct, pout-AggPart, pout-AggFinal, pout-Union, pout-Sort, pout-Limit, pout-LocalLimit, pout-Result, pout-HashExchange, pout-Broadcast, pout-Gather, pout-Merge}

natural : (X : Type 0) (up : X → Phys) (fn : Phys → Spread) (x : L.Phys-F X) → spread_step X up (λ p. fn (up p)) x ≡ spread_step Phys (λ p. p) fn (map-Phys X Phys up x)
natural X up fn (L.Scan set vars) = refl
natural X up fn L.One = refl
natural X up fn (L.Assign made p) = refl
natural X up fn (L.Select c p) = refl
natural X up fn (L.Project vars p) = refl
natural X up fn (L.Unnest v its p) = refl
natural X up fn (L.Subplan inner p) = refl
natural X up fn (L.Check own c p) = refl
natural X up fn (L.Join form c l r) = refl
natural X up fn (L.HashGroup keys inner p) = refl
natural X up fn (L.PreGroup keys inner p) = refl
natural X up fn (L.HashDistinct p) = refl
natural X up fn (L.AggPart made p) = refl
natural X up fn (L.AggFinal made p) = refl
natural X up fn (L.Union made ls rs l r) = refl
natural X up fn (L.Sort keys p) = refl
natural X up fn (L.Limit m k p) = refl
natural X up fn (L.LocalLimit m p) = refl
natural X up fn (L.Result vars p) = refl
natural X up fn (L.HashExchange vars p) = refl
natural X up fn (L.Broadcast p) = refl
natural X up fn (L.Gather p) = refl
natural X up fn (L.Merge keys p) = refl

pub spread-roll : (x : L.Phys-F Phys) → (spread_of (roll-Phys x)).by ≡ spread_by Phys (λ q. q) spread_of x
unfolding spread_of
spread-roll x = ap (λ (s : Spread). s.by) (rec-roll-Phys Spread spread_step natural x)

pub order-roll : (x : L.Phys-F Phys) → order_of (roll-Phys x) ≡ order_step (map-Phys Phys Local order_of x)
unfolding order_of
order-roll x = fold-roll-Phys Local order_step x

required_at : (p : Phys) (x : L.Phys-F Phys) → out-Phys p ≡ x → (i : ℕ) → required p i ≡ required_step x i
unfolding required
required_at p x e i = ap (λ (y : L.Phys-F Phys). required_step y i) e

pub laid_at : (n : ℕ) (p : Phys) (x : L.Phys-F Phys) → out-Phys p ≡ x → IsLaid n p ≡ laid_step n x
unfolding IsLaid
laid_at n p x e = ap (laid_step n) e

pub laid-roll : (n : ℕ) (x : L.Phys-F Phys) → IsLaid n (roll-Phys x) ≡ laid_step n x
laid-roll n x = laid_at n (roll-Phys x) x (out-roll-Phys x)

pub whole_at : (n : ℕ) (p : Phys) (x : L.Phys-F Phys) → out-Phys p ≡ x → IsWhole n p ≡ whole_step n x
unfolding IsWhole
whole_at n p x e = ap (whole_step n) e

pub spread-Scan : (set : Bytes) (vars : List Var) → (spread_of (P.Scan set vars)).by ≡ spread_by Phys (λ q. q) spread_of (L.Scan set vars)
spread-Scan set vars = ap (λ (q : Phys). (spread_of q).by) (sym (P.rolls-Scan set vars)) ∙ spread-roll (L.Scan set vars)

pub order-Scan : (set : Bytes) (vars : List Var) → order_of (P.Scan set vars) ≡ order_step (map-Phys Phys Local order_of (L.Scan set vars))
order-Scan set vars = ap order_of (sym (P.rolls-Scan set vars)) ∙ order-roll (L.Scan set vars)

pub required-Scan : (set : Bytes) (vars : List Var) (i : ℕ) → required (P.Scan set vars) i ≡ required_step (L.Scan set vars) i
required-Scan set vars i = required_at _ (L.Scan set vars) (pout-Scan set vars) i

pub laid-Scan : (n : ℕ) (set : Bytes) (vars : List Var) → IsLaid n (P.Scan set vars) ≡ laid_step n (L.Scan set vars)
laid-Scan n set vars = laid_at n _ (L.Scan set vars) (pout-Scan set vars)

pub whole-Scan : (n : ℕ) (set : Bytes) (vars : List Var) → IsWhole n (P.Scan set vars) ≡ whole_step n (L.Scan set vars)
whole-Scan n set vars = whole_at n _ (L.Scan set vars) (pout-Scan set vars)

pub spread-One : (spread_of P.One).by ≡ spread_by Phys (λ q. q) spread_of L.One
spread-One = ap (λ (q : Phys). (spread_of q).by) (sym (P.rolls-One)) ∙ spread-roll L.One

pub order-One : order_of P.One ≡ order_step (map-Phys Phys Local order_of L.One)
order-One = ap order_of (sym (P.rolls-One)) ∙ order-roll L.One

pub required-One : (i : ℕ) → required P.One i ≡ required_step L.One i
required-One i = required_at _ L.One pout-One i

pub laid-One : (n : ℕ) → IsLaid n P.One ≡ laid_step n L.One
laid-One n = laid_at n _ L.One pout-One

pub whole-One : (n : ℕ) → IsWhole n P.One ≡ whole_step n L.One
whole-One n = whole_at n _ L.One pout-One

pub spread-Assign : (made : List (Var × Expr)) (p : Phys) → (spread_of (P.Assign made p)).by ≡ spread_by Phys (λ q. q) spread_of (L.Assign made p)
spread-Assign made p = ap (λ (q : Phys). (spread_of q).by) (sym (P.rolls-Assign made p)) ∙ spread-roll (L.Assign made p)

pub order-Assign : (made : List (Var × Expr)) (p : Phys) → order_of (P.Assign made p) ≡ order_step (map-Phys Phys Local order_of (L.Assign made p))
order-Assign made p = ap order_of (sym (P.rolls-Assign made p)) ∙ order-roll (L.Assign made p)

pub required-Assign : (made : List (Var × Expr)) (p : Phys) (i : ℕ) → required (P.Assign made p) i ≡ required_step (L.Assign made p) i
required-Assign made p i = required_at _ (L.Assign made p) (pout-Assign made p) i

pub laid-Assign : (n : ℕ) (made : List (Var × Expr)) (p : Phys) → IsLaid n (P.Assign made p) ≡ laid_step n (L.Assign made p)
laid-Assign n made p = laid_at n _ (L.Assign made p) (pout-Assign made p)

pub whole-Assign : (n : ℕ) (made : List (Var × Expr)) (p : Phys) → IsWhole n (P.Assign made p) ≡ whole_step n (L.Assign made p)
whole-Assign n made p = whole_at n _ (L.Assign made p) (pout-Assign made p)

pub spread-Select : (c : Expr) (p : Phys) → (spread_of (P.Select c p)).by ≡ spread_by Phys (λ q. q) spread_of (L.Select c p)
spread-Select c p = ap (λ (q : Phys). (spread_of q).by) (sym (P.rolls-Select c p)) ∙ spread-roll (L.Select c p)

pub order-Select : (c : Expr) (p : Phys) → order_of (P.Select c p) ≡ order_step (map-Phys Phys Local order_of (L.Select c p))
order-Select c p = ap order_of (sym (P.rolls-Select c p)) ∙ order-roll (L.Select c p)

pub required-Select : (c : Expr) (p : Phys) (i : ℕ) → required (P.Select c p) i ≡ required_step (L.Select c p) i
required-Select c p i = required_at _ (L.Select c p) (pout-Select c p) i

pub laid-Select : (n : ℕ) (c : Expr) (p : Phys) → IsLaid n (P.Select c p) ≡ laid_step n (L.Select c p)
laid-Select n c p = laid_at n _ (L.Select c p) (pout-Select c p)

pub whole-Select : (n : ℕ) (c : Expr) (p : Phys) → IsWhole n (P.Select c p) ≡ whole_step n (L.Select c p)
whole-Select n c p = whole_at n _ (L.Select c p) (pout-Select c p)

pub spread-Project : (vars : List Var) (p : Phys) → (spread_of (P.Project vars p)).by ≡ spread_by Phys (λ q. q) spread_of (L.Project vars p)
spread-Project vars p = ap (λ (q : Phys). (spread_of q).by) (sym (P.rolls-Project vars p)) ∙ spread-roll (L.Project vars p)

pub order-Project : (vars : List Var) (p : Phys) → order_of (P.Project vars p) ≡ order_step (map-Phys Phys Local order_of (L.Project vars p))
order-Project vars p = ap order_of (sym (P.rolls-Project vars p)) ∙ order-roll (L.Project vars p)

pub required-Project : (vars : List Var) (p : Phys) (i : ℕ) → required (P.Project vars p) i ≡ required_step (L.Project vars p) i
required-Project vars p i = required_at _ (L.Project vars p) (pout-Project vars p) i

pub laid-Project : (n : ℕ) (vars : List Var) (p : Phys) → IsLaid n (P.Project vars p) ≡ laid_step n (L.Project vars p)
laid-Project n vars p = laid_at n _ (L.Project vars p) (pout-Project vars p)

pub whole-Project : (n : ℕ) (vars : List Var) (p : Phys) → IsWhole n (P.Project vars p) ≡ whole_step n (L.Project vars p)
whole-Project n vars p = whole_at n _ (L.Project vars p) (pout-Project vars p)

pub spread-Unnest : (v : Var) (its : Generator) (p : Phys) → (spread_of (P.Unnest v its p)).by ≡ spread_by Phys (λ q. q) spread_of (L.Unnest v its p)
spread-Unnest v its p = ap (λ (q : Phys). (spread_of q).by) (sym (P.rolls-Unnest v its p)) ∙ spread-roll (L.Unnest v its p)

pub order-Unnest : (v : Var) (its : Generator) (p : Phys) → order_of (P.Unnest v its p) ≡ order_step (map-Phys Phys Local order_of (L.Unnest v its p))
order-Unnest v its p = ap order_of (sym (P.rolls-Unnest v its p)) ∙ order-roll (L.Unnest v its p)

pub required-Unnest : (v : Var) (its : Generator) (p : Phys) (i : ℕ) → required (P.Unnest v its p) i ≡ required_step (L.Unnest v its p) i
required-Unnest v its p i = required_at _ (L.Unnest v its p) (pout-Unnest v its p) i

pub laid-Unnest : (n : ℕ) (v : Var) (its : Generator) (p : Phys) → IsLaid n (P.Unnest v its p) ≡ laid_step n (L.Unnest v its p)
laid-Unnest n v its p = laid_at n _ (L.Unnest v its p) (pout-Unnest v its p)

pub whole-Unnest : (n : ℕ) (v : Var) (its : Generator) (p : Phys) → IsWhole n (P.Unnest v its p) ≡ whole_step n (L.Unnest v its p)
whole-Unnest n v its p = whole_at n _ (L.Unnest v its p) (pout-Unnest v its p)

pub spread-Subplan : (inner : Plan) (p : Phys) → (spread_of (P.Subplan inner p)).by ≡ spread_by Phys (λ q. q) spread_of (L.Subplan inner p)
spread-Subplan inner p = ap (λ (q : Phys). (spread_of q).by) (sym (P.rolls-Subplan inner p)) ∙ spread-roll (L.Subplan inner p)

pub order-Subplan : (inner : Plan) (p : Phys) → order_of (P.Subplan inner p) ≡ order_step (map-Phys Phys Local order_of (L.Subplan inner p))
order-Subplan inner p = ap order_of (sym (P.rolls-Subplan inner p)) ∙ order-roll (L.Subplan inner p)

pub required-Subplan : (inner : Plan) (p : Phys) (i : ℕ) → required (P.Subplan inner p) i ≡ required_step (L.Subplan inner p) i
required-Subplan inner p i = required_at _ (L.Subplan inner p) (pout-Subplan inner p) i

pub laid-Subplan : (n : ℕ) (inner : Plan) (p : Phys) → IsLaid n (P.Subplan inner p) ≡ laid_step n (L.Subplan inner p)
laid-Subplan n inner p = laid_at n _ (L.Subplan inner p) (pout-Subplan inner p)

pub whole-Subplan : (n : ℕ) (inner : Plan) (p : Phys) → IsWhole n (P.Subplan inner p) ≡ whole_step n (L.Subplan inner p)
whole-Subplan n inner p = whole_at n _ (L.Subplan inner p) (pout-Subplan inner p)

pub spread-Check : (own : Bytes) (c : Expr) (p : Phys) → (spread_of (P.Check own c p)).by ≡ spread_by Phys (λ q. q) spread_of (L.Check own c p)
spread-Check own c p = ap (λ (q : Phys). (spread_of q).by) (sym (P.rolls-Check own c p)) ∙ spread-roll (L.Check own c p)

pub order-Check : (own : Bytes) (c : Expr) (p : Phys) → order_of (P.Check own c p) ≡ order_step (map-Phys Phys Local order_of (L.Check own c p))
order-Check own c p = ap order_of (sym (P.rolls-Check own c p)) ∙ order-roll (L.Check own c p)

pub required-Check : (own : Bytes) (c : Expr) (p : Phys) (i : ℕ) → required (P.Check own c p) i ≡ required_step (L.Check own c p) i
required-Check own c p i = required_at _ (L.Check own c p) (pout-Check own c p) i

pub laid-Check : (n : ℕ) (own : Bytes) (c : Expr) (p : Phys) → IsLaid n (P.Check own c p) ≡ laid_step n (L.Check own c p)
laid-Check n own c p = laid_at n _ (L.Check own c p) (pout-Check own c p)

pub whole-Check : (n : ℕ) (own : Bytes) (c : Expr) (p : Phys) → IsWhole n (P.Check own c p) ≡ whole_step n (L.Check own c p)
whole-Check n own c p = whole_at n _ (L.Check own c p) (pout-Check own c p)

pub spread-Join : (form : JoinForm) (c : Expr) (l : Phys) (r : Phys) → (spread_of (P.Join form c l r)).by ≡ spread_by Phys (λ q. q) spread_of (L.Join form c l r)
spread-Join form c l r = ap (λ (q : Phys). (spread_of q).by) (sym (P.rolls-Join form c l r)) ∙ spread-roll (L.Join form c l r)

pub order-Join : (form : JoinForm) (c : Expr) (l : Phys) (r : Phys) → order_of (P.Join form c l r) ≡ order_step (map-Phys Phys Local order_of (L.Join form c l r))
order-Join form c l r = ap order_of (sym (P.rolls-Join form c l r)) ∙ order-roll (L.Join form c l r)

pub required-Join : (form : JoinForm) (c : Expr) (l : Phys) (r : Phys) (i : ℕ) → required (P.Join form c l r) i ≡ required_step (L.Join form c l r) i
required-Join form c l r i = required_at _ (L.Join form c l r) (pout-Join form c l r) i

pub laid-Join : (n : ℕ) (form : JoinForm) (c : Expr) (l : Phys) (r : Phys) → IsLaid n (P.Join form c l r) ≡ laid_step n (L.Join form c l r)
laid-Join n form c l r = laid_at n _ (L.Join form c l r) (pout-Join form c l r)

pub whole-Join : (n : ℕ) (form : JoinForm) (c : Expr) (l : Phys) (r : Phys) → IsWhole n (P.Join form c l r) ≡ whole_step n (L.Join form c l r)
whole-Join n form c l r = whole_at n _ (L.Join form c l r) (pout-Join form c l r)

pub spread-HashGroup : (keys : List (Var × Var)) (inner : Plan) (p : Phys) → (spread_of (P.HashGroup keys inner p)).by ≡ spread_by Phys (λ q. q) spread_of (L.HashGroup keys inner p)
spread-HashGroup keys inner p = ap (λ (q : Phys). (spread_of q).by) (sym (P.rolls-HashGroup keys inner p)) ∙ spread-roll (L.HashGroup keys inner p)

pub order-HashGroup : (keys : List (Var × Var)) (inner : Plan) (p : Phys) → order_of (P.HashGroup keys inner p) ≡ order_step (map-Phys Phys Local order_of (L.HashGroup keys inner p))
order-HashGroup keys inner p = ap order_of (sym (P.rolls-HashGroup keys inner p)) ∙ order-roll (L.HashGroup keys inner p)

pub required-HashGroup : (keys : List (Var × Var)) (inner : Plan) (p : Phys) (i : ℕ) → required (P.HashGroup keys inner p) i ≡ required_step (L.HashGroup keys inner p) i
required-HashGroup keys inner p i = required_at _ (L.HashGroup keys inner p) (pout-HashGroup keys inner p) i

pub laid-HashGroup : (n : ℕ) (keys : List (Var × Var)) (inner : Plan) (p : Phys) → IsLaid n (P.HashGroup keys inner p) ≡ laid_step n (L.HashGroup keys inner p)
laid-HashGroup n keys inner p = laid_at n _ (L.HashGroup keys inner p) (pout-HashGroup keys inner p)

pub whole-HashGroup : (n : ℕ) (keys : List (Var × Var)) (inner : Plan) (p : Phys) → IsWhole n (P.HashGroup keys inner p) ≡ whole_step n (L.HashGroup keys inner p)
whole-HashGroup n keys inner p = whole_at n _ (L.HashGroup keys inner p) (pout-HashGroup keys inner p)

pub spread-PreGroup : (keys : List (Var × Var)) (inner : Plan) (p : Phys) → (spread_of (P.PreGroup keys inner p)).by ≡ spread_by Phys (λ q. q) spread_of (L.PreGroup keys inner p)
spread-PreGroup keys inner p = ap (λ (q : Phys). (spread_of q).by) (sym (P.rolls-PreGroup keys inner p)) ∙ spread-roll (L.PreGroup keys inner p)

pub order-PreGroup : (keys : List (Var × Var)) (inner : Plan) (p : Phys) → order_of (P.PreGroup keys inner p) ≡ order_step (map-Phys Phys Local order_of (L.PreGroup keys inner p))
order-PreGroup keys inner p = ap order_of (sym (P.rolls-PreGroup keys inner p)) ∙ order-roll (L.PreGroup keys inner p)

pub required-PreGroup : (keys : List (Var × Var)) (inner : Plan) (p : Phys) (i : ℕ) → required (P.PreGroup keys inner p) i ≡ required_step (L.PreGroup keys inner p) i
required-PreGroup keys inner p i = required_at _ (L.PreGroup keys inner p) (pout-PreGroup keys inner p) i

pub laid-PreGroup : (n : ℕ) (keys : List (Var × Var)) (inner : Plan) (p : Phys) → IsLaid n (P.PreGroup keys inner p) ≡ laid_step n (L.PreGroup keys inner p)
laid-PreGroup n keys inner p = laid_at n _ (L.PreGroup keys inner p) (pout-PreGroup keys inner p)

pub whole-PreGroup : (n : ℕ) (keys : List (Var × Var)) (inner : Plan) (p : Phys) → IsWhole n (P.PreGroup keys inner p) ≡ whole_step n (L.PreGroup keys inner p)
whole-PreGroup n keys inner p = whole_at n _ (L.PreGroup keys inner p) (pout-PreGroup keys inner p)

pub spread-HashDistinct : (p : Phys) → (spread_of (P.HashDistinct p)).by ≡ spread_by Phys (λ q. q) spread_of (L.HashDistinct p)
spread-HashDistinct p = ap (λ (q : Phys). (spread_of q).by) (sym (P.rolls-HashDistinct p)) ∙ spread-roll (L.HashDistinct p)

pub order-HashDistinct : (p : Phys) → order_of (P.HashDistinct p) ≡ order_step (map-Phys Phys Local order_of (L.HashDistinct p))
order-HashDistinct p = ap order_of (sym (P.rolls-HashDistinct p)) ∙ order-roll (L.HashDistinct p)

pub required-HashDistinct : (p : Phys) (i : ℕ) → required (P.HashDistinct p) i ≡ required_step (L.HashDistinct p) i
required-HashDistinct p i = required_at _ (L.HashDistinct p) (pout-HashDistinct p) i

pub laid-HashDistinct : (n : ℕ) (p : Phys) → IsLaid n (P.HashDistinct p) ≡ laid_step n (L.HashDistinct p)
laid-HashDistinct n p = laid_at n _ (L.HashDistinct p) (pout-HashDistinct p)

pub whole-HashDistinct : (n : ℕ) (p : Phys) → IsWhole n (P.HashDistinct p) ≡ whole_step n (L.HashDistinct p)
whole-HashDistinct n p = whole_at n _ (L.HashDistinct p) (pout-HashDistinct p)

pub spread-AggPart : (made : List (Var × AggCall)) (p : Phys) → (spread_of (P.AggPart made p)).by ≡ spread_by Phys (λ q. q) spread_of (L.AggPart made p)
spread-AggPart made p = ap (λ (q : Phys). (spread_of q).by) (sym (P.rolls-AggPart made p)) ∙ spread-roll (L.AggPart made p)

pub order-AggPart : (made : List (Var × AggCall)) (p : Phys) → order_of (P.AggPart made p) ≡ order_step (map-Phys Phys Local order_of (L.AggPart made p))
order-AggPart made p = ap order_of (sym (P.rolls-AggPart made p)) ∙ order-roll (L.AggPart made p)

pub required-AggPart : (made : List (Var × AggCall)) (p : Phys) (i : ℕ) → required (P.AggPart made p) i ≡ required_step (L.AggPart made p) i
required-AggPart made p i = required_at _ (L.AggPart made p) (pout-AggPart made p) i

pub laid-AggPart : (n : ℕ) (made : List (Var × AggCall)) (p : Phys) → IsLaid n (P.AggPart made p) ≡ laid_step n (L.AggPart made p)
laid-AggPart n made p = laid_at n _ (L.AggPart made p) (pout-AggPart made p)

pub spread-AggFinal : (made : List (Var × AggCall)) (p : Phys) → (spread_of (P.AggFinal made p)).by ≡ spread_by Phys (λ q. q) spread_of (L.AggFinal made p)
spread-AggFinal made p = ap (λ (q : Phys). (spread_of q).by) (sym (P.rolls-AggFinal made p)) ∙ spread-roll (L.AggFinal made p)

pub order-AggFinal : (made : List (Var × AggCall)) (p : Phys) → order_of (P.AggFinal made p) ≡ order_step (map-Phys Phys Local order_of (L.AggFinal made p))
order-AggFinal made p = ap order_of (sym (P.rolls-AggFinal made p)) ∙ order-roll (L.AggFinal made p)

pub required-AggFinal : (made : List (Var × AggCall)) (p : Phys) (i : ℕ) → required (P.AggFinal made p) i ≡ required_step (L.AggFinal made p) i
required-AggFinal made p i = required_at _ (L.AggFinal made p) (pout-AggFinal made p) i

pub laid-AggFinal : (n : ℕ) (made : List (Var × AggCall)) (p : Phys) → IsLaid n (P.AggFinal made p) ≡ laid_step n (L.AggFinal made p)
laid-AggFinal n made p = laid_at n _ (L.AggFinal made p) (pout-AggFinal made p)

pub whole-AggFinal : (n : ℕ) (made : List (Var × AggCall)) (p : Phys) → IsWhole n (P.AggFinal made p) ≡ whole_step n (L.AggFinal made p)
whole-AggFinal n made p = whole_at n _ (L.AggFinal made p) (pout-AggFinal made p)

pub spread-Union : (made : List Var) (ls : List Var) (rs : List Var) (l : Phys) (r : Phys) → (spread_of (P.Union made ls rs l r)).by ≡ spread_by Phys (λ q. q) spread_of (L.Union made ls rs l r)
spread-Union made ls rs l r = ap (λ (q : Phys). (spread_of q).by) (sym (P.rolls-Union made ls rs l r)) ∙ spread-roll (L.Union made ls rs l r)

pub order-Union : (made : List Var) (ls : List Var) (rs : List Var) (l : Phys) (r : Phys) → order_of (P.Union made ls rs l r) ≡ order_step (map-Phys Phys Local order_of (L.Union made ls rs l r))
order-Union made ls rs l r = ap order_of (sym (P.rolls-Union made ls rs l r)) ∙ order-roll (L.Union made ls rs l r)

pub required-Union : (made : List Var) (ls : List Var) (rs : List Var) (l : Phys) (r : Phys) (i : ℕ) → required (P.Union made ls rs l r) i ≡ required_step (L.Union made ls rs l r) i
required-Union made ls rs l r i = required_at _ (L.Union made ls rs l r) (pout-Union made ls rs l r) i

pub laid-Union : (n : ℕ) (made : List Var) (ls : List Var) (rs : List Var) (l : Phys) (r : Phys) → IsLaid n (P.Union made ls rs l r) ≡ laid_step n (L.Union made ls rs l r)
laid-Union n made ls rs l r = laid_at n _ (L.Union made ls rs l r) (pout-Union made ls rs l r)

pub whole-Union : (n : ℕ) (made : List Var) (ls : List Var) (rs : List Var) (l : Phys) (r : Phys) → IsWhole n (P.Union made ls rs l r) ≡ whole_step n (L.Union made ls rs l r)
whole-Union n made ls rs l r = whole_at n _ (L.Union made ls rs l r) (pout-Union made ls rs l r)

pub spread-Sort : (keys : List OrderKey) (p : Phys) → (spread_of (P.Sort keys p)).by ≡ spread_by Phys (λ q. q) spread_of (L.Sort keys p)
spread-Sort keys p = ap (λ (q : Phys). (spread_of q).by) (sym (P.rolls-Sort keys p)) ∙ spread-roll (L.Sort keys p)

pub order-Sort : (keys : List OrderKey) (p : Phys) → order_of (P.Sort keys p) ≡ order_step (map-Phys Phys Local order_of (L.Sort keys p))
order-Sort keys p = ap order_of (sym (P.rolls-Sort keys p)) ∙ order-roll (L.Sort keys p)

pub required-Sort : (keys : List OrderKey) (p : Phys) (i : ℕ) → required (P.Sort keys p) i ≡ required_step (L.Sort keys p) i
required-Sort keys p i = required_at _ (L.Sort keys p) (pout-Sort keys p) i

pub laid-Sort : (n : ℕ) (keys : List OrderKey) (p : Phys) → IsLaid n (P.Sort keys p) ≡ laid_step n (L.Sort keys p)
laid-Sort n keys p = laid_at n _ (L.Sort keys p) (pout-Sort keys p)

pub whole-Sort : (n : ℕ) (keys : List OrderKey) (p : Phys) → IsWhole n (P.Sort keys p) ≡ whole_step n (L.Sort keys p)
whole-Sort n keys p = whole_at n _ (L.Sort keys p) (pout-Sort keys p)

pub spread-Limit : (m : ℕ) (k : ℕ) (p : Phys) → (spread_of (P.Limit m k p)).by ≡ spread_by Phys (λ q. q) spread_of (L.Limit m k p)
spread-Limit m k p = ap (λ (q : Phys). (spread_of q).by) (sym (P.rolls-Limit m k p)) ∙ spread-roll (L.Limit m k p)

pub order-Limit : (m : ℕ) (k : ℕ) (p : Phys) → order_of (P.Limit m k p) ≡ order_step (map-Phys Phys Local order_of (L.Limit m k p))
order-Limit m k p = ap order_of (sym (P.rolls-Limit m k p)) ∙ order-roll (L.Limit m k p)

pub required-Limit : (m : ℕ) (k : ℕ) (p : Phys) (i : ℕ) → required (P.Limit m k p) i ≡ required_step (L.Limit m k p) i
required-Limit m k p i = required_at _ (L.Limit m k p) (pout-Limit m k p) i

pub laid-Limit : (n : ℕ) (m : ℕ) (k : ℕ) (p : Phys) → IsLaid n (P.Limit m k p) ≡ laid_step n (L.Limit m k p)
laid-Limit n m k p = laid_at n _ (L.Limit m k p) (pout-Limit m k p)

pub whole-Limit : (n : ℕ) (m : ℕ) (k : ℕ) (p : Phys) → IsWhole n (P.Limit m k p) ≡ whole_step n (L.Limit m k p)
whole-Limit n m k p = whole_at n _ (L.Limit m k p) (pout-Limit m k p)

pub spread-LocalLimit : (m : ℕ) (p : Phys) → (spread_of (P.LocalLimit m p)).by ≡ spread_by Phys (λ q. q) spread_of (L.LocalLimit m p)
spread-LocalLimit m p = ap (λ (q : Phys). (spread_of q).by) (sym (P.rolls-LocalLimit m p)) ∙ spread-roll (L.LocalLimit m p)

pub order-LocalLimit : (m : ℕ) (p : Phys) → order_of (P.LocalLimit m p) ≡ order_step (map-Phys Phys Local order_of (L.LocalLimit m p))
order-LocalLimit m p = ap order_of (sym (P.rolls-LocalLimit m p)) ∙ order-roll (L.LocalLimit m p)

pub required-LocalLimit : (m : ℕ) (p : Phys) (i : ℕ) → required (P.LocalLimit m p) i ≡ required_step (L.LocalLimit m p) i
required-LocalLimit m p i = required_at _ (L.LocalLimit m p) (pout-LocalLimit m p) i

pub laid-LocalLimit : (n : ℕ) (m : ℕ) (p : Phys) → IsLaid n (P.LocalLimit m p) ≡ laid_step n (L.LocalLimit m p)
laid-LocalLimit n m p = laid_at n _ (L.LocalLimit m p) (pout-LocalLimit m p)

pub whole-LocalLimit : (n : ℕ) (m : ℕ) (p : Phys) → IsWhole n (P.LocalLimit m p) ≡ whole_step n (L.LocalLimit m p)
whole-LocalLimit n m p = whole_at n _ (L.LocalLimit m p) (pout-LocalLimit m p)

pub spread-Result : (vars : List Var) (p : Phys) → (spread_of (P.Result vars p)).by ≡ spread_by Phys (λ q. q) spread_of (L.Result vars p)
spread-Result vars p = ap (λ (q : Phys). (spread_of q).by) (sym (P.rolls-Result vars p)) ∙ spread-roll (L.Result vars p)

pub order-Result : (vars : List Var) (p : Phys) → order_of (P.Result vars p) ≡ order_step (map-Phys Phys Local order_of (L.Result vars p))
order-Result vars p = ap order_of (sym (P.rolls-Result vars p)) ∙ order-roll (L.Result vars p)

pub required-Result : (vars : List Var) (p : Phys) (i : ℕ) → required (P.Result vars p) i ≡ required_step (L.Result vars p) i
required-Result vars p i = required_at _ (L.Result vars p) (pout-Result vars p) i

pub laid-Result : (n : ℕ) (vars : List Var) (p : Phys) → IsLaid n (P.Result vars p) ≡ laid_step n (L.Result vars p)
laid-Result n vars p = laid_at n _ (L.Result vars p) (pout-Result vars p)

pub whole-Result : (n : ℕ) (vars : List Var) (p : Phys) → IsWhole n (P.Result vars p) ≡ whole_step n (L.Result vars p)
whole-Result n vars p = whole_at n _ (L.Result vars p) (pout-Result vars p)

pub spread-HashExchange : (vars : List Var) (p : Phys) → (spread_of (P.HashExchange vars p)).by ≡ spread_by Phys (λ q. q) spread_of (L.HashExchange vars p)
spread-HashExchange vars p = ap (λ (q : Phys). (spread_of q).by) (sym (P.rolls-HashExchange vars p)) ∙ spread-roll (L.HashExchange vars p)

pub order-HashExchange : (vars : List Var) (p : Phys) → order_of (P.HashExchange vars p) ≡ order_step (map-Phys Phys Local order_of (L.HashExchange vars p))
order-HashExchange vars p = ap order_of (sym (P.rolls-HashExchange vars p)) ∙ order-roll (L.HashExchange vars p)

pub required-HashExchange : (vars : List Var) (p : Phys) (i : ℕ) → required (P.HashExchange vars p) i ≡ required_step (L.HashExchange vars p) i
required-HashExchange vars p i = required_at _ (L.HashExchange vars p) (pout-HashExchange vars p) i

pub laid-HashExchange : (n : ℕ) (vars : List Var) (p : Phys) → IsLaid n (P.HashExchange vars p) ≡ laid_step n (L.HashExchange vars p)
laid-HashExchange n vars p = laid_at n _ (L.HashExchange vars p) (pout-HashExchange vars p)

pub spread-Broadcast : (p : Phys) → (spread_of (P.Broadcast p)).by ≡ spread_by Phys (λ q. q) spread_of (L.Broadcast p)
spread-Broadcast p = ap (λ (q : Phys). (spread_of q).by) (sym (P.rolls-Broadcast p)) ∙ spread-roll (L.Broadcast p)

pub order-Broadcast : (p : Phys) → order_of (P.Broadcast p) ≡ order_step (map-Phys Phys Local order_of (L.Broadcast p))
order-Broadcast p = ap order_of (sym (P.rolls-Broadcast p)) ∙ order-roll (L.Broadcast p)

pub required-Broadcast : (p : Phys) (i : ℕ) → required (P.Broadcast p) i ≡ required_step (L.Broadcast p) i
required-Broadcast p i = required_at _ (L.Broadcast p) (pout-Broadcast p) i

pub laid-Broadcast : (n : ℕ) (p : Phys) → IsLaid n (P.Broadcast p) ≡ laid_step n (L.Broadcast p)
laid-Broadcast n p = laid_at n _ (L.Broadcast p) (pout-Broadcast p)

pub spread-Gather : (p : Phys) → (spread_of (P.Gather p)).by ≡ spread_by Phys (λ q. q) spread_of (L.Gather p)
spread-Gather p = ap (λ (q : Phys). (spread_of q).by) (sym (P.rolls-Gather p)) ∙ spread-roll (L.Gather p)

pub order-Gather : (p : Phys) → order_of (P.Gather p) ≡ order_step (map-Phys Phys Local order_of (L.Gather p))
order-Gather p = ap order_of (sym (P.rolls-Gather p)) ∙ order-roll (L.Gather p)

pub required-Gather : (p : Phys) (i : ℕ) → required (P.Gather p) i ≡ required_step (L.Gather p) i
required-Gather p i = required_at _ (L.Gather p) (pout-Gather p) i

pub laid-Gather : (n : ℕ) (p : Phys) → IsLaid n (P.Gather p) ≡ laid_step n (L.Gather p)
laid-Gather n p = laid_at n _ (L.Gather p) (pout-Gather p)

pub whole-Gather : (n : ℕ) (p : Phys) → IsWhole n (P.Gather p) ≡ whole_step n (L.Gather p)
whole-Gather n p = whole_at n _ (L.Gather p) (pout-Gather p)

pub spread-Merge : (keys : List OrderKey) (p : Phys) → (spread_of (P.Merge keys p)).by ≡ spread_by Phys (λ q. q) spread_of (L.Merge keys p)
spread-Merge keys p = ap (λ (q : Phys). (spread_of q).by) (sym (P.rolls-Merge keys p)) ∙ spread-roll (L.Merge keys p)

pub order-Merge : (keys : List OrderKey) (p : Phys) → order_of (P.Merge keys p) ≡ order_step (map-Phys Phys Local order_of (L.Merge keys p))
order-Merge keys p = ap order_of (sym (P.rolls-Merge keys p)) ∙ order-roll (L.Merge keys p)

pub required-Merge : (keys : List OrderKey) (p : Phys) (i : ℕ) → required (P.Merge keys p) i ≡ required_step (L.Merge keys p) i
required-Merge keys p i = required_at _ (L.Merge keys p) (pout-Merge keys p) i

pub laid-Merge : (n : ℕ) (keys : List OrderKey) (p : Phys) → IsLaid n (P.Merge keys p) ≡ laid_step n (L.Merge keys p)
laid-Merge n keys p = laid_at n _ (L.Merge keys p) (pout-Merge keys p)

pub whole-Merge : (n : ℕ) (keys : List OrderKey) (p : Phys) → IsWhole n (P.Merge keys p) ≡ whole_step n (L.Merge keys p)
whole-Merge n keys p = whole_at n _ (L.Merge keys p) (pout-Merge keys p)
