-- The shape and the activities of each operator.
use Rattle.std.proofs.Common.{◌≡◌, ℕ, List, ap}
use Rattle.al_plan.specs.declared.expr.Var.{Var}
use Rattle.al_plan.specs.declared.expr.Expr.{Expr}
use Rattle.al_plan.specs.declared.plan.OrderKey.{OrderKey}
use Rattle.al_plan.specs.declared.plan.AggCall.{AggCall}
use Rattle.al_plan.specs.declared.plan.Generator.{Generator}
use Rattle.al_plan.specs.declared.plan.Plan.{Plan}
use Rattle.al_plan.specs.Eval.{Bytes}
use Rattle.al_phys.specs.declared.phys.JoinForm.{JoinForm}
use Rattle.al_phys.specs.declared.phys.Phys.{Phys, out-Phys}
use Rattle.al_phys.specs.declared.phys.Phys.TheVariants as P
use Rattle.al_phys.specs.declared.phys.Phys.TheOpen as L
use Rattle.al_phys.proofs.OperatorLaws.{pout-Scan, pout-One, pout-Assign, pout-Select, pout-Project, pout-Unnest, pout-Subplan, pout-Check, pout-Join, pout-HashGroup, pout-PreGroup, pout-HashDistinct, pout-AggPart, pout-AggFinal, pout-Union, pout-Sort, pout-Limit, pout-LocalLimit, pout-Result, pout-HashExchange, pout-Broadcast, pout-Gather, pout-Merge}
use Rattle.al_jobgen.specs.JobOf.{own_steps, wire_step}
use Rattle.al_jobgen.specs.Shapes.{form}
use Rattle.al_jobgen.specs.Added.{own_of}

pub form-Scan : (set : Bytes) (vars : List Var) → form (out-Phys (P.Scan set vars)) ≡ form (L.Scan set vars)
form-Scan set vars = ap form (pout-Scan set vars)

pub own-Scan : (set : Bytes) (vars : List Var) → own_of (P.Scan set vars) ≡ own_steps (P.Scan set vars) (L.Scan set vars)
own-Scan set vars = ap (own_steps (P.Scan set vars)) (pout-Scan set vars)

pub wire-Scan : (set : Bytes) (vars : List Var) → wire_step (out-Phys (P.Scan set vars)) ≡ wire_step (L.Scan set vars)
wire-Scan set vars = ap wire_step (pout-Scan set vars)

pub form-One : form (out-Phys P.One) ≡ form L.One
form-One = ap form pout-One

pub own-One : own_of P.One ≡ own_steps P.One L.One
own-One = ap (own_steps P.One) pout-One

pub wire-One : wire_step (out-Phys P.One) ≡ wire_step L.One
wire-One = ap wire_step pout-One

pub form-Assign : (made : List (Var × Expr)) (p : Phys) → form (out-Phys (P.Assign made p)) ≡ form (L.Assign made p)
form-Assign made p = ap form (pout-Assign made p)

pub own-Assign : (made : List (Var × Expr)) (p : Phys) → own_of (P.Assign made p) ≡ own_steps (P.Assign made p) (L.Assign made p)
own-Assign made p = ap (own_steps (P.Assign made p)) (pout-Assign made p)

pub wire-Assign : (made : List (Var × Expr)) (p : Phys) → wire_step (out-Phys (P.Assign made p)) ≡ wire_step (L.Assign made p)
wire-Assign made p = ap wire_step (pout-Assign made p)

pub form-Select : (c : Expr) (p : Phys) → form (out-Phys (P.Select c p)) ≡ form (L.Select c p)
form-Select c p = ap form (pout-Select c p)

pub own-Select : (c : Expr) (p : Phys) → own_of (P.Select c p) ≡ own_steps (P.Select c p) (L.Select c p)
own-Select c p = ap (own_steps (P.Select c p)) (pout-Select c p)

pub wire-Select : (c : Expr) (p : Phys) → wire_step (out-Phys (P.Select c p)) ≡ wire_step (L.Select c p)
wire-Select c p = ap wire_step (pout-Select c p)

pub form-Project : (vars : List Var) (p : Phys) → form (out-Phys (P.Project vars p)) ≡ form (L.Project vars p)
form-Project vars p = ap form (pout-Project vars p)

pub own-Project : (vars : List Var) (p : Phys) → own_of (P.Project vars p) ≡ own_steps (P.Project vars p) (L.Project vars p)
own-Project vars p = ap (own_steps (P.Project vars p)) (pout-Project vars p)

pub wire-Project : (vars : List Var) (p : Phys) → wire_step (out-Phys (P.Project vars p)) ≡ wire_step (L.Project vars p)
wire-Project vars p = ap wire_step (pout-Project vars p)

pub form-Unnest : (v : Var) (its : Generator) (p : Phys) → form (out-Phys (P.Unnest v its p)) ≡ form (L.Unnest v its p)
form-Unnest v its p = ap form (pout-Unnest v its p)

pub own-Unnest : (v : Var) (its : Generator) (p : Phys) → own_of (P.Unnest v its p) ≡ own_steps (P.Unnest v its p) (L.Unnest v its p)
own-Unnest v its p = ap (own_steps (P.Unnest v its p)) (pout-Unnest v its p)

pub wire-Unnest : (v : Var) (its : Generator) (p : Phys) → wire_step (out-Phys (P.Unnest v its p)) ≡ wire_step (L.Unnest v its p)
wire-Unnest v its p = ap wire_step (pout-Unnest v its p)

pub form-Subplan : (inner : Plan) (p : Phys) → form (out-Phys (P.Subplan inner p)) ≡ form (L.Subplan inner p)
form-Subplan inner p = ap form (pout-Subplan inner p)

pub own-Subplan : (inner : Plan) (p : Phys) → own_of (P.Subplan inner p) ≡ own_steps (P.Subplan inner p) (L.Subplan inner p)
own-Subplan inner p = ap (own_steps (P.Subplan inner p)) (pout-Subplan inner p)

pub wire-Subplan : (inner : Plan) (p : Phys) → wire_step (out-Phys (P.Subplan inner p)) ≡ wire_step (L.Subplan inner p)
wire-Subplan inner p = ap wire_step (pout-Subplan inner p)

pub form-Check : (own : Bytes) (c : Expr) (p : Phys) → form (out-Phys (P.Check own c p)) ≡ form (L.Check own c p)
form-Check own c p = ap form (pout-Check own c p)

pub own-Check : (own : Bytes) (c : Expr) (p : Phys) → own_of (P.Check own c p) ≡ own_steps (P.Check own c p) (L.Check own c p)
own-Check own c p = ap (own_steps (P.Check own c p)) (pout-Check own c p)

pub wire-Check : (own : Bytes) (c : Expr) (p : Phys) → wire_step (out-Phys (P.Check own c p)) ≡ wire_step (L.Check own c p)
wire-Check own c p = ap wire_step (pout-Check own c p)

pub form-Join : (how : JoinForm) (c : Expr) (l : Phys) (r : Phys) → form (out-Phys (P.Join how c l r)) ≡ form (L.Join how c l r)
form-Join how c l r = ap form (pout-Join how c l r)

pub own-Join : (how : JoinForm) (c : Expr) (l : Phys) (r : Phys) → own_of (P.Join how c l r) ≡ own_steps (P.Join how c l r) (L.Join how c l r)
own-Join how c l r = ap (own_steps (P.Join how c l r)) (pout-Join how c l r)

pub wire-Join : (how : JoinForm) (c : Expr) (l : Phys) (r : Phys) → wire_step (out-Phys (P.Join how c l r)) ≡ wire_step (L.Join how c l r)
wire-Join how c l r = ap wire_step (pout-Join how c l r)

pub form-HashGroup : (keys : List (Var × Var)) (inner : Plan) (p : Phys) → form (out-Phys (P.HashGroup keys inner p)) ≡ form (L.HashGroup keys inner p)
form-HashGroup keys inner p = ap form (pout-HashGroup keys inner p)

pub own-HashGroup : (keys : List (Var × Var)) (inner : Plan) (p : Phys) → own_of (P.HashGroup keys inner p) ≡ own_steps (P.HashGroup keys inner p) (L.HashGroup keys inner p)
own-HashGroup keys inner p = ap (own_steps (P.HashGroup keys inner p)) (pout-HashGroup keys inner p)

pub wire-HashGroup : (keys : List (Var × Var)) (inner : Plan) (p : Phys) → wire_step (out-Phys (P.HashGroup keys inner p)) ≡ wire_step (L.HashGroup keys inner p)
wire-HashGroup keys inner p = ap wire_step (pout-HashGroup keys inner p)

pub form-PreGroup : (keys : List (Var × Var)) (inner : Plan) (p : Phys) → form (out-Phys (P.PreGroup keys inner p)) ≡ form (L.PreGroup keys inner p)
form-PreGroup keys inner p = ap form (pout-PreGroup keys inner p)

pub own-PreGroup : (keys : List (Var × Var)) (inner : Plan) (p : Phys) → own_of (P.PreGroup keys inner p) ≡ own_steps (P.PreGroup keys inner p) (L.PreGroup keys inner p)
own-PreGroup keys inner p = ap (own_steps (P.PreGroup keys inner p)) (pout-PreGroup keys inner p)

pub wire-PreGroup : (keys : List (Var × Var)) (inner : Plan) (p : Phys) → wire_step (out-Phys (P.PreGroup keys inner p)) ≡ wire_step (L.PreGroup keys inner p)
wire-PreGroup keys inner p = ap wire_step (pout-PreGroup keys inner p)

pub form-HashDistinct : (p : Phys) → form (out-Phys (P.HashDistinct p)) ≡ form (L.HashDistinct p)
form-HashDistinct p = ap form (pout-HashDistinct p)

pub own-HashDistinct : (p : Phys) → own_of (P.HashDistinct p) ≡ own_steps (P.HashDistinct p) (L.HashDistinct p)
own-HashDistinct p = ap (own_steps (P.HashDistinct p)) (pout-HashDistinct p)

pub wire-HashDistinct : (p : Phys) → wire_step (out-Phys (P.HashDistinct p)) ≡ wire_step (L.HashDistinct p)
wire-HashDistinct p = ap wire_step (pout-HashDistinct p)

pub form-AggPart : (made : List (Var × AggCall)) (p : Phys) → form (out-Phys (P.AggPart made p)) ≡ form (L.AggPart made p)
form-AggPart made p = ap form (pout-AggPart made p)

pub own-AggPart : (made : List (Var × AggCall)) (p : Phys) → own_of (P.AggPart made p) ≡ own_steps (P.AggPart made p) (L.AggPart made p)
own-AggPart made p = ap (own_steps (P.AggPart made p)) (pout-AggPart made p)

pub wire-AggPart : (made : List (Var × AggCall)) (p : Phys) → wire_step (out-Phys (P.AggPart made p)) ≡ wire_step (L.AggPart made p)
wire-AggPart made p = ap wire_step (pout-AggPart made p)

pub form-AggFinal : (made : List (Var × AggCall)) (p : Phys) → form (out-Phys (P.AggFinal made p)) ≡ form (L.AggFinal made p)
form-AggFinal made p = ap form (pout-AggFinal made p)

pub own-AggFinal : (made : List (Var × AggCall)) (p : Phys) → own_of (P.AggFinal made p) ≡ own_steps (P.AggFinal made p) (L.AggFinal made p)
own-AggFinal made p = ap (own_steps (P.AggFinal made p)) (pout-AggFinal made p)

pub wire-AggFinal : (made : List (Var × AggCall)) (p : Phys) → wire_step (out-Phys (P.AggFinal made p)) ≡ wire_step (L.AggFinal made p)
wire-AggFinal made p = ap wire_step (pout-AggFinal made p)

pub form-Union : (made : List Var) (ls : List Var) (rs : List Var) (l : Phys) (r : Phys) → form (out-Phys (P.Union made ls rs l r)) ≡ form (L.Union made ls rs l r)
form-Union made ls rs l r = ap form (pout-Union made ls rs l r)

pub own-Union : (made : List Var) (ls : List Var) (rs : List Var) (l : Phys) (r : Phys) → own_of (P.Union made ls rs l r) ≡ own_steps (P.Union made ls rs l r) (L.Union made ls rs l r)
own-Union made ls rs l r = ap (own_steps (P.Union made ls rs l r)) (pout-Union made ls rs l r)

pub wire-Union : (made : List Var) (ls : List Var) (rs : List Var) (l : Phys) (r : Phys) → wire_step (out-Phys (P.Union made ls rs l r)) ≡ wire_step (L.Union made ls rs l r)
wire-Union made ls rs l r = ap wire_step (pout-Union made ls rs l r)

pub form-Sort : (keys : List OrderKey) (p : Phys) → form (out-Phys (P.Sort keys p)) ≡ form (L.Sort keys p)
form-Sort keys p = ap form (pout-Sort keys p)

pub own-Sort : (keys : List OrderKey) (p : Phys) → own_of (P.Sort keys p) ≡ own_steps (P.Sort keys p) (L.Sort keys p)
own-Sort keys p = ap (own_steps (P.Sort keys p)) (pout-Sort keys p)

pub wire-Sort : (keys : List OrderKey) (p : Phys) → wire_step (out-Phys (P.Sort keys p)) ≡ wire_step (L.Sort keys p)
wire-Sort keys p = ap wire_step (pout-Sort keys p)

pub form-Limit : (m : ℕ) (k : ℕ) (p : Phys) → form (out-Phys (P.Limit m k p)) ≡ form (L.Limit m k p)
form-Limit m k p = ap form (pout-Limit m k p)

pub own-Limit : (m : ℕ) (k : ℕ) (p : Phys) → own_of (P.Limit m k p) ≡ own_steps (P.Limit m k p) (L.Limit m k p)
own-Limit m k p = ap (own_steps (P.Limit m k p)) (pout-Limit m k p)

pub wire-Limit : (m : ℕ) (k : ℕ) (p : Phys) → wire_step (out-Phys (P.Limit m k p)) ≡ wire_step (L.Limit m k p)
wire-Limit m k p = ap wire_step (pout-Limit m k p)

pub form-LocalLimit : (m : ℕ) (p : Phys) → form (out-Phys (P.LocalLimit m p)) ≡ form (L.LocalLimit m p)
form-LocalLimit m p = ap form (pout-LocalLimit m p)

pub own-LocalLimit : (m : ℕ) (p : Phys) → own_of (P.LocalLimit m p) ≡ own_steps (P.LocalLimit m p) (L.LocalLimit m p)
own-LocalLimit m p = ap (own_steps (P.LocalLimit m p)) (pout-LocalLimit m p)

pub wire-LocalLimit : (m : ℕ) (p : Phys) → wire_step (out-Phys (P.LocalLimit m p)) ≡ wire_step (L.LocalLimit m p)
wire-LocalLimit m p = ap wire_step (pout-LocalLimit m p)

pub form-Result : (vars : List Var) (p : Phys) → form (out-Phys (P.Result vars p)) ≡ form (L.Result vars p)
form-Result vars p = ap form (pout-Result vars p)

pub own-Result : (vars : List Var) (p : Phys) → own_of (P.Result vars p) ≡ own_steps (P.Result vars p) (L.Result vars p)
own-Result vars p = ap (own_steps (P.Result vars p)) (pout-Result vars p)

pub wire-Result : (vars : List Var) (p : Phys) → wire_step (out-Phys (P.Result vars p)) ≡ wire_step (L.Result vars p)
wire-Result vars p = ap wire_step (pout-Result vars p)

pub form-HashExchange : (vars : List Var) (p : Phys) → form (out-Phys (P.HashExchange vars p)) ≡ form (L.HashExchange vars p)
form-HashExchange vars p = ap form (pout-HashExchange vars p)

pub own-HashExchange : (vars : List Var) (p : Phys) → own_of (P.HashExchange vars p) ≡ own_steps (P.HashExchange vars p) (L.HashExchange vars p)
own-HashExchange vars p = ap (own_steps (P.HashExchange vars p)) (pout-HashExchange vars p)

pub wire-HashExchange : (vars : List Var) (p : Phys) → wire_step (out-Phys (P.HashExchange vars p)) ≡ wire_step (L.HashExchange vars p)
wire-HashExchange vars p = ap wire_step (pout-HashExchange vars p)

pub form-Broadcast : (p : Phys) → form (out-Phys (P.Broadcast p)) ≡ form (L.Broadcast p)
form-Broadcast p = ap form (pout-Broadcast p)

pub own-Broadcast : (p : Phys) → own_of (P.Broadcast p) ≡ own_steps (P.Broadcast p) (L.Broadcast p)
own-Broadcast p = ap (own_steps (P.Broadcast p)) (pout-Broadcast p)

pub wire-Broadcast : (p : Phys) → wire_step (out-Phys (P.Broadcast p)) ≡ wire_step (L.Broadcast p)
wire-Broadcast p = ap wire_step (pout-Broadcast p)

pub form-Gather : (p : Phys) → form (out-Phys (P.Gather p)) ≡ form (L.Gather p)
form-Gather p = ap form (pout-Gather p)

pub own-Gather : (p : Phys) → own_of (P.Gather p) ≡ own_steps (P.Gather p) (L.Gather p)
own-Gather p = ap (own_steps (P.Gather p)) (pout-Gather p)

pub wire-Gather : (p : Phys) → wire_step (out-Phys (P.Gather p)) ≡ wire_step (L.Gather p)
wire-Gather p = ap wire_step (pout-Gather p)

pub form-Merge : (keys : List OrderKey) (p : Phys) → form (out-Phys (P.Merge keys p)) ≡ form (L.Merge keys p)
form-Merge keys p = ap form (pout-Merge keys p)

pub own-Merge : (keys : List OrderKey) (p : Phys) → own_of (P.Merge keys p) ≡ own_steps (P.Merge keys p) (L.Merge keys p)
own-Merge keys p = ap (own_steps (P.Merge keys p)) (pout-Merge keys p)

pub wire-Merge : (keys : List OrderKey) (p : Phys) → wire_step (out-Phys (P.Merge keys p)) ≡ wire_step (L.Merge keys p)
wire-Merge keys p = ap wire_step (pout-Merge keys p)

pub ruleset out_laws = (form-Scan, form-One, form-Assign, form-Select, form-Project, form-Unnest, form-Subplan, form-Check, form-Join, form-HashGroup, form-PreGroup, form-HashDistinct, form-AggPart, form-AggFinal, form-Union, form-Sort, form-Limit, form-LocalLimit, form-Result, form-HashExchange, form-Broadcast, form-Gather, form-Merge)

pub ruleset own_laws = (own-Scan, own-One, own-Assign, own-Select, own-Project, own-Unnest, own-Subplan, own-Check, own-Join, own-HashGroup, own-PreGroup, own-HashDistinct, own-AggPart, own-AggFinal, own-Union, own-Sort, own-Limit, own-LocalLimit, own-Result, own-HashExchange, own-Broadcast, own-Gather, own-Merge)

pub ruleset wire_laws = (wire-Scan, wire-One, wire-Assign, wire-Select, wire-Project, wire-Unnest, wire-Subplan, wire-Check, wire-Join, wire-HashGroup, wire-PreGroup, wire-HashDistinct, wire-AggPart, wire-AggFinal, wire-Union, wire-Sort, wire-Limit, wire-LocalLimit, wire-Result, wire-HashExchange, wire-Broadcast, wire-Gather, wire-Merge)
