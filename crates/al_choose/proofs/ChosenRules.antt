-- Laws of each operator, gathered for the search.
use Rattle.std.proofs.Common.{◌≡◌, ◌+◌, ◌-◌, ℕ, Bool, true, false, List, ◌∷◌, ◌++◌, length, refl, ap, sym, ◌∙◌, arith}
use Rattle.std.proofs.lemmas.List.{length-append}
use Rattle.al_plan.specs.declared.expr.Var.{Var}
use Rattle.al_plan.specs.declared.expr.Expr.{Expr}
use Rattle.al_plan.specs.declared.plan.OrderKey.{OrderKey}
use Rattle.al_plan.specs.declared.plan.AggCall.{AggCall}
use Rattle.al_plan.specs.declared.plan.Generator.{Generator}
use Rattle.al_plan.specs.declared.plan.Plan.{Plan, map-Plan, roll-Plan, fold-roll-Plan, out-Plan, out-roll-Plan}
use Rattle.al_plan.specs.declared.plan.Plan.TheVariants as P
use Rattle.al_plan.specs.declared.plan.Plan.TheOpen as L
use Rattle.al_plan.specs.Eval.{Bytes}
use Rattle.al_phys.specs.declared.property.Need.TheVariants as N
use Rattle.al_phys.specs.declared.phys.Phys.{Phys}
use Rattle.al_phys.specs.declared.phys.Phys.TheVariants as Q
use Rattle.al_phys.specs.declared.phys.JoinForm.{JoinForm}
use Rattle.al_phys.specs.Operators.{operators}
use Rattle.al_phys.specs.Placed.{is_chain, row_wise_step, is_row_wise, row_wise_root}
use Rattle.al_phys.proofs.OperatorLaws.{poperators-Scan, poperators-One, poperators-Assign, poperators-Select, poperators-Project, poperators-Unnest, poperators-Subplan, poperators-Check, poperators-Join, poperators-HashGroup, poperators-PreGroup, poperators-HashDistinct, poperators-AggPart, poperators-AggFinal, poperators-Union, poperators-Sort, poperators-Limit, poperators-LocalLimit, poperators-Result, poperators-HashExchange, poperators-Broadcast, poperators-Gather, poperators-Merge}
use Rattle.al_choose.specs.Chosen.{chosen, served, merge_over}
use Rattle.al_choose.proofs.ChosenLaws.{chosen-Scan, chosen-Empty, chosen-Nested, chosen-Assign, chosen-Select, chosen-Project, chosen-Unnest, chosen-Subplan, chosen-Join, chosen-LeftJoin, chosen-Group, chosen-Distinct, chosen-Union, chosen-Aggregate, chosen-Order, chosen-Limit, chosen-Check, chosen-Result}
use Rattle.al_choose.proofs.ServedOf.{served_any}

-- ---- what is chosen, where an operator takes its input as it is

pub plain-Assign : (n : ℕ) (made : List (Var × Expr)) (p : Plan) → chosen n (P.Assign made p) ≡ Q.Assign made (chosen n p)
plain-Assign n made p = chosen-Assign n made p ∙ ap (Q.Assign made) (served_any n (chosen n p))

pub plain-Select : (n : ℕ) (c : Expr) (p : Plan) → chosen n (P.Select c p) ≡ Q.Select c (chosen n p)
plain-Select n c p = chosen-Select n c p ∙ ap (Q.Select c) (served_any n (chosen n p))

pub plain-Project : (n : ℕ) (vars : List Var) (p : Plan) → chosen n (P.Project vars p) ≡ Q.Project vars (chosen n p)
plain-Project n vars p = chosen-Project n vars p ∙ ap (Q.Project vars) (served_any n (chosen n p))

pub plain-Unnest : (n : ℕ) (v : Var) (its : Generator) (p : Plan) → chosen n (P.Unnest v its p) ≡ Q.Unnest v its (chosen n p)
plain-Unnest n v its p = chosen-Unnest n v its p ∙ ap (Q.Unnest v its) (served_any n (chosen n p))

pub plain-Subplan : (n : ℕ) (inner p : Plan) → chosen n (P.Subplan inner p) ≡ Q.Subplan inner (chosen n p)
plain-Subplan n inner p = chosen-Subplan n inner p ∙ ap (Q.Subplan inner) (served_any n (chosen n p))

pub plain-Union : (n : ℕ) (made : List Var) (ls : List Var) (rs : List Var) (l r : Plan) → chosen n (P.Union made ls rs l r) ≡ Q.Union made ls rs (chosen n l) (chosen n r)
plain-Union n made ls rs l r = chosen-Union n made ls rs l r ∙ (λ i. Q.Union made ls rs (served_any n (chosen n l) i) (served_any n (chosen n r) i))

pub plain-Aggregate : (n : ℕ) (made : List (Var × AggCall)) (p : Plan) → chosen n (P.Aggregate made p) ≡ Q.AggFinal made (served n N.One (Q.AggPart made (chosen n p)))
plain-Aggregate n made p = chosen-Aggregate n made p ∙ ap (λ (q : Phys). Q.AggFinal made (served n N.One (Q.AggPart made q))) (served_any n (chosen n p))

pub plain-Order : (n : ℕ) (keys : List OrderKey) (p : Plan) → chosen n (P.Order keys p) ≡ merge_over n keys (Q.Sort keys (chosen n p))
plain-Order n keys p = chosen-Order n keys p ∙ ap (λ (q : Phys). merge_over n keys (Q.Sort keys q)) (served_any n (chosen n p))

pub plain-Check : (n : ℕ) (own : Bytes) (c : Expr) (p : Plan) → chosen n (P.Check own c p) ≡ Q.Check own c (chosen n p)
plain-Check n own c p = chosen-Check n own c p ∙ ap (Q.Check own c) (served_any n (chosen n p))

pub ruleset plain_laws = (chosen-Scan, chosen-Empty, chosen-Nested, plain-Assign, plain-Select, plain-Project, plain-Unnest, plain-Subplan, chosen-Join, chosen-LeftJoin, chosen-Group, chosen-Distinct, plain-Union, plain-Aggregate, plain-Order, chosen-Limit, plain-Check, chosen-Result)

-- ---- nested plans

chain-roll : (x : L.Plan-F Plan) → is_chain (roll-Plan x) ≡ row_wise_step (map-Plan Plan Bool is_chain x)
unfolding is_chain
chain-roll x = fold-roll-Plan Bool row_wise_step x

row_wise-roll : (x : L.Plan-F Plan) → is_row_wise (roll-Plan x) ≡ row_wise_root x
unfolding is_row_wise
row_wise-roll x = ap row_wise_root (out-roll-Plan x)

pub chain-Scan : (set : Bytes) (vars : List Var) → is_chain (P.Scan set vars) ≡ false
chain-Scan set vars = ap is_chain (sym (P.rolls-Scan set vars)) ∙ chain-roll (L.Scan set vars)

pub chain-Empty : is_chain P.Empty ≡ false
chain-Empty = ap is_chain (sym (P.rolls-Empty)) ∙ chain-roll L.Empty

pub chain-Nested : is_chain P.Nested ≡ true
chain-Nested = ap is_chain (sym (P.rolls-Nested)) ∙ chain-roll L.Nested

pub chain-Assign : (made : List (Var × Expr)) (p : Plan) → is_chain (P.Assign made p) ≡ is_chain p
chain-Assign made p = ap is_chain (sym (P.rolls-Assign made p)) ∙ chain-roll (L.Assign made p)

pub chain-Select : (c : Expr) (p : Plan) → is_chain (P.Select c p) ≡ is_chain p
chain-Select c p = ap is_chain (sym (P.rolls-Select c p)) ∙ chain-roll (L.Select c p)

pub chain-Project : (vars : List Var) (p : Plan) → is_chain (P.Project vars p) ≡ is_chain p
chain-Project vars p = ap is_chain (sym (P.rolls-Project vars p)) ∙ chain-roll (L.Project vars p)

pub chain-Unnest : (v : Var) (its : Generator) (p : Plan) → is_chain (P.Unnest v its p) ≡ is_chain p
chain-Unnest v its p = ap is_chain (sym (P.rolls-Unnest v its p)) ∙ chain-roll (L.Unnest v its p)

pub chain-Subplan : (inner p : Plan) → is_chain (P.Subplan inner p) ≡ false
chain-Subplan inner p = ap is_chain (sym (P.rolls-Subplan inner p)) ∙ chain-roll (L.Subplan inner p)

pub chain-Join : (c : Expr) (l r : Plan) → is_chain (P.Join c l r) ≡ false
chain-Join c l r = ap is_chain (sym (P.rolls-Join c l r)) ∙ chain-roll (L.Join c l r)

pub chain-LeftJoin : (c : Expr) (l r : Plan) → is_chain (P.LeftJoin c l r) ≡ false
chain-LeftJoin c l r = ap is_chain (sym (P.rolls-LeftJoin c l r)) ∙ chain-roll (L.LeftJoin c l r)

pub chain-Group : (keys : List (Var × Var)) (inner p : Plan) → is_chain (P.Group keys inner p) ≡ false
chain-Group keys inner p = ap is_chain (sym (P.rolls-Group keys inner p)) ∙ chain-roll (L.Group keys inner p)

pub chain-Distinct : (p : Plan) → is_chain (P.Distinct p) ≡ false
chain-Distinct p = ap is_chain (sym (P.rolls-Distinct p)) ∙ chain-roll (L.Distinct p)

pub chain-Union : (made : List Var) (ls : List Var) (rs : List Var) (l r : Plan) → is_chain (P.Union made ls rs l r) ≡ false
chain-Union made ls rs l r = ap is_chain (sym (P.rolls-Union made ls rs l r)) ∙ chain-roll (L.Union made ls rs l r)

pub chain-Aggregate : (made : List (Var × AggCall)) (p : Plan) → is_chain (P.Aggregate made p) ≡ false
chain-Aggregate made p = ap is_chain (sym (P.rolls-Aggregate made p)) ∙ chain-roll (L.Aggregate made p)

pub chain-Order : (keys : List OrderKey) (p : Plan) → is_chain (P.Order keys p) ≡ false
chain-Order keys p = ap is_chain (sym (P.rolls-Order keys p)) ∙ chain-roll (L.Order keys p)

pub chain-Limit : (m : ℕ) (k : ℕ) (p : Plan) → is_chain (P.Limit m k p) ≡ false
chain-Limit m k p = ap is_chain (sym (P.rolls-Limit m k p)) ∙ chain-roll (L.Limit m k p)

pub chain-Check : (own : Bytes) (c : Expr) (p : Plan) → is_chain (P.Check own c p) ≡ false
chain-Check own c p = ap is_chain (sym (P.rolls-Check own c p)) ∙ chain-roll (L.Check own c p)

pub chain-Result : (vars : List Var) (p : Plan) → is_chain (P.Result vars p) ≡ false
chain-Result vars p = ap is_chain (sym (P.rolls-Result vars p)) ∙ chain-roll (L.Result vars p)

pub row_wise-Scan : (set : Bytes) (vars : List Var) → is_row_wise (P.Scan set vars) ≡ false
row_wise-Scan set vars = ap is_row_wise (sym (P.rolls-Scan set vars)) ∙ row_wise-roll (L.Scan set vars)

pub row_wise-Empty : is_row_wise P.Empty ≡ false
row_wise-Empty = ap is_row_wise (sym (P.rolls-Empty)) ∙ row_wise-roll L.Empty

pub row_wise-Nested : is_row_wise P.Nested ≡ false
row_wise-Nested = ap is_row_wise (sym (P.rolls-Nested)) ∙ row_wise-roll L.Nested

pub row_wise-Assign : (made : List (Var × Expr)) (p : Plan) → is_row_wise (P.Assign made p) ≡ false
row_wise-Assign made p = ap is_row_wise (sym (P.rolls-Assign made p)) ∙ row_wise-roll (L.Assign made p)

pub row_wise-Select : (c : Expr) (p : Plan) → is_row_wise (P.Select c p) ≡ false
row_wise-Select c p = ap is_row_wise (sym (P.rolls-Select c p)) ∙ row_wise-roll (L.Select c p)

pub row_wise-Project : (vars : List Var) (p : Plan) → is_row_wise (P.Project vars p) ≡ false
row_wise-Project vars p = ap is_row_wise (sym (P.rolls-Project vars p)) ∙ row_wise-roll (L.Project vars p)

pub row_wise-Unnest : (v : Var) (its : Generator) (p : Plan) → is_row_wise (P.Unnest v its p) ≡ false
row_wise-Unnest v its p = ap is_row_wise (sym (P.rolls-Unnest v its p)) ∙ row_wise-roll (L.Unnest v its p)

pub row_wise-Subplan : (inner p : Plan) → is_row_wise (P.Subplan inner p) ≡ false
row_wise-Subplan inner p = ap is_row_wise (sym (P.rolls-Subplan inner p)) ∙ row_wise-roll (L.Subplan inner p)

pub row_wise-Join : (c : Expr) (l r : Plan) → is_row_wise (P.Join c l r) ≡ false
row_wise-Join c l r = ap is_row_wise (sym (P.rolls-Join c l r)) ∙ row_wise-roll (L.Join c l r)

pub row_wise-LeftJoin : (c : Expr) (l r : Plan) → is_row_wise (P.LeftJoin c l r) ≡ false
row_wise-LeftJoin c l r = ap is_row_wise (sym (P.rolls-LeftJoin c l r)) ∙ row_wise-roll (L.LeftJoin c l r)

pub row_wise-Group : (keys : List (Var × Var)) (inner p : Plan) → is_row_wise (P.Group keys inner p) ≡ false
row_wise-Group keys inner p = ap is_row_wise (sym (P.rolls-Group keys inner p)) ∙ row_wise-roll (L.Group keys inner p)

pub row_wise-Distinct : (p : Plan) → is_row_wise (P.Distinct p) ≡ false
row_wise-Distinct p = ap is_row_wise (sym (P.rolls-Distinct p)) ∙ row_wise-roll (L.Distinct p)

pub row_wise-Union : (made : List Var) (ls : List Var) (rs : List Var) (l r : Plan) → is_row_wise (P.Union made ls rs l r) ≡ false
row_wise-Union made ls rs l r = ap is_row_wise (sym (P.rolls-Union made ls rs l r)) ∙ row_wise-roll (L.Union made ls rs l r)

pub row_wise-Aggregate : (made : List (Var × AggCall)) (p : Plan) → is_row_wise (P.Aggregate made p) ≡ is_chain p
row_wise-Aggregate made p = ap is_row_wise (sym (P.rolls-Aggregate made p)) ∙ row_wise-roll (L.Aggregate made p)

pub row_wise-Order : (keys : List OrderKey) (p : Plan) → is_row_wise (P.Order keys p) ≡ false
row_wise-Order keys p = ap is_row_wise (sym (P.rolls-Order keys p)) ∙ row_wise-roll (L.Order keys p)

pub row_wise-Limit : (m : ℕ) (k : ℕ) (p : Plan) → is_row_wise (P.Limit m k p) ≡ false
row_wise-Limit m k p = ap is_row_wise (sym (P.rolls-Limit m k p)) ∙ row_wise-roll (L.Limit m k p)

pub row_wise-Check : (own : Bytes) (c : Expr) (p : Plan) → is_row_wise (P.Check own c p) ≡ false
row_wise-Check own c p = ap is_row_wise (sym (P.rolls-Check own c p)) ∙ row_wise-roll (L.Check own c p)

pub row_wise-Result : (vars : List Var) (p : Plan) → is_row_wise (P.Result vars p) ≡ false
row_wise-Result vars p = ap is_row_wise (sym (P.rolls-Result vars p)) ∙ row_wise-roll (L.Result vars p)

pub ruleset chain_laws = (chain-Scan, chain-Empty, chain-Nested, chain-Assign, chain-Select, chain-Project, chain-Unnest, chain-Subplan, chain-Join, chain-LeftJoin, chain-Group, chain-Distinct, chain-Union, chain-Aggregate, chain-Order, chain-Limit, chain-Check, chain-Result)

pub ruleset row_wise_laws = (row_wise-Scan, row_wise-Empty, row_wise-Nested, row_wise-Assign, row_wise-Select, row_wise-Project, row_wise-Unnest, row_wise-Subplan, row_wise-Join, row_wise-LeftJoin, row_wise-Group, row_wise-Distinct, row_wise-Union, row_wise-Aggregate, row_wise-Order, row_wise-Limit, row_wise-Check, row_wise-Result)

-- ---- room for operators

room_after : (room a b : ℕ) → room - 1 - a - b ≡ room - (1 + (a + b))
room_after room a b = omega arith

room_count : (q : Phys) (ps qs : List Phys) → length (q ∷ (ps ++ qs)) ≡ 1 + (length ps + length qs)
room_count q ps qs = omega (arith, length-append ps qs)

room_of : (room : ℕ) (l r all : Phys) → operators all ≡ all ∷ (operators l ++ operators r) → room - 1 - length (operators l) - length (operators r) ≡ room - length (operators all)
room_of room l r all e = room_after room (length (operators l)) (length (operators r)) ∙ ap (λ n. room - n) (sym (ap length e ∙ room_count all (operators l) (operators r)))

pub room-Join : (room : ℕ) (form : JoinForm) (c : Expr) (l r : Phys) → room - 1 - length (operators l) - length (operators r) ≡ room - length (operators (Q.Join form c l r))
room-Join room form c l r = room_of room l r (Q.Join form c l r) (poperators-Join form c l r)

pub room-Union : (room : ℕ) (made ls rs : List Var) (l r : Phys) → room - 1 - length (operators l) - length (operators r) ≡ room - length (operators (Q.Union made ls rs l r))
room-Union room made ls rs l r = room_of room l r (Q.Union made ls rs l r) (poperators-Union made ls rs l r)

pub ruleset size_laws = (room-Join, room-Union, poperators-Scan, poperators-One, poperators-Assign, poperators-Select, poperators-Project, poperators-Unnest, poperators-Subplan, poperators-Check, poperators-HashGroup, poperators-PreGroup, poperators-HashDistinct, poperators-AggPart, poperators-AggFinal, poperators-Sort, poperators-Limit, poperators-LocalLimit, poperators-Result, poperators-HashExchange, poperators-Broadcast, poperators-Gather, poperators-Merge)
