-- Chains of assign, select, project and unnest.
use Rattle.std.proofs.Common.{◌≡◌, Bool, true, false, cond, List, [], ◌∷◌, ◌++◌, filter, flat_map, refl, ap, sym, subst, ◌∙◌, None, arith}
use Rattle.std.specs.List.{All, AllByRecursion, Contains}
use Rattle.std.specs.List.Sorted.{IsPermutation}
use Rattle.std.proofs.lemmas.List.Concat.{flat_map-append, flat_map_single}
use Rattle.std.proofs.lemmas.List.Elements.{All-contains_itself, recursion_from_All}
use Rattle.std.proofs.lemmas.List.Sorted.{IsPermutation-trans}
use Rattle.al_plan.specs.declared.expr.Var.{Var}
use Rattle.al_plan.specs.declared.plan.Plan.{Plan}
use Rattle.al_plan.specs.Eval.{Bytes, Env, holds}
use Rattle.al_plan.specs.Allows.{Sets, Allows, Faults, live, ordered, IsOrderOf, assigned, cut}
use Rattle.al_plan.specs.Refines.{Scan, scans, Fit, IsWithin, Refines, result_of}
use Rattle.al_rule.specs.Chains.{Link, assigning, selecting, projecting, unnesting, linked, chain, row_of, through}
use Rattle.al_plan.proofs.PlanLaws.{allows_Assign, allows_Select, allows_Project, allows_Unnest, from_Assign, from_Select, from_Project, from_Unnest, ordered-Assign, ordered-Select, ordered-Project, ordered-Unnest, scans-Assign, scans-Select, scans-Project, scans-Unnest, faults-Assign, faults-Select, faults-Project, faults-Unnest, result-Assign, result-Select, result-Project, result-Unnest}
use Rattle.al_plan.proofs.Moves.{IsPermutation-same, IsPermutation-flat_map}
use Rattle.al_plan.proofs.Orders.{free}
use Rattle.al_plan.proofs.Within.{within}
use Rattle.al_plan.proofs.Idle.{refines_here}

pub order_of_same : (t : Bool) (xs ys : List Env) → ys ≡ xs → IsOrderOf t xs ys
order_of_same true xs ys e = e
order_of_same false xs ys e = IsPermutation-same xs ys (sym e)

pub order_of_trans : (t : Bool) (xs ys zs : List Env) → IsOrderOf t xs ys → IsOrderOf t ys zs → IsOrderOf t xs zs
order_of_trans true xs ys zs e f = f ∙ e
order_of_trans false xs ys zs e f = IsPermutation-trans xs ys zs e f

pub order_of_flat : (t : Bool) (f : Env → List Env) (xs ys : List Env) → IsOrderOf t xs ys → IsOrderOf t (flat_map f xs) (flat_map f ys)
order_of_flat true f xs ys e = ap (flat_map f) e
order_of_flat false f xs ys e = IsPermutation-flat_map f xs ys e

-- a list that is allowed, in another order where the plan leaves it free
pub any_order : (p : Plan) (t : Bool) → ordered p ≡ t → (b : Bool) (sets : Sets) (given : List Var) (outer xs ys : List Env) → Allows p b sets given outer xs → IsOrderOf t xs ys → Allows p b sets given outer ys
any_order p true e b sets given outer xs ys h o = subst (λ (zs : List Env). Allows p b sets given outer zs) (sym o) h
any_order p false e b sets given outer xs ys h o = free p e b sets given outer xs ys h o

filter_flat : {X : Type 0} (p : X → Bool) (xs : List X) → filter p xs ≡ flat_map (λ x. cond (p x) (x ∷ []) []) xs
filter_flat p [] = refl
filter_flat p (x ∷ xs) =
    elim (p x) as (λ b. cond b (x ∷ filter p xs) (filter p xs) ≡ cond b (x ∷ []) [] ++ flat_map (λ y. cond (p y) (y ∷ []) []) xs)
    [ true ↦ ap (λ ys. x ∷ ys) (filter_flat p xs) | false ↦ filter_flat p xs ]

pub flat-flat : {X Y Z : Type 0} (f : Y → List Z) (g : X → List Y) (xs : List X) → flat_map f (flat_map g xs) ≡ flat_map (λ x. flat_map f (g x)) xs
flat-flat f g [] = refl
flat-flat f g (x ∷ xs) = flat_map-append f (g x) (flat_map g xs) ∙ ap (λ zs. flat_map f (g x) ++ zs) (flat-flat f g xs)

flat-one : {X : Type 0} (xs : List X) → flat_map (λ x. x ∷ []) xs ≡ xs
flat-one [] = refl
flat-one (x ∷ xs) = ap (λ ys. x ∷ ys) (flat-one xs)

flat-alike : {X Y : Type 0} (f g : X → List Y) (xs : List X) → AllByRecursion (λ x. f x ≡ g x) xs → flat_map f xs ≡ flat_map g xs
flat-alike f g [] h = refl
flat-alike f g (x ∷ xs) h = λ i. h.0 i ++ flat-alike f g xs h.1 i

linked_ordered : (l : Link) (p : Plan) → ordered (linked l p) ≡ ordered p
linked_ordered (assigning made) p = ordered-Assign made p
linked_ordered (selecting c) p = ordered-Select c p
linked_ordered (projecting vars) p = ordered-Project vars p
linked_ordered (unnesting v g) p = ordered-Unnest v g p

pub chain_ordered : (ls : List Link) (p : Plan) → ordered (chain ls p) ≡ ordered p
chain_ordered [] p = refl
chain_ordered (l ∷ ls) p = linked_ordered l (chain ls p) ∙ chain_ordered ls p

linked_scans : (l : Link) (p : Plan) → scans (linked l p) ≡ scans p
linked_scans (assigning made) p = scans-Assign made p
linked_scans (selecting c) p = scans-Select c p
linked_scans (projecting vars) p = scans-Project vars p
linked_scans (unnesting v g) p = scans-Unnest v g p

pub chain_scans : (ls : List Link) (p : Plan) → scans (chain ls p) ≡ scans p
chain_scans [] p = refl
chain_scans (l ∷ ls) p = linked_scans l (chain ls p) ∙ chain_scans ls p

linked_result : (l : Link) (p : Plan) → result_of (linked l p) ≡ None
linked_result (assigning made) p = result-Assign made p
linked_result (selecting c) p = result-Select c p
linked_result (projecting vars) p = result-Project vars p
linked_result (unnesting v g) p = result-Unnest v g p

pub chain_result : (ls : List Link) (p : Plan) → result_of p ≡ None → result_of (chain ls p) ≡ None
chain_result [] p e = e
chain_result (l ∷ ls) p e = linked_result l (chain ls p)

linked_faults : (l : Link) (p : Plan) (sets : Sets) (given : List Var) (outer : List Env) (name : Bytes) → Faults (linked l p) sets given outer name ≡ Faults p sets given outer name
linked_faults (assigning made) p sets given outer name = faults-Assign made p sets given outer name
linked_faults (selecting c) p sets given outer name = faults-Select c p sets given outer name
linked_faults (projecting vars) p sets given outer name = faults-Project vars p sets given outer name
linked_faults (unnesting v g) p sets given outer name = faults-Unnest v g p sets given outer name

pub chain_faults : (ls : List Link) (p : Plan) (sets : Sets) (given : List Var) (outer : List Env) (name : Bytes) → Faults (chain ls p) sets given outer name ≡ Faults p sets given outer name
chain_faults [] p sets given outer name = refl
chain_faults (l ∷ ls) p sets given outer name = linked_faults l (chain ls p) sets given outer name ∙ chain_faults ls p sets given outer name

linked_in : (l : Link) (p : Plan) (b : Bool) (sets : Sets) (given : List Var) (outer input : List Env) → Allows p b sets given outer input → Allows (linked l p) b sets given outer (flat_map (row_of l) input)
linked_in (assigning made) p b sets given outer input h = allows_Assign made p b sets given outer _ (input, h, flat_map_single (assigned made) input)
linked_in (selecting c) p b sets given outer input h = allows_Select c p b sets given outer _ (input, h, sym (filter_flat (holds c) input))
linked_in (projecting vars) p b sets given outer input h = allows_Project vars p b sets given outer _ (input, h, flat_map_single (cut vars) input)
linked_in (unnesting v g) p b sets given outer input h = allows_Unnest v g p b sets given outer _ (input, h, order_of_same (ordered p) _ _ refl)

abbrev pub Through : (Env → List Env) → Plan → Bool → Sets → List Var → List Env → List Env → Type 0
Through f p b sets given outer rows = (input : List Env) × Allows p b sets given outer input × IsOrderOf (ordered p) (flat_map f input) rows

linked_out : (l : Link) (p : Plan) (b : Bool) (sets : Sets) (given : List Var) (outer rows : List Env) → Allows (linked l p) b sets given outer rows → Through (row_of l) p b sets given outer rows
linked_out (assigning made) p b sets given outer rows h = let o = from_Assign made p b sets given outer rows h in (o.0, o.1, order_of_same (ordered p) _ rows (o.2 ∙ sym (flat_map_single (assigned made) o.0)))
linked_out (selecting c) p b sets given outer rows h = let o = from_Select c p b sets given outer rows h in (o.0, o.1, order_of_same (ordered p) _ rows (o.2 ∙ filter_flat (holds c) o.0))
linked_out (projecting vars) p b sets given outer rows h = let o = from_Project vars p b sets given outer rows h in (o.0, o.1, order_of_same (ordered p) _ rows (o.2 ∙ sym (flat_map_single (cut vars) o.0)))
linked_out (unnesting v g) p b sets given outer rows h = from_Unnest v g p b sets given outer rows h

pub chain_in : (ls : List Link) (p : Plan) (b : Bool) (sets : Sets) (given : List Var) (outer input : List Env) → Allows p b sets given outer input → Allows (chain ls p) b sets given outer (flat_map (through ls) input)
chain_in [] p b sets given outer input h = subst (λ (zs : List Env). Allows p b sets given outer zs) (sym (flat-one input)) h
chain_in (l ∷ ls) p b sets given outer input h =
    subst (λ (zs : List Env). Allows (linked l (chain ls p)) b sets given outer zs) (flat-flat (row_of l) (through ls) input) (linked_in l (chain ls p) b sets given outer _ (chain_in ls p b sets given outer input h))

pub chain_out : (ls : List Link) (p : Plan) (b : Bool) (sets : Sets) (given : List Var) (outer rows : List Env) → Allows (chain ls p) b sets given outer rows → Through (through ls) p b sets given outer rows
chain_out [] p b sets given outer rows h = (rows, h, order_of_same (ordered p) _ rows (sym (flat-one rows)))
chain_out (l ∷ ls) p b sets given outer rows h =
    let top = linked_out l (chain ls p) b sets given outer rows h in
    let more = chain_out ls p b sets given outer top.0 top.1 in
    let last : IsOrderOf (ordered p) (flat_map (row_of l) top.0) rows = subst (λ t. IsOrderOf t (flat_map (row_of l) top.0) rows) (chain_ordered ls p) top.2 in (
      more.0,
      more.1,
      subst (λ (zs : List Env). IsOrderOf (ordered p) zs rows) (flat-flat (row_of l) (through ls) more.0)
          (order_of_trans (ordered p) _ _ rows (order_of_flat (ordered p) (row_of l) _ top.0 more.2) last),
    )

-- two chains over one input that fit, have the same live variables and give the same rows for each input row refine each other
pub chains_refine : (ls ms : List Link) (p : Plan) → result_of p ≡ None → Fit (chain ls p) → Fit (chain ms p) → IsPermutation (live (chain ms p) []) (live (chain ls p) [])
    → ((r : Env) → IsWithin (live p []) r → through ls r ≡ through ms r) → Refines (chain ls p) (chain ms p)
chains_refine ls ms p root fit whole vars same = refines_here (chain ls p) (chain ms p) whole (record {
  fit = fit;
  scanned = subst (λ (ss : List Scan). All (Contains ss) (scans (chain ls p))) (chain_scans ls p ∙ sym (chain_scans ms p)) (All-contains_itself (scans (chain ls p)));
  root = chain_result ls p root ∙ sym (chain_result ms p root);
  vars = vars;
  order = λ e. chain_ordered ls p ∙ sym (chain_ordered ms p) ∙ e;
  allowed = λ b sets rows fills h.
      let o = chain_out ls p b sets [] [] rows h in
      let inputs = within p b sets [] [] o.0 (λ k d low. absurd (omega arith)) o.1 in
      let alike : flat_map (through ls) o.0 ≡ flat_map (through ms) o.0 = flat-alike (through ls) (through ms) o.0 (rows_alike o.0 (recursion_from_All (IsWithin (live p [])) o.0 inputs)) in
      any_order (chain ms p) (ordered p) (chain_ordered ms p) b sets [] [] _ rows (chain_in ms p b sets [] [] o.0 o.1) (subst (λ (zs : List Env). IsOrderOf (ordered p) zs rows) alike o.2);
  faults = λ sets name fills h. subst (λ (T : Type 0). T) (chain_faults ls p sets [] [] name ∙ sym (chain_faults ms p sets [] [] name)) h;
})
  where
    rows_alike : (rows : List Env) → AllByRecursion (IsWithin (live p [])) rows → AllByRecursion (λ r. through ls r ≡ through ms r) rows
    rows_alike [] h = tt
    rows_alike (r ∷ rows) h = (same r h.0, rows_alike rows h.1)
