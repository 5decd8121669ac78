-- An operator taken apart: its inputs, and what is live, made and counted in them.
use Rattle.std.specs.Prelude.{◌≡◌, ℕ, suc, ◌+◌, Bool, true, ◌&&◌, List, [], ◌∷◌, ◌++◌, map}
use Rattle.al_plan.specs.declared.expr.Var.{Var}
use Rattle.al_plan.specs.declared.plan.Plan.{Plan}
use Rattle.al_plan.specs.declared.plan.Plan.TheOpen.{Plan-F}
use Rattle.al_plan.specs.declared.plan.Plan.TheOpen as P
use Rattle.al_plan.specs.Allows.{live}
use Rattle.al_plan.specs.Refines.{makes}
use Rattle.al_plan.specs.Accept.{Listing, size, sites, are_among}
use Rattle.al_infer.specs.declared.inputs.Inputs.{Inputs}
use Rattle.al_infer.specs.declared.inputs.Inputs.TheVariants as I

-- the plans in an operator: none, an input, a left and a right one, or a nested plan and an input
pub data Parts : Type 0 where
  Leaf : Parts
  One : Plan → Parts
  Two : Plan → Plan → Parts
  Nesting : Plan → Plan → Parts

abbrev pub parts : Plan-F Plan → Parts
parts (P.Scan set vars) = Leaf
parts P.Empty = Leaf
parts P.Nested = Leaf
parts (P.Assign made p) = One p
parts (P.Select c p) = One p
parts (P.Project vars p) = One p
parts (P.Unnest v g p) = One p
parts (P.Subplan n p) = Nesting n p
parts (P.Join c l r) = Two l r
parts (P.LeftJoin c l r) = Two l r
parts (P.Group keys n p) = Nesting n p
parts (P.Distinct p) = One p
parts (P.Union made ls rs l r) = Two l r
parts (P.Aggregate made p) = One p
parts (P.Order keys p) = One p
parts (P.Limit n k p) = One p
parts (P.Check name c p) = One p
parts (P.Result vars p) = One p

-- the same, as code has it
abbrev pub parts_in : Inputs → Parts
parts_in I.None = Leaf
parts_in (I.One p) = One p.now
parts_in (I.Two l r) = Two l.now r.now
parts_in (I.Nested n p) = Nesting n.now p.now

-- what is live in the input, or in the left one
abbrev pub left_live : List Var → Parts → List Var
left_live given Leaf = []
left_live given (One p) = live p given
left_live given (Two l r) = live l given
left_live given (Nesting n p) = live p given

-- what is live in the right input, or in the nested plan
abbrev pub right_live : List Var → Parts → List Var
right_live given Leaf = []
right_live given (One p) = []
right_live given (Two l r) = live r given
right_live given (Nesting n p) = live n (live p given)

-- these variables are live in the inputs of an operator
pub record Sees (given : List Var) (op : Plan-F Plan) (left right : List Var) : Type 0 where
  pub on_left : left ≡ left_live given (parts op)
  pub on_right : right ≡ right_live given (parts op)

-- what is live at an operator, given what is live in its inputs
abbrev pub live_from : List Var → List Var → List Var → Plan-F Plan → List Var
live_from given left right (P.Scan set vars) = vars
live_from given left right P.Empty = []
live_from given left right P.Nested = given
live_from given left right (P.Assign made p) = left ++ map (λ m. m.0) made
live_from given left right (P.Select c p) = left
live_from given left right (P.Project vars p) = vars
live_from given left right (P.Unnest v g p) = left ++ v ∷ []
live_from given left right (P.Subplan n p) = left ++ right
live_from given left right (P.Join c l r) = left ++ right
live_from given left right (P.LeftJoin c l r) = left ++ right
live_from given left right (P.Group keys n p) = map (λ k. k.0) keys ++ right
live_from given left right (P.Distinct p) = left
live_from given left right (P.Union made ls rs l r) = made
live_from given left right (P.Aggregate made p) = map (λ m. m.0) made
live_from given left right (P.Order keys p) = left
live_from given left right (P.Limit n k p) = left
live_from given left right (P.Check name c p) = left
live_from given left right (P.Result vars p) = vars

-- the variables that an operator lists are live, given what is live in its inputs
abbrev pub lists_live : List Var → List Var → Plan-F Plan → Bool
lists_live left right (P.Project vars p) = are_among left vars
lists_live left right (P.Group keys n p) = are_among left (map (λ k. k.1) keys)
lists_live left right (P.Union made ls rs l r) = are_among left ls && are_among right rs
lists_live left right (P.Order keys p) = are_among left (map (λ k. k.var) keys)
lists_live left right (P.Result vars p) = are_among left vars
lists_live left right _ = true

-- the variables that the inputs make
abbrev pub inner_makes : Parts → List Var
inner_makes Leaf = []
inner_makes (One p) = makes p
inner_makes (Two l r) = makes l ++ makes r
inner_makes (Nesting n p) = makes p ++ makes n

-- how many operators the inputs have
abbrev pub inner_size : Parts → ℕ
inner_size Leaf = 0
inner_size (One p) = size p
inner_size (Two l r) = size l + size r
inner_size (Nesting n p) = size n + size p

-- the operators of the inputs, where the operator stands as given
abbrev pub inner_sites : Parts → Listing
inner_sites Leaf number inside given before = []
inner_sites (One p) number inside given before = sites p (suc number) inside given before
inner_sites (Two l r) number inside given before =
    sites l (suc number) inside given before ++ sites r (suc number + size l) inside given (before ++ makes l)
inner_sites (Nesting n p) number inside given before =
    sites p (suc number + size n) inside given before ++ sites n (suc number) true (live p given) (before ++ makes p)
