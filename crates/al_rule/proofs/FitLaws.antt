-- What fits, operator by operator: out of a plan that fits and back into one.
use Rattle.std.proofs.Common.{◌≡◌, ℕ, true, List, [], ◌∷◌, ◌++◌, map, length, refl, sym, subst, None}
use Rattle.std.specs.List.{AllByRecursion}
use Rattle.al_plan.specs.declared.expr.Var.{Var}
use Rattle.al_plan.specs.declared.expr.Expr.{Expr}
use Rattle.al_plan.specs.declared.plan.AggCall.{AggCall}
use Rattle.al_plan.specs.declared.plan.Generator.{Generator}
use Rattle.al_plan.specs.declared.plan.OrderKey.{OrderKey}
use Rattle.al_plan.specs.declared.plan.Plan.{Plan}
use Rattle.al_plan.specs.declared.plan.Plan.TheVariants as P
use Rattle.al_plan.specs.declared.plan.Plan.TheOpen as L
use Rattle.al_plan.specs.Names.{agg_exprs, item_exprs}
use Rattle.al_plan.specs.Allows.{live}
use Rattle.al_plan.specs.Refines.{makes, Fit, NoTwice, IsOver, AreLive, AreOver, FitsEach, AtMost64, is_aggregate, result_of}
use Rattle.al_plan.proofs.Makes.{twice_left, twice_right}
use Rattle.al_rule.proofs.RuleFit.{fit_out, fit_in}

-- what a plan with an assign at its root asks of its input
pub record AssignFits (made : List (Var × Expr)) (p : Plan) : Type 0 where
  pub input : Fit p
  pub root : result_of p ≡ None
  pub over : AreOver (live p []) (map (λ m. m.1) made)
  pub thin : AtMost64 ((live p []) ++ map (λ m. m.0) made)
  pub once : NoTwice (makes p ++ map (λ m. m.0) made)

pub out_Assign : (made : List (Var × Expr)) (p : Plan) → Fit (P.Assign made p) → AssignFits made p
out_Assign made p f =
    let o = fit_out (L.Assign made p) _ (P.rolls-Assign made p) f in
    record {
      input = record { each = o.each.0.0; narrow = o.narrow.0; once = twice_left (makes p) _ o.once };
      root = o.each.0.1;
      over = o.each.1;
      thin = o.narrow.1;
      once = o.once;
    }

pub in_Assign : (made : List (Var × Expr)) (p : Plan) → AssignFits made p → Fit (P.Assign made p)
in_Assign made p h = fit_in (L.Assign made p) _ (P.rolls-Assign made p) (record { each = ((h.input.each, h.root), h.over); narrow = (h.input.narrow, h.thin); once = h.once })

-- another input that fits, with the same live and made variables
pub over_Assign : (made : List (Var × Expr)) (q p : Plan) → Fit (P.Assign made p) → Fit q → result_of q ≡ None → live q [] ≡ live p [] → makes q ≡ makes p → Fit (P.Assign made q)
over_Assign made q p f fit root same alike =
    let h = out_Assign made p f in
    in_Assign made q (record {
      input = fit;
      root = root;
      over = subst (λ (vs : List Var). AreOver vs (map (λ m. m.1) made)) (sym same) h.over;
      thin = subst (λ (vs : List Var). AtMost64 (vs ++ map (λ m. m.0) made)) (sym same) h.thin;
      once = subst (λ (vs : List Var). NoTwice (vs ++ map (λ m. m.0) made)) (sym alike) h.once;
    })

-- what a plan with a select at its root asks of its input
pub record SelectFits (c : Expr) (p : Plan) : Type 0 where
  pub input : Fit p
  pub root : result_of p ≡ None
  pub over : IsOver (live p []) c

pub out_Select : (c : Expr) (p : Plan) → Fit (P.Select c p) → SelectFits c p
out_Select c p f =
    let o = fit_out (L.Select c p) _ (P.rolls-Select c p) f in
    record {
      input = record { each = o.each.0.0; narrow = o.narrow; once = o.once };
      root = o.each.0.1;
      over = o.each.1;
    }

pub in_Select : (c : Expr) (p : Plan) → SelectFits c p → Fit (P.Select c p)
in_Select c p h = fit_in (L.Select c p) _ (P.rolls-Select c p) (record { each = ((h.input.each, h.root), h.over); narrow = h.input.narrow; once = h.input.once })

-- what a plan with a project at its root asks of its input
pub record ProjectFits (vars : List Var) (p : Plan) : Type 0 where
  pub input : Fit p
  pub root : result_of p ≡ None
  pub listed : AreLive (live p []) vars
  pub no_twice : NoTwice vars
  pub thin : AtMost64 vars

pub out_Project : (vars : List Var) (p : Plan) → Fit (P.Project vars p) → ProjectFits vars p
out_Project vars p f =
    let o = fit_out (L.Project vars p) _ (P.rolls-Project vars p) f in
    record {
      input = record { each = o.each.0.0; narrow = o.narrow.0; once = o.once };
      root = o.each.0.1;
      listed = o.each.1;
      no_twice = o.each.2;
      thin = o.narrow.1;
    }

pub in_Project : (vars : List Var) (p : Plan) → ProjectFits vars p → Fit (P.Project vars p)
in_Project vars p h = fit_in (L.Project vars p) _ (P.rolls-Project vars p) (record { each = ((h.input.each, h.root), h.listed, h.no_twice); narrow = (h.input.narrow, h.thin); once = h.input.once })

-- another input that fits, with the same live and made variables
pub over_Project : (vars : List Var) (q p : Plan) → Fit (P.Project vars p) → Fit q → result_of q ≡ None → live q [] ≡ live p [] → makes q ≡ makes p → Fit (P.Project vars q)
over_Project vars q p f fit root same alike =
    let h = out_Project vars p f in
    in_Project vars q (record {
      input = fit;
      root = root;
      listed = subst (λ (vs : List Var). AreLive vs vars) (sym same) h.listed;
      no_twice = h.no_twice;
      thin = h.thin;
    })

-- what a plan with an unnest at its root asks of its input
pub record UnnestFits (v : Var) (g : Generator) (p : Plan) : Type 0 where
  pub input : Fit p
  pub root : result_of p ≡ None
  pub over : AreOver (live p []) (item_exprs g)
  pub thin : AtMost64 ((live p []) ++ v ∷ [])
  pub once : NoTwice (makes p ++ v ∷ [])

pub out_Unnest : (v : Var) (g : Generator) (p : Plan) → Fit (P.Unnest v g p) → UnnestFits v g p
out_Unnest v g p f =
    let o = fit_out (L.Unnest v g p) _ (P.rolls-Unnest v g p) f in
    record {
      input = record { each = o.each.0.0; narrow = o.narrow.0; once = twice_left (makes p) _ o.once };
      root = o.each.0.1;
      over = o.each.1;
      thin = o.narrow.1;
      once = o.once;
    }

pub in_Unnest : (v : Var) (g : Generator) (p : Plan) → UnnestFits v g p → Fit (P.Unnest v g p)
in_Unnest v g p h = fit_in (L.Unnest v g p) _ (P.rolls-Unnest v g p) (record { each = ((h.input.each, h.root), h.over); narrow = (h.input.narrow, h.thin); once = h.once })

-- another input that fits, with the same live and made variables
pub over_Unnest : (v : Var) (g : Generator) (q p : Plan) → Fit (P.Unnest v g p) → Fit q → result_of q ≡ None → live q [] ≡ live p [] → makes q ≡ makes p → Fit (P.Unnest v g q)
over_Unnest v g q p f fit root same alike =
    let h = out_Unnest v g p f in
    in_Unnest v g q (record {
      input = fit;
      root = root;
      over = subst (λ (vs : List Var). AreOver vs (item_exprs g)) (sym same) h.over;
      thin = subst (λ (vs : List Var). AtMost64 (vs ++ v ∷ [])) (sym same) h.thin;
      once = subst (λ (vs : List Var). NoTwice (vs ++ v ∷ [])) (sym alike) h.once;
    })

-- what a plan with a subplan at its root asks of its input
pub record SubplanFits (n : Plan) (p : Plan) : Type 0 where
  pub input : Fit p
  pub root : result_of p ≡ None
  pub inner : FitsEach n true (live p [])
  pub aggregates : is_aggregate n ≡ true
  pub thin : AtMost64 ((live p []) ++ live n (live p []))
  pub once : NoTwice (makes p ++ makes n)

pub out_Subplan : (n : Plan) (p : Plan) → Fit (P.Subplan n p) → SubplanFits n p
out_Subplan n p f =
    let o = fit_out (L.Subplan n p) _ (P.rolls-Subplan n p) f in
    record {
      input = record { each = o.each.0.0; narrow = o.narrow.0; once = twice_left (makes p) _ o.once };
      root = o.each.0.1;
      inner = o.each.2;
      aggregates = o.each.3;
      thin = o.narrow.1;
      once = o.once;
    }

pub in_Subplan : (n : Plan) (p : Plan) → SubplanFits n p → Fit (P.Subplan n p)
in_Subplan n p h = fit_in (L.Subplan n p) _ (P.rolls-Subplan n p) (record { each = ((h.input.each, h.root), refl, h.inner, h.aggregates); narrow = (h.input.narrow, h.thin); once = h.once })

-- another input that fits, with the same live and made variables
pub over_Subplan : (n : Plan) (q p : Plan) → Fit (P.Subplan n p) → Fit q → result_of q ≡ None → live q [] ≡ live p [] → makes q ≡ makes p → Fit (P.Subplan n q)
over_Subplan n q p f fit root same alike =
    let h = out_Subplan n p f in
    in_Subplan n q (record {
      input = fit;
      root = root;
      inner = subst (λ (vs : List Var). FitsEach n true vs) (sym same) h.inner;
      aggregates = h.aggregates;
      thin = subst (λ (vs : List Var). AtMost64 (vs ++ live n vs)) (sym same) h.thin;
      once = subst (λ (vs : List Var). NoTwice (vs ++ makes n)) (sym alike) h.once;
    })

-- what a plan with a group at its root asks of its input
pub record GroupFits (keys : List (Var × Var)) (n : Plan) (p : Plan) : Type 0 where
  pub input : Fit p
  pub root : result_of p ≡ None
  pub listed : AreLive (live p []) (map (λ k. k.1) keys)
  pub inner : FitsEach n true (live p [])
  pub aggregates : is_aggregate n ≡ true
  pub thin : AtMost64 (map (λ k. k.0) keys ++ live n (live p []))
  pub once : NoTwice (makes p ++ (makes n ++ map (λ k. k.0) keys))

pub out_Group : (keys : List (Var × Var)) (n : Plan) (p : Plan) → Fit (P.Group keys n p) → GroupFits keys n p
out_Group keys n p f =
    let o = fit_out (L.Group keys n p) _ (P.rolls-Group keys n p) f in
    record {
      input = record { each = o.each.0.0; narrow = o.narrow.0; once = twice_left (makes p) _ o.once };
      root = o.each.0.1;
      listed = o.each.2;
      inner = o.each.3;
      aggregates = o.each.4;
      thin = o.narrow.1;
      once = o.once;
    }

pub in_Group : (keys : List (Var × Var)) (n : Plan) (p : Plan) → GroupFits keys n p → Fit (P.Group keys n p)
in_Group keys n p h = fit_in (L.Group keys n p) _ (P.rolls-Group keys n p) (record { each = ((h.input.each, h.root), refl, h.listed, h.inner, h.aggregates); narrow = (h.input.narrow, h.thin); once = h.once })

-- another input that fits, with the same live and made variables
pub over_Group : (keys : List (Var × Var)) (n : Plan) (q p : Plan) → Fit (P.Group keys n p) → Fit q → result_of q ≡ None → live q [] ≡ live p [] → makes q ≡ makes p → Fit (P.Group keys n q)
over_Group keys n q p f fit root same alike =
    let h = out_Group keys n p f in
    in_Group keys n q (record {
      input = fit;
      root = root;
      listed = subst (λ (vs : List Var). AreLive vs (map (λ k. k.1) keys)) (sym same) h.listed;
      inner = subst (λ (vs : List Var). FitsEach n true vs) (sym same) h.inner;
      aggregates = h.aggregates;
      thin = subst (λ (vs : List Var). AtMost64 (map (λ k. k.0) keys ++ live n vs)) (sym same) h.thin;
      once = subst (λ (vs : List Var). NoTwice (vs ++ (makes n ++ map (λ k. k.0) keys))) (sym alike) h.once;
    })

-- what a plan with a distinct at its root asks of its input
pub record DistinctFits (p : Plan) : Type 0 where
  pub input : Fit p
  pub root : result_of p ≡ None

pub out_Distinct : (p : Plan) → Fit (P.Distinct p) → DistinctFits p
out_Distinct p f =
    let o = fit_out (L.Distinct p) _ (P.rolls-Distinct p) f in
    record {
      input = record { each = o.each.0; narrow = o.narrow; once = o.once };
      root = o.each.1;
    }

pub in_Distinct : (p : Plan) → DistinctFits p → Fit (P.Distinct p)
in_Distinct p h = fit_in (L.Distinct p) _ (P.rolls-Distinct p) (record { each = (h.input.each, h.root); narrow = h.input.narrow; once = h.input.once })

-- another input that fits, with the same live and made variables
pub over_Distinct : (q p : Plan) → Fit (P.Distinct p) → Fit q → result_of q ≡ None → live q [] ≡ live p [] → makes q ≡ makes p → Fit (P.Distinct q)
over_Distinct q p f fit root same alike =
    let h = out_Distinct p f in
    in_Distinct q (record {
      input = fit;
      root = root;
    })

-- what a plan with an aggregate at its root asks of its input
pub record AggregateFits (made : List (Var × AggCall)) (p : Plan) : Type 0 where
  pub input : Fit p
  pub root : result_of p ≡ None
  pub over : AllByRecursion (λ m. AreOver (live p []) (agg_exprs m.1)) made
  pub thin : AtMost64 (map (λ m. m.0) made)
  pub once : NoTwice (makes p ++ map (λ m. m.0) made)

pub out_Aggregate : (made : List (Var × AggCall)) (p : Plan) → Fit (P.Aggregate made p) → AggregateFits made p
out_Aggregate made p f =
    let o = fit_out (L.Aggregate made p) _ (P.rolls-Aggregate made p) f in
    record {
      input = record { each = o.each.0.0; narrow = o.narrow.0; once = twice_left (makes p) _ o.once };
      root = o.each.0.1;
      over = o.each.1;
      thin = o.narrow.1;
      once = o.once;
    }

pub in_Aggregate : (made : List (Var × AggCall)) (p : Plan) → AggregateFits made p → Fit (P.Aggregate made p)
in_Aggregate made p h = fit_in (L.Aggregate made p) _ (P.rolls-Aggregate made p) (record { each = ((h.input.each, h.root), h.over); narrow = (h.input.narrow, h.thin); once = h.once })

-- another input that fits, with the same live and made variables
pub over_Aggregate : (made : List (Var × AggCall)) (q p : Plan) → Fit (P.Aggregate made p) → Fit q → result_of q ≡ None → live q [] ≡ live p [] → makes q ≡ makes p → Fit (P.Aggregate made q)
over_Aggregate made q p f fit root same alike =
    let h = out_Aggregate made p f in
    in_Aggregate made q (record {
      input = fit;
      root = root;
      over = subst (λ (vs : List Var). AllByRecursion (λ m. AreOver vs (agg_exprs m.1)) made) (sym same) h.over;
      thin = h.thin;
      once = subst (λ (vs : List Var). NoTwice (vs ++ map (λ m. m.0) made)) (sym alike) h.once;
    })

-- what a plan with an order at its root asks of its input
pub record OrderFits (keys : List OrderKey) (p : Plan) : Type 0 where
  pub input : Fit p
  pub root : result_of p ≡ None
  pub listed : AreLive (live p []) (map (λ k. k.var) keys)

pub out_Order : (keys : List OrderKey) (p : Plan) → Fit (P.Order keys p) → OrderFits keys p
out_Order keys p f =
    let o = fit_out (L.Order keys p) _ (P.rolls-Order keys p) f in
    record {
      input = record { each = o.each.0.0; narrow = o.narrow; once = o.once };
      root = o.each.0.1;
      listed = o.each.1;
    }

pub in_Order : (keys : List OrderKey) (p : Plan) → OrderFits keys p → Fit (P.Order keys p)
in_Order keys p h = fit_in (L.Order keys p) _ (P.rolls-Order keys p) (record { each = ((h.input.each, h.root), h.listed); narrow = h.input.narrow; once = h.input.once })

-- another input that fits, with the same live and made variables
pub over_Order : (keys : List OrderKey) (q p : Plan) → Fit (P.Order keys p) → Fit q → result_of q ≡ None → live q [] ≡ live p [] → makes q ≡ makes p → Fit (P.Order keys q)
over_Order keys q p f fit root same alike =
    let h = out_Order keys p f in
    in_Order keys q (record {
      input = fit;
      root = root;
      listed = subst (λ (vs : List Var). AreLive vs (map (λ k. k.var) keys)) (sym same) h.listed;
    })

-- what a plan with a limit at its root asks of its input
pub record LimitFits (n k : ℕ) (p : Plan) : Type 0 where
  pub input : Fit p
  pub root : result_of p ≡ None

pub out_Limit : (n k : ℕ) (p : Plan) → Fit (P.Limit n k p) → LimitFits n k p
out_Limit n k p f =
    let o = fit_out (L.Limit n k p) _ (P.rolls-Limit n k p) f in
    record {
      input = record { each = o.each.0; narrow = o.narrow; once = o.once };
      root = o.each.1;
    }

pub in_Limit : (n k : ℕ) (p : Plan) → LimitFits n k p → Fit (P.Limit n k p)
in_Limit n k p h = fit_in (L.Limit n k p) _ (P.rolls-Limit n k p) (record { each = (h.input.each, h.root); narrow = h.input.narrow; once = h.input.once })

-- what a plan with a result at its root asks of its input
pub record ResultFits (vars : List Var) (p : Plan) : Type 0 where
  pub input : Fit p
  pub root : result_of p ≡ None
  pub listed : AreLive (live p []) vars
  pub no_twice : NoTwice vars
  pub thin : AtMost64 vars

pub out_Result : (vars : List Var) (p : Plan) → Fit (P.Result vars p) → ResultFits vars p
out_Result vars p f =
    let o = fit_out (L.Result vars p) _ (P.rolls-Result vars p) f in
    record {
      input = record { each = o.each.0.0; narrow = o.narrow.0; once = o.once };
      root = o.each.0.1;
      listed = o.each.2;
      no_twice = o.each.3;
      thin = o.narrow.1;
    }

pub in_Result : (vars : List Var) (p : Plan) → ResultFits vars p → Fit (P.Result vars p)
in_Result vars p h = fit_in (L.Result vars p) _ (P.rolls-Result vars p) (record { each = ((h.input.each, h.root), refl, h.listed, h.no_twice); narrow = (h.input.narrow, h.thin); once = h.input.once })

-- what a plan with a join at its root asks of its inputs
pub record JoinFits (c : Expr) (l r : Plan) : Type 0 where
  pub left : Fit l
  pub left_root : result_of l ≡ None
  pub right : Fit r
  pub right_root : result_of r ≡ None
  pub over : IsOver (live l [] ++ live r []) c
  pub thin : AtMost64 (live l [] ++ live r [])
  pub once : NoTwice (makes l ++ makes r)

pub out_Join : (c : Expr) (l r : Plan) → Fit (P.Join c l r) → JoinFits c l r
out_Join c l r f =
    let o = fit_out (L.Join c l r) _ (P.rolls-Join c l r) f in
    record {
      left = record { each = o.each.0.0; narrow = o.narrow.0; once = twice_left (makes l) _ o.once };
      left_root = o.each.0.1;
      right = record { each = o.each.1.0; narrow = o.narrow.1; once = twice_right (makes l) _ o.once };
      right_root = o.each.1.1;
      over = o.each.3;
      thin = o.narrow.2;
      once = o.once;
    }

pub in_Join : (c : Expr) (l r : Plan) → JoinFits c l r → Fit (P.Join c l r)
in_Join c l r h = fit_in (L.Join c l r) _ (P.rolls-Join c l r) (record { each = ((h.left.each, h.left_root), (h.right.each, h.right_root), refl, h.over); narrow = (h.left.narrow, h.right.narrow, h.thin); once = h.once })

-- another left input that fits, with the same live and made variables
pub over_Join_left : (c : Expr) (q l r : Plan) → Fit (P.Join c l r) → Fit q → result_of q ≡ None → live q [] ≡ live l [] → makes q ≡ makes l → Fit (P.Join c q r)
over_Join_left c q l r f fit root same alike =
    let h = out_Join c l r f in
    in_Join c q r (record {
      left = fit;
      left_root = root;
      right = h.right;
      right_root = h.right_root;
      over = subst (λ (vs : List Var). IsOver (vs ++ live r []) c) (sym same) h.over;
      thin = subst (λ (vs : List Var). AtMost64 (vs ++ live r [])) (sym same) h.thin;
      once = subst (λ (vs : List Var). NoTwice (vs ++ makes r)) (sym alike) h.once;
    })

-- another right input that fits, with the same live and made variables
pub over_Join_right : (c : Expr) (q l r : Plan) → Fit (P.Join c l r) → Fit q → result_of q ≡ None → live q [] ≡ live r [] → makes q ≡ makes r → Fit (P.Join c l q)
over_Join_right c q l r f fit root same alike =
    let h = out_Join c l r f in
    in_Join c l q (record {
      left = h.left;
      left_root = h.left_root;
      right = fit;
      right_root = root;
      over = subst (λ (vs : List Var). IsOver (live l [] ++ vs) c) (sym same) h.over;
      thin = subst (λ (vs : List Var). AtMost64 (live l [] ++ vs)) (sym same) h.thin;
      once = subst (λ (vs : List Var). NoTwice (makes l ++ vs)) (sym alike) h.once;
    })

-- what a plan with a leftjoin at its root asks of its inputs
pub record LeftJoinFits (c : Expr) (l r : Plan) : Type 0 where
  pub left : Fit l
  pub left_root : result_of l ≡ None
  pub right : Fit r
  pub right_root : result_of r ≡ None
  pub over : IsOver (live l [] ++ live r []) c
  pub thin : AtMost64 (live l [] ++ live r [])
  pub once : NoTwice (makes l ++ makes r)

pub out_LeftJoin : (c : Expr) (l r : Plan) → Fit (P.LeftJoin c l r) → LeftJoinFits c l r
out_LeftJoin c l r f =
    let o = fit_out (L.LeftJoin c l r) _ (P.rolls-LeftJoin c l r) f in
    record {
      left = record { each = o.each.0.0; narrow = o.narrow.0; once = twice_left (makes l) _ o.once };
      left_root = o.each.0.1;
      right = record { each = o.each.1.0; narrow = o.narrow.1; once = twice_right (makes l) _ o.once };
      right_root = o.each.1.1;
      over = o.each.3;
      thin = o.narrow.2;
      once = o.once;
    }

pub in_LeftJoin : (c : Expr) (l r : Plan) → LeftJoinFits c l r → Fit (P.LeftJoin c l r)
in_LeftJoin c l r h = fit_in (L.LeftJoin c l r) _ (P.rolls-LeftJoin c l r) (record { each = ((h.left.each, h.left_root), (h.right.each, h.right_root), refl, h.over); narrow = (h.left.narrow, h.right.narrow, h.thin); once = h.once })

-- another left input that fits, with the same live and made variables
pub over_LeftJoin_left : (c : Expr) (q l r : Plan) → Fit (P.LeftJoin c l r) → Fit q → result_of q ≡ None → live q [] ≡ live l [] → makes q ≡ makes l → Fit (P.LeftJoin c q r)
over_LeftJoin_left c q l r f fit root same alike =
    let h = out_LeftJoin c l r f in
    in_LeftJoin c q r (record {
      left = fit;
      left_root = root;
      right = h.right;
      right_root = h.right_root;
      over = subst (λ (vs : List Var). IsOver (vs ++ live r []) c) (sym same) h.over;
      thin = subst (λ (vs : List Var). AtMost64 (vs ++ live r [])) (sym same) h.thin;
      once = subst (λ (vs : List Var). NoTwice (vs ++ makes r)) (sym alike) h.once;
    })

-- another right input that fits, with the same live and made variables
pub over_LeftJoin_right : (c : Expr) (q l r : Plan) → Fit (P.LeftJoin c l r) → Fit q → result_of q ≡ None → live q [] ≡ live r [] → makes q ≡ makes r → Fit (P.LeftJoin c l q)
over_LeftJoin_right c q l r f fit root same alike =
    let h = out_LeftJoin c l r f in
    in_LeftJoin c l q (record {
      left = h.left;
      left_root = h.left_root;
      right = fit;
      right_root = root;
      over = subst (λ (vs : List Var). IsOver (live l [] ++ vs) c) (sym same) h.over;
      thin = subst (λ (vs : List Var). AtMost64 (live l [] ++ vs)) (sym same) h.thin;
      once = subst (λ (vs : List Var). NoTwice (makes l ++ vs)) (sym alike) h.once;
    })

-- what a plan with a union at its root asks of its inputs
pub record UnionFits (made ls rs : List Var) (l r : Plan) : Type 0 where
  pub left : Fit l
  pub left_root : result_of l ≡ None
  pub right : Fit r
  pub right_root : result_of r ≡ None
  pub left_listed : AreLive (live l []) ls
  pub right_listed : AreLive (live r []) rs
  pub left_width : length ls ≡ length made
  pub right_width : length rs ≡ length made
  pub thin : AtMost64 made
  pub once : NoTwice (makes l ++ (makes r ++ made))

pub out_Union : (made ls rs : List Var) (l r : Plan) → Fit (P.Union made ls rs l r) → UnionFits made ls rs l r
out_Union made ls rs l r f =
    let o = fit_out (L.Union made ls rs l r) _ (P.rolls-Union made ls rs l r) f in
    record {
      left = record { each = o.each.0.0; narrow = o.narrow.0; once = twice_left (makes l) _ o.once };
      left_root = o.each.0.1;
      right = record { each = o.each.1.0; narrow = o.narrow.1; once = twice_left (makes r) made (twice_right (makes l) (makes r ++ made) o.once) };
      right_root = o.each.1.1;
      left_listed = o.each.3;
      right_listed = o.each.4;
      left_width = o.each.5;
      right_width = o.each.6;
      thin = o.narrow.2;
      once = o.once;
    }

pub in_Union : (made ls rs : List Var) (l r : Plan) → UnionFits made ls rs l r → Fit (P.Union made ls rs l r)
in_Union made ls rs l r h = fit_in (L.Union made ls rs l r) _ (P.rolls-Union made ls rs l r) (record { each = ((h.left.each, h.left_root), (h.right.each, h.right_root), refl, h.left_listed, h.right_listed, h.left_width, h.right_width); narrow = (h.left.narrow, h.right.narrow, h.thin); once = h.once })

-- another left input that fits, with the same live and made variables
pub over_Union_left : (made ls rs : List Var) (q l r : Plan) → Fit (P.Union made ls rs l r) → Fit q → result_of q ≡ None → live q [] ≡ live l [] → makes q ≡ makes l → Fit (P.Union made ls rs q r)
over_Union_left made ls rs q l r f fit root same alike =
    let h = out_Union made ls rs l r f in
    in_Union made ls rs q r (record {
      left = fit;
      left_root = root;
      right = h.right;
      right_root = h.right_root;
      left_listed = subst (λ (vs : List Var). AreLive vs ls) (sym same) h.left_listed;
      right_listed = h.right_listed;
      left_width = h.left_width;
      right_width = h.right_width;
      thin = h.thin;
      once = subst (λ (vs : List Var). NoTwice (vs ++ (makes r ++ made))) (sym alike) h.once;
    })

-- another right input that fits, with the same live and made variables
pub over_Union_right : (made ls rs : List Var) (q l r : Plan) → Fit (P.Union made ls rs l r) → Fit q → result_of q ≡ None → live q [] ≡ live r [] → makes q ≡ makes r → Fit (P.Union made ls rs l q)
over_Union_right made ls rs q l r f fit root same alike =
    let h = out_Union made ls rs l r f in
    in_Union made ls rs l q (record {
      left = h.left;
      left_root = h.left_root;
      right = fit;
      right_root = root;
      left_listed = h.left_listed;
      right_listed = subst (λ (vs : List Var). AreLive vs rs) (sym same) h.right_listed;
      left_width = h.left_width;
      right_width = h.right_width;
      thin = h.thin;
      once = subst (λ (vs : List Var). NoTwice (makes l ++ (vs ++ made))) (sym alike) h.once;
    })
