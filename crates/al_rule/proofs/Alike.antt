-- Plans that are alike but for the lists that they allow.
use Rattle.std.proofs.Common.{◌≡◌, ◌⊎◌, Bool, List, [], ◌∷◌, ◌++◌, map, refl, ap, sym, subst, ◌∙◌, None}
use Rattle.std.specs.List.{All, Contains}
use Rattle.std.specs.List.Sorted.{IsPermutation}
use Rattle.std.proofs.lemmas.List.Elements.{All-contains_itself}
use Rattle.std.proofs.lemmas.List.Sorted.{IsPermutation-refl}
use Rattle.al_plan.specs.declared.expr.Var.{Var}
use Rattle.al_plan.specs.declared.expr.Expr.{Expr}
use Rattle.al_plan.specs.declared.plan.Generator.{Generator}
use Rattle.al_plan.specs.declared.plan.OrderKey.{OrderKey}
use Rattle.al_plan.specs.declared.plan.Plan.{Plan}
use Rattle.al_plan.specs.declared.plan.Plan.TheVariants as P
use Rattle.al_plan.specs.Eval.{Bytes, Env}
use Rattle.al_plan.specs.Allows.{Sets, Allows, Faults, live, ordered}
use Rattle.al_plan.specs.Refines.{Scan, scans, makes, Fit, Fills, Refines, Replaces, result_of}
use Rattle.al_plan.proofs.PlanLaws.{live-Assign, ordered-Assign, scans-Assign, makes-Assign, result-Assign, faults-Assign, live-Select, ordered-Select, scans-Select, makes-Select, result-Select, faults-Select, live-Project, ordered-Project, scans-Project, makes-Project, result-Project, faults-Project, live-Unnest, ordered-Unnest, scans-Unnest, makes-Unnest, result-Unnest, faults-Unnest, live-Subplan, ordered-Subplan, scans-Subplan, makes-Subplan, result-Subplan, faults-Subplan, live-Distinct, ordered-Distinct, scans-Distinct, makes-Distinct, result-Distinct, faults-Distinct, live-Order, ordered-Order, scans-Order, makes-Order, result-Order, faults-Order, live-Join, ordered-Join, scans-Join, makes-Join, result-Join, faults-Join, live-LeftJoin, ordered-LeftJoin, scans-LeftJoin, makes-LeftJoin, result-LeftJoin, faults-LeftJoin}
use Rattle.al_plan.proofs.Makes.{no_more-same}
use Rattle.al_plan.proofs.Idle.{refines_here}

-- two plans outside nested plans with the same live variables, scans, made variables and faults, of which both or none is ordered, and both or none a result
pub record Alike (q p : Plan) : Type 1 where
  pub vars : live q [] ≡ live p []
  pub order : ordered q ≡ ordered p
  pub scanned : scans q ≡ scans p
  pub made : makes q ≡ makes p
  pub root : result_of q ≡ result_of p
  pub faults : (sets : Sets) (name : Bytes) → Faults q sets [] [] name ≡ Faults p sets [] [] name

pub same_lists : (xs ys : List Var) → xs ≡ ys → IsPermutation xs ys
same_lists xs ys e = subst (IsPermutation xs) e (IsPermutation-refl xs)

-- of two such plans the one that allows no more lists refines the other
pub alike_refines : (q p : Plan) → Fit p → Fit q → Alike q p
    → ((passing : Bool) (sets : Sets) (rows : List Env) → Fills (scans p) sets → Allows q passing sets [] [] rows → Allows p passing sets [] [] rows) → Refines q p
alike_refines q p fit whole h less = refines_here q p fit (record {
  fit = whole;
  scanned = subst (λ (ss : List Scan). All (Contains ss) (scans q)) h.scanned (All-contains_itself (scans q));
  root = h.root;
  vars = same_lists (live p []) (live q []) (sym h.vars);
  order = λ e. h.order ∙ e;
  allowed = less;
  faults = λ sets name fills k. subst (λ (T : Type 0). T) (h.faults sets name) k;
})

-- and may stand in its place
pub alike_replaces : (q p : Plan) → Fit p → Fit q → Alike q p
    → ((passing : Bool) (sets : Sets) (rows : List Env) → Fills (scans p) sets → Allows q passing sets [] [] rows → Allows p passing sets [] [] rows) → Replaces q p
alike_replaces q p fit whole h less = record {
  refines = alike_refines q p fit whole h less;
  makes_no_more = no_more-same (makes q) (makes p) h.made;
}

pub alike-refl : (p : Plan) → Alike p p
alike-refl p = record { vars = refl; order = refl; scanned = refl; made = refl; root = refl; faults = λ sets name. refl }

pub alike-sym : (q p : Plan) → Alike q p → Alike p q
alike-sym q p h = record {
  vars = sym h.vars;
  order = sym h.order;
  scanned = sym h.scanned;
  made = sym h.made;
  root = sym h.root;
  faults = λ sets name. sym (h.faults sets name);
}

pub alike-trans : (r q p : Plan) → Alike r q → Alike q p → Alike r p
alike-trans r q p h g = record {
  vars = h.vars ∙ g.vars;
  order = h.order ∙ g.order;
  scanned = h.scanned ∙ g.scanned;
  made = h.made ∙ g.made;
  root = h.root ∙ g.root;
  faults = λ sets name. h.faults sets name ∙ g.faults sets name;
}

-- a select is like its input
pub alike_select : (c : Expr) (p : Plan) → result_of p ≡ None → Alike (P.Select c p) p
alike_select c p root = record {
  vars = live-Select c p [];
  order = ordered-Select c p;
  scanned = scans-Select c p;
  made = makes-Select c p;
  root = result-Select c p ∙ sym root;
  faults = λ sets name. faults-Select c p sets [] [] name;
}

-- ---- operators over inputs that are alike

pub alike-Assign : (made : List (Var × Expr)) (q p : Plan) → Alike q p → Alike (P.Assign made q) (P.Assign made p)
alike-Assign made q p h = record {
  vars = live-Assign made q [] ∙ ap (λ (vs : List Var). vs ++ map (λ m. m.0) made) h.vars ∙ sym (live-Assign made p []);
  order = ordered-Assign made q ∙ h.order ∙ sym (ordered-Assign made p);
  scanned = scans-Assign made q ∙ h.scanned ∙ sym (scans-Assign made p);
  made = makes-Assign made q ∙ ap (λ (vs : List Var). vs ++ map (λ m. m.0) made) h.made ∙ sym (makes-Assign made p);
  root = result-Assign made q ∙ sym (result-Assign made p);
  faults = λ sets name. faults-Assign made q sets [] [] name ∙ h.faults sets name ∙ sym (faults-Assign made p sets [] [] name);
}

pub alike-Project : (vars : List Var) (q p : Plan) → Alike q p → Alike (P.Project vars q) (P.Project vars p)
alike-Project vars q p h = record {
  vars = live-Project vars q [] ∙ sym (live-Project vars p []);
  order = ordered-Project vars q ∙ h.order ∙ sym (ordered-Project vars p);
  scanned = scans-Project vars q ∙ h.scanned ∙ sym (scans-Project vars p);
  made = makes-Project vars q ∙ h.made ∙ sym (makes-Project vars p);
  root = result-Project vars q ∙ sym (result-Project vars p);
  faults = λ sets name. faults-Project vars q sets [] [] name ∙ h.faults sets name ∙ sym (faults-Project vars p sets [] [] name);
}

pub alike-Unnest : (v : Var) (g : Generator) (q p : Plan) → Alike q p → Alike (P.Unnest v g q) (P.Unnest v g p)
alike-Unnest v g q p h = record {
  vars = live-Unnest v g q [] ∙ ap (λ (vs : List Var). vs ++ v ∷ []) h.vars ∙ sym (live-Unnest v g p []);
  order = ordered-Unnest v g q ∙ h.order ∙ sym (ordered-Unnest v g p);
  scanned = scans-Unnest v g q ∙ h.scanned ∙ sym (scans-Unnest v g p);
  made = makes-Unnest v g q ∙ ap (λ (vs : List Var). vs ++ v ∷ []) h.made ∙ sym (makes-Unnest v g p);
  root = result-Unnest v g q ∙ sym (result-Unnest v g p);
  faults = λ sets name. faults-Unnest v g q sets [] [] name ∙ h.faults sets name ∙ sym (faults-Unnest v g p sets [] [] name);
}

pub alike-Subplan : (n : Plan) (q p : Plan) → Alike q p → Alike (P.Subplan n q) (P.Subplan n p)
alike-Subplan n q p h = record {
  vars = live-Subplan n q [] ∙ ap (λ (vs : List Var). vs ++ live n vs) h.vars ∙ sym (live-Subplan n p []);
  order = ordered-Subplan n q ∙ h.order ∙ sym (ordered-Subplan n p);
  scanned = scans-Subplan n q ∙ ap (λ ss. ss ++ scans n) h.scanned ∙ sym (scans-Subplan n p);
  made = makes-Subplan n q ∙ ap (λ (vs : List Var). vs ++ makes n) h.made ∙ sym (makes-Subplan n p);
  root = result-Subplan n q ∙ sym (result-Subplan n p);
  faults = λ sets name. faults-Subplan n q sets [] [] name ∙ h.faults sets name ∙ sym (faults-Subplan n p sets [] [] name);
}

pub alike-Distinct : (q p : Plan) → Alike q p → Alike (P.Distinct q) (P.Distinct p)
alike-Distinct q p h = record {
  vars = live-Distinct q [] ∙ h.vars ∙ sym (live-Distinct p []);
  order = ordered-Distinct q ∙ sym (ordered-Distinct p);
  scanned = scans-Distinct q ∙ h.scanned ∙ sym (scans-Distinct p);
  made = makes-Distinct q ∙ h.made ∙ sym (makes-Distinct p);
  root = result-Distinct q ∙ sym (result-Distinct p);
  faults = λ sets name. faults-Distinct q sets [] [] name ∙ h.faults sets name ∙ sym (faults-Distinct p sets [] [] name);
}

pub alike-Order : (keys : List OrderKey) (q p : Plan) → Alike q p → Alike (P.Order keys q) (P.Order keys p)
alike-Order keys q p h = record {
  vars = live-Order keys q [] ∙ h.vars ∙ sym (live-Order keys p []);
  order = ordered-Order keys q ∙ sym (ordered-Order keys p);
  scanned = scans-Order keys q ∙ h.scanned ∙ sym (scans-Order keys p);
  made = makes-Order keys q ∙ h.made ∙ sym (makes-Order keys p);
  root = result-Order keys q ∙ sym (result-Order keys p);
  faults = λ sets name. faults-Order keys q sets [] [] name ∙ h.faults sets name ∙ sym (faults-Order keys p sets [] [] name);
}

pub alike-Join : (c d : Expr) (q p s r : Plan) → Alike q p → Alike s r → Alike (P.Join c q s) (P.Join d p r)
alike-Join c d q p s r h g = record {
  vars = live-Join c q s [] ∙ (λ i. h.vars i ++ g.vars i) ∙ sym (live-Join d p r []);
  order = ordered-Join c q s ∙ sym (ordered-Join d p r);
  scanned = scans-Join c q s ∙ (λ i. h.scanned i ++ g.scanned i) ∙ sym (scans-Join d p r);
  made = makes-Join c q s ∙ (λ i. h.made i ++ g.made i) ∙ sym (makes-Join d p r);
  root = result-Join c q s ∙ sym (result-Join d p r);
  faults = λ sets name. faults-Join c q s sets [] [] name ∙ (λ i. h.faults sets name i ⊎ g.faults sets name i) ∙ sym (faults-Join d p r sets [] [] name);
}

pub alike-LeftJoin : (c d : Expr) (q p s r : Plan) → Alike q p → Alike s r → Alike (P.LeftJoin c q s) (P.LeftJoin d p r)
alike-LeftJoin c d q p s r h g = record {
  vars = live-LeftJoin c q s [] ∙ (λ i. h.vars i ++ g.vars i) ∙ sym (live-LeftJoin d p r []);
  order = ordered-LeftJoin c q s ∙ sym (ordered-LeftJoin d p r);
  scanned = scans-LeftJoin c q s ∙ (λ i. h.scanned i ++ g.scanned i) ∙ sym (scans-LeftJoin d p r);
  made = makes-LeftJoin c q s ∙ (λ i. h.made i ++ g.made i) ∙ sym (makes-LeftJoin d p r);
  root = result-LeftJoin c q s ∙ sym (result-LeftJoin d p r);
  faults = λ sets name. faults-LeftJoin c q s sets [] [] name ∙ (λ i. h.faults sets name i ⊎ g.faults sets name i) ∙ sym (faults-LeftJoin d p r sets [] [] name);
}
