-- Plans that are alike but for their live variables and the lists that they allow.
use Rattle.std.proofs.Common.{◌≡◌, ◌⊎◌, Bool, List, [], ◌++◌, map, refl, ap, sym, ◌∙◌, None}
use Rattle.al_plan.specs.declared.expr.Var.{Var}
use Rattle.al_plan.specs.declared.expr.Expr.{Expr}
use Rattle.al_plan.specs.declared.plan.AggCall.{AggCall}
use Rattle.al_plan.specs.declared.plan.OrderKey.{OrderKey}
use Rattle.al_plan.specs.declared.plan.Plan.{Plan}
use Rattle.al_plan.specs.declared.plan.Plan.TheVariants as P
use Rattle.al_plan.specs.Eval.{Bytes, Env}
use Rattle.al_plan.specs.Allows.{Sets, Allows, Faults, live, ordered}
use Rattle.al_plan.specs.Refines.{scans, makes, Fit, Fills, Replaces, result_of}
use Rattle.al_plan.proofs.PlanLaws.{ordered-Result, scans-Result, makes-Result, result-Result, faults-Result, ordered-Aggregate, scans-Aggregate, makes-Aggregate, result-Aggregate, faults-Aggregate, ordered-Project, scans-Project, makes-Project, result-Project, faults-Project, ordered-Order, scans-Order, makes-Order, result-Order, faults-Order, ordered-Group, scans-Group, makes-Group, result-Group, faults-Group, ordered-Join, scans-Join, makes-Join, result-Join, faults-Join, ordered-LeftJoin, scans-LeftJoin, makes-LeftJoin, result-LeftJoin, faults-LeftJoin}
use Rattle.al_rule.proofs.Alike.{alike_replaces}
use Rattle.al_rules_prune.specs.Prunes.{kept, narrowed}

pub record Kin (q p : Plan) : Type 1 where
  pub order : ordered q ≡ ordered p
  pub scanned : scans q ≡ scans p
  pub made : makes q ≡ makes p
  pub root : result_of q ≡ result_of p
  pub faults : (sets : Sets) (name : Bytes) → Faults q sets [] [] name ≡ Faults p sets [] [] name

-- of two such plans with the same live variables the one that allows no more lists may stand in the other's place
pub kin_replaces : (q p : Plan) → Fit p → Fit q → live q [] ≡ live p [] → Kin q p
    → ((passing : Bool) (sets : Sets) (rows : List Env) → Fills (scans p) sets → Allows q passing sets [] [] rows → Allows p passing sets [] [] rows) → Replaces q p
kin_replaces q p fit whole vars h less = alike_replaces q p fit whole (record { vars = vars; order = h.order; scanned = h.scanned; made = h.made; root = h.root; faults = h.faults }) less

pub kin_refl : (p : Plan) → Kin p p
kin_refl p = record { order = refl; scanned = refl; made = refl; root = refl; faults = λ sets name. refl }

-- a plan and what is kept of it
pub kin_narrowed : (vars : List Var) (p : Plan) → result_of p ≡ None → Kin (narrowed vars p) p
kin_narrowed vars p root = record {
  order = ordered-Project (kept vars p) p;
  scanned = scans-Project (kept vars p) p;
  made = makes-Project (kept vars p) p;
  root = result-Project (kept vars p) p ∙ sym root;
  faults = λ sets name. faults-Project (kept vars p) p sets [] [] name;
}

pub kin-Result : (vars : List Var) (q p : Plan) → Kin q p → Kin (P.Result vars q) (P.Result vars p)
kin-Result vars q p h = record {
  order = ordered-Result vars q ∙ h.order ∙ sym (ordered-Result vars p);
  scanned = scans-Result vars q ∙ h.scanned ∙ sym (scans-Result vars p);
  made = makes-Result vars q ∙ h.made ∙ sym (makes-Result vars p);
  root = result-Result vars q ∙ sym (result-Result vars p);
  faults = λ sets name. faults-Result vars q sets [] [] name ∙ h.faults sets name ∙ sym (faults-Result vars p sets [] [] name);
}

pub kin-Aggregate : (made : List (Var × AggCall)) (q p : Plan) → Kin q p → Kin (P.Aggregate made q) (P.Aggregate made p)
kin-Aggregate made q p h = record {
  order = ordered-Aggregate made q ∙ sym (ordered-Aggregate made p);
  scanned = scans-Aggregate made q ∙ h.scanned ∙ sym (scans-Aggregate made p);
  made = makes-Aggregate made q ∙ ap (λ (vs : List Var). vs ++ map (λ m. m.0) made) h.made ∙ sym (makes-Aggregate made p);
  root = result-Aggregate made q ∙ sym (result-Aggregate made p);
  faults = λ sets name. faults-Aggregate made q sets [] [] name ∙ h.faults sets name ∙ sym (faults-Aggregate made p sets [] [] name);
}

pub kin-Project : (vars : List Var) (q p : Plan) → Kin q p → Kin (P.Project vars q) (P.Project vars p)
kin-Project vars q p h = record {
  order = ordered-Project vars q ∙ h.order ∙ sym (ordered-Project vars p);
  scanned = scans-Project vars q ∙ h.scanned ∙ sym (scans-Project vars p);
  made = makes-Project vars q ∙ h.made ∙ sym (makes-Project vars p);
  root = result-Project vars q ∙ sym (result-Project vars p);
  faults = λ sets name. faults-Project vars q sets [] [] name ∙ h.faults sets name ∙ sym (faults-Project vars p sets [] [] name);
}

pub kin-Order : (keys : List OrderKey) (q p : Plan) → Kin q p → Kin (P.Order keys q) (P.Order keys p)
kin-Order keys q p h = record {
  order = ordered-Order keys q ∙ sym (ordered-Order keys p);
  scanned = scans-Order keys q ∙ h.scanned ∙ sym (scans-Order keys p);
  made = makes-Order keys q ∙ h.made ∙ sym (makes-Order keys p);
  root = result-Order keys q ∙ sym (result-Order keys p);
  faults = λ sets name. faults-Order keys q sets [] [] name ∙ h.faults sets name ∙ sym (faults-Order keys p sets [] [] name);
}

pub kin-Group : (keys : List (Var × Var)) (n : Plan) (q p : Plan) → Kin q p → Kin (P.Group keys n q) (P.Group keys n p)
kin-Group keys n q p h = record {
  order = ordered-Group keys n q ∙ sym (ordered-Group keys n p);
  scanned = scans-Group keys n q ∙ ap (λ ss. ss ++ scans n) h.scanned ∙ sym (scans-Group keys n p);
  made = makes-Group keys n q ∙ ap (λ (vs : List Var). vs ++ (makes n ++ map (λ k. k.0) keys)) h.made ∙ sym (makes-Group keys n p);
  root = result-Group keys n q ∙ sym (result-Group keys n p);
  faults = λ sets name. faults-Group keys n q sets [] [] name ∙ h.faults sets name ∙ sym (faults-Group keys n p sets [] [] name);
}

pub kin-Join : (c : Expr) (q p s r : Plan) → Kin q p → Kin s r → Kin (P.Join c q s) (P.Join c p r)
kin-Join c q p s r h g = record {
  order = ordered-Join c q s ∙ sym (ordered-Join c p r);
  scanned = scans-Join c q s ∙ (λ i. h.scanned i ++ g.scanned i) ∙ sym (scans-Join c p r);
  made = makes-Join c q s ∙ (λ i. h.made i ++ g.made i) ∙ sym (makes-Join c p r);
  root = result-Join c q s ∙ sym (result-Join c p r);
  faults = λ sets name. faults-Join c q s sets [] [] name ∙ (λ i. h.faults sets name i ⊎ g.faults sets name i) ∙ sym (faults-Join c p r sets [] [] name);
}

pub kin-LeftJoin : (c : Expr) (q p s r : Plan) → Kin q p → Kin s r → Kin (P.LeftJoin c q s) (P.LeftJoin c p r)
kin-LeftJoin c q p s r h g = record {
  order = ordered-LeftJoin c q s ∙ sym (ordered-LeftJoin c p r);
  scanned = scans-LeftJoin c q s ∙ (λ i. h.scanned i ++ g.scanned i) ∙ sym (scans-LeftJoin c p r);
  made = makes-LeftJoin c q s ∙ (λ i. h.made i ++ g.made i) ∙ sym (makes-LeftJoin c p r);
  root = result-LeftJoin c q s ∙ sym (result-LeftJoin c p r);
  faults = λ sets name. faults-LeftJoin c q s sets [] [] name ∙ (λ i. h.faults sets name i ⊎ g.faults sets name i) ∙ sym (faults-LeftJoin c p r sets [] [] name);
}
