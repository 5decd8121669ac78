-- Operators that forget the order of their input's rows are alike over an ordered input and over one that isn't.
use Rattle.std.proofs.Common.{◌≡◌, ◌⊎◌, List, [], ◌++◌, map, refl, ap, sym, ◌∙◌}
use Rattle.al_plan.specs.declared.expr.Var.{Var}
use Rattle.al_plan.specs.declared.expr.Expr.{Expr}
use Rattle.al_plan.specs.declared.plan.AggCall.{AggCall}
use Rattle.al_plan.specs.declared.plan.OrderKey.{OrderKey}
use Rattle.al_plan.specs.declared.plan.Plan.{Plan}
use Rattle.al_plan.specs.declared.plan.Plan.TheVariants as P
use Rattle.al_plan.specs.Eval.{Bytes}
use Rattle.al_plan.specs.Allows.{Sets, Faults, live}
use Rattle.al_plan.specs.Refines.{scans, makes}
use Rattle.al_plan.proofs.PlanLaws.{live-Aggregate, ordered-Aggregate, scans-Aggregate, makes-Aggregate, result-Aggregate, faults-Aggregate, live-Distinct, ordered-Distinct, scans-Distinct, makes-Distinct, result-Distinct, faults-Distinct, live-Group, ordered-Group, scans-Group, makes-Group, result-Group, faults-Group, live-Join, ordered-Join, scans-Join, makes-Join, result-Join, faults-Join, live-LeftJoin, ordered-LeftJoin, scans-LeftJoin, makes-LeftJoin, result-LeftJoin, faults-LeftJoin, live-Order, ordered-Order, scans-Order, makes-Order, result-Order, faults-Order, live-Union, ordered-Union, scans-Union, makes-Union, result-Union, faults-Union}
use Rattle.al_rule.proofs.Alike.{Alike}

-- two plans outside nested plans with the same live variables, scans, made variables and faults
pub record NearlyAlike (q p : Plan) : Type 1 where
  pub vars : live q [] ≡ live p []
  pub scanned : scans q ≡ scans p
  pub made : makes q ≡ makes p
  pub faults : (sets : Sets) (name : Bytes) → Faults q sets [] [] name ≡ Faults p sets [] [] name

-- the input of an order is nearly like it
pub below_order : (keys : List OrderKey) (p : Plan) → NearlyAlike p (P.Order keys p)
below_order keys p = record {
  vars = sym (live-Order keys p []);
  scanned = sym (scans-Order keys p);
  made = sym (makes-Order keys p);
  faults = λ sets name. sym (faults-Order keys p sets [] [] name);
}

pub nearly-refl : (p : Plan) → NearlyAlike p p
nearly-refl p = record { vars = refl; scanned = refl; made = refl; faults = λ sets name. refl }

pub nearly-Group : (ks : List (Var × Var)) (n : Plan) (q p : Plan) → NearlyAlike q p → Alike (P.Group ks n q) (P.Group ks n p)
nearly-Group ks n q p h = record {
  vars = live-Group ks n q [] ∙ ap (λ (vs : List Var). map (λ k. k.0) ks ++ live n vs) h.vars ∙ sym (live-Group ks n p []);
  order = ordered-Group ks n q ∙ sym (ordered-Group ks n p);
  scanned = scans-Group ks n q ∙ ap (λ ss. ss ++ scans n) h.scanned ∙ sym (scans-Group ks n p);
  made = makes-Group ks n q ∙ ap (λ (vs : List Var). vs ++ (makes n ++ map (λ k. k.0) ks)) h.made ∙ sym (makes-Group ks n p);
  root = result-Group ks n q ∙ sym (result-Group ks n p);
  faults = λ sets name. faults-Group ks n q sets [] [] name ∙ h.faults sets name ∙ sym (faults-Group ks n p sets [] [] name);
}

pub nearly-Distinct : (q p : Plan) → NearlyAlike q p → Alike (P.Distinct q) (P.Distinct p)
nearly-Distinct q p h = record {
  vars = live-Distinct q [] ∙ h.vars ∙ sym (live-Distinct p []);
  order = ordered-Distinct q ∙ sym (ordered-Distinct p);
  scanned = scans-Distinct q ∙ h.scanned ∙ sym (scans-Distinct p);
  made = makes-Distinct q ∙ h.made ∙ sym (makes-Distinct p);
  root = result-Distinct q ∙ sym (result-Distinct p);
  faults = λ sets name. faults-Distinct q sets [] [] name ∙ h.faults sets name ∙ sym (faults-Distinct p sets [] [] name);
}

pub nearly-Aggregate : (made : List (Var × AggCall)) (q p : Plan) → NearlyAlike q p → Alike (P.Aggregate made q) (P.Aggregate made p)
nearly-Aggregate made q p h = record {
  vars = live-Aggregate made q [] ∙ sym (live-Aggregate made p []);
  order = ordered-Aggregate made q ∙ sym (ordered-Aggregate made p);
  scanned = scans-Aggregate made q ∙ h.scanned ∙ sym (scans-Aggregate made p);
  made = makes-Aggregate made q ∙ ap (λ (vs : List Var). vs ++ map (λ m. m.0) made) h.made ∙ sym (makes-Aggregate made p);
  root = result-Aggregate made q ∙ sym (result-Aggregate made p);
  faults = λ sets name. faults-Aggregate made q sets [] [] name ∙ h.faults sets name ∙ sym (faults-Aggregate made p sets [] [] name);
}

pub nearly-Order : (keys : List OrderKey) (q p : Plan) → NearlyAlike q p → Alike (P.Order keys q) (P.Order keys p)
nearly-Order keys q p h = record {
  vars = live-Order keys q [] ∙ h.vars ∙ sym (live-Order keys p []);
  order = ordered-Order keys q ∙ sym (ordered-Order keys p);
  scanned = scans-Order keys q ∙ h.scanned ∙ sym (scans-Order keys p);
  made = makes-Order keys q ∙ h.made ∙ sym (makes-Order keys p);
  root = result-Order keys q ∙ sym (result-Order keys p);
  faults = λ sets name. faults-Order keys q sets [] [] name ∙ h.faults sets name ∙ sym (faults-Order keys p sets [] [] name);
}

pub nearly-Join : (c : Expr) (q p s r : Plan) → NearlyAlike q p → NearlyAlike s r → Alike (P.Join c q s) (P.Join c p r)
nearly-Join c q p s r h g = record {
  vars = live-Join c q s [] ∙ (λ i. h.vars i ++ g.vars i) ∙ sym (live-Join c p r []);
  order = ordered-Join c q s ∙ sym (ordered-Join c p r);
  scanned = scans-Join c q s ∙ (λ i. h.scanned i ++ g.scanned i) ∙ sym (scans-Join c p r);
  made = makes-Join c q s ∙ (λ i. h.made i ++ g.made i) ∙ sym (makes-Join c p r);
  root = result-Join c q s ∙ sym (result-Join c p r);
  faults = λ sets name. faults-Join c q s sets [] [] name ∙ (λ i. h.faults sets name i ⊎ g.faults sets name i) ∙ sym (faults-Join c p r sets [] [] name);
}

pub nearly-LeftJoin : (c : Expr) (q p s r : Plan) → NearlyAlike q p → NearlyAlike s r → Alike (P.LeftJoin c q s) (P.LeftJoin c p r)
nearly-LeftJoin c q p s r h g = record {
  vars = live-LeftJoin c q s [] ∙ (λ i. h.vars i ++ g.vars i) ∙ sym (live-LeftJoin c p r []);
  order = ordered-LeftJoin c q s ∙ sym (ordered-LeftJoin c p r);
  scanned = scans-LeftJoin c q s ∙ (λ i. h.scanned i ++ g.scanned i) ∙ sym (scans-LeftJoin c p r);
  made = makes-LeftJoin c q s ∙ (λ i. h.made i ++ g.made i) ∙ sym (makes-LeftJoin c p r);
  root = result-LeftJoin c q s ∙ sym (result-LeftJoin c p r);
  faults = λ sets name. faults-LeftJoin c q s sets [] [] name ∙ (λ i. h.faults sets name i ⊎ g.faults sets name i) ∙ sym (faults-LeftJoin c p r sets [] [] name);
}

pub nearly-Union : (made ls rs : List Var) (q p s r : Plan) → NearlyAlike q p → NearlyAlike s r → Alike (P.Union made ls rs q s) (P.Union made ls rs p r)
nearly-Union made ls rs q p s r h g = record {
  vars = live-Union made ls rs q s [] ∙ sym (live-Union made ls rs p r []);
  order = ordered-Union made ls rs q s ∙ sym (ordered-Union made ls rs p r);
  scanned = scans-Union made ls rs q s ∙ (λ i. h.scanned i ++ g.scanned i) ∙ sym (scans-Union made ls rs p r);
  made = makes-Union made ls rs q s ∙ (λ i. h.made i ++ (g.made i ++ made)) ∙ sym (makes-Union made ls rs p r);
  root = result-Union made ls rs q s ∙ sym (result-Union made ls rs p r);
  faults = λ sets name. faults-Union made ls rs q s sets [] [] name ∙ (λ i. h.faults sets name i ⊎ g.faults sets name i) ∙ sym (faults-Union made ls rs p r sets [] [] name);
}
