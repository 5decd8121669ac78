-- Sets driven one after the other.
use Rattle.std.specs.List.{flat_map}
use Rattle.std.specs.Prelude.{IfOk, Result, Ok, Err}
use Rattle.std.proofs.Common.{◌≡◌, Bool, true, false, List, [], ◌∷◌, ◌++◌, refl, ap, sym, subst, ◌∙◌, append_assoc, append-nil}
use Rattle.al_value.specs.declared.fault.NoMemory.{NoMemory}
use Rattle.al_plan.specs.declared.plan.Plan.{Plan}
use Rattle.al_plan.specs.Refines.{Fit, Refines, Replaces}
use Rattle.al_plan.proofs.Refine.{replaces-refl, replaces-trans}
use Rattle.al_rule.specs.declared.names.SetName.{SetName}
use Rattle.al_rule.specs.declared.trace.TraceStep.{TraceStep}
use Rattle.al_rule.specs.declared.trace.Trace.{Trace}
use Rattle.al_rule.specs.Rules.{Rules, Stuck}
use Rattle.al_rule.specs.Driven.{Drove, Driven}
use Rattle.al_rule.specs.Walks.{IsWalk, WalkedOnce, WalkedOut}
use Rattle.al_rule.proofs.DriveLaws.{same_gain}
use Rattle.al_opt.specs.Optimised.{LegalTrace, Reaches, is_once, rules_of, set_order}

-- what a driver tells, put together: the steps that it made are those of its walks
pub reached_once : (rules : Rules) (p q : Plan) (before now : Trace) → Drove rules p before now q → WalkedOnce rules p before now q → Stuck rules q → Replaces q p → Reaches true rules p before now q
reached_once rules p q before now (steps, gained, leads) (walk, walked, is) stuck replaces =
    let same : walk ≡ steps = same_gain before.steps walk steps (sym walked ∙ gained) in
    record { steps = steps; gained = gained; leads = leads; walks = subst (λ (ss : List TraceStep). IsWalk rules p ss q) same is; stuck = stuck; replaces = replaces }

pub reached_out : (rules : Rules) (p q : Plan) (before now : Trace) → Drove rules p before now q → WalkedOut rules p before now q → Stuck rules q → Replaces q p → Reaches false rules p before now q
reached_out rules p q before now (steps, gained, leads) (walks, walked, are, last) stuck replaces =
    let same : steps ≡ flat_map (λ w. w) walks = same_gain before.steps steps (flat_map (λ w. w) walks) (sym gained ∙ walked) in
    record { steps = steps; gained = gained; leads = leads; walks = (walks, same, are, last); stuck = stuck; replaces = replaces }

-- a plan that is reached is put into a box
pub reaches_boxed : (once : Bool) (rules : Rules) (p given q : Plan) (before now : Trace) (r : Result Plan NoMemory) → given ≡ p → Reaches once rules given before now q → IfOk r (λ b. b ≡ q) → IfOk r (λ b. Reaches once rules p before now b)
reaches_boxed once rules p given q before now (Ok b) e h f =
    subst (λ (z : Plan). Reaches once rules z before now b) e (subst (λ (z : Plan). Reaches once rules given before now z) (sym f) h)
reaches_boxed once rules p given q before now (Err x) e h f = tt

-- the trace gained steps by which these sets lead from the first plan to the second
pub record DrivenOn (sets_of : SetName → Rules) (once : SetName → Bool) (sets : List SetName) (p : Plan) (before now : Trace) (q : Plan) : Type 0 where
  pub steps : List TraceStep
  pub gained : now.steps ≡ before.steps ++ steps
  pub driven : Driven sets_of once sets steps p q
  pub replaces : Replaces q p

pub none_left : (sets_of : SetName → Rules) (once : SetName → Bool) (p : Plan) (t : Trace) → Fit p → DrivenOn sets_of once [] p t t p
unfolding Driven
none_left sets_of once p t fit = record { steps = []; gained = sym (append-nil t.steps); driven = (refl, refl); replaces = replaces-refl p fit }

pub one_more : (sets_of : SetName → Rules) (once : SetName → Bool) (s : SetName) (sets : List SetName) (p mid q : Plan) (before between now : Trace)
    → Reaches (once s) (sets_of s) p before between mid → DrivenOn sets_of once sets mid between now q → DrivenOn sets_of once (s ∷ sets) p before now q
unfolding Driven
one_more sets_of once s sets p mid q before between now here later = record {
  steps = here.steps ++ later.steps;
  gained = later.gained ∙ ap (λ ss. ss ++ later.steps) here.gained ∙ append_assoc before.steps here.steps later.steps;
  driven = (here.steps, later.steps, mid, refl, here.leads, here.walks, here.stuck, later.driven);
  replaces = replaces-trans q mid p later.replaces here.replaces;
}

-- all sets, from a new trace and a copy of the plan
pub record Optimised (p : Plan) (t : Trace) (q : Plan) : Type 0 where
  pub legal : LegalTrace p t.steps q
  pub refines : Refines q p

pub optimised : (p copy q : Plan) (new t : Trace) → copy ≡ p → new.steps ≡ [] → DrivenOn rules_of is_once set_order copy new t q → Optimised p t q
optimised p copy q new t same none run =
    let gained : t.steps ≡ run.steps = run.gained ∙ ap (λ ss. ss ++ run.steps) none in
    record {
      legal = subst (λ (x : Plan). LegalTrace x t.steps q) same (subst (λ (ss : List TraceStep). LegalTrace copy ss q) (sym gained) run.driven);
      refines = subst (λ (x : Plan). Refines q x) same run.replaces.refines;
    }
