-- Variables, and the values of rows at them.
use Rattle.std.proofs.Common.{◌≡◌, Bool, true, false, ◌&&◌, List, [], ◌∷◌, refl, ap, sym, ◌∙◌}
use Rattle.std.specs.Prelude.{nat_eq, ◌||◌}
use Rattle.std.specs.List.{AllByRecursion}
use Rattle.std.specs.Cmp.Lexicographic.{pointwise, same_text}
use Rattle.al_value.specs.declared.value.Value.{Value}
use Rattle.al_plan.specs.declared.expr.Var.{Var}
use Rattle.al_plan.specs.Eval.{Bytes, Env}
use Rattle.al_plan.specs.Allows.{is_among}
use Rattle.al_plan.specs.Accept.{are_among}
use Rattle.al_plan.specs.Refines.{AreLive}
use Rattle.al_plan.proofs.Bools.{no, by_cases}
use Rattle.al_plan.proofs.Makes.{text_itself}
use Rattle.al_phys.specs.Parts.{values_at}
use Rattle.al_phys.specs.Properties.{is_same_var}

pub and_left : (a b : Bool) → (a && b) ≡ true → a ≡ true
and_left true b h = refl
and_left false b h = absurd (no (sym h))

pub and_right : (a b : Bool) → (a && b) ≡ true → b ≡ true
and_right true b h = h
and_right false b h = absurd (no (sym h))

pub same_var : (v w : Var) → is_same_var v w ≡ true → v ≡ w
same_var v w e = λ i. record { name = same_text v.name w.name (sym e) i }

pub same_vars : (vs ws : List Var) → pointwise is_same_var vs ws ≡ true → vs ≡ ws
same_vars [] [] e = refl
same_vars [] (w ∷ ws) e = absurd (no (sym e))
same_vars (v ∷ vs) [] e = absurd (no (sym e))
same_vars (v ∷ vs) (w ∷ ws) e = λ i. same_var v w (and_left _ _ e) i ∷ same_vars vs ws (and_right _ _ e) i

pub vars_itself : (vs : List Var) → pointwise is_same_var vs vs ≡ true
vars_itself [] = refl
vars_itself (v ∷ vs) = ap (λ b. b && pointwise is_same_var vs vs) (text_itself v.name) ∙ vars_itself vs

-- a test that all pass, as a claim of each
pub live_from : (vars vs : List Var) → are_among vars vs ≡ true → AreLive vars vs
live_from vars [] e = tt
live_from vars (v ∷ vs) e = (and_left _ _ e, live_from vars vs (and_right _ _ e))

pub among_from : (vars vs : List Var) → AreLive vars vs → are_among vars vs ≡ true
among_from vars [] h = refl
among_from vars (v ∷ vs) h = ap (λ b. b && are_among vars vs) h.0 ∙ among_from vars vs h.1

-- rows with equal values at variables have them at each of these variables
pub value_same : (vars : List Var) (r s : Env) → values_at vars r ≡ values_at vars s → (q : Bytes) → is_among vars q ≡ true → r q ≡ s q
value_same [] r s e q among = absurd (no (sym among))
value_same (v ∷ vars) r s e q among =
    by_cases (pointwise nat_eq v.name q)
    (λ same. let is = same_text v.name q (sym same) in ap r (sym is) ∙ ap (head (r v.name)) e ∙ ap s is)
    (λ other. value_same vars r s (ap tail e) q (ap (λ b. b || is_among vars q) (sym other) ∙ among))
  where
    head : Value → List Value → Value
    head d [] = d
    head d (x ∷ xs) = x

    tail : List Value → List Value
    tail [] = []
    tail (x ∷ xs) = xs

pub values_same : (vars ws : List Var) (r s : Env) → AreLive vars ws → values_at vars r ≡ values_at vars s → values_at ws r ≡ values_at ws s
values_same vars [] r s h e = refl
values_same vars (w ∷ ws) r s h e = λ i. value_same vars r s e w.name h.0 i ∷ values_same vars ws r s h.1 e i

-- rows that agree on the variables have equal values there
pub values_agree : (vs : List Var) (r s : Env) → AllByRecursion (λ v. r v.name ≡ s v.name) vs → values_at vs r ≡ values_at vs s
values_agree [] r s h = refl
values_agree (v ∷ vs) r s h = λ i. h.0 i ∷ values_agree vs r s h.1 i
