-- The equi keys of a conjunct, and the join that is made by them.
use Rattle.std.proofs.Common.{◌≡◌, ◌≢◌, ℕ, Bool, true, false, List, [], ◌∷◌, ◌++◌, map, take, length, get_or, ◌<◌, ◌+◌, None, refl, ap, sym, subst, ◌∙◌, append-nil, add-one}
use Rattle.std.specs.Prelude.{if◌then◌else◌}
use Rattle.std.proofs.Math.Seq.{take-suc}
use Rattle.std.proofs.lemmas.List.Elements.{filter_map-append}
use Rattle.std.specs.List.{cons_option, filter_map}
use Rattle.al_value.specs.declared.value.Value.{Value}
use Rattle.al_func.specs.declared.func.Func.{Func}
use Rattle.al_func.specs.declared.func.Func.TheVariants as F
use Rattle.al_plan.specs.declared.expr.Var.{Var}
use Rattle.al_plan.specs.declared.expr.Expr.{Expr, out-Expr, out-roll-Expr}
use Rattle.al_plan.specs.declared.expr.Expr.TheVariants as E
use Rattle.al_plan.specs.declared.expr.Expr.TheOpen as L
use Rattle.al_phys.specs.declared.phys.JoinForm.{JoinForm}
use Rattle.al_phys.specs.declared.property.Need.{Need}
use Rattle.al_phys.specs.declared.property.Need.TheVariants as N
use Rattle.al_phys.specs.declared.phys.Phys.{Phys}
use Rattle.al_phys.specs.declared.phys.Phys.TheVariants as Q
use Rattle.al_phys.specs.Gives.{is_hash}
use Rattle.al_phys.specs.Operators.{phys_live}
use Rattle.al_phys.specs.Properties.{equi_step, equi_key, equi_keys, old_of, join_need}
use Rattle.al_phys.proofs.EquiLaws.{variable-Var, variable-Lit, variable-Call}
use Rattle.al_choose.specs.Chosen.{served, join_form, join_over}

module _ (ls rs : List Var) where
  pub key-Var : (v : Var) → equi_key ls rs (E.Var v) ≡ None
  key-Var v = ap (equi_step ls rs) (ap out-Expr (sym (E.rolls-Var v)) ∙ out-roll-Expr (L.Var v))

  pub key-Lit : (v : Value) → equi_key ls rs (E.Lit v) ≡ None
  key-Lit v = ap (equi_step ls rs) (ap out-Expr (sym (E.rolls-Lit v)) ∙ out-roll-Expr (L.Lit v))

  pub key-Call : (f : Func) (args : List Expr) → equi_key ls rs (E.Call f args) ≡ equi_step ls rs (L.Call f args)
  key-Call f args = ap (equi_step ls rs) (ap out-Expr (sym (E.rolls-Call f args)) ∙ out-roll-Expr (L.Call f args))

  pub key-other : (f : Func) (args : List Expr) → f ≢ F.Eq → equi_step ls rs (L.Call f args) ≡ None
  key-other F.Eq args no_eq = absurd (no_eq refl)
  key-other F.Lt args no_eq = refl
  key-other F.Le args no_eq = refl
  key-other F.And args no_eq = refl
  key-other F.Or args no_eq = refl
  key-other F.Not args no_eq = refl
  key-other F.Add args no_eq = refl
  key-other F.Sub args no_eq = refl
  key-other F.Mul args no_eq = refl
  key-other F.Div args no_eq = refl
  key-other F.Mod args no_eq = refl
  key-other F.Neg args no_eq = refl
  key-other F.Concat args no_eq = refl
  key-other F.Length args no_eq = refl
  key-other F.Substr args no_eq = refl
  key-other F.LowerAscii args no_eq = refl
  key-other F.If args no_eq = refl
  key-other F.IsNull args no_eq = refl
  key-other F.Coalesce args no_eq = refl

  -- the key of one conjunct more
  pub keys_next : (keys next : List (Var × Var)) (es : List Expr) (i : ℕ) (d : Expr) → i < length es → keys ≡ filter_map (equi_key ls rs) (take i es)
      → next ≡ keys ++ cons_option (equi_key ls rs (get_or es i d)) [] → next ≡ filter_map (equi_key ls rs) (take (i + 1) es)
  keys_next keys next es i d lt before here =
      here ∙ ap (λ ks. ks ++ cons_option (equi_key ls rs (get_or es i d)) []) before
      ∙ sym (rw (add-one, take-suc es i d lt, filter_map-append (equi_key ls rs) (take i es) (get_or es i d ∷ [])) refl)

pub ruleset variable_laws = (variable-Var, variable-Lit, variable-Call)

pub ruleset key_laws = (key-Var, key-Lit, key-Call, key-other, append-nil)

-- ---- the join

abbrev LeftNeed : List (Var × Var) → Need
LeftNeed keys = if is_hash (join_form false keys) then N.Exactly (map (λ k. k.0) keys) else N.Any

abbrev RightNeed : List (Var × Var) → Need
RightNeed keys = if is_hash (join_form false keys) then N.Exactly (old_of keys) else N.All

left_need : (outer : Bool) (keys : List (Var × Var)) (l r : Phys) (c : Expr) → keys ≡ equi_keys (phys_live l) (phys_live r) c → LeftNeed keys ≡ join_need (is_hash (join_form outer keys)) l r c 0
left_need true [] l r c e = refl
left_need false [] l r c e = refl
left_need true (k ∷ keys) l r c e = ap (λ ks. N.Exactly (map (λ k. k.0) ks)) e
left_need false (k ∷ keys) l r c e = ap (λ ks. N.Exactly (map (λ k. k.0) ks)) e

right_need : (outer : Bool) (keys : List (Var × Var)) (l r : Phys) (c : Expr) → keys ≡ equi_keys (phys_live l) (phys_live r) c → RightNeed keys ≡ join_need (is_hash (join_form outer keys)) l r c 1
right_need true [] l r c e = refl
right_need false [] l r c e = refl
right_need true (k ∷ keys) l r c e = ap (λ ks. N.Exactly (old_of ks)) e
right_need false (k ∷ keys) l r c e = ap (λ ks. N.Exactly (old_of ks)) e

pub join_made : (n : ℕ) (outer : Bool) (c : Expr) (l r one other : Phys) (keys : List (Var × Var)) (form : JoinForm) → keys ≡ equi_keys (phys_live l) (phys_live r) c → form ≡ join_form outer keys
    → one ≡ served n (LeftNeed keys) l → other ≡ served n (RightNeed keys) r → Q.Join form c one other ≡ join_over n outer c l r
join_made n outer c l r one other keys form e f a b =
    (λ i. Q.Join (f i) c (a i) (b i))
    ∙ (λ i. Q.Join (join_form outer keys) c (served n (left_need outer keys l r c e i) l) (served n (right_need outer keys l r c e i) r))
    ∙ (λ i. Q.Join (join_form outer (e i)) c (served n (join_need (is_hash (join_form outer (e i))) l r c 0) l) (served n (join_need (is_hash (join_form outer (e i))) l r c 1) r))
