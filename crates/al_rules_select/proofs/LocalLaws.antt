-- Whether a select may be taken apart doesn't hang on its input.
use Rattle.std.proofs.Common.{◌≡◌, zero, suc, refl, ap, sym, ◌∙◌, arith}
use Rattle.al_plan.specs.declared.expr.Expr.{Expr}
use Rattle.al_plan.specs.declared.plan.Plan.{Plan, out-Plan}
use Rattle.al_plan.specs.declared.plan.Plan.TheVariants as P
use Rattle.al_plan.specs.declared.plan.Plan.TheOpen as L
use Rattle.al_conj.specs.Conj.{both}
use Rattle.al_rule.specs.Rules.{IsLocal}
use Rattle.al_rule.proofs.Operators.{out-Select}
use Rattle.al_rule.proofs.PlaceLaws.{Around, around, layer, out_around, split_input, with_split, select}
use Rattle.al_rules_select.specs.Sets.{split_rules}

select_around : (a : Around) (x y z : Plan) (d : Expr) → around a y ≡ P.Select d z → around a x ≡ P.Select d x
select_around a x y z d e = go a (sym (out_around a y) ∙ ap out-Plan e ∙ out-Select d z)
  where
    go : (a : Around) → layer a y ≡ L.Select d z → around a x ≡ P.Select d x
    go (select c) h = let same : c ≡ d = cc in ap (λ (t : Expr). P.Select t x) same
    go _ h = absurd cc

pub split_local : IsLocal split_rules
split_local zero low p x y i at (q, (a, b, z, is, to)) =
    let (o, p_is, n) = split_input p i x at in
    let here : around o x ≡ P.Select (both a b) x = select_around o x y z (both a b) (sym (with_split o p x y i p_is n) ∙ is) in
    (P.Select a (P.Select b x), (a, b, x, p_is ∙ here, refl))
split_local (suc k) low p x y i at m = absurd (omega (arith, low))
