-- Which plans the other rules of selects rewrite, and that what they make is that.
use Rattle.std.proofs.Common.{◌≡◌, Bool, true, [], ◌∷◌, refl, ap, sym, ◌∙◌, Result, IfOk}
use Rattle.al_value.specs.declared.value.Value.TheVariants as V
use Rattle.al_func.specs.declared.func.Func.TheVariants as F
use Rattle.al_plan.specs.declared.expr.Expr.{Expr, out-Expr, out-roll-Expr}
use Rattle.al_plan.specs.declared.expr.Expr.TheVariants as E
use Rattle.al_plan.specs.declared.expr.Expr.TheOpen as LE
use Rattle.al_plan.specs.declared.plan.Plan.{Plan}
use Rattle.al_plan.specs.declared.plan.Plan.TheVariants as P
use Rattle.al_conj.specs.Conj.{both, IsLeaf}
use Rattle.al_rule.specs.declared.rule.ApplyFault.{ApplyFault}
use Rattle.al_rule.specs.Rules.{Decides, Matches}
use Rattle.al_rules_select.specs.Lowers.{IsNoSelect, IsNoPair, IsPair, IsJoinedCondition, IsOverNoJoin, Splits, Uncovers, Joins}
use Rattle.al_rules_select.specs.Selects as rule
use Rattle.al_rules_select.proofs.SelectLaws.{same_select, same_join, decides_from, if_ok}

-- ---- an `and` of two

out-and : (a b : Expr) → out-Expr (both a b) ≡ LE.Call F.And (a ∷ b ∷ [])
out-and a b = ap out-Expr (sym (E.rolls-Call F.And (a ∷ b ∷ []))) ∙ out-roll-Expr (LE.Call F.And (a ∷ b ∷ []))

pub same_both : (a b c d : Expr) → both a b ≡ both c d → (a ≡ c) × (b ≡ d)
same_both a b c d e = let h : LE.Call F.And (a ∷ b ∷ []) ≡ LE.Call F.And (c ∷ d ∷ []) = sym (out-and a b) ∙ ap out-Expr e ∙ out-and c d in (cc, cc)

pub none_split : (p : Plan) → IsNoSelect p → Matches rule.SplitAnd p → ⊥
none_split p never (q, (a, b, x, at, to)) = never (both a b) x at

pub other_split : (p : Plan) (e : Expr) (x : Plan) → p ≡ P.Select e x → IsLeaf e → Matches rule.SplitAnd p → ⊥
other_split p e x is leaf (q, (a, b, y, at, to)) = leaf a b (same_select e (both a b) x y (sym is ∙ at)).0

pub yes_split : (p : Plan) (e : Expr) (x : Plan) (a b : Expr) → p ≡ P.Select e x → e ≡ both a b → Matches rule.SplitAnd p
yes_split p e x a b is h = (P.Select a (P.Select b x), (a, b, x, is ∙ ap (λ (z : Expr). P.Select z x) h, refl))

pub no_select : (p : Plan) → IsNoSelect p → IsNoPair p
no_select p never a b (x, is) = never (both a b) x is

pub no_sides : (p : Plan) (e : Expr) (x : Plan) → p ≡ P.Select e x → IsLeaf e → IsNoPair p
no_sides p e x is leaf a b (y, at) = leaf a b (same_select e (both a b) x y (sym is ∙ at)).0

pub of_sides : (p : Plan) (e : Expr) (x : Plan) (a b first second : Expr) → p ≡ P.Select e x → e ≡ both a b → first ≡ a → second ≡ b → IsPair first second p
of_sides p e x a b first second is h f s = (x, is ∙ (λ i. P.Select (h i) x) ∙ (λ i. P.Select (both (sym f i) (sym s i)) x))

pub splits_pair : (p q : Plan) (first second : Expr) → IsPair first second p → ((e : Expr) (x : Plan) → p ≡ P.Select e x → q ≡ P.Select first (P.Select second x)) → Splits p q
splits_pair p q first second (y, at) made a b x is =
    let s = same_select (both first second) (both a b) y x (sym at ∙ is) in
    let t = same_both first second a b s.0 in
    made (both a b) x is ∙ (λ i. P.Select (t.0 i) (P.Select (t.1 i) x))

pub splits_none : (p : Plan) → IsNoPair p → Splits p p
splits_none p never a b x is = absurd (never a b (x, is))

pub selects_twice : (p : Plan) (cond first second : Expr) (input inner : Plan) → p ≡ P.Select cond input → inner ≡ P.Select second input → (e : Expr) (x : Plan) → p ≡ P.Select e x → P.Select first inner ≡ P.Select first (P.Select second x)
selects_twice p cond first second input inner is h e x at =
    let s = same_select cond e input x (sym is ∙ at) in
    (λ i. P.Select first (h i)) ∙ (λ i. P.Select first (P.Select second (s.1 i)))

pub applied_split : (p : Plan) (result : Result Plan ApplyFault) → IfOk result (Splits p) → Matches rule.SplitAnd p → IfOk result (λ q. rule.SplitAnd p q)
applied_split p result h (q, (a, b, x, at, to)) = if_ok result (Splits p) (λ q. rule.SplitAnd p q) (λ q k. (a, b, x, at, k a b x at)) h

-- ---- the literal `true`

pub none_true : (p : Plan) → IsNoSelect p → Matches rule.SelectTrue p → ⊥
none_true p never (q, (x, at, to)) = never (E.Lit (V.Bool true)) x at

pub yes_true : (p : Plan) (e : Expr) (x : Plan) (b : Bool) → p ≡ P.Select e x → Decides b (e ≡ E.Lit (V.Bool true)) → Decides b (Matches rule.SelectTrue p)
yes_true p e x b is d = decides_from b (e ≡ E.Lit (V.Bool true)) (Matches rule.SelectTrue p) (λ h. (x, (x, is ∙ ap (λ (z : Expr). P.Select z x) h, refl))) back d
  where
    back : Matches rule.SelectTrue p → e ≡ E.Lit (V.Bool true)
    back (q, (y, at, to)) = (same_select e (E.Lit (V.Bool true)) x y (sym is ∙ at)).0

pub uncovers : (p : Plan) (e : Expr) (x q : Plan) → p ≡ P.Select e x → q ≡ x → Uncovers p q
uncovers p e x q is same d y at = same ∙ (same_select e d x y (sym is ∙ at)).1

pub applied_true : (p q : Plan) → Uncovers p q → Matches rule.SelectTrue p → rule.SelectTrue p q
applied_true p q h (z, (x, at, to)) = (x, at, h (E.Lit (V.Bool true)) x at)

-- ---- a join

pub none_into : (p : Plan) → IsNoSelect p → Matches rule.SelectIntoJoin p → ⊥
none_into p never (q, (e, c, l, r, at, to)) = never e (P.Join c l r) at

pub other_into : (p : Plan) (e : Expr) (x : Plan) → p ≡ P.Select e x → ((c : Expr) (l r : Plan) → x ≡ P.Join c l r → ⊥) → Matches rule.SelectIntoJoin p → ⊥
other_into p e x is never (q, (d, c, l, r, at, to)) = never c l r (same_select e d x (P.Join c l r) (sym is ∙ at)).1

pub yes_into : (p : Plan) (e : Expr) (x : Plan) (c : Expr) (l r : Plan) → p ≡ P.Select e x → x ≡ P.Join c l r → Matches rule.SelectIntoJoin p
yes_into p e x c l r is h = (P.Join (both c e) l r, (e, c, l, r, is ∙ ap (P.Select e) h, refl))

pub no_join_none : (p : Plan) → IsNoSelect p → IsOverNoJoin p
no_join_none p never e c l r is = never e (P.Join c l r) is

pub no_join_other : (p : Plan) (e : Expr) (x : Plan) → p ≡ P.Select e x → ((c : Expr) (l r : Plan) → x ≡ P.Join c l r → ⊥) → IsOverNoJoin p
no_join_other p e x is never d c l r at = never c l r (same_select e d x (P.Join c l r) (sym is ∙ at)).1

pub condition_of : (p : Plan) (e : Expr) (x : Plan) (c : Expr) (l r : Plan) (d : Expr) → p ≡ P.Select e x → x ≡ P.Join c l r → d ≡ both c e → IsJoinedCondition p d
condition_of p e x c l r d is h made f o m s at =
    let t = same_select e f x (P.Join o m s) (sym is ∙ at) in
    let u = same_join c o l m r s (sym h ∙ t.1) in
    made ∙ (λ i. both (u.0 i) (t.0 i))

pub under_select : (p : Plan) (cond : Expr) (x q : Plan) (d : Expr) → p ≡ P.Select cond x → ((c : Expr) (l r : Plan) → x ≡ P.Join c l r → q ≡ P.Join d l r) → (e c : Expr) (l r : Plan) → p ≡ P.Select e (P.Join c l r) → q ≡ P.Join d l r
under_select p cond x q d is made e c l r at = made c l r (same_select cond e x (P.Join c l r) (sym is ∙ at)).1

pub no_select_under : (p q : Plan) (d : Expr) → IsNoSelect p → (e c : Expr) (l r : Plan) → p ≡ P.Select e (P.Join c l r) → q ≡ P.Join d l r
no_select_under p q d never e c l r at = absurd (never e (P.Join c l r) at)

pub under_join : (p : Plan) (c : Expr) (l r : Plan) (d : Expr) → p ≡ P.Join c l r → (o : Expr) (m s : Plan) → p ≡ P.Join o m s → P.Join d l r ≡ P.Join d m s
under_join p c l r d is o m s at =
    let u = same_join c o l m r s (sym is ∙ at) in
    λ i. P.Join d (u.1 i) (u.2 i)

pub joins_with : (p q : Plan) (d : Expr) → IsJoinedCondition p d → ((e c : Expr) (l r : Plan) → p ≡ P.Select e (P.Join c l r) → q ≡ P.Join d l r) → Joins p q
joins_with p q d cond made e c l r at = made e c l r at ∙ (λ i. P.Join (cond e c l r at i) l r)

pub joins_none : (p : Plan) → IsOverNoJoin p → Joins p p
joins_none p never e c l r at = absurd (never e c l r at)

pub applied_into : (p : Plan) (result : Result Plan ApplyFault) → IfOk result (Joins p) → Matches rule.SelectIntoJoin p → IfOk result (λ q. rule.SelectIntoJoin p q)
applied_into p result h (q, (d, c, l, r, at, to)) = if_ok result (Joins p) (λ q. rule.SelectIntoJoin p q) (λ q k. (d, c, l, r, at, k d c l r at)) h
