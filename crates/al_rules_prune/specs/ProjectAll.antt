-- A project of all live variables.
use Rattle.std.proofs.Common.{◌≡◌, Bool, true, false, List, [], ◌∷◌, ◌++◌, refl, ap, sym, subst, ◌∙◌}
use Rattle.std.specs.Prelude.{◌||◌, nat_eq, if◌then◌else◌}
use Rattle.std.specs.Cmp.Lexicographic.{pointwise, same_text}
use Rattle.std.specs.List.Sorted.{IsPermutation}
use Rattle.std.proofs.lemmas.List.Sorted.{IsPermutation-refl, IsPermutation-trans, IsPermutation-sym, IsPermutation-cons, IsPermutation-middle}
use Rattle.al_value.specs.declared.value.Value.TheVariants as V
use Rattle.al_plan.specs.declared.expr.Var.{Var}
use Rattle.al_plan.specs.declared.plan.Plan.{Plan}
use Rattle.al_plan.specs.declared.plan.Plan.TheVariants as P
use Rattle.al_plan.specs.Eval.{Bytes, Env}
use Rattle.al_plan.specs.Allows.{live, is_among, cut}
use Rattle.al_plan.specs.Refines.{Fit, Replaces, NoTwice, IsWithin}
use Rattle.al_plan.proofs.Bools.{no, by_cases}
use Rattle.al_plan.proofs.PlanLaws.{live-Project, makes-Project}
use Rattle.al_plan.proofs.Within.{is_among-append}
use Rattle.al_plan.proofs.Makes.{apart, twice_left, twice_right, twice_both, not_append, no_more-same, at_head}
use Rattle.al_plan.proofs.Lives.{live_once}
use Rattle.al_rule.specs.Chains.{projecting}
use Rattle.al_rule.proofs.Chains.{chains_refine}
use Rattle.al_rule.proofs.FitLaws.{out_Project}
use Rattle.al_rules_prune.specs.Prunes.{HaveSame}
use Rattle.al_rules_prune.specs.Kept.{IsIn}

-- a list with a variable of this name, cut there
record Cut (ys : List Var) (x : Var) : Type 0 where
  front : List Var
  back : List Var
  is : ys ≡ front ++ x ∷ back

find_var : (ys : List Var) (x : Var) → is_among ys x.name ≡ true → Cut ys x
find_var [] x e = absurd (no (sym e))
find_var (y ∷ ys) x e = go (pointwise nat_eq y.name x.name) refl (λ t. find_var ys x t)
  where
    go : (b : Bool) → pointwise nat_eq y.name x.name ≡ b → (is_among ys x.name ≡ true → Cut ys x) → Cut (y ∷ ys) x
    go true same more = record { front = []; back = ys; is = λ i. record { name = same_text y.name x.name (sym same) i } ∷ ys }
    go false other more =
        let rest = more (ap (λ b. b || is_among ys x.name) (sym other) ∙ e) in
        record { front = y ∷ rest.front; back = rest.back; is = ap (λ zs. y ∷ zs) rest.is }

among_without : (us : List Var) (x : Var) (ws : List Var) (q : Bytes) → pointwise nat_eq x.name q ≡ false → is_among (us ++ x ∷ ws) q ≡ is_among (us ++ ws) q
among_without us x ws q e = is_among-append us (x ∷ ws) q ∙ ap (λ b. is_among us q || (b || is_among ws q)) e ∙ sym (is_among-append us ws q)

among_with : (us : List Var) (x : Var) (ws : List Var) (q : Bytes) → is_among (us ++ ws) q ≡ true → is_among (us ++ x ∷ ws) q ≡ true
among_with us x ws q e = by_cases (pointwise nat_eq x.name q)
    (λ same. is_among-append us (x ∷ ws) q ∙ ap (λ b. is_among us q || (b || is_among ws q)) same ∙ or_true (is_among us q))
    (λ other. among_without us x ws q other ∙ e)
  where
    or_true : (a : Bool) → (a || true) ≡ true
    or_true true = refl
    or_true false = refl

-- without repeats, the same variables are a permutation
pub set_permutation : (xs ys : List Var) → NoTwice xs → NoTwice ys → IsIn xs ys → IsIn ys xs → IsPermutation xs ys
set_permutation [] [] h g f k = IsPermutation-refl []
set_permutation [] (y ∷ ys) h g f k = absurd (no (sym (k y.name (at_head y ys))))
set_permutation (x ∷ xs) ys h g f k =
    let c = find_var ys x (f x.name (at_head x xs)) in
    let once : NoTwice (c.front ++ x ∷ c.back) = subst NoTwice c.is g in
    let apart_here = apart c.front (x ∷ c.back) once in
    let back = twice_right c.front (x ∷ c.back) once in
    let rest_once : NoTwice (c.front ++ c.back) = twice_both c.front c.back (twice_left c.front (x ∷ c.back) once) back.1 (λ q e. by_cases (is_among c.back q) (λ t. absurd (no (sym (in_tail x c.back q t) ∙ apart_here q e))) (λ t. t)) in
    let not_front : is_among c.front x.name ≡ false = by_cases (is_among c.front x.name) (λ t. absurd (no (sym (at_head x c.back) ∙ apart_here x.name t))) (λ t. t) in
    let not_rest : is_among (c.front ++ c.back) x.name ≡ false = not_append c.front c.back x.name not_front back.0 in
    let inside : IsIn xs (c.front ++ c.back) = λ q e. by_cases (pointwise nat_eq x.name q)
    (λ same. absurd (no (sym e ∙ ap (is_among xs) (sym (same_text x.name q (sym same))) ∙ h.0)))
    (λ other. sym (among_without c.front x c.back q other) ∙ ap (λ vs. is_among vs q) (sym c.is) ∙ f q (in_tail x xs q e)) in
    let outside : IsIn (c.front ++ c.back) xs = λ q e. by_cases (pointwise nat_eq x.name q)
    (λ same. absurd (no (sym e ∙ ap (is_among (c.front ++ c.back)) (sym (same_text x.name q (sym same))) ∙ not_rest)))
    (λ other. ap (λ b. b || is_among xs q) (sym other) ∙ k q (ap (λ vs. is_among vs q) c.is ∙ among_with c.front x c.back q e)) in
    let moved = IsPermutation-cons x xs _ (set_permutation xs (c.front ++ c.back) h.1 rest_once inside outside) in
    subst (IsPermutation (x ∷ xs)) (sym c.is) (IsPermutation-trans _ _ _ moved (IsPermutation-sym _ _ (IsPermutation-middle c.front x c.back)))
  where
    in_tail : (x : Var) (xs : List Var) (q : Bytes) → is_among xs q ≡ true → is_among (x ∷ xs) q ≡ true
    in_tail x xs q e = go (pointwise nat_eq x.name q) e
      where
        go : (b : Bool) → is_among xs q ≡ true → (b || is_among xs q) ≡ true
        go true e = refl
        go false e = e

cut_all : (vars : List Var) (r : Env) → IsWithin vars r → r ≡ cut vars r
cut_all vars r w i q = (by_cases (is_among vars q) (λ t. ap (λ b. if b then r q else V.Null) (sym t)) (λ f. w q f ∙ ap (λ b. if b then r q else V.Null) (sym f))) i

within_same : (xs ys : List Var) → IsIn ys xs → (r : Env) → IsWithin ys r → IsWithin xs r
within_same xs ys f r w q e = w q (by_cases (is_among ys q) (λ t. absurd (no (sym (f q t) ∙ e))) (λ t. t))

-- the project of a plan's variables is the plan
pub project_all : (vars : List Var) (p : Plan) → Fit (P.Project vars p) → HaveSame vars (live p []) → Replaces p (P.Project vars p)
project_all vars p fit same =
    let top = out_Project vars p fit in
    let into : IsIn (live p []) vars = λ q e. same q ∙ e in
    let back : IsIn vars (live p []) = λ q e. sym (same q) ∙ e in
    let moved : IsPermutation vars (live p []) = set_permutation vars (live p []) top.no_twice (live_once p top.input) back into in
    record {
      refines = chains_refine [] (projecting vars ∷ []) p top.root top.input fit (subst (λ (vs : List Var). IsPermutation vs (live p [])) (sym (live-Project vars p [])) moved)
          (λ r w. ap (λ (s : Env). s ∷ []) (cut_all vars r (within_same vars (live p []) into r w)));
      makes_no_more = no_more-same _ _ (sym (makes-Project vars p));
    }
