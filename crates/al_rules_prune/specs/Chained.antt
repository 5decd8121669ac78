-- The rules of pruning that rewrite chains of projects, assigns and selects.
use Rattle.std.proofs.Common.{◌≡◌, Bool, true, false, cond, ◌&&◌, List, [], ◌∷◌, ◌++◌, map, filter, flat_map, length-append, refl, ap, sym, subst, ◌∙◌, arith}
use Rattle.std.specs.Prelude.{◌||◌, nat_eq, if◌then◌else◌}
use Rattle.std.specs.Cmp.Lexicographic.{pointwise, same_text}
use Rattle.std.proofs.lemmas.List.{length-map}
use Rattle.al_value.specs.declared.value.Value.TheVariants as V
use Rattle.al_plan.specs.declared.expr.Var.{Var}
use Rattle.al_plan.specs.declared.expr.Expr.{Expr}
use Rattle.al_plan.specs.declared.plan.Plan.{Plan}
use Rattle.al_plan.specs.declared.plan.Plan.TheVariants as P
use Rattle.al_plan.specs.Eval.{Bytes, Env, bind, eval, holds}
use Rattle.al_plan.specs.Names.{names}
use Rattle.al_plan.specs.Allows.{live, is_among, cut, assigned}
use Rattle.al_plan.specs.Refines.{makes, Fit, NoTwice, AreLive, AreAmong, AreOver, AtMost64, IsNoMore, Replaces}
use Rattle.al_plan.proofs.Bools.{no, by_cases}
use Rattle.al_plan.proofs.Makes.{among_of, twice_fewer, twice_left, twice_right, no_more-refl, no_more-append, no_more-same}
use Rattle.al_plan.proofs.Within.{is_among-append, not_left as left_none}
use Rattle.al_plan.proofs.RowLaws.{map-filter}
use Rattle.al_plan.proofs.PlanLaws.{live-Project, live-Select, live-Assign, makes-Project, makes-Select, makes-Assign, result-Project, result-Select, result-Assign}
use Rattle.al_rule.specs.Chains.{projecting, selecting, assigning, row_of}
use Rattle.al_rule.proofs.Alike.{same_lists}
use Rattle.al_rule.proofs.Chains.{chains_refine}
use Rattle.al_rule.proofs.FitLaws.{out_Project, in_Project, out_Select, in_Select, out_Assign, in_Assign}
use Rattle.al_rule.proofs.RuleFit.{holds-cut}
use Rattle.al_rules_prune.specs.Prunes.{kept, narrowed, read_by, bindings, assigned_over}
use Rattle.al_rules_prune.specs.Kept.{IsIn, among_filter, no_twice_filter, length_filter, are_live, are_kept, fit_narrowed, in_left, in_right, among_append, reads_kept}

-- a row cut twice is cut once
pub cut_cut : (vars more : List Var) (r : Env) → IsIn vars more → cut vars (cut more r) ≡ cut vars r
cut_cut vars more r h i q = by_cases (is_among vars q)
    (λ e. ap (λ b. if b then cut more r q else V.Null) e ∙ ap (λ b. if b then r q else V.Null) (h q e) ∙ sym (ap (λ b. if b then r q else V.Null) e))
    (λ e. ap (λ b. if b then cut more r q else V.Null) e ∙ sym (ap (λ b. if b then r q else V.Null) e)) i

pub project_over_project : (vars inner : List Var) (p : Plan) → Fit (P.Project vars (P.Project inner p)) → Replaces (P.Project vars p) (P.Project vars (P.Project inner p))
project_over_project vars inner p fit =
    let top = out_Project vars (P.Project inner p) fit in
    let below = out_Project inner p top.input in
    let listed : AreLive inner vars = subst (λ (vs : List Var). AreLive vs vars) (live-Project inner p []) top.listed in
    let into : IsIn vars inner = among_of inner vars listed in
    let whole = in_Project vars p (record { input = below.input; root = below.root; listed = are_live (live p []) vars (λ q e. among_of (live p []) inner below.listed q (into q e)); no_twice = top.no_twice; thin = top.thin }) in
    record {
      refines = chains_refine (projecting vars ∷ []) (projecting vars ∷ projecting inner ∷ []) p below.root whole fit (same_lists _ _ (live-Project vars (P.Project inner p) [] ∙ sym (live-Project vars p [])))
          (λ r w. ap (λ (s : Env). s ∷ []) (sym (cut_cut vars inner r into)));
      makes_no_more = no_more-same _ _ (makes-Project vars p ∙ sym (makes-Project vars (P.Project inner p) ∙ makes-Project inner p));
    }

-- ---- a project below a select

selected_alike : (f : Env → List Env) (r s : Env) (t u : Bool) → t ≡ u → f s ≡ f r → flat_map f (cond t (s ∷ []) [] ++ []) ≡ flat_map f (cond u (r ∷ []) [] ++ [])
selected_alike f r s t true e h = ap (λ b. flat_map f (cond b (s ∷ []) [] ++ [])) e ∙ ap (λ zs. zs ++ []) h
selected_alike f r s t false e h = ap (λ b. flat_map f (cond b (s ∷ []) [] ++ [])) e

pub project_below_select : (vars : List Var) (e : Expr) (p : Plan) → Fit (P.Project vars (P.Select e p)) → Replaces (P.Project vars (P.Select e (narrowed (vars ++ read_by e) p))) (P.Project vars (P.Select e p))
project_below_select vars e p fit =
    let all = vars ++ read_by e in
    let rest = kept all p in
    let top = out_Project vars (P.Select e p) fit in
    let below = out_Select e p top.input in
    let cut_fits = fit_narrowed all p below.input below.root in
    let reads : AreAmong rest (names e) = reads_kept all p (names e) (λ q h. in_right vars (read_by e) q h) below.over.reads in
    let selected = in_Select e (narrowed all p) (record { input = cut_fits; root = result-Project rest p; over = record { reads = subst (λ (vs : List Var). AreAmong vs (names e)) (sym (live-Project rest p [])) reads; arities = below.over.arities } }) in
    let listed : AreLive (live p []) vars = subst (λ (vs : List Var). AreLive vs vars) (live-Select e p []) top.listed in
    let into : IsIn vars rest = λ q h. are_kept all p q (in_left vars (read_by e) q h) (among_of (live p []) vars listed q h) in
    let vars_are : live (P.Select e (narrowed all p)) [] ≡ rest = live-Select e (narrowed all p) [] ∙ live-Project rest p [] in
    let whole = in_Project vars (P.Select e (narrowed all p)) (record { input = selected; root = result-Select e (narrowed all p); listed = subst (λ (vs : List Var). AreLive vs vars) (sym vars_are) (are_live rest vars into); no_twice = top.no_twice; thin = top.thin }) in
    record {
      refines = chains_refine (projecting vars ∷ selecting e ∷ projecting rest ∷ []) (projecting vars ∷ selecting e ∷ []) p below.root whole fit (same_lists _ _ (live-Project vars (P.Select e p) [] ∙ sym (live-Project vars (P.Select e (narrowed all p)) [])))
          (λ r w. selected_alike (row_of (projecting vars)) r (cut rest r) (holds e (cut rest r)) (holds e r) (holds-cut e rest r reads) (ap (λ (s : Env). s ∷ []) (cut_cut vars rest r into)));
      makes_no_more = no_more-same _ _ (makes-Project vars _ ∙ makes-Select e (narrowed all p) ∙ makes-Project rest p ∙ sym (makes-Project vars (P.Select e p) ∙ makes-Select e p));
    }

-- ---- an assign below a project

abbrev variables : List (Var × Expr) → List Var
variables made = map (λ m. m.0) made

-- the value of a variable in a row with new ones; they are computed from another row
abbrev value_at : Env → List (Var × Expr) → Env → Env
value_at s made r q = if is_among (variables made) q then bind (variables made) (map (λ m. eval m.1 s) made) q else r q

same_value : (vars : List Var) (made : List (Var × Expr)) (s r : Env) (q : Bytes) → is_among vars q ≡ true → value_at s (bindings vars made) r q ≡ value_at s made r q
unfolding bind
same_value vars [] s r q e = refl
same_value vars (m ∷ made) s r q e = go (is_among vars m.0.name) refl (pointwise nat_eq m.0.name q) refl (same_value vars made s r q e)
  where
    go : (k : Bool) → is_among vars m.0.name ≡ k → (t : Bool) → pointwise nat_eq m.0.name q ≡ t → value_at s (bindings vars made) r q ≡ value_at s made r q
        → value_at s (cond k (m ∷ bindings vars made) (bindings vars made)) r q ≡ value_at s (m ∷ made) r q
    go true a true d more = ap (λ t. if (t || is_among (variables (bindings vars made)) q) then (if t then eval m.1 s else bind (variables (bindings vars made)) (map (λ m. eval m.1 s) (bindings vars made)) q) else r q) d
        ∙ sym (ap (λ t. if (t || is_among (variables made) q) then (if t then eval m.1 s else bind (variables made) (map (λ m. eval m.1 s) made) q) else r q) d)
    go true a false d more = ap (λ t. if (t || is_among (variables (bindings vars made)) q) then (if t then eval m.1 s else bind (variables (bindings vars made)) (map (λ m. eval m.1 s) (bindings vars made)) q) else r q) d
        ∙ more ∙ sym (ap (λ t. if (t || is_among (variables made) q) then (if t then eval m.1 s else bind (variables made) (map (λ m. eval m.1 s) made) q) else r q) d)
    go false a true d more = absurd (no (sym e ∙ ap (is_among vars) (sym (same_text m.0.name q (sym d))) ∙ a))
    go false a false d more = more ∙ sym (ap (λ t. if (t || is_among (variables made) q) then (if t then eval m.1 s else bind (variables made) (map (λ m. eval m.1 s) made) q) else r q) d)

variables_kept : (vars : List Var) (made : List (Var × Expr)) → variables (bindings vars made) ≡ filter (λ v. is_among vars v.name) (variables made)
variables_kept vars made = map-filter (λ m. m.0) (λ v. is_among vars v.name) made

over_kept : (vars given : List Var) (made : List (Var × Expr)) → AreOver given (map (λ m. m.1) made) → AreOver given (map (λ m. m.1) (bindings vars made))
over_kept vars given [] h = tt
over_kept vars given (m ∷ made) h = go (is_among vars m.0.name) (over_kept vars given made h.1)
  where
    go : (k : Bool) → AreOver given (map (λ m. m.1) (bindings vars made)) → AreOver given (map (λ m. m.1) (cond k (m ∷ bindings vars made) (bindings vars made)))
    go true more = (h.0, more)
    go false more = more

fewer_made : (vars : List Var) (made : List (Var × Expr)) → IsNoMore (variables (bindings vars made)) (variables made)
fewer_made vars made q e = ap (λ vs. is_among vs q) (variables_kept vars made) ∙ among_filter (is_among vars) (variables made) q ∙ ap (λ b. is_among vars q && b) e ∙ none (is_among vars q)
  where
    none : (b : Bool) → (b && false) ≡ false
    none true = refl
    none false = refl

-- some of an assign's variables, from which a project makes the same rows
record Bound (vars : List Var) (made some : List (Var × Expr)) (p : Plan) : Type 0 where
  over : AreOver (live p []) (map (λ m. m.1) some)
  thin : AtMost64 (live p [] ++ variables some)
  once : NoTwice (makes p ++ variables some)
  listed : IsIn vars (live p [] ++ variables some)
  fewer : IsNoMore (variables some) (variables made)
  same : (r : Env) → cut vars (assigned some r) ≡ cut vars (assigned made r)

bound_kept : (vars : List Var) (made : List (Var × Expr)) (p : Plan) → Fit (P.Project vars (P.Assign made p)) → Bound vars made (bindings vars made) p
bound_kept vars made p fit =
    let top = out_Project vars (P.Assign made p) fit in
    let below = out_Assign made p top.input in
    let all : AreLive (live p [] ++ variables made) vars = subst (λ (vs : List Var). AreLive vs vars) (live-Assign made p []) top.listed in
    let few = length_filter (λ (m : Var × Expr). is_among vars m.0.name) made in
    let fewer = fewer_made vars made in record {
      over = over_kept vars (live p []) made below.over;
      thin = omega (arith, below.thin, few, length-append (live p []) (variables made), length-append (live p []) (variables (bindings vars made)), length-map made (λ (m : Var × Expr). m.0), length-map (bindings vars made) (λ (m : Var × Expr). m.0));
      once = twice_fewer (makes p) (variables (bindings vars made)) (makes p) (variables made) (twice_left (makes p) (variables made) below.once) (subst NoTwice (sym (variables_kept vars made)) (no_twice_filter (is_among vars) (variables made) (twice_right (makes p) (variables made) below.once))) (no_more-refl (makes p)) fewer below.once;
      listed = λ q e. among_append (live p []) (variables made) (live p []) (variables (bindings vars made)) q (among_of (live p [] ++ variables made) vars all q e) (λ t. t)
          (λ t. ap (λ vs. is_among vs q) (variables_kept vars made) ∙ among_filter (is_among vars) (variables made) q ∙ (λ i. e i && t i));
      fewer = fewer;
      same = λ r i q. by_cases (is_among vars q)
          (λ e. (λ j. if is_among vars q then same_value vars made r r q e j else V.Null))
          (λ e. ap (λ b. if b then assigned (bindings vars made) r q else V.Null) e ∙ sym (ap (λ b. if b then assigned made r q else V.Null) e)) i;
    }

without_assign : (vars : List Var) (made some : List (Var × Expr)) (p : Plan) → Fit (P.Project vars (P.Assign made p)) → Bound vars made some p → Replaces (P.Project vars (assigned_over some p)) (P.Project vars (P.Assign made p))
without_assign vars made [] p fit h =
    let top = out_Project vars (P.Assign made p) fit in
    let below = out_Assign made p top.input in
    let whole = in_Project vars p (record { input = below.input; root = below.root; listed = are_live (live p []) vars (λ q e. by_cases (is_among (live p []) q) (λ t. t) (λ t. absurd (no (sym (h.listed q e) ∙ is_among-append (live p []) [] q ∙ ap (λ b. b || false) t)))); no_twice = top.no_twice; thin = top.thin }) in
    record {
      refines = chains_refine (projecting vars ∷ []) (projecting vars ∷ assigning made ∷ []) p below.root whole fit (same_lists _ _ (live-Project vars (P.Assign made p) [] ∙ sym (live-Project vars p [])))
          (λ r w. ap (λ (s : Env). s ∷ []) (h.same r));
      makes_no_more = λ q e. ap (λ vs. is_among vs q) (makes-Project vars p) ∙ left_none (makes p) (variables made) q (sym (ap (λ vs. is_among vs q) (makes-Project vars (P.Assign made p) ∙ makes-Assign made p)) ∙ e);
    }
without_assign vars made (m ∷ some) p fit h =
    let top = out_Project vars (P.Assign made p) fit in
    let below = out_Assign made p top.input in
    let one = m ∷ some in
    let inner = in_Assign one p (record { input = below.input; root = below.root; over = h.over; thin = h.thin; once = h.once }) in
    let whole = in_Project vars (P.Assign one p) (record { input = inner; root = result-Assign one p; listed = subst (λ (vs : List Var). AreLive vs vars) (sym (live-Assign one p [])) (are_live (live p [] ++ variables one) vars h.listed); no_twice = top.no_twice; thin = top.thin }) in
    record {
      refines = chains_refine (projecting vars ∷ assigning one ∷ []) (projecting vars ∷ assigning made ∷ []) p below.root whole fit (same_lists _ _ (live-Project vars (P.Assign made p) [] ∙ sym (live-Project vars (P.Assign one p) [])))
          (λ r w. ap (λ (s : Env). s ∷ []) (h.same r));
      makes_no_more = λ q e. ap (λ vs. is_among vs q) (makes-Project vars (P.Assign one p) ∙ makes-Assign one p) ∙ no_more-append (makes p) (variables one) (makes p) (variables made) (no_more-refl (makes p)) h.fewer q (sym (ap (λ vs. is_among vs q) (makes-Project vars (P.Assign made p) ∙ makes-Assign made p)) ∙ e);
    }

pub assign_under_project : (vars : List Var) (made : List (Var × Expr)) (p : Plan) → Fit (P.Project vars (P.Assign made p)) → Replaces (P.Project vars (assigned_over (bindings vars made) p)) (P.Project vars (P.Assign made p))
assign_under_project vars made p fit = without_assign vars made (bindings vars made) p fit (bound_kept vars made p fit)
