-- Results, aggregates and orders over an input that is cut to what they use.
use Rattle.std.proofs.Common.{◌≡◌, List, [], ◌∷◌, ◌++◌, map, flat_map, refl, ap, sym, subst, ◌∙◌}
use Rattle.std.specs.List.{AllByRecursion}
use Rattle.std.specs.List.Sorted.{IsPermutation, IsSorted}
use Rattle.al_plan.specs.declared.expr.Var.{Var}
use Rattle.al_plan.specs.declared.expr.Expr.{Expr}
use Rattle.al_plan.specs.declared.plan.AggCall.{AggCall}
use Rattle.al_plan.specs.declared.plan.OrderKey.{OrderKey}
use Rattle.al_plan.specs.declared.plan.Plan.{Plan}
use Rattle.al_plan.specs.declared.plan.Plan.TheVariants as P
use Rattle.al_plan.specs.Eval.{Bytes, Env, bind}
use Rattle.al_plan.specs.Names.{names, agg_exprs}
use Rattle.al_plan.specs.Allows.{live, cut, agg_row, keys_cmp}
use Rattle.al_plan.specs.Refines.{Fit, NoTwice, AreOver, AreAmong, AreLive, Replaces}
use Rattle.al_plan.proofs.Makes.{among_of}
use Rattle.al_plan.proofs.Moves.{IsPermutation-lift}
use Rattle.al_plan.proofs.PlanLaws.{allows_Result, from_Result, allows_Aggregate, from_Aggregate, allows_Order, from_Order, allows_Project, from_Project, live-Result, live-Aggregate, live-Order, live-Project, result-Project, result-Order}
use Rattle.al_rule.proofs.FitLaws.{out_Result, in_Result, out_Aggregate, in_Aggregate, out_Order, in_Order, out_Project, in_Project}
use Rattle.al_rules_prune.specs.Prunes.{kept, narrowed, read_by, read_by_aggregates}
use Rattle.al_rules_prune.specs.Kept.{IsIn, are_live, are_kept, fit_narrowed, in_left, in_right, reads_kept}
use Rattle.al_rules_prune.specs.RowMaps.{Keeps, keeps_cut, aggs-kept, sorted-kept}
use Rattle.al_rules_prune.specs.Chained.{cut_cut}
use Rattle.al_rules_prune.specs.Kin.{kin_replaces, kin_narrowed, kin-Result, kin-Aggregate, kin-Order, kin-Project}

pub cuts_cut : (vars more : List Var) (rows : List Env) → IsIn vars more → map (cut vars) (map (cut more) rows) ≡ map (cut vars) rows
cuts_cut vars more [] h = refl
cuts_cut vars more (r ∷ rows) h = λ i. cut_cut vars more r h i ∷ cuts_cut vars more rows h i

-- ---- results

pub result_project : (vars : List Var) (p : Plan) → Fit (P.Result vars p) → Replaces (P.Result vars (narrowed vars p)) (P.Result vars p)
result_project vars p fit =
    let rest = kept vars p in
    let top = out_Result vars p fit in
    let into : IsIn vars rest = λ q h. are_kept vars p q h (among_of (live p []) vars top.listed q h) in
    let whole = in_Result vars (narrowed vars p) (record { input = fit_narrowed vars p top.input top.root; root = result-Project rest p; listed = subst (λ (vs : List Var). AreLive vs vars) (sym (live-Project rest p [])) (are_live rest vars into); no_twice = top.no_twice; thin = top.thin }) in
    kin_replaces (P.Result vars (narrowed vars p)) (P.Result vars p) fit whole (live-Result vars (narrowed vars p) [] ∙ sym (live-Result vars p [])) (kin-Result vars (narrowed vars p) p (kin_narrowed vars p top.root)) (λ b sets rows fills k.
    let o = from_Result vars (narrowed vars p) b sets [] [] rows k in
    let i = from_Project rest p b sets [] [] o.0 o.1 in
    allows_Result vars p b sets [] [] rows (i.0, i.1, o.2 ∙ ap (map (cut vars)) i.2 ∙ cuts_cut vars rest i.0 into))

-- ---- aggregates

exprs_over : (vars : List Var) (p : Plan) (es : List Expr) → IsIn (flat_map read_by es) vars → AreOver (live p []) es → AreOver (kept vars p) es
exprs_over vars p [] h g = tt
exprs_over vars p (e ∷ es) h g =
    (record { reads = reads_kept vars p (names e) (λ q k. h q (in_left (read_by e) (flat_map read_by es) q k)) g.0.reads; arities = g.0.arities }, exprs_over vars p es (λ q k. h q (in_right (read_by e) (flat_map read_by es) q k)) g.1)

aggs_over : (vars : List Var) (p : Plan) (made : List (Var × AggCall)) → IsIn (read_by_aggregates made) vars → AllByRecursion (λ m. AreOver (live p []) (agg_exprs m.1)) made → AllByRecursion (λ m. AreOver (kept vars p) (agg_exprs m.1)) made
aggs_over vars p [] h g = tt
aggs_over vars p (m ∷ made) h g =
    (exprs_over vars p (agg_exprs m.1) (λ q k. h q (in_left (flat_map read_by (agg_exprs m.1)) (read_by_aggregates made) q k)) g.0, aggs_over vars p made (λ q k. h q (in_right (flat_map read_by (agg_exprs m.1)) (read_by_aggregates made) q k)) g.1)

keeps_both : (f : Env → Env) (xs ys : List Bytes) → Keeps f xs → Keeps f ys → Keeps f (xs ++ ys)
keeps_both f [] ys h g = g
keeps_both f (x ∷ xs) ys h g = (h.0, keeps_both f xs ys h.1 g)

keeps_exprs : (vars : List Var) (es : List Expr) → AreOver vars es → Keeps (cut vars) (flat_map names es)
keeps_exprs vars [] h = tt
keeps_exprs vars (e ∷ es) h = keeps_both (cut vars) (names e) (flat_map names es) (keeps_cut vars (names e) h.0.reads) (keeps_exprs vars es h.1)

keeps_aggs : (vars : List Var) (made : List (Var × AggCall)) → AllByRecursion (λ m. AreOver vars (agg_exprs m.1)) made → Keeps (cut vars) (flat_map (λ m. flat_map names (agg_exprs m.1)) made)
keeps_aggs vars [] h = tt
keeps_aggs vars (m ∷ made) h = keeps_both (cut vars) (flat_map names (agg_exprs m.1)) (flat_map (λ m. flat_map names (agg_exprs m.1)) made) (keeps_exprs vars (agg_exprs m.1) h.0) (keeps_aggs vars made h.1)

pub aggregate_project : (made : List (Var × AggCall)) (p : Plan) → Fit (P.Aggregate made p) → Replaces (P.Aggregate made (narrowed (read_by_aggregates made) p)) (P.Aggregate made p)
aggregate_project made p fit =
    let vars = read_by_aggregates made in
    let rest = kept vars p in
    let top = out_Aggregate made p fit in
    let over = aggs_over vars p made (λ q h. h) top.over in
    let keeps = keeps_aggs rest made over in
    let kin = kin_narrowed vars p top.root in
    let whole = in_Aggregate made (narrowed vars p) (record { input = fit_narrowed vars p top.input top.root; root = result-Project rest p; over = subst (λ (vs : List Var). AllByRecursion (λ m. AreOver vs (agg_exprs m.1)) made) (sym (live-Project rest p [])) over; thin = top.thin; once = subst (λ (vs : List Var). NoTwice (vs ++ map (λ m. m.0) made)) (sym kin.made) top.once }) in
    kin_replaces (P.Aggregate made (narrowed vars p)) (P.Aggregate made p) fit whole (live-Aggregate made (narrowed vars p) [] ∙ sym (live-Aggregate made p [])) (kin-Aggregate made (narrowed vars p) p kin) (λ b sets rows fills k.
    let o = from_Aggregate made (narrowed vars p) b sets [] [] rows k in
    let i = from_Project rest p b sets [] [] o.0 o.1 in
    allows_Aggregate made p b sets [] [] rows (i.0, i.1, o.2 ∙ ap (λ (zs : List Env). agg_row made zs ∷ []) i.2 ∙ ap (λ vs. bind (map (λ m. m.0) made) vs ∷ []) (aggs-kept (cut rest) made i.0 keeps)))

-- ---- projects over orders

keys_live : (vars : List Var) (p : Plan) (keys : List OrderKey) → IsIn (map (λ k. k.var) keys) vars → AreLive (live p []) (map (λ k. k.var) keys) → AreLive (kept vars p) (map (λ k. k.var) keys)
keys_live vars p keys h g = are_live (kept vars p) (map (λ k. k.var) keys) (λ q k. are_kept vars p q (h q k) (among_of (live p []) (map (λ k. k.var) keys) g q k))

keeps_keys : (vars : List Var) (keys : List OrderKey) → AreLive vars (map (λ k. k.var) keys) → Keeps (cut vars) (map (λ k. k.var.name) keys)
keeps_keys vars keys h = keeps_cut vars (map (λ k. k.var.name) keys) (by_names keys h)
  where
    by_names : (keys : List OrderKey) → AreLive vars (map (λ k. k.var) keys) → AreAmong vars (map (λ k. k.var.name) keys)
    by_names [] h = tt
    by_names (k ∷ keys) h = (h.0, by_names keys h.1)

pub project_below_order : (vars : List Var) (keys : List OrderKey) (p : Plan) → Fit (P.Project vars (P.Order keys p)) → Replaces (P.Project vars (P.Order keys (narrowed (vars ++ map (λ k. k.var) keys) p))) (P.Project vars (P.Order keys p))
project_below_order vars keys p fit =
    let all = vars ++ map (λ (k : OrderKey). k.var) keys in
    let rest = kept all p in
    let top = out_Project vars (P.Order keys p) fit in
    let below = out_Order keys p top.input in
    let listed = keys_live all p keys (in_right vars (map (λ k. k.var) keys)) below.listed in
    let keeps = keeps_keys rest keys listed in
    let kin = kin_narrowed all p below.root in
    let inner = in_Order keys (narrowed all p) (record { input = fit_narrowed all p below.input below.root; root = result-Project rest p; listed = subst (λ (vs : List Var). AreLive vs (map (λ k. k.var) keys)) (sym (live-Project rest p [])) listed }) in
    let seen : AreLive (live p []) vars = subst (λ (vs : List Var). AreLive vs vars) (live-Order keys p []) top.listed in
    let into : IsIn vars rest = λ q h. are_kept all p q (in_left vars (map (λ k. k.var) keys) q h) (among_of (live p []) vars seen q h) in
    let vars_are : live (P.Order keys (narrowed all p)) [] ≡ rest = live-Order keys (narrowed all p) [] ∙ live-Project rest p [] in
    let whole = in_Project vars (P.Order keys (narrowed all p)) (record { input = inner; root = result-Order keys (narrowed all p); listed = subst (λ (vs : List Var). AreLive vs vars) (sym vars_are) (are_live rest vars into); no_twice = top.no_twice; thin = top.thin }) in
    kin_replaces (P.Project vars (P.Order keys (narrowed all p))) (P.Project vars (P.Order keys p)) fit whole (live-Project vars (P.Order keys (narrowed all p)) [] ∙ sym (live-Project vars (P.Order keys p) [])) (kin-Project vars (P.Order keys (narrowed all p)) (P.Order keys p) (kin-Order keys (narrowed all p) p kin)) (λ b sets rows fills k.
    let o = from_Project vars (P.Order keys (narrowed all p)) b sets [] [] rows k in
    let i = from_Order keys (narrowed all p) b sets [] [] o.0 o.1 in
    let u = from_Project rest p b sets [] [] i.0 i.1 in
    let lifted = IsPermutation-lift (cut rest) u.0 o.0 (subst (λ (zs : List Env). IsPermutation zs o.0) u.2 i.2.0) in
    let sorted = sorted-kept (cut rest) keys lifted.0 keeps (subst (IsSorted (keys_cmp keys)) lifted.2 i.2.1) in
    allows_Project vars (P.Order keys p) b sets [] [] rows (lifted.0, allows_Order keys p b sets [] [] lifted.0 (u.0, u.1, (lifted.1, sorted)), o.2 ∙ ap (map (cut vars)) lifted.2 ∙ cuts_cut vars rest lifted.0 into))
