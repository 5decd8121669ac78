-- The rules that drop distincts are sound.
use Rattle.std.proofs.Common.{◌≡◌, ◌≢◌, Bool, false, List, [], ◌∷◌, map, sym, subst, ◌∙◌}
use Rattle.std.specs.List.{AllPairs}
use Rattle.std.proofs.lemmas.List.Elements.{All-contains_itself}
use Rattle.al_plan.specs.declared.plan.Plan.{Plan}
use Rattle.al_plan.specs.declared.plan.Plan.TheVariants as P
use Rattle.al_plan.specs.Eval.{Env}
use Rattle.al_plan.specs.Allows.{Sets, Allows, ordered, agg_row}
use Rattle.al_plan.specs.Refines.{Fit, Replaces, makes}
use Rattle.al_plan.proofs.Makes.{twice_right}
use Rattle.al_plan.proofs.Moves.{pairs_from_apart}
use Rattle.al_plan.proofs.PlanLaws.{allows_Distinct, from_Distinct, from_Aggregate, live-Distinct, ordered-Distinct, scans-Distinct, makes-Distinct, result-Distinct, faults-Distinct, ordered-Group, ordered-Aggregate}
use Rattle.al_rule.proofs.Alike.{Alike, alike_replaces}
use Rattle.al_rule.proofs.FitLaws.{out_Distinct, out_Group}
use Rattle.al_rules_group.specs.GroupRules.{DistinctOverDistinct, DistinctOverGroup, DistinctOverAggregate}
use Rattle.al_rules_group.specs.Differing.{group_once}

-- a plan that isn't ordered and allows no row twice may stand in the place of a distinct over it
without_distinct : (q : Plan) → ordered q ≡ false → (Fit q → (b : Bool) (sets : Sets) (rows : List Env) → Allows q b sets [] [] rows → AllPairs ◌≢◌ rows) → Fit (P.Distinct q) → Replaces q (P.Distinct q)
without_distinct q free once fit =
    let h = out_Distinct q fit in
    let like : Alike q (P.Distinct q) = record {
      vars = sym (live-Distinct q []);
      order = free ∙ sym (ordered-Distinct q);
      scanned = sym (scans-Distinct q);
      made = sym (makes-Distinct q);
      root = h.root ∙ sym (result-Distinct q);
      faults = λ sets name. sym (faults-Distinct q sets [] [] name);
    } in
    alike_replaces q (P.Distinct q) fit h.input like (λ b sets rows fills k. allows_Distinct q b sets [] [] rows (rows, k, record { within = All-contains_itself rows; all = All-contains_itself rows; once = once h.input b sets rows k }))

in_place : (p q x y : Plan) → p ≡ x → q ≡ y → Fit p → (Fit x → Replaces y x) → Replaces q p
in_place p q x y at to fit h = subst (λ (z : Plan). Replaces z p) (sym to) (subst (Replaces y) (sym at) (h (subst Fit at fit)))

pub distinct_over_distinct : (p q : Plan) → Fit p → DistinctOverDistinct p q → Replaces q p
distinct_over_distinct p q fit (x, at, to) =
    in_place p q (P.Distinct (P.Distinct x)) (P.Distinct x) at to fit (without_distinct (P.Distinct x) (ordered-Distinct x) (λ f b sets rows k. (from_Distinct x b sets [] [] rows k).2.once))

pub distinct_over_group : (p q : Plan) → Fit p → DistinctOverGroup p q → Replaces q p
distinct_over_group p q fit (keys, n, x, at, to) =
    in_place p q (P.Distinct (P.Group keys n x)) (P.Group keys n x) at to fit (without_distinct (P.Group keys n x) (ordered-Group keys n x)
    (λ f. group_once keys n x (twice_right (makes n) (map (λ k. k.0) keys) (twice_right (makes x) _ (out_Group keys n x f).once))))

one_row : (r : Env) → AllPairs ◌≢◌ (r ∷ [])
one_row r = pairs_from_apart ◌≢◌ (r ∷ []) (tt, tt)

pub distinct_over_aggregate : (p q : Plan) → Fit p → DistinctOverAggregate p q → Replaces q p
distinct_over_aggregate p q fit (made, x, at, to) =
    in_place p q (P.Distinct (P.Aggregate made x)) (P.Aggregate made x) at to fit (without_distinct (P.Aggregate made x) (ordered-Aggregate made x)
    (λ f b sets rows k. let o = from_Aggregate made x b sets [] [] rows k in subst (AllPairs ◌≢◌) (sym o.2) (one_row (agg_row made o.0))))
