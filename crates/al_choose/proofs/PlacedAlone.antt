-- With one partition no operator moves rows.
use Rattle.std.proofs.Common.{◌≡◌, ℕ, Bool, true, false, List, [], ◌∷◌, ◌++◌, refl, ap, sym, subst, ◌∙◌}
use Rattle.std.specs.List.{AllByRecursion}
use Rattle.al_plan.specs.declared.expr.Expr.{Expr}
use Rattle.al_plan.specs.declared.plan.Plan.{Plan, map-Plan, roll-Plan, ind-Plan}
use Rattle.al_plan.specs.declared.plan.Plan.TheOpen as L
use Rattle.al_phys.specs.declared.property.Need.TheVariants as N
use Rattle.al_phys.specs.declared.phys.Phys.{Phys, out-Phys}
use Rattle.al_phys.specs.declared.phys.Phys.TheVariants as Q
use Rattle.al_phys.specs.declared.phys.Phys.TheOpen as Open
use Rattle.al_phys.specs.Operators.{phys_live, operators}
use Rattle.al_phys.specs.Properties.{equi_keys, old_of}
use Rattle.al_phys.specs.Placed.{ascending}
use Rattle.al_phys.proofs.OperatorLaws.{pout-Scan, pout-One, pout-Assign, pout-Select, pout-Project, pout-Unnest, pout-Subplan, pout-Check, pout-Join, pout-HashGroup, pout-PreGroup, pout-HashDistinct, pout-AggPart, pout-AggFinal, pout-Union, pout-Sort, pout-Limit, pout-Result}
use Rattle.al_phys.proofs.OperatorLaws.{poperators-Scan, poperators-One, poperators-Assign, poperators-Select, poperators-Project, poperators-Unnest, poperators-Subplan, poperators-Check, poperators-Join, poperators-HashGroup, poperators-PreGroup, poperators-HashDistinct, poperators-AggPart, poperators-AggFinal, poperators-Union, poperators-Sort, poperators-Limit, poperators-Result}
use Rattle.al_phys.proofs.FlowLaws.{all_both}
use Rattle.al_choose.specs.Chosen.{chosen, moves, moves_step, join_form, join_over}
use Rattle.al_choose.proofs.ChosenLaws.{ChosenLayer, chosen-roll}
use Rattle.al_choose.proofs.LiveOf.{group_cases}

abbrev Stays : Phys → Type 0
Stays q = moves q ≡ false

abbrev AllStay : Phys → Type 0
AllStay q = AllByRecursion Stays (operators q)

stays_at : (q : Phys) (x : Open.Phys-F Phys) → out-Phys q ≡ x → moves_step x ≡ false → Stays q
unfolding moves
stays_at q x e h = ap moves_step e ∙ h

alone : (r : Phys) → operators r ≡ r ∷ [] → Stays r → AllStay r
alone r e h = subst (AllByRecursion Stays) (sym e) (h, tt)

over : (r q : Phys) → operators r ≡ r ∷ operators q → Stays r → AllStay q → AllStay r
over r q e h all = subst (AllByRecursion Stays) (sym e) (h, all)

over_two : (r p q : Phys) → operators r ≡ r ∷ (operators p ++ operators q) → Stays r → AllStay p → AllStay q → AllStay r
over_two r p q e h all more = subst (AllByRecursion Stays) (sym e) (h, all_both Stays (operators p) (operators q) all more)

join_stays : (outer : Bool) (c : Expr) (l r : Phys) → AllStay l → AllStay r → AllStay (join_over 1 outer c l r)
join_stays outer c l r h g =
    let form = join_form outer (equi_keys (phys_live l) (phys_live r) c) in
    over_two (Q.Join form c l r) l r (poperators-Join form c l r) (stays_at _ _ (pout-Join form c l r) refl) h g

module _ {S : Type 0} (up : S → Plan) (ih : (s : S) → AllStay (chosen 1 (up s))) where
  step_stays : (y : L.Plan-F S) → AllStay (ChosenLayer 1 (map-Plan S Plan up y))
  step_stays (L.Scan set vars) = alone (Q.Scan set vars) (poperators-Scan set vars) (stays_at _ _ (pout-Scan set vars) refl)
  step_stays L.Empty = alone Q.One poperators-One (stays_at _ _ pout-One refl)
  step_stays L.Nested = alone Q.One poperators-One (stays_at _ _ pout-One refl)
  step_stays (L.Assign made s) = let q = chosen 1 (up s) in over (Q.Assign made q) q (poperators-Assign made q) (stays_at _ _ (pout-Assign made q) refl) (ih s)
  step_stays (L.Select c s) = let q = chosen 1 (up s) in over (Q.Select c q) q (poperators-Select c q) (stays_at _ _ (pout-Select c q) refl) (ih s)
  step_stays (L.Project vars s) = let q = chosen 1 (up s) in over (Q.Project vars q) q (poperators-Project vars q) (stays_at _ _ (pout-Project vars q) refl) (ih s)
  step_stays (L.Unnest v its s) = let q = chosen 1 (up s) in over (Q.Unnest v its q) q (poperators-Unnest v its q) (stays_at _ _ (pout-Unnest v its q) refl) (ih s)
  step_stays (L.Subplan m s) = let q = chosen 1 (up s) in over (Q.Subplan (up m) q) q (poperators-Subplan (up m) q) (stays_at _ _ (pout-Subplan (up m) q) refl) (ih s)
  step_stays (L.Join c l r) = join_stays false c (chosen 1 (up l)) (chosen 1 (up r)) (ih l) (ih r)
  step_stays (L.LeftJoin c l r) = join_stays true c (chosen 1 (up l)) (chosen 1 (up r)) (ih l) (ih r)
  step_stays (L.Group keys m s) =
      let q = chosen 1 (up s) in
      let sort = Q.Sort (ascending keys) q in
      group_cases keys (up m) q AllStay (over (Q.PreGroup keys (up m) q) q (poperators-PreGroup keys (up m) q) (stays_at _ _ (pout-PreGroup keys (up m) q) refl) (ih s))
      (over (Q.HashGroup keys (up m) q) q (poperators-HashGroup keys (up m) q) (stays_at _ _ (pout-HashGroup keys (up m) q) refl) (ih s))
      (over (Q.PreGroup keys (up m) sort) sort (poperators-PreGroup keys (up m) sort) (stays_at _ _ (pout-PreGroup keys (up m) sort) refl) (over sort q (poperators-Sort (ascending keys) q) (stays_at _ _ (pout-Sort (ascending keys) q) refl) (ih s)))
  step_stays (L.Distinct s) = let q = chosen 1 (up s) in over (Q.HashDistinct q) q (poperators-HashDistinct q) (stays_at _ _ (pout-HashDistinct q) refl) (ih s)
  step_stays (L.Union made ls rs l r) =
      let p = chosen 1 (up l) in
      let q = chosen 1 (up r) in
      over_two (Q.Union made ls rs p q) p q (poperators-Union made ls rs p q) (stays_at _ _ (pout-Union made ls rs p q) refl) (ih l) (ih r)
  step_stays (L.Aggregate made s) =
      let q = chosen 1 (up s) in
      let part = Q.AggPart made q in
      over (Q.AggFinal made part) part (poperators-AggFinal made part) (stays_at _ _ (pout-AggFinal made part) refl) (over part q (poperators-AggPart made q) (stays_at _ _ (pout-AggPart made q) refl) (ih s))
  step_stays (L.Order keys s) = let q = chosen 1 (up s) in over (Q.Sort keys q) q (poperators-Sort keys q) (stays_at _ _ (pout-Sort keys q) refl) (ih s)
  step_stays (L.Limit m k s) = let q = chosen 1 (up s) in over (Q.Limit m k q) q (poperators-Limit m k q) (stays_at _ _ (pout-Limit m k q) refl) (ih s)
  step_stays (L.Check own c s) = let q = chosen 1 (up s) in over (Q.Check own c q) q (poperators-Check own c q) (stays_at _ _ (pout-Check own c q) refl) (ih s)
  step_stays (L.Result vars s) = let q = chosen 1 (up s) in over (Q.Result vars q) q (poperators-Result vars q) (stays_at _ _ (pout-Result vars q) refl) (ih s)

layer_stays : {S : Type 0} (up : S → Plan) → ((s : S) → AllStay (chosen 1 (up s))) → (y : L.Plan-F S) → AllStay (chosen 1 (roll-Plan (map-Plan S Plan up y)))
layer_stays {S} up ih y = subst AllStay (sym (chosen-roll 1 (map-Plan S Plan up y))) (step_stays up ih y)

all_stay : (p : Plan) → AllStay (chosen 1 p)
all_stay = ind-Plan (λ p. AllStay (chosen 1 p)) (λ x y e. subst (λ (z : L.Plan-F Plan). AllStay (chosen 1 (roll-Plan z))) e (layer_stays (λ s. s.0) (λ s. s.1) y))

pub stays : (n : ℕ) (p : Plan) → n ≡ 1 → AllByRecursion (λ q. moves q ≡ false) (operators (chosen n p))
stays n p e = subst (λ (m : ℕ). AllByRecursion (λ q. moves q ≡ false) (operators (chosen m p))) (sym e) (all_stay p)
