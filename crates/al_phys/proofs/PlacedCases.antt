-- Small physical plans that are placed, and that are not.
use Rattle.std.proofs.Common.{◌≡◌, ◌<◌, ◌^◌, true, false, List, [], ◌∷◌, length, refl, ap, sym, subst, ◌∙◌, ⊎_elim, inr, arith}
use Rattle.std.specs.List.{AllByRecursion}
use Rattle.al_plan.specs.declared.expr.Var.{Var}
use Rattle.al_plan.specs.Eval.{Bytes}
use Rattle.al_plan.specs.Allows.{is_among}
use Rattle.al_plan.specs.Refines.{NoTwice, AtMost64}
use Rattle.al_plan.proofs.Bools.{no}
use Rattle.al_plan.proofs.Makes.{at_head}
use Rattle.al_phys.specs.declared.phys.Phys.{Phys}
use Rattle.al_phys.specs.declared.phys.Phys.TheVariants as Q
use Rattle.al_phys.specs.declared.phys.Phys.TheOpen as L
use Rattle.al_phys.specs.declared.property.Need.TheVariants as N
use Rattle.al_phys.specs.Operators.{phys_live, operators, is_exchange}
use Rattle.al_phys.specs.Properties.{is_unpartitioned, meets, parts_of}
use Rattle.al_phys.specs.Placed.{IsLaid, IsServed, IsExchange, IsWhole, Placed, laid_step, whole_step}
use Rattle.al_phys.proofs.OperatorLaws.{plive-Scan, plive-Gather, plive-Result, pmakes-Scan, pmakes-Gather, pmakes-Result, presult-Scan, pexchange-Scan, pexchange-Gather, poperators-Scan, poperators-Gather, poperators-Result}
use Rattle.al_phys.proofs.PropertyLaws.{spread-Scan, whole-Scan, whole-Gather, whole-Result, laid-Scan, laid-Gather, laid-Result}

back : (A B : Type 0) → A ≡ B → B → A
back A B e b = subst (λ (t : Type 0). t) (sym e) b

across : (A B : Type 0) → A ≡ B → A → B
across A B e a = subst (λ (t : Type 0). t) e a

module _ (set : Bytes) (v : Var) where
  abbrev vars : List Var
  vars = v ∷ []

  abbrev scan : Phys
  scan = Q.Scan set vars

  abbrev gather : Phys
  gather = Q.Gather scan

  abbrev whole : Phys
  whole = Q.Result vars gather

  -- a scan's rows are not all in the first of two parts
  unmet : meets (parts_of scan 2) N.One 2 ≡ false
  unmet = ap is_unpartitioned (spread-Scan set vars)

  lives : phys_live gather ≡ vars
  lives = plive-Gather scan ∙ plive-Scan set vars

  all : operators whole ≡ whole ∷ gather ∷ scan ∷ []
  all = poperators-Result vars gather ∙ ap (λ (ps : List Phys). whole ∷ ps) (poperators-Gather scan ∙ ap (λ (ps : List Phys). gather ∷ ps) (poperators-Scan set vars))

  served : IsServed 2 N.One gather
  served = (scan, inr (refl, unmet), back (IsWhole 2 scan) (whole_step 2 (L.Scan set vars)) (whole-Scan 2 set vars) tt, presult-Scan set vars)

  result_laid : IsLaid 2 whole
  result_laid =
      back (IsLaid 2 whole) (laid_step 2 (L.Result vars gather)) (laid-Result 2 vars gather)
      (served, (subst (λ (ls : List Var). is_among ls v.name ≡ true) (sym lives) (at_head v []), tt), (refl, tt))

  narrow_at : (q : Phys) → phys_live q ≡ vars → AtMost64 (phys_live q)
  narrow_at q e = subst AtMost64 (sym e) (omega arith)

  pub gather_placed : Placed whole 2
  gather_placed = record {
    whole = back (IsWhole 2 whole) (whole_step 2 (L.Result vars gather)) (whole-Result 2 vars gather) tt;
    each = subst (AllByRecursion (IsLaid 2)) (sym all) (result_laid, (back (IsLaid 2 gather) (laid_step 2 (L.Gather scan)) (laid-Gather 2 scan) tt, (back (IsLaid 2 scan) (laid_step 2 (L.Scan set vars)) (laid-Scan 2 set vars) tt, tt)));
    narrow = subst (AllByRecursion (λ (q : Phys). AtMost64 (phys_live q))) (sym all) (narrow_at whole (plive-Result vars gather), (narrow_at gather lives, (narrow_at scan (plive-Scan set vars), tt)));
    once = subst NoTwice (sym (pmakes-Result vars gather ∙ pmakes-Gather scan ∙ pmakes-Scan set vars)) (refl, tt);
    few = subst (λ (ps : List Phys). length ps < 2 ^ 19) (sym all) (omega arith);
  }

  pub gather_needed : Placed (Q.Result vars scan) 2 → ⊥
  gather_needed p =
      let each = subst (AllByRecursion (IsLaid 2)) (poperators-Result vars scan) p.each in
      let laid = across (IsLaid 2 (Q.Result vars scan)) (laid_step 2 (L.Result vars scan)) (laid-Result 2 vars scan) each.0 in
      ⊎_elim
      (λ (here : (scan ≡ laid.0.0) × (meets (parts_of laid.0.0 2) N.One 2 ≡ true)). no (sym (subst (λ (q : Phys). meets (parts_of q 2) N.One 2 ≡ true) (sym here.0) here.1) ∙ unmet))
      (λ (there : IsExchange N.One scan laid.0.0 × (meets (parts_of laid.0.0 2) N.One 2 ≡ false)). no (sym (sym (pexchange-Scan set vars) ∙ ap is_exchange there.0 ∙ pexchange-Gather laid.0.0)))
      laid.0.1

  pub gather_needless : Placed whole 1 → ⊥
  gather_needless p =
      let each = subst (AllByRecursion (IsLaid 1)) (poperators-Result vars gather) p.each in
      let laid = across (IsLaid 1 whole) (laid_step 1 (L.Result vars gather)) (laid-Result 1 vars gather) each.0 in
      ⊎_elim
      (λ (here : (gather ≡ laid.0.0) × (meets (parts_of laid.0.0 1) N.One 1 ≡ true)). across (IsWhole 1 gather) (whole_step 1 (L.Gather scan)) (whole-Gather 1 scan) (subst (IsWhole 1) (sym here.0) laid.0.2))
      (λ (there : IsExchange N.One gather laid.0.0 × (meets (parts_of laid.0.0 1) N.One 1 ≡ false)). no there.1)
      laid.0.1
