-- Which physical plans stand for a scan and for an order, and which don't.
use Rattle.std.proofs.Common.{◌≡◌, ◌<◌, ℕ, zero, suc, ◌%◌, ◌+◌, nat_eq, Bool, true, false, None, List, [], ◌∷◌, ◌++◌, map, filter, refl, ap, sym, subst, ◌∙◌, arith, append-nil}
use Rattle.std.specs.List.{All, AllZip, Contains, enumerate_from}
use Rattle.std.specs.List.Sorted.{IsPermutation, IsSorted}
use Rattle.std.proofs.lemmas.List.Elements.{All-from_recursion}
use Rattle.std.proofs.lemmas.List.Sorted.{IsPermutation-refl, IsPermutation-trans, IsPermutation-cons, IsPermutation-middle, IsPermutation-map, IsPermutation-append_left, IsPermutation-append_right, IsPermutation-sym}
use Rattle.al_plan.specs.declared.plan.Plan.TheVariants as P
use Rattle.al_plan.specs.declared.plan.Plan.TheOpen as L
use Rattle.al_plan.specs.Eval.{Env, bind}
use Rattle.al_plan.specs.Allows.{Sets, Allows, keys_cmp}
use Rattle.al_plan.specs.Refines.{Scan, scans, result_of}
use Rattle.al_plan.proofs.PlanLaws.{allows_Scan, allows_Order, scans-Scan, scans-Order, ordered-Scan, ordered-Order, result-roll}
use Rattle.al_phys.specs.declared.phys.Phys.TheVariants as Q
use Rattle.al_phys.specs.Operators.{phys_scans}
use Rattle.al_phys.specs.Parts.{Parts, dealt, Interleaves}
use Rattle.al_phys.specs.PAllows.{PAllows}
use Rattle.al_phys.specs.Stands.{AreRowsOf}
use Rattle.al_phys.proofs.OperatorLaws.{pscans-Scan, pscans-Sort, pscans-Merge, presult-Scan, presult-Merge}
use Rattle.al_phys.proofs.PhysLaws.{pfrom_Scan, pfrom_Sort, pfrom_Merge, pfaults-Scan, pfaults-Sort, pfaults-Merge}
use Rattle.al_phys.proofs.PartLaws.{interleaves_permutation}
use Rattle.al_cases.specs.Cases.{t, a, scan_a, by_a}
use Rattle.al_phys_cases.specs.PartCases.{scan_of_a}
use Rattle.al_phys_cases.specs.StandCases.{ScanStands, MergeStands, ordered_plan, sorted_parts}
use Rattle.al_phys_cases.proofs.Two.{Both, both_of, zip_two}

-- ---- rows that are dealt to two partitions

abbrev Numbered : Type 0
Numbered = ℕ × Env

abbrev goes : ℕ → Numbered → Bool
goes j e = nat_eq (e.0 % 2) j

-- each number goes to one of the two
split : (es : List Numbered) → IsPermutation es (filter (goes 0) es ++ filter (goes 1) es)
split [] = IsPermutation-refl []
split (e ∷ es) = by_rest (e.0 % 2) refl (omega arith) (split es)
  where
    by_rest : (k : ℕ) → e.0 % 2 ≡ k → k < 2 → IsPermutation es (filter (goes 0) es ++ filter (goes 1) es) → IsPermutation (e ∷ es) (filter (goes 0) (e ∷ es) ++ filter (goes 1) (e ∷ es))
    by_rest zero h lt more = rw (h) (IsPermutation-cons e _ _ more)
    by_rest (suc zero) h lt more = rw (h) (IsPermutation-trans _ _ _ (IsPermutation-cons e _ _ more) (IsPermutation-sym _ _ (IsPermutation-middle (filter (goes 0) es) e (filter (goes 1) es))))
    by_rest (suc (suc k)) h lt more = absurd (omega (arith, lt))

numbered : (k : ℕ) (rows : List Env) → map (λ (e : Numbered). e.1) (enumerate_from k rows) ≡ rows
numbered k [] = refl
numbered k (r ∷ rows) = ap (λ (xs : List Env). r ∷ xs) (numbered (k + 1) rows)

map_both : (xs ys : List Numbered) → map (λ (e : Numbered). e.1) (xs ++ ys) ≡ map (λ (e : Numbered). e.1) xs ++ map (λ (e : Numbered). e.1) ys
map_both [] ys = refl
map_both (x ∷ xs) ys = ap (λ (rows : List Env). x.1 ∷ rows) (map_both xs ys)

dealt_all : (rows : List Env) → IsPermutation rows (dealt 2 0 rows ++ dealt 2 1 rows)
dealt_all rows =
    let es = enumerate_from 0 rows in
    let moved = IsPermutation-map (λ (e : Numbered). e.1) es (filter (goes 0) es ++ filter (goes 1) es) (split es) in
    subst (λ (xs : List Env). IsPermutation xs (dealt 2 0 rows ++ dealt 2 1 rows)) (numbered 0 rows)
    (subst (λ (ys : List Env). IsPermutation (map (λ (e : Numbered). e.1) es) ys) (map_both (filter (goes 0) es) (filter (goes 1) es)) moved)

-- ---- the scan

abbrev Dealt : Sets → ℕ → List Env → Type 0
Dealt sets j rows = rows ≡ dealt 2 j (map (bind (a ∷ [])) (sets t))

scan_parts : (passing : Bool) (sets : Sets) (parts : Parts) → PAllows scan_of_a passing sets 2 parts → Both (Dealt sets) parts
scan_parts passing sets parts h = both_of (Dealt sets) parts (pfrom_Scan t (a ∷ []) passing sets 2 parts h)

all_dealt : (sets : Sets) (parts : Parts) (b : Both (Dealt sets) parts) → IsPermutation (map (bind (a ∷ [])) (sets t)) (b.first ++ b.second)
all_dealt sets parts b = subst (λ (rows : List Env). IsPermutation (map (bind (a ∷ [])) (sets t)) rows) (λ i. sym b.left i ++ sym b.right i) (dealt_all (map (bind (a ∷ [])) (sets t)))

two_mixed : (xs ys rows : List Env) → Interleaves (xs ∷ ys ∷ []) rows → IsPermutation (xs ++ ys) rows
two_mixed xs ys rows h = subst (λ (zs : List Env). IsPermutation zs rows) (ap (λ (zs : List Env). xs ++ zs) (append-nil ys)) (interleaves_permutation (xs ∷ ys ∷ []) rows h)

pub scans_same : All (Contains (scans scan_a)) (phys_scans scan_of_a)
scans_same =
    subst (λ (ss : List Scan). All (Contains ss) (phys_scans scan_of_a)) (sym (scans-Scan t (a ∷ [])))
    (subst (λ (ss : List Scan). All (Contains ((t, a ∷ []) ∷ [])) ss) (sym (pscans-Scan t (a ∷ []))) (All-from_recursion (Contains ((t, a ∷ []) ∷ [])) ((t, a ∷ []) ∷ []) ((0, omega arith, refl), tt)))

pub no_result : result_of scan_a ≡ None
no_result = ap result_of (sym (P.rolls-Scan t (a ∷ []))) ∙ result-roll (L.Scan t (a ∷ []))

pub scan_stands : ScanStands
scan_stands = record {
  scanned = scans_same;
  root = presult-Scan t (a ∷ []) ∙ sym no_result;
  allowed = λ passing sets parts fills h.
      let both = scan_parts passing sets parts h in
      subst (λ (o : Bool). AreRowsOf o (Allows scan_a passing sets [] []) 2 parts) (sym (ordered-Scan t (a ∷ [])))
      (λ rows mixed. allows_Scan t (a ∷ []) passing sets [] [] rows (IsPermutation-trans _ _ _ (all_dealt sets parts both) (two_mixed both.first both.second rows (subst (λ (ps : Parts). Interleaves ps rows) both.same mixed))));
  faults = λ sets name fills h. absurd (subst (λ (x : Type 0). x) (pfaults-Scan t (a ∷ []) sets 2 name) h);
}

-- ---- an order

abbrev InOrder : List Env → Type 0
InOrder = IsSorted (keys_cmp (by_a false))

abbrev Sorts : List Env → List Env → Type 0
Sorts rows r = IsPermutation rows r × InOrder r

pub order_result : result_of ordered_plan ≡ None
order_result = ap result_of (sym (P.rolls-Order (by_a false) scan_a)) ∙ result-roll (L.Order (by_a false) scan_a)

merge_allows : (passing : Bool) (sets : Sets) (parts : Parts) → PAllows (Q.Merge (by_a false) sorted_parts) passing sets 2 parts → AreRowsOf true (Allows ordered_plan passing sets [] []) 2 parts
merge_allows passing sets parts h =
    let over = pfrom_Merge (by_a false) sorted_parts passing sets 2 parts h in
    let under = pfrom_Sort (by_a false) scan_of_a passing sets 2 over.0 over.1 in
    let both = scan_parts passing sets under.0 under.1 in
    let sorted = zip_two Sorts both.first both.second over.0 (subst (λ (ps : Parts). AllZip Sorts ps over.0) both.same under.2) in
    let moved = IsPermutation-trans _ _ _ (IsPermutation-append_left both.second both.first sorted.first sorted.left.0) (IsPermutation-append_right sorted.first both.second sorted.second sorted.right.0) in
    let mixed = two_mixed sorted.first sorted.second over.2.0 (subst (λ (ps : Parts). Interleaves ps over.2.0) sorted.same over.2.1) in
    let each = subst (λ (ps : Parts). All InOrder ps) (sym sorted.same) (All-from_recursion InOrder (sorted.first ∷ sorted.second ∷ []) (sorted.left.1, (sorted.right.1, tt))) in
    let all = all_dealt sets under.0 both in
    (over.2.0, over.2.3, allows_Order (by_a false) scan_a passing sets [] [] over.2.0 (both.first ++ both.second, allows_Scan t (a ∷ []) passing sets [] [] _ all, (IsPermutation-trans _ _ _ moved mixed, over.2.2 each)))

abbrev to_scan : (ss : List Scan) → All (Contains (scans scan_a)) ss → (qs : List Scan) → qs ≡ ss → All (Contains (scans ordered_plan)) qs
to_scan ss h qs e = subst (λ (rs : List Scan). All (Contains rs) qs) (sym (scans-Order (by_a false) scan_a)) (subst (λ (rs : List Scan). All (Contains (scans scan_a)) rs) (sym e) h)

pub merge_stands : MergeStands
merge_stands = record {
  scanned = to_scan (phys_scans scan_of_a) scans_same (phys_scans (Q.Merge (by_a false) sorted_parts)) (pscans-Merge (by_a false) sorted_parts ∙ pscans-Sort (by_a false) scan_of_a);
  root = presult-Merge (by_a false) sorted_parts ∙ sym order_result;
  allowed = λ passing sets parts fills h. subst (λ (o : Bool). AreRowsOf o (Allows ordered_plan passing sets [] []) 2 parts) (sym (ordered-Order (by_a false) scan_a)) (merge_allows passing sets parts h);
  faults = λ sets name fills h. absurd (subst (λ (x : Type 0). x) (pfaults-Merge (by_a false) sorted_parts sets 2 name ∙ pfaults-Sort (by_a false) scan_of_a sets 2 name ∙ pfaults-Scan t (a ∷ []) sets 2 name) h);
}
