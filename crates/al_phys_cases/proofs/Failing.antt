-- Physical plans that don't stand for a scan or an order.
use Rattle.std.proofs.Common.{◌≡◌, inl, ℕ, Bool, true, false, true≢false, Option, None, Some, List, [], ◌∷◌, map, length, get_or, refl, ap, sym, subst, ◌∙◌, arith}
use Rattle.std.specs.List.{All, Contains}
use Rattle.std.specs.List.Sorted.{IsSorted}
use Rattle.std.proofs.lemmas.List.Elements.{All-from_recursion, All-contains}
use Rattle.std.proofs.lemmas.List.Sorted.{length_permutation}
use Rattle.al_value.specs.declared.value.Value.{Value}
use Rattle.al_plan.specs.declared.expr.Var.{Var}
use Rattle.al_plan.specs.declared.plan.Plan.{Plan}
use Rattle.al_plan.specs.declared.plan.Plan.TheVariants as P
use Rattle.al_plan.specs.declared.plan.Plan.TheOpen as R
use Rattle.al_plan.specs.Eval.{Bytes, Env, bind, holds}
use Rattle.al_plan.specs.Allows.{Sets, Allows, keys_cmp}
use Rattle.al_plan.specs.Refines.{Scan, scans, Fills}
use Rattle.al_plan.proofs.PlanLaws.{from_Scan, from_Order, from_Check, scans-roll, scans-Scan, scans-Order, ordered-Scan, ordered-Order, ordered-Check, result-Result, faults-Scan}
use Rattle.al_phys.specs.declared.phys.Phys.{Phys}
use Rattle.al_phys.specs.declared.phys.Phys.TheVariants as Q
use Rattle.al_phys.specs.declared.phys.Phys.TheOpen as L
use Rattle.al_phys.specs.Operators.{phys_scans, phys_result}
use Rattle.al_phys.specs.Parts.{Parts, first_part, dealt, Interleaves}
use Rattle.al_phys.specs.PAllows.{PAllowing, PAllows}
use Rattle.al_phys.specs.Stands.{Stands, AreRowsOf}
use Rattle.al_phys.proofs.OperatorLaws.{pscans-Scan, presult-roll}
use Rattle.al_phys.proofs.PhysLaws.{pallows-roll, pfaults-Check}
use Rattle.al_cases.specs.Cases.{t, u, a, int, one_column, scan_a, below, by_a, small}
use Rattle.al_cases.proofs.Simple.{holds-below}
use Rattle.al_phys_cases.specs.PartCases.{at, two, InParts, OnlyParts, scan_of_a, falling}
use Rattle.al_phys_cases.specs.StandCases.{CopiesStand, OtherScanStands, ordered_plan, sorted_parts, GatherStands, SortStands, RootlessStands, CheckStands, UncheckedStands}
use Rattle.al_phys_cases.proofs.Two.{two_each, into, scan_only, take_left, whole_first, whole_second}
use Rattle.al_phys_cases.proofs.Exchanges.{sorts, unsorted, merge_orders}

-- ---- datasets

abbrev OneWide : Sets → Type 0
OneWide sets = All (λ (r : List Value). length r ≡ 1) (sets t)

pub fills_scan : (sets : Sets) → OneWide sets → Fills (scans scan_a) sets
fills_scan sets wide =
    subst (λ (ss : List Scan). Fills ss sets) (sym (scans-Scan t (a ∷ []))) (All-from_recursion (λ (s : Scan). All (λ (r : List Value). length r ≡ length s.1) (sets s.0)) ((t, a ∷ []) ∷ []) (wide, tt))

wide_one : (v : Value) → OneWide (one_column (v ∷ []))
wide_one v = All-from_recursion (λ (r : List Value). length r ≡ 1) ((v ∷ []) ∷ []) (refl, tt)

wide_falling : OneWide falling
wide_falling = All-from_recursion (λ (r : List Value). length r ≡ 1) ((int 2 ∷ []) ∷ (int 1 ∷ []) ∷ []) (refl, (refl, tt))

-- ---- copies

abbrev sets_one : Sets
sets_one = one_column (int 1 ∷ [])

one_dealt : OnlyParts sets_one scan_of_a ((at 1 ∷ []) ∷ [] ∷ [])
one_dealt = scan_only sets_one t (a ∷ []) (at 1 ∷ []) [] refl refl

abbrev Copied : ℕ → List Env → Type 0
Copied j rows = Interleaves ((at 1 ∷ []) ∷ [] ∷ []) rows

copied_twice : InParts sets_one (Q.Broadcast scan_of_a) ((at 1 ∷ []) ∷ (at 1 ∷ []) ∷ [])
copied_twice = into sets_one (L.Broadcast scan_of_a) _ (Q.rolls-Broadcast scan_of_a) _ (_, one_dealt.allowed, two_each Copied _ _ (whole_first (at 1 ∷ [])) (whole_first (at 1 ∷ [])))

pub copies_stand : CopiesStand → ⊥
copies_stand s =
    let free = subst (λ (o : Bool). AreRowsOf o (Allows scan_a false sets_one [] []) 2 ((at 1 ∷ []) ∷ (at 1 ∷ []) ∷ [])) (ordered-Scan t (a ∷ []))
    (s.allowed false sets_one ((at 1 ∷ []) ∷ (at 1 ∷ []) ∷ []) (fills_scan sets_one (wide_one (int 1))) copied_twice) in
    let rows = free (at 1 ∷ at 1 ∷ []) (take_left (at 1) [] (at 1 ∷ []) (at 1 ∷ []) (whole_second (at 1 ∷ []))) in
    absurd (omega (arith, length_permutation _ _ (from_Scan t (a ∷ []) false sets_one [] [] (at 1 ∷ at 1 ∷ []) rows)))

-- ---- another dataset

pub other_scan_stands : OtherScanStands → ⊥
other_scan_stands s =
    let scanned = subst (λ (ss : List Scan). All (Contains ss) (phys_scans (Q.Scan u (a ∷ [])))) (scans-Scan t (a ∷ [])) s.scanned in
    let known = subst (λ (ss : List Scan). All (Contains ((t, a ∷ []) ∷ [])) ss) (pscans-Scan u (a ∷ [])) scanned in
    let same : u ≡ t = All-contains (λ (q : Scan). q.0 ≡ t) ((t, a ∷ []) ∷ []) (u, a ∷ []) (All-from_recursion (λ (q : Scan). q.0 ≡ t) ((t, a ∷ []) ∷ []) (refl, tt)) (known 0 (u, a ∷ []) (omega arith)) in
    absurd (omega (arith, ap (λ (name : Bytes). get_or name 0 0) same))

-- ---- an order

fills_order : Fills (scans ordered_plan) falling
fills_order = subst (λ (ss : List Scan). Fills ss falling) (sym (scans-Order (by_a false) scan_a)) (fills_scan falling wide_falling)

in_order : (ph : Phys) (parts : Parts) → Stands ordered_plan ph 2 → InParts falling ph parts → AreRowsOf true (Allows ordered_plan false falling [] []) 2 parts
in_order ph parts s h = subst (λ (o : Bool). AreRowsOf o (Allows ordered_plan false falling [] []) 2 parts) (ordered-Order (by_a false) scan_a) (s.allowed false falling parts fills_order h)

pub gather_stands : GatherStands → ⊥
gather_stands s =
    let rows = in_order (Q.Gather sorted_parts) (two (at 2 ∷ at 1 ∷ []) []) s merge_orders.gathered in
    let over = from_Order (by_a false) scan_a false falling [] [] rows.0 rows.2 in
    unsorted (subst (IsSorted (keys_cmp (by_a false))) (sym (ap first_part rows.1)) over.2.1)

pub sort_stands : SortStands → ⊥
sort_stands s =
    let rows = in_order sorted_parts ((at 2 ∷ []) ∷ (at 1 ∷ []) ∷ []) s sorts.allowed in
    absurd (omega (arith, ap (λ (parts : Parts). length (get_or parts 1 [])) rows.1))

-- ---- the root

some_none : (o : Option (List Var)) (vars : List Var) → o ≡ Some vars → o ≡ None → ⊥
some_none o vars e h = cc

pub rootless_stands : RootlessStands → ⊥
rootless_stands s =
    let none = ap phys_result (sym (Q.rolls-Gather scan_of_a)) ∙ presult-roll (L.Gather scan_of_a) in
    some_none (phys_result (Q.Gather scan_of_a)) (a ∷ []) (s.root ∙ result-Result (a ∷ []) scan_a) none

-- ---- checks

abbrev sets_twenty : Sets
sets_twenty = one_column (int 20 ∷ [])

abbrev large : Parts
large = (at 20 ∷ []) ∷ [] ∷ []

abbrev Dealt : ℕ → List Env → Type 0
Dealt j rows = rows ≡ dealt 2 j (map (bind (a ∷ [])) (sets_twenty t))

large_scanned : (passing : Bool) → PAllows scan_of_a passing sets_twenty 2 ((at 20 ∷ []) ∷ [] ∷ [])
large_scanned passing =
    subst (λ (q : Phys). PAllows q passing sets_twenty 2 large) (Q.rolls-Scan t (a ∷ [])) (subst (λ (f : PAllowing). f passing sets_twenty 2 large) (sym (pallows-roll (L.Scan t (a ∷ [])))) (two_each Dealt (at 20 ∷ []) [] refl refl))

too_large : holds (below 15) (at 20) ≡ false
too_large = holds-below 15 (int 20)

pub check_stands : CheckStands → ⊥
check_stands s =
    let own = inl (refl, (large, at 20 ∷ [], at 20, large_scanned true, (0, omega arith, refl), (0, omega arith, refl), too_large)) in
    let fault = s.faults sets_twenty small (fills_scan sets_twenty (wide_one (int 20))) (subst (λ (x : Type 0). x) (sym (pfaults-Check small (below 15) scan_of_a sets_twenty 2 small)) own) in
    subst (λ (x : Type 0). x) (faults-Scan t (a ∷ []) sets_twenty [] [] small) fault

abbrev checked : Plan
checked = P.Check small (below 15) scan_a

scans_checked : scans checked ≡ scans scan_a
scans_checked = ap scans (sym (P.rolls-Check small (below 15) scan_a)) ∙ scans-roll (R.Check small (below 15) scan_a)

pub unchecked_stands : UncheckedStands → ⊥
unchecked_stands s =
    let fills = subst (λ (ss : List Scan). Fills ss sets_twenty) (sym scans_checked) (fills_scan sets_twenty (wide_one (int 20))) in
    let free = subst (λ (o : Bool). AreRowsOf o (Allows checked false sets_twenty [] []) 2 large) (ordered-Check small (below 15) scan_a ∙ ordered-Scan t (a ∷ [])) (s.allowed false sets_twenty large fills (large_scanned false)) in
    let rows = free (at 20 ∷ []) (whole_first (at 20 ∷ [])) in
    let passed = (from_Check small (below 15) scan_a false sets_twenty [] [] (at 20 ∷ []) rows).1 in
    true≢false (sym (passed 0 (at 20) (omega arith)) ∙ too_large)
