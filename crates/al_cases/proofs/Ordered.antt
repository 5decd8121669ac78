-- The cases of checks and orders.
use Rattle.std.proofs.Common.{◌≡◌, zero, suc, ◌+◌, Bool, true, false, true≢false, List, [], ◌∷◌, get_or, take, drop, inl, inr, ⊎_elim, Equal, ◌⊎◌, refl, ap, sym, subst, ◌∙◌, arith}
use Rattle.std.specs.List.{All, Contains}
use Rattle.std.specs.Ordering.{is_lt, ordering_then}
use Rattle.std.specs.List.Sorted.{IsPermutation, IsSorted}
use Rattle.std.proofs.lemmas.List.Elements.{All-from_recursion, All-contains}
use Rattle.std.proofs.lemmas.List.Sorted.{IsPermutation-refl, IsPermutation-trans, IsPermutation-sym, All-permutation}
use Rattle.al_value.specs.declared.value.Value.{Value}
use Rattle.al_value.specs.declared.value.Value.TheVariants as V
use Rattle.al_value.specs.Value.{value_cmp}
use Rattle.al_plan.specs.declared.plan.Plan.{Plan}
use Rattle.al_plan.specs.declared.plan.Plan.TheVariants as P
use Rattle.al_plan.specs.Eval.{Bytes, Env, bind, holds}
use Rattle.al_plan.specs.Allows.{Sets, Allows, Faults, keys_cmp, directed}
use Rattle.al_plan.proofs.PlanLaws.{allows_Scan, from_Scan, faults-Scan, allows_Limit, from_Limit, faults-Limit, allows_Check, from_Check, faults-Check, allows_Order, from_Order}
use Rattle.al_plan.proofs.Moves.{IsPermutation-turn}
use Rattle.al_cases.specs.Cases.{t, a, b, int, row, pair, scan_a, scan_ab, below, one_and_two, small, first_checked, one_and_twenty, CheckSeesAll, upper, two_checks, ChecksFaultBoth, CheckPasses, by_a, one_column, AllowsOnly, OrderRises, OrderFalls, LimitSkips, TiesAreFree}
use Rattle.al_cases.proofs.Simple.{two_orders, scanned, of_scan, row-at, holds-below}

-- ---- check

abbrev pub checked : Plan
checked = P.Check small (below 15) scan_a

abbrev pub both : List Env
both = row a (int 1) ∷ row a (int 20) ∷ []

-- how a check over the scan faults, and how a check under another or under a limit does
abbrev Own : Sets → Bytes → Plan → Bytes → Type 0
Own sets own p name = (name ≡ own) × ((input : List Env) × (r : Env) × Allows p true sets [] [] input × Contains input r × (holds (below 15) r ≡ false))

lower_layer : (name : Bytes) → Faults checked one_and_twenty [] [] name ≡ (Own one_and_twenty small scan_a name ⊎ Faults scan_a one_and_twenty [] [] name)
lower_layer name = faults-Check small (below 15) scan_a one_and_twenty [] [] name

fault_layer : (name : Bytes) → Faults first_checked one_and_twenty [] [] name ≡ Faults checked one_and_twenty [] [] name
fault_layer name = faults-Limit 1 0 checked one_and_twenty [] [] name

upper_layer : (name : Bytes) → Faults two_checks one_and_twenty [] [] name ≡ (Own one_and_twenty upper checked name ⊎ Faults checked one_and_twenty [] [] name)
upper_layer name = faults-Check upper (below 15) checked one_and_twenty [] [] name

named_so : (name : Bytes) → Own one_and_twenty small scan_a name ⊎ Faults scan_a one_and_twenty [] [] name → name ≡ small
named_so name (inl h) = h.0
named_so name (inr h) = absurd (subst (λ (x : Type 0). x) (faults-Scan t (a ∷ []) one_and_twenty [] [] name) h)

the_name : (name : Bytes) → Faults checked one_and_twenty [] [] name → name ≡ small
the_name name h = named_so name (subst (λ (x : Type 0). x) (lower_layer name) h)

scanned_passing : Allows scan_a true one_and_twenty [] [] both
scanned_passing = allows_Scan t (a ∷ []) true one_and_twenty [] [] both (IsPermutation-refl both)

pub lower_faults : Faults checked one_and_twenty [] [] small
lower_faults = subst (λ (x : Type 0). x) (sym (lower_layer small)) (inl (refl, (both, row a (int 20), scanned_passing, (1, omega arith, refl), holds-below 15 (int 20))))

checked_passing : Allows checked true one_and_twenty [] [] both
checked_passing = allows_Check small (below 15) scan_a true one_and_twenty [] [] both (scanned_passing, tt)

pub checks_fault_both : ChecksFaultBoth
checks_fault_both = record {
  below_faults = subst (λ (x : Type 0). x) (sym (upper_layer small)) (inr lower_faults);
  above_faults = subst (λ (x : Type 0). x) (sym (upper_layer upper)) (inl (refl, (both, row a (int 20), checked_passing, (1, omega arith, refl), holds-below 15 (int 20))));
  no_other = λ name h. ⊎_elim (λ own. inr own.0) (λ under. inl (the_name name under)) (subst (λ (x : Type 0). x) (upper_layer name) h);
}

pub check_sees_all : CheckSeesAll
check_sees_all = record {
  faults = subst (λ (x : Type 0). x) (sym (fault_layer small)) lower_faults;
  no_other = λ name h. the_name name (subst (λ (x : Type 0). x) (fault_layer name) h);
  nothing = λ rows h.
      let over = from_Limit 1 0 checked false one_and_twenty [] [] rows h in
      let passed = from_Check small (below 15) scan_a false one_and_twenty [] [] over.0 over.1 in
      let pass = All-permutation (λ (r : Env). holds (below 15) r ≡ true) over.0 both (IsPermutation-sym both over.0 (of_scan one_and_twenty over.0 passed.0)) passed.1 in
      true≢false (sym (pass 1 (row a (int 1)) (omega arith)) ∙ holds-below 15 (int 20));
  passing = allows_Limit 1 0 checked true one_and_twenty [] [] _ (both, checked_passing, refl);
}

-- ---- a check that passes

abbrev low : List Env
low = row a (int 1) ∷ row a (int 2) ∷ []

abbrev Passes : Env → Type 0
Passes r = holds (below 15) r ≡ true

low_pass : (rows : List Env) → IsPermutation low rows → All Passes rows
low_pass rows h = All-permutation Passes low rows h (All-from_recursion Passes low (holds-below 15 (int 1), (holds-below 15 (int 2), tt)))

abbrev Faulty : Bytes → Type 0
Faulty name = Own one_and_two small scan_a name ⊎ Faults scan_a one_and_two [] [] name

none_faults : (name : Bytes) → Faulty name → ⊥
none_faults name (inl h) =
    let bad = h.1 in
    let pass = low_pass bad.0 (from_Scan t (a ∷ []) true one_and_two [] [] bad.0 bad.2) in
    true≢false (sym (All-contains Passes bad.0 bad.1 pass bad.3) ∙ bad.4)
none_faults name (inr h) = subst (λ (x : Type 0). x) (faults-Scan t (a ∷ []) one_and_two [] [] name) h

pub check_passes : CheckPasses
check_passes = record {
  rows = record {
    allowed = λ others h. allows_Check small (below 15) scan_a false one_and_two [] [] others (scanned one_and_two others h, low_pass others h);
    no_other = λ others h. of_scan one_and_two others (from_Check small (below 15) scan_a false one_and_two [] [] others h).0;
  };
  no_fault = λ name h. none_faults name (subst (λ (x : Type 0). x) (faults-Check small (below 15) scan_a one_and_two [] [] name) h);
}

-- ---- order

cmp-rows : (falling : Bool) (v w : Value) → keys_cmp (by_a falling) (row a v) (row a w) ≡ ordering_then (directed falling (value_cmp v w)) Equal
cmp-rows falling v w = λ i. ordering_then (directed falling (value_cmp (row-at v i) (row-at w i))) Equal

module _ (falling : Bool) (v w : Value) (rising : is_lt (ordering_then (directed falling (value_cmp v w)) Equal) ≡ true) (not_back : is_lt (ordering_then (directed falling (value_cmp w v)) Equal) ≡ false) where
  pub sorted : IsSorted (keys_cmp (by_a falling)) (row a v ∷ row a w ∷ [])
  sorted zero d low high = ap is_lt (cmp-rows falling w v) ∙ not_back
  sorted (suc k) d low high = absurd (omega arith)

  unsorted : IsSorted (keys_cmp (by_a falling)) (row a w ∷ row a v ∷ []) → ⊥
  unsorted h = true≢false (sym (ap is_lt (cmp-rows falling v w) ∙ rising) ∙ h 0 (row a v) (omega arith) (omega arith))

  -- two values come in their order, whichever stands first
  pub orders_two : AllowsOnly (one_column (w ∷ v ∷ [])) (P.Order (by_a falling) scan_a) (row a v ∷ row a w ∷ [])
  orders_two = record {
    allowed = allows_Order (by_a falling) scan_a false _ [] [] _ (_, scanned _ _ (IsPermutation-refl _), (IsPermutation-turn (row a w) (row a v) [], sorted));
    no_other = λ others h.
        let over = from_Order (by_a falling) scan_a false _ [] [] others h in
        let moved = IsPermutation-trans _ _ _ (of_scan _ over.0 over.1) over.2.0 in
        ⊎_elim (λ e. absurd (unsorted (subst (IsSorted (keys_cmp (by_a falling))) e over.2.1))) (λ e. e) (two_orders (row a w) (row a v) others moved);
  }

pub order_rises : OrderRises
order_rises = orders_two false V.Null (int 1) refl refl

pub order_falls : OrderFalls
order_falls = orders_two true (int 2) (int 1) refl refl

abbrev pub rows_up : Plan
rows_up = P.Order (by_a false) scan_a

-- 1 and 2 come in this order
pub rises_only : (rows : List Env) → Allows rows_up false one_and_two [] [] rows → rows ≡ row a (int 1) ∷ row a (int 2) ∷ []
rises_only rows h =
    let under = from_Order (by_a false) scan_a false one_and_two [] [] rows h in
    let moved = IsPermutation-trans _ _ _ (of_scan one_and_two under.0 under.1) under.2.0 in
    ⊎_elim (λ e. e) (λ e. absurd (unsorted false (int 1) (int 2) refl refl (subst (IsSorted (keys_cmp (by_a false))) e under.2.1))) (two_orders (row a (int 1)) (row a (int 2)) rows moved)

pub limit_skips : LimitSkips
limit_skips = record {
  allowed = allows_Limit 1 1 rows_up false one_and_two [] [] _
      (low, allows_Order (by_a false) scan_a false one_and_two [] [] low (low, scanned one_and_two low (IsPermutation-refl low), (IsPermutation-refl low, sorted false (int 1) (int 2) refl refl)), refl);
  no_other = λ others h.
      let over = from_Limit 1 1 rows_up false one_and_two [] [] others h in
      over.2 ∙ ap (λ (rows : List Env). take 1 (drop 1 rows)) (rises_only over.0 over.1);
}

abbrev tied : Sets
tied q = (int 1 ∷ int 10 ∷ []) ∷ (int 1 ∷ int 20 ∷ []) ∷ []

abbrev ties : List Env
ties = pair (int 1) (int 10) ∷ pair (int 1) (int 20) ∷ []

pair-first : (v w : Value) → pair v w a.name ≡ v
unfolding bind
pair-first v w = refl

all_tie : All (λ (r : Env). r a.name ≡ int 1) ties
all_tie = All-from_recursion (λ (r : Env). r a.name ≡ int 1) ties (pair-first (int 1) (int 10), (pair-first (int 1) (int 20), tt))

tie_sorted : (rows : List Env) → All (λ (r : Env). r a.name ≡ int 1) rows → IsSorted (keys_cmp (by_a false)) rows
tie_sorted rows h k d low high = λ i. is_lt (ordering_then (value_cmp (h (k + 1) d high i) (h k d (omega arith) i)) (keys_cmp [] (get_or rows (k + 1) d) (get_or rows k d)))

pub ties_are_free : TiesAreFree
ties_are_free = record {
  allowed = λ others h. allows_Order (by_a false) scan_ab false tied [] [] others
      (ties, allows_Scan t (a ∷ b ∷ []) false tied [] [] ties (IsPermutation-refl ties), (h, tie_sorted others (All-permutation (λ (r : Env). r a.name ≡ int 1) ties others h all_tie)));
  no_other = λ others h.
      let over = from_Order (by_a false) scan_ab false tied [] [] others h in
      IsPermutation-trans ties over.0 others (from_Scan t (a ∷ b ∷ []) false tied [] [] over.0 over.1) over.2.0;
}
