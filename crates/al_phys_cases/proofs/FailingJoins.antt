-- Physical plans that don't stand for a join.
use Rattle.std.proofs.Common.{◌≡◌, ℕ, Bool, true, false, cond, nat_eq, List, [], ◌∷◌, ◌++◌, filter, length, refl, ap, sym, subst, ◌∙◌, arith}
use Rattle.std.specs.Prelude.{if◌then◌else◌}
use Rattle.std.specs.Cmp.Lexicographic.{pointwise}
use Rattle.std.specs.List.{All}
use Rattle.std.specs.List.Sorted.{IsPermutation}
use Rattle.std.proofs.lemmas.List.Elements.{All-from_recursion}
use Rattle.std.proofs.lemmas.List.Sorted.{IsPermutation-refl, length_permutation}
use Rattle.al_value.specs.declared.value.Value.{Value}
use Rattle.al_value.specs.declared.value.Value.TheVariants as V
use Rattle.al_func.specs.Func.{equal, is_true}
use Rattle.al_plan.specs.declared.expr.Var.{Var}
use Rattle.al_plan.specs.declared.plan.Plan.{Plan}
use Rattle.al_plan.specs.declared.plan.Plan.TheVariants as P
use Rattle.al_plan.specs.Eval.{Env, bind, holds}
use Rattle.al_plan.specs.Allows.{Sets, Allows, live, beside, pairs, left_pairs}
use Rattle.al_plan.specs.Refines.{Scan, scans, Fills}
use Rattle.al_plan.proofs.PlanLaws.{from_Scan, from_Join, from_LeftJoin, scans-Scan, scans-Join, scans-LeftJoin, ordered-Join, ordered-LeftJoin, live-Scan}
use Rattle.al_plan.proofs.Moves.{IsPermutation-one}
use Rattle.al_phys.specs.declared.phys.JoinForm.TheVariants as J
use Rattle.al_phys.specs.declared.phys.Phys.{Phys}
use Rattle.al_phys.specs.declared.phys.Phys.TheVariants as Q
use Rattle.al_phys.specs.declared.phys.Phys.TheOpen as L
use Rattle.al_phys.specs.Operators.{phys_live}
use Rattle.al_phys.specs.Partition.{key_hash}
use Rattle.al_phys.specs.Parts.{Parts, Interleaves}
use Rattle.al_phys.specs.Gives.{joined}
use Rattle.al_phys.specs.Stands.{AreRowsOf}
use Rattle.al_phys.proofs.OperatorLaws.{plive-Broadcast}
use Rattle.al_cases.specs.Cases.{t, u, a, b, n, int, row, pair, one_column, scan_a, scan_b, same}
use Rattle.al_cases.proofs.Joined.{live_a}
use Rattle.al_phys_cases.specs.PartCases.{at, InParts, OnlyParts, scan_of_a, scan_of_b}
use Rattle.al_phys_cases.specs.StandCases.{left_join, LeftCopiesStand, two_columns, OtherKeyStands}
use Rattle.al_phys_cases.proofs.Two.{two_each, into, scan_only, take_left, take_none, whole_first, whole_second, first_alone}
use Rattle.al_phys_cases.proofs.Hashing.{in_part, hash_only, one_pairs_left, beside_null, eval_same, live_scan}

-- ---- a left input that is copied

abbrev sets_one : Sets
sets_one = one_column (int 1 ∷ [])

abbrev right_one : List Env
right_one = row b (int 1) ∷ []

left_dealt : OnlyParts sets_one scan_of_a ((at 1 ∷ []) ∷ [] ∷ [])
left_dealt = scan_only sets_one t (a ∷ []) (at 1 ∷ []) [] refl refl

right_dealt : OnlyParts sets_one scan_of_b ((row b (int 1) ∷ []) ∷ [] ∷ [])
right_dealt = scan_only sets_one u (b ∷ []) (row b (int 1) ∷ []) [] refl refl

abbrev Copied : ℕ → List Env → Type 0
Copied j rows = Interleaves ((at 1 ∷ []) ∷ [] ∷ []) rows

abbrev copied : Phys
copied = Q.Broadcast scan_of_a

left_copied : InParts sets_one (Q.Broadcast scan_of_a) ((at 1 ∷ []) ∷ (at 1 ∷ []) ∷ [])
left_copied = into sets_one (L.Broadcast scan_of_a) _ (Q.rolls-Broadcast scan_of_a) _ (_, left_dealt.allowed, two_each Copied _ _ (whole_first (at 1 ∷ [])) (whole_first (at 1 ∷ [])))

one_alone : joined true (a ∷ []) same (at 1 ∷ []) [] ≡ pair (int 1) V.Null ∷ []
one_alone = λ i. beside_null (int 1) i ∷ []

abbrev joined_parts : Parts
joined_parts = (pair (int 1) (int 1) ∷ []) ∷ (pair (int 1) V.Null ∷ []) ∷ []

live_copied : phys_live copied ≡ a ∷ []
live_copied = plive-Broadcast scan_of_a ∙ live_scan

first_joined : IsPermutation (joined true (phys_live copied) same (at 1 ∷ []) (row b (int 1) ∷ [])) (pair (int 1) (int 1) ∷ [])
first_joined = subst (λ (rows : List Env). IsPermutation rows (pair (int 1) (int 1) ∷ [])) (sym (ap (λ (vars : List Var). joined true vars same (at 1 ∷ []) right_one) live_copied ∙ one_pairs_left)) (IsPermutation-refl (pair (int 1) (int 1) ∷ []))

second_joined : IsPermutation (joined true (phys_live copied) same (at 1 ∷ []) []) (pair (int 1) V.Null ∷ [])
second_joined = subst (λ (rows : List Env). IsPermutation rows (pair (int 1) V.Null ∷ [])) (sym (ap (λ (vars : List Var). joined true vars same (at 1 ∷ []) []) live_copied ∙ one_alone)) (IsPermutation-refl (pair (int 1) V.Null ∷ []))

copies_joined : InParts sets_one (Q.Join J.LoopLeftJoin same (Q.Broadcast scan_of_a) scan_of_b) ((pair (int 1) (int 1) ∷ []) ∷ (pair (int 1) V.Null ∷ []) ∷ [])
copies_joined = into sets_one (L.Join J.LoopLeftJoin same copied scan_of_b) _ (Q.rolls-Join J.LoopLeftJoin same copied scan_of_b) joined_parts
    ((at 1 ∷ []) ∷ (at 1 ∷ []) ∷ [], left_copied, ((row b (int 1) ∷ []) ∷ [] ∷ [], right_dealt.allowed, (first_joined, (second_joined, tt))))

abbrev Wide : Sets → Scan → Type 0
Wide sets s = All (λ (r : List Value). length r ≡ length s.1) (sets s.0)

fills_one : Fills (scans left_join) sets_one
fills_one =
    subst (λ (ss : List Scan). Fills ss sets_one) (sym (scans-LeftJoin same scan_a scan_b ∙ (λ i. scans-Scan t (a ∷ []) i ++ scans-Scan u (b ∷ []) i)))
    (All-from_recursion (Wide sets_one) ((t, a ∷ []) ∷ (u, b ∷ []) ∷ []) (All-from_recursion (λ (r : List Value). length r ≡ 1) ((int 1 ∷ []) ∷ []) (refl, tt), (All-from_recursion (λ (r : List Value). length r ≡ 1) ((int 1 ∷ []) ∷ []) (refl, tt), tt)))

pub left_copies_stand : LeftCopiesStand → ⊥
left_copies_stand s =
    let rows = pair (int 1) (int 1) ∷ pair (int 1) V.Null ∷ [] in
    let free = subst (λ (o : Bool). AreRowsOf o (Allows left_join false sets_one [] []) 2 joined_parts) (ordered-LeftJoin same scan_a scan_b) (s.allowed false sets_one joined_parts fills_one copies_joined) in
    let over = from_LeftJoin same scan_a scan_b false sets_one [] [] rows (free rows (take_left (pair (int 1) (int 1)) [] (pair (int 1) V.Null ∷ []) (pair (int 1) V.Null ∷ []) (whole_second (pair (int 1) V.Null ∷ [])))) in
    let left = IsPermutation-one (at 1) over.0 (from_Scan t (a ∷ []) false sets_one [] [] over.0 over.1) in
    let right = IsPermutation-one (row b (int 1)) over.2.0 (from_Scan u (b ∷ []) false sets_one [] [] over.2.0 over.2.1) in
    let same_rows : left_pairs (live scan_a []) same over.0 over.2.0 ≡ pair (int 1) (int 1) ∷ [] = (λ i. left_pairs (live_a i) same (left i) (right i)) ∙ one_pairs_left in
    absurd (omega (arith, length_permutation _ _ over.2.2, ap length same_rows))

-- ---- a hash by another variable

abbrev crossed : Sets
crossed q = if pointwise nat_eq q t then (int 1 ∷ int 2 ∷ []) ∷ [] else (int 1 ∷ []) ∷ []

abbrev left_row : Env
left_row = bind (a ∷ n ∷ []) (int 1 ∷ int 2 ∷ [])

abbrev wide_scan : Phys
wide_scan = Q.Scan t (a ∷ n ∷ [])

wide_dealt : OnlyParts crossed wide_scan ((bind (a ∷ n ∷ []) (int 1 ∷ int 2 ∷ []) ∷ []) ∷ [] ∷ [])
wide_dealt = scan_only crossed t (a ∷ n ∷ []) (left_row ∷ []) [] refl refl

narrow_dealt : OnlyParts crossed scan_of_b ((row b (int 1) ∷ []) ∷ [] ∷ [])
narrow_dealt = scan_only crossed u (b ∷ []) (row b (int 1) ∷ []) [] refl refl

left_first : filter (in_part n 0) (bind (a ∷ n ∷ []) (int 1 ∷ int 2 ∷ []) ∷ []) ≡ bind (a ∷ n ∷ []) (int 1 ∷ int 2 ∷ []) ∷ []
unfolding key_hash bind
left_first = refl

left_second : filter (in_part n 1) (bind (a ∷ n ∷ []) (int 1 ∷ int 2 ∷ []) ∷ []) ≡ []
unfolding key_hash bind
left_second = refl

right_first : filter (in_part b 0) (row b (int 1) ∷ []) ≡ []
unfolding key_hash bind
right_first = refl

right_second : filter (in_part b 1) (row b (int 1) ∷ []) ≡ row b (int 1) ∷ []
unfolding key_hash bind
right_second = refl

left_hashed : OnlyParts crossed (Q.HashExchange (n ∷ []) wide_scan) ((bind (a ∷ n ∷ []) (int 1 ∷ int 2 ∷ []) ∷ []) ∷ [] ∷ [])
left_hashed = hash_only crossed n wide_scan (left_row ∷ []) [] wide_dealt (left_row ∷ []) [] [] [] (left_row ∷ []) [] left_first refl left_second refl (whole_first (left_row ∷ [])) (whole_first []) (first_alone (left_row ∷ [])) (first_alone [])

right_hashed : OnlyParts crossed (Q.HashExchange (b ∷ []) scan_of_b) ([] ∷ (row b (int 1) ∷ []) ∷ [])
right_hashed = hash_only crossed b scan_of_b (row b (int 1) ∷ []) [] narrow_dealt [] [] (row b (int 1) ∷ []) [] [] (row b (int 1) ∷ []) right_first refl right_second refl (whole_first []) (whole_first (row b (int 1) ∷ [])) (first_alone []) (first_alone (row b (int 1) ∷ []))

abbrev join : Plan
join = P.Join same two_columns scan_b

none_joined : InParts crossed (Q.Join J.HashJoin same (Q.HashExchange (n ∷ []) (Q.Scan t (a ∷ n ∷ []))) (Q.HashExchange (b ∷ []) scan_of_b)) ([] ∷ [] ∷ [])
none_joined = into crossed (L.Join J.HashJoin same (Q.HashExchange (n ∷ []) wide_scan) (Q.HashExchange (b ∷ []) scan_of_b)) _ (Q.rolls-Join J.HashJoin same (Q.HashExchange (n ∷ []) wide_scan) (Q.HashExchange (b ∷ []) scan_of_b)) ([] ∷ [] ∷ [])
    (_, left_hashed.allowed, (_, right_hashed.allowed, (IsPermutation-refl [], (IsPermutation-refl [], tt))))

fills_crossed : Fills (scans join) crossed
fills_crossed =
    subst (λ (ss : List Scan). Fills ss crossed) (sym (scans-Join same two_columns scan_b ∙ (λ i. scans-Scan t (a ∷ n ∷ []) i ++ scans-Scan u (b ∷ []) i)))
    (All-from_recursion (Wide crossed) ((t, a ∷ n ∷ []) ∷ (u, b ∷ []) ∷ []) (All-from_recursion (λ (r : List Value). length r ≡ 2) ((int 1 ∷ int 2 ∷ []) ∷ []) (refl, tt), (All-from_recursion (λ (r : List Value). length r ≡ 1) ((int 1 ∷ []) ∷ []) (refl, tt), tt)))

abbrev both : Env
both = beside (a ∷ n ∷ []) left_row (row b (int 1))

both_a : both a.name ≡ int 1
unfolding bind
both_a = refl

both_b : both b.name ≡ int 1
unfolding bind
both_b = refl

both_same : holds same both ≡ true
both_same = ap is_true (eval_same both ∙ (λ i. equal (both_a i) (both_b i)))

one_pair : pairs (a ∷ n ∷ []) same (left_row ∷ []) (row b (int 1) ∷ []) ≡ both ∷ []
one_pair = ap (λ h. cond h (both ∷ []) [] ++ []) both_same

pub other_key_stands : OtherKeyStands → ⊥
other_key_stands s =
    let free = subst (λ (o : Bool). AreRowsOf o (Allows join false crossed [] []) 2 ([] ∷ [] ∷ [])) (ordered-Join same two_columns scan_b) (s.allowed false crossed ([] ∷ [] ∷ []) fills_crossed none_joined) in
    let over = from_Join same two_columns scan_b false crossed [] [] [] (free [] take_none) in
    let left = IsPermutation-one left_row over.0 (from_Scan t (a ∷ n ∷ []) false crossed [] [] over.0 over.1) in
    let right = IsPermutation-one (row b (int 1)) over.2.0 (from_Scan u (b ∷ []) false crossed [] [] over.2.0 over.2.1) in
    let same_rows : pairs (live two_columns []) same over.0 over.2.0 ≡ both ∷ [] = (λ i. pairs (live-Scan t (a ∷ n ∷ []) [] i) same (left i) (right i)) ∙ one_pair in
    absurd (omega (arith, length_permutation _ _ over.2.2, ap length same_rows))
