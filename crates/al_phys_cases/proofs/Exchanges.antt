-- The cases of a scan, a select, exchanges and a sort.
use Rattle.std.proofs.Common.{◌≡◌, ⊎_elim, ℕ, zero, suc, pos, Bool, true, false, true≢false, nat_eq, List, [], ◌∷◌, filter, length, refl, ap, sym, subst, ◌∙◌, arith}
use Rattle.std.specs.Ordering.{is_lt}
use Rattle.std.specs.List.{All, AllZip}
use Rattle.std.specs.List.Sorted.{IsPermutation, IsSorted}
use Rattle.std.proofs.lemmas.List.Elements.{All-from_recursion}
use Rattle.std.proofs.lemmas.List.Sorted.{IsPermutation-refl, length_permutation}
use Rattle.al_value.specs.declared.value.Value.{Value}
use Rattle.al_value.specs.declared.value.Value.TheVariants as V
use Rattle.al_plan.specs.Eval.{Env, bind, holds}
use Rattle.al_plan.specs.Allows.{keys_cmp}
use Rattle.al_plan.proofs.Moves.{IsPermutation-one}
use Rattle.al_phys.specs.declared.phys.Phys.{Phys}
use Rattle.al_phys.specs.declared.phys.Phys.TheVariants as Q
use Rattle.al_phys.specs.declared.phys.Phys.TheOpen as L
use Rattle.al_phys.specs.Partition.{key_hash}
use Rattle.al_phys.specs.Parts.{Parts, in_first, first_part, part_of, Interleaves, IsHashed, IsBroadcast}
use Rattle.al_phys.proofs.PartLaws.{interleaves_permutation}
use Rattle.al_cases.specs.Cases.{t, a, int, below, by_a}
use Rattle.al_cases.proofs.Simple.{row-at, holds-below, two_orders}
use Rattle.al_phys_cases.specs.PartCases.{at, two, InParts, OnlyParts, scan_of_a, three, falling, ScanDeals, SelectInParts, HashMoves, copied, BroadcastCopies, gathered, GatherMixes, MergeOrders}
use Rattle.al_phys_cases.proofs.Two.{two_each, both_of, zip_two, into, out, scan_only, heads, take_left, take_right, begins, second_alone, first_alone, whole_first, whole_second}

-- ---- rows and their partitions

number : Value → ℕ
number (V.Int (pos k)) = k
number v = 0

-- rows of different numbers differ
pub at_is : (j k : ℕ) → at j ≡ at k → j ≡ k
unfolding number
at_is j k e = ap number (sym (row-at (int j)) ∙ ap (λ (r : Env). r a.name) e ∙ row-at (int k))

abbrev pub in_part : ℕ → Env → Bool
in_part j r = nat_eq (part_of 2 (a ∷ []) r) j

pub odd_first : filter (in_part 0) (at 1 ∷ at 3 ∷ []) ≡ []
unfolding key_hash bind
odd_first = refl

pub odd_second : filter (in_part 1) (at 1 ∷ at 3 ∷ []) ≡ at 1 ∷ at 3 ∷ []
unfolding key_hash bind
odd_second = refl

pub even_first : filter (in_part 0) (at 2 ∷ []) ≡ at 2 ∷ []
unfolding key_hash bind
even_first = refl

pub even_second : filter (in_part 1) (at 2 ∷ []) ≡ []
unfolding key_hash bind
even_second = refl

-- ---- scan, select

pub scan_deals : ScanDeals
scan_deals = scan_only three t (a ∷ []) (at 1 ∷ at 3 ∷ []) (at 2 ∷ []) refl refl

kept_first : filter (holds (below 3)) (at 1 ∷ at 3 ∷ []) ≡ at 1 ∷ []
kept_first = rw (holds-below 3 (int 1), holds-below 3 (int 3)) refl

kept_second : filter (holds (below 3)) (at 2 ∷ []) ≡ at 2 ∷ []
kept_second = rw (holds-below 3 (int 2)) refl

abbrev Kept : List Env → List Env → Type 0
Kept rows out = out ≡ filter (holds (below 3)) rows

pub select_in_parts : SelectInParts
select_in_parts = record {
  allowed = into three (L.Select (below 3) scan_of_a) _ (Q.rolls-Select (below 3) scan_of_a) _ (two (at 1 ∷ at 3 ∷ []) (at 2 ∷ []), scan_deals.allowed, (sym kept_first, (sym kept_second, tt)));
  no_other = λ others h.
      let over = out three (L.Select (below 3) scan_of_a) _ (Q.rolls-Select (below 3) scan_of_a) others h in
      let parts = zip_two Kept (at 1 ∷ at 3 ∷ []) (at 2 ∷ []) others (subst (λ (input : Parts). AllZip Kept input others) (scan_deals.no_other over.0 over.1) over.2) in
      parts.same ∙ (λ i. (parts.left ∙ kept_first) i ∷ (parts.right ∙ kept_second) i ∷ []);
}

-- ---- hash

abbrev Hashed : ℕ → List Env → Type 0
Hashed j rows = Interleaves (filter (in_part j) (at 1 ∷ at 3 ∷ []) ∷ filter (in_part j) (at 2 ∷ []) ∷ []) rows

pub hash_moves : HashMoves
hash_moves = record {
  allowed = into three (L.HashExchange (a ∷ []) scan_of_a) _ (Q.rolls-HashExchange (a ∷ []) scan_of_a) _ (
    two (at 1 ∷ at 3 ∷ []) (at 2 ∷ []),
    scan_deals.allowed,
    two_each Hashed (at 2 ∷ []) (at 1 ∷ at 3 ∷ []) (rw (odd_first, even_first) (whole_second (at 2 ∷ []))) (rw (odd_second, even_second) (whole_first (at 1 ∷ at 3 ∷ []))),
  );
  no_other = λ others h.
      let over = out three (L.HashExchange (a ∷ []) scan_of_a) _ (Q.rolls-HashExchange (a ∷ []) scan_of_a) others h in
      let parts = both_of Hashed others (subst (λ (input : Parts). IsHashed 2 (a ∷ []) input others) (scan_deals.no_other over.0 over.1) over.2) in
      parts.same ∙ (λ i. first parts.first parts.left i ∷ second parts.second parts.right i ∷ []);
}
  where
    first : (rows : List Env) → Hashed 0 rows → rows ≡ at 2 ∷ []
    first rows h = second_alone (at 2 ∷ []) rows (subst (λ (xs : List Env). Interleaves (xs ∷ (at 2 ∷ []) ∷ []) rows) odd_first (subst (λ (ys : List Env). Interleaves (filter (in_part 0) (at 1 ∷ at 3 ∷ []) ∷ ys ∷ []) rows) even_first h))

    second : (rows : List Env) → Hashed 1 rows → rows ≡ at 1 ∷ at 3 ∷ []
    second rows h = first_alone (at 1 ∷ at 3 ∷ []) rows (subst (λ (xs : List Env). Interleaves (xs ∷ [] ∷ []) rows) odd_second (subst (λ (ys : List Env). Interleaves (filter (in_part 1) (at 1 ∷ at 3 ∷ []) ∷ ys ∷ []) rows) even_second h))

-- ---- broadcast, gather

abbrev dealt_three : Parts
dealt_three = (at 1 ∷ at 3 ∷ []) ∷ (at 2 ∷ []) ∷ []

one_three_two : Interleaves dealt_three (at 1 ∷ at 3 ∷ at 2 ∷ [])
one_three_two = take_left (at 1) _ _ _ (take_left (at 3) _ _ _ (whole_second (at 2 ∷ [])))

two_one_three : Interleaves dealt_three (at 2 ∷ at 1 ∷ at 3 ∷ [])
two_one_three = take_right (at 2) _ _ _ (whole_first (at 1 ∷ at 3 ∷ []))

one_two_three : Interleaves dealt_three (at 1 ∷ at 2 ∷ at 3 ∷ [])
one_two_three = take_left (at 1) _ _ _ (take_right (at 2) _ _ _ (whole_first (at 3 ∷ [])))

-- no interleaving begins with the third row
not_three : (rows : List Env) → Interleaves dealt_three (at 3 ∷ rows) → ⊥
not_three rows h =
    ⊎_elim
    (λ (here : (more : List Env) × (at 1 ∷ at 3 ∷ [] ≡ at 3 ∷ more) × Interleaves (more ∷ (at 2 ∷ []) ∷ []) rows). absurd (omega (arith, at_is 1 3 (heads (at 1) (at 3) (at 3 ∷ []) here.0 here.1))))
    (λ (there : (more : List Env) × (at 2 ∷ [] ≡ at 3 ∷ more) × Interleaves ((at 1 ∷ at 3 ∷ []) ∷ more ∷ []) rows). absurd (omega (arith, at_is 2 3 (heads (at 2) (at 3) [] there.0 there.1))))
    (begins (at 1 ∷ at 3 ∷ []) (at 2 ∷ []) (at 3) rows h)

all_there : (rows : List Env) → Interleaves dealt_three rows → length rows ≡ 3
all_there rows h = length_permutation _ rows (interleaves_permutation dealt_three rows h)

abbrev Copied : ℕ → List Env → Type 0
Copied j rows = Interleaves dealt_three rows

of_copied : (xs ys : List Env) → InParts three copied (two xs ys) → Interleaves dealt_three ys
of_copied xs ys h =
    let over = out three (L.Broadcast scan_of_a) _ (Q.rolls-Broadcast scan_of_a) (two xs ys) h in
    let each = subst (λ (input : Parts). IsBroadcast 2 input (two xs ys)) (scan_deals.no_other over.0 over.1) over.2 in
    each.each 1 (omega arith)

pub broadcast_copies : BroadcastCopies
broadcast_copies = record {
  mixed = into three (L.Broadcast scan_of_a) _ (Q.rolls-Broadcast scan_of_a) _ (dealt_three, scan_deals.allowed, two_each Copied _ _ one_three_two two_one_three);
  turned = λ h. not_three _ (of_copied _ _ h);
  one_alone = λ h. absurd (omega (arith, all_there [] (of_copied _ _ h)));
}

of_gathered : (parts : Parts) → InParts three gathered parts → (rows : List Env) × Interleaves dealt_three rows × (parts ≡ in_first 2 rows)
of_gathered parts h =
    let over = out three (L.Gather scan_of_a) _ (Q.rolls-Gather scan_of_a) parts h in
    (over.2.0, subst (λ (input : Parts). Interleaves input over.2.0) (scan_deals.no_other over.0 over.1) over.2.1, over.2.2)

to_gathered : (rows : List Env) → Interleaves dealt_three rows → InParts three gathered (two rows [])
to_gathered rows h = into three (L.Gather scan_of_a) _ (Q.rolls-Gather scan_of_a) _ (dealt_three, scan_deals.allowed, (rows, h, refl))

pub gather_mixes : GatherMixes
gather_mixes = record {
  mixed = to_gathered _ one_two_three;
  parts = to_gathered _ two_one_three;
  turned = λ h. let g = of_gathered _ h in not_three _ (subst (λ (rows : List Env). Interleaves dealt_three rows) (sym (ap first_part g.2)) g.1);
  second = λ h. let g = of_gathered _ h in absurd (omega (arith, ap length (ap first_part g.2), all_there g.0 g.1));
}

-- ---- sort, merge

rising : is_lt (keys_cmp (by_a false) (at 1) (at 2)) ≡ true
unfolding bind
rising = refl

not_back : is_lt (keys_cmp (by_a false) (at 2) (at 1)) ≡ false
unfolding bind
not_back = refl

pub unsorted : IsSorted (keys_cmp (by_a false)) (at 2 ∷ at 1 ∷ []) → ⊥
unsorted h = true≢false (sym rising ∙ h 0 (at 1) (omega arith) (omega arith))

sorted : IsSorted (keys_cmp (by_a false)) (at 1 ∷ at 2 ∷ [])
sorted zero d low high = not_back
sorted (suc k) d low high = absurd (omega arith)

alone_sorted : (r : Env) → IsSorted (keys_cmp (by_a false)) (r ∷ [])
alone_sorted r k d low high = absurd (omega arith)

abbrev Sorted : List Env → List Env → Type 0
Sorted rows out = IsPermutation rows out × IsSorted (keys_cmp (by_a false)) out

abbrev sorting : Phys
sorting = Q.Sort (by_a false) scan_of_a

falling_dealt : OnlyParts falling scan_of_a ((at 2 ∷ []) ∷ (at 1 ∷ []) ∷ [])
falling_dealt = scan_only falling t (a ∷ []) (at 2 ∷ []) (at 1 ∷ []) refl refl

pub sorts : OnlyParts falling sorting ((at 2 ∷ []) ∷ (at 1 ∷ []) ∷ [])
sorts = record {
  allowed = into falling (L.Sort (by_a false) scan_of_a) _ (Q.rolls-Sort (by_a false) scan_of_a) _ (
    two (at 2 ∷ []) (at 1 ∷ []),
    falling_dealt.allowed,
    ((IsPermutation-refl (at 2 ∷ []), alone_sorted (at 2)), ((IsPermutation-refl (at 1 ∷ []), alone_sorted (at 1)), tt)),
  );
  no_other = λ others h.
      let over = out falling (L.Sort (by_a false) scan_of_a) _ (Q.rolls-Sort (by_a false) scan_of_a) others h in
      let parts = zip_two Sorted (at 2 ∷ []) (at 1 ∷ []) others (subst (λ (input : Parts). AllZip Sorted input others) (falling_dealt.no_other over.0 over.1) over.2) in
      parts.same ∙ (λ i. IsPermutation-one (at 2) parts.first parts.left.0 i ∷ IsPermutation-one (at 1) parts.second parts.right.0 i ∷ []);
}

abbrev sorted_parts : Parts
sorted_parts = (at 2 ∷ []) ∷ (at 1 ∷ []) ∷ []

one_then_two : Interleaves sorted_parts (at 1 ∷ at 2 ∷ [])
one_then_two = take_right (at 1) _ _ _ (whole_first (at 2 ∷ []))

two_then_one : Interleaves sorted_parts (at 2 ∷ at 1 ∷ [])
two_then_one = take_left (at 2) _ _ _ (whole_second (at 1 ∷ []))

parts_sorted : All (IsSorted (keys_cmp (by_a false))) sorted_parts
parts_sorted = All-from_recursion (IsSorted (keys_cmp (by_a false))) sorted_parts (alone_sorted (at 2), (alone_sorted (at 1), tt))

merged_rows : (rows : List Env) → Interleaves sorted_parts rows → IsSorted (keys_cmp (by_a false)) rows → rows ≡ at 1 ∷ at 2 ∷ []
merged_rows rows h sorted =
    ⊎_elim (λ e. absurd (unsorted (subst (IsSorted (keys_cmp (by_a false))) e sorted))) (λ e. e)
    (two_orders (at 2) (at 1) rows (interleaves_permutation sorted_parts rows h))

pub merge_orders : MergeOrders
merge_orders = record {
  merged = record {
    allowed = into falling (L.Merge (by_a false) sorting) _ (Q.rolls-Merge (by_a false) sorting) _ (sorted_parts, sorts.allowed, (at 1 ∷ at 2 ∷ [], one_then_two, (λ each. sorted), refl));
    no_other = λ others h.
        let over = out falling (L.Merge (by_a false) sorting) _ (Q.rolls-Merge (by_a false) sorting) others h in
        let same = sorts.no_other over.0 over.1 in
        let mixed = subst (λ (input : Parts). Interleaves input over.2.0) same over.2.1 in
        let in_order = over.2.2 (subst (All (IsSorted (keys_cmp (by_a false)))) (sym same) parts_sorted) in
        over.2.3 ∙ ap (in_first 2) (merged_rows over.2.0 mixed in_order);
  };
  gathered = into falling (L.Gather sorting) _ (Q.rolls-Gather sorting) _ (sorted_parts, sorts.allowed, (at 2 ∷ at 1 ∷ [], two_then_one, refl));
}
