-- The cases of groups and of an aggregate.
use Rattle.std.proofs.Common.{◌≡◌, ⊎_elim, ◌<◌, ℕ, false, List, [], ◌∷◌, ◌++◌, flat_map, length, refl, ap, sym, subst, ◌∙◌, arith, append-nil}
use Rattle.std.specs.Int.{int_wrap}
use Rattle.std.specs.List.{All, AllZip}
use Rattle.std.specs.List.Sorted.{IsPermutation}
use Rattle.std.proofs.lemmas.List.Elements.{All-from_recursion, All-contains, Contains-append_right}
use Rattle.std.proofs.lemmas.List.Sorted.{IsPermutation-refl, length_permutation, All-permutation}
use Rattle.al_value.specs.declared.value.Value.{Value}
use Rattle.al_agg.specs.Agg.{agg}
use Rattle.al_plan.specs.declared.expr.Var.{Var}
use Rattle.al_plan.specs.declared.plan.Plan.TheVariants as P
use Rattle.al_plan.specs.Eval.{Env}
use Rattle.al_plan.specs.Calls.{agg_call}
use Rattle.al_plan.specs.Allows.{Sets, Allows, Gives, live, nulls, with_new, agg_row, key_of, new_of, Group, rows_in, IsGrouping}
use Rattle.al_plan.proofs.Moves.{IsPermutation-one, IsPermutation-same}
use Rattle.al_phys.specs.declared.phys.Phys.{Phys}
use Rattle.al_phys.specs.declared.phys.Phys.TheVariants as Q
use Rattle.al_phys.specs.declared.phys.Phys.TheOpen as L
use Rattle.al_phys.specs.Operators.{phys_live}
use Rattle.al_phys.specs.Parts.{Parts, in_first, first_part, Interleaves}
use Rattle.al_phys.specs.Gives.{IsGrouped}
use Rattle.al_phys.proofs.OperatorLaws.{plive-Scan, plive-HashExchange}
use Rattle.al_phys.proofs.PartLaws.{interleaves_permutation}
use Rattle.al_cases.specs.Cases.{t, a, b, n, int, row, counting, scan_a, one_and_two}
use Rattle.al_cases.proofs.Simple.{row-at, two_orders, empty_input}
use Rattle.al_cases.proofs.Joined.{live_a}
use Rattle.al_cases.proofs.Nests.{same_count}
use Rattle.al_cases.proofs.Groups.{group_gives, group_makes}
use Rattle.al_phys_cases.specs.PartCases.{at, OnlyParts, InParts, scan_of_a, twice, grouped, counted, count, GroupOverHash, GroupInParts, CountsAreJoined}
use Rattle.al_phys_cases.proofs.Two.{zip_two, into, out, scan_only, take_left, whole_second, first_alone, whole_first}
use Rattle.al_phys_cases.proofs.Hashing.{hash_only, one_first, one_second}

abbrev keys : List (Var × Var)
keys = (b, a) ∷ []

-- ---- the row of one group

module _ (sets : Sets) (k : ℕ) (some : List Env) (long : 0 < length some) (counts : agg_row count some ≡ row n (int k)) where
  abbrev Row : Group → Env → Type 0
  Row g r = Gives (Allows (counting P.Nested)) false sets (live scan_a []) (rows_in g) (λ inner. r ≡ with_new (new_of keys) (key_of keys g.0) inner)

  abbrev IsOne : Env → Type 0
  IsOne r = r ≡ at 1

  key_known : (r : Env) → r ≡ at 1 → key_of keys r ≡ int 1 ∷ []
  key_known r e = ap (key_of keys) e ∙ ap (λ (w : Value). w ∷ []) (row-at (int 1))

  -- rows that all are the row of 1 are one group
  one_made : (rows : List Env) → All IsOne rows → length rows ≡ length some → (groups : List Group) (made : List Env) → IsGrouping keys rows groups → AllZip Row groups made → made ≡ counted 1 k ∷ []
  one_made rows alike same [] made is zip = absurd (omega (arith, length_permutation _ _ is.moved, same, long))
  one_made rows alike same (g ∷ []) [] is zip = absurd zip
  one_made rows alike same (g ∷ []) (x ∷ []) is zip =
      let all = All-permutation IsOne rows (rows_in g ++ []) is.moved alike in
      let size = ap length (sym (append-nil (rows_in g))) ∙ length_permutation rows (rows_in g ++ []) is.moved ∙ same in
      ap (λ (r : Env). r ∷ []) (group_makes sets (int 1) k some counts g (all 0 nulls (omega arith)) size x zip.0)
  one_made rows alike same (g ∷ []) (x ∷ y ∷ made) is zip = absurd zip.1
  one_made rows alike same (g ∷ h ∷ groups) made is zip =
      let flat = flat_map rows_in (g ∷ h ∷ groups) in
      let all = All-permutation IsOne rows flat is.moved alike in
      let second : IsOne h.0 = All-contains IsOne flat h.0 all (Contains-append_right (rows_in g) (flat_map rows_in (h ∷ groups)) h.0 (0, omega arith, refl)) in
      absurd (is.apart 0 1 g (omega arith) (omega arith) (key_known g.0 (all 0 nulls (omega arith)) ∙ sym (key_known h.0 second)))

  pub group_is : (rows : List Env) → All IsOne rows → length rows ≡ length some → (r : List Env) → IsGrouped keys (counting P.Nested) false sets (live scan_a []) rows r → r ≡ counted 1 k ∷ []
  group_is rows alike same r h = IsPermutation-one (counted 1 k) r (subst (λ (made : List Env). IsPermutation made r) (one_made rows alike same h.0 h.1 h.2 h.3) h.4)

  pub group_there : (g : Group) → g.0 ≡ at 1 → All (λ r. key_of keys r ≡ key_of keys g.0) g.1 → length (rows_in g) ≡ length some → IsGrouped keys (counting P.Nested) false sets (live scan_a []) (rows_in g) (counted 1 k ∷ [])
  group_there g first alike same = (
    g ∷ [],
    counted 1 k ∷ [],
    record {
      moved = IsPermutation-same _ _ (sym (append-nil (rows_in g)));
      alike = All-from_recursion (λ (h : Group). All (λ r. key_of keys r ≡ key_of keys h.0) h.1) (g ∷ []) (alike, tt);
      apart = λ i j d lt low. absurd (omega arith);
    },
    (group_gives sets (int 1) k some counts g first same, tt),
    IsPermutation-refl (counted 1 k ∷ []),
  )

no_made : (sets : Sets) (groups : List Group) (made r : List Env) → IsGrouping keys [] groups → AllZip (λ (g : Group) out. Gives (Allows (counting P.Nested)) false sets (live scan_a []) (rows_in g) (λ inner. out ≡ with_new (new_of keys) (key_of keys g.0) inner)) groups made → IsPermutation made r → r ≡ []
no_made sets [] [] r is zip moved = empty_input r moved
no_made sets [] (x ∷ made) r is zip moved = absurd zip
no_made sets (g ∷ groups) made r is zip moved = absurd (omega (arith, length_permutation _ _ is.moved))

no_group : (sets : Sets) → IsGrouped keys (counting P.Nested) false sets (live scan_a []) [] []
no_group sets = ([], [], record { moved = IsPermutation-refl []; alike = λ k d lt. absurd (omega arith); apart = λ i j d lt low. absurd (omega arith) }, tt, IsPermutation-refl [])

-- ---- groups in two parts

module _ (sets : Sets) (p : Phys) (lives : phys_live p ≡ a ∷ []) (xs ys left right : List Env) (input : OnlyParts sets p (xs ∷ ys ∷ [])) where
  abbrev Grouped : List Var → List Env → List Env → Type 0
  Grouped vars rows r = IsGrouped keys (counting P.Nested) false sets vars rows r

  same_live : phys_live p ≡ live scan_a []
  same_live = lives ∙ sym live_a

  pub group_only : Grouped (live scan_a []) xs left → Grouped (live scan_a []) ys right → ((r : List Env) → Grouped (live scan_a []) xs r → r ≡ left) → ((r : List Env) → Grouped (live scan_a []) ys r → r ≡ right) → OnlyParts sets (grouped p) (left ∷ right ∷ [])
  group_only l r only_l only_r = record {
    allowed = into sets (L.HashGroup keys (counting P.Nested) p) _ (Q.rolls-HashGroup keys (counting P.Nested) p) (left ∷ right ∷ [])
        (xs ∷ ys ∷ [], input.allowed, subst (λ (vars : List Var). AllZip (Grouped vars) (xs ∷ ys ∷ []) (left ∷ right ∷ [])) (sym same_live) (l, (r, tt)));
    no_other = λ others h.
        let over = out sets (L.HashGroup keys (counting P.Nested) p) _ (Q.rolls-HashGroup keys (counting P.Nested) p) others h in
        let zipped = subst (λ (ps : Parts). AllZip (Grouped (phys_live p)) ps others) (input.no_other over.0 over.1) over.2 in
        let parts = zip_two (Grouped (live scan_a [])) xs ys others (subst (λ (vars : List Var). AllZip (Grouped vars) (xs ∷ ys ∷ []) others) same_live zipped) in
        parts.same ∙ (λ i. only_l parts.first parts.left i ∷ only_r parts.second parts.right i ∷ []);
  }

-- ---- two rows of 1

one_row : agg_row count (nulls ∷ []) ≡ row n (int 1)
unfolding agg_call agg int_wrap
one_row = refl

two_rows : agg_row count (nulls ∷ nulls ∷ []) ≡ row n (int 2)
unfolding agg_call agg int_wrap
two_rows = refl

pub twice_dealt : OnlyParts twice scan_of_a ((at 1 ∷ []) ∷ (at 1 ∷ []) ∷ [])
twice_dealt = scan_only twice t (a ∷ []) (at 1 ∷ []) (at 1 ∷ []) refl refl

abbrev ones : List Env
ones = at 1 ∷ at 1 ∷ []

both_mixed : Interleaves ((at 1 ∷ []) ∷ (at 1 ∷ []) ∷ []) ones
both_mixed = take_left (at 1) [] (at 1 ∷ []) (at 1 ∷ []) (whole_second (at 1 ∷ []))

both_only : (rows : List Env) → Interleaves ((at 1 ∷ []) ∷ (at 1 ∷ []) ∷ []) rows → rows ≡ at 1 ∷ at 1 ∷ []
both_only rows h = ⊎_elim (λ e. e) (λ e. e) (two_orders (at 1) (at 1) rows (interleaves_permutation ((at 1 ∷ []) ∷ (at 1 ∷ []) ∷ []) rows h))

pub twice_hashed : OnlyParts twice (Q.HashExchange (a ∷ []) scan_of_a) ([] ∷ (at 1 ∷ at 1 ∷ []) ∷ [])
twice_hashed = hash_only twice a scan_of_a (at 1 ∷ []) (at 1 ∷ []) twice_dealt [] [] (at 1 ∷ []) (at 1 ∷ []) [] ones one_first one_first one_second one_second (whole_first []) both_mixed (first_alone []) both_only

live_scan : phys_live scan_of_a ≡ a ∷ []
live_scan = plive-Scan t (a ∷ [])

live_hashed : phys_live (Q.HashExchange (a ∷ []) scan_of_a) ≡ a ∷ []
live_hashed = plive-HashExchange (a ∷ []) scan_of_a ∙ live_scan

all_ones : All (λ (r : Env). r ≡ at 1) ones
all_ones = All-from_recursion (λ (r : Env). r ≡ at 1) ones (refl, (refl, tt))

a_one : All (λ (r : Env). r ≡ at 1) (at 1 ∷ [])
a_one = All-from_recursion (λ (r : Env). r ≡ at 1) (at 1 ∷ []) (refl, tt)

pub group_over_hash : GroupOverHash
group_over_hash = group_only twice _ live_hashed [] ones [] (counted 1 2 ∷ []) twice_hashed
    (no_group twice)
    (group_there twice 2 (nulls ∷ nulls ∷ []) (omega arith) two_rows (at 1, at 1 ∷ []) refl (All-from_recursion (λ (r : Env). key_of keys r ≡ key_of keys (at 1)) (at 1 ∷ []) (refl, tt)) refl)
    (λ r h. no_made twice h.0 h.1 r h.2 h.3 h.4)
    (λ r h. group_is twice 2 (nulls ∷ nulls ∷ []) (omega arith) two_rows ones all_ones refl r h)

one_group : IsGrouped keys (counting P.Nested) false twice (live scan_a []) (at 1 ∷ []) (counted 1 1 ∷ [])
one_group = group_there twice 1 (nulls ∷ []) (omega arith) one_row (at 1, []) refl (λ k d lt. absurd (omega arith)) refl

one_only : (r : List Env) → IsGrouped keys (counting P.Nested) false twice (live scan_a []) (at 1 ∷ []) r → r ≡ counted 1 1 ∷ []
one_only r h = group_is twice 1 (nulls ∷ []) (omega arith) one_row (at 1 ∷ []) a_one refl r h

pub group_in_parts : GroupInParts
group_in_parts = group_only twice scan_of_a live_scan (at 1 ∷ []) (at 1 ∷ []) (counted 1 1 ∷ []) (counted 1 1 ∷ []) twice_dealt one_group one_group one_only one_only

-- ---- a count in two parts

abbrev counted_parts : Phys
counted_parts = Q.AggPart count scan_of_a

abbrev joined_parts : Phys
joined_parts = Q.Gather counted_parts

abbrev split : Parts
split = (at 1 ∷ []) ∷ (at 2 ∷ []) ∷ []

pub split_dealt : OnlyParts one_and_two scan_of_a split
split_dealt = scan_only one_and_two t (a ∷ []) (at 1 ∷ []) (at 2 ∷ []) refl refl

part_only : (parts : Parts) → InParts one_and_two counted_parts parts → parts ≡ split
part_only parts h = split_dealt.no_other parts (out one_and_two (L.AggPart count scan_of_a) _ (Q.rolls-AggPart count scan_of_a) parts h)

part_allowed : InParts one_and_two counted_parts split
part_allowed = into one_and_two (L.AggPart count scan_of_a) _ (Q.rolls-AggPart count scan_of_a) split split_dealt.allowed

mixed : Interleaves split (at 1 ∷ at 2 ∷ [])
mixed = take_left (at 1) [] (at 2 ∷ []) (at 2 ∷ []) (whole_second (at 2 ∷ []))

two_of : (rows : List Env) → Interleaves split rows → agg_row count rows ≡ row n (int 2)
two_of rows h = same_count rows (nulls ∷ nulls ∷ []) (length_permutation _ rows (interleaves_permutation split rows h)) ∙ two_rows

pub counts_are_joined : CountsAreJoined
counts_are_joined = record {
  allowed = into one_and_two (L.AggFinal count joined_parts) _ (Q.rolls-AggFinal count joined_parts) _ (
    in_first 2 (at 1 ∷ at 2 ∷ []),
    into one_and_two (L.Gather counted_parts) _ (Q.rolls-Gather counted_parts) _ (split, part_allowed, (at 1 ∷ at 2 ∷ [], mixed, refl)),
    ap (λ (r : Env). in_first 2 (r ∷ [])) (sym (two_of (at 1 ∷ at 2 ∷ []) mixed)),
  );
  no_other = λ others h.
      let over = out one_and_two (L.AggFinal count joined_parts) _ (Q.rolls-AggFinal count joined_parts) others h in
      let under = out one_and_two (L.Gather counted_parts) _ (Q.rolls-Gather counted_parts) over.0 over.1 in
      let rows = subst (λ (ps : Parts). Interleaves ps under.2.0) (part_only under.0 under.1) under.2.1 in
      over.2 ∙ ap (λ (ps : Parts). in_first 2 (agg_row count (first_part ps) ∷ [])) under.2.2 ∙ ap (λ (r : Env). in_first 2 (r ∷ [])) (two_of under.2.0 rows);
}
