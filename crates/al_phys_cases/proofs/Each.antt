-- The cases of operators that work on each part by itself.
use Rattle.std.proofs.Common.{◌≡◌, ⊎_elim, ℕ, false, List, [], ◌∷◌, map, take, drop, refl, ap, sym, subst, ◌∙◌, arith}
use Rattle.std.specs.Prelude.{◌≢◌, zip}
use Rattle.std.specs.List.{All, AllByRecursion, AllPairs, AllZip, Contains}
use Rattle.std.proofs.lemmas.List.Elements.{All-from_recursion, All-contains, recursion_from_All}
use Rattle.al_value.specs.declared.value.Value.{Value}
use Rattle.al_plan.specs.Eval.{Env, bind}
use Rattle.al_plan.specs.Allows.{Sets, cut, renamed, IsDistinctOf}
use Rattle.al_plan.proofs.Moves.{map-AllZip}
use Rattle.al_plan.proofs.RowLaws.{bind-cut}
use Rattle.al_phys.specs.declared.phys.Phys.{Phys, roll-Phys}
use Rattle.al_phys.specs.declared.phys.Phys.TheVariants as Q
use Rattle.al_phys.specs.declared.phys.Phys.TheOpen as L
use Rattle.al_phys.specs.Parts.{Parts, Interleaves}
use Rattle.al_phys.specs.PAllows.{Over, PAllows}
use Rattle.al_phys.proofs.PhysLaws.{PLayer}
use Rattle.al_phys.proofs.PartLaws.{interleaves_permutation}
use Rattle.al_cases.specs.Cases.{t, a, b, n, int, row, pair, a_pair, one_and_two}
use Rattle.al_cases.proofs.Simple.{row-at, two_orders}
use Rattle.al_phys_cases.specs.PartCases.{at, OnlyParts, scan_of_a, three, twice}
use Rattle.al_phys_cases.specs.EachPartCases.{LimitInParts, LocalLimitInParts, ProjectInParts, ResultInParts, DistinctInParts, DistinctOverHash, UnionInParts}
use Rattle.al_phys_cases.proofs.Two.{zip_two, into, out, scan_only, take_left, whole_second}
use Rattle.al_phys_cases.proofs.Exchanges.{scan_deals}
use Rattle.al_phys_cases.proofs.GroupRows.{twice_dealt, twice_hashed, split_dealt}

-- ---- what is done to each part

module _ (sets : Sets) (p : Phys) (f : List Env → List Env) where
  abbrev Done : Parts → Type 0
  Done parts = Over (PAllows p) false sets 2 (λ input. AllZip (λ rows r. r ≡ f rows) input parts)

  each_only : (x : L.Phys-F Phys) (q : Phys) → roll-Phys x ≡ q → ((parts : Parts) → Done parts → PLayer x false sets 2 parts) → ((parts : Parts) → PLayer x false sets 2 parts → Done parts)
      → (xs ys left right : List Env) → OnlyParts sets p (xs ∷ ys ∷ []) → f xs ≡ left → f ys ≡ right → OnlyParts sets q (left ∷ right ∷ [])
  each_only x q e there back xs ys left right input first second = record {
    allowed = into sets x q e (left ∷ right ∷ []) (there (left ∷ right ∷ []) (xs ∷ ys ∷ [], input.allowed, (sym first, (sym second, tt))));
    no_other = λ others h.
        let over = back others (out sets x q e others h) in
        let parts = map-AllZip f (xs ∷ ys ∷ []) others (subst (λ (ps : Parts). AllZip (λ rows r. r ≡ f rows) ps others) (input.no_other over.0 over.1) over.2) in
        parts ∙ (λ i. first i ∷ second i ∷ []);
  }

pub limit_in_parts : LimitInParts
limit_in_parts = each_only three scan_of_a (λ rows. take 1 (drop 1 rows)) (L.Limit 1 1 scan_of_a) _ (Q.rolls-Limit 1 1 scan_of_a) (λ parts h. h) (λ parts h. h) _ _ (at 3 ∷ []) [] scan_deals refl refl

pub local_limit_in_parts : LocalLimitInParts
local_limit_in_parts = each_only three scan_of_a (take 1) (L.LocalLimit 1 scan_of_a) _ (Q.rolls-LocalLimit 1 scan_of_a) (λ parts h. h) (λ parts h. h) _ _ (at 1 ∷ []) (at 2 ∷ []) scan_deals refl refl

abbrev scan_of_ab : Phys
scan_of_ab = Q.Scan t (a ∷ b ∷ [])

pair_dealt : OnlyParts a_pair (Q.Scan t (a ∷ b ∷ [])) ((pair (int 1) (int 2) ∷ []) ∷ [] ∷ [])
pair_dealt = scan_only a_pair t (a ∷ b ∷ []) (pair (int 1) (int 2) ∷ []) [] refl refl

cut_pair : (v w : Value) → cut (a ∷ []) (pair v w) ≡ row a v
unfolding bind
cut_pair v w = sym (bind-cut (a ∷ []) (pair v w))

pub project_in_parts : ProjectInParts
project_in_parts = each_only a_pair scan_of_ab (map (cut (a ∷ []))) (L.Project (a ∷ []) scan_of_ab) _ (Q.rolls-Project (a ∷ []) scan_of_ab) (λ parts h. h) (λ parts h. h) _ _ (at 1 ∷ []) [] pair_dealt (λ i. cut_pair (int 1) (int 2) i ∷ []) refl

pub result_in_parts : ResultInParts
result_in_parts = each_only a_pair scan_of_ab (map (cut (a ∷ []))) (L.Result (a ∷ []) scan_of_ab) _ (Q.rolls-Result (a ∷ []) scan_of_ab) (λ parts h. h) (λ parts h. h) _ _ (at 1 ∷ []) [] pair_dealt (λ i. cut_pair (int 1) (int 2) i ∷ []) refl

-- ---- different rows

abbrev IsOne : Env → Type 0
IsOne r = r ≡ at 1

single : (kept : List Env) → AllByRecursion IsOne kept → Contains kept (at 1) → AllPairs ◌≢◌ kept → kept ≡ at 1 ∷ []
single [] h some once = absurd (let lt = some.1 in omega arith)
single (r ∷ []) h some once = ap (λ (s : Env). s ∷ []) h.0
single (r ∷ s ∷ kept) h some once = absurd (once 0 1 r (omega arith) (omega arith) (h.0 ∙ sym h.1.0))

one_kept : (rows kept : List Env) → All IsOne rows → Contains rows (at 1) → IsDistinctOf rows kept → kept ≡ at 1 ∷ []
one_kept rows kept ones some is =
    single kept (recursion_from_All IsOne kept (λ k d lt. All-contains IsOne rows _ ones (is.within k d lt))) (All-contains (Contains kept) rows (at 1) is.all some) is.once

none_kept : (kept : List Env) → IsDistinctOf [] kept → kept ≡ []
none_kept [] is = refl
none_kept (r ∷ kept) is = absurd (let lt = (is.within 0 r (omega arith)).1 in omega arith)

distinct_of : (rows : List Env) → All IsOne rows → Contains rows (at 1) → IsDistinctOf rows (at 1 ∷ [])
distinct_of rows ones some = record {
  within = All-from_recursion (Contains rows) (at 1 ∷ []) (some, tt);
  all = λ k d lt. subst (Contains (at 1 ∷ [])) (sym (ones k d lt)) (0, omega arith, refl);
  once = λ i j d lt low. absurd (omega arith);
}

no_rows_distinct : IsDistinctOf [] []
no_rows_distinct = record { within = λ k d lt. absurd (omega arith); all = λ k d lt. absurd (omega arith); once = λ i j d lt low. absurd (omega arith) }

distinct_only : (sets : Sets) (p : Phys) (xs ys left right : List Env) → OnlyParts sets p (xs ∷ ys ∷ []) → IsDistinctOf xs left → IsDistinctOf ys right → ((r : List Env) → IsDistinctOf xs r → r ≡ left) → ((r : List Env) → IsDistinctOf ys r → r ≡ right) → OnlyParts sets (Q.HashDistinct p) (left ∷ right ∷ [])
distinct_only sets p xs ys left right input l r only_l only_r = record {
  allowed = into sets (L.HashDistinct p) _ (Q.rolls-HashDistinct p) (left ∷ right ∷ []) (xs ∷ ys ∷ [], input.allowed, (l, (r, tt)));
  no_other = λ others h.
      let over = out sets (L.HashDistinct p) _ (Q.rolls-HashDistinct p) others h in
      let parts = zip_two IsDistinctOf xs ys others (subst (λ (ps : Parts). AllZip IsDistinctOf ps others) (input.no_other over.0 over.1) over.2) in
      parts.same ∙ (λ i. only_l parts.first parts.left i ∷ only_r parts.second parts.right i ∷ []);
}

a_one : All IsOne (at 1 ∷ [])
a_one = All-from_recursion IsOne (at 1 ∷ []) (refl, tt)

two_ones : All IsOne (at 1 ∷ at 1 ∷ [])
two_ones = All-from_recursion IsOne (at 1 ∷ at 1 ∷ []) (refl, (refl, tt))

pub distinct_in_parts : DistinctInParts
distinct_in_parts = distinct_only twice scan_of_a (at 1 ∷ []) (at 1 ∷ []) (at 1 ∷ []) (at 1 ∷ []) twice_dealt (distinct_of (at 1 ∷ []) a_one (0, omega arith, refl)) (distinct_of (at 1 ∷ []) a_one (0, omega arith, refl))
    (λ r h. one_kept (at 1 ∷ []) r a_one (0, omega arith, refl) h) (λ r h. one_kept (at 1 ∷ []) r a_one (0, omega arith, refl) h)

pub distinct_over_hash : DistinctOverHash
distinct_over_hash = distinct_only twice _ [] (at 1 ∷ at 1 ∷ []) [] (at 1 ∷ []) twice_hashed no_rows_distinct (distinct_of (at 1 ∷ at 1 ∷ []) two_ones (0, omega arith, refl))
    none_kept (λ r h. one_kept (at 1 ∷ at 1 ∷ []) r two_ones (0, omega arith, refl) h)

-- ---- a union

rename_a : (v : Value) → renamed (n ∷ []) (a ∷ []) (row a v) ≡ row n v
rename_a v = ap (λ w. row n w) (row-at v)

abbrev Mixed : List Env × List Env → List Env → Type 0
Mixed both r = Interleaves (map (renamed (n ∷ []) (a ∷ [])) both.0 ∷ map (renamed (n ∷ []) (a ∷ [])) both.1 ∷ []) r

abbrev new : ℕ → Env
new k = row n (int k)

-- a row of each input, which are the same
mixed_twice : (k : ℕ) → Mixed (at k ∷ [], at k ∷ []) (row n (int k) ∷ row n (int k) ∷ [])
mixed_twice k = subst (λ (r : Env). Interleaves ((r ∷ []) ∷ (r ∷ []) ∷ []) (new k ∷ new k ∷ [])) (sym (rename_a (int k))) (take_left (new k) [] (new k ∷ []) (new k ∷ []) (whole_second (new k ∷ [])))

twice_only : (k : ℕ) (r : List Env) → Mixed (at k ∷ [], at k ∷ []) r → r ≡ row n (int k) ∷ row n (int k) ∷ []
twice_only k r h =
    let mixed = subst (λ (s : Env). Interleaves ((s ∷ []) ∷ (s ∷ []) ∷ []) r) (rename_a (int k)) h in
    ⊎_elim (λ e. e) (λ e. e) (two_orders (new k) (new k) r (interleaves_permutation ((new k ∷ []) ∷ (new k ∷ []) ∷ []) r mixed))

abbrev union : Phys
union = Q.Union (n ∷ []) (a ∷ []) (a ∷ []) scan_of_a scan_of_a

abbrev split : Parts
split = (at 1 ∷ []) ∷ (at 2 ∷ []) ∷ []

abbrev pairs : List (List Env × List Env)
pairs = (at 1 ∷ [], at 1 ∷ []) ∷ (at 2 ∷ [], at 2 ∷ []) ∷ []

pub union_in_parts : UnionInParts
union_in_parts = record {
  allowed = into one_and_two (L.Union (n ∷ []) (a ∷ []) (a ∷ []) scan_of_a scan_of_a) union (Q.rolls-Union (n ∷ []) (a ∷ []) (a ∷ []) scan_of_a scan_of_a) _
      (split, split_dealt.allowed, (split, split_dealt.allowed, (mixed_twice 1, (mixed_twice 2, tt))));
  no_other = λ others h.
      let over = out one_and_two (L.Union (n ∷ []) (a ∷ []) (a ∷ []) scan_of_a scan_of_a) union (Q.rolls-Union (n ∷ []) (a ∷ []) (a ∷ []) scan_of_a scan_of_a) others h in
      let under = over.2 in
      let zipped : AllZip Mixed pairs others = subst (λ (ps : Parts). AllZip Mixed (zip split ps) others) (split_dealt.no_other under.0 under.1) (subst (λ (ps : Parts). AllZip Mixed (zip ps under.0) others) (split_dealt.no_other over.0 over.1) under.2) in
      let parts = zip_two Mixed (at 1 ∷ [], at 1 ∷ []) (at 2 ∷ [], at 2 ∷ []) others zipped in
      parts.same ∙ (λ i. twice_only 1 parts.first parts.left i ∷ twice_only 2 parts.second parts.right i ∷ []);
}
