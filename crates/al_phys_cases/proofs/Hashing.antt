-- What a hash exchange and a join allow over inputs that allow known parts.
use Rattle.std.proofs.Common.{◌≡◌, ℕ, Bool, true, false, cond, nat_eq, List, [], ◌∷◌, ◌++◌, map, filter, refl, ap, sym, subst, ◌∙◌}
use Rattle.std.specs.Prelude.{zip, ◌||◌, if◌then◌else◌}
use Rattle.std.specs.Cmp.Lexicographic.{pointwise}
use Rattle.std.specs.List.{AllZip}
use Rattle.std.specs.List.Sorted.{IsPermutation}
use Rattle.std.proofs.lemmas.List.Sorted.{IsPermutation-refl}
use Rattle.al_value.specs.declared.value.Value.{Value}
use Rattle.al_value.specs.declared.value.Value.TheVariants as V
use Rattle.al_func.specs.declared.func.Func.TheVariants as F
use Rattle.al_func.specs.Func.{apply, equal, is_true}
use Rattle.al_plan.specs.declared.expr.Var.{Var}
use Rattle.al_plan.specs.declared.expr.Expr.TheVariants as E
use Rattle.al_plan.specs.Eval.{Env, bind, eval, holds}
use Rattle.al_plan.specs.Allows.{Sets, beside, nulls, matches, or_alone}
use Rattle.al_plan.proofs.EvalLaws.{eval-Call, eval-Var}
use Rattle.al_plan.proofs.Moves.{IsPermutation-one}
use Rattle.al_phys.specs.declared.phys.JoinForm.{JoinForm}
use Rattle.al_phys.specs.declared.phys.JoinForm.TheVariants as J
use Rattle.al_phys.specs.declared.phys.Phys.{Phys}
use Rattle.al_phys.specs.declared.phys.Phys.TheVariants as Q
use Rattle.al_phys.specs.declared.phys.Phys.TheOpen as L
use Rattle.al_phys.specs.Operators.{phys_live}
use Rattle.al_phys.specs.Partition.{key_hash}
use Rattle.al_phys.specs.Parts.{Parts, part_of, Interleaves, IsHashed, IsBroadcast}
use Rattle.al_phys.specs.Gives.{is_outer, joined}
use Rattle.al_phys.proofs.OperatorLaws.{plive-Scan, plive-HashExchange}
use Rattle.al_cases.specs.Cases.{t, u, a, b, int, row, pair, same, two_and_one}
use Rattle.al_cases.proofs.Simple.{empty_input}
use Rattle.al_cases.proofs.Joined.{beside-rows, pair_b}
use Rattle.al_phys_cases.specs.PartCases.{at, OnlyParts, scan_of_a, scan_of_b, HashJoinPairs, LeftJoinKeeps, LoopJoinPairs}
use Rattle.al_phys_cases.proofs.Two.{two_each, both_of, zip_two, into, out, scan_only, first_alone, second_alone, whole_first, whole_second}

-- ---- hash

abbrev pub in_part : Var → ℕ → Env → Bool
in_part v j r = nat_eq (part_of 2 (v ∷ []) r) j

module _ (sets : Sets) (v : Var) (p : Phys) (xs ys : List Env) (input : OnlyParts sets p (xs ∷ ys ∷ [])) (a0 b0 a1 b1 left right : List Env)
    (fa0 : filter (in_part v 0) xs ≡ a0) (fb0 : filter (in_part v 0) ys ≡ b0) (fa1 : filter (in_part v 1) xs ≡ a1) (fb1 : filter (in_part v 1) ys ≡ b1) where
  abbrev Hashed : ℕ → List Env → Type 0
  Hashed j rows = Interleaves (filter (in_part v j) xs ∷ filter (in_part v j) ys ∷ []) rows

  abbrev exchange : Phys
  exchange = Q.HashExchange (v ∷ []) p

  first_is : map (filter (in_part v 0)) (xs ∷ ys ∷ []) ≡ a0 ∷ b0 ∷ []
  first_is = λ i. fa0 i ∷ fb0 i ∷ []

  second_is : map (filter (in_part v 1)) (xs ∷ ys ∷ []) ≡ a1 ∷ b1 ∷ []
  second_is = λ i. fa1 i ∷ fb1 i ∷ []

  pub hash_only : Interleaves (a0 ∷ b0 ∷ []) left → Interleaves (a1 ∷ b1 ∷ []) right → ((rows : List Env) → Interleaves (a0 ∷ b0 ∷ []) rows → rows ≡ left) → ((rows : List Env) → Interleaves (a1 ∷ b1 ∷ []) rows → rows ≡ right)
      → OnlyParts sets (Q.HashExchange (v ∷ []) p) (left ∷ right ∷ [])
  hash_only l r only_l only_r = record {
    allowed = into sets (L.HashExchange (v ∷ []) p) exchange (Q.rolls-HashExchange (v ∷ []) p) (left ∷ right ∷ []) (
      xs ∷ ys ∷ [],
      input.allowed,
      two_each Hashed left right (subst (λ (ps : Parts). Interleaves ps left) (sym first_is) l) (subst (λ (ps : Parts). Interleaves ps right) (sym second_is) r),
    );
    no_other = λ others h.
        let over = out sets (L.HashExchange (v ∷ []) p) exchange (Q.rolls-HashExchange (v ∷ []) p) others h in
        let parts = both_of Hashed others (subst (λ (ps : Parts). IsHashed 2 (v ∷ []) ps others) (input.no_other over.0 over.1) over.2) in
        parts.same ∙ (λ i. only_l parts.first (subst (λ (ps : Parts). Interleaves ps parts.first) first_is parts.left) i ∷ only_r parts.second (subst (λ (ps : Parts). Interleaves ps parts.second) second_is parts.right) i ∷ []);
  }

-- ---- joins

module _ (sets : Sets) (form : JoinForm) (l r : Phys) (lives : phys_live l ≡ a ∷ []) (xs ys zs ws left right : List Env) (lefts : OnlyParts sets l (xs ∷ ys ∷ [])) (rights : OnlyParts sets r (zs ∷ ws ∷ []))
    (pairs_first : joined (is_outer form) (a ∷ []) same xs zs ≡ left) (pairs_second : joined (is_outer form) (a ∷ []) same ys ws ≡ right) where
  abbrev Pairs : List Var → List Env × List Env → List Env → Type 0
  Pairs vars both out = IsPermutation (joined (is_outer form) vars same both.0 both.1) out

  abbrev joins : Phys
  joins = Q.Join form same l r

  pub join_only : ((out : List Env) → IsPermutation left out → out ≡ left) → ((out : List Env) → IsPermutation right out → out ≡ right) → OnlyParts sets (Q.Join form same l r) (left ∷ right ∷ [])
  join_only only_l only_r = record {
    allowed = into sets (L.Join form same l r) joins (Q.rolls-Join form same l r) (left ∷ right ∷ []) (
      xs ∷ ys ∷ [],
      lefts.allowed,
      (
        zs ∷ ws ∷ [],
        rights.allowed,
        subst (λ (vars : List Var). AllZip (Pairs vars) ((xs, zs) ∷ (ys, ws) ∷ []) (left ∷ right ∷ [])) (sym lives)
            (subst (λ (rows : List Env). IsPermutation rows left) (sym pairs_first) (IsPermutation-refl left), (subst (λ (rows : List Env). IsPermutation rows right) (sym pairs_second) (IsPermutation-refl right), tt)),
      ),
    );
    no_other = λ others h.
        let over = out sets (L.Join form same l r) joins (Q.rolls-Join form same l r) others h in
        let under = over.2 in
        let zipped : AllZip (Pairs (phys_live l)) ((xs, zs) ∷ (ys, ws) ∷ []) others = subst (λ (ps : Parts). AllZip (Pairs (phys_live l)) (zip (xs ∷ ys ∷ []) ps) others) (rights.no_other under.0 under.1)
        (subst (λ (ps : Parts). AllZip (Pairs (phys_live l)) (zip ps under.0) others) (lefts.no_other over.0 over.1) under.2) in
        let parts = zip_two (Pairs (a ∷ [])) (xs, zs) (ys, ws) others (subst (λ (vars : List Var). AllZip (Pairs vars) ((xs, zs) ∷ (ys, ws) ∷ []) others) lives zipped) in
        parts.same ∙ (λ i. only_l parts.first (subst (λ (rows : List Env). IsPermutation rows parts.first) pairs_first parts.left) i ∷ only_r parts.second (subst (λ (rows : List Env). IsPermutation rows parts.second) pairs_second parts.right) i ∷ []);
  }

-- ---- the rows of the joins

chosen_if : (h k : Bool) (v : Value) → (if h || false then (if h then v else V.Null) else V.Null) ≡ (if h then v else (if k then V.Null else V.Null))
chosen_if true k v = refl
chosen_if false true v = refl
chosen_if false false v = refl

pub beside_null : (v : Value) → beside (a ∷ []) (row a v) nulls ≡ pair v V.Null
unfolding bind
beside_null v = λ i q. chosen_if (pointwise nat_eq a.name q) (pointwise nat_eq b.name q) v i

pair_a : (v w : Value) → pair v w a.name ≡ v
unfolding bind
pair_a v w = refl

pub eval_same : (r : Env) → eval same r ≡ equal (r a.name) (r b.name)
unfolding apply
eval_same r = eval-Call F.Eq (E.Var a ∷ E.Var b ∷ []) r ∙ (λ i. equal (eval-Var a r i) (eval-Var b r i))

holds_same : (v w : Value) → holds same (pair v w) ≡ is_true (equal v w)
holds_same v w = ap is_true (eval_same (pair v w) ∙ (λ i. equal (pair_a v w i) (pair_b v w i)))

pub matched : (v w : Value) → matches (a ∷ []) same (row b w ∷ []) (row a v) ≡ cond (is_true (equal v w)) (pair v w ∷ []) []
matched v w = ap (λ (r : Env). filter (holds same) (r ∷ [])) (beside-rows a b v w) ∙ ap (λ h. cond h (pair v w ∷ []) []) (holds_same v w)

abbrev with_one : List Env
with_one = row b (int 1) ∷ []

one_pairs : joined false (a ∷ []) same (at 1 ∷ []) (row b (int 1) ∷ []) ≡ pair (int 1) (int 1) ∷ []
one_pairs = λ i. matched (int 1) (int 1) i ++ []

pub one_pairs_left : joined true (a ∷ []) same (at 1 ∷ []) (row b (int 1) ∷ []) ≡ pair (int 1) (int 1) ∷ []
one_pairs_left = λ i. or_alone (beside (a ∷ []) (at 1) nulls) (matched (int 1) (int 1) i) ++ []

two_alone : joined true (a ∷ []) same (at 2 ∷ []) [] ≡ pair (int 2) V.Null ∷ []
two_alone = λ i. beside_null (int 2) i ∷ []

two_unmatched : joined true (a ∷ []) same (at 2 ∷ []) (row b (int 1) ∷ []) ≡ pair (int 2) V.Null ∷ []
two_unmatched = λ i. or_alone (beside_null (int 2) i) (matched (int 2) (int 1) i) ++ []

-- ---- the inputs of the joins

ones_dealt : OnlyParts two_and_one scan_of_a ((at 1 ∷ []) ∷ (at 2 ∷ []) ∷ [])
ones_dealt = scan_only two_and_one t (a ∷ []) (at 1 ∷ []) (at 2 ∷ []) refl refl

rights_dealt : OnlyParts two_and_one scan_of_b ((row b (int 1) ∷ []) ∷ [] ∷ [])
rights_dealt = scan_only two_and_one u (b ∷ []) (row b (int 1) ∷ []) [] refl refl

pub one_first : filter (in_part a 0) (at 1 ∷ []) ≡ []
unfolding key_hash bind
one_first = refl

pub one_second : filter (in_part a 1) (at 1 ∷ []) ≡ at 1 ∷ []
unfolding key_hash bind
one_second = refl

two_first : filter (in_part a 0) (at 2 ∷ []) ≡ at 2 ∷ []
unfolding key_hash bind
two_first = refl

two_second : filter (in_part a 1) (at 2 ∷ []) ≡ []
unfolding key_hash bind
two_second = refl

right_first : filter (in_part b 0) (row b (int 1) ∷ []) ≡ []
unfolding key_hash bind
right_first = refl

right_second : filter (in_part b 1) (row b (int 1) ∷ []) ≡ row b (int 1) ∷ []
unfolding key_hash bind
right_second = refl

left_hashed : OnlyParts two_and_one (Q.HashExchange (a ∷ []) scan_of_a) ((at 2 ∷ []) ∷ (at 1 ∷ []) ∷ [])
left_hashed = hash_only two_and_one a scan_of_a (at 1 ∷ []) (at 2 ∷ []) ones_dealt [] (at 2 ∷ []) (at 1 ∷ []) [] (at 2 ∷ []) (at 1 ∷ []) one_first two_first one_second two_second
    (whole_second (at 2 ∷ [])) (whole_first (at 1 ∷ [])) (second_alone (at 2 ∷ [])) (first_alone (at 1 ∷ []))

right_hashed : OnlyParts two_and_one (Q.HashExchange (b ∷ []) scan_of_b) ([] ∷ (row b (int 1) ∷ []) ∷ [])
right_hashed = hash_only two_and_one b scan_of_b (row b (int 1) ∷ []) [] rights_dealt [] [] (row b (int 1) ∷ []) [] [] (row b (int 1) ∷ []) right_first refl right_second refl
    (whole_first []) (whole_first (row b (int 1) ∷ [])) (first_alone []) (first_alone (row b (int 1) ∷ []))

pub live_scan : phys_live scan_of_a ≡ a ∷ []
live_scan = plive-Scan t (a ∷ [])

live_hashed : phys_live (Q.HashExchange (a ∷ []) scan_of_a) ≡ a ∷ []
live_hashed = plive-HashExchange (a ∷ []) scan_of_a ∙ live_scan

pub hash_join_pairs : HashJoinPairs
hash_join_pairs = join_only two_and_one J.HashJoin _ _ live_hashed (at 2 ∷ []) (at 1 ∷ []) [] (row b (int 1) ∷ []) [] (pair (int 1) (int 1) ∷ []) left_hashed right_hashed refl one_pairs empty_input (IsPermutation-one (pair (int 1) (int 1)))

pub left_join_keeps : LeftJoinKeeps
left_join_keeps = join_only two_and_one J.HashLeftJoin _ _ live_hashed (at 2 ∷ []) (at 1 ∷ []) [] (row b (int 1) ∷ []) (pair (int 2) V.Null ∷ []) (pair (int 1) (int 1) ∷ []) left_hashed right_hashed two_alone one_pairs_left
    (IsPermutation-one (pair (int 2) V.Null)) (IsPermutation-one (pair (int 1) (int 1)))

-- ---- a copied right input

abbrev Copied : ℕ → List Env → Type 0
Copied j rows = Interleaves ((row b (int 1) ∷ []) ∷ [] ∷ []) rows

rights_copied : OnlyParts two_and_one (Q.Broadcast scan_of_b) ((row b (int 1) ∷ []) ∷ (row b (int 1) ∷ []) ∷ [])
rights_copied = record {
  allowed = into two_and_one (L.Broadcast scan_of_b) _ (Q.rolls-Broadcast scan_of_b) _ (_, rights_dealt.allowed, two_each Copied _ _ (whole_first with_one) (whole_first with_one));
  no_other = λ others h.
      let over = out two_and_one (L.Broadcast scan_of_b) _ (Q.rolls-Broadcast scan_of_b) others h in
      let parts = both_of Copied others (subst (λ (ps : Parts). IsBroadcast 2 ps others) (rights_dealt.no_other over.0 over.1) over.2) in
      parts.same ∙ (λ i. first_alone with_one parts.first parts.left i ∷ first_alone with_one parts.second parts.right i ∷ []);
}

pub loop_join_pairs : LoopJoinPairs
loop_join_pairs = join_only two_and_one J.LoopLeftJoin _ _ live_scan (at 1 ∷ []) (at 2 ∷ []) (row b (int 1) ∷ []) (row b (int 1) ∷ []) (pair (int 1) (int 1) ∷ []) (pair (int 2) V.Null ∷ []) ones_dealt rights_copied one_pairs_left two_unmatched
    (IsPermutation-one (pair (int 1) (int 1))) (IsPermutation-one (pair (int 2) V.Null))
