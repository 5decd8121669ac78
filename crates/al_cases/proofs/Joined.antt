-- The cases over two scans.
use Rattle.std.proofs.Common.{◌≡◌, Bool, true, false, cond, List, [], ◌∷◌, ◌++◌, map, flat_map, filter, refl, ap, sym, subst, ◌∙◌}
use Rattle.std.specs.Prelude.{◌||◌, nat_eq, if◌then◌else◌}
use Rattle.std.specs.Cmp.Lexicographic.{pointwise}
use Rattle.std.specs.List.Sorted.{IsPermutation}
use Rattle.std.proofs.lemmas.List.Sorted.{IsPermutation-refl, IsPermutation-trans, IsPermutation-append_left, IsPermutation-map}
use Rattle.al_value.specs.declared.value.Value.{Value}
use Rattle.al_value.specs.declared.value.Value.TheVariants as V
use Rattle.al_func.specs.declared.func.Func.TheVariants as F
use Rattle.al_func.specs.Func.{apply, equal, is_true}
use Rattle.al_plan.specs.declared.expr.Var.{Var}
use Rattle.al_plan.specs.declared.expr.Expr.TheVariants as E
use Rattle.al_plan.specs.Eval.{Env, bind, eval, holds}
use Rattle.al_plan.specs.Allows.{Sets, live, beside, nulls, renamed, matches, or_alone, pairs, left_pairs}
use Rattle.al_plan.proofs.EvalLaws.{eval-Call, eval-Var}
use Rattle.al_plan.proofs.PlanLaws.{allows_Scan, from_Scan, live-Scan, allows_Union, from_Union, allows_Join, from_Join, allows_LeftJoin, from_LeftJoin}
use Rattle.al_plan.proofs.Moves.{IsPermutation-one, IsPermutation-flat_map}
use Rattle.al_cases.specs.Cases.{t, u, a, b, n, int, row, pair, scan_a, scan_b, Answers, two_and_one, UnionKeepsAll, same, LeftJoinAlone, JoinDropsAlone, NullsDoNotJoin, one_column}
use Rattle.al_cases.proofs.Simple.{scanned, of_scan, row-at, empty_input}

abbrev pub ones : List Env
ones = row a (int 1) ∷ row a (int 2) ∷ []

abbrev pub one : List Env
one = row b (int 1) ∷ []

pub lefts : Answers two_and_one scan_a ones
lefts = scanned two_and_one ones (IsPermutation-refl ones)

pub rights : Answers two_and_one scan_b one
rights = allows_Scan u (b ∷ []) false two_and_one [] [] one (IsPermutation-refl one)

pub the_right : (rows : List Env) → Answers two_and_one scan_b rows → rows ≡ one
the_right rows h = IsPermutation-one (row b (int 1)) rows (from_Scan u (b ∷ []) false two_and_one [] [] rows h)

-- ---- union

rename_a : (v : Value) → renamed (n ∷ []) (a ∷ []) (row a v) ≡ row n v
rename_a v = ap (λ w. row n w) (row-at v)

pub row_b : (v : Value) → row b v b.name ≡ v
unfolding bind
row_b v = refl

rename_b : (v : Value) → renamed (n ∷ []) (b ∷ []) (row b v) ≡ row n v
rename_b v = ap (λ w. row n w) (row_b v)

abbrev new_left : Env → Env
new_left = renamed (n ∷ []) (a ∷ [])

abbrev new_right : Env → Env
new_right = renamed (n ∷ []) (b ∷ [])

joined_rows : map new_left ones ++ map new_right one ≡ row n (int 1) ∷ row n (int 2) ∷ row n (int 1) ∷ []
joined_rows = λ i. rename_a (int 1) i ∷ rename_a (int 2) i ∷ rename_b (int 1) i ∷ []

pub union_keeps_all : UnionKeepsAll
union_keeps_all = record {
  allowed = λ others h. allows_Union (n ∷ []) (a ∷ []) (b ∷ []) scan_a scan_b false two_and_one [] [] others
      (ones, lefts, (one, rights, subst (λ (rows : List Env). IsPermutation rows others) (sym joined_rows) h));
  no_other = λ others h.
      let left = from_Union (n ∷ []) (a ∷ []) (b ∷ []) scan_a scan_b false two_and_one [] [] others h in
      let right = left.2 in
      let moved = IsPermutation-append_left (map new_right one) _ _ (IsPermutation-map new_left ones left.0 (of_scan two_and_one left.0 left.1)) in
      let both = subst (λ (rows : List Env). IsPermutation (map new_left left.0 ++ map new_right rows) others) (the_right right.0 right.1) right.2 in
      subst (λ (rows : List Env). IsPermutation rows others) joined_rows (IsPermutation-trans _ _ _ moved both);
}

-- ---- joins

chosen_if : (h : Bool) (v w : Value) → (if h || false then (if h then v else V.Null) else w) ≡ (if h then v else w)
chosen_if true v w = refl
chosen_if false v w = refl

pub beside-rows : (x y : Var) (v w : Value) → beside (x ∷ []) (row x v) (row y w) ≡ bind (x ∷ y ∷ []) (v ∷ w ∷ [])
unfolding bind
beside-rows x y v w = λ i q. chosen_if (pointwise nat_eq x.name q) v (row y w q) i

beside_null : (v : Value) → beside (a ∷ []) (row a v) nulls ≡ pair v V.Null
unfolding bind
beside_null v = λ i q. (chosen_if (pointwise nat_eq a.name q) v V.Null ∙ null_again (pointwise nat_eq a.name q) (pointwise nat_eq b.name q)) i
  where
    null_again : (h k : Bool) → (if h then v else V.Null) ≡ (if h then v else (if k then V.Null else V.Null))
    null_again true k = refl
    null_again false true = refl
    null_again false false = refl

pair_a : (v w : Value) → pair v w a.name ≡ v
unfolding bind
pair_a v w = refl

pub pair_b : (v w : Value) → pair v w b.name ≡ w
unfolding bind
pair_b v w = refl

eval_same : (r : Env) → eval same r ≡ equal (r a.name) (r b.name)
unfolding apply
eval_same r = eval-Call F.Eq (E.Var a ∷ E.Var b ∷ []) r ∙ (λ i. equal (eval-Var a r i) (eval-Var b r i))

holds_same : (v w : Value) → holds same (pair v w) ≡ is_true (equal v w)
holds_same v w = ap is_true (eval_same (pair v w) ∙ (λ i. equal (pair_a v w i) (pair_b v w i)))

matched : (v w : Value) → matches (a ∷ []) same (row b w ∷ []) (row a v) ≡ cond (is_true (equal v w)) (pair v w ∷ []) []
matched v w = ap (λ (r : Env). filter (holds same) (r ∷ [])) (beside-rows a b v w) ∙ ap (λ h. cond h (pair v w ∷ []) []) (holds_same v w)

abbrev pub alone : List Env → Env → List Env
alone rights l = or_alone (beside (a ∷ []) l nulls) (matches (a ∷ []) same rights l)

pub left_rows : flat_map (alone one) ones ≡ pair (int 1) (int 1) ∷ pair (int 2) V.Null ∷ []
left_rows = λ i. or_alone (beside (a ∷ []) (row a (int 1)) nulls) (matched (int 1) (int 1) i) ++ (or_alone (beside_null (int 2) i) (matched (int 2) (int 1) i) ++ [])

inner_rows : flat_map (matches (a ∷ []) same one) ones ≡ pair (int 1) (int 1) ∷ []
inner_rows = λ i. matched (int 1) (int 1) i ++ (matched (int 2) (int 1) i ++ [])

pub live_a : live scan_a [] ≡ a ∷ []
live_a = live-Scan t (a ∷ []) []

pub left_join_alone : LeftJoinAlone
left_join_alone = record {
  allowed = λ others h. allows_LeftJoin same scan_a scan_b false two_and_one [] [] others
      (ones, lefts, (one, rights, rw (live_a) (subst (λ (rows : List Env). IsPermutation rows others) (sym left_rows) h)));
  no_other = λ others h.
      let left = from_LeftJoin same scan_a scan_b false two_and_one [] [] others h in
      let right = left.2 in
      let moved = IsPermutation-flat_map (alone one) ones left.0 (of_scan two_and_one left.0 left.1) in
      let known = subst (λ (vars : List Var). IsPermutation (left_pairs vars same left.0 right.0) others) live_a right.2 in
      let both = subst (λ (rows : List Env). IsPermutation (left_pairs (a ∷ []) same left.0 rows) others) (the_right right.0 right.1) known in
      subst (λ (rows : List Env). IsPermutation rows others) left_rows (IsPermutation-trans _ _ _ moved both);
}

pub join_drops_alone : JoinDropsAlone
join_drops_alone = record {
  allowed = allows_Join same scan_a scan_b false two_and_one [] [] _
      (ones, lefts, (one, rights, rw (live_a) (subst (λ (rows : List Env). IsPermutation rows (pair (int 1) (int 1) ∷ [])) (sym inner_rows) (IsPermutation-refl _))));
  no_other = λ others h.
      let left = from_Join same scan_a scan_b false two_and_one [] [] others h in
      let right = left.2 in
      let moved = IsPermutation-flat_map (matches (a ∷ []) same one) ones left.0 (of_scan two_and_one left.0 left.1) in
      let known = subst (λ (vars : List Var). IsPermutation (pairs vars same left.0 right.0) others) live_a right.2 in
      let both = subst (λ (rows : List Env). IsPermutation (pairs (a ∷ []) same left.0 rows) others) (the_right right.0 right.1) known in
      IsPermutation-one _ others (subst (λ (rows : List Env). IsPermutation rows others) inner_rows (IsPermutation-trans _ _ _ moved both));
}

-- ---- NULL with NULL

abbrev sets_null : Sets
sets_null = one_column (V.Null ∷ [])

abbrev null_left : List Env
null_left = row a V.Null ∷ []

abbrev null_right : List Env
null_right = row b V.Null ∷ []

no_pairs : (left right : List Env) → Answers sets_null scan_a left → Answers sets_null scan_b right → pairs (live scan_a []) same left right ≡ []
no_pairs left right h k =
    let lefts = IsPermutation-one (row a V.Null) left (of_scan sets_null left h) in
    let rights = IsPermutation-one (row b V.Null) right (from_Scan u (b ∷ []) false sets_null [] [] right k) in
    (λ i. pairs (live_a i) same (lefts i) (rights i)) ∙ (λ i. matched V.Null V.Null i ++ [])

pub nulls_do_not_join : NullsDoNotJoin
nulls_do_not_join = record {
  allowed =
      let l = scanned sets_null null_left (IsPermutation-refl null_left) in
      let r = allows_Scan u (b ∷ []) false sets_null [] [] null_right (IsPermutation-refl null_right) in
      allows_Join same scan_a scan_b false sets_null [] [] [] (null_left, l, (null_right, r, subst (λ (rows : List Env). IsPermutation rows []) (sym (no_pairs null_left null_right l r)) (IsPermutation-refl [])));
  no_other = λ others h.
      let left = from_Join same scan_a scan_b false sets_null [] [] others h in
      let right = left.2 in
      empty_input others (subst (λ (rows : List Env). IsPermutation rows others) (no_pairs left.0 right.0 left.1 right.1) right.2);
}
