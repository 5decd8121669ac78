-- Joined rows: a pair is joined by its keys and the rest of the condition where the whole condition is TRUE.
use Rattle.std.proofs.Common.{◌≡◌, ◌+◌, ◌-◌, ℕ, zero, suc, Bool, true, false, cond, List, [], ◌∷◌, ◌++◌, map, filter, filter_map, replicate, length, length-append, refl, ap, sym, subst, ◌∙◌, Option, Some, None, Decides}
use Rattle.std.specs.Prelude.{◌&&◌, if◌then◌else◌, nat_eq}
use Rattle.std.specs.Cmp.{booleans_Decides}
use Rattle.std.specs.Cmp.Lexicographic.{pointwise, bytes_decides}
use Rattle.std.specs.List.{AllByRecursion, list_all, cons_option}
use Rattle.std.proofs.lemmas.Bool.Decides.{Decides-int_eq}
use Rattle.std.proofs.lemmas.List.Elements.{recursion_from_All}
use Rattle.al_value.specs.declared.value.Value.{Value}
use Rattle.al_value.specs.declared.value.Value.TheVariants as V
use Rattle.al_func.specs.declared.func.Func.TheVariants as F
use Rattle.al_func.specs.Func.{apply, equal, is_true}
use Rattle.al_plan.specs.declared.expr.Var.{Var}
use Rattle.al_plan.specs.declared.expr.Expr.{Expr, roll-Expr, map-Expr, ind-Expr, out-roll-Expr}
use Rattle.al_plan.specs.declared.expr.Expr.TheVariants as E
use Rattle.al_plan.specs.declared.expr.Expr.TheOpen as L
use Rattle.al_plan.specs.Eval.{Bytes, Env, bind, eval, holds}
use Rattle.al_plan.specs.Allows.{is_among, beside, nulls}
use Rattle.al_plan.specs.Allows as A
use Rattle.al_plan.specs.Refines.{NoTwice}
use Rattle.al_plan.proofs.Bools.{no, by_cases}
use Rattle.al_plan.proofs.EvalLaws.{eval-Var, eval-Call}
use Rattle.al_plan.proofs.Makes.{apart}
use Rattle.al_conj.specs.Conj.{conj}
use Rattle.al_conj.proofs.ConjLaws.{holds-conj, holds-all_of}
use Rattle.al_phys.specs.Properties.{variable_of, variable_step, sided, both_sided, equi_step, equi_key, equi_keys}
use Rattle.al_phys.specs.Gives.{joined}
use Rattle.al_phys.proofs.ValueLaws.{and_left, and_right}
use Rattle.hy_job.specs.Columns.{Row, column, is_pair, are_keys_equal, padded}
use Rattle.hy_job.specs.Columns as C
use Rattle.hy_job.specs.declared.job.JoinArg.{JoinArg}
use Rattle.al_jobgen.specs.Columns.{column_of, rex_of, is_none, residual, join_arg}
use Rattle.al_jobgen.specs.Agree.{IsAsWide, AreAsWide}
use Rattle.al_jobgen.proofs.ColumnBind.{bind-append}
use Rattle.al_jobgen.proofs.ColumnLists.{flat-through}
use Rattle.al_jobgen.proofs.ColumnLaws.{column_at, condition}

-- ---- equality is the same both ways

turned_test : {P Q : Type 0} (x y : Bool) → Decides x P → Decides y Q → (P → Q) → (Q → P) → x ≡ y
turned_test true true d e f g = refl
turned_test true false d e f g = sym (e.1 (f (d.0 refl)))
turned_test false true d e f g = d.1 (g (e.0 refl))
turned_test false false d e f g = refl

equal_turned : (a b : Value) → equal a b ≡ equal b a
equal_turned V.Null V.Null = refl
equal_turned V.Null (V.Bool b) = refl
equal_turned V.Null (V.Int b) = refl
equal_turned V.Null (V.Text b) = refl
equal_turned (V.Bool a) V.Null = refl
equal_turned (V.Bool a) (V.Bool b) = ap V.Bool (turned_test _ _ (booleans_Decides a b) (booleans_Decides b a) (λ e. sym e) (λ e. sym e))
equal_turned (V.Bool a) (V.Int b) = refl
equal_turned (V.Bool a) (V.Text b) = refl
equal_turned (V.Int a) V.Null = refl
equal_turned (V.Int a) (V.Bool b) = refl
equal_turned (V.Int a) (V.Int b) = ap V.Bool (turned_test _ _ (Decides-int_eq a b) (Decides-int_eq b a) (λ e. sym e) (λ e. sym e))
equal_turned (V.Int a) (V.Text b) = refl
equal_turned (V.Text a) V.Null = refl
equal_turned (V.Text a) (V.Bool b) = refl
equal_turned (V.Text a) (V.Int b) = refl
equal_turned (V.Text a) (V.Text b) = ap V.Bool (turned_test _ _ (bytes_decides a b) (bytes_decides b a) (λ e. sym e) (λ e. sym e))

applied : (v w : Value) → apply F.Eq (v ∷ w ∷ []) ≡ equal v w
unfolding apply
applied v w = refl

-- ---- what a key says

-- a claim of what is there
abbrev OnSome : {X : Type 0} → Option X → (X → Type 0) → Type 0
OnSome None P = Unit {0}
OnSome (Some x) P = P x

-- where an expression is a variable, it has the variable's value
abbrev IsVariable : Expr → Type 0
IsVariable e = OnSome (variable_of e) (λ v. (r : Env) → eval e r ≡ r v.name)

layer_variable : {S : Type 0} (up : S → Expr) (y : L.Expr-F S) → OnSome (variable_step (map-Expr S Expr up y)) (λ v. (r : Env) → eval (roll-Expr (map-Expr S Expr up y)) r ≡ r v.name)
layer_variable up (L.Var v) = λ r. ap (λ (e : Expr). eval e r) (E.rolls-Var v) ∙ eval-Var v r
layer_variable up (L.Lit v) = tt
layer_variable up (L.Call f args) = tt

variable_told : (e : Expr) → IsVariable e
variable_told = ind-Expr IsVariable (λ x y e. subst (λ (z : L.Expr-F Expr). IsVariable (roll-Expr z)) e
    (subst (λ (z : L.Expr-F Expr). OnSome (variable_step z) (λ v. (r : Env) → eval (roll-Expr (map-Expr _ Expr (λ s. s.0) y)) r ≡ r v.name)) (sym (out-roll-Expr (map-Expr _ Expr (λ s. s.0) y))) (layer_variable (λ s. s.0) y)))

module _ (ls rs : List Var) (l r : Row) (once : NoTwice (ls ++ rs)) where
  abbrev both_rows : Env
  both_rows = beside ls (bind ls l) (bind rs r)

  -- the values of a key are equal
  abbrev test : Var × Var → Bool
  test k = is_true (equal (bind ls l k.0.name) (bind rs r k.1.name))

  at_left : (q : Bytes) → is_among ls q ≡ true → both_rows q ≡ bind ls l q
  at_left q t = ap (λ (b : Bool). if b then bind ls l q else bind rs r q) t

  at_right : (q : Bytes) → is_among rs q ≡ true → both_rows q ≡ bind rs r q
  at_right q t = ap (λ (b : Bool). if b then bind ls l q else bind rs r q) (by_cases (is_among ls q) (λ u. absurd (no (sym t ∙ apart ls rs once q u))) (λ u. u))

  sided_told : (x y : Var) → OnSome (sided ls rs x y) (λ k. test k ≡ is_true (equal (both_rows x.name) (both_rows y.name)))
  sided_told x y = here (is_among ls x.name && is_among rs y.name) (is_among rs x.name && is_among ls y.name) (λ t. t) (λ t. t)
    where
      here : (a b : Bool) → (a ≡ true → (is_among ls x.name && is_among rs y.name) ≡ true) → (b ≡ true → (is_among rs x.name && is_among ls y.name) ≡ true)
          → OnSome (if a then Some (x, y) else if b then Some (y, x) else None) (λ k. test k ≡ is_true (equal (both_rows x.name) (both_rows y.name)))
      here true b f g = λ i. is_true (equal (sym (at_left x.name (and_left _ _ (f refl))) i) (sym (at_right y.name (and_right _ _ (f refl))) i))
      here false true f g =
          (λ i. is_true (equal (sym (at_left y.name (and_right _ _ (g refl))) i) (sym (at_right x.name (and_left _ _ (g refl))) i)))
          ∙ ap is_true (equal_turned (both_rows y.name) (both_rows x.name))
      here false false f g = tt

  both_told : (a b : Expr) (x y : Option Var) → OnSome x (λ v. (r : Env) → eval a r ≡ r v.name) → OnSome y (λ v. (r : Env) → eval b r ≡ r v.name) → OnSome (both_sided ls rs x y) (λ k. test k ≡ holds (E.Call F.Eq (a ∷ b ∷ [])) both_rows)
  both_told a b None None h g = tt
  both_told a b None (Some y) h g = tt
  both_told a b (Some x) None h g = tt
  both_told a b (Some x) (Some y) h g = on_same (sided ls rs x y) _ _ same (sided_told x y)
    where
      same : is_true (equal (both_rows x.name) (both_rows y.name)) ≡ holds (E.Call F.Eq (a ∷ b ∷ [])) both_rows
      same = ap is_true ((λ i. equal (sym (h both_rows) i) (sym (g both_rows) i)) ∙ sym (applied (eval a both_rows) (eval b both_rows)) ∙ sym (eval-Call F.Eq (a ∷ b ∷ []) both_rows))

      on_same : (k : Option (Var × Var)) (u v : Bool) → u ≡ v → OnSome k (λ k. test k ≡ u) → OnSome k (λ k. test k ≡ v)
      on_same None u v e h = tt
      on_same (Some k) u v e h = h ∙ e

  -- where an expression is a key, it is TRUE where the key's values are equal
  abbrev IsKey : Expr → Type 0
  IsKey e = OnSome (equi_key ls rs e) (λ k. test k ≡ holds e both_rows)

  step_told : (x : L.Expr-F Expr) → OnSome (equi_step ls rs x) (λ k. test k ≡ holds (roll-Expr x) both_rows)
  step_told (L.Var v) = tt
  step_told (L.Lit v) = tt
  step_told (L.Call F.Eq []) = tt
  step_told (L.Call F.Eq (a ∷ [])) = tt
  step_told (L.Call F.Eq (a ∷ b ∷ [])) = subst (λ (e : Expr). OnSome (both_sided ls rs (variable_of a) (variable_of b)) (λ k. test k ≡ holds e both_rows)) (sym (E.rolls-Call F.Eq (a ∷ b ∷ [])))
      (both_told a b (variable_of a) (variable_of b) (variable_told a) (variable_told b))
  step_told (L.Call F.Eq (a ∷ b ∷ c ∷ args)) = tt
  step_told (L.Call F.Lt args) = tt
  step_told (L.Call F.Le args) = tt
  step_told (L.Call F.And args) = tt
  step_told (L.Call F.Or args) = tt
  step_told (L.Call F.Not args) = tt
  step_told (L.Call F.Add args) = tt
  step_told (L.Call F.Sub args) = tt
  step_told (L.Call F.Mul args) = tt
  step_told (L.Call F.Div args) = tt
  step_told (L.Call F.Mod args) = tt
  step_told (L.Call F.Neg args) = tt
  step_told (L.Call F.Concat args) = tt
  step_told (L.Call F.Length args) = tt
  step_told (L.Call F.Substr args) = tt
  step_told (L.Call F.LowerAscii args) = tt
  step_told (L.Call F.If args) = tt
  step_told (L.Call F.IsNull args) = tt
  step_told (L.Call F.Coalesce args) = tt

  key_told : (e : Expr) → IsKey e
  key_told = ind-Expr IsKey (λ x y e. subst (λ (z : L.Expr-F Expr). IsKey (roll-Expr z)) e
      (subst (λ (z : L.Expr-F Expr). OnSome (equi_step ls rs z) (λ k. test k ≡ holds (roll-Expr (map-Expr _ Expr (λ s. s.0) y)) both_rows)) (sym (out-roll-Expr (map-Expr _ Expr (λ s. s.0) y))) (step_told (map-Expr _ Expr (λ s. s.0) y))))

  -- ---- keys and the rest

  abbrev others : List Expr → List Expr
  others es = filter (λ e. is_none (equi_key ls rs e)) es

  with_one : (k : Option (Var × Var)) (e : Expr) (ks : List (Var × Var)) (es : List Expr) (rest : Bool) → OnSome k (λ k. test k ≡ holds e both_rows) → (list_all test ks && list_all (λ e. holds e both_rows) es) ≡ rest
      → (list_all test (cons_option k ks) && list_all (λ e. holds e both_rows) (cond (is_none k) (e ∷ es) es)) ≡ (holds e both_rows && rest)
  with_one None e ks es rest h g = swapped (list_all test ks) (holds e both_rows) (list_all (λ e. holds e both_rows) es) ∙ ap (λ b. holds e both_rows && b) g
    where
      swapped : (a b c : Bool) → (a && (b && c)) ≡ (b && (a && c))
      swapped true b c = refl
      swapped false true c = refl
      swapped false false c = refl
  with_one (Some k) e ks es rest h g = grouped (test k) (list_all test ks) (list_all (λ e. holds e both_rows) es) ∙ (λ i. h i && g i)
    where
      grouped : (a b c : Bool) → ((a && b) && c) ≡ (a && (b && c))
      grouped true b c = refl
      grouped false b c = refl

  split_conjuncts : (es : List Expr) → (list_all test (filter_map (equi_key ls rs) es) && list_all (λ e. holds e both_rows) (others es)) ≡ list_all (λ e. holds e both_rows) es
  split_conjuncts [] = refl
  split_conjuncts (e ∷ es) = with_one (equi_key ls rs e) e (filter_map (equi_key ls rs) es) (others es) (list_all (λ e. holds e both_rows) es) (key_told e) (split_conjuncts es)

  module _ (wl : IsAsWide ls l) (wr : IsAsWide rs r) where
    keys_tested : (ks : List (Var × Var)) → are_keys_equal (map (λ k. column_of ls k.0.name) ks) (map (λ k. column_of rs k.1.name) ks) l r ≡ list_all test ks
    keys_tested [] = refl
    keys_tested (k ∷ ks) = λ i. is_true (equal (column_at ls l wl k.0.name i) (column_at rs r wr k.1.name i)) && keys_tested ks i

    wide : IsAsWide (ls ++ rs) (l ++ r)
    wide = simp length-append (λ i. wl i + wr i)

    over_both : (e : Expr) → C.holds (rex_of (ls ++ rs) e) (l ++ r) ≡ holds e both_rows
    over_both e = condition (ls ++ rs) (l ++ r) wide e ∙ ap (holds e) (bind-append ls rs l r wl)

    pub pair_same : (hash outer : Bool) (c : Expr) → is_pair (join_arg hash outer ls rs c) l r ≡ holds c both_rows
    pair_same true outer c =
        (λ i. keys_tested (equi_keys ls rs c) i && (over_both (residual ls rs c) ∙ holds-all_of (others (conj c)) both_rows) i)
        ∙ split_conjuncts (conj c) ∙ sym (holds-conj c both_rows)
    pair_same false outer c = over_both c

-- ---- lists of rows

module _ (ls rs : List Var) (once : NoTwice (ls ++ rs)) (hash outer : Bool) (c : Expr) where
  abbrev arg : JoinArg
  arg = join_arg hash outer ls rs c

  with_pair : (a b : Bool) (l r : Row) (rows : List Row) → IsAsWide ls l → a ≡ b
      → map (bind (ls ++ rs)) (map (λ x. l ++ x) (cond a (r ∷ rows) rows)) ≡ cond b (beside ls (bind ls l) (bind rs r) ∷ map (bind (ls ++ rs)) (map (λ x. l ++ x) rows)) (map (bind (ls ++ rs)) (map (λ x. l ++ x) rows))
  with_pair a true l r rows w e = ap (λ (t : Bool). map (bind (ls ++ rs)) (map (λ x. l ++ x) (cond t (r ∷ rows) rows))) e ∙ (λ i. bind-append ls rs l r w i ∷ map (bind (ls ++ rs)) (map (λ x. l ++ x) rows))
  with_pair a false l r rows w e = ap (λ (t : Bool). map (bind (ls ++ rs)) (map (λ x. l ++ x) (cond t (r ∷ rows) rows))) e

  bind-matches : (l : Row) → IsAsWide ls l → (right : List Row) → AllByRecursion (IsAsWide rs) right → map (bind (ls ++ rs)) (C.matches arg right l) ≡ A.matches ls c (map (bind rs) right) (bind ls l)
  bind-matches l wl [] wr = refl
  bind-matches l wl (r ∷ right) wr =
      with_pair (is_pair arg l r) (holds c (beside ls (bind ls l) (bind rs r))) l r (filter (is_pair arg l) right) wl (pair_same ls rs l r once wl wr.0 hash outer c)
      ∙ ap (λ (more : List Env). cond (holds c (beside ls (bind ls l) (bind rs r))) (beside ls (bind ls l) (bind rs r) ∷ more) more) (bind-matches l wl right wr.1)

  nulls_at : (xs : List Var) (n : ℕ) (q : Bytes) → bind xs (replicate n V.Null) q ≡ V.Null
  unfolding bind
  nulls_at [] n q = refl
  nulls_at (x ∷ xs) zero q = refl
  nulls_at (x ∷ xs) (suc n) q = picked (pointwise nat_eq x.name q) _ (nulls_at xs n q)
    where
      picked : (b : Bool) (v : Value) → v ≡ V.Null → (if b then V.Null else v) ≡ V.Null
      picked true v e = refl
      picked false v e = e

  bind-padded : (l : Row) → IsAsWide ls l → bind (ls ++ rs) (padded (length (ls ++ rs)) l) ≡ beside ls (bind ls l) nulls
  bind-padded l w = bind-append ls rs l (replicate (length (ls ++ rs) - length l) V.Null) w ∙ ap (λ (r : Env). beside ls (bind ls l) r) (λ i q. nulls_at rs (length (ls ++ rs) - length l) q i)

  bind-or_alone : (alone : Row) (rows : List Row) → map (bind (ls ++ rs)) (C.or_alone alone rows) ≡ A.or_alone (bind (ls ++ rs) alone) (map (bind (ls ++ rs)) rows)
  bind-or_alone alone [] = refl
  bind-or_alone alone (r ∷ rows) = refl

  bind-or_matches : (l : Row) → IsAsWide ls l → (right : List Row) → AllByRecursion (IsAsWide rs) right
      → map (bind (ls ++ rs)) (C.or_alone (padded (length (ls ++ rs)) l) (C.matches arg right l)) ≡ A.or_alone (beside ls (bind ls l) nulls) (A.matches ls c (map (bind rs) right) (bind ls l))
  bind-or_matches l wl right wr = bind-or_alone (padded (length (ls ++ rs)) l) (C.matches arg right l) ∙ (λ i. A.or_alone (bind-padded l wl i) (bind-matches l wl right wr i))

pub joins : (ls rs : List Var) → NoTwice (ls ++ rs) → (left right : List Row) → AreAsWide ls left → AreAsWide rs right → (hash outer : Bool) (c : Expr)
    → map (bind (ls ++ rs)) (C.joined (length (ls ++ rs)) (join_arg hash outer ls rs c) left right) ≡ joined outer ls c (map (bind ls) left) (map (bind rs) right)
joins ls rs once left right wl wr hash outer c = by_form hash outer
  where
    rows : AllByRecursion (IsAsWide rs) right
    rows = recursion_from_All (IsAsWide rs) right wr

    kept : (h o : Bool) → map (bind (ls ++ rs)) (C.left_pairs (length (ls ++ rs)) (join_arg h o ls rs c) left right) ≡ A.left_pairs ls c (map (bind ls) left) (map (bind rs) right)
    kept h o =
        flat-through (IsAsWide ls) (bind (ls ++ rs)) (bind ls) (λ l. C.or_alone (padded (length (ls ++ rs)) l) (C.matches (join_arg h o ls rs c) right l)) (λ l. A.or_alone (beside ls l nulls) (A.matches ls c (map (bind rs) right) l))
        (λ l w. bind-or_matches ls rs once h o c l w right rows) left (recursion_from_All (IsAsWide ls) left wl)

    paired : (h o : Bool) → map (bind (ls ++ rs)) (C.pairs (join_arg h o ls rs c) left right) ≡ A.pairs ls c (map (bind ls) left) (map (bind rs) right)
    paired h o =
        flat-through (IsAsWide ls) (bind (ls ++ rs)) (bind ls) (C.matches (join_arg h o ls rs c) right) (A.matches ls c (map (bind rs) right)) (λ l w. bind-matches ls rs once h o c l w right rows) left (recursion_from_All (IsAsWide ls) left wl)

    by_form : (h o : Bool) → map (bind (ls ++ rs)) (C.joined (length (ls ++ rs)) (join_arg h o ls rs c) left right) ≡ joined o ls c (map (bind ls) left) (map (bind rs) right)
    by_form true true = kept true true
    by_form true false = paired true false
    by_form false true = kept false true
    by_form false false = paired false false
