-- A select passes a distinct.
use Rattle.std.proofs.Common.{◌≡◌, ◌≢◌, ◌⊎◌, inl, inr, ℕ, zero, suc, ℤ, pos, negsuc, Bool, true, false, not, cond, List, [], ◌∷◌, ◌++◌, map, filter, refl, ap, sym, subst, ◌∙◌, arith, append-nil}
use Rattle.std.specs.Prelude.{nat_eq}
use Rattle.std.specs.Cmp.Lexicographic.{pointwise, same_text}
use Rattle.std.specs.List.{All, AllByRecursion, Contains}
use Rattle.std.proofs.lemmas.List.Elements.{All-from_recursion, recursion_from_All, All-append, All-weaker, All-contains_itself, All-contains, All-filter, Contains-append_left, Contains-append_right, filter-append, filter_passes}
use Rattle.al_value.specs.declared.value.Value.{Value}
use Rattle.al_value.specs.declared.value.Value.TheVariants as V
use Rattle.al_plan.specs.declared.expr.Var.{Var}
use Rattle.al_plan.specs.declared.expr.Expr.{Expr}
use Rattle.al_plan.specs.declared.plan.Plan.{Plan}
use Rattle.al_plan.specs.declared.plan.Plan.TheVariants as P
use Rattle.al_plan.specs.Eval.{Bytes, Env, bind, holds}
use Rattle.al_plan.specs.Allows.{Sets, Allows, live, IsDistinctOf}
use Rattle.al_plan.specs.Refines.{IsWithin}
use Rattle.al_plan.proofs.PlanLaws.{allows_Select, allows_Distinct, from_Select, from_Distinct}
use Rattle.al_plan.proofs.Moves.{Apart, apart_from_pairs, pairs_from_apart, filter_all, filter_none}
use Rattle.al_plan.proofs.Makes.{text_itself}
use Rattle.al_rule.proofs.Bound.{bind-values}
use Rattle.al_plan.proofs.Within.{within}

-- whether two things are the same
abbrev Same : {X : Type 0} → X → X → Type 0
Same x y = (x ≡ y) ⊎ (x ≢ y)

by_cases : (b : Bool) {P : Type 0} → (b ≡ true → P) → (b ≡ false → P) → P
by_cases true f g = f refl
by_cases false f g = g refl

no : true ≡ false → ⊥
no e = cc

nat_same : (m n : ℕ) → Same m n
nat_same zero zero = inl refl
nat_same zero (suc n) = inr (λ e. absurd (omega arith))
nat_same (suc m) zero = inr (λ e. absurd (omega arith))
nat_same (suc m) (suc n) = elim (nat_same m n) as (λ t. Same (suc m) (suc n)) [ inl e ↦ inl (ap suc e) | inr f ↦ inr (λ e. f (omega arith)) ]

int_same : (m n : ℤ) → Same m n
int_same (pos m) (pos n) = elim (nat_same m n) as (λ t. Same (pos m) (pos n)) [ inl e ↦ inl (ap pos e) | inr f ↦ inr (λ e. f (cc)) ]
int_same (negsuc m) (negsuc n) = elim (nat_same m n) as (λ t. Same (negsuc m) (negsuc n)) [ inl e ↦ inl (ap negsuc e) | inr f ↦ inr (λ e. f (cc)) ]
int_same (pos m) (negsuc n) = inr (λ e. cc)
int_same (negsuc m) (pos n) = inr (λ e. cc)

bool_same : (a b : Bool) → Same a b
bool_same true true = inl refl
bool_same false false = inl refl
bool_same true false = inr (λ e. cc)
bool_same false true = inr (λ e. cc)

text_same : (s t : Bytes) → Same s t
text_same s t = by_cases (pointwise nat_eq s t) (λ e. inl (same_text s t (sym e))) (λ e. inr (λ same. no (sym (text_itself s) ∙ ap (pointwise nat_eq s) same ∙ e)))

value_same : (v w : Value) → Same v w
value_same V.Null V.Null = inl refl
value_same (V.Bool a) (V.Bool b) = elim (bool_same a b) as (λ t. Same (V.Bool a) (V.Bool b)) [ inl e ↦ inl (ap V.Bool e) | inr f ↦ inr (λ e. f (cc)) ]
value_same (V.Int a) (V.Int b) = elim (int_same a b) as (λ t. Same (V.Int a) (V.Int b)) [ inl e ↦ inl (ap V.Int e) | inr f ↦ inr (λ e. f (cc)) ]
value_same (V.Text a) (V.Text b) = elim (text_same a b) as (λ t. Same (V.Text a) (V.Text b)) [ inl e ↦ inl (ap V.Text e) | inr f ↦ inr (λ e. f (cc)) ]
value_same V.Null (V.Bool b) = inr (λ e. cc)
value_same V.Null (V.Int b) = inr (λ e. cc)
value_same V.Null (V.Text b) = inr (λ e. cc)
value_same (V.Bool a) V.Null = inr (λ e. cc)
value_same (V.Bool a) (V.Int b) = inr (λ e. cc)
value_same (V.Bool a) (V.Text b) = inr (λ e. cc)
value_same (V.Int a) V.Null = inr (λ e. cc)
value_same (V.Int a) (V.Bool b) = inr (λ e. cc)
value_same (V.Int a) (V.Text b) = inr (λ e. cc)
value_same (V.Text a) V.Null = inr (λ e. cc)
value_same (V.Text a) (V.Bool b) = inr (λ e. cc)
value_same (V.Text a) (V.Int b) = inr (λ e. cc)

list_same : (vs ws : List Value) → Same vs ws
list_same [] [] = inl refl
list_same [] (w ∷ ws) = inr (λ e. cc)
list_same (v ∷ vs) [] = inr (λ e. cc)
list_same (v ∷ vs) (w ∷ ws) = elim (value_same v w) as (λ t. Same (v ∷ vs) (w ∷ ws)) [
  | inr f ↦ inr (λ e. f (cc))
  | inl e ↦ elim (list_same vs ws) as (λ t. Same (v ∷ vs) (w ∷ ws)) [ inl g ↦ inl (λ i. e i ∷ g i) | inr f ↦ inr (λ e. f (cc)) ]
]

-- rows over some variables are told apart by their values
pub row_same : (vars : List Var) (r s : Env) → IsWithin vars r → IsWithin vars s → Same r s
row_same vars r s w v = elim (list_same (map (λ x. r x.name) vars) (map (λ x. s x.name) vars)) as (λ t. Same r s) [
  | inl e ↦ inl (sym (bind-values vars r w) ∙ ap (bind vars) e ∙ bind-values vars s v)
  | inr f ↦ inr (λ e. f (ap (λ (t : Env). map (λ (x : Var). t x.name) vars) e))
]

contains_more : {X : Type 0} (x : X) (xs : List X) (r : X) → Contains xs r → Contains (x ∷ xs) r
contains_more x xs r h = (suc h.0, omega (arith, h.1), h.2)

contains_head : {X : Type 0} (x : X) (xs : List X) → Contains (x ∷ xs) x
contains_head x xs = (zero, omega arith, refl)

-- a row is in a list, or differs from each row of it
find_row : (vars : List Var) (r : Env) → IsWithin vars r → (rows : List Env) → AllByRecursion (IsWithin vars) rows → Contains rows r ⊎ AllByRecursion (λ s. r ≢ s) rows
find_row vars r w [] h = inr tt
find_row vars r w (s ∷ rows) h = elim (row_same vars r s w h.0) as (λ t. Contains (s ∷ rows) r ⊎ AllByRecursion (λ s. r ≢ s) (s ∷ rows)) [
  | inl e ↦ inl (subst (Contains (s ∷ rows)) (sym e) (contains_head s rows))
  | inr f ↦ elim (find_row vars r w rows h.1) as (λ t. Contains (s ∷ rows) r ⊎ AllByRecursion (λ s. r ≢ s) (s ∷ rows)) [ inl k ↦ inl (contains_more s rows r k) | inr g ↦ inr (f, g) ]
]

pub record Parts (vars : List Var) (rows : List Env) : Type 0 where
  pub kept : List Env
  pub inside : All (Contains rows) kept
  pub all : All (Contains kept) rows
  pub apart : Apart ◌≢◌ kept
  pub over : AllByRecursion (IsWithin vars) kept

-- each list of rows over some variables has its different rows
pub different : (vars : List Var) (rows : List Env) → AllByRecursion (IsWithin vars) rows → Parts vars rows
different vars [] h = record { kept = []; inside = All-from_recursion (Contains []) [] tt; all = All-from_recursion (Contains []) [] tt; apart = tt; over = tt }
different vars (r ∷ rows) h =
    let more = different vars rows h.1 in
    let still = All-weaker (Contains rows) (Contains (r ∷ rows)) (λ s k. contains_more r rows s k) more.kept more.inside in
    elim (find_row vars r h.0 more.kept more.over) as (λ t. Parts vars (r ∷ rows)) [
      | inl k ↦ record { kept = more.kept; inside = still; all = All-from_recursion (Contains more.kept) (r ∷ rows) (k, recursion_from_All (Contains more.kept) rows more.all); apart = more.apart; over = more.over }
      | inr f ↦ record {
        kept = r ∷ more.kept;
        inside = All-from_recursion (Contains (r ∷ rows)) (r ∷ more.kept) (contains_head r rows, recursion_from_All (Contains (r ∷ rows)) more.kept still);
        all = All-from_recursion (Contains (r ∷ more.kept)) (r ∷ rows) (contains_head r more.kept, recursion_from_All (Contains (r ∷ more.kept)) rows (All-weaker (Contains more.kept) (Contains (r ∷ more.kept)) (λ s k. contains_more r more.kept s k) rows more.all));
        apart = (f, more.apart);
        over = (h.0, more.over);
      }
    ]

-- what passes a filter is in what the filter keeps
pub kept_by : {X : Type 0} (p : X → Bool) (xs : List X) → AllByRecursion (λ x. p x ≡ true → Contains (filter p xs) x) xs
kept_by p [] = tt
kept_by p (x ∷ xs) = go (p x) refl (kept_by p xs)
  where
    more : (ys zs : List _) → ((y : _) → Contains zs y → Contains ys y) → (us : List _) → AllByRecursion (λ a. p a ≡ true → Contains zs a) us → AllByRecursion (λ a. p a ≡ true → Contains ys a) us
    more ys zs f [] h = tt
    more ys zs f (a ∷ us) h = ((λ e. f a (h.0 e)), more ys zs f us h.1)

    go : (b : Bool) → p x ≡ b → AllByRecursion (λ y. p y ≡ true → Contains (filter p xs) y) xs → AllByRecursion (λ y. p y ≡ true → Contains (cond b (x ∷ filter p xs) (filter p xs)) y) (x ∷ xs)
    go true e h = ((λ t. contains_head x (filter p xs)), more (x ∷ filter p xs) (filter p xs) (λ y k. contains_more x (filter p xs) y k) xs h)
    go false e h = ((λ t. absurd (no (sym t ∙ e))), h)

apart_append : (xs ys : List Env) → Apart ◌≢◌ xs → Apart ◌≢◌ ys → AllByRecursion (λ x. AllByRecursion (λ y. x ≢ y) ys) xs → Apart ◌≢◌ (xs ++ ys)
apart_append [] ys h g f = g
apart_append (x ∷ xs) ys h g f = (both xs ys h.0 f.0, apart_append xs ys h.1 g f.1)
  where
    both : (xs ys : List Env) → AllByRecursion (λ y. x ≢ y) xs → AllByRecursion (λ y. x ≢ y) ys → AllByRecursion (λ y. x ≢ y) (xs ++ ys)
    both [] ys h g = g
    both (z ∷ xs) ys h g = (h.0, both xs ys h.1 g)

-- rows of which one test is true differ from rows of which it is false
unlike : (p : Env → Bool) (xs ys : List Env) → AllByRecursion (λ x. p x ≡ true) xs → AllByRecursion (λ y. p y ≡ false) ys → AllByRecursion (λ x. AllByRecursion (λ y. x ≢ y) ys) xs
unlike p [] ys h g = tt
unlike p (x ∷ xs) ys h g = (each x h.0 ys g, unlike p xs ys h.1 g)
  where
    each : (x : Env) → p x ≡ true → (ys : List Env) → AllByRecursion (λ y. p y ≡ false) ys → AllByRecursion (λ y. x ≢ y) ys
    each x h [] g = tt
    each x h (y ∷ ys) g = ((λ e. no (sym h ∙ ap p e ∙ g.0)), each x h ys g.1)

not_false : (b : Bool) → not b ≡ true → b ≡ false
not_false true h = sym h
not_false false h = refl

not_true : (b : Bool) → b ≡ false → not b ≡ true
not_true true h = absurd (no h)
not_true false h = refl

-- the different rows of what a filter keeps are what it keeps of the different rows of all
pub distinct_whole : (vars : List Var) (p : Env → Bool) (input kept : List Env) → AllByRecursion (IsWithin vars) input → IsDistinctOf (filter p input) kept → (whole : List Env) × IsDistinctOf input whole × (kept ≡ filter p whole)
distinct_whole vars p input kept w d =
    let q = λ (x : Env). not (p x) in
    let others = different vars (filter q input) (recursion_from_All (IsWithin vars) (filter q input) (All-filter q (IsWithin vars) input (All-from_recursion (IsWithin vars) input w))) in
    let inside_p = All-filter p (Contains input) input (All-contains_itself input) in
    let inside_q = All-filter q (Contains input) input (All-contains_itself input) in
    let pass : All (λ x. p x ≡ true) kept = All-weaker (Contains (filter p input)) (λ x. p x ≡ true) (λ x k. All-contains (λ x. p x ≡ true) (filter p input) x (filter_passes p input) k) kept d.within in
    let fail : All (λ x. p x ≡ false) others.kept = All-weaker (Contains (filter q input)) (λ x. p x ≡ false) (λ x k. not_false (p x) (All-contains (λ x. q x ≡ true) (filter q input) x (filter_passes q input) k)) others.kept others.inside in
    let by_p = All-from_recursion (λ x. p x ≡ true → Contains (filter p input) x) input (kept_by p input) in
    let by_q = All-from_recursion (λ x. q x ≡ true → Contains (filter q input) x) input (kept_by q input) in (
      kept ++ others.kept,
      record {
        within = All-append (Contains input) kept others.kept (All-weaker (Contains (filter p input)) (Contains input) (λ x k. All-contains (Contains input) (filter p input) x inside_p k) kept d.within)
            (All-weaker (Contains (filter q input)) (Contains input) (λ x k. All-contains (Contains input) (filter q input) x inside_q k) others.kept others.inside);
        all = All-weaker (Contains input) (Contains (kept ++ others.kept)) (λ x k. by_cases (p x)
            (λ e. Contains-append_left kept others.kept x (All-contains (Contains kept) (filter p input) x d.all (All-contains (λ x. p x ≡ true → Contains (filter p input) x) input x by_p k e)))
            (λ e. Contains-append_right kept others.kept x (All-contains (Contains others.kept) (filter q input) x others.all (All-contains (λ x. q x ≡ true → Contains (filter q input) x) input x by_q k (not_true (p x) e))))) input (All-contains_itself input);
        once = pairs_from_apart ◌≢◌ (kept ++ others.kept) (apart_append kept others.kept (apart_from_pairs ◌≢◌ kept d.once) others.apart (unlike p kept others.kept (recursion_from_All (λ x. p x ≡ true) kept pass) (recursion_from_All (λ x. p x ≡ false) others.kept fail)));
      },
      sym (filter-append p kept others.kept ∙ ap (λ (zs : List Env). zs ++ filter p others.kept) (filter_all p kept (recursion_from_All (λ x. p x ≡ true) kept pass)) ∙ ap (λ (zs : List Env). kept ++ zs) (filter_none p others.kept (recursion_from_All (λ x. p x ≡ false) others.kept fail)) ∙ append-nil kept),
    )

-- a select over a distinct has what the distinct over the select has
pub select_distinct_out : (c : Expr) (p : Plan) (b : Bool) (sets : Sets) (rows : List Env) → Allows (P.Distinct (P.Select c p)) b sets [] [] rows → Allows (P.Select c (P.Distinct p)) b sets [] [] rows
select_distinct_out c p b sets rows h =
    let one = from_Distinct (P.Select c p) b sets [] [] rows h in
    let two = from_Select c p b sets [] [] one.0 one.1 in
    let over = recursion_from_All (IsWithin (live p [])) two.0 (within p b sets [] [] two.0 (λ k d low. absurd (omega arith)) two.1) in
    let whole = distinct_whole (live p []) (holds c) two.0 rows over (subst (λ (zs : List Env). IsDistinctOf zs rows) two.2 one.2) in
    allows_Select c (P.Distinct p) b sets [] [] rows (whole.0, allows_Distinct p b sets [] [] whole.0 (two.0, two.1, whole.1), whole.2)
