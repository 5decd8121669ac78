-- Maps of rows that keep the values of some variables.
use Rattle.std.proofs.Common.{◌≡◌, zero, suc, Bool, true, false, cond, List, [], ◌∷◌, ◌++◌, map, filter, flat_map, refl, ap, subst, ◌∙◌, arith, add-one}
use Rattle.std.specs.Prelude.{if◌then◌else◌}
use Rattle.std.specs.List.{AllByRecursion}
use Rattle.std.specs.List.Sorted.{IsSorted, IsSortedBy}
use Rattle.std.specs.Ordering.{is_lt, ordering_then}
use Rattle.al_value.specs.declared.value.Value.TheVariants as V
use Rattle.al_value.specs.Value.{value_cmp}
use Rattle.al_func.specs.Func.{is_true}
use Rattle.al_func.specs.Items.{range, split}
use Rattle.al_agg.specs.Agg.{agg}
use Rattle.al_agg.specs.declared.agg.Agg.TheVariants as A
use Rattle.al_plan.specs.declared.expr.Var.{Var}
use Rattle.al_plan.specs.declared.expr.Expr.{Expr}
use Rattle.al_plan.specs.declared.plan.OrderKey.{OrderKey}
use Rattle.al_plan.specs.declared.plan.AggCall.{AggCall}
use Rattle.al_plan.specs.declared.plan.AggCall.TheVariants as C
use Rattle.al_plan.specs.declared.plan.Generator.{Generator}
use Rattle.al_plan.specs.declared.plan.Generator.TheVariants as G
use Rattle.al_plan.specs.Eval.{Bytes, Env, eval, holds}
use Rattle.al_plan.specs.Names.{names, agg_exprs, item_exprs}
use Rattle.al_plan.specs.Calls.{agg_call, items}
use Rattle.al_plan.specs.Allows.{cut, keys_cmp, directed, key_of}
use Rattle.al_plan.specs.Refines.{AreAmong}
use Rattle.al_rule.proofs.ReadLaws.{eval-names}
use Rattle.al_rule.proofs.SelectOrder.{Up, sorted_from_up}

-- the map keeps each row's values of these variables
abbrev pub Keeps : (Env → Env) → List Bytes → Type 0
Keeps f = AllByRecursion (λ q. (r : Env) → f r q ≡ r q)

pub keeps_parts : (f : Env → Env) (xs ys : List Bytes) → Keeps f (xs ++ ys) → Keeps f xs × Keeps f ys
keeps_parts f [] ys h = (tt, h)
keeps_parts f (x ∷ xs) ys h = let more = keeps_parts f xs ys h.1 in ((h.0, more.0), more.1)

pub keeps_cut : (vars : List Var) (qs : List Bytes) → AreAmong vars qs → Keeps (cut vars) qs
keeps_cut vars [] h = tt
keeps_cut vars (q ∷ qs) h = (λ r. ap (λ b. if b then r q else V.Null) h.0, keeps_cut vars qs h.1)

agree : (f : Env → Env) (r : Env) (qs : List Bytes) → Keeps f qs → AllByRecursion (λ q. f r q ≡ r q) qs
agree f r [] h = tt
agree f r (q ∷ qs) h = (h.0 r, agree f r qs h.1)

module _ (f : Env → Env) where
  pub eval-kept : (e : Expr) (r : Env) → Keeps f (names e) → eval e (f r) ≡ eval e r
  eval-kept e r h = eval-names e (f r) r (agree f r (names e) h)

  pub holds-kept : (e : Expr) (r : Env) → Keeps f (names e) → holds e (f r) ≡ holds e r
  holds-kept e r h = ap is_true (eval-kept e r h)

  values-kept : (e : Expr) (rows : List Env) → Keeps f (names e) → map (eval e) (map f rows) ≡ map (eval e) rows
  values-kept e [] h = refl
  values-kept e (r ∷ rows) h = λ i. eval-kept e r h i ∷ values-kept e rows h i

  nulls-kept : (rows : List Env) → map (λ (r : Env). V.Null) (map f rows) ≡ map (λ (r : Env). V.Null) rows
  nulls-kept [] = refl
  nulls-kept (r ∷ rows) = ap (λ vs. V.Null ∷ vs) (nulls-kept rows)

  agg-kept : (a : AggCall) (rows : List Env) → Keeps f (flat_map names (agg_exprs a)) → agg_call a (map f rows) ≡ agg_call a rows
  unfolding agg_call
  agg-kept C.CountAll rows h = ap (agg A.CountAll) (nulls-kept rows)
  agg-kept (C.Count e) rows h = ap (agg A.Count) (values-kept e rows (keeps_parts f (names e) [] h).0)
  agg-kept (C.Sum e) rows h = ap (agg A.Sum) (values-kept e rows (keeps_parts f (names e) [] h).0)
  agg-kept (C.Min e) rows h = ap (agg A.Min) (values-kept e rows (keeps_parts f (names e) [] h).0)
  agg-kept (C.Max e) rows h = ap (agg A.Max) (values-kept e rows (keeps_parts f (names e) [] h).0)

  pub aggs-kept : (made : List (Var × AggCall)) (rows : List Env) → Keeps f (flat_map (λ m. flat_map names (agg_exprs m.1)) made) → map (λ m. agg_call m.1 (map f rows)) made ≡ map (λ m. agg_call m.1 rows) made
  aggs-kept [] rows h = refl
  aggs-kept (m ∷ made) rows h = let both = keeps_parts f (flat_map names (agg_exprs m.1)) (flat_map (λ m. flat_map names (agg_exprs m.1)) made) h in λ i. agg-kept m.1 rows both.0 i ∷ aggs-kept made rows both.1 i

  pub made-kept : (made : List (Var × Expr)) (r : Env) → Keeps f (flat_map (λ m. names m.1) made) → map (λ m. eval m.1 (f r)) made ≡ map (λ m. eval m.1 r) made
  made-kept [] r h = refl
  made-kept (m ∷ made) r h = let both = keeps_parts f (names m.1) (flat_map (λ m. names m.1) made) h in λ i. eval-kept m.1 r both.0 i ∷ made-kept made r both.1 i

  pub items-kept : (g : Generator) (r : Env) → Keeps f (flat_map names (item_exprs g)) → items g (f r) ≡ items g r
  unfolding items
  items-kept (G.Range a b) r h = let both = keeps_parts f (names a) (names b ++ []) h in let last = keeps_parts f (names b) [] both.1 in λ i. range (eval-kept a r both.0 i) (eval-kept b r last.0 i)
  items-kept (G.Split a b) r h = let both = keeps_parts f (names a) (names b ++ []) h in let last = keeps_parts f (names b) [] both.1 in λ i. split (eval-kept a r both.0 i) (eval-kept b r last.0 i)

  pub keys-kept : (keys : List OrderKey) (a b : Env) → Keeps f (map (λ k. k.var.name) keys) → keys_cmp keys (f a) (f b) ≡ keys_cmp keys a b
  keys-kept [] a b h = refl
  keys-kept (k ∷ keys) a b h = λ i. ordering_then (directed k.descending (value_cmp (h.0 a i) (h.0 b i))) (keys-kept keys a b h.1 i)

  pub key_of-kept : (keys : List (Var × Var)) (r : Env) → Keeps f (map (λ k. k.1.name) keys) → key_of keys (f r) ≡ key_of keys r
  key_of-kept [] r h = refl
  key_of-kept (k ∷ keys) r h = λ i. h.0 r i ∷ key_of-kept keys r h.1 i

  pub filter-kept : (c : Expr) (rows : List Env) → ((r : Env) → holds c (f r) ≡ holds c r) → filter (holds c) (map f rows) ≡ map f (filter (holds c) rows)
  filter-kept c [] h = refl
  filter-kept c (r ∷ rows) h = go (holds c (f r)) (holds c r) (h r) (filter-kept c rows h)
    where
      go : (s t : Bool) → s ≡ t → filter (holds c) (map f rows) ≡ map f (filter (holds c) rows) → cond s (f r ∷ filter (holds c) (map f rows)) (filter (holds c) (map f rows)) ≡ map f (cond t (r ∷ filter (holds c) rows) (filter (holds c) rows))
      go s true e more = (λ i. cond (e i) (f r ∷ filter (holds c) (map f rows)) (filter (holds c) (map f rows))) ∙ ap (λ zs. f r ∷ zs) more
      go s false e more = (λ i. cond (e i) (f r ∷ filter (holds c) (map f rows)) (filter (holds c) (map f rows))) ∙ more

-- ---- sorted lists

up_from_sorted : {X : Type 0} (lt : X → X → Bool) (xs : List X) → IsSortedBy lt xs → Up lt xs
up_from_sorted lt [] h = tt
up_from_sorted lt (x ∷ []) h = tt
up_from_sorted lt (x ∷ y ∷ ys) h = (h zero x (omega arith) (omega arith), up_from_sorted lt (y ∷ ys) (λ k d low high. simp add-one (simp add-one at (h (suc k) d (omega arith) (omega arith)))))

up_unmapped : {X Y : Type 0} (f : X → Y) (lt : Y → Y → Bool) (xs : List X) → Up lt (map f xs) → Up (λ a b. lt (f a) (f b)) xs
up_unmapped f lt [] h = tt
up_unmapped f lt (x ∷ []) h = tt
up_unmapped f lt (x ∷ y ∷ ys) h = (h.0, up_unmapped f lt (y ∷ ys) h.1)

-- rows whose images are sorted by what the map keeps are sorted
pub sorted-kept : (f : Env → Env) (keys : List OrderKey) (rows : List Env) → Keeps f (map (λ k. k.var.name) keys) → IsSorted (keys_cmp keys) (map f rows) → IsSorted (keys_cmp keys) rows
sorted-kept f keys rows h sorted =
    let up = up_unmapped f (λ a b. is_lt (keys_cmp keys a b)) rows (up_from_sorted (λ a b. is_lt (keys_cmp keys a b)) (map f rows) sorted) in
    sorted_from_up (λ a b. is_lt (keys_cmp keys a b)) rows (subst (λ (lt : Env → Env → Bool). Up lt rows) (λ i a b. is_lt (keys-kept f keys a b h i)) up)
