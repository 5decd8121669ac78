-- A layer allows no more over inputs that allow no more.
use Rattle.std.proofs.Common.{◌≡◌, Bool, true, false, List, [], ◌∷◌, ◌++◌, map, filter, flat_map, refl, ap, sym, subst, ◌∙◌}
use Rattle.std.specs.Prelude.{if◌then◌else◌, nat_eq}
use Rattle.std.specs.Cmp.Lexicographic.{pointwise}
use Rattle.std.specs.List.{AllZip}
use Rattle.std.specs.List.Sorted.{IsPermutation}
use Rattle.std.proofs.lemmas.List.Sorted.{IsPermutation-refl, IsPermutation-append, list_any-IsPermutation}
use Rattle.al_plan.specs.declared.expr.Var.{Var}
use Rattle.al_plan.specs.declared.plan.Plan.{Plan, map-Plan, roll-Plan, ind-Plan}
use Rattle.al_plan.specs.declared.plan.Plan.TheOpen as L
use Rattle.al_plan.specs.Eval.{Bytes, Env, holds}
use Rattle.al_plan.specs.Allows.{Sets, Allows, ordered, live, live_step, is_among, IsOrderOf, Group, rows_in, beside, nulls, or_alone}
use Rattle.al_plan.proofs.PlanLaws.{Layer, live-roll, ordered-roll}
use Rattle.al_plan.proofs.Orders.{unroll, enroll}
use Rattle.al_plan.proofs.Moves.{IsPermutation-same}

-- the same variables in any order
abbrev pub SameVars : List Var → List Var → Type 0
SameVars xs ys = IsPermutation ys xs

pub same_names : (xs ys : List Var) → SameVars xs ys → (q : Bytes) → is_among xs q ≡ is_among ys q
same_names xs ys e q = sym (list_any-IsPermutation (λ v. pointwise nat_eq v.name q) ys xs e)

pub same-append : (xs ys us vs : List Var) → SameVars xs us → SameVars ys vs → SameVars (xs ++ ys) (us ++ vs)
same-append xs ys us vs e f = IsPermutation-append us xs vs ys e f

pub same-ends : (xs ys us vs : List Var) → xs ≡ us → ys ≡ vs → SameVars us vs → SameVars xs ys
same-ends xs ys us vs e f h = subst (λ (zs : List Var). SameVars zs ys) (sym e) (subst (λ (zs : List Var). SameVars us zs) (sym f) h)

pub beside-same : (xs ys : List Var) → SameVars xs ys → beside xs ≡ beside ys
beside-same xs ys e i a b q = if same_names xs ys e q i then a q else b q

-- each list that `q` allows over these outer rows `p` allows
pub record Below (b : Bool) (sets : Sets) (given known : List Var) (outer : List Env) (q p : Plan) : Type 0 where
  pub vars : SameVars (live q given) (live p known)
  pub order : ordered p ≡ true → ordered q ≡ true
  pub less : (rows : List Env) → Allows q b sets given outer rows → Allows p b sets known outer rows

abbrev pub Always : Plan → Plan → Type 0
Always q p = (b : Bool) (sets : Sets) (given known : List Var) (outer : List Env) → SameVars given known → Below b sets given known outer q p

-- of a nested plan it holds for all outer rows
abbrev pub Inner : (S : Type 0) → (S → Plan) → (S → Plan) → L.Plan-F S → Type 0
Inner S f g (L.Subplan n s) = Always (f n) (g n)
Inner S f g (L.Group keys n s) = Always (f n) (g n)
Inner S f g _ = Unit {0}

looser : (t u : Bool) (xs ys : List Env) → (u ≡ true → t ≡ true) → IsOrderOf t xs ys → IsOrderOf u xs ys
looser true true xs ys f h = h
looser true false xs ys f h = IsPermutation-same xs ys (sym h)
looser false true xs ys f h = absurd (no (f refl))
  where
    no : false ≡ true → ⊥
    no e = cc
looser false false xs ys f h = h

pub zip_weaker : {X Y : Type 0} (R T : X → Y → Type 0) → ((x : X) (y : Y) → R x y → T x y) → (xs : List X) (ys : List Y) → AllZip R xs ys → AllZip T xs ys
zip_weaker R T f [] [] h = tt
zip_weaker R T f [] (y ∷ ys) h = h
zip_weaker R T f (x ∷ xs) [] h = h
zip_weaker R T f (x ∷ xs) (y ∷ ys) h = (f x y h.0, zip_weaker R T f xs ys h.1)

pub live_is : (x : L.Plan-F Plan) (given : List Var) → live (roll-Plan x) given ≡ live_step (map-Plan Plan (List Var → List Var) live x) given
live_is x given = ap (λ (f : List Var → List Var). f given) (live-roll x)

-- P of each input of a layer, but of no nested plan
abbrev pub Inputs : (S : Type 0) → (S → Type 0) → L.Plan-F S → Type 0
Inputs S P (L.Scan set vars) = Unit {0}
Inputs S P L.Empty = Unit {0}
Inputs S P L.Nested = Unit {0}
Inputs S P (L.Assign made s) = P s
Inputs S P (L.Select c s) = P s
Inputs S P (L.Project vars s) = P s
Inputs S P (L.Unnest v its s) = P s
Inputs S P (L.Subplan m s) = P s
Inputs S P (L.Join c l r) = P l × P r
Inputs S P (L.LeftJoin c l r) = P l × P r
Inputs S P (L.Group keys m s) = P s
Inputs S P (L.Distinct s) = P s
Inputs S P (L.Union made ls rs l r) = P l × P r
Inputs S P (L.Aggregate made s) = P s
Inputs S P (L.Order keys s) = P s
Inputs S P (L.Limit k m s) = P s
Inputs S P (L.Check name c s) = P s
Inputs S P (L.Result vars s) = P s

pub inputs_all : {S : Type 0} (P : S → Type 0) → ((s : S) → P s) → (y : L.Plan-F S) → Inputs S P y
inputs_all P f (L.Scan set vars) = tt
inputs_all P f L.Empty = tt
inputs_all P f L.Nested = tt
inputs_all P f (L.Assign made s) = f s
inputs_all P f (L.Select c s) = f s
inputs_all P f (L.Project vars s) = f s
inputs_all P f (L.Unnest v its s) = f s
inputs_all P f (L.Subplan m s) = f s
inputs_all P f (L.Join c l r) = (f l, f r)
inputs_all P f (L.LeftJoin c l r) = (f l, f r)
inputs_all P f (L.Group keys m s) = f s
inputs_all P f (L.Distinct s) = f s
inputs_all P f (L.Union made ls rs l r) = (f l, f r)
inputs_all P f (L.Aggregate made s) = f s
inputs_all P f (L.Order keys s) = f s
inputs_all P f (L.Limit k m s) = f s
inputs_all P f (L.Check name c s) = f s
inputs_all P f (L.Result vars s) = f s

pub inputs_weaker : {S : Type 0} (P Q : S → Type 0) → ((s : S) → P s → Q s) → (y : L.Plan-F S) → Inputs S P y → Inputs S Q y
inputs_weaker P Q f (L.Scan set vars) i = tt
inputs_weaker P Q f L.Empty i = tt
inputs_weaker P Q f L.Nested i = tt
inputs_weaker P Q f (L.Assign made s) i = f s i
inputs_weaker P Q f (L.Select c s) i = f s i
inputs_weaker P Q f (L.Project vars s) i = f s i
inputs_weaker P Q f (L.Unnest v its s) i = f s i
inputs_weaker P Q f (L.Subplan m s) i = f s i
inputs_weaker P Q f (L.Join c l r) i = (f l i.0, f r i.1)
inputs_weaker P Q f (L.LeftJoin c l r) i = (f l i.0, f r i.1)
inputs_weaker P Q f (L.Group keys m s) i = f s i
inputs_weaker P Q f (L.Distinct s) i = f s i
inputs_weaker P Q f (L.Union made ls rs l r) i = (f l i.0, f r i.1)
inputs_weaker P Q f (L.Aggregate made s) i = f s i
inputs_weaker P Q f (L.Order keys s) i = f s i
inputs_weaker P Q f (L.Limit k m s) i = f s i
inputs_weaker P Q f (L.Check name c s) i = f s i
inputs_weaker P Q f (L.Result vars s) i = f s i

module _ {S : Type 0} (f g : S → Plan) (b : Bool) (sets : Sets) (given known : List Var) (outer : List Env) (same : SameVars given known) where
  abbrev Parts : L.Plan-F S → Type 0
  Parts y = Inputs S (λ s. Below b sets given known outer (f s) (g s)) y

  step_vars : (y : L.Plan-F S) → Inner S f g y → Parts y → SameVars (live_step (map-Plan Plan (List Var → List Var) live (map-Plan S Plan f y)) given) (live_step (map-Plan Plan (List Var → List Var) live (map-Plan S Plan g y)) known)
  step_vars (L.Scan set vars) n i = IsPermutation-refl _
  step_vars L.Empty n i = IsPermutation-refl _
  step_vars L.Nested n i = same
  step_vars (L.Assign made s) n i = same-append _ (map (λ m. m.0) made) _ (map (λ m. m.0) made) i.vars (IsPermutation-refl _)
  step_vars (L.Select c s) n i = i.vars
  step_vars (L.Project vars s) n i = IsPermutation-refl _
  step_vars (L.Unnest v its s) n i = same-append _ (v ∷ []) _ (v ∷ []) i.vars (IsPermutation-refl _)
  step_vars (L.Subplan m s) n i = same-append _ _ _ _ i.vars (n b sets _ _ [] i.vars).vars
  step_vars (L.Join c l r) n i = same-append _ _ _ _ i.0.vars i.1.vars
  step_vars (L.LeftJoin c l r) n i = same-append _ _ _ _ i.0.vars i.1.vars
  step_vars (L.Group keys m s) n i = same-append (map (λ k. k.0) keys) _ (map (λ k. k.0) keys) _ (IsPermutation-refl _) (n b sets _ _ [] i.vars).vars
  step_vars (L.Distinct s) n i = i.vars
  step_vars (L.Union made ls rs l r) n i = IsPermutation-refl _
  step_vars (L.Aggregate made s) n i = IsPermutation-refl _
  step_vars (L.Order keys s) n i = i.vars
  step_vars (L.Limit k m s) n i = i.vars
  step_vars (L.Check name c s) n i = i.vars
  step_vars (L.Result vars s) n i = IsPermutation-refl _

  step_order : (y : L.Plan-F S) → Parts y → ordered (roll-Plan (map-Plan S Plan g y)) ≡ true → ordered (roll-Plan (map-Plan S Plan f y)) ≡ true
  step_order (L.Scan set vars) i e = e
  step_order L.Empty i e = e
  step_order L.Nested i e = e
  step_order (L.Assign made s) i e = ordered-roll (L.Assign made (f s)) ∙ i.order (sym (ordered-roll (L.Assign made (g s))) ∙ e)
  step_order (L.Select c s) i e = ordered-roll (L.Select c (f s)) ∙ i.order (sym (ordered-roll (L.Select c (g s))) ∙ e)
  step_order (L.Project vars s) i e = ordered-roll (L.Project vars (f s)) ∙ i.order (sym (ordered-roll (L.Project vars (g s))) ∙ e)
  step_order (L.Unnest v its s) i e = ordered-roll (L.Unnest v its (f s)) ∙ i.order (sym (ordered-roll (L.Unnest v its (g s))) ∙ e)
  step_order (L.Subplan m s) i e = ordered-roll (L.Subplan (f m) (f s)) ∙ i.order (sym (ordered-roll (L.Subplan (g m) (g s))) ∙ e)
  step_order (L.Join c l r) i e = ordered-roll (L.Join c (f l) (f r)) ∙ sym (ordered-roll (L.Join c (g l) (g r))) ∙ e
  step_order (L.LeftJoin c l r) i e = ordered-roll (L.LeftJoin c (f l) (f r)) ∙ sym (ordered-roll (L.LeftJoin c (g l) (g r))) ∙ e
  step_order (L.Group keys m s) i e = ordered-roll (L.Group keys (f m) (f s)) ∙ sym (ordered-roll (L.Group keys (g m) (g s))) ∙ e
  step_order (L.Distinct s) i e = ordered-roll (L.Distinct (f s)) ∙ sym (ordered-roll (L.Distinct (g s))) ∙ e
  step_order (L.Union made ls rs l r) i e = ordered-roll (L.Union made ls rs (f l) (f r)) ∙ sym (ordered-roll (L.Union made ls rs (g l) (g r))) ∙ e
  step_order (L.Aggregate made s) i e = ordered-roll (L.Aggregate made (f s)) ∙ sym (ordered-roll (L.Aggregate made (g s))) ∙ e
  step_order (L.Order keys s) i e = ordered-roll (L.Order keys (f s))
  step_order (L.Limit k m s) i e = ordered-roll (L.Limit k m (f s)) ∙ i.order (sym (ordered-roll (L.Limit k m (g s))) ∙ e)
  step_order (L.Check name c s) i e = ordered-roll (L.Check name c (f s)) ∙ i.order (sym (ordered-roll (L.Check name c (g s))) ∙ e)
  step_order (L.Result vars s) i e = ordered-roll (L.Result vars (f s)) ∙ i.order (sym (ordered-roll (L.Result vars (g s))) ∙ e)

  step_less : (y : L.Plan-F S) → Inner S f g y → Parts y → (rows : List Env) → Layer (map-Plan S Plan f y) b sets given outer rows → Layer (map-Plan S Plan g y) b sets known outer rows
  step_less (L.Scan set vars) n i rows o = o
  step_less L.Empty n i rows o = o
  step_less L.Nested n i rows o = o
  step_less (L.Assign made s) n i rows o = (o.0, i.less o.0 o.1, o.2)
  step_less (L.Select c s) n i rows o = (o.0, i.less o.0 o.1, o.2)
  step_less (L.Project vars s) n i rows o = (o.0, i.less o.0 o.1, o.2)
  step_less (L.Unnest v its s) n i rows o = (o.0, i.less o.0 o.1, looser (ordered (f s)) (ordered (g s)) _ rows i.order o.2)
  step_less (L.Subplan m s) n i rows o = (
    o.0,
    i.less o.0 o.1,
    zip_weaker _ _ (λ r row one.
        let low = n b sets (live (f s) given) (live (g s) known) (r ∷ []) i.vars in
        (one.0, low.less (one.0 ∷ []) one.1, one.2 ∙ ap (λ (m : Env → Env → Env). m one.0 r) (beside-same _ _ low.vars))) o.0 rows o.2,
  )
  step_less (L.Join c l r) n i rows o = (
    o.0,
    i.0.less o.0 o.1,
    (
      o.2.0,
      i.1.less o.2.0 o.2.1,
      subst (λ (m : Env → Env → Env). IsPermutation (flat_map (λ a. filter (holds c) (map (m a) o.2.0)) o.0) rows) (beside-same _ _ i.0.vars) o.2.2,
    ),
  )
  step_less (L.LeftJoin c l r) n i rows o = (
    o.0,
    i.0.less o.0 o.1,
    (
      o.2.0,
      i.1.less o.2.0 o.2.1,
      subst (λ (m : Env → Env → Env). IsPermutation (flat_map (λ a. or_alone (m a nulls) (filter (holds c) (map (m a) o.2.0))) o.0) rows) (beside-same _ _ i.0.vars) o.2.2,
    ),
  )
  step_less (L.Group keys m s) n i rows o = (
    o.0,
    i.less o.0 o.1,
    (
      o.2.0,
      o.2.1,
      o.2.2,
      zip_weaker _ _ (λ (p : Group) row one.
          let low = n b sets (live (f s) given) (live (g s) known) (rows_in p) i.vars in
          (one.0, low.less (one.0 ∷ []) one.1, one.2)) o.2.0 o.2.1 o.2.3,
      o.2.4,
    ),
  )
  step_less (L.Distinct s) n i rows o = (o.0, i.less o.0 o.1, o.2)
  step_less (L.Union made ls rs l r) n i rows o = (o.0, i.0.less o.0 o.1, (o.2.0, i.1.less o.2.0 o.2.1, o.2.2))
  step_less (L.Aggregate made s) n i rows o = (o.0, i.less o.0 o.1, o.2)
  step_less (L.Order keys s) n i rows o = (o.0, i.less o.0 o.1, o.2)
  step_less (L.Limit k m s) n i rows o = (o.0, i.less o.0 o.1, o.2)
  step_less (L.Check name c s) n i rows o = (i.less rows o.0, o.1)
  step_less (L.Result vars s) n i rows o = (o.0, i.less o.0 o.1, o.2)

  pub step_below : (y : L.Plan-F S) → Inner S f g y → Parts y → Below b sets given known outer (roll-Plan (map-Plan S Plan f y)) (roll-Plan (map-Plan S Plan g y))
  step_below y n i = record {
    vars = same-ends _ _ _ _ (live_is (map-Plan S Plan f y) given) (live_is (map-Plan S Plan g y) known) (step_vars y n i);
    order = step_order y i;
    less = λ rows o. enroll (map-Plan S Plan g y) b sets known outer rows (step_less y n i rows (unroll (map-Plan S Plan f y) b sets given outer rows o));
  }

inner_itself : {S : Type 0} (up : S → Plan) → ((s : S) → Always (up s) (up s)) → (y : L.Plan-F S) → Inner S up up y
inner_itself up ih (L.Scan set vars) = tt
inner_itself up ih L.Empty = tt
inner_itself up ih L.Nested = tt
inner_itself up ih (L.Assign made s) = tt
inner_itself up ih (L.Select c s) = tt
inner_itself up ih (L.Project vars s) = tt
inner_itself up ih (L.Unnest v its s) = tt
inner_itself up ih (L.Subplan m s) = ih m
inner_itself up ih (L.Join c l r) = tt
inner_itself up ih (L.LeftJoin c l r) = tt
inner_itself up ih (L.Group keys m s) = ih m
inner_itself up ih (L.Distinct s) = tt
inner_itself up ih (L.Union made ls rs l r) = tt
inner_itself up ih (L.Aggregate made s) = tt
inner_itself up ih (L.Order keys s) = tt
inner_itself up ih (L.Limit k m s) = tt
inner_itself up ih (L.Check name c s) = tt
inner_itself up ih (L.Result vars s) = tt

layer_always : {S : Type 0} (up : S → Plan) → ((s : S) → Always (up s) (up s)) → (y : L.Plan-F S) → Always (roll-Plan (map-Plan S Plan up y)) (roll-Plan (map-Plan S Plan up y))
layer_always up ih y b sets given known outer same = step_below up up b sets given known outer same y (inner_itself up ih y) (inputs_all (λ s. Below b sets given known outer (up s) (up s)) (λ s. ih s b sets given known outer same) y)

-- what a plan allows depends on the outer rows' variables by their names alone
pub always : (p : Plan) → Always p p
always = ind-Plan (λ p. Always p p) (λ x y e. subst (λ (z : L.Plan-F Plan). Always (roll-Plan z) (roll-Plan z)) e (layer_always (λ s. s.0) (λ s. s.1) y))
