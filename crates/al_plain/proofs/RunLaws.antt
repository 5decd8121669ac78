-- What the evaluation of an operator answers, where its inputs have been evaluated.
use Rattle.std.proofs.Common.{◌≡◌, ◌+◌, ◌<◌, ℕ, length, get_or, Bool, true, false, List, [], ◌∷◌, ◌++◌, Result, Ok, Err, IfOk, IfErr, map, filter, flat_map, take, drop, refl, ap, sym, subst, ◌∙◌, inl, arith}
use Rattle.std.specs.Result.{IsErrAnd}
use Rattle.std.specs.List.{All, AllZip}
use Rattle.std.specs.List.Sorted.{IsPermutation, IsSorted}
use Rattle.al_plan.specs.declared.expr.Var.{Var}
use Rattle.al_plan.specs.declared.expr.Expr.{Expr}
use Rattle.al_plan.specs.declared.plan.OrderKey.{OrderKey}
use Rattle.al_plan.specs.declared.plan.AggCall.{AggCall}
use Rattle.al_plan.specs.declared.plan.Generator.{Generator}
use Rattle.al_plan.specs.declared.plan.Plan.{Plan}
use Rattle.al_plan.specs.declared.plan.Plan.TheVariants as P
use Rattle.al_plan.specs.declared.plan.Plan.TheOpen as L
use Rattle.al_plan.specs.Eval.{Bytes, bind, holds}
use Rattle.al_plan.specs.Calls.{agg_call}
use Rattle.al_plan.specs.Allows.{Sets, Faults, live, keys_cmp, new_of}
use Rattle.al_plan.proofs.PlanLaws.{live-Scan, live-Empty, live-Nested, live-Assign, live-Select, live-Project, live-Unnest, live-Subplan, live-Join, live-LeftJoin, live-Group, live-Distinct, live-Union, live-Aggregate, live-Order, live-Limit, live-Check, live-Result, each-Check}
use Rattle.al_plan.specs.Refines.{Fit, Fills, FitsEach, NoTwice, scans}
use Rattle.al_plan.proofs.Makes.{Disjoint}
use Rattle.al_plan.proofs.NoFault.{passes_more}
use Rattle.al_plan.proofs.Bools.{no}
use Rattle.std.proofs.lemmas.List.Sorted.{All-permutation}
use Rattle.al_plain.specs.declared.plan.Rows.{Rows}
use Rattle.al_plain.specs.declared.plan.PlainFault.{PlainFault}
use Rattle.al_plain.specs.declared.plan.PlainFault.TheVariants as F
use Rattle.al_plain.specs.Rows.{Cells, AreDistinct, before_each, values_of, assigned_row, expanded_row, pairs_of, pairs_or_padded}
use Rattle.al_plain.specs.Gives.{AreRows, AreWide, Answers, AnswersNested, Blames, Fails, Gives, IsGiven, IsNestable, Placed}
use Rattle.al_plain.specs.Groups.{AreGroups, Extends, IsOverGroups, alone}
use Rattle.al_plain.specs.declared.group.Bunch.{Bunch}
use Rattle.al_plain.proofs.Lists.{Contains-map, All-unflat, each_map, each_one}
use Rattle.al_plain.proofs.Places.{Under, raised, faulted, live_once, wide_Scan, wide_Union, new_in_Assign, new_in_Unnest, new_in_Subplan, nested_of_Subplan, nested_of_Group, under_Assign, under_Select, under_Project, under_Unnest, under_Subplan, under_Group, under_Distinct, under_Aggregate, under_Order, under_Limit, under_Check, under_Result, left_of_Join, right_of_Join, left_of_LeftJoin, right_of_LeftJoin, left_of_Union, right_of_Union}
use Rattle.al_plain.proofs.GivesLaws.{gives_Scan, gives_Empty, gives_Nested, gives_Assign, gives_Select, gives_Project, gives_Result, gives_Order, gives_Limit, gives_Check, gives_Aggregate, gives_Union, gives_Unnest, gives_Join, gives_LeftJoin, gives_Distinct}
use Rattle.al_plain.proofs.NestLaws.{gives_Subplan, gives_Group, nest_more}

module _ (sets : Sets) (given : List Var) (outer : List Cells) where
  abbrev pub Done : Plan → Result Rows PlainFault → Type 0
  Done p r = Answers p sets given outer r

  -- an operator gives rows of the claim or wants memory
  answered : (q : Plan) (claim : Rows → Type 0) → ((out : Rows) → claim out → Done q (Ok out)) → (r : Result Rows PlainFault) → IfOk r claim → IfErr r (λ e. e ≡ F.NoMemory) → Done q r
  answered q claim f (Ok out) ok err = f out ok
  answered q claim f (Err e) ok err = λ inside h. subst (Blames inside q sets given outer) (sym err) tt

  -- a fault of an input
  pub handed_on : (p q : Plan) → Under q p → (e : PlainFault) → Done p (Err e) → (r : Result Rows PlainFault) → IsErrAnd r (λ f. f ≡ e) → Done q r
  handed_on p q u e h (Ok out) is = absurd is
  handed_on p q u e h (Err f) is = subst (λ (g : PlainFault). Done q (Err g)) (sym is) (raised q p u sets given outer e h)

  moved : (q x : Plan) → q ≡ x → (vs : List Var) (out : Rows) → out.vars ≡ vs → IsGiven x sets given outer vs out.rows → IsGiven q sets given outer out.vars out.rows
  moved q x e vs out is h = subst (λ (p : Plan). IsGiven p sets given outer out.vars out.rows) (sym e) (subst (λ (ws : List Var). IsGiven x sets given outer ws out.rows) (sym is) h)

  -- rows of the operator
  as_given : (q x : Plan) → q ≡ x → (vs : List Var) (out : Rows) → out.vars ≡ vs → live x given ≡ vs → ((inside : Bool) → Placed inside q sets given outer → IsGiven x sets given outer vs out.rows) → Done q (Ok out)
  as_given q x e vs out is l f = (is ∙ sym l ∙ ap (λ (p : Plan). live p given) (sym e), λ inside h. moved q x e vs out is (f inside h))

  as_rows : (q x : Plan) → q ≡ x → (vs : List Var) (rs : List Cells) → live x given ≡ vs → ((inside : Bool) → Placed inside q sets given outer → IsGiven x sets given outer vs rs) → (out : Rows) → AreRows vs rs out → Done q (Ok out)
  as_rows q x e vs rs l f out is = as_given q x e vs out is.0 l (λ inside h. subst (IsGiven x sets given outer vs) (sym is.1) (f inside h))

  -- what is known of an input that has been evaluated
  given_at : (p q : Plan) → Under q p → (input : Rows) → Done p (Ok input) → (inside : Bool) → Placed inside q sets given outer → IsGiven p sets given outer input.vars input.rows
  given_at p q u input have inside h = have.1 inside (u.placed inside sets given outer h)

  pub answer_Scan : (set : Bytes) (vars : List Var) (q : Plan) → q ≡ P.Scan set vars → (r : Result Rows PlainFault) → IfOk r (AreRows vars (sets set)) → IfErr r (λ e. e ≡ F.NoMemory) → Done q r
  answer_Scan set vars q e = answered q (AreRows vars (sets set)) (as_rows q (P.Scan set vars) e vars (sets set) (live-Scan set vars given) (λ inside h. gives_Scan sets given outer set vars (wide_Scan set vars q e inside sets given outer h)))

  pub answer_Empty : (q : Plan) → q ≡ P.Empty → (r : Result Rows PlainFault) → IfOk r (AreRows [] ([] ∷ [])) → IfErr r (λ e. e ≡ F.NoMemory) → Done q r
  answer_Empty q e = answered q (AreRows [] ([] ∷ [])) (as_rows q P.Empty e [] ([] ∷ []) (live-Empty given) (λ inside h. gives_Empty sets given outer))

  pub answer_Nested : (q : Plan) → q ≡ P.Nested → (r : Result Rows PlainFault) → IfOk r (AreRows given outer) → IfErr r (λ e. e ≡ F.NoMemory) → Done q r
  answer_Nested q e = answered q (AreRows given outer) (as_rows q P.Nested e given outer (live-Nested given) (λ inside h. gives_Nested sets given outer h.wide))

  pub answer_Assign : (made : List (Var × Expr)) (p q : Plan) → q ≡ P.Assign made p → (input : Rows) → Done p (Ok input) → (r : Result Rows PlainFault) → IfOk r (AreRows (input.vars ++ map (λ m. m.0) made) (map (assigned_row made input.vars) input.rows)) → IfErr r (λ e. e ≡ F.NoMemory) → Done q r
  answer_Assign made p q e input have = answered q (AreRows (input.vars ++ map (λ m. m.0) made) (map (assigned_row made input.vars) input.rows)) (as_rows q (P.Assign made p) e (input.vars ++ map (λ m. m.0) made) (map (assigned_row made input.vars) input.rows) (live-Assign made p given ∙ ap (λ (vs : List Var). vs ++ map (λ m. m.0) made) (sym have.0)) (λ inside h. gives_Assign sets given outer made p input.vars input.rows (given_at p q (under_Assign made p q e) input have inside h) (subst (λ (vs : List Var). Disjoint vs (map (λ m. m.0) made)) (sym have.0) (new_in_Assign made p q e inside sets given outer h))))

  pub answer_Select : (c : Expr) (p q : Plan) → q ≡ P.Select c p → (input : Rows) → Done p (Ok input) → (r : Result Rows PlainFault) → IfOk r (AreRows (input.vars) (filter (λ r. holds c (bind input.vars r)) input.rows)) → IfErr r (λ e. e ≡ F.NoMemory) → Done q r
  answer_Select c p q e input have = answered q (AreRows (input.vars) (filter (λ r. holds c (bind input.vars r)) input.rows)) (as_rows q (P.Select c p) e (input.vars) (filter (λ r. holds c (bind input.vars r)) input.rows) (live-Select c p given ∙ sym have.0) (λ inside h. gives_Select sets given outer c p input.vars input.rows (given_at p q (under_Select c p q e) input have inside h)))

  pub answer_Project : (out : List Var) (p q : Plan) → q ≡ P.Project out p → (input : Rows) → Done p (Ok input) → (r : Result Rows PlainFault) → IfOk r (AreRows (out) (map (values_of out input.vars) input.rows)) → IfErr r (λ e. e ≡ F.NoMemory) → Done q r
  answer_Project out p q e input have = answered q (AreRows (out) (map (values_of out input.vars) input.rows)) (as_rows q (P.Project out p) e (out) (map (values_of out input.vars) input.rows) (live-Project out p given) (λ inside h. gives_Project sets given outer out p input.vars input.rows (given_at p q (under_Project out p q e) input have inside h)))

  pub answer_Result : (out : List Var) (p q : Plan) → q ≡ P.Result out p → (input : Rows) → Done p (Ok input) → (r : Result Rows PlainFault) → IfOk r (AreRows (out) (map (values_of out input.vars) input.rows)) → IfErr r (λ e. e ≡ F.NoMemory) → Done q r
  answer_Result out p q e input have = answered q (AreRows (out) (map (values_of out input.vars) input.rows)) (as_rows q (P.Result out p) e (out) (map (values_of out input.vars) input.rows) (live-Result out p given) (λ inside h. gives_Result sets given outer out p input.vars input.rows (given_at p q (under_Result out p q e) input have inside h)))

  pub answer_Unnest : (v : Var) (g : Generator) (p q : Plan) → q ≡ P.Unnest v g p → (input : Rows) → Done p (Ok input) → (r : Result Rows PlainFault) → IfOk r (AreRows (input.vars ++ v ∷ []) (flat_map (expanded_row g input.vars) input.rows)) → IfErr r (λ e. e ≡ F.NoMemory) → Done q r
  answer_Unnest v g p q e input have = answered q (AreRows (input.vars ++ v ∷ []) (flat_map (expanded_row g input.vars) input.rows)) (as_rows q (P.Unnest v g p) e (input.vars ++ v ∷ []) (flat_map (expanded_row g input.vars) input.rows) (live-Unnest v g p given ∙ ap (λ (vs : List Var). vs ++ v ∷ []) (sym have.0)) (λ inside h. gives_Unnest sets given outer v g p input.vars input.rows (given_at p q (under_Unnest v g p q e) input have inside h) (subst (λ (vs : List Var). Disjoint vs (v ∷ [])) (sym have.0) (new_in_Unnest v g p q e inside sets given outer h))))

  pub answer_Aggregate : (made : List (Var × AggCall)) (p q : Plan) → q ≡ P.Aggregate made p → (input : Rows) → Done p (Ok input) → (r : Result Rows PlainFault) → IfOk r (AreRows (map (λ m. m.0) made) (map (λ m. agg_call m.1 (map (bind input.vars) input.rows)) made ∷ [])) → IfErr r (λ e. e ≡ F.NoMemory) → Done q r
  answer_Aggregate made p q e input have = answered q (AreRows (map (λ m. m.0) made) (map (λ m. agg_call m.1 (map (bind input.vars) input.rows)) made ∷ [])) (as_rows q (P.Aggregate made p) e (map (λ m. m.0) made) (map (λ m. agg_call m.1 (map (bind input.vars) input.rows)) made ∷ []) (live-Aggregate made p given) (λ inside h. gives_Aggregate sets given outer made p input.vars input.rows (given_at p q (under_Aggregate made p q e) input have inside h)))

  pub answer_Limit : (n k : ℕ) (p q : Plan) → q ≡ P.Limit n k p → (input : Rows) → Done p (Ok input) → (r : Result Rows PlainFault) → IfOk r (AreRows (input.vars) (take n (drop k input.rows))) → IfErr r (λ e. e ≡ F.NoMemory) → Done q r
  answer_Limit n k p q e input have = answered q (AreRows (input.vars) (take n (drop k input.rows))) (as_rows q (P.Limit n k p) e (input.vars) (take n (drop k input.rows)) (live-Limit n k p given ∙ sym have.0) (λ inside h. gives_Limit sets given outer n k p input.vars input.rows (given_at p q (under_Limit n k p q e) input have inside h)))

  pub answer_Join : (c : Expr) (l r q : Plan) → q ≡ P.Join c l r → (left right : Rows) → Done l (Ok left) → Done r (Ok right) → (got : Result Rows PlainFault) → IfOk got (AreRows (left.vars ++ right.vars) (flat_map (pairs_of c (left.vars ++ right.vars) right.rows) left.rows)) → IfErr got (λ e. e ≡ F.NoMemory) → Done q got
  answer_Join c l r q e left right hl hr = answered q (AreRows (left.vars ++ right.vars) (flat_map (pairs_of c (left.vars ++ right.vars) right.rows) left.rows)) (as_rows q (P.Join c l r) e (left.vars ++ right.vars) (flat_map (pairs_of c (left.vars ++ right.vars) right.rows) left.rows) (live-Join c l r given ∙ (λ i. sym hl.0 i ++ sym hr.0 i))
      (λ inside h. gives_Join sets given outer c l r left.vars right.vars left.rows right.rows hl.0 (given_at l q (left_of_Join c l r q e) left hl inside h) (given_at r q (right_of_Join c l r q e) right hr inside h)))

  pub answer_LeftJoin : (c : Expr) (l r q : Plan) → q ≡ P.LeftJoin c l r → (left right : Rows) → Done l (Ok left) → Done r (Ok right) → (got : Result Rows PlainFault) → IfOk got (AreRows (left.vars ++ right.vars) (flat_map (pairs_or_padded c (left.vars ++ right.vars) right.vars right.rows) left.rows)) → IfErr got (λ e. e ≡ F.NoMemory) → Done q got
  answer_LeftJoin c l r q e left right hl hr = answered q (AreRows (left.vars ++ right.vars) (flat_map (pairs_or_padded c (left.vars ++ right.vars) right.vars right.rows) left.rows)) (as_rows q (P.LeftJoin c l r) e (left.vars ++ right.vars) (flat_map (pairs_or_padded c (left.vars ++ right.vars) right.vars right.rows) left.rows) (live-LeftJoin c l r given ∙ (λ i. sym hl.0 i ++ sym hr.0 i))
      (λ inside h. gives_LeftJoin sets given outer c l r left.vars right.vars left.rows right.rows hl.0 (given_at l q (left_of_LeftJoin c l r q e) left hl inside h) (given_at r q (right_of_LeftJoin c l r q e) right hr inside h)))

  pub answer_Union : (made ls rs : List Var) (l r q : Plan) → q ≡ P.Union made ls rs l r → (left right : Rows) → Done l (Ok left) → Done r (Ok right) → (got : Result Rows PlainFault)
      → IfOk got (AreRows made (map (values_of ls left.vars) left.rows ++ map (values_of rs right.vars) right.rows)) → IfErr got (λ e. e ≡ F.NoMemory) → Done q got
  answer_Union made ls rs l r q e left right hl hr = answered q (AreRows made (map (values_of ls left.vars) left.rows ++ map (values_of rs right.vars) right.rows)) (as_rows q (P.Union made ls rs l r) e made (map (values_of ls left.vars) left.rows ++ map (values_of rs right.vars) right.rows) (live-Union made ls rs l r given)
      (λ inside h. let w = wide_Union made ls rs l r q e inside sets given outer h in gives_Union sets given outer made ls rs l r left.vars right.vars left.rows right.rows w.0 w.1 (given_at l q (left_of_Union made ls rs l r q e) left hl inside h) (given_at r q (right_of_Union made ls rs l r q e) right hr inside h)))

  pub answer_Distinct : (p q : Plan) → q ≡ P.Distinct p → (input : Rows) → Done p (Ok input) → (r : Result Rows PlainFault) → IfOk r (λ out. (out.vars ≡ input.vars) × AreDistinct input.rows out.rows) → IfErr r (λ e. e ≡ F.NoMemory) → Done q r
  answer_Distinct p q e input have = answered q (λ out. (out.vars ≡ input.vars) × AreDistinct input.rows out.rows) (λ out is. as_given q (P.Distinct p) e input.vars out is.0 (live-Distinct p given ∙ sym have.0)
      (λ inside h. gives_Distinct sets given outer p input.vars input.rows out.rows (given_at p q (under_Distinct p q e) input have inside h) (subst NoTwice (sym have.0) (live_once inside sets given outer p ((under_Distinct p q e).placed inside sets given outer h))) is.1))

  pub answer_Order : (keys : List OrderKey) (p q : Plan) → q ≡ P.Order keys p → (input : Rows) → Done p (Ok input) → (r : Result Rows PlainFault)
      → IfOk r (λ out. (out.vars ≡ input.vars) × IsPermutation input.rows out.rows × IsSorted (λ a b. keys_cmp keys (bind input.vars a) (bind input.vars b)) out.rows) → IfErr r (λ e. e ≡ F.NoMemory) → Done q r
  answer_Order keys p q e input have = answered q (λ out. (out.vars ≡ input.vars) × IsPermutation input.rows out.rows × IsSorted (λ a b. keys_cmp keys (bind input.vars a) (bind input.vars b)) out.rows) (λ out is. as_given q (P.Order keys p) e input.vars out is.0 (live-Order keys p given ∙ sym have.0)
      (λ inside h. gives_Order sets given outer keys p input.vars input.rows out.rows (given_at p q (under_Order keys p q e) input have inside h) is.1 is.2))

  -- a check that fails is named
  named : (own : Bytes) (c : Expr) (p q : Plan) → q ≡ P.Check own c p → (input : Rows) → Done p (Ok input) → (e : PlainFault) → Fails own c input.vars input.rows e → Done q (Err e)
  named own c p q e input have F.NoMemory f = λ inside h. tt
  named own c p q e input have (F.Check name) f = λ inside h.
      let here = given_at p q (under_Check own c p q e) input have inside h in
      let each = subst (λ (t : Type 0). t) (each-Check own c p inside given) (subst (λ (x : Plan). FitsEach x inside given) e h.fits) in
      let row = f.1 in (
        each.1,
        faulted (L.Check own c p) q (e ∙ sym (P.rolls-Check own c p)) sets given (map (bind given) outer) name
            (inl (f.0, (map (bind input.vars) input.rows, bind input.vars row.0, passes_more p sets given (map (bind given) outer) _ here.allowed, Contains-map (bind input.vars) input.rows row.0 row.1, row.2))),
      )

  pub answer_Check : (own : Bytes) (c : Expr) (p q : Plan) → q ≡ P.Check own c p → (input : Rows) → Done p (Ok input) → (r : Result Rows PlainFault)
      → IfOk r (λ out. AreRows input.vars input.rows out × All (λ r. holds c (bind input.vars r) ≡ true) input.rows) → IfErr r (Fails own c input.vars input.rows) → Done q r
  answer_Check own c p q e input have (Err f) ok err = named own c p q e input have f err
  answer_Check own c p q e input have (Ok out) ok err = as_rows q (P.Check own c p) e input.vars input.rows (live-Check own c p given ∙ sym have.0) (λ inside h. gives_Check sets given outer own c p input.vars input.rows (given_at p q (under_Check own c p q e) input have inside h) ok.1) out ok.0

  pub answer_Subplan : (n p q : Plan) → q ≡ P.Subplan n p → (input : Rows) → Done p (Ok input) → (r : Result Rows PlainFault)
      → AnswersNested n sets input.vars (AreWide input.vars input.rows) (input.vars ++ live n input.vars) (AllZip (Extends n sets input.vars (live n input.vars)) (map alone input.rows)) r → Done q r
  answer_Subplan n p q e input have (Err f) got = λ inside h.
      let here = given_at p q (under_Subplan n p q e) input have inside h in
      let nest = subst (IsNestable n sets) (sym have.0) (nested_of_Subplan n p q e inside sets given outer h) in
      subst (Blames inside q sets given outer) (sym (got nest here.wide)) tt
  answer_Subplan n p q e input have (Ok out) got = as_given q (P.Subplan n p) e (input.vars ++ live n input.vars) out got.0 (live-Subplan n p given ∙ ap (λ (vs : List Var). vs ++ live n vs) (sym have.0)) (λ inside h.
      let here = given_at p q (under_Subplan n p q e) input have inside h in
      let nest = subst (IsNestable n sets) (sym have.0) (nested_of_Subplan n p q e inside sets given outer h) in
      let new = subst (λ (vs : List Var). Disjoint vs (live n vs)) (sym have.0) (new_in_Subplan n p q e inside sets given outer h) in
      gives_Subplan sets given outer n p input.vars (live n input.vars) input.rows out.rows have.0 refl new here (got.1 nest here.wide))

  pub answer_Group : (keys : List (Var × Var)) (n p q : Plan) → q ≡ P.Group keys n p → (input : Rows) → Done p (Ok input) → (r : Result Rows PlainFault)
      → AnswersNested n sets input.vars (AreWide input.vars input.rows) (new_of keys ++ live n input.vars) (IsOverGroups keys n sets input.vars input.rows) r → Done q r
  answer_Group keys n p q e input have (Err f) got = λ inside h.
      let here = given_at p q (under_Group keys n p q e) input have inside h in
      let nest = subst (IsNestable n sets) (sym have.0) (nested_of_Group keys n p q e inside sets given outer h) in
      subst (Blames inside q sets given outer) (sym (got nest here.wide)) tt
  answer_Group keys n p q e input have (Ok out) got = as_given q (P.Group keys n p) e (new_of keys ++ live n input.vars) out got.0 (live-Group keys n p given ∙ ap (λ (vs : List Var). new_of keys ++ live n vs) (sym have.0)) (λ inside h.
      let here = given_at p q (under_Group keys n p q e) input have inside h in
      let nest = subst (IsNestable n sets) (sym have.0) (nested_of_Group keys n p q e inside sets given outer h) in
      let over = got.1 nest here.wide in
      gives_Group sets given outer keys n p input.vars (live n input.vars) input.rows over.0 out.rows have.0 here over.1 over.2)

-- ---- nested plans

module _ (n : Plan) (sets : Sets) where
  -- no check is named inside a nested plan
  memory_alone : (vars : List Var) (outer : List Cells) (e : PlainFault) → Answers n sets vars outer (Err e) → AreWide vars outer → IsNestable n sets vars → e ≡ F.NoMemory
  memory_alone vars outer F.NoMemory h w k = refl
  memory_alone vars outer (F.Check name) h w k = absurd (no (h true (k.placed outer w)).0)

  fault_as : (vars made : List Var) (wide : Type 0) (claim : List Cells → Type 0) (e : PlainFault) → (IsNestable n sets vars → wide → e ≡ F.NoMemory) → (r : Result Rows PlainFault) → IsErrAnd r (λ f. f ≡ e) → AnswersNested n sets vars wide made claim r
  fault_as vars made wide claim e h (Ok out) is = absurd is
  fault_as vars made wide claim e h (Err f) is = λ k w. is ∙ h k w

  pub nested_fault : (vars made : List Var) (wide : Type 0) (claim : List Cells → Type 0) (outer : List Cells) → (wide → AreWide vars outer) → (e : PlainFault) → Answers n sets vars outer (Err e) → (r : Result Rows PlainFault) → IsErrAnd r (λ f. f ≡ e) → AnswersNested n sets vars wide made claim r
  nested_fault vars made wide claim outer f e h = fault_as vars made wide claim e (λ k w. memory_alone vars outer e h (f w) k)

  pub member_wide : (vars : List Var) (bunches : List Bunch) (i : ℕ) (b : Bunch) (ms : List Cells) → i < length bunches → b ≡ get_or bunches i b → ms ≡ b.members → All (λ (b : Bunch). AreWide vars b.members) bunches → AreWide vars ms
  member_wide vars bunches i b ms low is same w = subst (AreWide vars) (sym same) (subst (λ (d : Bunch). AreWide vars d.members) (sym is) (w i b low))

  pub nested_more : (vars : List Var) (bunches : List Bunch) (rows more : List Cells) (i : ℕ) (b : Bunch) (ms : List Cells) (inner : Rows) → i < length bunches → b ≡ get_or bunches i b → ms ≡ b.members → Answers n sets vars ms (Ok inner) → more ≡ rows ++ before_each b.head inner.rows
      → (IsNestable n sets vars → All (λ (b : Bunch). AreWide vars b.members) bunches → AllZip (Extends n sets vars (live n vars)) (take i bunches) rows)
      → IsNestable n sets vars → All (λ (b : Bunch). AreWide vars b.members) bunches → AllZip (Extends n sets vars (live n vars)) (take (i + 1) bunches) more
  nested_more vars bunches rows more i b ms inner low is same h grown before k w =
      let given = h.1 true (k.placed ms (member_wide vars bunches i b ms low is same w)) in
      let here : IsGiven n sets vars b.members (live n vars) inner.rows = subst (λ (vs : List Var). IsGiven n sets vars b.members vs inner.rows) h.0 (subst (λ (rs : List Cells). IsGiven n sets vars rs inner.vars inner.rows) same given) in
      subst (λ (rs : List Cells). AllZip (Extends n sets vars (live n vars)) (take (i + 1) bunches) rs) (sym grown) (nest_more n sets vars (live n vars) bunches rows i b inner.rows low is k.root (before k w) here)

  -- the rows of the claim, whatever the bunches are
  abbrev Nested : List Var → List Bunch → Result Rows PlainFault → Type 0
  Nested vars bunches r = AnswersNested n sets vars (All (λ (b : Bunch). AreWide vars b.members) bunches) (live n vars) (AllZip (Extends n sets vars (live n vars)) bunches) r

  alone_wide : (vars : List Var) (rows : List Cells) → AreWide vars rows → All (λ (b : Bunch). AreWide vars b.members) (map alone rows)
  unfolding alone
  alone_wide vars rows w = each_map (λ r. length r ≡ length vars) (λ (b : Bunch). AreWide vars b.members) alone (λ r h. each_one (λ r. length r ≡ length vars) r h) rows w

  groups_wide : (keys : List (Var × Var)) (vars : List Var) (rows : List Cells) (groups : List Bunch) → AreGroups keys vars rows groups → AreWide vars rows → All (λ (b : Bunch). AreWide vars b.members) groups
  groups_wide keys vars rows groups g w = All-unflat (λ r. length r ≡ length vars) (λ (b : Bunch). b.members) groups (All-permutation (λ r. length r ≡ length vars) rows (flat_map (λ (b : Bunch). b.members) groups) g.moved w)

  same_bunches : (vars vs : List Var) (bunches bs : List Bunch) → vs ≡ vars → bs ≡ bunches → (r : Result Rows PlainFault) → Nested vs bs r → Nested vars bunches r
  same_bunches vars vs bunches bs e f r h = subst (λ (ws : List Var). Nested ws bunches r) e (subst (λ (cs : List Bunch). Nested vs cs r) f h)

  -- over each row alone
  pub over_alone : (vars vs : List Var) (rows : List Cells) (bs : List Bunch) → vs ≡ vars → bs ≡ map alone rows → (inner : Rows) → Nested vs bs (Ok inner) → (out : Rows) → out.vars ≡ vars ++ inner.vars → out.rows ≡ inner.rows
      → AnswersNested n sets vars (AreWide vars rows) (vars ++ live n vars) (AllZip (Extends n sets vars (live n vars)) (map alone rows)) (Ok out)
  over_alone vars vs rows bs e f inner h out v r =
      let here = same_bunches vars vs (map alone rows) bs e f (Ok inner) h in
      (v ∙ ap (λ (ws : List Var). vars ++ ws) here.0, λ k w. subst (AllZip (Extends n sets vars (live n vars)) (map alone rows)) (sym r) (here.1 k (alone_wide vars rows w)))

  pub fault_alone : (vars vs : List Var) (rows : List Cells) (bs : List Bunch) → vs ≡ vars → bs ≡ map alone rows → (e : PlainFault) → Nested vs bs (Err e) → (r : Result Rows PlainFault) → IsErrAnd r (λ f. f ≡ e)
      → AnswersNested n sets vars (AreWide vars rows) (vars ++ live n vars) (AllZip (Extends n sets vars (live n vars)) (map alone rows)) r
  fault_alone vars vs rows bs e f g h =
      let here = same_bunches vars vs (map alone rows) bs e f (Err g) h in
      fault_as vars (vars ++ live n vars) (AreWide vars rows) (AllZip (Extends n sets vars (live n vars)) (map alone rows)) g (λ k w. here k (alone_wide vars rows w))

  -- over groups
  pub over_groups : (keys : List (Var × Var)) (vars vs : List Var) (rows : List Cells) (groups bs : List Bunch) → vs ≡ vars → bs ≡ groups → AreGroups keys vars rows groups → (inner : Rows) → Nested vs bs (Ok inner) → (out : Rows) → out.vars ≡ new_of keys ++ inner.vars → out.rows ≡ inner.rows
      → AnswersNested n sets vars (AreWide vars rows) (new_of keys ++ live n vars) (IsOverGroups keys n sets vars rows) (Ok out)
  over_groups keys vars vs rows groups bs e f g inner h out v r =
      let here = same_bunches vars vs groups bs e f (Ok inner) h in
      (v ∙ ap (λ (ws : List Var). new_of keys ++ ws) here.0, λ k w. (groups, g, subst (AllZip (Extends n sets vars (live n vars)) groups) (sym r) (here.1 k (groups_wide keys vars rows groups g w))))

  pub fault_groups : (keys : List (Var × Var)) (vars vs : List Var) (rows : List Cells) (groups bs : List Bunch) → vs ≡ vars → bs ≡ groups → AreGroups keys vars rows groups → (e : PlainFault) → Nested vs bs (Err e) → (r : Result Rows PlainFault) → IsErrAnd r (λ f. f ≡ e)
      → AnswersNested n sets vars (AreWide vars rows) (new_of keys ++ live n vars) (IsOverGroups keys n sets vars rows) r
  fault_groups keys vars vs rows groups bs e f g fault h =
      let here = same_bunches vars vs groups bs e f (Err fault) h in
      fault_as vars (new_of keys ++ live n vars) (AreWide vars rows) (IsOverGroups keys n sets vars rows) fault (λ k w. here k (groups_wide keys vars rows groups g w))

-- ---- outside nested plans

pub top : (p : Plan) (sets : Sets) → Fit p → Fills (scans p) sets → Placed false p sets [] []
top p sets fit fills = record {
  fits = fit.each;
  given_once = tt;
  made_once = fit.once;
  made_new = λ q e. absurd (no (sym e));
  none_given = λ e. refl;
  fills = fills;
  wide = λ k d low. absurd (omega arith);
}

pub top_given : (p : Plan) (sets : Sets) → Fit p → Fills (scans p) sets → (out : Rows) → Answers p sets [] [] (Ok out) → Gives p sets out.rows
top_given p sets fit fills out h = subst (λ (vs : List Var). IsGiven p sets [] [] vs out.rows) h.0 (h.1 false (top p sets fit fills))

named_fault : (p : Plan) (sets : Sets) (e : PlainFault) → Blames false p sets [] [] e → (name : Bytes) → e ≡ F.Check name → Faults p sets [] [] name
named_fault p sets F.NoMemory h name is = absurd (nothing is)
  where
    nothing : F.NoMemory ≡ F.Check name → ⊥
    nothing e = cc
named_fault p sets (F.Check own) h name is = let same : own ≡ name = cc in subst (Faults p sets [] []) same h.1

pub top_fault : (p : Plan) (sets : Sets) → Fit p → Fills (scans p) sets → (e : PlainFault) → Answers p sets [] [] (Err e) → (r : Result (List Cells) PlainFault) → IsErrAnd r (λ f. f ≡ e) → IfErr r (λ f. (name : Bytes) → f ≡ F.Check name → Faults p sets [] [] name)
top_fault p sets fit fills e h (Ok rows) is = absurd is
top_fault p sets fit fills e h (Err f) is = λ name named. named_fault p sets e (h false (top p sets fit fills)) name (sym is ∙ named)
