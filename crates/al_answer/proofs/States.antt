-- The row that an agg-final makes is that of the aggregates over all rows whose partial states it joined.
use Rattle.std.proofs.Common.{◌≡◌, ◌⊎◌, inl, inr, ◌<◌, ◌+◌, ℕ, zero, suc, Bool, List, [], ◌∷◌, ◌++◌, map, flat_map, length, refl, ap, sym, subst, ◌∙◌, arith, append-nil}
use Rattle.std.specs.List.{AllByRecursion, range_with_len}
use Rattle.std.proofs.lemmas.List.Elements.{All-from_recursion, recursion_from_All}
use Rattle.al_value.specs.Value.{IsValue}
use Rattle.al_agg.specs.declared.agg.Agg.{Agg}
use Rattle.al_plan.specs.declared.expr.Var.{Var}
use Rattle.al_plan.specs.declared.plan.AggCall.{AggCall}
use Rattle.al_plan.specs.Eval.{Env, bind}
use Rattle.al_plan.specs.Allows.{Sets}
use Rattle.al_plan.specs.Allows as V
use Rattle.al_phys.specs.declared.phys.Phys.{Phys, roll-Phys}
use Rattle.al_phys.specs.declared.phys.Phys.TheOpen as L
use Rattle.al_phys.specs.Operators.{phys_live}
use Rattle.al_phys.specs.Parts.{Parts, in_first, first_part}
use Rattle.al_phys.specs.Parts as P
use Rattle.al_phys.specs.PAllows.{PAllowing, PAllows}
use Rattle.al_phys.proofs.OperatorLaws.{plive-roll}
use Rattle.al_phys.proofs.PhysLaws.{pallows-roll}
use Rattle.hy_job.specs.declared.job.Wire.TheVariants as W
use Rattle.hy_job.specs.declared.nested.AggRex.{AggRex}
use Rattle.hy_job.specs.Columns.{Row, AreValues, agg_of, agg_values, state_row, Takes, Interleaves}
use Rattle.hy_job.specs.Columns as C
use Rattle.hy_job.specs.Literals.{agg_literals}
use Rattle.hy_job.specs.Exchange.{parts_by, IsExchanged}
use Rattle.hy_job.specs.Exchange as E
use Rattle.hy_job.specs.Runs.{AreJoined}
use Rattle.hy_job.proofs.RowValues.{agg_valid}
use Rattle.hy_job.proofs.RunRows.{all_unflat, interleaves_all}
use Rattle.al_jobgen.specs.Columns.{agg_kind, made_aggs}
use Rattle.al_jobgen.specs.Agree.{IsAsWide, AreAsWide, AreTaken, made_vars}
use Rattle.al_jobgen.proofs.ColumnParts.{interleaves}
use Rattle.al_jobgen.proofs.ColumnRows.{kinds, aggregate_rows}
use Rattle.al_jobgen.proofs.NestedStates.{joined_row}
use Rattle.al_jobgen.proofs.NestedValid.{are_taken}
use Rattle.al_jobgen.proofs.SoundGraph.{weaken}
use Rattle.al_answer.specs.Flow.{bound, IsAllowed}
use Rattle.al_answer.proofs.Parts.{every, through, part_same, first_alone}
use Rattle.al_answer.proofs.Operators.{at_roll}

-- ---- lists of one item each, which stand for lists

module _ {A B : Type 0} (f : List A → B) where
  -- the one item that stands for a list, or nothing where both are empty
  abbrev pub IsFor : List B → List A → Type 0
  IsFor ys xs = (ys ≡ f xs ∷ []) ⊎ ((ys ≡ []) × (xs ≡ []))

  abbrev pub AreFor : List (List B) → List (List A) → Type 0
  AreFor [] [] = Unit {0}
  AreFor [] (xs ∷ xss) = ⊥
  AreFor (ys ∷ yss) [] = ⊥
  AreFor (ys ∷ yss) (xs ∷ xss) = IsFor ys xs × AreFor yss xss

  -- one of the lists, which is gone afterwards
  record Gone (xss : List (List A)) (xs : List A) (left : List (List A)) : Type 0 where
    pre : List (List A)
    post : List (List A)
    before : xss ≡ pre ++ xs ∷ post
    after : left ≡ pre ++ [] ∷ post

  first_of : (y z : B) (ys zs : List B) → y ∷ ys ≡ z ∷ zs → y ≡ z
  first_of y z ys zs e = ap (head y) e
    where
      head : B → List B → B
      head d [] = d
      head d (u ∷ us) = u

  rest_of : (y z : B) (ys zs : List B) → y ∷ ys ≡ z ∷ zs → ys ≡ zs
  rest_of y z ys zs e = ap tail e
    where
      tail : List B → List B
      tail [] = []
      tail (u ∷ us) = us

  no_item : (y : B) (ys : List B) → y ∷ ys ≡ [] → ⊥
  no_item y ys e = cc

  takes_one : (yss : List (List B)) (xss : List (List A)) (y : B) (rest : List (List B)) → AreFor yss xss → Takes yss y rest → (xs : List A) × (left : List (List A)) × (y ≡ f xs) × AreFor rest left × Gone xss xs left
  unfolding Takes
  takes_one [] xss y rest a t = absurd t
  takes_one (ys ∷ yss) [] y rest a t = absurd a
  takes_one (ys ∷ yss) (xs ∷ xss) y rest a t = elim t [
    | inl here ↦ elim a.0 [
      | inl is ↦ (
          let same : y ∷ here.0 ≡ f xs ∷ [] = sym here.1 ∙ is in (
            xs,
            [] ∷ xss,
            first_of y (f xs) here.0 [] same,
            subst (λ (zss : List (List B)). AreFor zss ([] ∷ xss)) (sym here.2) (inr (rest_of y (f xs) here.0 [] same, refl), a.1),
            record { pre = []; post = xss; before = refl; after = refl },
          ))
      | inr none ↦ absurd (no_item y here.0 (sym here.1 ∙ none.0))
    ]
    | inr there ↦ (
        let more = takes_one yss xss y there.0 a.1 there.1 in (
          more.0,
          xs ∷ more.1,
          more.2,
          subst (λ (zss : List (List B)). AreFor zss (xs ∷ more.1)) (sym there.2) (a.0, more.3),
          record { pre = xs ∷ more.4.pre; post = more.4.post; before = ap (λ (zss : List (List A)). xs ∷ zss) more.4.before; after = ap (λ (zss : List (List A)). xs ∷ zss) more.4.after },
        ))
  ]

  takes_at : (pre post : List (List A)) (x : A) (xs : List A) → Takes (pre ++ (x ∷ xs) ∷ post) x (pre ++ xs ∷ post)
  unfolding Takes
  takes_at [] post x xs = inl (xs, refl, refl)
  takes_at (us ∷ pre) post x xs = inr (pre ++ xs ∷ post, takes_at pre post x xs, refl)

  -- a list is gone when its items were taken
  fills : (pre post : List (List A)) (xs zs : List A) → Interleaves (pre ++ [] ∷ post) zs → Interleaves (pre ++ xs ∷ post) (xs ++ zs)
  unfolding Interleaves
  fills pre post [] zs h = h
  fills pre post (x ∷ xs) zs h = (pre ++ xs ∷ post, takes_at pre post x xs, fills pre post xs zs h)

  none_for : (yss : List (List B)) (xss : List (List A)) → AreFor yss xss → AllByRecursion (λ ys. ys ≡ []) yss → AllByRecursion (λ xs. xs ≡ []) xss
  none_for [] [] a h = tt
  none_for [] (xs ∷ xss) a h = absurd a
  none_for (ys ∷ yss) [] a h = absurd a
  none_for (ys ∷ yss) (xs ∷ xss) a h = (elim a.0 [ inl is ↦ absurd (no_item (f xs) [] (sym is ∙ h.0)) | inr none ↦ none.1 ], none_for yss xss a.1 h.1)

  -- where the items come as one, so do the lists, one after the other
  pub in_place : (rows : List B) (yss : List (List B)) (xss : List (List A)) → AreFor yss xss → Interleaves yss rows → (ps : List (List A)) × (rows ≡ map f ps) × Interleaves xss (flat_map (λ (xs : List A). xs) ps)
  unfolding Interleaves
  in_place [] yss xss a h = ([], refl, All-from_recursion (λ xs. xs ≡ []) xss (none_for yss xss a (recursion_from_All (λ ys. ys ≡ []) yss h)))
  in_place (y ∷ rows) yss xss a h =
      let one = takes_one yss xss y h.0 a h.1 in
      let more = in_place rows h.0 one.1 one.3 h.2 in
      let all = flat_map (λ (xs : List A). xs) more.0 in (
        one.0 ∷ more.0,
        (λ i. one.2 i ∷ more.1 i),
        subst (λ (zss : List (List A)). Interleaves zss (one.0 ++ flat_map (λ (xs : List A). xs) more.0)) (sym one.4.before)
            (fills one.4.pre one.4.post one.0 (flat_map (λ (xs : List A). xs) more.0) (subst (λ (zss : List (List A)). Interleaves zss (flat_map (λ (xs : List A). xs) more.0)) one.4.after more.2)),
      )

  -- of each number, the item of its list
  pub for_each : (g : ℕ → List B) (h : ℕ → List A) (n : ℕ) → ((j : ℕ) → j < n → g j ≡ f (h j) ∷ []) → AreFor (map g (range_with_len 0 n)) (map h (range_with_len 0 n))
  for_each g h n e = from 0 n (λ j lt. e j (omega (arith, lt)))
    where
      from : (a m : ℕ) → ((j : ℕ) → j < a + m → g j ≡ f (h j) ∷ []) → AreFor (map g (range_with_len a m)) (map h (range_with_len a m))
      from a zero k = tt
      from a (suc m) k = (inl (k a (omega arith)), from (a + 1) m (λ j lt. k j (omega (arith, lt))))

-- ---- aggregates

same_kinds : (vars : List Var) (made : List (Var × AggCall)) → map (λ (m : Var × AggCall). agg_kind m.1) made ≡ map agg_of (made_aggs vars made)
same_kinds vars [] = refl
same_kinds vars (m ∷ made) = λ i. sym (kinds vars m.1) i ∷ same_kinds vars made i

aggregates_valid : (aggs : List AggRex) (rows : List Row) → AreTaken aggs rows → AreValues (C.agg_row aggs rows)
aggregates_valid [] rows h = tt
aggregates_valid (a ∷ aggs) rows h = (agg_valid (agg_of a) (agg_values a rows) (recursion_from_All IsValue (agg_values a rows) h.0), aggregates_valid aggs rows h.1)

-- what a row of joined states is, for the plan below an agg-final
pub record Finishes (p : Phys) (passing : Bool) (sets : Sets) (n : ℕ) (made : List (Var × AggCall)) (row : Row) : Type 0 where
  pub input : Parts
  pub allowed : PAllows p passing sets n input
  pub is : bind (made_vars made) row ≡ V.agg_row made (first_part input)
  pub wide : IsAsWide (made_vars made) row
  pub values : AreValues row

module _ (passing : Bool) (sets : Sets) (n : ℕ) (some : 0 < n) (made : List (Var × AggCall)) (s : Phys) (parts : ℕ → List Row) (i : IsAllowed s passing sets n parts)
    (literals : AreValues (flat_map agg_literals (made_aggs (phys_live s) made))) (values : (j : ℕ) → j < n → AllByRecursion AreValues (parts j)) where
  abbrev aggs : List AggRex
  aggs = made_aggs (phys_live s) made

  abbrev all : List (List Row) → List Row
  all = flat_map (λ (xs : List Row). xs)

  abbrev part : Phys
  part = roll-Phys (L.AggPart made s)

  in_part : PAllows (roll-Phys (L.AggPart made s)) passing sets n (bound n (phys_live s) parts)
  in_part = subst (λ (a : PAllowing). a passing sets n (bound n (phys_live s) parts)) (sym (pallows-roll (L.AggPart made s))) i.parts

  -- the row of the states of these lists of rows
  of_lists : (ps : List (List Row)) → AllByRecursion (AllByRecursion AreValues) ps → (row : Row) → AreJoined (map (λ (m : Var × AggCall). agg_kind m.1) made) (map (state_row (made_aggs (phys_live s) made)) ps) row → row ≡ C.agg_row (made_aggs (phys_live s) made) (all ps)
  of_lists ps valid row joined =
      joined_row aggs ps row (weaken (AllByRecursion AreValues) (AreTaken aggs) (λ xs h. are_taken aggs literals xs h) ps valid)
      (subst (λ (ks : List Agg). AreJoined ks (map (state_row aggs) ps) row) (same_kinds (phys_live s) made) joined)

  finish : (p : Phys) (ps : List (List Row)) (input : Parts) → PAllows p passing sets n input → first_part input ≡ map (bind (phys_live s)) (all ps) → AllByRecursion (AllByRecursion AreValues) ps → AllByRecursion AreValues (all ps) → AreAsWide (phys_live s) (all ps)
      → (row : Row) → AreJoined (map (λ (m : Var × AggCall). agg_kind m.1) made) (map (state_row (made_aggs (phys_live s) made)) ps) row → Finishes p passing sets n made row
  finish p ps input allowed first valid all_valid wide row joined =
      let e = of_lists ps valid row joined in
      record {
        input = input;
        allowed = allowed;
        is = ap (bind (made_vars made)) e ∙ aggregate_rows (phys_live s) (all ps) wide made ∙ ap (V.agg_row made) (sym first);
        wide = ap (λ (r : Row). length r) e ∙ counted made;
        values = subst AreValues (sym e) (aggregates_valid aggs (all ps) (are_taken aggs literals (all ps) all_valid));
      }
    where
      counted : (ms : List (Var × AggCall)) → length (C.agg_row (made_aggs (phys_live s) ms) (all ps)) ≡ length (made_vars ms)
      counted [] = refl
      counted (m ∷ ms) = ap suc (counted ms)

  first_bound : (m : ℕ) → 0 < m → first_part (bound m (phys_live s) parts) ≡ map (bind (phys_live s)) (parts 0)
  first_bound zero lt = absurd (omega (arith, lt))
  first_bound (suc m) lt = refl

  first_in : (m : ℕ) (rows : List Env) → 0 < m → first_part (in_first m rows) ≡ rows
  first_in zero rows lt = absurd (omega (arith, lt))
  first_in (suc m) rows lt = refl

  first_at : (m : ℕ) (received : ℕ → List Row) (rows : List Row) → 0 < m → parts_by m received ≡ E.in_first m rows → received 0 ≡ rows
  first_at zero received rows lt e = absurd (omega (arith, lt))
  first_at (suc m) received rows lt e = ap (head []) e
    where
      head : List Row → List (List Row) → List Row
      head d [] = d
      head d (xs ∷ xss) = xs

  -- over the partial states themselves
  pub finish_here : (made_rows received : ℕ → List Row) → ((j : ℕ) → j < n → made_rows j ≡ state_row (made_aggs (phys_live s) made) (parts j) ∷ []) → parts_by n received ≡ parts_by n made_rows
      → (row : Row) → AreJoined (map (λ (m : Var × AggCall). agg_kind m.1) made) (received 0) row → Finishes (roll-Phys (L.AggPart made s)) passing sets n made row
  finish_here made_rows received states same row joined =
      let none = append-nil (parts 0) in
      finish part (parts 0 ∷ []) (bound n (phys_live s) parts) in_part (first_bound n some ∙ ap (map (bind (phys_live s))) (sym none)) (values 0 some, tt) (subst (AllByRecursion AreValues) (sym none) (values 0 some)) (subst (AreAsWide (phys_live s)) (sym none) (i.wide 0 some)) row
      (subst (λ (rows : List Row). AreJoined (map (λ (m : Var × AggCall). agg_kind m.1) made) rows row) (part_same n received made_rows same 0 some ∙ states 0 some) joined)

  -- over a gather of them
  pub finish_gathered : (made_rows received : ℕ → List Row) → ((j : ℕ) → j < n → made_rows j ≡ state_row (made_aggs (phys_live s) made) (parts j) ∷ []) → IsExchanged W.Gather n (parts_by n made_rows) (parts_by n received)
      → (row : Row) → AreJoined (map (λ (m : Var × AggCall). agg_kind m.1) made) (received 0) row → Finishes (roll-Phys (L.Gather (roll-Phys (L.AggPart made s)))) passing sets n made row
  finish_gathered made_rows received states gathered row joined =
      let one = in_place (state_row aggs) gathered.0 (parts_by n made_rows) (parts_by n parts) (for_each (state_row aggs) made_rows parts n states) gathered.1 in
      let valid : AllByRecursion AreValues (all one.0) = interleaves_all AreValues (parts_by n parts) (all one.0) (every (AllByRecursion AreValues) parts n values) one.2 in
      let wide : AreAsWide (phys_live s) (all one.0) = All-from_recursion (IsAsWide (phys_live s)) (all one.0) (interleaves_all (IsAsWide (phys_live s)) (parts_by n parts) (all one.0) (every (AllByRecursion (IsAsWide (phys_live s))) parts n (λ j lt. recursion_from_All (IsAsWide (phys_live s)) (parts j) (i.wide j lt))) one.2) in
      finish (roll-Phys (L.Gather part)) one.0 (in_first n (map (bind (phys_live s)) (all one.0)))
      (subst (λ (a : PAllowing). a passing sets n (in_first n (map (bind (phys_live s)) (all one.0)))) (sym (pallows-roll (L.Gather part))) (bound n (phys_live s) parts, in_part, (map (bind (phys_live s)) (all one.0), mixed one.0 one.2, refl)))
      (first_in n (map (bind (phys_live s)) (all one.0)) some) (all_unflat AreValues (λ (xs : List Row). xs) one.0 valid) valid wide row
      (subst (λ (rows : List Row). AreJoined (map (λ (m : Var × AggCall). agg_kind m.1) made) rows row) (first_at n received gathered.0 some gathered.2 ∙ one.1) joined)
    where
      mixed : (ps : List (List Row)) → Interleaves (parts_by n parts) (all ps) → P.Interleaves (bound n (phys_live s) parts) (map (bind (phys_live s)) (all ps))
      mixed ps h = subst (λ (xss : Parts). P.Interleaves xss (map (bind (phys_live s)) (all ps))) (through (map (bind (phys_live s))) parts (λ j. map (bind (phys_live s)) (parts j)) n (λ j lt. refl)) (interleaves (phys_live s) (parts_by n parts) (all ps) h)

-- the row of the aggregates in the first part
module _ (passing : Bool) (sets : Sets) (n : ℕ) (some : 0 < n) (made : List (Var × AggCall)) (p : Phys) (received : List Row) (rows : ℕ → List Row) (ends : (row : Row) → AreJoined (map (λ (m : Var × AggCall). agg_kind m.1) made) received row → Finishes p passing sets n made row) where
  abbrev pub IsFinal : List Row → Type 0
  IsFinal xs = (row : Row) × AreJoined (map (λ (m : Var × AggCall). agg_kind m.1) made) received row × (xs ≡ row ∷ [])

  pub finished : IsFinal (rows 0) → ((j : ℕ) → 0 < j → j < n → rows j ≡ []) → IsAllowed (roll-Phys (L.AggFinal made p)) passing sets n rows × ((j : ℕ) → j < n → AllByRecursion AreValues (rows j))
  finished first none =
      let f = ends first.0 first.1 in (
        at_roll passing sets n (L.AggFinal made p) (made_vars made) (plive-roll (L.AggFinal made p)) rows
            (f.input, f.allowed, first_alone (λ j. map (bind (made_vars made)) (rows j)) n (λ j up lt. ap (map (bind (made_vars made))) (none j up lt)) ∙ ap (in_first n) (ap (map (bind (made_vars made))) first.2 ∙ ap (λ (r : Env). r ∷ []) f.is)) wide,
        valid,
      )
    where
      wide : (j : ℕ) → j < n → AreAsWide (made_vars made) (rows j)
      wide zero lt = subst (AreAsWide (made_vars made)) (sym first.2) (All-from_recursion (IsAsWide (made_vars made)) (first.0 ∷ []) ((ends first.0 first.1).wide, tt))
      wide (suc j) lt = subst (AreAsWide (made_vars made)) (sym (none (suc j) (omega arith) lt)) (All-from_recursion (IsAsWide (made_vars made)) [] tt)

      valid : (j : ℕ) → j < n → AllByRecursion AreValues (rows j)
      valid zero lt = subst (AllByRecursion AreValues) (sym first.2) ((ends first.0 first.1).values, tt)
      valid (suc j) lt = subst (AllByRecursion AreValues) (sym (none (suc j) (omega arith) lt)) tt
