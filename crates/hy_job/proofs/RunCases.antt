-- The worked cases of what activities make and tasks may put.
use Rattle.std.proofs.Common.{◌≡◌, ◌⊎◌, ◌↔◌, inl, inr, ℕ, suc, true, nat_eq, List, [], ◌∷◌, ◌++◌, map, flat_map, refl, ap, sym, subst, ◌∙◌, arith, append-nil}
use Rattle.std.specs.List.{All, AllZip, Contains}
use Rattle.std.specs.List.Sorted.{IsPermutation}
use Rattle.std.proofs.lemmas.List.Elements.{All-from_recursion}
use Rattle.std.proofs.lemmas.List.Sorted.{length_permutation}
use Rattle.hy_job.specs.Columns.{Row, key_of, Group, rows_in, AreStretches, Takes, Interleaves}
use Rattle.hy_rest.specs.Words.{Close, WriterWord}
use Rattle.hy_job.specs.declared.job.Stage.{Stage}
use Rattle.hy_job.specs.Cases.{row_of, stage}
use Rattle.hy_job.specs.RunCases.{LimitSkips, UnionHasBoth, ScanIsDealt, StretchesHaveRows, NoneOfNone, WordsEnd, WordsMay, FirstGathers, RaisedInStage, HashHasTwoBoxes, MergeHasTwoBoxes, ThirdTask}
use Rattle.hy_job.proofs.Members.{in_here, in_there, in_none, in_cases}

same : {P : Type 0} → P ↔ P
same = (λ h. h, λ h. h)

pub limit_skips : LimitSkips
limit_skips out = same

pub scan_is_dealt : ScanIsDealt
scan_is_dealt set out = same

-- ---- interleavings of two lists

front_empty : {X : Type 0} (xss : List (List X)) (out : List X) → Interleaves ([] ∷ xss) out → Interleaves xss out
unfolding Takes Interleaves
front_empty xss [] h = λ k d lt. h (suc k) d (omega (arith, lt))
front_empty xss (x ∷ out) h = elim h.1 [
  | inl q ↦ absurd (no q.0 q.1)
  | inr q ↦ (q.0, q.1, front_empty q.0 out (subst (λ r. Interleaves r out) q.2 h.2))
]
  where
    no : (more : List _) → [] ≡ x ∷ more → ⊥
    no more e = cc

alone : {X : Type 0} (xs out : List X) → Interleaves (xs ∷ []) out → out ≡ xs
unfolding Takes Interleaves
alone xs [] h = sym (h 0 [] (omega arith))
alone xs (x ∷ out) h = elim h.1 [
  | inl q ↦ ap (λ ys. x ∷ ys) (alone q.0 out (subst (λ r. Interleaves r out) q.2 h.2)) ∙ sym q.1
  | inr q ↦ absurd q.1
]

end_empty : {X : Type 0} (xs out : List X) → Interleaves (xs ∷ [] ∷ []) out → out ≡ xs
unfolding Takes Interleaves
end_empty xs [] h = sym (h 0 [] (omega arith))
end_empty xs (x ∷ out) h = elim h.1 [
  | inl q ↦ ap (λ ys. x ∷ ys) (end_empty q.0 out (subst (λ r. Interleaves r out) q.2 h.2)) ∙ sym q.1
  | inr q ↦ absurd (elim q.1 [ inl p ↦ no p.0 p.1 | inr p ↦ p.1 ])
]
  where
    no : (more : List _) → [] ≡ x ∷ more → ⊥
    no more e = cc

module _ {X : Type 0} (a b : X) where
  two_told : (out : List X) → Interleaves ((a ∷ []) ∷ (b ∷ []) ∷ []) out → (out ≡ a ∷ b ∷ []) ⊎ (out ≡ b ∷ a ∷ [])
  unfolding Takes Interleaves
  two_told [] h = absurd (no (h 0 [] (omega arith)))
    where
      no : (a ∷ []) ≡ [] → ⊥
      no e = cc
  two_told (x ∷ out) h = elim h.1 [
    | inl q ↦ inl (let e = inside x q.0 q.1 in ap (λ y. y ∷ out) (sym e.0) ∙ ap (λ ys. a ∷ ys) (alone (b ∷ []) out (front_empty _ out (subst (λ r. Interleaves (r ∷ (b ∷ []) ∷ []) out) (sym e.1) (subst (λ r. Interleaves r out) q.2 h.2)))))
    | inr q ↦ inr (elim q.1 [
      | inl p ↦ (let e = of_b x p.0 p.1 in ap (λ y. y ∷ out) (sym e.0) ∙ ap (λ ys. b ∷ ys) (end_empty (a ∷ []) out (subst (λ r. Interleaves ((a ∷ []) ∷ r ∷ []) out) (sym e.1) (subst (λ r. Interleaves ((a ∷ []) ∷ r) out) p.2 (subst (λ r. Interleaves r out) q.2 h.2)))))
      | inr p ↦ absurd p.1
    ])
  ]
    where
      inside : (y : X) (more : List X) → a ∷ [] ≡ y ∷ more → (a ≡ y) × ([] ≡ more)
      inside y more e = (cc, cc)

      of_b : (y : X) (more : List X) → b ∷ [] ≡ y ∷ more → (b ≡ y) × ([] ≡ more)
      of_b y more e = (cc, cc)

  none_left : Interleaves {A = X} ([] ∷ [] ∷ []) []
  unfolding Interleaves
  none_left = All-from_recursion (λ xs. xs ≡ []) ([] ∷ [] ∷ []) (refl, (refl, tt))

  pub two_made : (out : List X) → (out ≡ a ∷ b ∷ []) ⊎ (out ≡ b ∷ a ∷ []) → Interleaves ((a ∷ []) ∷ (b ∷ []) ∷ []) out
  unfolding Takes Interleaves
  two_made out (inl e) = subst (Interleaves ((a ∷ []) ∷ (b ∷ []) ∷ [])) (sym e)
      ([] ∷ (b ∷ []) ∷ [], inl ([], refl, refl), ([] ∷ [] ∷ [], inr ([] ∷ [], inl ([], refl, refl), refl), none_left))
  two_made out (inr e) = subst (Interleaves ((a ∷ []) ∷ (b ∷ []) ∷ [])) (sym e)
      ((a ∷ []) ∷ [] ∷ [], inr ([] ∷ [], inl ([], refl, refl), refl), ([] ∷ [] ∷ [], inl ([], refl, refl), none_left))

pub union_has_both : UnionHasBoth
union_has_both out = (two_told (row_of 1) (row_of 2) out, two_made (row_of 1) (row_of 2) out)

-- ---- stretches and pieces

one_group : (row : Row) (groups : List Group) → row ∷ [] ≡ flat_map rows_in groups → groups ≡ (row, []) ∷ []
one_group row [] e = absurd (no e)
  where
    no : row ∷ [] ≡ [] → ⊥
    no q = cc
one_group row (g ∷ []) e = ap (λ x. x ∷ []) (same_group g.0 g.1 (e ∙ append-nil (rows_in g)))
  where
    same_group : (first : Row) (others : List Row) → row ∷ [] ≡ first ∷ others → ◌≡◌ {A = Group} (first, others) (row, [])
    same_group first others q = (let p : first ≡ row = cc in let r : others ≡ [] = cc in λ i. (p i, r i))
one_group row (g ∷ h ∷ groups) e = absurd (no_more g.1 (h.0) (h.1 ++ flat_map rows_in groups) (rest e))
  where
    rest : row ∷ [] ≡ flat_map rows_in (g ∷ h ∷ groups) → [] ≡ g.1 ++ (h.0 ∷ (h.1 ++ flat_map rows_in groups))
    rest q = cc

    no_more : (xs : List Row) (y : Row) (ys : List Row) → [] ≡ xs ++ y ∷ ys → ⊥
    no_more [] y ys q = cc
    no_more (x ∷ xs) y ys q = cc

pub stretches_have_rows : StretchesHaveRows
stretches_have_rows groups = (
  λ h. one_group (row_of 1) groups h.all,
  λ e. subst (AreStretches (0 ∷ []) (row_of 1 ∷ [])) (sym e) (record {
    all = refl;
    alike = All-from_recursion (λ (g : Group). All (λ r. key_of (0 ∷ []) r ≡ key_of (0 ∷ []) g.0) g.1) ((row_of 1, []) ∷ []) (λ k d lt. absurd (omega (arith, lt)), tt);
    apart = λ k d lt. absurd (omega (arith, lt));
  }),
)

no_groups : (groups : List Group) → [] ≡ flat_map rows_in groups → groups ≡ []
no_groups [] e = refl
no_groups (g ∷ groups) e = absurd (no e)
  where
    no : [] ≡ flat_map rows_in (g ∷ groups) → ⊥
    no q = cc

none_moved : (xs : List Row) → IsPermutation [] xs → [] ≡ xs
none_moved [] p = refl
none_moved (x ∷ xs) p = absurd (omega (arith, length_permutation _ _ p))

pub none_of_none : NoneOfNone
none_of_none keys inner arg out = (
  λ h. of_none _ h.0 out (no_groups h.0 h.1.all) h.2,
  λ h. h.2 ∙ ap (map _) (no_groups h.0 (none_moved _ h.1.moved)),
)
  where
    of_none : (R : Group → Row → Type 0) (groups : List Group) (rows : List Row) → groups ≡ [] → AllZip R groups rows → rows ≡ []
    of_none R [] [] e z = refl
    of_none R [] (x ∷ rows) e z = absurd z
    of_none R (g ∷ groups) rows e z = absurd (no e)
      where
        no : g ∷ groups ≡ [] → ⊥
        no q = cc

-- ---- words

pub words_end : WordsEnd
unfolding WriterWord
words_end rows = (λ h. h, λ h. h, λ h. h)

pub words_may : WordsMay
unfolding WriterWord
words_may rows = (tt, tt, (Close ∷ [], tt))

pub first_gathers : FirstGathers
first_gathers set text = (refl, λ e. omega (arith, e))

pub hash_boxes : HashHasTwoBoxes
hash_boxes set = refl

pub merge_boxes : MergeHasTwoBoxes
merge_boxes set = (refl, refl)

pub third_task : ThirdTask
third_task = (refl, refl)

-- ---- who raised

pub raised_in_stage : RaisedInStage
raised_in_stage set = (
  (stage (0 ∷ 1 ∷ []), 0, 0, in_here (stage (0 ∷ 1 ∷ [])) (stage (2 ∷ 3 ∷ []) ∷ []), in_there 0 1 (1 ∷ []) (in_here 1 []), in_here 0 (1 ∷ []), omega arith, refl),
  λ h. elim (in_cases (stage (0 ∷ 1 ∷ [])) h.0 (stage (2 ∷ 3 ∷ []) ∷ []) h.3) [
    | inl e ↦ of_first (subst (λ (s : Stage). Contains s.activities 3) (sym e) h.4)
    | inr k ↦ elim (in_cases (stage (2 ∷ 3 ∷ [])) h.0 [] k) [
      | inl e ↦ of_second h.1 (subst (λ (s : Stage). Contains s.activities h.1) (sym e) h.5) h.7
      | inr none ↦ in_none h.0 none
    ]
  ],
)
  where
    of_first : Contains {X = ℕ} (0 ∷ 1 ∷ []) 3 → ⊥
    of_first m = elim (in_cases 0 3 (1 ∷ []) m) [ inl e ↦ omega (arith, e) | inr k ↦ (elim (in_cases 1 3 [] k) [ inl e ↦ omega (arith, e) | inr none ↦ in_none 3 none ]) ]

    of_second : (b : ℕ) → Contains {X = ℕ} (2 ∷ 3 ∷ []) b → nat_eq b 0 ≡ true → ⊥
    of_second b m t = (let z : b ≡ 0 = grind arith in elim (in_cases 2 b (3 ∷ []) m) [ inl e ↦ omega (arith, e, z) | inr k ↦ (elim (in_cases 3 b [] k) [ inl e ↦ omega (arith, e, z) | inr none ↦ in_none b none ]) ])
