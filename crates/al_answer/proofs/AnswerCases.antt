-- The worked cases of answers.
use Rattle.std.proofs.Common.{◌≡◌, inl, inr, ℕ, pos, false, List, [], ◌∷◌, map, length, get_or, refl, ap, sym, subst, ◌∙◌, arith}
use Rattle.std.proofs.lemmas.List.Elements.{All-from_recursion, recursion_from_All}
use Rattle.std.proofs.lemmas.List.Sorted.{length_permutation}
use Rattle.al_value.specs.declared.value.Value.{Value}
use Rattle.al_value.specs.declared.value.Value.TheVariants as V
use Rattle.al_plan.specs.declared.expr.Var.{Var}
use Rattle.al_plan.specs.Eval.{Bytes, Env, bind}
use Rattle.al_plan.proofs.Makes.{text_itself}
use Rattle.al_phys.specs.declared.phys.Phys.{Phys}
use Rattle.al_phys.specs.declared.phys.Phys.TheVariants as Q
use Rattle.al_phys.specs.declared.phys.Phys.TheOpen as L
use Rattle.al_phys.specs.Parts.{Parts, first_part, in_first, dealt, Takes, Interleaves}
use Rattle.al_phys.specs.PAllows.{PAllowing, PAllows}
use Rattle.al_phys.proofs.PhysLaws.{pallows-roll, pfrom_Gather, pfrom_Scan}
use Rattle.al_phys.proofs.PartLaws.{interleaves_permutation}
use Rattle.hy_job.specs.Columns.{Row}
use Rattle.hy_job.proofs.Settling.{below_two}
use Rattle.al_jobgen.specs.Agree.{IsAsWide}
use Rattle.al_answer.specs.Answer.{IsAnswer}
use Rattle.al_answer.specs.AnswerCases.{number, three, listing, MixedIsAnswer, TurnedIsNone, ShortIsNone, WideIsNone}

module _ (set : Bytes) (v : Var) where
  abbrev row : ℕ → Env
  row n = bind (v ∷ []) (number n)

  abbrev scanned : Parts
  scanned = (row 1 ∷ row 3 ∷ []) ∷ (row 2 ∷ []) ∷ []

  scan_allowed : PAllows (Q.Scan set (v ∷ [])) false three 2 ((bind (v ∷ []) (number 1) ∷ bind (v ∷ []) (number 3) ∷ []) ∷ (bind (v ∷ []) (number 2) ∷ []) ∷ [])
  scan_allowed =
      subst (λ (p : Phys). PAllows p false three 2 scanned) (Q.rolls-Scan set (v ∷ [])) (subst (λ (a : PAllowing). a false three 2 scanned) (sym (pallows-roll (L.Scan set (v ∷ [])))) (record {
        count = refl;
        each = below_two (λ j. get_or scanned j [] ≡ dealt 2 j (map (bind (v ∷ [])) (three set))) refl refl;
      }))

  mixed : Interleaves ((bind (v ∷ []) (number 1) ∷ bind (v ∷ []) (number 3) ∷ []) ∷ (bind (v ∷ []) (number 2) ∷ []) ∷ []) (bind (v ∷ []) (number 1) ∷ bind (v ∷ []) (number 3) ∷ bind (v ∷ []) (number 2) ∷ [])
  unfolding Interleaves Takes
  mixed = (
    (row 3 ∷ []) ∷ (row 2 ∷ []) ∷ [],
    inl (row 3 ∷ [], refl, refl),
    ([] ∷ (row 2 ∷ []) ∷ [], inl ([], refl, refl), ([] ∷ [] ∷ [], inr ([] ∷ [], inl ([], refl, refl), refl), All-from_recursion (λ xs. xs ≡ []) ([] ∷ [] ∷ []) (refl, (refl, tt)))),
  )

  is_mixed : IsAnswer (listing set v) 2 (v ∷ []) three (number 1 ∷ number 3 ∷ number 2 ∷ [])
  is_mixed = record {
    parts = in_first 2 (row 1 ∷ row 3 ∷ row 2 ∷ []);
    allowed = subst (λ (p : Phys). PAllows p false three 2 (in_first 2 (row 1 ∷ row 3 ∷ row 2 ∷ []))) (Q.rolls-Gather (Q.Scan set (v ∷ [])))
        (subst (λ (a : PAllowing). a false three 2 (in_first 2 (row 1 ∷ row 3 ∷ row 2 ∷ []))) (sym (pallows-roll (L.Gather (Q.Scan set (v ∷ []))))) (scanned, scan_allowed, (row 1 ∷ row 3 ∷ row 2 ∷ [], mixed, refl)));
    first = refl;
    wide = All-from_recursion (IsAsWide (v ∷ [])) (number 1 ∷ number 3 ∷ number 2 ∷ []) (refl, (refl, (refl, tt)));
  }

  -- an answer is an interleaving of the rows of the two partitions
  of_answer : (rows : List Row) → IsAnswer (listing set v) 2 (v ∷ []) three rows → Interleaves ((bind (v ∷ []) (number 1) ∷ bind (v ∷ []) (number 3) ∷ []) ∷ (bind (v ∷ []) (number 2) ∷ []) ∷ []) (map (bind (v ∷ [])) rows)
  of_answer rows a =
      let g = pfrom_Gather (Q.Scan set (v ∷ [])) false three 2 a.parts a.allowed in
      let s = pfrom_Scan set (v ∷ []) false three 2 g.0 g.1 in
      let same = two_parts g.0 s.count (s.each 0 (omega arith)) (s.each 1 (omega arith)) in
      let e : map (bind (v ∷ [])) rows ≡ g.2.0 = a.first ∙ ap first_part g.2.2 in
      subst (λ (xs : List Env). Interleaves scanned xs) (sym e) (subst (λ (ps : Parts). Interleaves ps g.2.0) same g.2.1)
    where
      two_parts : (ps : Parts) → length ps ≡ 2 → get_or ps 0 [] ≡ bind (v ∷ []) (number 1) ∷ bind (v ∷ []) (number 3) ∷ [] → get_or ps 1 [] ≡ bind (v ∷ []) (number 2) ∷ [] → ps ≡ (bind (v ∷ []) (number 1) ∷ bind (v ∷ []) (number 3) ∷ []) ∷ (bind (v ∷ []) (number 2) ∷ []) ∷ []
      two_parts [] c a b = absurd (omega (arith, c))
      two_parts (x ∷ []) c a b = absurd (omega (arith, c))
      two_parts (x ∷ y ∷ []) c a b = λ i. a i ∷ b i ∷ []
      two_parts (x ∷ y ∷ z ∷ ps) c a b = absurd (omega (arith, c))

  value_of : (n : ℕ) → bind (v ∷ []) (number n) v.name ≡ V.Int (pos n)
  unfolding bind
  value_of n = rw (text_itself v.name) refl

  -- rows of different numbers differ
  as_value : (m n : ℕ) (xs ys : List Env) → bind (v ∷ []) (number m) ∷ xs ≡ bind (v ∷ []) (number n) ∷ ys → V.Int (pos m) ≡ V.Int (pos n)
  as_value m n xs ys e = sym (value_of m) ∙ ap (head (bind (v ∷ []) (number n))) e ∙ value_of n
    where
      head : Env → List Env → Value
      head d [] = d v.name
      head d (r ∷ rs) = r v.name

  not_turned : IsAnswer (listing set v) 2 (v ∷ []) three (number 3 ∷ number 1 ∷ number 2 ∷ []) → ⊥
  unfolding Interleaves Takes
  not_turned a = (let t = of_answer (number 3 ∷ number 1 ∷ number 2 ∷ []) a in elim t.1 [
    | inl here ↦ one_three (as_value 1 3 _ _ here.1)
    | inr there ↦ elim there.1 [
      | inl here ↦ two_three (as_value 2 3 _ _ here.1)
      | inr none ↦ absurd none.1
    ]
  ])
    where
      one_three : V.Int (pos 1) ≡ V.Int (pos 3) → ⊥
      one_three e = cc

      two_three : V.Int (pos 2) ≡ V.Int (pos 3) → ⊥
      two_three e = cc

  not_short : IsAnswer (listing set v) 2 (v ∷ []) three (number 1 ∷ number 3 ∷ []) → ⊥
  not_short a = absurd (omega (arith, length_permutation _ _ (interleaves_permutation scanned (row 1 ∷ row 3 ∷ []) (of_answer (number 1 ∷ number 3 ∷ []) a))))

  not_wide : (more : Row) → IsAnswer (listing set v) 2 (v ∷ []) three ((V.Null ∷ V.Null ∷ more) ∷ []) → ⊥
  not_wide more a = (let w = recursion_from_All (IsAsWide (v ∷ [])) ((V.Null ∷ V.Null ∷ more) ∷ []) a.wide in absurd (omega (arith, w.0)))

pub mixed_is_answer : MixedIsAnswer
mixed_is_answer set v = is_mixed set v

pub turned_is_none : TurnedIsNone
turned_is_none set v a = not_turned set v a

pub short_is_none : ShortIsNone
short_is_none set v a = not_short set v a

pub wide_is_none : WideIsNone
wide_is_none set v more a = not_wide set v more a
