-- The cases of answers, from the parts that physical plans allow.
use Rattle.std.proofs.Common.{◌≡◌, ℕ, pos, List, [], ◌∷◌, map, length, refl, ap, sym, subst, ◌∙◌, arith}
use Rattle.std.proofs.lemmas.List.Elements.{All-from_recursion}
use Rattle.std.proofs.lemmas.List.Sorted.{length_permutation}
use Rattle.al_value.specs.declared.value.Value.{Value}
use Rattle.al_value.specs.declared.value.Value.TheVariants as V
use Rattle.al_plan.specs.declared.expr.Var.{Var}
use Rattle.al_plan.specs.Eval.{Env, bind}
use Rattle.al_plan.specs.Allows.{Sets, nulls}
use Rattle.al_phys.specs.declared.phys.Phys.{Phys}
use Rattle.al_phys.specs.declared.phys.Phys.TheVariants as Q
use Rattle.al_phys.specs.declared.phys.Phys.TheOpen as L
use Rattle.al_phys.specs.Parts.{Parts, in_first, first_part, Interleaves}
use Rattle.al_phys.proofs.PartLaws.{interleaves_permutation}
use Rattle.hy_job.specs.Columns.{Row}
use Rattle.al_jobgen.specs.Agree.{IsAsWide, AreAsWide}
use Rattle.al_cases.specs.Cases.{a, b, n, int, row, pair, one_and_two, two_and_one}
use Rattle.al_phys_cases.specs.PartCases.{OnlyParts, scan_of_a, twice, grouped, counted, by_keys}
use Rattle.al_phys_cases.proofs.Two.{into, out, take_left, whole_second, second_alone}
use Rattle.al_phys_cases.proofs.Hashing.{hash_join_pairs}
use Rattle.al_phys_cases.proofs.GroupRows.{group_over_hash, group_in_parts, counts_are_joined}
use Rattle.al_answer.specs.Answer.{IsAnswer}
use Rattle.al_answer_cases.specs.ListCases.{grouping, joining, counting, GroupAnswers, UnhashedAnswers, JoinAnswers, CountAnswers}

number : Value → ℕ
number (V.Int (pos k)) = k
number v = 0

numbers_same : (j k : ℕ) → int j ≡ int k → j ≡ k
unfolding number
numbers_same j k e = ap number e

-- ---- a gather

-- a gather of two parts of which the first is empty
gathered_second : (sets : Sets) (p : Phys) (ys : List Env) → OnlyParts sets p ([] ∷ ys ∷ []) → OnlyParts sets (Q.Gather p) (ys ∷ [] ∷ [])
gathered_second sets p ys only = record {
  allowed = into sets (L.Gather p) _ (Q.rolls-Gather p) (ys ∷ [] ∷ []) ([] ∷ ys ∷ [], only.allowed, (ys, whole_second ys, refl));
  no_other = λ others h.
      let over = out sets (L.Gather p) _ (Q.rolls-Gather p) others h in
      over.2.2 ∙ ap (in_first 2) (second_alone ys over.2.0 (subst (λ (ps : Parts). Interleaves ps over.2.0) (only.no_other over.0 over.1) over.2.1));
}

-- ---- answers of plans that allow the same parts alone

module _ (p : Phys) (vars : List Var) (sets : Sets) (rows : List Row) (only : OnlyParts sets p (map (bind vars) rows ∷ [] ∷ [])) where
  is_answer : AreAsWide vars rows → IsAnswer p 2 vars sets rows
  is_answer wide = record { parts = map (bind vars) rows ∷ [] ∷ []; allowed = only.allowed; first = refl; wide = wide }

  of_answer : (others : List Row) → IsAnswer p 2 vars sets others → map (bind vars) others ≡ map (bind vars) rows
  of_answer others h = h.first ∙ ap first_part (only.no_other h.parts h.allowed)

head_of : List Env → Env
head_of [] = nulls
head_of (r ∷ rows) = r

-- ---- a group

group_only : OnlyParts twice grouping ((counted 1 2 ∷ []) ∷ [] ∷ [])
group_only = gathered_second twice _ (counted 1 2 ∷ []) group_over_hash

abbrev keyed : List Var
keyed = b ∷ n ∷ []

abbrev one_two : List Row
one_two = (int 1 ∷ int 2 ∷ []) ∷ []

group_same : (others : List Row) → IsAnswer grouping 2 keyed twice others → map (bind keyed) others ≡ map (bind keyed) one_two
group_same others h = of_answer grouping keyed twice one_two group_only others h

count_at : (v k : ℕ) → counted v k n.name ≡ int k
unfolding bind
count_at v k = refl

pub group_answers : GroupAnswers
unfolding head_of
group_answers = record {
  one_group = is_answer grouping keyed twice one_two group_only (All-from_recursion (IsAsWide keyed) one_two (refl, tt));
  a_group_each = λ h. absurd (omega (arith, ap length (group_same ((int 1 ∷ int 1 ∷ []) ∷ (int 1 ∷ int 1 ∷ []) ∷ []) h)));
  three_rows = λ h. absurd (omega (arith, numbers_same 3 2 (sym (count_at 1 3) ∙ ap (λ (rows : List Env). head_of rows n.name) (group_same ((int 1 ∷ int 3 ∷ []) ∷ []) h) ∙ count_at 1 2)));
  no_group = λ h. absurd (omega (arith, ap length (group_same [] h)));
}

abbrev each_part : Parts
each_part = (counted 1 1 ∷ []) ∷ (counted 1 1 ∷ []) ∷ []

abbrev one_each : List Row
one_each = (int 1 ∷ int 1 ∷ []) ∷ (int 1 ∷ int 1 ∷ []) ∷ []

pub unhashed_answers : UnhashedAnswers
unhashed_answers = record {
  a_group_each = record {
    parts = in_first 2 (counted 1 1 ∷ counted 1 1 ∷ []);
    allowed = into twice (L.Gather (grouped scan_of_a)) _ (Q.rolls-Gather (grouped scan_of_a)) _
        (each_part, group_in_parts.allowed, (counted 1 1 ∷ counted 1 1 ∷ [], take_left (counted 1 1) [] (counted 1 1 ∷ []) (counted 1 1 ∷ []) (whole_second (counted 1 1 ∷ [])), refl));
    first = refl;
    wide = All-from_recursion (IsAsWide keyed) one_each (refl, (refl, tt));
  };
  one_group = λ h.
      let over = out twice (L.Gather (grouped scan_of_a)) _ (Q.rolls-Gather (grouped scan_of_a)) h.parts h.allowed in
      let mixed = subst (λ (ps : Parts). Interleaves ps over.2.0) (group_in_parts.no_other over.0 over.1) over.2.1 in
      absurd (omega (arith, ap length (h.first ∙ ap first_part over.2.2), length_permutation _ _ (interleaves_permutation each_part over.2.0 mixed)));
}

-- ---- a join

join_only : OnlyParts two_and_one joining ((pair (int 1) (int 1) ∷ []) ∷ [] ∷ [])
join_only = gathered_second two_and_one by_keys (pair (int 1) (int 1) ∷ []) hash_join_pairs

abbrev columns : List Var
columns = a ∷ b ∷ []

abbrev one_pair : List Row
one_pair = (int 1 ∷ int 1 ∷ []) ∷ []

join_same : (others : List Row) → IsAnswer joining 2 columns two_and_one others → map (bind columns) others ≡ map (bind columns) one_pair
join_same others h = of_answer joining columns two_and_one one_pair join_only others h

left_at : (v w : ℕ) → pair (int v) (int w) a.name ≡ int v
unfolding bind
left_at v w = refl

pub join_answers : JoinAnswers
unfolding head_of
join_answers = record {
  pair = is_answer joining columns two_and_one one_pair join_only (All-from_recursion (IsAsWide columns) one_pair (refl, tt));
  no_match = λ h. absurd (omega (arith, numbers_same 2 1 (sym (left_at 2 1) ∙ ap (λ (rows : List Env). head_of rows a.name) (join_same ((int 2 ∷ int 1 ∷ []) ∷ []) h) ∙ left_at 1 1)));
  each_row = λ h. absurd (omega (arith, ap length (join_same ((int 1 ∷ int 1 ∷ []) ∷ (int 2 ∷ int 1 ∷ []) ∷ []) h)));
  none = λ h. absurd (omega (arith, ap length (join_same [] h)));
}

-- ---- a count

abbrev two_counted : List Row
two_counted = (int 2 ∷ []) ∷ []

count_same : (others : List Row) → IsAnswer counting 2 (n ∷ []) one_and_two others → map (bind (n ∷ [])) others ≡ map (bind (n ∷ [])) two_counted
count_same others h = of_answer counting (n ∷ []) one_and_two two_counted counts_are_joined others h

number_at : (k : ℕ) → row n (int k) n.name ≡ int k
unfolding bind
number_at k = refl

pub count_answers : CountAnswers
unfolding head_of
count_answers = record {
  both = is_answer counting (n ∷ []) one_and_two two_counted counts_are_joined (All-from_recursion (IsAsWide (n ∷ [])) two_counted (refl, tt));
  counted_twice = λ h. absurd (omega (arith, numbers_same 4 2 (sym (number_at 4) ∙ ap (λ (rows : List Env). head_of rows n.name) (count_same ((int 4 ∷ []) ∷ []) h) ∙ number_at 2)));
  a_count_each = λ h. absurd (omega (arith, ap length (count_same ((int 1 ∷ []) ∷ (int 1 ∷ []) ∷ []) h)));
}
