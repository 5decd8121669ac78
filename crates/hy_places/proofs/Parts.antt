-- An activity is in one stage of a job, and the stages of a job have all activities.
use Rattle.std.proofs.Common.{◌≡◌, ◌⊎◌, inl, inr, ◌<◌, ℕ, suc, List, [], ◌∷◌, ◌++◌, length, get_or, refl, ap, sym, subst, ◌∙◌, arith}
use Rattle.std.specs.List.{AllPairs, Contains, range_with_len}
use Rattle.std.proofs.lemmas.List.Kept.{AllPairs-from_increasing}
use Rattle.std.proofs.lemmas.List.Sorted.{Contains-permutation}
use Rattle.hy_job.specs.declared.job.Job.{Job}
use Rattle.hy_job.specs.declared.job.Stage.{Stage}
use Rattle.hy_job.specs.Stages.{IsPart, AreNext, StageOf, activities_in}
use Rattle.hy_job.proofs.Members.{in_here, in_there, in_none, in_cases, rising_rest, rising_first}
use Rattle.hy_job.proofs.Connections.{goes_along}
use Rattle.hy_job.proofs.Pairs.{in_range}

-- ---- rising lists of the same numbers

abbrev Rises : List ℕ → Type 0
Rises xs = AllPairs (λ (a : ℕ) (b : ℕ). a < b) xs

abbrev Holds : List ℕ → List ℕ → Type 0
Holds ys xs = (a : ℕ) → Contains xs a → Contains ys a

above_first : (x a : ℕ) (xs : List ℕ) → Rises (x ∷ xs) → Contains xs a → x < a
above_first x a xs h m =
    let less : x < get_or xs m.0 a = h 0 (suc m.0) a (omega arith) (omega (arith, m.1)) in
    omega (arith, less, m.2)

rest_holds : (x y : ℕ) (xs ys : List ℕ) → x ≡ y → Rises (x ∷ xs) → Holds (y ∷ ys) (x ∷ xs) → Holds ys xs
rest_holds x y xs ys same rises holds a m = by_case (in_cases y a ys (holds a (in_there x a xs m))) where
  by_case : (y ≡ a) ⊎ Contains ys a → Contains ys a
  by_case (inl is) = absurd (omega (arith, above_first x a xs rises m, same, is))
  by_case (inr there) = there

same_numbers : (xs ys : List ℕ) → Rises xs → Rises ys → Holds ys xs → Holds xs ys → xs ≡ ys
same_numbers [] [] h k f g = refl
same_numbers [] (y ∷ ys) h k f g = absurd (in_none y (g y (in_here y ys)))
same_numbers (x ∷ xs) [] h k f g = absurd (in_none x (f x (in_here x xs)))
same_numbers (x ∷ xs) (y ∷ ys) h k f g =
    let low = rising_first x y xs h (g y (in_here y ys)) in
    let high = rising_first y x ys k (f x (in_here x xs)) in
    let same : x ≡ y = omega (arith, low, high) in
    let others = same_numbers xs ys (rising_rest x xs h) (rising_rest y ys k) (rest_holds x y xs ys same h f) (rest_holds y x ys xs (sym same) k g) in
    ap (λ (z : ℕ). z ∷ xs) same ∙ ap (λ (zs : List ℕ). y ∷ zs) others

-- ---- parts

-- a part that has an activity of another has all of it
part_holds : (job : Job) (part other : List ℕ) (a : ℕ) → IsPart job part → IsPart job other → Contains part a → Contains other a → Holds other part
part_holds job part other a p q here there x m =
    let way = p.connected a x here m in
    goes_along job (Contains other) (λ u v inside link. q.closed u v inside link) a x way.0 there way.1

pub one_part : (job : Job) (part other : List ℕ) (a : ℕ) → IsPart job part → IsPart job other → Contains part a → Contains other a → part ≡ other
one_part job part other a p q here there =
    same_numbers part other (AllPairs-from_increasing part p.rising) (AllPairs-from_increasing other q.rising) (part_holds job part other a p q here there) (part_holds job other part a q p there here)

-- ---- stages

next_part : (job : Job) (before : List ℕ) (stages : List Stage) (s : Stage) → AreNext job before stages → Contains stages s → IsPart job s.activities
unfolding AreNext
next_part job before [] s next m = absurd (in_none s m)
next_part job before (x ∷ stages) s next m = elim (in_cases x s stages m) [
  | inl e ↦ subst (λ (y : Stage). IsPart job y.activities) e next.0.is_part
  | inr k ↦ next_part job (before ++ x.activities) stages s next.1 k
]

pub stage_part : (job : Job) (stages : List Stage) (s : Stage) → StageOf job stages → Contains stages s → IsPart job s.activities
stage_part job stages s of m = next_part job [] stages s of.order m

pub in_stages : (job : Job) (stages : List Stage) (a : ℕ) → StageOf job stages → a < length job.activities → Contains (activities_in stages) a
in_stages job stages a of lt = Contains-permutation (range_with_len 0 (length job.activities)) (activities_in stages) a of.whole (in_range (length job.activities) a lt)
