-- A job has one list of stages: of the parts that are ready, just one has the least activity.
use Rattle.std.proofs.Common.{◌≡◌, ◌≢◌, ◌⊎◌, inl, inr, ◌<◌, ℕ, suc, List, [], ◌∷◌, ◌++◌, length, get_or, refl, ap, sym, subst, ◌∙◌, arith, length-append}
use Rattle.std.specs.List.{AllPairs, Contains}
use Rattle.std.proofs.lemmas.List.Kept.{AllPairs-from_increasing}
use Rattle.std.proofs.lemmas.List.Sorted.{length_permutation}
use Rattle.hy_job.specs.declared.job.Job.{Job}
use Rattle.hy_job.specs.declared.job.Stage.{Stage}
use Rattle.hy_job.specs.Stages.{IsPart, IsNext, AreNext, activities_in, least_of}
use Rattle.hy_job.proofs.Members.{in_here, in_there, in_none, in_cases, rising_rest, rising_first}
use Rattle.hy_job.proofs.Connections.{goes_along}
use Rattle.hy_places.proofs.Parts.{one_part}
use Rattle.al_job_laws.specs.InOrder.{StagesAreOne}

-- ---- parts

has_least : (part : List ℕ) → part ≢ [] → Contains part (least_of part)
has_least [] some = absurd (some refl)
has_least (x ∷ xs) some = in_here x xs

one_next : (job : Job) (before part other : List ℕ) → IsNext job before part → IsNext job before other → part ≡ other
one_next job before part other n m =
    let low = n.least other m.is_part m.new m.ready in
    let high = m.least part n.is_part n.new n.ready in
    let same : least_of other ≡ least_of part = omega (arith, low, high) in
    one_part job part other (least_of part) n.is_part m.is_part (has_least part n.is_part.some) (subst (Contains other) same (has_least other m.is_part.some))

-- ---- stages

none_there : (xs : List ℕ) → length xs ≡ 0 → xs ≡ []
none_there [] e = refl
none_there (x ∷ xs) e = absurd (omega (arith, e))

-- behind all activities comes no stage
no_stage : (part others : List ℕ) → part ≢ [] → length (part ++ others) ≡ 0 → ⊥
no_stage part others some e = some (none_there part (omega (arith, length-append part others, e)))

same_stage : (s t : Stage) → s.activities ≡ t.activities → s ≡ t
same_stage s t e = ap (λ (xs : List ℕ). let z : Stage = record { activities = xs } in z) e

same_stages : (job : Job) (before : List ℕ) (ss ts : List Stage) → AreNext job before ss → AreNext job before ts → length (activities_in ss) ≡ length (activities_in ts) → ss ≡ ts
unfolding AreNext
same_stages job before [] [] h k e = refl
same_stages job before [] (t ∷ ts) h k e = absurd (no_stage t.activities (activities_in ts) k.0.is_part.some (sym e))
same_stages job before (s ∷ ss) [] h k e = absurd (no_stage s.activities (activities_in ss) h.0.is_part.some e)
same_stages job before (s ∷ ss) (t ∷ ts) h k e =
    let first : s ≡ t = same_stage s t (one_next job before s.activities t.activities h.0 k.0) in
    let moved : AreNext job (before ++ t.activities) ss = subst (λ (z : Stage). AreNext job (before ++ z.activities) ss) first h.1 in
    let long : length s.activities ≡ length t.activities = ap (λ (z : Stage). length z.activities) first in
    let one = length-append s.activities (activities_in ss) in
    let two = length-append t.activities (activities_in ts) in
    let others = same_stages job (before ++ t.activities) ss ts moved k.1 (omega (arith, one, two, long, e)) in
    ap (λ (z : Stage). z ∷ ss) first ∙ ap (λ (zs : List Stage). t ∷ zs) others

pub stages_are_one : StagesAreOne
stages_are_one job ss ts h k = same_stages job [] ss ts h.order k.order (length_permutation _ _ h.whole ∙ sym (length_permutation _ _ k.whole))
