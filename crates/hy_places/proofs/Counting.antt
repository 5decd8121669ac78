-- A job has at most as many edges as activities, and a stage at most as many activities as the job.
use Rattle.std.proofs.Common.{◌≡◌, ◌<◌, ◌≤◌, ◌+◌, ℕ, zero, suc, nat_eq, Bool, true, not, List, [], ◌∷◌, filter, length, get_or, refl, ap, sym, subst, ◌∙◌, arith, add-one}
use Rattle.std.specs.List.{All, Contains}
use Rattle.std.specs.List.Sorted.{IsStrictlyIncreasing}
use Rattle.std.proofs.lemmas.List.Elements.{All-contains, All-from_recursion}
use Rattle.hy_job.specs.declared.job.Activity.{Activity}
use Rattle.hy_job.specs.declared.job.Edge.{Edge}
use Rattle.hy_job.specs.declared.job.Job.{Job}
use Rattle.hy_job.specs.declared.job.Kind.{Kind}
use Rattle.hy_job.specs.declared.job.Kind.TheVariants as K
use Rattle.hy_job.specs.Sound.{SoundJob, edges_from, may_leave}
use Rattle.hy_job.proofs.Boxes.{activity_at}
use Rattle.hy_job.proofs.Members.{by_cases, from_filter, in_here, no_bool}

split_count : {X : Type 0} (p : X → Bool) (xs : List X) → length xs ≤ length (filter p xs) + length (filter (λ x. not (p x)) xs)
split_count p [] = omega arith
split_count p (x ∷ xs) =
    let h = split_count p xs in
    by_cases (p x) (λ t. rw t (omega (arith, h))) (λ f. rw f (omega (arith, h)))

fewer_kept : {X : Type 0} (p q : X → Bool) (xs : List X) → length (filter p (filter q xs)) ≤ length (filter p xs)
fewer_kept p q [] = omega arith
fewer_kept p q (x ∷ xs) =
    let h = fewer_kept p q xs in
    by_cases (q x)
    (λ t. rw t (by_cases (p x) (λ u. rw u (omega (arith, h))) (λ g. rw g h)))
    (λ f. rw f (by_cases (p x) (λ u. rw u (omega (arith, h))) (λ g. rw g h)))

below_more : (m n : ℕ) → m < suc n → not (nat_eq m n) ≡ true → m < n
below_more m n lt e = by_cases (nat_eq m n)
    (λ t. absurd (no_bool (sym e ∙ ap not t)))
    (λ f. grind arith)

few_from : (n : ℕ) (es : List Edge) → ((a : ℕ) → a < n → length (filter (λ (e : Edge). nat_eq e.from a) es) ≤ 1) → ((e : Edge) → Contains es e → e.from < n) → length es ≤ n
few_from zero [] one below = omega arith
few_from zero (e ∷ es) one below = absurd (omega (arith, below e (in_here e es)))
few_from (suc n) es one below =
    let rest : List Edge = filter (λ (e : Edge). not (nat_eq e.from n)) es in
    let more : length rest ≤ n = few_from n rest
    (λ a lt. (let x = fewer_kept (λ (e : Edge). nat_eq e.from a) (λ (e : Edge). not (nat_eq e.from n)) es in let y = one a (omega arith) in omega (arith, x, y)))
    (λ e m. (let q = from_filter (λ (e : Edge). not (nat_eq e.from n)) es e m in below_more e.from n (below e q.0) q.1)) in
    let s = split_count (λ (e : Edge). nat_eq e.from n) es in
    let o = one n (omega arith) in
    omega (arith, more, s, o)

one_leaves : (k : Kind) → may_leave k ≤ 1
one_leaves (K.Scan set) = omega arith
one_leaves K.One = omega arith
one_leaves (K.Assign made) = omega arith
one_leaves (K.Select c) = omega arith
one_leaves (K.Project columns) = omega arith
one_leaves (K.Unnest g) = omega arith
one_leaves (K.Subplan n) = omega arith
one_leaves (K.Check name c) = omega arith
one_leaves (K.Union ls rs) = omega arith
one_leaves (K.Limit n k) = omega arith
one_leaves (K.LocalLimit n) = omega arith
one_leaves (K.PreGroup keys n) = omega arith
one_leaves (K.Result columns) = omega arith
one_leaves (K.SortBuild keys) = omega arith
one_leaves (K.SortEmit keys) = omega arith
one_leaves (K.GroupBuild arg) = omega arith
one_leaves (K.GroupEmit arg) = omega arith
one_leaves (K.JoinBuild arg) = omega arith
one_leaves (K.JoinProbe arg) = omega arith
one_leaves (K.AggPart made) = omega arith
one_leaves (K.AggFinal made) = omega arith

pub few_edges : (job : Job) → SoundJob job → length job.edges ≤ length job.activities
few_edges job s = few_from (length job.activities) job.edges
    (λ a lt.
    let x = activity_at job s a lt in
    let own : length (edges_from job x.0.number) ≤ may_leave x.0.kind = All-contains (λ (y : Activity). length (edges_from job y.number) ≤ may_leave y.kind) job.activities x.0
    (All-from_recursion (λ (y : Activity). length (edges_from job y.number) ≤ may_leave y.kind) job.activities s.leaving) x.1 in
    let most = one_leaves x.0.kind in
    subst (λ (k : ℕ). length (edges_from job k) ≤ 1) x.2 (omega (arith, own, most)))
    (λ e m.
    let rises = All-contains (λ (y : Edge). y.from < y.to) job.edges e (All-from_recursion (λ (y : Edge). y.from < y.to) job.edges s.edges_rise) m in
    let ends = All-contains (λ (y : Edge). y.to < length job.activities) job.edges e (All-from_recursion (λ (y : Edge). y.to < length job.activities) job.edges s.edges_end) m in
    omega (arith, rises, ends))

-- ---- how many activities a stage has

rising_at : (xs : List ℕ) → IsStrictlyIncreasing xs → (k : ℕ) → k < length xs → k ≤ get_or xs k 0
rising_at xs up zero low = omega arith
rising_at xs up (suc k) low =
    let h = rising_at xs up k (omega arith) in
    let s : get_or xs k 0 < get_or xs (k + 1) 0 = up k (omega arith) in
    let e : get_or xs (k + 1) 0 ≡ get_or xs (suc k) 0 = ap (λ (j : ℕ). get_or xs j 0) (add-one k) in
    omega arith

few_at : (xs : List ℕ) (n m : ℕ) → IsStrictlyIncreasing xs → All (λ x. x < n) xs → length xs ≡ m → m ≤ n
few_at xs n zero up within e = omega arith
few_at xs n (suc m) up within e =
    let h = rising_at xs up m (omega arith) in
    let w : get_or xs m 0 < n = within m 0 (omega arith) in
    omega arith

pub few_activities : (xs : List ℕ) (n : ℕ) → IsStrictlyIncreasing xs → All (λ x. x < n) xs → length xs ≤ n
few_activities xs n up within = few_at xs n (length xs) up within refl
