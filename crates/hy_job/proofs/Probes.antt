-- The rows of a probe, in whatever order it was handed the building side.
use Rattle.std.proofs.Common.{ℕ, Bool, true, false, List, [], ◌∷◌, ◌++◌, map, flat_map, filter, arith}
use Rattle.std.specs.List.Sorted.{IsPermutation}
use Rattle.std.proofs.lemmas.List.Sorted.{IsPermutation-refl, IsPermutation-sym, IsPermutation-trans, IsPermutation-cons, IsPermutation-append_left, IsPermutation-append_right, length_permutation}
use Rattle.hy_job.specs.declared.job.JoinArg.{JoinArg}
use Rattle.hy_job.specs.Columns.{Row, is_pair, matches, or_alone, padded, joined_as}
use Rattle.hy_job.specs.RunLaws.{ProbesMove}
use Rattle.hy_job.proofs.Members.{by_cases}
use Rattle.hy_job.proofs.FreeLaws.{along_permutation, IsPermutation-turn}

kept_move : (p : Row → Bool) (rs ms : List Row) → IsPermutation rs ms → IsPermutation (filter p rs) (filter p ms)
kept_move p = along_permutation (λ xs ys. IsPermutation (filter p xs) (filter p ys)) (λ xs. IsPermutation-refl _)
    (λ x xs ys h. by_cases (p x) (λ t. rw t (IsPermutation-cons x _ _ h)) (λ f. rw f h))
    (λ x y xs. by_cases (p x)
    (λ t. by_cases (p y) (λ u. rw (t, u) (IsPermutation-turn x y (filter p xs))) (λ f. rw (t, f) (IsPermutation-refl (x ∷ filter p xs))))
    (λ f. by_cases (p y) (λ u. rw (f, u) (IsPermutation-refl (y ∷ filter p xs))) (λ g. rw (f, g) (IsPermutation-refl (filter p xs)))))
    (λ xs ys zs. IsPermutation-trans _ _ _)

made_move : (f : Row → Row) (rs ms : List Row) → IsPermutation rs ms → IsPermutation (map f rs) (map f ms)
made_move f = along_permutation (λ xs ys. IsPermutation (map f xs) (map f ys)) (λ xs. IsPermutation-refl _) (λ x xs ys h. IsPermutation-cons (f x) _ _ h) (λ x y xs. IsPermutation-turn (f x) (f y) (map f xs)) (λ xs ys zs. IsPermutation-trans _ _ _)

matches_move : (arg : JoinArg) (rs ms : List Row) (l : Row) → IsPermutation rs ms → IsPermutation (matches arg rs l) (matches arg ms l)
matches_move arg rs ms l p = made_move (λ r. l ++ r) _ _ (kept_move (is_pair arg l) rs ms p)

alone_moves : (l : Row) (xs ys : List Row) → IsPermutation xs ys → IsPermutation (or_alone l xs) (or_alone l ys)
alone_moves l [] [] p = IsPermutation-refl _
alone_moves l [] (y ∷ ys) p = absurd (omega (arith, length_permutation _ _ p))
alone_moves l (x ∷ xs) [] p = absurd (omega (arith, length_permutation _ _ p))
alone_moves l (x ∷ xs) (y ∷ ys) p = p

-- rows moved within the part of each item
each_moves : (f g : Row → List Row) → ((l : Row) → IsPermutation (f l) (g l)) → (ls : List Row) → IsPermutation (flat_map f ls) (flat_map g ls)
each_moves f g h [] = IsPermutation-refl _
each_moves f g h (l ∷ ls) = IsPermutation-trans _ _ _ (IsPermutation-append_left (flat_map f ls) (f l) (g l) (h l)) (IsPermutation-append_right (g l) _ _ (each_moves f g h ls))

joined_moves : (outer : Bool) (arity : ℕ) (arg : JoinArg) (ls rs ms : List Row) → IsPermutation rs ms → IsPermutation (joined_as outer arity arg ls rs) (joined_as outer arity arg ls ms)
joined_moves true arity arg ls rs ms p = each_moves _ _ (λ l. alone_moves (padded arity l) _ _ (matches_move arg rs ms l p)) ls
joined_moves false arity arg ls rs ms p = each_moves _ _ (λ l. matches_move arg rs ms l p) ls

pub probes_move : ProbesMove
probes_move arg arity n j received scanned handed moved out p made =
    IsPermutation-trans _ _ _ (IsPermutation-sym _ _ (joined_moves arg.outer arity arg (received 0) handed moved p)) made
