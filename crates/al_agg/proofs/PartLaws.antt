-- The lists that a state stands for, when it takes in a value or another state.
use Rattle.std.specs.Prelude.{ℕ, ℤ, pos, ◌+ℤ◌, ◌+◌, not, Option, List, [], ◌∷◌, ◌++◌, if◌then◌else◌, length}
use Rattle.std.proofs.Common.{◌≡◌, sym, ◌∙◌, ap, length-append, add-zero}
use Rattle.std.proofs.lemmas.List.Elements.{filter-append}
use Rattle.std.proofs.lemmas.Int.{to_z-of_z}
use Rattle.al_value.specs.declared.value.Value.{Value}
use Rattle.al_value.specs.declared.value.Value.TheVariants as V
use Rattle.al_agg.specs.Agg.{wrapped, is_null, lesser, greater, least, greatest, ints_of, present}
use Rattle.al_agg.specs.Part.{some_sum, joined_sums}
use Rattle.al_agg.proofs.AggLaws.{wrapped-count, wrapped-next, ints_of-append, some_sum-append, least-append, least-one, greatest-append, greatest-one}

pub length-add : (vs : List Value) (v : Value) (n : ℤ) → n ≡ wrapped (pos (length vs)) → wrapped (n +ℤ pos 1) ≡ wrapped (pos (length (vs ++ v ∷ [])))
length-add vs v n e =
    ap (λ (z : ℤ). wrapped (z +ℤ pos 1)) e ∙ wrapped-next (length vs) ∙ ap (λ (m : ℕ). wrapped (pos m)) (sym (length-append vs (v ∷ [])))

pub length-join : (vs ws : List Value) (m n : ℤ) → m ≡ wrapped (pos (length vs)) → n ≡ wrapped (pos (length ws)) → wrapped (m +ℤ n) ≡ wrapped (pos (length (vs ++ ws)))
length-join vs ws m n p q =
    rw (p, q, length-append vs ws) (wrapped-count (length vs) (length ws))

one_more : (v : Value) (m : ℕ) → (if is_null v then wrapped (pos m) else wrapped (wrapped (pos m) +ℤ pos 1)) ≡ wrapped (pos (m + length (present (v ∷ []))))
one_more V.Null m = ap (λ (k : ℕ). wrapped (pos k)) (sym (add-zero m))
one_more (V.Bool b) m = wrapped-next m
one_more (V.Int z) m = wrapped-next m
one_more (V.Text bytes) m = wrapped-next m

pub present-add : (vs : List Value) (v : Value) (n : ℤ) → n ≡ wrapped (pos (length (present vs))) → (if is_null v then n else wrapped (n +ℤ pos 1)) ≡ wrapped (pos (length (present (vs ++ v ∷ []))))
present-add vs v n e =
    rw (e, filter-append (λ w. not (is_null w)) vs (v ∷ []), length-append (present vs) (present (v ∷ []))) (one_more v (length (present vs)))

pub present-join : (vs ws : List Value) (m n : ℤ) → m ≡ wrapped (pos (length (present vs))) → n ≡ wrapped (pos (length (present ws))) → wrapped (m +ℤ n) ≡ wrapped (pos (length (present (vs ++ ws))))
present-join vs ws m n p q =
    rw (p, q, filter-append (λ w. not (is_null w)) vs ws, length-append (present vs) (present ws)) (wrapped-count (length (present vs)) (length (present ws)))

pub sum-join : (vs ws : List Value) (a b : Option ℤ) → a ≡ some_sum (ints_of vs) → b ≡ some_sum (ints_of ws) → joined_sums a b ≡ some_sum (ints_of (vs ++ ws))
sum-join vs ws a b p q =
    rw (p, q, ints_of-append vs ws) (sym (some_sum-append (ints_of vs) (ints_of ws)))

pub least-join : (vs ws : List Value) (a b : Value) → a ≡ least vs → b ≡ least ws → lesser a b ≡ least (vs ++ ws)
least-join vs ws a b p q = rw (p, q) (sym (least-append vs ws))

pub least-add : (vs : List Value) (v a : Value) → a ≡ least vs → lesser a v ≡ least (vs ++ v ∷ [])
least-add vs v a p = least-join vs (v ∷ []) a v p (sym (least-one v))

pub greatest-join : (vs ws : List Value) (a b : Value) → a ≡ greatest vs → b ≡ greatest ws → greater a b ≡ greatest (vs ++ ws)
greatest-join vs ws a b p q = rw (p, q) (sym (greatest-append vs ws))

pub greatest-add : (vs : List Value) (v a : Value) → a ≡ greatest vs → greater a v ≡ greatest (vs ++ v ∷ [])
greatest-add vs v a p = greatest-join vs (v ∷ []) a v p (sym (greatest-one v))

pub ruleset add_laws = (length-add, present-add, sum-join, least-add, greatest-add)

pub ruleset join_laws = (to_z-of_z, length-join, present-join, sum-join, least-join, greatest-join)
