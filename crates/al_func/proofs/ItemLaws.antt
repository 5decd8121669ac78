-- The ints of a range, and the pieces of a text at and past an occurrence.
use Rattle.std.proofs.Common.{◌≡◌, ◌≤◌, ◌<◌, ◌+◌, ◌-◌, ℕ, zero, suc, Bool, true, false, List, [], ◌∷◌, ◌++◌, length, take, drop, map, ap, sym, subst, refl, ◌∙◌, arith, length-append, append_assoc}
use Rattle.std.specs.Prelude.{nat_eq, if◌then◌else◌, ℤ, pos, ◌+ℤ◌}
use Rattle.std.specs.List.{starts_with}
use Rattle.std.specs.Prelude.{None, IsUtf8}
use Rattle.std.proofs.lemmas.Str.{IsUtf8-drop}
use Rattle.std.specs.Str.Pattern.{LacksTextAt, FindsText, SplitsAroundMatch}
use Rattle.al_func.specs.Func.{fitted_text}
use Rattle.al_func.proofs.TextLaws.{fitted_text-short}
use Rattle.std.proofs.lemmas.Bool.Decides.{Decides-eqb}
use Rattle.std.proofs.lemmas.Slice.Eq.{starts_is}
use Rattle.std.proofs.lemmas.List.Prefix.{front_rest}
use Rattle.std.proofs.lemmas.List.FromFn.{map-range_with_len_more}
use Rattle.al_value.specs.declared.value.Value.{Value}
use Rattle.al_value.specs.declared.value.Value.TheVariants as V
use Rattle.al_func.specs.Items.{pieces, onto_first, ints_from}

-- an occurrence that is being passed
pieces-skip : (s : List ℕ) (n : ℕ) (t : List ℕ) → pieces s n t ≡ pieces s 0 (drop n t)
pieces-skip s zero t = refl
pieces-skip s (suc n) [] = refl
pieces-skip s (suc n) (b ∷ bs) = pieces-skip s n bs

starts_not : (s t : List ℕ) (b : Bool) → b ≡ starts_with nat_eq t s → LacksTextAt s t 0 → b ≡ false
starts_not s t false e h = refl
starts_not s t true e h = absurd (h (drop (length s) t) ((starts_is Decides-eqb t s true e).0 refl))

-- no occurrence at the front
pieces-lacks : (s : List ℕ) (b : ℕ) (bs : List ℕ) → LacksTextAt s (b ∷ bs) 0 → pieces s 0 (b ∷ bs) ≡ onto_first b (pieces s 0 bs)
pieces-lacks s b bs h =
    ap (λ c. if c then [] ∷ pieces s (length s - 1) bs else onto_first b (pieces s 0 bs)) (starts_not s (b ∷ bs) (starts_with nat_eq (b ∷ bs) s) refl h)

suc-sub-one : (n : ℕ) → suc n - 1 ≡ n
suc-sub-one n = omega arith

rest_behind : (a b : ℕ) (s bs rest : List ℕ) → b ∷ bs ≡ (a ∷ s) ++ rest → drop (length (a ∷ s) - 1) bs ≡ rest
rest_behind a b s bs rest e = ap (λ n. drop n bs) (suc-sub-one (length s)) ∙ front_rest bs s rest cc

-- an occurrence at the front
pieces-front : (s t rest : List ℕ) → 0 < length s → t ≡ s ++ rest → pieces s 0 t ≡ [] ∷ pieces s 0 rest
pieces-front [] t rest h e = absurd (omega (arith, h))
pieces-front (a ∷ s) [] rest h e = cc
pieces-front (a ∷ s) (b ∷ bs) rest h e =
    let found = (starts_is Decides-eqb (b ∷ bs) (a ∷ s) (starts_with nat_eq (b ∷ bs) (a ∷ s)) refl).1 rest e in
    ap (λ c. if c then [] ∷ pieces (a ∷ s) (length (a ∷ s) - 1) bs else onto_first b (pieces (a ∷ s) 0 bs)) found
    ∙ ap (λ ps. [] ∷ ps) (pieces-skip (a ∷ s) (length (a ∷ s) - 1) bs ∙ ap (pieces (a ∷ s) 0) (rest_behind a b s bs rest e))

-- the first occurrence, at a place
pub pieces-found : (s t rest : List ℕ) (i : ℕ) → 0 < length s → ((k : ℕ) → k < i → LacksTextAt s t k) → drop i t ≡ s ++ rest → pieces s 0 t ≡ take i t ∷ pieces s 0 rest
pieces-found s t rest zero h lacks e = pieces-front s t rest h e
pieces-found s [] rest (suc i) h lacks e = absurd (omega (arith, simp length-append at (ap length e)))
pieces-found s (b ∷ bs) rest (suc i) h lacks e =
    pieces-lacks s b bs (lacks 0 (omega arith)) ∙ ap (onto_first b) (pieces-found s bs rest i h (λ k below more same. lacks (suc k) (omega arith) more same) e)

-- no occurrence
pub pieces-none : (s t : List ℕ) → ((k : ℕ) → k ≤ length t → LacksTextAt s t k) → pieces s 0 t ≡ t ∷ []
pieces-none s [] lacks = refl
pieces-none s (b ∷ bs) lacks =
    pieces-lacks s b bs (lacks 0 (omega arith)) ∙ ap (onto_first b) (pieces-none s bs (λ k below more same. lacks (suc k) (omega arith) more same))

ints_from-more : (a : ℤ) (k : ℕ) → ints_from a (k + 1) ≡ ints_from a k ++ V.Int (a +ℤ pos k) ∷ []
ints_from-more a k = map-range_with_len_more (λ n. V.Int (a +ℤ pos n)) 0 k k (omega arith)

-- one int more in a list that holds the ints so far
pub ints_more : (a : ℤ) (k : ℕ) (r : ℤ) (items new : List Value) → items ≡ ints_from a k → r ≡ a +ℤ pos k → new ≡ items ++ V.Int r ∷ [] → new ≡ ints_from a (k + 1)
ints_more a k r items new before is grown = grown ∙ ap (λ xs. xs ++ V.Int r ∷ []) before ∙ ap (λ z. ints_from a k ++ V.Int z ∷ []) is ∙ sym (ints_from-more a k)

-- one piece more
pub split_more : (s text rest front tail : List ℕ) (items new : List Value) (v : Value) → 0 < length s
    → items ++ map V.Text (pieces s 0 rest) ≡ map V.Text (pieces s 0 text) → length rest ≤ 32000 → SplitsAroundMatch (FindsText s) rest front tail
    → v ≡ fitted_text front → new ≡ items ++ v ∷ []
    → (new ++ map V.Text (pieces s 0 tail) ≡ map V.Text (pieces s 0 text)) × (length tail ≤ 32000)
split_more s text rest front tail items new v full before short (i, j, found, front_is, tail_is, ordered, front_len, tail_len) is grown =
    let made = pieces-found s rest tail i full found.0 (found.1.split ∙ ap (λ xs. s ++ xs) (sym tail_is)) in
    let short_front : length front ≤ 32000 = omega arith in
    let said = is ∙ fitted_text-short front short_front in (
      ap (λ xs. xs ++ map V.Text (pieces s 0 tail)) (grown ∙ ap (λ x. items ++ x ∷ []) said)
          ∙ append_assoc items (V.Text front ∷ []) (map V.Text (pieces s 0 tail))
          ∙ ap (λ p. items ++ (V.Text p ∷ map V.Text (pieces s 0 tail))) front_is
          ∙ ap (λ ps. items ++ map V.Text ps) (sym made) ∙ before,
      omega arith,
    )

-- the last piece
pub split_last : (s text rest : List ℕ) (items new : List Value) (v : Value)
    → items ++ map V.Text (pieces s 0 rest) ≡ map V.Text (pieces s 0 text) → length rest ≤ 32000 → FindsText s rest None
    → v ≡ fitted_text rest → new ≡ items ++ v ∷ [] → new ≡ map V.Text (pieces s 0 text)
split_last s text rest items new v before short lacks is grown =
    grown ∙ ap (λ x. items ++ x ∷ []) (is ∙ fitted_text-short rest short) ∙ ap (λ ps. items ++ map V.Text ps) (sym (pieces-none s rest lacks)) ∙ before

-- what comes behind an occurrence is text
pub tail_is_text : (s rest front tail : List ℕ) → IsUtf8 rest → SplitsAroundMatch (FindsText s) rest front tail → IsUtf8 tail
tail_is_text s rest front tail text (i, j, found, front_is, tail_is, ordered, front_len, tail_len) =
    subst IsUtf8 (sym (tail_is ∙ ap (λ n. drop n rest) found.1.ends)) (IsUtf8-drop rest (i + length s) text found.1.after)
