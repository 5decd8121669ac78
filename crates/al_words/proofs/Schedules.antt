-- The parts of a schedule and the numbers of a part, one after the other.
use Rattle.std.proofs.Common.{◌≡◌, ◌∙◌, ◌<◌, ◌≤◌, ◌+◌, ◌==◌, ℕ, suc, true, false, sym, subst, ap, ap₂, arith, List, [], ◌∷◌, ◌++◌, map, take, drop, length, get_or, drop-cons}
use Rattle.std.specs.Borrow.{Bor}
use Rattle.std.specs.List.{slice_split}
use Rattle.std.proofs.lemmas.List.{map-append, take-append-drop}
use Rattle.clap.specs.Walk.{Text}
use Rattle.al_words.specs.Words.{Each, IsNumber, IsPart, count}
use Rattle.al_words.proofs.Asking.{part_same}

abbrev pub now : Bor Text → Text
now x = x.now

module _ {X : Type 0} (Is : Text → X → Type 0) where
  each_push : (ts : List Text) (t : Text) (xs : List X) (x : X) → Each Is ts xs → Is t x → Each Is (ts ++ t ∷ []) (xs ++ x ∷ [])
  each_push [] t [] x h is = (is, tt)
  each_push [] t (y ∷ ys) x h is = absurd h
  each_push (u ∷ ts) t [] x h is = absurd h
  each_push (u ∷ ts) t (y ∷ ys) x h is = (h.0, each_push ts t ys x h.1 is)

  -- one more of a loop's items
  pub each_more : (yielded : List (Bor Text)) (item : Bor Text) (xs : List X) (x : X) → Each Is (map now yielded) xs → Is item.now x
      → Each Is (map now (yielded ++ item ∷ [])) (xs ++ x ∷ [])
  each_more yielded item xs x h is =
      subst (λ ts. Each Is ts (xs ++ x ∷ [])) (sym (map-append now yielded (item ∷ []))) (each_push (map now yielded) item.now xs x h is)

  -- each text of a list has its value
  pub each_in : (front : List Text) (t : Text) (rest : List Text) (xs : List X) → Each Is (front ++ t ∷ rest) xs → ((x : X) → Is t x → ⊥) → ⊥
  each_in [] t rest [] h never = h
  each_in [] t rest (x ∷ xs) h never = never x h.0
  each_in (u ∷ front) t rest [] h never = h
  each_in (u ∷ front) t rest (x ∷ xs) h never = each_in front t rest xs h.1 never

-- the items so far, this one, and the rest are all
pub all_items : (all front : List Text) (k : ℕ) (t : Text) → front ≡ take k all → (k < length all) × (t ≡ get_or all k t)
    → all ≡ front ++ t ∷ drop (suc k) all
all_items all front k t e turn =
    sym (take-append-drop k all)
    ∙ ap₂ (λ (xs ys : List Text). xs ++ ys) (sym e) (drop-cons all k t turn.0 ∙ ap (λ x. x ∷ drop (suc k) all) (sym turn.1))

-- ---- parts

pub part_from : (text : Text) (ns : List ℕ) → false ≡ (length text == 0) → Each (IsNumber 0 4294967295) (slice_split (λ b. b == 44) text) ns → IsPart text ns
part_from [] ns e h = absurd (full e)
  where
    full : false ≡ true → ⊥
    full f = cc
part_from (x ∷ xs) ns e h = h

pub part_to : (text : Text) (ns : List ℕ) → false ≡ (length text == 0) → IsPart text ns → Each (IsNumber 0 4294967295) (slice_split (λ b. b == 44) text) ns
part_to [] ns e h = absurd (full e)
  where
    full : false ≡ true → ⊥
    full f = cc
part_to (x ∷ xs) ns e h = h

-- ---- counts

pub count_push : (ps : List (List ℕ)) (p : List ℕ) → count (ps ++ p ∷ []) ≡ count ps + length p
count_push [] p = omega arith
count_push (q ∷ ps) p = omega (arith, count_push ps p)

-- all parts have no fewer numbers than those so far and this one
pub count_over : (front : List Text) (t : Text) (rest : List Text) (qs ps : List (List ℕ)) (n : List ℕ) → Each IsPart front qs
    → Each IsPart (front ++ t ∷ rest) ps → IsPart t n → count qs + length n ≤ count ps
count_over [] t rest [] [] n h g is = absurd g
count_over [] t rest [] (p ∷ ps) n h g is = let same = ap length (part_same t n p is g.0) in omega arith
count_over [] t rest (q ∷ qs) ps n h g is = absurd h
count_over (u ∷ front) t rest [] ps n h g is = absurd h
count_over (u ∷ front) t rest (q ∷ qs) [] n h g is = absurd g
count_over (u ∷ front) t rest (q ∷ qs) (p ∷ ps) n h g is =
    let same = ap length (part_same u q p h.0 g.0) in
    omega (arith, count_over front t rest qs ps n h.1 g.1 is)
