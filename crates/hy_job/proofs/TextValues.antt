-- What is made of texts is text: in lower case, characters of it, and its pieces.
use Rattle.std.proofs.Common.{◌≡◌, ◌≤◌, ◌<◌, ◌+◌, ◌-◌, ◌/◌, ◌⊎◌, inl, inr, ℕ, zero, suc, Bool, true, false, ◌&&◌, List, [], ◌∷◌, ◌++◌, map, length, take, drop, refl, ap, sym, subst, ◌∙◌, arith, append_assoc}
use Rattle.std.specs.Prelude.{nat_eq, if◌then◌else◌, IsUtf8, encode_utf8_all}
use Rattle.std.specs.Str.{chars}
use Rattle.std.specs.Char.{to_ascii_lowercase}
use Rattle.std.specs.List.{AllByRecursion, starts_with}
use Rattle.std.proofs.Math.Utf8.{encode, encodes, next, scalar, scalars, low_scalar}
use Rattle.std.proofs.lemmas.Bool.{cond_below, cond_above, cases_lt}
use Rattle.std.proofs.lemmas.Bool.Decides.{Decides-eqb}
use Rattle.std.proofs.lemmas.Slice.Eq.{starts_is}
use Rattle.std.proofs.lemmas.List.{map-append}
use Rattle.std.proofs.lemmas.Str.{IsUtf8-append, IsUtf8-nil, IsUtf8-encode, cons_from_encodes, scalars-chars, encode_ascii}
use Rattle.std.proofs.lemmas.Str.Ascii.{lowercase_ascii, lowercase_is}
use Rattle.hy_job.proofs.Members.{by_cases}
use Rattle.hy_job.proofs.Boxes.{both}
use Rattle.al_func.specs.Items.{pieces, onto_first}
use Rattle.al_func.proofs.ItemLaws.{pieces-found}

-- ---- characters

-- a byte that follows another in a character
abbrev Follows : ℕ → Type 0
Follows b = (128 ≤ b) × (b < 192)

-- the bytes of a character, one to four
data Shape (c : ℕ) : Type 0 where
  of1 : c < 128 → encode c ≡ c ∷ [] → Shape c
  of2 : (a b : ℕ) → 192 ≤ a → Follows b → encode c ≡ a ∷ b ∷ [] → Shape c
  of3 : (a b d : ℕ) → 192 ≤ a → Follows b → Follows d → encode c ≡ a ∷ b ∷ d ∷ [] → Shape c
  of4 : (a b d e : ℕ) → 192 ≤ a → Follows b → Follows d → Follows e → encode c ≡ a ∷ b ∷ d ∷ e ∷ [] → Shape c

follows : (x : ℕ) → Follows (next x)
follows x = (omega arith, omega arith)

shape : (c : ℕ) → Shape c
unfolding encode
shape c = by (cases_lt c 128) (cases_lt c 2048) (cases_lt c 65536)
  where
    by : (c < 128) ⊎ (128 ≤ c) → (c < 2048) ⊎ (2048 ≤ c) → (c < 65536) ⊎ (65536 ≤ c) → Shape c
    by (inl h) _ _ = of1 h (sym (cond_below c 128 _ _ h))
    by (inr l) (inl h) _ = of2 (192 + c / 64) (next c) (omega arith) (follows c) (sym (cond_above c 128 _ _ _ l (cond_below c 2048 _ _ h)))
    by (inr k) (inr l) (inl h) = of3 (224 + c / 4096) (next (c / 64)) (next c) (omega arith) (follows (c / 64)) (follows c) (sym (cond_above c 128 _ _ _ k (cond_above c 2048 _ _ _ l (cond_below c 65536 _ _ h))))
    by (inr k) (inr l) (inr m) = of4 (240 + c / 262144) (next (c / 4096)) (next (c / 64)) (next c) (omega arith) (follows (c / 4096)) (follows (c / 64)) (follows c) (sym (cond_above c 128 _ _ _ k (cond_above c 2048 _ _ _ l (cond_above c 65536 _ _ _ m refl))))

-- the first byte of a character does not follow another, and the others do
abbrev HasBytes : ℕ → Type 0
HasBytes c = (first : ℕ) × (more : List ℕ) × (encode c ≡ first ∷ more) × (Follows first → ⊥) × AllByRecursion Follows more

bytes_of : (c : ℕ) → Shape c → HasBytes c
bytes_of c (of1 h e) = (c, [], e, (λ f. omega (arith, f.0)), tt)
bytes_of c (of2 a b l f e) = (a, b ∷ [], e, (λ g. omega (arith, g.1)), (f, tt))
bytes_of c (of3 a b d l f g e) = (a, b ∷ d ∷ [], e, (λ k. omega (arith, k.1)), (f, (g, tt)))
bytes_of c (of4 a b d x l f g k e) = (a, b ∷ d ∷ x ∷ [], e, (λ m. omega (arith, m.1)), (f, (g, (k, tt))))

has_bytes : (c : ℕ) → HasBytes c
has_bytes c = bytes_of c (shape c)

-- ---- lower case

high_stays : (b : ℕ) → 128 ≤ b → to_ascii_lowercase b ≡ b
high_stays b h = (lowercase_is b).2 (omega arith)

high_bytes : (c : ℕ) → 128 ≤ c → Shape c → map to_ascii_lowercase (encode c) ≡ encode c
high_bytes c h (of1 l e) = absurd (omega arith)
high_bytes c h (of2 a b l f e) = ap (map to_ascii_lowercase) e ∙ (λ i. high_stays a (omega arith) i ∷ high_stays b f.0 i ∷ []) ∙ sym e
high_bytes c h (of3 a b d l f g e) = ap (map to_ascii_lowercase) e ∙ (λ i. high_stays a (omega arith) i ∷ high_stays b f.0 i ∷ high_stays d g.0 i ∷ []) ∙ sym e
high_bytes c h (of4 a b d x l f g k e) = ap (map to_ascii_lowercase) e ∙ (λ i. high_stays a (omega arith) i ∷ high_stays b f.0 i ∷ high_stays d g.0 i ∷ high_stays x k.0 i ∷ []) ∙ sym e

lower_char : (c : ℕ) → scalar c ≡ true → (map to_ascii_lowercase (encode c) ≡ encode (to_ascii_lowercase c)) × (scalar (to_ascii_lowercase c) ≡ true)
lower_char c s = elim (cases_lt c 128) [
  | inl l ↦ (ap (map to_ascii_lowercase) (encode_ascii c l) ∙ sym (encode_ascii (to_ascii_lowercase c) (lowercase_ascii c l)), low_scalar (to_ascii_lowercase c) (omega (arith, lowercase_ascii c l)))
  | inr h ↦ (high_bytes c h (shape c) ∙ ap encode (sym (high_stays c h)), ap scalar (high_stays c h) ∙ s)
]

lower_chars : (cs : List ℕ) → scalars cs ≡ true → (map to_ascii_lowercase (encodes cs) ≡ encodes (map to_ascii_lowercase cs)) × (scalars (map to_ascii_lowercase cs) ≡ true)
lower_chars [] s = (refl, refl)
lower_chars (c ∷ cs) s =
    let parts = both (scalar c) (scalars cs) s in
    let here = lower_char c parts.0 in
    let rest = lower_chars cs parts.1 in (
      map-append to_ascii_lowercase (encode c) (encodes cs) ∙ (λ i. here.0 i ++ rest.0 i),
      (λ i. here.1 i && rest.1 i),
    )

pub lower_utf8 : (t : List ℕ) → IsUtf8 t → IsUtf8 (map to_ascii_lowercase t)
lower_utf8 t u = let all = lower_chars u.0 u.1.0 in (map to_ascii_lowercase u.0, (all.1, sym all.0 ∙ ap (map to_ascii_lowercase) u.1.1))

-- ---- some of the characters

scalars-take : (n : ℕ) (cs : List ℕ) → scalars cs ≡ true → scalars (take n cs) ≡ true
scalars-take zero cs s = refl
scalars-take (suc n) [] s = refl
scalars-take (suc n) (c ∷ cs) s = let parts = both (scalar c) (scalars cs) s in λ i. parts.0 i && scalars-take n cs parts.1 i

scalars-drop : (n : ℕ) (cs : List ℕ) → scalars cs ≡ true → scalars (drop n cs) ≡ true
scalars-drop zero cs s = s
scalars-drop (suc n) [] s = refl
scalars-drop (suc n) (c ∷ cs) s = scalars-drop n cs (both (scalar c) (scalars cs) s).1

pub piece_utf8 : (t : List ℕ) (start count : ℕ) → IsUtf8 t → IsUtf8 (encode_utf8_all (take count (drop start (chars t))))
piece_utf8 t start count u = (take count (drop start (chars t)), (scalars-take count (drop start (chars t)) (scalars-drop start (chars t) (scalars-chars t u)), refl))

-- ---- pieces

-- bytes at the front of the first piece
onto_all : List ℕ → List (List ℕ) → List (List ℕ)
onto_all [] ps = ps
onto_all (b ∷ bs) ps = onto_first b (onto_all bs ps)

onto_cons : (bs p : List ℕ) (ps : List (List ℕ)) → onto_all bs (p ∷ ps) ≡ (bs ++ p) ∷ ps
unfolding onto_all
onto_cons [] p ps = refl
onto_cons (b ∷ bs) p ps = ap (onto_first b) (onto_cons bs p ps)

-- texts, of which there is one at least
abbrev AreTexts : List (List ℕ) → Type 0
AreTexts pieces = (first : List ℕ) × (more : List (List ℕ)) × (pieces ≡ first ∷ more) × IsUtf8 first × AllByRecursion IsUtf8 more

-- what stands behind a text in a text
past_text : (ss cs tail : List ℕ) → encodes cs ≡ encodes ss ++ tail → scalars cs ≡ true → (es : List ℕ) × (encodes es ≡ tail) × (scalars es ≡ true) × (length ss + length es ≡ length cs)
past_text [] cs tail e s = (cs, e, s, omega arith)
past_text (d ∷ ss) cs tail e s =
    let one = cons_from_encodes cs (encodes ss ++ tail) d (e ∙ append_assoc (encode d) (encodes ss) tail) in
    let inner : scalars one.0 ≡ true = (both (scalar d) (scalars one.0) (ap scalars (sym one.1) ∙ s)).1 in
    let rest = past_text ss one.0 tail one.2 inner in
    (rest.0, rest.1, rest.2, omega (arith, rest.3, ap length one.1))

module _ (first : ℕ) (more : List ℕ) (starts : Follows first → ⊥) where
  abbrev separator : List ℕ
  separator = first ∷ more

  -- the separator does not begin within a character
  not_within : (b : ℕ) (bs : List ℕ) → Follows b → starts_with nat_eq (b ∷ bs) separator ≡ false
  not_within b bs f =
      by_cases (starts_with nat_eq (b ∷ bs) separator)
      (λ t. let e = (starts_is Decides-eqb (b ∷ bs) separator (starts_with nat_eq (b ∷ bs) separator) refl).0 t in let same : b ≡ first = cc in absurd (starts (subst Follows same f)))
      (λ t. t)

  no_start : (b : ℕ) (bs : List ℕ) → starts_with nat_eq (b ∷ bs) separator ≡ false → pieces separator 0 (b ∷ bs) ≡ onto_first b (pieces separator 0 bs)
  no_start b bs e = ap (λ (c : Bool). if c then [] ∷ pieces separator (length separator - 1) bs else onto_first b (pieces separator 0 bs)) e

  through : (bs rest : List ℕ) → AllByRecursion Follows bs → pieces separator 0 (bs ++ rest) ≡ onto_all bs (pieces separator 0 rest)
  unfolding onto_all
  through [] rest f = refl
  through (b ∷ bs) rest f = no_start b (bs ++ rest) (not_within b (bs ++ rest) f.0) ∙ ap (onto_first b) (through bs rest f.1)

  -- a separator at the front
  texts_behind : (t tail : List ℕ) → t ≡ separator ++ tail → AreTexts (pieces separator 0 tail) → AreTexts (pieces separator 0 t)
  texts_behind t tail e behind =
      let found = pieces-found separator t tail 0 (omega arith) (λ k below. absurd (omega arith)) e in
      ([], pieces separator 0 tail, found, IsUtf8-nil, subst (λ (ps : List (List ℕ)). AllByRecursion IsUtf8 ps) (sym {b = behind.0 ∷ behind.1} behind.2) (behind.3, behind.4))

  -- a character at the front
  with_char : (c b : ℕ) (bs rest : List ℕ) → encode c ≡ b ∷ bs → AllByRecursion Follows bs → scalar c ≡ true → starts_with nat_eq (encode c ++ rest) separator ≡ false → AreTexts (pieces separator 0 rest) → AreTexts (pieces separator 0 (encode c ++ rest))
  with_char c b bs rest e f s other (first_piece, pieces_more, is, text, texts_more) =
      let whole : encode c ++ rest ≡ b ∷ (bs ++ rest) = ap (λ front. front ++ rest) e in
      let here : starts_with nat_eq (b ∷ (bs ++ rest)) separator ≡ false = ap (λ t. starts_with nat_eq t separator) (sym whole) ∙ other in
      let inner : pieces separator 0 (bs ++ rest) ≡ (bs ++ first_piece) ∷ pieces_more = through bs rest f ∙ ap (onto_all bs) is ∙ onto_cons bs first_piece pieces_more in
      let made : pieces separator 0 (encode c ++ rest) ≡ (b ∷ (bs ++ first_piece)) ∷ pieces_more = ap (pieces separator 0) whole ∙ no_start b (bs ++ rest) here ∙ ap (onto_first b) inner in
      (b ∷ (bs ++ first_piece), pieces_more, made, subst IsUtf8 (ap (λ front. front ++ first_piece) e) (IsUtf8-append (encode c) first_piece (IsUtf8-encode c s) text), texts_more)

  module _ (ss : List ℕ) (is : encodes ss ≡ separator) (some : 0 < length ss) where
    texts : (n : ℕ) (cs : List ℕ) → length cs ≤ n → scalars cs ≡ true → AreTexts (pieces separator 0 (encodes cs))
    texts n [] low s = ([], [], refl, IsUtf8-nil, tt)
    texts zero (c ∷ cs) low s = absurd (omega arith)
    texts (suc n) (c ∷ cs) low s =
        let parts = both (scalar c) (scalars cs) s in
        let tail : List ℕ = drop (length separator) (encodes (c ∷ cs)) in
        by_cases (starts_with nat_eq (encodes (c ∷ cs)) separator)
        (λ t.
        let e : encodes (c ∷ cs) ≡ separator ++ tail = (starts_is Decides-eqb (encodes (c ∷ cs)) separator (starts_with nat_eq (encodes (c ∷ cs)) separator) refl).0 t in
        let past = past_text ss (c ∷ cs) tail (e ∙ ap (λ front. front ++ tail) (sym is)) s in
        texts_behind (encodes (c ∷ cs)) tail e (subst (λ rest. AreTexts (pieces separator 0 rest)) past.1 (texts n past.0 (omega (arith, past.3)) past.2)))
        (λ f. let bytes = has_bytes c in with_char c bytes.0 bytes.1 (encodes cs) bytes.2 bytes.4 parts.0 f (texts n cs (omega arith) parts.1))

-- every piece of a text is text
pub pieces_utf8 : (first : ℕ) (more t : List ℕ) → IsUtf8 (first ∷ more) → IsUtf8 t → AllByRecursion IsUtf8 (pieces (first ∷ more) 0 t)
pieces_utf8 first more t u v = with_chars u.0 u.1.1
  where
    with_chars : (ss : List ℕ) → encodes ss ≡ first ∷ more → AllByRecursion IsUtf8 (pieces (first ∷ more) 0 t)
    with_chars [] e = absurd (cc)
    with_chars (c ∷ ss) e =
        let bytes = has_bytes c in
        let same : first ≡ bytes.0 = let both_ways : first ∷ more ≡ bytes.0 ∷ (bytes.1 ++ encodes ss) = sym e ∙ ap (λ bs. bs ++ encodes ss) bytes.2 in cc in
        let all = texts first more (λ f. bytes.3 (subst Follows same f)) (c ∷ ss) e (omega arith) (length v.0) v.0 (omega arith) v.1.0 in
        subst (λ (ps : List (List ℕ)). AllByRecursion IsUtf8 ps) (sym all.2 ∙ ap (pieces (first ∷ more) 0) v.1.1) (all.3, all.4)

-- none is longer than the text
longer : (n : ℕ) (ps : List (List ℕ)) → AllByRecursion (λ p. length p ≤ n) ps → AllByRecursion (λ p. length p ≤ suc n) ps
longer n [] h = tt
longer n (p ∷ ps) h = (omega (arith, h.0), longer n ps h.1)

longer_first : (n b : ℕ) (ps : List (List ℕ)) → AllByRecursion (λ p. length p ≤ n) ps → AllByRecursion (λ p. length p ≤ suc n) (onto_first b ps)
longer_first n b [] h = (omega arith, tt)
longer_first n b (p ∷ ps) h = (omega (arith, h.0), longer n ps h.1)

pub pieces_short : (s : List ℕ) (skip : ℕ) (t : List ℕ) → AllByRecursion (λ p. length p ≤ length t) (pieces s skip t)
pieces_short s skip [] = (omega arith, tt)
pieces_short s (suc skip) (b ∷ bs) = longer (length bs) (pieces s skip bs) (pieces_short s skip bs)
pieces_short s zero (b ∷ bs) = by (starts_with nat_eq (b ∷ bs) s) (pieces_short s (length s - 1) bs) (pieces_short s zero bs)
  where
    by : (c : Bool) → AllByRecursion (λ p. length p ≤ length bs) (pieces s (length s - 1) bs) → AllByRecursion (λ p. length p ≤ length bs) (pieces s zero bs)
        → AllByRecursion (λ p. length p ≤ length (b ∷ bs)) (if c then [] ∷ pieces s (length s - 1) bs else onto_first b (pieces s 0 bs))
    by true h g = (omega arith, longer (length bs) (pieces s (length s - 1) bs) h)
    by false h g = longer_first (length bs) b (pieces s 0 bs) g
