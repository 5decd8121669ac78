-- States that a row of states is joined to, state by state.
use Rattle.std.proofs.Common.{◌≡◌, ◌<◌, ◌≤◌, ◌+◌, ◌-◌, ℕ, zero, suc, List, [], ◌∷◌, ◌++◌, map, take, drop, length, get_or, refl, sym, ap, subst, ◌∙◌, append-nil, arith}
use Rattle.std.proofs.Math.ListN.{set}
use Rattle.std.specs.List.{AllZip, flat_map, sum_by}
use Rattle.std.proofs.Math.Seq.{map-set_same}
use Rattle.std.proofs.lemmas.List.{map-append, length-map, get_or-map, drop-drop, take_more}
use Rattle.std.proofs.lemmas.List.Sums.{sum_by-append}
use Rattle.std.proofs.lemmas.Grind.{flat_map-append}
use Rattle.al_value.specs.declared.value.Value.{Value}
use Rattle.al_agg.specs.declared.agg.Agg.{Agg}
use Rattle.al_agg.specs.declared.part.Part.{Part}
use Rattle.al_agg.specs.Part.{Stands, agg_of, width}
use Rattle.hy_job.specs.Columns.{Row}
use Rattle.hy_job.specs.Runs.{StandFor}
use Rattle.hy_aggregate.specs.Joined.{HasJoined, HaveJoined}

-- ---- one state

zip_more : (R : List Value → List Value → Type 0) (xs ys : List (List Value)) (x y : List Value) → AllZip R xs ys → R x y → AllZip R (xs ++ x ∷ []) (ys ++ y ∷ [])
zip_more R [] [] x y h r = (r, tt)
zip_more R [] (b ∷ ys) x y h r = absurd h
zip_more R (a ∷ xs) [] x y h r = absurd h
zip_more R (a ∷ xs) (b ∷ ys) x y h r = (h.0, zip_more R xs ys x y h.1 r)

zip_last : (R : List Value → List Value → Type 0) (xs ys : List (List Value)) (x : List Value) → AllZip R (xs ++ x ∷ []) ys → (front : List (List Value)) × (y : List Value) × (ys ≡ front ++ y ∷ []) × AllZip R xs front × R x y
zip_last R [] [] x h = absurd h
zip_last R [] (b ∷ []) x h = ([], b, refl, tt, h.0)
zip_last R [] (b ∷ c ∷ ys) x h = absurd h.1
zip_last R (a ∷ xs) [] x h = absurd h
zip_last R (a ∷ xs) (b ∷ ys) x h = let more = zip_last R xs ys x h.1 in (b ∷ more.0, more.1, ap (λ l. b ∷ l) more.2, (h.0, more.3), more.4)

all_more : (lists : List (List Value)) (vs : List Value) → flat_map (λ l. l) (lists ++ vs ∷ []) ≡ flat_map (λ l. l) lists ++ vs
all_more lists vs = flat_map-append (λ (l : List Value). l) lists (vs ∷ []) ∙ ap (λ l. flat_map (λ l. l) lists ++ l) (append-nil vs)

-- the state that another one was joined to
pub one_joined : (a : Agg) (fields : List (List Value)) (more : List Value) (old part new : Part) → agg_of new ≡ agg_of old
    → ((vs : List Value) × StandFor a more vs) → ((vs : List Value) → StandFor a more vs → Stands part vs)
    → ((vs ws : List Value) → Stands old vs → Stands part ws → Stands new (vs ++ ws))
    → HasJoined a fields old → HasJoined a (fields ++ more ∷ []) new
one_joined a fields more old part new kind some each both h = record {
  kind = kind ∙ h.kind;
  some = (h.some.0 ++ some.0 ∷ [], zip_more (StandFor a) fields h.some.0 more some.0 h.some.1 some.1);
  each = λ lists zip.
      let last = zip_last (StandFor a) fields lists more zip in
      subst (Stands new) (sym (ap (λ l. flat_map (λ vs. vs) l) last.2 ∙ all_more last.0 last.1)) (both (flat_map (λ vs. vs) last.0) last.1 (h.each last.0 last.3) (each last.1 last.4));
}

-- ---- widths

pub sum_cons : {X : Type 0} (f : X → ℕ) (x : X) (xs : List X) → sum_by f (x ∷ xs) ≡ f x + sum_by f xs
sum_cons f x xs = let both : sum_by f (x ∷ xs) ≡ sum_by f (x ∷ []) + sum_by f xs = sum_by-append f (x ∷ []) xs in omega (arith, both)

-- those before the next place, and its own
pub sum_next : (made : List Agg) (j at own : ℕ) (none : Agg) → j < length made → at ≡ sum_by width (take j made) → own ≡ width (get_or made j none) → at + own ≡ sum_by width (take (j + 1) made)
sum_next made j at own none low here is =
    let whole : sum_by width (take (j + 1) made) ≡ sum_by width (take j made ++ get_or made j none ∷ []) = ap (sum_by width) (take_more made j none low) in
    let halves : sum_by width (take j made ++ get_or made j none ∷ []) ≡ sum_by width (take j made) + sum_by width (get_or made j none ∷ []) = sum_by-append width (take j made) (get_or made j none ∷ []) in
    omega (arith, whole, halves, here, is)

-- the fields of a state in a row
pub piece : (row : Row) (at own place wide : ℕ) → at ≡ place → own ≡ wide → take (at + own - at) (drop at row) ≡ take wide (drop place row)
piece row at own place wide here is =
    let long : at + own - at ≡ wide = omega (arith, is) in
    (λ i. take (long i) (drop (here i) row))

-- ---- states in their places

-- the first j states have joined one row more
abbrev pub MixedJoined : ℕ → List Agg → List Row → Row → List Part → Type 0
MixedJoined zero made rows row states = HaveJoined made rows states
MixedJoined (suc j) [] rows row [] = Unit {0}
MixedJoined (suc j) [] rows row (p ∷ states) = ⊥
MixedJoined (suc j) (a ∷ made) rows row [] = ⊥
MixedJoined (suc j) (a ∷ made) rows row (p ∷ states) = HasJoined a (map (take (width a)) (rows ++ row ∷ [])) p × MixedJoined j made (map (drop (width a)) rows) (drop (width a) row) states

drops : {X : Type 0} (m n : ℕ) (xs : List X) → drop (m + n) xs ≡ drop n (drop m xs)
drops m n xs = sym (drop-drop n m xs)

mixed_more : (j : ℕ) (made : List Agg) (rows : List Row) (row : Row) (states : List Part) (a none : Agg) (old other new : Part) (fields : List Value) → j < length made → a ≡ get_or made j none → old ≡ get_or states j other
    → fields ≡ take (width a) (drop (sum_by width (take j made)) row)
    → ((states : List (List Value)) → HasJoined a states old → HasJoined a (states ++ fields ∷ []) new)
    → MixedJoined j made rows row states → MixedJoined (suc j) made rows row (set states j new)
mixed_more j [] rows row states a none old other new fields low is at own join h = absurd (omega (arith, low))
mixed_more zero (x ∷ made) rows row [] a none old other new fields low is at own join h = absurd h
mixed_more zero (x ∷ made) rows row (s ∷ states) a none old other new fields low is at own join h =
    let before : HasJoined a (map (take (width a)) rows) old = subst (λ p. HasJoined a (map (take (width a)) rows) p) (sym at) (subst (λ b. HasJoined b (map (take (width b)) rows) s) (sym is) h.0) in
    let after : HasJoined a (map (take (width a)) (rows ++ row ∷ [])) new =
    subst (λ l. HasJoined a l new) (ap (λ f. map (take (width a)) rows ++ f ∷ []) own ∙ sym (map-append (take (width a)) rows (row ∷ []))) (join (map (take (width a)) rows) before) in
    (subst (λ b. HasJoined b (map (take (width b)) (rows ++ row ∷ [])) new) is after, h.1)
mixed_more (suc j) (x ∷ made) rows row [] a none old other new fields low is at own join h = absurd h
mixed_more (suc j) (x ∷ made) rows row (s ∷ states) a none old other new fields low is at own join h =
    let lower : j < length made = omega (arith, low) in (
      h.0,
      mixed_more j made (map (drop (width x)) rows) (drop (width x) row) states a none old other new fields lower is at
          (own ∙ ap (take (width a)) (ap (λ n. drop n row) (sum_cons width x (take j made)) ∙ drops (width x) (sum_by width (take j made)) row)) join h.1,
    )

pub mixed_next : (j : ℕ) (made : List Agg) (rows : List Row) (row : Row) (states : List Part) (a none : Agg) (old other new : Part) (fields : List Value) → j < length made → a ≡ get_or made j none → old ≡ get_or states j other
    → fields ≡ take (width a) (drop (sum_by width (take j made)) row)
    → ((states : List (List Value)) → HasJoined a states old → HasJoined a (states ++ fields ∷ []) new)
    → MixedJoined j made rows row states → MixedJoined (j + 1) made rows row (set states j new)
mixed_next j made rows row states a none old other new fields low is at own join h =
    let next : suc j ≡ j + 1 = omega arith in
    subst (λ k. MixedJoined k made rows row (set states j new)) next (mixed_more j made rows row states a none old other new fields low is at own join h)

pub mixed_end : (j : ℕ) (made : List Agg) (rows : List Row) (row : Row) (states : List Part) → length made ≤ j → MixedJoined j made rows row states → HaveJoined made (rows ++ row ∷ []) states
mixed_end zero [] rows row [] low h = tt
mixed_end zero [] rows row (p ∷ states) low h = absurd h
mixed_end zero (a ∷ made) rows row states low h = absurd (omega (arith, low))
mixed_end (suc j) [] rows row [] low h = tt
mixed_end (suc j) [] rows row (p ∷ states) low h = absurd h
mixed_end (suc j) (a ∷ made) rows row [] low h = absurd h
mixed_end (suc j) (a ∷ made) rows row (p ∷ states) low h =
    let lower : length made ≤ j = omega (arith, low) in
    (h.0, subst (λ l. HaveJoined made l states) (sym (map-append (drop (width a)) rows (row ∷ []))) (mixed_end j made (map (drop (width a)) rows) (drop (width a) row) states lower h.1))

-- ---- kinds

pub kind_at : (made : List Agg) (states : List Part) (j : ℕ) (a none : Agg) (p other : Part) → map agg_of states ≡ made → j < length made → a ≡ get_or made j none → p ≡ get_or states j other → agg_of p ≡ a
kind_at made states j a none p other kinds low is at =
    let long : length states ≡ length made = sym (length-map states agg_of) ∙ ap (λ (l : List Agg). length l) kinds in
    let here : j < length states = omega (arith, long, low) in
    ap agg_of at ∙ (sym (get_or-map agg_of states j other none here) ∙ (ap (λ l. get_or l j none) kinds ∙ sym is))

pub kinds_set : (made : List Agg) (states : List Part) (j : ℕ) (old other new : Part) → map agg_of states ≡ made → old ≡ get_or states j other → agg_of new ≡ agg_of old → map agg_of (set states j new) ≡ made
kinds_set made states j old other new kinds at same = map-set_same agg_of states j new other (same ∙ ap agg_of at) ∙ kinds

-- ---- at the beginning

-- the states stand for no values
abbrev pub AreFresh : List Agg → List Part → Type 0
AreFresh made states = AllZip (λ a p. (agg_of p ≡ a) × Stands p []) made states

fresh_more : (made : List Agg) (states : List Part) (a : Agg) (p : Part) → AreFresh made states → agg_of p ≡ a → Stands p [] → AreFresh (made ++ a ∷ []) (states ++ p ∷ [])
fresh_more [] [] a p h kind none = ((kind, none), tt)
fresh_more [] (s ∷ states) a p h kind none = absurd h
fresh_more (x ∷ made) [] a p h kind none = absurd h
fresh_more (x ∷ made) (s ∷ states) a p h kind none = (h.0, fresh_more made states a p h.1 kind none)

-- one state more
pub fresh_next : (made : List Agg) (i : ℕ) (a none : Agg) (states states' : List Part) (p : Part) → i < length made → a ≡ get_or made i none → states' ≡ states ++ p ∷ [] → AreFresh (take i made) states → agg_of p ≡ a → Stands p [] → AreFresh (take (i + 1) made) states'
fresh_next made i a none states states' p low is pushed h kind stands =
    subst (λ m. AreFresh m states') (ap (λ b. take i made ++ b ∷ []) is ∙ sym (take_more made i none low))
    (subst (AreFresh (take i made ++ a ∷ [])) (sym pushed) (fresh_more (take i made) states a p h kind stands))

no_lists : (a : Agg) (p : Part) → Stands p [] → (lists : List (List Value)) → AllZip (StandFor a) [] lists → Stands p (flat_map (λ vs. vs) lists)
no_lists a p none [] zip = none
no_lists a p none (vs ∷ lists) zip = absurd zip

pub none_joined : (made : List Agg) (states : List Part) → AreFresh made states → HaveJoined made [] states
none_joined [] [] h = tt
none_joined [] (p ∷ states) h = absurd h
none_joined (a ∷ made) [] h = absurd h
none_joined (a ∷ made) (p ∷ states) h = (record { kind = h.0.0; some = ([], tt); each = no_lists a p h.0.1 }, none_joined made states h.1)
