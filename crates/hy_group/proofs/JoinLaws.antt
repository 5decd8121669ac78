-- States that are joined with the fields of a row more.
use Rattle.std.proofs.Common.{◌≡◌, ◌<◌, ◌≤◌, ◌+◌, ℕ, zero, suc, List, [], ◌∷◌, ◌++◌, map, flat_map, take, drop, length, get_or, refl, sym, ap, subst, ◌∙◌, inl, inr, arith, append-nil}
use Rattle.std.proofs.Math.ListN.{set}
use Rattle.std.specs.List.{AllZip}
use Rattle.std.proofs.lemmas.Grind.{flat_map-append}
use Rattle.std.proofs.lemmas.List.{get_or-map, length-map, map-append}
use Rattle.al_value.specs.declared.value.Value.{Value}
use Rattle.al_agg.specs.declared.agg.Agg.{Agg}
use Rattle.al_agg.specs.declared.part.Part.{Part}
use Rattle.al_agg.specs.Lists.{AreOfList}
use Rattle.al_agg.specs.Part.{IsState, Stands, StandsByFields, agg_of, width}
use Rattle.hy_job.specs.declared.nested.AggRex.{AggRex}
use Rattle.hy_job.specs.declared.nested.AggRex.TheVariants as C
use Rattle.hy_job.specs.Columns as spec
use Rattle.hy_job.specs.Columns.{Row, agg_values}
use Rattle.hy_job.specs.Runs.{StandFor}
use Rattle.hy_job.specs.States.{AreStates}
use Rattle.hy_group.specs.Joining.{HasJoined, HaveJoined, kinds}

-- ---- states that have seen no value

values_of_none : (a : AggRex) → agg_values a [] ≡ []
values_of_none C.CountAll = refl
values_of_none (C.Count e) = refl
values_of_none (C.Sum e) = refl
values_of_none (C.Min e) = refl
values_of_none (C.Max e) = refl

pub none_joined : (made : List AggRex) (states : List Part) → AreStates made [] states → HaveJoined (map spec.agg_of made) [] states
none_joined [] [] h = tt
none_joined [] (p ∷ states) h = absurd h
none_joined (a ∷ made) [] h = absurd h
none_joined (a ∷ made) (p ∷ states) h = (record { kind = h.0.0; lists = []; each = tt; stands = subst (Stands p) (values_of_none a) h.0.1 }, none_joined made states h.1)

pub start_kinds : (made : List AggRex) (states : List Part) → AreStates made [] states → kinds states ≡ map spec.agg_of made
start_kinds [] [] h = refl
start_kinds [] (p ∷ states) h = absurd h
start_kinds (a ∷ made) [] h = absurd h
start_kinds (a ∷ made) (p ∷ states) h = λ i. h.0.0 i ∷ start_kinds made states h.1 i

-- ---- one state

pub both_zip : {A B : Type 0} (R : A → B → Type 0) (xs : List A) (ys : List B) (x : A) (y : B) → AllZip R xs ys → R x y → AllZip R (xs ++ x ∷ []) (ys ++ y ∷ [])
both_zip R [] [] x y h r = (r, tt)
both_zip R [] (z ∷ ys) x y h r = absurd h
both_zip R (w ∷ xs) [] x y h r = absurd h
both_zip R (w ∷ xs) (z ∷ ys) x y h r = (h.0, both_zip R xs ys x y h.1 r)

one_list : (lists : List (List Value)) (ws : List Value) → flat_map (λ vs. vs) (lists ++ ws ∷ []) ≡ flat_map (λ vs. vs) lists ++ ws
one_list lists ws = flat_map-append (λ vs. vs) lists (ws ∷ []) ∙ ap (λ l. flat_map (λ vs. vs) lists ++ l) (append-nil ws)

-- fields of a state add its values
pub state_joined : (a : Agg) (before : List (List Value)) (fields : List Value) (old new other : Part) → AreOfList a fields → StandsByFields a fields other → agg_of new ≡ a → ((vs ws : List Value) → Stands old vs → Stands other ws → Stands new (vs ++ ws))
    → HasJoined a before old → HasJoined a (before ++ fields ∷ []) new
state_joined a before fields old new other some by kind both h =
    let ws = some.0 in record {
      kind = kind;
      lists = h.lists ++ ws ∷ [];
      each = both_zip (StandFor a) before h.lists fields ws h.each (inl some.2);
      stands = subst (Stands new) (sym (one_list h.lists ws)) (both (flat_map (λ vs. vs) h.lists) ws h.stands ((by ws).1 some.2));
    }

-- fields of no state add none
pub none_added : (a : Agg) (before : List (List Value)) (fields : List Value) (p : Part) → (IsState a fields → ⊥) → HasJoined a before p → HasJoined a (before ++ fields ∷ []) p
none_added a before fields p unread h = record {
  kind = h.kind;
  lists = h.lists ++ [] ∷ [];
  each = both_zip (StandFor a) before h.lists fields [] h.each (inr (unread, refl));
  stands = subst (Stands p) (sym (one_list h.lists [] ∙ append-nil (flat_map (λ vs. vs) h.lists))) h.stands;
}

-- ---- state by state

-- the first j states have been joined with the row's fields
abbrev pub AreMixed : ℕ → List Agg → List Row → Row → List Part → Type 0
AreMixed zero aggs rows row states = HaveJoined aggs rows states
AreMixed (suc j) [] rows row [] = Unit {0}
AreMixed (suc j) [] rows row (p ∷ states) = ⊥
AreMixed (suc j) (a ∷ aggs) rows row [] = ⊥
AreMixed (suc j) (a ∷ aggs) rows row (p ∷ states) = HasJoined a (map (take (width a)) (rows ++ row ∷ [])) p × AreMixed j aggs (map (drop (width a)) rows) (drop (width a) row) states

-- the fields behind those of the first j states
abbrev pub left_after : ℕ → List Agg → Row → Row
left_after zero aggs row = row
left_after (suc j) [] row = row
left_after (suc j) (a ∷ aggs) row = left_after j aggs (drop (width a) row)

pub left_next : (j : ℕ) (aggs : List Agg) (row : Row) (a : Agg) → j < length aggs → a ≡ get_or aggs j a → left_after (suc j) aggs row ≡ drop (width a) (left_after j aggs row)
left_next j [] row a low at = absurd (omega (arith, low))
left_next zero (x ∷ aggs) row a low at = ap (λ b. drop (width b) row) (sym at)
left_next (suc j) (x ∷ aggs) row a low at = left_next j aggs (drop (width x) row) a (omega (arith, low)) at

mixed_more : (j : ℕ) (aggs : List Agg) (rows : List Row) (row : Row) (states : List Part) (a : Agg) (old new : Part) → j < length aggs → a ≡ get_or aggs j a → old ≡ get_or states j old
    → ((before : List (List Value)) → HasJoined a before old → HasJoined a (before ++ take (width a) (left_after j aggs row) ∷ []) new) → AreMixed j aggs rows row states → AreMixed (suc j) aggs rows row (set states j new)
mixed_more j [] rows row states a old new low at is adds h = absurd (omega (arith, low))
mixed_more zero (x ∷ aggs) rows row [] a old new low at is adds h = absurd h
mixed_more zero (x ∷ aggs) rows row (s ∷ states) a old new low at is adds h =
    let before = map (take (width a)) rows in
    let now : HasJoined a before old = subst (λ b. HasJoined b (map (take (width b)) rows) old) (sym at) (subst (HasJoined x (map (take (width x)) rows)) (sym is) h.0) in
    let more : HasJoined a (map (take (width a)) (rows ++ row ∷ [])) new = subst (λ l. HasJoined a l new) (sym (map-append (take (width a)) rows (row ∷ []))) (adds before now) in
    (subst (λ b. HasJoined b (map (take (width b)) (rows ++ row ∷ [])) new) at more, h.1)
mixed_more (suc j) (x ∷ aggs) rows row [] a old new low at is adds h = absurd h
mixed_more (suc j) (x ∷ aggs) rows row (s ∷ states) a old new low at is adds h =
    (h.0, mixed_more j aggs (map (drop (width x)) rows) (drop (width x) row) states a old new (omega (arith, low)) at is adds h.1)

pub mixed_end : (j : ℕ) (aggs : List Agg) (rows : List Row) (row : Row) (states : List Part) → length aggs ≤ j → AreMixed j aggs rows row states → HaveJoined aggs (rows ++ row ∷ []) states
mixed_end zero [] rows row [] low h = tt
mixed_end zero [] rows row (p ∷ states) low h = absurd h
mixed_end zero (a ∷ aggs) rows row states low h = absurd (omega (arith, low))
mixed_end (suc j) [] rows row [] low h = tt
mixed_end (suc j) [] rows row (p ∷ states) low h = absurd h
mixed_end (suc j) (a ∷ aggs) rows row [] low h = absurd h
mixed_end (suc j) (a ∷ aggs) rows row (p ∷ states) low h =
    (h.0, subst (λ l. HaveJoined aggs l states) (sym (map-append (drop (width a)) rows (row ∷ []))) (mixed_end j aggs (map (drop (width a)) rows) (drop (width a) row) states (omega (arith, low)) h.1))

-- ---- which aggregates states are of

pub kinds_length : (aggs : List Agg) (states : List Part) → kinds states ≡ aggs → length states ≡ length aggs
kinds_length aggs states e = sym (length-map states agg_of) ∙ ap (λ (l : List Agg). length l) e

pub made_length : (made : List AggRex) (states : List Part) → kinds states ≡ map spec.agg_of made → length states ≡ length made
made_length made states e = kinds_length (map spec.agg_of made) states e ∙ length-map made spec.agg_of

pub kind_at : (made : List AggRex) (states : List Part) (j : ℕ) (m : AggRex) (p : Part) → j < length made → kinds states ≡ map spec.agg_of made → m ≡ get_or made j m → p ≡ get_or states j p → agg_of p ≡ spec.agg_of m
kind_at made states j m p low e at is =
    let within : j < length states = subst (λ n. j < n) (sym (made_length made states e)) low in
    ap agg_of is ∙ sym (get_or-map agg_of states j p (agg_of p) within) ∙ ap (λ l. get_or l j (agg_of p)) e ∙ get_or-map spec.agg_of made j m (agg_of p) low ∙ ap spec.agg_of (sym at)

pub kind_in : (made : List AggRex) (j : ℕ) (m : AggRex) → j < length made → m ≡ get_or made j m → spec.agg_of m ≡ get_or (map spec.agg_of made) j (spec.agg_of m)
kind_in made j m low at = ap spec.agg_of at ∙ sym (get_or-map spec.agg_of made j m (spec.agg_of m) low)

kinds_set : (states : List Part) (j : ℕ) (old new : Part) → old ≡ get_or states j old → agg_of new ≡ agg_of old → kinds (set states j new) ≡ kinds states
kinds_set [] j old new is same = refl
kinds_set (s ∷ states) zero old new is same = λ i. (same ∙ ap agg_of is) i ∷ kinds states
kinds_set (s ∷ states) (suc j) old new is same = ap (λ l. agg_of s ∷ l) (kinds_set states j old new is same)

-- one state further
pub mixed_next : (made : List AggRex) (j : ℕ) (m : AggRex) (states : List Part) (old new : Part) (row left own more : Row) → j < length made → m ≡ get_or made j m → old ≡ get_or states j old → kinds states ≡ map spec.agg_of made
    → left ≡ left_after j (map spec.agg_of made) row → own ≡ take (width (spec.agg_of m)) left → more ≡ drop (width (spec.agg_of m)) left → agg_of new ≡ spec.agg_of m
    → ((before : List (List Value)) → HasJoined (spec.agg_of m) before old → HasJoined (spec.agg_of m) (before ++ own ∷ []) new)
    → (kinds (set states j new) ≡ map spec.agg_of made) × (more ≡ left_after (j + 1) (map spec.agg_of made) row)
    × ((rows : List Row) → AreMixed j (map spec.agg_of made) rows row states → AreMixed (j + 1) (map spec.agg_of made) rows row (set states j new))
mixed_next made j m states old new row left own more low at is e from front back kind adds =
    let aggs = map spec.agg_of made in
    let a = spec.agg_of m in
    let within : j < length aggs = subst (λ n. j < n) (sym (length-map made spec.agg_of)) low in
    let place = kind_in made j m low at in
    let next : suc j ≡ j + 1 = omega arith in (
      kinds_set states j old new is (kind ∙ sym (kind_at made states j m old low e at is)) ∙ e,
      back ∙ ap (drop (width a)) from ∙ sym (left_next j aggs row a within place) ∙ ap (λ n. left_after n aggs row) next,
      λ rows h. subst (λ n. AreMixed n aggs rows row (set states j new)) next
          (mixed_more j aggs rows row states a old new within place is (λ before was. subst (λ (l : Row). HasJoined a (before ++ l ∷ []) new) (front ∙ ap (take (width a)) from) (adds before was)) h),
    )

pub mixed_all : (made : List AggRex) (j : ℕ) (rows : List Row) (row : Row) (states : List Part) → length made ≤ j → AreMixed j (map spec.agg_of made) rows row states → HaveJoined (map spec.agg_of made) (rows ++ row ∷ []) states
mixed_all made j rows row states low h = mixed_end j (map spec.agg_of made) rows row states (subst (λ n. n ≤ j) (sym (length-map made spec.agg_of)) low) h

pub ruleset join_laws = (none_joined, start_kinds, made_length, kind_at)
