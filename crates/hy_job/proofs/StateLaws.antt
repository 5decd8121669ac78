-- States of aggregates that see one row more, state by state.
use Rattle.std.proofs.Common.{◌≡◌, ◌<◌, ◌≤◌, ◌+◌, ℕ, zero, suc, List, [], ◌∷◌, ◌++◌, length, get_or, refl, ap, sym, subst, ◌∙◌, arith}
use Rattle.std.proofs.Math.ListN.{set}
use Rattle.std.proofs.lemmas.List.{append_assoc, append-nil, map-append}
use Rattle.std.proofs.lemmas.Grind.{flat_map-append}
use Rattle.al_value.specs.declared.value.Value.{Value}
use Rattle.al_value.specs.declared.value.Value.TheVariants as V
use Rattle.al_func.specs.Rex.{eval_rex}
use Rattle.al_agg.specs.Agg.{agg}
use Rattle.al_agg.specs.declared.part.Part.{Part}
use Rattle.al_agg.specs.Part.{Stands, StandsByFields, state_fields}
use Rattle.al_agg.specs.Part as part
use Rattle.hy_job.specs.declared.nested.AggRex.{AggRex}
use Rattle.hy_job.specs.declared.nested.AggRex.TheVariants as C
use Rattle.hy_job.specs.Columns.{Row, agg_of, agg_values, agg_value, agg_row, state_row}
use Rattle.hy_job.specs.States.{agg_input, HasSeen, AreStates}

values_push : (a : AggRex) (rows : List Row) (row : Row) → agg_values a (rows ++ row ∷ []) ≡ agg_values a rows ++ agg_input a row ∷ []
values_push C.CountAll rows row = map-append (λ row. V.Null) rows (row ∷ [])
values_push (C.Count e) rows row = map-append (eval_rex e) rows (row ∷ [])
values_push (C.Sum e) rows row = map-append (eval_rex e) rows (row ∷ [])
values_push (C.Min e) rows row = map-append (eval_rex e) rows (row ∷ [])
values_push (C.Max e) rows row = map-append (eval_rex e) rows (row ∷ [])

-- a state that is given the row's value has seen the row
pub sees : (a : AggRex) (rows : List Row) (row : Row) (old new : Part) (v : Value) → v ≡ agg_input a row → part.agg_of new ≡ part.agg_of old → ((vs : List Value) → Stands old vs → Stands new (vs ++ v ∷ [])) → HasSeen rows a old → HasSeen (rows ++ row ∷ []) a new
sees a rows row old new v is kind more seen =
    (kind ∙ seen.0, subst (Stands new) (ap (λ x. agg_values a rows ++ x ∷ []) is ∙ sym (values_push a rows row)) (more (agg_values a rows) seen.1))

-- the first j states have seen one row more
abbrev pub AreMixed : ℕ → List AggRex → List Row → Row → List Part → Type 0
AreMixed zero made rows row states = AreStates made rows states
AreMixed (suc j) [] rows row [] = Unit {0}
AreMixed (suc j) [] rows row (p ∷ states) = ⊥
AreMixed (suc j) (a ∷ made) rows row [] = ⊥
AreMixed (suc j) (a ∷ made) rows row (p ∷ states) = HasSeen (rows ++ row ∷ []) a p × AreMixed j made rows row states

pub mixed_at : (j : ℕ) (made : List AggRex) (rows : List Row) (row : Row) (states : List Part) (a : AggRex) (p : Part) → j < length made → AreMixed j made rows row states → HasSeen rows (get_or made j a) (get_or states j p)
mixed_at j [] rows row states a p low h = absurd (omega arith)
mixed_at zero (x ∷ made) rows row [] a p low h = absurd h
mixed_at zero (x ∷ made) rows row (s ∷ states) a p low h = h.0
mixed_at (suc j) (x ∷ made) rows row [] a p low h = absurd h
mixed_at (suc j) (x ∷ made) rows row (s ∷ states) a p low h = mixed_at j made rows row states a p (omega arith) h.1

pub mixed_more : (j : ℕ) (made : List AggRex) (rows : List Row) (row : Row) (states : List Part) (a : AggRex) (new : Part) → j < length made → AreMixed j made rows row states → HasSeen (rows ++ row ∷ []) (get_or made j a) new → AreMixed (suc j) made rows row (set states j new)
mixed_more j [] rows row states a new low h seen = absurd (omega arith)
mixed_more zero (x ∷ made) rows row [] a new low h seen = absurd h
mixed_more zero (x ∷ made) rows row (s ∷ states) a new low h seen = (seen, h.1)
mixed_more (suc j) (x ∷ made) rows row [] a new low h seen = absurd h
mixed_more (suc j) (x ∷ made) rows row (s ∷ states) a new low h seen = (h.0, mixed_more j made rows row states a new (omega arith) h.1 seen)

pub mixed_end : (j : ℕ) (made : List AggRex) (rows : List Row) (row : Row) (states : List Part) → length made ≤ j → AreMixed j made rows row states → AreStates made (rows ++ row ∷ []) states
mixed_end zero [] rows row [] low h = tt
mixed_end zero [] rows row (p ∷ states) low h = absurd h
mixed_end zero (a ∷ made) rows row states low h = absurd (omega arith)
mixed_end (suc j) [] rows row [] low h = tt
mixed_end (suc j) [] rows row (p ∷ states) low h = absurd h
mixed_end (suc j) (a ∷ made) rows row [] low h = absurd h
mixed_end (suc j) (a ∷ made) rows row (p ∷ states) low h = (h.0, mixed_end j made rows row states (omega arith) h.1)

-- one state more
pub states_push : (made : List AggRex) (rows : List Row) (states : List Part) (a : AggRex) (p : Part) → AreStates made rows states → HasSeen rows a p → AreStates (made ++ a ∷ []) rows (states ++ p ∷ [])
states_push [] rows [] a p h seen = (seen, tt)
states_push [] rows (s ∷ states) a p h seen = absurd h
states_push (x ∷ made) rows [] a p h seen = absurd h
states_push (x ∷ made) rows (s ∷ states) a p h seen = (h.0, states_push made rows states a p h.1 seen)

pub states_last : (made : List AggRex) (rows : List Row) (states : List Part) (p : Part) → AreStates made rows (states ++ p ∷ []) → (front : List AggRex) × (a : AggRex) × (made ≡ front ++ a ∷ []) × AreStates front rows states × HasSeen rows a p
states_last [] rows [] p h = absurd h
states_last [] rows (s ∷ states) p h = absurd h
states_last (a ∷ []) rows [] p h = ([], a, refl, tt, h.0)
states_last (a ∷ b ∷ made) rows [] p h = absurd h.1
states_last (a ∷ made) rows (s ∷ states) p h =
    let more = states_last made rows states p h.1 in (a ∷ more.0, more.1, ap (λ xs. a ∷ xs) more.2, (h.0, more.3), more.4)

-- the value of a finished state stands at the end of the row
pub finished : (made : List AggRex) (rows : List Row) (states : List Part) (p : Part) (row : Row) (v : Value) → ((made : List AggRex) (rows : List Row) → AreStates made rows states → row ≡ agg_row made rows) → ((vs : List Value) → Stands p vs → v ≡ agg (part.agg_of p) vs) → AreStates made rows (states ++ p ∷ []) → row ++ v ∷ [] ≡ agg_row made rows
finished made rows states p row v so value h =
    let last = states_last made rows states p h in
    let own : v ≡ agg_value last.1 rows = value (agg_values last.1 rows) last.4.1 ∙ ap (λ a. agg a (agg_values last.1 rows)) last.4.0 in
    ap (λ (xs : Row). xs ++ v ∷ []) (so last.0 rows last.3) ∙ ap (λ x. agg_row last.0 rows ++ x ∷ []) own
    ∙ sym (map-append (λ a. agg_value a rows) last.0 (last.1 ∷ [])) ∙ sym (ap (λ (xs : List AggRex). agg_row xs rows) last.2)

pub none_finished : (made : List AggRex) (rows : List Row) → AreStates made rows [] → [] ≡ agg_row made rows
none_finished [] rows h = refl
none_finished (a ∷ made) rows h = absurd h

pub states_length : (made : List AggRex) (rows : List Row) (states : List Part) → AreStates made rows states → length states ≡ length made
states_length [] rows [] h = refl
states_length [] rows (p ∷ states) h = absurd h
states_length (a ∷ made) rows [] h = absurd h
states_length (a ∷ made) rows (p ∷ states) h = ap suc (states_length made rows states h.1)

-- the state at place j sees the row
pub mixed_next : (j : ℕ) (made : List AggRex) (rows : List Row) (row : Row) (states : List Part) (a : AggRex) (old new : Part) (v : Value) → j < length made → a ≡ get_or made j a → old ≡ get_or states j old → v ≡ agg_input a row → part.agg_of new ≡ part.agg_of old → ((vs : List Value) → Stands old vs → Stands new (vs ++ v ∷ [])) → AreMixed j made rows row states → AreMixed (j + 1) made rows row (set states j new)
mixed_next j made rows row states a old new v low call is value kind more h =
    let seen : HasSeen rows a old = subst (HasSeen rows a) (sym is) (subst (λ b. HasSeen rows b (get_or states j old)) (sym call) (mixed_at j made rows row states a old low h)) in
    let next : suc j ≡ j + 1 = omega arith in
    subst (λ k. AreMixed k made rows row (set states j new)) next
    (mixed_more j made rows row states a new low h (subst (λ b. HasSeen (rows ++ row ∷ []) b new) call (sees a rows row old new v value kind more seen)))

pub seen_none : (a : AggRex) (p : Part) → part.agg_of p ≡ agg_of a → Stands p [] → HasSeen [] a p
seen_none C.CountAll p kind none = (kind, none)
seen_none (C.Count e) p kind none = (kind, none)
seen_none (C.Sum e) p kind none = (kind, none)
seen_none (C.Min e) p kind none = (kind, none)
seen_none (C.Max e) p kind none = (kind, none)

-- the fields of one state more stand behind those of the others
pub fields_more : (made : List AggRex) (rows : List Row) (states : List Part) (p : Part) (first out fields : Row) → ((made : List AggRex) (rows : List Row) → AreStates made rows states → out ≡ first ++ state_row made rows) → StandsByFields (part.agg_of p) fields p → AreStates made rows (states ++ p ∷ []) → out ++ fields ≡ first ++ state_row made rows
fields_more made rows states p first out fields so by h =
    let last = states_last made rows states p h in
    let own : fields ≡ state_fields (agg_of last.1) (agg_values last.1 rows) = sym ((by (agg_values last.1 rows)).0 last.4.1) ∙ ap (λ a. state_fields a (agg_values last.1 rows)) last.4.0 in
    let whole : state_row made rows ≡ state_row last.0 rows ++ state_fields (agg_of last.1) (agg_values last.1 rows) =
    ap (λ (xs : List AggRex). state_row xs rows) last.2 ∙ flat_map-append (λ a. state_fields (agg_of a) (agg_values a rows)) last.0 (last.1 ∷ []) ∙ ap (λ (xs : Row). state_row last.0 rows ++ xs) (append-nil _) in
    (λ i. so last.0 rows last.3 i ++ own i) ∙ append_assoc first (state_row last.0 rows) (state_fields (agg_of last.1) (agg_values last.1 rows)) ∙ ap (λ (xs : Row). first ++ xs) (sym whole)

pub no_fields : (made : List AggRex) (rows : List Row) (first : Row) → AreStates made rows [] → first ≡ first ++ state_row made rows
no_fields [] rows first h = sym (append-nil first)
no_fields (a ∷ made) rows first h = absurd h
