-- What a state stands for when more values come, whatever list it stands for.
use Rattle.std.proofs.Common.{◌≡◌, ℤ, pos, ◌+ℤ◌, Option, Some, None, List, [], ◌∷◌, ◌++◌, length, refl, sym, ap, ◌∙◌}
use Rattle.std.specs.List.{flat_map}
use Rattle.std.proofs.lemmas.List.{map-append}
use Rattle.al_value.specs.declared.value.Value.{Value}
use Rattle.al_value.specs.declared.value.Value.TheVariants as V
use Rattle.al_func.specs.Rex.{eval_rex}
use Rattle.al_agg.specs.Agg.{agg, fitted, greater, greatest, ints_of, least, lesser, present, sum_of, wrapped}
use Rattle.al_agg.specs.declared.part.Part.{Part}
use Rattle.al_agg.specs.declared.state.State.{State}
use Rattle.al_agg.specs.declared.state.State.TheVariants as S
use Rattle.al_agg.specs.Part.{StateStands, Stands, agg_of, fields_of, joined_sums, part_fields, some_sum, state_agg, state_fields}
use Rattle.al_agg.proofs.PartLaws.{greatest-join, least-join, length-join, present-join, sum-join}
use Rattle.hy_job.specs.declared.nested.AggRex.{AggRex}
use Rattle.hy_job.specs.declared.nested.AggRex.TheVariants as C
use Rattle.hy_job.specs.Columns.{Row, agg_of as call_agg, agg_values, state_row}
use Rattle.hy_job.specs.States.{AreStates, HasSeen}

-- ---- one state

result_of_sum : Option ℤ → Value
result_of_sum None = V.Null
result_of_sum (Some z) = fitted z

-- the aggregate over what it has seen
pub result_of : State → Value
result_of (S.CountAll n) = fitted n
result_of (S.Count n) = fitted n
result_of (S.Sum sum) = result_of_sum sum
result_of (S.Min v) = v
result_of (S.Max v) = v

-- the state once these values came too
pub with_more : State → List Value → State
with_more (S.CountAll n) ws = S.CountAll (wrapped (n +ℤ wrapped (pos (length ws))))
with_more (S.Count n) ws = S.Count (wrapped (n +ℤ wrapped (pos (length (present ws)))))
with_more (S.Sum sum) ws = S.Sum (joined_sums sum (some_sum (ints_of ws)))
with_more (S.Min v) ws = S.Min (lesser v (least ws))
with_more (S.Max v) ws = S.Max (greater v (greatest ws))

same_agg : (s : State) (ws : List Value) → state_agg (with_more s ws) ≡ state_agg s
unfolding with_more
same_agg (S.CountAll n) ws = refl
same_agg (S.Count n) ws = refl
same_agg (S.Sum sum) ws = refl
same_agg (S.Min v) ws = refl
same_agg (S.Max v) ws = refl

stands_more : (s : State) (vs ws : List Value) → StateStands s vs → StateStands (with_more s ws) (vs ++ ws)
unfolding with_more
stands_more (S.CountAll n) vs ws h = length-join vs ws n (wrapped (pos (length ws))) h refl
stands_more (S.Count n) vs ws h = present-join vs ws n (wrapped (pos (length (present ws)))) h refl
stands_more (S.Sum sum) vs ws h = sum-join vs ws sum (some_sum (ints_of ws)) h refl
stands_more (S.Min v) vs ws h = least-join vs ws v (least ws) h refl
stands_more (S.Max v) vs ws h = greatest-join vs ws v (greatest ws) h refl

sum_result : (ns : List ℤ) → sum_of ns ≡ result_of_sum (some_sum ns)
unfolding result_of_sum
sum_result [] = refl
sum_result (n ∷ ns) = refl

its_result : (s : State) (vs : List Value) → StateStands s vs → agg (state_agg s) vs ≡ result_of s
unfolding agg result_of
its_result (S.CountAll n) vs h = ap fitted (sym h)
its_result (S.Count n) vs h = ap fitted (sym h)
its_result (S.Sum sum) vs h = sum_result (ints_of vs) ∙ ap result_of_sum (sym h)
its_result (S.Min v) vs h = sym h
its_result (S.Max v) vs h = sym h

its_fields : (s : State) (vs : List Value) → StateStands s vs → state_fields (state_agg s) vs ≡ fields_of s
unfolding state_fields
its_fields (S.CountAll n) vs h = ap fields_of (ap S.CountAll (sym h))
its_fields (S.Count n) vs h = ap fields_of (ap S.Count (sym h))
its_fields (S.Sum sum) vs h = ap fields_of (ap S.Sum (sym h))
its_fields (S.Min v) vs h = ap fields_of (ap S.Min (sym h))
its_fields (S.Max v) vs h = ap fields_of (ap S.Max (sym h))

pub part_fields_of : (p : Part) (vs : List Value) → Stands p vs → state_fields (agg_of p) vs ≡ part_fields p
unfolding Stands agg_of part_fields
part_fields_of p vs h = its_fields p.state vs h

pub more_fields : (p : Part) (vs ws : List Value) → Stands p vs → state_fields (agg_of p) (vs ++ ws) ≡ fields_of (with_more p.state ws)
unfolding Stands agg_of
more_fields p vs ws h = ap (λ a. state_fields a (vs ++ ws)) (sym (same_agg p.state ws)) ∙ its_fields (with_more p.state ws) (vs ++ ws) (stands_more p.state vs ws h)

pub more_result : (p : Part) (vs ws : List Value) → Stands p vs → agg (agg_of p) (vs ++ ws) ≡ result_of (with_more p.state ws)
unfolding Stands agg_of
more_result p vs ws h = ap (λ a. agg a (vs ++ ws)) (sym (same_agg p.state ws)) ∙ its_result (with_more p.state ws) (vs ++ ws) (stands_more p.state vs ws h)

-- ---- states of rows

pub values_append : (a : AggRex) (rows more : List Row) → agg_values a (rows ++ more) ≡ agg_values a rows ++ agg_values a more
values_append C.CountAll rows more = map-append (λ row. V.Null) rows more
values_append (C.Count e) rows more = map-append (eval_rex e) rows more
values_append (C.Sum e) rows more = map-append (eval_rex e) rows more
values_append (C.Min e) rows more = map-append (eval_rex e) rows more
values_append (C.Max e) rows more = map-append (eval_rex e) rows more

seen_fields : (a : AggRex) (p : Part) (rows more : List Row) → HasSeen rows a p → state_fields (call_agg a) (agg_values a (rows ++ more)) ≡ fields_of (with_more p.state (agg_values a more))
seen_fields a p rows more seen =
    ap (λ vs. state_fields (call_agg a) vs) (values_append a rows more) ∙ (ap (λ b. state_fields b (agg_values a rows ++ agg_values a more)) (sym seen.0) ∙ more_fields p (agg_values a rows) (agg_values a more) seen.1)

-- whichever rows the states have seen, with more rows they have the same fields
pub same_fields : (made : List AggRex) (states : List Part) (rows rows' more : List Row) → AreStates made rows states → AreStates made rows' states → state_row made (rows ++ more) ≡ state_row made (rows' ++ more)
same_fields [] states rows rows' more h g = refl
same_fields (a ∷ made) [] rows rows' more h g = absurd h
same_fields (a ∷ made) (p ∷ states) rows rows' more h g =
    (λ i. (seen_fields a p rows more h.0 ∙ sym (seen_fields a p rows' more g.0)) i ++ same_fields made states rows rows' more h.1 g.1 i)

-- the fields of the states are those of their rows
pub fields_are : (made : List AggRex) (states : List Part) (rows : List Row) → AreStates made rows states → flat_map part_fields states ≡ state_row made rows
fields_are [] [] rows h = refl
fields_are [] (p ∷ states) rows h = absurd h
fields_are (a ∷ made) [] rows h = absurd h
fields_are (a ∷ made) (p ∷ states) rows h =
    let own : part_fields p ≡ state_fields (call_agg a) (agg_values a rows) = sym (part_fields_of p (agg_values a rows) h.0.1) ∙ ap (λ b. state_fields b (agg_values a rows)) h.0.0 in
    (λ i. own i ++ fields_are made states rows h.1 i)
