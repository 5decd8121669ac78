-- The row that comes of the rows that the states have taken.
use Rattle.std.proofs.Common.{◌≡◌, ◌+◌, ℕ, zero, suc, true, List, [], ◌∷◌, ◌++◌, map, take, drop, length, refl, sym, ap, subst, ◌∙◌}
use Rattle.std.specs.Prelude.{IfOk, Result, Ok, Err}
use Rattle.std.specs.List.{AllByRecursion, AllZip, flat_map}
use Rattle.std.proofs.lemmas.List.{length-append, map-append, length-map}
use Rattle.std.proofs.lemmas.Grind.{flat_map-append}
use Rattle.al_value.specs.Value.{IsValue}
use Rattle.al_value.specs.declared.value.Value.{Value}
use Rattle.al_agg.specs.Agg.{agg}
use Rattle.al_agg.specs.declared.agg.Agg.{Agg}
use Rattle.al_agg.specs.declared.part.Part.{Part}
use Rattle.al_agg.specs.Part.{Stands, agg_of, part_fields, width}
use Rattle.al_agg.proofs.FieldLaws.{part_width}
use Rattle.hy_frame.specs.Row.{Fields}
use Rattle.hy_driver.specs.Rows.{value_of, values_of}
use Rattle.hy_job.specs.declared.nested.AggRex.{AggRex}
use Rattle.hy_job.specs.Columns.{AreValues, Row, agg_of as call_agg, state_row}
use Rattle.hy_job.specs.Runs.{AreJoined, IsJoined, StandFor}
use Rattle.hy_job.specs.Sound.{states_width}
use Rattle.hy_job.specs.States.{AreStates}
use Rattle.hy_job.proofs.StateLaws.{states_length}
use Rattle.hy_aggregate.specs.declared.work.AggWork.{AggWork}
use Rattle.hy_aggregate.specs.declared.work.AggWork.TheVariants as W
use Rattle.hy_aggregate.specs.Joined.{HasJoined, HaveJoined}
use Rattle.hy_aggregate.specs.Work.{HaveTaken, IsLast, IsReached, Reads}
use Rattle.hy_aggregate.proofs.Fields.{some_list}
use Rattle.hy_aggregate.proofs.Joining.{sum_cons}
use Rattle.hy_aggregate.proofs.Stable.{stable_aggs, stable_number}
use Rattle.hy_aggregate.proofs.States.{fields_are, more_result, same_fields}

-- ---- lists of fields

module _ (R : List Value → List Value → Type 0) where
  zip_append : (xs ys us vs : List (List Value)) → AllZip R xs ys → AllZip R us vs → AllZip R (xs ++ us) (ys ++ vs)
  zip_append [] [] us vs h g = g
  zip_append [] (y ∷ ys) us vs h g = absurd h
  zip_append (x ∷ xs) [] us vs h g = absurd h
  zip_append (x ∷ xs) (y ∷ ys) us vs h g = (h.0, zip_append xs ys us vs h.1 g)

  zip_split : (xs us zs : List (List Value)) → AllZip R (xs ++ us) zs → (ys : List (List Value)) × (vs : List (List Value)) × (zs ≡ ys ++ vs) × AllZip R xs ys × AllZip R us vs
  zip_split [] us zs h = ([], zs, refl, tt, h)
  zip_split (x ∷ xs) us [] h = absurd h
  zip_split (x ∷ xs) us (z ∷ zs) h = let more = zip_split xs us zs h.1 in (z ∷ more.0, more.1, ap (λ l. z ∷ l) more.2, (h.0, more.3), more.4)

both : (lists more : List (List Value)) → flat_map (λ vs. vs) (lists ++ more) ≡ flat_map (λ vs. vs) lists ++ flat_map (λ vs. vs) more
both lists more = flat_map-append (λ (vs : List Value). vs) lists more

-- fields that are values stand for lists
some_lists : (a : Agg) (fields : List (List Value)) → AllByRecursion AreValues fields → (lists : List (List Value)) × AllZip (StandFor a) fields lists
some_lists a [] are = ([], tt)
some_lists a (f ∷ fields) are =
    let first = some_list a f are.0 in
    let others = some_lists a fields are.1 in
    (first.0 ∷ others.0, (first.1, others.1))

first_values : (n : ℕ) (row : Row) → AreValues row → AreValues (take n row)
first_values zero row are = tt
first_values (suc n) [] are = tt
first_values (suc n) (v ∷ row) are = (are.0, first_values n row are.1)

other_values : (n : ℕ) (row : Row) → AreValues row → AreValues (drop n row)
other_values zero row are = are
other_values (suc n) [] are = tt
other_values (suc n) (v ∷ row) are = other_values n row are.1

each_values : (f : Row → Row) → ((row : Row) → AreValues row → AreValues (f row)) → (rows : List Row) → AllByRecursion AreValues rows → AllByRecursion AreValues (map f rows)
each_values f keeps [] are = tt
each_values f keeps (row ∷ rows) are = (keeps row are.0, each_values f keeps rows are.1)

-- ---- joined states

-- whichever rows a state was joined of, with the same rows behind them the value is the same
one_same : (a : Agg) (p : Part) (fields fields' more : List (List Value)) (v : Value) → HasJoined a fields p → HasJoined a fields' p → IsJoined a (fields ++ more) v → IsJoined a (fields' ++ more) v
one_same a p fields fields' more v h g joined =
    let halves = zip_split (StandFor a) fields more joined.0 joined.1 in
    let rest : List Value = flat_map (λ vs. vs) halves.1 in
    let old : Stands p (flat_map (λ vs. vs) halves.0) = h.each halves.0 halves.3 in
    let new : Stands p (flat_map (λ vs. vs) g.some.0) = g.each g.some.0 g.some.1 in
    let same : agg (agg_of p) (flat_map (λ vs. vs) halves.0 ++ rest) ≡ agg (agg_of p) (flat_map (λ vs. vs) g.some.0 ++ rest) =
    more_result p (flat_map (λ vs. vs) halves.0) rest old ∙ sym (more_result p (flat_map (λ vs. vs) g.some.0) rest new) in (
      g.some.0 ++ halves.1,
      zip_append (StandFor a) fields' g.some.0 more halves.1 g.some.1 halves.4,
      joined.2 ∙ (ap (λ l. agg a (flat_map (λ vs. vs) l)) halves.2 ∙ (ap (agg a) (both halves.0 halves.1)
          ∙ (subst (λ b. agg b (flat_map (λ vs. vs) halves.0 ++ rest) ≡ agg b (flat_map (λ vs. vs) g.some.0 ++ rest)) h.kind same ∙ ap (agg a) (sym (both g.some.0 halves.1))))),
    )

all_same : (made : List Agg) (states : List Part) (rows rows' more : List Row) (row : Row) → HaveJoined made rows states → HaveJoined made rows' states → AreJoined made (rows ++ more) row → AreJoined made (rows' ++ more) row
all_same [] states rows rows' more row h g joined = joined
all_same (a ∷ made) [] rows rows' more row h g joined = absurd h
all_same (a ∷ made) (p ∷ states) rows rows' more row h g joined =
    let fields = map-append (take (width a)) rows more in
    let fields' = map-append (take (width a)) rows' more in
    let others = map-append (drop (width a)) rows more in
    let others' = map-append (drop (width a)) rows' more in (
      joined.0,
      joined.1,
      joined.2,
      subst (λ l. IsJoined a l joined.0) (sym fields') (one_same a p (map (take (width a)) rows) (map (take (width a)) rows') (map (take (width a)) more) joined.0 h.0 g.0 (subst (λ l. IsJoined a l joined.0) fields joined.3)),
      subst (λ l. AreJoined made l joined.1) (sym others') (all_same made states (map (drop (width a)) rows) (map (drop (width a)) rows') (map (drop (width a)) more) joined.1 h.1 g.1 (subst (λ l. AreJoined made l joined.1) others joined.4)),
    )

-- with more rows of values behind those that the states were joined of there is a row
some_joined : (made : List Agg) (states : List Part) (rows more : List Row) → HaveJoined made rows states → AllByRecursion AreValues more → (row : Row) × AreJoined made (rows ++ more) row
some_joined [] states rows more h are = ([], refl)
some_joined (a ∷ made) [] rows more h are = absurd h
some_joined (a ∷ made) (p ∷ states) rows more h are =
    let first = some_lists a (map (take (width a)) more) (each_values (take (width a)) (first_values (width a)) more are) in
    let others = some_joined made states (map (drop (width a)) rows) (map (drop (width a)) more) h.1 (each_values (drop (width a)) (other_values (width a)) more are) in
    let lists = h.0.some.0 ++ first.0 in
    let v = agg a (flat_map (λ vs. vs) lists) in
    let is : IsJoined a (map (take (width a)) (rows ++ more)) v =
    subst (λ l. IsJoined a l v) (sym (map-append (take (width a)) rows more)) (lists, zip_append (StandFor a) (map (take (width a)) rows) h.0.some.0 (map (take (width a)) more) first.0 h.0.some.1 first.1, refl) in
    (v ∷ others.0, (v, others.0, refl, is, subst (λ l. AreJoined made l others.0) (sym (map-append (drop (width a)) rows more)) others.1))

-- the values of the states
abbrev pub Values : List Part → Row → Type 0
Values states row = AllZip (λ p v. (vs : List Value) → Stands p vs → v ≡ agg (agg_of p) vs) states row

pub values_are : (made : List Agg) (states : List Part) (row : Row) (rows : List Row) → Values states row → HaveJoined made rows states → AreJoined made rows row
values_are [] [] [] rows are h = refl
values_are [] [] (v ∷ row) rows are h = absurd are
values_are [] (p ∷ states) row rows are h = absurd h
values_are (a ∷ made) [] row rows are h = absurd h
values_are (a ∷ made) (p ∷ states) [] rows are h = absurd are
values_are (a ∷ made) (p ∷ states) (v ∷ row) rows are h =
    (v, row, refl, (h.0.some.0, h.0.some.1, are.0 (flat_map (λ vs. vs) h.0.some.0) (h.0.each h.0.some.0 h.0.some.1) ∙ ap (λ b. agg b (flat_map (λ vs. vs) h.0.some.0)) h.0.kind), values_are made states row (map (drop (width a)) rows) are.1 h.1)

-- ---- both kinds of work

pub same_last : (work : AggWork) (states : List Part) (rows rows' more : List Row) (row : Row) → HaveTaken work rows states → HaveTaken work rows' states → IsLast work (rows ++ more) row → IsLast work (rows' ++ more) row
same_last (W.Part made) states rows rows' more row h g last = last ∙ same_fields made states rows rows' more h g
same_last (W.Final made) states rows rows' more row h g last = all_same made states rows rows' more row h g last

pub some_last : (work : AggWork) (states : List Part) (rows more : List Row) → HaveTaken work rows states → AllByRecursion AreValues more → (row : Row) × IsLast work (rows ++ more) row
some_last (W.Part made) states rows more h are = (state_row made (rows ++ more), refl)
some_last (W.Final made) states rows more h are = some_joined made states rows more h are

pub part_last : (made : List AggRex) (states : List Part) (row : Row) → row ≡ flat_map part_fields states → (rows : List Row) → AreStates made rows states → row ≡ state_row made rows
part_last made states row is rows h = is ∙ fields_are made states rows h

-- ---- widths and kinds

joined_kinds : (made : List Agg) (states : List Part) (rows : List Row) → HaveJoined made rows states → map agg_of states ≡ made
joined_kinds [] [] rows h = refl
joined_kinds [] (p ∷ states) rows h = absurd h
joined_kinds (a ∷ made) [] rows h = absurd h
joined_kinds (a ∷ made) (p ∷ states) rows h = (λ i. h.0.kind i ∷ joined_kinds made states (map (drop (width a)) rows) h.1 i)

pub kinds_reached : (made : List Agg) (states : List Part) → IsReached (W.Final made) true states → map agg_of states ≡ made
kinds_reached made states reached = stable_aggs (map agg_of states) made (λ other. reached refl (λ rows h. other (joined_kinds made states rows h)))

pub as_many_reached : (made : List AggRex) (states : List Part) → IsReached (W.Part made) true states → length states ≡ length made
as_many_reached made states reached = stable_number (length states) (length made) (λ other. reached refl (λ rows h. other (states_length made rows states h)))

fields_wide : (made : List AggRex) (states : List Part) (rows : List Row) → AreStates made rows states → length (flat_map part_fields states) ≡ states_width made
fields_wide [] [] rows h = refl
fields_wide [] (p ∷ states) rows h = absurd h
fields_wide (a ∷ made) [] rows h = absurd h
fields_wide (a ∷ made) (p ∷ states) rows h =
    let here : length (part_fields p) ≡ width (call_agg a) = part_width p ∙ ap width h.0.0 in
    let rest : length (flat_map part_fields states) ≡ states_width made = fields_wide made states rows h.1 in
    length-append (part_fields p) (flat_map part_fields states) ∙ ((λ i. here i + rest i) ∙ sym (sum_cons (λ (b : AggRex). width (call_agg b)) a made))

pub part_wide : (made : List AggRex) (states : List Part) (row : Row) → row ≡ flat_map part_fields states → IsReached (W.Part made) true states → length row ≡ states_width made
part_wide made states row is reached =
    ap (λ (r : Row). length r) is ∙ stable_number (length (flat_map part_fields states)) (states_width made) (λ other. reached refl (λ rows h. other (fields_wide made states rows h)))

values_many : (states : List Part) (row : Row) → Values states row → length row ≡ length states
values_many [] [] are = refl
values_many [] (v ∷ row) are = absurd are
values_many (p ∷ states) [] are = absurd are
values_many (p ∷ states) (v ∷ row) are = ap suc (values_many states row are.1)

pub final_wide : (made : List Agg) (states : List Part) (row : Row) → Values states row → IsReached (W.Final made) true states → length row ≡ length made
final_wide made states row are reached = values_many states row are ∙ (sym (length-map states agg_of) ∙ ap (λ (l : List Agg). length l) (kinds_reached made states reached))

pub values_more : (states : List Part) (row row' : Row) (p : Part) (v : Value) → Values states row → ((vs : List Value) → Stands p vs → v ≡ agg (agg_of p) vs) → row' ≡ row ++ v ∷ [] → Values (states ++ p ∷ []) row'
values_more states row row' p v are is more = subst (Values (states ++ p ∷ [])) (sym more) (behind states row are)
  where
    behind : (states : List Part) (row : Row) → Values states row → Values (states ++ p ∷ []) (row ++ v ∷ [])
    behind [] [] are = (is, tt)
    behind [] (w ∷ row) are = absurd are
    behind (q ∷ states) [] are = absurd are
    behind (q ∷ states) (w ∷ row) are = (are.0, behind states row are.1)

pub ruleset last_laws = (part_last, part_wide)

pub if_ok : {T E : Type 0} {P Q : T → Type 0} (r : Result T E) → ((x : T) → P x → Q x) → IfOk r P → IfOk r Q
if_ok (Ok x) f h = f x h
if_ok (Err e) f h = tt

pub more_values : (row : Row) (v : Value) → AreValues row → IsValue v → AreValues (row ++ v ∷ [])
more_values [] v are is = (is, tt)
more_values (w ∷ row) v are is = (are.0, more_values row v are.1 is)

-- what is read of a row is there
pub reads_values : (work : AggWork) (wide : ℕ) (fields : Fields) (values slice : Row) → Reads work wide → length fields ≡ wide → values ≡ values_of fields → slice ≡ values → Reads work (length slice)
unfolding values_of
reads_values work wide fields values slice reads is same here =
    let long : length slice ≡ wide = ap (λ (r : Row). length r) (here ∙ same) ∙ (length-map fields value_of ∙ is) in
    subst (Reads work) (sym long) reads
