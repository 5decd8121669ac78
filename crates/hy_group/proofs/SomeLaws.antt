-- There is always an output: rows can be cut into groups, and the fields of each can be joined.
use Rattle.std.proofs.Common.{◌≡◌, ◌≢◌, ◌⊎◌, ℕ, true, false, true≢false, List, [], ◌∷◌, ◌++◌, map, flat_map, take, drop, length, Option, Some, None, refl, sym, ap, subst, ◌∙◌, inl, inr, arith, append_assoc, append-nil}
use Rattle.std.proofs.lemmas.Bool.{cases_Bool}
use Rattle.std.specs.Prelude.{ℤ, pos}
use Rattle.std.specs.List.{All, AllByRecursion, AllPairs, AllZip}
use Rattle.std.proofs.lemmas.List.Elements.{All-from_recursion}
use Rattle.std.proofs.lemmas.List.Kept.{AllPairs-cons}
use Rattle.std.proofs.lemmas.List.Sorted.{IsPermutation-refl}
use Rattle.al_value.specs.declared.value.Value.{Value}
use Rattle.al_value.specs.declared.value.Value.TheVariants as V
use Rattle.al_value.specs.Value.{IsValue}
use Rattle.al_agg.specs.declared.agg.Agg.{Agg}
use Rattle.al_agg.specs.declared.agg.Agg.TheVariants as A
use Rattle.al_agg.specs.declared.part.Part.{Part}
use Rattle.al_agg.specs.declared.state.State.{State}
use Rattle.al_agg.specs.declared.state.State.TheVariants as S
use Rattle.al_agg.specs.Agg.{agg, fitted, ints_of, sum_of, total, wrapped}
use Rattle.al_agg.specs.Part.{AreHalves, IsOneValue, IsState, IsSumState, StateStands, Stands, agg_of, some_sum, state_agg, width}
use Rattle.al_agg.proofs.ListLaws.{states_of_lists}
use Rattle.hy_job.specs.declared.nested.NestedPlan.{NestedPlan}
use Rattle.hy_job.specs.declared.job.GroupArg.{GroupArg}
use Rattle.hy_job.specs.Columns as spec
use Rattle.hy_job.specs.Columns.{Row, AreValues, Group, IsGrouping, key_of, rows_in}
use Rattle.hy_job.specs.Nested.{root_aggs}
use Rattle.hy_job.specs.Runs.{AreGroupValues, AreJoined, IsGroupOf, StandFor as FieldsStandFor, first_columns}
use Rattle.hy_job.proofs.RunRows.{all_drop, all_map, all_moved, all_take, all_unflat}
use Rattle.hy_group.specs.Emit.{AreGiven, IsFinished, IsGiven}
use Rattle.hy_group.specs.Groups.{Added, Entry, HaveOwnKeys, IsKept, Seeing, StandFor}
use Rattle.hy_group.proofs.GroupLaws.{none_stand, stand_more}
use Rattle.hy_rows.proofs.Keys.{is_key, keys_decide}

-- ---- fields of a state, or of none

halves_or_not : (fields : List Value) → AreValues fields → AreHalves fields ⊎ (AreHalves fields → ⊥)
halves_or_not [] v = inr (λ h. h)
halves_or_not (V.Null ∷ fields) v = inr (λ h. h)
halves_or_not (V.Bool b ∷ fields) v = inr (λ h. h)
halves_or_not (V.Text t ∷ fields) v = inr (λ h. h)
halves_or_not (V.Int m ∷ []) v = inr (λ h. h)
halves_or_not (V.Int m ∷ V.Null ∷ fields) v = inr (λ h. h)
halves_or_not (V.Int m ∷ V.Bool b ∷ fields) v = inr (λ h. h)
halves_or_not (V.Int m ∷ V.Text t ∷ fields) v = inr (λ h. h)
halves_or_not (V.Int m ∷ V.Int n ∷ []) v = inl (v.0, v.1.0)
halves_or_not (V.Int m ∷ V.Int n ∷ w ∷ fields) v = inr (λ h. h)

same_or_not : (xs ys : Row) → (xs ≡ ys) ⊎ (xs ≡ ys → ⊥)
same_or_not xs ys = elim (cases_Bool (is_key xs ys)) [ inl y ↦ inl ((keys_decide xs ys).0 y) | inr n ↦ inr (λ e. true≢false (sym ((keys_decide xs ys).1 e) ∙ n)) ]

sum_or_not : (fields : List Value) → AreValues fields → IsSumState fields ⊎ (IsSumState fields → ⊥)
sum_or_not [] v = inr (λ h. h)
sum_or_not (V.Null ∷ fields) v = inr (λ h. h)
sum_or_not (V.Int n ∷ fields) v = inr (λ h. h)
sum_or_not (V.Text t ∷ fields) v = inr (λ h. h)
sum_or_not (V.Bool true ∷ fields) v = halves_or_not fields v.1
sum_or_not (V.Bool false ∷ fields) v = same_or_not fields (V.Int (pos 0) ∷ V.Int (pos 0) ∷ [])

one_or_not : (fields : List Value) → AreValues fields → IsOneValue fields ⊎ (IsOneValue fields → ⊥)
one_or_not [] v = inr (λ h. h)
one_or_not (w ∷ []) v = inl v.0
one_or_not (w ∷ x ∷ fields) v = inr (λ h. h)

state_or_not : (a : Agg) (fields : List Value) → AreValues fields → IsState a fields ⊎ (IsState a fields → ⊥)
unfolding IsState
state_or_not A.CountAll fields v = halves_or_not fields v
state_or_not A.Count fields v = halves_or_not fields v
state_or_not A.Sum fields v = sum_or_not fields v
state_or_not A.Min fields v = one_or_not fields v
state_or_not A.Max fields v = one_or_not fields v

some_list : (a : Agg) (fields : List Value) → AreValues fields → (vs : List Value) × FieldsStandFor a fields vs
some_list a fields v = elim (state_or_not a fields v) [ inl is ↦ let l = (states_of_lists a fields).0 is in (l.0, inl l.2) | inr unread ↦ ([], inr (unread, refl)) ]

-- ---- joined values

each_taken : (n : ℕ) (rows : List Row) → AllByRecursion AreValues rows → AllByRecursion AreValues (map (take n) rows)
each_taken n rows v = all_map AreValues AreValues (take n) (λ row h. all_take IsValue n row h) rows v

each_dropped : (n : ℕ) (rows : List Row) → AllByRecursion AreValues rows → AllByRecursion AreValues (map (drop n) rows)
each_dropped n rows v = all_map AreValues AreValues (drop n) (λ row h. all_drop IsValue n row h) rows v

some_lists : (a : Agg) (states : List Row) → AllByRecursion AreValues states → (lists : List (List Value)) × AllZip (FieldsStandFor a) states lists
some_lists a [] v = ([], tt)
some_lists a (fields ∷ states) v = let one = some_list a fields v.0 in let more = some_lists a states v.1 in (one.0 ∷ more.0, (one.1, more.1))

some_joined : (aggs : List Agg) (rows : List Row) → AllByRecursion AreValues rows → (values : Row) × AreJoined aggs rows values
some_joined [] rows v = ([], refl)
some_joined (a ∷ aggs) rows v =
    let lists = some_lists a (map (take (width a)) rows) (each_taken (width a) rows v) in
    let others = some_joined aggs (map (drop (width a)) rows) (each_dropped (width a) rows v) in
    let value = agg a (flat_map (λ vs. vs) lists.0) in
    (value ∷ others.0, (value, others.0, refl, (lists.0, lists.1, refl), others.1))

some_values : (nested : Option NestedPlan) (rows : List Row) → AllByRecursion AreValues rows → (values : Row) × AreGroupValues nested rows values
some_values (Some n) rows v = some_joined (map spec.agg_of (root_aggs n)) rows v
some_values None rows v = ([], refl)

-- ---- groups

abbrev any : Seeing
any rows states = Unit {0}

abbrev right : List Part → Type 0
right states = Unit {0}

some_added : (key row : Row) (entries : List Entry) → (entries' : List Entry) × Added any right key row entries entries'
unfolding Added
some_added key row [] = ((key, []) ∷ [], ([], tt, tt, refl))
some_added key row (e ∷ es) = elim (same_or_not e.0 key) [
  | inl same ↦ ((e.0, []) ∷ es, inl (same, ([], record { more = λ rows h. tt; fit = tt }, refl)))
  | inr other ↦ let more = some_added key row es in (e ∷ more.0, inr (other, (more.0, more.1, refl)))
]

some_groups : (keys : List ℕ) (rows seen : List Row) (entries : List Entry) → StandFor any keys entries seen → (entries' : List Entry) × StandFor any keys entries' (seen ++ rows)
some_groups keys [] seen entries s = (entries, subst (StandFor any keys entries) (sym (append-nil seen)) s)
some_groups keys (row ∷ rows) seen entries s =
    let more = some_added (key_of keys row) row entries in
    let all = some_groups keys rows (seen ++ row ∷ []) more.0 (stand_more any right keys (key_of keys row) row entries more.0 seen refl more.1 s) in
    (all.0, subst (StandFor any keys all.0) (append_assoc seen (row ∷ []) rows) all.1)

module _ (sees : Seeing) (keys : List ℕ) where
  abbrev Differ : Group → Group → Type 0
  Differ g h = key_of keys g.0 ≢ key_of keys h.0

  kept_alike : (groups : List Group) (entries : List Entry) → AllZip (IsKept sees keys) groups entries → AllByRecursion (λ g. All (λ r. key_of keys r ≡ key_of keys g.0) g.1) groups
  kept_alike [] [] h = tt
  kept_alike [] (e ∷ es) h = absurd h
  kept_alike (g ∷ gs) [] h = absurd h
  kept_alike (g ∷ gs) (e ∷ es) h = (All-from_recursion _ g.1 (each g.1 h.0.alike.1), kept_alike gs es h.1)
    where
      each : (rows : List Row) → AllByRecursion (λ r. key_of keys r ≡ e.0) rows → AllByRecursion (λ r. key_of keys r ≡ key_of keys g.0) rows
      each [] v = tt
      each (r ∷ rows) v = (v.0 ∙ sym h.0.alike.0, each rows v.1)

  others_differ : (g : Group) (key : Row) → key_of keys g.0 ≡ key → (groups : List Group) (entries : List Entry) → AllZip (IsKept sees keys) groups entries → AllByRecursion (λ f. key ≢ f.0) entries → AllByRecursion (Differ g) groups
  others_differ g key own [] [] k d = tt
  others_differ g key own [] (e ∷ es) k d = absurd k
  others_differ g key own (h ∷ gs) [] k d = absurd k
  others_differ g key own (h ∷ gs) (e ∷ es) k d = ((λ same. d.0 (sym own ∙ same ∙ k.0.alike.0)), others_differ g key own gs es k.1 d.1)

  all_differ : (groups : List Group) (entries : List Entry) → AllZip (IsKept sees keys) groups entries → HaveOwnKeys entries → AllPairs Differ groups
  all_differ [] [] k own = λ i j d low within. absurd (omega (arith, within))
  all_differ [] (e ∷ es) k own = absurd k
  all_differ (g ∷ gs) [] k own = absurd k
  all_differ (g ∷ gs) (e ∷ es) k own = AllPairs-cons Differ g gs (All-from_recursion (Differ g) gs (others_differ g e.0 k.0.alike.0 gs es k.1 own.0)) (all_differ gs es k.1 own.1)

  pub is_grouping : (entries : List Entry) (rows : List Row) → (s : StandFor sees keys entries rows) → IsGrouping keys rows s.groups
  is_grouping entries rows s = record {
    moved = s.moved;
    alike = All-from_recursion _ s.groups (kept_alike s.groups entries s.kept);
    apart = all_differ s.groups entries s.kept s.apart;
  }

-- ---- a row for each group

module _ (arg : GroupArg) where
  abbrev pub IsRowOf : Group → Row → Type 0
  IsRowOf g row = (values : Row) × AreGroupValues arg.nested (map (drop (length arg.keys)) (rows_in g)) values × (row ≡ key_of (first_columns arg) g.0 ++ values)

  some_rows : (groups : List Group) → AllByRecursion (λ g. AllByRecursion AreValues (rows_in g)) groups → (made : List Row) × AllZip IsRowOf groups made
  some_rows [] v = ([], tt)
  some_rows (g ∷ gs) v =
      let own = some_values arg.nested (map (drop (length arg.keys)) (rows_in g)) (each_dropped (length arg.keys) (rows_in g) v.0) in
      let more = some_rows gs v.1 in
      ((key_of (first_columns arg) g.0 ++ own.0) ∷ more.0, ((own.0, own.1, refl), more.1))

  pub some_group : (handed : List Row) → AllByRecursion AreValues handed → (put : List Row) × IsGroupOf arg handed put
  some_group handed v =
      let all = some_groups (first_columns arg) handed [] [] (none_stand any (first_columns arg)) in
      let s = all.1 in
      let valid = all_unflat AreValues rows_in s.groups (all_moved AreValues handed (flat_map rows_in s.groups) s.moved v) in
      let made = some_rows s.groups valid in
      (made.0, (s.groups, made.0, is_grouping any (first_columns arg) all.0 handed s, made.1, IsPermutation-refl made.0))

-- ---- finished states

state_finish : (s : State) → (v : Value) × ((vs : List Value) → StateStands s vs → v ≡ agg (state_agg s) vs)
unfolding agg
state_finish (S.CountAll n) = (fitted n, λ vs h. ap fitted h)
state_finish (S.Count n) = (fitted n, λ vs h. ap fitted h)
state_finish (S.Sum None) = (V.Null, λ vs h. none (ints_of vs) h)
  where
    none : (ns : List ℤ) → None ≡ some_sum ns → V.Null ≡ sum_of ns
    none [] h = refl
    none (n ∷ ns) h = absurd (cc)
state_finish (S.Sum (Some z)) = (fitted z, λ vs h. some (ints_of vs) h)
  where
    some : (ns : List ℤ) → Some z ≡ some_sum ns → fitted z ≡ sum_of ns
    some [] h = absurd (cc)
    some (n ∷ ns) h = let same : z ≡ wrapped (total (n ∷ ns)) = cc in ap fitted same
state_finish (S.Min v) = (v, λ vs h. h)
state_finish (S.Max v) = (v, λ vs h. h)

finish_one : (p : Part) → (v : Value) × IsFinished p v
unfolding Stands agg_of
finish_one p = state_finish p.state

finish_all : (states : List Part) → (values : Row) × AllZip IsFinished states values
finish_all [] = ([], tt)
finish_all (p ∷ states) = let one = finish_one p in let more = finish_all states in (one.0 ∷ more.0, (one.1, more.1))

give_all : (entries : List Entry) → (made : List Row) × AllZip IsGiven entries made
give_all [] = ([], tt)
give_all (e ∷ es) = let own = finish_all e.1 in let more = give_all es in ((e.0 ++ own.0) ∷ more.0, (record { values = own.0; each = own.1; is = refl }, more.1))

pub some_given : (entries : List Entry) → (put : List Row) × AreGiven entries put
some_given entries = let all = give_all entries in (all.0, record { made = all.0; each = all.1; moved = IsPermutation-refl all.0 })
