-- The rows that are handed on for groups are those of their pieces.
use Rattle.std.proofs.Common.{◌≡◌, List, [], ◌∷◌, ◌++◌, map, flat_map, Option, Some, None, refl, sym, ap, ◌∙◌, arith, append_assoc}
use Rattle.std.proofs.lemmas.List.{map-append}
use Rattle.std.specs.List.{All, AllByRecursion, AllZip}
use Rattle.std.specs.List.Sorted.{IsPermutation}
use Rattle.std.proofs.lemmas.List.Elements.{All-from_recursion, recursion_from_All, filter-append}
use Rattle.std.proofs.lemmas.List.Sorted.{IsPermutation-refl, IsPermutation-trans, IsPermutation-append_left, IsPermutation-append_right, IsPermutation-append_comm, length_permutation}
use Rattle.al_value.specs.declared.value.Value.{Value}
use Rattle.al_agg.specs.declared.part.Part.{Part}
use Rattle.al_agg.specs.declared.state.State.{State}
use Rattle.al_agg.specs.declared.state.State.TheVariants as S
use Rattle.al_agg.specs.Part.{StateStands, Stands, agg_of, fields_of, halves, part_fields, state_agg, state_fields, sum_fields}
use Rattle.hy_job.specs.declared.nested.AggRex.{AggRex}
use Rattle.hy_job.specs.declared.nested.NestedPlan.{NestedPlan, more_of-NestedPlan as Is, end_of-NestedPlan as At}
use Rattle.hy_job.specs.declared.nested.NestedPlan.TheVariants.{Nested, Assign', Select', Project', Unnest', Order', Distinct', Limit', Aggregate'}
use Rattle.hy_job.specs.declared.job.GroupArg.{GroupArg}
use Rattle.hy_job.specs.Columns as spec
use Rattle.hy_job.specs.Columns.{Row, Group, ArePieces, agg_values, key_of, rows_in, state_row}
use Rattle.hy_job.specs.Drivers.{received_of}
use Rattle.hy_job.specs.Runs.{piece_fields, piece_row}
use Rattle.hy_job.specs.States.{AreStates}
use Rattle.hy_driver.specs.Rows.{Fed}
use Rattle.hy_group.specs.Build.{Stands as GroupsStand, pieces_out}
use Rattle.hy_group.specs.Fresh.{fed_to, row_sees}
use Rattle.hy_group.specs.Groups.{Entry, IsKept}
use Rattle.hy_group.specs.Making.{entry_row}
use Rattle.hy_group.proofs.GroupLaws.{flat_last, last_of, own_front, same_order}

-- ---- rows that come

pub received_both : (fed took : List Fed) → received_of (fed ++ took) 0 ≡ received_of fed 0 ++ received_of took 0
received_both fed took = ap (map (λ (x : Fed). x.1)) (filter-append _ fed took) ∙ map-append (λ (x : Fed). x.1) _ _

-- these rows, at the one input
abbrev pub as_fed : List Row → List Fed
as_fed rows = map (λ row. (0, row)) rows

pub received_again : (rows : List Row) → received_of (as_fed rows) 0 ≡ rows
received_again [] = refl
received_again (row ∷ rows) = ap (λ (l : List Row). row ∷ l) (received_again rows)

-- ---- fields of states

state_seen : (s : State) (vs : List Value) → StateStands s vs → fields_of s ≡ state_fields (state_agg s) vs
unfolding state_fields
state_seen (S.CountAll n) vs h = ap halves h
state_seen (S.Count n) vs h = ap halves h
state_seen (S.Sum sum) vs h = ap sum_fields h
state_seen (S.Min v) vs h = ap (λ (w : Value). w ∷ []) h
state_seen (S.Max v) vs h = ap (λ (w : Value). w ∷ []) h

part_seen : (p : Part) (vs : List Value) → Stands p vs → part_fields p ≡ state_fields (agg_of p) vs
unfolding Stands agg_of part_fields
part_seen p vs h = state_seen p.state vs h

states_fields : (made : List AggRex) (rows : List Row) (states : List Part) → AreStates made rows states → state_row made rows ≡ flat_map part_fields states
states_fields [] rows [] h = refl
states_fields [] rows (p ∷ states) h = absurd h
states_fields (a ∷ made) rows [] h = absurd h
states_fields (a ∷ made) rows (p ∷ states) h =
    let own : state_fields (spec.agg_of a) (agg_values a rows) ≡ part_fields p = ap (λ g. state_fields g (agg_values a rows)) (sym h.0.0) ∙ sym (part_seen p (agg_values a rows) h.0.1) in
    (λ i. own i ++ states_fields made rows states h.1 i)

pub fields_are : (nested : Option NestedPlan) (rows : List Row) (states : List Part) → row_sees nested rows states → piece_fields nested rows ≡ flat_map part_fields states
fields_are None rows states h = states_fields [] [] states h
fields_are (Some (Aggregate' made _ (Is p At))) rows states h = states_fields made (fed_to (Some (Aggregate' made _ (Is p At))) rows) states h
fields_are (Some Nested) rows states h = states_fields [] [] states h
fields_are (Some (Assign' made _ (Is p At))) rows states h = states_fields [] [] states h
fields_are (Some (Select' c _ (Is p At))) rows states h = states_fields [] [] states h
fields_are (Some (Project' columns _ (Is p At))) rows states h = states_fields [] [] states h
fields_are (Some (Unnest' g _ (Is p At))) rows states h = states_fields [] [] states h
fields_are (Some (Order' keys _ (Is p At))) rows states h = states_fields [] [] states h
fields_are (Some (Distinct' _ (Is p At))) rows states h = states_fields [] [] states h
fields_are (Some (Limit' m k _ (Is p At))) rows states h = states_fields [] [] states h

-- ---- pieces

module _ (arg : GroupArg) where
  abbrev Kept : Group → Entry → Type 0
  Kept = IsKept (row_sees arg.nested) arg.keys

  abbrev IsPiece : Group → Type 0
  IsPiece g = All (λ r. key_of arg.keys r ≡ key_of arg.keys g.0) g.1

  pub piece_is : (g : Group) (e : Entry) → Kept g e → piece_row arg g ≡ entry_row e
  piece_is g e k = λ i. k.alike.0 i ++ fields_are arg.nested (rows_in g) e.1 k.seen i

  pub is_piece : (g : Group) (e : Entry) → Kept g e → IsPiece g
  is_piece g e k = All-from_recursion (λ r. key_of arg.keys r ≡ key_of arg.keys g.0) g.1 (each g.1 k.alike.1)
    where
      each : (rows : List Row) → AllByRecursion (λ r. key_of arg.keys r ≡ e.0) rows → AllByRecursion (λ r. key_of arg.keys r ≡ key_of arg.keys g.0) rows
      each [] h = tt
      each (r ∷ rows) h = (h.0 ∙ sym k.alike.0, each rows h.1)

  abbrev AreAlike : List Group → Type 0
  AreAlike = AllByRecursion IsPiece

  pub kept_rows : (groups : List Group) (entries : List Entry) → AllZip Kept groups entries → (map (piece_row arg) groups ≡ map entry_row entries) × AreAlike groups
  kept_rows [] [] h = (refl, tt)
  kept_rows [] (e ∷ es) h = absurd h
  kept_rows (g ∷ gs) [] h = absurd h
  kept_rows (g ∷ gs) (e ∷ es) h = let more = kept_rows gs es h.1 in ((λ i. piece_is g e h.0 i ∷ more.0 i), (is_piece g e h.0, more.1))

  both_alike : (gs hs : List Group) → AreAlike gs → AreAlike hs → AreAlike (gs ++ hs)
  both_alike [] hs a b = b
  both_alike (g ∷ gs) hs a b = (a.0, both_alike gs hs a.1 b)

  -- each row a piece
  abbrev alone : Row → Group
  alone row = (row, [])

  flat_alone : (rows : List Row) → flat_map rows_in (map alone rows) ≡ rows
  flat_alone [] = refl
  flat_alone (row ∷ rows) = ap (λ (l : List Row). row ∷ l) (flat_alone rows)

  alike_alone : (rows : List Row) → AreAlike (map alone rows)
  alike_alone [] = tt
  alike_alone (row ∷ rows) = (All-from_recursion (λ r. key_of arg.keys r ≡ key_of arg.keys row) [] tt, alike_alone rows)

  flat_both : (gs hs : List Group) → flat_map rows_in (gs ++ hs) ≡ flat_map rows_in gs ++ flat_map rows_in hs
  flat_both [] hs = refl
  flat_both (g ∷ gs) hs = ap (λ (l : List Row). rows_in g ++ l) (flat_both gs hs) ∙ sym (append_assoc (rows_in g) (flat_map rows_in gs) (flat_map rows_in hs))

  -- one output for all lists for which the groups stand: they themselves, and each row that comes
  pub some_pieces : (entries : List Entry) (took : List Fed) → (rest : List Row) × ((held : List Fed) → GroupsStand arg entries held → pieces_out arg (held ++ took) rest)
  some_pieces entries took =
      let singles = map alone (received_of took 0) in (
        map entry_row entries ++ map (piece_row arg) singles,
        λ held s.
            let kept = kept_rows s.groups entries s.kept in (
              s.groups ++ singles,
              record {
                moved = IsPermutation-trans _ _ _ (same_order _ _ (received_both held took))
                    (IsPermutation-trans _ _ _ (IsPermutation-append_left (received_of took 0) _ _ s.moved)
                    (same_order _ _ (ap (λ (l : List Row). flat_map rows_in s.groups ++ l) (sym (flat_alone (received_of took 0))) ∙ sym (flat_both s.groups singles))));
                alike = All-from_recursion IsPiece (s.groups ++ singles) (both_alike s.groups singles kept.1 (alike_alone (received_of took 0)));
              },
              (λ i. sym kept.0 i ++ map (piece_row arg) singles) ∙ sym (map-append (piece_row arg) s.groups singles),
            ),
      )

  -- with the row of the last group in front, an output without it is one with it
  pub one_made : (es : List Entry) (e : Entry) (took : List Fed) (rest : List Row) → ((held : List Fed) → GroupsStand arg es held → pieces_out arg (held ++ took) rest)
      → (held : List Fed) → GroupsStand arg (es ++ e ∷ []) held → pieces_out arg (held ++ took) (entry_row e ∷ rest)
  one_made es e took rest out held s =
      let last = last_of Kept s.groups es e s.kept in
      let front = flat_map rows_in last.0 in
      let own = rows_in last.1 in
      let less = as_fed front in
      let p = out less (record { groups = last.0; moved = same_order _ _ (received_again front); kept = last.3; apart = own_front es e s.apart }) in
      let whole : IsPermutation (received_of held 0) (front ++ own) = IsPermutation-trans _ _ _ s.moved (same_order _ _ (ap (flat_map rows_in) last.2 ∙ flat_last last.0 last.1)) in
      let others : IsPermutation (front ++ received_of took 0) (flat_map rows_in p.0) =
      IsPermutation-trans _ _ _ (same_order _ _ (sym (received_both less took ∙ ap (λ (l : List Row). l ++ received_of took 0) (received_again front)))) p.1.moved in (
        last.1 ∷ p.0,
        record {
          moved = IsPermutation-trans _ _ _ (same_order _ _ (received_both held took))
              (IsPermutation-trans _ _ _ (IsPermutation-append_left (received_of took 0) _ _ (IsPermutation-trans _ _ _ whole (IsPermutation-append_comm front own)))
              (IsPermutation-trans _ _ _ (same_order _ _ (append_assoc own front (received_of took 0))) (IsPermutation-append_right own _ _ others)));
          alike = All-from_recursion IsPiece (last.1 ∷ p.0) (is_piece last.1 e last.4, recursion_from_All IsPiece p.0 p.1.alike);
        },
        (λ i. sym (piece_is last.1 e last.4) i ∷ p.2 i),
      )

  -- of no row comes no piece
  pub no_pieces : (rest : List Row) → pieces_out arg [] rest → rest ≡ []
  no_pieces rest h = h.2 ∙ ap (map (piece_row arg)) (none h.0 h.1.moved)
    where
      none : (pieces : List Group) → IsPermutation [] (flat_map rows_in pieces) → pieces ≡ []
      none [] m = refl
      none (g ∷ gs) m = absurd (omega (arith, length_permutation _ _ m))

  pub none_are : ArePieces arg.keys [] []
  none_are = record { moved = IsPermutation-refl []; alike = All-from_recursion IsPiece [] tt }

  -- groups of no rows are none
  pub stand_for_none : (held : List Fed) → GroupsStand arg [] held → received_of held 0 ≡ []
  stand_for_none held s = none (received_of held 0) s.groups s.kept s.moved
    where
      none : (rows : List Row) (groups : List Group) → AllZip Kept groups [] → IsPermutation rows (flat_map rows_in groups) → rows ≡ []
      none [] groups k m = refl
      none (row ∷ rows) [] k m = absurd (omega (arith, length_permutation _ _ m))
      none (row ∷ rows) (g ∷ gs) k m = absurd k
