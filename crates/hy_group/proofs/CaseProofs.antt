-- The worked cases of groups.
use Rattle.std.proofs.Common.{◌≡◌, ◌≢◌, List, [], ◌∷◌, ◌++◌, flat_map, None, refl, sym, ap, ◌∙◌, inl, inr, arith, length, append-nil}
use Rattle.std.specs.List.{AllZip}
use Rattle.std.specs.List.Sorted.{IsPermutation}
use Rattle.std.proofs.lemmas.List.Sorted.{length_permutation}
use Rattle.std.proofs.lemmas.Slice.Zip.{AllZip-long}
use Rattle.al_value.specs.declared.value.Value.TheVariants as V
use Rattle.al_agg.specs.declared.agg.Agg.TheVariants as A
use Rattle.al_agg.specs.declared.state.State.TheVariants as S
use Rattle.al_agg.specs.Part as part
use Rattle.al_agg.specs.Part.{part_fields}
use Rattle.hy_job.specs.Columns.{Group, Row, key_of, rows_in}
use Rattle.hy_job.specs.StateCases.{part_of_state}
use Rattle.hy_job.proofs.FreeLaws.{IsPermutation-one, IsPermutation-turn}
use Rattle.hy_group.specs.Cases.{GroupsAreGivenOnce, GroupsHaveOwnKeys, GroupsStandForRows, NullIsOneGroup, OthersAreNew, EachAggregateHasState, StatesStandBehindKeys, alone, int_row, null_row, two_groups}
use Rattle.hy_group.specs.Emit.{AreGiven, IsFinished, IsGiven}
use Rattle.hy_group.specs.Fresh.{row_sees}
use Rattle.hy_group.specs.Groups.{Added, Entry, IsKept}

pub null_is_one : NullIsOneGroup
unfolding Added
null_is_one new = (
  λ added. elim added [
    | inl here ↦ here.1.2 ∙ ap (λ states. (null_row, states) ∷ []) here.1.1.fit
    | inr there ↦ absurd (there.0 refl)
  ],
  λ is. inl (refl, ([], record { more = λ rows h. h; fit = refl }, is)),
)

other : null_row ≢ int_row 3
other same = absurd (cc)

pub others_are_new : OthersAreNew
unfolding Added
others_are_new new = (
  λ added. elim added [
    | inl here ↦ absurd (other here.0)
    | inr there ↦ there.1.2 ∙ ap (λ es. alone null_row ∷ es) (there.1.1.3 ∙ ap (λ states. (int_row 3, states) ∷ []) there.1.1.2)
  ],
  λ is. inr (other, (alone (int_row 3) ∷ [], ([], tt, refl, refl), is)),
)

abbrev Kept : Group → Entry → Type 0
Kept = IsKept (row_sees None) (0 ∷ [])

one_of : (groups : List Group) → AllZip Kept groups (alone null_row ∷ []) → IsPermutation (int_row 3 ∷ []) (flat_map rows_in groups) → ⊥
one_of [] k m = absurd k
one_of (g ∷ []) k m =
    let rows : rows_in g ++ [] ≡ int_row 3 ∷ [] = IsPermutation-one (int_row 3) (rows_in g ++ []) m in
    let first : g.0 ≡ int_row 3 = cc in
    let key : key_of (0 ∷ []) (int_row 3) ≡ null_row = ap (key_of (0 ∷ [])) (sym first) ∙ k.0.alike.0 in
    absurd (other (sym key))
one_of (g ∷ h ∷ groups) k m = absurd k.1

none_of : (groups : List Group) → AllZip Kept groups (alone null_row ∷ []) → IsPermutation [] (flat_map rows_in groups) → ⊥
none_of [] k m = absurd k
none_of (g ∷ groups) k m = absurd (omega (arith, length_permutation _ _ m))

pub stand_for_rows : GroupsStandForRows
stand_for_rows = (
  record {
    groups = (null_row, []) ∷ (int_row 3, int_row 3 ∷ []) ∷ [];
    moved = IsPermutation-turn (int_row 3) null_row (int_row 3 ∷ []);
    kept = (record { alike = (refl, tt); seen = tt }, (record { alike = (refl, (refl, tt)); seen = tt }, tt));
    apart = ((other, tt), (tt, tt));
  },
  λ s. one_of s.groups s.kept s.moved,
  λ s. none_of s.groups s.kept s.moved,
)

pub own_keys : GroupsHaveOwnKeys
own_keys rows s = s.apart.0.0 refl

pub behind_keys : StatesStandBehindKeys
unfolding part_fields
behind_keys = refl

-- ---- groups that are given

heads : (a b : Row) → a ∷ [] ≡ b ∷ [] → a ≡ b
heads a b same = cc

is_alone : (row : Row) → IsGiven (alone row) row
is_alone row = record { values = []; each = tt; is = sym (append-nil row) }

-- as many rows as groups
as_many : (entries : List Entry) (put : List Row) → AreGiven entries put → length put ≡ length entries
as_many entries put h = length_permutation h.made put h.moved ∙ AllZip-long IsGiven entries h.made h.each

key_alone : (row given : Row) → IsGiven (alone row) given → given ≡ row
key_alone row given h = h.is ∙ ap (λ values. row ++ values) (none h.values h.each) ∙ append-nil row
  where
    none : (values : Row) → AllZip IsFinished [] values → values ≡ []
    none [] h = refl
    none (v ∷ values) h = absurd h

pub groups_are_given_once : GroupsAreGivenOnce
groups_are_given_once = (
  record { made = null_row ∷ int_row 3 ∷ []; each = (is_alone null_row, (is_alone (int_row 3), tt)); moved = IsPermutation-turn null_row (int_row 3) [] },
  (λ h. let many : 1 ≡ 2 = as_many two_groups (null_row ∷ []) h in omega (arith, many)),
  (λ h. let many : 3 ≡ 2 = as_many two_groups (int_row 3 ∷ null_row ∷ null_row ∷ []) h in omega (arith, many)),
  λ h. one h.made h.each h.moved,
)
  where
    one : (made : List Row) → AllZip IsGiven (alone null_row ∷ []) made → IsPermutation made (int_row 3 ∷ []) → ⊥
    one [] each moved = absurd each
    one (row ∷ []) each moved = let same = key_alone null_row row each.0 in other (sym same ∙ heads row (int_row 3) (sym (IsPermutation-one row (int_row 3 ∷ []) moved)))
    one (row ∷ more ∷ rows) each moved = absurd each.1

pub each_aggregate_has_state : EachAggregateHasState
each_aggregate_has_state rows = (tt, (λ h. h), λ h. h)
