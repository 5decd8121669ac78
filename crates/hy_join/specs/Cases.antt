-- Worked cases of what contracts see of joins.
use Rattle.std.specs.Prelude.{pos, ◌≡◌, ◌≢◌, ℕ, nat_eq, Bool, true, false, List, [], ◌∷◌, length, Some, None}
use Rattle.al_func.specs.declared.rex.Rex.TheVariants as R
use Rattle.al_value.specs.declared.value.Value.TheVariants as V
use Rattle.hy_frame.specs.Row.{Fields}
use Rattle.hy_store.specs.Fields.{fields_of}
use Rattle.hy_driver.specs.Rows.{Row, Fed}
use Rattle.hy_driver.specs.Cases.{int_row}
use Rattle.hy_job.specs.declared.job.JoinArg.{JoinArg}
use Rattle.hy_job.specs.Columns.{key_hash}
use Rattle.hy_join.specs.Build.{in_any_order}
use Rattle.hy_join.specs.Fields.{is_null_field}
use Rattle.hy_join.specs.Keys.{hash_of, partners, places_from}
use Rattle.hy_join.specs.Probe.{owed_of, turns_of}

-- ---- builds

abbrev pub as_kept : List Fed → List Row → Type 0
as_kept took put = put ≡ int_row 1 ∷ int_row 2 ∷ []

-- a build whose input goes on may hand on its rows in any order, but not fewer; one whose input has ended as it kept them
abbrev pub FreeUntilTheEnd : Type 0
FreeUntilTheEnd = in_any_order false as_kept [] (int_row 2 ∷ int_row 1 ∷ []) × (in_any_order false as_kept [] (int_row 2 ∷ []) → ⊥)
    × in_any_order true as_kept [] (int_row 1 ∷ int_row 2 ∷ []) × (in_any_order true as_kept [] (int_row 2 ∷ int_row 1 ∷ []) → ⊥)

-- ---- probes

-- the fields of NULL, of nothing, and of FALSE
abbrev pub FieldsOfNull : Type 0
FieldsOfNull = (is_null_field (0 ∷ []) ≡ true) × (is_null_field [] ≡ true) × (is_null_field (1 ∷ []) ≡ false)

-- a left join on the first columns, with this beside them
abbrev pub on_first : Bool → JoinArg
on_first rest = record { left = 0 ∷ []; right = 0 ∷ []; rest = R.Lit (V.Bool rest); outer = true }

abbrev pub fields_at : ℕ → Fields
fields_at n = fields_of (int_row n)

-- the right rows 1, 2 and 1
abbrev pub three_rights : List Fields
three_rights = fields_at 1 ∷ fields_at 2 ∷ fields_at 1 ∷ []

abbrev pub pair_of_ones : Row
pair_of_ones = V.Int (pos 1) ∷ V.Int (pos 1) ∷ []

abbrev pub alone_one : Row
alone_one = V.Int (pos 1) ∷ V.Null ∷ []

-- what the left row 1 owes of them from a place on
abbrev pub one_owes : Bool → ℕ → List Row
one_owes alone place = owed_of (on_first true) 2 three_rights (fields_at 1) true alone place

-- two pairs, and not itself beside them; one pair behind the first; nothing where it isn't at hand
abbrev pub OwesPairs : Type 0
OwesPairs = (one_owes true 0 ≡ pair_of_ones ∷ pair_of_ones ∷ []) × (one_owes true 0 ≢ pair_of_ones ∷ pair_of_ones ∷ alone_one ∷ []) × (one_owes false 1 ≡ pair_of_ones ∷ [])
    × (owed_of (on_first true) 2 three_rights (fields_at 1) false true 0 ≡ [])

-- behind the last right row itself, where it found no partner, and else nothing
abbrev pub OwesItselfAlone : Type 0
OwesItselfAlone = (one_owes true 3 ≡ alone_one ∷ []) × (one_owes false 3 ≡ [])

-- NULL has no partner in NULL
abbrev pub NullOwesItself : Type 0
NullOwesItself = owed_of (on_first true) 2 (fields_of (V.Null ∷ []) ∷ fields_at 1 ∷ []) (fields_of (V.Null ∷ [])) true true 0 ≡ (V.Null ∷ V.Null ∷ []) ∷ []

-- rows with equal keys are no partners where the rest of the condition is FALSE
abbrev pub RestDecides : Type 0
RestDecides = (owed_of (on_first false) 2 three_rights (fields_at 1) true true 0 ≡ alone_one ∷ []) × (owed_of (on_first false) 2 three_rights (fields_at 1) true true 0 ≢ pair_of_ones ∷ pair_of_ones ∷ [])

-- a turn for each right row that is still to come, and one to leave
abbrev pub PairsBringTurns : Type 0
PairsBringTurns = (turns_of three_rights true 0 ≡ 4) × (turns_of three_rights true 3 ≡ 1) × (turns_of three_rights false 0 ≡ 0)

-- ---- partners

-- a row with a NULL among its keys has no hash, and any other has that of its keys
abbrev pub NullHasNoHash : Type 0
NullHasNoHash = (hash_of (0 ∷ 1 ∷ []) (V.Int (pos 1) ∷ V.Null ∷ []) ≡ None) × (hash_of (0 ∷ []) (V.Int (pos 1) ∷ V.Null ∷ []) ≡ Some (key_hash 1 (int_row 1))) × (hash_of (0 ∷ []) (int_row 1) ≢ None)

abbrev pub is_single : Fields → Bool
is_single row = nat_eq (length row) 1

-- rows of one, no and one field; those of one field are counted from where the count begins
abbrev pub PlacesAreCounted : Type 0
PlacesAreCounted = (places_from is_single 0 (fields_at 1 ∷ [] ∷ fields_at 2 ∷ []) ≡ 0 ∷ 2 ∷ []) × (places_from is_single 5 (fields_at 1 ∷ [] ∷ fields_at 2 ∷ []) ≡ 5 ∷ 7 ∷ [])

-- without an index all rows may be met; with one none by a left row without a hash, and none with a NULL by any
abbrev pub PartnersHaveHashes : Type 0
PartnersHaveHashes = (partners false (0 ∷ []) None three_rights ≡ three_rights) × (partners true (0 ∷ []) None three_rights ≡ [])
    × ((hash : ℕ) → partners true (0 ∷ []) (Some hash) (fields_of (V.Null ∷ []) ∷ []) ≡ [])
