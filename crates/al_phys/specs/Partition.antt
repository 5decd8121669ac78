-- The hash of key values, and the partition that it names.
use Rattle.std.specs.Prelude.{ℕ, ◌%◌, List, [], ◌∷◌}
use Rattle.std.specs.List.{flat_map}
use Rattle.al_value.specs.declared.value.Value.{Value}
use Rattle.al_value.specs.Field.{field_bytes}
use Rattle.al_value.specs.Hash.{fnv, fnv_offset}

-- the hash of values at a level: over the byte of the level and the bytes of their fields, in order
unfoldable pub key_hash : ℕ → List Value → ℕ
key_hash level keys = fnv (fnv fnv_offset (level ∷ [])) (flat_map field_bytes keys)

-- the partition, of this many, of a row with these key values
abbrev pub partition_of : ℕ → List Value → ℕ
partition_of partitions keys = key_hash 0 keys % partitions
