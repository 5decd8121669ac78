-- What `clap` makes of one use of an argument that takes one value, once.
use Rattle.std.proofs.Common.{◌≡◌, ◌∙◌, ◌&&◌, ◌||◌, ℕ, Bool, true, false, refl, sym, ap, List, [], ◌∷◌, ◌++◌, map, Option, Some, None, true≢false, append-nil, if◌then◌else◌}
use Rattle.std.specs.Str.{bytes_eq}
use Rattle.clap.specs.declared.builder.action.ArgAction.TheVariants.{Set}
use Rattle.clap.specs.declared.builder.value_parser.ValueParser.TheVariants as vp
use Rattle.clap.specs.declared.parser.matches.ValueSource.TheVariants.{CommandLine}
use Rattle.clap.specs.declared.error.kind.ErrorKind.TheVariants as kind
use Rattle.clap.specs.Kinds.{Kinds, or_else}
use Rattle.clap.specs.Faults.{settle_fault, use_fault}
use Rattle.clap.specs.Simple.{new_rule}
use Rattle.clap.specs.Walk.{Held, Row, Rule, Text, arg_by_id, at_row, has_row, more_values, reading_by, settled, used, with_values, without}

-- an argument that takes one value, once
abbrev pub one : Text → Option Text → Option ℕ → Bool → Rule
one id long index is_required = record (new_rule id) {
  long = long;
  index = index;
  action = Some Set;
  range = Some (record { start_inclusive = 1; end_inclusive = 1 });
  parser = Some vp.String;
  required = is_required;
}

-- an argument's id and its value
abbrev pub Use : Type 0
Use = Text × Text

abbrev pub row : Use → Row
row u = record { id = u.0; values = u.1 ∷ []; count = None; source = Some CommandLine; reading = reading_by (one u.0 None None false) }

abbrev pub rows : List Use → List Row
rows = map row

abbrev pub has : Text → List Use → Bool
has id us = has_row id (rows us)

-- no argument is used twice, in these uses or those before
abbrev pub NoneTwice : List Use → List Use → Type 0
NoneTwice seen [] = Unit {0}
NoneTwice seen (u ∷ us) = (has u.0 seen ≡ false) × NoneTwice (seen ++ u ∷ []) us

pub or_false : (a b : Bool) → (a || b) ≡ false → (a ≡ false) × (b ≡ false)
or_false false b e = (refl, e)
or_false true b e = absurd (true≢false e)

at_none : (id : Text) (change : Row → List Row) (missing rs : List Row) → has_row id rs ≡ false → at_row id change missing rs ≡ rs ++ missing
at_none id change missing [] e = refl
at_none id change missing (r ∷ rs) e =
    let parts = or_false (bytes_eq r.id id) (has_row id rs) e in
    rw parts.0 (ap (λ xs. r ∷ xs) (at_none id change missing rs parts.1))

map_more : (us vs : List Use) → rows (us ++ vs) ≡ rows us ++ rows vs
map_more [] vs = refl
map_more (u ∷ us) vs = ap (λ rs. row u ∷ rs) (map_more us vs)

-- the first use of an argument adds its row
pub used_once : (id : Text) (long : Option Text) (index : Option ℕ) (q : Bool) (v : Text) (seen : List Use) → has id seen ≡ false
    → used (one id long index q) (v ∷ []) (rows seen) ≡ rows (seen ++ (id, v) ∷ [])
used_once id long index q v seen e =
    let gone : without id (rows seen) ≡ rows seen = at_none id (λ _. []) [] (rows seen) e ∙ append-nil (rows seen) in
    ap (λ rs. with_values id (reading_by (one id long index q)) CommandLine (v ∷ []) rs) gone
    ∙ (at_none id (more_values CommandLine (v ∷ [])) (row (id, v) ∷ []) (rows seen) e ∙ sym (map_more seen ((id, v) ∷ [])))

-- a use is refused where the argument was used before
abbrev pub conflict : Bool → Kinds
conflict again = if again then kind.ArgumentConflict ∷ [] else []

pub use_faults : (id : Text) (long : Option Text) (index : Option ℕ) (q : Bool) (v : Text) (seen : List Use)
    → use_fault false (one id long index q) (v ∷ []) (rows seen) ≡ conflict (has id seen)
use_faults id long index q v seen = go (has id seen)
  where
    go : (b : Bool) → or_else (if b && true then kind.ArgumentConflict ∷ [] else []) [] ≡ conflict b
    go true = refl
    go false = refl

-- ---- the use that is pending

-- the values of an option or a positional word that is pending
abbrev pub pending : Option Use → Option (Text × List Text)
pending None = None
pending (Some u) = Some (u.0, u.1 ∷ [])

abbrev pub uses_in : Option Use → List Use
uses_in None = []
uses_in (Some u) = u ∷ []

abbrev pub holding : List Use → Option (Text × List Text) → Held
holding seen p = record { rows = rows seen; pending = p; skip = 0 }

-- the rules know the argument that is pending
abbrev pub IsKnown : List Rule → Option Use → Type 0
IsKnown rules None = Unit {0}
IsKnown rules (Some u) = (long : Option Text) × (index : Option ℕ) × (q : Bool) × (arg_by_id rules u.0 ≡ Some (one u.0 long index q))

pub settles : (rules : List Rule) (seen : List Use) (p : Option Use) → IsKnown rules p → NoneTwice seen (uses_in p)
    → settled rules (holding seen (pending p)) ≡ holding (seen ++ uses_in p) None
settles rules seen None known once = ap (λ us. holding us None) (sym (append-nil seen))
settles rules seen (Some u) known once =
    rw known.3 (ap (λ (rs : List Row). record { rows = rs; pending = None; skip = 0 }) (used_once u.0 known.0 known.1 known.2 u.1 seen once.0))

pub settles_well : (rules : List Rule) (seen : List Use) (p : Option Use) → IsKnown rules p → NoneTwice seen (uses_in p)
    → settle_fault rules false (holding seen (pending p)) ≡ []
settles_well rules seen None known once = refl
settles_well rules seen (Some u) known once = rw known.3 (use_faults u.0 known.0 known.1 known.2 u.1 seen ∙ ap conflict once.0)

pub no_conflict : (b : Bool) → conflict b ≡ [] → b ≡ false
no_conflict false e = refl
no_conflict true e = elim_nil e
  where
    elim_nil : kind.ArgumentConflict ∷ [] ≡ [] → true ≡ false
    elim_nil f = cc

pub settled_once : (rules : List Rule) (seen : List Use) (p : Option Use) → IsKnown rules p
    → settle_fault rules false (holding seen (pending p)) ≡ [] → NoneTwice seen (uses_in p)
settled_once rules seen None known e = tt
settled_once rules seen (Some u) known e =
    (no_conflict (has u.0 seen) (sym (use_faults u.0 known.0 known.1 known.2 u.1 seen) ∙ (rw known.3 at e)), tt)
