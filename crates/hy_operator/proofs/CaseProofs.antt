-- The worked cases of operators.
use Rattle.std.proofs.Common.{◌≡◌, ◌<◌, ◌≤◌, ℕ, true, false, Option, Some, None, List, [], ◌∷◌, length, refl, ap, arith}
use Rattle.std.specs.List.{All, AllByRecursion}
use Rattle.std.proofs.lemmas.List.Elements.{All-from_recursion, recursion_from_All}
use Rattle.hy_frame.specs.Row.{Fields}
use Rattle.hy_driver.specs.Forms.{one_ended}
use Rattle.hy_driver.specs.Rows.{Row}
use Rattle.hy_driver.specs.Seen.{Check}
use Rattle.hy_driver.proofs.Forms.{all_ended}
use Rattle.hy_job.specs.declared.job.Kind.TheVariants as K
use Rattle.hy_stream.specs.Source.{nothing_out, one_row, source_fixed}
use Rattle.hy_stream.proofs.SourceLaws.{one_owed, source_new}
use Rattle.hy_operator.specs.Begins.{Begins, IsFixed, width_at}
use Rattle.hy_operator.specs.Kinds.{StandsBeside, Suits}
use Rattle.hy_operator.specs.Cases.{ChecksAreNamed, DistinctIsHandedKeys, EachIsGivenItsOwn, FirstOnesHandOn, KindsAreTold, ListedIfThere, OneBeginsInFirst, RowsAreHanded, ProjectSuits, SettingsAreKept, TurnsAreCounted, UnionSuits, WantedIsThere, handed_of, shape_of, two_partitions}
use Rattle.hy_operator.proofs.Making.{none_goes, none_wide}

pub each_is_given : EachIsGivenItsOwn
each_is_given = (refl, refl, refl, refl, refl, refl, refl)

pub first_ones_hand_on : FirstOnesHandOn
first_ones_hand_on = (refl, refl, refl, refl, refl, refl)

pub wanted_is_there : WantedIsThere
wanted_is_there = (refl, λ h. absurd (omega (arith, h)), λ h. h, tt, λ h. h)

pub rows_are_handed : RowsAreHanded
rows_are_handed field = (
  record { fit = All-from_recursion (λ (row : Fields). length row ≡ 1) ((field ∷ []) ∷ (field ∷ []) ∷ []) (refl, (refl, tt)); frames = refl; runs = refl },
  λ h. (let all = recursion_from_All (λ (row : Fields). length row ≡ 2) ((field ∷ []) ∷ []) h.fit in let two : 1 ≡ 2 = all.0 in absurd (omega (arith, two))),
  λ h. (let none : 1 ≡ 0 = ap (λ (runs : List ℕ). length runs) h.runs in absurd (omega (arith, none))),
)

pub distinct_is_handed_keys : DistinctIsHandedKeys
distinct_is_handed_keys = (refl, λ h. absurd (omega (arith, h)), tt)

pub project_suits : ProjectSuits
project_suits = (
  record {
    widths = record { taken = width_at (shape_of 2 0 0 1); handed = 0; built = 0 };
    left = refl;
    right = refl;
    handed = refl;
    fits = record { in_range = (omega arith, tt); nested = tt; pairs = tt; states = tt; groups = tt; wide = refl; narrow = omega arith };
  },
  λ h. (let two = h.fits.wide in absurd (omega (arith, two))),
  λ h. (let one = h.left in let two = h.fits.in_range.0 in absurd (omega (arith, one, two))),
)

pub union_suits : UnionSuits
union_suits = (
  record {
    widths = record { taken = width_at (shape_of 3 1 0 1); handed = 0; built = 0 };
    left = refl;
    right = refl;
    handed = refl;
    fits = record { in_range = ((omega arith, tt), (omega arith, tt)); nested = tt; pairs = tt; states = tt; groups = tt; wide = (refl, refl); narrow = omega arith };
  },
  λ h. (let one = h.left in let two = h.fits.in_range.0.0 in absurd (omega (arith, one, two))),
  refl,
  refl,
)

one_made : IsFixed K.One two_partitions (shape_of 0 0 0 0) 0 (source_fixed 256 3 0)
one_made = record { unit = refl; memory = refl; cost = refl; width = none_wide (λ input. 0) (shape_of 0 0 0 0); arity = refl; check = refl }

pub one_begins : OneBeginsInFirst
one_begins = (
  record {
    new = source_new _ true (one_row true) (one_row true) refl;
    sound = λ e. tt;
    inputs_go = none_goes (one_ended true) all_ended;
    made = one_made;
    stored = refl;
  },
  λ h. (let none = (h.new.rest tt [] ([] ∷ [])).0 (tt, record { rest = []; output = refl; is = refl }) in
      let zero = ap (λ (rows : List Row). length rows) none.1 in absurd (omega (arith, zero))),
)

pub turns_are_counted : TurnsAreCounted
turns_are_counted = (refl, refl, refl, refl)

pub kinds_are_told : KindsAreTold
kinds_are_told = (refl, refl, refl, refl, refl)

pub listed_if_there : ListedIfThere
listed_if_there = (refl, refl)

abbrev first_of_name : Option Check → ℕ
first_of_name (Some ((x ∷ xs), test)) = x
first_of_name _ = 0

pub checks_are_named : ChecksAreNamed
checks_are_named = (refl, λ h. (let same : 7 ≡ 8 = ap first_of_name h in absurd (omega (arith, same))), refl)

pub settings_are_kept : SettingsAreKept
settings_are_kept = (one_made, λ h. (let size : 512 ≡ 256 = h.unit in absurd (omega (arith, size))))
