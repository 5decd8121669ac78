-- The fields of states one state further.
use Rattle.std.proofs.Common.{◌≡◌, ◌<◌, ◌≤◌, ◌+◌, ℕ, List, [], ◌∷◌, ◌++◌, flat_map, length, take, get_or, sym, ap, ◌∙◌, append_assoc, append-nil}
use Rattle.std.proofs.lemmas.List.{take_all}
use Rattle.std.proofs.lemmas.Grind.{flat_map-append}
use Rattle.al_agg.specs.declared.part.Part.{Part}
use Rattle.al_agg.specs.Part.{part_fields}
use Rattle.hy_job.specs.Columns.{Row}
use Rattle.hy_job.proofs.RowLaws.{upto}

pub fields_first : (first : Row) (states : List Part) → first ≡ first ++ flat_map part_fields (take 0 states)
fields_first first states = sym (append-nil first)

pub fields_next : (first row row' : Row) (states : List Part) (j : ℕ) (p : Part) → j < length states → p ≡ get_or states j p → row ≡ first ++ flat_map part_fields (take j states) → row' ≡ row ++ part_fields p → row' ≡ first ++ flat_map part_fields (take (j + 1) states)
fields_next first row row' states j p low at is put =
    put ∙ ap (λ (r : Row). r ++ part_fields p) is ∙ append_assoc first (flat_map part_fields (take j states)) (part_fields p)
    ∙ ap (λ (r : Row). first ++ r) (ap (λ (r : Row). flat_map part_fields (take j states) ++ r) (sym (append-nil (part_fields p))) ∙ sym (flat_map-append part_fields (take j states) (p ∷ [])) ∙ ap (flat_map part_fields) (upto states j p low at))

pub fields_all : (first row : Row) (states : List Part) (j : ℕ) → length states ≤ j → row ≡ first ++ flat_map part_fields (take j states) → row ≡ first ++ flat_map part_fields states
fields_all first row states j low is = is ∙ ap (λ (l : List Part). first ++ flat_map part_fields l) (take_all j states low)

pub ruleset put_laws = (fields_first, fields_next, fields_all)
