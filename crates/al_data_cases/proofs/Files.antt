-- What fields and records hold, computed.
use Rattle.std.proofs.Common.{refl}
use Rattle.al_csv.specs.Fields.{number_of}
use Rattle.al_csv.specs.Records.{all_ok}
use Rattle.al_data_cases.specs.FileCases.{FieldsOfKinds, RowsOfRecords}

pub fields_of_kinds : FieldsOfKinds
unfolding number_of
fields_of_kinds = record {
  number = refl;
  with_plus = refl;
  with_minus = refl;
  no_number = refl;
  sign_alone = refl;
  greatest = refl;
  too_great = refl;
  least = refl;
  word = refl;
  no_word = refl;
  empty = λ kind. refl;
}

pub rows_of_records : RowsOfRecords
unfolding number_of all_ok
rows_of_records = record { none = refl; two_rows = refl; bad_field = refl; first_field = refl; bad_count = refl }
