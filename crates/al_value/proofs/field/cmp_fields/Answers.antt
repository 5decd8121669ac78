use Rattle.std.proofs.Common.{rules}
use Rattle.al_value.proofs.FieldLaws.{slice_cmp-field_bytes}
use Rattle.al_value.proofs.field.cmp_fields.Goals as goal

pub returns-clause-order : goal.returns-clause-order
returns-clause-order c = λ v w p q a b. rw (← slice_cmp-field_bytes v w p q, ← a, ← b) (search rules)
