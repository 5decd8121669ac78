use Rattle.std.proofs.Common.{◌≡◌, rules}
use Rattle.al_agg.specs.Part.{state_agg, fields_of, Stands}
use Rattle.al_agg.proofs.FieldLaws.{IsStored, lists_at}
use Rattle.al_agg.proofs.part.get_part.Goals.{in-CountAll+in_ok-get_number-in-CountAll, in-Count+in_ok-get_number-in-Count, in-Sum+in_ok-get_sum-in-Sum, in-Min+in_ok-get_value-in-Min, in-Max+in_ok-get_value-in-Max}
use Rattle.al_agg.proofs.part.get_part.Goals as goal

pub returns-clause-lists : goal.returns-clause-lists
unfolding Stands
returns-clause-lists c =
    let stored : IsStored c.match-a.state =
    elim c.match-a.branch [
      | in-CountAll+in_ok-get_number-in-CountAll w ↦ search rules
      | in-Count+in_ok-get_number-in-Count w ↦ search rules
      | in-Sum+in_ok-get_sum-in-Sum w ↦ search rules
      | in-Min+in_ok-get_value-in-Min w ↦ search rules
      | in-Max+in_ok-get_value-in-Max w ↦ search rules
    ] in
    let is : state_agg c.match-a.state ≡ c.args.a =
    elim c.match-a.branch [
      | in-CountAll+in_ok-get_number-in-CountAll w ↦ search rules
      | in-Count+in_ok-get_number-in-Count w ↦ search rules
      | in-Sum+in_ok-get_sum-in-Sum w ↦ search rules
      | in-Min+in_ok-get_value-in-Min w ↦ search rules
      | in-Max+in_ok-get_value-in-Max w ↦ search rules
    ] in
    let has : fields_of c.match-a.state ≡ c.args.fields.now =
    elim c.match-a.branch [
      | in-CountAll+in_ok-get_number-in-CountAll w ↦ search rules
      | in-Count+in_ok-get_number-in-Count w ↦ search rules
      | in-Sum+in_ok-get_sum-in-Sum w ↦ search rules
      | in-Min+in_ok-get_value-in-Min w ↦ search rules
      | in-Max+in_ok-get_value-in-Max w ↦ search rules
    ] in
    λ vs. lists_at c.match-a.state c.args.a c.args.fields.now vs stored is has
