use Rattle.std.proofs.Common.{FitsSigned, rules}
use Rattle.std.specs.Int.{w128}
use Rattle.std.proofs.lemmas.Int.{to_z-of_z}
use Rattle.al_agg.proofs.FieldLaws.{gains_sum, on_err}
use Rattle.al_agg.proofs.part.put_sum.Goals as goal

pub returns-clause-err : goal.returns-clause-err
returns-clause-err c =
    let fits : FitsSigned w128 c.unwrap_or.result = search rules in
    on_err c.put_number.result
    (gains_sum c.args.out.now c.push.new.self c.put_number.new.out c.args.sum c.is_some.result _ c.unwrap_or.result c.in_ok-push.ensures.ok c.is_some.ensures c.unwrap_or.ensures (to_z-of_z w128 c.unwrap_or.result fits))
    c.put_number.ensures.err
