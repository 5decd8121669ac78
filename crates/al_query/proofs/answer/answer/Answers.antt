use Rattle.std.proofs.Common.{sym, subst, Ok, Err}
use Rattle.al_value.specs.Outside.{Told}
use Rattle.al_query.specs.Tells.{TellsData, TellsEvaluated}
use Rattle.al_query.proofs.Steps.{told_data_stopped, told_evaluated, told_plan_stopped}
use Rattle.al_query.proofs.answer.answer.Goals as goal

pub returns-in-Err-load_all-clause-tells : goal.returns-in-Err-load_all-clause-tells
returns-in-Err-load_all-clause-tells g c =
    told_data_stopped _ _ c.args.name.now c.in-Ok.boxed c.get-file.result.now c.in-Err-load_all.status c.in-Ok.ensures.files (sym c.get-file.ensures) c.in-Ok.ensures.tells
    (subst (λ ds. Told (g.S.Source.files c.read_accepted.new.source) (λ fs. TellsData fs ds (Err c.in-Err-load_all.status))) c.as_slice.ensures c.in-Err-load_all.ensures.tells)

pub returns-clause-tells : goal.returns-clause-tells
returns-clause-tells g c =
    told_evaluated _ _ c.args.name.now c.in-Ok.boxed c.get-file.result.now c.in-Ok-load_all.sets c.answer_text.result c.in-Ok.ensures.files (sym c.get-file.ensures) c.in-Ok.ensures.tells
    (subst (λ ds. Told (g.S.Source.files c.read_accepted.new.source) (λ fs. TellsData fs ds (Ok c.in-Ok-load_all.sets))) c.as_slice.ensures c.in-Ok-load_all.ensures.tells)
    (subst (λ sets. TellsEvaluated c.get-file.result.now sets c.answer_text.result) c.as_slice-2.ensures c.answer_text.ensures.tells)
