use Rattle.al_query.proofs.Steps.{told_checked, told_explained, told_plain, told_step}
use Rattle.al_query.proofs.command.command_text.Goals as goal

pub returns-in-Check-clause-tells : goal.returns-in-Check-clause-tells
returns-in-Check-clause-tells g c = told_checked _ c.args.command.now c.in-Check.plan c.as_str.result.now c.printed.result c.in-Check.is c.as_str.ensures.bytes c.printed.ensures.tells

pub returns-in-Plain-clause-tells : goal.returns-in-Plain-clause-tells
returns-in-Plain-clause-tells g c = told_plain _ c.args.command.now c.in-Plain.plan c.as_str-in-Plain.result.now c.answer.result c.in-Plain.is c.as_str-in-Plain.ensures.bytes c.answer.ensures.tells

pub returns-in-Step-clause-tells : goal.returns-in-Step-clause-tells
returns-in-Step-clause-tells g c =
    told_step _ c.args.command.now c.in-Step.plan c.as_str-in-Step.result.now c.in-Step.settings c.in-Step.schedule c.answer-in-Step.result c.in-Step.is c.as_str-in-Step.ensures.bytes c.answer-in-Step.ensures.tells

pub returns-in-Explain-clause-tells : goal.returns-in-Explain-clause-tells
returns-in-Explain-clause-tells g c = told_explained _ c.args.command.now c.in-Explain.plan c.as_str-in-Explain.result.now c.in-Explain.partitions c.explained.result c.in-Explain.is c.as_str-in-Explain.ensures.bytes c.explained.ensures.tells
