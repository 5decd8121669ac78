use Rattle.al_read.proofs.StringLaws.{no_text, not_too_long, some_text}
use Rattle.al_read.proofs.token.string.text_of.Goals as goal

pub returns-in_default : goal.returns-in_default
returns-in_default c = no_text c.args.bytes.now c.in_default.ensures.cases.0

pub returns-in-Ok-new : goal.returns-in-Ok-new
returns-in-Ok-new c = some_text c.args.bytes.now c.in-Ok.text.now c.in-Ok-new.text c.in-Ok-new.ensures.value c.in-Ok.ensures.cases.0 c.in-Ok.ensures.cases.1 (not_too_long c.in-Ok-new.text _ c.in-Ok-new.ensures.too_long)
