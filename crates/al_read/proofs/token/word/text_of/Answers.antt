use Rattle.al_read.proofs.WordLaws.{text_given}
use Rattle.al_read.proofs.token.word.text_of.Goals as goal

pub returns : goal.returns
returns c = rw c.ok.ensures.value (text_given c.from_utf8.result c.args.bytes.now _ c.from_utf8.ensures.cases)
