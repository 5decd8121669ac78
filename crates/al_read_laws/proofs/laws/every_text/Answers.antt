use Rattle.al_read_laws.proofs.AllTokens.{tokens_or_bad}
use Rattle.al_read_laws.proofs.AllTexts.{reading_or_refusal}
use Rattle.al_read_laws.proofs.laws.every_text.Goals as goal

pub returns-clause-tokens : goal.returns-clause-tokens
returns-clause-tokens c = tokens_or_bad

pub returns-clause-answer : goal.returns-clause-answer
returns-clause-answer c = reading_or_refusal
