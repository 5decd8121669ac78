use Rattle.al_read_laws.proofs.SmallTexts.{two_tokens, bad_piece, no_tokens, refused_at_end, unread}
use Rattle.al_read_laws.proofs.laws.text_cases.Goals as goal

pub returns-clause-two_tokens : goal.returns-clause-two_tokens
returns-clause-two_tokens c = two_tokens

pub returns-clause-bad_piece : goal.returns-clause-bad_piece
returns-clause-bad_piece c = bad_piece

pub returns-clause-no_tokens : goal.returns-clause-no_tokens
returns-clause-no_tokens c = no_tokens

pub returns-clause-refused : goal.returns-clause-refused
returns-clause-refused c = refused_at_end

pub returns-clause-unread : goal.returns-clause-unread
returns-clause-unread c = unread
