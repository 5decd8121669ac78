use Rattle.al_words.specs.Usage.{options_in, rows_read, words_in}
use Rattle.al_words.proofs.Asking.{asks_again, asks_one}
use Rattle.al_words.proofs.command.one_command.Goals as goal

pub returns : goal.returns
returns c words first second h g =
    asks_one (words_in (rows_read words)) (options_in (rows_read words)) first second (asks_again words first h) (asks_again words second g)
