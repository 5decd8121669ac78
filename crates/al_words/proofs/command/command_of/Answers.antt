use Rattle.std.proofs.Common.{ap}
use Rattle.al_words.specs.Usage.{options_given, texts}
use Rattle.al_words.proofs.Asking.{first_word, kind}
use Rattle.al_words.proofs.command.command_of.Goals as goal

pub returns-in-None : goal.returns-in-None
returns-in-None c = λ _ command h.
    c.in-None.ensures (kind command) (first_word (texts c.args.words.now) (options_given c.args.given) command h c.in-Some.word.now.now (texts c.in-Some.arguments.now) (ap texts c.in-Some.ensures.cases.0))
