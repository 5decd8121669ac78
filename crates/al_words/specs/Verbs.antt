-- The words that name commands.
use Rattle.std.specs.Prelude.{codes}
use Rattle.al_words.specs.Words.{Bytes}
use Rattle.al_words.specs.declared.verb.Verb.{Verb}
use Rattle.al_words.specs.declared.verb.Verb.TheVariants as V

abbrev pub spelled : Verb → Bytes
spelled V.Check = codes "check"
spelled V.Explain = codes "explain"
spelled V.Plain = codes "plain"
spelled V.Step = codes "step"
spelled V.Run = codes "run"
spelled V.Gen = codes "gen"
spelled V.Drill = codes "drill"
spelled V.Frames = codes "frames"
