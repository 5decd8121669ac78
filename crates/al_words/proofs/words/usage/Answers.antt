use Rattle.std.proofs.Common.{◌∙◌, ap, codes, true, false}
use Rattle.std.proofs.lemmas.Result.{IfOk-weaker}
use Rattle.clap.specs.Simple.{App, with_rule}
use Rattle.al_words.specs.Usage.{option_rule, usage_app, word_rule}
use Rattle.al_words.proofs.words.usage.Goals as goal

pub returns : goal.returns
unfolding usage_app
returns c =
    let command = c.in_ok-command.ensures ∙ ap (λ (a : App). with_rule a (word_rule (codes "command") true)) c.bare_usage-bare.ensures in
    let first = c.in_ok-first.ensures ∙ ap (λ (a : App). with_rule a (word_rule (codes "first") false)) command in
    let second = c.in_ok-second.ensures ∙ ap (λ (a : App). with_rule a (word_rule (codes "second") false)) first in
    let third = c.in_ok-third.ensures ∙ ap (λ (a : App). with_rule a (word_rule (codes "third") false)) second in
    let partitions = c.in_ok-partitions.ensures ∙ ap (λ (a : App). with_rule a (option_rule (codes "partitions"))) third in
    let frame_size = c.in_ok-frame_size.ensures ∙ ap (λ (a : App). with_rule a (option_rule (codes "frame-size"))) partitions in
    let memory = c.in_ok-memory.ensures ∙ ap (λ (a : App). with_rule a (option_rule (codes "memory"))) frame_size in
    let workers = c.in_ok-workers.ensures ∙ ap (λ (a : App). with_rule a (option_rule (codes "workers"))) memory in
    IfOk-weaker c.with_option-5.result _ _ (λ m h. h ∙ ap (λ (a : App). with_rule a (option_rule (codes "schedule"))) workers) c.with_option-5.ensures
