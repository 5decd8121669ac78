use Rattle.std.proofs.Common.{◌≡◌, ◌++◌, Some, inl, inr, refl}
use Rattle.al_io.specs.Outside.{GainsPrefix}
use Rattle.al_query.specs.declared.status.Status.TheVariants as St
use Rattle.al_words.specs.declared.command.Command.TheVariants as C
use Rattle.al_query.proofs.Steps.{generated_done, generated_part, generated_stop, idle_of, in_range, told_due_of, told_usage, told_wrote, unserved, usage_of}
use Rattle.al_query.proofs.command.serve.Goals as goal

pub command_text-requires : goal.command_text-requires
command_text-requires g c = in_range _ c.in-Ok.command c.in-Ok.ensures

pub returns-in-Err-Usage-clause-usage : goal.returns-in-Err-Usage-clause-usage
returns-in-Err-Usage-clause-usage g c = λ e d is. absurd (c.in-Err-Usage.ensures c.in-Err-Usage.field-0-is d is)

pub returns-in-Err-Usage-clause-cause : goal.returns-in-Err-Usage-clause-cause
returns-in-Err-Usage-clause-cause g c = told_usage _ _ (c.in-Err-Usage.ensures c.in-Err-Usage.field-0-is)

pub returns-in-Err-clause-usage : goal.returns-in-Err-clause-usage
returns-in-Err-clause-usage g c = usage_of _ c.in-Ok.command c.in-Err.status c.one_command.ensures c.in-Ok.ensures c.in-Err.ensures.usage

pub returns-in-Err-clause-cause : goal.returns-in-Err-clause-cause
returns-in-Err-clause-cause g c = told_due_of _ _ c.in-Ok.command c.in-Err.status (c.one_command.ensures _) c.in-Ok.ensures c.in-Err.ensures.tells

pub returns-in-Err-clause-idle : goal.returns-in-Err-clause-idle
returns-in-Err-clause-idle g c =
    idle_of _ c.in-Ok.command c.in-Err.status _ c.one_command.ensures c.in-Ok.ensures (unserved c.in-Ok.command c.in-Err.status c.in-Err.ensures.usage) c.in-Err.ensures.idle

pub returns-in-Ok-write_whole-clause-done : goal.returns-in-Ok-write_whole-clause-done
returns-in-Ok-write_whole-clause-done g c =
    λ e. told_wrote _ _ _ c.in-Ok.command c.in-Ok-command_text.text (λ was text. g.K.Sink.written c.write_whole.new.sink ≡ Some (was ++ text)) c.in-Ok.ensures c.in-Ok-command_text.ensures.tells (rw c.as_slice.ensures at c.in-Ok-write_whole.ensures.ok)

pub returns-in-Ok-write_whole-clause-idle : goal.returns-in-Ok-write_whole-clause-idle
returns-in-Ok-write_whole-clause-idle g c = idle_of _ c.in-Ok.command St.Done _ c.one_command.ensures c.in-Ok.ensures (λ e. cc) c.in-Ok-command_text.ensures.idle

pub returns-clause-sink_part : goal.returns-clause-sink_part
returns-clause-sink_part g c =
    λ e. told_wrote _ _ _ c.in-Ok.command c.in-Ok-command_text.text (λ was text. GainsPrefix was text (g.K.Sink.written c.write_whole.new.sink)) c.in-Ok.ensures c.in-Ok-command_text.ensures.tells (rw c.as_slice.ensures at c.in-Err-write_whole.ensures.err)

pub returns-clause-idle : goal.returns-clause-idle
returns-clause-idle g c = idle_of _ c.in-Ok.command St.SinkFault _ c.one_command.ensures c.in-Ok.ensures (λ e. cc) c.in-Ok-command_text.ensures.idle

pub returns-in-Err-clause-generates : goal.returns-in-Err-clause-generates
returns-in-Err-clause-generates g c seed rows is =
    generated_stop c.in-Ok.command c.in-Err.status seed rows _ _ (c.one_command.ensures _ c.in-Ok.command (C.Gen seed rows) c.in-Ok.ensures is) c.in-Err.ensures.generates

pub returns-in-Ok-write_whole-clause-generates : goal.returns-in-Ok-write_whole-clause-generates
returns-in-Ok-write_whole-clause-generates g c seed rows is =
    generated_done c.in-Ok.command c.in-Ok-command_text.text seed rows _ _ (c.one_command.ensures _ c.in-Ok.command (C.Gen seed rows) c.in-Ok.ensures is) c.in-Ok-command_text.ensures.generates
    (rw c.as_slice.ensures at c.in-Ok-write_whole.ensures.ok)

pub returns-clause-generates : goal.returns-clause-generates
returns-clause-generates g c seed rows is =
    generated_part c.in-Ok.command c.in-Ok-command_text.text seed rows _ _ (c.one_command.ensures _ c.in-Ok.command (C.Gen seed rows) c.in-Ok.ensures is) c.in-Ok-command_text.ensures.generates
    (rw c.as_slice.ensures at c.in-Err-write_whole.ensures.err)
