use Rattle.std.proofs.Common.{◌≡◌, ◌≤◌, length, vec_capacity}
use Rattle.crossbeam_queue.specs.Passes.{IsPassOf, view}
use Rattle.hy_mail.specs.Mails.{IsMaker}
use Rattle.hy_mail.specs.Passes.{AreFreshBy}
use Rattle.hy_mail.specs.Tokens.{id_of}
use Rattle.hy_mail.proofs.mailbox.Mailbox.new.Given as goal

abbrev pub ghosts-deal : goal.ghosts-deal
ghosts-deal a = record { arity = a.arity }

abbrev pub invariant-loop-number : goal.invariant-loop-number
invariant-loop-number l = (length l.passes.items ≡ l.number) × AreFreshBy (id_of l.line) l.fn.arity l.passes.items
    × IsPassOf l.line l.maker × IsMaker l.number l.fn.arity (view l.maker) × (l.fn.senders ≤ vec_capacity l.passes)
