use Rattle.std.proofs.Common.{◌<◌, ap, ◌∙◌, arith}
use Rattle.hy_connect.specs.Sources.{hand}
use Rattle.hy_connect.proofs.Hands.{has_some}
use Rattle.hy_connect.proofs.source.Source.has_row.Goals as goal

pub returns-clause-yes : goal.returns-clause-yes
returns-clause-yes c =
    let i = c.self.inside in
    λ less none.
    let low : i.next < c.rows.result = grind arith in
    has_some (record { mailbox = i.mailbox; closed = i.closed; frame = i.frame; next = i.next }) c.in-Some.frame c.rows.result c.in-Some.is c.rows.ensures.rows low (ap hand c.self.view_is ∙ none)
