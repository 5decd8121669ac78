use Rattle.std.proofs.Common.{◌∙◌, ap, rules}
use Rattle.hy_abort.specs.Seats.{SeatState}
use Rattle.hy_abort.proofs.Steps.{joins}
use Rattle.hy_abort.proofs.word.take_in.Goals as goal

pub join_seat-requires : goal.join_seat-requires
join_seat-requires c =
    let theirs = ap (λ (s : SeatState). s.word) c.seat.view_is ∙ c.requires.mine.1 in
    (c.requires.mine.0, theirs, c.seat.invariant.0, search rules, joins _ _ _ _ _)
