use Rattle.std.proofs.Common.{◌≡◌, ◌∙◌, ap, arith, rules, sym}
use Rattle.hy_abort.specs.Seats.{SeatState, WordState, once_if}
use Rattle.hy_abort.proofs.Steps.{raises}
use Rattle.hy_abort.proofs.word.AbortWord.raise.Goals as goal

pub fetch_add-requires : goal.fetch_add-requires
fetch_add-requires c =
    let mine = ap (λ (s : SeatState). s.word) c.seat.view_is ∙ c.requires ∙ sym (ap (λ (w : WordState). w.id) c.self.view_is) in
    let one = c.seat.invariant.1 in
    let none : c.seat.inside.token.me.0.raises ≡ 0 = c.seat.invariant.2 ∙ ap once_if c.if-seat.false in
    (mine, search rules, raises _ _ _ _ (omega arith))
