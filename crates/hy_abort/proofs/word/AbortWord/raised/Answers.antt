use Rattle.std.proofs.Common.{◌∙◌, ap, rules, sym}
use Rattle.hy_abort.specs.Seats.{SeatState, WordState}
use Rattle.hy_abort.proofs.Steps.{looks}
use Rattle.hy_abort.proofs.word.AbortWord.raised.Goals as goal

pub load-found-requires : goal.load-found-requires
load-found-requires c =
    let mine = ap (λ (s : SeatState). s.word) c.seat.view_is ∙ c.requires ∙ sym (ap (λ (w : WordState). w.id) c.self.view_is) in
    (mine, search rules, looks _ _ _ _)
