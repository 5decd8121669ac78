use Rattle.std.proofs.Common.{◌≡◌, ◌-◌, [], length, refl, sym, ap, ◌∙◌}
use Rattle.std.proofs.lemmas.Bool.{both_ways, eqb-true, eq-eqb}
use Rattle.std.proofs.lemmas.List.{nil_from_length}
use Rattle.al_read.proofs.Readings.{keeps_on, shorter, is_bad, are_all}
use Rattle.al_read.proofs.token.whole.tokens_of.Goals as goal

pub returns-then-is_empty : goal.returns-then-is_empty
returns-then-is_empty c =
    are_all c.args.bytes.now c.loop-piece.rest.now c.after_gap-piece.result.now c.loop-piece.tokens c.loop-piece.invariant c.after_gap-piece.ensures
    (nil_from_length c.after_gap-piece.result.now (eqb-true (length c.after_gap-piece.result.now) 0 (sym c.is_empty.ensures ∙ c.if-is_empty.true)))

pub loop-piece-smaller : goal.loop-piece-smaller
loop-piece-smaller c = shorter c.loop-piece.rest.now c.after_gap-piece.result.now c.in-Ok.after.now c.in-Ok.token c.after_gap-piece.ensures c.in-Ok.ensures

pub loop-piece-preserved : goal.loop-piece-preserved
loop-piece-preserved c =
    let some : c.after_gap-piece.result.now ≡ [] → ⊥ = λ e. both_ways _ (sym c.is_empty.ensures ∙ c.if-is_empty.false) (eq-eqb (length c.after_gap-piece.result.now) 0 (ap length e)) in
    rw c.in_ok-push-in-Ok.ensures.ok
    (keeps_on c.args.bytes.now c.loop-piece.rest.now c.after_gap-piece.result.now c.in-Ok.after.now c.loop-piece.tokens c.in-Ok.token (length c.args.bytes.now - length c.after_gap-piece.result.now) c.loop-piece.invariant c.after_gap-piece.ensures some c.in-Ok.ensures refl)

pub returns-in-Err-Bad : goal.returns-in-Err-Bad
returns-in-Err-Bad c =
    let some : c.after_gap-piece.result.now ≡ [] → ⊥ = λ e. both_ways _ (sym c.is_empty.ensures ∙ c.if-is_empty.false) (eq-eqb (length c.after_gap-piece.result.now) 0 (ap length e)) in
    let read = rw c.in-Err-Bad.field-0-is at c.in-Err-Bad.ensures in
    is_bad c.args.bytes.now c.loop-piece.rest.now c.after_gap-piece.result.now c.loop-piece.tokens (length c.args.bytes.now - length c.after_gap-piece.result.now) c.loop-piece.invariant c.after_gap-piece.ensures some read refl
