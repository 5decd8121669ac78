use Rattle.std.proofs.Common.{sym, ap, ◌++◌, ◌∙◌}
use Rattle.al_infer.specs.declared.walk.Stopped.TheVariants as S
use Rattle.al_infer.proofs.InputLaws.{live_by}
use Rattle.al_infer.proofs.WalkLaws.{told_operator, keeps_all, breaks}
use Rattle.al_infer.proofs.walk.check_operator.Goals as goal

pub returns-in_err-own : goal.returns-in_err-own
returns-in_err-own c s = told_operator c.args.decls.now c.args.places.now c.args.spot c.args.made.now c.args.op.now _ S.NoMemory _ c.from_residual.ensures.1 tt

pub returns-in_err-vars : goal.returns-in_err-vars
returns-in_err-vars c s = told_operator c.args.decls.now c.args.places.now c.args.spot c.args.made.now c.args.op.now _ S.NoMemory _ c.from_residual-in_err-vars.ensures.1 tt

pub returns-in_err-append-in-None : goal.returns-in_err-append-in-None
returns-in_err-append-in-None c s = told_operator c.args.decls.now c.args.places.now c.args.spot c.args.made.now c.args.op.now _ S.NoMemory _ c.from_residual-in_err-append-in-None.ensures.1 tt

pub returns-in-Some : goal.returns-in-Some
returns-in-Some c s =
    let alive = live_by c.args.op.now c.args.spot.given.now c.args.seen.now.left c.args.seen.now.right s in
    breaks c.args.decls.now c.args.places.now c.args.spot c.args.made.now c.args.op.now _ c.as_slice-2.ensures c.in-Some.kind _
    (c.in-Some.ensures s (c.as_slice-4.ensures ∙ c.in_ok-vars.ensures ∙ sym alive)) (c.place_at-place.ensures)

pub returns : goal.returns
returns c s =
    let alive = live_by c.args.op.now c.args.spot.given.now c.args.seen.now.left c.args.seen.now.right s in (
      keeps_all c.args.decls.now c.args.places.now c.args.spot c.args.made.now c.args.op.now _ c.as_slice-2.ensures (c.in-None.ensures s (c.as_slice-4.ensures ∙ c.in_ok-vars.ensures ∙ sym alive)),
      c.in_ok-vars.ensures ∙ sym alive,
      c.in_ok-append-in-None.ensures ∙ ap (λ ms. c.args.made.now ++ ms) (c.as_slice-in-None.ensures ∙ c.in_ok-own.ensures),
    )
