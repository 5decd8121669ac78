use Rattle.std.proofs.Common.{refl, arith}
use Rattle.std.proofs.lemmas.Result.{IfOk-weaker}
use Rattle.al_phys.specs.declared.phys.Phys.{out-Phys}
use Rattle.al_jobgen.specs.JobOf.{wire_step}
use Rattle.al_jobgen.specs.Added.{own_of, AddedPlan}
use Rattle.al_jobgen.proofs.PieceForms.{fewer_over, fewer_left, fewer_right}
use Rattle.al_jobgen.proofs.PieceAdded.{source_done, over_done, both_done}
use Rattle.al_jobgen.proofs.Literals.{on_ok}
use Rattle.al_jobgen.proofs.builder.+add.Goals as goal

pub add-requires : goal.add-requires
add-requires t c = (omega (arith, c.decreases, fewer_over c.args.p.now c.in-One.input.now c.in-One.ensures), tt)

pub add-requires-in-Two : goal.add-requires-in-Two
add-requires-in-Two t c = (omega (arith, c.decreases, fewer_left c.args.p.now c.in-Two.left.now c.in-Two.right.now c.in-Two.ensures), tt)

pub add-requires-in-Two-2 : goal.add-requires-in-Two-2
add-requires-in-Two-2 t c = (omega (arith, c.decreases, fewer_right c.args.p.now c.in-Two.left.now c.in-Two.right.now c.in-Two.ensures), tt)

pub returns-in-None-clause-is : goal.returns-in-None-clause-is
returns-in-None-clause-is t c =
    let p = c.args.p.now in
    IfOk-weaker c.source.result _ (AddedPlan c.args.builder.now c.source.new.self p) (λ tail h. source_done p _ _ tail (own_of p) (wire_step (out-Phys p)) c.in-None.ensures refl refl h) c.source.ensures.is

pub returns-in_ok-tail-in-One-clause-is : goal.returns-in_ok-tail-in-One-clause-is
returns-in_ok-tail-in-One-clause-is t c =
    let p = c.args.p.now in
    IfOk-weaker c.over.result _ (AddedPlan c.args.builder.now c.over.new.self p)
    (λ tail h. over_done p c.in-One.input.now _ _ _ c.in_ok-tail-in-One.tail tail (own_of p) (wire_step (out-Phys p)) c.in-One.ensures refl refl c.in_ok-tail-in-One.ensures.is h) c.over.ensures.is

pub returns-in_ok-second-in-Two-clause-is : goal.returns-in_ok-second-in-Two-clause-is
returns-in_ok-second-in-Two-clause-is t c =
    let p = c.args.p.now in
    IfOk-weaker c.both.result _ (AddedPlan c.args.builder.now c.both.new.self p)
    (λ tail h. both_done p c.in-Two.left.now c.in-Two.right.now _ _ _ _ c.in_ok-first-in-Two.first c.in_ok-second-in-Two.second tail (own_of p) (wire_step (out-Phys p)) c.in-Two.ensures refl refl c.in_ok-first-in-Two.ensures.is c.in_ok-second-in-Two.ensures.is h) c.both.ensures.is

pub returns-in-None-clause-values : goal.returns-in-None-clause-values
returns-in-None-clause-values t c = on_ok c.source.result (λ h. h) c.source.ensures.values

pub returns-in_ok-tail-in-One-clause-values : goal.returns-in_ok-tail-in-One-clause-values
returns-in_ok-tail-in-One-clause-values t c = on_ok c.over.result (λ h old. h (c.in_ok-tail-in-One.ensures.values old)) c.over.ensures.values

pub returns-in_ok-second-in-Two-clause-values : goal.returns-in_ok-second-in-Two-clause-values
returns-in_ok-second-in-Two-clause-values t c = on_ok c.both.result (λ h old. h (c.in_ok-second-in-Two.ensures.values (c.in_ok-first-in-Two.ensures.values old))) c.both.ensures.values
