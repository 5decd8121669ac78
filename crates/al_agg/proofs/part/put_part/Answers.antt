use Rattle.std.proofs.Common.{FitsSigned, rules}
use Rattle.std.specs.Int.{w128}
use Rattle.al_agg.proofs.FieldLaws.{part_lists, part_state, number_stored, sum_stored, value_stored}
use Rattle.al_agg.proofs.part.put_part.Goals as goal

pub returns-in-CountAll-clause-lists : goal.returns-in-CountAll-clause-lists
returns-in-CountAll-clause-lists c =
    let fits : FitsSigned w128 c.in-CountAll.n = search rules in
    λ vs. part_lists c.args.p.now vs (number_stored c.args.p.now.state c.in-CountAll.n c.in-CountAll.is fits)

pub returns-in-CountAll-clause-state : goal.returns-in-CountAll-clause-state
returns-in-CountAll-clause-state c =
    let fits : FitsSigned w128 c.in-CountAll.n = search rules in
    part_state c.args.p.now (number_stored c.args.p.now.state c.in-CountAll.n c.in-CountAll.is fits)

pub returns-in-Sum-clause-lists : goal.returns-in-Sum-clause-lists
returns-in-Sum-clause-lists c =
    λ vs. part_lists c.args.p.now vs (sum_stored c.args.p.now.state c.in-Sum.sum c.in-Sum.is c.put_sum.ensures.fits)

pub returns-in-Sum-clause-state : goal.returns-in-Sum-clause-state
returns-in-Sum-clause-state c =
    part_state c.args.p.now (sum_stored c.args.p.now.state c.in-Sum.sum c.in-Sum.is c.put_sum.ensures.fits)

pub returns-in_ok-copy-in-Min-clause-lists : goal.returns-in_ok-copy-in-Min-clause-lists
returns-in_ok-copy-in-Min-clause-lists c =
    λ vs. part_lists c.args.p.now vs (value_stored c.args.p.now.state c.in-Min.v c.in-Min.is c.copy.ensures.valid)

pub returns-in_ok-copy-in-Min-clause-state : goal.returns-in_ok-copy-in-Min-clause-state
returns-in_ok-copy-in-Min-clause-state c =
    part_state c.args.p.now (value_stored c.args.p.now.state c.in-Min.v c.in-Min.is c.copy.ensures.valid)

pub returns-in_err-copy-in-Min-clause-lists : goal.returns-in_err-copy-in-Min-clause-lists
returns-in_err-copy-in-Min-clause-lists c =
    λ vs. part_lists c.args.p.now vs (value_stored c.args.p.now.state c.in-Min.v c.in-Min.is c.copy.ensures.valid)

pub returns-in_err-copy-in-Min-clause-state : goal.returns-in_err-copy-in-Min-clause-state
returns-in_err-copy-in-Min-clause-state c =
    part_state c.args.p.now (value_stored c.args.p.now.state c.in-Min.v c.in-Min.is c.copy.ensures.valid)
