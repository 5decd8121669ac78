use Rattle.std.proofs.Common.{arith, sym, ◌∙◌, inl, inr}
use Rattle.al_plan.proofs.EvalLaws.{bind-hit, bind-miss, bind-past}
use Rattle.al_value.specs.declared.value.Value.TheVariants.{Null}
use Rattle.al_plain.proofs.expr.find.Goals as goal

pub returns-then-i-row : goal.returns-then-i-row
returns-then-i-row c = c.requires ∙ sym (bind-past c.args.vars.now c.args.row.now c.loop-i.i c.args.v.now.name (inr (omega arith))) ∙ c.loop-i.invariant

pub returns : goal.returns
returns c = c.requires ∙ sym (bind-past c.args.vars.now c.args.row.now c.loop-i.i c.args.v.now.name (inl (omega arith))) ∙ c.loop-i.invariant

pub returns-then-eq : goal.returns-then-eq
returns-then-eq c =
    let hit = bind-hit c.args.vars.now c.args.row.now c.loop-i.i c.index-vars-i.result c.index-row-i.result c.args.v.now.name (omega arith) (omega arith) c.if-eq.ensures in
    c.index-row-i.is ∙ sym hit ∙ c.loop-i.invariant

pub loop-i-preserved : goal.loop-i-preserved
loop-i-preserved c =
    sym (bind-miss c.args.vars.now c.args.row.now c.loop-i.i c.index-vars-i.result Null c.args.v.now.name (omega arith) (omega arith) c.if-eq.ensures) ∙ c.loop-i.invariant
