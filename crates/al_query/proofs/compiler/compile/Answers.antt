use Rattle.al_query.proofs.Compiles.{accepted_exactly, fault_tells, refused_exactly}
use Rattle.al_query.proofs.compiler.compile.Goals as goal

pub returns-in-Err-clause-refused : goal.returns-in-Err-clause-refused
returns-in-Err-clause-refused c = λ r e. fault_tells c.args.bytes.now c.in-Err.fault c.in-Err.ensures.tells r e

pub returns-in-Err-clause-exact : goal.returns-in-Err-clause-exact
returns-in-Err-clause-exact c =
    λ r bad. refused_exactly (record { reading = c.one_plan_reading.ensures.one; accepting = c.acceptance_laws.ensures.exact }) c.args.bytes.now c.in-Err.fault c.in-Err.ensures.tells r bad

pub returns-in-Ok-compile_plan-clause-exact : goal.returns-in-Ok-compile_plan-clause-exact
returns-in-Ok-compile_plan-clause-exact c =
    λ r bad. accepted_exactly (record { reading = c.one_plan_reading.ensures.one; accepting = c.acceptance_laws.ensures.exact }) c.args.bytes.now c.in-Ok.file _ c.in-Ok.ensures.tells r bad
