-- Which answers are a fault of the outside, and what becomes of them.
use Rattle.std.specs.Prelude.{Bool, true, false, Result, Ok, Err}
use Rattle.hy_store.specs.declared.fault.StoreFault.{StoreFault}
use Rattle.hy_store.specs.declared.fault.StoreFault.TheVariants as store
use Rattle.hy_store.specs.declared.fault.OpFault.{OpFault}
use Rattle.hy_store.specs.declared.fault.OpFault.TheVariants as op

-- the outside did not serve a call
abbrev pub is_failed : {T : Type 0} → Result T StoreFault → Bool
is_failed (Ok x) = false
is_failed (Err store.Failed) = true
is_failed (Err store.NoMemory) = false

-- what a fault of an operator's store is to the operator
abbrev pub op_fault : StoreFault → OpFault
op_fault store.Failed = op.Store
op_fault store.NoMemory = op.NoMemory
