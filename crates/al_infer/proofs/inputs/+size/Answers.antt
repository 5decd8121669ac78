use Rattle.std.proofs.Common.{arith}
use Rattle.al_infer.proofs.InputLaws.{size_leaf, size_one, size_two, size_nesting}
use Rattle.al_infer.proofs.inputs.+size.Goals as goal

pub size-requires : goal.size-requires
size-requires t c = let e = size_one c.args.plan.now _ c.in-One.ensures in (omega (arith, c.decreases), tt)

pub size-requires-in-Two : goal.size-requires-in-Two
size-requires-in-Two t c = let e = size_two c.args.plan.now _ _ c.in-Two.ensures in (omega (arith, c.decreases), tt)

pub size-requires-in-Two-2 : goal.size-requires-in-Two-2
size-requires-in-Two-2 t c = let e = size_two c.args.plan.now _ _ c.in-Two.ensures in (omega (arith, c.decreases), tt)

pub size-requires-in-Nested : goal.size-requires-in-Nested
size-requires-in-Nested t c = let e = size_nesting c.args.plan.now _ _ c.in-Nested.ensures in (omega (arith, c.decreases), tt)

pub size-requires-in-Nested-2 : goal.size-requires-in-Nested-2
size-requires-in-Nested-2 t c = let e = size_nesting c.args.plan.now _ _ c.in-Nested.ensures in (omega (arith, c.decreases), tt)

pub returns-in-None : goal.returns-in-None
returns-in-None t c = let e = size_leaf c.args.plan.now c.in-None.ensures in omega arith

pub returns-in-One : goal.returns-in-One
returns-in-One t c = let e = size_one c.args.plan.now _ c.in-One.ensures in omega (arith, c.size.ensures, c.saturating_add.ensures)

pub returns-in-Two : goal.returns-in-Two
returns-in-Two t c = let e = size_two c.args.plan.now _ _ c.in-Two.ensures in omega (arith, c.size-in-Two.ensures, c.size-in-Two-2.ensures, c.saturating_add-in-Two.ensures, c.saturating_add-in-Two-2.ensures)

pub returns-in-Nested : goal.returns-in-Nested
returns-in-Nested t c = let e = size_nesting c.args.plan.now _ _ c.in-Nested.ensures in omega (arith, c.size-in-Nested.ensures, c.size-in-Nested-2.ensures, c.saturating_add-in-Nested.ensures, c.saturating_add-in-Nested-2.ensures)
