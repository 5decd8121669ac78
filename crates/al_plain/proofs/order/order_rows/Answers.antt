use Rattle.std.proofs.Common.{rules, is_lt}
use Rattle.std.proofs.lemmas.List.Sorted.{ranks_by}
use Rattle.std.proofs.lemmas.Fn.{always_returns_same}
use Rattle.al_plan.specs.Eval.{bind}
use Rattle.al_plan.specs.Allows.{keys_cmp}
use Rattle.al_plan.proofs.RowLaws.{keys_cmp_total}
use Rattle.al_plain.proofs.order.order_rows.Goals as goal

pub returns-clause-sorted : goal.returns-clause-sorted
returns-clause-sorted c =
    let sorted = c.in_ok-sort_by.ensures.sorted (λ a b. is_lt (keys_cmp c.args.keys.now (bind c.args.vars.now a) (bind c.args.vars.now b))) (ranks_by (keys_cmp_total c.args.keys.now) (bind c.args.vars.now)) (always_returns_same _ _ _ (λ a r f k. search rules)) in
    rw c.from_vec.ensures sorted
