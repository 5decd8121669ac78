use Rattle.hy_sort_tests.proofs.ReadyLaws.{one_again}
use Rattle.hy_sort_tests.proofs.sorts.two_kept.Goals as goal

pub handed_on-requires-clause-one : goal.handed_on-requires-clause-one
handed_on-requires-clause-one c = one_again _ _ c.in_ok-is_over.ensures.fixed c.in_ok-ends_input.ensures.one
