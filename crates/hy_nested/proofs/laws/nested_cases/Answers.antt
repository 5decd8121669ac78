use Rattle.hy_nested.proofs.NestedCases.{counting_fits, narrow_fail, uneven_fail, root_fails, no_rows_fit, none_counted}
use Rattle.hy_nested.proofs.laws.nested_cases.Goals as goal

pub returns-clause-fits : goal.returns-clause-fits
returns-clause-fits c = counting_fits

pub returns-clause-narrow : goal.returns-clause-narrow
returns-clause-narrow c = narrow_fail

pub returns-clause-uneven : goal.returns-clause-uneven
returns-clause-uneven c = uneven_fail

pub returns-clause-root : goal.returns-clause-root
returns-clause-root c = root_fails

pub returns-clause-no_rows : goal.returns-clause-no_rows
returns-clause-no_rows c = no_rows_fit

pub returns-clause-none_counted : goal.returns-clause-none_counted
returns-clause-none_counted c = none_counted
