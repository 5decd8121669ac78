use Rattle.al_cases.proofs.Refining.{least_for_any, any_for_least, greatest_for_least, pushed_for_above, least_in_place, noting_in_place, check_for_scan, scan_for_check, scan_fits, empty_project_fits, inner_result_fits}
use Rattle.al_cases.proofs.cases.refine_cases.Goals as goal

pub returns-clause-least_for_any : goal.returns-clause-least_for_any
returns-clause-least_for_any c = least_for_any

pub returns-clause-any_for_least : goal.returns-clause-any_for_least
returns-clause-any_for_least c = any_for_least

pub returns-clause-greatest_for_least : goal.returns-clause-greatest_for_least
returns-clause-greatest_for_least c = greatest_for_least

pub returns-clause-check_for_scan : goal.returns-clause-check_for_scan
returns-clause-check_for_scan c = check_for_scan

pub returns-clause-scan_for_check : goal.returns-clause-scan_for_check
returns-clause-scan_for_check c = scan_for_check

pub returns-clause-scan_fits : goal.returns-clause-scan_fits
returns-clause-scan_fits c = scan_fits

pub returns-clause-empty_project_fits : goal.returns-clause-empty_project_fits
returns-clause-empty_project_fits c = empty_project_fits

pub returns-clause-inner_result_fits : goal.returns-clause-inner_result_fits
returns-clause-inner_result_fits c = inner_result_fits

pub returns-clause-pushed_for_above : goal.returns-clause-pushed_for_above
returns-clause-pushed_for_above c = pushed_for_above

pub returns-clause-least_in_place : goal.returns-clause-least_in_place
returns-clause-least_in_place c = least_in_place

pub returns-clause-noting_in_place : goal.returns-clause-noting_in_place
returns-clause-noting_in_place c = noting_in_place
