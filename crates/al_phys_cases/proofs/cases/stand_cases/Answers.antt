use Rattle.al_phys_cases.proofs.Failing.{copies_stand, other_scan_stands, gather_stands, sort_stands, rootless_stands, check_stands, unchecked_stands}
use Rattle.al_phys_cases.proofs.FailingJoins.{left_copies_stand, other_key_stands}
use Rattle.al_phys_cases.proofs.Standing.{scan_stands, merge_stands}
use Rattle.al_phys_cases.proofs.cases.stand_cases.Goals as goal

pub returns-clause-scan : goal.returns-clause-scan
returns-clause-scan c = scan_stands

pub returns-clause-copies : goal.returns-clause-copies
returns-clause-copies c = copies_stand

pub returns-clause-other_scan : goal.returns-clause-other_scan
returns-clause-other_scan c = other_scan_stands

pub returns-clause-merge : goal.returns-clause-merge
returns-clause-merge c = merge_stands

pub returns-clause-gather : goal.returns-clause-gather
returns-clause-gather c = gather_stands

pub returns-clause-sort : goal.returns-clause-sort
returns-clause-sort c = sort_stands

pub returns-clause-left_copies : goal.returns-clause-left_copies
returns-clause-left_copies c = left_copies_stand

pub returns-clause-other_key : goal.returns-clause-other_key
returns-clause-other_key c = other_key_stands

pub returns-clause-rootless : goal.returns-clause-rootless
returns-clause-rootless c = rootless_stands

pub returns-clause-check : goal.returns-clause-check
returns-clause-check c = check_stands

pub returns-clause-unchecked : goal.returns-clause-unchecked
returns-clause-unchecked c = unchecked_stands
