use Rattle.hy_progress.proofs.NumberLaws.{falling_lowers}
use Rattle.hy_progress.proofs.StuckLaws.{never_stuck}
use Rattle.hy_progress.proofs.laws.progress_laws.Goals as goal

pub returns-clause-never_stuck : goal.returns-clause-never_stuck
returns-clause-never_stuck c = never_stuck

pub returns-clause-lowers : goal.returns-clause-lowers
returns-clause-lowers c = falling_lowers
