use Rattle.hy_driver.proofs.StepLaws.{turned_comes, fed_comes, ended_comes, comes_then, none_come, steps_then, whole_run, lent_again}
use Rattle.hy_driver.proofs.laws.driver_laws.Goals as goal

pub returns-clause-fed : goal.returns-clause-fed
returns-clause-fed g c old new = fed_comes (g.D.Driver.seen old) (g.D.Driver.seen new)

pub returns-clause-ended : goal.returns-clause-ended
returns-clause-ended g c old new = ended_comes (g.D.Driver.seen old) (g.D.Driver.seen new)

pub returns-clause-turned : goal.returns-clause-turned
returns-clause-turned g c old new = turned_comes (g.D.Driver.seen old) (g.D.Driver.seen new)

pub returns-clause-none_comes : goal.returns-clause-none_comes
returns-clause-none_comes g c d = none_come (g.D.Driver.seen d)

pub returns-clause-comes_then : goal.returns-clause-comes_then
returns-clause-comes_then g c first second third = comes_then (g.D.Driver.seen first) (g.D.Driver.seen second) (g.D.Driver.seen third)

pub returns-clause-steps_then : goal.returns-clause-steps_then
returns-clause-steps_then g c first second third = steps_then (g.D.Driver.seen first) (g.D.Driver.seen second) (g.D.Driver.seen third)

pub returns-clause-whole_run : goal.returns-clause-whole_run
returns-clause-whole_run g c first last = whole_run (g.D.Driver.seen first) (g.D.Driver.seen last) (g.D.Starts.out first)

pub returns-clause-lent_again : goal.returns-clause-lent_again
returns-clause-lent_again g c old new = lent_again (g.D.Driver.seen old) (g.D.Driver.seen new)
