use Rattle.hy_course.proofs.StepLaws.{moves_ran, none_ran, ran_then}
use Rattle.hy_course.proofs.DoneLaws.{all_closed, done_meets}
use Rattle.hy_course.proofs.laws.course_laws.Goals as goal

pub returns-clause-one : goal.returns-clause-one
returns-clause-one g c old new = moves_ran (g.T.HasCourse.course old) (g.T.HasCourse.course new)

pub returns-clause-none : goal.returns-clause-none
returns-clause-none g c t = none_ran (g.T.HasCourse.course t)

pub returns-clause-ran_then : goal.returns-clause-ran_then
returns-clause-ran_then g c first second third = ran_then (g.T.HasCourse.course first) (g.T.HasCourse.course second) (g.T.HasCourse.course third)

pub returns-clause-done : goal.returns-clause-done
returns-clause-done g c first last = done_meets (g.T.HasCourse.course first) (g.T.HasCourse.course last)

pub returns-clause-all_closed : goal.returns-clause-all_closed
returns-clause-all_closed g c first last = all_closed (g.T.HasCourse.course first) (g.T.HasCourse.course last)
