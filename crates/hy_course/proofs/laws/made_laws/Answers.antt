use Rattle.hy_course.proofs.PartLaws.{parts_advance, parts_break}
use Rattle.hy_course.proofs.laws.made_laws.Goals as goal

pub returns-clause-advance : goal.returns-clause-advance
returns-clause-advance g c old new = parts_advance (g.T.HasCourse.course old) (g.T.HasParts.parts old) (g.T.HasCourse.course new) (g.T.HasParts.parts new)

pub returns-clause-breaks : goal.returns-clause-breaks
returns-clause-breaks g c old new = parts_break (g.T.HasCourse.course old) (g.T.HasParts.parts old) (g.T.HasCourse.course new)
