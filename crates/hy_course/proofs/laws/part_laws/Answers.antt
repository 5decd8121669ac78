use Rattle.hy_course.proofs.PartLaws.{parts_continue, new_parts_run, done_parts_rest, living_parts_put, waiting_is_front}
use Rattle.hy_course.proofs.laws.part_laws.Goals as goal

pub returns-clause-continues : goal.returns-clause-continues
returns-clause-continues g c old new = parts_continue (g.T.HasParts.parts old) (g.T.HasParts.parts new)

pub returns-clause-new : goal.returns-clause-new
returns-clause-new g c t = new_parts_run (g.T.HasParts.parts t)

pub returns-clause-done : goal.returns-clause-done
returns-clause-done g c t = done_parts_rest (g.T.HasParts.parts t)

pub returns-clause-living : goal.returns-clause-living
returns-clause-living g c t = living_parts_put (g.T.HasParts.parts t)

pub returns-clause-front : goal.returns-clause-front
returns-clause-front g c t = waiting_is_front (g.T.HasParts.parts t)
