use Rattle.hy_pipeline.proofs.DoneLaws.{ended_may_put, living_may_put}
use Rattle.hy_pipeline.proofs.TestLaws.{come_are_untested, ended_are_tested, fed_are_tested, turned_are_tested}
use Rattle.hy_pipeline.proofs.HandLaws.{brought_are_rows}
use Rattle.hy_pipeline.proofs.EndLaws.{ended_rests, living_are_alive, new_are_new}
use Rattle.hy_pipeline.proofs.StepLaws.{come_is_step, ended_is_step, fed_is_step, finish_is_step, open_is_step, put_is_step, turn_is_step, waiting_is_front}
use Rattle.hy_pipeline.proofs.laws.pipeline_laws.Goals as goal

pub returns-clause-fed : goal.returns-clause-fed
returns-clause-fed g c old new = fed_is_step (g.T.HasPipeline.pipeline old) (g.T.HasPipeline.pipeline new)

pub returns-clause-ended : goal.returns-clause-ended
returns-clause-ended g c old new = ended_is_step (g.T.HasPipeline.pipeline old) (g.T.HasPipeline.pipeline new)

pub returns-clause-turned : goal.returns-clause-turned
returns-clause-turned g c old new = turn_is_step (g.T.HasPipeline.pipeline old) (g.T.HasPipeline.pipeline new)

pub returns-clause-opened : goal.returns-clause-opened
returns-clause-opened g c old new = open_is_step (g.T.HasPipeline.pipeline old) (g.T.HasPipeline.pipeline new)

pub returns-clause-finished : goal.returns-clause-finished
returns-clause-finished g c old new = finish_is_step (g.T.HasPipeline.pipeline old) (g.T.HasPipeline.pipeline new)

pub returns-clause-taken : goal.returns-clause-taken
returns-clause-taken g c old new = come_is_step (g.T.HasPipeline.pipeline old) (g.T.HasPipeline.pipeline new)

pub returns-clause-put : goal.returns-clause-put
returns-clause-put g c old new = put_is_step (g.T.HasPipeline.pipeline old) (g.T.HasPipeline.pipeline new)

pub returns-clause-front : goal.returns-clause-front
returns-clause-front g c t = waiting_is_front (g.T.HasPipeline.pipeline t)

pub returns-clause-new : goal.returns-clause-new
returns-clause-new g c t = new_are_new (g.T.HasPipeline.pipeline t)

pub returns-clause-living : goal.returns-clause-living
returns-clause-living g c t = living_are_alive (g.T.HasPipeline.pipeline t)

pub returns-clause-ended_rests : goal.returns-clause-ended_rests
returns-clause-ended_rests g c t = ended_rests (g.T.HasPipeline.pipeline t)

pub returns-clause-brought : goal.returns-clause-brought
returns-clause-brought g c = brought_are_rows

pub returns-clause-fed_tested : goal.returns-clause-fed_tested
returns-clause-fed_tested g c old new = fed_are_tested (g.T.HasPipeline.pipeline old) (g.T.HasPipeline.pipeline new)

pub returns-clause-ended_tested : goal.returns-clause-ended_tested
returns-clause-ended_tested g c old new = ended_are_tested (g.T.HasPipeline.pipeline old) (g.T.HasPipeline.pipeline new)

pub returns-clause-turned_tested : goal.returns-clause-turned_tested
returns-clause-turned_tested g c old new = turned_are_tested (g.T.HasPipeline.pipeline old) (g.T.HasPipeline.pipeline new)

pub returns-clause-come_untested : goal.returns-clause-come_untested
returns-clause-come_untested g c old new = come_are_untested (g.T.HasPipeline.pipeline old) (g.T.HasPipeline.pipeline new)

pub returns-clause-living_put : goal.returns-clause-living_put
returns-clause-living_put g c t = living_may_put (g.T.HasPipeline.pipeline t)

pub returns-clause-ended_put : goal.returns-clause-ended_put
returns-clause-ended_put g c t = ended_may_put (g.T.HasPipeline.pipeline t)
