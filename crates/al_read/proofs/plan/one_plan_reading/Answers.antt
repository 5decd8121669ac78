use Rattle.al_read.proofs.PlanOne.{one_answer}
use Rattle.al_read.proofs.PlanPlaces.{has_places}
use Rattle.al_read.proofs.plan.one_plan_reading.Goals as goal

pub returns : goal.returns
returns c = record { one = one_answer; places = λ bytes f x. has_places bytes f x }
