use Rattle.std.proofs.Common.{◌≡◌, ◌++◌, ℕ, List, ap, subst, sym, ◌∙◌}
use Rattle.std.specs.List.{Contains}
use Rattle.hy_job.specs.declared.job.Stage.{Stage}
use Rattle.hy_job.specs.Stages.{IsPart, activities_in}
use Rattle.hy_places.proofs.Parts.{in_stages, stage_part}
use Rattle.hy_places.proofs.stage.stage_of.Goals as goal

pub the_one_with-stage-requires : goal.the_one_with-stage-requires
the_one_with-stage-requires c =
    subst (λ (ss : List Stage). Contains (activities_in ss) c.args.activity) (sym c.as_slice.ensures)
    (in_stages c.args.job.now c.in_ok-stages.stages c.args.activity (c.in_ok-stages.ensures {u = tt}) c.requires.activity)

pub returns-clause-part : goal.returns-clause-part
returns-clause-part c =
    let stage = c.the_one_with-stage.result.now in
    let copied : c.extend.new.self ≡ stage.activities = c.in_ok-extend.ensures.ok ∙ (ap (λ (xs : List ℕ). xs ++ c.as_slice-2.result.now) c.new-activities.ensures ∙ c.as_slice-2.ensures) in
    let one : Contains c.in_ok-stages.stages stage = subst (λ (ss : List Stage). Contains ss stage) c.as_slice.ensures c.the_one_with-stage.ensures.one in
    subst (IsPart c.args.job.now) (sym copied) (stage_part c.args.job.now c.in_ok-stages.stages stage (c.in_ok-stages.ensures {u = tt}) one)
