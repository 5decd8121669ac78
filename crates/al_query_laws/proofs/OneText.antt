-- What a command without choice writes is one text.
use Rattle.std.proofs.Common.{◌≡◌, ℕ, List, ap, sym, subst, ◌∙◌}
use Rattle.al_io.specs.Outside.{Bytes, Files}
use Rattle.al_words.specs.declared.command.Command.TheVariants as C
use Rattle.al_plan.specs.declared.file.PlanFile.{PlanFile}
use Rattle.al_plan.specs.declared.plan.Plan.{Plan}
use Rattle.al_rule.specs.declared.trace.TraceStep.{TraceStep}
use Rattle.al_phys.specs.declared.phys.Phys.{Phys}
use Rattle.hy_job.specs.declared.job.Job.{Job}
use Rattle.hy_job.specs.declared.job.Stage.{Stage}
use Rattle.hy_job.specs.Stages.{StageOf}
use Rattle.al_print.specs.Canonical.{file_with, plan_text}
use Rattle.al_print.specs.Explanation.{explanation}
use Rattle.al_job_laws.specs.InOrder.{StagesAreOne}
use Rattle.al_query.specs.Served.{IsPrinted, IsCompiled, IsExplained}
use Rattle.al_query.proofs.Dues.{IsOneText, one_plan}
use Rattle.al_query_laws.specs.OneText.{CompilesOneWay, TextsAreOne}

one_printed : IsOneText → (files : Files) (name text other : Bytes) → IsPrinted files name text → IsPrinted files name other → text ≡ other
one_printed texts files name text other (f, is, e) (g, also, h) = e ∙ ap plan_text (one_plan texts (files name) f g is also) ∙ sym h

same_text : (steps others : List TraceStep) (f g : PlanFile) (q r : Plan) (phys ph : Phys) (job made : Job) (stages more : List Stage) → steps ≡ others → f ≡ g → q ≡ r → phys ≡ ph → job ≡ made → stages ≡ more
    → explanation steps (file_with f q) phys job stages ≡ explanation others (file_with g r) ph made more
same_text steps others f g q r phys ph job made stages more a b c d e h =
    ap (λ (ss : List TraceStep). explanation ss (file_with f q) phys job stages) a
    ∙ ap (λ (x : PlanFile). explanation others (file_with x q) phys job stages) b
    ∙ ap (λ (x : Plan). explanation others (file_with g x) phys job stages) c
    ∙ ap (λ (x : Phys). explanation others (file_with g r) x job stages) d
    ∙ ap (λ (x : Job). explanation others (file_with g r) ph x stages) e
    ∙ ap (λ (ss : List Stage). explanation others (file_with g r) ph made ss) h

one_explained : IsOneText → CompilesOneWay → StagesAreOne → (files : Files) (name : Bytes) (n : ℕ) (text other : Bytes) → IsExplained files name n text → IsExplained files name n other → text ≡ other
one_explained texts one_way stages files name n text other x y =
    let file : x.file ≡ y.file = one_plan texts (files name) x.file y.file x.plan y.plan in
    let moved : IsCompiled y.file.root n x.steps x.optimised x.phys x.job = subst (λ (f : PlanFile). IsCompiled f.root n x.steps x.optimised x.phys x.job) file x.compiled in
    let same = one_way y.file.root n x.steps y.steps x.optimised y.optimised x.phys y.phys x.job y.job moved y.compiled in
    let in_stages : StageOf y.job x.stages = subst (λ (j : Job). StageOf j x.stages) same.job_is x.in_stages in
    let parts = stages y.job x.stages y.stages in_stages y.in_stages in
    x.parts ∙ same_text x.steps y.steps x.file y.file x.optimised y.optimised x.phys y.phys x.job y.job x.stages y.stages same.steps_are file same.plan_is same.phys_is same.job_is parts ∙ sym y.parts

pub texts_are_one : IsOneText → CompilesOneWay → StagesAreOne → TextsAreOne
texts_are_one texts one_way stages (C.Check plan) files text other sole x y = one_printed texts files plan text other x y
texts_are_one texts one_way stages (C.Explain plan n) files text other sole x y = one_explained texts one_way stages files plan n text other x y
texts_are_one texts one_way stages (C.Plain plan) files text other sole x y = absurd cc
texts_are_one texts one_way stages (C.Step plan settings schedule) files text other sole x y = absurd cc
texts_are_one texts one_way stages (C.Run plan settings workers) files text other sole x y = absurd cc
texts_are_one texts one_way stages (C.Gen seed rows) files text other sole x y = x ∙ sym y
texts_are_one texts one_way stages (C.Drill seed rows plan settings) files text other sole x y = absurd cc
texts_are_one texts one_way stages (C.Frames plan dataset frame_size) files text other sole x y = absurd cc
