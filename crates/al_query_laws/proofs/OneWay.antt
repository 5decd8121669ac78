-- A plan compiles in one way, and its job is that of a physical plan.
use Rattle.std.proofs.Common.{◌≡◌, ℕ, ap, sym, subst, ◌∙◌}
use Rattle.al_phys.specs.declared.phys.Phys.{Phys}
use Rattle.al_choose.specs.Chosen.{chosen}
use Rattle.al_jobgen.specs.JobOf.{job_of}
use Rattle.al_opt.specs.Determined.{TracesAreOne}
use Rattle.al_job_laws.specs.InOrder.{IsInOrder}
use Rattle.al_query_laws.specs.OneText.{CompilesOneWay, CompiledIsInOrder}

pub compiles_one_way : TracesAreOne → CompilesOneWay
compiles_one_way traces root n steps others q r phys ph job made x y =
    let same = traces root r others y.legal steps q x.legal in
    let same_phys : phys ≡ ph = x.is_chosen ∙ ap (chosen n) same.1 ∙ sym y.is_chosen in
    record {
      steps_are = same.0;
      plan_is = same.1;
      phys_is = same_phys;
      job_is = x.job_is ∙ ap (λ (p : Phys). job_of p n) same_phys ∙ sym y.job_is;
    }

pub compiled_in_order : ((p : Phys) (n : ℕ) → IsInOrder (job_of p n)) → CompiledIsInOrder
compiled_in_order order root n steps q phys job x = subst IsInOrder (sym x.job_is) (order phys n)
