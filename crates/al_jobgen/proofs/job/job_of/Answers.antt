use Rattle.std.proofs.Common.{sym, subst}
use Rattle.std.proofs.lemmas.Result.{IfOk-weaker}
use Rattle.hy_job.specs.Sound.{SoundJob}
use Rattle.al_jobgen.proofs.SoundPlaced.{placed_job}
use Rattle.al_jobgen.proofs.job.job_of.Goals as goal

pub returns : goal.returns
returns c =
    record {
      is = c.build.ensures.is;
      sound = IfOk-weaker c.build.result _ SoundJob (λ job e. subst SoundJob (sym e) (placed_job c.args.p.now c.args.partitions c.requires.some c.requires.few c.requires.placed)) c.build.ensures.is;
      values = c.build.ensures.values;
    }
