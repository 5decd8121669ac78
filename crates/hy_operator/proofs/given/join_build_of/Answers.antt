use Rattle.std.proofs.Common.{Some, map, refl, sym, ap, ◌∙◌}
use Rattle.hy_driver.specs.Handing.{store_of}
use Rattle.hy_driver.specs.Rows.{values_of}
use Rattle.hy_job.specs.declared.job.Kind.TheVariants as K
use Rattle.hy_operator.proofs.Making.{fixed_of, one_goes, one_wide}
use Rattle.hy_operator.proofs.given.join_build_of.Goals as goal

pub returns : goal.returns
returns g c scanned handed =
    let site = c.args.site in
    rw c.in-Some.is (record {
      new = c.new.ensures.new site.settings.partitions scanned (map values_of handed);
      sound = λ e. c.new.ensures.sound;
      inputs_go = one_goes _ c.new.ensures.input;
      made = fixed_of (K.JoinBuild c.args.arg.now) site.settings site.shape _ _ _ _ c.new.ensures.made (one_wide _ site.shape refl) (sym (c.requires.fits.fits.wide ∙ c.requires.fits.left));
      stored = ap (λ s. store_of g.R.RunStore.runs g.R.RunStore.faults (Some s)) c.new.ensures.store;
    })
