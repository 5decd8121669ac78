use Rattle.std.proofs.Common.{map, refl}
use Rattle.hy_driver.specs.Rows.{values_of}
use Rattle.hy_job.specs.declared.job.Kind.TheVariants as K
use Rattle.hy_operator.proofs.Making.{fixed_of, one_goes, one_wide}
use Rattle.hy_operator.proofs.given.group_build_of.Goals as goal

pub returns : goal.returns
returns g c scanned handed =
    let site = c.args.site in
    rw c.in-Some.is (record {
      new = c.new.ensures.new site.settings.partitions scanned (map values_of handed);
      sound = c.new.ensures.sound;
      inputs_go = one_goes _ c.new.ensures.input;
      made = fixed_of (K.GroupBuild c.args.arg.now) site.settings site.shape _ _ _ _ c.new.ensures.made (one_wide _ site.shape refl) refl;
      stored = c.new.ensures.store;
    })
