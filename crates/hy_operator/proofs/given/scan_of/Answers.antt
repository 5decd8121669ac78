use Rattle.std.proofs.Common.{map, refl}
use Rattle.hy_driver.specs.Rows.{values_of}
use Rattle.hy_job.specs.declared.job.Kind.TheVariants as K
use Rattle.hy_operator.proofs.Making.{fixed_of, none_goes, none_wide}
use Rattle.hy_operator.proofs.given.scan_of.Goals as goal

pub returns : goal.returns
returns c set handed =
    let site = c.args.site in
    rw c.in-Some.is (record {
      new = c.new.ensures.new set (map values_of handed);
      sound = λ e. tt;
      inputs_go = none_goes _ c.new.ensures.input;
      made = fixed_of (K.Scan set) site.settings site.shape _ _ _ _ c.new.ensures.made (none_wide _ site.shape) refl;
      stored = refl;
    })
