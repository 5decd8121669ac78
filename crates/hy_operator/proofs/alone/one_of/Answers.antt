use Rattle.std.proofs.Common.{map, refl, sym}
use Rattle.hy_driver.specs.Rows.{values_of}
use Rattle.hy_job.specs.declared.job.Kind.TheVariants as K
use Rattle.hy_operator.proofs.Making.{fixed_of, none_goes, none_wide}
use Rattle.hy_operator.proofs.alone.one_of.Goals as goal

pub returns : goal.returns
returns c scanned handed =
    let site = c.args.site in
    record {
      new = c.new.ensures.new site.shape.arity site.settings.partitions scanned (map values_of handed);
      sound = λ e. tt;
      inputs_go = none_goes _ c.new.ensures.input;
      made = fixed_of K.One site.settings site.shape _ _ _ _ c.new.ensures.made (none_wide _ site.shape) (sym c.requires.fits.wide);
      stored = refl;
    }
