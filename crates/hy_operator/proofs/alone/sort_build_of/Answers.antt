use Rattle.std.proofs.Common.{map, refl, sym, ◌∙◌, arith}
use Rattle.hy_driver.specs.Rows.{values_of}
use Rattle.hy_job.specs.declared.job.Kind.TheVariants as K
use Rattle.hy_operator.proofs.Making.{fixed_of, one_goes, one_wide}
use Rattle.hy_operator.proofs.alone.sort_build_of.Goals as goal

pub new-requires : goal.new-requires
new-requires c =
    let wide = c.requires.fits.wide in
    let left = c.requires.left in
    let narrow = c.requires.fits.narrow in
    omega (arith, wide, left, narrow)

pub returns : goal.returns
returns c scanned handed =
    let site = c.args.site in
    record {
      new = c.new.ensures.new c.args._keys.now site.settings.partitions scanned (map values_of handed);
      sound = λ e. c.new.ensures.sound;
      inputs_go = one_goes _ c.new.ensures.input;
      made = fixed_of (K.SortBuild c.args._keys.now) site.settings site.shape _ _ _ _ c.new.ensures.made (one_wide _ site.shape refl) (sym (c.requires.fits.wide ∙ c.requires.left));
      stored = refl;
    }
