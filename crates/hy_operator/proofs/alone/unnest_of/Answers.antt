use Rattle.std.proofs.Common.{map, refl, sym, ap, subst, arith}
use Rattle.hy_driver.specs.Rows.{values_of}
use Rattle.hy_job.specs.declared.job.Kind.TheVariants as K
use Rattle.hy_job.specs.Sound.{AreSound, item_exprs}
use Rattle.hy_operator.proofs.Making.{begins_as, fixed_of, one_goes, one_wide}
use Rattle.hy_operator.proofs.alone.unnest_of.Goals as goal

pub new-requires-clause-reads : goal.new-requires-clause-reads
new-requires-clause-reads c =
    let suits = c.requires in
    subst (λ g. AreSound c.args.site.shape.left (item_exprs g)) (sym c.in_ok-items.ensures) (subst (λ n. AreSound n (item_exprs c.args.items.now)) suits.left suits.fits.in_range)

pub new-requires-clause-few : goal.new-requires-clause-few
new-requires-clause-few c =
    let wide = c.requires.fits.wide in
    let left = c.requires.left in
    let narrow = c.requires.fits.narrow in
    omega (arith, wide, left, narrow)

pub returns : goal.returns
returns c scanned handed =
    let site = c.args.site in
    let wide = c.requires.fits.wide in
    let left = c.requires.left in
    begins_as _ _ _ _ _ _ _ _ _ (ap (λ g. K.Unnest g) c.in_ok-items.ensures) (record {
      new = c.new.ensures.new site.shape.arity site.settings.partitions scanned (map values_of handed);
      sound = λ e. tt;
      inputs_go = one_goes _ c.new.ensures.input;
      made = fixed_of (K.Unnest c.in_ok-items.items) site.settings site.shape _ _ _ _ c.new.ensures.made (one_wide _ site.shape refl) (omega (arith, wide, left));
      stored = refl;
    })
