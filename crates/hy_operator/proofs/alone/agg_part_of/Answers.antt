use Rattle.std.proofs.Common.{◌≡◌, length, map, refl, sym, ap, subst, ◌∙◌}
use Rattle.hy_job.specs.Sound.{AreSoundAggs, states_width}
use Rattle.hy_driver.specs.Rows.{values_of}
use Rattle.hy_job.specs.declared.job.Kind.TheVariants as K
use Rattle.hy_operator.proofs.Making.{begins_as, fixed_of, one_goes, one_wide}
use Rattle.hy_operator.proofs.alone.agg_part_of.Goals as goal

pub new-requires-clause-in_range : goal.new-requires-clause-in_range
new-requires-clause-in_range c =
    let suits = c.requires in
    subst (λ made. AreSoundAggs c.args.site.shape.left made) (sym c.in_ok-made.ensures) (subst (λ n. AreSoundAggs n c.args.made.now) suits.left suits.fits.in_range)

pub new-requires-clause-arity : goal.new-requires-clause-arity
new-requires-clause-arity c = subst (λ made. c.args.site.shape.arity ≡ states_width made) (sym c.in_ok-made.ensures) c.requires.fits.wide

pub returns-in-Ok : goal.returns-in-Ok
returns-in-Ok c scanned handed =
    let site = c.args.site in
    begins_as _ _ _ _ _ _ _ _ _ (ap (λ made. K.AggPart made) c.in_ok-made.ensures) (record {
      new = c.in-Ok.ensures.new site.settings.partitions scanned (map values_of handed);
      sound = λ e. c.in-Ok.ensures.sound;
      inputs_go = one_goes _ c.in-Ok.ensures.input;
      made = fixed_of (K.AggPart c.in_ok-made.made) site.settings site.shape _ _ _ _ c.in-Ok.ensures.made (one_wide _ site.shape refl) refl;
      stored = refl;
    })
