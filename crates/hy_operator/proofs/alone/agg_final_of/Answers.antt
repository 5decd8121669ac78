use Rattle.std.proofs.Common.{◌≡◌, length, map, refl, sym, ap, subst, ◌∙◌}
use Rattle.std.specs.List.{sum_by}
use Rattle.al_agg.specs.Part.{width}
use Rattle.hy_driver.specs.Rows.{values_of}
use Rattle.hy_job.specs.declared.job.Kind.TheVariants as K
use Rattle.hy_operator.proofs.Making.{begins_as, fixed_of, one_goes, one_wide}
use Rattle.hy_operator.proofs.alone.agg_final_of.Goals as goal

pub new-requires-clause-states : goal.new-requires-clause-states
new-requires-clause-states c =
    let suits = c.requires in
    subst (λ made. c.args.site.shape.left ≡ sum_by width made) (sym c.in_ok-made.ensures) (sym suits.left ∙ suits.fits.states)

pub new-requires-clause-arity : goal.new-requires-clause-arity
new-requires-clause-arity c = subst (λ made. c.args.site.shape.arity ≡ length made) (sym c.in_ok-made.ensures) c.requires.fits.wide

pub returns-in-Ok : goal.returns-in-Ok
returns-in-Ok c scanned handed =
    let site = c.args.site in
    begins_as _ _ _ _ _ _ _ _ _ (ap (λ made. K.AggFinal made) c.in_ok-made.ensures) (record {
      new = c.in-Ok.ensures.new site.settings.partitions scanned (map values_of handed);
      sound = λ e. c.in-Ok.ensures.sound;
      inputs_go = one_goes _ c.in-Ok.ensures.input;
      made = fixed_of (K.AggFinal c.in_ok-made.made) site.settings site.shape _ _ _ _ c.in-Ok.ensures.made (one_wide _ site.shape refl) refl;
      stored = refl;
    })
