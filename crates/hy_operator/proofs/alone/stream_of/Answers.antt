use Rattle.std.proofs.Common.{map, refl, sym, subst}
use Rattle.hy_driver.specs.Rows.{values_of}
use Rattle.hy_job.specs.Sound.{HasArity, IsInRange}
use Rattle.hy_operator.proofs.Making.{begins_as}
use Rattle.hy_operator.proofs.More.{row_arity, row_fixed, row_range, stream_width}
use Rattle.hy_operator.proofs.alone.stream_of.Goals as goal

pub new-requires-clause-in_range : goal.new-requires-clause-in_range
new-requires-clause-in_range c =
    let suits = c.requires.fits in
    row_range c.in_ok-work.work suits.widths _ suits.left suits.right (subst (λ k. IsInRange k suits.widths) (sym c.in_ok-work.ensures) suits.fits.in_range)

pub new-requires-clause-arity : goal.new-requires-clause-arity
new-requires-clause-arity c =
    let suits = c.requires.fits in
    row_arity c.in_ok-work.work suits.widths _ c.args.site.shape.arity suits.left (subst (λ k. HasArity k suits.widths c.args.site.shape.arity) (sym c.in_ok-work.ensures) suits.fits.wide)

pub returns : goal.returns
returns c scanned handed =
    let site = c.args.site in
    begins_as _ _ _ _ _ _ _ _ _ c.in_ok-work.ensures (record {
      new = c.new.ensures.new site.settings.partitions scanned (map values_of handed);
      sound = λ e. tt;
      inputs_go = c.new.ensures.input;
      made = row_fixed c.in_ok-work.work site.settings site.shape _ _ _ (stream_width site.shape) c.new.ensures.made;
      stored = refl;
    })
