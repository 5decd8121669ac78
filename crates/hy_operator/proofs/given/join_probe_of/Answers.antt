use Rattle.std.proofs.Common.{Some, ◌+◌, map, refl, sym, ap, arith}
use Rattle.hy_driver.specs.Handing.{store_of}
use Rattle.hy_driver.specs.Rows.{values_of}
use Rattle.hy_job.specs.Drivers.{all_left}
use Rattle.hy_job.specs.declared.job.Kind.TheVariants as K
use Rattle.hy_operator.proofs.Making.{begins_as, fixed_of, new_as, one_goes, one_wide}
use Rattle.hy_operator.proofs.given.join_probe_of.Goals as goal

pub returns-in-Ok-new-clause-begins : goal.returns-in-Ok-new-clause-begins
returns-in-Ok-new-clause-begins g c scanned =
    let site = c.args.site in
    let wide = c.requires.fits.fits.wide in
    let left = c.requires.fits.left in
    let handed = c.requires.fits.handed in
    rw c.in-Some.is (rw c.in-Some-store.is (begins_as _ _ _ _ _ _ _ _ _ (ap (λ a. K.JoinProbe a) c.in-Ok.ensures) (record {
      new = new_as (K.JoinProbe c.in-Ok.arg) _ (all_left (K.JoinProbe c.in-Ok.arg) site.settings.partitions site.partition scanned (map values_of c.in-Some.handed.rows)) (site.shape.left + site.shape.handed) site.shape.arity (omega (arith, wide, left, handed)) (c.in-Ok-new.ensures.new site.settings.partitions scanned);
      sound = λ e. c.in-Ok-new.ensures.sound;
      inputs_go = one_goes _ c.in-Ok-new.ensures.input;
      made = fixed_of (K.JoinProbe c.in-Ok.arg) site.settings site.shape _ _ _ _ c.in-Ok-new.ensures.made (one_wide _ site.shape refl) (omega (arith, wide, left, handed));
      stored = ap (λ s. store_of g.R.RunStore.runs g.R.RunStore.faults (Some s)) c.in-Ok-new.ensures.store;
    })))
