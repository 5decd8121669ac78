use Rattle.std.proofs.Common.{◌≡◌, ◌+◌, length, map, refl, sym, ap, subst, ◌∙◌}
use Rattle.hy_driver.specs.Rows.{values_of}
use Rattle.hy_job.specs.declared.job.Kind.TheVariants as K
use Rattle.hy_job.specs.Nested.{n_width}
use Rattle.hy_job.specs.Sound.{SoundNested}
use Rattle.hy_operator.proofs.Making.{begins_as, fixed_of, one_goes, one_wide}
use Rattle.hy_operator.proofs.alone.pre_group_of.Goals as goal

pub new-requires-clause-sound : goal.new-requires-clause-sound
new-requires-clause-sound c =
    let suits = c.requires in
    subst (λ p. SoundNested p c.args.site.shape.left) (sym c.in_ok-nested.ensures) (subst (λ n. SoundNested c.args.nested.now n) suits.left suits.fits.nested)

pub new-requires-clause-behind : goal.new-requires-clause-behind
new-requires-clause-behind c =
    let suits = c.requires in
    subst (λ ks. c.args.site.shape.arity ≡ length ks + n_width c.in_ok-nested.nested c.args.site.shape.left) (sym c.in_ok-keys.ensures)
    (subst (λ p. c.args.site.shape.arity ≡ length c.args.keys.now + n_width p c.args.site.shape.left) (sym c.in_ok-nested.ensures)
    (subst (λ n. c.args.site.shape.arity ≡ length c.args.keys.now + n_width c.args.nested.now n) suits.left suits.fits.wide))

pub returns : goal.returns
returns c scanned handed =
    let site = c.args.site in
    begins_as _ _ _ _ _ _ _ _ _ (ap (λ ks. K.PreGroup ks c.in_ok-nested.nested) c.in_ok-keys.ensures ∙ ap (λ p. K.PreGroup c.args.keys.now p) c.in_ok-nested.ensures) (record {
      new = c.new.ensures.new site.shape.arity site.settings.partitions scanned (map values_of handed);
      sound = λ e. c.new.ensures.sound;
      inputs_go = one_goes _ c.new.ensures.input;
      made = fixed_of (K.PreGroup c.in_ok-keys.keys c.in_ok-nested.nested) site.settings site.shape _ _ _ _ c.new.ensures.made (one_wide _ site.shape refl) refl;
      stored = refl;
    })
