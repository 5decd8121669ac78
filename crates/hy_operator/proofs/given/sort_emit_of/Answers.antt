use Rattle.std.proofs.Common.{◌≡◌, length, refl, sym, ap, subst, ◌∙◌}
use Rattle.std.specs.List.{All}
use Rattle.hy_job.specs.declared.job.Kind.TheVariants as K
use Rattle.hy_operator.specs.Kinds.{StandsBeside}
use Rattle.hy_operator.proofs.Making.{begins_as, fixed_of, is_there, none_goes, none_wide}
use Rattle.hy_operator.proofs.given.sort_emit_of.Goals as goal

pub new-requires-clause-fit : goal.new-requires-clause-fit
new-requires-clause-fit g c =
    let site = c.args.site in
    let suits = c.requires.fits in
    let beside = is_there _ _ (StandsBeside site.shape.handed) c.in-Some.is c.requires.handed in
    subst (λ n. All (λ row. length row ≡ n) c.in-Some.handed.rows) (sym (suits.fits.wide ∙ suits.handed)) beside.fit

pub returns-in-Some-clause-begins : goal.returns-in-Some-clause-begins
returns-in-Some-clause-begins g c scanned =
    let site = c.args.site in
    rw c.in-Some.is (begins_as _ _ _ _ _ _ _ _ _ (ap (λ keys. K.SortEmit keys) c.in-Ok.ensures) (record {
      new = c.new.ensures.new site.settings.partitions scanned;
      sound = λ e. tt;
      inputs_go = none_goes _ c.new.ensures.input;
      made = fixed_of (K.SortEmit c.in-Ok.keys) site.settings site.shape _ _ _ _ c.new.ensures.made (none_wide _ site.shape) refl;
      stored = refl;
    }))
