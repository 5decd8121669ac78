use Rattle.std.proofs.Common.{◌≡◌, length, refl, sym, subst, ◌∙◌}
use Rattle.std.specs.List.{AllByRecursion}
use Rattle.std.proofs.lemmas.List.Elements.{recursion_from_All}
use Rattle.hy_frame.specs.Row.{Fields}
use Rattle.hy_job.specs.declared.job.Kind.TheVariants as K
use Rattle.hy_operator.specs.Kinds.{StandsBeside}
use Rattle.hy_operator.proofs.Making.{fixed_of, is_there, none_goes, none_wide}
use Rattle.hy_operator.proofs.More.{is_own_row, rows_of}
use Rattle.hy_operator.proofs.given.group_emit_of.Goals as goal

pub new-requires-clause-width : goal.new-requires-clause-width
new-requires-clause-width g c lifetimes lives = sym c.requires.fits.handed ∙ c.requires.fits.fits.groups

pub returns : goal.returns
returns g c scanned =
    let site = c.args.site in
    let rows = c.in-Some.handed.rows in
    let beside = is_there _ _ (StandsBeside site.shape.handed) c.in-Some.is c.requires.handed in
    rw c.in-Some.is (rw c.in-Some-store.is (record {
      new = c.new.ensures.new site.settings.partitions scanned;
      sound = c.new.ensures.sound (rows_of site.shape.handed rows (subst (AllByRecursion is_own_row) c.as_slice.ensures c.are_rows.ensures) (recursion_from_All (λ (row : Fields). length row ≡ site.shape.handed) rows beside.fit));
      inputs_go = none_goes _ c.new.ensures.input;
      made = fixed_of (K.GroupEmit c.args.arg.now) site.settings site.shape _ _ _ _ c.new.ensures.made (none_wide _ site.shape) refl;
      stored = c.new.ensures.store;
    }))
