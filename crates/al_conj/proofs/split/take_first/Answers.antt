use Rattle.std.proofs.Common.{suc, take, drop, sym, ap, ◌∙◌}
use Rattle.std.specs.List.{position}
use Rattle.al_conj.specs.Conj.{conj, all_of}
use Rattle.al_conj.proofs.FirstLaws.{none_in, at_place}
use Rattle.al_conj.proofs.split.take_first.Goals as goal

pub returns-in_default : goal.returns-in_default
returns-in_default g c =
    none_in (g.P.Property.holds_of c.args.property.now) (conj c.args.e.now) c.as_slice.result.now (c.as_slice.ensures.value ∙ c.into_vec-others.ensures ∙ c.in_ok-conjuncts.ensures) (sym (c.in_default.ensures {u = tt}))

pub returns : goal.returns
returns g c =
    let has = g.P.Property.holds_of c.args.property.now in
    let all = c.into_vec-others.result.items in
    let at = c.in-Some.at in
    let found = at_place has all at c.remove-first.result (ap (position has) (sym c.as_slice.ensures.value) ∙ sym (c.in-Some.ensures {u = tt})) c.remove-first.ensures.value in (
      take at all,
      drop (suc at) all,
      record { parts = sym (c.into_vec-others.ensures ∙ c.in_ok-conjuncts.ensures) ∙ found.0; none_before = found.1; has_it = found.2 },
      c.in_ok-rest.ensures ∙ ap all_of (c.from_vec.ensures ∙ c.remove-first.ensures.items),
    )
