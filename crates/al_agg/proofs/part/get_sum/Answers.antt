use Rattle.std.proofs.Common.{◌≡◌, ◌∷◌, false, drop, refl, rules}
use Rattle.al_value.specs.declared.value.Value.TheVariants as V
use Rattle.al_agg.proofs.FieldLaws.{no_sum}
use Rattle.al_agg.proofs.part.get_sum.Goals as goal

pub returns-in-Bool-2-clause-sum : goal.returns-in-Bool-2-clause-sum
returns-in-Bool-2-clause-sum c =
    let front : c.args.fields.now ≡ V.Bool false ∷ drop 1 c.args.fields.now = search rules in
    no_sum c.args.fields.now front (c.if-are_zero.ensures.0 refl)
