use Rattle.std.proofs.Common.{rules, ap, ◌∙◌}
use Rattle.std.specs.Prelude.{FitsSigned, ◌+ℤ◌, ℤ}
use Rattle.std.specs.Int.{w64, cast_signed, cast_unsigned}
use Rattle.std.proofs.lemmas.Int.{to_z-of_z}
use Rattle.al_func.proofs.ItemLaws.{ints_more}
use Rattle.al_func.proofs.items.ints_between.Goals as goal

pub loop-k-preserved : goal.loop-k-preserved
loop-k-preserved c =
    let a : ℤ = cast_signed w64 (cast_unsigned w64 c.args.a) in
    let small : FitsSigned w64 c.from.result = search rules in
    let next = to_z-of_z w64 c.from.result small ∙ c.from.ensures in
    ints_more a c.loop-k.k _ _ _ c.loop-k.invariant (to_z-of_z w64 (a +ℤ cast_signed w64 (cast_unsigned w64 c.from.result)) (search rules) ∙ ap (λ (z : ℤ). a +ℤ z) next) c.in_ok-push.ensures.ok
