use Rattle.std.proofs.Common.{◌≡◌, List, [], ◌∷◌, ◌++◌, ap, ◌∙◌}
use Rattle.std.specs.Prelude.{pos}
use Rattle.al_value.specs.declared.value.Value.TheVariants as V
use Rattle.al_func.specs.declared.func.Func.TheVariants as F
use Rattle.al_func.specs.declared.rex.Rex.{Rex}
use Rattle.al_func.specs.declared.rex.Rex.TheVariants as R
use Rattle.al_func.specs.Rex.{IsSound}
use Rattle.al_func.proofs.RexLaws.{is_sound-Call, is_sound-Col, is_sound-Lit}
use Rattle.al_data_tests.proofs.functions.sum.Goals as goal

sum_sound : (xs : List Rex) → xs ≡ R.Col 1 ∷ R.Lit (V.Int (pos 5)) ∷ [] → IsSound 2 (R.Call F.Add xs)
sum_sound xs e = rw e (simp (is_sound-Call, is_sound-Col, is_sound-Lit))

pub returns : goal.returns
returns c = sum_sound _ (c.in_ok-push-2.ensures.ok ∙ ap (λ xs. xs ++ R.Lit (V.Int (pos 5)) ∷ []) (c.in_ok-push.ensures.ok ∙ ap (λ xs. xs ++ R.Col 1 ∷ []) c.new-args.ensures))
