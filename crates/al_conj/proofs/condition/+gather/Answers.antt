use Rattle.std.proofs.Common.{◌≡◌, ◌++◌, sym, ap, ◌∙◌, append_assoc}
use Rattle.std.proofs.lemmas.Result.{on_ok_weaker}
use Rattle.al_conj.specs.Conj.{conj}
use Rattle.al_conj.proofs.ConjLaws.{conj_sides}
use Rattle.al_conj.proofs.condition.+gather.Goals as goal

pub returns-in_ok-gather-in-Some : goal.returns-in_ok-gather-in-Some
returns-in_ok-gather-in-Some t c =
    let before = c.args.found.now in
    let left = c.in-Some.left.now in
    let right = c.in-Some.right.now in
    let now = c.gather-in-Some.new.found in
    on_ok_weaker {P = now ≡ c.gather.new.found ++ conj right} {Q = now ≡ before ++ conj c.args.e.now} c.gather-in-Some.result
    (λ h. h ∙ ap (λ es. es ++ conj right) c.in_ok-gather-in-Some.ensures ∙ append_assoc before (conj left) (conj right) ∙ ap (λ es. before ++ es) (sym (conj_sides c.args.e.now left right c.in-Some.ensures))) c.gather-in-Some.ensures
