use Rattle.std.proofs.Common.{[], ◌∷◌, ◌++◌, sym, ap, ◌∙◌, append_assoc}
use Rattle.al_conj.specs.Conj as meaning
use Rattle.al_conj.proofs.ConjLaws.{all_of_step}
use Rattle.al_conj.proofs.condition.all_of.Goals as goal

pub loop-e-preserved : goal.loop-e-preserved
loop-e-preserved c =
    let e = c.in-Some-pop.e in
    let rest = c.pop-in-loop-e.new.self in
    c.loop-e.invariant ∙ ap (λ es. meaning.all_of (es ++ c.loop-e.whole ∷ [])) c.in-Some-pop.ensures ∙ ap meaning.all_of (append_assoc rest (e ∷ []) (c.loop-e.whole ∷ []))
    ∙ sym (all_of_step rest e c.loop-e.whole) ∙ ap (λ w. meaning.all_of (rest ++ w ∷ [])) (sym c.in_ok-whole.ensures)
