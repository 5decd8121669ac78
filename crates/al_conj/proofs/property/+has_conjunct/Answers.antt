use Rattle.std.proofs.Common.{sym, ap, ◌∙◌}
use Rattle.std.specs.Prelude.{◌||◌}
use Rattle.std.specs.List.{list_any}
use Rattle.al_conj.specs.Conj.{conj}
use Rattle.al_conj.proofs.ConjLaws.{has_sides}
use Rattle.al_conj.proofs.property.+has_conjunct.Goals as goal

pub returns-then-has_conjunct : goal.returns-then-has_conjunct
returns-then-has_conjunct g t c =
    let has = g.P.Property.holds_of c.args.property.now in
    c.if-has_conjunct.true ∙ ap (λ b. b || list_any has (conj c.in-Some.right.now)) (sym c.if-has_conjunct.true ∙ c.has_conjunct.ensures) ∙ sym (has_sides has c.args.e.now c.in-Some.left.now c.in-Some.right.now c.in-Some.ensures)

pub returns-else-has_conjunct : goal.returns-else-has_conjunct
returns-else-has_conjunct g t c =
    let has = g.P.Property.holds_of c.args.property.now in
    c.has_conjunct-else-has_conjunct.ensures ∙ ap (λ b. b || list_any has (conj c.in-Some.right.now)) (sym c.if-has_conjunct.false ∙ c.has_conjunct.ensures) ∙ sym (has_sides has c.args.e.now c.in-Some.left.now c.in-Some.right.now c.in-Some.ensures)
