use Rattle.std.proofs.Common.{◌≡◌, Bool, Decides, sym, subst}
use Rattle.al_plain.proofs.ValueLaws.{cells_tested, cells_decide}
use Rattle.al_plain.proofs.distinct.same_row.Goals as goal

pub returns-clause-test : goal.returns-clause-test
returns-clause-test c = cells_tested _ _ _ c.eq.ensures

pub returns-clause-same : goal.returns-clause-same
returns-clause-same c = subst (λ (r : Bool). Decides r (c.args.a.now ≡ c.args.b.now)) (sym (cells_tested _ _ _ c.eq.ensures)) (cells_decide c.args.a.now c.args.b.now)
