use Rattle.std.proofs.Common.{rules, nat_eq, subst, ap}
use Rattle.std.specs.Prelude.{is_some}
use Rattle.indexmap.specs.IndexMap.{get}
use Rattle.hy_join.specs.Keys.{Indexed}
use Rattle.hy_join.proofs.RightLaws.{none_there, one_there}
use Rattle.hy_join.proofs.right.RightSide.partner.Goals as goal

pub returns-in-Some-place_under-clause-row : goal.returns-in-Some-place_under-clause-row
returns-in-Some-place_under-clause-row c =
    let side = c.args.self.now in
    let index = subst (λ i. Indexed side.arg.right side.rows i) c.in-Some.is side.indexed in
    one_there side.arg.right side.rows (is_some side.index) c.args.hash c.in_ok-hash.field-0 c.args.place c.in-Some-place_under.at (get nat_eq c.in-Some.index) _ (ap is_some c.in-Some.is) (search rules) index (search rules) (search rules)

pub returns-in-None-clause-row : goal.returns-in-None-clause-row
returns-in-None-clause-row c =
    let side = c.args.self.now in
    let index = subst (λ i. Indexed side.arg.right side.rows i) c.in-Some.is side.indexed in
    none_there side.arg.right side.rows (is_some side.index) c.args.hash c.in_ok-hash.field-0 c.args.place (get nat_eq c.in-Some.index) (ap is_some c.in-Some.is) (search rules) index (search rules)
