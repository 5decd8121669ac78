use Rattle.std.proofs.Common.{rules, ◌≡◌, ◌≢◌, [], ◌+◌, refl, ℕ, None, Bool, true, false, subst, sym, ap, ◌∙◌}
use Rattle.hy_input.specs.declared.taker.Taker.{Taker}
use Rattle.hy_input.specs.Inputs.{HoldsRows, InputOf, IsStill, KeepsRows, TellsAdvanced, hand, input_of}
use Rattle.hy_connect.specs.Merges.{TellsMerged}
use Rattle.hy_connect.specs.declared.merge.Merged.{Merged}
use Rattle.hy_input.proofs.Merging.{merge_end, merge_row, merging}
use Rattle.hy_input.proofs.Holding.{let_go, merged_end, merged_row, merged_still, plain_of, same_by, went_on}
use Rattle.hy_input.proofs.input.Input.advance.Goals as goal
use Rattle.hy_input.proofs.input.Input.advance.Goals.{in-Row, in-End}

pub returns-in-Merge-clause-told : goal.returns-in-Merge-clause-told
returns-in-Merge-clause-told c =
    let i = c.self.inside in
    let m = c.in-Merge.taker in
    let m' = c.next_row.new.self in
    let was = ap (λ (t : Taker). input_of t i.from i.frame i.next i.given_up) (sym c.in-Merge.is) ∙ c.self.view_is in
    elim c.match-next_row.branch [
      | in-Row w ↦ subst (λ (b : Bool). TellsAdvanced c.args.self.now (merging m' i.from i.frame i.next i.given_up) b) (sym w.result-is)
          (subst (λ (x : InputOf). TellsAdvanced x (merging m' i.from i.frame i.next i.given_up) true) was
          (merge_row c.args.bank.now c.next_row.new.bank m m' i.from i.frame i.next i.given_up (subst (λ (r : Merged). TellsMerged c.args.bank.now c.next_row.new.bank m m' r) w.in-Row.is c.next_row.ensures.told)))
      | in-End w ↦ subst (λ (b : Bool). TellsAdvanced c.args.self.now (merging m' i.from i.frame i.next i.given_up) b) (sym w.result-is)
          (subst (λ (x : InputOf). TellsAdvanced x (merging m' i.from i.frame i.next i.given_up) false) was
          (merge_end c.args.bank.now c.next_row.new.bank m m' i.from i.frame i.next i.given_up (subst (λ (r : Merged). TellsMerged c.args.bank.now c.next_row.new.bank m m' r) w.in-End.is c.next_row.ensures.told)))
    ]

pub returns-then-go_on-clause-rows : goal.returns-then-go_on-clause-rows
returns-then-go_on-clause-rows c = λ width h.
    let i = c.self.inside in
    let old = input_of i.taker i.from i.frame i.next i.given_up in
    let is : c.go_on.new.self ≡ input_of i.taker i.from i.frame (i.next + 1) i.given_up = c.if-go_on.ensures.yes refl in
    let some : hand old ≢ [] = c.if-go_on.ensures.some refl in
    let plain = plain_of i.taker c.in_default.not-Merge in
    subst (λ (x : InputOf). KeepsRows width x c.go_on.new.self true) c.self.view_is
    (subst (λ (y : InputOf). KeepsRows width old y true) (sym is) (went_on i.taker i.from i.frame i.next i.given_up plain some width (subst (λ (x : InputOf). HoldsRows x width) (sym c.self.view_is) h)))
