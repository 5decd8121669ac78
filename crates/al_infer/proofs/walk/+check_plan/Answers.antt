use Rattle.std.proofs.Common.{◌≡◌, true, suc, ◌+◌, refl, arith, ap, ◌∙◌}
use Rattle.al_plan.specs.Allows.{live}
use Rattle.al_plan.specs.Accept.{size, site_refusal}
use Rattle.al_infer.specs.declared.walk.Spot.{Spot}
use Rattle.al_infer.specs.Walk.{inner_at, sites_at}
use Rattle.al_infer.proofs.InputLaws.{size_one, size_two, size_nesting}
use Rattle.al_infer.proofs.WalkLaws.{IsBehind, none_both, stops_first, stops_second, stops_same, told_inputs, told_plan, inner_one, inner_two, inner_nesting, first_two, first_nesting, tells_whole, sees_one, sees_two, sees_nesting, made_one, made_two, made_nesting, whole}
use Rattle.al_infer.proofs.walk.+check_plan.Goals as goal

pub check_inputs-check_plan-requires : goal.check_inputs-check_plan-requires
check_inputs-check_plan-requires t c = let e = size_one c.args.op.now _ c.in-One.ensures in (omega (arith, c.decreases), tt)

pub check_inputs-check_plan-requires-in-Two : goal.check_inputs-check_plan-requires-in-Two
check_inputs-check_plan-requires-in-Two t c = let e = size_two c.args.op.now _ _ c.in-Two.ensures in (omega (arith, c.decreases), tt)

pub check_inputs-check_plan-requires-in-Two-2 : goal.check_inputs-check_plan-requires-in-Two-2
check_inputs-check_plan-requires-in-Two-2 t c = let e = size_two c.args.op.now _ _ c.in-Two.ensures in (omega (arith, c.decreases), tt)

pub check_inputs-check_plan-requires-in-Nested : goal.check_inputs-check_plan-requires-in-Nested
check_inputs-check_plan-requires-in-Nested t c = let e = size_nesting c.args.op.now _ _ c.in-Nested.ensures in (omega (arith, c.decreases), tt)

pub check_inputs-check_plan-requires-in-Nested-2 : goal.check_inputs-check_plan-requires-in-Nested-2
check_inputs-check_plan-requires-in-Nested-2 t c = let e = size_nesting c.args.op.now _ _ c.in-Nested.ensures in (omega (arith, c.decreases), tt)

pub check_inputs-returns-in_err-left-in-One : goal.check_inputs-returns-in_err-left-in-One
check_inputs-returns-in_err-left-in-One t c fits =
    let e = size_one c.args.op.now _ c.in-One.ensures in
    let b : IsBehind c.args.spot c.behind.result (suc c.args.spot.number) = record { at = omega (arith, c.behind.ensures.number); same_inside = c.behind.ensures.inside; same_given = c.behind.ensures.given } in
    let all = inner_one c.args.spot c.args.made.now c.args.op.now c.in-One.input.now c.in-One.ensures c.behind.result b in
    told_inputs c.args.decls.now c.args.places.now c.args.spot c.args.made.now c.args.op.now _ c.in_err-left-in-One.field-0.0 _ c.from_residual.ensures.1 (stops_same c.args.decls.now c.args.places.now _ _ _ all (c.in_err-left-in-One.ensures (omega (arith, b.at))))

pub check_inputs-returns-in_ok-left-in-One : goal.check_inputs-returns-in_ok-left-in-One
check_inputs-returns-in_ok-left-in-One t c fits =
    let e = size_one c.args.op.now _ c.in-One.ensures in
    let b : IsBehind c.args.spot c.behind.result (suc c.args.spot.number) = record { at = omega (arith, c.behind.ensures.number); same_inside = c.behind.ensures.inside; same_given = c.behind.ensures.given } in
    let all = inner_one c.args.spot c.args.made.now c.args.op.now c.in-One.input.now c.in-One.ensures c.behind.result b in
    let h = c.in_ok-left-in-One.ensures (omega (arith, b.at)) in (
      ap (site_refusal c.args.decls.now c.args.places.now) all ∙ h.0,
      sees_one c.args.spot c.args.made.now c.args.op.now c.in-One.input.now c.in-One.ensures _ _ (h.1 ∙ ap (live c.in-One.input.now) b.same_given) c.new-in-One.ensures,
      made_one c.args.spot c.args.made.now c.args.op.now c.in-One.input.now c.in-One.ensures _ h.2,
    )

pub check_inputs-returns-in_err-left-in-Two : goal.check_inputs-returns-in_err-left-in-Two
check_inputs-returns-in_err-left-in-Two t c fits =
    let e = size_two c.args.op.now _ _ c.in-Two.ensures in
    let b : IsBehind c.args.spot c.behind-in-Two.result (suc c.args.spot.number) = record { at = omega (arith, c.behind-in-Two.ensures.number); same_inside = c.behind-in-Two.ensures.inside; same_given = c.behind-in-Two.ensures.given } in
    told_inputs c.args.decls.now c.args.places.now c.args.spot c.args.made.now c.args.op.now _ c.in_err-left-in-Two.field-0.0 _ c.from_residual-in_err-left-in-Two.ensures.1
    (stops_same c.args.decls.now c.args.places.now _ _ _ (first_two c.args.spot c.args.made.now c.args.op.now c.in-Two.first.now c.in-Two.second.now c.in-Two.ensures c.behind-in-Two.result b) (stops_first c.args.decls.now c.args.places.now (sites_at c.behind-in-Two.result c.args.made.now c.in-Two.first.now) _ _ (c.in_err-left-in-Two.ensures (omega (arith, b.at)))))

pub check_inputs-returns-in_err-right-in-Two : goal.check_inputs-returns-in_err-right-in-Two
check_inputs-returns-in_err-right-in-Two t c fits =
    let e = size_two c.args.op.now _ _ c.in-Two.ensures in
    let b : IsBehind c.args.spot c.behind-in-Two.result (suc c.args.spot.number) = record { at = omega (arith, c.behind-in-Two.ensures.number); same_inside = c.behind-in-Two.ensures.inside; same_given = c.behind-in-Two.ensures.given } in
    let h = c.in_ok-left-in-Two.ensures (omega (arith, b.at)) in
    let d : IsBehind c.args.spot c.behind-in-Two-2.result (suc c.args.spot.number + size c.in-Two.first.now) = record { at = omega (arith, c.behind-in-Two-2.ensures.number, c.size.ensures); same_inside = c.behind-in-Two-2.ensures.inside; same_given = c.behind-in-Two-2.ensures.given } in
    let all = inner_two c.args.spot c.args.made.now c.args.op.now c.in-Two.first.now c.in-Two.second.now c.in-Two.ensures c.behind-in-Two.result c.behind-in-Two-2.result b d c.check_plan-in-Two.new.made h.2 in
    told_inputs c.args.decls.now c.args.places.now c.args.spot c.args.made.now c.args.op.now _ c.in_err-right-in-Two.field-0.0 _ c.from_residual-in_err-right-in-Two.ensures.1
    (stops_same c.args.decls.now c.args.places.now _ _ _ all (stops_second c.args.decls.now c.args.places.now (sites_at c.behind-in-Two.result c.args.made.now c.in-Two.first.now) (sites_at c.behind-in-Two-2.result c.check_plan-in-Two.new.made c.in-Two.second.now) _ h.0 (c.in_err-right-in-Two.ensures (omega (arith, d.at)))))

pub check_inputs-returns-in_ok-right-in-Two : goal.check_inputs-returns-in_ok-right-in-Two
check_inputs-returns-in_ok-right-in-Two t c fits =
    let e = size_two c.args.op.now _ _ c.in-Two.ensures in
    let b : IsBehind c.args.spot c.behind-in-Two.result (suc c.args.spot.number) = record { at = omega (arith, c.behind-in-Two.ensures.number); same_inside = c.behind-in-Two.ensures.inside; same_given = c.behind-in-Two.ensures.given } in
    let h = c.in_ok-left-in-Two.ensures (omega (arith, b.at)) in
    let d : IsBehind c.args.spot c.behind-in-Two-2.result (suc c.args.spot.number + size c.in-Two.first.now) = record { at = omega (arith, c.behind-in-Two-2.ensures.number, c.size.ensures); same_inside = c.behind-in-Two-2.ensures.inside; same_given = c.behind-in-Two-2.ensures.given } in
    let all = inner_two c.args.spot c.args.made.now c.args.op.now c.in-Two.first.now c.in-Two.second.now c.in-Two.ensures c.behind-in-Two.result c.behind-in-Two-2.result b d c.check_plan-in-Two.new.made h.2 in
    let k = c.in_ok-right-in-Two.ensures (omega (arith, d.at)) in (
      ap (site_refusal c.args.decls.now c.args.places.now) all ∙ none_both c.args.decls.now c.args.places.now (sites_at c.behind-in-Two.result c.args.made.now c.in-Two.first.now) (sites_at c.behind-in-Two-2.result c.check_plan-in-Two.new.made c.in-Two.second.now) h.0 k.0,
      sees_two c.args.spot c.args.made.now c.args.op.now c.in-Two.first.now c.in-Two.second.now c.in-Two.ensures _ _ (h.1 ∙ ap (live c.in-Two.first.now) b.same_given) (k.1 ∙ ap (live c.in-Two.second.now) d.same_given),
      made_two c.args.spot c.args.made.now c.args.op.now c.in-Two.first.now c.in-Two.second.now c.in-Two.ensures c.check_plan-in-Two.new.made _ h.2 k.2,
    )

pub check_inputs-returns-in_err-left-in-Nested : goal.check_inputs-returns-in_err-left-in-Nested
check_inputs-returns-in_err-left-in-Nested t c fits =
    let e = size_nesting c.args.op.now _ _ c.in-Nested.ensures in
    let b : IsBehind c.args.spot c.behind-in-Nested.result (suc c.args.spot.number + size c.in-Nested.nested.now) = record { at = omega (arith, c.behind-in-Nested.ensures.number, c.size-in-Nested.ensures); same_inside = c.behind-in-Nested.ensures.inside; same_given = c.behind-in-Nested.ensures.given } in
    told_inputs c.args.decls.now c.args.places.now c.args.spot c.args.made.now c.args.op.now _ c.in_err-left-in-Nested.field-0.0 _ c.from_residual-in_err-left-in-Nested.ensures.1
    (stops_same c.args.decls.now c.args.places.now _ _ _ (first_nesting c.args.spot c.args.made.now c.args.op.now c.in-Nested.nested.now c.in-Nested.input.now c.in-Nested.ensures c.behind-in-Nested.result b) (stops_first c.args.decls.now c.args.places.now (sites_at c.behind-in-Nested.result c.args.made.now c.in-Nested.input.now) _ _ (c.in_err-left-in-Nested.ensures (omega (arith, b.at)))))

pub check_inputs-returns-in_err-right-in-Nested : goal.check_inputs-returns-in_err-right-in-Nested
check_inputs-returns-in_err-right-in-Nested t c fits =
    let e = size_nesting c.args.op.now _ _ c.in-Nested.ensures in
    let b : IsBehind c.args.spot c.behind-in-Nested.result (suc c.args.spot.number + size c.in-Nested.nested.now) = record { at = omega (arith, c.behind-in-Nested.ensures.number, c.size-in-Nested.ensures); same_inside = c.behind-in-Nested.ensures.inside; same_given = c.behind-in-Nested.ensures.given } in
    let h = c.in_ok-left-in-Nested.ensures (omega (arith, b.at)) in
    let at : c.behind-next.result.number ≡ suc c.args.spot.number = omega (arith, c.behind-next.ensures.number) in
    let seen : c.as_slice.result.now ≡ live c.in-Nested.input.now c.args.spot.given.now = c.as_slice.ensures ∙ h.1 ∙ ap (live c.in-Nested.input.now) b.same_given in
    let inner : Spot = record { number = c.behind-next.result.number; inside = true; given = c.as_slice.result } in
    let all = inner_nesting c.args.spot c.args.made.now c.args.op.now c.in-Nested.nested.now c.in-Nested.input.now c.in-Nested.ensures c.behind-in-Nested.result inner b at refl seen c.check_plan-in-Nested.new.made h.2 in
    told_inputs c.args.decls.now c.args.places.now c.args.spot c.args.made.now c.args.op.now _ c.in_err-right-in-Nested.field-0.0 _ c.from_residual-in_err-right-in-Nested.ensures.1
    (stops_same c.args.decls.now c.args.places.now _ _ _ all (stops_second c.args.decls.now c.args.places.now (sites_at c.behind-in-Nested.result c.args.made.now c.in-Nested.input.now) (sites_at inner c.check_plan-in-Nested.new.made c.in-Nested.nested.now) _ h.0 (c.in_err-right-in-Nested.ensures (omega (arith, at)))))

pub check_inputs-returns-in_ok-right-in-Nested : goal.check_inputs-returns-in_ok-right-in-Nested
check_inputs-returns-in_ok-right-in-Nested t c fits =
    let e = size_nesting c.args.op.now _ _ c.in-Nested.ensures in
    let b : IsBehind c.args.spot c.behind-in-Nested.result (suc c.args.spot.number + size c.in-Nested.nested.now) = record { at = omega (arith, c.behind-in-Nested.ensures.number, c.size-in-Nested.ensures); same_inside = c.behind-in-Nested.ensures.inside; same_given = c.behind-in-Nested.ensures.given } in
    let h = c.in_ok-left-in-Nested.ensures (omega (arith, b.at)) in
    let at : c.behind-next.result.number ≡ suc c.args.spot.number = omega (arith, c.behind-next.ensures.number) in
    let seen : c.as_slice.result.now ≡ live c.in-Nested.input.now c.args.spot.given.now = c.as_slice.ensures ∙ h.1 ∙ ap (live c.in-Nested.input.now) b.same_given in
    let inner : Spot = record { number = c.behind-next.result.number; inside = true; given = c.as_slice.result } in
    let all = inner_nesting c.args.spot c.args.made.now c.args.op.now c.in-Nested.nested.now c.in-Nested.input.now c.in-Nested.ensures c.behind-in-Nested.result inner b at refl seen c.check_plan-in-Nested.new.made h.2 in
    let k = c.in_ok-right-in-Nested.ensures (omega (arith, at)) in (
      ap (site_refusal c.args.decls.now c.args.places.now) all ∙ none_both c.args.decls.now c.args.places.now (sites_at c.behind-in-Nested.result c.args.made.now c.in-Nested.input.now) (sites_at inner c.check_plan-in-Nested.new.made c.in-Nested.nested.now) h.0 k.0,
      sees_nesting c.args.spot c.args.made.now c.args.op.now c.in-Nested.nested.now c.in-Nested.input.now c.in-Nested.ensures _ _ (h.1 ∙ ap (live c.in-Nested.input.now) b.same_given) (k.1 ∙ ap (live c.in-Nested.nested.now) seen),
      made_nesting c.args.spot c.args.made.now c.args.op.now c.in-Nested.nested.now c.in-Nested.input.now c.in-Nested.ensures c.check_plan-in-Nested.new.made _ h.2 k.2,
    )

pub check_plan-returns-in_err-seen : goal.check_plan-returns-in_err-seen
check_plan-returns-in_err-seen t c fits =
    told_plan c.args.decls.now c.args.places.now c.args.spot c.args.made.now c.args.plan.now _ c.in_err-seen.field-0.0 _ c.from_residual.ensures.1
    (stops_same c.args.decls.now c.args.places.now _ _ _ (whole c.args.spot c.args.made.now c.args.plan.now _ refl) (stops_first c.args.decls.now c.args.places.now (inner_at c.args.spot c.args.made.now c.args.plan.now) _ _ (c.in_err-seen.ensures fits)))

pub check_plan-returns : goal.check_plan-returns
check_plan-returns t c fits =
    let h = c.in_ok-seen.ensures fits in
    tells_whole c.args.decls.now c.args.places.now c.args.spot c.args.made.now c.check_inputs.new.made c.check_operator.new.made c.args.plan.now h.0 h.2 c.check_operator.result (c.check_operator.ensures h.1)
