use Rattle.std.proofs.Common.{◌≡◌, ◌<◌, ◌-◌, ◌∙◌, ap, arith, sym, subst, length, set, Some, None}
use Rattle.std.proofs.lemmas.List.{get_or_default}
use Rattle.std.proofs.lemmas.List.FromFn.{length-range_with_len}
use Rattle.std.specs.List.{range_with_len}
use Rattle.hy_job.specs.Finding as spec
use Rattle.hy_job.proofs.Connections.{roots_begin, roots_keep, roots_step, roots_end, target_in, ends}
use Rattle.hy_job.proofs.staging.find_roots.Goals as goal

pub loop-place-init : goal.loop-place-init
loop-place-init c =
    let all : c.in_ok-roots.roots.items ≡ range_with_len 0 (length c.args.job.now.activities) = c.in_ok-roots.ensures ∙ ap (range_with_len 0) c.len.ensures in
    let many : c.len-place.result ≡ length c.args.job.now.activities = let n = ap length all ∙ length-range_with_len 0 (length c.args.job.now.activities) in omega (arith, c.len-place.ensures, n) in
    (c.as_slice-edges.ensures, omega (arith, many), subst (spec.AreRootsFrom c.args.job.now c.in_ok-roots.roots.items) (sym many) (roots_begin c.args.job.now c.in_ok-roots.roots.items all))

pub index-requires : goal.index-requires
index-requires c =
    let some : spec.target_of c.args.job.now.edges (c.loop-place.place - 1) ≡ Some c.in-Some.to =
    ap (λ es. spec.target_of es (c.loop-place.place - 1)) (sym c.loop-place.invariant.0) ∙ sym c.in-Some.ensures in
    let e = target_in c.args.job.now.edges (c.loop-place.place - 1) c.in-Some.to some in
    let down = ends c.args.job.now c.requires e.0 e.1 in
    omega (arith, down, e.3, c.loop-place.invariant.2.count)

pub loop-place-preserved-in-Some : goal.loop-place-preserved-in-Some
loop-place-preserved-in-Some c =
    let some : spec.target_of c.args.job.now.edges (c.loop-place.place - 1) ≡ Some c.in-Some.to =
    ap (λ es. spec.target_of es (c.loop-place.place - 1)) (sym c.loop-place.invariant.0) ∙ sym c.in-Some.ensures in
    let e = target_in c.args.job.now.edges (c.loop-place.place - 1) c.in-Some.to some in
    let down = ends c.args.job.now c.requires e.0 e.1 in
    let inside : c.in-Some.to < length c.loop-place.roots.items = omega (arith, down, e.3, c.loop-place.invariant.2.count) in
    let read : c.index.result.now ≡ spec.root_at c.loop-place.roots.items c.in-Some.to = c.index.ensures ∙ get_or_default c.loop-place.roots.items c.in-Some.to c.index.result.now 0 inside in (
      c.loop-place.invariant.0,
      omega (arith, c.loop-place.invariant.1),
      subst (λ x. spec.AreRootsFrom c.args.job.now (set c.loop-place.roots.items (c.loop-place.place - 1) x) (c.loop-place.place - 1)) (sym read)
          (roots_step c.args.job.now c.requires c.loop-place.roots.items (c.loop-place.place - 1) c.loop-place.place c.in-Some.to (omega (arith, c.loop-place-test.true)) c.loop-place.invariant.1 c.loop-place.invariant.2 some),
    )

pub loop-place-preserved : goal.loop-place-preserved
loop-place-preserved c =
    let none : spec.target_of c.args.job.now.edges (c.loop-place.place - 1) ≡ None = ap (λ es. spec.target_of es (c.loop-place.place - 1)) (sym c.loop-place.invariant.0) ∙ sym c.in_default.ensures in (
      c.loop-place.invariant.0,
      omega (arith, c.loop-place.invariant.1),
      roots_keep c.args.job.now c.requires c.loop-place.roots.items (c.loop-place.place - 1) c.loop-place.place (omega (arith, c.loop-place-test.true)) c.loop-place.invariant.1 c.loop-place.invariant.2 none,
    )

pub returns : goal.returns
returns c =
    let done : c.loop-place.place ≡ 0 = omega (arith, c.loop-place-test.false) in
    roots_end c.args.job.now c.loop-place.roots.items (subst (spec.AreRootsFrom c.args.job.now c.loop-place.roots.items) done c.loop-place.invariant.2)
