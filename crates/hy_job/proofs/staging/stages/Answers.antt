use Rattle.std.proofs.Common.{◌≡◌, ◌<◌, ◌∙◌, ◌++◌, ◌∷◌, [], ap, arith, sym, subst, length, Option, List, ℕ}
use Rattle.hy_job.specs.declared.job.Block.{Block}
use Rattle.std.specs.List.{range_with_len, All}
use Rattle.hy_job.specs.Finding as spec
use Rattle.hy_job.proofs.StageLaws.{none_yet, fewer, one_more, all_found}
use Rattle.hy_job.proofs.staging.stages.Goals as goal

-- what is left is below the number of roots
within : (left roots : List ℕ) (n : ℕ) → All (λ a. a < n) left → length roots ≡ n → All (λ a. a < length roots) left
within left roots n h e = subst (λ m. All (λ a. a < m) left) (sym e) h

-- the answer, over the lists that the slices are
next_is : {blocks blocks' : List Block} {roots roots' left left' : List ℕ} {o : Option ℕ} → blocks ≡ blocks' → roots ≡ roots' → left ≡ left' → o ≡ spec.next_root blocks roots left → spec.next_root blocks' roots' left' ≡ o
next_is {blocks} {blocks'} {roots} {roots'} {left} {left'} {o} b r l e =
    sym (e ∙ (ap (λ x. spec.next_root x roots left) b ∙ (ap (λ x. spec.next_root blocks' x left) r ∙ ap (spec.next_root blocks' roots') l)))

pub loop-root-init : goal.loop-root-init
loop-root-init c =
    let roots = c.in_ok-roots.ensures in
    let many : c.len.result ≡ length c.args.job.now.activities = omega (arith, c.len.ensures, roots.count) in
    let all : c.in_ok-left.left.items ≡ range_with_len 0 (length c.args.job.now.activities) = c.in_ok-left.ensures ∙ ap (range_with_len 0) many in (
      c.as_slice-blocks.ensures,
      roots,
      subst (spec.AreSoFar c.args.job.now c.in_ok-roots.roots.items c.in_ok-left.left.items) (sym c.new-stages.ensures) (none_yet c.args.job.now c.in_ok-roots.roots.items c.in_ok-left.left.items all),
    )

pub next_root-requires-clause-within : goal.next_root-requires-clause-within
next_root-requires-clause-within c =
    subst (λ xs. All (λ a. a < length xs) c.deref-in-loop-root.result.now) (sym c.deref.ensures.value)
    (subst (All (λ a. a < length c.in_ok-roots.roots.items)) (sym c.deref-in-loop-root.ensures.value)
    (within c.loop-root.left.items c.in_ok-roots.roots.items _ c.loop-root.invariant.2.within c.loop-root.invariant.1.count))

pub with_root-requires : goal.with_root-requires
with_root-requires c =
    subst (λ xs. All (λ a. a < length xs) c.deref-in-Some-2.result.now) (sym c.deref-in-Some.ensures.value)
    (subst (All (λ a. a < length c.in_ok-roots.roots.items)) (sym c.deref-in-Some-2.ensures.value)
    (within c.loop-root.left.items c.in_ok-roots.roots.items _ c.loop-root.invariant.2.within c.loop-root.invariant.1.count))

pub without_root-requires : goal.without_root-requires
without_root-requires c =
    subst (λ xs. All (λ a. a < length xs) c.deref-in-Some-4.result.now) (sym c.deref-in-Some-3.ensures.value)
    (subst (All (λ a. a < length c.in_ok-roots.roots.items)) (sym c.deref-in-Some-4.ensures.value)
    (within c.loop-root.left.items c.in_ok-roots.roots.items _ c.loop-root.invariant.2.within c.loop-root.invariant.1.count))

pub loop-root-smaller : goal.loop-root-smaller
loop-root-smaller c =
    let some = next_is c.loop-root.invariant.0 c.deref.ensures.value c.deref-in-loop-root.ensures.value c.in-Some.ensures in
    let others : c.in_ok-left-2.left.items ≡ spec.without_root c.in_ok-roots.roots.items c.in-Some.root c.loop-root.left.items =
    c.in_ok-left-2.ensures ∙ (ap (λ rs. spec.without_root rs c.in-Some.root c.deref-in-Some-4.result.now) c.deref-in-Some-3.ensures.value ∙ ap (spec.without_root c.in_ok-roots.roots.items c.in-Some.root) c.deref-in-Some-4.ensures.value) in
    subst (λ xs. length xs < length c.loop-root.left.items) (sym others) (fewer c.args.job.now c.requires c.in_ok-roots.roots.items c.loop-root.left.items c.loop-root.stages c.loop-root.invariant.1 c.loop-root.invariant.2 c.in-Some.root some)

pub loop-root-preserved : goal.loop-root-preserved
loop-root-preserved c =
    let some = next_is c.loop-root.invariant.0 c.deref.ensures.value c.deref-in-loop-root.ensures.value c.in-Some.ensures in
    let part : c.in_ok-activities.activities ≡ spec.with_root c.in_ok-roots.roots.items c.in-Some.root c.loop-root.left.items =
    c.in_ok-activities.ensures ∙ (ap (λ rs. spec.with_root rs c.in-Some.root c.deref-in-Some-2.result.now) c.deref-in-Some.ensures.value ∙ ap (spec.with_root c.in_ok-roots.roots.items c.in-Some.root) c.deref-in-Some-2.ensures.value) in
    let others : c.in_ok-left-2.left.items ≡ spec.without_root c.in_ok-roots.roots.items c.in-Some.root c.loop-root.left.items =
    c.in_ok-left-2.ensures ∙ (ap (λ rs. spec.without_root rs c.in-Some.root c.deref-in-Some-4.result.now) c.deref-in-Some-3.ensures.value ∙ ap (spec.without_root c.in_ok-roots.roots.items c.in-Some.root) c.deref-in-Some-4.ensures.value) in
    let more : c.push.new.self ≡ c.loop-root.stages ++ record { activities = spec.with_root c.in_ok-roots.roots.items c.in-Some.root c.loop-root.left.items } ∷ [] =
    c.in_ok-push.ensures.ok ∙ ap (λ xs. c.loop-root.stages ++ record { activities = xs } ∷ []) part in (
      c.loop-root.invariant.0,
      c.loop-root.invariant.1,
      subst (λ xs. spec.AreSoFar c.args.job.now c.in_ok-roots.roots.items xs c.push.new.self) (sym others)
          (subst (spec.AreSoFar c.args.job.now c.in_ok-roots.roots.items (spec.without_root c.in_ok-roots.roots.items c.in-Some.root c.loop-root.left.items)) (sym more)
          (one_more c.args.job.now c.requires c.in_ok-roots.roots.items c.loop-root.left.items c.loop-root.stages c.in-Some.root c.loop-root.invariant.1 c.loop-root.invariant.2 some)),
    )

pub returns : goal.returns
returns c =
    let none = next_is c.loop-root.invariant.0 c.deref.ensures.value c.deref-in-loop-root.ensures.value c.in_default.ensures in
    all_found c.args.job.now c.requires c.in_ok-roots.roots.items c.loop-root.left.items c.loop-root.stages c.loop-root.invariant.1 c.loop-root.invariant.2 none
