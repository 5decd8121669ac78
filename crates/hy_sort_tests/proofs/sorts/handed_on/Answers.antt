use Rattle.std.proofs.Common.{◌≡◌, ℕ, length, subst, inl}
use Rattle.std.specs.List.{All}
use Rattle.hy_frame.specs.Row.{Fields}
use Rattle.hy_sort.proofs.HandingOn.{hands_to_emit}
use Rattle.hy_sort_tests.proofs.sorts.handed_on.Goals as goal

pub returns-clause-fit : goal.returns-clause-fit
returns-clause-fit c =
    subst (λ (n : ℕ). All (λ (row : Fields). length row ≡ n) c.hand_on-handed.result.0.rows) c.requires.one.width
    (hands_to_emit c.args.driver c.hand_on-handed.result.0 (inl c.requires.over) c.hand_on-handed.ensures.handed).fit

pub returns-clause-beside : goal.returns-clause-beside
returns-clause-beside c =
    let on = hands_to_emit c.args.driver c.hand_on-handed.result.0 (inl c.requires.over) c.hand_on-handed.ensures.handed in
    (on.no_frames, on.no_runs)
