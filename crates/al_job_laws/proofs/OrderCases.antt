-- Which small jobs stand in order.
use Rattle.std.proofs.Common.{inl, inr, ◌<◌, [], ◌∷◌, refl, arith}
use Rattle.hy_job.specs.Cases.{block}
use Rattle.al_job_laws.specs.InOrder.{IsEdgeBefore, IsBlockBefore}
use Rattle.al_job_laws.specs.OrderCases.{feeds, EdgesStand, EdgesTurned, InputsTurned, BlocksTurned}
use Rattle.al_job_laws.proofs.Rising.{pairs_rise}

pub stand : EdgesStand
stand = record {
  activities = refl;
  edges = pairs_rise IsEdgeBefore (feeds 0 2 0 ∷ feeds 1 2 1 ∷ feeds 2 3 0 ∷ []) ((inr (refl, omega arith), (inl (omega arith), tt)), ((inl (omega arith), tt), (tt, tt)));
  blocks = pairs_rise IsBlockBefore (block 3 4 ∷ []) (tt, tt);
}

later_first : IsEdgeBefore (feeds 2 3 0) (feeds 0 2 0) → ⊥
later_first (inl less) = omega (arith, less)
later_first (inr (same, less)) = omega (arith, same)

pub turned : EdgesTurned → ⊥
turned h = later_first (h.edges 0 1 (feeds 0 0 0) (omega arith) (omega arith))

second_first : IsEdgeBefore (feeds 1 2 1) (feeds 0 2 0) → ⊥
second_first (inl less) = omega (arith, less)
second_first (inr (same, less)) = omega (arith, less)

pub inputs : InputsTurned → ⊥
inputs h = second_first (h.edges 0 1 (feeds 0 0 0) (omega arith) (omega arith))

pub blocks : BlocksTurned → ⊥
blocks h = let less : 3 < 1 = h.blocks 0 1 (block 0 0) (omega arith) (omega arith) in omega (arith, less)
