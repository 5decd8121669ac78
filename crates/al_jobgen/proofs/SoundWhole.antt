-- A plan whose piece is sound has a sound job.
use Rattle.std.proofs.Common.{◌≡◌, ℕ, suc, ◌<◌, ◌≤◌, ◌+◌, ◌*◌, ◌^◌, List, [], ◌∷◌, ◌++◌, length, map, refl, ap, sym, subst, ◌∙◌, arith, append-nil, length-append}
use Rattle.std.specs.List.{range_with_len}
use Rattle.al_phys.specs.declared.phys.Phys.{Phys, map-Phys, roll-Phys, out-Phys, out-roll-Phys, ind-Phys}
use Rattle.al_phys.specs.declared.phys.Phys.TheOpen as L
use Rattle.al_phys.specs.Operators.{operators}
use Rattle.hy_job.specs.declared.job.Activity.{Activity}
use Rattle.hy_job.specs.declared.job.Edge.{Edge}
use Rattle.hy_job.specs.declared.job.Block.{Block}
use Rattle.hy_job.specs.declared.job.Wire.{Wire}
use Rattle.hy_job.specs.Sound.{SoundJob}
use Rattle.al_jobgen.specs.JobOf.{Step, Piece, own_steps, wire_step, piece_of, job_of, last_of}
use Rattle.al_jobgen.specs.Shapes.{Form, Source, Over, Both, form, form_piece, over_piece, both_piece}
use Rattle.al_jobgen.specs.Added.{own_of, activities_from}
use Rattle.al_jobgen.proofs.PieceAdded.{length-activities}
use Rattle.al_jobgen.proofs.PieceForms.{piece_form, form_below, operators_form}
use Rattle.al_jobgen.proofs.SoundGraph.{weaken, EdgeIn, BlockIn, out_above}
use Rattle.al_jobgen.proofs.SoundPiece.{ActivitySound, EdgeSound, HoldsPiece, SoundIn, SoundPiece}

-- ---- induction by what an operator stands over

abbrev pub Inputs : (Phys → Type 0) → Form → Type 0
Inputs P Source = Unit {0}
Inputs P (Over q) = P q
Inputs P (Both l r) = P l × P r

module _ (P : Phys → Type 0) where
  module _ {S : Type 0} (up : S → Phys) (ih : (s : S) → P (up s)) where
    inputs : (y : L.Phys-F S) → Inputs P (form (map-Phys S Phys up y))
    inputs (L.Scan set vars) = tt
    inputs L.One = tt
    inputs (L.Assign made s) = ih s
    inputs (L.Select c s) = ih s
    inputs (L.Project vars s) = ih s
    inputs (L.Unnest v its s) = ih s
    inputs (L.Subplan inner s) = ih s
    inputs (L.Check own c s) = ih s
    inputs (L.Join how c l r) = (ih l, ih r)
    inputs (L.HashGroup keys inner s) = ih s
    inputs (L.PreGroup keys inner s) = ih s
    inputs (L.HashDistinct s) = ih s
    inputs (L.AggPart made s) = ih s
    inputs (L.AggFinal made s) = ih s
    inputs (L.Union made ls rs l r) = (ih l, ih r)
    inputs (L.Sort keys s) = ih s
    inputs (L.Limit m k s) = ih s
    inputs (L.LocalLimit m s) = ih s
    inputs (L.Result vars s) = ih s
    inputs (L.HashExchange vars s) = ih s
    inputs (L.Broadcast s) = ih s
    inputs (L.Gather s) = ih s
    inputs (L.Merge keys s) = ih s

  pub by_form : ((p : Phys) → Inputs P (form (out-Phys p)) → P p) → (p : Phys) → P p
  by_form step = ind-Phys P (λ x y e. subst (λ (z : L.Phys-F Phys). P (roll-Phys z)) e
      (step (roll-Phys (map-Phys _ Phys (λ s. s.0) y)) (subst (λ (z : L.Phys-F Phys). Inputs P (form z)) (sym (out-roll-Phys (map-Phys _ Phys (λ s. s.0) y))) (inputs (λ s. s.0) (λ s. s.1) y))))

-- ---- how many activities there are

at_most_two : (p : Phys) (x : L.Phys-F Phys) → length (own_steps p x) ≤ 2
at_most_two p (L.Scan set vars) = omega arith
at_most_two p L.One = omega arith
at_most_two p (L.Assign made q) = omega arith
at_most_two p (L.Select c q) = omega arith
at_most_two p (L.Project vars q) = omega arith
at_most_two p (L.Unnest v its q) = omega arith
at_most_two p (L.Subplan inner q) = omega arith
at_most_two p (L.Check own c q) = omega arith
at_most_two p (L.Join how c l r) = omega arith
at_most_two p (L.HashGroup keys inner q) = omega arith
at_most_two p (L.PreGroup keys inner q) = omega arith
at_most_two p (L.HashDistinct q) = omega arith
at_most_two p (L.AggPart made q) = omega arith
at_most_two p (L.AggFinal made q) = omega arith
at_most_two p (L.Union made ls rs l r) = omega arith
at_most_two p (L.Sort keys q) = omega arith
at_most_two p (L.Limit m k q) = omega arith
at_most_two p (L.LocalLimit m q) = omega arith
at_most_two p (L.Result vars q) = omega arith
at_most_two p (L.HashExchange vars q) = omega arith
at_most_two p (L.Broadcast q) = omega arith
at_most_two p (L.Gather q) = omega arith
at_most_two p (L.Merge keys q) = omega arith

over_steps : (q : Piece) (own : List Step) (wire : Wire) → length (over_piece q own wire).steps ≤ length q.steps + length own
over_steps q [] wire = omega arith
over_steps q (x ∷ []) wire = omega (arith, length-append q.steps (x ∷ []))
over_steps q (x ∷ y ∷ more) wire = omega (arith, length-append q.steps (x ∷ y ∷ more))

both_steps : (l r : Piece) (own : List Step) (wire : Wire) → length (both_piece l r own wire).steps ≤ length l.steps + length r.steps + length own
both_steps l r [] wire = omega (arith, length-append l.steps (r.steps ++ []), length-append r.steps [])
both_steps l r (x ∷ []) wire = omega (arith, length-append l.steps (r.steps ++ x ∷ []), length-append r.steps (x ∷ []))
both_steps l r (x ∷ y ∷ more) wire = omega (arith, length-append l.steps (r.steps ++ x ∷ y ∷ more), length-append r.steps (x ∷ y ∷ more))

abbrev AreFew : Phys → Type 0
AreFew p = length (piece_of p).steps ≤ 2 * length (operators p)

few_over : (f : Form) (own : List Step) (wire : Wire) → Inputs AreFew f → length own ≤ 2 → length (form_piece f own wire).steps ≤ 2 * suc (length (form_below f))
few_over Source own wire i h = omega (arith, h)
few_over (Over q) own wire i h = omega (arith, h, i, over_steps (piece_of q) own wire)
few_over (Both l r) own wire i h = omega (arith, h, i.0, i.1, both_steps (piece_of l) (piece_of r) own wire, length-append (operators l) (operators r))

-- at most two activities for each operator
pub few_steps : (p : Phys) → length (piece_of p).steps ≤ 2 * length (operators p)
few_steps = by_form AreFew (λ p i.
    (let same : length (piece_of p).steps ≡ length (form_piece (form (out-Phys p)) (own_of p) (wire_step (out-Phys p))).steps = ap (λ (q : Piece). length q.steps) (piece_form p) in
    omega (arith, same, few_over (form (out-Phys p)) (own_of p) (wire_step (out-Phys p)) i (at_most_two p (out-Phys p)), ap (λ (ps : List Phys). length ps) (operators_form p))))

-- ---- the whole

numbers : (n : ℕ) (xs : List Step) → map (λ (a : Activity). a.number) (activities_from n xs) ≡ range_with_len n (length xs)
numbers n [] = refl
numbers n (x ∷ xs) = ap (λ ns. n ∷ ns) (numbers (n + 1) xs)

-- a job is that of its piece, which begins at 0
whole_holds : (p : Phys) (n : ℕ) → SoundPiece (piece_of p) → HoldsPiece (job_of p n) 0 (piece_of p)
whole_holds p n h =
    let q = piece_of p in
    record {
      lists = record {
        before = [];
        after = [];
        parts = sym (append-nil (activities_from 0 q.steps));
        place = refl;
        ends = λ a ge lt. refl;
        b_ends = λ a ge lt. refl;
        b_begins = λ a ge lt. refl;
      };
      begins = λ a ge lt. refl;
      leaves =
          (let none = out_above 0 (0 + length q.steps) (last_of q 0) (q.edges 0) (h.ranged.edges 0) (omega (arith, h.ranged.some)) in
          omega (arith, ap (λ (es : List Edge). length es) none));
    }

pub whole_sound : (p : Phys) (n : ℕ) → 1 ≤ n → n ≤ 16 → length (operators p) < 2 ^ 19 → SoundPiece (piece_of p) → SoundJob (job_of p n)
whole_sound p n some few operators_few h =
    let q = piece_of p in
    let J = job_of p n in
    let s : SoundIn (job_of p n) 0 (piece_of p) = h.sound (job_of p n) 0 (whole_holds p n h) in
    let count : length (activities_from 0 (piece_of p).steps) ≡ length (piece_of p).steps = length-activities 0 (piece_of p).steps in
    record {
      some_partition = some;
      few_partitions = few;
      few = omega (arith, count, few_steps p, operators_few);
      numbered = numbers 0 (piece_of p).steps ∙ ap (range_with_len 0) (sym count);
      edges_rise = weaken (EdgeIn 0 (0 + length q.steps)) (λ (e : Edge). e.from < e.to) (λ e k. k.1) (q.edges 0) (h.ranged.edges 0);
      edges_end = weaken (EdgeIn 0 (0 + length q.steps)) (λ (e : Edge). e.to < length (activities_from 0 (piece_of p).steps)) (λ e k. omega (arith, k.2, count)) (q.edges 0) (h.ranged.edges 0);
      blocks_rise = weaken (BlockIn 0 (0 + length q.steps)) (λ (b : Block). b.before < b.after) (λ b k. k.1) (q.blocks 0) (h.ranged.blocks 0);
      blocks_end = weaken (BlockIn 0 (0 + length q.steps)) (λ (b : Block). b.after < length (activities_from 0 (piece_of p).steps)) (λ b k. omega (arith, k.2, count)) (q.blocks 0) (h.ranged.blocks 0);
      fed = weaken (ActivitySound (job_of p n)) _ (λ a k. k.fed) (activities_from 0 q.steps) s.activities;
      leaving = weaken (ActivitySound (job_of p n)) _ (λ a k. k.leaving) (activities_from 0 q.steps) s.activities;
      paired = s.blocks;
      firsts = weaken (ActivitySound (job_of p n)) _ (λ a k. k.firsts) (activities_from 0 q.steps) s.activities;
      seconds = weaken (ActivitySound (job_of p n)) _ (λ a k. k.seconds) (activities_from 0 q.steps) s.activities;
      merged = weaken (EdgeSound (job_of p n)) _ (λ e k. k.merged) (q.edges 0) s.edges;
      in_range = weaken (ActivitySound (job_of p n)) _ (λ a k. k.local.in_range) (activities_from 0 q.steps) s.activities;
      wires = weaken (EdgeSound (job_of p n)) _ (λ e k. k.wires) (q.edges 0) s.edges;
      nested = weaken (ActivitySound (job_of p n)) _ (λ a k. k.local.nested) (activities_from 0 q.steps) s.activities;
      key_pairs = weaken (ActivitySound (job_of p n)) _ (λ a k. k.local.key_pairs) (activities_from 0 q.steps) s.activities;
      all_keys = weaken (ActivitySound (job_of p n)) _ (λ a k. k.local.all_keys) (activities_from 0 q.steps) s.activities;
      states = weaken (ActivitySound (job_of p n)) _ (λ a k. k.local.states) (activities_from 0 q.steps) s.activities;
      arities = weaken (ActivitySound (job_of p n)) _ (λ a k. k.local.arities) (activities_from 0 q.steps) s.activities;
      narrow = weaken (ActivitySound (job_of p n)) _ (λ a k. k.local.narrow) (activities_from 0 q.steps) s.activities;
    }
