-- The edges and blocks of a piece stand in order, since those of its inputs lie before its own.
use Rattle.std.proofs.Common.{◌≡◌, inl, inr, ℕ, suc, ◌<◌, ◌≤◌, ◌+◌, List, [], ◌∷◌, ◌++◌, length, map, refl, ap, sym, subst, ◌∙◌, arith, append-nil, length-append}
use Rattle.std.specs.List.{AllByRecursion, range_with_len}
use Rattle.al_phys.specs.declared.phys.Phys.{Phys, out-Phys}
use Rattle.al_phys.specs.declared.phys.Phys.TheOpen as L
use Rattle.al_phys.proofs.FlowLaws.{all_both}
use Rattle.hy_job.specs.declared.job.Activity.{Activity}
use Rattle.hy_job.specs.declared.job.Edge.{Edge}
use Rattle.hy_job.specs.declared.job.Block.{Block}
use Rattle.hy_job.specs.declared.job.Wire.{Wire}
use Rattle.al_jobgen.specs.JobOf.{Step, Piece, own_steps, wire_step, piece_of, job_of, edge_from, block_at, one_piece, two_piece, union_piece, join_piece}
use Rattle.al_jobgen.specs.Shapes.{Form, Source, Over, Both, form, form_piece, over_piece, both_piece}
use Rattle.al_jobgen.specs.Added.{own_of, activities_from}
use Rattle.al_jobgen.proofs.PieceAdded.{length-activities}
use Rattle.al_jobgen.proofs.PieceForms.{piece_form}
use Rattle.al_jobgen.proofs.SoundGraph.{weaken}
use Rattle.al_jobgen.proofs.SoundWhole.{Inputs, by_form}
use Rattle.al_job_laws.specs.InOrder.{IsEdgeBefore, IsBlockBefore, IsInOrder}
use Rattle.al_job_laws.proofs.Rising.{Rise, pairs_rise, rise_both}

-- ---- where numbers lie

abbrev EndsIn : ℕ → ℕ → Edge → Type 0
EndsIn lo hi e = (lo ≤ e.to) × (e.to < hi)

abbrev BeginsIn : ℕ → ℕ → Block → Type 0
BeginsIn lo hi b = (lo ≤ b.before) × (b.before < hi)

widen : (lo hi from to : ℕ) → from ≤ lo → hi ≤ to → (es : List Edge) → AllByRecursion (EndsIn lo hi) es → AllByRecursion (EndsIn from to) es
widen lo hi from to f t = weaken (EndsIn lo hi) (EndsIn from to) (λ e k. (omega (arith, k.0, f), omega (arith, k.1, t)))

b_widen : (lo hi from to : ℕ) → from ≤ lo → hi ≤ to → (bs : List Block) → AllByRecursion (BeginsIn lo hi) bs → AllByRecursion (BeginsIn from to) bs
b_widen lo hi from to f t = weaken (BeginsIn lo hi) (BeginsIn from to) (λ b k. (omega (arith, k.0, f), omega (arith, k.1, t)))

-- edges in order that end in these activities
record EdgesIn (lo hi : ℕ) (es : List Edge) : Type 0 where
  pub within : AllByRecursion (EndsIn lo hi) es
  pub rise : Rise IsEdgeBefore es

record BlocksIn (lo hi : ℕ) (bs : List Block) : Type 0 where
  pub within : AllByRecursion (BeginsIn lo hi) bs
  pub rise : Rise IsBlockBefore bs

edges_then : (lo mid hi : ℕ) (es fs : List Edge) → lo ≤ mid → mid ≤ hi → EdgesIn lo mid es → EdgesIn mid hi fs → EdgesIn lo hi (es ++ fs)
edges_then lo mid hi es fs f t h k = record {
  within = all_both (EndsIn lo hi) es fs (widen lo mid lo hi (omega arith) t es h.within) (widen mid hi lo hi f (omega arith) fs k.within);
  rise = rise_both IsEdgeBefore (EndsIn lo mid) (EndsIn mid hi) (λ x y a b. inl (omega (arith, a.1, b.0))) es fs h.rise h.within k.rise k.within;
}

blocks_then : (lo mid hi : ℕ) (bs cs : List Block) → lo ≤ mid → mid ≤ hi → BlocksIn lo mid bs → BlocksIn mid hi cs → BlocksIn lo hi (bs ++ cs)
blocks_then lo mid hi bs cs f t h k = record {
  within = all_both (BeginsIn lo hi) bs cs (b_widen lo mid lo hi (omega arith) t bs h.within) (b_widen mid hi lo hi f (omega arith) cs k.within);
  rise = rise_both IsBlockBefore (BeginsIn lo mid) (BeginsIn mid hi) (λ x y a b. omega (arith, a.1, b.0)) bs cs h.rise h.within k.rise k.within;
}

edges_wide : (lo hi to : ℕ) (es : List Edge) → hi ≤ to → EdgesIn lo hi es → EdgesIn lo to es
edges_wide lo hi to es t h = record { within = widen lo hi lo to (omega arith) t es h.within; rise = h.rise }

blocks_wide : (lo hi to : ℕ) (bs : List Block) → hi ≤ to → BlocksIn lo hi bs → BlocksIn lo to bs
blocks_wide lo hi to bs t h = record { within = b_widen lo hi lo to (omega arith) t bs h.within; rise = h.rise }

no_edges : (lo hi : ℕ) → EdgesIn lo hi []
no_edges lo hi = record { within = tt; rise = tt }

no_blocks : (lo hi : ℕ) → BlocksIn lo hi []
no_blocks lo hi = record { within = tt; rise = tt }

one_edge : (q : Piece) (start to input hi : ℕ) → to < hi → EdgesIn to hi (edge_from q start to input)
one_edge q start to input hi lt = record { within = ((omega arith, lt), tt); rise = (tt, tt) }

one_block : (first hi : ℕ) → first < hi → BlocksIn first hi (block_at first)
one_block first hi lt = record { within = ((omega arith, lt), tt); rise = (tt, tt) }

-- ---- pieces

-- wherever a piece begins, its edges and blocks are those of its activities, in order
record Ordered (q : Piece) : Type 0 where
  pub edges : (start : ℕ) → EdgesIn start (start + length q.steps) (q.edges start)
  pub blocks : (start : ℕ) → BlocksIn start (start + length q.steps) (q.blocks start)

one_ordered : (q : Piece) (x : Step) (wire : Wire) → Ordered q → Ordered (one_piece q (x ∷ []) wire)
one_ordered q x wire h =
    let more = length-append q.steps (x ∷ []) in
    record {
      edges = λ start.
          (let to = start + length q.steps in
          let hi = start + length (q.steps ++ x ∷ []) in
          edges_then start to hi (q.edges start) (edge_from q start to 0) (omega arith) (omega (arith, more)) (h.edges start) (one_edge q start to 0 hi (omega (arith, more))));
      blocks = λ start. blocks_wide start (start + length q.steps) (start + length (q.steps ++ x ∷ [])) (q.blocks start) (omega (arith, more)) (h.blocks start);
    }

two_ordered : (q : Piece) (x y : Step) (zs : List Step) (wire : Wire) → Ordered q → Ordered (two_piece q (x ∷ y ∷ zs) wire)
two_ordered q x y zs wire h =
    let more = length-append q.steps (x ∷ y ∷ zs) in
    record {
      edges = λ start.
          (let to = start + length q.steps in
          let hi = start + length (q.steps ++ x ∷ y ∷ zs) in
          edges_then start to hi (q.edges start) (edge_from q start to 0) (omega arith) (omega (arith, more)) (h.edges start) (one_edge q start to 0 hi (omega (arith, more))));
      blocks = λ start.
          (let to = start + length q.steps in
          let hi = start + length (q.steps ++ x ∷ y ∷ zs) in
          blocks_then start to hi (q.blocks start) (block_at to) (omega arith) (omega (arith, more)) (h.blocks start) (one_block to hi (omega (arith, more))));
    }

-- edges of two pieces and then others, wherever the pieces begin
both_edges : (start hi : ℕ) (l r : Piece) (fs : List Edge) → Ordered l → Ordered r → start + length l.steps + length r.steps ≤ hi → EdgesIn (start + length l.steps + length r.steps) hi fs → EdgesIn start hi (l.edges start ++ (r.edges (start + length l.steps) ++ fs))
both_edges start hi l r fs h k le own =
    let right = start + length l.steps in
    edges_then start right hi (l.edges start) (r.edges right ++ fs) (omega arith) (omega (arith, le)) (h.edges start)
    (edges_then right (right + length r.steps) hi (r.edges right) fs (omega arith) le (k.edges right) own)

both_blocks : (start hi : ℕ) (l r : Piece) (cs : List Block) → Ordered l → Ordered r → start + length l.steps + length r.steps ≤ hi → BlocksIn (start + length l.steps + length r.steps) hi cs → BlocksIn start hi (l.blocks start ++ (r.blocks (start + length l.steps) ++ cs))
both_blocks start hi l r cs h k le own =
    let right = start + length l.steps in
    blocks_then start right hi (l.blocks start) (r.blocks right ++ cs) (omega arith) (omega (arith, le)) (h.blocks start)
    (blocks_then right (right + length r.steps) hi (r.blocks right) cs (omega arith) le (k.blocks right) own)

two_inputs : (l r : Piece) (start right to hi : ℕ) → to < hi → EdgesIn to hi (edge_from l start to 0 ++ edge_from r right to 1)
two_inputs l r start right to hi lt = record { within = ((omega arith, lt), ((omega arith, lt), tt)); rise = ((inr (refl, omega arith), tt), (tt, tt)) }

union_ordered : (l r : Piece) (x : Step) (wire : Wire) → Ordered l → Ordered r → Ordered (union_piece l r (x ∷ []) wire)
union_ordered l r x wire h k =
    let inner = length-append r.steps (x ∷ []) in
    let outer = length-append l.steps (r.steps ++ x ∷ []) in
    record {
      edges = λ start.
          (let right = start + length l.steps in
          let to = right + length r.steps in
          let hi = start + length (l.steps ++ (r.steps ++ x ∷ [])) in
          both_edges start hi l r (edge_from l start to 0 ++ edge_from r right to 1) h k (omega (arith, inner, outer)) (two_inputs l r start right to hi (omega (arith, inner, outer))));
      blocks = λ start.
          (let hi = start + length (l.steps ++ (r.steps ++ x ∷ [])) in
          subst (λ (bs : List Block). BlocksIn start hi (l.blocks start ++ bs)) (append-nil (r.blocks (start + length l.steps)))
          (both_blocks start hi l r [] h k (omega (arith, inner, outer)) (no_blocks (start + length l.steps + length r.steps) hi)));
    }

two_ends : (l r : Piece) (start right to hi : ℕ) → suc to < hi → EdgesIn to hi (edge_from r right to 0 ++ edge_from l start (suc to) 0)
two_ends l r start right to hi lt = record { within = ((omega arith, omega (arith, lt)), ((omega arith, lt), tt)); rise = ((inl (omega arith), tt), (tt, tt)) }

join_ordered : (l r : Piece) (x y : Step) (zs : List Step) (wire : Wire) → Ordered l → Ordered r → Ordered (join_piece l r (x ∷ y ∷ zs) wire)
join_ordered l r x y zs wire h k =
    let inner = length-append r.steps (x ∷ y ∷ zs) in
    let outer = length-append l.steps (r.steps ++ x ∷ y ∷ zs) in
    record {
      edges = λ start.
          (let right = start + length l.steps in
          let to = right + length r.steps in
          let hi = start + length (l.steps ++ (r.steps ++ x ∷ y ∷ zs)) in
          both_edges start hi l r (edge_from r right to 0 ++ edge_from l start (suc to) 0) h k (omega (arith, inner, outer)) (two_ends l r start right to hi (omega (arith, inner, outer))));
      blocks = λ start.
          (let to = start + length l.steps + length r.steps in
          let hi = start + length (l.steps ++ (r.steps ++ x ∷ y ∷ zs)) in
          both_blocks start hi l r (block_at to) h k (omega (arith, inner, outer)) (one_block to hi (omega (arith, inner, outer))));
    }

-- ---- plans

-- an operator over two inputs has an activity
abbrev Fills : Form → List Step → Type 0
Fills Source own = Unit {0}
Fills (Over p) own = Unit {0}
Fills (Both l r) own = 1 ≤ length own

fills : (p : Phys) (x : L.Phys-F Phys) → Fills (form x) (own_steps p x)
fills p (L.Scan set vars) = tt
fills p L.One = tt
fills p (L.Assign made q) = tt
fills p (L.Select c q) = tt
fills p (L.Project vars q) = tt
fills p (L.Unnest v its q) = tt
fills p (L.Subplan inner q) = tt
fills p (L.Check own c q) = tt
fills p (L.Join how c l r) = omega arith
fills p (L.HashGroup keys inner q) = tt
fills p (L.PreGroup keys inner q) = tt
fills p (L.HashDistinct q) = tt
fills p (L.AggPart made q) = tt
fills p (L.AggFinal made q) = tt
fills p (L.Union made ls rs l r) = omega arith
fills p (L.Sort keys q) = tt
fills p (L.Limit m k q) = tt
fills p (L.LocalLimit m q) = tt
fills p (L.Result vars q) = tt
fills p (L.HashExchange vars q) = tt
fills p (L.Broadcast q) = tt
fills p (L.Gather q) = tt
fills p (L.Merge keys q) = tt

over_ordered : (q : Piece) (own : List Step) (wire : Wire) → Ordered q → Ordered (over_piece q own wire)
over_ordered q [] wire h = record { edges = h.edges; blocks = h.blocks }
over_ordered q (x ∷ []) wire h = one_ordered q x wire h
over_ordered q (x ∷ y ∷ zs) wire h = two_ordered q x y zs wire h

both_ordered : (l r : Piece) (own : List Step) (wire : Wire) → 1 ≤ length own → Ordered l → Ordered r → Ordered (both_piece l r own wire)
both_ordered l r [] wire some h k = absurd (omega (arith, some))
both_ordered l r (x ∷ []) wire some h k = union_ordered l r x wire h k
both_ordered l r (x ∷ y ∷ zs) wire some h k = join_ordered l r x y zs wire h k

abbrev IsOrdered : Phys → Type 0
IsOrdered p = Ordered (piece_of p)

form_ordered : (f : Form) (own : List Step) (wire : Wire) → Fills f own → Inputs IsOrdered f → Ordered (form_piece f own wire)
form_ordered Source own wire some h = record { edges = λ start. no_edges start (start + length own); blocks = λ start. no_blocks start (start + length own) }
form_ordered (Over p) own wire some h = over_ordered (piece_of p) own wire h
form_ordered (Both l r) own wire some h = both_ordered (piece_of l) (piece_of r) own wire some h.0 h.1

ordered : (p : Phys) → Ordered (piece_of p)
ordered = by_form IsOrdered (λ p h. subst Ordered (sym (piece_form p)) (form_ordered (form (out-Phys p)) (own_of p) (wire_step (out-Phys p)) (fills p (out-Phys p)) h))

-- ---- the job

numbers : (n : ℕ) (xs : List Step) → map (λ (a : Activity). a.number) (activities_from n xs) ≡ range_with_len n (length xs)
numbers n [] = refl
numbers n (x ∷ xs) = ap (λ (ys : List ℕ). n ∷ ys) (numbers (n + 1) xs)

pub in_order : (p : Phys) (n : ℕ) → IsInOrder (job_of p n)
in_order p n =
    let h = ordered p in
    record {
      activities = numbers 0 (piece_of p).steps ∙ ap (range_with_len 0) (sym (length-activities 0 (piece_of p).steps));
      edges = pairs_rise IsEdgeBefore ((piece_of p).edges 0) (h.edges 0).rise;
      blocks = pairs_rise IsBlockBefore ((piece_of p).blocks 0) (h.blocks 0).rise;
    }
