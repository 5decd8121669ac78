-- What stands below an activity of some stages is of these stages too, so whole runs of the stages are whole runs of its piece.
use Rattle.std.proofs.Common.{◌≡◌, inl, inr, ◌<◌, ◌+◌, ℕ, suc, Bool, List, [], ◌∷◌, ◌++◌, length, refl, ap, sym, subst, arith, append_assoc, append-nil}
use Rattle.std.specs.List.{AllByRecursion, Contains}
use Rattle.std.proofs.lemmas.List.Elements.{Contains-append_cases, Contains-append_left, Contains-append_right}
use Rattle.al_plan.specs.Allows.{Sets}
use Rattle.al_phys.specs.declared.phys.Phys.{Phys, roll-Phys, out-Phys}
use Rattle.al_phys.specs.declared.phys.Phys.TheOpen as L
use Rattle.al_phys.proofs.LiveLaws.{all_left, all_right}
use Rattle.al_phys.proofs.FlowLaws.{all_both}
use Rattle.hy_job.specs.declared.job.Wire.{Wire}
use Rattle.hy_job.specs.declared.job.Activity.{Activity}
use Rattle.hy_job.specs.declared.job.Edge.{Edge}
use Rattle.hy_job.specs.declared.job.Block.{Block}
use Rattle.hy_job.specs.declared.job.Job.{Job}
use Rattle.hy_job.specs.declared.job.Stage.{Stage}
use Rattle.hy_job.specs.Stages.{AreNext, activities_in}
use Rattle.hy_job.proofs.Members.{in_none}
use Rattle.al_jobgen.specs.JobOf.{Step, Piece, piece_of, activity, last_of, edge_from, block_at, source_piece, exchange_piece, one_piece, two_piece, union_piece, join_piece}
use Rattle.al_jobgen.specs.Shapes.{form}
use Rattle.al_jobgen.specs.Added.{activities_from}
use Rattle.al_jobgen.proofs.PieceAdded.{activities-append}
use Rattle.al_jobgen.proofs.PieceForms.{piece-roll, rolled}
use Rattle.al_jobgen.proofs.SoundWhole.{Inputs, by_form}
use Rattle.al_answer.specs.Flow.{Flow, Works, Carries, HandsOn}
use Rattle.al_answer.specs.Fault.{FlowsIn}
use Rattle.al_answer.proofs.Pieces.{RunsIn, last_source, last_one, last_two, last_union, last_join}

-- ---- stages

-- an edge's activities are in one stage
pub staged_edge : (job : Job) (before : List ℕ) (stages : List Stage) → AreNext job before stages → (e : Edge) → Contains job.edges e → Contains (activities_in stages) e.to → Contains (activities_in stages) e.from
unfolding AreNext
staged_edge job before [] next e m c = absurd (in_none e.to c)
staged_edge job before (s ∷ stages) next e m c = elim (Contains-append_cases s.activities (activities_in stages) e.to c) [
  | inl here ↦ Contains-append_left s.activities (activities_in stages) e.from (next.0.is_part.closed e.to e.from here (e, m, inr (refl, refl)))
  | inr there ↦ Contains-append_right s.activities (activities_in stages) e.from (staged_edge job (before ++ s.activities) stages next.1 e m there)
]

-- the first of two activities is in a stage before
pub staged_block : (job : Job) (before : List ℕ) (stages : List Stage) → AreNext job before stages → (b : Block) → Contains job.blocks b → Contains (activities_in stages) b.after → Contains (before ++ activities_in stages) b.before
unfolding AreNext
staged_block job before [] next b m c = absurd (in_none b.after c)
staged_block job before (s ∷ stages) next b m c = elim (Contains-append_cases s.activities (activities_in stages) b.after c) [
  | inl here ↦ Contains-append_left before (s.activities ++ activities_in stages) b.before (next.0.ready b m here)
  | inr there ↦ subst (λ (xs : List ℕ). Contains xs b.before) (append_assoc before s.activities (activities_in stages)) (staged_block job (before ++ s.activities) stages next.1 b m there)
]

-- ---- pieces

-- all that a piece has is the job's
pub record Within (job : Job) (q : Piece) (start : ℕ) : Type 0 where
  pub activities : AllByRecursion (Contains job.activities) (activities_from start q.steps)
  pub edges : AllByRecursion (Contains job.edges) (q.edges start)
  pub blocks : AllByRecursion (Contains job.blocks) (q.blocks start)

module _ (job : Job) (start : ℕ) (xs ys : List Step) where
  pub parted : AllByRecursion (Contains job.activities) (activities_from start (xs ++ ys)) → AllByRecursion (Contains job.activities) (activities_from start xs) × AllByRecursion (Contains job.activities) (activities_from (start + length xs) ys)
  parted h =
      let both = subst (AllByRecursion (Contains job.activities)) (activities-append start xs ys) h in
      (all_left (Contains job.activities) (activities_from start xs) (activities_from (start + length xs) ys) both, all_right (Contains job.activities) (activities_from start xs) (activities_from (start + length xs) ys) both)

-- the parts of a piece
module _ (job : Job) where
  pub under_one : (q : Piece) (x : Step) (w : Wire) (start : ℕ) → Within job (one_piece q (x ∷ []) w) start → Within job q start
  under_one q x w start h = record { activities = (parted job start q.steps (x ∷ []) h.activities).0; edges = all_left (Contains job.edges) (q.edges start) (edge_from q start (start + length q.steps) 0) h.edges; blocks = h.blocks }

  pub under_two : (q : Piece) (x y : Step) (w : Wire) (start : ℕ) → Within job (two_piece q (x ∷ y ∷ []) w) start → Within job q start
  under_two q x y w start h = record {
    activities = (parted job start q.steps (x ∷ y ∷ []) h.activities).0;
    edges = all_left (Contains job.edges) (q.edges start) (edge_from q start (start + length q.steps) 0) h.edges;
    blocks = all_left (Contains job.blocks) (q.blocks start) (block_at (start + length q.steps)) h.blocks;
  }

  pub under_left : (l r : Piece) (own : List Step) (es : List Edge) (bs : List Block) (start : ℕ) → AllByRecursion (Contains job.activities) (activities_from start (l.steps ++ (r.steps ++ own))) → AllByRecursion (Contains job.edges) (l.edges start ++ (r.edges (start + length l.steps) ++ es)) → AllByRecursion (Contains job.blocks) (l.blocks start ++ (r.blocks (start + length l.steps) ++ bs))
      → Within job l start
  under_left l r own es bs start a e b = record {
    activities = (parted job start l.steps (r.steps ++ own) a).0;
    edges = all_left (Contains job.edges) (l.edges start) (r.edges (start + length l.steps) ++ es) e;
    blocks = all_left (Contains job.blocks) (l.blocks start) (r.blocks (start + length l.steps) ++ bs) b;
  }

  pub under_right : (l r : Piece) (own : List Step) (es : List Edge) (bs : List Block) (start : ℕ) → AllByRecursion (Contains job.activities) (activities_from start (l.steps ++ (r.steps ++ own))) → AllByRecursion (Contains job.edges) (l.edges start ++ (r.edges (start + length l.steps) ++ es)) → AllByRecursion (Contains job.blocks) (l.blocks start ++ (r.blocks (start + length l.steps) ++ bs))
      → Within job r (start + length l.steps)
  under_right l r own es bs start a e b = record {
    activities = (parted job (start + length l.steps) r.steps own (parted job start l.steps (r.steps ++ own) a).1).0;
    edges = all_left (Contains job.edges) (r.edges (start + length l.steps)) es (all_right (Contains job.edges) (l.edges start) (r.edges (start + length l.steps) ++ es) e);
    blocks = all_left (Contains job.blocks) (r.blocks (start + length l.steps)) bs (all_right (Contains job.blocks) (l.blocks start) (r.blocks (start + length l.steps) ++ bs) b);
  }

-- ---- whole runs of a piece

module _ (job : Job) (stages : List Stage) (passing : Bool) (sets : Sets) (flow : Flow) (next : AreNext job [] stages) (flows : FlowsIn job stages passing sets flow) where
  abbrev Staged : ℕ → Type 0
  Staged k = Contains (activities_in stages) k

  abbrev n : ℕ
  n = job.partitions

  abbrev RunsHere : Piece → ℕ → Type 0
  RunsHere q start = RunsIn job.partitions passing sets flow q start

  -- where its last activity is of the stages
  abbrev Runs : Piece → Type 0
  Runs q = (start : ℕ) → Within job q start → Contains (activities_in stages) (last_of q start) → RunsHere q start

  abbrev EachWorks : Activity → Type 0
  EachWorks a = (j : ℕ) → j < job.partitions → Works job.partitions passing sets flow a j

  joined : (start : ℕ) (xs ys : List Step) → AllByRecursion EachWorks (activities_from start xs) → AllByRecursion EachWorks (activities_from (start + length xs) ys) → AllByRecursion EachWorks (activities_from start (xs ++ ys))
  joined start xs ys h g = subst (AllByRecursion EachWorks) (sym (activities-append start xs ys)) (all_both EachWorks (activities_from start xs) (activities_from (start + length xs) ys) h g)

  next_number : (to : ℕ) → suc to ≡ to + 1
  next_number to = omega arith

  before_it : (e : Edge) → Contains job.edges e → Staged e.to → Staged e.from
  before_it e m c = staged_edge job [] stages next e m c

  first_of_two : (to : ℕ) → Contains job.blocks (record { before = to; after = suc to }) → Staged (suc to) → Staged to
  first_of_two to m c = staged_block job [] stages next (record { before = to; after = suc to }) m c

  source : (x : Step) (w : Wire) → Runs (source_piece (x ∷ []) w)
  source x w start h c = record {
    works = (flows.works (activity (start, x)) h.activities.0 (subst Staged (last_source x w start) c), tt);
    carries = tt;
    hands = tt;
  }

  one : (q : Piece) (x : Step) (w : Wire) → Runs q → Runs (one_piece q (x ∷ []) w)
  one q x w i start h c =
      let to = start + length q.steps in
      let here = subst Staged (last_one q x w start) c in
      let e = (all_right (Contains job.edges) (q.edges start) (edge_from q start to 0) h.edges).0 in
      let below = i start (under_one job q x w start h) (before_it _ e here) in
      record {
        works = joined start q.steps (x ∷ []) below.works (flows.works (activity (to, x)) (parted job start q.steps (x ∷ []) h.activities).1.0 here, tt);
        carries = all_both (Carries job.partitions flow) (q.edges start) (edge_from q start to 0) below.carries (flows.carries _ e here, tt);
        hands = below.hands;
      }

  two : (q : Piece) (x y : Step) (w : Wire) → Runs q → Runs (two_piece q (x ∷ y ∷ []) w)
  two q x y w i start h c =
      let to = start + length q.steps in
      let last = subst Staged (last_two q x y w start) c in
      let b = (all_right (Contains job.blocks) (q.blocks start) (block_at to) h.blocks).0 in
      let here = first_of_two to b last in
      let e = (all_right (Contains job.edges) (q.edges start) (edge_from q start to 0) h.edges).0 in
      let below = i start (under_two job q x y w start h) (before_it _ e here) in
      let own = (parted job start q.steps (x ∷ y ∷ []) h.activities).1 in
      record {
        works = joined start q.steps (x ∷ y ∷ []) below.works (flows.works (activity (to, x)) own.0 here, (flows.works (activity (to + 1, y)) own.1.0 (subst Staged (next_number to) last), tt));
        carries = all_both (Carries job.partitions flow) (q.edges start) (edge_from q start to 0) below.carries (flows.carries _ e here, tt);
        hands = all_both (HandsOn job.partitions flow) (q.blocks start) (block_at to) below.hands (flows.hands _ b last, tt);
      }

  united : (l r : Piece) (x : Step) (w : Wire) → Runs l → Runs r → Runs (union_piece l r (x ∷ []) w)
  united l r x w il ir start h c =
      let right = start + length l.steps in
      let to = right + length r.steps in
      let own = edge_from l start to 0 ++ edge_from r right to 1 in
      let here = subst Staged (last_union l r x w start) c in
      let blocks = subst (AllByRecursion (Contains job.blocks)) (ap (λ (bs : List Block). l.blocks start ++ bs) (sym (append-nil (r.blocks right)))) h.blocks in
      let es = all_right (Contains job.edges) (r.edges right) own (all_right (Contains job.edges) (l.edges start) (r.edges right ++ own) h.edges) in
      let below_l = il start (under_left job l r (x ∷ []) own [] start h.activities h.edges blocks) (before_it _ es.0 here) in
      let below_r = ir right (under_right job l r (x ∷ []) own [] start h.activities h.edges blocks) (before_it _ es.1.0 here) in
      let acts = (parted job right r.steps (x ∷ []) (parted job start l.steps (r.steps ++ x ∷ []) h.activities).1).1 in
      record {
        works = joined start l.steps (r.steps ++ x ∷ []) below_l.works (joined right r.steps (x ∷ []) below_r.works (flows.works (activity (to, x)) acts.0 here, tt));
        carries = all_both (Carries job.partitions flow) (l.edges start) (r.edges right ++ own) below_l.carries (all_both (Carries job.partitions flow) (r.edges right) own below_r.carries (flows.carries _ es.0 here, (flows.carries _ es.1.0 here, tt)));
        hands = all_both (HandsOn job.partitions flow) (l.blocks start) (r.blocks right) below_l.hands below_r.hands;
      }

  joins : (l r : Piece) (x y : Step) (w : Wire) → Runs l → Runs r → Runs (join_piece l r (x ∷ y ∷ []) w)
  joins l r x y w il ir start h c =
      let right = start + length l.steps in
      let to = right + length r.steps in
      let own = edge_from r right to 0 ++ edge_from l start (suc to) 0 in
      let last = subst Staged (last_join l r x y w start) c in
      let b = (all_right (Contains job.blocks) (r.blocks right) (block_at to) (all_right (Contains job.blocks) (l.blocks start) (r.blocks right ++ block_at to) h.blocks)).0 in
      let here = first_of_two to b last in
      let es = all_right (Contains job.edges) (r.edges right) own (all_right (Contains job.edges) (l.edges start) (r.edges right ++ own) h.edges) in
      let below_l = il start (under_left job l r (x ∷ y ∷ []) own (block_at to) start h.activities h.edges h.blocks) (before_it _ es.1.0 last) in
      let below_r = ir right (under_right job l r (x ∷ y ∷ []) own (block_at to) start h.activities h.edges h.blocks) (before_it _ es.0 here) in
      let acts = (parted job right r.steps (x ∷ y ∷ []) (parted job start l.steps (r.steps ++ x ∷ y ∷ []) h.activities).1).1 in
      record {
        works = joined start l.steps (r.steps ++ x ∷ y ∷ []) below_l.works (joined right r.steps (x ∷ y ∷ []) below_r.works (flows.works (activity (to, x)) acts.0 here, (flows.works (activity (to + 1, y)) acts.1.0 (subst Staged (next_number to) last), tt)));
        carries = all_both (Carries job.partitions flow) (l.edges start) (r.edges right ++ own) below_l.carries (all_both (Carries job.partitions flow) (r.edges right) own below_r.carries (flows.carries _ es.0 here, (flows.carries _ es.1.0 last, tt)));
        hands = all_both (HandsOn job.partitions flow) (l.blocks start) (r.blocks right ++ block_at to) below_l.hands (all_both (HandsOn job.partitions flow) (r.blocks right) (block_at to) below_r.hands (flows.hands _ b last, tt));
      }

  exchange : (q : Piece) (w : Wire) → Runs q → Runs (exchange_piece q w)
  exchange q w i start h c = let r = i start (record { activities = h.activities; edges = h.edges; blocks = h.blocks }) c in record { works = r.works; carries = r.carries; hands = r.hands }

  abbrev Claim : Phys → Type 0
  Claim p = Runs (piece_of p)

  at_roll : (y : L.Phys-F Phys) (q : Piece) → piece_of (roll-Phys y) ≡ q → Runs q → Runs (piece_of (roll-Phys y))
  at_roll y q e h = subst Runs (sym e) h

  layer : (y : L.Phys-F Phys) → Inputs Claim (form y) → Runs (piece_of (roll-Phys y))
  layer (L.Scan set vars) i = at_roll (L.Scan set vars) _ (piece-roll (L.Scan set vars)) (source _ _)
  layer L.One i = at_roll L.One _ (piece-roll L.One) (source _ _)
  layer (L.Assign ms p) i = at_roll (L.Assign ms p) _ (piece-roll (L.Assign ms p)) (one _ _ _ i)
  layer (L.Select c p) i = at_roll (L.Select c p) _ (piece-roll (L.Select c p)) (one _ _ _ i)
  layer (L.Project vars p) i = at_roll (L.Project vars p) _ (piece-roll (L.Project vars p)) (one _ _ _ i)
  layer (L.Unnest v its p) i = at_roll (L.Unnest v its p) _ (piece-roll (L.Unnest v its p)) (one _ _ _ i)
  layer (L.Subplan inner p) i = at_roll (L.Subplan inner p) _ (piece-roll (L.Subplan inner p)) (one _ _ _ i)
  layer (L.Check own c p) i = at_roll (L.Check own c p) _ (piece-roll (L.Check own c p)) (one _ _ _ i)
  layer (L.Join how c l r) i = at_roll (L.Join how c l r) _ (piece-roll (L.Join how c l r)) (joins _ _ _ _ _ i.0 i.1)
  layer (L.HashGroup keys inner p) i = at_roll (L.HashGroup keys inner p) _ (piece-roll (L.HashGroup keys inner p)) (two _ _ _ _ i)
  layer (L.PreGroup keys inner p) i = at_roll (L.PreGroup keys inner p) _ (piece-roll (L.PreGroup keys inner p)) (one _ _ _ i)
  layer (L.HashDistinct p) i = at_roll (L.HashDistinct p) _ (piece-roll (L.HashDistinct p)) (two _ _ _ _ i)
  layer (L.AggPart ms p) i = at_roll (L.AggPart ms p) _ (piece-roll (L.AggPart ms p)) (one _ _ _ i)
  layer (L.AggFinal ms p) i = at_roll (L.AggFinal ms p) _ (piece-roll (L.AggFinal ms p)) (one _ _ _ i)
  layer (L.Union ms ls rs l r) i = at_roll (L.Union ms ls rs l r) _ (piece-roll (L.Union ms ls rs l r)) (united _ _ _ _ i.0 i.1)
  layer (L.Sort keys p) i = at_roll (L.Sort keys p) _ (piece-roll (L.Sort keys p)) (two _ _ _ _ i)
  layer (L.Limit m k p) i = at_roll (L.Limit m k p) _ (piece-roll (L.Limit m k p)) (one _ _ _ i)
  layer (L.LocalLimit m p) i = at_roll (L.LocalLimit m p) _ (piece-roll (L.LocalLimit m p)) (one _ _ _ i)
  layer (L.Result vars p) i = at_roll (L.Result vars p) _ (piece-roll (L.Result vars p)) (one _ _ _ i)
  layer (L.HashExchange vars p) i = at_roll (L.HashExchange vars p) _ (piece-roll (L.HashExchange vars p)) (exchange _ _ i)
  layer (L.Broadcast p) i = at_roll (L.Broadcast p) _ (piece-roll (L.Broadcast p)) (exchange _ _ i)
  layer (L.Gather p) i = at_roll (L.Gather p) _ (piece-roll (L.Gather p)) (exchange _ _ i)
  layer (L.Merge keys p) i = at_roll (L.Merge keys p) _ (piece-roll (L.Merge keys p)) (exchange _ _ i)

  -- whole runs of the stages are whole runs of a piece whose last activity is of the stages
  pub runs_of : (p : Phys) (start : ℕ) → Within job (piece_of p) start → Contains (activities_in stages) (last_of (piece_of p) start) → RunsIn job.partitions passing sets flow (piece_of p) start
  runs_of = by_form Claim (λ p i. subst Claim (rolled p) (layer (out-Phys p) i))
