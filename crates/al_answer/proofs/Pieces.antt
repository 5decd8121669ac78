-- What runs in a piece of a job runs in the pieces that it stands over, and in its own activities.
use Rattle.std.proofs.Common.{◌≡◌, ℕ, suc, ◌<◌, ◌+◌, Bool, List, [], ◌∷◌, ◌++◌, length, subst, arith, length-append}
use Rattle.std.specs.List.{AllByRecursion}
use Rattle.al_plan.specs.Allows.{Sets}
use Rattle.al_phys.proofs.LiveLaws.{all_left, all_right}
use Rattle.hy_job.specs.declared.job.Wire.{Wire}
use Rattle.hy_job.specs.declared.job.Activity.{Activity}
use Rattle.hy_job.specs.Exchange.{IsExchanged, parts_by}
use Rattle.al_jobgen.specs.JobOf.{Step, Piece, activity, last_of, edge_from, block_at, source_piece, one_piece, two_piece, union_piece, join_piece}
use Rattle.al_jobgen.specs.Added.{activities_from}
use Rattle.al_jobgen.proofs.PieceAdded.{activities-append}
use Rattle.al_answer.specs.Flow.{Flow, Works, Carries, HandsOn, Flows}

module _ (n : ℕ) (passing : Bool) (sets : Sets) (flow : Flow) where
  abbrev EachWorks : Activity → Type 0
  EachWorks a = (j : ℕ) → j < n → Works n passing sets flow a j

  -- all that a piece has, where its first activity has this number
  abbrev pub RunsIn : Piece → ℕ → Type 0
  RunsIn q start = Flows n passing sets flow (activities_from start q.steps) (q.edges start) (q.blocks start)

  -- the tasks of this step, as the activity of this number
  abbrev pub WorksAt : Step → ℕ → Type 0
  WorksAt x to = (j : ℕ) → j < n → Works n passing sets flow (activity (to, x)) j

  -- what a piece makes is received at this input
  abbrev pub ComesTo : Piece → ℕ → ℕ → ℕ → Type 0
  ComesTo q start to input = IsExchanged q.wire n (parts_by n (flow.made (last_of q start))) (parts_by n (λ j. flow.received to j input))

  parted : (start : ℕ) (xs ys : List Step) → AllByRecursion EachWorks (activities_from start (xs ++ ys)) → AllByRecursion EachWorks (activities_from start xs) × AllByRecursion EachWorks (activities_from (start + length xs) ys)
  parted start xs ys h =
      let both = subst (AllByRecursion EachWorks) (activities-append start xs ys) h in
      (all_left EachWorks (activities_from start xs) (activities_from (start + length xs) ys) both, all_right EachWorks (activities_from start xs) (activities_from (start + length xs) ys) both)

  next_one : (to : ℕ) (y : Step) → EachWorks (activity (to + 1, y)) → WorksAt y (suc to)
  next_one to y h = let e : to + 1 ≡ suc to = omega arith in subst (λ (k : ℕ). WorksAt y k) e h

  -- ---- one input

  pub record One (q : Piece) (x : Step) (start : ℕ) : Type 0 where
    pub input : RunsIn q start
    pub works : WorksAt x (start + length q.steps)
    pub comes : ComesTo q start (start + length q.steps) 0

  pub split_one : (q : Piece) (x : Step) (wire : Wire) (start : ℕ) → RunsIn (one_piece q (x ∷ []) wire) start → One q x start
  split_one q x wire start f =
      let to = start + length q.steps in
      let works = parted start q.steps (x ∷ []) f.works in
      record {
        input = record { works = works.0; carries = all_left (Carries n flow) (q.edges start) (edge_from q start to 0) f.carries; hands = f.hands };
        works = works.1.0;
        comes = (all_right (Carries n flow) (q.edges start) (edge_from q start to 0) f.carries).0;
      }

  pub record Two (q : Piece) (x y : Step) (start : ℕ) : Type 0 where
    pub input : RunsIn q start
    pub first : WorksAt x (start + length q.steps)
    pub second : WorksAt y (suc (start + length q.steps))
    pub comes : ComesTo q start (start + length q.steps) 0
    pub hands : (j : ℕ) → j < n → flow.handed (suc (start + length q.steps)) j ≡ flow.made (start + length q.steps) j

  pub split_two : (q : Piece) (x y : Step) (wire : Wire) (start : ℕ) → RunsIn (two_piece q (x ∷ y ∷ []) wire) start → Two q x y start
  split_two q x y wire start f =
      let to = start + length q.steps in
      let works = parted start q.steps (x ∷ y ∷ []) f.works in
      record {
        input = record { works = works.0; carries = all_left (Carries n flow) (q.edges start) (edge_from q start to 0) f.carries; hands = all_left (HandsOn n flow) (q.blocks start) (block_at to) f.hands };
        first = works.1.0;
        second = next_one to y works.1.1.0;
        comes = (all_right (Carries n flow) (q.edges start) (edge_from q start to 0) f.carries).0;
        hands = (all_right (HandsOn n flow) (q.blocks start) (block_at to) f.hands).0;
      }

  -- ---- two inputs

  pub record United (l r : Piece) (x : Step) (start : ℕ) : Type 0 where
    pub left : RunsIn l start
    pub right : RunsIn r (start + length l.steps)
    pub works : WorksAt x (start + length l.steps + length r.steps)
    pub comes_left : ComesTo l start (start + length l.steps + length r.steps) 0
    pub comes_right : ComesTo r (start + length l.steps) (start + length l.steps + length r.steps) 1

  pub split_union : (l r : Piece) (x : Step) (wire : Wire) (start : ℕ) → RunsIn (union_piece l r (x ∷ []) wire) start → United l r x start
  split_union l r x wire start f =
      let right = start + length l.steps in
      let to = right + length r.steps in
      let own = edge_from l start to 0 ++ edge_from r right to 1 in
      let works = parted start l.steps (r.steps ++ x ∷ []) f.works in
      let later = parted right r.steps (x ∷ []) works.1 in
      let edges = all_right (Carries n flow) (l.edges start) (r.edges right ++ own) f.carries in
      let behind = all_right (Carries n flow) (r.edges right) own edges in
      record {
        left = record { works = works.0; carries = all_left (Carries n flow) (l.edges start) (r.edges right ++ own) f.carries; hands = all_left (HandsOn n flow) (l.blocks start) (r.blocks right) f.hands };
        right = record { works = later.0; carries = all_left (Carries n flow) (r.edges right) own edges; hands = all_right (HandsOn n flow) (l.blocks start) (r.blocks right) f.hands };
        works = later.1.0;
        comes_left = behind.0;
        comes_right = behind.1.0;
      }

  pub record Joins (l r : Piece) (x y : Step) (start : ℕ) : Type 0 where
    pub left : RunsIn l start
    pub right : RunsIn r (start + length l.steps)
    pub first : WorksAt x (start + length l.steps + length r.steps)
    pub second : WorksAt y (suc (start + length l.steps + length r.steps))
    pub comes_right : ComesTo r (start + length l.steps) (start + length l.steps + length r.steps) 0
    pub comes_left : ComesTo l start (suc (start + length l.steps + length r.steps)) 0
    pub hands : (j : ℕ) → j < n → flow.handed (suc (start + length l.steps + length r.steps)) j ≡ flow.made (start + length l.steps + length r.steps) j

  pub split_join : (l r : Piece) (x y : Step) (wire : Wire) (start : ℕ) → RunsIn (join_piece l r (x ∷ y ∷ []) wire) start → Joins l r x y start
  split_join l r x y wire start f =
      let right = start + length l.steps in
      let to = right + length r.steps in
      let own = edge_from r right to 0 ++ edge_from l start (suc to) 0 in
      let works = parted start l.steps (r.steps ++ x ∷ y ∷ []) f.works in
      let later = parted right r.steps (x ∷ y ∷ []) works.1 in
      let edges = all_right (Carries n flow) (l.edges start) (r.edges right ++ own) f.carries in
      let behind = all_right (Carries n flow) (r.edges right) own edges in
      let blocks = all_right (HandsOn n flow) (l.blocks start) (r.blocks right ++ block_at to) f.hands in
      record {
        left = record { works = works.0; carries = all_left (Carries n flow) (l.edges start) (r.edges right ++ own) f.carries; hands = all_left (HandsOn n flow) (l.blocks start) (r.blocks right ++ block_at to) f.hands };
        right = record { works = later.0; carries = all_left (Carries n flow) (r.edges right) own edges; hands = all_left (HandsOn n flow) (r.blocks right) (block_at to) blocks };
        first = later.1.0;
        second = next_one to y later.1.1.0;
        comes_right = behind.0;
        comes_left = behind.1.0;
        hands = (all_right (HandsOn n flow) (r.blocks right) (block_at to) blocks).0;
      }

-- ---- the number of the last activity

pub last_source : (x : Step) (wire : Wire) (start : ℕ) → last_of (source_piece (x ∷ []) wire) start ≡ start
last_source x wire start = omega arith

pub last_one : (q : Piece) (x : Step) (wire : Wire) (start : ℕ) → last_of (one_piece q (x ∷ []) wire) start ≡ start + length q.steps
last_one q x wire start = omega (arith, length-append q.steps (x ∷ []))

pub last_two : (q : Piece) (x y : Step) (wire : Wire) (start : ℕ) → last_of (two_piece q (x ∷ y ∷ []) wire) start ≡ suc (start + length q.steps)
last_two q x y wire start = omega (arith, length-append q.steps (x ∷ y ∷ []))

pub last_union : (l r : Piece) (x : Step) (wire : Wire) (start : ℕ) → last_of (union_piece l r (x ∷ []) wire) start ≡ start + length l.steps + length r.steps
last_union l r x wire start = omega (arith, length-append l.steps (r.steps ++ x ∷ []), length-append r.steps (x ∷ []))

pub last_join : (l r : Piece) (x y : Step) (wire : Wire) (start : ℕ) → last_of (join_piece l r (x ∷ y ∷ []) wire) start ≡ suc (start + length l.steps + length r.steps)
last_join l r x y wire start = omega (arith, length-append l.steps (r.steps ++ x ∷ y ∷ []), length-append r.steps (x ∷ y ∷ []))
