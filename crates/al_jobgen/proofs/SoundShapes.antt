-- Operators over sound pieces are sound pieces.
use Rattle.std.proofs.Common.{◌≡◌, ℕ, suc, ◌<◌, ◌≤◌, ◌+◌, Bool, true, false, List, [], ◌∷◌, ◌++◌, length, filter, refl, ap, sym, subst, ◌∙◌, arith, length-append, append_assoc, append-nil}
use Rattle.std.specs.Prelude.{nat_eq}
use Rattle.std.specs.List.{AllByRecursion}
use Rattle.std.proofs.lemmas.List.Elements.{filter-append}
use Rattle.al_phys.proofs.FlowLaws.{all_both}
use Rattle.hy_job.specs.declared.job.Edge.{Edge}
use Rattle.hy_job.specs.declared.job.Block.{Block}
use Rattle.hy_job.specs.declared.job.Wire.{Wire}
use Rattle.hy_job.specs.declared.job.Job.{Job}
use Rattle.hy_job.specs.Sound.{edges_from, first_arity, Widths, widths_of, may_leave, one_where}
use Rattle.al_jobgen.specs.JobOf.{Step, Piece, last_of, edge_from, block_at, one_piece, two_piece, union_piece, join_piece}
use Rattle.al_jobgen.specs.Added.{activities_from}
use Rattle.al_jobgen.proofs.PieceAdded.{activities-append}
use Rattle.al_jobgen.proofs.SoundGraph.{weaken, below_ne, above_ne, EdgeIn, BlockIn, out_of, out_below, widen, b_widen, Ranged, Holds, last_arity, last_may, last_may-append, arity_last}
use Rattle.al_jobgen.proofs.SoundPiece.{StepSound, ActivitySound, EdgeSound, BlockSound, HoldsPiece, SoundIn, SoundPiece, GoesOn, Alone, InTwo, keep_one, keep_none, nat_same, Under, under, edge_sound, activity_sound, two_sound}

-- the activities of a part and those behind it
joined_activities : (J : Job) (start : ℕ) (xs ys : List Step) → AllByRecursion (ActivitySound J) (activities_from start xs) → AllByRecursion (ActivitySound J) (activities_from (start + length xs) ys)
    → AllByRecursion (ActivitySound J) (activities_from start (xs ++ ys))
joined_activities J start xs ys h k =
    subst (AllByRecursion (ActivitySound J)) (sym (activities-append start xs ys)) (all_both (ActivitySound J) (activities_from start xs) (activities_from (start + length xs) ys) h k)

-- ---- over one input

-- the edge from the input
abbrev edge_at : Piece → ℕ → ℕ → ℕ → Edge
edge_at q start to input = record { from = last_of q start; to = to; input = input; wire = q.wire }

module _ (q : Piece) (h : SoundPiece q) (on : GoesOn q) where
  from_last : (start to input a : ℕ) → suc a < start + length q.steps → out_of (edge_at q start to input ∷ []) a ≡ []
  from_last start to input a lt = keep_none (λ (e : Edge). nat_eq e.from a) (edge_at q start to input) (above_ne (last_of q start) a (omega (arith, lt)))

  one_leaves : (start to input : ℕ) → out_of (edge_at q start to input ∷ []) (last_of q start) ≡ edge_at q start to input ∷ []
  one_leaves start to input = keep_one (λ (e : Edge). nat_eq e.from (last_of q start)) (edge_at q start to input) (nat_same (last_of q start))

  -- an edge behind the input, into an activity behind it
  edge_in : (start to input hi : ℕ) → start + length q.steps ≤ to → to < hi → EdgeIn start hi (edge_at q start to input)
  edge_in start to input hi ge lt = (omega (arith, h.ranged.some), omega (arith, h.ranged.some, ge), lt)

module _ (q : Piece) (x : Step) (wire : Wire) (h : SoundPiece q) (on : GoesOn q) (alone : Alone x 1) (local : (w : Widths) → w.taken 0 ≡ last_arity q.steps → StepSound x.kind x.arity w) where
  one_ranged : Ranged (one_piece q (x ∷ []) wire)
  one_ranged =
      let more = length-append q.steps (x ∷ []) in
      record {
        some = omega (arith, more);
        edges = λ start.
            all_both (EdgeIn start (start + length (q.steps ++ x ∷ []))) (q.edges start) (edge_from q start (start + length q.steps) 0)
            (widen start (start + length q.steps) start (start + length (q.steps ++ x ∷ [])) (omega arith) (omega (arith, more)) (q.edges start) (h.ranged.edges start))
            (edge_in q h on start (start + length q.steps) 0 (start + length (q.steps ++ x ∷ [])) (omega arith) (omega (arith, more)), tt);
        blocks = λ start. b_widen start (start + length q.steps) start (start + length (q.steps ++ x ∷ [])) (omega arith) (omega (arith, more)) (q.blocks start) (h.ranged.blocks start);
      }

  one_in : (J : Job) (start : ℕ) → HoldsPiece J start (one_piece q (x ∷ []) wire) → SoundIn J start (one_piece q (x ∷ []) wire)
  one_in J start H =
      let to = start + length q.steps in
      let more = length-append q.steps (x ∷ []) in
      let edge = edge_at q start to 0 in
      let lists = subst (λ bs. Holds J start (q.steps ++ x ∷ []) (q.edges start ++ edge ∷ []) bs) (sym (append-nil (q.blocks start))) H.lists in
      let u : Under J start q (x ∷ []) (edge ∷ []) [] = under J start q (x ∷ []) (edge ∷ []) [] (suc to) h.ranged (omega arith) lists H.begins (omega arith, tt) tt
      (λ a ge lt. from_last q h on start to 0 a lt) (ap (λ (es : List Edge). length es) (one_leaves q h on start to 0)) on.may in
      let s = h.sound J start u.piece in
      let ends = u.lists.ends to (omega arith) (omega arith) ∙ keep_one (λ (e : Edge). nat_eq e.to to) edge (nat_same to) in
      let taken = ap (λ gs. first_arity J (filter (λ (g : Edge). nat_eq g.input 0) gs)) ends ∙ arity_last J start q.steps (q.edges start) (q.blocks start) u.piece.lists h.ranged.some in
      let leaves : length (edges_from J to) ≤ may_leave x.kind =
      subst (λ n. length (edges_from J to) ≤ n) (last_may-append q.steps x []) (subst (λ a. length (edges_from J a) ≤ last_may (q.steps ++ x ∷ [])) (omega (arith, more)) H.leaves) in
      record {
        activities = joined_activities J start q.steps (x ∷ []) s.activities
            (activity_sound J to x 1 (edge ∷ []) [] [] alone.takes ends refl leaves (u.lists.b_begins to (omega arith) (omega arith)) (sym (ap one_where alone.no_first)) (u.lists.b_ends to (omega arith) (omega arith)) (sym (ap one_where alone.no_second)) (local (widths_of J to) taken), tt);
        edges = all_both (EdgeSound J) (q.edges start) (edge ∷ []) s.edges (edge_sound J start q to 0 h.ranged on u.piece, tt);
        blocks = s.blocks;
      }

  pub one_sound : SoundPiece (one_piece q (x ∷ []) wire)
  one_sound = record { ranged = one_ranged; sound = one_in }

module _ (q : Piece) (x y : Step) (wire : Wire) (h : SoundPiece q) (on : GoesOn q) (two : InTwo x y 1 0) (first : (w : Widths) → w.taken 0 ≡ last_arity q.steps → StepSound x.kind x.arity w)
    (second : (w : Widths) → w.handed ≡ x.arity → w.built ≡ last_arity q.steps → StepSound y.kind y.arity w) where
  two_ranged : Ranged (two_piece q (x ∷ y ∷ []) wire)
  two_ranged =
      let more = length-append q.steps (x ∷ y ∷ []) in
      record {
        some = omega (arith, more);
        edges = λ start.
            all_both (EdgeIn start (start + length (q.steps ++ x ∷ y ∷ []))) (q.edges start) (edge_from q start (start + length q.steps) 0)
            (widen start (start + length q.steps) start (start + length (q.steps ++ x ∷ y ∷ [])) (omega arith) (omega (arith, more)) (q.edges start) (h.ranged.edges start))
            (edge_in q h on start (start + length q.steps) 0 (start + length (q.steps ++ x ∷ y ∷ [])) (omega arith) (omega (arith, more)), tt);
        blocks = λ start.
            all_both (BlockIn start (start + length (q.steps ++ x ∷ y ∷ []))) (q.blocks start) (block_at (start + length q.steps))
            (b_widen start (start + length q.steps) start (start + length (q.steps ++ x ∷ y ∷ [])) (omega arith) (omega (arith, more)) (q.blocks start) (h.ranged.blocks start))
            ((omega arith, omega arith, omega (arith, more)), tt);
      }

  two_in : (J : Job) (start : ℕ) → HoldsPiece J start (two_piece q (x ∷ y ∷ []) wire) → SoundIn J start (two_piece q (x ∷ y ∷ []) wire)
  two_in J start H =
      let to = start + length q.steps in
      let more = length-append q.steps (x ∷ y ∷ []) in
      let edge = edge_at q start to 0 in
      let u : Under J start q (x ∷ y ∷ []) (edge ∷ []) (block_at to) = under J start q (x ∷ y ∷ []) (edge ∷ []) (block_at to) (suc (suc to)) h.ranged (omega arith) H.lists H.begins (omega arith, tt) ((omega arith, omega arith, omega arith), tt)
      (λ a ge lt. from_last q h on start to 0 a lt) (ap (λ (es : List Edge). length es) (one_leaves q h on start to 0)) on.may in
      let s = h.sound J start u.piece in
      let ends = u.lists.ends to (omega arith) (omega arith) ∙ keep_one (λ (e : Edge). nat_eq e.to to) edge (nat_same to) in
      let then_ends = u.lists.ends (suc to) (omega arith) (omega arith) ∙ keep_none (λ (e : Edge). nat_eq e.to (suc to)) edge (below_ne to (suc to) (omega arith)) in
      let taken = ap (λ gs. first_arity J (filter (λ (g : Edge). nat_eq g.input 0) gs)) ends ∙ arity_last J start q.steps (q.edges start) (q.blocks start) u.piece.lists h.ranged.some in
      let none = u.begins to (omega arith) (omega arith) ∙ keep_none (λ (e : Edge). nat_eq e.from to) edge (below_ne (last_of q start) to (omega (arith, h.ranged.some))) in
      let leaves : length (edges_from J (suc to)) ≤ may_leave y.kind =
      subst (λ n. length (edges_from J (suc to)) ≤ n) (last_may-append q.steps x (y ∷ [])) (subst (λ a. length (edges_from J a) ≤ last_may (q.steps ++ x ∷ y ∷ [])) (omega (arith, more)) H.leaves) in
      let own = two_sound J to x y 1 0 (edge ∷ []) u.lists two (edge ∷ []) [] ends then_ends refl refl none leaves (first (widths_of J to) taken) (λ handed built. second (widths_of J (suc to)) handed (built ∙ taken)) in
      record {
        activities = joined_activities J start q.steps (x ∷ y ∷ []) s.activities own.0;
        edges = all_both (EdgeSound J) (q.edges start) (edge ∷ []) s.edges (edge_sound J start q to 0 h.ranged on u.piece, tt);
        blocks = all_both (BlockSound J) (q.blocks start) (block_at to) s.blocks (own.1, tt);
      }

  pub pair_sound : SoundPiece (two_piece q (x ∷ y ∷ []) wire)
  pair_sound = record { ranged = two_ranged; sound = two_in }

-- ---- over two inputs

module _ {X : Type 0} (p : X → Bool) (x y : X) where
  two_none : p x ≡ false → p y ≡ false → filter p (x ∷ y ∷ []) ≡ []
  two_none e f = rw (e, f) refl

  two_first : p x ≡ true → p y ≡ false → filter p (x ∷ y ∷ []) ≡ x ∷ []
  two_first e f = rw (e, f) refl

  two_second : p x ≡ false → p y ≡ true → filter p (x ∷ y ∷ []) ≡ y ∷ []
  two_second e f = rw (e, f) refl

  two_both : p x ≡ true → p y ≡ true → filter p (x ∷ y ∷ []) ≡ x ∷ y ∷ []
  two_both e f = rw (e, f) refl

-- both inputs within a greater piece
record UnderBoth (J : Job) (start : ℕ) (l r : Piece) (own : List Step) (fs : List Edge) (cs : List Block) : Type 0 where
  left : HoldsPiece J start l
  right : HoldsPiece J (start + length l.steps) r
  lists : Holds J (start + length l.steps + length r.steps) own fs cs
  begins : (a : ℕ) → start + length l.steps + length r.steps ≤ a → suc a < start + length l.steps + length r.steps + length own → edges_from J a ≡ out_of fs a

-- edges from the last activities of both inputs, and from no other
record FromBoth (start : ℕ) (l r : Piece) (fs : List Edge) : Type 0 where
  none : (a : ℕ) → suc a < start + length l.steps → out_of fs a ≡ []
  then_none : (a : ℕ) → start + length l.steps ≤ a → suc a < start + length l.steps + length r.steps → out_of fs a ≡ []
  one : length (out_of fs (last_of l start)) ≡ 1
  then_one : length (out_of fs (last_of r (start + length l.steps))) ≡ 1
  behind : AllByRecursion (λ (e : Edge). start + length l.steps + length r.steps ≤ e.to) fs

module _ (J : Job) (start : ℕ) (l r : Piece) (own : List Step) (fs : List Edge) (cs : List Block) (hi : ℕ) (hl : SoundPiece l) (hr : SoundPiece r) (on_l : GoesOn l) (on_r : GoesOn r) (some : 1 ≤ length own) where
  under_both : Holds J start (l.steps ++ (r.steps ++ own)) (l.edges start ++ (r.edges (start + length l.steps) ++ fs)) (l.blocks start ++ (r.blocks (start + length l.steps) ++ cs))
      → ((a : ℕ) → start ≤ a → suc a < start + length (l.steps ++ (r.steps ++ own)) → edges_from J a ≡ out_of (l.edges start ++ (r.edges (start + length l.steps) ++ fs)) a)
      → FromBoth start l r fs → AllByRecursion (BlockIn (start + length l.steps + length r.steps) hi) cs → start + length l.steps + length r.steps ≤ hi → UnderBoth J start l r own fs cs
  under_both lists begins f b_behind le =
      let right = start + length l.steps in
      let to = right + length r.steps in
      let more = length-append r.steps own in
      let apart = λ (a : ℕ). filter-append (λ (e : Edge). nat_eq e.from a) (r.edges right) fs in
      let past = λ (a : ℕ) (lt : a < start + length l.steps). apart a ∙ ap (λ gs. gs ++ out_of fs a) (out_below right to a (r.edges right) (hr.ranged.edges right) lt) in
      let u : Under J start l (r.steps ++ own) (r.edges right ++ fs) (r.blocks right ++ cs) = under J start l (r.steps ++ own) (r.edges right ++ fs) (r.blocks right ++ cs) hi hl.ranged (omega (arith, more, some)) lists begins
      (all_both (λ (e : Edge). right ≤ e.to) (r.edges right) fs (weaken (EdgeIn right to) (λ (e : Edge). right ≤ e.to) (λ e k. omega (arith, k.0, k.1)) (r.edges right) (hr.ranged.edges right))
      (weaken (λ (e : Edge). to ≤ e.to) (λ (e : Edge). right ≤ e.to) (λ e k. omega (arith, k)) fs f.behind))
      (all_both (BlockIn right hi) (r.blocks right) cs (b_widen right to right hi (omega arith) le (r.blocks right) (hr.ranged.blocks right)) (b_widen to hi right hi (omega arith) (omega arith) cs b_behind))
      (λ a ge lt. past a (omega (arith, lt)) ∙ f.none a lt)
      (ap (λ (es : List Edge). length es) (past (last_of l start) (omega (arith, hl.ranged.some))) ∙ f.one) on_l.may in
      let v : Under J right r own fs cs = under J right r own fs cs hi hr.ranged some u.lists u.begins f.behind b_behind f.then_none f.then_one on_r.may in
      record { left = u.piece; right = v.piece; lists = v.lists; begins = v.begins }

-- an edge from each input
module _ (start : ℕ) (l r : Piece) (hl : SoundPiece l) (hr : SoundPiece r) where
  abbrev from_left : ℕ → ℕ → Edge
  from_left to input = edge_at l start to input

  abbrev from_right : ℕ → ℕ → Edge
  from_right to input = edge_at r (start + length l.steps) to input

  -- in this order, and in the other one
  left_right : (to next : ℕ) → start + length l.steps + length r.steps ≤ to → start + length l.steps + length r.steps ≤ next → FromBoth start l r (from_left to 0 ∷ from_right next 1 ∷ [])
  left_right to next ge then_ge =
      let p = λ (a : ℕ) (e : Edge). nat_eq e.from a in
      record {
        none = λ a lt. two_none (p a) (from_left to 0) (from_right next 1) (above_ne (last_of l start) a (omega (arith, lt))) (above_ne (last_of r (start + length l.steps)) a (omega (arith, lt, hr.ranged.some)));
        then_none = λ a ge lt. two_none (p a) (from_left to 0) (from_right next 1) (below_ne (last_of l start) a (omega (arith, ge, hl.ranged.some))) (above_ne (last_of r (start + length l.steps)) a (omega (arith, lt)));
        one = ap (λ (es : List Edge). length es) (two_first (p (last_of l start)) (from_left to 0) (from_right next 1) (nat_same (last_of l start)) (above_ne (last_of r (start + length l.steps)) (last_of l start) (omega (arith, hl.ranged.some, hr.ranged.some))));
        then_one = ap (λ (es : List Edge). length es) (two_second (p (last_of r (start + length l.steps))) (from_left to 0) (from_right next 1) (below_ne (last_of l start) (last_of r (start + length l.steps)) (omega (arith, hl.ranged.some, hr.ranged.some))) (nat_same (last_of r (start + length l.steps))));
        behind = (ge, (then_ge, tt));
      }

  right_left : (to next : ℕ) → start + length l.steps + length r.steps ≤ to → start + length l.steps + length r.steps ≤ next → FromBoth start l r (from_right to 0 ∷ from_left next 0 ∷ [])
  right_left to next ge then_ge =
      let p = λ (a : ℕ) (e : Edge). nat_eq e.from a in
      record {
        none = λ a lt. two_none (p a) (from_right to 0) (from_left next 0) (above_ne (last_of r (start + length l.steps)) a (omega (arith, lt, hr.ranged.some))) (above_ne (last_of l start) a (omega (arith, lt)));
        then_none = λ a ge lt. two_none (p a) (from_right to 0) (from_left next 0) (above_ne (last_of r (start + length l.steps)) a (omega (arith, lt))) (below_ne (last_of l start) a (omega (arith, ge, hl.ranged.some)));
        one = ap (λ (es : List Edge). length es) (two_second (p (last_of l start)) (from_right to 0) (from_left next 0) (above_ne (last_of r (start + length l.steps)) (last_of l start) (omega (arith, hl.ranged.some, hr.ranged.some))) (nat_same (last_of l start)));
        then_one = ap (λ (es : List Edge). length es) (two_first (p (last_of r (start + length l.steps))) (from_right to 0) (from_left next 0) (nat_same (last_of r (start + length l.steps))) (below_ne (last_of l start) (last_of r (start + length l.steps)) (omega (arith, hl.ranged.some, hr.ranged.some))));
        behind = (ge, (then_ge, tt));
      }

-- the edges and blocks of both inputs within a greater piece, and those behind them
both_edges_in : (start hi : ℕ) (l r : Piece) (fs : List Edge) → SoundPiece l → SoundPiece r → start + length l.steps + length r.steps ≤ hi → AllByRecursion (EdgeIn start hi) fs → AllByRecursion (EdgeIn start hi) (l.edges start ++ (r.edges (start + length l.steps) ++ fs))
both_edges_in start hi l r fs hl hr le h =
    let right = start + length l.steps in
    all_both (EdgeIn start hi) (l.edges start) (r.edges right ++ fs) (widen start right start hi (omega arith) (omega (arith, le)) (l.edges start) (hl.ranged.edges start))
    (all_both (EdgeIn start hi) (r.edges right) fs (widen right (right + length r.steps) start hi (omega arith) le (r.edges right) (hr.ranged.edges right)) h)

both_blocks_in : (start hi : ℕ) (l r : Piece) (cs : List Block) → SoundPiece l → SoundPiece r → start + length l.steps + length r.steps ≤ hi → AllByRecursion (BlockIn start hi) cs → AllByRecursion (BlockIn start hi) (l.blocks start ++ (r.blocks (start + length l.steps) ++ cs))
both_blocks_in start hi l r cs hl hr le h =
    let right = start + length l.steps in
    all_both (BlockIn start hi) (l.blocks start) (r.blocks right ++ cs) (b_widen start right start hi (omega arith) (omega (arith, le)) (l.blocks start) (hl.ranged.blocks start))
    (all_both (BlockIn start hi) (r.blocks right) cs (b_widen right (right + length r.steps) start hi (omega arith) le (r.blocks right) (hr.ranged.blocks right)) h)

module _ (l r : Piece) (x : Step) (wire : Wire) (hl : SoundPiece l) (hr : SoundPiece r) (on_l : GoesOn l) (on_r : GoesOn r) (alone : Alone x 2)
    (local : (w : Widths) → w.taken 0 ≡ last_arity l.steps → w.taken 1 ≡ last_arity r.steps → StepSound x.kind x.arity w) where
  all_steps : length (l.steps ++ (r.steps ++ x ∷ [])) ≡ length l.steps + length r.steps + 1
  all_steps = omega (arith, length-append l.steps (r.steps ++ x ∷ []), length-append r.steps (x ∷ []))

  union_ranged : Ranged (union_piece l r (x ∷ []) wire)
  union_ranged =
      record {
        some = omega (arith, all_steps);
        edges = λ start.
            (let to = start + length l.steps + length r.steps in
            let hi = start + length (l.steps ++ (r.steps ++ x ∷ [])) in
            both_edges_in start hi l r (edge_at l start to 0 ∷ edge_at r (start + length l.steps) to 1 ∷ []) hl hr (omega (arith, all_steps))
            (edge_in l hl on_l start to 0 hi (omega arith) (omega (arith, all_steps)), ((omega (arith, hr.ranged.some), omega (arith, hr.ranged.some), omega (arith, all_steps)), tt)));
        blocks = λ start.
            (let hi = start + length (l.steps ++ (r.steps ++ x ∷ [])) in
            subst (λ bs. AllByRecursion (BlockIn start hi) (l.blocks start ++ bs)) (append-nil (r.blocks (start + length l.steps))) (both_blocks_in start hi l r [] hl hr (omega (arith, all_steps)) tt));
      }

  union_in : (J : Job) (start : ℕ) → HoldsPiece J start (union_piece l r (x ∷ []) wire) → SoundIn J start (union_piece l r (x ∷ []) wire)
  union_in J start H =
      let right = start + length l.steps in
      let to = right + length r.steps in
      let el = edge_at l start to 0 in
      let er = edge_at r right to 1 in
      let fs : List Edge = el ∷ er ∷ [] in
      let lists = subst (λ bs. Holds J start (l.steps ++ (r.steps ++ x ∷ [])) (l.edges start ++ (r.edges right ++ fs)) (l.blocks start ++ bs)) (sym (append-nil (r.blocks right))) H.lists in
      let u : UnderBoth J start l r (x ∷ []) fs [] = under_both J start l r (x ∷ []) fs [] to hl hr on_l on_r (omega arith) lists H.begins (left_right start l r hl hr to to (omega arith) (omega arith)) tt (omega arith) in
      let sl = hl.sound J start u.left in
      let sr = hr.sound J right u.right in
      let ends = u.lists.ends to (omega arith) (omega arith) ∙ two_both (λ (e : Edge). nat_eq e.to to) el er (nat_same to) (nat_same to) in
      let taken = ap (λ gs. first_arity J (filter (λ (g : Edge). nat_eq g.input 0) gs)) ends ∙ arity_last J start l.steps (l.edges start) (l.blocks start) u.left.lists hl.ranged.some in
      let then_taken = ap (λ gs. first_arity J (filter (λ (g : Edge). nat_eq g.input 1) gs)) ends ∙ arity_last J right r.steps (r.edges right) (r.blocks right) u.right.lists hr.ranged.some in
      let leaves : length (edges_from J to) ≤ may_leave x.kind =
      subst (λ n. length (edges_from J to) ≤ n) (last_may-append (l.steps ++ r.steps) x []) (subst (λ n. length (edges_from J to) ≤ n) (ap last_may (sym (append_assoc l.steps r.steps (x ∷ [])))) (subst (λ a. length (edges_from J a) ≤ last_may (l.steps ++ (r.steps ++ x ∷ []))) (omega (arith, all_steps)) H.leaves)) in
      record {
        activities = joined_activities J start l.steps (r.steps ++ x ∷ []) sl.activities (joined_activities J right r.steps (x ∷ []) sr.activities
            (activity_sound J to x 2 fs [] [] alone.takes ends refl leaves (u.lists.b_begins to (omega arith) (omega arith)) (sym (ap one_where alone.no_first)) (u.lists.b_ends to (omega arith) (omega arith)) (sym (ap one_where alone.no_second)) (local (widths_of J to) taken then_taken), tt));
        edges = all_both (EdgeSound J) (l.edges start) (r.edges right ++ fs) sl.edges (all_both (EdgeSound J) (r.edges right) fs sr.edges (edge_sound J start l to 0 hl.ranged on_l u.left, (edge_sound J right r to 1 hr.ranged on_r u.right, tt)));
        blocks = all_both (BlockSound J) (l.blocks start) (r.blocks right) sl.blocks sr.blocks;
      }

  pub union_sound : SoundPiece (union_piece l r (x ∷ []) wire)
  union_sound = record { ranged = union_ranged; sound = union_in }

module _ (l r : Piece) (x y : Step) (wire : Wire) (hl : SoundPiece l) (hr : SoundPiece r) (on_l : GoesOn l) (on_r : GoesOn r) (two : InTwo x y 1 1)
    (first : (w : Widths) → w.taken 0 ≡ last_arity r.steps → StepSound x.kind x.arity w) (second : (w : Widths) → w.taken 0 ≡ last_arity l.steps → w.handed ≡ x.arity → StepSound y.kind y.arity w) where
  each_step : length (l.steps ++ (r.steps ++ x ∷ y ∷ [])) ≡ length l.steps + length r.steps + 2
  each_step = omega (arith, length-append l.steps (r.steps ++ x ∷ y ∷ []), length-append r.steps (x ∷ y ∷ []))

  join_ranged : Ranged (join_piece l r (x ∷ y ∷ []) wire)
  join_ranged =
      record {
        some = omega (arith, each_step);
        edges = λ start.
            (let to = start + length l.steps + length r.steps in
            let hi = start + length (l.steps ++ (r.steps ++ x ∷ y ∷ [])) in
            both_edges_in start hi l r (edge_at r (start + length l.steps) to 0 ∷ edge_at l start (suc to) 0 ∷ []) hl hr (omega (arith, each_step))
            ((omega (arith, hr.ranged.some), omega (arith, hr.ranged.some), omega (arith, each_step)), (edge_in l hl on_l start (suc to) 0 hi (omega arith) (omega (arith, each_step)), tt)));
        blocks = λ start.
            (let to = start + length l.steps + length r.steps in
            both_blocks_in start (start + length (l.steps ++ (r.steps ++ x ∷ y ∷ []))) l r (block_at to) hl hr (omega (arith, each_step)) ((omega arith, omega arith, omega (arith, each_step)), tt));
      }

  join_in : (J : Job) (start : ℕ) → HoldsPiece J start (join_piece l r (x ∷ y ∷ []) wire) → SoundIn J start (join_piece l r (x ∷ y ∷ []) wire)
  join_in J start H =
      let right = start + length l.steps in
      let to = right + length r.steps in
      let er = edge_at r right to 0 in
      let el = edge_at l start (suc to) 0 in
      let fs : List Edge = er ∷ el ∷ [] in
      let u : UnderBoth J start l r (x ∷ y ∷ []) fs (block_at to) = under_both J start l r (x ∷ y ∷ []) fs (block_at to) (suc (suc to)) hl hr on_l on_r (omega arith) H.lists H.begins
      (right_left start l r hl hr to (suc to) (omega arith) (omega arith)) ((omega arith, omega arith, omega arith), tt) (omega arith) in
      let sl = hl.sound J start u.left in
      let sr = hr.sound J right u.right in
      let ends = u.lists.ends to (omega arith) (omega arith) ∙ two_first (λ (e : Edge). nat_eq e.to to) er el (nat_same to) (above_ne (suc to) to (omega arith)) in
      let then_ends = u.lists.ends (suc to) (omega arith) (omega arith) ∙ two_second (λ (e : Edge). nat_eq e.to (suc to)) er el (below_ne to (suc to) (omega arith)) (nat_same (suc to)) in
      let taken = ap (λ gs. first_arity J (filter (λ (g : Edge). nat_eq g.input 0) gs)) ends ∙ arity_last J right r.steps (r.edges right) (r.blocks right) u.right.lists hr.ranged.some in
      let then_taken = ap (λ gs. first_arity J (filter (λ (g : Edge). nat_eq g.input 0) gs)) then_ends ∙ arity_last J start l.steps (l.edges start) (l.blocks start) u.left.lists hl.ranged.some in
      let none = u.begins to (omega arith) (omega arith) ∙ two_none (λ (e : Edge). nat_eq e.from to) er el (below_ne (last_of r right) to (omega (arith, hr.ranged.some))) (below_ne (last_of l start) to (omega (arith, hl.ranged.some))) in
      let leaves : length (edges_from J (suc to)) ≤ may_leave y.kind =
      subst (λ n. length (edges_from J (suc to)) ≤ n) (last_may-append (l.steps ++ r.steps) x (y ∷ [])) (subst (λ n. length (edges_from J (suc to)) ≤ n) (ap last_may (sym (append_assoc l.steps r.steps (x ∷ y ∷ [])))) (subst (λ a. length (edges_from J a) ≤ last_may (l.steps ++ (r.steps ++ x ∷ y ∷ []))) (omega (arith, each_step)) H.leaves)) in
      let own = two_sound J to x y 1 1 fs u.lists two (er ∷ []) (el ∷ []) ends then_ends refl refl none leaves (first (widths_of J to) taken) (λ handed built. second (widths_of J (suc to)) then_taken handed) in
      record {
        activities = joined_activities J start l.steps (r.steps ++ x ∷ y ∷ []) sl.activities (joined_activities J right r.steps (x ∷ y ∷ []) sr.activities own.0);
        edges = all_both (EdgeSound J) (l.edges start) (r.edges right ++ fs) sl.edges (all_both (EdgeSound J) (r.edges right) fs sr.edges (edge_sound J right r to 0 hr.ranged on_r u.right, (edge_sound J start l (suc to) 0 hl.ranged on_l u.left, tt)));
        blocks = all_both (BlockSound J) (l.blocks start) (r.blocks right ++ block_at to) sl.blocks (all_both (BlockSound J) (r.blocks right) (block_at to) sr.blocks (own.1, tt));
      }

  pub join_sound : SoundPiece (join_piece l r (x ∷ y ∷ []) wire)
  join_sound = record { ranged = join_ranged; sound = join_in }
