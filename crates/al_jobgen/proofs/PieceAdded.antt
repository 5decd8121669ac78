-- What is added to the lists of a job in several steps.
use Rattle.std.proofs.Common.{◌≡◌, ℕ, suc, ◌+◌, ◌-◌, List, [], ◌∷◌, ◌++◌, length, map, refl, ap, sym, subst, ◌∙◌, arith, length-append, append_assoc, append-nil}
use Rattle.std.specs.List.{enumerate_from}
use Rattle.std.proofs.lemmas.List.{map-append}
use Rattle.hy_job.specs.declared.job.Activity.{Activity}
use Rattle.hy_job.specs.declared.job.Edge.{Edge}
use Rattle.hy_job.specs.declared.job.Block.{Block}
use Rattle.hy_job.specs.declared.job.Wire.{Wire}
use Rattle.al_phys.specs.declared.phys.Phys.{Phys, out-Phys}
use Rattle.al_jobgen.specs.declared.builder.Builder.{Builder}
use Rattle.al_jobgen.specs.declared.builder.Tail.{Tail}
use Rattle.al_jobgen.specs.JobOf.{Step, Piece, activity, piece_of, wire_step, last_of, block_at, edge_from, union_piece, job_of}
use Rattle.hy_job.specs.declared.job.Job.{Job}
use Rattle.al_jobgen.specs.Shapes.{Form, Source, Over, Both, form, form_piece, over_piece, both_piece}
use Rattle.al_jobgen.specs.Added.{own_of, activities_from, Added, EndsAt, AddedSource, AddedOver, AddedBoth, AddedPlan, over_edges, own_blocks, edge_of}
use Rattle.al_jobgen.proofs.PieceForms.{piece_form}

pub enumerate-append : {X : Type 0} (n : ℕ) (xs ys : List X) → enumerate_from n (xs ++ ys) ≡ enumerate_from n xs ++ enumerate_from (n + length xs) ys
enumerate-append n [] ys = ap (λ k. enumerate_from k ys) (omega arith)
enumerate-append n (x ∷ xs) ys =
    ap (λ zs. (n, x) ∷ zs) (enumerate-append (n + 1) xs ys ∙ ap (λ k. enumerate_from (n + 1) xs ++ enumerate_from k ys) (omega arith))

pub activities-append : (n : ℕ) (xs ys : List Step) → activities_from n (xs ++ ys) ≡ activities_from n xs ++ activities_from (n + length xs) ys
activities-append n xs ys = ap (map activity) (enumerate-append n xs ys) ∙ map-append activity (enumerate_from n xs) (enumerate_from (n + length xs) ys)

pub length-activities : (n : ℕ) (xs : List Step) → length (activities_from n xs) ≡ length xs
length-activities n [] = refl
length-activities n (x ∷ xs) = ap suc (length-activities (n + 1) xs)

pub added_length : (a b : Builder) (xs : List Step) (es : List Edge) (bs : List Block) → Added a b xs es bs → length b.activities ≡ length a.activities + length xs
added_length a b xs es bs h =
    ap (λ (l : List Activity). length l) h.activities ∙ length-append a.activities (activities_from (length a.activities) xs) ∙ ap (λ n. length a.activities + n) (length-activities (length a.activities) xs)

-- one step after the other
pub then_added : (a b c : Builder) (xs ys : List Step) (es fs : List Edge) (bs cs : List Block) → Added a b xs es bs → Added b c ys fs cs → Added a c (xs ++ ys) (es ++ fs) (bs ++ cs)
then_added a b c xs ys es fs bs cs h k =
    let n = length a.activities in
    record {
      activities =
          k.activities ∙ ap (λ zs. zs ++ activities_from (length b.activities) ys) h.activities
          ∙ ap (λ m. (a.activities ++ activities_from n xs) ++ activities_from m ys) (added_length a b xs es bs h)
          ∙ append_assoc a.activities (activities_from n xs) (activities_from (n + length xs) ys) ∙ ap (λ zs. a.activities ++ zs) (sym (activities-append n xs ys));
      edges = k.edges ∙ ap (λ zs. zs ++ fs) h.edges ∙ append_assoc a.edges es fs;
      blocks = k.blocks ∙ ap (λ zs. zs ++ cs) h.blocks ∙ append_assoc a.blocks bs cs;
    }

-- ---- an operator's own parts

-- edges, then blocks, then activities
pub all_added : (a b c d : Builder) (own : List Step) (es : List Edge) (f : ℕ → List Block) → Added a b [] es [] → Added b c [] [] (f (length b.activities)) → Added c d own [] [] → Added a d own es (f (length a.activities))
all_added a b c d own es f h k m =
    let n = length a.activities in
    let same : length b.activities ≡ length a.activities = added_length a b [] es [] h ∙ omega arith in
    let r = then_added a c d [] own (es ++ []) [] (f n) [] (then_added a b c [] [] es [] [] (f n) h (subst (λ l. Added b c [] [] (f l)) same k)) m in
    record {
      activities = r.activities;
      edges = r.edges ∙ ap (λ xs. a.edges ++ xs) (append-nil (es ++ []) ∙ append-nil es);
      blocks = r.blocks ∙ ap (λ xs. a.blocks ++ xs) (append-nil (f n));
    }

-- ---- pieces

-- the lists afterwards have a piece more, and it ends as told
record AddedPiece (old new : Builder) (q : Piece) (tail : Tail) : Type 0 where
  added : Added old new q.steps (q.edges (length old.activities)) (q.blocks (length old.activities))
  ends : EndsAt new q.wire tail

same_edge : (t : Tail) (from to : ℕ) (input next : ℕ) (w : Wire) → t.last ≡ from → next ≡ to → t.wire ≡ w → edge_of t next input ≡ record { from = from; to = to; input = input; wire = w }
same_edge t from to input next w f n e = λ i. record { from = f i; to = n i; input = input; wire = e i }

module _ (a b c : Builder) (q : Piece) (s t : Tail) (wire : Wire) (h : AddedPiece a b q s) where
  next : length b.activities ≡ length a.activities + length q.steps
  next = added_length a b q.steps (q.edges (length a.activities)) (q.blocks (length a.activities)) h.added

  edge : (input : ℕ) → edge_of s (length b.activities) input ≡ record { from = last_of q (length a.activities); to = length a.activities + length q.steps; input = input; wire = q.wire }
  edge input = same_edge s (last_of q (length a.activities)) (length a.activities + length q.steps) input (length b.activities) q.wire (h.ends.last ∙ ap (λ n. n - 1) next) next h.ends.wire

  over_added : (own : List Step) → AddedOver b c s own wire t → AddedPiece a c (over_piece q own wire) t
  over_added [] o =
      let n = length a.activities in
      let k = then_added a b c q.steps [] (q.edges n) [] (q.blocks n) [] h.added o.added in
      record {
        added = record {
          activities = k.activities ∙ ap (λ xs. a.activities ++ activities_from n xs) (append-nil q.steps);
          edges = k.edges ∙ ap (λ xs. a.edges ++ xs) (append-nil (q.edges n));
          blocks = k.blocks ∙ ap (λ xs. a.blocks ++ xs) (append-nil (q.blocks n));
        };
        ends = o.ends;
      }
  over_added (x ∷ []) o =
      let n = length a.activities in
      let k = then_added a b c q.steps (x ∷ []) (q.edges n) (edge_of s (length b.activities) 0 ∷ []) (q.blocks n) [] h.added o.added in
      record {
        added = record {
          activities = k.activities;
          edges = k.edges ∙ ap (λ (e : Edge). a.edges ++ (q.edges n ++ e ∷ [])) (edge 0);
          blocks = k.blocks ∙ ap (λ xs. a.blocks ++ xs) (append-nil (q.blocks n));
        };
        ends = o.ends;
      }
  over_added (x ∷ y ∷ more) o =
      let n = length a.activities in
      let k = then_added a b c q.steps (x ∷ y ∷ more) (q.edges n) (edge_of s (length b.activities) 0 ∷ []) (q.blocks n) (block_at (length b.activities)) h.added o.added in
      record {
        added = record {
          activities = k.activities;
          edges = k.edges ∙ ap (λ (e : Edge). a.edges ++ (q.edges n ++ e ∷ [])) (edge 0);
          blocks = k.blocks ∙ ap (λ m. a.blocks ++ (q.blocks n ++ block_at m)) next;
        };
        ends = o.ends;
      }

module _ (a b d : Builder) (l r : Piece) (s u : Tail) (h : AddedPiece a b l s) (k : AddedPiece b d r u) where
  right : length b.activities ≡ length a.activities + length l.steps
  right = added_length a b l.steps (l.edges (length a.activities)) (l.blocks (length a.activities)) h.added

  to : length d.activities ≡ length a.activities + length l.steps + length r.steps
  to = added_length b d r.steps (r.edges (length b.activities)) (r.blocks (length b.activities)) k.added ∙ ap (λ n. n + length r.steps) right

  -- an edge from the left input, and one from the right input
  from_left : (input by m : ℕ) → m ≡ by → edge_of s m input ≡ record { from = last_of l (length a.activities); to = by; input = input; wire = l.wire }
  from_left input by m e = same_edge s (last_of l (length a.activities)) by input m l.wire (h.ends.last ∙ ap (λ n. n - 1) right) e h.ends.wire

  from_right : (input by m : ℕ) → m ≡ by → edge_of u m input ≡ record { from = last_of r (length a.activities + length l.steps); to = by; input = input; wire = r.wire }
  from_right input by m e = same_edge u (last_of r (length a.activities + length l.steps)) by input m r.wire (k.ends.last ∙ ap (λ n. n - 1) to) e k.ends.wire

  union_edges : edge_of s (length d.activities) 0 ∷ edge_of u (length d.activities) 1 ∷ []
      ≡ edge_from l (length a.activities) (length a.activities + length l.steps + length r.steps) 0 ++ edge_from r (length a.activities + length l.steps) (length a.activities + length l.steps + length r.steps) 1
  union_edges = λ i. from_left 0 (length a.activities + length l.steps + length r.steps) (length d.activities) to i ∷ from_right 1 (length a.activities + length l.steps + length r.steps) (length d.activities) to i ∷ []

  join_edges : edge_of u (length d.activities) 0 ∷ edge_of s (suc (length d.activities)) 0 ∷ []
      ≡ edge_from r (length a.activities + length l.steps) (length a.activities + length l.steps + length r.steps) 0 ++ edge_from l (length a.activities) (suc (length a.activities + length l.steps + length r.steps)) 0
  join_edges = λ i. from_right 0 (length a.activities + length l.steps + length r.steps) (length d.activities) to i ∷ from_left 0 (suc (length a.activities + length l.steps + length r.steps)) (suc (length d.activities)) (ap suc to) i ∷ []

  -- both inputs, and what stands over them
  together : (c : Builder) (own : List Step) (es : List Edge) (bs : List Block) → Added d c own es bs
      → Added a c (l.steps ++ (r.steps ++ own)) (l.edges (length a.activities) ++ (r.edges (length a.activities + length l.steps) ++ es)) (l.blocks (length a.activities) ++ (r.blocks (length a.activities + length l.steps) ++ bs))
  together c own es bs o =
      then_added a b c l.steps (r.steps ++ own) (l.edges (length a.activities)) (r.edges (length a.activities + length l.steps) ++ es) (l.blocks (length a.activities)) (r.blocks (length a.activities + length l.steps) ++ bs) h.added
      (subst (λ m. Added b c (r.steps ++ own) (r.edges m ++ es) (r.blocks m ++ bs)) right (then_added b d c r.steps own (r.edges (length b.activities)) es (r.blocks (length b.activities)) bs k.added o))

  as_union : (c : Builder) (own : List Step) (wire : Wire) (t : Tail) → Added d c own (edge_of s (length d.activities) 0 ∷ edge_of u (length d.activities) 1 ∷ []) [] → EndsAt c wire t → AddedPiece a c (union_piece l r own wire) t
  as_union c own wire t o ends =
      let k = together c own (edge_of s (length d.activities) 0 ∷ edge_of u (length d.activities) 1 ∷ []) [] o in
      record {
        added = record {
          activities = k.activities;
          edges = k.edges ∙ ap (λ es. a.edges ++ (l.edges (length a.activities) ++ (r.edges (length a.activities + length l.steps) ++ es))) union_edges;
          blocks = k.blocks ∙ ap (λ bs. a.blocks ++ (l.blocks (length a.activities) ++ bs)) (append-nil (r.blocks (length a.activities + length l.steps)));
        };
        ends = ends;
      }

  both_added : (c : Builder) (wire : Wire) (t : Tail) (own : List Step) → AddedBoth d c s u own wire t → AddedPiece a c (both_piece l r own wire) t
  both_added c wire t [] o = as_union c [] wire t o.added o.ends
  both_added c wire t (x ∷ []) o = as_union c (x ∷ []) wire t o.added o.ends
  both_added c wire t (x ∷ y ∷ more) o =
      let k = together c (x ∷ y ∷ more) (edge_of u (length d.activities) 0 ∷ edge_of s (suc (length d.activities)) 0 ∷ []) (block_at (length d.activities)) o.added in
      record {
        added = record {
          activities = k.activities;
          edges = k.edges ∙ ap (λ es. a.edges ++ (l.edges (length a.activities) ++ (r.edges (length a.activities + length l.steps) ++ es))) join_edges;
          blocks = k.blocks ∙ ap (λ m. a.blocks ++ (l.blocks (length a.activities) ++ (r.blocks (length a.activities + length l.steps) ++ block_at m))) to;
        };
        ends = o.ends;
      }

-- ---- plans

as_plan : (p : Phys) (a b : Builder) (t : Tail) (f : Form) (own : List Step) (wire : Wire) → f ≡ form (out-Phys p) → own ≡ own_of p → wire ≡ wire_step (out-Phys p) → AddedPiece a b (form_piece f own wire) t → AddedPlan a b p t
as_plan p a b t f own wire e o w h =
    let same : form_piece f own wire ≡ piece_of p = (λ i. form_piece (e i) (o i) (w i)) ∙ sym (piece_form p) in
    let k : AddedPiece a b (piece_of p) t = subst (λ (q : Piece). AddedPiece a b q t) same h in
    record { added = k.added; ends = k.ends }

as_piece : (a b : Builder) (p : Phys) (t : Tail) → AddedPlan a b p t → AddedPiece a b (piece_of p) t
as_piece a b p t h = record { added = h.added; ends = h.ends }

pub source_done : (p : Phys) (a b : Builder) (t : Tail) (own : List Step) (wire : Wire) → Source ≡ form (out-Phys p) → own ≡ own_of p → wire ≡ wire_step (out-Phys p) → AddedSource a b own wire t → AddedPlan a b p t
source_done p a b t own wire e o w h = as_plan p a b t Source own wire e o w (record { added = h.added; ends = h.ends })

pub over_done : (p q : Phys) (a b c : Builder) (s t : Tail) (own : List Step) (wire : Wire) → Over q ≡ form (out-Phys p) → own ≡ own_of p → wire ≡ wire_step (out-Phys p) → AddedPlan a b q s → AddedOver b c s own wire t → AddedPlan a c p t
over_done p q a b c s t own wire e o w h k = as_plan p a c t (Over q) own wire e o w (over_added a b c (piece_of q) s t wire (as_piece a b q s h) own k)

pub both_done : (p l r : Phys) (a b d c : Builder) (s u t : Tail) (own : List Step) (wire : Wire) → Both l r ≡ form (out-Phys p) → own ≡ own_of p → wire ≡ wire_step (out-Phys p) → AddedPlan a b l s → AddedPlan b d r u → AddedBoth d c s u own wire t → AddedPlan a c p t
both_done p l r a b d c s u t own wire e o w h k m = as_plan p a c t (Both l r) own wire e o w (both_added a b d (piece_of l) (piece_of r) s u (as_piece a b l s h) (as_piece b d r u k) c wire t own m)

-- the lists of a whole plan are its job
pub job_is : (p : Phys) (n : ℕ) (a b : Builder) (t : Tail) → a.activities ≡ [] → a.edges ≡ [] → a.blocks ≡ [] → AddedPlan a b p t
    → ◌≡◌ {A = Job} record { activities = b.activities; edges = b.edges; blocks = b.blocks; partitions = n } (job_of p n)
job_is p n a b t no_activities no_edges no_blocks h =
    let none : length a.activities ≡ 0 = ap (λ (l : List Activity). length l) no_activities in
    let activities = h.added.activities ∙ (λ i. no_activities i ++ activities_from (none i) (piece_of p).steps) in
    let edges = h.added.edges ∙ (λ i. no_edges i ++ (piece_of p).edges (none i)) in
    let blocks = h.added.blocks ∙ (λ i. no_blocks i ++ (piece_of p).blocks (none i)) in
    λ i. record { activities = activities i; edges = edges i; blocks = blocks i; partitions = n }

-- ---- what each shape adds, by its calls

pub over_all : (a b c d : Builder) (s t : Tail) (own : List Step) (n : ℕ) (wire : Wire) → n ≡ length own → Added a b [] (over_edges s (length a.activities) n) [] → Added b c [] [] (own_blocks (length b.activities) n) → Added c d own [] [] → EndsAt d wire t
    → AddedOver a d s own wire t
over_all a b c d s t own n wire e h k m ends =
    record { added = subst (λ l. Added a d own (over_edges s (length a.activities) l) (own_blocks (length a.activities) l)) e (all_added a b c d own (over_edges s (length a.activities) n) (λ at. own_blocks at n) h k m); ends = ends }
