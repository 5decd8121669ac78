-- Pieces that are sound in every job that holds them, and the shapes that keep it.
use Rattle.std.proofs.Common.{◌≡◌, ℕ, suc, ◌<◌, ◌≤◌, ◌+◌, Bool, true, false, Some, List, [], ◌∷◌, ◌++◌, length, map, filter, refl, ap, sym, subst, ◌∙◌, arith, length-append, append-nil}
use Rattle.std.specs.Prelude.{nat_eq}
use Rattle.std.specs.List.{AllByRecursion, slice_get, range_with_len}
use Rattle.std.specs.List.Sorted.{IsPermutation}
use Rattle.std.proofs.lemmas.List.Sorted.{IsPermutation-refl}
use Rattle.std.proofs.lemmas.List.Elements.{filter-append}
use Rattle.hy_job.specs.declared.job.Kind.{Kind}
use Rattle.hy_job.specs.declared.job.Activity.{Activity}
use Rattle.hy_job.specs.declared.job.Edge.{Edge}
use Rattle.hy_job.specs.declared.job.Block.{Block}
use Rattle.hy_job.specs.declared.job.Wire.{Wire}
use Rattle.hy_job.specs.declared.job.Job.{Job}
use Rattle.hy_job.specs.Sound.{edges_into, edges_from, blocks_into, blocks_from, arity_of, handed_arity, built_width, width_in, Widths, widths_of, inputs, is_first, is_second, may_leave, one_where, AreTwo, AreTwoOf, IsInRange, HasSoundNested, HasKeyPairs, HasAllAsKeys, TakesStates, HasArity, IsWireInRange, LeavesNoInput}
use Rattle.al_jobgen.specs.JobOf.{Step, Piece, activity, last_of, block_at, source_piece, exchange_piece}
use Rattle.al_jobgen.specs.Added.{activities_from}
use Rattle.al_jobgen.proofs.SoundGraph.{below_ne, above_ne, BlockIn, into, out_of, out_above, Ranged, Holds, holds_left, holds_right, last_arity, last_may, arity_last, get_first, get_second}

-- ---- what each part of a job is to keep

-- what a step names is there, and its arity is that of its kind, for the widths that it sees
pub record StepSound (kind : Kind) (arity : ℕ) (w : Widths) : Type 0 where
  pub in_range : IsInRange kind w
  pub nested : HasSoundNested kind w
  pub key_pairs : HasKeyPairs kind
  pub all_keys : HasAllAsKeys kind w
  pub states : TakesStates kind w
  pub arities : HasArity kind w arity
  pub narrow : arity ≤ 1024

pub record ActivitySound (J : Job) (a : Activity) : Type 0 where
  pub fed : IsPermutation (range_with_len 0 (inputs a.kind)) (map (λ e. e.input) (edges_into J a.number))
  pub leaving : length (edges_from J a.number) ≤ may_leave a.kind
  pub firsts : length (blocks_from J a.number) ≡ one_where (is_first a.kind)
  pub seconds : length (blocks_into J a.number) ≡ one_where (is_second a.kind)
  pub local : StepSound a.kind a.arity (widths_of J a.number)

pub record EdgeSound (J : Job) (e : Edge) : Type 0 where
  pub merged : LeavesNoInput e.wire (edges_into J e.from)
  pub wires : IsWireInRange e.wire (arity_of (slice_get J.activities e.from))

abbrev pub BlockSound : Job → Block → Type 0
BlockSound J b = AreTwoOf (slice_get J.activities b.before) (slice_get J.activities b.after)

-- a job that holds a piece, where at most as many edges leave its last activity as may
pub record HoldsPiece (J : Job) (start : ℕ) (q : Piece) : Type 0 where
  pub lists : Holds J start q.steps (q.edges start) (q.blocks start)
  pub begins : (a : ℕ) → start ≤ a → suc a < start + length q.steps → edges_from J a ≡ out_of (q.edges start) a
  pub leaves : length (edges_from J (last_of q start)) ≤ last_may q.steps

pub record SoundIn (J : Job) (start : ℕ) (q : Piece) : Type 0 where
  pub activities : AllByRecursion (ActivitySound J) (activities_from start q.steps)
  pub edges : AllByRecursion (EdgeSound J) (q.edges start)
  pub blocks : AllByRecursion (BlockSound J) (q.blocks start)

pub record SoundPiece (q : Piece) : Type 0 where
  pub ranged : Ranged q
  pub sound : (J : Job) (start : ℕ) → HoldsPiece J start q → SoundIn J start q

-- a piece's wire may go on
pub record GoesOn (q : Piece) : Type 0 where
  pub free : (start : ℕ) → LeavesNoInput q.wire (into (q.edges start) (last_of q start))
  pub range : IsWireInRange q.wire (last_arity q.steps)
  pub may : last_may q.steps ≡ 1

-- ---- steps

-- a step that stands alone, with this many inputs
pub record Alone (x : Step) (n : ℕ) : Type 0 where
  pub takes : inputs x.kind ≡ n
  pub no_first : is_first x.kind ≡ false
  pub no_second : is_second x.kind ≡ false

-- two steps, of which the first and the second have this many inputs
pub record InTwo (x y : Step) (n m : ℕ) : Type 0 where
  pub takes : inputs x.kind ≡ n
  pub then_takes : inputs y.kind ≡ m
  pub first : is_first x.kind ≡ true
  pub no_second : is_second x.kind ≡ false
  pub no_first : is_first y.kind ≡ false
  pub second : is_second y.kind ≡ true
  pub none_leave : may_leave x.kind ≡ 0
  pub two : AreTwo x.kind y.kind

same_numbers : (xs ys : List ℕ) → xs ≡ ys → IsPermutation xs ys
same_numbers xs ys e = subst (IsPermutation xs) e (IsPermutation-refl xs)

pub keep_one : {X : Type 0} (p : X → Bool) (x : X) → p x ≡ true → filter p (x ∷ []) ≡ x ∷ []
keep_one p x e = rw e refl

pub keep_none : {X : Type 0} (p : X → Bool) (x : X) → p x ≡ false → filter p (x ∷ []) ≡ []
keep_none p x e = rw e refl

pub nat_same : (a : ℕ) → nat_eq a a ≡ true
nat_same a = grind arith

-- ---- an input within a greater piece

pub record Under (J : Job) (start : ℕ) (q : Piece) (own : List Step) (fs : List Edge) (cs : List Block) : Type 0 where
  pub piece : HoldsPiece J start q
  pub lists : Holds J (start + length q.steps) own fs cs
  pub begins : (a : ℕ) → start + length q.steps ≤ a → suc a < start + length q.steps + length own → edges_from J a ≡ out_of fs a

-- what stands behind it, its edges and its blocks
module _ (J : Job) (start : ℕ) (q : Piece) (own : List Step) (fs : List Edge) (cs : List Block) (hi : ℕ) (ranged : Ranged q) (some : 1 ≤ length own) where
  module _ (lists : Holds J start (q.steps ++ own) (q.edges start ++ fs) (q.blocks start ++ cs)) (begins : (a : ℕ) → start ≤ a → suc a < start + length (q.steps ++ own) → edges_from J a ≡ out_of (q.edges start ++ fs) a) where
    pub under : AllByRecursion (λ (e : Edge). start + length q.steps ≤ e.to) fs → AllByRecursion (BlockIn (start + length q.steps) hi) cs → ((a : ℕ) → start ≤ a → suc a < start + length q.steps → out_of fs a ≡ [])
        → length (out_of fs (last_of q start)) ≡ 1 → last_may q.steps ≡ 1 → Under J start q own fs cs
    under behind b_behind none one may =
        let next = start + length q.steps in
        let more = length-append q.steps own in
        let full = length-append q.steps own in
        let apart = λ (a : ℕ). filter-append (λ (e : Edge). nat_eq e.from a) (q.edges start) fs in
        record {
          piece = record {
            lists = holds_left J start q.steps own (q.edges start) fs (q.blocks start) cs lists hi behind b_behind;
            begins = λ a ge lt. begins a ge (omega (arith, more, lt)) ∙ apart a ∙ ap (λ gs. out_of (q.edges start) a ++ gs) (none a ge lt) ∙ append-nil (out_of (q.edges start) a);
            leaves =
                let last = last_of q start in
                let e = begins (last_of q start) (omega (arith, ranged.some)) (omega (arith, more, some, ranged.some)) ∙ apart (last_of q start)
                ∙ ap (λ gs. gs ++ out_of fs (last_of q start)) (out_above start (start + length q.steps) (last_of q start) (q.edges start) (ranged.edges start) (omega (arith, ranged.some))) in
                omega (arith, ap (λ (gs : List Edge). length gs) e, one, may);
          };
          lists = holds_right J start q.steps own (q.edges start) fs (q.blocks start) cs lists (ranged.edges start) (ranged.blocks start);
          begins = λ a ge lt.
              begins a (omega (arith, ge)) (omega (arith, more, lt)) ∙ apart a ∙ ap (λ gs. gs ++ out_of fs a) (out_above start (start + length q.steps) a (q.edges start) (ranged.edges start) (omega (arith, ge)));
        }

-- an edge from an input
pub edge_sound : (J : Job) (start : ℕ) (q : Piece) (to input : ℕ) → Ranged q → GoesOn q → HoldsPiece J start q → EdgeSound J (record { from = last_of q start; to = to; input = input; wire = q.wire })
edge_sound J start q to input ranged on h =
    record {
      merged = subst (LeavesNoInput q.wire) (sym (h.lists.ends (last_of q start) (omega (arith, ranged.some)) (omega (arith, ranged.some)))) (on.free start);
      wires = subst (IsWireInRange q.wire) (sym (arity_last J start q.steps (q.edges start) (q.blocks start) h.lists ranged.some)) on.range;
    }

-- ---- own activities

-- an activity, given what it sees
pub activity_sound : (J : Job) (a : ℕ) (x : Step) (n : ℕ) (fs : List Edge) (begin finish : List Block) → inputs x.kind ≡ n → edges_into J a ≡ fs → range_with_len 0 n ≡ map (λ e. e.input) fs → length (edges_from J a) ≤ may_leave x.kind
    → blocks_from J a ≡ begin → length begin ≡ one_where (is_first x.kind) → blocks_into J a ≡ finish → length finish ≡ one_where (is_second x.kind) → StepSound x.kind x.arity (widths_of J a) → ActivitySound J (activity (a, x))
activity_sound J a x n fs begin finish takes ends numbers leaving b bn f fn local =
    record {
      fed = same_numbers (range_with_len 0 (inputs x.kind)) (map (λ e. e.input) (edges_into J a)) (ap (range_with_len 0) takes ∙ numbers ∙ sym (ap (map (λ e. e.input)) ends));
      leaving = leaving;
      firsts = ap (λ (bs : List Block). length bs) b ∙ bn;
      seconds = ap (λ (bs : List Block). length bs) f ∙ fn;
      local = local;
    }

-- two activities of one operator
module _ (J : Job) (to : ℕ) (x y : Step) (n m : ℕ) (es : List Edge) (own : Holds J to (x ∷ y ∷ []) es (block_at to)) (two : InTwo x y n m) (fs gs : List Edge) where
  ends_second : blocks_into J (suc to) ≡ block_at to
  ends_second = own.b_ends (suc to) (omega arith) (omega arith) ∙ keep_one (λ (b : Block). nat_eq b.after (suc to)) (record { before = to; after = suc to }) (nat_same (suc to))

  pub two_sound : edges_into J to ≡ fs → edges_into J (suc to) ≡ gs → range_with_len 0 n ≡ map (λ e. e.input) fs → range_with_len 0 m ≡ map (λ e. e.input) gs → edges_from J to ≡ [] → length (edges_from J (suc to)) ≤ may_leave y.kind
      → StepSound x.kind x.arity (widths_of J to) → ((widths_of J (suc to)).handed ≡ x.arity → (widths_of J (suc to)).built ≡ width_in J to 0 → StepSound y.kind y.arity (widths_of J (suc to)))
      → AllByRecursion (ActivitySound J) (activities_from to (x ∷ y ∷ [])) × BlockSound J (record { before = to; after = suc to })
  two_sound ix iy nx ny lx ly sx sy =
      let first = get_first J to x (y ∷ []) es (block_at to) own in
      let second = get_second J to x y [] es (block_at to) own in (
        (
          activity_sound J to x n fs (block_at to) [] two.takes ix nx (omega (arith, ap (λ (l : List Edge). length l) lx))
              (own.b_begins to (omega arith) (omega arith) ∙ keep_one (λ (b : Block). nat_eq b.before to) (record { before = to; after = suc to }) (nat_same to)) (sym (ap one_where two.first))
              (own.b_ends to (omega arith) (omega arith) ∙ keep_none (λ (b : Block). nat_eq b.after to) (record { before = to; after = suc to }) (above_ne (suc to) to (omega arith))) (sym (ap one_where two.no_second)) sx,
          (
            subst (λ n. ActivitySound J (activity (n, y))) (omega arith) (
                activity_sound J (suc to) y m gs [] (block_at to) two.then_takes iy ny ly
                (own.b_begins (suc to) (omega arith) (omega arith) ∙ keep_none (λ (b : Block). nat_eq b.before (suc to)) (record { before = to; after = suc to }) (below_ne to (suc to) (omega arith))) (sym (ap one_where two.no_first))
                ends_second (sym (ap one_where two.second))
                (sy (ap (handed_arity J) ends_second ∙ ap arity_of first) (ap (built_width J) ends_second))),
            tt,
          ),
        ),
        subst (AreTwoOf (slice_get J.activities to)) (sym second) (subst (λ a. AreTwoOf a (Some (activity (suc to, y)))) (sym first) two.two),
      )

-- ---- sources and exchanges

pub source_sound : (x : Step) (wire : Wire) → Alone x 0 → ((w : Widths) → StepSound x.kind x.arity w) → SoundPiece (source_piece (x ∷ []) wire)
source_sound x wire alone local =
    record {
      ranged = record { some = omega arith; edges = λ start. tt; blocks = λ start. tt };
      sound = λ J start h. record {
        activities = (
          activity_sound J start x 0 [] [] [] alone.takes (h.lists.ends start (omega arith) (omega arith)) refl (subst (λ a. length (edges_from J a) ≤ may_leave x.kind) (omega arith) h.leaves)
              (h.lists.b_begins start (omega arith) (omega arith)) (sym (ap one_where alone.no_first)) (h.lists.b_ends start (omega arith) (omega arith)) (sym (ap one_where alone.no_second)) (local (widths_of J start)),
          tt,
        );
        edges = tt;
        blocks = tt;
      };
    }

pub exchange_sound : (q : Piece) (wire : Wire) → SoundPiece q → SoundPiece (exchange_piece q wire)
exchange_sound q wire h =
    record {
      ranged = record { some = h.ranged.some; edges = h.ranged.edges; blocks = h.ranged.blocks };
      sound = λ J start k.
          let s = h.sound J start (record { lists = k.lists; begins = k.begins; leaves = k.leaves }) in
          record { activities = s.activities; edges = s.edges; blocks = s.blocks };
    }
