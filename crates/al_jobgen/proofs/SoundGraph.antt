-- Where the numbers of a piece lie, and what its activities see in a whole job that holds the piece.
use Rattle.std.proofs.Common.{◌≡◌, ℕ, zero, suc, ◌<◌, ◌≤◌, ◌+◌, ◌-◌, Bool, false, Some, List, [], ◌∷◌, ◌++◌, length, filter, refl, ap, sym, ◌∙◌, arith, length-append, append_assoc, append-nil}
use Rattle.std.specs.Prelude.{nat_eq}
use Rattle.std.specs.List.{AllByRecursion, slice_get}
use Rattle.std.proofs.lemmas.Bool.{ne_eqb}
use Rattle.std.proofs.lemmas.List.Elements.{filter-append}
use Rattle.al_plan.proofs.Moves.{filter_none}
use Rattle.hy_job.specs.declared.job.Activity.{Activity}
use Rattle.hy_job.specs.declared.job.Edge.{Edge}
use Rattle.hy_job.specs.declared.job.Block.{Block}
use Rattle.hy_job.specs.declared.job.Job.{Job}
use Rattle.hy_job.specs.Sound.{edges_into, blocks_into, blocks_from, arity_of, may_leave}
use Rattle.al_jobgen.specs.JobOf.{Step, Piece, activity}
use Rattle.al_jobgen.specs.Added.{activities_from}
use Rattle.al_jobgen.proofs.PieceAdded.{activities-append, length-activities}

pub weaken : {X : Type 0} (P Q : X → Type 0) → ((x : X) → P x → Q x) → (xs : List X) → AllByRecursion P xs → AllByRecursion Q xs
weaken P Q f [] h = tt
weaken P Q f (x ∷ xs) h = (f x h.0, weaken P Q f xs h.1)

-- a filter that nothing passes
pub none_by : {X : Type 0} (p : X → Bool) (P : X → Type 0) → ((x : X) → P x → p x ≡ false) → (xs : List X) → AllByRecursion P xs → filter p xs ≡ []
none_by p P f xs h = filter_none p xs (weaken P (λ x. p x ≡ false) f xs h)

pub below_ne : (a b : ℕ) → a < b → nat_eq a b ≡ false
below_ne a b h = ne_eqb a b (λ e. omega arith)

pub above_ne : (a b : ℕ) → b < a → nat_eq a b ≡ false
above_ne a b h = ne_eqb a b (λ e. omega arith)

-- ---- where numbers lie

abbrev pub EdgeIn : ℕ → ℕ → Edge → Type 0
EdgeIn lo hi e = (lo ≤ e.from) × (e.from < e.to) × (e.to < hi)

abbrev pub BlockIn : ℕ → ℕ → Block → Type 0
BlockIn lo hi b = (lo ≤ b.before) × (b.before < b.after) × (b.after < hi)

abbrev pub into : List Edge → ℕ → List Edge
into es a = filter (λ e. nat_eq e.to a) es

abbrev pub out_of : List Edge → ℕ → List Edge
out_of es a = filter (λ e. nat_eq e.from a) es

abbrev pub b_into : List Block → ℕ → List Block
b_into bs a = filter (λ b. nat_eq b.after a) bs

abbrev pub b_out : List Block → ℕ → List Block
b_out bs a = filter (λ b. nat_eq b.before a) bs

module _ (lo hi a : ℕ) (es : List Edge) (h : AllByRecursion (EdgeIn lo hi) es) where
  pub into_above : hi ≤ a → into es a ≡ []
  into_above le = none_by (λ (e : Edge). nat_eq e.to a) (EdgeIn lo hi) (λ e k. below_ne e.to a (omega (arith, k.2, le))) es h

  pub out_above : hi ≤ suc a → out_of es a ≡ []
  out_above le = none_by (λ (e : Edge). nat_eq e.from a) (EdgeIn lo hi) (λ e k. below_ne e.from a (omega (arith, k.1, k.2, le))) es h

  pub out_below : a < lo → out_of es a ≡ []
  out_below lt = none_by (λ (e : Edge). nat_eq e.from a) (EdgeIn lo hi) (λ e k. above_ne e.from a (omega (arith, k.0, lt))) es h

module _ (lo hi a : ℕ) (bs : List Block) (h : AllByRecursion (BlockIn lo hi) bs) where
  pub b_into_above : hi ≤ a → b_into bs a ≡ []
  b_into_above le = none_by (λ (b : Block). nat_eq b.after a) (BlockIn lo hi) (λ b k. below_ne b.after a (omega (arith, k.2, le))) bs h

  pub b_into_below : a < lo → b_into bs a ≡ []
  b_into_below lt = none_by (λ (b : Block). nat_eq b.after a) (BlockIn lo hi) (λ b k. above_ne b.after a (omega (arith, k.0, k.1, lt))) bs h

  pub b_out_above : hi ≤ a → b_out bs a ≡ []
  b_out_above le = none_by (λ (b : Block). nat_eq b.before a) (BlockIn lo hi) (λ b k. below_ne b.before a (omega (arith, k.1, k.2, le))) bs h

  pub b_out_below : a < lo → b_out bs a ≡ []
  b_out_below lt = none_by (λ (b : Block). nat_eq b.before a) (BlockIn lo hi) (λ b k. above_ne b.before a (omega (arith, k.0, lt))) bs h

pub widen : (lo hi from to : ℕ) → from ≤ lo → hi ≤ to → (es : List Edge) → AllByRecursion (EdgeIn lo hi) es → AllByRecursion (EdgeIn from to) es
widen lo hi from to f t = weaken (EdgeIn lo hi) (EdgeIn from to) (λ e k. (omega (arith, k.0, f), k.1, omega (arith, k.2, t)))

pub b_widen : (lo hi from to : ℕ) → from ≤ lo → hi ≤ to → (bs : List Block) → AllByRecursion (BlockIn lo hi) bs → AllByRecursion (BlockIn from to) bs
b_widen lo hi from to f t = weaken (BlockIn lo hi) (BlockIn from to) (λ b k. (omega (arith, k.0, f), k.1, omega (arith, k.2, t)))

-- a piece has an activity, and its edges and blocks are of its own activities
pub record Ranged (q : Piece) : Type 0 where
  pub some : 1 ≤ length q.steps
  pub edges : (start : ℕ) → AllByRecursion (EdgeIn start (start + length q.steps)) (q.edges start)
  pub blocks : (start : ℕ) → AllByRecursion (BlockIn start (start + length q.steps)) (q.blocks start)

-- ---- a job that holds a piece

-- these steps are activities of the job, and it has no other edges and blocks that end in one of them
pub record Holds (J : Job) (start : ℕ) (steps : List Step) (es : List Edge) (bs : List Block) : Type 0 where
  pub before : List Activity
  pub after : List Activity
  pub parts : J.activities ≡ before ++ (activities_from start steps ++ after)
  pub place : length before ≡ start
  pub ends : (a : ℕ) → start ≤ a → a < start + length steps → edges_into J a ≡ into es a
  pub b_ends : (a : ℕ) → start ≤ a → a < start + length steps → blocks_into J a ≡ b_into bs a
  pub b_begins : (a : ℕ) → start ≤ a → a < start + length steps → blocks_from J a ≡ b_out bs a

module _ (J : Job) (start : ℕ) (xs ys : List Step) (es fs : List Edge) (bs cs : List Block) (h : Holds J start (xs ++ ys) (es ++ fs) (bs ++ cs)) where
  more : length (xs ++ ys) ≡ length xs + length ys
  more = length-append xs ys

  -- the first part, where the other edges and blocks lie behind it
  pub holds_left : (hi : ℕ) → AllByRecursion (λ (e : Edge). start + length xs ≤ e.to) fs → AllByRecursion (BlockIn (start + length xs) hi) cs → Holds J start xs es bs
  holds_left hi behind b_behind =
      record {
        before = h.before;
        after = activities_from (start + length xs) ys ++ h.after;
        parts = h.parts ∙ ap (λ zs. h.before ++ (zs ++ h.after)) (activities-append start xs ys) ∙ ap (λ zs. h.before ++ zs) (append_assoc (activities_from start xs) (activities_from (start + length xs) ys) h.after);
        place = h.place;
        ends = λ a ge lt.
            h.ends a ge (omega (arith, more, lt)) ∙ filter-append (λ (e : Edge). nat_eq e.to a) es fs
            ∙ ap (λ gs. into es a ++ gs) (none_by (λ (e : Edge). nat_eq e.to a) (λ (e : Edge). start + length xs ≤ e.to) (λ e k. above_ne e.to a (omega (arith, k, lt))) fs behind)
            ∙ append-nil (into es a);
        b_ends = λ a ge lt.
            h.b_ends a ge (omega (arith, more, lt)) ∙ filter-append (λ (b : Block). nat_eq b.after a) bs cs ∙ ap (λ gs. b_into bs a ++ gs) (b_into_below (start + length xs) hi a cs b_behind lt)
            ∙ append-nil (b_into bs a);
        b_begins = λ a ge lt.
            h.b_begins a ge (omega (arith, more, lt)) ∙ filter-append (λ (b : Block). nat_eq b.before a) bs cs ∙ ap (λ gs. b_out bs a ++ gs) (b_out_below (start + length xs) hi a cs b_behind lt)
            ∙ append-nil (b_out bs a);
      }

  -- the second part, where the other edges and blocks lie before it
  pub holds_right : AllByRecursion (EdgeIn start (start + length xs)) es → AllByRecursion (BlockIn start (start + length xs)) bs → Holds J (start + length xs) ys fs cs
  holds_right before b_before =
      record {
        before = h.before ++ activities_from start xs;
        after = h.after;
        parts =
            h.parts ∙ ap (λ zs. h.before ++ (zs ++ h.after)) (activities-append start xs ys) ∙ ap (λ zs. h.before ++ zs) (append_assoc (activities_from start xs) (activities_from (start + length xs) ys) h.after)
            ∙ sym (append_assoc h.before (activities_from start xs) (activities_from (start + length xs) ys ++ h.after));
        place = length-append h.before (activities_from start xs) ∙ (λ i. h.place i + length-activities start xs i);
        ends = λ a ge lt.
            h.ends a (omega (arith, ge)) (omega (arith, more, lt)) ∙ filter-append (λ (e : Edge). nat_eq e.to a) es fs ∙ ap (λ gs. gs ++ into fs a) (into_above start (start + length xs) a es before ge);
        b_ends = λ a ge lt.
            h.b_ends a (omega (arith, ge)) (omega (arith, more, lt)) ∙ filter-append (λ (b : Block). nat_eq b.after a) bs cs ∙ ap (λ gs. gs ++ b_into cs a) (b_into_above start (start + length xs) a bs b_before ge);
        b_begins = λ a ge lt.
            h.b_begins a (omega (arith, ge)) (omega (arith, more, lt)) ∙ filter-append (λ (b : Block). nat_eq b.before a) bs cs ∙ ap (λ gs. gs ++ b_out cs a) (b_out_above start (start + length xs) a bs b_before ge);
      }

-- ---- the activities of a piece

pub get_past : {X : Type 0} (xs ys : List X) (i : ℕ) → slice_get (xs ++ ys) (length xs + i) ≡ slice_get ys i
get_past [] ys i = ap (slice_get ys) (omega arith)
get_past (x ∷ xs) ys i =
    let e : suc (length xs) + i ≡ suc (length xs + i) = omega arith in
    ap (slice_get (x ∷ (xs ++ ys))) e ∙ get_past xs ys i

-- the width of the last step's rows, and how many edges may leave it
abbrev pub last_arity : List Step → ℕ
last_arity [] = 0
last_arity (x ∷ []) = x.arity
last_arity (x ∷ y ∷ more) = last_arity (y ∷ more)

abbrev pub last_may : List Step → ℕ
last_may [] = 0
last_may (x ∷ []) = may_leave x.kind
last_may (x ∷ y ∷ more) = last_may (y ∷ more)

pub last_arity-append : (xs : List Step) (y : Step) (ys : List Step) → last_arity (xs ++ y ∷ ys) ≡ last_arity (y ∷ ys)
last_arity-append [] y ys = refl
last_arity-append (x ∷ []) y ys = refl
last_arity-append (x ∷ z ∷ more) y ys = last_arity-append (z ∷ more) y ys

pub last_may-append : (xs : List Step) (y : Step) (ys : List Step) → last_may (xs ++ y ∷ ys) ≡ last_may (y ∷ ys)
last_may-append [] y ys = refl
last_may-append (x ∷ []) y ys = refl
last_may-append (x ∷ z ∷ more) y ys = last_may-append (z ∷ more) y ys

last_at : (steps : List Step) (start : ℕ) (after : List Activity) (i : ℕ) → suc i ≡ length steps → arity_of (slice_get (activities_from start steps ++ after) i) ≡ last_arity steps
last_at [] start after i e = absurd (omega (arith, e))
last_at (x ∷ []) start after zero e = refl
last_at (x ∷ []) start after (suc i) e = absurd (omega (arith, e))
last_at (x ∷ y ∷ more) start after zero e = absurd (omega (arith, e))
last_at (x ∷ y ∷ more) start after (suc i) e = last_at (y ∷ more) (start + 1) after i (omega (arith, e))

-- the arity of a piece's last activity
pub arity_last : (J : Job) (start : ℕ) (steps : List Step) (es : List Edge) (bs : List Block) → Holds J start steps es bs → 1 ≤ length steps → arity_of (slice_get J.activities (start + length steps - 1)) ≡ last_arity steps
arity_last J start steps es bs h some =
    let i : ℕ = length steps - 1 in
    let at : start + length steps - 1 ≡ length h.before + (length steps - 1) = omega (arith, h.place, some) in
    ap arity_of ((λ j. slice_get (h.parts j) (at j)) ∙ get_past h.before (activities_from start steps ++ h.after) (length steps - 1))
    ∙ last_at steps start h.after (length steps - 1) (omega (arith, some))

-- the first and the second of these activities
pub get_first : (J : Job) (start : ℕ) (x : Step) (more : List Step) (es : List Edge) (bs : List Block) → Holds J start (x ∷ more) es bs → slice_get J.activities start ≡ Some (activity (start, x))
get_first J start x more es bs h =
    let at : start ≡ length h.before + 0 = omega (arith, h.place) in
    (λ j. slice_get (h.parts j) (at j)) ∙ get_past h.before (activities_from start (x ∷ more) ++ h.after) 0

pub get_second : (J : Job) (start : ℕ) (x y : Step) (more : List Step) (es : List Edge) (bs : List Block) → Holds J start (x ∷ y ∷ more) es bs → slice_get J.activities (suc start) ≡ Some (activity (suc start, y))
get_second J start x y more es bs h =
    let at : suc start ≡ length h.before + 1 = omega (arith, h.place) in
    (λ j. slice_get (h.parts j) (at j)) ∙ get_past h.before (activities_from start (x ∷ y ∷ more) ++ h.after) 1 ∙ ap (λ n. Some (activity (n, y))) (omega arith)
