-- Settled records of which not all completed, completed to whole runs in the order of the activities' numbers.
use Rattle.std.proofs.Common.{◌≡◌, ◌≢◌, ◌⊎◌, inl, inr, ℕ, zero, suc, ◌<◌, ◌≤◌, ◌+◌, Bool, true, false, List, [], ◌∷◌, ◌++◌, map, length, refl, ap, sym, subst, ◌∙◌, arith}
use Rattle.std.specs.Prelude.{nat_eq, if◌then◌else◌}
use Rattle.std.specs.List.{AllByRecursion, Contains, list_any, range_with_len}
use Rattle.std.proofs.lemmas.Bool.{ne_eqb}
use Rattle.std.proofs.lemmas.List.Elements.{Contains-append_cases, All-contains, All-from_recursion}
use Rattle.hy_rest.specs.Words.{Signal, put_rows, Fail, Close}
use Rattle.hy_job.specs.declared.job.Wire.{Wire}
use Rattle.hy_job.specs.declared.job.Wire.TheVariants as W
use Rattle.hy_job.specs.declared.job.Activity.{Activity}
use Rattle.hy_job.specs.declared.job.Edge.{Edge}
use Rattle.hy_job.specs.declared.job.Job.{Job}
use Rattle.hy_job.specs.declared.job.Stage.{Stage}
use Rattle.hy_job.specs.Columns.{Row, AreValues}
use Rattle.hy_job.specs.Sound.{SoundJob, inputs, edges_from}
use Rattle.hy_job.specs.Stages.{AreNext, activities_in}
use Rattle.hy_job.specs.Runs.{Taken, Receives, Output, ReceivesOver, IsReceiver, rows_of, sent_over, sent_by, kept_by}
use Rattle.hy_job.specs.Settled.{Outcome, Completed, Stopped, Check, Store, NoMemory, TaskRecord, Records, HasCause}
use Rattle.hy_job.proofs.Members.{no_bool, by_cases, any_from, any_to, in_cases, in_none}
use Rattle.hy_job.proofs.Boxes.{activity_at, is_nat, nat_is}
use Rattle.hy_job.proofs.Connections.{rises}
use Rattle.al_answer.proofs.Records.{choice, first, rest, later}

-- ---- who sends

-- a task receives over a wire, or it is sent nothing
pub reach : (w : Wire) (n s r : ℕ) → r < n → ReceivesOver w n s r ⊎ ((ReceivesOver w n s r → ⊥) × ((rows : List Row) → sent_over w n s r rows ≡ []))
reach W.OneToOne n s r lt = by_cases (nat_eq r s) (λ t. inl (is_nat r s t)) (λ f. inr ((λ e. no_bool (sym (nat_is r s e) ∙ f)), λ rows. ap (λ (b : Bool). if b then rows else []) f))
reach (W.Hash columns) n s r lt = inl lt
reach W.Broadcast n s r lt = inl lt
reach W.Gather n s r lt = by_cases (nat_eq r 0) (λ t. inl (is_nat r 0 t)) (λ f. inr ((λ e. no_bool (sym (nat_is r 0 e) ∙ f)), λ rows. ap (λ (b : Bool). if b then rows else []) f))
reach (W.Merge keys) n s r lt = by_cases (nat_eq r 0) (λ t. inl (is_nat r 0 t)) (λ f. inr ((λ e. no_bool (sym (nat_is r 0 e) ∙ f)), λ rows. ap (λ (b : Bool). if b then rows else []) f))

-- ---- how a task ended

abbrev pub is_done : Outcome → Bool
is_done Completed = true
is_done Stopped = false
is_done (Check name) = false
is_done Store = false
is_done NoMemory = false

pub undone : (o : Outcome) → is_done o ≡ false → o ≢ Completed
undone o f e = no_bool (sym (ap is_done e) ∙ f)

pub ended : (o : Outcome) → (o ≡ Completed) ⊎ (o ≢ Completed)
ended Completed = inl refl
ended Stopped = inr (undone Stopped refl)
ended (Check name) = inr (undone (Check name) refl)
ended Store = inr (undone Store refl)
ended NoMemory = inr (undone NoMemory refl)

-- ---- activities and stages

-- an activity is known by its number
same_from : (s : ℕ) (acts : List Activity) → map (λ (a : Activity). a.number) acts ≡ range_with_len s (length acts) → (a b : Activity) → Contains acts a → Contains acts b → a.number ≡ b.number → a ≡ b
same_from s [] e a b m k is = absurd (in_none a m)
same_from s (x ∷ acts) e a b m k is =
    let up = later (λ (y : Activity) (z : ℕ). Unit {0}) 0 (s + 1) acts (ap rest e) in
    let at = ap (first 0) e in
    elim (in_cases x a acts m) [
      | inl p ↦ elim (in_cases x b acts k) [
        | inl q ↦ sym p ∙ q
        | inr q ↦ absurd (omega (arith, at, ap (λ (y : Activity). y.number) p, is, All-contains (λ (y : Activity). s + 1 ≤ y.number) acts b (All-from_recursion (λ (y : Activity). s + 1 ≤ y.number) acts up) q))
      ]
      | inr p ↦ elim (in_cases x b acts k) [
        | inl q ↦ absurd (omega (arith, at, ap (λ (y : Activity). y.number) q, is, All-contains (λ (y : Activity). s + 1 ≤ y.number) acts a (All-from_recursion (λ (y : Activity). s + 1 ≤ y.number) acts up) p))
        | inr q ↦ same_from (s + 1) acts (ap rest e) a b p q is
      ]
    ]

-- what is of the stages is an activity
pub staged_within : (job : Job) (before : List ℕ) (stages : List Stage) → AreNext job before stages → (k : ℕ) → Contains (activities_in stages) k → k < length job.activities
unfolding AreNext
staged_within job before [] next k c = absurd (in_none k c)
staged_within job before (s ∷ stages) next k c = elim (Contains-append_cases s.activities (activities_in stages) k c) [
  | inl here ↦ All-contains (λ x. x < length job.activities) s.activities k next.0.is_part.within here
  | inr there ↦ staged_within job (before ++ s.activities) stages next.1 k there
]

-- ---- works

-- the rows that a task receives at each input, those that it makes, and all that it takes
pub record Work : Type 0 where
  pub received : ℕ → List Row
  pub made : List Row
  pub took : List Taken

nothing : Work
nothing = record { received = λ input. []; made = []; took = [] }

-- what a task's work keeps, given those of lesser numbers
pub record RanAt (job : Job) (r : TaskRecord) (f : ℕ → ℕ → Work) (w : Work) (a : Activity) (j : ℕ) : Type 0 where
  pub receives : (input : ℕ) → input < inputs a.kind → Receives job a.number w.took input (w.received input)
  pub makes : Output a.kind a.arity job.partitions j w.received r.scanned r.handed w.made
  -- all that its senders send it is taken
  pub each : (e : Edge) → Contains job.edges e → e.to ≡ a.number → (s : ℕ) → s < job.partitions → rows_of e.input s w.took ≡ sent_over e.wire job.partitions s j (f e.from s).made
  pub senders : AllByRecursion (λ t. t.sender < job.partitions) w.took
  -- where it completed, it put what it makes, and where not, a front of it
  pub done : r.outcome ≡ Completed → (to : ℕ) → to < job.partitions → put_rows (r.put to) ≡ sent_by (edges_from job a.number) job.partitions j to w.made
  pub hands : r.outcome ≡ Completed → r.hands_on ≡ kept_by (edges_from job a.number) w.made
  pub front : r.outcome ≢ Completed → (to : ℕ) → to < job.partitions → IsReceiver job a.number j to → (put : List (Signal Row)) × (more : List Row) × (r.put to ≡ put ++ Fail ∷ Close ∷ []) × (sent_by (edges_from job a.number) job.partitions j to w.made ≡ put_rows put ++ more)
  -- the cause of its failure is among what it receives
  pub cause : r.outcome ≢ Completed → HasCause a.kind r.outcome (w.received 0)
  pub wide : AllByRecursion (λ row. length row ≡ a.arity) w.made
  pub values : AllByRecursion AreValues w.made

-- only the works of lesser numbers count
ran_same : (job : Job) → SoundJob job → (r : TaskRecord) (f g : ℕ → ℕ → Work) (w : Work) (a : Activity) (j : ℕ) → ((i : ℕ) → i < a.number → f i ≡ g i) → RanAt job r f w a j → RanAt job r g w a j
ran_same job sound r f g w a j same h = record {
  receives = h.receives;
  makes = h.makes;
  each = λ e m to s lt. h.each e m to s lt ∙ ap (λ (x : ℕ → Work). sent_over e.wire job.partitions s j (x s).made) (same e.from (omega (arith, rises job sound e m, to)));
  senders = h.senders;
  done = h.done;
  hands = h.hands;
  front = h.front;
  cause = h.cause;
  wide = h.wide;
  values = h.values;
}

module _ (job : Job) (sound : SoundJob job) (stages : List Stage) (next : AreNext job [] stages) (records : Records) where
  abbrev pub Ran : (ℕ → ℕ → Work) → Activity → ℕ → Type 0
  Ran f a j = RanAt job (records a.number j) f (f a.number j) a j

  -- up to this number
  abbrev pub RanBelow : ℕ → (ℕ → ℕ → Work) → Type 0
  RanBelow k f = (a : Activity) → Contains job.activities a → Contains (activities_in stages) a.number → a.number < k → (j : ℕ) → j < job.partitions → Ran f a j

  -- one task, behind those of lesser numbers
  abbrev pub Steps : Type 0
  Steps = (a : Activity) → Contains job.activities a → Contains (activities_in stages) a.number → (f : ℕ → ℕ → Work) → RanBelow a.number f → (j : ℕ) → j < job.partitions → (w : Work) × RanAt job (records a.number j) f w a j

  abbrev override : ℕ → (ℕ → Work) → (ℕ → ℕ → Work) → ℕ → ℕ → Work
  override k x f i = if nat_eq i k then x else f i

  other : (k : ℕ) (x : ℕ → Work) (f : ℕ → ℕ → Work) (i : ℕ) → i < k → f i ≡ override k x f i
  other k x f i lt = sym (ap (λ (b : Bool). if b then x else f i) (ne_eqb i k (λ e. omega (arith, e, lt))))

  own : (k : ℕ) (x : ℕ → Work) (f : ℕ → ℕ → Work) (i : ℕ) → i ≡ k → x ≡ override k x f i
  own k x f i e = sym (ap (λ (b : Bool). if b then x else f i) (nat_is i k e))

  module _ (steps : Steps) where
    -- the works of one more activity
    works_at : (k : ℕ) (f : ℕ → ℕ → Work) → RanBelow k f → (x : ℕ → Work) × ((a : Activity) → Contains job.activities a → Contains (activities_in stages) a.number → a.number ≡ k → (j : ℕ) → j < job.partitions → RanAt job (records a.number j) f (x j) a j)
    works_at k f h = by_cases (list_any (λ i. nat_eq i k) (activities_in stages)) (λ t. staged (any_from (activities_in stages) k t)) (λ t. unstaged t)
      where
        unstaged : list_any (λ i. nat_eq i k) (activities_in stages) ≡ false → (x : ℕ → Work) × ((a : Activity) → Contains job.activities a → Contains (activities_in stages) a.number → a.number ≡ k → (j : ℕ) → j < job.partitions → RanAt job (records a.number j) f (x j) a j)
        unstaged t = ((λ j. nothing), λ a m c is. absurd (no_bool (sym (any_to (activities_in stages) k (subst (Contains (activities_in stages)) is c)) ∙ t)))

        staged : Contains (activities_in stages) k → (x : ℕ → Work) × ((a : Activity) → Contains job.activities a → Contains (activities_in stages) a.number → a.number ≡ k → (j : ℕ) → j < job.partitions → RanAt job (records a.number j) f (x j) a j)
        staged c =
            let b = activity_at job sound k (staged_within job [] stages next k c) in
            let here = subst (Contains (activities_in stages)) (sym b.2) c in
            let chosen = choice (λ j w. RanAt job (records b.0.number j) f w b.0 j) nothing job.partitions (steps b.0 b.1 here f (subst (λ (i : ℕ). RanBelow i f) (sym b.2) h)) in (
              chosen.0,
              λ a m d is j lt. subst (λ (z : Activity). RanAt job (records z.number j) f (chosen.0 j) z j) (same_from 0 job.activities sound.numbered b.0 a b.1 m (b.2 ∙ sym is)) (chosen.1 j lt),
            )

    one_more : (k : ℕ) (f : ℕ → ℕ → Work) (x : ℕ → Work) → RanBelow k f → ((a : Activity) → Contains job.activities a → Contains (activities_in stages) a.number → a.number ≡ k → (j : ℕ) → j < job.partitions → RanAt job (records a.number j) f (x j) a j) → RanBelow (suc k) (override k x f)
    one_more k f x h g a m c lt j low = by_cases (nat_eq a.number k)
        (λ t.
        let is = is_nat a.number k t in
        subst (λ (w : ℕ → Work). RanAt job (records a.number j) (override k x f) (w j) a j) (own k x f a.number is) (ran_same job sound (records a.number j) f (override k x f) (x j) a j (λ i less. other k x f i (omega (arith, less, is))) (g a m c is j low)))
        (λ t.
        let less = below a.number k lt t in
        subst (λ (w : ℕ → Work). RanAt job (records a.number j) (override k x f) (w j) a j) (other k x f a.number less) (ran_same job sound (records a.number j) f (override k x f) (f a.number j) a j (λ i low. other k x f i (omega (arith, low, less))) (h a m c less j low)))
      where
        below : (i k : ℕ) → i < suc k → nat_eq i k ≡ false → i < k
        below i k lt f = grind (arith, lt, f)

    build : (k : ℕ) → (f : ℕ → ℕ → Work) × RanBelow k f
    build zero = ((λ i j. nothing), λ a m c lt. absurd (omega (arith, lt)))
    build (suc k) =
        let less = build k in
        let x = works_at k less.0 less.1 in
        (override k x.0 less.0, one_more k less.0 x.0 less.1 x.1)

    -- all tasks of the stages
    pub all_ran : (f : ℕ → ℕ → Work) × ((a : Activity) → Contains job.activities a → Contains (activities_in stages) a.number → (j : ℕ) → j < job.partitions → Ran f a j)
    all_ran =
        let b = build (length job.activities) in
        (b.0, λ a m c. b.1 a m c (staged_within job [] stages next a.number c))
