-- One task's whole run, behind those of the activities before it.
use Rattle.std.proofs.Common.{◌≡◌, inl, inr, ℕ, zero, suc, ◌<◌, ◌≤◌, ◌+◌, Bool, true, false, Some, List, [], ◌∷◌, ◌++◌, map, filter, flat_map, drop, length, get_or, refl, ap, sym, subst, ◌∙◌, arith, append-nil}
use Rattle.std.specs.Prelude.{nat_eq, ◌&&◌, if◌then◌else◌, slice_get}
use Rattle.std.specs.List.{AllByRecursion, Contains, list_any, range_with_len}
use Rattle.std.specs.List.Sorted.{IsPermutation}
use Rattle.std.proofs.lemmas.Bool.{ne_eqb}
use Rattle.std.proofs.lemmas.List.Elements.{All-contains, All-contains_itself, All-from_recursion, recursion_from_All, Contains-append_left}
use Rattle.std.proofs.lemmas.List.Sorted.{Contains-permutation}
use Rattle.hy_rest.specs.Words.{signal_rows, put_rows, is_fail, is_close}
use Rattle.hy_job.specs.declared.job.Wire.{Wire}
use Rattle.hy_job.specs.declared.job.Wire.TheVariants as W
use Rattle.hy_job.specs.declared.job.Activity.{Activity}
use Rattle.hy_job.specs.declared.job.Edge.{Edge}
use Rattle.hy_job.specs.declared.job.Job.{Job}
use Rattle.hy_job.specs.declared.job.Stage.{Stage}
use Rattle.hy_job.specs.Columns.{Row, AreValues, part_of}
use Rattle.hy_job.specs.Sound.{SoundJob, inputs, arity_of, first_arity, width_in, edges_into, edges_at}
use Rattle.hy_job.specs.Stages.{AreNext, activities_in}
use Rattle.hy_job.specs.Runs.{Taken, ReceivesOver, SendsBy, IsSender, MayCome, rows_of, sent_over}
use Rattle.hy_job.specs.Settled.{Records, Settled, Take, taken_of, taken_rows, has_closed}
use Rattle.hy_job.proofs.Members.{by_cases, in_here, in_there, in_filter, from_filter}
use Rattle.hy_job.proofs.Pairs.{in_map, from_map, in_flat_map, from_range, in_range, slice_from}
use Rattle.hy_job.proofs.Boxes.{activity_at, only_edge, is_nat, nat_is}
use Rattle.hy_job.proofs.Connections.{rises, ends}
use Rattle.hy_job.proofs.RunRows.{all_append, all_filter, all_flat}
use Rattle.al_phys.proofs.LiveLaws.{all_left}
use Rattle.al_jobgen.proofs.SoundGraph.{weaken}
use Rattle.al_answer.proofs.Staged.{staged_edge}
use Rattle.al_answer.proofs.Records.{first, rest, input_known}
use Rattle.al_answer.proofs.Whole.{Work, RanAt, RanBelow, reach}
use Rattle.al_answer.proofs.Took.{of_both, of_no_fail, closed_same, IsFront, front, whole_front}

-- ---- rows of one sender

of_append : (input s : ℕ) (xs ys : List Taken) → rows_of input s (xs ++ ys) ≡ rows_of input s xs ++ rows_of input s ys
of_append input s [] ys = refl
of_append input s (x ∷ xs) ys = by_cases (nat_eq x.input input && nat_eq x.sender s)
    (λ t. rw t (ap (λ rows. x.row ∷ rows) (of_append input s xs ys)))
    (λ f. rw f (of_append input s xs ys))

abbrev pub tag : ℕ → ℕ → List Row → List Taken
tag input s rows = map (λ (row : Row). record { input = input; sender = s; row = row }) rows

of_mine : (input s i k : ℕ) (rows : List Row) → (nat_eq i input && nat_eq k s) ≡ true → rows_of input s (tag i k rows) ≡ rows
of_mine input s i k [] e = refl
of_mine input s i k (row ∷ rows) e = rw e (ap (λ xs. row ∷ xs) (of_mine input s i k rows e))

of_other : (input s i k : ℕ) (rows : List Row) → (nat_eq i input && nat_eq k s) ≡ false → rows_of input s (tag i k rows) ≡ []
of_other input s i k [] e = refl
of_other input s i k (row ∷ rows) e = rw e (of_other input s i k rows e)

pub rows_taken : (input s : ℕ) (took : List Take) → rows_of input s (taken_rows took) ≡ put_rows (taken_of input s took)
rows_taken input s [] = refl
rows_taken input s (t ∷ took) =
    of_append input s (tag t.input t.sender (signal_rows t.signal)) (taken_rows took)
    ∙ by_cases (nat_eq t.input input && nat_eq t.sender s)
    (λ y. rw y (ap (λ xs. xs ++ rows_of input s (taken_rows took)) (of_mine input s t.input t.sender (signal_rows t.signal) y) ∙ ap (λ xs. signal_rows t.signal ++ xs) (rows_taken input s took)))
    (λ n. rw n (ap (λ xs. xs ++ rows_of input s (taken_rows took)) (of_other input s t.input t.sender (signal_rows t.signal) n) ∙ rows_taken input s took))

-- ---- rows by input and sender

both_false : (a b : Bool) → a ≡ false → (a && b) ≡ false
both_false a b e = ap (λ (c : Bool). c && b) e

then_false : (a b : Bool) → a ≡ true → b ≡ false → (a && b) ≡ false
then_false a b e f = λ i. e i && f i

both_true : (a b : Bool) → a ≡ true → b ≡ true → (a && b) ≡ true
both_true a b e f = λ i. e i && f i

module _ (g : ℕ → ℕ → List Row) where
  abbrev pub of_senders : ℕ → List ℕ → List Taken
  of_senders i ss = flat_map (λ s. tag i s (g i s)) ss

  abbrev pub of_inputs : ℕ → List ℕ → List Taken
  of_inputs n is = flat_map (λ i. of_senders i (range_with_len 0 n)) is

  other_senders : (input s i a m : ℕ) → nat_eq i input ≡ false → rows_of input s (of_senders i (range_with_len a m)) ≡ []
  other_senders input s i a zero e = refl
  other_senders input s i a (suc m) e =
      of_append input s (tag i a (g i a)) (of_senders i (range_with_len (a + 1) m)) ∙ (λ k. of_other input s i a (g i a) (both_false (nat_eq i input) (nat_eq a s) e) k ++ other_senders input s i (a + 1) m e k)

  later_senders : (input s a m : ℕ) → s < a → rows_of input s (of_senders input (range_with_len a m)) ≡ []
  later_senders input s a zero lt = refl
  later_senders input s a (suc m) lt =
      of_append input s (tag input a (g input a)) (of_senders input (range_with_len (a + 1) m))
      ∙ (λ k. of_other input s input a (g input a) (then_false (nat_eq input input) (nat_eq a s) (nat_is input input refl) (ne_eqb a s (λ e. omega (arith, e, lt)))) k ++ later_senders input s (a + 1) m (omega (arith, lt)) k)

  these_senders : (input s a m : ℕ) → a ≤ s → s < a + m → rows_of input s (of_senders input (range_with_len a m)) ≡ g input s
  these_senders input s a zero low high = absurd (omega (arith, low, high))
  these_senders input s a (suc m) low high =
      of_append input s (tag input a (g input a)) (of_senders input (range_with_len (a + 1) m))
      ∙ by_cases (nat_eq a s)
      (λ t.
      let is = is_nat a s t in
      (λ k. of_mine input s input a (g input a) (both_true (nat_eq input input) (nat_eq a s) (nat_is input input refl) t) k ++ later_senders input s (a + 1) m (omega (arith, is)) k) ∙ (append-nil (g input a) ∙ ap (g input) is))
      (λ t.
      let up = above a s low t in
      λ k. of_other input s input a (g input a) (then_false (nat_eq input input) (nat_eq a s) (nat_is input input refl) t) k ++ these_senders input s (a + 1) m (omega (arith, up)) (omega (arith, high)) k)
    where
      above : (x y : ℕ) → x ≤ y → nat_eq x y ≡ false → x < y
      above x y le f = grind (arith, le, f)

  later_inputs : (n input s a m : ℕ) → input < a → rows_of input s (of_inputs n (range_with_len a m)) ≡ []
  later_inputs n input s a zero lt = refl
  later_inputs n input s a (suc m) lt =
      of_append input s (of_senders a (range_with_len 0 n)) (of_inputs n (range_with_len (a + 1) m))
      ∙ (λ k. other_senders input s a 0 n (ne_eqb a input (λ e. omega (arith, e, lt))) k ++ later_inputs n input s (a + 1) m (omega (arith, lt)) k)

  pub these_inputs : (n input s a m : ℕ) → a ≤ input → input < a + m → s < n → rows_of input s (of_inputs n (range_with_len a m)) ≡ g input s
  these_inputs n input s a zero low high lt = absurd (omega (arith, low, high))
  these_inputs n input s a (suc m) low high lt =
      of_append input s (of_senders a (range_with_len 0 n)) (of_inputs n (range_with_len (a + 1) m))
      ∙ by_cases (nat_eq a input)
      (λ t.
      let is = is_nat a input t in
      (λ k. these_at is k ++ later_inputs n input s (a + 1) m (omega (arith, is)) k) ∙ append-nil (g input s))
      (λ t.
      let up = above a input low t in
      λ k. other_senders input s a 0 n t k ++ these_inputs n input s (a + 1) m (omega (arith, up)) (omega (arith, high)) lt k)
    where
      above : (x y : ℕ) → x ≤ y → nat_eq x y ≡ false → x < y
      above x y le f = grind (arith, le, f)

      these_at : a ≡ input → rows_of input s (of_senders a (range_with_len 0 n)) ≡ g input s
      these_at is = ap (λ (i : ℕ). rows_of input s (of_senders i (range_with_len 0 n))) is ∙ these_senders input s 0 n (omega arith) (omega (arith, lt))

  -- a claim of each of them
  pub all_inputs : (P : Taken → Type 0) (n m : ℕ) → ((i : ℕ) → i < m → (s : ℕ) → s < n → AllByRecursion P (tag i s (g i s))) → AllByRecursion P (of_inputs n (range_with_len 0 m))
  all_inputs P n m h =
      all_flat P (λ i. of_senders i (range_with_len 0 n)) (range_with_len 0 m)
      (below m (λ i. AllByRecursion P (of_senders i (range_with_len 0 n))) (λ i lt. all_flat P (λ s. tag i s (g i s)) (range_with_len 0 n) (below n (λ s. AllByRecursion P (tag i s (g i s))) (λ s less. h i lt s less))))
    where
      below : (k : ℕ) (Q : ℕ → Type 0) → ((x : ℕ) → x < k → Q x) → AllByRecursion Q (range_with_len 0 k)
      below k Q f = weaken (λ x. Contains (range_with_len 0 k) x) Q (λ x c. f x (omega (arith, (from_range 0 k x c).1))) (range_with_len 0 k) (recursion_from_All (Contains (range_with_len 0 k)) (range_with_len 0 k) (All-contains_itself (range_with_len 0 k)))

drop_front : (xs ys : List Row) → drop (length xs) (xs ++ ys) ≡ ys
drop_front [] ys = refl
drop_front (x ∷ xs) ys = drop_front xs ys

-- ---- claims of rows

all_both_claims : {X : Type 0} (P Q : X → Type 0) (xs : List X) → AllByRecursion P xs → AllByRecursion Q xs → AllByRecursion (λ x. P x × Q x) xs
all_both_claims P Q [] h g = tt
all_both_claims P Q (x ∷ xs) h g = ((h.0, g.0), all_both_claims P Q xs h.1 g.1)

only_if : (P : Row → Type 0) (b : Bool) (rows : List Row) → AllByRecursion P rows → AllByRecursion P (if b then rows else [])
only_if P true rows h = h
only_if P false rows h = tt

sent_all : (P : Row → Type 0) (w : Wire) (n s r : ℕ) (rows : List Row) → AllByRecursion P rows → AllByRecursion P (sent_over w n s r rows)
sent_all P W.OneToOne n s r rows h = only_if P (nat_eq r s) rows h
sent_all P (W.Hash columns) n s r rows h = all_filter P (λ row. nat_eq (part_of n columns row) r) rows h
sent_all P W.Broadcast n s r rows h = h
sent_all P W.Gather n s r rows h = only_if P (nat_eq r 0) rows h
sent_all P (W.Merge keys) n s r rows h = only_if P (nat_eq r 0) rows h

tagged_all : (P : Taken → Type 0) (i s : ℕ) (rows : List Row) → ((row : Row) → Contains rows row → P (record { input = i; sender = s; row = row })) → AllByRecursion P (tag i s rows)
tagged_all P i s [] h = tt
tagged_all P i s (row ∷ rows) h = (h row (in_here row rows), tagged_all P i s rows (λ r c. h r (in_there row r rows c)))

-- ---- an activity at its number

number_at : (s : ℕ) (acts : List Activity) → map (λ (a : Activity). a.number) acts ≡ range_with_len s (length acts) → (i : ℕ) (d : Activity) → i < length acts → (get_or acts i d).number ≡ s + i
number_at s [] e i d lt = absurd (omega (arith, lt))
number_at s (x ∷ acts) e zero d lt = omega (arith, ap (first 0) e)
number_at s (x ∷ acts) e (suc i) d lt = omega (arith, number_at (s + 1) acts (ap rest e) i d (omega (arith, lt)))

pub found : (job : Job) → SoundJob job → (y : Activity) → Contains job.activities y → slice_get job.activities y.number ≡ Some y
found job sound y m =
    let is : m.0 ≡ y.number = omega (arith, ap (λ (z : Activity). z.number) m.2, number_at 0 job.activities sound.numbered m.0 y m.1) in
    slice_from job.activities y.number y y (subst (λ (k : ℕ). k < length job.activities) is m.1) (subst (λ (k : ℕ). get_or job.activities k y ≡ y) is m.2)

-- ---- what a task has still to take

module _ (job : Job) (sound : SoundJob job) (stages : List Stage) (next : AreNext job [] stages) (records : Records) (settled : Settled job stages records)
    (a : Activity) (member : Contains job.activities a) (staged : Contains (activities_in stages) a.number) (f : ℕ → ℕ → Work) (less : RanBelow job sound stages next records a.number f) (j : ℕ) (lt : j < job.partitions)
    (tk behind : List Take) (took : (records a.number j).took ≡ tk ++ behind) (no_fail : AllByRecursion (λ t. is_fail t.signal ≡ false) tk) where
  -- the sender's activity
  pub record Source (e : Edge) : Type 0 where
    pub y : Activity
    pub known : Contains job.activities y
    pub at : y.number ≡ e.from
    pub here : Contains (activities_in stages) y.number
    pub ran : (s : ℕ) → s < job.partitions → RanAt job (records y.number s) f (f y.number s) y s

  pub source : (e : Edge) → Contains job.edges e → e.to ≡ a.number → Source e
  source e m to =
      let up = rises job sound e m in
      let q = activity_at job sound e.from (omega (arith, up, ends job sound e m)) in
      let in_stages = subst (Contains (activities_in stages)) (sym q.2) (staged_edge job [] stages next e m (subst (Contains (activities_in stages)) (sym to) staged)) in
      record { y = q.0; known = q.1; at = q.2; here = in_stages; ran = λ s ls. less q.0 q.1 in_stages (omega (arith, up, to, q.2)) s ls }

  delivered : (e : Edge) (m : Contains job.edges e) (to : e.to ≡ a.number) (s : ℕ) → s < job.partitions → taken_of e.input s tk ++ taken_of e.input s behind ≡ (records e.from s).put j
  delivered e m to s ls =
      sym (of_both e.input s tk behind) ∙ ap (taken_of e.input s) (sym took) ∙ ap (λ (k : ℕ). taken_of e.input s (records k j).took) (sym to)
      ∙ settled.delivered e s j m (subst (Contains (activities_in stages)) (sym to) staged) ls lt

  fronts : (e : Edge) (m : Contains job.edges e) (to : e.to ≡ a.number) (s : ℕ) → s < job.partitions → IsFront (list_any is_close (taken_of e.input s tk)) (ReceivesOver e.wire job.partitions s j) (sent_over e.wire job.partitions s j (f e.from s).made) (put_rows (taken_of e.input s tk))
  fronts e m to s ls =
      let q = source e m to in
      subst (λ (k : ℕ). IsFront (list_any is_close (taken_of e.input s tk)) (ReceivesOver e.wire job.partitions s j) (sent_over e.wire job.partitions s j (f k s).made) (put_rows (taken_of e.input s tk))) q.at
      (front job sound stages records settled e m q.y q.known q.at q.here f s j ls lt (q.ran s ls) (taken_of e.input s tk) (taken_of e.input s behind) (of_no_fail e.input s tk no_fail)
      (delivered e m to s ls ∙ ap (λ (k : ℕ). (records k s).put j) (sym q.at)))

  -- where it took all that was put, it took all that is sent
  pub whole_fronts : behind ≡ [] → (e : Edge) (m : Contains job.edges e) (to : e.to ≡ a.number) (s : ℕ) → s < job.partitions → sent_over e.wire job.partitions s j (f e.from s).made ≡ put_rows (taken_of e.input s tk)
  whole_fronts none e m to s ls =
      let q = source e m to in
      subst (λ (k : ℕ). sent_over e.wire job.partitions s j (f k s).made ≡ put_rows (taken_of e.input s tk)) q.at
      (whole_front job sound stages records settled e m q.y q.known q.at q.here f s j ls lt (q.ran s ls) (taken_of e.input s tk) (taken_of e.input s behind) (of_no_fail e.input s tk no_fail)
      (delivered e m to s ls ∙ ap (λ (k : ℕ). (records k s).put j) (sym q.at)) (ap (taken_of e.input s) none))

  -- what the first of these edges brings from a sender
  abbrev pub sent_at : List Edge → ℕ → List Row
  sent_at [] s = []
  sent_at (e ∷ es) s = sent_over e.wire job.partitions s j (f e.from s).made

  abbrev pub gap : ℕ → ℕ → List Row
  gap i s = drop (length (put_rows (taken_of i s tk))) (sent_at (edges_at job a.number i) s)

  pub at_edge : (e : Edge) (m : Contains job.edges e) → e.to ≡ a.number → (P : List Edge → Type 0) → ((es : List Edge) → P (e ∷ es)) → P (edges_at job a.number e.input)
  at_edge e m to P h = subst (λ (k : ℕ). P (edges_at job k e.input)) to (only_edge job sound e m P h)

  gap_is : (e : Edge) (m : Contains job.edges e) (to : e.to ≡ a.number) (s : ℕ) (ls : s < job.partitions) → gap e.input s ≡ (fronts e m to s ls).rest
  gap_is e m to s ls =
      at_edge e m to (λ es. drop (length (put_rows (taken_of e.input s tk))) (sent_at es s) ≡ (fronts e m to s ls).rest)
      (λ es. ap (drop (length (put_rows (taken_of e.input s tk)))) (fronts e m to s ls).is ∙ drop_front (put_rows (taken_of e.input s tk)) (fronts e m to s ls).rest)

  abbrev pub more : List Taken
  more = of_inputs gap job.partitions (range_with_len 0 (inputs a.kind))

  input_below : (e : Edge) → Contains job.edges e → e.to ≡ a.number → e.input < inputs a.kind
  input_below e m to = input_known job sound a member e m to

  -- all that it takes in a whole run
  pub each_taken : (e : Edge) → Contains job.edges e → e.to ≡ a.number → (s : ℕ) → s < job.partitions → rows_of e.input s (taken_rows tk ++ more) ≡ sent_over e.wire job.partitions s j (f e.from s).made
  each_taken e m to s ls =
      of_append e.input s (taken_rows tk) more ∙ (λ k. rows_taken e.input s tk k ++ rest k) ∙ sym (fronts e m to s ls).is
    where
      rest : rows_of e.input s more ≡ (fronts e m to s ls).rest
      rest = these_inputs gap job.partitions e.input s 0 (inputs a.kind) (omega arith) (omega (arith, input_below e m to)) ls ∙ gap_is e m to s ls

  -- the edge of an input
  pub edge_of : (i : ℕ) → i < inputs a.kind → (e : Edge) × Contains job.edges e × (e.to ≡ a.number) × (e.input ≡ i)
  edge_of i li =
      let fed = All-contains (λ (b : Activity). IsPermutation (range_with_len 0 (inputs b.kind)) (map (λ (z : Edge). z.input) (edges_into job b.number))) job.activities a (All-from_recursion (λ (b : Activity). IsPermutation (range_with_len 0 (inputs b.kind)) (map (λ (z : Edge). z.input) (edges_into job b.number))) job.activities sound.fed) member in
      let q = from_map (λ (z : Edge). z.input) (edges_into job a.number) i (Contains-permutation _ _ i fed (in_range (inputs a.kind) i li)) in
      let k = from_filter (λ (z : Edge). nat_eq z.to a.number) job.edges q.0 q.1 in
      (q.0, k.0, is_nat q.0.to a.number k.1, q.2)

  -- a claim of the rows that a sender's whole run sends is one of those that are still to be taken
  sent_claim : (P : Row → Type 0) (e : Edge) (m : Contains job.edges e) (to : e.to ≡ a.number) (s : ℕ) (ls : s < job.partitions) → AllByRecursion P (sent_over e.wire job.partitions s j (f e.from s).made) → AllByRecursion P (gap e.input s)
  sent_claim P e m to s ls h = subst (AllByRecursion P) (sym (gap_is e m to s ls)) (behind_front (put_rows (taken_of e.input s tk)) (fronts e m to s ls).rest (subst (AllByRecursion P) (fronts e m to s ls).is h))
    where
      behind_front : (xs ys : List Row) → AllByRecursion P (xs ++ ys) → AllByRecursion P ys
      behind_front [] ys g = g
      behind_front (x ∷ xs) ys g = behind_front xs ys g.1

  -- ---- what its senders made

  abbrev pub FitsAs : Activity → Row → Type 0
  FitsAs y row = (length row ≡ y.arity) × AreValues row

  pub made_claim : (e : Edge) (m : Contains job.edges e) (to : e.to ≡ a.number) (s : ℕ) → s < job.partitions → AllByRecursion (FitsAs (source e m to).y) (sent_over e.wire job.partitions s j (f e.from s).made)
  made_claim e m to s ls =
      let q = source e m to in
      sent_all (FitsAs (source e m to).y) e.wire job.partitions s j (f e.from s).made
      (subst (λ (k : ℕ). AllByRecursion (FitsAs (source e m to).y) (f k s).made) q.at (all_both_claims (λ row. length row ≡ q.y.arity) AreValues (f q.y.number s).made (q.ran s ls).wide (q.ran s ls).values))

  pub width_is : (e : Edge) (m : Contains job.edges e) (to : e.to ≡ a.number) → (source e m to).y.arity ≡ width_in job a.number e.input
  width_is e m to =
      let q = source e m to in
      sym (at_edge e m to (λ es. first_arity job es ≡ arity_of (slice_get job.activities e.from)) (λ es. refl) ∙ ap (λ (k : ℕ). arity_of (slice_get job.activities k)) (sym q.at) ∙ ap arity_of (found job sound q.y q.known))

  rows_come : (e : Edge) (m : Contains job.edges e) (to : e.to ≡ a.number) (s : ℕ) → s < job.partitions → ReceivesOver e.wire job.partitions s j → has_closed tk e.input s ≡ false → (rows : List Row) → AllByRecursion (FitsAs (source e m to).y) rows → AllByRecursion (MayCome job a j (has_closed tk)) (tag e.input s rows)
  rows_come e m to s ls over not_closed [] h = tt
  rows_come e m to s ls over not_closed (row ∷ rows) h = (
    record { of = record { known = input_below e m to; within = ls; sends = at_edge e m to (λ es. SendsBy es job.partitions s j) (λ es. over) }; fits = h.0.0 ∙ width_is e m to; values = h.0.1; to_come = not_closed },
    rows_come e m to s ls over not_closed rows h.1,
  )

  -- not of a sender that sends elsewhere, nor of one that closed
  comes_over : (e : Edge) (m : Contains job.edges e) (to : e.to ≡ a.number) (s : ℕ) → s < job.partitions → AllByRecursion (MayCome job a j (has_closed tk)) (tag e.input s (gap e.input s))
  comes_over e m to s ls = elim (reach e.wire job.partitions s j lt) [
    | inl over ↦ by_cases (has_closed tk e.input s)
        (λ t. none_left (gap_is e m to s ls ∙ (fronts e m to s ls).whole (closed_same e.input s tk ∙ t)))
        (λ t. rows_come e m to s ls over t (gap e.input s) (sent_claim (FitsAs (source e m to).y) e m to s ls (made_claim e m to s ls)))
    | inr none ↦ none_left (gap_is e m to s ls ∙ (fronts e m to s ls).unsent none.0)
  ]
    where
      none_left : gap e.input s ≡ [] → AllByRecursion (MayCome job a j (has_closed tk)) (tag e.input s (gap e.input s))
      none_left empty = subst (λ (rows : List Row). AllByRecursion (MayCome job a j (has_closed tk)) (tag e.input s rows)) (sym empty) tt

  -- each of what is still to be taken may come
  pub may_come : AllByRecursion (MayCome job a j (has_closed tk)) more
  may_come = all_inputs gap (MayCome job a j (has_closed tk)) job.partitions (inputs a.kind) (λ i li s ls.
      (let q = edge_of i li in
      subst (λ (k : ℕ). AllByRecursion (MayCome job a j (has_closed tk)) (tag k s (gap k s))) q.3 (comes_over q.0 q.1 q.2 s ls)))

  -- ---- a claim of all that is taken

  pub of_senders_all : AllByRecursion (λ (u : Take). IsSender job a j u.input u.sender) tk
  of_senders_all = all_left (λ (u : Take). IsSender job a j u.input u.sender) tk behind (subst (AllByRecursion (λ (u : Take). IsSender job a j u.input u.sender)) took (settled.taken a j member staged lt))

  module _ (P : ℕ → Row → Type 0) (sent : (e : Edge) (m : Contains job.edges e) (to : e.to ≡ a.number) (s : ℕ) → s < job.partitions → AllByRecursion (P e.input) (sent_over e.wire job.partitions s j (f e.from s).made)) where
    claim_of : (u : Take) → Contains tk u → IsSender job a j u.input u.sender → AllByRecursion (λ (t : Taken). P t.input t.row) (tag u.input u.sender (signal_rows u.signal))
    claim_of u m of =
        let q = edge_of u.input of.known in
        tagged_all (λ (t : Taken). P t.input t.row) u.input u.sender (signal_rows u.signal) (λ row c.
        subst (λ (i : ℕ). P i row) q.3 (All-contains (P q.0.input) (sent_over q.0.wire job.partitions u.sender j (f q.0.from u.sender).made) row (All-from_recursion (P q.0.input) _ (sent q.0 q.1 q.2 u.sender of.within))
        (subst (λ (rows : List Row). Contains rows row) (sym (fronts q.0 q.1 q.2 u.sender of.within).is)
        (Contains-append_left (put_rows (taken_of q.0.input u.sender tk)) (fronts q.0 q.1 q.2 u.sender of.within).rest row
        (in_flat_map signal_rows (taken_of q.0.input u.sender tk) u.signal row
        (in_map (λ (t : Take). t.signal) (filter (λ (t : Take). nat_eq t.input q.0.input && nat_eq t.sender u.sender) tk) u
        (in_filter (λ (t : Take). nat_eq t.input q.0.input && nat_eq t.sender u.sender) tk u (both_true (nat_eq u.input q.0.input) (nat_eq u.sender u.sender) (nat_is u.input q.0.input (sym q.3)) (nat_is u.sender u.sender refl)) m)) c)))))

    claims : (us : List Take) → AllByRecursion (Contains tk) us → AllByRecursion (λ (u : Take). IsSender job a j u.input u.sender) us → AllByRecursion (λ (t : Taken). P t.input t.row) (taken_rows us)
    claims [] c of = tt
    claims (u ∷ us) c of = all_append (λ (t : Taken). P t.input t.row) (tag u.input u.sender (signal_rows u.signal)) (taken_rows us) (claim_of u c.0 of.0) (claims us c.1 of.1)

    pub all_taken : AllByRecursion (λ (t : Taken). P t.input t.row) (taken_rows tk ++ more)
    all_taken = all_append (λ (t : Taken). P t.input t.row) (taken_rows tk) more (claims tk (recursion_from_All (Contains tk) tk (All-contains_itself tk)) of_senders_all)
        (all_inputs gap (λ (t : Taken). P t.input t.row) job.partitions (inputs a.kind) (λ i li s ls.
        (let q = edge_of i li in
        subst (λ (k : ℕ). AllByRecursion (λ (t : Taken). P t.input t.row) (tag k s (gap k s))) q.3 (tagged_by q.0.input s (gap q.0.input s) (sent_claim (P q.0.input) q.0 q.1 q.2 s ls (sent q.0 q.1 q.2 s ls))))))
      where
        tagged_by : (i s : ℕ) (rows : List Row) → AllByRecursion (P i) rows → AllByRecursion (λ (t : Taken). P t.input t.row) (tag i s rows)
        tagged_by i s [] h = tt
        tagged_by i s (row ∷ rows) h = (h.0, tagged_by i s rows h.1)
