-- The records of a job whose tasks all completed are whole runs, which fit together over its wires and blocks.
use Rattle.std.proofs.Common.{◌≡◌, ℕ, zero, suc, ◌<◌, ◌≤◌, ◌+◌, ◌-◌, Bool, true, false, Some, List, [], ◌∷◌, map, filter, length, refl, ap, sym, subst, ◌∙◌, arith}
use Rattle.std.specs.Prelude.{nat_eq, if◌then◌else◌}
use Rattle.std.specs.List.{AllByRecursion, Contains, range_with_len}
use Rattle.std.specs.List.Sorted.{IsPermutation}
use Rattle.std.proofs.lemmas.Bool.{ne_eqb}
use Rattle.std.proofs.lemmas.List.Elements.{All-from_recursion, recursion_from_All, All-contains_itself}
use Rattle.std.proofs.lemmas.List.Sorted.{IsPermutation-sym, Contains-permutation}
use Rattle.al_plan.specs.declared.expr.Var.{Var}
use Rattle.al_plan.specs.Eval.{bind}
use Rattle.al_plan.specs.Allows.{Sets}
use Rattle.al_phys.specs.declared.phys.Phys.{Phys}
use Rattle.al_phys.specs.Operators.{phys_result}
use Rattle.al_phys.specs.Parts.{first_part}
use Rattle.al_phys.specs.PAllows.{PAllows}
use Rattle.hy_rest.specs.Words.{put_rows}
use Rattle.al_func.specs.declared.rex.Rex.{Rex}
use Rattle.hy_job.specs.declared.job.Kind.{Kind}
use Rattle.hy_job.specs.declared.job.Kind.TheVariants as K
use Rattle.hy_job.specs.declared.job.Activity.{Activity}
use Rattle.hy_job.specs.declared.job.Edge.{Edge}
use Rattle.hy_job.specs.declared.job.Block.{Block}
use Rattle.hy_job.specs.declared.job.Job.{Job}
use Rattle.hy_job.specs.declared.job.Stage.{Stage}
use Rattle.hy_job.specs.Columns.{Row, AreValues, holds}
use Rattle.hy_job.specs.Literals.{kind_literals}
use Rattle.hy_job.specs.Sound.{SoundJob, inputs, edges_into, edges_from, edges_at}
use Rattle.hy_job.specs.Stages.{StageOf, activities_in}
use Rattle.hy_job.specs.Runs.{Taken, TaskRun, Receives, ComesBy, ComesOver, kept_by, rows_at, Output}
use Rattle.hy_job.specs.Settled.{Records, IsCompleted, IsPassed, MadeBy, given, taken_rows}
use Rattle.hy_job.proofs.Members.{no_bool, by_cases, in_here, in_filter, from_filter}
use Rattle.hy_job.proofs.Pairs.{in_map, from_range, in_range}
use Rattle.hy_job.proofs.Boxes.{activity_at, only_edge, is_nat, nat_is}
use Rattle.hy_job.proofs.Connections.{ends, rises, block_ends, block_rises, block_leaves, target_none}
use Rattle.hy_job.proofs.RunRows.{received_all}
use Rattle.hy_job.proofs.Settling.{each_member}
use Rattle.hy_job.proofs.SettledWires.{settled_is_sent}
use Rattle.hy_job.proofs.WireLaws.{wires_exchange}
use Rattle.al_jobgen.specs.JobOf.{piece_of, last_of, job_of}
use Rattle.al_jobgen.proofs.PieceAdded.{length-activities}
use Rattle.al_jobgen.proofs.SoundGraph.{weaken, out_above, Ranged}
use Rattle.al_jobgen.proofs.SoundPlaced.{placed_sound, placed_job}
use Rattle.al_answer.specs.Flow.{Flow, Works, Carries, HandsOn, Flows, bound, IsAllowed}
use Rattle.al_answer.specs.Answer.{answer, IsRun, AllCompleted, IsAnswer, JobComputes}
use Rattle.al_jobgen.specs.Agree.{AreAsWide}
use Rattle.al_answer.proofs.Results.{result_live}
use Rattle.al_answer.proofs.Induction.{result_allowed}

-- ---- choices

-- of each number below another one, what was chosen
pub choice : {X : Type 0} (P : ℕ → X → Type 0) (d : X) (n : ℕ) → ((j : ℕ) → j < n → (x : X) × P j x) → (f : ℕ → X) × ((j : ℕ) → j < n → P j (f j))
choice P d zero h = (λ j. d, λ j lt. absurd (omega (arith, lt)))
choice {X} P d (suc n) h =
    let less = choice P d n (λ j lt. h j (omega (arith, lt))) in
    let last = h n (omega arith) in (
      λ j. if nat_eq j n then last.0 else less.0 j,
      λ j lt. by_cases (nat_eq j n)
          (λ t. subst (λ (b : Bool). P j (if b then last.0 else less.0 j)) (sym t) (subst (λ (k : ℕ). P k last.0) (sym (is_nat j n t)) last.1))
          (λ f. subst (λ (b : Bool). P j (if b then last.0 else less.0 j)) (sym f) (less.1 j (below j n lt f))),
    )
  where
    below : (j m : ℕ) → j < suc m → nat_eq j m ≡ false → j < m
    below j m lt f = grind (arith, lt, f)

abbrev pub first : ℕ → List ℕ → ℕ
first k [] = k
first k (x ∷ xs) = x

abbrev pub rest : List ℕ → List ℕ
rest [] = []
rest (x ∷ xs) = xs

-- of each activity, by its number
module _ {X : Type 0} (S : Activity → X → Type 0) (d : X) where
  pub later : (s : ℕ) (acts : List Activity) → map (λ (a : Activity). a.number) acts ≡ range_with_len s (length acts) → AllByRecursion (λ (a : Activity). s ≤ a.number) acts
  later s [] e = tt
  later s (a ∷ acts) e = (omega (arith, ap (first 0) e), weaken (λ (b : Activity). s + 1 ≤ b.number) (λ (b : Activity). s ≤ b.number) (λ b h. omega (arith, h)) acts (later (s + 1) acts (ap rest e)))

  abbrev pick_one : ℕ → X → (ℕ → X) → ℕ → X
  pick_one s x f k = if nat_eq k s then x else f k

  others : (s : ℕ) (x : X) (f : ℕ → X) (acts : List Activity) → AllByRecursion (λ (a : Activity). s + 1 ≤ a.number) acts → AllByRecursion (λ (a : Activity). S a (f a.number)) acts → AllByRecursion (λ (a : Activity). S a (pick_one s x f a.number)) acts
  others s x f [] up h = tt
  others s x f (a ∷ acts) up h = (subst (λ (b : Bool). S a (if b then x else f a.number)) (sym (ne_eqb a.number s (λ e. omega (arith, e, up.0)))) h.0, others s x f acts up.1 h.1)

  collect : (s : ℕ) (acts : List Activity) → map (λ (a : Activity). a.number) acts ≡ range_with_len s (length acts) → AllByRecursion (λ (a : Activity). (x : X) × S a x) acts → (f : ℕ → X) × AllByRecursion (λ (a : Activity). S a (f a.number)) acts
  collect s [] e h = (λ k. d, tt)
  collect s (a ∷ acts) e h =
      let less = collect (s + 1) acts (ap rest e) h.1 in
      let up = later (s + 1) acts (ap rest e) in (
        pick_one s h.0.0 less.0,
        (subst (λ (b : Bool). S a (if b then h.0.0 else less.0 a.number)) (sym (nat_is a.number s (ap (first 0) e))) h.0.1, others s h.0.0 less.0 acts up less.1),
      )

-- ---- what a check took

abbrev IsFirst : ℕ → Type 0
IsFirst input = input ≡ 0

-- of what was taken, the rows of the first input
each_more : (c : Rex) (t : Taken) (ts : List Taken) (b : Bool) → nat_eq t.input 0 ≡ b → (AllByRecursion (λ row. holds c row ≡ true) (rows_at 0 ts) → AllByRecursion (λ (u : Taken). IsFirst u.input → holds c u.row ≡ true) ts)
    → AllByRecursion (λ row. holds c row ≡ true) (map (λ (u : Taken). u.row) (if b then t ∷ filter (λ (u : Taken). nat_eq u.input 0) ts else filter (λ (u : Taken). nat_eq u.input 0) ts)) → AllByRecursion (λ (u : Taken). IsFirst u.input → holds c u.row ≡ true) (t ∷ ts)
each_more c t ts true e more k = ((λ z. k.0), more k.1)
each_more c t ts false e more k = ((λ z. absurd (no_bool (sym (nat_is t.input 0 z) ∙ e))), more k)

-- what a check received passed
passed_received : (kind : Kind) (job : Job) (a : ℕ) (took : List Taken) (rows : List Row) → (0 < inputs kind → Receives job a took 0 rows) → IsPassed kind (rows_at 0 took) → IsPassed kind rows
passed_received (K.Check name c) job a took rows receives h =
    All-from_recursion (λ row. holds c row ≡ true) rows (open_all rows (received_all (λ input row. IsFirst input → holds c row ≡ true) job a took 0 rows (each took (recursion_from_All (λ row. holds c row ≡ true) (rows_at 0 took) h)) (receives (omega arith))))
  where
    open_all : (xs : List Row) → AllByRecursion (λ row. IsFirst 0 → holds c row ≡ true) xs → AllByRecursion (λ row. holds c row ≡ true) xs
    open_all xs g = weaken (λ row. IsFirst 0 → holds c row ≡ true) (λ row. holds c row ≡ true) (λ row k. k refl) xs g

    each : (ts : List Taken) → AllByRecursion (λ row. holds c row ≡ true) (rows_at 0 ts) → AllByRecursion (λ (t : Taken). IsFirst t.input → holds c t.row ≡ true) ts
    each [] g = tt
    each (t ∷ ts) g = each_more c t ts (nat_eq t.input 0) refl (each ts) g
passed_received (K.Scan set) job a took rows receives h = tt
passed_received K.One job a took rows receives h = tt
passed_received (K.Assign made) job a took rows receives h = tt
passed_received (K.Select c) job a took rows receives h = tt
passed_received (K.Project columns) job a took rows receives h = tt
passed_received (K.Unnest g) job a took rows receives h = tt
passed_received (K.Subplan n) job a took rows receives h = tt
passed_received (K.Union ls rs) job a took rows receives h = tt
passed_received (K.Limit n k) job a took rows receives h = tt
passed_received (K.LocalLimit n) job a took rows receives h = tt
passed_received (K.PreGroup keys n) job a took rows receives h = tt
passed_received (K.Result columns) job a took rows receives h = tt
passed_received (K.SortBuild keys) job a took rows receives h = tt
passed_received (K.SortEmit keys) job a took rows receives h = tt
passed_received (K.GroupBuild arg) job a took rows receives h = tt
passed_received (K.GroupEmit arg) job a took rows receives h = tt
passed_received (K.JoinBuild arg) job a took rows receives h = tt
passed_received (K.JoinProbe arg) job a took rows receives h = tt
passed_received (K.AggPart made) job a took rows receives h = tt
passed_received (K.AggFinal made) job a took rows receives h = tt

-- ---- edges and blocks

-- where an edge ends there is such an input
pub input_known : (job : Job) → SoundJob job → (a : Activity) → Contains job.activities a → (e : Edge) → Contains job.edges e → e.to ≡ a.number → e.input < inputs a.kind
input_known job sound a member e m to =
    let into = in_filter (λ (z : Edge). nat_eq z.to a.number) job.edges e (nat_is e.to a.number to) m in
    let fed = each_member (λ (b : Activity). IsPermutation (range_with_len 0 (inputs b.kind)) (map (λ (z : Edge). z.input) (edges_into job b.number))) job.activities sound.fed a member in
    omega (arith, (from_range 0 (inputs a.kind) e.input (Contains-permutation _ _ e.input (IsPermutation-sym _ _ fed) (in_map (λ (z : Edge). z.input) (edges_into job a.number) e into))).1)

no_edges : (es : List Edge) → ((e : Edge) → Contains es e → ⊥) → es ≡ []
no_edges [] h = refl
no_edges (e ∷ es) h = absurd (h e (in_here e es))

-- no edge leaves the first of two activities
pub blocked : (job : Job) → SoundJob job → (b : Block) → Contains job.blocks b → edges_from job b.before ≡ []
blocked job sound b m =
    no_edges (edges_from job b.before)
    (λ e c. (let f = from_filter (λ (z : Edge). nat_eq z.from b.before) job.edges e c in target_none job.edges b.before (block_leaves job sound b m) e f.0 (is_nat e.from b.before f.1)))

-- ---- a job that was run to its end

module _ (ph : Phys) (n : ℕ) (sets : Sets) (stages : List Stage) (records : Records) (ran : IsRun ph n sets stages records) (of : StageOf (job_of ph n) stages) (all : AllCompleted (job_of ph n) stages records) where
  sound : SoundJob (job_of ph n)
  sound = placed_job ph n ran.some ran.few ran.placed

  -- the rows that a task receives at each input, and those that it makes
  abbrev Work : Type 0
  Work = (ℕ → List Row) × List Row

  record IsWork (a : Activity) (j : ℕ) (w : Work) : Type 0 where
    run : TaskRun (job_of ph n) a j (given (records a.number j) (records a.number j).took) (record { to = λ to. put_rows ((records a.number j).put to); on = (records a.number j).hands_on })
    received : run.received ≡ w.0
    made : run.made ≡ w.1

  staged : (k : ℕ) → k < length (job_of ph n).activities → Contains (activities_in stages) k
  staged k lt = Contains-permutation (range_with_len 0 (length (job_of ph n).activities)) (activities_in stages) k of.whole (in_range (length (job_of ph n).activities) k lt)

  below : (a : Activity) → Contains (job_of ph n).activities a → a.number < length (job_of ph n).activities
  below a m =
      let in_numbers = subst (λ (ks : List ℕ). Contains ks a.number) sound.numbered (in_map (λ (b : Activity). b.number) (job_of ph n).activities a m) in
      omega (arith, (from_range 0 (length (job_of ph n).activities) a.number in_numbers).1)

  completed : (a : Activity) → Contains (job_of ph n).activities a → (j : ℕ) → j < n → IsCompleted (job_of ph n) a j (records a.number j)
  completed a m j lt = ran.settled.completed a j m (staged a.number (below a m)) lt (all a j m (staged a.number (below a m)) lt)

  work : (a : Activity) → Contains (job_of ph n).activities a → (f : ℕ → Work) × ((j : ℕ) → j < n → IsWork a j (f j))
  work a m = choice (IsWork a) ((λ input. []), []) n (λ j lt. let c = completed a m j lt in ((c.run.received, c.run.made), record { run = c.run; received = refl; made = refl }))

  members : {X : Type 0} (P : X → Type 0) (xs : List X) → ((x : X) → Contains xs x → P x) → AllByRecursion P xs
  members P xs h = weaken (Contains xs) P h xs (recursion_from_All (Contains xs) xs (All-contains_itself xs))

  abbrev Worked : Activity → (ℕ → Work) → Type 0
  Worked a f = (j : ℕ) → j < n → IsWork a j (f j)

  works_of : (f : ℕ → ℕ → Work) × AllByRecursion (λ (a : Activity). Worked a (f a.number)) (job_of ph n).activities
  works_of = collect Worked (λ j. ((λ input. []), [])) 0 (job_of ph n).activities sound.numbered (members (λ (a : Activity). (f : ℕ → Work) × Worked a f) (job_of ph n).activities work)

  abbrev flow : Flow
  flow = record {
    received = λ k j. (works_of.0 k j).0;
    scanned = λ k j. (records k j).scanned;
    handed = λ k j. (records k j).handed;
    made = λ k j. (works_of.0 k j).1;
  }

  is_work : (a : Activity) → Contains (job_of ph n).activities a → (j : ℕ) → j < n → IsWork a j (works_of.0 a.number j)
  is_work a m = each_member (λ (b : Activity). Worked b (works_of.0 b.number)) (job_of ph n).activities works_of.1 a m

  works : (a : Activity) → Contains (job_of ph n).activities a → (j : ℕ) → j < n → Works n false sets flow a j
  works a m j lt =
      let w = is_work a m j lt in
      let took = taken_rows (records a.number j).took in
      record {
        makes = subst (λ (rows : List Row). Output a.kind a.arity n j (works_of.0 a.number j).0 (records a.number j).scanned (records a.number j).handed rows) w.made
            (subst (λ (r : ℕ → List Row). Output a.kind a.arity n j r (records a.number j).scanned (records a.number j).handed w.run.made) w.received w.run.makes);
        given = ran.given a j m (staged a.number (below a m)) lt;
        passed = passed_received a.kind (job_of ph n) a.number took ((works_of.0 a.number j).0 0) (λ some. subst (λ (r : ℕ → List Row). Receives (job_of ph n) a.number (taken_rows (records a.number j).took) 0 (r 0)) w.received (w.run.receives 0 some)) (completed a m j lt).passed;
        literals = each_member (λ (b : Activity). AreValues (kind_literals b.kind)) (job_of ph n).activities ran.literals a m;
      }

  -- ---- over wires

  module _ (e : Edge) (m : Contains (job_of ph n).edges e) where
    ending : e.to < length (job_of ph n).activities
    ending = ends (job_of ph n) sound e m

    source : (x : Activity) × Contains (job_of ph n).activities x × (x.number ≡ e.from)
    source = activity_at (job_of ph n) sound e.from (omega (arith, rises (job_of ph n) sound e m, ending))

    target : (x : Activity) × Contains (job_of ph n).activities x × (x.number ≡ e.to)
    target = activity_at (job_of ph n) sound e.to ending

    made_by : (s : ℕ) → s < n → MadeBy (job_of ph n) source.0 s (records e.from s) (flow.made e.from s)
    made_by s lt = subst (λ (k : ℕ). MadeBy (job_of ph n) source.0 s (records k s) (flow.made k s)) source.2 (let w = is_work source.0 source.1 s lt in (w.run, w.made))

    known : e.input < inputs target.0.kind
    known = input_known (job_of ph n) sound target.0 target.1 e m (sym target.2)

    comes : (r : ℕ) → r < n → ComesBy e.wire n e.input (taken_rows (records e.to r).took) (flow.received e.to r e.input)
    comes r lt =
        let w = is_work target.0 target.1 r lt in
        let own = subst (λ (f : ℕ → List Row). Receives (job_of ph n) target.0.number (taken_rows (records target.0.number r).took) e.input (f e.input)) w.received (w.run.receives e.input known) in
        let here = subst (λ (k : ℕ). ComesOver (edges_at (job_of ph n) k e.input) n e.input (taken_rows (records k r).took) (flow.received k r e.input)) target.2 own in
        only_edge (job_of ph n) sound e m (λ (es : List Edge). ComesOver es n e.input (taken_rows (records e.to r).took) (flow.received e.to r e.input) → ComesBy e.wire n e.input (taken_rows (records e.to r).took) (flow.received e.to r e.input)) (λ es h. h) here

    carried : Carries n flow e
    carried =
        wires_exchange e.wire n e.input (flow.made e.from) (λ r. taken_rows (records e.to r).took) (λ r. flow.received e.to r e.input)
        (settled_is_sent (job_of ph n) stages records sound ran.settled e m (staged e.to ending) source.0 source.1 source.2 (flow.made e.from) made_by) comes

  -- ---- what is handed on

  -- where no edge leaves, what is made is handed on
  kept : (a : Activity) → Contains (job_of ph n).activities a → (k : ℕ) → a.number ≡ k → edges_from (job_of ph n) k ≡ [] → (j : ℕ) → j < n → (records k j).hands_on ≡ flow.made k j
  kept a m k is none j lt =
      let w = is_work a m j lt in
      subst (λ (i : ℕ). (records i j).hands_on ≡ flow.made i j) is (w.run.hands_on ∙ ap (λ (es : List Edge). kept_by es w.run.made) (ap (edges_from (job_of ph n)) is ∙ none) ∙ w.made)

  handed : (b : Block) → Contains (job_of ph n).blocks b → HandsOn n flow b
  handed b m j lt =
      let end = block_ends (job_of ph n) sound b m in
      let a = activity_at (job_of ph n) sound b.before (omega (arith, block_rises (job_of ph n) sound b m, end)) in
      ran.settled.handed b j m (staged b.after end) lt ∙ kept a.0 a.1 b.before a.2 (blocked (job_of ph n) sound b m) j lt

  all_flows : Flows n false sets flow (job_of ph n).activities (job_of ph n).edges (job_of ph n).blocks
  all_flows = record {
    works = members (λ (a : Activity). (j : ℕ) → j < n → Works n false sets flow a j) (job_of ph n).activities works;
    carries = members (Carries n flow) (job_of ph n).edges carried;
    hands = members (HandsOn n flow) (job_of ph n).blocks handed;
  }

  ranged : Ranged (piece_of ph)
  ranged = (placed_sound ph n ran.placed).ranged

  many : length (job_of ph n).activities ≡ length (piece_of ph).steps
  many = length-activities 0 (piece_of ph).steps

  answered : answer (job_of ph n) records ≡ flow.made (last_of (piece_of ph) 0) 0
  answered =
      let same : length (job_of ph n).activities - 1 ≡ last_of (piece_of ph) 0 = omega (arith, many) in
      let a = activity_at (job_of ph n) sound (last_of (piece_of ph) 0) (omega (arith, many, ranged.some)) in
      ap (λ (k : ℕ). (records k 0).hands_on) same ∙ kept a.0 a.1 (last_of (piece_of ph) 0) a.2 (out_above 0 (0 + length (piece_of ph).steps) (last_of (piece_of ph) 0) ((piece_of ph).edges 0) (ranged.edges 0) (omega (arith, ranged.some))) 0 ran.some

  module _ (vars : List Var) (is : phys_result ph ≡ Some vars) where
    rows_allowed : IsAllowed ph false sets n (flow.made (last_of (piece_of ph) 0))
    rows_allowed = result_allowed n ran.some false sets flow ph vars is ran.placed.each ran.placed.once ran.fills all_flows

    first_of : (m : ℕ) → 0 < m → (vs : List Var) (rows : ℕ → List Row) → map (bind vs) (rows 0) ≡ first_part (bound m vs rows)
    first_of zero some vs rows = absurd (omega (arith, some))
    first_of (suc m) some vs rows = refl

    is_answer : IsAnswer ph n vars sets (answer (job_of ph n) records)
    is_answer =
        let live = result_live ph vars is in
        subst (λ (rows : List Row). IsAnswer ph n vars sets rows) (sym answered) (record {
          parts = bound n vars (flow.made (last_of (piece_of ph) 0));
          allowed = subst (λ (vs : List Var). PAllows ph false sets n (bound n vs (flow.made (last_of (piece_of ph) 0)))) live rows_allowed.parts;
          first = first_of n ran.some vars (flow.made (last_of (piece_of ph) 0));
          wide = subst (λ (vs : List Var). AreAsWide vs (flow.made (last_of (piece_of ph) 0) 0)) live (rows_allowed.wide 0 ran.some);
        })

pub job_computes : JobComputes
job_computes ph n vars sets stages records is ran of all = is_answer ph n sets stages records ran of all vars is
