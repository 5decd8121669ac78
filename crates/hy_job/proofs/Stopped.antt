-- Tasks as far as they have come, and why tasks stop.
use Rattle.std.proofs.Common.{◌≡◌, ◌≢◌, inl, inr, ◌<◌, ◌≤◌, ℕ, zero, suc, Bool, true, false, nat_eq, ◌&&◌, List, [], ◌∷◌, ◌++◌, filter, length, refl, ap, sym, subst, ◌∙◌, arith, append-nil}
use Rattle.std.specs.List.{Contains}
use Rattle.std.specs.List.Sorted.{IsPermutation}
use Rattle.std.proofs.lemmas.List.Elements.{All-contains, All-from_recursion}
use Rattle.std.proofs.lemmas.List.Sorted.{IsPermutation-sym, All-permutation}
use Rattle.hy_job.specs.declared.job.Activity.{Activity}
use Rattle.hy_job.specs.declared.job.Kind.{Kind}
use Rattle.hy_job.specs.declared.job.Kind.TheVariants as K
use Rattle.hy_job.specs.declared.job.Edge.{Edge}
use Rattle.hy_job.specs.declared.job.Job.{Job}
use Rattle.hy_job.specs.declared.job.Stage.{Stage}
use Rattle.hy_job.specs.Columns.{Row, holds}
use Rattle.hy_job.specs.Sound.{SoundJob, edges_at, edges_into, edges_from, may_leave}
use Rattle.hy_job.specs.Stages.{IsPart, AreNext, activities_in}
use Rattle.hy_job.specs.Runs.{SendsBy, IsSender, IsReceiver, ReceivesOver, rows_at}
use Rattle.hy_rest.specs.Words.{is_fail}
use Rattle.hy_job.specs.Settled.{Outcome, Completed, Stopped, Check, Store, NoMemory, Take, Records, Settled, IsPassed, IsCompleted, taken_rows, taken_of, is_fault, IsFaultBeside, IsRaisedBeside, FailsAtLast, PassesAtLast, StopsByFaults, StopsBy}
use Rattle.hy_job.proofs.Members.{no_bool, in_here, in_none, in_cases, in_filter, from_filter, nat_same}
use Rattle.hy_job.proofs.Pairs.{in_map, from_flat_map, in_flat_map}
use Rattle.hy_job.proofs.Boxes.{is_nat, nat_is, activity_at}
use Rattle.hy_job.proofs.Connections.{rises, at_most_one}

-- ---- as far as they have come

pub fails_at_last : FailsAtLast
fails_at_last job a j r owed none h = record {
  before = h.before;
  behind = h.behind;
  took = h.took;
  takes_no_fail = h.takes_no_fail;
  put = h.put;
  ends = λ to is. sym (append-nil (r.put to)) ∙ (ap (λ xs. r.put to ++ xs) (sym (none to is)) ∙ h.ends to is);
  part = h.part;
  cause = h.cause;
}

passed_moves : (kind : Kind) (xs ys : List Row) → IsPermutation xs ys → IsPassed kind xs → IsPassed kind ys
passed_moves (K.Check name c) xs ys p h = All-permutation (λ row. holds c row ≡ true) xs ys p h
passed_moves _ xs ys p h = tt

pub passes_at_last : PassesAtLast
passes_at_last job a j r h = passed_moves a.kind h.worked (rows_at 0 (taken_rows r.took)) (IsPermutation-sym _ _ (subst (IsPermutation (rows_at 0 (taken_rows r.took))) (append-nil h.worked) h.all)) h.passed

-- ---- why tasks stop

parts_of : (job : Job) (before : List ℕ) (stages : List Stage) → AreNext job before stages → (s : Stage) → Contains stages s → IsPart job s.activities
unfolding AreNext
parts_of job before [] h s m = absurd (in_none s m)
parts_of job before (x ∷ stages) h s m = elim (in_cases x s stages m) [
  | inl e ↦ subst (λ (y : Stage). IsPart job y.activities) e h.0.is_part
  | inr k ↦ parts_of job (before ++ x.activities) stages h.1 s k
]

-- the first edge of a list over which a task is sent to
first_of : (es : List Edge) (n s r : ℕ) → SendsBy es n s r → (e : Edge) × Contains es e × ReceivesOver e.wire n s r
first_of [] n s r h = absurd h
first_of (e ∷ es) n s r h = (e, in_here e es, h)

-- where one edge leaves at most, it is the first
over_first : (es : List Edge) (e : Edge) (n s r : ℕ) → Contains es e → length es ≤ 1 → ReceivesOver e.wire n s r → SendsBy es n s r
over_first [] e n s r m few over = in_none e m
over_first (x ∷ []) e n s r m few over = elim (in_cases x e [] m) [ inl is ↦ subst (λ (y : Edge). ReceivesOver y.wire n s r) (sym is) over | inr k ↦ absurd (in_none e k) ]
over_first (x ∷ y ∷ es) e n s r m few over = absurd (omega (arith, few))

true_or_false : (b : Bool) → b ≡ true → b ≡ false → ⊥
true_or_false b e f = no_bool (sym e ∙ f)

module _ (job : Job) (stages : List Stage) (records : Records) (sound : SoundJob job) (next : AreNext job [] stages) (settled : Settled job stages records) where
  stage_of : (a : ℕ) → Contains (activities_in stages) a → (s : Stage) × Contains stages s × Contains s.activities a × IsPart job s.activities
  stage_of a m = let q = from_flat_map (λ (s : Stage). s.activities) stages a m in (q.0, q.1, q.2, parts_of job [] stages next q.0 q.1)

  within : (a : ℕ) → Contains (activities_in stages) a → a < length job.activities
  within a m = let q = stage_of a m in All-contains (λ x. x < length job.activities) q.0.activities a q.3.within q.2

  in_stages : (s : Stage) (a : ℕ) → Contains stages s → Contains s.activities a → Contains (activities_in stages) a
  in_stages s a m k = in_flat_map (λ (x : Stage). x.activities) stages s a m k

  raised : (a : ℕ) → IsRaisedBeside job stages records a → IsFaultBeside job stages records a
  raised a r =
      let m = in_stages r.0 r.1 r.3 r.5 in
      let y = activity_at job sound r.1 (within r.1 m) in
      let c : (records y.0.number r.2).raised ≡ is_fault (records y.0.number r.2).outcome = (settled.causes y.0 r.2 y.1 (subst (Contains (activities_in stages)) (sym y.2) m) r.6).raised in
      (r.0, r.1, r.2, r.3, r.4, r.5, r.6, sym (subst (λ b. (records b r.2).raised ≡ is_fault (records b r.2).outcome) y.2 c) ∙ r.7)

  -- a Fail that was taken came from a task that did not complete
  record Failing (x : Activity) : Type 0 where
    from : Activity
    partition : ℕ
    edge : Edge
    known : Contains job.edges edge
    leaves : edge.from ≡ from.number
    ends : edge.to ≡ x.number
    activity : Contains job.activities from
    low : partition < job.partitions
    stage : Stage
    among : Contains stages stage
    mine : Contains stage.activities x.number
    its : Contains stage.activities from.number
    not_done : (records from.number partition).outcome ≢ Completed

  -- a Fail that came over an edge between two activities
  over_edge : (x y : Activity) (j : ℕ) (t : Take) (e : Edge) (stage : Stage) → Contains job.activities y → y.number ≡ e.from → Contains job.edges e → e.to ≡ x.number → e.input ≡ t.input
      → t.sender < job.partitions → ReceivesOver e.wire job.partitions t.sender j → Contains stages stage → Contains stage.activities x.number → Contains stage.activities e.from
      → j < job.partitions → Contains (records x.number j).took t → is_fail t.signal ≡ true → Failing x
  over_edge x y j t e stage my is me to input low over ms mine its lj mt fails = record {
    from = y;
    partition = t.sender;
    edge = e;
    known = me;
    leaves = sym is;
    ends = to;
    activity = my;
    low = low;
    stage = stage;
    among = ms;
    mine = mine;
    its = subst (Contains stage.activities) (sym is) its;
    not_done = λ done.
        true_or_false (is_fail t.signal) fails (All-contains (λ s. is_fail s ≡ false) ((records y.number t.sender).put j) t.signal ((whole done).puts_no_fail j receiver) (subst (λ a. Contains ((records a t.sender).put j) t.signal) (sym is) put));
  }
    where
      whole : (records y.number t.sender).outcome ≡ Completed → IsCompleted job y t.sender (records y.number t.sender)
      whole done = settled.completed y t.sender my (in_stages stage y.number ms (subst (Contains stage.activities) (sym is) its)) low done

      mine_of : Contains (taken_of t.input t.sender (records x.number j).took) t.signal
      mine_of = in_map (λ (u : Take). u.signal) (filter (λ (u : Take). nat_eq u.input t.input && nat_eq u.sender t.sender) (records x.number j).took) t
          (in_filter (λ (u : Take). nat_eq u.input t.input && nat_eq u.sender t.sender) (records x.number j).took t (rw (nat_same t.input) (nat_same t.sender)) mt)

      moved : Contains (taken_of e.input t.sender (records e.to j).took) t.signal
      moved = subst (λ a. Contains (taken_of e.input t.sender (records a j).took) t.signal) (sym to) (subst (λ i. Contains (taken_of i t.sender (records x.number j).took) t.signal) (sym input) mine_of)

      put : Contains ((records e.from t.sender).put j) t.signal
      put = subst (λ xs. Contains xs t.signal) (settled.delivered e t.sender j me (subst (Contains (activities_in stages)) (sym to) (in_stages stage x.number ms mine)) low lj) moved

      few : length (edges_from job y.number) ≤ 1
      few =
          let own = All-contains (λ (z : Activity). length (edges_from job z.number) ≤ may_leave z.kind) job.activities y (All-from_recursion (λ (z : Activity). length (edges_from job z.number) ≤ may_leave z.kind) job.activities sound.leaving) my in
          let most = at_most_one y.kind in
          omega (arith, own, most)

      receiver : IsReceiver job y.number t.sender j
      receiver = over_first (edges_from job y.number) e job.partitions t.sender j (in_filter (λ (z : Edge). nat_eq z.from y.number) job.edges e (nat_is e.from y.number (sym is)) me) few over

  failing : (x : Activity) (j : ℕ) → Contains job.activities x → Contains (activities_in stages) x.number → j < job.partitions → (t : Take) → Contains (records x.number j).took t → is_fail t.signal ≡ true → Failing x
  failing x j mx ms lj t mt fails =
      let sender = All-contains (λ (u : Take). IsSender job x j u.input u.sender) (records x.number j).took t (All-from_recursion (λ (u : Take). IsSender job x j u.input u.sender) (records x.number j).took (settled.taken x j mx ms lj)) mt in
      let first = first_of (edges_at job x.number t.input) job.partitions t.sender j sender.sends in
      let at = from_filter (λ (y : Edge). nat_eq y.input t.input) (edges_into job x.number) first.0 first.1 in
      let into = from_filter (λ (y : Edge). nat_eq y.to x.number) job.edges first.0 at.0 in
      let to = is_nat first.0.to x.number into.1 in
      let up = rises job sound first.0 into.0 in
      let low = within x.number ms in
      let y = activity_at job sound first.0.from (omega (arith, up, to, low)) in
      let place = stage_of x.number ms in
      over_edge x y.0 j t first.0 place.0 y.1 y.2 into.0 to (is_nat first.0.input t.input at.1) sender.within first.2 place.1 place.2 (place.3.closed x.number first.0.from place.2 (first.0, into.0, inr (refl, to))) lj mt fails

  stops : (k : ℕ) (x : Activity) (j : ℕ) → x.number < k → Contains job.activities x → Contains (activities_in stages) x.number → j < job.partitions → (records x.number j).outcome ≡ Stopped → IsFaultBeside job stages records x.number
  stops zero x j low mx ms lj is = absurd (omega (arith, low))
  stops (suc k) x j low mx ms lj is =
      let c = settled.causes x j mx ms lj in
      elim (subst (λ o. StopsBy o (records x.number j)) is c.stopped) [
        | inl f ↦ below (λ y i less my its li stopped. stops k y i less my its li stopped) (failing x j mx ms lj f.0 f.1 f.2)
        | inr saw ↦ raised x.number (c.saw saw)
      ]
    where
      below : ((y : Activity) (i : ℕ) → y.number < k → Contains job.activities y → Contains (activities_in stages) y.number → i < job.partitions → (records y.number i).outcome ≡ Stopped → IsFaultBeside job stages records y.number)
          → Failing x → IsFaultBeside job stages records x.number
      below again f = by (records f.from.number f.partition).outcome refl
        where
          faulted : is_fault (records f.from.number f.partition).outcome ≡ true → IsFaultBeside job stages records x.number
          faulted e = (f.stage, f.from.number, f.partition, f.among, f.mine, f.its, f.low, e)

          by : (o : Outcome) → (records f.from.number f.partition).outcome ≡ o → IsFaultBeside job stages records x.number
          by Completed e = absurd (f.not_done e)
          by Stopped e =
              let up = rises job sound f.edge f.known in
              let q = again f.from f.partition (let l = f.leaves in let t = f.ends in omega (arith, up, l, t, low)) f.activity (in_stages f.stage f.from.number f.among f.its) f.low e in
              (q.0, q.1, q.2, q.3, (parts_of job [] stages next q.0 q.3).closed f.from.number x.number q.4 (f.edge, f.known, inl (f.leaves, f.ends)), q.5, q.6, q.7)
          by (Check name) e = faulted (ap is_fault e)
          by Store e = faulted (ap is_fault e)
          by NoMemory e = faulted (ap is_fault e)

pub stops_by_faults : StopsByFaults
stops_by_faults job stages records sound next settled a j m lj is =
    let x = activity_at job sound a (within job stages records sound next settled a m) in
    subst (IsFaultBeside job stages records) x.2
    (stops job stages records sound next settled (suc x.0.number) x.0 j (omega arith) x.1 (subst (Contains (activities_in stages)) (sym x.2) m) lj (subst (λ b. (records b j).outcome ≡ Stopped) (sym x.2) is))
