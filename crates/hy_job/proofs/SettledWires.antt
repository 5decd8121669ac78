-- What completed tasks made comes over their wires.
use Rattle.std.proofs.Common.{◌≡◌, inl, inr, ◌<◌, ◌≤◌, ℕ, true, false, nat_eq, ◌&&◌, List, [], ◌∷◌, ◌++◌, map, length, refl, ap, sym, subst, ◌∙◌, arith}
use Rattle.std.specs.List.{AllByRecursion, Contains}
use Rattle.std.proofs.lemmas.List.Elements.{All-contains, All-from_recursion}
use Rattle.hy_job.specs.declared.job.Activity.{Activity}
use Rattle.hy_job.specs.declared.job.Edge.{Edge}
use Rattle.hy_job.specs.declared.job.Job.{Job}
use Rattle.hy_job.specs.declared.job.Stage.{Stage}
use Rattle.hy_job.specs.Columns.{Row}
use Rattle.hy_job.specs.Sound.{SoundJob, edges_from, may_leave}
use Rattle.hy_job.specs.Stages.{activities_in}
use Rattle.hy_job.specs.Runs.{Taken, IsSender, rows_of, sent_over, sent_by}
use Rattle.hy_job.specs.Exchange.{AreSent}
use Rattle.hy_rest.specs.Words.{put_rows, signal_rows}
use Rattle.hy_job.specs.Settled.{Take, Records, Settled, MadeBy, SettledIsSent, taken_rows, taken_of}
use Rattle.hy_job.proofs.Members.{by_cases, in_cases, in_none, in_filter}
use Rattle.hy_job.proofs.RunRows.{all_flat_map}
use Rattle.hy_job.proofs.Boxes.{nat_is, activity_at}
use Rattle.hy_job.proofs.Connections.{ends, at_most_one}

-- ---- rows of one sender

of_append : (input s : ℕ) (xs ys : List Taken) → rows_of input s (xs ++ ys) ≡ rows_of input s xs ++ rows_of input s ys
of_append input s [] ys = refl
of_append input s (x ∷ xs) ys = by_cases (nat_eq x.input input && nat_eq x.sender s)
    (λ t. rw t (ap (λ rows. x.row ∷ rows) (of_append input s xs ys)))
    (λ f. rw f (of_append input s xs ys))

of_mine : (input s : ℕ) (t : Take) (rows : List Row) → (nat_eq t.input input && nat_eq t.sender s) ≡ true → rows_of input s (map (λ (row : Row). record { input = t.input; sender = t.sender; row = row }) rows) ≡ rows
of_mine input s t [] e = refl
of_mine input s t (row ∷ rows) e = rw e (ap (λ xs. row ∷ xs) (of_mine input s t rows e))

of_other : (input s : ℕ) (t : Take) (rows : List Row) → (nat_eq t.input input && nat_eq t.sender s) ≡ false → rows_of input s (map (λ (row : Row). record { input = t.input; sender = t.sender; row = row }) rows) ≡ []
of_other input s t [] e = refl
of_other input s t (row ∷ rows) e = rw e (of_other input s t rows e)

-- the rows of what was taken of a sender are the taken rows of that sender
rows_taken : (input s : ℕ) (took : List Take) → rows_of input s (taken_rows took) ≡ put_rows (taken_of input s took)
rows_taken input s [] = refl
rows_taken input s (t ∷ took) =
    of_append input s (map (λ (row : Row). record { input = t.input; sender = t.sender; row = row }) (signal_rows t.signal)) (taken_rows took)
    ∙ by_cases (nat_eq t.input input && nat_eq t.sender s)
    (λ y. rw y (ap (λ xs. xs ++ rows_of input s (taken_rows took)) (of_mine input s t (signal_rows t.signal) y) ∙ ap (λ xs. signal_rows t.signal ++ xs) (rows_taken input s took)))
    (λ n. rw n (ap (λ xs. xs ++ rows_of input s (taken_rows took)) (of_other input s t (signal_rows t.signal) n) ∙ rows_taken input s took))

-- where one edge leaves at most, what is sent goes over it
sent_first : (es : List Edge) (e : Edge) (n j r : ℕ) (rows : List Row) → Contains es e → length es ≤ 1 → sent_by es n j r rows ≡ sent_over e.wire n j r rows
sent_first [] e n j r rows m few = absurd (in_none e m)
sent_first (x ∷ []) e n j r rows m few = elim (in_cases x e [] m) [ inl is ↦ ap (λ (y : Edge). sent_over y.wire n j r rows) is | inr k ↦ absurd (in_none e k) ]
sent_first (x ∷ y ∷ es) e n j r rows m few = absurd (omega (arith, few))

module _ (job : Job) (stages : List Stage) (records : Records) (sound : SoundJob job) (settled : Settled job stages records) (e : Edge) (known : Contains job.edges e) (run : Contains (activities_in stages) e.to)
    (a : Activity) (member : Contains job.activities a) (is : a.number ≡ e.from) (made : ℕ → List Row) (makes : (s : ℕ) → s < job.partitions → MadeBy job a s (records e.from s) (made s)) where
  few : length (edges_from job a.number) ≤ 1
  few =
      let own = All-contains (λ (z : Activity). length (edges_from job z.number) ≤ may_leave z.kind) job.activities a (All-from_recursion (λ (z : Activity). length (edges_from job z.number) ≤ may_leave z.kind) job.activities sound.leaving) member in
      let most = at_most_one a.kind in
      omega (arith, own, most)

  sent : (s r : ℕ) → s < job.partitions → r < job.partitions → put_rows ((records e.from s).put r) ≡ sent_over e.wire job.partitions s r (made s)
  sent s r ls lr =
      let m = makes s ls in
      m.0.sends r lr
      ∙ (sent_first (edges_from job a.number) e job.partitions s r m.0.made (in_filter (λ (z : Edge). nat_eq z.from a.number) job.edges e (nat_is e.from a.number (sym is)) known) few
      ∙ ap (sent_over e.wire job.partitions s r) m.1)

  of_senders : (x : Activity) → Contains job.activities x → x.number ≡ e.to → (r : ℕ) → r < job.partitions → AllByRecursion (λ (t : Taken). t.sender < job.partitions) (taken_rows (records e.to r).took)
  of_senders x m to r lr = all_flat_map (λ (t : Take). IsSender job x r t.input t.sender) (λ (t : Taken). t.sender < job.partitions) (λ (t : Take). map (λ (row : Row). record { input = t.input; sender = t.sender; row = row }) (signal_rows t.signal))
      (λ t of. low t (signal_rows t.signal) of.within) (records e.to r).took
      (subst (λ k. AllByRecursion (λ (t : Take). IsSender job x r t.input t.sender) (records k r).took) to (settled.taken x r m (subst (Contains (activities_in stages)) (sym to) run) lr))
    where
      low : (t : Take) (rows : List Row) → t.sender < job.partitions → AllByRecursion (λ (t : Taken). t.sender < job.partitions) (map (λ (row : Row). record { input = t.input; sender = t.sender; row = row }) rows)
      low t [] lt = tt
      low t (row ∷ rows) lt = (lt, low t rows lt)

  are_sent : AreSent e.wire job.partitions e.input made (λ r. taken_rows (records e.to r).took)
  are_sent = record {
    each = λ s r ls lr. rows_taken e.input s (records e.to r).took ∙ (ap put_rows (settled.delivered e s r known run ls lr) ∙ sent s r ls lr);
    senders = λ r lr. let x = activity_at job sound e.to (ends job sound e known) in of_senders x.0 x.1 x.2 r lr;
  }

pub settled_is_sent : SettledIsSent
settled_is_sent job stages records sound settled e known run a member is made makes = are_sent job stages records sound settled e known run a member is made makes
