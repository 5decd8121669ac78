-- What a task took of a sender before any Fail is a front of what that sender's whole run sends it.
use Rattle.std.proofs.Common.{◌≡◌, ◌≢◌, inl, inr, ℕ, ◌<◌, ◌≤◌, Bool, true, false, List, [], ◌∷◌, ◌++◌, map, filter, length, refl, ap, sym, subst, ◌∙◌, arith, append_assoc, append-nil}
use Rattle.std.specs.Prelude.{nat_eq, ◌&&◌, ◌||◌, if◌then◌else◌}
use Rattle.std.specs.List.{AllByRecursion, Contains, list_any}
use Rattle.std.proofs.lemmas.List.Elements.{All-contains, All-from_recursion}
use Rattle.hy_rest.specs.Words.{Signal, Fail, Close, is_fail, is_close, put_rows, signal_rows, WriterWord}
use Rattle.hy_job.specs.declared.job.Activity.{Activity}
use Rattle.hy_job.specs.declared.job.Edge.{Edge}
use Rattle.hy_job.specs.declared.job.Job.{Job}
use Rattle.hy_job.specs.declared.job.Stage.{Stage}
use Rattle.hy_job.specs.Columns.{Row}
use Rattle.hy_job.specs.Sound.{SoundJob, edges_from, may_leave}
use Rattle.hy_job.specs.Stages.{activities_in}
use Rattle.hy_job.specs.Runs.{ReceivesOver, IsReceiver, SendsBy, sent_over, sent_by}
use Rattle.hy_job.specs.Settled.{Completed, Records, Settled, Take, HasWords, taken_of, has_closed}
use Rattle.hy_job.proofs.Members.{no_bool, in_cases, in_none, in_filter}
use Rattle.hy_job.proofs.Boxes.{nat_is}
use Rattle.hy_job.proofs.Connections.{at_most_one}
use Rattle.al_answer.proofs.Fronts.{NoFail, front_of, closed_whole, word_closes}
use Rattle.al_answer.proofs.Whole.{Work, RanAt, reach, ended}

-- ---- what was taken of one sender

module _ (input s : ℕ) where
  abbrev mine : Take → Bool
  mine t = nat_eq t.input input && nat_eq t.sender s

  pub of_both : (xs ys : List Take) → taken_of input s (xs ++ ys) ≡ taken_of input s xs ++ taken_of input s ys
  of_both [] ys = refl
  of_both (t ∷ xs) ys = step (mine t) (of_both xs ys)
    where
      step : (b : Bool) → taken_of input s (xs ++ ys) ≡ taken_of input s xs ++ taken_of input s ys
          → map (λ (u : Take). u.signal) (if b then t ∷ filter mine (xs ++ ys) else filter mine (xs ++ ys)) ≡ map (λ (u : Take). u.signal) (if b then t ∷ filter mine xs else filter mine xs) ++ taken_of input s ys
      step true e = ap (λ (ss : List (Signal Row)). t.signal ∷ ss) e
      step false e = e

  pub of_no_fail : (xs : List Take) → AllByRecursion (λ t. is_fail t.signal ≡ false) xs → NoFail (taken_of input s xs)
  of_no_fail [] h = tt
  of_no_fail (t ∷ xs) h = step (mine t) h.0 (of_no_fail xs h.1)
    where
      step : (b : Bool) → is_fail t.signal ≡ false → NoFail (taken_of input s xs) → NoFail (map (λ (u : Take). u.signal) (if b then t ∷ filter mine xs else filter mine xs))
      step true e g = (e, g)
      step false e g = g

  pub closed_same : (xs : List Take) → list_any is_close (taken_of input s xs) ≡ has_closed xs input s
  closed_same [] = refl
  closed_same (t ∷ xs) = step (mine t) (is_close t.signal) refl (closed_same xs)
    where
      step : (b c : Bool) → is_close t.signal ≡ c → list_any is_close (taken_of input s xs) ≡ has_closed xs input s
          → list_any is_close (map (λ (u : Take). u.signal) (if b then t ∷ filter mine xs else filter mine xs)) ≡ ((is_close t.signal && b) || has_closed xs input s)
      step true true e g = ap (λ (c : Bool). c || list_any is_close (taken_of input s xs)) e ∙ sym (ap (λ (c : Bool). (c && true) || has_closed xs input s) e)
      step true false e g = ap (λ (c : Bool). c || list_any is_close (taken_of input s xs)) e ∙ (g ∙ sym (ap (λ (c : Bool). (c && true) || has_closed xs input s) e))
      step false true e g = g ∙ sym (ap (λ (c : Bool). (c && false) || has_closed xs input s) e)
      step false false e g = g ∙ sym (ap (λ (c : Bool). (c && false) || has_closed xs input s) e)

rows_both : (xs ys : List (Signal Row)) → put_rows (xs ++ ys) ≡ put_rows xs ++ put_rows ys
rows_both [] ys = refl
rows_both (x ∷ xs) ys = ap (λ (rows : List Row). signal_rows x ++ rows) (rows_both xs ys) ∙ sym (append_assoc (signal_rows x) (put_rows xs) (put_rows ys))

failing : (put : List (Signal Row)) → NoFail (put ++ Fail ∷ Close ∷ []) → ⊥
failing [] h = no_bool h.0
failing (p ∷ put) h = failing put h.1

nothing_taken : {X : Type 0} (xs ys : List X) → xs ++ ys ≡ [] → xs ≡ []
nothing_taken [] ys e = refl
nothing_taken (x ∷ xs) ys e = cc

-- ---- a front of what is sent

-- the rows behind the front; none behind a Close, nor where the sender does not send here
pub record IsFront (closed : Bool) (sends : Type 0) (sent front : List Row) : Type 0 where
  pub rest : List Row
  pub is : sent ≡ front ++ rest
  pub whole : closed ≡ true → rest ≡ []
  pub unsent : (sends → ⊥) → rest ≡ []

sent_first : (es : List Edge) (e : Edge) (n s r : ℕ) (rows : List Row) → Contains es e → length es ≤ 1 → sent_by es n s r rows ≡ sent_over e.wire n s r rows
sent_first [] e n s r rows m few = absurd (in_none e m)
sent_first (x ∷ []) e n s r rows m few = elim (in_cases x e [] m) [ inl is ↦ ap (λ (y : Edge). sent_over y.wire n s r rows) is | inr k ↦ absurd (in_none e k) ]
sent_first (x ∷ y ∷ es) e n s r rows m few = absurd (omega (arith, few))

by_first : (es : List Edge) (e : Edge) (n s r : ℕ) → Contains es e → length es ≤ 1 → (ReceivesOver e.wire n s r → SendsBy es n s r) × (SendsBy es n s r → ReceivesOver e.wire n s r)
by_first [] e n s r m few = absurd (in_none e m)
by_first (x ∷ []) e n s r m few = elim (in_cases x e [] m) [ inl is ↦ (subst (λ (y : Edge). ReceivesOver y.wire n s r) (sym is), subst (λ (y : Edge). ReceivesOver y.wire n s r) is) | inr k ↦ absurd (in_none e k) ]
by_first (x ∷ y ∷ es) e n s r m few = absurd (omega (arith, few))

module _ (job : Job) (sound : SoundJob job) (stages : List Stage) (records : Records) (settled : Settled job stages records) where
  -- over this edge, from the task of partition `s` of the activity `y`, what was taken and what was put behind it
  module _ (e : Edge) (known : Contains job.edges e) (y : Activity) (member : Contains job.activities y) (at : y.number ≡ e.from) (staged : Contains (activities_in stages) y.number) (f : ℕ → ℕ → Work) (s j : ℕ) (ls : s < job.partitions) (lj : j < job.partitions)
      (ran : RanAt job (records y.number s) f (f y.number s) y s) (taken more : List (Signal Row)) (no_fail : NoFail taken) (word : taken ++ more ≡ (records y.number s).put j) where
    few : length (edges_from job y.number) ≤ 1
    few =
        let own = All-contains (λ (z : Activity). length (edges_from job z.number) ≤ may_leave z.kind) job.activities y (All-from_recursion (λ (z : Activity). length (edges_from job z.number) ≤ may_leave z.kind) job.activities sound.leaving) member in
        let most = at_most_one y.kind in
        omega (arith, own, most)

    leaves : Contains (edges_from job y.number) e
    leaves = in_filter (λ (z : Edge). nat_eq z.from y.number) job.edges e (nat_is e.from y.number (sym at)) known

    abbrev sent : List Row
    sent = sent_over e.wire job.partitions s j (f y.number s).made

    sent_is : sent_by (edges_from job y.number) job.partitions s j (f y.number s).made ≡ sent_over e.wire job.partitions s j (f y.number s).made
    sent_is = sent_first (edges_from job y.number) e job.partitions s j (f y.number s).made leaves few

    words : HasWords job y.number s (records y.number s)
    words = settled.words y s member staged ls

    receives : ReceivesOver e.wire job.partitions s j → IsReceiver job y.number s j
    receives = (by_first (edges_from job y.number) e job.partitions s j leaves few).0

    -- who is sent nothing took nothing
    no_word : (ReceivesOver e.wire job.partitions s j → ⊥) → taken ≡ []
    no_word none = nothing_taken taken more (word ∙ words.none j lj (λ is. none ((by_first (edges_from job y.number) e job.partitions s j leaves few).1 is)))

    a_word : ReceivesOver e.wire job.partitions s j → WriterWord (taken ++ more)
    a_word over = subst WriterWord (sym word) (words.words j lj (receives over))

    unsent_front : (ReceivesOver e.wire job.partitions s j → ⊥) → sent_over e.wire job.partitions s j (f y.number s).made ≡ [] → IsFront (list_any is_close taken) (ReceivesOver e.wire job.partitions s j) (sent_over e.wire job.partitions s j (f y.number s).made) (put_rows taken)
    unsent_front none empty = record { rest = []; is = empty ∙ sym (append-nil (put_rows taken) ∙ ap put_rows (no_word none)); whole = λ c. refl; unsent = λ n. refl }

    completed_front : (records y.number s).outcome ≡ Completed → ReceivesOver e.wire job.partitions s j → IsFront (list_any is_close taken) (ReceivesOver e.wire job.partitions s j) (sent_over e.wire job.partitions s j (f y.number s).made) (put_rows taken)
    completed_front c over = record {
      rest = put_rows more;
      is = sym sent_is ∙ sym (ran.done c j lj) ∙ sym (ap put_rows word) ∙ rows_both taken more;
      whole = λ closed. ap put_rows (closed_whole taken more no_fail closed (a_word over));
      unsent = λ none. absurd (none over);
    }

    failed_front : (records y.number s).outcome ≢ Completed → ReceivesOver e.wire job.partitions s j → IsFront (list_any is_close taken) (ReceivesOver e.wire job.partitions s j) (sent_over e.wire job.partitions s j (f y.number s).made) (put_rows taken)
    failed_front c over =
        let front = ran.front c j lj (receives over) in
        let before = front_of taken more front.0 no_fail (word ∙ front.2) in
        record {
          rest = put_rows before.0 ++ front.1;
          is = sym sent_is ∙ front.3 ∙ ap (λ (ss : List (Signal Row)). put_rows ss ++ front.1) before.1 ∙ ap (λ (rows : List Row). rows ++ front.1) (rows_both taken before.0) ∙ append_assoc (put_rows taken) (put_rows before.0) front.1;
          whole = λ closed. absurd (failing front.0 (subst NoFail (all_taken (closed_whole taken more no_fail closed (a_word over)) front.2) no_fail));
          unsent = λ none. absurd (none over);
        }
      where
        all_taken : more ≡ [] → {p : List (Signal Row)} → (records y.number s).put j ≡ p → taken ≡ p
        all_taken none e = sym (append-nil taken) ∙ ap (λ (ss : List (Signal Row)). taken ++ ss) (sym none) ∙ word ∙ e

    pub front : IsFront (list_any is_close taken) (ReceivesOver e.wire job.partitions s j) (sent_over e.wire job.partitions s j (f y.number s).made) (put_rows taken)
    front = elim (reach e.wire job.partitions s j lj) [
      | inl over ↦ elim (ended (records y.number s).outcome) [ inl c ↦ completed_front c over | inr c ↦ failed_front c over ]
      | inr none ↦ unsent_front none.0 (none.1 (f y.number s).made)
    ]

    -- where nothing was put behind it, it is all that is sent
    pub whole_front : more ≡ [] → sent_over e.wire job.partitions s j (f y.number s).made ≡ put_rows taken
    whole_front none = front.is ∙ ap (λ (rows : List Row). put_rows taken ++ rows) no_rest ∙ append-nil (put_rows taken)
      where
        closes : ReceivesOver e.wire job.partitions s j → list_any is_close taken ≡ true
        closes over = word_closes taken (subst WriterWord (ap (λ (ss : List (Signal Row)). taken ++ ss) none ∙ append-nil taken) (a_word over))

        no_rest : front.rest ≡ []
        no_rest = elim (reach e.wire job.partitions s j lj) [ inl over ↦ front.whole (closes over) | inr n ↦ front.unsent n.0 ]
