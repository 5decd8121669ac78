-- A list read item by item.
use Rattle.std.proofs.Common.{◌≡◌, ℕ, zero, suc, ◌+◌, ◌-◌, ◌<◌, ◌≤◌, List, [], ◌∷◌, ◌++◌, length, Option, Some, None, refl, sym, ap, ◌∙◌, append_assoc, arith}
use Rattle.std.proofs.lemmas.List.{append-nil}
use Rattle.al_read.specs.declared.plan.reader.Stopped.{Stopped}
use Rattle.al_read.specs.declared.plan.reader.Stopped.TheVariants as stops
use Rattle.al_read.specs.PlanReading.{State, Outcome, Read, Stops, ◌>>=◌, Fails, more, listed, behind_items}

-- these items are read, and so many more may come
abbrev pub Kept : {A : Type 0} → (State → Outcome (Option A)) → Outcome (List A) → ℕ → List A → State → Type 0
Kept step total left items s = total ≡ behind_items items (listed left step s)

module _ {A : Type 0} (step : State → Outcome (Option A)) (total : Outcome (List A)) where
  at_step : (left : ℕ) (items : List A) (s : State) (o : Outcome (Option A)) → 0 < left → Kept step total left items s → step s ≡ o → total ≡ behind_items items (o >>= more (listed (left - 1) step))
  unfolding listed
  at_step zero items s o some h e = absurd (omega arith)
  at_step (suc left) items s o some h e =
      let same : suc left - 1 ≡ left = omega arith in
      rw same (h ∙ ap (λ (z : Outcome (Option A)). behind_items items (z >>= more (listed left step))) e)

  joined : (items : List A) (x : A) (o : Outcome (List A)) → behind_items items (o >>= λ xs r. Read (x ∷ xs) r) ≡ behind_items (items ++ x ∷ []) o
  joined items x (Read xs r) = ap (λ (ys : List A). Read ys r) (sym (append_assoc items (x ∷ []) xs))
  joined items x (Stops e r) = refl

  pub goes_on : (left : ℕ) (items : List A) (s r : State) (x : A) → 0 < left → Kept step total left items s → step s ≡ Read (Some x) r → Kept step total (left - 1) (items ++ x ∷ []) r
  goes_on left items s r x some h e = at_step left items s (Read (Some x) r) some h e ∙ joined items x (listed (left - 1) step r)

  pub ends : (left : ℕ) (items : List A) (s r : State) → 0 < left → Kept step total left items s → step s ≡ Read None r → total ≡ Read items r
  ends left items s r some h e = at_step left items s (Read None r) some h e ∙ ap (λ (ys : List A). Read ys r) (append-nil items)

  pub stops_there : (left : ℕ) (items : List A) (s r : State) (k : Stopped) → 0 < left → Kept step total left items s → step s ≡ Stops k r → total ≡ Stops k r
  stops_there left items s r k some h e = at_step left items s (Stops k r) some h e

  pub runs_out : (items : List A) (s : State) → Kept step total zero items s → total ≡ Stops stops.Form s
  unfolding listed
  runs_out items s h = h

  pub runs_out_at : (left : ℕ) (items : List A) (s : State) → left ≡ 0 → Kept step total left items s → total ≡ Stops stops.Form s
  runs_out_at left items s none h = runs_out items s (rw none at h)

  -- what a loop that counts up to `end` keeps

  pub kept_on : (end i : ℕ) (items longer : List A) (s r : State) (x : A) → i < end → longer ≡ items ++ x ∷ [] → Kept step total (end - i) items s → step s ≡ Read (Some x) r → Kept step total (end - (i + 1)) longer r
  kept_on end i items longer s r x below same h e =
      let next : end - i - 1 ≡ end - (i + 1) = omega arith in
      let on = goes_on (end - i) items s r x (omega arith) h e in
      rw same (rw next at on)

  pub kept_ends : (end i : ℕ) (items : List A) (s r : State) → i < end → Kept step total (end - i) items s → step s ≡ Read None r → total ≡ Read items r
  kept_ends end i items s r below h e = ends (end - i) items s r (omega arith) h e

  pub kept_stops : (end i : ℕ) (items : List A) (s r : State) (k : Stopped) → i < end → Kept step total (end - i) items s → Fails k r (step s) → Fails k r total
  kept_stops end i items s r stops.Form below h e = stops_there (end - i) items s r stops.Form (omega arith) h e
  kept_stops end i items s r stops.Number below h e = stops_there (end - i) items s r stops.Number (omega arith) h e
  kept_stops end i items s r stops.NoMemory below h e = tt

  pub kept_out : (end i : ℕ) (items : List A) (s : State) → end ≤ i → Kept step total (end - i) items s → total ≡ Stops stops.Form s
  kept_out end i items s above h = runs_out_at (end - i) items s (omega arith) h
