-- The steps of the driver that builds the right side of a join.
use Rattle.std.proofs.Common.{◌≡◌, ◌↔◌, ℕ, Bool, true, false, true≢false, List, [], ◌∷◌, ◌++◌, map, Some, Ok, Err, refl, sym, ap, subst, ◌∙◌, arith, inl, inr}
use Rattle.std.specs.Prelude.{◌==◌, ◌||◌, OnOk, Result, Option, None, nat_eq}
use Rattle.std.specs.List.Sorted.{IsPermutation}
use Rattle.std.proofs.lemmas.Bool.{cases_Bool}
use Rattle.std.proofs.lemmas.Bool.Decides.{Decides-eqb}
use Rattle.std.proofs.lemmas.List.Sorted.{IsPermutation-refl, IsPermutation-append_right, length_permutation}
use Rattle.al_value.specs.Outside.{Rose, Told}
use Rattle.hy_frame.specs.Row.{Fields}
use Rattle.hy_rest.specs.Rest.{Continues, Alive, FinishedWith}
use Rattle.hy_store.specs.declared.fault.Next.{Next}
use Rattle.hy_store.specs.declared.fault.Next.TheVariants as N
use Rattle.hy_store.specs.declared.fault.OpFault.{OpFault}
use Rattle.hy_store.specs.declared.fault.OpFault.TheVariants as F
use Rattle.hy_driver.specs.Rows.{Row, Fed}
use Rattle.hy_driver.specs.Seen.{StoreOf}
use Rattle.hy_driver.specs.Forms.{may_come, one_ended}
use Rattle.hy_driver.specs.Steps.{IsNew, MayCome, Steps, TellsEnded, TellsFault, TellsFed, TellsNext, TellsTurn, ended_with}
use Rattle.hy_driver.specs.Handing.{HandedOn, handed_rows}
use Rattle.hy_driver.specs.Keep.{keep_seen}
use Rattle.hy_driver.specs.Pass.{pass_out}
use Rattle.hy_driver.specs.declared.handed.Handed.{Handed}
use Rattle.hy_driver.specs.declared.keep.KeepRows.{KeepRows}
use Rattle.hy_job.specs.Drivers.{received_of}
use Rattle.hy_join.specs.Build.{in_any_order, build_seen}

-- ---- what may still be handed on

goes_on : (ended ended' : Bool) (rest rest' : List Fed → List Row → Type 0) (fed : List Fed) (sent : List Row) → (ended' ≡ false → ended ≡ false)
    → Continues rest fed sent rest' → Continues (in_any_order ended rest) fed sent (in_any_order ended' rest')
goes_on true true rest rest' fed sent less h = record { back = λ took put is. h.back took put is }
goes_on false true rest rest' fed sent less h = record { back = λ took put is. (sent ++ put, h.back took put is, IsPermutation-refl (sent ++ put)) }
goes_on false false rest rest' fed sent less h = record { back = λ took put is. (sent ++ is.0, h.back took is.0 is.1, IsPermutation-append_right sent is.0 put is.2) }
goes_on true false rest rest' fed sent less h = absurd (true≢false (less refl))

lives : (ended : Bool) (may : List Fed → Type 0) (rest : List Fed → List Row → Type 0) → Alive may rest → Alive may (in_any_order ended rest)
lives true may rest alive took h = alive took h
lives false may rest alive took h = let q = alive took h in (q.0, (q.0, q.1, IsPermutation-refl q.0))

finishes : (ended : Bool) (last : List Row) (rest : List Fed → List Row → Type 0) → ended ≡ true → FinishedWith last rest → FinishedWith last (in_any_order ended rest)
finishes true last rest all h = record { some = h.some; only = h.only }
finishes false last rest all h = absurd (true≢false (sym all))

-- ---- the rows that come at the only input

pub first_input : (input : ℕ) → one_ended false input ≡ false → input ≡ 0
first_input input h =
    elim (cases_Bool (input == 0)) [
      | inl here ↦ (Decides-eqb input 0).0 here
      | inr other ↦ let over : one_ended false input ≡ true = rw other refl in absurd (true≢false (sym over ∙ h))
    ]

-- what comes at the first input is received there
pub received_first : (input : ℕ) (row : Row) (took : List Fed) → one_ended false input ≡ false → received_of ((input, row) ∷ took) 0 ≡ row ∷ received_of took 0
received_first input row took h = rw (ap (λ n. nat_eq n 0) (first_input input h)) refl

all_received : (width : ℕ → ℕ) (took : List Fed) → may_come (one_ended false) width took → map (λ x. x.1) took ≡ received_of took 0
all_received width [] h = refl
all_received width (x ∷ took) h = ap (λ (rows : List Row). x.1 ∷ rows) (all_received width took h.1) ∙ sym (received_first x.0 x.1 took h.0.0)

-- ---- steps

module _ (kept kept' : KeepRows) (store : StoreOf) where
  -- a step of the one that keeps all rows is one of the build
  pub build_steps : (fed : List Fed) (sent : List Row) → (kept'.ended ≡ false → kept.ended ≡ false) → Steps (keep_seen kept) fed sent (keep_seen kept') → Steps (build_seen kept store) fed sent (build_seen kept' store)
  build_steps fed sent less s = record {
    sound = s.sound;
    rest = λ h. goes_on kept.ended kept'.ended (keep_seen kept).rest (keep_seen kept').rest fed sent less (s.rest h);
    alive = λ h. lives kept'.ended (MayCome (keep_seen kept')) (keep_seen kept').rest (s.alive h);
    makes = λ h took may. refl;
    tested = s.tested;
    served = refl;
  }

  build_faulted : (rows : List Row) (fault : OpFault) → TellsFault (keep_seen kept) rows (keep_seen kept') fault → TellsFault (build_seen kept store) rows (build_seen kept' store) fault
  build_faulted rows (F.Check name) h = h
  build_faulted rows F.Store h = absurd (never h)
    where
      never : Rose 0 0 → ⊥
      never rose = omega (arith, rose)
  build_faulted rows F.NoMemory h = tt

  pub build_fed : (fed : Fed) (result : Result Unit OpFault) → OnOk result ((k : ℕ) → (keep_seen kept').ended k ≡ (keep_seen kept).ended k) → TellsFed (keep_seen kept) fed (keep_seen kept') result
      → TellsFed (build_seen kept store) fed (build_seen kept' store) result
  build_fed fed (Ok x) same told = build_steps (fed ∷ []) [] (λ e. sym (same 0) ∙ e) told
  build_fed fed (Err fault) same told = build_faulted (fed.1 ∷ []) fault told

  pub build_ended : (input : ℕ) (result : Result Unit OpFault) → OnOk result ((k : ℕ) → (keep_seen kept').ended k ≡ ended_with (keep_seen kept).ended input k) → TellsEnded (keep_seen kept) (keep_seen kept') result
      → TellsEnded (build_seen kept store) (build_seen kept' store) result
  build_ended input (Ok x) same told = build_steps [] [] (λ e. later (0 == input) kept.ended (sym (same 0) ∙ e)) told
    where
      later : (b c : Bool) → (b || c) ≡ false → c ≡ false
      later false c e = e
      later true c e = absurd (true≢false e)
  build_ended input (Err fault) same told = build_faulted [] fault told

  build_turned : (out : Fields) (next : Next) → ((k : ℕ) → (keep_seen kept').ended k ≡ (keep_seen kept).ended k) → TellsTurn (keep_seen kept) out (keep_seen kept') next
      → TellsTurn (build_seen kept store) out (build_seen kept' store) next
  build_turned out N.Row same told =
      (told.0, told.1, (told.2.0, told.2.1, told.2.2, told.2.3, build_steps [] (told.2.0 ∷ []) (λ e. sym (same 0) ∙ e) told.2.4))
  build_turned out N.Work same told = (told.0, told.1, build_steps [] [] (λ e. sym (same 0) ∙ e) told.2)
  build_turned out N.NeedInput same told = (told.0, told.1, told.2, build_steps [] [] (λ e. sym (same 0) ∙ e) told.3, told.4)
  build_turned out N.End same told = (
    told.0,
    told.1,
    told.2,
    build_steps [] [] (λ e. sym (same 0) ∙ e) told.3,
    told.4,
    told.5,
    λ h. record { finished = finishes kept'.ended (keep_seen kept').hands_on (keep_seen kept').rest (told.4 0) (told.6 h).finished; makes = refl },
  )

  pub build_next : (out : Fields) (result : Result Next OpFault) → OnOk result ((k : ℕ) → (keep_seen kept').ended k ≡ (keep_seen kept).ended k) → TellsNext (keep_seen kept) out (keep_seen kept') result
      → TellsNext (build_seen kept store) out (build_seen kept' store) result
  build_next out (Ok next) same told = build_turned out next same told
  build_next out (Err fault) same told = (told.0, build_faulted [] fault told.1)

module _ (kept : KeepRows) (store : StoreOf) where
  none_of : (runs : List ℕ) → IsPermutation [] runs → runs ≡ []
  none_of [] p = refl
  none_of (run ∷ runs) p = absurd (omega (arith, length_permutation [] (run ∷ runs) p))

  -- its rows do not depend on what a store holds, where it hands no run on
  told_rows : (held : Option (ℕ → List _)) (rows : List Fields) (h : Handed) → h.runs ≡ [] → rows ≡ handed_rows h (λ run. []) → Told held (λ held. rows ≡ handed_rows h held)
  told_rows None rows h none is = tt
  told_rows (Some held) rows h none is = is ∙ same h.runs none
    where
      same : (runs : List ℕ) → runs ≡ [] → handed_rows h (λ run. []) ≡ handed_rows h held
      same runs e = rw none refl

  pub build_hands : (h : Handed) → store.runs.live ≡ [] → HandedOn (keep_seen kept) h → HandedOn (build_seen kept store) h
  build_hands h none on = record {
    frames = on.frames;
    shape = on.shape;
    fit = on.fit;
    runs = λ e. subst (λ (live : List ℕ). IsPermutation live h.runs) (sym none) (on.runs e);
    shapes = λ e. rw (none_of h.runs (on.runs e)) tt;
    rows = λ e sound. told_rows store.runs.held _ h (none_of h.runs (on.runs e)) (on.rows e sound);
    none = on.none;
  }

-- a new one hands on the rows that come, in any order
pub build_new : (kept : KeepRows) (store : StoreOf) → IsNew (keep_seen kept) pass_out → kept.ended ≡ false
    → IsNew (build_seen kept store) (λ took put. IsPermutation (received_of took 0) put)
build_new kept store new open_ = record {
  phase = new.phase;
  frames = new.frames;
  untested = new.untested;
  rest = λ h took put. may_hand kept.ended open_ (new.rest h) took put;
  alive = λ h. lives kept.ended (MayCome (keep_seen kept)) (keep_seen kept).rest (new.alive h);
}
  where
    may_hand : (ended : Bool) → ended ≡ false → ((took : List Fed) (put : List Row) → (keep_seen kept).rest took put ↔ (may_come (one_ended kept.ended) (keep_seen kept).fixed.width took × pass_out took put))
        → (took : List Fed) (put : List Row) → in_any_order ended (keep_seen kept).rest took put ↔ (may_come (one_ended kept.ended) (keep_seen kept).fixed.width took × IsPermutation (received_of took 0) put)
    may_hand true e is took put = absurd (true≢false e)
    may_hand false e is took put = (
      λ h. let q = (is took h.0).0 h.1 in
          (q.0, subst (λ (rows : List Row). IsPermutation rows put) (q.1 ∙ received took q.0) h.2),
      λ h. (map (λ x. x.1) took, (is took (map (λ x. x.1) took)).1 (h.0, refl), subst (λ (rows : List Row). IsPermutation rows put) (sym (received took h.0)) h.1),
    )
      where
        received : (took : List Fed) → may_come (one_ended kept.ended) (keep_seen kept).fixed.width took → map (λ x. x.1) took ≡ received_of took 0
        received took may = all_received (keep_seen kept).fixed.width took (subst (λ (b : Bool). may_come (one_ended b) (keep_seen kept).fixed.width took) open_ may)
