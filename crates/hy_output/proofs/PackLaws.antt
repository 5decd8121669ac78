-- How rows are packed.
use Rattle.std.proofs.Common.{◌≡◌, ◌<◌, ◌≤◌, ◌+◌, ℕ, List, [], ◌∷◌, ◌++◌, map, length, refl, sym, ap, subst, ◌∙◌, append-nil, append_assoc, Option, None, Some, Result, Ok, Err, OnErr, arith}
use Rattle.hy_frame.specs.Bank.{BankOf}
use Rattle.hy_frame.specs.Frame.{FrameOf}
use Rattle.hy_frame.specs.Row.{Fields}
use Rattle.hy_frame.specs.declared.writer.WriterState.{WriterState}
use Rattle.hy_frame.specs.declared.writer.WriterState.TheVariants.{Initial, Opened, Failed, Closed}
use Rattle.hy_driver.specs.Rows.{Row, values_of}
use Rattle.hy_connect.specs.Routes.{sent_by}
use Rattle.hy_connect.specs.Outlets.{OutletOf, Lent, filled_rows, held_in, held_of, owed_rows, waiting_rows}
use Rattle.hy_connect.specs.Writers.{MayGive, WriterOf, may_offer, outlet, receivers}
use Rattle.hy_output.specs.declared.way.Way.{Way}
use Rattle.hy_output.specs.declared.way.Way.TheVariants as W
use Rattle.hy_output.specs.Ways.{Sends, Stays, held_by, most_of, offers, places, rows_waiting}
use Rattle.hy_output.specs.Outputs.{Begins, Flushes, Loses, OutputOf, Packs, Spoils, held, packed}
use Rattle.hy_output.proofs.WayLaws.{front_more}

-- ---- what waits is a front

no_more : (s : WriterState) → MayGive s []
no_more Initial = tt
no_more Opened = tt
no_more Failed = refl
no_more Closed = refl

owes_now : (w : WriterOf) (k : ℕ) → may_offer w k [] (owed_rows (outlet w k) ++ sent_by w.route (receivers w) k [])
owes_now w k = (no_more w.state, record { rest = sent_by w.route (receivers w) k []; output = refl; is = refl })

-- what a writer offers now to a receiver, it might have offered before for rows that went on
wire_fronts : (w w' : WriterOf) (rows : List Row) → Sends (W.Wire w) rows (W.Wire w') → (k : ℕ) → k < receivers w → (given put : List Row) → may_offer w k (rows ++ given) put
    → (rest : List Row) × (put ≡ waiting_rows (outlet w' k) ++ rest)
wire_fronts w w' rows h k low given put may =
    let back = (h.offers k low).back [] (owed_rows (outlet w' k) ++ sent_by w'.route (receivers w') k []) (owes_now w' k) in
    let now : owed_rows (outlet w k) ++ sent_by w.route (receivers w) k (rows ++ []) ≡ owed_rows (outlet w' k) ++ sent_by w'.route (receivers w') k [] =
    sym (back.1.is ∙ ap (λ (r : List Row). owed_rows (outlet w k) ++ r) back.1.output) in
    let short : owed_rows (outlet w k) ++ sent_by w.route (receivers w) k rows ≡ waiting_rows (outlet w' k) ++ (filled_rows (outlet w' k).filling ++ sent_by w'.route (receivers w') k []) =
    ap (λ (r : List Row). owed_rows (outlet w k) ++ sent_by w.route (receivers w) k r) (sym (append-nil rows)) ∙ now
    ∙ append_assoc (waiting_rows (outlet w' k)) (filled_rows (outlet w' k).filling) (sent_by w'.route (receivers w') k []) in (
      (filled_rows (outlet w' k).filling ++ sent_by w'.route (receivers w') k []) ++ sent_by w.route (receivers w) k given,
      front_more (owed_rows (outlet w k)) rows given (waiting_rows (outlet w' k)) (filled_rows (outlet w' k).filling ++ sent_by w'.route (receivers w') k []) put w.route (receivers w) k short
          (may.1.is ∙ ap (λ (r : List Row). owed_rows (outlet w k) ++ r) may.1.output),
    )

sends_fronts : (old new : Way) (rows : List Row) → Sends old rows new → (k : ℕ) → k < places old → (given put : List Row) → offers old k (rows ++ given) put
    → (rest : List Row) × (put ≡ rows_waiting new k ++ rest)
sends_fronts (W.Wire w) (W.Wire w') rows h k low given put may = wire_fronts w w' rows h k low given put may
sends_fronts (W.Kept a) (W.Kept b) rows h k low given put may = absurd (omega (arith, low))
sends_fronts (W.Wire w) (W.Kept b) rows h k low given put may = absurd h.still
sends_fronts (W.Kept a) (W.Wire w') rows h k low given put may = absurd (omega (arith, low))

-- ---- a row

pub flush_spoils : (old mid new : OutputOf) (rows : List Row) → mid ≡ old → Loses mid new → Spoils old rows new
flush_spoils old mid new rows same h = subst (λ (o : OutputOf). Spoils o rows new) same (record {
  arity = h.arity;
  unit = h.unit;
  still = h.way.still;
  fronts = λ k low given put may. h.way.fronts k low (rows ++ given) put (subst (λ (r : List Row). offers mid.way k r put) (append_assoc (packed mid) rows given) may);
  words = h.way.words;
})

pub begin_packs : (old mid flushed new : OutputOf) (row : Fields) → mid ≡ old → Flushes mid flushed → Begins flushed row new → Packs old (values_of row ∷ []) new
begin_packs old mid flushed new row same h b = subst (λ (o : OutputOf). Packs o (values_of row ∷ []) new) same (record {
  arity = ap (λ (o : OutputOf). o.arity) b.is ∙ h.arity;
  unit = ap (λ (o : OutputOf). o.unit) b.is ∙ h.unit;
  written = packed mid;
  is = ap (λ (r : List Row). packed mid ++ r) (sym (ap packed b.is ∙ ap (map values_of) b.rows));
  way = subst (λ (w : Way). Sends mid.way (packed mid) w) (sym (ap (λ (o : OutputOf). o.way) b.is)) h.way;
})

pub begin_spoils : (old mid flushed new : OutputOf) (rows : List Row) → mid ≡ old → Flushes mid flushed → new ≡ flushed → Spoils old rows new
begin_spoils old mid flushed new rows same h is = subst (λ (o : OutputOf). Spoils o rows new) same (subst (λ (o : OutputOf). Spoils mid rows o) (sym is) (record {
  arity = h.arity;
  unit = h.unit;
  still = h.way.still;
  fronts = λ k low given put may. sends_fronts mid.way flushed.way (packed mid) h.way k low (rows ++ given) put (subst (λ (r : List Row). offers mid.way k r put) (append_assoc (packed mid) rows given) may);
  words = h.way.words;
}))

pub err_given : {T E P : Type 0} (r : Result T E) → P → OnErr r P
err_given (Ok x) p = tt
err_given (Err e) p = p

-- ---- room

held_most : (os : List OutletOf) → held_of os ≤ length os
held_most [] = omega arith
held_most (o ∷ os) = let a = held_most os in let b = held_in_one o.filling in omega arith
  where
    held_in_one : (f : Option FrameOf) → held_in f ≤ 1
    held_in_one None = omega arith
    held_in_one (Some f) = omega arith

-- a way that stays holds at most as many frames as it may need
holds_most : (old new : Way) → Stays old new → held_by new ≤ most_of old
holds_most (W.Wire w) (W.Wire w') s = let a = held_most w'.outlets in let b = s.count in omega arith
holds_most (W.Kept a) (W.Kept b) s = omega arith
holds_most (W.Wire w) (W.Kept b) s = absurd s
holds_most (W.Kept a) (W.Wire w') s = absurd s

-- once what was packed has gone on there is room for a frame
pub room_left : (old mid new : OutputOf) (bank bank' : BankOf) → mid ≡ old → Flushes mid new → bank.out + most_of old.way + 1 ≤ bank.limit + held_in old.filling → Lent (held mid) (held new) bank bank' → bank'.out < bank'.limit
room_left old mid new bank bank' same h room lent =
    let a = holds_most mid.way new.way h.way.still in
    let b = ap (λ (o : OutputOf). held o) same in
    let c = ap (λ (o : OutputOf). most_of o.way) same in
    let d = ap held_in h.filling in
    let e = lent.out in
    let f = lent.limit in
    omega arith
