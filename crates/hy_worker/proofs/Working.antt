-- What a turn of the operator and going on at an input tell.
use Rattle.std.proofs.Common.{◌≡◌, ◌<◌, ◌≤◌, ◌+◌, inl, inr, ℕ, Bool, true, false, List, [], ◌∷◌, length, set, Ok, Err, refl, sym, ap, subst, ◌∙◌, arith, get_or, length-set}
use Rattle.hy_frame.specs.Bank.{BankOf}
use Rattle.hy_frame.specs.Row.{Fields, IsRow}
use Rattle.hy_store.specs.declared.fault.Next.TheVariants as N
use Rattle.hy_store.specs.declared.fault.OpFault.{OpFault}
use Rattle.hy_store.specs.declared.fault.OpFault.TheVariants as F
use Rattle.hy_store.specs.Fields.{fields_of}
use Rattle.hy_driver.specs.Rows.{AreValues, Row, values_of}
use Rattle.hy_driver.specs.Seen.{Seen}
use Rattle.hy_driver.specs.Steps.{Gives as OperatorGives, HasRoom as OperatorHasRoom, IsBankOf, Steps, TellsEnded, TellsFed, TellsNext as OperatorTellsNext, TellsTurn, ended_with}
use Rattle.hy_driver.specs.declared.phase.Phase.{Phase}
use Rattle.hy_driver.specs.declared.phase.Phase.TheVariants as H
use Rattle.hy_driver.proofs.Values.{fields_again, values_again}
use Rattle.hy_connect.specs.Outlets.{Lent, held_in}
use Rattle.hy_output.specs.Ways.{most_of}
use Rattle.hy_output.specs.Outputs.{OutputOf, Packs, Spoils}
use Rattle.hy_connect.specs.Sources.{Returns}
use Rattle.hy_input.specs.Inputs.{Gives, HoldsRows, InputOf, IsOver, IsStill, KeepsRows, TellsAdvanced, given, has_given_up, held}
use Rattle.hy_pipeline.specs.Laws.{OthersStay, TurnsOnce}
use Rattle.hy_worker.specs.Worker.{IsInStep, IsReady, IsSpent, IsWhole, WorkerOf, input_at, pipeline, worker_of}
use Rattle.hy_worker.specs.Calls.{EndsStay, OperatorWent, TellsTurned, TellsWent}
use Rattle.hy_worker.proofs.Inputs.{by_place, keep_input, read_input, set_input}
use Rattle.hy_worker.proofs.Keeping.{input_held, not_spent, operator_bank, operator_room, packs_none, way_most, whole_ended, whole_input, whole_operator, within}

-- ---- a turn

module _ (w : WorkerOf) (s' : Seen) (p' : Phase) (st ha : Bool) (out : Fields) (ends : EndsStay w.operator s') where
  abbrev behind : OutputOf → WorkerOf
  behind o' = worker_of w.inputs s' o' w.ended p' st ha

  once : Steps w.operator [] [] s' → TurnsOnce [] (pipeline w) (pipeline (behind w.output))
  once steps = record { inputs = λ i. refl; works = steps; packs = packs_none w.output }

  pub turned_work : TellsTurn w.operator out s' N.Work → TellsTurned w (behind w.output) (Ok N.Work)
  turned_work t = (refl, ends, (t.0, t.1, once t.2))

  pub turned_need : TellsTurn w.operator out s' N.NeedInput → TellsTurned w (behind w.output) (Ok N.NeedInput)
  turned_need t = (refl, ends, (t.0, t.1, t.2, once t.3, t.4))

  pub turned_end : TellsTurn w.operator out s' N.End → TellsTurned w (behind w.output) (Ok N.End)
  turned_end t = (refl, ends, (t.0, t.1, t.2, once t.3, t.4, t.5, t.6))

  row_is : (g : OperatorGives w.operator out s') → values_of out ≡ g.0
  row_is g = sym (ap values_of g.3) ∙ values_again g.0 g.1

  pub turned_row : (o' : OutputOf) → TellsTurn w.operator out s' N.Row → Packs w.output (values_of out ∷ []) o' → TellsTurned w (behind o') (Ok N.Row)
  turned_row o' t packs =
      let g = t.2 in
      (refl, ends, (t.0, t.1, (g.0, g.1, g.2, record { inputs = λ i. refl; works = g.4; packs = subst (λ (r : Row). Packs w.output (r ∷ []) o') (row_is g) packs })))

  pub row_unpacked : (o' : OutputOf) → TellsTurn w.operator out s' N.Row → Spoils w.output (values_of out ∷ []) o' → TellsTurned w (behind o') (Err F.NoMemory)
  row_unpacked o' t spoils =
      let g = t.2 in (
        refl,
        record {
          inputs = λ i. refl;
          turned = t.1;
          why = inr (refl, (g.0, record { values = g.1; works = g.4; ends = ends; spoils = subst (λ (r : Row). Spoils w.output (r ∷ []) o') (row_is g) spoils }));
        },
      )

pub turn_faults : (w : WorkerOf) (s' : Seen) (p' : Phase) (st ha : Bool) (out : Fields) (fault : OpFault) → OperatorTellsNext w.operator out s' (Err fault) → TellsTurned w (worker_of w.inputs s' w.output w.ended p' st ha) (Err fault)
turn_faults w s' p' st ha out fault t = (refl, record { inputs = λ i. refl; turned = t.0; why = inl (t.1, refl) })

pub room_to_pack : (w : WorkerOf) (bank : BankOf) → IsWhole w bank → bank.out + most_of w.output.way + 1 ≤ bank.limit + held_in w.output.filling
room_to_pack w bank whole =
    let a = whole.out in
    let b = way_most w.output.way in
    let c = within w bank whole in
    let d = whole.room.goes_on in
    let e = whole.operator in
    omega arith

pub in_step : (w : WorkerOf) (s' : Seen) (o' : OutputOf) (p' : Phase) (st ha : Bool) → IsInStep w → p' ≡ s'.phase → EndsStay w.operator s' → IsInStep (worker_of w.inputs s' o' w.ended p' st ha)
in_step w s' o' p' st ha step phase ends = record { phase = phase; ended = λ k low. ends k ∙ step.ended k low; going = step.going }

-- ---- going on at an input

module _ (w : WorkerOf) (k : ℕ) (x' : InputOf) (low : k < length w.inputs) where
  others : (s' : Seen) (e' : List Bool) (p' : Phase) (st ha : Bool) → OthersStay k (pipeline w) (pipeline (worker_of (set w.inputs k x') s' w.output e' p' st ha))
  others s' e' p' st ha i ne = keep_input w.inputs k i x' ne

  here : input_at (set w.inputs k x') k ≡ x'
  here = set_input w.inputs k x' low

  pub going_on : ((i : ℕ) → i < length w.inputs → has_given_up (input_at w.inputs i) ≡ false) → has_given_up x' ≡ has_given_up (input_at w.inputs k)
      → (i : ℕ) → i < length w.inputs → has_given_up (input_at (set w.inputs k x') i) ≡ false
  going_on going same = by_place w.inputs k x' low (λ i y. i < length w.inputs → has_given_up y ≡ false) (λ l. same ∙ going k l) (λ i ne l. going i l)

  module _ (s' : Seen) (st ha : Bool) where
    pub went_fed : (p' : Phase) → Gives (input_at w.inputs k) x' → IsRow (w.operator.fixed.width k) (given x')
        → ((values : Row) → AreValues values → fields_of values ≡ given x' → TellsFed w.operator (k, values) s' (Ok tt)) → EndsStay w.operator s' → s'.phase ≡ H.Working
        → TellsWent k w (worker_of (set w.inputs k x') s' w.output w.ended p' st ha) (Ok tt)
    went_fed p' gives is told ends phase =
        let v = fields_again (w.operator.fixed.width k) (given x') is in inl (record {
          row = values_of (given x');
          values = v.0;
          width = v.2;
          feeds = record {
            others = others s' w.ended p' st ha;
            gives = subst (Gives (input_at w.inputs k)) (sym here) gives;
            row_is = ap (λ (y : InputOf). values_of (given y)) here;
            works = told (values_of (given x')) v.0 v.1;
            output = refl;
          };
          kept = refl;
          ends = ends;
          phase = phase;
        })

    pub feed_fails : (p' : Phase) (fault : OpFault) → Gives (input_at w.inputs k) x' → IsRow (w.operator.fixed.width k) (given x')
        → ((values : Row) → AreValues values → fields_of values ≡ given x' → TellsFed w.operator (k, values) s' (Err fault))
        → TellsWent k w (worker_of (set w.inputs k x') s' w.output w.ended p' st ha) (Err fault)
    feed_fails p' fault gives is told =
        let v = fields_again (w.operator.fixed.width k) (given x') is in (
          refl,
          inl (
            values_of (given x'),
            record {
              others = others s' w.ended p' st ha;
              gives = subst (Gives (input_at w.inputs k)) (sym here) gives;
              row_is = ap (λ (y : InputOf). values_of (given y)) here;
              values = v.0;
              width = v.2;
              why = told (values_of (given x')) v.0 v.1;
              output = refl;
            },
          ),
        )

    pub went_ended : (p' : Phase) → IsOver (input_at w.inputs k) x' → TellsEnded w.operator s' (Ok tt) → ((j : ℕ) → s'.ended j ≡ ended_with w.operator.ended k j) → s'.phase ≡ w.operator.phase
        → TellsWent k w (worker_of (set w.inputs k x') s' w.output (set w.ended k true) p' st ha) (Ok tt)
    went_ended p' over told ends phase = inr (record {
      ends_input = record { others = others s' (set w.ended k true) p' st ha; over = subst (IsOver (input_at w.inputs k)) (sym here) over; works = told; output = refl };
      kept = refl;
      ends = ends;
      phase = phase;
    })

    pub end_fails : (p' : Phase) (fault : OpFault) → IsOver (input_at w.inputs k) x' → TellsEnded w.operator s' (Err fault)
        → TellsWent k w (worker_of (set w.inputs k x') s' w.output w.ended p' st ha) (Err fault)
    end_fails p' fault over told = (
      refl,
      inr (record { others = others s' w.ended p' st ha; over = subst (IsOver (input_at w.inputs k)) (sym here) over; why = told; output = refl }),
    )

-- ---- the bank while it goes on

advanced_up : (x x' : InputOf) (b : Bool) → TellsAdvanced x x' b → has_given_up x' ≡ has_given_up x
advanced_up x x' true t = t.given_up
advanced_up x x' false t = t.rests.given_up

pub lent_back : (a b : ℕ) (bank bank' : BankOf) → Returns a b bank bank' → Lent a b bank bank'
lent_back a b bank bank' r = record { out = r.out; unit = r.unit; limit = r.limit }

pub index_held : (w : WorkerOf) (bank : BankOf) (k : ℕ) (d : InputOf) → IsWhole w bank → k < length w.inputs → d ≡ get_or w.inputs k d → held d ≤ bank.out
index_held w bank k d whole low is = subst (λ (x : InputOf). held x ≤ bank.out) (sym (is ∙ read_input w.inputs k d low)) (input_held w bank whole k low)

module _ (w : WorkerOf) (bank bank1 : BankOf) (k : ℕ) (d x' : InputOf) (b : Bool) (ready : IsReady w k) (whole : IsWhole w bank) (step : IsInStep w) (is : d ≡ get_or w.inputs k d) (told : TellsAdvanced d x' b)
    (still : IsStill d x') (rows : (width : ℕ) → HoldsRows d width → KeepsRows width d x' b) (back : Returns (held d) (held x') bank bank1) where
  same : d ≡ input_at w.inputs k
  same = is ∙ read_input w.inputs k d ready.0

  pub went_told : TellsAdvanced (input_at w.inputs k) x' b
  went_told = subst (λ (y : InputOf). TellsAdvanced y x' b) same told

  up : has_given_up x' ≡ has_given_up (input_at w.inputs k)
  up = advanced_up (input_at w.inputs k) x' b went_told

  kept : KeepsRows (w.operator.fixed.width k) (input_at w.inputs k) x' b
  kept = subst (λ (y : InputOf). HoldsRows y (w.operator.fixed.width k) → KeepsRows (w.operator.fixed.width k) y x' b) same (rows (w.operator.fixed.width k)) (whole.holds k ready.0)

  pub went_row : b ≡ true → IsRow (w.operator.fixed.width k) (given x')
  went_row = kept.row

  abbrev behind_it : WorkerOf
  behind_it = worker_of (set w.inputs k x') w.operator w.output w.ended w.phase w.stored w.hands

  pub went_whole : IsWhole behind_it bank1
  went_whole = whole_input w bank whole k ready.0 x' bank1 (subst (λ (y : InputOf). IsStill y x') same still) kept.holds
      (subst (λ (e : Bool). IsSpent e x') (sym ready.1) (not_spent x' (up ∙ step.going k ready.0)))
      (subst (λ (y : InputOf). Lent (held y) (held x') bank bank1) same (lent_back (held d) (held x') bank bank1 back))

  pub went_bank : IsBankOf w.operator bank1
  went_bank = operator_bank behind_it bank1 went_whole

  pub went_room : OperatorHasRoom w.operator bank1
  went_room = operator_room behind_it bank1 went_whole

  pub went_going : (i : ℕ) → i < length w.inputs → has_given_up (input_at (set w.inputs k x') i) ≡ false
  went_going = going_on w k x' ready.0 step.going up

  module _ (s' : Seen) (p' : Phase) (st ha : Bool) (bank2 : BankOf) (o : OperatorWent w.operator s' bank1 bank2) where
    pub fed_whole : IsWhole (worker_of (set w.inputs k x') s' w.output w.ended p' st ha) bank2
    fed_whole = whole_operator behind_it bank1 went_whole s' p' st ha bank2 o

    pub ended_whole : IsOver (input_at w.inputs k) x' → b ≡ false → IsWhole (worker_of (set w.inputs k x') s' w.output (set w.ended k true) p' st ha) bank2
    ended_whole over none = whole_ended (worker_of (set w.inputs k x') s' w.output w.ended p' st ha) bank2 fed_whole k (subst (λ (n : ℕ). k < n) (sym (length-set w.inputs k x')) ready.0)
        (subst (IsSpent true) (sym (set_input w.inputs k x' ready.0)) (record {
          done = λ e f. over.done;
          ended_holds_none = λ e. kept.empty none;
          given_up_holds_none = λ e. kept.empty none;
        }))
