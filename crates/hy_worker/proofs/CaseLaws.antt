-- The worked cases.
use Rattle.std.proofs.Common.{◌≡◌, ◌≢◌, ◌⊎◌, ◌<◌, ◌≤◌, inl, inr, ℕ, zero, suc, true, false, true≢false, List, [], ◌∷◌, ◌++◌, length, map, Some, None, refl, sym, ap, subst, ◌∙◌, arith}
use Rattle.hy_frame.specs.Row.{Fields, IsRow}
use Rattle.hy_frame.specs.declared.writer.WriterState.TheVariants.{Opened}
use Rattle.hy_rest.specs.Rest.{Continues}
use Rattle.hy_job.specs.Runs.{rows_at}
use Rattle.hy_driver.specs.Rows.{Row, values_of}
use Rattle.hy_driver.proofs.Values.{fields_again}
use Rattle.hy_driver.specs.declared.phase.Phase.TheVariants.{Hungry, GivenUp}
use Rattle.hy_connect.specs.Sources.{NoneAtHand}
use Rattle.hy_connect.specs.Takers.{HaveClosed}
use Rattle.hy_input.specs.Cases.{of_many, of_one, two_rows}
use Rattle.hy_input.specs.Inputs.{Closes, Gives, GivesUp, HoldsRows, InputOf, IsSent, Wants, given, hand, has_given_up}
use Rattle.hy_input.proofs.Taking.{many_closes}
use Rattle.hy_input.proofs.CaseLaws.{rows_are_held, rows_come_one_by_one}
use Rattle.hy_worker.specs.Worker.{AllHaveEnded, IsSpent, ended_at, input_at}
use Rattle.hy_worker.specs.Cases.{AllIsLetGo, BoxesApart, EachHasEnded, FailedCloses, FaultsHaveCauses, FinishCloses, FirstOneWants, GoingOnFeeds, NewHoldNone, NothingIsKept, OffersWhatWaits, ParcelsCome, PartsLast, ReadyWithRows, RoomIsCounted, SpentHoldNone, TakesOfOneSender, TurnsAreUsed, WholeCounts, from_box, has_two, hungry, keeps_in, silent, three, works_in}
use Rattle.hy_worker.proofs.Keeping.{lasts_output, packs_none, same_rest, same_seen}

some_row : (x : Fields) (xs : List Fields) → x ∷ xs ≡ [] → ⊥
some_row x xs e = cc

goes_one : HaveClosed (false ∷ []) → ⊥
goes_one h = true≢false (sym (h 0 (omega arith)))

both_closed : HaveClosed (true ∷ true ∷ [])
both_closed zero low = refl
both_closed (suc zero) low = refl
both_closed (suc (suc s)) low = absurd (omega (arith, low))

second_goes : HaveClosed (true ∷ false ∷ []) → ⊥
second_goes h = true≢false (sym (h 1 (omega arith)))

longer : (row : Row) (rows : List Row) → row ∷ rows ≡ rows → ⊥
longer row rows e = let l = ap length e in omega (arith, l)

-- ---- inputs

pub ready_with_rows : ReadyWithRows
ready_with_rows = (
  (omega arith, refl, λ w. some_row ((2 ∷ []) ∷ []) (((1 ∷ []) ∷ []) ∷ []) w.0),
  (λ r. r.2 (refl, λ h. true≢false (sym (h 0 (omega arith))))),
  (λ r. true≢false r.1),
  (λ r. let low = r.0 in omega (arith, low)),
)

wants_not : Wants (input_at three 0) → ⊥
wants_not w = some_row ((2 ∷ []) ∷ []) (((1 ∷ []) ∷ []) ∷ []) w.0

pub first_one_wants : FirstOneWants
first_one_wants = (
  record { from_on = omega arith; there = omega arith; wants = (refl, λ h. true≢false (sym (h 0 (omega arith)))); first = before },
  (λ f. f.first 1 (omega arith) (omega arith) (refl, λ h. true≢false (sym (h 0 (omega arith))))),
  record { from_on = omega arith; there = omega arith; wants = (refl, goes_one); first = λ j above low. absurd (omega (arith, above, low)) },
  (λ f. let e = f.from_on in omega (arith, e)),
)
  where
    before : (j : ℕ) → 0 ≤ j → j < 1 → Wants (input_at three j) → ⊥
    before zero above low w = wants_not w
    before (suc j) above low w = absurd (omega (arith, low))

pub each_has_ended : EachHasEnded
each_has_ended = (all, λ h. second_goes (h 1 (omega arith)))
  where
    one : HaveClosed (true ∷ [])
    one zero low = refl
    one (suc s) low = absurd (omega (arith, low))

    all : AllHaveEnded (of_one (true ∷ []) None 0 false ∷ of_many (true ∷ true ∷ []) None 0 false ∷ [])
    all zero low = one
    all (suc zero) low = both_closed
    all (suc (suc k)) low = absurd (omega (arith, low))

pub boxes_apart : BoxesApart
boxes_apart = (apart, λ h. let e = h 0 1 (omega arith) (omega arith) 4 0 0 0 0 (refl, omega arith, refl) (refl, omega arith, refl) in omega (arith, e))
  where
    apart : (i j : ℕ) → i < 2 → j < 2 → (m n p n' p' : ℕ) → IsSent (input_at (from_box 3 ∷ from_box 4 ∷ []) i) m n p → IsSent (input_at (from_box 3 ∷ from_box 4 ∷ []) j) m n' p' → i ≡ j
    apart zero zero a b m n p n' p' s t = refl
    apart zero (suc zero) a b m n p n' p' s t = let e = sym s.0 ∙ t.0 in absurd (omega (arith, e))
    apart (suc zero) zero a b m n p n' p' s t = let e = sym s.0 ∙ t.0 in absurd (omega (arith, e))
    apart (suc zero) (suc zero) a b m n p n' p' s t = refl
    apart zero (suc (suc j)) a b m n p n' p' s t = absurd (omega (arith, b))
    apart (suc zero) (suc (suc j)) a b m n p n' p' s t = absurd (omega (arith, b))
    apart (suc (suc i)) j a b m n p n' p' s t = absurd (omega (arith, a))

pub spent_hold_none : SpentHoldNone
spent_hold_none = (
  record { done = λ e f. (one, refl); ended_holds_none = λ e. refl; given_up_holds_none = λ e. refl },
  (λ s. let e = s.ended_holds_none refl in omega (arith, e)),
  (λ s. let e = s.given_up_holds_none refl in omega (arith, e)),
  record { done = λ e f. absurd (true≢false (sym e)); ended_holds_none = λ e. absurd (true≢false (sym e)); given_up_holds_none = λ e. absurd (true≢false (sym e)) },
  (λ s. goes_one (s.done refl refl).0),
)
  where
    one : HaveClosed (true ∷ [])
    one zero low = refl
    one (suc s) low = absurd (omega (arith, low))

pub room_is_counted : RoomIsCounted
room_is_counted = (
  record { goes_on = omega arith; comes = omega arith },
  (λ r. let e = r.goes_on in omega (arith, e)),
  record { goes_on = omega arith; comes = omega arith },
  (λ r. let e = r.comes in omega (arith, e)),
)

-- ---- pipelines

pub whole_counts : WholeCounts
whole_counts = (
  record {
    unit = refl;
    size = refl;
    arity = refl;
    out = refl;
    operator = omega arith;
    room = record { goes_on = omega arith; comes = omega arith };
    few = omega arith;
    counted = refl;
    holds = holds;
    spent = spent;
    apart = apart;
    packed = λ e. absurd (cc);
  },
  (λ h. let e = h.out in omega (arith, e)),
  record { phase = refl; ended = λ k low. ended k low; going = λ k low. going k low },
  (λ h. let e = h.phase in absurd (cc)),
  (λ h. let e = h.size in omega (arith, e)),
)
  where
    holds : (k : ℕ) → k < 1 → HoldsRows (input_at (has_two ∷ []) k) 1
    holds zero low = rows_are_held.0
    holds (suc k) low = absurd (omega (arith, low))

    spent : (k : ℕ) → k < 1 → IsSpent (ended_at (false ∷ []) k) (input_at (has_two ∷ []) k)
    spent zero low = spent_hold_none.3
    spent (suc k) low = absurd (omega (arith, low))

    apart : (i j : ℕ) → i < 1 → j < 1 → (m n p n' p' : ℕ) → IsSent (input_at (has_two ∷ []) i) m n p → IsSent (input_at (has_two ∷ []) j) m n' p' → i ≡ j
    apart i j a b m n p n' p' s t = omega (arith, a, b)

    ended : (k : ℕ) → k < 1 → false ≡ ended_at (false ∷ []) k
    ended zero low = refl
    ended (suc k) low = absurd (omega (arith, low))

    going : (k : ℕ) → k < 1 → has_given_up (input_at (has_two ∷ []) k) ≡ false
    going zero low = refl
    going (suc k) low = absurd (omega (arith, low))

pub parts_last : PartsLast
parts_last = (
  lasts_output hungry (keeps_in Opened) Hungry refl refl tt,
  (λ h. let e = h.count in omega (arith, e)),
  (λ h. let e = h.arity in omega (arith, e)),
  (λ h. (h.inputs 0 (omega arith)).taker),
)

true_is_row : IsRow 1 ((2 ∷ []) ∷ [])
true_is_row = (refl, (inl (omega arith, refl), tt))

abbrev first_row : Row
first_row = values_of ((2 ∷ []) ∷ [])

abbrev rows_left : List Row
rows_left = map values_of (hand has_two) ++ rows_at 0 []

not_same : Gives has_two has_two → ⊥
not_same g = longer (values_of (given has_two)) rows_left ((g.brings 0).back [] rows_left refl)

pub going_on_feeds : GoingOnFeeds
going_on_feeds = (
  inl (record {
    row = first_row;
    values = (fields_again 1 ((2 ∷ []) ∷ []) true_is_row).0;
    width = (fields_again 1 ((2 ∷ []) ∷ []) true_is_row).2;
    feeds = record {
      others = others;
      gives = rows_come_one_by_one.0;
      row_is = refl;
      works = record {
        sound = λ s. s;
        rest = λ s. same_silent;
        alive = λ s took may. ([], refl);
        makes = λ s took may. refl;
        tested = (first_row ∷ [], refl, tt);
        served = refl;
      };
      output = refl;
    };
    kept = refl;
    ends = λ k. refl;
    phase = refl;
  }),
  (λ t. elim t [ inl f ↦ not_same f.feeds.gives | inr e ↦ goes_one e.ends_input.over.ended ]),
  (λ t. elim t [ inl f ↦ rows_come_one_by_one.1 f.feeds.gives | inr e ↦ goes_one e.ends_input.over.ended ]),
)
  where
    same_silent : Continues silent ((0, first_row) ∷ []) [] silent
    same_silent = record { back = λ took put e. e }

    others : (i : ℕ) → i ≢ 0 → input_at (of_one (false ∷ []) (Some two_rows) 1 false ∷ []) i ≡ input_at (has_two ∷ []) i
    others zero ne = absurd (ne refl)
    others (suc i) ne = refl

pub turns_are_used : TurnsAreUsed
turns_are_used = (
  (
    refl,
    (λ k. refl),
    (
      refl,
      omega arith,
      record {
        inputs = λ i. refl;
        works = record {
          sound = λ s. s;
          rest = λ s. same_rest silent;
          alive = λ s took may. ([], refl);
          makes = λ s took may. refl;
          tested = ([], refl, tt);
          served = refl;
        };
        packs = packs_none (keeps_in Opened);
      },
    ),
  ),
  (λ t. let e = t.2.1 in omega (arith, e)),
  (λ t. let e = t.2.0 in absurd (cc)),
)

pub parcels_come : ParcelsCome
parcels_come = (tt, tt, tt, (λ h. h), (λ h. h), (λ h. h))

pub finish_closes : FinishCloses
finish_closes = (
  (
    record {
      inputs = λ i. refl;
      works = same_rest silent;
      flushes = record {
        arity = refl;
        unit = refl;
        filling = refl;
        way = record { still = tt; offers = λ k low. absurd (omega (arith, low)); keeps = record { back = λ given on h. (tt, h.1) }; words = λ word far. far };
      };
    },
    refl,
    refl,
  ),
  (λ t. let e = t.1 in absurd (cc)),
)

pub offers_what_waits : OffersWhatWaits
offers_what_waits = (
  (tt, refl, refl),
  (λ t. let e = t.0 0 (omega arith) in absurd (cc)),
  (λ t. let low = t.1 in omega (arith, low)),
)

pub nothing_is_kept : NothingIsKept
nothing_is_kept = (
  record {
    inputs = inputs;
    operator = record { phase = refl; frames = refl; turns = omega arith; runs = λ h. omega arith; made = refl };
    faults = omega arith;
    fixed = refl;
    ended = refl;
    phase = refl;
    fails = record { still = tt; posts = λ k low. absurd (omega (arith, low)); words = λ word far. far };
    state = refl;
    held = refl;
  },
  (λ h. let e = (h.inputs 0 (omega arith)).held in omega (arith, e)),
  (λ h. let e = h.operator.frames in omega (arith, e)),
  (λ h. let e = h.state in absurd (cc)),
)
  where
    inputs : (k : ℕ) → k < 1 → GivesUp (input_at (has_two ∷ []) k) (input_at (of_one (false ∷ []) None 0 true ∷ []) k)
    inputs zero low = record { stays = record { from = refl; sends = λ m n p h. h; sent = λ m n p h. h }; given_up = refl; closed = λ p. refl; held = refl }
    inputs (suc k) low = absurd (omega (arith, low))

pub failed_closes : FailedCloses
failed_closes = (
  record {
    inputs = refl;
    operator = record { seen = same_seen (works_in GivenUp 5 0); phase = refl; ended = refl };
    closes = record { still = tt; offers = λ k low. absurd (omega (arith, low)); keeps = λ e. absurd (cc); words = λ word far. far };
    posts = λ k low. absurd (omega (arith, low));
    state = refl;
    held = refl;
  },
  (λ h. let e = h.state in absurd (cc)),
  (λ h. let s : IsSent (from_box 3) 4 0 0 = subst (λ (xs : List InputOf). IsSent (input_at xs 0) 4 0 0) h.inputs (refl, omega arith, refl) in let e = s.0 in omega (arith, e)),
)

same_other : (x y : InputOf) (i : ℕ) → i ≢ 0 → input_at (y ∷ []) i ≡ input_at (x ∷ []) i
same_other x y zero ne = absurd (ne refl)
same_other x y (suc i) ne = refl

second_closes : Closes 1 (of_many (false ∷ false ∷ []) None 0 false) (of_many (false ∷ true ∷ []) None 0 false)
second_closes = many_closes (record { mailbox = 4; closed = false ∷ false ∷ [] }) 1 None 0 false refl 1 (omega arith)

no_row : (rows : List Row) → rows ≡ [] → rows ≡ first_row ∷ values_of ((1 ∷ []) ∷ []) ∷ [] → ⊥
no_row rows e f = let l = ap length (sym e ∙ f) in omega (arith, l)

pub takes_of_one_sender : TakesOfOneSender
takes_of_one_sender = (
  record {
    others = λ i ne. same_other (of_many (false ∷ false ∷ []) None 0 false) (of_many (false ∷ true ∷ []) None 0 false) i ne;
    comes = λ going. record {
      others = λ i ne. same_other (of_many (false ∷ false ∷ []) None 0 false) (of_many (false ∷ true ∷ []) None 0 false) i ne;
      takes = second_closes;
      works = same_rest silent;
      output = refl;
    };
    stays = second_closes.stays;
    closes = second_closes;
    given_up = refl;
    operator = record { seen = same_seen (works_in Hungry 5 1); phase = refl; ended = refl };
    output = refl;
  },
  (λ t. let e = t.closes.closed 1 in true≢false e),
  (λ t. let e = t.closes 1 in true≢false e),
  record {
    others = λ i ne. refl;
    rests = record {
      stays = record { from = refl; sends = λ m n p h. h; sent = λ m n p h. h };
      given_up = refl;
      closed = λ p. refl;
      brings = λ k. record { back = λ took put e. e };
    };
    operator = record { seen = same_seen (works_in Hungry 5 1); phase = refl; ended = refl };
    output = refl;
  },
  (λ r. no_row [] refl ((r.rests.brings 0).back [] [] refl)),
)

pub faults_have_causes : FaultsHaveCauses
faults_have_causes = (
  (
    refl,
    inl (
      first_row,
      record {
        others = same_other has_two (of_one (false ∷ []) (Some two_rows) 1 false);
        gives = rows_come_one_by_one.0;
        row_is = refl;
        values = (fields_again 1 ((2 ∷ []) ∷ []) true_is_row).0;
        width = (fields_again 1 ((2 ∷ []) ∷ []) true_is_row).2;
        why = tt;
        output = refl;
      },
    ),
  ),
  (λ t. elim t.1 [ inl f ↦ (let e = f.1.why in omega (arith, e)) | inr f ↦ (let e = f.why in omega (arith, e)) ]),
  (refl, record { inputs = λ i. refl; turned = omega arith; why = inl (tt, refl) }),
  (λ t. elim t.1.why [ inl f ↦ (let e = f.0 in omega (arith, e)) | inr f ↦ (let e = f.0 in absurd (cc)) ]),
  record {
    want = refl;
    inputs = λ i. refl;
    works = same_rest silent;
    spoils = record { arity = refl; unit = refl; still = tt; fronts = λ k low. absurd (omega (arith, low)); words = λ word far. far };
    opened = refl;
  },
  (λ t. let e = t.want in absurd (cc)),
)

pub all_is_let_go : AllIsLetGo
all_is_let_go = (
  record { operator = refl; output = refl; inputs = gone },
  (λ h. let e = h.operator in omega (arith, e)),
  (λ h. elim (h.inputs 0 (omega arith)) [ inl e ↦ true≢false (sym e) | inr e ↦ true≢false (sym e) ]),
)
  where
    gone : (k : ℕ) → k < 1 → (ended_at (false ∷ []) k ≡ true) ⊎ (has_given_up (input_at (of_one (false ∷ []) None 0 true ∷ []) k) ≡ true)
    gone zero low = inr refl
    gone (suc k) low = absurd (omega (arith, low))

pub new_hold_none : NewHoldNone
new_hold_none = (
  (none, refl, refl),
  (λ h. let e = h.1 in omega (arith, e)),
  (λ h. let e = h.1 in omega (arith, e)),
  (λ h. true≢false h.2),
)
  where
    none : NoneAtHand (record { mailbox = 3; closed = false; frame = None; next = 1 } ∷ [])
    none zero low = refl
    none (suc s) low = absurd (omega (arith, low))
