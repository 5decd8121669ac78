-- The parts of a task at its beginning, before its end and at it.
use Rattle.std.proofs.Common.{◌≡◌, ◌<◌, ◌⊎◌, inl, inr, ℕ, nat_eq, true, false, List, [], ◌∷◌, ◌++◌, refl, ap, sym, subst, ◌∙◌, arith}
use Rattle.std.specs.List.{AllByRecursion, flat_map}
use Rattle.hy_job.specs.declared.job.Edge.{Edge}
use Rattle.hy_job.specs.declared.job.Wire.{Wire}
use Rattle.hy_job.specs.declared.job.Wire.TheVariants as J
use Rattle.hy_job.specs.Columns.{Row}
use Rattle.hy_job.specs.Runs as R
use Rattle.hy_job.specs.Runs.{kept_by, sent_over}
use Rattle.hy_job.specs.Sound.{edges_from}
use Rattle.hy_job.proofs.Boxes.{is_nat}
use Rattle.hy_job.proofs.Members.{by_cases, nat_same, no_bool}
use Rattle.hy_places.specs.Places.{receiver_at, receivers_count}
use Rattle.hy_connect.specs.declared.route.Route.{Route}
use Rattle.hy_connect.specs.declared.route.Route.TheVariants as ByRoute
use Rattle.hy_connect.specs.Routes.{route_of, sent_by}
use Rattle.hy_connect.specs.Outlets.{owed_rows}
use Rattle.hy_connect.specs.Writers.{WriterOf, may_offer, outlet, receivers}
use Rattle.hy_output.specs.declared.way.Way.{Way}
use Rattle.hy_output.specs.declared.way.Way.TheVariants as W
use Rattle.hy_output.specs.Keeper.{frame_rows, kept_rows}
use Rattle.hy_output.specs.Ways.{offers, places}
use Rattle.hy_pipeline.specs.Pipeline.{AreApart, OffersTo, PipelineOf, keeps_on}
use Rattle.hy_pipeline.specs.Laws.{EndedRests, IsNewWay, IsNewWriter, Leaves, LivingAreAlive, NewAreNew, OwesNothing, TakesMore}
use Rattle.hy_pipeline.proofs.StepLaws.{found, no_more}

-- ---- at the beginning

routes : (wire : Wire) (n j k : ℕ) (rows : List Row) → sent_by (route_of wire) (receivers_count wire n) k rows ≡ sent_over wire n j (receiver_at wire j k) rows
routes J.OneToOne n j k rows = rw (nat_same j) refl
routes (J.Hash columns) n j k rows = refl
routes J.Broadcast n j k rows = refl
routes J.Gather n j k rows = refl
routes (J.Merge keys) n j k rows = refl

-- a place is for the receiver, or none is, and the wire sends it nothing
abbrev Reached : Wire → ℕ → ℕ → ℕ → Type 0
Reached wire n j r = ((k : ℕ) × (k < receivers_count wire n) × (receiver_at wire j k ≡ r)) ⊎ (((k : ℕ) → receiver_at wire j k ≡ r → ⊥) × ((rows : List Row) → sent_over wire n j r rows ≡ []))

unlike : (a b : ℕ) → nat_eq a b ≡ false → b ≡ a → ⊥
unlike a b f e = no_bool (sym (subst (λ c. nat_eq a c ≡ true) (sym e) (nat_same a)) ∙ f)

reached : (wire : Wire) (n j r : ℕ) → r < n → Reached wire n j r
reached J.OneToOne n j r lt = by_cases (nat_eq r j) (λ t. inl (0, omega arith, sym (is_nat r j t))) (λ f. inr (λ k e. unlike r j f e, λ rows. rw f refl))
reached (J.Hash columns) n j r lt = inl (r, lt, refl)
reached J.Broadcast n j r lt = inl (r, lt, refl)
reached J.Gather n j r lt = by_cases (nat_eq r 0) (λ t. inl (0, omega arith, sym (is_nat r 0 t))) (λ f. inr (λ k e. unlike r 0 f e, λ rows. rw f refl))
reached (J.Merge keys) n j r lt = by_cases (nat_eq r 0) (λ t. inl (0, omega arith, sym (is_nat r 0 t))) (λ f. inr (λ k e. unlike r 0 f e, λ rows. rw f refl))

module _ (n j : ℕ) (wire : Wire) (at : ℕ → ℕ) (w : WriterOf) (h : IsNewWriter n j wire at w) where
  sent_at : (k : ℕ) → k < receivers w → (given put : List Row) → may_offer w k given put → put ≡ sent_over wire n j (receiver_at wire j k) given
  sent_at k lt given put may =
      may.1.is ∙ (ap (λ (owed : List Row). owed ++ may.1.rest) (h.owes k lt) ∙ (may.1.output
      ∙ (ap (λ (route : Route). sent_by route (receivers w) k given) h.route ∙ (ap (λ (m : ℕ). sent_by (route_of wire) m k given) h.count ∙ routes wire n j k given))))

  wire_sends : (r : ℕ) → r < n → (given put : List Row) → OffersTo at (W.Wire w) r given put → put ≡ sent_over wire n j r given
  wire_sends r lt given put o = elim (reached wire n j r lt) [
    | inl x ↦
        (let low : x.0 < receivers w = subst (λ m. x.0 < m) (sym h.count) x.1 in
        subst (λ i. put ≡ sent_over wire n j i given) x.2 (sent_at x.0 low given put (o.there x.0 low (h.at_is x.0 low ∙ x.2))))
    | inr x ↦ o.none (λ k low e. x.0 k (sym (h.at_is k low) ∙ e)) ∙ sym (x.1 given)
  ]

way_sends : (n j : ℕ) (es : List Edge) (at : ℕ → ℕ) (way : Way) → IsNewWay n j es at way → (r : ℕ) → r < n → (given put : List Row) → OffersTo at way r given put → put ≡ R.sent_by es n j r given
way_sends n j [] at (W.Kept keeper) h r lt given put o = o.none (λ k low e. absurd (omega (arith, low)))
way_sends n j (e ∷ es) at (W.Wire w) h r lt given put o = wire_sends n j e.wire at w h r lt given put o
way_sends n j [] at (W.Wire w) h r lt given put o = absurd h
way_sends n j (e ∷ es) at (W.Kept keeper) h r lt given put o = absurd h

way_keeps : (n j : ℕ) (es : List Edge) (at : ℕ → ℕ) (way : Way) → IsNewWay n j es at way → (given on : List Row) → keeps_on way given on → on ≡ kept_by es given
way_keeps n j [] at (W.Kept keeper) h given on e = subst (λ frames. on ≡ flat_map frame_rows frames ++ given) h e
way_keeps n j (x ∷ es) at (W.Wire w) h given on e = e
way_keeps n j [] at (W.Wire w) h given on e = absurd h
way_keeps n j (x ∷ es) at (W.Kept keeper) h given on e = absurd h

pub new_are_new : (p : PipelineOf) → NewAreNew p
new_are_new p job a j scanned handed at low sound h = record {
  brings = λ k lt took rows b. h.brings k lt took rows b;
  works = λ fed made w. ((h.operator.rest sound fed made).0 w).1;
  packed = h.packed_is;
  offers = λ r lt given put o. way_sends job.partitions j (edges_from job a.number) at p.output.way h.way r lt given put o;
  keeps = λ given on e. way_keeps job.partitions j (edges_from job a.number) at p.output.way h.way given on e;
}

-- ---- something to put

all_weaker : {X : Type 0} (P Q : X → Type 0) → ((x : X) → P x → Q x) → (xs : List X) → AllByRecursion P xs → AllByRecursion Q xs
all_weaker P Q f [] h = tt
all_weaker P Q f (x ∷ xs) h = (f x h.0, all_weaker P Q f xs h.1)

some_offer : (way : Way) (k : ℕ) (given : List Row) → TakesMore way → (put : List Row) × offers way k given put
some_offer (W.Wire w) k given more = (owed_rows (outlet w k) ++ sent_by w.route (receivers w) k given, (more given, record { rest = sent_by w.route (receivers w) k given; output = refl; is = refl }))
some_offer (W.Kept keeper) k given more = ([], refl)

-- what may be offered in the one place that is for the receiver, and nothing where there is none
module _ (at : ℕ → ℕ) (way : Way) (apart : AreApart at (places way)) (given : List Row) (some : (k : ℕ) → (put : List Row) × offers way k given put) where
  to_receiver : (r : ℕ) → (put : List Row) × OffersTo at way r given put × (((k : ℕ) → k < places way → (some k).0 ≡ []) → put ≡ [])
  to_receiver r = elim (found at way r (places way)) [
    | inl x ↦ (
      (some x.0).0,
      record {
        there = λ k lt e. subst (λ i. offers way i given (some x.0).0) (apart x.0 k x.1 lt (x.2 ∙ sym e)) (some x.0).1;
        none = λ no. absurd (no x.0 x.1 x.2);
      },
      λ nothing. nothing x.0 x.1,
    )
    | inr x ↦ ([], record { there = λ k lt e. absurd (x.1 k lt e); none = λ no. refl }, λ nothing. refl)
  ]

some_kept : (way : Way) (given : List Row) → (on : List Row) × keeps_on way given on
some_kept (W.Wire w) given = ([], refl)
some_kept (W.Kept k) given = (kept_rows k ++ given, refl)

pub living_are_alive : (p : PipelineOf) → LivingAreAlive p
living_are_alive p job a j closed ended at apart h = record {
  brings = λ k lt more may. h.brings k lt more may;
  works = λ took may. h.works took (all_weaker _ _ h.may took may);
  offers = λ r lt given. (let q = to_receiver at p.output.way apart given (λ k. some_offer p.output.way k given h.more) r in (q.0, q.1));
  keeps = λ given. some_kept p.output.way given;
}

-- ---- at the end

pub none_sent : (route : Route) (n k : ℕ) → sent_by route n k [] ≡ []
none_sent ByRoute.Whole n k = refl
none_sent (ByRoute.ByHash columns) n k = refl

last_offer : (way : Way) (left on : List Row) (k : ℕ) → Leaves way left on → (put : List Row) × offers way k left put
last_offer (W.Wire w) left on k h =
    subst (λ given. (put : List Row) × may_offer w k given put) (sym h.0)
    (owed_rows (outlet w k) ++ sent_by w.route (receivers w) k [], (no_more w.state, record { rest = sent_by w.route (receivers w) k []; output = refl; is = refl }))
last_offer (W.Kept keeper) left on k h = ([], refl)

last_kept : (way : Way) (left on : List Row) → Leaves way left on → keeps_on way left on
last_kept (W.Wire w) left on h = h.1
last_kept (W.Kept k) left on h = h

last_none : (way : Way) (left on : List Row) (k : ℕ) → (h : Leaves way left on) → k < places way → OwesNothing way → (put : List Row) → offers way k left put → put ≡ []
last_none (W.Wire w) left on k h lt nothing put may =
    may.1.is ∙ (ap (λ owed. owed ++ may.1.rest) (nothing k lt) ∙ (may.1.output ∙ (ap (λ given. sent_by w.route (receivers w) k given) h.0 ∙ none_sent w.route (receivers w) k)))
last_none (W.Kept keeper) left on k h lt nothing put may = may

pub ended_rests : (p : PipelineOf) → EndedRests p
ended_rests p job a at left on apart h =
    let some : (r : ℕ) → (put : List Row) × OffersTo at p.output.way r left put × (((k : ℕ) → k < places p.output.way → (last_offer p.output.way left on k h.leaves).0 ≡ []) → put ≡ []) =
    λ r. to_receiver at p.output.way apart left (λ k. last_offer p.output.way left on k h.leaves) r in (
      record { to = λ r. (some r).0; on = on },
      record {
        fed = [];
        made = left;
        brings = λ k lt. h.brings k lt;
        works = h.operator;
        offers = λ r lt. subst (λ xs. OffersTo at p.output.way r (xs ++ left) (some r).0) (sym h.packed_is) (some r).1;
        keeps = subst (λ xs. keeps_on p.output.way (xs ++ left) on) (sym h.packed_is) (last_kept p.output.way left on h.leaves);
      },
      refl,
      λ nothing r. (some r).2 (λ k lt. last_none p.output.way left on k h.leaves lt nothing (last_offer p.output.way left on k h.leaves).0 (last_offer p.output.way left on k h.leaves).1),
    )
