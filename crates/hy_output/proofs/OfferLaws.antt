-- What an offer of a writer is to the way over its wire.
use Rattle.std.proofs.Common.{◌≡◌, ℕ, List, [], ◌++◌, refl, ap, subst, ◌∙◌}
use Rattle.hy_frame.specs.declared.writer.WriterState.{WriterState}
use Rattle.hy_rest.specs.Rest.{Continues}
use Rattle.hy_mail.specs.declared.parcel.Parcel.{Parcel}
use Rattle.hy_mail.specs.Events.{Event}
use Rattle.hy_driver.specs.Rows.{Row}
use Rattle.hy_connect.specs.declared.route.Route.{Route}
use Rattle.hy_connect.specs.declared.writer.Offer.{Offer}
use Rattle.hy_connect.specs.declared.writer.Offer.TheVariants as O
use Rattle.hy_connect.specs.Routes.{sent_by}
use Rattle.hy_connect.specs.Outlets.{OutletOf, owed_rows}
use Rattle.hy_connect.specs.Writers as C
use Rattle.hy_connect.specs.Writers.{MayGive, WriterOf, may_offer, outlet, receivers}
use Rattle.hy_output.specs.declared.way.Way.TheVariants as W
use Rattle.hy_output.specs.Ways.{SendsOn, TellsOffer}

-- where nothing changed for a receiver, it may be offered what it might be
same_offers : (w w' : WriterOf) (j : ℕ) → C.IsStill w w' → w'.state ≡ w.state → outlet w' j ≡ outlet w j → Continues (may_offer w j) [] [] (may_offer w' j)
same_offers w w' j still state same = record {
  back = λ given put h. (
    subst (λ (s : WriterState). MayGive s given) state h.0,
    record {
      rest = sent_by w.route (receivers w) j given;
      output = refl;
      is = h.1.is ∙ ap (λ (r : List Row). owed_rows (outlet w' j) ++ r)
          (h.1.output ∙ ap (λ (r : Route). sent_by r (receivers w') j given) still.route ∙ ap (λ (n : ℕ). sent_by w.route n j given) still.count)
          ∙ ap (λ (o : OutletOf). owed_rows o ++ sent_by w.route (receivers w) j given) same;
    },
  );
}

wire_sends : (w w' : WriterOf) (k : ℕ) (p : Parcel) → C.SendsOn w k p w' → SendsOn (W.Wire w) k p (W.Wire w')
wire_sends w w' k p h = record {
  still = h.still;
  there = h.there;
  state = h.state;
  first = h.first;
  others = λ j ne. ap (λ (o : OutletOf). o.waits) (h.others j ne);
  owes = h.offers;
  same = λ j ne low. same_offers w w' j h.still h.state (h.others j ne);
  keeps = record { back = λ given on e. e };
}

pub wire_offers : {P : Type 0} → (happens : P → Event → P → Type 0) (port port' : P) (w w' : WriterOf) (result : Offer) → C.TellsOffer happens port port' w w' result
    → TellsOffer happens port port' (W.Wire w) (W.Wire w') result
wire_offers {P} happens port port' w w' O.Nothing h = (h.0, ap W.Wire h.1, h.2)
wire_offers {P} happens port port' w w' O.Put h = (h.0, h.1, wire_sends w w' h.0 h.1 h.2, h.3)
wire_offers {P} happens port port' w w' O.Full h = (h.0, h.1, h.2, ap W.Wire h.3, h.4)
