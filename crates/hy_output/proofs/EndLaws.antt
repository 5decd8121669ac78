-- How a word ends behind what was packed.
use Rattle.std.proofs.Common.{◌≡◌, ◌<◌, ℕ, List, [], refl, sym, ap, subst, ◌∙◌, Option}
use Rattle.hy_frame.specs.Frame.{FrameOf}
use Rattle.hy_frame.specs.declared.writer.WriterState.TheVariants.{Opened}
use Rattle.hy_rest.specs.Rest.{Continues}
use Rattle.hy_driver.specs.Rows.{Row}
use Rattle.hy_connect.specs.Writers.{IsStill, WriterOf}
use Rattle.hy_output.specs.declared.way.Way.{Way}
use Rattle.hy_output.specs.declared.way.Way.TheVariants as W
use Rattle.hy_output.specs.Ways.{Closes, Sends, Stays, offers, keeps, places, state_of}
use Rattle.hy_output.specs.Outputs.{Flushes, OutputOf, output_of, packed}

still_then : (a b c : WriterOf) → IsStill a b → IsStill b c → IsStill a c
still_then a b c x y = record {
  route = y.route ∙ x.route;
  arity = y.arity ∙ x.arity;
  unit = y.unit ∙ x.unit;
  count = y.count ∙ x.count;
  mailbox = λ k low. y.mailbox k (subst (λ (n : ℕ). k < n) (sym x.count) low) ∙ x.mailbox k low;
}

pub stays_then : (a b c : Way) → Stays a b → Stays b c → Stays a c
stays_then (W.Wire a) (W.Wire b) (W.Wire c) x y = still_then a b c x y
stays_then (W.Kept a) (W.Kept b) (W.Kept c) x y = tt
stays_then (W.Wire a) (W.Wire b) (W.Kept c) x y = absurd y
stays_then (W.Wire a) (W.Kept b) c x y = absurd x
stays_then (W.Kept a) (W.Wire b) c x y = absurd x
stays_then (W.Kept a) (W.Kept b) (W.Wire c) x y = absurd y

pub same_places : (a b : Way) → Stays a b → places b ≡ places a
same_places (W.Wire a) (W.Wire b) x = x.count
same_places (W.Kept a) (W.Kept b) x = refl
same_places (W.Wire a) (W.Kept b) x = absurd x
same_places (W.Kept a) (W.Wire b) x = absurd x

idle_then : (a b c : List Row → List Row → Type 0) (rows : List Row) → Continues a rows [] b → Continues b [] [] c → Continues a rows [] c
idle_then a b c rows x y = record { back = λ took put h. x.back took put (y.back took put h) }

pub closes_then : (a b c : Way) (rows : List Row) → Sends a rows b → state_of b ≡ Opened → Closes b c → Sends a rows c
closes_then a b c rows x opened y = record {
  still = stays_then a b c x.still y.still;
  offers = λ k low. idle_then (offers a k) (offers b k) (offers c k) rows (x.offers k low) (y.offers k (subst (λ (n : ℕ). k < n) (sym (same_places a b x.still)) low));
  keeps = idle_then (keeps a) (keeps b) (keeps c) rows x.keeps (y.keeps opened);
  words = λ word far. y.words word (x.words word far);
}

pub finish_flushes : (old mid : OutputOf) (arity unit : ℕ) (filling : Option FrameOf) (way way' : Way) → output_of arity unit filling way ≡ mid → Flushes old mid → state_of mid.way ≡ Opened → Closes way way'
    → Flushes old (output_of arity unit filling way')
finish_flushes old mid arity unit filling way way' view h opened closes = record {
  arity = ap (λ (o : OutputOf). o.arity) view ∙ h.arity;
  unit = ap (λ (o : OutputOf). o.unit) view ∙ h.unit;
  filling = ap (λ (o : OutputOf). o.filling) view ∙ h.filling;
  way = closes_then old.way mid.way way' (packed old) h.way opened (subst (λ (w : Way). Closes w way') (ap (λ (o : OutputOf). o.way) view) closes);
}
