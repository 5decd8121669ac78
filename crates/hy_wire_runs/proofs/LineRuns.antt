-- What the calls of a writer keep of it, its bank and the mailboxes.
use Rattle.std.proofs.Common.{◌≡◌, ◌≢◌, ◌<◌, ◌≤◌, ◌+◌, ◌∙◌, ℕ, zero, suc, rules, List, [], ◌∷◌, length, refl, sym, ap, subst, arith, Option, None, Some}
use Rattle.hy_frame.specs.Bank.{BankOf}
use Rattle.hy_frame.specs.Frame.{FrameOf}
use Rattle.hy_frame.specs.declared.writer.WriterState.{WriterState}
use Rattle.hy_frame.specs.declared.writer.WriterState.TheVariants.{Initial}
use Rattle.hy_job.specs.declared.job.Wire.{Wire}
use Rattle.hy_mail.specs.declared.parcel.Parcel.{Parcel}
use Rattle.hy_mail.specs.Desks.{DeskState, DeskStep, Sends, box, word_of}
use Rattle.hy_mail.specs.Events.{Event, Full, Put}
use Rattle.hy_mail.specs.Words.{Leads}
use Rattle.hy_places.specs.Places.{AreDifferent}
use Rattle.hy_connect.specs.declared.writer.Offer.{Offer}
use Rattle.hy_connect.specs.declared.writer.Offer.TheVariants as O
use Rattle.hy_connect.specs.Outlets.{OutletOf, held_in, held_of, outlet_at}
use Rattle.hy_connect.specs.Writers.{IsAsFar, IsIdle, IsNew, IsStill, TellsOffer, WriterOf, outlet, receivers}
use Rattle.hy_wire_runs.specs.Desks.{AreFree, IsDesk, KeepsWords}
use Rattle.hy_wire_runs.specs.Lines.{AreNumbers, IsNewLine, MayOffer, MayWrite, WritesTo}
use Rattle.hy_wire_runs.proofs.DeskRuns.{full_words, put_words, sends_box, stays_desk, two_fields}

-- ---- mailboxes by number

pub numbers_differ : (first : ℕ) (boxes : List ℕ) → AreNumbers first boxes → AreDifferent boxes
numbers_differ first boxes h j k a b e = omega (arith, h j a, h k b, e)

pub to_one : (n : ℕ) → AreNumbers n (n ∷ [])
to_one n zero low = omega arith
to_one n (suc k) low = absurd (omega arith)

pub to_two : (n : ℕ) → AreNumbers n (n ∷ (n + 1) ∷ [])
to_two n zero low = omega arith
to_two n (suc zero) low = refl
to_two n (suc (suc k)) low = absurd (omega arith)

pub to_three : (n : ℕ) → AreNumbers n (n ∷ (n + 1) ∷ (n + 2) ∷ [])
to_three n zero low = omega arith
to_three n (suc zero) low = refl
to_three n (suc (suc zero)) low = refl
to_three n (suc (suc (suc k))) low = absurd (omega arith)

pub to_four : (n : ℕ) → AreNumbers n (n ∷ (n + 1) ∷ (n + 2) ∷ (n + 3) ∷ [])
to_four n zero low = omega arith
to_four n (suc zero) low = refl
to_four n (suc (suc zero)) low = refl
to_four n (suc (suc (suc zero))) low = refl
to_four n (suc (suc (suc (suc k)))) low = absurd (omega arith)

-- ---- frames

few_in : (o : Option FrameOf) → held_in o ≤ 1
few_in None = omega arith
few_in (Some f) = omega arith

-- a writer fills at most one frame for each receiver
pub held_few : (xs : List OutletOf) → held_of xs ≤ length xs
held_few [] = omega arith
held_few (x ∷ xs) = omega (arith, few_in x.filling, held_few xs)

none_held : (xs : List OutletOf) → ((k : ℕ) → k < length xs → (outlet_at xs k).filling ≡ None) → held_of xs ≡ 0
none_held [] h = refl
none_held (x ∷ xs) h =
    let r = none_held xs (λ k low. h (suc k) (omega arith)) in
    let z : held_in x.filling ≡ 0 = ap held_in (h zero (omega arith)) in
    omega (arith, r, z)

-- ---- a new writer

new_far : (wire : Wire) (boxes : List ℕ) (first unit : ℕ) (w : WriterOf) → AreNumbers first boxes → first + length boxes ≤ 4 → IsNew wire boxes unit 2 w
    → (word : ℕ → WriterState) → ((m : ℕ) → first ≤ m → m < 4 → word m ≡ Initial) → IsAsFar word w
new_far wire boxes first unit w h few n word free k low =
    let l : k < length boxes = omega (arith, n.count, low) in
    let m : (outlet w k).mailbox ≡ first + k = n.mailbox k l ∙ h k l in
    let is : word (outlet w k).mailbox ≡ Initial = ap word m ∙ free (first + k) (omega arith) (omega (arith, few, l)) in
    subst (λ (ps : List Parcel). Leads (word (outlet w k).mailbox) ps w.state) (sym (n.waits k l)) (n.state ∙ sym is)

pub new_line : (wire : Wire) (boxes : List ℕ) (first unit : ℕ) (w : WriterOf) → AreNumbers first boxes → first + length boxes ≤ 4 → IsNew wire boxes unit 2 w → IsNewLine first (length boxes) unit w
new_line wire boxes first unit w h few n = record {
  to = record { wide = n.wide; numbered = λ k low. let l : k < length boxes = omega (arith, n.count, low) in n.mailbox k l ∙ h k l };
  size = n.size;
  count_is = n.count;
  state = n.state;
  none = none_held w.outlets (λ k low. n.filling k (omega (arith, n.count, low)));
  far = new_far wire boxes first unit w h few n;
}

-- ---- a writer that goes on

still_to : (first : ℕ) (old new : WriterOf) → WritesTo first old → IsStill old new → WritesTo first new
still_to first old new p s = record {
  wide = s.arity ∙ p.wide;
  numbered = λ k low. let l : k < receivers old = omega (arith, s.count, low) in s.mailbox k l ∙ p.numbered k l;
}

pub begins : (first count unit : ℕ) (old new : WriterOf) (b : BankOf) (d : DeskState) → IsNewLine first count unit old → IsDesk d → AreFree first d → first + count ≤ 4
    → IsStill old new → held_of new.outlets ≡ held_of old.outlets → ((word : ℕ → WriterState) → IsAsFar word old → IsAsFar word new) → b.unit ≡ unit → b.limit ≡ 20 → b.out ≡ 0
    → MayWrite 0 first (first + count) new b d
begins first count unit old new b d is desk free few s held words size limit out = record {
  offers = record {
    to = still_to first old new is.to s;
    few = few;
    last = omega (arith, s.count, is.count_is);
    desk = desk;
    far = words (word_of d 0) (is.far (word_of d 0) free);
    free = λ m from top. free m (omega (arith, from)) top;
  };
  size = s.unit ∙ is.size ∙ sym size;
  limit = limit;
  out = omega (arith, out, held, is.none);
}

pub goes_on : (first behind : ℕ) (old new : WriterOf) (d : DeskState) → MayOffer first behind old d → IsStill old new → ((word : ℕ → WriterState) → IsAsFar word old → IsAsFar word new) → MayOffer first behind new d
goes_on first behind old new d f s words = record {
  to = still_to first old new f.to s;
  few = f.few;
  last = omega (arith, f.last, s.count);
  desk = f.desk;
  far = words (word_of d 0) f.far;
  free = f.free;
}

pub writes_on : (more more' first behind : ℕ) (old new : WriterOf) (b b' : BankOf) (d : DeskState) → MayWrite more first behind old b d → IsStill old new → ((word : ℕ → WriterState) → IsAsFar word old → IsAsFar word new)
    → (b'.unit ≡ b.unit) × (b'.limit ≡ b.limit) → b'.out ≡ held_of new.outlets + more' → MayWrite more' first behind new b' d
writes_on more more' first behind old new b b' d f s words same out = record {
  offers = goes_on first behind old new d f.offers s words;
  size = s.unit ∙ f.size ∙ sym same.0;
  limit = same.1 ∙ f.limit;
  out = out;
}

-- there is room for a frame of each receiver
pub room_for_all : (more first behind : ℕ) (w : WriterOf) (b : BankOf) (d : DeskState) → MayWrite more first behind w b d → more ≤ 1 → b.out + receivers w ≤ b.limit
room_for_all more first behind w b d f low = omega (arith, f.limit, f.out, f.offers.few, f.offers.last, held_few w.outlets, low)

pub room_for_one : (first behind : ℕ) (w : WriterOf) (b : BankOf) (d : DeskState) → MayWrite 0 first behind w b d → b.out < b.limit
room_for_one first behind w b d f = omega (arith, f.limit, f.out, f.offers.few, f.offers.last, held_few w.outlets)

-- a frame was taken
pub lends : (first behind : ℕ) (w : WriterOf) (b b' : BankOf) (d : DeskState) → MayWrite 0 first behind w b d → b'.out ≡ b.out + 1 → (b'.unit ≡ b.unit) × (b'.limit ≡ b.limit) → MayWrite 1 first behind w b' d
lends first behind w b b' d f one same = record { offers = f.offers; size = f.size ∙ sym same.0; limit = same.1 ∙ f.limit; out = omega (arith, one, f.out) }

-- ---- offers

module _ (first behind : ℕ) (w : WriterOf) (d : DeskState) (f : MayOffer first behind w d) where
  below : (k : ℕ) → k < receivers w → first + k < 4
  below k low = omega (arith, f.few, f.last, low)

  pub line_sends : (k : ℕ) → k < receivers w → Sends d 0 (outlet w k).mailbox
  line_sends k low = subst (Sends d 0) (sym (f.to.numbered k low)) (sends_box d f.desk (first + k) (below k low))

  pub line_wide : (k : ℕ) → k < receivers w → (box d (outlet w k).mailbox).arity ≡ w.arity
  line_wide k low = ap (λ m. (box d m).arity) (f.to.numbered k low) ∙ two_fields d f.desk (first + k) (below k low) ∙ sym f.to.wide

  -- mailboxes behind are none of its own
  other : (k m : ℕ) → k < receivers w → behind ≤ m → (outlet w k).mailbox ≢ m
  other k m low from e = omega (arith, f.last, f.to.numbered k low, low, from, e)

  put_goes : (w' : WriterOf) (e : DeskState) (k : ℕ) (p : Parcel) → IsStill w w' → k < receivers w → DeskStep 0 d (Put (outlet w k).mailbox p) e → IsAsFar (word_of e 0) w' → MayOffer first behind w' e
  put_goes w' e k p s low h far = record {
    to = still_to first w w' f.to s;
    few = f.few;
    last = omega (arith, f.last, s.count);
    desk = stays_desk 0 d e (Put (outlet w k).mailbox p) f.desk h;
    far = far;
    free = λ m from top. put_words d e (outlet w k).mailbox m p (other k m low from) h ∙ f.free m from top;
  }

  full_goes : (e : DeskState) (m : ℕ) → DeskStep 0 d (Full m) e → IsAsFar (word_of e 0) w → MayOffer first behind w e
  full_goes e k h far = record {
    to = f.to;
    few = f.few;
    last = f.last;
    desk = stays_desk 0 d e (Full k) f.desk h;
    far = far;
    free = λ m from top. full_words d e k m h ∙ f.free m from top;
  }

  -- an offer at a port of the desk, whose steps are the desk's
  pub offer_goes : {S : Type 0} → (happens : S → Event → S → Type 0) (at : S → DeskState) (p q : S) (w' : WriterOf) (r : Offer) → TellsOffer happens p q w w' r → at p ≡ d
      → ((x : Event) → happens p x q → DeskStep 0 d x (at q)) → IsAsFar (word_of (at q) 0) w' → MayOffer first behind w' (at q)
  offer_goes happens at p q w' O.Nothing told is steps far = subst (λ v. MayOffer first behind v (at q)) (sym told.1) (subst (MayOffer first behind w) (sym (ap at told.2 ∙ is)) f)
  offer_goes happens at p q w' O.Put told is steps far = put_goes w' (at q) told.0 told.1 told.2.still told.2.there (steps (Put (outlet w told.0).mailbox told.1) told.3) far
  offer_goes happens at p q w' O.Full told is steps far =
      subst (λ v. MayOffer first behind v (at q)) (sym told.3) (full_goes (at q) (outlet w told.0).mailbox (steps (Full (outlet w told.0).mailbox) told.4) (subst (IsAsFar (word_of (at q) 0)) told.3 far))

-- where nothing was put, nothing waits
pub nothing_waits : {S : Type 0} (happens : S → Event → S → Type 0) (p q : S) (old new : WriterOf) (r : Offer) → TellsOffer happens p q old new r → r ≡ O.Nothing → IsIdle new
nothing_waits happens p q old new O.Nothing told is = subst IsIdle (sym told.1) told.0
nothing_waits happens p q old new O.Put told is = absurd (search (rules, is))
nothing_waits happens p q old new O.Full told is = absurd (search (rules, is))

-- what is seen of a taker's step
pub looks_on : (first behind : ℕ) (w : WriterOf) (d e : DeskState) → MayOffer first behind w d → IsDesk e → KeepsWords d e → MayOffer first behind w e
looks_on first behind w d e f desk keeps = record {
  to = f.to;
  few = f.few;
  last = f.last;
  desk = desk;
  far = λ k low. subst (λ v. Leads v (outlet w k).waits w.state) (sym (keeps (outlet w k).mailbox)) (f.far k low);
  free = λ m from top. keeps m ∙ f.free m from top;
}
