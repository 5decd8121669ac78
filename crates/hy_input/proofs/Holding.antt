-- Rows and frames at hand over calls, and what no call changes.
use Rattle.std.proofs.Common.{◌≡◌, ◌≢◌, ◌<◌, ◌≤◌, ◌+◌, ◌-◌, inl, inr, ℕ, Bool, true, false, nat_eq, List, [], ◌∷◌, length, drop, Option, None, Some, refl, sym, ap, subst, ◌∙◌, arith, length-set}
use Rattle.hy_frame.specs.Bank.{BankOf}
use Rattle.hy_frame.specs.Frame.{FrameOf}
use Rattle.hy_frame.specs.FrameText.{AllRows}
use Rattle.hy_frame.specs.Row.{Fields, IsRow}
use Rattle.hy_job.proofs.Members.{by_cases, no_bool}
use Rattle.hy_mail.specs.declared.parcel.Parcel.{Parcel}
use Rattle.hy_mail.specs.declared.parcel.Parcel.TheVariants as V
use Rattle.hy_mail.specs.Events.{Event, Took}
use Rattle.hy_mail.specs.Words.{HasArity}
use Rattle.hy_connect.specs.Outlets.{held_in}
use Rattle.hy_connect.specs.Merges as M
use Rattle.hy_connect.specs.Merges.{MergerOf, StaysMerger, TellsMerged, current_row, senders, source}
use Rattle.hy_connect.specs.Sources.{AllClosed, HoldRows, IsWanted, SourceOf, frame_rows, frames_held, hand as hand_of}
use Rattle.hy_connect.specs.Takers.{TakerOf, TellsTaken}
use Rattle.hy_connect.specs.declared.merge.Merged.{Merged}
use Rattle.hy_connect.specs.declared.merge.Merged.TheVariants as R
use Rattle.hy_connect.specs.declared.taker.Taken.{Taken}
use Rattle.hy_connect.specs.declared.taker.Taken.TheVariants as K
use Rattle.hy_connect.proofs.Hands.{advanced_hand}
use Rattle.hy_connect.proofs.Merging.{other_number, same_number}
use Rattle.hy_input.specs.declared.taker.Taker.{Taker}
use Rattle.hy_input.specs.declared.taker.Taker.TheVariants as T
use Rattle.hy_input.specs.declared.input.Came.{Came}
use Rattle.hy_input.specs.declared.input.Came.TheVariants as C
use Rattle.hy_input.specs.Inputs.{ComesAs, HoldsRows, InputOf, IsDone, IsPlain, done_by, wants_by, IsSent, IsStill, KeepsRows, TellsRows, TellsRowsOfMerge, TellsCame, TellsTakenBy, TellsTakenOfMerge, Wants, given, hand, has_given_up, held, held_by, hold_by, input_of, kept_by, lone_by, most, most_by, sends_by, still_by, up_by}
use Rattle.hy_input.proofs.Merging.{merging}

-- ---- what no call changes

same_merge : (m : MergerOf) → StaysMerger m m
same_merge m = record { keys = refl; count = refl; mailbox = λ s low. refl }

pub same_by : (t : Taker) → still_by t t
same_by (T.One t) = (refl, refl)
same_by (T.Many t) = (refl, refl)
same_by (T.Merge m) = same_merge m

pub same_input : (x : InputOf) → IsStill x x
same_input x = record { taker = same_by x.taker; from = refl }

pub merge_then : (a b c : MergerOf) → StaysMerger a b → StaysMerger b c → StaysMerger a c
merge_then a b c f g = record {
  keys = g.keys ∙ f.keys;
  count = g.count ∙ f.count;
  mailbox = λ s low. g.mailbox s (subst (λ (n : ℕ). s < n) (sym f.count) low) ∙ f.mailbox s low;
}

pub still_then_by : (a b c : Taker) → still_by a b → still_by b c → still_by a c
still_then_by (T.One a) (T.One b) (T.One c) f g = (g.0 ∙ f.0, g.1 ∙ f.1)
still_then_by (T.One a) (T.One b) (T.Many c) f g = absurd g
still_then_by (T.One a) (T.One b) (T.Merge c) f g = absurd g
still_then_by (T.One a) (T.Many b) c f g = absurd f
still_then_by (T.One a) (T.Merge b) c f g = absurd f
still_then_by (T.Many a) (T.Many b) (T.Many c) f g = (g.0 ∙ f.0, g.1 ∙ f.1)
still_then_by (T.Many a) (T.Many b) (T.One c) f g = absurd g
still_then_by (T.Many a) (T.Many b) (T.Merge c) f g = absurd g
still_then_by (T.Many a) (T.One b) c f g = absurd f
still_then_by (T.Many a) (T.Merge b) c f g = absurd f
still_then_by (T.Merge a) (T.Merge b) (T.Merge c) f g = merge_then a b c f g
still_then_by (T.Merge a) (T.Merge b) (T.One c) f g = absurd g
still_then_by (T.Merge a) (T.Merge b) (T.Many c) f g = absurd g
still_then_by (T.Merge a) (T.One b) c f g = absurd f
still_then_by (T.Merge a) (T.Many b) c f g = absurd f

pub still_then : (x y z : InputOf) → IsStill x y → IsStill y z → IsStill x z
still_then x y z f g = record { taker = still_then_by x.taker y.taker z.taker f.taker g.taker; from = g.from ∙ f.from }

-- its senders are what they were
still_sent_by : (a b : Taker) (from from' m n p : ℕ) → from' ≡ from → still_by a b → sends_by b from' m n p → sends_by a from m n p
still_sent_by (T.One a) (T.One b) from from' m n p e s h = (h.0 ∙ s.0, subst (λ (k : ℕ). n < k) s.1 h.1, h.2 ∙ e)
still_sent_by (T.One a) (T.Many b) from from' m n p e s h = absurd s
still_sent_by (T.One a) (T.Merge b) from from' m n p e s h = absurd s
still_sent_by (T.Many a) (T.Many b) from from' m n p e s h = (h.0 ∙ s.0, subst (λ (k : ℕ). n < k) s.1 h.1, h.2)
still_sent_by (T.Many a) (T.One b) from from' m n p e s h = absurd s
still_sent_by (T.Many a) (T.Merge b) from from' m n p e s h = absurd s
still_sent_by (T.Merge a) (T.Merge b) from from' m n p e s h = let low = subst (λ (k : ℕ). p < k) s.count h.0 in (low, h.1 ∙ s.mailbox p low, h.2)
still_sent_by (T.Merge a) (T.One b) from from' m n p e s h = absurd s
still_sent_by (T.Merge a) (T.Many b) from from' m n p e s h = absurd s

pub still_sent : (x y : InputOf) (m n p : ℕ) → IsStill x y → IsSent y m n p → IsSent x m n p
still_sent x y m n p s h = still_sent_by x.taker y.taker x.from y.from m n p s.from s.taker h

still_most_by : (a b : Taker) → still_by a b → most_by b ≡ most_by a
still_most_by (T.One a) (T.One b) s = refl
still_most_by (T.One a) (T.Many b) s = absurd s
still_most_by (T.One a) (T.Merge b) s = absurd s
still_most_by (T.Many a) (T.Many b) s = refl
still_most_by (T.Many a) (T.One b) s = absurd s
still_most_by (T.Many a) (T.Merge b) s = absurd s
still_most_by (T.Merge a) (T.Merge b) s = s.count
still_most_by (T.Merge a) (T.One b) s = absurd s
still_most_by (T.Merge a) (T.Many b) s = absurd s

pub still_most : (x y : InputOf) → IsStill x y → most y ≡ most x
still_most x y s = still_most_by x.taker y.taker s.taker

as_was : (t t' : TakerOf) → t' ≡ t → (t'.mailbox ≡ t.mailbox) × (length t'.closed ≡ length t.closed)
as_was t t' e = (ap (λ (x : TakerOf). x.mailbox) e, ap (λ (x : TakerOf). length x.closed) e)

-- ---- frames

pub frame_most : (f : Option FrameOf) → held_in f ≤ 1
frame_most None = omega arith
frame_most (Some f) = omega arith

frames_most : (xs : List SourceOf) → frames_held xs ≤ length xs
frames_most [] = omega arith
frames_most (x ∷ xs) = let h = frames_most xs in let g = frame_most x.frame in omega arith

held_most_by : (t : Taker) (frame : Option FrameOf) → lone_by t frame → held_in frame + held_by t ≤ most_by t
held_most_by (T.One t) frame lone = let h = frame_most frame in omega arith
held_most_by (T.Many t) frame lone = let h = frame_most frame in omega arith
held_most_by (T.Merge m) frame lone = subst (λ (f : Option FrameOf). held_in f + frames_held m.sources ≤ length m.sources) (sym lone) (let h = frames_most m.sources in omega arith)

-- it holds no more frames than it may
pub held_most : (x : InputOf) (width : ℕ) → HoldsRows x width → held x ≤ most x
held_most x width h = held_most_by x.taker x.frame h.lone

-- ---- going on

pub plain_of : (t : Taker) → ((m : MergerOf) → t ≡ T.Merge m → ⊥) → IsPlain t
plain_of (T.One t) h = tt
plain_of (T.Many t) h = tt
plain_of (T.Merge m) h = h m refl

pub none_holds : (t : Taker) (from : ℕ) (next : ℕ) (up : Bool) (width : ℕ) → IsPlain t → HoldsRows (input_of t from None 0 up) width
none_holds (T.One t) from next up width plain = record { rows = tt; lone = tt }
none_holds (T.Many t) from next up width plain = record { rows = tt; lone = tt }
none_holds (T.Merge m) from next up width plain = absurd plain

row_first : (frame : Option FrameOf) (next width : ℕ) → drop next (frame_rows frame) ≢ [] → AllRows width (drop next (frame_rows frame))
    → IsRow width (given (input_of (T.One (record { mailbox = 0; closed = [] })) 0 frame (next + 1) false)) × AllRows width (drop (next + 1) (frame_rows frame))
row_first frame next width some rows = subst (AllRows width) (advanced_hand (record { mailbox = 0; closed = false; frame = frame; next = next }) some) rows

-- to the next row of the frame at hand
pub went_on : (t : Taker) (from : ℕ) (frame : Option FrameOf) (next : ℕ) (up : Bool) → IsPlain t → hand (input_of t from frame next up) ≢ [] → (width : ℕ) → HoldsRows (input_of t from frame next up) width
    → KeepsRows width (input_of t from frame next up) (input_of t from frame (next + 1) up) true
went_on (T.One t) from frame next up plain some width h =
    let r = row_first frame next width some h.rows in record { holds = record { rows = r.1; lone = tt }; row = λ e. r.0; empty = λ e. absurd (no_bool e) }
went_on (T.Many t) from frame next up plain some width h =
    let r = row_first frame next width some h.rows in record { holds = record { rows = r.1; lone = tt }; row = λ e. r.0; empty = λ e. absurd (no_bool e) }
went_on (T.Merge m) from frame next up plain some width h = absurd plain

-- the frame goes back
pub let_go : (t : Taker) (from : ℕ) (frame : Option FrameOf) (next : ℕ) (up : Bool) → IsPlain t → (width : ℕ) → KeepsRows width (input_of t from frame next up) (input_of t from None 0 up) false
let_go (T.One t) from frame next up plain width = record { holds = record { rows = tt; lone = tt }; row = λ e. absurd (no_bool (sym e)); empty = λ e. refl }
let_go (T.Many t) from frame next up plain width = record { holds = record { rows = tt; lone = tt }; row = λ e. absurd (no_bool (sym e)); empty = λ e. refl }
let_go (T.Merge m) from frame next up plain width = absurd plain

module _ (m m' : MergerOf) (width : ℕ) (holds : HoldRows width m.sources) where
  rests_hold : M.Rests m m' → HoldRows width m'.sources
  rests_hold r s low = let was : s < senders m = subst (λ (n : ℕ). s < n) r.still.count low in subst (AllRows width) (sym (r.hands s was)) (holds s was)

  gives_hold : (k : ℕ) → M.Gives k m m' → HoldRows width m'.sources × IsRow width (current_row m')
  gives_hold k g = (
    λ s low. let was : s < senders m = subst (λ (n : ℕ). s < n) g.still.count low in by_cases (nat_eq s k)
        (λ y. subst (λ (j : ℕ). AllRows width (hand_of (source m' j))) (sym (same_number s k y)) here.1)
        (λ n. subst (AllRows width) (sym (g.others s was (other_number s k n))) (holds s was)),
    here.0,
  )
    where
      here : AllRows width (current_row m' ∷ hand_of (source m' k))
      here = subst (AllRows width) g.here (holds k g.there)

-- ---- a merge goes on

pub merged_still : (bank bank' : BankOf) (m m' : MergerOf) (from : ℕ) (frame : Option FrameOf) (next : ℕ) (up : Bool) (r : Merged) → TellsMerged bank bank' m m' r → IsStill (merging m from frame next up) (merging m' from frame next up)
merged_still bank bank' m m' from frame next up R.Row t = record { taker = t.1.1.still; from = refl }
merged_still bank bank' m m' from frame next up (R.Need s) t = record { taker = t.1.still; from = refl }
merged_still bank bank' m m' from frame next up R.End t = record { taker = t.2.still; from = refl }

pub merged_row : (bank bank' : BankOf) (m m' : MergerOf) (from : ℕ) (frame : Option FrameOf) (next : ℕ) (up : Bool) → TellsMerged bank bank' m m' R.Row → (width : ℕ) → HoldsRows (merging m from frame next up) width
    → KeepsRows width (merging m from frame next up) (merging m' from frame next up) true
merged_row bank bank' m m' from frame next up t width h =
    let g = gives_hold m m' width h.rows t.1.0 t.1.1 in record { holds = record { rows = g.0; lone = h.lone }; row = λ e. g.1; empty = λ e. absurd (no_bool e) }

pub merged_end : (bank bank' : BankOf) (m m' : MergerOf) (from : ℕ) (frame : Option FrameOf) (next : ℕ) (up : Bool) → TellsMerged bank bank' m m' R.End → (width : ℕ) → HoldsRows (merging m from frame next up) width
    → KeepsRows width (merging m from frame next up) (merging m' from frame next up) false
merged_end bank bank' m m' from frame next up t width h = record {
  holds = record { rows = rests_hold m m' width h.rows t.2; lone = h.lone };
  row = λ e. absurd (no_bool (sym e));
  empty = λ e. subst (λ (f : Option FrameOf). held_in f + frames_held m'.sources ≡ 0) (sym h.lone) (let e = t.3 in omega arith);
}

-- ---- what comes

taken_one : {P : Type 0} (happens : P → Event → P → Type 0) (port port' : P) (bank bank' : BankOf) (t t' : TakerOf) (answer : Taken) → TellsTaken happens port port' bank bank' t t' answer
    → (t'.mailbox ≡ t.mailbox) × (length t'.closed ≡ length t.closed)
taken_one happens port port' bank bank' t t' K.Empty h = as_was t t' h.1
taken_one happens port port' bank bank' t t' (K.Frame f) h = as_was t t' h.1
taken_one happens port port' bank bank' t t' K.Kept h = absurd h
taken_one happens port port' bank bank' t t' K.Word h = elim h.2.2 [
  | inl o ↦ as_was t t' o.0
  | inr c ↦ (ap (λ (x : TakerOf). x.mailbox) c.0, ap (λ (x : TakerOf). length x.closed) c.0 ∙ length-set t.closed h.2.0 true)
]
taken_one happens port port' bank bank' t t' K.Failed h = as_was t t' h.1
taken_one happens port port' bank bank' t t' K.Ended h = as_was t t' h.1

module _ {P : Type 0} (happens : P → Event → P → Type 0) (port port' : P) (bank bank' : BankOf) where
  pub taken_still : (t t' : Taker) (answer : Taken) → TellsTakenBy happens port port' bank bank' t t' answer → still_by t t'
  taken_still (T.One t) (T.One t') answer h = taken_one happens port port' bank bank' t t' answer h
  taken_still (T.One t) (T.Many t') answer h = absurd h
  taken_still (T.One t) (T.Merge m) answer h = absurd h
  taken_still (T.Many t) (T.One t') answer h = absurd h
  taken_still (T.Many t) (T.Many t') answer h = taken_one happens port port' bank bank' t t' answer h
  taken_still (T.Many t) (T.Merge m) answer h = absurd h
  taken_still (T.Merge m) t' answer h = absurd h

  -- what is at hand where no frame came
  pub taken_none : (t t' : Taker) (answer : Taken) → TellsTakenBy happens port port' bank bank' t t' answer → (from : ℕ) (up : Bool) (width : ℕ) → HoldsRows (input_of t' from None 0 up) width
  taken_none (T.One t) (T.One t') answer h from up width = record { rows = tt; lone = tt }
  taken_none (T.One t) (T.Many t') answer h from up width = absurd h
  taken_none (T.One t) (T.Merge m) answer h from up width = absurd h
  taken_none (T.Many t) (T.One t') answer h from up width = absurd h
  taken_none (T.Many t) (T.Many t') answer h from up width = record { rows = tt; lone = tt }
  taken_none (T.Many t) (T.Merge m) answer h from up width = absurd h
  taken_none (T.Merge m) t' answer h from up width = absurd h

  -- and where one came
  module _ (arity : ℕ → ℕ) (takes : (m s : ℕ) (p : Parcel) → happens port (Took m s p) port' → HasArity (arity m) p) (f : FrameOf) (rows : AllRows f.arity f.rows) where
    frame_one : (t : Taker) (from up_next : ℕ) (frame : Option FrameOf) (up : Bool) (width : ℕ) (up' : Bool) (m n p : ℕ) → ComesAs arity (input_of t from frame up_next up) width → IsSent (input_of t from frame up_next up) m n p
        → happens port (Took m n (V.Frame f)) port' → AllRows width f.rows
    frame_one t from next frame up width up' m n p comes sent event = subst (λ (a : ℕ). AllRows a f.rows) (takes m n (V.Frame f) event ∙ comes m n p sent) rows

    kept_one : (t : TakerOf) (from : ℕ) (up : Bool) (width : ℕ) → AllRows width f.rows → (b : Bool) → HoldsRows (kept_by b f (input_of (T.One t) from None 0 up)) width
    kept_one t from up width all true = record { rows = tt; lone = tt }
    kept_one t from up width all false = record { rows = all; lone = tt }

    kept_many : (t : TakerOf) (from : ℕ) (up : Bool) (width : ℕ) → AllRows width f.rows → (b : Bool) → HoldsRows (kept_by b f (input_of (T.Many t) from None 0 up)) width
    kept_many t from up width all true = record { rows = tt; lone = tt }
    kept_many t from up width all false = record { rows = all; lone = tt }

    pub taken_rows : (t t' : Taker) → TellsTakenBy happens port port' bank bank' t t' (K.Frame f) → (from next : ℕ) (frame : Option FrameOf) (up b : Bool) (width : ℕ) → ComesAs arity (input_of t from frame next up) width
        → HoldsRows (kept_by b f (input_of t' from None 0 up)) width
    taken_rows (T.One t) (T.One t') h from next frame up b width comes =
        kept_one t' from up width (frame_one (T.One t) from next frame up width b t.mailbox h.3.0 from comes (refl, h.3.1, refl) h.3.2) b
    taken_rows (T.One t) (T.Many t') h from next frame up b width comes = absurd h
    taken_rows (T.One t) (T.Merge m) h from next frame up b width comes = absurd h
    taken_rows (T.Many t) (T.One t') h from next frame up b width comes = absurd h
    taken_rows (T.Many t) (T.Many t') h from next frame up b width comes =
        kept_many t' from up width (frame_one (T.Many t) from next frame up width b t.mailbox h.3.0 h.3.0 comes (refl, h.3.1, refl) h.3.2) b
    taken_rows (T.Many t) (T.Merge m) h from next frame up b width comes = absurd h
    taken_rows (T.Merge m) t' h from next frame up b width comes = absurd h

  -- ---- of a merge

  pub came_still : (m m' : MergerOf) (from : ℕ) (frame : Option FrameOf) (next : ℕ) (up : Bool) (came : Came) → TellsTakenOfMerge happens port port' m m' came → IsStill (merging m from frame next up) (merging m' from frame next up)
  came_still m m' from frame next up C.Empty h = record { taker = h.2.still; from = refl }
  came_still m m' from frame next up C.Rows h = record { taker = rows_still m m' h.0 h.1 m.given_up h.3; from = refl }
    where
      rows_still : (m m' : MergerOf) (s : ℕ) (f : FrameOf) (b : Bool) → TellsRowsOfMerge s f m m' b → StaysMerger m m'
      rows_still m m' s f true h = h.still
      rows_still m m' s f false h = h.still
  came_still m m' from frame next up C.Word h = record { taker = elim h.2 [ inl o ↦ o.0.still | inr c ↦ c.0.still ]; from = refl }
  came_still m m' from frame next up C.Failed h = record { taker = h.2.still; from = refl }

  -- ---- of any

  -- whether it was given up is what it was
  pub came_given_up : (old new : InputOf) (came : Came) → TellsCame happens port port' old new came → has_given_up new ≡ has_given_up old
  came_given_up old new C.Empty t = t.4.given_up
  came_given_up old new C.Rows t = rows_up old new t.3 t.2 (has_given_up old) t.5
    where
      rows_up : (old new : InputOf) (f : FrameOf) (p : ℕ) (b : Bool) → TellsRows f p old new b → has_given_up new ≡ has_given_up old
      rows_up old new f p true h = h.given_up
      rows_up old new f p false h = h.given_up
  came_given_up old new C.Word t = elim t.4 [ inl o ↦ o.0.given_up | inr c ↦ c.0.given_up ]
  came_given_up old new C.Failed t = t.4.given_up

-- ---- what comes, of an input that is seen whole

up_plain : (t : Taker) (up : Bool) → IsPlain t → up_by t up ≡ up
up_plain (T.One t) up plain = refl
up_plain (T.Many t) up plain = refl
up_plain (T.Merge m) up plain = absurd plain

kept_still : (b : Bool) (f : FrameOf) (x y : InputOf) → IsStill x y → IsStill x (kept_by b f y)
kept_still true f x y s = s
kept_still false f x y s = record { taker = s.taker; from = s.from }

-- the frame that was at hand has gone back
module _ (t : Taker) (from : ℕ) (frame : Option FrameOf) (next : ℕ) (up : Bool) (old mid : InputOf) (view : input_of t from frame next up ≡ old) (e : mid ≡ input_of t from None 0 up) where
  pub moved_still : (t' : Taker) → still_by mid.taker t' → IsStill old (input_of t' mid.from mid.frame mid.next mid.given_up)
  moved_still t' s = subst (λ (x : InputOf). IsStill x (input_of t' mid.from mid.frame mid.next mid.given_up)) view
      (record { taker = subst (λ (x : InputOf). still_by x.taker t') e s; from = ap (λ (x : InputOf). x.from) e })

  pub moved_holds : (t' : Taker) (width : ℕ) → HoldsRows (input_of t' from None 0 up) width → HoldsRows (input_of t' mid.from mid.frame mid.next mid.given_up) width
  moved_holds t' width h = subst (λ (x : InputOf). HoldsRows (input_of t' x.from x.frame x.next x.given_up) width) (sym e) h

  pub moved_none : (t' : Taker) → held_by t' ≡ 0 → held (input_of t' mid.from mid.frame mid.next mid.given_up) ≡ 0
  moved_none t' n = subst (λ (x : InputOf). held_in x.frame + held_by t' ≡ 0) (sym e) (omega (arith, n))

  pub kept_moved_still : (t' : Taker) (f : FrameOf) (new : InputOf) → still_by mid.taker t' → new ≡ kept_by mid.given_up f (input_of t' mid.from mid.frame mid.next mid.given_up) → IsStill old new
  kept_moved_still t' f new s is = subst (IsStill old) (sym is) (kept_still mid.given_up f old (input_of t' mid.from mid.frame mid.next mid.given_up) (moved_still t' s))

  pub kept_moved_holds : (t' : Taker) (f : FrameOf) (new : InputOf) (width : ℕ) → new ≡ kept_by mid.given_up f (input_of t' mid.from mid.frame mid.next mid.given_up)
      → HoldsRows (kept_by up f (input_of t' from None 0 up)) width → HoldsRows new width
  kept_moved_holds t' f new width is h = subst (λ (x : InputOf). HoldsRows x width) (sym is)
      (subst (λ (x : InputOf). HoldsRows (kept_by x.given_up f (input_of t' x.from x.frame x.next x.given_up)) width) (sym e) h)

  pub kept_moved_none : (t' : Taker) (f : FrameOf) (new : InputOf) → IsPlain t → held_by t' ≡ 0 → new ≡ kept_by mid.given_up f (input_of t' mid.from mid.frame mid.next mid.given_up)
      → has_given_up old ≡ true → held new ≡ 0
  kept_moved_none t' f new plain n is gave =
      let gave_is : up ≡ true = sym (up_plain t up plain) ∙ ap (λ (x : InputOf). has_given_up x) view ∙ gave in
      let mid_is : mid.given_up ≡ true = ap (λ (x : InputOf). x.given_up) e ∙ gave_is in
      let now : new ≡ input_of t' mid.from mid.frame mid.next mid.given_up = is ∙ ap (λ (b : Bool). kept_by b f (input_of t' mid.from mid.frame mid.next mid.given_up)) mid_is in
      ap held now ∙ moved_none t' n

pub taken_plain : {P : Type 0} (happens : P → Event → P → Type 0) (port port' : P) (bank bank' : BankOf) (t t' : Taker) (answer : Taken) → TellsTakenBy happens port port' bank bank' t t' answer → IsPlain t
taken_plain happens port port' bank bank' (T.One t) t' answer h = tt
taken_plain happens port port' bank bank' (T.Many t) t' answer h = tt
taken_plain happens port port' bank bank' (T.Merge m) t' answer h = absurd h

-- ---- given up

pub gave_up_merge : (m m' : MergerOf) (from : ℕ) (up : Bool) → M.GivesUp m m' → (width : ℕ) → HoldsRows (merging m' from None 0 up) width
gave_up_merge m m' from up g width = record { rows = λ s low. subst (AllRows width) (sym (g.none s low)) tt; lone = refl }

-- ---- wants

-- one that is done wants nothing
done_wants_by : (t : Taker) (at_hand : List Fields) → done_by t at_hand → wants_by t at_hand → ⊥
done_wants_by (T.One t) at_hand d w = w.1 d.0
done_wants_by (T.Many t) at_hand d w = w.1 d.0
done_wants_by (T.Merge m) at_hand d w = no_bool (sym (d.0 w.0 w.1.there) ∙ w.1.lacks.going)

pub done_wants : (x : InputOf) → IsDone x → Wants x → ⊥
done_wants x d w = done_wants_by x.taker (hand x) d w
