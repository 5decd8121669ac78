-- What one outlet owes, and how it takes rows.
use Rattle.std.proofs.Common.{◌≡◌, ℕ, true, List, [], ◌∷◌, ◌++◌, map, Option, None, Some, refl, sym, ap, subst, ◌∙◌, arith, append-nil, append_assoc, flat_map, Result, Ok, Err, OnErr}
use Rattle.std.specs.List.{AllByRecursion}
use Rattle.std.proofs.lemmas.List.{map-append}
use Rattle.std.proofs.lemmas.Grind.{flat_map-append}
use Rattle.hy_frame.specs.Bank.{BankOf}
use Rattle.hy_frame.specs.Frame.{FrameOf, with_rows}
use Rattle.hy_frame.specs.Row.{Fields}
use Rattle.hy_frame.specs.declared.writer.WriterState.{WriterState}
use Rattle.hy_frame.specs.declared.writer.WriterState.TheVariants.{Opened}
use Rattle.hy_mail.specs.declared.parcel.Parcel.{Parcel}
use Rattle.hy_mail.specs.declared.parcel.Parcel.TheVariants as P
use Rattle.hy_mail.specs.Words.{Leads, may, next}
use Rattle.hy_driver.specs.Rows.{Row, values_of}
use Rattle.hy_connect.specs.Outlets.{OutletOf, Adds, Cuts, Empties, Extends, Grows, HasFilled, HasRows, IsOutlet, IsSendable, Lent, Loses, Sends, emptied, held_in, filled_rows, owed_rows, parcel_rows, waiting_rows}

-- ---- parcels that wait

pub waiting_push : (ws : List Parcel) (p : Parcel) → flat_map parcel_rows (ws ++ p ∷ []) ≡ flat_map parcel_rows ws ++ parcel_rows p
waiting_push ws p = flat_map-append parcel_rows ws (p ∷ []) ∙ ap (λ (x : List Row). flat_map parcel_rows ws ++ x) (append-nil (parcel_rows p))

pub leads_push : (w u : WriterState) (ws : List Parcel) (p : Parcel) → Leads w ws u → may u p ≡ true → Leads w (ws ++ p ∷ []) (next u p)
leads_push w u [] p a m = (subst (λ (s : WriterState). may s p ≡ true) a m, ap (λ (s : WriterState). next s p) a)
leads_push w u (x ∷ ws) p a m = (a.0, leads_push (next w x) u ws p a.1 m)

pub sendable_push : (arity : ℕ) (ws : List Parcel) (p : Parcel) → AllByRecursion (IsSendable arity) ws → IsSendable arity p → AllByRecursion (IsSendable arity) (ws ++ p ∷ [])
sendable_push arity [] p a q = (q, tt)
sendable_push arity (x ∷ ws) p a q = (a.0, sendable_push arity ws p a.1 q)

pub owed_none : (o : OutletOf) → o.filling ≡ None → owed_rows o ≡ waiting_rows o
owed_none o none = ap (λ (f : Option FrameOf). waiting_rows o ++ filled_rows f) none ∙ append-nil (waiting_rows o)

waiting_same : (a b : OutletOf) → b.waits ≡ a.waits → waiting_rows b ≡ waiting_rows a
waiting_same a b e = ap (flat_map parcel_rows) e

-- ---- rows that are taken

pub adds_same : (arity : ℕ) (o : OutletOf) → IsOutlet arity 2 o → Adds arity o [] o
adds_same arity o is = record { mailbox = refl; owed = sym (append-nil (owed_rows o)); word = λ word a. a; outlet = is }

pub adds_then : (arity : ℕ) (a b c : OutletOf) (xs ys : List Row) → Adds arity a xs b → Adds arity b ys c → Adds arity a (xs ++ ys) c
adds_then arity a b c xs ys x y = record {
  mailbox = y.mailbox ∙ x.mailbox;
  owed = y.owed ∙ ap (λ (r : List Row). r ++ ys) x.owed ∙ append_assoc (owed_rows a) xs ys;
  word = λ word l. y.word word (x.word word l);
  outlet = y.outlet;
}

pub adds_cuts : (arity : ℕ) (a b : OutletOf) (xs ys : List Row) → Adds arity a xs b → Cuts arity a (xs ++ ys) b
adds_cuts arity a b xs ys x = record {
  mailbox = x.mailbox;
  lost = filled_rows b.filling ++ ys;
  front = sym (append_assoc (owed_rows a) xs ys) ∙ ap (λ (r : List Row). r ++ ys) (sym x.owed) ∙ append_assoc (waiting_rows b) (filled_rows b.filling) ys;
  word = x.word;
  outlet = x.outlet;
}

pub cuts_more : (arity : ℕ) (a b : OutletOf) (xs ys : List Row) → Cuts arity a xs b → Cuts arity a (xs ++ ys) b
cuts_more arity a b xs ys x = record {
  mailbox = x.mailbox;
  lost = x.lost ++ ys;
  front = sym (append_assoc (owed_rows a) xs ys) ∙ ap (λ (r : List Row). r ++ ys) x.front ∙ append_assoc (waiting_rows b) x.lost ys;
  word = x.word;
  outlet = x.outlet;
}

pub adds_then_cuts : (arity : ℕ) (a b c : OutletOf) (xs ys : List Row) → Adds arity a xs b → Cuts arity b ys c → Cuts arity a (xs ++ ys) c
adds_then_cuts arity a b c xs ys x y = record {
  mailbox = y.mailbox ∙ x.mailbox;
  lost = y.lost;
  front = sym (append_assoc (owed_rows a) xs ys) ∙ ap (λ (r : List Row). r ++ ys) (sym x.owed) ∙ y.front;
  word = λ word l. y.word word (x.word word l);
  outlet = y.outlet;
}

pub cuts_same : (arity : ℕ) (o : OutletOf) (ys : List Row) → IsOutlet arity 2 o → Cuts arity o ys o
cuts_same arity o ys is = adds_cuts arity o o [] ys (adds_same arity o is)

-- ---- frames that are sent

sends_waiting : (old new : OutletOf) (f : FrameOf) → Sends old f new → waiting_rows new ≡ waiting_rows old ++ map values_of f.rows
sends_waiting old new f h = ap (flat_map parcel_rows) h.waits ∙ waiting_push old.waits (P.Frame f)

sends_word : (old new : OutletOf) (f : FrameOf) → Sends old f new → (word : WriterState) → Leads word old.waits Opened → Leads word new.waits Opened
sends_word old new f h word a = subst (λ (ws : List Parcel). Leads word ws Opened) (sym h.waits) (leads_push word Opened old.waits (P.Frame f) a refl)

sends_outlet : (arity : ℕ) (old new : OutletOf) (f : FrameOf) → old.filling ≡ None → AllByRecursion (IsSendable arity) old.waits → HasRows arity f → Sends old f new → IsOutlet arity 2 new
sends_outlet arity old new f none waits rows h = record {
  filling = subst (HasFilled arity) (sym (h.filling ∙ none)) tt;
  waits = subst (AllByRecursion (IsSendable arity)) (sym h.waits) (sendable_push arity old.waits (P.Frame f) waits rows);
  spare = h.spare;
}

pub sends_adds : (arity : ℕ) (old new : OutletOf) (f : FrameOf) → old.filling ≡ None → IsOutlet arity 2 old → HasRows arity f → Sends old f new → Adds arity old (map values_of f.rows) new
sends_adds arity old new f none is rows h = record {
  mailbox = h.mailbox;
  owed = owed_none new (h.filling ∙ none) ∙ sends_waiting old new f h ∙ ap (λ (r : List Row). r ++ map values_of f.rows) (sym (owed_none old none));
  word = sends_word old new f h;
  outlet = sends_outlet arity old new f none is.waits rows h;
}

pub grows_cuts : (arity : ℕ) (old new : OutletOf) (ys : List Row) → IsOutlet arity 2 old → Grows old new → Cuts arity old ys new
grows_cuts arity old new ys is h = record {
  mailbox = h.mailbox;
  lost = filled_rows old.filling ++ ys;
  front = append_assoc (waiting_rows old) (filled_rows old.filling) ys ∙ ap (λ (r : List Row). r ++ (filled_rows old.filling ++ ys)) (sym (waiting_same old new h.waits));
  word = λ word a. subst (λ (ws : List Parcel). Leads word ws Opened) (sym h.waits) a;
  outlet = record {
    filling = subst (HasFilled arity) (sym h.filling) is.filling;
    waits = subst (AllByRecursion (IsSendable arity)) (sym h.waits) is.waits;
    spare = let s = is.spare in let t = h.spare in omega arith;
  };
}

-- ---- the frame that is filled

push_some : (rows : List Fields) (row : Fields) → rows ++ row ∷ [] ≡ [] → ⊥
push_some [] row e = cc
push_some (x ∷ rows) row e = cc

pub extended_adds : (arity : ℕ) (old : OutletOf) (frame : FrameOf) (row : Fields) → old.filling ≡ Some frame → IsOutlet arity 2 old
    → Adds arity old (values_of row ∷ []) (record { mailbox = old.mailbox; filling = Some (with_rows frame (frame.rows ++ row ∷ [])); waits = old.waits; spare = old.spare })
extended_adds arity old frame row was is = record {
  mailbox = refl;
  owed = ap (λ (r : List Row). waiting_rows old ++ r) (map-append values_of frame.rows (row ∷ [])) ∙ sym (append_assoc (waiting_rows old) (map values_of frame.rows) (values_of row ∷ []))
      ∙ ap (λ (f : Option FrameOf). (waiting_rows old ++ filled_rows f) ++ values_of row ∷ []) (sym was);
  word = λ word a. a;
  outlet = record {
    filling = let rows : HasRows arity frame = subst (HasFilled arity) was is.filling in record { wide = rows.wide; some = push_some frame.rows row };
    waits = is.waits;
    spare = is.spare;
  };
}

pub extends_adds : (arity : ℕ) (old new : OutletOf) (row : Fields) → IsOutlet arity 2 old → Extends old row new → Adds arity old (values_of row ∷ []) new
extends_adds arity old new row is h = subst (Adds arity old (values_of row ∷ [])) (sym h.is) (extended_adds arity old h.frame row h.was is)

one_some : (rows : List Fields) (row : Fields) → rows ≡ row ∷ [] → rows ≡ [] → ⊥
one_some rows row e n = cc

-- a frame with one row is begun
pub begun_adds : (arity : ℕ) (old new : OutletOf) (frame : FrameOf) (row : Fields) → frame.arity ≡ arity → frame.rows ≡ row ∷ [] → old.filling ≡ None → new.mailbox ≡ old.mailbox → new.filling ≡ Some frame → new.waits ≡ old.waits → new.spare ≡ old.spare
    → IsOutlet arity 2 old → Adds arity old (values_of row ∷ []) new
begun_adds arity old new frame row wide rows none mailbox filling waits spare is = record {
  mailbox = mailbox;
  owed = ap (λ (f : Option FrameOf). waiting_rows new ++ filled_rows f) filling ∙ ap (λ (r : List Fields). waiting_rows new ++ map values_of r) rows
      ∙ ap (λ (r : List Row). r ++ values_of row ∷ []) (waiting_same old new waits ∙ sym (owed_none old none));
  word = λ word a. subst (λ (ws : List Parcel). Leads word ws Opened) (sym waits) a;
  outlet = record {
    filling = subst (HasFilled arity) (sym filling) (record { wide = wide; some = one_some frame.rows row rows });
    waits = subst (AllByRecursion (IsSendable arity)) (sym waits) is.waits;
    spare = let s = is.spare in omega arith;
  };
}

-- ---- what was filled waits

pub none_empties : (arity : ℕ) (old : OutletOf) → old.filling ≡ None → IsOutlet arity 2 old → Empties arity old (emptied old)
none_empties arity old none is = record {
  filling = refl;
  adds = record {
    mailbox = refl;
    owed = append-nil (waiting_rows old) ∙ sym (owed_none old none) ∙ sym (append-nil (owed_rows old));
    word = λ word a. a;
    outlet = record { filling = tt; waits = is.waits; spare = is.spare };
  };
}

pub some_empties : (arity : ℕ) (old new : OutletOf) (frame : FrameOf) → old.filling ≡ Some frame → IsOutlet arity 2 old → Sends (emptied old) frame new → Empties arity old new
some_empties arity old new frame was is h = record {
  filling = h.filling;
  adds = record {
    mailbox = h.mailbox;
    owed = owed_none new h.filling ∙ sends_waiting (emptied old) new frame h ∙ ap (λ (f : Option FrameOf). waiting_rows old ++ filled_rows f) (sym was) ∙ sym (append-nil (owed_rows old));
    word = sends_word (emptied old) new frame h;
    outlet = sends_outlet arity (emptied old) new frame refl is.waits (subst (HasFilled arity) was is.filling) h;
  };
}

pub some_loses : (arity : ℕ) (old new : OutletOf) → IsOutlet arity 2 old → Grows (emptied old) new → Loses arity old new
some_loses arity old new is h = record {
  filling = h.filling;
  cuts = record {
    mailbox = h.mailbox;
    lost = filled_rows old.filling ++ [];
    front = append_assoc (waiting_rows old) (filled_rows old.filling) [] ∙ ap (λ (r : List Row). r ++ (filled_rows old.filling ++ [])) (sym (waiting_same old new h.waits));
    word = λ word a. subst (λ (ws : List Parcel). Leads word ws Opened) (sym h.waits) a;
    outlet = record {
      filling = subst (HasFilled arity) (sym h.filling) tt;
      waits = subst (AllByRecursion (IsSendable arity)) (sym h.waits) is.waits;
      spare = let s = is.spare in let t = h.spare in omega arith;
    };
  };
}

-- ---- a row that is added

pub empties_adds : (arity : ℕ) (a b c : OutletOf) (ys : List Row) → Empties arity a b → Adds arity b ys c → Adds arity a ys c
empties_adds arity a b c ys x y = adds_then arity a b c [] ys x.adds y

pub empties_cuts : (arity : ℕ) (a b : OutletOf) (ys : List Row) → Empties arity a b → Cuts arity a ys b
empties_cuts arity a b ys x = adds_cuts arity a b [] ys x.adds

pub loses_cuts : (arity : ℕ) (a b : OutletOf) (ys : List Row) → Loses arity a b → Cuts arity a ys b
loses_cuts arity a b ys x = cuts_more arity a b [] ys x.cuts

-- behind a row that did not fit, by what became of the frame that was filled
pub append_loses : (arity : ℕ) (old mid new : OutletOf) (ys : List Row) → mid ≡ old → IsOutlet arity 2 old → ((n : ℕ) → IsOutlet n 2 mid → Loses n mid new) → Cuts arity old ys new
append_loses arity old mid new ys e is h = loses_cuts arity old new ys (subst (λ (o : OutletOf). Loses arity o new) e (h arity (subst (IsOutlet arity 2) (sym e) is)))

append_empties : (arity : ℕ) (old mid new : OutletOf) → mid ≡ old → IsOutlet arity 2 old → ((n : ℕ) → IsOutlet n 2 mid → Empties n mid new) → Empties arity old new
append_empties arity old mid new e is h = subst (λ (o : OutletOf). Empties arity o new) e (h arity (subst (IsOutlet arity 2) (sym e) is))

pub append_none : (arity : ℕ) (old mid new : OutletOf) → mid ≡ old → IsOutlet arity 2 old → ((n : ℕ) → IsOutlet n 2 mid → Empties n mid new) → new.filling ≡ None
append_none arity old mid new e is h = (append_empties arity old mid new e is h).filling

pub append_begins : (arity : ℕ) (old mid empty new : OutletOf) (ys : List Row) → mid ≡ old → IsOutlet arity 2 old → ((n : ℕ) → IsOutlet n 2 mid → Empties n mid empty) → (IsOutlet arity 2 empty → Adds arity empty ys new) → Adds arity old ys new
append_begins arity old mid empty new ys e is h begins =
    let x = append_empties arity old mid empty e is h in
    empties_adds arity old empty new ys x (begins x.adds.outlet)

pub append_stops : (arity : ℕ) (old mid empty new : OutletOf) (ys : List Row) → mid ≡ old → IsOutlet arity 2 old → ((n : ℕ) → IsOutlet n 2 mid → Empties n mid empty) → new ≡ empty → Cuts arity old ys new
append_stops arity old mid empty new ys e is h same = subst (Cuts arity old ys) (sym same) (empties_cuts arity old empty ys (append_empties arity old mid empty e is h))

-- what is lent, where the frame that was filled is gone
pub lent_gone : (old mid new : OutletOf) (p q : BankOf) → mid ≡ old → new.filling ≡ None → Lent (held_in mid.filling) 0 p q → Lent (held_in old.filling) (held_in new.filling) p q
lent_gone old mid new p q e none x = record {
  out =
      let a : held_in mid.filling ≡ held_in old.filling = ap (λ (o : OutletOf). held_in o.filling) e in
      let b : held_in new.filling ≡ 0 = ap held_in none in
      let s = x.out in
      omega arith;
  unit = x.unit;
  limit = x.limit;
}

-- what is known anyway
pub err_given : {T E P : Type 0} (r : Result T E) → P → OnErr r P
err_given (Ok x) p = tt
err_given (Err e) p = p
