-- Each kind of step keeps the rule of a mailbox.
use Rattle.std.proofs.Common.{◌≡◌, ◌≢◌, ◌<◌, ◌≤◌, ◌+◌, ◌==◌, ◌⊎◌, ℕ, zero, suc, Bool, true, false, List, [], ◌∷◌, ◌++◌, length, get_or, set, sym, refl, ap, ◌∙◌, subst, Option, Some, None, inl, inr, append_assoc, append-nil, arith, eq-eqb, length-append}
use Rattle.std.specs.Prelude.{All, if◌then◌else◌, map}
use Rattle.std.specs.List.{Contains}
use Rattle.std.proofs.lemmas.List.{length-map, get_or-map}
use Rattle.std.proofs.lemmas.Bool.{cases_Bool, cases_lt}
use Rattle.std.proofs.lemmas.List.{get_or_append_left}
use Rattle.std.proofs.lemmas.List.Elements.{All-head, All-nil, All-push, All-tail}
use Rattle.std.proofs.Math.Seq.{get_or-append_seam}
use borrow.Author.Tests.{eqb-true}
use mathlib.Core.Option.{some, some-ne-none, some-injective}
use lib.ListN.{get_elem?}
use Rattle.crossbeam_queue.specs.Fifo.{Pushes, Pops, Forks, Merges, Learns}
use Rattle.crossbeam_queue.proofs.Lists.{at_last, at_longer, at_set, set_else, set_here}
use Rattle.hy_frame.specs.declared.writer.WriterState.{WriterState}
use Rattle.hy_frame.specs.declared.writer.WriterState.TheVariants.{Initial}
use Rattle.hy_mail.specs.declared.parcel.Parcel.{Parcel}
use Rattle.hy_mail.specs.declared.parcel.Parcel.TheVariants.{Open, Close}
use Rattle.hy_mail.specs.declared.parcel.Posted.{Posted}
use Rattle.hy_mail.specs.declared.rule.MailView.{MailView}
use Rattle.hy_mail.specs.DeskRuns.{of_sender}
use Rattle.hy_mail.specs.Desks.{IsPostedIn}
use Rattle.hy_mail.specs.MailLaws.{HeldIsPosted, NumbersAreApart, OneTakes, PutIsTakenOrHeld}
use Rattle.hy_mail.specs.Mails.{Fits, FitsSender, FitsTaker, HasPass, IsSender, KnowsAll, KnowsPut, KnowsWords, Ledger, Mails, Popped, dealt, joined, maker, popping, pushing, sender, spent}
use Rattle.hy_mail.specs.Passes.{SendState, Settles}
use Rattle.hy_mail.specs.Words.{HasArity, IsWordSoFar, may, next}
use Rattle.hy_mail.proofs.Posts.{differs, none_some, of_append, same_some}
use Rattle.hy_mail.proofs.WordLaws.{all_taken, leads, leads_on}

-- ---- views by their places

abbrev AllViews : (ℕ → MailView → Type 0) → List MailView → Type 0
AllViews F views = (pass : ℕ) (v : MailView) → get_elem? views pass ≡ some v → F pass v

all_set : (F : ℕ → MailView → Type 0) (views : List MailView) (pass : ℕ) (w : MailView) → F pass w
    → ((j : ℕ) (u : MailView) → j ≢ pass → get_elem? views j ≡ some u → F j u) → AllViews F (set views pass w)
all_set F views pass w mine others j u e =
    elim (at_set views pass j w u e) [
      | inl x ↦ subst (λ (y : ℕ × MailView). F y.0 y.1) (λ i. (sym x.0 i, x.1 i)) mine
      | inr x ↦ others j u x.0 x.1
    ]

snoc_at : (l : List MailView) (r u : MailView) (j : ℕ) → get_elem? (l ++ r ∷ []) j ≡ some u → (get_elem? l j ≡ some u) ⊎ ((j ≡ length l) × (r ≡ u))
snoc_at [] r u zero e = inr (refl, some-injective r u e)
snoc_at [] r u (suc j) e = absurd (some-ne-none u (sym e))
snoc_at (x ∷ xs) r u zero e = inl e
snoc_at (x ∷ xs) r u (suc j) e = elim (snoc_at xs r u j e) [ inl y ↦ inl y | inr y ↦ inr (ap suc y.0, y.1) ]

there : (xs : List MailView) (i : ℕ) (x : MailView) → get_elem? xs i ≡ some x → i < length xs
there [] i x e = absurd (some-ne-none x (sym e))
there (y ∷ ys) zero x e = omega arith
there (y ∷ ys) (suc i) x e = let r = there ys i x e in omega arith

-- what stood in a place stands there after a change of another
stays : (xs : List MailView) (i j : ℕ) (a x : MailView) → j ≢ i → get_elem? xs j ≡ some x → get_elem? (set xs i a) j ≡ some x
stays xs i j a x apart e = set_else xs i j a apart ∙ e

true_false : (b : Bool) → b ≡ true → b ≡ false → ⊥
true_false b t f = clash (sym t ∙ f)
  where
    clash : ◌≡◌ {A = Bool} true false → ⊥
    clash e = cc

-- ---- a push

-- what a sender put, with one more parcel of x's sender
abbrev with_put : (ℕ → List Parcel) → Posted → ℕ → List Parcel
with_put sent x p = if x.from == p then sent p ++ (x.parcel ∷ []) else sent p

abbrev after_push : Ledger → Posted → Ledger
after_push l x = record l { sent = with_put l.sent x }

grown : (p : ℕ) (ms : List Posted) (x : Posted) (sent : ℕ → List Parcel) → of_sender p ms ≡ sent p → of_sender p (ms ++ (x ∷ [])) ≡ with_put sent x p
unfolding of_sender
grown p ms x sent e =
    of_append p ms (x ∷ []) ∙ elim (cases_Bool (x.from == p)) [
      | inl y ↦ rw (y, e) refl
      | inr n ↦ rw (n, e) (append-nil (sent p))
    ]

put_here : (sent : ℕ → List Parcel) (x : Posted) (p : ℕ) → p ≡ x.from → with_put sent x p ≡ sent p ++ (x.parcel ∷ [])
put_here sent x p e = let t = eq-eqb x.from p (sym e) in rw t refl

put_else : (sent : ℕ → List Parcel) (x : Posted) (p : ℕ) → x.from ≢ p → with_put sent x p ≡ sent p
put_else sent x p n = let t = differs x.from p n in rw t refl

word_with : (sent : ℕ → List Parcel) (x : Posted) → IsWordSoFar (sent x.from ++ (x.parcel ∷ [])) → ((p : ℕ) → IsWordSoFar (sent p)) → (p : ℕ) → IsWordSoFar (with_put sent x p)
word_with sent x far all p =
    elim (cases_Bool (x.from == p)) [
      | inl y ↦ rw y (subst (λ q. IsWordSoFar (sent q ++ (x.parcel ∷ []))) (eqb-true x.from p y) far)
      | inr n ↦ rw n (all p)
    ]

pub puts : (n pass : ℕ) (v : MailView) (x : Posted) → v.sends ≡ true → v.takes ≡ false → v.from ≡ x.from → HasArity v.arity x.parcel → IsWordSoFar (v.put ++ x.parcel ∷ [])
    → Pushes Mails n pass v x (λ w. w ≡ pushing v x)
puts n pass v x sends quiet numbered arity far items views room h at =
    let l = h.0 in
    let k = h.1 in
    let mine = (k.fits pass v at).sender sends in
    let home : l.seat x.from ≡ Some pass = ap l.seat (sym numbered) ∙ mine.seat in
    let seated : (p : ℕ) → l.seat p ≡ None → with_put l.sent x p ≡ l.sent p = λ p none. put_else l.sent x p (λ same. none_some pass (sym none ∙ ap l.seat (sym same) ∙ home)) in
    let below : x.from < l.made = subst (λ f. f < l.made) numbered mine.below in
    let m = after_push l x in
    let taking : (j : ℕ) (u : MailView) → FitsTaker l j u → FitsTaker m j u =
    λ j u f. record { only = f.only; took = f.took; made = f.made; arity = f.arity; gone = f.gone; known = λ i lt. f.known i lt ∙ sym (seated i (k.ended i lt)) } in (
      pushing v x,
      (
        m,
        record {
          delivered = λ p. ap (of_sender p) (sym (append_assoc l.took items (x ∷ []))) ∙ grown p (l.took ++ items) x l.sent (k.delivered p);
          words = word_with l.sent x (subst (λ f. IsWordSoFar (f ++ x.parcel ∷ [])) (mine.put ∙ ap l.sent numbered) far) k.words;
          posted = All-push (IsPostedIn l.made l.arity) items x k.posted (below, subst (λ a. HasArity a x.parcel) mine.arity arity);
          alive = λ p from lt.
              let a = k.alive p from lt in
              elim (cases_Bool (a.pass == pass)) [
                | inl y ↦
                    let same = eqb-true a.pass pass y in
                    let view : a.view ≡ v = some-injective a.view v (sym a.there ∙ ap (get_elem? views) same ∙ at) in
                    record { pass = pass; view = pushing v x; seat = ap l.seat refl ∙ a.seat ∙ ap (λ q. Some q) same; there = set_here views pass (pushing v x) (there views pass v at); sends = sends; from = ap (λ (u : MailView). u.from) (sym view) ∙ a.from }
                | inr n ↦ record { pass = a.pass; view = a.view; seat = a.seat; there = stays views pass a.pass (pushing v x) a.view (λ e. true_false (a.pass == pass) (eq-eqb a.pass pass e) n) a.there; sends = a.sends; from = a.from }
              ];
          ended = k.ended;
          later = λ p le. ((k.later p le).0, seated p (k.later p le).0 ∙ (k.later p le).1);
          gone = k.gone;
          fits = all_set (Fits m) views pass (pushing v x)
              (record {
                sender = λ s. record { seat = mine.seat; put = ap (λ f. f ++ x.parcel ∷ []) mine.put ∙ sym (put_here l.sent x v.from numbered); below = mine.below; arity = mine.arity };
                taker = λ t. absurd (true_false v.takes t quiet);
                silent = λ s. absurd (true_false v.sends sends s);
                idle = (k.fits pass v at).idle;
              })
              (λ j u other e.
              let f = k.fits j u e in
              record {
                sender = λ s.
                    let g = f.sender s in
                    record { seat = g.seat; put = g.put ∙ sym (put_else l.sent x u.from (λ same. other (same_some j pass (sym g.seat ∙ ap l.seat (sym same) ∙ home)))); below = g.below; arity = g.arity };
                taker = λ t. taking j u (f.taker t);
                silent = f.silent;
                idle = f.idle;
              });
        },
      ),
      refl,
    )

pub learns_put : (pass : ℕ) (v : MailView) → v.sends ≡ true → Learns Mails pass v (KnowsPut v)
learns_put pass v s items views h at = (h.0.took, h.1.delivered v.from ∙ sym ((h.1.fits pass v at).sender s).put)

-- ---- a pop

-- a place that holds a sender's view is another than one that holds none
not_there : (views : List MailView) (i j : ℕ) (u v : MailView) → get_elem? views j ≡ some u → u.sends ≡ true → get_elem? views i ≡ some v → v.sends ≡ false → j ≢ i
not_there views i j u v at s at2 quiet same =
    let view : u ≡ v = some-injective u v (sym at ∙ ap (get_elem? views) same ∙ at2) in
    true_false u.sends s (ap (λ (w : MailView). w.sends) view ∙ quiet)

-- a change of the taker's view leaves the senders'
alive_beside : (l m : Ledger) (views : List MailView) (pass : ℕ) (v w : MailView) (p : ℕ) → get_elem? views pass ≡ some v → v.sends ≡ false → m.seat p ≡ l.seat p → HasPass l views p → HasPass m (set views pass w) p
alive_beside l m views pass v w p at quiet same a =
    record {
      pass = a.pass;
      view = a.view;
      seat = same ∙ a.seat;
      sends = a.sends;
      from = a.from;
      there = stays views pass a.pass w a.view (not_there views pass a.pass a.view v a.there a.sends at quiet) a.there;
    }

pub takes : (pass : ℕ) (v : MailView) → v.takes ≡ true → v.sends ≡ false → Pops Mails pass v (Popped v)
takes pass v t quiet x items views h at =
    let l = h.0 in
    let k = h.1 in
    let f = (k.fits pass v at).taker t in
    let m : Ledger = record l { took = l.took ++ x ∷ [] } in
    let front = All-head (IsPostedIn l.made l.arity) x items k.posted in (
      popping v x,
      (
        m,
        record {
          delivered = λ p. ap (of_sender p) (append_assoc l.took (x ∷ []) items) ∙ k.delivered p;
          words = k.words;
          posted = All-tail (IsPostedIn l.made l.arity) x items k.posted;
          alive = λ p from lt. alive_beside l m views pass v (popping v x) p at quiet refl (k.alive p from lt);
          ended = k.ended;
          later = k.later;
          gone = k.gone;
          fits = all_set (Fits m) views pass (popping v x)
              (record {
                sender = λ s. absurd (true_false v.sends s quiet);
                taker = λ _. record { only = f.only; took = ap (λ q. q ++ x ∷ []) f.took; made = f.made; arity = f.arity; gone = f.gone; known = f.known };
                silent = (k.fits pass v at).silent;
                idle = λ i. absurd (true_false v.takes t i);
              })
              (λ j u other e.
              let g = k.fits j u e in
              record {
                sender = λ s. let q = g.sender s in record { seat = q.seat; put = q.put; below = q.below; arity = q.arity };
                taker = λ y. absurd (other ((g.taker y).only ∙ sym f.only));
                silent = g.silent;
                idle = g.idle;
              });
        },
      ),
      (refl, (subst (λ n. x.from < n) (sym f.made) front.0, subst (λ a. HasArity a x.parcel) (sym f.arity) front.1)),
    )

pub learns_words : (pass : ℕ) (v : MailView) → v.takes ≡ true → Learns Mails pass v (KnowsWords v)
learns_words pass v t items views h at p =
    let f = (h.1.fits pass v at).taker t in
    subst IsWordSoFar (sym (ap (λ q. of_sender p (q ++ items)) f.took ∙ h.1.delivered p)) (h.1.words p)

pub learns : (pass : ℕ) (v : MailView) → v.takes ≡ true → Learns Mails pass v (KnowsAll v)
learns pass v t items views h at i lt =
    let f = (h.1.fits pass v at).taker t in
    let known = f.known i (subst (λ n. i < n) f.gone lt) in
    (ap (λ q. of_sender i (q ++ items)) f.took ∙ h.1.delivered i ∙ sym known, subst IsWordSoFar (sym known) (h.1.words i))

-- ---- numbers of passes

-- a number's pass, once it is dealt or taken in
abbrev with_seat : (ℕ → Option ℕ) → ℕ → Option ℕ → ℕ → Option ℕ
with_seat seat p o q = if q == p then o else seat q

seat_here : (seat : ℕ → Option ℕ) (p : ℕ) (o : Option ℕ) → with_seat seat p o p ≡ o
seat_here seat p o = let t = eq-eqb p p refl in rw t refl

seat_else : (seat : ℕ → Option ℕ) (p : ℕ) (o : Option ℕ) (q : ℕ) → q ≢ p → with_seat seat p o q ≡ seat q
seat_else seat p o q n = let t = differs q p n in rw t refl

-- ---- a number is dealt

-- with no number dealt there is nothing in the mailbox
none_posted : (arity arity2 n : ℕ) (items : List Posted) → All (IsPostedIn 0 arity) items → All (IsPostedIn n arity2) items
none_posted arity arity2 n items all = λ i d lt. let low = (all i d lt).0 in absurd (omega arith)

posted_on : (made a b : ℕ) (items : List Posted) → (made ≡ 0) ⊎ (a ≡ b) → All (IsPostedIn made a) items → All (IsPostedIn (made + 1) b) items
posted_on made a b items (inl is) all = none_posted a b (made + 1) items (subst (λ n. All (IsPostedIn n a) items) is all)
posted_on made a b items (inr is) all = λ i d lt. let x = all i d lt in let low = x.0 in (omega arith, subst (λ c. HasArity c (get_or items i d).parcel) is x.1)

pub deals : (pass arity : ℕ) (v : MailView) → v.takes ≡ true → v.sends ≡ false → (v.made ≡ 0) ⊎ (v.arity ≡ arity) → Forks Mails pass v (dealt arity v) (sender v.made arity)
deals pass arity v t quiet first items views h at =
    let l = h.0 in
    let k = h.1 in
    let left : MailView = dealt arity v in
    let right : MailView = sender v.made arity in
    let vs : List MailView = set views pass left in
    let f = (k.fits pass v at).taker t in
    let m : Ledger = record l { seat = with_seat l.seat v.made (Some (length vs)); made = l.made + 1; arity = arity } in
    let begun : (l.made ≡ 0) ⊎ (l.arity ≡ arity) = elim first [ inl z ↦ inl (sym f.made ∙ z) | inr s ↦ inr (sym f.arity ∙ s) ] in
    let free : l.seat v.made ≡ None = (k.later v.made (subst (λ n. l.made ≤ n) (sym f.made) (omega arith))).0 in
    let far : (p : ℕ) → p ≢ v.made → m.seat p ≡ l.seat p = seat_else l.seat v.made (Some (length vs)) in
    let sending : (j : ℕ) (u : MailView) → FitsSender l j u → FitsSender m j u =
    λ j u g.
    let low = g.below in
    record {
      seat = far u.from (λ same. none_some j (sym free ∙ ap l.seat (sym same) ∙ g.seat)) ∙ g.seat;
      put = g.put;
      below = omega arith;
      arity = elim begun [ inl z ↦ absurd (omega arith) | inr s ↦ g.arity ∙ s ];
    } in
    let old : AllViews (Fits m) vs =
    all_set (Fits m) views pass left
    (record {
      sender = λ s. absurd (true_false v.sends s quiet);
      taker = λ _. record { only = f.only; took = f.took; made = ap (λ n. n + 1) f.made; arity = refl; gone = f.gone; known = f.known };
      silent = (k.fits pass v at).silent;
      idle = λ i. absurd (true_false v.takes t i);
    })
    (λ j u other e.
    let g = k.fits j u e in
    record { sender = λ s. sending j u (g.sender s); taker = λ y. absurd (other ((g.taker y).only ∙ sym f.only)); silent = g.silent; idle = g.idle }) in (
      m,
      record {
        delivered = k.delivered;
        words = k.words;
        posted = posted_on l.made l.arity arity items begun k.posted;
        alive = λ p from lt.
            elim (cases_Bool (p == v.made)) [
              | inl y ↦
                  let same = eqb-true p v.made y in
                  record { pass = length vs; view = right; seat = ap m.seat same ∙ seat_here l.seat v.made (Some (length vs)); there = at_last vs right (length vs) refl; sends = refl; from = sym same }
              | inr n ↦
                  let apart : p ≢ v.made = λ e. true_false (p == v.made) (eq-eqb p v.made e) n in
                  let same = f.made in
                  let a = alive_beside l m views pass v left p at quiet (far p apart) (k.alive p from (omega arith)) in
                  record { pass = a.pass; view = a.view; seat = a.seat; there = at_longer vs (right ∷ []) a.pass a.view a.there; sends = a.sends; from = a.from }
            ];
        ended = λ p lt. let g = k.gone in let same = f.made in far p (omega arith) ∙ k.ended p lt;
        later = λ p le. let same = f.made in let apart : p ≢ v.made = omega arith in (far p apart ∙ (k.later p (omega arith)).0, (k.later p (omega arith)).1);
        gone = let g = k.gone in omega arith;
        fits = λ j u e. elim (snoc_at vs right u j e) [
          | inl x ↦ old j u x
          | inr x ↦ subst (λ (y : ℕ × MailView). Fits m y.0 y.1) (λ i. (sym x.0 i, x.1 i))
              (record {
                sender = λ _. let same = f.made in record { seat = seat_here l.seat v.made (Some (length vs)); put = sym (k.later v.made (omega arith)).1; below = omega arith; arity = refl };
                taker = λ y. absurd (true_false false y refl);
                silent = λ y. absurd (true_false true refl y);
                idle = λ _. (refl, refl);
              })
        ];
      },
    )

-- ---- a pass is taken in

pub absorbs : (pass : ℕ) (v : MailView) (other : ℕ) (u : MailView) → v.takes ≡ true → v.sends ≡ false → u.sends ≡ true → u.from ≡ length v.known
    → Merges Mails pass v other u (joined v u) spent
absorbs pass v other u t quiet s next items views h at two at2 =
    let l = h.0 in
    let k = h.1 in
    let both : MailView = joined v u in
    let vs : List MailView = set views pass both in
    let was : get_elem? views other ≡ some u = elim (at_set views pass other both u at2) [ inl x ↦ absurd (two x.0) | inr x ↦ x.1 ] in
    let theirs = (k.fits other u was).sender s in
    let f = (k.fits pass v at).taker t in
    let m : Ledger = record l { seat = with_seat l.seat u.from None; gone = l.gone + 1 } in
    let number : u.from ≡ l.gone = next ∙ f.gone in
    let far : (p : ℕ) → p ≢ u.from → m.seat p ≡ l.seat p = seat_else l.seat u.from None in
    let sending : (j : ℕ) (y : MailView) → j ≢ other → FitsSender l j y → FitsSender m j y =
    λ j y apart g. record { seat = far y.from (λ same. apart (same_some j other (sym g.seat ∙ ap l.seat same ∙ theirs.seat))) ∙ g.seat; put = g.put; below = g.below; arity = g.arity } in
    let knows : (i : ℕ) → i < l.gone + 1 → get_or (v.known ++ u.put ∷ []) i [] ≡ l.sent i =
    λ i lt. let len = f.gone in
    elim (cases_lt i l.gone) [
      | inl low ↦ get_or_append_left v.known (u.put ∷ []) [] i (omega arith) ∙ f.known i low
      | inr ge ↦
          let last : i ≡ length v.known = omega arith in
          ap (λ j. get_or (v.known ++ u.put ∷ []) j []) last ∙ get_or-append_seam v.known u.put [] [] ∙ theirs.put ∙ ap l.sent (next ∙ sym last)
    ] in
    let now : (j : ℕ) (y : MailView) → j ≢ other → get_elem? vs j ≡ some y → Fits m j y =
    λ j y apart e. elim (at_set views pass j both y e) [
      | inl x ↦ subst (λ (z : ℕ × MailView). Fits m z.0 z.1) (λ i. (sym x.0 i, x.1 i))
          (record {
            sender = λ q. absurd (true_false v.sends q quiet);
            taker = λ _. record { only = f.only; took = f.took; made = f.made; arity = f.arity; gone = let len = f.gone in omega (arith, length-append v.known (u.put ∷ [])); known = knows };
            silent = (k.fits pass v at).silent;
            idle = λ i. absurd (true_false v.takes t i);
          })
      | inr x ↦
          let g = k.fits j y x.1 in
          record { sender = λ q. sending j y apart (g.sender q); taker = λ q. absurd (x.0 ((g.taker q).only ∙ sym f.only)); silent = g.silent; idle = g.idle }
    ] in (
      m,
      record {
        delivered = k.delivered;
        words = k.words;
        posted = k.posted;
        alive = λ p from lt.
            let apart : p ≢ u.from = omega arith in
            let a = alive_beside l m views pass v both p at quiet (far p apart) (k.alive p (omega arith) lt) in
            let elsewhere : a.pass ≢ other = λ same. apart (sym a.from ∙ ap (λ (y : MailView). y.from) (some-injective a.view u (sym a.there ∙ ap (get_elem? vs) same ∙ at2))) in
            record { pass = a.pass; view = a.view; seat = a.seat; there = stays vs other a.pass spent a.view elsewhere a.there; sends = a.sends; from = a.from };
        ended = λ p lt.
            elim (cases_Bool (p == u.from)) [
              | inl y ↦ ap m.seat (eqb-true p u.from y) ∙ seat_here l.seat u.from None
              | inr n ↦ let apart : p ≢ u.from = λ e. true_false (p == u.from) (eq-eqb p u.from e) n in far p apart ∙ k.ended p (omega arith)
            ];
        later = λ p le. let low = theirs.below in let apart : p ≢ u.from = omega arith in (far p apart ∙ (k.later p le).0, (k.later p le).1);
        gone = let low = theirs.below in omega arith;
        fits = all_set (Fits m) vs other spent
            (record { sender = λ q. absurd (true_false false q refl); taker = λ q. absurd (true_false false q refl); silent = λ _. refl; idle = λ _. (refl, refl) })
            (λ j y apart e. now j y apart e);
      },
    )

-- ---- the beginning

pub begins : Mails [] (maker ∷ [])
unfolding of_sender
begins = (
  record { taker = 0; seat = λ _. None; sent = λ _. []; took = []; made = 0; gone = 0; arity = 0 },
  record {
    delivered = λ p. refl;
    words = λ p. (Open ∷ Close ∷ [], tt);
    posted = All-nil (IsPostedIn 0 0);
    alive = λ p le lt. absurd (omega arith);
    ended = λ p lt. refl;
    later = λ p le. (refl, refl);
    gone = omega arith;
    fits = only;
  },
)
  where
    only : (pass : ℕ) (v : MailView) → get_elem? (maker ∷ []) pass ≡ some v → Fits (record { taker = 0; seat = λ _. None; sent = λ _. []; took = []; made = 0; gone = 0; arity = 0 }) pass v
    only zero v e = subst (Fits (record { taker = 0; seat = λ _. None; sent = λ _. []; took = []; made = 0; gone = 0; arity = 0 }) 0) (some-injective maker v e)
        (record {
          sender = λ s. absurd (true_false false s refl);
          taker = λ _. record { only = refl; took = refl; made = refl; arity = refl; gone = refl; known = λ k lt. absurd (omega arith) };
          silent = λ _. refl;
          idle = λ i. absurd (true_false true refl i);
        })
    only (suc pass) v e = absurd (some-ne-none v (sym e))

-- ---- what the rule says

pub one_takes : OneTakes
one_takes items views h i j t u at at2 p q = ((h.1.fits i t at).taker p).only ∙ sym ((h.1.fits j u at2).taker q).only

pub numbers_apart : NumbersAreApart
numbers_apart items views h i j v w at at2 p q same = same_some i j (sym ((h.1.fits i v at).sender p).seat ∙ ap h.0.seat same ∙ ((h.1.fits j w at2).sender q).seat)

pub put_is : PutIsTakenOrHeld
put_is items views h i j t v at at2 p q =
    let f = (h.1.fits i t at).taker p in
    let g = (h.1.fits j v at2).sender q in
    (g.put ∙ sym (h.1.delivered v.from) ∙ ap (λ l. of_sender v.from (l ++ items)) (sym f.took), subst IsWordSoFar (sym g.put) (h.1.words v.from))

pub held_is : HeldIsPosted
held_is items views h i t at p =
    let f = (h.1.fits i t at).taker p in
    subst (λ n. All (IsPostedIn n t.arity) items) (sym f.made) (subst (λ a. All (IsPostedIn h.0.made a) items) (sym f.arity) h.1.posted)

-- ---- passes

-- a sender that has put what may come next is one whose word has come further
pub sender_on : (number : ℕ) (word after : WriterState) (v w : MailView) (x : Posted) → w ≡ pushing v x → IsSender number word v → may word x.parcel ≡ true → after ≡ next word x.parcel → IsSender number after w
sender_on number word after v w x is s fits on =
    subst (IsSender number after) (sym is)
    (record { sends = s.sends; takes = s.takes; from = s.from; leads = leads_on Initial word after v.put (x.parcel ∷ []) s.leads (fits, on) })

-- once all senders were taken in, and each one's Close was taken, what was taken of each is what it put
pub settles : (senders : List SendState) (took items : List Posted) (known : List (List Parcel)) → known ≡ map (λ (s : SendState). s.put) senders
    → ((k : ℕ) → k < length known → (of_sender k (took ++ items) ≡ get_or known k []) × IsWordSoFar (get_or known k []))
    → ((k : ℕ) → k < length senders → Contains (of_sender k took) Close) → Settles senders took
settles senders took items known is all closed k d lt =
    let long : length known ≡ length senders = ap length is ∙ length-map senders (λ (s : SendState). s.put) in
    let a = all k (subst (λ n. k < n) (sym long) lt) in
    let put : get_or known k [] ≡ (get_or senders k d).put = ap (λ l. get_or l k []) is ∙ get_or-map (λ (s : SendState). s.put) senders k d [] lt in
    let split : get_or known k [] ≡ of_sender k took ++ of_sender k items = sym a.0 ∙ of_append k took items in
    let word = leads (get_or known k []) a.1 in
    let none = all_taken (get_or known k []) (of_sender k took) (of_sender k items) word.0 word.1 split (closed k lt) in
    sym (append-nil (of_sender k took)) ∙ ap (λ l. of_sender k took ++ l) (sym none) ∙ sym split ∙ put
