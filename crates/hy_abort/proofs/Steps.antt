-- Each step on the abort word keeps its rule.
use Rattle.std.proofs.Common.{◌≡◌, ◌<◌, ◌≤◌, ◌+◌, ◌-◌, ◌%◌, ℕ, zero, suc, List, [], ◌∷◌, ◌++◌, length, get_or, slice_index, set, sym, refl, ap, ◌∙◌, subst, inl, inr, arith}
use Rattle.std.specs.Prelude.{All, sum_by}
use Rattle.std.proofs.lemmas.List.Elements.{All-get_or, All-head, All-push, All-set, All-tail, All-weaker}
use Rattle.std.proofs.lemmas.List.Sums.{sum_by-cons, sum_by-set, sum_by_push}
use Rattle.std.proofs.Math.Nat.{mod-eq_of_lt}
use mathlib.Core.Option.{some, some-injective, some-ne-none}
use lib.ListN.{get_elem?}
use Rattle.atomic_table.specs.Table.{Final, Seen, State, keeps}
use Rattle.atomic_table.proofs.Lists.{at_set}
use Rattle.hy_abort.specs.declared.rule.SeatView.{SeatView}
use Rattle.hy_abort.specs.Laws.{Begins, DealKeeps, LookKeeps, NeverWraps, RaiseKeeps, TakeInKeeps}
use Rattle.hy_abort.specs.Rule.{Fits, IsSum, joined, less_one, raises_in, seats_in, stands_for}

there : (xs : List SeatView) (i : ℕ) (x : SeatView) → get_elem? xs i ≡ some x → (i < length xs) × (get_or xs i x ≡ x)
there [] i x e = absurd (some-ne-none x (sym e))
there (y ∷ ys) zero x e = (omega arith, some-injective y x e)
there (y ∷ ys) (suc i) x e = let r = there ys i x e in let below = r.0 in (omega arith, r.1)

-- what a sum loses and gains where one view changes
sum_at : (f : SeatView → ℕ) (vs : List SeatView) (i : ℕ) (v w : SeatView) → get_elem? vs i ≡ some v → sum_by f (set vs i w) + f v ≡ sum_by f vs + f w
sum_at f vs i v w e = let t = there vs i v e in subst (λ u. sum_by f (set vs i w) + f u ≡ sum_by f vs + f w) t.1 (sum_by-set f vs i w v t.0)

all_at : (P : SeatView → Type 0) (vs : List SeatView) (i : ℕ) (v : SeatView) → get_elem? vs i ≡ some v → All P vs → P v
all_at P vs i v e all = let t = there vs i v e in subst P t.1 (All-get_or P vs i v t.0 all)

fits_more : (m n : ℕ) (vs : List SeatView) → m ≤ n → All (Fits m) vs → All (Fits n) vs
fits_more m n vs le all = All-weaker (Fits m) (Fits n) (λ v fits. let low = fits.1 in (fits.0, omega arith)) vs all

-- no more raises than seats
pub raises_le : (word : ℕ) (vs : List SeatView) → All (Fits word) vs → raises_in vs ≤ seats_in vs
raises_le word [] all = omega arith
raises_le word (v ∷ vs) all =
    let here = (All-head (Fits word) v vs all).0 in
    let rest = raises_le word vs (All-tail (Fits word) v vs all) in
    let r : raises_in (v ∷ vs) ≡ v.raises + raises_in vs = sum_by-cons (λ (u : SeatView). u.raises) v vs in
    let p : seats_in (v ∷ vs) ≡ v.seats + seats_in vs = sum_by-cons (λ (u : SeatView). u.seats) v vs in omega arith

found_is : (n : ℕ) (s : State ℕ SeatView) → IsSum n s → slice_index s.words 0 ≡ raises_in s.views
found_is n s h = ap (λ (ws : List ℕ). slice_index ws 0) h.word

-- the rule where one token's view becomes another for as many seats, with so many raises more
replaced : (n : ℕ) (s : State ℕ SeatView) (id k : ℕ) (v w : SeatView) → IsSum n s → get_elem? s.views id ≡ some v
    → w.seats ≡ v.seats → w.raises ≡ v.raises + k → w.raises ≤ w.seats → w.found ≤ raises_in s.views + k
    → (y : ℕ) → y ≡ raises_in s.views + k → IsSum n record { words = set s.words 0 y; homes = s.homes; views = set s.views id w }
replaced n s id k v w h at seats raises fits found y is =
    let p : seats_in (set s.views id w) + v.seats ≡ seats_in s.views + w.seats = sum_at (λ u. u.seats) s.views id v w at in
    let r : raises_in (set s.views id w) + v.raises ≡ raises_in s.views + w.raises = sum_at (λ u. u.raises) s.views id v w at in
    let more : raises_in (set s.views id w) ≡ raises_in s.views + k = omega arith in
    record {
      few = h.few;
      all = let a = h.all in omega arith;
      word = ap (λ (ws : List ℕ). set ws 0 y) h.word ∙ ap (λ (x : ℕ). x ∷ []) (is ∙ sym more);
      each = All-set (Fits (raises_in (set s.views id w))) s.views id w (fits, omega arith)
          (fits_more (raises_in s.views) (raises_in (set s.views id w)) s.views (omega arith) h.each);
    }

pub looks : LookKeeps
looks n slots id me s h homes at low =
    let x = slice_index s.words 0 in
    let is = found_is n s h in
    let fits = all_at (Fits (raises_in s.views)) s.views id me.0 at h.each in
    let below = fits.1 in (
      record (me.0) { found = x; steps = me.0.steps + 1 },
      keeps,
      tt,
      replaced n s id 0 me.0 (record (me.0) { found = x; steps = me.0.steps + 1 }) h at refl (omega arith) fits.0 (omega arith) x (omega arith),
      (refl, omega arith),
    )

pub raises : RaiseKeeps
raises n slots id me room s h homes at low =
    let x = slice_index s.words 0 in
    let is = found_is n s h in
    let fits = all_at (Fits (raises_in s.views)) s.views id me.0 at h.each in
    let below = fits.1 in
    let capped = raises_le (raises_in s.views) s.views h.each in
    let all = h.all in
    let few = h.few in
    let y = (x + 1) % 18446744073709551616 in
    let same : y ≡ x + 1 = mod-eq_of_lt (omega arith) in
    let w : SeatView = record (me.0) { raises = me.0.raises + 1; found = x + 1; steps = me.0.steps + 1 } in
    (w, keeps, tt, replaced n s id 1 me.0 w h at refl refl room (omega arith) y (omega arith), (refl, omega arith))

pub splits : DealKeeps
splits n id v some_left s h at =
    let vs = set s.views id (less_one v) in
    let p : seats_in vs + v.seats ≡ seats_in s.views + (v.seats - 1) = sum_at (λ u. u.seats) s.views id v (less_one v) at in
    let r : raises_in vs + v.raises ≡ raises_in s.views + v.raises = sum_at (λ u. u.raises) s.views id v (less_one v) at in
    let p2 : seats_in (vs ++ stands_for 1 ∷ []) ≡ seats_in vs + 1 = sum_by_push (λ (u : SeatView). u.seats) vs (stands_for 1) in
    let r2 : raises_in (vs ++ stands_for 1 ∷ []) ≡ raises_in vs + 0 = sum_by_push (λ (u : SeatView). u.raises) vs (stands_for 1) in
    let same : raises_in (vs ++ stands_for 1 ∷ []) ≡ raises_in s.views = omega arith in
    let fits = all_at (Fits (raises_in s.views)) s.views id v at h.each in
    let F = Fits (raises_in (vs ++ stands_for 1 ∷ [])) in
    let below = fits.1 in
    record {
      few = h.few;
      all = let a = h.all in omega arith;
      word = h.word ∙ ap (λ (x : ℕ). x ∷ []) (sym same);
      each = All-push F vs (stands_for 1)
          (All-set F s.views id (less_one v) (omega arith, omega arith) (fits_more (raises_in s.views) (raises_in (vs ++ stands_for 1 ∷ [])) s.views (omega arith) h.each))
          (omega arith, omega arith);
    }

pub joins : TakeInKeeps
joins n id other v w s h at apart at2 =
    let vs = set s.views id (joined v w) in
    let us = set vs other (stands_for 0) in
    let was : get_elem? s.views other ≡ some w = elim (at_set s.views id other (joined v w) w at2) [ inl x ↦ absurd (apart x.0) | inr x ↦ x.1 ] in
    let p : seats_in vs + v.seats ≡ seats_in s.views + (v.seats + w.seats) = sum_at (λ u. u.seats) s.views id v (joined v w) at in
    let r : raises_in vs + v.raises ≡ raises_in s.views + (v.raises + w.raises) = sum_at (λ u. u.raises) s.views id v (joined v w) at in
    let p2 : seats_in us + w.seats ≡ seats_in vs + 0 = sum_at (λ u. u.seats) vs other w (stands_for 0) at2 in
    let r2 : raises_in us + w.raises ≡ raises_in vs + 0 = sum_at (λ u. u.raises) vs other w (stands_for 0) at2 in
    let same : raises_in us ≡ raises_in s.views = omega arith in
    let a = all_at (Fits (raises_in s.views)) s.views id v at h.each in
    let b = all_at (Fits (raises_in s.views)) s.views other w was h.each in
    let F = Fits (raises_in us) in
    record {
      few = h.few;
      all = let c = h.all in omega arith;
      word = h.word ∙ ap (λ (x : ℕ). x ∷ []) (sym same);
      each = All-set F vs other (stands_for 0) (omega arith, omega arith)
          (All-set F s.views id (joined v w) (omega (arith, a.0, b.0), grind (arith, a.1, b.1, same)) (fits_more (raises_in s.views) (raises_in us) s.views (omega arith) h.each));
    }

-- where a token stands for all seats, the word is its raises: with its view taken away there is no seat left that could have raised
pub ends : (n id : ℕ) (v : SeatView) (ws xs : List ℕ) → v.seats ≡ n → Final (Seen (IsSum n) id v) ws xs → (ws ≡ v.raises ∷ []) × (v.found ≤ v.raises)
ends n id v ws xs all f =
    let s = f.0 in
    let h = f.1.0 in
    let at = f.1.1 in
    let us = set s.views id (stands_for 0) in
    let p : seats_in us + v.seats ≡ seats_in s.views + 0 = sum_at (λ u. u.seats) s.views id v (stands_for 0) at in
    let r : raises_in us + v.raises ≡ raises_in s.views + 0 = sum_at (λ u. u.raises) s.views id v (stands_for 0) at in
    let le = raises_le (raises_in s.views) us (All-set (Fits (raises_in s.views)) s.views id (stands_for 0) (omega arith, omega arith) h.each) in
    let a = h.all in
    let same : raises_in s.views ≡ v.raises = omega arith in
    let fits = all_at (Fits (raises_in s.views)) s.views id v at h.each in
    let below = fits.1 in
    (sym f.2 ∙ h.word ∙ ap (λ (x : ℕ). x ∷ []) same, omega arith)

pub begins : Begins
begins n few = record {
  few = few;
  all = omega arith;
  word = refl;
  each = All-push (Fits 0) [] (stands_for n) (λ k d under. absurd (omega arith)) (omega arith, omega arith);
}

-- the one word of a list of one
pub first_is : {ws : List ℕ} {x y : ℕ} → ws ≡ y ∷ [] → get_elem? ws 0 ≡ some x → x ≡ y
first_is {ws} {x} {y} one at = some-injective x y (sym at ∙ ap (λ (l : List ℕ). get_elem? l 0) one)

pub never_wraps : NeverWraps
never_wraps n s h =
    let is = found_is n s h in
    let capped = raises_le (raises_in s.views) s.views h.each in
    let all = h.all in
    let few = h.few in (omega arith, omega arith)
