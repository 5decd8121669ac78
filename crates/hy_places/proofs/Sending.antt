-- Which senders and receivers a wire has, and where the mailboxes between them are.
use Rattle.std.proofs.Common.{◌≡◌, inl, inr, ◌<◌, ◌≤◌, ◌+◌, ℕ, zero, suc, nat_eq, false, List, [], ◌∷◌, map, length, get_or, refl, ap, sym, subst, ◌∙◌, arith, flat_map, ne_eqb, if◌then◌else◌, length-append}
use Rattle.std.specs.List.{range_with_len}
use Rattle.std.proofs.lemmas.List.{get_or_append_left}
use Rattle.std.proofs.lemmas.List.FromFn.{get_or-range_with_len, length-range_with_len, get_or-map-range_with_len, length-map-range_with_len}
use Rattle.hy_job.specs.declared.job.Wire.{Wire}
use Rattle.hy_job.specs.declared.job.Wire.TheVariants as W
use Rattle.hy_job.specs.Runs.{ReceivesOver}
use Rattle.hy_job.specs.Boxes.{senders_of}
use Rattle.hy_job.proofs.Boxes.{is_nat, nat_is}
use Rattle.hy_job.proofs.Members.{by_cases}
use Rattle.hy_places.specs.Places.{inboxes_count, receiver_at, receivers_count, sender_at, senders_each}
use Rattle.hy_places.specs.Owned.{AreItsReceivers, AreItsSenders, ReceiversHavePlaces, SendersAreCounted, SendersHavePlaces}
use Rattle.hy_places.specs.Finding.{boxes_count, first_inbox, first_outbox, place_over}
use Rattle.hy_places.proofs.Lists.{map_twice, none_above, one_each}

not_zero : (r : ℕ) → 0 < r → nat_eq r 0 ≡ false
not_zero r lt = ne_eqb r 0 (λ e. omega (arith, e, lt))

-- what only the first partition has
first_only : (j c k : ℕ) → k < (if nat_eq j 0 then c else 0) → (j ≡ 0) × (k < c)
first_only j c k lt = by_cases (nat_eq j 0)
    (λ t. (let l : k < c = rw t at lt in (is_nat j 0 t, l)))
    (λ f. (let l : k < 0 = rw f at lt in absurd (omega (arith, l))))

in_first : (j c k : ℕ) → j ≡ 0 → k < c → k < (if nat_eq j 0 then c else 0)
in_first j c k e lt = rw (nat_is j 0 e) lt

-- ---- senders

its_senders : (w : Wire) (n j : ℕ) → j < n → AreItsSenders w n j
its_senders W.OneToOne n j low = record {
  within = λ k i lk li. low;
  sends = λ k i lk li. refl;
  all = λ s lt over. (0, 0, omega arith, omega arith, over);
  once = λ k i l h lk li ll lh e. (omega (arith, lk, ll), omega (arith, li, lh));
}
its_senders (W.Hash columns) n j low = record {
  within = λ k i lk li. li;
  sends = λ k i lk li. low;
  all = λ s lt over. (0, s, omega arith, lt, refl);
  once = λ k i l h lk li ll lh e. (omega (arith, lk, ll), e);
}
its_senders W.Broadcast n j low = record {
  within = λ k i lk li. li;
  sends = λ k i lk li. low;
  all = λ s lt over. (0, s, omega arith, lt, refl);
  once = λ k i l h lk li ll lh e. (omega (arith, lk, ll), e);
}
its_senders W.Gather n j low = record {
  within = λ k i lk li. li;
  sends = λ k i lk li. (first_only j 1 k lk).0;
  all = λ s lt over. (0, s, in_first j 1 0 over (omega arith), lt, refl);
  once = λ k i l h lk li ll lh e. (let p = (first_only j 1 k lk).1 in let q = (first_only j 1 l ll).1 in (omega (arith, p, q), e));
}
its_senders (W.Merge keys) n j low = record {
  within = λ k i lk li. (first_only j n k lk).1;
  sends = λ k i lk li. (first_only j n k lk).0;
  all = λ s lt over. (s, 0, in_first j n s over lt, omega arith, refl);
  once = λ k i l h lk li ll lh e. (e, omega (arith, li, lh));
}

pub senders_have_places : SendersHavePlaces
senders_have_places = its_senders

its_receivers : (w : Wire) (n j : ℕ) → j < n → AreItsReceivers w n j
its_receivers W.OneToOne n j low = record {
  some = omega arith;
  within = λ k lt. low;
  receives = λ k lt. refl;
  all = λ r lt over. (0, omega arith, sym over);
  once = λ k l lk ll e. omega (arith, lk, ll);
}
its_receivers (W.Hash columns) n j low = record {
  some = omega (arith, low);
  within = λ k lt. lt;
  receives = λ k lt. lt;
  all = λ r lt over. (r, lt, refl);
  once = λ k l lk ll e. e;
}
its_receivers W.Broadcast n j low = record {
  some = omega (arith, low);
  within = λ k lt. lt;
  receives = λ k lt. lt;
  all = λ r lt over. (r, lt, refl);
  once = λ k l lk ll e. e;
}
its_receivers W.Gather n j low = record {
  some = omega arith;
  within = λ k lt. omega (arith, low);
  receives = λ k lt. refl;
  all = λ r lt over. (0, omega arith, sym over);
  once = λ k l lk ll e. omega (arith, lk, ll);
}
its_receivers (W.Merge keys) n j low = record {
  some = omega arith;
  within = λ k lt. omega (arith, low);
  receives = λ k lt. refl;
  all = λ r lt over. (0, omega arith, sym over);
  once = λ k l lk ll e. omega (arith, lk, ll);
}

pub receivers_have_places : ReceiversHavePlaces
receivers_have_places = its_receivers

pub senders_are_counted : SendersAreCounted
senders_are_counted W.OneToOne n j low = inl (refl, omega arith, refl)
senders_are_counted (W.Hash columns) n j low = inl (refl, omega (arith, low), refl)
senders_are_counted W.Broadcast n j low = inl (refl, omega (arith, low), refl)
senders_are_counted W.Gather n j low = by_cases (nat_eq j 0)
    (λ t. rw t (inl (refl, omega (arith, low), refl)))
    (λ f. rw f (inr (refl, refl)))
senders_are_counted (W.Merge keys) n j low = (refl, refl)

pub some_sender : (w : Wire) (n j : ℕ) → j < n → 0 < senders_each w n
some_sender W.OneToOne n j low = omega arith
some_sender (W.Hash columns) n j low = omega (arith, low)
some_sender W.Broadcast n j low = omega (arith, low)
some_sender W.Gather n j low = omega (arith, low)
some_sender (W.Merge keys) n j low = omega arith

-- ---- the senders of a mailbox

-- those of the mailbox into which `s` puts for `r`
abbrev pub senders_for : Wire → ℕ → ℕ → ℕ → List ℕ
senders_for W.OneToOne n r s = r ∷ []
senders_for (W.Hash columns) n r s = range_with_len 0 n
senders_for W.Broadcast n r s = range_with_len 0 n
senders_for W.Gather n r s = range_with_len 0 n
senders_for (W.Merge keys) n r s = s ∷ []

-- the number of `s` among them
abbrev pub number_at : Wire → ℕ → ℕ
number_at W.OneToOne s = 0
number_at (W.Hash columns) s = s
number_at W.Broadcast s = s
number_at W.Gather s = s
number_at (W.Merge keys) s = 0

all_at : (n s d : ℕ) → s < n → (s < length (range_with_len 0 n)) × (get_or (range_with_len 0 n) s d ≡ s)
all_at n s d lt = (omega (arith, lt, length-range_with_len 0 n), get_or-range_with_len 0 n s d lt ∙ omega arith)

pub sender_among : (w : Wire) (n r s d : ℕ) → s < n → ReceivesOver w n s r → (number_at w s < length (senders_for w n r s)) × (get_or (senders_for w n r s) (number_at w s) d ≡ s)
sender_among W.OneToOne n r s d lt over = (omega arith, over)
sender_among (W.Hash columns) n r s d lt over = all_at n s d lt
sender_among W.Broadcast n r s d lt over = all_at n s d lt
sender_among W.Gather n r s d lt over = all_at n s d lt
sender_among (W.Merge keys) n r s d lt over = (omega arith, refl)

pub how_many : (w : Wire) (n r s : ℕ) → length (senders_for w n r s) ≡ senders_each w n
how_many W.OneToOne n r s = refl
how_many (W.Hash columns) n r s = length-range_with_len 0 n
how_many W.Broadcast n r s = length-range_with_len 0 n
how_many W.Gather n r s = length-range_with_len 0 n
how_many (W.Merge keys) n r s = refl

-- who they are, of the mailbox in place `k` of a task
pub sender_there : (w : Wire) (n j k i : ℕ) → i < senders_each w n → get_or (senders_for w n j (sender_at w j k 0)) i 0 ≡ sender_at w j k i
sender_there W.OneToOne n j k zero lt = refl
sender_there W.OneToOne n j k (suc i) lt = absurd (omega (arith, lt))
sender_there (W.Hash columns) n j k i lt = (all_at n i 0 lt).1
sender_there W.Broadcast n j k i lt = (all_at n i 0 lt).1
sender_there W.Gather n j k i lt = (all_at n i 0 lt).1
sender_there (W.Merge keys) n j k zero lt = refl
sender_there (W.Merge keys) n j k (suc i) lt = absurd (omega (arith, lt))

-- ---- the mailboxes of an edge

module _ {B : Type 0} (f : ℕ → List ℕ → B) where
  -- those over a wire, by receiver and senders
  abbrev pub over : Wire → ℕ → List B
  over w n = flat_map (λ r. map (f r) (senders_of w n r)) (range_with_len 0 n)

  alone : (g : ℕ → B) (n r : ℕ) (d : B) → r < n → (r < length (flat_map (λ x. g x ∷ []) (range_with_len 0 n))) × (get_or (flat_map (λ x. g x ∷ []) (range_with_len 0 n)) r d ≡ g r)
  alone g n r d lt = subst (λ (l : List B). (r < length l) × (get_or l r d ≡ g r)) (sym (one_each g (range_with_len 0 n)))
      (omega (arith, lt, length-map-range_with_len g 0 n), get_or-map-range_with_len g 0 n r r d lt (omega arith))

  alone_count : (g : ℕ → B) (n : ℕ) → length (flat_map (λ x. g x ∷ []) (range_with_len 0 n)) ≡ n
  alone_count g n = ap (λ (l : List B). length l) (one_each g (range_with_len 0 n)) ∙ length-map-range_with_len g 0 n

  apart : (n : ℕ) → map (f 0) (map (λ s. s ∷ []) (range_with_len 0 n)) ≡ map (λ s. f 0 (s ∷ [])) (range_with_len 0 n)
  apart n = map_twice (f 0) (λ s. s ∷ []) (range_with_len 0 n)

  -- the mailbox into which `s` puts for `r`
  pub box_over : (w : Wire) (n r s : ℕ) (d : B) → r < n → s < n → ReceivesOver w n s r → (place_over w r s < length (over w n)) × (get_or (over w n) (place_over w r s) d ≡ f r (senders_for w n r s))
  box_over W.OneToOne n r s d lr ls by = alone (λ x. f x (x ∷ [])) n r d lr
  box_over (W.Hash columns) n r s d lr ls by = alone (λ x. f x (range_with_len 0 n)) n r d lr
  box_over W.Broadcast n r s d lr ls by = alone (λ x. f x (range_with_len 0 n)) n r d lr
  box_over W.Gather zero r s d lr ls by = absurd (omega (arith, lr))
  box_over W.Gather (suc n) r s d lr ls by = subst (λ (x : ℕ). (0 < length (over W.Gather (suc n))) × (get_or (over W.Gather (suc n)) 0 d ≡ f x (range_with_len 0 (suc n)))) (sym by) (omega arith, refl)
  box_over (W.Merge keys) zero r s d lr ls by = absurd (omega (arith, lr))
  box_over (W.Merge keys) (suc n) r s d lr ls by = subst (λ (x : ℕ). (s < length (over (W.Merge keys) (suc n))) × (get_or (over (W.Merge keys) (suc n)) s d ≡ f x (s ∷ []))) (sym by)
      (let first : List B = map (f 0) (map (λ s. s ∷ []) (range_with_len 0 (suc n))) in
      let rest : List B = flat_map (λ r. map (f r) (senders_of (W.Merge keys) (suc n) r)) (range_with_len (0 + 1) n) in
      let many : length first ≡ suc n = ap (λ (l : List B). length l) (apart (suc n)) ∙ length-map-range_with_len (λ s. f 0 (s ∷ [])) 0 (suc n) in
      let low : s < length first = omega (arith, many, ls) in
      let at : get_or first s d ≡ f 0 (s ∷ []) = ap (λ (l : List B). get_or l s d) (apart (suc n)) ∙ get_or-map-range_with_len (λ s. f 0 (s ∷ [])) 0 (suc n) s s d ls (omega arith) in
      (omega (arith, low, length-append first rest), get_or_append_left first rest d s low ∙ at))

  -- how many there are
  pub over_count : (w : Wire) (n : ℕ) → 0 < n → length (over w n) ≡ boxes_count w n
  over_count W.OneToOne n lt = alone_count (λ x. f x (x ∷ [])) n
  over_count (W.Hash columns) n lt = alone_count (λ x. f x (range_with_len 0 n)) n
  over_count W.Broadcast n lt = alone_count (λ x. f x (range_with_len 0 n)) n
  over_count W.Gather zero lt = absurd (omega (arith, lt))
  over_count W.Gather (suc n) lt = ap (λ (l : List B). suc (length l)) (none_above (λ r. map (f r) (senders_of W.Gather (suc n) r)) (0 + 1) n (λ r some. rw (not_zero r some) refl) (omega arith))
  over_count (W.Merge keys) zero lt = absurd (omega (arith, lt))
  over_count (W.Merge keys) (suc n) lt =
      let first : List B = map (f 0) (map (λ s. s ∷ []) (range_with_len 0 (suc n))) in
      let rest : List B = flat_map (λ r. map (f r) (senders_of (W.Merge keys) (suc n) r)) (range_with_len (0 + 1) n) in
      let many : length first ≡ suc n = ap (λ (l : List B). length l) (apart (suc n)) ∙ length-map-range_with_len (λ s. f 0 (s ∷ [])) 0 (suc n) in
      let none : rest ≡ [] = none_above (λ r. map (f r) (senders_of (W.Merge keys) (suc n) r)) (0 + 1) n (λ r some. rw (not_zero r some) refl) (omega arith) in
      let empty : length rest ≡ 0 = ap (λ (l : List B). length l) none in
      length-append first rest ∙ omega (arith, many, empty)

-- a task's mailboxes follow one another
pub inbox_follows : (w : Wire) (n j k : ℕ) → k < inboxes_count w n j → place_over w j (sender_at w j k 0) ≡ first_inbox w j + k
inbox_follows W.OneToOne n j k lt = omega (arith, lt)
inbox_follows (W.Hash columns) n j k lt = omega (arith, lt)
inbox_follows W.Broadcast n j k lt = omega (arith, lt)
inbox_follows W.Gather n j k lt = let q = (first_only j 1 k lt).1 in omega (arith, q)
inbox_follows (W.Merge keys) n j k lt = omega arith

pub outbox_follows : (w : Wire) (n j k : ℕ) → k < receivers_count w n → place_over w (receiver_at w j k) j ≡ first_outbox w j + k
outbox_follows W.OneToOne n j k lt = omega (arith, lt)
outbox_follows (W.Hash columns) n j k lt = omega arith
outbox_follows W.Broadcast n j k lt = omega arith
outbox_follows W.Gather n j k lt = omega (arith, lt)
outbox_follows (W.Merge keys) n j k lt = omega (arith, lt)

pub few_boxes : (w : Wire) (n : ℕ) → 0 < n → n ≤ 16 → boxes_count w n ≤ 16
few_boxes W.OneToOne n some few = few
few_boxes (W.Hash columns) n some few = few
few_boxes W.Broadcast n some few = few
few_boxes W.Gather n some few = omega arith
few_boxes (W.Merge keys) n some few = few

pub few_inboxes : (w : Wire) (n j : ℕ) → n ≤ 16 → j < n → inboxes_count w n j < 17
few_inboxes W.OneToOne n j few low = omega arith
few_inboxes (W.Hash columns) n j few low = omega arith
few_inboxes W.Broadcast n j few low = omega arith
few_inboxes W.Gather n j few low = by_cases (nat_eq j 0) (λ t. rw t (omega arith)) (λ f. rw f (omega arith))
few_inboxes (W.Merge keys) n j few low = by_cases (nat_eq j 0) (λ t. rw t (omega (arith, few))) (λ f. rw f (omega arith))

pub few_receivers : (w : Wire) (n : ℕ) → n ≤ 16 → receivers_count w n < 17
few_receivers W.OneToOne n few = omega arith
few_receivers (W.Hash columns) n few = omega (arith, few)
few_receivers W.Broadcast n few = omega (arith, few)
few_receivers W.Gather n few = omega arith
few_receivers (W.Merge keys) n few = omega arith

pub low_inbox : (w : Wire) (j : ℕ) → j < 17 → first_inbox w j < 17
low_inbox W.OneToOne j low = low
low_inbox (W.Hash columns) j low = low
low_inbox W.Broadcast j low = low
low_inbox W.Gather j low = omega arith
low_inbox (W.Merge keys) j low = omega arith

pub low_outbox : (w : Wire) (j : ℕ) → j < 17 → first_outbox w j < 17
low_outbox W.OneToOne j low = low
low_outbox (W.Hash columns) j low = omega arith
low_outbox W.Broadcast j low = omega arith
low_outbox W.Gather j low = omega arith
low_outbox (W.Merge keys) j low = low
