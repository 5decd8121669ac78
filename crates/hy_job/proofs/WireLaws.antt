-- What is sent over a wire and taken at its other end is the wire's exchange.
use Rattle.std.proofs.Common.{◌≡◌, ◌≢◌, inl, inr, ◌<◌, ◌≤◌, ◌+◌, ℕ, zero, suc, true, false, nat_eq, List, [], ◌∷◌, map, filter, replicate, refl, ap, sym, subst, ◌∙◌, arith, get_or}
use Rattle.std.specs.Prelude.{if◌then◌else◌}
use Rattle.std.specs.List.{All, AllByRecursion, range_with_len}
use Rattle.std.specs.List.Sorted.{IsSorted}
use Rattle.std.proofs.lemmas.List.Elements.{All-from_recursion}
use Rattle.std.proofs.lemmas.List.FromFn.{length-map-range_with_len, get_or-map-range_with_len}
use Rattle.hy_job.specs.declared.job.Wire.{Wire}
use Rattle.hy_job.specs.declared.job.Wire.TheVariants as W
use Rattle.hy_job.specs.Columns.{Row, keys_cmp, part_of, Takes, Interleaves}
use Rattle.hy_job.specs.Runs.{Taken, rows_at, rows_of, by_sender, sent_over}
use Rattle.hy_job.specs.Exchange.{HasEach, in_first, parts_by, AreSent, WiresExchange}
use Rattle.hy_job.proofs.Members.{no_bool, by_cases, nat_same}

module _ {A : Type 0} where
  -- lists that are the same but for one, which begins with x
  takes_at : (f g : ℕ → List A) (x : A) (k a n : ℕ) → ((s : ℕ) → s ≢ k → f s ≡ g s) → f k ≡ x ∷ g k → a ≤ k → k < a + n
      → Takes (map f (range_with_len a n)) x (map g (range_with_len a n))
  unfolding Takes
  takes_at f g x k a zero same first low high = absurd (omega (arith, low, high))
  takes_at f g x k a (suc n) same first low high = by_cases (nat_eq a k)
      (λ t. let e : a ≡ k = grind arith in
      inl (g a, subst (λ s. f s ≡ x ∷ g s) (sym e) first, ap (λ xs. g a ∷ xs) (others (a + 1) n (omega (arith, e)))))
      (λ m. let ne : a ≢ k = λ e. no_bool (sym (nat_same k) ∙ (ap (λ z. nat_eq z k) (sym e) ∙ m)) in
      inr (map g (range_with_len (a + 1) n), takes_at f g x k (a + 1) n same first (omega (arith, low, ne)) (omega (arith, high)), ap (λ xs. xs ∷ map g (range_with_len (a + 1) n)) (sym (same a ne))))
    where
      others : (b m : ℕ) → k < b → map g (range_with_len b m) ≡ map f (range_with_len b m)
      others b zero lt = refl
      others b (suc m) lt = ap (λ xs. xs ∷ map g (range_with_len (b + 1) m)) (sym (same b (λ e. omega (arith, e, lt)))) ∙ ap (λ xs. f b ∷ xs) (others (b + 1) m (omega (arith, lt)))

  all_empty : (f : ℕ → List A) (a n : ℕ) → ((s : ℕ) → a ≤ s → s < a + n → f s ≡ []) → AllByRecursion (λ xs. xs ≡ []) (map f (range_with_len a n))
  all_empty f a zero e = tt
  all_empty f a (suc n) e = (e a (omega arith) (omega arith), all_empty f (a + 1) n (λ s low high. e s (omega (arith, low)) (omega (arith, high))))

  -- nothing is taken of empty lists
  takes_none : (xss : List (List A)) (x : A) (rest : List (List A)) → AllByRecursion (λ ys. ys ≡ []) xss → Takes xss x rest → ⊥
  unfolding Takes
  takes_none [] x rest g t = t
  takes_none (ys ∷ xss) x rest g t = elim t [ inl q ↦ no q.0 (sym g.0 ∙ q.1) | inr q ↦ takes_none xss x q.0 g.1 q.1 ]
    where
      no : (more : List A) → [] ≡ x ∷ more → ⊥
      no more e = cc

  interleaves_none : (xss : List (List A)) (xs : List A) → AllByRecursion (λ ys. ys ≡ []) xss → Interleaves xss xs → xs ≡ []
  unfolding Interleaves
  interleaves_none xss [] e h = refl
  interleaves_none xss (x ∷ xs) e h = absurd (takes_none xss x h.0 e h.1)

  rest_empty : (f : ℕ → List A) (a m : ℕ) → ((s : ℕ) → a ≤ s → s < a + m → f s ≡ []) → map f (range_with_len a m) ≡ replicate m []
  rest_empty f a zero e = refl
  rest_empty f a (suc m) e = ap (λ x. x ∷ map f (range_with_len (a + 1) m)) (e a (omega arith) (omega arith)) ∙ ap (λ xs. [] ∷ xs) (rest_empty f (a + 1) m (λ s low high. e s (omega (arith, low)) (omega (arith, high))))

map_same : {B : Type 0} (f g : ℕ → B) (a n : ℕ) → ((s : ℕ) → a ≤ s → s < a + n → f s ≡ g s) → map f (range_with_len a n) ≡ map g (range_with_len a n)
map_same f g a zero same = refl
map_same f g a (suc n) same = ap (λ x. x ∷ map f (range_with_len (a + 1) n)) (same a (omega arith) (omega arith)) ∙ ap (λ xs. g a ∷ xs) (map_same f g (a + 1) n (λ s low high. same s (omega (arith, low)) (omega (arith, high))))

map_twice : {B C : Type 0} (f : B → C) (g : ℕ → B) (xs : List ℕ) → map (λ s. f (g s)) xs ≡ map f (map g xs)
map_twice f g [] = refl
map_twice f g (x ∷ xs) = ap (λ ys. f (g x) ∷ ys) (map_twice f g xs)

not_same : (a b : ℕ) → (a ≡ b → ⊥) → nat_eq a b ≡ false
not_same a b ne = by_cases (nat_eq a b) (λ y. absurd (ne (grind arith))) (λ n. n)

-- ---- the first of what was taken

rows_here : (input : ℕ) (t : Taken) (took : List Taken) → nat_eq t.input input ≡ true → rows_at input (t ∷ took) ≡ t.row ∷ rows_at input took
rows_here input t took y = rw y refl

rows_not : (input : ℕ) (t : Taken) (took : List Taken) → nat_eq t.input input ≡ false → rows_at input (t ∷ took) ≡ rows_at input took
rows_not input t took m = rw m refl

of_here : (input s : ℕ) (t : Taken) (took : List Taken) → nat_eq t.input input ≡ true → nat_eq t.sender s ≡ true → rows_of input s (t ∷ took) ≡ t.row ∷ rows_of input s took
of_here input s t took y z = rw (y, z) refl

of_other : (input s : ℕ) (t : Taken) (took : List Taken) → nat_eq t.sender s ≡ false → rows_of input s (t ∷ took) ≡ rows_of input s took
of_other input s t took z = by_cases (nat_eq t.input input) (λ y. rw (y, z) refl) (λ m. rw m refl)

of_not : (input s : ℕ) (t : Taken) (took : List Taken) → nat_eq t.input input ≡ false → rows_of input s (t ∷ took) ≡ rows_of input s took
of_not input s t took m = rw m refl

-- what came is an interleaving of what each sender sent
pub came : (n input : ℕ) (took : List Taken) → AllByRecursion (λ (t : Taken). t.sender < n) took → Interleaves (by_sender n input took) (rows_at input took)
unfolding Interleaves
came n input [] h = All-from_recursion (λ xs. xs ≡ []) (by_sender n input []) (all_empty (λ s. rows_of input s []) 0 n (λ s low high. refl))
came n input (t ∷ took) h = by_cases (nat_eq t.input input)
    (λ y. subst (Interleaves (by_sender n input (t ∷ took))) (sym (rows_here input t took y)) (
      by_sender n input took,
      takes_at (λ s. rows_of input s (t ∷ took)) (λ s. rows_of input s took) t.row t.sender 0 n
          (λ s ne. of_other input s t took (not_same t.sender s (λ e. ne (sym e)))) (of_here input t.sender t took y (nat_same t.sender)) (omega arith) (omega (arith, h.0)),
      came n input took h.1,
    ))
    (λ m. subst (Interleaves (by_sender n input (t ∷ took))) (sym (rows_not input t took m))
    (subst (λ xss. Interleaves xss (rows_at input took)) (map_same (λ s. rows_of input s took) (λ s. rows_of input s (t ∷ took)) 0 n (λ s low high. sym (of_not input s t took m)))
    (came n input took h.1)))

-- where only one sender sent rows, its rows came
only_from : (n input r : ℕ) (took : List Taken) → AllByRecursion (λ (t : Taken). t.sender < n) took → ((s : ℕ) → s < n → (s ≡ r → ⊥) → rows_of input s took ≡ []) → rows_at input took ≡ rows_of input r took
only_from n input r [] h none = refl
only_from n input r (t ∷ took) h none = by_cases (nat_eq t.input input)
    (λ y. by_cases (nat_eq t.sender r)
    (λ z. rows_here input t took y ∙ (ap (λ xs. t.row ∷ xs) (only_from n input r took h.1 (λ s lt ne. sym (of_other input s t took (not_same t.sender s (λ e. ne (sym e ∙ is z)))) ∙ none s lt ne)) ∙ sym (of_here input r t took y z)))
    (λ m. absurd (no t.row _ (sym (of_here input t.sender t took y (nat_same t.sender)) ∙ none t.sender h.0 (λ e. no_bool (sym (nat_same r) ∙ (ap (λ x. nat_eq x r) (sym e) ∙ m)))))))
    (λ m. rows_not input t took m ∙ (only_from n input r took h.1 (λ s lt ne. sym (of_not input s t took m) ∙ none s lt ne) ∙ sym (of_not input r t took m)))
  where
    is : nat_eq t.sender r ≡ true → t.sender ≡ r
    is z = grind arith

    no : (x : Row) (xs : List Row) → x ∷ xs ≡ [] → ⊥
    no x xs e = cc

module _ (w : Wire) (n input : ℕ) (made : ℕ → List Row) (took : ℕ → List Taken) (received : ℕ → List Row) (sent : AreSent w n input made took) where
  -- what each sender sent the receiver
  senders_sent : (r : ℕ) → r < n → by_sender n input (took r) ≡ map (λ s. sent_over w n s r (made s)) (range_with_len 0 n)
  senders_sent r lt = map_same (λ s. rows_of input s (took r)) (λ s. sent_over w n s r (made s)) 0 n (λ s low high. sent.each s r (omega (arith, high)) lt)

  comes_of : (r : ℕ) → r < n → Interleaves (map (λ s. sent_over w n s r (made s)) (range_with_len 0 n)) (rows_at input (took r))
  comes_of r lt = subst (λ xss. Interleaves xss (rows_at input (took r))) (senders_sent r lt) (came n input (took r) (sent.senders r lt))

  part_at : (j : ℕ) → j < n → get_or (parts_by n received) j [] ≡ received j
  part_at j lt = get_or-map-range_with_len received 0 n j j [] lt (omega arith)

  -- the parts of which each is made by its number
  each_part : (P : ℕ → List Row → Type 0) → ((r : ℕ) → r < n → P r (received r)) → HasEach n P (parts_by n received)
  each_part P h = record { count = length-map-range_with_len received 0 n; each = λ j lt. subst (P j) (sym (part_at j lt)) (h j lt) }

-- where none but the first part has rows
first_alone : (n : ℕ) (received : ℕ → List Row) → ((r : ℕ) → 0 < r → r < n → received r ≡ []) → parts_by n received ≡ in_first n (received 0)
first_alone zero received none = refl
first_alone (suc n) received none = ap (λ xs. received 0 ∷ xs) (rest_empty received (0 + 1) n (λ s low high. none s (omega (arith, low)) (omega (arith, high))))

first_is : (r : ℕ) → 0 < r → nat_eq r 0 ≡ false
first_is r lt = not_same r 0 (λ e. omega (arith, e, lt))

none_of_none : Interleaves {A = Row} [] []
unfolding Interleaves
none_of_none = λ k d lt. absurd (omega (arith, lt))

pub wires_exchange : WiresExchange
wires_exchange W.OneToOne n input made took received sent comes =
    map_same received made 0 n (λ r low high. same r (omega (arith, high)))
  where
    same : (r : ℕ) → r < n → received r ≡ made r
    same r lt =
        comes r lt
        ∙ (only_from n input r (took r) (sent.senders r lt) (λ s ls ne. sent.each s r ls lt ∙ unsent s r (λ e. ne (sym e)))
        ∙ (sent.each r r lt lt ∙ its r))
      where
        unsent : (s r : ℕ) → (r ≡ s → ⊥) → (if nat_eq r s then made s else []) ≡ []
        unsent s r ne = rw (not_same r s ne) refl

        its : (r : ℕ) → (if nat_eq r r then made r else []) ≡ made r
        its r = rw (nat_same r) refl
wires_exchange (W.Hash columns) n input made took received sent comes =
    each_part (W.Hash columns) n input made took received sent _ (λ r lt.
    subst (Interleaves (map (filter (λ row. nat_eq (part_of n columns row) r)) (parts_by n made))) (sym (comes r lt))
    (subst (λ xss. Interleaves xss (rows_at input (took r))) (map_twice (filter (λ row. nat_eq (part_of n columns row) r)) made (range_with_len 0 n))
    (comes_of (W.Hash columns) n input made took received sent r lt)))
wires_exchange W.Broadcast n input made took received sent comes =
    each_part W.Broadcast n input made took received sent _ (λ r lt.
    subst (Interleaves (parts_by n made)) (sym (comes r lt)) (comes_of W.Broadcast n input made took received sent r lt))
wires_exchange W.Gather zero input made took received sent comes = ([], none_of_none, refl)
wires_exchange W.Gather (suc n) input made took received sent comes = (
  received 0,
  subst (Interleaves (parts_by (suc n) made)) (sym (comes 0 (omega arith))) (comes_of W.Gather (suc n) input made took received sent 0 (omega arith)),
  first_alone (suc n) received (λ r up lt. comes r lt ∙ interleaves_none _ _ (unsent r up) (comes_of W.Gather (suc n) input made took received sent r lt)),
)
  where
    unsent : (r : ℕ) → 0 < r → AllByRecursion (λ xs. xs ≡ []) (map (λ s. sent_over W.Gather (suc n) s r (made s)) (range_with_len 0 (suc n)))
    unsent r up = all_empty (λ s. sent_over W.Gather (suc n) s r (made s)) 0 (suc n) (λ s low high. rw (first_is r up) refl)
wires_exchange (W.Merge keys) zero input made took received sent comes = ([], none_of_none, (λ h k d low lt. absurd (omega (arith, lt))), refl)
wires_exchange (W.Merge keys) (suc n) input made took received sent comes = (
  received 0,
  subst (λ xss. Interleaves xss (received 0)) first (comes 0 (omega arith)).0,
  (λ sorted. (comes 0 (omega arith)).1 (subst (All (IsSorted (keys_cmp keys))) (sym first) sorted)),
  first_alone (suc n) received (λ r up lt. interleaves_none _ _ (subst (AllByRecursion (λ xs. xs ≡ [])) (sym (senders_sent (W.Merge keys) (suc n) input made took received sent r lt)) (unsent r up)) (comes r lt).0),
)
  where
    first : by_sender (suc n) input (took 0) ≡ parts_by (suc n) made
    first = senders_sent (W.Merge keys) (suc n) input made took received sent 0 (omega arith)

    unsent : (r : ℕ) → 0 < r → AllByRecursion (λ xs. xs ≡ []) (map (λ s. sent_over (W.Merge keys) (suc n) s r (made s)) (range_with_len 0 (suc n)))
    unsent r up = all_empty (λ s. sent_over (W.Merge keys) (suc n) s r (made s)) 0 (suc n) (λ s low high. rw (first_is r up) refl)
