-- What inputs bring, for all that may still come.
use Rattle.std.proofs.Common.{◌≡◌, ◌<◌, ℕ, zero, suc, Bool, true, false, nat_eq, nat_lt, ◌&&◌, List, [], ◌∷◌, ◌++◌, map, length, drop, slice_index_or, None, refl, sym, ap, subst, ◌∙◌, arith}
use Rattle.std.specs.List.{All, AllByRecursion, range_with_len}
use Rattle.std.specs.List.Sorted.{IsSorted}
use Rattle.std.proofs.lemmas.Bool.{lt-ltb}
use Rattle.std.proofs.lemmas.List.Elements.{All-from_recursion}
use Rattle.hy_job.specs.declared.job.Wire.{Wire}
use Rattle.hy_job.specs.declared.job.Wire.TheVariants as W
use Rattle.hy_job.specs.Columns.{Interleaves, keys_cmp}
use Rattle.hy_job.specs.Runs.{ComesBy, Taken, rows_at, rows_of}
use Rattle.hy_job.proofs.KeyOrder.{keys_cmp_total}
use Rattle.hy_job.proofs.Members.{by_cases, nat_same, no_bool}
use Rattle.hy_job.proofs.RunRows.{interleaves_all}
use Rattle.hy_driver.specs.Rows.{Row, values_of}
use Rattle.hy_connect.specs.Sources.{frame_rows, source_at}
use Rattle.hy_connect.specs.Takers.{ComesAsPut}
use Rattle.hy_connect.specs.Merges.{IsOfOpen, MergerOf, may_give, rows_from, senders}
use Rattle.hy_connect.proofs.Merging.{each_number, map_same, merge_none, merged_none, same_number}
use Rattle.hy_input.specs.declared.taker.Taker.{Taker}
use Rattle.hy_input.specs.declared.taker.Taker.TheVariants as T
use Rattle.hy_input.specs.Inputs.{InputOf, IsSent, brings_by, closed_at, done_by, hand, input_of, only_at}
use Rattle.hy_input.specs.Laws.{AreBrought, AreRowsBy, DoneBringNone, IsRow, MayBring, NewBringWire}
use Rattle.hy_input.proofs.Mixing.{merged}

-- ---- rows of an input

row_at : (k : ℕ) (t : Taken) (took : List Taken) → nat_eq t.input k ≡ true → only_at k (t ∷ took) ≡ t ∷ only_at k took
row_at k t took y = rw y refl

row_not : (k : ℕ) (t : Taken) (took : List Taken) → nat_eq t.input k ≡ false → only_at k (t ∷ took) ≡ only_at k took
row_not k t took n = rw n refl

of_here : (k s : ℕ) (t : Taken) (took : List Taken) → (nat_eq t.input k && nat_eq t.sender s) ≡ true → rows_of k s (t ∷ took) ≡ t.row ∷ rows_of k s took
of_here k s t took y = rw y refl

of_not : (k s : ℕ) (t : Taken) (took : List Taken) → (nat_eq t.input k && nat_eq t.sender s) ≡ false → rows_of k s (t ∷ took) ≡ rows_of k s took
of_not k s t took n = rw n refl

and_left : (b c : Bool) → (b && c) ≡ true → b ≡ true
and_left true c h = refl
and_left false c h = h

none_and : (b c : Bool) → b ≡ false → (b && c) ≡ false
none_and true c h = absurd (no_bool h)
none_and false c h = refl

pub true_and : (b c : Bool) → b ≡ true → c ≡ true → (b && c) ≡ true
true_and true c h g = g
true_and false c h g = h

and_right : (b c : Bool) → b ≡ true → (b && c) ≡ false → c ≡ false
and_right true c h g = g
and_right false c h g = absurd (no_bool (sym h))

only_twice : (k : ℕ) (took : List Taken) → only_at k (only_at k took) ≡ only_at k took
only_twice k [] = refl
only_twice k (t ∷ took) = by_cases (nat_eq t.input k)
    (λ y. ap (only_at k) (row_at k t took y) ∙ row_at k t (only_at k took) y ∙ ap (λ (xs : List Taken). t ∷ xs) (only_twice k took) ∙ sym (row_at k t took y))
    (λ n. ap (only_at k) (row_not k t took n) ∙ only_twice k took ∙ sym (row_not k t took n))

of_only : (k s : ℕ) (took : List Taken) → rows_of k s (only_at k took) ≡ rows_of k s took
of_only k s [] = refl
of_only k s (t ∷ took) = by_cases (nat_eq t.input k)
    (λ y. ap (rows_of k s) (row_at k t took y) ∙ by_cases (nat_eq t.input k && nat_eq t.sender s)
    (λ b. of_here k s t (only_at k took) b ∙ ap (λ (xs : List Row). t.row ∷ xs) (of_only k s took) ∙ sym (of_here k s t took b))
    (λ n. of_not k s t (only_at k took) n ∙ of_only k s took ∙ sym (of_not k s t took n)))
    (λ n. ap (rows_of k s) (row_not k t took n) ∙ of_only k s took ∙ sym (of_not k s t took (none_and (nat_eq t.input k) (nat_eq t.sender s) n)))

-- ---- what holds of each

module _ (holds : Row → Type 0) where
  all_more : (xs ys : List Row) → AllByRecursion holds xs → AllByRecursion holds ys → AllByRecursion holds (xs ++ ys)
  all_more [] ys h g = g
  all_more (x ∷ xs) ys h g = (h.0, all_more xs ys h.1 g)

  rows_hold : (k : ℕ) (took : List Taken) → AllByRecursion (λ (t : Taken). t.input ≡ k → holds t.row) took → AllByRecursion holds (rows_at k took)
  rows_hold k [] h = tt
  rows_hold k (t ∷ took) h = by_cases (nat_eq t.input k)
      (λ y. subst (λ (xs : List Taken). AllByRecursion holds (map (λ u. u.row) xs)) (sym (row_at k t took y)) (h.0 (same_number t.input k y), rows_hold k took h.1))
      (λ n. subst (λ (xs : List Taken). AllByRecursion holds (map (λ u. u.row) xs)) (sym (row_not k t took n)) (rows_hold k took h.1))

  of_hold : (k s : ℕ) (took : List Taken) → AllByRecursion (λ (t : Taken). t.input ≡ k → holds t.row) took → AllByRecursion holds (rows_of k s took)
  of_hold k s [] h = tt
  of_hold k s (t ∷ took) h = by_cases (nat_eq t.input k && nat_eq t.sender s)
      (λ b. subst (AllByRecursion holds) (sym (of_here k s t took b)) (h.0 (same_number t.input k (and_left (nat_eq t.input k) (nat_eq t.sender s) b)), of_hold k s took h.1))
      (λ n. subst (AllByRecursion holds) (sym (of_not k s t took n)) (of_hold k s took h.1))

-- ---- merges

-- what may come to a merge is of senders that haven't closed
of_open : (m : MergerOf) (k from next : ℕ) (up : Bool) (more : List Taken) → MayBring k (input_of (T.Merge m) from None next up) more → IsOfOpen m.sources k (only_at k more)
of_open m k from next up [] h = tt
of_open m k from next up (t ∷ more) h = by_cases (nat_eq t.input k)
    (λ y.
    let is = same_number t.input k y in
    let g = h.0 is in
    subst (IsOfOpen m.sources k) (sym (row_at k t more y))
    ((is, and_right (nat_lt t.sender (senders m)) (source_at m.sources t.sender).closed (lt-ltb t.sender (senders m) g.0.2.0) g.1), of_open m k from next up more h.1))
    (λ n. subst (IsOfOpen m.sources k) (sym (row_not k t more n)) (of_open m k from next up more h.1))

merge_brings : (m : MergerOf) (k : ℕ) (more : List Taken) (holds : Row → Type 0) → IsOfOpen m.sources k (only_at k more) → ((s : ℕ) → s < senders m → AllByRecursion holds (map values_of (drop (source_at m.sources s).next (frame_rows (source_at m.sources s).frame)))) → AllByRecursion (λ (t : Taken). t.input ≡ k → holds t.row) more
    → (rows : List Row) × may_give m k (only_at k more) rows × AllByRecursion holds rows
merge_brings m k more holds going at_hand come =
    let f = rows_from m.sources k (only_at k more) in
    let zs = merged (keys_cmp m.keys) (keys_cmp_total m.keys) (map f (range_with_len 0 (senders m))) in (
      zs.0,
      (going, record { rest = zs.0; output = (zs.1, zs.2); is = refl }),
      interleaves_all holds (map f (range_with_len 0 (senders m))) zs.0
          (each_number (AllByRecursion holds) f 0 (senders m)
          (λ s low. all_more holds (map values_of (drop (source_at m.sources s).next (frame_rows (source_at m.sources s).frame))) (rows_of k s (only_at k more)) (at_hand s (omega (arith, low)))
          (subst (AllByRecursion holds) (sym (of_only k s more)) (of_hold holds k s more come)))) zs.1,
    )

-- ---- laws

pub are_brought : AreBrought
are_brought k x more width may at_hand come = let b = by_taker x.taker may at_hand in (b.0, b.1, All-from_recursion (IsRow width) b.0 b.2)
  where
    by_taker : (t : Taker) → MayBring k (input_of t x.from x.frame x.next x.given_up) more → AreRowsBy t (map values_of (hand x)) width
        → (rows : List Row) × brings_by t k (map values_of (hand x)) more rows × AllByRecursion (IsRow width) rows
    by_taker (T.One t) m h = (map values_of (hand x) ++ rows_at k more, refl, all_more (IsRow width) (map values_of (hand x)) (rows_at k more) h (rows_hold (IsRow width) k more come))
    by_taker (T.Many t) m h = (map values_of (hand x) ++ rows_at k more, refl, all_more (IsRow width) (map values_of (hand x)) (rows_at k more) h (rows_hold (IsRow width) k more come))
    by_taker (T.Merge g) m h = merge_brings g k more (IsRow width) (of_open g k x.from x.next x.given_up more m) h come

-- where each sender has closed, nothing comes
none_comes : (k : ℕ) (x : InputOf) (more : List Taken) → ((m n p : ℕ) → IsSent x m n p → closed_at x p ≡ false → ⊥) → MayBring k x more → only_at k more ≡ []
none_comes k x [] never h = refl
none_comes k x (t ∷ more) never h = by_cases (nat_eq t.input k)
    (λ y. let g = h.0 (same_number t.input k y) in absurd (never g.0.0 g.0.1 t.sender g.0.2 g.1))
    (λ n. row_not k t more n ∙ none_comes k x more never h.1)

pub known : (xs : List Bool) (s : ℕ) → s < length xs → slice_index_or xs s true ≡ true → slice_index_or xs s false ≡ true
known [] s low h = absurd (omega (arith, low))
known (x ∷ xs) zero low h = h
known (x ∷ xs) (suc s) low h = known xs s (omega (arith, low)) h

pub done_bring_none : DoneBringNone
done_bring_none k x done = by_taker x.taker done
  where
    by_taker : (t : Taker) → done_by t (hand x)
        → brings_by t k (map values_of (hand x)) [] [] × ((more : List Taken) (rows : List Row) → MayBring k (input_of t x.from x.frame x.next x.given_up) more → brings_by t k (map values_of (hand x)) more rows → rows ≡ [])
    by_taker (T.One t) d = (
      sym (ap (λ xs. map values_of xs ++ []) d.1),
      λ more rows may h. h ∙ ap (λ (xs : List Taken). map values_of (hand x) ++ map (λ u. u.row) xs)
          (none_comes k (input_of (T.One t) x.from x.frame x.next x.given_up) more
          (λ m n p sent going. no_bool (sym (true_and (nat_eq p x.from) (slice_index_or t.closed 0 false) (subst (λ (q : ℕ). nat_eq q x.from ≡ true) (sym sent.2) (nat_same x.from))
          (known t.closed 0 (let low = sent.1 in omega (arith, low)) (d.0 0 (let low = sent.1 in omega (arith, low))))) ∙ going)) may)
          ∙ ap (λ xs. map values_of xs ++ []) d.1,
    )
    by_taker (T.Many t) d = (
      sym (ap (λ xs. map values_of xs ++ []) d.1),
      λ more rows may h. h ∙ ap (λ (xs : List Taken). map values_of (hand x) ++ map (λ u. u.row) xs)
          (none_comes k (input_of (T.Many t) x.from x.frame x.next x.given_up) more
          (λ m n p sent going. let low = subst (λ (q : ℕ). q < length t.closed) (sym sent.2) sent.1 in no_bool (sym (known t.closed p low (d.0 p low)) ∙ going)) may)
          ∙ ap (λ xs. map values_of xs ++ []) d.1,
    )
    by_taker (T.Merge g) d = (
      (tt, record { rest = []; output = merge_none g.keys (rows_from g.sources k []) (senders g) (λ s low. ap (λ xs. map values_of xs ++ []) (d.1 s low)); is = refl }),
      λ more rows may h.
          let none = none_comes k (input_of (T.Merge g) x.from x.frame x.next x.given_up) more
          (λ m n p sent going. no_bool (sym (true_and (nat_lt p (senders g)) (source_at g.sources p).closed (lt-ltb p (senders g) sent.0) (d.0 p sent.0)) ∙ going)) may in
          h.1.is ∙ merged_none g.keys (rows_from g.sources k (only_at k more)) (senders g) h.1.rest
          (λ s low. ap (λ (xs : List Taken). rows_from g.sources k xs s) none ∙ ap (λ xs. map values_of xs ++ []) (d.1 s low)) h.1.output,
    )

by_all : (wire : Wire) (n k : ℕ) (took : List Taken) (rows : List Row) → ComesBy wire n k (only_at k took) rows → ComesBy wire n k took rows
by_all W.OneToOne n k took rows h = h ∙ ap (map (λ u. u.row)) (only_twice k took)
by_all (W.Hash columns) n k took rows h = h ∙ ap (map (λ u. u.row)) (only_twice k took)
by_all W.Broadcast n k took rows h = h ∙ ap (map (λ u. u.row)) (only_twice k took)
by_all W.Gather n k took rows h = h ∙ ap (map (λ u. u.row)) (only_twice k took)
by_all (W.Merge keys) n k took rows h =
    subst (λ (xss : List (List Row)). Interleaves xss rows × (All (IsSorted (keys_cmp keys)) xss → IsSorted (keys_cmp keys) rows))
    (map_same (λ s. rows_of k s (only_at k took)) (λ s. rows_of k s took) 0 n (λ s low. of_only k s took)) h

as_put : (wire : Wire) (n k : ℕ) (took : List Taken) (rows : List Row) → ComesAsPut wire → rows ≡ rows_at k took → ComesBy wire n k took rows
as_put W.OneToOne n k took rows a h = h
as_put (W.Hash columns) n k took rows a h = h
as_put W.Broadcast n k took rows a h = h
as_put W.Gather n k took rows a h = h
as_put (W.Merge keys) n k took rows a h = absurd a

pub new_bring_wire : NewBringWire
new_bring_wire wire n from k (T.One t) took rows suits h = subst (λ (w : Wire). ComesBy w n k took rows) (sym suits) h
new_bring_wire wire n from k (T.Many t) took rows suits h = as_put wire n k took rows suits h
new_bring_wire wire n from k (T.Merge m) took rows suits h = by_all wire n k took rows (suits k (only_at k took) rows h)
