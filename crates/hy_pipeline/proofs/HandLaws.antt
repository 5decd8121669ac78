-- What an input brings are the rows at hand and those that come.
use Rattle.std.proofs.Common.{◌≡◌, ◌<◌, ◌≤◌, ◌+◌, inl, inr, ℕ, zero, suc, nat_eq, true, false, List, [], ◌∷◌, ◌++◌, map, flat_map, length, refl, ap, sym, subst, ◌∙◌, append_assoc, arith}
use Rattle.std.specs.List.{AllByRecursion, range_with_len}
use Rattle.std.specs.List.Sorted.{IsPermutation}
use Rattle.std.proofs.lemmas.Bool.{cases_lt}
use Rattle.std.proofs.lemmas.List.Elements.{recursion_from_All}
use Rattle.std.proofs.lemmas.List.Sorted.{IsPermutation-refl, IsPermutation-sym, IsPermutation-trans, IsPermutation-cons, IsPermutation-append, IsPermutation-append_right, IsPermutation-append_comm, IsPermutation-middle}
use Rattle.hy_job.specs.Columns.{Interleaves, Takes}
use Rattle.hy_job.specs.Runs.{Taken, rows_at, rows_of}
use Rattle.hy_job.proofs.Boxes.{is_nat}
use Rattle.hy_job.proofs.Members.{by_cases, nat_same, no_bool}
use Rattle.hy_driver.specs.Rows.{Row, values_of}
use Rattle.hy_connect.specs.Sources.{SourceOf, hand as hand_of, source_at}
use Rattle.hy_connect.specs.Merges.{MergerOf, may_give, rows_from, senders, source}
use Rattle.hy_input.specs.declared.taker.Taker.{Taker}
use Rattle.hy_input.specs.declared.taker.Taker.TheVariants as T
use Rattle.hy_input.specs.Inputs.{brings_by, hand, only_at}
use Rattle.hy_pipeline.specs.Tests.{BroughtAreRows, hands_by}
use Rattle.hy_pipeline.proofs.StepLaws.{differ}

-- ---- interleavings

pub moved_by : {X : Type 0} (xs ys : List X) → xs ≡ ys → IsPermutation xs ys
moved_by xs ys e = subst (IsPermutation xs) e (IsPermutation-refl xs)

module _ {X : Type 0} where
  takes_moved : (xss : List (List X)) (x : X) (rest : List (List X)) → Takes xss x rest → IsPermutation (flat_map (λ (xs : List X). xs) xss) (x ∷ flat_map (λ (xs : List X). xs) rest)
  unfolding Takes
  takes_moved [] x rest t = absurd t
  takes_moved (xs ∷ xss) x rest t = elim t [
    | inl here ↦ moved_by _ _ (ap (λ (ys : List X). ys ++ flat_map (λ (zs : List X). zs) xss) here.1 ∙ ap (λ (yss : List (List X)). x ∷ flat_map (λ (zs : List X). zs) yss) (sym here.2))
    | inr there ↦ subst (λ (yss : List (List X)). IsPermutation (xs ++ flat_map (λ (zs : List X). zs) xss) (x ∷ flat_map (λ (zs : List X). zs) yss)) (sym there.2)
        (IsPermutation-trans _ _ _ (IsPermutation-append_right xs _ _ (takes_moved xss x there.0 there.1)) (IsPermutation-middle xs x (flat_map (λ (zs : List X). zs) there.0)))
  ]

  none_in_all : (xss : List (List X)) → AllByRecursion (λ xs. xs ≡ []) xss → flat_map (λ (xs : List X). xs) xss ≡ []
  none_in_all [] h = refl
  none_in_all (xs ∷ xss) h = ap (λ (ys : List X). ys ++ flat_map (λ (zs : List X). zs) xss) h.0 ∙ none_in_all xss h.1

  -- an interleaving has the items of the lists
  items_moved : (xss : List (List X)) (zs : List X) → Interleaves xss zs → IsPermutation (flat_map (λ (xs : List X). xs) xss) zs
  unfolding Interleaves
  items_moved xss [] h = moved_by _ _ (none_in_all xss (recursion_from_All (λ xs. xs ≡ []) xss h))
  items_moved xss (z ∷ zs) h = IsPermutation-trans _ _ _ (takes_moved xss z h.0 h.1) (IsPermutation-cons z _ _ (items_moved h.0 zs h.2))

  -- ---- lists by number

  flat_lists : (f : ℕ → List X) (ns : List ℕ) → flat_map (λ (xs : List X). xs) (map f ns) ≡ flat_map f ns
  flat_lists f [] = refl
  flat_lists f (n ∷ ns) = ap (λ xs. f n ++ xs) (flat_lists f ns)

  flat_none : (ns : List ℕ) → flat_map {A = X} (λ (n : ℕ). []) ns ≡ []
  flat_none [] = refl
  flat_none (n ∷ ns) = flat_none ns

  shuffled : (a b c d : List X) → IsPermutation ((a ++ b) ++ (c ++ d)) ((a ++ c) ++ (b ++ d))
  shuffled a b c d =
      IsPermutation-trans _ _ _ (moved_by _ _ (append_assoc a b (c ++ d)))
      (IsPermutation-trans _ _ _ (IsPermutation-append_right a _ _ (middle b c d)) (moved_by _ _ (sym (append_assoc a c (b ++ d)))))
    where
      middle : (b c d : List X) → IsPermutation (b ++ (c ++ d)) (c ++ (b ++ d))
      middle b c d =
          IsPermutation-trans _ _ _ (moved_by _ _ (sym (append_assoc b c d)))
          (IsPermutation-trans _ _ _ (IsPermutation-append (b ++ c) (c ++ b) d d (IsPermutation-append_comm b c) (IsPermutation-refl d)) (moved_by _ _ (append_assoc c b d)))

  -- lists of two pieces each are all first pieces and all second ones
  both_pieces : (f g : ℕ → List X) (ns : List ℕ) → IsPermutation (flat_map (λ n. f n ++ g n) ns) (flat_map f ns ++ flat_map g ns)
  both_pieces f g [] = IsPermutation-refl []
  both_pieces f g (n ∷ ns) =
      IsPermutation-trans _ _ _ (IsPermutation-append_right (f n ++ g n) _ _ (both_pieces f g ns)) (shuffled (f n) (g n) (flat_map f ns) (flat_map g ns))

-- ---- the rows of each sender

module _ (k : ℕ) (t : Taken) (took : List Taken) (here : nat_eq t.input k ≡ true) where
  rows_more : (s : ℕ) → nat_eq t.sender s ≡ true → rows_of k s (t ∷ took) ≡ t.row ∷ rows_of k s took
  rows_more s e = rw here (rw e refl)

  rows_same : (s : ℕ) → nat_eq t.sender s ≡ false → rows_of k s (t ∷ took) ≡ rows_of k s took
  rows_same s e = rw here (rw e refl)

  apart_of : (s : ℕ) → (t.sender ≡ s → ⊥) → nat_eq t.sender s ≡ false
  apart_of s h = by_cases (nat_eq t.sender s) (λ y. absurd (h (is_nat t.sender s y))) (λ n. n)

  beyond : (b n : ℕ) → t.sender < b → flat_map (λ s. rows_of k s (t ∷ took)) (range_with_len b n) ≡ flat_map (λ s. rows_of k s took) (range_with_len b n)
  beyond b zero lt = refl
  beyond b (suc n) lt =
      ap (λ xs. xs ++ flat_map (λ s. rows_of k s (t ∷ took)) (range_with_len (b + 1) n)) (rows_same b (apart_of b (λ e. absurd (omega (arith, lt, e)))))
      ∙ ap (λ xs. rows_of k b took ++ xs) (beyond (b + 1) n (omega (arith, lt)))

  one_more : (b n : ℕ) → b ≤ t.sender → t.sender < b + n → IsPermutation (flat_map (λ s. rows_of k s (t ∷ took)) (range_with_len b n)) (t.row ∷ flat_map (λ s. rows_of k s took) (range_with_len b n))
  one_more b zero low high = absurd (omega (arith, low, high))
  one_more b (suc n) low high = by_cases (nat_eq t.sender b)
      (λ y. moved_by _ _ (
      ap (λ xs. xs ++ flat_map (λ s. rows_of k s (t ∷ took)) (range_with_len (b + 1) n)) (rows_more b y)
      ∙ ap (λ xs. t.row ∷ (rows_of k b took ++ xs)) (beyond (b + 1) n (let e = is_nat t.sender b y in omega (arith, e)))
      ))
      (λ m. subst (λ xs. IsPermutation (xs ++ flat_map (λ s. rows_of k s (t ∷ took)) (range_with_len (b + 1) n)) (t.row ∷ (rows_of k b took ++ flat_map (λ s. rows_of k s took) (range_with_len (b + 1) n)))) (sym (rows_same b m))
      (IsPermutation-trans _ _ _ (IsPermutation-append_right (rows_of k b took) _ _ (one_more (b + 1) n (above b low m) (omega (arith, high))))
      (IsPermutation-middle (rows_of k b took) t.row (flat_map (λ s. rows_of k s took) (range_with_len (b + 1) n)))))
    where
      above : (b : ℕ) → b ≤ t.sender → nat_eq t.sender b ≡ false → b + 1 ≤ t.sender
      above b low m = elim (cases_lt b t.sender) [ inl less ↦ omega (arith, less) | inr more ↦ absurd (differ t.sender b m (omega (arith, low, more))) ]

-- the rows that come at an input, of so many senders, are those of each sender
each_sender : (k n : ℕ) (took : List Taken) → AllByRecursion (λ (t : Taken). (t.input ≡ k) × (t.sender < n)) took → IsPermutation (flat_map (λ s. rows_of k s took) (range_with_len 0 n)) (rows_at k took)
each_sender k n [] h = moved_by _ _ (flat_none (range_with_len 0 n))
each_sender k n (t ∷ took) h =
    let here : nat_eq t.input k ≡ true = subst (λ i. nat_eq i k ≡ true) (sym h.0.0) (nat_same k) in
    IsPermutation-trans _ _ _ (one_more k t took here 0 n (omega arith) (let lt = h.0.1 in omega (arith, lt)))
    (rw here (IsPermutation-cons t.row _ _ (each_sender k n took h.1)))

-- ---- a merge

-- who is no sender has closed
closed_beyond : (sources : List SourceOf) (s : ℕ) → (source_at sources s).closed ≡ false → s < length sources
closed_beyond [] s e = absurd (no_bool e)
closed_beyond (x ∷ xs) zero e = omega arith
closed_beyond (x ∷ xs) (suc s) e = let lt = closed_beyond xs s e in omega (arith, lt)

of_senders : (k : ℕ) (m : MergerOf) (took : List Taken) → AllByRecursion (λ (t : Taken). (t.input ≡ k) × ((source_at m.sources t.sender).closed ≡ false)) took
    → AllByRecursion (λ (t : Taken). (t.input ≡ k) × (t.sender < senders m)) took
of_senders k m [] h = tt
of_senders k m (t ∷ took) h = ((h.0.0, closed_beyond m.sources t.sender h.0.1), of_senders k m took h.1)

only_again : (k : ℕ) (took : List Taken) → rows_at k (only_at k took) ≡ rows_at k took
only_again k [] = refl
only_again k (t ∷ took) = by_cases (nat_eq t.input k) (λ y. rw y (rw y (ap (λ rows. t.row ∷ rows) (only_again k took)))) (λ n. rw n (only_again k took))

merge_moved : (k : ℕ) (m : MergerOf) (took : List Taken) (rows : List Row) → may_give m k (only_at k took) rows
    → IsPermutation (flat_map (λ s. map values_of (hand_of (source m s))) (range_with_len 0 (senders m)) ++ rows_at k took) rows
merge_moved k m took rows h =
    let ns = range_with_len 0 (senders m) in
    let hands : ℕ → List Row = λ s. map values_of (hand_of (source m s)) in
    let lists : IsPermutation (flat_map (λ s. hands s ++ rows_of k s (only_at k took)) ns) rows =
    subst (λ xs. IsPermutation xs rows) (flat_lists (rows_from m.sources k (only_at k took)) ns)
    (subst (IsPermutation _) (sym h.1.is) (items_moved (map (rows_from m.sources k (only_at k took)) ns) h.1.rest h.1.output.0)) in
    let came : IsPermutation (flat_map (λ s. rows_of k s (only_at k took)) ns) (rows_at k took) =
    subst (IsPermutation _) (only_again k took) (each_sender k (senders m) (only_at k took) (of_senders k m (only_at k took) h.0)) in
    IsPermutation-trans _ _ _ (IsPermutation-append_right (flat_map hands ns) _ _ (IsPermutation-sym _ _ came))
    (IsPermutation-trans _ _ _ (IsPermutation-sym _ _ (both_pieces hands (λ s. rows_of k s (only_at k took)) ns)) lists)

by_taker : (t : Taker) (hand : List Row) (k : ℕ) (took : List Taken) (rows : List Row) → brings_by t k hand took rows → IsPermutation (hands_by t hand ++ rows_at k took) rows
by_taker (T.One t) hand k took rows h = moved_by _ _ (sym h)
by_taker (T.Many t) hand k took rows h = moved_by _ _ (sym h)
by_taker (T.Merge m) hand k took rows h = merge_moved k m took rows h

pub brought_are_rows : BroughtAreRows
brought_are_rows k x took rows h = by_taker x.taker (map values_of (hand x)) k took rows h
