-- Pieces of groups, each with its key and its state, whose joined rows are the groups' rows.
use Rattle.std.proofs.Common.{◌≡◌, ◌≢◌, ◌+◌, ℕ, zero, suc, true, List, [], ◌∷◌, ◌++◌, map, flat_map, drop, length, refl, ap, sym, subst, ◌∙◌, Some, arith}
use Rattle.std.specs.List.{All, AllByRecursion, AllPairs, AllZip, range_with_len}
use Rattle.std.specs.List.Sorted.{IsPermutation}
use Rattle.std.proofs.Math.Seq.{drop-append_seam}
use Rattle.std.proofs.lemmas.List.{length-map}
use Rattle.std.proofs.lemmas.List.Sorted.{IsPermutation-trans, All-permutation}
use Rattle.std.proofs.lemmas.List.Elements.{All-from_recursion, recursion_from_All}
use Rattle.std.proofs.lemmas.Grind.{flat_map-append}
use Rattle.al_value.specs.declared.value.Value.{Value}
use Rattle.al_plan.proofs.Moves.{Apart, apart_from_pairs, pairs_from_apart, IsPermutation-flat_map, IsPermutation-lift}
use Rattle.al_phys.proofs.FlowLaws.{all_both}
use Rattle.hy_job.specs.declared.nested.NestedPlan.{NestedPlan}
use Rattle.hy_job.specs.declared.job.GroupArg.{GroupArg}
use Rattle.hy_job.specs.Columns.{Row, column, cut, key_of, agg_of, Group, rows_in, IsGrouping, ArePieces}
use Rattle.hy_job.specs.Nested.{NAllows, Gives, IsGrouped, is_row_wise, root_aggs, n_state}
use Rattle.hy_job.specs.Runs.{piece_row, first_columns, AreGroupValues, IsGroupOf, AreJoined}
use Rattle.al_jobgen.specs.Agree.{HaveValues, group_by}
use Rattle.al_jobgen.proofs.ColumnLists.{All-unflat}
use Rattle.al_jobgen.proofs.NestedRows.{states_join}

-- ---- the first columns

shifted : (a n : ℕ) (x : Value) (row : Row) → map (column (x ∷ row)) (range_with_len (suc a) n) ≡ map (column row) (range_with_len a n)
shifted a zero x row = refl
shifted a (suc n) x row =
    let next : suc a + 1 ≡ suc (a + 1) = omega arith in
    ap (λ m. column row a ∷ map (column (x ∷ row)) (range_with_len m n)) next ∙ ap (λ (vs : Row). column row a ∷ vs) (shifted (a + 1) n x row)

-- the columns before others
pub first_values : (ks more : List Value) → cut (range_with_len 0 (length ks)) (ks ++ more) ≡ ks
first_values [] more = refl
first_values (k ∷ ks) more = ap (λ (vs : Row). k ∷ vs) (shifted 0 (length ks) k (ks ++ more) ∙ first_values ks more)

-- ---- lists that are cut as their images are

-- where the image of a list is two lists, the list is two
abbrev Halved : {X Y : Type 0} → (X → Y) → List Y → List Y → List X → Type 0
Halved {X} f xs ys zs = (front : List X) × (back : List X) × (zs ≡ front ++ back) × (xs ≡ map f front) × (ys ≡ map f back)

halved : {X Y : Type 0} (f : X → Y) (xs ys : List Y) (zs : List X) → xs ++ ys ≡ map f zs → Halved f xs ys zs
halved f [] ys zs e = ([], zs, refl, refl, e)
halved f (x ∷ xs) ys [] e = absurd (cc)
halved f (x ∷ xs) ys (z ∷ zs) e =
    let first : x ≡ f z = cc in
    let rest : xs ++ ys ≡ map f zs = cc in
    let more = halved f xs ys zs rest in
    (z ∷ more.0, more.1, ap (λ us. z ∷ us) more.2, (λ i. first i ∷ more.3 i), more.4)

abbrev pub Bunch : Type 0 → Type 0
Bunch X = X × List X

abbrev pub all_in : {X : Type 0} → Bunch X → List X
all_in b = b.0 ∷ b.1

abbrev pub image : {X Y : Type 0} → (X → Y) → Bunch X → Bunch Y
image f b = (f b.0, map f b.1)

abbrev Bunched : {X Y : Type 0} → (X → Y) → List (Bunch Y) → List X → Type 0
Bunched {X} f groups zs = (bunches : List (Bunch X)) × (groups ≡ map (image f) bunches) × (zs ≡ flat_map all_in bunches)

bunched : {X Y : Type 0} (f : X → Y) (groups : List (Bunch Y)) (zs : List X) → flat_map all_in groups ≡ map f zs → Bunched f groups zs
bunched f [] [] e = ([], refl, refl)
bunched f [] (z ∷ zs) e = absurd (cc)
bunched {X} f (g ∷ groups) zs e = with_front (λ back r. bunched f groups back r) halves.0 halves.1 halves.2 halves.3 halves.4
  where
    halves : Halved f (all_in g) (flat_map all_in groups) zs
    halves = halved f (all_in g) (flat_map all_in groups) zs e

    with_front : ((back : List X) → flat_map all_in groups ≡ map f back → Bunched f groups back) → (front back : List X) → zs ≡ front ++ back → all_in g ≡ map f front → flat_map all_in groups ≡ map f back → Bunched f (g ∷ groups) zs
    with_front onward [] back p q r = absurd (cc)
    with_front onward (x ∷ front) back p q r =
        let head : g.0 ≡ f x = cc in
        let tail : g.1 ≡ map f front = cc in
        let more = onward back r in
        ((x, front) ∷ more.0, (λ i. (head i, tail i) ∷ more.1 i), p ∙ ap (λ us. x ∷ (front ++ us)) more.2)

flat-joined : {X Y : Type 0} (f : X → List Y) (xs : List X) → flat_map (λ ys. ys) (map f xs) ≡ flat_map f xs
flat-joined f [] = refl
flat-joined f (x ∷ xs) = ap (λ ys. f x ++ ys) (flat-joined f xs)

unmapped : {X Y : Type 0} (P : Y → Type 0) (f : X → Y) (xs : List X) → AllByRecursion P (map f xs) → AllByRecursion (λ x. P (f x)) xs
unmapped P f [] h = tt
unmapped P f (x ∷ xs) h = (h.0, unmapped P f xs h.1)

-- what is apart through one map is so through another
module _ {X Y Z : Type 0} (R : Y → Y → Type 0) (S : Z → Z → Type 0) (f : X → Y) (g : X → Z) (k : (a b : X) → R (f a) (f b) → S (g a) (g b)) where
  others_remap : (x : X) (xs : List X) → AllByRecursion (R (f x)) (map f xs) → AllByRecursion (S (g x)) (map g xs)
  others_remap x [] h = tt
  others_remap x (y ∷ xs) h = (k x y h.0, others_remap x xs h.1)

  apart_remap : (xs : List X) → Apart R (map f xs) → Apart S (map g xs)
  apart_remap [] h = tt
  apart_remap (x ∷ xs) h = (others_remap x xs h.0, apart_remap xs h.1)

  pairs_remap : (xs : List X) → AllPairs R (map f xs) → AllPairs S (map g xs)
  pairs_remap xs h = pairs_from_apart S (map g xs) (apart_remap xs (apart_from_pairs R (map f xs) h))

zip_remap : {X Y Z V : Type 0} (R : Y → V → Type 0) (S : Z → V → Type 0) (f : X → Y) (g : X → Z) (P : X → Type 0) → ((x : X) (v : V) → P x → R (f x) v → S (g x) v) → (xs : List X) (vs : List V) → AllByRecursion P xs → AllZip R (map f xs) vs → AllZip S (map g xs) vs
zip_remap R S f g P k [] [] p h = tt
zip_remap R S f g P k [] (v ∷ vs) p h = h
zip_remap R S f g P k (x ∷ xs) [] p h = h
zip_remap R S f g P k (x ∷ xs) (v ∷ vs) p h = (k x v p.0 h.0, zip_remap R S f g P k xs vs p.1 h.1)

-- ---- pieces that are put together

-- the rows of the first piece, and then those of the others
abbrev pub merged : Bunch Group → Group
merged b = (b.0.0, b.0.1 ++ flat_map rows_in b.1)

merged_rows : (bunches : List (Bunch Group)) → flat_map rows_in (flat_map all_in bunches) ≡ flat_map rows_in (map merged bunches)
merged_rows [] = refl
merged_rows (b ∷ bunches) = flat_map-append rows_in (all_in b) (flat_map all_in bunches) ∙ ap (λ (rows : List Row). flat_map rows_in (all_in b) ++ rows) (merged_rows bunches)

-- the key of the rows of a piece is that of its head
abbrev IsAlike : List ℕ → Group → Type 0
IsAlike keys g = All (λ r. key_of keys r ≡ key_of keys g.0) g.1

module _ (arg : GroupArg) where
  pub key_first : (piece : Group) → key_of (first_columns arg) (piece_row arg piece) ≡ key_of arg.keys piece.0
  key_first piece =
      ap (λ n. cut (range_with_len 0 n) (piece_row arg piece)) (sym (length-map arg.keys (column piece.0))) ∙ first_values (key_of arg.keys piece.0) _

  -- bunches whose pieces' rows have one key
  abbrev OneKey : Bunch Group → Type 0
  OneKey b = All (λ r. key_of (first_columns arg) r ≡ key_of (first_columns arg) (piece_row arg b.0)) (map (piece_row arg) b.1)

  alike_more : (head : Row) (pieces : List Group) → AllByRecursion (IsAlike arg.keys) pieces → AllByRecursion (λ p. key_of arg.keys p.0 ≡ key_of arg.keys head) pieces → AllByRecursion (λ r. key_of arg.keys r ≡ key_of arg.keys head) (flat_map rows_in pieces)
  alike_more head [] h g = tt
  alike_more head (p ∷ pieces) h g = (g.0, all_both (λ r. key_of arg.keys r ≡ key_of arg.keys head) p.1 (flat_map rows_in pieces) (each p.1 (recursion_from_All (λ r. key_of arg.keys r ≡ key_of arg.keys p.0) p.1 h.0)) (alike_more head pieces h.1 g.1))
    where
      each : (rows : List Row) → AllByRecursion (λ r. key_of arg.keys r ≡ key_of arg.keys p.0) rows → AllByRecursion (λ r. key_of arg.keys r ≡ key_of arg.keys head) rows
      each [] k = tt
      each (r ∷ rows) k = (k.0 ∙ g.0, each rows k.1)

  heads_alike : (head : Group) (pieces : List Group) → AllByRecursion (λ p. key_of (first_columns arg) (piece_row arg p) ≡ key_of (first_columns arg) (piece_row arg head)) pieces → AllByRecursion (λ p. key_of arg.keys p.0 ≡ key_of arg.keys head.0) pieces
  heads_alike head [] h = tt
  heads_alike head (p ∷ pieces) h = (sym (key_first p) ∙ h.0 ∙ key_first head, heads_alike head pieces h.1)

  alike_merged : (bunches : List (Bunch Group)) → AllByRecursion (λ b. AllByRecursion (IsAlike arg.keys) (all_in b)) bunches → AllByRecursion OneKey bunches → AllByRecursion (IsAlike arg.keys) (map merged bunches)
  alike_merged [] h g = tt
  alike_merged (b ∷ bunches) h g = (
    All-from_recursion (λ r. key_of arg.keys r ≡ key_of arg.keys b.0.0) (b.0.1 ++ flat_map rows_in b.1)
        (all_both (λ r. key_of arg.keys r ≡ key_of arg.keys b.0.0) b.0.1 (flat_map rows_in b.1) (recursion_from_All (λ r. key_of arg.keys r ≡ key_of arg.keys b.0.0) b.0.1 h.0.0)
        (alike_more b.0.0 b.1 h.0.1 (heads_alike b.0 b.1 (unmapped (λ r. key_of (first_columns arg) r ≡ key_of (first_columns arg) (piece_row arg b.0)) (piece_row arg) b.1 (recursion_from_All (λ r. key_of (first_columns arg) r ≡ key_of (first_columns arg) (piece_row arg b.0)) (map (piece_row arg) b.1) g.0))))),
    alike_merged bunches h.1 g.1,
  )

  -- the groups of the pieces' rows, as groups of the rows themselves
  pub regrouped : (rows : List Row) (pieces : List Group) → ArePieces arg.keys rows pieces → (groups : List Group) → IsGrouping (first_columns arg) (map (piece_row arg) pieces) groups
      → (bunches : List (Bunch Group)) × (groups ≡ map (image (piece_row arg)) bunches) × IsPermutation pieces (flat_map all_in bunches) × IsGrouping arg.keys rows (map merged bunches)
  regrouped rows pieces h groups g =
      let lifted = IsPermutation-lift (piece_row arg) pieces (flat_map rows_in groups) g.moved in
      let cuts = bunched (piece_row arg) groups lifted.0 lifted.2 in
      let moved : IsPermutation pieces (flat_map all_in cuts.0) = subst (IsPermutation pieces) cuts.2 lifted.1 in
      let alike = All-unflat (IsAlike arg.keys) all_in cuts.0 (All-permutation (IsAlike arg.keys) pieces (flat_map all_in cuts.0) moved h.alike) in
      let images = subst (IsGrouping (first_columns arg) (map (piece_row arg) pieces)) cuts.1 g in (
        cuts.0,
        cuts.1,
        moved,
        record {
          moved = IsPermutation-trans rows (flat_map rows_in pieces) _ h.moved (subst (IsPermutation (flat_map rows_in pieces)) (merged_rows cuts.0) (IsPermutation-flat_map rows_in pieces (flat_map all_in cuts.0) moved));
          alike = All-from_recursion (IsAlike arg.keys) (map merged cuts.0) (alike_merged cuts.0 alike
              (unmapped (λ b. All (λ r. key_of (first_columns arg) r ≡ key_of (first_columns arg) b.0) b.1) (image (piece_row arg)) cuts.0 (recursion_from_All (λ b. All (λ r. key_of (first_columns arg) r ≡ key_of (first_columns arg) b.0) b.1) (map (image (piece_row arg)) cuts.0) images.alike)));
          apart = pairs_remap (λ a b. key_of (first_columns arg) a.0 ≢ key_of (first_columns arg) b.0) (λ a b. key_of arg.keys a.0 ≢ key_of arg.keys b.0) (image (piece_row arg)) merged (λ a b other same. other (key_first a.0 ∙ same ∙ sym (key_first b.0))) cuts.0 images.apart;
        },
      )

-- ---- the groups' rows

module _ (n : NestedPlan) (wise : is_row_wise n ≡ true) (keys : List ℕ) where
  abbrev own : GroupArg
  own = group_by keys n

  behind_key : (piece : Group) → drop (length keys) (piece_row own piece) ≡ n_state n (rows_in piece)
  behind_key piece =
      ap (λ k. drop k (piece_row own piece)) (sym (length-map keys (column piece.0))) ∙ drop-append_seam (key_of keys piece.0) (n_state n (rows_in piece))

  states : (pieces : List Group) → map (drop (length keys)) (map (piece_row own) pieces) ≡ map (n_state n) (map rows_in pieces)
  states [] = refl
  states (p ∷ pieces) = λ i. behind_key p i ∷ states pieces i

  have_values : (pieces : List Group) → AllByRecursion (λ g. HaveValues n (rows_in g)) pieces → AllByRecursion (HaveValues n) (map rows_in pieces)
  have_values [] h = tt
  have_values (p ∷ pieces) h = (h.0, have_values pieces h.1)

  abbrev GroupRow : Group → Row → Type 0
  GroupRow g row = (values : Row) × AreGroupValues (Some n) (map (drop (length keys)) (rows_in g)) values × (row ≡ key_of (first_columns own) g.0 ++ values)

  made : (b : Bunch Group) (row : Row) → AllByRecursion (λ g. HaveValues n (rows_in g)) (all_in b) → GroupRow (image (piece_row own) b) row → Gives n (rows_in (merged b)) (λ inner. row ≡ key_of keys (merged b).0 ++ inner)
  made b row h g =
      let over = states_join n wise (map rows_in (all_in b)) (have_values (all_in b) h) g.0 (subst (λ (fields : List Row). AreJoined (map agg_of (root_aggs n)) fields g.0) (states (all_in b)) g.1) in
      (g.0, subst (λ (rows : List Row). NAllows n rows (g.0 ∷ [])) (flat-joined rows_in (all_in b)) over, g.2 ∙ ap (λ (k : Row). k ++ g.0) (key_first own b.0))

  pub pieces_grouped : (rows : List Row) (pieces : List Group) → ArePieces keys rows pieces → AllByRecursion (λ g. HaveValues n (rows_in g)) pieces → (out : List Row) → IsGroupOf own (map (piece_row own) pieces) out → IsGrouped keys n rows out
  pieces_grouped rows pieces h valid out g =
      let found = regrouped own rows pieces h g.0 g.2 in
      let values = All-unflat (λ p. HaveValues n (rows_in p)) all_in found.0 (All-permutation (λ p. HaveValues n (rows_in p)) pieces (flat_map all_in found.0) found.2 (All-from_recursion (λ p. HaveValues n (rows_in p)) pieces valid)) in
      let zip = subst (λ (gs : List Group). AllZip GroupRow gs g.1) found.1 g.3 in (
        map merged found.0,
        g.1,
        found.3,
        zip_remap GroupRow (λ m row. Gives n (rows_in m) (λ inner. row ≡ key_of keys m.0 ++ inner)) (image (piece_row own)) merged (λ b. AllByRecursion (λ p. HaveValues n (rows_in p)) (all_in b)) made found.0 g.1 values zip,
        g.4,
      )
