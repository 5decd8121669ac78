-- Pieces of equal rows, whose heads that are put together are the different rows.
use Rattle.std.proofs.Common.{◌≡◌, ◌≢◌, ℕ, List, [], ◌∷◌, ◌++◌, map, flat_map, length, refl, ap, sym, subst, ◌∙◌, append-nil, None, drop, arith}
use Rattle.std.specs.List.{All, AllByRecursion, AllZip, Contains, range_with_len}
use Rattle.std.specs.List.Sorted.{IsPermutation}
use Rattle.std.proofs.lemmas.List.Sorted.{IsPermutation-sym, All-permutation, Contains-permutation}
use Rattle.std.proofs.lemmas.List.Elements.{All-from_recursion, All-weaker, recursion_from_All, All-contains_itself, Contains-append_left, Contains-append_right}
use Rattle.al_plan.proofs.Moves.{AllPairs-permutation}
use Rattle.al_phys.proofs.FlowLaws.{all_both}
use Rattle.hy_job.specs.declared.job.GroupArg.{GroupArg}
use Rattle.hy_job.specs.Columns.{Row, cut, key_of, Group, rows_in, IsGrouping, IsDistinctOf, ArePieces}
use Rattle.hy_job.specs.Runs.{piece_row, first_columns, AreGroupValues, IsGroupOf}
use Rattle.al_jobgen.specs.Agree.{distinct_by}
use Rattle.al_jobgen.proofs.ColumnLists.{All-unflat, pairs-map}
use Rattle.al_jobgen.proofs.NestedPieces.{first_values, regrouped, key_first, merged, image, Bunch}

module _ (width : ℕ) where
  abbrev IsWide : Row → Type 0
  IsWide r = length r ≡ width

  abbrev own : GroupArg
  own = distinct_by width

  -- all values of a row
  itself : (r : Row) → IsWide r → key_of own.keys r ≡ r
  itself r w = ap (λ n. cut (range_with_len 0 n) r) (sym w) ∙ ap (cut (range_with_len 0 (length r))) (sym (append-nil r)) ∙ first_values r []

  abbrev head : Group → Row
  head g = g.0

  -- ---- the heads of groups of equal rows

  -- the other rows of a group are its head
  equal_heads : (g : Group) → AllByRecursion IsWide (rows_in g) → All (λ r. key_of own.keys r ≡ key_of own.keys g.0) g.1 → AllByRecursion (λ r. r ≡ g.0) (rows_in g)
  equal_heads g w h = (refl, each g.1 w.1 (recursion_from_All (λ r. key_of own.keys r ≡ key_of own.keys g.0) g.1 h))
    where
      each : (rows : List Row) → AllByRecursion IsWide rows → AllByRecursion (λ r. key_of own.keys r ≡ key_of own.keys g.0) rows → AllByRecursion (λ r. r ≡ g.0) rows
      each [] v k = tt
      each (r ∷ rows) v k = (sym (itself r v.0) ∙ k.0 ∙ itself g.0 w.0, each rows v.1 k.1)

  among : (heads : List Row) (x : Row) (rows : List Row) → Contains heads x → AllByRecursion (λ r. r ≡ x) rows → AllByRecursion (Contains heads) rows
  among heads x [] c h = tt
  among heads x (r ∷ rows) c h = (subst (Contains heads) (sym h.0) c, among heads x rows c h.1)

  all_among : (heads : List Row) (groups : List Group) → AllByRecursion (λ g. AllByRecursion IsWide (rows_in g)) groups → AllByRecursion (λ g. All (λ r. key_of own.keys r ≡ key_of own.keys g.0) g.1) groups
      → AllByRecursion (Contains heads) (map head groups) → AllByRecursion (Contains heads) (flat_map rows_in groups)
  all_among heads [] w h c = tt
  all_among heads (g ∷ groups) w h c = all_both (Contains heads) (rows_in g) (flat_map rows_in groups) (among heads g.0 (rows_in g) c.0 (equal_heads g w.0 h.0)) (all_among heads groups w.1 h.1 c.1)

  heads_within : (groups : List Group) → AllByRecursion (Contains (flat_map rows_in groups)) (map head groups)
  heads_within [] = tt
  heads_within (g ∷ groups) = (
    Contains-append_left (rows_in g) (flat_map rows_in groups) g.0 (0, omega arith, refl),
    recursion_from_All (Contains (flat_map rows_in (g ∷ groups))) (map head groups)
        (All-weaker (Contains (flat_map rows_in groups)) (Contains (flat_map rows_in (g ∷ groups))) (λ r i. Contains-append_right (rows_in g) (flat_map rows_in groups) r i) (map head groups) (All-from_recursion (Contains (flat_map rows_in groups)) (map head groups) (heads_within groups))),
  )

  heads_distinct : (rows : List Row) → All IsWide rows → (groups : List Group) → IsGrouping own.keys rows groups → IsDistinctOf rows (map head groups)
  heads_distinct rows w groups h =
      let back = IsPermutation-sym rows (flat_map rows_in groups) h.moved in
      let wide = All-unflat IsWide rows_in groups (All-permutation IsWide rows (flat_map rows_in groups) h.moved w) in
      let alike = recursion_from_All (λ g. All (λ r. key_of own.keys r ≡ key_of own.keys g.0) g.1) groups h.alike in
      let heads = recursion_from_All (Contains (map head groups)) (map head groups) (All-contains_itself (map head groups)) in
      record {
        within = All-weaker (Contains (flat_map rows_in groups)) (Contains rows) (λ r i. Contains-permutation (flat_map rows_in groups) rows r back i) (map head groups) (All-from_recursion (Contains (flat_map rows_in groups)) (map head groups) (heads_within groups));
        all = All-permutation (Contains (map head groups)) (flat_map rows_in groups) rows back (All-from_recursion (Contains (map head groups)) (flat_map rows_in groups) (all_among (map head groups) groups wide alike heads));
        once = pairs-map (λ g. AllByRecursion IsWide (rows_in g)) (λ a b. key_of own.keys a.0 ≢ key_of own.keys b.0) ◌≢◌ head (λ a b v u other same. other (ap (key_of own.keys) same)) groups wide h.apart;
      }

  -- ---- the rows that are made

  abbrev GroupRow : Group → Row → Type 0
  GroupRow g row = (values : Row) × AreGroupValues None (map (drop (length own.keys)) (rows_in g)) values × (row ≡ key_of (first_columns own) g.0 ++ values)

  rows_made : (bunches : List (Bunch Group)) (made : List Row) → AllByRecursion (λ b. IsWide (head (merged b))) bunches → AllZip GroupRow (map (image (piece_row own)) bunches) made → made ≡ map head (map merged bunches)
  rows_made [] [] w h = refl
  rows_made [] (row ∷ made) w h = absurd h
  rows_made (b ∷ bunches) [] w h = absurd h
  rows_made (b ∷ bunches) (row ∷ made) w h =
      let values : h.0.0 ≡ [] = h.0.1 in
      let here : row ≡ b.0.0 = h.0.2 ∙ (λ i. key_first own b.0 i ++ values i) ∙ append-nil (key_of own.keys b.0.0) ∙ itself b.0.0 w.0 in
      λ i. here i ∷ rows_made bunches made w.1 h.1 i

  moved_distinct : (rows made out : List Row) → IsDistinctOf rows made → IsPermutation made out → IsDistinctOf rows out
  moved_distinct rows made out h moved = record {
    within = All-permutation (Contains rows) made out moved h.within;
    all = All-weaker (Contains made) (Contains out) (λ r i. Contains-permutation made out r moved i) rows h.all;
    once = AllPairs-permutation ◌≢◌ (λ a b other same. other (sym same)) made out moved h.once;
  }

  heads_wide : (bunches : List (Bunch Group)) → AllByRecursion (λ g. AllByRecursion IsWide (rows_in g)) (map merged bunches) → AllByRecursion (λ b. IsWide (head (merged b))) bunches
  heads_wide [] h = tt
  heads_wide (b ∷ bunches) h = (h.0.0, heads_wide bunches h.1)

  pub pieces_distinct : (rows : List Row) → All IsWide rows → (pieces : List Group) → ArePieces own.keys rows pieces → (out : List Row) → IsGroupOf own (map (piece_row own) pieces) out → IsDistinctOf rows out
  pieces_distinct rows w pieces h out g =
      let found = regrouped own rows pieces h g.0 g.2 in
      let groups = map merged found.0 in
      let wide = All-unflat IsWide rows_in groups (All-permutation IsWide rows (flat_map rows_in groups) found.3.moved w) in
      let made = rows_made found.0 g.1 (heads_wide found.0 wide) (subst (λ (gs : List Group). AllZip GroupRow gs g.1) found.1 g.3) in
      moved_distinct rows g.1 out (subst (IsDistinctOf rows) (sym made) (heads_distinct rows w groups found.3)) g.4
