-- Partitioning and order of parts that come of other parts, and of parts that an exchange makes.
use Rattle.std.proofs.Common.{◌≡◌, ◌<◌, ℕ, zero, suc, true, false, List, [], ◌∷◌, ◌++◌, map, filter, flat_map, drop, replicate, length, get_or, refl, ap, sym, subst, ◌∙◌, arith, ⊎_elim}
use Rattle.std.specs.Prelude.{nat_eq}
use Rattle.std.specs.List.{All, AllByRecursion, AllZip, Contains}
use Rattle.std.specs.List.Sorted.{IsPermutation, IsSorted}
use Rattle.std.proofs.lemmas.List.Elements.{All-nil, All-from_recursion, recursion_from_All, All-weaker, All-contains, All-replicate, All-from_get_or, filter_passes}
use Rattle.std.proofs.lemmas.List.Sorted.{IsPermutation-sym, IsPermutation-trans, IsPermutation-cons, IsPermutation-append_right, IsPermutation-middle}
use Rattle.al_plan.specs.declared.expr.Var.{Var}
use Rattle.al_plan.specs.declared.plan.OrderKey.{OrderKey}
use Rattle.al_plan.specs.Eval.{Env}
use Rattle.al_plan.specs.Allows.{keys_cmp}
use Rattle.al_plan.specs.Refines.{AreLive}
use Rattle.al_plan.proofs.Bools.{no}
use Rattle.al_plan.proofs.Within.{zip_all}
use Rattle.al_plan.proofs.Moves.{IsPermutation-same}
use Rattle.al_phys.specs.declared.property.Partitioning.{Partitioning}
use Rattle.al_phys.specs.declared.property.Partitioning.TheVariants as D
use Rattle.al_phys.specs.declared.property.Local.{Local}
use Rattle.al_phys.specs.declared.property.Local.TheVariants as O
use Rattle.al_phys.specs.Partition.{partition_of}
use Rattle.al_phys.specs.Parts.{Parts, HasEach, HasParts, HasLocal, Interleaves, Takes, IsHashed, IsBroadcast, in_first, part_of}
use Rattle.al_phys.specs.Properties.{is_broadcast}
use Rattle.al_phys.proofs.CountLaws.{length_pairs}
use Rattle.al_phys.proofs.FlowLaws.{IsAlike, Comes, Follows, comes_none, comes-follows, sorted-follows}
use Rattle.al_phys.proofs.OverLaws.{PartsOver, OrderOver}

-- ---- part by part

at_part : {A B : Type 0} (R : A → B → Type 0) (xs : List A) (ys : List B) (i : ℕ) (d : A) (e : B) → AllZip R xs ys → i < length xs → R (get_or xs i d) (get_or ys i e)
at_part R [] [] i d e h lt = absurd (omega arith)
at_part R [] (y ∷ ys) i d e h lt = absurd h
at_part R (x ∷ xs) [] i d e h lt = absurd h
at_part R (x ∷ xs) (y ∷ ys) zero d e h lt = h.0
at_part R (x ∷ xs) (y ∷ ys) (suc i) d e h lt = at_part R xs ys i d e h.1 (omega arith)

module _ (R : List Env → List Env → Type 0) (input parts : Parts) (zip : AllZip R input parts) where
  -- rows with the values of rows of their part stand where these stood
  pub kept_hash : (vs ws : List Var) → ((rows out : List Env) → R rows out → Comes vs ws rows out) → HasParts (D.Hash ws) input → HasParts (D.Hash vs) parts
  unfolding HasParts
  kept_hash vs ws comes h =
      let same : length input ≡ length parts = length_pairs R input parts zip in
      record {
        count = refl;
        each = λ j lt.
            let n = length parts in
            let before : j < length input = subst (λ (m : ℕ). j < m) (sym same) lt in
            let rows = get_or input j [] in
            let stood = h.each j before in
            All-weaker (λ o. (r : Env) × Contains rows r × IsAlike vs ws r o) (λ o. part_of n vs o ≡ j)
            (λ o c. ap (partition_of n) c.2 ∙ ap (λ (m : ℕ). part_of m ws c.0) (sym same) ∙ All-contains (λ (r : Env). part_of (length input) ws r ≡ j) rows c.0 stood c.1)
            (get_or parts j []) (comes rows (get_or parts j []) (at_part R input parts j [] [] zip before));
      }

  pub kept_first : ((out : List Env) → R [] out → out ≡ []) → HasParts D.Unpartitioned input → HasParts D.Unpartitioned parts
  unfolding HasParts
  kept_first none h = rest input parts zip h
    where
      rest : (xs ys : Parts) → AllZip R xs ys → All (λ rows. rows ≡ []) (drop 1 xs) → All (λ rows. rows ≡ []) (drop 1 ys)
      rest [] [] z h = h
      rest [] (y ∷ ys) z h = absurd z
      rest (x ∷ xs) [] z h = absurd z
      rest (x ∷ xs) (y ∷ ys) z h =
          All-from_recursion (λ rows. rows ≡ []) ys
          (zip_all (λ rows. rows ≡ []) (λ rows. rows ≡ []) R (λ rows out e r. none out (subst (λ (t : List Env). R t out) e r)) xs ys (recursion_from_All (λ rows. rows ≡ []) xs h) z.1)

  -- a partitioning by variables that the rows keep
  pub kept_parts_by : (vars : List Var) → ((vs : List Var) → AreLive vars vs → (rows out : List Env) → R rows out → Comes vs vs rows out) → (d : Partitioning) → is_broadcast d ≡ false → PartsOver vars d → HasParts d input → HasParts d parts
  unfolding HasParts
  kept_parts_by vars comes D.Unpartitioned once over h = kept_first (λ out r. comes_none [] [] out (comes [] tt [] out r)) h
  kept_parts_by vars comes (D.Hash ws) once over h = kept_hash ws ws (comes ws over) h
  kept_parts_by vars comes D.Broadcast once over h = absurd (no once)
  kept_parts_by vars comes D.Random once over h = tt

  pub flow_parts : (vars : List Var) → ((vs : List Var) → AreLive vars vs → (rows out : List Env) → R rows out → Follows vs rows out) → (d : Partitioning) → is_broadcast d ≡ false → PartsOver vars d → HasParts d input → HasParts d parts
  flow_parts vars follows = kept_parts_by vars (λ vs over rows out r. comes-follows vs rows out (follows vs over rows out r))

  pub flow_order : (vars : List Var) → ((vs : List Var) → AreLive vars vs → (rows out : List Env) → R rows out → Follows vs rows out) → (o : Local) → OrderOver vars o → HasLocal o input → HasLocal o parts
  unfolding HasLocal
  flow_order vars follows O.None over h = tt
  flow_order vars follows (O.Order keys) over h =
      All-from_recursion (IsSorted (keys_cmp keys)) parts
      (zip_all (IsSorted (keys_cmp keys)) (IsSorted (keys_cmp keys)) R (λ rows out sorted r. sorted-follows keys rows out sorted (follows _ over rows out r)) input parts (recursion_from_All (IsSorted (keys_cmp keys)) input h) zip)

-- ---- all rows in the first part

pub first_parts : (n : ℕ) (rows : List Env) (parts : Parts) → parts ≡ in_first n rows → HasParts D.Unpartitioned parts
unfolding HasParts
first_parts zero rows parts e = subst (λ (ps : Parts). All (λ rows. rows ≡ []) (drop 1 ps)) (sym e) (All-nil _)
first_parts (suc n) rows parts e = subst (λ (ps : Parts). All (λ rows. rows ≡ []) (drop 1 ps)) (sym e) (All-replicate (λ (rows : List Env). rows ≡ []) n [] refl)

pub first_sorted : (keys : List OrderKey) (n : ℕ) (rows : List Env) → IsSorted (keys_cmp keys) rows → All (IsSorted (keys_cmp keys)) (in_first n rows)
first_sorted keys zero rows h = All-nil _
first_sorted keys (suc n) rows h =
    All-from_recursion (IsSorted (keys_cmp keys)) (rows ∷ replicate n [])
    (h, recursion_from_All (IsSorted (keys_cmp keys)) (replicate n []) (All-replicate (IsSorted (keys_cmp keys)) n [] (λ k d low high. absurd (omega arith))))

-- ---- interleavings

module _ {A : Type 0} where
  takes_all : (P : A → Type 0) (xss : List (List A)) (x : A) (rest : List (List A)) → Takes xss x rest → AllByRecursion (AllByRecursion P) xss → P x × AllByRecursion (AllByRecursion P) rest
  unfolding Takes
  takes_all P [] x rest t h = absurd t
  takes_all P (xs ∷ xss) x rest t h =
      ⊎_elim
      (λ (here : (more : List A) × (xs ≡ x ∷ more) × (rest ≡ more ∷ xss)).
      let all = subst (AllByRecursion P) here.1 h.0 in
      (all.0, subst (AllByRecursion (AllByRecursion P)) (sym here.2) (all.1, h.1)))
      (λ (there : (others : List (List A)) × Takes xss x others × (rest ≡ xs ∷ others)).
      let all = takes_all P xss x there.0 there.1 h.1 in
      (all.0, subst (AllByRecursion (AllByRecursion P)) (sym there.2) (h.0, all.1)))
      t

  -- what holds of all items of the lists holds of the interleaved ones
  pub interleaves_all : (P : A → Type 0) (xss : List (List A)) (zs : List A) → Interleaves xss zs → AllByRecursion (AllByRecursion P) xss → AllByRecursion P zs
  unfolding Interleaves
  interleaves_all P xss [] h all = tt
  interleaves_all P xss (z ∷ zs) h all = let taken = takes_all P xss z h.0 h.1 all in (taken.0, interleaves_all P h.0 zs h.2 taken.1)

  takes_permutation : (xss : List (List A)) (x : A) (rest : List (List A)) → Takes xss x rest → IsPermutation (flat_map (λ (xs : List A). xs) xss) (x ∷ flat_map (λ (xs : List A). xs) rest)
  unfolding Takes
  takes_permutation [] x rest t = absurd t
  takes_permutation (xs ∷ xss) x rest t =
      ⊎_elim
      (λ (here : (more : List A) × (xs ≡ x ∷ more) × (rest ≡ more ∷ xss)).
      IsPermutation-same _ _ (ap (λ (ys : List A). ys ++ flat_map (λ (xs : List A). xs) xss) here.1 ∙ ap (λ (yss : List (List A)). x ∷ flat_map (λ (xs : List A). xs) yss) (sym here.2)))
      (λ (there : (others : List (List A)) × Takes xss x others × (rest ≡ xs ∷ others)).
      subst (λ (yss : List (List A)). IsPermutation (xs ++ flat_map (λ (xs : List A). xs) xss) (x ∷ flat_map (λ (xs : List A). xs) yss)) (sym there.2)
      (IsPermutation-trans _ _ _ (IsPermutation-append_right xs _ _ (takes_permutation xss x there.0 there.1)) (IsPermutation-middle xs x (flat_map (λ (xs : List A). xs) there.0))))
      t

  none_flat : (xss : List (List A)) → All (λ xs. xs ≡ []) xss → flat_map (λ (xs : List A). xs) xss ≡ []
  none_flat [] h = refl
  none_flat (xs ∷ xss) h = ap (λ (ys : List A). ys ++ flat_map (λ (xs : List A). xs) xss) (h zero xs (omega arith)) ∙ none_flat xss (λ k d lt. h (suc k) d (omega arith))

  -- an interleaving has the items of the lists
  pub interleaves_permutation : (xss : List (List A)) (zs : List A) → Interleaves xss zs → IsPermutation (flat_map (λ (xs : List A). xs) xss) zs
  unfolding Interleaves
  interleaves_permutation xss [] h = IsPermutation-same _ _ (none_flat xss h)
  interleaves_permutation xss (z ∷ zs) h = IsPermutation-trans _ _ _ (takes_permutation xss z h.0 h.1) (IsPermutation-cons z _ _ (interleaves_permutation h.0 zs h.2))

  pub interleaves_none : (xss : List (List A)) (zs : List A) → Interleaves xss zs → AllByRecursion (λ xs. xs ≡ []) xss → zs ≡ []
  interleaves_none xss [] h none = refl
  interleaves_none xss (z ∷ zs) h none = absurd (interleaves_all (λ x. ⊥) xss (z ∷ zs) h (nothing xss none)).0
    where
      nothing : (xss : List (List A)) → AllByRecursion (λ xs. xs ≡ []) xss → AllByRecursion (AllByRecursion (λ x. ⊥)) xss
      nothing [] h = tt
      nothing (xs ∷ xss) h = (subst (AllByRecursion (λ x. ⊥)) (sym h.0) tt, nothing xss h.1)

-- ---- exchanges

belongs : (n j : ℕ) (vars : List Var) (input : Parts) → AllByRecursion (AllByRecursion (λ r. part_of n vars r ≡ j)) (map (filter (λ r. nat_eq (part_of n vars r) j)) input)
belongs n j vars [] = tt
belongs n j vars (rows ∷ input) =
    let test = λ (r : Env). nat_eq (part_of n vars r) j in
    (recursion_from_All (λ r. part_of n vars r ≡ j) (filter test rows) (All-weaker (λ r. test r ≡ true) (λ r. part_of n vars r ≡ j) (λ r e. is_equal (part_of n vars r) j e) (filter test rows) (filter_passes test rows)), belongs n j vars input)
  where
    is_equal : (a b : ℕ) → nat_eq a b ≡ true → a ≡ b
    is_equal a b e = grind arith

pub hashed_parts : (n : ℕ) (vars : List Var) (input parts : Parts) → IsHashed n vars input parts → HasParts (D.Hash vars) parts
unfolding HasParts
hashed_parts n vars input parts h =
    subst (λ (m : ℕ). HasEach m (λ j rows. All (λ r. part_of m vars r ≡ j) rows) parts) (sym h.count)
    (record {
      count = h.count;
      each = λ j lt. All-from_recursion (λ r. part_of n vars r ≡ j) (get_or parts j [])
          (interleaves_all (λ r. part_of n vars r ≡ j) (map (filter (λ r. nat_eq (part_of n vars r) j)) input) (get_or parts j []) (h.each j lt) (belongs n j vars input));
    })

pub broadcast_parts : (n : ℕ) (input parts : Parts) → IsBroadcast n input parts → HasParts D.Broadcast parts
unfolding HasParts
broadcast_parts n input parts h =
    All-from_get_or (λ xs. All (IsPermutation xs) parts) parts []
    (λ i lt. All-from_get_or (IsPermutation (get_or parts i [])) parts [] (λ j below. IsPermutation-trans _ _ _ (IsPermutation-sym _ _ (each i lt)) (each j below)))
  where
    each : (i : ℕ) → i < length parts → IsPermutation (flat_map (λ (xs : List Env). xs) input) (get_or parts i [])
    each i lt = interleaves_permutation input (get_or parts i []) (h.each i (subst (λ (m : ℕ). i < m) h.count lt))
