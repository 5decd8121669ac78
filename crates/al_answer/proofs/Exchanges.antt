-- What comes over a wire, the exchange of the plan allows.
use Rattle.std.proofs.Common.{◌≡◌, ◌<◌, ℕ, zero, suc, Bool, List, [], ◌∷◌, ◌++◌, map, filter, flat_map, replicate, refl, ap, sym, subst, ◌∙◌, arith, ◌+◌, append-nil}
use Rattle.std.specs.Prelude.{nat_eq}
use Rattle.std.specs.List.{All, AllByRecursion}
use Rattle.std.specs.List.Sorted.{IsPermutation, IsSorted}
use Rattle.std.proofs.lemmas.List.Elements.{All-from_recursion, recursion_from_All, filter-append}
use Rattle.std.proofs.lemmas.List.Sorted.{IsPermutation-sym, IsPermutation-trans}
use Rattle.std.proofs.lemmas.List.FromFn.{length-map-range_with_len}
use Rattle.al_plan.specs.declared.expr.Var.{Var}
use Rattle.al_plan.specs.declared.plan.OrderKey.{OrderKey}
use Rattle.al_plan.specs.Eval.{Env, bind}
use Rattle.al_plan.specs.Allows.{Sets}
use Rattle.al_plan.specs.Allows as V
use Rattle.al_plan.proofs.Moves.{IsPermutation-filter, IsPermutation-same}
use Rattle.al_phys.specs.declared.phys.Phys.{Phys, roll-Phys}
use Rattle.al_phys.specs.declared.phys.Phys.TheOpen as L
use Rattle.al_phys.specs.Operators.{phys_live}
use Rattle.al_phys.specs.Parts.{Parts, part_of}
use Rattle.al_phys.specs.Parts as P
use Rattle.al_phys.proofs.OperatorLaws.{plive-roll}
use Rattle.hy_job.specs.declared.job.Wire.{Wire}
use Rattle.hy_job.specs.declared.job.Wire.TheVariants as W
use Rattle.hy_job.specs.Columns.{Row}
use Rattle.hy_job.specs.Columns as C
use Rattle.hy_job.specs.Exchange.{parts_by, in_first, IsHashed, IsBroadcast, IsExchanged}
use Rattle.hy_job.proofs.KeyOrder.{keys_cmp_total}
use Rattle.hy_job.proofs.RunRows.{all_filter, all_map, interleaves_all}
use Rattle.al_jobgen.specs.Columns.{columns_of, sort_keys}
use Rattle.al_jobgen.specs.Agree.{IsAsWide, AreAsWide}
use Rattle.al_jobgen.proofs.ColumnParts.{hashed_rows, interleaves}
use Rattle.al_jobgen.proofs.ColumnRows.{sorts}
use Rattle.al_answer.specs.Flow.{bound, IsAllowed}
use Rattle.al_answer.proofs.Parts.{every, every_part, each_part, through, part_at, part_same, has_each, first_mapped, rest_empty}
use Rattle.al_answer.proofs.Merging.{in_turn, items_moved, merged}
use Rattle.al_answer.proofs.Operators.{at_roll}

-- ---- rows that come over a wire are rows that were made

module _ (Q : Row → Type 0) (n : ℕ) where
  abbrev AllOf : List Row → Type 0
  AllOf = AllByRecursion Q

  all_first : (m : ℕ) (rows : List Row) → AllByRecursion Q rows → AllByRecursion (AllByRecursion Q) (in_first m rows)
  all_first zero rows h = tt
  all_first (suc m) rows h = (h, none m)
    where
      none : (k : ℕ) → AllByRecursion (AllByRecursion Q) (replicate k [])
      none zero = tt
      none (suc k) = (tt, none k)

  from_first : (received : ℕ → List Row) (rows : List Row) → parts_by n received ≡ in_first n rows → AllByRecursion Q rows → (j : ℕ) → j < n → AllByRecursion Q (received j)
  from_first received rows e h = each_part AllOf received n (All-from_recursion AllOf (parts_by n received) (subst (AllByRecursion AllOf) (sym e) (all_first n rows h)))

  pub exchanged_all : (w : Wire) (made received : ℕ → List Row) → ((s : ℕ) → s < n → AllByRecursion Q (made s)) → IsExchanged w n (parts_by n made) (parts_by n received) → (j : ℕ) → j < n → AllByRecursion Q (received j)
  exchanged_all W.OneToOne made received h e j lt = subst AllOf (sym (part_same n received made e j lt)) (h j lt)
  exchanged_all (W.Hash columns) made received h e j lt =
      interleaves_all Q (map (filter (λ row. nat_eq (C.part_of n columns row) j)) (parts_by n made)) (received j)
      (all_map AllOf AllOf (filter (λ row. nat_eq (C.part_of n columns row) j)) (λ xs g. all_filter Q (λ row. nat_eq (C.part_of n columns row) j) xs g) (parts_by n made) (every AllOf made n h))
      (subst (C.Interleaves (map (filter (λ row. nat_eq (C.part_of n columns row) j)) (parts_by n made))) (part_at received n j [] lt) (e.each j lt))
  exchanged_all W.Broadcast made received h e j lt = interleaves_all Q (parts_by n made) (received j) (every AllOf made n h) (subst (C.Interleaves (parts_by n made)) (part_at received n j [] lt) (e.each j lt))
  exchanged_all W.Gather made received h e j lt = from_first received e.0 e.2 (interleaves_all Q (parts_by n made) e.0 (every AllOf made n h) e.1) j lt
  exchanged_all (W.Merge keys) made received h e j lt = from_first received e.0 e.3 (interleaves_all Q (parts_by n made) e.0 (every AllOf made n h) e.1) j lt

-- ---- exchanges

module _ (passing : Bool) (sets : Sets) (n : ℕ) (q : Phys) (made received : ℕ → List Row) (i : IsAllowed q passing sets n made) where
  abbrev vars : List Var
  vars = phys_live q

  abbrev values : List Row → List Env
  values = map (bind (phys_live q))

  wide_over : (w : Wire) → IsExchanged w n (parts_by n made) (parts_by n received) → (j : ℕ) → j < n → AreAsWide (phys_live q) (received j)
  wide_over w e j lt = All-from_recursion (IsAsWide vars) (received j) (exchanged_all (IsAsWide vars) n w made received (λ s low. recursion_from_All (IsAsWide vars) (made s) (i.wide s low)) e j lt)

  -- the interleavings of all that was made
  mixed : (rows : List Row) → C.Interleaves (parts_by n made) rows → P.Interleaves (bound n (phys_live q) made) (values rows)
  mixed rows h = subst (λ (ps : Parts). P.Interleaves ps (values rows)) (through values made (λ s. values (made s)) n (λ s low. refl)) (interleaves vars (parts_by n made) rows h)

  first_bound : (rows : List Row) → parts_by n received ≡ in_first n rows → bound n (phys_live q) received ≡ P.in_first n (values rows)
  first_bound rows e = sym (through values received (λ s. values (received s)) n (λ s low. refl)) ∙ ap (map values) e ∙ first_mapped (bind vars) n rows

  -- the rows that belong to a part
  abbrev goes : List Var → ℕ → Row → Bool
  goes vs j = λ row. nat_eq (C.part_of n (columns_of (phys_live q) vs) row) j

  abbrev stays : List Var → ℕ → Env → Bool
  stays vs j = λ r. nat_eq (part_of n vs r) j

  pub hashed : (vs : List Var) → IsHashed n (columns_of (phys_live q) vs) (parts_by n made) (parts_by n received) → IsAllowed (roll-Phys (L.HashExchange vs q)) passing sets n received
  hashed vs h =
      at_roll passing sets n (L.HashExchange vs q) vars (plive-roll (L.HashExchange vs q)) received (bound n vars made, i.parts, has_each n _ (λ j. values (received j)) part) (wide_over (W.Hash (columns_of vars vs)) h)
    where
      lists : (j : ℕ) → map values (map (filter (goes vs j)) (parts_by n made)) ≡ map (filter (stays vs j)) (bound n (phys_live q) made)
      lists j =
          ap (map values) (through (filter (goes vs j)) made (λ s. filter (goes vs j) (made s)) n (λ s low. refl))
          ∙ through values (λ s. filter (goes vs j) (made s)) (λ s. filter (stays vs j) (values (made s))) n (λ s low. hashed_rows vars (made s) (i.wide s low) n j vs)
          ∙ sym (through (filter (stays vs j)) (λ s. values (made s)) (λ s. filter (stays vs j) (values (made s))) n (λ s low. refl))

      part : (j : ℕ) → j < n → P.Interleaves (map (filter (stays vs j)) (bound n (phys_live q) made)) (values (received j))
      part j lt = subst (λ (ps : Parts). P.Interleaves ps (values (received j))) (lists j)
          (interleaves vars (map (filter (goes vs j)) (parts_by n made)) (received j) (subst (C.Interleaves (map (filter (goes vs j)) (parts_by n made))) (part_at received n j [] lt) (h.each j lt)))

  pub broadcast : IsBroadcast n (parts_by n made) (parts_by n received) → IsAllowed (roll-Phys (L.Broadcast q)) passing sets n received
  broadcast h =
      at_roll passing sets n (L.Broadcast q) vars (plive-roll (L.Broadcast q)) received
      (bound n vars made, i.parts, has_each n _ (λ j. values (received j)) (λ j lt. mixed (received j) (subst (C.Interleaves (parts_by n made)) (part_at received n j [] lt) (h.each j lt)))) (wide_over W.Broadcast h)

  pub gathered : IsExchanged W.Gather n (parts_by n made) (parts_by n received) → IsAllowed (roll-Phys (L.Gather q)) passing sets n received
  gathered h =
      at_roll passing sets n (L.Gather q) vars (plive-roll (L.Gather q)) received (bound n vars made, i.parts, (values h.0, mixed h.0 h.1, first_bound h.0 h.2)) (wide_over W.Gather h)

  pub merging : (keys : List OrderKey) → IsExchanged (W.Merge (sort_keys (phys_live q) keys)) n (parts_by n made) (parts_by n received) → IsAllowed (roll-Phys (L.Merge keys q)) passing sets n received
  merging keys h =
      at_roll passing sets n (L.Merge keys q) vars (plive-roll (L.Merge keys q)) received (bound n vars made, i.parts, (values h.0, mixed h.0 h.1, in_order, first_bound h.0 h.3)) (wide_over (W.Merge (sort_keys vars keys)) h)
    where
      wide : AreAsWide (phys_live q) h.0
      wide = All-from_recursion (IsAsWide vars) h.0 (interleaves_all (IsAsWide vars) (parts_by n made) h.0 (every (AllByRecursion (IsAsWide vars)) made n (λ s low. recursion_from_All (IsAsWide vars) (made s) (i.wide s low))) h.1)

      in_order : All (IsSorted (V.keys_cmp keys)) (bound n (phys_live q) made) → IsSorted (V.keys_cmp keys) (values h.0)
      in_order up = (sorts vars h.0 wide keys).0 (h.2 (every_part (IsSorted (C.keys_cmp (sort_keys (phys_live q) keys))) made n (λ s low. (sorts vars (made s) (i.wide s low) keys).1 (each_part (IsSorted (V.keys_cmp keys)) (λ k. values (made k)) n up s low))))

-- ---- an exchange directly over a merge

-- parts are allowed but for the order within each
abbrev pub IsMoved : Phys → Bool → Sets → ℕ → (ℕ → List Row) → Type 0
IsMoved p passing sets n rows = (other : ℕ → List Row) × IsAllowed p passing sets n other × ((j : ℕ) → j < n → IsPermutation (other j) (rows j))

pub unmoved : (p : Phys) (passing : Bool) (sets : Sets) (n : ℕ) (rows : ℕ → List Row) → IsAllowed p passing sets n rows → IsMoved p passing sets n rows
unmoved p passing sets n rows i = (rows, i, λ j lt. IsPermutation-same _ _ refl)

all_rows_first : (n : ℕ) (rows : List Row) → 0 < n → flat_map (λ (xs : List Row). xs) (in_first n rows) ≡ rows
all_rows_first zero rows some = absurd (omega (arith, some))
all_rows_first (suc n) rows some = ap (λ (xs : List Row). rows ++ xs) (none n) ∙ append-nil rows
  where
    none : (k : ℕ) → flat_map (λ (xs : List Row). xs) (replicate k []) ≡ []
    none zero = refl
    none (suc k) = none k

filter_flat : (t : Row → Bool) (xss : List (List Row)) → flat_map (λ (xs : List Row). xs) (map (filter t) xss) ≡ filter t (flat_map (λ (xs : List Row). xs) xss)
filter_flat t [] = refl
filter_flat t (xs ∷ xss) = ap (λ (ys : List Row). filter t xs ++ ys) (filter_flat t xss) ∙ sym (filter-append t xs (flat_map (λ (ys : List Row). ys) xss))

-- rows in part 0 alone
abbrev alone : List Row → ℕ → List Row
alone rows zero = rows
alone rows (suc j) = []

alone_first : (n : ℕ) (rows : List Row) → parts_by n (alone rows) ≡ in_first n rows
alone_first zero rows = refl
alone_first (suc n) rows = ap (λ (ps : List (List Row)). rows ∷ ps) (rest_empty (alone rows) (0 + 1) n (λ j low high. none j (omega (arith, low))))
  where
    none : (j : ℕ) → 0 < j → alone rows j ≡ []
    none zero lt = absurd (omega (arith, lt))
    none (suc j) lt = refl

module _ (passing : Bool) (sets : Sets) (n : ℕ) (some : 0 < n) (q : Phys) (keys : List OrderKey) (made received : ℕ → List Row) (i : IsAllowed q passing sets n made) where
  abbrev all : List (List Row) → List Row
  all = flat_map (λ (xs : List Row). xs)

  abbrev one : (zs : List Row) × C.Interleaves (parts_by n made) zs × (All (IsSorted (C.keys_cmp (sort_keys (phys_live q) keys))) (parts_by n made) → IsSorted (C.keys_cmp (sort_keys (phys_live q) keys)) zs)
  one = merged (C.keys_cmp (sort_keys (phys_live q) keys)) (keys_cmp_total (sort_keys (phys_live q) keys)) (parts_by n made)

  -- the rows in order in the first part
  in_one : IsAllowed (roll-Phys (L.Merge keys q)) passing sets n (alone one.0)
  in_one = merging passing sets n q made (alone one.0) i keys (one.0, one.1, one.2, alone_first n one.0)

  abbrev m : Phys
  m = roll-Phys (L.Merge keys q)

  same_rows : IsPermutation (all (parts_by n (alone one.0))) (all (parts_by n made))
  same_rows = IsPermutation-trans _ _ _ (IsPermutation-same _ _ (ap all (alone_first n one.0) ∙ all_rows_first n one.0 some)) (IsPermutation-sym _ _ (items_moved (parts_by n made) one.0 one.1))

  abbrev belongs : List Var → ℕ → Row → Bool
  belongs vs j = λ row. nat_eq (C.part_of n (columns_of (phys_live (roll-Phys (L.Merge keys q))) vs) row) j

  abbrev dealt : List Var → ℕ → List Row
  dealt vs j = all (map (filter (belongs vs j)) (parts_by n (alone one.0)))

  pub hashed_over : (vs : List Var) → IsHashed n (columns_of (phys_live (roll-Phys (L.Merge keys q))) vs) (parts_by n made) (parts_by n received) → IsMoved (roll-Phys (L.HashExchange vs (roll-Phys (L.Merge keys q)))) passing sets n received
  hashed_over vs h = (
    dealt vs,
    hashed passing sets n m (alone one.0) (dealt vs) in_one vs (record { count = length-map-range_with_len (dealt vs) 0 n; each = λ j lt. subst (C.Interleaves (map (filter (belongs vs j)) (parts_by n (alone one.0)))) (sym (part_at (dealt vs) n j [] lt)) (in_turn (map (filter (belongs vs j)) (parts_by n (alone one.0)))) }),
    λ j lt. IsPermutation-trans _ _ _ (IsPermutation-same _ _ (filter_flat (belongs vs j) (parts_by n (alone one.0))))
        (IsPermutation-trans _ _ _ (IsPermutation-filter (belongs vs j) _ _ same_rows)
        (IsPermutation-trans _ _ _ (IsPermutation-same _ _ (sym (filter_flat (belongs vs j) (parts_by n made))))
        (items_moved _ (received j) (subst (C.Interleaves (map (filter (belongs vs j)) (parts_by n made))) (part_at received n j [] lt) (h.each j lt))))),
  )

  pub broadcast_over : IsBroadcast n (parts_by n made) (parts_by n received) → IsMoved (roll-Phys (L.Broadcast (roll-Phys (L.Merge keys q)))) passing sets n received
  broadcast_over h = (
    λ j. all (parts_by n (alone one.0)),
    broadcast passing sets n m (alone one.0) (λ j. all (parts_by n (alone one.0))) in_one (record { count = length-map-range_with_len (λ (k : ℕ). all (parts_by n (alone one.0))) 0 n; each = λ j lt. subst (C.Interleaves (parts_by n (alone one.0))) (sym (part_at (λ k. all (parts_by n (alone one.0))) n j [] lt)) (in_turn (parts_by n (alone one.0))) }),
    λ j lt. IsPermutation-trans _ _ _ same_rows (items_moved (parts_by n made) (received j) (subst (C.Interleaves (parts_by n made)) (part_at received n j [] lt) (h.each j lt))),
  )
