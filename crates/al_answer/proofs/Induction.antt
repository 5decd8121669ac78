-- What runs in the piece of a plan makes rows that the plan allows: by induction on the plan.
use Rattle.std.proofs.Common.{◌≡◌, ◌⊎◌, inl, inr, ℕ, zero, suc, ◌<◌, ◌+◌, Bool, true, false, Option, Some, None, List, [], ◌∷◌, ◌++◌, map, flat_map, length, refl, ap, sym, subst, ◌∙◌, arith, append_assoc, ⊎_elim}
use Rattle.std.specs.Prelude.{nat_eq, ◌||◌}
use Rattle.std.specs.List.{All, AllByRecursion}
use Rattle.std.specs.List.Sorted.{IsPermutation}
use Rattle.std.proofs.lemmas.List.Elements.{All-from_recursion, recursion_from_All}
use Rattle.std.proofs.lemmas.List.Sorted.{IsPermutation-trans}
use Rattle.al_plan.specs.declared.expr.Var.{Var}
use Rattle.al_plan.specs.declared.expr.Expr.{Expr}
use Rattle.al_plan.specs.declared.plan.AggCall.{AggCall}
use Rattle.al_plan.specs.declared.plan.OrderKey.{OrderKey}
use Rattle.al_plan.specs.Allows.{Sets}
use Rattle.al_plan.specs.Eval.{Bytes, bind}
use Rattle.al_plan.specs.Refines.{Scan, NoTwice, Fills, makes, scans}
use Rattle.al_plan.proofs.Bools.{no}
use Rattle.al_plan.proofs.Makes.{twice_left, twice_right}
use Rattle.al_phys.specs.declared.property.Need.{Need}
use Rattle.al_phys.specs.declared.property.Need.TheVariants as N
use Rattle.al_phys.specs.declared.property.Partitioning.{Partitioning}
use Rattle.al_phys.specs.declared.property.Partitioning.TheVariants as D
use Rattle.al_phys.specs.declared.phys.Phys.{Phys, map-Phys, roll-Phys, out-Phys, out-roll-Phys}
use Rattle.al_phys.specs.declared.phys.Phys.TheVariants as Q
use Rattle.al_phys.specs.declared.phys.Phys.TheOpen as L
use Rattle.al_phys.specs.Operators.{phys_live, phys_makes, phys_scans, phys_result, result_step, makes_step, scans_step, operators, below}
use Rattle.al_phys.specs.PAllows.{PAllows}
use Rattle.al_phys.specs.Gives.{is_hash, is_outer}
use Rattle.al_phys.specs.Properties.{meets, fits, parts_of, spread_of, old_of, required_step}
use Rattle.al_phys.specs.Placed.{IsLaid, IsServed, IsMet, IsExchange, IsWhole, IsGroupInput, IsSortInput, laid_step, whole_step, ascending}
use Rattle.al_phys.proofs.OperatorLaws.{plive-roll, pmakes-roll, pscans-roll, presult-roll, pout-Gather, pout-HashExchange, pout-Broadcast, pout-AggPart, pout-Sort}
use Rattle.al_phys.proofs.PropertyLaws.{spread-roll}
use Rattle.al_phys.proofs.LiveLaws.{AllLaid, laid_here, laid_below, left_laid, right_laid, all_left, all_right}
use Rattle.hy_job.specs.declared.job.Kind.TheVariants as K
use Rattle.hy_job.specs.declared.job.Wire.{Wire}
use Rattle.hy_job.specs.declared.job.Wire.TheVariants as W
use Rattle.hy_job.specs.Columns.{Row, AreValues, state_row}
use Rattle.hy_job.specs.Columns as C
use Rattle.hy_job.specs.Literals.{agg_literals}
use Rattle.hy_job.specs.Sound.{is_second}
use Rattle.hy_job.specs.Runs.{Output, AreJoined, InFirst, IsGroupOf}
use Rattle.hy_job.specs.RunLaws.{is_scan}
use Rattle.hy_job.specs.Exchange.{IsExchanged, parts_by}
use Rattle.hy_job.proofs.RunRows.{dealt_all}
use Rattle.al_jobgen.specs.Columns.{columns_of, rex_of, gen_rex, sort_keys, agg_kind, made_rexes, made_aggs, nested_of, aggs_of, join_arg, is_none}
use Rattle.al_jobgen.specs.JobOf.{Step, Piece, step, state_width, group_arg, all_columns, piece_of, last_of, source_piece, exchange_piece, one_piece, two_piece}
use Rattle.al_jobgen.specs.Shapes.{form}
use Rattle.al_jobgen.specs.Agree.{IsAsWide, AreAsWide, made_vars}
use Rattle.al_jobgen.proofs.PieceForms.{piece-roll, rolled}
use Rattle.al_jobgen.proofs.SoundWhole.{Inputs, by_form}
use Rattle.al_answer.specs.Flow.{Flow, IsAllowed}
use Rattle.al_answer.proofs.Parts.{same, part_same}
use Rattle.al_answer.proofs.Results.{one_part, is_result}
use Rattle.al_answer.proofs.Operators.{scanned_rows, one_row, assigned, selected, projected, resulting, unnested, nested, pre_grouped, limited, limited_locally, checked, sorted}
use Rattle.al_answer.proofs.Exchanges.{IsMoved, unmoved, exchanged_all, hashed, broadcast, gathered, merging, hashed_over, broadcast_over}
use Rattle.al_answer.proofs.Doubles.{joined_rows, mixed_rows, grouped, distinct}
use Rattle.al_answer.proofs.States.{Finishes, finish_here, finish_gathered, finished}
use Rattle.al_answer.proofs.Values.{pick, made_values}
use Rattle.al_answer.proofs.Live.{live_once, once_with, once_both}
use Rattle.al_answer.proofs.Pieces.{RunsIn, One, split_one, Two, split_two, split_union, split_join, last_source, last_one, last_two, last_union, last_join}

-- ---- plans that need an exchange

-- all rows in one part serve where groups meet
unspread : (need : Need) (n : ℕ) → fits D.Unpartitioned need ≡ true → meets D.Unpartitioned need n ≡ false → ⊥
unspread need n t f = no (sym (more (nat_eq n 1) (fits D.Unpartitioned need) t) ∙ f)
  where
    more : (a b : Bool) → b ≡ true → (a || b) ≡ true
    more true b e = refl
    more false b e = e

-- a merge delivers all rows in one part
merge_parts : (q : Phys) (keys : List OrderKey) (s : Phys) (n : ℕ) → q ≡ roll-Phys (L.Merge keys s) → parts_of q n ≡ D.Unpartitioned
merge_parts q keys s n e = one_part q n (ap (λ (z : Phys). (spread_of z).by) e ∙ spread-roll (L.Merge keys s))

first_scan : (set : Bytes) (vars : List Var) (sets : Sets) → Fills ((set, vars) ∷ []) sets → All (λ r. length r ≡ length vars) (sets set)
first_scan set vars sets h = h 0 (set, vars) (omega arith)

pub fills_left : (xs ys : List Scan) (sets : Sets) → Fills (xs ++ ys) sets → Fills xs sets
fills_left xs ys sets h = All-from_recursion _ xs (all_left (λ (s : Scan). All (λ r. length r ≡ length s.1) (sets s.0)) xs ys (recursion_from_All _ (xs ++ ys) h))

pub fills_right : (xs ys : List Scan) (sets : Sets) → Fills (xs ++ ys) sets → Fills ys sets
fills_right xs ys sets h = All-from_recursion _ ys (all_right (λ (s : Scan). All (λ r. length r ≡ length s.1) (sets s.0)) xs ys (recursion_from_All _ (xs ++ ys) h))

module _ (n : ℕ) (some : 0 < n) (passing : Bool) (sets : Sets) (flow : Flow) where
  -- the rows of a piece's last activity
  abbrev pub Made : Piece → ℕ → ℕ → List Row
  Made q start = flow.made (last_of q start)

  abbrev pub Valid : (ℕ → List Row) → Type 0
  Valid rows = (j : ℕ) → j < n → AllByRecursion AreValues (rows j)

  pub record IsIn (p : Phys) (rows : ℕ → List Row) : Type 0 where
    pub allowed : IsAllowed p passing sets n rows
    pub values : Valid rows

  pub record IsNearly (p : Phys) (rows : ℕ → List Row) : Type 0 where
    pub moved : IsMoved p passing sets n rows
    pub values : Valid rows

  -- what comes over a plan's wire
  abbrev pub Comes : Phys → ℕ → (ℕ → List Row) → Type 0
  Comes p start received = IsExchanged (piece_of p).wire n (parts_by n (Made (piece_of p) start)) (parts_by n received)

  -- it is allowed
  abbrev pub Arrives : Phys → ℕ → Type 0
  Arrives p start = (received : ℕ → List Row) → Comes p start received → IsIn p received

  -- but for the order in each part
  abbrev pub ArrivesMoved : Phys → ℕ → Type 0
  ArrivesMoved p start = (received : ℕ → List Row) → Comes p start received → IsNearly p received

  pub record Makes (p : Phys) (start : ℕ) : Type 0 where
    pub wire : (piece_of p).wire ≡ W.OneToOne
    pub rows : IsIn p (Made (piece_of p) start)

  -- what is made goes over a merging wire
  pub record Merges (p q : Phys) (keys : List OrderKey) (start : ℕ) : Type 0 where
    pub wire : (piece_of p).wire ≡ W.Merge (sort_keys (phys_live q) keys)
    pub rows : IsIn q (Made (piece_of p) start)

  -- what is made is the partial states of rows that are allowed
  pub record HasStates (p s : Phys) (made : List (Var × AggCall)) (start : ℕ) : Type 0 where
    pub wire : (piece_of p).wire ≡ W.OneToOne
    pub parts : ℕ → List Row
    pub input : IsIn s parts
    pub literals : AreValues (flat_map agg_literals (made_aggs (phys_live s) made))
    pub states : (j : ℕ) → j < n → Made (piece_of p) start j ≡ state_row (made_aggs (phys_live s) made) (parts j) ∷ []

  -- the row that is joined of the states that come
  abbrev pub Ends : List (Var × AggCall) → Phys → ℕ → Type 0
  Ends made p start = (received : ℕ → List Row) → Comes p start received → (row : Row) → AreJoined (map (λ (m : Var × AggCall). agg_kind m.1) made) (received 0) row → Finishes p passing sets n made row

  -- its rows may stand in more than one part
  abbrev pub Spreads : Phys → Type 0
  Spreads q = parts_of q n ≡ D.Unpartitioned → ⊥

  -- by what the plan is
  abbrev pub Fine : L.Phys-F Phys → Phys → ℕ → Type 0
  Fine (L.HashExchange vars q) p start = IsWhole n q → phys_result q ≡ None → ArrivesMoved p start × (Spreads q → Arrives p start)
  Fine (L.Broadcast q) p start = IsWhole n q → phys_result q ≡ None → ArrivesMoved p start
  Fine (L.Gather q) p start = (IsWhole n q → phys_result q ≡ None → Spreads q → Arrives p start) × ((made : List (Var × AggCall)) (s : Phys) → q ≡ Q.AggPart made s → Ends made p start)
  Fine (L.AggPart made s) p start = HasStates p s made start
  Fine (L.Merge keys q) p start = Merges p q keys start
  Fine _ p start = Makes p start

  abbrev pub Claim : Phys → Type 0
  Claim p = (start : ℕ) → AllLaid n p → NoTwice (phys_makes p) → Fills (phys_scans p) sets → RunsIn n passing sets flow (piece_of p) start → Fine (out-Phys p) p start

  -- ---- what comes

  in_same : (p : Phys) (rows others : ℕ → List Row) → ((j : ℕ) → j < n → rows j ≡ others j) → IsIn p rows → IsIn p others
  in_same p rows others e i = record {
    allowed = record {
      parts = subst (PAllows p passing sets n) (same (λ j. map (bind (phys_live p)) (rows j)) (λ j. map (bind (phys_live p)) (others j)) n (λ j lt. ap (map (bind (phys_live p))) (e j lt))) i.allowed.parts;
      wide = λ j lt. subst (AreAsWide (phys_live p)) (e j lt) (i.allowed.wide j lt);
    };
    values = λ j lt. subst (AllByRecursion AreValues) (e j lt) (i.values j lt);
  }

  comes_by : (p : Phys) (start : ℕ) (received : ℕ → List Row) (w : Wire) → (piece_of p).wire ≡ w → Comes p start received → IsExchanged w n (parts_by n (Made (piece_of p) start)) (parts_by n received)
  comes_by p start received w e c = subst (λ (v : Wire). IsExchanged v n (parts_by n (Made (piece_of p) start)) (parts_by n received)) e c

  made_arrives : (p : Phys) (start : ℕ) → Makes p start → Arrives p start
  made_arrives p start m received c = in_same p (Made (piece_of p) start) received (λ j lt. sym (part_same n received (Made (piece_of p) start) (comes_by p start received W.OneToOne m.wire c) j lt)) m.rows

  nearly : (p : Phys) (start : ℕ) → Arrives p start → ArrivesMoved p start
  nearly p start a received c = let i = a received c in record { moved = unmoved p passing sets n received i.allowed; values = i.values }

  -- a merge that stands for itself
  record IsMerge (p : Phys) (start : ℕ) : Type 0 where
    keys : List OrderKey
    input : Phys
    is : p ≡ roll-Phys (L.Merge keys input)
    merges : Merges p input keys start

  merge_arrives : (p : Phys) (start : ℕ) → IsMerge p start → Arrives p start
  merge_arrives p start m received c =
      let w = comes_by p start received (W.Merge (sort_keys (phys_live m.input) m.keys)) m.merges.wire c in
      subst (λ (z : Phys). IsIn z received) (sym m.is) (record {
        allowed = merging passing sets n m.input (Made (piece_of p) start) received m.merges.rows.allowed m.keys w;
        values = exchanged_all AreValues n (W.Merge (sort_keys (phys_live m.input) m.keys)) (Made (piece_of p) start) received m.merges.rows.values w;
      })

  whole_at : (q : Phys) → IsWhole n q → whole_step n (out-Phys q)
  unfolding IsWhole
  whole_at q h = h

  result_at : (q : Phys) → phys_result q ≡ None → result_step (map-Phys Phys (Option (List Var)) phys_result (out-Phys q)) ≡ None
  result_at q h = sym (presult-roll (out-Phys q)) ∙ ap phys_result (rolled q) ∙ h

  -- a plan that stands by itself, and is no result
  by_itself : (y : L.Phys-F Phys) (p : Phys) (start : ℕ) → p ≡ roll-Phys y → whole_step n y → result_step (map-Phys Phys (Option (List Var)) phys_result y) ≡ None → Fine y p start → Makes p start ⊎ IsMerge p start
  by_itself (L.Scan set vars) p start is w e f = inl f
  by_itself L.One p start is w e f = inl f
  by_itself (L.Assign made q) p start is w e f = inl f
  by_itself (L.Select c q) p start is w e f = inl f
  by_itself (L.Project vars q) p start is w e f = inl f
  by_itself (L.Unnest v its q) p start is w e f = inl f
  by_itself (L.Subplan inner q) p start is w e f = inl f
  by_itself (L.Check own c q) p start is w e f = inl f
  by_itself (L.Join how c l r) p start is w e f = inl f
  by_itself (L.HashGroup keys inner q) p start is w e f = inl f
  by_itself (L.PreGroup keys inner q) p start is w e f = inl f
  by_itself (L.HashDistinct q) p start is w e f = inl f
  by_itself (L.AggPart made q) p start is w e f = absurd w
  by_itself (L.AggFinal made q) p start is w e f = inl f
  by_itself (L.Union made ls rs l r) p start is w e f = inl f
  by_itself (L.Sort keys q) p start is w e f = inl f
  by_itself (L.Limit m k q) p start is w e f = inl f
  by_itself (L.LocalLimit m q) p start is w e f = inl f
  by_itself (L.Result vars q) p start is w e f = absurd (no (sym (ap is_none e)))
  by_itself (L.HashExchange vars q) p start is w e f = absurd w
  by_itself (L.Broadcast q) p start is w e f = absurd w
  by_itself (L.Gather q) p start is w e f = absurd w
  by_itself (L.Merge keys q) p start is w e f = inr (record { keys = keys; input = q; is = is; merges = f })

  at_whole : (p : Phys) (start : ℕ) → IsWhole n p → phys_result p ≡ None → Fine (out-Phys p) p start → Makes p start ⊎ IsMerge p start
  at_whole p start w r f = by_itself (out-Phys p) p start (sym (rolled p)) (whole_at p w) (result_at p r) f

  whole_arrives : (p : Phys) (start : ℕ) → IsWhole n p → phys_result p ≡ None → Fine (out-Phys p) p start → Arrives p start
  whole_arrives p start w r f = ⊎_elim (made_arrives p start) (merge_arrives p start) (at_whole p start w r f)

  -- one whose rows may stand in more than one part is no merge
  spread_makes : (p : Phys) (start : ℕ) → IsWhole n p → phys_result p ≡ None → Spreads p → Fine (out-Phys p) p start → Makes p start
  spread_makes p start w r spreads f = ⊎_elim (λ (m : Makes p start). m) (λ (m : IsMerge p start). absurd (spreads (merge_parts p m.keys m.input n m.is))) (at_whole p start w r f)

  as_of : (p : Phys) (y : L.Phys-F Phys) (start : ℕ) → out-Phys p ≡ y → Fine (out-Phys p) p start → Fine y p start
  as_of p y start e f = subst (λ (z : L.Phys-F Phys). Fine z p start) e f

  spread_if : (need : Need) (q : Phys) → fits D.Unpartitioned need ≡ true → meets (parts_of q n) need n ≡ false → Spreads q
  spread_if need q t f e = unspread need n t (subst (λ (d : Partitioning). meets d need n ≡ false) e f)

  exchanged : (need : Need) (p q : Phys) (start : ℕ) → fits D.Unpartitioned need ≡ true → IsExchange need p q → IsWhole n q → phys_result q ≡ None → Spreads q → Fine (out-Phys p) p start → Arrives p start
  exchanged N.Any p q start t e w r s f = absurd e
  exchanged N.One p q start t e w r s f = (let g : Fine (L.Gather q) p start = as_of p (L.Gather q) start (ap out-Phys e ∙ pout-Gather q) f in g.0 w r s)
  exchanged (N.Keyed vars) p q start t e w r s f = (let g : Fine (L.HashExchange vars q) p start = as_of p (L.HashExchange vars q) start (ap out-Phys e ∙ pout-HashExchange vars q) f in (g w r).1 s)
  exchanged (N.Exactly vars) p q start t e w r s f = absurd (no (sym t))
  exchanged N.All p q start t e w r s f = absurd (no (sym t))

  -- an input that serves a need that rows in one part meet
  arrives : (need : Need) (p : Phys) (start : ℕ) → fits D.Unpartitioned need ≡ true → IsServed n need p → Fine (out-Phys p) p start → Arrives p start
  arrives need p start t s f =
      ⊎_elim
      (λ (here : (p ≡ s.0) × (meets (parts_of s.0 n) need n ≡ true)). whole_arrives p start (subst (IsWhole n) (sym here.0) s.2) (ap phys_result here.0 ∙ s.3) f)
      (λ (there : IsExchange need p s.0 × (meets (parts_of s.0 n) need n ≡ false)). exchanged need p s.0 start t there.0 s.2 s.3 (spread_if need s.0 t there.1) f)
      s.1

  exchanged_nearly : (need : Need) (p q : Phys) (start : ℕ) → IsExchange need p q → IsWhole n q → phys_result q ≡ None → meets (parts_of q n) need n ≡ false → Fine (out-Phys p) p start → ArrivesMoved p start
  exchanged_nearly N.Any p q start e w r m f = absurd e
  exchanged_nearly N.One p q start e w r m f = nearly p start (exchanged N.One p q start refl e w r (spread_if N.One q refl m) f)
  exchanged_nearly (N.Keyed vars) p q start e w r m f = (let g : Fine (L.HashExchange vars q) p start = as_of p (L.HashExchange vars q) start (ap out-Phys e ∙ pout-HashExchange vars q) f in (g w r).0)
  exchanged_nearly (N.Exactly vars) p q start e w r m f = (let g : Fine (L.HashExchange vars q) p start = as_of p (L.HashExchange vars q) start (ap out-Phys e ∙ pout-HashExchange vars q) f in (g w r).0)
  exchanged_nearly N.All p q start e w r m f = (let g : Fine (L.Broadcast q) p start = as_of p (L.Broadcast q) start (ap out-Phys e ∙ pout-Broadcast q) f in g w r)

  -- an input of a join
  arrives_nearly : (need : Need) (p : Phys) (start : ℕ) → IsServed n need p → Fine (out-Phys p) p start → ArrivesMoved p start
  arrives_nearly need p start s f =
      ⊎_elim
      (λ (here : (p ≡ s.0) × (meets (parts_of s.0 n) need n ≡ true)). nearly p start (whole_arrives p start (subst (IsWhole n) (sym here.0) s.2) (ap phys_result here.0 ∙ s.3) f))
      (λ (there : IsExchange need p s.0 × (meets (parts_of s.0 n) need n ≡ false)). exchanged_nearly need p s.0 start there.0 s.2 s.3 there.1 f)
      s.1

  arrives_grouped : (keys : List (Var × Var)) (p : Phys) (start : ℕ) → IsGroupInput n keys p → Fine (out-Phys p) p start → Arrives p start
  arrives_grouped keys p start input f =
      ⊎_elim
      (λ h. arrives (N.Keyed (old_of keys)) p start refl h.0 f)
      (λ h. (let g : Fine (L.Sort (ascending keys) h.0) p start = as_of p (L.Sort (ascending keys) h.0) start (ap out-Phys h.1 ∙ pout-Sort (ascending keys) h.0) f in made_arrives p start g))
      input

  arrives_sorted : (p : Phys) (start : ℕ) → IsSortInput n p → Fine (out-Phys p) p start → Arrives p start
  arrives_sorted p start input f = ⊎_elim (λ h. arrives N.Any p start refl h f) (λ h. arrives (N.Keyed h.0) p start refl h.1 f) input

  -- ---- operators over what comes

  none_of : {P : Type 0} (b : Bool) → b ≡ false → b ≡ true → P
  none_of b e t = absurd (no (sym t ∙ e))

  over_one : (y : L.Phys-F Phys) (p : Phys) (x : Step) (start : ℕ) → piece_of (roll-Phys y) ≡ one_piece (piece_of p) (x ∷ []) W.OneToOne → is_scan x.kind ≡ false → is_second x.kind ≡ false → Arrives p start → (o : One n passing sets flow (piece_of p) x start)
      → ((j : ℕ) → j < n → Output x.kind x.arity n j (pick (flow.received (start + length (piece_of p).steps) j 0) []) (flow.scanned (start + length (piece_of p).steps) j) (flow.handed (start + length (piece_of p).steps) j) (flow.made (start + length (piece_of p).steps) j))
      → (IsAllowed p passing sets n (λ j. flow.received (start + length (piece_of p).steps) j 0) → IsAllowed (roll-Phys y) passing sets n (flow.made (start + length (piece_of p).steps))) → Makes (roll-Phys y) start
  over_one y p x start e no_scan no_second a o makes op =
      let to = start + length (piece_of p).steps in
      let i = a (λ j. flow.received (start + length (piece_of p).steps) j 0) o.comes in
      record {
        wire = ap (λ (q : Piece). q.wire) e;
        rows = subst (λ (k : ℕ). IsIn (roll-Phys y) (flow.made k)) (sym (ap (λ (q : Piece). last_of q start) e ∙ last_one (piece_of p) x W.OneToOne start)) (record {
          allowed = op i.allowed;
          values = λ j lt. made_values x.kind (o.works j lt).literals x.arity n j (flow.received to j 0) [] (flow.scanned to j) (flow.handed to j) (flow.made to j) (i.values j lt) tt (none_of (is_scan x.kind) no_scan) (none_of (is_second x.kind) no_second) (makes j lt);
        });
      }

  over_two : (y : L.Phys-F Phys) (p : Phys) (x z : Step) (start : ℕ) → piece_of (roll-Phys y) ≡ two_piece (piece_of p) (x ∷ z ∷ []) W.OneToOne → is_scan x.kind ≡ false → is_second x.kind ≡ false → is_scan z.kind ≡ false → Arrives p start → (t : Two n passing sets flow (piece_of p) x z start)
      → ((j : ℕ) → j < n → Output x.kind x.arity n j (pick (flow.received (start + length (piece_of p).steps) j 0) []) (flow.scanned (start + length (piece_of p).steps) j) (flow.handed (start + length (piece_of p).steps) j) (flow.made (start + length (piece_of p).steps) j))
      → ((j : ℕ) → j < n → Output z.kind z.arity n j (pick [] []) (flow.scanned (suc (start + length (piece_of p).steps)) j) (flow.handed (suc (start + length (piece_of p).steps)) j) (flow.made (suc (start + length (piece_of p).steps)) j))
      → (IsIn p (λ j. flow.received (start + length (piece_of p).steps) j 0) → IsAllowed (roll-Phys y) passing sets n (flow.made (suc (start + length (piece_of p).steps)))) → Makes (roll-Phys y) start
  over_two y p x z start e no_scan no_second then_no_scan a t builds emits op =
      let to = start + length (piece_of p).steps in
      let i = a (λ j. flow.received (start + length (piece_of p).steps) j 0) t.comes in
      record {
        wire = ap (λ (q : Piece). q.wire) e;
        rows = subst (λ (k : ℕ). IsIn (roll-Phys y) (flow.made k)) (sym (ap (λ (q : Piece). last_of q start) e ∙ last_two (piece_of p) x z W.OneToOne start)) (record {
          allowed = op i;
          values = λ j lt.
              (let built = made_values x.kind (t.first j lt).literals x.arity n j (flow.received to j 0) [] (flow.scanned to j) (flow.handed to j) (flow.made to j) (i.values j lt) tt (none_of (is_scan x.kind) no_scan) (none_of (is_second x.kind) no_second) (builds j lt) in
              made_values z.kind (t.second j lt).literals z.arity n j [] [] (flow.scanned (suc to) j) (flow.handed (suc to) j) (flow.made (suc to) j) tt tt (none_of (is_scan z.kind) then_no_scan) (λ second. subst (AllByRecursion AreValues) (sym (t.hands j lt)) built) (emits j lt));
        });
      }

  over_wire : (y : L.Phys-F Phys) (p : Phys) (w : Wire) (start : ℕ) (received : ℕ → List Row) → piece_of (roll-Phys y) ≡ exchange_piece (piece_of p) w → Comes (roll-Phys y) start received → IsExchanged w n (parts_by n (Made (piece_of p) start)) (parts_by n received)
  over_wire y p w start received e c = subst (λ (q : Piece). IsExchanged q.wire n (parts_by n (Made q start)) (parts_by n received)) e c

  -- a hash or a broadcast over a merge is one wire
  hashed_nearly : (vars : List Var) (p : Phys) (start : ℕ) (received : ℕ → List Row) → IsMerge p start → IsExchanged (W.Hash (columns_of (phys_live p) vars)) n (parts_by n (Made (piece_of p) start)) (parts_by n received) → IsMoved (roll-Phys (L.HashExchange vars p)) passing sets n received
  hashed_nearly vars p start received m =
      subst (λ (z : Phys). IsExchanged (W.Hash (columns_of (phys_live z) vars)) n (parts_by n (Made (piece_of p) start)) (parts_by n received) → IsMoved (roll-Phys (L.HashExchange vars z)) passing sets n received) (sym m.is)
      (λ h. hashed_over passing sets n some m.input m.keys (Made (piece_of p) start) received m.merges.rows.allowed vars h)

  broadcast_nearly : (p : Phys) (start : ℕ) (received : ℕ → List Row) → IsMerge p start → IsExchanged W.Broadcast n (parts_by n (Made (piece_of p) start)) (parts_by n received) → IsMoved (roll-Phys (L.Broadcast p)) passing sets n received
  broadcast_nearly p start received m h =
      subst (λ (z : Phys). IsMoved (roll-Phys (L.Broadcast z)) passing sets n received) (sym m.is) (broadcast_over passing sets n some m.input m.keys (Made (piece_of p) start) received m.merges.rows.allowed h)

  hash_in : (vars : List Var) (p : Phys) (start : ℕ) (received : ℕ → List Row) → Makes p start → IsExchanged (W.Hash (columns_of (phys_live p) vars)) n (parts_by n (Made (piece_of p) start)) (parts_by n received) → IsIn (roll-Phys (L.HashExchange vars p)) received
  hash_in vars p start received m h = record {
    allowed = hashed passing sets n p (Made (piece_of p) start) received m.rows.allowed vars h;
    values = exchanged_all AreValues n (W.Hash (columns_of (phys_live p) vars)) (Made (piece_of p) start) received m.rows.values h;
  }

  hash_nearly : (vars : List Var) (p : Phys) (start : ℕ) (received : ℕ → List Row) → Makes p start ⊎ IsMerge p start → IsExchanged (W.Hash (columns_of (phys_live p) vars)) n (parts_by n (Made (piece_of p) start)) (parts_by n received) → IsNearly (roll-Phys (L.HashExchange vars p)) received
  hash_nearly vars p start received (inl m) h =
      let j = hash_in vars p start received m h in
      record { moved = unmoved (roll-Phys (L.HashExchange vars p)) passing sets n received j.allowed; values = j.values }
  hash_nearly vars p start received (inr m) h = record {
    moved = hashed_nearly vars p start received m h;
    values = exchanged_all AreValues n (W.Hash (columns_of (phys_live p) vars)) (Made (piece_of p) start) received m.merges.rows.values h;
  }

  to_all : (p : Phys) (start : ℕ) (received : ℕ → List Row) → Makes p start ⊎ IsMerge p start → IsExchanged W.Broadcast n (parts_by n (Made (piece_of p) start)) (parts_by n received) → IsNearly (roll-Phys (L.Broadcast p)) received
  to_all p start received (inl m) h = record {
    moved = unmoved (roll-Phys (L.Broadcast p)) passing sets n received (broadcast passing sets n p (Made (piece_of p) start) received m.rows.allowed h);
    values = exchanged_all AreValues n W.Broadcast (Made (piece_of p) start) received m.rows.values h;
  }
  to_all p start received (inr m) h = record {
    moved = broadcast_nearly p start received m h;
    values = exchanged_all AreValues n W.Broadcast (Made (piece_of p) start) received m.merges.rows.values h;
  }

  gather_in : (p : Phys) (start : ℕ) (received : ℕ → List Row) → Makes p start → IsExchanged W.Gather n (parts_by n (Made (piece_of p) start)) (parts_by n received) → IsIn (roll-Phys (L.Gather p)) received
  gather_in p start received m h = record {
    allowed = gathered passing sets n p (Made (piece_of p) start) received m.rows.allowed h;
    values = exchanged_all AreValues n W.Gather (Made (piece_of p) start) received m.rows.values h;
  }

  -- ---- partial states

  later : (P : List Row → Type 0) (j : ℕ) (out : List Row) → 0 < j → InFirst P j out → out ≡ []
  later P zero out lt h = absurd (omega (arith, lt))
  later P (suc j) out lt h = h

  ends_here : (ms : List (Var × AggCall)) (p s : Phys) (start : ℕ) → p ≡ Q.AggPart ms s → HasStates p s ms start → Ends ms p start
  ends_here ms p s start e h received c row joined =
      subst (λ (z : Phys). Finishes z passing sets n ms row) (Q.rolls-AggPart ms s ∙ sym e)
      (finish_here passing sets n some ms s h.parts h.input.allowed h.literals h.input.values (Made (piece_of p) start) received h.states (comes_by p start received W.OneToOne h.wire c) row joined)

  ends_gathered : (ms : List (Var × AggCall)) (p s : Phys) (start : ℕ) → p ≡ Q.AggPart ms s → Fine (out-Phys p) p start → (received : ℕ → List Row) → IsExchanged W.Gather n (parts_by n (Made (piece_of p) start)) (parts_by n received)
      → (row : Row) → AreJoined (map (λ (m : Var × AggCall). agg_kind m.1) ms) (received 0) row → Finishes (roll-Phys (L.Gather p)) passing sets n ms row
  ends_gathered ms p s start e f received c row joined =
      let h : HasStates p s ms start = as_of p (L.AggPart ms s) start (ap out-Phys e ∙ pout-AggPart ms s) f in
      subst (λ (z : Phys). Finishes (roll-Phys (L.Gather z)) passing sets n ms row) (Q.rolls-AggPart ms s ∙ sym e)
      (finish_gathered passing sets n some ms s h.parts h.input.allowed h.literals h.input.values (Made (piece_of p) start) received h.states c row joined)

  ends : (ms : List (Var × AggCall)) (p s : Phys) (start : ℕ) → IsMet n N.One p (Q.AggPart ms s) → Fine (out-Phys p) p start → Ends ms p start
  ends ms p s start met f =
      ⊎_elim
      (λ (here : (p ≡ Q.AggPart ms s) × (meets (parts_of (Q.AggPart ms s) n) N.One n ≡ true)). ends_here ms p s start here.0 (as_of p (L.AggPart ms s) start (ap out-Phys here.0 ∙ pout-AggPart ms s) f))
      (λ (there : IsExchange N.One p (Q.AggPart ms s) × (meets (parts_of (Q.AggPart ms s) n) N.One n ≡ false)).
      (let g : Fine (L.Gather (Q.AggPart ms s)) p start = as_of p (L.Gather (Q.AggPart ms s)) start (ap out-Phys there.0 ∙ pout-Gather (Q.AggPart ms s)) f in g.1 ms s refl))
      met

  -- ---- each operator

  layer : (y : L.Phys-F Phys) → Inputs Claim (form y) → laid_step n y → AllByRecursion (IsLaid n) (below (map-Phys Phys (List Phys) operators y)) → NoTwice (makes_step (map-Phys Phys (List Var) phys_makes y)) → Fills (scans_step (map-Phys Phys (List Scan) phys_scans y)) sets
      → (start : ℕ) → RunsIn n passing sets flow (piece_of (roll-Phys y)) start → Fine y (roll-Phys y) start
  layer (L.Scan set vars) i here laid made fills start f =
      let y : L.Phys-F Phys = L.Scan set vars in
      let x : Step = step (K.Scan set) (length (phys_live (roll-Phys y))) in
      let own : RunsIn n passing sets flow (source_piece (x ∷ []) W.OneToOne) start = subst (λ (q : Piece). RunsIn n passing sets flow q start) (piece-roll y) f in
      let works = own.works.0 in
      let rows = λ (j : ℕ) (lt : j < n). (works j lt).makes ∙ ap (C.dealt n j) (works j lt).given.0 in
      record {
        wire = ap (λ (q : Piece). q.wire) (piece-roll y);
        rows = subst (λ (k : ℕ). IsIn (roll-Phys (L.Scan set vars)) (flow.made k)) (sym (ap (λ (q : Piece). last_of q start) (piece-roll y) ∙ last_source x W.OneToOne start)) (record {
          allowed = scanned_rows passing sets n (flow.made start) set vars rows
              (λ j lt. subst (AreAsWide vars) (sym (rows j lt)) (All-from_recursion (IsAsWide vars) _ (dealt_all (IsAsWide vars) n j (sets set) (recursion_from_All (IsAsWide vars) (sets set) (first_scan set vars sets fills)))));
          values = λ j lt. subst (AllByRecursion AreValues) (sym (works j lt).makes) (dealt_all AreValues n j (flow.scanned start j) (works j lt).given.1);
        });
      }
  layer L.One i here laid made fills start f =
      let y : L.Phys-F Phys = L.One in
      let x : Step = step K.One (length (phys_live (roll-Phys y))) in
      let own : RunsIn n passing sets flow (source_piece (x ∷ []) W.OneToOne) start = subst (λ (q : Piece). RunsIn n passing sets flow q start) (piece-roll y) f in
      let works = own.works.0 in
      record {
        wire = ap (λ (q : Piece). q.wire) (piece-roll y);
        rows = subst (λ (k : ℕ). IsIn (roll-Phys L.One) (flow.made k)) (sym (ap (λ (q : Piece). last_of q start) (piece-roll y) ∙ last_source x W.OneToOne start)) (record {
          allowed = one_row passing sets n (flow.made start) (λ j lt. (works j lt).makes);
          values = λ j lt. made_values K.One (works j lt).literals x.arity n j [] [] (flow.scanned start j) (flow.handed start j) (flow.made start j) tt tt (λ t. none_of false refl t) (λ t. none_of false refl t) (works j lt).makes;
        });
      }
  layer (L.Assign ms p) i here laid made fills start f =
      let y : L.Phys-F Phys = L.Assign ms p in
      let x : Step = step (K.Assign (made_rexes (phys_live p) ms)) (length (phys_live (roll-Phys y))) in
      let o = split_one n passing sets flow (piece_of p) x W.OneToOne start (subst (λ (q : Piece). RunsIn n passing sets flow q start) (piece-roll y) f) in
      let to = start + length (piece_of p).steps in
      over_one y p x start (piece-roll y) refl refl (arrives N.Any p start refl here.0 (i start laid (twice_left (phys_makes p) (made_vars ms) made) fills o.input)) o (λ j lt. (o.works j lt).makes)
      (λ a. assigned passing sets n p (λ j. flow.received to j 0) (flow.made to) a ms (once_with n p (made_vars ms) laid made) (λ j lt. (o.works j lt).makes))
  layer (L.Select c p) i here laid made fills start f =
      let y : L.Phys-F Phys = L.Select c p in
      let x : Step = step (K.Select (rex_of (phys_live p) c)) (length (phys_live (roll-Phys y))) in
      let o = split_one n passing sets flow (piece_of p) x W.OneToOne start (subst (λ (q : Piece). RunsIn n passing sets flow q start) (piece-roll y) f) in
      let to = start + length (piece_of p).steps in
      over_one y p x start (piece-roll y) refl refl (arrives N.Any p start refl here.0 (i start laid made fills o.input)) o (λ j lt. (o.works j lt).makes)
      (λ a. selected passing sets n p (λ j. flow.received to j 0) (flow.made to) a c (λ j lt. (o.works j lt).makes))
  layer (L.Project vars p) i here laid made fills start f =
      let y : L.Phys-F Phys = L.Project vars p in
      let x : Step = step (K.Project (columns_of (phys_live p) vars)) (length (phys_live (roll-Phys y))) in
      let o = split_one n passing sets flow (piece_of p) x W.OneToOne start (subst (λ (q : Piece). RunsIn n passing sets flow q start) (piece-roll y) f) in
      let to = start + length (piece_of p).steps in
      over_one y p x start (piece-roll y) refl refl (arrives N.Any p start refl here.0 (i start laid made fills o.input)) o (λ j lt. (o.works j lt).makes)
      (λ a. projected passing sets n p (λ j. flow.received to j 0) (flow.made to) a vars (λ j lt. (o.works j lt).makes))
  layer (L.Unnest v g p) i here laid made fills start f =
      let y : L.Phys-F Phys = L.Unnest v g p in
      let x : Step = step (K.Unnest (gen_rex (phys_live p) g)) (length (phys_live (roll-Phys y))) in
      let o = split_one n passing sets flow (piece_of p) x W.OneToOne start (subst (λ (q : Piece). RunsIn n passing sets flow q start) (piece-roll y) f) in
      let to = start + length (piece_of p).steps in
      over_one y p x start (piece-roll y) refl refl (arrives N.Any p start refl here.0 (i start laid (twice_left (phys_makes p) (v ∷ []) made) fills o.input)) o (λ j lt. (o.works j lt).makes)
      (λ a. unnested passing sets n p (λ j. flow.received to j 0) (flow.made to) a v g (once_with n p (v ∷ []) laid made) (λ j lt. (o.works j lt).makes))
  layer (L.Subplan inner p) i here laid made fills start f =
      let y : L.Phys-F Phys = L.Subplan inner p in
      let x : Step = step (K.Subplan (nested_of (phys_live p) inner)) (length (phys_live (roll-Phys y))) in
      let o = split_one n passing sets flow (piece_of p) x W.OneToOne start (subst (λ (q : Piece). RunsIn n passing sets flow q start) (piece-roll y) f) in
      let to = start + length (piece_of p).steps in
      over_one y p x start (piece-roll y) refl refl
      (arrives N.Any p start refl here.0 (i start laid (twice_left (phys_makes p) (makes inner) made) (fills_left (phys_scans p) (scans inner) sets fills) o.input)) o (λ j lt. (o.works j lt).makes)
      (λ a. nested passing sets n p (λ j. flow.received to j 0) (flow.made to) a inner here.1 (once_with n p (makes inner) laid made) (λ j lt. (o.works j lt).makes))
  layer (L.Check name c p) i here laid made fills start f =
      let y : L.Phys-F Phys = L.Check name c p in
      let x : Step = step (K.Check name (rex_of (phys_live p) c)) (length (phys_live (roll-Phys y))) in
      let o = split_one n passing sets flow (piece_of p) x W.OneToOne start (subst (λ (q : Piece). RunsIn n passing sets flow q start) (piece-roll y) f) in
      let to = start + length (piece_of p).steps in
      over_one y p x start (piece-roll y) refl refl (arrives N.Any p start refl here.0 (i start laid made fills o.input)) o (λ j lt. (o.works j lt).makes)
      (λ a. checked passing sets n p (λ j. flow.received to j 0) (flow.made to) a name c (λ j lt. (o.works j lt).makes) (λ j lt. (o.works j lt).passed))
  layer (L.Join how c l r) i here laid made fills start f =
      let y : L.Phys-F Phys = L.Join how c l r in
      let arg = join_arg (is_hash how) (is_outer how) (phys_live l) (phys_live r) c in
      let x : Step = step (K.JoinBuild arg) (length (phys_live r)) in
      let z : Step = step (K.JoinProbe arg) (length (phys_live (roll-Phys y))) in
      let t = split_join n passing sets flow (piece_of l) (piece_of r) x z W.OneToOne start (subst (λ (q : Piece). RunsIn n passing sets flow q start) (piece-roll y) f) in
      let right = start + length (piece_of l).steps in
      let to = start + length (piece_of l).steps + length (piece_of r).steps in
      let laid_l = left_laid n l r laid in
      let laid_r = right_laid n l r laid in
      let at_l = arrives_nearly (required_step y 0) l start here.0 (i.0 start laid_l (twice_left (phys_makes l) (phys_makes r) made) (fills_left (phys_scans l) (phys_scans r) sets fills) t.left) (λ j. flow.received (suc to) j 0) t.comes_left in
      let at_r = arrives_nearly (required_step y 1) r right here.1 (i.1 right laid_r (twice_right (phys_makes l) (phys_makes r) made) (fills_right (phys_scans l) (phys_scans r) sets fills) t.right) (λ j. flow.received to j 0) t.comes_right in
      let handed = λ (j : ℕ) (lt : j < n). subst (λ (hs : List Row). IsPermutation (flow.received to j 0) hs) (sym (t.hands j lt)) (t.first j lt).makes in
      record {
        wire = ap (λ (q : Piece). q.wire) (piece-roll y);
        rows = subst (λ (k : ℕ). IsIn (roll-Phys (L.Join how c l r)) (flow.made k)) (sym (ap (λ (q : Piece). last_of q start) (piece-roll y) ∙ last_join (piece_of l) (piece_of r) x z W.OneToOne start)) (record {
          allowed = joined_rows passing sets n how c l r (once_both n l r laid_l laid_r made) (λ j. flow.received (suc to) j 0) (λ j. flow.received to j 0) (flow.handed (suc to)) (flow.made (suc to)) at_l.moved at_r.moved handed
              (λ j lt. subst (λ (vs : List Var). IsPermutation (C.joined (length vs) arg (flow.received (suc to) j 0) (flow.handed (suc to) j)) (flow.made (suc to) j)) (plive-roll (L.Join how c l r)) (t.second j lt).makes);
          values = λ j lt.
              (let built = made_values (K.JoinBuild arg) (t.first j lt).literals x.arity n j (flow.received to j 0) [] (flow.scanned to j) (flow.handed to j) (flow.made to j) (at_r.values j lt) tt (λ e. none_of false refl e) (λ e. none_of false refl e) (t.first j lt).makes in
              made_values (K.JoinProbe arg) (t.second j lt).literals z.arity n j (flow.received (suc to) j 0) [] (flow.scanned (suc to) j) (flow.handed (suc to) j) (flow.made (suc to) j) (at_l.values j lt) tt (λ e. none_of false refl e) (λ e. subst (AllByRecursion AreValues) (sym (t.hands j lt)) built) (t.second j lt).makes);
        });
      }
  layer (L.HashGroup keys inner p) i here laid made fills start f =
      let y : L.Phys-F Phys = L.HashGroup keys inner p in
      let arg = group_arg (columns_of (phys_live p) (old_of keys)) (Some inner) p in
      let x : Step = step (K.GroupBuild arg) (length keys + state_width (aggs_of inner)) in
      let z : Step = step (K.GroupEmit arg) (length (phys_live (roll-Phys y))) in
      let t = split_two n passing sets flow (piece_of p) x z W.OneToOne start (subst (λ (q : Piece). RunsIn n passing sets flow q start) (piece-roll y) f) in
      let to = start + length (piece_of p).steps in
      let new : List Var = map (λ (k : Var × Var). k.0) keys in
      over_two y p x z start (piece-roll y) refl refl refl
      (arrives (N.Keyed (old_of keys)) p start refl here.0 (i start laid (twice_left (phys_makes p) (makes inner ++ new) made) (fills_left (phys_scans p) (scans inner) sets fills) t.input)) t (λ j lt. (t.first j lt).makes) (λ j lt. (t.second j lt).makes)
      (λ a. grouped passing sets n p (λ j. flow.received to j 0) (flow.made to) (flow.made (suc to)) a.allowed keys inner here.2 (twice_left (phys_live p ++ makes inner) new (subst NoTwice (sym (append_assoc (phys_live p) (makes inner) new)) (once_with n p (makes inner ++ new) laid made))) here.3 (t.first 0 some).literals a.values
      (λ j lt. (t.first j lt).makes) (λ j lt. subst (λ (hs : List Row). IsGroupOf (group_arg (columns_of (phys_live p) (old_of keys)) (Some inner) p) hs (flow.made (suc to) j)) (t.hands j lt) (t.second j lt).makes))
  layer (L.PreGroup keys inner p) i here laid made fills start f =
      let y : L.Phys-F Phys = L.PreGroup keys inner p in
      let x : Step = step (K.PreGroup (columns_of (phys_live p) (old_of keys)) (nested_of (phys_live p) inner)) (length (phys_live (roll-Phys y))) in
      let o = split_one n passing sets flow (piece_of p) x W.OneToOne start (subst (λ (q : Piece). RunsIn n passing sets flow q start) (piece-roll y) f) in
      let to = start + length (piece_of p).steps in
      let new : List Var = map (λ (k : Var × Var). k.0) keys in
      over_one y p x start (piece-roll y) refl refl
      (arrives_grouped keys p start here.0 (i start laid (twice_left (phys_makes p) (makes inner ++ new) made) (fills_left (phys_scans p) (scans inner) sets fills) o.input)) o (λ j lt. (o.works j lt).makes)
      (λ a. pre_grouped passing sets n p (λ j. flow.received to j 0) (flow.made to) a keys inner here.2 (twice_left (phys_live p ++ makes inner) new (subst NoTwice (sym (append_assoc (phys_live p) (makes inner) new)) (once_with n p (makes inner ++ new) laid made))) (λ j lt. (o.works j lt).makes))
  layer (L.HashDistinct p) i here laid made fills start f =
      let y : L.Phys-F Phys = L.HashDistinct p in
      let arg = group_arg (all_columns p) None p in
      let x : Step = step (K.GroupBuild arg) (length (phys_live p)) in
      let z : Step = step (K.GroupEmit arg) (length (phys_live (roll-Phys y))) in
      let t = split_two n passing sets flow (piece_of p) x z W.OneToOne start (subst (λ (q : Piece). RunsIn n passing sets flow q start) (piece-roll y) f) in
      let to = start + length (piece_of p).steps in
      over_two y p x z start (piece-roll y) refl refl refl (arrives (required_step y 0) p start refl here (i start laid made fills t.input)) t (λ j lt. (t.first j lt).makes) (λ j lt. (t.second j lt).makes)
      (λ a. distinct passing sets n p (λ j. flow.received to j 0) (flow.made to) (flow.made (suc to)) a.allowed (live_once n p laid made) (λ j lt. (t.first j lt).makes)
      (λ j lt. subst (λ (hs : List Row). IsGroupOf (group_arg (all_columns p) None p) hs (flow.made (suc to) j)) (t.hands j lt) (t.second j lt).makes))
  layer (L.AggPart ms p) i here laid made fills start f =
      let y : L.Phys-F Phys = L.AggPart ms p in
      let x : Step = step (K.AggPart (made_aggs (phys_live p) ms)) (state_width (map (λ m. agg_kind m.1) ms)) in
      let o = split_one n passing sets flow (piece_of p) x W.OneToOne start (subst (λ (q : Piece). RunsIn n passing sets flow q start) (piece-roll y) f) in
      let to = start + length (piece_of p).steps in
      record {
        wire = ap (λ (q : Piece). q.wire) (piece-roll y);
        parts = λ j. flow.received to j 0;
        input = arrives N.Any p start refl here.0 (i start laid made fills o.input) (λ j. flow.received to j 0) o.comes;
        literals = (o.works 0 some).literals;
        states = λ j lt. ap (λ (k : ℕ). flow.made k j) (ap (λ (q : Piece). last_of q start) (piece-roll y) ∙ last_one (piece_of p) x W.OneToOne start) ∙ (o.works j lt).makes;
      }
  layer (L.AggFinal ms p) i here laid made fills start f =
      let y : L.Phys-F Phys = L.AggFinal ms p in
      let x : Step = step (K.AggFinal (map (λ m. agg_kind m.1) ms)) (length (phys_live (roll-Phys y))) in
      let o = split_one n passing sets flow (piece_of p) x W.OneToOne start (subst (λ (q : Piece). RunsIn n passing sets flow q start) (piece-roll y) f) in
      let to = start + length (piece_of p).steps in
      let own : Fine (out-Phys p) p start = i start laid (twice_left (phys_makes p) (made_vars ms) made) fills o.input in
      let done = finished passing sets n some ms p (flow.received to 0 0) (flow.made to) (ends ms p here.0 start here.1 own (λ j. flow.received to j 0) o.comes) (o.works 0 some).makes (λ j up lt. later _ j (flow.made to j) up (o.works j lt).makes) in
      record {
        wire = ap (λ (q : Piece). q.wire) (piece-roll y);
        rows = subst (λ (k : ℕ). IsIn (roll-Phys (L.AggFinal ms p)) (flow.made k)) (sym (ap (λ (q : Piece). last_of q start) (piece-roll y) ∙ last_one (piece_of p) x W.OneToOne start)) (record { allowed = done.0; values = done.1 });
      }
  layer (L.Union ms ls rs l r) i here laid made fills start f =
      let y : L.Phys-F Phys = L.Union ms ls rs l r in
      let x : Step = step (K.Union (columns_of (phys_live l) ls) (columns_of (phys_live r) rs)) (length (phys_live (roll-Phys y))) in
      let t = split_union n passing sets flow (piece_of l) (piece_of r) x W.OneToOne start (subst (λ (q : Piece). RunsIn n passing sets flow q start) (piece-roll y) f) in
      let right = start + length (piece_of l).steps in
      let to = start + length (piece_of l).steps + length (piece_of r).steps in
      let laid_l = left_laid n l r laid in
      let laid_r = right_laid n l r laid in
      let at_l = arrives N.Any l start refl here.0 (i.0 start laid_l (twice_left (phys_makes l) (phys_makes r ++ ms) made) (fills_left (phys_scans l) (phys_scans r) sets fills) t.left) (λ j. flow.received to j 0) t.comes_left in
      let at_r = arrives N.Any r right refl here.1 (i.1 right laid_r (twice_left (phys_makes r) ms (twice_right (phys_makes l) (phys_makes r ++ ms) made)) (fills_right (phys_scans l) (phys_scans r) sets fills) t.right) (λ j. flow.received to j 1) t.comes_right in
      record {
        wire = ap (λ (q : Piece). q.wire) (piece-roll y);
        rows = subst (λ (k : ℕ). IsIn (roll-Phys (L.Union ms ls rs l r)) (flow.made k)) (sym (ap (λ (q : Piece). last_of q start) (piece-roll y) ∙ last_union (piece_of l) (piece_of r) x W.OneToOne start)) (record {
          allowed = mixed_rows passing sets n ms ls rs l r here.4 here.5 (λ j. flow.received to j 0) (λ j. flow.received to j 1) (flow.made to) at_l.allowed at_r.allowed (λ j lt. (t.works j lt).makes);
          values = λ j lt. made_values (K.Union (columns_of (phys_live l) ls) (columns_of (phys_live r) rs)) (t.works j lt).literals x.arity n j (flow.received to j 0) (flow.received to j 1) (flow.scanned to j) (flow.handed to j) (flow.made to j) (at_l.values j lt) (at_r.values j lt) (λ e. none_of false refl e) (λ e. none_of false refl e) (t.works j lt).makes;
        });
      }
  layer (L.Sort keys p) i here laid made fills start f =
      let y : L.Phys-F Phys = L.Sort keys p in
      let by = sort_keys (phys_live p) keys in
      let x : Step = step (K.SortBuild by) (length (phys_live p)) in
      let z : Step = step (K.SortEmit by) (length (phys_live (roll-Phys y))) in
      let t = split_two n passing sets flow (piece_of p) x z W.OneToOne start (subst (λ (q : Piece). RunsIn n passing sets flow q start) (piece-roll y) f) in
      let to = start + length (piece_of p).steps in
      over_two y p x z start (piece-roll y) refl refl refl (arrives_sorted p start here.0 (i start laid made fills t.input)) t (λ j lt. (t.first j lt).makes) (λ j lt. (t.second j lt).makes)
      (λ a. sorted passing sets n p (λ j. flow.received to j 0) (flow.made (suc to)) a.allowed keys
      (λ j lt.
      let emits = (t.second j lt).makes in
      (IsPermutation-trans _ _ _ (t.first j lt).makes (subst (λ (hs : List Row). IsPermutation hs (flow.made (suc to) j)) (t.hands j lt) emits.0), emits.1)))
  layer (L.Limit m k p) i here laid made fills start f =
      let y : L.Phys-F Phys = L.Limit m k p in
      let x : Step = step (K.Limit m k) (length (phys_live (roll-Phys y))) in
      let o = split_one n passing sets flow (piece_of p) x W.OneToOne start (subst (λ (q : Piece). RunsIn n passing sets flow q start) (piece-roll y) f) in
      let to = start + length (piece_of p).steps in
      over_one y p x start (piece-roll y) refl refl (arrives N.One p start refl here (i start laid made fills o.input)) o (λ j lt. (o.works j lt).makes)
      (λ a. limited passing sets n p (λ j. flow.received to j 0) (flow.made to) a m k (λ j lt. (o.works j lt).makes))
  layer (L.LocalLimit m p) i here laid made fills start f =
      let y : L.Phys-F Phys = L.LocalLimit m p in
      let x : Step = step (K.LocalLimit m) (length (phys_live (roll-Phys y))) in
      let o = split_one n passing sets flow (piece_of p) x W.OneToOne start (subst (λ (q : Piece). RunsIn n passing sets flow q start) (piece-roll y) f) in
      let to = start + length (piece_of p).steps in
      over_one y p x start (piece-roll y) refl refl (arrives N.Any p start refl here (i start laid made fills o.input)) o (λ j lt. (o.works j lt).makes)
      (λ a. limited_locally passing sets n p (λ j. flow.received to j 0) (flow.made to) a m (λ j lt. (o.works j lt).makes))
  layer (L.Result vars p) i here laid made fills start f =
      let y : L.Phys-F Phys = L.Result vars p in
      let x : Step = step (K.Result (columns_of (phys_live p) vars)) (length (phys_live (roll-Phys y))) in
      let o = split_one n passing sets flow (piece_of p) x W.OneToOne start (subst (λ (q : Piece). RunsIn n passing sets flow q start) (piece-roll y) f) in
      let to = start + length (piece_of p).steps in
      over_one y p x start (piece-roll y) refl refl (arrives N.One p start refl here.0 (i start laid made fills o.input)) o (λ j lt. (o.works j lt).makes)
      (λ a. resulting passing sets n p (λ j. flow.received to j 0) (flow.made to) a vars (λ j lt. (o.works j lt).makes))
  layer (L.HashExchange vars p) i here laid made fills start f = λ w r.
      (let y : L.Phys-F Phys = L.HashExchange vars p in
      let wire : Wire = W.Hash (columns_of (phys_live p) vars) in
      let own : Fine (out-Phys p) p start = i start laid made fills (subst (λ (q : Piece). RunsIn n passing sets flow q start) (piece-roll y) f) in (
        λ received c. hash_nearly vars p start received (at_whole p start w r own) (over_wire y p wire start received (piece-roll y) c),
        λ spreads received c. hash_in vars p start received (spread_makes p start w r spreads own) (over_wire y p wire start received (piece-roll y) c),
      ))
  layer (L.Broadcast p) i here laid made fills start f = λ w r received c.
      (let y : L.Phys-F Phys = L.Broadcast p in
      let own : Fine (out-Phys p) p start = i start laid made fills (subst (λ (q : Piece). RunsIn n passing sets flow q start) (piece-roll y) f) in
      to_all p start received (at_whole p start w r own) (over_wire y p W.Broadcast start received (piece-roll y) c))
  layer (L.Gather p) i here laid made fills start f =
      let y : L.Phys-F Phys = L.Gather p in
      let own : Fine (out-Phys p) p start = i start laid made fills (subst (λ (q : Piece). RunsIn n passing sets flow q start) (piece-roll y) f) in (
        λ w r spreads received c.
            gather_in p start received (spread_makes p start w r spreads own) (over_wire y p W.Gather start received (piece-roll y) c),
        λ ms s e received c. ends_gathered ms p s start e own received (over_wire y p W.Gather start received (piece-roll y) c),
      )
  layer (L.Merge keys p) i here laid made fills start f =
      let y : L.Phys-F Phys = L.Merge keys p in
      let own : Fine (out-Phys p) p start = i start laid made fills (subst (λ (q : Piece). RunsIn n passing sets flow q start) (piece-roll y) f) in
      let m : Makes p start = as_of p (L.Sort keys here.0) start (ap out-Phys here.1 ∙ pout-Sort keys here.0) own in
      record {
        wire = ap (λ (q : Piece). q.wire) (piece-roll y);
        rows = subst (λ (q : Piece). IsIn p (Made q start)) (sym (piece-roll y)) m.rows;
      }

  pub each_fine : (p : Phys) → Claim p
  each_fine = by_form Claim (λ p i. subst Claim (rolled p) (λ start laid made fills f.
      subst (λ (z : L.Phys-F Phys). Fine z (roll-Phys (out-Phys p)) start) (sym (out-roll-Phys (out-Phys p)))
      (layer (out-Phys p) i (laid_here n (out-Phys p) laid) (laid_below n (out-Phys p) laid) (subst NoTwice (pmakes-roll (out-Phys p)) made) (subst (λ (ss : List Scan). Fills ss sets) (pscans-roll (out-Phys p)) fills) start f)))

  -- a plan with a result makes rows that it allows
  pub result_allowed : (p : Phys) (vars : List Var) → phys_result p ≡ Some vars → AllLaid n p → NoTwice (phys_makes p) → Fills (phys_scans p) sets → RunsIn n passing sets flow (piece_of p) 0 → IsAllowed p passing sets n (Made (piece_of p) 0)
  result_allowed p vars e laid made fills f =
      let r = is_result p vars e in
      let m : Makes p 0 = as_of p (L.Result vars r.0) 0 r.1 (each_fine p 0 laid made fills f) in
      m.rows.allowed

  -- what a check receives
  pub check_receives : (name : Bytes) (c : Expr) (p : Phys) (start : ℕ) → IsServed n N.Any p → AllLaid n p → NoTwice (phys_makes p) → Fills (phys_scans p) sets → RunsIn n passing sets flow (piece_of (roll-Phys (L.Check name c p))) start
      → IsAllowed p passing sets n (λ j. flow.received (start + length (piece_of p).steps) j 0)
  check_receives name c p start served laid made fills f =
      let y : L.Phys-F Phys = L.Check name c p in
      let x : Step = step (K.Check name (rex_of (phys_live p) c)) (length (phys_live (roll-Phys y))) in
      let o = split_one n passing sets flow (piece_of p) x W.OneToOne start (subst (λ (q : Piece). RunsIn n passing sets flow q start) (piece-roll y) f) in
      (arrives N.Any p start refl served (each_fine p start laid made fills o.input) (λ j. flow.received (start + length (piece_of p).steps) j 0) o.comes).allowed
