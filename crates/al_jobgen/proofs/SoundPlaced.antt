-- The piece of a placed plan is sound: each operator over its inputs, by what it is laid over.
use Rattle.std.proofs.Common.{◌≡◌, ℕ, ◌≤◌, ◌+◌, ◌-◌, true, false, Option, Some, None, List, [], ◌∷◌, ◌++◌, length, map, refl, ap, sym, subst, ◌∙◌, arith, length-append, append_assoc, ⊎_elim}
use Rattle.std.specs.Prelude.{nat_eq}
use Rattle.std.specs.List.{AllByRecursion}
use Rattle.std.proofs.lemmas.List.Elements.{filter-append}
use Rattle.al_plan.specs.declared.expr.Var.{Var}
use Rattle.al_plan.specs.declared.plan.AggCall.{AggCall}
use Rattle.al_plan.specs.Refines.{AreLive, AtMost64}
use Rattle.al_plan.proofs.Bools.{no}
use Rattle.al_phys.specs.declared.property.Need.{Need}
use Rattle.al_phys.specs.declared.property.Need.TheVariants as N
use Rattle.al_phys.specs.declared.phys.Phys.{Phys, map-Phys, roll-Phys, out-Phys, out-roll-Phys}
use Rattle.al_phys.specs.declared.phys.Phys.TheVariants as Q
use Rattle.al_phys.specs.declared.phys.Phys.TheOpen as L
use Rattle.al_phys.specs.Operators.{phys_live, phys_result, result_step, operators, below}
use Rattle.al_phys.specs.Gives.{is_hash, is_outer}
use Rattle.al_phys.specs.Properties.{meets, parts_of, old_of, required_step}
use Rattle.al_phys.specs.Placed.{Placed, IsLaid, IsServed, IsMet, IsExchange, IsWhole, IsGroupInput, IsSortInput, laid_step, whole_step, vars_of, ascending}
use Rattle.al_phys.proofs.OperatorLaws.{operators-roll, plive-roll, presult-roll, pout-Gather, pout-HashExchange, pout-Broadcast, pout-AggPart, pout-Sort}
use Rattle.al_phys.proofs.LiveLaws.{map_itself, AllLaid, laid_here, laid_below, all_left, all_right}
use Rattle.hy_job.specs.declared.job.Kind.TheVariants as K
use Rattle.hy_job.specs.declared.job.Edge.{Edge}
use Rattle.hy_job.specs.declared.job.Wire.{Wire}
use Rattle.hy_job.specs.declared.job.Wire.TheVariants as W
use Rattle.hy_job.specs.Sound.{SoundJob, Widths, may_leave, IsWireInRange, LeavesNoInput}
use Rattle.al_jobgen.specs.Columns.{columns_of, rex_of, gen_rex, sort_keys, agg_kind, made_rexes, made_aggs, nested_of, aggs_of, join_arg, is_none}
use Rattle.al_jobgen.specs.JobOf.{Step, Piece, job_of, step, state_width, group_arg, all_columns, piece_of, last_of, source_piece, exchange_piece, one_piece, two_piece, union_piece, join_piece}
use Rattle.al_jobgen.specs.Shapes.{form}
use Rattle.al_jobgen.proofs.PieceForms.{piece-roll, rolled, operators_form}
use Rattle.al_jobgen.proofs.SoundGraph.{below_ne, into, into_above, Ranged, last_arity, last_may, last_arity-append, last_may-append}
use Rattle.al_jobgen.proofs.SoundPiece.{StepSound, SoundPiece, GoesOn, Alone, InTwo, keep_none, source_sound, exchange_sound}
use Rattle.al_jobgen.proofs.SoundShapes.{one_sound, pair_sound, union_sound, join_sound}
use Rattle.al_jobgen.proofs.SoundColumns.{length-mapped, columns_below, keys_below}
use Rattle.al_jobgen.proofs.SoundSteps as steps
use Rattle.al_jobgen.proofs.SoundSteps.{assign_step, select_step, check_step, project_step, unnest_step, sort_step, sort_emit_step, limit_step, local_limit_step, agg_part_step, agg_final_step, union_step}
use Rattle.al_jobgen.proofs.SoundGroups.{scan_step, one_step, subplan_step, pre_group_step, group_build_step, group_emit_step, distinct_build_step, distinct_emit_step}
use Rattle.al_jobgen.proofs.SoundJoins.{join_build_step, join_probe_step}
use Rattle.al_jobgen.proofs.SoundWhole.{Inputs, by_form, whole_sound}

-- ---- pieces whose rows go on

-- a sound piece with rows of this width, whose wire may go on
pub record Done (q : Piece) (width : ℕ) : Type 0 where
  pub sound : SoundPiece q
  pub arity : last_arity q.steps ≡ width
  pub on : GoesOn q

-- no edge goes into the last activity
abbrev pub Free : Piece → Type 0
Free q = (start : ℕ) → into (q.edges start) (last_of q start) ≡ []

done_source : (x : Step) → Alone x 0 → may_leave x.kind ≡ 1 → ((v : Widths) → StepSound x.kind x.arity v) → Done (source_piece (x ∷ []) W.OneToOne) x.arity
done_source x alone may local = record { sound = source_sound x W.OneToOne alone local; arity = refl; on = record { free = λ start. tt; range = tt; may = may } }

done_one : (q : Piece) (x : Step) (w : ℕ) → Done q w → Alone x 1 → may_leave x.kind ≡ 1 → ((v : Widths) → v.taken 0 ≡ w → StepSound x.kind x.arity v) → Done (one_piece q (x ∷ []) W.OneToOne) x.arity
done_one q x w d alone may local =
    record {
      sound = one_sound q x W.OneToOne d.sound d.on alone (λ v t. local v (t ∙ d.arity));
      arity = last_arity-append q.steps x [];
      on = record { free = λ start. tt; range = tt; may = last_may-append q.steps x [] ∙ may };
    }

done_two : (q : Piece) (x y : Step) (w : ℕ) → Done q w → InTwo x y 1 0 → may_leave y.kind ≡ 1 → ((v : Widths) → v.taken 0 ≡ w → StepSound x.kind x.arity v) → ((v : Widths) → v.handed ≡ x.arity → v.built ≡ w → StepSound y.kind y.arity v)
    → Done (two_piece q (x ∷ y ∷ []) W.OneToOne) y.arity
done_two q x y w d two may first second =
    record {
      sound = pair_sound q x y W.OneToOne d.sound d.on two (λ v t. first v (t ∙ d.arity)) (λ v h b. second v h (b ∙ d.arity));
      arity = last_arity-append q.steps x (y ∷ []);
      on = record { free = λ start. tt; range = tt; may = last_may-append q.steps x (y ∷ []) ∙ may };
    }

done_union : (l r : Piece) (x : Step) (wl wr : ℕ) → Done l wl → Done r wr → Alone x 2 → may_leave x.kind ≡ 1 → ((v : Widths) → v.taken 0 ≡ wl → v.taken 1 ≡ wr → StepSound x.kind x.arity v) → Done (union_piece l r (x ∷ []) W.OneToOne) x.arity
done_union l r x wl wr dl dr alone may local =
    let apart = sym (append_assoc l.steps r.steps (x ∷ [])) in
    record {
      sound = union_sound l r x W.OneToOne dl.sound dr.sound dl.on dr.on alone (λ v t s. local v (t ∙ dl.arity) (s ∙ dr.arity));
      arity = ap last_arity apart ∙ last_arity-append (l.steps ++ r.steps) x [];
      on = record { free = λ start. tt; range = tt; may = ap last_may apart ∙ last_may-append (l.steps ++ r.steps) x [] ∙ may };
    }

done_join : (l r : Piece) (x y : Step) (wl wr : ℕ) → Done l wl → Done r wr → InTwo x y 1 1 → may_leave y.kind ≡ 1 → ((v : Widths) → v.taken 0 ≡ wr → StepSound x.kind x.arity v) → ((v : Widths) → v.taken 0 ≡ wl → v.handed ≡ x.arity → StepSound y.kind y.arity v)
    → Done (join_piece l r (x ∷ y ∷ []) W.OneToOne) y.arity
done_join l r x y wl wr dl dr two may first second =
    let apart = sym (append_assoc l.steps r.steps (x ∷ y ∷ [])) in
    record {
      sound = join_sound l r x y W.OneToOne dl.sound dr.sound dl.on dr.on two (λ v t. first v (t ∙ dr.arity)) (λ v t h. second v (t ∙ dl.arity) h);
      arity = ap last_arity apart ∙ last_arity-append (l.steps ++ r.steps) x (y ∷ []);
      on = record { free = λ start. tt; range = tt; may = ap last_may apart ∙ last_may-append (l.steps ++ r.steps) x (y ∷ []) ∙ may };
    }

done_exchange : (q : Piece) (wire : Wire) (w : ℕ) → Done q w → ((start : ℕ) → LeavesNoInput wire (into (q.edges start) (last_of q start))) → IsWireInRange wire w → Done (exchange_piece q wire) w
done_exchange q wire w d free range =
    record {
      sound = exchange_sound q wire d.sound;
      arity = d.arity;
      on = record { free = free; range = subst (IsWireInRange wire) (sym d.arity) range; may = d.on.may };
    }

-- the second of two activities has no edge into it, where the first takes the input
second_free : (q : Piece) (x y : Step) (wire : Wire) → Ranged q → Free (two_piece q (x ∷ y ∷ []) wire)
second_free q x y wire ranged start =
    let more = length-append q.steps (x ∷ y ∷ []) in
    let to = start + length q.steps in
    let last : ℕ = start + length (q.steps ++ x ∷ y ∷ []) - 1 in
    let edge : Edge = record { from = last_of q start; to = start + length q.steps; input = 0; wire = q.wire } in
    let none = into_above start (start + length q.steps) (start + length (q.steps ++ x ∷ y ∷ []) - 1) (q.edges start) (ranged.edges start) (omega (arith, more)) in
    let then_none = keep_none (λ (e : Edge). nat_eq e.to last) edge (below_ne (start + length q.steps) (start + length (q.steps ++ x ∷ y ∷ []) - 1) (omega (arith, more))) in
    filter-append (λ (e : Edge). nat_eq e.to last) (q.edges start) (edge ∷ []) ∙ (λ i. none i ++ then_none i)

-- ---- what the parts of a placed plan keep

abbrev IsNarrow : Phys → Type 0
IsNarrow q = AtMost64 (phys_live q)

abbrev AllNarrow : Phys → Type 0
AllNarrow p = AllByRecursion IsNarrow (operators p)

-- its rows are those of its live variables
abbrev pub Ready : Phys → Type 0
Ready p = Done (piece_of p) (length (phys_live p))

module _ (n : ℕ) where
  -- by what the plan is: an exchange, where it stands over such a plan; and the first half of an aggregate, where it makes few
  abbrev Fine : L.Phys-F Phys → Phys → Type 0
  Fine (L.HashExchange vars q) p = IsWhole n q → phys_result q ≡ None → Ready p
  Fine (L.Broadcast q) p = IsWhole n q → phys_result q ≡ None → Ready p
  Fine (L.Gather q) p = (IsWhole n q → phys_result q ≡ None → Ready p) × ((made : List (Var × AggCall)) (s : Phys) → q ≡ Q.AggPart made s → length made ≤ 64 → Done (piece_of p) (state_width (map (λ m. agg_kind m.1) made)))
  Fine (L.AggPart made s) p = length made ≤ 64 → Done (piece_of p) (state_width (map (λ m. agg_kind m.1) made))
  Fine (L.Sort keys s) p = Ready p × Free (piece_of p) × AreLive (phys_live p) (vars_of keys)
  Fine (L.Result vars s) p = SoundPiece (piece_of p)
  Fine _ p = Ready p

  abbrev Claim : Phys → Type 0
  Claim p = AllLaid n p → AllNarrow p → Fine (out-Phys p) p

  whole_at : (q : Phys) → IsWhole n q → whole_step n (out-Phys q)
  unfolding IsWhole
  whole_at q h = h

  result_at : (q : Phys) → phys_result q ≡ None → result_step (map-Phys Phys (Option (List Var)) phys_result (out-Phys q)) ≡ None
  result_at q h = sym (presult-roll (out-Phys q)) ∙ ap phys_result (rolled q) ∙ h

  -- a plan that stands by itself, and is no result
  by_itself : (y : L.Phys-F Phys) (p : Phys) → whole_step n y → result_step (map-Phys Phys (Option (List Var)) phys_result y) ≡ None → Fine y p → Ready p
  by_itself (L.Scan set vars) p w e f = f
  by_itself L.One p w e f = f
  by_itself (L.Assign made q) p w e f = f
  by_itself (L.Select c q) p w e f = f
  by_itself (L.Project vars q) p w e f = f
  by_itself (L.Unnest v its q) p w e f = f
  by_itself (L.Subplan inner q) p w e f = f
  by_itself (L.Check own c q) p w e f = f
  by_itself (L.Join how c l r) p w e f = f
  by_itself (L.HashGroup keys inner q) p w e f = f
  by_itself (L.PreGroup keys inner q) p w e f = f
  by_itself (L.HashDistinct q) p w e f = f
  by_itself (L.AggPart made q) p w e f = absurd w
  by_itself (L.AggFinal made q) p w e f = f
  by_itself (L.Union made ls rs l r) p w e f = f
  by_itself (L.Sort keys q) p w e f = f.0
  by_itself (L.Limit m k q) p w e f = f
  by_itself (L.LocalLimit m q) p w e f = f
  by_itself (L.Result vars q) p w e f = absurd (no (sym (ap is_none e)))
  by_itself (L.HashExchange vars q) p w e f = absurd w
  by_itself (L.Broadcast q) p w e f = absurd w
  by_itself (L.Gather q) p w e f = absurd w
  by_itself (L.Merge keys q) p w e f = f

  -- a plan that stands by itself, or a result
  whole_fine : (y : L.Phys-F Phys) (p : Phys) → whole_step n y → Fine y p → SoundPiece (piece_of p)
  whole_fine (L.Scan set vars) p w f = f.sound
  whole_fine L.One p w f = f.sound
  whole_fine (L.Assign made q) p w f = f.sound
  whole_fine (L.Select c q) p w f = f.sound
  whole_fine (L.Project vars q) p w f = f.sound
  whole_fine (L.Unnest v its q) p w f = f.sound
  whole_fine (L.Subplan inner q) p w f = f.sound
  whole_fine (L.Check own c q) p w f = f.sound
  whole_fine (L.Join how c l r) p w f = f.sound
  whole_fine (L.HashGroup keys inner q) p w f = f.sound
  whole_fine (L.PreGroup keys inner q) p w f = f.sound
  whole_fine (L.HashDistinct q) p w f = f.sound
  whole_fine (L.AggPart made q) p w f = absurd w
  whole_fine (L.AggFinal made q) p w f = f.sound
  whole_fine (L.Union made ls rs l r) p w f = f.sound
  whole_fine (L.Sort keys q) p w f = f.0.sound
  whole_fine (L.Limit m k q) p w f = f.sound
  whole_fine (L.LocalLimit m q) p w f = f.sound
  whole_fine (L.Result vars q) p w f = f
  whole_fine (L.HashExchange vars q) p w f = absurd w
  whole_fine (L.Broadcast q) p w f = absurd w
  whole_fine (L.Gather q) p w f = absurd w
  whole_fine (L.Merge keys q) p w f = f.sound

  as_of : (p : Phys) (y : L.Phys-F Phys) → out-Phys p ≡ y → Fine (out-Phys p) p → Fine y p
  as_of p y e f = subst (λ (z : L.Phys-F Phys). Fine z p) e f

  at_whole : (p : Phys) → IsWhole n p → phys_result p ≡ None → Fine (out-Phys p) p → Ready p
  at_whole p w r f = by_itself (out-Phys p) p (whole_at p w) (result_at p r) f

  exchanged : (need : Need) (p q : Phys) → IsExchange need p q → IsWhole n q → phys_result q ≡ None → Fine (out-Phys p) p → Ready p
  exchanged N.Any p q e w r f = absurd e
  exchanged N.One p q e w r f = (let g : Fine (L.Gather q) p = as_of p (L.Gather q) (ap out-Phys e ∙ pout-Gather q) f in g.0 w r)
  exchanged (N.Keyed vars) p q e w r f = as_of p (L.HashExchange vars q) (ap out-Phys e ∙ pout-HashExchange vars q) f w r
  exchanged (N.Exactly vars) p q e w r f = as_of p (L.HashExchange vars q) (ap out-Phys e ∙ pout-HashExchange vars q) f w r
  exchanged N.All p q e w r f = as_of p (L.Broadcast q) (ap out-Phys e ∙ pout-Broadcast q) f w r

  -- an input that serves a need
  ready : (need : Need) (p : Phys) → IsServed n need p → Fine (out-Phys p) p → Ready p
  ready need p s f =
      ⊎_elim
      (λ (here : (p ≡ s.0) × (meets (parts_of s.0 n) need n ≡ true)). at_whole p (subst (IsWhole n) (sym here.0) s.2) (ap phys_result here.0 ∙ s.3) f)
      (λ (there : IsExchange need p s.0 × (meets (parts_of s.0 n) need n ≡ false)). exchanged need p s.0 there.0 s.2 s.3 f)
      s.1

  ready_group : (keys : List (Var × Var)) (p : Phys) → IsGroupInput n keys p → Fine (out-Phys p) p → Ready p
  ready_group keys p input f =
      ⊎_elim
      (λ h. ready (N.Keyed (old_of keys)) p h.0 f)
      (λ h. (let g : Fine (L.Sort (ascending keys) h.0) p = as_of p (L.Sort (ascending keys) h.0) (ap out-Phys h.1 ∙ pout-Sort (ascending keys) h.0) f in g.0))
      input

  ready_sort : (p : Phys) → IsSortInput n p → Fine (out-Phys p) p → Ready p
  ready_sort p input f = ⊎_elim (λ h. ready N.Any p h f) (λ h. ready (N.Keyed h.0) p h.1 f) input

  -- the partial states of an aggregate
  ready_states : (made : List (Var × AggCall)) (p q : Phys) → IsMet n N.One p (Q.AggPart made q) → length made ≤ 64 → Fine (out-Phys p) p → Done (piece_of p) (state_width (map (λ m. agg_kind m.1) made))
  ready_states made p q met few f =
      ⊎_elim
      (λ (here : (p ≡ Q.AggPart made q) × (meets (parts_of (Q.AggPart made q) n) N.One n ≡ true)). as_of p (L.AggPart made q) (ap out-Phys here.0 ∙ pout-AggPart made q) f few)
      (λ (there : IsExchange N.One p (Q.AggPart made q) × (meets (parts_of (Q.AggPart made q) n) N.One n ≡ false)).
      (let g : Fine (L.Gather (Q.AggPart made q)) p = as_of p (L.Gather (Q.AggPart made q)) (ap out-Phys there.0 ∙ pout-Gather (Q.AggPart made q)) f in g.1 made q refl few))
      met

  -- ---- how wide the parts are

  narrow_here : (y : L.Phys-F Phys) → AllNarrow (roll-Phys y) → length (phys_live (roll-Phys y)) ≤ 64
  narrow_here y h =
      let all = subst (AllByRecursion IsNarrow) (operators-roll y) h in
      subst (λ (z : L.Phys-F Phys). IsNarrow (roll-Phys z)) (map_itself y) all.0

  narrow_below : (y : L.Phys-F Phys) → AllNarrow (roll-Phys y) → AllByRecursion IsNarrow (below (map-Phys Phys (List Phys) operators y))
  narrow_below y h = let all = subst (AllByRecursion IsNarrow) (operators-roll y) h in all.1

  few_of : (p : Phys) → AllNarrow p → length (phys_live p) ≤ 64
  few_of p h = let all = subst (AllByRecursion IsNarrow) (operators_form p) h in all.0

  -- ---- each operator

  at_roll : (y : L.Phys-F Phys) (q : Piece) (w : ℕ) → piece_of (roll-Phys y) ≡ q → Done q w → Done (piece_of (roll-Phys y)) w
  at_roll y q w e d = subst (λ (z : Piece). Done z w) (sym e) d

  over : (y : L.Phys-F Phys) (p : Phys) (x : Step) (w : ℕ) → piece_of (roll-Phys y) ≡ one_piece (piece_of p) (x ∷ []) W.OneToOne → Done (piece_of p) w → Alone x 1 → may_leave x.kind ≡ 1
      → ((v : Widths) → v.taken 0 ≡ w → StepSound x.kind x.arity v) → Done (piece_of (roll-Phys y)) x.arity
  over y p x w e d alone may local = at_roll y (one_piece (piece_of p) (x ∷ []) W.OneToOne) x.arity e (done_one (piece_of p) x w d alone may local)

  over_two : (y : L.Phys-F Phys) (p : Phys) (x z : Step) (w : ℕ) → piece_of (roll-Phys y) ≡ two_piece (piece_of p) (x ∷ z ∷ []) W.OneToOne → Done (piece_of p) w → InTwo x z 1 0 → may_leave z.kind ≡ 1
      → ((v : Widths) → v.taken 0 ≡ w → StepSound x.kind x.arity v) → ((v : Widths) → v.handed ≡ x.arity → v.built ≡ w → StepSound z.kind z.arity v) → Done (piece_of (roll-Phys y)) z.arity
  over_two y p x z w e d two may first second = at_roll y (two_piece (piece_of p) (x ∷ z ∷ []) W.OneToOne) z.arity e (done_two (piece_of p) x z w d two may first second)

  over_exchange : (y : L.Phys-F Phys) (p : Phys) (wire : Wire) (w : ℕ) → piece_of (roll-Phys y) ≡ exchange_piece (piece_of p) wire → Done (piece_of p) w
      → ((start : ℕ) → LeavesNoInput wire (into ((piece_of p).edges start) (last_of (piece_of p) start))) → IsWireInRange wire w → Done (piece_of (roll-Phys y)) w
  over_exchange y p wire w e d free range = at_roll y (exchange_piece (piece_of p) wire) w e (done_exchange (piece_of p) wire w d free range)

  -- an exchange has the live variables of its input
  same_width : (q : Piece) (p r : Phys) → phys_live p ≡ phys_live r → Done q (length (phys_live r)) → Done q (length (phys_live p))
  same_width q p r e d = subst (λ (vs : List Var). Done q (length vs)) (sym e) d

  layer : (y : L.Phys-F Phys) → Inputs Claim (form y) → laid_step n y → AllByRecursion (IsLaid n) (below (map-Phys Phys (List Phys) operators y)) → length (phys_live (roll-Phys y)) ≤ 64
      → AllByRecursion IsNarrow (below (map-Phys Phys (List Phys) operators y)) → Fine y (roll-Phys y)
  layer (L.Scan set vars) i here laid few narrow =
      let y : L.Phys-F Phys = L.Scan set vars in
      let x : Step = step (K.Scan set) (length (phys_live (roll-Phys y))) in
      at_roll y (source_piece (x ∷ []) W.OneToOne) x.arity (piece-roll y) (done_source x (record { takes = refl; no_first = refl; no_second = refl }) refl (λ w. scan_step set (length (phys_live (roll-Phys y))) w few))
  layer L.One i here laid few narrow =
      let y : L.Phys-F Phys = L.One in
      let x : Step = step K.One (length (phys_live (roll-Phys y))) in
      at_roll y (source_piece (x ∷ []) W.OneToOne) x.arity (piece-roll y)
      (done_source x (record { takes = refl; no_first = refl; no_second = refl }) refl (λ w. subst (λ (m : ℕ). StepSound K.One m w) (sym (ap (λ (vs : List Var). length vs) (plive-roll L.One))) (one_step w)))
  layer (L.Assign made p) i here laid few narrow =
      let y : L.Phys-F Phys = L.Assign made p in
      over y p (step (K.Assign (made_rexes (phys_live p) made)) (length (phys_live (roll-Phys y)))) (length (phys_live p)) (piece-roll y) (ready N.Any p here.0 (i laid narrow)) (record { takes = refl; no_first = refl; no_second = refl }) refl
      (λ w t. assign_step (phys_live p) w t made (phys_live (roll-Phys y)) (plive-roll y) here.1 few)
  layer (L.Select c p) i here laid few narrow =
      let y : L.Phys-F Phys = L.Select c p in
      over y p (step (K.Select (rex_of (phys_live p) c)) (length (phys_live (roll-Phys y)))) (length (phys_live p)) (piece-roll y) (ready N.Any p here.0 (i laid narrow)) (record { takes = refl; no_first = refl; no_second = refl }) refl
      (λ w t. subst (λ (vs : List Var). StepSound (K.Select (rex_of (phys_live p) c)) (length vs) w) (sym (plive-roll y)) (select_step (phys_live p) w t c here.1 (few_of p narrow)))
  layer (L.Project vars p) i here laid few narrow =
      let y : L.Phys-F Phys = L.Project vars p in
      over y p (step (K.Project (columns_of (phys_live p) vars)) (length (phys_live (roll-Phys y)))) (length (phys_live p)) (piece-roll y) (ready N.Any p here.0 (i laid narrow)) (record { takes = refl; no_first = refl; no_second = refl }) refl
      (λ w t. subst (λ (vs : List Var). StepSound (K.Project (columns_of (phys_live p) vars)) (length vs) w) (sym (plive-roll y)) (project_step (phys_live p) w t vars here.1 (subst AtMost64 (plive-roll y) few)))
  layer (L.Unnest v g p) i here laid few narrow =
      let y : L.Phys-F Phys = L.Unnest v g p in
      over y p (step (K.Unnest (gen_rex (phys_live p) g)) (length (phys_live (roll-Phys y)))) (length (phys_live p)) (piece-roll y) (ready N.Any p here.0 (i laid narrow)) (record { takes = refl; no_first = refl; no_second = refl }) refl
      (λ w t. unnest_step (phys_live p) w t g v (phys_live (roll-Phys y)) (plive-roll y) here.1 few)
  layer (L.Subplan inner p) i here laid few narrow =
      let y : L.Phys-F Phys = L.Subplan inner p in
      over y p (step (K.Subplan (nested_of (phys_live p) inner)) (length (phys_live (roll-Phys y)))) (length (phys_live p)) (piece-roll y) (ready N.Any p here.0 (i laid narrow)) (record { takes = refl; no_first = refl; no_second = refl }) refl
      (λ w t. subplan_step (phys_live p) w t inner here.1 (phys_live (roll-Phys y)) (plive-roll y) few)
  layer (L.Check name c p) i here laid few narrow =
      let y : L.Phys-F Phys = L.Check name c p in
      over y p (step (K.Check name (rex_of (phys_live p) c)) (length (phys_live (roll-Phys y)))) (length (phys_live p)) (piece-roll y) (ready N.Any p here.0 (i laid narrow)) (record { takes = refl; no_first = refl; no_second = refl }) refl
      (λ w t. subst (λ (vs : List Var). StepSound (K.Check name (rex_of (phys_live p) c)) (length vs) w) (sym (plive-roll y)) (check_step (phys_live p) w t name c here.1 (few_of p narrow)))
  layer (L.Join how c l r) i here laid few narrow =
      let y : L.Phys-F Phys = L.Join how c l r in
      let arg = join_arg (is_hash how) (is_outer how) (phys_live l) (phys_live r) c in
      let x : Step = step (K.JoinBuild arg) (length (phys_live r)) in
      let z : Step = step (K.JoinProbe arg) (length (phys_live (roll-Phys y))) in
      let laid_l = all_left (IsLaid n) (operators l) (operators r) laid in
      let laid_r = all_right (IsLaid n) (operators l) (operators r) laid in
      let narrow_l = all_left IsNarrow (operators l) (operators r) narrow in
      let narrow_r = all_right IsNarrow (operators l) (operators r) narrow in
      at_roll y (join_piece (piece_of l) (piece_of r) (x ∷ z ∷ []) W.OneToOne) z.arity (piece-roll y)
      (done_join (piece_of l) (piece_of r) x z (length (phys_live l)) (length (phys_live r)) (ready (required_step y 0) l here.0 (i.0 laid_l narrow_l)) (ready (required_step y 1) r here.1 (i.1 laid_r narrow_r)) (record { takes = refl; then_takes = refl; first = refl; no_second = refl; no_first = refl; second = refl; none_leave = refl; two = refl }) refl
      (λ w t. join_build_step (is_hash how) (is_outer how) (phys_live l) (phys_live r) c w t (few_of r narrow_r))
      (λ w t h. join_probe_step (is_hash how) (is_outer how) (phys_live l) (phys_live r) c w t h here.2 (phys_live (roll-Phys y)) (plive-roll y) few))
  layer (L.HashGroup keys inner p) i here laid few narrow =
      let y : L.Phys-F Phys = L.HashGroup keys inner p in
      let arg = group_arg (columns_of (phys_live p) (old_of keys)) (Some inner) p in
      over_two y p (step (K.GroupBuild arg) (length keys + state_width (aggs_of inner))) (step (K.GroupEmit arg) (length (phys_live (roll-Phys y)))) (length (phys_live p)) (piece-roll y)
      (ready (N.Keyed (old_of keys)) p here.0 (i laid narrow)) (record { takes = refl; then_takes = refl; first = refl; no_second = refl; no_first = refl; second = refl; none_leave = refl; two = refl }) refl
      (λ w t. group_build_step p w t keys inner here.1 here.2 here.3 (subst AtMost64 (plive-roll y) few))
      (λ w h b. group_emit_step p w b keys inner here.1 here.2 here.3 (phys_live (roll-Phys y)) (plive-roll y) few)
  layer (L.PreGroup keys inner p) i here laid few narrow =
      let y : L.Phys-F Phys = L.PreGroup keys inner p in
      over y p (step (K.PreGroup (columns_of (phys_live p) (old_of keys)) (nested_of (phys_live p) inner)) (length (phys_live (roll-Phys y)))) (length (phys_live p)) (piece-roll y) (ready_group keys p here.0 (i laid narrow)) (record { takes = refl; no_first = refl; no_second = refl }) refl
      (λ w t. pre_group_step (phys_live p) w t keys inner here.1 here.2 (phys_live (roll-Phys y)) (plive-roll y) few)
  layer (L.HashDistinct p) i here laid few narrow =
      let y : L.Phys-F Phys = L.HashDistinct p in
      let arg = group_arg (all_columns p) None p in
      over_two y p (step (K.GroupBuild arg) (length (phys_live p))) (step (K.GroupEmit arg) (length (phys_live (roll-Phys y)))) (length (phys_live p)) (piece-roll y)
      (ready (required_step y 0) p here (i laid narrow)) (record { takes = refl; then_takes = refl; first = refl; no_second = refl; no_first = refl; second = refl; none_leave = refl; two = refl }) refl
      (λ w t. distinct_build_step p w t (few_of p narrow))
      (λ w h b. subst (λ (vs : List Var). StepSound (K.GroupEmit (group_arg (all_columns p) None p)) (length vs) w) (sym (plive-roll y)) (distinct_emit_step p w b (few_of p narrow)))
  layer (L.AggPart made p) i here laid few narrow = λ some.
      (let y : L.Phys-F Phys = L.AggPart made p in
      over y p (step (K.AggPart (made_aggs (phys_live p) made)) (state_width (map (λ m. agg_kind m.1) made))) (length (phys_live p)) (piece-roll y) (ready N.Any p here.0 (i laid narrow)) (record { takes = refl; no_first = refl; no_second = refl }) refl
      (λ w t. agg_part_step (phys_live p) w t made here.1 some))
  layer (L.AggFinal made p) i here laid few narrow =
      let y : L.Phys-F Phys = L.AggFinal made p in
      let same : length (phys_live (roll-Phys y)) ≡ length made = ap (λ (vs : List Var). length vs) (plive-roll y) ∙ length-mapped (λ (m : Var × AggCall). m.0) made in
      over y p (step (K.AggFinal (map (λ m. agg_kind m.1) made)) (length (phys_live (roll-Phys y)))) (state_width (map (λ m. agg_kind m.1) made)) (piece-roll y)
      (ready_states made p here.0 here.1 (subst (λ (m : ℕ). m ≤ 64) same few) (i laid narrow)) (record { takes = refl; no_first = refl; no_second = refl }) refl
      (λ w t. agg_final_step made w t (length (phys_live (roll-Phys y))) same few)
  layer (L.Union made ls rs l r) i here laid few narrow =
      let y : L.Phys-F Phys = L.Union made ls rs l r in
      let x : Step = step (K.Union (columns_of (phys_live l) ls) (columns_of (phys_live r) rs)) (length (phys_live (roll-Phys y))) in
      let same : length (phys_live (roll-Phys y)) ≡ length made = ap (λ (vs : List Var). length vs) (plive-roll y) in
      let laid_l = all_left (IsLaid n) (operators l) (operators r) laid in
      let laid_r = all_right (IsLaid n) (operators l) (operators r) laid in
      let narrow_l = all_left IsNarrow (operators l) (operators r) narrow in
      let narrow_r = all_right IsNarrow (operators l) (operators r) narrow in
      at_roll y (union_piece (piece_of l) (piece_of r) (x ∷ []) W.OneToOne) x.arity (piece-roll y)
      (done_union (piece_of l) (piece_of r) x (length (phys_live l)) (length (phys_live r)) (ready N.Any l here.0 (i.0 laid_l narrow_l)) (ready N.Any r here.1 (i.1 laid_r narrow_r)) (record { takes = refl; no_first = refl; no_second = refl }) refl
      (λ w t s. union_step (phys_live l) (phys_live r) ls rs w t s here.2 here.3 (length (phys_live (roll-Phys y))) (here.4 ∙ sym same) (here.5 ∙ sym same) few))
  layer (L.Sort keys p) i here laid few narrow =
      let y : L.Phys-F Phys = L.Sort keys p in
      let by = sort_keys (phys_live p) keys in
      let x : Step = step (K.SortBuild by) (length (phys_live p)) in
      let z : Step = step (K.SortEmit by) (length (phys_live (roll-Phys y))) in
      let d = ready_sort p here.0 (i laid narrow) in (
        over_two y p x z (length (phys_live p)) (piece-roll y) d (record { takes = refl; then_takes = refl; first = refl; no_second = refl; no_first = refl; second = refl; none_leave = refl; two = refl }) refl
            (λ w t. sort_step (phys_live p) w t keys here.1 (few_of p narrow))
            (λ w h b. subst (λ (vs : List Var). StepSound (K.SortEmit (sort_keys (phys_live p) keys)) (length vs) w) (sym (plive-roll y)) (sort_emit_step (phys_live p) keys w h here.1 (few_of p narrow))),
        subst Free (sym (piece-roll y)) (second_free (piece_of p) x z W.OneToOne d.sound.ranged),
        subst (λ (vs : List Var). AreLive vs (vars_of keys)) (sym (plive-roll y)) here.1,
      )
  layer (L.Limit m k p) i here laid few narrow =
      let y : L.Phys-F Phys = L.Limit m k p in
      over y p (step (K.Limit m k) (length (phys_live (roll-Phys y)))) (length (phys_live p)) (piece-roll y) (ready N.One p here (i laid narrow)) (record { takes = refl; no_first = refl; no_second = refl }) refl
      (λ w t. subst (λ (vs : List Var). StepSound (K.Limit m k) (length vs) w) (sym (plive-roll y)) (limit_step (phys_live p) w t m k (few_of p narrow)))
  layer (L.LocalLimit m p) i here laid few narrow =
      let y : L.Phys-F Phys = L.LocalLimit m p in
      over y p (step (K.LocalLimit m) (length (phys_live (roll-Phys y)))) (length (phys_live p)) (piece-roll y) (ready N.Any p here (i laid narrow)) (record { takes = refl; no_first = refl; no_second = refl }) refl
      (λ w t. subst (λ (vs : List Var). StepSound (K.LocalLimit m) (length vs) w) (sym (plive-roll y)) (local_limit_step (phys_live p) w t m (few_of p narrow)))
  layer (L.Result vars p) i here laid few narrow =
      let y : L.Phys-F Phys = L.Result vars p in
      let x : Step = step (K.Result (columns_of (phys_live p) vars)) (length (phys_live (roll-Phys y))) in
      let d = ready N.One p here.0 (i laid narrow) in
      subst SoundPiece (sym (piece-roll y))
      (one_sound (piece_of p) x W.OneToOne d.sound d.on (record { takes = refl; no_first = refl; no_second = refl })
      (λ w t. subst (λ (vs : List Var). StepSound (K.Result (columns_of (phys_live p) vars)) (length vs) w) (sym (plive-roll y)) (steps.result_step (phys_live p) w (t ∙ d.arity) vars here.1 (subst AtMost64 (plive-roll y) few))))
  layer (L.HashExchange vars p) i here laid few narrow = λ w r.
      (let y : L.Phys-F Phys = L.HashExchange vars p in
      same_width (piece_of (roll-Phys y)) (roll-Phys y) p (plive-roll y)
      (over_exchange y p (W.Hash (columns_of (phys_live p) vars)) (length (phys_live p)) (piece-roll y) (at_whole p w r (i laid narrow)) (λ start. tt) (columns_below (phys_live p) vars here)))
  layer (L.Broadcast p) i here laid few narrow = λ w r.
      (let y : L.Phys-F Phys = L.Broadcast p in
      same_width (piece_of (roll-Phys y)) (roll-Phys y) p (plive-roll y) (over_exchange y p W.Broadcast (length (phys_live p)) (piece-roll y) (at_whole p w r (i laid narrow)) (λ start. tt) tt))
  layer (L.Gather p) i here laid few narrow =
      let y : L.Phys-F Phys = L.Gather p in (
        λ w r. same_width (piece_of (roll-Phys y)) (roll-Phys y) p (plive-roll y) (over_exchange y p W.Gather (length (phys_live p)) (piece-roll y) (at_whole p w r (i laid narrow)) (λ start. tt) tt),
        λ made s e some. over_exchange y p W.Gather (state_width (map (λ m. agg_kind m.1) made)) (piece-roll y) (as_of p (L.AggPart made s) (ap out-Phys e ∙ pout-AggPart made s) (i laid narrow) some) (λ start. tt) tt,
      )
  layer (L.Merge keys p) i here laid few narrow =
      let y : L.Phys-F Phys = L.Merge keys p in
      let s : Fine (L.Sort keys here.0) p = as_of p (L.Sort keys here.0) (ap out-Phys here.1 ∙ pout-Sort keys here.0) (i laid narrow) in
      same_width (piece_of (roll-Phys y)) (roll-Phys y) p (plive-roll y) (over_exchange y p (W.Merge (sort_keys (phys_live p) keys)) (length (phys_live p)) (piece-roll y) s.0 s.1 (keys_below (phys_live p) keys s.2))

  each_fine : (p : Phys) → Claim p
  each_fine = by_form Claim (λ p i. subst Claim (rolled p) (λ laid narrow.
      subst (λ (z : L.Phys-F Phys). Fine z (roll-Phys (out-Phys p))) (sym (out-roll-Phys (out-Phys p)))
      (layer (out-Phys p) i (laid_here n (out-Phys p) laid) (laid_below n (out-Phys p) laid) (narrow_here (out-Phys p) narrow) (narrow_below (out-Phys p) narrow))))

-- the piece of a placed plan
pub placed_sound : (p : Phys) (n : ℕ) → Placed p n → SoundPiece (piece_of p)
placed_sound p n h = whole_fine n (out-Phys p) p (whole_at n p h.whole) (each_fine n p h.each h.narrow)

-- its job is sound
pub placed_job : (p : Phys) (n : ℕ) → 1 ≤ n → n ≤ 16 → Placed p n → SoundJob (job_of p n)
placed_job p n some few h = whole_sound p n some few h.few (placed_sound p n h)
