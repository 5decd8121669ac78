-- A check among a job's activities is one of the plan's, so what it received is a fault of the plan.
use Rattle.std.proofs.Common.{◌≡◌, ◌⊎◌, inl, inr, ◌<◌, ◌+◌, ℕ, suc, true, List, [], ◌∷◌, ◌++◌, length, ap, sym, subst, ◌∙◌, append-nil}
use Rattle.std.specs.List.{AllByRecursion, Contains}
use Rattle.std.proofs.lemmas.List.Elements.{Contains-append_cases, Contains-append_left, Contains-append_right, recursion_from_All, All-contains_itself}
use Rattle.al_plan.specs.Eval.{Bytes}
use Rattle.al_plan.specs.Allows.{Sets}
use Rattle.al_plan.specs.declared.expr.Expr.{Expr}
use Rattle.al_plan.specs.Refines.{Scan, Fills, scans}
use Rattle.al_phys.specs.declared.phys.Phys.{Phys, map-Phys, roll-Phys, out-Phys}
use Rattle.al_phys.specs.declared.phys.Phys.TheVariants as Q
use Rattle.al_phys.specs.declared.phys.Phys.TheOpen as L
use Rattle.al_phys.specs.Operators.{phys_live, phys_scans, scans_step, operators, below}
use Rattle.al_phys.specs.PAllows.{PFaults}
use Rattle.al_phys.specs.Placed.{Placed}
use Rattle.al_phys.proofs.OperatorLaws.{pscans-roll, operators-roll}
use Rattle.hy_job.specs.declared.job.Kind.TheVariants as K
use Rattle.hy_job.specs.declared.job.Block.{Block}
use Rattle.hy_job.specs.Columns.{Row}
use Rattle.hy_job.specs.declared.job.Wire.{Wire}
use Rattle.hy_job.specs.declared.job.Activity.{Activity}
use Rattle.hy_job.specs.declared.job.Stage.{Stage}
use Rattle.hy_job.specs.Stages.{AreNext, activities_in}
use Rattle.hy_job.specs.Settled.{IsFaulty}
use Rattle.hy_job.proofs.Members.{in_cases, in_none, in_here, in_there}
use Rattle.al_jobgen.specs.JobOf.{Step, Piece, step, piece_of, job_of, activity, last_of, edge_from, block_at, source_piece, exchange_piece, one_piece, two_piece, union_piece, join_piece}
use Rattle.al_jobgen.specs.Columns.{rex_of}
use Rattle.al_jobgen.specs.Shapes.{form}
use Rattle.al_jobgen.specs.Added.{activities_from}
use Rattle.al_jobgen.proofs.PieceAdded.{activities-append}
use Rattle.al_jobgen.proofs.PieceForms.{piece-roll, rolled}
use Rattle.al_jobgen.proofs.SoundWhole.{Inputs, by_form}
use Rattle.al_answer.specs.Flow.{Flow}
use Rattle.al_answer.specs.Fault.{FlowsIn, FlowsFault}
use Rattle.al_answer.proofs.Induction.{fills_left, fills_right}
use Rattle.al_answer.proofs.Faults.{checks_fault, last_check}
use Rattle.al_answer.proofs.Staged.{Within, runs_of, under_one, under_two, under_left, under_right}

module _ (whole : Phys) (n : ℕ) (sets : Sets) (stages : List Stage) (flow : Flow) (some : 0 < n) (placed : Placed whole n) (next : AreNext (job_of whole n) [] stages) (flows : FlowsIn (job_of whole n) stages true sets flow) (name : Bytes) (j : ℕ) (lt : j < n) where
  abbrev Goal : Type 0
  Goal = PFaults whole sets n name

  abbrev Bad : Activity → Type 0
  Bad a = IsFaulty a.kind name (flow.received a.number j 0)

  -- a bad row of an activity of the piece is a fault
  abbrev FindsIn : Piece → Type 0
  FindsIn q = (start : ℕ) → Within (job_of whole n) q start → (a : Activity) → Contains (activities_from start q.steps) a → Contains (activities_in stages) a.number → Bad a → Goal

  abbrev Own : Step → ℕ → Type 0
  Own x to = Contains (activities_in stages) to → IsFaulty x.kind name (flow.received to j 0) → Goal

  abbrev Never : Step → Type 0
  Never x = (rows : List Row) → IsFaulty x.kind name rows → ⊥

  in_last : (to : ℕ) (x : Step) (a : Activity) → Contains (activities_from to (x ∷ [])) a → activity (to, x) ≡ a
  in_last to x a m = elim (in_cases (activity (to, x)) a [] m) [ inl e ↦ e | inr none ↦ absurd (in_none a none) ]

  at_last : (to : ℕ) (x : Step) → Own x to → (a : Activity) → Contains (activities_from to (x ∷ [])) a → Contains (activities_in stages) a.number → Bad a → Goal
  at_last to x own a m c bad = let e = sym (in_last to x a m) in own (subst (λ (b : Activity). Contains (activities_in stages) b.number) e c) (subst Bad e bad)

  at_two : (to : ℕ) (x y : Step) → Never x → Never y → (a : Activity) → Contains (activities_from to (x ∷ y ∷ [])) a → Bad a → Goal
  at_two to x y no_x no_y a m bad = elim (in_cases (activity (to, x)) a (activity (to + 1, y) ∷ []) m) [
    | inl e ↦ absurd (no_x (flow.received to j 0) (subst Bad (sym e) bad))
    | inr more ↦ absurd (no_y (flow.received (to + 1) j 0) (subst Bad (sym (in_last (to + 1) y a more)) bad))
  ]

  in_parts : (start : ℕ) (xs ys : List Step) (a : Activity) → Contains (activities_from start (xs ++ ys)) a → Contains (activities_from start xs) a ⊎ Contains (activities_from (start + length xs) ys) a
  in_parts start xs ys a m = Contains-append_cases (activities_from start xs) (activities_from (start + length xs) ys) a (subst (λ (zs : List Activity). Contains zs a) (activities-append start xs ys) m)

  source : (x : Step) (w : Wire) → Never x → FindsIn (source_piece (x ∷ []) w)
  source x w no_x start h a m c bad = at_last start x (λ s b. absurd (no_x (flow.received start j 0) b)) a m c bad

  one : (q : Piece) (x : Step) (w : Wire) → FindsIn q → ((start : ℕ) → Within (job_of whole n) (one_piece q (x ∷ []) w) start → Own x (start + length q.steps)) → FindsIn (one_piece q (x ∷ []) w)
  one q x w i own start h a m c bad = elim (in_parts start q.steps (x ∷ []) a m) [
    | inl there ↦ i start (under_one (job_of whole n) q x w start h) a there c bad
    | inr here ↦ at_last (start + length q.steps) x (own start h) a here c bad
  ]

  plain : (q : Piece) (x : Step) (w : Wire) → FindsIn q → Never x → FindsIn (one_piece q (x ∷ []) w)
  plain q x w i no_x = one q x w i (λ start h s b. absurd (no_x (flow.received (start + length q.steps) j 0) b))

  two : (q : Piece) (x y : Step) (w : Wire) → FindsIn q → Never x → Never y → FindsIn (two_piece q (x ∷ y ∷ []) w)
  two q x y w i no_x no_y start h a m c bad = elim (in_parts start q.steps (x ∷ y ∷ []) a m) [
    | inl there ↦ i start (under_two (job_of whole n) q x y w start h) a there c bad
    | inr here ↦ at_two (start + length q.steps) x y no_x no_y a here bad
  ]

  united : (l r : Piece) (x : Step) (w : Wire) → FindsIn l → FindsIn r → Never x → FindsIn (union_piece l r (x ∷ []) w)
  united l r x w il ir no_x start h a m c bad =
      let right = start + length l.steps in
      let to = right + length r.steps in
      let own = edge_from l start to 0 ++ edge_from r right to 1 in
      let blocks = subst (AllByRecursion (Contains (job_of whole n).blocks)) (ap (λ (bs : List Block). l.blocks start ++ bs) (sym (append-nil (r.blocks right)))) h.blocks in
      elim (in_parts start l.steps (r.steps ++ x ∷ []) a m) [
        | inl there ↦ il start (under_left (job_of whole n) l r (x ∷ []) own [] start h.activities h.edges blocks) a there c bad
        | inr more ↦ elim (in_parts right r.steps (x ∷ []) a more) [
          | inl there ↦ ir right (under_right (job_of whole n) l r (x ∷ []) own [] start h.activities h.edges blocks) a there c bad
          | inr here ↦ at_last to x (λ s b. absurd (no_x (flow.received to j 0) b)) a here c bad
        ]
      ]

  joins : (l r : Piece) (x y : Step) (w : Wire) → FindsIn l → FindsIn r → Never x → Never y → FindsIn (join_piece l r (x ∷ y ∷ []) w)
  joins l r x y w il ir no_x no_y start h a m c bad =
      let right = start + length l.steps in
      let to = right + length r.steps in
      let own = edge_from r right to 0 ++ edge_from l start (suc to) 0 in
      elim (in_parts start l.steps (r.steps ++ x ∷ y ∷ []) a m) [
        | inl there ↦ il start (under_left (job_of whole n) l r (x ∷ y ∷ []) own (block_at to) start h.activities h.edges h.blocks) a there c bad
        | inr more ↦ elim (in_parts right r.steps (x ∷ y ∷ []) a more) [
          | inl there ↦ ir right (under_right (job_of whole n) l r (x ∷ y ∷ []) own (block_at to) start h.activities h.edges h.blocks) a there c bad
          | inr here ↦ at_two to x y no_x no_y a here bad
        ]
      ]

  exchange : (q : Piece) (w : Wire) → FindsIn q → FindsIn (exchange_piece q w)
  exchange q w i start h a m c bad = i start (record { activities = h.activities; edges = h.edges; blocks = h.blocks }) a m c bad

  -- ---- each operator

  -- its operators are some of the whole plan's
  abbrev IsPartOf : Phys → Type 0
  IsPartOf p = (q : Phys) → Contains (operators p) q → Contains (operators whole) q

  abbrev Finds : Phys → Type 0
  Finds p = IsPartOf p → Fills (phys_scans p) sets → FindsIn (piece_of p)

  -- a check itself
  own_check : (own : Bytes) (c : Expr) (p : Phys) → IsPartOf (roll-Phys (L.Check own c p)) → Fills (phys_scans p) sets → (start : ℕ) → Within (job_of whole n) (piece_of (roll-Phys (L.Check own c p))) start
      → Own (step (K.Check own (rex_of (phys_live p) c)) (length (phys_live (roll-Phys (L.Check own c p))))) (start + length (piece_of p).steps)
  own_check own c p part fills start h s bad =
      let e = Q.rolls-Check own c p in
      let at = last_check own c p start in
      let within = subst (λ (q : Phys). Within (job_of whole n) (piece_of q) start) e h in
      let to = ap (λ (q : Phys). last_of (piece_of q) start) (sym e) ∙ at in
      let runs = runs_of (job_of whole n) stages true sets flow next flows (Q.Check own c p) start within (subst (λ (k : ℕ). Contains (activities_in stages) k) (sym to) s) in
      let among = part (Q.Check own c p) (subst (λ (ps : List Phys). Contains ps (Q.Check own c p)) (sym (operators-roll (L.Check own c p))) (subst (λ (q : Phys). Contains (q ∷ operators p) (Q.Check own c p)) (sym e) (in_here (Q.Check own c p) (operators p)))) in
      subst (λ (nm : Bytes). PFaults whole sets n nm) (sym bad.0)
      (checks_fault whole p own c n sets flow start some placed among fills runs j lt bad.1.0 (subst (λ (k : ℕ). Contains (flow.received k j 0) bad.1.0) (sym to) bad.1.1) bad.1.2)

  below_it : (y : L.Phys-F Phys) (q : Phys) → IsPartOf (roll-Phys y) → Contains (below (map-Phys Phys (List Phys) operators y)) q → Contains (operators whole) q
  below_it y q part m = part q (subst (λ (ps : List Phys). Contains ps q) (sym (operators-roll y)) (in_there _ q _ m))

  fills_in : (y : L.Phys-F Phys) → Fills (phys_scans (roll-Phys y)) sets → Fills (scans_step (map-Phys Phys (List Scan) phys_scans y)) sets
  fills_in y h = subst (λ (ss : List Scan). Fills ss sets) (pscans-roll y) h

  at_roll : (y : L.Phys-F Phys) (q : Piece) → piece_of (roll-Phys y) ≡ q → FindsIn q → FindsIn (piece_of (roll-Phys y))
  at_roll y q e h = subst FindsIn (sym e) h

  layer : (y : L.Phys-F Phys) → Inputs Finds (form y) → Finds (roll-Phys y)
  layer (L.Scan set vars) i part fills = at_roll (L.Scan set vars) _ (piece-roll (L.Scan set vars)) (source _ _ (λ rows h. h))
  layer L.One i part fills = at_roll L.One _ (piece-roll L.One) (source _ _ (λ rows h. h))
  layer (L.Assign ms p) i part fills = at_roll (L.Assign ms p) _ (piece-roll (L.Assign ms p)) (plain _ _ _ (i (λ q m. below_it (L.Assign ms p) q part m) (fills_in (L.Assign ms p) fills)) (λ rows h. h))
  layer (L.Select c p) i part fills = at_roll (L.Select c p) _ (piece-roll (L.Select c p)) (plain _ _ _ (i (λ q m. below_it (L.Select c p) q part m) (fills_in (L.Select c p) fills)) (λ rows h. h))
  layer (L.Project vars p) i part fills = at_roll (L.Project vars p) _ (piece-roll (L.Project vars p)) (plain _ _ _ (i (λ q m. below_it (L.Project vars p) q part m) (fills_in (L.Project vars p) fills)) (λ rows h. h))
  layer (L.Unnest v its p) i part fills = at_roll (L.Unnest v its p) _ (piece-roll (L.Unnest v its p)) (plain _ _ _ (i (λ q m. below_it (L.Unnest v its p) q part m) (fills_in (L.Unnest v its p) fills)) (λ rows h. h))
  layer (L.Subplan inner p) i part fills =
      at_roll (L.Subplan inner p) _ (piece-roll (L.Subplan inner p)) (plain _ _ _ (i (λ q m. below_it (L.Subplan inner p) q part m) (fills_left (phys_scans p) (scans inner) sets (fills_in (L.Subplan inner p) fills))) (λ rows h. h))
  layer (L.Check own c p) i part fills =
      let f = fills_in (L.Check own c p) fills in
      at_roll (L.Check own c p) _ (piece-roll (L.Check own c p)) (one _ _ _ (i (λ q m. below_it (L.Check own c p) q part m) f)
      (λ start h. own_check own c p part f start (subst (λ (q : Piece). Within (job_of whole n) q start) (sym (piece-roll (L.Check own c p))) h)))
  layer (L.Join how c l r) i part fills =
      let f = fills_in (L.Join how c l r) fills in
      at_roll (L.Join how c l r) _ (piece-roll (L.Join how c l r))
      (joins _ _ _ _ _ (i.0 (λ q m. below_it (L.Join how c l r) q part (Contains-append_left (operators l) (operators r) q m)) (fills_left (phys_scans l) (phys_scans r) sets f))
      (i.1 (λ q m. below_it (L.Join how c l r) q part (Contains-append_right (operators l) (operators r) q m)) (fills_right (phys_scans l) (phys_scans r) sets f)) (λ rows h. h) (λ rows h. h))
  layer (L.HashGroup keys inner p) i part fills =
      at_roll (L.HashGroup keys inner p) _ (piece-roll (L.HashGroup keys inner p))
      (two _ _ _ _ (i (λ q m. below_it (L.HashGroup keys inner p) q part m) (fills_left (phys_scans p) (scans inner) sets (fills_in (L.HashGroup keys inner p) fills))) (λ rows h. h) (λ rows h. h))
  layer (L.PreGroup keys inner p) i part fills =
      at_roll (L.PreGroup keys inner p) _ (piece-roll (L.PreGroup keys inner p)) (plain _ _ _ (i (λ q m. below_it (L.PreGroup keys inner p) q part m) (fills_left (phys_scans p) (scans inner) sets (fills_in (L.PreGroup keys inner p) fills))) (λ rows h. h))
  layer (L.HashDistinct p) i part fills = at_roll (L.HashDistinct p) _ (piece-roll (L.HashDistinct p)) (two _ _ _ _ (i (λ q m. below_it (L.HashDistinct p) q part m) (fills_in (L.HashDistinct p) fills)) (λ rows h. h) (λ rows h. h))
  layer (L.AggPart ms p) i part fills = at_roll (L.AggPart ms p) _ (piece-roll (L.AggPart ms p)) (plain _ _ _ (i (λ q m. below_it (L.AggPart ms p) q part m) (fills_in (L.AggPart ms p) fills)) (λ rows h. h))
  layer (L.AggFinal ms p) i part fills = at_roll (L.AggFinal ms p) _ (piece-roll (L.AggFinal ms p)) (plain _ _ _ (i (λ q m. below_it (L.AggFinal ms p) q part m) (fills_in (L.AggFinal ms p) fills)) (λ rows h. h))
  layer (L.Union ms ls rs l r) i part fills =
      let f = fills_in (L.Union ms ls rs l r) fills in
      at_roll (L.Union ms ls rs l r) _ (piece-roll (L.Union ms ls rs l r))
      (united _ _ _ _ (i.0 (λ q m. below_it (L.Union ms ls rs l r) q part (Contains-append_left (operators l) (operators r) q m)) (fills_left (phys_scans l) (phys_scans r) sets f))
      (i.1 (λ q m. below_it (L.Union ms ls rs l r) q part (Contains-append_right (operators l) (operators r) q m)) (fills_right (phys_scans l) (phys_scans r) sets f)) (λ rows h. h))
  layer (L.Sort keys p) i part fills = at_roll (L.Sort keys p) _ (piece-roll (L.Sort keys p)) (two _ _ _ _ (i (λ q m. below_it (L.Sort keys p) q part m) (fills_in (L.Sort keys p) fills)) (λ rows h. h) (λ rows h. h))
  layer (L.Limit m k p) i part fills = at_roll (L.Limit m k p) _ (piece-roll (L.Limit m k p)) (plain _ _ _ (i (λ q z. below_it (L.Limit m k p) q part z) (fills_in (L.Limit m k p) fills)) (λ rows h. h))
  layer (L.LocalLimit m p) i part fills = at_roll (L.LocalLimit m p) _ (piece-roll (L.LocalLimit m p)) (plain _ _ _ (i (λ q z. below_it (L.LocalLimit m p) q part z) (fills_in (L.LocalLimit m p) fills)) (λ rows h. h))
  layer (L.Result vars p) i part fills = at_roll (L.Result vars p) _ (piece-roll (L.Result vars p)) (plain _ _ _ (i (λ q m. below_it (L.Result vars p) q part m) (fills_in (L.Result vars p) fills)) (λ rows h. h))
  layer (L.HashExchange vars p) i part fills = at_roll (L.HashExchange vars p) _ (piece-roll (L.HashExchange vars p)) (exchange _ _ (i (λ q m. below_it (L.HashExchange vars p) q part m) (fills_in (L.HashExchange vars p) fills)))
  layer (L.Broadcast p) i part fills = at_roll (L.Broadcast p) _ (piece-roll (L.Broadcast p)) (exchange _ _ (i (λ q m. below_it (L.Broadcast p) q part m) (fills_in (L.Broadcast p) fills)))
  layer (L.Gather p) i part fills = at_roll (L.Gather p) _ (piece-roll (L.Gather p)) (exchange _ _ (i (λ q m. below_it (L.Gather p) q part m) (fills_in (L.Gather p) fills)))
  layer (L.Merge keys p) i part fills = at_roll (L.Merge keys p) _ (piece-roll (L.Merge keys p)) (exchange _ _ (i (λ q m. below_it (L.Merge keys p) q part m) (fills_in (L.Merge keys p) fills)))

  finds : (p : Phys) → Finds p
  finds = by_form Finds (λ p i. subst Finds (rolled p) (layer (out-Phys p) i))

itself : {X : Type 0} (xs : List X) → AllByRecursion (Contains xs) xs
itself xs = recursion_from_All (Contains xs) xs (All-contains_itself xs)

pub flows_fault : FlowsFault
flows_fault ph n sets stages flow some placed fills next flows a j name m c lt bad =
    finds ph n sets stages flow some placed next flows name j lt ph (λ q k. k) fills 0 (record { activities = itself (job_of ph n).activities; edges = itself (job_of ph n).edges; blocks = itself (job_of ph n).blocks }) a m c bad
