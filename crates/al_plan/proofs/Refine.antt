-- Refining is reflexive and transitive, and goes under every operator.
use Rattle.std.proofs.Common.{◌≡◌, ℕ, Bool, true, false, List, [], ◌++◌, length, refl, ap, sym, subst, ◌∙◌, arith}
use Rattle.std.specs.Prelude.{if◌then◌else◌}
use Rattle.std.specs.List.{All, Contains}
use Rattle.std.proofs.lemmas.List.Elements.{All-contains_itself, All-weaker, All-contains, Contains-append_left, Contains-append_right}
use Rattle.std.proofs.lemmas.List.Sorted.{IsPermutation-refl, IsPermutation-trans}
use Rattle.al_plan.specs.declared.expr.Var.{Var}
use Rattle.al_plan.specs.declared.expr.Expr.{Expr}
use Rattle.al_plan.specs.declared.plan.Plan.{Plan, map-Plan, roll-Plan}
use Rattle.al_plan.specs.declared.plan.Plan.TheOpen as L
use Rattle.al_plan.specs.declared.plan.Plan.TheVariants as P
use Rattle.al_plan.specs.declared.plan.OrderKey.{OrderKey}
use Rattle.al_plan.specs.declared.plan.AggCall.{AggCall}
use Rattle.al_plan.specs.declared.plan.Generator.{Generator}
use Rattle.al_plan.specs.Eval.{Bytes, Env}
use Rattle.al_plan.specs.Allows.{Sets, Allows, Faulting, Faults, live}
use Rattle.al_plan.specs.Refines.{Scan, scans, scans_step, makes, Fit, Fills, IsWithin, Refines, Replaces, is_aggregate, NoTwice, makes_step}
use Rattle.al_plan.proofs.PlanLaws.{FaultLayer, faults-roll, EachLayer, each-roll, NarrowLayer, narrow-roll, makes-roll, scans-roll}
use Rattle.al_plan.proofs.Bools.{either}
use Rattle.al_plan.proofs.Mono.{SameVars, Below, Inputs, inputs_weaker, Inner, Always, always, step_below}
use Rattle.al_plan.proofs.Fits.{Suits, InnerSuits, suits, step_fits, root-same, Thin, InnerSame, step_thin}
use Rattle.al_plan.proofs.Makes.{Fresh, step_fresh, step_scanned, twice_left, twice_right, no_more-refl}

pub fills_fewer : (ss ts : List Scan) (sets : Sets) → All (Contains ss) ts → Fills ss sets → Fills ts sets
fills_fewer ss ts sets h fills = All-weaker (Contains ss) (λ s. All (λ r. length r ≡ length s.1) (sets s.0)) (λ s k. All-contains (λ s. All (λ r. length r ≡ length s.1) (sets s.0)) ss s fills k) ts h

pub refines-refl : (p : Plan) → Fit p → Refines p p
refines-refl p f = record {
  fit = f;
  scanned = All-contains_itself (scans p);
  root = refl;
  vars = λ given. IsPermutation-refl (live p given);
  order = λ e. e;
  allowed = λ b sets given outer rows fills w h. h;
  faults = λ sets given outer name fills w h. h;
}

pub refines-trans : (r q p : Plan) → Refines r q → Refines q p → Refines r p
refines-trans r q p g f = record {
  fit = g.fit;
  scanned = All-weaker (Contains (scans q)) (Contains (scans p)) (λ s k. All-contains (Contains (scans p)) (scans q) s f.scanned k) (scans r) g.scanned;
  root = g.root ∙ f.root;
  vars = λ given. IsPermutation-trans (live p given) (live q given) (live r given) (f.vars given) (g.vars given);
  order = λ e. g.order (f.order e);
  allowed = λ b sets given outer rows fills w h. f.allowed b sets given outer rows fills w (g.allowed b sets given outer rows (fills_fewer _ _ sets f.scanned fills) w h);
  faults = λ sets given outer name fills w h. f.faults sets given outer name fills w (g.faults sets given outer name (fills_fewer _ _ sets f.scanned fills) w h);
}

pub replaces-refl : (p : Plan) → Fit p → Replaces p p
replaces-refl p f = record { refines = refines-refl p f; makes_no_more = no_more-refl (makes p) }

pub replaces-trans : (r q p : Plan) → Replaces r q → Replaces q p → Replaces r p
replaces-trans r q p g f = record { refines = refines-trans r q p g.refines f.refines; makes_no_more = λ x e. g.makes_no_more x (f.makes_no_more x e) }

-- ---- an input of a layer stands for another

inner_always : {S : Type 0} (f g : S → Plan) (y : L.Plan-F S) → InnerSame S f g y → Inner S f g y
inner_always f g (L.Scan set vars) n = tt
inner_always f g L.Empty n = tt
inner_always f g L.Nested n = tt
inner_always f g (L.Assign made s) n = tt
inner_always f g (L.Select c s) n = tt
inner_always f g (L.Project vars s) n = tt
inner_always f g (L.Unnest v its s) n = tt
inner_always f g (L.Subplan m s) n = subst (λ (k : Plan). Always (f m) k) n (always (f m))
inner_always f g (L.Join c l r) n = tt
inner_always f g (L.LeftJoin c l r) n = tt
inner_always f g (L.Group keys m s) n = subst (λ (k : Plan). Always (f m) k) n (always (f m))
inner_always f g (L.Distinct s) n = tt
inner_always f g (L.Union made ls rs l r) n = tt
inner_always f g (L.Aggregate made s) n = tt
inner_always f g (L.Order keys s) n = tt
inner_always f g (L.Limit k m s) n = tt
inner_always f g (L.Check name c s) n = tt
inner_always f g (L.Result vars s) n = tt

inner_suit : (n m : Plan) → n ≡ m → (given known : List Var) → SameVars given known → Suits true given known n m
inner_suit n m e given known same = subst (λ (k : Plan). Suits true given known n k) e (suits n true given known same)

inner_suits : {S : Type 0} (f g : S → Plan) (y : L.Plan-F S) → InnerSame S f g y → InnerSuits S f g y
inner_suits f g (L.Scan set vars) n = tt
inner_suits f g L.Empty n = tt
inner_suits f g L.Nested n = tt
inner_suits f g (L.Assign made s) n = tt
inner_suits f g (L.Select c s) n = tt
inner_suits f g (L.Project vars s) n = tt
inner_suits f g (L.Unnest v its s) n = tt
inner_suits f g (L.Subplan m s) n = (inner_suit (f m) (g m) n, ap is_aggregate n)
inner_suits f g (L.Join c l r) n = tt
inner_suits f g (L.LeftJoin c l r) n = tt
inner_suits f g (L.Group keys m s) n = (inner_suit (f m) (g m) n, ap is_aggregate n)
inner_suits f g (L.Distinct s) n = tt
inner_suits f g (L.Union made ls rs l r) n = tt
inner_suits f g (L.Aggregate made s) n = tt
inner_suits f g (L.Order keys s) n = tt
inner_suits f g (L.Limit k m s) n = tt
inner_suits f g (L.Check name c s) n = tt
inner_suits f g (L.Result vars s) n = tt

-- the faults of a layer are those of its inputs, and a check's own
record Passes (sets : Sets) (given : List Var) (outer : List Env) (name : Bytes) (q p : Plan) : Type 0 where
  faults : Faults q sets given outer name → Faults p sets given outer name
  less : (rows : List Env) → Allows q true sets given outer rows → Allows p true sets given outer rows

module _ {S : Type 0} (f g : S → Plan) (sets : Sets) (given : List Var) (outer : List Env) (name : Bytes) where
  step_faults : (y : L.Plan-F S) → Inputs S (λ s. Passes sets given outer name (f s) (g s)) y → FaultLayer (map-Plan S Plan f y) sets given outer name → FaultLayer (map-Plan S Plan g y) sets given outer name
  step_faults (L.Scan set vars) i h = h
  step_faults L.Empty i h = h
  step_faults L.Nested i h = h
  step_faults (L.Assign made s) i h = i.faults h
  step_faults (L.Select c s) i h = i.faults h
  step_faults (L.Project vars s) i h = i.faults h
  step_faults (L.Unnest v its s) i h = i.faults h
  step_faults (L.Subplan m s) i h = i.faults h
  step_faults (L.Join c l r) i h = either i.0.faults i.1.faults h
  step_faults (L.LeftJoin c l r) i h = either i.0.faults i.1.faults h
  step_faults (L.Group keys m s) i h = i.faults h
  step_faults (L.Distinct s) i h = i.faults h
  step_faults (L.Union made ls rs l r) i h = either i.0.faults i.1.faults h
  step_faults (L.Aggregate made s) i h = i.faults h
  step_faults (L.Order keys s) i h = i.faults h
  step_faults (L.Limit k m s) i h = i.faults h
  step_faults (L.Check own c s) i h = either (λ o. (o.0, (o.1.0, o.1.1, i.less o.1.0 o.1.2, o.1.3, o.1.4))) i.faults h
  step_faults (L.Result vars s) i h = i.faults h

  layer_faults : (y : L.Plan-F S) → Inputs S (λ s. Passes sets given outer name (f s) (g s)) y → Faults (roll-Plan (map-Plan S Plan f y)) sets given outer name → Faults (roll-Plan (map-Plan S Plan g y)) sets given outer name
  layer_faults y i h = subst (λ (a : Faulting). a sets given outer name) (sym (faults-roll (map-Plan S Plan g y))) (step_faults y i (subst (λ (a : Faulting). a sets given outer name) (faults-roll (map-Plan S Plan f y)) h))

-- P of each input holds where it holds of the datasets that the input scans
abbrev Scanning : {S : Type 0} → (S → Plan) → L.Plan-F S → List Scan
Scanning {S} g y = scans_step (map-Plan Plan (List Scan) scans (map-Plan S Plan g y))

both_inputs : {S : Type 0} (P Q : S → Type 0) → (y : L.Plan-F S) → Inputs S P y → Inputs S Q y → Inputs S (λ s. P s × Q s) y
both_inputs P Q (L.Scan set vars) i j = tt
both_inputs P Q L.Empty i j = tt
both_inputs P Q L.Nested i j = tt
both_inputs P Q (L.Assign made s) i j = (i, j)
both_inputs P Q (L.Select c s) i j = (i, j)
both_inputs P Q (L.Project vars s) i j = (i, j)
both_inputs P Q (L.Unnest v its s) i j = (i, j)
both_inputs P Q (L.Subplan m s) i j = (i, j)
both_inputs P Q (L.Join c l r) i j = ((i.0, j.0), (i.1, j.1))
both_inputs P Q (L.LeftJoin c l r) i j = ((i.0, j.0), (i.1, j.1))
both_inputs P Q (L.Group keys m s) i j = (i, j)
both_inputs P Q (L.Distinct s) i j = (i, j)
both_inputs P Q (L.Union made ls rs l r) i j = ((i.0, j.0), (i.1, j.1))
both_inputs P Q (L.Aggregate made s) i j = (i, j)
both_inputs P Q (L.Order keys s) i j = (i, j)
both_inputs P Q (L.Limit k m s) i j = (i, j)
both_inputs P Q (L.Check name c s) i j = (i, j)
both_inputs P Q (L.Result vars s) i j = (i, j)

front_scans : (xs ys : List Scan) → All (Contains (xs ++ ys)) xs
front_scans xs ys = All-weaker (Contains xs) (Contains (xs ++ ys)) (λ s k. Contains-append_left xs ys s k) xs (All-contains_itself xs)

back_scans : (xs ys : List Scan) → All (Contains (xs ++ ys)) ys
back_scans xs ys = All-weaker (Contains ys) (Contains (xs ++ ys)) (λ s k. Contains-append_right xs ys s k) ys (All-contains_itself ys)

inputs_scan : {S : Type 0} (g : S → Plan) (y : L.Plan-F S) → Inputs S (λ s. All (Contains (Scanning g y)) (scans (g s))) y
inputs_scan g (L.Scan set vars) = tt
inputs_scan g L.Empty = tt
inputs_scan g L.Nested = tt
inputs_scan g (L.Assign made s) = All-contains_itself (scans (g s))
inputs_scan g (L.Select c s) = All-contains_itself (scans (g s))
inputs_scan g (L.Project vars s) = All-contains_itself (scans (g s))
inputs_scan g (L.Unnest v its s) = All-contains_itself (scans (g s))
inputs_scan g (L.Subplan m s) = front_scans _ _
inputs_scan g (L.Join c l r) = (front_scans _ _, back_scans _ _)
inputs_scan g (L.LeftJoin c l r) = (front_scans _ _, back_scans _ _)
inputs_scan g (L.Group keys m s) = front_scans _ _
inputs_scan g (L.Distinct s) = All-contains_itself (scans (g s))
inputs_scan g (L.Union made ls rs l r) = (front_scans _ _, back_scans _ _)
inputs_scan g (L.Aggregate made s) = All-contains_itself (scans (g s))
inputs_scan g (L.Order keys s) = All-contains_itself (scans (g s))
inputs_scan g (L.Limit k m s) = All-contains_itself (scans (g s))
inputs_scan g (L.Check name c s) = All-contains_itself (scans (g s))
inputs_scan g (L.Result vars s) = All-contains_itself (scans (g s))

fit_parts : {S : Type 0} (g : S → Plan) (y : L.Plan-F S) → EachLayer (map-Plan S Plan g y) false [] → NarrowLayer (map-Plan S Plan g y) [] → NoTwice (makes_step (map-Plan Plan (List Var) makes (map-Plan S Plan g y))) → Inputs S (λ s. Fit (g s)) y
fit_parts g (L.Scan set vars) e n o = tt
fit_parts g L.Empty e n o = tt
fit_parts g L.Nested e n o = tt
fit_parts g (L.Assign made s) e n o = record { each = e.0.0; narrow = n.0; once = twice_left _ _ o }
fit_parts g (L.Select c s) e n o = record { each = e.0.0; narrow = n; once = o }
fit_parts g (L.Project vars s) e n o = record { each = e.0.0; narrow = n.0; once = o }
fit_parts g (L.Unnest v its s) e n o = record { each = e.0.0; narrow = n.0; once = twice_left _ _ o }
fit_parts g (L.Subplan m s) e n o = record { each = e.0.0; narrow = n.0; once = twice_left _ _ o }
fit_parts g (L.Join c l r) e n o = (record { each = e.0.0; narrow = n.0; once = twice_left _ _ o }, record { each = e.1.0; narrow = n.1; once = twice_right _ _ o })
fit_parts g (L.LeftJoin c l r) e n o = (record { each = e.0.0; narrow = n.0; once = twice_left _ _ o }, record { each = e.1.0; narrow = n.1; once = twice_right _ _ o })
fit_parts g (L.Group keys m s) e n o = record { each = e.0.0; narrow = n.0; once = twice_left _ _ o }
fit_parts g (L.Distinct s) e n o = record { each = e.0; narrow = n; once = o }
fit_parts g (L.Union made ls rs l r) e n o = (record { each = e.0.0; narrow = n.0; once = twice_left _ _ o }, record { each = e.1.0; narrow = n.1; once = twice_left _ _ (twice_right _ _ o) })
fit_parts g (L.Aggregate made s) e n o = record { each = e.0.0; narrow = n.0; once = twice_left _ _ o }
fit_parts g (L.Order keys s) e n o = record { each = e.0.0; narrow = n; once = o }
fit_parts g (L.Limit k m s) e n o = record { each = e.0; narrow = n; once = o }
fit_parts g (L.Check name c s) e n o = record { each = e.0.0; narrow = n; once = o }
fit_parts g (L.Result vars s) e n o = record { each = e.0.0; narrow = n.0; once = o }

-- the inputs of a plan that fits fit
pub fit_inputs : {S : Type 0} (g : S → Plan) (y : L.Plan-F S) → Fit (roll-Plan (map-Plan S Plan g y)) → Inputs S (λ s. Fit (g s)) y
fit_inputs {S} g y f =
    fit_parts g y (subst (λ (a : Bool → List Var → Type 0). a false []) (each-roll (map-Plan S Plan g y)) f.each) (subst (λ (a : List Var → Type 0). a []) (narrow-roll (map-Plan S Plan g y)) f.narrow) (subst NoTwice (makes-roll (map-Plan S Plan g y)) f.once)

no_fills : (ss : List Scan) → Fills ss (λ q. [])
no_fills ss k d h j e low = absurd (omega arith)

no_rows : (given : List Var) → All (IsWithin given) []
no_rows given k d low = absurd (omega arith)

-- each input may stand for another; nested plans stay
module _ {S : Type 0} (f g : S → Plan) (y : L.Plan-F S) (n : InnerSame S f g y) (i : Inputs S (λ s. Replaces (f s) (g s)) y) where
  below : (b : Bool) (sets : Sets) (given : List Var) (outer : List Env) → Fills (scans (roll-Plan (map-Plan S Plan g y))) sets → All (IsWithin given) outer → Inputs S (λ s. Below b sets given given outer (f s) (g s)) y
  below b sets given outer fills w =
      inputs_weaker (λ s. Replaces (f s) (g s) × All (Contains (Scanning g y)) (scans (g s))) (λ s. Below b sets given given outer (f s) (g s))
      (λ s k. record {
        vars = k.0.refines.vars given;
        order = k.0.refines.order;
        less = λ rows h. k.0.refines.allowed b sets given outer rows (fills_fewer _ _ sets k.1 (subst (λ ss. Fills ss sets) (scans-roll (map-Plan S Plan g y)) fills)) w h;
      }) y (both_inputs (λ s. Replaces (f s) (g s)) (λ s. All (Contains (Scanning g y)) (scans (g s))) y i (inputs_scan g y))

  whole : (b : Bool) (sets : Sets) (given : List Var) (outer : List Env) → Fills (scans (roll-Plan (map-Plan S Plan g y))) sets → All (IsWithin given) outer → Below b sets given given outer (roll-Plan (map-Plan S Plan f y)) (roll-Plan (map-Plan S Plan g y))
  whole b sets given outer fills w = step_below f g b sets given given outer (IsPermutation-refl given) y (inner_always f g y n) (below b sets given outer fills w)

  passes : (sets : Sets) (given : List Var) (outer : List Env) (name : Bytes) → Fills (scans (roll-Plan (map-Plan S Plan g y))) sets → All (IsWithin given) outer → Inputs S (λ s. Passes sets given outer name (f s) (g s)) y
  passes sets given outer name fills w =
      inputs_weaker (λ s. Replaces (f s) (g s) × All (Contains (Scanning g y)) (scans (g s))) (λ s. Passes sets given outer name (f s) (g s))
      (λ s k.
      let here = fills_fewer _ _ sets k.1 (subst (λ ss. Fills ss sets) (scans-roll (map-Plan S Plan g y)) fills) in
      record {
        faults = λ h. k.0.refines.faults sets given outer name here w h;
        less = λ rows h. k.0.refines.allowed true sets given outer rows here w h;
      }) y (both_inputs (λ s. Replaces (f s) (g s)) (λ s. All (Contains (Scanning g y)) (scans (g s))) y i (inputs_scan g y))

  fresh : NoTwice (makes (roll-Plan (map-Plan S Plan g y))) → Fresh (roll-Plan (map-Plan S Plan f y)) (roll-Plan (map-Plan S Plan g y))
  fresh once = step_fresh f g y n (inputs_weaker (λ s. Replaces (f s) (g s)) (λ s. Fresh (f s) (g s)) (λ s k. record { once = k.refines.fit.once; fewer = k.makes_no_more }) y i) once

  pub congruence : Fit (roll-Plan (map-Plan S Plan g y)) → Replaces (roll-Plan (map-Plan S Plan f y)) (roll-Plan (map-Plan S Plan g y))
  congruence fit = record {
    refines = record {
      fit = record {
        each = step_fits f g false [] [] y (inner_suits f g y n) (inputs_weaker (λ s. Replaces (f s) (g s)) (λ s. Suits false [] [] (f s) (g s)) (λ s k. record { vars = k.refines.vars []; root = k.refines.root; fits = λ h. k.refines.fit.each }) y i) fit.each;
        narrow = step_thin f g [] y n (inputs_weaker (λ s. Replaces (f s) (g s)) (λ s. Thin [] (f s) (g s)) (λ s k. record { vars = k.refines.vars []; narrow = λ h. k.refines.fit.narrow }) y i) fit.narrow;
        once = (fresh fit.once).once;
      };
      scanned = step_scanned f g y n (inputs_weaker (λ s. Replaces (f s) (g s)) (λ s. All (Contains (scans (g s))) (scans (f s))) (λ s k. k.refines.scanned) y i);
      root = root-same f g y;
      vars = λ given. (whole true (λ q. []) given [] (no_fills _) (no_rows given)).vars;
      order = (whole true (λ q. []) [] [] (no_fills _) (no_rows [])).order;
      allowed = λ b sets given outer rows fills w h. (whole b sets given outer fills w).less rows h;
      faults = λ sets given outer name fills w h. layer_faults f g sets given outer name y (passes sets given outer name fills w) h;
    };
    makes_no_more = (fresh fit.once).fewer;
  }

replaced : (a b c d : Plan) → a ≡ c → b ≡ d → Replaces a b → Replaces c d
replaced a b c d e f h = subst (λ (z : Plan). Replaces z d) e (subst (λ (z : Plan). Replaces a z) f h)

fits_at : (a b : Plan) → a ≡ b → Fit b → Fit a
fits_at a b e h = subst Fit (sym e) h

-- ---- the same at each operator

pub under_Assign : (made : List (Var × Expr)) (q p : Plan) → Fit (P.Assign made p) → Replaces q p → Replaces (P.Assign made q) (P.Assign made p)
under_Assign made q p fit h = replaced _ _ _ _ (P.rolls-Assign made q) (P.rolls-Assign made p) (congruence {S = Unit {0}} (λ t. q) (λ t. p) (L.Assign made tt) tt h (fits_at _ _ (P.rolls-Assign made p) fit))

pub under_Select : (c : Expr) (q p : Plan) → Fit (P.Select c p) → Replaces q p → Replaces (P.Select c q) (P.Select c p)
under_Select c q p fit h = replaced _ _ _ _ (P.rolls-Select c q) (P.rolls-Select c p) (congruence {S = Unit {0}} (λ t. q) (λ t. p) (L.Select c tt) tt h (fits_at _ _ (P.rolls-Select c p) fit))

pub under_Project : (vars : List Var) (q p : Plan) → Fit (P.Project vars p) → Replaces q p → Replaces (P.Project vars q) (P.Project vars p)
under_Project vars q p fit h = replaced _ _ _ _ (P.rolls-Project vars q) (P.rolls-Project vars p) (congruence {S = Unit {0}} (λ t. q) (λ t. p) (L.Project vars tt) tt h (fits_at _ _ (P.rolls-Project vars p) fit))

pub under_Unnest : (v : Var) (its : Generator) (q p : Plan) → Fit (P.Unnest v its p) → Replaces q p → Replaces (P.Unnest v its q) (P.Unnest v its p)
under_Unnest v its q p fit h = replaced _ _ _ _ (P.rolls-Unnest v its q) (P.rolls-Unnest v its p) (congruence {S = Unit {0}} (λ t. q) (λ t. p) (L.Unnest v its tt) tt h (fits_at _ _ (P.rolls-Unnest v its p) fit))

pub under_Subplan : (n : Plan) (q p : Plan) → Fit (P.Subplan n p) → Replaces q p → Replaces (P.Subplan n q) (P.Subplan n p)
under_Subplan n q p fit h = replaced _ _ _ _ (P.rolls-Subplan n q) (P.rolls-Subplan n p) (congruence {S = Bool} (λ t. if t then n else q) (λ t. if t then n else p) (L.Subplan true false) refl h (fits_at _ _ (P.rolls-Subplan n p) fit))

pub under_Group : (keys : List (Var × Var)) (n : Plan) (q p : Plan) → Fit (P.Group keys n p) → Replaces q p → Replaces (P.Group keys n q) (P.Group keys n p)
under_Group keys n q p fit h = replaced _ _ _ _ (P.rolls-Group keys n q) (P.rolls-Group keys n p) (congruence {S = Bool} (λ t. if t then n else q) (λ t. if t then n else p) (L.Group keys true false) refl h (fits_at _ _ (P.rolls-Group keys n p) fit))

pub under_Distinct : (q p : Plan) → Fit (P.Distinct p) → Replaces q p → Replaces (P.Distinct q) (P.Distinct p)
under_Distinct q p fit h = replaced _ _ _ _ (P.rolls-Distinct q) (P.rolls-Distinct p) (congruence {S = Unit {0}} (λ t. q) (λ t. p) (L.Distinct tt) tt h (fits_at _ _ (P.rolls-Distinct p) fit))

pub under_Aggregate : (made : List (Var × AggCall)) (q p : Plan) → Fit (P.Aggregate made p) → Replaces q p → Replaces (P.Aggregate made q) (P.Aggregate made p)
under_Aggregate made q p fit h = replaced _ _ _ _ (P.rolls-Aggregate made q) (P.rolls-Aggregate made p) (congruence {S = Unit {0}} (λ t. q) (λ t. p) (L.Aggregate made tt) tt h (fits_at _ _ (P.rolls-Aggregate made p) fit))

pub under_Order : (keys : List OrderKey) (q p : Plan) → Fit (P.Order keys p) → Replaces q p → Replaces (P.Order keys q) (P.Order keys p)
under_Order keys q p fit h = replaced _ _ _ _ (P.rolls-Order keys q) (P.rolls-Order keys p) (congruence {S = Unit {0}} (λ t. q) (λ t. p) (L.Order keys tt) tt h (fits_at _ _ (P.rolls-Order keys p) fit))

pub under_Limit : (n k : ℕ) (q p : Plan) → Fit (P.Limit n k p) → Replaces q p → Replaces (P.Limit n k q) (P.Limit n k p)
under_Limit n k q p fit h = replaced _ _ _ _ (P.rolls-Limit n k q) (P.rolls-Limit n k p) (congruence {S = Unit {0}} (λ t. q) (λ t. p) (L.Limit n k tt) tt h (fits_at _ _ (P.rolls-Limit n k p) fit))

pub under_Check : (name : Bytes) (c : Expr) (q p : Plan) → Fit (P.Check name c p) → Replaces q p → Replaces (P.Check name c q) (P.Check name c p)
under_Check name c q p fit h = replaced _ _ _ _ (P.rolls-Check name c q) (P.rolls-Check name c p) (congruence {S = Unit {0}} (λ t. q) (λ t. p) (L.Check name c tt) tt h (fits_at _ _ (P.rolls-Check name c p) fit))

pub under_Result : (vars : List Var) (q p : Plan) → Fit (P.Result vars p) → Replaces q p → Replaces (P.Result vars q) (P.Result vars p)
under_Result vars q p fit h = replaced _ _ _ _ (P.rolls-Result vars q) (P.rolls-Result vars p) (congruence {S = Unit {0}} (λ t. q) (λ t. p) (L.Result vars tt) tt h (fits_at _ _ (P.rolls-Result vars p) fit))

pub under_Join : (c : Expr) (s q r p : Plan) → Fit (P.Join c q p) → Replaces s q → Replaces r p → Replaces (P.Join c s r) (P.Join c q p)
under_Join c s q r p fit h k = replaced _ _ _ _ (P.rolls-Join c s r) (P.rolls-Join c q p) (congruence {S = Bool} (λ t. if t then s else r) (λ t. if t then q else p) (L.Join c true false) tt (h, k) (fits_at _ _ (P.rolls-Join c q p) fit))

pub under_LeftJoin : (c : Expr) (s q r p : Plan) → Fit (P.LeftJoin c q p) → Replaces s q → Replaces r p → Replaces (P.LeftJoin c s r) (P.LeftJoin c q p)
under_LeftJoin c s q r p fit h k = replaced _ _ _ _ (P.rolls-LeftJoin c s r) (P.rolls-LeftJoin c q p) (congruence {S = Bool} (λ t. if t then s else r) (λ t. if t then q else p) (L.LeftJoin c true false) tt (h, k) (fits_at _ _ (P.rolls-LeftJoin c q p) fit))

pub under_Union : (made ls rs : List Var) (s q r p : Plan) → Fit (P.Union made ls rs q p) → Replaces s q → Replaces r p → Replaces (P.Union made ls rs s r) (P.Union made ls rs q p)
under_Union made ls rs s q r p fit h k = replaced _ _ _ _ (P.rolls-Union made ls rs s r) (P.rolls-Union made ls rs q p) (congruence {S = Bool} (λ t. if t then s else r) (λ t. if t then q else p) (L.Union made ls rs true false) tt (h, k) (fits_at _ _ (P.rolls-Union made ls rs q p) fit))
