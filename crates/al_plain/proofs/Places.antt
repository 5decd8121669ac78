-- Where an operator fits where it stands, so do its inputs and its nested plan; what an input faults it faults.
use Rattle.std.proofs.Common.{◌≡◌, ℕ, inl, inr, Bool, true, List, [], ◌∷◌, ◌++◌, map, length, ap, sym, subst, ◌∙◌}
use Rattle.std.specs.List.{All}
use Rattle.std.proofs.lemmas.List.{append-nil}
use Rattle.std.proofs.lemmas.List.Elements.{All-head}
use Rattle.al_plan.specs.declared.expr.Var.{Var}
use Rattle.al_plan.specs.declared.expr.Expr.{Expr}
use Rattle.al_plan.specs.declared.plan.OrderKey.{OrderKey}
use Rattle.al_plan.specs.declared.plan.AggCall.{AggCall}
use Rattle.al_plan.specs.declared.plan.Generator.{Generator}
use Rattle.al_plan.specs.declared.plan.Plan.{Plan, map-Plan, roll-Plan}
use Rattle.al_plan.specs.declared.plan.Plan.TheOpen as L
use Rattle.al_plan.specs.declared.plan.Plan.TheVariants as P
use Rattle.al_plan.specs.Eval.{Bytes, Env, bind}
use Rattle.al_plan.specs.Allows.{Sets, Faulting, Faults, live}
use Rattle.al_plan.specs.Refines.{FitsEach, Fills, NoTwice, Scan, scans, scans_step, makes, makes_step, is_aggregate}
use Rattle.al_plan.proofs.PlanLaws.{EachLayer, each-roll, each-Subplan, each-Group, each-Union, makes-Subplan, makes-Group, scans-Scan, scans-Subplan, scans-Group, live-Assign, live-Unnest, live-Subplan, makes-roll, scans-roll, FaultLayer, faults-roll}
use Rattle.al_plan.proofs.Mono.{Inputs}
use Rattle.al_plan.proofs.Makes.{Disjoint, apart, twice_left, twice_right}
use Rattle.al_plan.proofs.Within.{not_left, not_right}
use Rattle.al_plan.proofs.Lives.{live_once_at, cross}
use Rattle.al_plan.proofs.Bools.{no}
use Rattle.al_plain.specs.declared.plan.PlainFault.{PlainFault}
use Rattle.al_plain.specs.declared.plan.PlainFault.TheVariants as F
use Rattle.al_plain.specs.Rows.{Cells}
use Rattle.al_plain.specs.Gives.{AreWide, Placed, IsNestable, Blames}
use Rattle.al_plain.proofs.Lists.{All-front, All-back}

front : (zs xs ys : List Var) → Disjoint zs (xs ++ ys) → Disjoint zs xs
front zs xs ys d q e = not_left xs ys q (d q e)

back : (zs xs ys : List Var) → Disjoint zs (xs ++ ys) → Disjoint zs ys
back zs xs ys d q e = not_right xs ys q (d q e)

abbrev Fit : Sets → Scan → Type 0
Fit sets s = All (λ r. length r ≡ length s.1) (sets s.0)

module _ (inside : Bool) (sets : Sets) (given : List Var) (outer : List Cells) where
  abbrev Here : Plan → Type 0
  Here p = Placed inside p sets given outer

  part : (q p : Plan) → Here q → FitsEach p inside given → NoTwice (makes p) → Disjoint given (makes p) → Fills (scans p) sets → Here p
  part q p here fits once new fills = record { fits = fits; given_once = here.given_once; made_once = once; made_new = new; none_given = here.none_given; fills = fills; wide = here.wide }

  step : (x : L.Plan-F Plan) (q : Plan) → Here q → EachLayer x inside given → NoTwice (makes_step (map-Plan Plan (List Var) makes x)) → Disjoint given (makes_step (map-Plan Plan (List Var) makes x))
      → Fills (scans_step (map-Plan Plan (List Scan) scans x)) sets → Inputs Plan Here x
  step (L.Scan set vars) q here h n d fl = tt
  step L.Empty q here h n d fl = tt
  step L.Nested q here h n d fl = tt
  step (L.Assign made p) q here h n d fl = part q p here h.0.0 (twice_left (makes p) (map (λ m. m.0) made) n) (front given (makes p) (map (λ m. m.0) made) d) fl
  step (L.Select c p) q here h n d fl = part q p here h.0.0 n d fl
  step (L.Project vars p) q here h n d fl = part q p here h.0.0 n d fl
  step (L.Unnest v g p) q here h n d fl = part q p here h.0.0 (twice_left (makes p) (v ∷ []) n) (front given (makes p) (v ∷ []) d) fl
  step (L.Subplan m p) q here h n d fl = part q p here h.0.0 (twice_left (makes p) (makes m) n) (front given (makes p) (makes m) d) (All-front (Fit sets) (scans p) (scans m) fl)
  step (L.Group keys m p) q here h n d fl = part q p here h.0.0 (twice_left (makes p) (makes m ++ map (λ k. k.0) keys) n) (front given (makes p) (makes m ++ map (λ k. k.0) keys) d) (All-front (Fit sets) (scans p) (scans m) fl)
  step (L.Distinct p) q here h n d fl = part q p here h.0 n d fl
  step (L.Aggregate made p) q here h n d fl = part q p here h.0.0 (twice_left (makes p) (map (λ m. m.0) made) n) (front given (makes p) (map (λ m. m.0) made) d) fl
  step (L.Order keys p) q here h n d fl = part q p here h.0.0 n d fl
  step (L.Limit k m p) q here h n d fl = part q p here h.0 n d fl
  step (L.Check own c p) q here h n d fl = part q p here h.0.0 n d fl
  step (L.Result vars p) q here h n d fl = part q p here h.0.0 n d fl
  step (L.Join c l r) q here h n d fl = (part q l here h.0.0 (twice_left (makes l) (makes r) n) (front given (makes l) (makes r) d) (All-front (Fit sets) (scans l) (scans r) fl), part q r here h.1.0 (twice_right (makes l) (makes r) n) (back given (makes l) (makes r) d) (All-back (Fit sets) (scans l) (scans r) fl))
  step (L.LeftJoin c l r) q here h n d fl = (part q l here h.0.0 (twice_left (makes l) (makes r) n) (front given (makes l) (makes r) d) (All-front (Fit sets) (scans l) (scans r) fl), part q r here h.1.0 (twice_right (makes l) (makes r) n) (back given (makes l) (makes r) d) (All-back (Fit sets) (scans l) (scans r) fl))
  step (L.Union made ls rs l r) q here h n d fl = (part q l here h.0.0 (twice_left (makes l) (makes r ++ made) n) (front given (makes l) (makes r ++ made) d) (All-front (Fit sets) (scans l) (scans r) fl), part q r here h.1.0 (twice_left (makes r) made (twice_right (makes l) (makes r ++ made) n)) (front given (makes r) made (back given (makes l) (makes r ++ made) d)) (All-back (Fit sets) (scans l) (scans r) fl))

  pub inputs_placed : (x : L.Plan-F Plan) (q : Plan) → q ≡ roll-Plan x → Here q → Inputs Plan Here x
  inputs_placed x q e h =
      let here : Here (roll-Plan x) = subst Here e h in
      step x (roll-Plan x) here (subst (λ (a : Bool → List Var → Type 0). a inside given) (each-roll x) here.fits) (subst NoTwice (makes-roll x) here.made_once) (subst (Disjoint given) (makes-roll x) here.made_new) (subst (λ (ss : List Scan). Fills ss sets) (scans-roll x) here.fills)

  pub live_once : (p : Plan) → Here p → NoTwice (live p given)
  live_once p h = live_once_at p inside given h.none_given h.fits h.given_once h.made_once h.made_new

-- `p` is an input of `q`
pub record Under (q p : Plan) : Type 0 where
  pub placed : (inside : Bool) (sets : Sets) (given : List Var) (outer : List Cells) → Placed inside q sets given outer → Placed inside p sets given outer
  pub faults : (sets : Sets) (given : List Var) (outer : List Env) (name : Bytes) → Faults p sets given outer name → Faults q sets given outer name

-- into the faults of an operator
pub faulted : (x : L.Plan-F Plan) (q : Plan) → q ≡ roll-Plan x → (sets : Sets) (given : List Var) (outer : List Env) (name : Bytes) → FaultLayer x sets given outer name → Faults q sets given outer name
faulted x q e sets given outer name h = subst (λ (r : Plan). Faults r sets given outer name) (sym e) (subst (λ (a : Faulting). a sets given outer name) (sym (faults-roll x)) h)

pub under_Assign : (made : List (Var × Expr)) (p q : Plan) → q ≡ P.Assign made p → Under q p
under_Assign made p q e = record {
  placed = λ inside sets given outer h. inputs_placed inside sets given outer (L.Assign made p) q (e ∙ sym (P.rolls-Assign made p)) h;
  faults = λ sets given outer name h. faulted (L.Assign made p) q (e ∙ sym (P.rolls-Assign made p)) sets given outer name h;
}

pub under_Select : (c : Expr) (p q : Plan) → q ≡ P.Select c p → Under q p
under_Select c p q e = record {
  placed = λ inside sets given outer h. inputs_placed inside sets given outer (L.Select c p) q (e ∙ sym (P.rolls-Select c p)) h;
  faults = λ sets given outer name h. faulted (L.Select c p) q (e ∙ sym (P.rolls-Select c p)) sets given outer name h;
}

pub under_Project : (vars : List Var) (p q : Plan) → q ≡ P.Project vars p → Under q p
under_Project vars p q e = record {
  placed = λ inside sets given outer h. inputs_placed inside sets given outer (L.Project vars p) q (e ∙ sym (P.rolls-Project vars p)) h;
  faults = λ sets given outer name h. faulted (L.Project vars p) q (e ∙ sym (P.rolls-Project vars p)) sets given outer name h;
}

pub under_Unnest : (v : Var) (g : Generator) (p q : Plan) → q ≡ P.Unnest v g p → Under q p
under_Unnest v g p q e = record {
  placed = λ inside sets given outer h. inputs_placed inside sets given outer (L.Unnest v g p) q (e ∙ sym (P.rolls-Unnest v g p)) h;
  faults = λ sets given outer name h. faulted (L.Unnest v g p) q (e ∙ sym (P.rolls-Unnest v g p)) sets given outer name h;
}

pub under_Subplan : (n : Plan) (p q : Plan) → q ≡ P.Subplan n p → Under q p
under_Subplan n p q e = record {
  placed = λ inside sets given outer h. inputs_placed inside sets given outer (L.Subplan n p) q (e ∙ sym (P.rolls-Subplan n p)) h;
  faults = λ sets given outer name h. faulted (L.Subplan n p) q (e ∙ sym (P.rolls-Subplan n p)) sets given outer name h;
}

pub under_Group : (keys : List (Var × Var)) (n : Plan) (p q : Plan) → q ≡ P.Group keys n p → Under q p
under_Group keys n p q e = record {
  placed = λ inside sets given outer h. inputs_placed inside sets given outer (L.Group keys n p) q (e ∙ sym (P.rolls-Group keys n p)) h;
  faults = λ sets given outer name h. faulted (L.Group keys n p) q (e ∙ sym (P.rolls-Group keys n p)) sets given outer name h;
}

pub under_Distinct : (p q : Plan) → q ≡ P.Distinct p → Under q p
under_Distinct p q e = record {
  placed = λ inside sets given outer h. inputs_placed inside sets given outer (L.Distinct p) q (e ∙ sym (P.rolls-Distinct p)) h;
  faults = λ sets given outer name h. faulted (L.Distinct p) q (e ∙ sym (P.rolls-Distinct p)) sets given outer name h;
}

pub under_Aggregate : (made : List (Var × AggCall)) (p q : Plan) → q ≡ P.Aggregate made p → Under q p
under_Aggregate made p q e = record {
  placed = λ inside sets given outer h. inputs_placed inside sets given outer (L.Aggregate made p) q (e ∙ sym (P.rolls-Aggregate made p)) h;
  faults = λ sets given outer name h. faulted (L.Aggregate made p) q (e ∙ sym (P.rolls-Aggregate made p)) sets given outer name h;
}

pub under_Order : (keys : List OrderKey) (p q : Plan) → q ≡ P.Order keys p → Under q p
under_Order keys p q e = record {
  placed = λ inside sets given outer h. inputs_placed inside sets given outer (L.Order keys p) q (e ∙ sym (P.rolls-Order keys p)) h;
  faults = λ sets given outer name h. faulted (L.Order keys p) q (e ∙ sym (P.rolls-Order keys p)) sets given outer name h;
}

pub under_Limit : (n k : ℕ) (p q : Plan) → q ≡ P.Limit n k p → Under q p
under_Limit n k p q e = record {
  placed = λ inside sets given outer h. inputs_placed inside sets given outer (L.Limit n k p) q (e ∙ sym (P.rolls-Limit n k p)) h;
  faults = λ sets given outer name h. faulted (L.Limit n k p) q (e ∙ sym (P.rolls-Limit n k p)) sets given outer name h;
}

pub under_Check : (own : Bytes) (c : Expr) (p q : Plan) → q ≡ P.Check own c p → Under q p
under_Check own c p q e = record {
  placed = λ inside sets given outer h. inputs_placed inside sets given outer (L.Check own c p) q (e ∙ sym (P.rolls-Check own c p)) h;
  faults = λ sets given outer name h. faulted (L.Check own c p) q (e ∙ sym (P.rolls-Check own c p)) sets given outer name (inr h);
}

pub under_Result : (vars : List Var) (p q : Plan) → q ≡ P.Result vars p → Under q p
under_Result vars p q e = record {
  placed = λ inside sets given outer h. inputs_placed inside sets given outer (L.Result vars p) q (e ∙ sym (P.rolls-Result vars p)) h;
  faults = λ sets given outer name h. faulted (L.Result vars p) q (e ∙ sym (P.rolls-Result vars p)) sets given outer name h;
}

pub left_of_Join : (c : Expr) (l r q : Plan) → q ≡ P.Join c l r → Under q l
left_of_Join c l r q e = record {
  placed = λ inside sets given outer h. (inputs_placed inside sets given outer (L.Join c l r) q (e ∙ sym (P.rolls-Join c l r)) h).0;
  faults = λ sets given outer name h. faulted (L.Join c l r) q (e ∙ sym (P.rolls-Join c l r)) sets given outer name (inl h);
}

pub right_of_Join : (c : Expr) (l r q : Plan) → q ≡ P.Join c l r → Under q r
right_of_Join c l r q e = record {
  placed = λ inside sets given outer h. (inputs_placed inside sets given outer (L.Join c l r) q (e ∙ sym (P.rolls-Join c l r)) h).1;
  faults = λ sets given outer name h. faulted (L.Join c l r) q (e ∙ sym (P.rolls-Join c l r)) sets given outer name (inr h);
}

pub left_of_LeftJoin : (c : Expr) (l r q : Plan) → q ≡ P.LeftJoin c l r → Under q l
left_of_LeftJoin c l r q e = record {
  placed = λ inside sets given outer h. (inputs_placed inside sets given outer (L.LeftJoin c l r) q (e ∙ sym (P.rolls-LeftJoin c l r)) h).0;
  faults = λ sets given outer name h. faulted (L.LeftJoin c l r) q (e ∙ sym (P.rolls-LeftJoin c l r)) sets given outer name (inl h);
}

pub right_of_LeftJoin : (c : Expr) (l r q : Plan) → q ≡ P.LeftJoin c l r → Under q r
right_of_LeftJoin c l r q e = record {
  placed = λ inside sets given outer h. (inputs_placed inside sets given outer (L.LeftJoin c l r) q (e ∙ sym (P.rolls-LeftJoin c l r)) h).1;
  faults = λ sets given outer name h. faulted (L.LeftJoin c l r) q (e ∙ sym (P.rolls-LeftJoin c l r)) sets given outer name (inr h);
}

pub left_of_Union : (made ls rs : List Var) (l r q : Plan) → q ≡ P.Union made ls rs l r → Under q l
left_of_Union made ls rs l r q e = record {
  placed = λ inside sets given outer h. (inputs_placed inside sets given outer (L.Union made ls rs l r) q (e ∙ sym (P.rolls-Union made ls rs l r)) h).0;
  faults = λ sets given outer name h. faulted (L.Union made ls rs l r) q (e ∙ sym (P.rolls-Union made ls rs l r)) sets given outer name (inl h);
}

pub right_of_Union : (made ls rs : List Var) (l r q : Plan) → q ≡ P.Union made ls rs l r → Under q r
right_of_Union made ls rs l r q e = record {
  placed = λ inside sets given outer h. (inputs_placed inside sets given outer (L.Union made ls rs l r) q (e ∙ sym (P.rolls-Union made ls rs l r)) h).1;
  faults = λ sets given outer name h. faulted (L.Union made ls rs l r) q (e ∙ sym (P.rolls-Union made ls rs l r)) sets given outer name (inr h);
}

blames_up : (q p : Plan) → Under q p → (inside : Bool) (sets : Sets) (given : List Var) (outer : List Cells) (e : PlainFault) → Blames inside p sets given outer e → Blames inside q sets given outer e
blames_up q p u inside sets given outer (F.Check name) h = (h.0, u.faults sets given (map (bind given) outer) name h.1)
blames_up q p u inside sets given outer F.NoMemory h = tt

-- the fault of an input is a fault of the plan
pub raised : (q p : Plan) → Under q p → (sets : Sets) (given : List Var) (outer : List Cells) (e : PlainFault) → ((inside : Bool) → Placed inside p sets given outer → Blames inside p sets given outer e) → (inside : Bool) → Placed inside q sets given outer → Blames inside q sets given outer e
raised q p u sets given outer e f inside h = blames_up q p u inside sets given outer e (f inside (u.placed inside sets given outer h))

-- ---- nested plans

nestable : (inside : Bool) (sets : Sets) (given : List Var) (outer : List Cells) (p n : Plan) (own : List Var) → Placed inside p sets given outer → FitsEach n true (live p given) → is_aggregate n ≡ true
    → NoTwice (makes p ++ (makes n ++ own)) → Disjoint given (makes p ++ (makes n ++ own)) → Fills (scans n) sets → IsNestable n sets (live p given)
nestable inside sets given outer p n own here fits root once new fills = record {
  placed = λ rows wide. record {
    fits = fits;
    given_once = live_once inside sets given outer p here;
    made_once = twice_left (makes n) own (twice_right (makes p) (makes n ++ own) once);
    made_new = front (live p given) (makes n) own (cross p inside given (makes n ++ own) here.fits once new);
    none_given = λ e. absurd (no e);
    fills = fills;
    wide = wide;
  };
  root = root;
}

pub nested_of_Subplan : (n p q : Plan) → q ≡ P.Subplan n p → (inside : Bool) (sets : Sets) (given : List Var) (outer : List Cells) → Placed inside q sets given outer → IsNestable n sets (live p given)
nested_of_Subplan n p q e inside sets given outer h =
    let here : Placed inside (P.Subplan n p) sets given outer = subst (λ (r : Plan). Placed inside r sets given outer) e h in
    let input = (under_Subplan n p q e).placed inside sets given outer h in
    let each : EachLayer (L.Subplan n p) inside given = subst (λ (t : Type 0). t) (each-Subplan n p inside given) here.fits in
    let made : makes (P.Subplan n p) ≡ makes p ++ (makes n ++ []) = makes-Subplan n p ∙ ap (λ (vs : List Var). makes p ++ vs) (sym (append-nil (makes n))) in
    nestable inside sets given outer p n [] input each.2 each.3 (subst NoTwice made here.made_once) (subst (Disjoint given) made here.made_new) (All-back (Fit sets) (scans p) (scans n) (subst (λ (ss : List Scan). Fills ss sets) (scans-Subplan n p) here.fills))

pub nested_of_Group : (keys : List (Var × Var)) (n p q : Plan) → q ≡ P.Group keys n p → (inside : Bool) (sets : Sets) (given : List Var) (outer : List Cells) → Placed inside q sets given outer → IsNestable n sets (live p given)
nested_of_Group keys n p q e inside sets given outer h =
    let here : Placed inside (P.Group keys n p) sets given outer = subst (λ (r : Plan). Placed inside r sets given outer) e h in
    let input = (under_Group keys n p q e).placed inside sets given outer h in
    let each : EachLayer (L.Group keys n p) inside given = subst (λ (t : Type 0). t) (each-Group keys n p inside given) here.fits in
    nestable inside sets given outer p n (map (λ k. k.0) keys) input each.3 each.4 (subst NoTwice (makes-Group keys n p) here.made_once) (subst (Disjoint given) (makes-Group keys n p) here.made_new) (All-back (Fit sets) (scans p) (scans n) (subst (λ (ss : List Scan). Fills ss sets) (scans-Group keys n p) here.fills))

-- ---- new variables are none of the input's

new_in : (inside : Bool) (sets : Sets) (given : List Var) (outer : List Cells) (q : Plan) (old new : List Var) → live q given ≡ old ++ new → Placed inside q sets given outer → Disjoint old new
new_in inside sets given outer q old new e h = apart old new (subst NoTwice e (live_once inside sets given outer q h))

pub new_in_Assign : (made : List (Var × Expr)) (p q : Plan) → q ≡ P.Assign made p → (inside : Bool) (sets : Sets) (given : List Var) (outer : List Cells) → Placed inside q sets given outer → Disjoint (live p given) (map (λ m. m.0) made)
new_in_Assign made p q e inside sets given outer = new_in inside sets given outer q (live p given) (map (λ m. m.0) made) (ap (λ (r : Plan). live r given) e ∙ live-Assign made p given)

pub new_in_Unnest : (v : Var) (g : Generator) (p q : Plan) → q ≡ P.Unnest v g p → (inside : Bool) (sets : Sets) (given : List Var) (outer : List Cells) → Placed inside q sets given outer → Disjoint (live p given) (v ∷ [])
new_in_Unnest v g p q e inside sets given outer = new_in inside sets given outer q (live p given) (v ∷ []) (ap (λ (r : Plan). live r given) e ∙ live-Unnest v g p given)

pub new_in_Subplan : (n p q : Plan) → q ≡ P.Subplan n p → (inside : Bool) (sets : Sets) (given : List Var) (outer : List Cells) → Placed inside q sets given outer → Disjoint (live p given) (live n (live p given))
new_in_Subplan n p q e inside sets given outer = new_in inside sets given outer q (live p given) (live n (live p given)) (ap (λ (r : Plan). live r given) e ∙ live-Subplan n p given)

-- ---- widths

pub wide_Scan : (set : Bytes) (vars : List Var) (q : Plan) → q ≡ P.Scan set vars → (inside : Bool) (sets : Sets) (given : List Var) (outer : List Cells) → Placed inside q sets given outer → AreWide vars (sets set)
wide_Scan set vars q e inside sets given outer h =
    let fills : Fills ((set, vars) ∷ []) sets = subst (λ (ss : List Scan). Fills ss sets) (ap scans e ∙ scans-Scan set vars) h.fills in
    All-head (Fit sets) (set, vars) [] fills

pub wide_Union : (made ls rs : List Var) (l r q : Plan) → q ≡ P.Union made ls rs l r → (inside : Bool) (sets : Sets) (given : List Var) (outer : List Cells) → Placed inside q sets given outer → (length ls ≡ length made) × (length rs ≡ length made)
wide_Union made ls rs l r q e inside sets given outer h =
    let each : EachLayer (L.Union made ls rs l r) inside given = subst (λ (t : Type 0). t) (each-Union made ls rs l r inside given) (subst (λ (p : Plan). FitsEach p inside given) e h.fits) in
    (each.5, each.6)
