-- No variable is live twice in a physical plan that is placed, nor beside what is made over it.
use Rattle.std.proofs.Common.{ℕ, true, List, [], ◌∷◌, ◌++◌, map, sym, subst}
use Rattle.std.specs.List.{AllByRecursion}
use Rattle.al_plan.specs.declared.expr.Var.{Var}
use Rattle.al_plan.specs.declared.expr.Expr.{Expr}
use Rattle.al_plan.specs.declared.plan.AggCall.{AggCall}
use Rattle.al_plan.specs.declared.plan.Plan.{Plan}
use Rattle.al_plan.specs.Allows.{live}
use Rattle.al_plan.specs.Refines.{NoTwice, makes}
use Rattle.al_plan.proofs.Bools.{no}
use Rattle.al_plan.proofs.Makes.{Disjoint, apart, twice_left, twice_right, twice_both}
use Rattle.al_plan.proofs.Lives.{live_once_at, turned}
use Rattle.al_plan.proofs.Within.{not_left}
use Rattle.al_phys.specs.declared.phys.Phys.{Phys, map-Phys, out-Phys}
use Rattle.al_phys.specs.declared.phys.Phys.TheOpen as L
use Rattle.al_phys.specs.Operators.{phys_live, phys_makes, live_step, makes_step, operators, below}
use Rattle.al_phys.specs.Placed.{IsLaid, IsInner, laid_step}
use Rattle.al_phys.proofs.OperatorLaws.{plive-roll, pmakes-roll}
use Rattle.al_phys.proofs.LiveLaws.{AllLaid, laid_here, laid_below, left_laid, right_laid, inner_live, inner_made, only_made, apart_from}
use Rattle.al_jobgen.specs.Shapes.{form}
use Rattle.al_jobgen.proofs.PieceForms.{rolled}
use Rattle.al_jobgen.proofs.SoundWhole.{Inputs, by_form}

-- ---- beside a nested plan

-- a nested plan's variables are apart from those that it stands over
pub beside_nested : (p : Phys) (n : ℕ) (inner : Plan) → AllLaid n p → NoTwice (phys_live p) → NoTwice (phys_makes p ++ makes inner) → NoTwice (phys_live p ++ makes inner)
beside_nested p n inner laid once made = twice_both (phys_live p) (makes inner) once (twice_right (phys_makes p) (makes inner) made) (apart_from p n (makes inner) laid (apart (phys_makes p) (makes inner) made))

-- they are live once
inner_once : (inner : Plan) (vars : List Var) → IsInner inner vars → NoTwice (vars ++ makes inner) → NoTwice (live inner [])
inner_once inner vars fit once =
    subst NoTwice (inner_live inner fit.1 vars) (live_once_at inner true vars (λ e. absurd (no e)) fit.0 (twice_left vars (makes inner) once) (twice_right vars (makes inner) once) (apart vars (makes inner) once))

inner_apart : (inner : Plan) (vars xs : List Var) → IsInner inner vars → Disjoint xs (makes inner) → Disjoint xs (live inner [])
inner_apart inner vars xs fit d q e = inner_made inner fit.1 [] q (d q e)

-- ---- each operator

module _ (n : ℕ) where
  abbrev Once : Phys → Type 0
  Once p = AllLaid n p → NoTwice (phys_makes p) → NoTwice (phys_live p)

  more : (p : Phys) (own : List Var) → Once p → AllLaid n p → NoTwice (phys_makes p ++ own) → NoTwice (phys_live p ++ own)
  more p own i laid made = twice_both (phys_live p) own (i laid (twice_left (phys_makes p) own made)) (twice_right (phys_makes p) own made) (apart_from p n own laid (apart (phys_makes p) own made))

  grouped : (p : Phys) (keys : List (Var × Var)) (inner : Plan) → Once p → IsInner inner (phys_live p) → AllLaid n p → NoTwice (phys_makes p ++ (makes inner ++ map (λ (k : Var × Var). k.0) keys)) → NoTwice (map (λ (k : Var × Var). k.0) keys ++ live inner [])
  grouped p keys inner i fit laid made =
      let new : List Var = map (λ (k : Var × Var). k.0) keys in
      let later = twice_right (phys_makes p) (makes inner ++ map (λ (k : Var × Var). k.0) keys) made in
      let here = i laid (twice_left (phys_makes p) (makes inner ++ map (λ (k : Var × Var). k.0) keys) made) in
      let over = twice_both (phys_live p) (makes inner) here (twice_left (makes inner) (map (λ (k : Var × Var). k.0) keys) later)
      (λ q e. not_left (makes inner) (map (λ (k : Var × Var). k.0) keys) q (apart_from p n (makes inner ++ map (λ (k : Var × Var). k.0) keys) laid (apart (phys_makes p) (makes inner ++ map (λ (k : Var × Var). k.0) keys) made) q e)) in
      twice_both (map (λ (k : Var × Var). k.0) keys) (live inner []) (twice_right (makes inner) (map (λ (k : Var × Var). k.0) keys) later) (inner_once inner (phys_live p) fit over)
      (inner_apart inner (phys_live p) (map (λ (k : Var × Var). k.0) keys) fit (turned (makes inner) (map (λ (k : Var × Var). k.0) keys) (apart (makes inner) (map (λ (k : Var × Var). k.0) keys) later)))

  layer : (y : L.Phys-F Phys) → Inputs Once (form y) → laid_step n y → AllByRecursion (IsLaid n) (below (map-Phys Phys (List Phys) operators y)) → NoTwice (makes_step (map-Phys Phys (List Var) phys_makes y)) → NoTwice (live_step (map-Phys Phys (List Var) phys_live y))
  layer (L.Scan set vars) i here laid made = made
  layer L.One i here laid made = tt
  layer (L.Assign ms p) i here laid made = more p (map (λ (m : Var × Expr). m.0) ms) i laid made
  layer (L.Select c p) i here laid made = i laid made
  layer (L.Project vars p) i here laid made = here.2
  layer (L.Unnest v its p) i here laid made = more p (v ∷ []) i laid made
  layer (L.Subplan inner p) i here laid made =
      let once = i laid (twice_left (phys_makes p) (makes inner) made) in
      let over = beside_nested p n inner laid once made in
      twice_both (phys_live p) (live inner []) once (inner_once inner (phys_live p) here.1 over) (inner_apart inner (phys_live p) (phys_live p) here.1 (apart (phys_live p) (makes inner) over))
  layer (L.Check own c p) i here laid made = i laid made
  layer (L.Join how c l r) i here laid made =
      let laid_l = left_laid n l r laid in
      let laid_r = right_laid n l r laid in
      twice_both (phys_live l) (phys_live r) (i.0 laid_l (twice_left (phys_makes l) (phys_makes r) made)) (i.1 laid_r (twice_right (phys_makes l) (phys_makes r) made))
      (λ q e. only_made r n laid_r q (apart_from l n (phys_makes r) laid_l (apart (phys_makes l) (phys_makes r) made) q e))
  layer (L.HashGroup keys inner p) i here laid made = grouped p keys inner i here.2 laid made
  layer (L.PreGroup keys inner p) i here laid made = grouped p keys inner i here.2 laid made
  layer (L.HashDistinct p) i here laid made = i laid made
  layer (L.AggPart ms p) i here laid made = tt
  layer (L.AggFinal ms p) i here laid made = twice_right (phys_makes p) (map (λ (m : Var × AggCall). m.0) ms) made
  layer (L.Union ms ls rs l r) i here laid made = twice_right (phys_makes r) ms (twice_right (phys_makes l) (phys_makes r ++ ms) made)
  layer (L.Sort keys p) i here laid made = i laid made
  layer (L.Limit m k p) i here laid made = i laid made
  layer (L.LocalLimit m p) i here laid made = i laid made
  layer (L.Result vars p) i here laid made = here.2
  layer (L.HashExchange vars p) i here laid made = i laid made
  layer (L.Broadcast p) i here laid made = i laid made
  layer (L.Gather p) i here laid made = i laid made
  layer (L.Merge keys p) i here laid made = i laid made

  pub live_once : (p : Phys) → AllLaid n p → NoTwice (phys_makes p) → NoTwice (phys_live p)
  live_once = by_form Once (λ p i. subst Once (rolled p) (λ laid made.
      subst NoTwice (sym (plive-roll (out-Phys p))) (layer (out-Phys p) i (laid_here n (out-Phys p) laid) (laid_below n (out-Phys p) laid) (subst NoTwice (pmakes-roll (out-Phys p)) made))))

  -- so are those that are made over it, and those of two inputs
  pub once_with : (p : Phys) (own : List Var) → AllLaid n p → NoTwice (phys_makes p ++ own) → NoTwice (phys_live p ++ own)
  once_with p own laid made = more p own (live_once p) laid made

  pub once_both : (l r : Phys) → AllLaid n l → AllLaid n r → NoTwice (phys_makes l ++ phys_makes r) → NoTwice (phys_live l ++ phys_live r)
  once_both l r laid_l laid_r made =
      twice_both (phys_live l) (phys_live r) (live_once l laid_l (twice_left (phys_makes l) (phys_makes r) made)) (live_once r laid_r (twice_right (phys_makes l) (phys_makes r) made))
      (λ q e. only_made r n laid_r q (apart_from l n (phys_makes r) laid_l (apart (phys_makes l) (phys_makes r) made) q e))
