-- Physical plans whose operators are laid and make no variable twice, and so are the parts of these.
use Rattle.std.proofs.Common.{ℕ, List, [], ◌∷◌, ◌++◌, map, sym, subst}
use Rattle.std.specs.List.{AllByRecursion, Contains}
use Rattle.std.proofs.lemmas.List.Elements.{All-from_recursion, All-contains}
use Rattle.al_plan.specs.declared.expr.Var.{Var}
use Rattle.al_plan.specs.Refines.{NoTwice, makes}
use Rattle.al_plan.proofs.Makes.{twice_left, twice_right}
use Rattle.al_phys.specs.declared.phys.Phys.{Phys, map-Phys, roll-Phys, ind-Phys}
use Rattle.al_phys.specs.declared.phys.Phys.TheOpen as L
use Rattle.al_phys.specs.Operators.{phys_makes, makes_step, operators, below}
use Rattle.al_phys.specs.Placed.{IsLaid, Placed}
use Rattle.al_phys.proofs.OperatorLaws.{pmakes-roll, operators-roll}
use Rattle.al_phys.proofs.LiveLaws.{AllLaid, map_itself, laid_below, left_laid, right_laid}
use Rattle.al_phys.proofs.FlowLaws.{all_both}

pub record Good (n : ℕ) (p : Phys) : Type 0 where
  pub laid : AllLaid n p
  pub once : NoTwice (phys_makes p)

-- a claim of each input of an operator
abbrev pub Inputs : (S : Type 0) → (S → Type 0) → L.Phys-F S → Type 0
Inputs S P (L.Scan set vars) = Unit {0}
Inputs S P L.One = Unit {0}
Inputs S P (L.Assign made s) = P s
Inputs S P (L.Select c s) = P s
Inputs S P (L.Project vars s) = P s
Inputs S P (L.Unnest v its s) = P s
Inputs S P (L.Subplan inner s) = P s
Inputs S P (L.Check own c s) = P s
Inputs S P (L.Join form c l r) = P l × P r
Inputs S P (L.HashGroup keys inner s) = P s
Inputs S P (L.PreGroup keys inner s) = P s
Inputs S P (L.HashDistinct s) = P s
Inputs S P (L.AggPart made s) = P s
Inputs S P (L.AggFinal made s) = P s
Inputs S P (L.Union made ls rs l r) = P l × P r
Inputs S P (L.Sort keys s) = P s
Inputs S P (L.Limit m k s) = P s
Inputs S P (L.LocalLimit m s) = P s
Inputs S P (L.Result vars s) = P s
Inputs S P (L.HashExchange vars s) = P s
Inputs S P (L.Broadcast s) = P s
Inputs S P (L.Gather s) = P s
Inputs S P (L.Merge keys s) = P s

module _ {S : Type 0} (up : S → Phys) (n : ℕ) where
  abbrev pub Below : L.Phys-F S → Type 0
  Below y = AllByRecursion (IsLaid n) (below (map-Phys Phys (List Phys) operators (map-Phys S Phys up y)))

  abbrev pub Once : L.Phys-F S → Type 0
  Once y = NoTwice (makes_step (map-Phys Phys (List Var) phys_makes (map-Phys S Phys up y)))

  good : (s : S) → AllLaid n (up s) → NoTwice (phys_makes (up s)) → Good n (up s)
  good s laid once = record { laid = laid; once = once }

  -- the inputs of an operator
  pub inputs_good : (y : L.Phys-F S) → Below y → Once y → Inputs S (λ s. Good n (up s)) y
  inputs_good (L.Scan set vars) rest once = tt
  inputs_good L.One rest once = tt
  inputs_good (L.Assign made s) rest once = good s rest (twice_left (phys_makes (up s)) (map (λ m. m.0) made) once)
  inputs_good (L.Select c s) rest once = good s rest once
  inputs_good (L.Project vars s) rest once = good s rest once
  inputs_good (L.Unnest v its s) rest once = good s rest (twice_left (phys_makes (up s)) (v ∷ []) once)
  inputs_good (L.Subplan inner s) rest once = good s rest (twice_left (phys_makes (up s)) (makes inner) once)
  inputs_good (L.Check own c s) rest once = good s rest once
  inputs_good (L.Join form c l r) rest once = (good l (left_laid n (up l) (up r) rest) (twice_left (phys_makes (up l)) (phys_makes (up r)) once), good r (right_laid n (up l) (up r) rest) (twice_right (phys_makes (up l)) (phys_makes (up r)) once))
  inputs_good (L.HashGroup keys inner s) rest once = good s rest (twice_left (phys_makes (up s)) (makes inner ++ map (λ k. k.0) keys) once)
  inputs_good (L.PreGroup keys inner s) rest once = good s rest (twice_left (phys_makes (up s)) (makes inner ++ map (λ k. k.0) keys) once)
  inputs_good (L.HashDistinct s) rest once = good s rest once
  inputs_good (L.AggPart made s) rest once = good s rest once
  inputs_good (L.AggFinal made s) rest once = good s rest (twice_left (phys_makes (up s)) (map (λ m. m.0) made) once)
  inputs_good (L.Union made ls rs l r) rest once = (good l (left_laid n (up l) (up r) rest) (twice_left (phys_makes (up l)) (phys_makes (up r) ++ made) once), good r (right_laid n (up l) (up r) rest) (twice_left (phys_makes (up r)) made (twice_right (phys_makes (up l)) (phys_makes (up r) ++ made) once)))
  inputs_good (L.Sort keys s) rest once = good s rest once
  inputs_good (L.Limit m k s) rest once = good s rest once
  inputs_good (L.LocalLimit m s) rest once = good s rest once
  inputs_good (L.Result vars s) rest once = good s rest once
  inputs_good (L.HashExchange vars s) rest once = good s rest once
  inputs_good (L.Broadcast s) rest once = good s rest once
  inputs_good (L.Gather s) rest once = good s rest once
  inputs_good (L.Merge keys s) rest once = good s rest once

abbrev AllGood : Phys → Type 0
AllGood p = (n : ℕ) → Good n p → AllByRecursion (Good n) (operators p)

module _ {S : Type 0} (up : S → Phys) (ih : (s : S) → AllGood (up s)) (n : ℕ) where
  below_good : (y : L.Phys-F S) → Inputs S (λ s. Good n (up s)) y → AllByRecursion (Good n) (below (map-Phys Phys (List Phys) operators (map-Phys S Phys up y)))
  below_good (L.Scan set vars) i = tt
  below_good L.One i = tt
  below_good (L.Assign made s) i = ih s n i
  below_good (L.Select c s) i = ih s n i
  below_good (L.Project vars s) i = ih s n i
  below_good (L.Unnest v its s) i = ih s n i
  below_good (L.Subplan inner s) i = ih s n i
  below_good (L.Check own c s) i = ih s n i
  below_good (L.Join form c l r) i = all_both (Good n) (operators (up l)) (operators (up r)) (ih l n i.0) (ih r n i.1)
  below_good (L.HashGroup keys inner s) i = ih s n i
  below_good (L.PreGroup keys inner s) i = ih s n i
  below_good (L.HashDistinct s) i = ih s n i
  below_good (L.AggPart made s) i = ih s n i
  below_good (L.AggFinal made s) i = ih s n i
  below_good (L.Union made ls rs l r) i = all_both (Good n) (operators (up l)) (operators (up r)) (ih l n i.0) (ih r n i.1)
  below_good (L.Sort keys s) i = ih s n i
  below_good (L.Limit m k s) i = ih s n i
  below_good (L.LocalLimit m s) i = ih s n i
  below_good (L.Result vars s) i = ih s n i
  below_good (L.HashExchange vars s) i = ih s n i
  below_good (L.Broadcast s) i = ih s n i
  below_good (L.Gather s) i = ih s n i
  below_good (L.Merge keys s) i = ih s n i

layer : {S : Type 0} (up : S → Phys) → ((s : S) → AllGood (up s)) → (y : L.Phys-F S) → AllGood (roll-Phys (map-Phys S Phys up y))
layer {S} up ih y n good =
    let x = map-Phys S Phys up y in
    let inputs = inputs_good up n y (laid_below n x good.laid) (subst NoTwice (pmakes-roll x) good.once) in
    subst (AllByRecursion (Good n)) (sym (operators-roll x)) (subst (λ (z : L.Phys-F Phys). Good n (roll-Phys z)) (sym (map_itself x)) good, below_good up ih n y inputs)

all_good : (p : Phys) → AllGood p
all_good = ind-Phys AllGood (λ x y e. subst (λ (z : L.Phys-F Phys). AllGood (roll-Phys z)) e (layer (λ s. s.0) (λ s. s.1) y))

-- a part of a placed plan
pub placed_good : (whole p : Phys) (n : ℕ) → Placed whole n → Contains (operators whole) p → Good n p
placed_good whole p n placed part = All-contains (Good n) (operators whole) p (All-from_recursion (Good n) (operators whole) (all_good whole n (record { laid = placed.each; once = placed.once }))) part
