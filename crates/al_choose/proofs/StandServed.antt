-- What an operator takes, where its needs are served of an input that stands for a plan.
use Rattle.std.proofs.Common.{◌≡◌, ◌<◌, ℕ, Bool, true, false, List, [], ◌∷◌, length, get_or, refl, ap, sym, subst, ◌∙◌, arith}
use Rattle.std.specs.Prelude.{nat_eq, if◌then◌else◌, ◌||◌}
use Rattle.std.specs.Cmp.Lexicographic.{pointwise}
use Rattle.std.specs.List.{AllZip, Contains}
use Rattle.std.specs.List.Sorted.{IsPermutation}
use Rattle.std.proofs.lemmas.List.Elements.{AllZip-get_or, length_all_zip}
use Rattle.std.proofs.lemmas.List.Sorted.{IsPermutation-refl, IsPermutation-sym, Contains-permutation}
use Rattle.al_plan.specs.declared.expr.Var.{Var}
use Rattle.al_plan.specs.declared.plan.Plan.{Plan}
use Rattle.al_plan.specs.Eval.{Env}
use Rattle.al_plan.specs.Allows.{Sets, Allows, live, ordered, is_among}
use Rattle.al_plan.specs.Refines.{Fit, AreLive}
use Rattle.al_plan.proofs.Bools.{by_cases}
use Rattle.al_plan.proofs.Makes.{at_head}
use Rattle.al_plan.proofs.Orders.{free}
use Rattle.al_phys.specs.declared.phys.Phys.{Phys}
use Rattle.al_phys.specs.declared.phys.Phys.TheVariants as Q
use Rattle.al_phys.specs.declared.property.Partitioning.{Partitioning}
use Rattle.al_phys.specs.declared.property.Partitioning.TheVariants as D
use Rattle.al_phys.specs.declared.property.Need.{Need}
use Rattle.al_phys.specs.declared.property.Need.TheVariants as N
use Rattle.al_phys.specs.Operators.{phys_live}
use Rattle.al_phys.specs.Parts.{Parts, HasParts, HasLocal, Interleaves, Serves, IsBroadcast, in_first, first_part}
use Rattle.al_phys.specs.PAllows.{PAllows}
use Rattle.al_phys.specs.Properties.{meets, parts_of, order_of}
use Rattle.al_phys.proofs.PhysLaws.{pfrom_HashExchange, pfrom_Broadcast, pfrom_Gather}
use Rattle.al_phys.proofs.CountLaws.{many}
use Rattle.al_phys.proofs.ValueLaws.{among_from, vars_itself}
use Rattle.al_phys.proofs.MeetsLaws.{met_serves, fit_serves, one_serves, is_one}
use Rattle.al_phys.proofs.OverLaws.{live_more}
use Rattle.al_phys.proofs.PartLaws.{interleaves_permutation, hashed_parts, broadcast_parts, first_parts}
use Rattle.al_choose.specs.Chosen.{served, chosen}
use Rattle.al_choose.proofs.StandParts.{all_rows, IsOne, one_rows, one_interleaved, rows_first}
use Rattle.al_choose.proofs.StandMoves.{hashed_rows}
use Rattle.al_choose.proofs.StandChosen.{ordered_one, all_alone}

-- what a physical plan delivers holds of all parts that it allows
abbrev pub Delivers : ℕ → Phys → Type 0
Delivers n q = (b : Bool) (sets : Sets) (parts : Parts) → PAllows q b sets n parts → HasParts (parts_of q n) parts × HasLocal (order_of q) parts

-- what is chosen for an input stands for it
pub record Side (n : ℕ) (b : Bool) (sets : Sets) (p : Plan) : Type 0 where
  pub fit : Fit p
  pub delivers : Delivers n (chosen n p)
  pub live : phys_live (chosen n p) ≡ live p []
  pub stood : (parts : Parts) → PAllows (chosen n p) b sets n parts → Allows p b sets [] [] (all_rows parts)

-- parts that serve a need, and those below the exchange
pub record Moved (n : ℕ) (b : Bool) (sets : Sets) (need : Need) (q : Phys) (parts : Parts) : Type 0 where
  pub input : Parts
  pub allowed : PAllows q b sets n input
  pub same : IsPermutation (all_rows input) (all_rows parts)
  pub serves : Serves need parts

-- each part has all rows
pub record Copied (n : ℕ) (b : Bool) (sets : Sets) (q : Phys) (parts : Parts) : Type 0 where
  pub input : Parts
  pub allowed : PAllows q b sets n input
  pub same : IsPermutation (all_rows input) (first_part parts)
  pub serves : Serves N.All parts

live_itself : (vars : List Var) → AreLive vars vars
live_itself [] = tt
live_itself (v ∷ vars) = (at_head v vars, live_more vars (v ∷ vars) vars (λ q e. or_right (pointwise nat_eq v.name q) (is_among vars q) e) (live_itself vars))
  where
    or_right : (a b : Bool) → b ≡ true → (a || b) ≡ true
    or_right true b e = refl
    or_right false b e = e

-- parts whose rows are moved each in itself are apart as before
pub apart_moved : (vars : List Var) (R : List Env → List Env → Type 0) → ((rows out : List Env) → R rows out → IsPermutation rows out) → (input parts : Parts) → AllZip R input parts → Serves (N.Keyed vars) input → Serves (N.Keyed vars) parts
unfolding Serves
apart_moved vars R f input parts zip apart i j d low high r s left right =
    let long = length_all_zip R input parts zip in
    let before = λ (k : ℕ) (lt : k < length parts) (x : Env) (h : Contains (get_or parts k d) x).
    Contains-permutation (get_or parts k d) (get_or input k d) x (IsPermutation-sym _ _ (f _ _ (AllZip-get_or R input parts k d d zip (omega arith)))) h in
    apart i j d low (omega arith) r s (before i (omega arith) r left) (before j high s right)

module _ (n : ℕ) (some : 0 < n) (b : Bool) (sets : Sets) where
  -- a need that is met is served
  pub met : (need : Need) (q : Phys) → Delivers n q → meets (parts_of q n) need n ≡ true → (parts : Parts) → PAllows q b sets n parts → Serves need parts
  met need q delivers e parts h =
      met_serves (parts_of q n) need parts (subst (λ (m : ℕ). meets (parts_of q n) need m ≡ true) (sym (many q b sets n parts h)) e) (delivers b sets parts h).0

  pub met_one : (q : Phys) → Delivers n q → meets (parts_of q n) N.One n ≡ true → (parts : Parts) → PAllows q b sets n parts → IsOne parts
  unfolding Serves
  met_one q delivers e parts h = met N.One q delivers e parts h

  -- rows that are hashed where the need is not met
  hash_moved : (need : Need) (vars : List Var) → ((parts : Parts) → HasParts (D.Hash vars) parts → Serves need parts) → (q : Phys) → Delivers n q → (parts : Parts) (t : Bool) → meets (parts_of q n) need n ≡ t → PAllows (if t then q else Q.HashExchange vars q) b sets n parts
      → Moved n b sets need q parts
  hash_moved need vars serves q delivers parts true e h = record { input = parts; allowed = h; same = IsPermutation-refl _; serves = met need q delivers e parts h }
  hash_moved need vars serves q delivers parts false e h =
      let o = pfrom_HashExchange vars q b sets n parts h in
      record { input = o.0; allowed = o.1; same = hashed_rows n vars o.0 parts some o.2; serves = serves parts (hashed_parts n vars o.0 parts o.2) }

  pub keyed_moved : (vars : List Var) (q : Phys) → Delivers n q → (parts : Parts) → PAllows (served n (N.Keyed vars) q) b sets n parts → Moved n b sets (N.Keyed vars) q parts
  keyed_moved vars q delivers parts h =
      let hashed = λ (ps : Parts) (k : HasParts (D.Hash vars) ps). fit_serves (D.Hash vars) (N.Keyed vars) ps (among_from vars vars (live_itself vars)) k in
      hash_moved (N.Keyed vars) vars hashed q delivers parts (meets (parts_of q n) (N.Keyed vars) n) refl h

  pub exact_moved : (vars : List Var) (q : Phys) → Delivers n q → (parts : Parts) → PAllows (served n (N.Exactly vars) q) b sets n parts → Moved n b sets (N.Exactly vars) q parts
  exact_moved vars q delivers parts h =
      let hashed = λ (ps : Parts) (k : HasParts (D.Hash vars) ps). fit_serves (D.Hash vars) (N.Exactly vars) ps (vars_itself vars) k in
      hash_moved (N.Exactly vars) vars hashed q delivers parts (meets (parts_of q n) (N.Exactly vars) n) refl h

  begins : (parts : Parts) → get_or parts 0 [] ≡ first_part parts
  begins [] = refl
  begins (rows ∷ parts) = refl

  one_copy : (parts : Parts) → length parts ≡ 1 → all_rows parts ≡ first_part parts
  unfolding Serves
  one_copy parts e = one_rows parts (one_serves N.One parts e)

  copies : (q : Phys) (input parts : Parts) → PAllows q b sets n input → IsBroadcast n input parts → Copied n b sets q parts
  unfolding HasParts Serves
  copies q input parts h o = record {
    input = input;
    allowed = h;
    same = subst (IsPermutation (all_rows input)) (begins parts) (interleaves_permutation input (get_or parts 0 []) (o.each 0 some));
    serves = broadcast_parts n input parts o;
  }

  pub all_copied : (p : Plan) (parts : Parts) → PAllows (served n N.All (chosen n p)) b sets n parts → Copied n b sets (chosen n p) parts
  all_copied p parts h = go (meets (parts_of (chosen n p) n) N.All n) refl h
    where
      go : (t : Bool) → meets (parts_of (chosen n p) n) N.All n ≡ t → PAllows (if t then chosen n p else Q.Broadcast (chosen n p)) b sets n parts → Copied n b sets (chosen n p) parts
      go true e h =
          let one : length parts ≡ 1 = many (chosen n p) b sets n parts h ∙ is_one n (all_alone n p e) in
          record { input = parts; allowed = h; same = subst (IsPermutation (all_rows parts)) (one_copy parts one) (IsPermutation-refl _); serves = one_serves N.All parts one }
      go false e h = let o = pfrom_Broadcast (chosen n p) b sets n parts h in copies (chosen n p) o.0 parts o.1 o.2

  -- ---- one input that stands for its plan

  module _ (p : Plan) (side : Side n b sets p) where
    pub ordered_parts : ordered p ≡ true → (parts : Parts) → PAllows (chosen n p) b sets n parts → IsOne parts
    unfolding HasParts
    ordered_parts o parts h = subst (λ (d : Partitioning). HasParts d parts) (ordered_one n p o) (side.delivers b sets parts h).0

    -- however the rows are put together, the plan allows them
    pub gathered : (parts : Parts) (zs : List Env) → PAllows (chosen n p) b sets n parts → Interleaves parts zs → Allows p b sets [] [] zs
    gathered parts zs h i =
        by_cases (ordered p)
        (λ o.
        let one = ordered_parts o parts h in
        subst (Allows p b sets [] []) (one_rows parts one ∙ sym (one_interleaved parts zs one i)) (side.stood parts h))
        (λ f. free p f b sets [] [] (all_rows parts) zs (side.stood parts h) (interleaves_permutation parts zs i))

    -- the same where they stand in the first part
    pub gathered_first : (parts input : Parts) (zs : List Env) → PAllows (chosen n p) b sets n input → Interleaves input zs → parts ≡ in_first n zs → IsOne parts × Allows p b sets [] [] (all_rows parts)
    unfolding HasParts
    gathered_first parts input zs h i e = (first_parts n zs parts e, subst (Allows p b sets [] []) (sym (ap all_rows e ∙ rows_first n zs some)) (gathered input zs h i))

    pub served_one : (parts : Parts) → PAllows (served n N.One (chosen n p)) b sets n parts → IsOne parts × Allows p b sets [] [] (all_rows parts)
    served_one parts h = go (meets (parts_of (chosen n p) n) N.One n) refl h
      where
        go : (t : Bool) → meets (parts_of (chosen n p) n) N.One n ≡ t → PAllows (if t then chosen n p else Q.Gather (chosen n p)) b sets n parts → IsOne parts × Allows p b sets [] [] (all_rows parts)
        go true e h = (met_one (chosen n p) side.delivers e parts h, side.stood parts h)
        go false e h = let o = pfrom_Gather (chosen n p) b sets n parts h in gathered_first parts o.0 o.2.0 o.1 o.2.1 o.2.2
