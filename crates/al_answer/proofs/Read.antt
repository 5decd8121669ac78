-- What a physical plan answers, and what faults in it, is so in the plan as it was read.
use Rattle.std.proofs.Common.{◌≡◌, ℕ, zero, suc, Bool, true, false, List, [], ◌∷◌, drop, length, refl, sym, subst, arith, inl, ◌<◌}
use Rattle.std.specs.List.{All, AllByRecursion, Contains}
use Rattle.std.proofs.lemmas.List.Elements.{All-from_recursion, recursion_from_All, All-nil, All-weaker, All-contains}
use Rattle.al_plan.specs.Eval.{Env}
use Rattle.al_plan.specs.Allows.{Sets, Allows, ordered}
use Rattle.al_plan.specs.Refines.{Scan, Fills, scans}
use Rattle.al_phys.specs.declared.property.Partitioning.TheVariants as D
use Rattle.al_phys.specs.declared.phys.Phys.{Phys}
use Rattle.al_phys.specs.Operators.{operators}
use Rattle.al_phys.specs.Parts.{Parts, HasParts, first_part, Takes, Interleaves}
use Rattle.al_phys.specs.Stands.{AreRowsOf}
use Rattle.al_phys.proofs.DeliveredLaws.{delivered_holds}
use Rattle.hy_job.proofs.Members.{in_here}
use Rattle.al_jobgen.proofs.PieceForms.{operators_form}
use Rattle.al_answer.proofs.Results.{result_parts}
use Rattle.al_answer.specs.Answer.{AnswersAreAllowed, FaultsAreFaults}

-- rows that stand in the first part alone are an interleaving of the parts
first_comes : (parts : Parts) → AllByRecursion (λ rows. rows ≡ []) (drop 1 parts) → Interleaves parts (first_part parts)
unfolding Interleaves Takes
first_comes [] h = λ k d lt. absurd (omega (arith, lt))
first_comes (rows ∷ parts) h = front rows
  where
    front : (rs : List Env) → Interleaves (rs ∷ parts) rs
    front [] = All-from_recursion (λ xs. xs ≡ []) ([] ∷ parts) (refl, h)
    front (r ∷ rs) = (rs ∷ parts, inl (rs, refl, refl), front rs)

unspread : (parts : Parts) → HasParts D.Unpartitioned parts → AllByRecursion (λ rows. rows ≡ []) (drop 1 parts)
unfolding HasParts
unspread parts h = recursion_from_All (λ rows. rows ≡ []) (drop 1 parts) h

fills_less : (more fewer : List Scan) (sets : Sets) → All (Contains more) fewer → Fills more sets → Fills fewer sets
fills_less more fewer sets within h = All-weaker (Contains more) (λ (s : Scan). All (λ r. length r ≡ length s.1) (sets s.0)) (λ s c. All-contains (λ (t : Scan). All (λ r. length r ≡ length t.1) (sets t.0)) more s h c) fewer within

-- the first part of parts that stand for a plan
first_stands : (b : Bool) (P : List Env → Type 0) (n : ℕ) (parts : Parts) → 0 < n → AllByRecursion (λ rows. rows ≡ []) (drop 1 parts) → AreRowsOf b P n parts → P (first_part parts)
first_stands true P zero parts some empty h = absurd (omega (arith, some))
first_stands true P (suc n) parts some empty h = subst (λ (ps : Parts). P (first_part ps)) (sym h.1) h.2
first_stands false P n parts some empty h = h (first_part parts) (first_comes parts empty)

pub answers_allowed : AnswersAreAllowed
answers_allowed read best ph n vars sets rows some placed is refines stands fills a =
    let here : Contains (operators ph) ph = subst (λ (ps : List Phys). Contains ps ph) (sym (operators_form ph)) (in_here ph _) in
    let delivered = delivered_holds ph ph n placed here false sets a.parts a.allowed in
    let empty = unspread a.parts (subst (λ d. HasParts d a.parts) (result_parts ph vars n is) delivered.0) in
    let own = first_stands (ordered best) (Allows best false sets [] []) n a.parts some empty (stands.allowed false sets a.parts (fills_less (scans read) (scans best) sets refines.scanned fills) a.allowed) in
    subst (Allows read false sets [] []) (sym a.first) (refines.allowed false sets [] [] (first_part a.parts) fills (All-nil _) own)

pub faults_are_faults : FaultsAreFaults
faults_are_faults read best ph n sets name refines stands fills f =
    refines.faults sets [] [] name fills (All-nil _) (stands.faults sets name (fills_less (scans read) (scans best) sets refines.scanned fills) f)
