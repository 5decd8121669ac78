-- Lists in which each item stands before each later one.
use Rattle.std.proofs.Common.{List, [], ◌∷◌, ◌++◌, arith}
use Rattle.std.specs.List.{AllByRecursion, AllPairs}
use Rattle.std.proofs.lemmas.List.Elements.{All-from_recursion}
use Rattle.std.proofs.lemmas.List.Kept.{AllPairs-cons}
use Rattle.al_phys.proofs.FlowLaws.{all_both}
use Rattle.al_jobgen.proofs.SoundGraph.{weaken}

abbrev pub Rise : {X : Type 0} → (X → X → Type 0) → List X → Type 0
Rise R [] = Unit {0}
Rise R (x ∷ xs) = AllByRecursion (R x) xs × Rise R xs

pub pairs_rise : {X : Type 0} (R : X → X → Type 0) (xs : List X) → Rise R xs → AllPairs R xs
pairs_rise R [] h = λ i j d lt within. absurd (omega (arith, within))
pairs_rise R (x ∷ xs) h = AllPairs-cons R x xs (All-from_recursion (R x) xs h.0) (pairs_rise R xs h.1)

-- one list behind another, where all of the first stand before all of the second
pub rise_both : {X : Type 0} (R : X → X → Type 0) (P Q : X → Type 0) → ((x y : X) → P x → Q y → R x y) → (xs ys : List X) → Rise R xs → AllByRecursion P xs → Rise R ys → AllByRecursion Q ys → Rise R (xs ++ ys)
rise_both R P Q before [] ys h p k q = k
rise_both R P Q before (x ∷ xs) ys h p k q = (all_both (R x) xs ys h.0 (weaken Q (R x) (λ y m. before x y p.0 m) ys q), rise_both R P Q before xs ys h.1 p.1 k q)
