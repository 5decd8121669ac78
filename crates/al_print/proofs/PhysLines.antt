-- The lines of a physical plan: its operator's own, and those of its inputs.
use Rattle.std.proofs.Common.{◌≡◌, ℕ, List, [], ◌∷◌, ◌++◌, codes, refl, ap, sym, subst, ◌∙◌, Result, Ok, Err, OnOk, append_assoc}
use Rattle.al_phys.specs.declared.phys.Phys.{Phys, map-Phys, roll-Phys, out-Phys, ind-Phys, out-roll-Phys, rec-roll-Phys}
use Rattle.al_phys.specs.declared.phys.Phys.TheOpen as L
use Rattle.al_phys.specs.declared.property.Partitioning.{Partitioning}
use Rattle.al_phys.specs.declared.property.Local.{Local}
use Rattle.al_phys.specs.Properties.{parts_of, order_of}
use Rattle.al_phys.proofs.LiveLaws.{map_itself}
use Rattle.al_plan.specs.Grammar.{Marked}
use Rattle.al_print.specs.Physical.{Printed, printed_step, printed, phys_lines, operator_line, own_words, lines_below, deeper, spaced, partitioning_words, local_words}

natural : (n : ℕ) (X : Type 0) (up : X → Phys) (fn : Phys → Printed) (x : L.Phys-F X) → printed_step n X up (λ p. fn (up p)) x ≡ printed_step n Phys (λ p. p) fn (map-Phys X Phys up x)
natural n X up fn (L.Scan set vars) = refl
natural n X up fn L.One = refl
natural n X up fn (L.Assign made p) = refl
natural n X up fn (L.Select c p) = refl
natural n X up fn (L.Project vars p) = refl
natural n X up fn (L.Unnest v its p) = refl
natural n X up fn (L.Subplan inner p) = refl
natural n X up fn (L.Check own c p) = refl
natural n X up fn (L.Join form c l r) = refl
natural n X up fn (L.HashGroup keys inner p) = refl
natural n X up fn (L.PreGroup keys inner p) = refl
natural n X up fn (L.HashDistinct p) = refl
natural n X up fn (L.AggPart made p) = refl
natural n X up fn (L.AggFinal made p) = refl
natural n X up fn (L.Union made ls rs l r) = refl
natural n X up fn (L.Sort keys p) = refl
natural n X up fn (L.Limit m k p) = refl
natural n X up fn (L.LocalLimit m p) = refl
natural n X up fn (L.Result vars p) = refl
natural n X up fn (L.HashExchange vars p) = refl
natural n X up fn (L.Broadcast p) = refl
natural n X up fn (L.Gather p) = refl
natural n X up fn (L.Merge keys p) = refl

-- the lines of a layer
abbrev LinesOf : ℕ → Phys → L.Phys-F Phys → List ℕ → List ℕ
LinesOf n p x margin = operator_line margin (own_words x) (parts_of p n) (order_of p) ++ lines_below (λ s. phys_lines n s (deeper margin)) x

rolled : (n : ℕ) (x : L.Phys-F Phys) (margin : List ℕ) → phys_lines n (roll-Phys x) margin ≡ LinesOf n (roll-Phys x) x margin
unfolding printed
rolled n x margin =
    ap (λ (p : Printed). p.behind margin) (rec-roll-Phys Printed (printed_step n) (natural n) x)
    ∙ ap (λ (y : L.Phys-F Phys). LinesOf n (roll-Phys y) x margin) (map_itself x)

abbrev HasLines : ℕ → Phys → Type 0
HasLines n p = (margin : List ℕ) → phys_lines n p margin ≡ LinesOf n p (out-Phys p) margin

pub lines_of : (n : ℕ) (p : Phys) → HasLines n p
lines_of n = ind-Phys (HasLines n) (λ x y e. subst (λ (z : L.Phys-F Phys). HasLines n (roll-Phys z)) e (layer (map-Phys _ Phys (λ s. s.0) y)))
  where
    layer : (z : L.Phys-F Phys) → HasLines n (roll-Phys z)
    layer z margin = rolled n z margin ∙ ap (λ (y : L.Phys-F Phys). LinesOf n (roll-Phys z) y margin) (sym (out-roll-Phys z))

onto : (t u v x y : List ℕ) → u ≡ t ++ x → v ≡ u ++ y → v ≡ t ++ (x ++ y)
onto t u v x y h k = k ∙ ap (λ ws. ws ++ y) h ∙ append_assoc t x y

-- pieces of an operator's line, put one after the other
pub operator_of : {T E : Type 0} (r : Result T E) (margin : List ℕ) (own : List Marked) (parts : Partitioning) (local : Local) (t0 t1 t2 t3 t4 t5 t6 t7 : List ℕ)
    → t1 ≡ t0 ++ margin → t2 ≡ t1 ++ spaced own → t3 ≡ t2 ++ codes " | " → t4 ≡ t3 ++ spaced (partitioning_words parts) → t5 ≡ t4 ++ codes " | " → t6 ≡ t5 ++ spaced (local_words local)
    → OnOk r (t7 ≡ t6 ++ codes "\n") → OnOk r (t7 ≡ t0 ++ operator_line margin own parts local)
operator_of (Ok x) margin own parts local t0 t1 t2 t3 t4 t5 t6 t7 h1 h2 h3 h4 h5 h6 h7 =
    onto t0 t1 t7 _ _ h1 (onto t1 t2 t7 _ _ h2 (onto t2 t3 t7 _ _ h3 (onto t3 t4 t7 _ _ h4 (onto t4 t5 t7 _ _ h5 (onto t5 t6 t7 _ _ h6 h7)))))
operator_of (Err e) margin own parts local t0 t1 t2 t3 t4 t5 t6 t7 h1 h2 h3 h4 h5 h6 h7 = h7

-- an operator's line, and behind it the lines of its inputs
pub then_inputs : {T E : Type 0} (r : Result T E) (n : ℕ) (p : Phys) (margin inner : List ℕ) (before line all : List ℕ) → inner ≡ deeper margin
    → line ≡ before ++ operator_line margin (own_words (out-Phys p)) (parts_of p n) (order_of p)
    → OnOk r (all ≡ line ++ lines_below (λ s. phys_lines n s inner) (out-Phys p)) → OnOk r (all ≡ before ++ phys_lines n p margin)
then_inputs (Ok x) n p margin inner before line all e own rest =
    onto before line all _ _ own (rest ∙ ap (λ (m : List ℕ). line ++ lines_below (λ s. phys_lines n s m) (out-Phys p)) e) ∙ ap (λ (ws : List ℕ). before ++ ws) (sym (lines_of n p margin))
then_inputs (Err x) n p margin inner before line all e own rest = rest
