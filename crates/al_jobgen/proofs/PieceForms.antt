-- The piece of a job that each physical plan is, by its inputs and its own activities.
use Rattle.std.proofs.Common.{◌≡◌, ◌<◌, List, [], ◌∷◌, ◌++◌, length, refl, ap, sym, subst, ◌∙◌, arith, length-append}
use Rattle.al_phys.specs.declared.phys.Phys.{Phys, map-Phys, roll-Phys, out-Phys, out-roll-Phys, rec-roll-Phys, ind-Phys}
use Rattle.al_phys.specs.declared.phys.Phys.TheOpen as L
use Rattle.al_phys.specs.Operators.{operators, below}
use Rattle.al_phys.proofs.OperatorLaws.{operators-roll}
use Rattle.al_phys.proofs.LiveLaws.{map_itself}
use Rattle.hy_job.specs.declared.job.Wire.{Wire}
use Rattle.al_jobgen.specs.JobOf.{Piece, own_steps, wire_step, piece_by, piece_step, piece_of}
use Rattle.al_jobgen.specs.Shapes.{Form, Source, Over, Both, form, form_piece}
use Rattle.al_jobgen.specs.Added.{own_of}

natural : (X : Type 0) (up : X → Phys) (fn : Phys → Piece) (x : L.Phys-F X) → piece_step X up (λ p. fn (up p)) x ≡ piece_step Phys (λ p. p) fn (map-Phys X Phys up x)
natural X up fn (L.Scan set vars) = refl
natural X up fn L.One = refl
natural X up fn (L.Assign made p) = refl
natural X up fn (L.Select c p) = refl
natural X up fn (L.Project vars p) = refl
natural X up fn (L.Unnest v its p) = refl
natural X up fn (L.Subplan inner p) = refl
natural X up fn (L.Check own c p) = refl
natural X up fn (L.Join how c l r) = refl
natural X up fn (L.HashGroup keys inner p) = refl
natural X up fn (L.PreGroup keys inner p) = refl
natural X up fn (L.HashDistinct p) = refl
natural X up fn (L.AggPart made p) = refl
natural X up fn (L.AggFinal made p) = refl
natural X up fn (L.Union made ls rs l r) = refl
natural X up fn (L.Sort keys p) = refl
natural X up fn (L.Limit m k p) = refl
natural X up fn (L.LocalLimit m p) = refl
natural X up fn (L.Result vars p) = refl
natural X up fn (L.HashExchange vars p) = refl
natural X up fn (L.Broadcast p) = refl
natural X up fn (L.Gather p) = refl
natural X up fn (L.Merge keys p) = refl

-- by what an operator stands over
formed : (p : Phys) (wire : Wire) (x : L.Phys-F Phys) → piece_by Phys piece_of (own_steps p x) wire x ≡ form_piece (form x) (own_steps p x) wire
formed p wire (L.Scan set vars) = refl
formed p wire L.One = refl
formed p wire (L.Assign made q) = refl
formed p wire (L.Select c q) = refl
formed p wire (L.Project vars q) = refl
formed p wire (L.Unnest v its q) = refl
formed p wire (L.Subplan inner q) = refl
formed p wire (L.Check own c q) = refl
formed p wire (L.Join how c l r) = refl
formed p wire (L.HashGroup keys inner q) = refl
formed p wire (L.PreGroup keys inner q) = refl
formed p wire (L.HashDistinct q) = refl
formed p wire (L.AggPart made q) = refl
formed p wire (L.AggFinal made q) = refl
formed p wire (L.Union made ls rs l r) = refl
formed p wire (L.Sort keys q) = refl
formed p wire (L.Limit m k q) = refl
formed p wire (L.LocalLimit m q) = refl
formed p wire (L.Result vars q) = refl
formed p wire (L.HashExchange vars q) = refl
formed p wire (L.Broadcast q) = refl
formed p wire (L.Gather q) = refl
formed p wire (L.Merge keys q) = refl

pub piece-roll : (x : L.Phys-F Phys) → piece_of (roll-Phys x) ≡ piece_by Phys piece_of (own_steps (roll-Phys x) x) (wire_step x) x
unfolding piece_of
piece-roll x = rec-roll-Phys Piece piece_step natural x ∙ ap (λ (z : L.Phys-F Phys). piece_by Phys piece_of (own_steps (roll-Phys z) z) (wire_step z) x) (map_itself x)

pub rolled : (p : Phys) → roll-Phys (out-Phys p) ≡ p
rolled = ind-Phys (λ p. roll-Phys (out-Phys p) ≡ p) (λ x y e. ap roll-Phys (out-roll-Phys x))

abbrev IsFormed : Phys → Type 1
IsFormed p = piece_of p ≡ form_piece (form (out-Phys p)) (own_of p) (wire_step (out-Phys p))

-- what a plan is: what it stands over, with its own activities and its wire
pub piece_form : (p : Phys) → piece_of p ≡ form_piece (form (out-Phys p)) (own_of p) (wire_step (out-Phys p))
piece_form p = subst IsFormed (rolled p) (piece-roll x ∙ formed (roll-Phys x) (wire_step x) x ∙ ap (λ (z : L.Phys-F Phys). form_piece (form z) (own_steps (roll-Phys x) z) (wire_step z)) (sym (out-roll-Phys x))) where
  x : L.Phys-F Phys
  x = out-Phys p

-- the operators below one
abbrev pub form_below : Form → List Phys
form_below Source = []
form_below (Over p) = operators p
form_below (Both l r) = operators l ++ operators r

below_form : (x : L.Phys-F Phys) → below (map-Phys Phys (List Phys) operators x) ≡ form_below (form x)
below_form (L.Scan set vars) = refl
below_form L.One = refl
below_form (L.Assign made p) = refl
below_form (L.Select c p) = refl
below_form (L.Project vars p) = refl
below_form (L.Unnest v its p) = refl
below_form (L.Subplan inner p) = refl
below_form (L.Check own c p) = refl
below_form (L.Join how c l r) = refl
below_form (L.HashGroup keys inner p) = refl
below_form (L.PreGroup keys inner p) = refl
below_form (L.HashDistinct p) = refl
below_form (L.AggPart made p) = refl
below_form (L.AggFinal made p) = refl
below_form (L.Union made ls rs l r) = refl
below_form (L.Sort keys p) = refl
below_form (L.Limit m k p) = refl
below_form (L.LocalLimit m p) = refl
below_form (L.Result vars p) = refl
below_form (L.HashExchange vars p) = refl
below_form (L.Broadcast p) = refl
below_form (L.Gather p) = refl
below_form (L.Merge keys p) = refl

pub operators_form : (p : Phys) → operators p ≡ p ∷ form_below (form (out-Phys p))
operators_form p =
    let x = out-Phys p in
    ap operators (sym (rolled p)) ∙ operators-roll x ∙ ap (λ (z : L.Phys-F Phys). roll-Phys z ∷ below (map-Phys Phys (List Phys) operators x)) (map_itself x)
    ∙ ap (λ (q : Phys). q ∷ below (map-Phys Phys (List Phys) operators x)) (rolled p) ∙ ap (λ (ps : List Phys). p ∷ ps) (below_form x)

-- an input has fewer operators
pub fewer_over : (p q : Phys) → Over q ≡ form (out-Phys p) → length (operators q) < length (operators p)
fewer_over p q e = omega (arith, ap (λ (ps : List Phys). length ps) (operators_form p ∙ ap (λ (f : Form). p ∷ form_below f) (sym e)))

pub fewer_left : (p l r : Phys) → Both l r ≡ form (out-Phys p) → length (operators l) < length (operators p)
fewer_left p l r e = omega (arith, length-append (operators l) (operators r), ap (λ (ps : List Phys). length ps) (operators_form p ∙ ap (λ (f : Form). p ∷ form_below f) (sym e)))

pub fewer_right : (p l r : Phys) → Both l r ≡ form (out-Phys p) → length (operators r) < length (operators p)
fewer_right p l r e = omega (arith, length-append (operators l) (operators r), ap (λ (ps : List Phys). length ps) (operators_form p ∙ ap (λ (f : Form). p ∷ form_below f) (sym e)))
