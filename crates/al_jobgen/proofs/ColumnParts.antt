-- Rows that go to parts, and that come of several lists.
use Rattle.std.proofs.Common.{◌≡◌, inl, inr, ℕ, List, [], ◌∷◌, map, filter, ap}
use Rattle.std.specs.Prelude.{nat_eq}
use Rattle.std.proofs.lemmas.List.Elements.{recursion_from_All}
use Rattle.al_plan.specs.declared.expr.Var.{Var}
use Rattle.al_plan.specs.Eval.{bind}
use Rattle.al_phys.specs.Parts.{part_of}
use Rattle.al_phys.specs.Parts as P
use Rattle.hy_job.specs.Columns.{Row}
use Rattle.hy_job.specs.Columns as C
use Rattle.al_jobgen.specs.Columns.{columns_of}
use Rattle.al_jobgen.specs.Agree.{IsAsWide, AreAsWide}
use Rattle.al_jobgen.proofs.ColumnLists.{filter-through, each_map}
use Rattle.al_jobgen.proofs.ColumnRows.{hashes}

pub hashed_rows : (vars : List Var) (rows : List Row) → AreAsWide vars rows → (n j : ℕ) (vs : List Var)
    → map (bind vars) (filter (λ row. nat_eq (C.part_of n (columns_of vars vs) row) j) rows) ≡ filter (λ r. nat_eq (part_of n vs r) j) (map (bind vars) rows)
hashed_rows vars rows w n j vs =
    filter-through (IsAsWide vars) (bind vars) (λ row. nat_eq (C.part_of n (columns_of vars vs) row) j) (λ r. nat_eq (part_of n vs r) j) (λ r v. ap (λ k. nat_eq k j) (hashes vars r v n vs)) rows (recursion_from_All (IsAsWide vars) rows w)

-- ---- several lists

module _ {X Y : Type 0} (f : X → Y) where
  takes : (xss : List (List X)) (x : X) (rest : List (List X)) → C.Takes xss x rest → P.Takes (map (map f) xss) (f x) (map (map f) rest)
  unfolding C.Takes P.Takes
  takes [] x rest h = h
  takes (xs ∷ xss) x rest h = elim h [
    | inl a ↦ inl (map f a.0, ap (map f) a.1, ap (map (map f)) a.2)
    | inr b ↦ inr (map (map f) b.0, takes xss x b.0 b.1, ap (map (map f)) b.2)
  ]

  interleaved : (xss : List (List X)) (xs : List X) → C.Interleaves xss xs → P.Interleaves (map (map f) xss) (map f xs)
  unfolding C.Interleaves P.Interleaves
  interleaved xss [] h = each_map (λ xs. xs ≡ []) (λ ys. ys ≡ []) (map f) (λ xs e. ap (map f) e) xss h
  interleaved xss (x ∷ xs) h = (map (map f) h.0, takes xss x h.0 h.1, interleaved h.0 xs h.2)

pub interleaves : (vars : List Var) (lists : List (List Row)) (rows : List Row) → C.Interleaves lists rows → P.Interleaves (map (map (bind vars)) lists) (map (bind vars) rows)
interleaves vars lists rows h = interleaved (bind vars) lists rows h
