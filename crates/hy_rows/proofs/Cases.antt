-- The worked cases of drivers that owe rows in order.
use Rattle.std.proofs.Common.{◌≡◌, true, false, List, [], ◌∷◌, pos, refl, sym, ap, ◌∙◌, arith}
use Rattle.std.specs.Prelude.{FitsSigned}
use Rattle.std.specs.Int.{w64}
use Rattle.std.proofs.lemmas.Int.{ints}
use Rattle.hy_store.specs.Fields.{fields_of}
use Rattle.hy_driver.specs.Cases.{int_row, narrow}
use Rattle.hy_driver.specs.Rows.{Row}
use Rattle.hy_driver.specs.Forms.{one_ended}
use Rattle.hy_driver.specs.Steps.{Gives}
use Rattle.hy_driver.specs.declared.phase.Phase.TheVariants.{Working}
use Rattle.hy_driver.proofs.Forms.{all_ended}
use Rattle.hy_rows.specs.Cases.{EndsOwingNone, GivesTheFirst, nothing, owing}
use Rattle.hy_rows.proofs.RowSteps.{Lives, row_ends, row_gives}

lives : Lives nothing
lives took = ([], refl)

pub gives_the_first : GivesTheFirst
gives_the_first out = (told, λ e. (row_gives narrow (one_ended false) nothing lives (int_row 1) (int_row 2 ∷ []) out Working refl (fits, tt) refl (sym e)).2)
  where
    fits : FitsSigned w64 (pos 1)
    fits = omega (arith, ints)

    same : (row other : Row) (more more' : List Row) → row ∷ more ≡ other ∷ more' → row ≡ other
    same row other more more' e = cc

    told : Gives (owing false (int_row 1 ∷ int_row 2 ∷ []) Working) out (owing false (int_row 2 ∷ []) Working) → out ≡ fields_of (int_row 1)
    told g =
        let put = ((g.4.rest tt).back [] (int_row 2 ∷ []) (tt, record { rest = []; output = refl; is = refl })).1 in
        sym g.3 ∙ ap fields_of (same g.0 (int_row 1) (int_row 2 ∷ []) (int_row 2 ∷ put.rest) put.is)

pub ends_owing_none : EndsOwingNone
ends_owing_none out = (
  row_ends narrow (one_ended true) nothing lives out Working (refl, λ rest h. h) all_ended (λ e. cc),
  λ h. let put = (h.6 tt).finished.some.1 in none put.rest put.is,
)
  where
    none : (more : List Row) → [] ≡ int_row 1 ∷ more → ⊥
    none more e = cc
