-- The worked cases.
use Rattle.std.proofs.Common.{pos, ◌≡◌, ◌<◌, ◌≤◌, ◌+◌, ◌^◌, ℕ, true, false, true≢false, List, [], ◌∷◌, length, Some, refl, sym, ap, subst, ◌∙◌, arith, append-nil, lit<, lit≤}
use Rattle.std.specs.Prelude.{FitsSigned}
use Rattle.std.specs.Int.{w64}
use Rattle.std.proofs.lemmas.Int.{ints}
use Rattle.std.proofs.lemmas.List.Elements.{All-from_recursion, All-contains}
use Rattle.std.specs.List.{Contains}
use Rattle.hy_frame.specs.Row.{IsRow}
use Rattle.hy_rest.proofs.Rest.{in_order_alive}
use Rattle.hy_store.specs.Fields.{fields_of}
use Rattle.hy_store.proofs.FieldLaws.{rows_are_values}
use Rattle.hy_driver.specs.Rows.{Row, values_of}
use Rattle.hy_driver.specs.Forms.{may_come, one_ended}
use Rattle.hy_driver.specs.Steps.{Gives, Pass, Steps}
use Rattle.hy_driver.specs.Pass.{pass_out, pass_state}
use Rattle.hy_driver.specs.Cases.{int_row, is_first_true, truth, narrow, storing, FieldsHaveValues, RowsThatCome, ChecksTest, ChecksFail, GivesWhatItHolds, EndsAtTheEnd, AskingTurns, FramesCount, RunsAreLeft, RunsAreMade, HandedInOrder, ExportsCount}
use Rattle.hy_driver.specs.declared.phase.Phase.TheVariants.{Working, Hungry, Ended}
use Rattle.hy_driver.proofs.Values.{values_again}
use Rattle.hy_driver.proofs.Forms.{all_ended}
use Rattle.hy_driver.proofs.Passing.{pass_gives, pass_asks, pass_ends}

-- ---- rows

pub fields_have_values : FieldsHaveValues
unfolding values_of
fields_have_values = refl

fits_one : FitsSigned w64 (pos 1)
fits_one = omega (arith, ints)

fits_two : FitsSigned w64 (pos 2)
fits_two = omega (arith, ints)

fits_not : FitsSigned w64 (pos (2 ^ 63)) → ⊥
fits_not f = omega (arith, ints, f)

no_two : ◌≡◌ {A = ℕ} 2 1 → ⊥
no_two e = omega (arith, e)

pub rows_that_come : RowsThatCome
rows_that_come = (
  ((refl, refl, (fits_one, tt)), ((refl, refl, (fits_two, tt)), tt)),
  λ h. true≢false h.1.0.0,
  λ h. no_two h.0.1,
  λ h. fits_not h.0.2.0,
)

-- ---- checks

pub checks_test : ChecksTest
checks_test name = (
  (truth true ∷ [], refl, (refl, tt)),
  λ h. true≢false (sym (subst (Pass (Some (name, is_first_true))) (sym (h.1 ∙ append-nil h.0)) h.2).1.0),
)

pub checks_fail : ChecksFail
checks_fail name other = (
  (refl, (truth false, (1, omega arith, refl), refl)),
  λ h. true≢false (sym (passes h.1.0 h.1.1) ∙ h.1.2),
  λ differ h. differ h.0,
  λ h. h,
)
  where
    passes : (row : Row) → Contains (truth true ∷ truth true ∷ []) row → is_first_true row ≡ true
    passes row among = All-contains (λ r. is_first_true r ≡ true) (truth true ∷ truth true ∷ []) row (All-from_recursion (λ r. is_first_true r ≡ true) (truth true ∷ truth true ∷ []) (refl, (refl, tt))) among

-- ---- turns

held : values_of (fields_of (int_row 2)) ≡ int_row 2
held = values_again (int_row 2) (fits_two, tt)

pub gives_what_it_holds : GivesWhatItHolds
gives_what_it_holds out = (told, λ e. (pass_gives narrow refl (fields_of (int_row 2)) out true false Working refl (λ h. refl) is_row (λ h. refl) (sym e)).2)
  where
    is_row : IsRow (length (fields_of (int_row 2))) (fields_of (int_row 2))
    is_row = (rows_are_values 1 (fields_of (int_row 2))).1 (int_row 2, refl, (fits_two, tt), refl)

    same : (row other : Row) → row ∷ [] ≡ other ∷ [] → row ≡ other
    same row other e = cc

    told : Gives (pass_state narrow (fields_of (int_row 2)) true false Working) out (pass_state narrow [] false false Working) → out ≡ fields_of (int_row 2)
    told g =
        let put = ((g.4.rest tt).back [] [] (tt, record { rest = []; output = refl; is = refl })).1 in
        let is = same g.0 (values_of (fields_of (int_row 2))) (put.is ∙ put.output) in
        sym g.3 ∙ ap fields_of (is ∙ held)

none_of : (row : Row) → [] ≡ row ∷ [] → ⊥
none_of row e = cc

pub ends_at_the_end : EndsAtTheEnd
ends_at_the_end out = (
  pass_ends narrow refl [] out false true Working refl refl (λ e. cc),
  λ h. let put = (h.6 tt).finished.some.1 in none_of (values_of (fields_of (int_row 2))) (put.is ∙ put.output),
  λ h. true≢false (sym (h.4 0)),
  λ h. true≢false (sym (all_ended h.4.0) ∙ h.4.1),
)

pub asking_turns : AskingTurns
asking_turns out = (
  pass_asks narrow refl [] out false false Hungry refl (λ e. cc) (λ e. absurd (no e)),
  λ h. let less : ◌<◌ 2 2 = h.2 (λ e. cc) in omega (arith, less),
)
  where
    no : Hungry ≡ Ended → ⊥
    no e = cc

-- ---- banks, runs and faults

pub frames_count : FramesCount
frames_count = (
  omega arith,
  λ h. omega (arith, h),
  record { out = refl; unit = refl; limit = refl; exported = refl; imported = refl },
  λ h. let e : ◌≡◌ {A = ℕ} 7 8 = h.out in omega (arith, e),
  λ h. let e : ◌≡◌ {A = ℕ} 2 0 = h.exported in omega (arith, e),
)

pub runs_are_left : RunsAreLeft
runs_are_left = (λ h. omega arith, λ h. let few = h (lit< tt) in omega (arith, few))

stays : (makes : ℕ) (live live' : List ℕ) (makes' : ℕ) → length live' + makes' ≡ length live + makes → Steps (storing live 0 makes) [] [] (storing live' 0 makes')
stays makes live live' makes' e = record {
  sound = λ h. h;
  rest = λ h. record { back = λ took put h. h };
  alive = λ h. in_order_alive (may_come (one_ended false) (λ input. 1)) pass_out [] [] (λ took may. (_, refl));
  makes = λ h took may. e;
  tested = ([], refl, tt);
  served = refl;
}

pub runs_are_made : RunsAreMade
runs_are_made = (
  stays 3 [] (1 ∷ 2 ∷ []) 1 refl,
  λ h. let e : ◌≡◌ {A = ℕ} 4 3 = h.makes tt [] tt in omega (arith, e),
  λ h. let e : ◌≡◌ {A = ℕ} 1 0 = h.served in omega (arith, e),
  lit≤ tt,
  λ h. let e : ◌≤◌ 1 0 = h in omega (arith, e),
)

-- ---- handing on

pub handed_in_order : HandedInOrder
handed_in_order = refl

pub exports_count : ExportsCount
exports_count = (refl, refl)
