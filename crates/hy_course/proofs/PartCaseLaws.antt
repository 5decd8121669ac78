-- What the steps of the parts of a select may do and may not.
use Rattle.std.proofs.Common.{◌≡◌, nat_eq, List, [], ◌∷◌, ◌++◌, filter, length, refl, ap, sym, subst, ◌∙◌, arith}
use Rattle.std.specs.List.{AllByRecursion}
use Rattle.std.proofs.lemmas.List.Elements.{All-from_recursion, filter-append}
use Rattle.hy_rest.specs.Rest.{Continues}
use Rattle.hy_rest.specs.Words.{Rows}
use Rattle.hy_job.specs.Columns.{AreValues, Row, holds, part_of}
use Rattle.hy_job.specs.Drivers.{received_of}
use Rattle.hy_job.specs.Runs.{Receives, Taken, rows_at}
use Rattle.hy_job.specs.Settled.{taken_rows}
use Rattle.hy_job.specs.Sound.{width_in}
use Rattle.hy_job.proofs.Boxes.{is_nat}
use Rattle.hy_job.proofs.Members.{by_cases, no_bool}
use Rattle.hy_job.proofs.Settling.{below_one}
use Rattle.hy_course.specs.Task.{MayComeTo}
use Rattle.hy_course.specs.Parts.{RestOf}
use Rattle.hy_course.specs.Cases.{SelectPuts, came, none_closed, passing, selects, sent_part}
use Rattle.hy_course.specs.PartCases.{FedRowIsPacked, LostPackedIsNone, PackedRowsGoOn, SelectIsMade, SelectPartsBegin, SelectPartsEnd, SelectPartsLive, WrongWayIsNone, select_parts}
use Rattle.hy_course.proofs.PartLaws.{at_input, received_mine}

no_row : (row : Row) → row ∷ [] ≡ [] → ⊥
no_row row e = cc

pub select_parts_begin : SelectPartsBegin
select_parts_begin set c = record {
  brings = λ input lt took rows h. below_one (λ k. Receives (passing set c) 1 took k rows) h input lt;
  works = λ fed made h. h;
  packed = refl;
  offers = λ r lt given put h. h;
  keeps = λ given on h. h;
}

pub select_parts_end : SelectPartsEnd
select_parts_end set c row = (
  record { last = []; brings = λ input lt. refl; works = refl; packed = refl; offers = λ r lt. refl; keeps = refl },
  λ d. no_row row d.packed,
  λ d. waits (sent_part 0 d.last) (d.offers 0 (omega arith)),
)
  where
    waits : (rows : List Row) → [] ≡ row ∷ rows → ⊥
    waits rows e = cc

pub select_parts_live : SelectPartsLive
select_parts_live set c packed waits = record {
  brings = λ input lt more may. (
    rows_at 0 more,
    refl,
    All-from_recursion _ (rows_at 0 more) (below_one (λ k. AllByRecursion (λ row. (length row ≡ width_in (passing set c) 1 k) × AreValues row) (rows_at 0 more)) (come more may) input lt),
    λ e. absurd (no_bool (sym e)),
  );
  works = λ took may. (filter (holds c) (received_of took 0), refl);
  offers = λ r lt given. (waits r ++ sent_part r given, refl);
  keeps = λ given. ([], refl);
}
  where
    come : (more : List Taken) → MayComeTo (passing set c) (selects c) 1 none_closed more → AllByRecursion (λ row. (length row ≡ width_in (passing set c) 1 0) × AreValues row) (rows_at 0 more)
    come [] h = tt
    come (x ∷ xs) h = by_cases (nat_eq x.input 0)
        (λ t. rw t ((subst (λ k. length x.row ≡ width_in (passing set c) 1 k) (is_nat x.input 0 t) h.0.fits, h.0.values), come xs h.1))
        (λ f. rw f (come xs h.1))

pub select_is_made : SelectIsMade
select_is_made set c waits took put = (told, made)
  where
    told : SelectPuts c waits took put → RestOf (passing set c) (selects c) (select_parts c [] waits) took put
    told h = record {
      fed = at_input 0 (rows_at 0 took);
      made = filter (holds c) (rows_at 0 took);
      brings = below_one (λ input. received_of (at_input 0 (rows_at 0 took)) input ≡ rows_at 0 took) (received_mine 0 (rows_at 0 took));
      works = ap (filter (holds c)) (sym (received_mine 0 (rows_at 0 took)));
      offers = h.to;
      keeps = h.on;
    }

    made : RestOf (passing set c) (selects c) (select_parts c [] waits) took put → SelectPuts c waits took put
    made h = record {
      to = λ r lt. h.offers r lt ∙ ap (λ rows. waits r ++ sent_part r rows) (h.works ∙ ap (filter (holds c)) (h.brings 0 (omega arith)));
      on = h.keeps;
    }

idle : {F : Type 0} (P : List F → List Row → Type 0) → Continues P [] [] P
idle P = record { back = λ took put h. h }

pub fed_row_is_packed : FedRowIsPacked
fed_row_is_packed set c row = record {
  brings = below_one (λ input. Continues (λ took rows. rows ≡ rows_at 0 took) (taken_rows (came (Rows (row ∷ [])) ∷ [])) (received_of ((0, row) ∷ []) input) (λ took rows. rows ≡ rows_at 0 took))
      (record { back = λ took put h. ap (λ rows. row ∷ rows) h });
  works = record { back = λ took put h. ap (λ rows. filter (holds c) (row ∷ []) ++ rows) h ∙ sym (filter-append (holds c) (row ∷ []) (received_of took 0)) };
  packed = refl;
  offers = λ r lt. idle (λ given put. put ≡ sent_part r given);
  keeps = idle (λ given on. on ≡ []);
}

pub lost_packed_is_none : LostPackedIsNone
lost_packed_is_none set c row h step = let kept : filter (holds c) (row ∷ []) ≡ row ∷ [] = rw h refl in no_row row (sym kept ∙ step.packed)

pub packed_rows_go_on : PackedRowsGoOn
packed_rows_go_on set c rows = record {
  brings = λ input lt. idle (λ took rows. rows ≡ rows_at 0 took);
  works = idle (λ fed made. made ≡ filter (holds c) (received_of fed 0));
  packed = refl;
  offers = λ r lt. record { back = λ given put h. h ∙ sym (filter-append (λ row. nat_eq (part_of 2 (0 ∷ []) row) r) rows given) };
  keeps = record { back = λ given on h. h };
}

pub wrong_way_is_none : WrongWayIsNone
wrong_way_is_none set c row other step = no_row row ((step.offers 0 (omega arith)).back [] (row ∷ []) refl ∙ other)
