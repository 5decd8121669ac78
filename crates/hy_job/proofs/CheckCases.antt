-- The worked case of a check that fails.
use Rattle.std.proofs.Common.{◌≡◌, inl, inr, ℕ, false, nat_eq, List, [], ◌∷◌, ◌++◌, map, refl, ap, sym, subst, ◌∙◌, arith}
use Rattle.std.specs.List.{Contains}
use Rattle.std.proofs.lemmas.Grind.{flat_map-append}
use Rattle.std.proofs.lemmas.List.Elements.{All-from_recursion, Contains-append_left}
use Rattle.hy_job.specs.declared.job.Kind.TheVariants as K
use Rattle.hy_job.specs.Columns.{Row, holds}
use Rattle.hy_job.specs.Sound.{edges_from}
use Rattle.hy_job.specs.Runs.{Taken, TaskPart, Receives, rows_at, with_more, sent_by}
use Rattle.hy_job.specs.Cases.{act, is_text}
use Rattle.hy_rest.specs.Words.{Open, Rows, Close, put_rows, signal_rows, is_fail}
use Rattle.hy_job.specs.Settled.{Take, IsFailed, has_closed, taken_rows, given}
use Rattle.hy_job.specs.SettledCases.{take_first, checking, check_record, CheckFails}
use Rattle.hy_job.proofs.Members.{by_cases, in_here, in_none, in_cases}

pub rows_append : (xs ys : List Taken) → rows_at 0 (xs ++ ys) ≡ rows_at 0 xs ++ rows_at 0 ys
rows_append [] ys = refl
rows_append (x ∷ xs) ys = by_cases (nat_eq x.input 0)
    (λ t. rw t (ap (λ rows. x.row ∷ rows) (rows_append xs ys)))
    (λ f. rw f (rows_append xs ys))

module _ (set name text : List ℕ) (row : Row) where
  pub told : IsFailed (checking set name text) (act 1 (K.Check name (is_text text)) 2) 0 (check_record name row) → holds (is_text text) row ≡ false
  told h =
      let f = h.cause.1 in
      let early = Contains-append_left (rows_at 0 (taken_rows h.before)) (rows_at 0 (taken_rows h.behind)) f.0 f.1 in
      let whole : rows_at 0 (taken_rows h.before) ++ rows_at 0 (taken_rows h.behind) ≡ row ∷ [] =
      sym (rows_append (taken_rows h.before) (taken_rows h.behind))
      ∙ (ap (rows_at 0) (sym (flat_map-append (λ (t : Take). map (λ (r : Row). record { input = t.input; sender = t.sender; row = r }) (signal_rows t.signal)) h.before h.behind))
      ∙ ap (λ ts. rows_at 0 (taken_rows ts)) (sym h.took)) in
      elim (in_cases row f.0 [] (subst (λ xs. Contains xs f.0) whole early)) [
        | inl e ↦ ap (holds (is_text text)) e ∙ f.2
        | inr none ↦ absurd (in_none f.0 none)
      ]

  -- whatever else it takes, it could have put its rows
  pub failed_part : TaskPart (checking set name text) (act 1 (K.Check name (is_text text)) 2) 0 (has_closed (take_first Open ∷ take_first (Rows (row ∷ [])) ∷ []))
      (given (check_record name row) (take_first Open ∷ take_first (Rows (row ∷ [])) ∷ [])) (record { to = λ to. put_rows (Open ∷ []); on = [] })
  failed_part more may =
      let took = with_more (given (check_record name row) (take_first Open ∷ take_first (Rows (row ∷ [])) ∷ [])) more in
      let rows = rows_at 0 took.rows in (
        record { to = λ r. sent r rows; on = [] },
        record { to = λ r lt. (sent r rows, refl); on = ([], refl) },
        record {
          received = λ input. rows;
          made = rows;
          receives = λ input lt. of_zero took.rows input (omega (arith, lt));
          makes = refl;
          sends = λ r lt. refl;
          hands_on = refl;
        },
      )
    where
      sent : ℕ → List Row → List Row
      sent r rows = sent_by (edges_from (checking set name text) 1) 1 0 r rows

      of_zero : (rows : List Taken) (input : ℕ) → input ≡ 0 → Receives (checking set name text) 1 rows input (rows_at 0 rows)
      of_zero rows input z = subst (λ x. Receives (checking set name text) 1 rows x (rows_at 0 rows)) (sym z) refl

  pub fails : holds (is_text text) row ≡ false → IsFailed (checking set name text) (act 1 (K.Check name (is_text text)) 2) 0 (check_record name row)
  fails e = record {
    before = take_first Open ∷ take_first (Rows (row ∷ [])) ∷ [];
    behind = take_first Close ∷ [];
    took = refl;
    takes_no_fail = All-from_recursion (λ t. is_fail t.signal ≡ false) (take_first Open ∷ take_first (Rows (row ∷ [])) ∷ []) (refl, (refl, tt));
    put = λ r. Open ∷ [];
    ends = λ to is. refl;
    part = failed_part;
    cause = (refl, (row, in_here row [], e));
  }

pub check_fails : CheckFails
check_fails set name text row = (told set name text row, fails set name text row)
