-- What was taken and put in two runs of steps, put together.
use Rattle.std.proofs.Common.{◌≡◌, inl, inr, ℕ, nat_eq, Bool, true, false, ◌||◌, ◌&&◌, List, [], ◌∷◌, ◌++◌, map, refl, ap, sym, subst, ◌∙◌, append_assoc}
use Rattle.std.specs.List.{Contains}
use Rattle.std.specs.List.Sorted.{IsPermutation}
use Rattle.std.proofs.Math.Path.{fun_ext}
use Rattle.std.proofs.lemmas.Grind.{flat_map-append}
use Rattle.std.proofs.lemmas.List.Elements.{All-append, All-nil, Contains-append_left, Contains-append_right, Contains-append_cases}
use Rattle.std.proofs.lemmas.List.Folds.{list_any-append}
use Rattle.std.proofs.lemmas.List.Sorted.{All-permutation, Contains-permutation, IsPermutation-sym, IsPermutation-trans, IsPermutation-append_left, IsPermutation-append_right}
use Rattle.hy_rest.specs.Words.{Signal, is_close, put_rows, signal_rows}
use Rattle.hy_job.specs.declared.job.Kind.{Kind}
use Rattle.hy_job.specs.declared.job.Kind.TheVariants as K
use Rattle.hy_job.specs.declared.job.Activity.{Activity}
use Rattle.hy_job.specs.declared.job.Job.{Job}
use Rattle.hy_job.specs.Columns.{Row, holds}
use Rattle.hy_job.specs.Runs.{Put, Taken, rows_at}
use Rattle.hy_job.specs.Settled.{Check, Completed, HasCause, IsFaulty, IsPassed, NoMemory, Outcome, Stopped, Store, Take, has_closed, taken_rows}
use Rattle.hy_job.proofs.CheckCases.{rows_append}
use Rattle.hy_course.specs.Task.{IsCheck, IsFrontOf, MayComeTo, put_behind}

-- ---- what was taken and put

pub taken_append : (xs ys : List Take) → taken_rows (xs ++ ys) ≡ taken_rows xs ++ taken_rows ys
taken_append xs ys = flat_map-append (λ (t : Take). map (λ (row : Row). record { input = t.input; sender = t.sender; row = row }) (signal_rows t.signal)) xs ys

pub taken_behind : (took took' : List Take) (more : List Taken) → taken_rows took ++ (taken_rows took' ++ more) ≡ taken_rows (took ++ took') ++ more
taken_behind took took' more = sym (ap (λ xs. xs ++ more) (taken_append took took') ∙ append_assoc (taken_rows took) (taken_rows took') more)

pub first_rows : (xs ys : List Take) → rows_at 0 (taken_rows (xs ++ ys)) ≡ rows_at 0 (taken_rows xs) ++ rows_at 0 (taken_rows ys)
first_rows xs ys = ap (rows_at 0) (taken_append xs ys) ∙ rows_append (taken_rows xs) (taken_rows ys)

pub put_append : (xs ys : List (Signal Row)) → put_rows (xs ++ ys) ≡ put_rows xs ++ put_rows ys
put_append xs ys = flat_map-append signal_rows xs ys

abbrev puts_to : (ℕ → List Row) → List Row → Put
puts_to to on = record { to = to; on = on }

abbrev in_front : (ℕ → List (Signal Row)) → (ℕ → List Row) → ℕ → List Row
in_front put to r = put_rows (put r) ++ to r

rows_twice : (put put' : ℕ → List (Signal Row)) (to : ℕ → List Row) (r : ℕ) → in_front put (in_front put' to) r ≡ in_front (λ r. put r ++ put' r) to r
rows_twice put put' to r = sym (ap (λ xs. xs ++ to r) (put_append (put r) (put' r)) ∙ append_assoc (put_rows (put r)) (put_rows (put' r)) (to r))

pub put_twice : (put put' : ℕ → List (Signal Row)) (p : Put) → put_behind put (put_behind put' p) ≡ put_behind (λ r. put r ++ put' r) p
put_twice put put' p =
    let same : in_front put (in_front put' p.to) ≡ in_front (λ r. put r ++ put' r) p.to = fun_ext (rows_twice put put' p.to) in
    ap (λ to. puts_to to p.on) same

pub front_behind : (job : Job) (put kept : ℕ → List (Signal Row)) (whole : Put) → IsFrontOf job kept whole → IsFrontOf job (λ r. put r ++ kept r) (put_behind put whole)
front_behind job put kept whole f r lt =
    let q = f r lt in
    (q.0, ap (λ xs. put_rows (put r) ++ xs) q.1 ∙ (sym (append_assoc (put_rows (put r)) (put_rows (kept r)) q.0) ∙ ap (λ xs. xs ++ q.0) (sym (put_append (put r) (kept r)))))

-- ---- who has closed

or_behind : (x y z : Bool) → ((x || y) || z) ≡ (y || (x || z))
or_behind true true z = refl
or_behind true false z = refl
or_behind false y z = refl

pub closed_then : (took took' : List Take) (first second : ℕ → ℕ → Bool) → ((input sender : ℕ) → second input sender ≡ (has_closed took input sender || first input sender))
    → (input sender : ℕ) → (has_closed (took ++ took') input sender || first input sender) ≡ (has_closed took' input sender || second input sender)
closed_then took took' first second h input sender =
    ap (λ b. b || first input sender) (list_any-append (λ (t : Take). is_close t.signal && (nat_eq t.input input && nat_eq t.sender sender)) took took')
    ∙ (or_behind (has_closed took input sender) (has_closed took' input sender) (first input sender) ∙ ap (λ b. has_closed took' input sender || b) (sym (h input sender)))

-- what may come goes by who has closed
pub comes_by : (job : Job) (a : Activity) (j : ℕ) (closed closed' : ℕ → ℕ → Bool) → ((input sender : ℕ) → closed' input sender ≡ closed input sender)
    → (more : List Taken) → MayComeTo job a j closed more → MayComeTo job a j closed' more
comes_by job a j closed closed' e [] h = tt
comes_by job a j closed closed' e (x ∷ xs) h =
    (record { of = h.0.of; fits = h.0.fits; values = h.0.values; to_come = e x.input x.sender ∙ h.0.to_come }, comes_by job a j closed closed' e xs h.1)

-- ---- checks

pub passed_append : (kind : Kind) (xs ys : List Row) → IsPassed kind xs → IsPassed kind ys → IsPassed kind (xs ++ ys)
passed_append (K.Check name c) xs ys h g = All-append (λ row. holds c row ≡ true) xs ys h g
passed_append _ xs ys h g = tt

pub passed_none : (kind : Kind) → IsPassed kind []
passed_none (K.Check name c) = All-nil (λ row. holds c row ≡ true)
passed_none _ = tt

-- a check that has nothing left to test passed all
pub passed_all : (kind : Kind) (rows : List Row) → (IsCheck kind → (worked : List Row) × IsPermutation rows worked × IsPassed kind worked) → IsPassed kind rows
passed_all (K.Check name c) rows h = let q = h tt in All-permutation (λ row. holds c row ≡ true) q.0 rows (IsPermutation-sym rows q.0 q.1) q.2
passed_all _ rows h = tt

faulty_from : (kind : Kind) (name : List ℕ) (xs ys : List Row) → (IsCheck kind → (row : Row) → Contains xs row → Contains ys row) → IsFaulty kind name xs → IsFaulty kind name ys
faulty_from (K.Check own c) name xs ys more h = let f = h.1 in (h.0, (f.0, more tt f.0 f.1, f.2))
faulty_from _ name xs ys more h = absurd h

-- a cause among some rows is one among more
pub cause_from : (kind : Kind) (outcome : Outcome) (xs ys : List Row) → (IsCheck kind → (row : Row) → Contains xs row → Contains ys row) → HasCause kind outcome xs → HasCause kind outcome ys
cause_from kind Completed xs ys more h = tt
cause_from kind Stopped xs ys more h = tt
cause_from kind (Check name) xs ys more h = faulty_from kind name xs ys more h
cause_from kind Store xs ys more h = tt
cause_from kind NoMemory xs ys more h = tt

-- ---- rows to test

module _ (u1 u2 r1 r2 rows w1 : List Row) (is : rows ≡ r1 ++ r2) (first : IsPermutation (u1 ++ r1) (w1 ++ u2)) where
  pub tested_then : (u3 w2 : List Row) → IsPermutation (u2 ++ r2) (w2 ++ u3) → IsPermutation (u1 ++ rows) ((w1 ++ w2) ++ u3)
  tested_then u3 w2 second =
      let early : IsPermutation ((u1 ++ r1) ++ r2) ((w1 ++ u2) ++ r2) = IsPermutation-append_left r2 (u1 ++ r1) (w1 ++ u2) first in
      let late : IsPermutation (w1 ++ (u2 ++ r2)) (w1 ++ (w2 ++ u3)) = IsPermutation-append_right w1 (u2 ++ r2) (w2 ++ u3) second in
      let whole = IsPermutation-trans ((u1 ++ r1) ++ r2) ((w1 ++ u2) ++ r2) (w1 ++ (w2 ++ u3)) early (subst (λ xs. IsPermutation xs (w1 ++ (w2 ++ u3))) (sym (append_assoc w1 u2 r2)) late) in
      let from = subst (λ xs. IsPermutation xs (w1 ++ (w2 ++ u3))) (append_assoc u1 r1 r2 ∙ ap (λ xs. u1 ++ xs) (sym is)) whole in
      subst (IsPermutation (u1 ++ rows)) (sym (append_assoc w1 w2 u3)) from

  pub among_first : (row : Row) → Contains (u2 ++ r2) row → Contains (u1 ++ rows) row
  among_first row m = subst (λ xs. Contains xs row) (append_assoc u1 r1 r2 ∙ ap (λ xs. u1 ++ xs) (sym is)) (elim (Contains-append_cases u2 r2 row m) [
    | inl k ↦ Contains-append_left (u1 ++ r1) r2 row (Contains-permutation (w1 ++ u2) (u1 ++ r1) row (IsPermutation-sym (u1 ++ r1) (w1 ++ u2) first) (Contains-append_right w1 u2 row k))
    | inr k ↦ Contains-append_right (u1 ++ r1) r2 row k
  ])
