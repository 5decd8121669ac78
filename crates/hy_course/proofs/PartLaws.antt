-- What a task is made of, put together.
use Rattle.std.proofs.Common.{◌≡◌, ◌<◌, ◌≤◌, inl, inr, ℕ, zero, suc, nat_eq, Bool, true, false, List, [], ◌∷◌, ◌++◌, map, length, refl, ap, sym, subst, ◌∙◌, append_assoc, append-nil, arith}
use Rattle.std.specs.List.{All, AllByRecursion}
use Rattle.std.proofs.lemmas.Bool.{cases_lt}
use Rattle.std.proofs.lemmas.List.Elements.{All-nil, recursion_from_All}
use Rattle.hy_rest.specs.Words.{put_rows}
use Rattle.hy_job.specs.declared.job.Activity.{Activity}
use Rattle.hy_job.specs.declared.job.Job.{Job}
use Rattle.hy_job.specs.Columns.{AreValues, Row}
use Rattle.hy_job.specs.Drivers.{received_of}
use Rattle.hy_job.specs.Runs.{Put, Taken}
use Rattle.hy_job.specs.Settled.{taken_rows}
use Rattle.hy_job.specs.Sound.{inputs, width_in}
use Rattle.hy_job.proofs.Boxes.{is_nat}
use Rattle.hy_job.proofs.Drivers.{new_drivers_give}
use Rattle.hy_job.proofs.Members.{by_cases, nat_same}
use Rattle.hy_job.proofs.RunRows.{all_append, all_map}
use Rattle.hy_course.specs.Task.{MayComeTo, TaskOf, put_behind}
use Rattle.hy_course.specs.Parts.{AreAlive, DonePartsRest, Fed, LivingPartsPut, NewPartsRun, PartsAdvance, PartsBreak, PartsContinue, PartsOf, RestOf, WaitingIsFront}

-- ---- rows that are fed

pub received_append : (xs ys : List Fed) (input : ℕ) → received_of (xs ++ ys) input ≡ received_of xs input ++ received_of ys input
received_append [] ys input = refl
received_append (x ∷ xs) ys input = by_cases (nat_eq x.0 input) (λ t. rw t (ap (λ rows. x.1 ∷ rows) (received_append xs ys input))) (λ f. rw f (received_append xs ys input))

abbrev pub at_input : ℕ → List Row → List Fed
at_input k rows = map (λ row. (k, row)) rows

pub received_mine : (k : ℕ) (rows : List Row) → received_of (at_input k rows) k ≡ rows
received_mine k [] = refl
received_mine k (row ∷ rows) = rw (nat_same k) (ap (λ xs. row ∷ xs) (received_mine k rows))

received_other : (k input : ℕ) (rows : List Row) → nat_eq k input ≡ false → received_of (at_input k rows) input ≡ []
received_other k input [] e = refl
received_other k input (row ∷ rows) e = rw e (received_other k input rows e)

-- these rows at each of the first inputs
abbrev all_fed : ℕ → (ℕ → List Row) → List Fed
all_fed zero rows = []
all_fed (suc n) rows = all_fed n rows ++ at_input n (rows n)

apart : (a b : ℕ) → a < b → nat_eq a b ≡ false
apart a b lt = by_cases (nat_eq a b) (λ t. let e = is_nat a b t in absurd (omega (arith, lt, e))) (λ f. f)

beyond : (a b : ℕ) → b < a → nat_eq a b ≡ false
beyond a b lt = by_cases (nat_eq a b) (λ t. let e = is_nat a b t in absurd (omega (arith, lt, e))) (λ f. f)

fed_none : (n : ℕ) (rows : ℕ → List Row) (input : ℕ) → n ≤ input → received_of (all_fed n rows) input ≡ []
fed_none zero rows input le = refl
fed_none (suc n) rows input le =
    received_append (all_fed n rows) (at_input n (rows n)) input
    ∙ (ap (λ xs. xs ++ received_of (at_input n (rows n)) input) (fed_none n rows input (omega (arith, le))) ∙ received_other n input (rows n) (apart n input (omega (arith, le))))

fed_each : (n : ℕ) (rows : ℕ → List Row) (input : ℕ) → input < n → received_of (all_fed n rows) input ≡ rows input
fed_each zero rows input lt = absurd (omega (arith, lt))
fed_each (suc n) rows input lt =
    let by : received_of (all_fed n rows) input ++ received_of (at_input n (rows n)) input ≡ rows input = elim (cases_lt input n) [
      | inl less ↦
          ap (λ xs. xs ++ received_of (at_input n (rows n)) input) (fed_each n rows input less)
          ∙ (ap (λ xs. rows input ++ xs) (received_other n input (rows n) (beyond n input less)) ∙ append-nil (rows input))
      | inr more ↦
          (let same : input ≡ n = omega (arith, lt, more) in
          ap (λ xs. xs ++ received_of (at_input n (rows n)) input) (fed_none n rows input more)
          ∙ subst (λ k. received_of (at_input n (rows n)) k ≡ rows k) (sym same) (received_mine n (rows n)))
    ] in
    received_append (all_fed n rows) (at_input n (rows n)) input ∙ by

fed_all : (P : Fed → Type 0) (n : ℕ) (rows : ℕ → List Row) → ((k : ℕ) → AllByRecursion (λ row. P (k, row)) (rows k)) → AllByRecursion P (all_fed n rows)
fed_all P zero rows h = tt
fed_all P (suc n) rows h = all_append P (all_fed n rows) (at_input n (rows n)) (fed_all P n rows h) (all_map (λ (row : Row). P (n, row)) P (λ (row : Row). (n, row)) (λ row p. p) (rows n) (h n))

-- ---- a step, the beginning and the end

pub parts_continue : (old new : PartsOf) → PartsContinue old new
parts_continue old new job a took fed gave written sent step more put rest =
    let packed : written ++ (new.packed ++ rest.made) ≡ old.packed ++ (gave ++ rest.made) =
    sym (append_assoc written new.packed rest.made) ∙ (ap (λ xs. xs ++ rest.made) (sym step.packed) ∙ append_assoc old.packed gave rest.made) in
    record {
      fed = fed ++ rest.fed;
      made = gave ++ rest.made;
      brings = λ input lt. subst (old.brings input (taken_rows took ++ more)) (sym (received_append fed rest.fed input)) ((step.brings input lt).back more (received_of rest.fed input) (rest.brings input lt));
      works = step.works.back rest.fed rest.made rest.works;
      offers = λ r lt. subst (λ xs. old.offers r xs (put_rows (sent r) ++ put.to r)) packed ((step.offers r lt).back (new.packed ++ rest.made) (put.to r) (rest.offers r lt));
      keeps = subst (λ xs. old.keeps xs put.on) packed (step.keeps.back (new.packed ++ rest.made) put.on rest.keeps);
    }

pub new_parts_run : (p : PartsOf) → NewPartsRun p
new_parts_run p job a j scanned handed begins took put rest = record {
  received = received_of rest.fed;
  made = rest.made;
  receives = λ input lt. begins.brings input lt took (received_of rest.fed input) (rest.brings input lt);
  makes = (new_drivers_give a.kind a.arity job.partitions j scanned handed (received_of rest.fed) rest.made).0 (begins.works rest.fed rest.made rest.works);
  sends = λ r lt. begins.offers r lt rest.made (put.to r) (subst (λ xs. p.offers r (xs ++ rest.made) (put.to r)) begins.packed (rest.offers r lt));
  hands_on = begins.keeps rest.made put.on (subst (λ xs. p.keeps (xs ++ rest.made) put.on) begins.packed rest.keeps);
}

pub done_parts_rest : (p : PartsOf) → DonePartsRest p
done_parts_rest p job a hands_on ends = record {
  fed = [];
  made = ends.last;
  brings = λ input lt. ends.brings input lt;
  works = ends.works;
  offers = λ r lt. subst (λ xs. p.offers r (xs ++ ends.last) []) (sym ends.packed) (ends.offers r lt);
  keeps = subst (λ xs. p.keeps (xs ++ ends.last) hands_on) (sym ends.packed) ends.keeps;
}

pub waiting_is_front : (p : PartsOf) → WaitingIsFront p
waiting_is_front p job a kept front took put rest r lt = front r lt (p.packed ++ rest.made) (put.to r) (rest.offers r lt)

-- ---- something to put

module _ (job : Job) (a : Activity) (j : ℕ) (closed : ℕ → ℕ → Bool) (ended : ℕ → Bool) (p : PartsOf) (alive : AreAlive job a j closed ended p) where
  module _ (more : List Taken) (may : MayComeTo job a j closed more) where
    some_rows : (input : ℕ) → (rows : List Row) × (input < inputs a.kind → p.brings input more rows) × All (λ row. (length row ≡ width_in job a.number input) × AreValues row) rows × (ended input ≡ true → rows ≡ [])
    some_rows input = elim (cases_lt input (inputs a.kind)) [
      | inl lt ↦ (let q = alive.brings input lt more may in (q.0, λ _. q.1, q.2, q.3))
      | inr le ↦ ([], λ lt. absurd (omega (arith, lt, le)), All-nil (λ (row : Row). (length row ≡ width_in job a.number input) × AreValues row), λ _. refl)
    ]

    abbrev rows_for : ℕ → List Row
    rows_for input = (some_rows input).0

    abbrev fed : List Fed
    fed = all_fed (inputs a.kind) rows_for

    abbrev MayFeed : Fed → Type 0
    MayFeed x = (ended x.0 ≡ false) × (length x.1 ≡ width_in job a.number x.0) × AreValues x.1

    -- none for an input that has ended
    may_feed : (k : ℕ) → AllByRecursion (λ row. MayFeed (k, row)) (rows_for k)
    may_feed k = by_cases (ended k)
        (λ t. subst (AllByRecursion (λ row. MayFeed (k, row))) (sym ((some_rows k).3 t)) tt)
        (λ f. each f (rows_for k) (recursion_from_All (λ (row : Row). (length row ≡ width_in job a.number k) × AreValues row) (rows_for k) (some_rows k).2))
      where
        each : ended k ≡ false → (rows : List Row) → AllByRecursion (λ row. (length row ≡ width_in job a.number k) × AreValues row) rows → AllByRecursion (λ row. MayFeed (k, row)) rows
        each f [] h = tt
        each f (row ∷ rows) h = ((f, h.0.0, h.0.1), each f rows h.1)

    some_made : (made : List Row) × p.works fed made
    some_made = alive.works fed (fed_all MayFeed (inputs a.kind) rows_for may_feed)

    some_put : (given : List Row) (r : ℕ) → (put : List Row) × (r < job.partitions → p.offers r given put)
    some_put given r = elim (cases_lt r job.partitions) [
      | inl lt ↦ (let q = alive.offers r lt given in (q.0, λ _. q.1))
      | inr le ↦ ([], λ lt. absurd (omega (arith, lt, le)))
    ]

    some_rest : (put : Put) × RestOf job a p more put
    some_rest =
        let made = some_made.0 in
        let on = alive.keeps (p.packed ++ made) in (
          record { to = λ r. (some_put (p.packed ++ made) r).0; on = on.0 },
          record {
            fed = fed;
            made = made;
            brings = λ input lt. subst (p.brings input more) (sym (fed_each (inputs a.kind) rows_for input lt)) ((some_rows input).1 lt);
            works = some_made.1;
            offers = λ r lt. (some_put (p.packed ++ made) r).1 lt;
            keeps = on.1;
          },
        )

pub living_parts_put : (p : PartsOf) → LivingPartsPut p
living_parts_put p job a j closed ended alive more may = some_rest job a j closed ended p alive more may

-- ---- the task that they make up

pub parts_advance : (old : TaskOf) (p : PartsOf) (new : TaskOf) (q : PartsOf) → PartsAdvance old p new q
parts_advance old p new q job a j ended took fed gave written sent from to passes step alive = record {
  sound = passes.sound;
  rest = λ s more put h. (from (taken_rows took ++ more) (put_behind sent put)).1 (parts_continue p q job a took fed gave written sent (step s) more put ((to more put).0 h));
  alive = λ s more may. let some = some_rest job a j new.closed ended q (alive s) more may in (some.0, (to more some.0).1 some.1);
  tested = passes.tested;
  takes_no_fail = passes.takes_no_fail;
  puts_no_fail = passes.puts_no_fail;
}

pub parts_break : (old : TaskOf) (p : PartsOf) (new : TaskOf) → PartsBreak old p new
parts_break old p new job a j ended outcome kept from alive front ends cause = record {
  kept = kept;
  ends = ends;
  part = λ s more may.
      let some = some_rest job a j old.closed ended p (alive s) more may in
      (some.0, waiting_is_front p job a kept (front s) more some.0 some.1, (from more some.0).1 some.1);
  cause = cause;
}
