-- What an activity makes of values are values: a law of its runs, carried over to what it makes.
use Rattle.std.proofs.Common.{◌≡◌, ◌<◌, ℕ, zero, suc, Bool, true, false, List, [], ◌∷◌, ◌++◌, map, refl, ap, sym, ◌∙◌, arith, append-nil}
use Rattle.std.specs.Prelude.{nat_eq, if◌then◌else◌}
use Rattle.std.specs.List.{AllByRecursion}
use Rattle.std.proofs.lemmas.Bool.{ne_eqb}
use Rattle.hy_job.specs.declared.job.Kind.{Kind}
use Rattle.hy_job.specs.declared.job.Wire.TheVariants as W
use Rattle.hy_job.specs.declared.job.Activity.{Activity}
use Rattle.hy_job.specs.declared.job.Edge.{Edge}
use Rattle.hy_job.specs.declared.job.Job.{Job}
use Rattle.hy_job.specs.Columns.{Row, AreValues}
use Rattle.hy_job.specs.Literals.{kind_literals}
use Rattle.hy_job.specs.Sound.{inputs, is_second, edges_from}
use Rattle.hy_job.specs.Runs.{Taken, Took, Put, TaskRun, Output, Receives, rows_at, ComesOver, sent_by, kept_by}
use Rattle.hy_job.specs.RunLaws.{is_scan}
use Rattle.hy_job.proofs.Members.{no_bool}
use Rattle.hy_job.proofs.RunRows.{all_append}
use Rattle.hy_job.proofs.RunValues.{runs_have_values}

-- the rows of the first and of the second input
abbrev pub pick : List Row → List Row → ℕ → List Row
pick first second zero = first
pick first second (suc zero) = second
pick first second (suc (suc i)) = []

abbrev edge : ℕ → Edge
edge input = record { from = 0; to = 0; input = input; wire = W.OneToOne }

-- a job of one activity that takes both inputs of itself
abbrev alone : ℕ → Job
alone n = record { activities = []; edges = edge 0 ∷ edge 1 ∷ []; blocks = []; partitions = n }

-- neither of its edges feeds a further input
none_at : (n input : ℕ) (took : List Taken) (b c : Bool) → b ≡ false → c ≡ false → ComesOver (if b then edge 0 ∷ (if c then edge 1 ∷ [] else []) else if c then edge 1 ∷ [] else []) n input took []
none_at n input took true c e f = absurd (no_bool e)
none_at n input took false true e f = absurd (no_bool f)
none_at n input took false false e f = refl

abbrev tagged : ℕ → List Row → List Taken
tagged input rows = map (λ (row : Row). record { input = input; sender = 0; row = row }) rows

mine : (input : ℕ) (rows : List Row) (more : List Taken) → nat_eq input input ≡ true → rows_at input (tagged input rows ++ more) ≡ rows ++ rows_at input more
mine input [] more e = refl
mine input (row ∷ rows) more e = rw e (ap (λ (xs : List Row). row ∷ xs) (mine input rows more e))

others : (input own : ℕ) (rows : List Row) (more : List Taken) → nat_eq own input ≡ false → rows_at input (tagged own rows ++ more) ≡ rows_at input more
others input own [] more e = refl
others input own (row ∷ rows) more e = rw e (others input own rows more e)

tagged_valid : (input : ℕ) (rows : List Row) → AllByRecursion AreValues rows → AllByRecursion (λ (t : Taken). AreValues t.row) (tagged input rows)
tagged_valid input [] h = tt
tagged_valid input (row ∷ rows) h = (h.0, tagged_valid input rows h.1)

module _ (kind : Kind) (literals : AreValues (kind_literals kind)) (arity n j : ℕ) (first second scanned handed out : List Row) where
  abbrev own : Activity
  own = record { number = 0; kind = kind; arity = arity }

  abbrev took : Took
  took = record { rows = tagged 0 first ++ (tagged 1 second ++ []); scanned = scanned; handed = handed }

  abbrev put : Put
  put = record { to = λ r. sent_by (edges_from (alone n) 0) n j r out; on = kept_by (edges_from (alone n) 0) out }

  comes : (input : ℕ) → input < inputs kind → Receives (alone n) 0 took.rows input (pick first second input)
  comes zero lt = sym (mine 0 first (tagged 1 second ++ []) refl ∙ ap (λ (xs : List Row). first ++ xs) (others 0 1 second [] refl) ∙ append-nil first)
  comes (suc zero) lt = sym (others 1 0 first (tagged 1 second ++ []) refl ∙ mine 1 second [] refl ∙ append-nil second)
  comes (suc (suc i)) lt = none_at n (suc (suc i)) took.rows (nat_eq 0 (suc (suc i))) (nat_eq 1 (suc (suc i))) (ne_eqb 0 (suc (suc i)) (λ e. omega (arith, e))) (ne_eqb 1 (suc (suc i)) (λ e. omega (arith, e)))

  run : Output kind arity n j (pick first second) scanned handed out → TaskRun (alone n) own j took put
  run makes = record {
    received = pick first second;
    made = out;
    receives = comes;
    makes = makes;
    sends = λ r lt. refl;
    hands_on = refl;
  }

  pub made_values : AllByRecursion AreValues first → AllByRecursion AreValues second → (is_scan kind ≡ true → AllByRecursion AreValues scanned) → (is_second kind ≡ true → AllByRecursion AreValues handed)
      → Output kind arity n j (pick first second) scanned handed out → AllByRecursion AreValues out
  unfolding run
  made_values a b s h makes =
      (runs_have_values (alone n) own literals j took put
      (record {
        rows = all_append (λ (t : Taken). AreValues t.row) (tagged 0 first) (tagged 1 second ++ []) (tagged_valid 0 first a) (all_append (λ (t : Taken). AreValues t.row) (tagged 1 second) [] (tagged_valid 1 second b) tt);
        scanned = s;
        handed = h;
      }) (run makes)).made_rows
