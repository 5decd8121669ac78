-- Which statuses are due.
use Rattle.std.proofs.Common.{◌≡◌, ◌<◌, ◌⊎◌, inl, inr, ⊎_elim, ℕ, Bool, true, false, true≢false, Option, None, Some, List, [], ◌∷◌, codes, length, refl, ap, sym, subst, ◌∙◌, arith}
use Rattle.std.specs.Str.Parse.{IsNumeral, digits_value}
use Rattle.al_io.specs.Outside.{Bytes, Files}
use Rattle.al_csv.specs.Generator.{generated}
use Rattle.al_words.specs.declared.command.Command.{Command}
use Rattle.al_words.specs.declared.command.Command.TheVariants as C
use Rattle.al_words.specs.Words.{Item, word, AreItems, none, ended, positional, attached, spaced, IsCommand, Asks, Options, words_of, options_of}
use Rattle.al_plan.specs.declared.file.Refused.{Refused}
use Rattle.al_plan.specs.declared.file.RefusedKind.TheVariants as refused
use Rattle.al_read.specs.Reads.{refusal}
use Rattle.al_query.specs.declared.status.DataRefused.{DataRefused}
use Rattle.al_query.specs.declared.status.Status.{Status}
use Rattle.al_query.specs.declared.status.Status.TheVariants as St
use Rattle.al_query.specs.Served.{IsPlan, IsPlanRefused, absent, unread, unaccepted, is_served, IsAsked, IsText}
use Rattle.al_query_cases.specs.DueCases.{no_files, check_words, run_words, gen_words, AbsentPlan, NoWords, RunIsUnserved, GenNeedsNothing, CutsBefore, MayEndSo}

-- ---- commands

-- words have one command
abbrev pub IsOne : Type 0
IsOne = (words : List Bytes) (c d : Command) → IsCommand words c → IsCommand words d → c ≡ d

numeral : IsNumeral 10 (codes "7")
numeral = let low : 7 < 10 = omega arith in (omega arith, (low, tt))

zero_numeral : IsNumeral 10 (codes "0")
zero_numeral = let low : 0 < 10 = omega arith in (omega arith, (low, tt))

abbrev plan : Bytes
plan = codes "p"

check_command : IsCommand check_words (C.Check (codes "p"))
check_command = record {
  items = word (codes "check") ∷ word plan ∷ [];
  are_items = positional (inr (λ e. absurd (omega (arith, e)))) (positional (inr (λ e. absurd (omega (arith, e)))) none);
  once = tt;
  asks = (refl, refl);
}

run_command : IsCommand run_words (C.Run (codes "p") (record { partitions = 1; frame_size = 32768; memory = 32 }) 2)
run_command = record {
  items = word (codes "run") ∷ word plan ∷ [];
  are_items = positional (inr (λ e. absurd (omega (arith, e)))) (positional (inr (λ e. absurd (omega (arith, e)))) none);
  once = tt;
  asks = (refl, refl, (refl, refl, refl), refl);
}

gen_command : IsCommand gen_words (C.Gen 7 0)
gen_command = record {
  items = word (codes "gen") ∷ word (codes "7") ∷ word (codes "0") ∷ [];
  are_items = positional (inr (λ e. absurd (omega (arith, e)))) (positional (inr (λ e. absurd (omega (arith, e)))) (positional (inr (λ e. absurd (omega (arith, e)))) none));
  once = tt;
  asks = (codes "7", codes "0", refl, refl, (numeral, omega arith, refl, omega arith, omega arith), (zero_numeral, omega arith, refl, omega arith, omega arith));
}

-- ---- an absent plan

none_there : (bytes : Bytes) → None ≡ Some bytes → ⊥
none_there bytes e = cc

asked : IsOne → (status : Status) (c : Command) → IsCommand check_words c → IsAsked c no_files status → IsAsked (C.Check (codes "p")) no_files status
asked one status c is h = subst (λ d. IsAsked d no_files status) (one check_words c (C.Check plan) is check_command) h

of_none : (r : Refused) → IsPlanRefused None r → r ≡ refusal refused.Absent 0
of_none r (absent e is) = is
of_none r (unread bytes e bad) = absurd (none_there bytes e)
of_none r (unaccepted bytes e f reads bad) = absurd (none_there bytes e)

place : Refused → ℕ
place r = r.place

pub absent_plan : IsOne → AbsentPlan
unfolding place
absent_plan one = record {
  absent = (C.Check plan, check_command, (plan, refl, absent refl refl));
  other_place = λ h. let a = asked one (St.PlanRefused (refusal refused.Absent 1)) h.0 h.1 h.2 in absurd (omega (arith, ap place (of_none (refusal refused.Absent 1) a.2)));
  done = λ h. let a = asked one St.Done h.0 h.1 h.2 in none_there a.1.1.0 a.1.1.1;
  usage = λ h. true≢false (h (C.Check plan) check_command);
  sink = λ h. let a = asked one St.SinkFault h.0 h.1 h.2 in none_there a.1.1.0 a.1.1.1;
  no_data = λ d h. let a = asked one (St.DataRefused d) h.0 h.1 h.2 in none_there a.0 a.1;
  no_check = λ name h. let a = asked one (St.CheckFailed name) h.0 h.1 h.2 in none_there a.0 a.1;
}

-- ---- no words

nothing_asked : (o : Options) (c : Command) → Asks [] o c → ⊥
nothing_asked o (C.Check p) h = absurd (omega (arith, ap length h.0))
nothing_asked o (C.Explain p n) h = absurd (omega (arith, ap length h.0))
nothing_asked o (C.Plain p) h = absurd (omega (arith, ap length h.0))
nothing_asked o (C.Step p s parts) h = absurd (omega (arith, ap length h.0))
nothing_asked o (C.Run p s n) h = absurd (omega (arith, ap length h.0))
nothing_asked o (C.Gen s r) h = absurd (omega (arith, ap length h.2))
nothing_asked o (C.Drill s r p settings) h = absurd (omega (arith, ap length h.2))
nothing_asked o (C.Frames p d n) h = absurd (omega (arith, ap length h.0))

-- no words are no items
none_asked : {words : List Bytes} {items : List Item} → AreItems words items → words ≡ [] → (c : Command) → Asks (words_of items) (options_of items) c → ⊥
none_asked none e c asks = nothing_asked (options_of []) c asks
none_asked ended e c asks = absurd (omega (arith, ap length e))
none_asked (positional is more) e c asks = absurd (omega (arith, ap length e))
none_asked (attached is more) e c asks = absurd (omega (arith, ap length e))
none_asked (spaced is plain more) e c asks = absurd (omega (arith, ap length e))

no_command : (c : Command) → IsCommand [] c → ⊥
no_command c h = none_asked h.are_items refl c h.asks

pub no_words : NoWords
no_words = record {
  usage = λ files c h. absurd (no_command c h);
  done = λ files h. no_command h.0 h.1;
  refused = λ files r h. no_command h.0 h.1;
}

-- ---- run, gen

run_asked : IsOne → (files : Files) (status : Status) (c : Command) → IsCommand run_words c → IsAsked c files status → IsAsked (C.Run (codes "p") (record { partitions = 1; frame_size = 32768; memory = 32 }) 2) files status
run_asked one files status c is h = subst (λ d. IsAsked d files status) (one run_words c _ is run_command) h

pub run_unserved : IsOne → RunIsUnserved
run_unserved one = record {
  usage = λ files c h. ap is_served (one run_words c _ h run_command);
  refused = λ files r h. let a = run_asked one files (St.PlanRefused r) h.0 h.1 h.2 in none_there a.0 a.1;
  done = λ files h. (run_asked one files St.Done h.0 h.1 h.2).1;
}

pub gen_needs_nothing : GenNeedsNothing
gen_needs_nothing = record {
  done = λ files. (C.Gen 7 0, gen_command, (generated 7 0, refl));
  usage = λ files h. true≢false (h (C.Gen 7 0) gen_command);
  good = λ files. tt;
  absent_is_bad = λ h. none_there h.1.0 h.1.1;
}

-- ---- what may come

is_usage : Status → Bool
is_usage St.Usage = true
is_usage _ = false

pub cuts_before : CutsBefore
unfolding is_usage
cuts_before = record {
  itself = inl refl;
  memory = inr refl;
  source = inr refl;
  sink = λ h. ⊎_elim (λ (e : St.SinkFault ≡ St.Usage). true≢false (sym (ap is_usage e))) (λ e. true≢false (sym e)) h;
  done = λ h. ⊎_elim (λ (e : St.Done ≡ St.Usage). true≢false (sym (ap is_usage e))) (λ e. true≢false (sym e)) h;
}

pub may_end_so : MayEndSo
may_end_so = record {
  plain_data = λ p d. (p, refl);
  check_data = λ p d h. none_there h.0 h.1;
  check_plan = λ p r. (p, refl);
  gen_plan = λ s n r h. none_there h.0 h.1;
  gen_source = λ s n h. none_there h.0 h.1;
  explain_check = λ p n name h. none_there h.0 h.1;
}
