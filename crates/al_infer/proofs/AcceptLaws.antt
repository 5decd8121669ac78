-- A file is accepted exactly where it has no first fault.
use Rattle.std.proofs.Common.{◌≡◌, ◌≤◌, ◌↔◌, ℕ, suc, Bool, true, false, not, List, [], ◌∷◌, ◌++◌, length, Option, Some, None, refl, sym, ap, ◌∙◌, arith}
use Rattle.std.specs.Prelude.{if◌then◌else◌, nat_eq, nat_le}
use Rattle.std.specs.Cmp.Lexicographic.{pointwise}
use Rattle.std.specs.List.{AllByRecursion, list_any}
use Rattle.std.proofs.lemmas.Bool.Decides.{nat_tests}
use Rattle.al_csv.specs.declared.decl.Decl.{Decl}
use Rattle.al_plan.specs.declared.file.PlanFile.{PlanFile}
use Rattle.al_plan.specs.declared.file.RefusedKind.{RefusedKind}
use Rattle.al_plan.specs.declared.file.RefusedKind.TheVariants as kind
use Rattle.al_plan.specs.Eval.{Bytes}
use Rattle.al_plan.specs.Accept.{Site, is_known, is_filled_in, is_in_place, is_even, is_new, reads_live, is_narrow, KeepsRules, broken, broken_dataset, KeepsDatasetRules, AreGoodDatasets, IsAccepted, file_sites, place_at, refused_at, or_else, dataset_refusal, site_refusal, accept_refusal}

some≢none : {A : Type 0} {x : A} → Some x ≡ None → ⊥
some≢none e = cc

-- ---- the first of several faults

first_none : {A : Type 0} (a b : Option A) → or_else a b ≡ None → a ≡ None
first_none None b e = refl
first_none (Some x) b e = absurd (some≢none e)

second_none : {A : Type 0} (a b : Option A) → or_else a b ≡ None → b ≡ None
second_none None b e = e
second_none (Some x) b e = absurd (some≢none e)

pub both_none : {A : Type 0} (a b : Option A) → a ≡ None → b ≡ None → or_else a b ≡ None
both_none a b e f = ap (λ o. or_else o b) e ∙ f

kind_none : (place : ℕ) (o : Option RefusedKind) → refused_at place o ≡ None → o ≡ None
kind_none place None e = refl
kind_none place (Some k) e = absurd (some≢none e)

-- ---- one rule before the others

holds : {A : Type 0} (test : Bool) (x : A) (others : Option A) → (if not test then Some x else others) ≡ None → test ≡ true
holds true x others e = refl
holds false x others e = absurd (some≢none e)

go_on : {A : Type 0} (test : Bool) (x : A) (others : Option A) → (if not test then Some x else others) ≡ None → others ≡ None
go_on true x others e = e
go_on false x others e = absurd (some≢none e)

passes : {A : Type 0} (test : Bool) (x : A) (others : Option A) → test ≡ true → others ≡ None → (if not test then Some x else others) ≡ None
passes test x others e f = ap (λ t. if not t then Some x else others) e ∙ f

-- ---- an operator

module _ (decls : List Decl) (s : Site) where
  pub keeps_if_none : broken decls s ≡ None → KeepsRules decls s
  keeps_if_none e0 =
      let e1 = go_on (is_known decls s.op) kind.UnknownDataset _ e0 in
      let e2 = go_on (is_filled_in decls s.op) kind.WrongArity _ e1 in
      let e3 = go_on (is_in_place s.inside s.op) kind.NotInNested _ e2 in
      let e4 = go_on (is_even s.op) kind.UnionArity _ e3 in
      let e5 = go_on (is_new s.before s.op) kind.TwiceMade _ e4 in
      let e6 = go_on (reads_live s.given s.op) kind.NotLive _ e5 in record {
        known = holds (is_known decls s.op) kind.UnknownDataset _ e0;
        filled = holds (is_filled_in decls s.op) kind.WrongArity _ e1;
        in_place = holds (is_in_place s.inside s.op) kind.NotInNested _ e2;
        even = holds (is_even s.op) kind.UnionArity _ e3;
        new = holds (is_new s.before s.op) kind.TwiceMade _ e4;
        live_reads = holds (reads_live s.given s.op) kind.NotLive _ e5;
        narrow = holds (is_narrow s.given s.op) kind.TooWide _ e6;
      }

  pub none_if_keeps : KeepsRules decls s → broken decls s ≡ None
  none_if_keeps k =
      passes _ _ _ k.known (passes _ _ _ k.filled (passes _ _ _ k.in_place (passes _ _ _ k.even (passes _ _ _ k.new (passes _ _ _ k.live_reads (passes _ _ _ k.narrow refl))))))

module _ (decls : List Decl) (places : List ℕ) where
  pub all_if_none : (ss : List Site) → site_refusal decls places ss ≡ None → AllByRecursion (KeepsRules decls) ss
  all_if_none [] e = tt
  all_if_none (s ∷ ss) e =
      let own = refused_at (place_at places s.number) (broken decls s) in
      (keeps_if_none decls s (kind_none (place_at places s.number) (broken decls s) (first_none own (site_refusal decls places ss) e)), all_if_none ss (second_none own (site_refusal decls places ss) e))

  pub none_if_all : (ss : List Site) → AllByRecursion (KeepsRules decls) ss → site_refusal decls places ss ≡ None
  none_if_all [] h = refl
  none_if_all (s ∷ ss) h = both_none _ _ (ap (refused_at (place_at places s.number)) (none_if_keeps decls s h.0)) (none_if_all ss h.1)

-- ---- a dataset

pub at_most : (n : ℕ) → nat_le n 64 ≡ true → n ≤ 64
at_most n e = grind (arith, nat_tests)

from_at_most : (n : ℕ) → n ≤ 64 → nat_le n 64 ≡ true
from_at_most n e = grind (arith, nat_tests)

was_not : {A : Type 0} (test : Bool) (x : A) (others : Option A) → (if test then Some x else others) ≡ None → test ≡ false
was_not true x others e = absurd (some≢none e)
was_not false x others e = refl

module _ (before : List Bytes) (d : Decl) where
  pub good_if_none : broken_dataset before d ≡ None → KeepsDatasetRules before d
  good_if_none e =
      let once = was_not (list_any (λ name. pointwise nat_eq name d.name) before) kind.TwiceMade _ e in
      let rest : (if not (nat_le (length d.columns) 64) then Some kind.TooWide else None) ≡ None =
      ap (λ t. if t then Some kind.TwiceMade else (if not (nat_le (length d.columns) 64) then Some kind.TooWide else None)) (sym once) ∙ e in
      record { once = once; narrow = at_most (length d.columns) (holds (nat_le (length d.columns) 64) kind.TooWide None rest) }

  pub none_if_good : KeepsDatasetRules before d → broken_dataset before d ≡ None
  none_if_good k =
      ap (λ t. if t then Some kind.TwiceMade else (if not (nat_le (length d.columns) 64) then Some kind.TooWide else None)) k.once
      ∙ passes (nat_le (length d.columns) 64) kind.TooWide None (from_at_most (length d.columns) k.narrow) refl

pub good_all_if_none : (before : List Bytes) (ds : List Decl) (places : List ℕ) (n : ℕ) → dataset_refusal before ds places n ≡ None → AreGoodDatasets before ds
good_all_if_none before [] places n e = tt
good_all_if_none before (d ∷ ds) places n e =
    let own = refused_at (place_at places n) (broken_dataset before d) in
    let others = dataset_refusal (before ++ d.name ∷ []) ds places (suc n) in
    (good_if_none before d (kind_none (place_at places n) (broken_dataset before d) (first_none own others e)), good_all_if_none (before ++ d.name ∷ []) ds places (suc n) (second_none own others e))

pub none_if_good_all : (before : List Bytes) (ds : List Decl) (places : List ℕ) (n : ℕ) → AreGoodDatasets before ds → dataset_refusal before ds places n ≡ None
none_if_good_all before [] places n h = refl
none_if_good_all before (d ∷ ds) places n h =
    both_none _ _ (ap (refused_at (place_at places n)) (none_if_good before d h.0)) (none_if_good_all (before ++ d.name ∷ []) ds places (suc n) h.1)

-- ---- the file

pub accepted_if_none : (f : PlanFile) → accept_refusal f ≡ None → IsAccepted f
accepted_if_none f e =
    let first = dataset_refusal [] f.datasets f.dataset_places 0 in
    let second = site_refusal f.datasets f.places (file_sites f) in
    record {
      datasets = good_all_if_none [] f.datasets f.dataset_places 0 (first_none first second e);
      operators = all_if_none f.datasets f.places (file_sites f) (second_none first second e);
    }

pub none_if_accepted : (f : PlanFile) → IsAccepted f → accept_refusal f ≡ None
none_if_accepted f h = both_none _ _ (none_if_good_all [] f.datasets f.dataset_places 0 h.datasets) (none_if_all f.datasets f.places (file_sites f) h.operators)

pub exact : (f : PlanFile) → IsAccepted f ↔ (accept_refusal f ≡ None)
exact f = (none_if_accepted f, accepted_if_none f)
