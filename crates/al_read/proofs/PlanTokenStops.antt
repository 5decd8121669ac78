-- Where one token stops reading.
use Rattle.std.proofs.Common.{◌≡◌, ℕ, ◌^◌, Bool, true, false, ◌==◌, ◌&&◌, List, [], ◌∷◌, ◌++◌, Option, Some, None, Result, Ok, Err, ℤ, pos, negsuc, refl, sym, ap, subst, ◌∙◌, inl, inr, codes, arith}
use Rattle.std.specs.Prelude.{if◌then◌else◌, nat_lt, nat_le, length, ◌≤◌}
use Rattle.std.specs.Str.{bytes_eq}
use Rattle.std.proofs.lemmas.List.{append-nil}
use Rattle.std.proofs.lemmas.Bool.{cases_Bool, le-leb, and_from}
use Rattle.std.proofs.lemmas.Bool.Decides.{nat_tests}
use Rattle.al_func.specs.declared.func.Func.{Func}
use Rattle.al_func.specs.Func.{is_i64}
use Rattle.al_agg.specs.declared.agg.Agg.{Agg}
use Rattle.al_csv.specs.Fields.{int_of, is_digits, fits_int, without_sign}
use Rattle.al_csv.specs.declared.decl.Kind.{Kind}
use Rattle.al_plan.specs.declared.expr.Var.{Var}
use Rattle.al_plan.specs.declared.expr.Expr.{Expr}
use Rattle.al_plan.specs.Grammar.{Word, Open, Close, Name, Variable, Number, Text, Mark, Dataset, Operator, Other, Marked, plain, func_name, kind_name, direction, count_fits}
use Rattle.al_read.specs.declared.token.Token.{Token}
use Rattle.al_read.specs.declared.token.Token.TheVariants as kinds
use Rattle.al_read.specs.declared.plan.reader.Stopped.{Stopped}
use Rattle.al_read.specs.declared.plan.reader.Stopped.TheVariants as stops
use Rattle.al_read.specs.declared.plan.words.Op.{Op}
use Rattle.al_read.specs.Reads.{said}
use Rattle.al_read.specs.PlanReading.{State, or_form, open_of, close_of, name_of, variable_of, file_of, text_of, count_of, version_of, func_of, func_named, leaf_of, literal_named, op_of, op_named, agg_of, agg_named, split_of, direction_of, is_root_of, second_of, kind_of, kind_named, title_of, titled, is_int, int_literal, int_of_digits, count_of_digits, counted, versioned, version_of_count, open_at, close_at, name_at, variable_at, file_name_at, text_at, count_at, version_at, func_at, op_at, agg_word_at, split_word_at, direction_at, kind_at, title_at}
use Rattle.al_read.proofs.PlanForms.{Forms, IsSound, itself}
use Rattle.al_read.proofs.PlanWords.{opens_form, closes_form, name_form, variable_form, file_form, text_form, count_form, version_form, func_form, func_again, agg_form, agg_again, agg_name, kind_form, kind_again, op_form, op_again, op_name, split_form, split_again, split_name, direction_form, direction_again, title_form}
use Rattle.al_read.proofs.PlanItems.{fits_same}
use Rattle.al_read.proofs.PlanMachine.{Sym, AnOpen, AClose, ATitle, AVersion, AName, AFile, AKind, AVar, AFunc, AnAgg, AGen, ADir, ACount, AnExpr, Args, Vars, Cols, Assigns, Aggs, Keys, Orders, APlan, AnOp, Parts, APart, turn, refuses, takes_numbers, is_number_word, is_none, lead, when, ok_lead, is_count, is_version, agg_syms, op_syms, Fated, on_top, on}
use Rattle.al_read.proofs.PlanPaces.{Paces, nothing, token_paces}

named_fate : {A : Type 0} (o : Option A) (behind : A → List Sym) → Fated (or_form o) (is_none (lead behind o)) false
named_fate (Some x) behind = tt
named_fate None behind = (refl, refl)

open_fate : (t : Token) → IsSound t → Fated (open_of t) (refuses AnOpen (said t)) (takes_numbers AnOpen && is_number_word (said t))
open_fate kinds.Open sound = tt
open_fate kinds.Close sound = (refl, refl)
open_fate (kinds.Name w) sound = (refl, refl)
open_fate (kinds.Var w) sound = (refl, refl)
open_fate (kinds.Number w) sound = (refl, refl)
open_fate (kinds.Str w) sound = (refl, refl)

pub open_pace : (n : ℕ) → Paces n open_at itself (λ x. plain (Open) ∷ []) (λ x. Unit {0}) (AnOpen ∷ []) (nothing)
unfolding open_at
open_pace n = token_paces n open_of (λ (x : Unit {0}). Open) (λ x. Unit {0}) AnOpen (nothing) (opens_form n) (λ x fit. refl) open_fate

close_fate : (t : Token) → IsSound t → Fated (close_of t) (refuses AClose (said t)) (takes_numbers AClose && is_number_word (said t))
close_fate kinds.Open sound = (refl, refl)
close_fate kinds.Close sound = tt
close_fate (kinds.Name w) sound = (refl, refl)
close_fate (kinds.Var w) sound = (refl, refl)
close_fate (kinds.Number w) sound = (refl, refl)
close_fate (kinds.Str w) sound = (refl, refl)

pub close_pace : (n : ℕ) → Paces n close_at itself (λ x. plain (Close) ∷ []) (λ x. Unit {0}) (AClose ∷ []) (nothing)
unfolding close_at
close_pace n = token_paces n close_of (λ (x : Unit {0}). Close) (λ x. Unit {0}) AClose (nothing) (closes_form n) (λ x fit. refl) close_fate

name_fate : (t : Token) → IsSound t → Fated (name_of t) (refuses AName (said t)) (takes_numbers AName && is_number_word (said t))
name_fate kinds.Open sound = (refl, refl)
name_fate kinds.Close sound = (refl, refl)
name_fate (kinds.Name w) sound = tt
name_fate (kinds.Var w) sound = (refl, refl)
name_fate (kinds.Number w) sound = (refl, refl)
name_fate (kinds.Str w) sound = (refl, refl)

pub name_pace : (n : ℕ) → Paces n name_at itself (λ x. plain (Name x) ∷ []) (λ x. Unit {0}) (AName ∷ []) (nothing)
unfolding name_at
name_pace n = token_paces n name_of (λ (x : List ℕ). Name x) (λ x. Unit {0}) AName (nothing) (name_form n) (λ x fit. refl) name_fate

variable_fate : (t : Token) → IsSound t → Fated (variable_of t) (refuses AVar (said t)) (takes_numbers AVar && is_number_word (said t))
variable_fate kinds.Open sound = (refl, refl)
variable_fate kinds.Close sound = (refl, refl)
variable_fate (kinds.Name w) sound = (refl, refl)
variable_fate (kinds.Var w) sound = tt
variable_fate (kinds.Number w) sound = (refl, refl)
variable_fate (kinds.Str w) sound = (refl, refl)

pub variable_pace : (n : ℕ) → Paces n variable_at itself (λ x. plain (Variable x.name) ∷ []) (λ x. Unit {0}) (AVar ∷ []) (nothing)
unfolding variable_at
variable_pace n = token_paces n variable_of (λ (x : Var). Variable x.name) (λ x. Unit {0}) AVar (nothing) (variable_form n) (λ x fit. refl) variable_fate

file_fate : (t : Token) → IsSound t → Fated (file_of t) (refuses AFile (said t)) (takes_numbers AFile && is_number_word (said t))
file_fate kinds.Open sound = (refl, refl)
file_fate kinds.Close sound = (refl, refl)
file_fate (kinds.Name w) sound = (refl, refl)
file_fate (kinds.Var w) sound = (refl, refl)
file_fate (kinds.Number w) sound = (refl, refl)
file_fate (kinds.Str w) sound = tt

pub file_pace : (n : ℕ) → Paces n file_name_at itself (λ x. plain (Text x) ∷ []) (λ x. Unit {0}) (AFile ∷ []) (nothing)
unfolding file_name_at
file_pace n = token_paces n file_of (λ (x : List ℕ). Text x) (λ x. Unit {0}) AFile (nothing) (file_form n) (λ x fit. refl) file_fate

short_fate : (w : List ℕ) → length w ≤ 32000 → Fated (text_of (kinds.Name w)) false false
short_fate w h = rw (le-leb (length w) 32000 h) tt

text_fate : (t : Token) → IsSound t → Fated (text_of t) (refuses AName (said t)) (takes_numbers AName && is_number_word (said t))
text_fate kinds.Open sound = (refl, refl)
text_fate kinds.Close sound = (refl, refl)
text_fate (kinds.Name w) sound = short_fate w sound
text_fate (kinds.Var w) sound = (refl, refl)
text_fate (kinds.Number w) sound = (refl, refl)
text_fate (kinds.Str w) sound = (refl, refl)

pub text_pace : (n : ℕ) → Paces n text_at itself (λ x. plain (Name x) ∷ []) (λ x. Unit {0}) (AName ∷ []) (nothing)
unfolding text_at
text_pace n = token_paces n text_of (λ (x : List ℕ). Name x) (λ x. Unit {0}) AName (nothing) (text_form n) (λ x fit. refl) text_fate

all_digits : (w : List ℕ) → is_digits (without_sign w) ≡ true → is_int w ≡ fits_int (int_of w)
all_digits w h = ap (λ (b : Bool). b && fits_int (int_of w)) h

count_in_range : (z : ℤ) → Fated (if fits_int z then counted z else Err stops.Number) (is_none (when (is_count z) [])) true
count_in_range (pos n) = go (nat_lt n (2 ^ 63)) where
  go : (b : Bool) → Fated (if b then counted (pos n) else Err stops.Number) (is_none (when b [])) true
  go true = tt
  go false = (refl, refl)
count_in_range (negsuc n) = go (nat_lt n (2 ^ 63)) where
  go : (b : Bool) → Fated (if b then counted (negsuc n) else Err stops.Number) true true
  go true = (refl, refl)
  go false = (refl, refl)

count_number : (w : List ℕ) → is_digits (without_sign w) ≡ true → Fated (count_of (kinds.Number w)) (is_none (when (is_count (int_of w)) [])) true
count_number w h = rw (all_digits w h) (count_in_range (int_of w))

count_fate : (t : Token) → IsSound t → Fated (count_of t) (refuses ACount (said t)) (takes_numbers ACount && is_number_word (said t))
count_fate kinds.Open sound = (refl, refl)
count_fate kinds.Close sound = (refl, refl)
count_fate (kinds.Name w) sound = (refl, refl)
count_fate (kinds.Var w) sound = (refl, refl)
count_fate (kinds.Number w) sound = count_number w sound
count_fate (kinds.Str w) sound = (refl, refl)

pub count_pace : (n : ℕ) → Paces n count_at itself (λ x. plain (Number (pos x)) ∷ []) (λ x. count_fits x ≡ true) (ACount ∷ []) (nothing)
unfolding count_at
count_pace n = token_paces n count_of (λ (x : ℕ). Number (pos x)) (λ x. count_fits x ≡ true) ACount (nothing) (count_form n) (λ x fit. ap (λ (b : Bool). on_top [] (when b [])) fit) count_fate

too_large_for_one : (n : ℕ) → nat_lt n (2 ^ 63) ≡ false → n == 1 ≡ false
too_large_for_one n h = grind (arith, nat_tests)

version_in_range : (z : ℤ) → Fated (version_of_count (if fits_int z then counted z else Err stops.Number)) (is_none (when (is_version z) [])) true
version_in_range (pos n) =
    elim (cases_Bool (nat_lt n (2 ^ 63))) [
      | inl on ↦ elim (cases_Bool (n == 1)) [ inl y ↦ rw (on, y) tt | inr off ↦ rw (on, off) (refl, refl) ]
      | inr off ↦ rw (off, too_large_for_one n off) (refl, refl)
    ]
version_in_range (negsuc n) = go (nat_lt n (2 ^ 63)) where
  go : (b : Bool) → Fated (version_of_count (if b then counted (negsuc n) else Err stops.Number)) true true
  go true = (refl, refl)
  go false = (refl, refl)

version_number : (w : List ℕ) → is_digits (without_sign w) ≡ true → Fated (version_of (kinds.Number w)) (is_none (when (is_version (int_of w)) [])) true
version_number w h = rw (all_digits w h) (version_in_range (int_of w))

version_fate : (t : Token) → IsSound t → Fated (version_of t) (refuses AVersion (said t)) (takes_numbers AVersion && is_number_word (said t))
version_fate kinds.Open sound = (refl, refl)
version_fate kinds.Close sound = (refl, refl)
version_fate (kinds.Name w) sound = (refl, refl)
version_fate (kinds.Var w) sound = (refl, refl)
version_fate (kinds.Number w) sound = version_number w sound
version_fate (kinds.Str w) sound = (refl, refl)

pub version_pace : (n : ℕ) → Paces n version_at itself (λ x. plain (Number (pos x)) ∷ []) (λ x. x ≡ 1) (AVersion ∷ []) (nothing)
unfolding version_at
version_pace n = token_paces n version_of (λ (x : ℕ). Number (pos x)) (λ x. x ≡ 1) AVersion (nothing) (version_form n) (λ x fit. ap (λ (k : ℕ). on_top [] (when (k == 1) [])) fit) version_fate

func_fate : (t : Token) → IsSound t → Fated (func_of t) (refuses AFunc (said t)) (takes_numbers AFunc && is_number_word (said t))
func_fate kinds.Open sound = (refl, refl)
func_fate kinds.Close sound = (refl, refl)
func_fate (kinds.Name w) sound = named_fate (func_named w) (λ f. [])
func_fate (kinds.Var w) sound = (refl, refl)
func_fate (kinds.Number w) sound = (refl, refl)
func_fate (kinds.Str w) sound = (refl, refl)

pub func_pace : (n : ℕ) → Paces n func_at itself (λ x. plain (Name (func_name x)) ∷ []) (λ x. Unit {0}) (AFunc ∷ []) (nothing)
unfolding func_at
func_pace n = token_paces n func_of (λ (x : Func). Name (func_name x)) (λ x. Unit {0}) AFunc (nothing) (func_form n) (λ x fit. ap (λ (o : Option Func). on_top [] (lead (λ f. []) o)) (func_again x)) func_fate

agg_fate : (t : Token) → IsSound t → Fated (agg_of t) (refuses AnAgg (said t)) (takes_numbers AnAgg && is_number_word (said t))
agg_fate kinds.Open sound = (refl, refl)
agg_fate kinds.Close sound = (refl, refl)
agg_fate (kinds.Name w) sound = named_fate (agg_named w) agg_syms
agg_fate (kinds.Var w) sound = (refl, refl)
agg_fate (kinds.Number w) sound = (refl, refl)
agg_fate (kinds.Str w) sound = (refl, refl)

pub agg_pace : (n : ℕ) → Paces n agg_word_at itself (λ x. plain (Name (agg_name x)) ∷ []) (λ x. Unit {0}) (AnAgg ∷ []) (agg_syms)
unfolding agg_word_at
agg_pace n = token_paces n agg_of (λ (x : Agg). Name (agg_name x)) (λ x. Unit {0}) AnAgg (agg_syms) (agg_form n) (λ x fit. ap (λ (o : Option Agg). on_top [] (lead agg_syms o)) (agg_again x) ∙ ap on (append-nil (agg_syms x))) agg_fate

kind_fate : (t : Token) → IsSound t → Fated (kind_of t) (refuses AKind (said t)) (takes_numbers AKind && is_number_word (said t))
kind_fate kinds.Open sound = (refl, refl)
kind_fate kinds.Close sound = (refl, refl)
kind_fate (kinds.Name w) sound = named_fate (kind_named w) (λ k. [])
kind_fate (kinds.Var w) sound = (refl, refl)
kind_fate (kinds.Number w) sound = (refl, refl)
kind_fate (kinds.Str w) sound = (refl, refl)

pub kind_pace : (n : ℕ) → Paces n kind_at itself (λ x. plain (Name (kind_name x)) ∷ []) (λ x. Unit {0}) (AKind ∷ []) (nothing)
unfolding kind_at
kind_pace n = token_paces n kind_of (λ (x : Kind). Name (kind_name x)) (λ x. Unit {0}) AKind (nothing) (kind_form n) (λ x fit. ap (λ (o : Option Kind). on_top [] (lead (λ k. []) o)) (kind_again x)) kind_fate

op_fate : (t : Token) → IsSound t → Fated (op_of t) (refuses AnOp (said t)) (takes_numbers AnOp && is_number_word (said t))
op_fate kinds.Open sound = (refl, refl)
op_fate kinds.Close sound = (refl, refl)
op_fate (kinds.Name w) sound = named_fate (op_named w) op_syms
op_fate (kinds.Var w) sound = (refl, refl)
op_fate (kinds.Number w) sound = (refl, refl)
op_fate (kinds.Str w) sound = (refl, refl)

pub op_pace : (n : ℕ) → Paces n op_at itself (λ x. plain (Name (op_name x)) ∷ []) (λ x. Unit {0}) (AnOp ∷ []) (op_syms)
unfolding op_at
op_pace n = token_paces n op_of (λ (x : Op). Name (op_name x)) (λ x. Unit {0}) AnOp (op_syms) (op_form n) (λ x fit. ap (λ (o : Option Op). on_top [] (lead op_syms o)) (op_again x) ∙ ap on (append-nil (op_syms x))) op_fate

split_fate : (t : Token) → IsSound t → Fated (split_of t) (refuses AGen (said t)) (takes_numbers AGen && is_number_word (said t))
split_fate kinds.Open sound = (refl, refl)
split_fate kinds.Close sound = (refl, refl)
split_fate (kinds.Name w) sound = named_fate (second_of (codes "range") (codes "split") w) (λ b. [])
split_fate (kinds.Var w) sound = (refl, refl)
split_fate (kinds.Number w) sound = (refl, refl)
split_fate (kinds.Str w) sound = (refl, refl)

pub split_pace : (n : ℕ) → Paces n split_word_at itself (λ x. plain (Name (split_name x)) ∷ []) (λ x. Unit {0}) (AGen ∷ []) (nothing)
unfolding split_word_at
split_pace n = token_paces n split_of (λ (x : Bool). Name (split_name x)) (λ x. Unit {0}) AGen (nothing) (split_form n) (λ x fit. ap (λ (o : Option Bool). on_top [] (lead (λ b. []) o)) (split_again x)) split_fate

direction_fate : (t : Token) → IsSound t → Fated (direction_of t) (refuses ADir (said t)) (takes_numbers ADir && is_number_word (said t))
direction_fate kinds.Open sound = (refl, refl)
direction_fate kinds.Close sound = (refl, refl)
direction_fate (kinds.Name w) sound = named_fate (second_of (codes "asc") (codes "desc") w) (λ b. [])
direction_fate (kinds.Var w) sound = (refl, refl)
direction_fate (kinds.Number w) sound = (refl, refl)
direction_fate (kinds.Str w) sound = (refl, refl)

pub direction_pace : (n : ℕ) → Paces n direction_at itself (λ x. plain (Name (direction x)) ∷ []) (λ x. Unit {0}) (ADir ∷ []) (nothing)
unfolding direction_at
direction_pace n = token_paces n direction_of (λ (x : Bool). Name (direction x)) (λ x. Unit {0}) ADir (nothing) (direction_form n) (λ x fit. ap (λ (o : Option Bool). on_top [] (lead (λ b. []) o)) (direction_again x)) direction_fate

titled_fate : (b : Bool) → Fated (titled b) (is_none (when b [])) false
titled_fate true = tt
titled_fate false = (refl, refl)

title_fate : (t : Token) → IsSound t → Fated (title_of t) (refuses ATitle (said t)) (takes_numbers ATitle && is_number_word (said t))
title_fate kinds.Open sound = (refl, refl)
title_fate kinds.Close sound = (refl, refl)
title_fate (kinds.Name w) sound = titled_fate (bytes_eq w (codes "algebricks"))
title_fate (kinds.Var w) sound = (refl, refl)
title_fate (kinds.Number w) sound = (refl, refl)
title_fate (kinds.Str w) sound = (refl, refl)

pub title_pace : (n : ℕ) → Paces n title_at itself (λ x. plain (Name (codes "algebricks")) ∷ []) (λ x. Unit {0}) (ATitle ∷ []) (nothing)
unfolding title_at
title_pace n = token_paces n title_of (λ (x : Unit {0}). Name (codes "algebricks")) (λ x. Unit {0}) ATitle (nothing) (title_form n) (λ x fit. refl) title_fate

abbrev pub not_opening : Token → Type 0
not_opening kinds.Open = ⊥
not_opening kinds.Close = Unit {0}
not_opening (kinds.Name w) = Unit {0}
not_opening (kinds.Var w) = Unit {0}
not_opening (kinds.Number w) = Unit {0}
not_opening (kinds.Str w) = Unit {0}

int_fate : (z : ℤ) (b : Bool) → b ≡ is_i64 z → Fated (int_literal (if b then Ok z else Err stops.Number)) (is_none (when (is_i64 z) [])) true
int_fate z true e = tt
int_fate z false e = (ap (λ (b : Bool). is_none (when b [])) (sym e), refl)

leaf_number : (w : List ℕ) → is_digits (without_sign w) ≡ true → Fated (leaf_of (kinds.Number w)) (is_none (when (is_i64 (int_of w)) [])) true
leaf_number w h = int_fate (int_of w) (is_int w) (all_digits w h ∙ fits_same (int_of w))

leaf_name : (w : List ℕ) → Fated (literal_named w) (is_none (ok_lead (literal_named w))) false
leaf_name w =
    elim (cases_Bool (bytes_eq w (codes "null"))) [
      | inl y ↦ rw y tt
      | inr a ↦ elim (cases_Bool (bytes_eq w (codes "true"))) [
        | inl y ↦ rw (a, y) tt
        | inr b ↦ elim (cases_Bool (bytes_eq w (codes "false"))) [ inl y ↦ rw (a, b, y) tt | inr c ↦ rw (a, b, c) (refl, refl) ]
      ]
    ]

pub leaf_fate : (t : Token) → IsSound t → not_opening t → Fated (leaf_of t) (refuses AnExpr (said t)) (takes_numbers AnExpr && is_number_word (said t))
leaf_fate kinds.Open sound h = absurd h
leaf_fate kinds.Close sound h = (refl, refl)
leaf_fate (kinds.Name w) sound h = leaf_name w
leaf_fate (kinds.Var w) sound h = tt
leaf_fate (kinds.Number w) sound h = leaf_number w sound
leaf_fate (kinds.Str w) sound h = tt
