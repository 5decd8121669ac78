-- What one token is read as.
use Rattle.std.proofs.Common.{◌≡◌, ℕ, ◌^◌, ◌<◌, ◌≤◌, ◌-◌, ◌==◌, Bool, true, false, ◌&&◌, List, [], ◌∷◌, length, Option, Some, None, Result, Ok, Err, ℤ, pos, negsuc, refl, sym, ap, ◌∙◌, inl, inr, codes, arith}
use Rattle.std.specs.Prelude.{nat_le, if◌then◌else◌}
use Rattle.std.specs.Str.{bytes_eq}
use Rattle.std.proofs.lemmas.Bool.{cases_Bool, and_from, and_parts, eqb-true, eq-eqb, le-leb, leb-true}
use Rattle.std.proofs.lemmas.Slice.Eq.{bytes_eq-Decides}
use Rattle.al_value.specs.declared.value.Value.{Value}
use Rattle.al_value.specs.declared.value.Value.TheVariants as V
use Rattle.al_func.specs.declared.func.Func.{Func}
use Rattle.al_func.specs.declared.func.Func.TheVariants as F
use Rattle.al_func.specs.Func.{is_i64}
use Rattle.al_agg.specs.declared.agg.Agg.{Agg}
use Rattle.al_agg.specs.declared.agg.Agg.TheVariants as A
use Rattle.al_csv.specs.Fields.{int_of, is_digits, fits_int, without_sign}
use Rattle.al_csv.specs.declared.decl.Kind.{Kind}
use Rattle.al_csv.specs.declared.decl.Kind.TheVariants as K
use Rattle.al_plan.specs.declared.expr.Var.{Var}
use Rattle.al_plan.specs.declared.expr.Expr.{Expr}
use Rattle.al_plan.specs.declared.expr.Expr.TheVariants as E
use Rattle.al_plan.specs.Grammar.{Word, Open, Close, Name, Variable, Number, Text, Marked, plain, func_name, kind_name, direction, literal, literal_fits, count_fits}
use Rattle.al_read.specs.declared.token.Token.{Token}
use Rattle.al_read.specs.declared.token.Token.TheVariants as kinds
use Rattle.al_read.specs.declared.plan.reader.Stopped.{Stopped}
use Rattle.al_read.specs.declared.plan.reader.Stopped.TheVariants as stops
use Rattle.al_read.specs.declared.plan.words.Op.{Op}
use Rattle.al_read.specs.declared.plan.words.Op.TheVariants as op
use Rattle.al_read.specs.declared.plan.words.LeafOp.TheVariants as leaf
use Rattle.al_read.specs.declared.plan.words.OneOp.TheVariants as one
use Rattle.al_read.specs.declared.plan.words.TwoOp.TheVariants as two
use Rattle.al_read.specs.Reads.{said}
use Rattle.al_read.specs.PlanReading as reading
use Rattle.al_read.specs.PlanReading.{State, Outcome, or_form, open_of, close_of, name_of, variable_of, file_of, text_of, count_of, version_of, func_of, func_named, leaf_of, literal_named, op_of, op_named, agg_of, agg_named, split_of, direction_of, is_root_of, second_of, kind_of, kind_named, title_of, titled, is_int, int_of_digits, count_of_digits, counted, versioned, version_of_count, int_literal, open_at, close_at, name_at, variable_at, file_name_at, text_at, count_at, version_at, func_at, leaf_at, op_at, agg_word_at, split_word_at, direction_at, is_root_at, kind_at, title_at}
use Rattle.al_read.proofs.PlanForms.{Forms, IsSound, itself, token_forms}

abbrev Stop : Type 0
Stop = Stopped

abbrev Always : {A : Type 0} → A → Type 0
Always x = Unit {0}

abbrev open_word : Unit {0} → Word
open_word u = Open

abbrev close_word : Unit {0} → Word
close_word u = Close

open_to : (t : Token) (x : Unit {0}) → open_of t ≡ Ok x → (said t ≡ open_word x) × Always x
open_to kinds.Open x e = (refl, tt)
open_to kinds.Close x e = absurd cc
open_to (kinds.Name w) x e = absurd cc
open_to (kinds.Var w) x e = absurd cc
open_to (kinds.Number w) x e = absurd cc
open_to (kinds.Str w) x e = absurd cc

open_from : (t : Token) (x : Unit {0}) → IsSound t → said t ≡ open_word x → Always x → open_of t ≡ Ok x
open_from kinds.Open x sound e fit = refl
open_from kinds.Close x sound e fit = absurd cc
open_from (kinds.Name w) x sound e fit = absurd cc
open_from (kinds.Var w) x sound e fit = absurd cc
open_from (kinds.Number w) x sound e fit = absurd cc
open_from (kinds.Str w) x sound e fit = absurd cc

pub opens_form : (n : ℕ) → Forms n open_at itself (λ x. plain (open_word x) ∷ []) (Always)
unfolding open_at
opens_form n = token_forms n open_of (open_word) (Always) open_to open_from

close_to : (t : Token) (x : Unit {0}) → close_of t ≡ Ok x → (said t ≡ close_word x) × Always x
close_to kinds.Open x e = absurd cc
close_to kinds.Close x e = (refl, tt)
close_to (kinds.Name w) x e = absurd cc
close_to (kinds.Var w) x e = absurd cc
close_to (kinds.Number w) x e = absurd cc
close_to (kinds.Str w) x e = absurd cc

close_from : (t : Token) (x : Unit {0}) → IsSound t → said t ≡ close_word x → Always x → close_of t ≡ Ok x
close_from kinds.Open x sound e fit = absurd cc
close_from kinds.Close x sound e fit = refl
close_from (kinds.Name w) x sound e fit = absurd cc
close_from (kinds.Var w) x sound e fit = absurd cc
close_from (kinds.Number w) x sound e fit = absurd cc
close_from (kinds.Str w) x sound e fit = absurd cc

pub closes_form : (n : ℕ) → Forms n close_at itself (λ x. plain (close_word x) ∷ []) (Always)
unfolding close_at
closes_form n = token_forms n close_of (close_word) (Always) close_to close_from

bytes_same : (x y : List ℕ) → Name x ≡ Name y → x ≡ y
bytes_same x y e = cc

abbrev oked : {A : Type 0} → A → Result A Stop
oked x = Ok x

ok_same : {A : Type 0} (x y : A) → oked x ≡ oked y → x ≡ y
ok_same x y e = cc

name_to : (t : Token) (x : List ℕ) → name_of t ≡ Ok x → (said t ≡ Name x) × Always x
name_to kinds.Open x e = absurd cc
name_to kinds.Close x e = absurd cc
name_to (kinds.Name w) x e = (ap (λ (y : List ℕ). Name y) (ok_same w x e), tt)
name_to (kinds.Var w) x e = absurd cc
name_to (kinds.Number w) x e = absurd cc
name_to (kinds.Str w) x e = absurd cc

name_from : (t : Token) (x : List ℕ) → IsSound t → said t ≡ Name x → Always x → name_of t ≡ Ok x
name_from kinds.Open x sound e fit = absurd cc
name_from kinds.Close x sound e fit = absurd cc
name_from (kinds.Name w) x sound e fit = ap (λ (y : List ℕ). oked y) (bytes_same w x e)
name_from (kinds.Var w) x sound e fit = absurd cc
name_from (kinds.Number w) x sound e fit = absurd cc
name_from (kinds.Str w) x sound e fit = absurd cc

pub name_form : (n : ℕ) → Forms n name_at itself (λ x. plain (Name x) ∷ []) (Always)
unfolding name_at
name_form n = token_forms n name_of (Name) (Always) name_to name_from

abbrev var_word : Var → Word
var_word v = Variable v.name

abbrev var : List ℕ → Var
var name = record { name = name }

variable_same : (x y : List ℕ) → Variable x ≡ Variable y → x ≡ y
variable_same x y e = cc

variable_to : (t : Token) (x : Var) → variable_of t ≡ Ok x → (said t ≡ var_word x) × Always x
variable_to kinds.Open x e = absurd cc
variable_to kinds.Close x e = absurd cc
variable_to (kinds.Name w) x e = absurd cc
variable_to (kinds.Var w) x e = (ap (λ (v : Var). Variable v.name) (ok_same (var w) x e), tt)
variable_to (kinds.Number w) x e = absurd cc
variable_to (kinds.Str w) x e = absurd cc

variable_from : (t : Token) (x : Var) → IsSound t → said t ≡ var_word x → Always x → variable_of t ≡ Ok x
variable_from kinds.Open x sound e fit = absurd cc
variable_from kinds.Close x sound e fit = absurd cc
variable_from (kinds.Name w) x sound e fit = absurd cc
variable_from (kinds.Var w) x sound e fit = ap (λ (y : List ℕ). oked (var y)) (variable_same w x.name e)
variable_from (kinds.Number w) x sound e fit = absurd cc
variable_from (kinds.Str w) x sound e fit = absurd cc

pub variable_form : (n : ℕ) → Forms n variable_at itself (λ x. plain (var_word x) ∷ []) (Always)
unfolding variable_at
variable_form n = token_forms n variable_of (var_word) (Always) variable_to variable_from

text_same : (x y : List ℕ) → Text x ≡ Text y → x ≡ y
text_same x y e = cc

file_to : (t : Token) (x : List ℕ) → file_of t ≡ Ok x → (said t ≡ Text x) × Always x
file_to kinds.Open x e = absurd cc
file_to kinds.Close x e = absurd cc
file_to (kinds.Name w) x e = absurd cc
file_to (kinds.Var w) x e = absurd cc
file_to (kinds.Number w) x e = absurd cc
file_to (kinds.Str w) x e = (ap (λ (y : List ℕ). Text y) (ok_same w x e), tt)

file_from : (t : Token) (x : List ℕ) → IsSound t → said t ≡ Text x → Always x → file_of t ≡ Ok x
file_from kinds.Open x sound e fit = absurd cc
file_from kinds.Close x sound e fit = absurd cc
file_from (kinds.Name w) x sound e fit = absurd cc
file_from (kinds.Var w) x sound e fit = absurd cc
file_from (kinds.Number w) x sound e fit = absurd cc
file_from (kinds.Str w) x sound e fit = ap (λ (y : List ℕ). oked y) (text_same w x e)

pub file_form : (n : ℕ) → Forms n file_name_at itself (λ x. plain (Text x) ∷ []) (Always)
unfolding file_name_at
file_form n = token_forms n file_of (Text) (Always) file_to file_from

short_to : (w x : List ℕ) → text_of (kinds.Name w) ≡ Ok x → w ≡ x
short_to w x e =
    elim (cases_Bool (nat_le (length w) 32000)) [
      | inl y ↦ ok_same w x (rw y at e)
      | inr n ↦ let h = rw n at e in absurd cc
    ]

short_from : (w x : List ℕ) → length w ≤ 32000 → w ≡ x → text_of (kinds.Name w) ≡ Ok x
short_from w x h e = rw (le-leb (length w) 32000 h) (ap (λ (y : List ℕ). oked y) e)

check_to : (t : Token) (x : List ℕ) → text_of t ≡ Ok x → (said t ≡ Name x) × Always x
check_to kinds.Open x e = absurd cc
check_to kinds.Close x e = absurd cc
check_to (kinds.Name w) x e = (ap (λ (y : List ℕ). Name y) (short_to w x e), tt)
check_to (kinds.Var w) x e = absurd cc
check_to (kinds.Number w) x e = absurd cc
check_to (kinds.Str w) x e = absurd cc

check_from : (t : Token) (x : List ℕ) → IsSound t → said t ≡ Name x → Always x → text_of t ≡ Ok x
check_from kinds.Open x sound e fit = absurd cc
check_from kinds.Close x sound e fit = absurd cc
check_from (kinds.Name w) x sound e fit = short_from w x sound (bytes_same w x e)
check_from (kinds.Var w) x sound e fit = absurd cc
check_from (kinds.Number w) x sound e fit = absurd cc
check_from (kinds.Str w) x sound e fit = absurd cc

pub text_form : (n : ℕ) → Forms n text_at itself (λ x. plain (Name x) ∷ []) (Always)
unfolding text_at
text_form n = token_forms n text_of (Name) (Always) check_to check_from

abbrev number_word : ℕ → Word
number_word n = Number (pos n)

number_same : (x y : ℤ) → Number x ≡ Number y → x ≡ y
number_same x y e = cc

counted_to : (z : ℤ) (n : ℕ) → fits_int z ≡ true → counted z ≡ Ok n → (z ≡ pos n) × (count_fits n ≡ true)
counted_to (pos k) n fits e = let same = ok_same k n e in (ap (λ (i : ℕ). pos i) same, rw (← same) fits)
counted_to (negsuc k) n fits e = absurd cc

count_in : (w : List ℕ) (n : ℕ) → count_of_digits w ≡ Ok n → (int_of w ≡ pos n) × (count_fits n ≡ true)
count_in w n e =
    elim (cases_Bool (is_int w)) [
      | inl y ↦ counted_to (int_of w) n (and_parts (is_digits (without_sign w)) (fits_int (int_of w)) y).1 (rw y at e)
      | inr off ↦ let h = rw off at e in absurd cc
    ]

count_again : (w : List ℕ) (n : ℕ) → is_digits (without_sign w) ≡ true → int_of w ≡ pos n → count_fits n ≡ true → count_of_digits w ≡ Ok n
count_again w n digits e fits =
    let all : is_int w ≡ true = and_from (is_digits (without_sign w)) (fits_int (int_of w)) digits (ap fits_int e ∙ fits) in
    rw (all, e) refl

abbrev CountFits : ℕ → Type 0
CountFits n = count_fits n ≡ true

count_to : (t : Token) (x : ℕ) → count_of t ≡ Ok x → (said t ≡ number_word x) × CountFits x
count_to kinds.Open x e = absurd cc
count_to kinds.Close x e = absurd cc
count_to (kinds.Name w) x e = absurd cc
count_to (kinds.Var w) x e = absurd cc
count_to (kinds.Number w) x e = let h = count_in w x e in (ap (λ (z : ℤ). Number z) h.0, h.1)
count_to (kinds.Str w) x e = absurd cc

count_from : (t : Token) (x : ℕ) → IsSound t → said t ≡ number_word x → CountFits x → count_of t ≡ Ok x
count_from kinds.Open x sound e fit = absurd cc
count_from kinds.Close x sound e fit = absurd cc
count_from (kinds.Name w) x sound e fit = absurd cc
count_from (kinds.Var w) x sound e fit = absurd cc
count_from (kinds.Number w) x sound e fit = count_again w x sound (number_same (int_of w) (pos x) e) fit
count_from (kinds.Str w) x sound e fit = absurd cc

pub count_form : (n : ℕ) → Forms n count_at itself (λ x. plain (number_word x) ∷ []) (CountFits)
unfolding count_at
count_form n = token_forms n count_of (number_word) (CountFits) count_to count_from

abbrev IsFirst : ℕ → Type 0
IsFirst n = n ≡ 1

version_in : (o : Result ℕ Stop) (n : ℕ) → version_of_count o ≡ Ok n → (o ≡ Ok n) × (n ≡ 1)
version_in (Ok k) n e =
    elim (cases_Bool (k == 1)) [
      | inl y ↦ let is_one = eqb-true k 1 y in let same = ok_same 1 n (rw y at e) in (ap (λ (i : ℕ). oked i) (is_one ∙ same), sym same)
      | inr off ↦ let h = rw off at e in absurd cc
    ]
version_in (Err k) n e = absurd cc

version_again : (o : Result ℕ Stop) (n : ℕ) → o ≡ Ok n → n ≡ 1 → version_of_count o ≡ Ok n
version_again o n e one = ap version_of_count (e ∙ ap (λ (i : ℕ). oked i) one) ∙ ap (λ (i : ℕ). oked i) (sym one)

version_to : (t : Token) (x : ℕ) → version_of t ≡ Ok x → (said t ≡ number_word x) × IsFirst x
version_to t x e = let h = version_in (count_of t) x e in ((count_to t x h.0).0, h.1)

version_from : (t : Token) (x : ℕ) → IsSound t → said t ≡ number_word x → IsFirst x → version_of t ≡ Ok x
version_from t x sound e fit = version_again (count_of t) x (count_from t x sound e (ap count_fits fit)) fit

pub version_form : (n : ℕ) → Forms n version_at itself (λ x. plain (number_word x) ∷ []) IsFirst
unfolding version_at
version_form n = token_forms n version_of number_word IsFirst version_to version_from

-- ---- words

word_is : (x y : List ℕ) → bytes_eq x y ≡ true → x ≡ y
word_is x y e = (bytes_eq-Decides x y).0 e

abbrev found : {A : Type 0} → A → Option A
found x = Some x

among : {A : Type 0} (name : A → List ℕ) (a : A) (w : List ℕ) (others : Option A) (x : A) → (if bytes_eq w (name a) then Some a else others) ≡ Some x → (others ≡ Some x → w ≡ name x) → w ≡ name x
among {A} name a w others x e more =
    elim (cases_Bool (bytes_eq w (name a))) [
      | inl y ↦ let h : found a ≡ Some x = rw y at e in let same : a ≡ x = cc in word_is w (name a) y ∙ ap name same
      | inr n ↦ more (rw n at e)
    ]

func_in : (w : List ℕ) (x : Func) → func_named w ≡ Some x → w ≡ func_name x
unfolding func_named
func_in w x e = among func_name F.Eq w _ x e (λ e. among func_name F.Lt w _ x e (λ e. among func_name F.Le w _ x e (λ e. among func_name F.And w _ x e (λ e. among func_name F.Or w _ x e (λ e. among func_name F.Not w _ x e (λ e. among func_name F.Add w _ x e (λ e. among func_name F.Sub w _ x e (λ e. among func_name F.Mul w _ x e (λ e. among func_name F.Div w _ x e (λ e. among func_name F.Mod w _ x e (λ e. among func_name F.Neg w _ x e (λ e. among func_name F.Concat w _ x e (λ e. among func_name F.Length w _ x e (λ e. among func_name F.Substr w _ x e (λ e. among func_name F.LowerAscii w _ x e (λ e. among func_name F.If w _ x e (λ e. among func_name F.IsNull w _ x e (λ e. among func_name F.Coalesce w _ x e (λ e. absurd cc)))))))))))))))))))

pub func_again : (x : Func) → func_named (func_name x) ≡ Some x
unfolding func_named
func_again F.Eq = refl
func_again F.Lt = refl
func_again F.Le = refl
func_again F.And = refl
func_again F.Or = refl
func_again F.Not = refl
func_again F.Add = refl
func_again F.Sub = refl
func_again F.Mul = refl
func_again F.Div = refl
func_again F.Mod = refl
func_again F.Neg = refl
func_again F.Concat = refl
func_again F.Length = refl
func_again F.Substr = refl
func_again F.LowerAscii = refl
func_again F.If = refl
func_again F.IsNull = refl
func_again F.Coalesce = refl

abbrev func_word : Func → Word
func_word x = Name (func_name x)

func_found : (o : Option Func) (x : Func) → or_form o ≡ Ok x → o ≡ Some x
func_found (Some y) x e = let same = ok_same y x e in ap (λ (z : Func). Some z) same
func_found None x e = absurd cc

func_to : (t : Token) (x : Func) → func_of t ≡ Ok x → (said t ≡ func_word x) × Always x
func_to kinds.Open x e = absurd cc
func_to kinds.Close x e = absurd cc
func_to (kinds.Name w) x e = (ap (λ (y : List ℕ). Name y) (func_in w x (func_found (func_named w) x e)), tt)
func_to (kinds.Var w) x e = absurd cc
func_to (kinds.Number w) x e = absurd cc
func_to (kinds.Str w) x e = absurd cc

func_from : (t : Token) (x : Func) → IsSound t → said t ≡ func_word x → Always x → func_of t ≡ Ok x
func_from kinds.Open x sound e fit = absurd cc
func_from kinds.Close x sound e fit = absurd cc
func_from (kinds.Name w) x sound e fit = ap (λ (y : List ℕ). or_form (func_named y)) (bytes_same w (func_name x) e) ∙ ap or_form (func_again x)
func_from (kinds.Var w) x sound e fit = absurd cc
func_from (kinds.Number w) x sound e fit = absurd cc
func_from (kinds.Str w) x sound e fit = absurd cc

pub func_form : (n : ℕ) → Forms n func_at itself (λ x. plain (func_word x) ∷ []) (Always)
unfolding func_at
func_form n = token_forms n func_of (func_word) (Always) func_to func_from

abbrev pub agg_name : Agg → List ℕ
agg_name A.CountAll = codes "countall"
agg_name A.Count = codes "count"
agg_name A.Sum = codes "sum"
agg_name A.Min = codes "min"
agg_name A.Max = codes "max"

agg_in : (w : List ℕ) (x : Agg) → agg_named w ≡ Some x → w ≡ agg_name x
agg_in w x e = among agg_name A.CountAll w _ x e (λ e. among agg_name A.Count w _ x e (λ e. among agg_name A.Sum w _ x e (λ e. among agg_name A.Min w _ x e (λ e. among agg_name A.Max w _ x e (λ e. absurd cc)))))

pub agg_again : (x : Agg) → agg_named (agg_name x) ≡ Some x
agg_again A.CountAll = refl
agg_again A.Count = refl
agg_again A.Sum = refl
agg_again A.Min = refl
agg_again A.Max = refl

abbrev agg_word : Agg → Word
agg_word x = Name (agg_name x)

agg_found : (o : Option Agg) (x : Agg) → or_form o ≡ Ok x → o ≡ Some x
agg_found (Some y) x e = let same = ok_same y x e in ap (λ (z : Agg). Some z) same
agg_found None x e = absurd cc

agg_to : (t : Token) (x : Agg) → agg_of t ≡ Ok x → (said t ≡ agg_word x) × Always x
agg_to kinds.Open x e = absurd cc
agg_to kinds.Close x e = absurd cc
agg_to (kinds.Name w) x e = (ap (λ (y : List ℕ). Name y) (agg_in w x (agg_found (agg_named w) x e)), tt)
agg_to (kinds.Var w) x e = absurd cc
agg_to (kinds.Number w) x e = absurd cc
agg_to (kinds.Str w) x e = absurd cc

agg_from : (t : Token) (x : Agg) → IsSound t → said t ≡ agg_word x → Always x → agg_of t ≡ Ok x
agg_from kinds.Open x sound e fit = absurd cc
agg_from kinds.Close x sound e fit = absurd cc
agg_from (kinds.Name w) x sound e fit = ap (λ (y : List ℕ). or_form (agg_named y)) (bytes_same w (agg_name x) e) ∙ ap or_form (agg_again x)
agg_from (kinds.Var w) x sound e fit = absurd cc
agg_from (kinds.Number w) x sound e fit = absurd cc
agg_from (kinds.Str w) x sound e fit = absurd cc

pub agg_form : (n : ℕ) → Forms n agg_word_at itself (λ x. plain (agg_word x) ∷ []) (Always)
unfolding agg_word_at
agg_form n = token_forms n agg_of (agg_word) (Always) agg_to agg_from

kind_in : (w : List ℕ) (x : Kind) → kind_named w ≡ Some x → w ≡ kind_name x
kind_in w x e = among kind_name K.Int w _ x e (λ e. among kind_name K.Text w _ x e (λ e. among kind_name K.Bool w _ x e (λ e. absurd cc)))

pub kind_again : (x : Kind) → kind_named (kind_name x) ≡ Some x
kind_again K.Int = refl
kind_again K.Text = refl
kind_again K.Bool = refl

abbrev kind_word : Kind → Word
kind_word x = Name (kind_name x)

kind_found : (o : Option Kind) (x : Kind) → or_form o ≡ Ok x → o ≡ Some x
kind_found (Some y) x e = let same = ok_same y x e in ap (λ (z : Kind). Some z) same
kind_found None x e = absurd cc

kind_to : (t : Token) (x : Kind) → kind_of t ≡ Ok x → (said t ≡ kind_word x) × Always x
kind_to kinds.Open x e = absurd cc
kind_to kinds.Close x e = absurd cc
kind_to (kinds.Name w) x e = (ap (λ (y : List ℕ). Name y) (kind_in w x (kind_found (kind_named w) x e)), tt)
kind_to (kinds.Var w) x e = absurd cc
kind_to (kinds.Number w) x e = absurd cc
kind_to (kinds.Str w) x e = absurd cc

kind_from : (t : Token) (x : Kind) → IsSound t → said t ≡ kind_word x → Always x → kind_of t ≡ Ok x
kind_from kinds.Open x sound e fit = absurd cc
kind_from kinds.Close x sound e fit = absurd cc
kind_from (kinds.Name w) x sound e fit = ap (λ (y : List ℕ). or_form (kind_named y)) (bytes_same w (kind_name x) e) ∙ ap or_form (kind_again x)
kind_from (kinds.Var w) x sound e fit = absurd cc
kind_from (kinds.Number w) x sound e fit = absurd cc
kind_from (kinds.Str w) x sound e fit = absurd cc

pub kind_form : (n : ℕ) → Forms n kind_at itself (λ x. plain (kind_word x) ∷ []) (Always)
unfolding kind_at
kind_form n = token_forms n kind_of (kind_word) (Always) kind_to kind_from

abbrev pub op_name : Op → List ℕ
op_name (op.Leaf leaf.Scan) = codes "scan"
op_name (op.Leaf leaf.Empty) = codes "empty"
op_name (op.Leaf leaf.Nested) = codes "nested"
op_name (op.One one.Assign) = codes "assign"
op_name (op.One one.Select) = codes "select"
op_name (op.One one.Project) = codes "project"
op_name (op.One one.Unnest) = codes "unnest"
op_name (op.One one.Distinct) = codes "distinct"
op_name (op.One one.Aggregate) = codes "aggregate"
op_name (op.One one.Order) = codes "order"
op_name (op.One one.Limit) = codes "limit"
op_name (op.One one.Check) = codes "check"
op_name (op.Two two.Subplan) = codes "subplan"
op_name (op.Two two.Join) = codes "join"
op_name (op.Two two.LeftJoin) = codes "leftjoin"
op_name (op.Two two.Group) = codes "group"
op_name (op.Two two.Union) = codes "union"

op_in : (w : List ℕ) (x : Op) → op_named w ≡ Some x → w ≡ op_name x
unfolding op_named
op_in w x e = among op_name (op.Leaf leaf.Scan) w _ x e (λ e. among op_name (op.Leaf leaf.Empty) w _ x e (λ e. among op_name (op.Leaf leaf.Nested) w _ x e (λ e. among op_name (op.One one.Assign) w _ x e (λ e. among op_name (op.One one.Select) w _ x e (λ e. among op_name (op.One one.Project) w _ x e (λ e. among op_name (op.One one.Unnest) w _ x e (λ e. among op_name (op.One one.Distinct) w _ x e (λ e. among op_name (op.One one.Aggregate) w _ x e (λ e. among op_name (op.One one.Order) w _ x e (λ e. among op_name (op.One one.Limit) w _ x e (λ e. among op_name (op.One one.Check) w _ x e (λ e. among op_name (op.Two two.Subplan) w _ x e (λ e. among op_name (op.Two two.Join) w _ x e (λ e. among op_name (op.Two two.LeftJoin) w _ x e (λ e. among op_name (op.Two two.Group) w _ x e (λ e. among op_name (op.Two two.Union) w _ x e (λ e. absurd cc)))))))))))))))))

pub op_again : (x : Op) → op_named (op_name x) ≡ Some x
unfolding op_named
op_again (op.Leaf leaf.Scan) = refl
op_again (op.Leaf leaf.Empty) = refl
op_again (op.Leaf leaf.Nested) = refl
op_again (op.One one.Assign) = refl
op_again (op.One one.Select) = refl
op_again (op.One one.Project) = refl
op_again (op.One one.Unnest) = refl
op_again (op.One one.Distinct) = refl
op_again (op.One one.Aggregate) = refl
op_again (op.One one.Order) = refl
op_again (op.One one.Limit) = refl
op_again (op.One one.Check) = refl
op_again (op.Two two.Subplan) = refl
op_again (op.Two two.Join) = refl
op_again (op.Two two.LeftJoin) = refl
op_again (op.Two two.Group) = refl
op_again (op.Two two.Union) = refl

abbrev op_word : Op → Word
op_word x = Name (op_name x)

op_found : (o : Option Op) (x : Op) → or_form o ≡ Ok x → o ≡ Some x
op_found (Some y) x e = let same = ok_same y x e in ap (λ (z : Op). Some z) same
op_found None x e = absurd cc

op_to : (t : Token) (x : Op) → op_of t ≡ Ok x → (said t ≡ op_word x) × Always x
op_to kinds.Open x e = absurd cc
op_to kinds.Close x e = absurd cc
op_to (kinds.Name w) x e = (ap (λ (y : List ℕ). Name y) (op_in w x (op_found (op_named w) x e)), tt)
op_to (kinds.Var w) x e = absurd cc
op_to (kinds.Number w) x e = absurd cc
op_to (kinds.Str w) x e = absurd cc

op_from : (t : Token) (x : Op) → IsSound t → said t ≡ op_word x → Always x → op_of t ≡ Ok x
op_from kinds.Open x sound e fit = absurd cc
op_from kinds.Close x sound e fit = absurd cc
op_from (kinds.Name w) x sound e fit = ap (λ (y : List ℕ). or_form (op_named y)) (bytes_same w (op_name x) e) ∙ ap or_form (op_again x)
op_from (kinds.Var w) x sound e fit = absurd cc
op_from (kinds.Number w) x sound e fit = absurd cc
op_from (kinds.Str w) x sound e fit = absurd cc

pub op_form : (n : ℕ) → Forms n op_at itself (λ x. plain (op_word x) ∷ []) (Always)
unfolding op_at
op_form n = token_forms n op_of (op_word) (Always) op_to op_from

abbrev pub split_name : Bool → List ℕ
split_name false = codes "range"
split_name true = codes "split"

abbrev split_named : List ℕ → Option Bool
split_named w = second_of (codes "range") (codes "split") w

split_in : (w : List ℕ) (x : Bool) → split_named w ≡ Some x → w ≡ split_name x
split_in w x e = among split_name false w _ x e (λ e. among split_name true w _ x e (λ e. absurd cc))

pub split_again : (x : Bool) → split_named (split_name x) ≡ Some x
split_again false = refl
split_again true = refl

abbrev split_word : Bool → Word
split_word x = Name (split_name x)

split_found : (o : Option Bool) (x : Bool) → or_form o ≡ Ok x → o ≡ Some x
split_found (Some y) x e = let same = ok_same y x e in ap (λ (z : Bool). Some z) same
split_found None x e = absurd cc

split_to : (t : Token) (x : Bool) → split_of t ≡ Ok x → (said t ≡ split_word x) × Always x
split_to kinds.Open x e = absurd cc
split_to kinds.Close x e = absurd cc
split_to (kinds.Name w) x e = (ap (λ (y : List ℕ). Name y) (split_in w x (split_found (split_named w) x e)), tt)
split_to (kinds.Var w) x e = absurd cc
split_to (kinds.Number w) x e = absurd cc
split_to (kinds.Str w) x e = absurd cc

split_from : (t : Token) (x : Bool) → IsSound t → said t ≡ split_word x → Always x → split_of t ≡ Ok x
split_from kinds.Open x sound e fit = absurd cc
split_from kinds.Close x sound e fit = absurd cc
split_from (kinds.Name w) x sound e fit = ap (λ (y : List ℕ). or_form (split_named y)) (bytes_same w (split_name x) e) ∙ ap or_form (split_again x)
split_from (kinds.Var w) x sound e fit = absurd cc
split_from (kinds.Number w) x sound e fit = absurd cc
split_from (kinds.Str w) x sound e fit = absurd cc

pub split_form : (n : ℕ) → Forms n split_word_at itself (λ x. plain (split_word x) ∷ []) (Always)
unfolding split_word_at
split_form n = token_forms n split_of (split_word) (Always) split_to split_from

abbrev direction_named : List ℕ → Option Bool
direction_named w = second_of (codes "asc") (codes "desc") w

direction_in : (w : List ℕ) (x : Bool) → direction_named w ≡ Some x → w ≡ direction x
direction_in w x e = among direction false w _ x e (λ e. among direction true w _ x e (λ e. absurd cc))

pub direction_again : (x : Bool) → direction_named (direction x) ≡ Some x
direction_again false = refl
direction_again true = refl

abbrev direction_word : Bool → Word
direction_word x = Name (direction x)

direction_found : (o : Option Bool) (x : Bool) → or_form o ≡ Ok x → o ≡ Some x
direction_found (Some y) x e = let same = ok_same y x e in ap (λ (z : Bool). Some z) same
direction_found None x e = absurd cc

direction_to : (t : Token) (x : Bool) → direction_of t ≡ Ok x → (said t ≡ direction_word x) × Always x
direction_to kinds.Open x e = absurd cc
direction_to kinds.Close x e = absurd cc
direction_to (kinds.Name w) x e = (ap (λ (y : List ℕ). Name y) (direction_in w x (direction_found (direction_named w) x e)), tt)
direction_to (kinds.Var w) x e = absurd cc
direction_to (kinds.Number w) x e = absurd cc
direction_to (kinds.Str w) x e = absurd cc

direction_from : (t : Token) (x : Bool) → IsSound t → said t ≡ direction_word x → Always x → direction_of t ≡ Ok x
direction_from kinds.Open x sound e fit = absurd cc
direction_from kinds.Close x sound e fit = absurd cc
direction_from (kinds.Name w) x sound e fit = ap (λ (y : List ℕ). or_form (direction_named y)) (bytes_same w (direction x) e) ∙ ap or_form (direction_again x)
direction_from (kinds.Var w) x sound e fit = absurd cc
direction_from (kinds.Number w) x sound e fit = absurd cc
direction_from (kinds.Str w) x sound e fit = absurd cc

pub direction_form : (n : ℕ) → Forms n direction_at itself (λ x. plain (direction_word x) ∷ []) (Always)
unfolding direction_at
direction_form n = token_forms n direction_of (direction_word) (Always) direction_to direction_from

abbrev pub root_name : Bool → List ℕ
root_name false = codes "dataset"
root_name true = codes "result"

abbrev root_named : List ℕ → Option Bool
root_named w = second_of (codes "dataset") (codes "result") w

root_in : (w : List ℕ) (x : Bool) → root_named w ≡ Some x → w ≡ root_name x
root_in w x e = among root_name false w _ x e (λ e. among root_name true w _ x e (λ e. absurd cc))

pub root_again : (x : Bool) → root_named (root_name x) ≡ Some x
root_again false = refl
root_again true = refl

abbrev root_word : Bool → Word
root_word x = Name (root_name x)

root_found : (o : Option Bool) (x : Bool) → or_form o ≡ Ok x → o ≡ Some x
root_found (Some y) x e = let same = ok_same y x e in ap (λ (z : Bool). Some z) same
root_found None x e = absurd cc

root_to : (t : Token) (x : Bool) → is_root_of t ≡ Ok x → (said t ≡ root_word x) × Always x
root_to kinds.Open x e = absurd cc
root_to kinds.Close x e = absurd cc
root_to (kinds.Name w) x e = (ap (λ (y : List ℕ). Name y) (root_in w x (root_found (root_named w) x e)), tt)
root_to (kinds.Var w) x e = absurd cc
root_to (kinds.Number w) x e = absurd cc
root_to (kinds.Str w) x e = absurd cc

root_from : (t : Token) (x : Bool) → IsSound t → said t ≡ root_word x → Always x → is_root_of t ≡ Ok x
root_from kinds.Open x sound e fit = absurd cc
root_from kinds.Close x sound e fit = absurd cc
root_from (kinds.Name w) x sound e fit = ap (λ (y : List ℕ). or_form (root_named y)) (bytes_same w (root_name x) e) ∙ ap or_form (root_again x)
root_from (kinds.Var w) x sound e fit = absurd cc
root_from (kinds.Number w) x sound e fit = absurd cc
root_from (kinds.Str w) x sound e fit = absurd cc

pub root_word_form : (n : ℕ) → Forms n is_root_at itself (λ x. plain (root_word x) ∷ []) (Always)
unfolding is_root_at
root_word_form n = token_forms n is_root_of (root_word) (Always) root_to root_from

titled_in : (b : Bool) (u : Unit {0}) → titled b ≡ Ok u → b ≡ true
titled_in true u e = refl
titled_in false u e = absurd cc

abbrev title_word : Unit {0} → Word
title_word u = Name (codes "algebricks")

title_to : (t : Token) (x : Unit {0}) → title_of t ≡ Ok x → (said t ≡ title_word x) × Always x
title_to kinds.Open x e = absurd cc
title_to kinds.Close x e = absurd cc
title_to (kinds.Name w) x e = (ap (λ (y : List ℕ). Name y) (word_is w (codes "algebricks") (titled_in (bytes_eq w (codes "algebricks")) x e)), tt)
title_to (kinds.Var w) x e = absurd cc
title_to (kinds.Number w) x e = absurd cc
title_to (kinds.Str w) x e = absurd cc

title_from : (t : Token) (x : Unit {0}) → IsSound t → said t ≡ title_word x → Always x → title_of t ≡ Ok x
title_from kinds.Open x sound e fit = absurd cc
title_from kinds.Close x sound e fit = absurd cc
title_from (kinds.Name w) x sound e fit = ap (λ (y : List ℕ). titled (bytes_eq y (codes "algebricks"))) (bytes_same w (codes "algebricks") e)
title_from (kinds.Var w) x sound e fit = absurd cc
title_from (kinds.Number w) x sound e fit = absurd cc
title_from (kinds.Str w) x sound e fit = absurd cc

pub title_form : (n : ℕ) → Forms n title_at itself (λ x. plain (title_word x) ∷ []) (Always)
unfolding title_at
title_form n = token_forms n title_of (title_word) (Always) title_to title_from
