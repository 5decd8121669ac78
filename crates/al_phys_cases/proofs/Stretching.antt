-- The cases of stretches.
use Rattle.std.proofs.Common.{◌≡◌, ◌≢◌, ℕ, zero, suc, pos, false, List, [], ◌∷◌, refl, ap, sym, subst, ◌∙◌, arith}
use Rattle.std.specs.Int.{int_wrap}
use Rattle.std.specs.List.{All, AllAdjacentBelow, AllByRecursion, AllZip}
use Rattle.std.proofs.lemmas.List.Elements.{All-from_recursion}
use Rattle.al_value.specs.declared.value.Value.{Value}
use Rattle.al_value.specs.declared.value.Value.TheVariants as V
use Rattle.al_agg.specs.Agg.{agg}
use Rattle.al_plan.specs.declared.expr.Var.{Var}
use Rattle.al_plan.specs.declared.plan.Plan.TheVariants as P
use Rattle.al_plan.specs.Eval.{Env, bind}
use Rattle.al_plan.specs.Calls.{agg_call}
use Rattle.al_plan.specs.Allows.{Allows, Gives, live, nulls, with_new, agg_row, key_of, new_of, Group, rows_in}
use Rattle.al_plan.proofs.Moves.{Apart, apart_from_pairs, pairs_from_apart, AllPairs-permutation}
use Rattle.al_phys.specs.declared.phys.Phys.TheVariants as Q
use Rattle.al_phys.specs.declared.phys.Phys.TheOpen as L
use Rattle.al_phys.specs.Operators.{phys_live}
use Rattle.al_phys.specs.Parts.{Parts}
use Rattle.al_phys.specs.Gives.{IsGrouped, IsPreGrouped}
use Rattle.al_cases.specs.Cases.{t, a, b, n, int, row, counting, scan_a}
use Rattle.al_cases.proofs.Simple.{row-at}
use Rattle.al_cases.proofs.Joined.{live_a}
use Rattle.al_cases.proofs.Groups.{group_gives}
use Rattle.al_phys_cases.specs.PartCases.{at, OnlyParts, scan_of_a, grouped, counted, count}
use Rattle.al_phys_cases.specs.StretchCases.{stretched, pre_grouped, StretchesAreGrouped, HashGroupsStretches}
use Rattle.al_phys_cases.proofs.Two.{into, out, scan_only}
use Rattle.al_phys_cases.proofs.Hashing.{live_scan}

abbrev keys : List (Var × Var)
keys = (b, a) ∷ []

abbrev first : List Env
first = at 1 ∷ at 2 ∷ at 1 ∷ []

abbrev second : List Env
second = at 1 ∷ at 1 ∷ []

dealt : OnlyParts stretched scan_of_a ((at 1 ∷ at 2 ∷ at 1 ∷ []) ∷ (at 1 ∷ at 1 ∷ []) ∷ [])
dealt = scan_only stretched t (a ∷ []) first second refl refl

one_row : agg_row count (nulls ∷ []) ≡ row n (int 1)
unfolding agg_call agg int_wrap
one_row = refl

two_rows : agg_row count (nulls ∷ nulls ∷ []) ≡ row n (int 2)
unfolding agg_call agg int_wrap
two_rows = refl

same_live : phys_live scan_of_a ≡ live scan_a []
same_live = live_scan ∙ sym live_a

-- ---- stretches

abbrev three_groups : List Group
three_groups = (at 1, []) ∷ (at 2, []) ∷ (at 1, []) ∷ []

abbrev Same : Group → Type 0
Same g = All (λ r. key_of keys r ≡ key_of keys g.0) g.1

key_at : (j : ℕ) → key_of keys (at j) ≡ int j ∷ []
key_at j = ap (λ (v : Value). v ∷ []) (row-at (int j))

number : List Value → ℕ
number (V.Int (pos k) ∷ vs) = k
number vs = 0

keys_differ : (j k : ℕ) → key_of keys (at j) ≡ key_of keys (at k) → j ≡ k
unfolding number
keys_differ j k e = ap number (sym (key_at j) ∙ e ∙ key_at k)

none_beside : (g : Env) → All (λ r. key_of keys r ≡ key_of keys g) []
none_beside g k d lt = absurd (omega arith)

three_stretches : IsPreGrouped keys (counting P.Nested) false stretched (live scan_a []) (at 1 ∷ at 2 ∷ at 1 ∷ []) (counted 1 1 ∷ counted 2 1 ∷ counted 1 1 ∷ [])
three_stretches = (
  three_groups,
  record {
    all = refl;
    alike = All-from_recursion Same three_groups (none_beside (at 1), (none_beside (at 2), (none_beside (at 1), tt)));
    apart = apart;
  },
  (group_gives stretched (int 1) 1 (nulls ∷ []) one_row (at 1, []) refl refl, (group_gives stretched (int 2) 1 (nulls ∷ []) one_row (at 2, []) refl refl, (group_gives stretched (int 1) 1 (nulls ∷ []) one_row (at 1, []) refl refl, tt))),
)
  where
    apart : AllAdjacentBelow (λ (g h : Group). key_of keys g.0 ≢ key_of keys h.0) three_groups 3
    apart zero d low e = absurd (omega (arith, keys_differ 1 2 e))
    apart (suc zero) d low e = absurd (omega (arith, keys_differ 2 1 e))
    apart (suc (suc k)) d low e = absurd (omega (arith, low))

one_stretch : IsPreGrouped keys (counting P.Nested) false stretched (live scan_a []) (at 1 ∷ at 1 ∷ []) (counted 1 2 ∷ [])
one_stretch = (
  (at 1, at 1 ∷ []) ∷ [],
  record {
    all = refl;
    alike = All-from_recursion Same ((at 1, at 1 ∷ []) ∷ []) (All-from_recursion (λ (r : Env). key_of keys r ≡ key_of keys (at 1)) (at 1 ∷ []) (refl, tt), tt);
    apart = λ k d low high. absurd (omega arith);
  },
  (group_gives stretched (int 1) 2 (nulls ∷ nulls ∷ []) two_rows (at 1, at 1 ∷ []) refl refl, tt),
)

abbrev PreGrouped : List Var → List Env → List Env → Type 0
PreGrouped vars rows r = IsPreGrouped keys (counting P.Nested) false stretched vars rows r

pub stretches_are_grouped : StretchesAreGrouped
stretches_are_grouped = into stretched (L.PreGroup keys (counting P.Nested) scan_of_a) pre_grouped (Q.rolls-PreGroup keys (counting P.Nested) scan_of_a) _ (
  first ∷ second ∷ [],
  dealt.allowed,
  subst (λ (vars : List Var). AllZip (PreGrouped vars) (first ∷ second ∷ []) ((counted 1 1 ∷ counted 2 1 ∷ counted 1 1 ∷ []) ∷ (counted 1 2 ∷ []) ∷ [])) (sym same_live) (three_stretches, (one_stretch, tt)),
)

-- ---- groups of all rows

abbrev Row : List Var → Group → Env → Type 0
Row vars g r = Gives (Allows (counting P.Nested)) false stretched vars (rows_in g) (λ inner. r ≡ with_new (new_of keys) (key_of keys g.0) inner)

-- a group's row has its key
row_key : (vars : List Var) (g : Group) (r : Env) → Row vars g r → r b.name ≡ g.0 a.name
unfolding bind
row_key vars g r h = ap (λ (s : Env). s b.name) h.2

abbrev Differ : Env → Env → Type 0
Differ r s = r b.name ≢ s b.name

abbrev KeysDiffer : Group → Group → Type 0
KeysDiffer g h = key_of keys g.0 ≢ key_of keys h.0

from_others : (vars : List Var) (g : Group) (r : Env) → Row vars g r → (gs : List Group) (rs : List Env) → AllZip (Row vars) gs rs → AllByRecursion (KeysDiffer g) gs → AllByRecursion (Differ r) rs
from_others vars g r own [] [] z h = tt
from_others vars g r own [] (s ∷ rs) z h = absurd z
from_others vars g r own (k ∷ gs) [] z h = absurd z
from_others vars g r own (k ∷ gs) (s ∷ rs) z h =
    ((λ e. h.0 (ap (λ (v : Value). v ∷ []) (sym (row_key vars g r own) ∙ e ∙ row_key vars k s z.0))), from_others vars g r own gs rs z.1 h.1)

made_apart : (vars : List Var) (gs : List Group) (rs : List Env) → AllZip (Row vars) gs rs → Apart KeysDiffer gs → Apart Differ rs
made_apart vars [] [] z h = tt
made_apart vars [] (r ∷ rs) z h = absurd z
made_apart vars (g ∷ gs) [] z h = absurd z
made_apart vars (g ∷ gs) (r ∷ rs) z h = (from_others vars g r z.0 gs rs z.1 h.0, made_apart vars gs rs z.1 h.1)

abbrev Grouped : List Env → List Env → Type 0
Grouped rows r = IsGrouped keys (counting P.Nested) false stretched (phys_live scan_of_a) rows r

not_grouped : (rows : List Env) → Grouped rows (counted 1 1 ∷ counted 2 1 ∷ counted 1 1 ∷ []) → ⊥
not_grouped rows h =
    let made = pairs_from_apart Differ h.1 (made_apart (phys_live scan_of_a) h.0 h.1 h.3 (apart_from_pairs KeysDiffer h.0 h.2.apart)) in
    AllPairs-permutation Differ (λ r s f e. f (sym e)) h.1 (counted 1 1 ∷ counted 2 1 ∷ counted 1 1 ∷ []) h.4 made 0 2 nulls (omega arith) (omega arith) refl

pub hash_groups_stretches : HashGroupsStretches → ⊥
hash_groups_stretches h =
    let over = out stretched (L.HashGroup keys (counting P.Nested) scan_of_a) (grouped scan_of_a) (Q.rolls-HashGroup keys (counting P.Nested) scan_of_a) _ h in
    let zipped = subst (λ (ps : Parts). AllZip Grouped ps ((counted 1 1 ∷ counted 2 1 ∷ counted 1 1 ∷ []) ∷ (counted 1 2 ∷ []) ∷ [])) (dealt.no_other over.0 over.1) over.2 in
    not_grouped first zipped.0
