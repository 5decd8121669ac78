-- Rows at hand, and how many frames hold them.
use Rattle.std.proofs.Common.{◌≡◌, ◌≢◌, ◌⊎◌, ◌<◌, ◌≤◌, ◌+◌, ◌-◌, inl, inr, ℕ, zero, suc, List, [], ◌∷◌, length, drop, set, get_or, Option, None, Some, refl, sym, ap, subst, ◌∙◌, arith, length-set, get_or-set_other}
use Rattle.std.proofs.lemmas.Grind.{get_or-set_at}
use Rattle.std.proofs.lemmas.List.{drop_all, drop_more, get_or_default}
use Rattle.hy_frame.specs.Bank.{BankOf}
use Rattle.hy_frame.specs.Frame.{FrameOf}
use Rattle.hy_frame.specs.FrameText.{AllRows}
use Rattle.hy_frame.specs.Row.{Fields}
use Rattle.hy_connect.specs.Outlets.{held_in}
use Rattle.hy_connect.specs.Sources.{SourceOf, AreBareBefore, AreBare, Brings, HasGiven, LetGo, LetGoBefore, LetsGo, Returns, advanced, bare, frame_rows, frames_held, given, hand, no_source, source_at}
use Rattle.hy_connect.proofs.Fronts.{last_or_before}

-- ---- one sender

pub hand_some : (rows : List Fields) (n : ℕ) → n < length rows → drop n rows ≡ get_or rows n [] ∷ drop (n + 1) rows
hand_some rows n low = drop_more rows n [] low

pub some_is : (row : Fields) (rows more : List Fields) → rows ≡ row ∷ more → rows ≢ []
some_is row rows more e none = cc

pub hand_short : (rows : List Fields) (n : ℕ) → drop n rows ≢ [] → n < length rows
hand_short rows n some = elim (which rows n) [ inl low ↦ low | inr high ↦ absurd (some (drop_all n rows high)) ]
  where
    which : (rows : List Fields) (n : ℕ) → (n < length rows) ⊎ (length rows ≤ n)
    which [] n = inr (omega arith)
    which (row ∷ rows) zero = inl (omega arith)
    which (row ∷ rows) (suc n) = elim (which rows n) [ inl low ↦ inl (omega arith) | inr high ↦ inr (omega arith) ]

pub hand_none : (n : ℕ) → drop n (frame_rows None) ≡ []
hand_none n = drop_all n [] (omega arith)

pub bare_hand : (x : SourceOf) → hand (bare x) ≡ []
bare_hand x = hand_none x.next

pub bare_rows : (width : ℕ) (x : SourceOf) → AllRows width (hand (bare x))
bare_rows width x = subst (AllRows width) (sym (bare_hand x)) tt

-- the row that is gone on to stands in front of what is left
pub advanced_hand : (x : SourceOf) → hand x ≢ [] → hand x ≡ given (advanced x) ∷ hand (advanced x)
advanced_hand x some =
    hand_some (frame_rows x.frame) x.next (hand_short (frame_rows x.frame) x.next some)
    ∙ ap (λ (n : ℕ). get_or (frame_rows x.frame) n [] ∷ drop (x.next + 1) (frame_rows x.frame)) (back x.next)
  where
    back : (n : ℕ) → n ≡ n + 1 - 1
    back n = omega arith

pub advanced_given : (x : SourceOf) → hand x ≢ [] → HasGiven (advanced x)
advanced_given x some = let low = hand_short (frame_rows x.frame) x.next some in record { some = omega arith; there = omega arith }

-- ---- frames

pub frames_set : (xs : List SourceOf) (k : ℕ) (x : SourceOf) → k < length xs → frames_held (set xs k x) + held_in (source_at xs k).frame ≡ frames_held xs + held_in x.frame
frames_set [] k x low = absurd (omega arith)
frames_set (y ∷ ys) zero x low = omega arith
frames_set (y ∷ ys) (suc k) x low = let h = frames_set ys k x (omega arith) in omega arith

pub frames_least : (xs : List SourceOf) (k : ℕ) → k < length xs → held_in (source_at xs k).frame ≤ frames_held xs
frames_least [] k low = absurd (omega arith)
frames_least (x ∷ xs) zero low = omega arith
frames_least (x ∷ xs) (suc k) low = let h = frames_least xs k (omega arith) in omega arith

pub frames_none : (xs : List SourceOf) → ((k : ℕ) → k < length xs → (source_at xs k).frame ≡ None) → frames_held xs ≡ 0
frames_none [] h = refl
frames_none (x ∷ xs) h =
    let rest = frames_none xs (λ k low. h (suc k) (omega arith)) in
    let z : held_in x.frame ≡ 0 = ap held_in (h zero (omega arith)) in
    omega arith

-- ---- banks

pub returns_none : (n : ℕ) (a : BankOf) → Returns n n a a
returns_none n a = record { out = refl; unit = refl; limit = refl; taken = refl; exported = refl; imported = refl }

pub returns_then : (n m o : ℕ) (a b c : BankOf) → Returns n m a b → Returns m o b c → Returns n o a c
returns_then n m o a b c x y = record {
  out = let s = x.out in let t = y.out in omega arith;
  unit = y.unit ∙ x.unit;
  limit = y.limit ∙ x.limit;
  taken = y.taken ∙ x.taken;
  exported = y.exported ∙ x.exported;
  imported = y.imported ∙ x.imported;
}

pub returns_set : (xs : List SourceOf) (k : ℕ) (x : SourceOf) (a b : BankOf) → k < length xs → Returns (held_in (source_at xs k).frame) (held_in x.frame) a b → Returns (frames_held xs) (frames_held (set xs k x)) a b
returns_set xs k x a b low h = record {
  out = let s = h.out in let f = frames_set xs k x low in omega arith;
  unit = h.unit;
  limit = h.limit;
  taken = h.taken;
  exported = h.exported;
  imported = h.imported;
}

pub brings_set : (xs : List SourceOf) (k : ℕ) (x : SourceOf) (n : ℕ) (a b : BankOf) → k < length xs → Brings (held_in (source_at xs k).frame) (held_in x.frame + n) a b → Brings (frames_held xs) (frames_held (set xs k x) + n) a b
brings_set xs k x n a b low h = record {
  out = let s = h.out in let f = frames_set xs k x low in omega arith;
  unit = h.unit;
  limit = h.limit;
  taken = h.taken;
  exported = h.exported;
  imported = h.imported;
}

-- ---- one after the other

-- code reads a list with another default
pub read_source : (xs : List SourceOf) (k : ℕ) (d : SourceOf) → k < length xs → get_or xs k d ≡ source_at xs k
read_source xs k d low = get_or_default xs k d no_source low

pub set_source : (xs : List SourceOf) (k : ℕ) (x : SourceOf) → k < length xs → source_at (set xs k x) k ≡ x
set_source xs k x low = get_or-set_at xs k k x no_source refl low

pub keep_source : (xs : List SourceOf) (k j : ℕ) (x : SourceOf) → j ≢ k → source_at (set xs k x) j ≡ source_at xs j
keep_source xs k j x ne = get_or-set_other xs k j x no_source ne

pub let_go_none : (xs : List SourceOf) → LetGoBefore 0 xs xs
let_go_none xs = record { count = refl; done = λ s low there. absurd (omega arith); left = λ s low. refl }

let_go_done : (n s : ℕ) (xs ys : List SourceOf) (x : SourceOf) → n < length ys → LetGoBefore n xs ys → LetsGo (source_at ys n) x → s < length xs → (s ≡ n) ⊎ (s < n) → LetsGo (source_at xs s) (source_at (set ys n x) s)
let_go_done n s xs ys x low h goes there (inl e) =
    subst (λ (k : ℕ). LetsGo (source_at xs k) (source_at (set ys n x) k)) (sym e)
    (subst (LetsGo (source_at xs n)) (sym (set_source ys n x low))
    (subst (λ (y : SourceOf). LetsGo y x) (h.left n (omega arith)) goes))
let_go_done n s xs ys x low h goes there (inr before) =
    subst (LetsGo (source_at xs s)) (sym (keep_source ys n s x (λ e. absurd (omega arith)))) (h.done s before there)

pub let_go_more : (n : ℕ) (xs ys : List SourceOf) (x : SourceOf) → n < length ys → LetGoBefore n xs ys → LetsGo (source_at ys n) x → LetGoBefore (n + 1) xs (set ys n x)
let_go_more n xs ys x low h goes = record {
  count = length-set ys n x ∙ h.count;
  done = λ s before there. let_go_done n s xs ys x low h goes there (last_or_before s n before);
  left = λ s above. keep_source ys n s x (λ e. absurd (omega arith)) ∙ h.left s (omega arith);
}

pub let_go_end : (n : ℕ) (xs ys : List SourceOf) → length xs ≤ n → LetGoBefore n xs ys → LetGo xs ys
let_go_end n xs ys above h = record { count = h.count; each = λ s low. h.done s (omega arith) low }

pub bare_none : (xs : List SourceOf) → AreBareBefore 0 xs xs
bare_none xs = record { count = refl; done = λ s low there. absurd (omega arith); left = λ s low. refl }

bare_done : (n s : ℕ) (xs ys : List SourceOf) (x : SourceOf) → n < length ys → AreBareBefore n xs ys → x ≡ bare (source_at ys n) → s < length xs → (s ≡ n) ⊎ (s < n) → source_at (set ys n x) s ≡ bare (source_at xs s)
bare_done n s xs ys x low h is there (inl e) =
    ap (source_at (set ys n x)) e ∙ set_source ys n x low ∙ is ∙ ap bare (h.left n (omega arith)) ∙ ap (λ (k : ℕ). bare (source_at xs k)) (sym e)
bare_done n s xs ys x low h is there (inr before) = keep_source ys n s x (λ e. absurd (omega arith)) ∙ h.done s before there

pub bare_more : (n : ℕ) (xs ys : List SourceOf) (x : SourceOf) → n < length ys → AreBareBefore n xs ys → x ≡ bare (source_at ys n) → AreBareBefore (n + 1) xs (set ys n x)
bare_more n xs ys x low h is = record {
  count = length-set ys n x ∙ h.count;
  done = λ s before there. bare_done n s xs ys x low h is there (last_or_before s n before);
  left = λ s above. keep_source ys n s x (λ e. absurd (omega arith)) ∙ h.left s (omega arith);
}

pub bare_end : (n : ℕ) (xs ys : List SourceOf) → length xs ≤ n → AreBareBefore n xs ys → AreBare xs ys
bare_end n xs ys above h = record { count = h.count; each = λ s low. h.done s (omega arith) low }

-- ---- what code reads

pub has_some : (x : SourceOf) (f : FrameOf) (n : ℕ) → x.frame ≡ Some f → n ≡ length f.rows → x.next < n → hand x ≡ [] → ⊥
has_some x f n is len low none =
    some_is (get_or f.rows x.next []) (hand x) (drop (x.next + 1) f.rows)
    (ap (λ (g : Option FrameOf). drop x.next (frame_rows g)) is ∙ hand_some f.rows x.next (omega arith)) none

pub source_held : (xs : List SourceOf) (s n : ℕ) (x : SourceOf) → s < length xs → x ≡ get_or xs s x → frames_held xs ≤ n → held_in x.frame ≤ n
source_held xs s n x low is le =
    let h = frames_least xs s low in
    let e : held_in x.frame ≡ held_in (source_at xs s).frame = ap (λ (y : SourceOf). held_in y.frame) (is ∙ read_source xs s x low) in
    omega arith

-- one more has let go
pub let_go_next : (xs ys : List SourceOf) (n : ℕ) (d x : SourceOf) (a b c : BankOf) → n < length ys → d ≡ get_or ys n d → LetGoBefore n xs ys × Returns (frames_held xs) (frames_held ys) a b → LetsGo d x → Returns (held_in d.frame) (held_in x.frame) b c
    → LetGoBefore (n + 1) xs (set ys n x) × Returns (frames_held xs) (frames_held (set ys n x)) a c
let_go_next xs ys n d x a b c low is h goes r =
    let here = is ∙ read_source ys n d low in (
      let_go_more n xs ys x low h.0 (subst (λ (y : SourceOf). LetsGo y x) here goes),
      returns_then (frames_held xs) (frames_held ys) (frames_held (set ys n x)) a b c h.1
          (returns_set ys n x b c low (subst (λ (y : SourceOf). Returns (held_in y.frame) (held_in x.frame) b c) here r)),
    )

pub bare_next : (xs ys : List SourceOf) (n : ℕ) (d x : SourceOf) (a b c : BankOf) → n < length ys → d ≡ get_or ys n d → AreBareBefore n xs ys × Returns (frames_held xs) (frames_held ys) a b → x ≡ bare d → Returns (held_in d.frame) 0 b c
    → AreBareBefore (n + 1) xs (set ys n x) × Returns (frames_held xs) (frames_held (set ys n x)) a c
bare_next xs ys n d x a b c low is h goes r =
    let here = is ∙ read_source ys n d low in
    let none : held_in x.frame ≡ 0 = ap (λ (y : SourceOf). held_in y.frame) goes in (
      bare_more n xs ys x low h.0 (goes ∙ ap bare here),
      returns_then (frames_held xs) (frames_held ys) (frames_held (set ys n x)) a b c h.1
          (returns_set ys n x b c low
          (subst (λ (m : ℕ). Returns (held_in (source_at ys n).frame) m b c) (sym none)
          (subst (λ (y : SourceOf). Returns (held_in y.frame) 0 b c) here r))),
    )
