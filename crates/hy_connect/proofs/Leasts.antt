-- A look for the least of the first rows.
use Rattle.std.proofs.Common.{◌≡◌, ◌≢◌, ◌⊎◌, ◌<◌, ◌≤◌, ◌+◌, inl, inr, ℕ, Bool, true, false, List, [], ◌∷◌, length, Option, None, Some, refl, sym, subst, arith}
use Rattle.std.specs.Prelude.{if◌then◌else◌}
use Rattle.al_value.specs.declared.settings.SortKey.{SortKey}
use Rattle.hy_frame.specs.Row.{Fields}
use Rattle.hy_job.proofs.Members.{by_cases, no_bool}
use Rattle.hy_driver.specs.Rows.{values_of}
use Rattle.hy_connect.specs.Sources.{SourceOf, TellsLeast, first_at, first_in, first_of, hand, is_before, lesser_of, source_at}
use Rattle.hy_connect.proofs.Fronts.{last_or_before}
use Rattle.hy_connect.proofs.Merging.{keys_order}

one_way : (keys : List SortKey) (a b : Option Fields) → is_before keys a b ≡ true → is_before keys b a ≡ false
one_way keys None b e = absurd (no_bool (sym e))
one_way keys (Some a) None e = refl
one_way keys (Some a) (Some b) e = let o = keys_order keys in o.one_way (values_of a) (values_of b) e

chain : (keys : List SortKey) (a b c : Option Fields) → is_before keys a b ≡ false → is_before keys b c ≡ false → is_before keys a c ≡ false
chain keys None b c e f = refl
chain keys (Some a) None c e f = absurd (no_bool e)
chain keys (Some a) (Some b) None e f = absurd (no_bool f)
chain keys (Some a) (Some b) (Some c) e f = let o = keys_order keys in o.chain (values_of a) (values_of b) (values_of c) e f

not_itself : (keys : List SortKey) (a : Option Fields) → is_before keys a a ≡ false
not_itself keys a = by_cases (is_before keys a a) (λ y. one_way keys a a y) (λ n. n)

-- a place was found before this one, of which a first row is there
abbrev pub IsFound : List SourceOf → Option ℕ → Type 0
IsFound xs None = Unit {0}
IsFound xs (Some k) = (k < length xs) × (first_at xs k ≢ None)

-- of those before a place the first row of the one that was found is the least
pub record LeastBefore (keys : List SortKey) (xs : List SourceOf) (n : ℕ) (least : Option ℕ) : Type 0 where
  pub found : IsFound xs least
  pub low : (j : ℕ) → j < n → is_before keys (first_at xs j) (first_in xs least) ≡ false

pub least_none : (keys : List SortKey) (xs : List SourceOf) → LeastBefore keys xs 0 None
least_none keys xs = record { found = tt; low = λ j before. absurd (omega arith) }

none_before : (keys : List SortKey) (a b : Option Fields) → is_before keys a b ≡ true → a ≢ None
none_before keys None b e n = no_bool (sym e)
none_before keys (Some a) b e n = cc

module _ (keys : List SortKey) (xs : List SourceOf) (k : ℕ) (least : Option ℕ) (there : k < length xs) (h : LeastBefore keys xs k least) where
  low_less : is_before keys (first_at xs k) (first_in xs least) ≡ true → (j : ℕ) → (j ≡ k) ⊎ (j < k) → is_before keys (first_at xs j) (first_at xs k) ≡ false
  low_less less j (inl e) = subst (λ (i : ℕ). is_before keys (first_at xs i) (first_at xs k) ≡ false) (sym e) (not_itself keys (first_at xs k))
  low_less less j (inr before) = chain keys (first_at xs j) (first_in xs least) (first_at xs k) (h.low j before) (one_way keys (first_at xs k) (first_in xs least) less)

  low_not : is_before keys (first_at xs k) (first_in xs least) ≡ false → (j : ℕ) → (j ≡ k) ⊎ (j < k) → is_before keys (first_at xs j) (first_in xs least) ≡ false
  low_not more j (inl e) = subst (λ (i : ℕ). is_before keys (first_at xs i) (first_in xs least) ≡ false) (sym e) more
  low_not more j (inr before) = h.low j before

  by_look : (b : Bool) → is_before keys (first_at xs k) (first_in xs least) ≡ b → LeastBefore keys xs (k + 1) (if b then Some k else least)
  by_look true less = record {
    found = (there, none_before keys (first_at xs k) (first_in xs least) less);
    low = λ j before. low_less less j (last_or_before j k before);
  }
  by_look false more = record { found = h.found; low = λ j before. low_not more j (last_or_before j k before) }

  pub least_more : (now : Option ℕ) → now ≡ lesser_of keys xs k least → LeastBefore keys xs (k + 1) now
  least_more now is = subst (LeastBefore keys xs (k + 1)) (sym is) (by_look (is_before keys (first_at xs k) (first_in xs least)) refl)

bare_first : (keys : List SortKey) (rows : List Fields) → is_before keys (first_of rows) None ≡ false → rows ≡ []
bare_first keys [] e = refl
bare_first keys (row ∷ rows) e = absurd (no_bool e)

pub least_end : (keys : List SortKey) (xs : List SourceOf) (n : ℕ) (least : Option ℕ) → length xs ≤ n → LeastBefore keys xs n least → TellsLeast keys xs least
least_end keys xs n None above h = λ s low. bare_first keys (hand (source_at xs s)) (h.low s (omega arith))
least_end keys xs n (Some k) above h = record { there = h.found.0; some = h.found.1; least = λ j low. h.low j (omega arith) }
