-- What a write at a found key and an insert of a new one do to the groups.
use Rattle.std.proofs.Common.{ℕ, zero, suc, ◌<◌, ◌≡◌, ◌≢◌, ◌∙◌, List, [], ◌∷◌, map, None, Some, Bool, true, false, true≢false, position, slice_get, get_or, length, refl, sym, ap, subst, arith, inl, inr, Vec}
use Rattle.std.specs.List.{All, AllByRecursion}
use Rattle.std.specs.Map.{keys_of}
use Rattle.std.proofs.lemmas.List.{length-map}
use Rattle.std.proofs.lemmas.List.Quantifiers.{position-Some}
use Rattle.std.proofs.lemmas.List.Elements.{recursion_from_All}
use Rattle.std.proofs.lemmas.List.Sums.{fails_before_first}
use Rattle.indexmap.specs.IndexMap.{insert_entry, set_value_at}
use Rattle.indexmap.proofs.MapLemmas.{Missing-position}
use Rattle.al_value.specs.declared.value.Value.{Value}
use Rattle.al_agg.specs.declared.part.Part.{Part}
use Rattle.hy_job.specs.Columns.{Row}
use Rattle.hy_group.specs.Groups.{Added, Entry, Seeing, SeenMore, entries_of}
use Rattle.hy_rows.proofs.Keys.{is_key, keys_decide}

found_same : (key k : Row) → is_key key k ≡ true → k ≡ key
found_same key k e = sym ((keys_decide key k).0 e)

not_found : (key k : Row) → is_key key k ≡ false → k ≢ key
not_found key k e same = absurd (true≢false (sym ((keys_decide key k).1 (sym same)) ∙ e))

-- what holds of all states holds of those at a place
pub right_at : {Y Z : Type 0} (right : List Part → Type 0) (es : List (Vec Value Y × Vec Part Z)) (i : ℕ) (states : Vec Part Z) → All (λ (e : Entry). right e.1) (entries_of es) → slice_get (map (λ (e : Vec Value Y × Vec Part Z). e.1) es) i ≡ Some states → right states.items
right_at {Y} {Z} right es i states each at = go es i (recursion_from_All (λ (e : Entry). right e.1) (entries_of es) each) at
  where
    go : (es : List (Vec Value Y × Vec Part Z)) (i : ℕ) → AllByRecursion (λ (e : Entry). right e.1) (entries_of es) → slice_get (map (λ (e : Vec Value Y × Vec Part Z). e.1) es) i ≡ Some states → right states.items
    go [] i h at = cc
    go (e ∷ es) zero h at = let same : e.1 ≡ states = cc in subst (λ (s : Vec Part Z). right s.items) same h.0
    go (e ∷ es) (suc i) h at = go es i h.1 at

abbrev pub same_key : {Y : Type 0} → Vec Value Y → Vec Value Y → Bool
same_key a b = is_key a.items b.items

module _ {Y Z : Type 0} (sees : Seeing) (right : List Part → Type 0) (row key : Row) where
  at_first : (es : List (Vec Value Y × Vec Part Z)) (i : ℕ) (old new : Vec Part Z) (d : Vec Value Y) → i < length es → is_key key (get_or (keys_of es) i d).items ≡ true
      → ((k : ℕ) → k < i → is_key key (get_or (keys_of es) k d).items ≡ false)
      → slice_get (map (λ (e : Vec Value Y × Vec Part Z). e.1) es) i ≡ Some old → SeenMore sees right row old.items new.items
      → Added sees right key row (entries_of es) (entries_of (set_value_at es i new))
  unfolding Added
  at_first [] i old new d low here before value more = absurd (omega arith)
  at_first (e ∷ es) zero old new d low here before value more =
      let same : old ≡ e.1 = cc in
      inl (found_same key e.0.items here, (new.items, subst (λ (s : Vec Part Z). SeenMore sees right row s.items new.items) same more, refl))
  at_first (e ∷ es) (suc i) old new d low here before value more =
      inr (not_found key e.0.items (before 0 (omega arith)), (entries_of (set_value_at es i new), at_first es i old new d (omega (arith, low)) here (λ k lt. before (suc k) (omega (arith, lt))) value more, refl))

  -- the states of a key that was found have seen the row
  pub added_at : (es : List (Vec Value Y × Vec Part Z)) (i : ℕ) (old new : Vec Part Z) → position (λ k. is_key key k.items) (keys_of es) ≡ Some i
      → slice_get (map (λ (e : Vec Value Y × Vec Part Z). e.1) es) i ≡ Some old → SeenMore sees right row old.items new.items
      → Added sees right key row (entries_of es) (entries_of (set_value_at es i new))
  added_at [] i old new at value more = cc
  added_at (e ∷ es) i old new at value more =
      let p = position-Some (λ k. is_key key k.items) (keys_of (e ∷ es)) i e.0 at in
      let low : i < length (e ∷ es) = simp length-map at p.0 in
      at_first (e ∷ es) i old new e.0 low p.1 p.2 value more

  new_last : (own : Vec Value Y) (es : List (Vec Value Y × Vec Part Z)) (states : Vec Part Z) (d : Vec Value Y) → own.items ≡ key → ((k : ℕ) → k < length es → same_key own (get_or (keys_of es) k d) ≡ false)
      → sees (row ∷ []) states.items → right states.items → Added sees right key row (entries_of es) (entries_of (insert_entry same_key es own states))
  unfolding Added
  new_last own [] states d is none seen fit = (states.items, seen, fit, ap (λ (k : Row). (k, states.items) ∷ []) is)
  new_last own (e ∷ es) states d is none seen fit =
      let m : same_key own e.0 ≡ false = none 0 (omega arith) in
      rw m (inr (not_found key e.0.items (subst (λ (k : Row). is_key k e.0.items ≡ false) is m), (entries_of (insert_entry same_key es own states), new_last own es states d is (λ k lt. none (suc k) (omega (arith, lt))) seen fit, refl)))

  -- a new group of a key that is not there
  pub added_new : (own : Vec Value Y) (es : List (Vec Value Y × Vec Part Z)) (states : Vec Part Z) → own.items ≡ key → None ≡ position (λ k. is_key key k.items) (keys_of es)
      → sees (row ∷ []) states.items → right states.items → Added sees right key row (entries_of es) (entries_of (insert_entry same_key es own states))
  added_new own es states is none seen fit =
      let gone = Missing-position (λ k. is_key key k.items) es (sym none) in
      let all = fails_before_first (λ k. is_key key k.items) (keys_of es) in
      new_last own es states own is (λ k lt. ap (λ (t : Row). is_key t (get_or (keys_of es) k own).items) is ∙ all k own (omega (arith, gone.or_len))) seen fit
