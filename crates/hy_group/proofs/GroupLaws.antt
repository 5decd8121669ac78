-- Groups that get a row more, or are taken out from behind.
use Rattle.std.proofs.Common.{◌≡◌, ◌≢◌, ◌+◌, ◌≤◌, ℕ, List, [], ◌∷◌, ◌++◌, flat_map, length, refl, sym, ap, subst, ◌∙◌, inl, inr, arith, append_assoc, append-nil, length-append}
use Rattle.std.specs.List.{All, AllByRecursion, AllZip}
use Rattle.std.specs.List.Sorted.{IsPermutation}
use Rattle.std.proofs.lemmas.List.Elements.{All-from_recursion, recursion_from_All}
use Rattle.std.proofs.lemmas.List.Sorted.{IsPermutation-refl, IsPermutation-trans, IsPermutation-append_left, IsPermutation-append_right, IsPermutation-append_comm}
use Rattle.al_agg.specs.declared.part.Part.{Part}
use Rattle.hy_job.specs.Columns.{Row, Group, key_of, rows_in}
use Rattle.hy_group.specs.Groups.{Added, Entry, HaveOwnKeys, IsKept, Seeing, SeenMore, StandFor}

pub same_order : (xs ys : List Row) → xs ≡ ys → IsPermutation xs ys
same_order xs ys e = subst (IsPermutation xs) e (IsPermutation-refl xs)

-- ---- a row more

-- one row behind the first of two lists, or behind both
late : (xs ys : List Row) (row : Row) → IsPermutation ((xs ++ ys) ++ row ∷ []) ((xs ++ row ∷ []) ++ ys)
late xs ys row =
    IsPermutation-trans _ _ _ (same_order _ _ (append_assoc xs ys (row ∷ [])))
    (IsPermutation-trans _ _ _ (IsPermutation-append_right xs (ys ++ row ∷ []) (row ∷ ys) (IsPermutation-append_comm ys (row ∷ []))) (same_order _ _ (sym (append_assoc xs (row ∷ []) ys))))

all_push : {A : Type 0} (P : A → Type 0) (xs : List A) (x : A) → AllByRecursion P xs → P x → AllByRecursion P (xs ++ x ∷ [])
all_push P [] x h p = (p, tt)
all_push P (y ∷ xs) x h p = (h.0, all_push P xs x h.1 p)

module _ (sees : Seeing) (right : List Part → Type 0) (keys : List ℕ) (key row : Row) where
  abbrev Wider : List Group → List Entry → Type 0
  Wider groups entries' = (groups' : List Group) × AllZip (IsKept sees keys) groups' entries' × IsPermutation (flat_map rows_in groups ++ row ∷ []) (flat_map rows_in groups')

  wider_here : key ≡ key_of keys row → (g : Group) (groups : List Group) (e : Entry) (es entries' : List Entry) (states : List Part) → e.0 ≡ key → SeenMore sees right row e.1 states → entries' ≡ (e.0, states) ∷ es
      → IsKept sees keys g e → AllZip (IsKept sees keys) groups es → Wider (g ∷ groups) entries'
  wider_here own g groups e es entries' states same more is first others = (
    (g.0, g.1 ++ row ∷ []) ∷ groups,
    subst (λ (fs : List Entry). AllZip (IsKept sees keys) ((g.0, g.1 ++ row ∷ []) ∷ groups) fs) (sym is)
        (record { alike = (first.alike.0, all_push (λ r. key_of keys r ≡ e.0) g.1 row first.alike.1 (sym own ∙ sym same)); seen = more.more (rows_in g) first.seen }, others),
    late (rows_in g) (flat_map rows_in groups) row,
  )

  wider_behind : (g : Group) (groups : List Group) (e : Entry) (more entries' : List Entry) → entries' ≡ e ∷ more → IsKept sees keys g e → Wider groups more → Wider (g ∷ groups) entries'
  wider_behind g groups e more entries' is first rest = (
    g ∷ rest.0,
    subst (λ (fs : List Entry). AllZip (IsKept sees keys) (g ∷ rest.0) fs) (sym is) (first, rest.1),
    IsPermutation-trans _ _ _ (same_order _ _ (append_assoc (rows_in g) (flat_map rows_in groups) (row ∷ []))) (IsPermutation-append_right (rows_in g) _ _ rest.2),
  )

  widened : key ≡ key_of keys row → (groups : List Group) (entries entries' : List Entry) → Added sees right key row entries entries' → AllZip (IsKept sees keys) groups entries → Wider groups entries'
  unfolding Added
  widened own [] [] entries' added kept = (
    (row, []) ∷ [],
    subst (λ (es : List Entry). AllZip (IsKept sees keys) ((row, []) ∷ []) es) (sym added.3) (record { alike = (sym own, tt); seen = added.1 }, tt),
    IsPermutation-refl (row ∷ []),
  )
  widened own [] (e ∷ es) entries' added kept = absurd kept
  widened own (g ∷ groups) [] entries' added kept = absurd kept
  widened own (g ∷ groups) (e ∷ es) entries' added kept = elim added [
    | inl here ↦ wider_here own g groups e es entries' here.1.0 here.0 here.1.1 here.1.2 kept.0 kept.1
    | inr there ↦ wider_behind g groups e there.1.0 entries' there.1.2 kept.0 (widened own groups es there.1.0 there.1.1 kept.1)
  ]

  -- what holds of all keys and of the new one
  all_keys : (P : Row → Type 0) → P key → (entries entries' : List Entry) → Added sees right key row entries entries' → AllByRecursion (λ f. P f.0) entries → AllByRecursion (λ f. P f.0) entries'
  unfolding Added
  all_keys P p [] entries' added h = subst (AllByRecursion (λ (f : Entry). P f.0)) (sym added.3) (p, tt)
  all_keys P p (e ∷ es) entries' added h = elim added [
    | inl here ↦ subst (AllByRecursion (λ (f : Entry). P f.0)) (sym here.1.2) (h.0, h.1)
    | inr there ↦ subst (AllByRecursion (λ (f : Entry). P f.0)) (sym there.1.2) (h.0, all_keys P p es there.1.0 there.1.1 h.1)
  ]

  own_keys : (entries entries' : List Entry) → Added sees right key row entries entries' → HaveOwnKeys entries → HaveOwnKeys entries'
  unfolding Added
  own_keys [] entries' added h = subst HaveOwnKeys (sym added.3) (tt, tt)
  own_keys (e ∷ es) entries' added h = elim added [
    | inl here ↦ subst HaveOwnKeys (sym here.1.2) (h.0, h.1)
    | inr there ↦ subst HaveOwnKeys (sym there.1.2) (all_keys (λ k. e.0 ≢ k) there.0 es there.1.0 there.1.1 h.0, own_keys es there.1.0 there.1.1 h.1)
  ]

  all_right : (entries entries' : List Entry) → Added sees right key row entries entries' → AllByRecursion (λ e. right e.1) entries → AllByRecursion (λ e. right e.1) entries'
  unfolding Added
  all_right [] entries' added h = subst (AllByRecursion (λ (e : Entry). right e.1)) (sym added.3) (added.2, tt)
  all_right (e ∷ es) entries' added h = elim added [
    | inl here ↦ subst (AllByRecursion (λ (e : Entry). right e.1)) (sym here.1.2) (here.1.1.fit, h.1)
    | inr there ↦ subst (AllByRecursion (λ (e : Entry). right e.1)) (sym there.1.2) (h.0, all_right es there.1.0 there.1.1 h.1)
  ]

  -- the states of each group are right
  pub right_added : (entries entries' : List Entry) → Added sees right key row entries entries' → All (λ (e : Entry). right e.1) entries → All (λ (e : Entry). right e.1) entries'
  right_added entries entries' added h = All-from_recursion _ entries' (all_right entries entries' added (recursion_from_All _ entries h))

  -- there is one group more at most
  pub few_added : (entries entries' : List Entry) → Added sees right key row entries entries' → length entries' ≤ length entries + 1
  unfolding Added
  few_added [] entries' added = subst (λ (es : List Entry). length es ≤ 1) (sym added.3) (omega arith)
  few_added (e ∷ es) entries' added = elim added [
    | inl here ↦ subst (λ (fs : List Entry). length fs ≤ length (e ∷ es) + 1) (sym here.1.2) (omega arith)
    | inr there ↦ let less = few_added es there.1.0 there.1.1 in subst (λ (fs : List Entry). length fs ≤ length (e ∷ es) + 1) (sym there.1.2) (omega (arith, less))
  ]

  pub stand_more : (entries entries' : List Entry) (rows : List Row) → key ≡ key_of keys row → Added sees right key row entries entries' → StandFor sees keys entries rows → StandFor sees keys entries' (rows ++ row ∷ [])
  stand_more entries entries' rows own added stands =
      let wide = widened own stands.groups entries entries' added stands.kept in record {
        groups = wide.0;
        moved = IsPermutation-trans _ _ _ (IsPermutation-append_left (row ∷ []) rows (flat_map rows_in stands.groups) stands.moved) wide.2;
        kept = wide.1;
        apart = own_keys entries entries' added stands.apart;
      }

-- ---- none

pub none_stand : (sees : Seeing) (keys : List ℕ) → StandFor sees keys [] []
none_stand sees keys = record { groups = []; moved = IsPermutation-refl []; kept = tt; apart = tt }

-- ---- the last one taken out

front_all : {A : Type 0} (P : A → Type 0) (xs : List A) (x : A) → AllByRecursion P (xs ++ x ∷ []) → AllByRecursion P xs
front_all P [] x h = tt
front_all P (y ∷ xs) x h = (h.0, front_all P xs x h.1)

pub own_front : (es : List Entry) (e : Entry) → HaveOwnKeys (es ++ e ∷ []) → HaveOwnKeys es
own_front [] e h = tt
own_front (f ∷ es) e h = (front_all (λ g. f.0 ≢ g.0) es e h.0, own_front es e h.1)

pub right_front : (right : List Part → Type 0) (es : List Entry) (e : Entry) → All (λ (f : Entry). right f.1) (es ++ e ∷ []) → All (λ (f : Entry). right f.1) es
right_front right es e h = All-from_recursion _ es (front_all (λ (f : Entry). right f.1) es e (recursion_from_All _ (es ++ e ∷ []) h))

-- the same where they are the front of others
pub front_right : (right : List Part → Type 0) (entries es : List Entry) (e : Entry) → entries ≡ es ++ e ∷ [] → All (λ (f : Entry). right f.1) entries → All (λ (f : Entry). right f.1) es
front_right right entries es e is h = right_front right es e (subst (All (λ (f : Entry). right f.1)) is h)

-- there is one, so they are not none
pub some_entry : (entries es : List Entry) (e : Entry) → entries ≡ es ++ e ∷ [] → entries ≢ []
some_entry entries es e is gone =
    let long = ap (λ (l : List Entry). length l) (sym is ∙ gone) in
    let more = length-append es (e ∷ []) in
    absurd (omega (arith, long, more))

-- of lists that go together, the last of both
pub last_of : {A B : Type 0} (R : A → B → Type 0) (xs : List A) (ys : List B) (y : B) → AllZip R xs (ys ++ y ∷ []) → (front : List A) × (x : A) × (xs ≡ front ++ x ∷ []) × AllZip R front ys × R x y
last_of R [] [] y h = absurd h
last_of R [] (z ∷ ys) y h = absurd h
last_of R (x ∷ []) [] y h = ([], x, refl, tt, h.0)
last_of R (x ∷ w ∷ xs) [] y h = absurd h.1
last_of R (x ∷ xs) (z ∷ ys) y h = let more = last_of R xs ys y h.1 in (x ∷ more.0, more.1, ap (λ l. x ∷ l) more.2, (h.0, more.3), more.4)

pub flat_last : (gs : List Group) (g : Group) → flat_map rows_in (gs ++ g ∷ []) ≡ flat_map rows_in gs ++ rows_in g
flat_last [] g = append-nil (rows_in g)
flat_last (h ∷ gs) g = ap (λ (l : List Row). rows_in h ++ l) (flat_last gs g) ∙ sym (append_assoc (rows_in h) (flat_map rows_in gs) (rows_in g))
