-- How rows go to all outlets.
use Rattle.std.proofs.Common.{◌≡◌, ◌≢◌, ◌⊎◌, ◌<◌, ◌≤◌, ◌+◌, ℕ, nat_eq, Bool, true, false, cond, List, [], ◌∷◌, ◌++◌, map, filter, length, set, take, drop, get_or, None, refl, sym, ap, subst, ◌∙◌, inl, inr, arith, length-set, eq-eqb, ne_eqb, append-nil, add-one, take-append-drop, take_all, le_refl}
use Rattle.std.proofs.lemmas.Bool.{cases_lt}
use Rattle.std.proofs.lemmas.List.{map-append}
use Rattle.std.proofs.lemmas.List.Elements.{filter-append}
use Rattle.std.proofs.Math.Seq.{take-suc}
use Rattle.hy_frame.specs.Row.{Fields}
use Rattle.hy_frame.specs.Frame.{FrameOf}
use Rattle.hy_job.specs.Columns.{part_of}
use Rattle.hy_driver.specs.Rows.{Row, values_of}
use Rattle.hy_connect.specs.declared.route.Route.{Route}
use Rattle.hy_connect.specs.declared.route.Route.TheVariants as R
use Rattle.hy_connect.specs.Routes.{sent_by}
use Rattle.hy_connect.specs.Outlets.{OutletOf, Adds, Cuts, Grows, HasRows, IsOutlet, Sends, outlet_at}
use Rattle.hy_connect.specs.Many.{AreOutlets, FillNone, FrontAdds, Rips, Spreads}
use Rattle.hy_connect.proofs.Adding.{adds_cuts, adds_same, adds_then, adds_then_cuts, cuts_more, cuts_same, grows_cuts, sends_adds}
use Rattle.hy_connect.proofs.Fronts.{last_or_before, set_at, set_off}

-- ---- what goes where

pub sent_nil : (route : Route) (n k : ℕ) → sent_by route n k [] ≡ []
sent_nil R.Whole n k = refl
sent_nil (R.ByHash columns) n k = refl

pub sent_append : (route : Route) (n k : ℕ) (xs ys : List Row) → sent_by route n k (xs ++ ys) ≡ sent_by route n k xs ++ sent_by route n k ys
sent_append R.Whole n k xs ys = refl
sent_append (R.ByHash columns) n k xs ys = filter-append (λ (row : Row). nat_eq (part_of n columns row) k) xs ys

filter_one : (p : Row → Bool) (b : Bool) (v : Row) → p v ≡ b → filter p (v ∷ []) ≡ cond b (v ∷ []) []
filter_one p b v e = ap (λ (x : Bool). cond x (v ∷ []) []) e

sent_here : (columns : List ℕ) (n k : ℕ) (v : Row) → part_of n columns v ≡ k → sent_by (R.ByHash columns) n k (v ∷ []) ≡ v ∷ []
sent_here columns n k v e = filter_one (λ (row : Row). nat_eq (part_of n columns row) k) true v (eq-eqb (part_of n columns v) k e)

sent_elsewhere : (columns : List ℕ) (n k : ℕ) (v : Row) → part_of n columns v ≢ k → sent_by (R.ByHash columns) n k (v ∷ []) ≡ []
sent_elsewhere columns n k v e = filter_one (λ (row : Row). nat_eq (part_of n columns row) k) false v (ne_eqb (part_of n columns v) k e)

-- ---- one list of rows behind another

pub spreads_none : (route : Route) (arity : ℕ) (xs : List OutletOf) → AreOutlets arity xs → Spreads route arity xs [] xs
spreads_none route arity xs are = record {
  count = refl;
  each = λ k low. subst (λ (r : List Row). Adds arity (outlet_at xs k) r (outlet_at xs k)) (sym (sent_nil route (length xs) k)) (adds_same arity (outlet_at xs k) (are k low));
}

pub spreads_are : (route : Route) (arity : ℕ) (xs ys : List OutletOf) (rows : List Row) → Spreads route arity xs rows ys → AreOutlets arity ys
spreads_are route arity xs ys rows h = λ k low. let c = h.count in (h.each k (omega arith)).outlet

pub spreads_then : (route : Route) (arity : ℕ) (a b c : List OutletOf) (xs ys : List Row) → Spreads route arity a xs b → Spreads route arity b ys c → Spreads route arity a (xs ++ ys) c
spreads_then route arity a b c xs ys x y = record {
  count = y.count ∙ x.count;
  each = λ k low.
      let n = x.count in
      let more : Adds arity (outlet_at b k) (sent_by route (length a) k ys) (outlet_at c k) = subst (λ (m : ℕ). Adds arity (outlet_at b k) (sent_by route m k ys) (outlet_at c k)) x.count (y.each k (omega arith)) in
      subst (λ (r : List Row). Adds arity (outlet_at a k) r (outlet_at c k)) (sym (sent_append route (length a) k xs ys))
      (adds_then arity (outlet_at a k) (outlet_at b k) (outlet_at c k) (sent_by route (length a) k xs) (sent_by route (length a) k ys) (x.each k low) more);
}

-- a front of what was given could be taken, and of the row behind it a front
pub spreads_then_rips : (route : Route) (arity : ℕ) (a b c : List OutletOf) (xs ys zs : List Row) → Spreads route arity a xs b → Rips route arity b ys c → Rips route arity a ((xs ++ ys) ++ zs) c
spreads_then_rips route arity a b c xs ys zs x y = record {
  count = y.count ∙ x.count;
  each = λ k low.
      let n = x.count in
      let more : Cuts arity (outlet_at b k) (sent_by route (length a) k ys) (outlet_at c k) = subst (λ (m : ℕ). Cuts arity (outlet_at b k) (sent_by route m k ys) (outlet_at c k)) x.count (y.each k (omega arith)) in
      let front : Cuts arity (outlet_at a k) (sent_by route (length a) k xs ++ sent_by route (length a) k ys) (outlet_at c k) = adds_then_cuts arity (outlet_at a k) (outlet_at b k) (outlet_at c k) (sent_by route (length a) k xs) (sent_by route (length a) k ys) (x.each k low) more in
      let all : sent_by route (length a) k ((xs ++ ys) ++ zs) ≡ (sent_by route (length a) k xs ++ sent_by route (length a) k ys) ++ sent_by route (length a) k zs = sent_append route (length a) k (xs ++ ys) zs ∙ ap (λ (r : List Row). r ++ sent_by route (length a) k zs) (sent_append route (length a) k xs ys) in
      subst (λ (r : List Row). Cuts arity (outlet_at a k) r (outlet_at c k)) (sym all)
      (cuts_more arity (outlet_at a k) (outlet_at c k) (sent_by route (length a) k xs ++ sent_by route (length a) k ys) (sent_by route (length a) k zs) front);
}

pub rips_none : (route : Route) (arity : ℕ) (xs : List OutletOf) (rows : List Row) → AreOutlets arity xs → Rips route arity xs rows xs
rips_none route arity xs rows are = record { count = refl; each = λ k low. cuts_same arity (outlet_at xs k) (sent_by route (length xs) k rows) (are k low) }

-- ---- a row that its hash sends to one outlet

row_adds : (columns : List ℕ) (arity n k : ℕ) (xs : List OutletOf) (o : OutletOf) (v : Row) → n ≡ part_of (length xs) columns v → n < length xs → AreOutlets arity xs → Adds arity (outlet_at xs n) (v ∷ []) o → k < length xs → (k ≡ n) ⊎ (k ≢ n)
    → Adds arity (outlet_at xs k) (sent_by (R.ByHash columns) (length xs) k (v ∷ [])) (outlet_at (set xs n o) k)
row_adds columns arity n k xs o v part there are adds low (inl e) =
    subst (λ (r : List Row). Adds arity (outlet_at xs k) r (outlet_at (set xs n o) k)) (sym (sent_here columns (length xs) k v (sym part ∙ sym e)))
    (subst (λ (q : OutletOf). Adds arity (outlet_at xs k) (v ∷ []) q) (sym (set_at xs n k o there e))
    (subst (λ (j : ℕ). Adds arity (outlet_at xs j) (v ∷ []) o) (sym e) adds))
row_adds columns arity n k xs o v part there are adds low (inr off) =
    subst (λ (r : List Row). Adds arity (outlet_at xs k) r (outlet_at (set xs n o) k)) (sym (sent_elsewhere columns (length xs) k v (λ e. off (sym (part ∙ e)))))
    (subst (λ (q : OutletOf). Adds arity (outlet_at xs k) [] q) (sym (set_off xs n k o off)) (adds_same arity (outlet_at xs k) (are k low)))

row_cuts : (columns : List ℕ) (arity n k : ℕ) (xs : List OutletOf) (o : OutletOf) (v : Row) → n ≡ part_of (length xs) columns v → n < length xs → AreOutlets arity xs → Cuts arity (outlet_at xs n) (v ∷ []) o → k < length xs → (k ≡ n) ⊎ (k ≢ n)
    → Cuts arity (outlet_at xs k) (sent_by (R.ByHash columns) (length xs) k (v ∷ [])) (outlet_at (set xs n o) k)
row_cuts columns arity n k xs o v part there are cuts low (inl e) =
    subst (λ (r : List Row). Cuts arity (outlet_at xs k) r (outlet_at (set xs n o) k)) (sym (sent_here columns (length xs) k v (sym part ∙ sym e)))
    (subst (λ (q : OutletOf). Cuts arity (outlet_at xs k) (v ∷ []) q) (sym (set_at xs n k o there e))
    (subst (λ (j : ℕ). Cuts arity (outlet_at xs j) (v ∷ []) o) (sym e) cuts))
row_cuts columns arity n k xs o v part there are cuts low (inr off) =
    subst (λ (q : OutletOf). Cuts arity (outlet_at xs k) (sent_by (R.ByHash columns) (length xs) k (v ∷ [])) q) (sym (set_off xs n k o off))
    (cuts_same arity (outlet_at xs k) (sent_by (R.ByHash columns) (length xs) k (v ∷ [])) (are k low))

same_or_off : (k n : ℕ) → (k < n) ⊎ (n ≤ k) → (n < k) ⊎ (k ≤ n) → (k ≡ n) ⊎ (k ≢ n)
same_or_off k n (inl low) other = inr (λ e. absurd (omega arith))
same_or_off k n (inr above) (inl low) = inr (λ e. absurd (omega arith))
same_or_off k n (inr above) (inr below) = inl (omega arith)

pub same_or_not : (k n : ℕ) → (k ≡ n) ⊎ (k ≢ n)
same_or_not k n = same_or_off k n (cases_lt k n) (cases_lt n k)

pub row_spreads : (columns : List ℕ) (arity n : ℕ) (xs : List OutletOf) (o : OutletOf) (v : Row) → n ≡ part_of (length xs) columns v → n < length xs → AreOutlets arity xs → Adds arity (outlet_at xs n) (v ∷ []) o
    → Spreads (R.ByHash columns) arity xs (v ∷ []) (set xs n o)
row_spreads columns arity n xs o v part there are adds = record {
  count = length-set xs n o;
  each = λ k low. row_adds columns arity n k xs o v part there are adds low (same_or_not k n);
}

pub row_rips : (columns : List ℕ) (arity n : ℕ) (xs : List OutletOf) (o : OutletOf) (v : Row) → n ≡ part_of (length xs) columns v → n < length xs → AreOutlets arity xs → Cuts arity (outlet_at xs n) (v ∷ []) o
    → Rips (R.ByHash columns) arity xs (v ∷ []) (set xs n o)
row_rips columns arity n xs o v part there are cuts = record {
  count = length-set xs n o;
  each = λ k low. row_cuts columns arity n k xs o v part there are cuts low (same_or_not k n);
}

-- ---- the rows of a frame, one after the other

rows_more : (rows : List Fields) (i : ℕ) (d : Fields) → i < length rows → map values_of (take (i + 1) rows) ≡ map values_of (take i rows) ++ values_of (get_or rows i d) ∷ []
rows_more rows i d low = ap (λ (r : List Fields). map values_of r) (ap (λ (n : ℕ). take n rows) (add-one i) ∙ take-suc rows i d low) ∙ map-append values_of (take i rows) (get_or rows i d ∷ [])

rows_rest : (rows : List Fields) (i : ℕ) (d : Fields) → i < length rows → map values_of rows ≡ (map values_of (take i rows) ++ values_of (get_or rows i d) ∷ []) ++ map values_of (drop (i + 1) rows)
rows_rest rows i d low = ap (λ (r : List Fields). map values_of r) (sym (take-append-drop (i + 1) rows)) ∙ map-append values_of (take (i + 1) rows) (drop (i + 1) rows) ∙ ap (λ (r : List Row). r ++ map values_of (drop (i + 1) rows)) (rows_more rows i d low)

pub rows_spread_more : (route : Route) (arity i : ℕ) (rows : List Fields) (row : Fields) (a b c : List OutletOf) → i < length rows → row ≡ get_or rows i [] → Spreads route arity a (map values_of (take i rows)) b → Spreads route arity b (values_of row ∷ []) c
    → Spreads route arity a (map values_of (take (i + 1) rows)) c
rows_spread_more route arity i rows row a b c low is x y =
    subst (λ (r : List Row). Spreads route arity a r c) (ap (λ (f : Fields). map values_of (take i rows) ++ values_of f ∷ []) is ∙ sym (rows_more rows i [] low))
    (spreads_then route arity a b c (map values_of (take i rows)) (values_of row ∷ []) x y)

pub rows_rip : (route : Route) (arity i : ℕ) (rows : List Fields) (row : Fields) (a b c : List OutletOf) → i < length rows → row ≡ get_or rows i [] → Spreads route arity a (map values_of (take i rows)) b → Rips route arity b (values_of row ∷ []) c
    → Rips route arity a (map values_of rows) c
rows_rip route arity i rows row a b c low is x y =
    subst (λ (r : List Row). Rips route arity a r c) (ap (λ (f : Fields). (map values_of (take i rows) ++ values_of f ∷ []) ++ map values_of (drop (i + 1) rows)) is ∙ sym (rows_rest rows i [] low))
    (spreads_then_rips route arity a b c (map values_of (take i rows)) (values_of row ∷ []) (map values_of (drop (i + 1) rows)) x y)

pub rows_spread_all : (route : Route) (arity i : ℕ) (rows : List Fields) (a b : List OutletOf) → length rows ≤ i → Spreads route arity a (map values_of (take i rows)) b → Spreads route arity a (map values_of rows) b
rows_spread_all route arity i rows a b above x = subst (λ (r : List Fields). Spreads route arity a (map values_of r) b) (take_all i rows above) x

-- ---- one frame to each outlet

pub front_adds_none : (arity : ℕ) (xs : List OutletOf) (rows : List Row) → FillNone xs → FrontAdds arity 0 xs rows xs
front_adds_none arity xs rows none = record { count = refl; done = λ k low there. absurd (omega arith); left = λ k above. refl; none = none }

front_add : (arity n k : ℕ) (xs ys : List OutletOf) (rows : List Row) (o : OutletOf) → n < length ys → FrontAdds arity n xs rows ys → Adds arity (outlet_at ys n) rows o → k < length xs → (k ≡ n) ⊎ (k < n) → Adds arity (outlet_at xs k) rows (outlet_at (set ys n o) k)
front_add arity n k xs ys rows o there h adds low (inl e) =
    subst (λ (q : OutletOf). Adds arity (outlet_at xs k) rows q) (sym (set_at ys n k o there e))
    (subst (λ (q : OutletOf). Adds arity q rows o) (h.left n (le_refl n) ∙ ap (outlet_at xs) (sym e)) adds)
front_add arity n k xs ys rows o there h adds low (inr before) =
    subst (λ (q : OutletOf). Adds arity (outlet_at xs k) rows q) (sym (set_off ys n k o (λ e. absurd (omega arith)))) (h.done k before low)

set_none : (k n : ℕ) (ys : List OutletOf) (o : OutletOf) → n < length ys → FillNone ys → o.filling ≡ None → k < length ys → (k ≡ n) ⊎ (k ≢ n) → (outlet_at (set ys n o) k).filling ≡ None
set_none k n ys o there none is low (inl e) = ap (λ (q : OutletOf). q.filling) (set_at ys n k o there e) ∙ is
set_none k n ys o there none is low (inr off) = ap (λ (q : OutletOf). q.filling) (set_off ys n k o off) ∙ none k low

pub fill_none_set : (n : ℕ) (ys : List OutletOf) (o : OutletOf) → n < length ys → FillNone ys → o.filling ≡ None → FillNone (set ys n o)
fill_none_set n ys o there none is = λ k low. let c = length-set ys n o in set_none k n ys o there none is (omega arith) (same_or_not k n)

pub front_adds_more : (arity n : ℕ) (xs ys : List OutletOf) (rows : List Row) (o : OutletOf) → n < length ys → FrontAdds arity n xs rows ys → Adds arity (outlet_at ys n) rows o → o.filling ≡ None → FrontAdds arity (n + 1) xs rows (set ys n o)
front_adds_more arity n xs ys rows o there h adds none = record {
  count = length-set ys n o ∙ h.count;
  done = λ k before low. front_add arity n k xs ys rows o there h adds low (last_or_before k n before);
  left = λ k above. set_off ys n k o (λ e. absurd (omega arith)) ∙ h.left k (omega arith);
  none = fill_none_set n ys o there h.none none;
}

-- the next outlet takes the frame too
pub front_sends : (arity n : ℕ) (xs ys : List OutletOf) (f : FrameOf) (o : OutletOf) → n < length xs → AreOutlets arity xs → HasRows arity f → FrontAdds arity n xs (map values_of f.rows) ys → Sends (outlet_at ys n) f o → FrontAdds arity (n + 1) xs (map values_of f.rows) (set ys n o)
front_sends arity n xs ys f o low are rows h sends =
    let c = h.count in
    let none : (outlet_at ys n).filling ≡ None = h.none n (omega arith) in
    let is : IsOutlet arity 2 (outlet_at ys n) = subst (IsOutlet arity 2) (sym (h.left n (le_refl n))) (are n low) in
    front_adds_more arity n xs ys (map values_of f.rows) o (omega arith) h (sends_adds arity (outlet_at ys n) o f none is rows sends) (sends.filling ∙ none)

pub front_adds_all : (arity n : ℕ) (xs ys : List OutletOf) (rows : List Row) → length xs ≤ n → FrontAdds arity n xs rows ys → Spreads R.Whole arity xs rows ys
front_adds_all arity n xs ys rows above h = record { count = h.count; each = λ k low. h.done k (omega arith) low }

front_cut : (arity n k : ℕ) (xs ys : List OutletOf) (rows : List Row) (o : OutletOf) → n < length ys → AreOutlets arity xs → FrontAdds arity n xs rows ys → Grows (outlet_at ys n) o → k < length xs → (k < n) ⊎ (n ≤ k) → (k ≡ n) ⊎ (k ≢ n) → Cuts arity (outlet_at xs k) rows (outlet_at (set ys n o) k)
front_cut arity n k xs ys rows o there are h grows low before (inl e) =
    subst (λ (q : OutletOf). Cuts arity (outlet_at xs k) rows q) (sym (set_at ys n k o there e))
    (grows_cuts arity (outlet_at xs k) o rows (are k low) (subst (λ (q : OutletOf). Grows q o) (h.left n (le_refl n) ∙ ap (outlet_at xs) (sym e)) grows))
front_cut arity n k xs ys rows o there are h grows low (inl before) (inr off) =
    subst (λ (q : OutletOf). Cuts arity (outlet_at xs k) rows q) (sym (set_off ys n k o off))
    (subst (λ (r : List Row). Cuts arity (outlet_at xs k) r (outlet_at ys k)) (append-nil rows) (adds_cuts arity (outlet_at xs k) (outlet_at ys k) rows [] (h.done k before low)))
front_cut arity n k xs ys rows o there are h grows low (inr above) (inr off) =
    subst (λ (q : OutletOf). Cuts arity (outlet_at xs k) rows q) (sym (set_off ys n k o off ∙ h.left k above)) (cuts_same arity (outlet_at xs k) rows (are k low))

-- the next outlet could not take it
pub front_rips : (arity n : ℕ) (xs ys : List OutletOf) (rows : List Row) (o : OutletOf) → n < length ys → AreOutlets arity xs → FrontAdds arity n xs rows ys → Grows (outlet_at ys n) o → Rips R.Whole arity xs rows (set ys n o)
front_rips arity n xs ys rows o there are h grows = record {
  count = length-set ys n o ∙ h.count;
  each = λ k low. front_cut arity n k xs ys rows o there are h grows low (cases_lt k n) (same_or_not k n);
}
