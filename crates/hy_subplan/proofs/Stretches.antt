-- Rows cut into stretches of equal keys.
use Rattle.std.proofs.Common.{◌≡◌, ◌≢◌, ◌<◌, ◌+◌, ℕ, zero, suc, Bool, true, false, true≢false, List, [], ◌∷◌, ◌++◌, length, refl, sym, ap, subst, ◌∙◌, arith, append-nil, add-one}
use Rattle.std.specs.List.{All, AllAdjacentBelow, AllZip, flat_map}
use Rattle.std.proofs.lemmas.List.Elements.{All-cons, All-nil, All-push, All-weaker}
use Rattle.hy_driver.specs.Rows.{Row}
use Rattle.hy_job.specs.declared.nested.NestedPlan.{NestedPlan}
use Rattle.hy_job.specs.Columns.{AreStretches, Group, key_of, rows_in}
use Rattle.hy_job.specs.Nested.{AreMade, IsPreGrouped}
use Rattle.hy_job.specs.Sound.{is_aggregate}
use Rattle.hy_rows.proofs.Keys.{is_key, keys_decide}
use Rattle.hy_subplan.specs.Stretch.{Breaks, GoesOn, IsRowOf, IsStretch}
use Rattle.hy_subplan.proofs.NestedSome.{nested_plans_give}

module _ (keys : List ℕ) where
  abbrev Differ : Group → Group → Type 0
  Differ g h = key_of keys g.0 ≢ key_of keys h.0

  abbrev Alike : Group → Type 0
  Alike g = All (λ r. key_of keys r ≡ key_of keys g.0) g.1

  -- the keys of a group are not those of the first of these
  abbrev Before : Row → List Group → Type 0
  Before r [] = Unit {0}
  Before r (h ∷ gs) = key_of keys r ≢ key_of keys h.0

  apart_more : (g : Group) (gs : List Group) → Before g.0 gs → AllAdjacentBelow Differ gs (length gs) → AllAdjacentBelow Differ (g ∷ gs) (length (g ∷ gs))
  apart_more g [] before apart k d low = absurd (omega (arith, low))
  apart_more g (h ∷ gs) before apart zero d low = before
  apart_more g (h ∷ gs) before apart (suc k) d low = simp add-one (simp add-one at (apart k d (omega (arith, low))))

  one_apart : (g : Group) → AllAdjacentBelow Differ (g ∷ []) 1
  one_apart g k d low = absurd (omega (arith, low))

  -- one group more in front
  more : (g : Group) (gs : List Group) (rows : List Row) → Alike g → Before g.0 gs → AreStretches keys rows gs → AreStretches keys (rows_in g ++ rows) (g ∷ gs)
  more g gs rows alike before h = record {
    all = ap (λ (rs : List Row). rows_in g ++ rs) h.all;
    alike = All-cons Alike g gs alike h.alike;
    apart = apart_more g gs before h.apart;
  }

  none : AreStretches keys [] []
  none = record { all = refl; alike = All-nil Alike; apart = λ k d low. absurd (omega (arith, low)) }

  -- the first row of the first group is the first of the rows
  first_is : (g : Group) (gs : List Group) (v : Row) (rows : List Row) → v ∷ rows ≡ flat_map rows_in (g ∷ gs) → g.0 ≡ v
  first_is g gs v rows e = sym (ap (head_or v) e)
    where
      head_or : Row → List Row → Row
      head_or d [] = d
      head_or d (x ∷ xs) = x

  -- before whatever does not go on with the stretch
  before_next : (r v : Row) (rows : List Row) (gs : List Group) → key_of keys v ≢ key_of keys r → v ∷ rows ≡ flat_map rows_in gs → Before r gs
  before_next r v rows [] breaks e = tt
  before_next r v rows (g ∷ gs) breaks e = λ same. breaks (ap (key_of keys) (sym (first_is g gs v rows e)) ∙ sym same)

  pub stretch_none : (n : NestedPlan) → IsPreGrouped keys n [] []
  stretch_none n = ([], none, tt)

  no_groups : (gs : List Group) → [] ≡ flat_map rows_in gs → gs ≡ []
  no_groups [] e = refl
  no_groups (g ∷ gs) e = absurd (no e)
    where
      no : [] ≡ g.0 ∷ (g.1 ++ flat_map rows_in gs) → ⊥
      no f = cc

  pub only_none : (n : NestedPlan) (rest : List Row) → IsPreGrouped keys n [] rest → rest ≡ []
  only_none n rest h = of_none rest (subst (λ (gs : List Group). AreMade keys n gs rest) (no_groups h.0 h.1.all) h.2)
    where
      of_none : (rest : List Row) → AreMade keys n [] rest → rest ≡ []
      of_none [] made = refl
      of_none (x ∷ xs) made = absurd made

  -- a stretch that is over, with its row, before what comes of the rows behind it
  pub stretch_cut : (n : NestedPlan) (rows : List Row) (v : Row) (behind : List Row) (made : Row) (rest : List Row) → IsStretch keys rows → Breaks keys rows v → IsRowOf keys n rows made
      → IsPreGrouped keys n (v ∷ behind) rest → IsPreGrouped keys n (rows ++ (v ∷ behind)) (made ∷ rest)
  stretch_cut n [] v behind made rest alike breaks is h = absurd breaks
  stretch_cut n (r ∷ rs) v behind made rest alike breaks is h =
      ((r, rs) ∷ h.0, more (r, rs) h.0 (v ∷ behind) alike (before_next r v behind h.0 breaks h.1.all) h.1, (is, h.2))

  -- the last one
  pub stretch_last : (n : NestedPlan) (rows : List Row) (made : Row) → IsStretch keys rows → IsRowOf keys n rows made → IsPreGrouped keys n rows (made ∷ [])
  stretch_last n [] made alike is = absurd is
  stretch_last n (r ∷ rs) made alike is = ((r, rs) ∷ [], subst (λ (rows : List Row). AreStretches keys rows ((r, rs) ∷ [])) (append-nil (r ∷ rs)) (more (r, rs) [] [] alike tt none), (is, tt))

  -- a row goes on with a stretch
  pub stretch_longer : (rows : List Row) (v : Row) → IsStretch keys rows → GoesOn keys rows v → IsStretch keys (rows ++ v ∷ [])
  stretch_longer [] v alike on = All-nil (λ (r : Row). key_of keys r ≡ key_of keys v)
  stretch_longer (r ∷ rs) v alike on = All-push (λ (x : Row). key_of keys x ≡ key_of keys r) rs v alike on

  -- ---- all rows can be cut

  joined : (r : Row) (g : Group) (gs : List Group) (rows : List Row) → key_of keys r ≡ key_of keys g.0 → AreStretches keys rows (g ∷ gs) → AreStretches keys (r ∷ rows) ((r, rows_in g) ∷ gs)
  joined r g gs rows same h = record {
    all = ap (λ (rs : List Row). r ∷ rs) h.all;
    alike = All-cons Alike (r, rows_in g) gs (All-cons (λ (x : Row). key_of keys x ≡ key_of keys r) g.0 g.1 (sym same) (All-weaker (λ (x : Row). key_of keys x ≡ key_of keys g.0) (λ (x : Row). key_of keys x ≡ key_of keys r) (λ x e. e ∙ sym same) g.1 (h.alike 0 g (omega arith)))) (rest_alike h.alike);
    apart = moved gs h.apart;
  }
    where
      rest_alike : All Alike (g ∷ gs) → All Alike gs
      rest_alike all k d low = all (suc k) d (omega (arith, low))

      moved : (gs : List Group) → AllAdjacentBelow Differ (g ∷ gs) (length (g ∷ gs)) → AllAdjacentBelow Differ ((r, rows_in g) ∷ gs) (length ((r, rows_in g) ∷ gs))
      moved gs apart zero d low = λ e. apart zero d low (sym same ∙ e)
      moved gs apart (suc k) d low = simp add-one (simp add-one at (apart (suc k) d low))

  cut_from : (r : Row) (rows : List Row) (gs : List Group) → AreStretches keys rows gs → (hs : List Group) × AreStretches keys (r ∷ rows) hs
  cut_from r rows [] h = ((r, []) ∷ [], more (r, []) [] rows (All-nil (λ (x : Row). key_of keys x ≡ key_of keys r)) tt h)
  cut_from r rows (g ∷ gs) h = by (is_key (key_of keys r) (key_of keys g.0)) refl
    where
      by : (b : Bool) → is_key (key_of keys r) (key_of keys g.0) ≡ b → (hs : List Group) × AreStretches keys (r ∷ rows) hs
      by true e = ((r, rows_in g) ∷ gs, joined r g gs rows ((keys_decide (key_of keys r) (key_of keys g.0)).0 e) h)
      by false e = ((r, []) ∷ g ∷ gs, more (r, []) (g ∷ gs) rows (All-nil (λ (x : Row). key_of keys x ≡ key_of keys r)) (λ same. true≢false (sym ((keys_decide (key_of keys r) (key_of keys g.0)).1 same) ∙ e)) h)

  cut_all : (rows : List Row) → (gs : List Group) × AreStretches keys rows gs
  cut_all [] = ([], none)
  cut_all (r ∷ rows) = let h = cut_all rows in cut_from r rows h.0 h.1

  module _ (n : NestedPlan) (root : is_aggregate n ≡ true) where
    made_all : (gs : List Group) → (out : List Row) × AreMade keys n gs out
    made_all [] = ([], tt)
    made_all (g ∷ gs) =
        let given = nested_plans_give n (rows_in g) root in
        let later = made_all gs in
        ((key_of keys g.0 ++ given.0) ∷ later.0, ((given.0, given.1, refl), later.1))

    pub stretch_some : (rows : List Row) → (out : List Row) × IsPreGrouped keys n rows out
    stretch_some rows =
        let groups = cut_all rows in
        let made = made_all groups.0 in
        (made.0, (groups.0, groups.1, made.1))
