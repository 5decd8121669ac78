-- Whether a row goes on with a stretch, and the row of one.
use Rattle.std.proofs.Common.{◌≡◌, ◌≢◌, ◌≤◌, ◌+◌, ℕ, true, List, [], ◌∷◌, ◌++◌, length, refl, sym, ap, subst, ◌∙◌}
use Rattle.std.specs.List.{All}
use Rattle.std.proofs.lemmas.List.{length-append, length-map}
use Rattle.std.proofs.lemmas.List.Elements.{All-nil, All-push, recursion_from_All}
use Rattle.hy_frame.specs.Row.{Fields}
use Rattle.hy_driver.specs.Rows.{Row, values_of}
use Rattle.hy_job.specs.declared.nested.NestedPlan.{NestedPlan}
use Rattle.hy_job.specs.Columns.{column, cut}
use Rattle.hy_job.specs.Nested.{NAllows, n_width}
use Rattle.hy_job.specs.RunLaws.{AreWide}
use Rattle.hy_job.specs.Sound.{NSound, is_aggregate}
use Rattle.hy_job.proofs.RunFits.{nested_wide}
use Rattle.hy_rows.proofs.RowLaws.{as_wide}
use Rattle.hy_nested.specs.Fitting.{FitsNested}
use Rattle.hy_subplan.specs.Stretch.{Breaks, GoesOn, IsRowOf}

-- ---- whether a row goes on

pub none_goes_on : (keys : List ℕ) (rows : List Row) (row : Row) → rows ≡ [] → GoesOn keys rows row
none_goes_on keys rows row none = subst (λ (rs : List Row). GoesOn keys rs row) (sym none) tt

pub same_goes_on : (keys : List ℕ) (rows others : List Row) (first row slice slice' own key : Row) → rows ≡ first ∷ others → slice ≡ row → slice' ≡ first → own ≡ cut keys slice → key ≡ cut keys slice' → own ≡ key → GoesOn keys rows row
same_goes_on keys rows others first row slice slice' own key is same same' owned keyed e =
    subst (λ (rs : List Row). GoesOn keys rs row) (sym is) (ap (cut keys) (sym same) ∙ sym owned ∙ e ∙ keyed ∙ ap (cut keys) same')

pub other_breaks : (keys : List ℕ) (rows others : List Row) (first row slice slice' own key : Row) → rows ≡ first ∷ others → slice ≡ row → slice' ≡ first → own ≡ cut keys slice → key ≡ cut keys slice' → own ≢ key → Breaks keys rows row
other_breaks keys rows others first row slice slice' own key is same same' owned keyed differ =
    subst (λ (rs : List Row). Breaks keys rs row) (sym is) (λ e. differ (owned ∙ ap (cut keys) same ∙ e ∙ ap (cut keys) (sym same') ∙ sym keyed))

pub ruleset goes_laws = (none_goes_on, same_goes_on, other_breaks)

-- ---- the row of a stretch

pub is_row : (n : NestedPlan) (keys : List ℕ) (rows others : List Row) (first slice key inner made : Row) → rows ≡ first ∷ others → slice ≡ first → key ≡ cut keys slice → NAllows n rows (inner ∷ []) → made ≡ key ++ inner
    → IsRowOf keys n rows made
is_row n keys rows others first slice key inner made is same keyed allowed put =
    subst (λ (rs : List Row). IsRowOf keys n rs made) (sym is) (inner, subst (λ (rs : List Row). NAllows n rs (inner ∷ [])) is allowed, put ∙ ap (λ (k : Row). k ++ inner) (keyed ∙ ap (cut keys) same))

pub row_wide : (n : NestedPlan) (w : ℕ) (keys : List ℕ) (slice key inner made : Row) (rows : List Row) → key ≡ cut keys slice → NAllows n rows (inner ∷ []) → made ≡ key ++ inner → AreWide w rows → length made ≡ length keys + n_width n w
row_wide n w keys slice key inner made rows keyed allowed put wide =
    let behind : length inner ≡ n_width n w = (nested_wide n w rows (inner ∷ []) allowed wide).0 in
    let front : length key ≡ length keys = ap (λ (r : Row). length r) keyed ∙ length-map keys (column slice) in
    ap (λ (r : Row). length r) put ∙ length-append key inner ∙ (λ i. front i + behind i)

pub ruleset row_laws = (is_row, row_wide)

-- ---- at the driver's calls

pub stretch_fits : (n : NestedPlan) (width : ℕ) (rows slice : List Row) → is_aggregate n ≡ true → NSound n width → slice ≡ rows → All (λ r. length r ≡ width) rows → FitsNested n slice
stretch_fits n width rows slice root each same fit =
    (width, recursion_from_All (λ (r : Row). length r ≡ width) slice (subst (λ (rs : List Row). All (λ r. length r ≡ width) rs) (sym same) fit), record { root = root; each = each })

pub made_wide : (n : NestedPlan) (width arity : ℕ) (keys ks : List ℕ) (made : Row) (rows slice : List Row) → ((w : ℕ) → AreWide w slice → length made ≡ length ks + n_width n w) → ks ≡ keys → slice ≡ rows → All (λ r. length r ≡ width) rows
    → arity ≡ length keys + n_width n width → length made ≡ arity
made_wide n width arity keys ks made rows slice told of same fit behind =
    told width (recursion_from_All (λ (r : Row). length r ≡ width) slice (subst (λ (rs : List Row). All (λ r. length r ≡ width) rs) (sym same) fit)) ∙ ap (λ (xs : List ℕ). length xs + n_width n width) of ∙ sym behind

pub made_few : (n : NestedPlan) (width arity : ℕ) (keys ks : List ℕ) (made put : Row) (rows slice : List Row) → ((w : ℕ) → AreWide w slice → length made ≡ length ks + n_width n w) → ks ≡ keys → slice ≡ rows → All (λ r. length r ≡ width) rows
    → arity ≡ length keys + n_width n width → arity ≤ 1024 → put ≡ made → length put ≤ 1024
made_few n width arity keys ks made put rows slice told of same fit behind few is =
    subst (λ k. k ≤ 1024) (sym (ap (λ (r : Row). length r) is ∙ made_wide n width arity keys ks made rows slice told of same fit behind)) few

pub made_put : (n : NestedPlan) (width arity : ℕ) (keys ks : List ℕ) (made put : Row) (out : Fields) (rows slice : List Row) → ((w : ℕ) → AreWide w slice → length made ≡ length ks + n_width n w) → ks ≡ keys → slice ≡ rows → All (λ r. length r ≡ width) rows
    → arity ≡ length keys + n_width n width → put ≡ made → length out ≡ length put → length out ≡ arity
made_put n width arity keys ks made put out rows slice told of same fit behind is wide =
    wide ∙ ap (λ (r : Row). length r) is ∙ made_wide n width arity keys ks made rows slice told of same fit behind

-- what is told of slices is true of the lists
pub told_on : (keys ks : List ℕ) (rows slice : List Row) (row : Row) → ks ≡ keys → slice ≡ rows → GoesOn ks slice row → GoesOn keys rows row
told_on keys ks rows slice row of same on = subst (λ xs. GoesOn xs rows row) of (subst (λ (rs : List Row). GoesOn ks rs row) same on)

pub told_break : (keys ks : List ℕ) (rows slice : List Row) (row : Row) → ks ≡ keys → slice ≡ rows → Breaks ks slice row → Breaks keys rows row
told_break keys ks rows slice row of same breaks = subst (λ xs. Breaks xs rows row) of (subst (λ (rs : List Row). Breaks ks rs row) same breaks)

pub told_row : (n : NestedPlan) (keys ks : List ℕ) (rows slice : List Row) (made : Row) → ks ≡ keys → slice ≡ rows → IsRowOf ks n slice made → IsRowOf keys n rows made
told_row n keys ks rows slice made of same is = subst (λ xs. IsRowOf xs n rows made) of (subst (λ (rs : List Row). IsRowOf ks n rs made) same is)

-- the rows of a stretch with one row more, and those of a new one
pub push_fits : (width : ℕ) (rows rows' : List Row) (fields : Fields) (values : Row) → All (λ r. length r ≡ width) rows → rows' ≡ rows ++ values ∷ [] → values ≡ values_of fields → length fields ≡ width → All (λ r. length r ≡ width) rows'
push_fits width rows rows' fields values fit pushed read wide =
    subst (λ (rs : List Row). All (λ r. length r ≡ width) rs) (sym pushed) (All-push (λ (r : Row). length r ≡ width) rows values fit (ap (λ (r : Row). length r) read ∙ as_wide fields ∙ wide))

pub alone_fits : (width : ℕ) (rows : List Row) (fields : Fields) (values : Row) → rows ≡ values ∷ [] → values ≡ values_of fields → length fields ≡ width → All (λ r. length r ≡ width) rows
alone_fits width rows fields values one read wide = push_fits width [] rows fields values (All-nil (λ (r : Row). length r ≡ width)) one read wide

-- a stretch that a row breaks has rows
pub breaks_some : (keys : List ℕ) (slice slice' : List Row) (row : Row) → Breaks keys slice row → slice ≡ slice' → slice' ≢ []
breaks_some keys slice slice' row breaks same none = subst (λ (rs : List Row). Breaks keys rs row) (same ∙ none) breaks

pub ruleset call_laws = (stretch_fits)
