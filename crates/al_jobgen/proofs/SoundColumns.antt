-- What is named among live variables is a column of their rows.
use Rattle.std.proofs.Common.{◌≡◌, ℕ, suc, ◌<◌, ◌≤◌, ◌+◌, ◌*◌, Bool, true, false, List, [], ◌∷◌, length, map, refl, ap, sym, subst, ◌∙◌, arith}
use Rattle.std.specs.Prelude.{nat_eq, nat_lt, if◌then◌else◌, ◌&&◌, ◌||◌}
use Rattle.std.specs.List.{AllByRecursion, flat_map, list_all, sum_by}
use Rattle.std.specs.Cmp.Lexicographic.{pointwise}
use Rattle.std.proofs.lemmas.List.Sums.{sum_by-cons}
use Rattle.al_func.specs.Func.{arity}
use Rattle.al_func.specs.Rex.{is_sound, IsSound}
use Rattle.al_func.proofs.RexLaws.{is_sound-Col, is_sound-Lit, is_sound-Call}
use Rattle.al_agg.specs.declared.agg.Agg.{Agg}
use Rattle.al_agg.specs.declared.agg.Agg.TheVariants as A
use Rattle.al_agg.specs.Part.{width}
use Rattle.al_plan.specs.declared.expr.Var.{Var}
use Rattle.al_plan.specs.declared.expr.Expr.{Expr, map-Expr, roll-Expr, ind-Expr}
use Rattle.al_plan.specs.declared.expr.Expr.TheVariants as E
use Rattle.al_plan.specs.declared.expr.Expr.TheOpen as L
use Rattle.al_plan.specs.declared.plan.OrderKey.{OrderKey}
use Rattle.al_plan.specs.declared.plan.AggCall.{AggCall}
use Rattle.al_plan.specs.declared.plan.AggCall.TheVariants as C
use Rattle.al_plan.specs.declared.plan.Generator.{Generator}
use Rattle.al_plan.specs.declared.plan.Generator.TheVariants as G
use Rattle.al_plan.specs.Eval.{Bytes}
use Rattle.al_plan.specs.Allows.{is_among}
use Rattle.al_plan.specs.Names.{names, has_arities, agg_exprs, item_exprs}
use Rattle.al_plan.specs.Refines.{AreAmong, IsOver, AreLive, AreOver}
use Rattle.al_plan.proofs.Bools.{no}
use Rattle.al_plan.proofs.UsesLaws.{names-Var, names-Call}
use Rattle.al_conj.proofs.ConjLaws.{arities-Call}
use Rattle.al_phys.proofs.LiveLaws.{all_left, all_right}
use Rattle.hy_job.specs.Columns.{agg_of}
use Rattle.hy_job.specs.Sound as sound
use Rattle.al_jobgen.specs.Columns.{column_of, columns_of, rex_of, agg_rex, gen_rex, sort_keys, agg_kind, made_rexes, made_aggs}
use Rattle.al_jobgen.specs.JobOf.{state_width}
use Rattle.al_jobgen.proofs.PieceColumns.{rex-Var, rex-Lit, rex-Call}

one_below : (b c : Bool) (n m : ℕ) → (b || c) ≡ true → (c ≡ true → n < m) → (if b then 0 else suc n) < suc m
one_below true c n m h k = omega arith
one_below false c n m h k = omega (arith, k h)

pub column_below : (vars : List Var) (q : Bytes) → is_among vars q ≡ true → column_of vars q < length vars
column_below [] q h = absurd (no (sym h))
column_below (v ∷ vars) q h = one_below (pointwise nat_eq v.name q) (is_among vars q) (column_of vars q) (length vars) h (column_below vars q)

pub columns_below : (vars vs : List Var) → AreLive vars vs → sound.AreColumns (length vars) (columns_of vars vs)
columns_below vars [] h = tt
columns_below vars (v ∷ vs) h = (column_below vars v.name h.0, columns_below vars vs h.1)

pub keys_below : (vars : List Var) (keys : List OrderKey) → AreLive vars (map (λ k. k.var) keys) → sound.AreKeys (length vars) (sort_keys vars keys)
keys_below vars [] h = tt
keys_below vars (k ∷ keys) h = (column_below vars k.var.name h.0, keys_below vars keys h.1)

widths_more : (a : Agg) (aggs : List Agg) → state_width (a ∷ aggs) ≡ width a + state_width aggs
widths_more a aggs = sum_by-cons (λ n. n) (width a) (map width aggs)

-- ---- expressions

less : (a b : ℕ) → a < b → nat_lt a b ≡ true
less a b h = grind arith

both : (a b : Bool) → (a && b) ≡ true → (a ≡ true) × (b ≡ true)
both true b h = (refl, h)
both false b h = absurd (no (sym h))

pub length-mapped : {X Y : Type 0} (f : X → Y) (xs : List X) → length (map f xs) ≡ length xs
length-mapped f [] = refl
length-mapped f (x ∷ xs) = ap suc (length-mapped f xs)

module _ (vars : List Var) where
  abbrev IsFine : Expr → Type 0
  IsFine e = AreAmong vars (names e) → has_arities e ≡ true → is_sound (length vars) (rex_of vars e) ≡ true

  module _ {S : Type 0} (up : S → Expr) (ih : (s : S) → IsFine (up s)) where
    all_fine : (xs : List S) → AreAmong vars (flat_map names (map up xs)) → list_all has_arities (map up xs) ≡ true → list_all (is_sound (length vars)) (map (rex_of vars) (map up xs)) ≡ true
    all_fine [] a h = refl
    all_fine (x ∷ xs) a h =
        let parts = both (has_arities (up x)) (list_all has_arities (map up xs)) h in
        let here = ih x (all_left (λ q. is_among vars q ≡ true) (names (up x)) (flat_map names (map up xs)) a) parts.0 in
        let rest = all_fine xs (all_right (λ q. is_among vars q ≡ true) (names (up x)) (flat_map names (map up xs)) a) parts.1 in
        λ i. here i && rest i

    fine : (y : L.Expr-F S) → IsFine (roll-Expr (map-Expr S Expr up y))
    fine (L.Var v) a h =
        let among = subst (AreAmong vars) (ap names (E.rolls-Var v) ∙ names-Var v) a in
        ap (λ e. is_sound (length vars) (rex_of vars e)) (E.rolls-Var v) ∙ ap (is_sound (length vars)) (rex-Var vars v) ∙ is_sound-Col (length vars) (column_of vars v.name)
        ∙ less (column_of vars v.name) (length vars) (column_below vars v.name among.0)
    fine (L.Lit v) a h = ap (λ e. is_sound (length vars) (rex_of vars e)) (E.rolls-Lit v) ∙ ap (is_sound (length vars)) (rex-Lit vars v) ∙ is_sound-Lit (length vars) v
    fine (L.Call f xs) a h =
        let args = map up xs in
        let among = subst (AreAmong vars) (ap names (E.rolls-Call f args) ∙ names-Call f args) a in
        let parts = both (nat_eq (length args) (arity f)) (list_all has_arities args) (sym (ap has_arities (E.rolls-Call f args) ∙ arities-Call f args) ∙ h) in
        let rest = all_fine xs among parts.1 in
        ap (λ e. is_sound (length vars) (rex_of vars e)) (E.rolls-Call f args) ∙ ap (is_sound (length vars)) (rex-Call vars f args) ∙ is_sound-Call (length vars) f (map (rex_of vars) args)
        ∙ ap (λ n. nat_eq n (arity f) && list_all (is_sound (length vars)) (map (rex_of vars) args)) (length-mapped (rex_of vars) args) ∙ (λ i. parts.0 i && rest i)

  each_fine : (e : Expr) → IsFine e
  each_fine = ind-Expr IsFine (λ x y e. subst (λ (z : L.Expr-F Expr). IsFine (roll-Expr z)) e (fine (λ s. s.0) (λ s. s.1) y))

  pub rex_over : (e : Expr) → IsOver vars e → IsSound (length vars) (rex_of vars e)
  rex_over e h = each_fine e h.reads h.arities

  pub rexes_over : (made : List (Var × Expr)) → AreOver vars (map (λ m. m.1) made) → sound.AreSound (length vars) (made_rexes vars made)
  rexes_over [] h = tt
  rexes_over (m ∷ made) h = (rex_over m.1 h.0, rexes_over made h.1)

  agg_over : (call : AggCall) → AreOver vars (agg_exprs call) → sound.AreSound (length vars) (sound.agg_exprs (agg_rex vars call))
  agg_over C.CountAll h = tt
  agg_over (C.Count e) h = (rex_over e h.0, tt)
  agg_over (C.Sum e) h = (rex_over e h.0, tt)
  agg_over (C.Min e) h = (rex_over e h.0, tt)
  agg_over (C.Max e) h = (rex_over e h.0, tt)

  pub aggs_over : (made : List (Var × AggCall)) → AllByRecursion (λ m. AreOver vars (agg_exprs m.1)) made → sound.AreSoundAggs (length vars) (made_aggs vars made)
  aggs_over [] h = tt
  aggs_over (m ∷ made) h = (agg_over m.1 h.0, aggs_over made h.1)

  pub gen_over : (g : Generator) → AreOver vars (item_exprs g) → sound.AreSound (length vars) (sound.item_exprs (gen_rex vars g))
  gen_over (G.Range a b) h = (rex_over a h.0, (rex_over b h.1.0, tt))
  gen_over (G.Split t s) h = (rex_over t h.0, (rex_over s h.1.0, tt))

  same_kind : (call : AggCall) → agg_of (agg_rex vars call) ≡ agg_kind call
  same_kind C.CountAll = refl
  same_kind (C.Count e) = refl
  same_kind (C.Sum e) = refl
  same_kind (C.Min e) = refl
  same_kind (C.Max e) = refl

  -- the states of aggregates over columns are as wide as those of their kinds
  pub states_same : (made : List (Var × AggCall)) → sound.states_width (made_aggs vars made) ≡ state_width (map (λ m. agg_kind m.1) made)
  states_same [] = refl
  states_same (m ∷ made) =
      sum_by-cons (λ a. width (agg_of a)) (agg_rex vars m.1) (made_aggs vars made) ∙ (λ i. width (same_kind m.1 i) + states_same made i)
      ∙ sym (widths_more (agg_kind m.1) (map (λ k. agg_kind k.1) made))

pub sum_widths : (aggs : List Agg) → state_width aggs ≡ sum_by width aggs
sum_widths [] = refl
sum_widths (a ∷ aggs) = widths_more a aggs ∙ ap (λ n. width a + n) (sum_widths aggs) ∙ sym (sum_by-cons width a aggs)

narrow_state : (a : Agg) → width a ≤ 3
narrow_state A.CountAll = omega arith
narrow_state A.Count = omega arith
narrow_state A.Sum = omega arith
narrow_state A.Min = omega arith
narrow_state A.Max = omega arith

-- at most three fields for each aggregate
pub narrow_states : (aggs : List Agg) → state_width aggs ≤ 3 * length aggs
narrow_states [] = omega arith
narrow_states (a ∷ aggs) = omega (arith, widths_more a aggs, narrow_state a, narrow_states aggs)
