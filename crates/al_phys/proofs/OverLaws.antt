-- What a physical plan delivers speaks of its live variables.
use Rattle.std.proofs.Common.{◌≡◌, ℕ, Bool, true, false, List, [], ◌∷◌, ◌++◌, map, filter_map, refl, ap, sym, subst, ◌∙◌, Option, Some, None}
use Rattle.std.specs.Prelude.{nat_eq, if◌then◌else◌, ◌||◌, ◌&&◌}
use Rattle.std.specs.List.{AllByRecursion, cons_option}
use Rattle.std.specs.Cmp.Lexicographic.{pointwise}
use Rattle.al_func.specs.declared.func.Func.TheVariants as F
use Rattle.al_plan.specs.declared.expr.Var.{Var}
use Rattle.al_plan.specs.declared.expr.Expr.{Expr, out-Expr}
use Rattle.al_plan.specs.declared.expr.Expr.TheOpen as X
use Rattle.al_plan.specs.declared.plan.OrderKey.{OrderKey}
use Rattle.al_plan.specs.Eval.{Bytes}
use Rattle.al_plan.specs.Allows.{live, is_among}
use Rattle.al_plan.specs.Accept.{are_among}
use Rattle.al_plan.specs.Refines.{AreLive}
use Rattle.al_plan.proofs.Bools.{no}
use Rattle.al_plan.proofs.Within.{is_among-append}
use Rattle.al_plan.proofs.Makes.{at_head}
use Rattle.al_conj.specs.Conj.{conj}
use Rattle.al_phys.specs.declared.phys.Phys.{Phys, map-Phys, roll-Phys, ind-Phys}
use Rattle.al_phys.specs.declared.phys.Phys.TheOpen as L
use Rattle.al_phys.specs.declared.property.Partitioning.{Partitioning}
use Rattle.al_phys.specs.declared.property.Partitioning.TheVariants as D
use Rattle.al_phys.specs.declared.property.Local.{Local}
use Rattle.al_phys.specs.declared.property.Local.TheVariants as O
use Rattle.al_phys.specs.Gives.{is_hash}
use Rattle.al_phys.specs.Operators.{phys_live, live_step, operators, below}
use Rattle.al_phys.specs.Properties.{is_same_var, sided, both_sided, equi_step, equi_key, left_keys, variable_of, old_of, kept_parts, new_for, group_parts, union_parts, join_parts, spread_of, spread_by, order_of, order_step, order_by, kept_keys, kept_order}
use Rattle.al_phys.specs.Placed.{IsLaid, laid_step, vars_of}
use Rattle.al_phys.proofs.OperatorLaws.{plive-roll}
use Rattle.al_phys.proofs.PropertyLaws.{spread-roll, order-roll, order-Sort}
use Rattle.al_phys.proofs.ValueLaws.{and_left, and_right, live_from}
use Rattle.al_phys.proofs.LiveLaws.{AllLaid, laid_here, laid_below, left_laid}

-- a partitioning by these variables, if by any
abbrev pub PartsOver : List Var → Partitioning → Type 0
PartsOver vars D.Unpartitioned = Unit {0}
PartsOver vars (D.Hash ws) = AreLive vars ws
PartsOver vars D.Broadcast = Unit {0}
PartsOver vars D.Random = Unit {0}

abbrev pub OrderOver : List Var → Local → Type 0
OrderOver vars O.None = Unit {0}
OrderOver vars (O.Order keys) = AreLive vars (vars_of keys)

-- ---- more variables

or_left : (a b : Bool) → a ≡ true → (a || b) ≡ true
or_left a b e = λ i. e i || b

or_right : (a b : Bool) → b ≡ true → (a || b) ≡ true
or_right true b e = refl
or_right false b e = e

pub among_left : (xs ys : List Var) (q : Bytes) → is_among xs q ≡ true → is_among (xs ++ ys) q ≡ true
among_left xs ys q e = is_among-append xs ys q ∙ or_left (is_among xs q) (is_among ys q) e

pub live_more : (xs more vs : List Var) → ((q : Bytes) → is_among xs q ≡ true → is_among more q ≡ true) → AreLive xs vs → AreLive more vs
live_more xs more [] f h = tt
live_more xs more (v ∷ vs) f h = (f v.name h.0, live_more xs more vs f h.1)

parts_more : (xs ys : List Var) (d : Partitioning) → PartsOver xs d → PartsOver (xs ++ ys) d
parts_more xs ys D.Unpartitioned h = tt
parts_more xs ys (D.Hash ws) h = live_more xs (xs ++ ys) ws (among_left xs ys) h
parts_more xs ys D.Broadcast h = tt
parts_more xs ys D.Random h = tt

order_more : (xs ys : List Var) (o : Local) → OrderOver xs o → OrderOver (xs ++ ys) o
order_more xs ys O.None h = tt
order_more xs ys (O.Order keys) h = live_more xs (xs ++ ys) (vars_of keys) (among_left xs ys) h

-- ---- kept variables

pub kept_over : (vars : List Var) (d : Partitioning) → PartsOver vars (kept_parts vars d)
kept_over vars D.Unpartitioned = tt
kept_over vars (D.Hash ws) = go (are_among vars ws) refl
  where
    go : (b : Bool) → are_among vars ws ≡ b → PartsOver vars (if b then D.Hash ws else D.Random)
    go true e = live_from vars ws e
    go false e = tt
kept_over vars D.Broadcast = tt
kept_over vars D.Random = tt

pub kept_live : (vars : List Var) (keys : List OrderKey) → AreLive vars (vars_of (kept_keys vars keys))
kept_live vars [] = tt
kept_live vars (k ∷ keys) = go (is_among vars k.var.name) refl (kept_live vars keys)
  where
    go : (b : Bool) → is_among vars k.var.name ≡ b → AreLive vars (vars_of (kept_keys vars keys)) → AreLive vars (vars_of (if b then k ∷ kept_keys vars keys else []))
    go true e rest = (e, rest)
    go false e rest = tt

by_over : (vars : List Var) (keys : List OrderKey) → AreLive vars (vars_of keys) → OrderOver vars (order_by keys)
by_over vars [] h = tt
by_over vars (k ∷ keys) h = h

pub kept_order_over : (vars : List Var) (o : Local) → OrderOver vars (kept_order vars o)
kept_order_over vars O.None = tt
kept_order_over vars (O.Order keys) = by_over vars (kept_keys vars keys) (kept_live vars keys)

-- ---- groups

pub new_among : (keys : List (Var × Var)) (w : Var) → is_among (old_of keys) w.name ≡ true → is_among (map (λ k. k.0) keys) (new_for keys w).name ≡ true
new_among [] w e = absurd (no (sym e))
new_among (k ∷ keys) w e = go (is_same_var k.1 w) refl (new_among keys w)
  where
    go : (b : Bool) → is_same_var k.1 w ≡ b → (is_among (old_of keys) w.name ≡ true → is_among (map (λ k. k.0) keys) (new_for keys w).name ≡ true) → is_among (map (λ k. k.0) (k ∷ keys)) (if b then k.0 else new_for keys w).name ≡ true
    go true same rest = at_head k.0 (map (λ k. k.0) keys)
    go false other rest = or_right (pointwise nat_eq k.0.name (new_for keys w).name) (is_among (map (λ k. k.0) keys) (new_for keys w).name) (rest (ap (λ b. b || is_among (old_of keys) w.name) (sym other) ∙ e))

news_live : (keys : List (Var × Var)) (inner ws : List Var) → AreLive (old_of keys) ws → AreLive (map (λ k. k.0) keys ++ inner) (map (new_for keys) ws)
news_live keys inner [] h = tt
news_live keys inner (w ∷ ws) h = (among_left (map (λ k. k.0) keys) inner (new_for keys w).name (new_among keys w h.0), news_live keys inner ws h.1)

group_over : (keys : List (Var × Var)) (inner : List Var) (d : Partitioning) → PartsOver (map (λ k. k.0) keys ++ inner) (group_parts keys d)
group_over keys inner D.Unpartitioned = tt
group_over keys inner (D.Hash ws) = go (are_among (old_of keys) ws) refl
  where
    go : (b : Bool) → are_among (old_of keys) ws ≡ b → PartsOver (map (λ k. k.0) keys ++ inner) (if b then D.Hash (map (new_for keys) ws) else D.Random)
    go true e = news_live keys inner ws (live_from (old_of keys) ws e)
    go false e = tt
group_over keys inner D.Broadcast = tt
group_over keys inner D.Random = tt

union_over : (vars : List Var) (d e : Partitioning) → PartsOver vars (union_parts d e)
union_over vars D.Unpartitioned D.Unpartitioned = tt
union_over vars D.Unpartitioned (D.Hash ws) = tt
union_over vars D.Unpartitioned D.Broadcast = tt
union_over vars D.Unpartitioned D.Random = tt
union_over vars (D.Hash ws) e = tt
union_over vars D.Broadcast e = tt
union_over vars D.Random e = tt

-- ---- the left keys of a join are live in its left input

abbrev OfLeft : List Var → Option (Var × Var) → Type 0
OfLeft ls None = Unit {0}
OfLeft ls (Some k) = is_among ls k.0.name ≡ true

module _ (ls rs : List Var) where
  sided_left : (x y : Var) → OfLeft ls (sided ls rs x y)
  sided_left x y = first (is_among ls x.name && is_among rs y.name) refl
    where
      second : (b : Bool) → (is_among rs x.name && is_among ls y.name) ≡ b → OfLeft ls (if b then Some (y, x) else None)
      second true e = and_right (is_among rs x.name) (is_among ls y.name) e
      second false e = tt

      first : (b : Bool) → (is_among ls x.name && is_among rs y.name) ≡ b → OfLeft ls (if b then Some (x, y) else if is_among rs x.name && is_among ls y.name then Some (y, x) else None)
      first true e = and_left (is_among ls x.name) (is_among rs y.name) e
      first false e = second (is_among rs x.name && is_among ls y.name) refl

  both_left : (x y : Option Var) → OfLeft ls (both_sided ls rs x y)
  both_left None y = tt
  both_left (Some x) None = tt
  both_left (Some x) (Some y) = sided_left x y

  step_left : (x : X.Expr-F Expr) → OfLeft ls (equi_step ls rs x)
  step_left (X.Var v) = tt
  step_left (X.Lit v) = tt
  step_left (X.Call F.Eq []) = tt
  step_left (X.Call F.Eq (a ∷ [])) = tt
  step_left (X.Call F.Eq (a ∷ b ∷ [])) = both_left (variable_of a) (variable_of b)
  step_left (X.Call F.Eq (a ∷ b ∷ c ∷ es)) = tt
  step_left (X.Call F.Lt es) = tt
  step_left (X.Call F.Le es) = tt
  step_left (X.Call F.And es) = tt
  step_left (X.Call F.Or es) = tt
  step_left (X.Call F.Not es) = tt
  step_left (X.Call F.Add es) = tt
  step_left (X.Call F.Sub es) = tt
  step_left (X.Call F.Mul es) = tt
  step_left (X.Call F.Div es) = tt
  step_left (X.Call F.Mod es) = tt
  step_left (X.Call F.Neg es) = tt
  step_left (X.Call F.Concat es) = tt
  step_left (X.Call F.Length es) = tt
  step_left (X.Call F.Substr es) = tt
  step_left (X.Call F.LowerAscii es) = tt
  step_left (X.Call F.If es) = tt
  step_left (X.Call F.IsNull es) = tt
  step_left (X.Call F.Coalesce es) = tt

  one_left : (o : Option (Var × Var)) (keys : List (Var × Var)) → OfLeft ls o → AreLive ls (map (λ k. k.0) keys) → AreLive ls (map (λ k. k.0) (cons_option o keys))
  one_left None keys h rest = rest
  one_left (Some k) keys h rest = (h, rest)

  equi_left : (es : List Expr) → AreLive ls (map (λ k. k.0) (filter_map (equi_key ls rs) es))
  equi_left [] = tt
  equi_left (e ∷ es) = one_left (equi_key ls rs e) (filter_map (equi_key ls rs) es) (step_left (out-Expr e)) (equi_left es)

pub left_keys_live : (l r : Phys) (c : Expr) → AreLive (phys_live l) (left_keys l r c)
left_keys_live l r c = equi_left (phys_live l) (phys_live r) (conj c)

join_over : (hash : Bool) (keys xs ys : List Var) (d : Partitioning) → AreLive xs keys → PartsOver xs d → PartsOver (xs ++ ys) (join_parts hash keys d)
join_over true keys xs ys d h k = live_more xs (xs ++ ys) keys (among_left xs ys) h
join_over false keys xs ys d h k = parts_more xs ys d k

-- ---- each operator

pub record IsOver (p : Phys) : Type 0 where
  pub parts : PartsOver (phys_live p) (spread_of p).by
  pub order : OrderOver (phys_live p) (order_of p)

abbrev AlwaysOver : Phys → Type 0
AlwaysOver p = (n : ℕ) → AllLaid n p → IsOver p

record LayerOver (x : L.Phys-F Phys) : Type 0 where
  parts : PartsOver (live_step (map-Phys Phys (List Var) phys_live x)) (spread_by Phys (λ q. q) spread_of x)
  order : OrderOver (live_step (map-Phys Phys (List Var) phys_live x)) (order_step (map-Phys Phys Local order_of x))

module _ {S : Type 0} (up : S → Phys) (ih : (s : S) → AlwaysOver (up s)) (n : ℕ) where
  abbrev Below : L.Phys-F S → Type 0
  Below y = AllByRecursion (IsLaid n) (below (map-Phys Phys (List Phys) operators (map-Phys S Phys up y)))

  step : (y : L.Phys-F S) → laid_step n (map-Phys S Phys up y) → Below y → LayerOver (map-Phys S Phys up y)
  step (L.Scan set vars) here rest = record { parts = tt; order = tt }
  step L.One here rest = record { parts = tt; order = tt }
  step (L.Assign made s) here rest = let more = map (λ m. m.0) made in let i = ih s n rest in record { parts = parts_more (phys_live (up s)) more (spread_of (up s)).by i.parts; order = order_more (phys_live (up s)) more (order_of (up s)) i.order }
  step (L.Select c s) here rest = let i = ih s n rest in record { parts = i.parts; order = i.order }
  step (L.Project vars s) here rest = record { parts = kept_over vars (spread_of (up s)).by; order = kept_order_over vars (order_of (up s)) }
  step (L.Unnest v its s) here rest = let i = ih s n rest in record { parts = parts_more (phys_live (up s)) (v ∷ []) (spread_of (up s)).by i.parts; order = order_more (phys_live (up s)) (v ∷ []) (order_of (up s)) i.order }
  step (L.Subplan inner s) here rest = let i = ih s n rest in record { parts = parts_more (phys_live (up s)) (live inner []) (spread_of (up s)).by i.parts; order = order_more (phys_live (up s)) (live inner []) (order_of (up s)) i.order }
  step (L.Check name c s) here rest = let i = ih s n rest in record { parts = i.parts; order = i.order }
  step (L.Join form c l r) here rest = let i = ih l n (left_laid n (up l) (up r) rest) in record { parts = join_over (is_hash form) (left_keys (up l) (up r) c) (phys_live (up l)) (phys_live (up r)) (spread_of (up l)).by (left_keys_live (up l) (up r) c) i.parts; order = tt }
  step (L.HashGroup keys inner s) here rest = record { parts = group_over keys (live inner []) (spread_of (up s)).by; order = tt }
  step (L.PreGroup keys inner s) here rest = record { parts = group_over keys (live inner []) (spread_of (up s)).by; order = tt }
  step (L.HashDistinct s) here rest = record { parts = (ih s n rest).parts; order = tt }
  step (L.AggPart made s) here rest = record { parts = tt; order = tt }
  step (L.AggFinal made s) here rest = record { parts = tt; order = tt }
  step (L.Union made ls rs l r) here rest = record { parts = union_over made (spread_of (up l)).by (spread_of (up r)).by; order = tt }
  step (L.Sort keys s) here rest = record { parts = (ih s n rest).parts; order = here.1 }
  step (L.Limit m k s) here rest = record { parts = tt; order = (ih s n rest).order }
  step (L.LocalLimit m s) here rest = record { parts = (ih s n rest).parts; order = tt }
  step (L.Result vars s) here rest = record { parts = tt; order = kept_order_over vars (order_of (up s)) }
  step (L.HashExchange vars s) here rest = record { parts = here; order = tt }
  step (L.Broadcast s) here rest = record { parts = tt; order = tt }
  step (L.Gather s) here rest = record { parts = tt; order = tt }
  step (L.Merge keys s) here rest = record { parts = tt; order = subst (OrderOver (phys_live (up s))) (ap order_of here.1 ∙ order-Sort keys here.0) (ih s n rest).order }

layer : {S : Type 0} (up : S → Phys) → ((s : S) → AlwaysOver (up s)) → (y : L.Phys-F S) → AlwaysOver (roll-Phys (map-Phys S Phys up y))
layer {S} up ih y n all =
    let x = map-Phys S Phys up y in
    let o = step up ih n y (laid_here n x all) (laid_below n x all) in
    record {
      parts = subst (λ (vs : List Var). PartsOver vs (spread_of (roll-Phys x)).by) (sym (plive-roll x)) (subst (PartsOver (live_step (map-Phys Phys (List Var) phys_live x))) (sym (spread-roll x)) o.parts);
      order = subst (λ (vs : List Var). OrderOver vs (order_of (roll-Phys x))) (sym (plive-roll x)) (subst (OrderOver (live_step (map-Phys Phys (List Var) phys_live x))) (sym (order-roll x)) o.order);
    }

pub always_over : (p : Phys) → AlwaysOver p
always_over = ind-Phys AlwaysOver (λ x y e. subst (λ (z : L.Phys-F Phys). AlwaysOver (roll-Phys z)) e (layer (λ s. s.0) (λ s. s.1) y))
