-- How the rows that an operator gives in a part come of those that it takes there.
use Rattle.std.proofs.Common.{◌≡◌, zero, Bool, true, false, List, [], ◌∷◌, map, filter, flat_map, zip, length, refl, ap, sym, subst, ◌∙◌, arith}
use Rattle.std.specs.Prelude.{nat_eq, if◌then◌else◌, ◌||◌}
use Rattle.std.specs.Cmp.Lexicographic.{pointwise, same_text}
use Rattle.std.specs.List.{AllByRecursion, AllZip, Contains}
use Rattle.std.specs.List.Sorted.{IsPermutation}
use Rattle.std.proofs.lemmas.List.Elements.{All-from_recursion, recursion_from_All, All-filter, All-weaker, Contains-append_right}
use Rattle.std.proofs.lemmas.List.Sorted.{All-permutation, Contains-permutation, IsPermutation-sym}
use Rattle.al_value.specs.declared.value.Value.{Value}
use Rattle.al_value.specs.declared.value.Value.TheVariants as V
use Rattle.al_plan.specs.declared.expr.Var.{Var}
use Rattle.al_plan.specs.declared.expr.Expr.{Expr}
use Rattle.al_plan.specs.declared.plan.Generator.{Generator}
use Rattle.al_plan.specs.declared.plan.Plan.{Plan}
use Rattle.al_plan.specs.Eval.{Bytes, Env, bind, eval, holds}
use Rattle.al_plan.specs.Calls.{items}
use Rattle.al_plan.specs.Allows.{Sets, Allows, Gives, live, is_among, cut, beside, with_new, assigned, expanded, matches, or_alone, nulls, key_of, new_of, Group, rows_in}
use Rattle.al_plan.specs.Refines.{AreLive, NoTwice}
use Rattle.al_plan.proofs.Bools.{no, by_cases}
use Rattle.al_plan.proofs.EvalLaws.{bind-cons}
use Rattle.al_plan.proofs.Makes.{Disjoint, text_itself}
use Rattle.al_plan.proofs.Within.{zip_all}
use Rattle.al_plan.proofs.Moves.{IsPermutation-same}
use Rattle.al_phys.specs.Gives.{joined, IsNested, AreMade, IsGrouped, IsPreGrouped}
use Rattle.al_phys.specs.Properties.{is_same_var, new_for, old_of}
use Rattle.al_phys.proofs.FlowLaws.{IsAlike, Comes, Follows, follows-map, follows-flat, follows-zip, comes-follows}
use Rattle.al_phys.proofs.OverLaws.{new_among}
use Rattle.al_phys.proofs.ValueLaws.{values_agree}

-- ---- values that stay

beside_other : (new : List Var) (a r : Env) (q : Bytes) → is_among new q ≡ false → beside new a r q ≡ r q
beside_other new a r q e = ap (λ b. if b then a q else r q) e

beside_own : (new : List Var) (a r : Env) (q : Bytes) → is_among new q ≡ true → beside new a r q ≡ a q
beside_own new a r q e = ap (λ b. if b then a q else r q) e

agree : (vars vs : List Var) (o r : Env) → AreLive vars vs → ((q : Bytes) → is_among vars q ≡ true → o q ≡ r q) → AllByRecursion (λ v. o v.name ≡ r v.name) vs
agree vars [] o r h f = tt
agree vars (v ∷ vs) o r h f = (f v.name h.0, agree vars vs o r h.1 f)

-- rows that agree at the live variables are alike at some of them
alike : (vars vs : List Var) (o r : Env) → AreLive vars vs → ((q : Bytes) → is_among vars q ≡ true → o q ≡ r q) → IsAlike vs vs r o
alike vars vs o r h f = values_agree vs o r (agree vars vs o r h f)

alike_new : (vars new vs : List Var) (a r : Env) → Disjoint vars new → AreLive vars vs → IsAlike vs vs r (beside new a r)
alike_new vars new vs a r d h = alike vars vs (beside new a r) r h (λ q e. beside_other new a r q (d q e))

alike_left : (vars vs : List Var) (l r : Env) → AreLive vars vs → IsAlike vs vs l (beside vars l r)
alike_left vars vs l r h = alike vars vs (beside vars l r) l h (beside_own vars l r)

-- ---- operators that work row by row

pub follows-assigned : (vars : List Var) (made : List (Var × Expr)) → Disjoint vars (map (λ m. m.0) made) → (vs : List Var) → AreLive vars vs → (rows out : List Env) → out ≡ map (assigned made) rows → Follows vs rows out
follows-assigned vars made d vs h rows out e =
    subst (Follows vs rows) (sym e) (follows-map vs (assigned made) (λ r. alike_new vars (map (λ m. m.0) made) vs (bind (map (λ m. m.0) made) (map (λ m. eval m.1 r) made)) r d h) rows)

pub follows-projected : (vars vs : List Var) → AreLive vars vs → (rows out : List Env) → out ≡ map (cut vars) rows → Follows vs rows out
follows-projected vars vs h rows out e =
    subst (Follows vs rows) (sym e) (follows-map vs (cut vars) (λ r. alike vars vs (cut vars r) r h (λ q in'. ap (λ b. if b then r q else V.Null) in')) rows)

pub follows-expanded : (vars : List Var) (v : Var) (its : Generator) → Disjoint vars (v ∷ []) → (vs : List Var) → AreLive vars vs → (rows out : List Env) → out ≡ flat_map (expanded v its) rows → Follows vs rows out
follows-expanded vars v its d vs h rows out e = subst (Follows vs rows) (sym e) (follows-flat vs (expanded v its) (λ r. each r (items its r)) rows)
  where
    each : (r : Env) (xs : List Value) → AllByRecursion (IsAlike vs vs r) (map (λ x. with_new (v ∷ []) (x ∷ []) r) xs)
    each r [] = tt
    each r (x ∷ xs) = (alike_new vars (v ∷ []) vs (bind (v ∷ []) (x ∷ [])) r d h, each r xs)

pub follows-nested : (vars : List Var) (inner : Plan) (passing : Bool) (sets : Sets) → Disjoint vars (live inner vars) → (vs : List Var) → AreLive vars vs → (rows out : List Env) → IsNested inner passing sets vars rows out → Follows vs rows out
follows-nested vars inner passing sets d vs h rows out zip =
    follows-zip vs (λ r row. Gives (Allows inner) passing sets vars (r ∷ []) (λ one. row ≡ beside (live inner vars) one r))
    (λ r row g. subst (λ (o : Env). IsAlike vs vs r o) (sym g.2) (alike_new vars (live inner vars) vs g.0 r d h)) rows out zip

-- ---- joins

module _ (vars vs : List Var) (h : AreLive vars vs) (c : Expr) where
  besides : (l : Env) (rs : List Env) → AllByRecursion (IsAlike vs vs l) (map (beside vars l) rs)
  besides l [] = tt
  besides l (r ∷ rs) = (alike_left vars vs l r h, besides l rs)

  matched : (rs : List Env) (l : Env) → AllByRecursion (IsAlike vs vs l) (matches vars c rs l)
  matched rs l =
      let all = map (beside vars l) rs in
      recursion_from_All (IsAlike vs vs l) (filter (holds c) all) (All-filter (holds c) (IsAlike vs vs l) all (All-from_recursion (IsAlike vs vs l) all (besides l rs)))

  alone : (P : Env → Type 0) (l : Env) (rs : List Env) → P l → AllByRecursion P rs → AllByRecursion P (or_alone l rs)
  alone P l [] own rest = (own, tt)
  alone P l (r ∷ rs) own rest = rest

  follows-joined : (outer : Bool) (rows others : List Env) → Follows vs rows (joined outer vars c rows others)
  follows-joined false rows others = follows-flat vs (matches vars c others) (matched others) rows
  follows-joined true rows others =
      follows-flat vs (λ l. or_alone (beside vars l nulls) (matches vars c others l)) (λ l. alone (IsAlike vs vs l) (beside vars l nulls) (matches vars c others l) (alike_left vars vs l nulls h) (matched others l)) rows

  -- joined rows have the values of left rows at left variables
  pub comes-joined : (outer : Bool) (rows out : List Env) → (others : List Env) × IsPermutation (joined outer vars c rows others) out → Comes vs vs rows out
  comes-joined outer rows out h =
      All-permutation (λ o. (r : Env) × Contains rows r × IsAlike vs vs r o) (joined outer vars c rows h.0) out h.1 (comes-follows vs rows (joined outer vars c rows h.0) (follows-joined outer rows h.0))

-- what holds of a part of the left input and one of the right input, of the left one alone
pub zip_left : (R : List Env → List Env → List Env → Type 0) (left right parts : List (List Env)) → length left ≡ length right
    → AllZip (λ (both : List Env × List Env) out. R both.0 both.1 out) (zip left right) parts → AllZip (λ rows out. (others : List Env) × R rows others out) left parts
zip_left R [] right [] e z = tt
zip_left R [] right (out ∷ parts) e z = absurd z
zip_left R (l ∷ left) [] parts e z = absurd (omega (arith, e))
zip_left R (l ∷ left) (r ∷ right) [] e z = absurd z
zip_left R (l ∷ left) (r ∷ right) (out ∷ parts) e z = ((r, z.0), zip_left R left right parts (omega (arith, e)) z.1)

-- ---- groups

-- the first new key of an old variable has its value
group_value : (keys : List (Var × Var)) (r : Env) (w : Var) → NoTwice (map (λ k. k.0) keys) → is_among (old_of keys) w.name ≡ true → bind (map (λ k. k.0) keys) (key_of keys r) (new_for keys w).name ≡ r w.name
group_value [] r w once e = absurd (no (sym e))
group_value (k ∷ keys) r w once e = go (is_same_var k.1 w) refl (group_value keys r w once.1)
  where
    rest : Value
    rest = bind (map (λ k. k.0) keys) (key_of keys r) (new_for keys w).name

    apart : is_among (map (λ k. k.0) keys) (new_for keys w).name ≡ true → pointwise nat_eq k.0.name (new_for keys w).name ≡ false
    apart among = by_cases (pointwise nat_eq k.0.name (new_for keys w).name) (λ t. absurd (no (sym among ∙ ap (is_among (map (λ k. k.0) keys)) (sym (same_text k.0.name (new_for keys w).name (sym t))) ∙ once.0))) (λ f. f)

    go : (b : Bool) → is_same_var k.1 w ≡ b → (is_among (old_of keys) w.name ≡ true → rest ≡ r w.name) → bind (map (λ k. k.0) (k ∷ keys)) (key_of (k ∷ keys) r) (if b then k.0 else new_for keys w).name ≡ r w.name
    go true same later =
        bind-cons k.0 (map (λ k. k.0) keys) (r k.1.name) (key_of keys r) k.0.name
        ∙ ap (λ b. if b then r k.1.name else bind (map (λ k. k.0) keys) (key_of keys r) k.0.name) (text_itself k.0.name)
        ∙ ap r (same_text k.1.name w.name (sym same))
    go false other later =
        let among : is_among (old_of keys) w.name ≡ true = ap (λ b. b || is_among (old_of keys) w.name) (sym other) ∙ e in
        bind-cons k.0 (map (λ k. k.0) keys) (r k.1.name) (key_of keys r) (new_for keys w).name
        ∙ ap (λ b. if b then r k.1.name else rest) (apart (new_among keys w among))
        ∙ later among

module _ (keys : List (Var × Var)) (once : NoTwice (new_of keys)) (inner : Plan) (passing : Bool) (sets : Sets) (vars : List Var) where
  made_values : (r one : Env) (ws : List Var) → AreLive (old_of keys) ws → IsAlike (map (new_for keys) ws) ws r (with_new (new_of keys) (key_of keys r) one)
  made_values r one [] h = refl
  made_values r one (w ∷ ws) h =
      let first = beside_own (new_of keys) (bind (new_of keys) (key_of keys r)) one (new_for keys w).name (new_among keys w h.0) ∙ group_value keys r w once h.0 in
      λ i. first i ∷ made_values r one ws h.1 i

  heads : (groups : List Group) → AllByRecursion (λ g. Contains (flat_map rows_in groups) g.0) groups
  heads [] = tt
  heads (g ∷ groups) = (
    (zero, omega arith, refl),
    recursion_from_All (λ g'. Contains (flat_map rows_in (g ∷ groups)) g'.0) groups
        (All-weaker (λ (g' : Group). Contains (flat_map rows_in groups) g'.0) (λ g'. Contains (flat_map rows_in (g ∷ groups)) g'.0) (λ g' h. Contains-append_right (rows_in g) (flat_map rows_in groups) g'.0 h) groups
        (All-from_recursion (λ (g' : Group). Contains (flat_map rows_in groups) g'.0) groups (heads groups))),
  )

  -- the row of a group has the values of its first row
  made_comes : (rows : List Env) (groups : List Group) (made : List Env) (ws : List Var) → AreLive (old_of keys) ws → IsPermutation rows (flat_map rows_in groups) → AreMade keys inner passing sets vars groups made
      → Comes (map (new_for keys) ws) ws rows made
  made_comes rows groups made ws h moved zip =
      let Q = λ (o : Env). (r : Env) × Contains rows r × IsAlike (map (new_for keys) ws) ws r o in
      All-from_recursion Q made
      (zip_all (λ (g : Group). Contains (flat_map rows_in groups) g.0) Q (λ g row. Gives (Allows inner) passing sets vars (rows_in g) (λ one. row ≡ with_new (new_of keys) (key_of keys g.0) one))
      (λ g row in' gives. (g.0, Contains-permutation (flat_map rows_in groups) rows g.0 (IsPermutation-sym rows (flat_map rows_in groups) moved) in', subst (λ (o : Env). IsAlike (map (new_for keys) ws) ws g.0 o) (sym gives.2) (made_values g.0 gives.0 ws h)))
      groups made (heads groups) zip)

  pub comes-grouped : (ws : List Var) → AreLive (old_of keys) ws → (rows out : List Env) → IsGrouped keys inner passing sets vars rows out → Comes (map (new_for keys) ws) ws rows out
  comes-grouped ws h rows out g =
      All-permutation (λ (o : Env). (r : Env) × Contains rows r × IsAlike (map (new_for keys) ws) ws r o) g.1 out g.4 (made_comes rows g.0 g.1 ws h g.2.moved g.3)

  pub comes-pre_grouped : (ws : List Var) → AreLive (old_of keys) ws → (rows out : List Env) → IsPreGrouped keys inner passing sets vars rows out → Comes (map (new_for keys) ws) ws rows out
  comes-pre_grouped ws h rows out g = made_comes rows g.0 out ws h (IsPermutation-same rows (flat_map rows_in g.0) g.1.all) g.2
