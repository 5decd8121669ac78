-- The rows of a group differ at the new keys.
use Rattle.std.proofs.Common.{◌≡◌, ◌≢◌, ◌||◌, suc, Bool, true, false, List, [], ◌∷◌, map, length, refl, ap, sym, ◌∙◌, arith}
use Rattle.std.specs.Prelude.{nat_eq, if◌then◌else◌}
use Rattle.std.specs.Cmp.Lexicographic.{pointwise, same_text}
use Rattle.std.specs.List.{AllByRecursion, AllPairs, AllZip}
use Rattle.al_value.specs.declared.value.Value.{Value}
use Rattle.al_plan.specs.declared.expr.Var.{Var}
use Rattle.al_plan.specs.declared.plan.Plan.{Plan}
use Rattle.al_plan.specs.declared.plan.Plan.TheVariants as P
use Rattle.al_plan.specs.Eval.{Bytes, Env, bind}
use Rattle.al_plan.specs.Allows.{Sets, Allows, live, Gives, Group, is_among, with_new, key_of, new_of, rows_in}
use Rattle.al_plan.specs.Refines.{NoTwice}
use Rattle.al_plan.proofs.Bools.{by_cases}
use Rattle.al_plan.proofs.EvalLaws.{bind-cons}
use Rattle.al_plan.proofs.Makes.{text_itself}
use Rattle.al_plan.proofs.Moves.{Apart, apart_from_pairs, pairs_from_apart, AllPairs-permutation}
use Rattle.al_plan.proofs.PlanLaws.{from_Group}
use Rattle.al_plan.proofs.Within.{within-bind}

choice_true : (b : Bool) (v w : Value) → b ≡ true → (if b then v else w) ≡ v
choice_true b v w e = ap (λ t. if t then v else w) e

choice_false : (b : Bool) (v w : Value) → b ≡ false → (if b then v else w) ≡ w
choice_false b v w e = ap (λ t. if t then v else w) e

neither : (a b : Bool) → (a || b) ≡ false → (a ≡ false) × (b ≡ false)
neither true b h = cc
neither false b h = (refl, h)

no : true ≡ false → ⊥
no e = cc

other_text : (xs ys : Bytes) → pointwise nat_eq ys xs ≡ false → pointwise nat_eq xs ys ≡ false
other_text xs ys h = by_cases (pointwise nat_eq xs ys) (λ t. absurd (no (sym (text_itself ys) ∙ ap (pointwise nat_eq ys) (sym (same_text xs ys (sym t))) ∙ h))) (λ f. f)

bind-rest : (x : Var) (v : Value) (xs : List Var) (vs : List Value) (ys : List Var) → is_among ys x.name ≡ false → map (λ y. bind (x ∷ xs) (v ∷ vs) y.name) ys ≡ map (λ y. bind xs vs y.name) ys
bind-rest x v xs vs [] h = refl
bind-rest x v xs vs (y ∷ ys) h =
    let both = neither (pointwise nat_eq y.name x.name) (is_among ys x.name) h in
    let here : bind (x ∷ xs) (v ∷ vs) y.name ≡ bind xs vs y.name = bind-cons x xs v vs y.name ∙ choice_false (pointwise nat_eq x.name y.name) v (bind xs vs y.name) (other_text x.name y.name both.0) in
    λ i. here i ∷ bind-rest x v xs vs ys both.1 i

-- the values of a row at its variables
bind-values : (xs : List Var) (vs : List Value) → NoTwice xs → length vs ≡ length xs → map (λ x. bind xs vs x.name) xs ≡ vs
bind-values [] [] once e = refl
bind-values [] (v ∷ vs) once e = absurd (omega (arith, e))
bind-values (x ∷ xs) [] once e = absurd (omega (arith, e))
bind-values (x ∷ xs) (v ∷ vs) once e =
    let here : bind (x ∷ xs) (v ∷ vs) x.name ≡ v = bind-cons x xs v vs x.name ∙ choice_true (pointwise nat_eq x.name x.name) v (bind xs vs x.name) (text_itself x.name) in
    let short : length vs ≡ length xs = omega (arith, e) in
    λ i. here i ∷ (bind-rest x v xs vs xs once.0 ∙ bind-values xs vs once.1 short) i

-- rows that are equal with new values have the same new values
same_new : (new : List Var) (ks ls : List Value) (r s : Env) → NoTwice new → length ks ≡ length new → length ls ≡ length new → with_new new ks r ≡ with_new new ls s → ks ≡ ls
same_new new ks ls r s once a b e = sym (bind-values new ks once a) ∙ ap (λ (f : Env). map (λ x. f x.name) new) (λ i q. at q i) ∙ bind-values new ls once b
  where
    at : (q : Bytes) → bind new ks q ≡ bind new ls q
    at q = by_cases (is_among new q)
        (λ t. sym (choice_true (is_among new q) (bind new ks q) (r q) t) ∙ ap (λ (f : Env). f q) e ∙ choice_true (is_among new q) (bind new ls q) (s q) t)
        (λ f. within-bind new ks q f ∙ sym (within-bind new ls q f))

length_mapped : {X Y : Type 0} (f : X → Y) (xs : List X) → length (map f xs) ≡ length xs
length_mapped f [] = refl
length_mapped f (x ∷ xs) = ap suc (length_mapped f xs)

key_width : (keys : List (Var × Var)) (r : Env) → length (key_of keys r) ≡ length (new_of keys)
key_width keys r = length_mapped (λ k. r k.1.name) keys ∙ sym (length_mapped (λ k. k.0) keys)

-- the row of a group is one with the group's key
abbrev HasKey : List (Var × Var) → Group → Env → Type 0
HasKey keys g row = (inner : Env) × (row ≡ with_new (new_of keys) (key_of keys g.0) inner)

differ : (keys : List (Var × Var)) → NoTwice (new_of keys) → (g h : Group) (a b : Env) → key_of keys g.0 ≢ key_of keys h.0 → HasKey keys g a → HasKey keys h b → a ≢ b
differ keys once g h a b apart (r, is_a) (s, is_b) e = apart (same_new (new_of keys) (key_of keys g.0) (key_of keys h.0) r s once (key_width keys g.0) (key_width keys h.0) (sym is_a ∙ e ∙ is_b))

module _ (keys : List (Var × Var)) (once : NoTwice (new_of keys)) (R : Group → Env → Type 0) (has : (g : Group) (row : Env) → R g row → HasKey keys g row) where
  differ_all : (g : Group) (a : Env) → R g a → (groups : List Group) (made : List Env) → AllZip R groups made → AllByRecursion (λ h. key_of keys g.0 ≢ key_of keys h.0) groups → AllByRecursion (λ b. a ≢ b) made
  differ_all g a k [] [] z h = tt
  differ_all g a k [] (b ∷ made) z h = absurd z
  differ_all g a k (x ∷ groups) [] z h = absurd z
  differ_all g a k (x ∷ groups) (b ∷ made) z h = (differ keys once g x a b h.0 (has g a k) (has x b z.0), differ_all g a k groups made z.1 h.1)

  rows_apart : (groups : List Group) (made : List Env) → AllZip R groups made → Apart (λ g h. key_of keys g.0 ≢ key_of keys h.0) groups → Apart ◌≢◌ made
  rows_apart [] [] z h = tt
  rows_apart [] (b ∷ made) z h = absurd z
  rows_apart (x ∷ groups) [] z h = absurd z
  rows_apart (x ∷ groups) (b ∷ made) z h = (differ_all x b z.0 groups made z.1 h.0, rows_apart groups made z.1 h.1)

turned : (x y : Env) → x ≢ y → y ≢ x
turned x y h e = h (sym e)

-- no row of a group stands twice
pub group_once : (keys : List (Var × Var)) (n p : Plan) → NoTwice (new_of keys) → (b : Bool) (sets : Sets) (rows : List Env) → Allows (P.Group keys n p) b sets [] [] rows → AllPairs ◌≢◌ rows
group_once keys n p once b sets rows h =
    let o = from_Group keys n p b sets [] [] rows h in
    let R : Group → Env → Type 0 = λ g row. Gives (Allows n) b sets (live p []) (rows_in g) (λ inner. row ≡ with_new (new_of keys) (key_of keys g.0) inner) in
    let made = rows_apart keys once R (λ g row k. (k.0, k.2)) o.2.0 o.2.1 o.2.3 (apart_from_pairs (λ g h. key_of keys g.0 ≢ key_of keys h.0) o.2.0 o.2.2.apart) in
    AllPairs-permutation ◌≢◌ turned o.2.1 rows o.2.4 (pairs_from_apart ◌≢◌ o.2.1 made)
