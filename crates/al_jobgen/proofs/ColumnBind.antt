-- Rows of values, bound to their variables.
use Rattle.std.proofs.Common.{◌≡◌, Bool, true, false, List, [], ◌∷◌, ◌++◌, map, length, refl, ap, sym, ◌∙◌, arith}
use Rattle.std.specs.Prelude.{nat_eq, if◌then◌else◌, ◌||◌}
use Rattle.std.specs.Cmp.Lexicographic.{pointwise, same_text}
use Rattle.al_value.specs.declared.value.Value.{Value}
use Rattle.al_value.specs.declared.value.Value.TheVariants as V
use Rattle.al_plan.specs.declared.expr.Var.{Var}
use Rattle.al_plan.specs.Eval.{Bytes, Env, bind}
use Rattle.al_plan.specs.Allows.{beside, with_new, is_among, nulls}
use Rattle.al_plan.specs.Refines.{NoTwice}
use Rattle.al_plan.proofs.EvalLaws.{bind-cons, bind-nil}
use Rattle.al_plan.proofs.Within.{within-bind}
use Rattle.al_plan.proofs.Makes.{Disjoint, text_itself}
use Rattle.al_plan.proofs.Bools.{by_cases}

beside_or : (b more : Bool) (v rest left right : Value) → rest ≡ (if more then left else right) → (if b then v else rest) ≡ (if b || more then (if b then v else left) else right)
beside_or true more v rest left right e = refl
beside_or false more v rest left right e = e

bind-append_at : (xs ys : List Var) (vs ws : List Value) (q : Bytes) → length vs ≡ length xs → bind (xs ++ ys) (vs ++ ws) q ≡ beside xs (bind xs vs) (bind ys ws) q
unfolding bind
bind-append_at [] ys [] ws q e = refl
bind-append_at [] ys (v ∷ vs) ws q e = absurd (omega arith)
bind-append_at (x ∷ xs) ys [] ws q e = absurd (omega arith)
bind-append_at (x ∷ xs) ys (v ∷ vs) ws q e =
    let short : length vs ≡ length xs = omega arith in
    beside_or (pointwise nat_eq x.name q) (is_among xs q) v _ (bind xs vs q) (bind ys ws q) (bind-append_at xs ys vs ws q short)

-- a row and another behind it
pub bind-append : (xs ys : List Var) (vs ws : List Value) → length vs ≡ length xs → bind (xs ++ ys) (vs ++ ws) ≡ beside xs (bind xs vs) (bind ys ws)
bind-append xs ys vs ws e i q = bind-append_at xs ys vs ws q e i

choice_true : (b : Bool) (v w : Value) → b ≡ true → (if b then v else w) ≡ v
choice_true b v w e = ap (λ t. if t then v else w) e

choice_false : (b : Bool) (v w : Value) → b ≡ false → (if b then v else w) ≡ w
choice_false b v w e = ap (λ t. if t then v else w) e

turned_at : (xs ys : List Var) (vs ws : List Value) (q : Bytes) → Disjoint xs ys → beside xs (bind xs vs) (bind ys ws) q ≡ beside ys (bind ys ws) (bind xs vs) q
turned_at xs ys vs ws q d =
    by_cases (is_among xs q)
    (λ t. choice_true (is_among xs q) _ _ t ∙ sym (choice_false (is_among ys q) _ _ (d q t)))
    (λ f. choice_false (is_among xs q) _ _ f ∙ by_cases (is_among ys q)
    (λ t. sym (choice_true (is_among ys q) _ _ t))
    (λ g. within-bind ys ws q g ∙ sym (within-bind xs vs q f) ∙ sym (choice_false (is_among ys q) _ _ g)))

-- new values behind a row
pub bind-after : (xs ys : List Var) (vs ws : List Value) → length vs ≡ length xs → Disjoint xs ys → bind (xs ++ ys) (vs ++ ws) ≡ with_new ys ws (bind xs vs)
bind-after xs ys vs ws e d i q = (bind-append_at xs ys vs ws q e ∙ turned_at xs ys vs ws q d) i

nulls_at : (xs ys : List Var) (q : Bytes) → bind xs (map (λ v. V.Null) ys) q ≡ V.Null
unfolding bind
nulls_at [] ys q = refl
nulls_at (x ∷ xs) [] q = refl
nulls_at (x ∷ xs) (y ∷ ys) q = by_cases (pointwise nat_eq x.name q) (λ t. choice_true (pointwise nat_eq x.name q) _ _ t) (λ f. choice_false (pointwise nat_eq x.name q) _ _ f ∙ nulls_at xs ys q)

pub bind-nulls : (xs : List Var) → bind xs (map (λ v. V.Null) xs) ≡ nulls
bind-nulls xs i q = nulls_at xs xs q i

pub bind-none : bind [] [] ≡ nulls
bind-none i q = bind-nil [] q i

-- ---- equal rows have equal values

pub bind-here : (x : Var) (xs : List Var) (v : Value) (vs : List Value) → bind (x ∷ xs) (v ∷ vs) x.name ≡ v
bind-here x xs v vs = bind-cons x xs v vs x.name ∙ choice_true (pointwise nat_eq x.name x.name) _ _ (text_itself x.name)

pub bind-else : (x : Var) (xs : List Var) (v : Value) (vs : List Value) (q : Bytes) → pointwise nat_eq x.name q ≡ false → bind (x ∷ xs) (v ∷ vs) q ≡ bind xs vs q
bind-else x xs v vs q e = bind-cons x xs v vs q ∙ choice_false (pointwise nat_eq x.name q) _ _ e

-- the tail's values are read past the head's name
bind-tail : (x : Var) (xs : List Var) (v w : Value) (vs ws : List Value) → is_among xs x.name ≡ false → bind (x ∷ xs) (v ∷ vs) ≡ bind (x ∷ xs) (w ∷ ws) → (q : Bytes) → bind xs vs q ≡ bind xs ws q
bind-tail x xs v w vs ws once e q =
    by_cases (pointwise nat_eq x.name q)
    (λ same. let here : is_among xs q ≡ false = ap (is_among xs) (sym (same_text x.name q (sym same))) ∙ once in within-bind xs vs q here ∙ sym (within-bind xs ws q here))
    (λ other. sym (bind-else x xs v vs q other) ∙ ap (λ (r : Env). r q) e ∙ bind-else x xs w ws q other)

pub bind-injective : (xs : List Var) (vs ws : List Value) → NoTwice xs → length vs ≡ length xs → length ws ≡ length xs → bind xs vs ≡ bind xs ws → vs ≡ ws
bind-injective [] [] [] once h g e = refl
bind-injective [] (v ∷ vs) ws once h g e = absurd (omega arith)
bind-injective [] [] (w ∷ ws) once h g e = absurd (omega arith)
bind-injective (x ∷ xs) [] ws once h g e = absurd (omega arith)
bind-injective (x ∷ xs) (v ∷ vs) [] once h g e = absurd (omega arith)
bind-injective (x ∷ xs) (v ∷ vs) (w ∷ ws) once h g e =
    let first : v ≡ w = sym (bind-here x xs v vs) ∙ ap (λ (r : Env). r x.name) e ∙ bind-here x xs w ws in
    let rest : vs ≡ ws = bind-injective xs vs ws once.1 (omega arith) (omega arith) (λ i q. bind-tail x xs v w vs ws once.0 e q i) in
    λ i. first i ∷ rest i
